-- `build_patterns::flags_by` meets its contract. Assumes nothing.
use mathlib.Core.Path.{◌∙◌}
use borrow.Author.Rules.{rules}
use Rattle.walk_cells.specs.Cells.{lines_of}
use Rattle.table_access.specs.Tables.{lines_in}
use Rattle.pattern_marks.specs.TablesLaws.{given_linked}
use Rattle.pattern_flags.specs.MarkedLaws.{owners_ready}
use Rattle.build_patterns.specs.PatternedLaws.{flagged_of}
use Rattle.build_patterns.proofs.flags_by.Statement.{statement}
use Rattle.build_patterns.proofs.flags_by.Tie as tie

owners-requires : tie.Need-owners-requires
owners-requires c κs =
    let s = c in
    ((given_linked s.args.t.now s.args.m.now (lines_of s.args.q.now) s.requires.0.given, s.requires.0.few), s.requires.1.0)

places-requires : tie.Need-places-requires
places-requires c κs =
    let s = c in
    ((given_linked s.args.t.now s.args.m.now (lines_of s.args.q.now) s.requires.0.given, s.requires.0.few), s.requires.1.1)

flags-requires : tie.Need-flags-requires
flags-requires c κs =
    let s = c in
    let p = c.places in
    ((s.requires.0.given, owners_ready (lines_of s.args.q.now) _ _ c.owners.ensures (p.auto.place ∙ s.requires.1.1)), (s.requires.0.keeps, s.requires.0.room))

returns : tie.Need-returns
returns c =
    let a = c.args in
    let p = c.places in
    flagged_of (lines_in a.t.now) a.keep.now a.u.now a.m.now (lines_of a.q.now) _ p.new.place _ c.owners.ensures p.ensures c.flags.ensures

pub flags_by_spec : {M : Type 1} → statement M
flags_by_spec =
    tie.close
    (tie.spec
    owners-requires
    places-requires
    flags-requires
    (λ c. search rules)
    (λ c. search rules)
    (λ c. search rules)
    returns)
