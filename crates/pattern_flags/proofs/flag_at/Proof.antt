-- `pattern_flags::flag_at` meets its contract, by the owner. Assumes nothing.
use native.Mathlib.Omega.{arith}
use borrow.Author.Rules.{rules}
use Rattle.walk_cells.specs.Cells.{lines_of}
use Rattle.walk_cells.specs.CellsLaws.{length_lines_of}
use Rattle.table_access.specs.Tables.{lines_in}
use Rattle.pattern_marks.specs.TablesLaws.{given_linked}
use Rattle.pattern_flags.specs.FlagsLaws.{flag_none, flag_some}
use Rattle.pattern_flags.proofs.flag_at.Statement.{statement}
use Rattle.pattern_flags.proofs.flag_at.Tie as tie

returns : tie.Need-returns-then-own-eq0
returns c =
    let a = c.args in
    flag_none (lines_in a.t.now) a.keep.now a.u.now a.m.now (lines_of a.q.now) a.own a.place a.i c.if-own-eq0.true

number-requires : tie.Need-number-link-requires
number-requires c κs = let a = c in (omega (arith, length_lines_of a.args.q.now, a.requires.0.2), omega arith)

number-requires-2 : tie.Need-number-f-requires
number-requires-2 c κs = let a = c in (omega (arith, length_lines_of a.args.q.now, a.requires.0.2), omega arith)

part-flag-requires : tie.Need-part_flag-requires
part-flag-requires c κs =
    let a = c in
    let z = c.if-own-eq0.false in
    let l = given_linked a.args.t.now a.args.m.now (lines_of a.args.q.now) a.requires.0.0 in
    ((a.requires.0.0, omega (arith, z, a.requires.0.1), omega (arith, c.number-link.ensures, l.previous a.args.i a.requires.0.2, a.requires.0.2)), a.requires.1)

returns-2 : tie.Need-returns
returns-2 c =
    let a = c.args in
    rw (c.part_flag.ensures, c.number-link.ensures, c.number-f.ensures)
    (flag_some (lines_in a.t.now) a.keep.now a.u.now a.m.now (lines_of a.q.now) a.own a.place a.i c.if-own-eq0.false)

pub flag_at_spec : {M : Type 1} → statement M
flag_at_spec =
    tie.close
    (tie.spec
    returns
    number-requires
    (λ c. search rules)
    number-requires-2
    (λ c. search rules)
    part-flag-requires
    returns-2)
