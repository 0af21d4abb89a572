-- `build_patterns::marked` meets its contract: marks and flags by the tables are those by the layouts of types. Assumes nothing.
use mathlib.Core.Path.{refl}
use native.Mathlib.Omega.{arith}
use borrow.Author.Rules.{rules}
use Rattle.walk_cells.specs.CellsLaws.{length_lines_of}
use Rattle.build_patterns.specs.PatternedLaws.{given_of, unflagged_of, marked_of}
use Rattle.build_patterns.proofs.marked.Statement.{statement}
use Rattle.build_patterns.proofs.marked.Tie as tie

marks-requires : tie.Need-marks-requires
marks-requires c κs =
    let s = c in
    let a = s.args in
    (given_of a.a.now a.z.now a.t.now a.q.now a.u.now a.rank.now a.keep.now a.m.now s.requires.0.0.patterned s.requires.0.1, omega (arith, length_lines_of a.q.now, s.requires.0.0.patterned.tailed.few))

flags-of-requires : tie.Need-flags_of-requires
flags-of-requires c κs =
    let s = c in
    let a = s.args in
    unflagged_of a.a.now a.z.now a.t.now a.q.now a.u.now a.rank.now a.keep.now a.m.now s.requires.0.0.patterned s.requires.0.1 _ refl

emitted-requires : tie.Need-emitted-requires
emitted-requires c κs =
    let s = c in
    let a = s.args in
    let m = c.marks in
    let f = c.flags_of in
    ((s.requires.0.0, marked_of a.a.now a.z.now a.t.now a.q.now a.u.now a.rank.now a.keep.now a.m.now s.requires.0.0.patterned s.requires.0.1 _ _ m.auto.marks f.auto.flags m.ensures f.ensures), s.requires.1)

pub marked_spec : {M : Type 1} → statement M
marked_spec =
    tie.close
    (tie.spec
    (λ c. search rules)
    marks-requires
    (λ c. search rules)
    flags-of-requires
    (λ c. search rules)
    (λ c. search rules)
    emitted-requires
    (λ c. search rules)
    (λ c. search rules)
    (λ c. search rules))
