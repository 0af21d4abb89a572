-- `pattern_records::has_field` meets its contract, from the right. Assumes nothing.
use mathlib.Core.Path.{◌≡◌, refl, sym, ◌∙◌}
use Prim.Native.Nat.{◌-◌, ◌≤◌}
use native.Mathlib.Omega.{arith}
use lib.ListN.{length}
use borrow.Author.Rules.{rules}
use Rattle.walk_cells.specs.Cells.{lines_of}
use Rattle.walk_cells.specs.CellsLaws.{length_lines_of}
use Rattle.pattern_laws.specs.Marks.{has_field, fields_to}
use Rattle.pattern_records.specs.RecordsLaws.{field_none, field_hit, field_miss}
use Rattle.pattern_records.proofs.has_field.Statement.{statement}
use Rattle.pattern_records.proofs.has_field.Tie as tie

abbrev invariant-loop : tie.invariant-loop-k
invariant-loop q link f k₀ k = (k ≤ length (lines_of q)) × (has_field f (fields_to (lines_of q) link) ≡ has_field f (fields_to (lines_of q) k))

abbrev decreases-loop : tie.decreases-loop-k
decreases-loop q link f k₀ k = k

loop-holds : tie.Need-loop-k-init invariant-loop decreases-loop
loop-holds c = (c.requires.1, refl)

number-requires : tie.Need-number-requires invariant-loop decreases-loop
number-requires c κs = let a = c.args in (omega (arith, c.loop-k.invariant.0, length_lines_of a.q.now, c.loop-k-test.true), omega arith)

returns : tie.Need-returns-then-number-f invariant-loop decreases-loop
returns c =
    let a = c in
    let l = c.loop-k in
    sym (l.invariant.1 ∙ field_hit (lines_of a.args.q.now) a.requires.0 a.args.f l.k c.loop-k-test.true l.invariant.0 (sym c.number.ensures ∙ c.if-number-f.true))

number-requires-2 : tie.Need-number-k-requires invariant-loop decreases-loop
number-requires-2 c κs =
    let a = c.args in
    (omega (arith, c.loop-k.invariant.0, length_lines_of a.q.now, c.loop-k-test.true), omega arith)

loop-less : tie.Need-loop-k-smaller invariant-loop decreases-loop
loop-less c =
    let a = c in
    let l = c.loop-k in
    let z = c.loop-k-test.true in
    omega (arith, z, c.number-k.ensures, l.invariant.0, a.requires.0.previous (l.k - 1) (omega (arith, z, l.invariant.0)))

loop-again : tie.Need-loop-k-preserved invariant-loop decreases-loop
loop-again c =
    let a = c in
    let l = c.loop-k in
    let z = c.loop-k-test.true in
    let n = c.number.ensures in
    (omega (arith, z, c.number-k.ensures, l.invariant.0, a.requires.0.previous (l.k - 1) (omega (arith, z, l.invariant.0))), rw c.number-k.ensures (l.invariant.1 ∙ field_miss (lines_of a.args.q.now) a.requires.0 a.args.f l.k z l.invariant.0 (λ e. c.if-number-f.false (n ∙ e))))

returns-2 : tie.Need-returns invariant-loop decreases-loop
returns-2 c =
    let a = c in
    let l = c.loop-k in
    sym (l.invariant.1 ∙ rw c.loop-k-test.false (field_none (lines_of a.args.q.now) a.requires.0 a.args.f))

pub has_field_spec : {M : Type 1} → statement M
has_field_spec =
    tie.close
    (tie.spec
    invariant-loop
    decreases-loop
    loop-holds
    (λ c. search rules)
    number-requires
    returns
    (λ c. search rules)
    number-requires-2
    (λ c. search rules)
    loop-less
    loop-again
    returns-2)
