-- `reach_rows::put_fields` meets its contract: before field f, the sets of the fields from `first` up to f are in. Assumes nothing.
use mathlib.Core.Path.{◌≡◌, ap, ◌∙◌}
use Prim.Native.Nat.{◌-◌, ◌≤◌}
use native.Mathlib.Omega.{arith}
use lib.ListN.{length}
use borrow.Author.Rules.{rules}
use Rattle.table_access.specs.Tables.{lines_in}
use Rattle.reach_rows.specs.Steps.{with_fields}
use Rattle.reach_rows.specs.StepsLaws.{field_room, fields_length, fields_none, fields_more}
use Rattle.reach_rows.proofs.put_fields.Statement.{statement}
use Rattle.reach_rows.proofs.put_fields.Tie as tie

abbrev invariant-loop : tie.invariant-loop-f
invariant-loop t sets words at first end steps₀ f₀ steps f = (first ≤ f) × (f ≤ end) × (steps ≡ with_fields (lines_in t) words sets steps₀ at first (f - first))

abbrev decreases-loop : tie.decreases-loop-f
decreases-loop t sets words at first end steps₀ f₀ steps f = end - f

loop-holds : tie.Need-loop-f-init invariant-loop decreases-loop
loop-holds c = let p = c.requires in (omega arith, p.1.1.0.0, fields_none _ _ _ _ _ _)

field-number-requires : tie.Need-field_number-y-requires invariant-loop decreases-loop
field-number-requires c κs =
    let p = c.requires in
    (p.0, (omega (arith, c.loop-f-test.true, p.1.1.0.1), omega arith))

mul-unite : tie.Need-overflow_mul-y invariant-loop decreases-loop
mul-unite c =
    let p = c.requires in
    omega (arith, field_room _ p.0.passed _ _ p.1.0 _ _ (omega (arith, c.loop-f-test.true, p.1.1.0.1)) c.field_number-y.ensures)

unite-requires : tie.Need-unite-requires invariant-loop decreases-loop
unite-requires c κs =
    let p = c.requires in (
      rw (ap length c.loop-f.invariant.2 ∙ fields_length _ _ _ _ _ _ _) p.1.1.1,
      field_room _ p.0.passed _ _ p.1.0 _ _ (omega (arith, c.loop-f-test.true, p.1.1.0.1)) c.field_number-y.ensures,
    )

add-f : tie.Need-overflow_step-f invariant-loop decreases-loop
add-f c = omega (arith, c.loop-f-test.true)

loop-less : tie.Need-loop-f-smaller invariant-loop decreases-loop
loop-less c = omega (arith, c.loop-f-test.true)

loop-again : tie.Need-loop-f-preserved invariant-loop decreases-loop
loop-again c =
    let l = c.loop-f in
    let h = c.loop-f-test.true in
    (omega (arith, l.invariant.0), omega (arith, h), fields_more _ _ _ _ _ _ _ _ _ _ l.invariant.0 c.field_number-y.ensures l.invariant.2 c.unite.ensures)

same_length : tie.Need-shape_of-steps invariant-loop decreases-loop
same_length c = ap length c.loop-f.invariant.2 ∙ fields_length _ _ _ _ _ _ _

returns : tie.Need-returns invariant-loop decreases-loop
returns c =
    let l = c.loop-f in
    let e : l.f ≡ c.args.end = omega (arith, c.loop-f-test.false, l.invariant.1) in
    rw e at l.invariant.2

pub put_fields_spec : {M : Type 1} → statement M
put_fields_spec =
    tie.close
    (tie.spec
    invariant-loop
    decreases-loop
    loop-holds
    field-number-requires
    (λ c. search rules)
    mul-unite
    unite-requires
    add-f
    loop-less
    loop-again
    same_length
    returns)
