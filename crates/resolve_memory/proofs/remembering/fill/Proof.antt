-- `resolve_memory::remembering::fill` meets its contract: the loop has copied the outcomes that it passed. Assumes nothing.
use mathlib.Core.Path.{◌≡◌, refl, sym, ◌∙◌, subst}
use Prim.Native.Nat.{◌+◌, ◌-◌, ◌≤◌}
use native.Mathlib.Omega.{arith}
use lib.ListN.{length}
use Rattle.resolve_outcomes.specs.Scratch.{part}
use Rattle.resolve_memory.specs.Slots.{Filled}
use Rattle.resolve_memory.specs.SlotsLaws.{filled_none, filled_more}
use Rattle.resolve_memory.proofs.remembering.fill.Statement.{statement}
use Rattle.resolve_memory.proofs.remembering.fill.Tie as tie

abbrev invariant-loop : tie.invariant-loop-i
invariant-loop slots₀ base out at count i₀ slots i = (i ≤ count) × Filled base i (part at i out) slots₀ slots

abbrev decreases-loop : tie.decreases-loop-i
decreases-loop slots₀ base out at count i₀ slots i = count - i

loop-holds : tie.Need-loop-i-init invariant-loop decreases-loop
loop-holds c = (omega arith, filled_none _ _ _ _)

add-slots : tie.Need-overflow_add-slots invariant-loop decreases-loop
add-slots c = omega (arith, c.loop-i-test.true)

mul-slots : tie.Need-offset_bounds-out-at invariant-loop decreases-loop
mul-slots c = omega (arith, c.loop-i-test.true)

shared-slice-read-slots : tie.Need-bounds-out-at invariant-loop decreases-loop
shared-slice-read-slots c = omega (arith, c.loop-i-test.true)

add-slots-2 : tie.Need-overflow_add-slots-in-loop-i invariant-loop decreases-loop
add-slots-2 c = omega (arith, c.loop-i-test.true)

mul-slots-2 : tie.Need-offset_bounds-slots-base invariant-loop decreases-loop
mul-slots-2 c = omega (arith, c.loop-i-test.true)

slice-write-slots : tie.Need-bounds-slots-base invariant-loop decreases-loop
slice-write-slots c = omega (arith, c.loop-i-test.true, c.loop-i.invariant.1.long)

add-i : tie.Need-overflow_step-i invariant-loop decreases-loop
add-i c = omega (arith, c.loop-i-test.true)

loop-less : tie.Need-loop-i-smaller invariant-loop decreases-loop
loop-less c = omega (arith, c.loop-i-test.true)

loop-again : tie.Need-loop-i-preserved invariant-loop decreases-loop
loop-again c = (omega (arith, c.loop-i-test.true), filled_more _ _ _ _ _ _ (omega (arith, c.loop-i-test.true)) (omega (arith, c.loop-i-test.true)) c.loop-i.invariant.1)

same_length : tie.Need-shape_of-slots invariant-loop decreases-loop
same_length c = c.loop-i.invariant.1.long

returns : tie.Need-returns invariant-loop decreases-loop
returns c =
    let a = c.args in
    subst (λ m. Filled a.base m (part a.at m a.out.now) a.slots.now c.loop-i.slots) (omega (arith, c.loop-i.invariant.0, c.loop-i-test.false)) c.loop-i.invariant.1

pub fill_spec : {M : Type 1} → statement M
fill_spec =
    tie.close
    (tie.spec
    invariant-loop
    decreases-loop
    loop-holds
    add-slots
    mul-slots
    shared-slice-read-slots
    add-slots-2
    mul-slots-2
    slice-write-slots
    add-i
    loop-less
    loop-again
    same_length
    returns)
