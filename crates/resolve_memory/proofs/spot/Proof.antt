-- `resolve_memory::spot` meets its contract: what is taken of a number modulo the count is below it. Assumes nothing.
use Prim.Native.Nat.{◌+◌, ◌-◌, ◌≤◌, ◌<◌}
use native.Mathlib.Omega.{arith}
use native.Mathlib.Nat.{mod-lt}
use Rattle.resolve_memory.proofs.spot.Statement.{statement}
use Rattle.resolve_memory.proofs.spot.Tie as tie

abbrev invariant-loop : tie.invariant-loop-i
invariant-loop n out at count slots h₀ i₀ h i = (i ≤ count) × (h < 65536)

abbrev decreases-loop : tie.decreases-loop-i
decreases-loop n out at count slots h₀ i₀ h i = count - i

loop-holds : tie.Need-loop-i-init invariant-loop decreases-loop
loop-holds c = (omega arith, omega arith)

mul-h : tie.Need-overflow_mul-h invariant-loop decreases-loop
mul-h c = omega arith

add-h : tie.Need-overflow_add-h invariant-loop decreases-loop
add-h c = omega (arith, c.loop-i-test.true)

mul-h-2 : tie.Need-offset_bounds-out-at invariant-loop decreases-loop
mul-h-2 c = omega (arith, c.loop-i-test.true)

shared-slice-read-h : tie.Need-bounds-out-at invariant-loop decreases-loop
shared-slice-read-h c = omega (arith, c.loop-i-test.true)

cast-h : tie.Need-overflow_cast-h invariant-loop decreases-loop
cast-h c = omega (arith, c.shared_slice_known-1.given (c.args.at + c.loop-i.i))

mul-h-3 : tie.Need-overflow_mul-h-in-loop-i invariant-loop decreases-loop
mul-h-3 c = omega (arith, c.shared_slice_known-1.given (c.args.at + c.loop-i.i))

add-h-2 : tie.Need-overflow_add-h-in-loop-i invariant-loop decreases-loop
add-h-2 c = omega (arith, c.shared_slice_known-1.given (c.args.at + c.loop-i.i))

add-i : tie.Need-overflow_step-i invariant-loop decreases-loop
add-i c = omega (arith, c.loop-i-test.true)

loop-less : tie.Need-loop-i-smaller invariant-loop decreases-loop
loop-less c = omega (arith, c.loop-i-test.true)

loop-again : tie.Need-loop-i-preserved invariant-loop decreases-loop
loop-again c = (omega (arith, c.loop-i-test.true), omega arith)

mul-result : tie.Need-overflow_mul-result invariant-loop decreases-loop
mul-result c = omega arith

rem-result : tie.Need-nonzero_rem-result invariant-loop decreases-loop
rem-result c = omega arith

returns : tie.Need-returns invariant-loop decreases-loop
returns c = mod-lt _ c.requires.2

pub spot_spec : {M : Type 1} → statement M
spot_spec =
    tie.close
    (tie.spec
    invariant-loop
    decreases-loop
    loop-holds
    mul-h
    add-h
    mul-h-2
    shared-slice-read-h
    cast-h
    mul-h-3
    add-h-2
    add-i
    loop-less
    loop-again
    mul-result
    rem-result
    returns)
