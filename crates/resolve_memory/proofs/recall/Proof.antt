-- `resolve_memory::recall` meets its contract: what it finds is in the slot that it looked in. Assumes nothing.
use mathlib.Core.Path.{refl}
use Prim.Native.Nat.{◌+◌, ◌*◌}
use native.Mathlib.Omega.{arith}
use Rattle.resolve_outcomes.specs.Scratch.{part}
use Rattle.resolve_memory.specs.SlotsLaws.{holds_at}
use Rattle.resolve_memory.proofs.recall.Statement.{statement}
use Rattle.resolve_memory.proofs.recall.Tie as tie

returns : tie.Need-returns-then-count-gt-ARGS
returns c = λ z. absurd (z refl)

returns-2 : tie.Need-returns-then-all-eq0
returns-2 c = λ z. absurd (z refl)

spot-requires : tie.Need-spot-base-requires
spot-requires c κs = (c.requires.0, c.requires.1, omega (arith, c.if-all-eq0.false))

mul-base : tie.Need-overflow_mul-base
mul-base c = omega (arith, c.spot-base.ensures)

mul-if3 : tie.Need-offset_bounds-slots-base
mul-if3 c = omega (arith, c.spot-base.ensures)

shared-slice-read-if3 : tie.Need-bounds-slots-base
shared-slice-read-if3 c = omega (arith, c.spot-base.ensures)

cast-if3 : tie.Need-overflow_cast-slots
cast-if3 c = omega (arith, c.shared_slice_known-3-1.given (11 * c.spot-base.result))

add-if3 : tie.Need-overflow_add-n
add-if3 c = omega (arith, c.requires.0)

returns-3 : tie.Need-returns-then-slots-base
returns-3 c = λ z. absurd (z refl)

add-if4 : tie.Need-overflow_add-base
add-if4 c = omega (arith, c.spot-base.ensures)

mul-if4 : tie.Need-offset_bounds-slots-base-2
mul-if4 c = omega (arith, c.spot-base.ensures)

shared-slice-read-if4 : tie.Need-bounds-slots-base-2
shared-slice-read-if4 c = omega (arith, c.spot-base.ensures)

cast-if4 : tie.Need-overflow_cast-slots-2
cast-if4 c = omega (arith, c.shared_slice_known-4-1.given (11 * c.spot-base.result + 1))

returns-4 : tie.Need-returns-then-slots-base-2
returns-4 c = λ z. absurd (z refl)

add_same : tie.Need-overflow_add-base-2
add_same c = omega (arith, c.spot-base.ensures)

same-requires : tie.Need-same-requires
same-requires c κs = (omega (arith, c.spot-base.ensures, c.if-count-gt-ARGS.false), c.requires.1)

add-result : tie.Need-overflow_add-result
add-result c = omega (arith, c.spot-base.ensures)

mul-result : tie.Need-offset_bounds-slots-base-then-same
mul-result c = omega (arith, c.spot-base.ensures)

shared-slice-read-result : tie.Need-bounds-slots-base-then-same
shared-slice-read-result c = omega (arith, c.spot-base.ensures)

cast-result : tie.Need-overflow_cast-result
cast-result c = omega (arith, c.shared_slice_known-then-same-1.given (11 * c.spot-base.result + 10))

returns-5 : tie.Need-returns-then-same
returns-5 c =
    let a = c.args in
    λ z. holds_at c.spot-base.result a.n a.count _ (part a.at a.count a.out.now) a.slots.now (omega (arith, c.spot-base.ensures)) c.if-slots-base.false c.if-slots-base-2.false c.if-count-gt-ARGS.false (c.same.ensures c.if-same.true) refl

returns-6 : tie.Need-returns
returns-6 c = λ z. absurd (z refl)

pub recall_spec : {M : Type 1} → statement M
recall_spec =
    tie.close
    (tie.spec
    returns
    returns-2
    spot-requires
    mul-base
    mul-if3
    shared-slice-read-if3
    cast-if3
    add-if3
    returns-3
    add-if4
    mul-if4
    shared-slice-read-if4
    cast-if4
    returns-4
    add_same
    same-requires
    add-result
    mul-result
    shared-slice-read-result
    cast-result
    returns-5
    returns-6)
