-- `resolve_memory::remembering::remember` meets its contract: the cells of one slot are the call's, all others as they were. Assumes nothing.
use Prim.Native.Nat.{◌*◌}
use native.Mathlib.Omega.{arith}
use lib.ListN.{length-set}
use Rattle.resolve_outcomes.specs.Scratch.{part}
use Rattle.resolve_memory.specs.SlotsLaws.{put_written, put_all, written_same}
use Rattle.resolve_memory.proofs.remembering.remember.Statement.{statement}
use Rattle.resolve_memory.proofs.remembering.remember.Tie as tie

returns : tie.Need-returns-then-r-lt2
returns c = written_same _ _ _ _

returns-2 : tie.Need-returns-then-count-gt-ARGS
returns-2 c = written_same _ _ _ _

returns-3 : tie.Need-returns-then-all-eq0
returns-3 c = written_same _ _ _ _

spot-requires : tie.Need-spot-base-requires
spot-requires c κs = (c.requires.0, c.requires.1, omega (arith, c.if-all-eq0.false))

mul-base : tie.Need-overflow_mul-base
mul-base c = omega (arith, c.spot-base.ensures)

add-fill : tie.Need-overflow_add-base
add-fill c = omega (arith, c.spot-base.ensures)

fill-requires : tie.Need-fill-requires
fill-requires c κs = (omega (arith, c.spot-base.ensures, c.if-count-gt-ARGS.false), c.requires.1)

add-slots : tie.Need-overflow_add-slots
add-slots c = omega (arith, c.requires.0)

cast-slots : tie.Need-overflow_cast-slots
cast-slots c = omega (arith, c.requires.0)

mul-slots : tie.Need-offset_bounds-slots-base
mul-slots c = omega (arith, c.spot-base.ensures)

slice-write-slots : tie.Need-bounds-slots-base
slice-write-slots c = omega (arith, c.spot-base.ensures, c.fill.ensures.long)

cast-slots-2 : tie.Need-overflow_cast-slots-2
cast-slots-2 c = omega (arith, c.if-count-gt-ARGS.false)

add-slots-2 : tie.Need-overflow_add-slots-2
add-slots-2 c = omega (arith, c.spot-base.ensures)

mul-slots-2 : tie.Need-offset_bounds-slots-base-2
mul-slots-2 c = omega (arith, c.spot-base.ensures)

slice-write-slots-2 : tie.Need-bounds-slots-base-2
slice-write-slots-2 c = simp length-set (omega (arith, c.spot-base.ensures, c.fill.ensures.long))

cast-slots-3 : tie.Need-overflow_cast-slots-3
cast-slots-3 c = omega (arith, c.requires.2)

add-slots-3 : tie.Need-overflow_add-slots-3
add-slots-3 c = omega (arith, c.spot-base.ensures)

mul-slots-3 : tie.Need-offset_bounds-slots-base-3
mul-slots-3 c = omega (arith, c.spot-base.ensures)

slice-write-slots-3 : tie.Need-bounds-slots-base-3
slice-write-slots-3 c = simp length-set (omega (arith, c.spot-base.ensures, c.fill.ensures.long))

same_length : tie.Need-shape_of-slots
same_length c = simp length-set c.fill.ensures.long

returns-4 : tie.Need-returns
returns-4 c =
    let a = c.args in
    put_written c.spot-base.result a.n (part a.at a.count a.out.now) a.r a.slots.now _ (omega (arith, c.if-r-lt2.false)) (omega (arith, c.spot-base.ensures))
    (put_all (11 * c.spot-base.result) a.n a.r a.count (part a.at a.count a.out.now) a.slots.now _ (omega (arith, c.spot-base.ensures)) c.if-count-gt-ARGS.false c.fill.ensures)

pub remember_spec : {M : Type 1} → statement M
remember_spec =
    tie.close
    (tie.spec
    returns
    returns-2
    returns-3
    spot-requires
    mul-base
    add-fill
    fill-requires
    add-slots
    cast-slots
    mul-slots
    slice-write-slots
    cast-slots-2
    add-slots-2
    mul-slots-2
    slice-write-slots-2
    cast-slots-3
    add-slots-3
    mul-slots-3
    slice-write-slots-3
    same_length
    returns-4)
