-- `collapse_newtypes::next_kept` meets its contract, field after field.
use Rattle.std.proofs.Common.{◌≡◌, ◌∙◌, arith}
use Rattle.collapse_newtypes.specs.NewtypesLaws.{places_passed}
use Rattle.collapse_newtypes.proofs.next_kept.Goals as goal

pub returns-then-keep-f-eq1 : goal.returns-then-keep-f-eq1
returns-then-keep-f-eq1 c = record { low = omega arith; high = omega arith; passed = c.loop-f.invariant; stops = λ _. c.if-keep-f-eq1.true }

pub loop-f-preserved : goal.loop-f-preserved
loop-f-preserved c = c.loop-f.invariant ∙ places_passed c.args.keep.now c.loop-f.f c.args.end (omega arith) c.if-keep-f-eq1.false

pub returns : goal.returns
returns c =
    let e : c.loop-f.f ≡ c.args.end = omega (arith, c.requires) in
    record { low = omega (arith, c.requires); high = omega arith; passed = rw e at c.loop-f.invariant; stops = λ h. absurd (omega arith) }
