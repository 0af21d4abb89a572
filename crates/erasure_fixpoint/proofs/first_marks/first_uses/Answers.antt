-- `first_marks::first_uses` meets its contract, from the last type down.
use Rattle.std.proofs.Common.{◌≡◌, ◌-◌, suc, arith}
use Rattle.table_declared.specs.PassedLaws.{types_few}
use Rattle.erasure_laws.specs.FixpointLaws.{used_none, used_next, used_all}
use Rattle.table_access.specs.Tables.{lines_in}
use Rattle.erasure_fixpoint.proofs.first_marks.first_uses.Goals as goal

pub loop-y-init : goal.loop-y-init
loop-y-init c = used_none _ _ _ c.requires.used_len (omega (arith, c.types-y.ensures))

pub put_use-requires : goal.put_use-requires
put_use-requires c = omega (arith, c.types-y.ensures, types_few _ c.requires.tabled.passed)

pub loop-y-preserved : goal.loop-y-preserved
loop-y-preserved c =
    let l = c.loop-y in
    let e : suc (l.y - 1) ≡ l.y = omega arith in
    rw (c.put_use.ensures, c.named.ensures) (used_next (lines_in c.args.t.now) l.used (l.y - 1) (rw e l.invariant))

pub returns : goal.returns
returns c =
    let z : c.loop-y.y ≡ 0 = omega arith in
    used_all _ _ (rw z at c.loop-y.invariant)
