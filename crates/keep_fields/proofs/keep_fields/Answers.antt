-- `keep_fields::keep_fields` meets its contract, declaration after declaration.
use Rattle.std.proofs.Common.{◌≡◌, arith, add-one}
use Rattle.table_access.specs.Tables.{decls_of, lines_in}
use Rattle.keep_fields.specs.KeepsLaws.{kept_none, kept_slotted}
use Rattle.keep_fields.proofs.keep_fields.Goals as goal

pub loop-d-init : goal.loop-d-init
loop-d-init c = kept_none _ _ c.requires.erased.1

pub put_fields-requires : goal.put_fields-requires
put_fields-requires c =
    record { tabled = c.requires.tabled; d_bound = (omega (arith, c.decls-n.ensures), c.requires.erased.0); kept = c.loop-d.invariant }

pub loop-d-preserved : goal.loop-d-preserved
loop-d-preserved c = rw add-one c.put_fields.ensures

pub returns : goal.returns
returns c =
    let e : c.loop-d.d ≡ decls_of (lines_in c.args.t.now) = omega (arith, c.decls-n.ensures) in
    kept_slotted _ c.requires.tabled.passed _ (rw e at c.loop-d.invariant)
