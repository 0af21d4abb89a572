-- `collapse_passes::passes` meets its contract, one declaration after the other.
use Rattle.std.proofs.Common.{◌<◌, arith}
use Rattle.table_access.specs.Tables.{decls_of, lines_in}
use Rattle.collapse_passes.specs.PassesLaws.{partly_none, partly_next, partly_all}
use Rattle.collapse_passes.proofs.passes.Goals as goal

pub loop-d-init : goal.loop-d-init
loop-d-init c = partly_none _ _ c.requires.bodies_len

pub bounds-fields-d : goal.bounds-fields-d
bounds-fields-d c = omega (arith, c.loop-d.invariant.long, c.requires.fields.long)

pub passed-requires : goal.passed-requires
passed-requires c =
    let h : c.loop-d.d < decls_of (lines_in c.args.t.now) = omega (arith, c.loop-d.invariant.long) in
    record { tabled = c.requires.tabled; d_bound = h; marked = c.requires.marked; candidate = c.requires.fields.each c.loop-d.d h }

pub loop-d-preserved : goal.loop-d-preserved
loop-d-preserved c = partly_next _ _ _ _ (omega (arith, c.loop-d.invariant.long)) c.passed.ensures c.loop-d.invariant

pub returns : goal.returns
returns c = partly_all _ _ _ (omega (arith, c.loop-d.invariant.long)) c.loop-d.invariant
