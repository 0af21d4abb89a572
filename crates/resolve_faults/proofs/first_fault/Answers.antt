-- `resolve_faults::first_fault` meets its contract: all declarations that the loop passed resolve.
use Rattle.std.proofs.Common.{length, arith}
use Rattle.table_access.specs.Tables.{lines_in}
use Rattle.resolve_faults.specs.FaultsLaws.{fine_none, fine_more, first_stops, first_clear}
use Rattle.resolve_faults.proofs.first_fault.Goals as goal

pub decls-n-requires : goal.decls-n-requires
decls-n-requires c = c.requires.kept.setup.tabled

pub loop-d-init : goal.loop-d-init
loop-d-init c = (fine_none (lines_in c.args.t.now) c.args.u.now c.args.keep.now, c.requires.slots)

pub decl_fault-answer-requires : goal.decl_fault-answer-requires
decl_fault-answer-requires c = record { kept = (c.requires.kept, omega (arith, c.decls-n.ensures)); slots = c.loop-d.invariant.1 }

pub returns-then-stops : goal.returns-then-stops
returns-then-stops c =
    first_stops (lines_in c.args.t.now) c.args.u.now c.args.keep.now (length c.loop-d.out) (length c.args.out.now) c.loop-d.d _ _ c.loop-d.auto.out c.loop-d.invariant.0 (omega (arith, c.decls-n.ensures)) c.decl_fault-answer.ensures c.if-stops.true

pub loop-d-preserved : goal.loop-d-preserved
loop-d-preserved c =
    (fine_more (lines_in c.args.t.now) c.args.u.now c.args.keep.now c.loop-d.d (length c.loop-d.out) _ _ c.loop-d.invariant.0 c.decl_fault-answer.ensures c.if-stops.false, c.decl_fault-answer.ensures.slots_right)

pub returns : goal.returns
returns c = first_clear (lines_in c.args.t.now) c.args.u.now c.args.keep.now (length c.args.out.now) c.loop-d.d _ c.decls-n.ensures (omega arith) c.loop-d.invariant.0
