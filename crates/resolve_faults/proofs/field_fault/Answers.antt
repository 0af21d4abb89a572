-- `resolve_faults::field_fault` meets its contract: what it answers for the fields that are left, it answers for all.
use Rattle.std.proofs.Common.{length, arith}
use Rattle.table_access.specs.Tables.{lines_in}
use Rattle.resolve_faults.specs.FaultsLaws.{rest_all, rest_skip, rest_stops, rest_next, rest_none, field_place}
use Rattle.resolve_faults.proofs.field_fault.Goals as goal
use Rattle.resolve_faults.proofs.field_fault.Goals.{else-keep-f-eq1, then-keep-f-eq1+else-r-lt-VALUE}

pub loop-f-init : goal.loop-f-init
loop-f-init c = (rest_all _ _ _ _ _ _ _, c.requires.slots)

pub bounds-keep-f : goal.bounds-keep-f
bounds-keep-f c = omega (arith, c.requires.kept.0.fields, c.requires.kept.2)

pub field_number-y-requires : goal.field_number-y-requires
field_number-y-requires c = record { tabled = c.requires.kept.0.setup.tabled; f_bound = (omega (arith, c.requires.kept.2), omega arith) }

pub resolved-r-requires : goal.resolved-r-requires
resolved-r-requires c =
    record {
      place = field_place _ _ _ c.args.keep.now c.requires.kept.0 c.args.d c.requires.kept.1 c.loop-f.f _ (omega (arith, c.requires.kept.2)) c.field_number-y.ensures;
      slots = c.loop-f.invariant.1;
    }

pub returns-then-r-lt-VALUE : goal.returns-then-r-lt-VALUE
returns-then-r-lt-VALUE c =
    rest_stops (lines_in c.args.t.now) c.args.u.now c.args.keep.now c.args.d (length c.args.out.now) c.args.from c.loop-f.f c.args.end c.loop-f-test.true c.loop-f.invariant.0 _ c.field_number-y.ensures c.loop-f.out _ _ _ c.resolved-r.ensures c.if-keep-f-eq1.true c.loop-f.auto.out c.if-r-lt-VALUE.true

pub loop-f-preserved : goal.loop-f-preserved
loop-f-preserved c =
    elim c.if-keep-f-eq1.branch [
      | then-keep-f-eq1+else-r-lt-VALUE w ↦ (
        rest_next (lines_in c.args.t.now) c.args.u.now c.args.keep.now c.args.d (length c.args.out.now) c.args.from c.loop-f.f c.args.end c.loop-f-test.true c.loop-f.invariant.0 _ w.field_number-y.ensures c.loop-f.out _ _ _ w.resolved-r.ensures w.if-keep-f-eq1.true w.if-r-lt-VALUE.false,
        rw w.slots-is w.resolved-r.ensures.slots,
      )
      | else-keep-f-eq1 w ↦ (
        rest_skip (lines_in c.args.t.now) c.args.u.now c.args.keep.now c.args.d (length c.args.out.now) c.args.from c.loop-f.f c.args.end c.loop-f-test.true c.loop-f.invariant.0 w.if-keep-f-eq1.false,
        rw w.slots-is c.loop-f.invariant.1,
      )
    ]

pub returns : goal.returns
returns c = rest_none _ _ _ _ _ _ c.loop-f.f _ _ (omega arith) c.loop-f.invariant.0 c.loop-f.invariant.1
