-- `erasure_fields::first_kept` meets its contract: the fields passed are erased.
use Rattle.std.proofs.Common.{◌≡◌, arith}
use Rattle.erasure_laws.specs.BodiesLaws.{passed_next, mark_kept, mark_erased}
use Rattle.erasure_fields.proofs.first_kept.Goals as goal

pub field_number-y-requires : goal.field_number-y-requires
field_number-y-requires c = record { tabled = c.requires.tabled; f_bound = (omega (arith, c.requires.from_le_end.1.fields), omega arith) }

pub mark_types-low-requires : goal.mark_types-low-requires
mark_types-low-requires c =
    let p = c.requires in
    record {
      tabled = p.tabled;
      end_bound = (omega (arith, c.field_number-y.ensures, p.from_le_end.1.types c.loop-f.f c.loop-f-test.true), p.decl_len);
      marks = c.loop-f.invariant.marks;
    }

pub bounds-node-y : goal.bounds-node-y
bounds-node-y c = omega (arith, c.field_number-y.ensures, c.mark_types-low.ensures.0.node_size, c.requires.from_le_end.1.types c.loop-f.f c.loop-f-test.true)

pub returns-then-node-y-eq0 : goal.returns-then-node-y-eq0
returns-then-node-y-eq0 c =
    let m = c.mark_types-low in
    let e = c.field_number-y.ensures in
    record {
      marks = m.ensures.0;
      low = omega (arith, c.requires.from_le_end.0);
      within = omega (arith, c.requires.from_le_end.0);
      passed = c.loop-f.invariant.passed;
      stops = λ _. mark_kept _ _ _ _ _ _ m.ensures.0 (omega (arith, e, m.ensures.1)) (rw (← e) c.if-node-y-eq0.true);
    }

pub loop-f-preserved : goal.loop-f-preserved
loop-f-preserved c =
    let m = c.mark_types-low in
    let e = c.field_number-y.ensures in
    record {
      marks = m.ensures.0;
      passed = passed_next _ _ _ _ c.loop-f.invariant.passed (mark_erased _ _ _ _ _ _ m.ensures.0 (omega (arith, e, m.ensures.1)) (rw (← e) c.if-node-y-eq0.false));
    }

pub returns : goal.returns
returns c =
    let e : c.loop-f.f ≡ c.args.end = omega (arith, c.requires.from_le_end.0) in
    record {
      marks = c.loop-f.invariant.marks;
      low = c.requires.from_le_end.0;
      within = omega arith;
      passed = rw e at c.loop-f.invariant.passed;
      stops = λ h. absurd (omega arith);
    }
