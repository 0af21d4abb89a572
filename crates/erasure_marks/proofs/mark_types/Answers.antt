-- `erasure_marks::mark_types` meets its contract: the marks of the types passed are right.
use Rattle.std.proofs.Common.{◌≡◌, arith, rules, add-one}
use Rattle.erasure_marks.specs.MarksLaws.{byte_bit, marks_next}
use Rattle.erasure_marks.proofs.mark_types.Goals as goal

pub cty_erased-requires : goal.cty_erased-requires
cty_erased-requires c =
    let p = c.requires in
    record { tabled = p.tabled; y_bound = (omega (arith, p.end_bound.0), p.end_bound.1); marks = c.loop-y.invariant.marks }

pub loop-y-preserved : goal.loop-y-preserved
loop-y-preserved c =
    record {
      marks = rw (add-one, c.from.ensures, byte_bit c.cty_erased.result) (marks_next _ _ _ _ _ _ (omega (arith, c.requires.end_bound.0)) c.cty_erased.ensures);
      last = omega arith;
    }

pub returns : goal.returns
returns c =
    let e : c.loop-y.y ≡ c.max.result = search rules in
    (rw e at c.loop-y.invariant.marks, search rules)
