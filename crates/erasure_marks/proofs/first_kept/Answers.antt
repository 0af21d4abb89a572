-- `erasure_marks::first_kept` meets its contract: the members passed are marked.
use Rattle.std.proofs.Common.{◌≡◌, arith}
use Rattle.table_declared.specs.PassedLaws.{args_few}
use Rattle.erasure_marks.specs.MarksLaws.{before_next}
use Rattle.erasure_marks.proofs.first_kept.Goals as goal

pub overflow_add-first : goal.overflow_add-first
overflow_add-first c = omega (arith, (c.requires.listed.0 c.loop-j.j c.loop-j-test.true).0, args_few _ c.requires.tabled.passed)

pub arg-y-requires : goal.arg-y-requires
arg-y-requires c = record { tabled = c.requires.tabled; i_bound = (c.requires.listed.0 c.loop-j.j c.loop-j-test.true).0 }

pub bounds-node-y : goal.bounds-node-y
bounds-node-y c = rw c.arg-y.ensures (c.requires.listed.0 c.loop-j.j c.loop-j-test.true).1

pub returns-then-node-y-eq0 : goal.returns-then-node-y-eq0
returns-then-node-y-eq0 c =
    record { within = omega (arith, c.requires.listed.1); passed = c.loop-j.invariant; stops = λ _. rw (← c.arg-y.ensures) c.if-node-y-eq0.true }

pub loop-j-preserved : goal.loop-j-preserved
loop-j-preserved c f = before_next _ _ _ _ (c.loop-j.invariant f) (rw (← c.arg-y.ensures) c.if-node-y-eq0.false)

pub returns : goal.returns
returns c =
    let e : c.loop-j.j ≡ c.args.count = omega (arith, c.requires.listed.1) in
    record { within = omega arith; passed = rw e at c.loop-j.invariant; stops = λ h. absurd (omega arith) }
