-- `verdict_lines::good_verdict` meets its contract, by the layout. Assumes nothing.
use Rattle.std.proofs.Common.{ne_eqb, arith}
use borrow.Author.Tests.{le-leb, lt-leb}
use Rattle.meaning.specs.Rows.{good_verdict}
use Rattle.row7_verdicts.proofs.verdict_lines.good_verdict.Goals as goal

pub returns-then-as_record-gt1 : goal.returns-then-as_record-gt1
unfolding good_verdict
returns-then-as_record-gt1 c = rw (← c.number-as_record.ensures, lt-leb _ _ c.if-as_record-gt1.true)

pub returns-in-0 : goal.returns-in-0
unfolding good_verdict
returns-in-0 c =
    rw (← c.number-as_record.ensures, le-leb _ _ c.if-as_record-gt1.false, ← c.number-layout.ensures, c.in-0.is, ← c.number-erased.ensures)

pub returns-in_default : goal.returns-in_default
unfolding good_verdict
returns-in_default c =
    rw (c.good_layout.ensures, ← c.number-as_record.ensures, le-leb _ _ c.if-as_record-gt1.false, ← c.number-layout.ensures, ne_eqb c.number-layout.result 0 (λ e. omega arith), ← c.number-erased.ensures, c.number-last.ensures, c.number-kind.ensures)
