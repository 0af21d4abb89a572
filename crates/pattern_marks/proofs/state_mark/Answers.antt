-- `pattern_marks::state_mark` meets its contract.
use Rattle.std.proofs.Common.{arith}
use borrow.Author.Tests.{ne_eqb}
use Rattle.pattern_marks.specs.Tables.{state_mark}
use Rattle.pattern_marks.proofs.state_mark.Goals as goal

pub returns-in-0 : goal.returns-in-0
unfolding state_mark
returns-in-0 c = rw c.in-0.is

pub returns-in-1 : goal.returns-in-1
unfolding state_mark
returns-in-1 c = rw c.in-1.is

pub returns-in_default : goal.returns-in_default
unfolding state_mark
returns-in_default c = rw (ne_eqb c.args.s 0 (λ z. omega arith), ne_eqb c.args.s 1 (λ z. omega arith))
