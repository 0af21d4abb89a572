-- `attempts::told` meets its contract, number by number.
use borrow.Author.Tests.{ne_eqb}
use Rattle.row9_faults.specs.Attempts.{outcome_of}
use Rattle.row9_faults.proofs.attempts.told.Goals as goal

pub returns-then-answer-eq-NO_ROOM : goal.returns-then-answer-eq-NO_ROOM
unfolding outcome_of
returns-then-answer-eq-NO_ROOM c = rw c.if-answer-eq-NO_ROOM.true

pub returns-then-answer-eq-NINE : goal.returns-then-answer-eq-NINE
unfolding outcome_of
returns-then-answer-eq-NINE c = rw c.if-answer-eq-NINE.true

pub returns : goal.returns
unfolding outcome_of
returns c = rw (ne_eqb _ 1 c.if-answer-eq-NO_ROOM.false, ne_eqb _ 2 c.if-answer-eq-NINE.false)
