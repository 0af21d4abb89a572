-- `row9_faults::attempt` meets its contract: an attempt that found room is kept.
use Rattle.row9_faults.specs.AttemptsLaws.{slots_zero}
use Rattle.row9_faults.proofs.+attempt.Goals as goal

pub tried-requires-clause-slots : goal.tried-requires-clause-slots
tried-requires-clause-slots t c = slots_zero _ 704
