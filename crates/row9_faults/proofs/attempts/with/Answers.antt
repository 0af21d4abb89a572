-- `attempts::with` meets its contract: no slot is used at the start.
use Rattle.row9_faults.specs.AttemptsLaws.{slots_zero}
use Rattle.row9_faults.proofs.attempts.with.Goals as goal

pub tried-requires-clause-slots : goal.tried-requires-clause-slots
tried-requires-clause-slots g c = slots_zero _ g.row.SLOTS
