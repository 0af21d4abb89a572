-- `attempts::tried` meets its contract by what the search finds.
use Rattle.std.proofs.Common.{length}
use Rattle.row9_faults.specs.AttemptsLaws.{attempted, comes_clear, asked_kept}
use Rattle.row9_faults.proofs.attempts.tried.Goals as goal

pub first_fault-requires : goal.first_fault-requires
first_fault-requires c = record { kept = asked_kept _ _ _ _ c.requires.asked; slots = c.requires.slots }

pub returns-in-Ok : goal.returns-in-Ok
returns-in-Ok c = comes_clear _ _ _ _ c.requires.asked (length c.args.out.now) c.in-Ok.ensures

pub returns-in-Err : goal.returns-in-Err
returns-in-Err c = attempted _ _ _ _ c.requires.asked (length c.args.out.now) _ _ c.in-Err.ensures c.told.ensures
