-- It calls itself once, with the larger number.
use Rattle.std.proofs.Common.{◌-◌}
use Rattle.row9_faults.proofs.+attempt.Given as goal

abbrev pub decreases-attempt : goal.decreases-attempt
decreases-attempt l = 1 - l.number
