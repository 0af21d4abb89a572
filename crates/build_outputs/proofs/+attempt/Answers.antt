-- `build_outputs::attempt` meets its contract. Assumes nothing.
use Rattle.std.proofs.Common.{arith}
use Rattle.build_outputs.specs.OutputsLaws.{lent_less}
use Rattle.build_outputs.proofs.+attempt.Goals as goal

pub sheets-first-requires : goal.sheets-first-requires
sheets-first-requires t c =
    let p = c.requires in
    record { lent = lent_less _ _ _ _ _ _ _ _ _ (omega arith) (omega arith) (omega arith) p.lent; rounds_value = p.rounds_value }
