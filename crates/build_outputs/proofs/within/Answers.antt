-- `build_outputs::within` meets its contract. Assumes nothing.
use Rattle.std.proofs.Common.{arith}
use Rattle.std.proofs.lemmas.List.{length-replicate}
use Rattle.build_outputs.specs.OutputsLaws.{lent_less}
use Rattle.build_outputs.proofs.within.Goals as goal

pub sheets-requires-clause-lent : goal.sheets-requires-clause-lent
sheets-requires-clause-lent g c =
    let z = c.requires.sizes in
    simp length-replicate (lent_less _ _ _ _ _ _ g.row.FORMS g.row.SCRATCH g.row.SCRATCH z.0 z.2 (omega arith) c.requires.lent)
