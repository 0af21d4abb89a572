-- `collapse_candidates::candidates` meets its contract, one declaration after the other.
use Rattle.std.proofs.Common.{arith}
use Rattle.collapse_candidates.specs.CandidatesLaws.{partly_none, partly_next, partly_all}
use Rattle.collapse_candidates.proofs.candidates.Goals as goal

pub loop-d-init : goal.loop-d-init
loop-d-init c = partly_none _ _ c.requires.fields_len

pub candidate-requires : goal.candidate-requires
candidate-requires c = record { tabled = c.requires.tabled; d_bound = omega (arith, c.loop-d.invariant.long); ruled = c.requires.ruled }

pub loop-d-preserved : goal.loop-d-preserved
loop-d-preserved c = partly_next _ _ _ _ (omega (arith, c.loop-d.invariant.long)) c.candidate.ensures c.loop-d.invariant

pub returns : goal.returns
returns c = partly_all _ _ _ (omega (arith, c.loop-d.invariant.long)) c.loop-d.invariant
