-- `collapse_candidates::number` meets its contract.
use Rattle.std.proofs.Common.{ap, sym, rules}
use Rattle.collapse_candidates.specs.Candidates.{number_of}
use Rattle.collapse_candidates.proofs.number.Goals as goal

pub overflow_cast-result : goal.overflow_cast-result
overflow_cast-result c = let h = c.requires c.in-Some.f c.in-Some.is in search rules

pub returns-in-Some : goal.returns-in-Some
unfolding number_of
returns-in-Some c = sym (ap number_of c.in-Some.is)

pub returns-in-None : goal.returns-in-None
unfolding number_of
returns-in-None c = sym (ap number_of c.in-None.is)
