-- No declaration that was passed has rank r.
use Rattle.std.proofs.Common.{◌≡◌, ℕ, ◌≤◌, ◌<◌, get_or}
use Rattle.form_ranks.proofs.next_of_rank.Given as goal

abbrev pub invariant-loop-d : goal.invariant-loop-d
invariant-loop-d l = (i : ℕ) → l.from ≤ i → i < l.d → get_or l.rank i 0 ≡ l.r → ⊥
