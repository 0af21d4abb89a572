-- Lent memory for candidates and the guard. Assumes nothing.
use Rattle.std.specs.Prelude.{◌≡◌, List, ℕ, length}
use Rattle.collapse_verdicts.specs.Guard.{Lent}

-- as long as n declarations need, with sets of so many words
pub record Room (n words : ℕ) (fields bodies steps marks queue found : List ℕ) : Type 0 where
  pub fields_long : length fields ≡ n
  pub bodies_long : length bodies ≡ n
  pub lent : Lent n words steps marks queue found
