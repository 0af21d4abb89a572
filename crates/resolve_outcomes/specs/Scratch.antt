-- Outcomes that wait, in a list that is lent: a part of it, what a function keeps of it, and sums that
-- stop above the limit. Assumes nothing.
use Rattle.std.specs.Prelude.{◌≡◌, List, true, false, ℕ, suc, ◌+◌, ◌≤◌, ◌<◌, leb, length, get_or, take, drop}
use Rattle.model.specs.Resolve.{Result}
use Rattle.resolve_outcomes.specs.Answer.{nine, answer}

-- n numbers from place i on
unfoldable pub part : ℕ → ℕ → List ℕ → List ℕ
part i n xs = drop i (take (i + n) xs)

-- the same below place i, and as long
pub record Same (i : ℕ) (xs ys : List ℕ) : Type 0 where
  pub below : take i xs ≡ take i ys
  pub long : length xs ≡ length ys

-- a number, or one more than the limit where it is greater
unfoldable pub capped : ℕ → ℕ → ℕ
capped limit n = elim (leb n limit) [ true ↦ n | false ↦ suc limit ]

-- the answer r has what e is, and a cell of 16 bits holds it
pub record Says (e : Result ℕ) (r : ℕ) : Type 0 where
  pub decided : nine ≤ r
  pub small : r < 65536
  pub is : e ≡ answer r r

-- every outcome has a node
abbrev pub Nodes : List ℕ → Type 0
Nodes os = (i : ℕ) → i < length os → 4 ≤ get_or os i 0
