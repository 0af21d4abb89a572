-- What the search answers on a table of steps: n nodes, and for each a row of so many words, whose
-- bits are the nodes that are one step away. Assumes nothing.
use Rattle.std.specs.Prelude.{◌≡◌, List, [], ◌∷◌, Bool, true, false, Option, None, Some, ℕ, zero, suc, ◌*◌, ◌≤◌, ◌<◌, length}
use Rattle.number_columns.specs.Column.{pick}
use Rattle.model.specs.Decl.{table}
use Rattle.model.specs.Reach.{cyclic}
use Rattle.model_laws.specs.Reach.{reached, rank}
use Rattle.set_bits.specs.Bits.{has}

-- a table of rows, no bit of which is that of a node past the last
pub record Steps (n words : ℕ) (t : List ℕ) : Type 0 where
  pub limit : words ≤ 1024
  pub wide : n ≤ 64 * words
  pub long : n * words ≤ length t
  pub within : (a m : ℕ) → a < n → m < 64 * words → has t (a * words) m ≡ true → m < n

-- the numbers below n that pass a test
unfoldable pub those : (ℕ → Bool) → ℕ → List ℕ
those p zero = []
those p (suc n) = let ms : List ℕ = those p n in pick (p n) (n ∷ ms) ms

-- from a node to those that its row holds
unfoldable pub steps : ℕ → ℕ → List ℕ → ℕ → List ℕ
steps n words t a = those (has t (a * words)) n

-- the marks of n nodes, in a set
unfoldable pub marks : ℕ → List ℕ → List Bool
marks n s = table (has s 0) n

-- none where the start reaches itself, else how many it reaches
unfoldable pub answer : (ℕ → List ℕ) → ℕ → ℕ → Option ℕ
answer next n k = pick (cyclic next n k) None (Some (rank next n k))

-- The answer, and marked is what is reached, unless the start is.
pub record Searched (next : ℕ → List ℕ) (n k : ℕ) (r : Option ℕ) (s : List ℕ) : Type 0 where
  pub answered : r ≡ answer next n k
  pub marked : cyclic next n k ≡ false → marks n s ≡ reached next n k
