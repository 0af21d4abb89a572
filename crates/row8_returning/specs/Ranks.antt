-- The first row that has its own node, and the members of the rows before it. Assumes nothing.
use Rattle.std.specs.Prelude.{◌≡◌, List, true, false, ℕ, ◌*◌, ◌≤◌, ◌<◌, length, get_or}
use Rattle.set_bits.specs.Bits.{has}
use Rattle.set_closure.specs.Ones.{ones_of}

-- The first of n rows that has its own node, or n; the rows before it have so many members as `rank` says.
pub record Ranks (words n : ℕ) (t : List ℕ) (r : ℕ) (s s' : List ℕ) : Type 0 where
  pub within : r ≤ n
  pub none : (i : ℕ) → i < r → has t (i * words) i ≡ false
  pub own : r < n → has t (r * words) r ≡ true
  pub long : length s' ≡ length s
  pub counts : (i : ℕ) → i < r → get_or s' i 0 ≡ ones_of t (i * words) words
