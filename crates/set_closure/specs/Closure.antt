-- What is reached in a table of steps, of which each row is a set of nodes as bits in words. Assumes nothing.
use Rattle.std.specs.Prelude.{◌↔◌, ◌≡◌, true, ◌&&◌, ◌||◌, ℕ, ◌*◌, ◌≤◌, ◌<◌, length}
use mathlib.Core.List.{List, Memᴰ}
use Rattle.number_columns.specs.Column.{pick}
use Rattle.model.specs.Reach.{Reach}
use Rattle.set_bits.specs.Bits.{has, united}
use Rattle.set_search.specs.Search.{steps}

-- n rows of so many words, which have a bit for each node
pub record Rows (n words : ℕ) (t : List ℕ) : Type 0 where
  pub limit : words ≤ 1024
  pub wide : n ≤ 64 * words
  pub long : n * words ≤ length t

-- b is reached from a by way of nodes below k alone
pub data Via (next : ℕ → List ℕ) (k : ℕ) : ℕ → ℕ → Type 0 where
  one : {a b : ℕ} → Memᴰ b (next a) → Via next k a b
  more : {a m b : ℕ} → Memᴰ m (next a) → m < k → Via next k m b → Via next k a b

-- row i with what row k has, where it has node k
unfoldable pub passed : ℕ → ℕ → ℕ → List ℕ → List ℕ
passed words k i t = pick (has t (i * words) k) (united t (i * words) t (k * words) words) t

-- The first i rows have what node k has besides, where they have node k; the others are as they were.
pub record Through (n words k i : ℕ) (t t' : List ℕ) : Type 0 where
  pub same : length t' ≡ length t
  pub done : (a m : ℕ) → a < n → a < i → m < 64 * words → has t' (a * words) m ≡ (has t (a * words) m || (has t (a * words) k && has t (k * words) m))
  pub later : (a m : ℕ) → a < n → i ≤ a → m < 64 * words → has t' (a * words) m ≡ has t (a * words) m

-- The rows have what is reached by way of nodes below k.
pub record ClosedTo (k n words : ℕ) (t t' : List ℕ) : Type 0 where
  pub same : length t' ≡ length t
  pub rows : (a m : ℕ) → a < n → m < 64 * words → (has t' (a * words) m ≡ true) ↔ Via (steps n words t) k a m

-- The rows have all that is reached.
pub record Closed (n words : ℕ) (t t' : List ℕ) : Type 0 where
  pub same : length t' ≡ length t
  pub rows : (a m : ℕ) → a < n → m < 64 * words → (has t' (a * words) m ≡ true) ↔ Reach (steps n words t) a m
