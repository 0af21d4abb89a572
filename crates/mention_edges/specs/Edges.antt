-- Steps from declaration to declaration: a declaration with a body goes to those that its body names.
-- A body is the number of a type, and no body a number past the types. Assumes nothing.
use Rattle.std.specs.Prelude.{◌≡◌, List, Bool, ◌&&◌, ℕ, ◌*◌, ◌<◌, ltb, length, get_or}
use Rattle.set_bits.specs.Bits.{has}

-- a body of so many types has m in its set
unfoldable pub edge : ℕ → ℕ → List ℕ → ℕ → ℕ → Bool
edge words types sets body m = ltb body types && has sets (body * words) m

-- the row of declaration d, those of lower ones kept
pub record Edge (words types : ℕ) (sets : List ℕ) (body d : ℕ) (s s' : List ℕ) : Type 0 where
  pub long : length s' ≡ length s
  pub below : (i : ℕ) → i < d * words → get_or s' i 0 ≡ get_or s i 0
  pub row : (m : ℕ) → m < 64 * words → has s' (d * words) m ≡ edge words types sets body m

-- the rows of the first n declarations
pub record Edges (words types : ℕ) (sets bodies : List ℕ) (n : ℕ) (s s' : List ℕ) : Type 0 where
  pub long : length s' ≡ length s
  pub rows : (d m : ℕ) → d < n → m < 64 * words → has s' (d * words) m ≡ edge words types sets (get_or bodies d 0) m
