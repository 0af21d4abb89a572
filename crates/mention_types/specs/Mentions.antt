-- The declarations that a type names, as sets: one for each type, of so many words. Assumes nothing.
use Rattle.std.specs.Prelude.{◌≡◌, List, [], ◌∷◌, Bool, false, ◌||◌, ℕ, zero, suc, ◌+◌, ◌*◌, ◌≤◌, ◌<◌, length, get_or}
use Rattle.std.specs.Int.Bits.{bit_or}
use Rattle.sheet.specs.Line.{Line, number}
use Rattle.model.specs.Cty.{TUnit}
use Rattle.model.specs.Decl.{member}
use Rattle.model.specs.Layout.{positions, names_in}
use Rattle.meaning.specs.Program.{arg_line, type_line, trees, program}
use Rattle.meaning.specs.Rows.{count_of}
use Rattle.table_access.specs.Tables.{nth, decls_of}
use Rattle.set_bits.specs.Bits.{has}

-- number k of Y line y, and the type of A line i
abbrev pub part : List Line → ℕ → ℕ → ℕ
part ls y k = number (nth type_line ls y) k

abbrev pub arg_of : List Line → ℕ → ℕ
arg_of ls i = number (nth arg_line ls i) 0

-- type y names declaration m
unfoldable pub mentions : List Line → ℕ → ℕ → Bool
mentions ls y m = member m (names_in (program ls) (get_or (trees ls) y TUnit))

-- name n is declaration m's
unfoldable pub named : List Line → ℕ → ℕ → Bool
named ls n m = member m (positions (program ls) (n ∷ []))

-- one of the first k numbers passes a test
unfoldable pub any : (ℕ → Bool) → ℕ → Bool
any p zero = false
any p (suc k) = any p k || p k

-- The set of type y with the numbers that pass a test, the sets of lower types kept.
pub record Adds (words y : ℕ) (p : ℕ → Bool) (s s' : List ℕ) : Type 0 where
  pub long : length s' ≡ length s
  pub below : (i : ℕ) → i < y * words → get_or s' i 0 ≡ get_or s i 0
  pub row : (m : ℕ) → m < 64 * words → has s' (y * words) m ≡ (has s (y * words) m || p m)

-- the k types from A line `first` on are there and lower than y
abbrev pub Lower : List Line → ℕ → ℕ → ℕ → Type 0
Lower ls y first k = (j : ℕ) → j < k → (first + j < count_of arg_line ls) × (arg_of ls (first + j) < y)

-- the k types from A line `first` on have sets
abbrev pub Inside : List Line → ℕ → List ℕ → ℕ → ℕ → Type 0
Inside ls words s first k = (j : ℕ) → j < k → (first + j < count_of arg_line ls) × (arg_of ls (first + j) * words + words ≤ length s)

-- word w of these sets, united
unfoldable pub word_of : List Line → ℕ → List ℕ → ℕ → ℕ → ℕ → ℕ
word_of ls words s first w zero = 0
word_of ls words s first w (suc k) = bit_or (word_of ls words s first w k) (get_or s (arg_of ls (first + k) * words + w) 0)

-- one of these types has m in its set
unfoldable pub of_list : List Line → ℕ → List ℕ → ℕ → ℕ → ℕ → Bool
of_list ls words s first k m = any (λ j. has s (arg_of ls (first + j) * words) m) k

-- The sets of the types below n hold the declarations that these name.
pub record Mentioned (ls : List Line) (words : ℕ) (s : List ℕ) (n : ℕ) : Type 0 where
  pub wide : decls_of ls ≤ 64 * words
  pub long : count_of type_line ls * words ≤ length s
  pub low : n ≤ count_of type_line ls
  pub right : (y m : ℕ) → y < n → m < 64 * words → has s (y * words) m ≡ mentions ls y m
