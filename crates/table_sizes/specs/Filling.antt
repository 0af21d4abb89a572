-- Cells written into a table, and how they bring it toward what it is to be. Assumes nothing.
use Rattle.std.specs.Prelude.{◌≡◌, List, ℕ, ◌+◌, ◌≤◌, ◌<◌, length, get_or}

-- u is t with the w values of v in the cells from `at` on
pub record Put (t u : List ℕ) (at w : ℕ) (v : ℕ → ℕ) : Type 0 where
  pub sized : length u ≡ length t
  pub inside : (k : ℕ) → k < w → get_or u (at + k) 0 ≡ v k
  pub below : (x : ℕ) → x < at → get_or u x 0 ≡ get_or t x 0
  pub above : (x : ℕ) → at + w ≤ x → get_or u x 0 ≡ get_or t x 0

abbrev pub all : ℕ → ℕ → ℕ
all x k = x

-- the cells from lo up to hi are those of T
abbrev pub Agree : List ℕ → List ℕ → ℕ → ℕ → Type 0
Agree T t lo hi = (x : ℕ) → lo ≤ x → x < hi → get_or t x 0 ≡ get_or T x 0

-- the cells of t that are those of T are kept in u
abbrev pub Kept : List ℕ → List ℕ → List ℕ → Type 0
Kept T t u = (x : ℕ) → get_or t x 0 ≡ get_or T x 0 → get_or u x 0 ≡ get_or T x 0

-- they are, and those from lo up to hi are made so
pub record Toward (T t u : List ℕ) (lo hi : ℕ) : Type 0 where
  pub sized : length u ≡ length t
  pub kept : Kept T t u
  pub made : Agree T u lo hi
