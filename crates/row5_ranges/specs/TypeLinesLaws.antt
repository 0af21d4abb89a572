-- The kinds of Y lines. Assumes nothing.
use Rattle.std.specs.Prelude.{◌≡◌, List, false, ℕ, suc, ◌≤◌, ◌<◌, eqb}
use Rattle.std.proofs.Common.{arith, ne_eqb}
use Rattle.std.proofs.lemmas.Bool.{lt-leb}
use Rattle.sheet.specs.Line.{Line, number}
use Rattle.meaning.specs.Rows.{good_type}

pub past : (n k : ℕ) → n ≤ k → (k ≡ n → ⊥) → suc n ≤ k
past n k h e = omega arith

-- no kind is over 12
pub type_over : (names : ℕ) (xs : List ℕ) (y : ℕ) (l : Line) → 13 ≤ number l 0 → good_type names xs y l ≡ false
unfolding good_type
type_over names xs y l h = simp (lt-leb (number l 0) 2 (omega arith), lt-leb (number l 0) 12 h, other 3 (omega arith), other 4 (omega arith), other 5 (omega arith), other 6 (omega arith), other 7 (omega arith), other 8 (omega arith), other 9 (omega arith), other 11 (omega arith))
  where
    other : (n : ℕ) → n < 13 → eqb (number l 0) n ≡ false
    other n m = ne_eqb (number l 0) n (λ e. omega arith)
