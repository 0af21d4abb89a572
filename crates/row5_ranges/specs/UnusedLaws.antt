-- What the loop over a line's unused numbers keeps. Assumes nothing.
use Rattle.std.specs.Prelude.{◌≡◌, Bool, true, false, ◌&&◌, ℕ, ◌+◌, ◌≤◌, ◌<◌, eqb, leb}
use Rattle.std.proofs.Math.Path.{ap}
use Rattle.std.proofs.Math.Bool.{not}
use Rattle.std.proofs.Common.{arith}
use borrow.Author.Tests.{eq-eqb, ne_eqb, lt-ltb, le-ltb, le-leb, lt-leb}
use Rattle.sheet.specs.Line.{Line, number}
use Rattle.sheet.specs.Sheet.{first}
use Rattle.sheet.proofs.FirstLaws.{first_none, none_first, first_le_at, first_more}
use Rattle.meaning.specs.Rows.{some_below, zeros_from}

-- ---- a test that holds of some number
pub some_at : (p : ℕ → Bool) (n i : ℕ) → i < n → p i ≡ true → some_below p n ≡ true
some_at p n i h t = lt-ltb (first p n) n (omega (arith, first_le_at p n i h t))

pub some_none : (p : ℕ → Bool) (n m : ℕ) → m ≤ n → first p n ≡ n → some_below p m ≡ false
some_none p n m h e =
    let k : first p m ≡ m = first_none p m (λ i l. none_first p n e i (omega arith)) in
    le-ltb (first p m) m (omega arith)

-- ---- unused numbers
-- number i is unused and not 0
abbrev pub stray : ℕ → Line → ℕ → Bool
stray k l i = leb k i && not (eqb (number l i) 0)

module _ (k : ℕ) (l : Line) where
  pub zeros_start : first (stray k l) k ≡ k
  zeros_start = first_none (stray k l) k (λ i h. rw (lt-leb k i h))

  pub zeros_more : (j : ℕ) → k ≤ j → number l j ≡ 0 → first (stray k l) j ≡ j → first (stray k l) (j + 1) ≡ j + 1
  zeros_more j h e r = first_more (stray k l) j r (rw (le-leb k j h, eq-eqb (number l j) 0 e))

  pub zeros_found : (j : ℕ) → k ≤ j → j < 5 → (number l j ≡ 0 → ⊥) → zeros_from k l ≡ false
  unfolding zeros_from
  zeros_found j h m e = ap not (some_at (stray k l) 5 j m (rw (le-leb k j h, ne_eqb (number l j) 0 e)))

  pub zeros_all : (j : ℕ) → 5 ≤ j → first (stray k l) j ≡ j → zeros_from k l ≡ true
  unfolding zeros_from
  zeros_all j h e = ap not (some_none (stray k l) j 5 h e)
