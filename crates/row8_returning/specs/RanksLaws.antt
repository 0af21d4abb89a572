-- The rows' ones are the ranks, up to the first row that has its own node. Assumes nothing.
use Rattle.std.specs.Prelude.{◌≡◌, List, true, false, ℕ, ◌+◌, ◌*◌, ◌^◌, ◌≤◌, ◌<◌, length, get_or, set}
use Rattle.std.proofs.Common.{sym, ◌∙◌, arith, length-set, get_or-set_same, get_or-set_other}
use Rattle.std.proofs.Math.Decide.{ℕ_discrete, dec_lt}
use Rattle.sheet.specs.Sheet.{first}
use Rattle.sheet.proofs.FirstLaws.{first_none, first_found}
use Rattle.model.specs.Reach.{cyclic}
use Rattle.set_bits.specs.Bits.{has}
use Rattle.set_search.specs.Search.{Steps, steps}
use Rattle.set_search.specs.Loops.{First}
use Rattle.set_closure.specs.Closure.{Closed}
use Rattle.set_closure.specs.Ones.{ones_of}
use Rattle.set_closure.specs.OnesLaws.{ones_rank, own_cyclic}
use Rattle.row8_returning.specs.Ranks.{Ranks}

-- ---- what is reached
module _ (n words : ℕ) (t t' : List ℕ) (s : Steps n words t) (c : Closed n words t t') (fit : (i : ℕ) → get_or t' i 0 < 2 ^ 64) where
  abbrev next : ℕ → List ℕ
  next = steps n words t

  pub ranks_first : (r : ℕ) (rank₀ rank' : List ℕ) → Ranks words n t' r rank₀ rank' → First next n r rank₀ rank'
  ranks_first r rank₀ rank' h =
      record {
        is = go (dec_lt r n);
        before = record { long = h.long; ranks = λ i l. h.counts i l ∙ ones_rank n words t t' s c fit i (omega (arith, h.within)) };
      }
    where
      none : (i : ℕ) → i < r → cyclic next n i ≡ false
      none i l = sym (own_cyclic n words t t' s c fit i (omega (arith, h.within))) ∙ h.none i l

      go : Dec (r < n) → r ≡ first (cyclic next n) n
      go (yes l) = sym (first_found (cyclic next n) n r l (first_none (cyclic next n) r none) (sym (own_cyclic n words t t' s c fit r l) ∙ h.own l))
      go (no l) = let e : r ≡ n = omega (arith, h.within) in e ∙ sym (first_none (cyclic next n) n (λ i q. none i (omega arith)))

-- ---- one row after the other
module _ (words n : ℕ) (t : List ℕ) (s : List ℕ) where
  abbrev pub Counted : ℕ → List ℕ → Type 0
  Counted k s' =
      (k ≤ n) × (length s' ≡ length s) × ((i : ℕ) → i < k → has t (i * words) i ≡ false) × ((i : ℕ) → i < k → get_or s' i 0 ≡ ones_of t (i * words) words)

  pub counted_more : (k v : ℕ) (s' : List ℕ) → Counted k s' → k < n → n ≤ length s → has t (k * words) k ≡ false → v ≡ ones_of t (k * words) words → Counted (k + 1) (set s' k v)
  counted_more k v s' h l q e w = (
    omega arith,
    length-set s' k v ∙ h.1,
    λ i j. below i j (ℕ_discrete i k),
    λ i j. counts i j (ℕ_discrete i k),
  )
    where
      below : (i : ℕ) → i < k + 1 → Dec (i ≡ k) → has t (i * words) i ≡ false
      below i j (yes z) = rw z e
      below i j (no z) = h.2 i (omega arith)

      counts : (i : ℕ) → i < k + 1 → Dec (i ≡ k) → get_or (set s' k v) i 0 ≡ ones_of t (i * words) words
      counts i j (yes z) = rw z (get_or-set_same s' k v 0 (omega (arith, h.1)) ∙ w)
      counts i j (no z) = get_or-set_other s' k i v 0 z ∙ h.3 i (omega arith)

  pub counted_found : (k : ℕ) (s' : List ℕ) → Counted k s' → k < n → has t (k * words) k ≡ true → Ranks words n t k s s'
  counted_found k s' h l e = record { within = h.0; none = h.2; own = λ q. e; long = h.1; counts = h.3 }

  pub counted_all : (s' : List ℕ) → Counted n s' → Ranks words n t n s s'
  counted_all s' h = record { within = h.0; none = h.2; own = λ q. absurd (omega arith); long = h.1; counts = h.3 }
