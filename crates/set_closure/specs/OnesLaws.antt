-- The ones of a row are its members, and those what a node reaches. Assumes nothing.
use Rattle.std.specs.Prelude.{◌≡◌, refl, Bool, true, false, eqb, get_or}
use Rattle.std.proofs.Math.Path.{sym}
use Rattle.std.proofs.Common.{◌∙◌, ap, ap₂, div-one, pow-suc, div-lt_iff_lt-mul, one-add, arith, shr-shr, ext_get_or}
use mathlib.Core.List.{List, Memᴰ}
use Prim.Native.Nat.{ℕ, zero, suc, ◌+◌, ◌*◌, ◌/◌, ◌%◌, ◌^◌, ◌≤◌, ◌<◌, ◌-◌}
use Rattle.std.proofs.Math.Arith.{lt-one}
use Rattle.std.specs.Int.Count.{ones, ones_step}
use Rattle.sheet.proofs.ListLaws.{same_test}
use Rattle.model.specs.Decl.{bit, table}
use Rattle.model.specs.Reach.{Reach, one, more, cyclic}
use Rattle.model_laws.specs.Lists.{true_of, trues, length_table, get_or_table, table_cong}
use Rattle.model_laws.specs.Reach.{reached, rank, length_reached, reached_iff, cyclic_iff}
use Rattle.set_bits.specs.Bits.{digit, has}
use Rattle.set_bits.specs.BitsLaws.{digit_lt}
use Rattle.set_search.specs.Search.{Steps, steps}
use Rattle.set_search.specs.SearchLaws.{steps_within}
use Rattle.set_closure.specs.Closure.{Closed}
use Rattle.set_closure.specs.Ones.{ones_of}

-- ---- the bits of a word
-- a test over a row of numbers that goes on after n
pub trues_table : (f : ℕ → Bool) (m n : ℕ) → trues (table f (m + n)) ≡ trues (table f m) + trues (table (λ i. f (m + i)) n)
unfolding trues table
trues_table f zero n =
    let e : 0 + n ≡ n = omega arith in
    ap (λ (k : ℕ). trues (table f k)) e ∙ (ap trues (table_cong f (λ i. f (0 + i)) n (λ i l. ap f (omega arith))) ∙ omega arith)
trues_table f (suc m) n =
    let e : suc m + n ≡ suc (m + n) = omega arith in
    let g : trues (table (λ i. f (suc (m + i))) n) ≡ trues (table (λ i. f (suc m + i)) n) = ap trues (table_cong (λ i. f (suc (m + i))) (λ i. f (suc m + i)) n (λ i l. ap f (omega arith))) in
    ap (λ (k : ℕ). trues (table f k)) e ∙ omega (arith, trues_table (λ i. f (suc i)) m n, g)

bit_one : (x : ℕ) → x < 2 → bit (eqb x 1) ≡ x
bit_one zero h = refl
bit_one (suc zero) h = refl
bit_one (suc (suc x)) h = absurd (omega arith)

zero_ones : (x : ℕ) → x ≡ 0 → ones x ≡ 0
unfolding ones
zero_ones x e = rw e

-- the first k bits of a number below 2 ^ k
word_ones : (k x : ℕ) → x < 2 ^ k → trues (table (λ j. eqb (digit x j) 1) k) ≡ ones x
unfolding trues table
word_ones zero x h = sym (zero_ones x (lt-one h))
word_ones (suc k) x h =
    ap₂ ◌+◌ (bit_one (digit x 0) (digit_lt x 0) ∙ ap (λ (y : ℕ). y % 2) (div-one x)) (ap trues (table_cong (λ j. eqb (digit x (suc j)) 1) (λ j. eqb (digit (x / 2) j) 1) k (λ j l. ap (λ (y : ℕ). eqb y 1) (half x j))) ∙ word_ones k (x / 2) (half_lt x k h))
    ∙ sym (ones_step x)
  where
    half : (n j : ℕ) → digit n (suc j) ≡ digit (n / 2) j
    half n j = ap (λ (y : ℕ). n / 2 ^ y % 2) (sym (one-add j)) ∙ ap (λ (y : ℕ). y % 2) (sym (shr-shr n 1 j))

    half_lt : (n j : ℕ) → n < 2 ^ suc j → n / 2 < 2 ^ j
    half_lt n j q = (div-lt_iff_lt-mul {k = 2} (omega arith)).1 (rw (pow-suc 2 j) at q)

-- the members of so many words
pub members_ones : (t : List ℕ) (at w : ℕ) → ((i : ℕ) → i < w → get_or t (at + i) 0 < 2 ^ 64) → trues (table (has t at) (64 * w)) ≡ ones_of t at w
unfolding ones_of trues table has
members_ones t at zero h = refl
members_ones t at (suc w) h =
    let e : 64 * suc w ≡ 64 * w + 64 = omega arith in
    ap (λ (n : ℕ). trues (table (has t at) n)) e
    ∙ trues_table (has t at) (64 * w) 64
    ∙ ap₂ ◌+◌ (members_ones t at w (λ i l. h i (omega arith))) (ap trues (table_cong (λ i. has t at (64 * w + i)) (λ j. eqb (digit (get_or t (at + w) 0) j) 1) 64 (λ j l. within j l)) ∙ word_ones 64 (get_or t (at + w) 0) (h w (omega arith)))
  where
    within : (j : ℕ) → j < 64 → has t at (64 * w + j) ≡ eqb (digit (get_or t (at + w) 0) j) 1
    within j l =
        let q : (64 * w + j) / 64 ≡ w = omega arith in
        let r : (64 * w + j) % 64 ≡ j = omega arith in
        rw (q, r)

-- ---- what is reached
pub no_bits : (f : ℕ → Bool) (n : ℕ) → ((i : ℕ) → i < n → f i ≡ false) → trues (table f n) ≡ 0
unfolding trues table
no_bits f zero h = refl
no_bits f (suc n) h = rw (h 0 (omega arith)) (omega (arith, no_bits (λ i. f (suc i)) n (λ i l. h (suc i) (omega arith))))

module _ (n words : ℕ) (t t' : List ℕ) (s : Steps n words t) (c : Closed n words t t') (fit : (i : ℕ) → get_or t' i 0 < 2 ^ 64) where
  abbrev next : ℕ → List ℕ
  next = steps n words t

  within : (a b : ℕ) → Memᴰ b (next a) → b < n
  within = steps_within n words t

  row_below : (k m : ℕ) → k < n → m < 64 * words → has t' (k * words) m ≡ true → m < n
  row_below k m h l e = last ((c.rows k m h l).0 e)
    where
      last : {a b : ℕ} → Reach next a b → b < n
      last (one q) = within _ _ q
      last (more q r) = last r

  pub row_false : (k m : ℕ) → k < n → m < 64 * words → n ≤ m → has t' (k * words) m ≡ false
  row_false k m h l q = go (has t' (k * words) m) refl
    where
      go : (b : Bool) → has t' (k * words) m ≡ b → has t' (k * words) m ≡ false
      go true e = absurd (omega (arith, row_below k m h l e))
      go false e = e

  pub reached_row : (k : ℕ) → k < n → table (has t' (k * words)) n ≡ reached next n k
  reached_row k h =
      ext_get_or false (table (has t' (k * words)) n) (reached next n k) (length_table (has t' (k * words)) n ∙ sym (length_reached next n k))
      (λ i l. let m : i < n = rw length_table at l in
      get_or_table (has t' (k * words)) n i false m
      ∙ same_test (has t' (k * words) i) (get_or (reached next n k) i false)
      (λ e. true_of _ ((reached_iff next n within k i).1 ((c.rows k i h (omega (arith, s.wide))).0 e)))
      (λ e. (c.rows k i h (omega (arith, s.wide))).1 ((reached_iff next n within k i).0 (rw e tt))))

  -- the ones of node k's row are how many nodes it reaches
  pub ones_rank : (k : ℕ) → k < n → ones_of t' (k * words) words ≡ rank next n k
  unfolding rank
  ones_rank k h =
      let e : 64 * words ≡ n + (64 * words - n) = omega (arith, s.wide) in
      sym (members_ones t' (k * words) words (λ i l. fit (k * words + i)))
      ∙ (ap (λ (m : ℕ). trues (table (has t' (k * words)) m)) e
      ∙ (trues_table (has t' (k * words)) n (64 * words - n)
      ∙ (ap₂ ◌+◌ (ap trues (reached_row k h)) (no_bits (λ i. has t' (k * words) (n + i)) (64 * words - n) (λ i l. row_false k (n + i) h (omega arith) (omega arith))) ∙ omega arith)))

  -- and it is among them exactly if it reaches itself
  pub own_cyclic : (k : ℕ) → k < n → has t' (k * words) k ≡ cyclic next n k
  own_cyclic k h =
      same_test (has t' (k * words) k) (cyclic next n k)
      (λ e. (cyclic_iff next n k within).1 ((c.rows k k h (omega (arith, s.wide))).0 e))
      (λ e. (c.rows k k h (omega (arith, s.wide))).1 ((cyclic_iff next n k within).0 e))
