-- Laws of sets as bits in words. Assumes nothing.
use Rattle.std.specs.Prelude.{◌≡◌, ◌≢◌, List, true, false, ◌||◌, length}
use Rattle.std.proofs.Math.Path.{refl, ap}
use Rattle.std.proofs.Common.{sym, ◌∙◌, le_trans, suc-mul, mul-le-mul_right, mod-lt, pow-suc, div-one, div-add-mod', div-lt_iff_lt-mul, one-add, arith, pow_pos, shr-shr, pow-add}
use Prim.Native.Nat.{ℕ, zero, suc, ◌+◌, ◌*◌, ◌/◌, ◌%◌, ◌^◌, ◌≤◌, ◌<◌, ◌-◌, min, max}
use Rattle.std.proofs.Math.Nat.{div-eq_of_lt, mul-mod_left, div_self}
use Rattle.std.proofs.Math.Decide.{ℕ_discrete, dec_lt}
use Rattle.std.proofs.Math.Arith.{digits_mod, lt-one}
use Rattle.std.specs.Int.Bits.{bit_and, bit_or, bit_xor, differ, and_step, or_step, xor_step}
use Rattle.std.proofs.lemmas.Nat.{and_shr, or_shr, xor_shr, shl-shr}
use Rattle.std.proofs.Math.Dec.{eqb}
use Rattle.std.proofs.Math.ListN.{get_or, length-set}
use Rattle.std.proofs.Math.Pow.{pow-lt}
use Rattle.std.specs.Int.Count.{count_trailing_zeros, under}
use Rattle.std.proofs.Math.Seq.{get_or-set_same, get_or-set_other}
use borrow.Author.Tests.{eq-eqb}
use Rattle.set_bits.specs.Bits.{digit, has, inserted, cleared, united}

-- ---- rows
-- a row of so many words stands before the end, and before each later row
pub row_room : (y n words l : ℕ) → y < n → n * words ≤ l → y * words + words ≤ l
row_room y n words l h q = let r : suc y * words ≤ l = le_trans (mul-le-mul_right words h) q in rw (suc-mul y words) at r

pub row_before : (c y words : ℕ) → c < y → c * words + words ≤ y * words
row_before c y words h = row_room c y words (y * words) h (omega arith)

-- a member by the word that it is in
pub has_words : (s t : List ℕ) (at m : ℕ) → get_or t (at + m / 64) 0 ≡ get_or s (at + m / 64) 0 → has t at m ≡ has s at m
unfolding has
has_words s t at m e = rw e

-- ---- bits of a word
pub digit_lt : (x k : ℕ) → digit x k < 2
digit_lt x k = mod-lt (x / 2 ^ k) (omega arith)

differ_lt : (x y : ℕ) → x < 2 → y < 2 → differ x y < 2
differ_lt zero y h k = k
differ_lt (suc x) zero h k = h
differ_lt (suc x) (suc y) h k = differ_lt x y (omega arith) (omega arith)

pub digit_or : (x y k : ℕ) → digit (bit_or x y) k ≡ max (digit x k) (digit y k)
digit_or x y k =
    ap (λ (n : ℕ). n % 2) (or_shr x y k ∙ or_step (x / 2 ^ k) (y / 2 ^ k))
    ∙ digits_mod (bit_or (x / 2 ^ k / 2) (y / 2 ^ k / 2)) (omega (arith, digit_lt x k, digit_lt y k))

pub digit_and : (x y k : ℕ) → digit (bit_and x y) k ≡ min (digit x k) (digit y k)
digit_and x y k =
    ap (λ (n : ℕ). n % 2) (and_shr x y k ∙ and_step (x / 2 ^ k) (y / 2 ^ k))
    ∙ digits_mod (bit_and (x / 2 ^ k / 2) (y / 2 ^ k / 2)) (omega (arith, digit_lt x k, digit_lt y k))

pub digit_xor : (x y k : ℕ) → digit (bit_xor x y) k ≡ differ (digit x k) (digit y k)
digit_xor x y k =
    ap (λ (n : ℕ). n % 2) (xor_shr x y k ∙ xor_step (x / 2 ^ k) (y / 2 ^ k))
    ∙ digits_mod (bit_xor (x / 2 ^ k / 2) (y / 2 ^ k / 2)) (differ_lt (digit x k) (digit y k) (digit_lt x k) (digit_lt y k))

-- a power of two has one bit
pub digit_same : (k : ℕ) → digit (2 ^ k) k ≡ 1
digit_same k = ap (λ (n : ℕ). n % 2) (div_self (pow_pos k))

digit_below : (d j : ℕ) → digit (2 ^ (suc d + j)) j ≡ 0
digit_below d j =
    ap (λ (n : ℕ). n / 2 ^ j % 2) (pow-add 2 (suc d) j) ∙ ap (λ (n : ℕ). n % 2) (shl-shr (2 ^ suc d) j) ∙ ap (λ (n : ℕ). n % 2) (pow-suc 2 d) ∙ mul-mod_left (2 ^ d) 2

pub digit_other : (k j : ℕ) → j ≢ k → digit (2 ^ k) j ≡ 0
digit_other k j n = go (dec_lt j k)
  where
    go : Dec (j < k) → digit (2 ^ k) j ≡ 0
    go (yes h) = let e : suc (k - suc j) + j ≡ k = omega arith in rw e at (digit_below (k - suc j) j)
    go (no h) = ap (λ (x : ℕ). x % 2) (div-eq_of_lt (pow-lt (omega arith)))

max_zero_of : (x y : ℕ) → y ≡ 0 → max x y ≡ x
max_zero_of x y e = omega arith

-- a bit of the or is set where one of the two bits is
pub or_one : (x y : ℕ) → x < 2 → y < 2 → eqb (max x y) 1 ≡ (eqb x 1 || eqb y 1)
or_one zero zero h k = refl
or_one zero (suc zero) h k = refl
or_one zero (suc (suc y)) h k = absurd (omega arith)
or_one (suc zero) zero h k = refl
or_one (suc zero) (suc zero) h k = refl
or_one (suc zero) (suc (suc y)) h k = absurd (omega arith)
or_one (suc (suc x)) y h k = absurd (omega arith)

-- ---- one member more
module _ (s : List ℕ) (at m : ℕ) (h : at + m / 64 < length s) where
  pub length_inserted : length (inserted s at m) ≡ length s
  unfolding inserted
  length_inserted = length-set s (at + m / 64) _

  -- a word that m is not in
  pub inserted_far : (j : ℕ) → j ≢ at + m / 64 → get_or (inserted s at m) j 0 ≡ get_or s j 0
  unfolding inserted
  inserted_far j n = get_or-set_other s (at + m / 64) j _ 0 n

  inserted_word : get_or (inserted s at m) (at + m / 64) 0 ≡ bit_or (get_or s (at + m / 64) 0) (2 ^ (m % 64))
  unfolding inserted
  inserted_word = get_or-set_same s (at + m / 64) _ 0 h

  -- the member that was put in
  pub inserted_same : has (inserted s at m) at m ≡ true
  unfolding has
  inserted_same =
      eq-eqb _ _ (ap (λ (x : ℕ). digit x (m % 64)) inserted_word ∙ digit_or (get_or s (at + m / 64) 0) (2 ^ (m % 64)) (m % 64) ∙ omega (arith, digit_same (m % 64), digit_lt (get_or s (at + m / 64) 0) (m % 64)))

  -- and any other
  pub inserted_other : (i : ℕ) → i ≢ m → has (inserted s at m) at i ≡ has s at i
  unfolding has
  inserted_other i n = go (ℕ_discrete (i / 64) (m / 64))
    where
      go : Dec (i / 64 ≡ m / 64) → has (inserted s at m) at i ≡ has s at i
      go (no w) = ap (λ (x : ℕ). eqb (digit x (i % 64)) 1) (inserted_far (at + i / 64) (λ e. w (omega arith)))
      go (yes w) =
          ap (λ (x : ℕ). eqb (digit (get_or (inserted s at m) (at + x) 0) (i % 64)) 1) w
          ∙ ap (λ (x : ℕ). eqb (digit x (i % 64)) 1) inserted_word
          ∙ ap (λ (x : ℕ). eqb x 1) (digit_or (get_or s (at + m / 64) 0) (2 ^ (m % 64)) (i % 64) ∙ max_zero_of (digit (get_or s (at + m / 64) 0) (i % 64)) (digit (2 ^ (m % 64)) (i % 64)) (digit_other (m % 64) (i % 64) (λ e. n (omega arith))))
          ∙ ap (λ (x : ℕ). eqb (digit (get_or s (at + x) 0) (i % 64)) 1) (sym w)

-- ---- no member
pub length_cleared : (s : List ℕ) (at w : ℕ) → length (cleared s at w) ≡ length s
unfolding cleared
length_cleared s at zero = refl
length_cleared s at (suc w) = length-set (cleared s at w) (at + w) 0 ∙ length_cleared s at w

-- words before or after those that are cleared
pub cleared_far : (s : List ℕ) (at w j : ℕ) → (at ≤ j → at + w ≤ j) → get_or (cleared s at w) j 0 ≡ get_or s j 0
unfolding cleared
cleared_far s at zero j h = refl
cleared_far s at (suc w) j h =
    get_or-set_other (cleared s at w) (at + w) j 0 0 (λ e. absurd (omega (arith, h (omega arith)))) ∙ cleared_far s at w j (λ k. omega (arith, h k))

cleared_word : (s : List ℕ) (at w i : ℕ) → at + w ≤ length s → i < w → get_or (cleared s at w) (at + i) 0 ≡ 0
unfolding cleared
cleared_word s at zero i h l = absurd (omega arith)
cleared_word s at (suc w) i h l = go (λ k. cleared_word s at w i (omega arith) k) (ℕ_discrete i w)
  where
    go : (i < w → get_or (cleared s at w) (at + i) 0 ≡ 0) → Dec (i ≡ w) → get_or (cleared s at (suc w)) (at + i) 0 ≡ 0
    go ih (yes e) = rw e (get_or-set_same (cleared s at w) (at + w) 0 0 (omega (arith, length_cleared s at w)))
    go ih (no n) = get_or-set_other (cleared s at w) (at + w) (at + i) 0 0 (λ e. n (omega arith)) ∙ ih (omega arith)

pub cleared_none : (s : List ℕ) (at w : ℕ) → at + w ≤ length s → (m : ℕ) → m < 64 * w → has (cleared s at w) at m ≡ false
unfolding has
cleared_none s at w h m l =
    ap (λ (x : ℕ). eqb (digit x (m % 64)) 1) (cleared_word s at w (m / 64) h (omega arith)) ∙ ap (λ (x : ℕ). eqb (x % 2) 1) (div-eq_of_lt (pow_pos (m % 64)))

-- ---- the members of two sets
module _ (s : List ℕ) (to : ℕ) (t : List ℕ) (from : ℕ) where
  pub length_united : (w : ℕ) → length (united s to t from w) ≡ length s
  unfolding united
  length_united zero = refl
  length_united (suc w) = length-set (united s to t from w) (to + w) _ ∙ length_united w

  -- words before or after the set
  pub united_far : (w j : ℕ) → (to ≤ j → to + w ≤ j) → get_or (united s to t from w) j 0 ≡ get_or s j 0
  unfolding united
  united_far zero j h = refl
  united_far (suc w) j h =
      get_or-set_other (united s to t from w) (to + w) j _ 0 (λ e. absurd (omega (arith, h (omega arith)))) ∙ united_far w j (λ k. omega (arith, h k))

  united_word : (w i : ℕ) → to + w ≤ length s → i < w → get_or (united s to t from w) (to + i) 0 ≡ bit_or (get_or s (to + i) 0) (get_or t (from + i) 0)
  unfolding united
  united_word zero i h l = absurd (omega arith)
  united_word (suc w) i h l = go (λ k. united_word w i (omega arith) k) (ℕ_discrete i w)
    where
      go : (i < w → get_or (united s to t from w) (to + i) 0 ≡ bit_or (get_or s (to + i) 0) (get_or t (from + i) 0))
          → Dec (i ≡ w) → get_or (united s to t from (suc w)) (to + i) 0 ≡ bit_or (get_or s (to + i) 0) (get_or t (from + i) 0)
      go ih (yes e) =
          rw
          e
          (get_or-set_same (united s to t from w) (to + w) _ 0 (omega (arith, length_united w))
          ∙ ap (λ (x : ℕ). bit_or x (get_or t (from + w) 0)) (united_far w (to + w) (λ k. omega arith)))
      go ih (no n) = get_or-set_other (united s to t from w) (to + w) (to + i) _ 0 (λ e. n (omega arith)) ∙ ih (omega arith)

  -- in the union is what is in one of the two
  pub united_has : (w : ℕ) → to + w ≤ length s → (m : ℕ) → m < 64 * w → has (united s to t from w) to m ≡ (has s to m || has t from m)
  unfolding has
  united_has w h m l =
      let x : ℕ = get_or s (to + m / 64) 0 in
      let y : ℕ = get_or t (from + m / 64) 0 in
      ap (λ (z : ℕ). eqb (digit z (m % 64)) 1) (united_word w (m / 64) h (omega arith))
      ∙ ap (λ (z : ℕ). eqb z 1) (digit_or x y (m % 64))
      ∙ or_one (digit x (m % 64)) (digit y (m % 64)) (digit_lt x (m % 64)) (digit_lt y (m % 64))

-- ---- the lowest bit
digit_half : (n k : ℕ) → digit n (suc k) ≡ digit (n / 2) k
digit_half n k = ap (λ (x : ℕ). n / 2 ^ x % 2) (sym (one-add k)) ∙ ap (λ (x : ℕ). x % 2) (sym (shr-shr n 1 k))

-- it is set,
pub lowest_set : (k n : ℕ) → count_trailing_zeros k n < k → digit n (count_trailing_zeros k n) ≡ 1
unfolding count_trailing_zeros
lowest_set zero n h = absurd (omega arith)
lowest_set (suc k) n h = go (λ l. lowest_set k (n / 2) l) (n % 2) refl h
  where
    go : (count_trailing_zeros k (n / 2) < k → digit (n / 2) (count_trailing_zeros k (n / 2)) ≡ 1)
        → (d : ℕ)
        → n % 2 ≡ d
        → under d (count_trailing_zeros k (n / 2)) < suc k
        → digit n (under d (count_trailing_zeros k (n / 2))) ≡ 1
    go ih zero e l = digit_half n (count_trailing_zeros k (n / 2)) ∙ ih (omega arith)
    go ih (suc d) e l = omega (arith, div-one n, digit_lt n 0)

-- none below it is,
pub lowest_below : (k n j : ℕ) → j < count_trailing_zeros k n → digit n j ≡ 0
unfolding count_trailing_zeros
lowest_below zero n j h = absurd (omega arith)
lowest_below (suc k) n j h = go (λ i l. lowest_below k (n / 2) i l) (n % 2) refl j h
  where
    go : ((i : ℕ) → i < count_trailing_zeros k (n / 2) → digit (n / 2) i ≡ 0)
        → (d : ℕ)
        → n % 2 ≡ d
        → (i : ℕ)
        → i < under d (count_trailing_zeros k (n / 2))
        → digit n i ≡ 0
    go ih zero e zero l = omega (arith, div-one n)
    go ih zero e (suc i) l = digit_half n i ∙ ih i (omega arith)
    go ih (suc d) e i l = absurd (omega arith)

-- and a number that is not 0 has one.
pub lowest_within : (k n : ℕ) → n < 2 ^ k → n ≢ 0 → count_trailing_zeros k n < k
unfolding count_trailing_zeros
lowest_within zero n h e = absurd (e (lt-one h))
lowest_within (suc k) n h e = go (λ l m. lowest_within k (n / 2) l m) (n % 2) refl
  where
    go : (n / 2 < 2 ^ k → n / 2 ≢ 0 → count_trailing_zeros k (n / 2) < k) → (d : ℕ) → n % 2 ≡ d → under d (count_trailing_zeros k (n / 2)) < suc k
    go ih zero q = omega (arith, ih ((div-lt_iff_lt-mul (omega arith)).1 (rw (pow-suc 2 k) at h)) (λ z. e (omega (arith, div-add-mod' n 2))))
    go ih (suc d) q = omega arith
