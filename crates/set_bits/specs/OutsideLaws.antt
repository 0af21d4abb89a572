-- The lowest new bit of the first word that has one is the first member outside. Assumes nothing.
use Rattle.std.specs.Prelude.{◌≡◌, refl, ◌≢◌, List, false, ◌&&◌, not, ℕ, zero, suc, ◌+◌, ◌*◌, ◌/◌, ◌%◌, ◌^◌, ◌<◌, min, eqb, get_or}
use Rattle.std.proofs.Common.{ap, sym, ◌∙◌, arith, pow_pos, eq-eqb}
use Rattle.std.proofs.Math.Nat.{div-eq_of_lt}
use Rattle.std.proofs.Math.Decide.{dec_lt}
use Rattle.std.specs.Int.Bits.{bit_and, bit_xor, differ}
use Rattle.std.specs.Int.Count.{count_trailing_zeros}
use Rattle.sheet.specs.Sheet.{first}
use Rattle.sheet.proofs.FirstLaws.{place_unique, first_place}
use Rattle.set_bits.specs.Bits.{digit, has}
use Rattle.set_bits.specs.BitsLaws.{digit_lt, digit_and, digit_xor, lowest_set, lowest_below, lowest_within}
use Rattle.set_bits.specs.Outside.{outside}

new_one : (x y : ℕ) → x < 2 → y < 2 → eqb (min x (differ x y)) 1 ≡ (eqb x 1 && not (eqb y 1))
new_one zero zero h k = refl
new_one zero (suc zero) h k = refl
new_one zero (suc (suc y)) h k = absurd (omega arith)
new_one (suc zero) zero h k = refl
new_one (suc zero) (suc zero) h k = refl
new_one (suc zero) (suc (suc y)) h k = absurd (omega arith)
new_one (suc (suc x)) y h k = absurd (omega arith)

-- what is in a word and not in another
abbrev pub new : ℕ → ℕ → ℕ
new x y = bit_and x (bit_xor x y)

digit_new : (x y k : ℕ) → eqb (digit (new x y) k) 1 ≡ (eqb (digit x k) 1 && not (eqb (digit y k) 1))
digit_new x y k =
    ap (λ (z : ℕ). eqb z 1) (digit_and x (bit_xor x y) k ∙ ap (λ (z : ℕ). min (digit x k) z) (digit_xor x y k))
    ∙ new_one (digit x k) (digit y k) (digit_lt x k) (digit_lt y k)

module _ (s : List ℕ) (at : ℕ) (t : List ℕ) (to w : ℕ) where
  outside_digit : (m : ℕ) → m / 64 ≡ w → outside s at t to m ≡ eqb (digit (new (get_or s (at + w) 0) (get_or t (to + w) 0)) (m % 64)) 1
  unfolding outside has
  outside_digit m e = rw e (sym (digit_new (get_or s (at + w) 0) (get_or t (to + w) 0) (m % 64)))

  -- one word more with nothing outside
  pub outside_more : ((m : ℕ) → m < 64 * w → outside s at t to m ≡ false)
      → new (get_or s (at + w) 0) (get_or t (to + w) 0) ≡ 0
      → (m : ℕ)
      → m < 64 * (w + 1)
      → outside s at t to m ≡ false
  outside_more h e m l = go (dec_lt m (64 * w))
    where
      go : Dec (m < 64 * w) → outside s at t to m ≡ false
      go (yes k) = h m k
      go (no k) =
          outside_digit m (omega arith) ∙ ap (λ (x : ℕ). eqb (digit x (m % 64)) 1) e ∙ ap (λ (x : ℕ). eqb (x % 2) 1) (div-eq_of_lt (pow_pos (m % 64)))

  -- the lowest new bit of a word
  pub outside_found : ((m : ℕ) → m < 64 * w → outside s at t to m ≡ false)
      → (k words : ℕ)
      → w < words
      → k ≡ count_trailing_zeros 64 (new (get_or s (at + w) 0) (get_or t (to + w) 0))
      → new (get_or s (at + w) 0) (get_or t (to + w) 0) < 2 ^ 64
      → new (get_or s (at + w) 0) (get_or t (to + w) 0) ≢ 0
      → 64 * w + k ≡ first (outside s at t to) (64 * words)
  outside_found h k words l e f n =
      let x : ℕ = new (get_or s (at + w) 0) (get_or t (to + w) 0) in
      let q : k < 64 = rw e (lowest_within 64 x f n) in
      place_unique
      (outside s at t to)
      (64 * words)
      (64 * w + k)
      (first (outside s at t to) (64 * words))
      (record {
        within = omega arith;
        holds = λ _. outside_digit (64 * w + k) (omega arith) ∙ eq-eqb _ _ (ap (digit x) {y = k} (omega arith) ∙ rw e (lowest_set 64 x (lowest_within 64 x f n)));
        before = λ i j. before q i j (dec_lt i (64 * w));
      })
      (first_place (outside s at t to) (64 * words))
    where
      before : k < 64 → (i : ℕ) → i < 64 * w + k → Dec (i < 64 * w) → outside s at t to i ≡ false
      before q i j (yes a) = h i a
      before q i j (no a) =
          let x : ℕ = new (get_or s (at + w) 0) (get_or t (to + w) 0) in
          outside_digit i (omega arith) ∙ ap (λ (z : ℕ). eqb z 1) (lowest_below 64 x (i % 64) (omega arith))
