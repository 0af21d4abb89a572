-- Laws of parts of a list, and of sums that stop above the limit. Assumes nothing.
use Rattle.std.specs.Prelude.{◌≡◌, List, [], ◌∷◌, ◌++◌, Bool, length, get_or, set, take, drop}
use Rattle.std.proofs.Math.Path.{refl, ap, sym}
use Rattle.std.proofs.Common.{◌∙◌, append-nil, append_assoc, length-take, length-drop, length-set, take-suc, take-take, take-suc-set, drop-drop, get_or-take}
use Rattle.std.proofs.Math.Bool.{true, false}
use Prim.Native.Nat.{ℕ, zero, suc, ◌+◌, ◌-◌, ◌*◌, ◌/◌, ◌≤◌, ◌<◌}
use native.Mathlib.Omega.{arith}
use Rattle.std.proofs.Math.Numerals.{add-one}
use Rattle.std.proofs.Math.Dec.{leb}
use Rattle.std.proofs.lemmas.List.{drop-append-le, take-set-le}
use borrow.Author.Tests.{leb-true, leb-false, le-leb}
use Rattle.model.specs.Resolve.{ok, fault}
use Rattle.resolve_outcomes.specs.Outcome.{coded, nodes, total, built}
use Rattle.resolve_outcomes.specs.Answer.{ten, answer}
use Rattle.resolve_outcomes.specs.Scratch.{part, Same, capped, Says}
use Rattle.resolve_outcomes.proofs.Laws.Answer.{answer_value}

-- ---- sums
module _ (limit : ℕ) where
  pub capped_small : (n : ℕ) → n ≤ limit → capped limit n ≡ n
  unfolding capped
  capped_small n h = ap (λ (b : Bool). elim b [ true ↦ n | false ↦ suc limit ]) (le-leb n limit h)

  over : (n : ℕ) → limit < n → leb n limit ≡ false
  over n h = go (leb n limit) refl
    where
      go : (c : Bool) → leb n limit ≡ c → c ≡ false
      go true e = absurd (omega (arith, leb-true n limit e))
      go false e = refl

  pub capped_large : (n : ℕ) → limit < n → capped limit n ≡ suc limit
  unfolding capped
  capped_large n h = ap (λ (b : Bool). elim b [ true ↦ n | false ↦ suc limit ]) (over n h)

  pub capped_most : (n : ℕ) → capped limit n ≤ suc limit
  unfolding capped
  capped_most n = go (leb n limit) refl
    where
      go : (b : Bool) → leb n limit ≡ b → elim b [ true ↦ n | false ↦ suc limit ] ≤ suc limit
      go true e = omega (arith, leb-true n limit e)
      go false e = omega arith

  pub capped_over : (n : ℕ) → limit < capped limit n → limit < n
  unfolding capped
  capped_over n = go (leb n limit) refl
    where
      go : (b : Bool) → leb n limit ≡ b → limit < elim b [ true ↦ n | false ↦ suc limit ] → limit < n
      go true e h = h
      go false e h = leb-false n limit e

  pub capped_under : (n : ℕ) → capped limit n ≤ limit → (n ≤ limit) × (capped limit n ≡ n)
  unfolding capped
  capped_under n = go (leb n limit) refl
    where
      go : (b : Bool) → leb n limit ≡ b → elim b [ true ↦ n | false ↦ suc limit ] ≤ limit → (n ≤ limit) × (elim b [ true ↦ n | false ↦ suc limit ] ≡ n)
      go true e h = (h, refl)
      go false e h = absurd (omega arith)

  pub capped_add : (a b : ℕ) → capped limit (capped limit a + b) ≡ capped limit (a + b)
  capped_add a b = go (leb a limit) refl
    where
      go : (c : Bool) → leb a limit ≡ c → capped limit (capped limit a + b) ≡ capped limit (a + b)
      go true e = ap (λ (n : ℕ). capped limit (n + b)) (capped_small a (leb-true a limit e))
      go false e =
          let h : limit < a = leb-false a limit e in
          capped_large (capped limit a + b) (omega (arith, capped_large a h)) ∙ sym (capped_large (a + b) (omega arith))

-- ---- parts
pub part_none : (i : ℕ) (xs : List ℕ) → part i 0 xs ≡ []
unfolding part
part_none i xs = drop_none i (take (i + 0) xs) (omega (arith, length-take (i + 0) xs))
  where
    drop_none : (n : ℕ) (ys : List ℕ) → length ys ≤ n → drop n ys ≡ []
    drop_none zero [] h = refl
    drop_none zero (y ∷ ys) h = absurd (omega arith)
    drop_none (suc n) [] h = refl
    drop_none (suc n) (y ∷ ys) h = drop_none n ys (omega arith)

pub part_length : (i n : ℕ) (xs : List ℕ) → i + n ≤ length xs → length (part i n xs) ≡ n
unfolding part
part_length i n xs h = omega (arith, length-drop i (take (i + n) xs), length-take (i + n) xs)

pub part_last : (i n : ℕ) (xs : List ℕ) → i + n < length xs → part i (suc n) xs ≡ part i n xs ++ (get_or xs (i + n) 0 ∷ [])
unfolding part
part_last i n xs h =
    let e : i + suc n ≡ suc (i + n) = omega arith in
    rw (e, take-suc xs (i + n) 0 h) (drop-append-le i (take (i + n) xs) (get_or xs (i + n) 0 ∷ []) (omega (arith, length-take (i + n) xs)))

-- what stands below place i is kept
pub part_same : (i n k : ℕ) (xs ys : List ℕ) → i + n ≤ k → Same k xs ys → part i n xs ≡ part i n ys
unfolding part
part_same i n k xs ys h s =
    ap (drop i) (sym (take-take (i + n) k xs h) ∙ (ap (take (i + n)) s.below ∙ take-take (i + n) k ys h))

-- the later part of a part
pub part_drop : (i n k : ℕ) (xs : List ℕ) → k ≤ n → drop k (part i n xs) ≡ part (i + k) (n - k) xs
unfolding part
part_drop i n k xs h =
    let e : i + k + (n - k) ≡ i + n = omega arith in
    rw e (drop-drop k i (take (i + n) xs))

-- ---- what is kept
pub same_refl : (k : ℕ) (xs : List ℕ) → Same k xs xs
same_refl k xs = record { below = refl; long = refl }

pub same_sym : (k : ℕ) (xs ys : List ℕ) → Same k xs ys → Same k ys xs
same_sym k xs ys s = record { below = sym s.below; long = sym s.long }

pub same_get : (k i : ℕ) (xs ys : List ℕ) → i < k → Same k xs ys → get_or xs i 0 ≡ get_or ys i 0
same_get k i xs ys h s = sym (get_or-take k xs i 0 h) ∙ (ap (λ (zs : List ℕ). get_or zs i 0) s.below ∙ get_or-take k ys i 0 h)

pub same_trans : (k : ℕ) (xs ys zs : List ℕ) → Same k xs ys → Same k ys zs → Same k xs zs
same_trans k xs ys zs s t = record { below = s.below ∙ t.below; long = s.long ∙ t.long }

pub same_less : (j k : ℕ) (xs ys : List ℕ) → j ≤ k → Same k xs ys → Same j xs ys
same_less j k xs ys h s =
    record { below = sym (take-take j k xs h) ∙ (ap (take j) s.below ∙ take-take j k ys h); long = s.long }

pub same_set : (k i v : ℕ) (xs : List ℕ) → k ≤ i → Same k xs (set xs i v)
same_set k i v xs h = record { below = sym (take-set-le k xs i v h); long = sym (length-set xs i v) }

-- one more, written behind
pub part_set : (i n v : ℕ) (xs : List ℕ) → i + n < length xs → part i (suc n) (set xs (i + n) v) ≡ part i n xs ++ (v ∷ [])
unfolding part
part_set i n v xs h =
    let e : i + suc n ≡ suc (i + n) = omega arith in
    rw (e, take-suc-set xs (i + n) v h) (drop-append-le i (take (i + n) xs) (v ∷ []) (omega (arith, length-take (i + n) xs)))

-- ---- totals
pub total_last : (os : List ℕ) (o : ℕ) → total (os ++ (o ∷ [])) ≡ total os + nodes o
unfolding total
total_last [] o = omega arith
total_last (x ∷ os) o = omega (arith, total_last os o)

-- a node, measured
pub built_small : (limit : ℕ) (os : List ℕ) (h : ℕ) → limit ≤ 1024 → h < 4 → suc (total os) ≤ limit → Says (built limit os h) (4 * suc (total os) + h)
unfolding built coded
built_small limit os h l q m =
    record {
      decided = omega arith;
      small = omega arith;
      is = ap (λ (b : Bool). elim b [ true ↦ ok (4 * suc (total os) + h) | false ↦ fault 10 ]) (le-leb (suc (total os)) limit m) ∙ sym (answer_value (4 * suc (total os) + h) (4 * suc (total os) + h) (omega arith));
    }

pub built_large : (limit : ℕ) (os : List ℕ) (h : ℕ) → limit < suc (total os) → Says (built limit os h) ten
unfolding built answer
built_large limit os h m =
    record { decided = omega arith; small = omega arith; is = ap (λ (b : Bool). elim b [ true ↦ ok (coded (suc (total os)) h) | false ↦ fault 10 ]) (over limit (suc (total os)) m) }

-- a sum that goes on by one outcome
module _ (limit from : ℕ) (xs : List ℕ) (at : ℕ) where
  pub sum_none : from ≤ suc limit → from ≡ capped limit (from + total (part at 0 xs))
  unfolding total
  sum_none h = sym (rw (part_none at xs) (ap (capped limit) (add_none from) ∙ go (leb from limit) refl))
    where
      add_none : (n : ℕ) → n + 0 ≡ n
      add_none n = omega arith

      go : (b : Bool) → leb from limit ≡ b → capped limit from ≡ from
      go true e = capped_small limit from (leb-true from limit e)
      go false e = capped_large limit from (leb-false from limit e) ∙ omega (arith, leb-false from limit e)

  pub sum_more : (n i : ℕ) → n ≡ capped limit (from + total (part at i xs)) → at + i < length xs → capped limit (n + get_or xs (at + i) 0 / 4) ≡ capped limit (from + total (part at (i + 1) xs))
  unfolding nodes
  sum_more n i e h =
      rw (e, add-one, part_last at i xs h, capped_add)
      (ap (capped limit) (add_assoc_of from (total (part at i xs)) (get_or xs (at + i) 0 / 4) ∙ ap (λ (m : ℕ). from + m) (sym (total_last (part at i xs) (get_or xs (at + i) 0)))))
    where
      add_assoc_of : (a b c : ℕ) → a + b + c ≡ a + (b + c)
      add_assoc_of a b c = omega arith

-- two parts, one behind the other
pub part_join : (i m n : ℕ) (xs : List ℕ) → i + (m + n) ≤ length xs → part i (m + n) xs ≡ part i m xs ++ part (i + m) n xs
part_join i m zero xs h =
    let e : m + 0 ≡ m = omega arith in
    rw (e, part_none (i + m) xs) (sym (append-nil (part i m xs)))
part_join i m (suc n) xs h =
    let e : m + suc n ≡ suc (m + n) = omega arith in
    let f : i + m + n ≡ i + (m + n) = omega arith in
    rw (e, part_last i (m + n) xs (omega arith), part_join i m n xs (omega arith), part_last (i + m) n xs (omega arith), f) (append_assoc (part i m xs) (part (i + m) n xs) (get_or xs (i + (m + n)) 0 ∷ []))
