-- What `owners_of` finds where row 5 passes: the last part of a line has that line for its owner, and a part and the part
-- before it have the same. Assumes nothing.
use Rattle.std.specs.Prelude.{◌≡◌, refl, List, [], ◌∷◌, Bool, true, false, eqb, length, get_or, set, replicate}
use Rattle.std.proofs.Common.{sym, ap, ◌∙◌, arith, length-set, get_or-set_same, get_or-set_other, eqb-true}
use Prim.Native.Nat.{ℕ, zero, suc, ◌≤◌, ◌<◌}
use Rattle.std.proofs.lemmas.List.{length-replicate}
use Rattle.std.proofs.lemmas.Bool.{eqb-false}
use Rattle.sheet.specs.Line.{Line}
use Rattle.meaning.specs.Rows.{nth_line}
use Rattle.meaning_patterns.specs.Patterns.{last_of, previous_of}
use Rattle.pattern_laws.specs.Linked.{Linked, Unshared}
use Rattle.pattern_laws.specs.Marks.{claim, owners_from, owners_of}

pub record Owned (qs : List Line) (os : List ℕ) : Type 0 where
  pub last : (q j : ℕ) → q < length qs → last_of (nth_line qs q) ≡ suc j → get_or os j 0 ≡ suc q
  pub previous : (q j : ℕ) → q < length qs → previous_of (nth_line qs q) ≡ suc j → get_or os j 0 ≡ get_or os q 0

-- ---- one entry
length_claim : (os : List ℕ) (a v : ℕ) → length (claim os a v) ≡ length os
unfolding claim
length_claim os zero v = refl
length_claim os (suc k) v = length-set os k v

claim_same : (os : List ℕ) (a v k : ℕ) → a ≡ suc k → k < length os → get_or (claim os a v) k 0 ≡ v
unfolding claim
claim_same os zero v k e h = absurd (omega arith)
claim_same os (suc a) v k e h = let s : a ≡ k = omega arith in rw s (get_or-set_same os k v 0 h)

claim_other : (os : List ℕ) (a v k : ℕ) → (a ≡ suc k → ⊥) → get_or (claim os a v) k 0 ≡ get_or os k 0
unfolding claim
claim_other os zero v k h = refl
claim_other os (suc a) v k h = get_or-set_other os a k v 0 (λ e. h (omega arith))

-- ---- the lines from m on are done
pub record OwnedFrom (qs : List Line) (m : ℕ) (os : List ℕ) : Type 0 where
  pub size : length os ≡ length qs
  pub last : (q j : ℕ) → m ≤ q → q < length qs → last_of (nth_line qs q) ≡ suc j → get_or os j 0 ≡ suc q
  pub previous : (q j : ℕ) → m ≤ q → q < length qs → previous_of (nth_line qs q) ≡ suc j → get_or os j 0 ≡ get_or os q 0

module _ (qs : List Line) (linked : Linked qs) (unshared : Unshared qs) where
  pub owned_step : (m : ℕ) (os : List ℕ) → m < length qs → OwnedFrom qs (suc m) os
      → OwnedFrom qs m (claim (claim os (last_of (nth_line qs m)) (suc m)) (previous_of (nth_line qs m)) (get_or os m 0))
  owned_step m os h o =
      record {
        size = length_claim ms b (get_or os m 0) ∙ length_claim os a (suc m) ∙ o.size;
        last = λ q j i k e. lasts q j i k e (eqb q m) refl;
        previous = λ q j i k e. previouses q j i k e (eqb q m) refl;
      }
    where
      a : ℕ
      a = last_of (nth_line qs m)

      b : ℕ
      b = previous_of (nth_line qs m)

      ms : List ℕ
      ms = claim os a (suc m)

      ns : List ℕ
      ns = claim ms b (get_or os m 0)

      same : (k : ℕ) → (a ≡ suc k → ⊥) → (b ≡ suc k → ⊥) → get_or ns k 0 ≡ get_or os k 0
      same k x y = claim_other ms b (get_or os m 0) k y ∙ claim_other os a (suc m) k x

      lasts : (q j : ℕ) → m ≤ q → q < length qs → last_of (nth_line qs q) ≡ suc j → (t : Bool) → eqb q m ≡ t → get_or ns j 0 ≡ suc q
      lasts q j i k e true t =
          let s : q ≡ m = eqb-true q m t in
          let d : a ≡ suc j = rw s at e in
          claim_other ms b (get_or os m 0) j (λ c. unshared.two m h (omega arith) (d ∙ sym c))
          ∙ claim_same os a (suc m) j d (omega (arith, linked.last m h, o.size))
          ∙ ap suc (sym s)
      lasts q j i k e false t =
          let l : m < q = omega (arith, eqb-false q m t) in
          let d = unshared.last q k (omega arith) m l in
          same j (λ c. d.last (c ∙ sym e)) (λ c. d.previous (c ∙ sym e)) ∙ o.last q j l k e

      previouses : (q j : ℕ) → m ≤ q → q < length qs → previous_of (nth_line qs q) ≡ suc j → (t : Bool) → eqb q m ≡ t → get_or ns j 0 ≡ get_or ns q 0
      previouses q j i k e true t =
          let s : q ≡ m = eqb-true q m t in
          let d : b ≡ suc j = rw s at e in
          claim_same ms b (get_or os m 0) j d (omega (arith, linked.previous m h, o.size, length_claim os a (suc m)))
          ∙ sym (same m (λ c. omega (arith, linked.last m h)) (λ c. omega (arith, linked.previous m h)))
          ∙ ap (λ (x : ℕ). get_or ns x 0) (sym s)
      previouses q j i k e false t =
          let l : m < q = omega (arith, eqb-false q m t) in
          let d = unshared.previous q k (omega arith) m l in
          same j (λ c. d.last (c ∙ sym e)) (λ c. d.previous (c ∙ sym e))
          ∙ o.previous q j l k e
          ∙ sym (same q (λ c. omega (arith, linked.last m h)) (λ c. omega (arith, linked.previous m h)))

  owned_from : (m : ℕ) (os : List ℕ) → m ≤ length qs → OwnedFrom qs m os → OwnedFrom qs 0 (owners_from qs m os)
  unfolding owners_from
  owned_from zero os h o = o
  owned_from (suc m) os h o =
      owned_from m (claim (claim os (last_of (nth_line qs m)) (suc m)) (previous_of (nth_line qs m)) (get_or os m 0)) (omega arith) (owned_step m os h o)

  -- none is done
  pub owned_none : OwnedFrom qs (length qs) (replicate (length qs) 0)
  owned_none =
      record { size = length-replicate (length qs) 0; last = λ q j i k. absurd (omega arith); previous = λ q j i k. absurd (omega arith) }

  pub owners_owned : Owned qs (owners_of qs)
  unfolding owners_of
  owners_owned =
      let o : OwnedFrom qs 0 (owners_from qs (length qs) (replicate (length qs) 0)) = owned_from (length qs) (replicate (length qs) 0) (omega arith) owned_none in
      record { last = λ q j k. o.last q j (omega arith) k; previous = λ q j k. o.previous q j (omega arith) k }

  -- an entry for each line
  pub length_owners : length (owners_of qs) ≡ length qs
  unfolding owners_of
  length_owners = (owned_from (length qs) (replicate (length qs) 0) (omega arith) owned_none).size

-- ---- each owner is a line
claim_within : (os : List ℕ) (a v n : ℕ) → v ≤ n → ((k : ℕ) → get_or os k 0 ≤ n) → (k : ℕ) → get_or (claim os a v) k 0 ≤ n
unfolding claim
claim_within os zero v n h i k = i k
claim_within os (suc a) v n h i k = set_within os a k i
  where
    set_within : (os : List ℕ) (a k : ℕ) → ((k : ℕ) → get_or os k 0 ≤ n) → get_or (set os a v) k 0 ≤ n
    set_within [] a k i = i k
    set_within (o ∷ os) zero zero i = h
    set_within (o ∷ os) zero (suc k) i = i (suc k)
    set_within (o ∷ os) (suc a) zero i = i 0
    set_within (o ∷ os) (suc a) (suc k) i = set_within os a k (λ j. i (suc j))

owners_from_within : (qs : List Line) (m : ℕ) (os : List ℕ) (n : ℕ) → m ≤ n → ((k : ℕ) → get_or os k 0 ≤ n) → (k : ℕ) → get_or (owners_from qs m os) k 0 ≤ n
unfolding owners_from
owners_from_within qs zero os n h i k = i k
owners_from_within qs (suc m) os n h i k =
    let a : ℕ = last_of (nth_line qs m) in
    owners_from_within qs m (claim (claim os a (suc m)) (previous_of (nth_line qs m)) (get_or os m 0)) n (omega arith) (claim_within (claim os a (suc m)) (previous_of (nth_line qs m)) (get_or os m 0) n (i m) (claim_within os a (suc m) n h i)) k

pub owners_within : (qs : List Line) (q : ℕ) → get_or (owners_of qs) q 0 ≤ length qs
unfolding owners_of
owners_within qs q = owners_from_within qs (length qs) (replicate (length qs) 0) (length qs) (omega arith) (zeros (length qs)) q
  where
    zeros : (n k : ℕ) → get_or (replicate n 0) k 0 ≤ length qs
    zeros zero k = omega arith
    zeros (suc n) zero = omega arith
    zeros (suc n) (suc k) = zeros n k
