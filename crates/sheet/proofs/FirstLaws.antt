-- Laws of `first`, the place that every row gives. What it is, `Place`, has one value only: every other law follows from that.
-- Assumes nothing.
use Rattle.std.specs.Prelude.{◌≡◌, refl, Bool, true, false, ℕ, zero, suc, ◌+◌, ◌≤◌, ◌<◌, min, ltb}
use Rattle.std.proofs.Common.{◌∙◌, add-one, arith, le-ltb, ltb-true, ltb-false}
use Rattle.sheet.specs.Sheet.{first}
use Rattle.sheet.proofs.ListLaws.{contrary}

-- f is the first number below n at which the test holds, or n where there is none
pub record Place (p : ℕ → Bool) (n f : ℕ) : Type 0 where
  pub within : f ≤ n
  pub holds : f < n → p f ≡ true
  pub before : (i : ℕ) → i < f → p i ≡ false

-- the first of n + 1 numbers, by the first of n and the test at n
next : Bool → Bool → ℕ → ℕ → ℕ
next b c f n = elim b [ true ↦ f | false ↦ elim c [ true ↦ n | false ↦ suc n ] ]

place_next : (p : ℕ → Bool) (n f : ℕ) (b c : Bool) → ltb f n ≡ b → p n ≡ c → Place p n f → Place p (suc n) (next b c f n)
unfolding next
place_next p n f true c e h k = let l : f < n = ltb-true f n e in record { within = omega arith; holds = λ _. k.holds l; before = k.before }
place_next p n f false true e h k =
    let l : f ≡ n = omega (arith, ltb-false f n e, k.within) in
    record { within = omega arith; holds = λ _. h; before = λ i j. k.before i (omega arith) }
place_next p n f false false e h k =
    let l : f ≡ n = omega (arith, ltb-false f n e, k.within) in
    record { within = omega arith; holds = λ j. absurd (omega arith); before = λ i j. at i j (ltb i n) refl }
  where
    at : (i : ℕ) → i < suc n → (t : Bool) → ltb i n ≡ t → p i ≡ false
    at i j true d = k.before i (omega (arith, ltb-true i n d, ltb-false f n e))
    at i j false d = let s : i ≡ n = omega (arith, ltb-false i n d) in rw s h

pub first_place : (p : ℕ → Bool) (n : ℕ) → Place p n (first p n)
unfolding first next
first_place p zero = record { within = omega arith; holds = λ h. absurd (omega arith); before = λ i h. absurd (omega arith) }
first_place p (suc n) = place_next p n (first p n) (ltb (first p n) n) (p n) refl refl (first_place p n)

-- no other number is the place
pub place_unique : (p : ℕ → Bool) (n f g : ℕ) → Place p n f → Place p n g → f ≡ g
place_unique p n f g a b = go (ltb f g) (ltb g f) refl refl
  where
    go : (s t : Bool) → ltb f g ≡ s → ltb g f ≡ t → f ≡ g
    go true t d e =
        let l : f < g = ltb-true f g d in (contrary (p f) (a.holds (omega (arith, b.within))) (b.before f l))
    go false true d e =
        let l : g < f = ltb-true g f e in (contrary (p g) (b.holds (omega (arith, a.within))) (a.before g l))
    go false false d e = omega (arith, ltb-false f g d, ltb-false g f e)

pub first_le : (p : ℕ → Bool) (n : ℕ) → first p n ≤ n
first_le p n = (first_place p n).within

pub first_holds : (p : ℕ → Bool) (n : ℕ) → first p n < n → p (first p n) ≡ true
first_holds p n = (first_place p n).holds

pub first_before : (p : ℕ → Bool) (n i : ℕ) → i < first p n → p i ≡ false
first_before p n = (first_place p n).before

-- it is n exactly if the test holds nowhere below n
pub first_none : (p : ℕ → Bool) (n : ℕ) → ((i : ℕ) → i < n → p i ≡ false) → first p n ≡ n
first_none p n h = place_unique p n (first p n) n (first_place p n) (record { within = omega arith; holds = λ k. absurd (omega arith); before = h })

pub none_first : (p : ℕ → Bool) (n : ℕ) → first p n ≡ n → (i : ℕ) → i < n → p i ≡ false
none_first p n e i h = first_before p n i (omega arith)

-- where the test holds at i, the place is no later
pub first_le_at : (p : ℕ → Bool) (n i : ℕ) → i < n → p i ≡ true → first p n ≤ i
first_le_at p n i h t = go (ltb i (first p n)) refl
  where
    go : (s : Bool) → ltb i (first p n) ≡ s → first p n ≤ i
    go true d = (contrary (p i) t (first_before p n i (ltb-true i (first p n) d)))
    go false d = ltb-false i (first p n) d

-- tests that agree below n give the same place
pub first_congr : (p q : ℕ → Bool) (n : ℕ) → ((i : ℕ) → i < n → p i ≡ q i) → first p n ≡ first q n
first_congr p q n h =
    let k = first_place q n in
    place_unique p n (first p n) (first q n) (first_place p n) (record {
      within = k.within;
      holds = λ l. h (first q n) l ∙ k.holds l;
      before = λ i l. h i (omega (arith, k.within)) ∙ k.before i l;
    })

-- the first below m, of what is below n
pub first_prefix : (p : ℕ → Bool) (m n : ℕ) → m ≤ n → first p m ≡ min m (first p n)
first_prefix p m n h = go (ltb (first p n) m) refl
  where
    k : Place p n (first p n)
    k = first_place p n

    go : (s : Bool) → ltb (first p n) m ≡ s → first p m ≡ min m (first p n)
    go true d =
        let l : first p n < m = ltb-true (first p n) m d in
        let e : first p m ≡ first p n = place_unique p m (first p m) (first p n) (first_place p m) (record { within = omega arith; holds = λ _. k.holds (omega arith); before = k.before }) in
        omega arith
    go false d =
        let l : m ≤ first p n = ltb-false (first p n) m d in
        let e : first p m ≡ m = first_none p m (λ i j. k.before i (omega arith)) in
        omega arith

-- ---- for a loop
-- A loop that looks for the place keeps `first p i ≡ i`. A turn: the number is passed.
pub first_more : (p : ℕ → Bool) (i : ℕ) → first p i ≡ i → p i ≡ false → first p (i + 1) ≡ i + 1
unfolding next
first_more p i e h =
    let k : Place p i i = rw e at (first_place p i) in
    rw add-one (place_unique p (suc i) (first p (suc i)) (suc i) (first_place p (suc i)) (place_next p i i false false (le-ltb i i (omega arith)) h k))

-- the end: the number is found
pub first_found : (p : ℕ → Bool) (n i : ℕ) → i < n → first p i ≡ i → p i ≡ true → first p n ≡ i
first_found p n i h e t =
    place_unique p n (first p n) i (first_place p n) (record { within = omega arith; holds = λ _. t; before = none_first p i e })
