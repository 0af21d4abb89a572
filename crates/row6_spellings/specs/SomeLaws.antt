-- Laws of tests that hold of some number below n, and of the first number at which one of two tests holds. Assumes nothing.
use Rattle.std.specs.Prelude.{◌≡◌, refl, Bool, true, false, ◌||◌, ℕ, zero, suc, ◌≤◌, ◌<◌, min, ltb}
use Rattle.std.proofs.Common.{ap, sym, ◌∙◌, arith, lt-ltb, le-ltb, ltb-true, ltb-false}
use Rattle.sheet.specs.Sheet.{first}
use Rattle.sheet.proofs.FirstLaws.{Place, first_place, place_unique, first_congr, first_found}
use Rattle.meaning.specs.Rows.{some_below}

-- ---- tests of some number below n
pub some_zero : (p : ℕ → Bool) → some_below p 0 ≡ false
unfolding first
some_zero p = refl

pub some_suc : (p : ℕ → Bool) (n : ℕ) → some_below p (suc n) ≡ some_below p n || p n
unfolding first
some_suc p n = go (ltb (first p n) n) refl (p n)
  where
    go : (a : Bool) → ltb (first p n) n ≡ a → (b : Bool)
        → ltb (elim a [ true ↦ first p n | false ↦ elim b [ true ↦ n | false ↦ suc n ] ]) (suc n) ≡ a || b
    go true e b = lt-ltb (first p n) (suc n) (omega (arith, ltb-true (first p n) n e))
    go false e true = lt-ltb n (suc n) (omega arith)
    go false e false = le-ltb (suc n) (suc n) (omega arith)

pub some_congr : (p q : ℕ → Bool) (n : ℕ) → ((j : ℕ) → j < n → p j ≡ q j) → some_below p n ≡ some_below q n
some_congr p q n h = ap (λ (f : ℕ). ltb f n) (first_congr p q n h)

pub some_none : (p : ℕ → Bool) (n : ℕ) → ((j : ℕ) → j < n → p j ≡ false) → some_below p n ≡ false
some_none p zero h = some_zero p
some_none p (suc n) h = rw (some_suc p n, some_none p n (λ j k. h j (omega arith)), h n (omega arith))

-- a loop that looks for one keeps `first p i ≡ i`: it finds one, or none
pub some_found : (p : ℕ → Bool) (n i : ℕ) → i < n → first p i ≡ i → p i ≡ true → some_below p n ≡ true
some_found p n i h e t = rw (first_found p n i h e t) (lt-ltb i n h)

pub some_clear : (p : ℕ → Bool) (n i : ℕ) → i ≡ n → first p i ≡ i → some_below p n ≡ false
some_clear p n i h e = let f : first p n ≡ n = rw h at e in rw f (le-ltb n n (omega arith))

pub or_true : (a : Bool) → a || true ≡ true
or_true true = refl
or_true false = refl

pub or_false : (a : Bool) → a || false ≡ a
or_false true = refl
or_false false = refl

or_four : (a b c d : Bool) → (a || b) || (c || d) ≡ (a || c) || (b || d)
or_four true b c d = refl
or_four false true true d = refl
or_four false true false d = refl
or_four false false true d = refl
or_four false false false d = refl

pub some_or : (p q : ℕ → Bool) (n : ℕ) → some_below (λ j. p j || q j) n ≡ some_below p n || some_below q n
some_or p q zero = rw (some_zero p, some_zero q, some_zero (λ j. p j || q j))
some_or p q (suc n) = rw (some_suc (λ j. p j || q j) n, some_or p q n, some_suc p n, some_suc q n) (or_four (some_below p n) (some_below q n) (p n) (q n))

-- the first number at which one of two tests holds
pub first_or : (p q : ℕ → Bool) (n : ℕ) → first (λ j. p j || q j) n ≡ min (first p n) (first q n)
first_or p q n = go (ltb (first p n) (first q n)) refl
  where
    a : Place p n (first p n)
    a = first_place p n

    b : Place q n (first q n)
    b = first_place q n

    go : (c : Bool) → ltb (first p n) (first q n) ≡ c → first (λ j. p j || q j) n ≡ min (first p n) (first q n)
    go true e =
        let l : first p n < first q n = ltb-true (first p n) (first q n) e in
        let m : min (first p n) (first q n) ≡ first p n = omega arith in
        place_unique (λ j. p j || q j) n (first (λ j. p j || q j) n) (first p n) (first_place (λ j. p j || q j) n)
        (record { within = a.within; holds = λ h. rw (a.holds h); before = λ i h. rw (a.before i h, b.before i (omega arith)) })
        ∙ sym m
    go false e =
        let l : first q n ≤ first p n = ltb-false (first p n) (first q n) e in
        let m : min (first p n) (first q n) ≡ first q n = omega arith in
        place_unique (λ j. p j || q j) n (first (λ j. p j || q j) n) (first q n) (first_place (λ j. p j || q j) n)
        (record { within = b.within; holds = λ h. rw (b.holds h) (or_true (p (first q n))); before = λ i h. rw (a.before i (omega arith), b.before i h) })
        ∙ sym m
