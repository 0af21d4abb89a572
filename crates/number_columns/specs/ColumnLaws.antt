-- Reading what was written, and writing what was read, for any width.
-- Assumes nothing.
use Rattle.std.specs.Prelude.{◌≡◌, refl, Some, List, [], ◌∷◌, ◌++◌, Bool, true, false, ◌&&◌, ℕ, zero, suc, ◌+◌, ◌*◌, ◌-◌, ◌/◌, ◌%◌, ◌^◌, ◌≤◌, ◌<◌, eqb, leb, length, take, drop, set, get_or}
use Rattle.std.proofs.Common.{ap, ap₂, ◌∙◌, append-nil, append_assoc, arith, lt_of_lt_of_le, add-one, drop_of_length-le, take-suc, ne_eqb, le-leb, eqb-true, leb-true}
use Rattle.std.proofs.Math.Nat.{pow-le-pow_right}
use Rattle.std.proofs.Math.Seq.{append_snoc}
use Rattle.std.proofs.lemmas.Bool.{eqb-false}
use Rattle.number_columns.specs.declared.Scan.{Scan}
use Rattle.number_columns.specs.declared.Scan.TheVariants.{Blank, Zero, In, Broken}
use Rattle.number_columns.specs.Column.{pick, mark, digit, step, scan, told, read, shown, write}

scan_append : (a : Scan) (s : List ℕ) (d : ℕ) → scan a (s ++ (d ∷ [])) ≡ step (scan a s) d
unfolding scan
scan_append a [] d = refl
scan_append a (x ∷ s) d = scan_append (step a x) s d

digit_of : (r : ℕ) → r < 10 → digit (48 + r) ≡ true
digit_of r h = rw (le-leb 48 (48 + r) (omega arith)) (le-leb (48 + r) 57 (omega arith))

-- what has been read once n is written in columns that end in no 0 alone
seen : ℕ → Scan
seen n = pick (eqb n 0) Blank (In n)

-- one digit more
step_digit : (q r n : ℕ) → r < 10 → q * 10 + r ≡ n → 0 < n → step (seen q) (48 + r) ≡ In n
unfolding step seen
step_digit zero r n hr e h =
    simp (ne_eqb (48 + r) 32 (λ z. omega arith), ne_eqb (48 + r) 48 (λ z. omega arith), digit_of r hr) (ap In (omega arith))
step_digit (suc q) r n hr e h = simp (ne_eqb (suc q) 0 (λ z. omega arith), digit_of r hr) (ap In (omega arith))

step_shown : (n : ℕ) → step (seen (n / 10)) (pick (eqb n 0) 32 (48 + n % 10)) ≡ seen n
unfolding seen step
step_shown zero = refl
step_shown (suc n) = rw (ne_eqb (suc n) 0 (λ e. omega arith)) (step_digit (suc n / 10) (suc n % 10) (suc n) (omega arith) (omega arith) (omega arith))

scan_shown : (w n : ℕ) → n < 10 ^ w → scan Blank (shown w n) ≡ seen n
unfolding shown scan seen
scan_shown zero zero h = refl
scan_shown zero (suc n) h = absurd (omega arith)
scan_shown (suc w) n h = rw (scan_append, scan_shown w (n / 10) (omega arith)) (step_shown n)

pub read_write : (w n : ℕ) → n < 10 ^ suc w → read (write (suc w) n) ≡ Some n
unfolding read write seen step
read_write w n h = rw (scan_append, scan_shown w (n / 10) (omega arith)) (last n)
  where
    last : (n : ℕ) → told (step (seen (n / 10)) (48 + n % 10)) ≡ Some n
    last zero = refl
    last (suc n) = ap told (step_digit (suc n / 10) (suc n % 10) (suc n) (omega arith) (omega arith) (omega arith))

length_snoc : (p : List ℕ) (d : ℕ) → length (p ++ (d ∷ [])) ≡ suc (length p)
length_snoc [] d = refl
length_snoc (x ∷ p) d = ap suc (length_snoc p d)

pub shown_length : (w n : ℕ) → length (shown w n) ≡ w
unfolding shown
shown_length zero n = refl
shown_length (suc w) n = rw length_snoc (ap suc (shown_length w (n / 10)))

pub write_length : (w n : ℕ) → length (write w n) ≡ w
unfolding write
write_length zero n = refl
write_length (suc w) n = rw length_snoc (ap suc (shown_length w (n / 10)))

-- ---- the other way: what the columns p hold, by what has been read of them
Holds : Scan → List ℕ → Type 0
Holds Blank p = p ≡ shown (length p) 0
Holds Zero p = p ≡ write (length p) 0
Holds (In v) p = (0 < v) × (v < 10 ^ length p) × (p ≡ shown (length p) v)
Holds Broken p = Unit {0}

pub ten_pos : (w : ℕ) → 0 < 10 ^ w
ten_pos zero = omega arith
ten_pos (suc w) = omega (arith, ten_pos w)

pub digit_true : (d : ℕ) → digit d ≡ true → (48 ≤ d) × (d ≤ 57)
digit_true d h = go (leb 48 d) refl h
  where
    go : (b : Bool) → leb 48 d ≡ b → b && leb d 57 ≡ true → (48 ≤ d) × (d ≤ 57)
    go true e k = (leb-true 48 d e, leb-true d 57 k)
    go false e k = let z : ◌≡◌ {A = ℕ} 0 1 = cc in absurd (omega arith)

more : (p : List ℕ) (v d n : ℕ) → 48 ≤ d → d ≤ 57 → p ≡ shown (length p) v → v < 10 ^ length p → 0 < n → n ≡ v * 10 + (d - 48)
    → Holds (In n) (p ++ (d ∷ []))
unfolding Holds shown
more p v d n h1 h2 e q z s =
    rw length_snoc (
      z,
      omega arith,
      ap₂ (λ (a : List ℕ) (b : ℕ). a ++ (b ∷ []))
          (e ∙ ap (shown (length p)) {x = v} {y = n / 10} (omega arith))
          (rw (ne_eqb n 0 (λ k. omega arith)) (omega arith)),
    )

holds_step : (a : Scan) (p : List ℕ) (d : ℕ) → Holds a p → Holds (step a d) (p ++ (d ∷ []))
unfolding Holds step shown write
holds_step Blank p d h = go (eqb d 32) refl
  where
    go_digit : (b : Bool) → digit d ≡ b → (d ≡ 48 → ⊥) → Holds (pick b (In (d - 48)) Broken) (p ++ (d ∷ []))
    go_digit true e n =
        let k : (48 ≤ d) × (d ≤ 57) = digit_true d e in
        more p 0 d (d - 48) k.0 k.1 h (ten_pos (length p)) (omega arith) (omega arith)
    go_digit false e n = tt

    go_zero : (b : Bool) → eqb d 48 ≡ b → Holds (pick b Zero (pick (digit d) (In (d - 48)) Broken)) (p ++ (d ∷ []))
    go_zero true e = rw length_snoc (ap₂ (λ (a : List ℕ) (b : ℕ). a ++ (b ∷ [])) h (eqb-true d 48 e))
    go_zero false e = go_digit (digit d) refl (eqb-false d 48 e)

    go : (b : Bool) → eqb d 32 ≡ b → Holds (pick b Blank (pick (eqb d 48) Zero (pick (digit d) (In (d - 48)) Broken))) (p ++ (d ∷ []))
    go true e = rw length_snoc (ap₂ (λ (a : List ℕ) (b : ℕ). a ++ (b ∷ [])) h (eqb-true d 32 e))
    go false e = go_zero (eqb d 48) refl
holds_step Zero p d h = tt
holds_step (In v) p d h = go (digit d) refl
  where
    go : (b : Bool) → digit d ≡ b → Holds (pick b (In (v * 10 + (d - 48))) Broken) (p ++ (d ∷ []))
    go true e =
        let k : (48 ≤ d) × (d ≤ 57) = digit_true d e in
        more p v d (v * 10 + (d - 48)) k.0 k.1 h.2 h.1 (omega arith) refl
    go false e = tt
holds_step Broken p d h = tt

holds_scan : (s : List ℕ) (a : Scan) (p : List ℕ) → Holds a p → Holds (scan a s) (p ++ s)
unfolding scan
holds_scan [] a p h = rw append-nil h
holds_scan (d ∷ s) a p h = rw (append_snoc p d s) at (holds_scan s (step a d) (p ++ (d ∷ [])) (holds_step a p d h))

-- columns that hold a number are how it is written, and it fits them
pub write_read : (s : List ℕ) (n : ℕ) → read s ≡ Some n → (s ≡ write (length s) n) × (n < 10 ^ length s)
unfolding read Holds write shown
write_read s n e = go (scan Blank s) s e (holds_scan s Blank [] refl)
  where
    big : (s : List ℕ) (v : ℕ) → 0 < v → v < 10 ^ length s → s ≡ shown (length s) v → s ≡ write (length s) v
    big [] v h k q = refl
    big (x ∷ s) v h k q = q ∙ ap (λ (d : ℕ). shown (length s) (v / 10) ++ (d ∷ [])) (rw (ne_eqb v 0 (λ z. omega arith)) refl)

    go : (a : Scan) (s : List ℕ) → told a ≡ Some n → Holds a s → (s ≡ write (length s) n) × (n < 10 ^ length s)
    go Blank s k h = let z : ◌≡◌ {A = ℕ} 0 1 = cc in absurd (omega arith)
    go Zero s k h = let z : 0 ≡ n = cc in (h ∙ ap (write (length s)) z, rw (← z) (ten_pos (length s)))
    go (In v) s k h = let z : v ≡ n = cc in (big s v h.0 h.1 h.2 ∙ ap (write (length s)) z, rw (← z) h.1)
    go Broken s k h = let z : ◌≡◌ {A = ℕ} 0 1 = cc in absurd (omega arith)

-- ---- for a loop over the columns
pub scan_take : (l : List ℕ) (i : ℕ) → i < length l → scan Blank (take (i + 1) l) ≡ step (scan Blank (take i l)) (get_or l i 0)
scan_take l i h = rw (add-one, take-suc l i 0) (scan_append Blank (take i l) (get_or l i 0))

-- a number in progress has w digits at most
abbrev pub Below : ℕ → Scan → Type 0
Below w Blank = Unit {0}
Below w Zero = Unit {0}
Below w (In v) = v < 10 ^ w
Below w Broken = Unit {0}

pub scan_below : (w : ℕ) (s : List ℕ) → length s ≤ w → Below w (scan Blank s)
unfolding Holds shown
scan_below w s h = go (scan Blank s) (holds_scan s Blank [] refl)
  where
    go : (a : Scan) → Holds a s → Below w a
    go Blank k = tt
    go Zero k = tt
    go (In v) k = lt_of_lt_of_le k.1 (pow-le-pow_right (omega arith) h)
    go Broken k = tt

-- ---- for a loop that writes the columns from the right
pub drop_set_same : (l : List ℕ) (i v : ℕ) → i < length l → drop i (set l i v) ≡ v ∷ drop (suc i) l
drop_set_same [] i v h = absurd (omega arith)
drop_set_same (x ∷ l) zero v h = refl
drop_set_same (x ∷ l) (suc i) v h = drop_set_same l i v (omega arith)

pub shown_left : (i m : ℕ) (out : List ℕ) → i < length out
    → shown i (m / 10) ++ drop i (set out i (mark m)) ≡ shown (suc i) m ++ drop (suc i) out
unfolding shown
shown_left i m out h = simp (drop_set_same out i (mark m) h, append_assoc)

pub write_last : (w n : ℕ) (out : List ℕ) → length out ≡ suc w → shown w (n / 10) ++ drop w (set out w (48 + n % 10)) ≡ write (suc w) n
unfolding write
write_last w n out e =
    let h : w < length out = omega arith in
    simp (drop_set_same out w (48 + n % 10) h, drop_of_length-le out {i = suc w} (omega arith))

pub write_none : (n : ℕ) (out : List ℕ) → length out ≡ 0 → out ≡ write (length out) n
unfolding write
write_none n [] e = refl
write_none n (x ∷ out) e = absurd (omega arith)

-- ---- for columns that begin with four spaces
pub scan_spaces : (s : List ℕ) → 4 ≤ length s → eqb (get_or s 0 0) 32 && eqb (get_or s 1 0) 32 && eqb (get_or s 2 0) 32 && eqb (get_or s 3 0) 32 ≡ true
    → scan Blank (drop 4 s) ≡ scan Blank s
unfolding scan step
scan_spaces [] h e = absurd (omega arith)
scan_spaces (a ∷ []) h e = absurd (omega arith)
scan_spaces (a ∷ b ∷ []) h e = absurd (omega arith)
scan_spaces (a ∷ b ∷ c ∷ []) h e = absurd (omega arith)
scan_spaces (a ∷ b ∷ c ∷ d ∷ s) h e = go (eqb a 32) refl (eqb b 32) refl (eqb c 32) refl (eqb d 32) refl e
  where
    go : (p : Bool) → eqb a 32 ≡ p → (q : Bool) → eqb b 32 ≡ q → (r : Bool) → eqb c 32 ≡ r → (t : Bool) → eqb d 32 ≡ t → p && q && r && t ≡ true
        → scan Blank s ≡ scan Blank (a ∷ b ∷ c ∷ d ∷ s)
    go true i true j true k true l m = rw (i, j, k, l)
    go true i true j true k false l m = let z : ◌≡◌ {A = ℕ} 0 1 = cc in absurd (omega arith)
    go true i true j false k t l m = let z : ◌≡◌ {A = ℕ} 0 1 = cc in absurd (omega arith)
    go true i false j r k t l m = let z : ◌≡◌ {A = ℕ} 0 1 = cc in absurd (omega arith)
    go false i q j r k t l m = let z : ◌≡◌ {A = ℕ} 0 1 = cc in absurd (omega arith)
