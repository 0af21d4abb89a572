-- A number of three digits at most, by its last columns. Assumes nothing.
use Rattle.std.specs.Prelude.{◌≡◌, Some, None, Bool, ◌&&◌, leb, take}
use Rattle.std.proofs.Math.Path.{refl, ap}
use Rattle.std.proofs.Common.{◌∙◌, add-one, length-drop, take_all}
use mathlib.Core.List.{List, [], ◌∷◌}
use Rattle.std.proofs.Math.Bool.{true, false}
use Prim.Native.Nat.{ℕ, zero, suc, ◌+◌, ◌*◌, ◌-◌, ◌%◌, ◌≤◌, ◌<◌}
use native.Mathlib.Omega.{arith}
use Rattle.std.proofs.Math.Dec.{eqb}
use Rattle.std.proofs.Math.ListN.{length, get_or, drop, drop_of_length-le}
use Rattle.std.proofs.Math.Seq.{drop-cons}
use borrow.Author.Tests.{eq-eqb, ne_eqb, le-leb, eqb-true, eqb-false, leb-true}
use Rattle.number_columns.specs.declared.Scan.{Scan}
use Rattle.number_columns.specs.declared.Scan.TheVariants.{Blank, Zero, In, Broken}
use Rattle.number_columns.specs.Column.{pick, digit, step, scan, told, read}
use Rattle.sheet.proofs.ListLaws.{both}

-- ---- the last two columns
is_digit : (d : ℕ) → 48 ≤ d → d ≤ 57 → digit d ≡ true
is_digit d h k = rw (le-leb 48 d h) (le-leb d 57 k)

no_digit : (d : ℕ) → (48 ≤ d → d ≤ 57 → ⊥) → digit d ≡ false
no_digit d h = go (leb 48 d) (leb d 57) refl refl
  where
    go : (a b : Bool) → leb 48 d ≡ a → leb d 57 ≡ b → a && b ≡ false
    go true true e f = absurd (h (leb-true 48 d e) (leb-true d 57 f))
    go true false e f = refl
    go false b e f = refl

-- what is no digit ends no number
last_bad : (a : Scan) (d : ℕ) → (48 ≤ d → d ≤ 57 → ⊥) → told (step a d) ≡ None
unfolding step
last_bad Blank d h = go (eqb d 32) refl
  where
    zero_not : (c : Bool) → eqb d 48 ≡ c → told (pick c Zero (pick (digit d) (In (d - 48)) Broken)) ≡ None
    zero_not true e = let k : d ≡ 48 = eqb-true d 48 e in absurd (h (omega arith) (omega arith))
    zero_not false e = rw (no_digit d h)

    go : (c : Bool) → eqb d 32 ≡ c → told (pick c Blank (pick (eqb d 48) Zero (pick (digit d) (In (d - 48)) Broken))) ≡ None
    go true e = refl
    go false e = zero_not (eqb d 48) refl
last_bad Zero d h = refl
last_bad (In v) d h = rw (no_digit d h)
last_bad Broken d h = refl

module _ (a b : ℕ) where
  pub pair_last : (48 ≤ b → b ≤ 57 → ⊥) → read (a ∷ b ∷ []) ≡ None
  unfolding read scan
  pair_last h = last_bad (step Blank a) b h

  pub pair_one : a ≡ 32 → 48 ≤ b → b ≤ 57 → read (a ∷ b ∷ []) ≡ Some (b - 48)
  unfolding read scan step
  pair_one e h k = rw (eq-eqb a 32 e, ne_eqb b 32 (λ q. omega arith), is_digit b h k) (go (eqb b 48) refl)
    where
      go : (c : Bool) → eqb b 48 ≡ c → told (pick c Zero (In (b - 48))) ≡ Some (b - 48)
      go true q = ap Some (omega (arith, eqb-true b 48 q))
      go false q = refl

  pub pair_two : 49 ≤ a → a ≤ 57 → 48 ≤ b → b ≤ 57 → read (a ∷ b ∷ []) ≡ Some ((a - 48) * 10 + (b - 48))
  unfolding read scan step
  pair_two h k m n = rw (ne_eqb a 32 (λ q. omega arith), ne_eqb a 48 (λ q. omega arith), is_digit a (omega arith) k, is_digit b m n)

  pub pair_first : (a ≡ 32 → ⊥) → (49 ≤ a → a ≤ 57 → ⊥) → read (a ∷ b ∷ []) ≡ None
  unfolding read scan step
  pair_first h k = rw (ne_eqb a 32 h) (go (eqb a 48) refl)
    where
      go : (c : Bool) → eqb a 48 ≡ c → told (step (pick c Zero (pick (digit a) (In (a - 48)) Broken)) b) ≡ None
      go true e = refl
      go false e = let n : a ≡ 48 → ⊥ = eqb-false a 48 e in rw (no_digit a (λ p q. k (omega arith) q))

  -- a space counts as 0
  pub pair_space : a ≡ 32 → 48 ≤ b → b ≤ 57 → read (a ∷ b ∷ []) ≡ Some (a % 16 * 10 + (b - 48))
  pair_space e h k = pair_one e h k ∙ ap Some (omega arith)

  pub pair_digit : 49 ≤ a → a ≤ 57 → 48 ≤ b → b ≤ 57 → read (a ∷ b ∷ []) ≡ Some (a % 16 * 10 + (b - 48))
  pair_digit h k m n = pair_two h k m n ∙ ap Some (omega arith)

-- ---- three columns
module _ (a b c : ℕ) where
  pub three_digits : 49 ≤ a → a ≤ 57 → 48 ≤ b → b ≤ 57 → 48 ≤ c → c ≤ 57 → read (a ∷ b ∷ c ∷ []) ≡ Some ((a - 48) * 100 + (b - 48) * 10 + (c - 48))
  unfolding read scan step
  three_digits h k m n p q =
      rw (ne_eqb a 32 (λ e. omega arith), ne_eqb a 48 (λ e. omega arith), is_digit a (omega arith) k, is_digit b m n, is_digit c p q)
      (ap Some (omega arith))

-- ---- spaces before them
pub scan_blank : (s : List ℕ) (k : ℕ) → k ≤ length s → ((j : ℕ) → j < k → get_or s j 0 ≡ 32) → scan Blank (drop k s) ≡ scan Blank s
unfolding scan step
scan_blank s zero h f = refl
scan_blank [] (suc k) h f = absurd (omega arith)
scan_blank (b ∷ s) (suc k) h f =
    let e : b ≡ 32 = f 0 (omega arith) in
    scan_blank s k (omega arith) (λ j l. f (suc j) (omega arith)) ∙ rw (eq-eqb b 32 e)

-- four spaces as the code tells them
four : (a b c d : ℕ) → eqb a 32 && eqb b 32 && eqb c 32 && eqb d 32 ≡ true → (a ≡ 32) × (b ≡ 32) × (c ≡ 32) × (d ≡ 32)
four a b c d e =
    let k = both (eqb a 32 && eqb b 32 && eqb c 32) (eqb d 32) e in
    let l = both (eqb a 32 && eqb b 32) (eqb c 32) k.0 in
    let m = both (eqb a 32) (eqb b 32) l.0 in
    (eqb-true a 32 m.0, eqb-true b 32 m.1, eqb-true c 32 l.1, eqb-true d 32 k.1)

-- column i is one of the four from column m on
behind : (s : List ℕ) (m i : ℕ) → get_or s m 0 ≡ 32 → get_or s (m + 1) 0 ≡ 32 → get_or s (m + 2) 0 ≡ 32 → get_or s (m + 3) 0 ≡ 32 → m ≤ 3 → i < m + 4 → 4 ≤ i → get_or s i 0 ≡ 32
behind s m i p q r t h k l = go (eqb i (m + 1)) (eqb i (m + 2)) refl refl
  where
    go : (a b : Bool) → eqb i (m + 1) ≡ a → eqb i (m + 2) ≡ b → get_or s i 0 ≡ 32
    go true b x y = rw (eqb-true i (m + 1) x) q
    go false true x y = rw (eqb-true i (m + 2) y) r
    go false false x y =
        let z : i ≡ m + 3 = omega (arith, eqb-false i (m + 1) x, eqb-false i (m + 2) y) in
        rw z t

module _ (s : List ℕ) (n : ℕ) (l : length s ≡ n) (h : 6 ≤ n) (g : n < 10)
    (e : eqb (get_or s 0 0) 32 && eqb (get_or s 1 0) 32 && eqb (get_or s 2 0) 32 && eqb (get_or s 3 0) 32 ≡ true)
    (f : eqb (get_or s (n - 6) 0) 32 && eqb (get_or s (n - 5) 0) 32 && eqb (get_or s (n - 4) 0) 32 && eqb (get_or s (n - 3) 0) 32 ≡ true) where
  front : (j : ℕ) → j < n - 2 → get_or s j 0 ≡ 32
  front zero k = (four (get_or s 0 0) (get_or s 1 0) (get_or s 2 0) (get_or s 3 0) e).0
  front (suc zero) k = (four (get_or s 0 0) (get_or s 1 0) (get_or s 2 0) (get_or s 3 0) e).1
  front (suc (suc zero)) k = (four (get_or s 0 0) (get_or s 1 0) (get_or s 2 0) (get_or s 3 0) e).2
  front (suc (suc (suc zero))) k = (four (get_or s 0 0) (get_or s 1 0) (get_or s 2 0) (get_or s 3 0) e).3
  front (suc (suc (suc (suc j)))) k =
      let p : (get_or s (n - 6) 0 ≡ 32) × (get_or s (n - 5) 0 ≡ 32) × (get_or s (n - 4) 0 ≡ 32) × (get_or s (n - 3) 0 ≡ 32) = four (get_or s (n - 6) 0) (get_or s (n - 5) 0) (get_or s (n - 4) 0) (get_or s (n - 3) 0) f in
      let a : n - 5 ≡ n - 6 + 1 = omega arith in
      let b : n - 4 ≡ n - 6 + 2 = omega arith in
      let c : n - 3 ≡ n - 6 + 3 = omega arith in
      let d : suc (suc (suc (suc j))) < n - 6 + 4 = omega arith in
      let m : n - 6 ≤ 3 = omega arith in
      behind s (n - 6) (suc (suc (suc (suc j)))) p.0 (rw a at p.1) (rw b at p.2) (rw c at p.3) m d (omega arith)

  -- columns of which all but the last two are spaces
  pub read_pair : read (get_or s (n - 2) 0 ∷ get_or s (n - 1) 0 ∷ []) ≡ read s
  unfolding read
  read_pair =
      let m : suc (n - 2) ≡ n - 1 = omega arith in
      let k : suc (n - 1) ≡ n = omega arith in
      let d : drop (n - 2) s ≡ get_or s (n - 2) 0 ∷ get_or s (n - 1) 0 ∷ [] =
      drop-cons s (n - 2) 0 (omega arith) ∙ rw (m, drop-cons s (n - 1) 0 (omega arith), k, drop_of_length-le s {i = n} (omega arith)) in
      rw (← d) (ap told (scan_blank s (n - 2) (omega arith) front))

-- six columns of which the first three are spaces
pub read_three : (s : List ℕ) → length s ≡ 6 → eqb (get_or s 0 0) 32 && eqb (get_or s 1 0) 32 && eqb (get_or s 2 0) 32 ≡ true
    → read (get_or s 3 0 ∷ get_or s 4 0 ∷ get_or s 5 0 ∷ []) ≡ read s
unfolding read
read_three s l e =
    let k = both (eqb (get_or s 0 0) 32 && eqb (get_or s 1 0) 32) (eqb (get_or s 2 0) 32) e in
    let m = both (eqb (get_or s 0 0) 32) (eqb (get_or s 1 0) 32) k.0 in
    let d : drop 3 s ≡ get_or s 3 0 ∷ get_or s 4 0 ∷ get_or s 5 0 ∷ [] =
    rw (drop-cons s 3 0 (omega arith), drop-cons s 4 0 (omega arith), drop-cons s 5 0 (omega arith), drop_of_length-le s {i = 6} (omega arith)) in
    rw (← d) (ap told (scan_blank s 3 (omega arith) (go m.0 m.1 k.1)))
  where
    go : eqb (get_or s 0 0) 32 ≡ true → eqb (get_or s 1 0) 32 ≡ true → eqb (get_or s 2 0) 32 ≡ true → (j : ℕ) → j < 3 → get_or s j 0 ≡ 32
    go p q r zero h = eqb-true (get_or s 0 0) 32 p
    go p q r (suc zero) h = eqb-true (get_or s 1 0) 32 q
    go p q r (suc (suc zero)) h = eqb-true (get_or s 2 0) 32 r
    go p q r (suc (suc (suc j))) h = absurd (omega arith)

-- the last six columns, with spaces before them
pub read_six : (s : List ℕ) → 6 ≤ length s → ((j : ℕ) → j < length s - 6 → get_or s j 0 ≡ 32) → read (take (length s - (length s - 6)) (drop (length s - 6) s)) ≡ read s
unfolding read
read_six s h f =
    rw (take_all (length s - (length s - 6)) (drop (length s - 6) s) (simp length-drop (omega arith)))
    (ap told (scan_blank s (length s - 6) (omega arith) f))

pub four_front : (s : List ℕ) → length s < 10 → eqb (get_or s 0 0) 32 && eqb (get_or s 1 0) 32 && eqb (get_or s 2 0) 32 && eqb (get_or s 3 0) 32 ≡ true
    → (j : ℕ) → j < length s - 6 → get_or s j 0 ≡ 32
four_front s h e zero k = (four (get_or s 0 0) (get_or s 1 0) (get_or s 2 0) (get_or s 3 0) e).0
four_front s h e (suc zero) k = (four (get_or s 0 0) (get_or s 1 0) (get_or s 2 0) (get_or s 3 0) e).1
four_front s h e (suc (suc zero)) k = (four (get_or s 0 0) (get_or s 1 0) (get_or s 2 0) (get_or s 3 0) e).2
four_front s h e (suc (suc (suc j))) k = absurd (omega arith)

-- ---- spaces, and what stands behind them
pub record Front (s : List ℕ) (i : ℕ) : Type 0 where
  pub end : i ≤ length s
  pub blank : (j : ℕ) → j < i → get_or s j 0 ≡ 32
  pub other : i < length s → get_or s i 0 ≡ 32 → ⊥

scan_broken : (s : List ℕ) → scan Broken s ≡ Broken
unfolding scan step
scan_broken [] = refl
scan_broken (b ∷ s) = scan_broken s

scan_cons : (a : Scan) (b : ℕ) (s : List ℕ) → scan a (b ∷ s) ≡ scan (step a b) s
unfolding scan
scan_cons a b s = refl

-- what is neither a space nor 0 is read alike at the front and behind a digit
step_front : (d : ℕ) → (d ≡ 32 → ⊥) → (d ≡ 48 → ⊥) → step (In 0) d ≡ step Blank d
unfolding step
step_front d h k = rw (ne_eqb d 32 h, ne_eqb d 48 k) (go (digit d))
  where
    go : (c : Bool) → pick c (In (0 * 10 + (d - 48))) Broken ≡ pick c (In (d - 48)) Broken
    go true = ap In (omega arith)
    go false = refl

step_digit : (v d : ℕ) → 48 ≤ d → d ≤ 57 → step (In v) d ≡ In (v * 10 + (d - 48))
unfolding step
step_digit v d h k = rw (is_digit d h k)

step_none : (v d : ℕ) → (48 ≤ d → d ≤ 57 → ⊥) → step (In v) d ≡ Broken
unfolding step
step_none v d h = rw (no_digit d h)

module _ (s : List ℕ) (i : ℕ) (f : Front s i) where
  behind_front : scan Blank (drop i s) ≡ scan Blank s
  behind_front = scan_blank s i f.end f.blank

  pub front_all : i ≡ length s → read s ≡ None
  unfolding read scan
  front_all e = rw (← behind_front, drop_of_length-le s {i = i} (omega arith))

  pub front_zero : i + 1 ≡ length s → get_or s i 0 ≡ 48 → read s ≡ Some 0
  unfolding read scan step
  front_zero e z = rw (← behind_front, drop-cons s i 0 (omega arith), z, drop_of_length-le s {i = suc i} (omega arith))

  pub front_zeros : i < length s → (i + 1 ≡ length s → ⊥) → get_or s i 0 ≡ 48 → read s ≡ None
  unfolding read scan step
  front_zeros h e z =
      let k : suc i < length s = omega arith in
      rw (← behind_front, drop-cons s i 0 h, z, drop-cons s (suc i) 0 k) (ap told (scan_broken (drop (suc (suc i)) s)))

  -- digits of which the first is not 0
  pub front_digits : i < length s → (get_or s i 0 ≡ 48 → ⊥) → told (scan (In 0) (drop i s)) ≡ read s
  unfolding read
  front_digits h z = rw (← behind_front, drop-cons s i 0 h, scan_cons, scan_cons, step_front (get_or s i 0) (f.other h) z)

-- ---- for a loop over the digits
module _ (s : List ℕ) (i v : ℕ) (h : i < length s) where
  pub digit_more : 48 ≤ get_or s i 0 → get_or s i 0 ≤ 57 → scan (In v) (drop i s) ≡ scan (In (v * 10 + (get_or s i 0 - 48))) (drop (i + 1) s)
  digit_more a b = rw (add-one, drop-cons s i 0 h, scan_cons, step_digit v (get_or s i 0) a b)

  pub digit_none : (48 ≤ get_or s i 0 → get_or s i 0 ≤ 57 → ⊥) → told (scan (In v) (drop i s)) ≡ None
  digit_none n = rw (drop-cons s i 0 h, scan_cons, step_none v (get_or s i 0) n, scan_broken)

pub digits_end : (s : List ℕ) (i v : ℕ) → length s ≤ i → told (scan (In v) (drop i s)) ≡ Some v
unfolding scan
digits_end s i v h = rw (drop_of_length-le s {i = i} h)
