-- Rounds of in-order updates end in the least solution of a monotone rule, and are counted right.
-- Assumes nothing.
use Rattle.std.specs.Prelude.{◌≢◌, ◌≡◌, T, length, get_or}
use Rattle.std.proofs.Math.Path.{refl, ap, sym}
use Rattle.std.proofs.Common.{◌∙◌, ext_get_or}
use mathlib.Core.List.{List, [], ◌∷◌}
use Rattle.std.proofs.Math.Bool.{Bool, true, false}
use Prim.Native.Nat.{ℕ, zero, suc, ◌+◌, ◌≤◌, ◌<◌}
use native.Mathlib.Omega.{arith}
use Rattle.std.proofs.Math.Decide.{ℕ_discrete}
use Rattle.std.proofs.Math.ListN.{length-set}
use Rattle.std.proofs.Math.Seq.{get_or-set_same, get_or-set_other}
use Rattle.model.specs.Erasure.{Made, round, rounds_made, update, sweep, same, Settled, settle}
use Rattle.model_laws.specs.Lists.{t_ext, trues}

-- ---- tests and lists of marks
-- mark i is set
abbrev pub At : List Bool → ℕ → Type 0
At s i = T (get_or s i false)

-- all marks set in s are set in t
abbrev pub Le : List Bool → List Bool → Type 0
Le s t = (i : ℕ) → At s i → At t i

pub at_lt : (s : List Bool) (i : ℕ) → At s i → i < length s
at_lt [] i h = absurd h
at_lt (x ∷ s) zero h = omega arith
at_lt (x ∷ s) (suc i) h = omega (arith, at_lt s i h)

-- marks that are below each other are equal
pub le_antisym : (s t : List Bool) → length s ≡ length t → Le s t → Le t s → s ≡ t
le_antisym s t e f g = ext_get_or false s t e (λ i h. t_ext (get_or s i false) (get_or t i false) (f i) (g i))

-- equal or not
pub cases_eq : {P : Type 0} (j i : ℕ) → (j ≡ i → P) → (j ≢ i → P) → P
cases_eq {P} j i f g = go (ℕ_discrete j i)
  where
    go : Dec (j ≡ i) → P
    go (yes e) = f e
    go (no n) = g n

pub trues_le : (s : List Bool) → trues s ≤ length s
unfolding trues
trues_le [] = omega arith
trues_le (true ∷ s) = omega (arith, trues_le s)
trues_le (false ∷ s) = omega (arith, trues_le s)

pub trues_mono : (s t : List Bool) → length s ≡ length t → Le s t → trues s ≤ trues t
unfolding trues
trues_mono [] [] e h = omega arith
trues_mono [] (y ∷ t) e h = omega arith
trues_mono (x ∷ s) [] e h = absurd (omega arith)
trues_mono (true ∷ s) (true ∷ t) e h = omega (arith, trues_mono s t (omega arith) (λ i. h (suc i)))
trues_mono (true ∷ s) (false ∷ t) e h = absurd (h 0 tt)
trues_mono (false ∷ s) (true ∷ t) e h = omega (arith, trues_mono s t (omega arith) (λ i. h (suc i)))
trues_mono (false ∷ s) (false ∷ t) e h = omega (arith, trues_mono s t (omega arith) (λ i. h (suc i)))

-- ---- same
pub same_eq : (s t : List Bool) → same s t ≡ true → s ≡ t
unfolding same
same_eq [] [] e = refl
same_eq [] (y ∷ t) e = let z : ◌≡◌ {A = ℕ} 0 1 = cc in absurd (omega arith)
same_eq (x ∷ s) [] e = let z : ◌≡◌ {A = ℕ} 0 1 = cc in absurd (omega arith)
same_eq (true ∷ s) (true ∷ t) e = ap (λ (l : List Bool). true ∷ l) (same_eq s t e)
same_eq (true ∷ s) (false ∷ t) e = let z : ◌≡◌ {A = ℕ} 0 1 = cc in absurd (omega arith)
same_eq (false ∷ s) (true ∷ t) e = let z : ◌≡◌ {A = ℕ} 0 1 = cc in absurd (omega arith)
same_eq (false ∷ s) (false ∷ t) e = ap (λ (l : List Bool). false ∷ l) (same_eq s t e)

pub same_refl : (s : List Bool) → same s s ≡ true
unfolding same
same_refl [] = refl
same_refl (true ∷ s) = same_refl s
same_refl (false ∷ s) = same_refl s

pub same_ne : (s t : List Bool) → same s t ≡ false → s ≢ t
same_ne s t e z = let q : same s s ≡ false = rw (← z) at e in let k : ◌≡◌ {A = ℕ} 0 1 = cc (same_refl s) in absurd (omega arith)

-- marks that are above others and not the same are more
trues_lt : (s t : List Bool) → length s ≡ length t → Le s t → same t s ≡ false → trues s < trues t
unfolding trues same
trues_lt [] [] e h d = let z : ◌≡◌ {A = ℕ} 0 1 = cc in absurd (omega arith)
trues_lt [] (y ∷ t) e h d = absurd (omega arith)
trues_lt (x ∷ s) [] e h d = absurd (omega arith)
trues_lt (true ∷ s) (true ∷ t) e h d = omega (arith, trues_lt s t (omega arith) (λ i. h (suc i)) d)
trues_lt (true ∷ s) (false ∷ t) e h d = absurd (h 0 tt)
trues_lt (false ∷ s) (true ∷ t) e h d = omega (arith, trues_mono s t (omega arith) (λ i. h (suc i)))
trues_lt (false ∷ s) (false ∷ t) e h d = omega (arith, trues_lt s t (omega arith) (λ i. h (suc i)) d)

-- ---- rules and rounds
-- more marks, no fewer verdicts
abbrev pub Monotone : (List Bool → ℕ → Bool) → Type 0
Monotone r = (s t : List Bool) → Le s t → (i : ℕ) → T (r s i) → T (r t i)

-- each mark that is set, the rule gives
abbrev pub Sound : (List Bool → ℕ → Bool) → List Bool → Type 0
Sound r s = (i : ℕ) → At s i → T (r s i)

-- each mark that the rule gives is set
abbrev pub Closed : (List Bool → ℕ → Bool) → List Bool → Type 0
Closed r t = (i : ℕ) → i < length t → T (r t i) → At t i

-- a first round, then k
pub rounds_made_first : (r : List Bool → ℕ → Bool) (k : ℕ) (s : List Bool) → rounds_made r k (round r s) ≡ rounds_made r (suc k) s
unfolding rounds_made
rounds_made_first r zero s = refl
rounds_made_first r (suc k) s = ap (round r) (rounds_made_first r k s)

-- ---- what holds of every rule
-- what a round gives: the end, or the rounds after it and one more
abbrev ended : Bool → List Bool → Settled → Settled
ended b s u = elim b [ true ↦ record { marks = s; rounds = 1 } | false ↦ record { marks = u.marks; rounds = suc u.rounds } ]

module _ (r : List Bool → ℕ → Bool) where
  pub length_update : (s : List Bool) (i : ℕ) → length (update r s i) ≡ length s
  unfolding update
  length_update s i = length-set s i (r s i)

  pub length_sweep : (k i : ℕ) (s : List Bool) → length (sweep r k i s) ≡ length s
  unfolding sweep
  length_sweep zero i s = refl
  length_sweep (suc k) i s = length_sweep k (suc i) (update r s i) ∙ length_update s i

  pub length_round : (s : List Bool) → length (round r s) ≡ length s
  unfolding round
  length_round s = length_sweep (length s) 0 s

  update_same : (s : List Bool) (i : ℕ) → i < length s → get_or (update r s i) i false ≡ r s i
  unfolding update
  update_same s i h = get_or-set_same s i (r s i) false h

  update_other : (s : List Bool) (i j : ℕ) → j ≢ i → get_or (update r s i) j false ≡ get_or s j false
  unfolding update
  update_other s i j h = get_or-set_other s i j (r s i) false h

  -- a property that each round keeps holds of the settled marks
  pub settle_keeps : (P : List Bool → Type 0) → ((s : List Bool) → P s → P (round r s)) → (k : ℕ) (s : List Bool) → P s → P (settle r k s).marks
  unfolding settle round
  settle_keeps P f zero s h = h
  settle_keeps P f (suc k) s h = go (settle_keeps P f k (round r s) (f s h)) (same (round r s) s)
    where
      go : P (settle r k (round r s)).marks → (b : Bool)
          → P (ended b s (settle r k (round r s))).marks
      go ih true = h
      go ih false = ih

  -- settling keeps the length
  pub settle_length : (k : ℕ) (s : List Bool) → length (settle r k s).marks ≡ length s
  settle_length k s = settle_keeps (λ (u : List Bool). length u ≡ length s) (λ u e. length_round u ∙ e) k s refl

-- ---- what holds of a monotone rule
module _ (r : List Bool → ℕ → Bool) (mono : Monotone r) where
  update_up : (s : List Bool) (i : ℕ) → Sound r s → Le s (update r s i)
  update_up s i h j a =
      cases_eq j i
      (λ e. rw (e, update_same r s i (rw e at (at_lt s j a))) (rw e at (h j a)))
      (λ n. rw (update_other r s i j n) a)

  update_sound : (s : List Bool) (i : ℕ) → Sound r s → Sound r (update r s i)
  update_sound s i h j a =
      mono s (update r s i) (update_up s i h) j
      (cases_eq j i
      (λ e. rw e (rw (update_same r s i (rw (e, length_update) at (at_lt (update r s i) j a))) at (rw e at a)))
      (λ n. h j (rw (update_other r s i j n) at a)))

  update_below : (s t : List Bool) (i : ℕ) → length s ≡ length t → Closed r t → Le s t → Le (update r s i) t
  update_below s t i e c h j a =
      let q : j < length s = rw length_update at (at_lt (update r s i) j a) in
      cases_eq j i
      (λ z. rw z (c i (rw (z, e) at q) (mono s t h i (rw (update_same r s i (rw z at q)) at (rw z at a)))))
      (λ n. h j (rw (update_other r s i j n) at a))

  sweep_up : (k i : ℕ) (s : List Bool) → Sound r s → Le s (sweep r k i s)
  unfolding sweep
  sweep_up zero i s h j a = a
  sweep_up (suc k) i s h j a = sweep_up k (suc i) (update r s i) (update_sound s i h) j (update_up s i h j a)

  sweep_sound : (k i : ℕ) (s : List Bool) → Sound r s → Sound r (sweep r k i s)
  unfolding sweep
  sweep_sound zero i s h = h
  sweep_sound (suc k) i s h = sweep_sound k (suc i) (update r s i) (update_sound s i h)

  sweep_below : (k i : ℕ) (s t : List Bool) → length s ≡ length t → Closed r t → Le s t → Le (sweep r k i s) t
  unfolding sweep
  sweep_below zero i s t e c h = h
  sweep_below (suc k) i s t e c h = sweep_below k (suc i) (update r s i) t (length_update r s i ∙ e) c (update_below s t i e c h)

  -- a sweep that sets nothing found nothing to set at the places that it passed
  sweep_still : (k i : ℕ) (s : List Bool) → Sound r s → Le (sweep r k i s) s
      → (j : ℕ) → i ≤ j → j < i + k → j < length s → T (r s j) → At s j
  unfolding sweep
  sweep_still zero i s h st j p q l a = absurd (omega arith)
  sweep_still (suc k) i s h st j p q l a =
      let u : List Bool = update r s i in
      let back : Le u s = λ x b. st x (sweep_up k (suc i) u (update_sound s i h) x b) in
      cases_eq j i
      (λ e. back j (rw (e, update_same r s i (rw e at l)) (rw e at a)))
      (λ n. back j (sweep_still k (suc i) u (update_sound s i h) (λ x b. update_up s i h x (st x b)) j (omega arith) (omega arith) (rw length_update l) (mono s u (update_up s i h) j a)))

  -- ---- one round
  pub round_sound : (s : List Bool) → Sound r s → Sound r (round r s)
  unfolding round
  round_sound s h = sweep_sound (length s) 0 s h

  pub round_up : (s : List Bool) → Sound r s → Le s (round r s)
  unfolding round
  round_up s h = sweep_up (length s) 0 s h

  pub round_below : (s t : List Bool) → length s ≡ length t → Closed r t → Le s t → Le (round r s) t
  unfolding round
  round_below s t e c h = sweep_below (length s) 0 s t e c h

  -- a round that changes nothing leaves closed marks
  pub round_still : (s : List Bool) → Sound r s → round r s ≡ s → Closed r s
  unfolding round
  round_still s h e j l a = sweep_still (length s) 0 s h (λ x b. rw e at b) j (omega arith) (omega arith) l a

  -- ---- all rounds
  -- the settled marks are given by the rule
  pub settle_sound : (k : ℕ) (s : List Bool) → Sound r s → Sound r (settle r k s).marks
  settle_sound k s h = settle_keeps r (Sound r) round_sound k s h

  -- the settled marks are below all closed marks above the start
  pub settle_least : (k : ℕ) (s t : List Bool) → length s ≡ length t → Le s t → Closed r t → Le (settle r k s).marks t
  settle_least k s t e h c =
      (settle_keeps r (λ (u : List Bool). (length u ≡ length s) × Le u t) (λ u p. (length_round r u ∙ p.0, round_below u t (p.0 ∙ e) c p.1)) k s (refl, h)).1

  -- each round but the last sets a mark
  pub settle_gain : (k : ℕ) (s : List Bool) → Sound r s → (settle r k s).rounds + trues s ≤ suc (trues (settle r k s).marks)
  unfolding settle round
  settle_gain zero s h = omega arith
  settle_gain (suc k) s h = go (settle_gain k (round r s) (round_sound s h)) (same (round r s) s) refl
    where
      go : (settle r k (round r s)).rounds + trues (round r s) ≤ suc (trues (settle r k (round r s)).marks) → (b : Bool) → same (round r s) s ≡ b
          → (ended b s (settle r k (round r s))).rounds + trues s ≤ suc (trues (ended b s (settle r k (round r s))).marks)
      go ih true e = omega arith
      go ih false e = omega (arith, trues_lt s (round r s) (sym (length_round r s)) (round_up s h) e)

  -- No more rounds than one, and one for each mark that any closed marks add to the start.
  pub settle_rounds : (k : ℕ) (s t : List Bool) → Sound r s → length s ≡ length t → Le s t → Closed r t
      → (settle r k s).rounds + trues s ≤ suc (trues t)
  settle_rounds k s t h e l c =
      omega (arith, settle_gain k s h, trues_mono (settle r k s).marks t (settle_length r k s ∙ e) (settle_least k s t e l c))

  -- With more fuel than there are marks to set, the rounds come to one that changes nothing, and are counted.
  pub settle_made : (k : ℕ) (s : List Bool) → Sound r s → length s < k + trues s → Made r s (settle r k s)
  unfolding settle round rounds_made
  settle_made zero s h q = absurd (omega (arith, trues_le s))
  settle_made (suc k) s h q =
      go (λ p. settle_made k (round r s) (round_sound s h) (rw length_round (omega arith))) (same (round r s) s) refl
    where
      go : (trues s < trues (round r s) → Made r (round r s) (settle r k (round r s))) → (b : Bool) → same (round r s) s ≡ b
          → Made r s (ended b s (settle r k (round r s)))
      go ih true e =
          record { before = 0; counted = refl; reached = refl; still = same_eq (round r s) s e; changed = λ j z. absurd (omega arith) }
      go ih false e =
          let m : Made r (round r s) (settle r k (round r s)) = ih (trues_lt s (round r s) (sym (length_round r s)) (round_up s h) e) in
          record {
            before = suc m.before;
            counted = ap suc m.counted;
            reached = m.reached ∙ rounds_made_first r m.before s;
            still = m.still;
            changed = λ j z. later m j z;
          }
        where
          later : (m : Made r (round r s) (settle r k (round r s))) (j : ℕ) → j < suc m.before → rounds_made r (suc j) s ≢ rounds_made r j s
          later m zero z = same_ne (round r s) s e
          later m (suc j) z = λ w. m.changed j (omega arith) (rounds_made_first r (suc j) s ∙ w ∙ sym (rounds_made_first r j s))

  -- with that fuel the settled marks are closed
  pub settle_closed : (k : ℕ) (s : List Bool) → Sound r s → length s < k + trues s → Closed r (settle r k s).marks
  settle_closed k s h q = round_still (settle r k s).marks (settle_sound k s h) (settle_made k s h q).still
