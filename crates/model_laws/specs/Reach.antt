-- Laws of reachability: the search decides it, a simulation carries it over, and where nothing
-- reaches itself each step lowers the number of nodes that can still be reached. Assumes nothing.
use Rattle.std.specs.Prelude.{◌⊎◌, ◌↔◌, ◌≡◌, Bool, set, replicate}
use Rattle.std.proofs.Math.Logic.{inl, inr, ⊎_elim}
use Rattle.std.proofs.Math.Path.{refl, sym}
use Rattle.std.proofs.Common.{◌∙◌, arith, get_or-set_same, get_or-set_other}
use mathlib.Core.List.Memᴰ
use mathlib.Core.List.{List, [], ◌∷◌, ◌++◌, Memᴰ}
use Rattle.std.proofs.Math.Bool.{true, false}
use Prim.Native.Nat.{ℕ, zero, suc, ◌+◌, ◌<◌}
use Rattle.std.proofs.Math.Dec.{eqb}
use Rattle.std.proofs.Math.ListN.{length, get_or, length-set, length-replicate}
use borrow.Author.Tests.{eqb-true, eqb-false}
use Rattle.sheet.proofs.ListLaws.{false_true}
use Rattle.model_laws.specs.Rounds.{At, Le, at_lt, cases_eq, trues_le, trues_mono}
use Rattle.model.specs.Reach.{Reach, one, more, go, cyclic}
use Rattle.model_laws.specs.Lists.{trues}

-- ---- tests
-- ---- marks
-- a place that is not marked
pub trues_out : (s : List Bool) (i : ℕ) → i < length s → (At s i → ⊥) → trues s < length s
unfolding trues
trues_out [] i h n = absurd (omega arith)
trues_out (true ∷ s) zero h n = absurd (n tt)
trues_out (false ∷ s) zero h n = omega (arith, trues_le s)
trues_out (true ∷ s) (suc i) h n = omega (arith, trues_out s i (omega arith) n)
trues_out (false ∷ s) (suc i) h n = omega (arith, trues_out s i (omega arith) n)

-- more is marked where a mark is new
pub trues_more : (s t : List Bool) → length s ≡ length t → Le s t → (i : ℕ) → At t i → (At s i → ⊥) → trues s < trues t
unfolding trues
trues_more [] [] e h i a n = absurd a
trues_more [] (y ∷ t) e h i a n = absurd (omega arith)
trues_more (x ∷ s) [] e h i a n = absurd a
trues_more (true ∷ s) (y ∷ t) e h zero a n = absurd (n tt)
trues_more (false ∷ s) (true ∷ t) e h zero a n = omega (arith, trues_mono s t (omega arith) (λ j. h (suc j)))
trues_more (false ∷ s) (false ∷ t) e h zero a n = absurd a
trues_more (true ∷ s) (true ∷ t) e h (suc i) a n = omega (arith, trues_more s t (omega arith) (λ j. h (suc j)) i a n)
trues_more (true ∷ s) (false ∷ t) e h (suc i) a n = absurd (h 0 tt)
trues_more (false ∷ s) (true ∷ t) e h (suc i) a n = omega (arith, trues_more s t (omega arith) (λ j. h (suc j)) i a n)
trues_more (false ∷ s) (false ∷ t) e h (suc i) a n = omega (arith, trues_more s t (omega arith) (λ j. h (suc j)) i a n)

pub none_at : (n i : ℕ) → At (replicate n false) i → ⊥
none_at zero i a = a
none_at (suc n) zero a = a
none_at (suc n) (suc i) a = none_at n i a

-- one mark more
pub trues_set : (s : List Bool) (m : ℕ) → m < length s → get_or s m false ≡ false → trues (set s m true) ≡ suc (trues s)
unfolding trues
trues_set [] m h e = absurd (omega arith)
trues_set (true ∷ s) zero h e = false_true (sym e)
trues_set (false ∷ s) zero h e = omega arith
trues_set (x ∷ s) (suc m) h e = omega (arith, trues_set s m (omega arith) e)

pub mark_up : (s : List Bool) (m : ℕ) → Le s (set s m true)
mark_up s m i a =
    cases_eq i m (λ e. rw (e, get_or-set_same s m true false (rw e at (at_lt s i a))) tt) (λ n. rw (get_or-set_other s m i true false n) a)

pub mark_at : (s : List Bool) (m : ℕ) → m < length s → At (set s m true) m
mark_at s m h = rw (get_or-set_same s m true false h) tt

pub mark_only : (s : List Bool) (m i : ℕ) → At (set s m true) i → (i ≡ m) ⊎ At s i
mark_only s m i a = cases_eq i m (λ e. inl e) (λ n. inr (rw (get_or-set_other s m i true false n) at a))

-- ---- walks
module _ (next : ℕ → List ℕ) where
  -- a walk after a walk
  pub reach_trans : {a b c : ℕ} → Reach next a b → Reach next b c → Reach next a c
  reach_trans (one m) r = more m r
  reach_trans (more m q) r = more m (reach_trans q r)

  -- one step more at the end
  pub reach_further : {a b c : ℕ} → Reach next a b → Memᴰ c (next b) → Reach next a c
  reach_further r m = reach_trans r (one m)

  -- A set that no step leaves holds all that is reached from its members.
  pub reach_stays : (S : ℕ → Type 0) → ((a b : ℕ) → S a → Memᴰ b (next a) → S b) → {a b : ℕ} → Reach next a b → S a → S b
  reach_stays S f (one {a} {b} m) s = f a b s m
  reach_stays S f (more {a} {b} m r) s = reach_stays S f r (f a b s m)

-- A walk in one graph is matched in another, where R relates nodes whose steps match.
pub reach_map : (next next' : ℕ → List ℕ) (R : ℕ → ℕ → Type 0)
    → ((a a' b : ℕ) → R a a' → Memᴰ b (next a) → (b' : ℕ) × Memᴰ b' (next' a') × R b b')
    → {a b : ℕ} → Reach next a b → (a' : ℕ) → R a a' → (b' : ℕ) × Reach next' a' b' × R b b'
reach_map next next' R f (one {a} {b} m) a' r = let s = f a a' b r m in (s.0, one s.1, s.2)
reach_map next next' R f (more {a} {b} m w) a' r =
    let s = f a a' b r m in
    let t = reach_map next next' R f w s.0 s.2 in
    (t.0, more s.1 t.1, t.2)

-- A walk that ends outside a set that is not left is one in another graph that has the same steps outside it.
pub reach_outside : (next next' : ℕ → List ℕ) (B : ℕ → Bool)
    → ((a b : ℕ) → B a ≡ true → Memᴰ b (next a) → B b ≡ true)
    → ((a b : ℕ) → B a ≡ false → Memᴰ b (next a) → Memᴰ b (next' a))
    → {a c : ℕ} → B c ≡ false → Reach next a c → Reach next' a c
reach_outside next next' B stays f e (one {a} {b} m) = one (f a b (by (B a) refl) m)
  where
    by : (x : Bool) → B a ≡ x → x ≡ false
    by true z = false_true (sym e ∙ stays a b z m)
    by false z = refl
reach_outside next next' B stays f e (more {a} {b} m r) = more (f a b (by (B a) refl) m) (reach_outside next next' B stays f e r)
  where
    by : (x : Bool) → B a ≡ x → x ≡ false
    by true z = false_true (sym e ∙ reach_stays next (λ (i : ℕ). B i ≡ true) stays r (stays a b z m))
    by false z = refl

-- A node that reaches itself does so in the other graph, where R relates it to one node there.
pub reach_loop : (next next' : ℕ → List ℕ) (R : ℕ → ℕ → Type 0)
    → ((a a' b : ℕ) → R a a' → Memᴰ b (next a) → (b' : ℕ) × Memᴰ b' (next' a') × R b b')
    → (a a' : ℕ) → R a a' → ((b' : ℕ) → R a b' → b' ≡ a') → Reach next a a → Reach next' a' a'
reach_loop next next' R f a a' r only w = let t = reach_map next next' R f w a' r in rw (only t.0 t.2) at t.1

-- ---- the search
module _ (next : ℕ → List ℕ) where
  -- it answers true only at a node that is reached
  go_sound : (f k : ℕ) (work : List ℕ) (seen : List Bool) → ((m : ℕ) → Memᴰ m work → Reach next k m) → go next f k work seen ≡ true → Reach next k k
  unfolding go
  go_sound zero k work seen h e = false_true e
  go_sound (suc f) k [] seen h e = false_true e
  go_sound (suc f) k (m ∷ rest) seen h e =
      by
      (go_sound (suc f) k rest seen (λ b z. h b (Memᴰ.tail z)))
      (go_sound f k (next m ++ rest) (set seen m true) (λ b z. ⊎_elim (λ y. reach_further next (h m (Memᴰ.head refl)) y) (λ y. h b (Memᴰ.tail y)) (Memᴰ.append_cases (next m) z)))
      (eqb m k)
      (get_or seen m false)
      refl
      e
    where
      by : (go next (suc f) k rest seen ≡ true → Reach next k k)
          → (go next f k (next m ++ rest) (set seen m true) ≡ true → Reach next k k)
          → (p q : Bool)
          → eqb m k ≡ p
          → elim p [ true ↦ true | false ↦ elim q [ true ↦ go next (suc f) k rest seen | false ↦ go next f k (next m ++ rest) (set seen m true) ] ] ≡ true
          → Reach next k k
      by ih₁ ih₂ true q z y = let w : Reach next k m = h m (Memᴰ.head refl) in rw (eqb-true m k z) at w
      by ih₁ ih₂ false true z y = ih₁ y
      by ih₁ ih₂ false false z y = ih₂ y

  -- Marks that a search which does not meet its start k comes to: no step leaves them.
  record Missed (k : ℕ) (work : List ℕ) (seen : List Bool) : Type 0 where
    found : List Bool
    up : Le seen found
    worked : (b : ℕ) → Memᴰ b work → At found b
    closed : (a b : ℕ) → At found a → Memᴰ b (next a) → At found b
    start : At found k → ⊥

  module _ (n : ℕ) (within : (a b : ℕ) → Memᴰ b (next a) → b < n) where
    go_missed : (f k : ℕ) (work : List ℕ) (seen : List Bool)
        → length seen ≡ n
        → n < f + trues seen
        → ((b : ℕ) → Memᴰ b work → b < n)
        → ((a b : ℕ) → At seen a → Memᴰ b (next a) → At seen b ⊎ Memᴰ b work)
        → (At seen k → ⊥)
        → go next f k work seen ≡ false
        → Missed k work seen
    unfolding go
    go_missed zero k work seen e q w c s g = absurd (omega (arith, trues_le seen))
    go_missed (suc f) k [] seen e q w c s g =
        record {
          found = seen;
          up = λ i a. a;
          worked = λ b m. absurd (Memᴰ.not-nil m);
          closed = λ a b p m. ⊎_elim (λ y. y) (λ y. absurd (Memᴰ.not-nil y)) (c a b p m);
          start = s;
        }
    go_missed (suc f) k (m ∷ rest) seen e q w c s g =
        by
        (λ d y. go_missed (suc f) k rest seen e q (λ b z. w b (Memᴰ.tail z)) d s y)
        (λ t d s' y. go_missed f k (next m ++ rest) (set seen m true) (length-set seen m true ∙ e) t (λ b z. ⊎_elim (λ x. within m b x) (λ x. w b (Memᴰ.tail x)) (Memᴰ.append_cases (next m) z)) d s' y)
        (eqb m k)
        (get_or seen m false)
        refl
        refl
        g
      where
        by : (((a b : ℕ) → At seen a → Memᴰ b (next a) → At seen b ⊎ Memᴰ b rest) → go next (suc f) k rest seen ≡ false → Missed k rest seen)
            → (n < f + trues (set seen m true)
            → ((a b : ℕ) → At (set seen m true) a → Memᴰ b (next a) → At (set seen m true) b ⊎ Memᴰ b (next m ++ rest))
            → (At (set seen m true) k → ⊥)
            → go next f k (next m ++ rest) (set seen m true) ≡ false
            → Missed k (next m ++ rest) (set seen m true))
            → (p o : Bool)
            → eqb m k ≡ p
            → get_or seen m false ≡ o
            → elim p [ true ↦ true | false ↦ elim o [ true ↦ go next (suc f) k rest seen | false ↦ go next f k (next m ++ rest) (set seen m true) ] ] ≡ false
            → Missed k (m ∷ rest) seen
        by ih₁ ih₂ true o x z y = false_true (sym y)
        by ih₁ ih₂ false true x z y =
            let at_m : At seen m = rw z tt in
            let v : Missed k rest seen =
            ih₁ (λ a b p u. ⊎_elim (λ t. inl t) (λ t. ⊎_elim (λ r. inl (rw r at_m)) (λ r. inr r) (Memᴰ.cases_cons t)) (c a b p u)) y in
            record {
              found = v.found;
              up = v.up;
              worked = λ b t. ⊎_elim (λ u. v.up b (rw u at_m)) (λ u. v.worked b u) (Memᴰ.cases_cons t);
              closed = v.closed;
              start = v.start;
            }
        by ih₁ ih₂ false false x z y =
            let in_m : m < length seen = rw e (w m (Memᴰ.head refl)) in
            let at_m : At (set seen m true) m = mark_at seen m in_m in
            let v : Missed k (next m ++ rest) (set seen m true) =
            ih₂
            (omega (arith, trues_set seen m in_m z))
            (λ a b p t.
            ⊎_elim
            (λ (u : a ≡ m). inr (Memᴰ.append_left rest (rw u at t)))
            (λ u.
            ⊎_elim
            (λ r. inl (mark_up seen m b r))
            (λ r. ⊎_elim (λ l. inl (rw l at_m)) (λ l. inr (Memᴰ.append_right (next m) l)) (Memᴰ.cases_cons r))
            (c a b u t))
            (mark_only seen m a p))
            (λ a. ⊎_elim (λ u. eqb-false m k x (sym u)) s (mark_only seen m k a))
            y in
            record {
              found = v.found;
              up = λ i a. v.up i (mark_up seen m i a);
              worked = λ b t. ⊎_elim (λ u. v.up b (rw u at_m)) (λ u. v.worked b (Memᴰ.append_right (next m) u)) (Memᴰ.cases_cons t);
              closed = v.closed;
              start = v.start;
            }

  -- The search finds a cycle only where there is one,
  pub cyclic_sound : (n k : ℕ) → cyclic next n k ≡ true → Reach next k k
  unfolding cyclic
  cyclic_sound n k e = go_sound (suc n) k (next k) (replicate n false) (λ m z. one z) e

  -- and finds each cycle, where all steps end below n.
  pub cyclic_complete : (n k : ℕ) → ((a b : ℕ) → Memᴰ b (next a) → b < n) → Reach next k k → cyclic next n k ≡ true
  unfolding cyclic
  cyclic_complete n k within r = by (cyclic next n k) refl
    where
      leaves : (b : ℕ) → (v : Missed k (next k) (replicate n false)) → Reach next k b → At v.found b
      leaves b v (one m) = v.worked b m
      leaves b v (more {b = c} m q) = reach_stays next (λ (x : ℕ). At v.found x) v.closed q (v.worked c m)

      by : (b : Bool) → cyclic next n k ≡ b → b ≡ true
      by true e = refl
      by false e =
          let v : Missed k (next k) (replicate n false) =
          go_missed n within (suc n) k (next k) (replicate n false) (length-replicate n false) (omega arith) (within k) (λ a b p m. absurd (none_at n a p)) (none_at n k) e in
          absurd (v.start (leaves k v r))

  -- The search decides whether a node reaches itself.
  pub cyclic_iff : (n k : ℕ) → ((a b : ℕ) → Memᴰ b (next a) → b < n) → (cyclic next n k ≡ true) ↔ Reach next k k
  cyclic_iff n k within = (cyclic_sound n k, cyclic_complete n k within)

-- ---- ranks
-- The nodes that are reached, by a search that does not stop; fuel for each node that is marked.
module _ (next : ℕ → List ℕ) where
  unfoldable pub visit : ℕ → List ℕ → List Bool → List Bool
  visit zero work seen = seen
  visit (suc f) [] seen = seen
  visit (suc f) (m ∷ rest) seen =
      elim (get_or seen m false) [ true ↦ visit (suc f) rest seen | false ↦ visit f (next m ++ rest) (set seen m true) ]

  -- of n nodes, those that k reaches
  unfoldable pub reached : ℕ → ℕ → List Bool
  reached n k = visit (suc n) (next k) (replicate n false)

  -- how many of n nodes k reaches
  unfoldable pub rank : ℕ → ℕ → ℕ
  rank n k = trues (reached n k)

  length_visit : (f : ℕ) (work : List ℕ) (seen : List Bool) → length (visit f work seen) ≡ length seen
  unfolding visit
  length_visit zero work seen = refl
  length_visit (suc f) [] seen = refl
  length_visit (suc f) (m ∷ rest) seen =
      by (length_visit (suc f) rest seen) (length_visit f (next m ++ rest) (set seen m true) ∙ length-set seen m true) (get_or seen m false)
    where
      by : length (visit (suc f) rest seen) ≡ length seen
          → length (visit f (next m ++ rest) (set seen m true)) ≡ length seen
          → (b : Bool)
          → length {A = Bool} (elim b [ true ↦ visit (suc f) rest seen | false ↦ visit f (next m ++ rest) (set seen m true) ]) ≡ length seen
      by x y true = x
      by x y false = y

  pub length_reached : (n k : ℕ) → length (reached n k) ≡ n
  unfolding reached
  length_reached n k = length_visit (suc n) (next k) (replicate n false) ∙ length-replicate n false

  -- what a visit marks: all that it was given, and all that follows
  record Visited (work : List ℕ) (seen r : List Bool) : Type 0 where
    up : Le seen r
    worked : (b : ℕ) → Memᴰ b work → At r b
    closed : (a b : ℕ) → At r a → Memᴰ b (next a) → At r b

  -- nothing is marked but members of a set that holds the work and that no step leaves
  visit_only : (S : ℕ → Type 0)
      → ((a b : ℕ) → S a → Memᴰ b (next a) → S b)
      → (f : ℕ) (work : List ℕ) (seen : List Bool)
      → ((a : ℕ) → At seen a → S a)
      → ((a : ℕ) → Memᴰ a work → S a)
      → (a : ℕ)
      → At (visit f work seen) a
      → S a
  unfolding visit
  visit_only S c zero work seen h w a p = h a p
  visit_only S c (suc f) [] seen h w a p = h a p
  visit_only S c (suc f) (m ∷ rest) seen h w a p =
      by
      (get_or seen m false)
      (visit_only S c (suc f) rest seen h (λ x y. w x (Memᴰ.tail y)) a)
      (visit_only
      S
      c
      f
      (next m ++ rest)
      (set seen m true)
      (λ x y. ⊎_elim (λ u. rw u (w m (Memᴰ.head refl))) (λ u. h x u) (mark_only seen m x y))
      (λ x y. ⊎_elim (λ u. c m x (w m (Memᴰ.head refl)) u) (λ u. w x (Memᴰ.tail u)) (Memᴰ.append_cases (next m) y))
      a)
      p
    where
      by : (b : Bool)
          → (At (visit (suc f) rest seen) a → S a)
          → (At (visit f (next m ++ rest) (set seen m true)) a → S a)
          → At (elim b [ true ↦ visit (suc f) rest seen | false ↦ visit f (next m ++ rest) (set seen m true) ]) a
          → S a
      by true x y q = x q
      by false x y q = y q

  module _ (n : ℕ) (within : (a b : ℕ) → Memᴰ b (next a) → b < n) where
    visited : (f : ℕ) (work : List ℕ) (seen : List Bool)
        → length seen ≡ n
        → n < f + trues seen
        → ((b : ℕ) → Memᴰ b work → b < n)
        → ((a b : ℕ) → At seen a → Memᴰ b (next a) → At seen b ⊎ Memᴰ b work)
        → Visited work seen (visit f work seen)
    unfolding visit
    visited zero work seen e q w c = absurd (omega (arith, trues_le seen))
    visited (suc f) [] seen e q w c =
        record {
          up = λ i a. a;
          worked = λ b m. absurd (Memᴰ.not-nil m);
          closed = λ a b p m. ⊎_elim (λ y. y) (λ y. absurd (Memᴰ.not-nil y)) (c a b p m);
        }
    visited (suc f) (m ∷ rest) seen e q w c =
        by
        (λ d. visited (suc f) rest seen e q (λ b z. w b (Memᴰ.tail z)) d)
        (λ t d. visited f (next m ++ rest) (set seen m true) (length-set seen m true ∙ e) t (λ b z. ⊎_elim (λ y. within m b y) (λ y. w b (Memᴰ.tail y)) (Memᴰ.append_cases (next m) z)) d)
        (get_or seen m false)
        refl
      where
        by : (((a b : ℕ) → At seen a → Memᴰ b (next a) → At seen b ⊎ Memᴰ b rest) → Visited rest seen (visit (suc f) rest seen))
            → (n < f + trues (set seen m true)
            → ((a b : ℕ) → At (set seen m true) a → Memᴰ b (next a) → At (set seen m true) b ⊎ Memᴰ b (next m ++ rest))
            → Visited (next m ++ rest) (set seen m true) (visit f (next m ++ rest) (set seen m true)))
            → (b : Bool)
            → get_or seen m false ≡ b
            → Visited (m ∷ rest) seen (elim b [ true ↦ visit (suc f) rest seen | false ↦ visit f (next m ++ rest) (set seen m true) ])
        by ih₁ ih₂ true z =
            let at_m : At seen m = rw z tt in
            let v : Visited rest seen (visit (suc f) rest seen) =
            ih₁ (λ a b p y. ⊎_elim (λ x. inl x) (λ x. ⊎_elim (λ u. inl (rw u at_m)) (λ u. inr u) (Memᴰ.cases_cons x)) (c a b p y)) in
            record {
              up = v.up;
              worked = λ b y. ⊎_elim (λ u. v.up b (rw u at_m)) (λ u. v.worked b u) (Memᴰ.cases_cons y);
              closed = v.closed;
            }
        by ih₁ ih₂ false z =
            let in_m : m < length seen = rw e (w m (Memᴰ.head refl)) in
            let at_m : At (set seen m true) m = mark_at seen m in_m in
            let v : Visited (next m ++ rest) (set seen m true) (visit f (next m ++ rest) (set seen m true)) =
            ih₂
            (omega (arith, trues_set seen m in_m z))
            (λ a b p y.
            ⊎_elim
            (λ (u : a ≡ m). inr (Memᴰ.append_left rest (rw u at y)))
            (λ u.
            ⊎_elim
            (λ x. inl (mark_up seen m b x))
            (λ x. ⊎_elim (λ t. inl (rw t at_m)) (λ t. inr (Memᴰ.append_right (next m) t)) (Memᴰ.cases_cons x))
            (c a b u y))
            (mark_only seen m a p)) in
            record {
              up = λ i a. v.up i (mark_up seen m i a);
              worked = λ b y. ⊎_elim (λ u. v.up b (rw u at_m)) (λ u. v.worked b (Memᴰ.append_right (next m) u)) (Memᴰ.cases_cons y);
              closed = v.closed;
            }

    leads : (k b : ℕ) (r : List Bool) → Visited (next k) (replicate n false) r → Reach next k b → At r b
    leads k b r v (one m) = v.worked b m
    leads k b r v (more {b = c} m q) = reach_stays next (λ (x : ℕ). At r x) v.closed q (v.worked c m)

    -- Marked is what is reached.
    pub reached_iff : (k b : ℕ) → At (reached n k) b ↔ Reach next k b
    unfolding reached
    reached_iff k b =
        (visit_only (λ (x : ℕ). Reach next k x) (λ x y s m. reach_further next s m) (suc n) (next k) (replicate n false) (λ x p. absurd (none_at n x p)) (λ x m. one m) b, leads k b (reached n k) (visited (suc n) (next k) (replicate n false) (length-replicate n false) (omega arith) (within k) (λ a c p m. absurd (none_at n a p))))

    -- A step to a node that does not reach itself lowers the rank.
    pub rank_less : (a b : ℕ) → Memᴰ b (next a) → (Reach next b b → ⊥) → rank n b < rank n a
    unfolding rank
    rank_less a b m none =
        trues_more
        (reached n b)
        (reached n a)
        (length_reached n b ∙ sym (length_reached n a))
        (λ i p. (reached_iff a i).1 (more m ((reached_iff b i).0 p)))
        b
        ((reached_iff a b).1 (one m))
        (λ p. none ((reached_iff b b).0 p))

    -- A node that does not reach itself has a rank below n.
    pub rank_bound : (k : ℕ) → k < n → (Reach next k k → ⊥) → rank n k < n
    unfolding rank
    rank_bound k h none =
        omega (arith, length_reached n k, trues_out (reached n k) k (rw length_reached h) (λ p. none ((reached_iff k k).0 p)))
