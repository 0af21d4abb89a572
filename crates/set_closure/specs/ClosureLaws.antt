-- Laws of what is reached by way of one node after the other. Assumes nothing.
use Rattle.std.specs.Prelude.{◌⊎◌, ◌≡◌, refl, Bool, true, false, ◌&&◌, ◌||◌, ℕ, suc, ◌+◌, ◌*◌, ◌/◌, ◌≤◌, ◌<◌, length, get_or}
use Rattle.std.proofs.Common.{inl, inr, ⊎_elim, sym, ◌∙◌, ap, subst, mul-le-mul_right, arith}
use mathlib.Core.List.{List, Memᴰ}
use Rattle.std.proofs.Math.Decide.{ℕ_discrete, dec_lt}
use Rattle.number_columns.specs.Column.{pick}
use Rattle.model.specs.Reach as reach
use Rattle.model.specs.Reach.{Reach}
use Rattle.set_bits.specs.Bits.{has, united}
use Rattle.set_bits.specs.BitsLaws.{row_room, row_before, has_words, length_united, united_far, united_has}
use Rattle.set_search.specs.Search.{Steps, steps}
use Rattle.set_search.specs.SearchLaws.{mem_steps, steps_mem}
use Rattle.set_closure.specs.Closure.{Rows, Via, one, more, passed, Through, ClosedTo, Closed}

-- ---- ways
module _ (next : ℕ → List ℕ) where
  via_more : {j k a b : ℕ} → j ≤ k → Via next j a b → Via next k a b
  via_more h (one m) = one m
  via_more h (more m l v) = more m (omega arith) (via_more h v)

  via_join : {k a c b : ℕ} → c < k → Via next k a c → Via next k c b → Via next k a b
  via_join h (one m) w = more m h w
  via_join h (more m l v) w = more m l (via_join h v w)

  -- by way of node k too: as before, or up to k and on from there
  via_cut : {k a b : ℕ} → Via next (suc k) a b → Via next k a b ⊎ (Via next k a k × Via next k k b)
  via_cut (one m) = inl (one m)
  via_cut {k} {a} {b} (more {m = c} m l v) = go (ℕ_discrete c k) (via_cut v)
    where
      go : Dec (c ≡ k) → Via next k c b ⊎ (Via next k c k × Via next k k b) → Via next k a b ⊎ (Via next k a k × Via next k k b)
      go (yes e) (inl w) = inr (one (rw e at m), rw e at w)
      go (yes e) (inr w) = inr (one (rw e at m), w.1)
      go (no e) (inl w) = inl (more m (omega arith) w)
      go (no e) (inr w) = inr (more m (omega arith) w.0, w.1)

  via_reach : {k a b : ℕ} → Via next k a b → Reach next a b
  via_reach (one m) = reach.one m
  via_reach (more m l v) = reach.more m (via_reach v)

  reach_via : {n a b : ℕ} → ((a b : ℕ) → Memᴰ b (next a) → b < n) → Reach next a b → Via next n a b
  reach_via h (reach.one m) = one m
  reach_via h (reach.more m r) = more m (h _ _ m) (reach_via h r)

-- ---- one row more
pub through_none : (n words k : ℕ) (t : List ℕ) → Through n words k 0 t t
through_none n words k t = record { same = refl; done = λ a m l h q. absurd (omega arith); later = λ a m l h q. refl }

-- a row by its words
row_same : (words a i : ℕ) (t t' : List ℕ) (m : ℕ) → m < 64 * words → (a ≡ i → ⊥)
    → ((j : ℕ) → (i * words ≤ j → i * words + words ≤ j) → get_or t' j 0 ≡ get_or t j 0) → has t' (a * words) m ≡ has t (a * words) m
row_same words a i t t' m l ne far = has_words t t' (a * words) m (far (a * words + m / 64) (λ h. apart (dec_lt a i) h))
  where
    apart : Dec (a < i) → i * words ≤ a * words + m / 64 → i * words + words ≤ a * words + m / 64
    apart (yes q) h = absurd (omega (arith, row_before a i words q))
    apart (no q) h = omega (arith, row_before i a words (omega arith))

module _ (n words k i : ℕ) (t₀ t t' : List ℕ) (room : n * words ≤ length t₀) (l : i < n) (kn : k < n) (kw : k < 64 * words) (h : Through n words k i t₀ t) where
  -- row k as it was: it has what it has
  row_k : (m : ℕ) → m < 64 * words → has t (k * words) m ≡ has t₀ (k * words) m
  row_k m q = go (dec_lt k i)
    where
      both : (x y : Bool) → (x || (y && x)) ≡ x
      both true y = refl
      both false true = refl
      both false false = refl

      go : Dec (k < i) → has t (k * words) m ≡ has t₀ (k * words) m
      go (yes p) = h.done k m kn p q ∙ both (has t₀ (k * words) m) (has t₀ (k * words) k)
      go (no p) = h.later k m kn (omega arith) q

  -- it has not node k
  through_skip : has t (i * words) k ≡ false → Through n words k (i + 1) t₀ t
  through_skip e = record { same = h.same; done = λ a m p q r. go a m p q r (ℕ_discrete a i); later = λ a m p q r. h.later a m p (omega arith) r }
    where
      go : (a m : ℕ) → a < n → a < i + 1 → m < 64 * words → Dec (a ≡ i) → has t (a * words) m ≡ (has t₀ (a * words) m || (has t₀ (a * words) k && has t₀ (k * words) m))
      go a m p q r (yes z) = rw z (h.later i m l (omega arith) r ∙ sym (none (has t₀ (i * words) m) (has t₀ (k * words) m) (sym (h.later i k l (omega arith) kw) ∙ e)))
        where
          none : (x y : Bool) {w : Bool} → w ≡ false → (x || (w && y)) ≡ x
          none true y {w} f = refl
          none false y {w} f = rw f
      go a m p q r (no z) = h.done a m p (omega arith) r

  through_unite : has t (i * words) k ≡ true → t' ≡ united t (i * words) t (k * words) words → Through n words k (i + 1) t₀ t'
  through_unite e u =
      record {
        same = ap length u ∙ (length_united t (i * words) t (k * words) words ∙ h.same);
        done = λ a m p q r. go a m p q r (ℕ_discrete a i);
        later = λ a m p q r. row_same words a i t t' m r (λ z. omega arith) far ∙ h.later a m p (omega arith) r;
      }
    where
      far : (j : ℕ) → (i * words ≤ j → i * words + words ≤ j) → get_or t' j 0 ≡ get_or t j 0
      far j q = ap (λ (x : List ℕ). get_or x j 0) u ∙ united_far t (i * words) t (k * words) words j q

      here : (m : ℕ) → m < 64 * words → has t' (i * words) m ≡ (has t₀ (i * words) m || (has t₀ (i * words) k && has t₀ (k * words) m))
      here m r =
          ap (λ (x : List ℕ). has x (i * words) m) u
          ∙ (united_has t (i * words) t (k * words) words (omega (arith, row_room i n words (length t) l (omega (arith, h.same)))) m r
          ∙ rw (h.later i m l (omega arith) r, row_k m r, sym (h.later i k l (omega arith) kw) ∙ e))

      go : (a m : ℕ) → a < n → a < i + 1 → m < 64 * words → Dec (a ≡ i) → has t' (a * words) m ≡ (has t₀ (a * words) m || (has t₀ (a * words) k && has t₀ (k * words) m))
      go a m p q r (yes z) = rw z (here m r)
      go a m p q r (no z) = row_same words a i t t' m r z far ∙ h.done a m p (omega arith) r

pub through_pass : (n words k i : ℕ) (t₀ t t' : List ℕ) → n ≤ 64 * words → n * words ≤ length t₀ → i < n → k < n → Through n words k i t₀ t → t' ≡ passed words k i t → Through n words k (i + 1) t₀ t'
unfolding passed
through_pass n words k i t₀ t t' wide room l kn h e = go (has t (i * words) k) refl e
  where
    go : (c : Bool) → has t (i * words) k ≡ c → t' ≡ pick c (united t (i * words) t (k * words) words) t → Through n words k (i + 1) t₀ t'
    go true q u = through_unite n words k i t₀ t t' room l kn (omega arith) h q u
    go false q u = rw u (through_skip n words k i t₀ t t' room l kn (omega arith) h q)

-- ---- one node more
pub closed_none : (n words : ℕ) (t : List ℕ) → Steps n words t → ClosedTo 0 n words t t
closed_none n words t h =
    record { same = refl; rows = λ a m p q. (λ e. one (mem_steps n words t a m (h.within a m p q e) e), λ v. start v) }
  where
    start : {a m : ℕ} → Via (steps n words t) 0 a m → has t (a * words) m ≡ true
    start {a} {m} (one x) = (steps_mem n words t a m x).1
    start (more x l v) = absurd (omega arith)

module _ (n words k : ℕ) (t₀ t t' : List ℕ) (wide : n ≤ 64 * words) (kn : k < n) (h : ClosedTo k n words t₀ t) (g : Through n words k n t t') where
  abbrev next : ℕ → List ℕ
  next = steps n words t₀

  or_true : (x y z : Bool) → (x || (y && z)) ≡ true → (x ≡ true) ⊎ ((y ≡ true) × (z ≡ true))
  or_true true y z e = inl refl
  or_true false true true e = inr (refl, refl)
  or_true false true false e = let q : ◌≡◌ {A = ℕ} 0 1 = cc in absurd (omega arith)
  or_true false false z e = let q : ◌≡◌ {A = ℕ} 0 1 = cc in absurd (omega arith)

  true_or : (x y z : Bool) → (x ≡ true) ⊎ ((y ≡ true) × (z ≡ true)) → (x || (y && z)) ≡ true
  true_or x y z (inl e) = rw e
  true_or true y z (inr e) = refl
  true_or false y z (inr e) = rw (e.0, e.1)

  pub closed_more : ClosedTo (k + 1) n words t₀ t'
  closed_more = record { same = g.same ∙ h.same; rows = λ a m p q. (λ e. subst (λ (j : ℕ). Via next j a m) s (up a m p q e), λ v. down a m p q (subst (λ (j : ℕ). Via next j a m) (sym s) v)) }
    where
      s : suc k ≡ k + 1
      s = omega arith

      up : (a m : ℕ) → a < n → m < 64 * words → has t' (a * words) m ≡ true → Via next (suc k) a m
      up a m p q e =
          ⊎_elim
          (λ x. via_more next (omega arith) ((h.rows a m p q).0 x))
          (λ x. via_join next (omega arith) (via_more next (omega arith) ((h.rows a k p (omega arith)).0 x.0)) (via_more next (omega arith) ((h.rows k m kn q).0 x.1)))
          (or_true (has t (a * words) m) (has t (a * words) k) (has t (k * words) m) (sym (g.done a m p p q) ∙ e))

      down : (a m : ℕ) → a < n → m < 64 * words → Via next (suc k) a m → has t' (a * words) m ≡ true
      down a m p q v =
          g.done a m p p q
          ∙ true_or (has t (a * words) m) (has t (a * words) k) (has t (k * words) m)
          (⊎_elim (λ x. inl ((h.rows a m p q).1 x)) (λ x. inr ((h.rows a k p (omega arith)).1 x.0, (h.rows k m kn q).1 x.1)) (via_cut next v))

pub closed_all : (n words : ℕ) (t t' : List ℕ) → ClosedTo n n words t t' → Closed n words t t'
closed_all n words t t' h =
    record {
      same = h.same;
      rows = λ a m p q. (λ e. via_reach (steps n words t) ((h.rows a m p q).0 e), λ r. (h.rows a m p q).1 (reach_via (steps n words t) (λ c b x. (steps_mem n words t c b x).0) r));
    }

-- ---- rows within their list
pub row_inside : (n words i : ℕ) (t : List ℕ) → Rows n words t → i < n → i * words + words ≤ length t
row_inside n words i t r l = row_room i n words (length t) l r.long

pub rows_apart : (words i k : ℕ) → (i * words ≤ k * words) ⊎ (k * words + words ≤ i * words)
rows_apart words i k = go (dec_lt k i)
  where
    go : Dec (k < i) → (i * words ≤ k * words) ⊎ (k * words + words ≤ i * words)
    go (yes h) = inr (row_before k i words h)
    go (no h) = inl (mul-le-mul_right words (omega arith))

pub rows_long : (n words : ℕ) (t t' : List ℕ) → Rows n words t → length t' ≡ length t → Rows n words t'
rows_long n words t t' r e = record { limit = r.limit; wide = r.wide; long = rw e r.long }

pub steps_rows : (n words : ℕ) (t : List ℕ) → Steps n words t → Rows n words t
steps_rows n words t r = record { limit = r.limit; wide = r.wide; long = r.long }
