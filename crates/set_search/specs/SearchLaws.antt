-- Laws of the search: what a row holds, and what answer a table gives for the steps that its rows hold. Assumes nothing.
use Rattle.std.proofs.Math.Path.{◌≡◌, refl, ap}
use Rattle.std.proofs.Common.{sym, ◌∙◌, ⊎_elim, arith}
use Rattle.std.specs.Prelude.{◌↔◌, Bool, Option, None, Some, ℕ, zero, suc, ◌*◌, ◌≤◌, ◌<◌, length}
use mathlib.Core.List.Memᴰ
use mathlib.Core.List.{List, ◌∷◌, Memᴰ}
use Rattle.std.proofs.Math.Bool.{true, false}
use Rattle.std.proofs.Math.Decide.{ℕ_discrete}
use Rattle.number_columns.specs.Column.{pick}
use Rattle.sheet.proofs.ListLaws.{false_true, same_test}
use Rattle.model.specs.Reach.{Reach, one, more, cyclic}
use Rattle.model_laws.specs.Lists.{trues}
use Rattle.model_laws.specs.Rounds.{le_antisym}
use Rattle.model_laws.specs.Reach.{cyclic_sound, cyclic_complete, reached, rank, length_reached, reached_iff}
use Rattle.set_bits.specs.Bits.{has}
use Rattle.set_search.specs.Search.{Steps, those, steps, marks, answer, Searched}

-- ---- those that pass a test
pub mem_those : (p : ℕ → Bool) (n m : ℕ) → m < n → p m ≡ true → Memᴰ m (those p n)
unfolding those
mem_those p zero m h e = absurd (omega arith)
mem_those p (suc n) m h e = go (λ l. mem_those p n m l e) (p n) refl (ℕ_discrete m n)
  where
    go : (m < n → Memᴰ m (those p n)) → (b : Bool) → p n ≡ b → Dec (m ≡ n) → Memᴰ m (pick b (n ∷ those p n) (those p n))
    go ih true q (yes d) = Memᴰ.head d
    go ih true q (no d) = Memᴰ.tail (ih (omega arith))
    go ih false q (yes d) = false_true (sym q ∙ (rw d at e))
    go ih false q (no d) = ih (omega arith)

pub those_mem : (p : ℕ → Bool) (n m : ℕ) → Memᴰ m (those p n) → (m < n) × (p m ≡ true)
unfolding those
those_mem p zero m x = absurd (Memᴰ.not-nil x)
those_mem p (suc n) m x = go (λ y. let r = those_mem p n m y in (omega (arith, r.0), r.1)) (p n) refl x
  where
    go : (Memᴰ m (those p n) → (m < suc n) × (p m ≡ true)) → (b : Bool) → p n ≡ b → Memᴰ m (pick b (n ∷ those p n) (those p n)) → (m < suc n) × (p m ≡ true)
    go ih true q y = ⊎_elim (λ d. (omega arith, rw d q)) ih (Memᴰ.cases_cons y)
    go ih false q y = ih y

-- a row holds a step
pub mem_steps : (n words : ℕ) (t : List ℕ) (a b : ℕ) → b < n → has t (a * words) b ≡ true → Memᴰ b (steps n words t a)
unfolding steps
mem_steps n words t a b = mem_those (has t (a * words)) n b

pub steps_mem : (n words : ℕ) (t : List ℕ) (a b : ℕ) → Memᴰ b (steps n words t a) → (b < n) × (has t (a * words) b ≡ true)
unfolding steps
steps_mem n words t a b = those_mem (has t (a * words)) n b

-- a row's steps end below n
pub steps_within : (n words : ℕ) (t : List ℕ) (a b : ℕ) → Memᴰ b (steps n words t a) → b < n
steps_within n words t a b m = (steps_mem n words t a b m).0

-- ---- steps that are the same below n
module _ (next next' : ℕ → List ℕ) (n : ℕ) (within : (a b : ℕ) → Memᴰ b (next a) → b < n)
    (goes : (a b : ℕ) → a < n → Memᴰ b (next a) → Memᴰ b (next' a)) where
  pub reach_same : (k b : ℕ) → k < n → Reach next k b → Reach next' k b
  reach_same k b h (one m) = one (goes k b h m)
  reach_same k b h (more {b = c} m q) = more (goes k c h m) (reach_same c b (within k c m) q)

module _ (next next' : ℕ → List ℕ) (n : ℕ) (within : (a b : ℕ) → Memᴰ b (next a) → b < n)
    (within' : (a b : ℕ) → Memᴰ b (next' a) → b < n)
    (same : (a b : ℕ) → a < n → Memᴰ b (next a) ↔ Memᴰ b (next' a))
    (k : ℕ) (h : k < n) where
  -- they find the same loops,
  pub cyclic_same : cyclic next n k ≡ cyclic next' n k
  cyclic_same =
      same_test
      (cyclic next n k)
      (cyclic next' n k)
      (λ e. cyclic_complete next' n k within' (reach_same next next' n within (λ a b l. (same a b l).0) k k h (cyclic_sound next n k e)))
      (λ e. cyclic_complete next n k within (reach_same next' next n within' (λ a b l. (same a b l).1) k k h (cyclic_sound next' n k e)))

  -- and reach the same nodes,
  pub reached_same : reached next n k ≡ reached next' n k
  reached_same =
      le_antisym
      (reached next n k)
      (reached next' n k)
      (length_reached next n k ∙ sym (length_reached next' n k))
      (λ b p. (reached_iff next' n within' k b).1 (reach_same next next' n within (λ a c l. (same a c l).0) k b h ((reached_iff next n within k b).0 p)))
      (λ b p. (reached_iff next n within k b).1 (reach_same next' next n within' (λ a c l. (same a c l).1) k b h ((reached_iff next' n within' k b).0 p)))

  -- as many,
  pub rank_same : rank next n k ≡ rank next' n k
  unfolding rank
  rank_same = ap trues reached_same

  -- so that the search answers the same.
  pub answer_same : answer next n k ≡ answer next' n k
  unfolding answer
  answer_same = rw (cyclic_same, rank_same)

-- ---- by the case of the answer
module _ (next : ℕ → List ℕ) (n k : ℕ) (s : List ℕ) where
  pub start_found : Searched next n k None s → cyclic next n k ≡ true
  unfolding answer
  start_found d = go (cyclic next n k) d.answered
    where
      go : (c : Bool) → None ≡ pick c None (Some (rank next n k)) → c ≡ true
      go true e = refl
      go false e = let z : ◌≡◌ {A = ℕ} 0 1 = cc in absurd (omega arith)

  pub reached_all : (c : ℕ) → Searched next n k (Some c) s → (cyclic next n k ≡ false) × (c ≡ rank next n k) × (marks n s ≡ reached next n k)
  unfolding answer
  reached_all c d = go (cyclic next n k) refl d.answered
    where
      go : (b : Bool) → cyclic next n k ≡ b → Some c ≡ pick b None (Some (rank next n k)) → (cyclic next n k ≡ false) × (c ≡ rank next n k) × (marks n s ≡ reached next n k)
      go true q e = let z : ◌≡◌ {A = ℕ} 0 1 = cc in absurd (omega arith)
      go false q e = (q, cc, d.marked q)

-- ---- a table whose rows hold the steps of `next`
pub record Holds (next : ℕ → List ℕ) (n words : ℕ) (t : List ℕ) : Type 0 where
  pub limit : words ≤ 1024
  pub wide : n ≤ 64 * words
  pub long : n * words ≤ length t
  pub within : (a b : ℕ) → Memᴰ b (next a) → b < n
  pub row : (a m : ℕ) → a < n → m < 64 * words → (has t (a * words) m ≡ true) ↔ Memᴰ m (next a)

module _ (next : ℕ → List ℕ) (n words : ℕ) (t : List ℕ) (h : Holds next n words t) where
  -- it can be searched,
  pub holds_steps : Steps n words t
  holds_steps =
      record { limit = h.limit; wide = h.wide; long = h.long; within = λ a m l k e. h.within a m ((h.row a m l k).0 e) }

  held : (a b : ℕ) → a < n → Memᴰ b (steps n words t a) ↔ Memᴰ b (next a)
  held a b l = (
    λ m. let r = steps_mem n words t a b m in (h.row a b l (omega (arith, r.0, h.wide))).0 r.1,
    λ m. let k = h.within a b m in mem_steps n words t a b k ((h.row a b l (omega (arith, k, h.wide))).1 m),
  )

  pub holds_cyclic : (k : ℕ) → k < n → cyclic (steps n words t) n k ≡ cyclic next n k
  holds_cyclic k l = cyclic_same (steps n words t) next n (steps_within n words t) h.within held k l

  pub holds_rank : (k : ℕ) → k < n → rank (steps n words t) n k ≡ rank next n k
  holds_rank k l = rank_same (steps n words t) next n (steps_within n words t) h.within held k l

  -- and what is found in it is what there is in `next`.
  pub searched_as : (k : ℕ) (r : Option ℕ) (s : List ℕ) → k < n → Searched (steps n words t) n k r s → Searched next n k r s
  searched_as k r s l d =
      record {
        answered = d.answered ∙ answer_same (steps n words t) next n (steps_within n words t) h.within held k l;
        marked = λ e. d.marked (cyclic_same (steps n words t) next n (steps_within n words t) h.within held k l ∙ e) ∙ reached_same (steps n words t) next n (steps_within n words t) h.within held k l;
      }
