-- The search by a queue of nodes, each of them marked but for the start, which stands first. Assumes nothing.
use Rattle.std.specs.Prelude.{◌≡◌, ◌⊎◌, ◌≢◌, Bool, true, false, ℕ, suc, ◌+◌, ◌≤◌, ◌<◌, length, get_or, set}
use Rattle.std.proofs.Math.Path.{ap, sym}
use Rattle.std.proofs.Common.{◌∙◌, inr, ⊎_elim, arith, add-one, length-set, get_or-set_same, get_or-set_other}
use mathlib.Core.List.{List, Memᴰ}
use Rattle.std.proofs.Math.Decide.{dec_lt}
use Rattle.model.specs.Reach.{Reach, one, more}
use Rattle.model_laws.specs.Lists.{trues}
use Rattle.model_laws.specs.Rounds.{At, le_antisym}
use Rattle.model_laws.specs.Reach.{trues_out, trues_set, mark_up, mark_only, reach_further, reach_stays, reached, rank, length_reached, reached_iff}

-- where a node stands among the entries up to the last
pub record Entry (order : List ℕ) (last b : ℕ) : Type 0 where
  pub place : ℕ
  pub low : place ≤ last
  pub is : get_or order place 0 ≡ b

module _ (next : ℕ → List ℕ) (n k : ℕ) where
  -- What holds at the head of the search: each entry is the start or is reached, each marked node is
  -- an entry and not the start, and the steps of the entries before the head lead to marked nodes.
  pub record State (order : List ℕ) (seen : List Bool) (head last : ℕ) : Type 0 where
    pub long : length seen ≡ n
    pub counted : trues seen ≡ last
    pub first : get_or order 0 0 ≡ k
    pub node : (i : ℕ) → i ≤ last → get_or order i 0 < n
    pub from : (i : ℕ) → i ≤ last → (get_or order i 0 ≡ k) ⊎ Reach next k (get_or order i 0)
    pub met : (b : ℕ) → At seen b → Entry order last b
    pub shut : (i : ℕ) → i < head → (b : ℕ) → Memᴰ b (next (get_or order i 0)) → At seen b
    pub start : At seen k → ⊥

  module _ (order : List ℕ) (seen : List Bool) (head last : ℕ) (h : k < n) (s : State order seen head last) where
    -- the start is not marked, so there is room for it
    pub state_room : last < n
    state_room = omega (arith, s.long, s.counted, trues_out seen k (omega (arith, s.long)) s.start)

    -- a step from an entry
    pub state_step : (i b : ℕ) → i ≤ last → Memᴰ b (next (get_or order i 0)) → Reach next k b
    state_step i b l m = ⊎_elim (λ e. one (rw e at m)) (λ r. reach_further next r m) (s.from i l)

    -- the entry at the head is done
    pub state_done : ((b : ℕ) → Memᴰ b (next (get_or order head 0)) → At seen b) → State order seen (head + 1) last
    state_done d =
        record {
          long = s.long;
          counted = s.counted;
          first = s.first;
          node = s.node;
          from = s.from;
          met = s.met;
          shut = λ i l b m. below i (dec_lt i head) l b m;
          start = s.start;
        }
      where
        below : (i : ℕ) → Dec (i < head) → i < head + 1 → (b : ℕ) → Memᴰ b (next (get_or order i 0)) → At seen b
        below i (yes x) l b m = s.shut i x b m
        below i (no x) l b m = let e : i ≡ head = omega arith in d b (rw e at m)

    -- a node that is met for the first time
    pub state_more : (b : ℕ) → head ≤ last → n ≤ length order → b < n → get_or seen b false ≡ false → b ≢ k → Reach next k b → State (set order (last + 1) b) (set seen b true) head (last + 1)
    state_more b l w i f d r =
        let in_b : b < length seen = omega (arith, s.long) in
        let count : trues (set seen b true) ≡ suc (trues seen) = trues_set seen b in_b f in
        let new : At (set seen b true) k → ⊥ = λ a. ⊎_elim (λ e. d (sym e)) s.start (mark_only seen b k a) in
        let room : last + 1 < n =
        omega (arith, count, s.long, s.counted, length-set seen b true, trues_out (set seen b true) k (omega (arith, s.long, length-set seen b true)) new) in
        let same : (j : ℕ) → j ≤ last → get_or (set order (last + 1) b) j 0 ≡ get_or order j 0 = λ j y. get_or-set_other order (last + 1) j b 0 (λ e. omega arith) in
        let put : get_or (set order (last + 1) b) (last + 1) 0 ≡ b = get_or-set_same order (last + 1) b 0 (omega arith) in
        record {
          long = length-set seen b true ∙ s.long;
          counted = count ∙ ap suc s.counted ∙ sym (add-one last);
          first = same 0 (omega arith) ∙ s.first;
          node = λ j y. upto (λ x. x < n) same put s.node i j y;
          from = λ j y. upto (λ x. (x ≡ k) ⊎ Reach next k x) same put s.from (inr r) j y;
          met = λ c a.
              ⊎_elim
              (λ (e : c ≡ b). record { place = last + 1; low = omega arith; is = put ∙ sym e })
              (λ x. let t = s.met c x in record { place = t.place; low = omega (arith, t.low); is = same t.place t.low ∙ t.is })
              (mark_only seen b c a);
          shut = λ j y c m. mark_up seen b c (s.shut j y c (rw (same j (omega arith)) at m));
          start = new;
        }
      where
        upto : (P : ℕ → Type 0)
            → ((j : ℕ) → j ≤ last → get_or (set order (last + 1) b) j 0 ≡ get_or order j 0)
            → get_or (set order (last + 1) b) (last + 1) 0 ≡ b
            → ((j : ℕ) → j ≤ last → P (get_or order j 0))
            → P b
            → (j : ℕ)
            → j ≤ last + 1
            → P (get_or (set order (last + 1) b) j 0)
        upto P same put old new j y = go (dec_lt last j)
          where
            go : Dec (last < j) → P (get_or (set order (last + 1) b) j 0)
            go (yes x) = let e : j ≡ last + 1 = omega arith in rw (e, put) new
            go (no x) = rw (same j (omega arith)) (old j (omega arith))

  -- ---- with all entries done
  module _ (order : List ℕ) (seen : List Bool) (head last : ℕ) (h : k < n) (within : (a b : ℕ) → Memᴰ b (next a) → b < n)
      (s : State order seen head last) (done : last < head) where
    closed : (a b : ℕ) → At seen a → Memᴰ b (next a) → At seen b
    closed a b p m = let t = s.met a p in s.shut t.place (omega (arith, t.low)) b (rw t.is m)

    all : (b : ℕ) → Reach next k b → At seen b
    all b (one m) = s.shut 0 (omega arith) b (rw s.first m)
    all b (more {b = c} m q) = reach_stays next (λ (x : ℕ). At seen x) closed q (s.shut 0 (omega arith) c (rw s.first m))

    -- the start does not reach itself
    pub state_none : Reach next k k → ⊥
    state_none r = s.start (all k r)

    -- marked is what is reached
    pub state_reached : seen ≡ reached next n k
    state_reached =
        le_antisym
        seen
        (reached next n k)
        (s.long ∙ sym (length_reached next n k))
        (λ b p. (reached_iff next n within k b).1 (only b p))
        (λ b p. all b ((reached_iff next n within k b).0 p))
      where
        only : (b : ℕ) → At seen b → Reach next k b
        only b p =
            let t = s.met b p in
            ⊎_elim (λ e. let z : b ≡ k = sym t.is ∙ e in absurd (s.start (rw z at p))) (λ r. rw t.is at r) (s.from t.place t.low)

    pub state_rank : last ≡ rank next n k
    unfolding rank
    state_rank = sym s.counted ∙ ap trues state_reached
