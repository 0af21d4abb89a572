-- One node more, and what a table of steps says of the steps that it holds. Assumes nothing.
use Rattle.std.specs.Prelude.{◌≡◌, Bool, Option, None, Some, ℕ, ◌+◌, ◌≤◌, ◌<◌, eqb, length, get_or, set}
use Rattle.std.proofs.Common.{ap, ◌∙◌, arith, length-set, get_or-set_same, get_or-set_other, eq-eqb, ne_eqb}
use mathlib.Core.List.{List, Memᴰ}
use Rattle.std.proofs.Math.Decide.{ℕ_discrete}
use Rattle.number_columns.specs.Column.{pick}
use Rattle.sheet.proofs.ListLaws.{contrary}
use Rattle.sheet.proofs.FirstLaws.{first_before, first_congr}
use Rattle.model.specs.Decl.{bit}
use Rattle.model.specs.Reach.{Reach, cyclic}
use Rattle.model_laws.specs.Reach.{rank_less, rank_bound, cyclic_complete}
use Rattle.set_search.specs.Search.{steps, Searched}
use Rattle.set_search.specs.SearchLaws.{Holds, start_found, reached_all, holds_cyclic, holds_rank}
use Rattle.set_search.specs.Loops.{start, mark, Looped, Ranked, First}

-- one place more of a list
more : (f : ℕ → ℕ) (k : ℕ) (s t : List ℕ) (v : ℕ) → k < length t → v ≡ f k → ((i : ℕ) → i < k → get_or t i 0 ≡ f i) → (i : ℕ) → i < k + 1 → get_or (set t k v) i 0 ≡ f i
more f k s t v h e r i l = go (ℕ_discrete i k)
  where
    go : Dec (i ≡ k) → get_or (set t k v) i 0 ≡ f i
    go (yes z) = rw z (get_or-set_same t k v 0 h ∙ e)
    go (no z) = get_or-set_other t k i v 0 z ∙ r i (omega arith)

module _ (next : ℕ → List ℕ) (starts : List ℕ) (none : ℕ) where
  pub looped_more : (k : ℕ) (s t : List ℕ) (v : ℕ) → k < length s → v ≡ mark next starts none k → Looped next starts none k s t → Looped next starts none (k + 1) s (set t k v)
  looped_more k s t v h e r = record { long = length-set t k v ∙ r.long; marked = more (mark next starts none) k s t v (omega (arith, r.long)) e r.marked }

  -- no start
  pub mark_none : (k : ℕ) → get_or starts k 0 ≡ none → 0 ≡ mark next starts none k
  unfolding mark
  mark_none k e = rw (eq-eqb (get_or starts k 0) none e)

  -- a start, by what the search from it answers
  pub mark_start : (k : ℕ) → (get_or starts k 0 ≡ none → ⊥) → (r : Option ℕ) (s : List ℕ) → Searched next (length starts) k r s → start r ≡ mark next starts none k
  unfolding mark
  mark_start k e None s d = rw (ne_eqb (get_or starts k 0) none e, start_found next (length starts) k s d)
  mark_start k e (Some c) s d = rw (ne_eqb (get_or starts k 0) none e, (reached_all next (length starts) k s c d).0)

-- ---- of the steps that a table holds
pub looped_as : (next : ℕ → List ℕ) (starts : List ℕ) (none words : ℕ) (t : List ℕ) → Holds next (length starts) words t → (s s' : List ℕ)
    → Looped (steps (length starts) words t) starts none (length starts) s s'
    → Looped next starts none (length starts) s s'
unfolding mark
looped_as next starts none words t h s s' r =
    record {
      long = r.long;
      marked = λ i j. r.marked i j ∙ ap (λ (c : Bool). pick (eqb (get_or starts i 0) none) 0 (bit c)) (holds_cyclic next (length starts) words t h i j);
    }

module _ (next : ℕ → List ℕ) (n words : ℕ) (t : List ℕ) (h : Holds next n words t) (s s' : List ℕ) where
  pub ranked_as : (k : ℕ) → k ≤ n → Ranked (steps n words t) n k s s' → Ranked next n k s s'
  ranked_as k l r = record { long = r.long; ranks = λ i j. r.ranks i j ∙ holds_rank next n words t h i (omega arith) }

  pub first_as : (k : ℕ) → k ≤ n → First (steps n words t) n k s s' → First next n k s s'
  first_as k l r =
      record { is = r.is ∙ first_congr (cyclic (steps n words t) n) (cyclic next n) n (λ i j. holds_cyclic next n words t h i j); before = ranked_as k l r.before }

-- ---- where no node reaches itself
module _ (next : ℕ → List ℕ) (n : ℕ) (within : (a b : ℕ) → Memᴰ b (next a) → b < n) (s s' : List ℕ) (r : First next n n s s') where
  pub none_loops : (k : ℕ) → k < n → Reach next k k → ⊥
  none_loops k h w =
      contrary (cyclic next n k) (cyclic_complete next n k within w) (first_before (cyclic next n) n k (omega (arith, r.is)))

  -- each step lowers the rank,
  pub ranks_fall : (a b : ℕ) → a < n → Memᴰ b (next a) → get_or s' b 0 < get_or s' a 0
  ranks_fall a b h m =
      let l : b < n = within a b m in
      rw (r.before.ranks b l, r.before.ranks a h) (rank_less next n within a b m (none_loops b l))

  -- which is below the number of nodes.
  pub ranks_below : (a : ℕ) → a < n → get_or s' a 0 < n
  ranks_below a h = rw (r.before.ranks a h) (rank_bound next n within a h (none_loops a h))
