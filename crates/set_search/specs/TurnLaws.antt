-- What holds in the loops of the search, and what a turn of each makes of it. Assumes nothing.
use Rattle.std.specs.Prelude.{◌≡◌, refl, ◌≢◌, Bool, ◌&&◌, None, Some, ℕ, suc, ◌+◌, ◌-◌, ◌*◌, ◌/◌, ◌^◌, ◌≤◌, ◌<◌, length, get_or, set}
use Rattle.std.proofs.Common.{sym, ◌∙◌, inl, mul-le-mul_right, arith, length-set, get_or-set_same, get_or-set_other, ext_get_or}
use mathlib.Core.List.{List, [], ◌∷◌, Memᴰ}
use Rattle.std.proofs.Math.Bool.{true, false, not}
use borrow.Author.Tests.{not-true}
use Rattle.sheet.proofs.ListLaws.{both, contrary}
use Rattle.sheet.specs.Sheet.{first}
use Rattle.sheet.proofs.FirstLaws.{first_holds, first_before}
use Rattle.model.specs.Reach.{Reach, cyclic}
use Rattle.model_laws.specs.Lists.{trues, length_table, get_or_table, true_of}
use Rattle.model_laws.specs.Rounds.{At, at_lt, cases_eq}
use Rattle.model_laws.specs.Reach.{cyclic_sound, cyclic_complete}
use Rattle.set_bits.specs.Bits.{has, inserted, cleared}
use Rattle.set_bits.specs.BitsLaws.{row_room, length_inserted, inserted_same, inserted_other, length_cleared, cleared_none}
use Rattle.set_bits.specs.Outside.{outside}
use Rattle.set_search.specs.Search.{Steps, steps, marks, answer, Searched}
use Rattle.set_search.specs.SearchLaws.{mem_steps, steps_mem, steps_within}
use Rattle.set_search.specs.QueueLaws.{State, state_room, state_step, state_done, state_more, state_none, state_reached, state_rank}

-- ---- marks
pub length_marks : (n : ℕ) (s : List ℕ) → length (marks n s) ≡ n
unfolding marks
length_marks n s = length_table (has s 0) n

pub marks_at : (n : ℕ) (s : List ℕ) (i : ℕ) → i < n → get_or (marks n s) i false ≡ has s 0 i
unfolding marks
marks_at n s i h = get_or_table (has s 0) n i false h

-- a member more is a mark more
pub marks_more : (n : ℕ) (s : List ℕ) (m : ℕ) → m < n → m / 64 < length s → marks n (inserted s 0 m) ≡ set (marks n s) m true
marks_more n s m h l =
    ext_get_or
    false
    (marks n (inserted s 0 m))
    (set (marks n s) m true)
    (length_marks n (inserted s 0 m) ∙ sym (length-set (marks n s) m true ∙ length_marks n s))
    (λ i j.
    let k : i < n = rw (length_marks n (inserted s 0 m)) at j in
    marks_at n (inserted s 0 m) i k
    ∙ cases_eq
    i
    m
    (λ e. rw (e, inserted_same s 0 m (omega arith), get_or-set_same (marks n s) m true false (omega (arith, length_marks n s))))
    (λ d. inserted_other s 0 m (omega arith) i d ∙ sym (get_or-set_other (marks n s) m i true false d ∙ marks_at n s i k)))

none_true : (s : List Bool) → ((i : ℕ) → At s i → ⊥) → trues s ≡ 0
unfolding trues
none_true [] h = refl
none_true (true ∷ s) h = absurd (h 0 tt)
none_true (false ∷ s) h = omega (arith, none_true s (λ i. h (suc i)))

not_so : (b : Bool) → (b ≡ true → ⊥) → b ≡ false
not_so true h = absurd (h refl)
not_so false h = refl

not_outside : (a b : Bool) → (a && not b) ≡ false → a ≡ true → b ≡ true
not_outside true true e h = refl
not_outside true false e h = sym e
not_outside false b e h = absurd (contrary false h refl)

-- ---- the loop over the queue
pub record Outer (t : List ℕ) (words n k : ℕ) (ms qs : List ℕ) (head last : ℕ) : Type 0 where
  pub table : Steps n words t
  pub start : k < n
  pub marks_long : words ≤ length ms
  pub queue_long : n ≤ length qs
  pub low : head ≤ last + 1
  pub state : State (steps n words t) n k qs (marks n ms) head last

-- ---- the loop over the names of the entry at the head
pub record Inner (t : List ℕ) (words n k : ℕ) (ms qs : List ℕ) (head last node row name : ℕ) : Type 0 where
  pub outer : Outer t words n k ms qs head last
  pub inside : head ≤ last
  pub entry : get_or qs head 0 ≡ node
  pub at : row ≡ node * words
  pub is : name ≡ first (outside t row ms 0) (64 * words)

module _ (t : List ℕ) (words n k : ℕ) where
  pub outer_begin : (ms qs : List ℕ) → Steps n words t → k < n → words ≤ length ms → n ≤ length qs → Outer t words n k (cleared ms 0 words) (set qs 0 k) 0 0
  outer_begin ms qs s h l m =
      record {
        table = s;
        start = h;
        marks_long = omega (arith, length_cleared ms 0 words);
        queue_long = omega (arith, length-set qs 0 k);
        low = omega arith;
        state = record {
          long = length_marks n (cleared ms 0 words);
          counted = none_true (marks n (cleared ms 0 words)) none;
          first = put;
          node = λ i j. let e : i ≡ 0 = omega arith in rw (e, put) h;
          from = λ i j. let e : i ≡ 0 = omega arith in rw e (inl put);
          met = λ b a. absurd (none b a);
          shut = λ i j. absurd (omega arith);
          start = none k;
        };
      }
    where
      put : get_or (set qs 0 k) 0 0 ≡ k
      put = get_or-set_same qs 0 k 0 (omega arith)

      none : (i : ℕ) → At (marks n (cleared ms 0 words)) i → ⊥
      none i a =
          let j : i < n = omega (arith, at_lt (marks n (cleared ms 0 words)) i a, length_marks n (cleared ms 0 words)) in
          contrary (has (cleared ms 0 words) 0 i) (sym (marks_at n (cleared ms 0 words) i j) ∙ true_of (get_or (marks n (cleared ms 0 words)) i false) a) (cleared_none ms 0 words (omega arith) i (omega (arith, s.wide)))

  -- all entries are done
  pub outer_end : (ms qs : List ℕ) (head last : ℕ) → Outer t words n k ms qs head last → last < head → Searched (steps n words t) n k (Some last) ms
  unfolding answer
  outer_end ms qs head last o d =
      let f : cyclic (steps n words t) n k ≡ false =
      not_so (cyclic (steps n words t) n k) (λ e. state_none (steps n words t) n k qs (marks n ms) head last o.start (steps_within n words t) o.state d (cyclic_sound (steps n words t) n k e)) in
      record {
        answered = rw (f, state_rank (steps n words t) n k qs (marks n ms) head last o.start (steps_within n words t) o.state d);
        marked = λ _. state_reached (steps n words t) n k qs (marks n ms) head last o.start (steps_within n words t) o.state d;
      }

  module _ (ms qs : List ℕ) (head last : ℕ) (o : Outer t words n k ms qs head last) where
    pub outer_few : n ≤ 65536
    outer_few = omega (arith, o.table.wide, o.table.limit)

    pub outer_room : last < n
    outer_room = state_room (steps n words t) n k qs (marks n ms) head last o.start o.state

    -- the row of an entry stands in the table
    pub outer_row : head ≤ last → get_or qs head 0 * words + words ≤ length t
    outer_row h = row_room (get_or qs head 0) n words (length t) (o.state.node head h) o.table.long

    pub outer_place : head ≤ last → get_or qs head 0 * words < 2 ^ 64
    outer_place h =
        let l : get_or qs head 0 ≤ 65536 = omega (arith, outer_few, o.state.node head h) in
        omega (arith, mul-le-mul_right words l, o.table.limit)

    -- the entry at the head stands in the queue, and its place and its node are small
    pub outer_in : head ≤ last → head < length qs
    outer_in h = omega (arith, outer_room, o.queue_long)

    pub outer_twice : head ≤ last → head * 2 < 2 ^ 64
    outer_twice h = omega (arith, outer_room, outer_few)

    pub outer_node : head ≤ last → get_or qs head 0 < 2 ^ 64
    outer_node h = omega (arith, outer_few, o.state.node head h)

    pub outer_next : head ≤ last → head + 1 < 2 ^ 64
    outer_next h = omega (arith, outer_room, outer_few)

    pub outer_less : head ≤ last → n - (head + 1) < n - head
    outer_less h = omega (arith, outer_room)

  module _ (ms qs : List ℕ) (head last node row name : ℕ) (i : Inner t words n k ms qs head last node row name) where
    pub inner_node : node < n
    inner_node = rw i.entry at (i.outer.state.node head i.inside)

    -- a name of the entry that is not marked yet
    record New : Type 0 where
      inside : name < n
      step : Memᴰ name (steps n words t node)
      unmarked : has ms 0 name ≡ false

    new : name < 64 * words → New
    unfolding outside
    new h =
        let e : outside t row ms 0 name ≡ true = rw i.is (first_holds (outside t row ms 0) (64 * words) (rw i.is at h)) in
        let b = both (has t row name) (not (has ms 0 name)) e in
        let r : has t (node * words) name ≡ true = rw i.at at b.0 in
        let l : name < n = i.outer.table.within node name inner_node h r in
        record { inside = l; step = mem_steps n words t node name l r; unmarked = not-true (has ms 0 name) b.1 }

    reaches : name < 64 * words → Reach (steps n words t) k name
    reaches h =
        state_step (steps n words t) n k qs (marks n ms) head last i.outer.start i.outer.state head name i.inside (rw i.entry (new h).step)

    pub inner_name : name < 64 * words → name < n
    inner_name h = (new h).inside

    -- it is the start
    pub inner_found : name < 64 * words → name ≡ k → Searched (steps n words t) n k None ms
    unfolding answer
    inner_found h e =
        let c : cyclic (steps n words t) n k ≡ true = cyclic_complete (steps n words t) n k (steps_within n words t) (rw e at (reaches h)) in
        record { answered = rw c; marked = λ f. contrary (cyclic (steps n words t) n k) c f }

    -- it is another: it is marked, and the next one looked for
    pub inner_more : name < 64 * words → name ≢ k → (name' : ℕ) → name' ≡ first (outside t row (inserted ms 0 name) 0) (64 * words) → Inner t words n k (inserted ms 0 name) (set qs (last + 1) name) head (last + 1) node row name'
    inner_more h d name' e =
        let l : name < n = inner_name h in
        let w : 0 + name / 64 < length ms = omega (arith, i.outer.marks_long) in
        let f : get_or (marks n ms) name false ≡ false = marks_at n ms name l ∙ (new h).unmarked in
        record {
          outer = record {
            table = i.outer.table;
            start = i.outer.start;
            marks_long = omega (arith, length_inserted ms 0 name w, i.outer.marks_long);
            queue_long = omega (arith, length-set qs (last + 1) name, i.outer.queue_long);
            low = omega (arith, i.inside);
            state = rw (marks_more n ms name l (omega arith)) (state_more (steps n words t) n k qs (marks n ms) head last i.outer.start i.outer.state name i.inside i.outer.queue_long l f d (reaches h));
          };
          inside = omega (arith, i.inside);
          entry = get_or-set_other qs (last + 1) head name 0 (λ z. omega (arith, i.inside)) ∙ i.entry;
          at = i.at;
          is = e;
        }

    -- the queue has room for it
    inner_last : name < 64 * words → name ≢ k → last + 1 < n
    inner_last h d = outer_room (inserted ms 0 name) (set qs (last + 1) name) head (last + 1) (inner_more h d _ refl).outer

    pub inner_next : last + 1 < 2 ^ 64
    inner_next = omega (arith, outer_room ms qs head last i.outer, outer_few ms qs head last i.outer)

    pub inner_twice : (last + 1) * 2 < 2 ^ 64
    inner_twice = omega (arith, outer_room ms qs head last i.outer, outer_few ms qs head last i.outer)

    pub inner_small : name < 64 * words → name < 2 ^ 16
    inner_small h = omega (arith, inner_name h, outer_few ms qs head last i.outer)

    pub inner_in : name < 64 * words → name ≢ k → last + 1 < length qs
    inner_in h d = omega (arith, inner_last h d, i.outer.queue_long)

    pub inner_less : n - (last + 1) < n - last
    inner_less = omega (arith, outer_room ms qs head last i.outer)

    -- there is none
    pub inner_done : 64 * words ≤ name → Outer t words n k ms qs (head + 1) last
    unfolding outside
    inner_done h =
        record {
          table = i.outer.table;
          start = i.outer.start;
          marks_long = i.outer.marks_long;
          queue_long = i.outer.queue_long;
          low = omega (arith, i.inside);
          state = state_done (steps n words t) n k qs (marks n ms) head last i.outer.start i.outer.state done;
        }
      where
        done : (b : ℕ) → Memᴰ b (steps n words t (get_or qs head 0)) → At (marks n ms) b
        done b m =
            let r = steps_mem n words t node b (rw i.entry at m) in
            let o : (has t row b && not (has ms 0 b)) ≡ false = first_before (outside t row ms 0) (64 * words) b (omega (arith, i.is, r.0, i.outer.table.wide)) in
            let x : has ms 0 b ≡ true = not_outside (has t row b) (has ms 0 b) o (rw i.at r.1) in
            rw (marks_at n ms b r.0, x) tt
