-- Row 6 is one of its ways, and the groups that the names of earlier lines were last seen in decide it. Assumes nothing.
use Rattle.std.specs.Prelude.{◌≡◌, List, ◌⊎◌, Bool, ◌&&◌, ◌||◌, ltb, length, set, replicate}
use Rattle.std.proofs.Math.Path.{refl, ap, sym}
use Rattle.std.proofs.Common.{◌∙◌, inl, inr, ⊎_elim, get_or-set_same, get_or-take, get_or-drop, drop-set-lt}
use Rattle.std.proofs.Math.Bool.{true, false, and_assoc, and-false}
use Prim.Native.Nat.{ℕ, zero, suc, ◌+◌, ◌≤◌, ◌<◌, min}
use native.Mathlib.Omega.{arith}
use Rattle.std.proofs.Math.Dec.{eqb, eqb-zero-suc, eqb-suc-suc}
use Rattle.std.proofs.Math.ListN.{get_or, length-set, get_or-replicate}
use Rattle.std.proofs.Math.Seq.{get_or-set_other, take-set-lt}
use Rattle.std.proofs.lemmas.List.{take-set-le, drop-set-add}
use borrow.Author.Tests.{eqb-true, eqb-false, eq-eqb, ne_eqb, ltb-true}
use Rattle.number_columns.specs.Column.{pick}
use Rattle.sheet.specs.Line.{Line, letter, number, text}
use Rattle.sheet.specs.Sheet.{first}
use Rattle.sheet.proofs.FirstLaws.{first_congr}
use Rattle.sheet.proofs.ListLaws.{both}
use Rattle.meaning.specs.Program.{name_line, param_line, ctor_line, field_line, is, is_head, select}
use Rattle.meaning.specs.Rows.{some_below, nth_line, count_of, count_before, heads_before, good_head, good_numbers, equal, is_ctor, same_decl, same_ctor, repeats, row6}
use Rattle.rows_header.specs.Header.{Lettered}
use Rattle.row3_order.specs.StepLaws.{count_before_step, heads_before_step, count_before_mono, heads_before_mono}
use Rattle.row4_limits.specs.LimitsLaws.{head_cases}
use Rattle.row6_spellings.specs.Spellings.{respelled}
use Rattle.row6_spellings.specs.SomeLaws.{some_zero, some_suc, some_congr, some_none, some_or, or_true, or_false, first_or}
use Rattle.row6_distinct.specs.Ways.{Way, Declared, Parameters, Fields, Constructors, alike, repeated, repeated_any, takes, begins, group, stamp, Named, After, groups_after, ctor_marks, field_marks, MembersAfter, HeadAfter}
use Rattle.row6_distinct.specs.declared.repeats.Groups.{Groups}

-- ---- the ways
spread : (a e h p f c : Bool) → a || (e && (h || p || f || c)) ≡ a || ((e && h) || ((e && p) || ((e && f) || (e && c))))
spread a true h p f c = ap (λ (b : Bool). a || b) (right h p)
  where
    right : (h p : Bool) → (h || p || f || c) ≡ h || (p || (f || c))
    right true p = refl
    right false true = refl
    right false false = refl
spread a false h p f c = refl

-- line i repeats line j in this way
abbrev same_name : Way → List Line → ℕ → ℕ → Bool
same_name way ls i j = eqb (number (nth_line ls j) 0) (number (nth_line ls i) 0) && alike way ls j i

abbrev same_spelling : List Line → ℕ → ℕ → Bool
same_spelling ls i j = is name_line (nth_line ls j) && is name_line (nth_line ls i) && equal (text (nth_line ls j)) (text (nth_line ls i))

row6_ways : (ls : List Line) (i : ℕ)
    → row6 ls i ≡ respelled ls i || repeated_any ls i
unfolding row6 repeats respelled repeated
row6_ways ls i =
    some_congr (repeats ls i)
    (λ j. same_spelling ls i j || (same_name Declared ls i j || (same_name Parameters ls i j || (same_name Fields ls i j || same_name Constructors ls i j)))) i
    (λ j h. spread (same_spelling ls i j) (eqb (number (nth_line ls j) 0) (number (nth_line ls i) 0)) (alike Declared ls j i) (alike Parameters ls j i) (alike Fields ls j i) (alike Constructors ls j i))
    ∙ some_or (same_spelling ls i) (λ j. same_name Declared ls i j || (same_name Parameters ls i j || (same_name Fields ls i j || same_name Constructors ls i j))) i
    ∙ ap (λ (b : Bool). respelled ls i || b)
    (some_or (same_name Declared ls i) (λ j. same_name Parameters ls i j || (same_name Fields ls i j || same_name Constructors ls i j)) i
    ∙ ap (λ (b : Bool). repeated Declared ls i || b)
    (some_or (same_name Parameters ls i) (λ j. same_name Fields ls i j || same_name Constructors ls i j) i
    ∙ ap (λ (b : Bool). repeated Parameters ls i || b) (some_or (same_name Fields ls i) (same_name Constructors ls i) i)))

-- the place of row 6 is the lesser of the places of spellings and names
pub first_row6 : (ls : List Line) (n : ℕ) → first (row6 ls) n ≡ min (first (respelled ls) n) (first (repeated_any ls) n)
first_row6 ls n =
    first_congr (row6 ls) (λ i. respelled ls i || repeated_any ls i) n (λ i h. row6_ways ls i)
    ∙ first_or (respelled ls) (repeated_any ls) n

-- ---- the last group of each name
module _ (p : ℕ → Bool) (x g : ℕ → ℕ) where
  -- a line before line i has the name v and is of the group m
  abbrev seen : ℕ → ℕ → ℕ → Bool
  seen v m j = p j && (eqb (x j) v && eqb (g j) m)

  -- the last group is m exactly if one has, where groups do not fall
  pub stamp_is : (i v m : ℕ) → ((j k : ℕ) → j ≤ k → k < i → g j ≤ g k) → ((j : ℕ) → j < i → g j ≤ m) → eqb (stamp p x g i v) (suc m) ≡ some_below (seen v m) i
  unfolding stamp
  stamp_is zero v m mono top = eqb-zero-suc m ∙ sym (some_zero (seen v m))
  stamp_is (suc i) v m mono top = go (p i && eqb (x i) v) refl (stamp_is i v m (λ j k h l. mono j k h (omega arith)) (λ j h. top j (omega arith))) ∙ sym (some_suc (seen v m) i)
    where
      later : (c : Bool) → eqb (g i) m ≡ c → c ≡ some_below (seen v m) i || c
      later true e = sym (or_true (some_below (seen v m) i))
      later false e =
          sym (or_false (some_below (seen v m) i) ∙ some_none (seen v m) i (λ j h. rw (ne_eqb (g j) m (λ q. eqb-false (g i) m e (omega (arith, mono j i (omega arith) (omega arith), top i (omega arith)))), and-false (eqb (x j) v)) (and-false (p j))))

      go : (c : Bool) → (p i && eqb (x i) v) ≡ c → eqb (stamp p x g i v) (suc m) ≡ some_below (seen v m) i
          → eqb (pick c (suc (g i)) (stamp p x g i v)) (suc m) ≡ some_below (seen v m) i || seen v m i
      go true e ih = rw (← (and_assoc (p i) (eqb (x i) v) (eqb (g i) m)), e) (eqb-suc-suc (g i) m ∙ later (eqb (g i) m) refl)
      go false e ih = rw (← (and_assoc (p i) (eqb (x i) v) (eqb (g i) m)), e) (ih ∙ sym (or_false (some_below (seen v m) i)))

-- ---- groups
-- a group's number, from line to line
group_mono : (way : Way) (ls : List Line) (j i : ℕ) → j ≤ i → i ≤ length ls → group way ls j ≤ group way ls i
group_mono Declared ls j i h l = omega arith
group_mono Parameters ls j i h l = heads_before_mono ls j i h l
group_mono Fields ls j i h l = omega (arith, heads_before_mono ls j i h l, count_before_mono ls ctor_line j i h l)
group_mono Constructors ls j i h l = omega arith

group_suc : (way : Way) (ls : List Line) (i : ℕ) → i < length ls → group way ls (suc i) ≡ pick (begins way (nth_line ls i)) (group way ls i + 1) (group way ls i)
group_suc Declared ls i h = refl
group_suc Parameters ls i h = heads_before_step ls i h
group_suc Fields ls i h = rw (heads_before_step ls i h, count_before_step ls i h ctor_line) (go (is_head (nth_line ls i)) refl (is ctor_line (nth_line ls i)) refl)
  where
    both : (letter (nth_line ls i) ≡ 68) ⊎ (letter (nth_line ls i) ≡ 73) → letter (nth_line ls i) ≡ 67 → ⊥
    both (inl d) e = omega arith
    both (inr d) e = omega arith

    go : (a : Bool) → is_head (nth_line ls i) ≡ a → (b : Bool) → is ctor_line (nth_line ls i) ≡ b →
        pick a (heads_before ls i + 1) (heads_before ls i) + pick b (count_before ctor_line ls i + 1) (count_before ctor_line ls i)
        ≡ pick (a || b) (group Fields ls i + 1) (group Fields ls i)
    go true d true e = absurd (both (head_cases (letter (nth_line ls i)) d) (eqb-true (letter (nth_line ls i)) 67 e))
    go true d false e = omega arith
    go false d true e = omega arith
    go false d false e = refl
group_suc Constructors ls i h = refl

-- a line with a name of a way begins no group of it
pub takes_begins : (way : Way) (l : Line) → takes way l ≡ true → begins way l ≡ false
takes_begins Declared l e = refl
takes_begins Parameters l e = rw (eqb-true (letter l) 80 e)
takes_begins Fields l e = rw (eqb-true (letter l) 70 e)
takes_begins Constructors l e = refl

-- lines that are to differ are of one group
and_pair : (a b : Bool) → a && b ≡ a && (b && true)
and_pair true true = refl
and_pair true false = refl
and_pair false b = refl

eqb_sum : (a b c d : ℕ) → a ≤ c → b ≤ d → eqb a c && eqb b d ≡ eqb (a + b) (c + d)
eqb_sum a b c d h k = go (eqb a c) refl (eqb b d) refl
  where
    go : (s : Bool) → eqb a c ≡ s → (t : Bool) → eqb b d ≡ t → s && t ≡ eqb (a + b) (c + d)
    go true e true f = sym (eq-eqb (a + b) (c + d) (omega (arith, eqb-true a c e, eqb-true b d f)))
    go true e false f = sym (ne_eqb (a + b) (c + d) (λ q. eqb-false b d f (omega (arith, eqb-true a c e))))
    go false e t f = sym (ne_eqb (a + b) (c + d) (λ q. eqb-false a c e (omega arith)))

alike_group : (way : Way) (ls : List Line) (j i : ℕ) → j < i → i ≤ length ls
    → alike way ls j i ≡ takes way (nth_line ls j) && (takes way (nth_line ls i) && eqb (group way ls j) (group way ls i))
alike_group Declared ls j i h l = and_pair (is_head (nth_line ls j)) (is_head (nth_line ls i))
alike_group Parameters ls j i h l = and_assoc (is param_line (nth_line ls j)) (is param_line (nth_line ls i)) (same_decl ls j i)
alike_group Fields ls j i h l =
    and_assoc (is field_line (nth_line ls j)) (is field_line (nth_line ls i)) (same_ctor ls j i)
    ∙ ap (λ (b : Bool). is field_line (nth_line ls j) && (is field_line (nth_line ls i) && b))
    (eqb_sum (heads_before ls j) (count_before ctor_line ls j) (heads_before ls i) (count_before ctor_line ls i) (heads_before_mono ls j i (omega arith) l) (count_before_mono ls ctor_line j i (omega arith) l))
alike_group Constructors ls j i h l = and_pair (is_ctor (nth_line ls j)) (is_ctor (nth_line ls i))

-- ---- a line by the last group of its name
module _ (way : Way) (ls : List Line) where
  -- the last group of name v among the lines before line i
  abbrev pub last_group : ℕ → ℕ → ℕ
  last_group i v = stamp (λ j. takes way (nth_line ls j)) (λ j. number (nth_line ls j) 0) (group way ls) i v

  pub repeated_takes : (i : ℕ) → i < length ls → takes way (nth_line ls i) ≡ true →
      repeated way ls i ≡ eqb (last_group i (number (nth_line ls i) 0)) (suc (group way ls i))
  unfolding repeated
  repeated_takes i h e =
      some_congr (same_name way ls i)
      (seen (λ j. takes way (nth_line ls j)) (λ j. number (nth_line ls j) 0) (group way ls) (number (nth_line ls i) 0) (group way ls i)) i
      (λ j l. rw (alike_group way ls j i l (omega arith), e) (swap (eqb (number (nth_line ls j) 0) (number (nth_line ls i) 0)) (takes way (nth_line ls j)) (eqb (group way ls j) (group way ls i))))
      ∙ sym
      (stamp_is (λ j. takes way (nth_line ls j)) (λ j. number (nth_line ls j) 0) (group way ls) i (number (nth_line ls i) 0) (group way ls i)
      (λ j k m l. group_mono way ls j k m (omega arith)) (λ j m. group_mono way ls j i (omega arith) (omega arith)))
    where
      swap : (a b c : Bool) → a && (b && c) ≡ b && (a && c)
      swap true true c = refl
      swap true false c = refl
      swap false true c = refl
      swap false false c = refl

  pub repeated_other : (i : ℕ) → i < length ls → takes way (nth_line ls i) ≡ false → repeated way ls i ≡ false
  unfolding repeated
  repeated_other i h e =
      some_none (same_name way ls i) i
      (λ j l. rw (alike_group way ls j i l (omega arith), e, and-false (takes way (nth_line ls j))) (and-false (eqb (number (nth_line ls j) 0) (number (nth_line ls i) 0))))

-- The array `last` has the last group of each name before line i, counted from 1, and line i is of group g, counted from 1.
pub record Stamped (way : Way) (ls : List Line) (i : ℕ) (last : List ℕ) (g : ℕ) : Type 0 where
  pub sized : length last ≡ 256
  pub held : (v : ℕ) → v < 256 → get_or last v 0 ≡ last_group way ls i v
  pub grouped : g ≡ suc (group way ls i)

group_zero : (way : Way) (ls : List Line) → group way ls 0 ≡ 0
unfolding select
group_zero Declared ls = refl
group_zero Parameters ls = refl
group_zero Fields ls = refl
group_zero Constructors ls = refl

module _ (way : Way) (ls : List Line) where
  pub stamped_none : Stamped way ls 0 (replicate 256 0) 1
  unfolding stamp
  stamped_none = record { sized = refl; held = λ v h. get_or-replicate 256 v 0 0 h; grouped = ap suc (sym (group_zero way ls)) }

  module _ (i : ℕ) (last : List ℕ) (g : ℕ) (h : i < length ls) (s : Stamped way ls i last g) where
    -- what the array says of a line with a name of this way
    pub repeated_stamp : (v : ℕ) → v < 256 → number (nth_line ls i) 0 ≡ v → takes way (nth_line ls i) ≡ true → repeated way ls i ≡ eqb (get_or last v 0) g
    repeated_stamp v l e t = repeated_takes way ls i h t ∙ rw (e, s.held v l, s.grouped)

    pub stamped_take : (v : ℕ) → v < 256 → number (nth_line ls i) 0 ≡ v → takes way (nth_line ls i) ≡ true → Stamped way ls (suc i) (set last v g) g
    unfolding stamp
    stamped_take v l e t =
        record {
          sized = length-set last v g ∙ s.sized;
          held = λ u m. rw (t, e) (go u m (eqb v u) refl);
          grouped = s.grouped ∙ ap suc (sym (group_suc way ls i h ∙ rw (takes_begins way (nth_line ls i) t)));
        }
      where
        go : (u : ℕ) → u < 256 → (c : Bool) → eqb v u ≡ c → get_or (set last v g) u 0 ≡ pick c (suc (group way ls i)) (last_group way ls i u)
        go u m true q = let w : v ≡ u = eqb-true v u q in rw (← w) (get_or-set_same last v g 0 (omega (arith, s.sized)) ∙ s.grouped)
        go u m false q = get_or-set_other last v u g 0 (λ w. eqb-false v u q (sym w)) ∙ s.held u m

    pub stamped_other : (k : ℕ) → takes way (nth_line ls i) ≡ false → k ≡ pick (begins way (nth_line ls i)) (g + 1) g → Stamped way ls (suc i) last k
    unfolding stamp
    stamped_other k t e =
        record {
          sized = s.sized;
          held = λ u m. rw t (s.held u m);
          grouped = e ∙ rw (s.grouped, group_suc way ls i h) (plus (begins way (nth_line ls i)) (group way ls i));
        }
      where
        plus : (c : Bool) (n : ℕ) → pick c (suc n + 1) (suc n) ≡ suc (pick c (n + 1) n)
        plus true n = omega arith
        plus false n = refl

-- ---- names below the count of names
ctor_cases : (l : Line) → is_ctor l ≡ true → (letter l ≡ 67) ⊎ (is_head l ≡ true)
ctor_cases l e = go (is ctor_line l) refl e
  where
    go : (c : Bool) → is ctor_line l ≡ c → (c || (is_head l && eqb (number l 2) 2)) ≡ true → (letter l ≡ 67) ⊎ (is_head l ≡ true)
    go true q k = inl (eqb-true (letter l) 67 q)
    go false q k = inr (both (is_head l) (eqb (number l 2) 2) k).0

module _ (ls : List Line) (i : ℕ) (g : good_numbers ls i ≡ true) where
  head_below : (letter (nth_line ls i) ≡ 68) ⊎ (letter (nth_line ls i) ≡ 73) → number (nth_line ls i) 0 < count_of name_line ls
  unfolding good_numbers good_head
  head_below (inl e) = ltb-true (number (nth_line ls i) 0) (count_of name_line ls) (both _ _ (both _ _ (rw e at g)).0).0
  head_below (inr e) = ltb-true (number (nth_line ls i) 0) (count_of name_line ls) (both _ _ (both _ _ (rw e at g)).0).0

  ctor_below : (letter (nth_line ls i) ≡ 67) ⊎ (is_head (nth_line ls i) ≡ true) → number (nth_line ls i) 0 < count_of name_line ls
  unfolding good_numbers
  ctor_below (inl e) = ltb-true (number (nth_line ls i) 0) (count_of name_line ls) (both _ _ (rw e at g)).0
  ctor_below (inr e) = head_below (head_cases (letter (nth_line ls i)) e)

  pub named_below : (way : Way) → takes way (nth_line ls i) ≡ true → number (nth_line ls i) 0 < count_of name_line ls
  unfolding good_numbers
  named_below Declared e = head_below (head_cases (letter (nth_line ls i)) e)
  named_below Parameters e = ltb-true (number (nth_line ls i) 0) (count_of name_line ls) (both _ _ (rw (eqb-true (letter (nth_line ls i)) 80 e) at g)).0
  named_below Fields e =
      ltb-true (number (nth_line ls i) 0) (count_of name_line ls) (both _ _ (both _ _ (rw (eqb-true (letter (nth_line ls i)) 70 e) at g)).0).0
  named_below Constructors e = ctor_below (ctor_cases (nth_line ls i) e)

-- ---- one line, by its letter
module _ (l : Line) (g : Groups) (d p f c : List ℕ) (x v : ℕ) (e : x ≡ letter l) (n : v ≡ number l 0) where
  -- a D or I line of no record, and of one
  pub after_plain : (x ≡ 68) ⊎ (x ≡ 73) → (k : ℕ) → k ≡ number l 2 → (k ≡ 2 → ⊥) → (r : Bool) (d' : List ℕ)
      → r ≡ eqb (get_or d v 0) 1 → d' ≡ set d v 1 → After l g d p f c r d' p f c
  after_plain (inl y) k m o r d' h q = rw (← e, y, ← n, ← m, ne_eqb k 2 o) (h ∙ sym (or_false (eqb (get_or d v 0) 1)), q, refl, refl, refl)
  after_plain (inr y) k m o r d' h q = rw (← e, y, ← n, ← m, ne_eqb k 2 o) (h ∙ sym (or_false (eqb (get_or d v 0) 1)), q, refl, refl, refl)

  pub after_record : (x ≡ 68) ⊎ (x ≡ 73) → (k : ℕ) → k ≡ number l 2 → k ≡ 2 → (a b r : Bool) (d' c' : List ℕ)
      → a ≡ eqb (get_or d v 0) 1 → d' ≡ set d v 1 → b ≡ eqb (get_or c v 0) 1 → c' ≡ set c v 1 → r ≡ a || b → After l g d p f c r d' p f c'
  after_record (inl y) k m o a b r d' c' h q i j z = rw (← e, y, ← n, ← m, o, ← h, ← i) (z, q, refl, refl, j)
  after_record (inr y) k m o a b r d' c' h q i j z = rw (← e, y, ← n, ← m, o, ← h, ← i) (z, q, refl, refl, j)

  pub after_param : x ≡ 80 → (r : Bool) (p' : List ℕ) → r ≡ eqb (get_or p v 0) g.params → p' ≡ set p v g.params → After l g d p f c r d p' f c
  after_param y r p' h q = rw (← e, y, ← n) (h ∙ sym (or_false (eqb (get_or p v 0) g.params)), refl, q, refl, refl)

  pub after_field : x ≡ 70 → (r : Bool) (f' : List ℕ) → r ≡ eqb (get_or f v 0) g.fields → f' ≡ set f v g.fields → After l g d p f c r d p f' c
  after_field y r f' h q = rw (← e, y, ← n) (h ∙ sym (or_false (eqb (get_or f v 0) g.fields)), refl, refl, q, refl)

  pub after_ctor : x ≡ 67 → (r : Bool) (c' : List ℕ) → r ≡ eqb (get_or c v 0) 1 → c' ≡ set c v 1 → After l g d p f c r d p f c'
  after_ctor y r c' h q = rw (← e, y, ← n) (h, refl, refl, refl, q)

  pub after_other : ((x ≡ 68) ⊎ (x ≡ 73) → ⊥) → (x ≡ 80 → ⊥) → (x ≡ 70 → ⊥) → (x ≡ 67 → ⊥) → After l g d p f c false d p f c
  after_other a b i j = rw (← e, ne_eqb x 68 (λ y. a (inl y)), ne_eqb x 73 (λ y. a (inr y)), ne_eqb x 80 b, ne_eqb x 70 i, ne_eqb x 67 j) (refl, refl, refl, refl, refl)

  -- the name is below 256
  module _ (m : Named l) where
    pub head_named : (x ≡ 68) ⊎ (x ≡ 73) → v < 256
    head_named (inl y) = rw n (m.below Declared (rw (← e, y)))
    head_named (inr y) = rw n (m.below Declared (rw (← e, y)))

    pub param_named : x ≡ 80 → v < 256
    param_named y = rw n (m.below Parameters (rw (← e, y)))

    pub field_named : x ≡ 70 → v < 256
    field_named y = rw n (m.below Fields (rw (← e, y)))

    pub ctor_named : x ≡ 67 → v < 256
    ctor_named y = rw n (m.below Constructors (rw (← e, y)))

-- ---- constructors and fields in one array
module _ (l : Line) (d m : List ℕ) (v : ℕ) (n : v ≡ number l 0) (h : (letter l ≡ 68) ⊎ (letter l ≡ 73)) (k : ℕ) (q : k ≡ number l 2) (o : Named l) where
  pub plain_head : (k ≡ 2 → ⊥) → (r : Bool) (d' : List ℕ) → r ≡ eqb (get_or d v 0) 1 → d' ≡ set d v 1 → HeadAfter l d m r d' m
  plain_head z r d' a b = record { after = λ g p f. after_plain l g d p f (ctor_marks m) (letter l) v refl n h k q z r d' a b; fields = refl }

  pub record_head : k ≡ 2 → (a b r : Bool) (d' m' : List ℕ)
      → a ≡ eqb (get_or d v 0) 1 → d' ≡ set d v 1 → b ≡ eqb (get_or m v 0) 1 → m' ≡ set m v 1 → r ≡ a || b → HeadAfter l d m r d' m'
  record_head z a b r d' m' s t u w y =
      let i : v < 256 = head_named l (record { params = 0; fields = 0 }) d d d d (letter l) v refl n o h in
      record {
        after = λ g p f. after_record l g d p f (ctor_marks m) (letter l) v refl n h k q z a b r d' (ctor_marks m') s t (u ∙ ap (λ (x : ℕ). eqb x 1) (sym (get_or-take 256 m v 0 i))) (ap ctor_marks w ∙ take-set-lt 256 m v 1 i) y;
        fields = ap field_marks w ∙ drop-set-lt 256 m v 1 i;
      }

module _ (l : Line) (g : Groups) (d p m : List ℕ) (x v : ℕ) (e : x ≡ letter l) (n : v ≡ number l 0) where
  pub member_place : Named l → (x ≡ 67) ⊎ (x ≡ 70) → pick (eqb x 70) 256 0 + v < 512
  member_place o (inl y) = rw y (omega (arith, ctor_named l g d p m m x v e n o y))
  member_place o (inr y) = rw y (omega (arith, field_named l g d p m m x v e n o y))

  pub after_member : Named l → (x ≡ 67) ⊎ (x ≡ 70) → (r : Bool) (m' : List ℕ)
      → r ≡ eqb (get_or m (pick (eqb x 70) 256 0 + v) 0) (pick (eqb x 70) g.fields 1) → m' ≡ set m (pick (eqb x 70) 256 0 + v) (pick (eqb x 70) g.fields 1)
      → MembersAfter l g d p m r d p m'
  after_member o (inl y) r m' a b =
      let i : v < 256 = ctor_named l g d p m m x v e n o y in
      let z : 0 + v ≡ v = omega arith in
      let a' : r ≡ eqb (get_or m v 0) 1 = rw (y, z) at a in
      let b' : m' ≡ set m v 1 = rw (y, z) at b in
      let f : field_marks m' ≡ field_marks m = ap field_marks b' ∙ drop-set-lt 256 m v 1 i in
      rw f (after_ctor l g d p (field_marks m) (ctor_marks m) x v e n y r (ctor_marks m') (a' ∙ ap (λ (w : ℕ). eqb w 1) (sym (get_or-take 256 m v 0 i))) (ap ctor_marks b' ∙ take-set-lt 256 m v 1 i))
  after_member o (inr y) r m' a b =
      let a' : r ≡ eqb (get_or m (256 + v) 0) g.fields = rw y at a in
      let b' : m' ≡ set m (256 + v) g.fields = rw y at b in
      let f : ctor_marks m' ≡ ctor_marks m = ap ctor_marks b' ∙ take-set-le 256 m (256 + v) g.fields (omega arith) in
      rw f (after_field l g d p (field_marks m) (ctor_marks m) x v e n y r (field_marks m') (a' ∙ ap (λ (w : ℕ). eqb w g.fields) (sym (get_or-drop 256 m v 0))) (ap field_marks b' ∙ drop-set-add 256 m v g.fields))

  pub after_head : (r : Bool) (d' m' : List ℕ) → HeadAfter l d m r d' m' → MembersAfter l g d p m r d' p m'
  after_head r d' m' a = rw a.fields (a.after g p (field_marks m))

  pub after_later : 70 < x → (x ≡ 73 → ⊥) → (x ≡ 80 → ⊥) → MembersAfter l g d p m false d p m
  after_later h a b = after_other l g d p (field_marks m) (ctor_marks m) x v e n (λ y. not_head y) b (λ y. omega arith) (λ y. omega arith)
    where
      not_head : (x ≡ 68) ⊎ (x ≡ 73) → ⊥
      not_head (inl y) = omega arith
      not_head (inr y) = a y

-- the groups
module _ (l : Line) (g : Groups) (x : ℕ) (e : x ≡ letter l) where
  pub groups_head : (x ≡ 68) ⊎ (x ≡ 73) → record { params = g.params + 1; fields = g.fields + 1 } ≡ groups_after l g
  groups_head (inl y) = rw (← e, y)
  groups_head (inr y) = rw (← e, y)

  pub groups_ctor : x ≡ 67 → record { params = g.params; fields = g.fields + 1 } ≡ groups_after l g
  groups_ctor y = rw (← e, y)

  pub groups_other : ((x ≡ 68) ⊎ (x ≡ 73) → ⊥) → (x ≡ 67 → ⊥) → g ≡ groups_after l g
  groups_other a j = rw (← e, ne_eqb x 68 (λ y. a (inl y)), ne_eqb x 73 (λ y. a (inr y)), ne_eqb x 67 j)

  pub groups_member : (x ≡ 67) ⊎ (x ≡ 70) → record { params = g.params; fields = g.fields + pick (ltb x 68) 1 0 } ≡ groups_after l g
  groups_member (inl y) = rw (← e, y)
  groups_member (inr y) = let z : g.fields + 0 ≡ g.fields = omega arith in rw (← e, y, z)

  pub told : Lettered l → x ≤ 70 → (x ≡ 68 → ⊥) → (x ≡ 67) ⊎ (x ≡ 70)
  told o a b = ⊎_elim (λ q. inl (e ∙ q)) (λ q. inr (e ∙ q)) (o.member (omega arith) (λ q. b (e ∙ q)))

  pub groups_later : 70 < x → (x ≡ 73 → ⊥) → g ≡ groups_after l g
  groups_later h b = groups_other not_head (λ y. omega arith)
    where
      not_head : (x ≡ 68) ⊎ (x ≡ 73) → ⊥
      not_head (inl y) = omega arith
      not_head (inr y) = b y
