-- What marks say of links, one Q line more, and the parts of row 5 for a line. Assumes nothing.
use Rattle.std.specs.Prelude.{◌≡◌, List, Bool, ◌&&◌, ◌||◌, not, ℕ, suc, ◌+◌, ◌≤◌, ◌<◌, leb, length, get_or, set, replicate}
use Rattle.std.proofs.Math.Path.{refl}
use Rattle.std.proofs.Common.{sym, ap, ◌∙◌, add-one, arith, length-set, get_or-set_same, get_or-set_other}
use Rattle.std.proofs.Math.Bool.{true, false}
use Rattle.std.proofs.Math.Dec.{eqb, ltb}
use Rattle.std.proofs.lemmas.List.{length-replicate, get_or-replicate}
use borrow.Author.Tests.{lt-ltb, le-ltb, eqb-true, eqb-false, leb-true, ltb-true}
use Rattle.number_columns.specs.Column.{◌⇒◌∥◌}
use Rattle.sheet.specs.Line.{Line}
use Rattle.sheet.specs.Sheet.{first}
use Rattle.sheet.proofs.ListLaws.{both, false_true}
use Rattle.meaning.specs.Rows.{nth_line}
use Rattle.meaning_patterns.specs.Patterns.{kind_of, name_of, last_of, previous_of, field_of, linked_before, good_link, good_name, good_last, good_previous, good_pattern}
use Rattle.pattern_rows.specs.Links.{good_links, good_own, good_whole, good_parts, Lower, Marked, free_link}

-- ---- lines that are named
linked_none : (qs : List Line) (k : ℕ) → linked_before qs 0 k ≡ false
unfolding linked_before first
linked_none qs k = refl

linked_more : (qs : List Line) (q k : ℕ) → linked_before qs (suc q) k ≡ linked_before qs q k || (eqb (last_of (nth_line qs q)) k || eqb (previous_of (nth_line qs q)) k)
unfolding linked_before first
linked_more qs q k = go (ltb (first names q) q) refl (names q)
  where
    names : ℕ → Bool
    names j = eqb (last_of (nth_line qs j)) k || eqb (previous_of (nth_line qs j)) k

    go : (a : Bool) → ltb (first names q) q ≡ a → (b : Bool) → ltb (elim a [ true ↦ first names q | false ↦ elim b [ true ↦ q | false ↦ suc q ] ]) (suc q) ≡ a || b
    go true e b = lt-ltb (first names q) (suc q) (omega (arith, ltb-true (first names q) q e))
    go false e true = lt-ltb q (suc q) (omega arith)
    go false e false = le-ltb (suc q) (suc q) (omega arith)

-- ---- marks
-- no line names one yet
pub marked_none : (qs : List Line) → Marked qs 0 (replicate 257 0)
marked_none qs = record {
  size = length-replicate 257 none;
  held = λ k h. rw (get_or-replicate 257 k none none (omega arith), linked_none qs k);
}
  where
    none : ℕ
    none = 0

-- links are looked up in the marks
pub link_free : (qs : List Line) (q : ℕ) (marks : List ℕ) → Marked qs q marks → q < 256 → (k : ℕ) → free_link marks q k ≡ good_link qs q k
unfolding good_link
link_free qs q marks m h k = ap (λ (b : Bool). eqb k 0 || b) (go (leb k q) refl)
  where
    go : (b : Bool) → leb k q ≡ b → (b && eqb (get_or marks k 0) 0) ≡ (b && not (linked_before qs q k))
    go true e = m.held k (omega (arith, leb-true k q e))
    go false e = refl

and_true : (a : Bool) → (a && true) ≡ a
and_true true = refl
and_true false = refl

and_false : (a : Bool) → (a && false) ≡ false
and_false true = refl
and_false false = refl

-- the mark of k, where m is set
set_mark : (marks : List ℕ) (m k : ℕ) → m < length marks → eqb (get_or (set marks m 1) k 0) 0 ≡ eqb (get_or marks k 0) 0 && not (eqb m k)
set_mark marks m k h = go (eqb m k) refl
  where
    go : (b : Bool) → eqb m k ≡ b → eqb (get_or (set marks m 1) k 0) 0 ≡ eqb (get_or marks k 0) 0 && not b
    go true e = rw (← (eqb-true m k e), get_or-set_same marks m 1 0 h, and_false (eqb (get_or marks m 0) 0))
    go false e = rw (get_or-set_other marks m k 1 0 (λ f. eqb-false m k e (sym f)), and_true (eqb (get_or marks k 0) 0))

not_or : (a b c : Bool) → (not a && not b && not c) ≡ not (a || (b || c))
not_or true b c = refl
not_or false true c = refl
not_or false false c = refl

-- line q is passed, and names two more
pub marked_more : (qs : List Line) (q : ℕ) (marks : List ℕ) (last previous : ℕ) → last ≡ last_of (nth_line qs q) → previous ≡ previous_of (nth_line qs q)
    → last ≤ 256 → previous ≤ 256 → Marked qs q marks → Marked qs (q + 1) (set (set marks last 1) previous 1)
marked_more qs q marks last previous e f h i m =
    let s : length (set marks last 1) ≡ 257 = length-set marks last 1 ∙ m.size in
    record {
      size = length-set (set marks last 1) previous 1 ∙ s;
      held = λ k j.
          rw (set_mark (set marks last 1) previous k (omega arith), set_mark marks last k (omega (arith, m.size)), m.held k j, add-one q, linked_more qs q k, ← e, ← f)
          (not_or (linked_before qs q k) (eqb last k) (eqb previous k));
    }

-- ---- the parts of row 5
reordered : (k n a b d f p l w : Bool) → (k && n && a && b && d && f && p && l && w) ≡ ((a && b && d) && ((k && n && f) && (p && l && w)))
reordered k n false b d f p l w = rw (and_false (k && n))
reordered k n true false d f p l w = rw (and_false (k && n && true))
reordered k n true true false f p l w = rw (and_false (k && n && true && true))
reordered false n true true true f p l w = refl
reordered true false true true true f p l w = refl
reordered true true true true true false p l w = refl
reordered true true true true true true false l w = refl
reordered true true true true true true true false w = refl
reordered true true true true true true true true w = refl

pub good_by : (names : ℕ) (qs : List Line) (q : ℕ) → good_pattern names qs q ≡ (good_links qs q && (good_own names (nth_line qs q) && good_parts qs q))
unfolding good_pattern
good_by names qs q =
    let l : Line = nth_line qs q in
    reordered (leb (kind_of l) 6) (good_name names l) (good_link qs q (last_of l)) (good_link qs q (previous_of l)) (eqb (last_of l) 0 || not (eqb (last_of l) (previous_of l))) (leb (field_of l) names) (good_previous qs l) (good_last qs l) (good_whole qs q)

-- a link that passes is to a lower line
link_lower : (qs : List Line) (q k : ℕ) → good_link qs q k ≡ true → k ≤ q
unfolding good_link
link_lower qs q k h = go (eqb k 0) refl h
  where
    go : (b : Bool) → eqb k 0 ≡ b → (b || (leb k q && not (linked_before qs q k))) ≡ true → k ≤ q
    go true e g = omega (arith, eqb-true k 0 e)
    go false e g = leb-true k q (both (leb k q) (not (linked_before qs q k)) g).0

pub links_lower : (qs : List Line) (q : ℕ) → good_links qs q ≡ true → Lower (nth_line qs q) q
links_lower qs q h =
    let l : Line = nth_line qs q in
    let g = both (good_link qs q (last_of l)) (good_link qs q (previous_of l)) (both (good_link qs q (last_of l) && good_link qs q (previous_of l)) (eqb (last_of l) 0 || not (eqb (last_of l) (previous_of l))) h).0 in
    record { last_lower = link_lower qs q (last_of l) g.0; previous_lower = link_lower qs q (previous_of l) g.1 }

-- ---- of a line that passes
module _ (names : ℕ) (qs : List Line) (q : ℕ) (g : good_pattern names qs q ≡ true) where
  passed : (good_links qs q ≡ true) × ((good_own names (nth_line qs q) && good_parts qs q) ≡ true)
  passed = both (good_links qs q) (good_own names (nth_line qs q) && good_parts qs q) (sym (good_by names qs q) ∙ g)

  own : (leb (kind_of (nth_line qs q)) 6 && good_name names (nth_line qs q) ≡ true) × (leb (field_of (nth_line qs q)) names ≡ true)
  own =
      both (leb (kind_of (nth_line qs q)) 6 && good_name names (nth_line qs q)) (leb (field_of (nth_line qs q)) names)
      (both (good_own names (nth_line qs q)) (good_parts qs q) passed.1).0

  pub good_lower : Lower (nth_line qs q) q
  good_lower = links_lower qs q passed.0

  pub kind_within : kind_of (nth_line qs q) ≤ 6
  kind_within = leb-true (kind_of (nth_line qs q)) 6 (both (leb (kind_of (nth_line qs q)) 6) (good_name names (nth_line qs q)) own.0).0

  pub field_within : field_of (nth_line qs q) ≤ names
  field_within = leb-true (field_of (nth_line qs q)) names own.1

  -- the number of a variable, a `PCtor` or a `PRecord` is a name
  pub name_within : eqb (kind_of (nth_line qs q)) 1 || eqb (kind_of (nth_line qs q)) 3 || eqb (kind_of (nth_line qs q)) 4 ≡ true → name_of (nth_line qs q) < names
  unfolding good_name
  name_within h =
      ltb-true (name_of (nth_line qs q)) names (go (eqb (kind_of (nth_line qs q)) 2) refl (both (leb (kind_of (nth_line qs q)) 6) (good_name names (nth_line qs q)) own.0).1)
    where
      go : (b : Bool) → eqb (kind_of (nth_line qs q)) 2 ≡ b
          → (b ⇒ true ∥ eqb (kind_of (nth_line qs q)) 1 || eqb (kind_of (nth_line qs q)) 3 || eqb (kind_of (nth_line qs q)) 4 ⇒ ltb (name_of (nth_line qs q)) names ∥ eqb (name_of (nth_line qs q)) 0) ≡ true
          → ltb (name_of (nth_line qs q)) names ≡ true
      go true e k = let z : false ≡ true = rw (eqb-true (kind_of (nth_line qs q)) 2 e) at h in false_true z
      go false e k = rw h at k
