-- What row 5 gives of Q lines: links to lower lines, each line named at most once, and each number in its range. Assumes
-- nothing.
use Rattle.std.proofs.Common.{⊎_elim, arith, ltb-true, ltb-false, leb-true, le-leb, eqb-true}
use Rattle.std.specs.Prelude.{◌≡◌, List, Bool, true, false, ◌&&◌, ◌||◌, not, ℕ, suc, ◌≤◌, ◌<◌, eqb, leb, length}
use Rattle.std.proofs.lemmas.Bool.{eqb-false, not-true, not-false}
use Rattle.sheet.specs.Line.{Line}
use Rattle.sheet.specs.Sheet.{first}
use Rattle.sheet.proofs.FirstLaws.{first_before}
use Rattle.sheet.proofs.ListLaws.{both, one_of, neither}
use Rattle.meaning.specs.Rows.{nth_line, some_below}
use Rattle.meaning_patterns.specs.Patterns.{kind_of, name_of, last_of, previous_of, field_of, linked_before, good_link, good_name, good_last, good_previous, good_pattern}

-- every link of line q is at most q
pub record Linked (qs : List Line) : Type 0 where
  pub last : (q : ℕ) → q < length qs → last_of (nth_line qs q) ≤ q
  pub previous : (q : ℕ) → q < length qs → previous_of (nth_line qs q) ≤ q

-- neither of the line's links is k
pub record Apart (l : Line) (k : ℕ) : Type 0 where
  pub last : last_of l ≡ k → ⊥
  pub previous : previous_of l ≡ k → ⊥

-- no line is named twice: a link of line q is no link of a line before it, and its links are two
pub record Unshared (qs : List Line) : Type 0 where
  pub last : (q : ℕ) → q < length qs → 0 < last_of (nth_line qs q) → (j : ℕ) → j < q → Apart (nth_line qs j) (last_of (nth_line qs q))
  pub previous : (q : ℕ) → q < length qs → 0 < previous_of (nth_line qs q) → (j : ℕ) → j < q → Apart (nth_line qs j) (previous_of (nth_line qs q))
  pub two : (q : ℕ) → q < length qs → 0 < last_of (nth_line qs q) → last_of (nth_line qs q) ≡ previous_of (nth_line qs q) → ⊥

-- what each test of line q says
pub record Good (names : ℕ) (qs : List Line) (q : ℕ) : Type 0 where
  pub kind : kind_of (nth_line qs q) ≤ 6
  pub name : good_name names (nth_line qs q) ≡ true
  pub last : good_link qs q (last_of (nth_line qs q)) ≡ true
  pub previous : good_link qs q (previous_of (nth_line qs q)) ≡ true
  pub two : (eqb (last_of (nth_line qs q)) 0 || not (eqb (last_of (nth_line qs q)) (previous_of (nth_line qs q)))) ≡ true
  pub field : field_of (nth_line qs q) ≤ names
  pub before : good_previous qs (nth_line qs q) ≡ true
  pub parts : good_last qs (nth_line qs q) ≡ true
  pub whole : (not (eqb (suc q) (length qs)) || (eqb (previous_of (nth_line qs q)) 0 && eqb (field_of (nth_line qs q)) 0)) ≡ true

pub good_is : (names : ℕ) (qs : List Line) (q : ℕ) → good_pattern names qs q ≡ true → Good names qs q
unfolding good_pattern
good_is names qs q h =
    let l : Line = nth_line qs q in
    let a8 = both _ (not (eqb (suc q) (length qs)) || (eqb (previous_of l) 0 && eqb (field_of l) 0)) h in
    let a7 = both _ (good_last qs l) a8.0 in
    let a6 = both _ (good_previous qs l) a7.0 in
    let a5 = both _ (leb (field_of l) names) a6.0 in
    let a4 = both _ (eqb (last_of l) 0 || not (eqb (last_of l) (previous_of l))) a5.0 in
    let a3 = both _ (good_link qs q (previous_of l)) a4.0 in
    let a2 = both _ (good_link qs q (last_of l)) a3.0 in
    let a1 = both _ (good_name names l) a2.0 in
    record {
      kind = leb-true (kind_of l) 6 a1.0;
      name = a1.1;
      last = a2.1;
      previous = a3.1;
      two = a4.1;
      field = leb-true (field_of l) names a5.1;
      before = a6.1;
      parts = a7.1;
      whole = a8.1;
    }

-- ---- links
-- what a good link says: it is none, or to a lower line that no line before names
link_lower : (qs : List Line) (q k : ℕ) → good_link qs q k ≡ true → k ≤ q
unfolding good_link
link_lower qs q k h =
    ⊎_elim
    (λ (e : eqb k 0 ≡ true). omega (arith, eqb-true k 0 e))
    (λ (e : (leb k q && not (linked_before qs q k)) ≡ true). leb-true k q (both (leb k q) _ e).0)
    (one_of (eqb k 0) _ h)

link_fresh : (qs : List Line) (q k : ℕ) → good_link qs q k ≡ true → 0 < k → (j : ℕ) → j < q → Apart (nth_line qs j) k
unfolding good_link linked_before
link_fresh qs q k h z j i =
    ⊎_elim
    (λ (e : eqb k 0 ≡ true). absurd (omega (arith, eqb-true k 0 e)))
    (λ (e : (leb k q && not (some_below names q)) ≡ true). fresh (not-true (some_below names q) (both (leb k q) _ e).1))
    (one_of (eqb k 0) _ h)
  where
    names : ℕ → Bool
    names i = eqb (last_of (nth_line qs i)) k || eqb (previous_of (nth_line qs i)) k

    fresh : some_below names q ≡ false → Apart (nth_line qs j) k
    fresh e =
        let n = neither (eqb (last_of (nth_line qs j)) k) (eqb (previous_of (nth_line qs j)) k) (first_before names q j (omega (arith, ltb-false (first names q) q e))) in
        record { last = eqb-false (last_of (nth_line qs j)) k n.0; previous = eqb-false (previous_of (nth_line qs j)) k n.1 }

-- the lines all pass row 5
abbrev pub AllGood : ℕ → List Line → Type 0
AllGood names qs = (q : ℕ) → q < length qs → good_pattern names qs q ≡ true

-- by the first line that does not: there is none
pub all_good : (names : ℕ) (qs : List Line) → first (λ q. not (good_pattern names qs q)) (length qs) ≡ length qs → AllGood names qs
all_good names qs e q h = not-false (good_pattern names qs q) (first_before (λ i. not (good_pattern names qs i)) (length qs) q (omega arith))

pub linked_is : (names : ℕ) (qs : List Line) → AllGood names qs → Linked qs
linked_is names qs h =
    record {
      last = λ q l. link_lower qs q (last_of (nth_line qs q)) (good_is names qs q (h q l)).last;
      previous = λ q l. link_lower qs q (previous_of (nth_line qs q)) (good_is names qs q (h q l)).previous;
    }

pub unshared_is : (names : ℕ) (qs : List Line) → AllGood names qs → Unshared qs
unshared_is names qs h =
    record {
      last = λ q l. link_fresh qs q (last_of (nth_line qs q)) (good_is names qs q (h q l)).last;
      previous = λ q l. link_fresh qs q (previous_of (nth_line qs q)) (good_is names qs q (h q l)).previous;
      two = λ q l z e. apart (nth_line qs q) z e (good_is names qs q (h q l)).two;
    }
  where
    apart : (l : Line) → 0 < last_of l → last_of l ≡ previous_of l → (eqb (last_of l) 0 || not (eqb (last_of l) (previous_of l))) ≡ true → ⊥
    apart l z e t =
        ⊎_elim
        (λ (n : eqb (last_of l) 0 ≡ true). omega (arith, eqb-true (last_of l) 0 n))
        (λ (n : not (eqb (last_of l) (previous_of l)) ≡ true). eqb-false (last_of l) (previous_of l) (not-true _ n) e)
        (one_of (eqb (last_of l) 0) _ t)

-- ---- numbers
-- a leaf has no parts
pub leaf_is : (names : ℕ) (qs : List Line) (q : ℕ) → good_pattern names qs q ≡ true → kind_of (nth_line qs q) ≤ 2 → last_of (nth_line qs q) ≡ 0
unfolding good_last
leaf_is names qs q h k = eqb-true (last_of l) 0 (rw (le-leb (kind_of l) 2 k) at (good_is names qs q h).parts)
  where
    l : Line
    l = nth_line qs q

-- the number is a name, where the kind is 1, 3 or 4
pub name_is : (names : ℕ) (qs : List Line) (q kind : ℕ) → good_pattern names qs q ≡ true → kind_of (nth_line qs q) ≡ kind
    → eqb kind 2 ≡ false → (eqb kind 1 || eqb kind 3 || eqb kind 4) ≡ true → name_of (nth_line qs q) < names
unfolding good_name
name_is names qs q kind h e i j = ltb-true (name_of (nth_line qs q)) names (rw (e, i, j) at (good_is names qs q h).name)

-- the last line is no part
pub whole_is : (names : ℕ) (qs : List Line) (q : ℕ) → suc q ≡ length qs → good_pattern names qs q ≡ true
    → (previous_of (nth_line qs q) ≡ 0) × (field_of (nth_line qs q) ≡ 0)
whole_is names qs q e h =
    ⊎_elim
    (λ (n : not (eqb (suc q) (length qs)) ≡ true). absurd (eqb-false (suc q) (length qs) (not-true _ n) e))
    (λ (n : (eqb (previous_of l) 0 && eqb (field_of l) 0) ≡ true). (eqb-true (previous_of l) 0 (both _ _ n).0, eqb-true (field_of l) 0 (both (eqb (previous_of l) 0) _ n).1))
    (one_of (not (eqb (suc q) (length qs))) _ (good_is names qs q h).whole)
  where
    l : Line
    l = nth_line qs q
