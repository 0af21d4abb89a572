-- The types of a sheet that passed rows 1 to 7: a type is made of its children, which are of lower number. Assumes nothing.
use Rattle.std.specs.Prelude.{◌≡◌, ◌&&◌, eqb}
use Rattle.std.proofs.Math.Path.{refl, ap, ap₂, sym}
use Rattle.std.proofs.Common.{◌∙◌, take-take, get_or-take}
use mathlib.Core.List.{List, [], ◌∷◌, ◌++◌}
use Rattle.std.proofs.Math.Bool.{Bool, true, false, not}
use Prim.Native.Nat.{ℕ, zero, suc, ◌+◌, ◌≤◌, ◌<◌}
use native.Mathlib.Omega.{arith}
use Rattle.std.proofs.Math.Dec.{leb, ltb}
use Rattle.std.proofs.Math.ListN.{length, get_or, take, length-append}
use Rattle.std.proofs.Math.Seq.{take_at, take-length, get_or-append_seam}
use borrow.Author.Tests.{ltb-true, ltb-false, leb-true, leb-false, eqb-true, not-true, not-false}
use Rattle.number_columns.specs.Column.{pick}
use Rattle.sheet.specs.Line.{Line, bad, letter, number}
use Rattle.sheet.specs.Sheet.{first}
use Rattle.sheet.proofs.FirstLaws.{first_before}
use Rattle.sheet.proofs.ListLaws.{both, contrary}
use Rattle.model.specs.Cty.{Cty, TUnit, TApp, TTuple, TBuf, TRef, TInline, cons}
use Rattle.meaning.specs.Program.{name_line, type_line, select, list_of, tree, trees_after, trees}
use Rattle.meaning.specs.Rows.{some_below, nth_line, count_of, zeros_from, is_list, good_type, good_numbers}
use Rattle.row5_ranges.specs.TypeLists.{types_of}
use Rattle.row5_ranges.specs.TypeLinesLaws.{type_over}
use Rattle.table_declared.specs.Passed.{Passed}
use Rattle.table_declared.specs.Lines.{nth}
use Rattle.table_declared.specs.LineLaws.{stands, good_line}

-- ---- the types one after the other
module _ (xs : List ℕ) where
  -- the type of a line, after the types of the lines before it
  abbrev typed : List Cty → Line → Cty
  typed ts l = tree ts xs (number l 0) (number l 1) (number l 2) (number l 3)

  trees_take : (ts : List Cty) (ys : List Line) → take (length ts) (trees_after xs ts ys) ≡ ts
  unfolding trees_after
  trees_take ts [] = take-length ts
  trees_take ts (l ∷ ys) =
      let us : List Cty = ts ++ (typed ts l ∷ []) in
      let h : length ts ≤ length us = rw length-append (omega arith) in
      sym (take-take (length ts) (length us) (trees_after xs us ys) h)
      ∙ ap (take (length ts)) (trees_take us ys)
      ∙ take_at ts (typed ts l ∷ []) (length ts) refl

  length_after : (ts : List Cty) (ys : List Line) → length (trees_after xs ts ys) ≡ length ts + length ys
  unfolding trees_after
  length_after ts [] = omega arith
  length_after ts (l ∷ ys) = length_after (ts ++ (typed ts l ∷ [])) ys ∙ rw length-append (omega arith)

  trees_nth : (ts : List Cty) (ys : List Line) (j : ℕ) → j < length ys
      → get_or (trees_after xs ts ys) (length ts + j) TUnit ≡ typed (take (length ts + j) (trees_after xs ts ys)) (get_or ys j bad)
  unfolding trees_after
  trees_nth ts [] j h = absurd (omega arith)
  trees_nth ts (l ∷ ys) zero h =
      let us : List Cty = ts ++ (typed ts l ∷ []) in
      let n : length us ≡ length ts + 1 = rw length-append in
      let z : length ts + 0 ≡ length ts = omega arith in
      let a : get_or (trees_after xs us ys) (length ts) TUnit ≡ typed ts l =
      sym (get_or-take (length us) (trees_after xs us ys) (length ts) TUnit (omega arith))
      ∙ ap (λ (r : List Cty). get_or r (length ts) TUnit) (trees_take us ys)
      ∙ get_or-append_seam ts (typed ts l) [] TUnit in
      let c : take (length ts) (trees_after xs us ys) ≡ ts =
      sym (take-take (length ts) (length us) (trees_after xs us ys) (omega arith)) ∙ ap (take (length ts)) (trees_take us ys) ∙ take_at ts (typed ts l ∷ []) (length ts) refl in
      rw (z, c) a
  trees_nth ts (l ∷ ys) (suc j) h =
      let us : List Cty = ts ++ (typed ts l ∷ []) in
      let e : length us + j ≡ length ts + suc j = rw length-append (omega arith) in
      rw e at (trees_nth us ys j (omega arith))

pub length_trees : (ls : List Line) → length (trees ls) ≡ count_of type_line ls
unfolding trees
length_trees ls = length_after (types_of ls) [] (select type_line ls) ∙ omega arith

-- type y, made of the types before it
trees_at : (ls : List Line) (y : ℕ) → y < count_of type_line ls → get_or (trees ls) y TUnit ≡ typed (types_of ls) (take y (trees ls)) (nth type_line ls y)
unfolding trees
trees_at ls y h = let e : 0 + y ≡ y = omega arith in rw e at (trees_nth (types_of ls) [] (select type_line ls) y h)

-- ---- children are lower
-- what row 5 says of a Y line's numbers, by its kind
module _ (names : ℕ) (xs : List ℕ) (y : ℕ) (l : Line) (good : good_type names xs y l ≡ true) where
  pub good_kind : number l 0 ≤ 12
  good_kind = go (leb 13 (number l 0)) refl
    where
      go : (c : Bool) → leb 13 (number l 0) ≡ c → number l 0 ≤ 12
      go true e = contrary (good_type names xs y l) good (type_over names xs y l (leb-true 13 (number l 0) e))
      go false e = omega (arith, leb-false 13 (number l 0) e)

  pub good_arrow : number l 0 ≡ 7 → (number l 1 < y) × (number l 2 ≤ 2) × (number l 3 < y)
  unfolding good_type
  good_arrow e =
      let g = both (ltb (number l 1) y && leb (number l 2) 2 && ltb (number l 3) y) (zeros_from 4 l) (rw e at good) in
      let h = both (ltb (number l 1) y && leb (number l 2) 2) (ltb (number l 3) y) g.0 in
      let k = both (ltb (number l 1) y) (leb (number l 2) 2) h.0 in
      (ltb-true (number l 1) y k.0, leb-true (number l 2) 2 k.1, ltb-true (number l 3) y h.1)

  -- a list's members are there, and lower
  abbrev pub Lower : ℕ → ℕ → Type 0
  Lower i k = (j : ℕ) → j < k → (i + j < length xs) × (get_or xs (i + j) 0 < y)

  list_lower : (i k : ℕ) → is_list xs y i k ≡ true → Lower i k
  unfolding is_list
  list_lower i k e j h = go (eqb k 0) refl e
    where
      p : ℕ → Bool
      p m = not (ltb (get_or xs (i + m) 0) y)

      go : (c : Bool) → eqb k 0 ≡ c → elim c [ true ↦ eqb i 0 | false ↦ leb (i + k) (length xs) && not (some_below p k) ] ≡ true → (i + j < length xs) × (get_or xs (i + j) 0 < y)
      go true q r = absurd (omega (arith, eqb-true k 0 q))
      go false q r =
          let g = both (leb (i + k) (length xs)) (not (some_below p k)) r in
          let n : k ≤ first p k = ltb-false (first p k) k (not-true (some_below p k) g.1) in
          let m : not (ltb (get_or xs (i + j) 0) y) ≡ false = first_before p k j (omega arith) in
          (omega (arith, leb-true (i + k) (length xs) g.0), ltb-true (get_or xs (i + j) 0) y (not-false (ltb (get_or xs (i + j) 0) y) m))

  pub good_app : number l 0 ≡ 8 → (number l 1 < names) × Lower (number l 2) (number l 3)
  unfolding good_type
  good_app e =
      let g = both (ltb (number l 1) names && is_list xs y (number l 2) (number l 3)) (zeros_from 4 l) (rw e at good) in
      let h = both (ltb (number l 1) names) (is_list xs y (number l 2) (number l 3)) g.0 in
      (ltb-true (number l 1) names h.0, list_lower (number l 2) (number l 3) h.1)

  pub good_tuple : number l 0 ≡ 9 → Lower (number l 1) (number l 2)
  unfolding good_type
  good_tuple e = let g = both (is_list xs y (number l 1) (number l 2)) (zeros_from 3 l) (rw e at good) in list_lower (number l 1) (number l 2) g.0

  pub good_buf : number l 0 ≡ 10 → number l 1 < y
  unfolding good_type
  good_buf e = let g = both (ltb (number l 1) y) (zeros_from 2 l) (rw e at good) in ltb-true (number l 1) y g.0

  pub good_ref : number l 0 ≡ 11 → number l 2 < y
  unfolding good_type
  good_ref e =
      let g = both (leb (number l 1) 1 && ltb (number l 2) y) (zeros_from 3 l) (rw e at good) in
      let h = both (leb (number l 1) 1) (ltb (number l 2) y) g.0 in
      ltb-true (number l 2) y h.1

  pub good_inline : number l 0 ≡ 12 → number l 1 < y
  unfolding good_type
  good_inline e = let g = both (ltb (number l 1) y) (zeros_from 2 l) (rw e at good) in ltb-true (number l 1) y g.0

  -- ---- a type is made of its children
  module _ (ts : List Cty) where
    child : (a : ℕ) → a < y → get_or (take y ts) a TUnit ≡ get_or ts a TUnit
    child a h = get_or-take y ts a TUnit h

    children : (i k : ℕ) → Lower i k → list_of (take y ts) xs i k ≡ list_of ts xs i k
    unfolding list_of
    children i zero h = refl
    children i (suc k) h =
        let z : i + 0 ≡ i = omega arith in
        ap₂ cons
        (child (get_or xs i 0) (rw z at (h 0 (omega arith)).1))
        (children (suc i) k (λ j m. let e : i + suc j ≡ suc i + j = omega arith in rw e at (h (suc j) (omega arith))))

    kept_below : typed xs (take y ts) l ≡ typed xs ts l
    unfolding tree
    kept_below =
        arm (eqb (number l 0) 1) refl (λ e. refl)
        (arm (eqb (number l 0) 2) refl (λ e. refl)
        (arm (eqb (number l 0) 3) refl (λ e. refl)
        (arm (eqb (number l 0) 4) refl (λ e. refl)
        (arm (eqb (number l 0) 5) refl (λ e. refl)
        (arm (eqb (number l 0) 6) refl (λ e. refl)
        (arm (eqb (number l 0) 7) refl (λ e. let g = good_arrow (eqb-true (number l 0) 7 e) in rw (child (number l 1) g.0, child (number l 3) g.2))
        (arm (eqb (number l 0) 8) refl (λ e. ap (TApp (number l 1)) (children (number l 2) (number l 3) (good_app (eqb-true (number l 0) 8 e)).1))
        (arm (eqb (number l 0) 9) refl (λ e. ap TTuple (children (number l 1) (number l 2) (good_tuple (eqb-true (number l 0) 9 e))))
        (arm (eqb (number l 0) 10) refl (λ e. ap TBuf (child (number l 1) (good_buf (eqb-true (number l 0) 10 e))))
        (arm (eqb (number l 0) 11) refl (λ e. ap (TRef (number l 1)) (child (number l 2) (good_ref (eqb-true (number l 0) 11 e))))
        (arm (eqb (number l 0) 12) refl (λ e. ap TInline (child (number l 1) (good_inline (eqb-true (number l 0) 12 e))))
        refl)))))))))))
      where
        arm : (b : Bool) {t u : Cty} {x w : Cty} → b ≡ b → (b ≡ true → t ≡ u) → x ≡ w → pick b t x ≡ pick b u w
        arm true e f g = f refl
        arm false e f g = g

-- row 5 at a Y line
pub good_type_at : (ls : List Line) → Passed ls → (y : ℕ) → y < count_of type_line ls
    → good_type (count_of name_line ls) (types_of ls) y (nth type_line ls y) ≡ true
unfolding good_numbers
good_type_at ls p y h =
    let r = stands type_line ls y h in
    let e : letter (nth_line ls r.place) ≡ 89 = eqb-true (letter (nth_line ls r.place)) 89 r.lettered in
    let g : good_numbers ls r.place ≡ true = good_line ls p r.place r.inside in
    rw r.same (rw r.passed at (rw e at g))

-- Type y by its line: its children are the types of their numbers.
pub type_tree : (ls : List Line) → Passed ls → (y : ℕ) → y < count_of type_line ls
    → get_or (trees ls) y TUnit ≡ tree (trees ls) (types_of ls) (number (nth type_line ls y) 0) (number (nth type_line ls y) 1) (number (nth type_line ls y) 2) (number (nth type_line ls y) 3)
type_tree ls p y h =
    trees_at ls y h ∙ kept_below (count_of name_line ls) (types_of ls) y (nth type_line ls y) (good_type_at ls p y h) (trees ls)
