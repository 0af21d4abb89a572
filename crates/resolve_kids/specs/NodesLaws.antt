-- Laws of Y lines as nodes: what row 5 says of them, and their types. Assumes nothing.
use Rattle.std.specs.Prelude.{◌⊎◌, Bool, ◌&&◌, not, length, get_or, take}
use Rattle.std.proofs.Common.{inl, inr, sym, ◌∙◌, subst, arith, length-append, get_or-take}
use Rattle.std.proofs.Math.Path.{◌≡◌, refl, ap, ap₂}
use mathlib.Core.List.{List, [], ◌∷◌, ◌++◌, map, append_assoc}
use Rattle.std.proofs.Math.Bool.{true, false}
use Prim.Native.Nat.{ℕ, zero, suc, ◌+◌, ◌≤◌, ◌<◌}
use Rattle.std.proofs.Math.Dec.{eqb, leb, ltb}
use Rattle.std.proofs.lemmas.List.{length-map}
use Rattle.std.proofs.Math.Seq.{get_or-append_seam, take-append_seam}
use borrow.Author.Tests.{eqb-true, eqb-false, ne_eqb, leb-true, leb-false, le-leb, ltb-true, ltb-false, not-true, not-false}
use Rattle.number_columns.specs.Column.{pick, ◌⇒◌∥◌}
use Rattle.sheet.specs.Line.{Line, bad, letter, number}
use Rattle.sheet.specs.Sheet.{first}
use Rattle.sheet.proofs.FirstLaws.{first_before}
use Rattle.model.specs.Cty.{Cty, Ctys, TUnit, TAny, TExn, TVar, TInt, TFloat, TConst, TArrow, TApp, TTuple, TBuf, TRef, TInline, nil, cons, append}
use Rattle.meaning.specs.Program.{name_line, arg_line, type_line, is, select, list_of, tree, trees_after, trees}
use Rattle.meaning.specs.Rows.{count_of, count_before, nth_line, some_below, zeros_from, is_list, good_type, good_numbers, row5}
use Rattle.model_laws.specs.Lists.{get_or_map}
use Rattle.meaning_laws.specs.Written.{trees_after_later}
use Rattle.table_declared.specs.Passed.{Passed}
use Rattle.table_access.specs.Tables.{nth}
use Rattle.resolve_outcomes.specs.Answer.{parts, plain, listed}
use Rattle.resolve_kids.specs.Nodes.{y_line, kind_of, arg_of, type_of, kids_of, kid_of, Node}

-- ---- the line of a letter before which there are k of that letter
pub record Lettered (x : ℕ) (ls : List Line) (k : ℕ) : Type 0 where
  pub spot : ℕ
  pub within : spot < length ls
  pub lettered : is x (nth_line ls spot) ≡ true
  pub earlier : count_before x ls spot ≡ k
  pub line : nth_line ls spot ≡ nth x ls k

pub lettered : (x : ℕ) (ls : List Line) (k : ℕ) → k < count_of x ls → Lettered x ls k
unfolding select
lettered x [] k h = absurd (omega arith)
lettered x (l ∷ ls) k h = go (is x l) refl k h (lettered x ls)
  where
    go : (c : Bool) → is x l ≡ c → (j : ℕ) → j < length (pick c (l ∷ select x ls) (select x ls)) → ((i : ℕ) → i < count_of x ls → Lettered x ls i) → Lettered x (l ∷ ls) j
    go true e zero m ih = record { spot = 0; within = omega arith; lettered = e; earlier = refl; line = rw e refl }
    go true e (suc j) m ih =
        let r = ih j (omega arith) in
        record { spot = suc r.spot; within = omega (arith, r.within); lettered = r.lettered; earlier = rw e (ap suc r.earlier); line = r.line ∙ rw e refl }
    go false e j m ih =
        let r = ih j m in
        record { spot = suc r.spot; within = omega (arith, r.within); lettered = r.lettered; earlier = rw e r.earlier; line = r.line ∙ rw e refl }

-- ---- row 5
and_left : (a b : Bool) → (a && b) ≡ true → a ≡ true
and_left true b h = refl
and_left false b h = h

and_right : (a b : Bool) → (a && b) ≡ true → b ≡ true
and_right true b h = h
and_right false b h = let z : ◌≡◌ {A = ℕ} 0 1 = cc in absurd (omega arith)

-- the types of the A lines
abbrev arg_types : List Line → List ℕ
arg_types ls = map (λ l. number l 0) (select arg_line ls)

arg_at : (ls : List Line) (i : ℕ) → i < count_of arg_line ls → get_or (arg_types ls) i 0 ≡ arg_of ls i
arg_at ls i h = get_or_map (λ l. number l 0) (select arg_line ls) i 0 bad h

pub over : (a b : ℕ) → a < b → leb b a ≡ false
over a b h = go (leb b a) refl
  where
    go : (c : Bool) → leb b a ≡ c → c ≡ false
    go true e = absurd (omega (arith, leb-true b a e))
    go false e = refl

ten_or_twelve : (k : ℕ) → 10 ≤ k → (k ≡ 11 → ⊥) → k ≤ 12 → (k ≡ 10) ⊎ (k ≡ 12)
ten_or_twelve k h n m = go (eqb k 10) refl
  where
    go : (c : Bool) → eqb k 10 ≡ c → (k ≡ 10) ⊎ (k ≡ 12)
    go true e = inl (eqb-true k 10 e)
    go false e = inr (omega (arith, eqb-false k 10 e))

-- a list of A lines
pub record Listing (xs : List ℕ) (y i k : ℕ) : Type 0 where
  pub inside : i + k ≤ length xs
  pub each : (j : ℕ) → j < k → get_or xs (i + j) 0 < y

listing : (xs : List ℕ) (y i k : ℕ) → is_list xs y i k ≡ true → Listing xs y i k
unfolding is_list
listing xs y i k h = go (eqb k 0) refl h
  where
    test : ℕ → Bool
    test j = not (ltb (get_or xs (i + j) 0) y)

    go : (b : Bool) → eqb k 0 ≡ b → elim b [ true ↦ eqb i 0 | false ↦ leb (i + k) (length xs) && not (some_below test k) ] ≡ true → Listing xs y i k
    go true e p = let z : k ≡ 0 = eqb-true k 0 e in let w : i ≡ 0 = eqb-true i 0 p in record { inside = omega arith; each = λ j q. absurd (omega arith) }
    go false e p =
        record {
          inside = leb-true (i + k) (length xs) (and_left (leb (i + k) (length xs)) (not (some_below test k)) p);
          each = λ j q.
              let n : ltb (first test k) k ≡ false = not-true (ltb (first test k) k) (and_right (leb (i + k) (length xs)) (not (some_below test k)) p) in
              ltb-true (get_or xs (i + j) 0) y (not-false (ltb (get_or xs (i + j) 0) y) (first_before test k j (omega (arith, ltb-false (first test k) k n))));
        }

module _ (ls : List Line) (passed : Passed ls) where
  type_good : (y : ℕ) → y < count_of type_line ls → good_type (count_of name_line ls) (arg_types ls) y (y_line ls y) ≡ true
  unfolding good_numbers row5
  type_good y h =
      let r : Lettered type_line ls y = lettered type_line ls y h in
      let i : ℕ = r.spot in
      let q : row5 ls i ≡ false = first_before (row5 ls) (length ls) i (omega (arith, passed.in_range, r.within)) in
      let e : letter (nth_line ls i) ≡ type_line = eqb-true (letter (nth_line ls i)) type_line r.lettered in
      let g : good_numbers ls i ≡ true = not-false (good_numbers ls i) q in
      ap₂ (λ (z : ℕ) (l : Line). good_type (count_of name_line ls) (arg_types ls) z l) (sym r.earlier) (sym r.line) ∙ (rw e at g)

  module _ (y : ℕ) (h : y < count_of type_line ls) where
    abbrev l : Line
    l = y_line ls y

    arrow_kids : kind_of ls y ≡ 7 → (number l 1 < y) × (number l 3 < y)
    unfolding good_type
    arrow_kids k =
        let g = rw k at (type_good y h) in
        let g₃ = and_left (ltb (number l 1) y && leb (number l 2) 2 && ltb (number l 3) y) (zeros_from 4 l) g in
        let g₂ = and_left (ltb (number l 1) y && leb (number l 2) 2) (ltb (number l 3) y) g₃ in
        (ltb-true (number l 1) y (and_left (ltb (number l 1) y) (leb (number l 2) 2) g₂), ltb-true (number l 3) y (and_right (ltb (number l 1) y && leb (number l 2) 2) (ltb (number l 3) y) g₃))

    app_kids : kind_of ls y ≡ 8 → (number l 1 < count_of name_line ls) × Listing (arg_types ls) y (number l 2) (number l 3)
    unfolding good_type
    app_kids k =
        let g = rw k at (type_good y h) in
        let g₂ = and_left (ltb (number l 1) (count_of name_line ls) && is_list (arg_types ls) y (number l 2) (number l 3)) (zeros_from 4 l) g in (
          ltb-true (number l 1) (count_of name_line ls) (and_left (ltb (number l 1) (count_of name_line ls)) (is_list (arg_types ls) y (number l 2) (number l 3)) g₂),
          listing (arg_types ls) y (number l 2) (number l 3) (and_right (ltb (number l 1) (count_of name_line ls)) (is_list (arg_types ls) y (number l 2) (number l 3)) g₂),
        )

    tuple_kids : kind_of ls y ≡ 9 → Listing (arg_types ls) y (number l 1) (number l 2)
    unfolding good_type
    tuple_kids k =
        let g = rw k at (type_good y h) in
        listing (arg_types ls) y (number l 1) (number l 2) (and_left (is_list (arg_types ls) y (number l 1) (number l 2)) (zeros_from 3 l) g)

    ref_kid : kind_of ls y ≡ 11 → number l 2 < y
    unfolding good_type
    ref_kid k =
        let g = rw k at (type_good y h) in
        let g₂ = and_left (leb (number l 1) 1 && ltb (number l 2) y) (zeros_from 3 l) g in
        ltb-true (number l 2) y (and_right (leb (number l 1) 1) (ltb (number l 2) y) g₂)

    part_kid : (kind_of ls y ≡ 10) ⊎ (kind_of ls y ≡ 12) → number l 1 < y
    unfolding good_type
    part_kid (inl k) = ltb-true (number l 1) y (and_left (ltb (number l 1) y) (zeros_from 2 l) (rw k at (type_good y h)))
    part_kid (inr k) = ltb-true (number l 1) y (and_left (ltb (number l 1) y) (zeros_from 2 l) (rw k at (type_good y h)))

    kind_known : kind_of ls y ≤ 12
    unfolding good_type
    kind_known = go (leb (kind_of ls y) 12) refl
      where
        go : (c : Bool) → leb (kind_of ls y) 12 ≡ c → kind_of ls y ≤ 12
        go true e = leb-true (kind_of ls y) 12 e
        go false e =
            let k : 12 < kind_of ls y = leb-false (kind_of ls y) 12 e in
            let w : leb (kind_of ls y) 2 ≡ false = over 2 (kind_of ls y) (omega arith) in
            let z : false ≡ true =
            rw (w, ne_eqb (kind_of ls y) 3 (λ q. omega arith), ne_eqb (kind_of ls y) 4 (λ q. omega arith), ne_eqb (kind_of ls y) 5 (λ q. omega arith), ne_eqb (kind_of ls y) 6 (λ q. omega arith), ne_eqb (kind_of ls y) 7 (λ q. omega arith), ne_eqb (kind_of ls y) 8 (λ q. omega arith), ne_eqb (kind_of ls y) 9 (λ q. omega arith), ne_eqb (kind_of ls y) 11 (λ q. omega arith), e) at (type_good y h) in
            let v : ◌≡◌ {A = ℕ} 0 1 = cc in absurd (omega arith)

    kid_lower : (i : ℕ) → i < kids_of ls y → kid_of ls y i < y
    unfolding kids_of kid_of
    kid_lower i m = go (eqb (kind_of ls y) 7) refl (eqb (kind_of ls y) 8) refl (eqb (kind_of ls y) 9) refl (leb 10 (kind_of ls y)) refl (eqb (kind_of ls y) 11) refl m
      where
        arm : (p q : ℕ) (c : Bool) → p < y → q < y → pick c p q < y
        arm p q true u v = u
        arm p q false u v = v

        go : (x7 : Bool) → eqb (kind_of ls y) 7 ≡ x7 → (x8 : Bool) → eqb (kind_of ls y) 8 ≡ x8 → (x9 : Bool) → eqb (kind_of ls y) 9 ≡ x9 → (x10 : Bool) → leb 10 (kind_of ls y) ≡ x10 → (x11 : Bool) → eqb (kind_of ls y) 11 ≡ x11
            → i < (x7 ⇒ 2 ∥ x8 ⇒ number l 3 ∥ x9 ⇒ number l 2 ∥ x10 ⇒ 1 ∥ 0)
            → (x7 ⇒ number l (pick (eqb i 0) 1 3) ∥ x8 ⇒ arg_of ls (number l 2 + i) ∥ x9 ⇒ arg_of ls (number l 1 + i) ∥ x11 ⇒ number l 2 ∥ number l 1) < y
        go true e7 x8 e8 x9 e9 x10 e10 x11 e11 q =
            let r = arrow_kids (eqb-true (kind_of ls y) 7 e7) in two (eqb i 0) r.0 r.1
          where
            two : (c : Bool) → number l 1 < y → number l 3 < y → number l (pick c 1 3) < y
            two true u v = u
            two false u v = v
        go false e7 true e8 x9 e9 x10 e10 x11 e11 q =
            let r = (app_kids (eqb-true (kind_of ls y) 8 e8)).1 in
            subst (λ (n : ℕ). n < y) (arg_at ls (number l 2 + i) (omega (arith, r.inside, length-map (select arg_line ls) (λ a. number a 0)))) (r.each i q)
        go false e7 false e8 true e9 x10 e10 x11 e11 q =
            let r = tuple_kids (eqb-true (kind_of ls y) 9 e9) in
            subst (λ (n : ℕ). n < y) (arg_at ls (number l 1 + i) (omega (arith, r.inside, length-map (select arg_line ls) (λ a. number a 0)))) (r.each i q)
        go false e7 false e8 false e9 true e10 true e11 q = ref_kid (eqb-true (kind_of ls y) 11 e11)
        go false e7 false e8 false e9 true e10 false e11 q =
            part_kid (ten_or_twelve (kind_of ls y) (leb-true 10 (kind_of ls y) e10) (eqb-false (kind_of ls y) 11 e11) kind_known)
        go false e7 false e8 false e9 false e10 x11 e11 q = absurd (omega arith)

    pub node_at : Node ls y
    node_at =
        record {
          known = kind_known;
          lower = kid_lower;
          listed8 = λ k. let r = (app_kids k).1 in omega (arith, r.inside, length-map (select arg_line ls) (λ a. number a 0));
          listed9 = λ k. let r = tuple_kids k in omega (arith, r.inside, length-map (select arg_line ls) (λ a. number a 0));
          named = λ k. (app_kids k).0;
        }

-- ---- the types of the Y lines
abbrev read_line : List Cty → List ℕ → Line → Cty
read_line ts xs l = tree ts xs (number l 0) (number l 1) (number l 2) (number l 3)

-- a type from those before it
trees_at : (xs : List ℕ) (ts : List Cty) (ls : List Line) (n i : ℕ) → n ≡ length ts + i → i < length ls
    → get_or (trees_after xs ts ls) n TUnit ≡ read_line (take n (trees_after xs ts ls)) xs (get_or ls i bad)
unfolding trees_after
trees_at xs ts [] n i e h = absurd (omega arith)
trees_at xs ts (l ∷ ls) n zero e h =
    let t : Cty = read_line ts xs l in
    let r = trees_after_later xs (ts ++ (t ∷ [])) ls in
    let q : trees_after xs (ts ++ (t ∷ [])) ls ≡ ts ++ (t ∷ r.more) = r.is ∙ append_assoc ts (t ∷ []) r.more in
    let m : n ≡ length ts = omega arith in
    rw (q, m, get_or-append_seam ts t r.more TUnit, take-append_seam ts (t ∷ r.more)) refl
trees_at xs ts (l ∷ ls) n (suc i) e h =
    let t : Cty = read_line ts xs l in
    trees_at xs (ts ++ (t ∷ [])) ls n i (e ∙ omega (arith, length-append ts (t ∷ []))) (omega arith)

-- a list, its last member last
list_last : (ts : List Cty) (xs : List ℕ) (i k : ℕ) → list_of ts xs i (suc k) ≡ append (list_of ts xs i k) (cons (get_or ts (get_or xs (i + k) 0) TUnit) nil)
unfolding list_of append
list_last ts xs i zero = ap (λ (n : ℕ). cons (get_or ts (get_or xs n 0) TUnit) nil) (omega arith)
list_last ts xs i (suc k) =
    ap (cons (get_or ts (get_or xs i 0) TUnit)) (list_last ts xs (suc i) k ∙ ap (λ (n : ℕ). append (list_of ts xs (suc i) k) (cons (get_or ts (get_or xs n 0) TUnit) nil)) (omega arith))

none_of : (ts : List Cty) (xs : List ℕ) (i : ℕ) → list_of ts xs i 0 ≡ nil
unfolding list_of
none_of ts xs i = refl

list_listed : (ts : List Cty) (xs : List ℕ) (i k : ℕ) (f : ℕ → Cty) → ((j : ℕ) → j < k → get_or ts (get_or xs (i + j) 0) TUnit ≡ f j) → list_of ts xs i k ≡ listed f k
unfolding listed
list_listed ts xs i zero f h = none_of ts xs i
list_listed ts xs i (suc k) f h =
    list_last ts xs i k ∙ ap₂ (λ (us : Ctys) (u : Cty). append us (cons u nil)) (list_listed ts xs i k f (λ j q. h j (omega arith))) (h k (omega arith))

module _ (ls : List Line) (y : ℕ) where
  -- how many parts a kind has
  pub kids_7 : kind_of ls y ≡ 7 → kids_of ls y ≡ 2
  unfolding kids_of
  kids_7 k = rw k refl

  pub kids_8 : kind_of ls y ≡ 8 → kids_of ls y ≡ number (y_line ls y) 3
  unfolding kids_of
  kids_8 k = rw k refl

  pub kids_9 : kind_of ls y ≡ 9 → kids_of ls y ≡ number (y_line ls y) 2
  unfolding kids_of
  kids_9 k = rw k refl

  pub kids_one : (n : ℕ) → leb 10 n ≡ true → eqb n 7 ≡ false → eqb n 8 ≡ false → eqb n 9 ≡ false → kind_of ls y ≡ n → kids_of ls y ≡ 1
  unfolding kids_of
  kids_one n a e7 e8 e9 k = rw (k, a, e7, e8, e9) refl

  pub kids_none : (n : ℕ) → leb 10 n ≡ false → eqb n 7 ≡ false → eqb n 8 ≡ false → eqb n 9 ≡ false → kind_of ls y ≡ n → kids_of ls y ≡ 0
  unfolding kids_of
  kids_none n a e7 e8 e9 k = rw (k, a, e7, e8, e9) refl

  pub kid_7 : kind_of ls y ≡ 7 → (i : ℕ) → kid_of ls y i ≡ number (y_line ls y) (pick (eqb i 0) 1 3)
  unfolding kid_of
  kid_7 k i = rw k refl

  pub kid_8 : kind_of ls y ≡ 8 → (i : ℕ) → kid_of ls y i ≡ arg_of ls (number (y_line ls y) 2 + i)
  unfolding kid_of
  kid_8 k i = rw k refl

  pub kid_9 : kind_of ls y ≡ 9 → (i : ℕ) → kid_of ls y i ≡ arg_of ls (number (y_line ls y) 1 + i)
  unfolding kid_of
  kid_9 k i = rw k refl

  pub kid_11 : kind_of ls y ≡ 11 → (i : ℕ) → kid_of ls y i ≡ number (y_line ls y) 2
  unfolding kid_of
  kid_11 k i = rw k refl

  pub kid_one : (n : ℕ) → eqb n 7 ≡ false → eqb n 8 ≡ false → eqb n 9 ≡ false → eqb n 11 ≡ false → kind_of ls y ≡ n → (i : ℕ) → kid_of ls y i ≡ number (y_line ls y) 1
  unfolding kid_of
  kid_one n e7 e8 e9 e11 k i = rw (k, e7, e8, e9, e11) refl

module _ (ls : List Line) (y : ℕ) where
  pub kids_part : 10 ≤ kind_of ls y → kids_of ls y ≡ 1
  kids_part h = kids_one ls y (kind_of ls y) (le-leb 10 (kind_of ls y) h) (ne_eqb (kind_of ls y) 7 (λ e. omega arith)) (ne_eqb (kind_of ls y) 8 (λ e. omega arith)) (ne_eqb (kind_of ls y) 9 (λ e. omega arith)) refl

  pub kids_leaf : kind_of ls y ≤ 6 → kids_of ls y ≡ 0
  kids_leaf h = kids_none ls y (kind_of ls y) (over (kind_of ls y) 10 (omega arith)) (ne_eqb (kind_of ls y) 7 (λ e. omega arith)) (ne_eqb (kind_of ls y) 8 (λ e. omega arith)) (ne_eqb (kind_of ls y) 9 (λ e. omega arith)) refl

-- none of the kinds from 1 on
under : (n k : ℕ) → k ≤ suc n → (k ≡ suc n → ⊥) → k ≤ n
under n k h m = omega arith

least : (k : ℕ) → k ≤ 12 → (k ≡ 1 → ⊥) → (k ≡ 2 → ⊥) → (k ≡ 3 → ⊥) → (k ≡ 4 → ⊥) → (k ≡ 5 → ⊥) → (k ≡ 6 → ⊥) → (k ≡ 7 → ⊥) → (k ≡ 8 → ⊥) → (k ≡ 9 → ⊥) → (k ≡ 10 → ⊥) → (k ≡ 11 → ⊥) → (k ≡ 12 → ⊥) → k ≡ 0
least k h m1 m2 m3 m4 m5 m6 m7 m8 m9 m10 m11 m12 =
    zero_of k (under 0 k (under 1 k (under 2 k (under 3 k (under 4 k (under 5 k (under 6 k (under 7 k (under 8 k (under 9 k (under 10 k (under 11 k h m12) m11) m10) m9) m8) m7) m6) m5) m4) m3) m2) m1)
  where
    zero_of : (n : ℕ) → n ≤ 0 → n ≡ 0
    zero_of n q = omega arith

-- short lists
listed_none : (f : ℕ → Cty) → listed f 0 ≡ nil
unfolding listed
listed_none f = refl

listed_one : (f : ℕ → Cty) → listed f 1 ≡ cons (f 0) nil
unfolding listed append
listed_one f = refl

listed_two : (f : ℕ → Cty) → listed f 2 ≡ cons (f 0) (cons (f 1) nil)
unfolding listed append
listed_two f = refl

module _ (ls : List Line) (passed : Passed ls) (y : ℕ) (h : y < count_of type_line ls) where
  abbrev all : List Line
  all = ls

  abbrev line : Line
  line = y_line all y

  -- the types of its parts
  abbrev pub parts_of : Ctys
  parts_of = listed (λ i. type_of all (kid_of all y i)) (kids_of all y)

  abbrev lows : List Cty
  lows = take y (trees all)

  read : type_of all y ≡ read_line lows (arg_types all) line
  unfolding trees
  read = trees_at (arg_types all) [] (select type_line all) y y (omega arith) h

  low : (n : ℕ) → n < y → get_or lows n TUnit ≡ type_of all n
  low n q = get_or-take y (trees all) n TUnit q

  kid_type : (i : ℕ) → i < kids_of all y → get_or lows (kid_of all y i) TUnit ≡ type_of all (kid_of all y i)
  kid_type i q = low (kid_of all y i) ((node_at ls passed y h).lower i q)

  pub var_type : kind_of all y ≡ 3 → type_of all y ≡ TVar (number line 1)
  unfolding tree
  var_type k = read ∙ rw k refl

  -- a list of A lines
  list_parts : (i n : ℕ) → kids_of all y ≡ n → ((j : ℕ) → kid_of all y j ≡ arg_of all (i + j)) → i + n ≤ count_of arg_line all → list_of lows (arg_types all) i n ≡ parts_of
  list_parts i n e f q =
      ap (λ (m : ℕ). list_of lows (arg_types all) i m) (sym e)
      ∙ list_listed lows (arg_types all) i (kids_of all y) (λ j. type_of all (kid_of all y j))
      (λ j r. ap (λ (m : ℕ). get_or lows m TUnit) (arg_at all (i + j) (omega arith) ∙ sym (f j)) ∙ kid_type j r)

  -- one part, or two
  one_part : (m : ℕ) → kids_of all y ≡ 1 → ((i : ℕ) → kid_of all y i ≡ m) → cons (get_or lows m TUnit) nil ≡ parts_of
  one_part m e f =
      ap (λ (n : ℕ). cons (get_or lows n TUnit) nil) (sym (f 0))
      ∙ (ap (λ (t : Cty). cons t nil) (kid_type 0 (omega (arith, e))) ∙ sym (ap (listed (λ i. type_of all (kid_of all y i))) e ∙ listed_one (λ i. type_of all (kid_of all y i))))

  two_parts : kind_of all y ≡ 7 → cons (get_or lows (number line 1) TUnit) (cons (get_or lows (number line 3) TUnit) nil) ≡ parts_of
  two_parts k =
      let e : kids_of all y ≡ 2 = kids_7 all y k in
      ap₂ (λ (m n : ℕ). cons (get_or lows m TUnit) (cons (get_or lows n TUnit) nil)) (sym (kid_7 all y k 0)) (sym (kid_7 all y k 1))
      ∙ (ap₂ (λ (t u : Cty). cons t (cons u nil)) (kid_type 0 (omega (arith, e))) (kid_type 1 (omega (arith, e)))
      ∙ sym (ap (listed (λ i. type_of all (kid_of all y i))) e ∙ listed_two (λ i. type_of all (kid_of all y i))))

  no_parts : kids_of all y ≡ 0 → nil ≡ parts_of
  no_parts e = sym (ap (listed (λ i. type_of all (kid_of all y i))) e ∙ listed_none (λ i. type_of all (kid_of all y i)))

  pub app_type : kind_of all y ≡ 8 → type_of all y ≡ TApp (number line 1) parts_of
  unfolding tree
  app_type k = read ∙ (rw k refl ∙ ap (TApp (number line 1)) (list_parts (number line 2) (number line 3) (kids_8 all y k) (kid_8 all y k) ((node_at ls passed y h).listed8 k)))

  -- of every other kind
  pub record Plain : Type 0 where
    pub is_plain : plain (type_of all y) ≡ true
    pub has_parts : parts (type_of all y) ≡ parts_of

  plainly : (c : Cty) → type_of all y ≡ c → plain c ≡ true → parts c ≡ parts_of → Plain
  plainly c e p q = record { is_plain = ap plain e ∙ p; has_parts = ap parts e ∙ q }

  leaf : (n : ℕ) (c : Cty) → kind_of all y ≡ n → leb 10 n ≡ false → eqb n 7 ≡ false → eqb n 8 ≡ false → eqb n 9 ≡ false → type_of all y ≡ c → plain c ≡ true → parts c ≡ nil → Plain
  leaf n c k a e7 e8 e9 e p q = plainly c e p (q ∙ no_parts (kids_none all y n a e7 e8 e9 k))

  pub plain_type : (kind_of all y ≡ 3 → ⊥) → (kind_of all y ≡ 8 → ⊥) → Plain
  unfolding tree parts
  plain_type n3 n8 =
      at 1 (λ k. leaf 1 TAny k refl refl refl refl (read ∙ rw k refl) refl refl) (λ m1.
      at 2 (λ k. leaf 2 TExn k refl refl refl refl (read ∙ rw k refl) refl refl) (λ m2.
      at 4 (λ k. leaf 4 (TInt (number line 1) (number line 2)) k refl refl refl refl (read ∙ rw k refl) refl refl) (λ m4.
      at 5 (λ k. leaf 5 (TFloat (number line 1)) k refl refl refl refl (read ∙ rw k refl) refl refl) (λ m5.
      at 6 (λ k. leaf 6 (TConst (number line 1)) k refl refl refl refl (read ∙ rw k refl) refl refl) (λ m6.
      at 7 (λ k. plainly (TArrow (get_or lows (number line 1) TUnit) (number line 2) (get_or lows (number line 3) TUnit)) (read ∙ rw k refl) refl (two_parts k)) (λ m7.
      at 9 (λ k. plainly (TTuple (list_of lows (arg_types all) (number line 1) (number line 2))) (read ∙ rw k refl) refl (list_parts (number line 1) (number line 2) (kids_9 all y k) (kid_9 all y k) ((node_at ls passed y h).listed9 k))) (λ m9.
      at 10 (λ k. plainly (TBuf (get_or lows (number line 1) TUnit)) (read ∙ rw k refl) refl (one_part (number line 1) (kids_one all y 10 refl refl refl refl k) (kid_one all y 10 refl refl refl refl k))) (λ m10.
      at 11 (λ k. plainly (TRef (number line 1) (get_or lows (number line 2) TUnit)) (read ∙ rw k refl) refl (one_part (number line 2) (kids_one all y 11 refl refl refl refl k) (kid_11 all y k))) (λ m11.
      at 12 (λ k. plainly (TInline (get_or lows (number line 1) TUnit)) (read ∙ rw k refl) refl (one_part (number line 1) (kids_one all y 12 refl refl refl refl k) (kid_one all y 12 refl refl refl refl k))) (λ m12.
      let k : kind_of all y ≡ 0 = least (kind_of all y) (node_at ls passed y h).known m1 m2 n3 m4 m5 m6 m7 n8 m9 m10 m11 m12 in
      leaf 0 TUnit k refl refl refl refl (read ∙ rw k refl) refl refl))))))))))
    where
      at : (n : ℕ) → (kind_of all y ≡ n → Plain) → ((kind_of all y ≡ n → ⊥) → Plain) → Plain
      at n f g = go (eqb (kind_of all y) n) refl
        where
          go : (c : Bool) → eqb (kind_of all y) n ≡ c → Plain
          go true e = f (eqb-true (kind_of all y) n e)
          go false e = g (eqb-false (kind_of all y) n e)

  -- ---- for the code
  pub list8_within : kind_of all y ≡ 8 → (i : ℕ) → i < kids_of all y → number line 2 + i < count_of arg_line all
  list8_within k i q = omega (arith, (node_at ls passed y h).listed8 k, kids_8 all y k)

  pub list9_within : kind_of all y ≡ 9 → (i : ℕ) → i < kids_of all y → number line 1 + i < count_of arg_line all
  list9_within k i q = omega (arith, (node_at ls passed y h).listed9 k, kids_9 all y k)

pub seven : (k : ℕ) → k < 10 → (k ≡ 7 → ⊥) → (k ≡ 8 → ⊥) → (k ≡ 9 → ⊥) → k ≤ 6
seven k h m7 m8 m9 = omega arith
