-- The declarations that a type names, by the line of the type. Assumes nothing.
use Rattle.std.specs.Prelude.{◌≡◌, ◌↔◌, ◌⊎◌, Bool, true, ◌||◌, eqb, ltb, length, get_or}
use Rattle.std.proofs.Math.Path.{refl, ap, sym}
use Rattle.std.proofs.Common.{ap₂, ◌∙◌, inl, inr, ⊎_elim, eqb-true}
use mathlib.Core.List.Memᴰ
use mathlib.Core.List.{List, [], ◌∷◌, ◌++◌, Memᴰ}
use Rattle.std.proofs.Math.Bool.{false}
use Prim.Native.Nat.{ℕ, zero, suc, ◌+◌, ◌≤◌, ◌<◌}
use native.Mathlib.Omega.{arith}
use Rattle.std.proofs.lemmas.List.{length-map}
use Rattle.std.proofs.Math.ListN.{get_or-map}
use Rattle.std.proofs.lemmas.Bool.{eqb-false}
use Rattle.number_columns.specs.Column.{pick}
use Rattle.sheet.specs.Line.{Line, bad, number}
use Rattle.sheet.proofs.ListLaws.{false_true}
use Rattle.model.specs.Cty.{Cty, Ctys, TUnit, TArrow, TApp, gather, gathers, names_of_cty}
use Rattle.model.specs.Decl.{Decl, member, position}
use Rattle.model.specs.Layout.{positions, names_in}
use Rattle.meaning.specs.Program.{name_line, arg_line, type_line, select, list_of, tree, trees, program}
use Rattle.meaning.specs.Rows.{count_of, good_type}
use Rattle.row5_ranges.specs.TypeLists.{types_of}
use Rattle.row5_ranges.specs.TypeLinesLaws.{past}
use Rattle.table_declared.specs.Passed.{Passed}
use Rattle.table_access.specs.Tables.{nth}
use Rattle.table_declared.specs.TypeLaws.{good_kind, good_arrow, good_app, good_tuple, good_buf, good_ref, good_inline, good_type_at, type_tree}
use Rattle.mention_types.specs.Mentions.{part, arg_of, mentions, named, any, Lower}

-- ---- members
pub member_append : (m : ℕ) (ms ns : List ℕ) → member m (ms ++ ns) ≡ (member m ms || member m ns)
unfolding member
member_append m [] ns = refl
member_append m (a ∷ ms) ns = go (eqb a m) (member_append m ms ns)
  where
    go : (c : Bool) → member m (ms ++ ns) ≡ (member m ms || member m ns) → pick c true (member m (ms ++ ns)) ≡ (pick c true (member m ms) || member m ns)
    go true h = refl
    go false h = h

pub member_iff : (m : ℕ) (l : List ℕ) → (member m l ≡ true) ↔ Memᴰ m l
unfolding member
member_iff m [] = (λ e. false_true e, λ x. absurd (Memᴰ.not-nil x))
member_iff m (a ∷ l) = go (eqb a m) refl (member_iff m l)
  where
    go : (c : Bool) → eqb a m ≡ c → (member m l ≡ true) ↔ Memᴰ m l → (pick c true (member m l) ≡ true) ↔ Memᴰ m (a ∷ l)
    go true e h = (λ _. Memᴰ.head (sym (eqb-true a m e)), λ _. refl)
    go false e h = (λ x. Memᴰ.tail (h.0 x), λ x. ⊎_elim (λ u. absurd (eqb-false a m e (sym u))) h.1 (Memᴰ.cases_cons x))

pub positions_append : (ds : List Decl) (ms ns : List ℕ) → positions ds (ms ++ ns) ≡ positions ds ms ++ positions ds ns
unfolding positions
positions_append ds [] ns = refl
positions_append ds (a ∷ ms) ns = go (ltb (position ds a) (length ds)) (positions_append ds ms ns)
  where
    go : (c : Bool) → positions ds (ms ++ ns) ≡ positions ds ms ++ positions ds ns
        → pick c (position ds a ∷ positions ds (ms ++ ns)) (positions ds (ms ++ ns)) ≡ pick c (position ds a ∷ positions ds ms) (positions ds ms) ++ positions ds ns
    go true h = ap (λ (l : List ℕ). position ds a ∷ l) h
    go false h = h

-- the first of so many, and the others
pub any_front : (p : ℕ → Bool) (k : ℕ) → any p (suc k) ≡ (p 0 || any (λ j. p (suc j)) k)
unfolding any
any_front p zero = or_false (p 0)
  where
    or_false : (c : Bool) → (false || c) ≡ (c || false)
    or_false true = refl
    or_false false = refl
any_front p (suc k) = ap (λ (c : Bool). c || p (suc k)) (any_front p k) ∙ or_assoc (p 0) (any (λ j. p (suc j)) k) (p (suc k))
  where
    or_assoc : (a b c : Bool) → ((a || b) || c) ≡ (a || (b || c))
    or_assoc true b c = refl
    or_assoc false b c = refl

pub any_same : (p q : ℕ → Bool) (k : ℕ) → ((j : ℕ) → j < k → p j ≡ q j) → any p k ≡ any q k
unfolding any
any_same p q zero h = refl
any_same p q (suc k) h = ap₂ (λ (x y : Bool). x || y) (any_same p q k (λ j l. h j (omega arith))) (h k (omega arith))

-- ---- names of a type
module _ (ds : List Decl) (m : ℕ) where
  abbrev in_type : Cty → Bool
  in_type c = member m (names_in ds c)

  abbrev in_types : Ctys → Bool
  in_types ts = member m (positions ds (gathers (λ v. []) (λ n. n ∷ []) ts))

  two : (ms ns : List ℕ) → member m (positions ds (ms ++ ns)) ≡ (member m (positions ds ms) || member m (positions ds ns))
  two ms ns = ap (member m) (positions_append ds ms ns) ∙ member_append m (positions ds ms) (positions ds ns)

  in_arrow : (a : Cty) (e : ℕ) (b : Cty) → in_type (TArrow a e b) ≡ (in_type a || in_type b)
  unfolding names_of_cty gather
  in_arrow a e b = two (names_of_cty a) (names_of_cty b)

  in_app : (n : ℕ) (ts : Ctys) → in_type (TApp n ts) ≡ (member m (positions ds (n ∷ [])) || in_types ts)
  unfolding names_of_cty gather
  in_app n ts = two (n ∷ []) (gathers (λ v. []) (λ k. k ∷ []) ts)

  in_list : (ts : List Cty) (xs : List ℕ) (i k : ℕ) → in_types (list_of ts xs i k) ≡ any (λ j. in_type (get_or ts (get_or xs (i + j) 0) TUnit)) k
  unfolding list_of gather any member positions names_of_cty
  in_list ts xs i zero = refl
  in_list ts xs i (suc k) =
      let z : i + 0 ≡ i = omega arith in
      two (names_of_cty (get_or ts (get_or xs i 0) TUnit)) (gathers (λ v. []) (λ n. n ∷ []) (list_of ts xs (suc i) k))
      ∙ ap (λ (c : Bool). in_type (get_or ts (get_or xs i 0) TUnit) || c) (in_list ts xs (suc i) k ∙ any_same (λ j. in_type (get_or ts (get_or xs (suc i + j) 0) TUnit)) (λ j. in_type (get_or ts (get_or xs (i + suc j) 0) TUnit)) k (λ j l. let e : suc i + j ≡ i + suc j = omega arith in rw e))
      ∙ ap (λ (x : ℕ). in_type (get_or ts (get_or xs x 0) TUnit) || any (λ j. in_type (get_or ts (get_or xs (i + suc j) 0) TUnit)) k) (sym z)
      ∙ sym (any_front (λ j. in_type (get_or ts (get_or xs (i + j) 0) TUnit)) k)

-- ---- by its line
-- the type of an A line
arg_is : (ls : List Line) (i : ℕ) → get_or (types_of ls) i 0 ≡ arg_of ls i
arg_is ls i = get_or-map (λ (l : Line). number l 0) (select arg_line ls) i bad

module _ (ls : List Line) (p : Passed ls) (y : ℕ) (h : y < count_of type_line ls) where
  abbrev good : good_type (count_of name_line ls) (types_of ls) y (nth type_line ls y) ≡ true
  good = good_type_at ls p y h

  lower : (i k : ℕ) → ((j : ℕ) → j < k → (i + j < length (types_of ls)) × (get_or (types_of ls) (i + j) 0 < y)) → Lower ls y i k
  lower i k f j l = let g = f j l in (rw length-map at g.0, rw (arg_is ls (i + j)) at g.1)

  pub arrow_low : part ls y 0 ≡ 7 → (part ls y 1 < y) × (part ls y 3 < y)
  arrow_low e = let g = good_arrow _ _ _ _ good e in (g.0, g.2)

  pub app_name : part ls y 0 ≡ 8 → part ls y 1 < count_of name_line ls
  app_name e = (good_app _ _ _ _ good e).0

  pub app_low : part ls y 0 ≡ 8 → Lower ls y (part ls y 2) (part ls y 3)
  app_low e = lower _ _ (good_app _ _ _ _ good e).1

  pub tuple_low : part ls y 0 ≡ 9 → Lower ls y (part ls y 1) (part ls y 2)
  tuple_low e = lower _ _ (good_tuple _ _ _ _ good e)

  pub buf_low : part ls y 0 ≡ 10 → part ls y 1 < y
  buf_low e = good_buf _ _ _ _ good e

  pub ref_low : part ls y 0 ≡ 11 → part ls y 2 < y
  ref_low e = good_ref _ _ _ _ good e

  pub inline_low : part ls y 0 ≡ 12 → part ls y 1 < y
  inline_low e = good_inline _ _ _ _ good e

  module _ (m : ℕ) where
    by_tree : mentions ls y m ≡ in_type (program ls) m (tree (trees ls) (types_of ls) (part ls y 0) (part ls y 1) (part ls y 2) (part ls y 3))
    unfolding mentions
    by_tree = ap (in_type (program ls) m) (type_tree ls p y h)

    listed : (i k : ℕ) → in_types (program ls) m (list_of (trees ls) (types_of ls) i k) ≡ any (λ j. mentions ls (arg_of ls (i + j)) m) k
    unfolding mentions
    listed i k =
        in_list (program ls) m (trees ls) (types_of ls) i k
        ∙ any_same (λ j. in_type (program ls) m (get_or (trees ls) (get_or (types_of ls) (i + j) 0) TUnit)) (λ j. in_type (program ls) m (get_or (trees ls) (arg_of ls (i + j)) TUnit)) k (λ j l. rw (arg_is ls (i + j)))

    pub arrow_names : part ls y 0 ≡ 7 → mentions ls y m ≡ (mentions ls (part ls y 1) m || mentions ls (part ls y 3) m)
    unfolding tree mentions
    arrow_names e = by_tree ∙ rw e (in_arrow (program ls) m _ _ _)

    pub app_names : part ls y 0 ≡ 8 → mentions ls y m ≡ (named ls (part ls y 1) m || any (λ j. mentions ls (arg_of ls (part ls y 2 + j)) m) (part ls y 3))
    unfolding tree named
    app_names e =
        by_tree ∙ rw e (in_app (program ls) m (part ls y 1) _ ∙ ap (λ (c : Bool). member m (positions (program ls) (part ls y 1 ∷ [])) || c) (listed (part ls y 2) (part ls y 3)))

    pub tuple_names : part ls y 0 ≡ 9 → mentions ls y m ≡ any (λ j. mentions ls (arg_of ls (part ls y 1 + j)) m) (part ls y 2)
    unfolding tree names_of_cty gather
    tuple_names e = by_tree ∙ rw e (listed (part ls y 1) (part ls y 2))

    pub buf_names : part ls y 0 ≡ 10 → mentions ls y m ≡ mentions ls (part ls y 1) m
    unfolding tree names_of_cty gather mentions
    buf_names e = by_tree ∙ rw e

    pub ref_names : part ls y 0 ≡ 11 → mentions ls y m ≡ mentions ls (part ls y 2) m
    unfolding tree names_of_cty gather mentions
    ref_names e = by_tree ∙ rw e

    pub inline_names : part ls y 0 ≡ 12 → mentions ls y m ≡ mentions ls (part ls y 1) m
    unfolding tree names_of_cty gather mentions
    inline_names e = by_tree ∙ rw e

    -- the kinds that name nothing
    pub leaf_names : part ls y 0 ≤ 6 → mentions ls y m ≡ false
    unfolding tree names_of_cty gather member positions
    leaf_names l = by_tree ∙ go (part ls y 0) refl l
      where
        go : (k : ℕ) → part ls y 0 ≡ k → k ≤ 6 → in_type (program ls) m (tree (trees ls) (types_of ls) (part ls y 0) (part ls y 1) (part ls y 2) (part ls y 3)) ≡ false
        go zero e q = rw e
        go (suc zero) e q = rw e
        go (suc (suc zero)) e q = rw e
        go (suc (suc (suc zero))) e q = rw e
        go (suc (suc (suc (suc zero)))) e q = rw e
        go (suc (suc (suc (suc (suc zero))))) e q = rw e
        go (suc (suc (suc (suc (suc (suc zero)))))) e q = rw e
        go (suc (suc (suc (suc (suc (suc (suc k))))))) e q = absurd (omega arith)

  -- there is no other kind
  pub kind_some : (k : ℕ) → k ≡ part ls y 0 → 7 ≤ k → (k ≡ 7 → ⊥) → (k ≡ 8 → ⊥) → (k ≡ 9 → ⊥) → (k ≡ 11 → ⊥) → ((k ≡ 10) ⊎ (k ≡ 12) → ⊥) → ⊥
  kind_some k e l n7 n8 n9 n11 n =
      let r : 13 ≤ k = past 12 k (past 11 k (past 10 k (past 9 k (past 8 k (past 7 k l n7) n8) n9) (λ q. n (inl q))) n11) (λ q. n (inr q)) in
      over k e r
    where
      over : (k : ℕ) → k ≡ part ls y 0 → 13 ≤ k → ⊥
      over k e r = omega (arith, good_kind _ _ _ _ good)
