-- Locality: let two programs agree on a set of names whose declarations name nothing outside it; they give
-- these names the same verdicts, left declarations and faults. Over any declarations and any limit.
-- Assumes nothing.
use Rattle.std.specs.Prelude.{◌≡◌, ◌||◌}
use Rattle.std.proofs.Math.Path.{refl, sym, ap₂}
use Rattle.std.proofs.Common.{◌∙◌, ap, subst, ⊎_elim}
use mathlib.Core.List.{List, [], ◌∷◌, Memᴰ}
use Rattle.std.proofs.Math.Bool.{Bool, true, false}
use Rattle.std.proofs.Math.Option.{Option, none}
use Prim.Native.Nat.{ℕ, ◌≤◌, ◌<◌}
use native.Mathlib.Omega.{arith}
use Rattle.std.proofs.Math.ListN.{length, get_or}
use Rattle.number_columns.specs.Column.{pick}
use Rattle.sheet.proofs.ListLaws.{Every}
use Rattle.model.specs.Cty.{Cty, names_of_cty}
use Rattle.model.specs.Decl.{Field, Body, TAbstract, TAbbrev, TRecord, TVariant, Dtype, Realized, NoUnfold, has_flag, CtorLayout, NewtypeLayout, Layout, L_erased, L_newtype, L_struct, L_abbrev, L_opaque, Origin, here, imported, Decl, dtype_at, origin_at, position}
use Rattle.model.specs.Erasure.{marked, erasure_fixpoint}
use Rattle.model.specs.Layout.{steps, type_names, ctor_layouts, candidate, dropped, names_in, layout_of, candidates_of, passes_of}
use Rattle.model.specs.Resolve.{unfolded, Unfold, gone, newtype, abbreviation, stays, unfold_body, unfold_dtype, unfold_of, unfolds, unfold_name, resolve}
use Rattle.model.specs.Run.{rw_decl, record_of, info, layouts_of, unfold_next, returns, resolves, decl_fault, lay, layout_of_decl, left_at, info_at}
use Rattle.model.specs.Names.{OwnImports, fields_names, dtype_names, body_names, Declared, Agree, Among, cls_names, layout_names}
use Rattle.model_laws.specs.Names.{agree_sym, declared_cases, agree_foreign}
use Rattle.model_laws.specs.Erasure.{erasure_local, ctor_layouts_local}
use Rattle.model_laws.specs.Reach.{cyclic_iff, reach_loop}
use Rattle.model_laws.specs.Layout.{get_or_layouts, get_or_candidates, layout_same, Alike, Places, places_only, Placed, names_in_iff, unfold_below}
use Rattle.model_laws.specs.Cty.{All, names_all, all_names}
use Rattle.model_laws.specs.Resolve.{BodyAll, Fields, Kept, kept_field_types, rw_decl_local, decl_fault_local}
use Rattle.model_laws.specs.Own.{layout_own}
use Rattle.model_laws.specs.Lists.{get_or_table, get_or_table_past}

pub layouts_own : (ds : List Decl) → OwnImports ds → (i : ℕ) → i < length ds → Among (layout_names (layout_of_decl ds i)) (dtype_names (dtype_at ds i))
unfolding layouts_of layout_of
layouts_own ds own i h =
    subst (λ (l : Layout). Among (layout_names l) (dtype_names (dtype_at ds i))) (sym (get_or_layouts ds (erasure_fixpoint ds).marks i L_opaque h))
    (go (dropped ds (passes_of ds s) i) (get_or (candidates_of ds s) i none) (origin_at ds i) refl (get_or_candidates ds (marked ds (erasure_fixpoint ds).marks) (erasure_fixpoint ds).marks i none h))
  where
    s : List Bool
    s = (erasure_fixpoint ds).marks

    er : ℕ → Bool
    er = marked ds s

    go : (drop : Bool) (cand : Option NewtypeLayout) (o : Origin) → origin_at ds i ≡ o
        → cand ≡ candidate (dtype_at ds i) (origin_at ds i) (get_or s i false) (ctor_layouts er (dtype_at ds i))
        → Among (layout_names (layout_of (dtype_at ds i) o (get_or s i false) drop cand (ctor_layouts er (dtype_at ds i)))) (dtype_names (dtype_at ds i))
    go drop cand here e c =
        subst (λ (x : Option NewtypeLayout). Among (layout_names (layout_of (dtype_at ds i) here (get_or s i false) drop x (ctor_layouts er (dtype_at ds i)))) (dtype_names (dtype_at ds i)))
        (sym (c ∙ ap (λ (x : Origin). candidate (dtype_at ds i) x (get_or s i false) (ctor_layouts er (dtype_at ds i))) e))
        (layout_own er (dtype_at ds i) (get_or s i false) drop)
    go drop cand (imported ti) e c = own i ti h e

-- what a name becomes, by its declaration
pub lay_declared : (ds : List Decl) (n : ℕ) → Declared ds n → lay ds n ≡ unfold_of (dtype_at ds (position ds n)) (layout_of_decl ds (position ds n))
unfolding unfold_name unfolds
lay_declared ds n h = get_or_table _ (length ds) (position ds n) stays h

pub lay_foreign : (ds : List Decl) (n : ℕ) → length ds ≤ position ds n → lay ds n ≡ stays
unfolding unfold_name unfolds
lay_foreign ds n h = get_or_table_past _ (length ds) (position ds n) stays h

unfold_dtype_all : (P : ℕ → Type 0) (d : Dtype) → ((n : ℕ) → Memᴰ n (dtype_names d) → P n) → BodyAll P (unfold_dtype d)
unfolding unfold_dtype unfold_body dtype_names body_names
unfold_dtype_all P d f = go (has_flag d Realized || has_flag d NoUnfold) d.dt_body refl
  where
    go : (b : Bool) (y : Body) → d.dt_body ≡ y → BodyAll P (pick b stays (unfold_body d.dt_params y))
    go true y e = tt
    go false TAbstract e = tt
    go false (TAbbrev c) e = names_all P c (λ n m. f n (subst (λ (y : Body). Memᴰ n (body_names y)) (sym e) m))
    go false (TRecord fs) e = tt
    go false (TVariant cs) e = tt

pub unfold_all : (P : ℕ → Type 0) (d : Dtype) (l : Layout)
    → ((n : ℕ) → Memᴰ n (dtype_names d) → P n)
    → ((n : ℕ) → Memᴰ n (layout_names l) → P n)
    → BodyAll P (unfold_of d l)
unfolding unfold_of layout_names
unfold_all P d L_erased f g = tt
unfold_all P d (L_newtype nt) f g = names_all P nt.nt_ty g
unfold_all P d (L_struct cls) f g = unfold_dtype_all P d f
unfold_all P d (L_abbrev c) f g = unfold_dtype_all P d f
unfold_all P d L_opaque f g = unfold_dtype_all P d f

-- ---- the types that are resolved for a layout
fields_all : (P : ℕ → Type 0) (fs : List Field) → ((n : ℕ) → Memᴰ n (fields_names fs) → P n) → Fields (All P) fs
unfolding fields_names
fields_all P [] f = tt
fields_all P (x ∷ fs) f =
    (names_all P x.fd_type (λ n m. f n (mathlib.Core.List.Memᴰ.append_left (fields_names fs) m)), fields_all P fs (λ n m. f n (mathlib.Core.List.Memᴰ.append_right (names_of_cty x.fd_type) m)))

kept_all : (P : ℕ → Type 0) (cls : List CtorLayout) → ((n : ℕ) → Memᴰ n (cls_names cls) → P n) → Kept (All P) cls
unfolding cls_names
kept_all P [] f = tt
kept_all P (cl ∷ cls) f =
    (fields_all P cl.cl_fields (λ n m. f n (mathlib.Core.List.Memᴰ.append_left (cls_names cls) m)), kept_all P cls (λ n m. f n (mathlib.Core.List.Memᴰ.append_right (fields_names cl.cl_fields) m)))

pub resolves_all : (P : ℕ → Type 0) (l : Layout) → ((n : ℕ) → Memᴰ n (layout_names l) → P n) → Every (All P) (resolves l)
unfolding resolves layout_names
resolves_all P L_erased f = tt
resolves_all P (L_newtype nt) f = (names_all P nt.nt_ty f, tt)
resolves_all P (L_struct cls) f = kept_field_types (All P) cls (kept_all P cls f)
resolves_all P (L_abbrev c) f = (names_all P c f, tt)
resolves_all P L_opaque f = tt

-- ---- two programs
module _ (S : ℕ → Bool) (ds ds' : List Decl) (agree : Agree S ds ds') (own : OwnImports ds) where
  abbrev In : ℕ → Type 0
  In n = S n ≡ true

  pub marks_local : (n : ℕ) → S n ≡ true → get_or (erasure_fixpoint ds).marks (position ds n) false ≡ get_or (erasure_fixpoint ds').marks (position ds' n) false
  unfolding marked
  marks_local n h = erasure_local S ds ds' agree n h

  alike : Alike S ds ds' (erasure_fixpoint ds).marks (erasure_fixpoint ds').marks
  alike = record { agree = agree; marks = erasure_local S ds ds' agree }

  pub layouts_local : (n : ℕ) → S n ≡ true → layout_of_decl ds (position ds n) ≡ layout_of_decl ds' (position ds' n)
  unfolding layouts_of
  layouts_local n h = layout_same S ds ds' (erasure_fixpoint ds).marks (erasure_fixpoint ds').marks alike n h L_opaque

  -- the names of a layout of S are in S
  names_inside : (n : ℕ) → S n ≡ true → Declared ds n → (m : ℕ) → Memᴰ m (layout_names (layout_of_decl ds (position ds n))) → S m ≡ true
  names_inside n h d m k = agree.closed n h d m (layouts_own ds own (position ds n) d m k)

  pub lay_local : (n : ℕ) → S n ≡ true → lay ds n ≡ lay ds' n
  lay_local n h =
      ⊎_elim
      (λ d. lay_declared ds n d ∙ (ap₂ unfold_of (agree.same_dtype n h d) (layouts_local n h) ∙ sym (lay_declared ds' n ((agree.declared n h).0 d))))
      (λ e. lay_foreign ds n (omega arith) ∙ sym (lay_foreign ds' n (omega (arith, agree_foreign S ds ds' agree n h e))))
      (declared_cases ds n)

  pub lay_closed : (n : ℕ) → S n ≡ true → BodyAll In (lay ds n)
  lay_closed n h =
      ⊎_elim
      (λ d. rw (lay_declared ds n d) (unfold_all In (dtype_at ds (position ds n)) (layout_of_decl ds (position ds n)) (agree.closed n h d) (names_inside n h d)))
      (λ e. let f : length ds ≤ position ds n = omega arith in rw (lay_foreign ds n f) tt)
      (declared_cases ds n)

  pub left_local : (fuel n : ℕ) → S n ≡ true → Declared ds n → left_at fuel ds (position ds n) ≡ left_at fuel ds' (position ds' n)
  unfolding left_at
  left_local fuel n h d =
      rw_decl_local (lay ds) (lay ds') In lay_closed lay_local fuel (dtype_at ds (position ds n)) (layout_of_decl ds (position ds n)) (resolves_all In (layout_of_decl ds (position ds n)) (names_inside n h d))
      ∙ ap₂ (rw_decl (resolve (lay ds') fuel)) (agree.same_dtype n h d) (layouts_local n h)

  pub fault_local : (limit fuel n : ℕ) → S n ≡ true → Declared ds n → decl_fault limit fuel ds (layouts_of ds) (position ds n) ≡ decl_fault limit fuel ds' (layouts_of ds') (position ds' n)
  fault_local limit fuel n h d =
      decl_fault_local limit fuel ds ds' (layouts_of ds) (layouts_of ds') (position ds n) (position ds' n) In lay_closed lay_local (layouts_local n h) (resolves_all In (layout_of_decl ds (position ds n)) (names_inside n h d))

  pub info_local : (fuel n : ℕ) → S n ≡ true → Declared ds n → info_at fuel ds (position ds n) ≡ info_at fuel ds' (position ds' n)
  unfolding info_at info
  info_local fuel n h d =
      rw (← (left_local fuel n h d), ← (layouts_local n h), ← (marks_local n h), ← (agree.same_origin n h d), ← (agree.same_dtype n h d))
      (go (origin_at ds (position ds n)))
    where
      er : ℕ → Bool
      er = marked ds (erasure_fixpoint ds).marks

      er' : ℕ → Bool
      er' = marked ds' (erasure_fixpoint ds').marks

      t : Dtype
      t = dtype_at ds (position ds n)

      cls : ctor_layouts er t ≡ ctor_layouts er' t
      cls = ctor_layouts_local er er' t (λ m k. erasure_local S ds ds' agree m (agree.closed n h d m k))

      go : (o : Origin) → info er t o (get_or (erasure_fixpoint ds).marks (position ds n) false) (layout_of_decl ds (position ds n)) (left_at fuel ds (position ds n))
          ≡ info er' t o (get_or (erasure_fixpoint ds).marks (position ds n) false) (layout_of_decl ds (position ds n)) (left_at fuel ds (position ds n))
      go here =
          ap
          (λ (x : List CtorLayout).
          record {
            ti_erased = get_or (erasure_fixpoint ds).marks (position ds n) false;
            ti_layout = layout_of_decl ds (position ds n);
            ti_ctors = x;
            ti_record = record_of (left_at fuel ds (position ds n));
          })
          cls
      go (imported ti) = refl

  -- the declarations that a type of S names are those of the same names in the other program
  names_match : (c : Cty) → All In c → (j : ℕ) → Memᴰ j (names_in ds c) → (j' : ℕ) × Memᴰ j' (names_in ds' c) × Places S ds ds' j j'
  names_match c a j m =
      let q : Placed ds (names_of_cty c) j = (names_in_iff ds c j).0 m in
      let n : ℕ = q.name in
      let h : S n ≡ true = all_names In c a n q.named in
      let d : Declared ds n = rw q.placed q.below in
      let d' : Declared ds' n = (agree.declared n h).0 d in (
        position ds' n,
        (names_in_iff ds' c (position ds' n)).1 (record { name = n; named = q.named; placed = refl; below = d' }),
        record { name = n; member = h; declared = d; first = q.placed; second = refl },
      )

  unfold_names_match : (u : Unfold) → BodyAll In u → (j : ℕ) → Memᴰ j (type_names ds (unfolded u)) → (j' : ℕ) × Memᴰ j' (type_names ds' (unfolded u)) × Places S ds ds' j j'
  unfolding type_names unfolded
  unfold_names_match gone a j m = absurd (mathlib.Core.List.Memᴰ.not-nil m)
  unfold_names_match (newtype ps c) a j m = names_match c a j m
  unfold_names_match (abbreviation ps c) a j m = names_match c a j m
  unfold_names_match stays a j m = absurd (mathlib.Core.List.Memᴰ.not-nil m)

  -- a step of unfolding from a name of S
  unfold_match : (i i' j : ℕ) → Places S ds ds' i i' → Memᴰ j (unfold_next ds (layouts_of ds) i)
      → (j' : ℕ) × Memᴰ j' (unfold_next ds' (layouts_of ds') i') × Places S ds ds' j j'
  unfolding unfold_next steps unfold_name
  unfold_match i i' j p m =
      let k : Memᴰ j (type_names ds (unfolded (lay ds p.name))) = rw p.first m in
      let r = unfold_names_match (lay ds p.name) (lay_closed p.name p.member) j k in
      let e : get_or (unfolds ds' (layouts_of ds')) i' stays ≡ lay ds p.name = sym (lay_local p.name p.member ∙ rw p.second) in
      (r.0, rw e r.1, r.2)

  loops_local : (n : ℕ) → S n ≡ true → Declared ds n → returns ds (layouts_of ds) (position ds n) ≡ true → returns ds' (layouts_of ds') (position ds' n) ≡ true
  unfolding returns
  loops_local n h d e =
      let p : Places S ds ds' (position ds n) (position ds' n) = record { name = n; member = h; declared = d; first = refl; second = refl } in
      (cyclic_iff (unfold_next ds' (layouts_of ds')) (length ds') (position ds' n) (unfold_below ds' (layouts_of ds'))).1
      (reach_loop (unfold_next ds (layouts_of ds)) (unfold_next ds' (layouts_of ds')) (Places S ds ds') unfold_match (position ds n) (position ds' n) p
      (λ j r. places_only S ds ds' (position ds n) (position ds' n) j p r)
      ((cyclic_iff (unfold_next ds (layouts_of ds)) (length ds) (position ds n) (unfold_below ds (layouts_of ds))).0 e))

-- the same names return to themselves
pub returns_local : (S : ℕ → Bool) (ds ds' : List Decl) → Agree S ds ds' → OwnImports ds → OwnImports ds' → (n : ℕ) → S n ≡ true → Declared ds n
    → returns ds (layouts_of ds) (position ds n) ≡ returns ds' (layouts_of ds') (position ds' n)
returns_local S ds ds' agree own own' n h d =
    go (returns ds (layouts_of ds) (position ds n)) (returns ds' (layouts_of ds') (position ds' n))
    (loops_local S ds ds' agree own n h d)
    (loops_local S ds' ds (agree_sym S ds ds' agree) own' n h ((agree.declared n h).0 d))
  where
    go : (a b : Bool) → (a ≡ true → b ≡ true) → (b ≡ true → a ≡ true) → a ≡ b
    go true true f g = refl
    go true false f g = sym (f refl)
    go false true f g = g refl
    go false false f g = refl
