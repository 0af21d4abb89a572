-- Laws of the layouts: what each entry of the tables is, where the steps of the two searches lead, when
-- a declaration becomes a newtype, and what the layouts depend on. Assumes nothing.
use Rattle.std.specs.Prelude.{◌⊎◌, ◌↔◌, Bool, ◌||◌, ℕ, ◌≤◌, ◌<◌, T, ltb, get_or}
use Rattle.std.proofs.Common.{inl, inr, ⊎_elim, ◌∙◌, subst, arith, lt→ltb, ltb→lt, ltb-false}
use Rattle.std.proofs.Math.Path.{◌≡◌, refl, ap, sym}
use mathlib.Core.List.{List, [], ◌∷◌, Memᴰ}
use Rattle.std.proofs.Math.Bool.{true, false}
use Rattle.std.proofs.Math.Option.{Option, none, some}
use Rattle.std.proofs.Math.ListN.{length}
use Rattle.number_columns.specs.Column.{pick}
use Rattle.sheet.proofs.ListLaws.{false_true, same_test}
use Rattle.model.specs.Cty.{Cty, names_of_cty}
use Rattle.model.specs.Decl.{table, Field, Ctor, Body, TAbstract, TAbbrev, TRecord, TVariant, Dtype, NoNewtype, Realized, NoUnfold, has_flag, ctors_of, ctors_of_tydef, CtorLayout, NewtypeLayout, Layout, L_erased, L_newtype, L_struct, L_abbrev, L_opaque, Origin, here, imported, Decl, dtype_at, origin_at, position}
use Rattle.model.specs.Erasure.{marked}
use Rattle.model.specs.Layout.{Candidate, candidates_of, passes_of, ctor_tag, layouts_of_ctors, slots, kept, ctor_layout, ctor_layouts, newtype_of_ctor, newtype_of, candidate, candidates, positions, names_in, type_names, steps, passed, passes, guard_next, dropped, collapse, layout_of_body, layout_of, compute_layouts}
use Rattle.model.specs.Resolve.{stays, unfolded, abbreviation_of, unfold_body, unfold_dtype, unfold_of, unfolds}
use Rattle.model.specs.Run.{unfold_next}
use Rattle.model_laws.specs.Erasure.{marked_same, ctor_layouts_local}
use Rattle.model.specs.Names.{fields_names, ctors_names, body_names, dtype_names, Declared, Agree, Pin}
use Rattle.model_laws.specs.Names.{position_name, position_same, agree_sym, kept_names, declared_cases, agree_foreign, ctors_own}
use Rattle.model.specs.Reach.{Reach}
use Rattle.model_laws.specs.Reach.{reach_loop, reach_outside, cyclic_iff}
use Rattle.model_laws.specs.Lists.{get_or_table, get_or_table_past, table_cong}
use Rattle.model_laws.specs.Cty.{uninline_names}

-- ---- tests
-- ---- tables
-- ---- entries
-- what the table of candidates has at place i
abbrev pub candidate_at : List Decl → (ℕ → Bool) → List Bool → ℕ → Option NewtypeLayout
candidate_at ds er s i = candidate (dtype_at ds i) (origin_at ds i) (get_or s i false) (ctor_layouts er (dtype_at ds i))

pub get_or_candidates : (ds : List Decl) (er : ℕ → Bool) (s : List Bool) (i : ℕ) (d : Option NewtypeLayout) → i < length ds → get_or (candidates ds er s) i d ≡ candidate_at ds er s i
unfolding candidates
get_or_candidates ds er s i d h = get_or_table (candidate_at ds er s) (length ds) i d h

pub get_or_candidates_past : (ds : List Decl) (er : ℕ → Bool) (s : List Bool) (i : ℕ) (d : Option NewtypeLayout) → length ds ≤ i → get_or (candidates ds er s) i d ≡ d
unfolding candidates
get_or_candidates_past ds er s i d h = get_or_table_past (candidate_at ds er s) (length ds) i d h

-- what the table of layouts has at place i
abbrev pub layout_at : List Decl → List Bool → ℕ → Layout
layout_at ds s i =
    layout_of (dtype_at ds i) (origin_at ds i) (get_or s i false) (dropped ds (passes_of ds s) i) (get_or (candidates_of ds s) i none) (ctor_layouts (marked ds s) (dtype_at ds i))

pub get_or_layouts : (ds : List Decl) (s : List Bool) (i : ℕ) (d : Layout) → i < length ds → get_or (compute_layouts ds s) i d ≡ layout_at ds s i
unfolding compute_layouts
get_or_layouts ds s i d h = get_or_table (layout_at ds s) (length ds) i d h

pub get_or_layouts_past : (ds : List Decl) (s : List Bool) (i : ℕ) (d : Layout) → length ds ≤ i → get_or (compute_layouts ds s) i d ≡ d
unfolding compute_layouts
get_or_layouts_past ds s i d h = get_or_table_past (layout_at ds s) (length ds) i d h

-- ---- places of names
-- j is the place of one of these names
pub record Placed (ds : List Decl) (ns : List ℕ) (j : ℕ) : Type 0 where
  pub name : ℕ
  pub named : Memᴰ name ns
  pub placed : position ds name ≡ j
  pub below : j < length ds

pub positions_placed : (ds : List Decl) (ns : List ℕ) (j : ℕ) → Memᴰ j (positions ds ns) → Placed ds ns j
unfolding positions
positions_placed ds [] j m = absurd (mathlib.Core.List.Memᴰ.not-nil m)
positions_placed ds (n ∷ ns) j m = by (positions_placed ds ns j) (ltb (position ds n) (length ds)) refl m
  where
    later : Placed ds ns j → Placed ds (n ∷ ns) j
    later p = record { name = p.name; named = mathlib.Core.List.Memᴰ.tail p.named; placed = p.placed; below = p.below }

    by : (Memᴰ j (positions ds ns) → Placed ds ns j)
        → (b : Bool)
        → ltb (position ds n) (length ds) ≡ b
        → Memᴰ j (pick b (position ds n ∷ positions ds ns) (positions ds ns))
        → Placed ds (n ∷ ns) j
    by ih true e z =
        ⊎_elim
        (λ (u : j ≡ position ds n). record { name = n; named = mathlib.Core.List.Memᴰ.head refl; placed = sym u; below = rw u (ltb→lt (position ds n) (length ds) (rw e tt)) })
        (λ u. later (ih u))
        (mathlib.Core.List.Memᴰ.cases_cons z)
    by ih false e z = later (ih z)

pub positions_of : (ds : List Decl) (ns : List ℕ) (n : ℕ) → Memᴰ n ns → Declared ds n → Memᴰ (position ds n) (positions ds ns)
unfolding positions
positions_of ds [] n m h = absurd (mathlib.Core.List.Memᴰ.not-nil m)
positions_of ds (k ∷ ns) n m h = by (positions_of ds ns n) (ltb (position ds k) (length ds)) refl (mathlib.Core.List.Memᴰ.cases_cons m)
  where
    by : (Memᴰ n ns → Declared ds n → Memᴰ (position ds n) (positions ds ns))
        → (b : Bool)
        → ltb (position ds k) (length ds) ≡ b
        → (n ≡ k) ⊎ Memᴰ n ns
        → Memᴰ (position ds n) (pick b (position ds k ∷ positions ds ns) (positions ds ns))
    by ih true e (inl u) = mathlib.Core.List.Memᴰ.head (ap (position ds) u)
    by ih true e (inr u) = mathlib.Core.List.Memᴰ.tail (ih u h)
    by ih false e (inl u) = let t : T (ltb (position ds k) (length ds)) = lt→ltb (position ds k) (length ds) (rw u at h) in absurd (rw e at t)
    by ih false e (inr u) = ih u h

-- the same types in the same places: names are declared in the same places
pub positions_same : (ds ds' : List Decl) → length ds ≡ length ds' → ((i : ℕ) → i < length ds → dtype_at ds i ≡ dtype_at ds' i) → (ns : List ℕ) → positions ds ns ≡ positions ds' ns
unfolding positions
positions_same ds ds' e f [] = refl
positions_same ds ds' e f (n ∷ ns) = rw (position_same ds ds' n e f, positions_same ds ds' e f ns, e)

-- The places that a type names: those of the declared names in it.
pub names_in_iff : (ds : List Decl) (c : Cty) (j : ℕ) → Memᴰ j (names_in ds c) ↔ Placed ds (names_of_cty c) j
names_in_iff ds c j =
    (positions_placed ds (names_of_cty c) j, λ p. rw p.placed at (positions_of ds (names_of_cty c) p.name p.named (rw p.placed p.below)))

pub names_in_below : (ds : List Decl) (c : Cty) (j : ℕ) → Memᴰ j (names_in ds c) → j < length ds
names_in_below ds c j m = (positions_placed ds (names_of_cty c) j m).below

pub type_names_below : (ds : List Decl) (o : Option Cty) (j : ℕ) → Memᴰ j (type_names ds o) → j < length ds
unfolding type_names
type_names_below ds none j m = absurd (mathlib.Core.List.Memᴰ.not-nil m)
type_names_below ds (some c) j m = names_in_below ds c j m

-- the steps of the guard stay among the declarations
pub guard_below : (ds : List Decl) (through : List (Option Cty)) (a b : ℕ) → Memᴰ b (guard_next ds through a) → b < length ds
unfolding guard_next steps
guard_below ds through a b m = type_names_below ds (get_or through a none) b m

-- and so do the steps of unfolding
pub unfold_below : (ds : List Decl) (ls : List Layout) (a b : ℕ) → Memᴰ b (unfold_next ds ls a) → b < length ds
unfolding unfold_next steps
unfold_below ds ls a b m = type_names_below ds (unfolded (get_or (unfolds ds ls) a stays)) b m

-- ---- the guard
-- a step of the guard: it goes on through a type of a, and b is the place of a name in it
pub record Step (ds : List Decl) (through : List (Option Cty)) (a b : ℕ) : Type 0 where
  pub type : Cty
  pub passes : get_or through a none ≡ some type
  pub place : Placed ds (names_of_cty type) b

pub guard_step : (ds : List Decl) (through : List (Option Cty)) (a b : ℕ) → Memᴰ b (guard_next ds through a) → Step ds through a b
unfolding guard_next steps type_names
guard_step ds through a b m = by (get_or through a none) refl m
  where
    by : (o : Option Cty) → get_or through a none ≡ o → Memᴰ b (type_names ds o) → Step ds through a b
    by none e z = absurd (mathlib.Core.List.Memᴰ.not-nil z)
    by (some c) e z = record { type = c; passes = e; place = (names_in_iff ds c b).0 z }

pub step_guard : (ds : List Decl) (through : List (Option Cty)) (a b : ℕ) → Step ds through a b → Memᴰ b (guard_next ds through a)
unfolding guard_next steps type_names
step_guard ds through a b p = rw p.passes ((names_in_iff ds p.type b).1 p.place)

-- The guard drops what reaches itself.
pub dropped_iff : (ds : List Decl) (through : List (Option Cty)) (i : ℕ) → (dropped ds through i ≡ true) ↔ Reach (guard_next ds through) i i
unfolding dropped
dropped_iff ds through i = cyclic_iff (guard_next ds through) (length ds) i (guard_below ds through)

pub not_dropped : (ds : List Decl) (through : List (Option Cty)) (i : ℕ) → (dropped ds through i ≡ false) ↔ (Reach (guard_next ds through) i i → ⊥)
not_dropped ds through i =
    (λ e r. false_true (sym e ∙ (dropped_iff ds through i).1 r), λ n. by n (dropped ds through i) refl)
  where
    by : (Reach (guard_next ds through) i i → ⊥) → (b : Bool) → dropped ds through i ≡ b → b ≡ false
    by n true e = absurd (n ((dropped_iff ds through i).0 e))
    by n false e = refl

-- ---- candidates
module _ (er : ℕ → Bool) (d : Dtype) (e : Bool) (nt : NewtypeLayout) where
  newtype_is : e ≡ false → has_flag d NoNewtype ≡ false → newtype_of (ctor_layouts er d) ≡ some nt → Candidate er d e nt
  unfolding table ctor_layouts ctor_layout newtype_of newtype_of_ctor
  newtype_is p q h = by (ctors_of_tydef d) refl h
    where
      on : (c : Ctor) → ctors_of_tydef d ≡ c ∷ [] → (fs : List Field) → kept (slots er c.ct_fields) c.ct_fields ≡ fs
          → newtype_of_ctor c.ct_name (slots er c.ct_fields) fs ≡ some nt → Candidate er d e nt
      on c u [] v z = let y : ◌≡◌ {A = ℕ} 0 1 = cc in absurd (omega arith)
      on c u (f ∷ []) v z =
          record { ctor = c; field = f; not_erased = p; allowed = q; one_ctor = u; one_kept = v; made = cc }
      on c u (f ∷ g ∷ fs) v z = let y : ◌≡◌ {A = ℕ} 0 1 = cc in absurd (omega arith)

      by : (cs : List Ctor) → ctors_of_tydef d ≡ cs → newtype_of (layouts_of_ctors er (ctor_tag (length cs)) cs) ≡ some nt → Candidate er d e nt
      by [] u z = let y : ◌≡◌ {A = ℕ} 0 1 = cc in absurd (omega arith)
      by (c ∷ []) u z = on c u (kept (slots er c.ct_fields) c.ct_fields) refl z
      by (c ∷ c₁ ∷ cs) u z = let y : ◌≡◌ {A = ℕ} 0 1 = cc in absurd (omega arith)

  pub candidate_iff : (candidate d here e (ctor_layouts er d) ≡ some nt) ↔ Candidate er d e nt
  unfolding table candidate ctor_layouts ctor_layout newtype_of newtype_of_ctor
  candidate_iff = (λ h. by e (has_flag d NoNewtype) refl refl h, λ k. rw (k.not_erased, k.allowed, k.one_ctor, k.one_kept, k.made))
    where
      by : (x y : Bool) → e ≡ x → has_flag d NoNewtype ≡ y → pick (x || y) none (newtype_of (ctor_layouts er d)) ≡ some nt → Candidate er d e nt
      by true y p q z = let o : ◌≡◌ {A = ℕ} 0 1 = cc in absurd (omega arith)
      by false true p q z = let o : ◌≡◌ {A = ℕ} 0 1 = cc in absurd (omega arith)
      by false false p q z = newtype_is p q z

-- ---- newtypes
collapse_newtype : (drop : Bool) (o : Option NewtypeLayout) (cls : List CtorLayout) (nt : NewtypeLayout) → collapse drop o cls ≡ L_newtype nt → (o ≡ some nt) × (drop ≡ false)
unfolding collapse
collapse_newtype true o cls nt h = let y : ◌≡◌ {A = ℕ} 0 1 = cc in absurd (omega arith)
collapse_newtype false none cls nt h = let y : ◌≡◌ {A = ℕ} 0 1 = cc in absurd (omega arith)
collapse_newtype false (some n) cls nt h = (cc, refl)

body_newtype : (b : Body) (drop : Bool) (o : Option NewtypeLayout) (cls : List CtorLayout) (nt : NewtypeLayout) → layout_of_body b drop o cls ≡ L_newtype nt → (o ≡ some nt) × (drop ≡ false)
unfolding layout_of_body
body_newtype TAbstract drop o cls nt h = let y : ◌≡◌ {A = ℕ} 0 1 = cc in absurd (omega arith)
body_newtype (TAbbrev c) drop o cls nt h = let y : ◌≡◌ {A = ℕ} 0 1 = cc in absurd (omega arith)
body_newtype (TRecord fs) drop o cls nt h = collapse_newtype drop o cls nt h
body_newtype (TVariant cs) drop o cls nt h = collapse_newtype drop o cls nt h

newtype_body : (n : ℕ) (b : Body) (c : Ctor) (nt : NewtypeLayout) (cls : List CtorLayout) → ctors_of n b ≡ c ∷ [] → layout_of_body b false (some nt) cls ≡ L_newtype nt
unfolding ctors_of layout_of_body collapse
newtype_body n TAbstract c nt cls h = let y : ◌≡◌ {A = ℕ} 0 1 = cc in absurd (omega arith)
newtype_body n (TAbbrev t) c nt cls h = let y : ◌≡◌ {A = ℕ} 0 1 = cc in absurd (omega arith)
newtype_body n (TRecord fs) c nt cls h = refl
newtype_body n (TVariant cs) c nt cls h = refl

-- a declaration's layout is a newtype where it is a candidate and not dropped
pub layout_newtype : (er : ℕ → Bool) (d : Dtype) (e drop : Bool) (nt : NewtypeLayout)
    → (layout_of d here e drop (candidate d here e (ctor_layouts er d)) (ctor_layouts er d) ≡ L_newtype nt) ↔ (Candidate er d e nt × (drop ≡ false))
unfolding layout_of
layout_newtype er d e drop nt = (by e refl, back)
  where
    by : (x : Bool) → e ≡ x → layout_of d here x drop (candidate d here e (ctor_layouts er d)) (ctor_layouts er d) ≡ L_newtype nt → Candidate er d e nt × (drop ≡ false)
    by true u h = let y : ◌≡◌ {A = ℕ} 0 1 = cc in absurd (omega arith)
    by false u h = let k = body_newtype d.dt_body drop (candidate d here e (ctor_layouts er d)) (ctor_layouts er d) nt h in ((candidate_iff er d e nt).0 k.0, k.1)

    back : Candidate er d e nt × (drop ≡ false) → layout_of d here e drop (candidate d here e (ctor_layouts er d)) (ctor_layouts er d) ≡ L_newtype nt
    back k =
        rw ((candidate_iff er d e nt).1 k.0, k.0.not_erased, k.1) (newtype_body d.dt_name d.dt_body k.0.ctor nt (ctor_layouts er d) k.0.one_ctor)

-- A local declaration becomes a newtype exactly where it is a candidate and does not reach itself
-- through the payloads of candidates and the bodies of unfolded abbreviations.
pub collapsed : (ds : List Decl) (s : List Bool) (i : ℕ)
    → i < length ds
    → origin_at ds i ≡ here
    → (nt : NewtypeLayout)
    → (get_or (compute_layouts ds s) i L_opaque ≡ L_newtype nt) ↔ (Candidate (marked ds s) (dtype_at ds i) (get_or s i false) nt × (Reach (guard_next ds (passes_of ds s)) i i → ⊥))
collapsed ds s i h o nt =
    let d : Dtype = dtype_at ds i in
    let e : Bool = get_or s i false in
    let k = layout_newtype (marked ds s) d e (dropped ds (passes_of ds s) i) nt in
    let q : get_or (compute_layouts ds s) i L_opaque ≡ layout_of d here e (dropped ds (passes_of ds s) i) (candidate d here e (ctor_layouts (marked ds s) d)) (ctor_layouts (marked ds s) d) =
    get_or_layouts ds s i L_opaque h ∙ rw (o, get_or_candidates ds (marked ds s) s i none h, o) in
    (λ z. let r = k.0 (sym q ∙ z) in (r.0, (not_dropped ds (passes_of ds s) i).0 r.1), λ z. q ∙ k.1 (z.0, (not_dropped ds (passes_of ds s) i).1 z.1))

-- ---- names of a payload
-- A candidate's payload names nothing that its declaration does not.
pub payload_named : (er : ℕ → Bool) (d : Dtype) (e : Bool) (nt : NewtypeLayout) → Candidate er d e nt → (n : ℕ) → Memᴰ n (names_of_cty nt.nt_ty) → Memᴰ n (dtype_names d)
unfolding dtype_names fields_names ctors_names
payload_named er d e nt k n m =
    let q : Memᴰ n (names_of_cty k.field.fd_type) = rw (k.made, uninline_names) at m in
    let r : Memᴰ n (fields_names (kept (slots er k.ctor.ct_fields) k.ctor.ct_fields)) = rw k.one_kept (mathlib.Core.List.Memᴰ.append_left [] q) in
    ctors_own d.dt_name d.dt_body n (rw k.one_ctor (mathlib.Core.List.Memᴰ.append_left [] (kept_names (slots er k.ctor.ct_fields) k.ctor.ct_fields n r)))

-- an entry of the table of candidates is a local declaration that is one
pub record CandidateAt (ds : List Decl) (er : ℕ → Bool) (s : List Bool) (i : ℕ) (nt : NewtypeLayout) : Type 0 where
  pub below : i < length ds
  pub local : origin_at ds i ≡ here
  pub candidate : Candidate er (dtype_at ds i) (get_or s i false) nt

pub candidate_entry : (ds : List Decl) (er : ℕ → Bool) (s : List Bool) (i : ℕ) (nt : NewtypeLayout) → get_or (candidates ds er s) i none ≡ some nt → CandidateAt ds er s i nt
unfolding candidate
candidate_entry ds er s i nt e = by (ltb i (length ds)) refl
  where
    on : i < length ds → (o : Origin) → origin_at ds i ≡ o → candidate (dtype_at ds i) o (get_or s i false) (ctor_layouts er (dtype_at ds i)) ≡ some nt → CandidateAt ds er s i nt
    on h here u z = record { below = h; local = u; candidate = (candidate_iff er (dtype_at ds i) (get_or s i false) nt).0 z }
    on h (imported ti) u z = let y : ◌≡◌ {A = ℕ} 0 1 = cc in absurd (omega arith)

    by : (b : Bool) → ltb i (length ds) ≡ b → CandidateAt ds er s i nt
    by true u = let h : i < length ds = ltb→lt i (length ds) (rw u tt) in on h (origin_at ds i) refl (sym (get_or_candidates ds er s i none h) ∙ e)
    by false u =
        let z : get_or (candidates ds er s) i none ≡ none = get_or_candidates_past ds er s i none (ltb-false i (length ds) u) in
        let y : ◌≡◌ {A = ℕ} 0 1 = cc in
        absurd (omega arith)

-- ---- what is gone on through
-- an unfolded abbreviation stands for its body
dtype_abbreviation : (d : Dtype) (c : Cty) → abbreviation_of (unfold_dtype d) ≡ some c → d.dt_body ≡ TAbbrev c
unfolding unfold_dtype unfold_body abbreviation_of
dtype_abbreviation d c e = go (has_flag d Realized || has_flag d NoUnfold) d.dt_body refl e
  where
    go : (x : Bool) (b : Body) → d.dt_body ≡ b → abbreviation_of (pick x stays (unfold_body d.dt_params b)) ≡ some c → d.dt_body ≡ TAbbrev c
    go true b q z = let y : ◌≡◌ {A = ℕ} 0 1 = cc in absurd (omega arith)
    go false TAbstract q z = let y : ◌≡◌ {A = ℕ} 0 1 = cc in absurd (omega arith)
    go false (TAbbrev t) q z = let y : t ≡ c = cc in q ∙ ap TAbbrev y
    go false (TRecord fs) q z = let y : ◌≡◌ {A = ℕ} 0 1 = cc in absurd (omega arith)
    go false (TVariant cs) q z = let y : ◌≡◌ {A = ℕ} 0 1 = cc in absurd (omega arith)

pub abbreviation_body : (d : Dtype) (l : Layout) (c : Cty) → abbreviation_of (unfold_of d l) ≡ some c → d.dt_body ≡ TAbbrev c
unfolding unfold_of abbreviation_of
abbreviation_body d L_erased c e = let y : ◌≡◌ {A = ℕ} 0 1 = cc in absurd (omega arith)
abbreviation_body d (L_newtype nt) c e = let y : ◌≡◌ {A = ℕ} 0 1 = cc in absurd (omega arith)
abbreviation_body d (L_struct cls) c e = dtype_abbreviation d c e
abbreviation_body d (L_abbrev t) c e = dtype_abbreviation d c e
abbreviation_body d L_opaque c e = dtype_abbreviation d c e

-- what the table has at place i
abbrev pub passed_at : List Decl → List Bool → ℕ → Option Cty
passed_at ds s i = passed (dtype_at ds i) (origin_at ds i) (get_or s i false) (get_or (candidates_of ds s) i none)

pub get_or_passes : (ds : List Decl) (s : List Bool) (i : ℕ) (d : Option Cty) → i < length ds → get_or (passes_of ds s) i d ≡ passed_at ds s i
unfolding passes
get_or_passes ds s i d h = get_or_table (passed_at ds s) (length ds) i d h

pub get_or_passes_past : (ds : List Decl) (s : List Bool) (i : ℕ) (d : Option Cty) → length ds ≤ i → get_or (passes_of ds s) i d ≡ d
unfolding passes
get_or_passes_past ds s i d h = get_or_table_past (passed_at ds s) (length ds) i d h

-- an entry of it stands among the declarations, and its declaration names what it names
pub record PassedAt (ds : List Decl) (i : ℕ) (c : Cty) : Type 0 where
  pub below : i < length ds
  pub named : (n : ℕ) → Memᴰ n (names_of_cty c) → Memᴰ n (dtype_names (dtype_at ds i))

pub passes_entry : (ds : List Decl) (s : List Bool) (i : ℕ) (c : Cty) → get_or (passes_of ds s) i none ≡ some c → PassedAt ds i c
unfolding passed dtype_names body_names
passes_entry ds s i c e = by (ltb i (length ds)) refl
  where
    on : i < length ds → (o : Option NewtypeLayout) → get_or (candidates_of ds s) i none ≡ o → passed (dtype_at ds i) (origin_at ds i) (get_or s i false) o ≡ some c → PassedAt ds i c
    on h none u z = record { below = h; named = λ n m. subst (λ (b : Body). Memᴰ n (body_names b)) (sym (abbreviation_body (dtype_at ds i) _ c z)) m }
    on h (some nt) u z =
        let q : nt.nt_ty ≡ c = cc in
        let k : CandidateAt ds (marked ds s) s i nt = candidate_entry ds (marked ds s) s i nt u in
        record { below = h; named = λ n m. payload_named (marked ds s) (dtype_at ds i) (get_or s i false) nt k.candidate n (rw q m) }

    by : (b : Bool) → ltb i (length ds) ≡ b → PassedAt ds i c
    by true u = let h : i < length ds = ltb→lt i (length ds) (rw u tt) in on h (get_or (candidates_of ds s) i none) refl (sym (get_or_passes ds s i none h) ∙ e)
    by false u =
        let z : get_or (passes_of ds s) i none ≡ none = get_or_passes_past ds s i none (ltb-false i (length ds) u) in
        let y : ◌≡◌ {A = ℕ} 0 1 = cc in
        absurd (omega arith)

-- A step of the guard leads from a declaration to the place of a name in it.
pub guard_named : (ds : List Decl) (s : List Bool) (a b : ℕ) → Memᴰ b (guard_next ds (passes_of ds s) a) → Placed ds (dtype_names (dtype_at ds a)) b
guard_named ds s a b m =
    let p : Step ds (passes_of ds s) a b = guard_step ds (passes_of ds s) a b m in
    record {
      name = p.place.name;
      named = (passes_entry ds s a p.type p.passes).named p.place.name p.place.named;
      placed = p.place.placed;
      below = p.place.below;
    }

-- and starts among the declarations
pub guard_from : (ds : List Decl) (s : List Bool) (a b : ℕ) → Memᴰ b (guard_next ds (passes_of ds s) a) → a < length ds
guard_from ds s a b m =
    let p : Step ds (passes_of ds s) a b = guard_step ds (passes_of ds s) a b m in
    (passes_entry ds s a p.type p.passes).below

-- ---- programs that agree
-- i and j are the places of one name of S in the two programs
pub record Places (S : ℕ → Bool) (ds ds' : List Decl) (i j : ℕ) : Type 0 where
  pub name : ℕ
  pub member : S name ≡ true
  pub declared : Declared ds name
  pub first : position ds name ≡ i
  pub second : position ds' name ≡ j

-- there is one such place j for i
pub places_only : (S : ℕ → Bool) (ds ds' : List Decl) (i j k : ℕ) → Places S ds ds' i j → Places S ds ds' i k → k ≡ j
places_only S ds ds' i j k p q =
    let e : q.name ≡ p.name =
    sym (position_name ds q.name q.declared) ∙ rw (q.first, ← p.first) (position_name ds p.name p.declared) in
    sym q.second ∙ rw e p.second

-- Two programs that agree on S, with marks that agree on S.
pub record Alike (S : ℕ → Bool) (ds ds' : List Decl) (s s' : List Bool) : Type 0 where
  pub agree : Agree S ds ds'
  pub marks : (n : ℕ) → S n ≡ true → marked ds s n ≡ marked ds' s' n

pub alike_sym : (S : ℕ → Bool) (ds ds' : List Decl) (s s' : List Bool) → Alike S ds ds' s s' → Alike S ds' ds s' s
alike_sym S ds ds' s s' a = record { agree = agree_sym S ds ds' a.agree; marks = λ n h. sym (a.marks n h) }

module _ (S : ℕ → Bool) (ds ds' : List Decl) (s s' : List Bool) (a : Alike S ds ds' s s') where
  pub mark_same : (n : ℕ) → S n ≡ true → get_or s (position ds n) false ≡ get_or s' (position ds' n) false
  unfolding marked
  mark_same n h = a.marks n h

  -- the same constructor layouts,
  pub ctor_layouts_same : (n : ℕ) → S n ≡ true → Declared ds n
      → ctor_layouts (marked ds s) (dtype_at ds (position ds n)) ≡ ctor_layouts (marked ds' s') (dtype_at ds' (position ds' n))
  ctor_layouts_same n h d =
      ctor_layouts_local (marked ds s) (marked ds' s') (dtype_at ds (position ds n)) (λ m k. a.marks m (a.agree.closed n h d m k)) ∙ rw (a.agree.same_dtype n h d)

  candidate_cong : (n : ℕ) → S n ≡ true → Declared ds n → candidate_at ds (marked ds s) s (position ds n) ≡ candidate_at ds' (marked ds' s') s' (position ds' n)
  candidate_cong n h d = rw (ctor_layouts_same n h d, a.agree.same_dtype n h d, a.agree.same_origin n h d, mark_same n h)

  -- the same candidates,
  pub candidate_same : (n : ℕ) → S n ≡ true → Declared ds n
      → get_or (candidates_of ds s) (position ds n) none ≡ get_or (candidates_of ds' s') (position ds' n) none
  candidate_same n h d =
      get_or_candidates ds (marked ds s) s (position ds n) none d
      ∙ candidate_cong n h d
      ∙ sym (get_or_candidates ds' (marked ds' s') s' (position ds' n) none ((a.agree.declared n h).0 d))

  -- the same types gone on through,
  pub passes_same : (n : ℕ) → S n ≡ true → Declared ds n → get_or (passes_of ds s) (position ds n) none ≡ get_or (passes_of ds' s') (position ds' n) none
  passes_same n h d = get_or_passes ds s (position ds n) none d ∙ inner ∙ sym (get_or_passes ds' s' (position ds' n) none ((a.agree.declared n h).0 d))
    where
      inner : passed_at ds s (position ds n) ≡ passed_at ds' s' (position ds' n)
      inner = rw (candidate_same n h d, a.agree.same_dtype n h d, a.agree.same_origin n h d, mark_same n h)

  guard_match : (i i' j : ℕ) → Places S ds ds' i i' → Memᴰ j (guard_next ds (passes_of ds s) i) → (j' : ℕ) × Memᴰ j' (guard_next ds' (passes_of ds' s') i') × Places S ds ds' j j'
  guard_match i i' j p m =
      let q : Step ds (passes_of ds s) i j = guard_step ds (passes_of ds s) i j m in
      let n : ℕ = q.place.name in
      let named : Memᴰ n (dtype_names (dtype_at ds i)) = (passes_entry ds s i q.type q.passes).named n q.place.named in
      let inside : S n ≡ true = a.agree.closed p.name p.member p.declared n (rw p.first named) in
      let decl : Declared ds n = rw q.place.placed q.place.below in
      let decl' : Declared ds' n = (a.agree.declared n inside).0 decl in
      let same : get_or (passes_of ds' s') i' none ≡ some q.type =
      rw (← p.second) (sym (passes_same p.name p.member p.declared) ∙ rw p.first q.passes) in
      let step : Step ds' (passes_of ds' s') i' (position ds' n) =
      record { type = q.type; passes = same; place = record { name = n; named = q.place.named; placed = refl; below = decl' } } in
      (position ds' n, step_guard ds' (passes_of ds' s') i' (position ds' n) step, record { name = n; member = inside; declared = decl; first = q.place.placed; second = refl })

  loop_same : (n : ℕ) → S n ≡ true → Declared ds n → dropped ds (passes_of ds s) (position ds n) ≡ true → dropped ds' (passes_of ds' s') (position ds' n) ≡ true
  loop_same n h d e =
      let p : Places S ds ds' (position ds n) (position ds' n) = record { name = n; member = h; declared = d; first = refl; second = refl } in
      (dropped_iff ds' (passes_of ds' s') (position ds' n)).1
      (reach_loop (guard_next ds (passes_of ds s)) (guard_next ds' (passes_of ds' s')) (Places S ds ds') guard_match (position ds n) (position ds' n) p (λ j r. places_only S ds ds' (position ds n) (position ds' n) j p r) ((dropped_iff ds (passes_of ds s) (position ds n)).0 e))

-- the same candidates dropped,
pub dropped_same : (S : ℕ → Bool) (ds ds' : List Decl) (s s' : List Bool)
    → Alike S ds ds' s s'
    → (n : ℕ)
    → S n ≡ true
    → Declared ds n
    → dropped ds (passes_of ds s) (position ds n) ≡ dropped ds' (passes_of ds' s') (position ds' n)
dropped_same S ds ds' s s' a n h d =
    same_test
    (dropped ds (passes_of ds s) (position ds n))
    (dropped ds' (passes_of ds' s') (position ds' n))
    (loop_same S ds ds' s s' a n h d)
    (loop_same S ds' ds s' s (alike_sym S ds ds' s s' a) n h ((a.agree.declared n h).0 d))

-- and the same layouts: where two programs agree on a closed set of names, and their marks agree there,
-- they give a name of the set the same layout.
pub layout_same : (S : ℕ → Bool) (ds ds' : List Decl) (s s' : List Bool)
    → Alike S ds ds' s s'
    → (n : ℕ)
    → S n ≡ true
    → (l : Layout)
    → get_or (compute_layouts ds s) (position ds n) l ≡ get_or (compute_layouts ds' s') (position ds' n) l
layout_same S ds ds' s s' a n h l =
    ⊎_elim
    (λ d. get_or_layouts ds s (position ds n) l d ∙ inner d ∙ sym (get_or_layouts ds' s' (position ds' n) l ((a.agree.declared n h).0 d)))
    (λ e. get_or_layouts_past ds s (position ds n) l (omega arith) ∙ sym (get_or_layouts_past ds' s' (position ds' n) l (omega (arith, agree_foreign S ds ds' a.agree n h e))))
    (declared_cases ds n)
  where
    inner : Declared ds n → layout_at ds s (position ds n) ≡ layout_at ds' s' (position ds' n)
    inner d =
        rw (ctor_layouts_same S ds ds' s s' a n h d, candidate_same S ds ds' s s' a n h d, dropped_same S ds ds' s s' a n h d, a.agree.same_dtype n h d, a.agree.same_origin n h d, mark_same S ds ds' s s' a n h)

-- ---- programs with pinned declarations
-- ds' is ds with the declarations at the places of B pinned to layouts that ds itself gives them, where
-- a declaration at a place of B names only places of B.
pub record PinnedLayouts (B : ℕ → Bool) (ds ds' : List Decl) (s : List Bool) : Type 0 where
  pub same_length : length ds ≡ length ds'
  pub same_dtypes : (i : ℕ) → i < length ds → dtype_at ds i ≡ dtype_at ds' i
  pub others : (i : ℕ) → i < length ds → B i ≡ false → origin_at ds i ≡ origin_at ds' i
  pub pins : (i : ℕ) → i < length ds → B i ≡ true → Pin (λ ti. ti.ti_layout ≡ get_or (compute_layouts ds s) i L_opaque) ds' i
  pub closed : (i j : ℕ) → i < length ds → B i ≡ true → Placed ds (dtype_names (dtype_at ds i)) j → B j ≡ true

module _ (B : ℕ → Bool) (ds ds' : List Decl) (s : List Bool) (p : PinnedLayouts B ds ds' s) where
  ctor_layouts_pinned : (i : ℕ) → i < length ds → ctor_layouts (marked ds s) (dtype_at ds i) ≡ ctor_layouts (marked ds' s) (dtype_at ds' i)
  ctor_layouts_pinned i h = ctor_layouts_local (marked ds s) (marked ds' s) (dtype_at ds i) (λ n m. marked_same ds ds' p.same_length p.same_dtypes s n) ∙ rw (p.same_dtypes i h)

  -- a place outside B has the same candidate,
  candidate_other : (i : ℕ) → i < length ds → B i ≡ false → get_or (candidates_of ds s) i none ≡ get_or (candidates_of ds' s) i none
  candidate_other i h b =
      get_or_candidates ds (marked ds s) s i none h ∙ inner ∙ sym (get_or_candidates ds' (marked ds' s) s i none (rw p.same_length at h))
    where
      inner : candidate_at ds (marked ds s) s i ≡ candidate_at ds' (marked ds' s) s i
      inner = rw (ctor_layouts_pinned i h, p.same_dtypes i h, p.others i h b)

  -- so the guard goes on through the same type there,
  passes_other : (i : ℕ) → i < length ds → B i ≡ false → get_or (passes_of ds s) i none ≡ get_or (passes_of ds' s) i none
  passes_other i h b = get_or_passes ds s i none h ∙ inner ∙ sym (get_or_passes ds' s i none (rw p.same_length at h))
    where
      inner : passed_at ds s i ≡ passed_at ds' s i
      inner = rw (candidate_other i h b, p.same_dtypes i h, p.others i h b)

  steps_other : (a : ℕ) → a < length ds → B a ≡ false → guard_next ds (passes_of ds s) a ≡ guard_next ds' (passes_of ds' s) a
  unfolding guard_next steps type_names
  steps_other a h e = ap (type_names ds) (passes_other a h e) ∙ by (get_or (passes_of ds' s) a none)
    where
      by : (o : Option Cty) → type_names ds o ≡ type_names ds' o
      by none = refl
      by (some c) = positions_same ds ds' p.same_length p.same_dtypes (names_of_cty c)

  -- and in neither program it leaves B;
  step_inside : (a b : ℕ) → B a ≡ true → Memᴰ b (guard_next ds (passes_of ds s) a) → B b ≡ true
  step_inside a b e m = p.closed a b (guard_from ds s a b m) e (guard_named ds s a b m)

  step_inside' : (a b : ℕ) → B a ≡ true → Memᴰ b (guard_next ds' (passes_of ds' s) a) → B b ≡ true
  step_inside' a b e m =
      let h : a < length ds = rw p.same_length (guard_from ds' s a b m) in
      let q : Placed ds' (dtype_names (dtype_at ds' a)) b = guard_named ds' s a b m in
      p.closed a b h e
      (record {
        name = q.name;
        named = rw (p.same_dtypes a h) q.named;
        placed = position_same ds ds' q.name p.same_length p.same_dtypes ∙ q.placed;
        below = rw p.same_length q.below;
      })

  -- so a walk that ends outside B never was in it, and is one in the other program
  walk_to : {a c : ℕ} → B c ≡ false → Reach (guard_next ds (passes_of ds s)) a c → Reach (guard_next ds' (passes_of ds' s)) a c
  walk_to e r = reach_outside (guard_next ds (passes_of ds s)) (guard_next ds' (passes_of ds' s)) B step_inside (λ a b z m. rw (← (steps_other a (guard_from ds s a b m) z)) m) e r

  walk_from : {a c : ℕ} → B c ≡ false → Reach (guard_next ds' (passes_of ds' s)) a c → Reach (guard_next ds (passes_of ds s)) a c
  walk_from e r =
      reach_outside (guard_next ds' (passes_of ds' s)) (guard_next ds (passes_of ds s)) B step_inside'
      (λ a b z m. let h : a < length ds = rw p.same_length (guard_from ds' s a b m) in rw (steps_other a h z) m)
      e
      r

  dropped_other : (i : ℕ) → B i ≡ false → dropped ds (passes_of ds s) i ≡ dropped ds' (passes_of ds' s) i
  dropped_other i e =
      same_test
      (dropped ds (passes_of ds s) i)
      (dropped ds' (passes_of ds' s) i)
      (λ z. (dropped_iff ds' (passes_of ds' s) i).1 (walk_to e ((dropped_iff ds (passes_of ds s) i).0 z)))
      (λ z. (dropped_iff ds (passes_of ds s) i).1 (walk_from e ((dropped_iff ds' (passes_of ds' s) i).0 z)))

  layout_pinned : (i : ℕ) → i < length ds → layout_at ds s i ≡ layout_at ds' s i
  unfolding layout_of
  layout_pinned i h = by (B i) refl
    where
      by : (x : Bool) → B i ≡ x → layout_at ds s i ≡ layout_at ds' s i
      by true e = sym (get_or_layouts ds s i L_opaque h) ∙ sym (p.pins i h e).holds ∙ rw (p.pins i h e).pinned
      by false e = rw (ctor_layouts_pinned i h, candidate_other i h e, dropped_other i e, p.same_dtypes i h, p.others i h e)

  -- Pinning a closed part of a program to the layouts that the program gives it changes no layout.
  pub pinned_layouts : compute_layouts ds s ≡ compute_layouts ds' s
  unfolding compute_layouts
  pinned_layouts = rw (← p.same_length) (table_cong (layout_at ds s) (layout_at ds' s) (length ds) layout_pinned)
