-- The guard beside the source's: what it drops more, which loops of unfolded names are left, and that
-- nothing changes where no abbreviation is unfolded. Any declarations, any marks. Assumes nothing.
use Rattle.std.specs.Prelude.{◌⊎◌, Bool, ◌||◌, ltb}
use Rattle.std.proofs.Math.Logic.{inl, inr, ⊎_elim}
use Rattle.std.proofs.Math.Path.{◌≡◌, refl, ap, sym}
use Rattle.std.proofs.Common.{◌∙◌, ltb-true, ltb-false}
use mathlib.Core.List.Memᴰ
use mathlib.Core.List.{List, [], ◌∷◌, Memᴰ}
use Rattle.std.proofs.Math.Bool.{true, false}
use Rattle.std.proofs.Math.Option.{Option, none, some}
use Prim.Native.Nat.{ℕ, ◌<◌}
use native.Mathlib.Omega.{arith}
use Rattle.std.proofs.Math.ListN.{length, get_or, get_or-map}
use Rattle.number_columns.specs.Column.{pick}
use Rattle.model.specs.Cty.{Cty}
use Rattle.model.specs.Decl.{Ctor, Body, TAbstract, TAbbrev, TRecord, TVariant, Dtype, Realized, NoUnfold, has_flag, ctors_of, CtorLayout, NewtypeLayout, Layout, L_erased, L_newtype, L_struct, L_abbrev, L_opaque, Origin, here, imported, Decl, dtype_at, origin_at}
use Rattle.model.specs.Erasure.{marked}
use Rattle.model.specs.Layout.{candidates, candidates_of, payload, passed, passes, passes_of, source_passes, source_guard_next, type_names, steps, guard_next, dropped, ctor_layouts, layouts_by, collapse, layout_of_body, layout_of, compute_layouts, source_layouts}
use Rattle.model.specs.Reach.{Reach, one, more, nodes}
use Rattle.model.specs.Resolve.{Unfold, gone, newtype, abbreviation, stays, unfolded, abbreviation_of, unfold_body, unfold_dtype, unfold_of, unfolds}
use Rattle.model.specs.Run.{unfold_next, Abbreviates, ImportedNewtype}
use Rattle.model_laws.specs.Reach.{reach_trans}
use Rattle.model_laws.specs.Lists.{get_or_table, get_or_table_past, table_cong, table_map}
use Rattle.model_laws.specs.Layout.{candidate_at, get_or_candidates, layout_at, get_or_layouts, passed_at, get_or_passes, abbreviation_body, Step, guard_step, step_guard, CandidateAt, candidate_entry, candidate_iff, passes_entry, collapsed}

-- ---- what becomes of a declaration
-- one that is no candidate becomes the same whatever is dropped
uncollapsed : (d : Dtype) (o : Origin) (e drop : Bool) (cls : List CtorLayout) → unfold_of d (layout_of d o e drop none cls) ≡ unfold_of d (layout_of d o e true none [])
unfolding layout_of layout_of_body collapse unfold_of
uncollapsed d (imported ti) e drop cls = refl
uncollapsed d here true drop cls = refl
uncollapsed d here false drop cls = by d.dt_body drop
  where
    by : (b : Body) (x : Bool) → unfold_of d (layout_of_body b x none cls) ≡ unfold_of d (layout_of_body b true none [])
    by TAbstract x = refl
    by (TAbbrev c) x = refl
    by (TRecord fs) true = refl
    by (TRecord fs) false = refl
    by (TVariant cs) true = refl
    by (TVariant cs) false = refl

-- only a layout makes a newtype
dtype_newtype : (d : Dtype) (ps : List ℕ) (c : Cty) → unfold_dtype d ≡ newtype ps c → ⊥
unfolding unfold_dtype unfold_body
dtype_newtype d ps c e = go (has_flag d Realized || has_flag d NoUnfold) d.dt_body e
  where
    go : (x : Bool) (b : Body) → pick x stays (unfold_body d.dt_params b) ≡ newtype ps c → ⊥
    go true b z = let y : ◌≡◌ {A = ℕ} 0 1 = cc in omega arith
    go false TAbstract z = let y : ◌≡◌ {A = ℕ} 0 1 = cc in omega arith
    go false (TAbbrev t) z = let y : ◌≡◌ {A = ℕ} 0 1 = cc in omega arith
    go false (TRecord fs) z = let y : ◌≡◌ {A = ℕ} 0 1 = cc in omega arith
    go false (TVariant cs) z = let y : ◌≡◌ {A = ℕ} 0 1 = cc in omega arith

newtype_layout : (d : Dtype) (l : Layout) (ps : List ℕ) (c : Cty) → unfold_of d l ≡ newtype ps c → (nt : NewtypeLayout) × (l ≡ L_newtype nt) × (nt.nt_ty ≡ c)
unfolding unfold_of
newtype_layout d L_erased ps c e = let y : ◌≡◌ {A = ℕ} 0 1 = cc in absurd (omega arith)
newtype_layout d (L_newtype nt) ps c e = (nt, refl, cc)
newtype_layout d (L_struct cls) ps c e = absurd (dtype_newtype d ps c e)
newtype_layout d (L_abbrev t) ps c e = absurd (dtype_newtype d ps c e)
newtype_layout d L_opaque ps c e = absurd (dtype_newtype d ps c e)

-- ---- one program
module _ (ds : List Decl) (s : List Bool) where
  abbrev guard : ℕ → List ℕ
  guard = guard_next ds (passes_of ds s)

  abbrev source : ℕ → List ℕ
  source = source_guard_next ds (candidates_of ds s)

  abbrev unfolding_next : ℕ → List ℕ
  unfolding_next = unfold_next ds (compute_layouts ds s)

  becomes : (i : ℕ) → i < length ds → get_or (unfolds ds (compute_layouts ds s)) i stays ≡ unfold_of (dtype_at ds i) (layout_at ds s i)
  unfolding unfolds
  becomes i h =
      get_or_table (λ k. unfold_of (dtype_at ds k) (get_or (compute_layouts ds s) k L_opaque)) (length ds) i stays h
      ∙ ap (unfold_of (dtype_at ds i)) (get_or_layouts ds s i L_opaque h)

  -- an abbreviation is no candidate
  no_candidate : (i : ℕ) (c : Cty) → (dtype_at ds i).dt_body ≡ TAbbrev c → get_or (candidates_of ds s) i none ≡ none
  unfolding ctors_of
  no_candidate i c e = by (get_or (candidates_of ds s) i none) refl
    where
      none_of : (b : Body) (x : Ctor) → b ≡ TAbbrev c → ctors_of (dtype_at ds i).dt_name b ≡ x ∷ [] → ⊥
      none_of TAbstract x q z = let y : ◌≡◌ {A = ℕ} 0 1 = cc in omega arith
      none_of (TAbbrev t) x q z = let y : ◌≡◌ {A = ℕ} 0 1 = cc in omega arith
      none_of (TRecord fs) x q z = let y : ◌≡◌ {A = ℕ} 0 1 = cc in omega arith
      none_of (TVariant cs) x q z = let y : ◌≡◌ {A = ℕ} 0 1 = cc in omega arith

      by : (o : Option NewtypeLayout) → get_or (candidates_of ds s) i none ≡ o → o ≡ none
      by none q = refl
      by (some nt) q =
          let k : CandidateAt ds (marked ds s) s i nt = candidate_entry ds (marked ds s) s i nt q in
          absurd (none_of (dtype_at ds i).dt_body k.candidate.ctor e k.candidate.one_ctor)

  -- A declaration that is no candidate is gone on through exactly where it is an unfolded abbreviation.
  passes_none : (i : ℕ) → i < length ds → get_or (candidates_of ds s) i none ≡ none → get_or (passes_of ds s) i none ≡ abbreviation_of (get_or (unfolds ds (compute_layouts ds s)) i stays)
  unfolding passed
  passes_none i h e =
      get_or_passes ds s i none h
      ∙ (ap (passed d o m) e
      ∙ ap abbreviation_of (sym (uncollapsed d o m (dropped ds (passes_of ds s) i) cls) ∙ sym (becomes i h ∙ ap (λ (c : Option NewtypeLayout). unfold_of d (layout_of d o m (dropped ds (passes_of ds s) i) c cls)) e)))
    where
      d : Dtype
      d = dtype_at ds i

      o : Origin
      o = origin_at ds i

      m : Bool
      m = get_or s i false

      cls : List CtorLayout
      cls = ctor_layouts (marked ds s) d

  pub abbreviation_passes : (i : ℕ) (c : Cty) → i < length ds → abbreviation_of (get_or (unfolds ds (compute_layouts ds s)) i stays) ≡ some c → get_or (passes_of ds s) i none ≡ some c
  abbreviation_passes i c h e =
      passes_none i h (no_candidate i c (abbreviation_body (dtype_at ds i) (layout_at ds s i) c (ap abbreviation_of (sym (becomes i h)) ∙ e))) ∙ e

  candidate_passes : (i : ℕ) (nt : NewtypeLayout) → get_or (candidates_of ds s) i none ≡ some nt → get_or (passes_of ds s) i none ≡ some nt.nt_ty
  unfolding passed
  candidate_passes i nt e =
      get_or_passes ds s i none (candidate_entry ds (marked ds s) s i nt e).below ∙ ap (passed (dtype_at ds i) (origin_at ds i) (get_or s i false)) e

  -- ---- the source's guard
  source_at : (i : ℕ) → get_or (source_passes (candidates_of ds s)) i none ≡ payload (get_or (candidates_of ds s) i none)
  unfolding source_passes payload
  source_at i = get_or-map payload (candidates_of ds s) i none

  -- its steps are steps here
  source_step : (a b : ℕ) → Memᴰ b (source a) → Memᴰ b (guard a)
  unfolding payload
  source_step a b m =
      let p : Step ds (source_passes (candidates_of ds s)) a b = guard_step ds (source_passes (candidates_of ds s)) a b m in
      by p (get_or (candidates_of ds s) a none) refl (sym (source_at a) ∙ p.passes)
    where
      by : (p : Step ds (source_passes (candidates_of ds s)) a b) (o : Option NewtypeLayout) → get_or (candidates_of ds s) a none ≡ o → payload (get_or (candidates_of ds s) a none) ≡ some p.type → Memᴰ b (guard a)
      by p none e z = let y : ◌≡◌ {A = ℕ} 0 1 = cc in absurd (omega arith)
      by p (some nt) e z =
          let q : nt.nt_ty ≡ p.type = cc in
          step_guard ds (passes_of ds s) a b (record { type = p.type; passes = candidate_passes a nt e ∙ ap some q; place = p.place })

  pub source_dropped : {a b : ℕ} → Reach source a b → Reach guard a b
  source_dropped (one {a} {b} m) = one (source_step a b m)
  source_dropped (more {a} {b} m r) = more (source_step a b m) (source_dropped r)

  -- a step here is one of the source's, or goes through an unfolded abbreviation
  guard_kind : (a b : ℕ) → Memᴰ b (guard a) → Memᴰ b (source a) ⊎ Abbreviates ds (compute_layouts ds s) a
  unfolding payload
  guard_kind a b m =
      let p : Step ds (passes_of ds s) a b = guard_step ds (passes_of ds s) a b m in
      by p (get_or (candidates_of ds s) a none) refl
    where
      by : Step ds (passes_of ds s) a b → (o : Option NewtypeLayout) → get_or (candidates_of ds s) a none ≡ o → Memᴰ b (source a) ⊎ Abbreviates ds (compute_layouts ds s) a
      by p none e =
          let h : a < length ds = (passes_entry ds s a p.type p.passes).below in
          inr (record { type = p.type; unfolds_to = sym (passes_none a h e) ∙ p.passes })
      by p (some nt) e =
          inl
          (step_guard ds (source_passes (candidates_of ds s)) a b
          (record { type = p.type; passes = source_at a ∙ (ap payload e ∙ (sym (candidate_passes a nt e) ∙ p.passes)); place = p.place }))

  -- So is a walk.
  pub guard_walk : {a b : ℕ} → (w : Reach guard a b) → Reach source a b ⊎ ((j : ℕ) × Memᴰ j (nodes guard w) × Abbreviates ds (compute_layouts ds s) j)
  unfolding nodes
  guard_walk (one {a} {b} m) = ⊎_elim (λ q. inl (one q)) (λ q. inr (a, Memᴰ.head refl, q)) (guard_kind a b m)
  guard_walk (more {a} {b} m r) =
      ⊎_elim
      (λ q. ⊎_elim (λ t. inl (more q t)) (λ t. inr (t.0, Memᴰ.tail t.1, t.2)) (guard_walk r))
      (λ q. inr (a, Memᴰ.head refl, q))
      (guard_kind a b m)

  -- ---- loops of unfolded names
  -- what is left by a step of unfolding: an abbreviation, an imported newtype, or a local one, which the guard has not dropped
  data Kind (a b : ℕ) : Type 0 where
    abbreviated : Memᴰ b (guard a) → Abbreviates ds (compute_layouts ds s) a → Kind a b
    from_import : ImportedNewtype ds a → Kind a b
    local : Memᴰ b (guard a) → (Reach guard a a → ⊥) → Kind a b

  step_to : (a b : ℕ) (c : Cty) → get_or (passes_of ds s) a none ≡ some c → Memᴰ b (type_names ds (some c)) → Memᴰ b (guard a)
  unfolding guard_next steps
  step_to a b c e m = rw e m

  kind_newtype : (a b : ℕ) (c : Cty) (nt : NewtypeLayout) → a < length ds → layout_at ds s a ≡ L_newtype nt → nt.nt_ty ≡ c → Memᴰ b (type_names ds (some c)) → Kind a b
  unfolding layout_of
  kind_newtype a b c nt h e q m = by (origin_at ds a) refl
    where
      by : (o : Origin) → origin_at ds a ≡ o → Kind a b
      by here u =
          let k = (collapsed ds s a h u nt).0 (get_or_layouts ds s a L_opaque h ∙ e) in
          let z : get_or (candidates_of ds s) a none ≡ some nt = get_or_candidates ds (marked ds s) s a none h ∙ rw u ((candidate_iff (marked ds s) (dtype_at ds a) (get_or s a false) nt).1 k.0) in
          local (step_to a b c (candidate_passes a nt z ∙ ap some q) m) k.1
      by (imported ti) u = from_import (record { verdict = ti; newtype = nt; is_imported = u; is_newtype = rw u at e })

  kind_of : (a b : ℕ) → Memᴰ b (unfolding_next a) → Kind a b
  unfolding unfold_next steps unfolded type_names abbreviation_of unfolds
  kind_of a b m = on (ltb a (length ds)) refl
    where
      by : a < length ds → (u : Unfold) → get_or (unfolds ds (compute_layouts ds s)) a stays ≡ u → Memᴰ b (type_names ds (unfolded u)) → Kind a b
      by h gone e z = absurd (Memᴰ.not-nil z)
      by h (newtype ps c) e z =
          let k = newtype_layout (dtype_at ds a) (layout_at ds s a) ps c (sym (becomes a h) ∙ e) in
          kind_newtype a b c k.0 h k.1 k.2 z
      by h (abbreviation ps c) e z =
          let q : abbreviation_of (get_or (unfolds ds (compute_layouts ds s)) a stays) ≡ some c = ap abbreviation_of e in
          abbreviated (step_to a b c (abbreviation_passes a c h q) z) (record { type = c; unfolds_to = q })
      by h stays e z = absurd (Memᴰ.not-nil z)

      on : (x : Bool) → ltb a (length ds) ≡ x → Kind a b
      on true e = by (ltb-true a (length ds) e) (get_or (unfolds ds (compute_layouts ds s)) a stays) refl m
      on false e =
          let z : get_or (unfolds ds (compute_layouts ds s)) a stays ≡ stays =
          get_or_table_past (λ k. unfold_of (dtype_at ds k) (get_or (compute_layouts ds s) k L_opaque)) (length ds) a stays (ltb-false a (length ds) e) in
          absurd (Memᴰ.not-nil (rw z at m))

  -- what a walk of unfolding meets: an imported newtype; or it is one of the guard, and meets
  -- abbreviations alone or a local newtype j
  data Met {a b : ℕ} (w : Reach unfolding_next a b) : Type 0 where
    an_import : (j : ℕ) → Memᴰ j (nodes unfolding_next w) → ImportedNewtype ds j → Met w
    all_abbreviated : Reach guard a b → ((j : ℕ) → Memᴰ j (nodes unfolding_next w) → Abbreviates ds (compute_layouts ds s) j) → Met w
    a_local : Reach guard a b → (j : ℕ) → (Reach guard j j → ⊥) → Reach guard j b → (a ≡ j) ⊎ Reach guard a j → Met w

  met : {a b : ℕ} (w : Reach unfolding_next a b) → Met w
  unfolding nodes
  met (one {a} {b} m) = by (kind_of a b m)
    where
      by : Kind a b → Met (one m)
      by (abbreviated g q) = all_abbreviated (one g) (λ j z. ⊎_elim (λ e. rw e q) (λ y. absurd (Memᴰ.not-nil y)) (Memᴰ.cases_cons z))
      by (from_import q) = an_import a (Memᴰ.head refl) q
      by (local g n) = a_local (one g) a n (one g) (inl refl)
  met (more {a} {b} {c} m r) = by (kind_of a b m) (met r)
    where
      by : Kind a b → Met r → Met (more m r)
      by (from_import q) t = an_import a (Memᴰ.head refl) q
      by (abbreviated g q) (an_import j z u) = an_import j (Memᴰ.tail z) u
      by (abbreviated g q) (all_abbreviated t f) = all_abbreviated (more g t) (λ j z. ⊎_elim (λ e. rw e q) (f j) (Memᴰ.cases_cons z))
      by (abbreviated g q) (a_local t j n u v) = a_local (more g t) j n u (inr (⊎_elim (λ e. one (rw e at g)) (λ y. more g y) v))
      by (local g n) (an_import j z u) = an_import j (Memᴰ.tail z) u
      by (local g n) (all_abbreviated t f) = a_local (more g t) a n (more g t) (inl refl)
      by (local g n) (a_local t j k u v) = a_local (more g t) a n (more g t) (inl refl)

  -- A loop of unfolded names is of abbreviations alone, or an imported newtype lies on it.
  pub loop_left : (i : ℕ) (w : Reach unfolding_next i i)
      → ((j : ℕ) → Memᴰ j (nodes unfolding_next w) → Abbreviates ds (compute_layouts ds s) j)
      ⊎ ((j : ℕ) × Memᴰ j (nodes unfolding_next w) × ImportedNewtype ds j)
  loop_left i w = by (met w)
    where
      by : Met w → ((j : ℕ) → Memᴰ j (nodes unfolding_next w) → Abbreviates ds (compute_layouts ds s) j) ⊎ ((j : ℕ) × Memᴰ j (nodes unfolding_next w) × ImportedNewtype ds j)
      by (an_import j z u) = inr (j, z, u)
      by (all_abbreviated t f) = inl f
      by (a_local t j n u v) = absurd (n (⊎_elim (λ e. rw e at u) (λ y. reach_trans guard u y) v))

  -- ---- without unfolded abbreviations
  -- the guard goes on through what the source's does
  passes_source : ((i : ℕ) → i < length ds → abbreviation_of (get_or (unfolds ds (compute_layouts ds s)) i stays) ≡ none) → passes_of ds s ≡ source_passes (candidates_of ds s)
  unfolding passes source_passes candidates passed payload
  passes_source f =
      table_cong (passed_at ds s) (λ i. payload (candidate_at ds (marked ds s) s i)) (length ds) each
      ∙ table_map payload (candidate_at ds (marked ds s) s) (length ds)
    where
      by : (i : ℕ) → i < length ds → (o : Option NewtypeLayout) → get_or (candidates_of ds s) i none ≡ o → passed (dtype_at ds i) (origin_at ds i) (get_or s i false) o ≡ payload o
      by i h none e = ap (passed (dtype_at ds i) (origin_at ds i) (get_or s i false)) (sym e) ∙ (sym (get_or_passes ds s i none h) ∙ (passes_none i h e ∙ f i h))
      by i h (some nt) e = refl

      each : (i : ℕ) → i < length ds → passed_at ds s i ≡ payload (candidate_at ds (marked ds s) s i)
      each i h = by i h (get_or (candidates_of ds s) i none) refl ∙ ap payload (get_or_candidates ds (marked ds s) s i none h)

  pub guard_source : ((i : ℕ) → i < length ds → abbreviation_of (get_or (unfolds ds (compute_layouts ds s)) i stays) ≡ none) → compute_layouts ds s ≡ source_layouts ds s
  unfolding compute_layouts source_layouts
  guard_source f = ap (layouts_by ds s) (passes_source f)
