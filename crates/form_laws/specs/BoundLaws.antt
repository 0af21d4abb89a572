-- The bodies and payloads of a program have no variables but their parameters, since its fields are closed first.
-- Assumes nothing.
use Rattle.std.proofs.Common.{⊎_elim, sym, arith}
use Rattle.std.specs.Prelude.{◌≡◌, ◌||◌, ℕ, suc, ◌<◌, eqb, length, get_or}
use Rattle.std.proofs.Math.Path.{refl, subst}
use mathlib.Core.List.{List, [], ◌∷◌, map}
use Rattle.std.proofs.Math.Bool.{Bool, true, false}
use Rattle.std.proofs.Math.Option.{Option, none, some}
use Rattle.std.proofs.Math.Dec.{T}
use Rattle.number_columns.specs.Column.{pick, ◌⇒◌∥◌}
use Rattle.sheet.specs.Line.{Line}
use Rattle.sheet.proofs.ListLaws.{Every, every_at}
use Rattle.model.specs.Cty.{Cty, TUnit, TAny, TExn, TVar, TInt, TFloat, TConst, TArrow, TApp, TTuple, TBuf, TRef, TInline, uninline}
use Rattle.model.specs.Decl.{
  table,
  Field,
  Ctor,
  Body,
  TAbstract,
  TAbbrev,
  TRecord,
  TVariant,
  Dtype,
  Realized,
  NoNewtype,
  NoUnfold,
  has_flag,
  ctors_of,
  ctors_of_tydef,
  CtorLayout,
  Layout,
  L_erased,
  NewtypeLayout,
  L_newtype,
  L_struct,
  L_abbrev,
  L_opaque,
  Origin,
  here,
  imported,
  Decl,
  no_decl,
  dtype_at,
  origin_at,
  position,
  member,
  close,
  close_field,
  close_body,
  close_fields,
}
use Rattle.model.specs.Erasure.{marked, erasure_fixpoint}
use Rattle.model.specs.Layout.{layouts_of_ctors, slots, kept, ctor_layout, ctor_layouts, newtype_of_ctor, newtype_of, candidate, dropped, collapse, layout_of_body, layout_of, candidates_of, passes_of}
use Rattle.meaning.specs.Program.{import_line, is, is_head, Group, groups, keeps_of, tags, ctor_layouts_by, abbreviated, layout_by, info_of, verdict_of, dtype_of, decl_of, trees, program}
use Rattle.model.specs.Resolve.{stays, unfold_body, unfold_dtype, unfold_of}
use Rattle.model.specs.Run.{layouts_of, lay, layout_of_decl}
use Rattle.model_laws.specs.Cty.{Each, Any, all_of, close_each}
use Rattle.model_laws.specs.Layout.{get_or_layouts, get_or_candidates}
use Rattle.model_laws.specs.Locality.{lay_declared, lay_foreign}
use Rattle.model_laws.specs.Names.{declared_cases}
use Rattle.model_laws.specs.Resolve.{Fields, Kept, Ctors, BodyTypes}
use Rattle.form_laws.specs.FormLaws.{BodyBound, Bound}

-- ---- layouts are made of their declarations' types
module _ (Q : Cty → Type 0) (up : (c : Cty) → Q c → Q (uninline c)) where
  -- Q of a newtype's payload
  abbrev pub Payload : Layout → Type 0
  Payload L_erased = Unit {0}
  Payload (L_newtype nt) = Q nt.nt_ty
  Payload (L_struct cls) = Unit {0}
  Payload (L_abbrev c) = Unit {0}
  Payload L_opaque = Unit {0}

  abbrev Payloads : Option NewtypeLayout → Type 0
  Payloads none = Unit {0}
  Payloads (some nt) = Q nt.nt_ty

  kept_types : (bs : List Bool) (fs : List Field) → Fields Q fs → Fields Q (kept bs fs)
  unfolding kept
  kept_types [] fs h = tt
  kept_types (b ∷ bs) [] h = tt
  kept_types (b ∷ bs) (f ∷ fs) h = go b (kept_types bs fs h.1)
    where
      go : (x : Bool) → Fields Q (kept bs fs) → Fields Q (pick x (f ∷ kept bs fs) (kept bs fs))
      go true k = (h.0, k)
      go false k = k

  ctors_types : (n : ℕ) (b : Body) → BodyTypes Q b → Ctors Q (ctors_of n b)
  unfolding ctors_of
  ctors_types n TAbstract h = tt
  ctors_types n (TAbbrev c) h = tt
  ctors_types n (TRecord fs) h = (h, tt)
  ctors_types n (TVariant cs) h = h

  layouts_types : (er : ℕ → Bool) (tag : ℕ → Option ℕ) (cs : List Ctor) → Ctors Q cs → Kept Q (layouts_of_ctors er tag cs)
  unfolding table ctor_layout
  layouts_types er tag [] h = tt
  layouts_types er tag (c ∷ cs) h = (kept_types (slots er c.ct_fields) c.ct_fields h.0, layouts_types er (λ i. tag (suc i)) cs h.1)

  by_types : (tag : ℕ → Option ℕ) (cs : List Ctor) (bss : List (List Bool)) → Ctors Q cs → Kept Q (ctor_layouts_by tag cs bss)
  unfolding ctor_layouts_by ctor_layout
  by_types tag [] bss h = tt
  by_types tag (c ∷ cs) [] h = tt
  by_types tag (c ∷ cs) (bs ∷ bss) h = (kept_types bs c.ct_fields h.0, by_types (λ i. tag (suc i)) cs bss h.1)

  newtype_ctor_payload : (n : ℕ) (bs : List Bool) (fs : List Field) → Fields Q fs → Payloads (newtype_of_ctor n bs fs)
  unfolding newtype_of_ctor
  newtype_ctor_payload n bs [] h = tt
  newtype_ctor_payload n bs (f ∷ []) h = up f.fd_type h.0
  newtype_ctor_payload n bs (f ∷ g ∷ fs) h = tt

  newtype_payload : (cls : List CtorLayout) → Kept Q cls → Payloads (newtype_of cls)
  unfolding newtype_of
  newtype_payload [] h = tt
  newtype_payload (cl ∷ []) h = newtype_ctor_payload cl.cl_name cl.cl_slots cl.cl_fields h.0
  newtype_payload (cl ∷ cm ∷ cls) h = tt

  candidate_payload : (d : Dtype) (o : Origin) (e : Bool) (cls : List CtorLayout) → Kept Q cls → Payloads (candidate d o e cls)
  unfolding candidate
  candidate_payload d (imported ti) e cls h = tt
  candidate_payload d here e cls h = go (e || has_flag d NoNewtype)
    where
      go : (b : Bool) → Payloads (pick b none (newtype_of cls))
      go true = tt
      go false = newtype_payload cls h

  collapse_payload : (drop : Bool) (cand : Option NewtypeLayout) (cls : List CtorLayout) → Payloads cand → Payload (collapse drop cand cls)
  unfolding collapse
  collapse_payload true cand cls h = tt
  collapse_payload false none cls h = tt
  collapse_payload false (some nt) cls h = h

  local_payload : (d : Dtype) (e drop : Bool) (cand : Option NewtypeLayout) (cls : List CtorLayout) → Payloads cand → Payload (layout_of d here e drop cand cls)
  unfolding layout_of layout_of_body
  local_payload d true drop cand cls h = tt
  local_payload d false drop cand cls h = go d.dt_body
    where
      go : (b : Body) → Payload (layout_of_body b drop cand cls)
      go TAbstract = tt
      go (TAbbrev c) = tt
      go (TRecord fs) = collapse_payload drop cand cls h
      go (TVariant cs) = collapse_payload drop cand cls h

  abbreviated_payload : (b : Body) → Payload (abbreviated b)
  abbreviated_payload TAbstract = tt
  abbreviated_payload (TAbbrev c) = tt
  abbreviated_payload (TRecord fs) = tt
  abbreviated_payload (TVariant cs) = tt

  by_payload : (k : ℕ) (b : Body) (cls : List CtorLayout) → Kept Q cls → Payload (layout_by k b cls)
  unfolding layout_by
  by_payload k b cls h = go0 (eqb k 0) (eqb k 1) (eqb k 2) (eqb k 3)
    where
      go0 : (x0 x1 x2 x3 : Bool) → Payload (x0 ⇒ L_erased ∥ x1 ⇒ collapse false (newtype_of cls) cls ∥ x2 ⇒ L_struct cls ∥ x3 ⇒ abbreviated b ∥ L_opaque)
      go0 true x1 x2 x3 = tt
      go0 false true x2 x3 = collapse_payload false (newtype_of cls) cls (newtype_payload cls h)
      go0 false false true x3 = tt
      go0 false false false true = abbreviated_payload b
      go0 false false false false = tt

  info_payload : (d : Dtype) (ls : List Line) (v : Line) → BodyTypes Q d.dt_body → Payload (info_of d ls v).ti_layout
  unfolding info_of
  info_payload d ls v h = by_payload _ d.dt_body (ctor_layouts_by (tags ls) (ctors_of_tydef d) (keeps_of d.dt_body ls)) (by_types (tags ls) (ctors_of_tydef d) (keeps_of d.dt_body ls) (ctors_types d.dt_name d.dt_body h))

-- ---- closed declarations
pub uninline_each : (X : ℕ → Type 0) (c : Cty) → Each X Any c → Each X Any (uninline c)
unfolding uninline
uninline_each X TUnit h = h
uninline_each X TAny h = h
uninline_each X TExn h = h
uninline_each X (TVar v) h = h
uninline_each X (TInt s w) h = h
uninline_each X (TFloat f) h = h
uninline_each X (TConst c) h = h
uninline_each X (TArrow a e b) h = h
uninline_each X (TApp n ts) h = h
uninline_each X (TTuple ts) h = h
uninline_each X (TBuf t) h = h
uninline_each X (TRef k t) h = h
uninline_each X (TInline t) h = h

-- no variable but these
abbrev pub Bounded : List ℕ → Cty → Type 0
Bounded ps = Each (λ v. T (member v ps)) Any

close_bounded : (ps : List ℕ) (c : Cty) → Bounded ps (close ps c)
close_bounded ps c = close_each Any ps c (all_of Any (λ n. tt) c)

fields_bounded : (ps : List ℕ) (fs : List Field) → Fields (Bounded ps) (map (close_field ps) fs)
unfolding close_field
fields_bounded ps [] = tt
fields_bounded ps (f ∷ fs) = (close_bounded ps f.fd_type, fields_bounded ps fs)

body_bounded : (ps : List ℕ) (b : Body) → BodyTypes (Bounded ps) (close_body ps b)
unfolding close_body
body_bounded ps TAbstract = tt
body_bounded ps (TAbbrev c) = close_bounded ps c
body_bounded ps (TRecord fs) = fields_bounded ps fs
body_bounded ps (TVariant cs) = go cs
  where
    go : (cs : List Ctor) → Ctors (Bounded ps) (map (λ c. record { ct_name = c.ct_name; ct_fields = map (close_field ps) c.ct_fields }) cs)
    go [] = tt
    go (c ∷ cs) = (fields_bounded ps c.ct_fields, go cs)

-- a declaration's own types, and its payload if it is imported
abbrev pub OriginPayload : List ℕ → Origin → Type 0
OriginPayload ps here = Unit {0}
OriginPayload ps (imported ti) = Payload (Bounded ps) (λ c h. uninline_each (λ v. T (member v ps)) c h) ti.ti_layout

pub record Closed (d : Decl) : Type 0 where
  pub types : BodyTypes (Bounded d.dtype.dt_params) d.dtype.dt_body
  pub payload : OriginPayload d.dtype.dt_params d.origin

decl_closed : (ts : List Cty) (g : Group) → Closed (decl_of ts g)
unfolding decl_of close_fields
decl_closed ts g =
    record { types = body_bounded ps (dtype_of ts g).dt_body; payload = go (is import_line g.head) }
  where
    ps : List ℕ
    ps = (dtype_of ts g).dt_params

    d : Dtype
    d = close_fields (dtype_of ts g)

    go : (b : Bool) → OriginPayload ps (pick b (imported (info_of d g.rest (verdict_of g.rest))) here)
    go true = info_payload (Bounded ps) (λ c h. uninline_each (λ v. T (member v ps)) c h) d g.rest (verdict_of g.rest) (body_bounded ps (dtype_of ts g).dt_body)
    go false = tt

pub program_closed : (ls : List Line) → Every Closed (program ls)
unfolding program
program_closed ls = go (groups is_head ls)
  where
    go : (gs : List Group) → Every Closed (map (decl_of (trees ls)) gs)
    go [] = tt
    go (g ∷ gs) = (decl_closed (trees ls) g, go gs)

-- ---- what becomes of a name
module _ (ds : List Decl) (closed : Every Closed ds) where
  payload_bounded : (i : ℕ) → i < length ds → Payload (Bounded (dtype_at ds i).dt_params) (λ c h. uninline_each (λ v. T (member v (dtype_at ds i).dt_params)) c h) (layout_of_decl ds i)
  unfolding layouts_of layout_of ctor_layouts
  payload_bounded i h =
      rw (get_or_layouts ds s i L_opaque h) (go (origin_at ds i) refl (every_at Closed no_decl ds closed i h).payload)
    where
      s : List Bool
      s = (erasure_fixpoint ds).marks

      ps : List ℕ
      ps = (dtype_at ds i).dt_params

      up : (c : Cty) → Bounded ps c → Bounded ps (uninline c)
      up c k = uninline_each (λ v. T (member v ps)) c k

      cand : Option NewtypeLayout
      cand = get_or (candidates_of ds s) i none

      cls : List CtorLayout
      cls = ctor_layouts (marked ds s) (dtype_at ds i)

      cand_bounded : Payloads (Bounded ps) up cand
      cand_bounded =
          rw (get_or_candidates ds (marked ds s) s i none h)
          (candidate_payload (Bounded ps) up (dtype_at ds i) (origin_at ds i) (get_or s i false) cls (layouts_types (Bounded ps) up (marked ds s) _ (ctors_of_tydef (dtype_at ds i)) (ctors_types (Bounded ps) up (dtype_at ds i).dt_name (dtype_at ds i).dt_body (every_at Closed no_decl ds closed i h).types)))

      go : (o : Origin) → origin_at ds i ≡ o → OriginPayload ps o → Payload (Bounded ps) up (layout_of (dtype_at ds i) o (get_or s i false) (dropped ds (passes_of ds s) i) cand cls)
      go here e k = local_payload (Bounded ps) up (dtype_at ds i) (get_or s i false) (dropped ds (passes_of ds s) i) cand cls cand_bounded
      go (imported ti) e k = k

  dtype_bound : (d : Dtype) → BodyTypes (Bounded d.dt_params) d.dt_body → BodyBound (unfold_dtype d)
  unfolding unfold_dtype unfold_body
  dtype_bound d h = go (has_flag d Realized || has_flag d NoUnfold) d.dt_body h
    where
      go : (b : Bool) (y : Body) → BodyTypes (Bounded d.dt_params) y → BodyBound (pick b stays (unfold_body d.dt_params y))
      go true y k = tt
      go false TAbstract k = tt
      go false (TAbbrev c) k = k
      go false (TRecord fs) k = tt
      go false (TVariant cs) k = tt

  unfold_bound : (d : Dtype) (l : Layout) → BodyTypes (Bounded d.dt_params) d.dt_body → Payload (Bounded d.dt_params) (λ c h. uninline_each (λ v. T (member v d.dt_params)) c h) l → BodyBound (unfold_of d l)
  unfolding unfold_of
  unfold_bound d L_erased h k = tt
  unfold_bound d (L_newtype nt) h k = k
  unfold_bound d (L_struct cls) h k = dtype_bound d h
  unfold_bound d (L_abbrev c) h k = dtype_bound d h
  unfold_bound d L_opaque h k = dtype_bound d h

  pub lay_bound : Bound (lay ds)
  lay_bound n =
      ⊎_elim
      (λ d. subst BodyBound (sym (lay_declared ds n d)) (unfold_bound (dtype_at ds (position ds n)) (layout_of_decl ds (position ds n)) (every_at Closed no_decl ds closed (position ds n) d).types (payload_bounded (position ds n) d)))
      (λ e. subst BodyBound (sym (lay_foreign ds n (omega arith))) tt)
      (declared_cases ds n)

-- the bodies and payloads of a sheet's program
pub program_bound : (ls : List Line) → Bound (lay (program ls))
program_bound ls = lay_bound (program ls) (program_closed ls)
