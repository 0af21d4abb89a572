-- What holds of every number of a sheet's lines holds of every number of the program that is left, and how many types that has: so
-- the lines of the left sheet of an accepted sheet fit their columns. Assumes nothing.
use Rattle.std.proofs.Math.Logic.{⊎_elim}
use Rattle.std.specs.Prelude.{◌≡◌, Bool, ◌&&◌, ◌||◌, ltb, get_or}
use Rattle.std.proofs.Math.Path.{refl}
use Rattle.std.proofs.Common.{ap, mul-le-mul_left, length-append, eqb-true, ltb-true, ltb-false}
use mathlib.Core.List.{List, [], ◌∷◌, ◌++◌, map, Memᴰ}
use Rattle.std.proofs.Math.Bool.{true, false, not}
use Rattle.std.proofs.Math.Option.{Option, none, some}
use Prim.Native.Nat.{ℕ, zero, suc, ◌+◌, ◌*◌, ◌^◌, ◌≤◌, ◌<◌}
use native.Mathlib.Omega.{arith}
use Rattle.std.proofs.Math.Dec.{eqb}
use Rattle.std.proofs.Math.ListN.{length, length-map}
use Rattle.number_columns.specs.Column.{pick, ◌⇒◌∥◌}
use Rattle.sheet.specs.Line.{Line, letter, number}
use Rattle.sheet.proofs.LineLaws.{Fits}
use Rattle.sheet.specs.Sheet.{lines, encodes}
use Rattle.sheet.proofs.SheetLaws.{AllFit, lines_encodes}
use Rattle.sheet.proofs.ListLaws.{Every, every_map, every_over, every_append}
use Rattle.model.specs.Cty.{
  Cty,
  Ctys,
  TUnit,
  TAny,
  TExn,
  TVar,
  TInt,
  TFloat,
  TConst,
  TArrow,
  TApp,
  TTuple,
  TBuf,
  TRef,
  TInline,
  nil,
  cons,
  lengths,
  append,
  firsts,
  others,
  walk,
  walks,
  names_of_cty,
  cty_vars,
  size,
  uninline,
  Binding,
  zip,
  look,
  subst_cty,
}
use Rattle.model.specs.Resolve.{Unfold, gone, newtype, abbreviation, stays, unfold_body, unfold_dtype, unfold_of, unfolds, unfold_name, attach, instance, applied, resolve}
use Rattle.model.specs.Decl.{
  Field,
  Ctor,
  Body,
  TAbstract,
  TAbbrev,
  TRecord,
  TVariant,
  Dtype,
  Realized,
  NoNewtype,
  NoUnfold,
  has_flag,
  ctors_of,
  ctors_of_tydef,
  CtorLayout,
  Layout,
  L_erased,
  NewtypeLayout,
  L_newtype,
  L_struct,
  L_abbrev,
  L_opaque,
  Origin,
  here,
  imported,
  Decl,
  no_decl,
  dtype_at,
  origin_at,
  table,
  position,
  member,
  close,
  close_field,
  close_body,
  close_fields,
}
use Rattle.model.specs.Erasure.{marked, erasure_fixpoint}
use Rattle.model.specs.Layout.{layouts_of_ctors, slots, kept, ctor_layout, ctor_layouts, newtype_of_ctor, newtype_of, candidate, dropped, collapse, layout_of_body, layout_of, compute_layouts, candidates_of, passes_of}
use Rattle.model.specs.Run.{left_program, with_body, all_in, collapsed_abbrev, resolved_field, resolved_ctor, struct_body, rw_decl, somes, layouts_of, run, lay, left_at}
use Rattle.meaning.specs.Program.{
  arg_line,
  type_line,
  import_line,
  param_line,
  ctor_line,
  field_line,
  is,
  is_head,
  select,
  before,
  Group,
  groups,
  list_of,
  tree,
  trees_after,
  trees,
  field_of,
  ctor_of,
  body_of,
  dtype_of,
  keeps_of,
  tags,
  ctor_layouts_by,
  abbreviated,
  layout_by,
  info_of,
  verdict_of,
  decl_of,
  program,
}
use Rattle.meaning.specs.Rows.{count_of}
use Rattle.meaning_laws.specs.Program.{select_append, flat, before_flat, heads, length_groups}
use Rattle.meaning.specs.Output.{left_lines}
use Rattle.model_laws.specs.Cty.{all_names}
use Rattle.model_laws.specs.Resolve.{Stays, Normal, Fields, Ctors, BodyTypes, LeftTypes, Left}
use Rattle.model_laws.specs.Layout.{get_or_candidates, get_or_layouts, get_or_layouts_past}
use Rattle.model_laws.specs.Run.{run_lefts}
use Rattle.meaning_laws.specs.Output.{types_of_fields, types_of_ctors, types_of_body, types_of, TypeNumbers, TypesNumbers, FieldNumbers, CtorNumbers, BodyNumbers, DtypeNumbers, total, total_bound, ProgramFits, every_select, number_fits, left_fits, NamesIn, left_names, columns_positive}
use Rattle.model_laws.specs.Lists.{length_table, get_or_table, get_or_table_past}
use Rattle.model_laws.specs.Names.{declared_cases}

-- ---- the numbers of types
module _ (S Q : ℕ → Type 0) where
  pick_numbers : (b : Bool) (c d : Cty) → TypeNumbers S Q c → TypeNumbers S Q d → TypeNumbers S Q (pick b c d)
  pick_numbers true c d h k = h
  pick_numbers false c d h k = k

  module _ (var : ℕ → Cty) (app : ℕ → Ctys → Cty) (hv : (v : ℕ) → Q v → TypeNumbers S Q (var v)) (ha : (n : ℕ) (us : Ctys) → Q n → TypesNumbers S Q us → TypeNumbers S Q (app n us)) where
    mutual
      unfolding walk

      pub walk_numbers : (c : Cty) → TypeNumbers S Q c → TypeNumbers S Q (walk var app c)
      walk_numbers TUnit h = tt
      walk_numbers TAny h = tt
      walk_numbers TExn h = tt
      walk_numbers (TVar v) h = hv v h
      walk_numbers (TInt s x) h = h
      walk_numbers (TFloat f) h = h
      walk_numbers (TConst c) h = h
      walk_numbers (TArrow a e b) h = (walk_numbers a h.0, h.1, walk_numbers b h.2)
      walk_numbers (TApp n ts) h = ha n (walks var app ts) h.0 (walks_numbers ts h.1)
      walk_numbers (TTuple ts) h = walks_numbers ts h
      walk_numbers (TBuf t) h = walk_numbers t h
      walk_numbers (TRef k t) h = (h.0, walk_numbers t h.1)
      walk_numbers (TInline t) h = walk_numbers t h

      pub walks_numbers : (ts : Ctys) → TypesNumbers S Q ts → TypesNumbers S Q (walks var app ts)
      walks_numbers nil h = tt
      walks_numbers (cons t ts) h = (walk_numbers t h.0, walks_numbers ts h.1)

  pub close_numbers : (ps : List ℕ) (c : Cty) → TypeNumbers S Q c → TypeNumbers S Q (close ps c)
  unfolding close
  close_numbers ps c h =
      walk_numbers (λ v. pick (member v ps) (TVar v) TAny) TApp (λ v q. pick_numbers (member v ps) (TVar v) TAny q tt) (λ n us p q. (p, q)) c h

  pub uninline_numbers : (c : Cty) → TypeNumbers S Q c → TypeNumbers S Q (uninline c)
  unfolding uninline
  uninline_numbers TUnit h = h
  uninline_numbers TAny h = h
  uninline_numbers TExn h = h
  uninline_numbers (TVar v) h = h
  uninline_numbers (TInt s x) h = h
  uninline_numbers (TFloat f) h = h
  uninline_numbers (TConst c) h = h
  uninline_numbers (TArrow a e b) h = h
  uninline_numbers (TApp n ts) h = h
  uninline_numbers (TTuple ts) h = h
  uninline_numbers (TBuf t) h = h
  uninline_numbers (TRef k t) h = h
  uninline_numbers (TInline t) h = h

  append_numbers : (ts us : Ctys) → TypesNumbers S Q ts → TypesNumbers S Q us → TypesNumbers S Q (append ts us)
  unfolding append
  append_numbers nil us h k = k
  append_numbers (cons t ts) us h k = (h.0, append_numbers ts us h.1 k)

  firsts_numbers : (n : ℕ) (ts : Ctys) → TypesNumbers S Q ts → TypesNumbers S Q (firsts n ts)
  unfolding firsts
  firsts_numbers zero ts h = tt
  firsts_numbers (suc n) nil h = tt
  firsts_numbers (suc n) (cons t ts) h = (h.0, firsts_numbers n ts h.1)

  others_numbers : (n : ℕ) (ts : Ctys) → TypesNumbers S Q ts → TypesNumbers S Q (others n ts)
  unfolding others
  others_numbers zero ts h = h
  others_numbers (suc n) nil h = tt
  others_numbers (suc n) (cons t ts) h = others_numbers n ts h.1

  attach_numbers : (c : Cty) (us : Ctys) → TypeNumbers S Q c → TypesNumbers S Q us → TypeNumbers S Q (attach c us)
  unfolding attach
  attach_numbers TUnit us h k = h
  attach_numbers TAny us h k = h
  attach_numbers TExn us h k = h
  attach_numbers (TVar v) us h k = h
  attach_numbers (TInt s x) us h k = h
  attach_numbers (TFloat f) us h k = h
  attach_numbers (TConst c) us h k = h
  attach_numbers (TArrow a e b) us h k = h
  attach_numbers (TApp n ts) us h k = (h.0, append_numbers ts us h.1 k)
  attach_numbers (TTuple ts) us h k = h
  attach_numbers (TBuf t) us h k = h
  attach_numbers (TRef j t) us h k = h
  attach_numbers (TInline t) us h k = h

  zip_numbers : (ps : List ℕ) (us : Ctys) → TypesNumbers S Q us → Every (λ b. TypeNumbers S Q b.arg) (zip ps us)
  unfolding zip
  zip_numbers [] us h = tt
  zip_numbers (p ∷ ps) nil h = tt
  zip_numbers (p ∷ ps) (cons u us) h = (h.0, zip_numbers ps us h.1)

  look_numbers : (s : List Binding) (v : ℕ) → Every (λ b. TypeNumbers S Q b.arg) s → Q v → TypeNumbers S Q (look s v)
  unfolding look
  look_numbers [] v h q = q
  look_numbers (b ∷ s) v h q = pick_numbers (eqb b.param v) b.arg (look s v) h.0 (look_numbers s v h.1 q)

  instance_numbers : (ps : List ℕ) (us : Ctys) (c : Cty) → TypesNumbers S Q us → TypeNumbers S Q c → TypeNumbers S Q (instance ps us c)
  unfolding instance subst_cty
  instance_numbers ps us c h k = go (eqb (length ps) (lengths us))
    where
      go : (b : Bool) → TypeNumbers S Q (walk (look (pick b (zip ps us) [])) TApp c)
      go true = walk_numbers (look (zip ps us)) TApp (λ v q. look_numbers (zip ps us) v (zip_numbers ps us h) q) (λ n ts p q. (p, q)) c k
      go false = walk_numbers (look []) TApp (λ v q. look_numbers [] v tt q) (λ n ts p q. (p, q)) c k

  abbrev pub UnfoldNumbers : Unfold → Type 0
  UnfoldNumbers gone = Unit {0}
  UnfoldNumbers (newtype ps c) = TypeNumbers S Q c
  UnfoldNumbers (abbreviation ps c) = TypeNumbers S Q c
  UnfoldNumbers stays = Unit {0}

  applied_numbers : (next : Cty → Cty) → ((c : Cty) → TypeNumbers S Q c → TypeNumbers S Q (next c)) → (n : ℕ) (us : Ctys) (u : Unfold) → UnfoldNumbers u → Q n → TypesNumbers S Q us → TypeNumbers S Q (applied next n us u)
  unfolding applied
  applied_numbers next f n us gone h q k = tt
  applied_numbers next f n us (newtype ps c) h q k = f (instance ps us c) (instance_numbers ps us c k h)
  applied_numbers next f n us (abbreviation ps c) h q k =
      f (attach (instance ps (firsts (length ps) us) c) (others (length ps) us))
      (attach_numbers (instance ps (firsts (length ps) us) c) (others (length ps) us)
      (instance_numbers ps (firsts (length ps) us) c (firsts_numbers (length ps) us k) h) (others_numbers (length ps) us k))
  applied_numbers next f n us stays h q k = (q, k)

  -- resolving brings in no other number
  pub resolve_numbers : (lay : ℕ → Unfold) → ((n : ℕ) → UnfoldNumbers (lay n)) → (k : ℕ) (c : Cty) → TypeNumbers S Q c → TypeNumbers S Q (resolve lay k c)
  unfolding resolve
  resolve_numbers lay u zero c h = h
  resolve_numbers lay u (suc k) c h =
      walk_numbers TVar (λ n us. applied (resolve lay k) n us (lay n)) (λ v q. q)
      (λ n us p q. applied_numbers (resolve lay k) (resolve_numbers lay u k) n us (lay n) (u n) p q) c h

-- ---- the declarations that are left
pub somes_every : (P : Dtype → Type 0) (g : ℕ → Option Dtype) (n : ℕ) → ((i : ℕ) → i < n → Left P (g i)) → Every P (somes (table g n))
unfolding somes table
somes_every P g zero h = tt
somes_every P g (suc n) h = go (g 0) (h 0 (omega arith)) (somes_every P (λ i. g (suc i)) n (λ i l. h (suc i) (omega arith)))
  where
    go : (o : Option Dtype) → Left P o → Every P (somes (table (λ i. g (suc i)) n)) → Every P (somes (o ∷ table (λ i. g (suc i)) n))
    go none p k = k
    go (some d) p k = (p, k)

-- ---- fields
-- fields of a body that is a record or a variant
unfoldable pub ctor_fields : List Ctor → ℕ
ctor_fields [] = 0
ctor_fields (c ∷ cs) = length c.ct_fields + ctor_fields cs

unfoldable pub body_fields : Body → ℕ
body_fields TAbstract = 0
body_fields (TAbbrev c) = 0
body_fields (TRecord fs) = length fs
body_fields (TVariant cs) = ctor_fields cs

-- fields that constructors keep
unfoldable pub kept_fields : List CtorLayout → ℕ
kept_fields [] = 0
kept_fields (cl ∷ cls) = length cl.cl_fields + kept_fields cls

every_kept : (P : Field → Type 0) (bs : List Bool) (fs : List Field) → Every P fs → Every P (kept bs fs)
unfolding kept
every_kept P [] fs h = tt
every_kept P (b ∷ bs) [] h = tt
every_kept P (b ∷ bs) (f ∷ fs) h = go b (every_kept P bs fs h.1)
  where
    go : (c : Bool) → Every P (kept bs fs) → Every P (pick c (f ∷ kept bs fs) (kept bs fs))
    go true k = (h.0, k)
    go false k = k

length_kept : (bs : List Bool) (fs : List Field) → length (kept bs fs) ≤ length fs
unfolding kept
length_kept [] fs = omega arith
length_kept (b ∷ bs) [] = omega arith
length_kept (b ∷ bs) (f ∷ fs) = go b (length_kept bs fs)
  where
    go : (c : Bool) → length (kept bs fs) ≤ length fs → length (pick c (f ∷ kept bs fs) (kept bs fs)) ≤ suc (length fs)
    go true k = omega arith
    go false k = omega arith

-- ---- the numbers of declarations and layouts
module _ (Q : ℕ → Type 0) where
  abbrev pub FullField : Field → Type 0
  FullField f = Q f.fd_name × TypeNumbers Q Q f.fd_type

  abbrev pub FullCtor : Ctor → Type 0
  FullCtor c = Q c.ct_name × Q (length c.ct_fields) × Every FullField c.ct_fields

  abbrev pub FullBody : Body → Type 0
  FullBody TAbstract = Unit {0}
  FullBody (TAbbrev c) = TypeNumbers Q Q c
  FullBody (TRecord fs) = Q (length fs) × Every FullField fs
  FullBody (TVariant cs) = Q (length cs) × Every FullCtor cs

  -- Q holds of every number of a declaration
  pub record FullDtype (d : Dtype) : Type 0 where
    pub name : Q d.dt_name
    pub flags : Q d.dt_flags
    pub arity : Q (length d.dt_params)
    pub params : Every Q d.dt_params
    pub body : FullBody d.dt_body

  abbrev pub FullLayouts : CtorLayout → Type 0
  FullLayouts cl = Q cl.cl_name × Q (length cl.cl_fields) × Every FullField cl.cl_fields

  -- and of those that they keep, at most b fields
  abbrev pub FullKept : ℕ → List CtorLayout → Type 0
  FullKept b cls = Q (length cls) × Every FullLayouts cls × (kept_fields cls ≤ b)

  abbrev pub FullLayout : ℕ → Layout → Type 0
  FullLayout b L_erased = Unit {0}
  FullLayout b (L_newtype nt) = TypeNumbers Q Q nt.nt_ty
  FullLayout b (L_struct cls) = FullKept b cls
  FullLayout b (L_abbrev c) = TypeNumbers Q Q c
  FullLayout b L_opaque = Unit {0}

  abbrev pub FullOption : ℕ → Option NewtypeLayout → Type 0
  FullOption b none = Unit {0}
  FullOption b (some nt) = TypeNumbers Q Q nt.nt_ty

  abbrev pub FullOrigin : ℕ → Origin → Type 0
  FullOrigin b here = Unit {0}
  FullOrigin b (imported ti) = FullLayout b ti.ti_layout

  pub record FullDecl (d : Decl) : Type 0 where
    pub dtype_full : FullDtype d.dtype
    pub origin_full : FullOrigin (body_fields d.dtype.dt_body) d.origin

-- ---- the layouts of a declaration
-- Q holds of kinds, and of what is less than a number that has it
module _ (Q : ℕ → Type 0) (kind : (n : ℕ) → n ≤ 12 → Q n) (down : (m n : ℕ) → m ≤ n → Q n → Q m) where
  ctors_full : (n : ℕ) (b : Body) → Q n → FullBody Q b → Q (length (ctors_of n b)) × Every (FullCtor Q) (ctors_of n b) × (ctor_fields (ctors_of n b) ≤ body_fields b)
  unfolding ctors_of ctor_fields body_fields
  ctors_full n TAbstract q h = (kind 0 (omega arith), tt, omega arith)
  ctors_full n (TAbbrev c) q h = (kind 0 (omega arith), tt, omega arith)
  ctors_full n (TRecord fs) q h = (kind 1 (omega arith), ((q, h.0, h.1), tt), omega arith)
  ctors_full n (TVariant cs) q h = (h.0, h.1, omega arith)

  ctor_layout_full : (tag : Option ℕ) (c : Ctor) (bs : List Bool) → FullCtor Q c → FullLayouts Q (ctor_layout tag c bs)
  unfolding ctor_layout
  ctor_layout_full tag c bs h = (h.0, down (length (kept bs c.ct_fields)) (length c.ct_fields) (length_kept bs c.ct_fields) h.1, every_kept (FullField Q) bs c.ct_fields h.2)

  layouts_by : (er : ℕ → Bool) (tag : ℕ → Option ℕ) (cs : List Ctor) → Every (FullCtor Q) cs →
      Every (FullLayouts Q) (layouts_of_ctors er tag cs) × (kept_fields (layouts_of_ctors er tag cs) ≤ ctor_fields cs)
  unfolding table kept_fields ctor_fields ctor_layout
  layouts_by er tag [] h = (tt, omega arith)
  layouts_by er tag (c ∷ cs) h =
      let k = layouts_by er (λ i. tag (suc i)) cs h.1 in
      ((ctor_layout_full (tag 0) c (slots er c.ct_fields) h.0, k.0), omega (arith, k.1, length_kept (slots er c.ct_fields) c.ct_fields))

  ctor_layouts_full : (er : ℕ → Bool) (d : Dtype) → FullDtype Q d → FullKept Q (body_fields d.dt_body) (ctor_layouts er d)
  unfolding ctor_layouts
  ctor_layouts_full er d h =
      let k = ctors_full d.dt_name d.dt_body h.name h.body in
      let r = layouts_by er _ (ctors_of_tydef d) k.1 in
      (rw length_table k.0, r.0, omega (arith, r.1, k.2))

  newtype_ctor_full : (b n : ℕ) (bs : List Bool) (fs : List Field) → Every (FullField Q) fs → FullOption Q b (newtype_of_ctor n bs fs)
  unfolding newtype_of_ctor
  newtype_ctor_full b n bs [] h = tt
  newtype_ctor_full b n bs (f ∷ []) h = uninline_numbers Q Q f.fd_type h.0.1
  newtype_ctor_full b n bs (f ∷ g ∷ fs) h = tt

  newtype_full : (b : ℕ) (cls : List CtorLayout) → Every (FullLayouts Q) cls → FullOption Q b (newtype_of cls)
  unfolding newtype_of
  newtype_full b [] h = tt
  newtype_full b (cl ∷ []) h = newtype_ctor_full b cl.cl_name cl.cl_slots cl.cl_fields h.0.2
  newtype_full b (cl ∷ cm ∷ cls) h = tt

  candidate_full : (b : ℕ) (d : Dtype) (o : Origin) (e : Bool) (cls : List CtorLayout) → Every (FullLayouts Q) cls → FullOption Q b (candidate d o e cls)
  unfolding candidate
  candidate_full b d (imported ti) e cls h = tt
  candidate_full b d here e cls h = go (e || has_flag d NoNewtype)
    where
      go : (c : Bool) → FullOption Q b (pick c none (newtype_of cls))
      go true = tt
      go false = newtype_full b cls h

  collapse_full : (b : ℕ) (drop : Bool) (cand : Option NewtypeLayout) (cls : List CtorLayout) → FullOption Q b cand → FullKept Q b cls → FullLayout Q b (collapse drop cand cls)
  unfolding collapse
  collapse_full b true cand cls h k = k
  collapse_full b false none cls h k = k
  collapse_full b false (some nt) cls h k = h

  body_full : (n : ℕ) (b : Body) (drop : Bool) (cand : Option NewtypeLayout) (cls : List CtorLayout) → FullBody Q b → FullOption Q n cand → FullKept Q n cls → FullLayout Q n (layout_of_body b drop cand cls)
  unfolding layout_of_body
  body_full n TAbstract drop cand cls h k l = tt
  body_full n (TAbbrev c) drop cand cls h k l = h
  body_full n (TRecord fs) drop cand cls h k l = collapse_full n drop cand cls k l
  body_full n (TVariant cs) drop cand cls h k l = collapse_full n drop cand cls k l

  layout_full : (d : Dtype) (o : Origin) (e drop : Bool) (cand : Option NewtypeLayout) (cls : List CtorLayout) → FullDtype Q d → FullOrigin Q (body_fields d.dt_body) o →
      FullOption Q (body_fields d.dt_body) cand → FullKept Q (body_fields d.dt_body) cls → FullLayout Q (body_fields d.dt_body) (layout_of d o e drop cand cls)
  unfolding layout_of
  layout_full d (imported ti) e drop cand cls h k l m = k
  layout_full d here true drop cand cls h k l m = tt
  layout_full d here false drop cand cls h k l m = body_full (body_fields d.dt_body) d.dt_body drop cand cls h.body l m

  -- ---- a program
  module _ (ds : List Decl) (full : Every (FullDecl Q) ds) where
    decl_full : (i : ℕ) → FullDecl Q (get_or ds i no_decl)
    decl_full i = go ds full i
      where
        go : (es : List Decl) → Every (FullDecl Q) es → (j : ℕ) → FullDecl Q (get_or es j no_decl)
        go [] h j =
            let z = kind 0 (omega arith) in
            record { dtype_full = record { name = z; flags = z; arity = z; params = tt; body = tt }; origin_full = tt }
        go (d ∷ es) h zero = h.0
        go (d ∷ es) h (suc j) = go es h.1 j

    layout_at_full : (s : List Bool) (i : ℕ) → FullLayout Q (body_fields (dtype_at ds i).dt_body) (get_or (compute_layouts ds s) i L_opaque)
    layout_at_full s i = go (ltb i (length ds)) refl
      where
        go : (c : Bool) → ltb i (length ds) ≡ c → FullLayout Q (body_fields (dtype_at ds i).dt_body) (get_or (compute_layouts ds s) i L_opaque)
        go true e =
            let l : i < length ds = ltb-true i (length ds) e in
            let f = decl_full i in
            let k = ctor_layouts_full (marked ds s) (dtype_at ds i) f.dtype_full in
            let n : ℕ = body_fields (dtype_at ds i).dt_body in
            rw (get_or_layouts ds s i L_opaque l)
            (layout_full (dtype_at ds i) (origin_at ds i) (get_or s i false) (dropped ds (passes_of ds s) i) (get_or (candidates_of ds s) i none) (ctor_layouts (marked ds s) (dtype_at ds i)) f.dtype_full f.origin_full
            (rw (get_or_candidates ds (marked ds s) s i none l) (candidate_full n (dtype_at ds i) (origin_at ds i) (get_or s i false) (ctor_layouts (marked ds s) (dtype_at ds i)) k.1))
            k)
        go false e = rw (get_or_layouts_past ds s i L_opaque (ltb-false i (length ds) e)) tt

    unfold_body_full : (ps : List ℕ) (b : Body) → FullBody Q b → UnfoldNumbers Q Q (unfold_body ps b)
    unfolding unfold_body
    unfold_body_full ps TAbstract h = tt
    unfold_body_full ps (TAbbrev c) h = h
    unfold_body_full ps (TRecord fs) h = tt
    unfold_body_full ps (TVariant cs) h = tt

    unfold_dtype_full : (d : Dtype) → FullDtype Q d → UnfoldNumbers Q Q (unfold_dtype d)
    unfolding unfold_dtype
    unfold_dtype_full d h = go (has_flag d Realized || has_flag d NoUnfold)
      where
        go : (c : Bool) → UnfoldNumbers Q Q (pick c stays (unfold_body d.dt_params d.dt_body))
        go true = tt
        go false = unfold_body_full d.dt_params d.dt_body h.body

    unfold_full : (b : ℕ) (d : Dtype) (l : Layout) → FullDtype Q d → FullLayout Q b l → UnfoldNumbers Q Q (unfold_of d l)
    unfolding unfold_of
    unfold_full b d L_erased h k = tt
    unfold_full b d (L_newtype nt) h k = k
    unfold_full b d (L_struct cls) h k = unfold_dtype_full d h
    unfold_full b d (L_abbrev c) h k = unfold_dtype_full d h
    unfold_full b d L_opaque h k = unfold_dtype_full d h

    lay_full : (n : ℕ) → UnfoldNumbers Q Q (lay ds n)
    unfolding unfold_name unfolds layouts_of
    lay_full n =
        ⊎_elim
        (λ d. rw (get_or_table u (length ds) i stays d)
        (unfold_full (body_fields (dtype_at ds i).dt_body) (dtype_at ds i) (get_or ls i L_opaque) (decl_full i).dtype_full (layout_at_full (erasure_fixpoint ds).marks i)))
        (λ e. let f : length ds ≤ i = omega arith in rw (get_or_table_past u (length ds) i stays f) tt)
        (declared_cases ds n)
      where
        i : ℕ
        i = position ds n

        ls : List Layout
        ls = layouts_of ds

        u : ℕ → Unfold
        u j = unfold_of (dtype_at ds j) (get_or ls j L_opaque)

  -- ---- the left declaration
  module _ (res : Cty → Cty) (rn : (c : Cty) → TypeNumbers Q Q c → TypeNumbers Q Q (res c)) where
    fields_left : (fs : List Field) → Every (FullField Q) fs → Every (FullField Q) (map (resolved_field res) fs)
    unfolding resolved_field
    fields_left [] h = tt
    fields_left (f ∷ fs) h = ((h.0.0, rn f.fd_type h.0.1), fields_left fs h.1)

    ctor_left : (cl : CtorLayout) → FullLayouts Q cl → FullCtor Q (resolved_ctor res cl)
    unfolding resolved_ctor
    ctor_left cl h = (h.0, rw length-map h.1, fields_left cl.cl_fields h.2)

    struct_left : (n : ℕ) (b : Body) (cls : List CtorLayout) → FullBody Q b → FullKept Q n cls → FullBody Q (struct_body res b cls)
    unfolding struct_body
    struct_left n TAbstract cls h k = tt
    struct_left n (TAbbrev c) cls h k = h
    struct_left n (TRecord fs) [] h k = h
    struct_left n (TRecord fs) (cl ∷ []) h k = let r = k.1.0 in (rw length-map r.1, fields_left cl.cl_fields r.2)
    struct_left n (TRecord fs) (cl ∷ cm ∷ cls) h k = h
    struct_left n (TVariant cs) cls h k =
        (rw length-map k.0, every_over (FullCtor Q) (resolved_ctor res) cls (every_map (FullLayouts Q) (λ cl. FullCtor Q (resolved_ctor res cl)) ctor_left cls k.1))

    abbrev with_full : (d : Dtype) (b : Body) → FullDtype Q d → FullBody Q b → FullDtype Q (with_body d b)
    with_full d b h k = record { name = h.name; flags = h.flags; arity = h.arity; params = h.params; body = k }

    pub rw_decl_full : (n : ℕ) (d : Dtype) (l : Layout) → FullDtype Q d → FullLayout Q n l → Left (FullDtype Q) (rw_decl res d l)
    unfolding rw_decl collapsed_abbrev
    rw_decl_full n d L_erased h k = tt
    rw_decl_full n d (L_newtype nt) h k =
        go (all_in d.dt_params (cty_vars (res nt.nt_ty)) && not (member d.dt_name (names_of_cty (res nt.nt_ty))))
      where
        go : (c : Bool) → Left (FullDtype Q) (pick c (some (with_body d (TAbbrev (res nt.nt_ty)))) none)
        go true = with_full d (TAbbrev (res nt.nt_ty)) h (rn nt.nt_ty k)
        go false = tt
    rw_decl_full n d (L_struct cls) h k = with_full d (struct_body res d.dt_body cls) h (struct_left n d.dt_body cls h.body k)
    rw_decl_full n d (L_abbrev c) h k = with_full d (TAbbrev (res c)) h (rn c k)
    rw_decl_full n d L_opaque h k = h

  -- Q holds of every number of the program that is left
  pub run_full : (fuel : ℕ) (ds : List Decl) → Every (FullDecl Q) ds → Every (FullDtype Q) (left_program (run fuel ds))
  unfolding left_at layouts_of
  run_full fuel ds h =
      rw (run_lefts fuel ds)
      (somes_every (FullDtype Q) (left_at fuel ds) (length ds)
      (λ i l. left_full i))
    where
      left_full : (i : ℕ) → Left (FullDtype Q) (left_at fuel ds i)
      left_full i =
          rw_decl_full (resolve (lay ds) fuel) (resolve_numbers Q Q (lay ds) (lay_full ds h) fuel) (body_fields (dtype_at ds i).dt_body) (dtype_at ds i) (get_or (layouts_of ds) i L_opaque) (decl_full ds h i).dtype_full (layout_at_full ds h (erasure_fixpoint ds).marks i)

  -- the parts that the lines of the left sheet are made of
  fields_split : (fs : List Field) → Every (FullField Q) fs → Every (FieldNumbers Q) fs × Every (TypeNumbers Q Q) (types_of_fields fs)
  unfolding types_of_fields
  fields_split [] h = (tt, tt)
  fields_split (f ∷ fs) h = let k = fields_split fs h.1 in ((h.0.0, k.0), (h.0.1, k.1))

  ctors_split : (cs : List Ctor) → Every (FullCtor Q) cs → Every (CtorNumbers Q) cs × Every (TypeNumbers Q Q) (types_of_ctors cs)
  unfolding types_of_ctors
  ctors_split [] h = (tt, tt)
  ctors_split (c ∷ cs) h =
      let f = fields_split c.ct_fields h.0.2 in
      let k = ctors_split cs h.1 in
      (((h.0.0, h.0.1, f.0), k.0), every_append (TypeNumbers Q Q) (types_of_fields c.ct_fields) (types_of_ctors cs) f.1 k.1)

  body_split : (b : Body) → FullBody Q b → BodyNumbers Q b × Every (TypeNumbers Q Q) (types_of_body b)
  unfolding types_of_body
  body_split TAbstract h = (tt, tt)
  body_split (TAbbrev c) h = (tt, (h, tt))
  body_split (TRecord fs) h = let f = fields_split fs h.1 in ((h.0, f.0), f.1)
  body_split (TVariant cs) h = let k = ctors_split cs h.1 in ((h.0, k.0), k.1)

  pub full_split : (ds : List Dtype) → Every (FullDtype Q) ds → Every (DtypeNumbers Q) ds × Every (TypeNumbers Q Q) (types_of ds)
  unfolding types_of
  full_split [] h = (tt, tt)
  full_split (d ∷ ds) h =
      let b = body_split d.dt_body h.0.body in
      let k = full_split ds h.1 in
      ((record { name = h.0.name; flags = h.0.flags; arity = h.0.arity; params = h.0.params; body = b.0 }, k.0), every_append (TypeNumbers Q Q) (types_of_body d.dt_body) (types_of ds) b.1 k.1)

-- ---- how many types are left
length_types : (fs : List Field) → length (types_of_fields fs) ≡ length fs
unfolding types_of_fields
length_types [] = refl
length_types (f ∷ fs) = ap suc (length_types fs)

length_ctors : (cs : List Ctor) → length (types_of_ctors cs) ≡ ctor_fields cs
unfolding types_of_ctors ctor_fields
length_ctors [] = refl
length_ctors (c ∷ cs) = rw (length-append, length_types c.ct_fields, length_ctors cs)

length_body : (b : Body) → length (types_of_body b) ≤ suc (body_fields b)
unfolding types_of_body body_fields
length_body TAbstract = omega arith
length_body (TAbbrev c) = omega arith
length_body (TRecord fs) = omega (arith, length_types fs)
length_body (TVariant cs) = omega (arith, length_ctors cs)

-- a layout that keeps at most b fields
abbrev pub Keeps : ℕ → Layout → Type 0
Keeps b L_erased = Unit {0}
Keeps b (L_newtype nt) = Unit {0}
Keeps b (L_struct cls) = kept_fields cls ≤ b
Keeps b (L_abbrev c) = Unit {0}
Keeps b L_opaque = Unit {0}

module _ (res : Cty → Cty) where
  left_fields : (cls : List CtorLayout) → ctor_fields (map (resolved_ctor res) cls) ≡ kept_fields cls
  unfolding ctor_fields kept_fields resolved_ctor
  left_fields [] = refl
  left_fields (cl ∷ cls) = rw (length-map, left_fields cls)

  struct_fields : (b : Body) (cls : List CtorLayout) → kept_fields cls ≤ body_fields b → length (types_of_body (struct_body res b cls)) ≤ suc (body_fields b)
  unfolding struct_body types_of_body body_fields kept_fields
  struct_fields TAbstract cls h = omega arith
  struct_fields (TAbbrev c) cls h = omega arith
  struct_fields (TRecord fs) [] h = omega (arith, length_types fs)
  struct_fields (TRecord fs) (cl ∷ []) h = rw (length_types, length-map) (omega arith)
  struct_fields (TRecord fs) (cl ∷ cm ∷ cls) h = omega (arith, length_types fs)
  struct_fields (TVariant cs) cls h = rw (length_ctors, left_fields cls) (omega arith)

  -- no more than it has fields, or one
  pub rw_decl_count : (d : Dtype) (l : Layout) → Keeps (body_fields d.dt_body) l → Left (λ e. length (types_of_body e.dt_body) ≤ suc (body_fields d.dt_body)) (rw_decl res d l)
  unfolding rw_decl collapsed_abbrev types_of_body
  rw_decl_count d L_erased h = tt
  rw_decl_count d (L_newtype nt) h =
      go (all_in d.dt_params (cty_vars (res nt.nt_ty)) && not (member d.dt_name (names_of_cty (res nt.nt_ty))))
    where
      go : (c : Bool) → Left (λ e. length (types_of_body e.dt_body) ≤ suc (body_fields d.dt_body)) (pick c (some (with_body d (TAbbrev (res nt.nt_ty)))) none)
      go true = omega arith
      go false = tt
  rw_decl_count d (L_struct cls) h = struct_fields d.dt_body cls h
  rw_decl_count d (L_abbrev c) h = omega arith
  rw_decl_count d L_opaque h = length_body d.dt_body

-- one for each declaration and each field
unfoldable pub weights : List Decl → ℕ
weights [] = 0
weights (d ∷ ds) = suc (body_fields d.dtype.dt_body) + weights ds

somes_count : (g : ℕ → Option Dtype) (ds : List Decl) → ((i : ℕ) → i < length ds → Left (λ e. length (types_of_body e.dt_body) ≤ suc (body_fields (dtype_at ds i).dt_body)) (g i)) →
    length (types_of (somes (table g (length ds)))) ≤ weights ds
unfolding somes table types_of weights
somes_count g [] h = omega arith
somes_count g (d ∷ ds) h = go (g 0) (h 0 (omega arith)) (somes_count (λ i. g (suc i)) ds (λ i l. h (suc i) (omega arith)))
  where
    go : (o : Option Dtype) → Left (λ e. length (types_of_body e.dt_body) ≤ suc (body_fields d.dtype.dt_body)) o →
        length (types_of (somes (table (λ i. g (suc i)) (length ds)))) ≤ weights ds →
        length (types_of (somes (o ∷ table (λ i. g (suc i)) (length ds)))) ≤ suc (body_fields d.dtype.dt_body) + weights ds
    go none p k = omega arith
    go (some e) p k = rw length-append (omega arith)

full_keeps : (Q : ℕ → Type 0) (b : ℕ) (l : Layout) → FullLayout Q b l → Keeps b l
full_keeps Q b L_erased h = tt
full_keeps Q b (L_newtype nt) h = tt
full_keeps Q b (L_struct cls) h = h.2
full_keeps Q b (L_abbrev c) h = tt
full_keeps Q b L_opaque h = tt

pub run_count : (Q : ℕ → Type 0) (kind : (n : ℕ) → n ≤ 12 → Q n) (down : (m n : ℕ) → m ≤ n → Q n → Q m) (fuel : ℕ) (ds : List Decl) → Every (FullDecl Q) ds →
    length (types_of (left_program (run fuel ds))) ≤ weights ds
unfolding left_at layouts_of
run_count Q kind down fuel ds h =
    rw (run_lefts fuel ds)
    (somes_count (left_at fuel ds) ds
    (λ i l. rw_decl_count (resolve (lay ds) fuel) (dtype_at ds i) (get_or (layouts_of ds) i L_opaque)
    (full_keeps Q (body_fields (dtype_at ds i).dt_body) (get_or (layouts_of ds) i L_opaque) (layout_at_full Q kind down ds h (erasure_fixpoint ds).marks i))))

-- ---- the types that are left
module _ (P : Cty → Type 0) where
  fields_types : (fs : List Field) → Fields P fs → Every P (types_of_fields fs)
  unfolding types_of_fields
  fields_types [] h = tt
  fields_types (f ∷ fs) h = (h.0, fields_types fs h.1)

  ctors_types : (cs : List Ctor) → Ctors P cs → Every P (types_of_ctors cs)
  unfolding types_of_ctors
  ctors_types [] h = tt
  ctors_types (c ∷ cs) h = every_append P (types_of_fields c.ct_fields) (types_of_ctors cs) (fields_types c.ct_fields h.0) (ctors_types cs h.1)

  body_types : (b : Body) → BodyTypes P b → Every P (types_of_body b)
  unfolding types_of_body
  body_types TAbstract h = tt
  body_types (TAbbrev c) h = (h, tt)
  body_types (TRecord fs) h = fields_types fs h
  body_types (TVariant cs) h = ctors_types cs h

  types_every : (ds : List Dtype) → Every (λ d. BodyTypes P d.dt_body) ds → Every P (types_of ds)
  unfolding types_of
  types_every [] h = tt
  types_every (d ∷ ds) h = every_append P (types_of_body d.dt_body) (types_of ds) (body_types d.dt_body h.0) (types_every ds h.1)

  -- what holds of the types of each left declaration holds of the types that are written
  pub run_types : (fuel : ℕ) (ds : List Decl) → ((i : ℕ) → i < length ds → LeftTypes P (left_at fuel ds i)) → Every P (types_of (left_program (run fuel ds)))
  run_types fuel ds h =
      rw (run_lefts fuel ds)
      (types_every (somes (table (left_at fuel ds) (length ds)))
      (somes_every (λ d. BodyTypes P d.dt_body) (left_at fuel ds) (length ds) h))

-- No name that is unfolded, and none that is erased, is named in the left sheet.
pub left_sheet_normal : (fuel : ℕ) (ls : List Line) (ds : List Decl) → ((i : ℕ) → i < length ds → LeftTypes (Normal (lay ds)) (left_at fuel ds i)) →
    (l : Line) → Memᴰ l (left_lines ls (left_program (run fuel ds))) → letter l ≡ type_line → number l 0 ≡ 8 → lay ds (number l 1) ≡ stays
left_sheet_normal fuel ls ds h =
    left_names (Stays (lay ds)) ls (left_program (run fuel ds))
    (every_map (Normal (lay ds)) (NamesIn (Stays (lay ds))) (λ c a. all_names (Stays (lay ds)) c a) (types_of (left_program (run fuel ds))) (run_types (Normal (lay ds)) fuel ds h))

-- ---- the left program fits
below_down : (M m n : ℕ) → m ≤ n → n < M → m < M
below_down M m n h k = omega arith

-- Where the program's numbers fit and the types that are left are of at most limit nodes each.
pub run_fits : (w limit fuel : ℕ) (ds : List Decl) → 12 < 10 ^ w → Every (FullDecl (λ n. n < 10 ^ w)) ds →
    ((i : ℕ) → i < length ds → LeftTypes (λ t. size t ≤ limit) (left_at fuel ds i)) → limit * weights ds < 10 ^ w → ProgramFits w (left_program (run fuel ds))
run_fits w limit fuel ds small h t b =
    let Q : ℕ → Type 0 = λ n. n < 10 ^ w in
    let kind : (n : ℕ) → n ≤ 12 → Q n = λ n k. omega arith in
    let f = full_split Q kind (below_down (10 ^ w)) (left_program (run fuel ds)) (run_full Q kind (below_down (10 ^ w)) fuel ds h) in
    let c : length (types_of (left_program (run fuel ds))) ≤ weights ds = run_count Q kind (below_down (10 ^ w)) fuel ds h in
    let n : total (types_of (left_program (run fuel ds))) ≤ limit * length (types_of (left_program (run fuel ds))) = total_bound limit (types_of (left_program (run fuel ds))) (run_types (λ t. size t ≤ limit) fuel ds t) in
    record { kinds = small; nodes = omega (arith, n, mul-le-mul_left limit c); types = f.1; decls = f.0 }

-- ---- parts of a list of lines
length_select : (x : ℕ) (ls : List Line) → length (select x ls) ≤ length ls
unfolding select
length_select x [] = omega arith
length_select x (l ∷ ls) = go (is x l) (length_select x ls)
  where
    go : (c : Bool) → length (select x ls) ≤ length ls → length (pick c (l ∷ select x ls) (select x ls)) ≤ suc (length ls)
    go true k = omega arith
    go false k = omega arith

select_one : (x : ℕ) (l : Line) (ls : List Line) → length (select x ls) ≤ length (select x (l ∷ ls))
unfolding select
select_one x l ls = go (is x l)
  where
    go : (c : Bool) → length (select x ls) ≤ length (pick c (l ∷ select x ls) (select x ls))
    go true = omega arith
    go false = omega arith

every_before : (P : Line → Type 0) (p : Line → Bool) (ls : List Line) → Every P ls → Every P (before p ls)
unfolding before
every_before P p [] h = tt
every_before P p (l ∷ ls) h = go (p l) (every_before P p ls h.1)
  where
    go : (c : Bool) → Every P (before p ls) → Every P (pick c [] (l ∷ before p ls))
    go true k = tt
    go false k = (h.0, k)

length_before : (p : Line → Bool) (ls : List Line) → length (before p ls) ≤ length ls
unfolding before
length_before p [] = omega arith
length_before p (l ∷ ls) = go (p l) (length_before p ls)
  where
    go : (c : Bool) → length (before p ls) ≤ length ls → length {A = Line} (pick c [] (l ∷ before p ls)) ≤ suc (length ls)
    go true k = omega arith
    go false k = omega arith

-- a group of at most n lines after its first, of all of which P holds
pub record Held (P : Line → Type 0) (n : ℕ) (g : Group) : Type 0 where
  pub head_held : P g.head
  pub rest_held : Every P g.rest
  pub rest_length : length g.rest ≤ n

every_groups : (P : Line → Type 0) (n : ℕ) (p : Line → Bool) (ls : List Line) → Every P ls → length ls ≤ n → Every (Held P n) (groups p ls) × (length (groups p ls) ≤ length ls)
unfolding groups
every_groups P n p [] h b = (tt, omega arith)
every_groups P n p (l ∷ ls) h b = go (p l) (every_groups P n p ls h.1 (omega arith))
  where
    g : Group
    g = record { head = l; rest = before p ls }

    go : (c : Bool) → Every (Held P n) (groups p ls) × (length (groups p ls) ≤ length ls) →
        Every (Held P n) (pick c (g ∷ groups p ls) (groups p ls)) × (length (pick c (g ∷ groups p ls) (groups p ls)) ≤ suc (length ls))
    go true k = ((record { head_held = h.0; rest_held = every_before P p ls h.1; rest_length = omega (arith, length_before p ls) }, k.0), omega (arith, k.1))
    go false k = (k.0, omega (arith, k.1))

-- the lines of a letter in groups, but for the lines that begin them
unfoldable rests : ℕ → List Group → ℕ
rests x [] = 0
rests x (g ∷ gs) = count_of x g.rest + rests x gs

rests_flat : (x : ℕ) (gs : List Group) → rests x gs ≤ count_of x (flat gs)
unfolding rests flat
rests_flat x [] = omega arith
rests_flat x (g ∷ gs) =
    rw (select_append x (g.head ∷ g.rest) (flat gs), length-append) (omega (arith, select_one x g.head g.rest, rests_flat x gs))

rests_groups : (x : ℕ) (p : Line → Bool) (ls : List Line) → rests x (groups p ls) ≤ count_of x ls
rests_groups x p ls =
    let e : count_of x (before p ls ++ flat (groups p ls)) ≡ count_of x ls = ap (λ (r : List Line). count_of x r) (before_flat p ls) in
    omega (arith, rests_flat x (groups p ls), e, ap length (select_append x (before p ls) (flat (groups p ls))), length-append (select x (before p ls)) (select x (flat (groups p ls))))

-- ---- the program of a sheet
-- Q holds of every number of a line
abbrev pub Numbered : (ℕ → Type 0) → Line → Type 0
Numbered Q l = (k : ℕ) → Q (number l k)

-- of a Y line too, and S of the sign of an integer
pub record Signed (S Q : ℕ → Type 0) (l : Line) : Type 0 where
  pub numbers : Numbered Q l
  pub sign : number l 0 ≡ 4 → S (number l 1)

signed : (Q : ℕ → Type 0) (ls : List Line) → Every (Numbered Q) ls → Every (Signed Q Q) ls
signed Q [] h = tt
signed Q (l ∷ ls) h = (record { numbers = h.0; sign = λ e. h.0 1 }, signed Q ls h.1)

module _ (S Q : ℕ → Type 0) where
  pub get_or_numbers : (ts : List Cty) (i : ℕ) → Every (TypeNumbers S Q) ts → TypeNumbers S Q (get_or ts i TUnit)
  get_or_numbers [] i h = tt
  get_or_numbers (t ∷ ts) zero h = h.0
  get_or_numbers (t ∷ ts) (suc i) h = get_or_numbers ts i h.1

  list_numbers : (ts : List Cty) (xs : List ℕ) (i k : ℕ) → Every (TypeNumbers S Q) ts → TypesNumbers S Q (list_of ts xs i k)
  unfolding list_of
  list_numbers ts xs i zero h = tt
  list_numbers ts xs i (suc k) h = (get_or_numbers ts (get_or xs i 0) h, list_numbers ts xs (suc i) k h)

  tree_numbers : (ts : List Cty) (xs : List ℕ) (k a b c : ℕ) → Every (TypeNumbers S Q) ts → Q a → Q b → Q c → (k ≡ 4 → S a) → TypeNumbers S Q (tree ts xs k a b c)
  unfolding tree
  tree_numbers ts xs k a b c h qa qb qc s = go (eqb k 1) (eqb k 2) (eqb k 3) (eqb k 4) refl (eqb k 5) (eqb k 6) (eqb k 7) (eqb k 8) (eqb k 9) (eqb k 10) (eqb k 11) (eqb k 12)
    where
      go : (x1 x2 x3 x4 : Bool) → eqb k 4 ≡ x4 → (x5 x6 x7 x8 x9 x10 x11 x12 : Bool) → TypeNumbers S Q (
          x1 ⇒ TAny ∥
          x2 ⇒ TExn ∥
          x3 ⇒ TVar a ∥
          x4 ⇒ TInt a b ∥
          x5 ⇒ TFloat a ∥
          x6 ⇒ TConst a ∥
          x7 ⇒ TArrow (get_or ts a TUnit) b (get_or ts c TUnit) ∥
          x8 ⇒ TApp a (list_of ts xs b c) ∥
          x9 ⇒ TTuple (list_of ts xs a b) ∥
          x10 ⇒ TBuf (get_or ts a TUnit) ∥
          x11 ⇒ TRef a (get_or ts b TUnit) ∥
          x12 ⇒ TInline (get_or ts a TUnit) ∥
          TUnit)
      go true x2 x3 x4 e x5 x6 x7 x8 x9 x10 x11 x12 = tt
      go false true x3 x4 e x5 x6 x7 x8 x9 x10 x11 x12 = tt
      go false false true x4 e x5 x6 x7 x8 x9 x10 x11 x12 = qa
      go false false false true e x5 x6 x7 x8 x9 x10 x11 x12 = (s (eqb-true k 4 e), qb)
      go false false false false e true x6 x7 x8 x9 x10 x11 x12 = qa
      go false false false false e false true x7 x8 x9 x10 x11 x12 = qa
      go false false false false e false false true x8 x9 x10 x11 x12 = (get_or_numbers ts a h, qb, get_or_numbers ts c h)
      go false false false false e false false false true x9 x10 x11 x12 = (qa, list_numbers ts xs b c h)
      go false false false false e false false false false true x10 x11 x12 = list_numbers ts xs a b h
      go false false false false e false false false false false true x11 x12 = get_or_numbers ts a h
      go false false false false e false false false false false false true x12 = (qa, get_or_numbers ts b h)
      go false false false false e false false false false false false false true = get_or_numbers ts a h
      go false false false false e false false false false false false false false = tt

  pub trees_after_numbers : (xs : List ℕ) (ts : List Cty) (ls : List Line) → Every (TypeNumbers S Q) ts → Every (Signed S Q) ls → Every (TypeNumbers S Q) (trees_after xs ts ls)
  unfolding trees_after
  trees_after_numbers xs ts [] h k = h
  trees_after_numbers xs ts (l ∷ ls) h k =
      let t : Cty = tree ts xs (number l 0) (number l 1) (number l 2) (number l 3) in
      trees_after_numbers xs (ts ++ (t ∷ [])) ls
      (every_append (TypeNumbers S Q) ts (t ∷ []) h (tree_numbers ts xs (number l 0) (number l 1) (number l 2) (number l 3) h (k.0.numbers 1) (k.0.numbers 2) (k.0.numbers 3) k.0.sign, tt)) k.1

module _ (Q : ℕ → Type 0) (kind : (n : ℕ) → n ≤ 12 → Q n) (down : (m n : ℕ) → m ≤ n → Q n → Q m) where
  pub trees_numbers : (ls : List Line) → Every (Numbered Q) ls → Every (TypeNumbers Q Q) (trees ls)
  unfolding trees
  trees_numbers ls h =
      trees_after_numbers Q Q (map (λ l. number l 0) (select arg_line ls)) [] (select type_line ls) tt (signed Q (select type_line ls) (every_select (Numbered Q) type_line ls h))

  module _ (ts : List Cty) (ht : Every (TypeNumbers Q Q) ts) (n : ℕ) (qn : Q n) where
    few : (m : ℕ) → m ≤ n → Q m
    few m h = down m n h qn

    fields_full : (ls : List Line) → Every (Numbered Q) ls → Every (FullField Q) (map (field_of ts) (select field_line ls))
    unfolding field_of
    fields_full ls h =
        every_over (FullField Q) (field_of ts) (select field_line ls)
        (every_map (Numbered Q) (λ l. FullField Q (field_of ts l)) (λ l k. (k 0, get_or_numbers Q Q ts (number l 1) ht)) (select field_line ls) (every_select (Numbered Q) field_line ls h))

    ctor_full : (g : Group) → Held (Numbered Q) n g → FullCtor Q (ctor_of ts g)
    unfolding ctor_of
    ctor_full g h = (h.head_held 0, rw length-map (few (length (select field_line g.rest)) (omega (arith, length_select field_line g.rest, h.rest_length))), fields_full g.rest h.rest_held)

    body_of_full : (k last : ℕ) (ls : List Line) → Every (Numbered Q) ls → length ls ≤ n → FullBody Q (body_of ts k last ls)
    unfolding body_of
    body_of_full k last ls h b = go (eqb k 1) (eqb k 2) (eqb k 3)
      where
        go : (x y z : Bool) → FullBody Q (
            x ⇒ TAbbrev (get_or ts last TUnit) ∥
            y ⇒ TRecord (map (field_of ts) (select field_line ls)) ∥
            z ⇒ TVariant (map (ctor_of ts) (groups (is ctor_line) ls)) ∥
            TAbstract)
        go true y z = get_or_numbers Q Q ts last ht
        go false true z = (rw length-map (few (length (select field_line ls)) (omega (arith, length_select field_line ls))), fields_full ls h)
        go false false true =
            let gs = every_groups (Numbered Q) n (is ctor_line) ls h b in
            (rw length-map (few (length (groups (is ctor_line) ls)) (omega (arith, gs.1))), every_over (FullCtor Q) (ctor_of ts) (groups (is ctor_line) ls) (every_map (Held (Numbered Q) n) (λ g. FullCtor Q (ctor_of ts g)) ctor_full (groups (is ctor_line) ls) gs.0))
        go false false false = tt

    dtype_of_full : (g : Group) → Held (Numbered Q) n g → FullDtype Q (dtype_of ts g)
    unfolding dtype_of
    dtype_of_full g h =
        record {
          name = h.head_held 0;
          flags = h.head_held 1;
          arity = rw length-map (few (length (select param_line g.rest)) (omega (arith, length_select param_line g.rest, h.rest_length)));
          params =
              every_over Q (λ l. number l 0) (select param_line g.rest)
              (every_map (Numbered Q) (λ l. Q (number l 0)) (λ l k. k 0) (select param_line g.rest) (every_select (Numbered Q) param_line g.rest h.rest_held));
          body = body_of_full (number g.head 2) (number g.head 4) g.rest h.rest_held h.rest_length;
        }

    close_fields_full : (ps : List ℕ) (fs : List Field) → Every (FullField Q) fs → Every (FullField Q) (map (close_field ps) fs)
    unfolding close_field
    close_fields_full ps [] h = tt
    close_fields_full ps (f ∷ fs) h = ((h.0.0, close_numbers Q Q ps f.fd_type h.0.1), close_fields_full ps fs h.1)

    close_ctors_full : (ps : List ℕ) (cs : List Ctor) → Every (FullCtor Q) cs → Every (FullCtor Q) (map (λ c. record { ct_name = c.ct_name; ct_fields = map (close_field ps) c.ct_fields }) cs)
    close_ctors_full ps [] h = tt
    close_ctors_full ps (c ∷ cs) h = ((h.0.0, rw length-map h.0.1, close_fields_full ps c.ct_fields h.0.2), close_ctors_full ps cs h.1)

    close_body_full : (ps : List ℕ) (b : Body) → FullBody Q b → FullBody Q (close_body ps b)
    unfolding close_body
    close_body_full ps TAbstract h = tt
    close_body_full ps (TAbbrev c) h = close_numbers Q Q ps c h
    close_body_full ps (TRecord fs) h = (rw length-map h.0, close_fields_full ps fs h.1)
    close_body_full ps (TVariant cs) h = (rw length-map h.0, close_ctors_full ps cs h.1)

    close_full : (d : Dtype) → FullDtype Q d → FullDtype Q (close_fields d)
    unfolding close_fields
    close_full d h = record { name = h.name; flags = h.flags; arity = h.arity; params = h.params; body = close_body_full d.dt_params d.dt_body h.body }

    -- an import's layout, by its keep numbers
    by_full : (tag : ℕ → Option ℕ) (cs : List Ctor) (bss : List (List Bool)) → Every (FullCtor Q) cs →
        Every (FullLayouts Q) (ctor_layouts_by tag cs bss) × (kept_fields (ctor_layouts_by tag cs bss) ≤ ctor_fields cs) × (length (ctor_layouts_by tag cs bss) ≤ length cs)
    unfolding ctor_layouts_by kept_fields ctor_fields ctor_layout
    by_full tag [] bss h = (tt, omega arith, omega arith)
    by_full tag (c ∷ cs) [] h = (tt, omega arith, omega arith)
    by_full tag (c ∷ cs) (bs ∷ bss) h =
        let k = by_full (λ i. tag (suc i)) cs bss h.1 in
        ((ctor_layout_full Q kind down (tag 0) c bs h.0, k.0), omega (arith, k.1, length_kept bs c.ct_fields), omega (arith, k.2))

    abbreviated_full : (m : ℕ) (b : Body) → FullBody Q b → FullLayout Q m (abbreviated b)
    abbreviated_full m TAbstract h = tt
    abbreviated_full m (TAbbrev c) h = h
    abbreviated_full m (TRecord fs) h = tt
    abbreviated_full m (TVariant cs) h = tt

    layout_by_full : (m k : ℕ) (b : Body) (cls : List CtorLayout) → FullBody Q b → FullKept Q m cls → FullLayout Q m (layout_by k b cls)
    unfolding layout_by
    layout_by_full m k b cls h c = go (eqb k 0) (eqb k 1) (eqb k 2) (eqb k 3)
      where
        go : (x y z v : Bool) → FullLayout Q m (x ⇒ L_erased ∥ y ⇒ collapse false (newtype_of cls) cls ∥ z ⇒ L_struct cls ∥ v ⇒ abbreviated b ∥ L_opaque)
        go true y z v = tt
        go false true z v = collapse_full Q kind down m false (newtype_of cls) cls (newtype_full Q kind down m cls c.1) c
        go false false true v = c
        go false false false true = abbreviated_full m b h
        go false false false false = tt

    info_full : (d : Dtype) (ls : List Line) (v : Line) → FullDtype Q d → FullLayout Q (body_fields d.dt_body) (info_of d ls v).ti_layout
    unfolding info_of
    info_full d ls v h =
        let k = ctors_full Q kind down d.dt_name d.dt_body h.name h.body in
        let bss : List (List Bool) = keeps_of d.dt_body ls in
        let r = by_full (tags ls) (ctors_of_tydef d) bss k.1 in
        layout_by_full (body_fields d.dt_body) (number v 1) d.dt_body (ctor_layouts_by (tags ls) (ctors_of_tydef d) bss) h.body
        (down (length (ctor_layouts_by (tags ls) (ctors_of_tydef d) bss)) (length (ctors_of_tydef d)) r.2 k.0, r.0, omega (arith, r.1, k.2))

    decl_of_full : (g : Group) → Held (Numbered Q) n g → FullDecl Q (decl_of ts g)
    unfolding decl_of
    decl_of_full g h =
        let d : Dtype = close_fields (dtype_of ts g) in
        let f : FullDtype Q d = close_full (dtype_of ts g) (dtype_of_full g h) in
        record { dtype_full = f; origin_full = go d f (is import_line g.head) }
      where
        go : (d : Dtype) → FullDtype Q d → (c : Bool) → FullOrigin Q (body_fields d.dt_body) (pick c (imported (info_of d g.rest (verdict_of g.rest))) here)
        go d f true = info_full d g.rest (verdict_of g.rest) f
        go d f false = tt

  -- What holds of every number of the lines, and of their count, holds of every number of the program.
  pub program_full : (ls : List Line) → Every (Numbered Q) ls → Q (length ls) → Every (FullDecl Q) (program ls)
  unfolding program
  program_full ls h q =
      let gs = every_groups (Numbered Q) (length ls) is_head ls h (omega arith) in
      every_over (FullDecl Q) (decl_of (trees ls)) (groups is_head ls)
      (every_map (Held (Numbered Q) (length ls)) (λ g. FullDecl Q (decl_of (trees ls) g)) (decl_of_full (trees ls) (trees_numbers ls h) (length ls) q) (groups is_head ls) gs.0)

-- ---- one type for each declaration and each F line
groups_fields : (ts : List Cty) (gs : List Group) → ctor_fields (map (ctor_of ts) gs) ≡ rests field_line gs
unfolding ctor_fields rests ctor_of
groups_fields ts [] = refl
groups_fields ts (g ∷ gs) = rw (length-map, groups_fields ts gs)

body_of_fields : (ts : List Cty) (k last : ℕ) (ls : List Line) → body_fields (body_of ts k last ls) ≤ count_of field_line ls
unfolding body_of body_fields
body_of_fields ts k last ls = go (eqb k 1) (eqb k 2) (eqb k 3)
  where
    go : (x y z : Bool) → body_fields (
        x ⇒ TAbbrev (get_or ts last TUnit) ∥
        y ⇒ TRecord (map (field_of ts) (select field_line ls)) ∥
        z ⇒ TVariant (map (ctor_of ts) (groups (is ctor_line) ls)) ∥
        TAbstract) ≤ count_of field_line ls
    go true y z = omega arith
    go false true z = rw length-map (omega arith)
    go false false true = rw (groups_fields ts (groups (is ctor_line) ls)) (rests_groups field_line (is ctor_line) ls)
    go false false false = omega arith

close_ctor_fields : (ps : List ℕ) (cs : List Ctor) → ctor_fields (map (λ c. record { ct_name = c.ct_name; ct_fields = map (close_field ps) c.ct_fields }) cs) ≡ ctor_fields cs
unfolding ctor_fields
close_ctor_fields ps [] = refl
close_ctor_fields ps (c ∷ cs) = rw (length-map, close_ctor_fields ps cs)

close_body_fields : (ps : List ℕ) (b : Body) → body_fields (close_body ps b) ≡ body_fields b
unfolding body_fields close_body
close_body_fields ps TAbstract = refl
close_body_fields ps (TAbbrev c) = refl
close_body_fields ps (TRecord fs) = length-map fs (close_field ps)
close_body_fields ps (TVariant cs) = close_ctor_fields ps cs

weights_groups : (ts : List Cty) (gs : List Group) → weights (map (decl_of ts) gs) ≤ length gs + rests field_line gs
unfolding weights rests decl_of close_fields dtype_of
weights_groups ts [] = omega arith
weights_groups ts (g ∷ gs) =
    omega (arith, weights_groups ts gs, close_body_fields (dtype_of ts g).dt_params (dtype_of ts g).dt_body, body_of_fields ts (number g.head 2) (number g.head 4) g.rest)

pub weights_program : (ls : List Line) → weights (program ls) ≤ heads ls + count_of field_line ls
unfolding program
weights_program ls =
    omega (arith, weights_groups (trees ls) (groups is_head ls), length_groups ls, rests_groups field_line is_head ls)

-- ---- the left sheet fits
-- The lines of the left sheet fit where the sheet's lines do, the types that are left are of at most limit nodes each, and so many
-- nodes for each declaration and each F line can be counted.
pub sheet_fits : (w limit fuel : ℕ) (ls : List Line) → 12 < 10 ^ w → AllFit w ls → length ls < 10 ^ w → limit * (heads ls + count_of field_line ls) < 10 ^ w →
    ((i : ℕ) → i < length (program ls) → LeftTypes (λ t. size t ≤ limit) (left_at fuel (program ls) i)) → AllFit w (left_lines ls (left_program (run fuel (program ls))))
sheet_fits w limit fuel ls k h n b t =
    let Q : ℕ → Type 0 = λ m. m < 10 ^ w in
    let f : Every (Numbered Q) ls = every_map (Fits w) (Numbered Q) (λ l p i. number_fits w (omega arith) l i p) ls h in
    left_fits w ls (left_program (run fuel (program ls))) h
    (run_fits w limit fuel (program ls) k (program_full Q (λ m j. omega arith) (below_down (10 ^ w)) ls f n) t (omega (arith, b, mul-le-mul_left limit (weights_program ls))))

pub sheet_round : (w limit fuel : ℕ) (ls : List Line) → 12 < 10 ^ w → AllFit w ls → length ls < 10 ^ w → limit * (heads ls + count_of field_line ls) < 10 ^ w →
    ((i : ℕ) → i < length (program ls) → LeftTypes (λ t. size t ≤ limit) (left_at fuel (program ls) i)) →
    lines w (encodes w (left_lines ls (left_program (run fuel (program ls))))) ≡ left_lines ls (left_program (run fuel (program ls)))
sheet_round w limit fuel ls k h n b t = lines_encodes w (left_lines ls (left_program (run fuel (program ls)))) (columns_positive w k) (sheet_fits w limit fuel ls k h n b t)
