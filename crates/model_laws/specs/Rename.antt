-- Names are numbers, and no verdict depends on their choice: a program whose names are renumbered by an
-- injective ρ runs as the program itself, with renumbered verdicts and left declarations. With locality,
-- two programs may so be compared whose numbers for the same names differ. Assumes nothing.
use Rattle.std.specs.Prelude.{◌≡◌, ◌&&◌, ◌||◌, leb, length}
use Rattle.std.proofs.Math.Path.{refl, sym, ap, ap₂, fun_ext}
use Rattle.std.proofs.Common.{◌∙◌, subst, arith, eqb-true, eq-eqb}
use mathlib.Core.List.Memᴰ
use mathlib.Core.List.{List, [], ◌∷◌, ◌++◌, map, map-append, Memᴰ}
use Rattle.std.proofs.Math.Bool.{Bool, true, false, not}
use Rattle.std.proofs.Math.Option
use Rattle.std.proofs.Math.Option.{Option, none, some}
use Prim.Native.Nat.{ℕ, zero, suc, ◌+◌, ◌<◌}
use Rattle.std.proofs.Math.Dec.{eqb, ltb}
use Rattle.std.proofs.Math.ListN
use Rattle.std.proofs.Math.ListN.{get_or}
use Rattle.std.proofs.lemmas.List.{length-map}
use Rattle.number_columns.specs.Column.{pick}
use Rattle.sheet.proofs.ListLaws.{same_test}
use Rattle.model.specs.Cty.{
  Cty,
  Ctys,
  TUnit,
  TAny,
  TExn,
  TVar,
  TInt,
  TFloat,
  TConst,
  TArrow,
  TApp,
  TTuple,
  TBuf,
  TRef,
  TInline,
  nil,
  cons,
  lengths,
  append,
  firsts,
  others,
  walk,
  walks,
  gather,
  gathers,
  names_of_cty,
  cty_vars,
  size,
  sizes,
  uninline,
  Binding,
  zip,
  look,
  subst_cty,
}
use Rattle.model.specs.Decl.{Field, Ctor, Body, TAbstract, TAbbrev, TRecord, TVariant, Dtype, Erased, Realized, NoNewtype, NoUnfold, SourceRecord, has_flag, ctors_of, ctors_of_tydef, CtorLayout, NewtypeLayout, Layout, L_erased, L_newtype, L_struct, L_abbrev, L_opaque, TypeInfo, Origin, here, imported, Decl, no_decl, dtype_at, origin_at, table, position, member, close, close_field, close_body}
use Rattle.model.specs.Erasure.{
  cty_erased,
  ctys_erased,
  is_pure,
  fields_erased,
  body_erased,
  dtype_erased,
  marked,
  rule_of,
  rule,
  Settled,
  settle,
  start_of,
  start,
  erasure_fixpoint,
}
use Rattle.model.specs.Resolve.{
  unfolded,
  Unfold,
  gone,
  newtype,
  abbreviation,
  stays,
  unfold_body,
  abbreviation_of,
  unfold_dtype,
  unfold_of,
  unfolds,
  unfold_name,
  attach,
  instance,
  applied,
  resolve,
  Result,
  ok,
  fault,
  spent,
  bind,
  sized,
  within,
  is_app,
  surplus,
  checked_applied,
  checked,
  checkeds,
  resolve_checked,
}
use Rattle.model.specs.Layout.{ctor_tag, layouts_of_ctors, slots, kept, ctor_layout, ctor_layouts, first_kept, newtype_of_ctor, newtype_of, candidate, candidates, positions, names_in, type_names, steps, passed, passes, guard_next, dropped, collapse, layout_of_body, layout_of, compute_layouts, candidates_of, passes_of}
use Rattle.model.specs.Reach.{cyclic}
use Rattle.model.specs.Run.{with_body, all_in, collapsed_abbrev, resolved_field, resolved_ctor, struct_body, rw_decl, record_body, record_verdict, record_of, info, layouts_of, Ran, run, unfold_next, returns, field_types, resolves, fault_code, decl_fault, lay, layout_of_decl, left_at, info_at}
use Rattle.model.specs.Names.{fields_names, ctors_names, body_names, dtype_names, Declared, Agree, Among, cls_names, layout_names, OwnImports}
use Rattle.model_laws.specs.Layout.{candidate_at, passed_at, layout_at}
use Rattle.model_laws.specs.Locality.{marks_local, layouts_local, left_local, fault_local, info_local, returns_local}
use Rattle.model_laws.specs.Run.{run_lefts, run_infos}
use Rattle.model_laws.specs.Lists.{get_or_map, table_cong, table_map}

-- ---- lists
-- two ways round through two maps
pub map_square : {A B C D : Type 0} (f : A → B) (g : A → C) (h : B → D) (k : C → D) → ((x : A) → k (g x) ≡ h (f x)) → (xs : List A) → map k (map g xs) ≡ map h (map f xs)
map_square f g h k e [] = refl
map_square f g h k e (x ∷ xs) = ap₂ ◌∷◌ (e x) (map_square f g h k e xs)

-- what is read of an entry of a mapped list, where it is what is read of the entry itself, past the end too
pub get_or_read : {A B C : Type 0} (f : A → B) (p : A → C) (q : B → C) → ((x : A) → q (f x) ≡ p x) → (a : A) (b : B) → q b ≡ p a → (xs : List A) (i : ℕ) → q (get_or (map f xs) i b) ≡ p (get_or xs i a)
get_or_read f p q e a b z [] i = z
get_or_read f p q e a b z (x ∷ xs) zero = e x
get_or_read f p q e a b z (x ∷ xs) (suc i) = get_or_read f p q e a b z xs i

-- ---- renumbering
-- no two numbers become one
abbrev pub Injective : (ℕ → ℕ) → Type 0
Injective ρ = (a b : ℕ) → ρ a ≡ ρ b → a ≡ b

-- where f has no number for a name, one past all that f gives: so numbers of some names, as of those that
-- two sheets spell alike, become numbers of all
abbrev pub extended : (ℕ → Option ℕ) → ℕ → ℕ → ℕ
extended f k n = Option.get_or (f n) (k + n)

pub extended_injective : (f : ℕ → Option ℕ) (k : ℕ) → ((n m : ℕ) → f n ≡ some m → m < k) → ((a b m : ℕ) → f a ≡ some m → f b ≡ some m → a ≡ b) → Injective (extended f k)
extended_injective f k below once a b = go (f a) (f b) refl refl
  where
    go : (x y : Option ℕ) → f a ≡ x → f b ≡ y → Option.get_or x (k + a) ≡ Option.get_or y (k + b) → a ≡ b
    go (some i) (some j) p q e = once a b j (p ∙ ap some e) q
    go (some i) none p q e = absurd (omega (arith, below a i p))
    go none (some j) p q e = absurd (omega (arith, below b j q))
    go none none p q e = omega arith

-- Names are those of types, parameters, constructors and fields; every other number is kept.
module _ (ρ : ℕ → ℕ) where
  abbrev pub rename_cty : Cty → Cty
  rename_cty = walk (λ v. TVar (ρ v)) (λ n us. TApp (ρ n) us)

  abbrev pub rename_ctys : Ctys → Ctys
  rename_ctys = walks (λ v. TVar (ρ v)) (λ n us. TApp (ρ n) us)

  abbrev pub rename_field : Field → Field
  rename_field f = record { fd_name = ρ f.fd_name; fd_type = rename_cty f.fd_type }

  abbrev pub rename_ctor : Ctor → Ctor
  rename_ctor c = record { ct_name = ρ c.ct_name; ct_fields = map rename_field c.ct_fields }

  abbrev pub rename_body : Body → Body
  rename_body TAbstract = TAbstract
  rename_body (TAbbrev c) = TAbbrev (rename_cty c)
  rename_body (TRecord fs) = TRecord (map rename_field fs)
  rename_body (TVariant cs) = TVariant (map rename_ctor cs)

  abbrev pub rename_dtype : Dtype → Dtype
  rename_dtype d =
      record { dt_name = ρ d.dt_name; dt_flags = d.dt_flags; dt_params = map ρ d.dt_params; dt_body = rename_body d.dt_body }

  abbrev pub rename_ctor_layout : CtorLayout → CtorLayout
  rename_ctor_layout cl = record { cl_name = ρ cl.cl_name; cl_tag = cl.cl_tag; cl_slots = cl.cl_slots; cl_fields = map rename_field cl.cl_fields }

  abbrev pub rename_newtype : NewtypeLayout → NewtypeLayout
  rename_newtype nt =
      record { nt_ctor = ρ nt.nt_ctor; nt_field = ρ nt.nt_field; nt_index = nt.nt_index; nt_ty = rename_cty nt.nt_ty }

  abbrev pub rename_layout : Layout → Layout
  rename_layout L_erased = L_erased
  rename_layout (L_newtype nt) = L_newtype (rename_newtype nt)
  rename_layout (L_struct cls) = L_struct (map rename_ctor_layout cls)
  rename_layout (L_abbrev c) = L_abbrev (rename_cty c)
  rename_layout L_opaque = L_opaque

  abbrev pub rename_info : TypeInfo → TypeInfo
  rename_info ti =
      record { ti_erased = ti.ti_erased; ti_layout = rename_layout ti.ti_layout; ti_ctors = map rename_ctor_layout ti.ti_ctors; ti_record = ti.ti_record }

  abbrev pub rename_origin : Origin → Origin
  rename_origin here = here
  rename_origin (imported ti) = imported (rename_info ti)

  abbrev pub rename_decl : Decl → Decl
  rename_decl d = record { dtype = rename_dtype d.dtype; origin = rename_origin d.origin }

  -- a program
  abbrev pub rename_decls : List Decl → List Decl
  rename_decls = map rename_decl

  abbrev pub rename_unfold : Unfold → Unfold
  rename_unfold gone = gone
  rename_unfold (newtype ps c) = newtype (map ρ ps) (rename_cty c)
  rename_unfold (abbreviation ps c) = abbreviation (map ρ ps) (rename_cty c)
  rename_unfold stays = stays

  abbrev pub rename_binding : Binding → Binding
  rename_binding b = record { param = ρ b.param; arg = rename_cty b.arg }

  -- a candidate, and what is left of a declaration
  abbrev pub rename_candidate : Option NewtypeLayout → Option NewtypeLayout
  rename_candidate = Option.map rename_newtype

  abbrev pub rename_left : Option Dtype → Option Dtype
  rename_left = Option.map rename_dtype

-- ---- types
-- a walk after renaming, where its two functions rename
module _ (ρ : ℕ → ℕ) (var var' : ℕ → Cty) (app app' : ℕ → Ctys → Cty)
    (hv : (v : ℕ) → var' (ρ v) ≡ rename_cty ρ (var v))
    (ha : (n : ℕ) (us : Ctys) → app' (ρ n) (rename_ctys ρ us) ≡ rename_cty ρ (app n us)) where
  mutual
    unfolding walk

    pub walk_rename : (c : Cty) → walk var' app' (rename_cty ρ c) ≡ rename_cty ρ (walk var app c)
    walk_rename TUnit = refl
    walk_rename TAny = refl
    walk_rename TExn = refl
    walk_rename (TVar v) = hv v
    walk_rename (TInt s w) = refl
    walk_rename (TFloat f) = refl
    walk_rename (TConst c) = refl
    walk_rename (TArrow a e b) = ap₂ (λ (x y : Cty). TArrow x e y) (walk_rename a) (walk_rename b)
    walk_rename (TApp n ts) = ap (app' (ρ n)) (walks_rename ts) ∙ ha n (walks var app ts)
    walk_rename (TTuple ts) = ap TTuple (walks_rename ts)
    walk_rename (TBuf t) = ap TBuf (walk_rename t)
    walk_rename (TRef k t) = ap (TRef k) (walk_rename t)
    walk_rename (TInline t) = ap TInline (walk_rename t)

    pub walks_rename : (ts : Ctys) → walks var' app' (rename_ctys ρ ts) ≡ rename_ctys ρ (walks var app ts)
    walks_rename nil = refl
    walks_rename (cons t ts) = ap₂ cons (walk_rename t) (walks_rename ts)

-- what is gathered after renaming
module _ (ρ : ℕ → ℕ) (var var' app app' : ℕ → List ℕ)
    (hv : (v : ℕ) → var' (ρ v) ≡ map ρ (var v)) (ha : (n : ℕ) → app' (ρ n) ≡ map ρ (app n)) where
  joined : (xs ys : List ℕ) {xs' ys' : List ℕ} → xs' ≡ map ρ xs → ys' ≡ map ρ ys → xs' ++ ys' ≡ map ρ (xs ++ ys)
  joined xs ys e f = ap₂ (λ (x y : List ℕ). x ++ y) e f ∙ sym (map-append ρ xs ys)

  mutual
    unfolding walk gather

    pub gather_rename : (c : Cty) → gather var' app' (rename_cty ρ c) ≡ map ρ (gather var app c)
    gather_rename TUnit = refl
    gather_rename TAny = refl
    gather_rename TExn = refl
    gather_rename (TVar v) = hv v
    gather_rename (TInt s w) = refl
    gather_rename (TFloat f) = refl
    gather_rename (TConst c) = refl
    gather_rename (TArrow a e b) = joined (gather var app a) (gather var app b) (gather_rename a) (gather_rename b)
    gather_rename (TApp n ts) = joined (app n) (gathers var app ts) (ha n) (gathers_rename ts)
    gather_rename (TTuple ts) = gathers_rename ts
    gather_rename (TBuf t) = gather_rename t
    gather_rename (TRef k t) = gather_rename t
    gather_rename (TInline t) = gather_rename t

    pub gathers_rename : (ts : Ctys) → gathers var' app' (rename_ctys ρ ts) ≡ map ρ (gathers var app ts)
    gathers_rename nil = refl
    gathers_rename (cons t ts) = joined (gather var app t) (gathers var app ts) (gather_rename t) (gathers_rename ts)

-- which types are erased
module _ (ρ : ℕ → ℕ) (er er' : ℕ → Bool) (e : (n : ℕ) → er' (ρ n) ≡ er n) where
  mutual
    unfolding walk cty_erased

    pub cty_erased_rename : (c : Cty) → cty_erased er' (rename_cty ρ c) ≡ cty_erased er c
    cty_erased_rename TUnit = refl
    cty_erased_rename TAny = refl
    cty_erased_rename TExn = refl
    cty_erased_rename (TVar v) = refl
    cty_erased_rename (TInt s w) = refl
    cty_erased_rename (TFloat f) = refl
    cty_erased_rename (TConst c) = refl
    cty_erased_rename (TArrow a k b) = ap (λ (x : Bool). is_pure k && x) (cty_erased_rename b)
    cty_erased_rename (TApp n ts) = e n
    cty_erased_rename (TTuple ts) = ctys_erased_rename ts
    cty_erased_rename (TBuf t) = refl
    cty_erased_rename (TRef k t) = refl
    cty_erased_rename (TInline t) = cty_erased_rename t

    pub ctys_erased_rename : (ts : Ctys) → ctys_erased er' (rename_ctys ρ ts) ≡ ctys_erased er ts
    ctys_erased_rename nil = refl
    ctys_erased_rename (cons t ts) = ap₂ (λ (x y : Bool). x && y) (cty_erased_rename t) (ctys_erased_rename ts)

module _ (ρ : ℕ → ℕ) where
  -- the names and the variables of a type
  pub names_rename : (c : Cty) → names_of_cty (rename_cty ρ c) ≡ map ρ (names_of_cty c)
  unfolding names_of_cty
  names_rename = gather_rename ρ (λ v. []) (λ v. []) (λ n. n ∷ []) (λ n. n ∷ []) (λ v. refl) (λ n. refl)

  pub vars_rename : (c : Cty) → cty_vars (rename_cty ρ c) ≡ map ρ (cty_vars c)
  unfolding cty_vars
  vars_rename = gather_rename ρ (λ v. v ∷ []) (λ v. v ∷ []) (λ n. []) (λ n. []) (λ v. refl) (λ n. refl)

  mutual
    unfolding walk size

    -- nodes
    pub size_rename : (c : Cty) → size (rename_cty ρ c) ≡ size c
    size_rename TUnit = refl
    size_rename TAny = refl
    size_rename TExn = refl
    size_rename (TVar v) = refl
    size_rename (TInt s w) = refl
    size_rename (TFloat f) = refl
    size_rename (TConst c) = refl
    size_rename (TArrow a e b) = ap₂ (λ (m n : ℕ). 1 + (m + n)) (size_rename a) (size_rename b)
    size_rename (TApp n ts) = ap (λ (m : ℕ). 1 + m) (sizes_rename ts)
    size_rename (TTuple ts) = ap (λ (m : ℕ). 1 + m) (sizes_rename ts)
    size_rename (TBuf t) = ap (λ (m : ℕ). 1 + m) (size_rename t)
    size_rename (TRef k t) = ap (λ (m : ℕ). 1 + m) (size_rename t)
    size_rename (TInline t) = ap (λ (m : ℕ). 1 + m) (size_rename t)

    pub sizes_rename : (ts : Ctys) → sizes (rename_ctys ρ ts) ≡ sizes ts
    sizes_rename nil = refl
    sizes_rename (cons t ts) = ap₂ (λ (m n : ℕ). m + n) (size_rename t) (sizes_rename ts)

  pub uninline_rename : (c : Cty) → uninline (rename_cty ρ c) ≡ rename_cty ρ (uninline c)
  unfolding walk uninline
  uninline_rename TUnit = refl
  uninline_rename TAny = refl
  uninline_rename TExn = refl
  uninline_rename (TVar v) = refl
  uninline_rename (TInt s w) = refl
  uninline_rename (TFloat f) = refl
  uninline_rename (TConst c) = refl
  uninline_rename (TArrow a e b) = refl
  uninline_rename (TApp n ts) = refl
  uninline_rename (TTuple ts) = refl
  uninline_rename (TBuf t) = refl
  uninline_rename (TRef k t) = refl
  uninline_rename (TInline t) = refl

  -- lists of types
  pub lengths_rename : (ts : Ctys) → lengths (rename_ctys ρ ts) ≡ lengths ts
  unfolding walk lengths
  lengths_rename nil = refl
  lengths_rename (cons t ts) = ap suc (lengths_rename ts)

  pub append_rename : (ts us : Ctys) → append (rename_ctys ρ ts) (rename_ctys ρ us) ≡ rename_ctys ρ (append ts us)
  unfolding walk append
  append_rename nil us = refl
  append_rename (cons t ts) us = ap (cons (rename_cty ρ t)) (append_rename ts us)

  pub firsts_rename : (n : ℕ) (ts : Ctys) → firsts n (rename_ctys ρ ts) ≡ rename_ctys ρ (firsts n ts)
  unfolding walk firsts
  firsts_rename zero ts = refl
  firsts_rename (suc n) nil = refl
  firsts_rename (suc n) (cons t ts) = ap (cons (rename_cty ρ t)) (firsts_rename n ts)

  pub others_rename : (n : ℕ) (ts : Ctys) → others n (rename_ctys ρ ts) ≡ rename_ctys ρ (others n ts)
  unfolding walk others
  others_rename zero ts = refl
  others_rename (suc n) nil = refl
  others_rename (suc n) (cons t ts) = others_rename n ts

  pub attach_rename : (c : Cty) (us : Ctys) → attach (rename_cty ρ c) (rename_ctys ρ us) ≡ rename_cty ρ (attach c us)
  unfolding walk attach
  attach_rename TUnit us = refl
  attach_rename TAny us = refl
  attach_rename TExn us = refl
  attach_rename (TVar v) us = refl
  attach_rename (TInt s w) us = refl
  attach_rename (TFloat f) us = refl
  attach_rename (TConst c) us = refl
  attach_rename (TArrow a e b) us = refl
  attach_rename (TApp n ts) us = ap (TApp (ρ n)) (append_rename ts us)
  attach_rename (TTuple ts) us = refl
  attach_rename (TBuf t) us = refl
  attach_rename (TRef k t) us = refl
  attach_rename (TInline t) us = refl

-- ---- erasure
module _ (ρ : ℕ → ℕ) (er er' : ℕ → Bool) (e : (n : ℕ) → er' (ρ n) ≡ er n) where
  pub fields_erased_rename : (fs : List Field) → fields_erased er' (map (rename_field ρ) fs) ≡ fields_erased er fs
  unfolding fields_erased
  fields_erased_rename [] = refl
  fields_erased_rename (f ∷ fs) = ap₂ (λ (x y : Bool). x && y) (cty_erased_rename ρ er er' e f.fd_type) (fields_erased_rename fs)

  pub body_erased_rename : (b : Body) → body_erased er' (rename_body ρ b) ≡ body_erased er b
  unfolding body_erased
  body_erased_rename TAbstract = refl
  body_erased_rename (TAbbrev c) = cty_erased_rename ρ er er' e c
  body_erased_rename (TRecord fs) = fields_erased_rename fs
  body_erased_rename (TVariant []) = refl
  body_erased_rename (TVariant (c ∷ [])) = fields_erased_rename c.ct_fields
  body_erased_rename (TVariant (c ∷ d ∷ cs)) = refl

  pub dtype_erased_rename : (d : Dtype) → dtype_erased er' (rename_dtype ρ d) ≡ dtype_erased er d
  unfolding dtype_erased has_flag
  dtype_erased_rename d = ap (λ (b : Bool). pick (has_flag d Erased) true (pick (has_flag d Realized) false b)) (body_erased_rename d.dt_body)

  pub rule_of_rename : (d : Dtype) (o : Origin) → rule_of er' (rename_dtype ρ d) (rename_origin ρ o) ≡ rule_of er d o
  unfolding rule_of
  rule_of_rename d here = dtype_erased_rename d
  rule_of_rename d (imported ti) = refl

-- what is left where no declaration stands
rule_of_none : (er er' : ℕ → Bool) → rule_of er' no_decl.dtype no_decl.origin ≡ rule_of er no_decl.dtype no_decl.origin
unfolding rule_of dtype_erased body_erased
rule_of_none er er' = refl

module _ (ρ : ℕ → ℕ) where
  -- imports start alike
  pub start_rename : (ds : List Decl) → start (rename_decls ρ ds) ≡ start ds
  unfolding start start_of
  start_rename [] = refl
  start_rename (d ∷ ds) = ap₂ ◌∷◌ (go d.origin) (start_rename ds)
    where
      go : (o : Origin) → start_of (rename_origin ρ o) ≡ start_of o
      go here = refl
      go (imported ti) = refl

  -- the entries of a renamed program
  pub dtype_rename : (ds : List Decl) (i : ℕ) → i < length ds → dtype_at (rename_decls ρ ds) i ≡ rename_dtype ρ (dtype_at ds i)
  dtype_rename ds i h = ap (λ (d : Decl). d.dtype) (get_or_map (rename_decl ρ) ds i no_decl no_decl h)

  pub origin_rename : (ds : List Decl) (i : ℕ) → i < length ds → origin_at (rename_decls ρ ds) i ≡ rename_origin ρ (origin_at ds i)
  origin_rename ds i h = ap (λ (d : Decl). d.origin) (get_or_map (rename_decl ρ) ds i no_decl no_decl h)

-- ---- names that are compared
module _ (ρ : ℕ → ℕ) (inj : Injective ρ) where
  pub eqb_rename : (a b : ℕ) → eqb (ρ a) (ρ b) ≡ eqb a b
  eqb_rename a b =
      same_test (eqb (ρ a) (ρ b)) (eqb a b) (λ e. eq-eqb a b (inj a b (eqb-true (ρ a) (ρ b) e))) (λ e. eq-eqb (ρ a) (ρ b) (ap ρ (eqb-true a b e)))

  -- a name keeps its place
  pub position_rename : (ds : List Decl) (n : ℕ) → position (rename_decls ρ ds) (ρ n) ≡ position ds n
  unfolding position
  position_rename [] n = refl
  position_rename (d ∷ ds) n =
      ap₂ (λ (b : Bool) (i : ℕ). pick b 0 (suc i)) (eqb_rename d.dtype.dt_name n) (position_rename ds n)

  pub member_rename : (n : ℕ) (ms : List ℕ) → member (ρ n) (map ρ ms) ≡ member n ms
  unfolding member
  member_rename n [] = refl
  member_rename n (m ∷ ms) = ap₂ (λ (b r : Bool). pick b true r) (eqb_rename m n) (member_rename n ms)

  pub all_in_rename : (ms ns : List ℕ) → all_in (map ρ ms) (map ρ ns) ≡ all_in ms ns
  unfolding all_in
  all_in_rename [] ns = refl
  all_in_rename (m ∷ ms) ns = ap₂ (λ (x y : Bool). x && y) (member_rename m ns) (all_in_rename ms ns)

  -- ---- erasure_fixpoint
  pub marked_rename : (ds : List Decl) (s : List Bool) (n : ℕ) → marked (rename_decls ρ ds) s (ρ n) ≡ marked ds s n
  unfolding marked
  marked_rename ds s n = ap (λ (i : ℕ). get_or s i false) (position_rename ds n)

  pub rule_rename : (ds : List Decl) (s : List Bool) (i : ℕ) → rule (rename_decls ρ ds) s i ≡ rule ds s i
  unfolding rule
  rule_rename ds s i =
      get_or_read (rename_decl ρ)
      (λ (d : Decl). rule_of (marked ds s) d.dtype d.origin)
      (λ (d : Decl). rule_of (marked (rename_decls ρ ds) s) d.dtype d.origin)
      (λ (d : Decl). rule_of_rename ρ (marked ds s) (marked (rename_decls ρ ds) s) (marked_rename ds s) d.dtype d.origin)
      no_decl no_decl
      (rule_of_none (marked ds s) (marked (rename_decls ρ ds) s))
      ds i

  -- the same marks after the same rounds
  pub erasure_rename : (ds : List Decl) → erasure_fixpoint (rename_decls ρ ds) ≡ erasure_fixpoint ds
  unfolding erasure_fixpoint
  erasure_rename ds =
      ap₂ (λ (n : ℕ) (s : List Bool). settle (rule (rename_decls ρ ds)) (suc n) s) (length-map ds (rename_decl ρ)) (start_rename ρ ds)
      ∙ ap (λ (r : List Bool → ℕ → Bool). settle r (suc (length ds)) (start ds)) (fun_ext (λ s. fun_ext (λ i. rule_rename ds s i)))

  -- ---- substitution
  pub zip_rename : (ps : List ℕ) (ts : Ctys) → zip (map ρ ps) (rename_ctys ρ ts) ≡ map (rename_binding ρ) (zip ps ts)
  unfolding zip walk
  zip_rename [] ts = refl
  zip_rename (p ∷ ps) nil = refl
  zip_rename (p ∷ ps) (cons t ts) = ap (λ (s : List Binding). record { param = ρ p; arg = rename_cty ρ t } ∷ s) (zip_rename ps ts)

  pub look_rename : (s : List Binding) (v : ℕ) → look (map (rename_binding ρ) s) (ρ v) ≡ rename_cty ρ (look s v)
  unfolding look walk
  look_rename [] v = refl
  look_rename (b ∷ s) v =
      ap₂ (λ (x : Bool) (c : Cty). pick x (rename_cty ρ b.arg) c) (eqb_rename b.param v) (look_rename s v) ∙ go (eqb b.param v)
    where
      go : (x : Bool) → pick x (rename_cty ρ b.arg) (rename_cty ρ (look s v)) ≡ rename_cty ρ (pick x b.arg (look s v))
      go true = refl
      go false = refl

  pub subst_rename : (s : List Binding) (c : Cty) → subst_cty (map (rename_binding ρ) s) (rename_cty ρ c) ≡ rename_cty ρ (subst_cty s c)
  unfolding subst_cty walk
  subst_rename s = walk_rename ρ (look s) (look (map (rename_binding ρ) s)) TApp TApp (look_rename s) (λ n us. refl)

  pub instance_rename : (ps : List ℕ) (us : Ctys) (c : Cty) → instance (map ρ ps) (rename_ctys ρ us) (rename_cty ρ c) ≡ rename_cty ρ (instance ps us c)
  unfolding instance
  instance_rename ps us c =
      ap (λ (s : List Binding). subst_cty s (rename_cty ρ c))
      (ap₂ (λ (b : Bool) (s : List Binding). pick b s []) (ap₂ eqb (length-map ps ρ) (lengths_rename ρ us)) (zip_rename ps us) ∙ go (eqb (length ps) (lengths us)))
      ∙ subst_rename (pick (eqb (length ps) (lengths us)) (zip ps us) []) c
    where
      go : (b : Bool) → pick b (map (rename_binding ρ) (zip ps us)) [] ≡ map (rename_binding ρ) (pick b (zip ps us) [])
      go true = refl
      go false = refl

  -- variables that are not bound
  pub close_rename : (ps : List ℕ) (c : Cty) → close (map ρ ps) (rename_cty ρ c) ≡ rename_cty ρ (close ps c)
  unfolding close walk
  close_rename ps =
      walk_rename ρ (λ v. pick (member v ps) (TVar v) TAny) (λ v. pick (member v (map ρ ps)) (TVar v) TAny) TApp TApp
      (λ v. ap (λ (b : Bool). pick b (TVar (ρ v)) TAny) (member_rename v ps) ∙ go v (member v ps)) (λ n us. refl)
    where
      go : (v : ℕ) (b : Bool) → pick b (TVar (ρ v)) TAny ≡ rename_cty ρ (pick b (TVar v) TAny)
      go v true = refl
      go v false = refl

  close_field_rename : (ps : List ℕ) (f : Field) → close_field (map ρ ps) (rename_field ρ f) ≡ rename_field ρ (close_field ps f)
  unfolding close_field
  close_field_rename ps f = ap (λ (c : Cty). record { fd_name = ρ f.fd_name; fd_type = c }) (close_rename ps f.fd_type)

  close_fields_map : (ps : List ℕ) (fs : List Field) → map (close_field (map ρ ps)) (map (rename_field ρ) fs) ≡ map (rename_field ρ) (map (close_field ps) fs)
  close_fields_map ps = map_square (close_field ps) (rename_field ρ) (rename_field ρ) (close_field (map ρ ps)) (close_field_rename ps)

  close_body_rename : (ps : List ℕ) (b : Body) → close_body (map ρ ps) (rename_body ρ b) ≡ rename_body ρ (close_body ps b)
  unfolding close_body
  close_body_rename ps TAbstract = refl
  close_body_rename ps (TAbbrev c) = ap TAbbrev (close_rename ps c)
  close_body_rename ps (TRecord fs) = ap TRecord (close_fields_map ps fs)
  close_body_rename ps (TVariant cs) =
      ap TVariant
      (map_square _ (rename_ctor ρ) (rename_ctor ρ) _ (λ (c : Ctor). ap (λ (fs : List Field). record { ct_name = ρ c.ct_name; ct_fields = fs }) (close_fields_map ps c.ct_fields)) cs)

-- ---- constructor layouts
module _ (ρ : ℕ → ℕ) where
  pub kept_rename : (bs : List Bool) (fs : List Field) → kept bs (map (rename_field ρ) fs) ≡ map (rename_field ρ) (kept bs fs)
  unfolding kept
  kept_rename [] fs = refl
  kept_rename (b ∷ bs) [] = refl
  kept_rename (b ∷ bs) (f ∷ fs) = ap (λ (gs : List Field). pick b (rename_field ρ f ∷ gs) gs) (kept_rename bs fs) ∙ go b
    where
      go : (x : Bool) → pick x (rename_field ρ f ∷ map (rename_field ρ) (kept bs fs)) (map (rename_field ρ) (kept bs fs)) ≡ map (rename_field ρ) (pick x (f ∷ kept bs fs) (kept bs fs))
      go true = refl
      go false = refl

  pub ctors_rename : (n : ℕ) (b : Body) → ctors_of (ρ n) (rename_body ρ b) ≡ map (rename_ctor ρ) (ctors_of n b)
  unfolding ctors_of
  ctors_rename n TAbstract = refl
  ctors_rename n (TAbbrev c) = refl
  ctors_rename n (TRecord fs) = refl
  ctors_rename n (TVariant cs) = refl

  module _ (er er' : ℕ → Bool) (e : (n : ℕ) → er' (ρ n) ≡ er n) where
    pub slots_rename : (fs : List Field) → slots er' (map (rename_field ρ) fs) ≡ slots er fs
    unfolding slots
    slots_rename [] = refl
    slots_rename (f ∷ fs) = ap₂ ◌∷◌ (ap not (cty_erased_rename ρ er er' e f.fd_type)) (slots_rename fs)

    ctor_layout_rename : (tag : Option ℕ) (c : Ctor) → ctor_layout tag (rename_ctor ρ c) (slots er' (map (rename_field ρ) c.ct_fields)) ≡ rename_ctor_layout ρ (ctor_layout tag c (slots er c.ct_fields))
    unfolding ctor_layout
    ctor_layout_rename tag c =
        ap (ctor_layout tag (rename_ctor ρ c)) (slots_rename c.ct_fields)
        ∙ ap (λ (fs : List Field). record { cl_name = ρ c.ct_name; cl_tag = tag; cl_slots = slots er c.ct_fields; cl_fields = fs }) (kept_rename (slots er c.ct_fields) c.ct_fields)

    layouts_of_ctors_rename : (tag : ℕ → Option ℕ) (cs : List Ctor) → layouts_of_ctors er' tag (map (rename_ctor ρ) cs) ≡ map (rename_ctor_layout ρ) (layouts_of_ctors er tag cs)
    unfolding table
    layouts_of_ctors_rename tag [] = refl
    layouts_of_ctors_rename tag (c ∷ cs) = ap₂ ◌∷◌ (ctor_layout_rename (tag 0) c) (layouts_of_ctors_rename (λ i. tag (suc i)) cs)

    pub ctor_layouts_rename : (d : Dtype) → ctor_layouts er' (rename_dtype ρ d) ≡ map (rename_ctor_layout ρ) (ctor_layouts er d)
    unfolding ctor_layouts
    ctor_layouts_rename d =
        ap (λ (cs : List Ctor). layouts_of_ctors er' (ctor_tag (length cs)) cs) (ctors_rename d.dt_name d.dt_body)
        ∙ (ap (λ (n : ℕ). layouts_of_ctors er' (ctor_tag n) (map (rename_ctor ρ) (ctors_of_tydef d))) (length-map (ctors_of_tydef d) (rename_ctor ρ))
        ∙ layouts_of_ctors_rename (ctor_tag (length (ctors_of_tydef d))) (ctors_of_tydef d))

  -- ---- newtypes
  newtype_of_ctor_rename : (n : ℕ) (bs : List Bool) (fs : List Field) → newtype_of_ctor (ρ n) bs (map (rename_field ρ) fs) ≡ rename_candidate ρ (newtype_of_ctor n bs fs)
  unfolding newtype_of_ctor
  newtype_of_ctor_rename n bs [] = refl
  newtype_of_ctor_rename n bs (f ∷ []) =
      ap (λ (c : Cty). some (record { nt_ctor = ρ n; nt_field = ρ f.fd_name; nt_index = first_kept bs; nt_ty = c })) (uninline_rename ρ f.fd_type)
  newtype_of_ctor_rename n bs (f ∷ g ∷ fs) = refl

  pub newtype_of_rename : (cls : List CtorLayout) → newtype_of (map (rename_ctor_layout ρ) cls) ≡ rename_candidate ρ (newtype_of cls)
  unfolding newtype_of
  newtype_of_rename [] = refl
  newtype_of_rename (cl ∷ []) = newtype_of_ctor_rename cl.cl_name cl.cl_slots cl.cl_fields
  newtype_of_rename (cl ∷ cm ∷ cls) = refl

  pub candidate_rename : (d : Dtype) (o : Origin) (e : Bool) (cls : List CtorLayout)
      → candidate (rename_dtype ρ d) (rename_origin ρ o) e (map (rename_ctor_layout ρ) cls) ≡ rename_candidate ρ (candidate d o e cls)
  unfolding candidate has_flag
  candidate_rename d (imported ti) e cls = refl
  candidate_rename d here e cls = ap (λ (x : Option NewtypeLayout). pick (e || has_flag d NoNewtype) none x) (newtype_of_rename cls) ∙ go (e || has_flag d NoNewtype)
    where
      go : (b : Bool) → pick b none (rename_candidate ρ (newtype_of cls)) ≡ rename_candidate ρ (pick b none (newtype_of cls))
      go true = refl
      go false = refl

  collapse_rename : (drop : Bool) (cand : Option NewtypeLayout) (cls : List CtorLayout) → collapse drop (rename_candidate ρ cand) (map (rename_ctor_layout ρ) cls) ≡ rename_layout ρ (collapse drop cand cls)
  unfolding collapse
  collapse_rename true cand cls = refl
  collapse_rename false none cls = refl
  collapse_rename false (some nt) cls = refl

  layout_of_body_rename : (b : Body) (drop : Bool) (cand : Option NewtypeLayout) (cls : List CtorLayout)
      → layout_of_body (rename_body ρ b) drop (rename_candidate ρ cand) (map (rename_ctor_layout ρ) cls) ≡ rename_layout ρ (layout_of_body b drop cand cls)
  unfolding layout_of_body
  layout_of_body_rename TAbstract drop cand cls = refl
  layout_of_body_rename (TAbbrev c) drop cand cls = refl
  layout_of_body_rename (TRecord fs) drop cand cls = collapse_rename drop cand cls
  layout_of_body_rename (TVariant cs) drop cand cls = collapse_rename drop cand cls

  pub layout_of_rename : (d : Dtype) (o : Origin) (e drop : Bool) (cand : Option NewtypeLayout) (cls : List CtorLayout)
      → layout_of (rename_dtype ρ d) (rename_origin ρ o) e drop (rename_candidate ρ cand) (map (rename_ctor_layout ρ) cls) ≡ rename_layout ρ (layout_of d o e drop cand cls)
  unfolding layout_of
  layout_of_rename d (imported ti) e drop cand cls = refl
  layout_of_rename d here true drop cand cls = refl
  layout_of_rename d here false drop cand cls = layout_of_body_rename d.dt_body drop cand cls

-- ---- what becomes of a name
module _ (ρ : ℕ → ℕ) where
  unfold_dtype_rename : (d : Dtype) → unfold_dtype (rename_dtype ρ d) ≡ rename_unfold ρ (unfold_dtype d)
  unfolding unfold_dtype unfold_body has_flag
  unfold_dtype_rename d = go (has_flag d Realized || has_flag d NoUnfold) d.dt_body
    where
      go : (b : Bool) (y : Body) → pick b stays (unfold_body (map ρ d.dt_params) (rename_body ρ y)) ≡ rename_unfold ρ (pick b stays (unfold_body d.dt_params y))
      go true y = refl
      go false TAbstract = refl
      go false (TAbbrev c) = refl
      go false (TRecord fs) = refl
      go false (TVariant cs) = refl

  pub unfold_of_rename : (d : Dtype) (l : Layout) → unfold_of (rename_dtype ρ d) (rename_layout ρ l) ≡ rename_unfold ρ (unfold_of d l)
  unfolding unfold_of
  unfold_of_rename d L_erased = refl
  unfold_of_rename d (L_newtype nt) = refl
  unfold_of_rename d (L_struct cls) = unfold_dtype_rename d
  unfold_of_rename d (L_abbrev c) = unfold_dtype_rename d
  unfold_of_rename d L_opaque = unfold_dtype_rename d

  abbreviation_rename : (u : Unfold) → abbreviation_of (rename_unfold ρ u) ≡ Option.map (rename_cty ρ) (abbreviation_of u)
  unfolding abbreviation_of
  abbreviation_rename gone = refl
  abbreviation_rename (newtype ps c) = refl
  abbreviation_rename (abbreviation ps c) = refl
  abbreviation_rename stays = refl

  -- what the guard goes on through
  pub passed_rename : (d : Dtype) (o : Origin) (e : Bool) (cand : Option NewtypeLayout) → passed (rename_dtype ρ d) (rename_origin ρ o) e (rename_candidate ρ cand) ≡ Option.map (rename_cty ρ) (passed d o e cand)
  unfolding passed
  passed_rename d o e none =
      ap (λ (l : Layout). abbreviation_of (unfold_of (rename_dtype ρ d) l)) (layout_of_rename ρ d o e true none [])
      ∙ (ap abbreviation_of (unfold_of_rename d (layout_of d o e true none []))
      ∙ abbreviation_rename (unfold_of d (layout_of d o e true none [])))
  passed_rename d o e (some nt) = refl

-- ---- compute_layouts
module _ (ρ : ℕ → ℕ) (inj : Injective ρ) where
  pub positions_rename : (ds : List Decl) (ns : List ℕ) → positions (rename_decls ρ ds) (map ρ ns) ≡ positions ds ns
  unfolding positions
  positions_rename ds [] = refl
  positions_rename ds (n ∷ ns) =
      ap₂ (λ (i : ℕ) (is : List ℕ). pick (ltb i (length (rename_decls ρ ds))) (i ∷ is) is) (position_rename ρ inj ds n) (positions_rename ds ns)
      ∙ ap (λ (k : ℕ). pick (ltb (position ds n) k) (position ds n ∷ positions ds ns) (positions ds ns)) (length-map ds (rename_decl ρ))

  pub names_in_rename : (ds : List Decl) (c : Cty) → names_in (rename_decls ρ ds) (rename_cty ρ c) ≡ names_in ds c
  names_in_rename ds c = ap (positions (rename_decls ρ ds)) (names_rename ρ c) ∙ positions_rename ds (names_of_cty c)

  type_names_rename : (ds : List Decl) (o : Option Cty) → type_names (rename_decls ρ ds) (Option.map (rename_cty ρ) o) ≡ type_names ds o
  unfolding type_names
  type_names_rename ds none = refl
  type_names_rename ds (some c) = names_in_rename ds c

  pub guard_rename : (ds : List Decl) (through : List (Option Cty)) (i : ℕ) → guard_next (rename_decls ρ ds) (map (Option.map (rename_cty ρ)) through) i ≡ guard_next ds through i
  unfolding guard_next steps
  guard_rename ds through i =
      ap (type_names (rename_decls ρ ds)) (ListN.get_or-map (Option.map (rename_cty ρ)) through i none) ∙ type_names_rename ds (get_or through i none)

  -- the same candidates dropped
  pub dropped_rename : (ds : List Decl) (through : List (Option Cty)) (i : ℕ) → dropped (rename_decls ρ ds) (map (Option.map (rename_cty ρ)) through) i ≡ dropped ds through i
  unfolding dropped
  dropped_rename ds through i =
      ap₂ (λ (next : ℕ → List ℕ) (n : ℕ). cyclic next n i) (fun_ext (λ j. guard_rename ds through j)) (length-map ds (rename_decl ρ))

  module _ (ds : List Decl) (s : List Bool) where
    cls_at : (i : ℕ) → i < length ds
        → ctor_layouts (marked (rename_decls ρ ds) s) (dtype_at (rename_decls ρ ds) i) ≡ map (rename_ctor_layout ρ) (ctor_layouts (marked ds s) (dtype_at ds i))
    cls_at i h =
        ap (ctor_layouts (marked (rename_decls ρ ds) s)) (dtype_rename ρ ds i h)
        ∙ ctor_layouts_rename ρ (marked ds s) (marked (rename_decls ρ ds) s) (marked_rename ρ inj ds s) (dtype_at ds i)

    candidate_at_rename : (i : ℕ) → i < length ds → candidate_at (rename_decls ρ ds) (marked (rename_decls ρ ds) s) s i ≡ rename_candidate ρ (candidate_at ds (marked ds s) s i)
    candidate_at_rename i h =
        ap₂ (λ (d : Dtype) (o : Origin). candidate d o (get_or s i false) (ctor_layouts (marked (rename_decls ρ ds) s) (dtype_at (rename_decls ρ ds) i))) (dtype_rename ρ ds i h) (origin_rename ρ ds i h)
        ∙ (ap (candidate (rename_dtype ρ (dtype_at ds i)) (rename_origin ρ (origin_at ds i)) (get_or s i false)) (cls_at i h)
        ∙ candidate_rename ρ (dtype_at ds i) (origin_at ds i) (get_or s i false) (ctor_layouts (marked ds s) (dtype_at ds i)))

    pub candidates_rename : candidates_of (rename_decls ρ ds) s ≡ map (rename_candidate ρ) (candidates_of ds s)
    unfolding candidates
    candidates_rename =
        ap (table (candidate_at (rename_decls ρ ds) (marked (rename_decls ρ ds) s) s)) (length-map ds (rename_decl ρ))
        ∙ (table_cong _ _ (length ds) candidate_at_rename
        ∙ table_map (rename_candidate ρ) (candidate_at ds (marked ds s) s) (length ds))

    passed_at_rename : (i : ℕ) → i < length ds → passed_at (rename_decls ρ ds) s i ≡ Option.map (rename_cty ρ) (passed_at ds s i)
    passed_at_rename i h =
        rw (dtype_rename ρ ds i h, origin_rename ρ ds i h, candidates_rename, ListN.get_or-map (rename_candidate ρ) (candidates_of ds s) i none)
        (passed_rename ρ (dtype_at ds i) (origin_at ds i) (get_or s i false) (get_or (candidates_of ds s) i none))

    pub passes_rename : passes_of (rename_decls ρ ds) s ≡ map (Option.map (rename_cty ρ)) (passes_of ds s)
    unfolding passes
    passes_rename =
        ap (table (passed_at (rename_decls ρ ds) s)) (length-map ds (rename_decl ρ))
        ∙ (table_cong _ _ (length ds) passed_at_rename
        ∙ table_map (Option.map (rename_cty ρ)) (passed_at ds s) (length ds))

    layout_at_rename : (i : ℕ) → i < length ds → layout_at (rename_decls ρ ds) s i ≡ rename_layout ρ (layout_at ds s i)
    layout_at_rename i h =
        rw (dtype_rename ρ ds i h, origin_rename ρ ds i h)
        (ap₂ (λ (cand : Option NewtypeLayout) (cls : List CtorLayout). layout_of (rename_dtype ρ (dtype_at ds i)) (rename_origin ρ (origin_at ds i)) (get_or s i false) (dropped (rename_decls ρ ds) (passes_of (rename_decls ρ ds) s) i) cand cls)
        (ap (λ (cands : List (Option NewtypeLayout)). get_or cands i none) candidates_rename ∙ ListN.get_or-map (rename_candidate ρ) (candidates_of ds s) i none)
        (ctor_layouts_rename ρ (marked ds s) (marked (rename_decls ρ ds) s) (marked_rename ρ inj ds s) (dtype_at ds i))
        ∙ (ap (λ (drop : Bool). layout_of (rename_dtype ρ (dtype_at ds i)) (rename_origin ρ (origin_at ds i)) (get_or s i false) drop (rename_candidate ρ (get_or (candidates_of ds s) i none)) (map (rename_ctor_layout ρ) (ctor_layouts (marked ds s) (dtype_at ds i))))
        (ap (λ (through : List (Option Cty)). dropped (rename_decls ρ ds) through i) passes_rename ∙ dropped_rename ds (passes_of ds s) i)
        ∙ layout_of_rename ρ (dtype_at ds i) (origin_at ds i) (get_or s i false) (dropped ds (passes_of ds s) i) (get_or (candidates_of ds s) i none) (ctor_layouts (marked ds s) (dtype_at ds i))))

    pub compute_layouts_rename : compute_layouts (rename_decls ρ ds) s ≡ map (rename_layout ρ) (compute_layouts ds s)
    unfolding compute_layouts
    compute_layouts_rename =
        ap (table (layout_at (rename_decls ρ ds) s)) (length-map ds (rename_decl ρ))
        ∙ (table_cong _ _ (length ds) layout_at_rename
        ∙ table_map (rename_layout ρ) (layout_at ds s) (length ds))

  -- the layouts of a renamed program
  pub layouts_rename : (ds : List Decl) → layouts_of (rename_decls ρ ds) ≡ map (rename_layout ρ) (layouts_of ds)
  unfolding layouts_of
  layouts_rename ds =
      ap (λ (s : Settled). compute_layouts (rename_decls ρ ds) s.marks) (erasure_rename ρ inj ds) ∙ compute_layouts_rename ds (erasure_fixpoint ds).marks

-- ---- what becomes of every name
module _ (ρ : ℕ → ℕ) where
  pub unfolds_rename : (ds : List Decl) (ls : List Layout) → unfolds (rename_decls ρ ds) (map (rename_layout ρ) ls) ≡ map (rename_unfold ρ) (unfolds ds ls)
  unfolding unfolds
  unfolds_rename ds ls =
      ap (table (λ i. unfold_of (dtype_at (rename_decls ρ ds) i) (get_or (map (rename_layout ρ) ls) i L_opaque))) (length-map ds (rename_decl ρ))
      ∙ (table_cong _ _ (length ds) (λ i h. ap₂ unfold_of (dtype_rename ρ ds i h) (ListN.get_or-map (rename_layout ρ) ls i L_opaque) ∙ unfold_of_rename ρ (dtype_at ds i) (get_or ls i L_opaque))
      ∙ table_map (rename_unfold ρ) (λ i. unfold_of (dtype_at ds i) (get_or ls i L_opaque)) (length ds))

-- ---- results
-- the answer mapped, a fault kept
abbrev pub map_result : {A B : Type 0} → (A → B) → Result A → Result B
map_result f (ok a) = ok (f a)
map_result f (fault e) = fault e
map_result f spent = spent

pub bind_map : {A B C D : Type 0} (f : A → C) (g : B → D) (r : Result A) (k : A → Result B) (r' : Result C) (k' : C → Result D)
    → r' ≡ map_result f r → ((a : A) → k' (f a) ≡ map_result g (k a)) → bind r' k' ≡ map_result g (bind r k)
unfolding bind
bind_map {A = A} {C = C} f g r k r' k' e h = ap (λ (x : Result C). bind x k') e ∙ go r
  where
    go : (x : Result A) → bind (map_result f x) k' ≡ map_result g (bind x k)
    go (ok a) = h a
    go (fault c) = refl
    go spent = refl

-- ---- resolve
module _ (ρ : ℕ → ℕ) (inj : Injective ρ) where
  pub unfold_name_rename : (ds : List Decl) (ls : List Layout) (n : ℕ) → unfold_name (rename_decls ρ ds) (map (rename_layout ρ) ls) (ρ n) ≡ rename_unfold ρ (unfold_name ds ls n)
  unfolding unfold_name
  unfold_name_rename ds ls n =
      ap₂ (λ (us : List Unfold) (i : ℕ). get_or us i stays) (unfolds_rename ρ ds ls) (position_rename ρ inj ds n)
      ∙ ListN.get_or-map (rename_unfold ρ) (unfolds ds ls) (position ds n) stays

  -- a name's type with its first arguments, and with the others attached
  first_args_rename : (ps : List ℕ) (us : Ctys) (c : Cty)
      → instance (map ρ ps) (firsts (length (map ρ ps)) (rename_ctys ρ us)) (rename_cty ρ c) ≡ rename_cty ρ (instance ps (firsts (length ps) us) c)
  first_args_rename ps us c =
      ap (λ (ts : Ctys). instance (map ρ ps) ts (rename_cty ρ c)) (ap (λ (n : ℕ). firsts n (rename_ctys ρ us)) (length-map ps ρ) ∙ firsts_rename ρ (length ps) us)
      ∙ instance_rename ρ inj ps (firsts (length ps) us) c

  other_args_rename : (ps : List ℕ) (us : Ctys) → others (length (map ρ ps)) (rename_ctys ρ us) ≡ rename_ctys ρ (others (length ps) us)
  other_args_rename ps us = ap (λ (n : ℕ). others n (rename_ctys ρ us)) (length-map ps ρ) ∙ others_rename ρ (length ps) us

  pub applied_rename : (next next' : Cty → Cty) → ((c : Cty) → next' (rename_cty ρ c) ≡ rename_cty ρ (next c))
      → (n : ℕ) (us : Ctys) (u : Unfold) → applied next' (ρ n) (rename_ctys ρ us) (rename_unfold ρ u) ≡ rename_cty ρ (applied next n us u)
  unfolding applied walk
  applied_rename next next' h n us gone = refl
  applied_rename next next' h n us (newtype ps c) = ap next' (instance_rename ρ inj ps us c) ∙ h (instance ps us c)
  applied_rename next next' h n us (abbreviation ps c) =
      ap next' (ap₂ attach (first_args_rename ps us c) (other_args_rename ps us) ∙ attach_rename ρ (instance ps (firsts (length ps) us) c) (others (length ps) us))
      ∙ h (attach (instance ps (firsts (length ps) us) c) (others (length ps) us))
  applied_rename next next' h n us stays = refl

  module _ (lay lay' : ℕ → Unfold) (hl : (n : ℕ) → lay' (ρ n) ≡ rename_unfold ρ (lay n)) where
    -- a renamed type resolves to the renamed type that it resolves to
    pub resolve_rename : (k : ℕ) (c : Cty) → resolve lay' k (rename_cty ρ c) ≡ rename_cty ρ (resolve lay k c)
    unfolding resolve walk
    resolve_rename zero c = refl
    resolve_rename (suc k) c =
        walk_rename ρ TVar TVar (λ n us. applied (resolve lay k) n us (lay n)) (λ n us. applied (resolve lay' k) n us (lay' n)) (λ v. refl)
        (λ n us. ap (applied (resolve lay' k) (ρ n) (rename_ctys ρ us)) (hl n) ∙ applied_rename (resolve lay k) (resolve lay' k) (resolve_rename k) n us (lay n))
        c

  -- ---- the checked resolution
  sized_rename : (limit : ℕ) (c : Cty) → sized limit (rename_cty ρ c) ≡ map_result (rename_cty ρ) (sized limit c)
  unfolding sized
  sized_rename limit c = ap (λ (n : ℕ). pick (leb n limit) (ok (rename_cty ρ c)) (fault 10)) (size_rename ρ c) ∙ go (leb (size c) limit)
    where
      go : (b : Bool) → pick b (ok (rename_cty ρ c)) (fault 10) ≡ map_result (rename_cty ρ) (pick b (ok c) (fault 10))
      go true = refl
      go false = refl

  within_rename : (limit : ℕ) (c : Cty) (r r' : Result Cty) → r' ≡ map_result (rename_cty ρ) r → within limit (rename_cty ρ c) r' ≡ map_result (rename_cty ρ) (within limit c r)
  unfolding within
  within_rename limit c r r' e = ap (λ (n : ℕ). elim (leb n limit) [ true ↦ bind r' (sized limit) | false ↦ fault 10 ]) (size_rename ρ c) ∙ go (leb (size c) limit)
    where
      go : (b : Bool) → elim b [ true ↦ bind r' (sized limit) | false ↦ fault 10 ] ≡ map_result (rename_cty ρ) (elim b [ true ↦ bind r (sized limit) | false ↦ fault 10 ])
      go true = bind_map (rename_cty ρ) (rename_cty ρ) r (sized limit) r' (sized limit) e (sized_rename limit)
      go false = refl

  is_app_rename : (c : Cty) → is_app (rename_cty ρ c) ≡ is_app c
  unfolding walk
  is_app_rename TUnit = refl
  is_app_rename TAny = refl
  is_app_rename TExn = refl
  is_app_rename (TVar v) = refl
  is_app_rename (TInt s w) = refl
  is_app_rename (TFloat f) = refl
  is_app_rename (TConst c) = refl
  is_app_rename (TArrow a e b) = refl
  is_app_rename (TApp n ts) = refl
  is_app_rename (TTuple ts) = refl
  is_app_rename (TBuf t) = refl
  is_app_rename (TRef k t) = refl
  is_app_rename (TInline t) = refl

  module _ (next next' : Cty → Result Cty) (hn : (c : Cty) → next' (rename_cty ρ c) ≡ map_result (rename_cty ρ) (next c)) where
    surplus_rename : (c : Cty) (us : Ctys) → surplus next' (rename_cty ρ c) (rename_ctys ρ us) ≡ map_result (rename_cty ρ) (surplus next c us)
    unfolding surplus walk
    surplus_rename c nil = hn c
    surplus_rename c (cons u us) =
        ap₂ (λ (b : Bool) (r : Result Cty). elim b [ true ↦ r | false ↦ fault 9 ]) (is_app_rename c) (ap next' (attach_rename ρ c (cons u us)) ∙ hn (attach c (cons u us)))
        ∙ go (is_app c)
      where
        go : (b : Bool) → elim b [ true ↦ map_result (rename_cty ρ) (next (attach c (cons u us))) | false ↦ fault 9 ] ≡ map_result (rename_cty ρ) (elim b [ true ↦ next (attach c (cons u us)) | false ↦ fault 9 ])
        go true = refl
        go false = refl

    checked_applied_rename : (n : ℕ) (us : Ctys) (u : Unfold) → checked_applied next' (ρ n) (rename_ctys ρ us) (rename_unfold ρ u) ≡ map_result (rename_cty ρ) (checked_applied next n us u)
    unfolding checked_applied walk
    checked_applied_rename n us gone = refl
    checked_applied_rename n us (newtype ps c) =
        ap₂ (λ (b : Bool) (r : Result Cty). elim b [ true ↦ r | false ↦ fault 9 ]) (ap₂ eqb (lengths_rename ρ us) (length-map ps ρ)) (ap next' (instance_rename ρ inj ps us c) ∙ hn (instance ps us c))
        ∙ go (eqb (lengths us) (length ps))
      where
        go : (b : Bool) → elim b [ true ↦ map_result (rename_cty ρ) (next (instance ps us c)) | false ↦ fault 9 ] ≡ map_result (rename_cty ρ) (elim b [ true ↦ next (instance ps us c) | false ↦ fault 9 ])
        go true = refl
        go false = refl
    checked_applied_rename n us (abbreviation ps c) =
        ap₂ (λ (b : Bool) (r : Result Cty). elim b [ true ↦ fault 9 | false ↦ r ]) (ap₂ ltb (lengths_rename ρ us) (length-map ps ρ))
        (ap₂ (surplus next') (first_args_rename ps us c) (other_args_rename ps us) ∙ surplus_rename (instance ps (firsts (length ps) us) c) (others (length ps) us))
        ∙ go (ltb (lengths us) (length ps))
      where
        rest : Result Cty
        rest = surplus next (instance ps (firsts (length ps) us) c) (others (length ps) us)

        go : (b : Bool) → elim b [ true ↦ fault 9 | false ↦ map_result (rename_cty ρ) rest ] ≡ map_result (rename_cty ρ) (elim b [ true ↦ fault 9 | false ↦ rest ])
        go true = refl
        go false = refl
    checked_applied_rename n us stays = refl

    module _ (limit : ℕ) (lay lay' : ℕ → Unfold) (hl : (n : ℕ) → lay' (ρ n) ≡ rename_unfold ρ (lay n)) where
      mutual
        unfolding checked walk

        checked_rename : (c : Cty) → checked limit lay' next' (rename_cty ρ c) ≡ map_result (rename_cty ρ) (checked limit lay next c)
        checked_rename TUnit = within_rename limit TUnit (ok TUnit) (ok TUnit) refl
        checked_rename TAny = within_rename limit TAny (ok TAny) (ok TAny) refl
        checked_rename TExn = within_rename limit TExn (ok TExn) (ok TExn) refl
        checked_rename (TVar v) = within_rename limit (TVar v) (ok (TVar v)) (ok (TVar (ρ v))) refl
        checked_rename (TInt s w) = within_rename limit (TInt s w) (ok (TInt s w)) (ok (TInt s w)) refl
        checked_rename (TFloat f) = within_rename limit (TFloat f) (ok (TFloat f)) (ok (TFloat f)) refl
        checked_rename (TConst c) = within_rename limit (TConst c) (ok (TConst c)) (ok (TConst c)) refl
        checked_rename (TArrow a e b) =
            within_rename limit (TArrow a e b) _ _
            (bind_map (rename_cty ρ) (rename_cty ρ) (checked limit lay next a) (λ x. bind (checked limit lay next b) (λ y. ok (TArrow x e y))) (checked limit lay' next' (rename_cty ρ a)) (λ x. bind (checked limit lay' next' (rename_cty ρ b)) (λ y. ok (TArrow x e y))) (checked_rename a)
            (λ x. bind_map (rename_cty ρ) (rename_cty ρ) (checked limit lay next b) (λ y. ok (TArrow x e y)) (checked limit lay' next' (rename_cty ρ b)) (λ y. ok (TArrow (rename_cty ρ x) e y)) (checked_rename b) (λ y. refl)))
        checked_rename (TApp n ts) =
            within_rename limit (TApp n ts) _ _
            (bind_map (rename_ctys ρ) (rename_cty ρ) (checkeds limit lay next ts) (λ us. checked_applied next n us (lay n)) (checkeds limit lay' next' (rename_ctys ρ ts)) (λ us. checked_applied next' (ρ n) us (lay' (ρ n))) (checkeds_rename ts)
            (λ us. ap (checked_applied next' (ρ n) (rename_ctys ρ us)) (hl n) ∙ checked_applied_rename n us (lay n)))
        checked_rename (TTuple ts) =
            within_rename limit (TTuple ts) _ _
            (bind_map (rename_ctys ρ) (rename_cty ρ) (checkeds limit lay next ts) (λ us. ok (TTuple us)) (checkeds limit lay' next' (rename_ctys ρ ts)) (λ us. ok (TTuple us)) (checkeds_rename ts) (λ us. refl))
        checked_rename (TBuf t) =
            within_rename limit (TBuf t) _ _
            (bind_map (rename_cty ρ) (rename_cty ρ) (checked limit lay next t) (λ x. ok (TBuf x)) (checked limit lay' next' (rename_cty ρ t)) (λ x. ok (TBuf x)) (checked_rename t) (λ x. refl))
        checked_rename (TRef k t) =
            within_rename limit (TRef k t) _ _
            (bind_map (rename_cty ρ) (rename_cty ρ) (checked limit lay next t) (λ x. ok (TRef k x)) (checked limit lay' next' (rename_cty ρ t)) (λ x. ok (TRef k x)) (checked_rename t) (λ x. refl))
        checked_rename (TInline t) =
            within_rename limit (TInline t) _ _
            (bind_map (rename_cty ρ) (rename_cty ρ) (checked limit lay next t) (λ x. ok (TInline x)) (checked limit lay' next' (rename_cty ρ t)) (λ x. ok (TInline x)) (checked_rename t) (λ x. refl))

        checkeds_rename : (ts : Ctys) → checkeds limit lay' next' (rename_ctys ρ ts) ≡ map_result (rename_ctys ρ) (checkeds limit lay next ts)
        checkeds_rename nil = refl
        checkeds_rename (cons t ts) =
            bind_map (rename_cty ρ) (rename_ctys ρ) (checked limit lay next t) (λ x. bind (checkeds limit lay next ts) (λ xs. ok (cons x xs))) (checked limit lay' next' (rename_cty ρ t)) (λ x. bind (checkeds limit lay' next' (rename_ctys ρ ts)) (λ xs. ok (cons x xs))) (checked_rename t)
            (λ x. bind_map (rename_ctys ρ) (rename_ctys ρ) (checkeds limit lay next ts) (λ xs. ok (cons x xs)) (checkeds limit lay' next' (rename_ctys ρ ts)) (λ xs. ok (cons (rename_cty ρ x) xs)) (checkeds_rename ts) (λ xs. refl))

  -- the same faults, and renamed answers
  pub resolve_checked_rename : (limit : ℕ) (lay lay' : ℕ → Unfold) → ((n : ℕ) → lay' (ρ n) ≡ rename_unfold ρ (lay n))
      → (k : ℕ) (c : Cty) → resolve_checked limit lay' k (rename_cty ρ c) ≡ map_result (rename_cty ρ) (resolve_checked limit lay k c)
  unfolding resolve_checked
  resolve_checked_rename limit lay lay' hl zero c = refl
  resolve_checked_rename limit lay lay' hl (suc k) c =
      checked_rename (resolve_checked limit lay k) (resolve_checked limit lay' k) (λ t. resolve_checked_rename limit lay lay' hl k t) limit lay lay' hl c

-- ---- the left declaration
module _ (ρ : ℕ → ℕ) (inj : Injective ρ) where
  pub collapsed_abbrev_rename : (d : Dtype) (c : Cty) → collapsed_abbrev (rename_dtype ρ d) (rename_cty ρ c) ≡ rename_left ρ (collapsed_abbrev d c)
  unfolding collapsed_abbrev
  collapsed_abbrev_rename d c =
      ap₂ (λ (x y : Bool). pick (x && not y) (some (rename_dtype ρ (with_body d (TAbbrev c)))) none)
      (ap (all_in (map ρ d.dt_params)) (vars_rename ρ c) ∙ all_in_rename ρ inj d.dt_params (cty_vars c))
      (ap (member (ρ d.dt_name)) (names_rename ρ c) ∙ member_rename ρ inj d.dt_name (names_of_cty c))
      ∙ go (all_in d.dt_params (cty_vars c) && not (member d.dt_name (names_of_cty c)))
    where
      go : (b : Bool) → pick b (some (rename_dtype ρ (with_body d (TAbbrev c)))) none ≡ rename_left ρ (pick b (some (with_body d (TAbbrev c))) none)
      go true = refl
      go false = refl

  module _ (res res' : Cty → Cty) (h : (c : Cty) → res' (rename_cty ρ c) ≡ rename_cty ρ (res c)) where
    resolved_fields_rename : (fs : List Field) → map (resolved_field res') (map (rename_field ρ) fs) ≡ map (rename_field ρ) (map (resolved_field res) fs)
    unfolding resolved_field
    resolved_fields_rename =
        map_square (resolved_field res) (rename_field ρ) (rename_field ρ) (resolved_field res') (λ (f : Field). ap (λ (c : Cty). record { fd_name = ρ f.fd_name; fd_type = c }) (h f.fd_type))

    resolved_ctors_rename : (cls : List CtorLayout) → map (resolved_ctor res') (map (rename_ctor_layout ρ) cls) ≡ map (rename_ctor ρ) (map (resolved_ctor res) cls)
    unfolding resolved_ctor
    resolved_ctors_rename =
        map_square (resolved_ctor res) (rename_ctor_layout ρ) (rename_ctor ρ) (resolved_ctor res') (λ (cl : CtorLayout). ap (λ (fs : List Field). record { ct_name = ρ cl.cl_name; ct_fields = fs }) (resolved_fields_rename cl.cl_fields))

    struct_body_rename : (b : Body) (cls : List CtorLayout) → struct_body res' (rename_body ρ b) (map (rename_ctor_layout ρ) cls) ≡ rename_body ρ (struct_body res b cls)
    unfolding struct_body
    struct_body_rename TAbstract cls = refl
    struct_body_rename (TAbbrev c) cls = refl
    struct_body_rename (TRecord fs) [] = refl
    struct_body_rename (TRecord fs) (cl ∷ []) = ap TRecord (resolved_fields_rename cl.cl_fields)
    struct_body_rename (TRecord fs) (cl ∷ cm ∷ cls) = refl
    struct_body_rename (TVariant cs) cls = ap TVariant (resolved_ctors_rename cls)

    pub rw_decl_rename : (d : Dtype) (l : Layout) → rw_decl res' (rename_dtype ρ d) (rename_layout ρ l) ≡ rename_left ρ (rw_decl res d l)
    unfolding rw_decl
    rw_decl_rename d L_erased = refl
    rw_decl_rename d (L_newtype nt) = ap (collapsed_abbrev (rename_dtype ρ d)) (h nt.nt_ty) ∙ collapsed_abbrev_rename d (res nt.nt_ty)
    rw_decl_rename d (L_struct cls) = ap (λ (b : Body). some (with_body (rename_dtype ρ d) b)) (struct_body_rename d.dt_body cls)
    rw_decl_rename d (L_abbrev c) = ap (λ (t : Cty). some (with_body (rename_dtype ρ d) (TAbbrev t))) (h c)
    rw_decl_rename d L_opaque = refl

-- ---- verdicts and faults
module _ (ρ : ℕ → ℕ) where
  record_body_rename : (b : Body) → record_body (rename_body ρ b) ≡ record_body b
  unfolding record_body
  record_body_rename TAbstract = refl
  record_body_rename (TAbbrev c) = refl
  record_body_rename (TRecord fs) = refl
  record_body_rename (TVariant []) = refl
  record_body_rename (TVariant (c ∷ [])) = go c.ct_fields
    where
      go : (fs : List Field) → record_body (TVariant (record { ct_name = ρ c.ct_name; ct_fields = map (rename_field ρ) fs } ∷ [])) ≡ record_body (TVariant (record { ct_name = c.ct_name; ct_fields = fs } ∷ []))
      go [] = refl
      go (f ∷ fs) = refl
  record_body_rename (TVariant (c ∷ d ∷ cs)) = refl

  pub record_verdict_rename : (d : Dtype) → record_verdict (rename_dtype ρ d) ≡ record_verdict d
  unfolding record_verdict has_flag
  record_verdict_rename d = ap (λ (b : Bool). pick (has_flag d Realized) (has_flag d SourceRecord) b) (record_body_rename d.dt_body)

  record_of_rename : (x : Option Dtype) → record_of (rename_left ρ x) ≡ record_of x
  unfolding record_of
  record_of_rename none = refl
  record_of_rename (some d) = record_verdict_rename d

  pub info_rename : (er er' : ℕ → Bool) → ((n : ℕ) → er' (ρ n) ≡ er n) → (d : Dtype) (o : Origin) (e : Bool) (l : Layout) (x : Option Dtype)
      → info er' (rename_dtype ρ d) (rename_origin ρ o) e (rename_layout ρ l) (rename_left ρ x) ≡ rename_info ρ (info er d o e l x)
  unfolding info
  info_rename er er' h d (imported ti) e l x = refl
  info_rename er er' h d here e l x =
      ap₂ (λ (cls : List CtorLayout) (b : Bool). record { ti_erased = e; ti_layout = rename_layout ρ l; ti_ctors = cls; ti_record = b }) (ctor_layouts_rename ρ er er' h d) (record_of_rename x)

  -- what is resolved for a layout
  field_types_rename : (cls : List CtorLayout) → field_types (map (rename_ctor_layout ρ) cls) ≡ map (rename_cty ρ) (field_types cls)
  unfolding field_types
  field_types_rename [] = refl
  field_types_rename (cl ∷ cls) = go (field_types_rename cls) cl.cl_fields
    where
      go : field_types (map (rename_ctor_layout ρ) cls) ≡ map (rename_cty ρ) (field_types cls)
          → (fs : List Field)
          → field_types (record { cl_name = ρ cl.cl_name; cl_tag = cl.cl_tag; cl_slots = cl.cl_slots; cl_fields = map (rename_field ρ) fs } ∷ map (rename_ctor_layout ρ) cls)
          ≡ map (rename_cty ρ) (field_types (record { cl_name = cl.cl_name; cl_tag = cl.cl_tag; cl_slots = cl.cl_slots; cl_fields = fs } ∷ cls))
      go ih [] = ih
      go ih (f ∷ fs) = ap (λ (cs : List Cty). rename_cty ρ f.fd_type ∷ cs) (go ih fs)

  pub resolves_rename : (l : Layout) → resolves (rename_layout ρ l) ≡ map (rename_cty ρ) (resolves l)
  unfolding resolves
  resolves_rename L_erased = refl
  resolves_rename (L_newtype nt) = refl
  resolves_rename (L_struct cls) = field_types_rename cls
  resolves_rename (L_abbrev c) = refl
  resolves_rename L_opaque = refl

  pub fault_code_rename : (res res' : Cty → Result Cty) → ((c : Cty) → res' (rename_cty ρ c) ≡ map_result (rename_cty ρ) (res c)) → (cs : List Cty) → fault_code res' (map (rename_cty ρ) cs) ≡ fault_code res cs
  unfolding fault_code
  fault_code_rename res res' h [] = refl
  fault_code_rename res res' h (c ∷ cs) = go (fault_code_rename res res' h cs) (res c) refl
    where
      go : fault_code res' (map (rename_cty ρ) cs) ≡ fault_code res cs → (r : Result Cty) → res c ≡ r → fault_code res' (rename_cty ρ c ∷ map (rename_cty ρ) cs) ≡ fault_code res (c ∷ cs)
      go ih (ok t) q = rw (h c, q) ih
      go ih (fault e) q = rw (h c, q) refl
      go ih spent q = rw (h c, q) refl

-- ---- run
module _ (ρ : ℕ → ℕ) (inj : Injective ρ) (ds : List Decl) where
  abbrev renamed : List Decl
  renamed = rename_decls ρ ds

  pub layout_rename : (i : ℕ) → layout_of_decl (rename_decls ρ ds) i ≡ rename_layout ρ (layout_of_decl ds i)
  layout_rename i = ap (λ (ls : List Layout). get_or ls i L_opaque) (layouts_rename ρ inj ds) ∙ ListN.get_or-map (rename_layout ρ) (layouts_of ds) i L_opaque

  pub lay_rename : (n : ℕ) → lay (rename_decls ρ ds) (ρ n) ≡ rename_unfold ρ (lay ds n)
  lay_rename n = ap (λ (ls : List Layout). unfold_name renamed ls (ρ n)) (layouts_rename ρ inj ds) ∙ unfold_name_rename ρ inj ds (layouts_of ds) n

  -- the left declaration,
  pub left_rename : (fuel i : ℕ) → i < length ds → left_at fuel (rename_decls ρ ds) i ≡ rename_left ρ (left_at fuel ds i)
  unfolding left_at
  left_rename fuel i h =
      ap₂ (rw_decl (resolve (lay renamed) fuel)) (dtype_rename ρ ds i h) (layout_rename i)
      ∙ rw_decl_rename ρ inj (resolve (lay ds) fuel) (resolve (lay renamed) fuel) (resolve_rename ρ inj (lay ds) (lay renamed) lay_rename fuel) (dtype_at ds i) (layout_of_decl ds i)

  er_rename : (n : ℕ) → marked (rename_decls ρ ds) (erasure_fixpoint (rename_decls ρ ds)).marks (ρ n) ≡ marked ds (erasure_fixpoint ds).marks n
  er_rename n = ap (λ (s : Settled). marked renamed s.marks (ρ n)) (erasure_rename ρ inj ds) ∙ marked_rename ρ inj ds (erasure_fixpoint ds).marks n

  -- the verdict,
  pub verdict_rename : (fuel i : ℕ) → i < length ds → info_at fuel (rename_decls ρ ds) i ≡ rename_info ρ (info_at fuel ds i)
  unfolding info_at
  verdict_rename fuel i h =
      rw (dtype_rename ρ ds i h, origin_rename ρ ds i h, layout_rename i, left_rename fuel i h)
      (ap (λ (s : Settled). info (marked renamed (erasure_fixpoint renamed).marks) (rename_dtype ρ (dtype_at ds i)) (rename_origin ρ (origin_at ds i)) (get_or s.marks i false) (rename_layout ρ (layout_of_decl ds i)) (rename_left ρ (left_at fuel ds i))) (erasure_rename ρ inj ds)
      ∙ info_rename ρ (marked ds (erasure_fixpoint ds).marks) (marked renamed (erasure_fixpoint renamed).marks) er_rename (dtype_at ds i) (origin_at ds i) (get_or (erasure_fixpoint ds).marks i false) (layout_of_decl ds i) (left_at fuel ds i))

  -- the faults of rows 9 and 10,
  pub fault_rename : (limit fuel i : ℕ) → decl_fault limit fuel (rename_decls ρ ds) (layouts_of (rename_decls ρ ds)) i ≡ decl_fault limit fuel ds (layouts_of ds) i
  unfolding decl_fault
  fault_rename limit fuel i =
      ap (fault_code (resolve_checked limit (lay renamed) fuel)) (ap resolves (layout_rename i) ∙ resolves_rename ρ (layout_of_decl ds i))
      ∙ fault_code_rename ρ (resolve_checked limit (lay ds) fuel) (resolve_checked limit (lay renamed) fuel) (resolve_checked_rename ρ inj limit (lay ds) (lay renamed) lay_rename fuel) (resolves (layout_of_decl ds i))

  unfolded_rename : (u : Unfold) → unfolded (rename_unfold ρ u) ≡ Option.map (rename_cty ρ) (unfolded u)
  unfolding unfolded
  unfolded_rename gone = refl
  unfolded_rename (newtype ps c) = refl
  unfolded_rename (abbreviation ps c) = refl
  unfolded_rename stays = refl

  unfold_next_rename : (i : ℕ) → unfold_next (rename_decls ρ ds) (layouts_of (rename_decls ρ ds)) i ≡ unfold_next ds (layouts_of ds) i
  unfolding unfold_next steps
  unfold_next_rename i =
      ap (λ (us : List Unfold). type_names renamed (unfolded (get_or us i stays))) (ap (unfolds renamed) (layouts_rename ρ inj ds) ∙ unfolds_rename ρ ds (layouts_of ds))
      ∙ (ap (type_names renamed) (ap unfolded (ListN.get_or-map (rename_unfold ρ) (unfolds ds (layouts_of ds)) i stays) ∙ unfolded_rename (get_or (unfolds ds (layouts_of ds)) i stays))
      ∙ type_names_rename ρ inj ds (unfolded (get_or (unfolds ds (layouts_of ds)) i stays)))

  -- and the loops of row 8
  pub loop_rename : (i : ℕ) → returns (rename_decls ρ ds) (layouts_of (rename_decls ρ ds)) i ≡ returns ds (layouts_of ds) i
  unfolding returns
  loop_rename i = ap₂ (λ (next : ℕ → List ℕ) (n : ℕ). cyclic next n i) (fun_ext unfold_next_rename) (length-map ds (rename_decl ρ))

  pub rounds_rename : (fuel : ℕ) → (run fuel (rename_decls ρ ds)).rounds ≡ (run fuel ds).rounds
  unfolding run
  rounds_rename fuel = ap (λ (s : Settled). s.rounds) (erasure_rename ρ inj ds)

  pub infos_rename : (fuel : ℕ) → (run fuel (rename_decls ρ ds)).infos ≡ map (rename_info ρ) (run fuel ds).infos
  infos_rename fuel =
      run_infos fuel renamed
      ∙ (ap (table (info_at fuel renamed)) (length-map ds (rename_decl ρ))
      ∙ (table_cong (info_at fuel renamed) (λ i. rename_info ρ (info_at fuel ds i)) (length ds) (verdict_rename fuel)
      ∙ (table_map (rename_info ρ) (info_at fuel ds) (length ds) ∙ ap (map (rename_info ρ)) (sym (run_infos fuel ds)))))

  pub lefts_rename : (fuel : ℕ) → (run fuel (rename_decls ρ ds)).lefts ≡ map (rename_left ρ) (run fuel ds).lefts
  lefts_rename fuel =
      run_lefts fuel renamed
      ∙ (ap (table (left_at fuel renamed)) (length-map ds (rename_decl ρ))
      ∙ (table_cong (left_at fuel renamed) (λ i. rename_left ρ (left_at fuel ds i)) (length ds) (left_rename fuel)
      ∙ (table_map (rename_left ρ) (left_at fuel ds) (length ds) ∙ ap (map (rename_left ρ)) (sym (run_lefts fuel ds)))))

abbrev pub rename_ran : (ℕ → ℕ) → Ran → Ran
rename_ran ρ r = record { rounds = r.rounds; infos = map (rename_info ρ) r.infos; lefts = map (rename_left ρ) r.lefts }

-- A renamed program runs as the program: as many rounds, and what each declaration gets is renamed.
pub run_rename : (ρ : ℕ → ℕ) → Injective ρ → (fuel : ℕ) (ds : List Decl) → run fuel (rename_decls ρ ds) ≡ rename_ran ρ (run fuel ds)
run_rename ρ inj fuel ds =
    λ i. record { rounds = rounds_rename ρ inj ds fuel i; infos = infos_rename ρ inj ds fuel i; lefts = lefts_rename ρ inj ds fuel i }

-- ---- locality
-- the names of what is renamed
module _ (ρ : ℕ → ℕ) where
  fields_names_rename : (fs : List Field) → fields_names (map (rename_field ρ) fs) ≡ map ρ (fields_names fs)
  unfolding fields_names
  fields_names_rename [] = refl
  fields_names_rename (f ∷ fs) =
      ap₂ (λ (x y : List ℕ). x ++ y) (names_rename ρ f.fd_type) (fields_names_rename fs) ∙ sym (map-append ρ (names_of_cty f.fd_type) (fields_names fs))

  ctors_names_rename : (cs : List Ctor) → ctors_names (map (rename_ctor ρ) cs) ≡ map ρ (ctors_names cs)
  unfolding ctors_names
  ctors_names_rename [] = refl
  ctors_names_rename (c ∷ cs) =
      ap₂ (λ (x y : List ℕ). x ++ y) (fields_names_rename c.ct_fields) (ctors_names_rename cs) ∙ sym (map-append ρ (fields_names c.ct_fields) (ctors_names cs))

  cls_names_rename : (cls : List CtorLayout) → cls_names (map (rename_ctor_layout ρ) cls) ≡ map ρ (cls_names cls)
  unfolding cls_names
  cls_names_rename [] = refl
  cls_names_rename (cl ∷ cls) =
      ap₂ (λ (x y : List ℕ). x ++ y) (fields_names_rename cl.cl_fields) (cls_names_rename cls) ∙ sym (map-append ρ (fields_names cl.cl_fields) (cls_names cls))

  pub dtype_names_rename : (d : Dtype) → dtype_names (rename_dtype ρ d) ≡ map ρ (dtype_names d)
  unfolding dtype_names body_names
  dtype_names_rename d = go d.dt_body
    where
      go : (b : Body) → body_names (rename_body ρ b) ≡ map ρ (body_names b)
      go TAbstract = refl
      go (TAbbrev c) = names_rename ρ c
      go (TRecord fs) = fields_names_rename fs
      go (TVariant cs) = ctors_names_rename cs

  pub layout_names_rename : (l : Layout) → layout_names (rename_layout ρ l) ≡ map ρ (layout_names l)
  unfolding layout_names
  layout_names_rename L_erased = refl
  layout_names_rename (L_newtype nt) = names_rename ρ nt.nt_ty
  layout_names_rename (L_struct cls) = cls_names_rename cls
  layout_names_rename (L_abbrev c) = names_rename ρ c
  layout_names_rename L_opaque = refl

  among_rename : (ms ns : List ℕ) → Among ms ns → Among (map ρ ms) (map ρ ns)
  among_rename ms ns f n m =
      let r = Memᴰ.of_map ρ ms m in
      subst (λ (x : ℕ). Memᴰ x (map ρ ns)) r.2 (Memᴰ.map ρ (f r.0 r.1))

  -- the imports of a renamed program are made of their own declarations' types too
  pub own_rename : (ds : List Decl) → OwnImports ds → OwnImports (rename_decls ρ ds)
  own_rename ds own i ti h e = go (origin_at ds i) refl (sym (origin_rename ρ ds i below) ∙ e)
    where
      below : i < length ds
      below = subst (λ (n : ℕ). i < n) (length-map ds (rename_decl ρ)) h

      go : (o : Origin) → origin_at ds i ≡ o → rename_origin ρ o ≡ imported ti → Among (layout_names ti.ti_layout) (dtype_names (dtype_at (rename_decls ρ ds) i))
      go here q z = let y : ◌≡◌ {A = ℕ} 0 1 = cc in absurd (omega arith)
      go (imported tj) q z =
          let w : rename_info ρ tj ≡ ti = cc in
          subst (λ (t : TypeInfo). Among (layout_names t.ti_layout) (dtype_names (dtype_at (rename_decls ρ ds) i))) w
          (rw (dtype_rename ρ ds i below, layout_names_rename tj.ti_layout, dtype_names_rename (dtype_at ds i))
          (among_rename (layout_names tj.ti_layout) (dtype_names (dtype_at ds i)) (own i tj below q)))

-- What ds' gives the name ρ n is what ds gives the name n, renamed.
pub record SameRenamed (ρ : ℕ → ℕ) (limit fuel : ℕ) (ds ds' : List Decl) (n : ℕ) : Type 0 where
  pub same_declared : Declared ds' (ρ n)
  pub same_erasure : get_or (erasure_fixpoint ds').marks (position ds' (ρ n)) false ≡ get_or (erasure_fixpoint ds).marks (position ds n) false
  pub same_layout : layout_of_decl ds' (position ds' (ρ n)) ≡ rename_layout ρ (layout_of_decl ds (position ds n))
  pub same_verdict : info_at fuel ds' (position ds' (ρ n)) ≡ rename_info ρ (info_at fuel ds (position ds n))
  pub same_left : left_at fuel ds' (position ds' (ρ n)) ≡ rename_left ρ (left_at fuel ds (position ds n))
  pub same_fault : decl_fault limit fuel ds' (layouts_of ds') (position ds' (ρ n)) ≡ decl_fault limit fuel ds (layouts_of ds) (position ds n)
  pub same_loop : returns ds' (layouts_of ds') (position ds' (ρ n)) ≡ returns ds (layouts_of ds) (position ds n)

-- Locality up to renaming: let one program, renamed, agree with another on a set of names whose
-- declarations name nothing outside it; both give these names the same verdicts, left declarations and
-- faults, renamed.
pub locality_renamed : (ρ : ℕ → ℕ) → Injective ρ → (limit fuel : ℕ) (S : ℕ → Bool) (ds ds' : List Decl) → Agree S (rename_decls ρ ds) ds' → OwnImports ds → OwnImports ds'
    → (n : ℕ) → S (ρ n) ≡ true → Declared ds n → SameRenamed ρ limit fuel ds ds' n
locality_renamed ρ inj limit fuel S ds ds' agree own own' n h d =
    record {
      same_declared = (agree.declared (ρ n) h).0 declared;
      same_erasure =
          sym (marks_local S renamed ds' agree owned (ρ n) h) ∙ ap₂ (λ (s : Settled) (i : ℕ). get_or s.marks i false) (erasure_rename ρ inj ds) place;
      same_layout = sym (layouts_local S renamed ds' agree owned (ρ n) h) ∙ (ap (layout_of_decl renamed) place ∙ layout_rename ρ inj ds (position ds n));
      same_verdict = sym (info_local S renamed ds' agree owned fuel (ρ n) h declared) ∙ (ap (info_at fuel renamed) place ∙ verdict_rename ρ inj ds fuel (position ds n) d);
      same_left = sym (left_local S renamed ds' agree owned fuel (ρ n) h declared) ∙ (ap (left_at fuel renamed) place ∙ left_rename ρ inj ds fuel (position ds n) d);
      same_fault =
          sym (fault_local S renamed ds' agree owned limit fuel (ρ n) h declared) ∙ (ap (decl_fault limit fuel renamed (layouts_of renamed)) place ∙ fault_rename ρ inj ds limit fuel (position ds n));
      same_loop =
          sym (returns_local S renamed ds' agree owned own' (ρ n) h declared) ∙ (ap (returns renamed (layouts_of renamed)) place ∙ loop_rename ρ inj ds (position ds n));
    }
  where
    renamed : List Decl
    renamed = rename_decls ρ ds

    owned : OwnImports (rename_decls ρ ds)
    owned = own_rename ρ ds own

    place : position (rename_decls ρ ds) (ρ n) ≡ position ds n
    place = position_rename ρ inj ds n

    declared : Declared (rename_decls ρ ds) (ρ n)
    declared = rw (place, length-map ds (rename_decl ρ)) d
