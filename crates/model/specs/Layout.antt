-- Constructor layouts and newtype collapse: section 5.2 of the source's Layout file.
-- Assumes nothing.
use Rattle.std.specs.Prelude.{◌≡◌, List, [], ◌∷◌, map, Bool, false, ◌||◌, not, ℕ, suc, eqb, ltb, length, get_or}
use Rattle.std.proofs.Math.Bool.{true}
use Rattle.std.proofs.Math.Option.{Option, none, some}
use Rattle.number_columns.specs.Column.{pick}
use Rattle.model.specs.Cty.{Cty, uninline, names_of_cty}
use Rattle.model.specs.Decl.{
  Field,
  Ctor,
  no_ctor,
  Body,
  TAbstract,
  TAbbrev,
  TRecord,
  TVariant,
  Dtype,
  NoNewtype,
  has_flag,
  ctors_of_tydef,
  CtorLayout,
  NewtypeLayout,
  Layout,
  L_erased,
  L_newtype,
  L_struct,
  L_abbrev,
  L_opaque,
  Origin,
  here,
  imported,
  Decl,
  dtype_at,
  origin_at,
  table,
  position,
}
use Rattle.model.specs.Erasure.{cty_erased, marked}
use Rattle.model.specs.Reach.{cyclic}
use Rattle.model.specs.Resolve.{abbreviation_of, unfold_of}

-- ---- ctor_layouts
unfoldable pub slots : (ℕ → Bool) → List Field → List Bool
slots er fs = map (λ f. not (cty_erased er f.fd_type)) fs

unfoldable pub kept : List Bool → List Field → List Field
kept [] fs = []
kept (b ∷ bs) [] = []
kept (b ∷ bs) (f ∷ fs) = let gs : List Field = kept bs fs in pick b (f ∷ gs) gs

unfoldable pub ctor_layout : Option ℕ → Ctor → List Bool → CtorLayout
ctor_layout tag c bs = record { cl_name = c.ct_name; cl_tag = tag; cl_slots = bs; cl_fields = kept bs c.ct_fields }

-- the tag of constructor i of n: none of a single one, else its place
abbrev pub ctor_tag : ℕ → ℕ → Option ℕ
ctor_tag n i = pick (eqb n 1) none (some i)

-- the layouts of constructors, by their places, where `tag` has the tag of each place
abbrev pub layouts_of_ctors : (ℕ → Bool) → (ℕ → Option ℕ) → List Ctor → List CtorLayout
layouts_of_ctors er tag cs = table (λ i. ctor_layout (tag i) (get_or cs i no_ctor) (slots er (get_or cs i no_ctor).ct_fields)) (length cs)

-- Layout's `ctor_layouts`
unfoldable pub ctor_layouts : (ℕ → Bool) → Dtype → List CtorLayout
ctor_layouts er d = let cs : List Ctor = ctors_of_tydef d in layouts_of_ctors er (ctor_tag (length cs)) cs

-- a constructor with its kept fields
abbrev pub kept_ctor : CtorLayout → Ctor
kept_ctor cl = record { ct_name = cl.cl_name; ct_fields = cl.cl_fields }

-- ---- newtypes
-- the place of the first kept field
unfoldable pub first_kept : List Bool → ℕ
first_kept [] = 0
first_kept (true ∷ bs) = 0
first_kept (false ∷ bs) = suc (first_kept bs)

-- The newtype that one constructor with one kept field can become: an outer `TInline` of the payload goes.
unfoldable pub newtype_of_ctor : ℕ → List Bool → List Field → Option NewtypeLayout
newtype_of_ctor n bs [] = none
newtype_of_ctor n bs (f ∷ []) =
    some (record { nt_ctor = n; nt_field = f.fd_name; nt_index = first_kept bs; nt_ty = uninline f.fd_type })
newtype_of_ctor n bs (f ∷ g ∷ fs) = none

unfoldable pub newtype_of : List CtorLayout → Option NewtypeLayout
newtype_of [] = none
newtype_of (cl ∷ []) = newtype_of_ctor cl.cl_name cl.cl_slots cl.cl_fields
newtype_of (cl ∷ cm ∷ cls) = none

-- a candidate: local, not erased, without `NoNewtype`
unfoldable pub candidate : Dtype → Origin → Bool → List CtorLayout → Option NewtypeLayout
candidate d (imported ti) e cls = none
candidate d here e cls = pick (e || has_flag d NoNewtype) none (newtype_of cls)

-- er: which names are erased; s: the same, by declaration
unfoldable pub candidates : List Decl → (ℕ → Bool) → List Bool → List (Option NewtypeLayout)
candidates ds er s =
    table (λ i. candidate (dtype_at ds i) (origin_at ds i) (get_or s i false) (ctor_layouts er (dtype_at ds i))) (length ds)

-- the candidates of a program with these marks
abbrev pub candidates_of : List Decl → List Bool → List (Option NewtypeLayout)
candidates_of ds s = candidates ds (marked ds s) s

-- ---- layouts of declarations
unfoldable pub collapse : Bool → Option NewtypeLayout → List CtorLayout → Layout
collapse true cand cls = L_struct cls
collapse false none cls = L_struct cls
collapse false (some nt) cls = L_newtype nt

unfoldable pub layout_of_body : Body → Bool → Option NewtypeLayout → List CtorLayout → Layout
layout_of_body TAbstract drop cand cls = L_opaque
layout_of_body (TAbbrev c) drop cand cls = L_abbrev c
layout_of_body (TRecord fs) drop cand cls = collapse drop cand cls
layout_of_body (TVariant cs) drop cand cls = collapse drop cand cls

unfoldable pub layout_of : Dtype → Origin → Bool → Bool → Option NewtypeLayout → List CtorLayout → Layout
layout_of d (imported ti) e drop cand cls = ti.ti_layout
layout_of d here true drop cand cls = L_erased
layout_of d here false drop cand cls = layout_of_body d.dt_body drop cand cls

-- ---- acyclic_candidates
unfoldable pub positions : List Decl → List ℕ → List ℕ
positions ds [] = []
positions ds (n ∷ ns) = let is : List ℕ = positions ds ns in pick (ltb (position ds n) (length ds)) (position ds n ∷ is) is

-- the declarations that a type names
abbrev pub names_in : List Decl → Cty → List ℕ
names_in ds c = positions ds (names_of_cty c)

unfoldable pub type_names : List Decl → Option Cty → List ℕ
type_names ds none = []
type_names ds (some c) = names_in ds c

-- From declaration i to those that the type named by it is gone on through names: `through` says
-- which type that is, if any.
unfoldable pub steps : List Decl → (ℕ → Option Cty) → ℕ → List ℕ
steps ds through i = type_names ds (through i)

unfoldable pub payload : Option NewtypeLayout → Option Cty
payload none = none
payload (some nt) = some nt.nt_ty

-- The source's guard goes on through the payloads of candidates, dropped ones too.
unfoldable pub source_passes : List (Option NewtypeLayout) → List (Option Cty)
source_passes cands = map payload cands

-- The guard here goes on through the bodies of unfolded abbreviations besides: local ones that are not
-- erased and imported ones whose layout is not, without `Realized` and `NoUnfold` (`unfold_of`). A
-- declaration that is no candidate becomes the same whatever is dropped.
unfoldable pub passed : Dtype → Origin → Bool → Option NewtypeLayout → Option Cty
passed d o e none = abbreviation_of (unfold_of d (layout_of d o e true none []))
passed d o e (some nt) = some nt.nt_ty

unfoldable pub passes : List Decl → List Bool → List (Option NewtypeLayout) → List (Option Cty)
passes ds s cands = table (λ i. passed (dtype_at ds i) (origin_at ds i) (get_or s i false) (get_or cands i none)) (length ds)

-- what the guard goes on through in a program with these marks
abbrev pub passes_of : List Decl → List Bool → List (Option Cty)
passes_of ds s = passes ds s (candidates_of ds s)

-- the guard's steps, by a table of what is gone on through
unfoldable pub guard_next : List Decl → List (Option Cty) → ℕ → List ℕ
guard_next ds through = steps ds (λ i. get_or through i none)

-- the steps of the source's guard
abbrev pub source_guard_next : List Decl → List (Option NewtypeLayout) → ℕ → List ℕ
source_guard_next ds cands = guard_next ds (source_passes cands)

-- Layout's `acyclic_candidates`: whether candidate i is dropped
unfoldable pub dropped : List Decl → List (Option Cty) → ℕ → Bool
dropped ds through i = cyclic (guard_next ds through) (length ds) i

-- ---- compute_layouts
-- Layout's `compute_layouts`, by what its guard goes on through
abbrev pub layouts_by : List Decl → List Bool → List (Option Cty) → List Layout
layouts_by ds s through =
    let er : ℕ → Bool = marked ds s in
    let cands : List (Option NewtypeLayout) = candidates ds er s in
    table (λ i. layout_of (dtype_at ds i) (origin_at ds i) (get_or s i false) (dropped ds through i) (get_or cands i none) (ctor_layouts er (dtype_at ds i))) (length ds)

unfoldable pub compute_layouts : List Decl → List Bool → List Layout
compute_layouts ds s = layouts_by ds s (passes_of ds s)

-- the layouts with the source's guard
unfoldable pub source_layouts : List Decl → List Bool → List Layout
source_layouts ds s = layouts_by ds s (source_passes (candidates_of ds s))

-- ---- what is claimed of them
-- What makes a declaration a candidate for a newtype: it is not erased, has not the flag `NoNewtype`,
-- and has one constructor (a record counts as one, an abstract type or an abbreviation has none) of
-- which one field is kept. `e` is its mark, and `nt` the newtype that it can become.
pub record Candidate (er : ℕ → Bool) (d : Dtype) (e : Bool) (nt : NewtypeLayout) : Type 0 where
  pub ctor : Ctor
  pub field : Field
  pub not_erased : e ≡ false
  pub allowed : has_flag d NoNewtype ≡ false
  pub one_ctor : ctors_of_tydef d ≡ ctor ∷ []
  pub one_kept : kept (slots er ctor.ct_fields) ctor.ct_fields ≡ field ∷ []
  pub made :
      nt ≡ record { nt_ctor = ctor.ct_name; nt_field = field.fd_name; nt_index = first_kept (slots er ctor.ct_fields); nt_ty = uninline field.fd_type }
