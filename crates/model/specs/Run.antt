-- The pass over a program of types: `rw_decl`, `collapsed_abbrev`, `record_verdict` and `run` of the
-- source's Layout file. Assumes nothing.
use Rattle.std.specs.Prelude.{◌≡◌, Bool, true, false, ◌&&◌, not, length, get_or}
use mathlib.Core.List.{List, [], ◌∷◌, map}
use Rattle.std.proofs.Math.Option.{Option, none, some}
use Prim.Native.Nat.{ℕ}
use Rattle.number_columns.specs.Column.{pick}
use Rattle.model.specs.Cty.{Cty, names_of_cty, cty_vars}
use Rattle.model.specs.Decl.{
  Field,
  Ctor,
  Body,
  TAbstract,
  TAbbrev,
  TRecord,
  TVariant,
  Dtype,
  Realized,
  SourceRecord,
  has_flag,
  CtorLayout,
  NewtypeLayout,
  Layout,
  L_erased,
  L_newtype,
  L_struct,
  L_abbrev,
  L_opaque,
  TypeInfo,
  Origin,
  here,
  imported,
  Decl,
  dtype_at,
  origin_at,
  table,
  member,
}
use Rattle.model.specs.Erasure.{Settled, marked, erasure_fixpoint}
use Rattle.model.specs.Layout.{ctor_layouts, compute_layouts, steps}
use Rattle.model.specs.Reach.{cyclic}
use Rattle.model.specs.Resolve.{Unfold, stays, unfolded, abbreviation_of, unfolds, unfold_name, resolve, Result, ok, fault, spent, resolve_checked}

-- ---- the left declaration
abbrev pub with_body : Dtype → Body → Dtype
with_body d b = record { dt_name = d.dt_name; dt_flags = d.dt_flags; dt_params = d.dt_params; dt_body = b }

unfoldable pub all_in : List ℕ → List ℕ → Bool
all_in [] ns = true
all_in (m ∷ ms) ns = member m ns && all_in ms ns

-- Layout's `collapsed_abbrev`
unfoldable pub collapsed_abbrev : Dtype → Cty → Option Dtype
collapsed_abbrev d c =
    pick (all_in d.dt_params (cty_vars c) && not (member d.dt_name (names_of_cty c))) (some (with_body d (TAbbrev c))) none

module _ (res : Cty → Cty) where
  unfoldable pub resolved_field : Field → Field
  resolved_field f = record { fd_name = f.fd_name; fd_type = res f.fd_type }

  unfoldable pub resolved_ctor : CtorLayout → Ctor
  resolved_ctor cl = record { ct_name = cl.cl_name; ct_fields = map resolved_field cl.cl_fields }

  unfoldable pub struct_body : Body → List CtorLayout → Body
  struct_body TAbstract cls = TAbstract
  struct_body (TAbbrev c) cls = TAbbrev c
  struct_body (TRecord fs) [] = TRecord fs
  struct_body (TRecord fs) (cl ∷ []) = TRecord (map resolved_field cl.cl_fields)
  struct_body (TRecord fs) (cl ∷ cm ∷ cls) = TRecord fs
  struct_body (TVariant cs) cls = TVariant (map resolved_ctor cls)

  -- Layout's `rw_decl` on a type, its list of at most one declaration as an option
  unfoldable pub rw_decl : Dtype → Layout → Option Dtype
  rw_decl d L_erased = none
  rw_decl d (L_newtype nt) = collapsed_abbrev d (res nt.nt_ty)
  rw_decl d (L_struct cls) = some (with_body d (struct_body d.dt_body cls))
  rw_decl d (L_abbrev c) = some (with_body d (TAbbrev (res c)))
  rw_decl d L_opaque = some d

-- ---- record_verdict
unfoldable pub record_body : Body → Bool
record_body TAbstract = false
record_body (TAbbrev c) = false
record_body (TRecord fs) = false
record_body (TVariant []) = false
record_body (TVariant (c ∷ [])) = not (empty c.ct_fields)
  where
    empty : List Field → Bool
    empty [] = true
    empty (f ∷ fs) = false
record_body (TVariant (c ∷ d ∷ cs)) = false

-- Layout's `record_verdict`
unfoldable pub record_verdict : Dtype → Bool
record_verdict d = pick (has_flag d Realized) (has_flag d SourceRecord) (record_body d.dt_body)

-- read off the left declaration, no where there is none
unfoldable pub record_of : Option Dtype → Bool
record_of none = false
record_of (some d) = record_verdict d

-- ---- run
unfoldable pub info : (ℕ → Bool) → Dtype → Origin → Bool → Layout → Option Dtype → TypeInfo
info er d (imported ti) e l left = ti
info er d here e l left = record { ti_erased = e; ti_layout = l; ti_ctors = ctor_layouts er d; ti_record = record_of left }

unfoldable pub layouts_of : List Decl → List Layout
layouts_of ds = compute_layouts ds (erasure_fixpoint ds).marks

-- Rounds of erasure; for each declaration its verdict, and what is left of it.
pub record Ran : Type 0 where
  pub rounds : ℕ
  pub infos : List TypeInfo
  pub lefts : List (Option Dtype)

-- Layout's `run` on a program of types whose fields are closed, every import's declaration standing in
-- it. `fuel` is the bound on unfolding, 100 in the source.
unfoldable pub run : ℕ → List Decl → Ran
run fuel ds =
    let s : Settled = erasure_fixpoint ds in
    let ls : List Layout = compute_layouts ds s.marks in
    let xs : List (Option Dtype) = table (λ i. rw_decl (resolve (unfold_name ds ls) fuel) (dtype_at ds i) (get_or ls i L_opaque)) (length ds) in
    record {
      rounds = s.rounds;
      infos = table (λ i. info (marked ds s.marks) (dtype_at ds i) (origin_at ds i) (get_or s.marks i false) (get_or ls i L_opaque) (get_or xs i none)) (length ds);
      lefts = xs;
    }

unfoldable pub somes : List (Option Dtype) → List Dtype
somes [] = []
somes (none ∷ xs) = somes xs
somes (some d ∷ xs) = d ∷ somes xs

-- the program that is left
abbrev pub left_program : Ran → List Dtype
left_program r = somes r.lefts

-- ---- one declaration
-- what becomes of the names of a program
abbrev pub lay : List Decl → ℕ → Unfold
lay ds = unfold_name ds (layouts_of ds)

abbrev pub layout_of_decl : List Decl → ℕ → Layout
layout_of_decl ds i = get_or (layouts_of ds) i L_opaque

-- what `run` leaves of declaration i
unfoldable pub left_at : ℕ → List Decl → ℕ → Option Dtype
left_at fuel ds i = rw_decl (resolve (lay ds) fuel) (dtype_at ds i) (layout_of_decl ds i)

-- the verdict that it gives declaration i
unfoldable pub info_at : ℕ → List Decl → ℕ → TypeInfo
info_at fuel ds i =
    info (marked ds (erasure_fixpoint ds).marks) (dtype_at ds i) (origin_at ds i) (get_or (erasure_fixpoint ds).marks i false) (layout_of_decl ds i) (left_at fuel ds i)

-- ---- what rows 8, 9 and 10 look at
-- row 8 goes on through the bodies and payloads of unfolded names
unfoldable pub unfold_next : List Decl → List Layout → ℕ → List ℕ
unfold_next ds ls = steps ds (λ i. unfolded (get_or (unfolds ds ls) i stays))

-- row 8: an unfolded name reaches itself
unfoldable pub returns : List Decl → List Layout → ℕ → Bool
returns ds ls i = cyclic (unfold_next ds ls) (length ds) i

-- What the claims say of such loops: declaration i is an abbreviation that is unfolded.
pub record Abbreviates (ds : List Decl) (ls : List Layout) (i : ℕ) : Type 0 where
  pub type : Cty
  pub unfolds_to : abbreviation_of (get_or (unfolds ds ls) i stays) ≡ some type

-- Declaration i is imported as a newtype.
pub record ImportedNewtype (ds : List Decl) (i : ℕ) : Type 0 where
  pub verdict : TypeInfo
  pub newtype : NewtypeLayout
  pub is_imported : origin_at ds i ≡ imported verdict
  pub is_newtype : verdict.ti_layout ≡ L_newtype newtype

unfoldable pub field_types : List CtorLayout → List Cty
field_types [] = []
field_types (cl ∷ cls) = go cl.cl_fields (field_types cls)
  where
    go : List Field → List Cty → List Cty
    go [] cs = cs
    go (f ∷ fs) cs = f.fd_type ∷ go fs cs

-- what `rw_decl` resolves, in its order
unfoldable pub resolves : Layout → List Cty
resolves L_erased = []
resolves (L_newtype nt) = nt.nt_ty ∷ []
resolves (L_struct cls) = field_types cls
resolves (L_abbrev c) = c ∷ []
resolves L_opaque = []

-- what is told of fuel that has run out: the code of no row, and never given after row 8
abbrev pub spent_code : ℕ
spent_code = 99

-- the first fault met, 0 where there is none
unfoldable pub fault_code : (Cty → Result Cty) → List Cty → ℕ
fault_code res [] = 0
fault_code res (c ∷ cs) = go (res c) (fault_code res cs)
  where
    go : Result Cty → ℕ → ℕ
    go (ok t) n = n
    go (fault e) n = e
    go spent n = spent_code

-- rows 9 and 10 at one declaration
unfoldable pub decl_fault : ℕ → ℕ → List Decl → List Layout → ℕ → ℕ
decl_fault limit fuel ds ls i = fault_code (resolve_checked limit (unfold_name ds ls) fuel) (resolves (get_or ls i L_opaque))
