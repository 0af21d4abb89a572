-- Declarations and verdicts: `dtype`, `layout` and `type_info` of the source's Syntax file.
-- Assumes nothing.
use Rattle.std.specs.Prelude.{List, [], ◌∷◌, map, Bool, true, false, ℕ, zero, suc, ◌/◌, ◌%◌, eqb, get_or}
use Rattle.std.proofs.Math.Option.{Option, none, some}
use Rattle.number_columns.specs.Column.{pick}
use Rattle.model.specs.Cty.{Cty, TVar, TAny, TApp, walk}

-- ---- declarations
pub record Field : Type 0 where
  pub fd_name : ℕ
  pub fd_type : Cty

pub record Ctor : Type 0 where
  pub ct_name : ℕ
  pub ct_fields : List Field

-- what stands for a constructor past the last
abbrev pub no_ctor : Ctor
no_ctor = record { ct_name = 0; ct_fields = [] }

pub data Body : Type 0 where
  TAbstract : Body
  TAbbrev : Cty → Body
  TRecord : List Field → Body
  TVariant : List Ctor → Body

pub record Dtype : Type 0 where
  pub dt_name : ℕ
  pub dt_flags : ℕ
  pub dt_params : List ℕ
  pub dt_body : Body

-- flags, as their numbers in the sum
abbrev pub Erased : ℕ
Erased = 1

abbrev pub Realized : ℕ
Realized = 2

abbrev pub NoNewtype : ℕ
NoNewtype = 4

abbrev pub NoUnfold : ℕ
NoUnfold = 8

abbrev pub SourceRecord : ℕ
SourceRecord = 16

unfoldable pub has_flag : Dtype → ℕ → Bool
has_flag d f = eqb (d.dt_flags / f % 2) 1

-- Layout's `ctors_of_tydef`: of a record its only constructor, which has the type's name
unfoldable pub ctors_of : ℕ → Body → List Ctor
ctors_of n TAbstract = []
ctors_of n (TAbbrev c) = []
ctors_of n (TRecord fs) = record { ct_name = n; ct_fields = fs } ∷ []
ctors_of n (TVariant cs) = cs

abbrev pub ctors_of_tydef : Dtype → List Ctor
ctors_of_tydef d = ctors_of d.dt_name d.dt_body

-- ---- verdicts
-- The tag, none where the type has a single constructor; one slot for each field of the declaration, true where it is kept; and the
-- kept fields (`cl_arity` is their number).
pub record CtorLayout : Type 0 where
  pub cl_name : ℕ
  pub cl_tag : Option ℕ
  pub cl_slots : List Bool
  pub cl_fields : List Field

pub record NewtypeLayout : Type 0 where
  pub nt_ctor : ℕ
  pub nt_field : ℕ
  pub nt_index : ℕ
  pub nt_ty : Cty

pub data Layout : Type 0 where
  L_erased : Layout
  L_newtype : NewtypeLayout → Layout
  L_struct : List CtorLayout → Layout
  L_abbrev : Cty → Layout
  L_opaque : Layout

-- the number of a mark, of a tag, and of a layout (FORMAT, section 2)
abbrev pub bit : Bool → ℕ
bit true = 1
bit false = 0

abbrev pub tag_number : Option ℕ → ℕ
tag_number none = 0
tag_number (some i) = suc i

unfoldable pub layout_number : Layout → ℕ
layout_number L_erased = 0
layout_number (L_newtype nt) = 1
layout_number (L_struct cls) = 2
layout_number (L_abbrev c) = 3
layout_number L_opaque = 4

pub record TypeInfo : Type 0 where
  pub ti_erased : Bool
  pub ti_layout : Layout
  pub ti_ctors : List CtorLayout
  pub ti_record : Bool

-- A declaration of the program, and for an import its verdict (`pinned` in the source).
pub data Origin : Type 0 where
  here : Origin
  imported : TypeInfo → Origin

pub record Decl : Type 0 where
  pub dtype : Dtype
  pub origin : Origin

-- what stands for a declaration past the last
abbrev pub no_decl : Decl
no_decl = record { dtype = record { dt_name = 0; dt_flags = 0; dt_params = []; dt_body = TAbstract }; origin = here }

abbrev pub dtype_at : List Decl → ℕ → Dtype
dtype_at ds i = (get_or ds i no_decl).dtype

abbrev pub origin_at : List Decl → ℕ → Origin
origin_at ds i = (get_or ds i no_decl).origin

-- what f gives for each of the n declarations: every table of the pass
unfoldable pub table : {A : Type 0} → (ℕ → A) → ℕ → List A
table f zero = []
table f (suc n) = f 0 ∷ table (λ i. f (suc i)) n

-- the place of a name's declaration, or the number of declarations where the name is foreign
unfoldable pub position : List Decl → ℕ → ℕ
position [] n = 0
position (d ∷ ds) n = pick (eqb d.dtype.dt_name n) 0 (suc (position ds n))

-- ---- close_fields
unfoldable pub member : ℕ → List ℕ → Bool
member n [] = false
member n (m ∷ ms) = pick (eqb m n) true (member n ms)

-- `TAny` in place of each variable that is no parameter
unfoldable pub close : List ℕ → Cty → Cty
close ps = walk (λ v. pick (member v ps) (TVar v) TAny) TApp

unfoldable pub close_field : List ℕ → Field → Field
close_field ps f = record { fd_name = f.fd_name; fd_type = close ps f.fd_type }

unfoldable pub close_body : List ℕ → Body → Body
close_body ps TAbstract = TAbstract
close_body ps (TAbbrev c) = TAbbrev (close ps c)
close_body ps (TRecord fs) = TRecord (map (close_field ps) fs)
close_body ps (TVariant cs) = TVariant (map (λ c. record { ct_name = c.ct_name; ct_fields = map (close_field ps) c.ct_fields }) cs)

-- Layout's `close_fields`
unfoldable pub close_fields : Dtype → Dtype
close_fields d =
    record { dt_name = d.dt_name; dt_flags = d.dt_flags; dt_params = d.dt_params; dt_body = close_body d.dt_params d.dt_body }
