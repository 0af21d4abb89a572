-- The names that a declaration's types mention, and the conditions under which two programs are compared.
-- Assumes nothing.
use Rattle.std.specs.Prelude.{◌↔◌, ◌⊎◌, ◌≡◌, Bool, true, not, ℕ, ◌<◌, ltb, length}
use mathlib.Core.List.{List, [], ◌∷◌, ◌++◌, Memᴰ}
use Rattle.model.specs.Cty.{names_of_cty}
use Rattle.model.specs.Decl.{L_erased, L_newtype, L_struct, L_abbrev, L_opaque, Layout, CtorLayout, Field, Ctor, Body, TAbstract, TAbbrev, TRecord, TVariant, Dtype, TypeInfo, imported, Decl, dtype_at, origin_at, position}

-- ---- names
unfoldable pub fields_names : List Field → List ℕ
fields_names [] = []
fields_names (f ∷ fs) = names_of_cty f.fd_type ++ fields_names fs

unfoldable pub ctors_names : List Ctor → List ℕ
ctors_names [] = []
ctors_names (c ∷ cs) = fields_names c.ct_fields ++ ctors_names cs

-- all names in the types of a body's fields, or in the type that it abbreviates
unfoldable pub body_names : Body → List ℕ
body_names TAbstract = []
body_names (TAbbrev c) = names_of_cty c
body_names (TRecord fs) = fields_names fs
body_names (TVariant cs) = ctors_names cs

unfoldable pub dtype_names : Dtype → List ℕ
dtype_names d = body_names d.dt_body

-- ---- names among others
-- all of ms are among ns
abbrev pub Among : List ℕ → List ℕ → Type 0
Among ms ns = (n : ℕ) → Memᴰ n ms → Memᴰ n ns

-- ---- declared names
abbrev pub Declared : List Decl → ℕ → Type 0
Declared ds n = position ds n < length ds

-- the same as a test, the other way round
unfoldable pub undeclared : List Decl → ℕ → Bool
undeclared ds n = not (ltb (position ds n) (length ds))

-- no name is declared twice
abbrev pub Distinct : List Decl → Type 0
Distinct ds = (i j : ℕ) → i < length ds → j < length ds → (dtype_at ds i).dt_name ≡ (dtype_at ds j).dt_name → i ≡ j

-- ---- two programs
-- On the names of S both declare the same, and what they declare there names nothing outside S.
pub record Agree (S : ℕ → Bool) (ds ds' : List Decl) : Type 0 where
  pub declared : (n : ℕ) → S n ≡ true → Declared ds n ↔ Declared ds' n
  pub same_dtype : (n : ℕ) → S n ≡ true → Declared ds n → dtype_at ds (position ds n) ≡ dtype_at ds' (position ds' n)
  pub same_origin : (n : ℕ) → S n ≡ true → Declared ds n → origin_at ds (position ds n) ≡ origin_at ds' (position ds' n)
  pub closed : (n : ℕ) → S n ≡ true → Declared ds n → (m : ℕ) → Memᴰ m (dtype_names (dtype_at ds (position ds n))) → S m ≡ true

-- place i of ds' is an import, with a verdict that has P
pub record Pin (P : TypeInfo → Type 0) (ds' : List Decl) (i : ℕ) : Type 0 where
  pub verdict : TypeInfo
  pub pinned : origin_at ds' i ≡ imported verdict
  pub holds : P verdict

-- ds' is ds with some places pinned: place i, where it is, to a verdict that has P i
pub record Pinned (P : ℕ → TypeInfo → Type 0) (ds ds' : List Decl) : Type 0 where
  pub same_length : length ds ≡ length ds'
  pub same_dtypes : (i : ℕ) → i < length ds → dtype_at ds i ≡ dtype_at ds' i
  pub origins : (i : ℕ) → i < length ds → (origin_at ds i ≡ origin_at ds' i) ⊎ Pin (P i) ds' i

-- a declaration made an import with this verdict, and each of a program with its own
abbrev pub pin : Decl → TypeInfo → Decl
pin d ti = record { dtype = d.dtype; origin = imported ti }

unfoldable pub pins : List Decl → List TypeInfo → List Decl
pins [] tis = []
pins (d ∷ ds) [] = []
pins (d ∷ ds) (ti ∷ tis) = pin d ti ∷ pins ds tis

-- ---- what a layout names
unfoldable pub cls_names : List CtorLayout → List ℕ
cls_names [] = []
cls_names (cl ∷ cls) = fields_names cl.cl_fields ++ cls_names cls

-- the names of the types that are resolved for a layout
unfoldable pub layout_names : Layout → List ℕ
layout_names L_erased = []
layout_names (L_newtype nt) = names_of_cty nt.nt_ty
layout_names (L_struct cls) = cls_names cls
layout_names (L_abbrev c) = names_of_cty c
layout_names L_opaque = []

-- ---- layouts name what their declarations name
-- an import's layout is made of its own declaration's types
abbrev pub OwnImports : List Decl → Type 0
OwnImports ds = (i : ℕ) (ti : TypeInfo) → i < length ds → origin_at ds i ≡ imported ti → Among (layout_names ti.ti_layout) (dtype_names (dtype_at ds i))
