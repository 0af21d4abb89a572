-- Resolving types: `resolve` of the source's Layout file, and beside it the one that tells the
-- faults of rows 9 and 10 (FORMAT, section 6.7). Assumes nothing.
use mathlib.Core.List.{List, []}
use Rattle.std.specs.Prelude.{Bool, true, false, ◌||◌, eqb, leb, ltb, length}
use Rattle.std.proofs.Math.Option.{Option, none, some}
use Prim.Native.Nat.{ℕ, zero, suc}
use Rattle.std.proofs.Math.ListN.{get_or}
use Rattle.number_columns.specs.Column.{pick}
use Rattle.model.specs.Cty.{
  Cty,
  Ctys,
  TUnit,
  TAny,
  TExn,
  TVar,
  TInt,
  TFloat,
  TConst,
  TArrow,
  TApp,
  TTuple,
  TBuf,
  TRef,
  TInline,
  nil,
  cons,
  lengths,
  append,
  firsts,
  others,
  walk,
  size,
  zip,
  subst_cty,
}
use Rattle.model.specs.Decl.{
  Body,
  TAbstract,
  TAbbrev,
  TRecord,
  TVariant,
  Dtype,
  Realized,
  NoUnfold,
  has_flag,
  Layout,
  L_erased,
  L_newtype,
  L_struct,
  L_abbrev,
  L_opaque,
  Decl,
  dtype_at,
  table,
  position,
}

-- ---- what becomes of a name
-- Replaced by `TUnit`; by its payload; by the type that it abbreviates; left.
pub data Unfold : Type 0 where
  gone : Unfold
  newtype : List ℕ → Cty → Unfold
  abbreviation : List ℕ → Cty → Unfold
  stays : Unfold

-- the type that a name is replaced by
unfoldable pub unfolded : Unfold → Option Cty
unfolded gone = none
unfolded (newtype ps c) = some c
unfolded (abbreviation ps c) = some c
unfolded stays = none

-- the type that an unfolded abbreviation stands for
unfoldable pub abbreviation_of : Unfold → Option Cty
abbreviation_of gone = none
abbreviation_of (newtype ps c) = none
abbreviation_of (abbreviation ps c) = some c
abbreviation_of stays = none

unfoldable pub unfold_body : List ℕ → Body → Unfold
unfold_body ps TAbstract = stays
unfold_body ps (TAbbrev c) = abbreviation ps c
unfold_body ps (TRecord fs) = stays
unfold_body ps (TVariant cs) = stays

unfoldable pub unfold_dtype : Dtype → Unfold
unfold_dtype d = pick (has_flag d Realized || has_flag d NoUnfold) stays (unfold_body d.dt_params d.dt_body)

unfoldable pub unfold_of : Dtype → Layout → Unfold
unfold_of d L_erased = gone
unfold_of d (L_newtype nt) = newtype d.dt_params nt.nt_ty
unfold_of d (L_struct cls) = unfold_dtype d
unfold_of d (L_abbrev c) = unfold_dtype d
unfold_of d L_opaque = unfold_dtype d

unfoldable pub unfolds : List Decl → List Layout → List Unfold
unfolds ds ls = table (λ i. unfold_of (dtype_at ds i) (get_or ls i L_opaque)) (length ds)

-- by name: a foreign name is left
unfoldable pub unfold_name : List Decl → List Layout → ℕ → Unfold
unfold_name ds ls n = get_or (unfolds ds ls) (position ds n) stays

-- ---- resolve
-- the surplus arguments go to what the body is, if that takes arguments
unfoldable pub attach : Cty → Ctys → Cty
attach TUnit us = TUnit
attach TAny us = TAny
attach TExn us = TExn
attach (TVar v) us = TVar v
attach (TInt s w) us = TInt s w
attach (TFloat f) us = TFloat f
attach (TConst c) us = TConst c
attach (TArrow a e b) us = TArrow a e b
attach (TApp n ts) us = TApp n (append ts us)
attach (TTuple ts) us = TTuple ts
attach (TBuf t) us = TBuf t
attach (TRef k t) us = TRef k t
attach (TInline t) us = TInline t

-- `try List.zip .. with _ -> []`: where the counts differ nothing is substituted
unfoldable pub instance : List ℕ → Ctys → Cty → Cty
instance ps us c = subst_cty (pick (eqb (length ps) (lengths us)) (zip ps us) []) c

-- a name with its resolved arguments; `next` resolves with one less of fuel
unfoldable pub applied : (Cty → Cty) → ℕ → Ctys → Unfold → Cty
applied next n us gone = TUnit
applied next n us (newtype ps c) = next (instance ps us c)
applied next n us (abbreviation ps c) = next (attach (instance ps (firsts (length ps) us) c) (others (length ps) us))
applied next n us stays = TApp n us

-- Layout's `resolve`, by fuel
unfoldable pub resolve : (ℕ → Unfold) → ℕ → Cty → Cty
resolve lay zero c = c
resolve lay (suc k) c = walk TVar (λ n us. applied (resolve lay k) n us (lay n)) c

-- ---- the checked resolution
-- A type, the code of the fault met first (9 or 10), or fuel that has run out.
pub data Result (A : Type 0) : Type 0 where
  ok : A → Result A
  fault : ℕ → Result A
  spent : Result A

unfoldable pub bind : {A B : Type 0} → Result A → (A → Result B) → Result B
bind (ok a) f = f a
bind (fault e) f = fault e
bind spent f = spent

-- row 10: no type of more than so many nodes
unfoldable pub sized : ℕ → Cty → Result Cty
sized limit c = pick (leb (size c) limit) (ok c) (fault 10)

-- tested on the way in and on the way out
unfoldable pub within : ℕ → Cty → Result Cty → Result Cty
within limit c r = elim (leb (size c) limit) [ true ↦ bind r (sized limit) | false ↦ fault 10 ]

abbrev pub is_app : Cty → Bool
is_app TUnit = false
is_app TAny = false
is_app TExn = false
is_app (TVar v) = false
is_app (TInt s w) = false
is_app (TFloat f) = false
is_app (TConst c) = false
is_app (TArrow a e b) = false
is_app (TApp n ts) = true
is_app (TTuple ts) = false
is_app (TBuf t) = false
is_app (TRef k t) = false
is_app (TInline t) = false

-- a surplus is taken by a `TApp` alone
unfoldable pub surplus : (Cty → Result Cty) → Cty → Ctys → Result Cty
surplus next c nil = next c
surplus next c (cons u us) = elim (is_app c) [ true ↦ next (attach c (cons u us)) | false ↦ fault 9 ]

-- row 9: the counts of arguments
unfoldable pub checked_applied : (Cty → Result Cty) → ℕ → Ctys → Unfold → Result Cty
checked_applied next n us gone = ok TUnit
checked_applied next n us (newtype ps c) =
    elim (eqb (lengths us) (length ps)) [ true ↦ next (instance ps us c) | false ↦ fault 9 ]
checked_applied next n us (abbreviation ps c) =
    elim (ltb (lengths us) (length ps)) [
      | true ↦ fault 9
      | false ↦ surplus next (instance ps (firsts (length ps) us) c) (others (length ps) us)
    ]
checked_applied next n us stays = ok (TApp n us)

-- parts from left to right, arguments before their name
module _ (limit : ℕ) (lay : ℕ → Unfold) (next : Cty → Result Cty) where
  unfoldable mutual
    pub checked : Cty → Result Cty
    checked TUnit = within limit TUnit (ok TUnit)
    checked TAny = within limit TAny (ok TAny)
    checked TExn = within limit TExn (ok TExn)
    checked (TVar v) = within limit (TVar v) (ok (TVar v))
    checked (TInt s w) = within limit (TInt s w) (ok (TInt s w))
    checked (TFloat f) = within limit (TFloat f) (ok (TFloat f))
    checked (TConst c) = within limit (TConst c) (ok (TConst c))
    checked (TArrow a e b) =
        within limit (TArrow a e b) (bind (checked a) (λ x. bind (checked b) (λ y. ok (TArrow x e y))))
    checked (TApp n ts) = within limit (TApp n ts) (bind (checkeds ts) (λ us. checked_applied next n us (lay n)))
    checked (TTuple ts) = within limit (TTuple ts) (bind (checkeds ts) (λ us. ok (TTuple us)))
    checked (TBuf t) = within limit (TBuf t) (bind (checked t) (λ x. ok (TBuf x)))
    checked (TRef k t) = within limit (TRef k t) (bind (checked t) (λ x. ok (TRef k x)))
    checked (TInline t) = within limit (TInline t) (bind (checked t) (λ x. ok (TInline x)))

    pub checkeds : Ctys → Result Ctys
    checkeds nil = ok nil
    checkeds (cons t ts) = bind (checked t) (λ x. bind (checkeds ts) (λ xs. ok (cons x xs)))

unfoldable pub resolve_checked : ℕ → (ℕ → Unfold) → ℕ → Cty → Result Cty
resolve_checked limit lay zero c = spent
resolve_checked limit lay (suc k) c = checked limit lay (resolve_checked limit lay k) c
