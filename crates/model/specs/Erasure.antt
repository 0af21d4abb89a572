-- Erasure: section 5.1 of the source's Layout file. Assumes nothing.
use Rattle.std.specs.Prelude.{◌≢◌, ◌≡◌, List, [], ◌∷◌, map, Bool, true, false, ◌&&◌, not, ◌<◌, ◌+◌, ℕ, zero, suc, eqb, length, get_or, set}
use Rattle.number_columns.specs.Column.{pick}
use Rattle.model.specs.Cty.{Cty, Ctys, TUnit, TAny, TExn, TVar, TInt, TFloat, TConst, TArrow, TApp, TTuple, TBuf, TRef, TInline, nil, cons}
use Rattle.model.specs.Decl.{Field, Body, TAbstract, TAbbrev, TRecord, TVariant, Dtype, Erased, Realized, has_flag, Origin, here, imported, Decl, dtype_at, origin_at, position}

-- Syntax's `is_pure`: ghost is 0, pure 1, impure 2
abbrev pub is_pure : ℕ → Bool
is_pure e = not (eqb e 2)

-- `erased` says which names are erased; a foreign name is not.
module _ (erased : ℕ → Bool) where
  -- Layout's `cty_erased`
  unfoldable mutual
    pub cty_erased : Cty → Bool
    cty_erased TUnit = true
    cty_erased TAny = false
    cty_erased TExn = false
    cty_erased (TVar v) = false
    cty_erased (TInt s w) = false
    cty_erased (TFloat f) = false
    cty_erased (TConst c) = false
    cty_erased (TArrow a e r) = is_pure e && cty_erased r
    cty_erased (TApp n ts) = erased n
    cty_erased (TTuple ts) = ctys_erased ts
    cty_erased (TBuf t) = false
    cty_erased (TRef k t) = false
    cty_erased (TInline t) = cty_erased t

    pub ctys_erased : Ctys → Bool
    ctys_erased nil = true
    ctys_erased (cons t ts) = cty_erased t && ctys_erased ts

  unfoldable pub fields_erased : List Field → Bool
  fields_erased [] = true
  fields_erased (f ∷ fs) = cty_erased f.fd_type && fields_erased fs

  unfoldable pub body_erased : Body → Bool
  body_erased TAbstract = false
  body_erased (TAbbrev c) = cty_erased c
  body_erased (TRecord fs) = fields_erased fs
  body_erased (TVariant []) = true
  body_erased (TVariant (c ∷ [])) = fields_erased c.ct_fields
  body_erased (TVariant (c ∷ d ∷ cs)) = false

  -- Layout's `dtype_erased`
  unfoldable pub dtype_erased : Dtype → Bool
  dtype_erased d = pick (has_flag d Erased) true (pick (has_flag d Realized) false (body_erased d.dt_body))

-- ---- erasure_fixpoint
-- The state of the rounds has a mark for each declaration. A name's mark is its declaration's.
unfoldable pub marked : List Decl → List Bool → ℕ → Bool
marked ds s n = get_or s (position ds n) false

-- what a declaration's mark is to be: an import's is its verdict
unfoldable pub rule_of : (ℕ → Bool) → Dtype → Origin → Bool
rule_of er d here = dtype_erased er d
rule_of er d (imported ti) = ti.ti_erased

unfoldable pub rule : List Decl → List Bool → ℕ → Bool
rule ds s i = rule_of (marked ds s) (dtype_at ds i) (origin_at ds i)

unfoldable pub update : (List Bool → ℕ → Bool) → List Bool → ℕ → List Bool
update r s i = set s i (r s i)

-- k declarations from i on, each of which sees what the round has set so far
unfoldable pub sweep : (List Bool → ℕ → Bool) → ℕ → ℕ → List Bool → List Bool
sweep r zero i s = s
sweep r (suc k) i s = sweep r k (suc i) (update r s i)

unfoldable pub same : List Bool → List Bool → Bool
same [] [] = true
same [] (y ∷ t) = false
same (x ∷ s) [] = false
same (true ∷ s) (true ∷ t) = same s t
same (true ∷ s) (false ∷ t) = false
same (false ∷ s) (true ∷ t) = false
same (false ∷ s) (false ∷ t) = same s t

-- one round
unfoldable pub round : (List Bool → ℕ → Bool) → List Bool → List Bool
round r s = sweep r (length s) 0 s

-- the marks that the rounds end in, and how many there were, the last one, which changes nothing, included
pub record Settled : Type 0 where
  pub marks : List Bool
  pub rounds : ℕ

unfoldable pub settle : (List Bool → ℕ → Bool) → ℕ → List Bool → Settled
settle r zero s = record { marks = s; rounds = 0 }
settle r (suc k) s =
    let t : List Bool = round r s in
    elim (same t s) [
      | true ↦ record { marks = s; rounds = 1 }
      | false ↦ let u : Settled = settle r k t in record { marks = u.marks; rounds = suc u.rounds }
    ]

-- nothing is erased but imports with that verdict
unfoldable pub start_of : Origin → Bool
start_of here = false
start_of (imported ti) = ti.ti_erased

unfoldable pub start : List Decl → List Bool
start ds = map (λ d. start_of d.origin) ds

-- Layout's `erasure_fixpoint`, its fuel one more than there are declarations
unfoldable pub erasure_fixpoint : List Decl → Settled
erasure_fixpoint ds = settle (rule ds) (suc (length ds)) (start ds)

-- ---- what is claimed of it
-- the marks after k rounds
unfoldable pub rounds_made : (List Bool → ℕ → Bool) → ℕ → List Bool → List Bool
rounds_made r zero s = s
rounds_made r (suc k) s = round r (rounds_made r k s)

-- `rounds` is the number of rounds made, the last one, which changes nothing, included.
pub record Made (r : List Bool → ℕ → Bool) (s : List Bool) (e : Settled) : Type 0 where
  -- rounds that changed a mark
  pub before : ℕ
  pub counted : e.rounds ≡ suc before
  pub reached : e.marks ≡ rounds_made r before s
  pub still : round r e.marks ≡ e.marks
  pub changed : (j : ℕ) → j < before → rounds_made r (suc j) s ≢ rounds_made r j s

-- how many marks a declaration adds at the most: an import's is given
unfoldable pub local : Origin → ℕ
local here = 1
local (imported ti) = 0

-- the number of declarations that are not imports
unfoldable pub locals : List Decl → ℕ
locals [] = 0
locals (d ∷ ds) = local d.origin + locals ds
