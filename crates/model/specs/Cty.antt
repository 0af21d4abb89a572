-- Types: `cty` of the source's Syntax file, names as numbers, and the functions that only walk over a
-- type. Lists of types are a type of their own, since a type holds them. Assumes nothing.
use Rattle.std.specs.Prelude.{List, [], ◌∷◌, ◌++◌, ℕ, zero, suc, ◌+◌, eqb}
use Rattle.number_columns.specs.Column.{pick}

-- Signs, widths, effects and the kinds of floats and references are the numbers of FORMAT, section 3.
mutual
  pub data Cty : Type 0 where
    TUnit TAny TExn : Cty
    TVar : ℕ → Cty
    TInt : ℕ → ℕ → Cty
    TFloat TConst : ℕ → Cty
    TArrow : Cty → ℕ → Cty → Cty
    TApp : ℕ → Ctys → Cty
    TTuple : Ctys → Cty
    TBuf : Cty → Cty
    TRef : ℕ → Cty → Cty
    TInline : Cty → Cty

  pub data Ctys : Type 0 where
    nil : Ctys
    cons : Cty → Ctys → Ctys

-- ---- lists of types
unfoldable pub lengths : Ctys → ℕ
lengths nil = 0
lengths (cons t ts) = suc (lengths ts)

unfoldable pub append : Ctys → Ctys → Ctys
append nil us = us
append (cons t ts) us = cons t (append ts us)

-- the first n, and the others: the source's `List.splitAt`
unfoldable pub firsts : ℕ → Ctys → Ctys
firsts zero ts = nil
firsts (suc n) nil = nil
firsts (suc n) (cons t ts) = cons t (firsts n ts)

unfoldable pub others : ℕ → Ctys → Ctys
others zero ts = ts
others (suc n) nil = nil
others (suc n) (cons t ts) = others n ts

-- ---- walks
-- Each variable and each name with its arguments replaced, arguments first, all else kept.
module _ (var : ℕ → Cty) (app : ℕ → Ctys → Cty) where
  unfoldable mutual
    pub walk : Cty → Cty
    walk TUnit = TUnit
    walk TAny = TAny
    walk TExn = TExn
    walk (TVar v) = var v
    walk (TInt s w) = TInt s w
    walk (TFloat f) = TFloat f
    walk (TConst c) = TConst c
    walk (TArrow a e b) = TArrow (walk a) e (walk b)
    walk (TApp n ts) = app n (walks ts)
    walk (TTuple ts) = TTuple (walks ts)
    walk (TBuf t) = TBuf (walk t)
    walk (TRef k t) = TRef k (walk t)
    walk (TInline t) = TInline (walk t)

    pub walks : Ctys → Ctys
    walks nil = nil
    walks (cons t ts) = cons (walk t) (walks ts)

-- What the variables and the names of a type give, in the order in which they stand.
module _ (var : ℕ → List ℕ) (app : ℕ → List ℕ) where
  unfoldable mutual
    pub gather : Cty → List ℕ
    gather TUnit = []
    gather TAny = []
    gather TExn = []
    gather (TVar v) = var v
    gather (TInt s w) = []
    gather (TFloat f) = []
    gather (TConst c) = []
    gather (TArrow a e b) = gather a ++ gather b
    gather (TApp n ts) = app n ++ gathers ts
    gather (TTuple ts) = gathers ts
    gather (TBuf t) = gather t
    gather (TRef k t) = gather t
    gather (TInline t) = gather t

    pub gathers : Ctys → List ℕ
    gathers nil = []
    gathers (cons t ts) = gather t ++ gathers ts

-- Layout's `names_of_cty` (and `cty_names`, which is the same)
unfoldable pub names_of_cty : Cty → List ℕ
names_of_cty = gather (λ v. []) (λ n. n ∷ [])

-- Layout's `cty_vars`
unfoldable pub cty_vars : Cty → List ℕ
cty_vars = gather (λ v. v ∷ []) (λ n. [])

-- nodes of a type written out
unfoldable mutual
  pub size : Cty → ℕ
  size TUnit = 1
  size TAny = 1
  size TExn = 1
  size (TVar v) = 1
  size (TInt s w) = 1
  size (TFloat f) = 1
  size (TConst c) = 1
  size (TArrow a e b) = 1 + (size a + size b)
  size (TApp n ts) = 1 + sizes ts
  size (TTuple ts) = 1 + sizes ts
  size (TBuf t) = 1 + size t
  size (TRef k t) = 1 + size t
  size (TInline t) = 1 + size t

  pub sizes : Ctys → ℕ
  sizes nil = 0
  sizes (cons t ts) = size t + sizes ts

-- Layout's `uninline`: a type less one outer `TInline`
unfoldable pub uninline : Cty → Cty
uninline TUnit = TUnit
uninline TAny = TAny
uninline TExn = TExn
uninline (TVar v) = TVar v
uninline (TInt s w) = TInt s w
uninline (TFloat f) = TFloat f
uninline (TConst c) = TConst c
uninline (TArrow a e b) = TArrow a e b
uninline (TApp n ts) = TApp n ts
uninline (TTuple ts) = TTuple ts
uninline (TBuf t) = TBuf t
uninline (TRef k t) = TRef k t
uninline (TInline t) = t

-- ---- substitution
pub record Binding : Type 0 where
  pub param : ℕ
  pub arg : Cty

-- the source's `List.zip`, of lists of one length
unfoldable pub zip : List ℕ → Ctys → List Binding
zip [] ts = []
zip (p ∷ ps) nil = []
zip (p ∷ ps) (cons t ts) = record { param = p; arg = t } ∷ zip ps ts

unfoldable pub look : List Binding → ℕ → Cty
look [] v = TVar v
look (b ∷ s) v = pick (eqb b.param v) b.arg (look s v)

-- Syntax's `subst_cty`: every bound variable replaced at once
unfoldable pub subst_cty : List Binding → Cty → Cty
subst_cty s = walk (look s) TApp
