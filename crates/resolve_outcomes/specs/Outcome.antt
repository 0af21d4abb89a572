-- Outcomes: rows 9 and 10 without building a type. The outcome of a type is its size
-- and its head in one number; the evaluation follows the checked resolution with outcomes for types,
-- from the outcomes of a declaration's arguments. Numbers are unbounded here. Assumes nothing.
use Rattle.std.specs.Prelude.{List, [], ◌∷◌, ◌++◌, Bool, true, false, ℕ, zero, suc, ◌+◌, ◌*◌, ◌/◌, ◌%◌, eqb, leb, ltb, length, drop}
use Rattle.number_columns.specs.Column.{pick}
use Rattle.model.specs.Cty.{
  Cty,
  Ctys,
  TUnit,
  TAny,
  TExn,
  TVar,
  TInt,
  TFloat,
  TConst,
  TArrow,
  TApp,
  TTuple,
  TBuf,
  TRef,
  TInline,
  nil,
  cons,
  size,
}
use Rattle.model.specs.Resolve.{
  Unfold,
  gone,
  newtype,
  abbreviation,
  stays,
  Result,
  ok,
  fault,
  spent,
  bind,
  is_app,
}

-- ---- the outcome of a type
-- four times its nodes, and its head
unfoldable pub coded : ℕ → ℕ → ℕ
coded n h = 4 * n + h

unfoldable pub nodes : ℕ → ℕ
nodes o = o / 4

unfoldable pub head : ℕ → ℕ
head o = o % 4

-- heads: a `TApp` takes a surplus, all else does not
abbrev pub other : ℕ
other = 0

abbrev pub app : ℕ
app = 1

-- a type of one node that is no `TApp`
abbrev pub one : ℕ
one = 4

unfoldable pub shape : Cty → ℕ
shape t = coded (size t) (pick (is_app t) app other)

unfoldable pub shapes : Ctys → List ℕ
shapes nil = []
shapes (cons t ts) = shape t ∷ shapes ts

unfoldable pub mapped : {A B : Type 0} → (A → B) → Result A → Result B
mapped f (ok a) = ok (f a)
mapped f (fault e) = fault e
mapped f spent = spent

-- of a checked resolution
abbrev pub outcome : Result Cty → Result ℕ
outcome = mapped shape

-- ---- lists of outcomes
unfoldable pub total : List ℕ → ℕ
total [] = 0
total (o ∷ os) = nodes o + total os

-- of a type with a surplus of arguments: `attach`
unfoldable pub attached : ℕ → List ℕ → ℕ
attached o es = pick (eqb (head o) app) (o + 4 * total es) o

-- of a node over its parts, measured as it is returned: row 10
unfoldable pub built : ℕ → List ℕ → ℕ → Result ℕ
built limit os h = elim (leb (suc (total os)) limit) [ true ↦ ok (coded (suc (total os)) h) | false ↦ fault 10 ]

-- ---- instances
-- of the argument of a parameter; a variable that is not bound has one node
unfoldable pub argument : List ℕ → List ℕ → ℕ → ℕ
argument [] os v = one
argument (p ∷ ps) [] v = one
argument (p ∷ ps) (o ∷ os) v = pick (eqb p v) o (argument ps os v)

module _ (ps os : List ℕ) where
  -- nodes of an instance
  unfoldable mutual
    pub weight : Cty → ℕ
    weight TUnit = 1
    weight TAny = 1
    weight TExn = 1
    weight (TVar v) = nodes (argument ps os v)
    weight (TInt s w) = 1
    weight (TFloat f) = 1
    weight (TConst c) = 1
    weight (TArrow a e b) = 1 + (weight a + weight b)
    weight (TApp n ts) = 1 + weights ts
    weight (TTuple ts) = 1 + weights ts
    weight (TBuf t) = 1 + weight t
    weight (TRef k t) = 1 + weight t
    weight (TInline t) = 1 + weight t

    pub weights : Ctys → ℕ
    weights nil = 0
    weights (cons t ts) = weight t + weights ts

  -- head of an instance
  unfoldable pub instance_head : Cty → ℕ
  instance_head TUnit = other
  instance_head TAny = other
  instance_head TExn = other
  instance_head (TVar v) = head (argument ps os v)
  instance_head (TInt s w) = other
  instance_head (TFloat f) = other
  instance_head (TConst c) = other
  instance_head (TArrow a e b) = other
  instance_head (TApp n ts) = app
  instance_head (TTuple ts) = other
  instance_head (TBuf t) = other
  instance_head (TRef k t) = other
  instance_head (TInline t) = other

  -- outcome of an instance, before it is resolved
  unfoldable pub instance_shape : Cty → ℕ
  instance_shape c = coded (weight c) (instance_head c)

-- ---- the evaluation
-- `next ps os c` evaluates the instance of c, with the surplus of os attached, with one less of fuel
abbrev pub Next : Type 0
Next = List ℕ → List ℕ → Cty → Result ℕ

-- the outcomes past those of the parameters
abbrev pub extra : List ℕ → List ℕ → List ℕ
extra ps os = drop (length ps) os

-- row 9: a surplus is taken by a `TApp` alone
unfoldable pub surplus_called : Next → List ℕ → List ℕ → Cty → List ℕ → Result ℕ
surplus_called next ps os c [] = next ps os c
surplus_called next ps os c (e ∷ es) = elim (eqb (instance_head ps os c) app) [ true ↦ next ps os c | false ↦ fault 9 ]

-- a name with the outcomes of its arguments
unfoldable pub called : ℕ → Next → List ℕ → Unfold → Result ℕ
called limit next os gone = ok one
called limit next os (newtype ps c) = elim (eqb (length os) (length ps)) [ true ↦ next ps os c | false ↦ fault 9 ]
called limit next os (abbreviation ps c) =
    elim (ltb (length os) (length ps)) [ true ↦ fault 9 | false ↦ surplus_called next ps os c (extra ps os) ]
called limit next os stays = built limit os app

-- parts from left to right, arguments before their name; es is the surplus that is attached
module _ (limit : ℕ) (lay : ℕ → Unfold) (next : Next) (ps os : List ℕ) where
  unfoldable mutual
    pub eval : Cty → List ℕ → Result ℕ
    eval TUnit es = built limit [] other
    eval TAny es = built limit [] other
    eval TExn es = built limit [] other
    eval (TVar v) es = ok (attached (argument ps os v) es)
    eval (TInt s w) es = built limit [] other
    eval (TFloat f) es = built limit [] other
    eval (TConst c) es = built limit [] other
    eval (TArrow a e b) es = bind (eval a []) (λ x. bind (eval b []) (λ y. built limit (x ∷ y ∷ []) other))
    eval (TApp n ts) es = bind (evals ts) (λ xs. called limit next (xs ++ es) (lay n))
    eval (TTuple ts) es = bind (evals ts) (λ xs. built limit xs other)
    eval (TBuf t) es = bind (eval t []) (λ x. built limit (x ∷ []) other)
    eval (TRef k t) es = bind (eval t []) (λ x. built limit (x ∷ []) other)
    eval (TInline t) es = bind (eval t []) (λ x. built limit (x ∷ []) other)

    pub evals : Ctys → Result (List ℕ)
    evals nil = ok []
    evals (cons t ts) = bind (eval t []) (λ x. bind (evals ts) (λ xs. ok (x ∷ xs)))

-- row 10: the instance is measured before it is evaluated
unfoldable pub entered : ℕ → ℕ → Result ℕ → Result ℕ
entered limit o r = elim (leb (nodes o) limit) [ true ↦ r | false ↦ fault 10 ]

-- the outcome of resolving the instance of c at arguments of these outcomes
unfoldable pub ev : ℕ → (ℕ → Unfold) → ℕ → List ℕ → List ℕ → Cty → Result ℕ
ev limit lay zero ps os c = spent
ev limit lay (suc k) ps os c =
    entered limit (attached (instance_shape ps os c) (extra ps os)) (eval limit lay (ev limit lay k) ps os c (extra ps os))

-- ---- the counts of a call
-- as many arguments as parameters; too few; or a surplus, and whether it is taken
abbrev pub counted : Bool → Bool → Bool → Bool
counted true few taken = true
counted false true taken = false
counted false false taken = taken

-- whether an unfolded name takes these arguments
unfoldable pub fits : List ℕ → Unfold → Bool
fits os gone = true
fits os (newtype ps c) = eqb (length os) (length ps)
fits os (abbreviation ps c) = counted (eqb (length os) (length ps)) (ltb (length os) (length ps)) (eqb (instance_head ps os c) app)
fits os stays = true
