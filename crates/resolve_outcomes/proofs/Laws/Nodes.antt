-- Where every outcome has a node, an instance is no smaller than its type. Assumes nothing.
use Rattle.std.specs.Prelude.{List, [], ◌∷◌, ◌++◌, Bool, true, false, ℕ, zero, suc, ◌≤◌, eqb, length, drop}
use Rattle.std.proofs.Common.{arith}
use Rattle.number_columns.specs.Column.{pick}
use Rattle.model.specs.Cty.{
  Cty,
  Ctys,
  TUnit,
  TAny,
  TExn,
  TVar,
  TInt,
  TFloat,
  TConst,
  TArrow,
  TApp,
  TTuple,
  TBuf,
  TRef,
  TInline,
  nil,
  cons,
  size,
  sizes,
}
use Rattle.resolve_outcomes.specs.Outcome.{nodes, total, argument, weight, weights}
use Rattle.resolve_outcomes.specs.Scratch.{Nodes}

pub nodes_tail : (o : ℕ) (os : List ℕ) → Nodes (o ∷ os) → Nodes os
nodes_tail o os h i q = h (suc i) (omega arith)

pub nodes_none : Nodes []
nodes_none i q = absurd (omega arith)

pub nodes_append : (xs ys : List ℕ) → Nodes xs → Nodes ys → Nodes (xs ++ ys)
nodes_append [] ys h k i q = k i q
nodes_append (x ∷ xs) ys h k zero q = h 0 (omega arith)
nodes_append (x ∷ xs) ys h k (suc i) q = nodes_append xs ys (nodes_tail x xs h) k i (omega arith)

pub nodes_one : (o : ℕ) → 4 ≤ o → Nodes (o ∷ [])
nodes_one o h zero q = h
nodes_one o h (suc i) q = absurd (omega arith)

pub nodes_drop : (n : ℕ) (os : List ℕ) → Nodes os → Nodes (drop n os)
nodes_drop zero os h = h
nodes_drop (suc n) [] h = h
nodes_drop (suc n) (o ∷ os) h = nodes_drop n os (nodes_tail o os h)

-- as many nodes as outcomes
pub total_nodes : (os : List ℕ) → Nodes os → length os ≤ total os
unfolding total nodes
total_nodes [] h = omega arith
total_nodes (o ∷ os) h = omega (arith, h 0 (omega arith), total_nodes os (nodes_tail o os h))

pub argument_nodes : (ps os : List ℕ) (v : ℕ) → Nodes os → 4 ≤ argument ps os v
unfolding argument
argument_nodes [] os v h = omega arith
argument_nodes (p ∷ ps) [] v h = omega arith
argument_nodes (p ∷ ps) (o ∷ os) v h = go (eqb p v) (argument_nodes ps os v (nodes_tail o os h))
  where
    go : (b : Bool) → 4 ≤ argument ps os v → 4 ≤ pick b o (argument ps os v)
    go true q = h 0 (omega arith)
    go false q = q

module _ (ps os : List ℕ) (h : Nodes os) where
  mutual
    unfolding size weight nodes

    pub size_weight : (c : Cty) → size c ≤ weight ps os c
    size_weight TUnit = omega arith
    size_weight TAny = omega arith
    size_weight TExn = omega arith
    size_weight (TVar v) = omega (arith, argument_nodes ps os v h)
    size_weight (TInt s w) = omega arith
    size_weight (TFloat f) = omega arith
    size_weight (TConst c) = omega arith
    size_weight (TArrow a e b) = omega (arith, size_weight a, size_weight b)
    size_weight (TApp n ts) = omega (arith, sizes_weight ts)
    size_weight (TTuple ts) = omega (arith, sizes_weight ts)
    size_weight (TBuf t) = omega (arith, size_weight t)
    size_weight (TRef k t) = omega (arith, size_weight t)
    size_weight (TInline t) = omega (arith, size_weight t)

    pub sizes_weight : (ts : Ctys) → sizes ts ≤ weights ps os ts
    sizes_weight nil = omega arith
    sizes_weight (cons t ts) = omega (arith, size_weight t, sizes_weight ts)
