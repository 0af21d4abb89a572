-- The nodes of a resolved type, put together from the normal forms of the names that are unfolded:
-- no body is entered, and an argument that is dropped is not looked at. The variables of a normal
-- form are the places of the declaration's parameters. Assumes nothing.
use Rattle.std.specs.Prelude.{List, [], ◌∷◌, ◌++◌, Bool, ℕ, zero, suc, eqb, length, get_or, drop}
use Rattle.number_columns.specs.Column.{pick}
use Rattle.model.specs.Cty.{
  Cty,
  Ctys,
  TUnit,
  TAny,
  TExn,
  TVar,
  TInt,
  TFloat,
  TConst,
  TArrow,
  TApp,
  TTuple,
  TBuf,
  TRef,
  TInline,
  nil,
  cons,
  lengths,
  walk,
}
use Rattle.model.specs.Decl.{member}
use Rattle.model.specs.Resolve.{Unfold, gone, newtype, abbreviation, stays}
use Rattle.form_laws.specs.Nodes.{Node, node, spread, attached}

-- the place of a parameter, the number of parameters where there is none of that name
unfoldable pub place : List ℕ → ℕ → ℕ
place [] v = 0
place (p ∷ ps) v = pick (eqb p v) 0 (suc (place ps v))

-- a type with other numbers for its variables
unfoldable pub renamed : (ℕ → ℕ) → Cty → Cty
renamed ρ = walk (λ v. TVar (ρ v)) TApp

unfoldable pub joined : List (List Node) → List Node
joined [] = []
joined (xs ∷ xss) = xs ++ joined xss

-- the nodes of argument i, those of `TUnit` where there is none
abbrev pub argument : List (List Node) → ℕ → List Node
argument xss i = get_or xss i (node 0 0 0 ∷ [])

-- a normal form with k parameters, the nodes of the arguments put in and those of the surplus attached
unfoldable pub placed : ℕ → List Node → List (List Node) → List Node
placed k xs xss = attached (spread (argument xss) xs) (length (drop k xss)) (joined (drop k xss))

-- a name with the nodes of its arguments; xs is its normal form, if it is unfolded
unfoldable pub named : ℕ → List Node → List (List Node) → Unfold → List Node
named n xs xss gone = node 0 0 0 ∷ []
named n xs xss (newtype ps c) = placed (length ps) xs xss
named n xs xss (abbreviation ps c) = placed (length ps) xs xss
named n xs xss stays = joined xss ++ (node 8 (length xss) n ∷ [])

-- a variable of the declaration, or `TAny` for one that it leaves unbound
unfoldable pub variable : Bool → ℕ → Node
variable b v = pick b (node 3 0 v) (node 1 0 0)

-- In a declaration with parameters ps. ρ says how variables are told: by place in a normal form, by
-- name in a type that is left.
module _ (lay : ℕ → Unfold) (form : ℕ → List Node) (ps : List ℕ) (ρ : ℕ → ℕ) where
  unfoldable mutual
    pub nodes : Cty → List Node
    nodes TUnit = node 0 0 0 ∷ []
    nodes TAny = node 1 0 0 ∷ []
    nodes TExn = node 2 0 0 ∷ []
    nodes (TVar v) = variable (member v ps) (ρ v) ∷ []
    nodes (TInt s w) = node 4 s w ∷ []
    nodes (TFloat f) = node 5 0 f ∷ []
    nodes (TConst c) = node 6 0 c ∷ []
    nodes (TArrow a e b) = nodes a ++ (nodes b ++ (node 7 2 e ∷ []))
    nodes (TApp n ts) = named n (form n) (nodes_each ts) (lay n)
    nodes (TTuple ts) = joined (nodes_each ts) ++ (node 9 (lengths ts) 0 ∷ [])
    nodes (TBuf t) = nodes t ++ (node 10 1 0 ∷ [])
    nodes (TRef k t) = nodes t ++ (node 11 1 k ∷ [])
    nodes (TInline t) = nodes t ++ (node 12 1 0 ∷ [])

    pub nodes_each : Ctys → List (List Node)
    nodes_each nil = []
    nodes_each (cons t ts) = nodes t ∷ nodes_each ts
