-- Reachability: what the guard against cycles means, and the search that decides it.
-- Assumes nothing.
use mathlib.Core.List.{List, [], ◌∷◌, ◌++◌, Memᴰ}
use Rattle.std.specs.Prelude.{Bool, true, false, ℕ, zero, suc, eqb, get_or, set, replicate}

module _ (next : ℕ → List ℕ) where
  -- b is reached from a by one step or more
  pub data Reach : ℕ → ℕ → Type 0 where
    one : {a b : ℕ} → Memᴰ b (next a) → Reach a b
    more : {a b c : ℕ} → Memᴰ b (next a) → Reach b c → Reach a c

  -- the nodes that are left on the way, the first among them; on a way back to it, all
  unfoldable pub nodes : {a b : ℕ} → Reach a b → List ℕ
  nodes (one {a} m) = a ∷ []
  nodes (more {a} m r) = a ∷ nodes r

  -- `go` of the source's `acyclic_candidates`: true at the first node equal to the start. The fuel
  -- counts the nodes that are marked.
  unfoldable pub go : ℕ → ℕ → List ℕ → List Bool → Bool
  go zero k work seen = false
  go (suc f) k [] seen = false
  go (suc f) k (m ∷ rest) seen =
      elim (eqb m k) [
        | true ↦ true
        | false ↦ elim (get_or seen m false) [ true ↦ go (suc f) k rest seen | false ↦ go f k (next m ++ rest) (set seen m true) ]
      ]

  -- whether node k of n reaches itself
  unfoldable pub cyclic : ℕ → ℕ → Bool
  cyclic n k = go (suc n) k (next k) (replicate n false)
