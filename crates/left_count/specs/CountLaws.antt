-- A node more. Assumes nothing.
use Rattle.std.specs.Prelude.{◌≡◌, List, [], ◌∷◌, map, ℕ, ◌+◌, ◌≤◌, ◌<◌, length, get_or, take}
use Rattle.std.proofs.Common.{ap, ◌∙◌, arith, add-one, take-suc}
use Rattle.std.proofs.lemmas.List.{map-append}
use Rattle.form_laws.specs.Nodes.{Node, args_of, count_args}
use Rattle.form_laws.specs.NodesLaws.{count_args_append}
use Rattle.form_nodes.specs.Words.{node_of}

pub count_few : (w : ℕ) → (node_of w).count ≤ 1023
unfolding node_of
count_few w = omega arith

one : (x : Node) → count_args (x ∷ []) ≡ args_of x
unfolding count_args
one x = omega arith

pub count_more : (ws : List ℕ) (i : ℕ) → i < length ws → count_args (map node_of (take (i + 1) ws)) ≡ count_args (map node_of (take i ws)) + args_of (node_of (get_or ws i 0))
count_more ws i h =
    rw (add-one, take-suc ws i 0 h, map-append node_of (take i ws) (get_or ws i 0 ∷ []))
    (count_args_append (map node_of (take i ws)) (node_of (get_or ws i 0) ∷ []) ∙ ap (λ (n : ℕ). count_args (map node_of (take i ws)) + n) (one (node_of (get_or ws i 0))))
