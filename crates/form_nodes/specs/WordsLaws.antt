-- A node whose numbers have room in a word is read back. Assumes nothing.
use Rattle.std.specs.Prelude.{◌≡◌, refl, List, [], ◌∷◌, map, ℕ, ◌+◌, ◌*◌, ◌/◌, ◌%◌, ◌<◌}
use Rattle.std.proofs.Common.{ap₂, ◌∙◌, arith}
use Rattle.std.proofs.Math.Nat.{mod-add-mod, mod-mod}
use Rattle.sheet.proofs.ListLaws.{Every}
use Rattle.form_laws.specs.Nodes.{Node, node}
use Rattle.form_nodes.specs.Words.{word, node_of}

pub record Room (x : Node) : Type 0 where
  pub kinds : x.kind < 16
  pub counts : x.count < 1024
  pub owns : x.own < 4294967296

numbers_back : (k n d : ℕ) → k < 16 → n < 1024 → d < 4294967296
    → node ((k + 16 * (n + 1024 * d)) % 16) ((k + 16 * (n + 1024 * d)) / 16 % 1024) ((k + 16 * (n + 1024 * d)) / 16384 % 4294967296) ≡ node k n d
numbers_back k n d a b c =
    let p : (k + 16 * (n + 1024 * d)) % 16 ≡ k = omega arith in
    let e : (k + 16 * (n + 1024 * d)) / 16 ≡ n + 1024 * d = omega arith in
    let f : (k + 16 * (n + 1024 * d)) / 16384 ≡ d = omega arith in
    let q : (n + 1024 * d) % 1024 ≡ n = omega arith in
    let r : d % 4294967296 ≡ d = omega arith in
    rw (p, e, f, q, r)

-- a node that is made a word is cut
pub node_cut : (x : Node) → node_of (word x) ≡ node (x.kind % 16) (x.count % 1024) (x.own % 4294967296)
unfolding word node_of
node_cut x = numbers_back (x.kind % 16) (x.count % 1024) (x.own % 4294967296) (omega arith) (omega arith) (omega arith)

pub node_word : (x : Node) → Room x → node_of (word x) ≡ x
node_word x h =
    let a : x.kind % 16 ≡ x.kind = omega (arith, h.kinds) in
    let b : x.count % 1024 ≡ x.count = omega (arith, h.counts) in
    let c : x.own % 4294967296 ≡ x.own = omega (arith, h.owns) in
    node_cut x ∙ rw (a, b, c)

pub nodes_words : (xs : List Node) → Every Room xs → map node_of (map word xs) ≡ xs
nodes_words [] h = refl
nodes_words (x ∷ xs) h = ap₂ (λ (y : Node) (ys : List Node). y ∷ ys) (node_word x h.0) (nodes_words xs h.1)

-- more children for a node that is read from its word
pub word_grown : (k c n d : ℕ) → word (node k (c % 1024 + n) (d % 4294967296)) ≡ word (node k (c + n) d)
unfolding word
word_grown k c n d = rw (mod-add-mod c 1024 n, mod-mod d 4294967296)

-- a word that is read
pub node_small : (w : ℕ) → (node_of w).kind < 16
unfolding node_of
node_small w = omega arith
