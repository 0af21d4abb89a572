-- Whether a declaration leaves one, by its cells and its normal form. Assumes nothing.
use Rattle.std.specs.Prelude.{List, [], ◌∷◌, map, Bool, true, false, ◌&&◌, ℕ, eqb}
use Rattle.number_columns.specs.Column.{pick, ◌⇒◌∥◌}
use Rattle.sheet.specs.Line.{Line}
use Rattle.resolve_kids.specs.Params.{params_of}
use Rattle.form_laws.specs.Nodes.{Node}
use Rattle.form_laws.specs.Forms.{place}
use Rattle.form_nodes.specs.Words.{node_of}
use Rattle.form_emit.specs.Emit.{form_words}
use Rattle.keep_layouts.specs.States.{state}

-- a node is the variable of place i
unfoldable pub is_var : ℕ → Node → Bool
is_var i x = eqb x.kind 3 && eqb x.own i

-- one of the nodes is
unfoldable pub has_var : ℕ → List Node → Bool
has_var i [] = false
has_var i (x ∷ xs) = pick (is_var i x) true (has_var i xs)

-- each of the variables vs is, by its place among the parameters
unfoldable pub has_all : List ℕ → List ℕ → List Node → Bool
has_all ps [] xs = true
has_all ps (v ∷ vs) xs = has_var (place ps v) xs && has_all ps vs xs

-- declaration d is not erased, and as a newtype has each parameter in its normal form
unfoldable pub leaves : List Line → List ℕ → List ℕ → ℕ → Bool
leaves ls u f d =
    eqb (state u d) 0 ⇒ false ∥
    eqb (state u d) 1 ⇒ has_all (params_of ls d) (params_of ls d) (map node_of (form_words f d)) ∥
    true
