-- The node that a Y line itself is, by its numbers, and how a variable is told. Assumes nothing.
use Rattle.std.specs.Prelude.{List, ℕ, eqb, Bool}
use Rattle.number_columns.specs.Column.{pick, ◌⇒◌∥◌}
use Rattle.sheet.specs.Line.{Line, number}
use Rattle.resolve_kids.specs.Nodes.{y_line, kind_of}
use Rattle.form_laws.specs.Nodes.{Node, node}
use Rattle.form_laws.specs.Forms.{place}

unfoldable pub y_count : List Line → ℕ → ℕ
y_count ls y =
    eqb (kind_of ls y) 4 ⇒ number (y_line ls y) 1 ∥
    eqb (kind_of ls y) 7 ⇒ 2 ∥
    eqb (kind_of ls y) 9 ⇒ number (y_line ls y) 2 ∥
    eqb (kind_of ls y) 10 ⇒ 1 ∥
    eqb (kind_of ls y) 11 ⇒ 1 ∥
    eqb (kind_of ls y) 12 ⇒ 1 ∥
    0

unfoldable pub y_own : List Line → ℕ → ℕ
y_own ls y =
    eqb (kind_of ls y) 4 ⇒ number (y_line ls y) 2 ∥
    eqb (kind_of ls y) 5 ⇒ number (y_line ls y) 1 ∥
    eqb (kind_of ls y) 6 ⇒ number (y_line ls y) 1 ∥
    eqb (kind_of ls y) 7 ⇒ number (y_line ls y) 2 ∥
    eqb (kind_of ls y) 11 ⇒ number (y_line ls y) 1 ∥
    0

unfoldable pub y_node : List Line → ℕ → Node
y_node ls y = node (kind_of ls y) (y_count ls y) (y_own ls y)

-- a variable by its place, or by its name
unfoldable pub label : Bool → List ℕ → ℕ → ℕ
label places ps v = pick places (place ps v) v
