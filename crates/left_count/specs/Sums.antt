-- How many A and Y lines the types of a declaration have, added up. Assumes nothing.
use Rattle.std.specs.Prelude.{◌≡◌, List, [], ◌∷◌, map, false, ℕ, ◌+◌, ◌*◌, ◌≤◌, ◌<◌, length, Option, Some, None}
use Rattle.sheet.specs.Line.{Line}
use Rattle.sheet.proofs.ListLaws.{Every}
use Rattle.model.specs.Cty.{size}
use Rattle.meaning.specs.Program.{field_line}
use Rattle.meaning.specs.Rows.{count_of}
use Rattle.keep_layouts.specs.Kept.{field_type}
use Rattle.form_laws.specs.Nodes.{post, count_args}
use Rattle.form_nodes.specs.Words.{node_of}
use Rattle.form_emit.specs.Emit.{words, Asked}
use Rattle.form_emit.specs.Left.{left_type}
use Rattle.left_laws.specs.declared.Count.{Count}

-- the A lines of what these Y lines resolve to in declaration d
unfoldable pub sum_args : List Line → ℕ → List ℕ → ℕ
sum_args ls d [] = 0
sum_args ls d (y ∷ ys) = count_args (post (left_type ls d y)) + sum_args ls d ys

-- and the Y lines
unfoldable pub sum_types : List Line → ℕ → List ℕ → ℕ
sum_types ls d [] = 0
sum_types ls d (y ∷ ys) = size (left_type ls d y) + sum_types ls d ys

-- the words of Y line y's type are the nodes of what it resolves to in declaration d, and few
pub record Told (ls : List Line) (t u f : List ℕ) (d y : ℕ) : Type 0 where
  pub asked : Asked ls t u f y d
  pub nodes : map node_of (words ls u f d false y) ≡ post (left_type ls d y)
  pub long : length (words ls u f d false y) ≡ size (left_type ls d y)
  pub few : size (left_type ls d y) ≤ 1024

-- so it is for the type of F line i
pub record Tells (ls : List Line) (t u f : List ℕ) (d i : ℕ) : Type 0 where
  pub there : i < count_of field_line ls
  pub told : Told ls t u f d (field_type ls i)

-- r is c with the lines of these types and k lines more
pub record Sums (ls : List Line) (d : ℕ) (ys : List ℕ) (k n : ℕ) (c r : Count) : Type 0 where
  pub args : r.args ≡ c.args + sum_args ls d ys
  pub types : r.types ≡ c.types + sum_types ls d ys
  pub lines_are : r.lines ≡ c.lines + k
  pub small : Every (λ y. size (left_type ls d y) ≤ n) ys
  pub few_args : r.args ≤ c.args + 1024 * length ys
  pub few_types : r.types ≤ c.types + 1024 * length ys

-- where n words have room for each type
pub record Added (ls : List Line) (d : ℕ) (ys : List ℕ) (k n : ℕ) (c : Count) (r : Option Count) : Type 0 where
  pub sums : (x : Count) → r ≡ Some x → Sums ls d ys k n c x
  pub short : r ≡ None → n < 1024
