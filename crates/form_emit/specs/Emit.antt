-- The words of a type's nodes, put together from those of its parts and of normal forms. The normal forms
-- stand in one list of words: two cells for each declaration say where its own begins and how long it
-- is. Assumes nothing.
use Rattle.std.specs.Prelude.{List, [], ◌∷◌, ◌++◌, map, Bool, true, false, ℕ, zero, suc, ◌+◌, ◌*◌, ◌≤◌, ◌<◌, eqb, ltb, length, get_or, take, drop}
use Rattle.sheet.specs.Line.{Line}
use Rattle.model.specs.Decl.{position}
use Rattle.meaning.specs.Program.{program, type_line}
use Rattle.meaning.specs.Rows.{count_of}
use Rattle.table_access.specs.Tables.{decls_of, TableOf}
use Rattle.resolve_kids.specs.Nodes.{type_of, kid_of}
use Rattle.resolve_kids.specs.Params.{params_of}
use Rattle.form_laws.specs.Nodes.{Node, node}
use Rattle.form_laws.specs.Forms.{nodes}
use Rattle.form_node_words.specs.Own.{label}
use Rattle.form_nodes.specs.Words.{word, node_of}
use Rattle.keep_layouts.specs.States.{lay_of}

-- ---- words one after the other
-- what g gives for n numbers from a on
unfoldable pub run : (ℕ → List ℕ) → ℕ → ℕ → List ℕ
run g a zero = []
run g a (suc n) = run g a n ++ g (a + n)

-- a word of a normal form, where g has the words of n arguments
unfoldable pub step : (ℕ → List ℕ) → ℕ → ℕ → List ℕ
step g n w =
    elim (eqb (node_of w).kind 3) [
      | true ↦ elim (ltb (node_of w).own n) [ true ↦ g (node_of w).own | false ↦ word (node 0 0 0) ∷ [] ]
      | false ↦ word (node_of w) ∷ []
    ]

unfoldable pub filled : (ℕ → List ℕ) → ℕ → List ℕ → List ℕ
filled g n [] = []
filled g n (w ∷ ws) = step g n w ++ filled g n ws

-- n more types, with their words, for the last node if it is a `TApp`
unfoldable pub grown : List ℕ → ℕ → List ℕ → List ℕ
grown [] n ys = []
grown (w ∷ []) n ys =
    elim (eqb (node_of w).kind 8) [ true ↦ ys ++ (word (node 8 ((node_of w).count + n) (node_of w).own) ∷ []) | false ↦ w ∷ [] ]
grown (w ∷ v ∷ ws) n ys = w ∷ grown (v ∷ ws) n ys

-- ---- normal forms
-- the words of declaration d's
abbrev pub form_words : List ℕ → ℕ → List ℕ
form_words f d = take (get_or f (2 * d + 1) 0) (drop (get_or f (2 * d) 0) f)

abbrev pub form_of : List Line → List ℕ → ℕ → List Node
form_of ls f n = map node_of (form_words f (position (program ls) n))

-- each stands within the list
pub record Forms (ls : List Line) (f : List ℕ) : Type 0 where
  pub cells : 2 * decls_of ls ≤ length f
  pub inside : (d : ℕ) → d < decls_of ls → get_or f (2 * d) 0 + get_or f (2 * d + 1) 0 ≤ length f

-- ---- the words of a Y line's type in declaration d
module _ (ls : List Line) (u f : List ℕ) (d : ℕ) (places : Bool) where
  unfoldable pub words : ℕ → List ℕ
  words y = map word (nodes (lay_of ls u) (form_of ls f) (params_of ls d) (label places (params_of ls d)) (type_of ls y))

  -- of its parts
  abbrev pub kid_words : ℕ → ℕ → List ℕ
  kid_words y i = words (kid_of ls y i)

-- what emission asks of its arguments
pub record Asked (ls : List Line) (t u f : List ℕ) (y d : ℕ) : Type 0 where
  pub tabled : TableOf ls t
  pub states : length u ≤ 2 * decls_of ls
  pub forms : Forms ls f
  pub type : y < count_of type_line ls
  pub decl : d < decls_of ls
