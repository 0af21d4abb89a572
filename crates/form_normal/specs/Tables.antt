-- The table of normal forms while it is made, callees first. Assumes nothing.
use Rattle.std.specs.Prelude.{◌⊎◌, ◌≡◌, List, ◌++◌, true, ℕ, zero, suc, ◌+◌, ◌*◌, ◌≤◌, ◌<◌, length, get_or, take, drop, set}
use Rattle.sheet.specs.Line.{Line}
use Rattle.model.specs.Decl.{position}
use Rattle.meaning.specs.Program.{program}
use Rattle.table_access.specs.Tables.{decls_of}
use Rattle.resolve_kids.specs.Nodes.{type_of}
use Rattle.model_laws.specs.Cty.{All}
use Rattle.model_laws.specs.Resolve.{Unfolds}
use Rattle.keep_layouts.specs.States.{body_of, lay_of}
use Rattle.form_emit.specs.Emit.{form_words, words}

-- the words of its normal form, from the forms that are there
abbrev pub own_words : List Line → List ℕ → List ℕ → ℕ → List ℕ
own_words ls u f d = words ls u f d true (body_of u d)

-- the list with a form at place pos, and its two cells
unfoldable pub with_form : List ℕ → ℕ → ℕ → List ℕ → List ℕ
with_form f d pos ws = set (set (take pos f ++ (ws ++ drop (pos + length ws) f)) (2 * d) pos) (2 * d + 1) (length ws)

-- what is asked of the unfolded names in a declaration's body
abbrev pub Names : List Line → List ℕ → (ℕ → Type 0) → ℕ → Type 0
Names ls u Done d = All (λ n. Unfolds (lay_of ls u n) → Done (position (program ls) n)) (type_of ls (body_of u d))

-- how many words the forms of the first n declarations have, by their cells
unfoldable pub counts : List ℕ → ℕ → ℕ
counts f zero = 0
counts f (suc n) = counts f n + get_or f (2 * n + 1) 0

-- The forms of the declarations that are done are there, one behind the other below place pos and above the cells.
pub record Table (ls : List Line) (u f : List ℕ) (pos : ℕ) (Done : ℕ → Type 0) : Type 0 where
  pub head : 2 * decls_of ls ≤ pos
  pub room : pos ≤ length f
  pub cells : (d : ℕ) → d < decls_of ls → get_or f (2 * d) 0 + get_or f (2 * d + 1) 0 ≤ pos
  pub above : (d : ℕ) → Done d → 2 * decls_of ls ≤ get_or f (2 * d) 0
  pub right : (d : ℕ) → Done d → form_words f d ≡ own_words ls u f d
  pub used : pos ≤ 2 * decls_of ls + counts f (decls_of ls)
  pub fresh : (d : ℕ) → d < decls_of ls → Done d ⊎ (get_or f (2 * d + 1) 0 ≡ 0)

-- The words ws are added to the list f as declaration d's, r the place after them; where the list, or the scratch of so
-- many words, is too short, r is past the end.
pub record Added (ws : List ℕ) (scratch d pos : ℕ) (f f' : List ℕ) (r : ℕ) : Type 0 where
  pub long : length f' ≡ length f
  pub room : r ≤ length f → (r ≡ pos + length ws) × (f' ≡ with_form f d pos ws)
  pub full : length f < r → (scratch < length ws) ⊎ (length f < pos + length ws)
