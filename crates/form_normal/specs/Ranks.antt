-- Callees first, by rank: what is asked of the ranks, and how far the table has come. Assumes nothing.
use Rattle.std.specs.Prelude.{◌⊎◌, ◌≡◌, List, ℕ, ◌+◌, ◌*◌, ◌≤◌, ◌<◌, length, get_or}
use Rattle.model.specs.Decl.{position}
use Rattle.meaning.specs.Program.{program, type_line}
use Rattle.meaning.specs.Rows.{count_of}
use Rattle.model_laws.specs.Cty.{All}
use Rattle.model_laws.specs.Resolve.{Unfolds}
use Rattle.table_access.specs.Tables.{decls_of, TableOf}
use Rattle.resolve_kids.specs.Nodes.{type_of}
use Rattle.keep_layouts.specs.States.{body_of, lay_of, Open}
use Rattle.form_normal.specs.Tables.{own_words, Table}
use Rattle.sheet.specs.Line.{Line}

-- An unfolded name in an unfolded declaration's body has a lower rank.
pub record Ranked (ls : List Line) (t u rank : List ℕ) : Type 0 where
  pub tabled : TableOf ls t
  pub long : length u ≡ 2 * decls_of ls
  pub ranks : length rank ≡ decls_of ls
  pub few : (d : ℕ) → d < decls_of ls → Open u d → get_or rank d 0 < decls_of ls
  pub bodies : (d : ℕ) → d < decls_of ls → Open u d → body_of u d < count_of type_line ls
  pub lower : (d : ℕ) → d < decls_of ls → Open u d
      → All (λ n. Unfolds (lay_of ls u n) → get_or rank (position (program ls) n) 0 < get_or rank d 0) (type_of ls (body_of u d))

-- the ranks below r are done, and of rank r the declarations below i
abbrev pub Done : List Line → List ℕ → List ℕ → ℕ → ℕ → ℕ → Type 0
Done ls u rank r i d = (d < decls_of ls) × Open u d × (get_or rank d 0 ≤ r) × (get_or rank d 0 ≡ r → d < i)

-- A declaration whose form finds no room, in a list of so many words or a scratch of so many.
pub record Short (ls : List Line) (u rank : List ℕ) (scratch room : ℕ) : Type 0 where
  pub level : ℕ
  pub decl : ℕ
  pub list : List ℕ
  pub place : ℕ
  pub below : decl < decls_of ls
  pub unfolded : Open u decl
  pub of_level : get_or rank decl 0 ≡ level
  pub table : Table ls u list place (Done ls u rank level decl)
  pub fits : (scratch < length (own_words ls u list decl)) ⊎ (room < place + length (own_words ls u list decl))

-- the table after rank r up to declaration i, or why there is none
pub record Reached (ls : List Line) (u rank : List ℕ) (r i scratch : ℕ) (f f' : List ℕ) (e : ℕ) : Type 0 where
  pub same : length f' ≡ length f
  pub table : e ≤ length f → Table ls u f' e (Done ls u rank r i)
  pub short : length f < e → Short ls u rank scratch (length f)

-- the table of all unfolded declarations, or why there is none
pub record Formed (ls : List Line) (u rank : List ℕ) (scratch : ℕ) (f f' : List ℕ) (e : ℕ) : Type 0 where
  pub same : length f' ≡ length f
  pub table : e ≤ length f → Table ls u f' e (λ d. (d < decls_of ls) × Open u d)
  pub short : length f < e → Short ls u rank scratch (length f)
