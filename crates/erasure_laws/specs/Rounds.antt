-- What is known of the marks between declarations of a round, and between rounds. Assumes nothing.
use Rattle.std.specs.Prelude.{◌⊎◌, ◌≡◌, List, Bool, true, false, ℕ, suc, ◌+◌, ◌<◌, length, get_or}
use Rattle.sheet.specs.Line.{Line}
use Rattle.model.specs.Decl.{position, bit}
use Rattle.model.specs.Erasure.{rule, update, Settled, settle, start, round}
use Rattle.meaning.specs.Program.{type_line, import_line, is, program}
use Rattle.meaning.specs.Rows.{count_of}
use Rattle.model_laws.specs.Lists.{trues}
use Rattle.model_laws.specs.Rounds.{Le, Sound}
use Rattle.table_access.specs.Tables.{decls_of, head_line}
use Rattle.erasure_marks.specs.Marks.{part, marks_of, type_erased}
use Rattle.erasure_laws.specs.Bodies.{State}
use Rattle.erasure_laws.specs.declared.Round.{Round}

-- no type below used[d] names declaration d
pub record Uses (ls : List Line) (used : List ℕ) : Type 0 where
  pub size : length used ≡ decls_of ls
  pub none : (d : ℕ) → d < decls_of ls → (y : ℕ) → y < get_or used d 0 → y < count_of type_line ls → part ls y 0 ≡ 8 → position (program ls) (part ls y 1) ≡ d → ⊥

-- between declarations: what is marked the rules erase, and imports have at least their verdict
pub record Running (ls : List Line) (used decl node member field wait : List ℕ) (right : ℕ) : Type 0 where
  pub state : State ls decl node member field wait right
  pub uses : Uses ls used
  pub sound : Sound (rule (program ls)) (marks_of decl)
  pub above : Le (start (program ls)) (marks_of decl)

-- declaration d is erased already, waits for a type that is kept, or is an import
abbrev pub Still : List Line → List ℕ → List ℕ → List ℕ → ℕ → ℕ → Type 0
Still ls decl node wait d right =
    (get_or decl d 0 ≡ 1) ⊎ (((get_or decl d 0 ≡ 1 → ⊥) × (get_or wait d 0 < right) × (get_or node (get_or wait d 0) 0 ≡ 0)) ⊎ ((get_or decl d 0 ≡ 1 → ⊥) × (is import_line (head_line ls d) ≡ true)))

-- whether a round passes it
pub record Stands (ls : List Line) (decl node wait : List ℕ) (d right : ℕ) (r : Bool) : Type 0 where
  pub still : r ≡ true → Still ls decl node wait d right
  pub unset : r ≡ false → get_or decl d 0 ≡ 1 → ⊥
  pub local : r ≡ false → is import_line (head_line ls d) ≡ false

-- after declaration d
pub record Updated (ls : List Line) (used decl decl' node member field wait : List ℕ) (d : ℕ) (r : Round) : Type 0 where
  pub running : Running ls used decl' node member field wait r.right
  pub marks : marks_of decl' ≡ update (rule (program ls)) (marks_of decl) d
  pub counted : trues (marks_of decl') ≡ trues (marks_of decl) + r.erased
  pub still : r.erased ≡ 0 → marks_of decl' ≡ marks_of decl

-- after a round
pub record Swept (ls : List Line) (used decl decl' node member field wait : List ℕ) (r : Round) : Type 0 where
  pub running : Running ls used decl' node member field wait r.right
  pub marks : marks_of decl' ≡ round (rule (program ls)) (marks_of decl)
  pub counted : trues (marks_of decl') ≡ trues (marks_of decl) + r.erased
  pub still : r.erased ≡ 0 → marks_of decl' ≡ marks_of decl

-- the rounds that the marks of decl lead to
abbrev pub ends_in : List Line → List ℕ → Settled
ends_in ls decl = settle (rule (program ls)) (suc (decls_of ls)) (marks_of decl)

-- after r rounds, with all types marked
pub record Ended (ls : List Line) (decl decl' node : List ℕ) (r : ℕ) : Type 0 where
  pub marks : marks_of decl' ≡ (ends_in ls decl).marks
  pub counted : r ≡ (ends_in ls decl).rounds
  pub types : (y : ℕ) → y < count_of type_line ls → get_or node y 0 ≡ bit (type_erased ls (marks_of decl') y)
