-- What the marks of declarations and types are after all rounds. Assumes nothing.
use Rattle.std.specs.Prelude.{◌≡◌, List, ℕ, ◌≤◌, ◌<◌, eqb, length, get_or, take}
use Rattle.number_columns.specs.Column.{pick}
use Rattle.sheet.specs.Line.{Line}
use Rattle.model.specs.Decl.{position, bit}
use Rattle.model.specs.Erasure.{erasure_fixpoint}
use Rattle.meaning.specs.Program.{type_line, program}
use Rattle.meaning.specs.Rows.{count_of}
use Rattle.table_access.specs.Tables.{decls_of}
use Rattle.erasure_marks.specs.Marks.{part, marks_of, type_erased}
use Rattle.erasure_laws.specs.declared.erasure.Erasure.{Erasure}

-- the declaration that type y names, the number of declarations where it names none
abbrev pub named : List Line → ℕ → ℕ
named ls y = pick (eqb (part ls y 0) 8) (position (program ls) (part ls y 1)) (decls_of ls)

-- memory for the marks: no place is passed, and no declaration waits
pub record Fresh (ls : List Line) (used decl node member field wait : List ℕ) : Type 0 where
  pub used_size : length used ≡ decls_of ls
  pub decl_size : length decl ≡ decls_of ls
  pub node_size : length node ≡ count_of type_line ls
  pub member_size : length member ≡ count_of type_line ls
  pub field_size : length field ≡ decls_of ls
  pub wait_size : length wait ≡ decls_of ls
  pub members : (y : ℕ) → y < count_of type_line ls → get_or member y 0 ≡ 0
  pub fields : (d : ℕ) → d < decls_of ls → get_or field d 0 ≡ 0
  pub waits : (d : ℕ) → d < decls_of ls → count_of type_line ls ≤ get_or wait d 0

-- the marks of declarations and types, and the number of rounds
pub record Fixed (ls : List Line) (decl node : List ℕ) (r : ℕ) : Type 0 where
  pub marks : marks_of decl ≡ (erasure_fixpoint (program ls)).marks
  pub counted : r ≡ (erasure_fixpoint (program ls)).rounds
  pub types : (y : ℕ) → y < count_of type_line ls → get_or node y 0 ≡ bit (type_erased ls (erasure_fixpoint (program ls)).marks y)

-- the same, of arrays for as many declarations and types as a sheet may have
pub record Fixpoint (ls : List Line) (r : Erasure) : Type 0 where
  pub marks : marks_of (take (decls_of ls) r.decl) ≡ (erasure_fixpoint (program ls)).marks
  pub counted : r.rounds ≡ (erasure_fixpoint (program ls)).rounds
  pub types : (y : ℕ) → y < count_of type_line ls → get_or r.node y 0 ≡ bit (type_erased ls (erasure_fixpoint (program ls)).marks y)
