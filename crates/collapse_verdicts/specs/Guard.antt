-- Which candidates the guard against cycles drops. Assumes nothing.
use Rattle.std.specs.Prelude.{◌≡◌, List, Bool, ℕ, ◌*◌, ◌≤◌, ◌<◌, eqb, length, get_or}
use Rattle.number_columns.specs.Column.{pick}
use Rattle.sheet.specs.Line.{Line}
use Rattle.model.specs.Decl.{bit}
use Rattle.model.specs.Erasure.{erasure_fixpoint}
use Rattle.model.specs.Layout.{passes_of, guard_next, dropped}
use Rattle.meaning.specs.Program.{program}
use Rattle.table_access.specs.Tables.{decls_of}
use Rattle.collapse_candidates.specs.Candidates.{no_field}

-- the guard's steps under the marks of the rounds
abbrev pub next_of : List Line → ℕ → List ℕ
next_of ls = guard_next (program ls) (passes_of (program ls) (erasure_fixpoint (program ls)).marks)

-- whether the guard drops declaration d
abbrev pub dropped_of : List Line → ℕ → Bool
dropped_of ls d = dropped (program ls) (passes_of (program ls) (erasure_fixpoint (program ls)).marks) d

-- lent memory for the search is long enough for a table of so many words a row
pub record Lent (n words : ℕ) (steps marks queue found : List ℕ) : Type 0 where
  pub few : words ≤ 1024
  pub steps_long : n * words ≤ length steps
  pub marks_long : words ≤ length marks
  pub queue_long : n ≤ length queue
  pub found_long : n ≤ length found

-- A candidate is marked by 1 exactly where it reaches itself, and no other declaration is.
pub record Guarded (ls : List Line) (fields found : List ℕ) : Type 0 where
  pub each : (d : ℕ) → d < decls_of ls → get_or found d 0 ≡ pick (eqb (get_or fields d 0) no_field) 0 (bit (dropped_of ls d))
