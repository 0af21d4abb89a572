-- What the passes after row 7 find, together. Assumes nothing.
use Rattle.std.specs.Prelude.{◌≡◌, List, ℕ, ◌*◌, ◌≤◌, length}
use Rattle.model.specs.Erasure.{erasure_fixpoint}
use Rattle.model.specs.Run.{unfold_next, layouts_of}
use Rattle.meaning.specs.Program.{field_line, program}
use Rattle.meaning.specs.Rows.{count_of}
use Rattle.table_access.specs.Tables.{decls_of}
use Rattle.keep_fields.specs.Keeps.{Slotted}
use Rattle.keep_layouts.specs.States.{Settled}
use Rattle.set_search.specs.Loops.{First}
use Rattle.build_passes.specs.declared.Run.{Run}
use Rattle.sheet.specs.Line.{Line}
use Rattle.collapse_verdicts.specs.Screening as screening
use Rattle.row8_returning.specs.Returning as returning

-- memory for n declarations, in sets of so many words
pub record Room (n words : ℕ) (u rank fields bodies steps marks queue found : List ℕ) : Type 0 where
  pub screened : screening.Room n words fields bodies steps marks queue found
  pub returned : returning.Room n words bodies steps rank
  pub cells : length u ≡ 2 * n

-- memory for the sets of so many types
pub record Lent (n types words : ℕ) (sets u rank : List ℕ) : Type 0 where
  pub wide : n ≤ 64 * words
  pub few : words ≤ 2
  pub long : types * words ≤ length sets
  pub cells : length u ≡ 2 * n
  pub ranks : length rank ≡ n

-- what becomes of each name, and row 8 with the ranks
pub record Judged (ls : List Line) (u : List ℕ) (r : ℕ) (rank rank' : List ℕ) : Type 0 where
  pub settled : Settled ls u
  pub first_of : First (unfold_next (program ls) (layouts_of (program ls))) (decls_of ls) r rank rank'

-- the rounds, the keep table, and these
pub record Ran (ls : List Line) (keep u : List ℕ) (r : Run) (rank rank' : List ℕ) : Type 0 where
  pub counted : r.rounds ≡ (erasure_fixpoint (program ls)).rounds
  pub slotted : Slotted ls keep
  pub long : count_of field_line ls ≤ length keep
  pub judged : Judged ls u r.returning rank rank'
