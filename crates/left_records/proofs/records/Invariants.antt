-- The numbers of the declarations that were passed are there.
use Rattle.std.proofs.Common.{◌≡◌, ℕ, ◌<◌, get_or}
use Rattle.model.specs.Decl.{bit}
use Rattle.model.specs.Run.{record_of, left_at}
use Rattle.meaning.specs.Program.{program}
use Rattle.table_access.specs.Tables.{lines_in}
use Rattle.left_records.proofs.records.Given as goal

abbrev pub invariant-loop-d : goal.invariant-loop-d
invariant-loop-d l = (e : ℕ) → e < l.d → get_or l.records e 0 ≡ bit (record_of (left_at 100 (program (lines_in l.t)) e))
