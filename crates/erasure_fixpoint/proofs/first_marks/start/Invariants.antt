-- The declarations passed have their first marks.
use Rattle.std.proofs.Common.{◌≡◌, ◌<◌, ℕ, get_or}
use Rattle.model.specs.Decl.{origin_at, bit}
use Rattle.model.specs.Erasure.{start_of}
use Rattle.meaning.specs.Program.{program}
use Rattle.table_access.specs.Tables.{lines_in}
use Rattle.erasure_fixpoint.proofs.first_marks.start.Given as goal

abbrev pub invariant-loop-d : goal.invariant-loop-d
invariant-loop-d l = (i : ℕ) → i < l.d → get_or l.decl i 0 ≡ bit (start_of (origin_at (program (lines_in l.t)) i))
