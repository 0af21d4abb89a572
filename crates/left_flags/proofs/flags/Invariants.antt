-- The flags of the declarations that were passed are there.
use Rattle.std.proofs.Common.{◌≡◌, ℕ, ◌<◌, get_or}
use Rattle.model.specs.Decl.{bit}
use Rattle.model.specs.Run.{left_at}
use Rattle.meaning.specs.Program.{program}
use Rattle.table_access.specs.Tables.{lines_in}
use Rattle.left_laws.specs.Lefts.{is_left}
use Rattle.left_flags.proofs.flags.Given as goal

abbrev pub invariant-loop-d : goal.invariant-loop-d
invariant-loop-d l = (e : ℕ) → e < l.d → get_or l.left e 0 ≡ bit (is_left (left_at 100 (program (lines_in l.t)) e))
