-- All declarations passed resolve.
use Rattle.std.proofs.Common.{ℕ, ◌<◌}
use Rattle.table_access.specs.Tables.{lines_in}
use Rattle.resolve_memory.specs.Slots.{Slots}
use Rattle.resolve_laws.specs.Resolver.{call_of}
use Rattle.resolve_faults.specs.Faults.{AllFine}
use Rattle.resolve_faults.proofs.first_fault.Given as goal

abbrev pub invariant-loop-d : goal.invariant-loop-d
invariant-loop-d l = ((i : ℕ) → i < l.d → AllFine (lines_in l.t) l.u l.keep i) × Slots (call_of (lines_in l.t) l.u) l.slots
