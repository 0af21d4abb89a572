-- What is answered for the fields that are left is answered for all.
use Rattle.std.proofs.Common.{length}
use Rattle.table_access.specs.Tables.{lines_in}
use Rattle.resolve_memory.specs.Slots.{Slots}
use Rattle.resolve_laws.specs.Resolver.{call_of}
use Rattle.resolve_faults.specs.FaultsLaws.{Rest}
use Rattle.resolve_faults.proofs.field_fault.Given as goal

abbrev pub invariant-loop-f : goal.invariant-loop-f
invariant-loop-f l = Rest (lines_in l.t) l.u l.keep l.d (length l.fn.out) l.from l.f l.end × Slots (call_of (lines_in l.t) l.u) l.slots
