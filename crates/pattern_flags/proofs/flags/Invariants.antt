-- The lines passed have their flags.
use Rattle.walk_cells.specs.Cells.{lines_of}
use Rattle.table_access.specs.Tables.{lines_in}
use Rattle.pattern_flags.specs.Flags.{FlagsTo}
use Rattle.pattern_flags.proofs.flags.Given as goal

abbrev pub invariant-loop-i : goal.invariant-loop-i
invariant-loop-i l = FlagsTo (lines_in l.t) l.keep l.u l.m (lines_of l.q) l.own l.place l.flags l.i
