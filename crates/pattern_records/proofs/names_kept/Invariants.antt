-- None of the F lines passed is.
use Rattle.std.proofs.Common.{◌≡◌, ◌-◌}
use Rattle.table_access.specs.Tables.{lines_in}
use Rattle.pattern_records.specs.Records.{names_kept}
use Rattle.pattern_records.proofs.names_kept.Given as goal

abbrev pub invariant-loop-f : goal.invariant-loop-f
invariant-loop-f l = names_kept (lines_in l.t) l.keep l.from (l.end - l.from) l.x ≡ names_kept (lines_in l.t) l.keep l.f (l.end - l.f) l.x
