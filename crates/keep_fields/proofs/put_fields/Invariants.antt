-- The fields passed are kept or not as they are to be.
use Rattle.table_access.specs.Tables.{lines_in}
use Rattle.keep_fields.specs.KeepsLaws.{Partly}
use Rattle.keep_fields.proofs.put_fields.Given as goal

abbrev pub invariant-loop-f : goal.invariant-loop-f
invariant-loop-f l = Partly (lines_in l.t) l.keep l.d l.f
