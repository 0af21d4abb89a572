-- The state is what the columns passed give.
use Rattle.std.proofs.Common.{◌≡◌, take}
use Rattle.number_columns.specs.declared.Scan.TheVariants.{Blank}
use Rattle.number_columns.specs.Column.{scan}
use Rattle.number_readers.proofs.scanned.Given as goal

abbrev pub invariant-loop-b : goal.invariant-loop-b
invariant-loop-b l = l.st ≡ scan Blank (take l.b-index l.s)
