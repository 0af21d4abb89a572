-- What was passed is In, with a number of as many digits.
use Rattle.std.proofs.Common.{◌≡◌, ◌<◌, ◌^◌, drop}
use Rattle.number_columns.specs.declared.Scan.TheVariants.{In}
use Rattle.number_columns.specs.Column.{scan}
use Rattle.walk_decode.proofs.numbers.digits.Given as goal

abbrev pub invariant-loop-b : goal.invariant-loop-b
invariant-loop-b l = (scan (In l.v) (drop l.b-index l.s) ≡ scan (In 0) l.s) × (l.v < 10 ^ l.b-index)
