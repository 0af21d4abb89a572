-- What stands left of column i, and the columns from i on, are the number.
use Rattle.std.proofs.Common.{◌≡◌, ◌++◌, length, drop}
use Rattle.number_columns.specs.Column.{shown, write}
use Rattle.sheet_digits.proofs.write_number.Given as goal

abbrev pub invariant-loop-i : goal.invariant-loop-i
invariant-loop-i l = shown l.i l.m ++ drop l.i l.out ≡ write (length l.fn.out) l.fn.n
