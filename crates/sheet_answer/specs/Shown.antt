-- A place over 999,999 is written as 999999 (FORMAT, section 9). Assumes nothing.
use Rattle.std.specs.Prelude.{ℕ, ltb}
use Rattle.number_columns.specs.Column.{pick}

-- a number as line R has it
unfoldable pub shown : ℕ → ℕ
shown n = pick (ltb 999999 n) 999999 n
