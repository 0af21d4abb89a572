-- The ones of a row's words. Assumes nothing.
use Rattle.std.specs.Prelude.{List, ℕ, zero, suc, ◌+◌, get_or}
use Rattle.std.specs.Int.Count.{ones}

-- of so many words from place `at` on
unfoldable pub ones_of : List ℕ → ℕ → ℕ → ℕ
ones_of t at zero = 0
ones_of t at (suc w) = ones_of t at w + ones (get_or t (at + w) 0)
