-- The members of one set that another has not, both as bits in words. Assumes nothing.
use Rattle.std.specs.Prelude.{List, Bool, ◌&&◌, not, ℕ}
use Rattle.set_bits.specs.Bits.{has}

-- m is in the set of s at `at` and not in that of t at `to`
unfoldable pub outside : List ℕ → ℕ → List ℕ → ℕ → ℕ → Bool
outside s at t to m = has s at m && not (has t to m)
