-- Sets of numbers as bits in words of 64: m is in a set where bit m % 64 of its word m / 64 is set.
-- A list of words may hold many sets, `at` is where the words of one begin. Assumes nothing.
use Rattle.std.specs.Prelude.{List, Bool, ℕ, zero, suc, ◌+◌, ◌/◌, ◌%◌, ◌^◌, eqb, get_or, set}
use Rattle.std.specs.Int.Bits.{bit_or}

-- bit k of a word
abbrev pub digit : ℕ → ℕ → ℕ
digit x k = x / 2 ^ k % 2

-- m is in the set
unfoldable pub has : List ℕ → ℕ → ℕ → Bool
has s at m = eqb (digit (get_or s (at + m / 64) 0) (m % 64)) 1

-- the set with m
unfoldable pub inserted : List ℕ → ℕ → ℕ → List ℕ
inserted s at m = set s (at + m / 64) (bit_or (get_or s (at + m / 64) 0) (2 ^ (m % 64)))

-- the set of so many words with no member
unfoldable pub cleared : List ℕ → ℕ → ℕ → List ℕ
cleared s at zero = s
cleared s at (suc w) = set (cleared s at w) (at + w) 0

-- the set of s at `to` with the members of the set of t at `from`, of so many words both
unfoldable pub united : List ℕ → ℕ → List ℕ → ℕ → ℕ → List ℕ
united s to t from zero = s
united s to t from (suc w) =
    let r : List ℕ = united s to t from w in set r (to + w) (bit_or (get_or r (to + w) 0) (get_or t (from + w) 0))
