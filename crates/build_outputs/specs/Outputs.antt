-- How little memory there was. Assumes nothing.
use Rattle.std.specs.Prelude.{◌⊎◌, ℕ, ◌*◌, ◌<◌}

-- too few words for the normal forms of every sheet of n declarations, or for its types
abbrev pub Short : ℕ → ℕ → ℕ → Type 0
Short n forms scratch = (forms < 1026 * n) ⊎ (scratch < 1024)
