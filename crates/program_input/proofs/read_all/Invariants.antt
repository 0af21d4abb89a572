use Rattle.std.proofs.Common.{◌≤◌, length, take}
use Rattle.std.specs.Io.KnownBytes.{Consumes}
use Rattle.program_input.proofs.read_all.Given as goal

-- what is read so far lies within the buffer, and is what the reader gave
abbrev pub invariant-loop : goal.invariant-loop
invariant-loop g l = (l.at ≤ length l.buffer) × Consumes (g.R.Read.remaining l.initial.from) (g.R.Read.remaining l.from) (take l.at l.buffer)
