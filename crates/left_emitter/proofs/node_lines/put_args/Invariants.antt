-- The A lines of the children that were passed are written.
use Rattle.std.proofs.Common.{◌≡◌, map, take}
use Rattle.sheet.specs.Output.{puts}
use Rattle.left_emitter.specs.Lines.{arg_row}
use Rattle.left_emitter.proofs.node_lines.put_args.Given as goal

abbrev pub invariant-loop-j : goal.invariant-loop-j
invariant-loop-j l = l.out ≡ puts 6 l.initial.out l.i (map arg_row (take l.j l.ns))
