-- The declarations that were passed are written.
use Rattle.std.proofs.Common.{◌≡◌}
use Rattle.sheet.specs.Sheet.{lines}
use Rattle.row4_limits.specs.Limits.{start}
use Rattle.verdict_sheet.specs.Upto.{upto}
use Rattle.verdict_sheet.proofs.put_verdicts.Given as goal

abbrev pub invariant-loop-d : goal.invariant-loop-d
invariant-loop-d l = l.out ≡ upto l.s (start (lines 6 l.s) l.d) l.initial.out
