-- What is sought from P line i on is what was sought from the first.
use Rattle.std.proofs.Common.{◌≡◌, ◌-◌}
use Rattle.resolve_outcomes.specs.Scratch.{part}
use Rattle.resolve_outcomes.specs.Outcome as outcome
use Rattle.resolve_kids.specs.Params.{params_from}
use Rattle.resolve_kids.specs.ParamsLaws.{sought}
use Rattle.table_access.specs.Tables.{lines_in}
use Rattle.resolve_kids.proofs.arguments.argument.Given as goal

abbrev pub invariant-loop-i : goal.invariant-loop-i
invariant-loop-i l =
    outcome.argument (params_from (lines_in l.t) l.first (l.end - l.first)) (part l.at l.count l.out) l.v ≡ sought (lines_in l.t) l.first l.end l.out l.at l.count l.v l.i
