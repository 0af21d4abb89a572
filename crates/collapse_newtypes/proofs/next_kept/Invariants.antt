-- No field passed is kept.
use Rattle.std.proofs.Common.{◌≡◌, ◌-◌}
use Rattle.collapse_newtypes.specs.Newtypes.{kept_places}
use Rattle.collapse_newtypes.proofs.next_kept.Given as goal

abbrev pub invariant-loop-f : goal.invariant-loop-f
invariant-loop-f l = kept_places l.keep l.from (l.end - l.from) ≡ kept_places l.keep l.f (l.end - l.f)
