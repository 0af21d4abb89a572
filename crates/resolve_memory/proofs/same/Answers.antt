-- `resolve_memory::same` meets its contract: equal slices are equal parts.
use Rattle.std.proofs.Common.{◌+◌, sym, ◌∙◌}
use Rattle.std.proofs.lemmas.Bool.Decides.{Decides-eqb}
use Rattle.std.proofs.lemmas.Slice.{between_is}
use Rattle.std.proofs.lemmas.Slice.Eq.{slice_eq-Decides}
use Rattle.resolve_outcomes.specs.Scratch.{part}
use Rattle.resolve_memory.proofs.same.Goals as goal

pub returns : goal.returns
unfolding part
returns c e =
    let a = c.args in
    sym (between_is a.slots.now a.base (a.base + a.count)) ∙ ((slice_eq-Decides Decides-eqb _ _ _ c.eq.ensures).0 e ∙ between_is a.out.now a.at (a.at + a.count))
