-- `rank_bounds::ends` meets its contract: after d turns the first d declarations stand before their ends.
use Rattle.std.proofs.Common.{◌≡◌, ℕ, refl, subst, arith, length}
use Rattle.form_tables.specs.Bounds.{Ended, ended_more}
use Rattle.form_tables.proofs.rank_bounds.ends.Goals as goal

pub loop-d-init : goal.loop-d-init
loop-d-init c = record { long = refl; most = c.requires.1; inside = λ d q. absurd (omega arith) }

pub loop-d-preserved : goal.loop-d-preserved
loop-d-preserved c = ended_more _ _ _ _ _ _ (omega arith) c.loop-d.invariant c.mark.ensures

pub returns : goal.returns
returns c =
    let s = c.loop-d in
    let r = c.args.rank.now in
    let e : s.d ≡ length r = omega arith in
    subst (λ (i : ℕ). Ended r i (length r) (length c.args.end.now) s.end) e s.invariant
