-- `rank_bounds::starts` meets its contract: from declaration d on each stands at its start or behind it.
use Rattle.std.proofs.Common.{◌≡◌, ℕ, ◌+◌, ◌-◌, refl, sym, subst, arith, length}
use Rattle.form_tables.specs.Bounds.{Started, started_more}
use Rattle.form_tables.proofs.rank_bounds.starts.Goals as goal

pub loop-d-init : goal.loop-d-init
loop-d-init c = record { long = refl; inside = λ d q l. absurd (omega arith) }

pub loop-d-preserved : goal.loop-d-preserved
loop-d-preserved c =
    let s = c.loop-d in
    let r = c.args.rank.now in
    let n = length c.args.start.now in
    let e : s.d - 1 + 1 ≡ s.d = omega arith in
    started_more r (s.d - 1) n s.start _ (subst (λ (i : ℕ). Started r i n s.start) (sym e) s.invariant) c.mark.ensures
