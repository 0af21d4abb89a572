-- `pattern_ctors::fill` meets its contract, from the last declaration to the first.
use Rattle.std.proofs.Common.{◌≡◌, suc, ◌-◌, arith, rules}
use Rattle.table_access.specs.Tables.{lines_in}
use Rattle.pattern_ctors.specs.SitesLaws.{cells_none, cells_all}
use Rattle.pattern_ctors.proofs.fill.Goals as goal

pub loop-d-init : goal.loop-d-init
loop-d-init c = rw c.decls-d.ensures (cells_none (lines_in c.args.t.now) _ (λ j h. search rules) (omega arith))

pub put_decl-requires : goal.put_decl-requires
put_decl-requires c =
    let e : c.loop-d.d ≡ suc (c.loop-d.d - 1) = omega arith in
    record { tabled = (c.requires.0, omega arith); sited_from = rw e at c.loop-d.invariant }

pub returns : goal.returns
returns c =
    let e : c.loop-d.d ≡ 0 = omega arith in
    cells_all (lines_in c.args.t.now) c.loop-d.m (rw e at c.loop-d.invariant)
