-- `form_ranks::forms_of_rank` meets its contract: what stands before the next declaration of rank r changes nothing of what is done.
use Rattle.std.proofs.Common.{arith, ◌∙◌}
use Rattle.table_access.specs.Tables.{lines_in}
use Rattle.form_ranks.specs.Next.{skip_table}
use Rattle.form_ranks.proofs.forms_of_rank.Goals as goal

-- answered here so that a step too far is refused by the numbers
pub next_of_rank-d-requires-in-loop-d : goal.next_of_rank-d-requires-in-loop-d
next_of_rank-d-requires-in-loop-d c = (omega (arith, c.loop-d-test.true), omega (arith, c.requires.ranked.0.ranks, c.requires.within.most))

pub loop-d-preserved : goal.loop-d-preserved
loop-d-preserved c =
    let a = c.args in
    let s = c.loop-d in
    let x = c.form_at-p.ensures in
    let y = c.next_of_rank-d-in-loop-d.ensures in
    record {
      below = y.next.high;
      same = x.same ∙ s.invariant.same;
      found = y.found;
      done = skip_table (lines_in a.t.now) a.u.now a.rank.now _ _ a.r _ _ _ y.next (x.table (omega (arith, c.if-p-f.false, x.same)));
    }
