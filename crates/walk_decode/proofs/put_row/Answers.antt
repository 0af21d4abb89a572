-- `walk_decode::put_row` meets its contract: what is read is the cell.
use Rattle.std.proofs.Common.{◌≡◌, arith, sym, ◌∙◌}
use Rattle.sheet.specs.Line.{cell}
use Rattle.walk_decode.specs.DecodeLaws.{cell_part, filled_more, filled_row, none_row}
use Rattle.walk_decode.proofs.put_row.Goals as goal

pub returns-then-not-put : goal.returns-then-not-put
returns-then-not-put c =
    let w = c.args.w in
    let l = c.args.l.now in
    let k = c.loop-k.k in
    let n : c.short_number.result ≡ cell w l k = c.short_number.ensures ∙ cell_part w l k in
    none_row w l _ k (omega arith) (rw (← n) (sym c.put.ensures.0 ∙ c.if-not-put.true))

pub loop-k-preserved : goal.loop-k-preserved
loop-k-preserved c =
    let w = c.args.w in
    let l = c.args.l.now in
    let k = c.loop-k.k in
    let n : c.short_number.result ≡ cell w l k = c.short_number.ensures ∙ cell_part w l k in
    rw c.put.ensures.1 (filled_more w l c.loop-k.c k _ (omega arith) c.loop-k.invariant n (sym c.put.ensures.0 ∙ c.if-not-put.false))

pub returns : goal.returns
returns c =
    let e : c.loop-k.k ≡ 5 = omega arith in
    filled_row c.args.w c.args.l.now _ (rw e at c.loop-k.invariant)
