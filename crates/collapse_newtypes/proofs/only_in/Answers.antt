-- `collapse_newtypes::only_in` meets its contract, by the first kept field and the next.
use Rattle.std.proofs.Common.{sym, arith}
use Rattle.collapse_newtypes.specs.NewtypesLaws.{only_none, only_several, only_one}
use Rattle.collapse_newtypes.proofs.only_in.Goals as goal

pub returns-then-f-end : goal.returns-then-f-end
returns-then-f-end c = sym (only_none c.args.keep.now c.args.from c.args.end c.next_kept-f.result c.next_kept-f.ensures c.if-f-end.true)

pub returns-then-second-end : goal.returns-then-second-end
returns-then-second-end c =
    let a = c.args in
    let k = c.next_kept-f in
    let n = c.next_kept-second in
    sym (only_several a.keep.now a.from a.end k.result k.ensures (omega (arith, k.ensures.high, c.if-f-end.false)) n.result n.ensures c.if-second-end.true)

pub returns : goal.returns
returns c =
    let a = c.args in
    let k = c.next_kept-f in
    let n = c.next_kept-second in
    sym (only_one a.keep.now a.from a.end k.result k.ensures (omega (arith, k.ensures.high, c.if-f-end.false)) n.result n.ensures c.if-second-end.false)
