-- `pattern_emit::put_own` meets its contract. Assumes nothing.
use mathlib.Core.List.{[]}
use borrow.Author.Rules.{rules}
use Rattle.pattern_emit.specs.PutLaws.{put_none, put_same, room_same}
use Rattle.pattern_emit.specs.StepLaws.{own_line, own_name, own_nothing}
use Rattle.pattern_emit.proofs.put_own.Goals as goal

pub returns-then-kind-ne1 : goal.returns-then-kind-ne1
returns-then-kind-ne1 c =
    let s = c in let a = s.args in
    put_same _ [] _ _ _ _ (own_nothing a.names a.kind a.name a.last a.previous a.field c.if-names.true c.if-kind-ne1.true) (put_none a.out.now a.at)

pub put_line-requires : goal.put_line-requires
put_line-requires c =
    let s = c in let a = s.args in
    room_same _ _ _ _ (own_name a.names a.kind a.name a.last a.previous a.field c.if-names.true c.if-kind-ne1.false) s.requires

pub returns-then-names : goal.returns-then-names
returns-then-names c =
    let s = c in let a = s.args in
    put_same _ _ _ _ _ _ (own_name a.names a.kind a.name a.last a.previous a.field c.if-names.true c.if-kind-ne1.false) c.put_line.ensures

pub put_line-requires-2 : goal.put_line-requires-2
put_line-requires-2 c =
    let s = c in let a = s.args in
    room_same _ _ _ _ (own_line a.names a.kind a.name a.last a.previous a.field c.if-names.false) s.requires

pub returns : goal.returns
returns c =
    let s = c in let a = s.args in
    put_same _ _ _ _ _ _ (own_line a.names a.kind a.name a.last a.previous a.field c.if-names.false) c.put_line-2.ensures
