-- `form_emit::words::argument_line` meets its contract: the parts of a Y line stand before it. Assumes nothing.
use Prim.Native.Nat.{◌<◌}
use native.Mathlib.Omega.{arith}
use borrow.Author.Rules.{rules}
use Rattle.resolve_kids.specs.NodesLaws.{node_at}
use Rattle.form_emit.specs.Filling.{argument_given}
use Rattle.form_emit.proofs.words.argument_line.Statement.{statement}
use Rattle.table_access.specs.Tables.{lines_in}
use Rattle.form_emit.proofs.words.argument_line.Tie as tie

returns-3 : tie.Need-returns
returns-3 c =
    let a = c.args in
    let p = c.requires in
    let l : c.kid.result < a.y =
    omega (arith, c.kid.ensures, (node_at (lines_in a.t.now) p.0.passed a.y p.1).lower c.own-i.result (omega (arith, c.if-i-kids.false, c.kids.ensures))) in
    argument_given (lines_in a.t.now) a.y a.w _ _ _ _ c.kind.ensures c.if-kind-ne3.false c.own-i.ensures c.kids.ensures c.if-i-kids.false c.kid.ensures l

pub argument_line_spec : {M : Type 1} → statement M
argument_line_spec =
    tie.close
    (tie.spec
    (λ c κs. search rules)
    (λ c. search rules)
    (λ c κs. search rules)
    (λ c. search rules)
    (λ c κs. search rules)
    (λ c. search rules)
    (λ c κs. search rules)
    returns-3)
