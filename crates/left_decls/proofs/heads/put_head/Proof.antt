-- `left_decls::heads::put_head` meets its contract: the D line, and then the P lines. Assumes nothing.
use Rattle.left_decls.specs.HeadsLaws.{params_inside, d_room, p_room, head_writes}
use native.Mathlib.Omega.{arith}
use borrow.Author.Rules.{rules}
use Rattle.table_declared.specs.PassedLaws.{params_few}
use Rattle.left_decls.proofs.heads.put_head.Statement.{statement}
use Rattle.table_access.specs.Tables.{lines_in}
use Rattle.left_decls.proofs.heads.put_head.Tie as tie

cast-t14 : tie.Need-overflow_cast-n
cast-t14 c =
    let z = c in
    let a = z.args in
    omega (arith, params_inside (lines_in a.t.now) a.d c.params-n.result c.params-n.ensures c.first_param-i.result c.first_param-i.ensures, params_few (lines_in a.t.now) z.requires.0.0.passed)

put-line-requires : tie.Need-put_line-q-requires
put-line-requires c κs =
    let z = c in
    let a = z.args in
    d_room (lines_in a.t.now) a.d a.kind a.end _ _ c.params-n.result c.first_param-i.result a.p a.p a.out.now a.out.now z.requires.1 c.decl_number-name.ensures c.decl_number-flags.ensures c.params-n.ensures c.first_param-i.ensures

put-params-requires : tie.Need-put_params-requires
put-params-requires c κs =
    let z = c in
    let a = z.args in
    ((z.requires.0.0, params_inside (lines_in a.t.now) a.d c.params-n.result c.params-n.ensures c.first_param-i.result c.first_param-i.ensures), p_room (lines_in a.t.now) a.d a.kind a.end _ _ c.params-n.result c.first_param-i.result a.p c.put_line-q.result a.out.now _ z.requires.1 c.decl_number-name.ensures c.decl_number-flags.ensures c.params-n.ensures c.first_param-i.ensures c.put_line-q.ensures)

returns : tie.Need-returns
returns c =
    let z = c in
    let a = z.args in
    head_writes (lines_in a.t.now) a.d a.kind a.end _ _ c.params-n.result c.first_param-i.result a.p c.put_line-q.result a.out.now _ z.requires.1 c.decl_number-name.ensures c.decl_number-flags.ensures c.params-n.ensures c.first_param-i.ensures c.put_line-q.ensures _ _ c.put_params.ensures

pub put_head_spec : {M : Type 1} → statement M
put_head_spec =
    tie.close
    (tie.spec
    (λ c κs. search rules)
    (λ c κs. search rules)
    (λ c κs. search rules)
    (λ c κs. search rules)
    cast-t14
    put-line-requires
    put-params-requires
    (λ c. search rules)
    returns)
