-- `mention_types::sets::add_name` meets its contract: a name of no declaration adds nothing.
use Rattle.std.proofs.Common.{arith}
use Rattle.mention_types.specs.AddsLaws.{adds_one, adds_declared, adds_foreign}
use Rattle.mention_types.proofs.sets.add_name.Goals as goal

pub returns-then-d-decls : goal.returns-then-d-decls
returns-then-d-decls c =
    let a = c.args in
    let p = c.requires.t_bound in
    let declared = rw c.decls.ensures at c.if-d-decls.true in
    adds_declared _ a.n a.words a.y _ a.sets.now _ c.decl_of-d.ensures declared
    (rw c.insert.ensures (adds_one a.words a.y a.sets.now _ (omega (arith, declared, p.0)) p.1))

pub returns-else-d-decls : goal.returns-else-d-decls
returns-else-d-decls c =
    let a = c.args in
    adds_foreign _ a.n a.words a.y _ a.sets.now c.decl_of-d.ensures (rw c.decls.ensures at c.if-d-decls.false)
