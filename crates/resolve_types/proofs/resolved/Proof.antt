-- `resolve_types::resolved` meets its contract: measured first, then evaluated with fuel for a chain through all declarations. Assumes nothing.
use native.Mathlib.Omega.{arith}
use Rattle.resolve_outcomes.proofs.Laws.Nodes.{nodes_none}
use Rattle.resolve_outcomes.proofs.Laws.Scratch.{part_none}
use Rattle.resolve_laws.specs.Resolver.{fuel_of}
use Rattle.resolve_laws.specs.ResolverLaws.{type_ten, type_node}
use borrow.Author.Rules.{rules}
use Rattle.resolve_types.proofs.resolved.Statement.{statement}
use Rattle.table_access.specs.Tables.{lines_in}
use Rattle.resolve_types.proofs.resolved.Tie as tie

weigh-requires : tie.Need-weigh-requires
weigh-requires c κs = search rules

same_length : tie.Need-shape_of-out-then-weigh-gt-LIMIT
same_length c = search rules

returns : tie.Need-returns-then-weigh-gt-LIMIT
returns c =
    let a = c.args in
    type_ten (lines_in a.t.now) a.t.now a.u.now a.y a.d c.requires.0 a.out.now _ c.weigh.ensures (fuel_of (lines_in a.t.now)) a.slots.now c.requires.1 c.if-weigh-gt-LIMIT.true

decls-requires : tie.Need-decls-fuel-requires
decls-requires c κs = c.requires.0.setup.tabled

node-requires : tie.Need-node-requires
node-requires c κs =
    let a = c.args in
    (c.requires.0, ((record { inside = omega arith; room = omega arith; nodes = rw (part_none 0 a.out.now) nodes_none }, omega arith, λ e. omega arith), c.requires.1))

same-length-2 : tie.Need-shape_of-out
same-length-2 c = search rules

same-length-3 : tie.Need-shape_of-slots
same-length-3 c = search rules

returns-2 : tie.Need-returns
returns-2 c =
    let a = c.args in
    let ls = lines_in a.t.now in
    rw (← c.decls-fuel.ensures)
    (type_node ls a.t.now a.u.now a.y a.d c.requires.0 a.out.now _ c.weigh.ensures _ _ _ _ c.if-weigh-gt-LIMIT.false c.node.ensures)

pub resolved_spec : {M : Type 1} → statement M
resolved_spec =
    tie.close
    (tie.spec
    weigh-requires
    same_length
    returns
    decls-requires
    node-requires
    same-length-2
    same-length-3
    returns-2)
