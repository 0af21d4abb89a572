-- `node_lines::y_numbers` meets its contract, by kinds that stand close. Assumes nothing.
use borrow.Author.Rules.{rules}
use Rattle.form_laws.specs.Nodes.{y_first, y_second, y_third}
use Rattle.form_nodes.specs.Words.{node_of}
use Rattle.left_emitter.specs.Lines.{y_row}
use Rattle.left_emitter.specs.LinesLaws.{leaf_row, inner_row, outer_row}
use Rattle.left_emitter.proofs.node_lines.y_numbers.Statement.{statement}
use Rattle.left_emitter.proofs.node_lines.y_numbers.Tie as tie

returns : tie.Need-returns-in-4
unfolding y_row y_first y_second y_third
returns c = rw (← c.kind-k.ensures, c.in-4.is, ← c.count-n.ensures, ← c.own-x.ensures)

returns-2 : tie.Need-returns-in-0-to-6
returns-2 c =
    let a = c.args in
    let k = c.kind-k.ensures in
    rw (c.own-x.ensures, k) (leaf_row (node_of a.w) a.ns.now a.a (rw k at c.in-0-to-6.in_default-own.rest.1) (rw k at c.in-0-to-6.if-k-lt7-own.true))

returns-3 : tie.Need-returns-in-7-to-9
returns-3 c =
    let a = c.args in
    let k = c.kind-k.ensures in
    rw (
      c.pick-in-7-to-9.ensures,
      c.pick.ensures,
      c.pick-in-7-to-9-3.ensures,
      c.pick-in-7-to-9-2.ensures,
      c.pick-in-7-to-9-5.ensures,
      c.pick-in-7-to-9-4.ensures,
      c.first_of-f.ensures,
      c.nth-r.ensures,
      c.nth-l.ensures,
      c.own-x.ensures,
      c.count-n.ensures,
      k,
    )
    (inner_row (node_of a.w) a.ns.now a.a (rw k at c.in-7-to-9.if-k-lt7-own.false) (rw k at c.in-7-to-9.if-k-lt10-own.true))

returns-4 : tie.Need-returns-in_default
returns-4 c =
    let a = c.args in
    let k = c.kind-k.ensures in
    rw (c.pick-in_default-2.ensures, c.pick-in_default.ensures, c.pick-in_default-3.ensures, c.nth-l.ensures, c.own-x.ensures, k)
    (outer_row (node_of a.w) a.ns.now a.a (rw k at c.in_default.if-k-lt10-own.false))

pub y_numbers_spec : {M : Type 1} → statement M
y_numbers_spec =
    tie.close
    (tie.spec
    (λ c κs. search rules)
    (λ c κs. search rules)
    (λ c κs. search rules)
    (λ c κs. search rules)
    (λ c κs. search rules)
    (λ c κs. search rules)
    (λ c κs. search rules)
    (λ c κs. search rules)
    (λ c κs. search rules)
    (λ c κs. search rules)
    (λ c κs. search rules)
    (λ c κs. search rules)
    (λ c κs. search rules)
    (λ c κs. search rules)
    (λ c κs. search rules)
    returns
    returns-2
    returns-3
    returns-4)
