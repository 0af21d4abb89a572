-- `node_lines::put_list` meets its contract: the children are listed, or none is. Assumes nothing.
use mathlib.Core.Path.{refl, sym, ◌∙◌}
use Rattle.sheet.specs.Output.{puts}
use Rattle.form_nodes.specs.Words.{node_of}
use Rattle.left_emitter.specs.LinesLaws.{listed_none, listed_all}
use borrow.Author.Rules.{rules}
use Rattle.left_emitter.proofs.node_lines.put_list.Statement.{statement}
use Rattle.left_emitter.proofs.node_lines.put_list.Tie as tie

returns : tie.Need-returns-then-not-lists
unfolding puts
returns c =
    let a = c.args in
    rw (listed_none (node_of a.w) a.ns.now (sym c.lists.ensures ∙ c.if-not-lists.true)) (refl, refl)

put-args-requires : tie.Need-put_args-requires
put-args-requires c κs =
    let a = c.args in
    rw (listed_all (node_of a.w) a.ns.now (sym c.lists.ensures ∙ c.if-not-lists.false)) at c.requires

returns-2 : tie.Need-returns
returns-2 c =
    let a = c.args in
    rw (listed_all (node_of a.w) a.ns.now (sym c.lists.ensures ∙ c.if-not-lists.false)) (refl, c.put_args.ensures)

pub put_list_spec : {M : Type 1} → statement M
put_list_spec =
    tie.close
    (tie.spec
    (λ c κs. search rules)
    returns
    put-args-requires
    (λ c. search rules)
    returns-2)
