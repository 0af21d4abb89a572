-- `resolve_calls::takes` meets its contract, by the kind of the body. Assumes nothing.
use mathlib.Core.Path.{sym, ◌∙◌}
use Rattle.resolve_outcomes.specs.Scratch.{part}
use Rattle.resolve_kids.specs.Params.{params_of}
use Rattle.resolve_calls.specs.CallsLaws.{takes_app, takes_var, takes_none}
use borrow.Author.Rules.{rules}
use Rattle.resolve_calls.proofs.takes.Statement.{statement}
use Rattle.table_access.specs.Tables.{lines_in}
use Rattle.resolve_calls.proofs.takes.Tie as tie

type-number-requires : tie.Need-type_number-kind-requires
type-number-requires c κs = search rules

returns : tie.Need-returns-then-kind-eq8
returns c =
    let a = c.args in
    let p = c.requires in
    takes_app (lines_in a.t.now) p.0.0.passed (params_of (lines_in a.t.now) a.d) (part a.at a.count a.out.now) a.y p.0.1 (sym c.type_number-kind.ensures ∙ c.if-kind-eq8.true)

type-number-requires-2 : tie.Need-type_number-v-requires
type-number-requires-2 c κs = search rules

cast-v : tie.Need-overflow_cast-v
cast-v c = search rules

argument-requires : tie.Need-argument-requires
argument-requires c κs = search rules

returns-2 : tie.Need-returns-then-kind-eq3
returns-2 c =
    let a = c.args in
    let p = c.requires in
    takes_var (lines_in a.t.now) p.0.0.passed (params_of (lines_in a.t.now) a.d) (part a.at a.count a.out.now) a.y p.0.1 _ _ (sym c.type_number-kind.ensures ∙ c.if-kind-eq3.true) c.type_number-v.ensures c.argument.ensures.0

returns-3 : tie.Need-returns
returns-3 c =
    let a = c.args in
    let p = c.requires in
    takes_none (lines_in a.t.now) p.0.0.passed (params_of (lines_in a.t.now) a.d) (part a.at a.count a.out.now) a.y p.0.1 (λ e. c.if-kind-eq3.false (c.type_number-kind.ensures ∙ e)) (λ e. c.if-kind-eq8.false (c.type_number-kind.ensures ∙ e))

pub takes_spec : {M : Type 1} → statement M
takes_spec =
    tie.close
    (tie.spec
    type-number-requires
    returns
    type-number-requires-2
    cast-v
    argument-requires
    returns-2
    returns-3)
