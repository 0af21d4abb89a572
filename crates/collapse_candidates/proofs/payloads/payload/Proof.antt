-- `collapse_candidates::payloads::payload` meets its contract, by the kind of the field's type. Assumes nothing.
use mathlib.Core.Path.{sym, ◌∙◌}
use Rattle.collapse_candidates.specs.PayloadsLaws.{inside, payload_inline, payload_plain}
use borrow.Author.Rules.{rules}
use Rattle.collapse_candidates.proofs.payloads.payload.Statement.{statement}
use Rattle.table_access.specs.Tables.{lines_in}
use Rattle.collapse_candidates.proofs.payloads.payload.Tie as tie

type-number-requires : tie.Need-type_number-kind-requires
type-number-requires c κs =
    let a = c in
    (a.requires.0, (inside (lines_in a.args.t.now) a.requires.0.passed a.args.f a.requires.1 _ c.field_number-y.ensures, search rules))

type-number-requires-2 : tie.Need-type_number-requires
type-number-requires-2 c κs =
    let a = c in
    (a.requires.0, (inside (lines_in a.args.t.now) a.requires.0.passed a.args.f a.requires.1 _ c.field_number-y.ensures, search rules))

returns : tie.Need-returns-then-kind-eq12
returns c =
    let a = c in
    payload_inline (lines_in a.args.t.now) a.requires.0.passed a.args.f a.requires.1 _ c.field_number-y.ensures _ (sym c.type_number-kind.ensures ∙ c.if-kind-eq12.true) c.type_number.ensures

returns-2 : tie.Need-returns
returns-2 c =
    let a = c in
    payload_plain (lines_in a.args.t.now) a.requires.0.passed a.args.f a.requires.1 _ c.field_number-y.ensures (λ e. c.if-kind-eq12.false (c.type_number-kind.ensures ∙ e))

pub payload_spec : {M : Type 1} → statement M
payload_spec =
    tie.close
    (tie.spec
    (λ c κs. search rules)
    (λ c. search rules)
    type-number-requires
    type-number-requires-2
    (λ c. search rules)
    returns
    returns-2)
