-- `resolve_kids::kids` meets its contract, kind by kind; row 5 says that no kind is over 12. Assumes nothing.
use mathlib.Core.Path.{sym, ◌∙◌}
use native.Mathlib.Omega.{arith}
use borrow.Author.Rules.{rules}
use Rattle.resolve_kids.specs.NodesLaws.{node_at, kids_7, kids_8, kids_9, kids_part, kids_leaf, seven}
use Rattle.table_access.specs.Tables.{lines_in}
use Rattle.resolve_kids.proofs.kids.Goals as goal

pub returns-in-7 : goal.returns-in-7
returns-in-7 c = sym (kids_7 _ _ (sym c.type_number-kind.ensures ∙ c.in-7.is))

pub returns-in-8 : goal.returns-in-8
returns-in-8 c = c.type_number.ensures ∙ sym (kids_8 _ _ (sym c.type_number-kind.ensures ∙ c.in-8.is))

pub returns-in-9 : goal.returns-in-9
returns-in-9 c = c.type_number-in-9.ensures ∙ sym (kids_9 _ _ (sym c.type_number-kind.ensures ∙ c.in-9.is))

pub returns-in-10-to-12 : goal.returns-in-10-to-12
returns-in-10-to-12 c = sym (kids_part _ _ (omega (arith, c.type_number-kind.ensures)))

pub returns-in_default : goal.returns-in_default
returns-in_default c = sym (kids_leaf _ _ (seven _ (omega (arith, c.type_number-kind.ensures)) (λ e. c.in_default.in_default-own.rest.0.0.1 (c.type_number-kind.ensures ∙ e)) (λ e. c.in_default.in_default-own.rest.0.1 (c.type_number-kind.ensures ∙ e)) (λ e. c.in_default.in_default-own.rest.1 (c.type_number-kind.ensures ∙ e))))

pub returns-in_default-2 : goal.returns-in_default-2
returns-in_default-2 c =
    let a = c in
    absurd (omega (arith, c.type_number-kind.ensures, (node_at (lines_in a.args.t.now) a.requires.tabled.passed a.args.y a.requires.y_bound).known))
