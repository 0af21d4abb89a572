-- `resolve_kids::kid` meets its contract, kind by kind. Assumes nothing.
use mathlib.Core.Path.{refl, sym, ◌∙◌, ap}
use native.Mathlib.Omega.{arith}
use Prim.Native.Nat.{◌+◌}
use borrow.Author.Rules.{rules}
use borrow.Author.Tests.{ne_eqb}
use Rattle.table_declared.specs.PassedLaws.{args_few}
use Rattle.resolve_kids.specs.Nodes.{arg_of}
use Rattle.resolve_kids.specs.NodesLaws.{list8_within, list9_within, kid_7, kid_8, kid_9, kid_11, kid_one}
use Rattle.table_access.specs.Tables.{lines_in}
use Rattle.resolve_kids.proofs.kid.Goals as goal

pub overflow_add-first : goal.overflow_add-first
overflow_add-first c =
    let a = c in
    omega (arith, c.type_number-first.ensures, list8_within (lines_in a.args.t.now) a.requires.tabled.passed a.args.y a.requires.y_bound.0 (sym c.type_number-kind.ensures ∙ c.in-8.is) a.args.i a.requires.y_bound.1, args_few (lines_in a.args.t.now) a.requires.tabled.passed)

pub arg-requires-clause-i_bound : goal.arg-requires-clause-i_bound
arg-requires-clause-i_bound c =
    let a = c in omega (arith, c.type_number-first.ensures, list8_within (lines_in a.args.t.now) a.requires.tabled.passed a.args.y a.requires.y_bound.0 (sym c.type_number-kind.ensures ∙ c.in-8.is) a.args.i a.requires.y_bound.1)

pub overflow_add-first-in-9 : goal.overflow_add-first-in-9
overflow_add-first-in-9 c =
    let a = c in
    omega (arith, c.type_number-first-in-9.ensures, list9_within (lines_in a.args.t.now) a.requires.tabled.passed a.args.y a.requires.y_bound.0 (sym c.type_number-kind.ensures ∙ c.in-9.is) a.args.i a.requires.y_bound.1, args_few (lines_in a.args.t.now) a.requires.tabled.passed)

pub arg-requires-in-9-clause-i_bound : goal.arg-requires-in-9-clause-i_bound
arg-requires-in-9-clause-i_bound c =
    let a = c in omega (arith, c.type_number-first-in-9.ensures, list9_within (lines_in a.args.t.now) a.requires.tabled.passed a.args.y a.requires.y_bound.0 (sym c.type_number-kind.ensures ∙ c.in-9.is) a.args.i a.requires.y_bound.1)

pub returns-in-7 : goal.returns-in-7
returns-in-7 c = c.arrow_kid.ensures ∙ sym (kid_7 _ _ (sym c.type_number-kind.ensures ∙ c.in-7.is) _)

pub returns-in-8 : goal.returns-in-8
returns-in-8 c =
    let a = c in
    c.arg.ensures ∙ (ap (λ n. arg_of (lines_in a.args.t.now) (n + a.args.i)) c.type_number-first.ensures ∙ sym (kid_8 _ _ (sym c.type_number-kind.ensures ∙ c.in-8.is) _))

pub returns-in-9 : goal.returns-in-9
returns-in-9 c =
    let a = c in
    c.arg-in-9.ensures ∙ (ap (λ n. arg_of (lines_in a.args.t.now) (n + a.args.i)) c.type_number-first-in-9.ensures ∙ sym (kid_9 _ _ (sym c.type_number-kind.ensures ∙ c.in-9.is) _))

pub returns-in-11 : goal.returns-in-11
returns-in-11 c = c.type_number.ensures ∙ sym (kid_11 _ _ (sym c.type_number-kind.ensures ∙ c.in-11.is) _)

pub returns-in_default : goal.returns-in_default
returns-in_default c =
    let k = c.type_number-kind.ensures in
    let r = c.in_default.in_default-own.rest in
    c.type_number-in_default.ensures
    ∙ sym (kid_one _ _ _ (ne_eqb _ 7 (λ e. c.in_default.in_default-own.rest.0.0.0.1 (k ∙ e))) (ne_eqb _ 8 (λ e. c.in_default.in_default-own.rest.0.0.1 (k ∙ e))) (ne_eqb _ 9 (λ e. c.in_default.in_default-own.rest.0.1 (k ∙ e))) (ne_eqb _ 11 (λ e. c.in_default.in_default-own.rest.1 (k ∙ e))) refl _)
