-- `form_node_words::own_word` meets its contract, kind by kind. Assumes nothing.
use mathlib.Core.Path.{◌∙◌}
use borrow.Author.Rules.{rules}
use borrow.Author.Tests.{ne_eqb}
use Rattle.form_node_words.specs.Own.{y_count, y_own, y_node}
use Rattle.form_node_words.proofs.own_word.Statement.{statement}
use Rattle.form_node_words.proofs.own_word.Tie as tie

returns : tie.Need-returns-in-4
unfolding y_count y_own y_node
returns c = c.pack.ensures ∙ rw (← c.type_number-k.ensures, c.in-4.is, ← c.type_number-a.ensures, ← c.type_number-b.ensures)

returns-2 : tie.Need-returns-in-5
unfolding y_count y_own y_node
returns-2 c = c.pack-in-5.ensures ∙ rw (← c.type_number-k.ensures, c.in-5.is, ← c.type_number-a.ensures)

returns-3 : tie.Need-returns-in-6
unfolding y_count y_own y_node
returns-3 c = c.pack-in-6.ensures ∙ rw (← c.type_number-k.ensures, c.in-6.is, ← c.type_number-a.ensures)

returns-4 : tie.Need-returns-in-7
unfolding y_count y_own y_node
returns-4 c = c.pack-in-7.ensures ∙ rw (← c.type_number-k.ensures, c.in-7.is, ← c.type_number-b.ensures)

returns-5 : tie.Need-returns-in-9
unfolding y_count y_own y_node
returns-5 c = c.pack-in-9.ensures ∙ rw (← c.type_number-k.ensures, c.in-9.is, ← c.type_number-b.ensures)

returns-6 : tie.Need-returns-in-10
unfolding y_count y_own y_node
returns-6 c = c.pack-in-10.ensures ∙ rw (← c.type_number-k.ensures, c.in-10.is)

returns-7 : tie.Need-returns-in-11
unfolding y_count y_own y_node
returns-7 c = c.pack-in-11.ensures ∙ rw (← c.type_number-k.ensures, c.in-11.is, ← c.type_number-a.ensures)

returns-8 : tie.Need-returns-in-12
unfolding y_count y_own y_node
returns-8 c = c.pack-in-12.ensures ∙ rw (← c.type_number-k.ensures, c.in-12.is)

returns-9 : tie.Need-returns-in_default
unfolding y_count y_own y_node
returns-9 c =
    let r = c.in_default.in_default-own.rest in
    c.pack-in_default.ensures ∙ rw (← c.type_number-k.ensures, ne_eqb _ 4 c.in_default.in_default-own.rest.0.0.0.0.0.0.0.1, ne_eqb _ 5 c.in_default.in_default-own.rest.0.0.0.0.0.0.1, ne_eqb _ 6 c.in_default.in_default-own.rest.0.0.0.0.0.1, ne_eqb _ 7 c.in_default.in_default-own.rest.0.0.0.0.1, ne_eqb _ 9 c.in_default.in_default-own.rest.0.0.0.1, ne_eqb _ 10 c.in_default.in_default-own.rest.0.0.1, ne_eqb _ 11 c.in_default.in_default-own.rest.0.1, ne_eqb _ 12 c.in_default.in_default-own.rest.1)

pub own_word_spec : {M : Type 1} → statement M
own_word_spec =
    tie.close
    (tie.spec
    (λ c κs. search rules)
    (λ c κs. search rules)
    (λ c κs. search rules)
    (λ c κs. search rules)
    (λ c κs. search rules)
    (λ c κs. search rules)
    (λ c κs. search rules)
    (λ c κs. search rules)
    (λ c κs. search rules)
    (λ c κs. search rules)
    (λ c κs. search rules)
    (λ c κs. search rules)
    returns
    returns-2
    returns-3
    returns-4
    returns-5
    returns-6
    returns-7
    returns-8
    returns-9)
