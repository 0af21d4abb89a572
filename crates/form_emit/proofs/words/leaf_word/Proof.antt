-- `form_emit::words::leaf_word` meets its contract: a variable or a node of its own. Assumes nothing.
use mathlib.Core.Path.{sym, ◌∙◌}
use borrow.Author.Rules.{rules}
use Rattle.form_emit.specs.Filling.{leaf_var, leaf_own}
use Rattle.form_emit.proofs.words.leaf_word.Statement.{statement}
use Rattle.form_emit.proofs.words.leaf_word.Tie as tie

returns : tie.Need-returns-then-k-eq3
returns c =
    leaf_var _ _ _ _ _ _ (sym c.type_number-k.ensures ∙ c.if-k-eq3.true) c.type_number-v.ensures c.variable_word.ensures

returns-2 : tie.Need-returns
returns-2 c = leaf_own _ _ _ _ _ (λ e. c.if-k-eq3.false (c.type_number-k.ensures ∙ e)) c.own_word.ensures

pub leaf_word_spec : {M : Type 1} → statement M
leaf_word_spec =
    tie.close
    (tie.spec
    (λ c κs. search rules)
    (λ c κs. search rules)
    (λ c κs. search rules)
    returns
    (λ c κs. search rules)
    returns-2)
