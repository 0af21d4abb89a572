-- `form_emit::words::left_word` meets its contract: a case for each of the word's two readings. Assumes nothing.
use borrow.Author.Rules.{rules}
use Rattle.form_emit.specs.Filling.{left_3, left_other}
use Rattle.form_emit.proofs.words.left_word.Statement.{statement}
use Rattle.form_emit.proofs.words.left_word.Tie as tie

returns : tie.Need-returns-then-k-eq3
returns c = left_3 _ _ _ c.kind-k.ensures c.if-k-eq3.true c.pack.ensures

returns-2 : tie.Need-returns
returns-2 c =
    left_other _ _ _ _ _ c.kind-k.ensures c.count.ensures c.own.ensures c.if-k-eq3.false c.pack-2.ensures

pub left_word_spec : {M : Type 1} → statement M
left_word_spec =
    tie.close
    (tie.spec
    (λ c κs. search rules)
    (λ c κs. search rules)
    returns
    (λ c κs. search rules)
    (λ c κs. search rules)
    (λ c κs. search rules)
    returns-2)
