-- `row6_spellings::text` meets its contract: the part lent is where line i has its text. Assumes nothing.
use mathlib.Core.Path.{sym}
use native.Mathlib.Nat.{add-sub_cancel_left, mul_comm}
use borrow.Author.Rules.{rules}
use Rattle.row6_spellings.specs.SpellingsLaws.{text_at_part}
use Rattle.row6_spellings.proofs.text.Statement.{statement}
use Rattle.row6_spellings.proofs.text.Tie as tie

returns : tie.Need-returns
returns c =
    let a = c.args in
    rw (add-sub_cancel_left, mul_comm a.i 32) (sym (text_at_part 6 a.s.now a.i))

pub text_spec : {M : Type 1} → statement M
text_spec =
    tie.close
    (tie.spec
    (λ c. search rules)
    (λ c. search rules)
    (λ c. search rules)
    (λ c. search rules)
    (λ c. search rules)
    (λ c. search rules)
    returns)
