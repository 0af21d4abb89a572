-- `set_bits::has` meets its contract. Assumes nothing.
use mathlib.Core.Path.{refl}
use Rattle.set_bits.specs.Bits.{has}
use borrow.Author.Rules.{rules}
use Rattle.set_bits.proofs.has.Statement.{statement}
use Rattle.set_bits.proofs.has.Tie as tie

returns : tie.Need-returns
unfolding has
returns c = refl

pub has_spec : {M : Type 1} → statement M
has_spec = tie.close (tie.spec (λ c. search rules) (λ c. search rules) (λ c. search rules) (λ c. search rules) returns)
