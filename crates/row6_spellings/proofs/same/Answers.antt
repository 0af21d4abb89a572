-- `row6_spellings::same` meets its contract: slices are compared byte by byte. The answer names no step of the code.
use Rattle.std.proofs.Common.{◌≡◌, refl, List, [], ◌∷◌, ℕ, arith}
use Rattle.std.proofs.lemmas.Grind.{common_steps}
use Rattle.std.specs.Prelude.{eqb}
use Rattle.std.specs.Cmp.Lexicographic.{pointwise}
use Rattle.meaning.specs.Rows.{equal}
use Rattle.row6_spellings.proofs.same.Goals as goal

bytes : (a b : List ℕ) → pointwise eqb a b ≡ equal a b
unfolding equal
bytes [] [] = refl
bytes [] (y ∷ b) = refl
bytes (x ∷ a) [] = refl
bytes (x ∷ a) (y ∷ b) = rw (bytes a b)

pub returns : goal.returns
returns c = grind (arith, common_steps, bytes)
