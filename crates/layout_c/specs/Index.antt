-- What a call that asks for the reach index gives, its numbers one behind the other. Assumes nothing.
use Rattle.std.specs.Prelude.{◌≡◌, List, ℕ, set}
use Rattle.std.proofs.Common.{ap, ◌∙◌, subst}
use Rattle.sheet.specs.Format.{base}
use Rattle.answer.specs.declared.Refusal.{Refusal}
use Rattle.answer.specs.declared.Refusal.TheVariants.{Accepted, Refused}
use Rattle.answer_reach.specs.Given.{input_refusal, Indexes}

-- code and place of a refusal, 0 and 0 of an acceptance
abbrev pub code_in : Refusal → ℕ
code_in Accepted = 0
code_in (Refused code place) = code

abbrev pub place_in : Refusal → ℕ
place_in Accepted = 0
place_in (Refused code place) = place

-- code and place in the cells of a, which a' is afterwards, and what the words hold
pub record ToldIndex (b s a a' s' : List ℕ) : Type 0 where
  pub numbers : a' ≡ set (set a 0 (code_in (input_refusal base b))) 1 (place_in (input_refusal base b))
  pub indexes : Indexes base 2 b s (input_refusal base b) s'

pub told_index : (b s : List ℕ) (r : Refusal) (s' : List ℕ) → Indexes base 2 b s r s' → (a : List ℕ) (x y : ℕ) → x ≡ code_in r → y ≡ place_in r → ToldIndex b s a (set (set a 0 x) 1 y) s'
told_index b s r s' i a x y e f =
    record {
      numbers = rw (e ∙ ap code_in i.answer, f ∙ ap place_in i.answer);
      indexes = subst (λ (q : Refusal). Indexes base 2 b s q s') i.answer i;
    }
