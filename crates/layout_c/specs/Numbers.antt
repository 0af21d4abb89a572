-- What a call gives, its numbers one behind the other. Assumes nothing.
use Rattle.std.specs.Prelude.{◌≡◌, List, ℕ, length, set}
use Rattle.std.proofs.Common.{◌∙◌, ap}
use Rattle.sheet.specs.Format.{base}
use Rattle.answer.specs.Answer.{Given}
use Rattle.answer_patterns.specs.Whole.{called, answer}
use Rattle.answer_built.specs.declared.Built.{Built}
use Rattle.answer_built.specs.Built.{Gives}

-- code, place and rounds in the cells of a, which a' is afterwards, and what the outputs hold
pub record Told (b v l a a' v' l' : List ℕ) : Type 0 where
  pub numbers : a' ≡ set (set (set a 0 (called base b v l).code) 1 (called base b v l).place) 2 (called base b v l).rounds
  pub verdict : v' ≡ (called base b v l).verdict_output
  pub left : l' ≡ (called base b v l).left_output

-- and the lengths of both sheets
pub record ToldSized (b v l a a' v' l' : List ℕ) : Type 0 where
  pub numbers :
      a' ≡ set (set (set (set (set a 0 (called base b v l).code) 1 (called base b v l).place) 2 (called base b v l).rounds) 3 (length (answer base b (length v) (length l)).verdict)) 4 (length (answer base b (length v) (length l)).left)
  pub verdict : v' ≡ (called base b v l).verdict_output
  pub left : l' ≡ (called base b v l).left_output

module _ (b v l : List ℕ) (r : Built) (v' l' : List ℕ) (g : Gives b v l r v' l') (a : List ℕ) where
  numbers_set : set (set (set a 0 r.code) 1 r.place) 2 r.rounds ≡ set (set (set a 0 (called base b v l).code) 1 (called base b v l).place) 2 (called base b v l).rounds
  numbers_set = ap (λ (x : Given). set (set (set a 0 x.code) 1 x.place) 2 x.rounds) g.is_called

  pub told : Told b v l a (set (set (set a 0 r.code) 1 r.place) 2 r.rounds) v' l'
  told =
      record {
        numbers = numbers_set;
        verdict = ap (λ (x : Given). x.verdict_output) g.is_called;
        left = ap (λ (x : Given). x.left_output) g.is_called;
      }

  pub told_sized : ToldSized b v l a (set (set (set (set (set a 0 r.code) 1 r.place) 2 r.rounds) 3 r.verdict) 4 r.left) v' l'
  told_sized =
      record {
        numbers = ap (λ (c : List ℕ). set (set c 3 r.verdict) 4 r.left) numbers_set ∙ rw (g.verdict_length, g.left_length);
        verdict = told.verdict;
        left = told.left;
      }
