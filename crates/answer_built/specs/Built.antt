-- What a call of the build gives, in the terms of the answer. Assumes nothing.
use Rattle.std.specs.Prelude.{◌≡◌, List, ℕ, ◌≤◌, length, Option, Some, None}
use Rattle.sheet.specs.Format.{base}
use Rattle.answer.specs.Answer as front
use Rattle.answer.specs.Answer.{Given}
use Rattle.answer_patterns.specs.Whole.{called, answer}
use Rattle.answer_built.specs.declared.Built.{Built}

abbrev pub refused_as : ℕ → ℕ → Built
refused_as code place = record { code = code; place = place; rounds = 0; verdict = 0; left = 0 }

-- code, place and rounds, and what the outputs hold afterwards
abbrev pub given : Built → List ℕ → List ℕ → Given
given r v l = record { code = r.code; place = r.place; rounds = r.rounds; verdict_output = v; left_output = l }

-- A call with the sheet b and outputs that hold v and l gives r, and leaves v' and l' in the outputs: all that `called` says, which is
-- the relation of `Call` (`answer_patterns`, Cut), and the lengths of what was written.
pub record Gives (b v l : List ℕ) (r : Built) (v' l' : List ℕ) : Type 0 where
  pub is_called : given r v' l' ≡ called base b v l
  pub verdict_length : r.verdict ≡ length (answer base b (length v) (length l)).verdict
  pub left_length : r.left ≡ length (answer base b (length v) (length l)).left

-- The same of the declarations alone, a sheet without Q lines; its place leaves room for the length of what may follow them.
pub record GivesFront (b v l : List ℕ) (r : Built) (v' l' : List ℕ) : Type 0 where
  pub is_called : given r v' l' ≡ front.called base b v l
  pub verdict_length : r.verdict ≡ length (front.answer base b (length v) (length l)).verdict
  pub left_length : r.left ≡ length (front.answer base b (length v) (length l)).left
  pub small : r.place ≤ 1000000000000

-- The same where there was room; else nothing is written, and so little room there was.
pub record Tries (Short : Type 0) (b v l : List ℕ) (r : Option Built) (v' l' : List ℕ) : Type 0 where
  pub gives : (x : Built) → r ≡ Some x → GivesFront b v l x v' l'
  pub verdict_kept : r ≡ None → v' ≡ v
  pub left_kept : r ≡ None → l' ≡ l
  pub short : r ≡ None → Short
