-- `reach_index::reach_lines` meets its contract, by the refusal.
use Rattle.std.proofs.Common.{◌≡◌, List, ℕ, refl, arith}
use Rattle.sheet.specs.Format.{base}
use Rattle.answer.specs.declared.Refusal.{Refusal}
use Rattle.answer.specs.declared.Refusal.TheVariants.{Accepted, Refused}
use Rattle.answer.specs.Answer.{refusal}
use Rattle.answer_patterns.specs.Whole.{input_rows}
use Rattle.answer_reach.specs.Given.{Lists}
use Rattle.reach_index.specs.IndexingLaws.{lists_all, lists_refused}
use Rattle.reach_index.proofs.reach_lines.Goals as goal

pub put_lines-requires : goal.put_lines-requires
put_lines-requires c =
    let f = c.found-r.ensures.few in
    record { few = f; words = omega (arith, f, c.found-r.auto.sets); cells = omega (arith, f, c.found-r.auto.names); fits = omega (arith, f, c.requires) }

pub overflow_mul-result : goal.overflow_mul-result
overflow_mul-result c = omega (arith, c.found-r.ensures.few)

pub returns : goal.returns
returns c = lists_all c.args.s.now _ c.found-r.result _ _ c.found-r.ensures c.in-Accepted.is c.args.out.now _ _ refl c.put_lines.ensures

refused : (b o : List ℕ) (r : Refusal) → (r ≡ Accepted → ⊥) → r ≡ refusal (input_rows base b) → Lists base b o (record { refusal = r; length = 0 }) o
refused b o Accepted n e = absurd (n refl)
refused b o (Refused code place) n e = lists_refused b o code place e

pub returns-in_default : goal.returns-in_default
returns-in_default c = refused c.args.s.now c.args.out.now c.found-r.result.refusal c.in_default.not-Accepted c.found-r.ensures.indexes.answer
