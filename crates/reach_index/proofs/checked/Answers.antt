-- `reach_index::checked` meets its contract, by the refusal of the input's rows.
use Rattle.std.proofs.Common.{◌≡◌, List, ℕ, refl, sym, ◌∙◌, arith}
use Rattle.sheet.specs.Format.{base}
use Rattle.answer.specs.declared.Refusal.{Refusal}
use Rattle.answer.specs.declared.Refusal.TheVariants.{Accepted, Refused}
use Rattle.answer.specs.Answer.{refusal}
use Rattle.answer_patterns.specs.Whole.{input_rows}
use Rattle.reach_index.specs.Indexing.{Finds}
use Rattle.reach_index.specs.IndexingLaws.{tabled_of, finds_all, finds_refused}
use Rattle.reach_index.proofs.checked.Goals as goal

pub slice_bounds-taken-end : goal.slice_bounds-taken-end
slice_bounds-taken-end c =
    let p = (c.decide-d.ensures.accepts c.in-Accepted.is).parts in
    omega (arith, p.table_room, p.inside, p.tail_room)

pub taken-requires : goal.taken-requires
taken-requires c = (tabled_of _ _ _ _ _ c.decide-d.result (c.decide-d.ensures.accepts c.in-Accepted.is), c.requires.2)

pub returns : goal.returns
returns c =
    let told = c.in-Accepted.is in
    finds_all _ _ _ _ _ c.decide-d.result (c.decide-d.ensures.accepts told) c.args.sets.now _ _ (sym told ∙ c.decide-d.ensures.answer) c.taken.ensures

refused : (b s names : List ℕ) (r : Refusal) → (r ≡ Accepted → ⊥) → refusal (input_rows base b) ≡ r → Finds b s (record { refusal = r; decls = 0 }) s names
refused b s names Accepted n e = absurd (n refl)
refused b s names (Refused code place) n e = finds_refused b s names code place e

pub returns-in_default : goal.returns-in_default
returns-in_default c = refused c.args.s.now c.args.sets.now _ c.decide-d.result.refusal c.in_default.not-Accepted (sym c.decide-d.ensures.answer)
