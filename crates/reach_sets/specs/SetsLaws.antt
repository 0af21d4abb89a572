-- From the rows of steps, closed, to the reach index of the table's program. Assumes nothing.
use Rattle.std.specs.Prelude.{◌≡◌, List, ℕ, ◌*◌, ◌-◌, ◌≤◌, length}
use Rattle.std.proofs.Common.{◌∙◌, sym, subst, arith}
use Rattle.sheet.specs.Line.{Line}
use Rattle.meaning.specs.Program.{program}
use Rattle.meaning_laws.specs.Program.{length_program}
use Rattle.table_access.specs.Tables.{decls_of}
use Rattle.set_bits.specs.Bits.{cleared}
use Rattle.set_search.specs.Search.{Steps}
use Rattle.set_search.specs.SearchLaws.{Holds, holds_steps}
use Rattle.set_closure.specs.Closure.{Closed}
use Rattle.answer_reach.specs.Index.{decl_next}
use Rattle.answer_reach.specs.Given.{IndexOf}
use Rattle.reach_laws.specs.IndexLaws.{index_of}
use Rattle.reach_rows.specs.Steps.{Stepped}

module _ (ls : List Line) (s t : List ℕ) (h : Stepped ls 2 s t) (n : ℕ) (e : n ≡ decls_of ls) where
  -- the rows can be closed,
  pub steps_of : Steps n 2 t
  steps_of = subst (λ (k : ℕ). Steps k 2 t) (sym e) (holds_steps (decl_next (program ls)) (decls_of ls) 2 t h.holds)

  -- and closed they are the index, where the words behind them are cleared
  pub index_told : (t' : List ℕ) → Closed n 2 t t' → length s ≡ 192 → n ≤ 96 → IndexOf 96 2 (program ls) (cleared t' (n * 2) (192 - n * 2))
  index_told t' c long few =
      let l : n ≡ length (program ls) = e ∙ sym (length_program ls) in
      subst (λ (k : ℕ). IndexOf 96 2 (program ls) (cleared t' (k * 2) (192 - k * 2))) (sym l)
      (index_of (program ls) 2 t t' (subst (λ (k : ℕ). Holds (decl_next (program ls)) k 2 t) (sym (length_program ls)) h.holds) (subst (λ (k : ℕ). Closed k 2 t t') l c) 96 (omega (arith, l, few)) (c.same ∙ (h.long ∙ long)))
