-- Row 8 by what the search finds. Assumes nothing.
use Rattle.std.specs.Prelude.{◌≡◌, ℕ, ltb}
use Rattle.std.proofs.Math.Path.{ap}
use Rattle.std.proofs.Common.{sym, ◌∙◌}
use mathlib.Core.List.{List, [], ◌∷◌}
use Rattle.number_columns.specs.Column.{pick}
use Rattle.sheet.specs.Sheet.{first}
use Rattle.sheet.proofs.FirstLaws.{first_congr}
use Rattle.model.specs.Reach.{cyclic}
use Rattle.model.specs.Run.{layouts_of, unfold_next, returns}
use Rattle.meaning.specs.Program.{program}
use Rattle.meaning_laws.specs.Program.{length_program}
use Rattle.answer.specs.declared.Refusal.TheVariants.{Accepted, Refused}
use Rattle.answer.specs.Answer.{Row, refusal}
use Rattle.row4_limits.specs.Limits.{start}
use Rattle.table_access.specs.Tables.{decls_of}
use Rattle.set_search.specs.Loops.{First}
use Rattle.rows_heads.specs.HeadRows.{returns_row, row8_refusal}
use Rattle.sheet.specs.Line.{Line}

module _ (ls : List Line) (r : ℕ) (q q' : List ℕ) (f : First (unfold_next (program ls) (layouts_of (program ls))) (decls_of ls) r q q') where
  -- what is found is the first declaration that returns
  pub returns_first : r ≡ first (returns (program ls) (layouts_of (program ls))) (decls_of ls)
  unfolding returns
  returns_first =
      f.is
      ∙ first_congr (cyclic (unfold_next (program ls) (layouts_of (program ls))) (decls_of ls)) (returns (program ls) (layouts_of (program ls))) (decls_of ls)
      (λ i l. ap (λ (k : ℕ). cyclic (unfold_next (program ls) (layouts_of (program ls))) k i) (sym (length_program ls)))

  -- so row 8 refuses at its line, if there is one
  pub row8_told : (rs : List Row) → refusal (returns_row ls ∷ rs) ≡ pick (ltb r (decls_of ls)) (Refused 8 (start ls r)) (refusal rs)
  row8_told rs = row8_refusal ls rs r returns_first

  pub row8_alone : refusal (returns_row ls ∷ []) ≡ pick (ltb r (decls_of ls)) (Refused 8 (start ls r)) Accepted
  unfolding refusal
  row8_alone = row8_told []
