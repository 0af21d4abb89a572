-- The verdicts on declarations, one after the other. Assumes nothing.
use Rattle.std.specs.Prelude.{◌≡◌, List, false, ℕ, ◌≤◌, ◌<◌, length, get_or}
use Rattle.sheet.specs.Line.{Line}
use Rattle.model.specs.Erasure.{erasure_fixpoint}
use Rattle.model.specs.Layout.{layout_of_body}
use Rattle.model.specs.Run.{layout_of_decl}
use Rattle.meaning.specs.Program.{program}
use Rattle.table_access.specs.Tables.{decls_of}
use Rattle.keep_layouts.specs.Kept.{ctors_at}
use Rattle.keep_layouts.specs.declared.Verdict.{Verdict}
use Rattle.keep_layouts.specs.Layouts.{no_verdict}
use Rattle.collapse_candidates.specs.Candidates.{candidate_of}
use Rattle.collapse_verdicts.specs.Guard.{dropped_of}
use Rattle.collapse_verdicts.specs.Chosen.{Chosen}
use Rattle.model.specs.Decl as decl

-- declaration d by its body, where it is not erased
abbrev pub of_body : List Line → ℕ → decl.Layout
of_body ls d = layout_of_body (decl.dtype_at (program ls) d).dt_body (dropped_of ls d) (candidate_of ls d) (ctors_at (program ls) d)

-- the first n declarations have their verdicts
pub record Partly (ls : List Line) (vs : List Verdict) (n : ℕ) : Type 0 where
  pub long : decls_of ls ≤ length vs
  pub marks : (d : ℕ) → d < n → d < decls_of ls → (get_or vs d no_verdict).erased ≡ get_or (erasure_fixpoint (program ls)).marks d false
  pub chosen : (d : ℕ) → d < n → d < decls_of ls → Chosen ls d (layout_of_decl (program ls) d) (get_or vs d no_verdict).layout
