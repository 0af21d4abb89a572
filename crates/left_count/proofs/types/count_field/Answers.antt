-- `left_count::types::count_field` meets its contract: a type, and a line. Assumes nothing.
use Rattle.std.proofs.Common.{ℕ, [], ◌∷◌, subst, length, Some}
use Rattle.table_access.specs.Tables.{lines_in}
use Rattle.left_count.specs.Sums.{Added}
use Rattle.left_count.specs.SumsLaws.{added_lines, added_more, one_skip, one_kept}
use Rattle.left_count.proofs.types.count_field.Goals as goal

pub returns-then-keep-i-ne1 : goal.returns-then-keep-i-ne1
returns-then-keep-i-ne1 c = let a = c.args in one_skip (lines_in a.t.now) a.keep.now a.d a.i (length a.scratch.now) a.c c.if-keep-i-ne1.true

pub returns : goal.returns
returns c =
    let a = c.args in
    let l = c.add_lines in
    one_kept (lines_in a.t.now) a.keep.now a.d a.i (length a.scratch.now) a.c (Some l.result) c.if-keep-i-ne1.false
    (subst (λ (y : ℕ). Added (lines_in a.t.now) a.d (y ∷ []) 1 (length a.scratch.now) a.c (Some l.result)) c.field_number-y.ensures
    (added_more (lines_in a.t.now) a.d (_ ∷ []) [] 0 1 (length a.scratch.now) a.c _ (Some l.result) c.in_ok-r.ensures
    (added_lines (lines_in a.t.now) a.d 1 (length a.scratch.now) _ l.result l.ensures.0 l.ensures.1 l.ensures.2)))
