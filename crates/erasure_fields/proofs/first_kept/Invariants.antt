-- The fields passed are erased.
use Rattle.std.proofs.Common.{◌≡◌, ◌≤◌, ◌<◌, ℕ, true}
use Rattle.table_access.specs.Tables.{lines_in}
use Rattle.erasure_marks.specs.Marks.{marks_of, type_erased, Marks}
use Rattle.erasure_laws.specs.Bodies.{field_type}
use Rattle.erasure_fields.proofs.first_kept.Given as goal

abbrev pub invariant-loop-f : goal.invariant-loop-f
invariant-loop-f l =
    record {
      marks : Marks (lines_in l.t) (marks_of l.decl) l.node l.member l.low;
      passed : (i : ℕ) → l.from ≤ i → i < l.f → type_erased (lines_in l.t) (marks_of l.decl) (field_type (lines_in l.t) i) ≡ true;
    }
