-- What the fields from F line i on add, the whole adds; and the counts are small.
use Rattle.std.proofs.Common.{◌+◌, ◌*◌, ◌≤◌, length, Option}
use Rattle.table_access.specs.Tables.{lines_in}
use Rattle.left_laws.specs.declared.Count.{Count}
use Rattle.left_count.specs.SumsLaws.{Rest}
use Rattle.left_count.proofs.types.count_fields.Given as goal

abbrev pub invariant-loop-i : goal.invariant-loop-i
invariant-loop-i l = record {
  args : l.r.args ≤ 1200000000 + 1024 * l.i;
  types : l.r.types ≤ 1200000000 + 1024 * l.i;
  lines : l.r.lines ≤ 800000000 + l.i;
  rest : (x : Option Count) → Rest (lines_in l.t) l.keep l.d l.i l.end (length l.fn.scratch) l.r x → Rest (lines_in l.t) l.keep l.d l.first l.end (length l.fn.scratch) l.fn.c x;
}
