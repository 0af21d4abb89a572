-- Before declaration d the forms of rank r are there, and d is the next of rank r, or the end.
use Rattle.std.proofs.Common.{◌≡◌, ◌-◌, ◌≤◌, ◌<◌, length, get_or}
use Rattle.table_access.specs.Tables.{lines_in}
use Rattle.form_normal.specs.Tables.{Table}
use Rattle.form_normal.specs.Ranks.{Done}
use Rattle.form_ranks.proofs.forms_of_rank.Given as goal

abbrev pub invariant-loop-d : goal.invariant-loop-d
invariant-loop-d l =
    record {
      below : l.d ≤ l.end;
      same : length l.f ≡ length l.initial.f;
      found : l.d < l.end → get_or l.rank l.d 0 ≡ l.r;
      done : Table (lines_in l.t) l.u l.f l.p (Done (lines_in l.t) l.u l.rank l.r l.d);
    }

abbrev pub decreases-loop-d : goal.decreases-loop-d
decreases-loop-d l = l.end - l.d
