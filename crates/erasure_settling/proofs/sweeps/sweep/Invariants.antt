-- The declarations passed are as the round makes them, and those that it erased are counted.
use Rattle.std.proofs.Common.{◌≡◌, ◌+◌, ◌-◌, length}
use Rattle.model.specs.Erasure.{rule, sweep, round}
use Rattle.meaning.specs.Program.{program}
use Rattle.model_laws.specs.Lists.{trues}
use Rattle.table_access.specs.Tables.{lines_in}
use Rattle.erasure_marks.specs.Marks.{marks_of}
use Rattle.erasure_laws.specs.Rounds.{Running}
use Rattle.erasure_settling.proofs.sweeps.sweep.Given as goal

abbrev pub invariant-loop-d : goal.invariant-loop-d
invariant-loop-d l =
    record {
      running : Running (lines_in l.t) l.used l.decl l.node l.member l.field l.wait l.low;
      marks : sweep (rule (program (lines_in l.t))) (length l.fn.decl - l.d) l.d (marks_of l.decl) ≡ round (rule (program (lines_in l.t))) (marks_of l.fn.decl);
      counted : trues (marks_of l.decl) ≡ trues (marks_of l.fn.decl) + l.erased;
      still : l.erased ≡ 0 → marks_of l.decl ≡ marks_of l.fn.decl;
    }
