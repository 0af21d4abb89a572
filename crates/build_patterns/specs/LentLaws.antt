-- What the outputs' functions are lent. Assumes nothing.
use Rattle.std.specs.Prelude.{List, ℕ, ◌≤◌, length}
use Rattle.std.proofs.Common.{arith}
use Rattle.sheet.specs.Format.{base}
use Rattle.table_declared.specs.PassedLaws.{decls_within}
use Rattle.table_access.specs.Tables.{lines_in}
use Rattle.rows_heads.specs.HeadRows.{resolvable}
use Rattle.build_sheets.specs.Sheets.{Lent}
use Rattle.input_rows.specs.Judging.{Clear}

module _ (b t u rank keep : List ℕ) (c : Clear b t u rank keep) where
  pub lent_of : (v : List ℕ) → length b ≤ length v → Lent b t u rank keep v 98496 1024 1024
  lent_of v h =
      record {
        of = c.read.of;
        accepted = c.accepted;
        ranked = c.found.ranked;
        settled = c.found.settled;
        slotted = c.found.slotted;
        resolvable = resolvable base (lines_in t) c.found.eight c.found.faults;
        keeps = c.found.keeps;
        verdict_room = h;
        cells = omega (arith, decls_within base (lines_in t) c.read.of.bounded);
        small = omega arith;
        stacked = omega arith;
      }
