-- `sheet_parts::line_bytes` meets its contract: the part lent is line i. Assumes nothing.
use native.Mathlib.Nat.{add-sub_cancel_left, mul_comm}
use native.Mathlib.Omega.{arith}
use lib.ListN.{length-take, length-drop}
use Rattle.sheet.specs.Sheet.{line_at}
use Rattle.sheet.proofs.SheetLaws.{within_count}
use Rattle.sheet_parts.proofs.line_bytes.Goals as goal

pub returns : goal.returns
unfolding line_at
returns c =
    let a = c in (
      simp (add-sub_cancel_left, mul_comm a.args.i),
      simp (add-sub_cancel_left, length-take, length-drop) (omega (arith, within_count 6 a.args.s.now a.args.i a.requires)),
    )
