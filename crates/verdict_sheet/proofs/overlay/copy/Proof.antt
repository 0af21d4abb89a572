-- `overlay::copy` meets its contract: the part that comes back is the sheet. Assumes nothing.
use mathlib.Core.Path.{ap₂}
use mathlib.Core.List.{List, ◌++◌}
use Prim.Native.Nat.{ℕ}
use native.Mathlib.Omega.{arith}
use lib.ListN.{length}
use borrow.Rule.Slice.PartMut.{Post-is}
use borrow.Author.Rules.{rules}
use Rattle.verdict_sheet.proofs.overlay.copy.Statement.{statement}
use Rattle.verdict_sheet.proofs.overlay.copy.Tie as tie

-- src/lib.rt:119:23
sub-copy-lines : tie.Need-slice_bounds-copy_lines-count
sub-copy-lines c = search rules

-- src/lib.rt:119:23
part-copy-lines-start : tie.Need-slice_bounds-copy_lines-start
part-copy-lines-start c = search rules

-- src/lib.rt:119:23
part-copy-lines-end : tie.Need-slice_bounds-copy_lines-end
part-copy-lines-end c = search rules

-- src/lib.rt:119:5
copy-lines-requires : tie.Need-copy_lines-requires
copy-lines-requires c κs = search rules

-- src/lib.rt:114:1
same_length : tie.Need-shape_of-out
same_length c = search rules

-- src/lib.rt:114:1
returns : tie.Need-returns
returns c =
    let a = c.args in
    ap₂ (λ (x y : List ℕ). x ++ y) c.copy_lines.ensures (Post-is 0 (length a.s.now) a.out.now (omega arith))

pub copy_spec : {M : Type 1} → statement M
copy_spec =
    tie.close
    (tie.spec
    sub-copy-lines
    part-copy-lines-start
    part-copy-lines-end
    copy-lines-requires
    same_length
    returns)
