-- `sheet_lines::read_row` meets its contract, at the first columns that hold no number, or where all do.
use Rattle.std.proofs.Common.{◌≡◌, arith, sym, ◌∙◌}
use Rattle.sheet_lines.specs.ShapeLaws.{decode_row_row, decode_row_bad}
use Rattle.sheet_lines.proofs.read_row.Goals as goal

pub returns-then-not-has_number : goal.returns-then-not-has_number
returns-then-not-has_number c = sym (decode_row_bad 6 _ c.loop-k.k (omega arith) (sym c.has_number.ensures ∙ c.if-not-has_number.true))

pub returns : goal.returns
returns c =
    let e : c.loop-k.k ≡ 5 = omega arith in
    sym (decode_row_row 6 _ (rw e at c.loop-k.invariant))
