-- `sheet_writer::row_at` meets its contract: the row that comes back stands in the place of line i.
use Rattle.std.proofs.Common.{◌∙◌, ap, ◌+◌, ◌*◌, arith}
use Rattle.sheet.specs.Output.{put_at}
use Rattle.sheet.proofs.OutputLaws.{part_put}
use Rattle.sheet_writer.proofs.row_at.Goals as goal

pub returns : goal.returns
returns c =
    let a = c.args in
    part_put 6 a.out.now _ a.i (a.i * 32) (a.i * 32 + 32) (omega arith) (omega arith) ∙ ap (put_at 6 a.out.now a.i) c.put_row.ensures
