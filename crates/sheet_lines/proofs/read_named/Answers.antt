-- `sheet_lines::read_named` meets its contract, by the number and the text that it reads.
use Rattle.std.proofs.Common.{sym}
use Rattle.sheet_lines.specs.ShapeLaws.{decode_named_shape}
use Rattle.sheet_lines.proofs.read_named.Goals as goal

pub returns : goal.returns
returns c = rw (c.named_shape.ensures, c.cell.ensures, c.text_length-n.ensures) (sym (decode_named_shape 6 c.args.l.now))
