-- `number_readers::is_number` meets its contract: four spaces in front change nothing.
use Rattle.std.proofs.Common.{arith, sym, ◌∙◌}
use borrow.Author.Rules.{part_to_end}
use Rattle.number_columns.specs.Column.{read}
use Rattle.number_columns.specs.ColumnLaws.{scan_spaces}
use Rattle.number_readers.proofs.is_number.Goals as goal

pub returns-then-four_spaces : goal.returns-then-four_spaces
unfolding read
returns-then-four_spaces c =
    let s = c.args.s.now in
    rw (c.ends.ensures, c.scanned.ensures, part_to_end s 4, scan_spaces s (omega arith) (sym c.four_spaces.ensures ∙ c.if-four_spaces.true))

pub returns : goal.returns
unfolding read
returns c = rw (c.ends-2.ensures, c.scanned-2.ensures)
