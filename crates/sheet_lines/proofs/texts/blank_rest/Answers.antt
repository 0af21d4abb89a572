-- `sheet_lines::texts::blank_rest` meets its contract: each byte is a space.
use Rattle.std.proofs.Common.{rules}
use Rattle.sheet_lines.specs.TextLaws.{spaces_each}
use Rattle.sheet_lines.proofs.texts.blank_rest.Goals as goal

pub returns : goal.returns
returns c = spaces_each _ _ (search rules)
