-- The length of a name's text. Assumes nothing.
use Rattle.std.specs.Prelude.{List, ℕ, length}
use Rattle.number_columns.specs.Column.{pick}
use Rattle.sheet.specs.Line.{proper, spelling}

-- 0 where the text is not proper
unfoldable pub text_length : List ℕ → ℕ
text_length t = pick (proper t) (length (spelling t)) 0
