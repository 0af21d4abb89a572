-- The payload that a field becomes where its type is a newtype. Assumes nothing.
use Rattle.std.specs.Prelude.{◌≡◌, List, ℕ, ◌<◌}
use Rattle.sheet.specs.Line.{Line}
use Rattle.model.specs.Cty.{uninline}
use Rattle.meaning.specs.Program.{type_line}
use Rattle.meaning.specs.Rows.{count_of}
use Rattle.resolve_kids.specs.Nodes.{type_of}
use Rattle.keep_layouts.specs.Kept.{field_type}

-- Y line y has the type of F line f, less one outer `TInline` (FORMAT, section 6.4).
pub record Payload (ls : List Line) (f y : ℕ) : Type 0 where
  pub inside : y < count_of type_line ls
  pub type : type_of ls y ≡ uninline (type_of ls (field_type ls f))
