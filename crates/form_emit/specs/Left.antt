-- What a type resolves to, by the declaration that it stands in. Assumes nothing.
use Rattle.std.specs.Prelude.{List, ℕ}
use Rattle.sheet.specs.Line.{Line}
use Rattle.model.specs.Cty.{Cty}
use Rattle.model.specs.Decl.{close}
use Rattle.model.specs.Resolve.{resolve}
use Rattle.model.specs.Run.{lay}
use Rattle.meaning.specs.Program.{program}
use Rattle.resolve_kids.specs.Nodes.{type_of}
use Rattle.resolve_kids.specs.Params.{params_of}

-- of Y line y's type in declaration d
abbrev pub left_type : List Line → ℕ → ℕ → Cty
left_type ls d y = resolve (lay (program ls)) 100 (close (params_of ls d) (type_of ls y))
