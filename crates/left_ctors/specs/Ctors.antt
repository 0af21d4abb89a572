-- The constructors that are left of a declaration, by its C and F lines. Assumes nothing.
use Rattle.std.specs.Prelude.{List, map, ℕ, ◌+◌, ◌≤◌}
use Rattle.sheet.specs.Line.{Line}
use Rattle.model.specs.Decl.{Ctor}
use Rattle.meaning.specs.Program.{ctor_line}
use Rattle.meaning.specs.Rows.{count_of}
use Rattle.resolve_kids.specs.Params.{params_of}
use Rattle.keep_layouts.specs.Kept.{ctor_name, ctor_fields, ctors_by}
use Rattle.keep_laws.specs.KeptLaws.{fields_in}
use Rattle.left_fields.specs.Fields.{left_of, left_fields, Fields}

-- a constructor with its fields resolved
abbrev pub ctor_left : List Line → Ctor → Ctor
ctor_left ls c = record { ct_name = c.ct_name; ct_fields = map (left_of ls) c.ct_fields }

-- C line c of declaration d, its F lines from line i on
abbrev pub left_ctor : List Line → List ℕ → ℕ → ℕ → ℕ → Ctor
left_ctor ls keep d c i = record { ct_name = ctor_name ls c; ct_fields = left_fields ls keep d i (ctor_fields ls c) }

-- the k constructors from C line c on
abbrev pub left_ctors : List Line → List ℕ → ℕ → ℕ → ℕ → ℕ → List Ctor
left_ctors ls keep d c i k = map (ctor_left ls) (ctors_by ls keep (params_of ls d) c i k)

-- The k C lines from line c on of declaration d can be written with their fields, from F line i on.
pub record Ctors (ls : List Line) (t u f keep : List ℕ) (d c i k n : ℕ) : Type 0 where
  pub inside : c + k ≤ count_of ctor_line ls
  pub fields : Fields ls t u f keep d i (i + fields_in ls c k) n
