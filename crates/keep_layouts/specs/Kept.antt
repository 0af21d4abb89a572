-- What a declaration keeps, by its lines: each constructor with those of its fields that the keep table keeps. Assumes nothing.
use Rattle.std.specs.Prelude.{List, [], ◌∷◌, ℕ, zero, suc, ◌+◌, eqb, get_or, Bool}
use Rattle.number_columns.specs.Column.{pick, ◌⇒◌∥◌}
use Rattle.sheet.specs.Line.{Line, number}
use Rattle.model.specs.Decl.{Field, Ctor, Dtype, CtorLayout, Origin, here, imported, Decl, dtype_at, origin_at, close}
use Rattle.model.specs.Erasure.{marked, erasure_fixpoint}
use Rattle.model.specs.Layout.{ctor_layouts}
pub use Rattle.model.specs.Layout.{kept_ctor}
use Rattle.meaning.specs.Program.{ctor_line, field_line}
use Rattle.table_access.specs.Tables.{nth, head_line, first_of}
use Rattle.resolve_kids.specs.Nodes.{type_of}
use Rattle.resolve_kids.specs.Params.{params_of}

-- the layouts of a declaration's constructors: by its types, and an import's by its lines
unfoldable pub ctors_of_decl : (ℕ → Bool) → Dtype → Origin → List CtorLayout
ctors_of_decl er d here = ctor_layouts er d
ctors_of_decl er d (imported ti) = ti.ti_ctors

-- of declaration d, where the marks are those of the rounds
abbrev pub ctors_at : List Decl → ℕ → List CtorLayout
ctors_at ds d = ctors_of_decl (marked ds (erasure_fixpoint ds).marks) (dtype_at ds d) (origin_at ds d)

-- the body kind of declaration d, and its last number
abbrev pub body_kind : List Line → ℕ → ℕ
body_kind ls d = number (head_line ls d) 2

abbrev pub body_last : List Line → ℕ → ℕ
body_last ls d = number (head_line ls d) 4

-- F line f: its type, and the field that it declares, closed by the parameters
abbrev pub field_type : List Line → ℕ → ℕ
field_type ls f = number (nth field_line ls f) 1

unfoldable pub field_at : List Line → List ℕ → ℕ → Field
field_at ls ps f = record { fd_name = number (nth field_line ls f) 0; fd_type = close ps (type_of ls (field_type ls f)) }

-- C line c: its name and its count of fields
abbrev pub ctor_name : List Line → ℕ → ℕ
ctor_name ls c = number (nth ctor_line ls c) 0

abbrev pub ctor_fields : List Line → ℕ → ℕ
ctor_fields ls c = number (nth ctor_line ls c) 1

module _ (ls : List Line) (keep ps : List ℕ) where
  -- the kept ones of the n F lines from line f on
  unfoldable pub fields_by : ℕ → ℕ → List Field
  fields_by f zero = []
  fields_by f (suc n) = let r : List Field = fields_by (suc f) n in pick (eqb (get_or keep f 0) 1) (field_at ls ps f ∷ r) r

  -- the k constructors from C line c on, whose F lines begin with line f
  unfoldable pub ctors_by : ℕ → ℕ → ℕ → List Ctor
  ctors_by c f zero = []
  ctors_by c f (suc k) =
      record { ct_name = ctor_name ls c; ct_fields = fields_by f (ctor_fields ls c) } ∷ ctors_by (suc c) (f + ctor_fields ls c) k

-- the constructors of declaration d, a record counting as one
unfoldable pub ctors_kept : List Line → List ℕ → ℕ → List Ctor
ctors_kept ls keep d =
    eqb (body_kind ls d) 2 ⇒ record { ct_name = number (head_line ls d) 0; ct_fields = fields_by ls keep (params_of ls d) (first_of field_line ls d) (body_last ls d) } ∷ [] ∥
    eqb (body_kind ls d) 3 ⇒ ctors_by ls keep (params_of ls d) (first_of ctor_line ls d) (first_of field_line ls d) (body_last ls d) ∥
    []
