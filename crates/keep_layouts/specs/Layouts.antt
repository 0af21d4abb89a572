-- The verdicts of the code, and the layouts of the source that they stand for. Assumes nothing.
use Rattle.std.specs.Prelude.{◌≡◌, List, false, ℕ, ◌-◌, ◌≤◌, ◌<◌, length, get_or}
use Rattle.sheet.specs.Line.{Line, number}
use Rattle.model.specs.Cty.{uninline}
use Rattle.model.specs.Decl.{NewtypeLayout, L_erased, L_newtype, L_struct, L_abbrev, L_opaque, close}
use Rattle.model.specs.Erasure.{erasure_fixpoint}
use Rattle.model.specs.Run.{layout_of_decl}
use Rattle.meaning.specs.Program.{field_line, program}
use Rattle.meaning.specs.Rows.{count_of}
use Rattle.table_access.specs.Tables.{nth, decls_of, first_of}
use Rattle.resolve_kids.specs.Nodes.{type_of}
use Rattle.resolve_kids.specs.Params.{params_of}
use Rattle.keep_layouts.specs.Kept.{ctors_at, body_last, field_type}
use Rattle.keep_layouts.specs.declared.Layout.{Layout}
use Rattle.keep_layouts.specs.declared.Layout.TheVariants.{Erased, Newtype, Struct, Abbreviation, Opaque}
use Rattle.keep_layouts.specs.declared.Verdict.{Verdict}
use Rattle.model.specs.Decl as decl

-- the number of a layout (FORMAT, section 2)
abbrev pub number_of : Layout → ℕ
number_of Erased = 0
number_of (Newtype ctor field) = 1
number_of Struct = 2
number_of Abbreviation = 3
number_of Opaque = 4

-- the newtype of declaration d with this constructor and the payload of F line f: an outer `TInline` goes
unfoldable pub newtype_told : List Line → ℕ → ℕ → ℕ → NewtypeLayout
newtype_told ls d ctor f =
    record {
      nt_ctor = ctor;
      nt_field = number (nth field_line ls f) 0;
      nt_index = f - first_of field_line ls d;
      nt_ty = uninline (close (params_of ls d) (type_of ls (field_type ls f)));
    }

-- the layout of the source that declaration d has by its verdict
unfoldable pub layout_told : List Line → ℕ → Layout → decl.Layout
layout_told ls d Erased = L_erased
layout_told ls d (Newtype ctor field) = L_newtype (newtype_told ls d ctor field)
layout_told ls d Struct = L_struct (ctors_at (program ls) d)
layout_told ls d Abbreviation = L_abbrev (close (params_of ls d) (type_of ls (body_last ls d)))
layout_told ls d Opaque = L_opaque

-- what stands for a verdict past the last
abbrev pub no_verdict : Verdict
no_verdict = record { erased = false; layout = Opaque }

-- Every declaration has its verdict.
pub record Laid (ls : List Line) (vs : List Verdict) : Type 0 where
  pub long : decls_of ls ≤ length vs
  pub marks : (d : ℕ) → d < decls_of ls → (get_or vs d no_verdict).erased ≡ get_or (erasure_fixpoint (program ls)).marks d false
  pub layouts : (d : ℕ) → d < decls_of ls → layout_told ls d (get_or vs d no_verdict).layout ≡ layout_of_decl (program ls) d
  pub fields : (d ctor f : ℕ) → d < decls_of ls → (get_or vs d no_verdict).layout ≡ Newtype ctor f → f < count_of field_line ls
