-- The cells of a declaration by its layout (FORMAT, section 6.6). Assumes nothing.
use Rattle.std.specs.Prelude.{◌≡◌, List, ℕ, ◌+◌, ◌*◌, ◌<◌, length, get_or, set}
use Rattle.number_columns.specs.Column.{pick}
use Rattle.sheet.specs.Line.{Line}
use Rattle.meaning.specs.Program.{field_line}
use Rattle.meaning.specs.Rows.{count_of}
use Rattle.table_access.specs.Tables.{decls_of}
use Rattle.keep_layouts.specs.Kept.{body_kind, body_last}
use Rattle.keep_layouts.specs.States.{state, body_of}
use Rattle.keep_layouts.specs.declared.Layout.{Layout}
use Rattle.keep_layouts.specs.declared.Layout.TheVariants.{Erased, Newtype, Struct, Abbreviation, Opaque}
use Rattle.keep_layouts.specs.declared.Verdict.{Verdict}
use Rattle.keep_layouts.specs.Layouts.{no_verdict}
use Rattle.collapse_candidates.specs.Payloads.{Payload}
use Rattle.collapse_passes.specs.Passes.{named}

-- its cells
abbrev pub Cells : List Line → ℕ → ℕ → ℕ → Layout → Type 0
Cells ls d a c Erased = a ≡ 0
Cells ls d a c (Newtype ctor f) = (a ≡ 1) × Payload ls f c
Cells ls d a c Struct = a ≡ 3
Cells ls d a c Abbreviation = (a ≡ pick (named ls d) 3 2) × (c ≡ body_last ls d)
Cells ls d a c Opaque = a ≡ 3

pub record Told (ls : List Line) (d : ℕ) (l : Layout) (a c : ℕ) : Type 0 where
  pub cells : Cells ls d a c l

-- what is known of a layout: a payload's F line is there, and an abbreviation has a type
pub record Known (ls : List Line) (d : ℕ) (l : Layout) : Type 0 where
  pub field : (ctor f : ℕ) → l ≡ Newtype ctor f → f < count_of field_line ls
  pub kind : l ≡ Abbreviation → body_kind ls d ≡ 1

-- its cells are put, and no others
pub record Put (ls : List Line) (d : ℕ) (l : Layout) (u u' : List ℕ) : Type 0 where
  pub first : ℕ
  pub second : ℕ
  pub told : Told ls d l first second
  pub is : u' ≡ set (set u (2 * d) first) (2 * d + 1) second

-- the cells of the first n declarations
pub record Filled (ls : List Line) (vs : List Verdict) (n : ℕ) (u : List ℕ) : Type 0 where
  pub long : length u ≡ 2 * decls_of ls
  pub each : (d : ℕ) → d < n → Told ls d (get_or vs d no_verdict).layout (state u d) (body_of u d)
