-- The tests of a sheet's meaning: a few lines each, written as data, and the program that they declare,
-- the place that each of rows 3 to 7 gives, and the lines that are written. Assumes nothing.
use Rattle.std.specs.Prelude.{refl, Option, Some, None, List, [], ◌∷◌, ◌++◌, map, Bool, true, false, ℕ, suc, ◌+◌, eqb, length}
use Rattle.number_columns.specs.Column.{step, scan, read}
use Rattle.sheet.specs.Format.{Format}
use Rattle.sheet.specs.Line.{Line, bad, named, row, cell}
use Rattle.sheet.specs.Sheet.{first, line_at}
use Rattle.model.specs.Cty.{Cty, TUnit, TAny, TExn, TVar, TInt, TFloat, TConst, TArrow, TBuf, TRef, TInline, walk, uninline}
use Rattle.model.specs.Decl.{TAbstract, TAbbrev, TRecord, TVariant, Dtype, ctors_of, layout_number, L_erased, L_struct, L_abbrev, L_opaque, TypeInfo, Decl, table, member, close, close_field, close_body, close_fields}
use Rattle.model.specs.Erasure.{cty_erased}
use Rattle.model.specs.Layout.{kept, ctor_layout, first_kept, newtype_of_ctor, newtype_of, collapse}
use Rattle.model.proofs.Cases.{Case, ◌gives◌, Passed, list, app, tuple, field, ctor, decl, import, laid, tagged, newt, verdict}
use Rattle.meaning.specs.declared.Iwidth.{Iwidth}
use Rattle.meaning.specs.declared.Iwidth.TheVariants.{W8, W16, W32, W64, W128, WSizet}
use Rattle.meaning.specs.Program.{select, before, groups, list_of, tree, trees_after, trees, field_of, ctor_of, body_of, dtype_of, keeps, keeps_of, ctor_layouts_by, layout_by, info_of, decl_of, program}
use Rattle.meaning.specs.Rows.{raw, raws, announced, due_header, due, due_after, row3, params_after, row4, zeros_from, width_number, iwidth_of, is_width, is_list, good_type, good_head, good_numbers, row5, equal, repeats, row6, last_head, kept_after, ctors_after, good_verdict, good_verdicts, row7}
use Rattle.meaning.specs.Output.{fill_third, fill_verdict, all_slots, fill, fill_all, verdict_lines, verdict_line_of, put, emit, field_lines, ctor_lines, decl_frame, decl_lines, program_lines, left_lines}

-- ---- how a sheet is written
-- Lines by their letters, with the numbers that the letter has; names are spelled a, b, c ..
abbrev pub N : ℕ → Line
N n = named n ((97 + n) ∷ [])

abbrev pub A : ℕ → Line
A t = row 65 (t ∷ 0 ∷ 0 ∷ 0 ∷ 0 ∷ [])

abbrev pub Y : ℕ → ℕ → ℕ → ℕ → Line
Y kind a b c = row 89 (kind ∷ a ∷ b ∷ c ∷ 0 ∷ [])

abbrev pub D : ℕ → ℕ → ℕ → ℕ → ℕ → Line
D n flags kind params last = row 68 (n ∷ flags ∷ kind ∷ params ∷ last ∷ [])

abbrev pub I : ℕ → ℕ → ℕ → ℕ → ℕ → Line
I n flags kind params last = row 73 (n ∷ flags ∷ kind ∷ params ∷ last ∷ [])

abbrev pub P : ℕ → Line
P n = row 80 (n ∷ 0 ∷ 0 ∷ 0 ∷ 0 ∷ [])

abbrev pub Ct : ℕ → ℕ → ℕ → Line
Ct n fields tag = row 67 (n ∷ fields ∷ tag ∷ 0 ∷ 0 ∷ [])

-- the C line of a local declaration, or of a single constructor
abbrev pub C : ℕ → ℕ → Line
C n fields = Ct n fields 0

abbrev pub F : ℕ → ℕ → ℕ → Line
F n t keep = row 70 (n ∷ t ∷ keep ∷ 0 ∷ 0 ∷ [])

abbrev pub Vn : ℕ → ℕ → ℕ → Line
Vn erased layout rec = row 86 (erased ∷ layout ∷ rec ∷ 0 ∷ 0 ∷ [])

-- the V line of a local declaration
abbrev pub V0 : Line
V0 = Vn 0 0 0

abbrev pub int : Cty
int = TInt 0 32

-- ---- what is tested
-- The definitions, each named here alone.
unfoldable pub types : List Line → List Cty
unfolding trees trees_after tree list_of select
types = trees

unfoldable pub declared : List Line → List Decl
unfolding types program decl_of info_of layout_by ctor_layouts_by keeps_of keeps dtype_of body_of ctor_of field_of groups before close_fields close_body close_field close walk member ctors_of kept ctor_layout first_kept newtype_of_ctor newtype_of collapse uninline
declared = program

unfoldable pub verdicts : List Line → List TypeInfo → List Line
unfolding verdict_lines before groups fill_all fill fill_third fill_verdict all_slots layout_number
verdicts = verdict_lines

-- the same of one line, in a declaration that begins with line h and is a struct with a record number, after k C lines; of names 7
-- alone is erased
unfoldable pub told_after : ℕ → Line → Line → Line
unfolding verdict_line_of cty_erased layout_number
told_after k h l = verdict_line_of (λ n. eqb n 7) (TUnit ∷ int ∷ app 7 [] ∷ app 8 [] ∷ []) (verdict false (L_struct []) [] true) h k l

-- of the first C line, or of another
abbrev pub told : Line → Line → Line
told = told_after 0

unfoldable pub left : List Line → List Dtype → List Line
unfolding left_lines program_lines decl_lines decl_frame ctor_lines field_lines emit put select
left = left_lines

-- the lines of a sheet's bytes, numbers of one column
unfoldable pub read_raw : List ℕ → List Line
unfolding raws raw table line_at cell read scan step
read_raw = raws 1

-- limits: 3 N, 2 A, 2 Y, 2 declarations, 2 C, 2 F, and 1 P in one declaration
abbrev pub small : Format
small = record {
  columns = 1;
  lines = 99;
  names = 3;
  args = 2;
  types = 2;
  decls = 2;
  ctors = 2;
  fields = 2;
  params = 1;
  patterns = 9;
  nodes = 9;
  fuel = 9;
}

-- a row's place: the first line at which its test holds, or one past the last that is tested
unfoldable pub place3 : List Line → ℕ
unfolding row3 due_after due due_header announced first
place3 ls = first (row3 ls) (suc (length ls))

unfoldable pub place4 : List Line → ℕ
unfolding row4 params_after select first
place4 ls = first (row4 small ls) (length ls)

unfoldable pub place5 : List Line → ℕ
unfolding row5 good_numbers good_head good_type is_list is_width zeros_from select first
place5 ls = first (row5 ls) (length ls)

unfoldable pub place6 : List Line → ℕ
unfolding row6 repeats equal select first
place6 ls = first (row6 ls) (length ls)

unfoldable pub place7 : List Line → ℕ
unfolding row7 good_verdicts good_verdict kept_after ctors_after last_head first
place7 ls = first (row7 ls) (length ls)

-- ---- the program
unfoldable pub type_cases : List (Case (List Cty))
unfolding types list
type_cases =
    types [] gives []
    -- each kind
    ∷ types (A 3
    ∷ A 4
    ∷ Y 0 0 0 0
    ∷ Y 1 0 0 0
    ∷ Y 2 0 0 0
    ∷ Y 3 7 0 0
    ∷ Y 4 1 8 0
    ∷ Y 5 2 0 0
    ∷ Y 6 3 0 0
    ∷ Y 7 1 2 4
    ∷ Y 8 7 0 2
    ∷ Y 9 1 1 0
    ∷ Y 10 4 0 0
    ∷ Y 11 1 5 0
    ∷ Y 12 6 0 0
    ∷ [])
    gives (TUnit
    ∷ TAny
    ∷ TExn
    ∷ TVar 7
    ∷ TInt 1 8
    ∷ TFloat 2
    ∷ TConst 3
    ∷ TArrow TAny 2 (TInt 1 8)
    ∷ app 7 (TVar 7 ∷ TInt 1 8 ∷ [])
    ∷ tuple (TInt 1 8 ∷ [])
    ∷ TBuf (TInt 1 8)
    ∷ TRef 1 (TFloat 2)
    ∷ TInline (TConst 3)
    ∷ [])
    ∷ []

pub types_read : Passed type_cases
unfolding type_cases
types_read = refl

unfoldable pub program_cases : List (Case (List Decl))
unfolding declared list
program_cases =
    declared (N 0 ∷ A 0 ∷ Y 1 0 0 0 ∷ []) gives []
    -- a declaration of each body, with its flags and parameters; what it does not bind is closed
    ∷ declared (N 0
    ∷ Y 3 1 0 0
    ∷ Y 3 2 0 0
    ∷ D 9 4 0 0 0
    ∷ V0
    ∷ D 8 2 1 2 0
    ∷ P 2
    ∷ P 1
    ∷ V0
    ∷ D 7 0 2 1 2
    ∷ P 2
    ∷ F 30 0 0
    ∷ F 31 1 0
    ∷ V0
    ∷ D 6 0 3 0 2
    ∷ C 20 1
    ∷ F 30 0 0
    ∷ C 21 0
    ∷ V0
    ∷ [])
    gives (decl 9 4 [] TAbstract
    ∷ decl 8 2 (2 ∷ 1 ∷ []) (TAbbrev (TVar 1))
    ∷ decl 7 0 (2 ∷ []) (TRecord (field 30 TAny ∷ field 31 (TVar 2) ∷ []))
    ∷ decl 6 0 [] (TVariant (ctor 20 (field 30 TAny ∷ []) ∷ ctor 21 [] ∷ []))
    ∷ [])
    -- imports by each layout of their V lines, with the fields that they keep
    ∷ declared (Y 4 0 32 0
    ∷ I 9 0 1 0 0
    ∷ Vn 1 0 0
    ∷ I 8 0 3 0 1
    ∷ C 20 2
    ∷ F 30 0 0
    ∷ F 31 0 1
    ∷ Vn 0 1 0
    ∷ I 7 0 2 0 2
    ∷ F 30 0 1
    ∷ F 31 0 0
    ∷ Vn 0 2 1
    ∷ I 6 0 1 0 0
    ∷ Vn 0 3 0
    ∷ I 5 0 0 0 0
    ∷ Vn 0 4 0
    ∷ [])
    gives (import (decl 9 0 [] (TAbbrev int)) (verdict true L_erased [] false)
    ∷ import (decl 8 0 [] (TVariant (ctor 20 (field 30 int ∷ field 31 int ∷ []) ∷ [])))
    (verdict false (newt 20 31 1 int) (laid 20 (false ∷ true ∷ []) (field 31 int ∷ []) ∷ []) false)
    ∷ import (decl 7 0 [] (TRecord (field 30 int ∷ field 31 int ∷ [])))
    (let cls = laid 7 (true ∷ false ∷ []) (field 30 int ∷ []) ∷ [] in verdict false (L_struct cls) cls true)
    ∷ import (decl 6 0 [] (TAbbrev int)) (verdict false (L_abbrev int) [] false)
    ∷ import (decl 5 0 [] TAbstract) (verdict false L_opaque [] false)
    ∷ [])
    -- an import of two constructors, with the tags of its lines; and layouts that row 7 refuses: a newtype of none, an abbreviation of
    -- an abstract type
    ∷ declared (Y 4 0 32 0 ∷ I 8 0 3 0 2 ∷ Ct 20 1 5 ∷ F 30 0 1 ∷ C 21 1 ∷ F 30 0 0 ∷ Vn 0 2 0 ∷ I 7 0 3 0 0 ∷ Vn 0 1 0 ∷ I 6 0 0 0 0 ∷ Vn 0 3 0 ∷ [])
    gives (import (decl 8 0 [] (TVariant (ctor 20 (field 30 int ∷ []) ∷ ctor 21 (field 30 int ∷ []) ∷ [])))
    (let cls = tagged 4 20 (true ∷ []) (field 30 int ∷ []) ∷ laid 21 (false ∷ []) [] ∷ [] in verdict false (L_struct cls) cls false)
    ∷ import (decl 7 0 [] (TVariant [])) (verdict false (L_struct []) [] false)
    ∷ import (decl 6 0 [] TAbstract) (verdict false L_opaque [] false)
    ∷ [])
    ∷ []

pub programs_declared : Passed program_cases
unfolding program_cases
programs_declared = refl

-- ---- rows 3 to 7
-- letters and numbers, whatever row 2 says: a number that is none is 0
unfoldable pub raw_cases : List (Case (List Line))
unfolding read_raw
raw_cases =
    read_raw [] gives []
    ∷ read_raw (68 ∷ 48 ∷ 49 ∷ 50 ∷ 51 ∷ 52 ∷ 10 ∷ 1 ∷ 57 ∷ 65 ∷ 32 ∷ 48 ∷ 56 ∷ 0 ∷ [])
    gives (row 68 (0 ∷ 1 ∷ 2 ∷ 3 ∷ 4 ∷ []) ∷ row 1 (9 ∷ 0 ∷ 0 ∷ 0 ∷ 8 ∷ []) ∷ [])
    ∷ []

pub raws_read : Passed raw_cases
unfolding raw_cases
raws_read = refl

unfoldable pub row3_cases : List (Case ℕ)
unfolding place3
row3_cases =
    -- in order: past the last
    place3 [] gives 1
    ∷ place3 (N 0 ∷ N 1 ∷ A 0 ∷ A 0 ∷ Y 0 0 0 0 ∷ Y 0 0 0 0 ∷ D 0 0 0 0 9 ∷ V0 ∷ I 1 0 1 1 9 ∷ P 0 ∷ V0 ∷ []) gives 12
    ∷ place3 (A 0 ∷ Y 0 0 0 0 ∷ []) gives 3
    ∷ place3 (D 0 0 2 1 2 ∷ P 0 ∷ F 0 0 0 ∷ F 0 0 0 ∷ V0 ∷ D 0 0 3 1 2 ∷ P 0 ∷ C 0 1 ∷ F 0 0 0 ∷ C 0 0 ∷ V0 ∷ []) gives 12
    -- N, A and Y after what they stand before
    ∷ place3 (A 0 ∷ N 0 ∷ []) gives 1
    ∷ place3 (Y 0 0 0 0 ∷ N 0 ∷ []) gives 1
    ∷ place3 (Y 0 0 0 0 ∷ A 0 ∷ []) gives 1
    ∷ place3 (D 0 0 0 0 0 ∷ V0 ∷ Y 0 0 0 0 ∷ []) gives 2
    ∷ place3 (D 0 0 0 0 0 ∷ V0 ∷ N 0 ∷ []) gives 2
    -- lines of no declaration, an unknown letter, a body kind over 3
    ∷ place3 (N 0 ∷ V0 ∷ []) gives 1
    ∷ place3 (P 0 ∷ []) gives 0
    ∷ place3 (row 66 [] ∷ []) gives 0
    ∷ place3 (D 0 0 4 0 0 ∷ V0 ∷ []) gives 0
    -- too few or too many P, F and C lines
    ∷ place3 (D 0 0 0 1 0 ∷ V0 ∷ []) gives 1
    ∷ place3 (D 0 0 0 0 0 ∷ P 0 ∷ V0 ∷ []) gives 1
    ∷ place3 (D 0 0 2 0 1 ∷ V0 ∷ []) gives 1
    ∷ place3 (D 0 0 2 0 1 ∷ F 0 0 0 ∷ F 0 0 0 ∷ V0 ∷ []) gives 2
    ∷ place3 (D 0 0 3 0 1 ∷ F 0 0 0 ∷ V0 ∷ []) gives 1
    ∷ place3 (D 0 0 3 0 1 ∷ C 0 1 ∷ V0 ∷ []) gives 2
    ∷ place3 (D 0 0 3 0 1 ∷ C 0 0 ∷ C 0 0 ∷ V0 ∷ []) gives 2
    -- a sheet that ends early: the count of lines
    ∷ place3 (D 0 0 0 0 0 ∷ []) gives 1
    ∷ place3 (N 0 ∷ D 0 0 3 0 1 ∷ C 0 1 ∷ []) gives 3
    ∷ []

pub order_tested : Passed row3_cases
unfolding row3_cases
order_tested = refl

unfoldable pub row4_cases : List (Case ℕ)
unfolding place4
row4_cases =
    place4 (N 0 ∷ N 1 ∷ N 2 ∷ A 0 ∷ A 0 ∷ Y 0 0 0 0 ∷ Y 0 0 0 0 ∷ []) gives 7
    ∷ place4 (N 0 ∷ N 1 ∷ N 2 ∷ N 3 ∷ []) gives 3
    ∷ place4 (A 0 ∷ A 0 ∷ A 0 ∷ []) gives 2
    ∷ place4 (A 0 ∷ Y 0 0 0 0 ∷ Y 0 0 0 0 ∷ Y 0 0 0 0 ∷ []) gives 3
    ∷ place4 (D 0 0 0 0 0 ∷ V0 ∷ I 0 0 0 0 0 ∷ V0 ∷ D 0 0 0 0 0 ∷ V0 ∷ []) gives 4
    ∷ place4 (D 0 0 0 0 0 ∷ V0 ∷ I 0 0 0 0 0 ∷ V0 ∷ I 0 0 0 0 0 ∷ V0 ∷ []) gives 4
    -- parameters by declaration, constructors and fields in all
    ∷ place4 (D 0 0 0 1 0 ∷ P 0 ∷ V0 ∷ D 0 0 0 2 0 ∷ P 0 ∷ P 0 ∷ V0 ∷ []) gives 5
    ∷ place4 (D 0 0 3 0 1 ∷ C 0 0 ∷ V0 ∷ D 0 0 3 0 2 ∷ C 0 0 ∷ C 0 0 ∷ V0 ∷ []) gives 5
    ∷ place4 (D 0 0 2 0 1 ∷ F 0 0 0 ∷ V0 ∷ D 0 0 2 0 2 ∷ F 0 0 0 ∷ F 0 0 0 ∷ V0 ∷ []) gives 5
    ∷ []

pub limits_tested : Passed row4_cases
unfolding row4_cases
limits_tested = refl

-- a width by its number: the widths in the order of the source's `iwidth`, and the numbers beside theirs
unfoldable pub width_cases : List (Case (List (Option Iwidth)))
unfolding iwidth_of
width_cases =
    map iwidth_of (8 ∷ 16 ∷ 32 ∷ 64 ∷ 128 ∷ 1 ∷ []) gives (Some W8 ∷ Some W16 ∷ Some W32 ∷ Some W64 ∷ Some W128 ∷ Some WSizet ∷ [])
    ∷ map iwidth_of (0 ∷ 2 ∷ 7 ∷ 63 ∷ 127 ∷ 129 ∷ 256 ∷ []) gives (None ∷ None ∷ None ∷ None ∷ None ∷ None ∷ None ∷ [])
    ∷ []

pub widths_tested : Passed width_cases
unfolding width_cases
widths_tested = refl

-- and the numbers of widths
unfoldable pub width_number_cases : List (Case (List ℕ))
width_number_cases = map width_number (W8 ∷ W16 ∷ W32 ∷ W64 ∷ W128 ∷ WSizet ∷ []) gives (8 ∷ 16 ∷ 32 ∷ 64 ∷ 128 ∷ 1 ∷ []) ∷ []

pub width_numbers_tested : Passed width_number_cases
unfolding width_number_cases
width_numbers_tested = refl

-- a Y line of type 2, where there are two names and the A lines have types 1 and 2
unfoldable pub type_ok : Line → Bool
unfolding good_type is_list is_width zeros_from first
type_ok y = good_type 2 (1 ∷ 2 ∷ []) 2 y

unfoldable pub kind_cases : List (Case (List Bool))
unfolding type_ok
kind_cases =
    map type_ok (Y 0 0 0 0 ∷ Y 1 0 0 0 ∷ Y 2 0 0 0 ∷ Y 3 1 0 0 ∷ Y 4 1 8 0 ∷ Y 5 3 0 0 ∷ Y 6 99 0 0 ∷ [])
    gives (true ∷ true ∷ true ∷ true ∷ true ∷ true ∷ true ∷ [])
    ∷ map type_ok (Y 7 1 2 1 ∷ Y 8 1 0 1 ∷ Y 8 1 0 0 ∷ Y 9 0 1 0 ∷ Y 9 0 0 0 ∷ Y 10 1 0 0 ∷ Y 11 1 1 0 ∷ Y 12 1 0 0 ∷ [])
    gives (true ∷ true ∷ true ∷ true ∷ true ∷ true ∷ true ∷ true ∷ [])
    -- widths
    ∷ map (λ n. type_ok (Y 4 0 n 0)) (1 ∷ 8 ∷ 16 ∷ 32 ∷ 64 ∷ 128 ∷ 0 ∷ 2 ∷ []) gives (true ∷ true ∷ true ∷ true ∷ true ∷ true ∷ false ∷ false ∷ [])
    -- an unused number that is not 0
    ∷ map type_ok (Y 0 1 0 0 ∷ Y 1 1 0 0 ∷ Y 2 1 0 0 ∷ Y 2 0 0 1 ∷ Y 3 1 1 0 ∷ Y 4 1 8 1 ∷ Y 5 3 1 0 ∷ Y 6 99 1 0 ∷ [])
    gives (false ∷ false ∷ false ∷ false ∷ false ∷ false ∷ false ∷ false ∷ [])
    ∷ map type_ok (Y 9 0 1 1 ∷ Y 10 1 1 0 ∷ Y 11 1 1 1 ∷ Y 12 1 0 1 ∷ row 89 (7 ∷ 1 ∷ 2 ∷ 1 ∷ 1 ∷ []) ∷ row 89 (8 ∷ 1 ∷ 0 ∷ 1 ∷ 1 ∷ []) ∷ [])
    gives (false ∷ false ∷ false ∷ false ∷ false ∷ false ∷ [])
    -- a kind, or one of its numbers, out of range
    ∷ map type_ok (Y 13 0 0 0 ∷ Y 3 2 0 0 ∷ Y 4 2 8 0 ∷ Y 5 4 0 0 ∷ Y 7 2 2 1 ∷ Y 7 1 3 1 ∷ Y 7 1 2 2 ∷ [])
    gives (false ∷ false ∷ false ∷ false ∷ false ∷ false ∷ false ∷ [])
    ∷ map type_ok (Y 8 2 0 1 ∷ Y 10 2 0 0 ∷ Y 11 2 1 0 ∷ Y 11 1 2 0 ∷ Y 12 2 0 0 ∷ []) gives (false ∷ false ∷ false ∷ false ∷ false ∷ [])
    -- a list of a type that is not lower, past the last A line, of none but not at 0
    ∷ map type_ok (Y 8 1 1 1 ∷ Y 8 1 0 2 ∷ Y 9 2 1 0 ∷ Y 8 1 1 0 ∷ Y 9 1 0 0 ∷ []) gives (false ∷ false ∷ false ∷ false ∷ false ∷ [])
    ∷ []

pub kinds_tested : Passed kind_cases
unfolding kind_cases
kinds_tested = refl

unfoldable pub row5_cases : List (Case ℕ)
unfolding place5
row5_cases =
    -- all is well: past the last
    place5 (N 0 ∷ N 1 ∷ A 0 ∷ Y 0 0 0 0 ∷ Y 10 0 0 0 ∷ D 0 31 0 0 0 ∷ P 1 ∷ Vn 9 9 9 ∷ I 1 0 1 0 1 ∷ Vn 9 9 9 ∷ D 1 0 2 0 7 ∷ F 1 1 9 ∷ C 1 9 ∷ []) gives 13
    -- N out of sequence; an A line's type, and its unused numbers; a Y line's
    ∷ place5 (N 0 ∷ N 2 ∷ []) gives 1
    ∷ place5 (A 1 ∷ Y 0 0 0 0 ∷ []) gives 0
    ∷ place5 (row 65 (0 ∷ 1 ∷ 0 ∷ 0 ∷ 0 ∷ []) ∷ Y 0 0 0 0 ∷ []) gives 0
    ∷ place5 (Y 0 0 0 0 ∷ Y 10 1 0 0 ∷ []) gives 1
    -- a list's types are those of the A lines, and a name is one of the N lines
    ∷ place5 (N 0 ∷ A 0 ∷ A 1 ∷ Y 0 0 0 0 ∷ Y 8 0 0 1 ∷ Y 9 0 2 0 ∷ Y 8 1 0 0 ∷ []) gives 6
    ∷ place5 (N 0 ∷ A 0 ∷ A 1 ∷ Y 0 0 0 0 ∷ Y 8 0 1 1 ∷ []) gives 4
    -- a declaration's name, flags, and last number by its kind
    ∷ place5 (N 0 ∷ D 1 0 0 0 0 ∷ []) gives 1
    ∷ place5 (N 0 ∷ I 0 32 0 0 0 ∷ []) gives 1
    ∷ place5 (N 0 ∷ D 0 0 0 0 1 ∷ []) gives 1
    ∷ place5 (N 0 ∷ Y 0 0 0 0 ∷ D 0 0 1 0 1 ∷ []) gives 2
    -- P, C, F and V lines
    ∷ place5 (N 0 ∷ P 1 ∷ []) gives 1
    ∷ place5 (N 0 ∷ row 80 (0 ∷ 1 ∷ 0 ∷ 0 ∷ 0 ∷ []) ∷ []) gives 1
    ∷ place5 (N 0 ∷ C 1 0 ∷ []) gives 1
    ∷ place5 (N 0 ∷ Ct 0 0 9 ∷ row 67 (0 ∷ 0 ∷ 0 ∷ 1 ∷ 0 ∷ []) ∷ []) gives 2
    ∷ place5 (N 0 ∷ Y 0 0 0 0 ∷ F 1 0 0 ∷ []) gives 2
    ∷ place5 (N 0 ∷ Y 0 0 0 0 ∷ F 0 1 0 ∷ []) gives 2
    ∷ place5 (N 0 ∷ Y 0 0 0 0 ∷ row 70 (0 ∷ 0 ∷ 0 ∷ 1 ∷ 0 ∷ []) ∷ []) gives 2
    ∷ place5 (row 86 (0 ∷ 0 ∷ 0 ∷ 1 ∷ 0 ∷ []) ∷ []) gives 0
    ∷ []

pub numbers_tested : Passed row5_cases
unfolding row5_cases
numbers_tested = refl

unfoldable pub row6_cases : List (Case ℕ)
unfolding place6
row6_cases =
    -- spellings, the whole of them
    place6 (named 0 (97 ∷ 98 ∷ []) ∷ named 1 (97 ∷ []) ∷ named 2 (97 ∷ 99 ∷ []) ∷ named 3 (97 ∷ []) ∷ []) gives 3
    ∷ place6 (named 0 (97 ∷ []) ∷ named 1 (97 ∷ 98 ∷ []) ∷ named 1 [] ∷ []) gives 3
    -- declared names, imports among them
    ∷ place6 (D 0 0 0 0 0 ∷ V0 ∷ D 1 0 0 0 0 ∷ V0 ∷ D 0 0 0 0 0 ∷ V0 ∷ []) gives 4
    ∷ place6 (I 0 0 0 0 0 ∷ V0 ∷ D 0 0 0 0 0 ∷ V0 ∷ []) gives 2
    ∷ place6 (N 0 ∷ A 0 ∷ Y 0 0 0 0 ∷ D 0 0 1 1 0 ∷ P 0 ∷ V0 ∷ []) gives 6
    -- parameters of one declaration
    ∷ place6 (D 0 0 0 2 0 ∷ P 5 ∷ P 5 ∷ V0 ∷ []) gives 2
    ∷ place6 (D 0 0 0 1 0 ∷ P 5 ∷ V0 ∷ D 1 0 0 1 0 ∷ P 5 ∷ V0 ∷ []) gives 6
    ∷ place6 (D 0 0 0 1 0 ∷ P 5 ∷ V0 ∷ I 1 0 0 1 0 ∷ P 5 ∷ V0 ∷ []) gives 6
    -- fields of one constructor or record
    ∷ place6 (D 0 0 2 0 2 ∷ F 5 0 0 ∷ F 5 0 0 ∷ V0 ∷ []) gives 2
    ∷ place6 (D 0 0 2 0 1 ∷ F 5 0 0 ∷ V0 ∷ D 1 0 2 0 1 ∷ F 5 0 0 ∷ V0 ∷ []) gives 6
    ∷ place6 (D 0 0 3 0 2 ∷ C 1 1 ∷ F 5 0 0 ∷ C 2 2 ∷ F 5 0 0 ∷ F 5 0 0 ∷ V0 ∷ []) gives 5
    -- constructors and record types, over all declarations
    ∷ place6 (D 0 0 3 0 2 ∷ C 7 0 ∷ C 7 0 ∷ V0 ∷ []) gives 2
    ∷ place6 (D 0 0 3 0 1 ∷ C 7 0 ∷ V0 ∷ I 1 0 3 0 1 ∷ C 7 0 ∷ V0 ∷ []) gives 4
    ∷ place6 (D 0 0 3 0 1 ∷ C 7 0 ∷ V0 ∷ D 7 0 2 0 0 ∷ V0 ∷ []) gives 3
    ∷ place6 (I 7 0 2 0 0 ∷ V0 ∷ D 0 0 3 0 1 ∷ C 7 0 ∷ V0 ∷ []) gives 3
    ∷ place6 (D 7 0 3 0 1 ∷ C 7 0 ∷ V0 ∷ []) gives 3
    ∷ []

pub names_tested : Passed row6_cases
unfolding row6_cases
names_tested = refl

-- one import of this body kind and last number with one constructor, so many fields kept of two, and this V line
abbrev pub import_of : ℕ → ℕ → ℕ → Line → List Line
import_of kind last keep v = I 0 0 kind 0 last ∷ C 1 2 ∷ F 2 0 1 ∷ F 3 0 keep ∷ v ∷ []

unfoldable pub row7_cases : List (Case ℕ)
unfolding place7
row7_cases =
    -- a local declaration says nothing
    place7 (D 0 0 2 0 1 ∷ F 1 0 0 ∷ V0 ∷ []) gives 3
    ∷ place7 (D 0 0 2 0 1 ∷ F 1 0 1 ∷ V0 ∷ []) gives 1
    ∷ place7 (D 0 0 0 0 0 ∷ Vn 1 0 0 ∷ []) gives 1
    ∷ place7 (D 0 0 0 0 0 ∷ Vn 0 4 0 ∷ []) gives 1
    ∷ place7 (D 0 0 0 0 0 ∷ Vn 0 0 1 ∷ []) gives 1
    ∷ place7 (I 0 0 2 0 1 ∷ F 1 0 1 ∷ Vn 0 1 0 ∷ D 0 0 2 0 1 ∷ F 1 0 1 ∷ V0 ∷ []) gives 4
    -- tags: none in a local declaration or of a single constructor, else places plus one, counted in each declaration
    ∷ place7 (D 0 0 3 0 2 ∷ C 1 0 ∷ C 2 0 ∷ V0 ∷ []) gives 4
    ∷ place7 (D 0 0 3 0 2 ∷ Ct 1 0 1 ∷ Ct 2 0 2 ∷ V0 ∷ []) gives 1
    ∷ place7 (D 0 0 3 0 1 ∷ Ct 1 0 1 ∷ V0 ∷ []) gives 1
    ∷ place7 (I 0 0 3 0 1 ∷ C 1 0 ∷ Vn 0 2 0 ∷ []) gives 3
    ∷ place7 (I 0 0 3 0 1 ∷ Ct 1 0 1 ∷ Vn 0 2 0 ∷ []) gives 1
    ∷ place7 (I 0 0 3 0 2 ∷ Ct 1 1 1 ∷ F 1 0 1 ∷ Ct 2 0 2 ∷ Vn 0 2 0 ∷ I 3 0 3 0 3 ∷ Ct 4 0 1 ∷ Ct 5 0 2 ∷ Ct 6 0 3 ∷ Vn 1 0 0 ∷ []) gives 10
    ∷ place7 (I 0 0 3 0 2 ∷ C 1 0 ∷ C 2 0 ∷ Vn 0 2 0 ∷ []) gives 1
    ∷ place7 (I 0 0 3 0 2 ∷ Ct 1 0 1 ∷ Ct 2 0 1 ∷ Vn 0 2 0 ∷ []) gives 2
    ∷ place7 (I 0 0 3 0 2 ∷ Ct 1 0 1 ∷ Ct 2 0 3 ∷ Vn 0 2 0 ∷ []) gives 2
    ∷ place7 (I 0 0 3 0 2 ∷ Ct 1 1 2 ∷ F 1 0 7 ∷ Ct 2 0 2 ∷ Vn 0 2 0 ∷ []) gives 1
    -- an import's keep, erased, record and layout
    ∷ place7 (import_of 3 1 1 (Vn 0 2 1)) gives 5
    ∷ place7 (import_of 3 1 2 (Vn 0 2 1)) gives 3
    ∷ place7 (import_of 3 1 0 (Vn 0 2 2)) gives 4
    ∷ place7 (import_of 3 1 0 (Vn 1 0 1)) gives 5
    ∷ place7 (import_of 3 1 0 (Vn 2 0 0)) gives 4
    ∷ place7 (import_of 3 1 0 (Vn 0 0 0)) gives 4
    ∷ place7 (import_of 3 1 0 (Vn 1 2 0)) gives 4
    ∷ place7 (import_of 3 1 0 (Vn 0 5 0)) gives 4
    -- a newtype has one constructor, or is a record, and one kept field of its own
    ∷ place7 (import_of 3 1 0 (Vn 0 1 0)) gives 5
    ∷ place7 (import_of 3 1 1 (Vn 0 1 0)) gives 4
    ∷ place7 (I 0 0 3 0 2 ∷ Ct 1 2 1 ∷ F 2 0 1 ∷ F 3 0 0 ∷ Vn 0 1 0 ∷ []) gives 4
    ∷ place7 (I 0 0 2 0 2 ∷ F 2 0 1 ∷ F 3 0 0 ∷ Vn 0 1 0 ∷ []) gives 4
    ∷ place7 (import_of 1 1 0 (Vn 0 1 0)) gives 4
    ∷ place7 (I 0 0 2 0 1 ∷ F 1 0 1 ∷ Vn 0 1 0 ∷ I 1 0 2 0 1 ∷ F 1 0 1 ∷ Vn 0 1 0 ∷ []) gives 6
    ∷ place7 (I 0 0 2 0 1 ∷ F 1 0 0 ∷ Vn 0 1 0 ∷ []) gives 2
    -- a struct is a record or a variant, 3 an abbreviation, 4 abstract
    ∷ place7 (I 0 0 2 0 0 ∷ Vn 0 2 0 ∷ I 0 0 3 0 0 ∷ Vn 0 2 0 ∷ I 0 0 1 0 0 ∷ Vn 0 3 0 ∷ I 0 0 0 0 0 ∷ Vn 0 4 0 ∷ []) gives 8
    ∷ place7 (I 0 0 0 0 0 ∷ Vn 0 2 0 ∷ []) gives 1
    ∷ place7 (I 0 0 1 0 0 ∷ Vn 0 2 0 ∷ []) gives 1
    ∷ place7 (I 0 0 0 0 0 ∷ Vn 0 3 0 ∷ []) gives 1
    ∷ place7 (I 0 0 2 0 0 ∷ Vn 0 3 0 ∷ []) gives 1
    ∷ place7 (I 0 0 1 0 0 ∷ Vn 0 4 0 ∷ []) gives 1
    ∷ []

pub verdicts_tested : Passed row7_cases
unfolding row7_cases
verdicts_tested = refl

-- ---- the two sheets
unfoldable pub verdict_cases : List (Case (List Line))
unfolding verdicts
verdict_cases =
    verdicts (N 0 ∷ Y 1 0 0 0 ∷ []) [] gives (N 0 ∷ Y 1 0 0 0 ∷ [])
    -- a local declaration with D made I, its tags, its keeps and its V; an import as it was
    ∷ verdicts (N 0
    ∷ A 0
    ∷ Y 1 0 0 0
    ∷ D 9 2 3 1 2
    ∷ P 5
    ∷ C 20 2
    ∷ F 30 1 0
    ∷ F 31 2 0
    ∷ C 21 1
    ∷ F 30 3 0
    ∷ V0
    ∷ I 8 0 2 0 1
    ∷ F 30 4 1
    ∷ Vn 0 1 1
    ∷ D 7 0 0 0 0
    ∷ V0
    ∷ [])
    (verdict false (L_struct []) (tagged 4 20 (true ∷ false ∷ []) [] ∷ laid 21 (true ∷ []) [] ∷ []) true
    ∷ verdict true L_erased (laid 8 (false ∷ []) [] ∷ []) false
    ∷ verdict true L_opaque [] false
    ∷ [])
    gives (N 0
    ∷ A 0
    ∷ Y 1 0 0 0
    ∷ I 9 2 3 1 2
    ∷ P 5
    ∷ Ct 20 2 5
    ∷ F 30 1 1
    ∷ F 31 2 0
    ∷ C 21 1
    ∷ F 30 3 1
    ∷ Vn 0 2 1
    ∷ I 8 0 2 0 1
    ∷ F 30 4 1
    ∷ Vn 0 1 1
    ∷ I 7 0 0 0 0
    ∷ Vn 1 4 0
    ∷ [])
    ∷ []

pub verdicts_filled : Passed verdict_cases
unfolding verdict_cases
verdicts_filled = refl

unfoldable pub told_cases : List (Case Line)
unfolding told_after list
told_cases =
    -- a line of the header, which no declaration has, and an import's lines: as they are
    told bad (N 0) gives N 0
    ∷ told (I 9 0 2 0 2) (I 9 0 2 0 2) gives I 9 0 2 0 2
    ∷ told (I 9 0 2 0 2) (F 30 0 1) gives F 30 0 1
    ∷ told (I 9 0 2 0 2) (F 31 1 0) gives F 31 1 0
    ∷ told (I 9 0 3 0 2) (Ct 20 4 2) gives Ct 20 4 2
    ∷ told (I 9 0 2 0 2) (Vn 0 1 0) gives Vn 0 1 0
    -- a local declaration's D line
    ∷ told (D 9 2 3 1 2) (D 9 2 3 1 2) gives I 9 2 3 1 2
    -- its P lines, and its C lines: tags of two, and none of one
    ∷ told (D 9 2 3 1 2) (P 5) gives P 5
    ∷ told (D 9 2 3 1 2) (C 20 4) gives Ct 20 4 1
    ∷ told_after 1 (D 9 2 3 1 2) (C 21 4) gives Ct 21 4 2
    ∷ told (D 9 2 3 1 1) (C 20 4) gives C 20 4
    -- its F lines: of the types unit and 7, erased, and of int and 8, kept
    ∷ told (D 9 2 3 1 2) (F 30 0 0) gives F 30 0 0
    ∷ told (D 9 2 3 1 2) (F 31 1 0) gives F 31 1 1
    ∷ told (D 9 2 3 1 2) (F 32 2 0) gives F 32 2 0
    ∷ told (D 9 2 3 1 2) (F 33 3 0) gives F 33 3 1
    -- its V line
    ∷ told (D 9 2 3 1 2) V0 gives Vn 0 2 1
    ∷ []

pub lines_told : Passed told_cases
unfolding told_cases
lines_told = refl

unfoldable pub left_cases : List (Case (List Line))
unfolding left list
left_cases =
    -- the N lines alone are taken over
    left (N 0 ∷ N 1 ∷ A 0 ∷ Y 0 0 0 0 ∷ D 0 0 0 0 0 ∷ V0 ∷ []) [] gives (N 0 ∷ N 1 ∷ [])
    -- each body, its flags and parameters kept
    ∷ left [] ((decl 9 2 (5 ∷ 6 ∷ []) TAbstract).dtype
    ∷ (decl 8 0 [] (TAbbrev int)).dtype
    ∷ (decl 7 0 (5 ∷ []) (TRecord (field 30 TUnit ∷ field 31 TExn ∷ []))).dtype
    ∷ (decl 6 0 [] (TVariant (ctor 20 (field 30 (TBuf TAny) ∷ []) ∷ ctor 21 [] ∷ []))).dtype
    ∷ [])
    gives (Y 4 0 32 0
    ∷ Y 0 0 0 0
    ∷ Y 2 0 0 0
    ∷ Y 1 0 0 0
    ∷ Y 10 3 0 0
    ∷ D 9 2 0 2 0
    ∷ P 5
    ∷ P 6
    ∷ V0
    ∷ D 8 0 1 0 0
    ∷ V0
    ∷ D 7 0 2 1 2
    ∷ P 5
    ∷ F 30 1 0
    ∷ F 31 2 0
    ∷ V0
    ∷ D 6 0 3 0 2
    ∷ C 20 1
    ∷ F 30 4 0
    ∷ C 21 0
    ∷ V0
    ∷ [])
    -- each kind: its parts, then its A lines, then its own line, and nothing shared
    ∷ left (N 0 ∷ [])
    ((decl 0 0 []
    (TAbbrev
    (tuple
    (TVar 7
    ∷ TInt 1 8
    ∷ TFloat 2
    ∷ TConst 3
    ∷ TArrow TAny 2 TExn
    ∷ app 7 (TUnit ∷ TExn ∷ [])
    ∷ tuple (TAny ∷ [])
    ∷ TBuf TExn
    ∷ TRef 1 TExn
    ∷ TInline TExn
    ∷ app 8 []
    ∷ [])))
    ).dtype
    ∷ [])
    gives (N 0
    ∷ map A (7 ∷ 8 ∷ 10 ∷ 0 ∷ 1 ∷ 2 ∷ 3 ∷ 6 ∷ 9 ∷ 11 ∷ 13 ∷ 15 ∷ 17 ∷ 18 ∷ [])
    ++ (Y 3 7 0 0
    ∷ Y 4 1 8 0
    ∷ Y 5 2 0 0
    ∷ Y 6 3 0 0
    ∷ Y 1 0 0 0
    ∷ Y 2 0 0 0
    ∷ Y 7 4 2 5
    ∷ Y 0 0 0 0
    ∷ Y 2 0 0 0
    ∷ Y 8 7 0 2
    ∷ Y 1 0 0 0
    ∷ Y 9 2 1 0
    ∷ Y 2 0 0 0
    ∷ Y 10 12 0 0
    ∷ Y 2 0 0 0
    ∷ Y 11 1 14 0
    ∷ Y 2 0 0 0
    ∷ Y 12 16 0 0
    ∷ Y 8 8 0 0
    ∷ Y 9 3 11 0
    ∷ D 0 0 1 0 19
    ∷ V0
    ∷ []))
    ∷ []

pub left_written : Passed left_cases
unfolding left_cases
left_written = refl
