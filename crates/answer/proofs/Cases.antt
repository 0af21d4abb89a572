-- What the definitions answer to whole sheets: every code with its place, what the outputs hold, and a sheet built in units.
-- Assumes nothing.
use Rattle.std.specs.Prelude.{◌≡◌, refl, List, [], ◌∷◌, ◌++◌, map, Bool, not, ℕ, zero, suc, min, eqb, get_or}
use Rattle.std.proofs.Math.Option.{Option, none, some}
use Prim.Native.String as S
use Prim.Native.String.{String}
use Prim.Native.Char.{code}
use Rattle.number_columns.specs.Column.{pick, step, scan, read, shown, write}
use Rattle.sheet.specs.Format.{Format, base}
use Rattle.sheet.specs.Line.{row, encode, decode, decode_named, decode_row, cell, spelling, spaces, proper, padded, lettered, writes}
use Rattle.sheet.specs.Sheet.{first, line_at, count, line, lines_from, lines, encodes, row1}
use Rattle.model.specs.Cty.{lengths, append, firsts, others, walk, gather, names_of_cty, cty_vars, size, uninline, zip, look, subst_cty}
use Rattle.model.specs.Decl.{has_flag, ctors_of, layout_number, table, position, member, close, close_field, close_body, close_fields}
use Rattle.model.specs.Erasure.{cty_erased, fields_erased, body_erased, dtype_erased, marked, rule_of, rule, update, sweep, same, round, settle, start_of, start, erasure_fixpoint}
use Rattle.model.specs.Reach.{go, cyclic}
use Rattle.model.specs.Layout.{slots, kept, ctor_layout, ctor_layouts, first_kept, newtype_of_ctor, newtype_of, candidate, candidates, positions, type_names, steps, passed, passes, guard_next, dropped, collapse, layout_of_body, layout_of, compute_layouts}
use Rattle.model.specs.Resolve.{unfolded, abbreviation_of, unfold_body, unfold_dtype, unfold_of, unfolds, unfold_name, attach, instance, applied, resolve, bind, sized, within, surplus, checked_applied, checked, resolve_checked}
use Rattle.model.specs.Run.{all_in, collapsed_abbrev, resolved_field, resolved_ctor, struct_body, rw_decl, record_body, record_verdict, record_of, info, somes, layouts_of, run, unfold_next, returns, field_types, resolves, fault_code, decl_fault}
use Rattle.meaning.specs.Program.{name_line, verdict_line, select, before, groups, list_of, tree, trees_after, trees, field_of, ctor_of, body_of, dtype_of, keeps, keeps_of, ctor_layouts_by, layout_by, info_of, decl_of, program}
use Rattle.meaning.specs.Rows.{announced, due_header, due, due_after, raw, raws, row3, params_after, row4, zeros_from, is_width, is_list, good_type, good_head, good_numbers, row5, equal, repeats, row6, last_head, kept_after, ctors_after, good_verdict, good_verdicts, row7}
use Rattle.meaning.specs.Output.{fill_third, fill_verdict, all_slots, fill, fill_all, verdict_lines, put, emit, field_lines, ctor_lines, decl_frame, decl_lines, program_lines, left_lines}
use Rattle.model.specs.Names.{body_names, dtype_names}
use Rattle.model.proofs.Cases as C
use Rattle.model.proofs.Cases.{◌gives◌, Passed}
use Rattle.answer.specs.Answer.{Answer, row8, fault_at, row9_10, verdict_sheet, left_sheet, sheet_rows, program_rows, output_rows, refusal, answered, answer, after, Given, called}
use Rattle.answer.specs.Cut.{Sheets, sheets_of, builds, join, Whole, program_names}

-- ---- cases
-- The lines that a case tells: all of the program's output, or line R, the V lines of the verdict
-- sheet, and the lines of the left sheet after its N lines.
pub data View : Type 0 where
  whole summary : View

-- a case's number, its sheet, and what the program writes to it; spaces at a line's end are not shown
pub record Case : Type 0 where
  pub number : ℕ
  pub view : View
  pub sheet : List String
  pub told : List String

-- ---- lines of text
unfoldable pub codes : String → List ℕ
codes S.[] = []
codes (S.◌∷◌ c s) = code c ∷ codes s

-- the first n bytes with spaces for those that are missing, and then byte 10
unfoldable pub pad : ℕ → List ℕ → List ℕ
pad zero bs = 10 ∷ []
pad (suc n) [] = 32 ∷ pad n []
pad (suc n) (b ∷ bs) = b ∷ pad n bs

abbrev pub bytes : String → List ℕ
bytes s = pad 31 (codes s)

unfoldable pub joined : List (List ℕ) → List ℕ
joined [] = []
joined (l ∷ ls) = l ++ joined ls

-- the lines of a sheet as bytes
unfoldable pub split : List ℕ → List (List ℕ)
split b = table (line_at 6 b) (count 6 b)

-- those whose letter passes
unfoldable pub lettered_by : (ℕ → Bool) → List (List ℕ) → List (List ℕ)
lettered_by p [] = []
lettered_by p (l ∷ ls) = let r : List (List ℕ) = lettered_by p ls in pick (p (get_or l 0 0)) (l ∷ r) r

-- ---- what is written
-- line R
unfoldable pub line_r : Answer → List ℕ
line_r a = encode 6 (row 82 (a.code ∷ min a.place 999999 ∷ a.rounds ∷ 0 ∷ 0 ∷ []))

unfoldable pub seen : View → Answer → List (List ℕ)
seen whole a = line_r a ∷ split a.verdict ++ split a.left
seen summary a =
    line_r a
    ∷ lettered_by (λ x. eqb x verdict_line) (split a.verdict)
    ++ lettered_by (λ x. not (eqb x name_line)) (split a.left)

-- what the definitions give for a case's sheet, with outputs of 65,536 bytes
unfoldable pub given : Case → List (List ℕ)
unfolding codes pad joined split lettered_by line_r seen encode decode decode_named decode_row cell spelling spaces proper padded lettered writes first line_at line lines_from lines encodes row1 step scan read shown write lengths append firsts others walk gather names_of_cty cty_vars size uninline zip look subst_cty has_flag ctors_of layout_number table position member close close_field close_body close_fields cty_erased fields_erased body_erased dtype_erased marked rule_of rule update sweep same round settle start_of start erasure_fixpoint go cyclic slots kept ctor_layout ctor_layouts first_kept newtype_of_ctor newtype_of candidate candidates positions type_names steps passes passed abbreviation_of guard_next dropped collapse layout_of_body layout_of compute_layouts unfold_body unfold_dtype unfold_of unfolds unfold_name attach instance applied resolve bind sized within surplus checked_applied checked resolve_checked all_in collapsed_abbrev resolved_field resolved_ctor struct_body rw_decl record_body record_verdict record_of info somes layouts_of run unfolded unfold_next returns field_types resolves fault_code decl_fault select before groups list_of tree trees_after trees field_of ctor_of body_of dtype_of keeps keeps_of ctor_layouts_by layout_by info_of decl_of program announced due_header due due_after raw raws row3 params_after row4 zeros_from is_width is_list good_type good_head good_numbers row5 equal repeats row6 last_head kept_after ctors_after good_verdict good_verdicts row7 fill_third fill_verdict all_slots fill fill_all verdict_lines put emit field_lines ctor_lines decl_frame decl_lines program_lines left_lines row8 fault_at row9_10 verdict_sheet left_sheet sheet_rows program_rows output_rows refusal answered answer
given c = seen c.view (answer base (joined (map bytes c.sheet)) 65536 65536)

unfoldable pub expected : Case → List (List ℕ)
unfolding codes pad
expected c = map bytes c.told

-- ---- codes
-- The base format but for a few limits, so that short sheets pass them.
abbrev pub small : Format
small = record {
  columns = 6;
  lines = 12;
  names = 4;
  args = 512;
  types = 1024;
  decls = 96;
  ctors = 256;
  fields = 512;
  params = 8;
  patterns = 3;
  nodes = 3;
  fuel = 100;
}

-- all that is told of a sheet with these bytes after its lines, and outputs of v and l bytes
unfoldable pub answers : List String → List ℕ → ℕ → ℕ → List (List ℕ)
unfolding given
answers sheet more v l = seen whole (answer small (joined (map bytes sheet) ++ more) v l)

-- a refusal: line R alone
unfoldable pub refuses : ℕ → ℕ → List (List ℕ)
unfolding given
refuses code place = encode 6 (row 82 (code ∷ place ∷ 0 ∷ 0 ∷ 0 ∷ [])) ∷ []

unfoldable pub accepts : List String → List (List ℕ)
unfolding codes pad
accepts ls = map bytes ls

-- outputs long enough for every sheet below
abbrev pub told_of : List String → List (List ℕ)
told_of sheet = answers sheet [] 999 999

-- an erased type, with its name and three lines of the verdict sheet for one of the left sheet
abbrev pub short : List String
short = "N     0a" ∷ "D     0     0     3     0     0" ∷ "V     0     0     0     0     0" ∷ []

abbrev pub short_verdict : List String
short_verdict = "N     0a" ∷ "I     0     0     3     0     0" ∷ "V     1     0     0     0     0" ∷ []

abbrev pub short_left : List String
short_left = "N     0a" ∷ []

-- the header of two declarations: `a`, of four nodes, and `b = a exn`, with an argument too many
abbrev pub for_two : List String
for_two =
    "N     0a"
    ∷ "N     1b"
    ∷ "A     0     0     0     0     0"
    ∷ "Y     2     0     0     0     0"
    ∷ "Y    10     0     0     0     0"
    ∷ "Y    10     1     0     0     0"
    ∷ "Y    10     2     0     0     0"
    ∷ "Y     8     0     0     1     0"
    ∷ []

abbrev pub four : List String
four = "D     0     0     1     0     3" ∷ "V     0     0     0     0     0" ∷ []

abbrev pub many : List String
many = "D     1     0     1     0     4" ∷ "V     0     0     0     0     0" ∷ []

unfoldable pub code_cases : List (C.Case (List (List ℕ)))
unfolding answers refuses accepts
code_cases =
    -- 1 not whole lines, whatever they are; more lines than the limit
    answers ("X" ∷ []) (10 ∷ []) 999 999 gives refuses 1 0
    ∷ told_of ("X" ∷ "" ∷ "" ∷ "" ∷ "" ∷ "" ∷ "" ∷ "" ∷ "" ∷ "" ∷ "" ∷ "" ∷ "" ∷ []) gives refuses 1 0
    -- 2 an unknown letter, before the V line that is out of order
    ∷ told_of ("V     0     0     0     0     0" ∷ "X     0     0     0     0     0" ∷ []) gives refuses 2 1
    -- 3 out of order, before the fifth name; a sheet that ends early
    ∷ told_of
    ("N     0a"
    ∷ "N     1b"
    ∷ "N     2c"
    ∷ "N     3d"
    ∷ "N     4e"
    ∷ "V     0     0     0     0     0"
    ∷ [])
    gives refuses 3 5
    ∷ told_of ("N     0a" ∷ "D     0     0     0     0     0" ∷ []) gives refuses 3 2
    -- 4 a name too many, before the number out of sequence
    ∷ told_of ("N     1a" ∷ "N     1b" ∷ "N     2c" ∷ "N     3d" ∷ "N     4e" ∷ []) gives refuses 4 4
    -- 5 a number out of sequence, before the equal spelling
    ∷ told_of ("N     0a" ∷ "N     1a" ∷ "N     3b" ∷ []) gives refuses 5 2
    -- 6 an equal declared name, before the V line that is not 0
    ∷ told_of
    ("N     0a"
    ∷ "D     0     0     0     0     0"
    ∷ "V     0     0     1     0     0"
    ∷ "D     0     0     0     0     0"
    ∷ "V     0     0     0     0     0"
    ∷ [])
    gives refuses 6 3
    -- 7 a V line that is not 0, before the abbreviation of itself
    ∷ told_of
    ("N     0a"
    ∷ "N     1b"
    ∷ "Y     8     0     0     0     0"
    ∷ "D     0     0     1     0     0"
    ∷ "V     0     0     0     0     0"
    ∷ "D     1     0     0     0     0"
    ∷ "V     0     0     1     0     0"
    ∷ [])
    gives refuses 7 6
    -- 8 an abbreviation of itself, before the type of too many nodes
    ∷ told_of
    ("N     0a"
    ∷ "N     1b"
    ∷ "Y     8     0     0     0     0"
    ∷ "Y    10     0     0     0     0"
    ∷ "Y    10     1     0     0     0"
    ∷ "Y    10     2     0     0     0"
    ∷ "D     1     0     1     0     3"
    ∷ "V     0     0     0     0     0"
    ∷ "D     0     0     1     0     0"
    ∷ "V     0     0     0     0     0"
    ∷ [])
    gives refuses 8 8
    -- 9 a newtype with too many arguments, in the second declaration
    ∷ told_of
    ("N     0a"
    ∷ "N     1b"
    ∷ "A     0     0     0     0     0"
    ∷ "Y     2     0     0     0     0"
    ∷ "Y     8     0     0     1     0"
    ∷ "D     0     0     2     0     1"
    ∷ "F     0     0     0     0     0"
    ∷ "V     0     0     0     0     0"
    ∷ "D     1     0     1     0     1"
    ∷ "V     0     0     0     0     0"
    ∷ [])
    gives refuses 9 8
    -- 10 a type of four nodes, and of three; before an output too short
    ∷ answers
    ("N     0a"
    ∷ "Y     2     0     0     0     0"
    ∷ "Y    10     0     0     0     0"
    ∷ "Y    10     1     0     0     0"
    ∷ "Y    10     2     0     0     0"
    ∷ "D     0     0     1     0     3"
    ∷ "V     0     0     0     0     0"
    ∷ []) [] 0 0
    gives refuses 10 5
    ∷ answers
    ("N     0a"
    ∷ "Y     2     0     0     0     0"
    ∷ "Y    10     0     0     0     0"
    ∷ "Y    10     1     0     0     0"
    ∷ "Y    10     2     0     0     0"
    ∷ "D     0     0     1     0     2"
    ∷ "V     0     0     0     0     0"
    ∷ []) [] 0 0
    gives refuses 11 224
    -- 9 and 10 in the order of the sheet
    ∷ told_of (for_two ++ four ++ many) gives refuses 10 8
    ∷ told_of (for_two ++ many ++ four) gives refuses 9 8
    -- 11 and 12 by one byte, and both outputs exact
    ∷ answers short [] 95 32 gives refuses 11 96
    ∷ answers short [] 95 31 gives refuses 11 96
    ∷ answers short [] 96 31 gives refuses 12 32
    ∷ answers short [] 96 32 gives accepts ("R     0     0     2     0     0" ∷ short_verdict ++ short_left)
    ∷ []

-- Each code at its place.
pub codes_given : Passed code_cases
unfolding code_cases
codes_given = refl

-- ---- outputs
-- what is written, and then the bytes as they were
pub outputs_after : after (1 ∷ 2 ∷ []) (6 ∷ 7 ∷ 8 ∷ 9 ∷ []) ≡ 1 ∷ 2 ∷ 8 ∷ 9 ∷ []
outputs_after = refl

-- outputs that hold sevens
abbrev pub sevens : ℕ → List ℕ
sevens n = table (λ i. 7) n

-- what a call for `short` gives, with outputs of v and l bytes
unfoldable pub short_call : ℕ → ℕ → Given
unfolding given called
short_call v l = called small (joined (map bytes short)) (sevens v) (sevens l)

unfoldable pub call_cases : List (C.Case Given)
unfolding short_call
call_cases =
    -- the verdict sheet goes to the verdict output, the left sheet to the left one; bytes past them stay
    short_call 98 33
    gives record {
      code = 0;
      place = 0;
      rounds = 2;
      verdict_output = joined (map bytes short_verdict) ++ (7 ∷ 7 ∷ []);
      left_output = joined (map bytes short_left) ++ (7 ∷ []);
    }
    -- a refusal: all bytes stay
    ∷ short_call 2 1
    gives record {
      code = 11;
      place = 96;
      rounds = 0;
      verdict_output = 7 ∷ 7 ∷ [];
      left_output = 7 ∷ [];
    }
    ∷ []

pub calls_give : Passed call_cases
unfolding call_cases
calls_give = refl

-- ---- units
-- units built in turn over these N and Y lines
abbrev pub header : List String
header = "N     0a" ∷ "N     1b" ∷ "N     2c" ∷ "Y     2     0     0     0     0" ∷ "Y     8     0     0     0     0" ∷ []

unfoldable pub built : List String → List (List String) → Option Sheets
unfolding given builds sheets_of
built u us = builds base 999 999 (joined (map bytes header)) (joined (map bytes u)) (map (λ ls. joined (map bytes ls)) us)

unfoldable pub sheets : List String → List String → Sheets
unfolding codes pad joined
sheets verdict left = record { verdict = joined (map bytes verdict); left = joined (map bytes left) }

-- a unit that declares a newtype, and one that unfolds it: `b = a`
abbrev pub unit_a : List String
unit_a = "D     0     0     2     0     1" ∷ "F     2     0     0     0     0" ∷ "V     0     0     0     0     0" ∷ []

abbrev pub unit_b : List String
unit_b = "D     1     0     1     0     1" ∷ "V     0     0     0     0     0" ∷ []

-- what both give, built in turn
abbrev pub both : Sheets
both =
    sheets
    (header
    ++ ("I     0     0     2     0     1"
    ∷ "F     2     0     1     0     0"
    ∷ "V     0     1     0     0     0"
    ∷ "I     1     0     1     0     1"
    ∷ "V     0     3     0     0     0"
    ∷ []))
    ("N     0a"
    ∷ "N     1b"
    ∷ "N     2c"
    ∷ "Y     2     0     0     0     0"
    ∷ "Y     2     0     0     0     0"
    ∷ "D     0     0     1     0     0"
    ∷ "V     0     0     0     0     0"
    ∷ "D     1     0     1     0     1"
    ∷ "V     0     0     0     0     0"
    ∷ [])

unfoldable pub unit_cases : List (C.Case (Option Sheets))
unfolding built sheets
unit_cases =
    built unit_a (unit_b ∷ []) gives some both
    -- the first unit is refused, and with it all
    ∷ built ("D     0     0     0     0     0" ∷ "V     0     0     1     0     0" ∷ []) (unit_b ∷ []) gives none
    ∷ []

pub units_built : Passed unit_cases
unfolding unit_cases
units_built = refl

-- ---- the words of the cut: units joined, whole lines, the names of a program
pub units_joined : join ((1 ∷ 2 ∷ []) ∷ [] ∷ (3 ∷ []) ∷ []) ≡ 1 ∷ 2 ∷ 3 ∷ []
unfolding join
units_joined = refl

pub line_whole : Whole 6 (bytes "N     0a")
unfolding codes pad
line_whole = refl

pub names_mentioned : program_names (C.abbr 1 (C.name 2) ∷ C.abbr 3 (C.name 4) ∷ []) ≡ 2 ∷ 4 ∷ []
unfolding program_names dtype_names body_names names_of_cty gather
names_mentioned = refl
