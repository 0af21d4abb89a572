-- The cut on one sheet, three ways, and with Q lines behind it: its conditions can be met. Assumes nothing.
use Rattle.std.specs.Prelude.{◌≡◌, refl, List, [], ◌∷◌, ◌++◌, map, Bool, true, ℕ}
use Prim.Native.String.{String}
use Rattle.std.proofs.Common.{arith}
use Rattle.number_columns.specs.Column.{step, scan, read}
use Rattle.sheet.specs.Format.{base}
use Rattle.sheet.specs.Line.{decode, decode_named, decode_row, cell, spelling, spaces, proper, lettered}
use Rattle.sheet.specs.Sheet.{first, line_at, line, lines_from, lines}
use Rattle.model.specs.Cty.{walk, gather, names_of_cty}
use Rattle.model.specs.Decl.{table, position, member, close, close_field, close_body, close_fields}
use Rattle.model.specs.Names.{fields_names, ctors_names, body_names, dtype_names, undeclared}
use Rattle.meaning.specs.Program.{select, before, groups, list_of, tree, trees_after, trees, field_of, ctor_of, body_of, dtype_of, decl_of, program}
use Rattle.meaning.specs.Rows.{raw}
use Rattle.answer.proofs.Cases.{Case, summary, codes, pad, bytes, joined, given, expected}
use Rattle.answer.specs.Cut.{join, program_names}
use Rattle.answer_patterns.specs.Cut.{build, builds}
use Rattle.claims.specs.CutTest.{names_test, none_test, unit_test, units_test, header_test, tail_test, cut_test, cut_met}
use Rattle.claims.specs.Claims.{cut}

-- A lap is a newtype of milliseconds, a crossing holds a lap, milliseconds and an empty tuple, and a result
-- holds crossings in a foreign list.
unfoldable pub header_text : List String
header_text =
    "N     0lap"
    ∷ "N     1crossing"
    ∷ "N     2result"
    ∷ "N     3list"
    ∷ "N     4Lap"
    ∷ "N     5ms"
    ∷ "N     6note"
    ∷ "N     7all"
    ∷ "A     4     0     0     0     0"
    ∷ "Y     4     0    32     0     0"
    ∷ "Y     0     0     0     0     0"
    ∷ "Y     8     0     0     0     0"
    ∷ "Y     9     0     0     0     0"
    ∷ "Y     8     1     0     0     0"
    ∷ "Y     8     3     0     1     0"
    ∷ []

unfoldable pub lap_text : List String
lap_text =
    "D     0     0     3     0     1"
    ∷ "C     4     2     0     0     0"
    ∷ "F     5     0     0     0     0"
    ∷ "F     6     1     0     0     0"
    ∷ "V     0     0     0     0     0"
    ∷ []

unfoldable pub crossing_text : List String
crossing_text =
    "D     1     0     2     0     3"
    ∷ "F     0     2     0     0     0"
    ∷ "F     5     0     0     0     0"
    ∷ "F     6     3     0     0     0"
    ∷ "V     0     0     0     0     0"
    ∷ []

unfoldable pub result_text : List String
result_text =
    "D     2     4     2     0     1"
    ∷ "F     7     5     0     0     0"
    ∷ "V     0     0     0     0     0"
    ∷ []

-- the pattern `Lap ms note`
unfoldable pub pattern_text : List String
pattern_text =
    "Q     1     5     0     0     0"
    ∷ "Q     1     6     0     1     0"
    ∷ "Q     3     4     2     0     0"
    ∷ []

-- the same as bytes
unfoldable pub text : List String → List ℕ
text ls = joined (map bytes ls)

abbrev pub header : List ℕ
header = text header_text

abbrev pub lap : List ℕ
lap = text lap_text

abbrev pub crossing : List ℕ
crossing = text crossing_text

abbrev pub result : List ℕ
result = text result_text

abbrev pub lap_pattern : List ℕ
lap_pattern = text pattern_text

-- the whole is accepted: the lap collapses, the crossing loses its empty tuple
unfoldable pub whole_case : Case
whole_case = record {
  number = 0;
  view = summary;
  sheet = header_text ++ lap_text ++ crossing_text ++ result_text;
  told =
      "R     0     0     1     0     0"
      ∷ "V     0     1     0     0     0"
      ∷ "V     0     2     0     0     0"
      ∷ "V     0     2     0     0     0"
      ∷ "A     3     0     0     0     0"
      ∷ "Y     4     0    32     0     0"
      ∷ "Y     4     0    32     0     0"
      ∷ "Y     4     0    32     0     0"
      ∷ "Y     8     1     0     0     0"
      ∷ "Y     8     3     0     1     0"
      ∷ "D     0     0     1     0     0"
      ∷ "V     0     0     0     0     0"
      ∷ "D     1     0     2     0     2"
      ∷ "F     0     1     0     0     0"
      ∷ "F     5     2     0     0     0"
      ∷ "V     0     0     0     0     0"
      ∷ "D     2     4     2     0     1"
      ∷ "F     7     4     0     0     0"
      ∷ "V     0     0     0     0     0"
      ∷ [];
}

pub whole_accepted : given whole_case ≡ expected whole_case
unfolding given expected whole_case header_text lap_text crossing_text result_text
whole_accepted = refl

-- ---- three units; two, with an empty one between them; one, and the rest
unfoldable pub meets : List (List ℕ) → List ℕ → Bool
unfolding text header_text lap_text crossing_text result_text pattern_text codes pad joined names_test none_test unit_test units_test header_test tail_test cut_test join step scan read decode decode_named decode_row cell spelling spaces proper lettered first line_at line lines_from lines walk gather names_of_cty table position member close close_field close_body close_fields fields_names ctors_names body_names dtype_names undeclared select before groups list_of tree trees_after trees field_of ctor_of body_of dtype_of decl_of program raw program_names
meets units tail = cut_test 6 header units tail

way : (u : List ℕ) (us : List (List ℕ)) (tail : List ℕ) → meets (u ∷ us) tail ≡ true → (v l : ℕ) → builds base v l header u us tail ≡ build base v l ((header ++ join (u ∷ us)) ++ tail)
unfolding meets
way u us tail h v l = cut base v l ((header ++ join (u ∷ us)) ++ tail) header u us tail (omega arith) (cut_met 6 header (u ∷ us) tail h)

pub three_units : (v l : ℕ) → builds base v l header lap (crossing ∷ result ∷ []) [] ≡ build base v l ((header ++ join (lap ∷ crossing ∷ result ∷ [])) ++ [])
unfolding meets
three_units = way lap (crossing ∷ result ∷ []) [] refl

pub with_an_empty_unit : (v l : ℕ) → builds base v l header (lap ++ crossing) ([] ∷ result ∷ []) [] ≡ build base v l ((header ++ join ((lap ++ crossing) ∷ [] ∷ result ∷ [])) ++ [])
unfolding meets
with_an_empty_unit = way (lap ++ crossing) ([] ∷ result ∷ []) [] refl

pub two_units : (v l : ℕ) → builds base v l header lap ((crossing ++ result) ∷ []) [] ≡ build base v l ((header ++ join (lap ∷ (crossing ++ result) ∷ [])) ++ [])
unfolding meets
two_units = way lap ((crossing ++ result) ∷ []) [] refl

-- the pattern goes with the last unit
pub with_a_pattern : (v l : ℕ) → builds base v l header lap (crossing ∷ result ∷ []) lap_pattern ≡ build base v l ((header ++ join (lap ∷ crossing ∷ result ∷ [])) ++ lap_pattern)
unfolding meets
with_a_pattern = way lap (crossing ∷ result ∷ []) lap_pattern refl
