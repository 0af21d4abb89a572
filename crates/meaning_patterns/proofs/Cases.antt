-- The tests of a sheet's pattern: what row 5, the pattern, row 13 and the lines written give for Q lines as a sheet
-- has them, in tables under a claim each. Assumes nothing.
use Rattle.std.specs.Prelude.{refl, List, [], ◌∷◌, ◌++◌, map, Bool, true, false, ℕ, length}
use Rattle.sheet.specs.Line.{Line, row}
use Rattle.sheet.specs.Sheet.{first}
use Rattle.model.specs.Cty.{TUnit}
use Rattle.model.specs.Decl.{TRecord, TVariant, ctors_of, L_erased, Decl, table}
use Rattle.model.proofs.Cases.{Case, ◌gives◌, Passed, int, name, field, ctor, one, decl, import, laid, verdict}
use Rattle.model_patterns.specs.Pat.{Pat, PWild, PVar, PConst, parts}
use Rattle.model_patterns.proofs.Cases.{list, entries, ◌≔◌, ctor_pat, record_pat, tuple, either, in_program}
use Rattle.meaning_patterns.specs.Patterns.{
  pattern_line,
  freed_line,
  linked_before,
  good_link,
  good_name,
  good_last,
  good_previous,
  good_pattern,
  list_to,
  and_last,
  pattern_of,
  piece,
  pieces_after,
  pattern,
  fields_among,
  declared_fields,
  row13,
  pat_lines,
  rewritten_lines,
}

-- ---- how lines are written
-- kind, number, last, previous, field
abbrev pub Q : ℕ → ℕ → ℕ → ℕ → ℕ → Line
Q kind n last previous f = row pattern_line (kind ∷ n ∷ last ∷ previous ∷ f ∷ [])

abbrev pub U : ℕ → Line
U n = row freed_line (n ∷ 0 ∷ 0 ∷ 0 ∷ 0 ∷ [])

-- ---- what is tested
-- row 5 at each of the lines, by the count of names
unfoldable pub passes : ℕ → List Line → List Bool
unfolding table good_pattern good_name good_link linked_before first good_previous good_last
passes names qs = table (good_pattern names qs) (length qs)

unfoldable pub denoted : List Line → Pat
unfolding pattern pieces_after piece list_to and_last pattern_of
denoted = pattern

-- row 13 at each of the lines
unfoldable pub refused : List Decl → List Line → List Bool
unfolding table row13 pieces_after piece list_to and_last pattern_of declared_fields fields_among ctors_of parts
refused ds qs = table (row13 ds qs) (length qs)

unfoldable pub numbers : Pat → List (List ℕ)
unfolding pat_lines
numbers p = pat_lines p 0 0 0

-- the lines that follow the declarations that are left
unfoldable pub left : List Decl → List Line → List Line
unfolding rewritten_lines pat_lines denoted in_program
left ds qs = rewritten_lines (in_program ds (denoted qs))

-- ---- row 5, where there are three names
-- kinds 0 to 6, with the number 0 and no parts
unfoldable pub kind_cases : List (Case (List Bool))
unfolding passes
kind_cases =
    map (λ k. passes 3 (Q k 0 0 0 0 ∷ []) gives (true ∷ [])) (0 ∷ 1 ∷ 2 ∷ 3 ∷ 4 ∷ 5 ∷ 6 ∷ [])
    ++ map (λ k. passes 3 (Q k 0 0 0 0 ∷ []) gives (false ∷ [])) (7 ∷ 8 ∷ 9999 ∷ [])

pub seven_kinds : Passed kind_cases
unfolding kind_cases
seven_kinds = refl

-- The number is a name for kinds 1, 3 and 4, any for kind 2, and 0 for the others.
unfoldable pub number_cases : List (Case (List Bool))
unfolding passes
number_cases =
    map (λ k. passes 3 (Q k 2 0 0 0 ∷ []) gives (true ∷ [])) (1 ∷ 2 ∷ 3 ∷ 4 ∷ [])
    ++ map (λ k. passes 3 (Q k 3 0 0 0 ∷ []) gives (false ∷ [])) (1 ∷ 3 ∷ 4 ∷ [])
    ++ map (λ k. passes 3 (Q k 1 0 0 0 ∷ []) gives (false ∷ [])) (0 ∷ 5 ∷ 6 ∷ [])
    ++ (passes 3 (Q 2 9999 0 0 0 ∷ []) gives (true ∷ []) ∷ [])

pub number_by_kind : Passed number_cases
unfolding number_cases
number_by_kind = refl

-- kinds 0 to 2 have no parts
unfoldable pub leaf_cases : List (Case (List Bool))
unfolding passes
leaf_cases =
    map (λ k. passes 3 (Q 0 0 0 0 0 ∷ Q k 0 1 0 0 ∷ []) gives (true ∷ false ∷ [])) (0 ∷ 1 ∷ 2 ∷ [])
    ++ map (λ k. passes 3 (Q 0 0 0 0 0 ∷ Q k 0 1 0 0 ∷ []) gives (true ∷ true ∷ [])) (3 ∷ 5 ∷ 6 ∷ [])

pub leaves_have_no_parts : Passed leaf_cases
unfolding leaf_cases
leaves_have_no_parts = refl

-- Line q has q lines before it: a link of q names the last of these, and one over q is refused.
unfoldable pub link_cases : List (Case (List Bool))
unfolding passes
link_cases =
    passes 3 (Q 5 0 1 0 0 ∷ []) gives (false ∷ [])
    ∷ passes 3 (Q 0 0 0 1 0 ∷ Q 0 0 0 0 0 ∷ []) gives (false ∷ true ∷ [])
    ∷ passes 3 (Q 0 0 0 0 0 ∷ Q 5 0 2 0 0 ∷ []) gives (true ∷ false ∷ [])
    ∷ passes 3 (Q 0 0 0 0 0 ∷ Q 0 0 0 2 0 ∷ Q 0 0 0 0 0 ∷ []) gives (true ∷ false ∷ true ∷ [])
    ∷ passes 3 (Q 0 0 0 0 0 ∷ Q 0 0 0 1 0 ∷ Q 5 0 2 0 0 ∷ []) gives (true ∷ true ∷ true ∷ [])
    ∷ passes 3 (Q 0 0 0 0 0 ∷ Q 0 0 0 0 0 ∷ Q 5 0 1 0 0 ∷ []) gives (true ∷ true ∷ true ∷ [])
    ∷ []

pub links_point_down : Passed link_cases
unfolding link_cases
links_point_down = refl

-- A line is named once, as last or as previous, and the second line that names it is refused: also where one of the two
-- is no part of the whole (the second table).
unfoldable pub twice_cases : List (Case (List Bool))
unfolding passes
twice_cases =
    passes 3 (Q 0 0 0 0 0 ∷ Q 5 0 1 0 0 ∷ Q 5 0 1 0 0 ∷ []) gives (true ∷ true ∷ false ∷ [])
    ∷ passes 3 (Q 0 0 0 0 0 ∷ Q 0 0 0 1 0 ∷ Q 5 0 1 0 0 ∷ []) gives (true ∷ true ∷ false ∷ [])
    ∷ passes 3 (Q 0 0 0 0 0 ∷ Q 5 0 1 0 0 ∷ Q 0 0 0 1 0 ∷ Q 5 0 3 0 0 ∷ []) gives (true ∷ true ∷ false ∷ true ∷ [])
    ∷ passes 3 (Q 0 0 0 0 0 ∷ Q 0 0 0 1 0 ∷ Q 0 0 0 1 0 ∷ Q 5 0 3 0 0 ∷ []) gives (true ∷ true ∷ false ∷ true ∷ [])
    ∷ []

pub named_once : Passed twice_cases
unfolding twice_cases
named_once = refl

-- nor by one line in both places
unfoldable pub both_cases : List (Case (List Bool))
unfolding passes
both_cases =
    passes 3 (Q 0 0 0 0 0 ∷ Q 5 0 1 1 0 ∷ Q 5 0 2 0 0 ∷ []) gives (true ∷ false ∷ true ∷ [])
    ∷ passes 3 (Q 0 0 0 0 0 ∷ Q 0 0 0 0 0 ∷ Q 5 0 1 2 0 ∷ Q 5 0 3 0 0 ∷ []) gives (true ∷ true ∷ true ∷ true ∷ [])
    ∷ []

pub last_is_not_previous : Passed both_cases
unfolding both_cases
last_is_not_previous = refl

-- a field's name plus one
unfoldable pub field_cases : List (Case (List Bool))
unfolding passes
field_cases =
    passes 3 (Q 0 0 0 0 3 ∷ Q 4 0 1 0 0 ∷ []) gives (true ∷ true ∷ [])
    ∷ passes 3 (Q 0 0 0 0 4 ∷ Q 4 0 1 0 0 ∷ []) gives (false ∷ true ∷ [])
    ∷ []

pub field_is_a_name : Passed field_cases
unfolding field_cases
field_is_a_name = refl

-- all parts of a list have a field, or none has
unfoldable pub mixed_cases : List (Case (List Bool))
unfolding passes
mixed_cases =
    passes 3 (Q 0 0 0 0 0 ∷ Q 0 0 0 1 0 ∷ Q 0 0 0 0 0 ∷ []) gives (true ∷ true ∷ true ∷ [])
    ∷ passes 3 (Q 0 0 0 0 1 ∷ Q 0 0 0 1 2 ∷ Q 0 0 0 0 0 ∷ []) gives (true ∷ true ∷ true ∷ [])
    ∷ passes 3 (Q 0 0 0 0 0 ∷ Q 0 0 0 1 2 ∷ Q 0 0 0 0 0 ∷ []) gives (true ∷ false ∷ true ∷ [])
    ∷ passes 3 (Q 0 0 0 0 1 ∷ Q 0 0 0 1 0 ∷ Q 0 0 0 0 0 ∷ []) gives (true ∷ false ∷ true ∷ [])
    ∷ []

pub fields_all_or_none : Passed mixed_cases
unfolding mixed_cases
fields_all_or_none = refl

-- parts of kind 4 have fields, those of others have none
unfoldable pub owner_cases : List (Case (List Bool))
unfolding passes
owner_cases =
    map (λ k. passes 3 (Q 0 0 0 0 0 ∷ Q k 0 1 0 0 ∷ []) gives (true ∷ true ∷ [])) (3 ∷ 5 ∷ 6 ∷ [])
    ++ map (λ k. passes 3 (Q 0 0 0 0 1 ∷ Q k 0 1 0 0 ∷ []) gives (true ∷ false ∷ [])) (3 ∷ 5 ∷ 6 ∷ [])
    ++ (passes 3 (Q 0 0 0 0 1 ∷ Q 4 0 1 0 0 ∷ []) gives (true ∷ true ∷ [])
    ∷ passes 3 (Q 0 0 0 0 0 ∷ Q 4 0 1 0 0 ∷ []) gives (true ∷ false ∷ [])
    ∷ [])

pub fields_in_records_alone : Passed owner_cases
unfolding owner_cases
fields_in_records_alone = refl

-- the last line is no part: lines before it may have a previous part or a field though nothing names them
unfoldable pub whole_cases : List (Case (List Bool))
unfolding passes
whole_cases =
    passes 3 (Q 0 0 0 0 0 ∷ Q 0 0 0 1 0 ∷ []) gives (true ∷ false ∷ [])
    ∷ passes 3 (Q 0 0 0 0 1 ∷ []) gives (false ∷ [])
    ∷ passes 3 (Q 0 0 0 0 1 ∷ Q 0 0 0 1 1 ∷ []) gives (true ∷ false ∷ [])
    ∷ passes 3 (Q 0 0 0 0 1 ∷ Q 0 0 0 1 1 ∷ Q 0 0 0 0 0 ∷ []) gives (true ∷ true ∷ true ∷ [])
    ∷ []

pub whole_is_no_part : Passed whole_cases
unfolding whole_cases
whole_is_no_part = refl

-- ---- the pattern
-- Pair { a = MkLap x y; b = a }, over the names Lap MkLap ms note x y Pair a b
abbrev pub example_1 : List Line
example_1 = Q 1 4 0 0 0 ∷ Q 1 5 0 1 0 ∷ Q 3 1 2 0 8 ∷ Q 1 7 0 3 9 ∷ Q 4 6 4 0 0 ∷ []

-- ((U x | U x), 7, K y), over the names u U f x K y
abbrev pub example_2 : List Line
example_2 =
    Q 1 3 0 0 0 ∷ Q 3 1 1 0 0 ∷ Q 1 3 0 0 0 ∷ Q 3 1 3 2 0 ∷ Q 6 0 4 0 0 ∷ Q 2 7 0 5 0 ∷ Q 1 5 0 0 0 ∷ Q 3 4 7 6 0 ∷ Q 5 0 8 0 0 ∷ []

-- A x y z, over the names t A p q r x y z B; with B in its place; and with a line named twice
abbrev pub example_3 : List Line
example_3 = Q 1 5 0 0 0 ∷ Q 1 6 0 1 0 ∷ Q 1 7 0 2 0 ∷ Q 3 1 3 0 0 ∷ []

abbrev pub example_3_B : List Line
example_3_B = Q 1 5 0 0 0 ∷ Q 1 6 0 1 0 ∷ Q 1 7 0 2 0 ∷ Q 3 8 3 0 0 ∷ []

abbrev pub example_3_twice : List Line
example_3_twice = Q 1 5 0 0 0 ∷ Q 1 6 0 1 0 ∷ Q 1 7 0 1 0 ∷ Q 3 1 3 0 0 ∷ []

unfoldable pub example_cases : List (Case (List Bool))
unfolding passes
example_cases =
    passes 9 example_1 gives (true ∷ true ∷ true ∷ true ∷ true ∷ [])
    ∷ passes 6 example_2 gives (true ∷ true ∷ true ∷ true ∷ true ∷ true ∷ true ∷ true ∷ true ∷ [])
    ∷ passes 9 example_3 gives (true ∷ true ∷ true ∷ true ∷ [])
    ∷ passes 9 example_3_B gives (true ∷ true ∷ true ∷ true ∷ [])
    ∷ passes 9 example_3_twice gives (true ∷ true ∷ false ∷ true ∷ [])
    ∷ []

pub examples_pass : Passed example_cases
unfolding example_cases
examples_pass = refl

unfoldable pub pattern_cases : List (Case Pat)
unfolding denoted list entries
pattern_cases =
    denoted example_1 gives record_pat 6 (7 ≔ ctor_pat 1 (PVar 4 ∷ PVar 5 ∷ []) ∷ 8 ≔ PVar 7 ∷ [])
    ∷ denoted example_2 gives tuple (either (ctor_pat 1 (PVar 3 ∷ []) ∷ ctor_pat 1 (PVar 3 ∷ []) ∷ []) ∷ PConst 7 ∷ ctor_pat 4 (PVar 5 ∷ []) ∷ [])
    ∷ denoted example_3 gives ctor_pat 1 (PVar 5 ∷ PVar 6 ∷ PVar 7 ∷ [])
    ∷ []

pub examples_denoted : Passed pattern_cases
unfolding pattern_cases
examples_denoted = refl

-- each kind, over two parts where it has parts
unfoldable pub kinds_cases : List (Case Pat)
unfolding denoted list entries
kinds_cases =
    denoted (Q 0 0 0 0 0 ∷ []) gives PWild
    ∷ denoted (Q 1 5 0 0 0 ∷ []) gives PVar 5
    ∷ denoted (Q 2 9999 0 0 0 ∷ []) gives PConst 9999
    ∷ denoted (Q 1 5 0 0 0 ∷ Q 1 6 0 1 0 ∷ Q 3 7 2 0 0 ∷ []) gives ctor_pat 7 (PVar 5 ∷ PVar 6 ∷ [])
    ∷ denoted (Q 1 5 0 0 4 ∷ Q 1 6 0 1 3 ∷ Q 4 7 2 0 0 ∷ []) gives record_pat 7 (3 ≔ PVar 5 ∷ 2 ≔ PVar 6 ∷ [])
    ∷ denoted (Q 1 5 0 0 0 ∷ Q 1 6 0 1 0 ∷ Q 5 0 2 0 0 ∷ []) gives tuple (PVar 5 ∷ PVar 6 ∷ [])
    ∷ denoted (Q 1 5 0 0 0 ∷ Q 1 6 0 1 0 ∷ Q 6 0 2 0 0 ∷ []) gives either (PVar 5 ∷ PVar 6 ∷ [])
    ∷ denoted (Q 3 7 0 0 0 ∷ []) gives ctor_pat 7 []
    ∷ []

pub kinds_denoted : Passed kinds_cases
unfolding kinds_cases
kinds_denoted = refl

-- A list goes from its last part by `previous`, whatever lines stand between: two lists at once, and one in one. A list
-- ends at `last`, and lines that nothing names are no part of the whole.
unfoldable pub chain_cases : List (Case Pat)
unfolding denoted list
chain_cases =
    denoted (Q 1 0 0 0 0 ∷ Q 1 1 0 0 0 ∷ Q 1 2 0 1 0 ∷ Q 1 3 0 2 0 ∷ Q 5 0 3 0 0 ∷ Q 6 0 4 5 0 ∷ Q 5 0 6 0 0 ∷ [])
    gives tuple (tuple (PVar 0 ∷ PVar 2 ∷ []) ∷ either (PVar 1 ∷ PVar 3 ∷ []) ∷ [])
    ∷ denoted (Q 1 0 0 0 0 ∷ Q 5 0 0 1 0 ∷ Q 1 2 0 2 0 ∷ Q 5 0 3 0 0 ∷ []) gives tuple (PVar 0 ∷ tuple [] ∷ PVar 2 ∷ [])
    ∷ denoted (Q 1 0 0 0 0 ∷ Q 1 1 0 1 0 ∷ Q 1 2 0 2 0 ∷ Q 5 0 2 0 0 ∷ []) gives tuple (PVar 0 ∷ PVar 1 ∷ [])
    ∷ denoted (Q 1 0 0 0 0 ∷ Q 5 0 1 0 0 ∷ Q 1 2 0 0 0 ∷ Q 5 0 3 0 0 ∷ []) gives tuple (PVar 2 ∷ [])
    ∷ denoted (Q 1 0 0 0 0 ∷ Q 1 1 0 0 0 ∷ []) gives PVar 1
    ∷ []

pub parts_by_previous : Passed chain_cases
unfolding chain_cases
parts_by_previous = refl

-- ---- row 13
-- over the types of the three examples
abbrev pub laps : List Decl
laps =
    decl 0 0 [] (one 1 (field 2 int ∷ field 3 TUnit ∷ []))
    ∷ decl 6 0 [] (TRecord (field 7 (name 0) ∷ field 8 TUnit ∷ field 2 int ∷ []))
    ∷ []

abbrev pub imported_unit : List Decl
imported_unit = import (decl 0 0 [] (one 1 (field 2 TUnit ∷ []))) (verdict true L_erased (laid 1 (false ∷ []) [] ∷ []) false) ∷ []

abbrev pub sums : List Decl
sums = decl 0 0 [] (TVariant (ctor 1 (field 2 TUnit ∷ field 3 int ∷ field 4 TUnit ∷ []) ∷ ctor 8 [] ∷ [])) ∷ []

-- a line of kind 3 with that name and two parts
abbrev pub of_two : ℕ → List Line
of_two n = Q 0 0 0 0 0 ∷ Q 0 0 0 1 0 ∷ Q 3 n 2 0 0 ∷ []

-- One with the declared fields, dropped ones included, with fewer and with more; a record by its type's name; an import.
unfoldable pub count_cases : List (Case (List Bool))
unfolding refused
count_cases =
    refused laps example_1 gives (false ∷ false ∷ false ∷ false ∷ false ∷ [])
    ∷ refused imported_unit example_2 gives (false ∷ false ∷ false ∷ false ∷ false ∷ false ∷ false ∷ false ∷ false ∷ [])
    ∷ refused sums example_3 gives (false ∷ false ∷ false ∷ false ∷ [])
    ∷ refused sums example_3_B gives (false ∷ false ∷ false ∷ true ∷ [])
    ∷ refused laps (of_two 1) gives (false ∷ false ∷ false ∷ [])
    ∷ refused sums (of_two 1) gives (false ∷ false ∷ true ∷ [])
    ∷ refused laps (of_two 6) gives (false ∷ false ∷ true ∷ [])
    ∷ refused laps (Q 0 0 0 0 0 ∷ Q 0 0 0 1 0 ∷ Q 0 0 0 2 0 ∷ Q 3 6 3 0 0 ∷ []) gives (false ∷ false ∷ false ∷ false ∷ [])
    ∷ refused imported_unit (of_two 1) gives (false ∷ false ∷ true ∷ [])
    ∷ refused imported_unit (Q 3 1 0 0 0 ∷ []) gives (true ∷ [])
    ∷ []

pub a_part_for_each_field : Passed count_cases
unfolding count_cases
a_part_for_each_field = refl

-- Any count is right of a foreign constructor, of a variant's type name, and of kinds other than 3.
unfoldable pub free_cases : List (Case (List Bool))
unfolding refused
free_cases =
    refused laps (of_two 5) gives (false ∷ false ∷ false ∷ [])
    ∷ refused sums (of_two 0) gives (false ∷ false ∷ false ∷ [])
    ∷ refused [] (of_two 1) gives (false ∷ false ∷ false ∷ [])
    ∷ refused laps (Q 0 0 0 0 1 ∷ Q 4 6 1 0 0 ∷ []) gives (false ∷ false ∷ [])
    ∷ refused sums (Q 1 1 0 0 0 ∷ Q 2 1 0 0 0 ∷ []) gives (false ∷ false ∷ [])
    ∷ []

pub others_uncounted : Passed free_cases
unfolding free_cases
others_uncounted = refl

-- also a line outside of the whole is counted, and each line by its own list
unfoldable pub outside_cases : List (Case (List Bool))
unfolding refused
outside_cases =
    refused laps (Q 3 1 0 0 0 ∷ Q 0 0 0 0 0 ∷ []) gives (true ∷ false ∷ [])
    ∷ refused laps (Q 0 0 0 0 0 ∷ Q 0 0 0 1 0 ∷ Q 3 1 2 0 0 ∷ Q 3 1 3 0 0 ∷ []) gives (false ∷ false ∷ false ∷ true ∷ [])
    ∷ []

pub every_line_counted : Passed outside_cases
unfolding outside_cases
every_line_counted = refl

-- ---- lines
-- children from left to right before their parent, numbered from 0
unfoldable pub numbers_cases : List (Case (List (List ℕ)))
unfolding numbers list entries
numbers_cases =
    numbers PWild gives ((0 ∷ 0 ∷ 0 ∷ 0 ∷ 0 ∷ []) ∷ [])
    ∷ numbers (PConst 7) gives ((2 ∷ 7 ∷ 0 ∷ 0 ∷ 0 ∷ []) ∷ [])
    ∷ numbers (ctor_pat 4 []) gives ((3 ∷ 4 ∷ 0 ∷ 0 ∷ 0 ∷ []) ∷ [])
    ∷ numbers (record_pat 6 (7 ≔ PVar 4 ∷ 8 ≔ PVar 5 ∷ []))
    gives ((1 ∷ 4 ∷ 0 ∷ 0 ∷ 8 ∷ []) ∷ (1 ∷ 5 ∷ 0 ∷ 1 ∷ 9 ∷ []) ∷ (4 ∷ 6 ∷ 2 ∷ 0 ∷ 0 ∷ []) ∷ [])
    ∷ numbers (tuple (either (PVar 1 ∷ PVar 2 ∷ []) ∷ tuple (PVar 3 ∷ []) ∷ PWild ∷ []))
    gives
    ((1 ∷ 1 ∷ 0 ∷ 0 ∷ 0 ∷ [])
    ∷ (1 ∷ 2 ∷ 0 ∷ 1 ∷ 0 ∷ [])
    ∷ (6 ∷ 0 ∷ 2 ∷ 0 ∷ 0 ∷ [])
    ∷ (1 ∷ 3 ∷ 0 ∷ 0 ∷ 0 ∷ [])
    ∷ (5 ∷ 0 ∷ 4 ∷ 3 ∷ 0 ∷ [])
    ∷ (0 ∷ 0 ∷ 0 ∷ 5 ∷ 0 ∷ [])
    ∷ (5 ∷ 0 ∷ 6 ∷ 0 ∷ 0 ∷ [])
    ∷ [])
    ∷ []

pub lines_numbered : Passed numbers_cases
unfolding numbers_cases
lines_numbered = refl

-- the new pattern, then the freed names in order, repetitions kept
unfoldable pub left_cases : List (Case (List Line))
unfolding left
left_cases =
    left laps example_1 gives (Q 1 4 0 0 8 ∷ Q 4 6 1 0 0 ∷ U 5 ∷ U 7 ∷ [])
    ∷ left imported_unit example_2
    gives (Q 0 0 0 0 0 ∷ Q 0 0 0 1 0 ∷ Q 6 0 2 0 0 ∷ Q 2 7 0 3 0 ∷ Q 1 5 0 0 0 ∷ Q 3 4 5 4 0 ∷ Q 5 0 6 0 0 ∷ U 3 ∷ U 3 ∷ [])
    ∷ left sums example_3 gives (Q 1 6 0 0 0 ∷ Q 3 1 1 0 0 ∷ U 5 ∷ U 7 ∷ [])
    ∷ []

pub examples_written : Passed left_cases
unfolding left_cases
examples_written = refl

-- The lines of a pattern without unused lines come back where no type is lost; the lines written for a pattern denote it
-- again.
unfoldable pub again_cases : List (Case (List Line))
unfolding left
again_cases = map (λ qs. left [] qs gives qs) (example_1 ∷ example_2 ∷ example_3 ∷ [])

pub read_again : Passed again_cases
unfolding again_cases
read_again = refl
