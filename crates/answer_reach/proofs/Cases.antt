-- What the definitions give as the reach index of small sheets. Assumes nothing.
use Rattle.std.specs.Prelude.{refl, List, [], ◌∷◌, map, Bool, true, false, ℕ, length}
use Prim.Native.String.{String}
use Rattle.sheet.specs.Format.{base}
use Rattle.model.specs.Decl.{Decl, table}
use Rattle.model.specs.Names.{fields_names, ctors_names, body_names, dtype_names}
use Rattle.model.proofs.Cases as C
use Rattle.model.proofs.Cases.{◌gives◌, Passed}
use Rattle.model_laws.specs.Lists.{trues}
use Rattle.model_laws.specs.Reach.{visit, reached}
use Rattle.meaning_patterns.proofs.Cases.{passes, refused}
use Rattle.answer.proofs.Cases.{given, bytes, joined, split}
use Rattle.answer.specs.declared.Refusal.{Refusal}
use Rattle.answer.specs.declared.Refusal.TheVariants.{Accepted, Refused}
use Rattle.answer_patterns.specs.Whole.{front_count, front, tail, sheet_rows, program_rows}
use Rattle.answer_reach.specs.Index.{decl_next, reaches, reached_count, x_line, x_lines}
use Rattle.answer_reach.specs.Given.{input_refusal, declared, listed}

-- a sheet's bytes
unfoldable pub sheet_of : List String → List ℕ
unfolding given
sheet_of ls = joined (map bytes ls)

-- its refusal, rows 11 and 12 left out
unfoldable pub refused_by : List String → Refusal
unfolding sheet_of given passes refused front_count front tail sheet_rows program_rows
refused_by ls = input_refusal base (sheet_of ls)

-- its sets, bit by bit
unfoldable pub sets_of : List String → List (List Bool)
unfolding sheet_of given front_count front fields_names ctors_names body_names dtype_names visit reached decl_next reaches declared
sets_of ls = let ds : List Decl = declared base (sheet_of ls) in table (λ i. table (reaches ds i) (length ds)) (length ds)

-- its lines X
unfoldable pub told_of : List String → List (List ℕ)
unfolding sheet_of given passes refused front_count front tail sheet_rows program_rows fields_names ctors_names body_names dtype_names visit reached trues decl_next reaches reached_count x_line x_lines declared listed
told_of ls = split (listed base (sheet_of ls) (input_refusal base (sheet_of ls)))

unfoldable pub tells : List String → List (List ℕ)
unfolding given
tells ls = map bytes ls

-- `tree` = `Leaf | Node of tree, item, tree`; `item`, a record of an integer and `ext label`, where `ext` is foreign; `label` = unit,
-- which is erased; `far`, of which nothing is known
abbrev pub tree : List String
tree =
    "N     0tree"
    ∷ "N     1item"
    ∷ "N     2Leaf"
    ∷ "N     3Node"
    ∷ "N     4l"
    ∷ "N     5v"
    ∷ "N     6r"
    ∷ "N     7label"
    ∷ "N     8ext"
    ∷ "N     9far"
    ∷ "A     3     0     0     0     0"
    ∷ "Y     8     0     0     0     0"
    ∷ "Y     8     1     0     0     0"
    ∷ "Y     4     0    32     0     0"
    ∷ "Y     8     7     0     0     0"
    ∷ "Y     8     8     0     1     0"
    ∷ "Y     0     0     0     0     0"
    ∷ "D     0     0     3     0     2"
    ∷ "C     2     0     0     0     0"
    ∷ "C     3     3     0     0     0"
    ∷ "F     4     0     0     0     0"
    ∷ "F     5     1     0     0     0"
    ∷ "F     6     0     0     0     0"
    ∷ "V     0     0     0     0     0"
    ∷ "D     1     0     2     0     2"
    ∷ "F     4     2     0     0     0"
    ∷ "F     5     4     0     0     0"
    ∷ "V     0     0     0     0     0"
    ∷ "D     7     0     1     0     5"
    ∷ "V     0     0     0     0     0"
    ∷ "D     9     0     0     0     0"
    ∷ "V     0     0     0     0     0"
    ∷ []

-- `t = C of ab`, where `ab`, imported, abbreviates `t`; and a pattern behind them
abbrev pub loop : List String
loop =
    "N     0ab"
    ∷ "N     1t"
    ∷ "N     2C"
    ∷ "N     3x"
    ∷ "Y     8     0     0     0     0"
    ∷ "Y     8     1     0     0     0"
    ∷ "D     1     0     3     0     1"
    ∷ "C     2     1     0     0     0"
    ∷ "F     3     0     0     0     0"
    ∷ "V     0     0     0     0     0"
    ∷ "I     0     0     1     0     1"
    ∷ "V     0     3     0     0     0"
    ∷ "Q     0     0     0     0     0"
    ∷ []

-- `p 'x = 'x`, `q = p`: refused by row 9
abbrev pub waiting : List String
waiting =
    "N     0p"
    ∷ "N     1q"
    ∷ "N     2x"
    ∷ "Y     3     2     0     0     0"
    ∷ "Y     8     0     0     0     0"
    ∷ "D     0     0     1     1     0"
    ∷ "P     2     0     0     0     0"
    ∷ "V     0     0     0     0     0"
    ∷ "D     1     0     1     0     1"
    ∷ "V     0     0     0     0     0"
    ∷ []

unfoldable pub set_cases : List (C.Case (List (List Bool)))
unfolding sets_of
set_cases =
    -- a type is in its own set where it comes back to itself; in fields that are not kept and in arguments of foreign names too
    sets_of tree gives ((true ∷ true ∷ true ∷ false ∷ []) ∷ (false ∷ false ∷ true ∷ false ∷ []) ∷ (false ∷ false ∷ false ∷ false ∷ []) ∷ (false ∷ false ∷ false ∷ false ∷ []) ∷ [])
    -- imports are gone on through
    ∷ sets_of loop gives ((true ∷ true ∷ []) ∷ (true ∷ true ∷ []) ∷ [])
    ∷ []

pub sets_reached : Passed set_cases
unfolding set_cases
sets_reached = refl

unfoldable pub line_cases : List (C.Case (List (List ℕ)))
unfolding told_of tells
line_cases =
    told_of tree gives tells ("X     0     3     0     0     0" ∷ "X     1     1     0     0     0" ∷ "X     7     0     0     0     0" ∷ "X     9     0     0     0     0" ∷ [])
    -- Q lines are of no declaration
    ∷ told_of loop gives tells ("X     1     2     0     0     0" ∷ "X     0     2     0     0     0" ∷ [])
    -- none where the sheet is refused, or empty
    ∷ told_of waiting gives []
    ∷ told_of [] gives []
    ∷ []

pub lines_told : Passed line_cases
unfolding line_cases
lines_told = refl

unfoldable pub refusal_cases : List (C.Case Refusal)
unfolding refused_by
refusal_cases =
    -- no output is too short, as there is none
    refused_by loop gives Accepted
    ∷ refused_by [] gives Accepted
    ∷ refused_by waiting gives Refused 9 8
    ∷ []

pub refusals_told : Passed refusal_cases
unfolding refusal_cases
refusals_told = refl
