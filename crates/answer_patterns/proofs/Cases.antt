-- What the definitions answer to sheets that end in a pattern: some that are accepted, each row at a Q line, units and calls in
-- turn of which the last holds the pattern, and what the claims' words take in. Assumes nothing.
use Rattle.std.specs.Prelude.{◌≡◌, refl, List, [], ◌∷◌, ◌++◌, map, true, false, ℕ}
use Rattle.std.proofs.Math.Option.{Option, none, some}
use Prim.Native.String.{String}
use Rattle.std.proofs.Common.{arith, leb-true, ltb-true}
use Rattle.sheet.specs.Format.{Format, base}
use Rattle.sheet.proofs.FirstLaws.{none_first}
use Rattle.model.proofs.Cases as C
use Rattle.model.proofs.Cases.{◌gives◌, Passed}
use Rattle.meaning_patterns.proofs.Cases.{passes, refused, left}
use Rattle.answer.proofs.Cases.{whole, given, bytes, joined, seen, small, refuses, accepts, short, short_verdict, short_left, sevens, sheets, header, unit_a, unit_b, both}
use Rattle.answer.specs.Cut.{Sheets, sheets_of}
use Rattle.answer_patterns.specs.Whole.{front_count, front, tail, following, verdict_sheet, left_sheet, sheet_rows, program_rows, output_rows, answered, answer, called}
use Rattle.answer_patterns.specs.Passes.{Passes}
use Rattle.answer_patterns.specs.Cut.{builds, Cut, Call, handed_on, InTurn, last_call, AllAccept, Wrote}

-- all that is told of a sheet of these lines, with outputs of v and l bytes
unfoldable pub answers : Format → List String → ℕ → ℕ → List (List ℕ)
unfolding given passes refused left front_count front tail following verdict_sheet left_sheet sheet_rows program_rows output_rows answered answer
answers f sheet v l = seen whole (answer f (joined (map bytes sheet)) v l)

-- in a format of at most three Q lines, with outputs long enough for every sheet below
abbrev pub told_of : List String → List (List ℕ)
told_of sheet = answers small sheet 999 999

-- ---- accepted
-- the header and the left declarations of `a = A of (b : exn, c : unit)`
abbrev pub lap_names : List String
lap_names = "N     0a" ∷ "N     1A" ∷ "N     2b" ∷ "N     3c" ∷ []

abbrev pub lap_types : List String
lap_types = "Y     2     0     0     0     0" ∷ "Y     0     0     0     0     0" ∷ []

abbrev pub lap_left : List String
lap_left = lap_names ++ ("Y     2     0     0     0     0" ∷ "D     0     0     1     0     0" ∷ "V     0     0     0     0     0" ∷ [])

-- `A b c`
abbrev pub lap_pattern : List String
lap_pattern = "Q     1     2     0     0     0" ∷ "Q     1     3     0     1     0" ∷ "Q     3     1     2     0     0" ∷ []

abbrev pub lap : List String
lap =
    lap_names
    ++ lap_types
    ++ ("D     0     0     3     0     1"
    ∷ "C     1     2     0     0     0"
    ∷ "F     2     0     0     0     0"
    ∷ "F     3     1     0     0     0"
    ∷ "V     0     0     0     0     0"
    ∷ lap_pattern)

abbrev pub lap_verdict : List String
lap_verdict =
    lap_names
    ++ lap_types
    ++ ("I     0     0     3     0     1"
    ∷ "C     1     2     0     0     0"
    ∷ "F     2     0     1     0     0"
    ∷ "F     3     1     0     0     0"
    ∷ "V     0     1     0     0     0"
    ∷ lap_pattern)

-- the pattern `b`, and `c` freed
abbrev pub lap_following : List String
lap_following = "Q     1     2     0     0     0" ∷ "U     3     0     0     0     0" ∷ []

-- three patterns, of which the last counts
abbrev pub three : List String
three = "Q     0     0     0     0     0" ∷ "Q     0     0     0     0     0" ∷ "Q     2     7     0     0     0" ∷ []

unfoldable pub accepted_cases : List (C.Case (List (List ℕ)))
unfolding answers refuses accepts
accepted_cases =
    -- the Q lines stay in the verdict sheet; the new pattern and the freed name follow the left declarations
    answers base lap 999 999 gives accepts ("R     0     0     1     0     0" ∷ lap_verdict ++ (lap_left ++ lap_following))
    -- they count for both outputs
    ∷ answers base lap 447 999 gives refuses 11 448
    ∷ answers base lap 448 287 gives refuses 12 288
    -- a sheet of Q lines alone, as many as the limit; the last is the pattern
    ∷ told_of three gives accepts ("R     0     0     1     0     0" ∷ three ++ ("Q     2     7     0     0     0" ∷ []))
    -- a sheet without Q lines
    ∷ told_of short gives accepts ("R     0     0     2     0     0" ∷ short_verdict ++ short_left)
    ∷ []

pub accepted_given : Passed accepted_cases
unfolding accepted_cases
accepted_given = refl

-- ---- codes
-- a record `a` of one field, and a pattern of its constructor with no part; `b = a exn`, an argument too many
abbrev pub for_one : List String
for_one =
    "N     0a"
    ∷ "N     1b"
    ∷ "A     0     0     0     0     0"
    ∷ "Y     2     0     0     0     0"
    ∷ "Y     8     0     0     1     0"
    ∷ "D     0     0     2     0     1"
    ∷ "F     0     0     0     0     0"
    ∷ "V     0     0     0     0     0"
    ∷ []

abbrev pub no_part : List String
no_part = "Q     3     0     0     0     0" ∷ []

unfoldable pub code_cases : List (C.Case (List (List ℕ)))
unfolding answers refuses
code_cases =
    -- 2 a number that is none
    told_of ("N     0a" ∷ "Q     x     0     0     0     0" ∷ []) gives refuses 2 1
    -- 3 a declaration behind a Q line; a Q line in a declaration, which ends early
    ∷ told_of ("N     0a" ∷ "Q     0     0     0     0     0" ∷ "D     0     0     0     0     0" ∷ "V     0     0     0     0     0" ∷ []) gives refuses 3 2
    ∷ told_of ("N     0a" ∷ "D     0     0     0     0     0" ∷ "Q     0     0     0     0     0" ∷ "V     0     0     0     0     0" ∷ []) gives refuses 3 2
    -- 4 a Q line too many, before the kind that is none
    ∷ told_of ("N     0a" ∷ "Q     7     0     0     0     0" ∷ "Q     0     0     0     0     0" ∷ "Q     0     0     0     0     0" ∷ "Q     0     0     0     0     0" ∷ [])
    gives refuses 4 4
    -- 5 a kind that is none, before the equal spelling and behind the number out of sequence
    ∷ told_of ("N     0a" ∷ "N     1a" ∷ "Q     7     0     0     0     0" ∷ []) gives refuses 5 2
    ∷ told_of ("N     0a" ∷ "N     2a" ∷ "Q     7     0     0     0     0" ∷ []) gives refuses 5 1
    -- 13 a part too few, before an output too short and behind the argument too many
    ∷ answers small (for_one ++ no_part) 0 0 gives refuses 13 8
    ∷ told_of (for_one ++ ("D     1     0     1     0     1" ∷ "V     0     0     0     0     0" ∷ no_part)) gives refuses 9 8
    ∷ []

-- Each code at its place.
pub codes_given : Passed code_cases
unfolding code_cases
codes_given = refl

-- ---- units
unfoldable pub built : List String → List (List String) → List String → Option Sheets
unfolding answers builds sheets_of
built u us q = builds base 999 999 (joined (map bytes header)) (joined (map bytes u)) (map (λ ls. joined (map bytes ls)) us) (joined (map bytes q))

-- the pattern `{ c = b }` of the newtype `a`
abbrev pub unit_pattern : List String
unit_pattern = "Q     1     1     0     0     3" ∷ "Q     4     0     1     0     0" ∷ []

unfoldable pub unit_cases : List (C.Case (Option Sheets))
unfolding built sheets
unit_cases =
    -- the last unit alone has the pattern; it is `b`
    built unit_a (unit_b ∷ []) unit_pattern gives some (record { verdict = both.verdict ++ joined (map bytes unit_pattern); left = both.left ++ bytes "Q     1     1     0     0     0" })
    -- the first unit is refused, and with it all
    ∷ built ("D     0     0     0     0     0" ∷ "V     0     0     1     0     0" ∷ []) (unit_b ∷ []) unit_pattern gives none
    ∷ []

pub units_built : Passed unit_cases
unfolding unit_cases
units_built = refl

-- ---- calls in turn
-- outputs that hold sevens, more than the sheets need
abbrev pub call : List String → Call small
call ls =
    let b : List ℕ = joined (map bytes ls) in
    record { sheet = b; verdict = sevens 130; left = sevens 130; gave = called small b (sevens 130) (sevens 130); is_called = refl }

abbrev pub wild : List String
wild = "Q     0     0     0     0     0" ∷ []

-- The units are the declaration of `short` and one of no lines. The first call hands its verdict sheet on, without the sevens past
-- it; the last call has the Q line.
pub calls_in_turn :
    InTurn small 130 130 (bytes "N     0a") (joined (map bytes ("D     0     0     3     0     0" ∷ "V     0     0     0     0     0" ∷ []))) ([] ∷ []) (joined (map bytes wild)) (call short)
    (call (short_verdict ++ wild) ∷ [])
unfolding answers called
calls_in_turn = (record { sheet_is = refl; verdict_room = refl; left_room = refl }, record { sheet_is = refl; verdict_room = refl; left_room = refl })

pub calls_accept : AllAccept (call short) (call (short_verdict ++ wild) ∷ [])
unfolding answers called
calls_accept = (refl, refl)

pub last_wrote : Wrote (last_call (call short) (call (short_verdict ++ wild) ∷ [])) (sheets (short_verdict ++ wild) (short_left ++ wild))
unfolding answers called sheets
last_wrote = record { verdict_holds = refl; left_holds = refl }

-- ---- the words of the claims
-- three Q lines pass, as many as the limit
pub three_pass : Passes small (joined (map bytes three)) 96 32
unfolding answers
three_pass =
    record {
      pass1 = refl;
      pass2 = none_first _ _ refl;
      pass3 = none_first _ _ refl;
      patterns3 = none_first _ _ refl;
      pass4 = none_first _ _ refl;
      patterns4 = leb-true _ _ refl;
      pass5 = none_first _ _ refl;
      patterns5 = none_first _ _ refl;
      pass6 = none_first _ _ refl;
      pass7 = none_first _ _ refl;
      pass8 = none_first _ _ refl;
      pass9_10 = none_first _ _ refl;
      pass13 = none_first _ _ refl;
      pass11 = leb-true _ _ refl;
      pass12 = leb-true _ _ refl;
    }

-- A part too few in the tenth Q line is seen behind eight declared lines.
pub tenth_fails : Passes base (joined (map bytes (for_one ++ (wild ++ three ++ three ++ wild ++ wild ++ no_part)))) 999 999 → ⊥
unfolding answers
tenth_fails p = let e : true ≡ false = p.pass13 9 (ltb-true _ _ refl) in let z : ◌≡◌ {A = ℕ} 0 1 = cc in absurd (omega arith)

-- a Q line is no unit
pub unit_plain : (b header tail : List ℕ) → Cut 6 b header (joined (map bytes wild) ∷ []) tail → ⊥
unfolding answers
unit_plain b header tail c =
    let e : true ≡ false = c.units_plain [] [] (joined (map bytes wild)) refl 0 (ltb-true _ _ refl) in let z : ◌≡◌ {A = ℕ} 0 1 = cc in absurd (omega arith)
