-- The cut rule of a sheet that may end in a pattern (FORMAT, sections 10 and 12): N, A and Y lines, units of declarations, and
-- the Q lines, which the last unit is built with. Assumes nothing.
use Rattle.std.specs.Prelude.{◌⊎◌, ◌≡◌, true, false, not, ℕ, ◌<◌, length, take}
use mathlib.Core.List.{List, [], ◌∷◌, ◌++◌, Memᴰ}
use Rattle.std.proofs.Math.Option.{Option, none, some}
use Rattle.sheet.specs.Format.{Format}
use Rattle.sheet.specs.Line.{is_bad}
use Rattle.sheet.specs.Sheet.{count, line, lines}
use Rattle.model.specs.Names.{Declared}
use Rattle.meaning.specs.Program.{is, is_head, name_line, program}
use Rattle.meaning.specs.Rows.{count_of, raw}
use Rattle.meaning_patterns.specs.Patterns.{pattern_line, good_pattern}
use Rattle.answer.specs.Answer.{Given, after, Clear}
use Rattle.answer.specs.Cut.{Sheets, sheets_of, join, Whole, Declarations, program_names, Faultless}
use Rattle.answer_patterns.specs.Whole.{answer, called}

-- ---- the list of builds
-- one build, a call with outputs of v and l bytes
abbrev pub build : Format → ℕ → ℕ → List ℕ → Option Sheets
build f v l b = sheets_of (answer f b v l)

-- The units in turn, u first: u over s, and each later one over the verdict sheet that the build before it returned; the last
-- with the tail behind it. The last unit's two sheets, or nothing where a unit is refused.
unfoldable pub builds : Format → ℕ → ℕ → List ℕ → List ℕ → List (List ℕ) → List ℕ → Option Sheets
builds f v l s u [] tail = build f v l ((s ++ u) ++ tail)
builds f v l s u (u' ∷ us) tail = elim (build f v l (s ++ u)) [ none ↦ none | some x ↦ builds f v l x.verdict u' us tail ]

-- ---- the cut
-- no line of p is faulted by row 2 or row 5, and none of the tail behind it
pub record FaultlessWith (w : ℕ) (p tail : List ℕ) : Type 0 where
  pub declarations : Faultless w p
  pub no_bad : Clear (count w tail) (λ i. is_bad (line w tail i))
  pub good_patterns : Clear (count w tail) (λ q. not (good_pattern (count_of name_line (lines w p)) (lines w tail) q))

-- The sheet b is cut into its N, A and Y lines, the units and the tail, which is the Q lines. Each unit names only its own types,
-- those of earlier units and names that the whole declares nowhere; of the names in patterns nothing is asked. (A line faulted by
-- row 2 or row 5 neither names nor declares: of a sheet with such a line nothing is asked.)
pub record Cut (w : ℕ) (b header : List ℕ) (units : List (List ℕ)) (tail : List ℕ) : Type 0 where
  pub joined : b ≡ (header ++ join units) ++ tail
  pub header_whole : Whole w header
  pub header_only : (i : ℕ) → i < count w header → is_head (raw w header i) ≡ false
  pub header_plain : Clear (count w header) (λ i. is pattern_line (raw w header i))
  pub declarations : (xs ys : List (List ℕ)) (u : List ℕ) → units ≡ xs ++ (u ∷ ys) → Declarations w u
  pub units_plain : (xs ys : List (List ℕ)) (u : List ℕ) → units ≡ xs ++ (u ∷ ys) → Clear (count w u) (λ i. is pattern_line (raw w u i))
  pub tail_whole : Whole w tail
  pub tail_patterns : (i : ℕ) → i < count w tail → is pattern_line (raw w tail i) ≡ true
  pub named :
      FaultlessWith w (header ++ join units) tail
      → (xs ys : List (List ℕ)) (u : List ℕ) → units ≡ xs ++ (u ∷ ys)
      → (n : ℕ) → Memᴰ n (program_names (program (lines w (header ++ u))))
      → Declared (program (lines w (header ++ join xs ++ u))) n ⊎ (Declared (program (lines w (header ++ join units))) n → ⊥)

-- ---- the same as calls
-- A call that was made: the sheet and the outputs as it found them, and what it gave.
pub record Call (f : Format) : Type 0 where
  pub sheet : List ℕ
  pub verdict : List ℕ
  pub left : List ℕ
  pub gave : Given
  pub is_called : gave ≡ called f sheet verdict left

-- the sheet at the beginning of a call's verdict output: as many bytes as the call's own sheet had
abbrev pub handed_on : {f : Format} → Call f → List ℕ
handed_on c = take (length c.sheet) c.gave.verdict_output

pub record Over (f : Format) (v l : ℕ) (s u : List ℕ) (c : Call f) : Type 0 where
  pub sheet_is : c.sheet ≡ s ++ u
  pub verdict_room : length c.verdict ≡ v
  pub left_room : length c.left ≡ l

-- Calls that build the units in turn, u first: each has the given sheet and its unit for its sheet, the last also the tail, and
-- outputs of v and l bytes, whatever these hold; the next is given what the one before handed on.
abbrev pub InTurn : (f : Format) (v l : ℕ) → List ℕ → List ℕ → List (List ℕ) → List ℕ → Call f → List (Call f) → Type 0
InTurn f v l s u [] tail c [] = Over f v l (s ++ u) tail c
InTurn f v l s u [] tail c (c' ∷ cs) = ⊥
InTurn f v l s u (u' ∷ us) tail c [] = ⊥
InTurn f v l s u (u' ∷ us) tail c (c' ∷ cs) = Over f v l s u c × InTurn f v l (handed_on c) u' us tail c' cs

abbrev pub last_call : {f : Format} → Call f → List (Call f) → Call f
last_call c [] = c
last_call c (c' ∷ cs) = last_call c' cs

-- every call shows code 0
abbrev pub AllAccept : {f : Format} → Call f → List (Call f) → Type 0
AllAccept c [] = c.gave.code ≡ 0
AllAccept c (c' ∷ cs) = (c.gave.code ≡ 0) × AllAccept c' cs

-- the call's outputs hold these sheets, and past them what they held
pub record Wrote {f : Format} (c : Call f) (x : Sheets) : Type 0 where
  pub verdict_holds : c.gave.verdict_output ≡ after x.verdict c.verdict
  pub left_holds : c.gave.left_output ≡ after x.left c.left
