-- The cut rule of declarations alone (FORMAT, section 10): a sheet of local declarations, cut into units that are built in turn.
-- Assumes nothing.
use Rattle.std.specs.Prelude.{◌⊎◌, ◌≡◌, true, false, ℕ, ◌%◌, ◌<◌, eqb, length}
use mathlib.Core.List.{List, [], ◌∷◌, ◌++◌, Memᴰ}
use Rattle.std.proofs.Math.Option.{Option, none, some}
use Rattle.number_columns.specs.Column.{pick}
use Rattle.sheet.specs.Format.{Format, line_bytes}
use Rattle.sheet.specs.Sheet.{first, count, lines, row2}
use Rattle.model.specs.Decl.{Decl}
use Rattle.model.specs.Names.{dtype_names, Declared}
use Rattle.meaning.specs.Program.{is_head, program}
use Rattle.meaning.specs.Rows.{raw, row5}
use Rattle.answer.specs.Answer.{Answer, answer}

-- ---- the list of builds
pub record Sheets : Type 0 where
  pub verdict : List ℕ
  pub left : List ℕ

-- what a build hands on: its two sheets where it is accepted, which is code 0
unfoldable pub sheets_of : Answer → Option Sheets
sheets_of a = pick (eqb a.code 0) (some (record { verdict = a.verdict; left = a.left })) none

-- One build, a call with outputs of v and l bytes.
abbrev pub build : Format → ℕ → ℕ → List ℕ → Option Sheets
build f v l b = sheets_of (answer f b v l)

-- The units in turn, u first: u over s, and each later one over the verdict sheet that the build before
-- it returned. The last unit's two sheets, or nothing where a unit is refused.
unfoldable pub builds : Format → ℕ → ℕ → List ℕ → List ℕ → List (List ℕ) → Option Sheets
builds f v l s u [] = build f v l (s ++ u)
builds f v l s u (u' ∷ us) = elim (build f v l (s ++ u)) [ none ↦ none | some x ↦ builds f v l x.verdict u' us ]

-- ---- the cut
unfoldable pub join : List (List ℕ) → List ℕ
join [] = []
join (u ∷ us) = u ++ join us

-- whole lines, no bytes over
abbrev pub Whole : ℕ → List ℕ → Type 0
Whole w b = length b % line_bytes w ≡ 0

-- declarations from their D or I lines on, or none
abbrev pub Declarations : ℕ → List ℕ → Type 0
Declarations w u = Whole w u × (0 < length u → is_head (raw w u 0) ≡ true)

-- all names in the types of a program's declarations, at any depth
unfoldable pub program_names : List Decl → List ℕ
program_names [] = []
program_names (d ∷ ds) = dtype_names d.dtype ++ program_names ds

-- no line of the sheet is faulted by row 2 or row 5
pub record Faultless (w : ℕ) (b : List ℕ) : Type 0 where
  pub no_bad : row2 w b ≡ count w b
  pub in_range : first (row5 (lines w b)) (count w b) ≡ count w b

-- The sheet b is cut into its N, A and Y lines and the units. Each unit names only its own types, those of
-- earlier units and names that the whole declares nowhere. (A line faulted by row 2 or row 5 neither names nor
-- declares: of a sheet with such a line nothing is asked.) Nothing else is asked: not that row 3 passes, nor
-- that the declarations are local.
pub record Cut (w : ℕ) (b header : List ℕ) (units : List (List ℕ)) : Type 0 where
  pub joined : b ≡ header ++ join units
  pub header_whole : Whole w header
  pub header_only : (i : ℕ) → i < count w header → is_head (raw w header i) ≡ false
  pub declarations : (xs ys : List (List ℕ)) (u : List ℕ) → units ≡ xs ++ (u ∷ ys) → Declarations w u
  pub named :
      Faultless w b
      → (xs ys : List (List ℕ)) (u : List ℕ) → units ≡ xs ++ (u ∷ ys)
      → (n : ℕ) → Memᴰ n (program_names (program (lines w (header ++ u))))
      → Declared (program (lines w (header ++ join xs ++ u))) n ⊎ (Declared (program (lines w b)) n → ⊥)
