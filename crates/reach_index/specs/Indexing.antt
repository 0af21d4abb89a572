-- What is known of a sheet's sets and names on the way to its reach index, and the lines X by these. Assumes nothing.
use Rattle.std.specs.Prelude.{◌≡◌, List, [], ◌∷◌, ◌++◌, ℕ, ◌*◌, ◌^◌, ◌≤◌, ◌<◌, length, get_or, drop}
use Rattle.sheet.specs.Format.{base}
use Rattle.sheet.specs.Line.{Line, row}
use Rattle.sheet.specs.Sheet.{encodes}
use Rattle.model.specs.Decl.{Decl, dtype_at, table}
use Rattle.meaning.specs.Program.{program}
use Rattle.answer.specs.declared.Refusal.TheVariants.{Accepted}
use Rattle.answer_reach.specs.Index.{index_line}
use Rattle.answer_reach.specs.Given.{declared, IndexOf, Indexes}
use Rattle.table_access.specs.Tables.{decls_of}
use Rattle.set_closure.specs.Ones.{ones_of}
use Rattle.reach_index.specs.declared.Index.{Index}

-- memory for the sets and names of as many declarations as a sheet may have
pub record Room (sets names : List ℕ) : Type 0 where
  pub words : length sets ≡ 192
  pub cells : length names ≡ 96

-- the names of the first n declarations
abbrev pub Named : List Decl → ℕ → List ℕ → Type 0
Named ds n names = (d : ℕ) → d < n → get_or names d 0 ≡ (dtype_at ds d).dt_name

pub record Names (ls : List Line) (n : ℕ) (s s' : List ℕ) : Type 0 where
  pub long : length s' ≡ length s
  pub each : Named (program ls) n s'

-- the sets and names of a table's declarations
pub record Taken (ls : List Line) (sets names : List ℕ) : Type 0 where
  pub index : IndexOf 96 2 (program ls) sets
  pub fit : (k : ℕ) → get_or sets k 0 < 2 ^ 64
  pub names_are : Named (program ls) (decls_of ls) names

-- A sheet b, words that held s, and what is found: the answer r, the words s', and the names.
pub record Finds (b s : List ℕ) (r : Index) (s' names : List ℕ) : Type 0 where
  pub indexes : Indexes base 2 b s r.refusal s'
  pub fit : r.refusal ≡ Accepted → (k : ℕ) → get_or s' k 0 < 2 ^ 64
  pub few : r.decls ≤ 96
  pub decls_are : r.refusal ≡ Accepted → r.decls ≡ length (declared base b)
  pub names_are : r.refusal ≡ Accepted → Named (declared base b) (length (declared base b)) names

-- ---- the lines X
-- of declaration d, by its name and the ones of its set
abbrev pub line_of : List ℕ → List ℕ → ℕ → Line
line_of sets names d = row index_line (get_or names d 0 ∷ ones_of sets (d * 2) 2 ∷ 0 ∷ 0 ∷ 0 ∷ [])

-- n sets and names, and room for as many lines
pub record Counted (sets names : List ℕ) (n room : ℕ) : Type 0 where
  pub few : n ≤ 96
  pub words : n * 2 ≤ length sets
  pub cells : n ≤ length names
  pub fits : 32 * n ≤ room

pub record Put (sets names : List ℕ) (n : ℕ) (o o' : List ℕ) : Type 0 where
  pub long : length o' ≡ length o
  pub written : o' ≡ encodes 6 (table (line_of sets names) n) ++ drop (32 * n) o
