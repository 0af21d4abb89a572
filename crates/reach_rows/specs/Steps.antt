-- The table of steps of the reach index, made row by row, and what it is to hold. Assumes nothing.
use Rattle.std.specs.Prelude.{◌≡◌, List, Bool, ℕ, zero, suc, ◌+◌, ◌*◌, ◌-◌, ◌≤◌, eqb, length, get_or}
use Rattle.number_columns.specs.Column.{pick}
use Rattle.sheet.specs.Line.{Line}
use Rattle.meaning.specs.Program.{field_line, program}
use Rattle.answer_reach.specs.Index.{decl_next}
use Rattle.table_access.specs.Tables.{decls_of, first_of}
use Rattle.set_bits.specs.Bits.{cleared, united}
use Rattle.set_search.specs.SearchLaws.{Holds}
use Rattle.erasure_laws.specs.Bodies.{kind_of, last_of, field_type}
use Rattle.mention_types.specs.Mentions.{any}

-- how many fields declaration d has
abbrev pub width : List Line → ℕ → ℕ
width ls d = first_of field_line ls (suc d) - first_of field_line ls d

-- one of the types in the body of declaration d passes a test: that which it abbreviates, or that of a field
unfoldable pub in_body : List Line → ℕ → (ℕ → Bool) → Bool
in_body ls d p = pick (eqb (kind_of ls d) 1) (p (last_of ls d)) (any (λ j. p (field_type ls (first_of field_line ls d + j))) (width ls d))

-- ---- the rows
-- the set of s at `at` with those of the types of k fields, from field `first` on
unfoldable pub with_fields : List Line → ℕ → List ℕ → List ℕ → ℕ → ℕ → ℕ → List ℕ
with_fields ls words sets s at first zero = s
with_fields ls words sets s at first (suc k) = united (with_fields ls words sets s at first k) at sets (field_type ls (first + k) * words) words

-- s with the row of declaration d
unfoldable pub with_row : List Line → ℕ → List ℕ → List ℕ → ℕ → List ℕ
with_row ls words sets s d =
    let r : List ℕ = cleared s (d * words) words in
    pick (eqb (kind_of ls d) 1) (united r (d * words) sets (last_of ls d * words) words) (with_fields ls words sets r (d * words) (first_of field_line ls d) (width ls d))

-- s with the rows of the first n declarations
unfoldable pub with_rows : List Line → ℕ → List ℕ → List ℕ → ℕ → List ℕ
with_rows ls words sets s zero = s
with_rows ls words sets s (suc n) = with_row ls words sets (with_rows ls words sets s n) n

-- The rows hold the steps of the reach index, and the words past them are as they were.
pub record Stepped (ls : List Line) (words : ℕ) (s s' : List ℕ) : Type 0 where
  pub holds : Holds (decl_next (program ls)) (decls_of ls) words s'
  pub long : length s' ≡ length s
  pub later : (i : ℕ) → decls_of ls * words ≤ i → get_or s' i 0 ≡ get_or s i 0
