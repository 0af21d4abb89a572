-- What a call gives that asks for the reach index of a sheet: the refusal of the build, rows 11 and 12 left out, and on acceptance
-- the sets as bits in words, or the lines X. Assumes nothing.
use Rattle.std.specs.Prelude.{◌≡◌, List, [], ℕ, ◌*◌, ◌<◌, length}
use Rattle.sheet.specs.Format.{Format}
use Rattle.sheet.specs.Sheet.{lines, encodes}
use Rattle.model.specs.Decl.{Decl}
use Rattle.meaning.specs.Program.{program}
use Rattle.answer.specs.declared.Refusal.{Refusal}
use Rattle.answer.specs.declared.Refusal.TheVariants.{Accepted, Refused}
use Rattle.answer.specs.Answer.{refusal, after}
use Rattle.answer_patterns.specs.Whole.{front, input_rows}
use Rattle.set_bits.specs.Bits.{has}
use Rattle.answer_reach.specs.declared.Listing.{Listing}
use Rattle.answer_reach.specs.Index.{reaches, x_lines}

-- whether a sheet is refused, whatever outputs a build would have
abbrev pub input_refusal : Format → List ℕ → Refusal
input_refusal f b = refusal (input_rows f b)

-- the program that a sheet declares
unfoldable pub declared : Format → List ℕ → List Decl
declared f b = program (lines f.columns (front f.columns b))

-- The sets of n declarations, of so many words each, one after the other: bit j of set i is 1 exactly if i reaches j. Sets of
-- declarations that are not there are empty.
pub record IndexOf (n words : ℕ) (ds : List Decl) (s : List ℕ) : Type 0 where
  pub long : length s ≡ n * words
  pub bits : (i j : ℕ) → i < n → j < 64 * words → has s (i * words) j ≡ reaches ds i j

-- A call with the sheet b and words that hold s gives r, and leaves s' in the words: a set for each declaration that the format allows.
pub record Indexes (f : Format) (words : ℕ) (b s : List ℕ) (r : Refusal) (s' : List ℕ) : Type 0 where
  pub answer : r ≡ input_refusal f b
  pub kept : (code place : ℕ) → r ≡ Refused code place → s' ≡ s
  pub index : r ≡ Accepted → IndexOf f.decls words (declared f b) s'

-- ---- the lines X
unfoldable pub listed : Format → List ℕ → Refusal → List ℕ
listed f b (Refused code place) = []
listed f b Accepted = encodes f.columns (x_lines (declared f b))

-- A call with the sheet b and an output that holds o gives r, and leaves o' in the output.
pub record Lists (f : Format) (b o : List ℕ) (r : Listing) (o' : List ℕ) : Type 0 where
  pub answer : r.refusal ≡ input_refusal f b
  pub length_is : r.length ≡ length (listed f b (input_refusal f b))
  pub written : o' ≡ after (listed f b (input_refusal f b)) o
