-- A pattern's rewriting line by line, as the code does it: marks and flags say what becomes of each Q line, and from
-- them and the lines before it follows what it gives. Assumes nothing.
use Rattle.std.specs.Prelude.{List, [], ◌∷◌, ◌++◌, Bool, true, false, ℕ, zero, suc, ◌-◌, eqb, length, get_or}
use Rattle.number_columns.specs.Column.{pick, ◌⇒◌∥◌}
use Rattle.sheet.specs.Line.{Line}
use Rattle.model_patterns.specs.Pat.{Pat, Pats, PWild, no_parts, part, pat_vars, Rewritten}
use Rattle.meaning_patterns.specs.Patterns.{kind_of, name_of, last_of, previous_of, field_of, and_last, pattern_of}

-- What becomes of a line: its mark is 0 where it is wild, 1 where it is its own kind over the parts that are kept, and
-- 2 where the part that is kept stands for it.
abbrev pub wild_mark : ℕ
wild_mark = 0

abbrev pub own_mark : ℕ
own_mark = 1

abbrev pub part_mark : ℕ
part_mark = 2

-- What becomes of it as a part: its flag is 0 where it is dropped, 1 where it is kept, and 2 where it is dropped and
-- its names are not freed.
abbrev pub dropped_flag : ℕ
dropped_flag = 0

abbrev pub kept_flag : ℕ
kept_flag = 1

abbrev pub lost_flag : ℕ
lost_flag = 2

-- Of a line: the new pattern and the names freed in it. Of its list up to it: the parts that are kept, the names freed in
-- parts, and the names of the parts that are dropped.
pub record Made : Type 0 where
  pub pat : Pat
  pub freed : List ℕ
  pub kept : Pats
  pub inner : List ℕ
  pub outer : List ℕ

abbrev pub no_made : Made
no_made = record { pat = PWild; freed = []; kept = no_parts; inner = []; outer = [] }

-- the list that a link ends
unfoldable pub made_to : List Made → ℕ → Made
made_to ms zero = no_made
made_to ms (suc k) = get_or ms k no_made

-- the first part, which stands for its owner
unfoldable pub only : Pats → Pat
only no_parts = PWild
only (part f p ps) = p

unfoldable pub become : ℕ → ℕ → ℕ → Pats → Pat
become mark kind n ps =
    eqb mark 0 ⇒ PWild ∥
    eqb mark 1 ⇒ pattern_of kind n ps ∥
    only ps

-- a line with its mark and flag, from what the lines before it give
unfoldable pub made : List Made → Line → ℕ → ℕ → Made
made ms l mark flag =
    let x : Made = made_to ms (last_of l) in
    let y : Made = made_to ms (previous_of l) in
    let p : Pat = become mark (kind_of l) (name_of l) x.kept in
    let freed : List ℕ = x.inner ++ x.outer in
    record {
      pat = p;
      freed = freed;
      kept = elim (eqb flag 1) [ true ↦ and_last y.kept (field_of l) p | false ↦ y.kept ];
      inner = y.inner ++ freed;
      outer = elim (eqb flag 0) [ true ↦ y.outer ++ pat_vars p | false ↦ y.outer ];
    }

-- the marks and flags by the lines' numbers
unfoldable pub mades_after : List ℕ → List ℕ → List Made → List Line → List Made
mades_after xs gs ms [] = ms
mades_after xs gs ms (l ∷ ls) = mades_after xs gs (ms ++ (made ms l (get_or xs (length ms) 0) (get_or gs (length ms) 0) ∷ [])) ls

abbrev pub mades : List ℕ → List ℕ → List Line → List Made
mades xs gs qs = mades_after xs gs [] qs

-- what the last line gives, which is the whole
unfoldable pub made_of : List ℕ → List ℕ → List Line → Rewritten
made_of xs gs qs = let m : Made = get_or (mades xs gs qs) (length qs - 1) no_made in record { pat = m.pat; freed = m.freed }
