-- The marks of Q lines by the tables of the passes: u says what becomes of a type's name, and m where a constructor is declared.
-- Assumes nothing.
use Rattle.std.specs.Prelude.{◌≡◌, List, ℕ, ◌+◌, ◌-◌, ◌*◌, ◌≤◌, ◌<◌, eqb, length, get_or}
use Rattle.number_columns.specs.Column.{◌⇒◌∥◌}
use Rattle.sheet.specs.Line.{Line}
use Rattle.model.specs.Decl.{position}
use Rattle.meaning.specs.Program.{name_line, program}
use Rattle.meaning.specs.Rows.{nth_line, count_of}
use Rattle.meaning_patterns.specs.Patterns.{kind_of, name_of}
use Rattle.table_access.specs.Tables.{lines_in, Tabled}
use Rattle.keep_layouts.specs.States.{state}
use Rattle.pattern_laws.specs.Linked.{AllGood}
use Rattle.pattern_ctors.specs.Sites.{Sited}

-- ---- what is given
-- the tables, and Q lines that passed row 5
pub record Given (t m : List ℕ) (qs : List Line) : Type 0 where
  pub tabled : Tabled t
  pub sited : Sited (lines_in t) m
  pub good : AllGood (count_of name_line (lines_in t)) qs

-- name n's cells are there, and its declaration is one of at most 512
pub record Entry (m : List ℕ) (n : ℕ) : Type 0 where
  pub there : 3 * n + 2 < length m
  pub few : get_or m (3 * n) 0 ≤ 512

-- ---- marks
unfoldable pub state_mark : ℕ → ℕ
state_mark s = eqb s 0 ⇒ 0 ∥ eqb s 1 ⇒ 2 ∥ 1

unfoldable pub ctor_mark : List ℕ → List ℕ → ℕ → ℕ
ctor_mark u m n = eqb (get_or m (3 * n) 0) 0 ⇒ 1 ∥ state_mark (state u (get_or m (3 * n) 0 - 1))

module _ (ls : List Line) (u m : List ℕ) (qs : List Line) where
  unfoldable pub mark_at : ℕ → ℕ
  mark_at i =
      eqb (kind_of (nth_line qs i)) 3 ⇒ ctor_mark u m (name_of (nth_line qs i)) ∥
      eqb (kind_of (nth_line qs i)) 4 ⇒ state_mark (state u (position (program ls) (name_of (nth_line qs i)))) ∥
      1

  -- those of the first n lines
  pub record MarksTo (xs : List ℕ) (n : ℕ) : Type 0 where
    pub mark : (i : ℕ) → i < n → get_or xs i 0 ≡ mark_at i
