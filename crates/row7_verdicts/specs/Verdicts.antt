-- Row 7 for one line, by the first line of its declaration and the kept fields and C lines before it. Assumes nothing.
use Rattle.std.specs.Prelude.{◌≡◌, Bool, true, ◌&&◌, not, ℕ, suc, ◌+◌, ◌≤◌, eqb, leb}
use Rattle.number_columns.specs.Column.{pick, ◌⇒◌∥◌}
use Rattle.sheet.specs.Line.{Line, number}
use Rattle.meaning.specs.Program.{import_line, ctor_line, field_line, verdict_line, is, is_head}
use Rattle.meaning.specs.Rows.{tag_in, good_verdict}
use Rattle.row7_verdicts.specs.VerdictLines.{no_verdict}
use Rattle.row7_verdicts.specs.declared.Decl.{Decl}

-- the V line of the declaration that begins with h
abbrev pub declared_verdict : Line → ℕ → Line → Bool
declared_verdict h kept v = pick (is import_line h) (good_verdict h kept v) (no_verdict v)

-- the largest keep number in it
abbrev pub most_keep : Line → ℕ
most_keep h = pick (is import_line h) 1 0

-- the tag number of its first C line, which is also how much tag numbers grow from each C line to the next
abbrev pub tag_step : Line → ℕ
tag_step h = pick (is import_line h) (pick (eqb (number h 4) 1) 0 1) 0

-- a line of a declaration whose largest keep number is `most`, and whose next tag number is `tag`
abbrev pub good_with : ℕ → ℕ → Line → ℕ → Line → Bool
good_with tag most h kept l =
    is ctor_line l ⇒ eqb (number l 2) tag ∥
    is field_line l ⇒ leb (number l 2) most ∥
    is verdict_line l ⇒ declared_verdict h kept l ∥
    true

-- a line of the declaration that begins with h, of whose fields so many are kept, with so many C lines before it
abbrev pub good_line : Line → ℕ → ℕ → Line → Bool
good_line h kept ctors l = good_with (tag_in h ctors) (most_keep h) h kept l

-- The third number of a C line is the tag number, and of an F line at most 1.
pub record Third (tag : ℕ) (l : Line) : Type 0 where
  pub tagged : is ctor_line l ≡ true → number l 2 ≡ tag
  pub bit : is field_line l ≡ true → number l 2 ≤ 1

-- the kept fields, one line more
abbrev pub kept_at : ℕ → Line → ℕ
kept_at n l = pick (is_head l) 0 (pick (is field_line l && not (eqb (number l 2) 0)) (suc n) n)

-- the next tag number, one line more
abbrev pub tag_at : ℕ → ℕ → Line → ℕ
tag_at tag step l = pick (is_head l) (tag_step l) (pick (is ctor_line l) (tag + step) tag)

-- the declaration that line i is in, one line more
abbrev pub decl_at : Decl → ℕ → Line → Decl
decl_at d i l =
    record {
      head = pick (is_head l) i d.head;
      most = pick (is_head l) (most_keep l) d.most;
      kept = kept_at d.kept l;
      tag = tag_at d.tag d.step l;
      step = pick (is_head l) (tag_step l) d.step;
    }
