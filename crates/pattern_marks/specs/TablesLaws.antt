-- Marks by the tables, line after line. Assumes nothing.
use Rattle.std.specs.Prelude.{◌≡◌, refl, List, ℕ, ◌+◌, ◌*◌, ◌≤◌, ◌<◌, length, get_or, set}
use Rattle.std.proofs.Common.{◌∙◌, arith, get_or-set_same, get_or-set_other}
use Rattle.sheet.specs.Line.{Line}
use Rattle.model_laws.specs.Rounds.{cases_eq}
use Rattle.meaning.specs.Program.{name_line, field_line}
use Rattle.meaning.specs.Rows.{nth_line, count_of}
use Rattle.meaning_patterns.specs.Patterns.{kind_of, name_of}
use Rattle.table_declared.specs.PassedLaws.{decls_few}
use Rattle.table_access.specs.Tables.{lines_in}
use Rattle.pattern_laws.specs.Linked.{Linked, linked_is, name_is}
use Rattle.pattern_ctors.specs.SitesLaws.{inside_sited}
use Rattle.pattern_marks.specs.Tables.{Given, Entry, MarksTo, mark_at}

-- ---- what is given of a line
module _ (t m : List ℕ) (qs : List Line) (g : Given t m qs) (i : ℕ) (h : i < length qs) where
  pub ctor_named : kind_of (nth_line qs i) ≡ 3 → name_of (nth_line qs i) < count_of name_line (lines_in t)
  ctor_named e = name_is (count_of name_line (lines_in t)) qs i 3 (g.good i h) e refl refl

  pub record_named : kind_of (nth_line qs i) ≡ 4 → name_of (nth_line qs i) < count_of name_line (lines_in t)
  record_named e = name_is (count_of name_line (lines_in t)) qs i 4 (g.good i h) e refl refl

  pub ctor_entry : kind_of (nth_line qs i) ≡ 3 → Entry m (name_of (nth_line qs i))
  ctor_entry e =
      let n = ctor_named e in
      record {
        there = omega (arith, n, g.sited.long);
        few = omega (arith, (inside_sited (lines_in t) g.tabled.passed (name_of (nth_line qs i)) m g.sited n).0, decls_few (lines_in t) g.tabled.passed);
      }

  pub ctor_fits : kind_of (nth_line qs i) ≡ 3 → get_or m (3 * name_of (nth_line qs i) + 1) 0 + get_or m (3 * name_of (nth_line qs i) + 2) 0 ≤ count_of field_line (lines_in t)
  ctor_fits e = (inside_sited (lines_in t) g.tabled.passed (name_of (nth_line qs i)) m g.sited (ctor_named e)).1

pub given_linked : (t m : List ℕ) (qs : List Line) → Given t m qs → Linked qs
given_linked t m qs g = linked_is (count_of name_line (lines_in t)) qs g.good

-- ---- line after line
module _ (ls : List Line) (u m : List ℕ) (qs : List Line) (xs : List ℕ) where
  pub marks_none : MarksTo ls u m qs xs 0
  marks_none = record { mark = λ i l. absurd (omega arith) }

  pub marks_next : (n x : ℕ) → n < length xs → x ≡ mark_at ls u m qs n → MarksTo ls u m qs xs n → MarksTo ls u m qs (set xs n x) (n + 1)
  marks_next n x h e p = record { mark = λ i l. cases_eq i n (λ z. rw z (get_or-set_same xs n x 0 h ∙ e)) (λ z. get_or-set_other xs n i x 0 z ∙ p.mark i (omega arith)) }
