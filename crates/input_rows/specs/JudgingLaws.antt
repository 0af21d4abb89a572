-- From what the passes find to the rows of the table, and from these to the rows of the bytes. Assumes nothing.
use Rattle.std.specs.Prelude.{◌≡◌, refl, List, [], ◌∷◌, ◌++◌, true, ℕ, ◌+◌, ◌*◌, ◌-◌, ◌≤◌, ◌<◌, length, take, drop}
use Rattle.std.proofs.Math.Path.{sym, subst}
use Rattle.std.proofs.Common.{◌∙◌, ap, ap₂, arith, take-append-drop, lt-ltb, le-ltb}
use borrow.Rule.Slice.PartMut.{put_mid}
use Rattle.sheet.specs.Format.{base}
use Rattle.sheet.specs.Line.{Line}
use Rattle.sheet.specs.Sheet.{first, count, lines, row1}
use Rattle.sheet.proofs.SheetLaws.{length_lines}
use Rattle.sheet.proofs.FirstLaws.{first_le, first_none}
use Rattle.walk_cells.specs.Cells.{lines_of}
use Rattle.meaning_bares.specs.PlaceLaws.{count_bare}
use Rattle.model.specs.Decl.{Decl}
use Rattle.model.specs.Reach.{cyclic}
use Rattle.model.specs.Run.{run, layouts_of, unfold_next}
use Rattle.meaning.specs.Program.{name_line, field_line, program}
use Rattle.meaning.specs.Rows.{count_of}
use Rattle.meaning_laws.specs.Program.{length_program}
use Rattle.meaning_patterns.specs.Patterns.{row13}
use Rattle.answer.specs.declared.Refusal.{Refusal}
use Rattle.answer.specs.declared.Refusal.TheVariants.{Accepted, Refused}
use Rattle.answer.specs.Answer.{refusal}
use Rattle.answer_laws.specs.Answer.{accepted_clear, or_later, or_accepted, refusal_append}
use Rattle.answer_patterns.specs.Whole.{front, tail, sheet_rows, program_rows, input_rows}
use Rattle.answer_pattern_laws.specs.Parts.{front_of, tail_of}
use Rattle.answer_pattern_laws.specs.Refusals.{row_passed, row_refused}
use Rattle.answer_pattern_laws.specs.Rows.{row13_alone, program_is}
use Rattle.answer_built.specs.BuiltLaws.{front_input}
use Rattle.row4_limits.specs.Limits.{start}
use Rattle.table_declared.specs.PassedLaws.{names_within, decls_within, fields_within}
use Rattle.table_access.specs.Tables.{decls_of, lines_in, TabledIn}
use Rattle.table_access.specs.OfSheet.{OfSheet, program_same, count_same}
use Rattle.pattern_counts.specs.Counts.{Fielded}
use Rattle.pattern_ctors.specs.Sites.{Sited}
use Rattle.pattern_ctors.specs.Owners.{CountsTo}
use Rattle.rows_heads.specs.HeadRows.{returns_row, faults_row}
use Rattle.set_search.specs.Loops.{First}
use Rattle.row8_returning.specs.ReturningLaws.{no_return, ranked_all}
use Rattle.row8_returning.specs.RowLaws as rows
use Rattle.row9_faults.specs.Attempts.{Asked}
use Rattle.build_passes.specs.declared.Run.{Run}
use Rattle.build_passes.specs.Passes.{Ran}
use Rattle.input_table.specs.Table.{Read, Good, Tailed, Parts}
use Rattle.input_table.specs.TableLaws.{first_put, cut_first, cut_rest, read_lent, tailed_lent, joined_lent}
use Rattle.input_rows.specs.declared.Judged.{Judged}
use Rattle.input_rows.specs.Judging.{miscounts_row, table_rows, Listed, Uncounted, Found, Judges, Room, refused_decided, Decides, Clear}
use Rattle.input_rows.specs.SameLaws.{eight_same, faults_same}

-- ---- one row after the other
module _ (ls qs : List Line) where
  eight_first : refusal (table_rows ls qs) ≡ or_later (refusal (returns_row ls ∷ [])) (refusal (faults_row base ls ∷ miscounts_row ls qs ∷ []))
  eight_first = refusal_append (returns_row ls ∷ []) (faults_row base ls ∷ miscounts_row ls qs ∷ [])

  faults_first : refusal (faults_row base ls ∷ miscounts_row ls qs ∷ []) ≡ or_later (refusal (faults_row base ls ∷ [])) (refusal (miscounts_row ls qs ∷ []))
  faults_first = refusal_append (faults_row base ls ∷ []) (miscounts_row ls qs ∷ [])

  pub after_eight : refusal (returns_row ls ∷ []) ≡ Accepted → refusal (table_rows ls qs) ≡ refusal (faults_row base ls ∷ miscounts_row ls qs ∷ [])
  after_eight e = eight_first ∙ rw e

  pub at_eight : (code place : ℕ) → refusal (returns_row ls ∷ []) ≡ Refused code place → refusal (table_rows ls qs) ≡ Refused code place
  at_eight code place e = eight_first ∙ rw e

  pub after_faults : refusal (faults_row base ls ∷ []) ≡ Accepted → refusal (faults_row base ls ∷ miscounts_row ls qs ∷ []) ≡ refusal (miscounts_row ls qs ∷ [])
  after_faults e = faults_first ∙ rw e

  pub at_faults : (code place : ℕ) → refusal (faults_row base ls ∷ []) ≡ Refused code place → refusal (faults_row base ls ∷ miscounts_row ls qs ∷ []) ≡ Refused code place
  at_faults code place e = faults_first ∙ rw e

  -- row 13, by the first line w that miscounts
  pub thirteen_none : length qs ≡ 0 → refusal (miscounts_row ls qs ∷ []) ≡ Accepted
  thirteen_none e = row_passed (miscounts_row ls qs) (omega (arith, e, first_le (row13 (program ls) qs) (length qs)))

  pub thirteen_at : (w n place : ℕ) → w ≡ first (row13 (program ls) qs) (length qs) → n ≡ length qs → w < n → place ≡ length ls + w → refusal (miscounts_row ls qs ∷ []) ≡ Refused 13 place
  thirteen_at w n place e k h p = row_refused (miscounts_row ls qs) w (sym e) (omega (arith, k, h)) ∙ ap (Refused 13) (sym p)

  pub thirteen_passed : (w n : ℕ) → w ≡ first (row13 (program ls) qs) (length qs) → n ≡ length qs → n ≤ w → refusal (miscounts_row ls qs ∷ []) ≡ Accepted
  thirteen_passed w n e k h = row_passed (miscounts_row ls qs) (omega (arith, e, k, h, first_le (row13 (program ls) qs) (length qs)))

-- what row 13 asks of its tables
pub uncounted_of : (t q m : List ℕ) → TabledIn base t → Listed (count_of name_line (lines_in t)) q → Sited (lines_in t) m → (n : ℕ) → n ≡ count_of name_line (lines_in t) → Uncounted t q m n
uncounted_of t q m tabled l s n e =
    record { tabled = tabled.tabled; sited = s; names_are = e; names_few = omega (arith, e, names_within base (lines_in t) tabled.bounded); listed = rw e l }

pub uncounted_long : (t q m : List ℕ) (n k : ℕ) → k ≡ n → Uncounted t q m n → Uncounted t q m k
uncounted_long t q m n k e u = rw e u

pub good_long : (q : List ℕ) (n k : ℕ) → k ≡ n → Good n q → Good k q
good_long q n k e g = rw e g

pub row13_told : (ls : List Line) (fields q : List ℕ) (r : ℕ) → CountsTo ls fields (length fields)
    → ((ds : List Decl) → Fielded ds fields → r ≡ first (row13 ds (lines_of q)) (length (lines_of q)))
    → r ≡ first (row13 (program ls) (lines_of q)) (length (lines_of q))
row13_told ls fields q r c w = w (program ls) (record { marks = c.marks })

-- ---- what the passes found
module _ (t keep u q : List ℕ) (r : Run) (rank rank' : List ℕ) (tabled : TabledIn base t) (ran : Ran (lines_in t) keep u r rank rank') where
  abbrev ls : List Line
  ls = lines_in t

  abbrev n : ℕ
  n = decls_of ls

  -- a declaration returns to itself
  pub judges_eight : (place : ℕ) → place ≡ start ls r.returning → r.returning < n → Judges t q keep u rank' (record { refusal = Refused 8 place; rounds = 0 })
  judges_eight place e h =
      record {
        answer = sym (at_eight ls (lines_of q) 8 place (rows.row8_alone ls r.returning rank rank' ran.judged.first_of ∙ rw (lt-ltb r.returning n h, e)));
        found = λ x. let z : ◌≡◌ {A = ℕ} 0 1 = cc in absurd (omega arith);
        counted = λ x. let z : ◌≡◌ {A = ℕ} 0 1 = cc in absurd (omega arith);
      }

  module _ (long : length rank ≡ n) (h : n ≤ r.returning) where
    all : r.returning ≡ n
    all = omega (arith, h, ran.judged.first_of.is, first_le (cyclic (unfold_next (program ls) (layouts_of (program ls))) n) n)

    none : First (unfold_next (program ls) (layouts_of (program ls))) n n rank rank'
    none = subst (λ (k : ℕ). First (unfold_next (program ls) (layouts_of (program ls))) n k rank rank') all ran.judged.first_of

    eight : refusal (returns_row ls ∷ []) ≡ Accepted
    eight = rows.row8_alone ls r.returning rank rank' ran.judged.first_of ∙ rw (le-ltb r.returning n h)

    pub asked_of : Asked ls t u keep
    asked_of =
        record {
          tabled = tabled.tabled;
          bounded = tabled.bounded;
          settled = ran.judged.settled;
          slotted = ran.slotted;
          fields = ran.long;
          no_return = λ d l. no_return ls tabled.tabled.passed u ran.judged.settled rank rank' none d (omega (arith, length_program ls));
        }

    -- none does, and the other rows answer x
    pub judges_rest : (x : Refusal) → x ≡ refusal (faults_row base ls ∷ miscounts_row ls (lines_of q) ∷ []) → Judges t q keep u rank' (record { refusal = x; rounds = r.rounds })
    unfolding run
    judges_rest x e =
        record {
          answer = e ∙ sym (after_eight ls (lines_of q) eight);
          found = λ a.
              record {
                ranked = ranked_all ls tabled.tabled.passed u ran.judged.settled rank rank' none t tabled.tabled (none.before.long ∙ long);
                settled = ran.judged.settled;
                slotted = ran.slotted;
                keeps = ran.long;
                no_return = asked_of.no_return;
                eight = eight;
                faults = or_accepted (refusal (faults_row base ls ∷ [])) (refusal (miscounts_row ls (lines_of q) ∷ [])) (sym (faults_first ls (lines_of q)) ∙ (sym e ∙ a));
              };
          counted = λ a. ran.counted;
        }

-- ---- the rows of the bytes
module _ (a z t q : List ℕ) (read : Read a t) (tailed : Tailed a z q) where
  abbrev of : OfSheet a t
  of = read.of

  pub at_front : front 6 (a ++ z) ≡ a
  at_front = front_of 6 a z tailed.parted.front_whole tailed.parted.plain tailed.parted.begins

  pub at_tail : tail 6 (a ++ z) ≡ z
  at_tail = tail_of 6 a z tailed.parted.front_whole tailed.parted.plain tailed.parted.begins

  -- as many lines as cells
  pub lines_many : length (lines_of q) ≡ count 6 z
  lines_many = ap length tailed.cells ∙ length_lines 6 z

  table_lines : length (lines_in t) ≡ count 6 a
  table_lines = ap length of.lines_are ∙ count_bare 6 a

  thirteen_same : refusal (miscounts_row (lines_in t) (lines_of q) ∷ []) ≡ row13_alone base a z
  thirteen_same = rw (table_lines, lines_many, program_same a t of, tailed.cells) refl

  rows_same : refusal (table_rows (lines_in t) (lines_of q)) ≡ refusal (program_rows base (a ++ z))
  rows_same =
      eight_first (lines_in t) (lines_of q)
      ∙ (ap₂ or_later (eight_same a t of) (faults_first (lines_in t) (lines_of q) ∙ ap₂ or_later (faults_same a t of) thirteen_same)
      ∙ sym (program_is base (a ++ z) a z at_front at_tail))

  -- every row that looks at no output
  pub input_same : (x : Refusal) → x ≡ refusal (table_rows (lines_in t) (lines_of q)) → refusal (input_rows base (a ++ z)) ≡ x
  input_same x e = refusal_append (sheet_rows base (a ++ z)) (program_rows base (a ++ z)) ∙ (ap (λ (r : Refusal). or_later r (refusal (program_rows base (a ++ z)))) tailed.sheet ∙ sym (e ∙ rows_same))

  pub tabled_in : TabledIn base t
  tabled_in = record { tabled = of.tabled; bounded = of.bounded }

  pub listed_of : Listed (count_of name_line (lines_in t)) q
  listed_of = record { few = tailed.few; good = rw (count_same a t of name_line) tailed.good }

  pub clear_of : (u rank keep : List ℕ) → Found (lines_in t) t u rank keep → Clear a t u rank keep
  clear_of u rank keep f =
      record { read = read; found = f; accepted = front_input a read.sheet (sym (eight_same a t of) ∙ f.eight) (sym (faults_same a t of) ∙ f.faults) }

  -- no Q line miscounts
  pub counts_of : refusal (table_rows (lines_in t) (lines_of q)) ≡ Accepted → first (row13 (program (lines 6 a)) (lines 6 z)) (count 6 z) ≡ count 6 z
  counts_of e =
      let h = (accepted_clear (table_rows (lines_in t) (lines_of q)) e).1.1.0 in
      rw (lines_many, program_same a t of, tailed.cells) at (first_none (row13 (program (lines_in t)) (lines_of q)) (length (lines_of q)) h)

-- ---- refusals before the table
pub input_sheet : (b : List ℕ) (code place : ℕ) → refusal (sheet_rows base b) ≡ Refused code place → refusal (input_rows base b) ≡ Refused code place
input_sheet b code place e = refusal_append (sheet_rows base b) (program_rows base b) ∙ rw e

-- by row 1
one_refused : (b : List ℕ) → row1 base b ≡ true → refusal (sheet_rows base b) ≡ Refused 1 0
unfolding sheet_rows refusal first
one_refused b e = rw e refl

pub input_one : (b : List ℕ) → row1 base b ≡ true → refusal (input_rows base b) ≡ Refused 1 0
input_one b e = input_sheet b 1 0 (one_refused b e)

-- ---- the parts of a sheet
module _ (b t : List ℕ) (m k : ℕ) (p : Parts b t m k) where
  -- the table's program is the sheet's
  pub program_parts : program (lines_in (take k t)) ≡ program (lines 6 (front 6 b))
  program_parts =
      program_same (take (m * 32) b) (take k t) p.read.of
      ∙ ap (λ (x : List ℕ). program (lines 6 x)) (sym (at_front (take (m * 32) b) (drop (m * 32) b) (take k t) _ p.read p.tailed) ∙ ap (front 6) (take-append-drop (m * 32) b))

  module _ (n : ℕ) (decls : n ≡ decls_of (lines_in (take (k - 0) t))) (room last : ℕ) (at_room : room ≡ 8 * m + 16)
      (at_last : last ≡ room + 6 * count 6 (take (length b - m * 32) (drop (m * 32) b)))
      (keep u rank x y : List ℕ) (j : Judged) (w : Judges (take (k - 0) t) (take (last - room) (drop room t)) keep x y j) (x_long : length x ≡ 2 * n) (y_long : length y ≡ n) where
    read : Read (take (m * 32 - 0) b) (take (k - 0) t)
    read = read_lent b t m k p (m * 32) refl

    tailed : Tailed (take (m * 32 - 0) b) (take (length b - m * 32) (drop (m * 32) b)) (take (last - room) (drop room t))
    tailed = tailed_lent b t m k p (m * 32) room last refl at_room at_last

    pub decides_parts : Decides b t keep (put_mid 0 (2 * n - 0) u x) (put_mid 0 (n - 0) rank y) (record { refusal = j.refusal; rounds = j.rounds; lines = m; cells = k; decls = n })
    decides_parts =
        let v : k - 0 ≡ k = omega arith in
        record {
          answer = sym (input_same _ _ _ _ read tailed j.refusal w.answer) ∙ ap (λ (c : List ℕ). refusal (input_rows base c)) (joined_lent b t m k p (m * 32));
          accepts = λ a.
              record {
                parts = p;
                decls_are = rw v at decls;
                found = rw (first_put u x (2 * n) x_long, first_put rank y n y_long) (rw v at (w.found a));
                counted = rw v at (w.counted a);
                counts = rw (cut_first b (m * 32), cut_rest b (m * 32)) at (counts_of _ _ _ _ read tailed (sym w.answer ∙ a));
              };
        }

-- memory that is lent
pub fields_room : (b t : List ℕ) → OfSheet b t → (keep u rank : List ℕ) → Room keep u rank → count_of field_line (lines_in t) ≤ length keep
fields_room b t of keep u rank r = omega (arith, fields_within base (lines_in t) of.bounded, r.keeps)

pub decls_room : (b t : List ℕ) → OfSheet b t → (n : ℕ) → n ≡ decls_of (lines_in t) → n ≤ 96
decls_room b t of n e = omega (arith, e, decls_within base (lines_in t) of.bounded)

-- ---- a refusal
pub decides_refused : (b t keep u rank : List ℕ) (code place : ℕ) → refusal (input_rows base b) ≡ Refused code place → Decides b t keep u rank (refused_decided code place)
decides_refused b t keep u rank code place e = record { answer = sym e; accepts = λ h. let z : ◌≡◌ {A = ℕ} 0 1 = cc in absurd (omega arith) }
