-- From the rows of a sheet to the table of its declarations and the cells of its Q lines. Assumes nothing.
use Rattle.std.specs.Prelude.{◌≡◌, List, [], ◌++◌, ℕ, suc, ◌+◌, ◌-◌, ◌*◌, ◌≤◌, ◌<◌, length, false}
use Rattle.std.proofs.Math.Path.{refl, ap, sym}
use Rattle.std.proofs.Common.{◌∙◌, append-nil, arith, length-drop, take-append-drop, take_at, drop_at, take-take, take-add, length-take-le}
use Rattle.std.proofs.Math.ListN.{take, drop}
use borrow.Rule.Slice.PartMut.{put_mid, take_put, mid_len}
use Rattle.sheet.specs.Format.{base}
use Rattle.sheet.specs.Line.{Line}
use Rattle.sheet.specs.Sheet.{count, lines, row1}
use Rattle.walk_cells.specs.Cells.{lines_of}
use Rattle.meaning_bares.specs.PlaceLaws.{count_bare}
use Rattle.answer.specs.declared.Refusal.{Refusal}
use Rattle.answer.specs.declared.Refusal.TheVariants.{Accepted, Refused}
use Rattle.answer.specs.Answer.{sheet_rows, refusal}
use Rattle.answer.specs.Cut.{Whole}
use Rattle.answer_laws.specs.Answer.{accepted_clear, clear_accepted}
use Rattle.answer_laws.specs.Build.{whole_length, row1_small}
use Rattle.rows_patterns.specs.Kept.{Held}
use Rattle.sheet.proofs.SheetLaws.{length_lines}
use Rattle.row4_limits.specs.declared.Counts.{Counts}
use Rattle.row4_limits.specs.Limits.{counts_of}
use Rattle.table_declared.specs.Passed.{Passed}
use Rattle.rows_refusals.specs.declared.Checked as rows
use Rattle.rows_refusals.specs.Rows.{with_counts, checked_of, Checks}
use Rattle.rows_refusals.specs.RowsLaws.{checked_accepted, accepted_rows}
use Rattle.table_access.specs.declared.Sizes.{Sizes}
use Rattle.table_access.specs.Tables.{sizes_of, cell_count, lines_in, Tabled}
use Rattle.table_sizes.specs.Sizing.{behind, lines_behind, Counted}
use Rattle.table_sizes.specs.SizingLaws.{count_all, cells_few}
use Rattle.sheet.specs.Line.{is_bad}
use Rattle.sheet.specs.Sheet.{line, lines_from, first, row2}
use Rattle.sheet.proofs.FirstLaws.{none_first}
use Rattle.meaning.specs.Rows.{raws, row3}
use Rattle.answer.specs.Answer.{Clear}
use Rattle.answer_patterns.specs.Whole as whole
use Rattle.answer_patterns.specs.Whole.{front_count, front, tail}
use Rattle.answer_pattern_laws.specs.Parts.{NoPattern, row1_whole, front_whole, front_none, tail_whole, tail_begins, line_tail, counts_add, count_front}
use Rattle.answer_pattern_laws.specs.Parted.{Parted}
use Rattle.answer_pattern_laws.specs.Order.{passed_plain}
use Rattle.answer_pattern_laws.specs.Plain.{sheet_refusal_plain}
use Rattle.answer_pattern_laws.specs.Refusals as refusals
use Rattle.answer_pattern_laws.specs.Refusals.{front_row1}
use Rattle.input_table.specs.Table.{Checked, Lined, Read, Tailed, Filled, Parts, refused_front, Fronted, Refuses, Breaks}

-- ---- the cells of lines in the table
-- what was lent behind the header comes back
pub behind_put : (t q : List ℕ) (n e : ℕ) → 11 + 6 * n ≤ length t → length q ≡ 6 * n → behind n (put_mid 11 (e - 11) t q) ≡ lines_of q
behind_put t q n e h k =
    let a : length (take 11 t) ≡ 11 = length-take-le 11 t (omega arith) in
    let r : List ℕ = drop (e - 11) (drop 11 t) in
    ap (λ (x : List ℕ). lines_of (take (6 * n) x)) (drop_at (take 11 t) (q ++ r) 11 a) ∙ ap lines_of (take_at q r (6 * n) k)

-- as many cells as the table needs have them all
pub behind_part : (t : List ℕ) (n m : ℕ) → 11 + 6 * n ≤ m → m ≤ length t → behind n (take (m - 0) t) ≡ behind n t
behind_part t n m h l =
    let e : m - 0 ≡ 11 + (m - 11) = omega arith in
    let a : length (take 11 t) ≡ 11 = length-take-le 11 t (omega arith) in
    ap lines_of
    (ap (λ (k : ℕ). take (6 * n) (drop 11 (take k t))) e
    ∙ ap (λ (x : List ℕ). take (6 * n) (drop 11 x)) (take-add 11 (m - 11) t)
    ∙ ap (take (6 * n)) (drop_at (take 11 t) (take (m - 11) (drop 11 t)) 11 a)
    ∙ take-take (6 * n) (m - 11) (drop 11 t) (omega arith))

-- eight cells for each line, and the header's and the end's
pub cells_room : (ls : List Line) → Passed ls → cell_count (sizes_of ls) ≤ 8 * length ls + 16
unfolding sizes_of
cells_room ls p = omega (arith, count_all ls p)

pub cells_lines : (ls : List Line) → 11 + 6 * length ls ≤ cell_count (sizes_of ls)
unfolding sizes_of
cells_lines ls = omega arith

-- ---- from the rows to the table
module _ (b t : List ℕ) (r : rows.Checked) (short : row1 base b ≡ false) (e : ℕ) (x : List ℕ) (c : Checks b x r) (a : r.refusal ≡ Accepted) where
  pub checked_lines : 8 * count 6 b + 16 ≤ length (put_mid 11 (e - 11) t x) → 11 + 6 * count 6 b ≤ length t → Checked b (put_mid 11 (e - 11) t x) r.counts
  checked_lines room h =
      let y = c.accepts a in
      let q = behind_put t x (count 6 b) e h y.sized in
      record {
        accepts = record { short = short; no_bad = y.no_bad; sheet = checked_accepted b r c.answer a };
        lines_are = q ∙ y.lines_are;
        passed = rw q y.passed;
        bounded = rw q y.bounded;
        counts = y.counts_are ∙ ap counts_of (sym q);
        room = room;
      }

module _ (b t : List ℕ) (k : Counts) (c : Checked b t k) where
  abbrev ls : List Line
  ls = behind (count 6 b) t

  many : length ls ≡ count 6 b
  many = ap length c.lines_are ∙ count_bare 6 b

  pub counted_of : (n : ℕ) → n ≡ count 6 b → Counted (behind n t) n k.names k.args k.types k.decls k.ctors k.fields
  unfolding counts_of
  counted_of n e =
      rw (e, c.counts)
      (record { passed = c.passed; lines_are = sym many; names_are = refl; args_are = refl; types_are = refl; decls_are = refl; ctors_are = refl; fields_are = refl })

  module _ (z : Sizes) (s : z ≡ sizes_of ls) (m : ℕ) (w : m ≡ cell_count z) where
    pub part_room : m ≤ length t
    part_room = omega (arith, w, ap cell_count s, cells_room ls c.passed, many, c.room)

    lines_of_z : z.lines ≡ count 6 b
    unfolding sizes_of
    lines_of_z = ap (λ (y : Sizes). y.lines) s ∙ many

    pub lined_of : Lined b (take (m - 0) t) z
    lined_of =
        let h : 11 + 6 * count 6 b ≤ m = omega (arith, w, ap cell_count s, cells_lines ls, many) in
        let q : lines_behind z (take (m - 0) t) ≡ ls = ap (λ (n : ℕ). behind n (take (m - 0) t)) lines_of_z ∙ behind_part t (count 6 b) m h part_room in
        let v : m - 0 ≡ m = omega arith in
        record {
          accepts = c.accepts;
          lines_are = q ∙ c.lines_are;
          bounded = rw q c.bounded;
          ready = record { passed = rw q c.passed; sizes = s ∙ ap sizes_of (sym q); room = length-take-le (m - 0) t (omega (arith, part_room)) ∙ v ∙ w };
        }

pub cells_small : (b t : List ℕ) (k : Counts) → Checked b t k → (z : Sizes) → z ≡ sizes_of (behind (count 6 b) t) → cell_count z < 262144
cells_small b t k c z s = rw s (cells_few (behind (count 6 b) t) c.passed)

-- the table, beside the bytes
pub read_of : (b t : List ℕ) (z : Sizes) (t' : List ℕ) → Lined b t z → Tabled t' → lines_in t' ≡ lines_behind z t → Read b t'
read_of b t z t' c m e =
    record { of = record { tabled = m; short = c.accepts.short; no_bad = c.accepts.no_bad; lines_are = e ∙ c.lines_are; bounded = rw e c.bounded }; sheet = c.accepts.sheet }

-- ---- a sheet without Q lines
pub tailed_none : (b : List ℕ) → row1 base b ≡ false → refusal (sheet_rows base b) ≡ Accepted → Tailed b [] []
unfolding lines lines_from lines_of first
tailed_none b short e =
    let plain : NoPattern 6 b = passed_plain 6 b (none_first (row3 (raws 6 b)) (suc (count 6 b)) (accepted_rows b e).in_order) in
    record {
      parted = record { front_whole = row1_whole base b short; plain = plain; tail_whole = refl; begins = λ h. absurd (omega (arith, h)); no_bad = λ i h. absurd (omega (arith, h)) };
      sheet = ap (λ (x : List ℕ). refusal (whole.sheet_rows base x)) (append-nil b) ∙ (sheet_refusal_plain base b (row1_whole base b short) plain ∙ e);
      cells = refl;
      sized = refl;
      few = omega arith;
      good = refl;
    }

-- ---- a refusal of rows 1 to 7
refused_of : (b : List ℕ) (q : Refusal) (k : Counts) (code place : ℕ) → refusal (sheet_rows base b) ≡ q → (with_counts q k).refusal ≡ Refused code place → refusal (sheet_rows base b) ≡ Refused code place
refused_of b Accepted k code place e h = let z : ◌≡◌ {A = ℕ} 0 1 = cc in absurd (omega arith)
refused_of b (Refused c p) k code place e h = e ∙ h

-- as the rows of declarations refuse it
pub refuses_of : (b : List ℕ) (room code place : ℕ) → row1 base b ≡ false → (checked_of b).refusal ≡ Refused code place → 8 * count 6 b + 16 ≤ room → Refuses b room code place
unfolding checked_of
refuses_of b room code place short e h = record { short = short; refused = refused_of b (refusal (sheet_rows base b)) (counts_of (lines 6 b)) code place refl e; roomy = h }

-- ---- a sheet whose Q lines begin at line m
module _ (b : List ℕ) (room m at : ℕ) (r : Breaks b room m) (e : at ≡ m * 32) where
  whole_b : Whole 6 b
  whole_b = row1_whole base b r.short

  first_is : take at b ≡ front 6 b
  unfolding front
  first_is = let k : at ≡ 32 * front_count 6 b = e ∙ (omega (arith, r.begins)) in ap (λ (n : ℕ). take n b) k

  rest_is : drop at b ≡ tail 6 b
  unfolding tail
  rest_is = let k : at ≡ 32 * front_count 6 b = e ∙ (omega (arith, r.begins)) in ap (λ (n : ℕ). drop n b) k

  pub parts_join : take at b ++ drop at b ≡ b
  parts_join = take-append-drop at b

  two : Clear (count 6 b) (λ i. is_bad (line 6 b i))
  unfolding row2
  two = none_first (λ i. is_bad (line 6 b i)) (count 6 b) r.no_bad

  pub parted_of : Parted 6 (take at b) (drop at b)
  parted_of =
      rw (first_is, rest_is)
      (record {
        front_whole = front_whole 6 b;
        plain = front_none 6 b;
        tail_whole = tail_whole 6 b whole_b;
        begins = tail_begins 6 b;
        no_bad = λ i h. ap is_bad (line_tail 6 b i) ∙ two (front_count 6 b + i) (omega (arith, h, counts_add 6 b, count_front 6 b));
      })

  pub front_short : row1 base (take at b) ≡ false
  front_short = rw first_is (front_row1 base b (front 6 b) (tail 6 b) refl refl r.short two)

  pub front_good : Clear (count 6 (take at b)) (λ i. is_bad (line 6 (take at b) i))
  front_good = rw first_is (refusals.front_good base b (front 6 b) (tail 6 b) refl refl r.short two)

  pub front_lines : count 6 (take at b) ≡ m
  front_lines = ap (count 6) first_is ∙ (count_front 6 b ∙ r.begins)

  -- where no row applies to both parts, none applies to the declarations
  pub front_passes : refusal (whole.sheet_rows base b) ≡ Accepted → refusal (sheet_rows base (take at b)) ≡ Accepted
  unfolding whole.sheet_rows sheet_rows
  front_passes e =
      let h = accepted_clear (whole.sheet_rows base b) e in
      rw first_is
      (clear_accepted (sheet_rows base (front 6 b)) (
        (λ i k. front_row1 base b (front 6 b) (tail 6 b) refl refl r.short two),
        (
          refusals.front_good base b (front 6 b) (tail 6 b) refl refl r.short two,
          (h.1.1.0, (h.1.1.1.1.0, (h.1.1.1.1.1.1.0, (h.1.1.1.1.1.1.1.1.0, (h.1.1.1.1.1.1.1.1.1.0, tt))))),
        ),
      ))

-- the parts as they are lent
pub cut_first : (b : List ℕ) (at : ℕ) → take (at - 0) b ≡ take at b
cut_first b at = let e : at - 0 ≡ at = omega arith in ap (λ (n : ℕ). take n b) e

pub cut_rest : (b : List ℕ) (at : ℕ) → take (length b - at) (drop at b) ≡ drop at b
cut_rest b at = ap (take (length b - at)) (sym (append-nil (drop at b))) ∙ take_at (drop at b) [] (length b - at) (length-drop at b)

module _ (b : List ℕ) (room m : ℕ) (r : Breaks b room m) where
  abbrev before : List ℕ
  before = take (m * 32 - 0) b

  abbrev behind_it : List ℕ
  behind_it = take (length b - m * 32) (drop (m * 32) b)

  pub cut_joined : before ++ behind_it ≡ b
  cut_joined = rw (cut_first b (m * 32), cut_rest b (m * 32)) (parts_join b room m (m * 32) r refl)

  pub cut_parted : Parted 6 before behind_it
  cut_parted = rw (cut_first b (m * 32), cut_rest b (m * 32)) (parted_of b room m (m * 32) r refl)

  pub cut_row1 : row1 base (before ++ behind_it) ≡ false
  cut_row1 = rw cut_joined r.short

  pub cut_short : row1 base before ≡ false
  cut_short = rw (cut_first b (m * 32)) (front_short b room m (m * 32) r refl)

  pub cut_good : Clear (count 6 before) (λ i. is_bad (line 6 before i))
  cut_good = rw (cut_first b (m * 32)) (front_good b room m (m * 32) r refl)

  pub cut_lines : count 6 before ≡ m
  cut_lines = ap (count 6) (cut_first b (m * 32)) ∙ front_lines b room m (m * 32) r refl

  -- as many lines as the sheet has besides
  pub cut_rest_lines : m + count 6 behind_it ≡ count 6 b
  cut_rest_lines =
      let w : length b ≡ 32 * count 6 b = whole_length 6 b (row1_whole base b r.short) in
      let n : length behind_it ≡ length b - m * 32 = ap length (cut_rest b (m * 32)) ∙ length-drop (m * 32) b in
      omega (arith, w, n, r.inside)

  -- the refusal of both parts is the sheet's
  pub cut_refusal : (q : Refusal) → refusal (whole.sheet_rows base (before ++ behind_it)) ≡ q → refusal (whole.sheet_rows base b) ≡ q
  cut_refusal q e = ap (λ (x : List ℕ). refusal (whole.sheet_rows base x)) (sym cut_joined) ∙ e

  -- what the test of both parts tells, where no row applies
  module _ (e : refusal (whole.sheet_rows base (before ++ behind_it)) ≡ Accepted) where
    pub cut_passes : refusal (sheet_rows base before) ≡ Accepted
    cut_passes =
        ap (λ (x : List ℕ). refusal (sheet_rows base x)) (cut_first b (m * 32)) ∙ front_passes b room m (m * 32) r refl (cut_refusal Accepted e)

    pub tailed_of : (q p : List ℕ) → Held before behind_it q → 6 * count 6 behind_it ≤ length q → p ≡ take (6 * count 6 behind_it) q → Tailed before behind_it p
    tailed_of q p h l k =
        let c : lines_of p ≡ lines 6 behind_it = ap lines_of k ∙ h.lines_are in
        let n : length p ≡ 6 * count 6 behind_it = ap length k ∙ length-take-le (6 * count 6 behind_it) q l in
        record {
          parted = cut_parted;
          sheet = e;
          cells = c;
          sized = n;
          few = omega (arith, n, h.few);
          good = rw (c, length_lines 6 behind_it) h.in_range;
        }

-- the refusal of the declarations alone
pub refusal_is : (b : List ℕ) (r : rows.Checked) → r ≡ checked_of b → r.refusal ≡ refusal (sheet_rows base b)
unfolding checked_of
refusal_is b r e = ap (λ (k : rows.Checked). k.refusal) e ∙ go (refusal (sheet_rows base b)) (counts_of (lines 6 b))
  where
    go : (q : Refusal) (k : Counts) → (with_counts q k).refusal ≡ q
    go Accepted k = refl
    go (Refused c p) k = refl

-- ---- the table's part of the cells
-- the first m cells, which were lent
pub first_put : (t x : List ℕ) (m : ℕ) → length x ≡ m → take m (put_mid 0 (m - 0) t x) ≡ x
first_put t x m e = take_at x (drop (m - 0) (drop 0 t)) m e

pub filled_of : (b t : List ℕ) (k : Counts) (c : Checked b t k) (z : Sizes) → z ≡ sizes_of (behind (count 6 b) t) → (m : ℕ) → m ≡ cell_count z → (x : List ℕ) → length x ≡ length (take (m - 0) t)
    → length (put_mid 0 (m - 0) t x) ≡ length t → Tabled x → lines_in x ≡ lines_behind z (take (m - 0) t) → Filled b t (put_mid 0 (m - 0) t x) m
filled_of b t k c z s m w x n same y e =
    let l : m ≤ length t = part_room b t k c z s m w in
    let v : m - 0 ≡ m = omega arith in
    let q : length x ≡ m = n ∙ (length-take-le (m - 0) t (omega (arith, l)) ∙ v) in
    record {
      long = same;
      room = omega (arith, w, ap cell_count s, cells_room (behind (count 6 b) t) c.passed, many b t k c);
      read = rw (first_put t x m q) (read_of b (take (m - 0) t) z x (lined_of b t k c z s m w) y e);
    }

-- ---- a sheet that is refused
pub fronted_refused : (b t : List ℕ) (code place : ℕ) → refusal (whole.sheet_rows base b) ≡ Refused code place → Fronted b t (refused_front code place)
fronted_refused b t code place e = record { answer = sym e; accepts = λ h. let z : ◌≡◌ {A = ℕ} 0 1 = cc in absurd (omega arith) }

-- ---- the parts of a sheet without Q lines
lines_all : (b : List ℕ) → row1 base b ≡ false → length b ≡ 32 * count 6 b
lines_all b short = whole_length 6 b (row1_whole base b short)

module _ (b t t' : List ℕ) (short : row1 base b ≡ false) (sheet : refusal (sheet_rows base b) ≡ Accepted) (room : 8 * count 6 b + 16 ≤ length t) (k : ℕ) (f : Filled b t t' k) where
  take_all : take (count 6 b * 32) b ≡ b
  take_all = ap (take (count 6 b * 32)) (sym (append-nil b)) ∙ take_at b [] (count 6 b * 32) (omega (arith, lines_all b short))

  drop_all : drop (count 6 b * 32) b ≡ []
  drop_all = ap (drop (count 6 b * 32)) (sym (append-nil b)) ∙ drop_at b [] (count 6 b * 32) (omega (arith, lines_all b short))

  pub parts_all : Parts b t' (count 6 b) k
  parts_all =
      record {
        inside = omega arith;
        whole = lines_all b short;
        table_room = f.room;
        tail_room = omega (arith, room, f.long);
        few = row1_small base b short;
        read = rw take_all f.read;
        tailed = rw (take_all, drop_all) (tailed_none b short sheet);
      }

  pub fronted_all : (n : ℕ) → n ≡ count 6 b → Fronted b t' (record { refusal = Accepted; lines = n; cells = k })
  fronted_all n e =
      rw e
      (record {
        answer = sym (sheet_refusal_plain base b (row1_whole base b short) (passed_plain 6 b (none_first (row3 (raws 6 b)) (suc (count 6 b)) (accepted_rows b sheet).in_order)) ∙ sheet);
        accepts = λ _. parts_all;
      })

-- ---- those of a sheet with Q lines
-- cells behind the header, where the first e cells are the same
behind_same : (t t' : List ℕ) (n e : ℕ) → 11 + 6 * n ≤ e → e ≤ length t → e ≤ length t' → take e t ≡ take e t' → behind n t ≡ behind n t'
behind_same t t' n e h l l' q =
    let v : e - 0 ≡ e = omega arith in
    let x : take (e - 0) t ≡ take (e - 0) t' = rw v q in
    sym (behind_part t n e h l) ∙ (ap (λ (y : List ℕ). behind n y) x ∙ behind_part t' n e h l')

-- what was checked stays so in the first e cells, where something is put behind them
pub checked_first : (b t : List ℕ) (k : Counts) (e n : ℕ) (y : List ℕ) → 8 * count 6 b + 16 ≤ e → e ≤ length t → e ≤ length (put_mid e n t y) → Checked b t k → Checked b (take (e - 0) (put_mid e n t y)) k
checked_first b t k e n y h l l' c =
    let t' : List ℕ = put_mid e n t y in
    let v : e - 0 ≡ e = omega arith in
    let x : length (take (e - 0) t') ≡ e = length-take-le (e - 0) t' (omega (arith, l')) ∙ v in
    let w : behind (count 6 b) (take (e - 0) t') ≡ behind (count 6 b) t = behind_part t' (count 6 b) e (omega (arith, h)) l' ∙ sym (behind_same t t' (count 6 b) e (omega (arith, h)) l l' (sym (take_put e n t y l))) in
    record {
      accepts = c.accepts;
      lines_are = w ∙ c.lines_are;
      passed = rw w c.passed;
      bounded = rw w c.bounded;
      counts = c.counts ∙ ap counts_of (sym w);
      room = omega (arith, x, h);
    }

-- a part of n cells
pub part_sized : (t : List ℕ) (a e n : ℕ) → e ≡ a + n → e ≤ length t → length (take (e - a) (drop a t)) ≡ n
part_sized t a e n h l = mid_len a e t l ∙ omega arith

module _ (b : List ℕ) (space m : ℕ) (r : Breaks b space m) (e : refusal (whole.sheet_rows base (before b space m r ++ behind_it b space m r)) ≡ Accepted)
    (t y w : List ℕ) (room last k : ℕ) (at_room : room ≡ 8 * m + 16) (at_last : last ≡ room + 6 * count 6 (behind_it b space m r)) (fits : last ≤ length t)
    (held : Held (before b space m r) (behind_it b space m r) y) (y_long : length y ≡ 6 * count 6 (behind_it b space m r)) (w_long : length w ≡ room) where
  -- the Q lines' cells, and the table's room before them
  abbrev with_tail : List ℕ
  with_tail = put_mid room (last - room) t y

  abbrev with_table : List ℕ
  with_table = put_mid 0 (room - 0) with_tail w

  rest_of : drop room with_table ≡ drop room with_tail
  rest_of = let v : room - 0 ≡ room = omega arith in drop_at w (drop (room - 0) with_tail) room w_long ∙ ap (λ (n : ℕ). drop n with_tail) v

  tail_cells : take (6 * count 6 (behind_it b space m r)) (drop room with_table) ≡ take (6 * count 6 (behind_it b space m r)) y
  tail_cells =
      let n : ℕ = 6 * count 6 (behind_it b space m r) in
      let x : List ℕ = drop (last - room) (drop room t) in
      ap (take n) (rest_of ∙ drop_at (take room t) (y ++ x) room (length-take-le room t (omega (arith, at_last, fits))))
      ∙ (take_at y x n y_long ∙ sym (ap (take n) (sym (append-nil y)) ∙ take_at y [] n y_long))

  pub parts_cut : Filled (before b space m r) (take (room - 0) with_tail) w k → 8 * count 6 b + 16 ≤ length with_table → Parts b with_table m k
  parts_cut f long =
      let c : before b space m r ≡ take (m * 32) b = cut_first b (m * 32) in
      let d : behind_it b space m r ≡ drop (m * 32) b = cut_rest b (m * 32) in
      let h : k ≤ room = omega (arith, f.room, cut_lines b space m r, at_room) in
      let p : take k with_table ≡ take k w = sym (take-take k room with_table h) ∙ ap (take k) (first_put with_tail w room w_long) in
      record {
        inside = omega (arith, r.inside);
        whole = lines_all b r.short;
        table_room = omega (arith, h, at_room);
        tail_room = long;
        few = row1_small base b r.short;
        read = rw (p, ← c) f.read;
        tailed = rw (← at_room, ← c, ← d) (tailed_of b space m r e y _ held (omega (arith, y_long)) tail_cells);
      }

  pub fronted_cut : Filled (before b space m r) (take (room - 0) with_tail) w k → 8 * count 6 b + 16 ≤ length with_table → Fronted b with_table (record { refusal = Accepted; lines = m; cells = k })
  fronted_cut f long = record { answer = sym (cut_refusal b space m r Accepted e); accepts = λ _. parts_cut f long }

-- ---- the parts as they are lent
module _ (b t : List ℕ) (m k : ℕ) (p : Parts b t m k) where
  pub read_lent : (at : ℕ) → at ≡ m * 32 → Read (take (at - 0) b) (take (k - 0) t)
  read_lent at e = let v : k - 0 ≡ k = omega arith in rw (cut_first b at, e, v) p.read

  pub tailed_lent : (at first last : ℕ) → at ≡ m * 32 → first ≡ 8 * m + 16 → last ≡ first + 6 * count 6 (take (length b - at) (drop at b))
      → Tailed (take (at - 0) b) (take (length b - at) (drop at b)) (take (last - first) (drop first t))
  tailed_lent at first last e f g =
      let v : last - first ≡ 6 * count 6 (take (length b - at) (drop at b)) = omega arith in
      rw (v, cut_first b at, cut_rest b at, e, f) p.tailed

  pub joined_lent : (at : ℕ) → take (at - 0) b ++ take (length b - at) (drop at b) ≡ b
  joined_lent at = rw (cut_first b at, cut_rest b at) (take-append-drop at b)
