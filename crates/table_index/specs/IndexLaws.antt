-- A table filled line after line. Assumes nothing.
use Rattle.std.specs.Prelude.{◌⊎◌, ◌≡◌, List, true, ◌&&◌, length, get_or, set}
use Rattle.std.proofs.Math.Logic.{⊎_elim}
use Rattle.std.proofs.Math.Path.{refl, ap}
use Rattle.std.proofs.Common.{sym, ◌∙◌, get_or-set_same}
use Rattle.std.proofs.Math.Bool.{Bool, false}
use Prim.Native.Nat.{ℕ, zero, suc, ◌+◌, ◌*◌, ◌≤◌, ◌<◌}
use native.Mathlib.Omega.{arith}
use Rattle.std.proofs.Math.Dec.{eqb, leb, ltb}
use Rattle.std.proofs.Math.Seq.{get_or-set_other}
use borrow.Author.Tests.{ltb-true, ltb-false, lt-ltb, le-ltb, eq-eqb, ne_eqb}
use Rattle.number_columns.specs.Column.{pick, ◌⇒◌∥◌}
use Rattle.sheet.specs.Line.{Line, letter, number}
use Rattle.sheet.proofs.ListLaws.{both, false_true}
use Rattle.model.specs.Decl.{Dtype, dtype_at, position, close_fields}
use Rattle.meaning.specs.Program.{name_line, type_line, local_line, import_line, param_line, ctor_line, field_line, is, is_head, dtype_of, program}
use Rattle.meaning.specs.Rows.{nth_line, count_of, count_before, heads_before, good_head, good_numbers}
use Rattle.model_laws.specs.Names.{position_name, position_distinct}
use Rattle.model_laws.specs.Rounds.{cases_eq}
use Rattle.meaning_laws.specs.Program.{head_cases, heads_before_lt, length_program}
use Rattle.rows_header.specs.Header.{Lettered}
use Rattle.row3_order.specs.StepLaws.{count_before_step, heads_before_step, count_before_le, heads_before_le}
use Rattle.row4_limits.specs.Limits.{start}
use Rattle.row4_limits.specs.LimitsLaws.{start_at}
use Rattle.table_declared.specs.Passed.{Passed}
use Rattle.table_declared.specs.LineLaws.{nth_at, good_line}
use Rattle.table_declared.specs.DeclLaws.{dtype_is}
use Rattle.table_declared.specs.PassedLaws.{place_counted, head_place, distinct_names}
use Rattle.table_access.specs.Tables.{place_of, decls_of, sizes_of, at_begins, at_params, at_ctors, at_fields, at_names, number_cell, begin_row, header, cells_of, Within}
use Rattle.table_access.specs.CellsLaws.{Holds, header_cell, line_letter, line_number, begin_cell, param_cell, ctor_cell, field_cell, name_cell}
use Rattle.table_sizes.specs.Filling.{Put, all, Agree, Kept, Toward}
use Rattle.table_sizes.specs.FillingLaws.{put_none, put_next, put_one, put_toward, section_step}
use Rattle.table_index.specs.declared.Seen.{Seen}
use Rattle.table_index.specs.Index.{seen_before, begin_of, Fits, named, Headed, Filled, Reached}

-- ---- letters
-- a line of another letter
not_letter : {A : Type 0} (l : Line) (x y : ℕ) → letter l ≡ x → eqb x y ≡ false → is y l ≡ true → A
not_letter l x y e q k = false_true (sym (ap (λ (z : ℕ). eqb z y) e ∙ q) ∙ k)

not_head : (l : Line) (x : ℕ) → letter l ≡ x → eqb x 68 ≡ false → eqb x 73 ≡ false → is_head l ≡ false
not_head l x e q r = rw (e, q, r)

-- a line that begins a declaration is of no other letter
not_both : {A : Type 0} (l : Line) (y : ℕ) → eqb 68 y ≡ false → eqb 73 y ≡ false → is_head l ≡ true → is y l ≡ true → A
not_both l y q r e k = ⊎_elim (λ z. not_letter l 68 y z q k) (λ z. not_letter l 73 y z r k) (head_cases l e)

no_head : {A : Type 0} (l : Line) → is_head l ≡ false → is_head l ≡ true → A
no_head l e k = false_true (sym e ∙ k)

times : (c : Bool) (j k : ℕ) → k ≡ pick c (j + 1) j → k * 4 ≡ pick c (j * 4 + 4) (j * 4)
times true j k e = omega arith
times false j k e = omega arith

-- ---- where a declaration begins
pub begin_put : (t : List ℕ) (at i : ℕ) (c : Seen) → at + 4 ≤ length t
    → Put t (set (set (set (set t at i) (at + 1) c.params) (at + 2) c.ctors) (at + 3) c.fields) at 4 (begin_of i c)
begin_put t at i c h =
    let z : at + 0 ≡ at = omega arith in
    let p0 : Put t (set t at i) at 1 (begin_of i c) = rw z at (put_next t t at 0 (begin_of i c) i (omega arith) refl (put_none t at (begin_of i c))) in
    let p1 : Put t (set (set t at i) (at + 1) c.params) at 2 (begin_of i c) = put_next t (set t at i) at 1 (begin_of i c) c.params (omega (arith, p0.sized)) refl p0 in
    let p2 : Put t (set (set (set t at i) (at + 1) c.params) (at + 2) c.ctors) at 3 (begin_of i c) = put_next t (set (set t at i) (at + 1) c.params) at 2 (begin_of i c) c.ctors (omega (arith, p1.sized)) refl p1 in
    put_next t (set (set (set t at i) (at + 1) c.params) (at + 2) c.ctors) at 3 (begin_of i c) c.fields (omega (arith, p2.sized)) refl p2

-- ---- a table with the header and the cells of the lines
module _ (ls : List Line) (t : List ℕ) (H : Headed ls t) where
  header_value : (h : ℕ) → h < 11 → (h < length t) × (get_or t h 0 ≡ get_or (header (sizes_of ls)) h 0)
  header_value h l =
      let c = header_cell ls h l in
      (omega (arith, c.0, H.sized), H.begun h (omega arith) (omega arith) ∙ c.1)

  pub begins_value : (6 < length t) × (get_or t 6 0 ≡ at_begins (sizes_of ls))
  unfolding header
  begins_value = header_value 6 (omega arith)

  pub params_value : (7 < length t) × (get_or t 7 0 ≡ at_params (sizes_of ls))
  unfolding header
  params_value = header_value 7 (omega arith)

  pub ctors_value : (8 < length t) × (get_or t 8 0 ≡ at_ctors (sizes_of ls))
  unfolding header
  ctors_value = header_value 8 (omega arith)

  pub fields_value : (9 < length t) × (get_or t 9 0 ≡ at_fields (sizes_of ls))
  unfolding header
  fields_value = header_value 9 (omega arith)

  pub names_value : (10 < length t) × (get_or t 10 0 ≡ at_names (sizes_of ls))
  unfolding header
  names_value = header_value 10 (omega arith)

  pub letter_value : (i : ℕ) → i < length ls → (11 + i * 6 < length t) × (get_or t (11 + i * 6) 0 ≡ letter (nth_line ls i))
  unfolding sizes_of
  letter_value i h =
      let c = line_letter ls i h in
      (omega (arith, c.0, H.sized), H.begun (11 + i * 6) (omega arith) (omega arith) ∙ c.1)

  pub name_value : (i : ℕ) → i < length ls → (12 + i * 6 < length t) × (get_or t (12 + i * 6) 0 ≡ number (nth_line ls i) 0)
  unfolding sizes_of
  name_value i h =
      let z : i * 6 + 0 ≡ i * 6 = omega arith in
      let c = rw z at (line_number ls i 0 h (omega arith)) in
      (omega (arith, c.0, H.sized), H.begun (12 + i * 6) (omega arith) (omega arith) ∙ c.1)

-- ---- counts
module _ (ls : List Line) (p : Passed ls) where
  pub seen_fits : (i : ℕ) → i ≤ length ls → (c : Seen) → c ≡ seen_before ls i → Fits i c
  unfolding seen_before
  seen_fits i h c e =
      rw e
      (record {
        line = omega (arith, p.bounded.few);
        params = omega (arith, count_before_le ls param_line i h, p.bounded.few);
        ctors = omega (arith, count_before_le ls ctor_line i h, p.bounded.few);
        fields = omega (arith, count_before_le ls field_line i h, p.bounded.few);
      })

-- ---- where a declaration begins
module _ (ls : List Line) (i : ℕ) (c : Seen) (e : c ≡ seen_before ls i) (g : start ls (heads_before ls i) ≡ i) (l : heads_before ls i ≤ decls_of ls) where
  begin_same : (k : ℕ) → k < 4 → get_or (begin_row ls (heads_before ls i)) k 0 ≡ begin_of i c k
  unfolding seen_before
  begin_same zero h = g
  begin_same (suc zero) h = rw (g, e)
  begin_same (suc (suc zero)) h = rw (g, e)
  begin_same (suc (suc (suc zero))) h = rw (g, e)
  begin_same (suc (suc (suc (suc k)))) h = absurd (omega arith)

  pub begin_toward : (t u : List ℕ) → Put t u (at_begins (sizes_of ls) + heads_before ls i * 4) 4 (begin_of i c) → Toward (cells_of ls) t u (at_begins (sizes_of ls) + heads_before ls i * 4) (at_begins (sizes_of ls) + heads_before ls i * 4 + 4)
  begin_toward t u q =
      let at : ℕ = at_begins (sizes_of ls) + heads_before ls i * 4 in
      put_toward (cells_of ls) t u at 4 (begin_of i c) q
      (λ k h. let z : at + k ≡ at_begins (sizes_of ls) + (heads_before ls i * 4 + k) = omega arith in rw z ((begin_cell ls (heads_before ls i) k l h).1 ∙ begin_same k h))

  pub begin_fits : (t : List ℕ) → length t ≡ length (cells_of ls) → at_begins (sizes_of ls) + heads_before ls i * 4 + 4 ≤ length t
  begin_fits t s = omega (arith, (begin_cell ls (heads_before ls i) 3 l (omega arith)).0, s)

-- ---- line i
module _ (ls : List Line) (t : List ℕ) (i : ℕ) (c : Seen) (R : Reached ls t i c) (h : i < length ls) where
  H : Headed ls t
  H = R.filled.headed

  pub seen_decls : c.decls ≡ heads_before ls i
  unfolding seen_before
  seen_decls = ap (λ (s : Seen). s.decls) R.seen

  seen_params : c.params ≡ count_before param_line ls i
  unfolding seen_before
  seen_params = ap (λ (s : Seen). s.params) R.seen

  seen_ctors : c.ctors ≡ count_before ctor_line ls i
  unfolding seen_before
  seen_ctors = ap (λ (s : Seen). s.ctors) R.seen

  seen_fields : c.fields ≡ count_before field_line ls i
  unfolding seen_before
  seen_fields = ap (λ (s : Seen). s.fields) R.seen

  pub letter_read : (11 + i * 6 < length t) × (get_or t (11 + i * 6) 0 ≡ letter (nth_line ls i))
  letter_read = letter_value ls t H i h

  -- its letter, by the cell read
  pub is_letter : (x : ℕ) → get_or t (11 + i * 6) 0 ≡ x → letter (nth_line ls i) ≡ x
  is_letter x e = sym letter_read.1 ∙ e

  pub head_read : (get_or t (11 + i * 6) 0 ≡ 68) ⊎ (get_or t (11 + i * 6) 0 ≡ 73) → is_head (nth_line ls i) ≡ true
  head_read e = ⊎_elim (λ q. rw (is_letter 68 q)) (λ q. rw (is_letter 73 q)) e

  pub no_letter : (x : ℕ) → (get_or t (11 + i * 6) 0 ≡ x → ⊥) → is x (nth_line ls i) ≡ false
  no_letter x e = ne_eqb (letter (nth_line ls i)) x (λ q. e (letter_read.1 ∙ q))

  -- a C or F line, by the cell read
  pub member_read : Lettered (nth_line ls i) → get_or t (11 + i * 6) 0 ≤ 70 → (get_or t (11 + i * 6) 0 ≡ 68 → ⊥) → letter (nth_line ls i) ≡ pick (eqb (get_or t (11 + i * 6) 0) 70) 70 67
  member_read l a b =
      ⊎_elim
      (λ (q : letter (nth_line ls i) ≡ 67). rw (letter_read.1, q))
      (λ (q : letter (nth_line ls i) ≡ 70). rw (letter_read.1, q))
      (l.member (omega (arith, letter_read.1)) (λ q. b (letter_read.1 ∙ q)))

  pub line_fits : Fits i c
  line_fits = seen_fits ls R.passed i R.inside c R.seen

  -- what holds of u where t was filled up to line i: cells kept, and those of line i made
  filled_next : (u : List ℕ) → length u ≡ length t → Kept (cells_of ls) t u
      → (is_head (nth_line ls i) ≡ true → Agree (cells_of ls) u (at_begins (sizes_of ls) + heads_before ls i * 4) (at_begins (sizes_of ls) + heads_before ls i * 4 + 4))
      → (is param_line (nth_line ls i) ≡ true → Agree (cells_of ls) u (at_params (sizes_of ls) + count_before param_line ls i) (at_params (sizes_of ls) + count_before param_line ls i + 1))
      → (is ctor_line (nth_line ls i) ≡ true → Agree (cells_of ls) u (at_ctors (sizes_of ls) + count_before ctor_line ls i) (at_ctors (sizes_of ls) + count_before ctor_line ls i + 1))
      → (is field_line (nth_line ls i) ≡ true → Agree (cells_of ls) u (at_fields (sizes_of ls) + count_before field_line ls i) (at_fields (sizes_of ls) + count_before field_line ls i + 1))
      → ((n : ℕ) → n < count_of name_line ls → get_or u (at_names (sizes_of ls) + n) 0 ≡ named ls (heads_before ls (suc i)) n) → Filled ls u (suc i)
  filled_next u s kept mb mp mc mf mn =
      let f = R.filled in
      let T : List ℕ = cells_of ls in
      record {
        headed = record { sized = s ∙ H.sized; begun = λ x l k. kept x (H.begun x l k) };
        begins = section_step T t u (is_head (nth_line ls i)) (at_begins (sizes_of ls)) 4 (heads_before ls i * 4) (heads_before ls (suc i) * 4) (times (is_head (nth_line ls i)) (heads_before ls i) (heads_before ls (suc i)) (heads_before_step ls i h)) f.begins kept mb;
        params = section_step T t u (is param_line (nth_line ls i)) (at_params (sizes_of ls)) 1 (count_before param_line ls i) (count_before param_line ls (suc i)) (count_before_step ls i h param_line) f.params kept mp;
        ctors = section_step T t u (is ctor_line (nth_line ls i)) (at_ctors (sizes_of ls)) 1 (count_before ctor_line ls i) (count_before ctor_line ls (suc i)) (count_before_step ls i h ctor_line) f.ctors kept mc;
        fields = section_step T t u (is field_line (nth_line ls i)) (at_fields (sizes_of ls)) 1 (count_before field_line ls i) (count_before field_line ls (suc i)) (count_before_step ls i h field_line) f.fields kept mf;
        names = mn;
      }

  -- no declaration more
  heads_same : is_head (nth_line ls i) ≡ false → heads_before ls (suc i) ≡ heads_before ls i
  heads_same e = rw (heads_before_step ls i h, e)

  -- the place of a line of letter x in its section
  module _ (x at : ℕ) (e : letter (nth_line ls i) ≡ x) (cell : (j : ℕ) → j < count_of x ls → Holds ls at j (number_cell (place_of x ls j))) where
    lettered : is x (nth_line ls i) ≡ true
    lettered = eq-eqb (letter (nth_line ls i)) x e

    counted : count_before x ls i < count_of x ls
    counted = (nth_at x ls i h lettered).0

    place_fits : at + count_before x ls i < length t
    place_fits = omega (arith, (cell (count_before x ls i) counted).0, H.sized)

    place_toward : Toward (cells_of ls) t (set t (at + count_before x ls i) (number_cell i)) (at + count_before x ls i) (at + count_before x ls i + 1)
    place_toward =
        put_toward (cells_of ls) t (set t (at + count_before x ls i) (number_cell i)) (at + count_before x ls i) 1 (all (number_cell i)) (put_one t (at + count_before x ls i) (number_cell i) place_fits)
        (λ k l. let z : at + count_before x ls i + k ≡ at + count_before x ls i = omega arith in
        rw z ((cell (count_before x ls i) counted).1 ∙ ap number_cell (place_counted x ls i h lettered)))

    -- a cell before the names' is not one of theirs
    names_kept : at + count_of x ls ≤ at_names (sizes_of ls) → is_head (nth_line ls i) ≡ false → (n : ℕ) → n < count_of name_line ls
        → get_or (set t (at + count_before x ls i) (number_cell i)) (at_names (sizes_of ls) + n) 0 ≡ named ls (heads_before ls (suc i)) n
    names_kept b k n l = rw (heads_same k) (get_or-set_other t (at + count_before x ls i) (at_names (sizes_of ls) + n) (number_cell i) 0 (λ z. omega (arith, counted)) ∙ R.filled.names n l)

  -- ---- P lines
  pub param_room : letter (nth_line ls i) ≡ 80 → Within t 7 c.params
  param_room e =
      let v = params_value ls t H in
      record { in_header = v.0; in_section = rw (v.1, seen_params) (place_fits param_line (at_params (sizes_of ls)) e (param_cell ls)) }

  pub param_next : letter (nth_line ls i) ≡ 80 → (u : List ℕ) → u ≡ set t (get_or t 7 0 + c.params) (number_cell i) → Reached ls u (suc i) (record { decls = c.decls; params = c.params + 1; ctors = c.ctors; fields = c.fields })
  unfolding seen_before sizes_of
  param_next e u q =
      let r = place_toward param_line (at_params (sizes_of ls)) e (param_cell ls) in
      record {
        passed = R.passed;
        inside = h;
        seen = rw (R.seen, heads_before_step ls i h, count_before_step ls i h param_line, count_before_step ls i h ctor_line, count_before_step ls i h field_line, e);
        filled =
            rw (q, (params_value ls t H).1, seen_params)
            (filled_next (set t (at_params (sizes_of ls) + count_before param_line ls i) (number_cell i)) r.sized r.kept
            (no_head (nth_line ls i) (not_head (nth_line ls i) 80 e refl refl))
            (λ k. r.made)
            (not_letter (nth_line ls i) 80 67 e refl)
            (not_letter (nth_line ls i) 80 70 e refl)
            (names_kept param_line (at_params (sizes_of ls)) e (param_cell ls) (omega arith) (not_head (nth_line ls i) 80 e refl refl)));
      }

  -- ---- C lines
  pub ctor_room : letter (nth_line ls i) ≡ 67 → Within t 8 c.ctors
  ctor_room e =
      let v = ctors_value ls t H in
      record { in_header = v.0; in_section = rw (v.1, seen_ctors) (place_fits ctor_line (at_ctors (sizes_of ls)) e (ctor_cell ls)) }

  pub ctor_next : letter (nth_line ls i) ≡ 67 → (u : List ℕ) → u ≡ set t (get_or t 8 0 + c.ctors) (number_cell i) → Reached ls u (suc i) (record { decls = c.decls; params = c.params; ctors = c.ctors + 1; fields = c.fields })
  unfolding seen_before sizes_of
  ctor_next e u q =
      let r = place_toward ctor_line (at_ctors (sizes_of ls)) e (ctor_cell ls) in
      record {
        passed = R.passed;
        inside = h;
        seen = rw (R.seen, heads_before_step ls i h, count_before_step ls i h param_line, count_before_step ls i h ctor_line, count_before_step ls i h field_line, e);
        filled =
            rw (q, (ctors_value ls t H).1, seen_ctors)
            (filled_next (set t (at_ctors (sizes_of ls) + count_before ctor_line ls i) (number_cell i)) r.sized r.kept
            (no_head (nth_line ls i) (not_head (nth_line ls i) 67 e refl refl))
            (not_letter (nth_line ls i) 67 80 e refl)
            (λ k. r.made)
            (not_letter (nth_line ls i) 67 70 e refl)
            (names_kept ctor_line (at_ctors (sizes_of ls)) e (ctor_cell ls) (omega arith) (not_head (nth_line ls i) 67 e refl refl)));
      }

  -- ---- F lines
  pub field_room : letter (nth_line ls i) ≡ 70 → Within t 9 c.fields
  field_room e =
      let v = fields_value ls t H in
      record { in_header = v.0; in_section = rw (v.1, seen_fields) (place_fits field_line (at_fields (sizes_of ls)) e (field_cell ls)) }

  pub field_next : letter (nth_line ls i) ≡ 70 → (u : List ℕ) → u ≡ set t (get_or t 9 0 + c.fields) (number_cell i) → Reached ls u (suc i) (record { decls = c.decls; params = c.params; ctors = c.ctors; fields = c.fields + 1 })
  unfolding seen_before sizes_of
  field_next e u q =
      let r = place_toward field_line (at_fields (sizes_of ls)) e (field_cell ls) in
      record {
        passed = R.passed;
        inside = h;
        seen = rw (R.seen, heads_before_step ls i h, count_before_step ls i h param_line, count_before_step ls i h ctor_line, count_before_step ls i h field_line, e);
        filled =
            rw (q, (fields_value ls t H).1, seen_fields)
            (filled_next (set t (at_fields (sizes_of ls) + count_before field_line ls i) (number_cell i)) r.sized r.kept
            (no_head (nth_line ls i) (not_head (nth_line ls i) 70 e refl refl))
            (not_letter (nth_line ls i) 70 80 e refl)
            (not_letter (nth_line ls i) 70 67 e refl)
            (λ k. r.made)
            (names_kept field_line (at_fields (sizes_of ls)) e (field_cell ls) (omega arith) (not_head (nth_line ls i) 70 e refl refl)));
      }

  -- ---- C and F lines, by whether it is an F line
  pub member_room : (b : Bool) → letter (nth_line ls i) ≡ pick b 70 67 → Within t (pick b 9 8) (pick b c.fields c.ctors)
  member_room true e = field_room e
  member_room false e = ctor_room e

  pub member_next : (b : Bool) → letter (nth_line ls i) ≡ pick b 70 67 → (u : List ℕ) → u ≡ set t (get_or t (pick b 9 8) 0 + pick b c.fields c.ctors) (number_cell i)
      → Reached ls u (suc i) (record { decls = c.decls; params = c.params; ctors = c.ctors + pick b 0 1; fields = c.fields + pick b 1 0 })
  member_next true e u q = let z : c.ctors + 0 ≡ c.ctors = omega arith in rw z (field_next e u q)
  member_next false e u q = let z : c.fields + 0 ≡ c.fields = omega arith in rw z (ctor_next e u q)

  -- ---- another line, as a V line
  pub other_next : is local_line (nth_line ls i) ≡ false → is import_line (nth_line ls i) ≡ false → is param_line (nth_line ls i) ≡ false → is ctor_line (nth_line ls i) ≡ false → is field_line (nth_line ls i) ≡ false → Reached ls t (suc i) c
  unfolding seen_before
  other_next nd ni np nc nf =
      let nh : is_head (nth_line ls i) ≡ false = rw (nd, ni) in
      record {
        passed = R.passed;
        inside = h;
        seen = R.seen ∙ rw (heads_before_step ls i h, count_before_step ls i h param_line, count_before_step ls i h ctor_line, count_before_step ls i h field_line, nh, np, nc, nf);
        filled =
            filled_next t refl (λ x e. e)
            (λ k. false_true (sym nh ∙ k))
            (λ k. false_true (sym np ∙ k))
            (λ k. false_true (sym nc ∙ k))
            (λ k. false_true (sym nf ∙ k))
            (λ n l. rw (heads_same nh) (R.filled.names n l));
      }

  -- ---- D and I lines
  module _ (e : is_head (nth_line ls i) ≡ true) where
    here : start ls (heads_before ls i) ≡ i
    here = start_at ls i h e

    d_lt : heads_before ls i < decls_of ls
    d_lt = heads_before_lt ls i h e

    name : ℕ
    name = number (nth_line ls i) 0

    good : good_head (count_of name_line ls) (count_of type_line ls) (nth_line ls i) ≡ true
    unfolding good_numbers
    good =
        let l : Line = nth_line ls i in
        let g = good_line ls R.passed i h in
        ⊎_elim (λ (q : letter l ≡ 68). rw q at g) (λ (q : letter l ≡ 73). rw q at g) (head_cases l e)

    pub name_low : number (nth_line ls i) 0 < count_of name_line ls
    unfolding good_head
    name_low =
        let l : Line = nth_line ls i in
        let r : Bool = (eqb (number l 2) 0 ⇒ eqb (number l 4) 0 ∥ eqb (number l 2) 1 ⇒ ltb (number l 4) (count_of type_line ls) ∥ true) in
        let k = both (ltb (number l 0) (count_of name_line ls) && leb (number l 1) 31) r good in
        ltb-true (number l 0) (count_of name_line ls) (both (ltb (number l 0) (count_of name_line ls)) (leb (number l 1) 31) k.0).0

    name_of : (dtype_at (program ls) (heads_before ls i)).dt_name ≡ number (nth_line ls i) 0
    unfolding close_fields dtype_of
    name_of =
        ap (λ (x : Dtype). x.dt_name) (dtype_is ls (heads_before ls i) d_lt)
        ∙ ap (λ (l : Line). number l 0) (head_place ls (heads_before ls i) d_lt ∙ ap (nth_line ls) here)

    place_is : position (program ls) (number (nth_line ls i) 0) ≡ heads_before ls i
    place_is = ap (position (program ls)) (sym name_of) ∙ position_distinct (program ls) (distinct_names ls R.passed) (heads_before ls i) (omega (arith, d_lt, length_program ls))

    place_other : (n : ℕ) → position (program ls) n ≡ heads_before ls i → n ≡ number (nth_line ls i) 0
    place_other n q =
        sym (position_name (program ls) n (omega (arith, d_lt, length_program ls))) ∙ ap (λ (k : ℕ). (dtype_at (program ls) k).dt_name) q ∙ name_of

    -- names with one declaration more
    named_other : (n : ℕ) → (n ≡ number (nth_line ls i) 0 → ⊥) → (b : Bool) → ltb (position (program ls) n) (heads_before ls i) ≡ b → named ls (heads_before ls i) n ≡ named ls (heads_before ls i + 1) n
    named_other n q true w = let l = ltb-true (position (program ls) n) (heads_before ls i) w in rw (w, lt-ltb (position (program ls) n) (heads_before ls i + 1) (omega arith))
    named_other n q false w =
        let l = ltb-false (position (program ls) n) (heads_before ls i) w in
        let k : position (program ls) n ≡ heads_before ls i → ⊥ = λ z. q (place_other n z) in
        rw (w, le-ltb (position (program ls) n) (heads_before ls i + 1) (omega arith))

    pub decls_fit : c.decls < 65536
    decls_fit = omega (arith, seen_decls, d_lt, heads_before_le ls i R.inside, R.passed.bounded.few)

    pub begin_room : Fits i c × (6 < length t) × (get_or t 6 0 + c.decls * 4 + 4 ≤ length t)
    begin_room =
        let v = begins_value ls t H in
        (line_fits, v.0, rw (v.1, seen_decls) (begin_fits ls i c R.seen here (omega (arith, d_lt)) t H.sized))

    module _ (u : List ℕ) (q : Put t u (get_or t 6 0 + c.decls * 4) 4 (begin_of i c)) where
      begun : Put t u (at_begins (sizes_of ls) + heads_before ls i * 4) 4 (begin_of i c)
      begun = rw ((begins_value ls t H).1, seen_decls) at q

      toward : Toward (cells_of ls) t u (at_begins (sizes_of ls) + heads_before ls i * 4) (at_begins (sizes_of ls) + heads_before ls i * 4 + 4)
      toward = begin_toward ls i c R.seen here (omega (arith, d_lt)) t u begun

      headed : Headed ls u
      headed = record { sized = toward.sized ∙ H.sized; begun = λ x l k. toward.kept x (H.begun x l k) }

      pub name_read : (12 + i * 6 < length u) × (get_or u (12 + i * 6) 0 ≡ number (nth_line ls i) 0)
      name_read = name_value ls u headed i h

      pub at_read : (10 < length u) × (get_or u 10 0 ≡ at_names (sizes_of ls))
      at_read = names_value ls u headed

      name_room : at_names (sizes_of ls) + number (nth_line ls i) 0 < length u
      name_room = omega (arith, (name_cell ls (number (nth_line ls i) 0) name_low).0, headed.sized)

      -- the cell of its name, by what stands in u
      pub store_room : get_or u 10 0 + get_or u (12 + i * 6) 0 < length u
      store_room = rw (at_read.1, name_read.1) name_room

      pub decl_filled : Filled ls (set u (get_or u 10 0 + get_or u (12 + i * 6) 0) c.decls) (suc i)
      unfolding sizes_of
      decl_filled =
          let m : ℕ = number (nth_line ls i) 0 in
          let at : ℕ = at_names (sizes_of ls) in
          let d : ℕ = heads_before ls i in
          let o = put_one u (at + m) d name_room in
          let n = put_toward (cells_of ls) u (set u (at + m) d) (at + m) 1 (all d) o
          (λ k l. let z : at + m + k ≡ at + m = omega arith in rw z ((name_cell ls m name_low).1 ∙ place_is)) in
          let s : heads_before ls (suc i) ≡ d + 1 = rw (heads_before_step ls i h, e) in
          rw (at_read.1, name_read.1, seen_decls)
          (filled_next (set u (at + m) d) (n.sized ∙ toward.sized) (λ x z. n.kept x (toward.kept x z))
          (λ z x lo hi. n.kept x (toward.made x lo hi))
          (not_both (nth_line ls i) 80 refl refl e)
          (not_both (nth_line ls i) 67 refl refl e)
          (not_both (nth_line ls i) 70 refl refl e)
          (λ k l. rw s (cases_eq k m
          (λ q. rw q (get_or-set_same u (at + m) d 0 name_room ∙ rw (place_is, lt-ltb d (d + 1) (omega arith))))
          (λ q. get_or-set_other u (at + m) (at + k) d 0 (λ w. q (omega arith)) ∙ begun.above (at + k) (omega (arith, d_lt)) ∙ R.filled.names k l ∙ named_other k q (ltb (position (program ls) k) d) refl))))

    -- the counts after it
    decl_seen : record { decls = c.decls + 1; params = c.params; ctors = c.ctors; fields = c.fields } ≡ seen_before ls (suc i)
    unfolding seen_before
    decl_seen =
        ⊎_elim
        (λ (q : letter (nth_line ls i) ≡ 68). rw (R.seen, heads_before_step ls i h, count_before_step ls i h param_line, count_before_step ls i h ctor_line, count_before_step ls i h field_line, q))
        (λ (q : letter (nth_line ls i) ≡ 73). rw (R.seen, heads_before_step ls i h, count_before_step ls i h param_line, count_before_step ls i h ctor_line, count_before_step ls i h field_line, q))
        (head_cases (nth_line ls i) e)

    pub decl_next : (u : List ℕ) → Filled ls u (suc i) → Reached ls u (suc i) (record { decls = c.decls + 1; params = c.params; ctors = c.ctors; fields = c.fields })
    decl_next u f = record { passed = R.passed; inside = h; seen = decl_seen; filled = f }
