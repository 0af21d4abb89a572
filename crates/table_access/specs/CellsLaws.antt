-- Where the cells of each section stand, and what they are. Assumes nothing.
use Rattle.std.specs.Prelude.{◌≡◌, Bool}
use Rattle.std.proofs.Math.Path.{refl, ap, sym}
use Rattle.std.proofs.Common.{◌∙◌, zero-mul, get_or-append-add}
use mathlib.Core.List.{List, [], ◌∷◌, ◌++◌}
use Rattle.std.proofs.Math.Bool.{true, false}
use Prim.Native.Nat.{ℕ, zero, suc, ◌+◌, ◌*◌, ◌-◌, ◌≤◌, ◌<◌}
use native.Mathlib.Omega.{arith}
use Rattle.std.proofs.Math.Nat.{suc-mul, mul-le-mul_right}
use Rattle.std.proofs.Math.Dec.{ltb}
use Rattle.std.proofs.Math.ListN.{length, get_or, length-append, get_or-append}
use borrow.Author.Tests.{ltb-true, ltb-false}
use Rattle.sheet.specs.Line.{Line, letter, number}
use Rattle.walk_cells.specs.CellsLaws.{lines_cells, length_cells, letter_cell, number_cell, number_bare}
use Rattle.walk_cells.specs.Cells.{cells}
use Rattle.meaning_bares.specs.ProgramLaws.{at_bare}
use Rattle.model.specs.Decl.{position}
use Rattle.meaning.specs.Program.{name_line, arg_line, type_line, param_line, ctor_line, field_line, verdict_line, program}
use Rattle.meaning.specs.Rows.{nth_line, count_of}
use Rattle.model_laws.specs.Lists.{length_table, get_or_table}
use Rattle.row4_limits.specs.Limits.{start}
use Rattle.rows_header.specs.OrderLaws.{header_le}
use Rattle.table_declared.specs.DeclLaws.{line_inside, verdict_place}
use Rattle.table_declared.specs.PassedLaws.{nth_place, head_place, arg_place, type_place}
use Rattle.table_access.specs.Tables.{nth, place_of, head_line, decls_of, sizes_of, at_begins, at_params, at_ctors, at_fields, at_names, cell_count, rows, begin_row, places, header, sections, joined, cells_of, cell_at, Within, TableOf}

-- ---- rows of any width
module _ (f : ℕ → List ℕ) (w : ℕ) (each : (i : ℕ) → length (f i) ≡ w) where
  pub rows_length : (n : ℕ) → length (rows f n) ≡ n * w
  unfolding rows
  rows_length zero = sym (zero-mul w)
  rows_length (suc n) = rw (length-append, rows_length n, each n) (sym (suc-mul n w))

  pub rows_get : (n i k : ℕ) → i < n → k < w → get_or (rows f n) (i * w + k) 0 ≡ get_or (f i) k 0
  unfolding rows
  rows_get zero i k h q = absurd (omega arith)
  rows_get (suc n) i k h q = go (ltb i n) refl (λ l. rows_get n i k l q)
    where
      go : (c : Bool) → ltb i n ≡ c → (i < n → get_or (rows f n) (i * w + k) 0 ≡ get_or (f i) k 0) → get_or (rows f n ++ f n) (i * w + k) 0 ≡ get_or (f i) k 0
      go true e r =
          let l : i < n = ltb-true i n e in
          let m : suc i * w ≤ n * w = mul-le-mul_right w l in
          get_or-append (rows f n) (f n) 0 (i * w + k) (omega (arith, rows_length n, suc-mul i w)) ∙ r l
      go false e r =
          let z : i ≡ n = omega (arith, ltb-false i n e) in
          let p : n * w + k ≡ length (rows f n) + k = omega (arith, rows_length n) in
          rw (z, p, get_or-append-add)

-- ---- sections
-- how many cells stand before section k
unfoldable pub offset : ℕ → List (List ℕ) → ℕ
offset zero ss = 0
offset (suc k) [] = 0
offset (suc k) (s ∷ ss) = length s + offset k ss

pub joined_get : (k : ℕ) (ss : List (List ℕ)) (j : ℕ) → j < length (get_or ss k []) → get_or (joined ss) (offset k ss + j) 0 ≡ get_or (get_or ss k []) j 0
unfolding joined offset
joined_get k [] j h = absurd (omega arith)
joined_get zero (s ∷ ss) j h = let e : 0 + j ≡ j = omega arith in rw e (get_or-append s (joined ss) 0 j h)
joined_get (suc k) (s ∷ ss) j h =
    let e : length s + offset k ss + j ≡ length s + (offset k ss + j) = omega arith in
    rw (e, get_or-append-add) (joined_get k ss j h)

pub joined_within : (k : ℕ) (ss : List (List ℕ)) (j : ℕ) → j < length (get_or ss k []) → offset k ss + j < length (joined ss)
unfolding joined offset
joined_within k [] j h = absurd (omega arith)
joined_within zero (s ∷ ss) j h = rw length-append (omega arith)
joined_within (suc k) (s ∷ ss) j h = rw length-append (omega (arith, joined_within k ss j h))

-- ---- the sections of a sheet
module _ (ls : List Line) where
  begins_length : length (rows (begin_row ls) (decls_of ls + 1)) ≡ (decls_of ls + 1) * 4
  begins_length = rows_length (begin_row ls) 4 (λ d. refl) (decls_of ls + 1)

  places_length : (x : ℕ) → length (places x ls) ≡ count_of x ls
  places_length x = length_table _ (count_of x ls)

  pub cells_length : length (cells_of ls) ≡ cell_count (sizes_of ls)
  unfolding cells_of joined sizes_of sections header
  cells_length =
      simp length-append
      (omega (arith, length_cells ls, begins_length, places_length param_line, places_length ctor_line, places_length field_line, length_table (position (program ls)) (count_of name_line ls)))

  -- ---- the cells of a section
  -- cell j of the section that begins at cell `at` has the value v
  abbrev pub Holds : ℕ → ℕ → ℕ → Type 0
  Holds at j v = (at + j < length (cells_of ls)) × (get_or (cells_of ls) (at + j) 0 ≡ v)

  holds : (k at j v : ℕ) → at ≡ offset k (sections ls) → j < length (get_or (sections ls) k []) → get_or (get_or (sections ls) k []) j 0 ≡ v → Holds at j v
  unfolding cells_of
  holds k at j v e h q = rw e (joined_within k (sections ls) j h, joined_get k (sections ls) j h ∙ q)

  pub header_cell : (k : ℕ) → k < 11 → (k < length (cells_of ls)) × (get_or (cells_of ls) k 0 ≡ get_or (header (sizes_of ls)) k 0)
  unfolding sections offset header
  header_cell k h = let e : 0 + k ≡ k = omega arith in rw e at (holds 0 0 k (get_or (header (sizes_of ls)) k 0) refl h refl)

  pub line_letter : (i : ℕ) → i < length ls → Holds 11 (i * 6) (letter (nth_line ls i))
  unfolding sections offset header
  line_letter i h =
      let n = length_cells ls in
      let e : 6 * i ≡ i * 6 = omega arith in
      holds 1 11 (i * 6) (letter (nth_line ls i)) refl (omega arith)
      (rw e at (sym (letter_cell (cells ls) i (omega arith))) ∙ ap (λ (ms : List Line). letter (nth_line ms i)) (lines_cells ls) ∙ at_bare letter (λ l. refl) ls i)

  pub line_number : (i k : ℕ) → i < length ls → k < 5 → Holds 12 (i * 6 + k) (number (nth_line ls i) k)
  unfolding sections offset header
  line_number i k h q =
      let n = length_cells ls in
      let e : 6 * i + 1 + k ≡ i * 6 + (1 + k) = omega arith in
      let f : 11 + (i * 6 + (1 + k)) ≡ 12 + (i * 6 + k) = omega arith in
      rw f at
      (holds 1 11 (i * 6 + (1 + k)) (number (nth_line ls i) k) refl (omega arith)
      (rw e at (sym (number_cell (cells ls) i k (omega arith) q)) ∙ ap (λ (ms : List Line). number (nth_line ms i) k) (lines_cells ls) ∙ at_bare (λ l. number l k) (λ l. number_bare l k q) ls i))

  pub begin_cell : (d k : ℕ) → d ≤ decls_of ls → k < 4 → Holds (at_begins (sizes_of ls)) (d * 4 + k) (get_or (begin_row ls d) k 0)
  unfolding sizes_of sections offset header
  begin_cell d k h q =
      holds 2 (at_begins (sizes_of ls)) (d * 4 + k) _ (omega (arith, length_cells ls)) (omega (arith, begins_length)) (rows_get (begin_row ls) 4 (λ i. refl) (decls_of ls + 1) d k (omega arith) q)

  place_cell : (h at x j : ℕ) → at ≡ offset h (sections ls) → get_or (sections ls) h [] ≡ places x ls → j < count_of x ls → Holds at j (12 + 6 * place_of x ls j)
  place_cell h at x j e s l = holds h at j _ e (rw (s, places_length x) l) (rw s (get_or_table _ (count_of x ls) j 0 l))

  pub param_cell : (p : ℕ) → p < count_of param_line ls → Holds (at_params (sizes_of ls)) p (12 + 6 * place_of param_line ls p)
  unfolding sizes_of sections offset header
  param_cell p h = place_cell 3 (at_params (sizes_of ls)) param_line p (omega (arith, length_cells ls, begins_length)) refl h

  pub ctor_cell : (c : ℕ) → c < count_of ctor_line ls → Holds (at_ctors (sizes_of ls)) c (12 + 6 * place_of ctor_line ls c)
  unfolding sizes_of sections offset header
  ctor_cell c h = place_cell 4 (at_ctors (sizes_of ls)) ctor_line c (omega (arith, length_cells ls, begins_length, places_length param_line)) refl h

  pub field_cell : (f : ℕ) → f < count_of field_line ls → Holds (at_fields (sizes_of ls)) f (12 + 6 * place_of field_line ls f)
  unfolding sizes_of sections offset header
  field_cell f h = place_cell 5 (at_fields (sizes_of ls)) field_line f (omega (arith, length_cells ls, begins_length, places_length param_line, places_length ctor_line)) refl h

  pub name_cell : (n : ℕ) → n < count_of name_line ls → Holds (at_names (sizes_of ls)) n (position (program ls) n)
  unfolding sizes_of sections offset header
  name_cell n h =
      holds 6 (at_names (sizes_of ls)) n (position (program ls) n)
      (omega (arith, length_cells ls, begins_length, places_length param_line, places_length ctor_line, places_length field_line))
      (rw length_table h)
      (get_or_table (position (program ls)) (count_of name_line ls) n 0 h)

-- ---- for the accessors
-- header cell h has the place of a section, and that section's cell j the value v
pub record Read (t : List ℕ) (h j v : ℕ) : Type 0 where
  pub within : Within t h j
  pub value : cell_at t h j ≡ v

-- and cell v + k has the value w
pub record Placed (t : List ℕ) (h j k w : ℕ) : Type 0 where
  pub within : Within t h j × (cell_at t h j + k < length t)
  pub value : get_or t (cell_at t h j + k) 0 ≡ w

module _ (ls : List Line) (t : List ℕ) (m : TableOf ls t) where
  read : (h at j v : ℕ) → h < 11 → get_or (header (sizes_of ls)) h 0 ≡ at → Holds ls at j v → Read t h j v
  read h at j v l e r =
      let c = header_cell ls h l in
      let q : get_or (cells_of ls) h 0 ≡ at = c.1 ∙ e in
      rw m.holds (record { within = record { in_header = c.0; in_section = rw q r.0 }; value = rw q r.1 })

  pub read_types : (0 < length t) × (get_or t 0 0 ≡ count_of type_line ls)
  unfolding header sizes_of
  read_types = rw m.holds (header_cell ls 0 (omega arith))

  pub read_decls : (1 < length t) × (get_or t 1 0 ≡ decls_of ls)
  unfolding header sizes_of
  read_decls = rw m.holds (header_cell ls 1 (omega arith))

  pub read_names : (2 < length t) × (get_or t 2 0 ≡ count_of name_line ls)
  unfolding header sizes_of
  read_names = rw m.holds (header_cell ls 2 (omega arith))

  -- line i
  pub read_letter : (i : ℕ) → i < length ls → (11 + i * 6 < length t) × (get_or t (11 + i * 6) 0 ≡ letter (nth_line ls i))
  read_letter i h = rw m.holds (line_letter ls i h)

  pub read_number : (i k : ℕ) → i < length ls → k < 5 → (12 + i * 6 + k < length t) × (get_or t (12 + i * 6 + k) 0 ≡ number (nth_line ls i) k)
  read_number i k h q = let e : 12 + i * 6 + k ≡ 12 + (i * 6 + k) = omega arith in rw (e, m.holds) (line_number ls i k h q)

  -- Y and A lines, which stand together
  header_read : (h first i j k : ℕ) (l : Line) → h < 11 → get_or (header (sizes_of ls)) h 0 ≡ 12 + 6 * first → first + i < length ls → l ≡ nth_line ls (first + i) → j ≡ i * 6 + k → k < 5 → Read t h j (number l k)
  header_read h first i j k l b e w s q r =
      let x = line_number ls (first + i) k w r in
      let f : 12 + ((first + i) * 6 + k) ≡ 12 + 6 * first + j = omega arith in
      read h (12 + 6 * first) j (number l k) b e (rw f at x.0, rw f at x.1 ∙ ap (λ (v : Line). number v k) (sym s))

  pub read_type : (y k : ℕ) → y < count_of type_line ls → k < 4 → Read t 5 (y * 6 + k) (number (nth type_line ls y) k)
  unfolding header sizes_of
  read_type y k h q = header_read 5 (count_of name_line ls + count_of arg_line ls) y (y * 6 + k) k (nth type_line ls y) (omega arith) refl (omega (arith, header_le ls)) (type_place ls m.passed y h) refl (omega arith)

  pub read_arg : (i : ℕ) → i < count_of arg_line ls → Read t 4 (i * 6) (number (nth arg_line ls i) 0)
  unfolding header sizes_of
  read_arg i h = header_read 4 (count_of name_line ls) i (i * 6) 0 (nth arg_line ls i) (omega arith) refl (omega (arith, header_le ls)) (arg_place ls m.passed i h) (omega arith) (omega arith)

  pub read_begin : (d k : ℕ) → d ≤ decls_of ls → k < 4 → Read t 6 (d * 4 + k) (get_or (begin_row ls d) k 0)
  unfolding header
  read_begin d k h q = read 6 (at_begins (sizes_of ls)) (d * 4 + k) _ (omega arith) refl (begin_cell ls d k h q)

  pub read_line : (d : ℕ) → d ≤ decls_of ls → Read t 6 (d * 4) (start ls d)
  read_line d h = let e : d * 4 + 0 ≡ d * 4 = omega arith in rw e at (read_begin d 0 h (omega arith))

  -- lines by the index
  placed : (h at x j k : ℕ) → h < 11 → get_or (header (sizes_of ls)) h 0 ≡ at → Holds ls at j (12 + 6 * place_of x ls j) → j < count_of x ls → k < 5 → Placed t h j k (number (nth x ls j) k)
  placed h at x j k l e r i q =
      let c = read h at j (12 + 6 * place_of x ls j) l e r in
      let n = nth_place x ls j i in
      let w = line_number ls (place_of x ls j) k n.0 q in
      let f : 12 + (place_of x ls j * 6 + k) ≡ 12 + 6 * place_of x ls j + k = omega arith in
      record {
        within = (c.within, rw (c.value, m.holds) (rw f at w.0));
        value = rw (c.value, m.holds) (rw f at w.1 ∙ ap (λ (v : Line). number v k) (sym n.1));
      }

  pub read_param : (p : ℕ) → p < count_of param_line ls → Placed t 7 p 0 (number (nth param_line ls p) 0)
  unfolding header
  read_param p h = placed 7 (at_params (sizes_of ls)) param_line p 0 (omega arith) refl (param_cell ls p h) h (omega arith)

  pub read_ctor : (c k : ℕ) → c < count_of ctor_line ls → k < 2 → Placed t 8 c k (number (nth ctor_line ls c) k)
  unfolding header
  read_ctor c k h q = placed 8 (at_ctors (sizes_of ls)) ctor_line c k (omega arith) refl (ctor_cell ls c h) h (omega arith)

  pub read_field : (f k : ℕ) → f < count_of field_line ls → k < 3 → Placed t 9 f k (number (nth field_line ls f) k)
  unfolding header
  read_field f k h q = placed 9 (at_fields (sizes_of ls)) field_line f k (omega arith) refl (field_cell ls f h) h (omega arith)

  pub read_name : (n : ℕ) → n < count_of name_line ls → Read t 10 n (position (program ls) n)
  unfolding header
  read_name n h = read 10 (at_names (sizes_of ls)) n _ (omega arith) refl (name_cell ls n h)

  -- heads and verdicts
  pub head_inside : (d : ℕ) → d < decls_of ls → start ls d < length ls
  head_inside d h = line_inside ls d h

  pub read_head : (d k : ℕ) → d < decls_of ls → number (nth_line ls (start ls d)) k ≡ number (head_line ls d) k
  read_head d k h = ap (λ (v : Line). number v k) (sym (head_place ls d h))

  pub read_head_letter : (d : ℕ) → d < decls_of ls → letter (nth_line ls (start ls d)) ≡ letter (head_line ls d)
  read_head_letter d h = ap letter (sym (head_place ls d h))

  pub read_verdict : (d : ℕ) → d < decls_of ls → (0 < start ls (suc d)) × (start ls (suc d) - 1 < length ls) × (nth verdict_line ls d ≡ nth_line ls (start ls (suc d) - 1))
  read_verdict d h = let v = verdict_place ls m.passed d h in (omega (arith, v.0), omega (arith, v.0, v.1), v.2)
