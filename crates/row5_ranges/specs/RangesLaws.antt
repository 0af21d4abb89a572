-- Row 5 by the sections of a sheet in order. Assumes nothing.
use Rattle.std.specs.Prelude.{◌≡◌, List, Bool, not, ℕ, ◌+◌, ◌-◌, ◌≤◌, ◌<◌, ◌/◌, eqb}
use Rattle.std.proofs.Common.{arith}
use Rattle.std.proofs.Math.ListN.{length}
use Rattle.sheet.specs.Line.{letter, number, Line}
use Rattle.sheet.specs.Sheet.{first}
use Rattle.sheet.proofs.FirstLaws.{first_le, first_prefix}
use Rattle.meaning.specs.Program.{name_line, type_line, arg_line}
use Rattle.meaning.specs.Rows.{count_before, good_type, good_numbers, row5, nth_line}
use Rattle.rows_header.specs.Header.{Counted}
use Rattle.rows_header.specs.OrderLaws.{ordered_of, name_before, type_before, name_letter, arg_letter, type_letter, header_le}
use Rattle.row5_ranges.specs.TypeLists.{types_of}
use Rattle.row5_ranges.specs.Ranges.{good_arg}
use Rattle.walk_cells.specs.CellsLaws.{length_lines_of}
use Rattle.walk_cells.specs.Cells.{lines_of}

-- the place, where it is in an earlier part
pub first_earlier : (p : ℕ → Bool) (m n r : ℕ) → r ≡ first p m → m ≤ n → r < m → r ≡ first p n
first_earlier p m n r e h k = omega (arith, first_prefix p m n h)

-- or in none
pub first_past : (p : ℕ → Bool) (m r : ℕ) → r ≡ first p m → m ≤ r → first p m ≡ m
first_past p m r e h = omega (arith, first_le p m)

module _ (ls : List Line) (names args types : ℕ) (c : Counted ls names args types) where
  pub header_within : names + args + types ≤ length ls
  header_within = omega (arith, c.names_are, c.args_are, c.types_are, header_le ls)

  -- ---- the letters of the sections
  pub name_lettered : (i : ℕ) → i < names → letter (nth_line ls i) ≡ name_line
  name_lettered i h = name_letter ls (ordered_of ls c.in_order) i (omega (arith, c.names_are))

  pub arg_lettered : (i : ℕ) → names ≤ i → i < names + args → letter (nth_line ls i) ≡ arg_line
  arg_lettered i h k = arg_letter ls (ordered_of ls c.in_order) i (omega (arith, c.names_are)) (omega (arith, c.names_are, c.args_are)) (omega (arith, header_within))

  pub type_lettered : (i : ℕ) → names + args ≤ i → i < names + args + types → letter (nth_line ls i) ≡ type_line
  type_lettered i h k = type_letter ls (ordered_of ls c.in_order) i (omega (arith, c.names_are, c.args_are)) (omega (arith, c.names_are, c.args_are, c.types_are)) (omega (arith, header_within))

  -- ---- row 5's test
  pub row5_name : (i : ℕ) → i < names → row5 ls i ≡ not (eqb (number (nth_line ls i) 0) i)
  unfolding row5 good_numbers
  row5_name i h =
      let e : letter (nth_line ls i) ≡ name_line = name_lettered i h in
      let l : i < length ls = omega (arith, header_within) in
      let k : count_before name_line ls i ≡ i = name_before ls (ordered_of ls c.in_order) i l (rw e) in
      rw (e, k)

  pub row5_arg : (i : ℕ) → names ≤ i → i < names + args → row5 ls i ≡ not (good_arg types (nth_line ls i))
  unfolding row5 good_numbers
  row5_arg i h k = rw (arg_lettered i h k, ← c.types_are)

  pub row5_type : (i : ℕ) → names + args ≤ i → i < names + args + types → row5 ls i ≡ not (good_type names (types_of ls) (i - (names + args)) (nth_line ls i))
  unfolding row5 good_numbers
  row5_type i h k =
      let e : letter (nth_line ls i) ≡ type_line = type_lettered i h k in
      let l : i < length ls = omega (arith, header_within) in
      let y : count_before type_line ls i ≡ i - (names + args) = omega (arith, c.names_are, c.args_are, type_before ls (ordered_of ls c.in_order) i l (rw e)) in
      rw (e, y, ← c.names_are)

-- by the cells of the lines
pub within : (t : List ℕ) (names args types : ℕ) → Counted (lines_of t) names args types → names + args + types ≤ length t / 6
within t names args types c = omega (arith, header_within (lines_of t) names args types c, length_lines_of t)
