-- Where the lines of a sheet that passed rows 1 to 7 stand, by their numbers; its limits; and that no name is declared twice.
-- Assumes nothing.
use Rattle.std.specs.Prelude.{◌≡◌, List, map, true, ℕ, suc, ◌+◌, ◌-◌, ◌^◌, ◌≤◌, ◌<◌, length}
use Rattle.std.proofs.Common.{ap, sym, ◌∙◌, arith}
use borrow.Author.Tests.{eq-eqb, lt-ltb, le-ltb}
use Rattle.sheet.specs.Format.{Format, base, largest, Wider}
use Rattle.sheet.proofs.FormatLaws.{base_wider}
use Rattle.sheet.specs.Line.{Line, letter, number}
use Rattle.sheet.proofs.FirstLaws.{first_place, place_unique}
use Rattle.sheet.proofs.ListLaws.{contrary}
use Rattle.model.specs.Decl.{position}
use Rattle.model.specs.Names.{Distinct}
use Rattle.model_laws.specs.Names.{position_le}
use Rattle.meaning.specs.Program.{name_line, arg_line, type_line, param_line, ctor_line, field_line, is, program}
use Rattle.meaning.specs.Rows.{nth_line, count_of, count_before}
use Rattle.meaning_laws.specs.Program.{length_program}
use Rattle.answer_laws.specs.Pass.{distinct_heads}
use Rattle.meaning_bares.specs.RowLaws.{renumbers, repeats_number}
use Rattle.rows_header.specs.OrderLaws.{Ordered, ordered_of, arg_at, type_before, count_of_le}
use Rattle.row3_order.specs.StepLaws.{count_before_step, count_before_mono}
use Rattle.row4_limits.specs.Limits.{start, counts_of, Kept}
use Rattle.row4_limits.specs.LimitsLaws.{counts_kept, row4_wider}
use Rattle.table_declared.specs.Lines.{nth, place_of, head_line, decls_of}
use Rattle.table_declared.specs.Passed.{Bounded, Passed}
use Rattle.table_declared.specs.LineLaws.{Stands, stands}
use Rattle.table_declared.specs.DeclLaws.{group_is}

-- ---- a line by its place
pub place_counted : (x : ℕ) (ls : List Line) (i : ℕ) → i < length ls → is x (nth_line ls i) ≡ true → place_of x ls (count_before x ls i) ≡ i
unfolding place_of
place_counted x ls i h e =
    let n : count_before x ls (suc i) ≡ count_before x ls i + 1 = rw (count_before_step ls i h x, e) in
    place_unique _ (length ls) _ i (first_place _ (length ls))
    (record {
      within = omega arith;
      holds = λ l. lt-ltb (count_before x ls i) (count_before x ls (suc i)) (omega arith);
      before = λ j l. le-ltb (count_before x ls i) (count_before x ls (suc j)) (count_before_mono ls x (suc j) i (omega arith) (omega arith));
    })

pub nth_place : (x : ℕ) (ls : List Line) (j : ℕ) → j < count_of x ls → (place_of x ls j < length ls) × (nth x ls j ≡ nth_line ls (place_of x ls j))
nth_place x ls j h =
    let r : Stands x ls j = stands x ls j h in
    let e : place_of x ls j ≡ r.place = rw r.passed at (place_counted x ls r.place r.inside r.lettered) in
    rw e (r.inside, r.same)

pub head_place : (ls : List Line) (d : ℕ) → d < decls_of ls → head_line ls d ≡ nth_line ls (start ls d)
head_place ls d h = ap (λ g. g.head) (group_is ls d h)

-- ---- the limits of a format
module _ (f : Format) (ls : List Line) (w : Bounded f ls) where
  pub nth_within : (x j k : ℕ) → j < count_of x ls → number (nth x ls j) k < 10 ^ f.columns
  nth_within x j k h = rw (nth_place x ls j h).1 (w.small (place_of x ls j) k)

  kept : Kept f (counts_of ls)
  kept = counts_kept f ls w.in_limits

  pub names_within : count_of name_line ls ≤ f.names
  unfolding counts_of
  names_within = kept.names

  pub args_within : count_of arg_line ls ≤ f.args
  unfolding counts_of
  args_within = kept.args

  pub types_within : count_of type_line ls ≤ f.types
  unfolding counts_of
  types_within = kept.types

  pub decls_within : decls_of ls ≤ f.decls
  unfolding counts_of
  decls_within = kept.decls

  pub ctors_within : count_of ctor_line ls ≤ f.ctors
  unfolding counts_of
  ctors_within = kept.ctors

  pub fields_within : count_of field_line ls ≤ f.fields
  unfolding counts_of
  fields_within = kept.fields

-- narrow limits are within wide ones
pub bounded_wider : (f g : Format) → Wider f g → (ls : List Line) → Bounded f ls → Bounded g ls
bounded_wider f g v ls w = record { few = omega (arith, w.few, v.lines); small = λ i k. omega (arith, w.small i k, v.columns); in_limits = row4_wider f g v ls w.in_limits }

pub bounded_largest : (ls : List Line) → Bounded base ls → Bounded largest ls
bounded_largest = bounded_wider base largest base_wider

-- ---- what a sheet that passed says
module _ (ls : List Line) (p : Passed ls) where
  pub ordered : Ordered 0 (map letter ls)
  ordered = ordered_of ls p.in_order

  pub arg_place : (i : ℕ) → i < count_of arg_line ls → nth arg_line ls i ≡ nth_line ls (count_of name_line ls + i)
  arg_place i h = arg_at ls ordered i h

  pub type_place : (y : ℕ) → y < count_of type_line ls → nth type_line ls y ≡ nth_line ls (count_of name_line ls + count_of arg_line ls + y)
  type_place y h =
      let r = stands type_line ls y h in
      let e : r.place ≡ count_of name_line ls + count_of arg_line ls + y = omega (arith, r.passed, type_before ls ordered r.place r.inside r.lettered) in
      r.same ∙ ap (nth_line ls) e

  -- ---- the limits
  pub nth_small : (x j k : ℕ) → j < count_of x ls → number (nth x ls j) k < 1000000000
  nth_small = nth_within largest ls p.bounded

  pub lines_few : length ls ≤ 16384
  lines_few = p.bounded.few

  pub names_few : count_of name_line ls ≤ 2048
  names_few = names_within largest ls p.bounded

  pub args_few : count_of arg_line ls ≤ 2048
  args_few = args_within largest ls p.bounded

  pub types_few : count_of type_line ls ≤ 4096
  types_few = types_within largest ls p.bounded

  pub decls_few : decls_of ls ≤ 512
  decls_few = decls_within largest ls p.bounded

  -- a name's declaration, or their number
  pub position_few : (n : ℕ) → position (program ls) n ≤ 512
  position_few n = omega (arith, position_le (program ls) n, length_program ls, decls_few)

  pub ctors_few : count_of ctor_line ls ≤ 1024
  ctors_few = ctors_within largest ls p.bounded

  pub fields_few : count_of field_line ls ≤ 2048
  fields_few = fields_within largest ls p.bounded

  pub params_few : count_of param_line ls ≤ 16384
  params_few = omega (arith, count_of_le param_line ls, lines_few)

  -- ---- row 6
  pub distinct_names : Distinct (program ls)
  unfolding repeats_number renumbers
  distinct_names =
      distinct_heads ls
      (λ i j h l a c e. contrary (repeats_number ls i j) (rw (a, c, eq-eqb (number (nth_line ls j) 0) (number (nth_line ls i) 0) (sym e))) (p.distinct i j h l))
