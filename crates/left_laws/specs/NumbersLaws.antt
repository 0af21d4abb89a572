-- The numbers of a sheet's types have room in words. Assumes nothing.
use Rattle.std.specs.Prelude.{◌≡◌, ◌&&◌, leb, length}
use Rattle.std.proofs.Math.Path.{ap₂}
use Rattle.std.proofs.Common.{sym, ◌∙◌, arith}
use mathlib.Core.List.{List, [], map}
use Rattle.std.proofs.Math.Bool.{true, false}
use Prim.Native.Nat.{ℕ, ◌<◌}
use borrow.Author.Tests.{eqb-true, leb-true, not-false}
use Rattle.sheet.specs.Line.{Line, bad, letter, number}
use Rattle.sheet.proofs.FirstLaws.{first_before}
use Rattle.sheet.proofs.ListLaws.{Every, at_every, both}
use Rattle.meaning.specs.Program.{name_line, arg_line, type_line, select, trees}
use Rattle.meaning.specs.Rows.{nth_line, count_of, zeros_from, is_width, good_type, good_numbers, row5}
use Rattle.meaning_laws.specs.Numbers.{Signed, get_or_numbers, trees_after_numbers}
use Rattle.table_declared.specs.Passed.{Passed}
use Rattle.resolve_kids.specs.Nodes.{y_line, kind_of, type_of}
use Rattle.resolve_kids.specs.NodesLaws.{Lettered, lettered}
use Rattle.form_normal.specs.HeldLaws.{Sign, Own, Held}
use Rattle.table_declared.specs.PassedLaws.{nth_small}

-- ---- the types of a sheet
module _ (ls : List Line) (passed : Passed ls) where
  -- row 5: a sign is 0 or 1
  sign_small : (y : ℕ) → y < count_of type_line ls → kind_of ls y ≡ 4 → number (y_line ls y) 1 < 1024
  unfolding good_numbers row5 good_type
  sign_small y h k =
      let r : Lettered type_line ls y = lettered type_line ls y h in
      let i : ℕ = r.spot in
      let q : row5 ls i ≡ false = first_before (row5 ls) (length ls) i (omega (arith, passed.in_range, r.within)) in
      let e : letter (nth_line ls i) ≡ type_line = eqb-true (letter (nth_line ls i)) type_line r.lettered in
      let g : good_numbers ls i ≡ true = not-false (good_numbers ls i) q in
      let l : Line = y_line ls y in
      let w : good_type (count_of name_line ls) (map (λ a. number a 0) (select arg_line ls)) y l ≡ true =
      ap₂ (λ (z : ℕ) (m : Line). good_type (count_of name_line ls) (map (λ a. number a 0) (select arg_line ls)) z m) (sym r.earlier) (sym r.line) ∙ (rw e at g) in
      let v : (leb (number l 1) 1 && is_width (number l 2) && zeros_from 3 l) ≡ true = rw k at w in
      omega (arith, leb-true (number l 1) 1 (both (leb (number l 1) 1) (is_width (number l 2)) (both (leb (number l 1) 1 && is_width (number l 2)) (zeros_from 3 l) v).0).0)

  lines_small : Every (Signed Sign Own) (select type_line ls)
  lines_small =
      at_every (Signed Sign Own) bad (select type_line ls)
      (λ y h. record { numbers = λ k. omega (arith, nth_small ls passed type_line y k h); sign = sign_small y h })

  pub types_held : (y : ℕ) → Held (type_of ls y)
  unfolding trees
  types_held y = get_or_numbers Sign Own (trees ls) y (trees_after_numbers Sign Own (map (λ l. number l 0) (select arg_line ls)) [] (select type_line ls) tt lines_small)
