-- A line of a declaration is no N, A or Y line; and C and F lines by what is tested of both. Assumes nothing.
use Rattle.std.specs.Prelude.{◌≡◌, refl, List, Bool, true, false, ◌&&◌, ℕ, ◌+◌, ◌≤◌, ◌<◌, eqb, ltb, length}
use Rattle.std.proofs.Common.{ap, arith, eqb-true}
use Rattle.std.proofs.lemmas.Bool.{eqb-false}
use Rattle.row5_ranges.specs.UnusedLaws.{zeros_start, zeros_more, zeros_found, zeros_all}
use Rattle.sheet.specs.Line.{letter, number, Line}
use Rattle.meaning.specs.Program.{name_line, arg_line, type_line}
use Rattle.rows_header.specs.Header.{Counted}
use Rattle.rows_header.specs.OrderLaws.{rank, ordered_of, later_letter}
use Rattle.meaning.specs.Rows.{nth_line, zeros_from}
use Rattle.row5_ranges.specs.DeclLines.{good_member}

module _ (ls : List Line) (names args types : ℕ) (c : Counted ls names args types) (i : ℕ) (f : names + args + types ≤ i) (h : i < length ls) where
  ranked : 3 ≤ rank (letter (nth_line ls i))
  ranked = later_letter ls (ordered_of ls c.in_order) i (omega (arith, c.names_are, c.args_are, c.types_are)) h

  pub no_name : letter (nth_line ls i) ≡ name_line → ⊥
  no_name e = omega (arith, ap rank e, ranked)

  pub no_arg : letter (nth_line ls i) ≡ arg_line → ⊥
  no_arg e = omega (arith, ap rank e, ranked)

  pub no_type : letter (nth_line ls i) ≡ type_line → ⊥
  no_type e = omega (arith, ap rank e, ranked)

-- ---- C and F lines
zeros_three : (l : Line) → zeros_from 3 l ≡ (eqb (number l 3) 0 && eqb (number l 4) 0)
zeros_three l = go (eqb (number l 3) 0) refl (eqb (number l 4) 0) refl
  where
    go : (d : Bool) → eqb (number l 3) 0 ≡ d → (e : Bool) → eqb (number l 4) 0 ≡ e → zeros_from 3 l ≡ (d && e)
    go false p e q = zeros_found 3 l 3 (omega arith) (omega arith) (eqb-false (number l 3) 0 p)
    go true p false q = zeros_found 3 l 4 (omega arith) (omega arith) (eqb-false (number l 4) 0 q)
    go true p true q = zeros_all 3 l 5 (omega arith) (zeros_more 3 l 4 (omega arith) (eqb-true (number l 4) 0 q) (zeros_more 3 l 3 (omega arith) (eqb-true (number l 3) 0 p) (zeros_start 3 l)))

grouped : (a b z : Bool) → (a && b && z) ≡ (b && (a && z))
grouped true b z = refl
grouped false true z = refl
grouped false false z = refl

pub ctor_good : (names types : ℕ) (l : Line) → (ltb (number l 0) names && zeros_from 3 l) ≡ good_member false names types l
ctor_good names types l = rw (zeros_three l)

pub field_good : (names types : ℕ) (l : Line) → (ltb (number l 0) names && ltb (number l 1) types && zeros_from 3 l) ≡ good_member true names types l
field_good names types l = rw (zeros_three l) (grouped (ltb (number l 0) names) (ltb (number l 1) types) (eqb (number l 3) 0 && eqb (number l 4) 0))
