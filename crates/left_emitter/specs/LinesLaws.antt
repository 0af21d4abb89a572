-- What stands in the output while the lines of nodes are written. Assumes nothing.
use Rattle.std.specs.Prelude.{◌≡◌, Bool, ℕ, suc, ◌+◌, ◌*◌, ◌≤◌, ◌<◌, length, take, get_or}
use Rattle.std.proofs.Math.Path.{refl}
use Rattle.std.proofs.Common.{◌∙◌, arith, add-one, mul-le-mul_left, take-suc, length-take-le}
use mathlib.Core.List.{List, [], ◌∷◌, ◌++◌, map, map-append}
use Rattle.std.proofs.Math.Bool.{true, false}
use Rattle.std.proofs.Math.Dec.{eqb}
use Rattle.std.proofs.lemmas.List.{length-map}
use borrow.Author.Tests.{ne_eqb, eqb-true, eqb-false}
use Rattle.number_columns.specs.Column.{pick}
use Rattle.sheet.specs.Format.{line_bytes}
use Rattle.sheet.specs.Line.{Line, encode}
use Rattle.sheet.proofs.LineLaws.{row_length}
use Rattle.sheet.specs.Output.{put_at, puts}
use Rattle.sheet.proofs.OutputLaws.{Whole, length_put}
use Rattle.meaning.specs.Program.{arg_line}
use Rattle.form_laws.specs.Nodes.{Node, first_of, y_first, y_second, y_third}
use Rattle.left_emitter.specs.Lines.{y_row, arg_row, has_list, listed}

-- ---- a run of lines
pub puts_last : (w : ℕ) (out : List ℕ) (i : ℕ) (ls : List Line) (l : Line) → puts w out i (ls ++ (l ∷ [])) ≡ put_at w (puts w out i ls) (i + length ls) (encode w l)
unfolding puts
puts_last w out i [] l = let e : i + 0 ≡ i = omega arith in rw e
puts_last w out i (m ∷ ls) l =
    let e : suc i + length ls ≡ i + suc (length ls) = omega arith in
    puts_last w (put_at w out i (encode w m)) (suc i) ls l ∙ rw e

pub length_puts : (w : ℕ) (out : List ℕ) (i : ℕ) (ls : List Line) → Whole w ls → line_bytes w * (i + length ls) ≤ length out → length (puts w out i ls) ≡ length out
unfolding puts
length_puts w out i [] g h = refl
length_puts w out i (l ∷ ls) g h =
    let n : length (put_at w out i (encode w l)) ≡ length out =
    length_put w out (encode w l) i (omega (arith, mul-le-mul_left (line_bytes w) (step i (length ls)))) g.0 in
    let e : suc i + length ls ≡ i + suc (length ls) = omega arith in
    length_puts w (put_at w out i (encode w l)) (suc i) ls g.1 (rw (n, e) h) ∙ n
  where
    step : (a b : ℕ) → suc a ≤ a + suc b
    step a b = omega arith

-- ---- A lines
pub listed_none : (x : Node) (ns : List ℕ) → has_list x ≡ false → listed x ns ≡ []
unfolding listed
listed_none x ns e = rw e

pub listed_all : (x : Node) (ns : List ℕ) → has_list x ≡ true → listed x ns ≡ ns
unfolding listed
listed_all x ns e = rw e

pub args_whole : (ns : List ℕ) → Whole 6 (map arg_row ns)
args_whole [] = tt
args_whole (n ∷ ns) = (row_length 6 arg_line (n ∷ 0 ∷ 0 ∷ 0 ∷ 0 ∷ []) refl, args_whole ns)

-- one A line more
pub args_more : (out ns : List ℕ) (i j : ℕ) → j < length ns → puts 6 out i (map arg_row (take (j + 1) ns)) ≡ put_at 6 (puts 6 out i (map arg_row (take j ns))) (i + j) (encode 6 (arg_row (get_or ns j 0)))
args_more out ns i j h =
    let e : length (map arg_row (take j ns)) ≡ j = length-map (take j ns) arg_row ∙ length-take-le j ns (omega arith) in
    rw (add-one, take-suc ns j 0 h, map-append arg_row (take j ns) (get_or ns j 0 ∷ [])) (puts_last 6 out i (map arg_row (take j ns)) (arg_row (get_or ns j 0)) ∙ rw e)

-- ---- the Y line, by kinds that stand close
module _ (x : Node) (ns : List ℕ) (a : ℕ) where
  pub leaf_row : (x.kind ≡ 4 → ⊥) → x.kind < 7 → x.kind ∷ x.own ∷ 0 ∷ 0 ∷ 0 ∷ [] ≡ y_row x ns a
  unfolding y_row y_first y_second y_third
  leaf_row h k =
      simp (
        ne_eqb x.kind 4 h,
        ne_eqb x.kind 7 (λ e. omega arith),
        ne_eqb x.kind 8 (λ e. omega arith),
        ne_eqb x.kind 9 (λ e. omega arith),
        ne_eqb x.kind 10 (λ e. omega arith),
        ne_eqb x.kind 11 (λ e. omega arith),
        ne_eqb x.kind 12 (λ e. omega arith),
      )

  -- an arrow, a `TApp` or a tuple
  pub inner_row : 7 ≤ x.kind → x.kind < 10
      → x.kind
      ∷ pick (eqb x.kind 9) (first_of a x.count) (pick (eqb x.kind 8) x.own (get_or ns 0 0))
      ∷ pick (eqb x.kind 8) (first_of a x.count) (pick (eqb x.kind 9) x.count x.own)
      ∷ pick (eqb x.kind 7) (get_or ns 1 0) (pick (eqb x.kind 8) x.count 0)
      ∷ 0
      ∷ []
      ≡ y_row x ns a
  unfolding y_row y_first y_second y_third
  inner_row h k = go (eqb x.kind 7) (eqb x.kind 8) refl refl
    where
      go : (p q : Bool) → eqb x.kind 7 ≡ p → eqb x.kind 8 ≡ q
          → x.kind
          ∷ pick (eqb x.kind 9) (first_of a x.count) (pick (eqb x.kind 8) x.own (get_or ns 0 0))
          ∷ pick (eqb x.kind 8) (first_of a x.count) (pick (eqb x.kind 9) x.count x.own)
          ∷ pick (eqb x.kind 7) (get_or ns 1 0) (pick (eqb x.kind 8) x.count 0)
          ∷ 0
          ∷ []
          ≡ y_row x ns a
      go true q e f = rw (eqb-true x.kind 7 e)
      go false true e f = rw (eqb-true x.kind 8 f)
      go false false e f =
          let z : x.kind ≡ 9 = omega (arith, eqb-false x.kind 7 e, eqb-false x.kind 8 f) in
          rw z

  -- one child
  pub outer_row : 10 ≤ x.kind
      → x.kind ∷ pick (eqb x.kind 10) (get_or ns 0 0) (pick (eqb x.kind 12) (get_or ns 0 0) x.own) ∷ pick (eqb x.kind 11) (get_or ns 0 0) 0 ∷ 0 ∷ 0 ∷ []
      ≡ y_row x ns a
  unfolding y_row y_first y_second y_third
  outer_row h =
      simp (
        ne_eqb x.kind 4 (λ e. omega arith),
        ne_eqb x.kind 7 (λ e. omega arith),
        ne_eqb x.kind 8 (λ e. omega arith),
        ne_eqb x.kind 9 (λ e. omega arith),
      )
