-- `pattern_counts::row13` meets its contract. Assumes nothing.
use Rattle.std.proofs.Common.{◌≡◌, refl, sym, ◌∙◌, true, List, ℕ, ◌≤◌, ◌<◌, ◌/◌, arith, length}
use borrow.Author.Tests.{not-false}
use Rattle.sheet.specs.Sheet.{first}
use Rattle.sheet.proofs.FirstLaws.{none_first, first_more, first_found}
use Rattle.walk_cells.specs.Cells.{lines_of}
use Rattle.walk_cells.specs.CellsLaws.{length_lines_of}
use Rattle.meaning.specs.Rows.{nth_line}
use Rattle.meaning_patterns.specs.Patterns.{previous_of, good_pattern, row13}
use Rattle.pattern_rows.specs.Links.{row5}
use Rattle.pattern_rows.specs.LinksLaws.{good_lower}
use Rattle.pattern_counts.specs.CountsLaws.{parts_none, parts_more, row13_by}
use Rattle.pattern_counts.proofs.row13.Goals as goal

-- every line passes row 5
good : (q : List ℕ) (n i : ℕ) → first (row5 n (lines_of q)) (length (lines_of q)) ≡ length (lines_of q) → i < length q / 6 → good_pattern n (lines_of q) i ≡ true
good q n i h l = not-false (good_pattern n (lines_of q) i) (none_first (row5 n (lines_of q)) (length (lines_of q)) h i (omega (arith, length_lines_of q)))

-- the part before line i is at a lower line
low : (q : List ℕ) (n i p : ℕ) → first (row5 n (lines_of q)) (length (lines_of q)) ≡ length (lines_of q) → i < length q / 6 → p ≡ previous_of (nth_line (lines_of q) i) → p ≤ i
low q n i p h l e = omega (arith, (good_lower n (lines_of q) i (good q n i h l)).previous_lower, e)

pub loop-i-init : goal.loop-i-init
unfolding first
loop-i-init c = record { none = λ ds d. refl; counts = parts_none (lines_of c.args.q.now) }

pub miscounted-requires : goal.miscounted-requires
miscounted-requires c =
    record { i_in_bounds = (omega arith, omega arith); i_value = good c.args.q.now (length c.args.fields.now) c.loop-i.i c.requires.q_value (omega arith) }

pub returns-then-miscounted : goal.returns-then-miscounted
returns-then-miscounted c =
    λ ds d.
    let a = c.args in
    let qs = lines_of a.q.now in
    let o = c.loop-i in
    let g = good a.q.now (length a.fields.now) o.i c.requires.q_value (omega arith) in
    let test = row13_by (length a.fields.now) qs o.i (omega (arith, length_lines_of a.q.now)) (omega arith) g o.ends o.invariant.counts ds a.fields.now d refl ∙ sym c.miscounted.ensures in
    sym (first_found (row13 ds qs) (length qs) o.i (omega (arith, length_lines_of a.q.now)) (o.invariant.none ds d) (test ∙ c.if-miscounted.true))

pub bounds-ends-previous : goal.bounds-ends-previous
bounds-ends-previous c =
    omega (arith, low c.args.q.now (length c.args.fields.now) c.loop-i.i c.number-previous.result c.requires.q_value (omega arith) c.number-previous.ensures)

pub overflow_add-ends : goal.overflow_add-ends
overflow_add-ends c =
    let p : c.number-previous.result ≤ c.loop-i.i = low c.args.q.now (length c.args.fields.now) c.loop-i.i c.number-previous.result c.requires.q_value (omega arith) c.number-previous.ensures in
    omega (arith, c.loop-i.invariant.counts.few c.number-previous.result p)

pub loop-i-preserved : goal.loop-i-preserved
loop-i-preserved c =
    let a = c.args in
    let qs = lines_of a.q.now in
    let o = c.loop-i in
    let g = good a.q.now (length a.fields.now) o.i c.requires.q_value (omega arith) in
    record {
      none = λ ds d.
          first_more (row13 ds qs) o.i (o.invariant.none ds d)
          (row13_by (length a.fields.now) qs o.i (omega (arith, length_lines_of a.q.now)) (omega arith) g o.ends o.invariant.counts ds a.fields.now d refl ∙ sym c.miscounted.ensures ∙ c.if-miscounted.false);
      counts = parts_more (length a.fields.now) qs o.i (omega (arith, length_lines_of a.q.now)) (omega arith) g o.ends o.invariant.counts c.number-previous.result c.number-previous.ensures;
    }

pub returns : goal.returns
returns c =
    λ ds d.
    let q = c.args.q.now in
    let e : c.loop-i.i ≡ length (lines_of q) = omega (arith, length_lines_of q) in
    omega (arith, length_lines_of q, (rw e at (c.loop-i.invariant.none ds d)))
