-- `row7_verdicts::row7` meets its contract. Assumes nothing.
use Rattle.std.proofs.Common.{◌≡◌, sym, ap, ◌∙◌, not, ◌<◌, arith, length}
use Rattle.walk_cells.specs.Cells.{lines_of}
use Rattle.walk_cells.specs.CellsLaws.{length_lines_of}
use Rattle.sheet.proofs.FirstLaws.{first_more, first_found}
use Rattle.meaning.specs.Rows.{row7}
use Rattle.rows_header.specs.OrderLaws.{from_le}
use Rattle.rows_header.specs.LettersLaws.{lettered}
use Rattle.row7_verdicts.specs.VerdictsLaws.{in_next, in_test, in_most, in_step, in_third, in_header, header_passes}
use Rattle.row7_verdicts.proofs.row7.Goals as goal

pub loop-i-init : goal.loop-i-init
loop-i-init c =
    let s = lines_of c.args.t.now in
    let n = length_lines_of c.args.t.now in
    record { in_it = in_header s c.args.from c.requires _ (sym n) c.args.from (omega arith); none = header_passes s c.args.from c.requires _ (sym n) }

pub good_line-requires : goal.good_line-requires
good_line-requires c =
    let s = lines_of c.args.t.now in
    let o = c.loop-i in
    let w : o.i < length s = omega (arith, length_lines_of c.args.t.now) in
    (omega arith, in_most s o.i w o.d o.invariant.in_it, lettered s c.requires.in_order o.i (omega (arith, c.requires.from_is)) w)

pub returns-then-not-good_line : goal.returns-then-not-good_line
returns-then-not-good_line c =
    let s = lines_of c.args.t.now in
    let o = c.loop-i in
    let w : o.i < length s = omega (arith, length_lines_of c.args.t.now) in
    sym (first_found (row7 s) (length s) o.i w o.invariant.none (in_test s o.i w o.d o.invariant.in_it ∙ ap not (sym c.good_line.ensures ∙ c.if-not-good_line.true)))

pub decl_at-d-requires : goal.decl_at-d-requires
decl_at-d-requires c =
    let s = lines_of c.args.t.now in
    let o = c.loop-i in
    let w : o.i < length s = omega (arith, length_lines_of c.args.t.now) in
    let g = sym c.good_line.ensures ∙ c.if-not-good_line.false in
    record {
      i_in_bounds = (omega arith, o.invariant.in_it.kept_le, in_step s o.i w o.d o.invariant.in_it);
      lettered = (lettered s c.requires.in_order o.i (omega (arith, c.requires.from_is)) w, in_third s o.i w o.d o.invariant.in_it g);
    }

pub loop-i-preserved : goal.loop-i-preserved
loop-i-preserved c =
    let s = lines_of c.args.t.now in
    let o = c.loop-i in
    let w : o.i < length s = omega (arith, length_lines_of c.args.t.now) in
    record {
      in_it = in_next s o.i w o.d o.invariant.in_it c.decl_at-d.result c.decl_at-d.ensures;
      none = first_more (row7 s) o.i o.invariant.none (in_test s o.i w o.d o.invariant.in_it ∙ ap not (sym c.good_line.ensures ∙ c.if-not-good_line.false));
    }

pub returns : goal.returns
returns c =
    let t = c.args.t.now in
    let e : c.loop-i.i ≡ length (lines_of t) = omega (arith, length_lines_of t, from_le (lines_of t) c.args.from c.requires) in
    omega (arith, length_lines_of t, (rw e at c.loop-i.invariant.none))
