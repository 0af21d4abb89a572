-- `row6_distinct::repeated` meets its contract. Assumes nothing.
use Rattle.std.proofs.Common.{◌≡◌, refl, sym, ◌∙◌, ◌<◌, arith, add-one, length, take, drop}
use Rattle.walk_cells.specs.Cells.{lines_of}
use Rattle.walk_cells.specs.CellsLaws.{length_lines_of}
use Rattle.sheet.proofs.FirstLaws.{first_more, first_found}
use Rattle.rows_header.specs.Header.{Headed}
use Rattle.rows_header.specs.LettersLaws.{lettered}
use Rattle.rows_header.specs.OrderLaws.{from_le}
use Rattle.row6_distinct.specs.Ways.{repeated_any}
use Rattle.row6_distinct.specs.DistinctLaws.{seen_none, none_repeated, named_line, seen_test, seen_next, groups_small}
use Rattle.row6_distinct.proofs.repeated.Goals as goal

pub loop-i-init : goal.loop-i-init
loop-i-init c =
    let s = lines_of c.args.t.now in
    let h : Headed s c.args.from = record { in_order = c.requires.ranged.in_order; from_is = c.requires.from_value } in
    record { seen = seen_none s c.args.from h _ refl refl; none = none_repeated s c.args.from h }

pub repeats-requires : goal.repeats-requires
repeats-requires c =
    let s = lines_of c.args.t.now in
    let w : c.loop-i.i < length s = omega (arith, length_lines_of c.args.t.now) in
    record {
      i_in_bounds = (omega arith, named_line s c.requires.ranged c.loop-i.i w);
      lettered = lettered s c.requires.ranged.in_order c.loop-i.i (omega (arith, c.requires.from_value)) w;
    }

pub returns-then-repeats : goal.returns-then-repeats
returns-then-repeats c =
    let s = lines_of c.args.t.now in
    let o = c.loop-i in
    let w : o.i < length s = omega (arith, length_lines_of c.args.t.now) in
    sym (first_found (repeated_any s) (length s) o.i w o.invariant.none (seen_test s c.requires.ranged o.i w o.g o.declared o.params (drop 256 o.members) (take 256 o.members) o.invariant.seen c.repeats.result c.repeats.ensures.0 ∙ c.if-repeats.true))

pub groups_after-g-requires : goal.groups_after-g-requires
groups_after-g-requires c =
    let s = lines_of c.args.t.now in
    let o = c.loop-i in
    let w : o.i < length s = omega (arith, length_lines_of c.args.t.now) in
    record {
      i_in_bounds = (omega arith, lettered s c.requires.ranged.in_order o.i (omega (arith, c.requires.from_value)) w);
      params_bound = groups_small s c.requires.ranged o.i w o.g o.declared o.params (drop 256 o.members) (take 256 o.members) o.invariant.seen;
    }

pub loop-i-preserved : goal.loop-i-preserved
loop-i-preserved c =
    let s = lines_of c.args.t.now in
    let o = c.loop-i in
    let w : o.i < length s = omega (arith, length_lines_of c.args.t.now) in
    record {
      seen = rw add-one (seen_next s c.requires.ranged o.i w o.g o.declared o.params (drop 256 o.members) (take 256 o.members) o.invariant.seen c.repeats.result _ _ _ _ c.groups_after-g.result c.repeats.ensures c.groups_after-g.ensures);
      none = first_more (repeated_any s) o.i o.invariant.none (seen_test s c.requires.ranged o.i w o.g o.declared o.params (drop 256 o.members) (take 256 o.members) o.invariant.seen c.repeats.result c.repeats.ensures.0 ∙ c.if-repeats.false);
    }

pub returns : goal.returns
returns c =
    let t = c.args.t.now in
    let h : Headed (lines_of t) c.args.from = record { in_order = c.requires.ranged.in_order; from_is = c.requires.from_value } in
    let e : c.loop-i.i ≡ length (lines_of t) = omega (arith, length_lines_of t, from_le (lines_of t) c.args.from h) in
    omega (arith, length_lines_of t, (rw e at c.loop-i.invariant.none))
