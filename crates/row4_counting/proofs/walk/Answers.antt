-- `row4_counting::walk` meets its contract: the walk that only counts says so where it knows all, and else the other does.
use Rattle.std.proofs.Common.{◌∙◌, arith, length, refl, sym}
use Rattle.sheet.specs.Format.{base}
use Rattle.walk_cells.specs.Cells.{lines_of}
use Rattle.walk_cells.specs.CellsLaws.{length_lines_of}
use Rattle.row4_counting.specs.WalkLaws.{begins, declared_all}
use Rattle.row4_counting.proofs.walk.Goals as goal

pub quickly-q-requires : goal.quickly-q-requires
quickly-q-requires c = rw c.kept-front.ensures (begins base (lines_of c.args.t.now) c.args.r c.requires)

pub whole-requires : goal.whole-requires
whole-requires c = λ k. omega (arith, c.quickly-q.ensures.right.total, c.quickly-q.ensures.t_len_bound k, length_lines_of c.args.t.now)

pub returns-then-whole : goal.returns-then-whole
returns-then-whole c =
    let t = c.args.t.now in
    let g = c.quickly-q.ensures.right.right (c.whole.ensures c.if-whole.true) in
    record {
      past_value = sym (g.none ∙ length_lines_of t);
      counts_value = λ e. c.declared-counts.ensures ∙ declared_all (lines_of t) (length (lines_of t)) c.quickly-q.result.tally refl g.tally;
    }

pub searched-requires : goal.searched-requires
searched-requires c = rw c.kept-front.ensures (begins base (lines_of c.args.t.now) c.args.r c.requires)
