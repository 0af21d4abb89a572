-- `repeats::head_repeats` meets its contract, by whether it is a record. Assumes nothing.
use Rattle.std.proofs.Common.{refl, arith, ◌<◌}
use Rattle.sheet.specs.Line.{letter}
use Rattle.walk_cells.specs.Cells.{lines_of}
use Rattle.meaning.specs.Rows.{nth_line}
use Rattle.row6_distinct.specs.WaysLaws.{head_named, record_head}
use Rattle.row6_distinct.proofs.repeats.head_repeats.Goals as goal

pub seen-again-requires : goal.seen-again-requires
seen-again-requires c =
    let a = c.args in
    (omega arith, head_named (nth_line (lines_of a.t.now) a.i) (record { params = 0; fields = 0 }) a.declared.now a.declared.now a.declared.now a.declared.now (letter (nth_line (lines_of a.t.now) a.i)) c.number-x.result refl c.number-x.ensures c.requires.i_in_bounds.1 c.requires.fact)

pub seen-requires : goal.seen-requires
seen-requires c =
    let a = c.args in
    let h : c.number-x.result < 256 = head_named (nth_line (lines_of a.t.now) a.i) (record { params = 0; fields = 0 }) a.declared.now a.declared.now a.declared.now a.declared.now (letter (nth_line (lines_of a.t.now) a.i)) c.number-x.result refl c.number-x.ensures c.requires.i_in_bounds.1 c.requires.fact in
    let k : c.number-x.result < 512 = omega arith in
    (omega arith, k)

pub returns-then-number-eq2 : goal.returns-then-number-eq2
returns-then-number-eq2 c =
    let a = c.args in
    let s = c.seen-again in
    let z = c.seen in
    record_head (nth_line (lines_of a.t.now) a.i) a.declared.now a.members.now c.number-x.result c.number-x.ensures c.requires.fact c.number.result c.number.ensures c.requires.i_in_bounds.1
    c.if-number-eq2.true s.result z.result _ s.new.last z.new.last s.ensures.value s.ensures.last_after z.ensures.value z.ensures.last_after refl
