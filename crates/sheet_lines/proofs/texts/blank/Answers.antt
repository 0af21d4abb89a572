-- `sheet_lines::texts::blank` meets its contract: the bytes passed are spaces.
use Rattle.std.proofs.Common.{◌∙◌, sym, arith, drop_of_length-le}
use Rattle.sheet.specs.Line.{spaces}
use Rattle.sheet_lines.specs.TextLaws.{spaces_past, spaces_not}
use Rattle.sheet_lines.proofs.texts.blank.Goals as goal

pub returns-then-not-four_spaces : goal.returns-then-not-four_spaces
returns-then-not-four_spaces c =
    let f = c.four_spaces in
    let l = c.loop-i in
    sym (l.invariant ∙ spaces_not c.args.t.now l.i (omega arith) f.result f.ensures c.if-not-four_spaces.true)

pub loop-i-preserved : goal.loop-i-preserved
loop-i-preserved c =
    let f = c.four_spaces in
    let l = c.loop-i in
    l.invariant ∙ sym (spaces_past c.args.t.now l.i (omega arith) f.result f.ensures c.if-not-four_spaces.false)

pub returns : goal.returns
unfolding spaces
returns c = sym (c.loop-i.invariant ∙ rw (drop_of_length-le _ {i = c.loop-i.i} c.loop-i-test.false))
