-- `row4_counting::quickly` meets its contract: what is counted before a line is right.
use Rattle.std.proofs.Common.{◌≡◌, add-one, arith, length}
use Rattle.sheet.proofs.ListLaws.{false_true}
use Rattle.walk_cells.specs.Cells.{lines_of}
use Rattle.walk_cells.specs.CellsLaws.{length_lines_of}
use Rattle.row4_counting.specs.QuicklyLaws.{stepped_right, begun_right, not_begun}
use Rattle.row4_counting.proofs.quickly.Goals as goal

pub headed-tally-requires : goal.headed-tally-requires
headed-tally-requires c = (c.requires.to_args, c.requires.to_types)

pub returns-then-t-gt-LONG : goal.returns-then-t-gt-LONG
returns-then-t-gt-LONG c = record { right = rw c.headed-tally.ensures (not_begun (lines_of c.args.t.now) c.args.front c.requires); t_len_bound = λ z. false_true z }

pub loop-i-init : goal.loop-i-init
loop-i-init c = rw c.headed-tally.ensures (begun_right (lines_of c.args.t.now) c.args.front c.requires)

pub stepped-q-requires : goal.stepped-q-requires
stepped-q-requires c =
    let r = c.loop-i.invariant in
    (omega (arith, r.total), omega (arith, r.letters, c.if-t-gt-LONG.false))

pub loop-i-preserved : goal.loop-i-preserved
loop-i-preserved c =
    let l = c.loop-i in
    let t = c.args.t.now in
    rw (c.stepped-q.ensures, add-one) (stepped_right (lines_of t) l.i (omega (arith, length_lines_of t)) l.q c.letter.result c.letter.ensures l.invariant)

pub returns : goal.returns
returns c =
    let l = c.loop-i in
    let t = c.args.t.now in
    let e : l.i ≡ length (lines_of t) = omega (arith, c.requires.to_end, length_lines_of t) in
    record { right = rw e at l.invariant; t_len_bound = λ z. c.if-t-gt-LONG.false }
