-- `pattern_owners::places` meets its contract, line after line. Assumes nothing.
use Rattle.std.proofs.Common.{ap, ◌∙◌, arith}
use Rattle.walk_cells.specs.Cells.{lines_of}
use Rattle.walk_cells.specs.CellsLaws.{length_lines_of}
use Rattle.pattern_owners.specs.Places.{ended}
use Rattle.pattern_owners.specs.PlacesLaws.{placed_none, placed_next, ended_few}
use Rattle.pattern_owners.proofs.places.Goals as goal

pub loop-i-init : goal.loop-i-init
loop-i-init c = placed_none (lines_of c.args.q.now) c.args.place.now

pub place_behind-requires : goal.place_behind-requires
place_behind-requires c =
    let l = c.loop-i in
    let qs = lines_of c.args.q.now in
    let n = length_lines_of c.args.q.now in
    let low = c.requires.linked.0.previous l.i (omega (arith, n, c.loop-i-test.true)) in
    (omega (arith, low, n, c.number.ensures, c.requires.place_len), omega (arith, ended_few qs c.requires.linked.0 l.place l.i (omega (arith, n)) l.invariant c.number.result (omega (arith, low, c.number.ensures)), low, c.number.ensures, c.requires.linked.1))

pub bounds-place-i : goal.bounds-place-i
bounds-place-i c = omega (arith, length_lines_of c.args.q.now, c.requires.place_len, c.loop-i-test.true)

pub loop-i-preserved : goal.loop-i-preserved
loop-i-preserved c =
    let l = c.loop-i in
    let n = length_lines_of c.args.q.now in
    placed_next (lines_of c.args.q.now) c.requires.linked.0 l.place l.i c.place_behind.result (omega (arith, n, c.loop-i-test.true)) (omega (arith, c.requires.place_len)) l.invariant (c.place_behind.ensures ∙ ap (ended l.place) c.number.ensures)

pub returns : goal.returns
returns c =
    let l = c.loop-i in
    let n = length_lines_of c.args.q.now in
    record { held = λ q h. l.invariant.held q (omega (arith, n, c.loop-i-test.false)); few = λ q h. l.invariant.few q (omega (arith, n, c.loop-i-test.false)) }
