-- `pattern_owners::owners` meets its contract, from the last line down. Assumes nothing.
use Rattle.std.proofs.Common.{ap, sym, ◌∙◌, ◌-◌, arith}
use Rattle.walk_cells.specs.Cells.{lines_of}
use Rattle.walk_cells.specs.CellsLaws.{length_lines_of}
use Rattle.pattern_laws.specs.Marks.{owners_from, owners_of}
use Rattle.pattern_owners.specs.PlacesLaws.{owners_next, owners_done}
use Rattle.pattern_owners.proofs.owners.Goals as goal

pub loop-i-init : goal.loop-i-init
unfolding owners_of
loop-i-init c = rw (c.fill.ensures.after (λ y e. e), c.requires.own_len, length_lines_of c.args.q.now)

pub claim_parts-requires-clause-linked : goal.claim_parts-requires-clause-linked
claim_parts-requires-clause-linked c =
    let n = length_lines_of c.args.q.now in
    (c.requires.linked.0, omega (arith, n, c.loop-i-test.true), omega (arith, n, c.requires.linked.1))

pub loop-i-preserved : goal.loop-i-preserved
loop-i-preserved c =
    let l = c.loop-i in
    let qs = lines_of c.args.q.now in
    ap (owners_from qs (l.i - 1)) c.claim_parts.ensures ∙ sym (owners_next qs l.i l.own (omega (arith, c.loop-i-test.true))) ∙ l.invariant

pub returns : goal.returns
returns c =
    let l = c.loop-i in
    sym (owners_done (lines_of c.args.q.now) l.i l.own (omega (arith, c.loop-i-test.false))) ∙ l.invariant
