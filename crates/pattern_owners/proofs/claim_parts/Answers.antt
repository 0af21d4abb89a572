-- `pattern_owners::claim_parts` meets its contract: links are to lower lines. Assumes nothing.
use native.Mathlib.Omega.{arith}
use native.Mathlib.Numerals.{add-one}
use borrow.Author.Rules.{rules}
use Rattle.walk_cells.specs.CellsLaws.{length_lines_of}
use Rattle.pattern_owners.specs.Places.{claimed}
use Rattle.pattern_owners.proofs.claim_parts.Goals as goal

pub number-last-requires : goal.number-last-requires
number-last-requires c = let a = c in (omega (arith, a.requires.linked.1, length_lines_of a.args.q.now), omega arith)

pub number-previous-requires : goal.number-previous-requires
number-previous-requires c = let a = c in (omega (arith, a.requires.linked.1, length_lines_of a.args.q.now), omega arith)

pub returns : goal.returns
unfolding claimed
returns c =
    let b = c in
    rw (c.claim-2.ensures, b.claim.ensures, b.number-previous.ensures, b.number-last.ensures, add-one)
