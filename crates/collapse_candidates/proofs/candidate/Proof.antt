-- `collapse_candidates::candidate` meets its contract, by the only kept field of a declaration that may collapse. Assumes nothing.
use Rattle.collapse_candidates.specs.CandidatesLaws.{kept_whole, only_told_by, only_small}
use Rattle.collapse_candidates.proofs.candidate.Statement.{statement}
use Rattle.table_access.specs.Tables.{lines_in}
use Rattle.collapse_candidates.proofs.candidate.Tie as tie

may-collapse-requires : tie.Need-may_collapse-requires
may-collapse-requires c κs = let p = c.requires in (p.0, (p.1.0, p.1.1.marked))

only-kept-requires : tie.Need-only_kept-requires
only-kept-requires c κs = let p = c.requires in (p.0, (p.1.0, p.1.1.slotted, p.1.1.long))

number-requires : tie.Need-number-requires
number-requires c κs = let a = c in only_small (lines_in a.args.t.now) a.requires.0.passed a.args.d c.only_kept.result c.only_kept.ensures.1

returns : tie.Need-returns-then-may_collapse
returns c =
    let a = c in
    let r = c.only_kept in
    only_told_by (lines_in a.args.t.now) a.requires.0.passed a.args.d r.result c.number.result r.ensures.0 r.ensures.1 (rw c.if-may_collapse.true at c.may_collapse.ensures) c.number.ensures

returns-2 : tie.Need-returns
returns-2 c = let a = c in kept_whole (lines_in a.args.t.now) a.requires.0.passed a.args.d c.may_collapse.result c.if-may_collapse.false c.may_collapse.ensures

pub candidate_spec : {M : Type 1} → statement M
candidate_spec = tie.close (tie.spec may-collapse-requires only-kept-requires number-requires returns returns-2)
