-- `collapses::by_kept` meets its contract, by the only kept field.
use Rattle.std.proofs.Common.{arith}
use Rattle.table_access.specs.Tables.{lines_in}
use Rattle.table_declared.specs.PassedLaws.{fields_few}
use Rattle.collapse_verdicts.proofs.ChosenLaws.{kept_none, kept_some}
use Rattle.collapse_verdicts.proofs.laying.collapses.by_kept.Goals as goal

pub overflow_cast-f : goal.overflow_cast-f
overflow_cast-f c = omega (arith, (c.only_kept.ensures.1 c.in-Some.f c.in-Some.is).0, fields_few (lines_in c.args.t.now) c.requires.tabled.passed)

pub newtype-requires : goal.newtype-requires
newtype-requires c = record { tabled = c.requires.tabled; d_bound = (c.requires.d_bound.0, (c.only_kept.ensures.1 c.in-Some.f c.in-Some.is).2) }

pub returns-in-Some : goal.returns-in-Some
returns-in-Some c =
    let k = c.only_kept in
    rw c.newtype.ensures (kept_some (lines_in c.args.t.now) c.args.d k.result c.in-Some.f k.ensures.0 c.in-Some.is (k.ensures.1 c.in-Some.f c.in-Some.is).0)

pub returns-in-None : goal.returns-in-None
returns-in-None c = kept_none (lines_in c.args.t.now) c.args.d c.only_kept.result c.only_kept.ensures.0 c.in-None.is
