-- `rows_patterns::names_of` meets its contract, line by line. Assumes nothing.
use Rattle.std.proofs.Common.{refl, ◌∙◌, arith}
use Rattle.meaning.specs.Program.{select}
use Rattle.rows_patterns.specs.KeptLaws.{names_more, names_le, names_all}
use Rattle.rows_patterns.proofs.names_of.Goals as goal

pub loop-i-init : goal.loop-i-init
unfolding select
loop-i-init c = record { within = omega arith; counted = refl }

pub loop-i-preserved : goal.loop-i-preserved
loop-i-preserved c =
    let a = c.args.a.now in
    let o = c.loop-i in
    record {
      within = rw c.counted-names.ensures (names_le a o.i o.names o.invariant.within);
      counted = rw c.counted-names.ensures (names_more a o.i o.names (omega arith) o.invariant.counted);
    }

pub returns : goal.returns
returns c = c.loop-i.invariant.counted ∙ names_all c.args.a.now c.loop-i.i (omega arith)
