-- `set_closure::pass` meets its contract, by whether row i has node k. Assumes nothing.
use mathlib.Core.Path.{◌∙◌, sym}
use Rattle.set_closure.specs.Closure.{passed}
use Rattle.set_closure.specs.ClosureLaws.{rows_apart}
use Rattle.set_closure.proofs.pass.Goals as goal

pub returns-then-not-has : goal.returns-then-not-has
unfolding passed
returns-then-not-has c = rw (sym c.has.ensures ∙ c.if-not-has.true)

pub unite_within-requires-clause-fact : goal.unite_within-requires-clause-fact
unite_within-requires-clause-fact c =
    let a = c.args in
    let p = c.requires in rows_apart a.words a.i a.k

pub returns : goal.returns
unfolding passed
returns c = c.unite_within.ensures ∙ sym (rw (sym c.has.ensures ∙ c.if-not-has.false))
