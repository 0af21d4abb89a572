-- `set_closure::ones` meets its contract: after w turns the ones of the first w words are counted. Assumes nothing.
use mathlib.Core.Path.{refl}
use Prim.Native.Nat.{◌+◌}
use native.Mathlib.Numerals.{add-one}
use native.Mathlib.Omega.{arith}
use lib.Count.{ones-le}
use borrow.Author.Rules.{rules}
use Rattle.set_closure.specs.Ones.{ones_of}
use Rattle.set_closure.proofs.ones.Goals as goal

pub loop-w-init : goal.loop-w-init
unfolding ones_of
loop-w-init c = (omega arith, refl, omega arith)

pub loop-w-preserved : goal.loop-w-preserved
unfolding ones_of
loop-w-preserved c =
    let s = c.loop-w in
    (search rules, rw (add-one, s.invariant.1), omega (arith, ones-le 64 _ (c.shared_slice_known-1.given (c.args.at + s.w)).fits))
