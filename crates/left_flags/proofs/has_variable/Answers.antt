-- `left_flags::has_variable` meets its contract: a word is the variable, or none is.
use Rattle.std.proofs.Common.{◌≡◌, ◌+◌, ◌-◌, sym, ◌∙◌, arith, take, drop}
use Rattle.left_flags.specs.FlagsLaws.{has_at, has_none}
use Rattle.left_flags.proofs.has_variable.Goals as goal

pub returns-then-is_variable : goal.returns-then-is_variable
returns-then-is_variable c =
    let a = c.args in
    let z : a.start + a.n - a.start ≡ a.n = omega arith in
    rw (← z) (sym (has_at a.i (take (a.start + a.n - a.start) (drop a.start a.f.now)) c.loop-w.w-index (omega arith) (sym c.is_variable.ensures ∙ c.if-is_variable.true)))

pub returns : goal.returns
returns c =
    let a = c.args in
    let z : a.start + a.n - a.start ≡ a.n = omega arith in
    rw (← z) (sym (has_none a.i (take (a.start + a.n - a.start) (drop a.start a.f.now)) (λ k h. c.loop-w.invariant k (omega arith))))
