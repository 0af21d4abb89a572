-- `walk_decode::numbers::digits` meets its contract: nine digits fit a u32.
use Rattle.std.proofs.Common.{ℕ, ◌≤◌, ◌<◌, ◌^◌, arith, sym, ap, ◌∙◌, add-one}
use Rattle.std.proofs.Math.Nat.{pow-le-pow_right}
use Rattle.number_columns.specs.Column.{told}
use Rattle.walk_decode.specs.NumberLaws.{digit_more, digit_none, digits_end}
use Rattle.walk_decode.proofs.numbers.digits.Goals as goal

-- at most eight digits are passed
small : (v i : ℕ) → i ≤ 8 → v < 10 ^ i → v < 100000000
small v i h k = omega (arith, pow-le-pow_right {n = 10} (omega arith) h)

pub overflow_mul-v : goal.overflow_mul-v
overflow_mul-v c = omega (arith, small c.loop-b.v c.loop-b.b-index (omega arith) c.loop-b.invariant.1)

pub overflow_add-v : goal.overflow_add-v
overflow_add-v c = omega (arith, small c.loop-b.v c.loop-b.b-index (omega arith) c.loop-b.invariant.1)

pub returns-in_default : goal.returns-in_default
returns-in_default c = sym (ap told (sym c.loop-b.invariant.0) ∙ digit_none c.args.s.now c.loop-b.b-index c.loop-b.v (omega arith) (λ h k. omega arith))

pub returns-in_default-2 : goal.returns-in_default-2
returns-in_default-2 c = sym (ap told (sym c.loop-b.invariant.0) ∙ digit_none c.args.s.now c.loop-b.b-index c.loop-b.v (omega arith) (λ h k. omega arith))

pub loop-b-preserved : goal.loop-b-preserved
loop-b-preserved c =
    let l = c.loop-b in
    (rw (c.from.ensures, ← digit_more c.args.s.now l.b-index l.v (omega arith) (omega arith) (omega arith)) l.invariant.0, rw add-one (omega (arith, l.invariant.1)))

pub returns : goal.returns
returns c = sym (ap told (sym c.loop-b.invariant.0) ∙ digits_end c.args.s.now c.loop-b.b-index c.loop-b.v (omega arith))
