-- `form_puts::again` meets its contract: the words behind place `at` are those that stand from place `from` on.
use Rattle.std.proofs.Common.{◌≡◌, List, ℕ, ◌+◌, ◌-◌, ◌≤◌, ◌<◌, refl, ◌∙◌, append_assoc, arith, length, take, drop, length-drop, length-take-le}
use Rattle.form_puts.specs.Put.{Put}
use Rattle.form_puts.proofs.again.Goals as goal

module _ (d : List ℕ) (from end at : ℕ) (h : from ≤ end) (k : end ≤ at) (q : at ≤ length d) where
  long : length (take (end - from) (drop from d)) ≡ end - from
  long = length-take-le (end - from) (drop from d) (rw length-drop (omega arith))

  -- no room
  copied_none : length d < at + (end - from) → Put (take (end - from) (drop from d)) d at (at + (end - from)) d
  copied_none l = record { long = refl; room = λ u. absurd (omega arith); full = λ u. omega (arith, long) }

pub returns-then-out-at : goal.returns-then-out-at
returns-then-out-at c =
    let a = c.args in
    copied_none a.out.now a.from a.end a.at c.requires.0 c.requires.1 c.requires.2 (omega (arith, c.if-out-at.true))

pub returns : goal.returns
returns c =
    let a = c.args in
    let d = a.out.now in
    let l = long d a.from a.end a.at c.requires.0 c.requires.1 c.requires.2 in
    record {
      long = c.copy_within.ensures.len;
      room = λ u. (omega (arith, l), c.copy_within.ensures.after ∙ append_assoc (take a.at d) (take (a.end - a.from) (drop a.from d)) (drop (a.at + (a.end - a.from)) d));
      full = λ u. absurd (omega (arith, c.copy_within.ensures.len));
    }
