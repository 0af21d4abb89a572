-- `resolve_calls::copy` meets its contract: what is copied to a later place leaves all before it.
use Rattle.std.proofs.Common.{◌≡◌, List, ℕ, ◌+◌, ◌≤◌, length, take, drop, ◌++◌, arith, sym, ◌∙◌, ap, length-drop}
use Rattle.std.proofs.lemmas.List.{take-take, take_at, drop_at, drop-take, length-take-le}
use Rattle.std.proofs.lemmas.List.Edits.{length-paste, take-paste}
use Rattle.std.proofs.Math.Seq.{paste}
use Rattle.resolve_outcomes.specs.Scratch.{part}
use Rattle.resolve_calls.specs.CallsLaws.{Copied}
use Rattle.resolve_calls.proofs.copy.Goals as goal

copied : (from to n k : ℕ) (xs ys : List ℕ) → k ≡ n → from + n ≤ to → to + n ≤ length xs → ys ≡ paste xs to (drop from xs) k → Copied from to n xs ys
unfolding part
copied from to n k xs ys e h q z =
    let l : n ≤ length (drop from xs) = omega (arith, length-drop from xs) in
    let f : length (take to xs) ≡ to = length-take-le to xs (omega arith) in
    let w : ys ≡ paste xs to (drop from xs) n = rw e at z in
    let t : take (to + n) ys ≡ take to xs ++ take n (drop from xs) = ap (take (to + n)) w ∙ take-paste xs to (drop from xs) n (omega arith) l in
    record {
      kept = record {
        below = sym (take-take to (to + n) ys (omega arith)) ∙ (ap (take to) t ∙ take_at (take to xs) (take n (drop from xs)) to f);
        long = ap length w ∙ length-paste xs to (drop from xs) n q l;
      };
      copy = ap (drop to) t ∙ (drop_at (take to xs) (take n (drop from xs)) to f ∙ sym (drop-take from n xs));
    }

pub returns : goal.returns
returns c = let a = c.args in (c.if-to-n.false, copied a.from a.to a.n _ a.out.now _ (omega arith) c.requires.0 c.if-to-n.false c.copy_within.ensures.after)
