-- What reads put into a buffer, one behind the other, is what they consumed together.
use Rattle.std.proofs.Common.{◌≡◌, ℕ, ◌+◌, ◌≤◌, List, ◌++◌, arith, length, take, sym, ap, ◌∙◌, subst}
use Rattle.std.proofs.Math.Seq.{take-append-add, take-append_seam}
use Rattle.std.proofs.lemmas.List.{length-take-le, take-append-le}
use Rattle.std.specs.Io.KnownBytes.{Consumes, Keeps}
use Rattle.std.proofs.KnownBytes.{Consumes-trans, Consumes-kept}
use Rattle.std.specs.declared.option.Option.{Option}

take_further : (a n : ℕ) (old buf post : List ℕ) → a ≤ length old → n ≤ length buf → take a old ++ take n buf ≡ take (a + n) (take a old ++ (buf ++ post))
take_further a n old buf post h k =
    let l : length (take a old) ≡ a = length-take-le a old h in
    sym (ap (λ m. take (m + n) (take a old ++ (buf ++ post))) (sym l) ∙ take-append-add (take a old) (buf ++ post) n ∙ ap (λ x. take a old ++ x) (take-append-le n buf post k))

-- a read of n bytes behind the first a
pub joined : (p q r : Option (List ℕ)) (a n : ℕ) (old buf post : List ℕ) → a ≤ length old → n ≤ length buf → Consumes p q (take a old) → Consumes q r (take n buf)
    → Consumes p r (take (a + n) (take a old ++ (buf ++ post)))
joined p q r a n old buf post h k first second = subst (Consumes p r) (take_further a n old buf post h k) (Consumes-trans p q r _ _ first second)

-- a read that gave nothing
pub held : (p q r : Option (List ℕ)) (a : ℕ) (old rest : List ℕ) → a ≤ length old → Consumes p q (take a old) → Keeps q r → Consumes p r (take a (take a old ++ rest))
held p q r a old rest h first kept =
    let l : length (take a old) ≡ a = length-take-le a old h in
    let e : take a old ≡ take a (take a old ++ rest) = sym (ap (λ m. take m (take a old ++ rest)) (sym l) ∙ take-append_seam (take a old) rest) in
    subst (Consumes p r) e (Consumes-kept p q r _ first kept)
