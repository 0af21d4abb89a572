-- Words put into an array one after the other, as far as there is room. Assumes nothing.
use Rattle.std.specs.Prelude.{◌≡◌, refl, List, [], ◌∷◌, ◌++◌, ℕ, ◌+◌, ◌-◌, ◌≤◌, ◌<◌, length, take, drop, set}
use Rattle.std.proofs.Common.{ap, ap₂, sym, ◌∙◌, append_assoc, arith, add-one, length-append, length-set, take-append-drop, take_at, drop-drop, length-take-le}
use Rattle.std.proofs.Math.Seq.{drop-append-add}
use Rattle.std.proofs.lemmas.List.{set_split}

-- Put from place `at` on, r the place after it; where there is no room, r is past the end.
pub record Put (p out : List ℕ) (at r : ℕ) (res : List ℕ) : Type 0 where
  pub long : length res ≡ length out
  pub room : r ≤ length out → (r ≡ at + length p) × (res ≡ take at out ++ (p ++ drop r out))
  pub full : length out < r → length out < at + length p

-- one word
pub put_one : (w : ℕ) (out : List ℕ) (at : ℕ) → at < length out → Put (w ∷ []) out at (at + 1) (set out at w)
put_one w out at h =
    record { long = length-set out at w; room = λ r. (refl, rw (add-one, set_split out at w h)); full = λ r. absurd (omega arith) }

pub put_past : (w : ℕ) (out : List ℕ) (at : ℕ) → length out ≤ at → Put (w ∷ []) out at (at + 1) out
put_past w out at h = record { long = refl; room = λ r. absurd (omega arith); full = λ r. omega arith }

-- nothing
pub put_none : (out : List ℕ) (at : ℕ) → at ≤ length out → Put [] out at at out
put_none out at h =
    let e : at + 0 ≡ at = omega arith in
    record { long = refl; room = λ r. (omega arith, sym (take-append-drop at out)); full = λ r. absurd (omega arith) }

-- one after the other
pub put_more : (p q out : List ℕ) (at r t : ℕ) (mid res : List ℕ) → at ≤ length out → r ≤ length out → Put p out at r mid → Put q mid r t res → Put (p ++ q) out at t res
put_more p q out at r t mid res a h x y =
    let e : r ≡ at + length p = (x.room h).0 in
    let m : mid ≡ take at out ++ (p ++ drop r out) = (x.room h).1 in
    let l : length (take at out) ≡ at = length-take-le at out a in
    let k : length (take at out ++ p) ≡ r = length-append (take at out) p ∙ omega (arith, l, e) in
    let n : mid ≡ (take at out ++ p) ++ drop r out = m ∙ sym (append_assoc (take at out) p (drop r out)) in
    record {
      long = y.long ∙ x.long;
      room = λ u. let z = y.room (omega (arith, x.long)) in (
        z.0 ∙ omega (arith, e, length-append p q),
        z.1 ∙ (ap₂ (λ (i j : List ℕ). i ++ (q ++ j)) (ap (take r) n ∙ take_at (take at out ++ p) (drop r out) r k) (ap (drop t) n ∙ past (take at out ++ p) r t k (omega (arith, z.0)))
            ∙ (append_assoc (take at out) p (q ++ drop t out) ∙ ap (λ (i : List ℕ). take at out ++ i) (sym (append_assoc p q (drop t out))))),
      );
      full = λ u. omega (arith, y.full (omega (arith, x.long)), x.long, e, length-append p q);
    }
  where
    past : (i : List ℕ) (j k : ℕ) → length i ≡ j → j ≤ k → drop k (i ++ drop j out) ≡ drop k out
    past i j k e g =
        let f : k ≡ length i + (k - j) = omega arith in
        let d : j + (k - j) ≡ k = omega arith in
        ap (λ (n : ℕ). drop n (i ++ drop j out)) f ∙ (drop-append-add i (drop j out) (k - j) ∙ (drop-drop (k - j) j out ∙ ap (λ (n : ℕ). drop n out) d))

-- no room for the first
pub put_stop : (p q out : List ℕ) (at r : ℕ) (res : List ℕ) → length out < r → Put p out at r res → Put (p ++ q) out at r res
put_stop p q out at r res h x =
    record { long = x.long; room = λ u. absurd (omega arith); full = λ u. omega (arith, x.full h, length-append p q) }
