-- Four bytes as one number, and a key of 24 bytes. Assumes nothing.
use Rattle.std.specs.Prelude.{◌≡◌, refl, List, Bool, true, false, ◌&&◌, ℕ, ◌+◌, ◌*◌, ◌/◌, ◌%◌, ◌<◌, eqb, get_or}
use Rattle.std.proofs.Common.{arith, eqb-true, ne_eqb}
use Rattle.std.proofs.lemmas.Bool.{eqb-false}

-- four bytes as one number
unfoldable pub word_at : List ℕ → ℕ → ℕ
word_at t i = get_or t i 0 + get_or t (i + 1) 0 * 256 + get_or t (i + 2) 0 * 65536 + get_or t (i + 3) 0 * 16777216

-- any function of the bytes will do
unfoldable pub key_of : List ℕ → ℕ
key_of t =
    (word_at t 0 * 16777619 + word_at t 4 * 165901211 + word_at t 8 * 140295334 + word_at t 12 * 204151523 + word_at t 16 * 41766578 + word_at t 20 * 23422577)
    / 16777216 % 1000

-- a word tells its bytes
pub four : (a b c d : ℕ) → a < 256 → b < 256 → c < 256 → d < 256
    → eqb (a + b * 256 + c * 65536 + d * 16777216) 538976288 ≡ eqb a 32 && eqb b 32 && eqb c 32 && eqb d 32
four a b c d ha hb hc hd = go (eqb a 32) refl (eqb b 32) refl (eqb c 32) refl (eqb d 32) refl
  where
    other : (a + b * 256 + c * 65536 + d * 16777216 ≡ 538976288 → ⊥) → eqb (a + b * 256 + c * 65536 + d * 16777216) 538976288 ≡ false
    other = ne_eqb (a + b * 256 + c * 65536 + d * 16777216) 538976288

    go : (p : Bool) → eqb a 32 ≡ p → (q : Bool) → eqb b 32 ≡ q → (r : Bool) → eqb c 32 ≡ r → (s : Bool) → eqb d 32 ≡ s
        → eqb (a + b * 256 + c * 65536 + d * 16777216) 538976288 ≡ p && q && r && s
    go false e q f r g s h = other (λ z. eqb-false a 32 e (omega arith))
    go true e false f r g s h = other (λ z. eqb-false b 32 f (omega arith))
    go true e true f false g s h = other (λ z. eqb-false c 32 g (omega arith))
    go true e true f true g false h = other (λ z. eqb-false d 32 h (omega arith))
    go true e true f true g true h = rw (eqb-true a 32 e, eqb-true b 32 f, eqb-true c 32 g, eqb-true d 32 h)
