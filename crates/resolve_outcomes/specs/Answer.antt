-- Answers: what the code says of an evaluation, in one number. It looks at a type through its parts,
-- whatever its kind. Assumes nothing.
use Rattle.std.specs.Prelude.{◌≡◌, Bool, true, false, ℕ, zero, suc, ◌≤◌, eqb}
use Rattle.number_columns.specs.Column.{◌⇒◌∥◌}
use Rattle.model.specs.Cty.{
  Cty,
  Ctys,
  TUnit,
  TAny,
  TExn,
  TVar,
  TInt,
  TFloat,
  TConst,
  TArrow,
  TApp,
  TTuple,
  TBuf,
  TRef,
  TInline,
  nil,
  cons,
  append,
}
use Rattle.model.specs.Resolve.{Result, ok, fault, spent}
use Rattle.resolve_outcomes.specs.Leads.{Leads}

-- ---- parts
-- the parts of a type, from left to right
unfoldable pub parts : Cty → Ctys
parts TUnit = nil
parts TAny = nil
parts TExn = nil
parts (TVar v) = nil
parts (TInt s w) = nil
parts (TFloat f) = nil
parts (TConst c) = nil
parts (TArrow a e b) = cons a (cons b nil)
parts (TApp n ts) = ts
parts (TTuple ts) = ts
parts (TBuf t) = cons t nil
parts (TRef k t) = cons t nil
parts (TInline t) = cons t nil

-- neither a variable nor a name
abbrev pub plain : Cty → Bool
plain TUnit = true
plain TAny = true
plain TExn = true
plain (TVar v) = false
plain (TInt s w) = true
plain (TFloat f) = true
plain (TConst c) = true
plain (TArrow a e b) = true
plain (TApp n ts) = false
plain (TTuple ts) = true
plain (TBuf t) = true
plain (TRef k t) = true
plain (TInline t) = true

-- n types, the last one last
unfoldable pub listed : (ℕ → Cty) → ℕ → Ctys
listed f zero = nil
listed f (suc n) = append (listed f n) (cons (f n) nil)

-- ---- answers
-- No fuel, no room, codes 9 and 10; every greater number says that the value is there.
abbrev pub no_fuel : ℕ
no_fuel = 0

abbrev pub no_room : ℕ
no_room = 1

abbrev pub nine : ℕ
nine = 2

abbrev pub ten : ℕ
ten = 3

unfoldable pub answer : {A : Type 0} → ℕ → A → Result A
answer r v = eqb r nine ⇒ fault 9 ∥ eqb r ten ⇒ fault 10 ∥ ok v

-- What the number r says of evaluations by fuel: that with fuel k it is spent; that there is no room
-- (`Short` says how little there is); or what every fuel gives that is not spent.
pub record Told {A : Type 0} (e : ℕ → Result A) (k : ℕ) (v : A) (Short : Type 0) (r : ℕ) : Type 0 where
  pub unfuelled : r ≡ no_fuel → e k ≡ spent
  pub short : r ≡ no_room → Short
  pub knows : nine ≤ r → (j : ℕ) → Leads (e j) (answer r v)
