-- A number in columns (FORMAT, section 1): decimal digits at the right end, spaces before them; it
-- begins with `0` only where it is 0. The width is the number of columns, and any width will do.
-- Assumes nothing.
use Rattle.std.specs.Prelude.{Option, Some, None, List, [], ◌∷◌, ◌++◌, Bool, true, false, ◌&&◌, ℕ, zero, suc, ◌+◌, ◌*◌, ◌-◌, ◌/◌, ◌%◌, eqb, leb}
use Rattle.number_columns.specs.declared.Scan.{Scan}
use Rattle.number_columns.specs.declared.Scan.TheVariants.{Blank, Zero, In, Broken}

-- the first where the test holds, else the second
abbrev pub pick {ℓ} : {A : Type ℓ} → Bool → A → A → A
pick true a b = a
pick false a b = b

-- the same, for a chain of tests: what follows the first that holds
infixr 5 ◌⇒◌∥◌
abbrev pub ◌⇒◌∥◌ {ℓ} : {A : Type ℓ} → Bool → A → A → A
◌⇒◌∥◌ = pick

-- a decimal digit, 48 to 57
abbrev pub digit : ℕ → Bool
digit d = leb 48 d && leb d 57

-- One column more: spaces, then `0` alone or a number that does not begin with it.
unfoldable pub step : Scan → ℕ → Scan
step Blank d = pick (eqb d 32) Blank (pick (eqb d 48) Zero (pick (digit d) (In (d - 48)) Broken))
step Zero d = Broken
step (In v) d = pick (digit d) (In (v * 10 + (d - 48))) Broken
step Broken d = Broken

unfoldable pub scan : Scan → List ℕ → Scan
scan a [] = a
scan a (d ∷ s) = scan (step a d) s

abbrev pub told : Scan → Option ℕ
told Blank = None
told Zero = Some 0
told (In v) = Some v
told Broken = None

-- whether the columns hold a number
abbrev pub is_value : Option ℕ → Bool
is_value (Some n) = true
is_value None = false

-- the number in the columns s
unfoldable pub read : List ℕ → Option ℕ
read s = told (scan Blank s)

-- The column of a digit that is not the last: a space where nothing is left of the number.
abbrev pub mark : ℕ → ℕ
mark n = pick (eqb n 0) 32 (48 + n % 10)

-- n in w columns, all of them spaces for 0
unfoldable pub shown : ℕ → ℕ → List ℕ
shown zero n = []
shown (suc w) n = shown w (n / 10) ++ (mark n ∷ [])

-- n in w columns; of a number that does not fit, its last w digits
unfoldable pub write : ℕ → ℕ → List ℕ
write zero n = []
write (suc w) n = shown w (n / 10) ++ ((48 + n % 10) ∷ [])
