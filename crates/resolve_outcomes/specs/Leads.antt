-- What an evaluation finds before its fuel is spent, another finds too: spent, or the same. Assumes nothing.
use Rattle.std.specs.Prelude.{◌≡◌}
use Rattle.model.specs.Resolve.{Result, ok, fault, spent}

abbrev pub Leads : {A : Type 0} → Result A → Result A → Type 0
Leads (ok a) s = ok a ≡ s
Leads (fault e) s = fault e ≡ s
Leads spent s = Unit {0}
