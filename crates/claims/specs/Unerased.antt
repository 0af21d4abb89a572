-- Words of the claims. Assumes nothing.
use Rattle.std.specs.Prelude.{List, [], ◌∷◌, Bool, ℕ}
use Rattle.number_columns.specs.Column.{pick}
use Rattle.model.specs.Decl.{Field, Ctor}
use Rattle.model.specs.Erasure.{cty_erased}

-- the fields whose types are not erased, in order
unfoldable pub unerased : (ℕ → Bool) → List Field → List Field
unerased er [] = []
unerased er (f ∷ fs) = let gs : List Field = unerased er fs in pick (cty_erased er f.fd_type) gs (f ∷ gs)

-- a constructor with these fields alone
abbrev pub unerased_ctor : (ℕ → Bool) → Ctor → Ctor
unerased_ctor er c = record { ct_name = c.ct_name; ct_fields = unerased er c.ct_fields }
