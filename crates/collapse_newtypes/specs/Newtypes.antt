-- The only kept field of a declaration with one constructor, by its lines and the keep table. Assumes nothing.
use Rattle.std.specs.Prelude.{◌≡◌, List, [], ◌∷◌, Bool, true, false, ℕ, zero, suc, ◌-◌, ◌≤◌, ◌<◌, eqb, get_or, Some, None}
use Rattle.std.proofs.Math.Option.{Option, none, some}
use Rattle.number_columns.specs.Column.{pick, ◌⇒◌∥◌}
use Rattle.sheet.specs.Line.{Line, number}
use Rattle.model.specs.Decl.{NewtypeLayout}
use Rattle.meaning.specs.Program.{ctor_line}
use Rattle.table_access.specs.Tables.{head_line, first_of}
use Rattle.keep_layouts.specs.Kept.{body_kind, body_last, ctor_name}
use Rattle.keep_layouts.specs.Layouts.{newtype_told}
use Rattle.std.specs.Prelude as prelude

-- declaration d has one constructor, a record counting as one
unfoldable pub one_ctor : List Line → ℕ → Bool
one_ctor ls d =
    eqb (body_kind ls d) 2 ⇒ true ∥
    eqb (body_kind ls d) 3 ⇒ eqb (body_last ls d) 1 ∥
    false

-- its name: a record's is the type's
unfoldable pub ctor_told : List Line → ℕ → ℕ
ctor_told ls d = eqb (body_kind ls d) 2 ⇒ number (head_line ls d) 0 ∥ ctor_name ls (first_of ctor_line ls d)

-- the newtype that declaration d can become by its only kept field
unfoldable pub only_told : List Line → ℕ → prelude.Option ℕ → Option NewtypeLayout
only_told ls d (Some f) = some (newtype_told ls d (ctor_told ls d) f)
only_told ls d None = none

-- those of the n fields from field f on that are kept
unfoldable pub kept_places : List ℕ → ℕ → ℕ → List ℕ
kept_places keep f zero = []
kept_places keep f (suc n) = let r : List ℕ = kept_places keep (suc f) n in pick (eqb (get_or keep f 0) 1) (f ∷ r) r

-- the only one of them
unfoldable pub only : List ℕ → prelude.Option ℕ
only [] = None
only (f ∷ []) = Some f
only (f ∷ g ∷ fs) = None

-- no field from `from` on is kept before field r, and r is kept or the end
pub record Next (keep : List ℕ) (from end r : ℕ) : Type 0 where
  pub low : from ≤ r
  pub high : r ≤ end
  pub passed : kept_places keep from (end - from) ≡ kept_places keep r (end - r)
  pub stops : r < end → get_or keep r 0 ≡ 1
