-- A V line of row 7, part by part. Assumes nothing.
use Rattle.std.specs.Prelude.{Bool, false, ◌&&◌, ◌||◌, ℕ, eqb}
use Rattle.number_columns.specs.Column.{◌⇒◌∥◌}
use Rattle.sheet.specs.Line.{Line, number}

-- a record, or a variant of one constructor, by body kind and last number
abbrev pub one_ctor : ℕ → ℕ → Bool
one_ctor kind last = eqb kind 2 || (eqb kind 3 && eqb last 1)

-- a record or a variant
abbrev pub has_ctors : ℕ → Bool
has_ctors kind = eqb kind 2 || eqb kind 3

-- an import's layout that is not erased
abbrev pub good_layout : ℕ → ℕ → ℕ → ℕ → Bool
good_layout layout kind last kept =
    eqb layout 1 ⇒ one_ctor kind last && eqb kept 1 ∥
    eqb layout 2 ⇒ has_ctors kind ∥
    eqb layout 3 ⇒ eqb kind 1 ∥
    eqb layout 4 ⇒ eqb kind 0 ∥
    false

-- the V line of a local declaration
abbrev pub no_verdict : Line → Bool
no_verdict v = eqb (number v 0) 0 && eqb (number v 1) 0 && eqb (number v 2) 0
