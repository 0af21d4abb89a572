-- Row 13 by two tables: how many fields are declared of each name, and how many parts each link's list has. Assumes nothing.
use Rattle.std.specs.Prelude.{◌≡◌, List, Bool, ◌&&◌, not, ℕ, suc, ◌-◌, ◌≤◌, ◌<◌, eqb, length, get_or}
use Rattle.std.proofs.Math.Option.{Option, none, some}
use Rattle.sheet.specs.Line.{Line}
use Rattle.model.specs.Decl.{Decl}
use Rattle.model_patterns.specs.Pat.{parts}
use Rattle.meaning_patterns.specs.Patterns.{kind_of, name_of, last_of, list_to, pieces, declared_fields}

-- 0 for no constructor, else the number of its fields plus one
abbrev pub field_mark : Option ℕ → ℕ
field_mark none = 0
field_mark (some n) = suc n

-- for each name the declared fields of the constructor of that name
pub record Fielded (ds : List Decl) (fields : List ℕ) : Type 0 where
  pub marks : (n : ℕ) → n < length fields → get_or fields n 0 ≡ field_mark (declared_fields ds n)

-- for each link to a line before line q the parts of the list that it ends, no more than there are lines up to its own
pub record PartCounts (qs : List Line) (q : ℕ) (ends : List ℕ) : Type 0 where
  pub size : length ends ≡ 257
  pub held : (k : ℕ) → k ≤ q → get_or ends k 0 ≡ parts (list_to (pieces qs) k)
  pub few : (k : ℕ) → k ≤ q → get_or ends k 0 ≤ k

-- row 13 for a line, by the tables
abbrev pub miscounted : List ℕ → List ℕ → Line → Bool
miscounted fields ends l =
    eqb (kind_of l) 3 && (not (eqb (get_or fields (name_of l) 0) 0) && not (eqb (get_or ends (last_of l) 0) (get_or fields (name_of l) 0 - 1)))
