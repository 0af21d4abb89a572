-- What the cells of a name say of its constructor: how many fields are declared, and its owner. Assumes nothing.
use Rattle.std.specs.Prelude.{◌≡◌, List, [], ◌∷◌, Bool, ℕ, zero, suc, ◌<◌, eqb, get_or}
use Rattle.std.proofs.Math.Option.{Option, none, some}
use Rattle.sheet.specs.Line.{Line}
use Rattle.model.specs.Decl.{CtorLayout}
use Rattle.model.specs.Run.{layout_of_decl}
use Rattle.model_patterns.specs.Pat.{Owner}
use Rattle.meaning.specs.Program.{program}
use Rattle.meaning_patterns.specs.Patterns.{declared_fields}
use Rattle.resolve_kids.specs.Params.{params_of}
use Rattle.keep_layouts.specs.Kept.{fields_by}
use Rattle.pattern_counts.specs.Counts.{field_mark}
use Rattle.pattern_ctors.specs.Sites.{Site}

-- the slots of the n F lines from line f on
unfoldable pub slots_by : List ℕ → ℕ → ℕ → List Bool
slots_by keep f zero = []
slots_by keep f (suc n) = eqb (get_or keep f 0) 1 ∷ slots_by keep (suc f) n

-- a constructor's layout, and an owner, without the tag, which patterns do not look at
abbrev pub untagged : CtorLayout → CtorLayout
untagged cl = record { cl_name = cl.cl_name; cl_tag = none; cl_slots = cl.cl_slots; cl_fields = cl.cl_fields }

abbrev pub untagged_owner : Option Owner → Option Owner
untagged_owner none = none
untagged_owner (some o) = some (record { layout = o.layout; ctor_layout = untagged o.ctor_layout })

-- the layout of a constructor named n with the k F lines from line f on, untagged
abbrev pub laid : List Line → List ℕ → List ℕ → ℕ → ℕ → ℕ → CtorLayout
laid ls keep ps n f k = record { cl_name = n; cl_tag = none; cl_slots = slots_by keep f k; cl_fields = fields_by ls keep ps f k }

-- by the first cell
unfoldable pub fields_told : ℕ → ℕ → Option ℕ
fields_told zero k = none
fields_told (suc d) k = some k

unfoldable pub owner_told : List Line → List ℕ → ℕ → ℕ → ℕ → ℕ → Option Owner
owner_told ls keep n zero f k = none
owner_told ls keep n (suc d) f k = some (record { layout = layout_of_decl (program ls) d; ctor_layout = laid ls keep (params_of ls d) n f k })

-- of a site
abbrev pub site_fields : Site → Option ℕ
site_fields s = fields_told s.owner s.count

abbrev pub site_owner : List Line → List ℕ → ℕ → Site → Option Owner
site_owner ls keep n s = owner_told ls keep n s.owner s.first s.count

-- ---- how many fields are declared of a name's constructor, plus one: 0 where no constructor has the name
unfoldable pub count_told : ℕ → ℕ → ℕ
count_told zero k = 0
count_told (suc d) k = suc k

-- of the first i names
pub record CountsTo (ls : List Line) (fields : List ℕ) (i : ℕ) : Type 0 where
  pub marks : (n : ℕ) → n < i → get_or fields n 0 ≡ field_mark (declared_fields (program ls) n)
