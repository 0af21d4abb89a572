-- The marks and flags of Q lines by the tables of types, as the code computes them: the mark of a line by its kind and name
-- alone; the flag of a part by the line that owns it, the part's own field, and the fields of the parts before it in its
-- list. Owners are found from the last line down, all else goes up. Assumes nothing.
use Rattle.std.specs.Prelude.{List, [], ◌∷◌, map, Bool, true, false, ◌||◌, ℕ, zero, suc, eqb, length, get_or, set, replicate}
use Rattle.std.proofs.Math.Option.{Option, none, some}
use Rattle.number_columns.specs.Column.{pick, ◌⇒◌∥◌}
use Rattle.sheet.specs.Line.{Line}
use Rattle.model.specs.Decl.{CtorLayout, Layout, L_erased, L_newtype, L_struct, L_abbrev, L_opaque, table}
use Rattle.model_patterns.specs.Pat.{part_fields, named, names_one, Owner}
use Rattle.meaning.specs.Rows.{nth_line}
use Rattle.meaning_patterns.specs.Patterns.{kind_of, name_of, last_of, previous_of, field_of, list_to, pieces}
use Rattle.pattern_laws.specs.Made.{wild_mark, own_mark, part_mark, dropped_flag, kept_flag, lost_flag}

-- ---- marks
-- Of a newtype the part that is kept stands for it: where none is kept, that is a wild card.
abbrev pub layout_mark : Layout → ℕ
layout_mark L_erased = wild_mark
layout_mark (L_newtype nt) = part_mark
layout_mark (L_struct cls) = own_mark
layout_mark (L_abbrev c) = own_mark
layout_mark L_opaque = own_mark

unfoldable pub ctor_mark : Option Owner → ℕ
ctor_mark none = own_mark
ctor_mark (some o) = layout_mark o.layout

unfoldable pub record_mark : Option Layout → ℕ
record_mark none = own_mark
record_mark (some l) = layout_mark l

-- ---- flags
abbrev pub kept_if : Bool → ℕ
kept_if b = pick b kept_flag dropped_flag

-- whether a part of these fields has the number f
unfoldable pub has_field : ℕ → List ℕ → Bool
has_field f [] = false
has_field f (g ∷ gs) = eqb g f || has_field f gs

-- A part of a constructor, where fs are the fields of the parts before it: by its place. Parts past the last slot are kept.
abbrev pub layout_flag : Layout → CtorLayout → List ℕ → ℕ
layout_flag L_erased cl fs = dropped_flag
layout_flag (L_newtype nt) cl fs = kept_if (eqb (length fs) nt.nt_index)
layout_flag (L_struct cls) cl fs = kept_if (get_or cl.cl_slots (length fs) true)
layout_flag (L_abbrev c) cl fs = kept_if (get_or cl.cl_slots (length fs) true)
layout_flag L_opaque cl fs = kept_if (get_or cl.cl_slots (length fs) true)

unfoldable pub ctor_flag : Option Owner → List ℕ → ℕ
ctor_flag none fs = kept_flag
ctor_flag (some o) fs = layout_flag o.layout o.ctor_layout fs

-- A part of a record with this field: by its name. Of a newtype's kept field the first part is kept, and others are lost.
abbrev pub newtype_flag : ℕ → List ℕ → ℕ → ℕ
newtype_flag g fs f = named g f ⇒ pick (has_field (suc g) fs) lost_flag kept_flag ∥ dropped_flag

unfoldable pub record_flag : Option Layout → List ℕ → ℕ → ℕ
record_flag none fs f = kept_flag
record_flag (some L_erased) fs f = dropped_flag
record_flag (some (L_newtype nt)) fs f = newtype_flag nt.nt_field fs f
record_flag (some (L_struct [])) fs f = kept_flag
record_flag (some (L_struct (cl ∷ []))) fs f = kept_if (names_one cl.cl_fields f)
record_flag (some (L_struct (cl ∷ cm ∷ cls))) fs f = kept_flag
record_flag (some (L_abbrev c)) fs f = kept_flag
record_flag (some L_opaque) fs f = kept_flag

-- ---- owners
unfoldable pub claim : List ℕ → ℕ → ℕ → List ℕ
claim os zero v = os
claim os (suc k) v = set os k v

-- Line q owns its last part, and the part before line q has line q's owner: a line's number plus one, or 0 for none. From
-- line n - 1 down.
unfoldable pub owners_from : List Line → ℕ → List ℕ → List ℕ
owners_from qs zero os = os
owners_from qs (suc q) os =
    owners_from qs q (claim (claim os (last_of (nth_line qs q)) (suc q)) (previous_of (nth_line qs q)) (get_or os q 0))

unfoldable pub owners_of : List Line → List ℕ
owners_of qs = owners_from qs (length qs) (replicate (length qs) 0)

-- the fields of the parts of the list that a link ends
abbrev pub fields_to : List Line → ℕ → List ℕ
fields_to qs k = part_fields (list_to (pieces qs) k)

module _ (owner : ℕ → Option Owner) (layout : ℕ → Option Layout) where
  -- by the kind and the name of a line
  unfoldable pub mark_of : ℕ → ℕ → ℕ
  mark_of kind n = eqb kind 3 ⇒ ctor_mark (owner n) ∥ eqb kind 4 ⇒ record_mark (layout n) ∥ own_mark

  -- by the kind and the name of the line that owns the part
  unfoldable pub flag_of : ℕ → ℕ → List ℕ → ℕ → ℕ
  flag_of kind n fs f = eqb kind 3 ⇒ ctor_flag (owner n) fs ∥ eqb kind 4 ⇒ record_flag (layout n) fs f ∥ kept_flag

  -- by its owner, or none
  unfoldable pub flag_by : List Line → ℕ → List ℕ → ℕ → ℕ
  flag_by qs zero fs f = dropped_flag
  flag_by qs (suc o) fs f = flag_of (kind_of (nth_line qs o)) (name_of (nth_line qs o)) fs f

  unfoldable pub flag_at : List Line → List ℕ → ℕ → ℕ
  flag_at qs os q = flag_by qs (get_or os q 0) (fields_to qs (previous_of (nth_line qs q))) (field_of (nth_line qs q))

  -- one for each line
  unfoldable pub marks_of : List Line → List ℕ
  marks_of qs = map (λ l. mark_of (kind_of l) (name_of l)) qs

  unfoldable pub flags_of : List Line → List ℕ
  flags_of qs = table (flag_at qs (owners_of qs)) (length qs)
