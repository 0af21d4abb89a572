-- What a pattern reads of a program: the declared types, and the verdicts. Assumes nothing.
use Rattle.std.specs.Prelude.{◌≡◌, refl, List, [], ◌∷◌, map, true, false, ℕ, suc, eqb, length}
use Rattle.std.proofs.Common.{ap, ap₂, sym, ◌∙◌, arith}
use Rattle.std.proofs.Math.Option.{Option, none}
use Rattle.number_columns.specs.Column.{pick}
use Rattle.sheet.specs.Format.{Format}
use Rattle.sheet.specs.Line.{Line}
use Rattle.model.specs.Decl.{Dtype, Decl, TypeInfo, ctors_of_tydef, position}
use Rattle.model.specs.Names.{pins}
use Rattle.model.specs.Run.{run}
use Rattle.model_patterns.specs.Pat.{Pat, parts, ctor_owner, nth_layout, type_layout, rewritten}
use Rattle.model_patterns.proofs.Laws.Local.{pattern_local}
use Rattle.meaning.specs.Program.{program}
use Rattle.meaning.specs.Rows.{nth_line}
use Rattle.meaning_patterns.specs.Patterns.{kind_of, name_of, last_of, list_to, pieces, fields_among, declared_fields, miscounts, row13, rewritten_lines, pattern}
use Rattle.answer_patterns.specs.Whole.{following}

-- the declared types
abbrev pub types : List Decl → List Dtype
types = map (λ d. d.dtype)

unfoldable place : List Dtype → ℕ → ℕ
place [] n = 0
place (d ∷ ds) n = pick (eqb d.dt_name n) 0 (suc (place ds n))

position_place : (ds : List Decl) (n : ℕ) → position ds n ≡ place (types ds) n
unfolding position place
position_place [] n = refl
position_place (d ∷ ds) n = rw (position_place ds n) refl

pub position_types : (ds es : List Decl) → types ds ≡ types es → (n : ℕ) → position ds n ≡ position es n
position_types ds es e n = position_place ds n ∙ (ap (λ (ts : List Dtype). place ts n) e ∙ sym (position_place es n))

unfoldable fields_in : List Dtype → ℕ → Option ℕ
fields_in [] n = none
fields_in (d ∷ ds) n = fields_among (ctors_of_tydef d) n (fields_in ds n)

fields_place : (ds : List Decl) (n : ℕ) → declared_fields ds n ≡ fields_in (types ds) n
unfolding declared_fields fields_in
fields_place [] n = refl
fields_place (d ∷ ds) n = ap (fields_among (ctors_of_tydef d.dtype) n) (fields_place ds n)

pub fields_types : (ds es : List Decl) → types ds ≡ types es → (n : ℕ) → declared_fields ds n ≡ declared_fields es n
fields_types ds es e n = fields_place ds n ∙ (ap (λ (ts : List Dtype). fields_in ts n) e ∙ sym (fields_place es n))

-- an import has its declaration's types
pub types_pins : (ds : List Decl) (tis : List TypeInfo) → length tis ≡ length ds → types (pins ds tis) ≡ types ds
unfolding pins
types_pins [] tis h = refl
types_pins (d ∷ ds) [] h = absurd (omega arith)
types_pins (d ∷ ds) (ti ∷ tis) h = ap (λ (r : List Dtype). d.dtype ∷ r) (types_pins ds tis (omega arith))

-- row 13 reads the types alone
pub row13_types : (ds es : List Decl) → types ds ≡ types es → (qs : List Line) (q : ℕ) → row13 ds qs q ≡ row13 es qs q
unfolding row13
row13_types ds es e qs q =
    ap (λ (o : Option ℕ). elim (eqb (kind_of (nth_line qs q)) 3) [ true ↦ miscounts o (parts (list_to (pieces qs) (last_of (nth_line qs q)))) | false ↦ false ])
    (fields_types ds es e (name_of (nth_line qs q)))

-- and the rewriting the types and the verdicts
pub rewritten_types : (fuel : ℕ) (ds es : List Decl) → types ds ≡ types es → (run fuel ds).infos ≡ (run fuel es).infos → (p : Pat) → rewritten fuel ds p ≡ rewritten fuel es p
unfolding rewritten type_layout
rewritten_types fuel ds es e i p =
    pattern_local (ctor_owner (run fuel ds).infos) (ctor_owner (run fuel es).infos) (type_layout ds (run fuel ds).infos) (type_layout es (run fuel es).infos) p
    (λ n m. ap (λ (tis : List TypeInfo). ctor_owner tis n) i)
    (λ n m. ap₂ (λ (tis : List TypeInfo) (k : ℕ). nth_layout tis k) i (position_types ds es e n))

pub following_types : (f : Format) (ls ms qs : List Line) → types (program ls) ≡ types (program ms) → (run f.fuel (program ls)).infos ≡ (run f.fuel (program ms)).infos → following f ls qs ≡ following f ms qs
unfolding following
following_types f ls ms [] e i = refl
following_types f ls ms (q ∷ qs) e i = ap rewritten_lines (rewritten_types f.fuel (program ls) (program ms) e i (pattern (q ∷ qs)))
