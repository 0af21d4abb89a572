-- What row 13 gives: where it holds at no line, every constructor in the pattern that has an owner has a part for each of
-- its slots, if the owners' slots are the declared fields; and the owners of a program's verdicts are such. Assumes nothing.
use Rattle.std.specs.Prelude.{◌≡◌, refl, List, [], ◌∷◌, Bool, eqb, length, get_or}
use Rattle.std.proofs.Common.{sym, ap, ap₂, ◌∙◌, arith, eqb-true, eq-eqb}
use Rattle.std.proofs.Math.Bool.{true, false}
use Rattle.std.proofs.Math.Option.{Option, none, some}
use Prim.Native.Nat.{ℕ, zero, suc, ◌-◌, ◌≤◌, ◌<◌}
use Rattle.std.proofs.lemmas.List.{length-map}
use Rattle.std.proofs.lemmas.Bool.{not-false}
use Rattle.number_columns.specs.Column.{pick, ◌⇒◌∥◌}
use Rattle.sheet.specs.Line.{Line}
use Rattle.model.specs.Decl.{Ctor, ctors_of_tydef, CtorLayout, L_opaque, TypeInfo, Origin, here, imported, Decl, dtype_at, origin_at, table}
use Rattle.model.specs.Erasure.{marked, erasure_fixpoint}
use Rattle.model.specs.Layout.{slots, ctor_layout, layouts_of_ctors, ctor_layouts}
use Rattle.model.specs.Run.{run, info_at}
use Rattle.model_laws.specs.Run.{get_or_infos, length_infos, local_info, import_info}
use Rattle.model_patterns.specs.Pat.{Pat, Pats, PWild, PVar, PConst, PCtor, PRecord, PTuple, POr, no_parts, part, parts, Owner, find_ctor, owned, ctor_owner, Slots, Counted, Counteds}
use Rattle.meaning.specs.Rows.{nth_line}
use Rattle.meaning_patterns.specs.Patterns.{kind_of, name_of, last_of, previous_of, field_of, no_piece, list_to, and_last, pattern_of, piece, pieces, pattern, fields_among, declared_fields, miscounts, row13}
use Rattle.pattern_laws.specs.Grown.{by_lines}
use Rattle.pattern_laws.proofs.Pieces.{piece_at}
use Rattle.pattern_laws.specs.Linked.{Linked}

-- ---- lines
module _ (owner : ℕ → Option Owner) where
  last_counted : (ps : Pats) (f : ℕ) (p : Pat) → Counteds owner ps → Counted owner p → Counteds owner (and_last ps f p)
  unfolding and_last
  last_counted no_parts f p h k = (k, tt)
  last_counted (part g q qs) f p h k = (h.0, last_counted qs f p h.1 k)

  pattern_counted : (kind n : ℕ) (ps : Pats) → (kind ≡ 3 → Slots (owner n) (parts ps)) → Counteds owner ps → Counted owner (pattern_of kind n ps)
  unfolding pattern_of
  pattern_counted kind n ps h k = by (eqb kind 1) (eqb kind 2) (eqb kind 3) (eqb kind 4) (eqb kind 5) (eqb kind 6) (eqb-true kind 3)
    where
      by : (a b c d e f : Bool) → (c ≡ true → kind ≡ 3)
          → Counted owner (a ⇒ PVar n ∥ b ⇒ PConst n ∥ c ⇒ PCtor n ps ∥ d ⇒ PRecord n ps ∥ e ⇒ PTuple ps ∥ f ⇒ POr ps ∥ PWild)
      by true b c d e f i = tt
      by false true c d e f i = tt
      by false false true d e f i = (h (i refl), k)
      by false false false true e f i = k
      by false false false false true f i = k
      by false false false false false true i = k
      by false false false false false false i = tt

  -- every line of kind 3 has a part for each slot of its constructor
  abbrev pub SlotsAt : List Line → Type 0
  SlotsAt qs =
      (q : ℕ) → q < length qs → kind_of (nth_line qs q) ≡ 3 → Slots (owner (name_of (nth_line qs q))) (parts (list_to (pieces qs) (last_of (nth_line qs q))))

  module _ (qs : List Line) (linked : Linked qs) (slotted : SlotsAt qs) where
    record CountedAt (q : ℕ) : Type 0 where
      pat : Counted owner (get_or (pieces qs) q no_piece).pat
      list : Counteds owner (get_or (pieces qs) q no_piece).list

    link_counted : (q : ℕ) → ((j : ℕ) → j < q → CountedAt j) → (k : ℕ) → k ≤ q → Counteds owner (list_to (pieces qs) k)
    unfolding list_to
    link_counted q d zero h = tt
    link_counted q d (suc k) h = (d k h).list

    counted_at : (q : ℕ) → q < length qs → ((j : ℕ) → j < q → CountedAt j) → CountedAt q
    unfolding piece
    counted_at q h d = record { pat = rw at_q whole; list = rw at_q (last_counted (list_to (pieces qs) (previous_of l)) (field_of l) p (link_counted q d (previous_of l) (linked.previous q h)) whole) }
      where
        l : Line
        l = nth_line qs q

        ps : Pats
        ps = list_to (pieces qs) (last_of l)

        p : Pat
        p = pattern_of (kind_of l) (name_of l) ps

        at_q : get_or (pieces qs) q no_piece ≡ piece (pieces qs) l
        at_q = piece_at qs q h (linked.last q h) (linked.previous q h)

        whole : Counted owner p
        whole = pattern_counted (kind_of l) (name_of l) ps (slotted q h) (link_counted q d (last_of l) (linked.last q h))

    pub pattern_is_counted : 0 < length qs → Counted owner (pattern qs)
    unfolding pattern
    pattern_is_counted h = (by_lines CountedAt (length qs) counted_at (length qs - 1) (omega arith)).pat

-- ---- row 13
abbrev pub slots_count : Option Owner → Option ℕ
slots_count none = none
slots_count (some o) = some (length o.ctor_layout.cl_slots)

-- the owners are those of the declared constructors, with a slot for each field
abbrev pub Fielded : List Decl → (ℕ → Option Owner) → Type 0
Fielded ds owner = (n : ℕ) → declared_fields ds n ≡ slots_count (owner n)

counts_right : (o : Option Owner) (k : ℕ) → miscounts (slots_count o) k ≡ false → Slots o k
counts_right none k e = tt
counts_right (some o) k e = eqb-true k (length o.ctor_layout.cl_slots) (not-false (eqb k (length o.ctor_layout.cl_slots)) e)

slots_at : (ds : List Decl) (owner : ℕ → Option Owner) (qs : List Line) → Fielded ds owner → ((q : ℕ) → q < length qs → row13 ds qs q ≡ false) → SlotsAt owner qs
unfolding row13
slots_at ds owner qs f r q h e =
    counts_right (owner n) k (ap (λ (o : Option ℕ). miscounts o k) (sym (f n)) ∙ (rw (eq-eqb (kind_of l) 3 e, row13) at (r q h)))
  where
    l : Line
    l = nth_line qs q

    n : ℕ
    n = name_of l

    k : ℕ
    k = parts (list_to (pieces qs) (last_of l))

pub counted_is : (ds : List Decl) (owner : ℕ → Option Owner) (qs : List Line) → Fielded ds owner → Linked qs
    → ((q : ℕ) → q < length qs → row13 ds qs q ≡ false) → 0 < length qs → Counted owner (pattern qs)
counted_is ds owner qs f linked r = pattern_is_counted owner qs linked (slots_at ds owner qs f r)

-- ---- the owners of a program
-- constructors' layouts that have the constructors' names, and a slot for each field
abbrev pub Matching : List Ctor → List CtorLayout → Type 0
Matching [] [] = Unit {0}
Matching [] (cl ∷ cls) = ⊥
Matching (c ∷ cs) [] = ⊥
Matching (c ∷ cs) (cl ∷ cls) = (cl.cl_name ≡ c.ct_name) × ((length cl.cl_slots ≡ length c.ct_fields) × Matching cs cls)

abbrev Aligned : List Decl → List TypeInfo → Type 0
Aligned [] [] = Unit {0}
Aligned [] (ti ∷ tis) = ⊥
Aligned (d ∷ ds) [] = ⊥
Aligned (d ∷ ds) (ti ∷ tis) = Matching (ctors_of_tydef d.dtype) ti.ti_ctors × Aligned ds tis

abbrev among : Option CtorLayout → Option ℕ → Option ℕ
among none o = o
among (some cl) o = some (length cl.cl_slots)

matching_fields : (cs : List Ctor) (cls : List CtorLayout) (n : ℕ) (o : Option ℕ) → Matching cs cls → fields_among cs n o ≡ among (find_ctor cls n) o
unfolding fields_among find_ctor
matching_fields [] [] n o m = refl
matching_fields [] (cl ∷ cls) n o m = absurd m
matching_fields (c ∷ cs) [] n o m = absurd m
matching_fields (c ∷ cs) (cl ∷ cls) n o m =
    ap₂ (λ (a k : ℕ). pick (eqb a n) (some k) (fields_among cs n o)) (sym m.0) (sym m.1.0) ∙ by (eqb cl.cl_name n) (matching_fields cs cls n o m.1.1)
  where
    by : (b : Bool) → fields_among cs n o ≡ among (find_ctor cls n) o
        → pick b (some (length cl.cl_slots)) (fields_among cs n o) ≡ among (pick b (some cl) (find_ctor cls n)) o
    by true e = refl
    by false e = e

aligned_fields : (ds : List Decl) (tis : List TypeInfo) → Aligned ds tis → Fielded ds (ctor_owner tis)
unfolding declared_fields ctor_owner owned
aligned_fields [] [] a n = refl
aligned_fields [] (ti ∷ tis) a n = absurd a
aligned_fields (d ∷ ds) [] a n = absurd a
aligned_fields (d ∷ ds) (ti ∷ tis) a n =
    matching_fields (ctors_of_tydef d.dtype) ti.ti_ctors n (declared_fields ds n) a.0
    ∙ ap (among (find_ctor ti.ti_ctors n)) (aligned_fields ds tis a.1 n)
    ∙ by (find_ctor ti.ti_ctors n)
  where
    by : (c : Option CtorLayout) → among c (slots_count (ctor_owner tis n)) ≡ slots_count (owned ti.ti_layout c (ctor_owner tis n))
    by none = refl
    by (some cl) = refl

-- what a declaration's own layouts are
layouts_matching : (er : ℕ → Bool) (tag : ℕ → Option ℕ) (cs : List Ctor) → Matching cs (layouts_of_ctors er tag cs)
unfolding table ctor_layout slots
layouts_matching er tag [] = tt
layouts_matching er tag (c ∷ cs) = (refl, (length-map c.ct_fields _, layouts_matching er (λ i. tag (suc i)) cs))

abbrev no_info : TypeInfo
no_info = record { ti_erased = false; ti_layout = L_opaque; ti_ctors = []; ti_record = false }

aligned_at : (ds : List Decl) (tis : List TypeInfo) → length tis ≡ length ds
    → ((i : ℕ) → i < length ds → Matching (ctors_of_tydef (dtype_at ds i)) (get_or tis i no_info).ti_ctors) → Aligned ds tis
aligned_at [] [] e f = tt
aligned_at [] (ti ∷ tis) e f = absurd (omega arith)
aligned_at (d ∷ ds) [] e f = absurd (omega arith)
aligned_at (d ∷ ds) (ti ∷ tis) e f = (f 0 (omega arith), aligned_at ds tis (omega arith) (λ i h. f (suc i) (omega arith)))

-- The verdicts that `run` gives make such a table if those of the imports match their declarations.
pub run_fielded : (fuel : ℕ) (ds : List Decl)
    → ((i : ℕ) (ti : TypeInfo) → i < length ds → origin_at ds i ≡ imported ti → Matching (ctors_of_tydef (dtype_at ds i)) ti.ti_ctors)
    → Fielded ds (ctor_owner (run fuel ds).infos)
unfolding ctor_layouts
run_fielded fuel ds h =
    aligned_fields ds (run fuel ds).infos (aligned_at ds (run fuel ds).infos (length_infos fuel ds) (λ i l. rw (get_or_infos fuel ds i no_info l) (by i l (origin_at ds i) refl)))
  where
    by : (i : ℕ) → i < length ds → (o : Origin) → origin_at ds i ≡ o → Matching (ctors_of_tydef (dtype_at ds i)) (info_at fuel ds i).ti_ctors
    by i l (imported ti) e = rw (import_info fuel ds i ti e) (h i ti l e)
    by i l here e = rw (local_info fuel ds i e) (layouts_matching (marked ds (erasure_fixpoint ds).marks) _ (ctors_of_tydef (dtype_at ds i)))
