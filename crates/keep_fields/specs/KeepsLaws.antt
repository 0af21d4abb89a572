-- The slots of a declaration by its F lines. Assumes nothing.
use Rattle.std.specs.Prelude.{◌≡◌, Bool, ℕ, zero, suc, ◌+◌, ◌-◌, ◌≤◌, ◌<◌, get_or, set}
use Rattle.std.proofs.Math.Path.{refl, ap, ap₂, sym}
use Rattle.std.proofs.Common.{◌∙◌, arith, length-set, get_or-set_same, get_or-set_other}
use mathlib.Core.List.{List, [], ◌∷◌, ◌++◌, map, append-nil}
use Rattle.std.proofs.Math.Bool.{true, false, not}
use Rattle.std.proofs.Math.Option.{Option}
use Rattle.std.proofs.Math.Dec.{eqb}
use Rattle.std.proofs.Math.ListN.{length, length-map}
use borrow.Author.Tests.{eqb-true, eqb-false}
use Rattle.number_columns.specs.Column.{◌⇒◌∥◌}
use Rattle.sheet.specs.Line.{Line, bad, number}
use Rattle.sheet.proofs.ListLaws.{length_nil}
use Rattle.model.specs.Cty.{Cty}
use Rattle.model.specs.Decl.{table, Ctor, TAbstract, TAbbrev, TRecord, TVariant, ctors_of, close_field, close_body, close_fields, bit}
use Rattle.model.specs.Erasure.{cty_erased, marked, erasure_fixpoint}
use Rattle.model.specs.Layout.{layouts_of_ctors, slots, ctor_layout, ctor_layouts}
use Rattle.meaning.specs.Output.{all_slots}
use Rattle.meaning.specs.Program.{type_line, param_line, ctor_line, field_line, import_line, is, select, before, Group, groups, trees, type_at, field_of, ctor_of, body_of, dtype_of, keeps, keeps_of, ctor_layouts_by, info_of, program}
use Rattle.meaning.specs.Rows.{count_of}
use Rattle.model_laws.specs.Lists.{get_or_map}
use Rattle.meaning_laws.specs.Program.{Whole}
use Rattle.model_laws.specs.Rounds.{cases_eq}
use Rattle.table_declared.specs.Passed.{Passed}
use Rattle.table_access.specs.Tables.{nth, group, head_line, decls_of, first_of}
use Rattle.table_declared.specs.DeclLaws.{first_next, nth_in, dtype_is, origin_local, origin_import, whole_at}
use Rattle.table_declared.specs.BodyLaws.{close_erased, closed, fields_of, ctor_fields}
use Rattle.erasure_marks.specs.Marks.{type_erased}
use Rattle.erasure_laws.specs.Bodies.{field_type}
use Rattle.erasure_laws.specs.BodiesLaws.{first_rises}
use Rattle.keep_fields.specs.Keeps.{slots_of, slots_at, erased_at, Erased, field_kept, Kept, Slotted}

-- ---- slots of lines
module _ (er : ℕ → Bool) (ps : List ℕ) (ts : List Cty) where
  -- of F lines by their types
  local_slots : List Line → List Bool
  local_slots fl = map (λ l. not (cty_erased er (type_at ts (number l 1)))) fl

  slots_closed : (fl : List Line) → slots er (closed er ps ts fl) ≡ local_slots fl
  unfolding slots close_field field_of local_slots
  slots_closed [] = refl
  slots_closed (l ∷ fl) = ap₂ (λ (x : Bool) (r : List Bool). not x ∷ r) (close_erased er ps (type_at ts (number l 1))) (slots_closed fl)

  local_append : (a c : List Line) → local_slots (a ++ c) ≡ local_slots a ++ local_slots c
  unfolding local_slots
  local_append [] c = refl
  local_append (l ∷ a) c = ap (λ (r : List Bool). not (cty_erased er (type_at ts (number l 1))) ∷ r) (local_append a c)

  -- a constructor closed
  closed_ctor : Ctor → Ctor
  closed_ctor c = record { ct_name = c.ct_name; ct_fields = map (close_field ps) c.ct_fields }

  variant_slots : (tag : ℕ → Option ℕ) (gs : List Group) → all_slots (layouts_of_ctors er tag (map (λ c. record { ct_name = c.ct_name; ct_fields = map (close_field ps) c.ct_fields }) (map (ctor_of ts) gs))) ≡ local_slots (fields_of gs)
  unfolding table all_slots ctor_layout ctor_of fields_of local_slots
  variant_slots tag [] = refl
  variant_slots tag (g ∷ gs) =
      ap₂ ◌++◌ (slots_closed (select field_line g.rest)) (variant_slots (λ i. tag (suc i)) gs) ∙ sym (local_append (select field_line g.rest) (fields_of gs))

-- by their keep numbers
kept_slots : List Line → List Bool
kept_slots fl = map (λ l. not (eqb (number l 2) 0)) fl

kept_append : (a c : List Line) → kept_slots (a ++ c) ≡ kept_slots a ++ kept_slots c
unfolding kept_slots
kept_append [] c = refl
kept_append (l ∷ a) c = ap (λ (r : List Bool). not (eqb (number l 2) 0) ∷ r) (kept_append a c)

variant_keeps : (tag : ℕ → Option ℕ) (cs : List Ctor) (gs : List Group) → length cs ≡ length gs → all_slots (ctor_layouts_by tag cs (map (λ g. keeps g.rest) gs)) ≡ kept_slots (fields_of gs)
unfolding all_slots ctor_layouts_by ctor_layout keeps kept_slots fields_of
variant_keeps tag [] [] e = refl
variant_keeps tag [] (g ∷ gs) e = absurd (omega arith)
variant_keeps tag (c ∷ cs) [] e = absurd (omega arith)
variant_keeps tag (c ∷ cs) (g ∷ gs) e =
    ap (λ (r : List Bool). keeps g.rest ++ r) (variant_keeps (λ i. tag (suc i)) cs gs (omega arith)) ∙ sym (kept_append (select field_line g.rest) (fields_of gs))

-- ---- slots of a body
module _ (er : ℕ → Bool) (ps : List ℕ) (ts : List Cty) (n kind last : ℕ) (ls : List Line)
    (bare : kind ≤ 1 → count_of field_line ls ≡ 0) (over : kind ≤ 3) (ctors_first : kind ≡ 3 → select field_line (before (is ctor_line) ls) ≡ []) where
  none_there : kind ≤ 1 → select field_line ls ≡ []
  none_there h = length_nil (select field_line ls) (bare h)

  body_slots : (tag : ℕ → Option ℕ) → all_slots (layouts_of_ctors er tag (ctors_of n (close_body ps (body_of ts kind last ls)))) ≡ local_slots er ps ts (select field_line ls)
  unfolding table body_of close_body ctors_of all_slots ctor_layout local_slots
  body_slots tag = go (eqb kind 1) (eqb kind 2) (eqb kind 3) refl refl refl
    where
      go : (x y z : Bool) → eqb kind 1 ≡ x → eqb kind 2 ≡ y → eqb kind 3 ≡ z
          → all_slots (layouts_of_ctors er tag (ctors_of n (close_body ps (
          x ⇒ TAbbrev (type_at ts last) ∥
          y ⇒ TRecord (map (field_of ts) (select field_line ls)) ∥
          z ⇒ TVariant (map (ctor_of ts) (groups (is ctor_line) ls)) ∥
          TAbstract)))) ≡ local_slots er ps ts (select field_line ls)
      go true y z a c d = let e = eqb-true kind 1 a in rw (none_there (omega arith))
      go false true z a c d = append-nil (slots er (closed er ps ts (select field_line ls))) ∙ slots_closed er ps ts (select field_line ls)
      go false false true a c d = variant_slots er ps ts tag (groups (is ctor_line) ls) ∙ sym (ap (local_slots er ps ts) (ctor_fields ls (ctors_first (eqb-true kind 3 d))))
      go false false false a c d = let p = eqb-false kind 1 a in let q = eqb-false kind 2 c in let r = eqb-false kind 3 d in rw (none_there (omega arith))

  body_keeps : (tag : ℕ → Option ℕ) → all_slots (ctor_layouts_by tag (ctors_of n (close_body ps (body_of ts kind last ls))) (keeps_of (close_body ps (body_of ts kind last ls)) ls)) ≡ kept_slots (select field_line ls)
  unfolding body_of close_body ctors_of keeps_of ctor_layouts_by all_slots ctor_layout keeps kept_slots
  body_keeps tag = go (eqb kind 1) (eqb kind 2) (eqb kind 3) refl refl refl
    where
      go : (x y z : Bool) → eqb kind 1 ≡ x → eqb kind 2 ≡ y → eqb kind 3 ≡ z
          → all_slots (ctor_layouts_by tag (ctors_of n (close_body ps (
          x ⇒ TAbbrev (type_at ts last) ∥
          y ⇒ TRecord (map (field_of ts) (select field_line ls)) ∥
          z ⇒ TVariant (map (ctor_of ts) (groups (is ctor_line) ls)) ∥
          TAbstract))) (keeps_of (close_body ps (
          x ⇒ TAbbrev (type_at ts last) ∥
          y ⇒ TRecord (map (field_of ts) (select field_line ls)) ∥
          z ⇒ TVariant (map (ctor_of ts) (groups (is ctor_line) ls)) ∥
          TAbstract)) ls)) ≡ kept_slots (select field_line ls)
      go true y z a c d = let e = eqb-true kind 1 a in rw (none_there (omega arith))
      go false true z a c d = append-nil (keeps ls)
      go false false true a c d =
          variant_keeps tag (map (λ c. record { ct_name = c.ct_name; ct_fields = map (close_field ps) c.ct_fields }) (map (ctor_of ts) (groups (is ctor_line) ls))) (groups (is ctor_line) ls)
          (length-map (map (ctor_of ts) (groups (is ctor_line) ls)) (λ c. record { ct_name = c.ct_name; ct_fields = map (close_field ps) c.ct_fields }) ∙ length-map (groups (is ctor_line) ls) (ctor_of ts))
          ∙ sym (ap kept_slots (ctor_fields ls (ctors_first (eqb-true kind 3 d))))
      go false false false a c d = let p = eqb-false kind 1 a in let q = eqb-false kind 2 c in let r = eqb-false kind 3 d in rw (none_there (omega arith))

-- ---- slots of a declaration
module _ (ls : List Line) (p : Passed ls) (d : ℕ) (h : d < decls_of ls) where
  w : Whole (group ls d)
  w = whole_at ls p d h

  er : ℕ → Bool
  er = marked (program ls) (erasure_fixpoint (program ls)).marks

  ps : List ℕ
  ps = map (λ l. number l 0) (select param_line (group ls d).rest)

  fl : List Line
  fl = select field_line (group ls d).rest

  slots_here : is import_line (head_line ls d) ≡ false → slots_at (program ls) d ≡ local_slots er ps (trees ls) fl
  unfolding slots_of ctor_layouts close_fields dtype_of er ps fl
  slots_here e =
      rw (origin_local ls d h e, dtype_is ls d h)
      (body_slots er ps (trees ls) (number (head_line ls d) 0) (number (head_line ls d) 2) (number (head_line ls d) 4) (group ls d).rest (λ l. (w.bare l).0) w.kinds w.ctors_first _)

  slots_import : is import_line (head_line ls d) ≡ true → slots_at (program ls) d ≡ kept_slots fl
  unfolding slots_of info_of close_fields dtype_of fl ps
  slots_import e =
      rw (origin_import ls d h e)
      (body_keeps er ps (trees ls) (number (head_line ls d) 0) (number (head_line ls d) 2) (number (head_line ls d) 4) (group ls d).rest (λ l. (w.bare l).0) w.kinds w.ctors_first _)

  nth_field : (j : ℕ) → j < length fl → get_or fl j bad ≡ nth field_line ls (first_of field_line ls d + j)
  unfolding fl
  nth_field j l = sym (nth_in ls d h field_line refl refl j l)

  pub slots_length : length (slots_at (program ls) d) ≡ count_of field_line (group ls d).rest
  unfolding local_slots kept_slots fl
  slots_length = go (is import_line (head_line ls d)) refl
    where
      go : (c : Bool) → is import_line (head_line ls d) ≡ c → length (slots_at (program ls) d) ≡ count_of field_line (group ls d).rest
      go true e = ap length (slots_import e) ∙ length-map (select field_line (group ls d).rest) (λ l. not (eqb (number l 2) 0))
      go false e = ap length (slots_here e) ∙ length-map (select field_line (group ls d).rest) (λ l. not (cty_erased er (type_at (trees ls) (number l 1))))

  pub slot_is : (j : ℕ) → j < length (slots_at (program ls) d) → get_or (slots_at (program ls) d) j false ≡ field_kept ls (first_of field_line ls d + j) (is import_line (head_line ls d))
  unfolding local_slots kept_slots fl type_erased er
  slot_is j l = go (is import_line (head_line ls d)) refl
    where
      k : j < length (select field_line (group ls d).rest)
      k = omega (arith, slots_length)

      go : (c : Bool) → is import_line (head_line ls d) ≡ c → get_or (slots_at (program ls) d) j false ≡ field_kept ls (first_of field_line ls d + j) c
      go true e =
          ap (λ (r : List Bool). get_or r j false) (slots_import e)
          ∙ get_or_map (λ l. not (eqb (number l 2) 0)) fl j false bad k
          ∙ ap (λ (m : Line). not (eqb (number m 2) 0)) (nth_field j k)
      go false e =
          ap (λ (r : List Bool). get_or r j false) (slots_here e)
          ∙ get_or_map (λ l. not (cty_erased er (type_at (trees ls) (number l 1)))) fl j false bad k
          ∙ ap (λ (m : Line). not (cty_erased er (type_at (trees ls) (number m 1)))) (nth_field j k)

-- ---- the table
not_bit : (v : Bool) → eqb (bit v) 0 ≡ not v
not_bit true = refl
not_bit false = refl

pub kept_local : (ls : List Line) (node : List ℕ) (f : ℕ) → Erased ls node → field_type ls f < count_of type_line ls → eqb (get_or node (field_type ls f) 0) 0 ≡ field_kept ls f false
kept_local ls node f e h = ap (λ (x : ℕ). eqb x 0) (e.marks (field_type ls f) h) ∙ not_bit (erased_at ls (field_type ls f))

first_up : (ls : List Line) (a k : ℕ) → a + k ≤ decls_of ls → first_of field_line ls a ≤ first_of field_line ls (a + k)
first_up ls a zero h = let e : a + 0 ≡ a = omega arith in rw e (omega arith)
first_up ls a (suc k) h =
    let e : a + suc k ≡ suc (a + k) = omega arith in
    let r = first_rises ls (a + k) (omega arith) in
    rw e (omega (arith, first_up ls a k (omega arith)))

-- the fields of an earlier declaration come before
pub first_mono : (ls : List Line) (e d : ℕ) → e < d → d ≤ decls_of ls → first_of field_line ls (suc e) ≤ first_of field_line ls d
first_mono ls e d h l = let z : suc e + (d - suc e) ≡ d = omega arith in rw z at (first_up ls (suc e) (d - suc e) (omega arith))

-- the fields of declaration d up to field f, beside those of the declarations before it
pub record Partly (ls : List Line) (keep : List ℕ) (d f : ℕ) : Type 0 where
  pub before : Kept ls keep d
  pub here : (i : ℕ) → first_of field_line ls d ≤ i → i < f → get_or keep i 0 ≡ bit (field_kept ls i (is import_line (head_line ls d)))

pub partly_none : (ls : List Line) (keep : List ℕ) (d : ℕ) → Kept ls keep d → Partly ls keep d (first_of field_line ls d)
partly_none ls keep d k = record { before = k; here = λ i l h. absurd (omega arith) }

pub partly_next : (ls : List Line) (keep : List ℕ) (d f x : ℕ) → d < decls_of ls → first_of field_line ls d ≤ f → f < length keep → x ≡ bit (field_kept ls f (is import_line (head_line ls d))) → Partly ls keep d f → Partly ls (set keep f x) d (f + 1)
partly_next ls keep d f x h lo l e q =
    record {
      before =
          record {
            size = rw length-set q.before.size;
            fields = λ g a c i o z. let m = first_mono ls g d a (omega arith) in get_or-set_other keep f i x 0 (λ y. omega arith) ∙ q.before.fields g a c i o z;
          };
      here = λ i o z. cases_eq i f (λ y. rw y (get_or-set_same keep f x 0 l ∙ e)) (λ y. get_or-set_other keep f i x 0 y ∙ q.here i o (omega arith));
    }

pub partly_all : (ls : List Line) (keep : List ℕ) (d f : ℕ) → first_of field_line ls (suc d) ≤ f → Partly ls keep d f → Kept ls keep (suc d)
partly_all ls keep d f h q =
    record {
      size = q.before.size;
      fields = λ g a c i o z. cases_eq g d (λ y. go g i y o z) (λ y. q.before.fields g (omega arith) c i o z);
    }
  where
    go : (g i : ℕ) → g ≡ d → first_of field_line ls g ≤ i → i < first_of field_line ls (suc g) → get_or keep i 0 ≡ bit (field_kept ls i (is import_line (head_line ls g)))
    go g i y o z = rw y (q.here i (rw y at o) (let m : i < first_of field_line ls (suc d) = rw y at z in omega arith))

pub kept_none : (ls : List Line) (keep : List ℕ) → count_of field_line ls ≤ length keep → Kept ls keep 0
kept_none ls keep h = record { size = h; fields = λ d a. absurd (omega arith) }

pub kept_slotted : (ls : List Line) → Passed ls → (keep : List ℕ) → Kept ls keep (decls_of ls) → Slotted ls keep
kept_slotted ls p keep k =
    record {
      sized = λ d h. rw (slots_length ls p d h) (sym (first_next ls d h field_line refl refl));
      slots = λ d h j l.
          k.fields d h h (first_of field_line ls d + j) (omega arith) (omega (arith, slots_length ls p d h, first_next ls d h field_line refl refl))
          ∙ ap bit (sym (slot_is ls p d h j l));
    }
