-- The cells of constructors say what `declared_fields` and `ctor_owner` find. Assumes nothing.
use Rattle.std.specs.Prelude.{◌≡◌, get_or, set, drop}
use Rattle.std.proofs.Math.Path.{refl, ap, ap₂, sym}
use Rattle.std.proofs.Common.{◌∙◌, length-append, length-drop, drop-cons, get_or-append-add, get_or-set_same, get_or-set_other}
use mathlib.Core.List.{List, [], ◌∷◌, ◌++◌, map}
use Rattle.std.proofs.Math.Bool.{Bool, true, false}
use Rattle.std.proofs.Math.Option.{Option, none, some}
use Prim.Native.Nat.{ℕ, zero, suc, ◌+◌, ◌*◌, ◌≤◌, ◌<◌}
use native.Mathlib.Omega.{arith}
use Rattle.std.proofs.Math.Dec.{eqb}
use Rattle.std.proofs.Math.ListN.{length, get_or-append}
use Rattle.std.proofs.lemmas.List.{length-map}
use borrow.Author.Tests.{eqb-true}
use Rattle.number_columns.specs.Column.{pick, ◌⇒◌∥◌}
use Rattle.sheet.specs.Line.{Line, bad, number}
use Rattle.sheet.proofs.ListLaws.{length_nil}
use Rattle.model.specs.Cty.{Cty}
use Rattle.model.specs.Decl.{table, Field, Ctor, TAbstract, TAbbrev, TRecord, TVariant, CtorLayout, L_opaque, TypeInfo, Origin, here, imported, no_decl, dtype_at, origin_at, ctors_of, ctors_of_tydef, close_field, close_body, close_fields, bit}
use Rattle.model.specs.Erasure.{marked, erasure_fixpoint}
use Rattle.model.specs.Layout.{ctor_tag, slots, ctor_layout, layouts_of_ctors, ctor_layouts}
use Rattle.model.specs.Run.{run, layout_of_decl, info_at}
use Rattle.model_laws.specs.Rounds.{cases_eq}
use Rattle.model_laws.specs.Run.{get_or_infos, length_infos, local_info, import_info, import_layout}
use Rattle.model_patterns.specs.Pat.{Owner, find_ctor, owned, ctor_owner}
use Rattle.meaning.specs.Output.{all_slots}
use Rattle.meaning.specs.Program.{name_line, ctor_line, field_line, import_line, is, select, before, Group, groups, trees, type_at, field_of, ctor_of, body_of, dtype_of, keeps, keeps_of, tags, ctor_layouts_by, info_of, program}
use Rattle.meaning.specs.Rows.{count_of}
use Rattle.meaning_laws.specs.Program.{Whole, AllCounted, length_groups_of, length_program}
use Rattle.meaning_patterns.specs.Patterns.{fields_among, declared_fields}
use Rattle.table_declared.specs.Passed.{Passed}
use Rattle.table_declared.specs.DeclLaws.{nth_in, dtype_is, origin_local, origin_import, whole_at}
use Rattle.table_access.specs.Tables.{nth, group, head_line, decls_of, first_of}
use Rattle.resolve_kids.specs.Params.{params_of}
use Rattle.keep_fields.specs.Keeps.{slots_at, Slotted}
use Rattle.keep_layouts.specs.Kept.{ctors_of_decl, ctors_at, kept_ctor, body_kind, body_last, ctor_name, ctor_fields, fields_by, ctors_by}
use Rattle.keep_laws.specs.KeptLaws.{slots_are, kept_record, kept_variant, ctors_are}
use Rattle.pattern_ctors.specs.Sites.{Site, site_at, site_among, site_in, site_after, site_of, Sited}
use Rattle.pattern_counts.specs.Counts.{field_mark}
use Rattle.pattern_ctors.specs.Owners.{count_told, CountsTo, untagged, untagged_owner, slots_by, laid, fields_told, owner_told, site_fields, site_owner}

drop_none : {A : Type 0} (xs : List A) (n : ℕ) → length xs ≤ n → drop n xs ≡ []
drop_none xs n h = length_nil (drop n xs) (length-drop n xs ∙ omega arith)

-- ---- names and widths of constructors
-- a constructor's name, and how many fields it has
pub record Shape : Type 0 where
  pub name : ℕ
  pub width : ℕ

abbrev shape_of : Ctor → Shape
shape_of c = record { name = c.ct_name; width = length c.ct_fields }

abbrev slot_shape : CtorLayout → Shape
slot_shape cl = record { name = cl.cl_name; width = length cl.cl_slots }

-- of the k C lines from line c on, and of a declaration
unfoldable shapes_by : List Line → ℕ → ℕ → List Shape
shapes_by ls c zero = []
shapes_by ls c (suc k) = record { name = ctor_name ls c; width = ctor_fields ls c } ∷ shapes_by ls (suc c) k

unfoldable shapes_at : List Line → ℕ → List Shape
shapes_at ls d =
    eqb (body_kind ls d) 2 ⇒ record { name = number (head_line ls d) 0; width = body_last ls d } ∷ [] ∥
    eqb (body_kind ls d) 3 ⇒ shapes_by ls (first_of ctor_line ls d) (body_last ls d) ∥
    []

-- ---- those of a declaration are those of its lines
abbrev closed_ctor : List ℕ → Ctor → Ctor
closed_ctor ps c = record { ct_name = c.ct_name; ct_fields = map (close_field ps) c.ct_fields }

-- a constructor has a field for each of its F lines
fields_counted : (ts : List Cty) (ps : List ℕ) (r : List Line) → length (map (close_field ps) (map (field_of ts) (select field_line r))) ≡ count_of field_line r
fields_counted ts ps r = length-map (map (field_of ts) (select field_line r)) (close_field ps) ∙ length-map (select field_line r) (field_of ts)

-- the C lines are the heads of the constructors
heads_of : (x : ℕ) (ls : List Line) → map (λ (g : Group). g.head) (groups (is x) ls) ≡ select x ls
unfolding groups select
heads_of x [] = refl
heads_of x (l ∷ ls) = go (is x l) (heads_of x ls)
  where
    go : (c : Bool) → map (λ (g : Group). g.head) (groups (is x) ls) ≡ select x ls
        → map (λ (g : Group). g.head) (pick c (record { head = l; rest = before (is x) ls } ∷ groups (is x) ls) (groups (is x) ls)) ≡ pick c (l ∷ select x ls) (select x ls)
    go true e = ap (λ (r : List Line). l ∷ r) e
    go false e = e

module _ (ls : List Line) (ps : List ℕ) where
  shapes_of : (gs : List Group) (c : ℕ) → AllCounted gs → ((j : ℕ) → j < length gs → get_or (map (λ (g : Group). g.head) gs) j bad ≡ nth ctor_line ls (c + j))
      → map shape_of (map (closed_ctor ps) (map (ctor_of (trees ls)) gs)) ≡ shapes_by ls c (length gs)
  unfolding shapes_by ctor_of
  shapes_of [] c u t = refl
  shapes_of (g ∷ gs) c u t =
      let z : c + 0 ≡ c = omega arith in
      let a : g.head ≡ nth ctor_line ls c = t 0 (omega arith) ∙ ap (nth ctor_line ls) z in
      let w : length (map (close_field ps) (map (field_of (trees ls)) (select field_line g.rest))) ≡ ctor_fields ls c = fields_counted (trees ls) ps g.rest ∙ u.0 ∙ ap (λ (l : Line). number l 1) a in
      let n : number g.head 0 ≡ ctor_name ls c = ap (λ (l : Line). number l 0) a in
      let i = shapes_of gs (suc c) u.1 (λ j h. let e : c + suc j ≡ suc c + j = omega arith in t (suc j) (omega arith) ∙ ap (nth ctor_line ls) e) in
      ap₂ (λ (x : Shape) (r : List Shape). x ∷ r) (ap₂ (λ (x y : ℕ). record { name = x; width = y }) n w) i

module _ (ls : List Line) (p : Passed ls) (d : ℕ) (h : d < decls_of ls) where
  w : Whole (group ls d)
  w = whole_at ls p d h

  ps : List ℕ
  ps = (dtype_of (trees ls) (group ls d)).dt_params

  heads : (j : ℕ) → j < length (groups (is ctor_line) (group ls d).rest) → get_or (map (λ (g : Group). g.head) (groups (is ctor_line) (group ls d).rest)) j bad ≡ nth ctor_line ls (first_of ctor_line ls d + j)
  heads j l = rw heads_of (sym (nth_in ls d h ctor_line refl refl j (omega (arith, length_groups_of ctor_line (group ls d).rest))))

  shapes_are : map shape_of (ctors_of_tydef (dtype_at (program ls) d)) ≡ shapes_at ls d
  unfolding shapes_at close_fields dtype_of body_of close_body ctors_of ps
  shapes_are = ap (λ x. map shape_of (ctors_of_tydef x)) (dtype_is ls d h) ∙ by (eqb (body_kind ls d) 1) (eqb (body_kind ls d) 2) (eqb (body_kind ls d) 3) refl refl refl
    where
      r : List Line
      r = (group ls d).rest

      by : (x y z : Bool) → eqb (body_kind ls d) 1 ≡ x → eqb (body_kind ls d) 2 ≡ y → eqb (body_kind ls d) 3 ≡ z
          → map shape_of (ctors_of (number (head_line ls d) 0) (close_body ps (
          x ⇒ TAbbrev (type_at (trees ls) (body_last ls d)) ∥
          y ⇒ TRecord (map (field_of (trees ls)) (select field_line (group ls d).rest)) ∥
          z ⇒ TVariant (map (ctor_of (trees ls)) (groups (is ctor_line) (group ls d).rest)) ∥
          TAbstract)))
          ≡ (y ⇒ record { name = number (head_line ls d) 0; width = body_last ls d } ∷ [] ∥ z ⇒ shapes_by ls (first_of ctor_line ls d) (body_last ls d) ∥ [])
      by true y z a c e = let k : body_kind ls d ≡ 1 = eqb-true (body_kind ls d) 1 a in rw (sym c, sym e, k)
      by false true z a c e =
          let k : body_kind ls d ≡ 2 = eqb-true (body_kind ls d) 2 c in
          ap (λ (m : ℕ). record { name = number (head_line ls d) 0; width = m } ∷ []) (fields_counted (trees ls) ps (group ls d).rest ∙ (w.fields k).0)
      by false false true a c e =
          let k : body_kind ls d ≡ 3 = eqb-true (body_kind ls d) 3 e in
          shapes_of ls ps (groups (is ctor_line) (group ls d).rest) (first_of ctor_line ls d) (w.counted k) heads
          ∙ ap (shapes_by ls (first_of ctor_line ls d)) (length_groups_of ctor_line (group ls d).rest ∙ w.ctors k)
      by false false false a c e = refl

  -- ---- slots
  -- a layout has a slot for each field of its constructor
  local_shapes : (er : ℕ → Bool) (tag : ℕ → Option ℕ) (cs : List Ctor) → map slot_shape (layouts_of_ctors er tag cs) ≡ map shape_of cs
  unfolding table slots ctor_layout
  local_shapes er tag [] = refl
  local_shapes er tag (c ∷ cs) =
      ap₂ (λ (n : ℕ) (r : List Shape). record { name = c.ct_name; width = n } ∷ r) (length-map c.ct_fields _) (local_shapes er (λ i. tag (suc i)) cs)

  import_shapes : (tag : ℕ → Option ℕ) (gs : List Group) → map slot_shape (ctor_layouts_by tag (map (closed_ctor ps) (map (ctor_of (trees ls)) gs)) (map (λ (g : Group). keeps g.rest) gs)) ≡ map shape_of (map (closed_ctor ps) (map (ctor_of (trees ls)) gs))
  unfolding ctor_layouts_by keeps ctor_of ctor_layout
  import_shapes tag [] = refl
  import_shapes tag (g ∷ gs) =
      ap₂ (λ (n : ℕ) (r : List Shape). record { name = number g.head 0; width = n } ∷ r)
      (length-map (select field_line g.rest) _ ∙ sym (fields_counted (trees ls) ps g.rest))
      (import_shapes (λ i. tag (suc i)) gs)

  import_body : map slot_shape (ctor_layouts_by (tags (group ls d).rest) (ctors_of_tydef (close_fields (dtype_of (trees ls) (group ls d)))) (keeps_of (close_fields (dtype_of (trees ls) (group ls d))).dt_body (group ls d).rest))
      ≡ map shape_of (ctors_of_tydef (close_fields (dtype_of (trees ls) (group ls d))))
  unfolding close_fields dtype_of body_of close_body ctors_of keeps_of ctor_layouts_by ctor_layout keeps ps
  import_body = by (eqb (body_kind ls d) 1) (eqb (body_kind ls d) 2) (eqb (body_kind ls d) 3)
    where
      by : (x y z : Bool)
          → map slot_shape (ctor_layouts_by (tags (group ls d).rest) (ctors_of (number (head_line ls d) 0) (close_body ps (
          x ⇒ TAbbrev (type_at (trees ls) (body_last ls d)) ∥
          y ⇒ TRecord (map (field_of (trees ls)) (select field_line (group ls d).rest)) ∥
          z ⇒ TVariant (map (ctor_of (trees ls)) (groups (is ctor_line) (group ls d).rest)) ∥
          TAbstract))) (keeps_of (close_body ps (
          x ⇒ TAbbrev (type_at (trees ls) (body_last ls d)) ∥
          y ⇒ TRecord (map (field_of (trees ls)) (select field_line (group ls d).rest)) ∥
          z ⇒ TVariant (map (ctor_of (trees ls)) (groups (is ctor_line) (group ls d).rest)) ∥
          TAbstract)) (group ls d).rest))
          ≡ map shape_of (ctors_of (number (head_line ls d) 0) (close_body ps (
          x ⇒ TAbbrev (type_at (trees ls) (body_last ls d)) ∥
          y ⇒ TRecord (map (field_of (trees ls)) (select field_line (group ls d).rest)) ∥
          z ⇒ TVariant (map (ctor_of (trees ls)) (groups (is ctor_line) (group ls d).rest)) ∥
          TAbstract)))
      by true y z = refl
      by false true z =
          ap (λ (n : ℕ). record { name = number (head_line ls d) 0; width = n } ∷ []) (length-map (select field_line (group ls d).rest) _ ∙ sym (fields_counted (trees ls) ps (group ls d).rest))
      by false false true = import_shapes (tags (group ls d).rest) (groups (is ctor_line) (group ls d).rest)
      by false false false = refl

  slots_wide : map slot_shape (ctors_at (program ls) d) ≡ map shape_of (ctors_of_tydef (dtype_at (program ls) d))
  unfolding ctors_of_decl ctor_layouts info_of
  slots_wide = go (is import_line (head_line ls d)) refl
    where
      er : ℕ → Bool
      er = marked (program ls) (erasure_fixpoint (program ls)).marks

      go : (c : Bool) → is import_line (head_line ls d) ≡ c → map slot_shape (ctors_at (program ls) d) ≡ map shape_of (ctors_of_tydef (dtype_at (program ls) d))
      go true e = rw (origin_import ls d h e, dtype_is ls d h) import_body
      go false e = rw (origin_local ls d h e) (local_shapes er (ctor_tag (length (ctors_of_tydef (dtype_at (program ls) d)))) (ctors_of_tydef (dtype_at (program ls) d)))

-- ---- fields
-- `fields_among` goes by names and widths
unfoldable found_among : List Shape → ℕ → Option ℕ → Option ℕ
found_among [] n o = o
found_among (x ∷ xs) n o = pick (eqb x.name n) (some x.width) (found_among xs n o)

among_shapes : (cs : List Ctor) (n : ℕ) (o : Option ℕ) → fields_among cs n o ≡ found_among (map shape_of cs) n o
unfolding fields_among found_among
among_shapes [] n o = refl
among_shapes (c ∷ cs) n o = ap (pick (eqb c.ct_name n) (some (length c.ct_fields))) (among_shapes cs n o)

among_site : (ls : List Line) (d c f k n : ℕ) (s : Site) → found_among (shapes_by ls c k) n (site_fields s) ≡ site_fields (site_among ls d c f k n s)
unfolding found_among shapes_by site_among fields_told
among_site ls d c f zero n s = refl
among_site ls d c f (suc k) n s = go (eqb (ctor_name ls c) n) (among_site ls d (suc c) (f + ctor_fields ls c) k n s)
  where
    go : (x : Bool) → found_among (shapes_by ls (suc c) k) n (site_fields s) ≡ site_fields (site_among ls d (suc c) (f + ctor_fields ls c) k n s)
        → pick x (some (ctor_fields ls c)) (found_among (shapes_by ls (suc c) k) n (site_fields s))
        ≡ site_fields (pick x (site_at d f (ctor_fields ls c)) (site_among ls d (suc c) (f + ctor_fields ls c) k n s))
    go true e = refl
    go false e = e

shapes_site : (ls : List Line) (d n : ℕ) (s : Site) → found_among (shapes_at ls d) n (site_fields s) ≡ site_fields (site_in ls d n s)
unfolding shapes_at found_among site_in fields_told
shapes_site ls d n s = go (eqb (body_kind ls d) 2) (eqb (body_kind ls d) 3)
  where
    go : (x y : Bool)
        → found_among (x ⇒ record { name = number (head_line ls d) 0; width = body_last ls d } ∷ [] ∥ y ⇒ shapes_by ls (first_of ctor_line ls d) (body_last ls d) ∥ []) n (site_fields s)
        ≡ site_fields (
        x ⇒ pick (eqb (number (head_line ls d) 0) n) (site_at d (first_of field_line ls d) (body_last ls d)) s ∥
        y ⇒ site_among ls d (first_of ctor_line ls d) (first_of field_line ls d) (body_last ls d) n s ∥
        s)
    go true y = pick_site (eqb (number (head_line ls d) 0) n)
      where
        pick_site : (b : Bool) → pick b (some (body_last ls d)) (site_fields s) ≡ site_fields (pick b (site_at d (first_of field_line ls d) (body_last ls d)) s)
        pick_site true = refl
        pick_site false = refl
    go false true = among_site ls d (first_of ctor_line ls d) (first_of field_line ls d) (body_last ls d) n s
    go false false = refl

module _ (ls : List Line) (p : Passed ls) (n : ℕ) where
  fields_after : (k d : ℕ) → d + k ≡ decls_of ls → declared_fields (drop d (program ls)) n ≡ site_fields (site_after ls d k n)
  unfolding declared_fields site_after fields_told
  fields_after zero d e = rw (drop_none (program ls) d (omega (arith, length_program ls)))
  fields_after (suc k) d e =
      let h : d < length (program ls) = omega (arith, length_program ls) in
      rw (drop-cons (program ls) d no_decl h)
      (among_shapes (ctors_of_tydef (dtype_at (program ls) d)) n (declared_fields (drop (suc d) (program ls)) n)
      ∙ ap₂ (λ (xs : List Shape) (o : Option ℕ). found_among xs n o) (shapes_are ls p d (omega arith)) (fields_after k (suc d) (omega arith))
      ∙ shapes_site ls d n (site_after ls (suc d) k n))

  -- How many fields are declared of a constructor is what its site says.
  pub fields_site : declared_fields (program ls) n ≡ site_fields (site_of ls n)
  fields_site = fields_after (decls_of ls) 0 (omega arith)

-- ---- owners
-- slots that are in the keep table from field f on
InKeep : List ℕ → ℕ → List Bool → Type 0
InKeep keep f bs = (j : ℕ) → j < length bs → get_or bs j false ≡ eqb (get_or keep (f + j) 0) 1

slots_kept : (keep : List ℕ) (bs : List Bool) (f : ℕ) → InKeep keep f bs → bs ≡ slots_by keep f (length bs)
unfolding slots_by InKeep
slots_kept keep [] f s = refl
slots_kept keep (b ∷ bs) f s =
    let z : f + 0 ≡ f = omega arith in
    ap₂ (λ (x : Bool) (r : List Bool). x ∷ r) (s 0 (omega arith) ∙ ap (λ (i : ℕ). eqb (get_or keep i 0) 1) z)
    (slots_kept keep bs (suc f) (λ j l. let e : f + suc j ≡ suc f + j = omega arith in s (suc j) (omega arith) ∙ ap (λ (i : ℕ). eqb (get_or keep i 0) 1) e))

kept_left : (keep : List ℕ) (f : ℕ) (a c : List Bool) → InKeep keep f (a ++ c) → InKeep keep f a
unfolding InKeep
kept_left keep f a c s = λ j l. sym (get_or-append a c false j l) ∙ s j (omega (arith, length-append a c))

kept_right : (keep : List ℕ) (f : ℕ) (a c : List Bool) → InKeep keep f (a ++ c) → InKeep keep (f + length a) c
unfolding InKeep
kept_right keep f a c s = λ j l.
    let e : f + (length a + j) ≡ (f + length a) + j = omega arith in
    sym (get_or-append-add a c j false) ∙ s (length a + j) (omega (arith, length-append a c)) ∙ ap (λ (i : ℕ). eqb (get_or keep i 0) 1) e

module _ (ls : List Line) (keep : List ℕ) (d n : ℕ) where
  -- a layout by its name, its kept fields and its slots
  laid_is : (cl : CtorLayout) (f m : ℕ) → kept_ctor cl ≡ record { ct_name = n; ct_fields = fields_by ls keep (params_of ls d) f m } → length cl.cl_slots ≡ m → InKeep keep f cl.cl_slots
      → untagged cl ≡ laid ls keep (params_of ls d) n f m
  laid_is cl f m e w s =
      let a : cl.cl_name ≡ n = ap (λ (c : Ctor). c.ct_name) e in
      let g : cl.cl_fields ≡ fields_by ls keep (params_of ls d) f m = ap (λ (c : Ctor). c.ct_fields) e in
      let b : cl.cl_slots ≡ slots_by keep f m = slots_kept keep cl.cl_slots f s ∙ ap (slots_by keep f) w in
      ap₂ (λ (x : ℕ) (y : List Bool). record { cl_name = x; cl_tag = none; cl_slots = y; cl_fields = cl.cl_fields }) a b ∙ ap (λ (z : List Field). record { cl_name = n; cl_tag = none; cl_slots = slots_by keep f m; cl_fields = z }) g

  -- one constructor before others
  owned_step : (cl : CtorLayout) (cls : List CtorLayout) (x f m : ℕ) (o : Option Owner) (s : Site)
      → kept_ctor cl ≡ record { ct_name = x; ct_fields = fields_by ls keep (params_of ls d) f m } → slot_shape cl ≡ record { name = x; width = m } → InKeep keep f cl.cl_slots
      → untagged_owner (owned (layout_of_decl (program ls) d) (find_ctor cls n) o) ≡ site_owner ls keep n s
      → untagged_owner (owned (layout_of_decl (program ls) d) (find_ctor (cl ∷ cls) n) o) ≡ site_owner ls keep n (pick (eqb x n) (site_at d f m) s)
  unfolding owned find_ctor owner_told
  owned_step cl cls x f m o s e w t q = go (eqb x n) refl
    where
      by_test : (y : Bool) → eqb x n ≡ y → untagged_owner (owned (layout_of_decl (program ls) d) (pick (eqb cl.cl_name n) (some cl) (find_ctor cls n)) o) ≡ untagged_owner (owned (layout_of_decl (program ls) d) (pick y (some cl) (find_ctor cls n)) o)
      by_test y a = ap (λ (z : Bool). untagged_owner (owned (layout_of_decl (program ls) d) (pick z (some cl) (find_ctor cls n)) o)) (ap (λ (c : Ctor). eqb c.ct_name n) e ∙ a)

      go : (y : Bool) → eqb x n ≡ y
          → untagged_owner (owned (layout_of_decl (program ls) d) (pick (eqb cl.cl_name n) (some cl) (find_ctor cls n)) o) ≡ site_owner ls keep n (pick y (site_at d f m) s)
      go true y =
          let a : x ≡ n = eqb-true x n y in
          let b = laid_is cl f m (e ∙ ap (λ (z : ℕ). record { ct_name = z; ct_fields = fields_by ls keep (params_of ls d) f m }) a) (ap (λ (z : Shape). z.width) w) t in
          by_test true y ∙ ap (λ (z : CtorLayout). some (record { layout = layout_of_decl (program ls) d; ctor_layout = z })) b
      go false y = by_test false y ∙ q

  owned_among : (cls : List CtorLayout) (c f k : ℕ) (o : Option Owner) (s : Site) → untagged_owner o ≡ site_owner ls keep n s
      → map kept_ctor cls ≡ ctors_by ls keep (params_of ls d) c f k → map slot_shape cls ≡ shapes_by ls c k → InKeep keep f (all_slots cls)
      → untagged_owner (owned (layout_of_decl (program ls) d) (find_ctor cls n) o) ≡ site_owner ls keep n (site_among ls d c f k n s)
  unfolding owned find_ctor site_among ctors_by shapes_by all_slots
  owned_among [] c f zero o s q e w t = q
  owned_among [] c f (suc k) o s q e w t = absurd (omega (arith, ap length e))
  owned_among (cl ∷ cls) c f zero o s q e w t = absurd (omega (arith, ap length e))
  owned_among (cl ∷ cls) c f (suc k) o s q e w t =
      let a : slot_shape cl ≡ record { name = ctor_name ls c; width = ctor_fields ls c } = cc in
      let m : length cl.cl_slots ≡ ctor_fields ls c = ap (λ (z : Shape). z.width) a in
      let r = owned_among cls (suc c) (f + ctor_fields ls c) k o s q (cc) (cc) (rw m at (kept_right keep f cl.cl_slots (all_slots cls) t)) in
      owned_step cl cls (ctor_name ls c) f (ctor_fields ls c) o (site_among ls d (suc c) (f + ctor_fields ls c) k n s) (cc) a (kept_left keep f cl.cl_slots (all_slots cls) t) r

  owned_one : (cls : List CtorLayout) (x f m : ℕ) (o : Option Owner) (s : Site) → untagged_owner o ≡ site_owner ls keep n s
      → map kept_ctor cls ≡ record { ct_name = x; ct_fields = fields_by ls keep (params_of ls d) f m } ∷ [] → map slot_shape cls ≡ record { name = x; width = m } ∷ [] → InKeep keep f (all_slots cls)
      → untagged_owner (owned (layout_of_decl (program ls) d) (find_ctor cls n) o) ≡ site_owner ls keep n (pick (eqb x n) (site_at d f m) s)
  unfolding owned find_ctor all_slots
  owned_one [] x f m o s q e w t = absurd (omega (arith, ap length e))
  owned_one (cl ∷ []) x f m o s q e w t = owned_step cl [] x f m o s (cc) (cc) (kept_left keep f cl.cl_slots [] t) q
  owned_one (cl ∷ cm ∷ cls) x f m o s q e w t = absurd (omega (arith, ap length e))

  owned_none : (cls : List CtorLayout) (o : Option Owner) → length cls ≡ 0 → owned (layout_of_decl (program ls) d) (find_ctor cls n) o ≡ o
  unfolding owned find_ctor
  owned_none [] o e = refl
  owned_none (cl ∷ cls) o e = absurd (omega arith)

-- ---- the verdicts of a program, declaration by declaration
pub verdict_at : (ls : List Line) (fuel d : ℕ) → d < decls_of ls → ((info_at fuel (program ls) d).ti_layout ≡ layout_of_decl (program ls) d) × ((info_at fuel (program ls) d).ti_ctors ≡ ctors_at (program ls) d)
unfolding ctors_of_decl
verdict_at ls fuel d h = go (origin_at (program ls) d) refl
  where
    go : (o : Origin) → origin_at (program ls) d ≡ o
        → ((info_at fuel (program ls) d).ti_layout ≡ layout_of_decl (program ls) d)
        × ((info_at fuel (program ls) d).ti_ctors ≡ ctors_of_decl (marked (program ls) (erasure_fixpoint (program ls)).marks) (dtype_at (program ls) d) o)
    go here e = let i = local_info fuel (program ls) d e in (ap (λ (x : TypeInfo). x.ti_layout) i, ap (λ (x : TypeInfo). x.ti_ctors) i)
    go (imported ti) e =
        let i = import_info fuel (program ls) d ti e in
        (ap (λ (x : TypeInfo). x.ti_layout) i ∙ sym (import_layout (program ls) d ti (rw (length_program ls) h) e), ap (λ (x : TypeInfo). x.ti_ctors) i)

module _ (ls : List Line) (p : Passed ls) (keep : List ℕ) (sl : Slotted ls keep) (n : ℕ) where
  module _ (d : ℕ) (h : d < decls_of ls) where
    slots_in : InKeep keep (first_of field_line ls d) (all_slots (ctors_at (program ls) d))
    unfolding InKeep
    slots_in =
        rw (slots_are ls d h)
        (λ j l. sym (ap (λ (x : ℕ). eqb x 1) (sl.slots d h j l) ∙ bit_one (get_or (slots_at (program ls) d) j false)))
      where
        bit_one : (x : Bool) → eqb (bit x) 1 ≡ x
        bit_one true = refl
        bit_one false = refl

    shapes : map slot_shape (ctors_at (program ls) d) ≡ shapes_at ls d
    shapes = slots_wide ls p d h ∙ shapes_are ls p d h

    owned_site : (o : Option Owner) (s : Site) → untagged_owner o ≡ site_owner ls keep n s
        → untagged_owner (owned (layout_of_decl (program ls) d) (find_ctor (ctors_at (program ls) d) n) o) ≡ site_owner ls keep n (site_in ls d n s)
    unfolding shapes_at site_in
    owned_site o s q = go (eqb (body_kind ls d) 2) (eqb (body_kind ls d) 3) refl refl
      where
        go : (x y : Bool) → eqb (body_kind ls d) 2 ≡ x → eqb (body_kind ls d) 3 ≡ y
            → untagged_owner (owned (layout_of_decl (program ls) d) (find_ctor (ctors_at (program ls) d) n) o) ≡ site_owner ls keep n (
            x ⇒ pick (eqb (number (head_line ls d) 0) n) (site_at d (first_of field_line ls d) (body_last ls d)) s ∥
            y ⇒ site_among ls d (first_of ctor_line ls d) (first_of field_line ls d) (body_last ls d) n s ∥
            s)
        go true y a c =
            let e : body_kind ls d ≡ 2 = eqb-true (body_kind ls d) 2 a in
            owned_one ls keep d n (ctors_at (program ls) d) (number (head_line ls d) 0) (first_of field_line ls d) (body_last ls d) o s q
            (ctors_are ls p keep sl d h ∙ kept_record ls keep d e) (shapes ∙ rw e) slots_in
        go false true a c =
            let e : body_kind ls d ≡ 3 = eqb-true (body_kind ls d) 3 c in
            owned_among ls keep d n (ctors_at (program ls) d) (first_of ctor_line ls d) (first_of field_line ls d) (body_last ls d) o s q
            (ctors_are ls p keep sl d h ∙ kept_variant ls keep d e) (shapes ∙ rw e) slots_in
        go false false a c =
            let e : map slot_shape (ctors_at (program ls) d) ≡ [] = shapes ∙ rw (a, c) in
            ap untagged_owner (owned_none ls keep d n (ctors_at (program ls) d) o (sym (length-map (ctors_at (program ls) d) slot_shape) ∙ ap length e)) ∙ q

  module _ (fuel : ℕ) where
    no_info : TypeInfo
    no_info = record { ti_erased = false; ti_layout = L_opaque; ti_ctors = []; ti_record = false }

    owner_after : (k d : ℕ) → d + k ≡ decls_of ls → untagged_owner (ctor_owner (drop d (run fuel (program ls)).infos) n) ≡ site_owner ls keep n (site_after ls d k n)
    unfolding ctor_owner site_after owner_told
    owner_after zero d e = rw (drop_none (run fuel (program ls)).infos d (omega (arith, length_infos fuel (program ls), length_program ls)))
    owner_after (suc k) d e =
        let h : d < decls_of ls = omega arith in
        let l : d < length (program ls) = omega (arith, length_program ls) in
        let v = verdict_at ls fuel d h in
        rw (drop-cons (run fuel (program ls)).infos d no_info (omega (arith, length_infos fuel (program ls))), get_or_infos fuel (program ls) d no_info l, v.0, v.1)
        (owned_site d h (ctor_owner (drop (suc d) (run fuel (program ls)).infos) n) (site_after ls (suc d) k n) (owner_after k (suc d) (omega arith)))

    -- The owner of a constructor is what its site says.
    pub owner_site : untagged_owner (ctor_owner (run fuel (program ls)).infos n) ≡ site_owner ls keep n (site_of ls n)
    owner_site = owner_after (decls_of ls) 0 (omega arith)

-- ---- by the cells
module _ (ls : List Line) (p : Passed ls) (m : List ℕ) (at : Sited ls m) (n : ℕ) (h : n < count_of name_line ls) where
  pub fields_sited : declared_fields (program ls) n ≡ fields_told (get_or m (3 * n) 0) (get_or m (3 * n + 2) 0)
  fields_sited = fields_site ls p n ∙ rw ((at.holds n h).owned, (at.holds n h).counted)

  pub owner_sited : (keep : List ℕ) → Slotted ls keep → (fuel : ℕ)
      → untagged_owner (ctor_owner (run fuel (program ls)).infos n) ≡ owner_told ls keep n (get_or m (3 * n) 0) (get_or m (3 * n + 1) 0) (get_or m (3 * n + 2) 0)
  owner_sited keep sl fuel = owner_site ls p keep sl n fuel ∙ rw ((at.holds n h).owned, (at.holds n h).begun, (at.holds n h).counted)

-- ---- counts
pub count_none : (a k : ℕ) → a ≡ 0 → 0 ≡ count_told a k
unfolding count_told
count_none a k e = ap (λ (x : ℕ). count_told x k) (sym e)

pub count_some : (a k : ℕ) → (a ≡ 0 → ⊥) → k + 1 ≡ count_told a k
unfolding count_told
count_some zero k h = absurd (h refl)
count_some (suc d) k h = omega arith

count_mark : (a k : ℕ) → count_told a k ≡ field_mark (fields_told a k)
unfolding count_told fields_told
count_mark zero k = refl
count_mark (suc d) k = refl

pub counts_none : (ls : List Line) (fields : List ℕ) → CountsTo ls fields 0
counts_none ls fields = record { marks = λ n l. absurd (omega arith) }

pub counts_next : (ls : List Line) → Passed ls → (m : List ℕ) → Sited ls m → (fields : List ℕ) (i x : ℕ) → i < count_of name_line ls → i < length fields
    → x ≡ count_told (get_or m (3 * i) 0) (get_or m (3 * i + 2) 0) → CountsTo ls fields i → CountsTo ls (set fields i x) (i + 1)
counts_next ls p m at fields i x h l e q =
    record {
      marks =
          λ n k. cases_eq n i
          (λ z. rw z (get_or-set_same fields i x 0 l ∙ e ∙ count_mark (get_or m (3 * i) 0) (get_or m (3 * i + 2) 0) ∙ ap field_mark (sym (fields_sited ls p m at i h))))
          (λ z. get_or-set_other fields i n x 0 z ∙ q.marks n (omega arith));
    }
