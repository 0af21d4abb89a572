-- What a declaration keeps by its types is what it keeps by its lines, local or imported. Assumes nothing.
use Rattle.std.specs.Prelude.{◌≡◌, Bool, get_or}
use Rattle.std.proofs.Math.Path.{refl, ap, ap₂, sym}
use Rattle.std.proofs.Common.{◌∙◌, arith, add-one, length-append, get_or-append-add}
use mathlib.Core.List.{List, [], ◌∷◌, ◌++◌, map, append-nil}
use Rattle.std.proofs.Math.Bool.{true, false}
use Rattle.std.proofs.Math.Option.{Option}
use Prim.Native.Nat.{ℕ, zero, suc, ◌+◌, ◌-◌, ◌≤◌, ◌<◌}
use Rattle.std.proofs.Math.Dec.{eqb}
use Rattle.std.proofs.Math.ListN.{length, length-map, get_or-append}
use borrow.Author.Tests.{eqb-true, ne_eqb}
use Rattle.number_columns.specs.Column.{pick, ◌⇒◌∥◌}
use Rattle.sheet.specs.Line.{Line, bad, number}
use Rattle.model.specs.Cty.{Cty}
use Rattle.model.specs.Decl.{table, Field, Ctor, TAbstract, TAbbrev, TRecord, TVariant, Origin, here, imported, dtype_at, origin_at, ctors_of, CtorLayout, close_field, close_body, close_fields, bit}
use Rattle.model.specs.Erasure.{marked, erasure_fixpoint}
use Rattle.model.specs.Layout.{ctor_tag, layouts_of_ctors, slots, kept, ctor_layout, ctor_layouts}
use Rattle.meaning.specs.Output.{all_slots}
use Rattle.meaning.specs.Program.{param_line, ctor_line, field_line, import_line, is, select, before, Group, groups, trees, type_at, field_of, ctor_of, body_of, dtype_of, keeps, keeps_of, tags, ctor_layouts_by, info_of, program}
use Rattle.meaning.specs.Rows.{count_of}
use Rattle.meaning_laws.specs.Program.{Whole, AllCounted, length_groups_of}
use Rattle.table_declared.specs.Passed.{Passed}
use Rattle.table_access.specs.Tables.{nth, group, head_line, decls_of, first_of}
use Rattle.table_declared.specs.DeclLaws.{first_next, nth_in, dtype_is, origin_local, origin_import, whole_at}
use Rattle.table_declared.specs.BodyLaws.{fields_of}
use Rattle.resolve_kids.specs.Params.{params_from, params_of}
use Rattle.keep_fields.specs.Keeps.{slots_of, slots_at, Slotted}
use Rattle.keep_layouts.specs.Kept.{ctors_of_decl, ctors_at, kept_ctor, body_kind, body_last, field_at, ctor_fields, fields_by, ctors_by, ctors_kept}
use Rattle.table_declared.specs.BodyLaws as body

-- ---- a list that stands in a sequence from place f on
pub record Stands {A : Type 0} (z : A) (g : ℕ → A) (f : ℕ) (xs : List A) : Type 0 where
  pub there : (j : ℕ) → j < length xs → get_or xs j z ≡ g (f + j)

module _ {A : Type 0} (z : A) (g : ℕ → A) (f : ℕ) where
  stands_head : (x : A) (xs : List A) → Stands z g f (x ∷ xs) → x ≡ g f
  stands_head x xs s = let e : f + 0 ≡ f = omega arith in s.there 0 (omega arith) ∙ ap g e

  stands_tail : (x : A) (xs : List A) → Stands z g f (x ∷ xs) → Stands z g (suc f) xs
  stands_tail x xs s = record { there = λ j h. let e : f + suc j ≡ suc f + j = omega arith in s.there (suc j) (omega arith) ∙ ap g e }

  stands_left : (a c : List A) → Stands z g f (a ++ c) → Stands z g f a
  stands_left a c s = record { there = λ j h. sym (get_or-append a c z j h) ∙ s.there j (omega (arith, length-append a c)) }

  stands_right : (a c : List A) → Stands z g f (a ++ c) → Stands z g (f + length a) c
  stands_right a c s =
      record {
        there = λ j h. let e : f + (length a + j) ≡ (f + length a) + j = omega arith in sym (get_or-append-add a c j z) ∙ s.there (length a + j) (omega (arith, length-append a c)) ∙ ap g e;
      }

-- ---- parameters
params_are_from : (ls : List Line) (pl : List Line) (p : ℕ) → Stands bad (nth param_line ls) p pl → map (λ l. number l 0) pl ≡ params_from ls p (length pl)
unfolding params_from
params_are_from ls [] p s = refl
params_are_from ls (l ∷ pl) p s =
    ap₂ (λ (x : Line) (r : List ℕ). number x 0 ∷ r) (stands_head bad (nth param_line ls) p l pl s) (params_are_from ls pl (suc p) (stands_tail bad (nth param_line ls) p l pl s))

-- ---- the lines of a declaration
module _ (ls : List Line) (d : ℕ) (h : d < decls_of ls) where
  -- its lines of a letter other than D and I
  lines_stand : (x : ℕ) → eqb 68 x ≡ false → eqb 73 x ≡ false → Stands bad (nth x ls) (first_of x ls d) (select x (group ls d).rest)
  lines_stand x u v = record { there = λ j l. sym (nth_in ls d h x u v j l) }

  pub params_lines : map (λ l. number l 0) (select param_line (group ls d).rest) ≡ params_of ls d
  params_lines =
      let e : first_of param_line ls (d + 1) - first_of param_line ls d ≡ count_of param_line (group ls d).rest = rw (add-one d, first_next ls d h param_line refl refl) (omega arith) in
      params_are_from ls (select param_line (group ls d).rest) (first_of param_line ls d) (lines_stand param_line refl refl) ∙ ap (params_from ls (first_of param_line ls d)) (sym e)

  -- the parameters of a declaration are those of its P lines
  pub params_are : (dtype_at (program ls) d).dt_params ≡ params_of ls d
  unfolding close_fields dtype_of
  params_are = rw (dtype_is ls d h) params_lines

  -- the slots of its constructors
  pub slots_are : all_slots (ctors_at (program ls) d) ≡ slots_at (program ls) d
  unfolding ctors_of_decl slots_of
  slots_are = go (origin_at (program ls) d)
    where
      go : (o : Origin) → all_slots (ctors_of_decl (marked (program ls) (erasure_fixpoint (program ls)).marks) (dtype_at (program ls) d) o) ≡ slots_of (marked (program ls) (erasure_fixpoint (program ls)).marks) (dtype_at (program ls) d) o
      go here = refl
      go (imported ti) = refl

-- ---- constructors by lines
bit_one : (x : Bool) → eqb (bit x) 1 ≡ x
bit_one true = refl
bit_one false = refl

-- the C lines are the heads of the constructors
heads_of : (x : ℕ) (ls : List Line) → map (λ (g : Group). g.head) (groups (is x) ls) ≡ select x ls
unfolding groups select
heads_of x [] = refl
heads_of x (l ∷ ls) = go (is x l) (heads_of x ls)
  where
    go : (c : Bool) → map (λ (g : Group). g.head) (groups (is x) ls) ≡ select x ls
        → map (λ (g : Group). g.head) (pick c (record { head = l; rest = before (is x) ls } ∷ groups (is x) ls) (groups (is x) ls)) ≡ pick c (l ∷ select x ls) (select x ls)
    go true e = ap (λ (r : List Line). l ∷ r) e
    go false e = e

-- the fields of the k constructors from C line c on
unfoldable pub fields_in : List Line → ℕ → ℕ → ℕ
fields_in ls c zero = 0
fields_in ls c (suc k) = ctor_fields ls c + fields_in ls (suc c) k

-- a constructor closed
abbrev closed_ctor : List ℕ → Ctor → Ctor
closed_ctor ps c = record { ct_name = c.ct_name; ct_fields = map (close_field ps) c.ct_fields }

-- the fields of lines, closed
abbrev closed : List Line → List ℕ → List Line → List Field
closed ls ps r = map (close_field ps) (map (field_of (trees ls)) (select field_line r))

-- what a body keeps, where q says what lines keep, and tag each constructor's tag
module _ (tag : ℕ → Option ℕ) (q : List Line → List Bool) (ts : List Cty) (ps : List ℕ) (n kind : ℕ) (r : List Line) where
  unfoldable made : List CtorLayout
  made =
      eqb kind 2 ⇒ ctor_layout (tag 0) (record { ct_name = n; ct_fields = map (close_field ps) (map (field_of ts) (select field_line r)) }) (q r) ∷ [] ∥
      eqb kind 3 ⇒ ctor_layouts_by tag (map (closed_ctor ps) (map (ctor_of ts) (groups (is ctor_line) r))) (map (λ (g : Group). q g.rest) (groups (is ctor_line) r)) ∥
      []

-- which fields are kept
keep_at : List ℕ → ℕ → Bool
keep_at keep f = eqb (get_or keep f 0) 1

module _ (ls : List Line) (keep ps : List ℕ) where
  fields_are : (fl : List Line) (bs : List Bool) (f : ℕ) → length bs ≡ length fl → Stands bad (nth field_line ls) f fl → Stands false (keep_at keep) f bs
      → kept bs (map (close_field ps) (map (field_of (trees ls)) fl)) ≡ fields_by ls keep ps f (length fl)
  unfolding kept fields_by close_field field_of field_at keep_at
  fields_are [] [] f e s k = refl
  fields_are [] (x ∷ bs) f e s k = absurd (omega arith)
  fields_are (l ∷ fl) [] f e s k = absurd (omega arith)
  fields_are (l ∷ fl) (x ∷ bs) f e s k =
      let a : l ≡ nth field_line ls f = stands_head bad (nth field_line ls) f l fl s in
      let c : x ≡ eqb (get_or keep f 0) 1 = stands_head false (keep_at keep) f x bs k in
      let i = fields_are fl bs (suc f) (omega arith) (stands_tail bad (nth field_line ls) f l fl s) (stands_tail false (keep_at keep) f x bs k) in
      ap₂ (λ (y : Bool) (t : List Field). pick y (close_field ps (field_of (trees ls) l) ∷ t) t) c i
      ∙ ap (λ (m : Line). pick (eqb (get_or keep f 0) 1) (record { fd_name = number m 0; fd_type = (close_field ps (field_of (trees ls) m)).fd_type } ∷ fields_by ls keep ps (suc f) (length fl)) (fields_by ls keep ps (suc f) (length fl))) a

  -- constructors, each kept as its lines say
  module _ (q : List Line → List Bool) (full : (r : List Line) → length (q r) ≡ count_of field_line r) where
    slots_in : List Group → List Bool
    slots_in [] = []
    slots_in (g ∷ gs) = q g.rest ++ slots_in gs

    by : (ℕ → Option ℕ) → List Group → List CtorLayout
    by tag gs = ctor_layouts_by tag (map (closed_ctor ps) (map (ctor_of (trees ls)) gs)) (map (λ (g : Group). q g.rest) gs)

    by_slots : (tag : ℕ → Option ℕ) (gs : List Group) → all_slots (by tag gs) ≡ slots_in gs
    unfolding by slots_in ctor_layouts_by all_slots ctor_layout
    by_slots tag [] = refl
    by_slots tag (g ∷ gs) = ap (λ (t : List Bool). q g.rest ++ t) (by_slots (λ i. tag (suc i)) gs)

    by_ctors : (tag : ℕ → Option ℕ) (gs : List Group) (c f : ℕ) → AllCounted gs → Stands bad (nth ctor_line ls) c (map (λ (g : Group). g.head) gs)
        → Stands bad (nth field_line ls) f (fields_of gs) → Stands false (keep_at keep) f (slots_in gs) → map kept_ctor (by tag gs) ≡ ctors_by ls keep ps c f (length gs)
    unfolding by slots_in ctor_layouts_by ctors_by ctor_layout ctor_of fields_of
    by_ctors tag [] c f u t s k = refl
    by_ctors tag (g ∷ gs) c f u t s k =
        let fl : List Line = select field_line g.rest in
        let a : g.head ≡ nth ctor_line ls c = stands_head bad (nth ctor_line ls) c g.head (map (λ (x : Group). x.head) gs) t in
        let m : length fl ≡ ctor_fields ls c = u.0 ∙ ap (λ (l : Line). number l 1) a in
        let e : kept (q g.rest) (closed ls ps g.rest) ≡ fields_by ls keep ps f (ctor_fields ls c) =
        fields_are fl (q g.rest) f (full g.rest) (stands_left bad (nth field_line ls) f fl (fields_of gs) s) (stands_left false (keep_at keep) f (q g.rest) (slots_in gs) k)
        ∙ ap (fields_by ls keep ps f) m in
        let i = by_ctors (λ j. tag (suc j)) gs (suc c) (f + ctor_fields ls c) u.1 (stands_tail bad (nth ctor_line ls) c g.head (map (λ (x : Group). x.head) gs) t)
        (rw m at (stands_right bad (nth field_line ls) f fl (fields_of gs) s))
        (rw (full g.rest, m) at (stands_right false (keep_at keep) f (q g.rest) (slots_in gs) k)) in
        let v : number g.head 0 ≡ number (nth ctor_line ls c) 0 = ap (λ (l : Line). number l 0) a in
        ap₂ (λ (x : Ctor) (w : List Ctor). x ∷ w) (ap₂ (λ (y : ℕ) (w : List Field). record { ct_name = y; ct_fields = w }) v e) i

    -- a body, where its counts are right and its lines and slots stand where the sheet and the table have them
    module _ (n kind last : ℕ) (r : List Line) (c f : ℕ) (flat : kind ≡ 2 → count_of field_line r ≡ last) (many : kind ≡ 3 → count_of ctor_line r ≡ last)
        (first : kind ≡ 3 → select field_line (before (is ctor_line) r) ≡ []) (counted : kind ≡ 3 → AllCounted (groups (is ctor_line) r))
        (t : Stands bad (nth ctor_line ls) c (select ctor_line r)) (s : Stands bad (nth field_line ls) f (select field_line r)) where
      made_kept : (tag : ℕ → Option ℕ) → Stands false (keep_at keep) f (all_slots (made tag q (trees ls) ps n kind r))
          → map kept_ctor (made tag q (trees ls) ps n kind r) ≡ (eqb kind 2 ⇒ record { ct_name = n; ct_fields = fields_by ls keep ps f last } ∷ [] ∥ eqb kind 3 ⇒ ctors_by ls keep ps c f last ∥ [])
      unfolding made by all_slots ctor_layout
      made_kept tag = go (eqb kind 2) (eqb kind 3) refl refl
        where
          go : (x y : Bool) → eqb kind 2 ≡ x → eqb kind 3 ≡ y
              → Stands false (keep_at keep) f (all_slots (
              x ⇒ ctor_layout (tag 0) (record { ct_name = n; ct_fields = map (close_field ps) (map (field_of (trees ls)) (select field_line r)) }) (q r) ∷ [] ∥
              y ⇒ by tag (groups (is ctor_line) r) ∥
              []))
              → map kept_ctor (
              x ⇒ ctor_layout (tag 0) (record { ct_name = n; ct_fields = map (close_field ps) (map (field_of (trees ls)) (select field_line r)) }) (q r) ∷ [] ∥
              y ⇒ by tag (groups (is ctor_line) r) ∥
              []) ≡ (x ⇒ record { ct_name = n; ct_fields = fields_by ls keep ps f last } ∷ [] ∥ y ⇒ ctors_by ls keep ps c f last ∥ [])
          go true y u v k =
              ap (λ (w : List Field). record { ct_name = n; ct_fields = w } ∷ [])
              (fields_are (select field_line r) (q r) f (full r) s (rw append-nil at k) ∙ ap (fields_by ls keep ps f) (flat (eqb-true kind 2 u)))
          go false true u v k =
              let e : kind ≡ 3 = eqb-true kind 3 v in
              by_ctors tag (groups (is ctor_line) r) c f (counted e) (rw heads_of t) (rw (body.ctor_fields r (first e)) at s) (rw by_slots at k)
              ∙ ap (ctors_by ls keep ps c f) (length_groups_of ctor_line r ∙ many e)
          go false false u v k = refl

-- ---- of a local declaration, and of an import
module _ (er : ℕ → Bool) (ts : List Cty) (ps : List ℕ) where
  local : List Line → List Bool
  local r = slots er (map (close_field ps) (map (field_of ts) (select field_line r)))

  local_full : (r : List Line) → length (local r) ≡ count_of field_line r
  unfolding local slots
  local_full r = simp length-map

  by_local : (tag : ℕ → Option ℕ) (gs : List Group) → layouts_of_ctors er tag (map (closed_ctor ps) (map (ctor_of ts) gs)) ≡ ctor_layouts_by tag (map (closed_ctor ps) (map (ctor_of ts) gs)) (map (λ (g : Group). local g.rest) gs)
  unfolding table ctor_layouts_by local ctor_of
  by_local tag [] = refl
  by_local tag (g ∷ gs) = ap (λ (w : List CtorLayout). ctor_layout (tag 0) (closed_ctor ps (ctor_of ts g)) (local g.rest) ∷ w) (by_local (λ i. tag (suc i)) gs)

  module _ (n kind last : ℕ) (r : List Line) where
    made_local : (tag : ℕ → Option ℕ) → layouts_of_ctors er tag (ctors_of n (close_body ps (body_of ts kind last r))) ≡ made tag local ts ps n kind r
    unfolding table body_of close_body ctors_of made local
    made_local tag = go (eqb kind 1) (eqb kind 2) (eqb kind 3) refl refl refl
      where
        go : (x y z : Bool) → eqb kind 1 ≡ x → eqb kind 2 ≡ y → eqb kind 3 ≡ z
            → layouts_of_ctors er tag (ctors_of n (close_body ps (
            x ⇒ TAbbrev (type_at ts last) ∥
            y ⇒ TRecord (map (field_of ts) (select field_line r)) ∥
            z ⇒ TVariant (map (ctor_of ts) (groups (is ctor_line) r)) ∥
            TAbstract))) ≡ made tag local ts ps n kind r
        go true y z a c d = let e = eqb-true kind 1 a in rw e
        go false true z a c d = rw c
        go false false true a c d = rw (c, d) (by_local tag (groups (is ctor_line) r))
        go false false false a c d = rw (c, d)

    made_import : (tag : ℕ → Option ℕ) → ctor_layouts_by tag (ctors_of n (close_body ps (body_of ts kind last r))) (keeps_of (close_body ps (body_of ts kind last r)) r) ≡ made tag keeps ts ps n kind r
    unfolding body_of close_body ctors_of keeps_of ctor_layouts_by made
    made_import tag = go (eqb kind 1) (eqb kind 2) (eqb kind 3) refl refl refl
      where
        go : (x y z : Bool) → eqb kind 1 ≡ x → eqb kind 2 ≡ y → eqb kind 3 ≡ z
            → ctor_layouts_by tag (ctors_of n (close_body ps (
            x ⇒ TAbbrev (type_at ts last) ∥
            y ⇒ TRecord (map (field_of ts) (select field_line r)) ∥
            z ⇒ TVariant (map (ctor_of ts) (groups (is ctor_line) r)) ∥
            TAbstract))) (keeps_of (close_body ps (
            x ⇒ TAbbrev (type_at ts last) ∥
            y ⇒ TRecord (map (field_of ts) (select field_line r)) ∥
            z ⇒ TVariant (map (ctor_of ts) (groups (is ctor_line) r)) ∥
            TAbstract)) r) ≡ made tag keeps ts ps n kind r
        go true y z a c d = let e = eqb-true kind 1 a in rw e
        go false true z a c d = rw c
        go false false true a c d = rw (c, d)
        go false false false a c d = rw (c, d)

keeps_full : (r : List Line) → length (keeps r) ≡ count_of field_line r
unfolding keeps
keeps_full r = simp length-map

-- ---- by the body kind
module _ (ls : List Line) (keep : List ℕ) (d : ℕ) where
  pub kept_bare : body_kind ls d ≤ 1 → ctors_kept ls keep d ≡ []
  unfolding ctors_kept
  kept_bare e = rw (ne_eqb (body_kind ls d) 2 (λ z. omega arith), ne_eqb (body_kind ls d) 3 (λ z. omega arith))

  pub kept_record : body_kind ls d ≡ 2 → ctors_kept ls keep d ≡ record { ct_name = number (head_line ls d) 0; ct_fields = fields_by ls keep (params_of ls d) (first_of field_line ls d) (body_last ls d) } ∷ []
  unfolding ctors_kept
  kept_record e = rw e

  pub kept_variant : body_kind ls d ≡ 3 → ctors_kept ls keep d ≡ ctors_by ls keep (params_of ls d) (first_of ctor_line ls d) (first_of field_line ls d) (body_last ls d)
  unfolding ctors_kept
  kept_variant e = rw e

pub length_ctors_by : (ls : List Line) (keep ps : List ℕ) (c f k : ℕ) → length (ctors_by ls keep ps c f k) ≡ k
unfolding ctors_by
length_ctors_by ls keep ps c f zero = refl
length_ctors_by ls keep ps c f (suc k) = ap suc (length_ctors_by ls keep ps (suc c) (f + ctor_fields ls c) k)

-- ---- a declaration
module _ (ls : List Line) (p : Passed ls) (keep : List ℕ) (k : Slotted ls keep) (d : ℕ) (h : d < decls_of ls) where
  w : Whole (group ls d)
  w = whole_at ls p d h

  slots_stand : Stands false (keep_at keep) (first_of field_line ls d) (all_slots (ctors_at (program ls) d))
  unfolding keep_at
  slots_stand =
      rw (slots_are ls d h)
      (record { there = λ j l. sym (ap (λ (x : ℕ). eqb x 1) (k.slots d h j l) ∙ bit_one (get_or (slots_at (program ls) d) j false)) })

  -- what is kept by lines, where these are what is kept by types
  by_made : (tag : ℕ → Option ℕ) (q : List Line → List Bool) → ((r : List Line) → length (q r) ≡ count_of field_line r)
      → ctors_at (program ls) d ≡ made tag q (trees ls) (params_of ls d) (number (head_line ls d) 0) (body_kind ls d) (group ls d).rest
      → map kept_ctor (ctors_at (program ls) d) ≡ ctors_kept ls keep d
  unfolding ctors_kept
  by_made tag q full e =
      ap (map kept_ctor) e
      ∙ made_kept ls keep (params_of ls d) q full (number (head_line ls d) 0) (body_kind ls d) (body_last ls d) (group ls d).rest
      (first_of ctor_line ls d) (first_of field_line ls d) (λ z. (w.fields z).0) w.ctors w.ctors_first w.counted
      (lines_stand ls d h ctor_line refl refl) (lines_stand ls d h field_line refl refl) tag (rw e at slots_stand)

  er : ℕ → Bool
  er = marked (program ls) (erasure_fixpoint (program ls)).marks

  -- The constructors of a declaration, with the fields that they keep, are those of its lines.
  pub ctors_are : map kept_ctor (ctors_at (program ls) d) ≡ ctors_kept ls keep d
  unfolding ctors_of_decl ctor_layouts info_of close_fields dtype_of er
  ctors_are = go (is import_line (head_line ls d)) refl
    where
      tag : ℕ → Option ℕ
      tag = ctor_tag (length (ctors_of (number (head_line ls d) 0) (close_body (params_of ls d) (body_of (trees ls) (body_kind ls d) (body_last ls d) (group ls d).rest))))

      go : (c : Bool) → is import_line (head_line ls d) ≡ c → map kept_ctor (ctors_at (program ls) d) ≡ ctors_kept ls keep d
      go true e =
          by_made (tags (group ls d).rest) keeps keeps_full
          (rw (origin_import ls d h e, params_lines ls d h)
          (made_import er (trees ls) (params_of ls d) (number (head_line ls d) 0) (body_kind ls d) (body_last ls d) (group ls d).rest (tags (group ls d).rest)))
      go false e =
          by_made tag (local er (trees ls) (params_of ls d)) (local_full er (trees ls) (params_of ls d))
          (rw (origin_local ls d h e, dtype_is ls d h, params_lines ls d h)
          (made_local er (trees ls) (params_of ls d) (number (head_line ls d) 0) (body_kind ls d) (body_last ls d) (group ls d).rest tag))

  -- as many
  pub ctors_count : length (ctors_at (program ls) d) ≡ length (ctors_kept ls keep d)
  ctors_count = sym (length-map (ctors_at (program ls) d) kept_ctor) ∙ ap length ctors_are

  pub count_bare : body_kind ls d ≤ 1 → length (ctors_at (program ls) d) ≡ 0
  count_bare e = ctors_count ∙ ap length (kept_bare ls keep d e)

  pub count_record : body_kind ls d ≡ 2 → length (ctors_at (program ls) d) ≡ 1
  count_record e = ctors_count ∙ ap length (kept_record ls keep d e)

  pub count_variant : body_kind ls d ≡ 3 → length (ctors_at (program ls) d) ≡ body_last ls d
  count_variant e =
      ctors_count ∙ ap length (kept_variant ls keep d e)
      ∙ length_ctors_by ls keep (params_of ls d) (first_of ctor_line ls d) (first_of field_line ls d) (body_last ls d)

-- ---- how many fields a declaration has
sum_fields : (ls : List Line) (gs : List Group) (c : ℕ) → AllCounted gs → Stands bad (nth ctor_line ls) c (map (λ (g : Group). g.head) gs) → length (fields_of gs) ≡ fields_in ls c (length gs)
unfolding fields_of fields_in
sum_fields ls [] c u t = refl
sum_fields ls (g ∷ gs) c u t =
    let a : g.head ≡ nth ctor_line ls c = stands_head bad (nth ctor_line ls) c g.head (map (λ (x : Group). x.head) gs) t in
    let m : count_of field_line g.rest ≡ ctor_fields ls c = u.0 ∙ ap (λ (l : Line). number l 1) a in
    let i = sum_fields ls gs (suc c) u.1 (stands_tail bad (nth ctor_line ls) c g.head (map (λ (x : Group). x.head) gs) t) in
    length-append (select field_line g.rest) (fields_of gs) ∙ ap₂ ◌+◌ m i

module _ (ls : List Line) (p : Passed ls) (d : ℕ) (h : d < decls_of ls) where
  pub total_record : body_kind ls d ≡ 2 → first_of field_line ls (suc d) ≡ first_of field_line ls d + body_last ls d
  total_record e = first_next ls d h field_line refl refl ∙ ap (λ (n : ℕ). first_of field_line ls d + n) ((whole_at ls p d h).fields e).0

  pub total_variant : body_kind ls d ≡ 3 → first_of field_line ls (suc d) ≡ first_of field_line ls d + fields_in ls (first_of ctor_line ls d) (body_last ls d)
  total_variant e =
      let v = whole_at ls p d h in
      let r : List Line = (group ls d).rest in
      first_next ls d h field_line refl refl
      ∙ ap (λ (n : ℕ). first_of field_line ls d + n)
      (ap length (body.ctor_fields r (v.ctors_first e))
      ∙ sum_fields ls (groups (is ctor_line) r) (first_of ctor_line ls d) (v.counted e) (rw heads_of (lines_stand ls d h ctor_line refl refl))
      ∙ ap (fields_in ls (first_of ctor_line ls d)) (length_groups_of ctor_line r ∙ v.ctors e))

  pub total_bare : body_kind ls d ≤ 1 → first_of field_line ls (suc d) ≡ first_of field_line ls d
  total_bare e = first_next ls d h field_line refl refl ∙ omega (arith, ((whole_at ls p d h).bare e).0)
