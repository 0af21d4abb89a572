-- The marks and flags by the tables are those by the layouts of types: with them the lines give what `rw_pat` gives. Assumes
-- nothing.
use Rattle.std.proofs.Common.{⊎_elim, ◌∙◌, arith}
use Rattle.std.proofs.Math.Path.{◌≡◌, refl, ap, sym}
use mathlib.Core.List.{List, [], ◌∷◌}
use Rattle.std.specs.Prelude.{Bool, ◌||◌, ltb, get_or}
use Rattle.std.proofs.Math.Bool.{true, false}
use Rattle.std.proofs.Math.Option.{Option, none, some}
use Prim.Native.Nat.{ℕ, zero, suc, ◌+◌, ◌-◌, ◌*◌, ◌≤◌, ◌<◌}
use Rattle.std.proofs.Math.Dec.{eqb}
use Rattle.std.proofs.Math.ListN.{length, get_or-eq_default}
use borrow.Author.Tests.{eqb-true, eq-eqb, ne_eqb}
use Rattle.number_columns.specs.Column.{pick, ◌⇒◌∥◌}
use Rattle.sheet.specs.Line.{Line}
use Rattle.model.specs.Decl.{Field, CtorLayout, NewtypeLayout, Layout, L_erased, L_newtype, L_struct, L_abbrev, L_opaque, position}
use Rattle.model.specs.Layout.{newtype_of}
use Rattle.model.specs.Run.{run, layout_of_decl}
use Rattle.model_laws.specs.Names.{declared_cases}
use Rattle.model_patterns.specs.Pat.{named, names_one, Owner, ctor_owner, type_layout, rewritten}
use Rattle.model_patterns.proofs.Laws.Owners.{declared_layout, foreign_layout}
use Rattle.meaning.specs.Program.{name_line, field_line, program}
use Rattle.meaning.specs.Rows.{nth_line, count_of}
use Rattle.meaning_laws.specs.Program.{length_program}
use Rattle.meaning_patterns.specs.Patterns.{kind_of, name_of, previous_of, field_of, pattern}
use Rattle.table_declared.specs.Passed.{Passed}
use Rattle.table_access.specs.Tables.{decls_of, first_of}
use Rattle.resolve_kids.specs.Params.{params_of}
use Rattle.keep_fields.specs.Keeps.{Slotted}
use Rattle.keep_layouts.specs.Kept.{ctors_at, body_kind, fields_by}
use Rattle.keep_layouts.specs.States.{state, Shape, Settled}
use Rattle.collapse_newtypes.specs.Newtypes.{one_ctor}
use Rattle.pattern_laws.specs.Linked.{AllGood, linked_is, unshared_is, good_is, leaf_is, name_is}
use Rattle.pattern_laws.specs.Marks.{layout_mark, kept_if, has_field, layout_flag, mark_of, flag_of, flag_by, owners_of, fields_to}
use Rattle.pattern_laws.proofs.Owners.{owners_owned}
use Rattle.pattern_laws.specs.Made.{made_of}
use Rattle.pattern_laws.proofs.Rewrites.{Marked, marked_is_rewritten}
use Rattle.pattern_owners.specs.Places.{Placed}
use Rattle.pattern_owners.specs.PlacesLaws.{owners_low, owners_long}
use Rattle.pattern_ctors.specs.Sites.{Sited}
use Rattle.pattern_ctors.specs.SitesLaws.{inside_sited}
use Rattle.pattern_ctors.specs.Owners.{untagged, untagged_owner, slots_by, laid, owner_told}
use Rattle.pattern_ctors.specs.OwnersLaws.{verdict_at, owner_sited}
use Rattle.pattern_flags.specs.Flags.{Owners, slot_flag, ctor_flag, part_flag, flag_at, FlagsTo}
use Rattle.pattern_marks.specs.Tables.{state_mark, ctor_mark, mark_at, MarksTo}
use Rattle.pattern_records.specs.Records.{decl_names, newtype_flag, struct_flag, record_flag}
use Rattle.pattern_flags.specs.LayoutsLaws.{none_some, newtype_made, Only, one_kept, untagged_only, names_by, slot_index, slot_at, One, one_is, one_not}
use Rattle.pattern_laws.specs.Marks as marks

module _ (ls : List Line) (p : Passed ls) (keep u m : List ℕ) (slotted : Slotted ls keep) (settled : Settled ls u) (sited : Sited ls m) (fuel : ℕ) where
  -- the tables of the program's verdicts
  abbrev pub owner : ℕ → Option Owner
  owner = ctor_owner (run fuel (program ls)).infos

  abbrev pub layout : ℕ → Option Layout
  layout = type_layout (program ls) (run fuel (program ls)).infos

  -- ---- marks
  state_marks : (d : ℕ) → d < decls_of ls → layout_mark (layout_of_decl (program ls) d) ≡ state_mark (state u d)
  unfolding state_mark
  state_marks d h = go (layout_of_decl (program ls) d) (settled.shapes d h)
    where
      go : (l : Layout) → Shape ls u d l → layout_mark l ≡ state_mark (state u d)
      go L_erased e = rw e
      go (L_newtype nt) e = rw e.0
      go (L_struct cls) e = rw e.0
      go (L_abbrev c) e = rw (ne_eqb (state u d) 0 (λ z. omega arith), ne_eqb (state u d) 1 (λ z. omega arith))
      go L_opaque e = rw e.0

  ctor_marks : (n : ℕ) → n < count_of name_line ls → marks.ctor_mark (owner n) ≡ ctor_mark u m n
  unfolding marks.ctor_mark ctor_mark owner_told
  ctor_marks n h =
      untagged_mark (owner n)
      ∙ ap marks.ctor_mark (owner_sited ls p m sited n h keep slotted fuel)
      ∙ go (get_or m (3 * n) 0) (inside_sited ls p n m sited h).0
    where
      untagged_mark : (o : Option Owner) → marks.ctor_mark o ≡ marks.ctor_mark (untagged_owner o)
      untagged_mark none = refl
      untagged_mark (some o) = refl

      go : (a : ℕ) → a ≤ decls_of ls → marks.ctor_mark (owner_told ls keep n a (get_or m (3 * n + 1) 0) (get_or m (3 * n + 2) 0)) ≡ (eqb a 0 ⇒ 1 ∥ state_mark (state u (a - 1)))
      go zero l = refl
      go (suc d) l =
          let e : suc d - 1 ≡ d = omega arith in
          rw (ne_eqb (suc d) 0 (λ z. omega arith), e) (state_marks d l)

  -- the layout of a type's name
  layout_cases : (P : Option Layout → ℕ → Type 0) (n : ℕ) → ((d : ℕ) → d < decls_of ls → P (some (layout_of_decl (program ls) d)) d) → ((d : ℕ) → d ≡ decls_of ls → P none d) → P (layout n) (position (program ls) n)
  layout_cases P n f g =
      ⊎_elim
      (λ (h : position (program ls) n < length (program ls)).
      let l : position (program ls) n < decls_of ls = rw (sym (length_program ls)) h in
      rw (declared_layout fuel (program ls) n h, (verdict_at ls fuel (position (program ls) n) l).0) (f (position (program ls) n) l))
      (λ (e : position (program ls) n ≡ length (program ls)). rw (foreign_layout fuel (program ls) n e) (g (position (program ls) n) (e ∙ length_program ls)))
      (declared_cases (program ls) n)

  record_marks : (n : ℕ) → marks.record_mark (layout n) ≡ state_mark (state u (position (program ls) n))
  unfolding marks.record_mark state_mark
  record_marks n =
      layout_cases (λ l d. marks.record_mark l ≡ state_mark (state u d)) n state_marks
      (λ d e. rw (get_or-eq_default u 3 {n = 2 * d} (omega (arith, settled.long, e))))

  -- ---- flags of a constructor's parts
  slot_flags : (d : ℕ) → d < decls_of ls → (n f k : ℕ) (gs : List ℕ) → Only (layout_of_decl (program ls) d) (laid ls keep (params_of ls d) n f k)
      → layout_flag (layout_of_decl (program ls) d) (laid ls keep (params_of ls d) n f k) gs ≡ slot_flag keep (state u d) f k (length gs)
  unfolding slot_flag
  slot_flags d h n f k gs = go (layout_of_decl (program ls) d) (settled.shapes d h)
    where
      by_slot : (s : ℕ) → (s ≡ 0 → ⊥) → (s ≡ 1 → ⊥) → kept_if (get_or (slots_by keep f k) (length gs) true) ≡ slot_flag keep s f k (length gs)
      by_slot s a c = rw (ne_eqb s 0 a, ne_eqb s 1 c) (ap kept_if (slot_at keep f k (length gs) true) ∙ pick_out (ltb (length gs) k))
        where
          pick_out : (x : Bool) → kept_if (x ⇒ eqb (get_or keep (f + length gs) 0) 1 ∥ true) ≡ (x ⇒ kept_if (eqb (get_or keep (f + length gs) 0) 1) ∥ 1)
          pick_out true = refl
          pick_out false = refl

      go : (l : Layout) → Shape ls u d l → Only l (laid ls keep (params_of ls d) n f k) → layout_flag l (laid ls keep (params_of ls d) n f k) gs ≡ slot_flag keep (state u d) f k (length gs)
      go L_erased e o = rw e
      go (L_newtype nt) e o =
          let w = one_kept n (slots_by keep f k) (fields_by ls keep (params_of ls d) f k) nt o in
          rw (e.0, w.index) (ap kept_if (slot_index ls keep (params_of ls d) f k (length gs) (ap length w.only) ∙ slot_at keep f k (length gs) false) ∙ pick_out (ltb (length gs) k))
        where
          pick_out : (x : Bool) → kept_if (x ⇒ eqb (get_or keep (f + length gs) 0) 1 ∥ false) ≡ (x ⇒ kept_if (eqb (get_or keep (f + length gs) 0) 1) ∥ 0)
          pick_out true = refl
          pick_out false = refl
      go (L_struct cls) e o = by_slot (state u d) (λ z. omega (arith, e.0)) (λ z. omega (arith, e.0))
      go (L_abbrev c) e o = by_slot (state u d) (λ z. omega arith) (λ z. omega arith)
      go L_opaque e o = by_slot (state u d) (λ z. omega (arith, e.0)) (λ z. omega (arith, e.0))

  ctor_flags : (n : ℕ) → n < count_of name_line ls → (gs : List ℕ) → marks.ctor_flag (owner n) gs ≡ ctor_flag keep u m n (length gs)
  unfolding marks.ctor_flag ctor_flag owner_told
  ctor_flags n h gs =
      untagged_flag (owner n) ∙ ap (λ (o : Option Owner). marks.ctor_flag o gs) q ∙ go (get_or m (3 * n) 0) (inside_sited ls p n m sited h).0 q
    where
      untagged_layout : (l : Layout) (cl : CtorLayout) → layout_flag l cl gs ≡ layout_flag l (untagged cl) gs
      untagged_layout L_erased cl = refl
      untagged_layout (L_newtype nt) cl = refl
      untagged_layout (L_struct cls) cl = refl
      untagged_layout (L_abbrev c) cl = refl
      untagged_layout L_opaque cl = refl

      untagged_flag : (o : Option Owner) → marks.ctor_flag o gs ≡ marks.ctor_flag (untagged_owner o) gs
      untagged_flag none = refl
      untagged_flag (some o) = untagged_layout o.layout o.ctor_layout

      q : untagged_owner (owner n) ≡ owner_told ls keep n (get_or m (3 * n) 0) (get_or m (3 * n + 1) 0) (get_or m (3 * n + 2) 0)
      q = owner_sited ls p m sited n h keep slotted fuel

      go : (a : ℕ) → a ≤ decls_of ls → untagged_owner (owner n) ≡ owner_told ls keep n a (get_or m (3 * n + 1) 0) (get_or m (3 * n + 2) 0)
          → marks.ctor_flag (owner_told ls keep n a (get_or m (3 * n + 1) 0) (get_or m (3 * n + 2) 0)) gs
          ≡ (eqb a 0 ⇒ 1 ∥ slot_flag keep (state u (a - 1)) (get_or m (3 * n + 1) 0) (get_or m (3 * n + 2) 0) (length gs))
      go zero l e = refl
      go (suc d) l e =
          let z : suc d - 1 ≡ d = omega arith in
          rw (ne_eqb (suc d) 0 (λ y. omega arith), z) (slot_flags d l n (get_or m (3 * n + 1) 0) (get_or m (3 * n + 2) 0) gs (untagged_only ls fuel n _ e))

  -- ---- flags of a record's parts
  module _ (d : ℕ) (h : d < decls_of ls) where
    -- the kept fields' names
    names_are : (o : One ls keep d) (f : ℕ) → names_one o.ctor.cl_fields f ≡ decl_names ls keep d f
    unfolding decl_names
    names_are o f = ap (λ (fs : List Field). names_one fs f) o.fields ∙ names_by ls keep (params_of ls d) (first_of field_line ls d) (first_of field_line ls (suc d) - first_of field_line ls d) f

    newtype_one : (nt : NewtypeLayout) → newtype_of (ctors_at (program ls) d) ≡ some nt → one_ctor ls d ≡ true
    unfolding newtype_of
    newtype_one nt e = go (one_ctor ls d) refl
      where
        single : (cls : List CtorLayout) → newtype_of cls ≡ some nt → length cls ≡ 1
        single [] e = none_some e
        single (cl ∷ []) e = refl
        single (cl ∷ cm ∷ cls) e = none_some e

        go : (c : Bool) → one_ctor ls d ≡ c → c ≡ true
        go true o = refl
        go false o = absurd (one_not ls p keep slotted d h o (single (ctors_at (program ls) d) e))

    newtype_flags : (nt : NewtypeLayout) → layout_of_decl (program ls) d ≡ L_newtype nt → (qs : List Line) (link f : ℕ) → marks.newtype_flag nt.nt_field (fields_to qs link) f ≡ newtype_flag ls keep qs d link f
    unfolding newtype_flag newtype_of named names_one
    newtype_flags nt e qs link f =
        let q = newtype_made ls d h nt e in
        let o = one_is ls p keep slotted d h (newtype_one nt q) in
        let w = one_kept o.ctor.cl_name o.ctor.cl_slots o.ctor.cl_fields nt (ap newtype_of (sym o.only) ∙ q) in
        let a : decl_names ls keep d f ≡ (named nt.nt_field f || false) = sym (names_are o f) ∙ ap (λ (fs : List Field). names_one fs f) w.only ∙ ap (λ (g : ℕ). named g f || false) (sym w.name) in
        rw a (go (named nt.nt_field f) refl)
      where
        go : (x : Bool) → named nt.nt_field f ≡ x
            → ◌≡◌ {A = ℕ} (x ⇒ pick (has_field (suc nt.nt_field) (fields_to qs link)) 2 1 ∥ 0) ((x || false) ⇒ pick (has_field f (fields_to qs link)) 2 1 ∥ 0)
        go true y = ap (λ (g : ℕ). pick {A = ℕ} (has_field g (fields_to qs link)) 2 1) (sym (eqb-true f (suc nt.nt_field) y))
        go false y = refl

    struct_flags : (gs : List ℕ) (f : ℕ) → marks.record_flag (some (L_struct (ctors_at (program ls) d))) gs f ≡ struct_flag ls keep d f
    unfolding struct_flag marks.record_flag
    struct_flags gs f = go (one_ctor ls d) refl
      where
        others : (cls : List CtorLayout) → (length cls ≡ 1 → ⊥) → marks.record_flag (some (L_struct cls)) gs f ≡ 1
        others [] n = refl
        others (cl ∷ []) n = absurd (n refl)
        others (cl ∷ cm ∷ cls) n = refl

        go : (c : Bool) → one_ctor ls d ≡ c → marks.record_flag (some (L_struct (ctors_at (program ls) d))) gs f ≡ (c ⇒ kept_if (decl_names ls keep d f) ∥ 1)
        go true e =
            let o = one_is ls p keep slotted d h e in
            ap (λ (cls : List CtorLayout). marks.record_flag (some (L_struct cls)) gs f) o.only ∙ ap kept_if (names_are o f)
        go false e = others (ctors_at (program ls) d) (one_not ls p keep slotted d h e)

    record_here : (qs : List Line) (link f : ℕ) → marks.record_flag (some (layout_of_decl (program ls) d)) (fields_to qs link) f ≡ record_flag ls keep u qs d link f
    unfolding record_flag marks.record_flag struct_flag one_ctor
    record_here qs link f = rw (ne_eqb d (decls_of ls) (λ z. omega arith)) (go (layout_of_decl (program ls) d) refl (settled.shapes d h))
      where
        bare : body_kind ls d ≤ 1 → struct_flag ls keep d f ≡ 1
        bare l = rw (ne_eqb (body_kind ls d) 2 (λ z. omega arith), ne_eqb (body_kind ls d) 3 (λ z. omega arith))

        go : (l : Layout) → layout_of_decl (program ls) d ≡ l → Shape ls u d l
            → marks.record_flag (some l) (fields_to qs link) f ≡ (eqb (state u d) 0 ⇒ 0 ∥ eqb (state u d) 1 ⇒ newtype_flag ls keep qs d link f ∥ struct_flag ls keep d f)
        go L_erased e s = rw s
        go (L_newtype nt) e s = rw s.0 (newtype_flags nt e qs link f)
        go (L_struct cls) e s = rw (s.0, s.3) (struct_flags (fields_to qs link) f)
        go (L_abbrev c) e s = rw (ne_eqb (state u d) 0 (λ z. omega arith), ne_eqb (state u d) 1 (λ z. omega arith)) (sym (bare (omega arith)))
        go L_opaque e s = rw s.0 (sym (bare (omega (arith, s.1))))

  record_flags : (n : ℕ) (qs : List Line) (link f : ℕ) → marks.record_flag (layout n) (fields_to qs link) f ≡ record_flag ls keep u qs (position (program ls) n) link f
  unfolding record_flag marks.record_flag
  record_flags n qs link f =
      layout_cases (λ l d. marks.record_flag l (fields_to qs link) f ≡ record_flag ls keep u qs d link f) n (λ d h. record_here d h qs link f) (λ d e. rw (eq-eqb d (decls_of ls) e))

  -- ---- line after line
  module _ (qs : List Line) (good : AllGood (count_of name_line ls) qs) where
    mark_is : (i : ℕ) → i < length qs → mark_at ls u m qs i ≡ mark_of owner layout (kind_of (nth_line qs i)) (name_of (nth_line qs i))
    unfolding mark_at mark_of
    mark_is i h = go (eqb (kind_of (nth_line qs i)) 3) (eqb (kind_of (nth_line qs i)) 4) refl
      where
        go : (x y : Bool) → eqb (kind_of (nth_line qs i)) 3 ≡ x
            → ◌≡◌ {A = ℕ} (x ⇒ ctor_mark u m (name_of (nth_line qs i)) ∥ y ⇒ state_mark (state u (position (program ls) (name_of (nth_line qs i)))) ∥ 1)
            (x ⇒ marks.ctor_mark (owner (name_of (nth_line qs i))) ∥ y ⇒ marks.record_mark (layout (name_of (nth_line qs i))) ∥ 1)
        go true y e = sym (ctor_marks (name_of (nth_line qs i)) (name_is (count_of name_line ls) qs i 3 (good i h) (eqb-true (kind_of (nth_line qs i)) 3 e) refl refl))
        go false true e = sym (record_marks (name_of (nth_line qs i)))
        go false false e = refl

    part_is : (o : ℕ) → o < length qs → (link f : ℕ)
        → part_flag ls keep u m qs o (length (fields_to qs link)) link f ≡ flag_of owner layout (kind_of (nth_line qs o)) (name_of (nth_line qs o)) (fields_to qs link) f
    unfolding part_flag flag_of
    part_is o h link f = go (eqb (kind_of (nth_line qs o)) 3) (eqb (kind_of (nth_line qs o)) 4) refl
      where
        go : (x y : Bool) → eqb (kind_of (nth_line qs o)) 3 ≡ x
            → ◌≡◌ {A = ℕ}
            (x ⇒ ctor_flag keep u m (name_of (nth_line qs o)) (length (fields_to qs link)) ∥ y ⇒ record_flag ls keep u qs (position (program ls) (name_of (nth_line qs o))) link f ∥ 1)
            (x ⇒ marks.ctor_flag (owner (name_of (nth_line qs o))) (fields_to qs link) ∥ y ⇒ marks.record_flag (layout (name_of (nth_line qs o))) (fields_to qs link) f ∥ 1)
        go true y e = sym (ctor_flags (name_of (nth_line qs o)) (name_is (count_of name_line ls) qs o 3 (good o h) (eqb-true (kind_of (nth_line qs o)) 3 e) refl refl) (fields_to qs link))
        go false true e = sym (record_flags (name_of (nth_line qs o)) qs link f)
        go false false e = refl

    flag_is : (o i : ℕ) → o ≤ length qs
        → flag_at ls keep u m qs o (length (fields_to qs (previous_of (nth_line qs i)))) i ≡ flag_by owner layout qs o (fields_to qs (previous_of (nth_line qs i))) (field_of (nth_line qs i))
    unfolding flag_at flag_by
    flag_is zero i h = refl
    flag_is (suc o) i h = part_is o h (previous_of (nth_line qs i)) (field_of (nth_line qs i))

    -- Marks and flags by the tables are those by the layouts of the program's types.
    pub marked_tables : (place xs gs : List ℕ) → Placed qs place → MarksTo ls u m qs xs (length qs) → FlagsTo ls keep u m qs (owners_of qs) place gs (length qs)
        → Marked owner layout qs (owners_of qs) xs gs
    unfolding marks.flag_at
    marked_tables place xs gs placed ms fs =
        record {
          linked = linked_is (count_of name_line ls) qs good;
          owned = owners_owned qs (linked_is (count_of name_line ls) qs good) (unshared_is (count_of name_line ls) qs good);
          kind = λ q h. (good_is (count_of name_line ls) qs q (good q h)).kind;
          leaf = λ q h. leaf_is (count_of name_line ls) qs q (good q h);
          mark = λ q h. ms.mark q h ∙ mark_is q h;
          flag = λ q h. fs.flag q h ∙ ap (λ (n : ℕ). flag_at ls keep u m qs (get_or (owners_of qs) q 0) n q) (placed.held q h) ∙ flag_is (get_or (owners_of qs) q 0) q (owners_low qs q);
        }

    -- With them the lines give what `rw_pat` gives of the pattern that the Q lines denote.
    pub tables_rewritten : (place xs gs : List ℕ) → Placed qs place → MarksTo ls u m qs xs (length qs) → FlagsTo ls keep u m qs (owners_of qs) place gs (length qs)
        → 0 < length qs → made_of xs gs qs ≡ rewritten fuel (program ls) (pattern qs)
    unfolding rewritten
    tables_rewritten place xs gs placed ms fs z = marked_is_rewritten owner layout qs (owners_of qs) xs gs (marked_tables place xs gs placed ms fs) z

-- what `flags` asks of owners and places
pub owners_ready : (qs : List Line) (own place : List ℕ) → own ≡ owners_of qs → length place ≡ length qs → Owners qs own place
owners_ready qs own place e l =
    record { owned = rw e (omega (arith, owners_long qs)); placed = omega (arith, l); low = λ j. rw e (owners_low qs j) }
