-- Pinning: a program whose first declarations are imported with the verdicts that they get on their own
-- gives every declaration the same verdict, left declaration and faults. Assumes nothing.
use Rattle.std.specs.Prelude.{◌⊎◌, ◌≡◌, true, ℕ, zero, suc, ◌+◌, ◌-◌, ◌≤◌, ◌<◌, length, take, drop}
use Rattle.std.proofs.Common.{inl, inr, ◌∙◌, subst, arith, take-append-drop, length-append, get_or-append-add, get_or-take, length-take-le, ext_get_or, ltb-true, ltb-false, lt-ltb}
use Rattle.std.proofs.Math.Path.{refl, sym, ap, ap₂, fun_ext}
use mathlib.Core.List.{List, [], ◌∷◌, ◌++◌, Memᴰ}
use Rattle.std.proofs.Math.Bool.{Bool, false}
use Rattle.std.proofs.Math.Option.{Option, none, some}
use Rattle.std.proofs.Math.Dec.{ltb}
use Rattle.std.proofs.Math.ListN.{get_or, get_or-append}
use Rattle.model.specs.Decl.{
  Dtype,
  L_opaque,
  TypeInfo,
  Origin,
  here,
  imported,
  Decl,
  no_decl,
  dtype_at,
  origin_at,
  table,
  position,
}
use Rattle.model.specs.Erasure.{marked, rule, rule_of, erasure_fixpoint}
use Rattle.model.specs.Layout.{ctor_layouts, dropped, layout_of, compute_layouts, candidates_of, passes_of}
use Rattle.model.specs.Run.{left_program, info, layouts_of, somes, run, returns, decl_fault, layout_of_decl, left_at, info_at}
use Rattle.model.specs.Names.{dtype_names, Declared, undeclared, Distinct, Agree, Pin, pins, OwnImports}
use Rattle.model_laws.specs.Names.{position_name, position_distinct, position_declared, position_append_left, agree_prefix, undeclared_of, position_same, not_declared}
use Rattle.model_laws.specs.Erasure.{erasure_solves, erasure_pinned}
use Rattle.model_laws.specs.Layout.{Placed, layout_at, pinned_layouts, get_or_layouts}
use Rattle.model_laws.specs.Run.{run_lefts, run_infos, get_or_infos, length_infos, left_same, lefts_same, fault_same, returns_same}
use Rattle.model_laws.specs.Locality.{info_local, left_local, fault_local, returns_local}
use Rattle.model_laws.specs.Lists.{length_table, get_or_table, table_cong}

-- ---- pinned programs
pub pin_length : (ds : List Decl) (tis : List TypeInfo) → length tis ≡ length ds → length (pins ds tis) ≡ length ds
unfolding pins
pin_length [] tis e = refl
pin_length (d ∷ ds) [] e = absurd (omega arith)
pin_length (d ∷ ds) (ti ∷ tis) e = ap suc (pin_length ds tis (omega arith))

pub pin_dtype : (ds : List Decl) (tis : List TypeInfo) (i : ℕ) → length tis ≡ length ds → dtype_at (pins ds tis) i ≡ dtype_at ds i
unfolding pins
pin_dtype [] tis i e = refl
pin_dtype (d ∷ ds) [] i e = absurd (omega arith)
pin_dtype (d ∷ ds) (ti ∷ tis) zero e = refl
pin_dtype (d ∷ ds) (ti ∷ tis) (suc i) e = pin_dtype ds tis i (omega arith)

pub pin_origin : (ds : List Decl) (tis : List TypeInfo) (i : ℕ) (t : TypeInfo) → i < length ds → length tis ≡ length ds
    → origin_at (pins ds tis) i ≡ imported (get_or tis i t)
unfolding pins
pin_origin [] tis i t h e = absurd (omega arith)
pin_origin (d ∷ ds) [] i t h e = absurd (omega arith)
pin_origin (d ∷ ds) (ti ∷ tis) zero t h e = refl
pin_origin (d ∷ ds) (ti ∷ tis) (suc i) t h e = pin_origin ds tis i t (omega arith) (omega arith)

-- ---- appended programs
at_left : (ds es : List Decl) (i : ℕ) → i < length ds → get_or (ds ++ es) i no_decl ≡ get_or ds i no_decl
at_left ds es i h = get_or-append ds es no_decl i h

at_right : (ds ds' es : List Decl) (i : ℕ) → length ds ≡ length ds' → length ds ≤ i → get_or (ds ++ es) i no_decl ≡ get_or (ds' ++ es) i no_decl
at_right ds ds' es i e h =
    let k : length ds + (i - length ds) ≡ i = omega arith in
    let k' : length ds' + (i - length ds) ≡ i = omega arith in
    subst (λ (j : ℕ). get_or (ds ++ es) j no_decl ≡ get_or es (i - length ds) no_decl) k (get_or-append-add ds es (i - length ds) no_decl)
    ∙ sym (subst (λ (j : ℕ). get_or (ds' ++ es) j no_decl ≡ get_or es (i - length ds) no_decl) k' (get_or-append-add ds' es (i - length ds) no_decl))

somes_append : (xs ys : List (Option Dtype)) → somes (xs ++ ys) ≡ somes xs ++ somes ys
unfolding somes
somes_append [] ys = refl
somes_append (none ∷ xs) ys = somes_append xs ys
somes_append (some d ∷ xs) ys = ap (λ (r : List Dtype). d ∷ r) (somes_append xs ys)

-- the first part names nothing that the second declares
abbrev pub Apart : List Decl → List Decl → Type 0
Apart ds es = (i : ℕ) → i < length ds → (m : ℕ) → Memᴰ m (dtype_names (dtype_at ds i)) → undeclared es m ≡ true

pub apart_agree : (ds es : List Decl) → Apart ds es → Agree (undeclared es) ds (ds ++ es)
apart_agree ds es h = agree_prefix ds es h

pub distinct_left : (ds es : List Decl) → Distinct (ds ++ es) → Distinct ds
distinct_left ds es d i j h k e =
    d i j (rw length-append (omega arith)) (rw length-append (omega arith))
    (ap (λ (x : Decl). x.dtype.dt_name) (at_left ds es i h) ∙ (e ∙ sym (ap (λ (x : Decl). x.dtype.dt_name) (at_left ds es j k))))

-- a name that the first part declares is not declared again
pub distinct_undeclared : (ds es : List Decl) → Distinct (ds ++ es) → (i : ℕ) → i < length ds → undeclared es (dtype_at ds i).dt_name ≡ true
distinct_undeclared ds es d i h = undeclared_of es n (not_declared es n again)
  where
    n : ℕ
    n = (dtype_at ds i).dt_name

    again : Declared es n → ⊥
    again k =
        let name : (dtype_at (ds ++ es) (length ds + position es n)).dt_name ≡ n =
        ap (λ (x : Decl). x.dtype.dt_name) (get_or-append-add ds es (position es n) no_decl) ∙ position_name es n k in
        let same : i ≡ length ds + position es n =
        d i (length ds + position es n) (rw length-append (omega arith)) (rw length-append (omega arith))
        (ap (λ (x : Decl). x.dtype.dt_name) (at_left ds es i h) ∙ sym name) in
        omega arith

-- ---- the first part on its own
module _ (ds es : List Decl) (distinct : Distinct (ds ++ es)) (apart : Apart ds es) where
  place_left : (i : ℕ) → i < length ds → position ds (dtype_at ds i).dt_name ≡ i
  place_left i h = position_distinct ds (distinct_left ds es distinct) i h

  place_whole : (i : ℕ) → i < length ds → position (ds ++ es) (dtype_at ds i).dt_name ≡ i
  place_whole i h =
      position_append_left ds es (dtype_at ds i).dt_name (position_declared ds i h) ∙ place_left i h

  module _ (fuel : ℕ) (own : OwnImports ds) where
    -- its verdicts, left declarations, faults and loops are those in the whole
    pub prefix_info : (i : ℕ) → i < length ds → info_at fuel ds i ≡ info_at fuel (ds ++ es) i
    prefix_info i h =
        ap (info_at fuel ds) (sym (place_left i h))
        ∙ (info_local (undeclared es) ds (ds ++ es) (apart_agree ds es apart) own fuel (dtype_at ds i).dt_name (distinct_undeclared ds es distinct i h) (position_declared ds i h)
        ∙ ap (info_at fuel (ds ++ es)) (place_whole i h))

    pub prefix_left : (i : ℕ) → i < length ds → left_at fuel ds i ≡ left_at fuel (ds ++ es) i
    prefix_left i h =
        ap (left_at fuel ds) (sym (place_left i h))
        ∙ (left_local (undeclared es) ds (ds ++ es) (apart_agree ds es apart) own fuel (dtype_at ds i).dt_name (distinct_undeclared ds es distinct i h) (position_declared ds i h)
        ∙ ap (left_at fuel (ds ++ es)) (place_whole i h))

    pub prefix_fault : (limit i : ℕ) → i < length ds → decl_fault limit fuel ds (layouts_of ds) i ≡ decl_fault limit fuel (ds ++ es) (layouts_of (ds ++ es)) i
    prefix_fault limit i h =
        ap (decl_fault limit fuel ds (layouts_of ds)) (sym (place_left i h))
        ∙ (fault_local (undeclared es) ds (ds ++ es) (apart_agree ds es apart) own limit fuel (dtype_at ds i).dt_name (distinct_undeclared ds es distinct i h) (position_declared ds i h)
        ∙ ap (decl_fault limit fuel (ds ++ es) (layouts_of (ds ++ es))) (place_whole i h))

    pub prefix_returns : OwnImports (ds ++ es) → (i : ℕ) → i < length ds → returns ds (layouts_of ds) i ≡ returns (ds ++ es) (layouts_of (ds ++ es)) i
    prefix_returns own' i h =
        ap (returns ds (layouts_of ds)) (sym (place_left i h))
        ∙ (returns_local (undeclared es) ds (ds ++ es) (apart_agree ds es apart) own own' (dtype_at ds i).dt_name (distinct_undeclared ds es distinct i h) (position_declared ds i h)
        ∙ ap (returns (ds ++ es) (layouts_of (ds ++ es))) (place_whole i h))

    -- the whole's verdicts begin with those of the first part
    pub prefix_infos : (run fuel (ds ++ es)).infos ≡ (run fuel ds).infos ++ drop (length ds) (run fuel (ds ++ es)).infos
    prefix_infos =
        sym (take-append-drop (length ds) (run fuel (ds ++ es)).infos)
        ∙ ap (λ (xs : List TypeInfo). xs ++ drop (length ds) (run fuel (ds ++ es)).infos)
        (ext_get_or no_info (take (length ds) (run fuel (ds ++ es)).infos) (run fuel ds).infos (same_count ∙ sym (length_infos fuel ds)) (λ i h. at i (omega (arith, same_count))))
      where
        no_info : TypeInfo
        no_info = record { ti_erased = false; ti_layout = L_opaque; ti_ctors = []; ti_record = false }

        same_count : length (take (length ds) (run fuel (ds ++ es)).infos) ≡ length ds
        same_count = length-take-le (length ds) (run fuel (ds ++ es)).infos (rw (length_infos fuel, length-append) (omega arith))

        at : (i : ℕ) → i < length ds → get_or (take (length ds) (run fuel (ds ++ es)).infos) i no_info ≡ get_or (run fuel ds).infos i no_info
        at i h =
            get_or-take (length ds) (run fuel (ds ++ es)).infos i no_info h
            ∙ (get_or_infos fuel (ds ++ es) i no_info (rw length-append (omega arith)) ∙ (sym (prefix_info i h) ∙ sym (get_or_infos fuel ds i no_info h)))

    -- and so does what is left
    pub prefix_lefts : (xs : List (Option Dtype)) × ((run fuel (ds ++ es)).lefts ≡ (run fuel ds).lefts ++ xs)
    prefix_lefts = (
      drop (length ds) whole,
      run_lefts fuel (ds ++ es)
          ∙ (sym (take-append-drop (length ds) whole)
          ∙ ap (λ (x : List (Option Dtype)). x ++ drop (length ds) whole) (same ∙ sym (run_lefts fuel ds))),
    )
      where
        whole : List (Option Dtype)
        whole = table (left_at fuel (ds ++ es)) (length (ds ++ es))

        same_count : length (take (length ds) whole) ≡ length ds
        same_count = length-take-le (length ds) whole (rw (length_table (left_at fuel (ds ++ es)) (length (ds ++ es)), length-append) (omega arith))

        at : (i : ℕ) → i < length ds → get_or (take (length ds) whole) i none ≡ get_or (table (left_at fuel ds) (length ds)) i none
        at i h =
            get_or-take (length ds) whole i none h
            ∙ (get_or_table (left_at fuel (ds ++ es)) (length (ds ++ es)) i none (rw length-append (omega arith))
            ∙ (sym (prefix_left i h) ∙ sym (get_or_table (left_at fuel ds) (length ds) i none h)))

        same : take (length ds) whole ≡ table (left_at fuel ds) (length ds)
        same = ext_get_or none (take (length ds) whole) (table (left_at fuel ds) (length ds)) (same_count ∙ sym (length_table (left_at fuel ds) (length ds))) (λ i h. at i (omega (arith, same_count)))

    pub prefix_program : (xs : List (Option Dtype)) × (left_program (run fuel (ds ++ es)) ≡ left_program (run fuel ds) ++ somes xs)
    prefix_program = (prefix_lefts.0, ap somes prefix_lefts.1 ∙ somes_append (run fuel ds).lefts prefix_lefts.0)

    -- ---- the first part imported
    abbrev pub imported_first : List Decl
    imported_first = pins ds (run fuel ds).infos ++ es

    pins_length : length (pins ds (run fuel ds).infos) ≡ length ds
    pins_length = pin_length ds (run fuel ds).infos (length_infos fuel ds)

    pub first_length : length (ds ++ es) ≡ length imported_first
    first_length = rw (length-append, length-append, pins_length)

    first_dtype : (i : ℕ) → i < length (ds ++ es) → dtype_at (ds ++ es) i ≡ dtype_at imported_first i
    first_dtype i h = go (ltb i (length ds)) refl
      where
        go : (b : Bool) → ltb i (length ds) ≡ b → dtype_at (ds ++ es) i ≡ dtype_at imported_first i
        go true e =
            let k : i < length ds = ltb-true i (length ds) e in
            ap (λ (x : Decl). x.dtype) (at_left ds es i k)
            ∙ (sym (pin_dtype ds (run fuel ds).infos i (length_infos fuel ds))
            ∙ sym (ap (λ (x : Decl). x.dtype) (at_left (pins ds (run fuel ds).infos) es i (rw pins_length k))))
        go false e =
            ap (λ (x : Decl). x.dtype) (at_right ds (pins ds (run fuel ds).infos) es i (sym pins_length) (ltb-false i (length ds) e))

    first_origin : (i : ℕ) → i < length ds → origin_at imported_first i ≡ imported (info_at fuel (ds ++ es) i)
    first_origin i h =
        ap (λ (x : Decl). x.origin) (at_left (pins ds (run fuel ds).infos) es i (rw pins_length h))
        ∙ (pin_origin ds (run fuel ds).infos i (info_at fuel ds i) h (length_infos fuel ds)
        ∙ ap imported (get_or_infos fuel ds i (info_at fuel ds i) h ∙ prefix_info i h))

    rest_origin : (i : ℕ) → length ds ≤ i → origin_at (ds ++ es) i ≡ origin_at imported_first i
    rest_origin i h = ap (λ (x : Decl). x.origin) (at_right ds (pins ds (run fuel ds).infos) es i (sym pins_length) h)

    -- what a verdict says of a declaration of the whole
    info_erased : (i : ℕ) → i < length (ds ++ es) → (info_at fuel (ds ++ es) i).ti_erased ≡ get_or (erasure_fixpoint (ds ++ es)).marks i false
    unfolding info_at info rule rule_of
    info_erased i h = go (origin_at (ds ++ es) i) refl (erasure_solves (ds ++ es) i h)
      where
        go : (o : Origin) → origin_at (ds ++ es) i ≡ o
            → get_or (erasure_fixpoint (ds ++ es)).marks i false ≡ rule_of (marked (ds ++ es) (erasure_fixpoint (ds ++ es)).marks) (dtype_at (ds ++ es) i) (origin_at (ds ++ es) i)
            → (info (marked (ds ++ es) (erasure_fixpoint (ds ++ es)).marks) (dtype_at (ds ++ es) i) o (get_or (erasure_fixpoint (ds ++ es)).marks i false) (layout_of_decl (ds ++ es) i) (left_at fuel (ds ++ es) i)).ti_erased
            ≡ get_or (erasure_fixpoint (ds ++ es)).marks i false
        go here e k = refl
        go (imported ti) e k = sym (k ∙ ap (rule_of (marked (ds ++ es) (erasure_fixpoint (ds ++ es)).marks) (dtype_at (ds ++ es) i)) e)

    info_layout : (i : ℕ) → i < length (ds ++ es) → (info_at fuel (ds ++ es) i).ti_layout ≡ layout_of_decl (ds ++ es) i
    unfolding info_at info layouts_of layout_of
    info_layout i h = go (origin_at (ds ++ es) i) refl (get_or_layouts (ds ++ es) (erasure_fixpoint (ds ++ es)).marks i L_opaque h)
      where
        s : List Bool
        s = (erasure_fixpoint (ds ++ es)).marks

        go : (o : Origin) → origin_at (ds ++ es) i ≡ o
            → layout_of_decl (ds ++ es) i ≡ layout_at (ds ++ es) s i
            → (info (marked (ds ++ es) s) (dtype_at (ds ++ es) i) o (get_or s i false) (layout_of_decl (ds ++ es) i) (left_at fuel (ds ++ es) i)).ti_layout ≡ layout_of_decl (ds ++ es) i
        go here e k = refl
        go (imported ti) e k =
            sym (k ∙ ap (λ (o : Origin). layout_of (dtype_at (ds ++ es) i) o (get_or s i false) (dropped (ds ++ es) (passes_of (ds ++ es) s) i) (get_or (candidates_of (ds ++ es) s) i none) (ctor_layouts (marked (ds ++ es) s) (dtype_at (ds ++ es) i))) e)

    -- the marks
    origins_split : (i : ℕ) → i < length (ds ++ es) → (origin_at (ds ++ es) i ≡ origin_at imported_first i) ⊎ Pin (λ ti. ti ≡ info_at fuel (ds ++ es) i) imported_first i
    origins_split i h = go (ltb i (length ds)) refl
      where
        go : (b : Bool) → ltb i (length ds) ≡ b → (origin_at (ds ++ es) i ≡ origin_at imported_first i) ⊎ Pin (λ ti. ti ≡ info_at fuel (ds ++ es) i) imported_first i
        go true e = inr (record { verdict = info_at fuel (ds ++ es) i; pinned = first_origin i (ltb-true i (length ds) e); holds = refl })
        go false e = inl (rest_origin i (ltb-false i (length ds) e))

    pub imported_marks : (erasure_fixpoint imported_first).marks ≡ (erasure_fixpoint (ds ++ es)).marks
    imported_marks =
        erasure_pinned (ds ++ es) imported_first
        (record { same_length = first_length; same_dtypes = first_dtype; origins = origins_split })
        (λ i ti h e. ap (λ (x : TypeInfo). x.ti_erased) e ∙ info_erased i h)

    -- a name of the first part that is declared stands in the first part
    closed_first : (i j : ℕ) → i < length (ds ++ es) → ltb i (length ds) ≡ true → Placed (ds ++ es) (dtype_names (dtype_at (ds ++ es) i)) j → ltb j (length ds) ≡ true
    closed_first i j h e p =
        let k : i < length ds = ltb-true i (length ds) e in
        let n : ℕ = p.name in
        let m : Memᴰ n (dtype_names (dtype_at ds i)) = subst (λ (x : Decl). Memᴰ n (dtype_names x.dtype)) (at_left ds es i k) p.named in
        let g : Declared (ds ++ es) n = rw p.placed p.below in
        let d : Declared ds n = ((apart_agree ds es apart).declared n (apart i k n m)).1 g in
        lt-ltb j (length ds) (rw (← p.placed, position_append_left ds es n d) d)

    pub imported_layouts : layouts_of (ds ++ es) ≡ layouts_of imported_first
    unfolding layouts_of
    imported_layouts =
        pinned_layouts (λ i. ltb i (length ds)) (ds ++ es) imported_first (erasure_fixpoint (ds ++ es)).marks
        (record {
          same_length = first_length;
          same_dtypes = first_dtype;
          others = λ i h b. rest_origin i (ltb-false i (length ds) b);
          pins = λ i h b. record { verdict = info_at fuel (ds ++ es) i; pinned = first_origin i (ltb-true i (length ds) b); holds = info_layout i h };
          closed = closed_first;
        })
        ∙ ap (compute_layouts imported_first) (sym imported_marks)

    -- so the program that is left, the faults and the loops are those of the whole
    pub imported_lefts : (run fuel (ds ++ es)).lefts ≡ (run fuel imported_first).lefts
    imported_lefts = lefts_same (ds ++ es) imported_first first_length first_dtype imported_layouts fuel

    pub imported_fault : (limit i : ℕ) → decl_fault limit fuel (ds ++ es) (layouts_of (ds ++ es)) i ≡ decl_fault limit fuel imported_first (layouts_of imported_first) i
    imported_fault limit = fault_same (ds ++ es) imported_first first_length first_dtype imported_layouts limit fuel

    pub imported_returns : (i : ℕ) → returns (ds ++ es) (layouts_of (ds ++ es)) i ≡ returns imported_first (layouts_of imported_first) i
    imported_returns = returns_same (ds ++ es) imported_first first_length first_dtype imported_layouts

    marked_first : marked (ds ++ es) (erasure_fixpoint (ds ++ es)).marks ≡ marked imported_first (erasure_fixpoint imported_first).marks
    unfolding marked
    marked_first = fun_ext (λ n. ap₂ (λ (s : List Bool) (i : ℕ). get_or s i false) (sym imported_marks) (position_same (ds ++ es) imported_first n first_length first_dtype))

    -- and so is every verdict
    pub imported_info : (i : ℕ) → i < length (ds ++ es) → info_at fuel (ds ++ es) i ≡ info_at fuel imported_first i
    unfolding info_at info
    imported_info i h = go (ltb i (length ds)) refl
      where
        s : List Bool
        s = (erasure_fixpoint imported_first).marks

        go : (b : Bool) → ltb i (length ds) ≡ b → info_at fuel (ds ++ es) i ≡ info_at fuel imported_first i
        go true e =
            sym (ap (λ (o : Origin). info (marked imported_first s) (dtype_at imported_first i) o (get_or s i false) (layout_of_decl imported_first i) (left_at fuel imported_first i)) (first_origin i (ltb-true i (length ds) e)))
        go false e =
            λ j.
            info
            (marked_first j)
            (first_dtype i h j)
            (rest_origin i (ltb-false i (length ds) e) j)
            (get_or (sym imported_marks j) i false)
            (get_or (imported_layouts j) i L_opaque)
            (left_same (ds ++ es) imported_first first_length first_dtype imported_layouts fuel i h j)

    pub imported_infos : (run fuel (ds ++ es)).infos ≡ (run fuel imported_first).infos
    imported_infos =
        run_infos fuel (ds ++ es)
        ∙ (table_cong (info_at fuel (ds ++ es)) (info_at fuel imported_first) (length (ds ++ es)) imported_info
        ∙ (ap (table (info_at fuel imported_first)) first_length ∙ sym (run_infos fuel imported_first)))
