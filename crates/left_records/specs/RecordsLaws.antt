-- The record number of a declaration is that of what is left of it. Assumes nothing.
use Rattle.std.specs.Prelude.{◌≡◌, List, [], ◌∷◌, map, Bool, length, set}
use Rattle.std.proofs.Math.Path.{refl, ap}
use Rattle.std.proofs.Common.{ap₂, sym, ◌∙◌, get_or-set_same, get_or-set_other}
use Rattle.std.proofs.Math.Bool.{true, false, not}
use Rattle.std.proofs.Math.Option.{none, some}
use Prim.Native.Nat.{ℕ, zero, suc, ◌+◌, ◌-◌, ◌/◌, ◌%◌, ◌≤◌, ◌<◌}
use native.Mathlib.Omega.{arith}
use Rattle.std.proofs.Math.Numerals.{add-one}
use Rattle.std.proofs.Math.Dec.{eqb}
use Rattle.std.proofs.Math.ListN.{get_or}
use borrow.Author.Tests.{eqb-true, eqb-false, ne_eqb}
use Rattle.number_columns.specs.Column.{pick, ◌⇒◌∥◌}
use Rattle.sheet.specs.Line.{Line, number}
use Rattle.model.specs.Cty.{Cty}
use Rattle.model.specs.Decl.{Field, TAbstract, TAbbrev, TRecord, TVariant, has_flag, bit, close_fields, Decl, dtype_at}
use Rattle.model.specs.Run.{with_body, resolved_field, record_body, record_verdict, record_of, left_at}
use Rattle.meaning.specs.Program.{ctor_line, field_line, dtype_of, program}
use Rattle.table_access.specs.Tables.{head_line, decls_of, first_of}
use Rattle.table_declared.specs.DeclLaws.{dtype_is}
use Rattle.resolve_kids.specs.Params.{params_of}
use Rattle.keep_layouts.specs.Kept.{body_kind, body_last, ctor_name, ctor_fields, field_at, fields_by, ctors_by}
use Rattle.keep_laws.specs.KeptLaws.{fields_in, total_variant}
use Rattle.keep_layouts.specs.States.{state, body_of}
use Rattle.left_laws.specs.Lefts.{Ready, is_left, Flagged}
use Rattle.form_emit.specs.Left.{left_type}
use Rattle.left_laws.specs.BodyLaws.{left_ctor, resolve_in, left_body, left_is}
use Rattle.left_records.specs.Records.{some_kept, record_by}

-- ---- a constructor that keeps a field
has_field : List Field → Bool
has_field [] = false
has_field (f ∷ fs) = true

record_one : (n : ℕ) (fs : List Field) → record_body (TVariant (record { ct_name = n; ct_fields = fs } ∷ [])) ≡ has_field fs
unfolding record_body has_field
record_one n [] = refl
record_one n (f ∷ fs) = refl

kept_some : (ls : List Line) (keep ps : List ℕ) (res : Cty → Cty) (f n : ℕ) → has_field (map (resolved_field res) (fields_by ls keep ps f n)) ≡ some_kept keep f n
unfolding has_field fields_by some_kept
kept_some ls keep ps res f zero = refl
kept_some ls keep ps res f (suc n) = go (eqb (get_or keep f 0) 1) (kept_some ls keep ps res (suc f) n)
  where
    go : (c : Bool) → has_field (map (resolved_field res) (fields_by ls keep ps (suc f) n)) ≡ some_kept keep (suc f) n
        → has_field (map (resolved_field res) (pick c (field_at ls ps f ∷ fields_by ls keep ps (suc f) n) (fields_by ls keep ps (suc f) n))) ≡ pick c true (some_kept keep (suc f) n)
    go true e = refl
    go false e = e

-- constructors other than one
record_none : (ls : List Line) (keep ps : List ℕ) (res : Cty → Cty) (c f k : ℕ) → (k ≡ 1 → ⊥) → record_body (TVariant (map (left_ctor res) (ctors_by ls keep ps c f k))) ≡ false
unfolding record_body ctors_by
record_none ls keep ps res c f zero n = refl
record_none ls keep ps res c f (suc zero) n = absurd (n refl)
record_none ls keep ps res c f (suc (suc k)) n = refl

record_single : (ls : List Line) (keep ps : List ℕ) (res : Cty → Cty) (c f : ℕ) → record_body (TVariant (map (left_ctor res) (ctors_by ls keep ps c f 1))) ≡ some_kept keep f (ctor_fields ls c)
unfolding ctors_by
record_single ls keep ps res c f = record_one (ctor_name ls c) (map (resolved_field res) (fields_by ls keep ps f (ctor_fields ls c))) ∙ kept_some ls keep ps res f (ctor_fields ls c)

-- ---- a declaration
module _ (ls : List Line) (t u f keep left : List ℕ) (ready : Ready ls t u f keep) (flagged : Flagged ls left) (d : ℕ) (below : d < decls_of ls) where
  abbrev ds : List Decl
  ds = program ls

  flags_are : (dtype_at ds d).dt_flags ≡ number (head_line ls d) 1
  unfolding close_fields dtype_of
  flags_are = rw (dtype_is ls d below) refl

  -- the F lines of the only constructor
  one_count : body_kind ls d ≡ 3 → body_last ls d ≡ 1 → first_of field_line ls (d + 1) - first_of field_line ls d ≡ ctor_fields ls (first_of ctor_line ls d)
  unfolding fields_in
  one_count e k =
      let q : fields_in ls (first_of ctor_line ls d) (body_last ls d) ≡ ctor_fields ls (first_of ctor_line ls d) + 0 = ap (fields_in ls (first_of ctor_line ls d)) k in
      omega (arith, ap (first_of field_line ls) (add-one d), total_variant ls ready.tabled.passed d below e)

  body_record : record_body (left_body ls u keep d)
      ≡ (eqb (state u d) 1 ⇒ false ∥ not (eqb (body_kind ls d) 3) ⇒ false ∥ not (eqb (body_last ls d) 1) ⇒ false ∥ some_kept keep (first_of field_line ls d) (first_of field_line ls (d + 1) - first_of field_line ls d))
  unfolding left_body record_body
  body_record = go (eqb (state u d) 1) (eqb (body_kind ls d) 1) refl (eqb (body_kind ls d) 2) refl (eqb (body_kind ls d) 3) refl (eqb (body_last ls d) 1) refl
    where
      go : (x k1 : Bool) → eqb (body_kind ls d) 1 ≡ k1 → (k2 : Bool) → eqb (body_kind ls d) 2 ≡ k2 → (k3 : Bool) → eqb (body_kind ls d) 3 ≡ k3 → (one : Bool) → eqb (body_last ls d) 1 ≡ one
          → record_body (
          x ⇒ TAbbrev (left_type ls d (body_of u d)) ∥
          k1 ⇒ TAbbrev (left_type ls d (body_last ls d)) ∥
          k2 ⇒ TRecord (map (resolved_field (resolve_in ls)) (fields_by ls keep (params_of ls d) (first_of field_line ls d) (body_last ls d))) ∥
          k3 ⇒ TVariant (map (left_ctor (resolve_in ls)) (ctors_by ls keep (params_of ls d) (first_of ctor_line ls d) (first_of field_line ls d) (body_last ls d))) ∥
          TAbstract)
          ≡ (x ⇒ false ∥ not k3 ⇒ false ∥ not one ⇒ false ∥ some_kept keep (first_of field_line ls d) (first_of field_line ls (d + 1) - first_of field_line ls d))
      go true k1 e1 k2 e2 k3 e3 one e4 = refl
      go false true e1 k2 e2 true e3 one e4 = absurd (omega (arith, eqb-true (body_kind ls d) 1 e1, eqb-true (body_kind ls d) 3 e3))
      go false true e1 k2 e2 false e3 one e4 = refl
      go false false e1 true e2 true e3 one e4 = absurd (omega (arith, eqb-true (body_kind ls d) 2 e2, eqb-true (body_kind ls d) 3 e3))
      go false false e1 true e2 false e3 one e4 = refl
      go false false e1 false e2 true e3 true e4 =
          let k : body_last ls d ≡ 1 = eqb-true (body_last ls d) 1 e4 in
          ap (λ (n : ℕ). record_body (TVariant (map (left_ctor (resolve_in ls)) (ctors_by ls keep (params_of ls d) (first_of ctor_line ls d) (first_of field_line ls d) n)))) k
          ∙ (record_single ls keep (params_of ls d) (resolve_in ls) (first_of ctor_line ls d) (first_of field_line ls d) ∙ ap (some_kept keep (first_of field_line ls d)) (sym (one_count (eqb-true (body_kind ls d) 3 e3) k)))
      go false false e1 false e2 true e3 false e4 =
          record_none ls keep (params_of ls d) (resolve_in ls) (first_of ctor_line ls d) (first_of field_line ls d) (body_last ls d) (eqb-false (body_last ls d) 1 e4)
      go false false e1 false e2 false e3 one e4 = refl

  -- its record number
  pub record_is : record_by ls u keep left d ≡ record_of (left_at 100 ds d)
  unfolding record_by record_of record_verdict has_flag
  record_is = go (is_left (left_at 100 ds d)) (flagged.flags d below) (left_is ls u keep ready.tabled.passed ready.slotted ready.settled d below)
    where
      go : (c : Bool) → get_or left d 0 ≡ bit c → left_at 100 ds d ≡ pick c (some (with_body (dtype_at ds d) (left_body ls u keep d))) none → record_by ls u keep left d ≡ record_of (left_at 100 ds d)
      go true e q = rw (e, q, flags_are, body_record) refl
      go false e q = rw (e, q) refl

-- ---- the code
module _ (keep : List ℕ) (end f : ℕ) where
  pub kept_step : f < end → (get_or keep f 0 ≡ 1 → ⊥) → some_kept keep f (end - f) ≡ some_kept keep (f + 1) (end - (f + 1))
  unfolding some_kept
  kept_step h n = let e : end - f ≡ suc (end - (f + 1)) = omega arith in rw (e, add-one f, ne_eqb (get_or keep f 0) 1 n) refl

  pub kept_hit : f < end → get_or keep f 0 ≡ 1 → some_kept keep f (end - f) ≡ true
  unfolding some_kept
  kept_hit h n = let e : end - f ≡ suc (end - (f + 1)) = omega arith in rw (e, n) refl

  pub kept_end : end ≤ f → some_kept keep f (end - f) ≡ false
  unfolding some_kept
  kept_end h = let e : end - f ≡ 0 = omega arith in rw e refl

-- test after test
module _ (ls : List Line) (u keep left : List ℕ) (d flags : ℕ) (flags_of : flags ≡ number (head_line ls d) 1) where
  pub by_none : get_or left d 0 ≡ 0 → record_by ls u keep left d ≡ false
  unfolding record_by
  by_none e = rw e refl

  module _ (is_there : get_or left d 0 ≡ 0 → ⊥) where
    pub by_source : flags / 2 % 2 ≡ 1 → record_by ls u keep left d ≡ eqb (flags / 16 % 2) 1
    unfolding record_by
    by_source e = rw (ne_eqb (get_or left d 0) 0 is_there, ← flags_of, e) refl

    module _ (own : flags / 2 % 2 ≡ 1 → ⊥) where
      pub by_newtype : state u d ≡ 1 → record_by ls u keep left d ≡ false
      unfolding record_by
      by_newtype e = rw (ne_eqb (get_or left d 0) 0 is_there, ← flags_of, ne_eqb (flags / 2 % 2) 1 own, e) refl

      module _ (no_newtype : state u d ≡ 1 → ⊥) where
        pub by_kind : (body_kind ls d ≡ 3 → ⊥) → record_by ls u keep left d ≡ false
        unfolding record_by
        by_kind e = rw (ne_eqb (get_or left d 0) 0 is_there, ← flags_of, ne_eqb (flags / 2 % 2) 1 own, ne_eqb (state u d) 1 no_newtype, ne_eqb (body_kind ls d) 3 e) refl

        module _ (variant : body_kind ls d ≡ 3) where
          pub by_last : (body_last ls d ≡ 1 → ⊥) → record_by ls u keep left d ≡ false
          unfolding record_by
          by_last e = rw (ne_eqb (get_or left d 0) 0 is_there, ← flags_of, ne_eqb (flags / 2 % 2) 1 own, ne_eqb (state u d) 1 no_newtype, variant, ne_eqb (body_last ls d) 1 e) refl

          pub by_kept : body_last ls d ≡ 1 → (from end : ℕ) → from ≡ first_of field_line ls d → end ≡ first_of field_line ls (d + 1) → record_by ls u keep left d ≡ some_kept keep from (end - from)
          unfolding record_by
          by_kept e from end p q = rw (ne_eqb (get_or left d 0) 0 is_there, ← flags_of, ne_eqb (flags / 2 % 2) 1 own, ne_eqb (state u d) 1 no_newtype, variant, e) (ap₂ (λ (i j : ℕ). some_kept keep i (j - i)) (sym p) (sym q))

-- declaration after declaration
pub number_more : (g : ℕ → ℕ) (ns : List ℕ) (d : ℕ) → d < length ns → ((e : ℕ) → e < d → get_or ns e 0 ≡ g e) → (v : ℕ) → v ≡ g d → (e : ℕ) → e < d + 1 → get_or (set ns d v) e 0 ≡ g e
number_more g ns d h k v q e l = go (eqb e d) refl
  where
    go : (c : Bool) → eqb e d ≡ c → get_or (set ns d v) e 0 ≡ g e
    go true z = ap (λ (j : ℕ). get_or (set ns d v) j 0) (eqb-true e d z) ∙ (get_or-set_same ns d v 0 h ∙ (q ∙ ap g (sym (eqb-true e d z))))
    go false z = get_or-set_other ns d e v 0 (eqb-false e d z) ∙ k e (omega (arith, eqb-false e d z))
