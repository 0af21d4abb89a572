-- The lines of a declaration that is left, part by part. Assumes nothing.
use Rattle.std.specs.Prelude.{◌≡◌, refl, Bool, true, false, ℕ, zero, suc, ◌+◌, ◌*◌, ◌-◌, ◌≤◌, ◌<◌, eqb, length, get_or}
use Rattle.std.proofs.Common.{ap, ap₂, sym, ◌∙◌, subst, arith}
use mathlib.Core.List.{List, ◌∷◌, Memᴰ}
use Rattle.std.proofs.Math.Numerals.{add-one}
use borrow.Author.Tests.{eq-eqb, ne_eqb, eqb-true, eqb-false}
use Rattle.std.proofs.lemmas.List.{length-map}
use Rattle.number_columns.specs.Column.{pick}
use Rattle.sheet.specs.Line.{Line}
use Rattle.sheet.proofs.ListLaws.{get_or_within}
use Rattle.model.specs.Cty.{Cty}
use Rattle.model.specs.Decl.{Body, TAbstract, TAbbrev, TRecord, TVariant}
use Rattle.meaning.specs.Program.{ctor_line, field_line}
use Rattle.meaning.specs.Output.{Written, field_lines, ctor_lines, decl_frame, decl_lines}
use Rattle.row4_limits.specs.Limits.{start}
use Rattle.table_access.specs.Tables.{first_of}
use Rattle.table_declared.specs.DeclLaws.{first_next, whole_at}
use Rattle.resolve_kids.specs.Params.{params_of}
use Rattle.resolve_kids.specs.ParamsLaws.{count_before_le}
use Rattle.keep_layouts.specs.Kept.{body_kind, body_last, field_type, fields_by, ctors_by}
use Rattle.keep_laws.specs.KeptLaws.{fields_in, length_ctors_by, total_record, total_variant}
use Rattle.keep_layouts.specs.States.{state, body_of, kept_types, resolves_of}
use Rattle.form_emit.specs.Left.{left_type}
use Rattle.left_laws.specs.BodyLaws.{left_body}
use Rattle.left_places.specs.declared.Place.{Place}
use Rattle.left_places.specs.Places.{Writing, typed, Growing, Room, Writes, Typed}
use Rattle.left_places.specs.PlacesLaws.{writes_as, room_as, room_first, room_rest, writes_seq}
use Rattle.left_fields.specs.Fields.{left_of, left_fields, kept_count, Fields}
use Rattle.left_fields.specs.FieldsLaws.{count_fields, type_number}
use Rattle.left_ctors.specs.Ctors.{ctor_left, left_ctors, Ctors}
use Rattle.left_decls.specs.Heads.{by_last, decl_with, framed, bare}
use Rattle.left_decls.specs.HeadsLaws.{room_last, writes_last}
use Rattle.left_decls.specs.Decls.{left_writing, abbreviated, recorded, varied, Given}

-- ---- an abbreviation
module _ (ls : List Line) (d : ℕ) (c : Cty) (p q : Place) (out mid : List ℕ) (r : Room (abbreviated ls d c) p out) where
  grows : Growing (by_last (bare ls d 1))
  grows w = (omega arith, omega arith)

  pub abbrev_type : Room (typed c) p out
  abbrev_type = room_first (typed c) (by_last (bare ls d 1)) grows p q out mid r

  module _ (a : Writes (typed c) p q out mid) where
    pub abbrev_number : (0 < q.types) × (q.types < 4294967296)
    abbrev_number = type_number c p q out mid abbrev_type a

    pub abbrev_bare : Room (bare ls d 1 (q.types - 1)) q mid
    abbrev_bare = room_last (bare ls d 1) q mid (room_rest (typed c) (by_last (bare ls d 1)) grows p q out mid r a)

    pub abbrev_writes : (s : Place) (out' : List ℕ) → Writes (bare ls d 1 (q.types - 1)) q s mid out' → Writes (abbreviated ls d c) p s out out'
    abbrev_writes s out' h = writes_seq (typed c) (by_last (bare ls d 1)) grows p q out mid s out' a (writes_last (bare ls d 1) q s mid out' h)

-- ---- kept fields, and constructors
module _ (ls : List Line) (keep : List ℕ) (d i n : ℕ) (ei : i ≡ first_of field_line ls d) (en : n ≡ body_last ls d) where
  pub record_is : (m : ℕ) → m ≡ kept_count keep i n → framed ls d 2 m (field_lines (left_fields ls keep d i n)) ≡ recorded ls d (left_fields ls keep d (first_of field_line ls d) (body_last ls d))
  record_is m em =
      let few : m ≡ length (left_fields ls keep d i n) = em ∙ (sym (count_fields ls keep (params_of ls d) i n) ∙ sym (length-map (fields_by ls keep (params_of ls d) i n) (left_of ls))) in
      ap (λ (k : ℕ). framed ls d 2 k (field_lines (left_fields ls keep d i n))) few
      ∙ ap₂ (λ (x y : ℕ). recorded ls d (left_fields ls keep d x y)) ei en

  pub variant_is : (c : ℕ) → c ≡ first_of ctor_line ls d → framed ls d 3 n (ctor_lines (left_ctors ls keep d c i n)) ≡ varied ls d (left_ctors ls keep d (first_of ctor_line ls d) (first_of field_line ls d) (body_last ls d))
  variant_is c ec =
      let few : n ≡ length (left_ctors ls keep d c i n) = sym (length-map (ctors_by ls keep (params_of ls d) c i n) (ctor_left ls) ∙ length_ctors_by ls keep (params_of ls d) c i n) in
      ap (λ (k : ℕ). framed ls d 3 k (ctor_lines (left_ctors ls keep d c i n))) few
      ∙ (ap (λ (x : ℕ). varied ls d (left_ctors ls keep d x i n)) ec ∙ ap₂ (λ (x y : ℕ). varied ls d (left_ctors ls keep d (first_of ctor_line ls d) x y)) ei en)

pub room_same : (f g : Writing) → f ≡ g → (p : Place) (out : List ℕ) → Room g p out → Room f p out
room_same f g e p out r = subst (λ (h : Writing). Room h p out) (sym e) r

pub writes_same : (f g : Writing) → f ≡ g → (p r : Place) (out out' : List ℕ) → Writes f p r out out' → Writes g p r out out'
writes_same f g e p r out out' w = subst (λ (h : Writing). Writes h p r out out') e w

-- ---- the lines of a body
unfoldable pub body_writing : List Line → ℕ → Body → Writing
body_writing ls d TAbstract = bare ls d 0 0
body_writing ls d (TAbbrev c) = abbreviated ls d c
body_writing ls d (TRecord fs) = recorded ls d fs
body_writing ls d (TVariant cs) = varied ls d cs

body_writes : (ls : List Line) (d : ℕ) (b : Body) (w : Written) → decl_lines (decl_with ls d b) b w ≡ body_writing ls d b w
unfolding decl_lines decl_frame body_writing
body_writes ls d TAbstract w = refl
body_writes ls d (TAbbrev c) w = refl
body_writes ls d (TRecord fs) w = refl
body_writes ls d (TVariant cs) w = refl

module _ (ls : List Line) (u keep : List ℕ) (d : ℕ) where
  -- the body by cases
  pub body_newtype : state u d ≡ 1 → left_body ls u keep d ≡ TAbbrev (left_type ls d (body_of u d))
  unfolding left_body
  body_newtype e = rw (eq-eqb (state u d) 1 e)

  module _ (n : state u d ≡ 1 → ⊥) where
    pub body_abbrev : body_kind ls d ≡ 1 → left_body ls u keep d ≡ TAbbrev (left_type ls d (body_last ls d))
    unfolding left_body
    body_abbrev e = rw (ne_eqb (state u d) 1 n, eq-eqb (body_kind ls d) 1 e)

    pub body_record : body_kind ls d ≡ 2 → left_body ls u keep d ≡ TRecord (left_fields ls keep d (first_of field_line ls d) (body_last ls d))
    unfolding left_body
    body_record e = rw (ne_eqb (state u d) 1 n, ne_eqb (body_kind ls d) 1 (λ k. omega arith), eq-eqb (body_kind ls d) 2 e)

    pub body_variant : body_kind ls d ≡ 3 → left_body ls u keep d ≡ TVariant (left_ctors ls keep d (first_of ctor_line ls d) (first_of field_line ls d) (body_last ls d))
    unfolding left_body
    body_variant e = rw (ne_eqb (state u d) 1 n, ne_eqb (body_kind ls d) 1 (λ k. omega arith), ne_eqb (body_kind ls d) 2 (λ k. omega arith), eq-eqb (body_kind ls d) 3 e)

    pub body_abstract : (body_kind ls d ≡ 1 → ⊥) → (body_kind ls d ≡ 2 → ⊥) → (body_kind ls d ≡ 3 → ⊥) → left_body ls u keep d ≡ TAbstract
    unfolding left_body
    body_abstract n1 n2 n3 = rw (ne_eqb (state u d) 1 n, ne_eqb (body_kind ls d) 1 n1, ne_eqb (body_kind ls d) 2 n2, ne_eqb (body_kind ls d) 3 n3)

  -- what is written, where the body is b
  as_body : (b : Body) → left_body ls u keep d ≡ b → (w : Written) → left_writing ls u keep d w ≡ body_writing ls d b w
  as_body b e w = ap (λ (x : Body). decl_lines (decl_with ls d x) x w) e ∙ body_writes ls d b w

  module _ (b : Body) (e : left_body ls u keep d ≡ b) (p r : Place) (out out' : List ℕ) where
    pub body_room : Room (left_writing ls u keep d) p out → Room (body_writing ls d b) p out
    body_room h = room_as (left_writing ls u keep d) (body_writing ls d b) (as_body b e) p out h

    pub body_done : Writes (body_writing ls d b) p r out out' → Writes (left_writing ls u keep d) p r out out'
    body_done h = writes_as (body_writing ls d b) (left_writing ls u keep d) (λ w. sym (as_body b e w)) p r out out' h

  -- by the kind of body, where the code has y, i, n, c for its numbers
  module _ (p : Place) (out : List ℕ) (h : Room (left_writing ls u keep d) p out) where
    pub room_newtype : state u d ≡ 1 → Room (abbreviated ls d (left_type ls d (body_of u d))) p out
    unfolding body_writing
    room_newtype e = body_room (TAbbrev (left_type ls d (body_of u d))) (body_newtype e) p p out out h

    module _ (m : state u d ≡ 1 → ⊥) where
      pub room_abbrev : (y : ℕ) → y ≡ body_last ls d → body_kind ls d ≡ 1 → Room (abbreviated ls d (left_type ls d y)) p out
      unfolding body_writing
      room_abbrev y g e = rw g (body_room (TAbbrev (left_type ls d (body_last ls d))) (body_abbrev m e) p p out out h)

      pub room_record : body_kind ls d ≡ 2 → Room (recorded ls d (left_fields ls keep d (first_of field_line ls d) (body_last ls d))) p out
      unfolding body_writing
      room_record e = body_room (TRecord (left_fields ls keep d (first_of field_line ls d) (body_last ls d))) (body_record m e) p p out out h

      pub room_variant : body_kind ls d ≡ 3 → Room (varied ls d (left_ctors ls keep d (first_of ctor_line ls d) (first_of field_line ls d) (body_last ls d))) p out
      unfolding body_writing
      room_variant e = body_room (TVariant (left_ctors ls keep d (first_of ctor_line ls d) (first_of field_line ls d) (body_last ls d))) (body_variant m e) p p out out h

      pub room_bare : (body_kind ls d ≡ 1 → ⊥) → (body_kind ls d ≡ 2 → ⊥) → (body_kind ls d ≡ 3 → ⊥) → Room (bare ls d 0 0) p out
      unfolding body_writing
      room_bare n1 n2 n3 = body_room TAbstract (body_abstract m n1 n2 n3) p p out out h

  module _ (p r : Place) (out out' : List ℕ) where
    pub done_newtype : state u d ≡ 1 → Writes (abbreviated ls d (left_type ls d (body_of u d))) p r out out' → Writes (left_writing ls u keep d) p r out out'
    unfolding body_writing
    done_newtype e h = body_done (TAbbrev (left_type ls d (body_of u d))) (body_newtype e) p r out out' h

    module _ (m : state u d ≡ 1 → ⊥) where
      pub done_abbrev : (y : ℕ) → y ≡ body_last ls d → body_kind ls d ≡ 1 → Writes (abbreviated ls d (left_type ls d y)) p r out out' → Writes (left_writing ls u keep d) p r out out'
      unfolding body_writing
      done_abbrev y g e h = body_done (TAbbrev (left_type ls d (body_last ls d))) (body_abbrev m e) p r out out' (rw g at h)

      pub done_record : body_kind ls d ≡ 2 → Writes (recorded ls d (left_fields ls keep d (first_of field_line ls d) (body_last ls d))) p r out out' → Writes (left_writing ls u keep d) p r out out'
      unfolding body_writing
      done_record e h = body_done (TRecord (left_fields ls keep d (first_of field_line ls d) (body_last ls d))) (body_record m e) p r out out' h

      pub done_variant : body_kind ls d ≡ 3 → Writes (varied ls d (left_ctors ls keep d (first_of ctor_line ls d) (first_of field_line ls d) (body_last ls d))) p r out out' → Writes (left_writing ls u keep d) p r out out'
      unfolding body_writing
      done_variant e h = body_done (TVariant (left_ctors ls keep d (first_of ctor_line ls d) (first_of field_line ls d) (body_last ls d))) (body_variant m e) p r out out' h

      pub done_bare : (body_kind ls d ≡ 1 → ⊥) → (body_kind ls d ≡ 2 → ⊥) → (body_kind ls d ≡ 3 → ⊥) → Writes (bare ls d 0 0) p r out out' → Writes (left_writing ls u keep d) p r out out'
      unfolding body_writing
      done_bare n1 n2 n3 h = body_done TAbstract (body_abstract m n1 n2 n3) p r out out' h

-- ---- the types that are asked for
pub kept_member : (ls : List Line) (keep : List ℕ) (i n j : ℕ) → i ≤ j → j < i + n → get_or keep j 0 ≡ 1 → Memᴰ (field_type ls j) (kept_types ls keep i n)
unfolding kept_types
kept_member ls keep i zero j h k e = absurd (omega arith)
kept_member ls keep i (suc n) j h k e = at (eqb i j) refl (λ a c. kept_member ls keep (suc i) n j a c e)
  where
    skip : (c : Bool) → Memᴰ (field_type ls j) (kept_types ls keep (suc i) n) → Memᴰ (field_type ls j) (pick c (field_type ls i ∷ kept_types ls keep (suc i) n) (kept_types ls keep (suc i) n))
    skip true m = Memᴰ.tail m
    skip false m = m

    at : (c : Bool) → eqb i j ≡ c → (suc i ≤ j → j < suc i + n → Memᴰ (field_type ls j) (kept_types ls keep (suc i) n))
        → Memᴰ (field_type ls j) (pick (eqb (get_or keep i 0) 1) (field_type ls i ∷ kept_types ls keep (suc i) n) (kept_types ls keep (suc i) n))
    at true q r = let g : i ≡ j = eqb-true i j q in rw (g, e) (Memᴰ.head refl)
    at false q r = let g = eqb-false i j q in skip (eqb (get_or keep i 0) 1) (r (omega arith) (omega arith))

module _ (ls : List Line) (t u f keep : List ℕ) (d n : ℕ) (g : Given ls t u f keep d n) where
  pub state_is : get_or u (2 * d) 0 ≡ state u d
  state_is = get_or_within u (2 * d) 0 3 (omega (arith, g.states, g.decl))

  pub given_newtype : state u d ≡ 1 → Typed ls t u f (body_of u d) d n
  unfolding resolves_of
  given_newtype e = g.types (body_of u d) (rw (ne_eqb (state u d) 0 g.stays, eq-eqb (state u d) 1 e) (Memᴰ.head refl))

  module _ (m : state u d ≡ 1 → ⊥) where
    pub given_abbrev : body_kind ls d ≡ 1 → Typed ls t u f (body_last ls d) d n
    unfolding resolves_of
    given_abbrev e =
        g.types (body_last ls d)
        (rw (ne_eqb (state u d) 0 g.stays, ne_eqb (state u d) 1 m, ne_eqb (body_kind ls d) 0 (λ k. omega arith), eq-eqb (body_kind ls d) 1 e) (Memᴰ.head refl))

    fields_given : (e : ℕ) → 2 ≤ body_kind ls d → first_of field_line ls (suc d) ≡ e → Fields ls t u f keep d (first_of field_line ls d) e n
    unfolding resolves_of
    fields_given e k q =
        record {
          tabled = g.tabled;
          inside = omega (arith, count_before_le field_line ls (start ls (suc d)));
          long = g.long;
          types = λ j a c o. g.types (field_type ls j)
              (rw (ne_eqb (state u d) 0 g.stays, ne_eqb (state u d) 1 m, ne_eqb (body_kind ls d) 0 (λ z. omega arith), ne_eqb (body_kind ls d) 1 (λ z. omega arith), add-one d)
              (kept_member ls keep (first_of field_line ls d) (first_of field_line ls (suc d) - first_of field_line ls d) j a (omega arith) o));
        }

    pub given_record : body_kind ls d ≡ 2 → Fields ls t u f keep d (first_of field_line ls d) (first_of field_line ls d + body_last ls d) n
    given_record e = fields_given (first_of field_line ls d + body_last ls d) (omega arith) (total_record ls g.tabled.passed d g.decl e)

    pub given_variant : body_kind ls d ≡ 3 → Ctors ls t u f keep d (first_of ctor_line ls d) (first_of field_line ls d) (body_last ls d) n
    given_variant e =
        record {
          inside = omega (arith, count_before_le ctor_line ls (start ls (suc d)), first_next ls d g.decl ctor_line refl refl, (whole_at ls g.tabled.passed d g.decl).ctors e);
          fields = fields_given (first_of field_line ls d + fields_in ls (first_of ctor_line ls d) (body_last ls d)) (omega arith) (total_variant ls g.tabled.passed d g.decl e);
        }
