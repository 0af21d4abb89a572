-- The declarations that a body names, by the types in its lines. Assumes nothing.
use Rattle.std.specs.Prelude.{◌≡◌, Bool, ◌||◌, ℕ, ◌+◌, ◌≤◌, ◌<◌, length, get_or}
use Rattle.std.proofs.Math.Path.{refl, ap, ap₂, sym}
use Rattle.std.proofs.Common.{◌∙◌, arith}
use mathlib.Core.List.{List, [], ◌∷◌, ◌++◌, map, append_assoc}
use Rattle.std.proofs.Math.Bool.{true, false}
use Rattle.std.proofs.Math.Dec.{eqb}
use borrow.Author.Tests.{eqb-true, eqb-false}
use Rattle.number_columns.specs.Column.{pick, ◌⇒◌∥◌}
use Rattle.sheet.specs.Line.{Line, bad, number}
use Rattle.sheet.proofs.ListLaws.{length_nil}
use Rattle.model.specs.Cty.{Cty, names_of_cty}
use Rattle.model.specs.Decl.{Field, Ctor, Body, TAbstract, TAbbrev, TRecord, TVariant, Dtype, Decl, member, close_field, close_body, close_fields}
use Rattle.model.specs.Layout.{positions, names_in}
use Rattle.model.specs.Names.{fields_names, ctors_names, body_names, dtype_names}
use Rattle.model_laws.specs.Cty.{close_names}
use Rattle.meaning.specs.Program.{ctor_line, field_line, is, select, before, Group, groups, trees, type_at, field_of, ctor_of, body_of, dtype_of, program}
use Rattle.meaning.specs.Rows.{count_of}
use Rattle.meaning_laws.specs.Program.{Whole}
use Rattle.answer_reach.specs.Index.{decl_next}
use Rattle.table_declared.specs.Passed.{Passed}
use Rattle.table_declared.specs.DeclLaws.{first_next, nth_in, dtype_is, whole_at}
use Rattle.table_declared.specs.BodyLaws.{fields_of, ctor_fields}
use Rattle.table_access.specs.Tables.{nth, group, decls_of, first_of}
use Rattle.erasure_laws.specs.Bodies.{kind_of, last_of, field_type}
use Rattle.mention_types.specs.Mentions.{mentions, any}
use Rattle.mention_types.specs.NamesLaws.{member_append, positions_append, any_front, any_same}
use Rattle.reach_rows.specs.Steps.{width, in_body}

-- ---- closing keeps the names
module _ (ps : List ℕ) where
  closed_fields : (fs : List Field) → fields_names (map (close_field ps) fs) ≡ fields_names fs
  unfolding fields_names close_field
  closed_fields [] = refl
  closed_fields (f ∷ fs) = ap₂ ◌++◌ (close_names ps f.fd_type) (closed_fields fs)

  closed_ctors : (cs : List Ctor) → ctors_names (map (λ c. record { ct_name = c.ct_name; ct_fields = map (close_field ps) c.ct_fields }) cs) ≡ ctors_names cs
  unfolding ctors_names
  closed_ctors [] = refl
  closed_ctors (c ∷ cs) = ap₂ ◌++◌ (closed_fields c.ct_fields) (closed_ctors cs)

  closed_body : (b : Body) → body_names (close_body ps b) ≡ body_names b
  unfolding close_body body_names
  closed_body TAbstract = refl
  closed_body (TAbbrev c) = close_names ps c
  closed_body (TRecord fs) = closed_fields fs
  closed_body (TVariant cs) = closed_ctors cs

closed_dtype : (d : Dtype) → dtype_names (close_fields d) ≡ dtype_names d
unfolding dtype_names close_fields
closed_dtype d = closed_body d.dt_params d.dt_body

-- ---- a body's fields are the F lines
module _ (ts : List Cty) where
  -- the names in the types of F lines
  abbrev line_names : List Line → List ℕ
  line_names fl = fields_names (map (field_of ts) fl)

  names_append : (a c : List Line) → line_names (a ++ c) ≡ line_names a ++ line_names c
  unfolding fields_names
  names_append [] c = refl
  names_append (l ∷ a) c =
      ap (λ (r : List ℕ). names_of_cty (field_of ts l).fd_type ++ r) (names_append a c) ∙ sym (append_assoc (names_of_cty (field_of ts l).fd_type) (line_names a) (line_names c))

  variant_names : (gs : List Group) → ctors_names (map (ctor_of ts) gs) ≡ line_names (fields_of gs)
  unfolding ctors_names ctor_of fields_of fields_names
  variant_names [] = refl
  variant_names (g ∷ gs) =
      ap (λ (r : List ℕ). line_names (select field_line g.rest) ++ r) (variant_names gs) ∙ sym (names_append (select field_line g.rest) (fields_of gs))

  -- of every kind but an abbreviation
  body_lines : (kind last : ℕ) (r : List Line) → (kind ≤ 1 → count_of field_line r ≡ 0) → kind ≤ 3 → (kind ≡ 3 → select field_line (before (is ctor_line) r) ≡ [])
      → eqb kind 1 ≡ false → body_names (body_of ts kind last r) ≡ line_names (select field_line r)
  unfolding body_of body_names fields_names
  body_lines kind last r bare over first n = rw n (go (eqb kind 2) (eqb kind 3) refl refl)
    where
      go : (y z : Bool) → eqb kind 2 ≡ y → eqb kind 3 ≡ z
          → body_names (
          y ⇒ TRecord (map (field_of ts) (select field_line r)) ∥
          z ⇒ TVariant (map (ctor_of ts) (groups (is ctor_line) r)) ∥
          TAbstract) ≡ line_names (select field_line r)
      go true z a c = refl
      go false true a c = variant_names (groups (is ctor_line) r) ∙ ap line_names (sym (ctor_fields r (first (eqb-true kind 3 c))))
      go false false a c =
          let u = eqb-false kind 1 n in
          let v = eqb-false kind 2 a in
          let w = eqb-false kind 3 c in
          rw (length_nil (select field_line r) (bare (omega arith)))

  -- the declarations that F lines name are those that the type of one of them names
  in_lines : (ds : List Decl) (m : ℕ) (fl : List Line) → member m (positions ds (line_names fl)) ≡ any (λ j. member m (names_in ds (type_at ts (number (get_or fl j bad) 1)))) (length fl)
  unfolding fields_names field_of positions member any
  in_lines ds m [] = refl
  in_lines ds m (l ∷ fl) =
      ap (member m) (positions_append ds (names_of_cty (type_at ts (number l 1))) (line_names fl))
      ∙ member_append m (names_in ds (type_at ts (number l 1))) (positions ds (line_names fl))
      ∙ ap (λ (c : Bool). member m (names_in ds (type_at ts (number l 1))) || c) (in_lines ds m fl)
      ∙ sym (any_front (λ j. member m (names_in ds (type_at ts (number (get_or (l ∷ fl) j bad) 1)))) (length fl))

-- ---- a declaration goes on to those that a type in its body names
module _ (ls : List Line) (p : Passed ls) (d : ℕ) (h : d < decls_of ls) (m : ℕ) where
  -- its F lines are those from its first on
  own_fields : any (λ j. mentions ls (number (nth field_line (group ls d).rest j) 1) m) (count_of field_line (group ls d).rest) ≡ any (λ j. mentions ls (field_type ls (first_of field_line ls d + j)) m) (width ls d)
  own_fields =
      let e : width ls d ≡ count_of field_line (group ls d).rest = omega (arith, first_next ls d h field_line refl refl) in
      rw e
      (any_same
      (λ j. mentions ls (number (nth field_line (group ls d).rest j) 1) m)
      (λ j. mentions ls (field_type ls (first_of field_line ls d + j)) m)
      (count_of field_line (group ls d).rest)
      (λ j l. ap (λ (x : Line). mentions ls (number x 1) m) (sym (nth_in ls d h field_line refl refl j l))))

  pub next_is : member m (decl_next (program ls) d) ≡ in_body ls d (λ y. mentions ls y m)
  unfolding decl_next dtype_names dtype_of in_body body_of body_names mentions
  next_is =
      ap (λ (x : Dtype). member m (positions (program ls) (dtype_names x))) (dtype_is ls d h)
      ∙ ap (λ (ns : List ℕ). member m (positions (program ls) ns)) (closed_dtype (dtype_of (trees ls) (group ls d)))
      ∙ go (eqb (kind_of ls d) 1) refl
    where
      go : (c : Bool) → eqb (kind_of ls d) 1 ≡ c
          → member m (positions (program ls) (body_names (body_of (trees ls) (kind_of ls d) (last_of ls d) (group ls d).rest)))
          ≡ pick c (mentions ls (last_of ls d) m) (any (λ j. mentions ls (field_type ls (first_of field_line ls d + j)) m) (width ls d))
      go true e = rw e
      go false e =
          let w : Whole (group ls d) = whole_at ls p d h in
          ap (λ (ns : List ℕ). member m (positions (program ls) ns)) (body_lines (trees ls) (kind_of ls d) (last_of ls d) (group ls d).rest (λ l. (w.bare l).0) w.kinds w.ctors_first e)
          ∙ in_lines (trees ls) (program ls) m (select field_line (group ls d).rest)
          ∙ own_fields
