-- The lines of fields, one after the other. Assumes nothing.
use Rattle.std.specs.Prelude.{◌≡◌, Bool, eqb, get_or}
use Rattle.std.proofs.Math.Path.{refl, ap}
use Rattle.std.proofs.Common.{ap₂, sym, ◌∙◌, add-one, ne_eqb, length-append}
use mathlib.Core.List.{List, [], ◌∷◌, ◌++◌, map, map-append, append_assoc, append-nil}
use Rattle.std.proofs.Math.Bool.{true, false}
use Prim.Native.Nat.{ℕ, zero, suc, ◌+◌, ◌-◌, ◌≤◌, ◌<◌}
use native.Mathlib.Omega.{arith}
use Rattle.std.proofs.Math.ListN.{length}
use Rattle.number_columns.specs.Column.{pick}
use Rattle.sheet.specs.Line.{Line, row, number}
use Rattle.model.specs.Cty.{Cty}
use Rattle.model.specs.Decl.{Field}
use Rattle.model.specs.Run.{resolved_field}
use Rattle.meaning.specs.Program.{field_line}
use Rattle.meaning.specs.Output.{Written, last, emit, Lines, field_lines}
use Rattle.meaning_laws.specs.Output.{grows_args, grows_types, field_adds, emit_adds}
use Rattle.table_access.specs.Tables.{nth}
use Rattle.resolve_kids.specs.Params.{params_of}
use Rattle.keep_layouts.specs.Kept.{field_type, field_at, fields_by}
use Rattle.form_emit.specs.Left.{left_type}
use Rattle.left_places.specs.declared.Place.{Place}
use Rattle.left_places.specs.Places.{Writing, one, numbered, typed, seq, Growing, Room, Writes}
use Rattle.left_places.specs.PlacesLaws.{growing_numbered, writes_none, writes_as, room_as, room_first, room_rest, writes_seq, room_numbered, writes_numbered}
use Rattle.left_fields.specs.Fields.{left_of, left_field, left_fields, kept_count, Fields}

-- ---- one after the other
pub growing_fields : (fs : List Field) → Growing (field_lines fs)
growing_fields fs w = (grows_args (field_adds fs w).grows, grows_types (field_adds fs w).grows)

pub fields_append : (fs gs : List Field) (w : Written) → field_lines (fs ++ gs) w ≡ seq (field_lines fs) (field_lines gs) w
unfolding field_lines
fields_append [] gs w = refl
fields_append (f ∷ fs) gs w =
    ap (λ (r : Lines). record { written = r.written; lines = row field_line (f.fd_name ∷ last (emit f.fd_type w) ∷ 0 ∷ 0 ∷ 0 ∷ []) ∷ r.lines }) (fields_append fs gs (emit f.fd_type w))

-- one F line more
module _ (ls : List Line) (keep ps : List ℕ) where
  last_field : ℕ → List Field
  last_field i = pick (eqb (get_or keep i 0) 1) (field_at ls ps i ∷ []) []

  pub fields_last : (i n : ℕ) → fields_by ls keep ps i (suc n) ≡ fields_by ls keep ps i n ++ fields_by ls keep ps (i + n) 1
  unfolding fields_by
  fields_last i zero = let e : i + 0 ≡ i = omega arith in rw e
  fields_last i (suc n) =
      let e : suc i + n ≡ i + suc n = omega arith in
      let r : fields_by ls keep ps (suc i) (suc n) ≡ fields_by ls keep ps (suc i) n ++ fields_by ls keep ps (i + suc n) 1 = fields_last (suc i) n ∙ ap (λ (m : ℕ). fields_by ls keep ps (suc i) n ++ fields_by ls keep ps m 1) e in
      go (eqb (get_or keep i 0) 1) (fields_by ls keep ps (suc i) (suc n)) (fields_by ls keep ps (suc i) n) (fields_by ls keep ps (i + suc n) 1) r
    where
      go : (c : Bool) (x y z : List Field) → x ≡ y ++ z → pick c (field_at ls ps i ∷ x) x ≡ pick c (field_at ls ps i ∷ y) y ++ z
      go true x y z e = ap (λ (l : List Field). field_at ls ps i ∷ l) e
      go false x y z e = e

  -- the first ones of more
  pub fields_more : (i m n : ℕ) → fields_by ls keep ps i (m + n) ≡ fields_by ls keep ps i m ++ fields_by ls keep ps (i + m) n
  unfolding fields_by
  fields_more i m zero = let e : m + 0 ≡ m = omega arith in rw e (sym (append-nil (fields_by ls keep ps i m)))
  fields_more i m (suc n) =
      let e : m + suc n ≡ suc (m + n) = omega arith in
      let a : i + (m + n) ≡ i + m + n = omega arith in
      ap (λ (k : ℕ). fields_by ls keep ps i k) e
      ∙ (fields_last i (m + n)
      ∙ (ap₂ (λ (x : List Field) (k : ℕ). x ++ fields_by ls keep ps k 1) (fields_more i m n) a
      ∙ (append_assoc (fields_by ls keep ps i m) (fields_by ls keep ps (i + m) n) (fields_by ls keep ps (i + m + n) 1)
      ∙ ap (λ (x : List Field). fields_by ls keep ps i m ++ x) (sym (fields_last (i + m) n)))))

  pub count_fields : (i n : ℕ) → length (fields_by ls keep ps i n) ≡ kept_count keep i n
  unfolding fields_by kept_count
  count_fields i zero = refl
  count_fields i (suc n) =
      ap length (fields_last i n) ∙ (length-append (fields_by ls keep ps i n) (fields_by ls keep ps (i + n) 1) ∙ go (eqb (get_or keep (i + n) 0) 1) (count_fields i n))
    where
      go : (c : Bool) → length (fields_by ls keep ps i n) ≡ kept_count keep i n
          → length (fields_by ls keep ps i n) + length (pick c (field_at ls ps (i + n) ∷ []) []) ≡ pick c (suc (kept_count keep i n)) (kept_count keep i n)
      go true e = omega arith
      go false e = omega arith

pub kept_few : (keep : List ℕ) (i n : ℕ) → kept_count keep i n ≤ n
unfolding kept_count
kept_few keep i zero = omega arith
kept_few keep i (suc n) = go (eqb (get_or keep (i + n) 0) 1) (kept_few keep i n)
  where
    go : (c : Bool) → kept_count keep i n ≤ n → pick c (suc (kept_count keep i n)) (kept_count keep i n) ≤ suc n
    go true h = omega arith
    go false h = omega arith

-- one more is counted, or not
pub count_yes : (keep : List ℕ) (i n : ℕ) → get_or keep (i + n) 0 ≡ 1 → kept_count keep i n + 1 ≡ kept_count keep i (n + 1)
unfolding kept_count
count_yes keep i n e = rw (add-one n, e) (omega arith)

pub count_no : (keep : List ℕ) (i n : ℕ) → (get_or keep (i + n) 0 ≡ 1 → ⊥) → kept_count keep i n ≡ kept_count keep i (n + 1)
unfolding kept_count
count_no keep i n e = rw (add-one n, ne_eqb (get_or keep (i + n) 0) 1 e)

-- ---- one field
pub part_fields : (ls : List Line) (t u f keep : List ℕ) (d i e n j m l : ℕ) → i ≤ j → m ≤ e → l ≡ n → Fields ls t u f keep d i e n → Fields ls t u f keep d j m l
part_fields ls t u f keep d i e n j m l h k g r =
    record { tabled = r.tabled; inside = omega (arith, r.inside); long = r.long; types = λ x a c o. rw g (r.types x (omega arith) (omega arith) o) }

-- the F line of a field whose type was written last
abbrev pub field_row : ℕ → ℕ → Line
field_row x n = row field_line (x ∷ n ∷ 0 ∷ 0 ∷ 0 ∷ [])

-- a field: its type, and then its line
pub field_parts : (x : Field) (w : Written) → seq (typed x.fd_type) (numbered (field_row x.fd_name)) w ≡ field_lines (x ∷ []) w
unfolding field_lines
field_parts x w = refl

module _ (x : Field) (p q : Place) (out mid : List ℕ) (r : Room (field_lines (x ∷ [])) p out) where
  abbrev line_of : ℕ → Line
  line_of = field_row x.fd_name

  parted : Room (seq (typed x.fd_type) (numbered line_of)) p out
  parted = room_as (field_lines (x ∷ [])) (seq (typed x.fd_type) (numbered line_of)) (λ w. sym (field_parts x w)) p out r

  pub field_type_room : Room (typed x.fd_type) p out
  field_type_room = room_first (typed x.fd_type) (numbered line_of) (growing_numbered line_of) p q out mid parted

  module _ (a : Writes (typed x.fd_type) p q out mid) where
    pub field_line_room : Room (one (line_of (q.types - 1))) q mid
    field_line_room = room_numbered line_of q mid (room_rest (typed x.fd_type) (numbered line_of) (growing_numbered line_of) p q out mid parted a)

    pub field_writes : (s : Place) (out' : List ℕ) → Writes (one (line_of (q.types - 1))) q s mid out' → Writes (field_lines (x ∷ [])) p s out out'
    field_writes s out' h =
        writes_as (seq (typed x.fd_type) (numbered line_of)) (field_lines (x ∷ [])) (field_parts x) p s out out'
        (writes_seq (typed x.fd_type) (numbered line_of) (growing_numbered line_of) p q out mid s out' a (writes_numbered line_of q s mid out' h))

-- the number of a type that was written
pub type_number : (c : Cty) (p q : Place) (out mid : List ℕ) → Room (typed c) p out → Writes (typed c) p q out mid → (0 < q.types) × (q.types < 4294967296)
type_number c p q out mid r a =
    let h = a.adds r.base r.start r.lines r.at r.inside in
    let g = emit_adds c r.lines.written in
    (omega (arith, h.types_are, g.types_count, g.args_count, grows_args g.grows), omega (arith, h.types_are, r.inside.types_few))

-- ---- a field that is kept, and one that is not
module _ (ls : List Line) (keep : List ℕ) (d i : ℕ) where
  pub fields_yes : get_or keep i 0 ≡ 1 → left_fields ls keep d i 1 ≡ left_field ls d i ∷ []
  unfolding fields_by
  fields_yes e = rw e

  pub fields_no : (get_or keep i 0 ≡ 1 → ⊥) → left_fields ls keep d i 1 ≡ []
  unfolding fields_by
  fields_no e = rw (ne_eqb (get_or keep i 0) 1 e)

-- F line i, where y is its type and x its name
module _ (ls : List Line) (d i y : ℕ) (p q : Place) (out mid : List ℕ) (r : Room (field_lines (left_field ls d i ∷ [])) p out) (e : y ≡ field_type ls i) where
  pub type_room_at : Room (typed (left_type ls d y)) p out
  unfolding resolved_field field_at
  type_room_at = rw e (field_type_room (left_field ls d i) p q out mid r)

  module _ (a : Writes (typed (left_type ls d y)) p q out mid) where
    pub number_at : (0 < q.types) × (q.types < 4294967296)
    number_at = type_number (left_type ls d y) p q out mid type_room_at a

    module _ (x : ℕ) (g : x ≡ number (nth field_line ls i) 0) where
      pub line_room_at : Room (one (field_row x (q.types - 1))) q mid
      unfolding resolved_field field_at
      line_room_at = rw g (field_line_room (left_field ls d i) p q out mid r (rw e at a))

      pub writes_at : (s : Place) (out' : List ℕ) → Writes (one (field_row x (q.types - 1))) q s mid out' → Writes (field_lines (left_field ls d i ∷ [])) p s out out'
      unfolding resolved_field field_at
      writes_at s out' h = field_writes (left_field ls d i) p q out mid r (rw e at a) s out' (rw g at h)

pub writes_nothing : (p : Place) (out : List ℕ) → Writes (field_lines []) p p out out
unfolding field_lines
writes_nothing p out = writes_none p out

module _ (ls : List Line) (keep : List ℕ) (d i : ℕ) (p r : Place) (out out' : List ℕ) where
  pub kept_no : (get_or keep i 0 ≡ 1 → ⊥) → Writes (field_lines (left_fields ls keep d i 1)) p p out out
  kept_no e = rw (fields_no ls keep d i e) (writes_nothing p out)

  module _ (e : get_or keep i 0 ≡ 1) where
    pub kept_room : Room (field_lines (left_fields ls keep d i 1)) p out → Room (field_lines (left_field ls d i ∷ [])) p out
    kept_room h = rw (fields_yes ls keep d i e) at h

    pub kept_writes : Writes (field_lines (left_field ls d i ∷ [])) p r out out' → Writes (field_lines (left_fields ls keep d i 1)) p r out out'
    kept_writes h = rw (fields_yes ls keep d i e) h

-- ---- a run of F lines
module _ (ls : List Line) (keep : List ℕ) (d i : ℕ) (p q : Place) (out mid : List ℕ) where
  abbrev lines_to : ℕ → Writing
  lines_to n = field_lines (left_fields ls keep d i n)

  abbrev lines_from : ℕ → ℕ → Writing
  lines_from m n = field_lines (left_fields ls keep d (i + m) n)

  runs : (m n : ℕ) (w : Written) → seq (lines_to m) (lines_from m n) w ≡ lines_to (m + n) w
  runs m n w =
      sym (fields_append (left_fields ls keep d i m) (left_fields ls keep d (i + m) n) w)
      ∙ ap (λ (fs : List Field). field_lines fs w) (sym (map-append (left_of ls) (fields_by ls keep (params_of ls d) i m) (fields_by ls keep (params_of ls d) (i + m) n)) ∙ ap (map (left_of ls)) (sym (fields_more ls keep (params_of ls d) i m n)))

  pub fields_room : (m n : ℕ) → m < n → Room (lines_to n) p out → Writes (lines_to m) p q out mid → Room (lines_from m 1) q mid
  fields_room m n h r a =
      let e : m + 1 + (n - (m + 1)) ≡ n = omega arith in
      let g : Room (lines_to (m + 1 + (n - (m + 1)))) p out = rw e r in
      let s : Room (lines_to (m + 1)) p out =
      room_first (lines_to (m + 1)) (lines_from (m + 1) (n - (m + 1))) (growing_fields (left_fields ls keep d (i + (m + 1)) (n - (m + 1)))) p q out mid
      (room_as (lines_to (m + 1 + (n - (m + 1)))) (seq (lines_to (m + 1)) (lines_from (m + 1) (n - (m + 1)))) (λ w. sym (runs (m + 1) (n - (m + 1)) w)) p out g) in
      room_rest (lines_to m) (lines_from m 1) (growing_fields (left_fields ls keep d (i + m) 1)) p q out mid
      (room_as (lines_to (m + 1)) (seq (lines_to m) (lines_from m 1)) (λ w. sym (runs m 1 w)) p out s) a

  pub fields_writes : (m : ℕ) (s : Place) (out' : List ℕ) → Writes (lines_to m) p q out mid → Writes (lines_from m 1) q s mid out' → Writes (lines_to (m + 1)) p s out out'
  fields_writes m s out' a h =
      writes_as (seq (lines_to m) (lines_from m 1)) (lines_to (m + 1)) (runs m 1) p s out out'
      (writes_seq (lines_to m) (lines_from m 1) (growing_fields (left_fields ls keep d (i + m) 1)) p q out mid s out' a h)

pub fields_start : (ls : List Line) (keep : List ℕ) (d i : ℕ) (p : Place) (out : List ℕ) → Writes (field_lines (left_fields ls keep d i 0)) p p out out
unfolding fields_by
fields_start ls keep d i p out = writes_nothing p out
