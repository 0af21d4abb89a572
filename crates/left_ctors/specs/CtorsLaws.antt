-- The lines of constructors, one after the other. Assumes nothing.
use Rattle.std.specs.Prelude.{◌≡◌, length}
use Rattle.std.proofs.Math.Path.{refl}
use Rattle.std.proofs.Common.{ap, sym, ◌∙◌, add-one}
use mathlib.Core.List.{List, [], ◌∷◌, ◌++◌, map, map-append, append_assoc, append-nil}
use Prim.Native.Nat.{ℕ, zero, suc, ◌+◌, ◌-◌, ◌≤◌, ◌<◌}
use native.Mathlib.Omega.{arith}
use Rattle.std.proofs.lemmas.List.{length-map}
use Rattle.sheet.specs.Line.{Line, row}
use Rattle.sheet.specs.Sheet.{lines}
use Rattle.model.specs.Decl.{Ctor}
use Rattle.meaning.specs.Program.{ctor_line}
use Rattle.meaning.specs.Output.{Written, Lines, field_lines, ctor_lines}
use Rattle.meaning_laws.specs.Output.{grows_args, grows_types, ctor_adds}
use Rattle.resolve_kids.specs.Params.{params_of}
use Rattle.keep_layouts.specs.Kept.{ctor_name, ctor_fields, fields_by, ctors_by}
use Rattle.keep_laws.specs.KeptLaws.{fields_in}
use Rattle.left_places.specs.declared.Place.{Place}
use Rattle.left_places.specs.Places.{Writing, one, seq, Growing, Room, Writes}
use Rattle.left_places.specs.PlacesLaws.{writes_none, writes_as, room_as, room_first, room_rest, writes_seq}
use Rattle.left_fields.specs.Fields.{left_of, left_fields, kept_count, Fields}
use Rattle.left_fields.specs.FieldsLaws.{growing_fields, count_fields, part_fields}
use Rattle.left_ctors.specs.Ctors.{ctor_left, left_ctor, left_ctors, Ctors}

-- ---- one after the other
pub growing_ctors : (cs : List Ctor) → Growing (ctor_lines cs)
growing_ctors cs w = (grows_args (ctor_adds cs w).grows, grows_types (ctor_adds cs w).grows)

pub ctors_append : (cs es : List Ctor) (w : Written) → ctor_lines (cs ++ es) w ≡ seq (ctor_lines cs) (ctor_lines es) w
unfolding ctor_lines
ctors_append [] es w = refl
ctors_append (c ∷ cs) es w =
    let x : Lines = field_lines c.ct_fields w in
    let y : Lines = ctor_lines cs x.written in
    let r = ctors_append cs es x.written in
    ap (λ (z : Lines). record { written = z.written; lines = row ctor_line (c.ct_name ∷ length c.ct_fields ∷ 0 ∷ 0 ∷ 0 ∷ []) ∷ x.lines ++ z.lines }) r
    ∙ ap (λ (l : List Line). record { written = (ctor_lines es y.written).written; lines = row ctor_line (c.ct_name ∷ length c.ct_fields ∷ 0 ∷ 0 ∷ 0 ∷ []) ∷ l }) (sym (append_assoc x.lines y.lines (ctor_lines es y.written).lines))

-- how many fields
pub fields_in_last : (ls : List Line) (c k : ℕ) → fields_in ls c (suc k) ≡ fields_in ls c k + ctor_fields ls (c + k)
unfolding fields_in
fields_in_last ls c zero = let e : c + 0 ≡ c = omega arith in rw e (omega arith)
fields_in_last ls c (suc k) =
    let e : suc c + k ≡ c + suc k = omega arith in
    rw (fields_in_last ls (suc c) k, e) (omega arith)

pub fields_in_more : (ls : List Line) (c k n : ℕ) → fields_in ls c (k + n) ≡ fields_in ls c k + fields_in ls (c + k) n
unfolding fields_in
fields_in_more ls c k zero = let e : k + 0 ≡ k = omega arith in rw e (omega arith)
fields_in_more ls c k (suc n) =
    let e : k + suc n ≡ suc (k + n) = omega arith in
    let a : c + (k + n) ≡ c + k + n = omega arith in
    ap (fields_in ls c) e ∙ (fields_in_last ls c (k + n) ∙ (rw a (ap (λ (m : ℕ). m + ctor_fields ls (c + k + n)) (fields_in_more ls c k n) ∙ omega (arith, fields_in_last ls (c + k) n))))

-- one C line more, and the first ones of more
module _ (ls : List Line) (keep ps : List ℕ) where
  pub ctors_more : (c i k n : ℕ) → ctors_by ls keep ps c i (k + n) ≡ ctors_by ls keep ps c i k ++ ctors_by ls keep ps (c + k) (i + fields_in ls c k) n
  unfolding ctors_by fields_in
  ctors_more c i zero n =
      let e : 0 + n ≡ n = omega arith in
      let a : c + 0 ≡ c = omega arith in
      let f : i + 0 ≡ i = omega arith in
      rw (e, a, f)
  ctors_more c i (suc k) n =
      let e : suc k + n ≡ suc (k + n) = omega arith in
      let a : suc c + k ≡ c + suc k = omega arith in
      let f : i + ctor_fields ls c + fields_in ls (suc c) k ≡ i + (ctor_fields ls c + fields_in ls (suc c) k) = omega arith in
      rw e (ap (λ (r : List Ctor). record { ct_name = ctor_name ls c; ct_fields = fields_by ls keep ps i (ctor_fields ls c) } ∷ r) (ctors_more (suc c) (i + ctor_fields ls c) k n ∙ rw (a, f)))

-- ---- one constructor
abbrev pub ctor_row : ℕ → ℕ → Line
ctor_row x n = row ctor_line (x ∷ n ∷ 0 ∷ 0 ∷ 0 ∷ [])

pub ctor_parts : (c : Ctor) (w : Written) → seq (one (ctor_row c.ct_name (length c.ct_fields))) (field_lines c.ct_fields) w ≡ ctor_lines (c ∷ []) w
unfolding ctor_lines
ctor_parts c w =
    ap (λ (l : List Line). record { written = (field_lines c.ct_fields w).written; lines = ctor_row c.ct_name (length c.ct_fields) ∷ l }) (sym (append-nil (field_lines c.ct_fields w).lines))

-- C line c, where x is its name, n its count of fields and m how many are kept
module _ (ls : List Line) (keep : List ℕ) (d c i x n m : ℕ) (p q : Place) (out mid : List ℕ) (r : Room (ctor_lines (left_ctor ls keep d c i ∷ [])) p out)
    (e : x ≡ ctor_name ls c) (g : n ≡ ctor_fields ls c) (k : m ≡ kept_count keep i n) where
  abbrev first : Writing
  first = one (ctor_row (ctor_name ls c) (length (left_fields ls keep d i (ctor_fields ls c))))

  abbrev rest : Writing
  rest = field_lines (left_fields ls keep d i (ctor_fields ls c))

  few : m ≡ length (left_fields ls keep d i (ctor_fields ls c))
  few = k ∙ (rw g (sym (count_fields ls keep (params_of ls d) i (ctor_fields ls c))) ∙ sym (length-map (fields_by ls keep (params_of ls d) i (ctor_fields ls c)) (left_of ls)))

  parted : Room (seq first rest) p out
  parted = room_as (ctor_lines (left_ctor ls keep d c i ∷ [])) (seq first rest) (λ w. sym (ctor_parts (left_ctor ls keep d c i) w)) p out r

  pub ctor_line_room : Room (one (ctor_row x m)) p out
  ctor_line_room = rw (e, few) (room_first first rest (growing_fields (left_fields ls keep d i (ctor_fields ls c))) p q out mid parted)

  module _ (a : Writes (one (ctor_row x m)) p q out mid) where
    a' : Writes first p q out mid
    a' = rw (e, few) at a

    pub ctor_fields_room : Room (field_lines (left_fields ls keep d i n)) q mid
    ctor_fields_room = rw g (room_rest first rest (growing_fields (left_fields ls keep d i (ctor_fields ls c))) p q out mid parted a')

    pub ctor_writes : (s : Place) (out' : List ℕ) → Writes (field_lines (left_fields ls keep d i n)) q s mid out' → Writes (ctor_lines (left_ctor ls keep d c i ∷ [])) p s out out'
    ctor_writes s out' h =
        writes_as (seq first rest) (ctor_lines (left_ctor ls keep d c i ∷ [])) (ctor_parts (left_ctor ls keep d c i)) p s out out'
        (writes_seq first rest (growing_fields (left_fields ls keep d i (ctor_fields ls c))) p q out mid s out' a' (rw g at h))

-- ---- a run of C lines
module _ (ls : List Line) (keep : List ℕ) (d c i : ℕ) (p q : Place) (out mid : List ℕ) where
  abbrev lines_to : ℕ → Writing
  lines_to k = ctor_lines (left_ctors ls keep d c i k)

  abbrev lines_from : ℕ → ℕ → Writing
  lines_from m k = ctor_lines (left_ctors ls keep d (c + m) (i + fields_in ls c m) k)

  runs : (m k : ℕ) (w : Written) → seq (lines_to m) (lines_from m k) w ≡ lines_to (m + k) w
  runs m k w =
      sym (ctors_append (left_ctors ls keep d c i m) (left_ctors ls keep d (c + m) (i + fields_in ls c m) k) w)
      ∙ ap (λ (cs : List Ctor). ctor_lines cs w) (sym (map-append (ctor_left ls) (ctors_by ls keep (params_of ls d) c i m) (ctors_by ls keep (params_of ls d) (c + m) (i + fields_in ls c m) k)) ∙ ap (map (ctor_left ls)) (sym (ctors_more ls keep (params_of ls d) c i m k)))

  -- one constructor is a run of one
  run_one : (m : ℕ) → left_ctors ls keep d (c + m) (i + fields_in ls c m) 1 ≡ left_ctor ls keep d (c + m) (i + fields_in ls c m) ∷ []
  unfolding ctors_by
  run_one m = refl

  pub ctors_room : (m k j : ℕ) → m < k → j ≡ i + fields_in ls c m → Room (lines_to k) p out → Writes (lines_to m) p q out mid → Room (ctor_lines (left_ctor ls keep d (c + m) j ∷ [])) q mid
  ctors_room m k j h g r a =
      let e : m + 1 + (k - (m + 1)) ≡ k = omega arith in
      let y : Room (lines_to (m + 1 + (k - (m + 1)))) p out = rw e r in
      let s : Room (lines_to (m + 1)) p out =
      room_first (lines_to (m + 1)) (lines_from (m + 1) (k - (m + 1))) (growing_ctors (left_ctors ls keep d (c + (m + 1)) (i + fields_in ls c (m + 1)) (k - (m + 1)))) p q out mid
      (room_as (lines_to (m + 1 + (k - (m + 1)))) (seq (lines_to (m + 1)) (lines_from (m + 1) (k - (m + 1)))) (λ w. sym (runs (m + 1) (k - (m + 1)) w)) p out y) in
      rw (g, ← run_one m)
      (room_rest (lines_to m) (lines_from m 1) (growing_ctors (left_ctors ls keep d (c + m) (i + fields_in ls c m) 1)) p q out mid
      (room_as (lines_to (m + 1)) (seq (lines_to m) (lines_from m 1)) (λ w. sym (runs m 1 w)) p out s) a)

  pub ctors_writes : (m j : ℕ) (s : Place) (out' : List ℕ) → j ≡ i + fields_in ls c m → Writes (lines_to m) p q out mid → Writes (ctor_lines (left_ctor ls keep d (c + m) j ∷ [])) q s mid out' → Writes (lines_to (m + 1)) p s out out'
  ctors_writes m j s out' g a h =
      writes_as (seq (lines_to m) (lines_from m 1)) (lines_to (m + 1)) (runs m 1) p s out out'
      (writes_seq (lines_to m) (lines_from m 1) (growing_ctors (left_ctors ls keep d (c + m) (i + fields_in ls c m) 1)) p q out mid s out' a (rw (run_one m) (rw g at h)))

pub ctors_start : (ls : List Line) (keep : List ℕ) (d c i : ℕ) (p : Place) (out : List ℕ) → Writes (ctor_lines (left_ctors ls keep d c i 0)) p p out out
unfolding ctors_by ctor_lines
ctors_start ls keep d c i p out = writes_none p out

pub fields_in_start : (ls : List Line) (c i : ℕ) → i ≡ i + fields_in ls c 0
unfolding fields_in
fields_in_start ls c i = omega arith

-- the F lines of one of them
module _ (ls : List Line) (t u f keep : List ℕ) (d c i k n : ℕ) (r : Ctors ls t u f keep d c i k n) (m : ℕ) (h : m < k) (j : ℕ) (e : j ≡ i + fields_in ls c m) where
  pub ctor_next : j + ctor_fields ls (c + m) ≡ i + fields_in ls c (m + 1)
  ctor_next = rw (add-one m) (omega (arith, fields_in_last ls c m))

  ctor_end : j + ctor_fields ls (c + m) ≤ i + fields_in ls c k
  ctor_end =
      let z : m + 1 + (k - (m + 1)) ≡ k = omega arith in
      omega (arith, ctor_next, ap (fields_in ls c) z, fields_in_more ls c (m + 1) (k - (m + 1)))

  pub ctor_given : (l : ℕ) → l ≡ n → Fields ls t u f keep d j (j + ctor_fields ls (c + m)) l
  ctor_given l g = part_fields ls t u f keep d i (i + fields_in ls c k) n j (j + ctor_fields ls (c + m)) l (omega arith) ctor_end g r.fields

  pub ctor_few : j + ctor_fields ls (c + m) ≤ length keep
  ctor_few = omega (arith, ctor_end, r.fields.inside, r.fields.long)
