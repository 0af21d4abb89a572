-- The lines around a body, one after the other. Assumes nothing.
use Rattle.std.specs.Prelude.{◌≡◌, List, [], ◌∷◌, ◌++◌, map, ℕ, zero, suc, ◌+◌, ◌-◌, ◌≤◌, ◌<◌, length}
use Rattle.std.proofs.Common.{ap, ap₂, sym, ◌∙◌, subst, arith}
use Rattle.std.proofs.lemmas.List.{map-append}
use Rattle.sheet.specs.Line.{Line, row, number}
use Rattle.sheet.specs.Sheet.{lines}
use Rattle.table_declared.specs.Passed.{Passed}
use Rattle.meaning.specs.Program.{param_line}
use Rattle.meaning.specs.Rows.{count_of}
use Rattle.meaning.specs.Output.{Written, last}
use Rattle.row4_limits.specs.Limits.{start}
use Rattle.table_access.specs.Tables.{nth, head_line, first_of}
use Rattle.resolve_kids.specs.Params.{params_from, params_of}
use Rattle.resolve_kids.specs.ParamsLaws.{count_before_le}
use Rattle.resolve_kids.specs.ParamsLaws.{params_length}
use Rattle.left_places.specs.declared.Place.{Place}
use Rattle.left_places.specs.Places.{Writing, one, more, seq, Growing, At, Inside, Room, Writes}
use Rattle.left_places.specs.PlacesLaws.{growing_one, growing_seq, writes_none, writes_as, room_as, room_first, room_rest, writes_seq}
use Rattle.left_decls.specs.Heads.{fixed, by_last, param_row, verdict_row, head_rows, framed}
use Rattle.table_declared.specs.PassedLaws.{nth_small}

pub growing_fixed : (ms : List Line) → Growing (fixed ms)
growing_fixed ms w = (omega arith, omega arith)

-- ---- the number of the type that was written last
pub room_last : (f : ℕ → Writing) (p : Place) (out : List ℕ) → Room (by_last f) p out → Room (f (p.types - 1)) p out
room_last f p out r =
    let e : last r.lines.written ≡ p.types - 1 = ap (λ (n : ℕ). n - 1) (sym r.at.types_are) in
    record { base = r.base; start = r.start; lines = r.lines; at = r.at; inside = subst (λ (n : ℕ). Inside r.base r.start (more r.lines (f n)) p) e r.inside }

pub writes_last : (f : ℕ → Writing) (p r : Place) (out out' : List ℕ) → Writes (f (p.types - 1)) p r out out' → Writes (by_last f) p r out out'
writes_last f p r out out' w =
    record {
      lists_stay = w.lists_stay;
      nodes_stay = w.nodes_stay;
      adds = λ d k x h i.
          let e : last x.written ≡ p.types - 1 = ap (λ (n : ℕ). n - 1) (sym h.types_are) in
          subst (λ (n : ℕ). At d k (more x (f n)) r out') (sym e) (w.adds d k x h (subst (λ (n : ℕ). Inside d k (more x (f n)) p) e i));
    }

-- ---- P lines
params_more : (ls : List Line) (p m n : ℕ) → params_from ls p (m + n) ≡ params_from ls p m ++ params_from ls (p + m) n
unfolding params_from
params_more ls p zero n =
    let e : 0 + n ≡ n = omega arith in
    let a : p + 0 ≡ p = omega arith in
    rw (e, a)
params_more ls p (suc m) n =
    let e : suc m + n ≡ suc (m + n) = omega arith in
    let a : suc p + m ≡ p + suc m = omega arith in
    rw e (ap (λ (r : List ℕ). number (nth param_line ls p) 0 ∷ r) (params_more ls (suc p) m n ∙ rw a))

module _ (ls : List Line) (i : ℕ) (p q : Place) (out mid : List ℕ) where
  abbrev rows_to : ℕ → Writing
  rows_to n = fixed (map param_row (params_from ls i n))

  abbrev rows_from : ℕ → ℕ → Writing
  rows_from m n = fixed (map param_row (params_from ls (i + m) n))

  runs : (m n : ℕ) (w : Written) → seq (rows_to m) (rows_from m n) w ≡ rows_to (m + n) w
  runs m n w =
      ap (λ (l : List Line). record { written = w; lines = l })
      (sym (map-append param_row (params_from ls i m) (params_from ls (i + m) n)) ∙ ap (map param_row) (sym (params_more ls i m n)))

  -- one P line, where x is its name
  one_row : (m x : ℕ) → x ≡ number (nth param_line ls (i + m)) 0 → (w : Written) → rows_from m 1 w ≡ one (param_row x) w
  unfolding params_from
  one_row m x e w = rw e

  pub params_room : (m n x : ℕ) → m < n → x ≡ number (nth param_line ls (i + m)) 0 → Room (rows_to n) p out → Writes (rows_to m) p q out mid → Room (one (param_row x)) q mid
  params_room m n x h g r a =
      let e : m + 1 + (n - (m + 1)) ≡ n = omega arith in
      let y : Room (rows_to (m + 1 + (n - (m + 1)))) p out = rw e r in
      let s : Room (rows_to (m + 1)) p out =
      room_first (rows_to (m + 1)) (rows_from (m + 1) (n - (m + 1))) (growing_fixed (map param_row (params_from ls (i + (m + 1)) (n - (m + 1))))) p q out mid
      (room_as (rows_to (m + 1 + (n - (m + 1)))) (seq (rows_to (m + 1)) (rows_from (m + 1) (n - (m + 1)))) (λ w. sym (runs (m + 1) (n - (m + 1)) w)) p out y) in
      room_as (rows_from m 1) (one (param_row x)) (one_row m x g) q mid
      (room_rest (rows_to m) (rows_from m 1) (growing_fixed (map param_row (params_from ls (i + m) 1))) p q out mid
      (room_as (rows_to (m + 1)) (seq (rows_to m) (rows_from m 1)) (λ w. sym (runs m 1 w)) p out s) a)

  pub params_writes : (m x : ℕ) (s : Place) (out' : List ℕ) → x ≡ number (nth param_line ls (i + m)) 0 → Writes (rows_to m) p q out mid → Writes (one (param_row x)) q s mid out' → Writes (rows_to (m + 1)) p s out out'
  params_writes m x s out' g a h =
      writes_as (seq (rows_to m) (rows_from m 1)) (rows_to (m + 1)) (runs m 1) p s out out'
      (writes_seq (rows_to m) (rows_from m 1) (growing_fixed (map param_row (params_from ls (i + m) 1))) p q out mid s out' a
      (writes_as (one (param_row x)) (rows_from m 1) (λ w. sym (one_row m x g w)) q s mid out' h))

pub params_start : (ls : List Line) (i : ℕ) (p : Place) (out : List ℕ) → Writes (fixed (map param_row (params_from ls i 0))) p p out out
unfolding params_from
params_start ls i p out = writes_none p out

-- the P lines of a declaration
module _ (ls : List Line) (d n : ℕ) (e : n ≡ length (params_of ls d)) where
  count_is : n ≡ first_of param_line ls (d + 1) - first_of param_line ls d
  count_is = e ∙ params_length ls (first_of param_line ls d) (first_of param_line ls (d + 1) - first_of param_line ls d)

  pub params_inside : (i : ℕ) → i ≡ first_of param_line ls d → i + n ≤ count_of param_line ls
  params_inside i g = omega (arith, count_is, count_before_le param_line ls (start ls d), count_before_le param_line ls (start ls (d + 1)))

  pub params_all : (i : ℕ) → i ≡ first_of param_line ls d → params_from ls i n ≡ params_of ls d
  params_all i g = ap₂ (λ (x y : ℕ). params_from ls x y) g count_is

-- names are small numbers
pub param_small : (ls : List Line) → Passed ls → (j : ℕ) → j < count_of param_line ls → number (nth param_line ls j) 0 < 4294967296
param_small ls p j h = omega (arith, nth_small ls p param_line j 0 h)

-- ---- the D line and the P lines
module _ (ls : List Line) (d kind end x y n i : ℕ) (p q : Place) (out mid : List ℕ) (r : Room (fixed (head_rows ls d kind end)) p out)
    (ex : x ≡ number (head_line ls d) 0) (ey : y ≡ number (head_line ls d) 1) (en : n ≡ length (params_of ls d)) (ei : i ≡ first_of param_line ls d) where
  abbrev d_row : Line
  d_row = row 68 (x ∷ y ∷ kind ∷ n ∷ end ∷ [])

  abbrev p_rows : Writing
  p_rows = fixed (map param_row (params_from ls i n))

  head_parts : (w : Written) → seq (one d_row) p_rows w ≡ fixed (head_rows ls d kind end) w
  head_parts w =
      let a = params_all ls d n en i ei in
      rw (a, ex, ey, en)

  parted : Room (seq (one d_row) p_rows) p out
  parted = room_as (fixed (head_rows ls d kind end)) (seq (one d_row) p_rows) (λ w. sym (head_parts w)) p out r

  pub d_room : Room (one d_row) p out
  d_room = room_first (one d_row) p_rows (growing_fixed (map param_row (params_from ls i n))) p q out mid parted

  module _ (a : Writes (one d_row) p q out mid) where
    pub p_room : Room p_rows q mid
    p_room = room_rest (one d_row) p_rows (growing_fixed (map param_row (params_from ls i n))) p q out mid parted a

    pub head_writes : (s : Place) (out' : List ℕ) → Writes p_rows q s mid out' → Writes (fixed (head_rows ls d kind end)) p s out out'
    head_writes s out' h =
        writes_as (seq (one d_row) p_rows) (fixed (head_rows ls d kind end)) head_parts p s out out'
        (writes_seq (one d_row) p_rows (growing_fixed (map param_row (params_from ls i n))) p q out mid s out' a h)

-- ---- around a body
module _ (ls : List Line) (d kind end : ℕ) (body : Writing) (grows : Growing body) (p q : Place) (out mid : List ℕ) where
  abbrev head : Writing
  head = fixed (head_rows ls d kind end)

  body_grows : Growing (seq head body)
  body_grows = growing_seq head body (growing_fixed (head_rows ls d kind end)) grows

  module _ (r : Room (framed ls d kind end body) p out) where
    front : Room (seq head body) p out
    front = room_first (seq head body) (one verdict_row) (growing_one verdict_row) p q out mid r

    pub frame_head : Room head p out
    frame_head = room_first head body grows p q out mid front

    module _ (a : Writes head p q out mid) where
      pub frame_body : Room body q mid
      frame_body = room_rest head body grows p q out mid front a

      module _ (s : Place) (out₂ : List ℕ) (h : Writes body q s mid out₂) where
        whole : Writes (seq head body) p s out out₂
        whole = writes_seq head body grows p q out mid s out₂ a h

        pub frame_end : Room (one verdict_row) s out₂
        frame_end = room_rest (seq head body) (one verdict_row) (growing_one verdict_row) p s out out₂ r whole

        pub frame_writes : (v : Place) (out' : List ℕ) → Writes (one verdict_row) s v out₂ out' → Writes (framed ls d kind end body) p v out out'
        frame_writes v out' k = writes_seq (seq head body) (one verdict_row) (growing_one verdict_row) p s out out₂ v out' whole k
