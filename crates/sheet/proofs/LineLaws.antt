-- A line whose numbers and text fit their columns is what its bytes decode to, bytes that decode to a line are its encoding, and
-- what a line is by its bytes: for any number of columns. Assumes nothing.
use Rattle.std.specs.Prelude.{◌≡◌, Option, Some, None, ◌&&◌, leb, replicate}
use Rattle.std.proofs.Math.Path.{refl, ap, ap₂, sym}
use Rattle.std.proofs.Common.{◌∙◌, suc-mul, mul-le-mul_right, length-append, take-append-drop, drop_of_length-le, take_at, drop_at, drop-drop, drop-cons, le-leb, eqb-true, leb-true, leb-false}
use mathlib.Core.List.{List, [], ◌∷◌, ◌++◌, append_assoc, append-nil}
use Rattle.std.proofs.Math.Bool.{Bool, true, false}
use Prim.Native.Nat.{ℕ, zero, suc, ◌+◌, ◌*◌, ◌-◌, ◌^◌, ◌≤◌, ◌<◌}
use native.Mathlib.Omega.{arith}
use Rattle.std.proofs.Math.Dec.{eqb}
use Rattle.std.proofs.Math.ListN.{length, take, drop, get_or, length-drop, get_or-eq_default}
use Rattle.std.proofs.lemmas.List.{length-replicate, get_or_at}
use Rattle.std.proofs.Math.Seq.{drop-append_seam, length-take-le}
use Rattle.std.proofs.lemmas.Bool.{eqb-false}
use Rattle.number_columns.specs.Column.{pick, read, write}
use Rattle.number_columns.specs.ColumnLaws.{read_write, write_read, write_length}
use Rattle.sheet.specs.Format.{line_bytes, text_bytes}
use Rattle.sheet.specs.Line.{Line, named, row, bad, graphic, spelling, spaces, proper, padded, lettered, cell, is_value, value, decode_named, decode_row, decode, writes, encode, letter, number, is_bad}
pub use Rattle.sheet.proofs.ListLaws.{both}
use Rattle.sheet.proofs.ListLaws.{false_true, Every, every_at}

-- ---- a line that fits
-- every byte is one of a name's text
abbrev pub Graphic : List ℕ → Type 0
Graphic [] = Unit {0}
Graphic (b ∷ t) = (33 ≤ b) × (b ≤ 126) × Graphic t

-- every number is below m
abbrev pub AllBelow : ℕ → List ℕ → Type 0
AllBelow m = Every (λ n. n < m)

-- The numbers fit their w columns and a name's text its part of the line; the letter is one of a line with five numbers.
abbrev pub Fits : ℕ → Line → Type 0
Fits w (named n t) = (n < 10 ^ w) × (0 < length t) × (length t ≤ text_bytes w) × Graphic t
Fits w (row x ns) = (lettered x ≡ true) × (length ns ≡ 5) × AllBelow (10 ^ w) ns
Fits w bad = ⊥

-- ---- tests
-- what is not bad was picked
picked : (c : Bool) (l : Line) → is_bad (pick c l bad) ≡ false → c ≡ true
picked true l e = refl
picked false l e = false_true (sym e)

pub value_of : (m : Option ℕ) → is_value m ≡ true → m ≡ Some (value m)
value_of (Some n) e = refl
value_of None e = false_true e

-- ---- names
spelling_graphic : (t : List ℕ) → Graphic (spelling t)
unfolding spelling
spelling_graphic [] = tt
spelling_graphic (b ∷ t) = go (graphic b) refl (spelling_graphic t)
  where
    go : (c : Bool) → graphic b ≡ c → Graphic (spelling t) → Graphic (pick c (b ∷ spelling t) [])
    go true e h = let k = both (leb 33 b) (leb b 126) e in (leb-true 33 b k.0, leb-true b 126 k.1, h)
    go false e h = tt

-- the text is its spelling and what comes after
pub spelling_split : (t : List ℕ) → spelling t ++ drop (length (spelling t)) t ≡ t
unfolding spelling
spelling_split [] = refl
spelling_split (b ∷ t) = go (graphic b) (spelling_split t)
  where
    go : (c : Bool) → spelling t ++ drop (length (spelling t)) t ≡ t → pick c (b ∷ spelling t) [] ++ drop (length (pick c (b ∷ spelling t) [])) (b ∷ t) ≡ b ∷ t
    go true h = ap (λ (s : List ℕ). b ∷ s) h
    go false h = refl

spaces_replicate : (t : List ℕ) → spaces t ≡ true → t ≡ replicate (length t) 32
unfolding spaces
spaces_replicate [] e = refl
spaces_replicate (b ∷ t) e =
    let k = both (eqb b 32) (spaces t) e in
    ap₂ (λ (x : ℕ) (s : List ℕ). x ∷ s) (eqb-true b 32 k.0) (spaces_replicate t k.1)

replicate_spaces : (n : ℕ) → spaces (replicate n 32) ≡ true
unfolding spaces
replicate_spaces zero = refl
replicate_spaces (suc n) = replicate_spaces n

spelling_spaces : (n : ℕ) → spelling (replicate n 32) ≡ []
unfolding spelling
spelling_spaces zero = refl
spelling_spaces (suc n) = refl

spelling_append : (t s : List ℕ) → Graphic t → spelling s ≡ [] → spelling (t ++ s) ≡ t
unfolding spelling
spelling_append [] s g e = e
spelling_append (b ∷ t) s g e = rw (le-leb 33 b g.0, le-leb b 126 g.1) (ap (λ (u : List ℕ). b ∷ u) (spelling_append t s g.2 e))

spelling_padded : (n : ℕ) (t : List ℕ) → Graphic t → spelling (padded n t) ≡ t
unfolding padded
spelling_padded n t g = spelling_append t (replicate (n - length t) 32) g (spelling_spaces (n - length t))

proper_padded : (n : ℕ) (t : List ℕ) → 0 < length t → Graphic t → proper (padded n t) ≡ true
unfolding proper padded
proper_padded n t h g =
    let e : spelling (t ++ replicate (n - length t) 32) ≡ t = spelling_append t (replicate (n - length t) 32) g (spelling_spaces (n - length t)) in
    rw (e, le-leb 1 (length t) h, drop-append_seam) (replicate_spaces (n - length t))

pub length_padded : (n : ℕ) (t : List ℕ) → length t ≤ n → length (padded n t) ≡ n
unfolding padded
length_padded n t h = rw (length-append, length-replicate) (omega arith)

padded_spelling : (t : List ℕ) → proper t ≡ true → padded (length t) (spelling t) ≡ t
unfolding proper padded
padded_spelling t e =
    let s = drop (length (spelling t)) t in
    let k = both (leb 1 (length (spelling t))) (spaces s) e in
    let l : length s ≡ length t - length (spelling t) = length-drop (length (spelling t)) t in
    rw (← l, ← spaces_replicate s k.1) (spelling_split t)

pub spelling_le : (t : List ℕ) → length (spelling t) ≤ length t
spelling_le t = omega (arith, length-append (spelling t) (drop (length (spelling t)) t), ap length (spelling_split t))

pub spelling_take : (t : List ℕ) → spelling t ≡ take (length (spelling t)) t
spelling_take t =
    let n = length (spelling t) in
    sym (take_at (spelling t) (drop n t) n refl) ∙ ap (take n) (spelling_split t)

proper_length : (t : List ℕ) → proper t ≡ true → 0 < length (spelling t)
unfolding proper
proper_length t e = leb-true 1 (length (spelling t)) (both (leb 1 (length (spelling t))) (spaces (drop (length (spelling t)) t)) e).0

-- ---- numbers
-- the numbers of a line, as decode_row has them
abbrev values : ℕ → List ℕ → List ℕ
values w b = value (cell w b 0) ∷ value (cell w b 1) ∷ value (cell w b 2) ∷ value (cell w b 3) ∷ value (cell w b 4) ∷ []

-- a list of five by its members
pub five_numbers : (ns : List ℕ) → length ns ≡ 5 → get_or ns 0 0 ∷ get_or ns 1 0 ∷ get_or ns 2 0 ∷ get_or ns 3 0 ∷ get_or ns 4 0 ∷ [] ≡ ns
five_numbers [] h = absurd (omega arith)
five_numbers (a ∷ []) h = absurd (omega arith)
five_numbers (a ∷ b ∷ []) h = absurd (omega arith)
five_numbers (a ∷ b ∷ c ∷ []) h = absurd (omega arith)
five_numbers (a ∷ b ∷ c ∷ d ∷ []) h = absurd (omega arith)
five_numbers (a ∷ b ∷ c ∷ d ∷ e ∷ []) h = refl
five_numbers (a ∷ b ∷ c ∷ d ∷ e ∷ f ∷ ns) h = absurd (omega arith)

pub length_writes : (w : ℕ) (ns : List ℕ) → length (writes w ns) ≡ length ns * w
unfolding writes
length_writes w [] = omega arith
length_writes w (n ∷ ns) = rw (length-append, write_length, length_writes w ns, suc-mul) (omega arith)

-- the columns of number k among those written
writes_at : (w : ℕ) (ns r : List ℕ) (k : ℕ) → k < length ns → take w (drop (k * w) (writes w ns ++ r)) ≡ write w (get_or ns k 0)
unfolding writes
writes_at w [] r k h = absurd (omega arith)
writes_at w (n ∷ ns) r zero h = let e : zero * w ≡ 0 = omega arith in rw (e, append_assoc) (take_at (write w n) (writes w ns ++ r) w (write_length w n))
writes_at w (n ∷ ns) r (suc k) h =
    let e : suc k * w ≡ w + k * w = suc-mul k w ∙ omega arith in
    rw (e, ← drop-drop, append_assoc, drop_at (write w n) (writes w ns ++ r) w (write_length w n)) (writes_at w ns r k (omega arith))

read_written : (w n : ℕ) → 0 < w → n < 10 ^ w → read (write w n) ≡ Some n
read_written zero n z h = absurd (omega arith)
read_written (suc w) n z h = read_write w n h

-- the cell of the first number after a letter, and of number k of several
cell_first : (w x n : ℕ) (r : List ℕ) → 0 < w → n < 10 ^ w → cell w (x ∷ (write w n ++ r)) 0 ≡ Some n
unfolding cell
cell_first w x n r z h =
    let e : 1 + 0 * w ≡ 1 = omega arith in
    rw (e, take_at (write w n) r w (write_length w n)) (read_written w n z h)

cell_writes : (w x : ℕ) (ns r : List ℕ) (k : ℕ) → 0 < w → AllBelow (10 ^ w) ns → k < length ns → cell w (x ∷ (writes w ns ++ r)) k ≡ Some (get_or ns k 0)
unfolding cell
cell_writes w x ns r k z h l =
    let e : 1 + k * w ≡ suc (k * w) = omega arith in
    rw (e, writes_at w ns r k l) (read_written w (get_or ns k 0) z (every_at (λ n. n < 10 ^ w) 0 ns h k l))

pub lettered_other : (x : ℕ) → lettered x ≡ true → eqb x 78 ≡ false
unfolding lettered
lettered_other x h = go (eqb x 78) refl
  where
    go : (c : Bool) → eqb x 78 ≡ c → c ≡ false
    go true e = let k : x ≡ 78 = eqb-true x 78 e in false_true (rw k at h)
    go false e = refl

-- ---- decoding what was encoded
pub row_length : (w x : ℕ) (ns : List ℕ) → length ns ≡ 5 → length (encode w (row x ns)) ≡ line_bytes w
unfolding encode
row_length w x ns h = rw (length-append, length_writes, h) (omega arith)

pub named_length : (w n : ℕ) (t : List ℕ) → length t ≤ text_bytes w → length (encode w (named n t)) ≡ line_bytes w
unfolding encode
named_length w n t h = rw (length-append, length-append, write_length, length_padded (text_bytes w) t h) (omega arith)

pub encode_length : (w : ℕ) (l : Line) → Fits w l → length (encode w l) ≡ line_bytes w
encode_length w (named n t) h = named_length w n t h.2
encode_length w (row x ns) h = row_length w x ns h.1
encode_length w bad h = absurd h

-- what the parts of the bytes b make of them
decoded_named : (w : ℕ) (b u : List ℕ) (n : ℕ) → get_or b (5 * w + 1) 0 ≡ 10 → get_or b 0 0 ≡ 78 → cell w b 0 ≡ Some n → take (text_bytes w) (drop (1 + w) b) ≡ u →
    proper u ≡ true → decode w b ≡ named n (spelling u)
unfolding decode decode_named
decoded_named w b u n e x c t p = rw (e, x, c, t, p)

decoded_row : (w : ℕ) (b ns : List ℕ) → get_or b (5 * w + 1) 0 ≡ 10 → lettered (get_or b 0 0) ≡ true → length ns ≡ 5 →
    ((k : ℕ) → k < 5 → cell w b k ≡ Some (get_or ns k 0)) → decode w b ≡ row (get_or b 0 0) ns
unfolding decode decode_row
decoded_row w b ns e x l c =
    rw
    (e, lettered_other (get_or b 0 0) x, x, c 0 (omega arith), c 1 (omega arith), c 2 (omega arith), c 3 (omega arith), c 4 (omega arith))
    (ap (row (get_or b 0 0)) (five_numbers ns l))

pub decode_encode : (w : ℕ) (l : Line) → 0 < w → Fits w l → decode w (encode w l) ≡ l
unfolding encode
decode_encode w (named n t) z h =
    let p : List ℕ = 78 ∷ write w n in
    let u = padded (text_bytes w) t in
    let lp : length p ≡ 1 + w = omega (arith, write_length w n) in
    let lu : length u ≡ text_bytes w = length_padded (text_bytes w) t h.2 in
    decoded_named w (p ++ u ++ (10 ∷ [])) u n
    (get_or_at (p ++ u) 10 [] 0 (5 * w + 1) (omega (arith, length-append p u)))
    refl
    (rw append_assoc (cell_first w 78 n (u ++ (10 ∷ [])) z h.0))
    (rw (append_assoc, drop_at p (u ++ (10 ∷ [])) (1 + w) lp) (take_at u (10 ∷ []) (text_bytes w) lu))
    (proper_padded (text_bytes w) t h.1 h.3)
    ∙ ap (named n) (spelling_padded (text_bytes w) t h.3)
decode_encode w (row x ns) z h =
    decoded_row w (x ∷ writes w ns ++ (10 ∷ [])) ns
    (get_or_at (x ∷ writes w ns) 10 [] 0 (5 * w + 1) (omega (arith, length_writes w ns, ap (λ (n : ℕ). n * w) h.1)))
    h.0
    h.1
    (λ k l. cell_writes w x ns (10 ∷ []) k z h.2 (omega arith))
decode_encode w bad z h = absurd h

-- ---- encoding what was decoded
-- Bytes that decode to the line l: it fits, and they begin with its encoding.
abbrev Round : ℕ → List ℕ → Line → Type 0
Round w b l = Fits w l × (encode w l ++ drop (line_bytes w) b ≡ b)

-- w bytes from a on, and the rest
cut : (w a : ℕ) (b : List ℕ) → drop a b ≡ take w (drop a b) ++ drop (a + w) b
cut w a b = sym (rw (← drop-drop w a b) (take-append-drop w (drop a b)))

regroup : (a c : List ℕ) (y : ℕ) (d : List ℕ) → a ++ (c ++ (y ∷ d)) ≡ a ++ c ++ (y ∷ []) ++ d
regroup a c y d = simp append_assoc

-- number k of five lies within the line
cell_within : (w k : ℕ) → k < 5 → 1 + k * w + w ≤ 5 * w + 1
cell_within w k h = omega (arith, suc-mul k w, mul-le-mul_right w h)

module _ (w : ℕ) (b : List ℕ) (l : line_bytes w ≤ length b) where
  -- a part with a number is how it is written, and the number fits
  cell_written : (k : ℕ) → k < 5 → is_value (cell w b k) ≡ true → (take w (drop (1 + k * w) b) ≡ write w (value (cell w b k))) × (value (cell w b k) < 10 ^ w)
  unfolding cell
  cell_written k h v =
      let s = take w (drop (1 + k * w) b) in
      let e : length s ≡ w = length-take-le w (drop (1 + k * w) b) (rw length-drop (omega (arith, cell_within w k h))) in
      rw e at (write_read s (value (read s)) (value_of (read s) v))

  cell_step : (k : ℕ) → k < 5 → is_value (cell w b k) ≡ true → drop (1 + k * w) b ≡ write w (value (cell w b k)) ++ drop (1 + suc k * w) b
  cell_step k h v =
      let e : 1 + k * w + w ≡ 1 + suc k * w = omega (arith, suc-mul k w) in
      cut w (1 + k * w) b ∙ rw ((cell_written k h v).0, e)

  last_byte : get_or b (5 * w + 1) 0 ≡ 10 → drop (1 + 5 * w) b ≡ 10 ∷ drop (line_bytes w) b
  last_byte e =
      let c : 1 + 5 * w ≡ 5 * w + 1 = omega arith in
      let d : suc (5 * w + 1) ≡ line_bytes w = omega arith in
      rw c (drop-cons b (5 * w + 1) 0 (omega arith) ∙ rw (e, d))

  first_byte : b ≡ get_or b 0 0 ∷ drop (1 + 0 * w) b
  first_byte = let e : 1 + 0 * w ≡ 1 = omega arith in drop-cons b 0 0 (omega arith) ∙ rw e

  named_round : get_or b (5 * w + 1) 0 ≡ 10 → get_or b 0 0 ≡ 78 → is_bad (decode_named w b) ≡ false → Round w b (decode_named w b)
  unfolding decode_named encode
  named_round e x n =
      let t = take (text_bytes w) (drop (1 + w) b) in
      let k = both (is_value (cell w b 0)) (proper t) (picked (is_value (cell w b 0) && proper t) (named (value (cell w b 0)) (spelling t)) n) in
      let lt : length t ≡ text_bytes w = length-take-le (text_bytes w) (drop (1 + w) b) (rw length-drop (omega arith)) in
      let pt : padded (text_bytes w) (spelling t) ≡ t = rw lt at (padded_spelling t k.1) in
      let c : 1 + 1 * w ≡ 1 + w = omega arith in
      let d : 1 + w + text_bytes w ≡ 1 + 5 * w = omega arith in
      let rest : drop (1 + w) b ≡ padded (text_bytes w) (spelling t) ++ (10 ∷ drop (line_bytes w) b) =
      cut (text_bytes w) (1 + w) b ∙ ap₂ (λ (r s : List ℕ). r ++ s) (sym pt) (rw d (last_byte e)) in
      rw (k.0, k.1) (
        ((cell_written 0 (omega arith) k.0).1, proper_length t k.1, rw lt at (spelling_le t), spelling_graphic t),
        sym
            (first_byte
            ∙ ap₂ (λ (y : ℕ) (s : List ℕ). y ∷ s) x
            (cell_step 0 (omega arith) k.0 ∙ rw c (ap (λ (s : List ℕ). write w (value (cell w b 0)) ++ s) rest ∙ regroup (write w (value (cell w b 0))) (padded (text_bytes w) (spelling t)) 10 (drop (line_bytes w) b)))),
      )

  row_round : get_or b (5 * w + 1) 0 ≡ 10 → lettered (get_or b 0 0) ≡ true → is_bad (decode_row w b) ≡ false → Round w b (decode_row w b)
  unfolding decode_row encode writes
  row_round e x n =
      let v : ℕ → Bool = λ k. is_value (cell w b k) in
      let k4 = both (v 0 && v 1 && v 2 && v 3) (v 4) (picked (v 0 && v 1 && v 2 && v 3 && v 4) (row (get_or b 0 0) (values w b)) n) in
      let k3 = both (v 0 && v 1 && v 2) (v 3) k4.0 in
      let k2 = both (v 0 && v 1) (v 2) k3.0 in
      let k1 = both (v 0) (v 1) k2.0 in
      let c0 = cell_step 0 (omega arith) k1.0 in
      let c1 = cell_step 1 (omega arith) k1.1 in
      let c2 = cell_step 2 (omega arith) k2.1 in
      let c3 = cell_step 3 (omega arith) k3.1 in
      let c4 = cell_step 4 (omega arith) k4.1 in
      rw (k1.0, k1.1, k2.1, k3.1, k4.1) (
        (x, refl, ((cell_written 0 (omega arith) k1.0).1, ((cell_written 1 (omega arith) k1.1).1, ((cell_written 2 (omega arith) k2.1).1, ((cell_written 3 (omega arith) k3.1).1, ((cell_written 4 (omega arith) k4.1).1, tt)))))),
        sym (first_byte ∙ ap (λ (s : List ℕ). get_or b 0 0 ∷ s) (c0 ∙ rw (c1, c2, c3, c4, last_byte e) (simp append_assoc))),
      )

  round_long : is_bad (decode w b) ≡ false → Round w b (decode w b)
  unfolding decode
  round_long n = last (eqb (get_or b (5 * w + 1) 0) 10) refl n
    where
      by_letter : (c d : Bool) → get_or b (5 * w + 1) 0 ≡ 10 → eqb (get_or b 0 0) 78 ≡ c → lettered (get_or b 0 0) ≡ d →
          is_bad (pick c (decode_named w b) (pick d (decode_row w b) bad)) ≡ false → Round w b (pick c (decode_named w b) (pick d (decode_row w b) bad))
      by_letter true d e x y m = named_round e (eqb-true (get_or b 0 0) 78 x) m
      by_letter false true e x y m = row_round e y m
      by_letter false false e x y m = false_true (sym m)

      last : (c : Bool) → eqb (get_or b (5 * w + 1) 0) 10 ≡ c →
          is_bad (pick c (pick (eqb (get_or b 0 0) 78) (decode_named w b) (pick (lettered (get_or b 0 0)) (decode_row w b) bad)) bad) ≡ false →
          Round w b (pick c (pick (eqb (get_or b 0 0) 78) (decode_named w b) (pick (lettered (get_or b 0 0)) (decode_row w b) bad)) bad)
      last true e m = by_letter (eqb (get_or b 0 0) 78) (lettered (get_or b 0 0)) (eqb-true (get_or b (5 * w + 1) 0) 10 e) refl refl m
      last false e m = false_true (sym m)

-- too few bytes are no line
pub decode_short : (w : ℕ) (b : List ℕ) → length b < line_bytes w → decode w b ≡ bad
unfolding decode
decode_short w b h = rw (get_or-eq_default b 0 {n = 5 * w + 1} (omega arith))

decode_long : (w : ℕ) (b : List ℕ) → is_bad (decode w b) ≡ false → line_bytes w ≤ length b
decode_long w b n = go (leb (line_bytes w) (length b)) refl
  where
    go : (c : Bool) → leb (line_bytes w) (length b) ≡ c → line_bytes w ≤ length b
    go true e = leb-true (line_bytes w) (length b) e
    go false e = false_true (sym n ∙ ap is_bad (decode_short w b (leb-false (line_bytes w) (length b) e)))

pub encode_decode : (w : ℕ) (b : List ℕ) → length b ≡ line_bytes w → is_bad (decode w b) ≡ false → encode w (decode w b) ≡ b
encode_decode w b l n =
    let k = (round_long w b (omega arith) n).1 in
    rw (drop_of_length-le b {i = line_bytes w} (omega arith), append-nil) at k

pub decode_fits : (w : ℕ) (b : List ℕ) → is_bad (decode w b) ≡ false → Fits w (decode w b)
decode_fits w b n = (round_long w b (decode_long w b n) n).0

-- ---- what a line is, by its bytes
-- An N line, a line of five numbers each of which its columns hold, or no line.
pub data Decoded (w : ℕ) (b : List ℕ) : Line → Type 0 where
  as_named : (n : ℕ) → get_or b 0 0 ≡ 78 → cell w b 0 ≡ Some n → proper (take (text_bytes w) (drop (1 + w) b)) ≡ true
      → Decoded w b (named n (spelling (take (text_bytes w) (drop (1 + w) b))))
  as_row : (ns : List ℕ) → (get_or b 0 0 ≡ 78 → ⊥) → lettered (get_or b 0 0) ≡ true → length ns ≡ 5 → ((k : ℕ) → k < 5 → cell w b k ≡ Some (get_or ns k 0))
      → Decoded w b (row (get_or b 0 0) ns)
  as_bad : Decoded w b bad

row_decoded : (w : ℕ) (b : List ℕ) → (get_or b 0 0 ≡ 78 → ⊥) → lettered (get_or b 0 0) ≡ true → Decoded w b (decode_row w b)
unfolding decode_row
row_decoded w b z l = go (v 0 && v 1 && v 2 && v 3 && v 4) refl
  where
    v : ℕ → Bool
    v k = is_value (cell w b k)

    ns : List ℕ
    ns = value (cell w b 0) ∷ value (cell w b 1) ∷ value (cell w b 2) ∷ value (cell w b 3) ∷ value (cell w b 4) ∷ []

    each : v 0 && v 1 && v 2 && v 3 && v 4 ≡ true → (k : ℕ) → k < 5 → cell w b k ≡ Some (get_or ns k 0)
    each h zero k = value_of _ (both _ _ (both _ _ (both _ _ (both _ _ h).0).0).0).0
    each h (suc zero) k = value_of _ (both (v 0) (v 1) (both _ _ (both _ _ (both _ _ h).0).0).0).1
    each h (suc (suc zero)) k = value_of _ (both (v 0 && v 1) (v 2) (both _ _ (both _ _ h).0).0).1
    each h (suc (suc (suc zero))) k = value_of _ (both (v 0 && v 1 && v 2) (v 3) (both _ _ h).0).1
    each h (suc (suc (suc (suc zero)))) k = value_of _ (both (v 0 && v 1 && v 2 && v 3) (v 4) h).1
    each h (suc (suc (suc (suc (suc k))))) q = absurd (omega arith)

    go : (q : Bool) → v 0 && v 1 && v 2 && v 3 && v 4 ≡ q → Decoded w b (pick q (row (get_or b 0 0) ns) bad)
    go true h = as_row ns z l refl (each h)
    go false h = as_bad

named_decoded : (w : ℕ) (b : List ℕ) → get_or b 0 0 ≡ 78 → Decoded w b (decode_named w b)
unfolding decode_named
named_decoded w b z = go (cell w b 0) refl (proper t) refl
  where
    t : List ℕ
    t = take (text_bytes w) (drop (1 + w) b)

    go : (c : Option ℕ) → cell w b 0 ≡ c → (q : Bool) → proper t ≡ q → Decoded w b (pick (is_value c && q) (named (value c) (spelling t)) bad)
    go (Some n) e true p = as_named n z e p
    go (Some n) e false p = as_bad
    go None e q p = as_bad

pub decoded : (w : ℕ) (b : List ℕ) → Decoded w b (decode w b)
unfolding decode
decoded w b = last (eqb (get_or b (5 * w + 1) 0) 10)
  where
    other : (get_or b 0 0 ≡ 78 → ⊥) → (q : Bool) → lettered (get_or b 0 0) ≡ q → Decoded w b (pick q (decode_row w b) bad)
    other z true l = row_decoded w b z l
    other z false l = as_bad

    start : (q : Bool) → eqb (get_or b 0 0) 78 ≡ q → Decoded w b (pick q (decode_named w b) (pick (lettered (get_or b 0 0)) (decode_row w b) bad))
    start true h = named_decoded w b (eqb-true _ _ h)
    start false h = other (eqb-false _ _ h) (lettered (get_or b 0 0)) refl

    last : (q : Bool) → Decoded w b (pick q (pick (eqb (get_or b 0 0) 78) (decode_named w b) (pick (lettered (get_or b 0 0)) (decode_row w b) bad)) bad)
    last true = start (eqb (get_or b 0 0) 78) refl
    last false = as_bad

-- ---- lines that are not bad
pub letter_decode : (w : ℕ) (b : List ℕ) → is_bad (decode w b) ≡ false → letter (decode w b) ≡ get_or b 0 0
letter_decode w b = go (decoded w b)
  where
    go : {l : Line} → Decoded w b l → is_bad l ≡ false → letter l ≡ get_or b 0 0
    go (as_named n z e p) h = sym z
    go (as_row ns z l k e) h = refl
    go as_bad h = false_true (sym h)

-- a number by its columns; of an N line only the first is one
pub number_decode : (w : ℕ) (b : List ℕ) (k : ℕ) → is_bad (decode w b) ≡ false → k < 5 → (get_or b 0 0 ≡ 78 → k ≡ 0) → cell w b k ≡ Some (number (decode w b) k)
number_decode w b k = go (decoded w b)
  where
    go : {l : Line} → Decoded w b l → is_bad l ≡ false → k < 5 → (get_or b 0 0 ≡ 78 → k ≡ 0) → cell w b k ≡ Some (number l k)
    go (as_named n z e p) h q o = rw (o z) e
    go (as_row ns z l g e) h q o = e k q
    go as_bad h q o = false_true (sym h)
