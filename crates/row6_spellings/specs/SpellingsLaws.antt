-- Equal spellings byte by byte, with the spaces after them or without, and the N lines of a sheet in order: they come first.
-- Assumes nothing.
use Rattle.std.specs.Prelude.{◌≡◌, List, [], ◌∷◌, ◌++◌, map, Bool, ◌&&◌, ℕ, zero, suc, ◌+◌, ◌*◌, ◌-◌, ◌≤◌, ◌<◌, eqb, leb, ltb, get_or, take, drop, replicate}
use Rattle.std.proofs.Math.Path.{refl}
use Rattle.std.proofs.Common.{ap, sym, ◌∙◌, append_assoc, take-take, drop-drop, take_at, drop_at}
use Rattle.std.proofs.Math.Bool.{true, false}
use native.Mathlib.Omega.{arith}
use Rattle.std.proofs.Math.ListN.{length, drop_of_length-le}
use Rattle.std.proofs.Math.Seq.{drop-cons, take-length}
use borrow.Author.Tests.{eq-eqb, eqb-true, ne_eqb, leb-true, leb-false, ltb-true, ltb-false}
use Rattle.number_columns.specs.Column.{pick, write}
use Rattle.number_columns.specs.ColumnLaws.{write_length}
use Rattle.sheet.specs.Format.{line_bytes, text_bytes}
use Rattle.sheet.specs.Line.{Line, named, row, bad, lettered, padded, encode, letter, text}
use Rattle.sheet.proofs.LineLaws.{Graphic, Fits, length_padded, decode_fits}
use Rattle.sheet.specs.Sheet.{first, count, line_at, line, lines}
use Rattle.sheet.proofs.SheetLaws.{length_lines, get_or_lines, encode_line, line_good}
use Rattle.meaning.specs.Program.{name_line, is}
use Rattle.meaning.specs.Rows.{some_below, nth_line, count_of, count_before, equal}
use Rattle.sheet.proofs.FirstLaws.{none_first, first_none}
use Rattle.row3_order.specs.StepLaws.{count_before_step, count_before_le, count_before_mono}
use Rattle.rows_header.specs.OrderLaws.{Ordered, ordered_lines, name_before}
use Rattle.row6_spellings.specs.Spellings.{Ranged, respelled, text_at, spelled_before}
use Rattle.row6_spellings.specs.SomeLaws.{some_congr, some_none}

contrary : {A : Type 0} (b : Bool) → b ≡ true → b ≡ false → A
contrary b t f = let z : ◌≡◌ {A = ℕ} 0 1 = cc in absurd (omega arith)

and_false : (c : Bool) → c && false ≡ false
and_false true = refl
and_false false = refl

and_false_and : (c d : Bool) → (c && false && d) ≡ false
and_false_and true d = refl
and_false_and false d = refl

-- ---- equal bytes
pub equal_length : (a b : List ℕ) → (length a ≡ length b → ⊥) → equal a b ≡ false
unfolding equal
equal_length [] [] h = absurd (h refl)
equal_length [] (y ∷ b) h = refl
equal_length (x ∷ a) [] h = refl
equal_length (x ∷ a) (y ∷ b) h = rw (equal_length a b (λ e. h (ap suc e))) (and_false (eqb x y))

module _ (a b : List ℕ) (i : ℕ) (e : length a ≡ length b) where
  pub equal_next : i < length a → get_or a i 0 ≡ get_or b i 0 → equal (drop i a) (drop i b) ≡ equal (drop (suc i) a) (drop (suc i) b)
  unfolding equal
  equal_next h s =
      let k : i < length b = omega arith in
      rw (drop-cons a i 0 h, drop-cons b i 0 k, eq-eqb (get_or a i 0) (get_or b i 0) s)

  pub equal_differ : i < length a → (get_or a i 0 ≡ get_or b i 0 → ⊥) → equal (drop i a) (drop i b) ≡ false
  unfolding equal
  equal_differ h s =
      let k : i < length b = omega arith in
      rw (drop-cons a i 0 h, drop-cons b i 0 k, ne_eqb (get_or a i 0) (get_or b i 0) s)

  pub equal_end : length a ≤ i → equal (drop i a) (drop i b) ≡ true
  unfolding equal
  equal_end h = rw (drop_of_length-le a {i = i} h, drop_of_length-le b {i = i} (omega arith))

-- texts with spaces after them, up to the same length
equal_replicate : (n x : ℕ) → equal (replicate n x) (replicate n x) ≡ true
unfolding equal
equal_replicate zero x = refl
equal_replicate (suc n) x = rw (eq-eqb x x refl, equal_replicate n x)

-- spaces are not how a text begins
spaces_text : (m y : ℕ) (u : List ℕ) → 33 ≤ y → equal (replicate m 32) (y ∷ u) ≡ false
unfolding equal
spaces_text zero y u h = refl
spaces_text (suc m) y u h = let d : 32 ≡ y → ⊥ = λ e. omega arith in rw (ne_eqb 32 y d)

text_spaces : (m y : ℕ) (u : List ℕ) → 33 ≤ y → equal (y ∷ u) (replicate m 32) ≡ false
unfolding equal
text_spaces zero y u h = refl
text_spaces (suc m) y u h = let d : y ≡ 32 → ⊥ = λ e. omega arith in rw (ne_eqb y 32 d)

equal_spaced : (t u : List ℕ) (m n : ℕ) → Graphic t → Graphic u → length t + m ≡ length u + n → equal (t ++ replicate m 32) (u ++ replicate n 32) ≡ equal t u
unfolding equal
equal_spaced [] [] m n g h l = let e : m ≡ n = omega arith in rw e (equal_replicate n 32)
equal_spaced [] (y ∷ u) m n g h l = spaces_text m y (u ++ replicate n 32) h.0
equal_spaced (x ∷ t) [] m n g h l = text_spaces n x (t ++ replicate m 32) g.0
equal_spaced (x ∷ t) (y ∷ u) m n g h l = rw (equal_spaced t u m n g.2 h.2 (omega arith))

-- two texts are equal exactly if they are with the spaces after them
pub equal_padded : (n : ℕ) (t u : List ℕ) → (length t ≤ n) × Graphic t → (length u ≤ n) × Graphic u → equal (padded n t) (padded n u) ≡ equal t u
unfolding padded
equal_padded n t u g h = equal_spaced t u (n - length t) (n - length u) g.1 h.1 (omega arith)

-- ---- the text of an N line
-- k bytes from a on, of what begins with them
part_take : (k a n : ℕ) (b : List ℕ) → a + k ≤ n → take k (drop a (take n b)) ≡ take k (drop a b)
part_take k zero n b h = take-take k n b (omega arith)
part_take k (suc a) zero b h = absurd (omega arith)
part_take k (suc a) (suc n) [] h = refl
part_take k (suc a) (suc n) (x ∷ b) h = part_take k a n b (omega arith)

-- the part by its place in the sheet
pub text_at_part : (w : ℕ) (b : List ℕ) (i : ℕ) → text_at w b i ≡ take (text_bytes w) (drop (line_bytes w * i + (1 + w)) b)
unfolding text_at line_at
text_at_part w b i = part_take (text_bytes w) (1 + w) (line_bytes w) (drop (line_bytes w * i) b) (omega arith) ∙ rw drop-drop

-- an encoded N line has its text there, with spaces after it
encode_text : (w : ℕ) (l : Line) → is name_line l ≡ true → Fits w l → take (text_bytes w) (drop (1 + w) (encode w l)) ≡ padded (text_bytes w) (text l)
unfolding encode lettered
encode_text w (named n t) e h =
    let p : List ℕ = 78 ∷ write w n in
    let u = padded (text_bytes w) t in
    rw (append_assoc, drop_at p (u ++ (10 ∷ [])) (1 + w) (omega (arith, write_length w n))) (take_at u (10 ∷ []) (text_bytes w) (length_padded (text_bytes w) t h.2))
encode_text w (row x ns) e h = let k : lettered 78 ≡ true = rw (eqb-true x 78 e) at h.0 in contrary (lettered 78) k refl
encode_text w bad e h = absurd h

-- the text of a line that fits
text_fits : (w : ℕ) (l : Line) → Fits w l → (length (text l) ≤ text_bytes w) × Graphic (text l)
text_fits w (named n t) h = (h.2, h.3)
text_fits w (row x ns) h = (omega arith, tt)
text_fits w bad h = absurd h

-- ---- the N lines come first
module _ (ls : List Line) (o : Ordered 0 (map letter ls)) where
  -- an N line is one of the first
  pub name_within : (i : ℕ) → i < length ls → is name_line (nth_line ls i) ≡ true → i < count_of name_line ls
  name_within i h e =
      let s : count_before name_line ls (suc i) ≡ count_before name_line ls i + 1 = rw e at (count_before_step ls i h name_line) in
      let w : count_before name_line ls (length ls) ≡ count_of name_line ls = ap (count_of name_line) (take-length ls) in
      omega (arith, name_before ls o i h e, count_before_mono ls name_line (suc i) (length ls) h (omega arith))

  -- past a line that is none there is none
  no_more : (i : ℕ) → i < length ls → is name_line (nth_line ls i) ≡ false → (m : ℕ) → i < m → m ≤ length ls → count_before name_line ls m ≤ i
  no_more i h e zero l k = absurd (omega arith)
  no_more i h e (suc m) l k = rw (count_before_step ls m k name_line) (go (is name_line (nth_line ls m)) refl (leb m i) refl (λ j. no_more i h e m j (omega arith)))
    where
      go : (c : Bool) → is name_line (nth_line ls m) ≡ c → (d : Bool) → leb m i ≡ d → (i < m → count_before name_line ls m ≤ i)
          → pick c (count_before name_line ls m + 1) (count_before name_line ls m) ≤ i
      go true q true r f =
          let s : m ≡ i = omega (arith, leb-true m i r) in
          contrary (is name_line (nth_line ls i)) (rw s at q) e
      go true q false r f =
          let d : i < m = leb-false m i r in
          absurd (omega (arith, name_before ls o m k q, f d))
      go false q true r f = omega (arith, count_before_le ls name_line m (omega arith), leb-true m i r)
      go false q false r f = f (leb-false m i r)

  -- each of the first lines is an N line
  pub within_name : (i : ℕ) → i < count_of name_line ls → is name_line (nth_line ls i) ≡ true
  within_name i h = go (is name_line (nth_line ls i)) refl
    where
      whole : count_before name_line ls (length ls) ≡ count_of name_line ls
      whole = ap (count_of name_line) (take-length ls)

      go : (c : Bool) → is name_line (nth_line ls i) ≡ c → is name_line (nth_line ls i) ≡ true
      go true e = e
      go false e =
          let l : i < length ls = omega (arith, whole, count_before_le ls name_line (length ls) (omega arith)) in
          absurd (omega (arith, whole, no_more i l e (length ls) l (omega arith)))

-- ---- the spellings of a sheet that passed rows 1 to 5
module _ (b : List ℕ) (r : Ranged b) where
  ordered : Ordered 0 (map letter (lines 6 b))
  ordered = ordered_lines 6 b r.no_bad r.in_order

  within_lines : (i : ℕ) → i < count_of name_line (lines 6 b) → i < length (lines 6 b)
  within_lines i h =
      omega (arith, ap (count_of name_line) (take-length (lines 6 b)), count_before_le (lines 6 b) name_line (length (lines 6 b)) (omega arith))

  pub name_counted : (i : ℕ) → i < count_of name_line (lines 6 b) → i < count 6 b
  name_counted i h = omega (arith, within_lines i h, length_lines 6 b)

  fits_at : (i : ℕ) → i < count_of name_line (lines 6 b) → Fits 6 (line 6 b i)
  unfolding line
  fits_at i h = decode_fits 6 (line_at 6 b i) (line_good 6 b r.no_bad i (name_counted i h))

  -- an N line has its text there, with spaces after it
  text_at_padded : (i : ℕ) → i < count_of name_line (lines 6 b) → text_at 6 b i ≡ padded 24 (text (line 6 b i))
  unfolding text_at
  text_at_padded i h =
      let e : is name_line (line 6 b i) ≡ true = rw (get_or_lines 6 b i) at (within_name (lines 6 b) ordered i h) in
      rw (← encode_line 6 b i (name_counted i h) (line_good 6 b r.no_bad i (name_counted i h))) (encode_text 6 (line 6 b i) e (fits_at i h))

  -- two N lines have equal spellings exactly if they have equal bytes there
  pub equal_text_at : (j i : ℕ) → j < count_of name_line (lines 6 b) → i < count_of name_line (lines 6 b)
      → equal (text (nth_line (lines 6 b) j)) (text (nth_line (lines 6 b) i)) ≡ equal (text_at 6 b j) (text_at 6 b i)
  equal_text_at j i k h =
      rw (get_or_lines 6 b j, get_or_lines 6 b i, text_at_padded j k, text_at_padded i h)
      (sym (equal_padded 24 (text (line 6 b j)) (text (line 6 b i)) (text_fits 6 (line 6 b j) (fits_at j k)) (text_fits 6 (line 6 b i) (fits_at i h))))

  -- an N line has the spelling of an earlier one exactly if it has its bytes of text
  pub respelled_at : (i : ℕ) → i < count_of name_line (lines 6 b) → respelled (lines 6 b) i ≡ spelled_before 6 b i
  unfolding respelled spelled_before
  respelled_at i h =
      some_congr
      (λ j. is name_line (nth_line (lines 6 b) j) && is name_line (nth_line (lines 6 b) i) && equal (text (nth_line (lines 6 b) j)) (text (nth_line (lines 6 b) i)))
      (λ j. equal (text_at 6 b j) (text_at 6 b i)) i
      (λ j k. rw (within_name (lines 6 b) ordered j (omega arith), within_name (lines 6 b) ordered i h) (equal_text_at j i (omega arith) h))

  -- and no other line has
  pub respelled_past : (i : ℕ) → count_of name_line (lines 6 b) ≤ i → i < length (lines 6 b) → respelled (lines 6 b) i ≡ false
  unfolding respelled
  respelled_past i h l = go (is name_line (nth_line (lines 6 b) i)) refl
    where
      go : (c : Bool) → is name_line (nth_line (lines 6 b) i) ≡ c →
          some_below (λ j. is name_line (nth_line (lines 6 b) j) && is name_line (nth_line (lines 6 b) i) && equal (text (nth_line (lines 6 b) j)) (text (nth_line (lines 6 b) i))) i ≡ false
      go true e = absurd (omega (arith, name_within (lines 6 b) ordered i l e))
      go false e =
          some_none (λ j. is name_line (nth_line (lines 6 b) j) && is name_line (nth_line (lines 6 b) i) && equal (text (nth_line (lines 6 b) j)) (text (nth_line (lines 6 b) i))) i
          (λ j k. rw e (and_false_and (is name_line (nth_line (lines 6 b) j)) (equal (text (nth_line (lines 6 b) j)) (text (nth_line (lines 6 b) i)))))

  -- the end of a loop over the N lines
  pub respelled_none : (i : ℕ) → i ≡ count_of name_line (lines 6 b) → first (respelled (lines 6 b)) i ≡ i → first (respelled (lines 6 b)) (count 6 b) ≡ count 6 b
  respelled_none i e f = first_none (respelled (lines 6 b)) (count 6 b) (λ j l. go j l (ltb j i) refl)
    where
      go : (j : ℕ) → j < count 6 b → (c : Bool) → ltb j i ≡ c → respelled (lines 6 b) j ≡ false
      go j l true q = none_first (respelled (lines 6 b)) i f j (ltb-true j i q)
      go j l false q = respelled_past j (omega (arith, ltb-false j i q)) (omega (arith, length_lines 6 b))
