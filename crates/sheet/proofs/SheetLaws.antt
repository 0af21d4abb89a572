-- The lines of a run of lines, and the run of the lines of a sheet, for any number of columns. Assumes nothing.
use Rattle.std.specs.Prelude.{◌≡◌, refl, List, [], ◌∷◌, ◌++◌, Bool, true, false, ℕ, zero, suc, ◌+◌, ◌*◌, ◌/◌, ◌%◌, ◌≤◌, ◌<◌, eqb, ltb, length, take, drop, get_or}
use Rattle.std.proofs.Common.{ap, ap₂, ◌∙◌, subst, append_assoc, append-nil, arith, add-one, mul-suc, mul-add, mul_comm, div-lt_iff_lt-mul, mul-le-mul_left, le_trans, length-append, length-take, length-drop, take-append-drop, take_at, take-take, drop-drop, length-take-le, eqb-true, ltb-true, ltb-false}
use Rattle.std.proofs.Math.Path.{sym}
use Rattle.std.proofs.Math.Nat.{zero-div, add-div_left, div-add-mod, mul-div-le}
use Rattle.std.proofs.Math.ListN.{get_or-eq_default}
use Rattle.std.proofs.lemmas.List.{take-append-le, drop-append-le}
use Rattle.std.proofs.Math.Seq.{drop-append-add}
use Rattle.number_columns.specs.Column.{pick}
use Rattle.sheet.specs.Format.{line_bytes, text_bytes}
use Rattle.sheet.specs.Line.{Line, named, row, bad, spelling, decode, encode, letter, text, is_bad}
use Rattle.sheet.specs.Sheet.{line_at, count, line, lines_from, lines, encodes, row2, text_of, name_text}
use Rattle.sheet.proofs.FirstLaws.{none_first}
use Rattle.sheet.proofs.LineLaws.{Fits, spelling_take, spelling_le, decode_encode, encode_decode, encode_length, decode_fits, decode_short, letter_decode, Decoded, as_named, as_row, as_bad, decoded}
use Rattle.sheet.proofs.ListLaws.{length_nil, Every}

-- every line fits
abbrev pub AllFit : ℕ → List Line → Type 0
AllFit w = Every (Fits w)

-- ---- encoding
pub encodes_append : (w : ℕ) (ls ms : List Line) → encodes w (ls ++ ms) ≡ encodes w ls ++ encodes w ms
unfolding encodes
encodes_append w [] ms = refl
encodes_append w (l ∷ ls) ms = rw (encodes_append w ls ms, append_assoc)

pub encodes_one : (w : ℕ) (l : Line) → encodes w (l ∷ []) ≡ encode w l
unfolding encodes
encodes_one w l = append-nil (encode w l)

pub length_encodes : (w : ℕ) (ls : List Line) → AllFit w ls → length (encodes w ls) ≡ line_bytes w * length ls
unfolding encodes
length_encodes w [] h = omega arith
length_encodes w (l ∷ ls) h = rw (length-append, encode_length w l h.0, length_encodes w ls h.1, mul-suc) (omega arith)

-- ---- the lines of an append
-- line i of b, where b has it, whatever follows b
pub line_at_left : (w : ℕ) (b c : List ℕ) (i : ℕ) → line_bytes w * suc i ≤ length b → line_at w (b ++ c) i ≡ line_at w b i
unfolding line_at
line_at_left w b c i h =
    let e : line_bytes w * suc i ≡ line_bytes w * i + line_bytes w = mul-suc (line_bytes w) i in
    let l : line_bytes w * i ≤ length b = omega arith in
    let k : line_bytes w ≤ length (drop (line_bytes w * i) b) = rw length-drop (omega arith) in
    rw (drop-append-le (line_bytes w * i) b c l, take-append-le (line_bytes w) (drop (line_bytes w * i) b) c k)

-- line i after k lines
pub line_at_right : (w : ℕ) (b c : List ℕ) (k i : ℕ) → length b ≡ line_bytes w * k → line_at w (b ++ c) (k + i) ≡ line_at w c i
unfolding line_at
line_at_right w b c k i h = rw (mul-add, ← h, drop-append-add)

pub line_right : (w : ℕ) (b c : List ℕ) (k i : ℕ) → length b ≡ line_bytes w * k → line w (b ++ c) (k + i) ≡ line w c i
unfolding line
line_right w b c k i h = ap (decode w) (line_at_right w b c k i h)

lines_from_right : (w : ℕ) (b c : List ℕ) (k i n : ℕ) → length b ≡ line_bytes w * k → lines_from w (b ++ c) (k + i) n ≡ lines_from w c i n
unfolding lines_from
lines_from_right w b c k i zero h = refl
lines_from_right w b c k i (suc n) h =
    let e : suc (k + i) ≡ k + suc i = omega arith in
    rw (e, line_right w b c k i h, lines_from_right w b c k (suc i) n h)

-- one whole line, and the rest
pub count_cons : (w : ℕ) (b c : List ℕ) → length b ≡ line_bytes w → count w (b ++ c) ≡ suc (count w c)
count_cons w b c h = rw (length-append, h, add-div_left (length c) {k = line_bytes w} (omega arith)) (add-one (length c / line_bytes w))

pub lines_cons : (w : ℕ) (b c : List ℕ) → length b ≡ line_bytes w → lines w (b ++ c) ≡ decode w b ∷ lines w c
unfolding lines lines_from line line_at
lines_cons w b c h =
    let e : line_bytes w * 0 ≡ 0 = omega arith in
    let k : length b ≡ line_bytes w * 1 = omega arith in
    rw (count_cons w b c h, e, take_at b c (line_bytes w) h)
    (ap (λ (ls : List Line). decode w b ∷ ls) (lines_from_right w b c 1 0 (count w c) k))

-- k whole lines, and the rest
pub lines_append : (w k : ℕ) (b c : List ℕ) → length b ≡ line_bytes w * k → lines w (b ++ c) ≡ lines w b ++ lines w c
unfolding lines lines_from
lines_append w zero b c h =
    let e : b ≡ [] = length_nil b (omega arith) in
    rw (e, zero-div (line_bytes w))
lines_append w (suc k) b c h =
    let m : line_bytes w * suc k ≡ line_bytes w * k + line_bytes w = mul-suc (line_bytes w) k in
    let p = take (line_bytes w) b in
    let q = drop (line_bytes w) b in
    let e : p ++ q ≡ b = take-append-drop (line_bytes w) b in
    let lp : length p ≡ line_bytes w = length-take-le (line_bytes w) b (omega arith) in
    let lq : length q ≡ line_bytes w * k = length-drop (line_bytes w) b ∙ omega arith in
    subst (λ (s : List ℕ). lines w (s ++ c) ≡ lines w s ++ lines w c) e
    (ap (lines w) (append_assoc p q c) ∙ lines_cons w p (q ++ c) lp ∙ ap (λ (ls : List Line). decode w p ∷ ls) (lines_append w k q c lq) ∙ ap (λ (ls : List Line). ls ++ lines w c) (sym (lines_cons w p q lp)))

-- ---- decoding what was encoded
pub lines_encodes : (w : ℕ) (ls : List Line) → 0 < w → AllFit w ls → lines w (encodes w ls) ≡ ls
unfolding lines lines_from encodes
lines_encodes w [] z h = rw (zero-div (line_bytes w))
lines_encodes w (l ∷ ls) z h =
    lines_cons w (encode w l) (encodes w ls) (encode_length w l h.0) ∙ rw (decode_encode w l z h.0, lines_encodes w ls z h.1)

-- ---- the lines of a sheet
pub length_lines_from : (w : ℕ) (b : List ℕ) (i n : ℕ) → length (lines_from w b i n) ≡ n
unfolding lines_from
length_lines_from w b i zero = refl
length_lines_from w b i (suc n) = ap suc (length_lines_from w b (suc i) n)

pub length_lines : (w : ℕ) (b : List ℕ) → length (lines w b) ≡ count w b
unfolding lines
length_lines w b = length_lines_from w b 0 (count w b)

pub get_or_lines_from : (w : ℕ) (b : List ℕ) (i n k : ℕ) → k < n → get_or (lines_from w b i n) k bad ≡ line w b (i + k)
unfolding lines_from
get_or_lines_from w b i zero k h = absurd (omega arith)
get_or_lines_from w b i (suc n) zero h = let e : i + zero ≡ i = omega arith in rw e
get_or_lines_from w b i (suc n) (suc k) h = let e : i + suc k ≡ suc i + k = omega arith in rw e (get_or_lines_from w b (suc i) n k (omega arith))

-- a line within the sheet lies within its bytes, and the first past it does not
pub within_count : (w : ℕ) (b : List ℕ) (i : ℕ) → i < count w b → line_bytes w * suc i ≤ length b
within_count w b i h = le_trans (mul-le-mul_left (line_bytes w) h) (mul-div-le (length b) (line_bytes w))

pub past_count : (w : ℕ) (b : List ℕ) (i : ℕ) → count w b ≤ i → length b < line_bytes w * suc i
past_count w b i h =
    let k : count w b < suc i = omega arith in
    rw (mul_comm (line_bytes w) (suc i)) ((div-lt_iff_lt-mul {k = line_bytes w} {x = length b} {y = suc i} (omega arith)).0 k)

pub line_at_length : (w : ℕ) (b : List ℕ) (i : ℕ) → i < count w b → length (line_at w b i) ≡ line_bytes w
unfolding line_at
line_at_length w b i h =
    length-take-le (line_bytes w) (drop (line_bytes w * i) b) (rw length-drop (omega (arith, within_count w b i h, mul-suc (line_bytes w) i)))

pub line_past : (w : ℕ) (b : List ℕ) (i : ℕ) → count w b ≤ i → line w b i ≡ bad
unfolding line line_at
line_past w b i h =
    decode_short w (take (line_bytes w) (drop (line_bytes w * i) b)) (rw (length-take, length-drop) (omega (arith, past_count w b i h, mul-suc (line_bytes w) i)))

-- line i among the lines, bad past the end on both sides
pub get_or_lines : (w : ℕ) (b : List ℕ) (i : ℕ) → get_or (lines w b) i bad ≡ line w b i
unfolding lines
get_or_lines w b i = go (ltb i (count w b)) refl
  where
    go : (c : Bool) → ltb i (count w b) ≡ c → get_or (lines w b) i bad ≡ line w b i
    go true e = let k : 0 + i ≡ i = omega arith in rw k at (get_or_lines_from w b 0 (count w b) i (ltb-true i (count w b) e))
    go false e =
        let k : count w b ≤ i = ltb-false i (count w b) e in
        get_or-eq_default (lines w b) bad {n = i} (omega (arith, length_lines w b)) ∙ sym (line_past w b i k)

-- ---- row 2
-- a sheet that row 2 passed
module _ (w : ℕ) (b : List ℕ) (good : row2 w b ≡ count w b) where
  pub line_good : (i : ℕ) → i < count w b → is_bad (line w b i) ≡ false
  unfolding row2
  line_good i h = none_first (λ i. is_bad (line w b i)) (count w b) good i h

  pub letter_good : (i : ℕ) → i < count w b → get_or (line_at w b i) 0 0 ≡ letter (line w b i)
  unfolding line
  letter_good i h = sym (letter_decode w (line_at w b i) (line_good i h))

-- ---- encoding what was decoded
line_zero : (w : ℕ) (b : List ℕ) → line w b 0 ≡ decode w (take (line_bytes w) b)
unfolding line line_at
line_zero w b = let e : line_bytes w * 0 ≡ 0 = omega arith in rw e

line_suc : (w : ℕ) (b : List ℕ) (i : ℕ) → line w b (suc i) ≡ line w (drop (line_bytes w) b) i
unfolding line line_at
line_suc w b i = let e : line_bytes w * suc i ≡ line_bytes w + line_bytes w * i = mul-suc (line_bytes w) i ∙ omega arith in rw (e, drop-drop)

encodes_whole : (w n : ℕ) (b : List ℕ) → length b ≡ line_bytes w * n → ((i : ℕ) → i < n → is_bad (line w b i) ≡ false) → encodes w (lines w b) ≡ b
unfolding lines lines_from encodes
encodes_whole w zero b h g = let e : b ≡ [] = length_nil b (omega arith) in rw (e, zero-div (line_bytes w))
encodes_whole w (suc n) b h g =
    let m : line_bytes w * suc n ≡ line_bytes w * n + line_bytes w = mul-suc (line_bytes w) n in
    let p = take (line_bytes w) b in
    let q = drop (line_bytes w) b in
    let e : p ++ q ≡ b = take-append-drop (line_bytes w) b in
    let lp : length p ≡ line_bytes w = length-take-le (line_bytes w) b (omega arith) in
    let lq : length q ≡ line_bytes w * n = length-drop (line_bytes w) b ∙ omega arith in
    let gp : is_bad (decode w p) ≡ false = ap is_bad (sym (line_zero w b)) ∙ g 0 (omega arith) in
    subst (λ (s : List ℕ). encodes w (lines w s) ≡ s) e
    (ap (encodes w) (lines_cons w p q lp) ∙ ap₂ (λ (x y : List ℕ). x ++ y) (encode_decode w p lp gp) (encodes_whole w n q lq (λ i k. ap is_bad (sym (line_suc w b i)) ∙ g (suc i) (omega arith))))

-- no bad line, and whole lines
pub encodes_lines : (w : ℕ) (b : List ℕ) → length b % line_bytes w ≡ 0 → ((i : ℕ) → i < count w b → is_bad (line w b i) ≡ false) → encodes w (lines w b) ≡ b
encodes_lines w b h = encodes_whole w (count w b) b (omega (arith, div-add-mod (length b) (line_bytes w)))

-- a line that is not bad is encoded as its bytes
pub encode_line : (w : ℕ) (b : List ℕ) (i : ℕ) → i < count w b → is_bad (line w b i) ≡ false → encode w (line w b i) ≡ line_at w b i
unfolding line
encode_line w b i h g = encode_decode w (line_at w b i) (line_at_length w b i h) g

-- what is read fits
fit_lines_from : (w : ℕ) (b : List ℕ) (i n : ℕ) → ((k : ℕ) → i ≤ k → k < i + n → is_bad (line w b k) ≡ false) → AllFit w (lines_from w b i n)
unfolding lines_from line
fit_lines_from w b i zero g = tt
fit_lines_from w b i (suc n) g = (decode_fits w (line_at w b i) (g i (omega arith) (omega arith)), fit_lines_from w b (suc i) n (λ k h l. g k (omega arith) (omega arith)))

pub fit_lines : (w : ℕ) (b : List ℕ) → ((i : ℕ) → i < count w b → is_bad (line w b i) ≡ false) → AllFit w (lines w b)
unfolding lines
fit_lines w b g = fit_lines_from w b 0 (count w b) (λ k h l. g k (omega arith))

-- ---- the name leaf
-- The spelling of name n is the text of line n among the lines, where that is an N line of number n.
pub name_text_lines : (w : ℕ) (b : List ℕ) (n : ℕ) → name_text w b n ≡ text_of n (get_or (lines w b) n bad)
unfolding name_text
name_text_lines w b n = ap (text_of n) (sym (get_or_lines w b n))

-- and where there is a spelling, that line is the N line with it
pub named_name_text : (w : ℕ) (b : List ℕ) (n : ℕ) → 0 < length (name_text w b n) → get_or (lines w b) n bad ≡ named n (name_text w b n)
named_name_text w b n h = rw (name_text_lines w b n) (go (get_or (lines w b) n bad) (rw (name_text_lines w b n) at h))
  where
    number : (c : Bool) (m : ℕ) (t : List ℕ) → eqb m n ≡ c → 0 < length (pick c t []) → named m t ≡ named n (pick c t [])
    number true m t e k = ap (λ (j : ℕ). named j t) (eqb-true m n e)
    number false m t e k = absurd (omega arith)

    go : (l : Line) → 0 < length (text_of n l) → l ≡ named n (text_of n l)
    go (named m t) k = number (eqb m n) m t refl k
    go (row x ns) k = absurd (omega arith)
    go bad k = absurd (omega arith)

-- ---- the text of a line is a part of it
spelling_part : (m : ℕ) (d : List ℕ) → spelling (take m d) ≡ take (length (spelling (take m d))) d
spelling_part m d =
    let h : length (spelling (take m d)) ≤ m = omega (arith, spelling_le (take m d), length-take m d) in
    spelling_take (take m d) ∙ take-take _ m d h

pub text_part : (w : ℕ) (b : List ℕ) → text (decode w b) ≡ take (length (text (decode w b))) (drop (1 + w) b)
text_part w b = go (decoded w b)
  where
    go : {l : Line} → Decoded w b l → text l ≡ take (length (text l)) (drop (1 + w) b)
    go (as_named n z e p) = spelling_part (text_bytes w) (drop (1 + w) b)
    go (as_row ns z l k e) = refl
    go as_bad = refl

pub text_le : (w : ℕ) (b : List ℕ) → length (text (decode w b)) ≤ text_bytes w
text_le w b = go (decoded w b)
  where
    go : {l : Line} → Decoded w b l → length (text l) ≤ text_bytes w
    go (as_named n z e p) = omega (arith, spelling_le (take (text_bytes w) (drop (1 + w) b)), length-take (text_bytes w) (drop (1 + w) b))
    go (as_row ns z l k e) = omega arith
    go as_bad = omega arith
