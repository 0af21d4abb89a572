-- Cells of a line by its columns, and of the lines passed. Assumes nothing.
use Rattle.std.proofs.Math.Path.{◌≡◌, refl}
use Rattle.std.proofs.Common.{ap, sym, ◌∙◌, arith, suc-mul, mul-suc, mul-le-mul_right, add-one, length-set, drop_of_length-le, get_or-set_same, get_or-set_other, leb-true, eqb-true}
use mathlib.Core.List.{List, [], ◌∷◌, ◌++◌, map, append-nil}
use Rattle.std.specs.Prelude.{Option, Some, None, Bool, ◌&&◌, eqb, leb, length, get_or, set, drop, replicate}
use Rattle.std.proofs.Math.Bool.{true, false, and-false}
use Prim.Native.Nat.{ℕ, zero, suc, ◌+◌, ◌*◌, ◌-◌, ◌≤◌, ◌<◌}
use Rattle.std.proofs.Math.Nat.{add-sub_cancel_left}
use Rattle.std.proofs.Math.ListN.{take}
use borrow.Rule.Slice.PartMut.{put_mid}
use Rattle.std.proofs.lemmas.Bool.{eqb-false}
use Rattle.number_columns.specs.Column.{pick, read}
use Rattle.sheet.specs.Format.{line_bytes, text_bytes}
use Rattle.sheet.specs.Line.{Line, named, bad, proper, spelling, spaces, cell, is_value, value, decode_named, decode_row, is_bad}
use Rattle.sheet.specs.Sheet.{count, line, line_at, lines, lines_from}
use Rattle.sheet.proofs.SheetLaws.{within_count, length_lines}
use Rattle.sheet.proofs.OutputLaws.{part_more}
use Rattle.sheet_lines.specs.Text.{text_length}
use Rattle.walk_cells.specs.Cells.{line_cells, cells, lines_of, bare}
use Rattle.walk_cells.specs.CellsLaws.{cells_append, length_cells, lines_cells}
use Rattle.walk_decode.specs.Decode.{stored, Put}

-- ---- five numbers
-- the numbers below k stand in their cells, behind the letter
pub record Filled (w : ℕ) (l c : List ℕ) (k : ℕ) : Type 0 where
  pub six : length c ≡ 6
  pub begins : get_or c 0 0 ≡ get_or l 0 0
  pub holds : (j : ℕ) → j < k → cell w l j ≡ Some (get_or c (1 + j) 0)

-- the first two numbers: where both are such they stand in their cells, and else the line is bad
pub record Begun (w : ℕ) (l : List ℕ) (r : Bool) (c : List ℕ) : Type 0 where
  pub none : r ≡ false → is_bad (decode_row w l) ≡ true
  pub holds : r ≡ true → Filled w l c 2

-- a list of six by its members
six_members : (c : List ℕ) → length c ≡ 6 → c ≡ get_or c 0 0 ∷ get_or c 1 0 ∷ get_or c 2 0 ∷ get_or c 3 0 ∷ get_or c 4 0 ∷ get_or c 5 0 ∷ []
six_members [] h = absurd (omega arith)
six_members (x ∷ []) h = absurd (omega arith)
six_members (x ∷ a ∷ []) h = absurd (omega arith)
six_members (x ∷ a ∷ b ∷ []) h = absurd (omega arith)
six_members (x ∷ a ∷ b ∷ c ∷ []) h = absurd (omega arith)
six_members (x ∷ a ∷ b ∷ c ∷ d ∷ []) h = absurd (omega arith)
six_members (x ∷ a ∷ b ∷ c ∷ d ∷ e ∷ []) h = refl
six_members (x ∷ a ∷ b ∷ c ∷ d ∷ e ∷ f ∷ t) h = absurd (omega arith)

pub length_stored : (n : Option ℕ) (c : List ℕ) (k : ℕ) → length (stored n c k) ≡ length c
length_stored (Some v) c k = length-set c k v
length_stored None c k = refl

pub stored_value : (n : Option ℕ) (c : List ℕ) (k : ℕ) → k < length c → is_value n ≡ true → n ≡ Some (get_or (stored n c k) k 0)
stored_value (Some v) c k h t = ap Some (sym (get_or-set_same c k v 0 h))
stored_value None c k h t = let z : ◌≡◌ {A = ℕ} 0 1 = cc in absurd (omega arith)

pub put_bad : (l : Line) (c : List ℕ) → l ≡ bad → Put l false c
put_bad l c e = rw e (record { told = refl; holds = λ e. let z : ◌≡◌ {A = ℕ} 0 1 = cc in absurd (omega arith) })

-- five stores around cell 1
pub named_set : (c : List ℕ) → length c ≡ 6 → set (set (set (set (set c 0 78) 2 0) 3 0) 4 0) 5 0 ≡ 78 ∷ get_or c 1 0 ∷ 0 ∷ 0 ∷ 0 ∷ 0 ∷ []
named_set [] h = absurd (omega arith)
named_set (x ∷ []) h = absurd (omega arith)
named_set (x ∷ a ∷ []) h = absurd (omega arith)
named_set (x ∷ a ∷ b ∷ []) h = absurd (omega arith)
named_set (x ∷ a ∷ b ∷ c ∷ []) h = absurd (omega arith)
named_set (x ∷ a ∷ b ∷ c ∷ d ∷ []) h = absurd (omega arith)
named_set (x ∷ a ∷ b ∷ c ∷ d ∷ e ∷ []) h = refl
named_set (x ∷ a ∷ b ∷ c ∷ d ∷ e ∷ f ∷ t) h = absurd (omega arith)

-- the same by two stores and zeros behind them
pub named_filled : (c q : List ℕ) (x n : ℕ) → length c ≡ 6 → x ≡ 78
    → q ≡ replicate (length (take (length (set (set c 0 x) 1 n) - 2) (drop 2 (set (set c 0 x) 1 n)))) 0
    → put_mid 2 (length (set (set c 0 x) 1 n) - 2) (set (set c 0 x) 1 n) q ≡ 78 ∷ n ∷ 0 ∷ 0 ∷ 0 ∷ 0 ∷ []
named_filled [] q x n h p r = absurd (omega arith)
named_filled (y ∷ []) q x n h p r = absurd (omega arith)
named_filled (y ∷ a ∷ []) q x n h p r = absurd (omega arith)
named_filled (y ∷ a ∷ b ∷ []) q x n h p r = absurd (omega arith)
named_filled (y ∷ a ∷ b ∷ c ∷ []) q x n h p r = absurd (omega arith)
named_filled (y ∷ a ∷ b ∷ c ∷ d ∷ []) q x n h p r = absurd (omega arith)
named_filled (y ∷ a ∷ b ∷ c ∷ d ∷ e ∷ []) q x n h p r = rw (p, r)
named_filled (y ∷ a ∷ b ∷ c ∷ d ∷ e ∷ f ∷ t) q x n h p r = absurd (omega arith)

-- the columns of the first number and of number k
pub cell_first : (w : ℕ) (l : List ℕ) → read (take (1 + w - 1) (drop 1 l)) ≡ cell w l 0
unfolding cell
cell_first w l = let e : 1 + 0 * w ≡ 1 = omega arith in rw (add-sub_cancel_left, e)

pub cell_part : (w : ℕ) (l : List ℕ) (k : ℕ) → read (take (1 + k * w + w - (1 + k * w)) (drop (1 + k * w) l)) ≡ cell w l k
unfolding cell
cell_part w l k = rw add-sub_cancel_left

-- number k of five lies within the line
pub within : (w k : ℕ) → k < 5 → 1 + k * w + w ≤ 5 * w + 1
within w k h = omega (arith, suc-mul k w, mul-le-mul_right w h)

pub filled_begin : (w : ℕ) (l c : List ℕ) → length c ≡ 6 → Filled w l (set c 0 (get_or l 0 0)) 0
filled_begin w l c h = record { six = length-set c 0 (get_or l 0 0) ∙ h; begins = get_or-set_same c 0 (get_or l 0 0) 0 (omega arith); holds = λ j q. absurd (omega arith) }

module _ (w : ℕ) (l c : List ℕ) where
  -- one number more
  pub filled_more : (k : ℕ) (n : Option ℕ) → k < 5 → Filled w l c k → n ≡ cell w l k → is_value n ≡ true → Filled w l (stored n c (1 + k)) (k + 1)
  filled_more k (Some v) h f e t =
      record {
        six = length-set c (1 + k) v ∙ f.six;
        begins = get_or-set_other c (1 + k) 0 v 0 (λ q. omega arith) ∙ f.begins;
        holds = λ j q. go j (eqb j k) refl q;
      }
    where
      go : (j : ℕ) (s : Bool) → eqb j k ≡ s → j < k + 1 → cell w l j ≡ Some (get_or (set c (1 + k) v) (1 + j) 0)
      go j true q r = rw (eqb-true j k q, get_or-set_same c (1 + k) v 0 (omega (arith, f.six))) (sym e)
      go j false q r =
          let d : j < k = omega (arith, eqb-false j k q) in
          f.holds j d ∙ ap Some (sym (get_or-set_other c (1 + k) (1 + j) v 0 (λ z. omega arith)))
  filled_more k None h f e t = let z : ◌≡◌ {A = ℕ} 0 1 = cc in absurd (omega arith)

  -- all five
  pub filled_row : Filled w l c 5 → Put (decode_row w l) true c
  unfolding decode_row
  filled_row f =
      record {
        told = rw (f.holds 0 (omega arith), f.holds 1 (omega arith), f.holds 2 (omega arith), f.holds 3 (omega arith), f.holds 4 (omega arith));
        holds = λ _. six_members c f.six ∙ rw (f.holds 0 (omega arith), f.holds 1 (omega arith), f.holds 2 (omega arith), f.holds 3 (omega arith), f.holds 4 (omega arith), f.begins);
      }

  -- columns that hold none
  pub none_row : (k : ℕ) → k < 5 → is_value (cell w l k) ≡ false → Put (decode_row w l) false c
  unfolding decode_row
  none_row k q h = record { told = go k q h; holds = λ e. let z : ◌≡◌ {A = ℕ} 0 1 = cc in absurd (omega arith) }
    where
      go : (k : ℕ) → k < 5 → is_value (cell w l k) ≡ false → is_bad (decode_row w l) ≡ true
      go zero q h = rw h
      go (suc zero) q h = simp (h, and-false)
      go (suc (suc zero)) q h = simp (h, and-false)
      go (suc (suc (suc zero))) q h = simp (h, and-false)
      go (suc (suc (suc (suc zero)))) q h = simp (h, and-false)
      go (suc (suc (suc (suc (suc k))))) q h = absurd (omega arith)

  -- the first two
  pub begun : Filled w l c 2 → Begun w l true c
  begun f = record { none = λ e. let z : ◌≡◌ {A = ℕ} 0 1 = cc in absurd (omega arith); holds = λ _. f }

  pub not_begun : Put (decode_row w l) false c → Begun w l false c
  not_begun p = record { none = λ _. p.told; holds = λ e. let z : ◌≡◌ {A = ℕ} 0 1 = cc in absurd (omega arith) }

  pub none_begun : (r : Bool) → r ≡ false → Begun w l r c → Put (decode_row w l) false c
  none_begun r e b = record { told = b.none e; holds = λ e. let z : ◌≡◌ {A = ℕ} 0 1 = cc in absurd (omega arith) }

  -- ---- a name
  pub named_put : (n : ℕ) → cell w l 0 ≡ Some n → 0 < text_length (take (text_bytes w) (drop (1 + w) l)) → c ≡ 78 ∷ n ∷ 0 ∷ 0 ∷ 0 ∷ 0 ∷ [] → Put (decode_named w l) true c
  unfolding decode_named text_length
  named_put n e h q = rw e (go (proper (take (text_bytes w) (drop (1 + w) l))) h)
    where
      t : List ℕ
      t = take (text_bytes w) (drop (1 + w) l)

      go : (p : Bool) → 0 < pick p (length (spelling t)) 0 → Put (pick p (named n (spelling t)) bad) true c
      go true k = record { told = refl; holds = λ _. q }
      go false k = absurd (omega arith)

  pub number_none : is_value (cell w l 0) ≡ false → Put (decode_named w l) false c
  unfolding decode_named
  number_none h = rw h (record { told = refl; holds = λ e. let z : ◌≡◌ {A = ℕ} 0 1 = cc in absurd (omega arith) })

  pub text_none : text_length (take (text_bytes w) (drop (1 + w) l)) ≡ 0 → Put (decode_named w l) false c
  unfolding decode_named text_length proper
  text_none h = go (is_value (cell w l 0)) (leb 1 (length (spelling t))) (spaces (drop (length (spelling t)) t)) refl h
    where
      t : List ℕ
      t = take (text_bytes w) (drop (1 + w) l)

      none : Put bad false c
      none = record { told = refl; holds = λ e. let z : ◌≡◌ {A = ℕ} 0 1 = cc in absurd (omega arith) }

      go : (v a s : Bool) → leb 1 (length (spelling t)) ≡ a → pick (a && s) (length (spelling t)) 0 ≡ 0
          → Put (pick (v && (a && s)) (named (value (cell w l 0)) (spelling t)) bad) false c
      go true true true e k = absurd (omega (arith, leb-true 1 (length (spelling t)) e))
      go true true false e k = none
      go true false s e k = none
      go false a s e k = none

-- ---- the lines passed
lines_snoc : (w : ℕ) (b : List ℕ) (i n : ℕ) → lines_from w b i (suc n) ≡ lines_from w b i n ++ (line w b (i + n) ∷ [])
unfolding lines_from
lines_snoc w b i zero = let e : i + zero ≡ i = omega arith in rw e
lines_snoc w b i (suc n) =
    let e : i + suc n ≡ suc i + n = omega arith in
    rw e (ap (λ (ls : List Line). line w b i ∷ ls) (lines_snoc w b (suc i) n))

cells_snoc : (w : ℕ) (b : List ℕ) (i : ℕ) → cells (lines_from w b 0 (suc i)) ≡ cells (lines_from w b 0 i) ++ line_cells (line w b i)
unfolding cells
cells_snoc w b i =
    let e : 0 + i ≡ i = omega arith in
    rw (lines_snoc w b 0 i, cells_append, e)

-- the bytes of line i, from its place on
pub line_part : (w : ℕ) (b : List ℕ) (i at : ℕ) → at ≡ line_bytes w * i → take (at + line_bytes w - at) (drop at b) ≡ line_at w b i
unfolding line_at
line_part w b i at e = rw (add-sub_cancel_left, e)

-- line i lies within the bytes
pub line_within : (w : ℕ) (b : List ℕ) (i at : ℕ) → at ≡ line_bytes w * i → i < count w b → at + line_bytes w ≤ length b
line_within w b i at e h = omega (arith, within_count w b i h, mul-suc (line_bytes w) i)

pub place_next : (w i at : ℕ) → at ≡ line_bytes w * i → at + line_bytes w ≡ line_bytes w * (i + 1)
place_next w i at e = rw (add-one, mul-suc (line_bytes w) i) (omega arith)

-- one line more
pub cells_more : (w : ℕ) (b t d q : List ℕ) (i : ℕ) → t ≡ cells (lines_from w b 0 i) ++ drop (i * 6) d → length t ≡ length d → i * 6 + 6 ≤ length d → q ≡ line_cells (line w b i)
    → (put_mid (i * 6) (i * 6 + 6 - i * 6) t q ≡ cells (lines_from w b 0 (i + 1)) ++ drop ((i + 1) * 6) d) × (length (put_mid (i * 6) (i * 6 + 6 - i * 6) t q) ≡ length d)
cells_more w b t d q i o l h e =
    let k : length q ≡ i * 6 + 6 - i * 6 = rw e (omega arith) in
    let m : (i + 1) * 6 ≡ i * 6 + 6 = omega arith in
    let r = part_more t (cells (lines_from w b 0 i)) q d (i * 6) (i * 6 + 6) o l (omega arith) h k in
    (r.0 ∙ rw (m, add-one, cells_snoc w b i, e), r.1)

-- ---- after the walk
-- Where there are cells for the lines and no more, they are those of all lines, and give the lines back without their texts.
pub decoded_lines : (w : ℕ) (b t₀ t : List ℕ) → length t₀ ≡ 6 * count w b → t ≡ cells (lines w b) ++ drop (6 * count w b) t₀ →
    (length t ≡ 6 * count w b) × (lines_of t ≡ map bare (lines w b))
decoded_lines w b t₀ t n e =
    let q : t ≡ cells (lines w b) = e ∙ rw (drop_of_length-le t₀ {i = 6 * count w b} (omega arith), append-nil) in
    rw q (length_cells (lines w b) ∙ ap (λ (k : ℕ). 6 * k) (length_lines w b), lines_cells (lines w b))
