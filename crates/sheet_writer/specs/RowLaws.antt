-- What stands in a part while a row is written into it, for any number of columns. Assumes nothing.
use Rattle.std.specs.Prelude.{◌≡◌, refl, List, [], ◌∷◌, ◌++◌, ℕ, ◌+◌, ◌*◌, ◌-◌, ◌≤◌, ◌<◌, length, take, drop, get_or, set}
use Rattle.std.proofs.Common.{ap, ◌∙◌, append_assoc, append-nil, arith, add-one, length-drop, take-suc, take_all}
use Rattle.std.proofs.lemmas.List.{set_at}
use borrow.Rule.Slice.PartMut.{put_mid}
use Rattle.number_columns.specs.Column.{write}
use Rattle.number_columns.specs.ColumnLaws.{write_length}
use Rattle.sheet.specs.Format.{line_bytes}
use Rattle.sheet.specs.Line.{row, writes, encode}
use Rattle.sheet.proofs.LineLaws.{length_writes}
use Rattle.sheet.proofs.OutputLaws.{part_more}

-- the byte that is stored last
set_last : (p d : List ℕ) (n v : ℕ) → length p ≡ n → length d ≡ 1 → set (p ++ d) n v ≡ p ++ (v ∷ [])
set_last p [] n v h g = absurd (omega arith)
set_last p (x ∷ []) n v h g = set_at p x [] v n h
set_last p (x ∷ y ∷ d) n v h g = absurd (omega arith)

pub writes_append : (w : ℕ) (ns ms : List ℕ) → writes w (ns ++ ms) ≡ writes w ns ++ writes w ms
unfolding writes
writes_append w [] ms = refl
writes_append w (n ∷ ns) ms = rw (writes_append w ns ms, append_assoc)

-- one number more
writes_take : (w : ℕ) (ns : List ℕ) (i : ℕ) → i < length ns → writes w (take (i + 1) ns) ≡ writes w (take i ns) ++ write w (get_or ns i 0)
unfolding writes
writes_take w ns i h =
    rw (add-one, take-suc ns i 0 h) (writes_append w (take i ns) (get_or ns i 0 ∷ []) ∙ ap (λ (s : List ℕ). writes w (take i ns) ++ s) (append-nil (write w (get_or ns i 0))))

-- The letter is stored.
pub row_start : (w x : ℕ) (ns d : List ℕ) → 0 < length d → set d 0 x ≡ (x ∷ writes w (take 0 ns)) ++ drop 1 (set d 0 x)
unfolding writes
row_start w x ns [] h = absurd (omega arith)
row_start w x ns (y ∷ d) h = refl

-- The number i has been written into its columns, from a on.
pub row_more : (w x : ℕ) (ns out q d : List ℕ) (i a : ℕ) → i < length ns → out ≡ (x ∷ writes w (take i ns)) ++ drop a d → length out ≡ length d → a + w ≤ length d →
    q ≡ write w (get_or ns i 0) →
    (put_mid a (a + w - a) out q ≡ (x ∷ writes w (take (i + 1) ns)) ++ drop (a + w) d) × (length (put_mid a (a + w - a) out q) ≡ length d)
row_more w x ns out q d i a h o l g v =
    let k : length q ≡ a + w - a = rw (v, write_length) (omega arith) in
    let r = part_more out (x ∷ writes w (take i ns)) q d a (a + w) o l (omega arith) g k in
    (r.0 ∙ rw (writes_take w ns i h, v), r.1)

-- The last byte is stored.
pub row_end : (w x : ℕ) (ns out d : List ℕ) (a : ℕ) → length ns ≡ 5 → a ≡ 5 * w + 1 → length d ≡ line_bytes w → out ≡ (x ∷ writes w (take 5 ns)) ++ drop a d →
    set out (5 * w + 1) 10 ≡ encode w (row x ns)
unfolding encode
row_end w x ns out d a n h l o =
    let t : take 5 ns ≡ ns = take_all 5 ns (omega arith) in
    let k : length (x ∷ writes w ns) ≡ 5 * w + 1 = omega (arith, length_writes w ns, ap (λ (m : ℕ). m * w) n) in
    rw (o, t, h) (set_last (x ∷ writes w ns) (drop (5 * w + 1) d) (5 * w + 1) 10 k (rw length-drop (omega arith)))
