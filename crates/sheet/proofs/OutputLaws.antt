-- What an output holds while its parts are written one after the other, for parts of any length, and for lines of any number of columns.
-- Assumes nothing.
use Rattle.std.specs.Prelude.{◌≡◌, List, [], ◌∷◌, ◌++◌, ℕ, suc, ◌+◌, ◌*◌, ◌-◌, ◌≤◌, ◌<◌, length, take, drop, set}
use Rattle.std.proofs.Common.{ap, sym, ◌∙◌, append_assoc, append-nil, arith, mul-suc, length-append, length-take, length-drop, take-append-drop, take_at, drop_at, drop-drop, length-take-le}
use Rattle.std.proofs.Math.Nat.{mul-div_right}
use Rattle.std.proofs.lemmas.List.{set_at}
use Rattle.std.proofs.Math.Seq.{drop-append-add}
use borrow.Rule.Slice.PartMut.{put_mid, Post-is}
use Rattle.sheet.specs.Format.{line_bytes}
use Rattle.sheet.specs.Line.{Line, decode, encode}
use Rattle.sheet.proofs.LineLaws.{Fits, decode_encode, encode_length}
use Rattle.sheet.specs.Sheet.{encodes, lines, count}
use Rattle.sheet.proofs.SheetLaws.{encodes_append, encodes_one, within_count, length_lines, lines_cons, lines_append}
use Rattle.sheet.proofs.ListLaws.{Every}
use Rattle.sheet.specs.Output.{put_at, puts}

-- ---- a run of parts
-- The law of a run of parts. The whole out is p and then what d has from a on, and is as long as d. Its part from a to e is lent
-- and comes back as q: the whole is p and q, and then what d has from e on, and is as long as d.
pub part_more : (out p q d : List ℕ) (a e : ℕ) → out ≡ p ++ drop a d → length out ≡ length d → a ≤ e → e ≤ length d → length q ≡ e - a →
    (put_mid a (e - a) out q ≡ (p ++ q) ++ drop e d) × (length (put_mid a (e - a) out q) ≡ length d)
part_more out p q d a e o l h g k =
    let s : a + (e - a) ≡ e = omega arith in
    let m : length p ≡ a = omega (arith, length-append p (drop a d), length-drop a d, ap length o) in (
      rw (o, take_at p (drop a d) a m, drop_at p (drop a d) a m, drop-drop, s, append_assoc),
      simp (length-append, length-take, length-drop, k) (omega arith),
    )

-- the same for a line among lines
pub line_more : (w : ℕ) (ls : List Line) (l : Line) (out q d : List ℕ) (a e : ℕ) → out ≡ encodes w ls ++ drop a d → length out ≡ length d → a ≤ e → e ≤ length d →
    q ≡ encode w l → length q ≡ e - a →
    (put_mid a (e - a) out q ≡ encodes w (ls ++ (l ∷ [])) ++ drop e d) × (length (put_mid a (e - a) out q) ≡ length d)
line_more w ls l out q d a e o n h g c k =
    let r = part_more out (encodes w ls) q d a e o n h g k in
    (r.0 ∙ rw (encodes_append w ls (l ∷ []), encodes_one, c), r.1)

-- ---- a line in its place
-- a part that is lent from line i's start to its end and comes back as q
pub part_put : (w : ℕ) (out q : List ℕ) (i a e : ℕ) → a ≡ line_bytes w * i → e ≡ line_bytes w * suc i → put_mid a (e - a) out q ≡ put_at w out i q
unfolding put_at
part_put w out q i a e h g =
    let k : a ≤ e = omega (arith, mul-suc (line_bytes w) i) in
    rw (Post-is a e out k, h, g)

pub length_put : (w : ℕ) (out q : List ℕ) (i : ℕ) → line_bytes w * suc i ≤ length out → length q ≡ line_bytes w → length (put_at w out i q) ≡ length out
unfolding put_at
length_put w out q i h k = simp (length-append, length-take, length-drop, k) (omega (arith, mul-suc (line_bytes w) i))

-- The lines are as they were, but for line i, which is what q decodes to.
pub lines_put : (w : ℕ) (out q : List ℕ) (i : ℕ) → i < count w out → length q ≡ line_bytes w → lines w (put_at w out i q) ≡ set (lines w out) i (decode w q)
unfolding put_at
lines_put w out q i h k =
    let L = line_bytes w in
    let n : L * suc i ≤ length out = within_count w out i h in
    let m : L * suc i ≡ L * i + L = mul-suc L i in
    let p = take (L * i) out in
    let y = take L (drop (L * i) out) in
    let r = drop (L * suc i) out in
    let lp : length p ≡ L * i = length-take-le (L * i) out (omega arith) in
    let ly : length y ≡ L = length-take-le L (drop (L * i) out) (rw length-drop (omega arith)) in
    let c : length (lines w p) ≡ i = length_lines w p ∙ rw lp (mul-div_right i {m = L} (omega arith)) in
    let e : y ++ r ≡ drop (L * i) out = rw (m, ← drop-drop L (L * i) out) (take-append-drop L (drop (L * i) out)) in
    let o : lines w out ≡ lines w p ++ (decode w y ∷ lines w r) =
    ap (lines w) (sym (take-append-drop (L * i) out)) ∙ lines_append w i p (drop (L * i) out) lp ∙ ap (λ (s : List ℕ). lines w p ++ lines w s) (sym e) ∙ ap (λ (ls : List Line). lines w p ++ ls) (lines_cons w y r ly) in
    lines_append w i p (q ++ r) lp ∙ ap (λ (ls : List Line). lines w p ++ ls) (lines_cons w q r k) ∙ rw o (sym (set_at (lines w p) (decode w y) (lines w r) (decode w q) i c))

pub lines_put_encode : (w : ℕ) (out : List ℕ) (i : ℕ) (l : Line) → 0 < w → i < count w out → Fits w l → lines w (put_at w out i (encode w l)) ≡ set (lines w out) i l
lines_put_encode w out i l z h f = lines_put w out (encode w l) i h (encode_length w l f) ∙ rw (decode_encode w l z f)

-- a line more of a run that is written in order
pub put_more : (w n : ℕ) (out p q d : List ℕ) → out ≡ p ++ drop (line_bytes w * n) d → length p ≡ line_bytes w * n → put_at w out n q ≡ (p ++ q) ++ drop (line_bytes w * suc n) d
unfolding put_at
put_more w n out p q d o h =
    let e : line_bytes w * suc n ≡ line_bytes w * n + line_bytes w = mul-suc (line_bytes w) n in
    rw (o, take_at p (drop (line_bytes w * n) d) (line_bytes w * n) h, e, ← h, drop-append-add, h, drop-drop, append_assoc)

-- every line fills its bytes
abbrev pub Whole : ℕ → List Line → Type 0
Whole w = Every (λ l. length (encode w l) ≡ line_bytes w)

-- What a run of lines leaves: what was written before, the lines, and then what was there.
pub puts_more : (w n : ℕ) (ms : List Line) (out p d : List ℕ) → Whole w ms → length p ≡ line_bytes w * n → out ≡ p ++ drop (line_bytes w * n) d →
    puts w out n ms ≡ (p ++ encodes w ms) ++ drop (line_bytes w * (n + length ms)) d
unfolding puts encodes
puts_more w n [] out p d g h o = let e : n + 0 ≡ n = omega arith in rw (e, append-nil) o
puts_more w n (m ∷ ms) out p d g h o =
    let l : length (p ++ encode w m) ≡ line_bytes w * suc n = length-append p (encode w m) ∙ omega (arith, g.0, mul-suc (line_bytes w) n) in
    let e : suc n + length ms ≡ n + suc (length ms) = omega arith in
    puts_more w (suc n) ms (put_at w out n (encode w m)) (p ++ encode w m) d g.1 l (put_more w n out p (encode w m) d o h) ∙ rw (e, append_assoc p (encode w m) (encodes w ms))

pub puts_all : (w : ℕ) (ls : List Line) (d : List ℕ) → Whole w ls → puts w d 0 ls ≡ encodes w ls ++ drop (line_bytes w * length ls) d
puts_all w ls d g =
    let z : line_bytes w * 0 ≡ 0 = omega arith in
    let e : 0 + length ls ≡ length ls = omega arith in
    rw e at (puts_more w 0 ls d [] d g (omega arith) (rw z))
