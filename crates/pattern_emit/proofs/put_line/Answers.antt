-- `pattern_emit::put_line` meets its contract: six cells, in their places. Assumes nothing.
use Rattle.std.proofs.Common.{◌≡◌, refl, ap, ◌∙◌, List, [], ◌∷◌, ◌++◌, ℕ, rules, ◌+◌, ◌*◌, ◌≤◌, arith, length, take, drop, length-append, length-drop, length-take-le, drop-drop}
use borrow.Rule.Slice.PartMut.{put_mid}
use Rattle.sheet.specs.Line.{row}
use Rattle.walk_cells.specs.Cells.{cells}
use Rattle.pattern_emit.specs.Emit.{Put}
use Rattle.pattern_emit.proofs.put_line.Goals as goal

put_six : (x a b c d e : ℕ) (out ys : List ℕ) (at k : ℕ) → ys ≡ x ∷ a ∷ b ∷ c ∷ d ∷ e ∷ [] → 6 ≡ k → 6 * at + 6 ≤ length out
    → Put (row x (a ∷ b ∷ c ∷ d ∷ e ∷ []) ∷ []) out at (at + 1) (put_mid (6 * at) k out ys)
unfolding cells
put_six x a b c d e out ys at k s n h =
    let m : 6 * at + k ≡ 6 * (at + 1) = omega arith in
    let p : put_mid (6 * at) k out ys ≡ take (6 * at) out ++ (x ∷ a ∷ b ∷ c ∷ d ∷ e ∷ drop (6 * (at + 1)) out) =
    ap (λ (zs : List ℕ). take (6 * at) out ++ (zs ++ drop k (drop (6 * at) out))) s
    ∙ ap (λ (zs : List ℕ). take (6 * at) out ++ (x ∷ a ∷ b ∷ c ∷ d ∷ e ∷ zs)) (drop-drop k (6 * at) out ∙ ap (λ (i : ℕ). drop i out) m) in
    record {
      next = refl;
      long = ap length p ∙ omega (arith, length-append (take (6 * at) out) (x ∷ a ∷ b ∷ c ∷ d ∷ e ∷ drop (6 * (at + 1)) out), length-take-le (6 * at) out (omega arith), length-drop (6 * (at + 1)) out);
      stands = p;
    }

pub returns : goal.returns
returns c =
    let a = c.args in
    put_six a.letter a.a a.b a.c a.d a.e a.out.now _ a.at _ (search rules) (omega arith) (omega (arith, c.requires.enough))
