-- The verdict sheet over a copy of the sheet: at the start, a line further, and at the end. Assumes nothing.
use Rattle.std.specs.Prelude.{◌≡◌, refl, not, eqb, ltb, get_or, set}
use Rattle.std.proofs.Math.Path.{ap}
use Rattle.std.proofs.Common.{sym, ◌∙◌, length-append, length-drop, take-append-drop, take_all, get_or-take}
use mathlib.Core.List.{List, [], ◌∷◌, ◌++◌, append_assoc, append-nil}
use Prim.Native.Nat.{ℕ, zero, suc, ◌+◌, ◌*◌, ◌%◌, ◌≤◌, ◌<◌}
use native.Mathlib.Omega.{arith}
use Rattle.std.proofs.Math.ListN.{length, take, drop, drop_of_length-le}
use Rattle.std.proofs.Math.Seq.{take-suc, drop-cons, drop-append_seam, get_or-drop, length-take-le}
use borrow.Author.Tests.{eqb-true, not-false}
use Rattle.number_columns.specs.Column.{write}
use Rattle.sheet.specs.Format.{base}
use Rattle.sheet.specs.Line.{Line, row, bad, letter, encode}
use Rattle.sheet.proofs.LineLaws.{Fits}
use Rattle.sheet.specs.Sheet.{count, line_at, lines, encodes, row1}
use Rattle.sheet.proofs.SheetLaws.{AllFit, encodes_append, encodes_one, length_encodes, length_lines, get_or_lines, encodes_lines, line_good, letter_good}
use Rattle.sheet.proofs.ListLaws.{neither, every_append, every_left, every_right}
use Rattle.model.specs.Run.{run}
use Rattle.meaning.specs.Program.{program}
use Rattle.meaning.specs.Rows.{nth_line}
use Rattle.meaning_laws.specs.Program.{length_verdict_lines, told_groups, run_told}
use Rattle.meaning_laws.specs.Output.{ten, verdict_fits}
use Rattle.answer.specs.Answer.{verdict_sheet, after}
use Rattle.table_declared.specs.DeclLaws.{wholes}
use Rattle.verdict_sheet.specs.Upto.{verdicts, upto, Sheet}
use Rattle.verdict_sheet.specs.LineLaws.{fits}
use Rattle.verdict_sheet.specs.PatchLaws.{put_letter, put_digit, put_third}

module _ (b : List ℕ) (p : Sheet b) where
  -- ---- sizes
  verdicts_length : length (verdicts (lines 6 b)) ≡ length (lines 6 b)
  verdicts_length = length_verdict_lines (lines 6 b) (run 100 (program (lines 6 b))).infos (told_groups (lines 6 b) (run 100 (program (lines 6 b))).infos (run_told 100 (program (lines 6 b))))

  verdicts_fit : AllFit 6 (verdicts (lines 6 b))
  verdicts_fit = verdict_fits 6 (ten 6 (omega arith)) (lines 6 b) (run 100 (program (lines 6 b))).infos (wholes (lines 6 b) p.passed) (run_told 100 (program (lines 6 b))) (fits b p)

  whole : length b % 32 ≡ 0
  unfolding row1
  whole = eqb-true (length b % 32) 0 (not-false (eqb (length b % 32) 0) (neither (ltb 65536 (length b)) (not (eqb (length b % 32) 0)) p.short).1)

  pub bytes : length b ≡ 32 * length (lines 6 b)
  bytes = omega (arith, whole, length_lines 6 b)

  mixed_fit : (i : ℕ) → AllFit 6 (take i (verdicts (lines 6 b)) ++ drop i (lines 6 b))
  mixed_fit i =
      let vs : List Line = verdicts (lines 6 b) in
      let ls : List Line = lines 6 b in
      every_append (Fits 6) (take i vs) (drop i ls)
      (every_left (Fits 6) (take i vs) (drop i vs) (rw (take-append-drop i vs) verdicts_fit))
      (every_right (Fits 6) (take i ls) (drop i ls) (rw (take-append-drop i ls) (fits b p)))

  mixed_length : (i : ℕ) → i ≤ length (lines 6 b) → length (encodes 6 (take i (verdicts (lines 6 b)) ++ drop i (lines 6 b))) ≡ length b
  mixed_length i h =
      rw (length_encodes 6 (take i (verdicts (lines 6 b)) ++ drop i (lines 6 b)) (mixed_fit i), length-append, length-take-le i (verdicts (lines 6 b)) (omega (arith, verdicts_length)), length-drop)
      (omega (arith, bytes))

  -- ---- the start and the end
  pub upto_none : (old : List ℕ) → b ++ drop (length b) old ≡ upto b 0 old
  unfolding upto
  upto_none old = ap (λ (r : List ℕ). r ++ drop (length b) old) (sym (encodes_lines 6 b whole (line_good 6 b p.no_bad)))

  pub upto_all : (old : List ℕ) → upto b (length (lines 6 b)) old ≡ after (verdict_sheet base (lines 6 b)) old
  unfolding upto verdict_sheet
  upto_all old =
      let ls : List Line = lines 6 b in
      let e : take (length ls) (verdicts ls) ++ drop (length ls) ls ≡ verdicts ls =
      rw (take_all (length ls) (verdicts ls) (omega (arith, verdicts_length)), drop_of_length-le ls {i = length ls} (omega arith), append-nil) in
      let n : length (encodes 6 (verdicts ls)) ≡ length b = rw e at (mixed_length (length ls) (omega arith)) in
      rw (e, n)

  -- what was there before counts only past the sheet's bytes
  pub upto_again : (i j : ℕ) (old : List ℕ) → i ≤ length (lines 6 b) → upto b j (upto b i old) ≡ upto b j old
  unfolding upto
  upto_again i j old h =
      let x : List ℕ = encodes 6 (take i (verdicts (lines 6 b)) ++ drop i (lines 6 b)) in
      ap (λ (r : List ℕ). encodes 6 (take j (verdicts (lines 6 b)) ++ drop j (lines 6 b)) ++ r)
      (ap (λ (n : ℕ). drop n (x ++ drop (length b) old)) (sym (mixed_length i h)) ∙ drop-append_seam x (drop (length b) old))

  -- ---- a line further
  front : ℕ → List ℕ
  front i = encodes 6 (take i (verdicts (lines 6 b)))

  back : ℕ → List ℕ → List ℕ
  back i old = encodes 6 (drop (suc i) (lines 6 b)) ++ drop (length b) old

  front_length : (i : ℕ) → i ≤ length (lines 6 b) → length (front i) ≡ i * 32
  unfolding front
  front_length i h =
      let vs : List Line = verdicts (lines 6 b) in
      let f : AllFit 6 (take i vs) = every_left (Fits 6) (take i vs) (drop i vs) (rw (take-append-drop i vs) verdicts_fit) in
      rw (length_encodes 6 (take i vs) f, length-take-le i vs (omega (arith, verdicts_length))) (omega arith)

  module _ (i : ℕ) (h : i < length (lines 6 b)) (old : List ℕ) where
    upto_here : upto b i old ≡ front i ++ (encode 6 (nth_line (lines 6 b) i) ++ back i old)
    unfolding upto front back encodes
    upto_here =
        rw (encodes_append 6 (take i (verdicts (lines 6 b))) (drop i (lines 6 b)), drop-cons (lines 6 b) i bad h) (simp append_assoc)

    upto_next : upto b (suc i) old ≡ front i ++ (encode 6 (nth_line (verdicts (lines 6 b)) i) ++ back i old)
    unfolding upto front back
    upto_next =
        let l : i < length (verdicts (lines 6 b)) = omega (arith, verdicts_length) in
        rw (encodes_append 6 (take (suc i) (verdicts (lines 6 b))) (drop (suc i) (lines 6 b)), take-suc (verdicts (lines 6 b)) i bad l, encodes_append 6 (take i (verdicts (lines 6 b))) (nth_line (verdicts (lines 6 b)) i ∷ []), encodes_one) (simp append_assoc)

    -- the same line
    pub upto_same : nth_line (verdicts (lines 6 b)) i ≡ nth_line (lines 6 b) i → upto b (suc i) old ≡ upto b i old
    upto_same e = upto_next ∙ rw e (sym upto_here)

    -- the same numbers behind another letter
    pub upto_letter : (x y : ℕ) (ns : List ℕ) → nth_line (lines 6 b) i ≡ row x ns → nth_line (verdicts (lines 6 b)) i ≡ row y ns → set (upto b i old) (i * 32) y ≡ upto b (suc i) old
    upto_letter x y ns e f = rw (upto_here, upto_next, e, f) (put_letter (front i) (back i old) i (front_length i (omega arith)) x y ns)

    -- number 2, which was 0
    pub upto_keep : (x m n k : ℕ) → k < 10 → nth_line (lines 6 b) i ≡ row x (m ∷ n ∷ 0 ∷ 0 ∷ 0 ∷ []) → nth_line (verdicts (lines 6 b)) i ≡ row x (m ∷ n ∷ k ∷ 0 ∷ 0 ∷ [])
        → set (upto b i old) (i * 32 + 18) (48 + k) ≡ upto b (suc i) old
    upto_keep x m n k l e f =
        rw (upto_here, upto_next, e, f) (put_digit (front i) (back i old) i (front_length i (omega arith)) x (m ∷ n ∷ 0 ∷ 0 ∷ 0 ∷ []) 2 k (i * 32 + 18) refl (omega arith) refl l (omega arith))

    -- number 2, with all its columns
    pub upto_tag : (x m n z k : ℕ) (r : List ℕ) → nth_line (lines 6 b) i ≡ row x (m ∷ n ∷ z ∷ r) → nth_line (verdicts (lines 6 b)) i ≡ row x (m ∷ n ∷ k ∷ r)
        → take (i * 32 + 13) (upto b i old) ++ (write 6 k ++ drop (i * 32 + 13 + 6) (upto b i old)) ≡ upto b (suc i) old
    upto_tag x m n z k r e f = put_third (front i) (back i old) i (front_length i (omega arith)) x m n z k r (upto b i old) (rw e at upto_here) ∙ sym (rw f at upto_next)

    -- the first three numbers, which were 0
    pub upto_three : (x m n k : ℕ) → m < 10 → n < 10 → k < 10 → nth_line (lines 6 b) i ≡ row x (0 ∷ 0 ∷ 0 ∷ 0 ∷ 0 ∷ []) → nth_line (verdicts (lines 6 b)) i ≡ row x (m ∷ n ∷ k ∷ 0 ∷ 0 ∷ [])
        → set (set (set (upto b i old) (i * 32 + 6) (48 + m)) (i * 32 + 12) (48 + n)) (i * 32 + 18) (48 + k) ≡ upto b (suc i) old
    upto_three x m n k hm hn hk e f =
        let s = front_length i (omega arith) in
        let p1 = put_digit (front i) (back i old) i s x (0 ∷ 0 ∷ 0 ∷ 0 ∷ 0 ∷ []) 0 m (i * 32 + 6) refl (omega arith) refl hm (omega arith) in
        let p2 = put_digit (front i) (back i old) i s x (m ∷ 0 ∷ 0 ∷ 0 ∷ 0 ∷ []) 1 n (i * 32 + 12) refl (omega arith) refl hn (omega arith) in
        let p3 = put_digit (front i) (back i old) i s x (m ∷ n ∷ 0 ∷ 0 ∷ 0 ∷ []) 2 k (i * 32 + 18) refl (omega arith) refl hk (omega arith) in
        rw (upto_here, upto_next, e, f, p1, p2, p3)

  -- a run of lines that stay
  pub upto_run : (i k : ℕ) (old : List ℕ) → i + k ≤ length (lines 6 b) → ((j : ℕ) → i ≤ j → j < i + k → nth_line (verdicts (lines 6 b)) j ≡ nth_line (lines 6 b) j) → upto b (i + k) old ≡ upto b i old
  upto_run i zero old h g = let e : i + 0 ≡ i = omega arith in rw e
  upto_run i (suc k) old h g =
      let e : i + suc k ≡ suc (i + k) = omega arith in
      rw e (upto_same (i + k) (omega arith) old (g (i + k) (omega arith) (omega arith)) ∙ upto_run i k old (omega arith) (λ j a l. g j a (omega arith)))

  -- ---- the letter of a line
  pub letter_byte : (i : ℕ) → i < length (lines 6 b) → get_or b (i * 32) 0 ≡ letter (nth_line (lines 6 b) i)
  unfolding line_at
  letter_byte i h =
      let n : i < count 6 b = omega (arith, length_lines 6 b) in
      let e : 32 * i + 0 ≡ i * 32 = omega arith in
      rw e at (sym (get_or-take 32 (drop (32 * i) b) 0 0 (omega arith) ∙ get_or-drop (32 * i) b 0 0)) ∙ letter_good 6 b p.no_bad i n ∙ ap letter (sym (get_or_lines 6 b i))
