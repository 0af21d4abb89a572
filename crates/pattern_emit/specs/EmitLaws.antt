-- What each line gives by its mark and flag, in terms of lower lines, and the lines that are written of it. Assumes
-- nothing.
use Rattle.std.specs.Prelude.{◌≡◌, refl, List, [], ◌∷◌, ◌++◌, map, Bool, true, false, eqb, length, get_or}
use Rattle.std.proofs.Math.Path.{ap}
use Rattle.std.proofs.Common.{sym, ◌∙◌, append_assoc, append-nil, length-append}
use Rattle.std.proofs.lemmas.List.{map-append, length-map}
use Prim.Native.Nat.{ℕ, zero, suc, ◌+◌, ◌-◌, ◌≤◌, ◌<◌}
use native.Mathlib.Omega.{arith}
use borrow.Author.Tests.{eq-eqb, ne_eqb}
use Rattle.number_columns.specs.Column.{pick}
use Rattle.sheet.specs.Line.{Line, row}
use Rattle.model_patterns.specs.Pat.{Pat, Pats, PWild, PVar, PConst, PCtor, PRecord, PTuple, POr, no_parts, part, pat_vars, pats_vars}
use Rattle.meaning.specs.Rows.{nth_line}
use Rattle.meaning_patterns.specs.Patterns.{pattern_line, kind_of, name_of, last_of, previous_of, field_of, and_last, pattern_of, PartLines, pat_lines, part_lines, freed_lines}
use Rattle.pattern_laws.specs.Made.{Made, made_to, only, become, made, mades}
use Rattle.pattern_laws.proofs.Pieces.{made_at}
use Rattle.pattern_emit.specs.Emit.{behind, own, emitted, emitted_parts, Linked}

-- ---- what a line gives
-- a line from the list that it ends and from the list before it
unfoldable made_from : Made → Made → Line → ℕ → ℕ → Made
made_from x y l mark flag =
    let p : Pat = become mark (kind_of l) (name_of l) x.kept in
    let freed : List ℕ = x.inner ++ x.outer in
    record {
      pat = p;
      freed = freed;
      kept = elim (eqb flag 1) [ true ↦ and_last y.kept (field_of l) p | false ↦ y.kept ];
      inner = y.inner ++ freed;
      outer = elim (eqb flag 0) [ true ↦ y.outer ++ pat_vars p | false ↦ y.outer ];
    }

-- What a part that is dropped, or that is no outer one, leaves of the list before it.
kept_other : (x y : Made) (l : Line) (mark flag : ℕ) → eqb flag 1 ≡ false → (made_from x y l mark flag).kept ≡ y.kept
unfolding made_from
kept_other x y l mark flag e =
    ap (λ (b : Bool). elim b [ true ↦ and_last y.kept (field_of l) (become mark (kind_of l) (name_of l) x.kept) | false ↦ y.kept ]) e

outer_other : (x y : Made) (l : Line) (mark flag : ℕ) → eqb flag 0 ≡ false → (made_from x y l mark flag).outer ≡ y.outer
unfolding made_from
outer_other x y l mark flag e =
    ap (λ (b : Bool). elim b [ true ↦ y.outer ++ pat_vars (become mark (kind_of l) (name_of l) x.kept) | false ↦ y.outer ]) e

-- Line by line: the list that a link ends, and what the line that it names becomes.
module _ (xs gs : List ℕ) (qs : List Line) (linked : Linked qs) (k : ℕ) (some : 0 < k) (inside : k ≤ length qs) where
  linked_made : made_to (mades xs gs qs) k ≡ made_from (made_to (mades xs gs qs) (last_of (nth_line qs (k - 1)))) (made_to (mades xs gs qs) (previous_of (nth_line qs (k - 1)))) (nth_line qs (k - 1)) (get_or xs (k - 1) 0) (get_or gs (k - 1) 0)
  unfolding made_to made made_from
  linked_made =
      let n : k ≡ suc (k - 1) = omega arith in
      ap (made_to (mades xs gs qs)) n ∙ made_at xs gs qs (k - 1) (omega arith) (linked.last (k - 1) (omega arith)) (linked.previous (k - 1) (omega arith))

  pub becomes_wild : get_or xs (k - 1) 0 ≡ 0 → (made_to (mades xs gs qs) k).pat ≡ PWild
  unfolding made_from become
  becomes_wild e = ap (λ (m : Made). m.pat) linked_made ∙ rw e

  pub becomes_only : (get_or xs (k - 1) 0 ≡ 0 → ⊥) → (get_or xs (k - 1) 0 ≡ 1 → ⊥) → (made_to (mades xs gs qs) k).pat ≡ only (made_to (mades xs gs qs) (last_of (nth_line qs (k - 1)))).kept
  unfolding made_from become
  becomes_only a b = ap (λ (m : Made). m.pat) linked_made ∙ rw (ne_eqb (get_or xs (k - 1) 0) 0 a, ne_eqb (get_or xs (k - 1) 0) 1 b)

  pub becomes_own : get_or xs (k - 1) 0 ≡ 1 → (made_to (mades xs gs qs) k).pat ≡ pattern_of (kind_of (nth_line qs (k - 1))) (name_of (nth_line qs (k - 1))) (made_to (mades xs gs qs) (last_of (nth_line qs (k - 1)))).kept
  unfolding made_from become
  becomes_own e = ap (λ (m : Made). m.pat) linked_made ∙ rw e

  pub kept_part : get_or gs (k - 1) 0 ≡ 1 → (made_to (mades xs gs qs) k).kept ≡ and_last (made_to (mades xs gs qs) (previous_of (nth_line qs (k - 1)))).kept (field_of (nth_line qs (k - 1))) (made_to (mades xs gs qs) k).pat
  unfolding made_from
  kept_part e = rw linked_made (rw e)

  pub kept_dropped : (get_or gs (k - 1) 0 ≡ 1 → ⊥) → (made_to (mades xs gs qs) k).kept ≡ (made_to (mades xs gs qs) (previous_of (nth_line qs (k - 1)))).kept
  unfolding made_from
  kept_dropped n = ap (λ (m : Made). m.kept) linked_made ∙ kept_other (made_to (mades xs gs qs) (last_of (nth_line qs (k - 1)))) (made_to (mades xs gs qs) (previous_of (nth_line qs (k - 1)))) (nth_line qs (k - 1)) (get_or xs (k - 1) 0) (get_or gs (k - 1) 0) (ne_eqb (get_or gs (k - 1) 0) 1 n)

  pub outer_part : get_or gs (k - 1) 0 ≡ 0 → (made_to (mades xs gs qs) k).outer ≡ (made_to (mades xs gs qs) (previous_of (nth_line qs (k - 1)))).outer ++ pat_vars (made_to (mades xs gs qs) k).pat
  unfolding made_from
  outer_part e = rw linked_made (rw e)

  pub outer_left : (get_or gs (k - 1) 0 ≡ 0 → ⊥) → (made_to (mades xs gs qs) k).outer ≡ (made_to (mades xs gs qs) (previous_of (nth_line qs (k - 1)))).outer
  unfolding made_from
  outer_left n = ap (λ (m : Made). m.outer) linked_made ∙ outer_other (made_to (mades xs gs qs) (last_of (nth_line qs (k - 1)))) (made_to (mades xs gs qs) (previous_of (nth_line qs (k - 1)))) (nth_line qs (k - 1)) (get_or xs (k - 1) 0) (get_or gs (k - 1) 0) (ne_eqb (get_or gs (k - 1) 0) 0 n)

  pub inner_part : (made_to (mades xs gs qs) k).inner ≡ (made_to (mades xs gs qs) (previous_of (nth_line qs (k - 1)))).inner ++ ((made_to (mades xs gs qs) (last_of (nth_line qs (k - 1)))).inner ++ (made_to (mades xs gs qs) (last_of (nth_line qs (k - 1)))).outer)
  unfolding made_from
  inner_part = ap (λ (m : Made). m.inner) linked_made

  pub freed_part : (made_to (mades xs gs qs) k).freed ≡ (made_to (mades xs gs qs) (last_of (nth_line qs (k - 1)))).inner ++ (made_to (mades xs gs qs) (last_of (nth_line qs (k - 1)))).outer
  unfolding made_from
  freed_part = ap (λ (m : Made). m.freed) linked_made

-- ---- the lines of parts
-- a pattern has its own line
some_lines : (p : Pat) (at previous f : ℕ) → 0 < length (pat_lines p at previous f)
unfolding pat_lines part_lines
some_lines PWild at previous f = omega arith
some_lines (PVar v) at previous f = omega arith
some_lines (PConst c) at previous f = omega arith
some_lines (PCtor n ps) at previous f = simp length-append (omega arith)
some_lines (PRecord n ps) at previous f = simp length-append (omega arith)
some_lines (PTuple ps) at previous f = simp length-append (omega arith)
some_lines (POr ps) at previous f = simp length-append (omega arith)

-- the last part's own line is the last line
last_part : (ps : Pats) (at previous : ℕ) → (part_lines ps at previous).last ≡ pick (eqb (length (part_lines ps at previous).lines) 0) previous (at + length (part_lines ps at previous).lines)
unfolding part_lines
last_part no_parts at previous = refl
last_part (part f p ps) at previous =
    let x : List (List ℕ) = pat_lines p at previous f in
    let r : PartLines = part_lines ps (at + length x) (at + length x) in
    let n : length (x ++ r.lines) ≡ length x + length r.lines = length-append x r.lines in
    let s : 0 < length x = some_lines p at previous f in
    let t : eqb (length (x ++ r.lines)) 0 ≡ false = ne_eqb (length (x ++ r.lines)) 0 (λ e. omega arith) in
    let u : at + length (x ++ r.lines) ≡ (at + length x) + length r.lines = omega arith in
    last_part ps (at + length x) (at + length x) ∙ (go (at + length x) (length r.lines) ∙ rw (t, u))
  where
    go : (m n : ℕ) → pick (eqb n 0) m (m + n) ≡ m + n
    go m zero = omega arith
    go m (suc n) = rw (ne_eqb (suc n) 0 (λ e. omega arith))

pub last_behind : (ps : Pats) (at : ℕ) → (part_lines ps at 0).last ≡ behind at (at + length (part_lines ps at 0).lines)
last_behind ps at = last_part ps at 0 ∙ go (length (part_lines ps at 0).lines)
  where
    go : (n : ℕ) → pick (eqb n 0) 0 (at + n) ≡ behind at (at + n)
    go zero = rw (eq-eqb (at + 0) at (omega arith))
    go (suc n) = rw (ne_eqb (at + suc n) at (λ e. omega arith), ne_eqb (suc n) 0 (λ e. omega arith))

and_last_lines : (ps : Pats) (f : ℕ) (p : Pat) (at previous : ℕ) →
    (part_lines (and_last ps f p) at previous).lines ≡ (part_lines ps at previous).lines ++ pat_lines p (at + length (part_lines ps at previous).lines) (part_lines ps at previous).last f
unfolding part_lines and_last
and_last_lines no_parts f p at previous =
    let n : at + 0 ≡ at = omega arith in
    append-nil (pat_lines p at previous f) ∙ ap (λ (m : ℕ). pat_lines p m previous f) (sym n)
and_last_lines (part g q qs) f p at previous =
    let x : List (List ℕ) = pat_lines q at previous g in
    let r : PartLines = part_lines qs (at + length x) (at + length x) in
    let n : at + length (x ++ r.lines) ≡ (at + length x) + length r.lines = omega (arith, length-append x r.lines) in
    ap (λ (l : List (List ℕ)). x ++ l) (and_last_lines qs f p (at + length x) (at + length x))
    ∙ (sym (append_assoc x r.lines (pat_lines p ((at + length x) + length r.lines) r.last f))
    ∙ ap (λ (m : ℕ). (x ++ r.lines) ++ pat_lines p m r.last f) (sym n))

and_last_vars : (ps : Pats) (f : ℕ) (p : Pat) → pats_vars (and_last ps f p) ≡ pats_vars ps ++ pat_vars p
unfolding pats_vars and_last
and_last_vars no_parts f p = append-nil (pat_vars p)
and_last_vars (part g q qs) f p = ap (λ (l : List ℕ). pat_vars q ++ l) (and_last_vars qs f p) ∙ sym (append_assoc (pat_vars q) (pats_vars qs) (pat_vars p))

-- ---- what is written of it
pub no_emitted : (names : Bool) (at : ℕ) → emitted_parts names no_parts at ≡ []
unfolding emitted_parts part_lines pats_vars
no_emitted true at = refl
no_emitted false at = refl

pub emitted_wild : (names : Bool) (at previous f : ℕ) → emitted names PWild at previous f ≡ own names 0 0 0 previous f
unfolding emitted own pat_lines pat_vars
emitted_wild true at previous f = refl
emitted_wild false at previous f = refl

-- one part more
pub emitted_more : (names : Bool) (ps : Pats) (f : ℕ) (p : Pat) (at : ℕ) →
    emitted_parts names (and_last ps f p) at ≡ emitted_parts names ps at ++ emitted names p (at + length (emitted_parts names ps at)) (behind at (at + length (emitted_parts names ps at))) f
unfolding emitted emitted_parts
emitted_more true ps f p at = ap freed_lines (and_last_vars ps f p) ∙ map-append (λ n. row 85 (n ∷ 0 ∷ 0 ∷ 0 ∷ 0 ∷ [])) (pats_vars ps) (pat_vars p)
emitted_more false ps f p at =
    let x : List (List ℕ) = (part_lines ps at 0).lines in
    ap (map (row pattern_line)) (and_last_lines ps f p at 0)
    ∙ (map-append (row pattern_line) x (pat_lines p (at + length x) (part_lines ps at 0).last f)
    ∙ rw (last_behind ps at, length-map x (row pattern_line)))

-- the parts' lines, then the own line
with_own : (kind n : ℕ) (ps : Pats) (at previous f : ℕ) →
    map (row pattern_line) ((part_lines ps at 0).lines ++ ((kind ∷ n ∷ (part_lines ps at 0).last ∷ previous ∷ f ∷ []) ∷ []))
    ≡ emitted_parts false ps at ++ own false kind n (behind at (at + length (emitted_parts false ps at))) previous f
unfolding emitted_parts own
with_own kind n ps at previous f =
    let x : List (List ℕ) = (part_lines ps at 0).lines in
    map-append (row pattern_line) x ((kind ∷ n ∷ (part_lines ps at 0).last ∷ previous ∷ f ∷ []) ∷ []) ∙ rw (last_behind ps at, length-map x (row pattern_line))

-- a kind over parts
pub emitted_own : (names : Bool) (kind n : ℕ) (ps : Pats) (at previous f : ℕ) → kind ≤ 6 → (kind ≤ 2 → ps ≡ no_parts) → (5 ≤ kind → n ≡ 0) → (kind ≡ 0 → n ≡ 0) →
    emitted names (pattern_of kind n ps) at previous f ≡ emitted_parts names ps at ++ own names kind n (behind at (at + length (emitted_parts names ps at))) previous f
unfolding pattern_of emitted emitted_parts own pat_lines part_lines pat_vars pats_vars
emitted_own true zero n ps at previous f a b c d = rw (b (omega arith))
emitted_own true (suc zero) n ps at previous f a b c d = rw (b (omega arith))
emitted_own true (suc (suc zero)) n ps at previous f a b c d = rw (b (omega arith))
emitted_own true (suc (suc (suc zero))) n ps at previous f a b c d = sym (append-nil (freed_lines (pats_vars ps)))
emitted_own true (suc (suc (suc (suc zero)))) n ps at previous f a b c d = sym (append-nil (freed_lines (pats_vars ps)))
emitted_own true (suc (suc (suc (suc (suc zero))))) n ps at previous f a b c d = sym (append-nil (freed_lines (pats_vars ps)))
emitted_own true (suc (suc (suc (suc (suc (suc zero)))))) n ps at previous f a b c d = sym (append-nil (freed_lines (pats_vars ps)))
emitted_own true (suc (suc (suc (suc (suc (suc (suc kind))))))) n ps at previous f a b c d = absurd (omega arith)
emitted_own false zero n ps at previous f a b c d = rw (b (omega arith), d refl, eq-eqb (at + 0) at (omega arith))
emitted_own false (suc zero) n ps at previous f a b c d = rw (b (omega arith), eq-eqb (at + 0) at (omega arith))
emitted_own false (suc (suc zero)) n ps at previous f a b c d = rw (b (omega arith), eq-eqb (at + 0) at (omega arith))
emitted_own false (suc (suc (suc zero))) n ps at previous f a b c d = with_own 3 n ps at previous f
emitted_own false (suc (suc (suc (suc zero)))) n ps at previous f a b c d = with_own 4 n ps at previous f
emitted_own false (suc (suc (suc (suc (suc zero))))) n ps at previous f a b c d = rw (c (omega arith)) (with_own 5 0 ps at previous f)
emitted_own false (suc (suc (suc (suc (suc (suc zero)))))) n ps at previous f a b c d = rw (c (omega arith)) (with_own 6 0 ps at previous f)
emitted_own false (suc (suc (suc (suc (suc (suc (suc kind))))))) n ps at previous f a b c d = absurd (omega arith)
