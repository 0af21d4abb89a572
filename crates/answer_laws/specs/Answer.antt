-- When a build is accepted, and with which sheets. Assumes nothing.
use Rattle.std.specs.Prelude.{◌↔◌, ◌≡◌, refl, List, [], ◌∷◌, ◌++◌, Bool, true, false, not, ℕ, ◌+◌, ◌-◌, ◌≤◌, ◌<◌, eqb, ltb, length, get_or, drop}
use Rattle.std.proofs.Common.{sym, ◌∙◌, ap, subst, arith, length-append, length-drop, get_or-append-add, get_or-drop, ltb-true, ltb-false, le-ltb, ne_eqb}
use Rattle.std.proofs.Math.Option.{Option, none, some}
use Rattle.std.proofs.lemmas.Bool.{eqb-false, not-true}
use Rattle.number_columns.specs.Column.{pick}
use Rattle.sheet.specs.Format.{Format}
use Rattle.sheet.specs.Line.{Line}
use Rattle.sheet.specs.Sheet.{first, lines}
use Rattle.sheet.proofs.FirstLaws.{first_none, none_first, first_le, first_holds}
use Rattle.sheet.proofs.ListLaws.{Every}
use Rattle.model.specs.Run.{layouts_of, decl_fault}
use Rattle.answer.specs.declared.Refusal.{Refusal}
use Rattle.answer.specs.declared.Refusal.TheVariants.{Accepted, Refused}
use Rattle.model.specs.Decl.{Decl}
use Rattle.meaning.specs.Program.{is_head, program}
use Rattle.meaning.specs.Rows.{nth_line, heads_before}
use Rattle.answer.specs.Answer.{Passes, Clear, Row, row9_10, fault_at, verdict_sheet, left_sheet, sheet_rows, program_rows, output_rows, rows, refusal, Answer, answered, answer, after}
use Rattle.answer.specs.Cut.{Sheets, sheets_of, build}

-- ---- a list of rows
abbrev pub AllClear : List Row → Type 0
AllClear = Every (λ r. Clear r.bound r.test)

clear_first : (r : Row) → Clear r.bound r.test → ltb (first r.test r.bound) r.bound ≡ false
clear_first r h = le-ltb (first r.test r.bound) r.bound (omega (arith, first_none r.test r.bound h))

pub first_clear : (r : Row) → ltb (first r.test r.bound) r.bound ≡ false → Clear r.bound r.test
first_clear r h =
    let k : first r.test r.bound ≡ r.bound = omega (arith, ltb-false (first r.test r.bound) r.bound h, first_le r.test r.bound) in
    none_first r.test r.bound k

pub clear_accepted : (rs : List Row) → AllClear rs → refusal rs ≡ Accepted
unfolding refusal
clear_accepted [] h = refl
clear_accepted (r ∷ rs) h =
    ap (λ (b : Bool). elim b [ true ↦ Refused (r.code (first r.test r.bound)) (r.place (first r.test r.bound)) | false ↦ refusal rs ]) (clear_first r h.0)
    ∙ clear_accepted rs h.1

pub accepted_clear : (rs : List Row) → refusal rs ≡ Accepted → AllClear rs
unfolding refusal
accepted_clear [] h = tt
accepted_clear (r ∷ rs) h = go (λ k. accepted_clear rs k) (ltb (first r.test r.bound) r.bound) refl h
  where
    go : (refusal rs ≡ Accepted → AllClear rs) → (b : Bool) → ltb (first r.test r.bound) r.bound ≡ b
        → elim b [ true ↦ Refused (r.code (first r.test r.bound)) (r.place (first r.test r.bound)) | false ↦ refusal rs ] ≡ Accepted
        → AllClear (r ∷ rs)
    go ih true e k = let z : ◌≡◌ {A = ℕ} 0 1 = cc in absurd (omega arith)
    go ih false e k = (first_clear r e, ih k)

-- the later rows are tested where none of the first applies
abbrev pub or_later : Refusal → Refusal → Refusal
or_later Accepted q = q
or_later (Refused code place) q = Refused code place

pub or_accepted : (x y : Refusal) → or_later x y ≡ Accepted → x ≡ Accepted
or_accepted Accepted y e = refl
or_accepted (Refused code place) y e = e

pub refusal_append : (rs ss : List Row) → refusal (rs ++ ss) ≡ or_later (refusal rs) (refusal ss)
unfolding refusal
refusal_append [] ss = refl
refusal_append (r ∷ rs) ss = go (ltb (first r.test r.bound) r.bound) (refusal_append rs ss)
  where
    go : (c : Bool) → refusal (rs ++ ss) ≡ or_later (refusal rs) (refusal ss) →
        elim c [ true ↦ Refused (r.code (first r.test r.bound)) (r.place (first r.test r.bound)) | false ↦ refusal (rs ++ ss) ]
        ≡ or_later (elim c [ true ↦ Refused (r.code (first r.test r.bound)) (r.place (first r.test r.bound)) | false ↦ refusal rs ]) (refusal ss)
    go true e = refl
    go false e = e

-- a refusal's code is not 0
pub record Coded (r : Row) : Type 0 where
  pub coded : (i : ℕ) → r.test i ≡ true → r.code i ≡ 0 → ⊥

abbrev pub AllCoded : List Row → Type 0
AllCoded = Every Coded

abbrev pub CodeOf : Refusal → Type 0
CodeOf Accepted = Unit {0}
CodeOf (Refused code place) = code ≡ 0 → ⊥

pub refusal_coded : (rs : List Row) → AllCoded rs → CodeOf (refusal rs)
unfolding refusal
refusal_coded [] h = tt
refusal_coded (r ∷ rs) h = go (refusal_coded rs h.1) (ltb (first r.test r.bound) r.bound) refl
  where
    go : CodeOf (refusal rs) → (b : Bool) → ltb (first r.test r.bound) r.bound ≡ b
        → CodeOf (elim b [ true ↦ Refused (r.code (first r.test r.bound)) (r.place (first r.test r.bound)) | false ↦ refusal rs ])
    go ih true e = h.0.coded (first r.test r.bound) (first_holds r.test r.bound (ltb-true (first r.test r.bound) r.bound e))
    go ih false e = ih

-- ---- the rows of a sheet
pub head_test : (ls : List Line) (p : ℕ → Bool) (i : ℕ) (b : Bool) → is_head (nth_line ls i) ≡ b
    → elim b [ true ↦ p (heads_before ls i) | false ↦ false ] ≡ true → p (heads_before ls i) ≡ true
head_test ls p i true e h = h
head_test ls p i false e h = let z : ◌≡◌ {A = ℕ} 0 1 = cc in absurd (omega arith)

row9_10_coded : (f : Format) (ds : List Decl) (ls : List Line) (i : ℕ) → row9_10 f ds ls i ≡ true → fault_at f ds ls i ≡ 0 → ⊥
unfolding row9_10 fault_at
row9_10_coded f ds ls i h e =
    let k = head_test ls (λ k. not (eqb (decl_fault f.nodes f.fuel ds (layouts_of ds) k) 0)) i (is_head (nth_line ls i)) refl h in
    eqb-false _ _ (not-true _ k) e

pub rows_coded : (f : Format) (b : List ℕ) (v l : ℕ) → AllCoded (rows f b v l)
unfolding sheet_rows program_rows output_rows
rows_coded f b v l =
    let ls : List Line = lines f.columns b in
    let plain : (code bound : ℕ) (test : ℕ → Bool) (place : ℕ → ℕ) → 0 < code → Coded (record { bound = bound; test = test; code = λ i. code; place = place }) =
    λ code bound test place h. record { coded = λ i t e. omega arith } in (
      plain _ _ _ _ (omega arith),
      (
        plain _ _ _ _ (omega arith),
        (
          plain _ _ _ _ (omega arith),
          (
            plain _ _ _ _ (omega arith),
            (
              plain _ _ _ _ (omega arith),
              (
                plain _ _ _ _ (omega arith),
                (
                  plain _ _ _ _ (omega arith),
                  (
                    plain _ _ _ _ (omega arith),
                    (
                      record { coded = row9_10_coded f (program ls) ls },
                      (
                        plain _ _ _ _ (omega arith),
                        (plain _ _ _ _ (omega arith), tt),
                      ),
                    ),
                  ),
                ),
              ),
            ),
          ),
        ),
      ),
    )

-- ---- accepted
unfoldable pub sheets : Format → List ℕ → Sheets
sheets f b = record { verdict = verdict_sheet f (lines f.columns b); left = left_sheet f (lines f.columns b) }

-- the rows' tests, one by one
rows_clear : (f : Format) (b : List ℕ) (v l : ℕ) → AllClear (rows f b v l) → Passes f b v l
unfolding sheet_rows program_rows output_rows
rows_clear f b v l h =
    record {
      pass1 = h.0 0 (omega arith);
      pass2 = h.1.0;
      pass3 = h.1.1.0;
      pass4 = h.1.1.1.0;
      pass5 = h.1.1.1.1.0;
      pass6 = h.1.1.1.1.1.0;
      pass7 = h.1.1.1.1.1.1.0;
      pass8 = h.1.1.1.1.1.1.1.0;
      pass9_10 = h.1.1.1.1.1.1.1.1.0;
      pass11 = ltb-false v (length b) (h.1.1.1.1.1.1.1.1.1.0 0 (omega arith));
      pass12 = ltb-false l (length (left_sheet f (lines f.columns b))) (h.1.1.1.1.1.1.1.1.1.1.0 0 (omega arith));
    }

clear_rows : (f : Format) (b : List ℕ) (v l : ℕ) → Passes f b v l → AllClear (rows f b v l)
unfolding sheet_rows program_rows output_rows
clear_rows f b v l h = (
  λ i _. h.pass1,
  (
    h.pass2,
    (
      h.pass3,
      (
        h.pass4,
        (
          h.pass5,
          (
            h.pass6,
            (
              h.pass7,
              (
                h.pass8,
                (
                  h.pass9_10,
                  (
                    λ i _. le-ltb v (length b) h.pass11,
                    (λ i _. le-ltb l (length (left_sheet f (lines f.columns b))) h.pass12, tt),
                  ),
                ),
              ),
            ),
          ),
        ),
      ),
    ),
  ),
)

-- a build that no row applies to is accepted with these sheets
pub passes_build : (f : Format) (b : List ℕ) (v l : ℕ) → Passes f b v l → build f v l b ≡ some (sheets f b)
unfolding answer answered sheets_of sheets
passes_build f b v l h = rw (clear_accepted (rows f b v l) (clear_rows f b v l h))

-- and no other is
pub build_passes : (f : Format) (b : List ℕ) (v l : ℕ) (x : Sheets) → build f v l b ≡ some x → Passes f b v l
unfolding answer answered sheets_of
build_passes f b v l x h = rows_clear f b v l (accepted_clear (rows f b v l) (go (refusal (rows f b v l)) (refusal_coded (rows f b v l) (rows_coded f b v l)) h))
  where
    go : (r : Refusal) → CodeOf r → sheets_of (answered f b r) ≡ some x → r ≡ Accepted
    go Accepted c k = refl
    go (Refused code place) c k =
        let e : eqb code 0 ≡ false = ne_eqb code 0 c in
        let z : ◌≡◌ {A = Option Sheets} none (some x) = ap (λ (t : Bool). pick t (some (record { verdict = []; left = [] })) none) (sym e) ∙ k in
        cc

-- two builds are one where the same passes both and the sheets are equal
pub build_equal : (f : Format) (b c : List ℕ) (v l : ℕ) → (Passes f b v l ↔ Passes f c v l) → (Passes f b v l → sheets f b ≡ sheets f c) → build f v l b ≡ build f v l c
build_equal f b c v l h e = go (build f v l b) (build f v l c) refl refl
  where
    go : (s t : Option Sheets) → build f v l b ≡ s → build f v l c ≡ t → s ≡ t
    go none none p q = refl
    go none (some y) p q =
        let k = passes_build f b v l (h.1 (build_passes f c v l y q)) in
        sym p ∙ (k ∙ absurd_some (sym p ∙ k))
      where
        absurd_some : ◌≡◌ {A = Option Sheets} none (some (sheets f b)) → ◌≡◌ {A = Option Sheets} (some (sheets f b)) (some y)
        absurd_some z = cc
    go (some x) none p q =
        let k = passes_build f c v l (h.0 (build_passes f b v l x p)) in
        let z : ◌≡◌ {A = Option Sheets} none (some (sheets f c)) = sym q ∙ k in
        cc
    go (some x) (some y) p q =
        let k = build_passes f b v l x p in
        sym p ∙ (passes_build f b v l k ∙ (ap some (e k) ∙ (sym (passes_build f c v l (h.0 k)) ∙ q)))

-- ---- the refusal line
-- code 0 exactly where no row applies
pub accepted_passes : (f : Format) (b : List ℕ) (v l : ℕ) → (answer f b v l).code ≡ 0 → Passes f b v l
unfolding answer answered
accepted_passes f b v l h = rows_clear f b v l (accepted_clear (rows f b v l) (go (refusal (rows f b v l)) (refusal_coded (rows f b v l) (rows_coded f b v l)) h))
  where
    go : (r : Refusal) → CodeOf r → (answered f b r).code ≡ 0 → r ≡ Accepted
    go Accepted c k = refl
    go (Refused code place) c k = absurd (c k)

-- the answer where no row applies
pub passes_answer : (f : Format) (b : List ℕ) (v l : ℕ) → Passes f b v l → answer f b v l ≡ answered f b Accepted
unfolding answer
passes_answer f b v l h = ap (answered f b) (clear_accepted (rows f b v l) (clear_rows f b v l h))

pub passes_accepted : (f : Format) (b : List ℕ) (v l : ℕ) → Passes f b v l → (answer f b v l).code ≡ 0
unfolding answered
passes_accepted f b v l h = ap (λ (a : Answer). a.code) (passes_answer f b v l h)

-- a refusal writes nothing and counts no rounds
pub record Nothing (a : Answer) : Type 0 where
  pub no_rounds : a.rounds ≡ 0
  pub no_verdict : a.verdict ≡ []
  pub no_left : a.left ≡ []

pub refused_nothing : (f : Format) (b : List ℕ) (v l : ℕ) → ((answer f b v l).code ≡ 0 → ⊥) → Nothing (answer f b v l)
unfolding answer answered
refused_nothing f b v l h = go (refusal (rows f b v l)) h
  where
    go : (r : Refusal) → ((answered f b r).code ≡ 0 → ⊥) → Nothing (answered f b r)
    go Accepted k = absurd (k refl)
    go (Refused code place) k = record { no_rounds = refl; no_verdict = refl; no_left = refl }

-- ---- an output after the call
module _ (w old : List ℕ) where
  pub after_length : length w ≤ length old → length (after w old) ≡ length old
  after_length h = rw (length-append, length-drop) (omega arith)

  pub after_past : (k : ℕ) → length w ≤ k → get_or (after w old) k 0 ≡ get_or old k 0
  after_past k h =
      let e : length w + (k - length w) ≡ k = omega arith in
      subst (λ (j : ℕ). get_or (after w old) j 0 ≡ get_or old j 0) e (get_or-append-add w (drop (length w) old) (k - length w) 0 ∙ get_or-drop (length w) old (k - length w) 0)
