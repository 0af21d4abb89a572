-- Calls that build the units of a cut in turn, the last with the Q lines, give what one call gives; a verdict sheet is as long as
-- its sheet and gives itself. Assumes nothing.
use Rattle.std.specs.Prelude.{◌↔◌, ℕ, ◌+◌, ◌<◌, length, take, drop}
use Rattle.std.proofs.Math.Path.{◌≡◌, refl, ap}
use Rattle.std.proofs.Common.{sym, ◌∙◌, subst, arith, length-append}
use mathlib.Core.List.{List, [], ◌∷◌, ◌++◌, append-nil}
use Rattle.std.proofs.Math.Option.{Option, none, some}
use Rattle.std.proofs.Math.Seq.{take-append_seam}
use Rattle.sheet.specs.Format.{Format}
use Rattle.sheet.specs.Sheet.{lines}
use Rattle.answer.specs.declared.Refusal.TheVariants.{Accepted}
use Rattle.answer.specs.Answer.{Answer, after, Given}
use Rattle.answer.specs.Answer as old
use Rattle.answer.specs.Cut.{Sheets, Whole}
use Rattle.answer_laws.specs.Answer as old_laws
use Rattle.answer_laws.specs.Build.{verdict_sheet_length, split_nothing}
use Rattle.answer_patterns.specs.Whole.{front, tail, verdict_sheet, answer, answered, called}
use Rattle.answer_pattern_laws.specs.Parts.{row1_whole, parts_are, tail_whole, front_whole, tail_begins}
use Rattle.answer_pattern_laws.specs.Sheets.{verdict_sheet_tail}
use Rattle.answer_patterns.specs.Passes.{Passes}
use Rattle.answer_patterns.specs.Cut.{build, builds, Cut, Call, handed_on, Over, InTurn, last_call, AllAccept, Wrote}
use Rattle.answer_pattern_laws.specs.PassesLaws.{some_same, sheets, passes_build, build_passes, accepted_passes, passes_accepted, passes_answer, Joined, passes_joined}
use Rattle.answer_pattern_laws.specs.Import.{build_told}
use Rattle.answer_pattern_laws.specs.CutLaws.{no_pattern_nil, cut_builds}

-- ---- the verdict sheet
module _ (f : Format) (b : List ℕ) (v l : ℕ) (pass : Passes f b v l) where
  whole_tail : Whole f.columns (tail f.columns b)
  whole_tail = tail_whole f.columns b (row1_whole f b pass.pass1)

  -- that of the declarations, and the Q lines
  pub verdict_parts : (sheets f b).verdict ≡ old.verdict_sheet f (lines f.columns (front f.columns b)) ++ tail f.columns b
  unfolding sheets
  verdict_parts = verdict_sheet_tail f (lines f.columns (front f.columns b)) (tail f.columns b) whole_tail (passes_joined f v l b pass).no_bad

  pub verdict_length : 0 < f.columns → length (sheets f b).verdict ≡ length b
  verdict_length pos =
      ap length verdict_parts
      ∙ (length-append (old.verdict_sheet f (lines f.columns (front f.columns b))) (tail f.columns b)
      ∙ (ap (λ (n : ℕ). n + length (tail f.columns b)) (verdict_sheet_length f (front f.columns b) v l pos (passes_joined f v l b pass).front_passes)
      ∙ (sym (length-append (front f.columns b) (tail f.columns b)) ∙ ap length (sym (parts_are f.columns b)))))

-- built again it gives itself, and the same left sheet
pub verdict_again : (f : Format) (b : List ℕ) (v l : ℕ) → 0 < f.columns → (x : Sheets) → build f v l b ≡ some x → build f v l x.verdict ≡ some x
unfolding old_laws.sheets
verdict_again f b v l pos x e =
    let k : Passes f b v l = build_passes f b v l x e in
    let j : Joined f (front f.columns b) (tail f.columns b) v l = passes_joined f v l b k in
    let t : x ≡ sheets f b = some_same x (sheets f b) (sym e ∙ passes_build f b v l k) in
    ap (λ (y : Sheets). build f v l y.verdict) t
    ∙ (ap (build f v l) (verdict_parts f b v l k ∙ ap (λ (c : List ℕ). c ++ tail f.columns b) (sym (append-nil (old.verdict_sheet f (lines f.columns (front f.columns b))))))
    ∙ (build_told f v l pos (front f.columns b) j.front_passes [] (split_nothing f.columns (front f.columns b) (front_whole f.columns b)) (tail f.columns b) (no_pattern_nil f.columns) (whole_tail f b v l k) (tail_begins f.columns b)
    ∙ (ap (λ (c : List ℕ). build f v l (c ++ tail f.columns b)) (append-nil (front f.columns b)) ∙ (ap (build f v l) (sym (parts_are f.columns b)) ∙ e))))

module _ (f : Format) (v l : ℕ) (pos : 0 < f.columns) where
  -- ---- one call
  module _ (s u : List ℕ) (c : Call f) (o : Over f v l s u c) where
    given : c.gave ≡ called f (s ++ u) c.verdict c.left
    given = c.is_called ∙ ap (λ (b : List ℕ). called f b c.verdict c.left) o.sheet_is

    code_is : c.gave.code ≡ (answer f (s ++ u) v l).code
    unfolding called
    code_is = ap (λ (g : Given). g.code) given ∙ rw (o.verdict_room, o.left_room)

    pub accepts_passes : c.gave.code ≡ 0 → Passes f (s ++ u) v l
    accepts_passes h = accepted_passes f (s ++ u) v l (sym code_is ∙ h)

    pub passes_accepts : Passes f (s ++ u) v l → c.gave.code ≡ 0
    passes_accepts p = code_is ∙ passes_accepted f (s ++ u) v l p

    pub wrote : Passes f (s ++ u) v l → Wrote c (sheets f (s ++ u))
    unfolding called sheets answered
    wrote p =
        let a : answer f (s ++ u) (length c.verdict) (length c.left) ≡ answered f (s ++ u) Accepted = rw (o.verdict_room, o.left_room) (passes_answer f (s ++ u) v l p) in
        record {
          verdict_holds = ap (λ (g : Given). g.verdict_output) given ∙ ap (λ (x : Answer). after x.verdict c.verdict) a;
          left_holds = ap (λ (g : Given). g.left_output) given ∙ ap (λ (x : Answer). after x.left c.left) a;
        }

    -- what it hands on is its verdict sheet
    pub handed : Passes f (s ++ u) v l → handed_on c ≡ (sheets f (s ++ u)).verdict
    handed p =
        let e : length (sheets f (s ++ u)).verdict ≡ length c.sheet = verdict_length f (s ++ u) v l p pos ∙ ap length (sym o.sheet_is) in
        ap (take (length c.sheet)) (wrote p).verdict_holds
        ∙ (ap (λ (n : ℕ). take n (after (sheets f (s ++ u)).verdict c.verdict)) (sym e)
        ∙ take-append_seam (sheets f (s ++ u)).verdict (drop (length (sheets f (s ++ u)).verdict) c.verdict))

  -- ---- the list of calls is the list of builds
  module _ (z : List ℕ) where
    pub calls_builds : (us : List (List ℕ)) (s u : List ℕ) (c : Call f) (cs : List (Call f)) → InTurn f v l s u us z c cs → AllAccept c cs
        → (x : Sheets) × (builds f v l s u us z ≡ some x) × Wrote (last_call c cs) x
    unfolding builds
    calls_builds [] s u c [] o h =
        let p : Passes f ((s ++ u) ++ z) v l = accepts_passes (s ++ u) z c o h in
        (sheets f ((s ++ u) ++ z), passes_build f ((s ++ u) ++ z) v l p, wrote (s ++ u) z c o p)
    calls_builds [] s u c (c' ∷ cs) o h = absurd o
    calls_builds (u' ∷ us) s u c [] o h = absurd o
    calls_builds (u' ∷ us) s u c (c' ∷ cs) o h =
        let p : Passes f (s ++ u) v l = accepts_passes s u c o.0 h.0 in
        let r = calls_builds us (handed_on c) u' c' cs o.1 h.1 in
        let b : builds f v l (sheets f (s ++ u)).verdict u' us z ≡ some r.0 = ap (λ (t : List ℕ). builds f v l t u' us z) (sym (handed s u c o.0 p)) ∙ r.1 in
        (r.0, rw (passes_build f (s ++ u) v l p, builds) b, r.2)

    pub builds_calls : (us : List (List ℕ)) (s u : List ℕ) (c : Call f) (cs : List (Call f)) → InTurn f v l s u us z c cs → (x : Sheets) → builds f v l s u us z ≡ some x → AllAccept c cs
    unfolding builds
    builds_calls [] s u c [] o x e = passes_accepts (s ++ u) z c o (build_passes f ((s ++ u) ++ z) v l x e)
    builds_calls [] s u c (c' ∷ cs) o x e = absurd o
    builds_calls (u' ∷ us) s u c [] o x e = absurd o
    builds_calls (u' ∷ us) s u c (c' ∷ cs) o x e = go (λ k. builds_calls us (handed_on c) u' c' cs o.1 x k) (build f v l (s ++ u)) refl e
      where
        go : (builds f v l (handed_on c) u' us z ≡ some x → AllAccept c' cs) → (r : Option Sheets) → build f v l (s ++ u) ≡ r → elim r [ none ↦ none | some y ↦ builds f v l y.verdict u' us z ] ≡ some x → AllAccept c (c' ∷ cs)
        go ih none q k = let t : ◌≡◌ {A = ℕ} 0 1 = cc in absurd (omega arith)
        go ih (some y) q k =
            let p : Passes f (s ++ u) v l = build_passes f (s ++ u) v l y q in
            let t : y ≡ sheets f (s ++ u) = some_same y (sheets f (s ++ u)) (sym q ∙ passes_build f (s ++ u) v l p) in
            let b : builds f v l (handed_on c) u' us z ≡ some x = ap (λ (t : List ℕ). builds f v l t u' us z) (handed s u c o.0 p ∙ ap (λ (t : Sheets). t.verdict) (sym t)) ∙ k in
            (passes_accepts s u c o.0 p, ih b)

  -- ---- the cut
  module _ (b header u : List ℕ) (us : List (List ℕ)) (z : List ℕ) (cut : Cut f.columns b header (u ∷ us) z) (c : Call f) (cs : List (Call f)) (o : InTurn f v l header u us z c cs)
      (whole : Call f) (w : Over f v l [] b whole) where
    pub cut_accepts : AllAccept c cs ↔ (whole.gave.code ≡ 0)
    cut_accepts = (
      λ h.
          let r = calls_builds z us header u c cs o h in
          passes_accepts [] b whole w (build_passes f b v l r.0 (sym (cut_builds f v l b header u us z pos cut) ∙ r.1)),
      λ h.
          let p : Passes f b v l = accepts_passes [] b whole w h in
          builds_calls z us header u c cs o (sheets f b) (cut_builds f v l b header u us z pos cut ∙ passes_build f b v l p),
    )

    -- the last call and the whole's wrote the same two sheets
    pub cut_wrote : whole.gave.code ≡ 0 → (x : Sheets) × Wrote whole x × Wrote (last_call c cs) x
    cut_wrote h =
        let p : Passes f b v l = accepts_passes [] b whole w h in
        let r = calls_builds z us header u c cs o (cut_accepts.1 h) in
        let t : r.0 ≡ sheets f b = some_same r.0 (sheets f b) (sym r.1 ∙ (cut_builds f v l b header u us z pos cut ∙ passes_build f b v l p)) in
        (sheets f b, wrote [] b whole w p, subst (Wrote (last_call c cs)) t r.2)
