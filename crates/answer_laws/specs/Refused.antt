-- Which row a refusal comes from, and which codes there are. Assumes nothing.
use Rattle.std.specs.Prelude.{◌⊎◌, ◌≡◌, List, [], ◌∷◌, ◌++◌, Bool, true, false, ℕ, zero, suc, ◌≤◌, ◌<◌, eqb, ltb}
use Rattle.std.proofs.Common.{⊎_elim, sym, ◌∙◌, ap, subst, arith, ltb-true}
use Rattle.std.proofs.Math.Path.{refl}
use Rattle.std.proofs.Math.Bool.{not}
use Rattle.std.proofs.Math.ListN.{length}
use Rattle.std.proofs.lemmas.Bool.{eqb-false, not-true}
use Rattle.sheet.specs.Format.{Format, Ample}
use Rattle.sheet.specs.Line.{Line}
use Rattle.sheet.specs.Sheet.{first, count, lines}
use Rattle.sheet.proofs.SheetLaws.{length_lines}
use Rattle.sheet.proofs.FirstLaws.{first_holds, first_before}
use Rattle.sheet.proofs.ListLaws.{Every, mem_every}
use Rattle.model.specs.Decl.{Decl}
use Rattle.model.specs.Run.{lay, layouts_of, layout_of_decl, resolves, returns, decl_fault}
use Rattle.model.specs.Resolve.{resolve_checked}
use Rattle.model_laws.specs.Resolve.{Unspent, fault_row}
use Rattle.model_laws.specs.Fuel.{NoReturn, fuel_unspent}
use Rattle.meaning.specs.Program.{is_head, program}
use Rattle.meaning_laws.specs.Program.{length_program}
use Rattle.meaning.specs.Rows.{nth_line, heads_before, row4}
use Rattle.answer.specs.declared.Refusal.{Refusal}
use Rattle.answer.specs.declared.Refusal.TheVariants.{Accepted, Refused}
use Rattle.answer.specs.Answer.{Row, Clear, Refuses, row8, fault_at, row9_10, sheet_rows, program_rows, output_rows, rows, refusal, answered, answer}
use Rattle.answer_laws.specs.Answer.{first_clear, AllClear, accepted_clear, or_later, refusal_append, head_test}
use Rattle.answer_laws.specs.Pass.{clear_heads}
use Rattle.answer_laws.specs.Left.{decls_limit}

-- ---- the row of a refusal
abbrev pub RefusesAs : List Row → Refusal → Type 0
RefusesAs rs Accepted = Unit {0}
RefusesAs rs (Refused code place) = Refuses rs code place

pub refusal_refuses : (rs : List Row) → RefusesAs rs (refusal rs)
unfolding refusal
refusal_refuses [] = tt
refusal_refuses (r ∷ rs) = go (ltb (first r.test r.bound) r.bound) refl (refusal rs) (refusal_refuses rs)
  where
    i : ℕ
    i = first r.test r.bound

    go : (c : Bool) → ltb i r.bound ≡ c → (q : Refusal) → RefusesAs rs q → RefusesAs (r ∷ rs) (elim c [ true ↦ Refused (r.code i) (r.place i) | false ↦ q ])
    go true e q h =
        let k : i < r.bound = ltb-true i r.bound e in
        record {
          earlier = [];
          row = r;
          later = rs;
          split = refl;
          passed = tt;
          at = i;
          inside = k;
          applies = first_holds r.test r.bound k;
          first_of = λ j q. first_before r.test r.bound j q;
          code_of = refl;
          place_of = refl;
        }
    go false e Accepted h = tt
    go false e (Refused code place) h =
        record {
          earlier = r ∷ h.earlier;
          row = h.row;
          later = h.later;
          split = ap (λ (xs : List Row). r ∷ xs) h.split;
          passed = (first_clear r e, h.passed);
          at = h.at;
          inside = h.inside;
          applies = h.applies;
          first_of = h.first_of;
          code_of = h.code_of;
          place_of = h.place_of;
        }

-- ---- codes
-- a row whose code lies in this range wherever it applies
abbrev pub Within : ℕ → ℕ → ℕ → Type 0
Within lo hi c = (lo ≤ c) × (c ≤ hi)

pub record Coding (lo hi : ℕ) (r : Row) : Type 0 where
  pub in_range : (i : ℕ) → r.test i ≡ true → Within lo hi (r.code i)

abbrev pub InRange : ℕ → ℕ → Refusal → Type 0
InRange lo hi Accepted = Unit {0}
InRange lo hi (Refused code place) = Within lo hi code

pub refusal_in_range : (lo hi : ℕ) (rs : List Row) → Every (Coding lo hi) rs → InRange lo hi (refusal rs)
unfolding refusal
refusal_in_range lo hi [] h = tt
refusal_in_range lo hi (r ∷ rs) h = go (ltb (first r.test r.bound) r.bound) refl (refusal_in_range lo hi rs h.1)
  where
    go : (c : Bool) → ltb (first r.test r.bound) r.bound ≡ c → InRange lo hi (refusal rs)
        → InRange lo hi (elim c [ true ↦ Refused (r.code (first r.test r.bound)) (r.place (first r.test r.bound)) | false ↦ refusal rs ])
    go true e k = h.0.in_range (first r.test r.bound) (first_holds r.test r.bound (ltb-true (first r.test r.bound) r.bound e))
    go false e k = k

-- where no name returns to itself, a fault is 9 or 10: no fuel runs out
pub fault_in_range : (limit fuel : ℕ) (ds : List Decl) → NoReturn ds → length ds < fuel → (i : ℕ) → (decl_fault limit fuel ds (layouts_of ds) i ≡ 0 → ⊥) → Within 9 10 (decl_fault limit fuel ds (layouts_of ds) i)
unfolding decl_fault
fault_in_range limit zero ds n h i k = absurd (omega arith)
fault_in_range limit (suc fuel) ds n h i k =
    ⊎_elim (λ e. absurd (k e)) (λ e. ⊎_elim (λ q. (omega arith, omega arith)) (λ q. (omega arith, omega arith)) e)
    (fault_row limit (lay ds) (suc fuel) (resolves (layout_of_decl ds i))
    (mem_every (λ c. Unspent (resolve_checked limit (lay ds) (suc fuel) c)) (resolves (layout_of_decl ds i)) (λ c m. fuel_unspent ds n fuel (omega arith) limit c)))

module _ (f : Format) (b : List ℕ) (ample : Ample f) where
  abbrev ls : List Line
  ls = lines f.columns b

  abbrev ds : List Decl
  ds = program ls

  plain : (lo hi code bound : ℕ) (test : ℕ → Bool) (place : ℕ → ℕ) → lo ≤ code → code ≤ hi → Coding lo hi (record { bound = bound; test = test; code = λ i. code; place = place })
  plain lo hi code bound test place h k = record { in_range = λ i t. (h, k) }

  -- rows 1 to 8
  abbrev eight : Row
  eight = record { bound = count f.columns b; test = row8 ds ls; code = λ i. 8; place = λ i. i }

  first_eight : Every (Coding 1 12) (sheet_rows f b ++ (eight ∷ []))
  unfolding sheet_rows
  first_eight = (
    plain _ _ _ _ _ _ (omega arith) (omega arith),
    (
      plain _ _ _ _ _ _ (omega arith) (omega arith),
      (
        plain _ _ _ _ _ _ (omega arith) (omega arith),
        (
          plain _ _ _ _ _ _ (omega arith) (omega arith),
          (
            plain _ _ _ _ _ _ (omega arith) (omega arith),
            (
              plain _ _ _ _ _ _ (omega arith) (omega arith),
              (
                plain _ _ _ _ _ _ (omega arith) (omega arith),
                (plain _ _ _ _ _ _ (omega arith) (omega arith), tt),
              ),
            ),
          ),
        ),
      ),
    ),
  )

  -- the rows after them
  abbrev rest : ℕ → ℕ → List Row
  rest v l = record { bound = count f.columns b; test = row9_10 f ds ls; code = fault_at f ds ls; place = λ i. i } ∷ output_rows f b v l

  pub rows_parts : (v l : ℕ) → rows f b v l ≡ (sheet_rows f b ++ (eight ∷ [])) ++ rest v l
  unfolding sheet_rows program_rows
  rows_parts v l = refl

  later_rows : (v l : ℕ) → AllClear (sheet_rows f b ++ (eight ∷ [])) → Every (Coding 1 12) (rest v l)
  unfolding sheet_rows output_rows row8 row9_10 fault_at
  later_rows v l h =
      let four : Clear (length ls) (row4 f ls) = λ i k. h.1.1.1.0 i (omega (arith, length_lines f.columns b)) in
      let none : NoReturn ds = clear_heads ls (returns ds (layouts_of ds)) (λ i k. h.1.1.1.1.1.1.1.0 i (omega (arith, length_lines f.columns b))) in
      let few : length ds < f.fuel = omega (arith, length_program ls, decls_limit f ls four, ample.depth) in (
        record {
          in_range = λ i t.
              let k = head_test ls (λ k. not (eqb (decl_fault f.nodes f.fuel ds (layouts_of ds) k) 0)) i (is_head (nth_line ls i)) refl t in
              let r = fault_in_range f.nodes f.fuel ds none few (heads_before ls i) (eqb-false _ _ (not-true _ k)) in
              (omega (arith, r.0), omega (arith, r.1));
        },
        (plain _ _ _ _ _ _ (omega arith) (omega arith), (plain _ _ _ _ _ _ (omega arith) (omega arith), tt)),
      )

  -- no other code than 1 to 12
  pub refusal_codes : (v l : ℕ) → InRange 1 12 (refusal (rows f b v l))
  refusal_codes v l =
      subst (InRange 1 12) (sym (ap refusal (rows_parts v l) ∙ refusal_append (sheet_rows f b ++ (eight ∷ [])) (rest v l)))
      (go (refusal (sheet_rows f b ++ (eight ∷ []))) refl (refusal_in_range 1 12 (sheet_rows f b ++ (eight ∷ [])) first_eight))
    where
      go : (q : Refusal) → refusal (sheet_rows f b ++ (eight ∷ [])) ≡ q → InRange 1 12 q → InRange 1 12 (or_later q (refusal (rest v l)))
      go Accepted e k = refusal_in_range 1 12 (rest v l) (later_rows v l (accepted_clear (sheet_rows f b ++ (eight ∷ [])) e))
      go (Refused code place) e k = k

  -- ---- of the answer
  pub answer_refuses : (v l : ℕ) → ((answer f b v l).code ≡ 0 → ⊥) → Refuses (rows f b v l) (answer f b v l).code (answer f b v l).place × Within 1 12 (answer f b v l).code
  unfolding answer answered
  answer_refuses v l h = go (refusal (rows f b v l)) h (refusal_refuses (rows f b v l)) (refusal_codes v l)
    where
      go : (q : Refusal) → ((answered f b q).code ≡ 0 → ⊥) → RefusesAs (rows f b v l) q → InRange 1 12 q
          → Refuses (rows f b v l) (answered f b q).code (answered f b q).place × Within 1 12 (answered f b q).code
      go Accepted k r c = absurd (k refl)
      go (Refused code place) k r c = (r, c)
