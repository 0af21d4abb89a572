-- The rows of the table's lines are those of the bytes. Assumes nothing.
use Rattle.std.specs.Prelude.{Bool, true, false, ◌≡◌, refl, List, [], ◌∷◌, map, ℕ, ltb, length}
use Rattle.std.proofs.Common.{◌∙◌, ap, ap₂}
use Rattle.std.proofs.lemmas.List.{length-map}
use Rattle.sheet.specs.Format.{base}
use Rattle.sheet.specs.Line.{Line}
use Rattle.sheet.specs.Sheet.{first, count, lines}
use Rattle.sheet.proofs.SheetLaws.{length_lines}
use Rattle.walk_cells.specs.Cells.{bare}
use Rattle.meaning_bares.specs.ProgramLaws.{program_bare}
use Rattle.model.specs.Decl.{Decl}
use Rattle.answer.specs.Answer.{Row, line_row, row8, row9_10, fault_at, refusal}
use Rattle.meaning.specs.Program.{program}
use Rattle.answer.specs.declared.Refusal.{Refusal}
use Rattle.answer.specs.declared.Refusal.TheVariants.{Accepted, Refused}
use Rattle.table_declared.specs.BareLaws.{place8_bare, fault_bare, place9_10_bare}
use Rattle.table_access.specs.Tables.{lines_in}
use Rattle.table_access.specs.OfSheet.{OfSheet, program_same}
use Rattle.rows_heads.specs.HeadRows.{returns_row, faults_row}
use Rattle.answer_pattern_laws.specs.Rows.{row8_alone, faults_alone}

-- ---- the rows of the table's lines are those of the bytes
-- what a row alone tells, where i is the first number below its bound m at which its test holds
abbrev told : Row → ℕ → ℕ → Refusal
told r i m = elim (ltb i m) [ true ↦ Refused (r.code i) (r.place i) | false ↦ Accepted ]

-- rows with one bound and one such number, and one code and place
pub same_refusal : (r q : Row) → r.bound ≡ q.bound → first r.test r.bound ≡ first q.test q.bound → ((i : ℕ) → r.code i ≡ q.code i) → ((i : ℕ) → r.place i ≡ q.place i) → refusal (r ∷ []) ≡ refusal (q ∷ [])
unfolding refusal
same_refusal r q n e c p = go (first r.test r.bound) (first q.test q.bound) r.bound q.bound e n
  where
    at : (j : ℕ) (z : Bool) → ◌≡◌ {A = Refusal} (elim z [ true ↦ Refused (r.code j) (r.place j) | false ↦ Accepted ]) (elim z [ true ↦ Refused (q.code j) (q.place j) | false ↦ Accepted ])
    at j true = rw (c j, p j)
    at j false = refl

    go : (i j m k : ℕ) → i ≡ j → m ≡ k → told r i m ≡ told q j k
    go i j m k x y = ap₂ (told r) x y ∙ at j (ltb j k)

module _ (b t : List ℕ) (of : OfSheet b t) where
  abbrev in_t : List Line
  in_t = lines_in t

  lines_many : length (lines 6 b) ≡ count 6 b
  lines_many = length_lines 6 b

  pub eight_same : refusal (returns_row in_t ∷ []) ≡ row8_alone base b
  eight_same =
      let p : program in_t ≡ program (lines 6 b) = program_same b t of in
      ap (λ (ls : List Line). refusal (returns_row ls ∷ [])) of.lines_are
      ∙ same_refusal (returns_row (map bare (lines 6 b))) (line_row 8 (count 6 b) (row8 (program (lines 6 b)) (lines 6 b))) (length-map (lines 6 b) bare ∙ lines_many)
      (ap (λ (ds : List Decl). first (row8 ds (map bare (lines 6 b))) (length (map bare (lines 6 b)))) (program_bare (lines 6 b)) ∙ place8_bare (lines 6 b) (program (lines 6 b)) ∙ ap (first (row8 (program (lines 6 b)) (lines 6 b))) lines_many)
      (λ i. refl) (λ i. refl)

  pub faults_same : refusal (faults_row base in_t ∷ []) ≡ faults_alone base b
  faults_same =
      ap (λ (ls : List Line). refusal (faults_row base ls ∷ [])) of.lines_are
      ∙ same_refusal (faults_row base (map bare (lines 6 b)))
      (record { bound = count 6 b; test = row9_10 base (program (lines 6 b)) (lines 6 b); code = fault_at base (program (lines 6 b)) (lines 6 b); place = λ i. i })
      (length-map (lines 6 b) bare ∙ lines_many)
      (ap (λ (ds : List Decl). first (row9_10 base ds (map bare (lines 6 b))) (length (map bare (lines 6 b)))) (program_bare (lines 6 b)) ∙ place9_10_bare (lines 6 b) (program (lines 6 b)) base ∙ ap (first (row9_10 base (program (lines 6 b)) (lines 6 b))) lines_many)
      (λ i. ap (λ (ds : List Decl). fault_at base ds (map bare (lines 6 b)) i) (program_bare (lines 6 b)) ∙ fault_bare (lines 6 b) (program (lines 6 b)) base i) (λ i. refl)
