-- From the first declaration with a fault to the refusal. Assumes nothing.
use Rattle.std.specs.Prelude.{◌≡◌, refl, true, false, ℕ, ◌≤◌, ◌<◌, Result, Ok, Err}
use Rattle.std.proofs.Math.Path.{ap, sym}
use Rattle.std.proofs.Common.{◌∙◌, arith, eq-eqb, ne_eqb, lt-ltb, le-ltb}
use mathlib.Core.List.{List, [], ◌∷◌}
use Rattle.std.proofs.Math.Bool.{not}
use Rattle.sheet.specs.Format.{base}
use Rattle.sheet.specs.Sheet.{first}
use Rattle.sheet.proofs.FirstLaws.{first_place, place_unique, first_none}
use Rattle.meaning.specs.Program.{program}
use Rattle.answer.specs.declared.Refusal.TheVariants.{Accepted, Refused}
use Rattle.answer.specs.Answer.{refusal}
use Rattle.row4_limits.specs.Limits.{start}
use Rattle.table_access.specs.Tables.{decls_of}
use Rattle.rows_heads.specs.HeadRows.{faults_row, faulty, fault_refusal}
use Rattle.row9_faults.specs.declared.attempts.Fault.{Fault}
use Rattle.row9_faults.specs.declared.attempts.Fault.TheVariants as ends
use Rattle.row9_faults.specs.Attempts.{fault_of, FaultAt, Comes}
use Rattle.sheet.specs.Line.{Line}

-- a full array says the less, the smaller it is
pub comes_less : (ls : List Line) (n m : ℕ) (r : Result (Unit {0}) Fault) → n ≤ m → Comes ls m r → Comes ls n r
comes_less ls n m (Ok x) h c = c
comes_less ls n m (Err (ends.Refused code d)) h c = c
comes_less ls n m (Err ends.NoRoom) h c = omega arith

module _ (ls : List Line) where
  faultless : (d : ℕ) → fault_of ls d ≡ 0 → faulty base (program ls) d ≡ false
  unfolding faulty
  faultless d e = ap not (eq-eqb (fault_of ls d) 0 e)

  faults : (d : ℕ) → (fault_of ls d ≡ 0 → ⊥) → faulty base (program ls) d ≡ true
  unfolding faulty
  faults d e = ap not (ne_eqb (fault_of ls d) 0 e)

  pub refused_none : ((d : ℕ) → d < decls_of ls → fault_of ls d ≡ 0) → Accepted ≡ refusal (faults_row base ls ∷ [])
  unfolding refusal
  refused_none h =
      let e : decls_of ls ≡ first (faulty base (program ls)) (decls_of ls) = sym (first_none (faulty base (program ls)) (decls_of ls) (λ d l. faultless d (h d l))) in
      sym (fault_refusal ls base [] (decls_of ls) e ∙ rw (le-ltb (decls_of ls) (decls_of ls) (omega arith)) refl)

  pub refused_at : (code d place : ℕ) → FaultAt ls code d → place ≡ start ls d → Refused code place ≡ refusal (faults_row base ls ∷ [])
  refused_at code d place f e =
      let q : d ≡ first (faulty base (program ls)) (decls_of ls) =
      place_unique (faulty base (program ls)) (decls_of ls) d (first (faulty base (program ls)) (decls_of ls))
      (record { within = omega (arith, f.inside); holds = λ l. faults d (λ z. f.any (f.is ∙ z)); before = λ i l. faultless i (f.before i l) })
      (first_place (faulty base (program ls)) (decls_of ls)) in
      sym (fault_refusal ls base [] d q ∙ rw (lt-ltb d (decls_of ls) f.inside, sym f.is, sym e) refl)

  pub fault_inside : (code d : ℕ) → FaultAt ls code d → d ≤ decls_of ls
  fault_inside code d f = omega (arith, f.inside)
