-- When a declaration is a candidate, by its lines and its mark. Assumes nothing.
use Rattle.std.specs.Prelude.{◌≡◌, List, Bool, not, ℕ, ◌+◌, ◌/◌, ◌%◌, ◌<◌, eqb, length, get_or, set, Some, None}
use Rattle.std.specs.Prelude as prelude
use Rattle.std.proofs.Math.Path.{refl}
use Rattle.std.proofs.Common.{ap, sym, ◌∙◌, arith, length-set, get_or-set_same, get_or-set_other}
use Rattle.std.proofs.Math.Bool.{true, false}
use Rattle.std.proofs.Math.Option.{Option, none}
use borrow.Author.Tests.{ne_eqb, lt-ltb, le-ltb}
use Rattle.number_columns.specs.Column.{pick}
use Rattle.sheet.specs.Line.{Line, number}
use Rattle.model.specs.Decl.{close_fields, has_flag, NoNewtype, NewtypeLayout, dtype_at}
use Rattle.model.specs.Erasure.{erasure_fixpoint, marked}
use Rattle.model.specs.Layout.{candidate, newtype_of}
use Rattle.model_laws.specs.Layout.{candidate_at, get_or_candidates}
use Rattle.model_laws.specs.Rounds.{cases_eq}
use Rattle.meaning.specs.Program.{field_line, import_line, is, dtype_of, program}
use Rattle.meaning.specs.Rows.{count_of}
use Rattle.meaning_laws.specs.Program.{length_program}
use Rattle.table_declared.specs.Passed.{Passed}
use Rattle.table_access.specs.Tables.{head_line, decls_of}
use Rattle.table_declared.specs.DeclLaws.{dtype_is, origin_local, origin_import}
use Rattle.table_declared.specs.PassedLaws.{fields_few}
use Rattle.erasure_marks.specs.Marks.{marks_of}
use Rattle.erasure_marks.specs.MarksLaws.{marks_at}
use Rattle.keep_layouts.specs.Kept.{ctors_of_decl, ctors_at}
use Rattle.collapse_newtypes.specs.Newtypes.{only_told}
use Rattle.collapse_candidates.specs.Candidates.{candidate_of, Sole, no_field, number_of, field_told, Candidate, Partly, Fields}

-- ---- declaration d
-- its mark
pub mark_is : (ls : List Line) (d : ℕ) (decl : List ℕ) → marks_of decl ≡ (erasure_fixpoint (program ls)).marks → get_or (erasure_fixpoint (program ls)).marks d false ≡ eqb (get_or decl d 0) 1
mark_is ls d decl m = ap (λ (s : List Bool). get_or s d false) (sym m) ∙ marks_at decl d

module _ (ls : List Line) (d : ℕ) (h : d < decls_of ls) where
  at : candidate_of ls d ≡ candidate_at (program ls) (marked (program ls) (erasure_fixpoint (program ls)).marks) (erasure_fixpoint (program ls)).marks d
  at = get_or_candidates (program ls) (marked (program ls) (erasure_fixpoint (program ls)).marks) (erasure_fixpoint (program ls)).marks d none (rw (length_program ls) h)

  -- an import is none,
  pub import_none : is import_line (head_line ls d) ≡ true → candidate_of ls d ≡ none
  unfolding candidate
  import_none e = at ∙ rw (origin_import ls d h e)

  module _ (decl : List ℕ) (m : marks_of decl ≡ (erasure_fixpoint (program ls)).marks) (e : is import_line (head_line ls d) ≡ false) where
    flag_is : has_flag (dtype_at (program ls) d) NoNewtype ≡ eqb (number (head_line ls d) 1 / 4 % 2) 1
    unfolding has_flag close_fields dtype_of
    flag_is = rw (dtype_is ls d h)

    -- an erased declaration is none,
    pub erased_none : get_or decl d 0 ≡ 1 → candidate_of ls d ≡ none
    unfolding candidate
    erased_none q = at ∙ rw (origin_local ls d h e, mark_is ls d decl m, q)

    -- and any other is by its flags and its kept fields
    pub by_flag : (get_or decl d 0 ≡ 1 → ⊥) → (n : ℕ) → n ≡ number (head_line ls d) 1 → candidate_of ls d ≡ pick (not (eqb (n / 4 % 2) 1)) (newtype_of (ctors_at (program ls) d)) none
    unfolding candidate ctors_of_decl
    by_flag k n q = at ∙ rw (origin_local ls d h e, mark_is ls d decl m, ne_eqb (get_or decl d 0) 1 k, flag_is, q) (go (eqb (number (head_line ls d) 1 / 4 % 2) 1) _)
      where
        go : (x : Bool) (o : Option NewtypeLayout) → pick x none o ≡ pick (not x) o none
        go true o = refl
        go false o = refl

-- ---- by numbers
module _ (ls : List Line) (p : Passed ls) (d : ℕ) where
  pub none_told : candidate_of ls d ≡ none → Candidate ls d no_field
  unfolding field_told
  none_told e =
      let l = fields_few ls p in
      record { told = e ∙ rw (le-ltb no_field (count_of field_line ls) (omega arith)); named = λ n. absurd (n refl); one = λ h. absurd (omega arith) }

  -- where it may not collapse
  pub kept_whole : (c : Bool) → c ≡ false → candidate_of ls d ≡ pick c (newtype_of (ctors_at (program ls) d)) none → Candidate ls d no_field
  kept_whole c e q = none_told (q ∙ rw e)

  -- by the only kept field
  pub only_told_by : (r : prelude.Option ℕ) (f : ℕ) → newtype_of (ctors_at (program ls) d) ≡ only_told ls d r → ((g : ℕ) → r ≡ Some g → Sole ls d g)
      → candidate_of ls d ≡ newtype_of (ctors_at (program ls) d) → f ≡ number_of r → Candidate ls d f
  unfolding field_told only_told number_of
  only_told_by None f e g q z = rw z (none_told (q ∙ e))
  only_told_by (Some x) f e g q z =
      rw z
      (let k = g x refl in
      record { told = q ∙ e ∙ rw (lt-ltb x (count_of field_line ls) k.0); named = λ n. k.0; one = λ h. k.2 })

  -- the only kept field fits
  pub only_small : (r : prelude.Option ℕ) → ((g : ℕ) → r ≡ Some g → Sole ls d g) → (f : ℕ) → r ≡ Some f → f < 65536
  only_small r g f e = omega (arith, (g f e).0, fields_few ls p)

-- ---- one declaration after the other
pub partly_none : (ls : List Line) (fields : List ℕ) → length fields ≡ decls_of ls → Partly ls fields 0
partly_none ls fields e = record { long = e; each = λ d l. absurd (omega arith) }

pub partly_next : (ls : List Line) (fields : List ℕ) (n f : ℕ) → n < decls_of ls → Candidate ls n f → Partly ls fields n → Partly ls (set fields n f) (n + 1)
partly_next ls fields n f h c p =
    record {
      long = length-set fields n f ∙ p.long;
      each = λ d l. cases_eq d n
          (λ q. rw (q, get_or-set_same fields n f 0 (omega (arith, p.long))) c)
          (λ o. rw (get_or-set_other fields n d f 0 o) (p.each d (omega arith)));
    }

pub partly_all : (ls : List Line) (fields : List ℕ) (n : ℕ) → n ≡ decls_of ls → Partly ls fields n → Fields ls fields
partly_all ls fields n e p = record { long = p.long; each = λ d l. p.each d (omega arith) }
