-- Flags by the tables, line after line. Assumes nothing.
use Rattle.std.specs.Prelude.{◌≡◌, List, length, get_or, set}
use Rattle.std.proofs.Math.Path.{ap}
use Rattle.std.proofs.Common.{sym, ◌∙◌, get_or-set_same, get_or-set_other}
use Prim.Native.Nat.{ℕ, suc, ◌+◌, ◌-◌, ◌<◌}
use native.Mathlib.Omega.{arith}
use Rattle.sheet.specs.Line.{Line}
use Rattle.model_laws.specs.Rounds.{cases_eq}
use Rattle.meaning.specs.Rows.{nth_line}
use Rattle.meaning_patterns.specs.Patterns.{previous_of, field_of}
use Rattle.pattern_flags.specs.Flags.{part_flag, flag_at, FlagsTo}

module _ (ls : List Line) (keep u m : List ℕ) (qs : List Line) (own place gs : List ℕ) where
  pub flags_none : FlagsTo ls keep u m qs own place gs 0
  flags_none = record { flag = λ i l. absurd (omega arith) }

  pub flags_next : (n x : ℕ) → n < length gs → x ≡ flag_at ls keep u m qs (get_or own n 0) (get_or place n 0) n → FlagsTo ls keep u m qs own place gs n → FlagsTo ls keep u m qs own place (set gs n x) (n + 1)
  flags_next n x h e p = record { flag = λ i l. cases_eq i n (λ z. rw z (get_or-set_same gs n x 0 h ∙ e)) (λ z. get_or-set_other gs n i x 0 z ∙ p.flag i (omega arith)) }

-- ---- by the owner
module _ (ls : List Line) (keep u m : List ℕ) (qs : List Line) (own place i : ℕ) where
  pub flag_none : own ≡ 0 → 0 ≡ flag_at ls keep u m qs own place i
  unfolding flag_at
  flag_none e = rw e

  pub flag_some : (own ≡ 0 → ⊥) → part_flag ls keep u m qs (own - 1) place (previous_of (nth_line qs i)) (field_of (nth_line qs i)) ≡ flag_at ls keep u m qs own place i
  unfolding flag_at
  flag_some h = let e : own ≡ suc (own - 1) = omega arith in ap (λ (o : ℕ). flag_at ls keep u m qs o place i) (sym e)
