-- From the rows one after the other to what a call gives. Assumes nothing.
use Rattle.std.specs.Prelude.{◌≡◌, List, [], ◌∷◌, Bool, ℕ, ◌≤◌, ◌<◌, ltb, length}
use Rattle.std.proofs.Math.Path.{refl, ap}
use Rattle.std.proofs.Common.{sym, ◌∙◌, lt-ltb, le-ltb}
use Rattle.std.proofs.Math.Bool.{true, false}
use native.Mathlib.Omega.{arith}
use Rattle.sheet.specs.Format.{base}
use Rattle.sheet.specs.Sheet.{first, count, lines}
use Rattle.model.specs.Run.{run}
use Rattle.meaning.specs.Program.{program}
use Rattle.answer.specs.declared.Refusal.{Refusal}
use Rattle.answer.specs.declared.Refusal.TheVariants.{Accepted, Refused}
use Rattle.answer.specs.Answer.{Given, line_row, whole_row, row8, row9_10, fault_at, sheet_rows, program_rows, input_refusal, output_rows, rows, refusal, verdict_sheet, left_sheet, Answer, answered, answer, after, called}
use Rattle.answer_laws.specs.Answer.{or_later, refusal_append}
use Rattle.answer_built.specs.declared.Built.{Built}
use Rattle.answer_patterns.specs.Whole as whole
use Rattle.answer_patterns.specs.Whole.{front, tail}
use Rattle.answer_pattern_laws.specs.Parts.{NoPattern}
use Rattle.answer_pattern_laws.specs.Plain.{answer_plain, called_plain}
use Rattle.answer_pattern_laws.specs.Rows.{answer_refused, answer_accepted, called_refused, called_accepted}
use Rattle.answer_built.specs.Built.{refused_as, given, Gives, GivesFront}

-- ---- the rows
-- rows 8, and 9 and 10, by themselves
abbrev pub row8_alone : List ℕ → Refusal
row8_alone b = refusal (line_row 8 (count 6 b) (row8 (program (lines 6 b)) (lines 6 b)) ∷ [])

abbrev pub faults_alone : List ℕ → Refusal
faults_alone b =
    refusal (record { bound = count 6 b; test = row9_10 base (program (lines 6 b)) (lines 6 b); code = fault_at base (program (lines 6 b)) (lines 6 b); place = λ i. i } ∷ [])

-- the length of the left sheet
abbrev pub needed : List ℕ → ℕ
needed b = length (left_sheet base (lines 6 b))

program_is : (b : List ℕ) → refusal (program_rows base b) ≡ or_later (row8_alone b) (faults_alone b)
unfolding program_rows
program_is b =
    refusal_append (line_row 8 (count 6 b) (row8 (program (lines 6 b)) (lines 6 b)) ∷ [])
    (record { bound = count 6 b; test = row9_10 base (program (lines 6 b)) (lines 6 b); code = fault_at base (program (lines 6 b)) (lines 6 b); place = λ i. i } ∷ [])

input_is : (b : List ℕ) → input_refusal base b ≡ or_later (refusal (sheet_rows base b)) (or_later (row8_alone b) (faults_alone b))
input_is b = refusal_append (sheet_rows base b) (program_rows base b) ∙ ap (or_later (refusal (sheet_rows base b))) (program_is b)

module _ (b : List ℕ) (v l : ℕ) where
  rows_are : refusal (rows base b v l) ≡ or_later (input_refusal base b) (refusal (output_rows base b v l))
  rows_are = refusal_append _ (output_rows base b v l)

  module _ (input : input_refusal base b ≡ Accepted) where
    past_input : refusal (rows base b v l) ≡ refusal (output_rows base b v l)
    past_input = rows_are ∙ rw input

    output_is : refusal (output_rows base b v l) ≡ or_later (elim (ltb v (length b)) [ true ↦ Refused 11 (length b) | false ↦ Accepted ]) (or_later (elim (ltb l (needed b)) [ true ↦ Refused 12 (needed b) | false ↦ Accepted ]) Accepted)
    unfolding output_rows refusal first
    output_is = go (ltb v (length b)) (ltb l (needed b))
      where
        go : (x y : Bool) → refusal (whole_row 11 (length b) x ∷ whole_row 12 (needed b) y ∷ []) ≡ or_later (elim x [ true ↦ Refused 11 (length b) | false ↦ Accepted ]) (or_later (elim y [ true ↦ Refused 12 (needed b) | false ↦ Accepted ]) Accepted)
        go true y = refl
        go false true = refl
        go false false = refl

    pub front_eleven : v < length b → refusal (rows base b v l) ≡ Refused 11 (length b)
    front_eleven h = past_input ∙ (output_is ∙ rw (lt-ltb v (length b) h))

    pub rows_twelve : length b ≤ v → l < needed b → refusal (rows base b v l) ≡ Refused 12 (needed b)
    rows_twelve h k = past_input ∙ (output_is ∙ rw (le-ltb v (length b) h, lt-ltb l (needed b) k))

    pub rows_none : length b ≤ v → needed b ≤ l → refusal (rows base b v l) ≡ Accepted
    rows_none h k = past_input ∙ (output_is ∙ rw (le-ltb v (length b) h, le-ltb l (needed b) k))

pub front_input : (b : List ℕ) → refusal (sheet_rows base b) ≡ Accepted → row8_alone b ≡ Accepted → faults_alone b ≡ Accepted → input_refusal base b ≡ Accepted
front_input b s e f = input_is b ∙ rw (s, e, f)

-- ---- what a call gives
-- of the declarations alone
module _ (b v l : List ℕ) where
  pub front_refused : (code place : ℕ) → place ≤ 1000000000000 → refusal (rows base b (length v) (length l)) ≡ Refused code place → GivesFront b v l (refused_as code place) v l
  unfolding called answer answered
  front_refused code place h e = record { is_called = rw e; verdict_length = rw e; left_length = rw e; small = h }

  pub front_accepted : (rounds : ℕ) (v' l' : List ℕ) → refusal (rows base b (length v) (length l)) ≡ Accepted → rounds ≡ (run 100 (program (lines 6 b))).rounds
      → v' ≡ after (verdict_sheet base (lines 6 b)) v → l' ≡ after (left_sheet base (lines 6 b)) l
      → GivesFront b v l (record { code = 0; place = 0; rounds = rounds; verdict = length (verdict_sheet base (lines 6 b)); left = needed b }) v' l'
  unfolding called answer answered
  front_accepted rounds v' l' e r p q = record { is_called = rw (e, r, p, q); verdict_length = rw e; left_length = rw e; small = omega arith }

-- and read back, where no row that looks at no output applies, nor row 11
pub record FrontTwelve (b v l : List ℕ) (r : Built) (v' l' : List ℕ) : Type 0 where
  pub code_is : r.code ≡ 12
  pub place_is : r.place ≡ needed b
  pub verdict_kept : v' ≡ v
  pub left_kept : l' ≡ l

pub record FrontNone (b v l : List ℕ) (r : Built) (v' l' : List ℕ) : Type 0 where
  pub code_is : r.code ≡ 0
  pub rounds_are : r.rounds ≡ (run 100 (program (lines 6 b))).rounds
  pub left_is : r.left ≡ needed b
  pub verdict_written : v' ≡ after (verdict_sheet base (lines 6 b)) v
  pub left_written : l' ≡ after (left_sheet base (lines 6 b)) l

module _ (b v l : List ℕ) (r : Built) (v' l' : List ℕ) (g : GivesFront b v l r v' l') (input : input_refusal base b ≡ Accepted) (long : length b ≤ length v) where
  pub front_twelve : length l < needed b → FrontTwelve b v l r v' l'
  unfolding called answer answered
  front_twelve h =
      let e : given r v' l' ≡ record { code = 12; place = needed b; rounds = 0; verdict_output = v; left_output = l } = g.is_called ∙ rw (rows_twelve b (length v) (length l) input long h) in
      record {
        code_is = ap (λ (x : Given). x.code) e;
        place_is = ap (λ (x : Given). x.place) e;
        verdict_kept = ap (λ (x : Given). x.verdict_output) e;
        left_kept = ap (λ (x : Given). x.left_output) e;
      }

  pub front_none : needed b ≤ length l → FrontNone b v l r v' l'
  unfolding called answer answered
  front_none h =
      let a = rows_none b (length v) (length l) input long h in
      let e : given r v' l'
      ≡ record {
        code = 0;
        place = 0;
        rounds = (run 100 (program (lines 6 b))).rounds;
        verdict_output = after (verdict_sheet base (lines 6 b)) v;
        left_output = after (left_sheet base (lines 6 b)) l;
      } = g.is_called ∙ rw a in
      record {
        code_is = ap (λ (x : Given). x.code) e;
        rounds_are = ap (λ (x : Given). x.rounds) e;
        left_is = g.left_length ∙ rw a;
        verdict_written = ap (λ (x : Given). x.verdict_output) e;
        left_written = ap (λ (x : Given). x.left_output) e;
      }

-- of a sheet that may end in a pattern
module _ (b a z v l : List ℕ) (at_front : front 6 b ≡ a) (at_tail : tail 6 b ≡ z) where
  pub gives_refused : (code place : ℕ) → refusal (whole.rows base b (length v) (length l)) ≡ Refused code place → Gives b v l (refused_as code place) v l
  gives_refused code place e =
      let x = answer_refused base b a z at_front at_tail (length v) (length l) code place e in
      record {
        is_called = sym (called_refused base b a z at_front at_tail v l code place e);
        verdict_length = ap (λ (y : Answer). length y.verdict) (sym x);
        left_length = ap (λ (y : Answer). length y.left) (sym x);
      }

  pub gives_accepted : (rounds verdict left : ℕ) (v' l' : List ℕ) → refusal (whole.rows base b (length v) (length l)) ≡ Accepted → rounds ≡ (run 100 (program (lines 6 a))).rounds
      → v' ≡ after (whole.verdict_sheet base (lines 6 a) (lines 6 z)) v → l' ≡ after (whole.left_sheet base (lines 6 a) (lines 6 z)) l
      → verdict ≡ length (whole.verdict_sheet base (lines 6 a) (lines 6 z)) → left ≡ length (whole.left_sheet base (lines 6 a) (lines 6 z))
      → Gives b v l (record { code = 0; place = 0; rounds = rounds; verdict = verdict; left = left }) v' l'
  gives_accepted rounds verdict left v' l' e r p q m n =
      let x = answer_accepted base b a z at_front at_tail (length v) (length l) e in
      record {
        is_called = rw (r, p, q) (sym (called_accepted base b a z at_front at_tail v l e));
        verdict_length = m ∙ ap (λ (y : Answer). length y.verdict) (sym x);
        left_length = n ∙ ap (λ (y : Answer). length y.left) (sym x);
      }

-- without a pattern the two are one
pub gives_plain : (b v l : List ℕ) (r : Built) (v' l' : List ℕ) → NoPattern 6 b → GivesFront b v l r v' l' → Gives b v l r v' l'
gives_plain b v l r v' l' n g =
    let x = answer_plain base b (length v) (length l) n in
    record {
      is_called = g.is_called ∙ sym (called_plain base b v l n);
      verdict_length = g.verdict_length ∙ ap (λ (y : Answer). length y.verdict) (sym x);
      left_length = g.left_length ∙ ap (λ (y : Answer). length y.left) (sym x);
    }
