-- `rows_patterns::check` meets its contract, test by test. Assumes nothing.
use mathlib.Core.Path.{◌≡◌, refl, ap, sym, ◌∙◌}
use mathlib.Core.Bool.{not}
use Prim.Native.Nat.{ℕ}
use native.Mathlib.Omega.{arith}
use borrow.Author.Rules.{rules}
use Rattle.sheet.specs.Sheet.{first, count, lines}
use Rattle.meaning.specs.Program.{is}
use Rattle.meaning.specs.Rows.{raw}
use Rattle.meaning_patterns.specs.Patterns.{pattern_line}
use Rattle.answer_pattern_laws.specs.Refusals.{code_of}
use Rattle.pattern_rows.specs.Links as links
use Rattle.rows_patterns.specs.KeptLaws.{none_at, kept_refused, places, patterned, at_three, at_order, at_four, at_limit, at_five, at_pattern, at_rest}
use Rattle.rows_patterns.proofs.check.Statement.{statement}
use Rattle.rows_patterns.proofs.check.Tie as tie

-- ---- the start, from where a test does not refuse
abbrev start1 : tie.Else-code-eq3 → tie.Start
start1 c = c.before.before.before.before.before

abbrev start2 : tie.Else-other-k → tie.Start
start2 c = start1 c.before.before

abbrev start3 : tie.Else-code-eq4 → tie.Start
start3 c = start2 c.before

abbrev start4 : tie.Else-k-gt-PATTERNS → tie.Start
start4 c = start3 c.before

abbrev start5 : tie.Else-code-eq5 → tie.Start
start5 c = start4 c.before

-- ---- what each test leaves
not_three : (c : tie.Else-code-eq3) → code_of (start1 c).args.front ≡ 3 → ⊥
not_three c h = c.if-code-eq3.false (c.code_of-code.ensures ∙ h)

letters : (c : tie.Else-other-k) → (let z = (start2 c).args.z.now in first (λ i. not (is pattern_line (raw 6 z i))) (count 6 z) ≡ count 6 z)
letters c = let z = (start2 c).args.z.now in none_at (λ i. not (is pattern_line (raw 6 z i))) (count 6 z) c.first_other-other.result c.first_other-other.ensures c.if-other-k.false

not_four : (c : tie.Else-code-eq4) → code_of (start3 c).args.front ≡ 4 → ⊥
not_four c h = c.if-code-eq4.false (c.code_of-code.ensures ∙ h)

not_five : (c : tie.Else-code-eq5) → code_of (start5 c).args.front ≡ 5 → ⊥
not_five c h = c.if-code-eq5.false (c.code_of-code.ensures ∙ h)

-- ---- sums
add-t13 : tie.Need-overflow_add-result
add-t13 c = let p = start1 c.before.before in omega (arith, places p.args.a.now p.args.z.now p.requires.0.0 p.requires.0.1 p.requires.0.2)

add-t14 : tie.Need-overflow_add-result-then-k-gt-PATTERNS
add-t14 c = let p = start3 c.before in omega (arith, places p.args.a.now p.args.z.now p.requires.0.0 p.requires.0.1 p.requires.0.2)

add-t17 : tie.Need-overflow_add-result-then-outside-k
add-t17 c = let p = start5 c.before.before.before.before.before.before in omega (arith, places p.args.a.now p.args.z.now p.requires.0.0 p.requires.0.1 p.requires.0.2)

-- ---- the answers before the cells are written
returns : tie.Need-returns-then-code-eq3
returns c =
    let p = c in
    let h = sym c.code_of-code.ensures ∙ c.if-code-eq3.true in (
      at_three p.args.a.now p.args.z.now p.requires.0.0 p.requires.0.1 p.requires.0.2 p.args.front p.requires.1.0 h,
      kept_refused p.args.a.now p.args.z.now p.args.q.now _ p.args.front 2 refl h,
    )

returns-2 : tie.Need-returns-then-other-k
returns-2 c =
    let b = c in
    let p = start1 b.before.before in (
      at_order p.args.a.now p.args.z.now p.requires.0.0 p.requires.0.1 p.requires.0.2 p.args.front p.requires.1.0 (not_three b.before.before) c.first_other-other.result c.first_other-other.ensures c.if-other-k.true,
      kept_refused p.args.a.now p.args.z.now p.args.q.now _ _ 2 refl refl,
    )

returns-3 : tie.Need-returns-then-code-eq4
returns-3 c =
    let b = c in
    let p = start2 b.before in
    let h = sym b.code_of-code.ensures ∙ c.if-code-eq4.true in (
      at_four p.args.a.now p.args.z.now p.requires.0.0 p.requires.0.1 p.requires.0.2 p.args.front p.requires.1.0 (not_three b.before.before.before) (letters b.before) h,
      kept_refused p.args.a.now p.args.z.now p.args.q.now _ p.args.front 3 refl h,
    )

returns-4 : tie.Need-returns-then-k-gt-PATTERNS
returns-4 c =
    let b = c in
    let p = start3 b.before in (
      at_limit p.args.a.now p.args.z.now p.requires.0.0 p.requires.0.1 p.requires.0.2 p.args.front p.requires.1.0 (not_three b.before.before.before.before) (letters b.before.before) (not_four b.before) c.if-k-gt-PATTERNS.true,
      kept_refused p.args.a.now p.args.z.now p.args.q.now _ _ 3 refl refl,
    )

returns-5 : tie.Need-returns-then-code-eq5
returns-5 c =
    let b = c in
    let p = start4 b.before in
    let d = b in
    let h = sym d.code_of-code.ensures ∙ c.if-code-eq5.true in (
      at_five p.args.a.now p.args.z.now p.requires.0.0 p.requires.0.1 p.requires.0.2 p.args.front p.requires.1.0 (not_three d.before.before.before.before.before) (letters d.before.before.before) (not_four d.before.before) b.if-k-gt-PATTERNS.false h,
      kept_refused p.args.a.now p.args.z.now p.args.q.now _ p.args.front 4 refl h,
    )

-- ---- row 5 of the Q lines
first-outside-requires : tie.Need-first_outside-outside-requires
first-outside-requires c κs =
    let b = c in
    let p = start5 b.before.before in
    let d = b in (
      patterned p.args.a.now p.args.z.now p.requires.0.0 p.requires.0.1 p.requires.0.2 p.args.front p.requires.1.0 (not_three d.before.before.before.before.before.before.before) (letters d.before.before.before.before.before) (not_four d.before.before.before.before) b.if-k-gt-PATTERNS.false,
      p.requires.1.1,
    )

returns-6 : tie.Need-returns-then-outside-k
returns-6 c =
    let o = c in
    let m = o in
    let b = m in
    let p = start5 b.before.before.before.before.before.before in
    let d = b in
    let y = o.first_outside-outside.ensures in
    let e = y.0.place ∙ ap (λ (n : ℕ). first (links.row5 n (lines 6 p.args.z.now)) (count 6 p.args.z.now)) m.names_of-names.ensures in (
      at_pattern p.args.a.now p.args.z.now p.requires.0.0 p.requires.0.1 p.requires.0.2 p.args.front p.requires.1.0 (not_three d.before.before.before.before.before.before.before.before.before.before.before) (letters d.before.before.before.before.before.before.before.before.before) (not_four d.before.before.before.before.before.before.before.before) b.if-k-gt-PATTERNS.false
          (not_five b.before.before.before.before.before.before) o.first_outside-outside.result e c.if-outside-k.true,
      kept_refused p.args.a.now p.args.z.now p.args.q.now _ _ 4 y.1 refl,
    )

returns-7 : tie.Need-returns
returns-7 c =
    let o = c in
    let m = o in
    let b = m in
    let p = start5 b.before.before.before.before.before.before in
    let d = b in
    let y = o.first_outside-outside.ensures in
    at_rest p.args.a.now p.args.z.now p.requires.0.0 p.requires.0.1 p.requires.0.2 p.args.front p.requires.1.0 (not_three d.before.before.before.before.before.before.before.before.before.before.before) (letters d.before.before.before.before.before.before.before.before.before) (not_four d.before.before.before.before.before.before.before.before) b.if-k-gt-PATTERNS.false
    m.names_of-names.result o.first_outside-outside.result p.args.q.now _ m.names_of-names.ensures y.0 c.if-outside-k.false y.1

pub check_spec : {M : Type 1} → statement M
check_spec =
    tie.close
    (tie.spec
    (λ c κs. search rules)
    returns
    (λ c κs. search rules)
    add-t13
    returns-2
    returns-3
    add-t14
    returns-4
    returns-5
    (λ c κs. (start5 c).requires.0.2)
    first-outside-requires
    add-t17
    (λ c. search rules)
    returns-6
    (λ c. search rules)
    returns-7)
