-- `form_ranks::form_at` meets its contract: a declaration that is not unfolded is passed.
use Rattle.std.proofs.Common.{◌≡◌, ℕ, ◌*◌, ◌≤◌, ◌<◌, arith}
use Rattle.sheet.proofs.ListLaws.{get_or_within}
use Rattle.keep_layouts.specs.States.{Open}
use Rattle.table_access.specs.Tables.{lines_in}
use Rattle.form_normal.specs.RanksLaws.{asked_body, reached_same, reached_more}
use Rattle.form_ranks.proofs.form_at.Goals as goal

-- a state that is 0, or over 2
closed : (x y : ℕ) → x ≡ y → x ≡ 0 → 0 < y → ⊥
closed x y e z h = omega arith

over : (x y : ℕ) → x ≡ y → 2 < x → y ≤ 2 → ⊥
over x y e z h = omega arith

positive : (x y : ℕ) → x ≡ y → (x ≡ 0 → ⊥) → 0 < y
positive x y e n = omega arith

pub bounds-u-d : goal.bounds-u-d
bounds-u-d c = omega (arith, c.requires.ranked.0.long, c.requires.ranked.1)

pub returns-then-x-eq0 : goal.returns-then-x-eq0
returns-then-x-eq0 c =
    let a = c.args in
    let p = c.requires.ranked in
    reached_same (lines_in a.t.now) a.t.now a.u.now a.rank.now p.0 a.r a.d p.1 a.f.now a.pos _ (λ o q. closed _ _ (get_or_within a.u.now (2 * a.d) 0 3 (omega (arith, p.0.long, p.1))) c.if-x-eq0.true o.0) p.2

pub returns-then-x-gt2 : goal.returns-then-x-gt2
returns-then-x-gt2 c =
    let a = c.args in
    let p = c.requires.ranked in
    reached_same (lines_in a.t.now) a.t.now a.u.now a.rank.now p.0 a.r a.d p.1 a.f.now a.pos _ (λ o q. over _ _ (get_or_within a.u.now (2 * a.d) 0 3 (omega (arith, p.0.long, p.1))) c.if-x-gt2.true o.1) p.2

pub normal_form-requires : goal.normal_form-requires
normal_form-requires c =
    let a = c.args in
    let p = c.requires.ranked in
    let o : Open a.u.now a.d = (positive _ _ (get_or_within a.u.now (2 * a.d) 0 3 (omega (arith, p.0.long, p.1))) c.if-x-eq0.false, omega (arith, c.if-x-gt2.false, get_or_within a.u.now (2 * a.d) 0 3 (omega (arith, p.0.long, p.1)))) in
    (asked_body (lines_in a.t.now) a.t.now a.u.now a.rank.now p.0 a.f.now a.pos _ a.d p.2 p.1 o, omega (arith, p.0.long, p.1), p.2.head, p.2.room)

pub returns : goal.returns
returns c =
    let a = c.args in
    let p = c.requires.ranked in
    let o : Open a.u.now a.d = (positive _ _ (get_or_within a.u.now (2 * a.d) 0 3 (omega (arith, p.0.long, p.1))) c.if-x-eq0.false, omega (arith, c.if-x-gt2.false, get_or_within a.u.now (2 * a.d) 0 3 (omega (arith, p.0.long, p.1)))) in
    reached_more (lines_in a.t.now) a.t.now a.u.now a.rank.now p.0 a.r a.d p.1 a.f.now _ a.pos _ _ o c.requires.of_rank p.2 c.normal_form.ensures
