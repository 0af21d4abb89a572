-- `form_tables::ranked` meets its contract: after r turns the forms of the ranks below r are there. Assumes nothing.
use mathlib.Core.Path.{◌≡◌, refl, sym, subst, ◌∙◌}
use Prim.Native.Nat.{ℕ, ◌-◌, ◌*◌, ◌≤◌}
use native.Mathlib.Omega.{arith}
use lib.ListN.{length}
use Rattle.table_access.specs.Tables.{lines_in}
use Rattle.form_normal.specs.Tables.{Table}
use Rattle.form_normal.specs.Ranks.{Done}
use Rattle.form_normal.specs.RanksLaws.{first_table, next_rank, formed_stop, formed_done}
use Rattle.form_tables.specs.Bounded.{within}
use borrow.Author.Rules.{rules}
use Rattle.table_declared.specs.PassedLaws.{decls_few}
use Rattle.form_tables.proofs.ranked.Statement.{statement}
use Rattle.form_tables.proofs.ranked.Tie as tie

abbrev invariant-loop : tie.invariant-loop-r
invariant-loop t u rank start end f₀ scratch₀ n p₀ r₀ f scratch p r =
    (r ≤ n) × (length f ≡ length f₀) × (length scratch ≡ length scratch₀) × Table (lines_in t) u f p (Done (lines_in t) u rank r 0)

abbrev decreases-loop : tie.decreases-loop-r
decreases-loop t u rank start end f₀ scratch₀ n p₀ r₀ f scratch p r = n - r

decls-requires : tie.Need-decls-n-requires invariant-loop decreases-loop
decls-requires c κs = c.requires.0.0.tabled

mul-clear : tie.Need-overflow_mul-n invariant-loop decreases-loop
mul-clear c = omega (arith, c.decls-n.ensures, decls_few (lines_in c.args.t.now) c.requires.0.0.tabled.passed)

clear-requires : tie.Need-clear-requires invariant-loop decreases-loop
clear-requires c κs = omega (arith, c.decls-n.ensures, c.requires.0.1)

mul-p : tie.Need-overflow_mul-p invariant-loop decreases-loop
mul-p c = omega (arith, c.decls-n.ensures, decls_few (lines_in c.args.t.now) c.requires.0.0.tabled.passed)

loop-holds : tie.Need-loop-r-init invariant-loop decreases-loop
loop-holds c =
    let a = c.args in
    let p = c.requires in
    let e = c.decls-n.ensures in
    let l : length c.clear.new.f ≡ length a.f.now = search rules in (
      omega arith,
      refl,
      refl,
      subst (λ (i : ℕ). Table (lines_in a.t.now) a.u.now c.clear.new.f (2 * i) (Done (lines_in a.t.now) a.u.now a.rank.now 0 0)) (sym e)
          (first_table (lines_in a.t.now) a.t.now a.u.now a.rank.now p.0.0 c.clear.new.f (omega (arith, l, p.0.1)) (λ i h. c.clear.ensures i (omega (arith, e)))),
    )

forms-of-rank-requires : tie.Need-forms_of_rank-p-requires invariant-loop decreases-loop
forms-of-rank-requires c κs =
    let a = c.args in
    let p = c.requires in
    let q = c.loop-r-test.true in
    let e = c.decls-n.ensures in
    ((p.0.0, c.loop-r.invariant.3), within a.rank.now _ _ a.start.now a.end.now p.1.0.0 p.1.0.1 p.0.0.ranks (omega (arith, q, e, p.1.1.0)) (omega (arith, q, e, p.1.1.1)))

returns : tie.Need-returns-then-p-f invariant-loop decreases-loop
returns c =
    let a = c.args in
    let p = c.requires in
    let s = c.loop-r in
    let x = c.forms_of_rank-p.ensures in
    let l : length s.f ≡ length a.f.now = search rules in
    formed_stop (lines_in a.t.now) a.t.now a.u.now a.rank.now p.0.0 s.r _ _ _ a.f.now _ _ _ l s.invariant.2 (omega (arith, c.if-p-f.true, x.same, l)) x

loop-again : tie.Need-loop-r-preserved invariant-loop decreases-loop
loop-again c =
    let a = c.args in
    let p = c.requires in
    let s = c.loop-r in
    let x = c.forms_of_rank-p.ensures in
    (omega (arith, c.loop-r-test.true), x.same ∙ s.invariant.1, search rules, next_rank (lines_in a.t.now) a.t.now a.u.now a.rank.now p.0.0 s.r _ _ (x.table (omega (arith, c.if-p-f.false, x.same))))

returns-2 : tie.Need-returns invariant-loop decreases-loop
returns-2 c =
    let a = c.args in
    let p = c.requires in
    let s = c.loop-r in
    let l : length s.f ≡ length a.f.now = search rules in
    formed_done (lines_in a.t.now) a.t.now a.u.now a.rank.now p.0.0 _ a.f.now s.f s.r s.p (omega (arith, c.loop-r-test.false, s.invariant.0, c.decls-n.ensures)) l s.invariant.3

pub ranked_spec : {M : Type 1} → statement M
ranked_spec =
    tie.close
    (tie.spec
    invariant-loop
    decreases-loop
    decls-requires
    mul-clear
    clear-requires
    mul-p
    loop-holds
    (λ c. omega (arith, c.loop-r-test.true, c.decls-n.ensures, decls_few (lines_in c.args.t.now) c.requires.0.0.tabled.passed))
    (λ c. omega (arith, c.loop-r-test.true, c.decls-n.ensures, c.requires.1.1.0))
    (λ c. omega (arith, c.shared_slice_known-in-loop-r-1.given c.loop-r.r))
    (λ c. omega (arith, c.loop-r-test.true, c.decls-n.ensures, decls_few (lines_in c.args.t.now) c.requires.0.0.tabled.passed))
    (λ c. omega (arith, c.loop-r-test.true, c.decls-n.ensures, c.requires.1.1.1))
    (λ c. omega (arith, c.shared_slice_known-in-loop-r-2-1.given c.loop-r.r))
    forms-of-rank-requires
    (λ c. search rules)
    (λ c. search rules)
    returns
    (λ c. search rules)
    (λ c. omega (arith, c.loop-r-test.true))
    loop-again
    (λ c. search rules)
    (λ c. search rules)
    returns-2)
