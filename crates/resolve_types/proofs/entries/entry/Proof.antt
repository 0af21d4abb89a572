-- `resolve_types::entries::entry` meets its contract, test by test. Assumes nothing.
use mathlib.Core.Path.{refl, sym, ◌∙◌}
use Prim.Native.Nat.{◌≤◌}
use native.Mathlib.Omega.{arith}
use lib.Dec.{eqb}
use Rattle.table_declared.specs.PassedLaws.{decls_few}
use Rattle.resolve_laws.specs.ResolverLaws.{unfolded_at, entered_nine, entered_spent, entered_enough, entered_ten, entered_var, entered_open, capped_least}
use Rattle.resolve_types.proofs.entries.entry.Statement.{statement}
use Rattle.table_access.specs.Tables.{lines_in}
use Rattle.resolve_types.proofs.entries.entry.Tie as tie

state-requires : tie.Need-state-newtype-requires
state-requires c κs = let e = c in omega (arith, e.requires.0.0.decl, decls_few (lines_in e.args.t.now) e.requires.0.0.setup.tabled.passed)

fits-requires : tie.Need-fits-requires
fits-requires c κs = let p = c.requires in ((p.0.0.setup.tabled, p.0.0.type), (p.0.0.decl, p.1.room))

returns : tie.Need-returns-then-not-fits
returns c =
    let a = c.args in
    let p = c.requires in
    entered_nine (lines_in a.t.now) a.t.now a.u.now a.y a.d p.0.0 (eqb c.state-newtype.result 1) (unfolded_at (lines_in a.t.now) a.t.now a.u.now a.y a.d _ c.state-newtype.ensures p.0.1) a.at a.count a.out.now p.1 a.k (sym c.fits.ensures ∙ c.if-not-fits.true)

returns-2 : tie.Need-returns-then-k-eq0
returns-2 c =
    let a = c.args in
    let p = c.requires in
    entered_spent (lines_in a.t.now) a.t.now a.u.now a.y a.d p.0.0 (eqb c.state-newtype.result 1) (unfolded_at (lines_in a.t.now) a.t.now a.u.now a.y a.d _ c.state-newtype.ensures p.0.1) a.at a.count a.out.now p.1 a.k (sym c.fits.ensures ∙ c.if-not-fits.false) c.if-k-eq0.true

params-requires : tie.Need-params-n-requires
params-requires c κs = let p = c.requires in (p.0.0.setup.tabled, p.0.0.decl)

-- the parameters have arguments
enough : (c : tie.After-params-n) → c.params-n.result ≤ c.args.count
enough c =
    let a = c.args in
    let p = c.requires in
    entered_enough (lines_in a.t.now) a.t.now a.u.now a.y a.d p.0.0 (eqb c.state-newtype.result 1) (unfolded_at (lines_in a.t.now) a.t.now a.u.now a.y a.d _ c.state-newtype.ensures p.0.1) a.at a.count a.out.now p.1 a.k (sym c.fits.ensures ∙ c.if-not-fits.false) _ c.params-n.ensures

sub-over : tie.Need-overflow_sub-over
sub-over c = enough c

add_total : tie.Need-overflow_add-at
add_total c = omega (arith, c.requires.1.room, enough c)

total-requires : tie.Need-total-from-requires
total-requires c κs = (omega (arith, c.requires.1.room, enough c), omega arith)

weigh-requires : tie.Need-weigh-w-requires
weigh-requires c κs = let p = c.requires in ((p.0.0.setup.tabled, p.0.0.type), (p.0.0.decl, p.1.room, capped_least _ _ c.total-from.ensures))

returns-3 : tie.Need-returns-then-w-gt-LIMIT
returns-3 c =
    let a = c.args in
    let p = c.requires in
    entered_ten (lines_in a.t.now) a.t.now a.u.now a.y a.d p.0.0 (eqb c.state-newtype.result 1) (unfolded_at (lines_in a.t.now) a.t.now a.u.now a.y a.d _ c.state-newtype.ensures p.0.1) a.at a.count a.out.now p.1 a.k (sym c.fits.ensures ∙ c.if-not-fits.false) _ _ _ _ c.params-n.ensures refl c.total-from.ensures c.weigh-w.ensures c.if-w-gt-LIMIT.true

returns-4 : tie.Need-returns-then-over-eq0
returns-4 c =
    let a = c.args in
    let p = c.requires in
    entered_open (lines_in a.t.now) a.t.now a.u.now a.y a.d p.0.0 (eqb c.state-newtype.result 1) (unfolded_at (lines_in a.t.now) a.t.now a.u.now a.y a.d _ c.state-newtype.ensures p.0.1) a.at a.count a.out.now p.1 a.k (sym c.fits.ensures ∙ c.if-not-fits.false) _ _ _ _ c.params-n.ensures refl c.total-from.ensures c.weigh-w.ensures c.if-w-gt-LIMIT.false (omega (arith, c.if-k-eq0.false)) (λ e. c.if-over-eq0.true)

type-number-requires : tie.Need-type_number-requires
type-number-requires c κs = let p = c.requires in (p.0.0.setup.tabled, (p.0.0.type, omega arith))

returns-5 : tie.Need-returns-then-type_number-eq3
returns-5 c =
    let a = c.args in
    let p = c.requires in
    entered_var (lines_in a.t.now) a.t.now a.u.now a.y a.d p.0.0 (eqb c.state-newtype.result 1) (unfolded_at (lines_in a.t.now) a.t.now a.u.now a.y a.d _ c.state-newtype.ensures p.0.1) a.at a.count a.out.now p.1 a.k (sym c.fits.ensures ∙ c.if-not-fits.false) _ _ _ _ c.params-n.ensures refl c.total-from.ensures c.weigh-w.ensures c.if-w-gt-LIMIT.false (omega (arith, c.if-over-eq0.false)) (sym c.type_number.ensures ∙ c.if-type_number-eq3.true)

returns-6 : tie.Need-returns
returns-6 c =
    let a = c.args in
    let p = c.requires in
    entered_open (lines_in a.t.now) a.t.now a.u.now a.y a.d p.0.0 (eqb c.state-newtype.result 1) (unfolded_at (lines_in a.t.now) a.t.now a.u.now a.y a.d _ c.state-newtype.ensures p.0.1) a.at a.count a.out.now p.1 a.k (sym c.fits.ensures ∙ c.if-not-fits.false) _ _ _ _ c.params-n.ensures refl c.total-from.ensures c.weigh-w.ensures c.if-w-gt-LIMIT.false (omega (arith, c.if-k-eq0.false)) (λ e. absurd (c.if-type_number-eq3.false (c.type_number.ensures ∙ e)))

pub entry_spec : {M : Type 1} → statement M
entry_spec =
    tie.close
    (tie.spec
    state-requires
    fits-requires
    returns
    returns-2
    params-requires
    sub-over
    add_total
    total-requires
    weigh-requires
    returns-3
    returns-4
    type-number-requires
    (λ c. omega (arith, c.if-w-gt-LIMIT.false))
    (λ c. omega (arith, c.if-w-gt-LIMIT.false))
    returns-5
    returns-6)
