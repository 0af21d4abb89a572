-- `ways::way` meets its contract, by the flags and the body.
use Rattle.erasure_laws.specs.BodiesLaws.{by_flag, by_realized, by_body, way_erased, way_kept}
use Rattle.erasure_rulings.proofs.ways.way.Goals as goal

pub returns-then-flags-eq1 : goal.returns-then-flags-eq1
returns-then-flags-eq1 c =
    let d = c.requires.d_bound in
    way_erased _ _ (by_flag _ c.requires.tabled.passed _ d.0 d.1 (rw c.decl_number-flags.ensures at c.if-flags-eq1.true))

pub returns-then-flags-eq1-2 : goal.returns-then-flags-eq1-2
returns-then-flags-eq1-2 c =
    let d = c.requires.d_bound in
    let e = c.decl_number-flags.ensures in
    way_kept _ _ (by_realized _ c.requires.tabled.passed _ d.0 d.1 (rw e at c.if-flags-eq1.false) (rw e at c.if-flags-eq1-2.true))

pub body_way-requires : goal.body_way-requires
body_way-requires c =
    let d = c.requires.d_bound in
    let e = c.decl_number-flags.ensures in
    record { tabled = c.requires.tabled; d_bound = (d.0, by_body _ c.requires.tabled.passed _ d.0 d.1 (rw e at c.if-flags-eq1.false) (rw e at c.if-flags-eq1-2.false)) }
