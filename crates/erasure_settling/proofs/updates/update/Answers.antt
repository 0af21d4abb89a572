-- `erasure_settling::updates::update` meets its contract, by what is known of the declaration and by its ruling.
use Rattle.std.proofs.Common.{◌∙◌, sym, arith}
use Rattle.erasure_laws.specs.RoundsLaws.{stays, running_with, updated_still, updated_erased, mark_unset}
use Rattle.erasure_settling.proofs.updates.update.Goals as goal

pub stands-requires : goal.stands-requires
stands-requires c =
    let p = c.requires in
    let s = p.running.state in
    record { tabled = p.tabled; d_bound = (p.d_bound, s.decl_size, s.places.wait_size, omega (arith, s.marks.low, s.marks.node_size)) }

pub returns-then-stands : goal.returns-then-stands
returns-then-stands c =
    let p = c.requires in
    stays _ p.tabled.passed _ _ _ _ _ _ _ _ p.running p.d_bound (c.stands.ensures.still c.if-stands.true)

pub dtype_erased-r-requires : goal.dtype_erased-r-requires
dtype_erased-r-requires c =
    let p = c.requires in
    record { tabled = p.tabled; d_bound = (p.d_bound, c.stands.ensures.local c.if-stands.false); state = p.running.state }

pub bounds-decl-d : goal.bounds-decl-d
bounds-decl-d c = omega (arith, c.requires.running.state.decl_size)

pub bounds-used-d : goal.bounds-used-d
bounds-used-d c = omega (arith, c.requires.running.uses.size)

pub returns-then-r : goal.returns-then-r
returns-then-r c =
    let p = c.requires in
    let d = c.dtype_erased-r in
    updated_erased _ p.tabled.passed _ _ _ _ _ _ _ _ (running_with _ _ _ _ _ _ _ _ _ _ _ _ _ p.running d.ensures.state) p.d_bound _ (omega (arith, c.min.ensures)) (omega (arith, c.min.ensures)) (c.stands.ensures.unset c.if-stands.false) (sym d.ensures.answer ∙ c.if-r.true)

pub returns : goal.returns
returns c =
    let p = c.requires in
    let d = c.dtype_erased-r in
    let q = running_with _ _ _ _ _ _ _ _ _ _ _ _ _ p.running d.ensures.state in
    updated_still _ p.tabled.passed _ _ _ _ _ _ _ _ q p.d_bound (sym d.ensures.answer ∙ c.if-r.false ∙ sym (mark_unset _ p.tabled.passed _ _ _ _ _ _ _ _ q p.d_bound (c.stands.ensures.unset c.if-stands.false)))
