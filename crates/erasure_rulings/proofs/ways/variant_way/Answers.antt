-- `ways::variant_way` meets its contract, by the count of constructors.
use Rattle.std.proofs.Common.{◌∙◌, sym, arith}
use Rattle.erasure_laws.specs.BodiesLaws.{by_none, by_one, by_several, way_erased, way_kept, way_fields}
use Rattle.erasure_rulings.proofs.ways.variant_way.Goals as goal

pub returns-in-0 : goal.returns-in-0
returns-in-0 c =
    let d = c.requires.d_bound in
    way_erased _ _ (by_none _ c.requires.tabled.passed _ d.0 d.1 d.2 (sym c.decl_number-last.ensures ∙ c.in-0.is))

pub returns-in-1 : goal.returns-in-1
returns-in-1 c =
    let d = c.requires.d_bound in
    way_fields _ _ (by_one _ c.requires.tabled.passed _ d.0 d.1 d.2 (sym c.decl_number-last.ensures ∙ c.in-1.is))

pub returns-in_default : goal.returns-in_default
returns-in_default c =
    let d = c.requires.d_bound in
    let e = c.decl_number-last.ensures in
    way_kept _ _ (by_several _ c.requires.tabled.passed _ d.0 d.1 d.2 (λ q. omega (arith, e)) (λ q. omega (arith, e)))
