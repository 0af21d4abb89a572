-- `ways::body_way` meets its contract, by the body kind.
use Rattle.std.proofs.Common.{◌∙◌, sym, arith}
use Rattle.erasure_laws.specs.BodiesLaws.{last_types, by_abbrev, by_record, by_abstract, way_kept, way_type, way_fields}
use Rattle.erasure_rulings.proofs.ways.body_way.Goals as goal

pub returns-in-1 : goal.returns-in-1
returns-in-1 c =
    let d = c.requires.d_bound in
    let e = sym c.decl_number-kind.ensures ∙ c.in-1.is in
    way_type _ _ (by_abbrev _ c.requires.tabled.passed _ d.0 d.1 e) (last_types _ c.requires.tabled.passed _ d.0 e)

pub returns-in-2 : goal.returns-in-2
returns-in-2 c =
    let d = c.requires.d_bound in
    way_fields _ _ (by_record _ c.requires.tabled.passed _ d.0 d.1 (sym c.decl_number-kind.ensures ∙ c.in-2.is))

pub returns-in_default : goal.returns-in_default
returns-in_default c =
    let d = c.requires.d_bound in
    let e = c.decl_number-kind.ensures in
    way_kept _ _ (by_abstract _ c.requires.tabled.passed _ d.0 d.1 (λ q. omega (arith, e)) (λ q. omega (arith, e)) (λ q. omega (arith, e)))
