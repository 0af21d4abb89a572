-- `erasure_rulings::dtype_erased` meets its contract, by the way of its declaration.
use Rattle.std.proofs.Common.{true, false, refl}
use Rattle.erasure_marks.specs.Marks.{marks_of}
use Rattle.erasure_laws.specs.BodiesLaws.{settled_now}
use Rattle.erasure_rulings.proofs.dtype_erased.Goals as goal

pub returns-in-Erased : goal.returns-in-Erased
returns-in-Erased c =
    settled_now _ _ _ _ _ _ c.args.node.now c.args.member.now _ _ c.requires.state c.requires.d_bound.0 true (c.in-Erased.ensures.erased refl (marks_of c.args.decl.now))

pub returns-in-Kept : goal.returns-in-Kept
returns-in-Kept c =
    settled_now _ _ _ _ _ _ c.args.node.now c.args.member.now _ _ c.requires.state c.requires.d_bound.0 false (c.in-Kept.ensures.kept refl (marks_of c.args.decl.now))

pub abbrev_erased-requires : goal.abbrev_erased-requires
abbrev_erased-requires c =
    let p = c.requires in
    record { tabled = p.tabled; d_bound = (p.d_bound.0, c.in-AsType.ensures.type refl, c.in-AsType.ensures.typed refl); state = p.state }

pub fields_erased-requires : goal.fields_erased-requires
fields_erased-requires c =
    let p = c.requires in
    record { tabled = p.tabled; d_bound = (p.d_bound.0, c.in-AsFields.ensures.fields refl); state = p.state }
