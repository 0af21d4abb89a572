-- `left_decls::put_decl` meets its contract: the body by the declaration's cells and its kind. Assumes nothing.
use mathlib.Core.Path.{sym, ◌∙◌}
use Prim.Native.Nat.{◌+◌, ◌*◌}
use Rattle.left_decls.specs.DeclsLaws.{state_is, given_newtype, given_abbrev, given_record, given_variant, room_newtype, room_abbrev, room_record, room_variant, room_bare, done_newtype, done_abbrev, done_record, done_variant, done_bare}
use native.Mathlib.Omega.{arith}
use borrow.Author.Rules.{rules}
use Rattle.left_decls.proofs.put_decl.Statement.{statement}
use Rattle.table_access.specs.Tables.{lines_in}
use Rattle.left_decls.proofs.put_decl.Tie as tie

cast-y : tie.Need-overflow_cast-y
cast-y c = omega (arith, c.shared_slice_known-then-u-d-eq1-1.given (2 * c.args.d + 1))

put-abbrev-requires : tie.Need-put_abbrev-requires
put-abbrev-requires c κs =
    let z = c in
    let a = z.args in
    let st = state_is (lines_in a.t.now) a.t.now a.u.now a.f.now a.keep.now a.d _ z.requires.0 in
    let e = sym st ∙ c.if-u-d-eq1.true in
    (given_newtype (lines_in a.t.now) a.t.now a.u.now a.f.now a.keep.now a.d _ z.requires.0 e, (z.requires.1.0, room_newtype (lines_in a.t.now) a.u.now a.keep.now a.d a.p a.out.now z.requires.1.1 e))

returns : tie.Need-returns-then-u-d-eq1
returns c =
    let z = c in
    let a = z.args in
    let st = state_is (lines_in a.t.now) a.t.now a.u.now a.f.now a.keep.now a.d _ z.requires.0 in
    let w = c.put_abbrev in
    done_newtype (lines_in a.t.now) a.u.now a.keep.now a.d a.p w.result a.out.now _ (sym st ∙ c.if-u-d-eq1.true) w.ensures

put-abbrev-requires-2 : tie.Need-put_abbrev-requires-then-kind-eq1
put-abbrev-requires-2 c κs =
    let z = c in
    let a = z.args in
    let st = state_is (lines_in a.t.now) a.t.now a.u.now a.f.now a.keep.now a.d _ z.requires.0 in
    let e = c.decl_number-y.ensures in
    let k = sym c.decl_number-kind.ensures ∙ c.if-kind-eq1.true in
    (rw e (given_abbrev (lines_in a.t.now) a.t.now a.u.now a.f.now a.keep.now a.d _ z.requires.0 (λ e. c.if-u-d-eq1.false (st ∙ e)) k), (z.requires.1.0, room_abbrev (lines_in a.t.now) a.u.now a.keep.now a.d a.p a.out.now z.requires.1.1 (λ e. c.if-u-d-eq1.false (st ∙ e)) _ e k))

returns-2 : tie.Need-returns-then-kind-eq1
returns-2 c =
    let z = c in
    let a = z.args in
    let st = state_is (lines_in a.t.now) a.t.now a.u.now a.f.now a.keep.now a.d _ z.requires.0 in
    let w = c.put_abbrev-then-kind-eq1 in
    done_abbrev (lines_in a.t.now) a.u.now a.keep.now a.d a.p w.result a.out.now _ (λ e. c.if-u-d-eq1.false (st ∙ e)) _ c.decl_number-y.ensures (sym c.decl_number-kind.ensures ∙ c.if-kind-eq1.true) w.ensures

put-record-requires : tie.Need-put_record-requires
put-record-requires c κs =
    let z = c in
    let a = z.args in
    let st = state_is (lines_in a.t.now) a.t.now a.u.now a.f.now a.keep.now a.d _ z.requires.0 in
    let k = sym c.decl_number-kind.ensures ∙ c.if-kind-eq2.true in
    ((z.requires.0.decl, given_record (lines_in a.t.now) a.t.now a.u.now a.f.now a.keep.now a.d _ z.requires.0 (λ e. c.if-u-d-eq1.false (st ∙ e)) k), (z.requires.1.0, room_record (lines_in a.t.now) a.u.now a.keep.now a.d a.p a.out.now z.requires.1.1 (λ e. c.if-u-d-eq1.false (st ∙ e)) k))

returns-3 : tie.Need-returns-then-kind-eq2
returns-3 c =
    let z = c in
    let a = z.args in
    let st = state_is (lines_in a.t.now) a.t.now a.u.now a.f.now a.keep.now a.d _ z.requires.0 in
    let w = c.put_record in
    done_record (lines_in a.t.now) a.u.now a.keep.now a.d a.p w.result a.out.now _ (λ e. c.if-u-d-eq1.false (st ∙ e)) (sym c.decl_number-kind.ensures ∙ c.if-kind-eq2.true) w.ensures

put-variant-requires : tie.Need-put_variant-requires
put-variant-requires c κs =
    let z = c in
    let a = z.args in
    let st = state_is (lines_in a.t.now) a.t.now a.u.now a.f.now a.keep.now a.d _ z.requires.0 in
    let k = sym c.decl_number-kind.ensures ∙ c.if-kind-eq3.true in
    ((z.requires.0.decl, given_variant (lines_in a.t.now) a.t.now a.u.now a.f.now a.keep.now a.d _ z.requires.0 (λ e. c.if-u-d-eq1.false (st ∙ e)) k), (z.requires.1.0, room_variant (lines_in a.t.now) a.u.now a.keep.now a.d a.p a.out.now z.requires.1.1 (λ e. c.if-u-d-eq1.false (st ∙ e)) k))

returns-4 : tie.Need-returns-then-kind-eq3
returns-4 c =
    let z = c in
    let a = z.args in
    let st = state_is (lines_in a.t.now) a.t.now a.u.now a.f.now a.keep.now a.d _ z.requires.0 in
    let w = c.put_variant in
    done_variant (lines_in a.t.now) a.u.now a.keep.now a.d a.p w.result a.out.now _ (λ e. c.if-u-d-eq1.false (st ∙ e)) (sym c.decl_number-kind.ensures ∙ c.if-kind-eq3.true) w.ensures

put-bare-requires : tie.Need-put_bare-requires
put-bare-requires c κs =
    let z = c in
    let a = z.args in
    let st = state_is (lines_in a.t.now) a.t.now a.u.now a.f.now a.keep.now a.d _ z.requires.0 in
    let k = c.decl_number-kind.ensures in
    ((z.requires.0.tabled, z.requires.0.decl), room_bare (lines_in a.t.now) a.u.now a.keep.now a.d a.p a.out.now z.requires.1.1 (λ e. c.if-u-d-eq1.false (st ∙ e)) (λ e. c.if-kind-eq1.false (k ∙ e)) (λ e. c.if-kind-eq2.false (k ∙ e)) (λ e. c.if-kind-eq3.false (k ∙ e)))

returns-5 : tie.Need-returns
returns-5 c =
    let z = c in
    let a = z.args in
    let st = state_is (lines_in a.t.now) a.t.now a.u.now a.f.now a.keep.now a.d _ z.requires.0 in
    let k = c.decl_number-kind.ensures in
    let w = c.put_bare in
    done_bare (lines_in a.t.now) a.u.now a.keep.now a.d a.p w.result a.out.now _ (λ e. c.if-u-d-eq1.false (st ∙ e)) (λ e. c.if-kind-eq1.false (k ∙ e)) (λ e. c.if-kind-eq2.false (k ∙ e)) (λ e. c.if-kind-eq3.false (k ∙ e)) w.ensures

pub put_decl_spec : {M : Type 1} → statement M
put_decl_spec =
    tie.close
    (tie.spec
    (λ c. let z = c in omega (arith, z.requires.0.states, z.requires.0.decl))
    (λ c. let z = c in omega (arith, z.requires.0.states, z.requires.0.decl))
    (λ c. let z = c in omega (arith, z.requires.0.states, z.requires.0.decl))
    (λ c. let z = c in omega (arith, z.requires.0.states, z.requires.0.decl))
    (λ c. let z = c in omega (arith, z.requires.0.states, z.requires.0.decl))
    (λ c. let z = c in omega (arith, z.requires.0.states, z.requires.0.decl))
    (λ c. let z = c in omega (arith, z.requires.0.states, z.requires.0.decl))
    cast-y
    put-abbrev-requires
    (λ c. search rules)
    (λ c. search rules)
    (λ c. search rules)
    returns
    (λ c κs. let z = c in (z.requires.0.tabled, (z.requires.0.decl, omega arith)))
    (λ c κs. let z = c in (z.requires.0.tabled, (z.requires.0.decl, omega arith)))
    (λ c. search rules)
    put-abbrev-requires-2
    (λ c. search rules)
    (λ c. search rules)
    (λ c. search rules)
    returns-2
    put-record-requires
    (λ c. search rules)
    (λ c. search rules)
    (λ c. search rules)
    returns-3
    put-variant-requires
    (λ c. search rules)
    (λ c. search rules)
    (λ c. search rules)
    returns-4
    put-bare-requires
    (λ c. search rules)
    returns-5)
