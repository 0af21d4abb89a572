-- `resolve_faults::decl_fault` meets its contract: it looks at the types of `resolves_of`. Assumes nothing.
use Prim.Native.Nat.{◌+◌, ◌*◌}
use native.Mathlib.Omega.{arith}
use lib.ListN.{length}
use borrow.Author.Rules.{rules}
use Rattle.resolve_faults.specs.FaultsLaws.{decl_gone, payload_place, decl_payload, decl_abstract, abbrev_place, decl_abbrev, decl_fields, fields_inside}
use Rattle.resolve_faults.proofs.decl_fault.Statement.{statement}
use Rattle.table_access.specs.Tables.{lines_in}
use Rattle.resolve_faults.proofs.decl_fault.Tie as tie

cast-state : tie.Need-overflow_cast-state
cast-state c = omega (arith, c.shared_slice_known-4-1.given (2 * c.args.d))

returns : tie.Need-returns-then-state-eq-GONE
returns c = decl_gone (lines_in c.args.t.now) c.args.t.now c.args.u.now c.args.keep.now c.requires.0.0 c.args.d c.requires.0.1 (length c.args.out.now) c.args.slots.now c.if-state-eq-GONE.true c.requires.1

cast-y : tie.Need-overflow_cast-y
cast-y c = omega (arith, c.shared_slice_known-then-state-eq-NEWTYPE-1.given (2 * c.args.d + 1))

resolved-requires : tie.Need-resolved-requires
resolved-requires c κs = (payload_place (lines_in c.args.t.now) c.args.t.now c.args.u.now c.args.keep.now c.requires.0.0 c.args.d c.requires.0.1 c.if-state-eq-NEWTYPE.true, c.requires.1)

returns-2 : tie.Need-returns-then-state-eq-NEWTYPE
returns-2 c = decl_payload (lines_in c.args.t.now) c.args.t.now c.args.u.now c.args.keep.now c.requires.0.0 c.args.d c.requires.0.1 c.if-state-eq-NEWTYPE.true c.args.out.now _ _ _ c.resolved.ensures

returns-3 : tie.Need-returns-then-kind-eq-ABSTRACT
returns-3 c = decl_abstract (lines_in c.args.t.now) c.args.t.now c.args.u.now c.args.keep.now c.requires.0.0 c.args.d c.requires.0.1 c.if-state-eq-GONE.false c.if-state-eq-NEWTYPE.false _ c.decl_number-kind.ensures (length c.args.out.now) c.args.slots.now c.if-kind-eq-ABSTRACT.true c.requires.1

resolved-requires-2 : tie.Need-resolved-requires-then-kind-eq-ABBREVIATION
resolved-requires-2 c κs = (abbrev_place (lines_in c.args.t.now) c.args.t.now c.args.u.now c.args.keep.now c.requires.0.0 c.args.d c.requires.0.1 c.if-state-eq-GONE.false c.if-state-eq-NEWTYPE.false _ c.decl_number-kind.ensures c.if-kind-eq-ABBREVIATION.true _ c.decl_number-y.ensures, c.requires.1)

returns-4 : tie.Need-returns-then-kind-eq-ABBREVIATION
returns-4 c = decl_abbrev (lines_in c.args.t.now) c.args.t.now c.args.u.now c.args.keep.now c.requires.0.0 c.args.d c.requires.0.1 c.if-state-eq-GONE.false c.if-state-eq-NEWTYPE.false _ c.decl_number-kind.ensures c.if-kind-eq-ABBREVIATION.true _ c.decl_number-y.ensures c.args.out.now _ _ _ c.resolved-then-kind-eq-ABBREVIATION.ensures

field-fault-requires : tie.Need-field_fault-requires
field-fault-requires c κs = ((c.requires.0.0, c.requires.0.1, fields_inside (lines_in c.args.t.now) c.args.t.now c.args.u.now c.args.keep.now c.requires.0.0 c.args.d c.requires.0.1 _ c.first_field-end.ensures), c.requires.1)

returns-5 : tie.Need-returns
returns-5 c = decl_fields (lines_in c.args.t.now) c.args.t.now c.args.u.now c.args.keep.now c.requires.0.0 c.args.d c.requires.0.1 c.if-state-eq-GONE.false c.if-state-eq-NEWTYPE.false _ c.decl_number-kind.ensures c.if-kind-eq-ABSTRACT.false c.if-kind-eq-ABBREVIATION.false _ _ c.first_field-from.ensures c.first_field-end.ensures (length c.args.out.now) _ _ c.field_fault.ensures

pub decl_fault_spec : {M : Type 1} → statement M
decl_fault_spec =
    tie.close
    (tie.spec
    (λ c. search rules)
    (λ c. search rules)
    (λ c. search rules)
    cast-state
    returns
    (λ c. search rules)
    (λ c. search rules)
    (λ c. search rules)
    (λ c. search rules)
    cast-y
    resolved-requires
    (λ c. search rules)
    (λ c. search rules)
    returns-2
    (λ c κs. search rules)
    returns-3
    (λ c κs. search rules)
    (λ c. search rules)
    resolved-requires-2
    (λ c. search rules)
    (λ c. search rules)
    returns-4
    (λ c κs. search rules)
    (λ c. search rules)
    (λ c κs. search rules)
    field-fault-requires
    (λ c. search rules)
    (λ c. search rules)
    returns-5)
