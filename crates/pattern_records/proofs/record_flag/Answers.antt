-- `pattern_records::record_flag` meets its contract, by what becomes of the type's name.
use Rattle.std.proofs.Common.{sym, ◌∙◌, arith}
use borrow.Author.Tests.{eq-eqb, ne_eqb}
use Rattle.table_declared.specs.PassedLaws.{decls_few}
use Rattle.table_access.specs.Tables.{decls_of, lines_in}
use Rattle.keep_layouts.specs.States.{state}
use Rattle.pattern_records.specs.Records.{record_flag}
use Rattle.pattern_records.proofs.record_flag.Goals as goal

pub returns-then-d-decls : goal.returns-then-d-decls
unfolding record_flag
returns-then-d-decls c = rw (eq-eqb c.args.d (decls_of (lines_in c.args.t.now)) (c.if-d-decls.true ∙ c.decls.ensures))

pub state-requires : goal.state-requires
state-requires c = omega (arith, c.requires.tabled.1, decls_few (lines_in c.args.t.now) c.requires.tabled.0.passed)

pub returns-in-0 : goal.returns-in-0
unfolding record_flag
returns-in-0 c =
    let n = c.decls.ensures in
    rw (ne_eqb c.args.d (decls_of (lines_in c.args.t.now)) (λ z. c.if-d-decls.false (z ∙ sym n)), sym c.state.ensures ∙ c.in-0.is)

pub newtype_flag-requires : goal.newtype_flag-requires
newtype_flag-requires c =
    let r = c.requires.tabled in
    record { reading = record { tabled = r.0; declared = omega (arith, r.1, c.if-d-decls.false, c.decls.ensures); long = r.2 }; linked = c.requires.linked }

pub returns-in-1 : goal.returns-in-1
unfolding record_flag
returns-in-1 c =
    let n = c.decls.ensures in
    rw (c.newtype_flag.ensures, ne_eqb c.args.d (decls_of (lines_in c.args.t.now)) (λ z. c.if-d-decls.false (z ∙ sym n)), sym c.state.ensures ∙ c.in-1.is)

pub struct_flag-requires : goal.struct_flag-requires
struct_flag-requires c =
    let r = c.requires.tabled in
    record { tabled = r.0; declared = omega (arith, r.1, c.if-d-decls.false, c.decls.ensures); long = r.2 }

pub returns-in_default : goal.returns-in_default
unfolding record_flag
returns-in_default c =
    let n = c.decls.ensures in
    let s = state c.args.u.now c.args.d in
    rw (c.struct_flag.ensures, ne_eqb c.args.d (decls_of (lines_in c.args.t.now)) (λ z. c.if-d-decls.false (z ∙ sym n)), ne_eqb s 0 (λ z. omega (arith, c.state.ensures)), ne_eqb s 1 (λ z. omega (arith, c.state.ensures)))
