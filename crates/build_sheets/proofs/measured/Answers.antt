-- `build_sheets::measured` meets its contract, by the count of the left sheet's lines. Assumes nothing.
use Rattle.std.proofs.Common.{refl, ◌∙◌, ap, ◌+◌, ◌*◌, ◌≤◌, List, arith}
use Rattle.model.specs.Decl.{Decl}
use Rattle.model.specs.Run.{run}
use Rattle.table_declared.specs.PassedLaws.{names_few}
use Rattle.table_access.specs.OfSheet.{program_same}
use Rattle.table_access.specs.Tables.{lines_in}
use Rattle.build_sheets.specs.SheetsLaws.{needed_of, owed_of, tries_none, tries_twelve, tries_gives, gives_written, known_long, owed_long}
use Rattle.build_sheets.proofs.measured.Goals as goal

pub returns-in_err-c : goal.returns-in_err-c
returns-in_err-c c = rw c.from_residual.ensures (tries_none _ c.args.s.now c.args.v.now c.args.l.now (c.in_err-c.ensures.0.short refl))

pub overflow_add-needed : goal.overflow_add-needed
overflow_add-needed c =
    let f = c.in_ok-c.ensures.1 in
    omega (arith, names_few (lines_in c.args.t.now) c.requires.known.ready.tabled.passed, c.names-names.ensures, f.args _ refl)

pub overflow_add-needed-2 : goal.overflow_add-needed-2
overflow_add-needed-2 c =
    let f = c.in_ok-c.ensures.1 in
    omega (arith, names_few (lines_in c.args.t.now) c.requires.known.ready.tabled.passed, c.names-names.ensures, f.args _ refl, f.types _ refl)

pub overflow_add-needed-3 : goal.overflow_add-needed-3
overflow_add-needed-3 c =
    let f = c.in_ok-c.ensures.1 in
    omega (arith, names_few (lines_in c.args.t.now) c.requires.known.ready.tabled.passed, c.names-names.ensures, f.args _ refl, f.types _ refl, f.lines _ refl)

pub overflow_mul-needed : goal.overflow_mul-needed
overflow_mul-needed c =
    let f = c.in_ok-c.ensures.1 in
    omega (arith, names_few (lines_in c.args.t.now) c.requires.known.ready.tabled.passed, c.names-names.ensures, f.args _ refl, f.types _ refl, f.lines _ refl)

pub returns-then-l-needed : goal.returns-then-l-needed
returns-then-l-needed c =
    let p = c.requires.known in
    let n = needed_of c.args.s.now c.args.t.now _ _ _ p.of p.accepted _ c.names-names.result c.names-names.ensures c.in_ok-c.ensures.0 in
    let f = c.in_ok-c.ensures.1 in
    let r = c.in_ok-c.c in
    let k : 32 * (c.names-names.result + r.args + r.types + r.lines) ≤ 1000000000000 = omega (arith, names_few (lines_in c.args.t.now) p.ready.tabled.passed, c.names-names.ensures, f.args _ refl, f.types _ refl, f.lines _ refl) in
    tries_twelve _ c.args.s.now c.args.v.now c.args.l.now _ _ p.accepted p.verdict_room n k c.if-l-needed.true c.refused.ensures

pub write-requires : goal.write-requires
write-requires c =
    let p = c.requires.known in
    let x = c.in_ok-c.ensures.0 in
    let n = needed_of c.args.s.now c.args.t.now _ _ _ p.of p.accepted _ c.names-names.result c.names-names.ensures x in
    let k = c.count.auto.scratch in
    record { known = known_long _ _ _ _ _ _ _ _ _ k p; flagged = (c.requires.flagged.0, owed_long _ _ _ _ _ _ _ _ _ k (owed_of c.args.s.now c.args.t.now _ _ _ p.of c.args.l.now _ x (omega (arith, n, c.if-l-needed.false)))) }

pub returns : goal.returns
returns c =
    let p = c.requires.known in
    let x = c.in_ok-c.ensures.0 in
    let n = needed_of c.args.s.now c.args.t.now _ _ _ p.of p.accepted _ c.names-names.result c.names-names.ensures x in
    tries_gives _ c.args.s.now c.args.v.now c.args.l.now _ _ _
    (gives_written c.args.s.now p.accepted c.args.v.now c.args.l.now _ _ _ _ _ c.write.ensures (c.requires.flagged.1 ∙ ap (λ (ds : List Decl). (run 100 ds).rounds) (program_same c.args.s.now c.args.t.now p.of)) p.verdict_room (omega (arith, n, c.if-l-needed.false)) refl n)
