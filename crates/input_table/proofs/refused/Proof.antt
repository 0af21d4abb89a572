-- `input_table::refused` meets its contract: only a Q line that is out of order begins Q lines. Assumes nothing.
use native.Mathlib.Omega.{arith}
use lib.ListN.{length}
use borrow.Author.Rules.{rules}
use Rattle.row4_limits.specs.LimitsLaws.{short_bytes}
use Rattle.input_table.specs.RefusedLaws.{same_refused, breaks_of, place_within, place_line, other_line, pattern_begins}
use Rattle.input_table.specs.TableLaws.{fronted_refused}
use Rattle.input_table.proofs.refused.Statement.{statement}
use Rattle.input_table.proofs.refused.Tie as tie

returns : tie.Need-returns-then-code-ne3
returns c =
    let s = c in
    let a = s.args in
    rw c.refuse.ensures (fronted_refused a.s.now _ a.code a.place (same_refused a.s.now (length a.t.now) a.code a.place s.requires (λ e h. absurd (c.if-code-ne3.true e))))

returns-2 : tie.Need-returns-then-place-s
returns-2 c =
    let s = c in
    let a = s.args in
    rw c.refuse-then-place-s.ensures (fronted_refused a.s.now _ a.code a.place (same_refused a.s.now (length a.t.now) a.code a.place s.requires (λ e h. absurd (omega (arith, h, c.if-place-s.true)))))

mul-if3 : tie.Need-overflow_mul-place
mul-if3 c =
    let s = c in
    let a = s.args in
    record { fits = omega (arith, short_bytes a.s.now s.requires.short, place_within a.s.now (length a.t.now) a.code a.place s.requires c.if-code-ne3.false) }

shared-slice-read-if3 : tie.Need-bounds-s-place
shared-slice-read-if3 c =
    let s = c in
    let a = s.args in
    omega (arith, place_line a.s.now (length a.t.now) a.code a.place s.requires c.if-code-ne3.false c.if-place-s.false)

returns-3 : tie.Need-returns-then-s-place-ne81
returns-3 c =
    let s = c in
    let a = s.args in
    rw c.refuse-then-s-place-ne81.ensures (fronted_refused a.s.now _ a.code a.place (same_refused a.s.now (length a.t.now) a.code a.place s.requires (λ e h. other_line a.s.now a.place c.if-s-place-ne81.true)))

parted-requires : tie.Need-parted-requires
parted-requires c κs =
    let s = c in
    let a = s.args in
    let one = c.if-code-ne3.false in
    breaks_of a.s.now (length a.t.now) a.code a.place s.requires one (place_line a.s.now (length a.t.now) a.code a.place s.requires one c.if-place-s.false) (pattern_begins a.s.now a.place c.if-s-place-ne81.false)

pub refused_spec : {M : Type 1} → statement M
refused_spec =
    tie.close
    (tie.spec
    (λ c κs. search rules)
    returns
    (λ c κs. search rules)
    returns-2
    mul-if3
    shared-slice-read-if3
    (λ c κs. search rules)
    returns-3
    parted-requires
    (λ c. search rules)
    (λ c. search rules))
