-- `left_fields::put_fields` meets its contract: after j turns the kept ones of the first j F lines are written. Assumes nothing.
use mathlib.Core.Path.{◌≡◌, refl}
use Prim.Native.Nat.{◌+◌, ◌-◌, ◌≤◌}
use lib.ListN.{length}
use Rattle.meaning.specs.Output.{field_lines}
use Rattle.left_places.specs.Places.{Writes}
use Rattle.left_fields.specs.Fields.{left_fields}
use Rattle.left_fields.specs.FieldsLaws.{part_fields, fields_start, fields_room, fields_writes}
use native.Mathlib.Omega.{arith}
use borrow.Author.Rules.{rules}
use Rattle.left_fields.proofs.put_fields.Statement.{statement}
use Rattle.table_access.specs.Tables.{lines_in}
use Rattle.left_fields.proofs.put_fields.Tie as tie

abbrev invariant-loop : tie.invariant-loop-j
invariant-loop t u f keep scratch₀ stack₀ out₀ i n d q₀ j₀ scratch stack out q j =
    (j ≤ n) × (length scratch ≡ length scratch₀) × (length stack ≡ length stack₀) × (length out ≡ length out₀) × Writes (field_lines (left_fields (lines_in t) keep d i j)) q₀ q out₀ out

abbrev decreases-loop : tie.decreases-loop-j
decreases-loop t u f keep scratch₀ stack₀ out₀ i n d q₀ j₀ scratch stack out q j = n - j

loop-holds : tie.Need-loop-j-init invariant-loop decreases-loop
loop-holds c =
    let a = c.args in
    (omega arith, refl, refl, refl, fields_start (lines_in a.t.now) a.keep.now a.d a.i a.p a.out.now)

put-kept-requires : tie.Need-put_kept-q-requires invariant-loop decreases-loop
put-kept-requires c κs =
    let z = c in
    let a = z.args in
    let l = c.loop-j in
    (part_fields (lines_in a.t.now) a.t.now a.u.now a.f.now a.keep.now a.d a.i (a.i + a.n) (length a.scratch.now) (a.i + l.j) (a.i + l.j + 1) (length l.scratch) (omega arith) (omega arith) l.invariant.1 z.requires.0, (omega (arith, l.invariant.1, l.invariant.2, z.requires.1.0), fields_room (lines_in a.t.now) a.keep.now a.d a.i a.p l.q a.out.now l.out l.j a.n (omega arith) z.requires.1.1 l.invariant.4))

loop-again : tie.Need-loop-j-preserved invariant-loop decreases-loop
loop-again c =
    let a = c.args in
    let l = c.loop-j in
    let w = c.put_kept-q in
    (omega arith, search rules, search rules, search rules, fields_writes (lines_in a.t.now) a.keep.now a.d a.i a.p l.q a.out.now l.out l.j w.result _ l.invariant.4 w.ensures)

returns : tie.Need-returns invariant-loop decreases-loop
returns c =
    let l = c.loop-j in
    let a = c.args in
    let e : a.n ≡ l.j = omega arith in
    rw e l.invariant.4

pub put_fields_spec : {M : Type 1} → statement M
put_fields_spec =
    tie.close
    (tie.spec
    invariant-loop
    decreases-loop
    loop-holds
    (λ c. let z = c in omega (arith, z.requires.0.inside, z.requires.0.long))
    put-kept-requires
    (λ c. search rules)
    (λ c. search rules)
    loop-again
    (λ c. search rules)
    (λ c. search rules)
    (λ c. search rules)
    returns)
