-- `left_ctors::put_ctors` meets its contract: after m turns the first m constructors are written, and j is the F line of the next. Assumes nothing.
use mathlib.Core.Path.{◌≡◌, refl, ◌∙◌, ap}
use Prim.Native.Nat.{ℕ, ◌+◌, ◌-◌, ◌≤◌}
use lib.ListN.{length}
use Rattle.meaning.specs.Program.{ctor_line}
use Rattle.meaning.specs.Output.{ctor_lines}
use Rattle.keep_laws.specs.KeptLaws.{fields_in}
use Rattle.left_places.specs.Places.{Writes}
use Rattle.left_ctors.specs.Ctors.{left_ctors}
use Rattle.rows_header.specs.OrderLaws.{count_of_le}
use Rattle.left_ctors.specs.CtorsLaws.{ctors_room, ctors_writes, ctors_start, fields_in_start, ctor_next, ctor_given, ctor_few}
use native.Mathlib.Omega.{arith}
use borrow.Author.Rules.{rules}
use Rattle.left_ctors.proofs.put_ctors.Statement.{statement}
use Rattle.table_access.specs.Tables.{lines_in}
use Rattle.left_ctors.proofs.put_ctors.Tie as tie

abbrev invariant-loop : tie.invariant-loop-m
invariant-loop t u f keep scratch₀ stack₀ out₀ ci i k d q₀ j₀ m₀ scratch stack out q j m =
    (m ≤ k) × (length scratch ≡ length scratch₀) × (length stack ≡ length stack₀) × (length out ≡ length out₀) × (j ≡ i + fields_in (lines_in t) ci m) × Writes (ctor_lines (left_ctors (lines_in t) keep d ci i m)) q₀ q out₀ out

abbrev decreases-loop : tie.decreases-loop-m
decreases-loop t u f keep scratch₀ stack₀ out₀ ci i k d q₀ j₀ m₀ scratch stack out q j m = k - m

loop-holds : tie.Need-loop-m-init invariant-loop decreases-loop
loop-holds c =
    let a = c.args in
    (omega arith, refl, refl, refl, fields_in_start (lines_in a.t.now) a.c a.i, ctors_start (lines_in a.t.now) a.keep.now a.d a.c a.i a.p a.out.now)

put-ctor-requires : tie.Need-put_ctor-q-requires invariant-loop decreases-loop
put-ctor-requires c κs =
    let z = c in
    let a = z.args in
    let l = c.loop-m in
    ((ctor_given (lines_in a.t.now) a.t.now a.u.now a.f.now a.keep.now a.d a.c a.i a.k (length a.scratch.now) z.requires.0 l.m (omega arith) l.j l.invariant.4 (length l.scratch) l.invariant.1, omega (arith, z.requires.0.inside)), (omega (arith, l.invariant.1, l.invariant.2, z.requires.1.0), ctors_room (lines_in a.t.now) a.keep.now a.d a.c a.i a.p l.q a.out.now l.out l.m a.k l.j (omega arith) l.invariant.4 z.requires.1.1 l.invariant.5))

ctor-number-requires : tie.Need-ctor_number-requires invariant-loop decreases-loop
ctor-number-requires c κs =
    let z = c in
    (z.requires.0.fields.tabled, (omega (arith, z.requires.0.inside), omega arith))

add-j : tie.Need-overflow_add-j invariant-loop decreases-loop
add-j c =
    let z = c in
    let a = z.args in
    let l = c.loop-m in
    omega (arith, c.ctor_number.ensures, ctor_few (lines_in a.t.now) a.t.now a.u.now a.f.now a.keep.now a.d a.c a.i a.k (length a.scratch.now) z.requires.0 l.m (omega (arith, c.loop-m-test.true)) l.j l.invariant.4)

loop-again : tie.Need-loop-m-preserved invariant-loop decreases-loop
loop-again c =
    let z = c in
    let a = z.args in
    let l = c.loop-m in
    let w = c.put_ctor-q in
    let n = ctor_next (lines_in a.t.now) a.t.now a.u.now a.f.now a.keep.now a.d a.c a.i a.k (length a.scratch.now) z.requires.0 l.m (omega (arith, c.loop-m-test.true)) l.j l.invariant.4 in
    (omega (arith, c.loop-m-test.true), search rules, search rules, search rules, ap (λ (x : ℕ). l.j + x) c.ctor_number.ensures ∙ n, ctors_writes (lines_in a.t.now) a.keep.now a.d a.c a.i a.p l.q a.out.now l.out l.m l.j w.result _ l.invariant.4 l.invariant.5 w.ensures)

returns : tie.Need-returns invariant-loop decreases-loop
returns c =
    let l = c.loop-m in
    let a = c.args in
    let e : a.k ≡ l.m = omega arith in
    rw e l.invariant.5

pub put_ctors_spec : {M : Type 1} → statement M
put_ctors_spec =
    tie.close
    (tie.spec
    invariant-loop
    decreases-loop
    loop-holds
    (λ c. let z = c in omega (arith, z.requires.0.inside, count_of_le ctor_line (lines_in z.args.t.now)))
    put-ctor-requires
    (λ c. let z = c in omega (arith, z.requires.0.inside, count_of_le ctor_line (lines_in z.args.t.now)))
    ctor-number-requires
    (λ c. search rules)
    add-j
    (λ c. search rules)
    (λ c. search rules)
    loop-again
    (λ c. search rules)
    (λ c. search rules)
    (λ c. search rules)
    returns)
