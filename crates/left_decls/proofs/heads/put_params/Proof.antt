-- `left_decls::heads::put_params` meets its contract: after j turns the first j P lines are written. Assumes nothing.
use mathlib.Core.Path.{◌≡◌, refl}
use mathlib.Core.List.{map}
use Prim.Native.Nat.{◌+◌, ◌-◌, ◌≤◌}
use lib.ListN.{length}
use Rattle.resolve_kids.specs.Params.{params_from}
use Rattle.left_places.specs.Places.{Writes}
use Rattle.left_decls.specs.Heads.{fixed, param_row}
use Rattle.left_decls.specs.HeadsLaws.{param_small, params_start, params_room, params_writes}
use native.Mathlib.Omega.{arith}
use borrow.Author.Rules.{rules}
use Rattle.table_declared.specs.PassedLaws.{params_few}
use Rattle.left_decls.proofs.heads.put_params.Statement.{statement}
use Rattle.table_access.specs.Tables.{lines_in}
use Rattle.left_decls.proofs.heads.put_params.Tie as tie

abbrev invariant-loop : tie.invariant-loop-j
invariant-loop t out₀ i n q₀ j₀ out q j = (j ≤ n) × (length out ≡ length out₀) × Writes (fixed (map param_row (params_from (lines_in t) i j))) q₀ q out₀ out

abbrev decreases-loop : tie.decreases-loop-j
decreases-loop t out₀ i n q₀ j₀ out q j = n - j

loop-holds : tie.Need-loop-j-init invariant-loop decreases-loop
loop-holds c =
    let a = c.args in
    (omega arith, refl, params_start (lines_in a.t.now) a.i a.p a.out.now)

cast-t13 : tie.Need-overflow_cast-x invariant-loop decreases-loop
cast-t13 c =
    let z = c in
    let a = z.args in
    let l = c.loop-j in
    omega (arith, c.param-x.ensures, param_small (lines_in a.t.now) z.requires.0.0.passed (a.i + l.j) (omega (arith, z.requires.0.1)))

put-line-requires : tie.Need-put_line-q-requires invariant-loop decreases-loop
put-line-requires c κs =
    let z = c in
    let a = z.args in
    let l = c.loop-j in
    params_room (lines_in a.t.now) a.i a.p l.q a.out.now l.out l.j a.n _ (omega arith) c.param-x.ensures z.requires.1 l.invariant.2

loop-again : tie.Need-loop-j-preserved invariant-loop decreases-loop
loop-again c =
    let a = c.args in
    let l = c.loop-j in
    let w = c.put_line-q in
    (omega arith, search rules, params_writes (lines_in a.t.now) a.i a.p l.q a.out.now l.out l.j _ w.result _ c.param-x.ensures l.invariant.2 w.ensures)

returns : tie.Need-returns invariant-loop decreases-loop
returns c =
    let l = c.loop-j in
    let a = c.args in
    let e : a.n ≡ l.j = omega arith in
    rw e l.invariant.2

pub put_params_spec : {M : Type 1} → statement M
put_params_spec =
    tie.close
    (tie.spec
    invariant-loop
    decreases-loop
    loop-holds
    (λ c. let z = c in omega (arith, z.requires.0.1, params_few (lines_in z.args.t.now) z.requires.0.0.passed))
    (λ c κs. let z = c in (z.requires.0.0, omega (arith, z.requires.0.1)))
    cast-t13
    put-line-requires
    (λ c. search rules)
    (λ c. search rules)
    loop-again
    (λ c. search rules)
    returns)
