-- `own_forms::copy_words` meets its contract: after i turns the first i words are copied. Assumes nothing.
use mathlib.Core.Path.{◌≡◌, refl, ap, ◌∙◌}
use Prim.Native.Nat.{ℕ, ◌+◌, ◌-◌, ◌≤◌}
use native.Mathlib.Omega.{arith}
use native.Mathlib.Numerals.{add-one}
use mathlib.Core.List.{append_assoc}
use lib.ListN.{length, take, drop, length-set}
use lib.Seq.{paste, paste-zero, paste-suc}
use borrow.Author.Rules.{rules}
use Rattle.form_ranks.proofs.own_forms.copy_words.Statement.{statement}
use Rattle.form_ranks.proofs.own_forms.copy_words.Tie as tie

abbrev invariant-loop : tie.invariant-loop-i
invariant-loop f₀ at ws n i₀ f i = (i ≤ n) × (at + n ≤ length f₀) × (n ≤ length ws) × (length f ≡ length f₀) × (f ≡ paste f₀ at ws i)

abbrev decreases-loop : tie.decreases-loop-i
decreases-loop f₀ at ws n i₀ f i = n - i

loop-holds : tie.Need-loop-i-init invariant-loop decreases-loop
loop-holds c =
    let a = c.args in
    (omega arith, c.requires.0, c.requires.1, refl, paste-zero a.f.now a.at a.ws.now)

loop-again : tie.Need-loop-i-preserved invariant-loop decreases-loop
loop-again c =
    let s = c.loop-i in
    let a = c.args in (
      omega arith,
      s.invariant.1,
      s.invariant.2,
      simp length-set s.invariant.3,
      rw (s.invariant.4, add-one) (paste-suc a.f.now a.at a.ws.now s.i 0 (omega arith) (omega arith)),
    )

returns : tie.Need-returns invariant-loop decreases-loop
returns c =
    let s = c.loop-i in
    let a = c.args in
    let e : s.i ≡ a.n = omega arith in
    s.invariant.4 ∙ (ap (λ (k : ℕ). paste a.f.now a.at a.ws.now k) e ∙ append_assoc (take a.at a.f.now) (take a.n a.ws.now) (drop (a.at + a.n) a.f.now))

pub copy_words_spec : {M : Type 1} → statement M
copy_words_spec =
    tie.close
    (tie.spec
    invariant-loop
    decreases-loop
    loop-holds
    (λ c. omega arith)
    (λ c. omega arith)
    (λ c. omega arith)
    (λ c. omega arith)
    (λ c. omega arith)
    (λ c. omega arith)
    (λ c. omega arith)
    loop-again
    (λ c. search rules)
    returns)
