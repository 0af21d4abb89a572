-- `set_bits::insert` meets its contract. Assumes nothing.
use mathlib.Core.Path.{ap, ◌∙◌}
use Prim.Native.Nat.{ℕ, ◌+◌, ◌/◌, ◌%◌, ◌^◌}
use native.Mathlib.Nat.{one-mul}
use native.Mathlib.Omega.{arith}
use lib.Bits.{bit_or}
use lib.Dec.{lit<}
use lib.ListN.{get_or, set}
use lib.Pow.{shl_exact}
use Rattle.set_bits.specs.Bits.{inserted}
use borrow.Author.Rules.{rules}
use Rattle.set_bits.proofs.insert.Statement.{statement}
use Rattle.set_bits.proofs.insert.Tie as tie

returns : tie.Need-returns
unfolding inserted
returns c =
    let a = c.args in
    ap (λ (x : ℕ). set a.s.now (a.at + a.m / 64) (bit_or (get_or a.s.now (a.at + a.m / 64) 0) x)) (shl_exact 1 (a.m % 64) 64 (lit< tt) (omega arith) ∙ one-mul (2 ^ (a.m % 64)))

pub insert_spec : {M : Type 1} → statement M
insert_spec =
    tie.close (tie.spec (λ c. search rules) (λ c. search rules) (λ c. search rules) (λ c. search rules) (λ c. search rules) (λ c. search rules) (λ c. search rules) returns)
