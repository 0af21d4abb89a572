-- `pattern_ctors::put` meets its contract, cell after cell. Assumes nothing.
use native.Mathlib.Omega.{arith}
use native.Mathlib.Numerals.{add-one}
use lib.ListN.{length-set}
use borrow.Author.Rules.{rules}
use Rattle.pattern_ctors.specs.Sites.{put_site}
use Rattle.pattern_ctors.proofs.put.Statement.{statement}
use Rattle.pattern_ctors.proofs.put.Tie as tie

slice-write-m-2 : tie.Need-bounds-m-i-2
slice-write-m-2 c = rw length-set (omega arith)

returns : tie.Need-returns
unfolding put_site
returns c = rw add-one

pub put_spec : {M : Type 1} → statement M
put_spec =
    tie.close
    (tie.spec
    (λ c. search rules)
    (λ c. search rules)
    (λ c. search rules)
    (λ c. search rules)
    (λ c. search rules)
    (λ c. search rules)
    (λ c. search rules)
    (λ c. search rules)
    slice-write-m-2
    (λ c. search rules)
    (λ c. search rules)
    (λ c. search rules)
    (λ c. search rules)
    (λ c. search rules)
    returns)
