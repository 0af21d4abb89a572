-- The declarations of a rank stand within its bounds. Assumes nothing.
use Rattle.std.specs.Prelude.{◌≡◌, refl, List, ℕ, zero, suc, ◌<◌, length, get_or, replicate}
use Rattle.std.proofs.Common.{sym, arith}
use Rattle.form_tables.specs.Bounds.{Starts, Ends}
use Rattle.form_ranks.specs.Next.{Within}

pub within : (rank : List ℕ) (n r : ℕ) (start end : List ℕ) → Starts rank (length start) start → Ends rank (length end) end → length rank ≡ n → r < length start → r < length end
    → Within rank n r (get_or start r 0) (get_or end r 0)
within rank n r start end s e l p q =
    record { most = omega (arith, e.most r); inside = λ d h z. (rw (sym z) (s.inside d (omega arith) (omega arith) (omega arith)), rw (sym z) (e.inside d (omega arith) (omega arith))) }

-- no rank has an end at the start
pub zeros : (n i : ℕ) → ◌≡◌ {A = ℕ} (get_or (replicate n 0) i 0) 0
zeros zero i = refl
zeros (suc n) zero = refl
zeros (suc n) (suc i) = zeros n i
