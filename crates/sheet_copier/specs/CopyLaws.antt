-- What stands in a part while bytes are copied into it. Assumes nothing.
use Rattle.std.specs.Prelude.{◌≡◌, List, ◌++◌, ℕ, ◌+◌, ◌≤◌, ◌<◌, length, take, drop, get_or, set}
use Rattle.std.proofs.Common.{append_assoc, arith, add-one, drop-cons, take-suc, length-take-le}
use Rattle.std.proofs.lemmas.List.{set_at}

-- one more byte of s laid over d
pub copy_more : (s d : List ℕ) (i : ℕ) → i < length s → length s ≤ length d → set (take i s ++ drop i d) i (get_or s i 0) ≡ take (i + 1) s ++ drop (i + 1) d
copy_more s d i h l =
    let k : i < length d = omega arith in
    let m : i ≤ length s = omega arith in
    let e : length (take i s) ≡ i = length-take-le i s m in
    rw (add-one, drop-cons d i 0, set_at, take-suc s i 0, append_assoc)
