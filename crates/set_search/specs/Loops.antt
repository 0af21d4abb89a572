-- Which starts reach themselves, and how many nodes each node reaches. Assumes nothing.
use Rattle.std.specs.Prelude.{◌≡◌, List, Option, None, Some, ℕ, ◌<◌, eqb, length, get_or}
use Rattle.number_columns.specs.Column.{pick}
use Rattle.sheet.specs.Sheet.{first}
use Rattle.model.specs.Decl.{bit}
use Rattle.model.specs.Reach.{cyclic}
use Rattle.model_laws.specs.Reach.{rank}

-- 1 where the start reaches itself
abbrev pub start : Option ℕ → ℕ
start None = 1
start (Some c) = 0

-- the mark of node i: 1 where it is a start, its entry not `none`, and reaches itself
unfoldable pub mark : (ℕ → List ℕ) → List ℕ → ℕ → ℕ → ℕ
mark next starts none i = pick (eqb (get_or starts i 0) none) 0 (bit (cyclic next (length starts) i))

-- the first k nodes have their marks
pub record Looped (next : ℕ → List ℕ) (starts : List ℕ) (none k : ℕ) (s s' : List ℕ) : Type 0 where
  pub long : length s' ≡ length s
  pub marked : (i : ℕ) → i < k → get_or s' i 0 ≡ mark next starts none i

-- the ranks of the first k of n nodes
pub record Ranked (next : ℕ → List ℕ) (n k : ℕ) (s s' : List ℕ) : Type 0 where
  pub long : length s' ≡ length s
  pub ranks : (i : ℕ) → i < k → get_or s' i 0 ≡ rank next n i

-- the first node that reaches itself, and the ranks of those before it
pub record First (next : ℕ → List ℕ) (n r : ℕ) (s s' : List ℕ) : Type 0 where
  pub is : r ≡ first (cyclic next n) n
  pub before : Ranked next n r s s'
