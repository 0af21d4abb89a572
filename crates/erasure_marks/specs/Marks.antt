-- What the marks of types and the places in tuples' lists mean. Assumes nothing.
use Rattle.std.specs.Prelude.{◌≡◌, List, map, Bool, true, ℕ, ◌+◌, ◌≤◌, ◌<◌, eqb, length, get_or}
use Rattle.sheet.specs.Line.{Line, number}
use Rattle.model.specs.Cty.{TUnit}
use Rattle.model.specs.Erasure.{cty_erased, marked}
use Rattle.meaning.specs.Program.{arg_line, type_line, trees, program}
use Rattle.meaning.specs.Rows.{count_of}
use Rattle.model.specs.Decl.{bit}
use Rattle.table_access.specs.Tables.{nth}

-- number k of Y line y, and the type of A line i
abbrev pub part : List Line → ℕ → ℕ → ℕ
part ls y k = number (nth type_line ls y) k

abbrev pub arg_of : List Line → ℕ → ℕ
arg_of ls i = number (nth arg_line ls i) 0

-- marks of declarations, as the definitions have them
abbrev pub marks_of : List ℕ → List Bool
marks_of ms = map (λ x. eqb x 1) ms

-- whether type y is erased where declarations have the marks m
unfoldable pub type_erased : List Line → List Bool → ℕ → Bool
type_erased ls m y = cty_erased (marked (program ls) m) (get_or (trees ls) y TUnit)

-- ---- a tuple
-- the members of a list have marks
abbrev pub Listed : List Line → List ℕ → ℕ → ℕ → Type 0
Listed ls node first count = (j : ℕ) → j < count → (first + j < count_of arg_line ls) × (arg_of ls (first + j) < length node)

-- the members before j are marked
abbrev pub Before : List Line → List ℕ → ℕ → ℕ → Type 0
Before ls node first j = (i : ℕ) → i < j → get_or node (arg_of ls (first + i)) 0 ≡ 0 → ⊥

-- r is the first member from member `from` on that is not marked, or the count of members
pub record Found (ls : List Line) (node : List ℕ) (first count from r : ℕ) : Type 0 where
  pub within : r ≤ count
  pub passed : Before ls node first from → Before ls node first r
  pub stops : r < count → get_or node (arg_of ls (first + r)) 0 ≡ 0

-- type y is a tuple whose members have marks, and its place is behind marked members
pub record Tuple (ls : List Line) (node member : List ℕ) (y : ℕ) : Type 0 where
  pub typed : y < count_of type_line ls
  pub sized : y < length member
  pub listed : Listed ls node (part ls y 1) (part ls y 2)
  pub few : part ls y 2 < 65536
  pub within : get_or member y 0 ≤ part ls y 2

-- whether all its members are marked, and its place after that
pub record Tupled (ls : List Line) (node member member' : List ℕ) (y : ℕ) (r : Bool) : Type 0 where
  pub sized : length member' ≡ length member
  pub others : (z : ℕ) → (z ≡ y → ⊥) → get_or member' z 0 ≡ get_or member z 0
  pub within : get_or member' y 0 ≤ part ls y 2
  pub passed : Before ls node (part ls y 1) (get_or member y 0) → Before ls node (part ls y 1) (get_or member' y 0)
  pub stops : get_or member' y 0 < part ls y 2 → get_or node (arg_of ls (part ls y 1 + get_or member' y 0)) 0 ≡ 0
  pub answer : r ≡ eqb (get_or member' y 0) (part ls y 2)

-- ---- all types
-- a tuple's place is behind erased members
pub record Placed (ls : List Line) (m : List Bool) (member : List ℕ) (y : ℕ) : Type 0 where
  pub within : get_or member y 0 ≤ part ls y 2
  pub erased : (j : ℕ) → j < get_or member y 0 → type_erased ls m (arg_of ls (part ls y 1 + j)) ≡ true

-- The marks of the types below n are right where declarations have the marks m.
pub record Marks (ls : List Line) (m : List Bool) (node member : List ℕ) (n : ℕ) : Type 0 where
  pub node_size : length node ≡ count_of type_line ls
  pub member_size : length member ≡ count_of type_line ls
  pub low : n ≤ count_of type_line ls
  pub right : (y : ℕ) → y < n → get_or node y 0 ≡ bit (type_erased ls m y)
  pub placed : (y : ℕ) → y < count_of type_line ls → part ls y 0 ≡ 9 → Placed ls m member y

-- the marks of the types below y, and whether type y is erased
pub record Marked (ls : List Line) (m : List Bool) (node member : List ℕ) (y : ℕ) (r : Bool) : Type 0 where
  pub marks : Marks ls m node member y
  pub answer : r ≡ type_erased ls m y
