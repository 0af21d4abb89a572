-- What the rules of erasure say of a declaration by its lines, and what is kept of it from round to round. Assumes nothing.
use Rattle.std.specs.Prelude.{◌≡◌, List, map, Bool, true, false, ℕ, suc, ◌≤◌, ◌<◌, length, get_or}
use Rattle.sheet.specs.Line.{Line, number}
use Rattle.model.specs.Decl.{close_body}
use Rattle.model.specs.Erasure.{marked, body_erased, rule}
use Rattle.meaning.specs.Program.{type_line, param_line, field_line, select, trees, body_of, program}
use Rattle.meaning.specs.Rows.{count_of}
use Rattle.table_access.specs.Tables.{nth, group, head_line, decls_of, first_of}
use Rattle.erasure_marks.specs.Marks.{marks_of, type_erased, Marks}
use Rattle.erasure_laws.specs.declared.Ruled.{Ruled}
use Rattle.erasure_laws.specs.declared.Field.{Field}
use Rattle.erasure_laws.specs.declared.Way as ways
use Rattle.erasure_laws.specs.declared.Way.TheVariants as by

pub record Higher (a b r : ℕ) : Type 0 where
  pub left : a ≤ r
  pub right : b ≤ r
  pub one : (c : ℕ) → a ≤ c → b ≤ c → r ≤ c

-- the body kind and the last number of declaration d
abbrev pub kind_of : List Line → ℕ → ℕ
kind_of ls d = number (head_line ls d) 2

abbrev pub last_of : List Line → ℕ → ℕ
last_of ls d = number (head_line ls d) 4

-- the type of field f
abbrev pub field_type : List Line → ℕ → ℕ
field_type ls f = number (nth field_line ls f) 1

-- the fields before `end` have types
pub record Below (ls : List Line) (end : ℕ) : Type 0 where
  pub fields : end ≤ count_of field_line ls
  pub types : (f : ℕ) → f < end → field_type ls f < count_of type_line ls

-- whether the rules erase declaration d where declarations have the marks m
abbrev pub decl_erased : List Line → List Bool → ℕ → Bool
decl_erased ls m d = rule (program ls) m d

-- the fields of declaration d before field e are erased
abbrev pub Erased : List Line → List Bool → ℕ → ℕ → Type 0
Erased ls m d e = (f : ℕ) → first_of field_line ls d ≤ f → f < e → type_erased ls m (field_type ls f) ≡ true

-- declaration d is erased when all its fields are
pub record ByFields (ls : List Line) (d : ℕ) : Type 0 where
  pub all : (m : List Bool) → Erased ls m d (first_of field_line ls (suc d)) → decl_erased ls m d ≡ true
  pub some : (m : List Bool) (f : ℕ) → first_of field_line ls d ≤ f → f < first_of field_line ls (suc d) → type_erased ls m (field_type ls f) ≡ false → decl_erased ls m d ≡ false

-- declaration d is erased when the type of its last number is
pub record ByType (ls : List Line) (d : ℕ) : Type 0 where
  pub by : (m : List Bool) → decl_erased ls m d ≡ type_erased ls m (number (head_line ls d) 4)

-- declaration d is erased when its body is
pub record ByBody (ls : List Line) (d : ℕ) : Type 0 where
  pub by : (m : List Bool)
      → decl_erased ls m d ≡ body_erased (marked (program ls) m) (close_body (map (λ l. number l 0) (select param_line (group ls d).rest)) (body_of (trees ls) (number (head_line ls d) 2) (number (head_line ls d) 4) (group ls d).rest))

-- by what the rules judge declaration d: it is erased or kept whatever is marked, or erased as the type of its last number or
-- its fields are
pub record Way (ls : List Line) (d : ℕ) (r : ways.Way) : Type 0 where
  pub erased : r ≡ by.Erased → (m : List Bool) → decl_erased ls m d ≡ true
  pub kept : r ≡ by.Kept → (m : List Bool) → decl_erased ls m d ≡ false
  pub type : r ≡ by.AsType → ByType ls d
  pub typed : r ≡ by.AsType → last_of ls d < count_of type_line ls
  pub fields : r ≡ by.AsFields → ByFields ls d

-- the first field from field `from` on that is kept, or `end`; and the marks of types after the search
pub record Found (ls : List Line) (m : List Bool) (node member : List ℕ) (from end : ℕ) (r : Field) : Type 0 where
  pub marks : Marks ls m node member r.right
  pub low : from ≤ r.number
  pub within : r.number ≤ end
  pub passed : (f : ℕ) → from ≤ f → f < r.number → type_erased ls m (field_type ls f) ≡ true
  pub stops : r.number < end → type_erased ls m (field_type ls r.number) ≡ false

-- The fields of each declaration before its place are erased; and a declaration is kept as long as the type is that it waits for.
pub record Places (ls : List Line) (m : List Bool) (field wait : List ℕ) : Type 0 where
  pub field_size : length field ≡ decls_of ls
  pub wait_size : length wait ≡ decls_of ls
  pub within : (d : ℕ) → d < decls_of ls → get_or field d 0 ≤ first_of field_line ls (suc d)
  pub passed : (d : ℕ) → d < decls_of ls → Erased ls m d (get_or field d 0)
  pub waits : (d : ℕ) → d < decls_of ls → get_or wait d 0 < count_of type_line ls → (n : List Bool) → type_erased ls n (get_or wait d 0) ≡ false → decl_erased ls n d ≡ false

-- what is known between declarations
pub record State (ls : List Line) (decl node member field wait : List ℕ) (right : ℕ) : Type 0 where
  pub decl_size : length decl ≡ decls_of ls
  pub marks : Marks ls (marks_of decl) node member right
  pub places : Places ls (marks_of decl) field wait

-- and whether the rules erase declaration d
pub record Ruling (ls : List Line) (decl node member field wait : List ℕ) (d : ℕ) (r : Ruled) : Type 0 where
  pub state : State ls decl node member field wait r.right
  pub answer : r.erased ≡ decl_erased ls (marks_of decl) d
