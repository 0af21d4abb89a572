-- What the functions of the resolution by outcomes ask and answer. Assumes nothing.
use Rattle.std.specs.Prelude.{◌⊎◌, ◌≡◌, List, [], ℕ, suc, ◌+◌, ◌-◌, ◌*◌, ◌≤◌, ◌<◌, length, get_or, drop}
use Rattle.sheet.specs.Line.{Line}
use Rattle.model.specs.Cty.{size}
use Rattle.model.specs.Decl.{position}
use Rattle.meaning.specs.Program.{type_line, program}
use Rattle.meaning.specs.Rows.{count_of}
use Rattle.model.specs.Resolve.{Result, ok}
use Rattle.table_access.specs.Tables.{decls_of, TableOf}
use Rattle.resolve_outcomes.specs.Outcome.{called, eval, evals, ev}
use Rattle.resolve_outcomes.specs.Answer.{Told}
use Rattle.resolve_outcomes.specs.Leads.{Leads}
use Rattle.resolve_outcomes.specs.Scratch.{part, Same, Nodes}
use Rattle.resolve_kids.specs.Nodes.{kind_of, type_of}
use Rattle.resolve_kids.specs.Params.{params_of}
use Rattle.keep_layouts.specs.States.{unfold_at, lay_of}
use Rattle.resolve_weights.specs.Weigh.{kid_types}
use Rattle.resolve_memory.specs.Slots.{Slots}

-- two cells for each declaration, and a Y line where a name is unfolded
pub record States (ls : List Line) (u : List ℕ) : Type 0 where
  pub long : length u ≡ 2 * decls_of ls
  pub bodies : (d : ℕ) → d < decls_of ls → (get_or u (2 * d) 3 ≡ 1) ⊎ (get_or u (2 * d) 3 ≡ 2) → get_or u (2 * d + 1) 0 < count_of type_line ls

pub record Setup (ls : List Line) (t u : List ℕ) : Type 0 where
  pub tabled : TableOf ls t
  pub states : States ls u

-- ---- evaluations, by fuel
module _ (ls : List Line) (u : List ℕ) where
  abbrev pub call_of : ℕ → List ℕ → ℕ → Result ℕ
  call_of n os j = called 1024 (ev 1024 (lay_of ls u) j) os (lay_of ls u n)

  -- a declaration's call
  abbrev pub enter_of : ℕ → List ℕ → ℕ → Result ℕ
  enter_of d os j = called 1024 (ev 1024 (lay_of ls u) j) os (unfold_at ls u d)

  -- Y line y's type in declaration d, at arguments with the outcomes os, with the surplus es
  abbrev pub eval_of : ℕ → List ℕ → ℕ → List ℕ → ℕ → Result ℕ
  eval_of d os y es j = eval 1024 (lay_of ls u) (ev 1024 (lay_of ls u) j) (params_of ls d) os (type_of ls y) es

  -- the first n of its parts
  abbrev pub evals_of : ℕ → List ℕ → ℕ → ℕ → ℕ → Result (List ℕ)
  evals_of d os y n j = evals 1024 (lay_of ls u) (ev 1024 (lay_of ls u) j) (params_of ls d) os (kid_types ls y n)

  -- Y line y's type as it stands in declaration d
  abbrev pub type_of_decl : ℕ → ℕ → ℕ → Result ℕ
  type_of_decl d y j = ev 1024 (lay_of ls u) j (params_of ls d) [] (type_of ls y)

-- the last `over` of the `count` outcomes from place `at` on
abbrev pub last_of : ℕ → ℕ → ℕ → List ℕ → List ℕ
last_of at count over out = drop (count - over) (part at count out)

-- ---- what is asked
-- the `count` outcomes from place `at` on are arguments
pub record Args (out : List ℕ) (at count top : ℕ) : Type 0 where
  pub inside : at + count ≤ top
  pub room : top ≤ length out
  pub nodes : Nodes (part at count out)

pub record Place (ls : List Line) (t u : List ℕ) (y d : ℕ) : Type 0 where
  pub setup : Setup ls t u
  pub type : y < count_of type_line ls
  pub decl : d < decls_of ls

-- Where Y line y is the one last evaluated, its outcome stands before place `top`.
pub record Again (ls : List Line) (u : List ℕ) (d : ℕ) (os : List ℕ) (y last top : ℕ) (out : List ℕ) : Type 0 where
  pub behind : y ≡ last → 0 < top
  pub node : y ≡ last → 4 ≤ get_or out (top - 1) 0
  pub gives : y ≡ last → (j : ℕ) → Leads (eval_of ls u d os y [] j) (ok (get_or out (top - 1) 0))

-- ---- what is answered
-- fuel for a chain through all declarations; with 1,024 places for each unit of it there is always room
abbrev pub fuel_of : List Line → ℕ
fuel_of ls = suc (decls_of ls)

-- Short: how little room there is, with fuel k, for what has yet to wait above place `top`
abbrev pub Short : List ℕ → ℕ → ℕ → Type 0
Short out top k = length out < top + 1024 * k

pub record Found (e : ℕ → Result ℕ) (k room top : ℕ) (out out' : List ℕ) (call : ℕ → List ℕ → ℕ → Result ℕ) (slots' : List ℕ) (r : ℕ) : Type 0 where
  pub told : Told e k r (Short out room k) r
  pub small : r < 65536
  pub kept : Same top out' out
  pub slots : Slots call slots'

-- a list's outcomes stand from place `top` on
pub record FoundAll (e : ℕ → Result (List ℕ)) (k room top n : ℕ) (out out' : List ℕ) (call : ℕ → List ℕ → ℕ → Result ℕ) (slots' : List ℕ) (r : ℕ) : Type 0 where
  pub told : Told e k (part top n out') (Short out room k) r
  pub kept : Same top out' out
  pub fit : 4 ≤ r → top + n ≤ length out
  pub nodes : 4 ≤ r → Nodes (part top n out')
  pub slots : Slots call slots'

-- the first i outcomes of a list stand there
pub record Done (e : ℕ → ℕ → Result (List ℕ)) (top i : ℕ) (out₀ out : List ℕ) (call : ℕ → List ℕ → ℕ → Result ℕ) (slots' : List ℕ) : Type 0 where
  pub leads : (j : ℕ) → Leads (e i j) (ok (part top i out))
  pub kept : Same top out out₀
  pub fit : top + i ≤ length out₀
  pub nodes : Nodes (part top i out)
  pub slots : Slots call slots'

-- what is answered of name n's call with nothing unfolded: r, or 0 where the name is unfolded
pub record Answered (ls : List Line) (u : List ℕ) (n at count : ℕ) (out slots : List ℕ) (r : ℕ) : Type 0 where
  pub found : (r ≡ 0 → ⊥) → (k : ℕ) → Found (call_of ls u n (part at count out)) k (at + count) (at + count) out out (call_of ls u) slots r
  pub here : r ≡ 0 → get_or u (2 * position (program ls) n) 3 ≡ 0 → ⊥
  pub least : r ≡ 0 → get_or u (2 * position (program ls) n) 3 ≤ 2

-- what the tests of declaration d's call say: the answer r, or 1 where its body, Y line y's type, has it
pub record Entered (ls : List Line) (u : List ℕ) (y d at count : ℕ) (out : List ℕ) (k r : ℕ) : Type 0 where
  pub found : (r ≡ 1 → ⊥) → (slots : List ℕ) → Slots (call_of ls u) slots → Found (enter_of ls u d (part at count out)) k (at + count) (at + count) out out (call_of ls u) slots r
  pub fuel : r ≡ 1 → 0 < k
  pub enough : r ≡ 1 → length (params_of ls d) ≤ count
  pub bare : r ≡ 1 → kind_of ls y ≡ 3 → count - length (params_of ls d) ≡ 0
  pub goes : r ≡ 1 → (slots : List ℕ) → Slots (call_of ls u) slots → (over : ℕ) → over ≡ count - length (params_of ls d) → (r' : ℕ) (out' slots' : List ℕ)
      → Found (eval_of ls u d (part at count out) y (last_of at count over out)) (k - 1) (at + count + size (type_of ls y) + over) (at + count) out out' (call_of ls u) slots' r'
      → Found (enter_of ls u d (part at count out)) k (at + count) (at + count) out out' (call_of ls u) slots' r'
