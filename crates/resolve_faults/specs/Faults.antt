-- The first type that does not resolve, among what is resolved of each declaration (`resolves_of`), in the
-- order of the declarations. Assumes nothing.
use Rattle.std.specs.Prelude.{List, [], ◌∷◌, ℕ, ◌*◌, ◌≤◌, ◌<◌, length, ◌≡◌, Ok, Err}
use Rattle.std.specs.Prelude as prelude
use Rattle.sheet.specs.Line.{Line}
use Rattle.sheet.proofs.ListLaws.{Every}
use Rattle.meaning.specs.Program.{field_line}
use Rattle.meaning.specs.Rows.{count_of}
use Rattle.model.specs.Resolve.{Result, ok}
use Rattle.table_access.specs.Tables.{decls_of}
use Rattle.resolve_outcomes.specs.Answer.{Told}
use Rattle.resolve_outcomes.specs.Leads.{Leads}
use Rattle.resolve_memory.specs.Slots.{Slots}
use Rattle.keep_layouts.specs.States.{resolves_of}
use Rattle.resolve_laws.specs.Resolver.{Setup, fuel_of, call_of, type_of_decl}
use Rattle.resolve_faults.specs.declared.First.{First}

-- what is asked: beside what the resolution asks, an entry for each F line
pub record Kept (ls : List Line) (t u keep : List ℕ) : Type 0 where
  pub setup : Setup ls t u
  pub fields : count_of field_line ls ≤ length keep

-- a type resolves: every fuel that is not spent gives this outcome
pub record Fine (e : ℕ → Result ℕ) : Type 0 where
  pub outcome : ℕ
  pub value : 4 ≤ outcome
  pub gives : (j : ℕ) → Leads (e j) (ok outcome)

module _ (ls : List Line) (u : List ℕ) (d room : ℕ) where
  -- What the number r says of types of declaration d, looked at in turn with so many places to work in: all
  -- resolve, or those before one do, and of that one r says why it does not.
  pub data Answers : List ℕ → ℕ → Type 0 where
    clear : {r : ℕ} → 4 ≤ r → Answers [] r
    stops : {y : ℕ} {ys : List ℕ} {r : ℕ} → r < 4 → Told (type_of_decl ls u d y) (fuel_of ls) r (room < 1024 * fuel_of ls) r → Answers (y ∷ ys) r
    goes : {y : ℕ} {ys : List ℕ} {r : ℕ} → Fine (type_of_decl ls u d y) → Answers ys r → Answers (y ∷ ys) r

  -- and every remembered call has its answer
  pub record Went (ys : List ℕ) (r : ℕ) (slots : List ℕ) : Type 0 where
    pub answers : Answers ys r
    pub slots_right : Slots (call_of ls u) slots

-- all that is resolved of declaration d resolves
abbrev pub AllFine : List Line → List ℕ → List ℕ → ℕ → Type 0
AllFine ls u keep d = Every (λ y. Fine (type_of_decl ls u d y)) (resolves_of ls u keep d)

-- those before one do, and of that one the answer says why it does not
pub record Stopped (ls : List Line) (u keep : List ℕ) (room : ℕ) (r : First) : Type 0 where
  pub fine : (d : ℕ) → d < r.decl → AllFine ls u keep d
  pub inside : r.decl < decls_of ls
  pub below : r.answer < 4
  pub stops : Answers ls u r.decl room (resolves_of ls u keep r.decl) r.answer

-- All declarations resolve; or the search stopped at one.
abbrev pub Firstly : List Line → List ℕ → List ℕ → ℕ → prelude.Result (Unit {0}) First → Type 0
Firstly ls u keep room (Ok x) = (d : ℕ) → d < decls_of ls → AllFine ls u keep d
Firstly ls u keep room (Err r) = Stopped ls u keep room r
