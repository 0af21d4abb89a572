-- The model's own tests: small programs written as data, and what the model's functions give for
-- them, in tables under a claim each. Every line of every leaf is reached. Assumes nothing.
use Rattle.std.specs.Prelude.{◌≡◌, Bool, true, false, eqb, length, replicate}
use Rattle.std.proofs.Math.Path.{refl}
use mathlib.Core.List.{List, [], ◌∷◌, ◌++◌, map}
use Rattle.std.proofs.Math.Option.{Option, none, some}
use Prim.Native.Nat.{ℕ, ◌+◌, ◌-◌}
use Rattle.number_columns.specs.Column.{pick, ◌⇒◌∥◌}
use Rattle.model.specs.Cty.{
  Cty,
  Ctys,
  TUnit,
  TAny,
  TExn,
  TVar,
  TInt,
  TFloat,
  TConst,
  TArrow,
  TApp,
  TTuple,
  TBuf,
  TRef,
  TInline,
  nil,
  cons,
  lengths,
  append,
  firsts,
  others,
  walk,
  gather,
  names_of_cty,
  cty_vars,
  size,
  uninline,
  zip,
  look,
  subst_cty,
}
use Rattle.model.specs.Decl.{
  Field,
  Ctor,
  Body,
  TAbstract,
  TAbbrev,
  TRecord,
  TVariant,
  Dtype,
  Erased,
  Realized,
  NoNewtype,
  NoUnfold,
  SourceRecord,
  has_flag,
  ctors_of,
  CtorLayout,
  Layout,
  L_erased,
  L_newtype,
  L_struct,
  L_abbrev,
  L_opaque,
  bit,
  layout_number,
  TypeInfo,
  here,
  imported,
  Decl,
  table,
  position,
  member,
  close,
  close_field,
  close_body,
  close_fields,
}
use Rattle.model.specs.Erasure.{round, cty_erased, fields_erased, body_erased, dtype_erased, marked, rule_of, rule, update, sweep, same, Settled, settle, start_of, start, erasure_fixpoint}
use Rattle.model.specs.Reach.{go, cyclic}
use Rattle.model.specs.Layout.{slots, kept, ctor_layout, ctor_layouts, first_kept, newtype_of_ctor, newtype_of, candidate, candidates, positions, type_names, steps, payload, source_passes, passed, passes, guard_next, dropped, collapse, layout_of_body, layout_of, compute_layouts, source_layouts}
use Rattle.model.specs.Resolve.{Unfold, gone, newtype, abbreviation, stays, unfolded, abbreviation_of, unfold_body, unfold_dtype, unfold_of, unfolds, unfold_name, attach, instance, applied, resolve, Result, ok, fault, spent, bind, sized, within, surplus, checked_applied, checked, resolve_checked}
use Rattle.model.specs.Run.{all_in, collapsed_abbrev, resolved_field, resolved_ctor, struct_body, rw_decl, record_body, record_verdict, record_of, info, layouts_of, Ran, run, unfold_next, returns, field_types, resolves, fault_code, decl_fault}
use Rattle.model.specs.Names.{fields_names, ctors_names, body_names, dtype_names, undeclared, pins}

-- ---- how a case is written
pub record Case (A : Type 0) : Type 0 where
  pub given : A
  pub expected : A

infix 70 ◌gives◌
abbrev pub ◌gives◌ : {A : Type 0} → A → A → Case A
◌gives◌ a b = record { given = a; expected = b }

abbrev pub Passed : {A : Type 0} → List (Case A) → Type 0
Passed cs = map (λ c. c.given) cs ≡ map (λ c. c.expected) cs

-- Names of types, which are not the places of their declarations: `e` is erased in the tables below,
-- and `l` is declared by no program.
abbrev pub e : ℕ
e = 9

abbrev pub l : ℕ
l = 8

abbrev pub p : ℕ
p = 7

abbrev pub q : ℕ
q = 6

abbrev pub t : ℕ
t = 5

abbrev pub w : ℕ
w = 4

abbrev pub r : ℕ
r = 3

-- of parameters, constructors and fields
abbrev pub α : ℕ
α = 10

abbrev pub β : ℕ
β = 11

abbrev pub A : ℕ
A = 20

abbrev pub B : ℕ
B = 21

abbrev pub x : ℕ
x = 30

abbrev pub y : ℕ
y = 31

abbrev pub z : ℕ
z = 32

-- types
abbrev pub int : Cty
int = TInt 0 32

unfoldable pub list : List Cty → Ctys
list [] = nil
list (c ∷ cs) = cons c (list cs)

abbrev pub name : ℕ → Cty
name n = TApp n nil

abbrev pub app : ℕ → List Cty → Cty
app n cs = TApp n (list cs)

abbrev pub tuple : List Cty → Cty
tuple cs = TTuple (list cs)

-- declarations
abbrev pub field : ℕ → Cty → Field
field n c = record { fd_name = n; fd_type = c }

abbrev pub ctor : ℕ → List Field → Ctor
ctor n fs = record { ct_name = n; ct_fields = fs }

-- one constructor
abbrev pub one : ℕ → List Field → Body
one n fs = TVariant (ctor n fs ∷ [])

abbrev pub decl : ℕ → ℕ → List ℕ → Body → Decl
decl n flags ps b = record { dtype = record { dt_name = n; dt_flags = flags; dt_params = ps; dt_body = b }; origin = here }

abbrev pub import : Decl → TypeInfo → Decl
import d ti = record { dtype = d.dtype; origin = imported ti }

-- `n = c`, and `n` of one constructor A with one field x
abbrev pub abbr : ℕ → Cty → Decl
abbr n c = decl n 0 [] (TAbbrev c)

abbrev pub wrap : ℕ → Cty → Decl
wrap n c = decl n 0 [] (one A (field x c ∷ []))

-- verdicts
abbrev pub laid : ℕ → List Bool → List Field → CtorLayout
laid n bs fs = record { cl_name = n; cl_tag = none; cl_slots = bs; cl_fields = fs }

-- one of several, with its tag
abbrev pub tagged : ℕ → ℕ → List Bool → List Field → CtorLayout
tagged i n bs fs = record { cl_name = n; cl_tag = some i; cl_slots = bs; cl_fields = fs }

abbrev pub newt : ℕ → ℕ → ℕ → Cty → Layout
newt n f i c = L_newtype (record { nt_ctor = n; nt_field = f; nt_index = i; nt_ty = c })

abbrev pub verdict : Bool → Layout → List CtorLayout → Bool → TypeInfo
verdict er lay cls rec = record { ti_erased = er; ti_layout = lay; ti_ctors = cls; ti_record = rec }

-- ---- what is tested
-- The model's functions, each named here alone. First those over types.
abbrev pub kinds : List Cty
kinds =
    TUnit
    ∷ TAny
    ∷ TExn
    ∷ TVar α
    ∷ TInt 1 8
    ∷ TFloat 2
    ∷ TConst 3
    ∷ TArrow (name p) 2 (TVar β)
    ∷ app q (TVar α ∷ name p ∷ [])
    ∷ tuple (name t ∷ TVar β ∷ [])
    ∷ TBuf (name p)
    ∷ TRef 1 (TVar β)
    ∷ TInline (name q)
    ∷ []

-- α is a pair of α and β, and β an integer
unfoldable pub put_in : Cty → Cty
unfolding subst_cty walk look
put_in = subst_cty (record { param = α; arg = tuple (TVar α ∷ TVar β ∷ []) } ∷ record { param = β; arg = int } ∷ record { param = α; arg = TUnit } ∷ [])

unfoldable pub names : Cty → List ℕ
unfolding names_of_cty gather
names = names_of_cty

unfoldable pub vars : Cty → List ℕ
unfolding cty_vars gather
vars = cty_vars

unfoldable pub nodes : Cty → ℕ
unfolding size
nodes = size

unfoldable pub less_inline : Cty → Cty
unfolding uninline
less_inline = uninline

unfoldable pub closed : List ℕ → Body → Body
unfolding close_fields close_body close_field close walk member
closed ps b = (close_fields (decl t 0 ps b).dtype).dt_body

-- erasure, where `e` is erased and nothing else
abbrev pub er : ℕ → Bool
er n = eqb n e

unfoldable pub erased : Cty → Bool
unfolding cty_erased
erased = cty_erased er

unfoldable pub erased_decl : ℕ → Body → Bool
unfolding dtype_erased body_erased fields_erased cty_erased has_flag
erased_decl flags b = dtype_erased er (decl t flags [] b).dtype

unfoldable pub equal : List Bool → List Bool → Bool
unfolding same
equal = same

unfoldable pub settled : List Decl → Settled
unfolding erasure_fixpoint settle start start_of rule rule_of update sweep round same marked position dtype_erased body_erased fields_erased cty_erased has_flag
settled = erasure_fixpoint

-- layouts
unfoldable pub laid_out : Body → List CtorLayout
unfolding table ctor_layouts ctor_layout slots kept cty_erased ctors_of
laid_out b = ctor_layouts er (decl t 0 [] b).dtype

unfoldable pub layouts : List Decl → List Layout
unfolding layouts_of erasure_fixpoint settle start start_of rule rule_of update sweep round same marked position dtype_erased body_erased fields_erased cty_erased has_flag compute_layouts candidates candidate table ctor_layouts ctor_layout slots kept ctors_of first_kept newtype_of newtype_of_ctor uninline positions type_names steps passes passed abbreviation_of unfold_of unfold_dtype unfold_body names_of_cty gather guard_next dropped cyclic go collapse layout_of_body layout_of
layouts = layouts_of

-- with the source's guard
unfoldable pub source_laid : List Decl → List Layout
unfolding layouts source_layouts source_passes payload
source_laid ds = source_layouts ds (erasure_fixpoint ds).marks

unfoldable pub number_of : Layout → ℕ
unfolding layout_number
number_of = layout_number

unfoldable pub place_in : List Decl → ℕ → ℕ
unfolding position
place_in = position

-- where the first field is kept
unfoldable pub kept_at : List Bool → ℕ
unfolding first_kept
kept_at = first_kept

-- The search, and the rounds, by their fuel: whether 1 stands behind 0, which leads to itself; one mark to be set.
unfoldable pub search : ℕ → Bool
unfolding go
search k = go (λ n. n ∷ []) k 1 (0 ∷ 1 ∷ []) (false ∷ false ∷ [])

unfoldable pub rounds_by : ℕ → Settled
unfolding settle round sweep update same
rounds_by k = settle (λ s i. true) k (false ∷ [])

-- resolution
unfoldable pub becomes : ℕ → Body → Layout → Unfold
unfolding unfold_of unfold_dtype unfold_body has_flag
becomes flags b lay = unfold_of (decl t flags (α ∷ []) b).dtype lay

unfoldable pub unfold_in : List Decl → List Layout → ℕ → Unfold
unfolding unfold_name unfolds unfold_of unfold_dtype unfold_body has_flag position table
unfold_in = unfold_name

unfoldable pub given_more : Cty → Cty
unfolding attach append list
given_more c = attach c (list (int ∷ TAny ∷ []))

unfoldable pub resolved : (ℕ → Unfold) → ℕ → Cty → Cty
unfolding resolve applied instance attach append firsts others lengths zip look subst_cty walk
resolved = resolve

unfoldable pub checks : (ℕ → Unfold) → ℕ → ℕ → Cty → Result Cty
unfolding resolve_checked checked checked_applied surplus within sized bind size attach append instance firsts others lengths zip look subst_cty walk
checks lay limit k = resolve_checked limit lay k

-- the pass
-- a declaration named `t`, with a flag, and what it leaves where resolving makes a buffer of each type
abbrev pub dtype_of : List ℕ → Body → Dtype
dtype_of ps b = (decl t Realized ps b).dtype

unfoldable pub left : List ℕ → Body → Layout → Option Dtype
unfolding rw_decl collapsed_abbrev all_in member cty_vars names_of_cty gather resolved_field resolved_ctor struct_body
left ps b lay = rw_decl TBuf (dtype_of ps b) lay

unfoldable pub recorded : ℕ → Body → Bool
unfolding record_verdict record_body has_flag
recorded flags b = record_verdict (decl t flags [] b).dtype

unfoldable pub ran : List Decl → Ran
unfolding run layouts resolved rw_decl collapsed_abbrev all_in member cty_vars resolved_field resolved_ctor struct_body unfold_name unfolds unfold_of unfold_dtype unfold_body record_verdict record_body record_of info
ran = run 100

unfoldable pub returning : List Decl → List Bool
unfolding layouts returns unfold_next steps type_names unfolded unfolds unfold_of unfold_dtype unfold_body
returning ds = table (returns ds (layouts ds)) (length ds)

-- the code of each declaration, with at most so many nodes
unfoldable pub faults : ℕ → List Decl → List ℕ
unfolding layouts decl_fault fault_code resolves field_types unfold_name unfolds unfold_of unfold_dtype unfold_body checks
faults limit ds = table (decl_fault limit 100 ds (layouts ds)) (length ds)

-- the names that a declaration mentions, and those that are foreign
unfoldable pub mentioned : Body → List ℕ
unfolding dtype_names body_names ctors_names fields_names names_of_cty gather
mentioned b = dtype_names (decl t 0 [] b).dtype

unfoldable pub foreign : List Decl → ℕ → Bool
unfolding undeclared position
foreign = undeclared

unfoldable pub all_pinned : List Decl → List TypeInfo → List Decl
unfolding pins
all_pinned = pins

-- ---- walks over types
-- each kind, its variables replaced at once
unfoldable pub put_in_cases : List (Case Cty)
unfolding put_in list
put_in_cases =
    put_in TUnit gives TUnit
    ∷ put_in TAny gives TAny
    ∷ put_in TExn gives TExn
    ∷ put_in (TVar α) gives tuple (TVar α ∷ TVar β ∷ [])
    ∷ put_in (TVar e) gives TVar e
    ∷ put_in (TInt 1 8) gives TInt 1 8
    ∷ put_in (TFloat 2) gives TFloat 2
    ∷ put_in (TConst 3) gives TConst 3
    ∷ put_in (TArrow (TVar β) 2 (TVar e)) gives TArrow int 2 (TVar e)
    ∷ put_in (TArrow (TVar e) 1 (TVar β)) gives TArrow (TVar e) 1 int
    ∷ put_in (app α (TVar e ∷ TVar β ∷ [])) gives app α (TVar e ∷ int ∷ [])
    ∷ put_in (tuple (TVar β ∷ TUnit ∷ TVar β ∷ [])) gives tuple (int ∷ TUnit ∷ int ∷ [])
    ∷ put_in (TBuf (TVar β)) gives TBuf int
    ∷ put_in (TRef 1 (TVar β)) gives TRef 1 int
    ∷ put_in (TInline (TVar β)) gives TInline int
    ∷ []

pub variables_replaced : Passed put_in_cases
unfolding put_in_cases
variables_replaced = refl

-- names and variables in the order in which they stand, and nodes, by kind
unfoldable pub gather_cases : List (Case (List (List ℕ)))
unfolding names vars nodes list
gather_cases =
    map names kinds
    gives ([] ∷ [] ∷ [] ∷ [] ∷ [] ∷ [] ∷ [] ∷ (p ∷ []) ∷ (q ∷ p ∷ []) ∷ (t ∷ []) ∷ (p ∷ []) ∷ [] ∷ (q ∷ []) ∷ [])
    ∷ map vars kinds
    gives ([] ∷ [] ∷ [] ∷ (α ∷ []) ∷ [] ∷ [] ∷ [] ∷ (β ∷ []) ∷ (α ∷ []) ∷ (β ∷ []) ∷ [] ∷ (β ∷ []) ∷ [] ∷ [])
    ∷ map (λ c. nodes c ∷ []) kinds
    gives map (λ n. n ∷ []) (1 ∷ 1 ∷ 1 ∷ 1 ∷ 1 ∷ 1 ∷ 1 ∷ 3 ∷ 3 ∷ 3 ∷ 2 ∷ 2 ∷ 2 ∷ [])
    ∷ (names (tuple kinds) ∷ vars (tuple kinds) ∷ (nodes (tuple kinds) ∷ []) ∷ [])
    gives ((p ∷ q ∷ p ∷ t ∷ p ∷ q ∷ []) ∷ (α ∷ β ∷ α ∷ β ∷ β ∷ []) ∷ (23 ∷ []) ∷ [])
    ∷ (names (TArrow (name p) 2 (name q)) ∷ vars (TArrow (TVar α) 2 (TVar β)) ∷ [])
    gives ((p ∷ q ∷ []) ∷ (α ∷ β ∷ []) ∷ [])
    ∷ (names (TRef 0 (name p)) ∷ vars (TBuf (TVar α)) ∷ vars (TInline (TVar α)) ∷ [])
    gives ((p ∷ []) ∷ (α ∷ []) ∷ (α ∷ []) ∷ [])
    ∷ []

pub parts_gathered : Passed gather_cases
unfolding gather_cases
parts_gathered = refl

-- one outer `TInline` is taken off, and nothing else
unfoldable pub inline_cases : List (Case (List Cty))
unfolding less_inline list
inline_cases =
    map less_inline kinds
    gives (TUnit
    ∷ TAny
    ∷ TExn
    ∷ TVar α
    ∷ TInt 1 8
    ∷ TFloat 2
    ∷ TConst 3
    ∷ TArrow (name p) 2 (TVar β)
    ∷ app q (TVar α ∷ name p ∷ [])
    ∷ tuple (name t ∷ TVar β ∷ [])
    ∷ TBuf (name p)
    ∷ TRef 1 (TVar β)
    ∷ name q
    ∷ [])
    ∷ (less_inline (TInline (TInline int)) ∷ less_inline (TBuf (TInline int)) ∷ [])
    gives (TInline int ∷ TBuf (TInline int) ∷ [])
    ∷ []

pub inline_taken_off : Passed inline_cases
unfolding inline_cases
inline_taken_off = refl

-- `TAny` in place of a variable that is no parameter, in every body
unfoldable pub close_cases : List (Case Body)
unfolding closed list
close_cases =
    closed [] TAbstract gives TAbstract
    ∷ closed (α ∷ []) (TAbbrev (tuple (TVar α ∷ TVar β ∷ []))) gives TAbbrev (tuple (TVar α ∷ TAny ∷ []))
    ∷ closed (β ∷ α ∷ []) (TAbbrev (app α (TVar α ∷ TVar β ∷ []))) gives TAbbrev (app α (TVar α ∷ TVar β ∷ []))
    ∷ closed [] (TRecord (field x (TVar α) ∷ field y int ∷ [])) gives TRecord (field x TAny ∷ field y int ∷ [])
    ∷ closed (β ∷ []) (TVariant (ctor A (field x (TVar α) ∷ []) ∷ ctor B (field y (TVar β) ∷ []) ∷ []))
    gives TVariant (ctor A (field x TAny ∷ []) ∷ ctor B (field y (TVar β) ∷ []) ∷ [])
    ∷ []

pub fields_closed : Passed close_cases
unfolding close_cases
fields_closed = refl

-- ---- erasure
unfoldable pub erased_cases : List (Case Bool)
unfolding erased erased_decl equal search list
erased_cases =
    -- the thirteen kinds
    erased TUnit gives true
    ∷ erased TAny gives false
    ∷ erased TExn gives false
    ∷ erased (TVar e) gives false
    ∷ erased int gives false
    ∷ erased (TFloat 0) gives false
    ∷ erased (TConst 0) gives false
    -- an arrow by its effect (ghost, pure, impure) and its result, whatever its argument
    ∷ erased (TArrow int 0 TUnit) gives true
    ∷ erased (TArrow int 1 TUnit) gives true
    ∷ erased (TArrow TUnit 2 TUnit) gives false
    ∷ erased (TArrow TUnit 0 int) gives false
    ∷ erased (TArrow TUnit 1 int) gives false
    -- a name by its declaration, whatever its arguments
    ∷ erased (name e) gives true
    ∷ erased (app e (int ∷ [])) gives true
    ∷ erased (name l) gives false
    ∷ erased (app l (TUnit ∷ [])) gives false
    -- a tuple by all of its members
    ∷ erased (tuple []) gives true
    ∷ erased (tuple (TUnit ∷ name e ∷ [])) gives true
    ∷ erased (tuple (TUnit ∷ int ∷ [])) gives false
    ∷ erased (tuple (int ∷ TUnit ∷ [])) gives false
    ∷ erased (TBuf TUnit) gives false
    ∷ erased (TRef 0 TUnit) gives false
    ∷ erased (TRef 1 TUnit) gives false
    ∷ erased (TInline TUnit) gives true
    ∷ erased (TInline int) gives false
    -- declarations: `Erased` first, then `Realized`, and no other flag
    ∷ erased_decl Erased TAbstract gives true
    ∷ erased_decl (Erased + Realized) (TAbbrev int) gives true
    ∷ erased_decl Realized (TAbbrev TUnit) gives false
    ∷ erased_decl (NoNewtype + NoUnfold + SourceRecord) (TAbbrev int) gives false
    ∷ erased_decl (NoNewtype + NoUnfold + SourceRecord) (TAbbrev TUnit) gives true
    -- then the body
    ∷ erased_decl 0 TAbstract gives false
    ∷ erased_decl 0 (TAbbrev TUnit) gives true
    ∷ erased_decl 0 (TAbbrev int) gives false
    ∷ erased_decl 0 (TRecord []) gives true
    ∷ erased_decl 0 (TRecord (field x TUnit ∷ field y (name e) ∷ [])) gives true
    ∷ erased_decl 0 (TRecord (field x TUnit ∷ field y int ∷ [])) gives false
    ∷ erased_decl 0 (TRecord (field x int ∷ field y TUnit ∷ [])) gives false
    ∷ erased_decl 0 (TVariant []) gives true
    ∷ erased_decl 0 (one A []) gives true
    ∷ erased_decl 0 (one A (field x TUnit ∷ [])) gives true
    ∷ erased_decl 0 (one A (field x int ∷ [])) gives false
    ∷ erased_decl 0 (TVariant (ctor A [] ∷ ctor B [] ∷ [])) gives false
    -- marks that are the same
    ∷ equal [] [] gives true
    ∷ equal (true ∷ false ∷ []) (true ∷ false ∷ []) gives true
    ∷ equal (true ∷ false ∷ []) (true ∷ true ∷ []) gives false
    ∷ equal (false ∷ true ∷ []) (false ∷ false ∷ []) gives false
    ∷ equal (true ∷ []) [] gives false
    ∷ equal [] (true ∷ []) gives false
    -- the search by its fuel
    ∷ search 0 gives false
    ∷ search 1 gives false
    ∷ search 2 gives true
    ∷ []

pub erasure_decided : Passed erased_cases
unfolding erased_cases
erasure_decided = refl

-- the marks that the rounds end in, and their number
abbrev pub after : ℕ → List Bool → Settled
after n bs = record { marks = bs; rounds = n }

abbrev pub kept_import : Decl → Decl
kept_import d = import d (verdict false (L_struct []) [] false)

abbrev pub erased_import : Decl → Decl
erased_import d = import d (verdict true L_erased [] false)

unfoldable pub settled_cases : List (Case Settled)
unfolding settled rounds_by list
settled_cases =
    settled [] gives after 1 []
    ∷ settled (abbr t int ∷ []) gives after 1 (false ∷ [])
    -- a recursive type is kept
    ∷ settled (wrap t (name t) ∷ []) gives after 1 (false ∷ [])
    -- against the order one round more; in order a round sees what it has set
    ∷ settled (wrap t (name p) ∷ abbr p TUnit ∷ []) gives after 3 (true ∷ true ∷ [])
    ∷ settled (abbr p TUnit ∷ wrap t (name p) ∷ []) gives after 2 (true ∷ true ∷ [])
    ∷ settled (abbr t (name p) ∷ abbr p (name q) ∷ abbr q TUnit ∷ []) gives after 4 (true ∷ true ∷ true ∷ [])
    -- a foreign name is kept
    ∷ settled (abbr t (name l) ∷ abbr p (name t) ∷ abbr q TUnit ∷ []) gives after 2 (false ∷ false ∷ true ∷ [])
    -- an import keeps its verdict, and others see it from the start
    ∷ settled (abbr t (name p) ∷ erased_import (abbr p int) ∷ []) gives after 2 (true ∷ true ∷ [])
    ∷ settled (abbr t (name p) ∷ kept_import (abbr p TUnit) ∷ []) gives after 1 (false ∷ false ∷ [])
    ∷ settled (erased_import (abbr p int) ∷ []) gives after 1 (true ∷ [])
    -- by fuel
    ∷ rounds_by 0 gives after 0 (false ∷ [])
    ∷ rounds_by 1 gives after 1 (true ∷ [])
    ∷ rounds_by 2 gives after 2 (true ∷ [])
    ∷ []

pub rounds_made : Passed settled_cases
unfolding settled_cases
rounds_made = refl

-- ---- layouts
unfoldable pub ctor_cases : List (Case (List CtorLayout))
unfolding laid_out list
ctor_cases =
    laid_out TAbstract gives []
    ∷ laid_out (TAbbrev int) gives []
    -- of a record its only constructor, with the type's name
    ∷ laid_out (TRecord (field x TUnit ∷ field y int ∷ field z (name e) ∷ []))
    gives (laid t (false ∷ true ∷ false ∷ []) (field y int ∷ []) ∷ [])
    ∷ laid_out (TVariant (ctor A (field x int ∷ field y TUnit ∷ field z (name l) ∷ []) ∷ ctor B [] ∷ []))
    gives (tagged 0 A (true ∷ false ∷ true ∷ []) (field x int ∷ field z (name l) ∷ []) ∷ tagged 1 B [] [] ∷ [])
    -- tags: none of a single constructor, else places from 0
    ∷ laid_out (TVariant []) gives []
    ∷ laid_out (one A []) gives (laid A [] [] ∷ [])
    ∷ laid_out (TVariant (ctor B [] ∷ ctor A [] ∷ ctor z [] ∷ [])) gives (tagged 0 B [] [] ∷ tagged 1 A [] [] ∷ tagged 2 z [] [] ∷ [])
    ∷ []

pub constructors_laid_out : Passed ctor_cases
unfolding ctor_cases
constructors_laid_out = refl

-- one constructor A, and its struct
abbrev pub several : List Field → Decl
several fs = decl t 0 [] (one A fs)

abbrev pub struct : Cty → Layout
struct c = L_struct (laid A (true ∷ []) (field x c ∷ []) ∷ [])

unfoldable pub layout_cases : List (Case (List Layout))
unfolding layouts list
layout_cases =
    -- by body
    layouts (decl t 0 [] TAbstract ∷ []) gives (L_opaque ∷ [])
    ∷ layouts (abbr t int ∷ []) gives (L_abbrev int ∷ [])
    ∷ layouts (abbr t TUnit ∷ []) gives (L_erased ∷ [])
    ∷ layouts (decl t 0 [] (TVariant []) ∷ []) gives (L_erased ∷ [])
    ∷ layouts (decl t Realized [] (TVariant []) ∷ []) gives (L_struct [] ∷ [])
    -- one constructor with one kept field, at its place
    ∷ layouts (several (field x int ∷ []) ∷ []) gives (newt A x 0 int ∷ [])
    ∷ layouts (several (field x TUnit ∷ field y TUnit ∷ field z int ∷ []) ∷ []) gives (newt A z 2 int ∷ [])
    ∷ layouts (several (field x TUnit ∷ field y int ∷ field z TUnit ∷ []) ∷ []) gives (newt A y 1 int ∷ [])
    ∷ layouts (decl t 0 [] (TRecord (field x int ∷ [])) ∷ []) gives (newt t x 0 int ∷ [])
    -- two kept fields, two constructors, no field
    ∷ layouts (several (field x int ∷ field y TUnit ∷ field z TExn ∷ []) ∷ [])
    gives (L_struct (laid A (true ∷ false ∷ true ∷ []) (field x int ∷ field z TExn ∷ []) ∷ []) ∷ [])
    ∷ layouts (decl t 0 [] (TVariant (ctor A (field x int ∷ []) ∷ ctor B [] ∷ [])) ∷ [])
    gives (L_struct (tagged 0 A (true ∷ []) (field x int ∷ []) ∷ tagged 1 B [] [] ∷ []) ∷ [])
    ∷ layouts (decl t Realized [] (one A []) ∷ []) gives (L_struct (laid A [] [] ∷ []) ∷ [])
    -- flags
    ∷ layouts (decl t NoNewtype [] (one A (field x int ∷ [])) ∷ []) gives (struct int ∷ [])
    ∷ layouts (decl t (Realized + NoUnfold + SourceRecord) [] (one A (field x int ∷ [])) ∷ []) gives (newt A x 0 int ∷ [])
    ∷ layouts (decl t Erased [] (one A (field x int ∷ [])) ∷ []) gives (L_erased ∷ [])
    -- the payload less one outer `TInline`, and a buffer's as it is
    ∷ layouts (wrap t (TInline (TInline int)) ∷ []) gives (newt A x 0 (TInline int) ∷ [])
    ∷ layouts (wrap t (TBuf int) ∷ []) gives (newt A x 0 (TBuf int) ∷ [])
    -- a payload that reaches its own name: at once, in a loop, in the second branch, below anything
    ∷ layouts (wrap t (name t) ∷ []) gives (struct (name t) ∷ [])
    ∷ layouts (wrap t (name p) ∷ wrap p (name t) ∷ []) gives (struct (name p) ∷ struct (name t) ∷ [])
    ∷ layouts (wrap t (tuple (name p ∷ name t ∷ [])) ∷ wrap p int ∷ [])
    gives (struct (tuple (name p ∷ name t ∷ [])) ∷ newt A x 0 int ∷ [])
    ∷ layouts (wrap t (app l (TBuf (name t) ∷ [])) ∷ []) gives (struct (app l (TBuf (name t) ∷ [])) ∷ [])
    -- not where it only leads to a loop, nor through what is no candidate or no payload
    ∷ layouts (wrap t (name p) ∷ wrap p (name p) ∷ []) gives (newt A x 0 (name p) ∷ struct (name p) ∷ [])
    ∷ layouts (wrap t (name p) ∷ decl p NoNewtype [] (one A (field x (name t) ∷ [])) ∷ [])
    gives (newt A x 0 (name p) ∷ struct (name t) ∷ [])
    ∷ layouts (wrap t (TBuf (name p)) ∷ decl p Erased [] (one A (field x (name t) ∷ [])) ∷ []) gives (newt A x 0 (TBuf (name p)) ∷ L_erased ∷ [])
    ∷ layouts (several (field x int ∷ field y (TArrow (name t) 1 TUnit) ∷ []) ∷ []) gives (newt A x 0 int ∷ [])
    -- but through a candidate that is itself dropped
    ∷ layouts (wrap p (tuple (name p ∷ name t ∷ [])) ∷ wrap t (name p) ∷ [])
    gives (struct (tuple (name p ∷ name t ∷ [])) ∷ struct (name p) ∷ [])
    -- and through unfolded abbreviations, local and imported, whatever the arguments, an import by its layout and not by its mark; on to one that is dropped too
    ∷ layouts (wrap t (name p) ∷ abbr p (name t) ∷ []) gives (struct (name p) ∷ L_abbrev (name t) ∷ [])
    ∷ layouts (wrap t (app p (int ∷ [])) ∷ abbr p (name q) ∷ abbr q (TBuf (name t)) ∷ [])
    gives (struct (app p (int ∷ [])) ∷ L_abbrev (name q) ∷ L_abbrev (TBuf (name t)) ∷ [])
    ∷ layouts (wrap t (TBuf (name p)) ∷ import (abbr p (name t)) (verdict true (L_abbrev (name t)) [] false) ∷ [])
    gives (struct (TBuf (name p)) ∷ L_abbrev (name t) ∷ [])
    ∷ layouts (wrap t (name p) ∷ abbr p (name q) ∷ wrap q (tuple (name q ∷ name t ∷ [])) ∷ [])
    gives (struct (name p) ∷ L_abbrev (name q) ∷ struct (tuple (name q ∷ name t ∷ [])) ∷ [])
    -- not through erased ones, nor through those whose names stay
    ∷ layouts (wrap t (TBuf (name p)) ∷ decl p Erased [] (TAbbrev (name t)) ∷ []) gives (newt A x 0 (TBuf (name p)) ∷ L_erased ∷ [])
    ∷ layouts (wrap t (TBuf (name p)) ∷ import (abbr p (name t)) (verdict false L_erased [] false) ∷ []) gives (newt A x 0 (TBuf (name p)) ∷ L_erased ∷ [])
    ∷ layouts (wrap t (name p) ∷ decl p NoUnfold [] (TAbbrev (name t)) ∷ []) gives (newt A x 0 (name p) ∷ L_abbrev (name t) ∷ [])
    ∷ layouts (wrap t (name p) ∷ decl p Realized [] (TAbbrev (name t)) ∷ []) gives (newt A x 0 (name p) ∷ L_abbrev (name t) ∷ [])
    -- a name that stands twice, and is followed once
    ∷ layouts (wrap t (tuple (name p ∷ name p ∷ name q ∷ [])) ∷ wrap p (name p) ∷ wrap q (name t) ∷ [])
    gives (struct (tuple (name p ∷ name p ∷ name q ∷ [])) ∷ struct (name p) ∷ struct (name t) ∷ [])
    -- imports have their verdicts, and are no candidates
    ∷ layouts (kept_import (wrap t int) ∷ erased_import (abbr p int) ∷ wrap q (name p) ∷ []) gives (L_struct [] ∷ L_erased ∷ L_erased ∷ [])
    ∷ layouts (wrap t (name p) ∷ import (wrap p (name t)) (verdict false (newt A x 0 (name t)) [] false) ∷ [])
    gives (newt A x 0 (name p) ∷ newt A x 0 (name t) ∷ [])
    ∷ []

pub layouts_computed : Passed layout_cases
unfolding layout_cases
layouts_computed = refl

-- the source's guard: through payloads of candidates, dropped ones too, and not through abbreviations
unfoldable pub source_cases : List (Case (List Layout))
unfolding source_laid list
source_cases =
    source_laid (wrap t (name p) ∷ abbr p (name t) ∷ []) gives (newt A x 0 (name p) ∷ L_abbrev (name t) ∷ [])
    ∷ source_laid (wrap p (tuple (name p ∷ name t ∷ [])) ∷ wrap t (name p) ∷ [])
    gives (struct (tuple (name p ∷ name t ∷ [])) ∷ struct (name p) ∷ [])
    ∷ []

pub source_guarded : Passed source_cases
unfolding source_cases
source_guarded = refl

-- the numbers of layouts (FORMAT, section 2), and the places of names
unfoldable pub number_cases : List (Case (List ℕ))
unfolding number_of place_in kept_at
number_cases =
    map number_of (L_erased ∷ newt A x 0 int ∷ L_struct [] ∷ L_abbrev int ∷ L_opaque ∷ []) gives (0 ∷ 1 ∷ 2 ∷ 3 ∷ 4 ∷ [])
    ∷ map bit (false ∷ true ∷ []) gives (0 ∷ 1 ∷ [])
    ∷ map kept_at ([] ∷ (true ∷ true ∷ []) ∷ (false ∷ true ∷ []) ∷ []) gives (0 ∷ 0 ∷ 1 ∷ [])
    ∷ map (place_in (abbr p int ∷ abbr q int ∷ [])) (p ∷ q ∷ l ∷ []) gives (0 ∷ 1 ∷ 2 ∷ [])
    ∷ []

pub layouts_numbered : Passed number_cases
unfolding number_cases
layouts_numbered = refl

-- ---- resolution
unfoldable pub unfold_cases : List (Case Unfold)
unfolding becomes unfold_in list
unfold_cases =
    -- by layout
    becomes 0 (TAbbrev int) L_erased gives gone
    ∷ becomes 0 (one A []) (newt A x 0 (TVar α)) gives newtype (α ∷ []) (TVar α)
    ∷ becomes 0 (one A []) (L_struct []) gives stays
    ∷ becomes 0 (TRecord []) (L_struct []) gives stays
    ∷ becomes 0 TAbstract L_opaque gives stays
    ∷ becomes 0 (TAbbrev int) (L_abbrev int) gives abbreviation (α ∷ []) int
    ∷ becomes 0 (TAbbrev int) (L_struct []) gives abbreviation (α ∷ []) int
    ∷ becomes 0 (TAbbrev int) L_opaque gives abbreviation (α ∷ []) int
    -- an abbreviation stays with `Realized` or with `NoUnfold`, and a newtype does not
    ∷ becomes Realized (TAbbrev int) (L_abbrev int) gives stays
    ∷ becomes NoUnfold (TAbbrev int) (L_abbrev int) gives stays
    ∷ becomes (Erased + NoNewtype + SourceRecord) (TAbbrev int) (L_abbrev int) gives abbreviation (α ∷ []) int
    ∷ becomes (Realized + NoUnfold) (one A []) (newt A x 0 int) gives newtype (α ∷ []) int
    -- a name by its own declaration, and a foreign one stays
    ∷ unfold_in (abbr p int ∷ abbr q TExn ∷ []) (L_abbrev int ∷ L_abbrev TExn ∷ []) q gives abbreviation [] TExn
    ∷ unfold_in (abbr p int ∷ abbr q TExn ∷ []) (L_erased ∷ L_abbrev TExn ∷ []) p gives gone
    ∷ unfold_in (abbr p int ∷ abbr q TExn ∷ []) (L_erased ∷ L_erased ∷ []) l gives stays
    ∷ []

pub unfolding_decided : Passed unfold_cases
unfolding unfold_cases
unfolding_decided = refl

-- `e` erased; `w 'a = A of` a buffer of `p 'a`, a newtype; `p 'a = 'a`; `q = l int`; `r 'a = ('a, 'a)`; `t 'a 'b = p 'b`
abbrev pub lay : ℕ → Unfold
lay n =
    eqb n e ⇒ gone ∥
    eqb n w ⇒ newtype (α ∷ []) (TBuf (app p (TVar α ∷ []))) ∥
    eqb n p ⇒ abbreviation (α ∷ []) (TVar α) ∥
    eqb n q ⇒ abbreviation [] (app l (int ∷ [])) ∥
    eqb n r ⇒ abbreviation (α ∷ []) (tuple (TVar α ∷ TVar α ∷ [])) ∥
    eqb n t ⇒ abbreviation (α ∷ β ∷ []) (app p (TVar β ∷ [])) ∥
    stays

-- what `resolve` gives, and the checked resolution
abbrev pub both : Cty → List (Result Cty)
both c = ok (resolved lay 9 c) ∷ checks lay 99 9 c ∷ []

abbrev pub agreed : Cty → List (Result Cty)
agreed c = ok c ∷ ok c ∷ []

unfoldable pub resolved_cases : List (Case (List (Result Cty)))
unfolding resolved checks list
resolved_cases =
    -- every part of every kind
    both TUnit gives agreed TUnit
    ∷ both TAny gives agreed TAny
    ∷ both TExn gives agreed TExn
    ∷ both (TVar p) gives agreed (TVar p)
    ∷ both (TInt 1 8) gives agreed (TInt 1 8)
    ∷ both (TFloat 2) gives agreed (TFloat 2)
    ∷ both (TConst 3) gives agreed (TConst 3)
    ∷ both (TArrow (name e) 2 (name q)) gives agreed (TArrow TUnit 2 (app l (int ∷ [])))
    ∷ both (app l (name e ∷ int ∷ name e ∷ [])) gives agreed (app l (TUnit ∷ int ∷ TUnit ∷ []))
    ∷ both (tuple (name e ∷ int ∷ name e ∷ [])) gives agreed (tuple (TUnit ∷ int ∷ TUnit ∷ []))
    ∷ both (TBuf (name e)) gives agreed (TBuf TUnit)
    ∷ both (TRef 1 (name e)) gives agreed (TRef 1 TUnit)
    ∷ both (TInline (name e)) gives agreed (TInline TUnit)
    -- an erased name with any number of arguments
    ∷ both (name e) gives agreed TUnit
    ∷ both (app e (int ∷ TExn ∷ [])) gives agreed TUnit
    -- a newtype, its argument first, and an abbreviation; and what each stands for in turn
    ∷ both (app w (name e ∷ [])) gives agreed (TBuf TUnit)
    ∷ both (app p (app w (int ∷ []) ∷ [])) gives agreed (TBuf int)
    ∷ both (app t (int ∷ TExn ∷ [])) gives agreed TExn
    ∷ both (app r (app r (int ∷ []) ∷ [])) gives agreed (tuple (tuple (int ∷ int ∷ []) ∷ tuple (int ∷ int ∷ []) ∷ []))
    -- a surplus is given to a name, after its other arguments and in its order
    ∷ both (app q (TExn ∷ TAny ∷ [])) gives agreed (app l (int ∷ TExn ∷ TAny ∷ []))
    ∷ both (app p (name l ∷ TExn ∷ [])) gives agreed (app l (TExn ∷ []))
    ∷ both (app t (int ∷ name l ∷ TExn ∷ [])) gives agreed (app l (TExn ∷ []))
    -- where the counts differ `resolve` replaces nothing, and a surplus on anything else is lost
    ∷ both (name w) gives (ok (TBuf (TVar α)) ∷ fault 9 ∷ [])
    ∷ both (app w (int ∷ int ∷ [])) gives (ok (TBuf (TVar α)) ∷ fault 9 ∷ [])
    ∷ both (app t (int ∷ [])) gives (ok (TVar β) ∷ fault 9 ∷ [])
    ∷ both (app r (int ∷ TExn ∷ [])) gives (ok (tuple (int ∷ int ∷ [])) ∷ fault 9 ∷ [])
    ∷ []

pub types_resolved : Passed resolved_cases
unfolding resolved_cases
types_resolved = refl

-- `t = c` with one argument
abbrev pub with_surplus : Cty → Result Cty
with_surplus c = checks (λ n. pick (eqb n t) (abbreviation [] c) stays) 9 2 (app t (int ∷ []))

-- names that all stay, and names that each become two nodes
abbrev pub staying : ℕ → Cty → Result Cty
staying limit = checks (λ n. stays) limit 1

abbrev pub doubling : ℕ → Cty → Result Cty
doubling limit = checks (λ n. pick (eqb n t) (abbreviation [] (TBuf TUnit)) stays) limit 2

-- faults at once: with 9, and with 10 where the limit is 5
abbrev pub few : Cty
few = name p

abbrev pub large : Cty
large = app r (app r (int ∷ []) ∷ [])

abbrev pub faulty : Cty → Result Cty
faulty = checks lay 5 9

unfoldable pub checked_cases : List (Case (Result Cty))
unfolding checks list
checked_cases =
    -- row 10 where a type is called with, though it would be smaller
    checks lay 3 9 (app e (int ∷ int ∷ [])) gives ok TUnit
    ∷ checks lay 3 9 (app e (int ∷ int ∷ int ∷ [])) gives fault 10
    -- at an instance: `r 'a` grows, and `q` with its surplus
    ∷ checks lay 2 9 (app r (TUnit ∷ [])) gives fault 10
    ∷ checks (λ n. pick (eqb n t) (abbreviation (α ∷ []) (app e (TVar α ∷ TVar α ∷ []))) (lay n)) 2 9 (app t (int ∷ [])) gives fault 10
    ∷ checks lay 3 9 (app q (int ∷ int ∷ [])) gives fault 10
    ∷ checks lay 4 9 (app q (int ∷ int ∷ [])) gives ok (app l (int ∷ int ∷ int ∷ []))
    -- where it is returned, of every kind with parts
    ∷ doubling 2 (name t) gives ok (TBuf TUnit)
    ∷ doubling 4 (TArrow (name t) 1 (name t)) gives fault 10
    ∷ doubling 4 (app l (name t ∷ name t ∷ [])) gives fault 10
    ∷ doubling 4 (tuple (name t ∷ name t ∷ [])) gives fault 10
    ∷ doubling 5 (tuple (name t ∷ name t ∷ [])) gives ok (tuple (TBuf TUnit ∷ TBuf TUnit ∷ []))
    ∷ doubling 2 (TBuf (name t)) gives fault 10
    ∷ doubling 2 (TRef 0 (name t)) gives fault 10
    ∷ doubling 2 (TInline (name t)) gives fault 10
    -- the fault met first decides, parts from left to right
    ∷ faulty few gives fault 9
    ∷ faulty large gives fault 10
    ∷ faulty (tuple (few ∷ large ∷ [])) gives fault 9
    ∷ faulty (tuple (large ∷ few ∷ [])) gives fault 10
    ∷ faulty (TArrow few 1 large) gives fault 9
    ∷ faulty (TArrow large 1 few) gives fault 10
    ∷ faulty (app l (few ∷ large ∷ [])) gives fault 9
    ∷ faulty (app l (large ∷ few ∷ [])) gives fault 10
    ∷ faulty (TBuf few) gives fault 9
    ∷ faulty (TRef 0 few) gives fault 9
    ∷ faulty (TInline few) gives fault 9
    -- arguments before their name, be it erased or wrong in its count
    ∷ faulty (app e (few ∷ [])) gives fault 9
    ∷ faulty (app w (large ∷ int ∷ [])) gives fault 10
    -- a part before the whole, that would be too large when it is returned; a count before the instance
    ∷ checks lay 4 9 (tuple (app r (int ∷ []) ∷ few ∷ [])) gives fault 9
    ∷ checks lay 4 9 (app r (app l (int ∷ []) ∷ int ∷ [])) gives fault 9
    -- fuel, and that it runs out before or after a fault
    ∷ checks lay 9 0 int gives spent
    ∷ checks lay 9 1 (tuple (name e ∷ name l ∷ [])) gives ok (tuple (TUnit ∷ name l ∷ []))
    ∷ checks lay 9 1 (app p (int ∷ [])) gives spent
    ∷ checks lay 9 2 (app p (int ∷ [])) gives ok int
    ∷ checks lay 9 1 (app w (int ∷ [])) gives spent
    ∷ checks lay 9 3 (app w (int ∷ [])) gives ok (TBuf int)
    ∷ checks lay 9 1 (tuple (app p (int ∷ []) ∷ few ∷ [])) gives spent
    ∷ checks lay 9 1 (tuple (few ∷ app p (int ∷ []) ∷ [])) gives fault 9
    ∷ []

pub faults_met : Passed checked_cases
unfolding checked_cases
faults_met = refl

unfoldable pub kinds_cases : List (Case (List (Result Cty)))
unfolding checks nodes resolved given_more list
kinds_cases =
    -- each kind of as many nodes as the limit, and of one more
    map (λ c. staying (nodes c) c) kinds gives map ok kinds
    ∷ map (λ c. staying (nodes c - 1) c) kinds gives replicate 13 (fault 10)
    -- a surplus is taken by a name alone
    ∷ map with_surplus kinds gives (replicate 8 (fault 9) ++ ok (app q (TVar α ∷ name p ∷ int ∷ [])) ∷ replicate 4 (fault 9))
    ∷ map (λ c. ok (given_more c)) kinds
    gives (ok TUnit
    ∷ ok TAny
    ∷ ok TExn
    ∷ ok (TVar α)
    ∷ ok (TInt 1 8)
    ∷ ok (TFloat 2)
    ∷ ok (TConst 3)
    ∷ ok (TArrow (name p) 2 (TVar β))
    ∷ ok (app q (TVar α ∷ name p ∷ int ∷ TAny ∷ []))
    ∷ ok (tuple (name t ∷ TVar β ∷ []))
    ∷ ok (TBuf (name p))
    ∷ ok (TRef 1 (TVar β))
    ∷ ok (TInline (name q))
    ∷ [])
    -- `resolve` by its fuel
    ∷ map (λ k. ok (resolved lay k (app t (int ∷ TExn ∷ [])))) (0 ∷ 1 ∷ 2 ∷ 3 ∷ [])
    gives (ok (app t (int ∷ TExn ∷ [])) ∷ ok (app p (TExn ∷ [])) ∷ ok TExn ∷ ok TExn ∷ [])
    ∷ []

pub kinds_checked : Passed kinds_cases
unfolding kinds_cases
kinds_checked = refl

-- ---- the pass
abbrev pub leaves : List ℕ → Body → Option Dtype
leaves ps b = some (dtype_of ps b)

unfoldable pub left_cases : List (Case (Option Dtype))
unfolding left list
left_cases =
    left [] (TAbbrev int) L_erased gives none
    ∷ left (α ∷ []) TAbstract L_opaque gives leaves (α ∷ []) TAbstract
    ∷ left (α ∷ []) (TAbbrev int) (L_abbrev int) gives leaves (α ∷ []) (TAbbrev (TBuf int))
    -- a newtype, if its payload has every parameter and not its own name
    ∷ left [] (one A []) (newt A x 0 (name l)) gives leaves [] (TAbbrev (TBuf (name l)))
    ∷ left (α ∷ β ∷ []) (one A []) (newt A x 0 (tuple (TVar β ∷ TVar α ∷ [])))
    gives leaves (α ∷ β ∷ []) (TAbbrev (TBuf (tuple (TVar β ∷ TVar α ∷ []))))
    ∷ left (α ∷ []) (one A []) (newt A x 0 int) gives none
    ∷ left (α ∷ β ∷ []) (one A []) (newt A x 0 (TVar α)) gives none
    ∷ left (β ∷ α ∷ []) (one A []) (newt A x 0 (TVar α)) gives none
    ∷ left [] (one A []) (newt A x 0 (app l (name t ∷ []))) gives none
    -- a struct, its kept fields resolved
    ∷ left [] (one A (field y TUnit ∷ field x int ∷ [])) (struct int) gives leaves [] (one A (field x (TBuf int) ∷ []))
    ∷ left [] (TVariant []) (L_struct (laid A [] [] ∷ laid B [] (field x int ∷ field y TExn ∷ []) ∷ []))
    gives leaves [] (TVariant (ctor A [] ∷ ctor B (field x (TBuf int) ∷ field y (TBuf TExn) ∷ []) ∷ []))
    ∷ left [] (TRecord (field y TUnit ∷ field x int ∷ [])) (struct int) gives leaves [] (TRecord (field x (TBuf int) ∷ []))
    -- and what no program has
    ∷ left [] (TRecord (field x int ∷ [])) (L_struct []) gives leaves [] (TRecord (field x int ∷ []))
    ∷ left [] (TRecord (field x int ∷ [])) (L_struct (laid A [] [] ∷ laid B [] [] ∷ [])) gives leaves [] (TRecord (field x int ∷ []))
    ∷ left [] TAbstract (struct int) gives leaves [] TAbstract
    ∷ left [] (TAbbrev TExn) (struct int) gives leaves [] (TAbbrev TExn)
    ∷ []

pub declarations_left : Passed left_cases
unfolding left_cases
declarations_left = refl

unfoldable pub record_cases : List (Case Bool)
unfolding recorded foreign list
record_cases =
    -- a record is a variant of one constructor with fields
    recorded 0 TAbstract gives false
    ∷ recorded 0 (TAbbrev int) gives false
    ∷ recorded 0 (TRecord (field x int ∷ [])) gives false
    ∷ recorded 0 (TVariant []) gives false
    ∷ recorded 0 (one A []) gives false
    ∷ recorded 0 (one A (field x int ∷ [])) gives true
    ∷ recorded 0 (TVariant (ctor A (field x int ∷ []) ∷ ctor B (field x int ∷ []) ∷ [])) gives false
    -- with `Realized` by `SourceRecord` alone
    ∷ recorded Realized (one A (field x int ∷ [])) gives false
    ∷ recorded (Realized + SourceRecord) TAbstract gives true
    ∷ recorded SourceRecord TAbstract gives false
    ∷ recorded (Erased + NoNewtype + NoUnfold) (one A (field x int ∷ [])) gives true
    ∷ recorded (Erased + Realized + NoNewtype + NoUnfold) (one A (field x int ∷ [])) gives false
    -- foreign names
    ∷ foreign (abbr p int ∷ abbr q int ∷ []) q gives false
    ∷ foreign (abbr p int ∷ abbr q int ∷ []) t gives true
    ∷ []

pub records_decided : Passed record_cases
unfolding record_cases
records_decided = refl

abbrev pub left_as : ℕ → Body → Dtype
left_as n b = (decl n 0 [] b).dtype

-- an import's verdict, of which nothing is what the pass would say
abbrev pub pinned : TypeInfo
pinned = verdict false (newt B y 3 TExn) (laid B (false ∷ true ∷ []) [] ∷ []) true

unfoldable pub run_cases : List (Case Ran)
unfolding ran list
run_cases =
    ran [] gives record { rounds = 1; infos = []; lefts = [] }
    -- erased, struct, newtype (whose left declaration is no record) and abbreviation; each name resolved in what is left
    ∷ ran (abbr p TUnit
    ∷ decl t 0 [] (TVariant (ctor A (field x (name p) ∷ field y (name w) ∷ []) ∷ ctor B [] ∷ []))
    ∷ wrap w int
    ∷ abbr q (app l (name w ∷ name p ∷ []))
    ∷ [])
    gives record {
      rounds = 2;
      infos =
          let cls : List CtorLayout = tagged 0 A (false ∷ true ∷ []) (field y (name w) ∷ []) ∷ tagged 1 B [] [] ∷ [] in
          verdict true L_erased [] false
          ∷ verdict false (L_struct cls) cls false
          ∷ verdict false (newt A x 0 int) (laid A (true ∷ []) (field x int ∷ []) ∷ []) false
          ∷ verdict false (L_abbrev (app l (name w ∷ name p ∷ []))) [] false
          ∷ [];
      lefts =
          none
          ∷ some (left_as t (TVariant (ctor A (field y int ∷ []) ∷ ctor B [] ∷ [])))
          ∷ some (left_as w (TAbbrev int))
          ∷ some (left_as q (TAbbrev (app l (int ∷ TUnit ∷ []))))
          ∷ [];
    }
    -- a record by what is left; of an abstract type nothing is known
    ∷ ran (wrap t (name t) ∷ decl p 0 [] TAbstract ∷ [])
    gives record {
      rounds = 1;
      infos =
          verdict false (struct (name t)) (laid A (true ∷ []) (field x (name t) ∷ []) ∷ []) true
          ∷ verdict false L_opaque [] false
          ∷ [];
      lefts = some (wrap t (name t)).dtype ∷ some (decl p 0 [] TAbstract).dtype ∷ [];
    }
    -- an import has its verdict, and is left and unfolded by it
    ∷ ran (import (wrap w int) pinned ∷ abbr q (name w) ∷ erased_import (abbr p int) ∷ [])
    gives record {
      rounds = 1;
      infos = pinned ∷ verdict false (L_abbrev (name w)) [] false ∷ verdict true L_erased [] false ∷ [];
      lefts = some (left_as w (TAbbrev TExn)) ∷ some (left_as q (TAbbrev TExn)) ∷ none ∷ [];
    }
    ∷ []

pub programs_run : Passed run_cases
unfolding run_cases
programs_run = refl

-- row 8, by declaration
unfoldable pub return_cases : List (Case (List Bool))
unfolding returning list
return_cases =
    -- through abbreviations and newtypes, and not from a name that only leads to a loop
    returning (abbr p (name p) ∷ abbr q (name p) ∷ []) gives (true ∷ false ∷ [])
    ∷ returning (wrap t (name p) ∷ import (wrap p (name t)) (verdict false (newt A x 0 (name t)) [] false) ∷ []) gives (true ∷ true ∷ [])
    ∷ returning (import (wrap p (name q)) (verdict false (newt A x 0 (name q)) [] false) ∷ abbr q (name p) ∷ []) gives (true ∷ true ∷ [])
    ∷ returning (abbr p (tuple (name q ∷ TBuf (name p) ∷ [])) ∷ abbr q int ∷ []) gives (true ∷ false ∷ [])
    -- not through what is not unfolded: a struct, an abbreviation that stays, an erased one
    ∷ returning (wrap t (name t) ∷ []) gives (false ∷ [])
    ∷ returning (wrap t (name p) ∷ abbr p (name t) ∷ []) gives (false ∷ false ∷ [])
    ∷ returning (decl p NoUnfold [] (TAbbrev (name q)) ∷ abbr q (name p) ∷ []) gives (false ∷ false ∷ [])
    ∷ returning (decl p Erased [] (TAbbrev (name q)) ∷ decl q Realized [] (TAbbrev (name p)) ∷ []) gives (false ∷ false ∷ [])
    ∷ []

pub names_returning : Passed return_cases
unfolding return_cases
names_returning = refl

-- rows 9 and 10, by declaration, with at most 5 nodes: `p 'a = 'a`, `r 'a = ('a, 'a)` and one more
abbrev pub among : Decl → List Decl
among d = decl p 0 (α ∷ []) (TAbbrev (TVar α)) ∷ decl r 0 (α ∷ []) (TAbbrev (tuple (TVar α ∷ TVar α ∷ []))) ∷ d ∷ []

unfoldable pub fault_cases : List (Case (List ℕ))
unfolding faults mentioned list
fault_cases =
    -- what `rw_decl` resolves, by layout: nothing, nothing, the body, the payload, the kept fields
    faults 5 (among (decl t Erased [] (TAbbrev few))) gives (0 ∷ 0 ∷ 0 ∷ [])
    ∷ faults 5 (among (decl t 0 [] TAbstract)) gives (0 ∷ 0 ∷ 0 ∷ [])
    ∷ faults 5 (among (abbr t few)) gives (0 ∷ 0 ∷ 9 ∷ [])
    ∷ faults 5 (among (abbr t large)) gives (0 ∷ 0 ∷ 10 ∷ [])
    ∷ faults 5 (among (wrap t few)) gives (0 ∷ 0 ∷ 9 ∷ [])
    ∷ faults 5 (among (several (field x few ∷ field y large ∷ []))) gives (0 ∷ 0 ∷ 9 ∷ [])
    ∷ faults 5 (among (several (field x large ∷ field y few ∷ []))) gives (0 ∷ 0 ∷ 10 ∷ [])
    ∷ faults 5 (among (decl t 0 [] (TVariant (ctor A [] ∷ ctor B (field x int ∷ field y large ∷ []) ∷ [])))) gives (0 ∷ 0 ∷ 10 ∷ [])
    ∷ faults 5 (among (several (field x int ∷ field y TExn ∷ field z (TArrow few 1 TUnit) ∷ []))) gives (0 ∷ 0 ∷ 0 ∷ [])
    -- the limit, and an import by its verdict
    ∷ faults 1 (among (abbr t int)) gives (0 ∷ 10 ∷ 0 ∷ [])
    ∷ faults 5 (among (import (abbr t int) (verdict false (L_abbrev few) [] false))) gives (0 ∷ 0 ∷ 9 ∷ [])
    -- fuel enough for twelve unfoldings: `t 'a` is `t` of a buffer of `'a`
    ∷ faults 12 (decl t 0 (α ∷ []) (TAbbrev (app t (TBuf (TVar α) ∷ []))) ∷ []) gives (10 ∷ [])
    -- the names that a declaration mentions
    ∷ mentioned TAbstract gives []
    ∷ mentioned (TAbbrev (app p (name q ∷ []))) gives (p ∷ q ∷ [])
    ∷ mentioned (TRecord (field x (name p) ∷ field y (name q) ∷ [])) gives (p ∷ q ∷ [])
    ∷ mentioned (TVariant (ctor A (field x (name p) ∷ field y (name q) ∷ []) ∷ ctor B (field x (name l) ∷ []) ∷ [])) gives (p ∷ q ∷ l ∷ [])
    ∷ []

pub declarations_faulted : Passed fault_cases
unfolding fault_cases
declarations_faulted = refl

unfoldable pub pin_cases : List (Case (List Decl))
unfolding all_pinned
pin_cases =
    all_pinned (abbr p int ∷ abbr q int ∷ []) (pinned ∷ pinned ∷ []) gives (import (abbr p int) pinned ∷ import (abbr q int) pinned ∷ [])
    ∷ all_pinned (abbr p int ∷ []) [] gives []
    ∷ all_pinned [] (pinned ∷ []) gives []
    ∷ []

pub programs_pinned : Passed pin_cases
unfolding pin_cases
programs_pinned = refl
