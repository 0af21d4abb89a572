-- Patterns: `pat` of the source's Syntax file, names as numbers, and `rw_pat` of its Layout file with
-- what it calls. Lists of patterns are a type of their own, since a pattern holds them. Assumes nothing.
use Rattle.std.specs.Prelude.{◌≡◌, List, [], ◌∷◌, ◌++◌, Bool, true, false, ◌||◌, ℕ, zero, suc, ◌+◌, ◌≤◌, T, eqb, length}
use Rattle.std.proofs.Math.Option.{Option, none, some}
use Rattle.number_columns.specs.Column.{pick}
use Rattle.model.specs.Decl.{Field, CtorLayout, Layout, L_erased, L_newtype, L_struct, L_abbrev, L_opaque, bit, TypeInfo, Decl, position}
use Rattle.model.specs.Run.{run}
use Rattle.model_laws.specs.Lists.{trues}

-- The number of a part is its field's name plus one in a `PRecord`, and 0 for none elsewhere: so one
-- type of lists serves every kind.
mutual
  pub data Pat : Type 0 where
    PWild : Pat
    PVar PConst : ℕ → Pat
    PCtor PRecord : ℕ → Pats → Pat
    PTuple POr : Pats → Pat

  pub data Pats : Type 0 where
    no_parts : Pats
    part : ℕ → Pat → Pats → Pats

-- ---- walks
-- Layout's `pat_vars`: the variables from left to right, with repetitions
unfoldable mutual
  pub pat_vars : Pat → List ℕ
  pat_vars PWild = []
  pat_vars (PVar v) = v ∷ []
  pat_vars (PConst c) = []
  pat_vars (PCtor n ps) = pats_vars ps
  pat_vars (PRecord n ps) = pats_vars ps
  pat_vars (PTuple ps) = pats_vars ps
  pat_vars (POr ps) = pats_vars ps

  pub pats_vars : Pats → List ℕ
  pats_vars no_parts = []
  pats_vars (part f p ps) = pat_vars p ++ pats_vars ps

-- nodes of a pattern: each is one Q line
unfoldable mutual
  pub nodes : Pat → ℕ
  nodes PWild = 1
  nodes (PVar v) = 1
  nodes (PConst c) = 1
  nodes (PCtor n ps) = 1 + nodes_of_parts ps
  nodes (PRecord n ps) = 1 + nodes_of_parts ps
  nodes (PTuple ps) = 1 + nodes_of_parts ps
  nodes (POr ps) = 1 + nodes_of_parts ps

  pub nodes_of_parts : Pats → ℕ
  nodes_of_parts no_parts = 0
  nodes_of_parts (part f p ps) = nodes p + nodes_of_parts ps

-- the constructors that a pattern mentions: the names of its `PCtor`
unfoldable mutual
  pub pat_ctors : Pat → List ℕ
  pat_ctors PWild = []
  pat_ctors (PVar v) = []
  pat_ctors (PConst c) = []
  pat_ctors (PCtor n ps) = n ∷ pats_ctors ps
  pat_ctors (PRecord n ps) = pats_ctors ps
  pat_ctors (PTuple ps) = pats_ctors ps
  pat_ctors (POr ps) = pats_ctors ps

  pub pats_ctors : Pats → List ℕ
  pats_ctors no_parts = []
  pats_ctors (part f p ps) = pat_ctors p ++ pats_ctors ps

-- the types that it mentions: the names of its `PRecord`
unfoldable mutual
  pub pat_types : Pat → List ℕ
  pat_types PWild = []
  pat_types (PVar v) = []
  pat_types (PConst c) = []
  pat_types (PCtor n ps) = pats_types ps
  pat_types (PRecord n ps) = n ∷ pats_types ps
  pat_types (PTuple ps) = pats_types ps
  pat_types (POr ps) = pats_types ps

  pub pats_types : Pats → List ℕ
  pats_types no_parts = []
  pats_types (part f p ps) = pat_types p ++ pats_types ps

-- ---- lists of patterns
unfoldable pub parts : Pats → ℕ
parts no_parts = 0
parts (part f p ps) = suc (parts ps)

unfoldable pub part_fields : Pats → List ℕ
part_fields no_parts = []
part_fields (part f p ps) = f ∷ part_fields ps

-- Layout's `nth_opt`
unfoldable pub nth_opt : Pats → ℕ → Option Pat
nth_opt no_parts i = none
nth_opt (part f p ps) zero = some p
nth_opt (part f p ps) (suc i) = nth_opt ps i

-- the parts at other places than i
unfoldable pub other_parts : Pats → ℕ → Pats
other_parts no_parts i = no_parts
other_parts (part f p ps) zero = ps
other_parts (part f p ps) (suc i) = part f p (other_parts ps i)

-- the source's `List.tryFind`: the first part whose number passes the test
unfoldable pub try_find : (ℕ → Bool) → Pats → Option Pat
try_find keep no_parts = none
try_find keep (part f p ps) = pick (keep f) (some p) (try_find keep ps)

-- parts that are kept, and parts that are dropped
pub record Split : Type 0 where
  pub kept : Pats
  pub dropped : Pats

abbrev pub into : Bool → ℕ → Pat → Split → Split
into true f p s = record { kept = part f p s.kept; dropped = s.dropped }
into false f p s = record { kept = s.kept; dropped = part f p s.dropped }

-- Layout's `keep_by_slots`, true for a kept slot: parts past the last slot are kept
unfoldable pub keep_by_slots : List Bool → Pats → Split
keep_by_slots bs no_parts = record { kept = no_parts; dropped = no_parts }
keep_by_slots [] (part f p ps) = into true f p (keep_by_slots [] ps)
keep_by_slots (b ∷ bs) (part f p ps) = into b f p (keep_by_slots bs ps)

-- the parts whose number passes the test, and the others
unfoldable pub keep_by_name : (ℕ → Bool) → Pats → Split
keep_by_name keep no_parts = record { kept = no_parts; dropped = no_parts }
keep_by_name keep (part f p ps) = into (keep f) f p (keep_by_name keep ps)

-- whether a part's number is that of the field named g
unfoldable pub named : ℕ → ℕ → Bool
named g f = eqb f (suc g)

-- whether it is that of one of the fields
unfoldable pub names_one : List Field → ℕ → Bool
names_one [] f = false
names_one (g ∷ gs) f = named g.fd_name f || names_one gs f

-- ---- the tables
-- a constructor's layout, with the layout of its type
pub record Owner : Type 0 where
  pub layout : Layout
  pub ctor_layout : CtorLayout

unfoldable pub find_ctor : List CtorLayout → ℕ → Option CtorLayout
find_ctor [] n = none
find_ctor (cl ∷ cls) n = pick (eqb cl.cl_name n) (some cl) (find_ctor cls n)

unfoldable pub owned : Layout → Option CtorLayout → Option Owner → Option Owner
owned l none o = o
owned l (some cl) o = some (record { layout = l; ctor_layout = cl })

-- Layout's `ctor_owner`: the first constructor of that name, over the verdicts in order
unfoldable pub ctor_owner : List TypeInfo → ℕ → Option Owner
ctor_owner [] n = none
ctor_owner (ti ∷ tis) n = owned ti.ti_layout (find_ctor ti.ti_ctors n) (ctor_owner tis n)

unfoldable pub nth_layout : List TypeInfo → ℕ → Option Layout
nth_layout [] i = none
nth_layout (ti ∷ tis) zero = some ti.ti_layout
nth_layout (ti ∷ tis) (suc i) = nth_layout tis i

-- the layout of the type of that name: none of a foreign one, whose place is past the last verdict
unfoldable pub type_layout : List Decl → List TypeInfo → ℕ → Option Layout
type_layout ds tis n = nth_layout tis (position ds n)

-- ---- rw_pat
-- the new pattern, and the names whose places it lost
pub record Rewritten : Type 0 where
  pub pat : Pat
  pub freed : List ℕ

-- the same of a list: the parts, each rewritten, and what was freed in them, in their order
pub record RewrittenParts : Type 0 where
  pub pats : Pats
  pub freed : List ℕ

abbrev pub and_part : ℕ → Rewritten → RewrittenParts → RewrittenParts
and_part f r m = record { pats = part f r.pat m.pats; freed = r.freed ++ m.freed }

-- With these parts dropped, the names freed are those freed in parts, then those of the dropped parts.
abbrev pub dropping : RewrittenParts → Pats → Pat → Rewritten
dropping m qs p = record { pat = p; freed = m.freed ++ pats_vars qs }

-- the same kind over the parts
abbrev pub over : (Pats → Pat) → RewrittenParts → Rewritten
over kind m = record { pat = kind m.pats; freed = m.freed }

-- nothing to match is left: every part is dropped
abbrev pub wild : RewrittenParts → Rewritten
wild m = dropping m m.pats PWild

-- A constructor of a newtype, by the part at the index of its kept field.
unfoldable pub newtype_ctor : ℕ → RewrittenParts → Option Pat → Rewritten
newtype_ctor i m none = wild m
newtype_ctor i m (some p) = dropping m (other_parts m.pats i) p

abbrev pub struct_ctor : ℕ → RewrittenParts → Split → Rewritten
struct_ctor n m s = dropping m s.dropped (PCtor n s.kept)

-- `PCtor` of a declared constructor: a layout that is neither erased nor a newtype counts as a struct
unfoldable pub owned_ctor : ℕ → RewrittenParts → Layout → CtorLayout → Rewritten
owned_ctor n m L_erased cl = wild m
owned_ctor n m (L_newtype nt) cl = newtype_ctor nt.nt_index m (nth_opt m.pats nt.nt_index)
owned_ctor n m (L_struct cls) cl = struct_ctor n m (keep_by_slots cl.cl_slots m.pats)
owned_ctor n m (L_abbrev c) cl = struct_ctor n m (keep_by_slots cl.cl_slots m.pats)
owned_ctor n m L_opaque cl = struct_ctor n m (keep_by_slots cl.cl_slots m.pats)

-- `PCtor`, by its constructor's owner: a foreign one stays
unfoldable pub rw_ctor : ℕ → RewrittenParts → Option Owner → Rewritten
rw_ctor n m none = over (PCtor n) m
rw_ctor n m (some o) = owned_ctor n m o.layout o.ctor_layout

-- A record that is a newtype, by its first part with the name of the kept field.
unfoldable pub newtype_record : ℕ → RewrittenParts → Option Pat → Rewritten
newtype_record g m none = wild m
newtype_record g m (some p) = dropping m (keep_by_name (named g) m.pats).dropped p

abbrev pub struct_record : ℕ → RewrittenParts → Split → Rewritten
struct_record n m s = dropping m s.dropped (PRecord n s.kept)

-- `PRecord`, by the layout of the type of its name: a struct counts where it has one constructor, and
-- all else stays
unfoldable pub rw_record : ℕ → RewrittenParts → Option Layout → Rewritten
rw_record n m none = over (PRecord n) m
rw_record n m (some L_erased) = wild m
rw_record n m (some (L_newtype nt)) = newtype_record nt.nt_field m (try_find (named nt.nt_field) m.pats)
rw_record n m (some (L_struct [])) = over (PRecord n) m
rw_record n m (some (L_struct (cl ∷ []))) = struct_record n m (keep_by_name (names_one cl.cl_fields) m.pats)
rw_record n m (some (L_struct (cl ∷ cm ∷ cls))) = over (PRecord n) m
rw_record n m (some (L_abbrev c)) = over (PRecord n) m
rw_record n m (some L_opaque) = over (PRecord n) m

-- Layout's `rw_pat`: parts are rewritten before what holds them
module _ (owner : ℕ → Option Owner) (layout : ℕ → Option Layout) where
  unfoldable mutual
    pub rw_pat : Pat → Rewritten
    rw_pat PWild = record { pat = PWild; freed = [] }
    rw_pat (PVar v) = record { pat = PVar v; freed = [] }
    rw_pat (PConst c) = record { pat = PConst c; freed = [] }
    rw_pat (PCtor n ps) = rw_ctor n (many ps) (owner n)
    rw_pat (PRecord n ps) = rw_record n (many ps) (layout n)
    rw_pat (PTuple ps) = over PTuple (many ps)
    rw_pat (POr ps) = over POr (many ps)

    pub many : Pats → RewrittenParts
    many no_parts = record { pats = no_parts; freed = [] }
    many (part f p ps) = and_part f (rw_pat p) (many ps)

-- a pattern over the types of a program, by the verdicts that `run` gives them
unfoldable pub rewritten : ℕ → List Decl → Pat → Rewritten
rewritten fuel ds p =
    let tis : List TypeInfo = (run fuel ds).infos in
    rw_pat (ctor_owner tis) (type_layout ds tis) p

-- ---- what is claimed of them
-- how often a number stands in a list
unfoldable pub occurrences : ℕ → List ℕ → ℕ
occurrences v [] = 0
occurrences v (n ∷ ns) = bit (eqb n v) + occurrences v ns

-- No `PRecord` in the pattern names a field twice.
abbrev mutual
  pub Once : Pat → Type 0
  Once PWild = Unit {0}
  Once (PVar v) = Unit {0}
  Once (PConst c) = Unit {0}
  Once (PCtor n ps) = Onces ps
  Once (PRecord n ps) = ((g : ℕ) → occurrences (suc g) (part_fields ps) ≤ 1) × Onces ps
  Once (PTuple ps) = Onces ps
  Once (POr ps) = Onces ps

  pub Onces : Pats → Type 0
  Onces no_parts = Unit {0}
  Onces (part f p ps) = Once p × Onces ps

-- k parts are as many as the owner has slots
abbrev pub Slots : Option Owner → ℕ → Type 0
Slots none k = Unit {0}
Slots (some o) k = k ≡ length o.ctor_layout.cl_slots

-- k parts are as many as the constructor's kept fields, and its type is a struct
abbrev pub KeptIn : Layout → CtorLayout → ℕ → Type 0
KeptIn L_erased cl k = ⊥
KeptIn (L_newtype nt) cl k = ⊥
KeptIn (L_struct cls) cl k = k ≡ length cl.cl_fields
KeptIn (L_abbrev c) cl k = ⊥
KeptIn L_opaque cl k = ⊥

abbrev pub Kept : Option Owner → ℕ → Type 0
Kept none k = Unit {0}
Kept (some o) k = KeptIn o.layout o.ctor_layout k

-- each number is that of one of the fields
abbrev pub Names : List Field → Pats → Type 0
Names gs no_parts = Unit {0}
Names gs (part f p ps) = T (names_one gs f) × Names gs ps

-- the parts of a struct of one constructor name kept fields only
abbrev pub NamesKept : Option Layout → Pats → Type 0
NamesKept none ps = Unit {0}
NamesKept (some L_erased) ps = Unit {0}
NamesKept (some (L_newtype nt)) ps = Unit {0}
NamesKept (some (L_struct [])) ps = Unit {0}
NamesKept (some (L_struct (cl ∷ []))) ps = Names cl.cl_fields ps
NamesKept (some (L_struct (cl ∷ cm ∷ cls))) ps = Unit {0}
NamesKept (some (L_abbrev c)) ps = Unit {0}
NamesKept (some L_opaque) ps = Unit {0}

module _ (owner : ℕ → Option Owner) where
  -- Every `PCtor` of a declared constructor has a part for each of its fields, dropped ones included.
  abbrev mutual
    pub Counted : Pat → Type 0
    Counted PWild = Unit {0}
    Counted (PVar v) = Unit {0}
    Counted (PConst c) = Unit {0}
    Counted (PCtor n ps) = Slots (owner n) (parts ps) × Counteds ps
    Counted (PRecord n ps) = Counteds ps
    Counted (PTuple ps) = Counteds ps
    Counted (POr ps) = Counteds ps

    pub Counteds : Pats → Type 0
    Counteds no_parts = Unit {0}
    Counteds (part f p ps) = Counted p × Counteds ps

module _ (owner : ℕ → Option Owner) (layout : ℕ → Option Layout) where
  -- Every `PCtor` of a declared constructor has a struct for its type and as many parts as kept fields;
  -- every `PRecord` of a declared struct of one constructor names kept fields only.
  abbrev mutual
    pub Fitting : Pat → Type 0
    Fitting PWild = Unit {0}
    Fitting (PVar v) = Unit {0}
    Fitting (PConst c) = Unit {0}
    Fitting (PCtor n ps) = Kept (owner n) (parts ps) × Fittings ps
    Fitting (PRecord n ps) = NamesKept (layout n) ps × Fittings ps
    Fitting (PTuple ps) = Fittings ps
    Fitting (POr ps) = Fittings ps

    pub Fittings : Pats → Type 0
    Fittings no_parts = Unit {0}
    Fittings (part f p ps) = Fitting p × Fittings ps

-- the layouts that a type with constructors can have
abbrev pub Constructed : Layout → Type 0
Constructed L_erased = Unit {0}
Constructed (L_newtype nt) = Unit {0}
Constructed (L_struct cls) = Unit {0}
Constructed (L_abbrev c) = ⊥
Constructed L_opaque = ⊥

-- as many slots are kept as there are kept fields
abbrev pub Slotted : CtorLayout → Type 0
Slotted cl = trues cl.cl_slots ≡ length cl.cl_fields

-- what a table of constructors has, if it was made from verdicts
pub record Sound (owner : ℕ → Option Owner) : Type 0 where
  pub constructed : (n : ℕ) (o : Owner) → owner n ≡ some o → Constructed o.layout
  pub slotted : (n : ℕ) (o : Owner) → owner n ≡ some o → Slotted o.ctor_layout
