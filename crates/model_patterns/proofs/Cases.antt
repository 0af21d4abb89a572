-- The tests of patterns: what the walks, the tables and `rw_pat` give for small patterns written as
-- data, in tables under a claim each. Assumes nothing.
use Rattle.std.specs.Prelude.{◌≡◌, refl, List, [], ◌∷◌, map, Bool, true, false, ℕ, suc, ◌+◌, ◌≤◌, T, eqb}
use Rattle.std.proofs.Math.Option.{Option, none, some}
use Rattle.std.proofs.Common.{arith, eqb→eq}
use Rattle.model.specs.Cty.{TUnit}
use Rattle.model.specs.Decl.{Field, TAbstract, TRecord, TVariant, CtorLayout, Layout, L_erased, L_struct, L_abbrev, L_opaque, bit, TypeInfo, Decl, position}
use Rattle.model.proofs.Cases.{Case, ◌gives◌, Passed, int, name, field, ctor, one, decl, import, laid, newt, verdict, ran}
use Rattle.model_patterns.specs.Pat.{
  Pat,
  Pats,
  PWild,
  PVar,
  PConst,
  PCtor,
  PRecord,
  PTuple,
  POr,
  no_parts,
  part,
  pat_vars,
  nodes,
  pat_ctors,
  pat_types,
  parts,
  part_fields,
  nth_opt,
  other_parts,
  try_find,
  Split,
  keep_by_slots,
  keep_by_name,
  named,
  names_one,
  Owner,
  find_ctor,
  owned,
  ctor_owner,
  nth_layout,
  type_layout,
  Rewritten,
  newtype_ctor,
  owned_ctor,
  rw_ctor,
  newtype_record,
  rw_record,
  rw_pat,
  rewritten,
  occurrences,
  Once,
  Counted,
  Fitting,
}

-- ---- how a pattern is written
unfoldable pub list : List Pat → Pats
list [] = no_parts
list (p ∷ ps) = part 0 p (list ps)

pub record Entry : Type 0 where
  pub of_field : ℕ
  pub matches : Pat

infix 80 ◌≔◌
abbrev pub ◌≔◌ : ℕ → Pat → Entry
◌≔◌ f p = record { of_field = f; matches = p }

-- a part's number is its field's name plus one
unfoldable pub entries : List Entry → Pats
entries [] = no_parts
entries (i ∷ is) = part (suc i.of_field) i.matches (entries is)

abbrev pub ctor_pat : ℕ → List Pat → Pat
ctor_pat n ps = PCtor n (list ps)

abbrev pub record_pat : ℕ → List Entry → Pat
record_pat n is = PRecord n (entries is)

abbrev pub tuple : List Pat → Pat
tuple ps = PTuple (list ps)

abbrev pub either : List Pat → Pat
either ps = POr (list ps)

infix 75 ◌frees◌
abbrev pub ◌frees◌ : Pat → List ℕ → Rewritten
◌frees◌ p vs = record { pat = p; freed = vs }

-- fields
abbrev pub f : ℕ
f = 30

abbrev pub g : ℕ
g = 31

abbrev pub h : ℕ
h = 32

-- variables
abbrev pub u : ℕ
u = 40

abbrev pub v : ℕ
v = 41

abbrev pub x : ℕ
x = 42

abbrev pub y : ℕ
y = 43

abbrev pub z : ℕ
z = 44

-- ---- the types that the patterns below are of
-- An erased type with the constructor E, a newtype with W whose second field of three is kept, a struct
-- with A (its second field of three is dropped) and B, and a record, whose constructor has its name.
abbrev pub gone : ℕ
gone = 10

abbrev pub E : ℕ
E = 20

abbrev pub wrap : ℕ
wrap = 11

abbrev pub W : ℕ
W = 21

abbrev pub sum : ℕ
sum = 12

abbrev pub A : ℕ
A = 22

abbrev pub B : ℕ
B = 23

abbrev pub rec : ℕ
rec = 13

-- A struct without constructors, an abbreviation, and an abstract type. Verdicts that no declaration
-- gets have a constructor for these two.
abbrev pub void : ℕ
void = 14

abbrev pub short : ℕ
short = 15

abbrev pub M : ℕ
M = 24

abbrev pub hidden : ℕ
hidden = 16

abbrev pub O : ℕ
O = 25

-- a type and a constructor that are declared nowhere
abbrev pub far : ℕ
far = 17

abbrev pub K : ℕ
K = 26

-- the first and the third field of three are kept
abbrev pub outer : ℕ → CtorLayout
outer n = laid n (true ∷ false ∷ true ∷ []) (field f int ∷ field h int ∷ [])

-- the second of two is kept
abbrev pub second : ℕ → CtorLayout
second n = laid n (false ∷ true ∷ []) (field g int ∷ [])

abbrev pub bare : ℕ → CtorLayout
bare n = laid n [] []

abbrev pub verdicts : List TypeInfo
verdicts =
    verdict true L_erased (laid E (false ∷ true ∷ []) (field g int ∷ []) ∷ []) false
    ∷ verdict false (newt W g 1 int) (laid W (false ∷ true ∷ false ∷ []) (field g int ∷ []) ∷ []) false
    ∷ verdict false (L_struct (outer A ∷ bare B ∷ [])) (outer A ∷ bare B ∷ []) false
    ∷ verdict false (L_struct (outer rec ∷ [])) (outer rec ∷ []) false
    ∷ verdict false (L_struct []) [] false
    ∷ verdict false (L_abbrev int) (second M ∷ []) false
    ∷ verdict false L_opaque (second O ∷ []) false
    ∷ []

abbrev pub decls : List Decl
decls = map (λ n. decl n 0 [] TAbstract) (gone ∷ wrap ∷ sum ∷ rec ∷ void ∷ short ∷ hidden ∷ [])

-- ---- what is tested
unfoldable pub vars : Pat → List ℕ
unfolding pat_vars
vars = pat_vars

unfoldable pub lines : Pat → ℕ
unfolding nodes
lines = nodes

unfoldable pub mentioned : Pat → List (List ℕ)
unfolding pat_ctors pat_types
mentioned p = pat_ctors p ∷ pat_types p ∷ []

-- how many parts there are, and their numbers
unfoldable pub measured : Pats → List (List ℕ)
unfolding parts part_fields
measured ps = (parts ps ∷ []) ∷ part_fields ps ∷ []

unfoldable pub nth : List Pat → ℕ → Option Pat
unfolding nth_opt list
nth ps i = nth_opt (list ps) i

unfoldable pub others : List Pat → ℕ → Pats
unfolding other_parts list
others ps i = other_parts (list ps) i

unfoldable pub by_slots : List Bool → List Pat → Split
unfolding keep_by_slots list
by_slots bs ps = keep_by_slots bs (list ps)

-- the parts with the name of one of the fields, and the others
unfoldable pub by_fields : List Field → List Entry → Split
unfolding keep_by_name names_one named entries
by_fields fs is = keep_by_name (names_one fs) (entries is)

unfoldable pub find : ℕ → List Entry → Option Pat
unfolding try_find named entries
find g is = try_find (named g) (entries is)

unfoldable pub owner : ℕ → Option Owner
unfolding ctor_owner owned find_ctor
owner = ctor_owner verdicts

unfoldable pub layout : ℕ → Option Layout
unfolding type_layout nth_layout position
layout = type_layout decls verdicts

unfoldable pub becomes : Pat → Rewritten
unfolding owner layout rw_pat rw_ctor owned_ctor newtype_ctor rw_record newtype_record nth_opt other_parts try_find keep_by_slots keep_by_name named names_one pat_vars
becomes = rw_pat owner layout

-- over the types of a program
unfoldable pub in_program : List Decl → Pat → Rewritten
unfolding rewritten ran becomes
in_program = rewritten 100

unfoldable pub count : ℕ → List ℕ → ℕ
unfolding occurrences
count = occurrences

-- ---- walks
-- each kind with two variables, in a tuple of all
abbrev pub kinds : List Pat
kinds =
    PWild
    ∷ PVar x
    ∷ PConst 7
    ∷ ctor_pat A (PVar x ∷ PVar y ∷ [])
    ∷ record_pat rec (f ≔ PVar y ∷ g ≔ PVar x ∷ [])
    ∷ tuple (PVar z ∷ PVar x ∷ [])
    ∷ either (PVar x ∷ PVar x ∷ [])
    ∷ []

-- variables from left to right, with repetitions
unfoldable pub vars_cases : List (Case (List (List ℕ)))
unfolding vars list entries
vars_cases =
    map vars kinds
    gives ([] ∷ (x ∷ []) ∷ [] ∷ (x ∷ y ∷ []) ∷ (y ∷ x ∷ []) ∷ (z ∷ x ∷ []) ∷ (x ∷ x ∷ []) ∷ [])
    ∷ (vars (tuple kinds) ∷ []) gives ((x ∷ x ∷ y ∷ y ∷ x ∷ z ∷ x ∷ x ∷ x ∷ []) ∷ [])
    ∷ []

pub variables_in_order : Passed vars_cases
unfolding vars_cases
variables_in_order = refl

-- a node for each pattern in it
unfoldable pub lines_cases : List (Case (List ℕ))
unfolding lines list entries
lines_cases =
    map lines kinds gives (1 ∷ 1 ∷ 1 ∷ 3 ∷ 3 ∷ 3 ∷ 3 ∷ [])
    ∷ (lines (tuple kinds) ∷ []) gives (16 ∷ [])
    ∷ []

pub nodes_counted : Passed lines_cases
unfolding lines_cases
nodes_counted = refl

-- the names of `PCtor`, and those of `PRecord`
unfoldable pub mentioned_cases : List (Case (List (List ℕ)))
unfolding mentioned list entries
mentioned_cases =
    mentioned (ctor_pat A (ctor_pat B [] ∷ record_pat rec [] ∷ [])) gives ((A ∷ B ∷ []) ∷ (rec ∷ []) ∷ [])
    ∷ mentioned (record_pat rec (f ≔ record_pat wrap [] ∷ g ≔ ctor_pat W [] ∷ [])) gives ((W ∷ []) ∷ (rec ∷ wrap ∷ []) ∷ [])
    ∷ mentioned (tuple (either (ctor_pat A [] ∷ PVar x ∷ []) ∷ PConst 7 ∷ PWild ∷ record_pat far [] ∷ [])) gives ((A ∷ []) ∷ (far ∷ []) ∷ [])
    ∷ []

pub mentions_gathered : Passed mentioned_cases
unfolding mentioned_cases
mentions_gathered = refl

unfoldable pub count_cases : List (Case ℕ)
unfolding count
count_cases =
    count x [] gives 0
    ∷ count x (x ∷ y ∷ x ∷ []) gives 2
    ∷ count y (x ∷ y ∷ x ∷ []) gives 1
    ∷ count z (x ∷ y ∷ x ∷ []) gives 0
    ∷ []

pub occurrences_counted : Passed count_cases
unfolding count_cases
occurrences_counted = refl

-- ---- lists of patterns
unfoldable pub measured_cases : List (Case (List (List ℕ)))
unfolding measured list entries
measured_cases =
    measured (list (PVar x ∷ PVar y ∷ [])) gives ((2 ∷ []) ∷ (0 ∷ 0 ∷ []) ∷ [])
    ∷ measured (entries (g ≔ PVar x ∷ f ≔ tuple (PVar y ∷ PVar z ∷ []) ∷ g ≔ PWild ∷ [])) gives ((3 ∷ []) ∷ (suc g ∷ suc f ∷ suc g ∷ []) ∷ [])
    ∷ measured no_parts gives ((0 ∷ []) ∷ [] ∷ [])
    ∷ []

pub parts_counted : Passed measured_cases
unfolding measured_cases
parts_counted = refl

-- the part at a place, from 0, and the parts at other places
unfoldable pub nth_cases : List (Case (Option Pat))
unfolding nth
nth_cases =
    nth (PVar x ∷ PVar y ∷ []) 0 gives some (PVar x)
    ∷ nth (PVar x ∷ PVar y ∷ []) 1 gives some (PVar y)
    ∷ nth (PVar x ∷ PVar y ∷ []) 2 gives none
    ∷ nth [] 0 gives none
    ∷ []

pub nth_found : Passed nth_cases
unfolding nth_cases
nth_found = refl

unfoldable pub others_cases : List (Case Pats)
unfolding others list
others_cases =
    others (PVar x ∷ PVar y ∷ PVar z ∷ []) 0 gives list (PVar y ∷ PVar z ∷ [])
    ∷ others (PVar x ∷ PVar y ∷ PVar z ∷ []) 1 gives list (PVar x ∷ PVar z ∷ [])
    ∷ others (PVar x ∷ PVar y ∷ PVar z ∷ []) 3 gives list (PVar x ∷ PVar y ∷ PVar z ∷ [])
    ∷ []

pub others_found : Passed others_cases
unfolding others_cases
others_found = refl

abbrev pub split : List Pat → List Pat → Split
split ps qs = record { kept = list ps; dropped = list qs }

-- kept by slots: parts past the last slot are kept, and slots past the last part say nothing
unfoldable pub slots_cases : List (Case Split)
unfolding by_slots list
slots_cases =
    by_slots (true ∷ false ∷ true ∷ []) (PVar x ∷ PVar y ∷ PVar z ∷ []) gives split (PVar x ∷ PVar z ∷ []) (PVar y ∷ [])
    ∷ by_slots (false ∷ true ∷ false ∷ []) (PVar x ∷ PVar y ∷ PVar z ∷ []) gives split (PVar y ∷ []) (PVar x ∷ PVar z ∷ [])
    ∷ by_slots (false ∷ []) (PVar x ∷ PVar y ∷ PVar z ∷ []) gives split (PVar y ∷ PVar z ∷ []) (PVar x ∷ [])
    ∷ by_slots (false ∷ true ∷ false ∷ []) (PVar x ∷ []) gives split [] (PVar x ∷ [])
    ∷ by_slots [] (PVar x ∷ PVar y ∷ []) gives split (PVar x ∷ PVar y ∷ []) []
    ∷ []

pub slots_kept : Passed slots_cases
unfolding slots_cases
slots_kept = refl

abbrev pub fields_split : List Entry → List Entry → Split
fields_split is js = record { kept = entries is; dropped = entries js }

-- kept by the names of fields
unfoldable pub fields_cases : List (Case Split)
unfolding by_fields entries
fields_cases =
    by_fields (field h int ∷ field f int ∷ []) (f ≔ PVar x ∷ g ≔ PVar y ∷ h ≔ PVar z ∷ [])
    gives fields_split (f ≔ PVar x ∷ h ≔ PVar z ∷ []) (g ≔ PVar y ∷ [])
    ∷ by_fields [] (f ≔ PVar x ∷ []) gives fields_split [] (f ≔ PVar x ∷ [])
    ∷ by_fields (field f int ∷ []) (f ≔ PVar x ∷ f ≔ PVar y ∷ []) gives fields_split (f ≔ PVar x ∷ f ≔ PVar y ∷ []) []
    ∷ []

pub fields_kept : Passed fields_cases
unfolding fields_cases
fields_kept = refl

-- the first part of a field's name
unfoldable pub find_cases : List (Case (Option Pat))
unfolding find
find_cases =
    find g (f ≔ PVar x ∷ g ≔ PVar y ∷ g ≔ PVar z ∷ []) gives some (PVar y)
    ∷ find h (f ≔ PVar x ∷ g ≔ PVar y ∷ []) gives none
    ∷ []

pub first_found : Passed find_cases
unfolding find_cases
first_found = refl

-- ---- tables
abbrev pub owned_by : Layout → CtorLayout → Option Owner
owned_by l cl = some (record { layout = l; ctor_layout = cl })

-- A constructor is found by its own name, with its type's layout; a record under its type's name, a
-- variant not.
unfoldable pub owner_cases : List (Case (Option Owner))
unfolding owner
owner_cases =
    owner W gives owned_by (newt W g 1 int) (laid W (false ∷ true ∷ false ∷ []) (field g int ∷ []))
    ∷ owner A gives owned_by (L_struct (outer A ∷ bare B ∷ [])) (outer A)
    ∷ owner B gives owned_by (L_struct (outer A ∷ bare B ∷ [])) (bare B)
    ∷ owner rec gives owned_by (L_struct (outer rec ∷ [])) (outer rec)
    ∷ owner wrap gives none
    ∷ owner K gives none
    ∷ []

pub owners_found : Passed owner_cases
unfolding owner_cases
owners_found = refl

-- the first of a name, over the verdicts in order and the constructors in order
abbrev pub again : List TypeInfo
again =
    verdict false L_opaque (bare A ∷ []) false
    ∷ verdict false (L_abbrev int) (bare B ∷ second B ∷ second A ∷ []) false
    ∷ []

unfoldable pub first_cases : List (Case (Option Owner))
unfolding owner
first_cases =
    ctor_owner again A gives owned_by L_opaque (bare A)
    ∷ ctor_owner again B gives owned_by (L_abbrev int) (bare B)
    ∷ []

pub first_owner : Passed first_cases
unfolding first_cases
first_owner = refl

-- a type by its own name, and a constructor's name is none
unfoldable pub layout_cases : List (Case (Option Layout))
unfolding layout
layout_cases =
    layout gone gives some L_erased
    ∷ layout wrap gives some (newt W g 1 int)
    ∷ layout rec gives some (L_struct (outer rec ∷ []))
    ∷ layout hidden gives some L_opaque
    ∷ layout W gives none
    ∷ layout far gives none
    ∷ []

pub layouts_found : Passed layout_cases
unfolding layout_cases
layouts_found = refl

-- ---- patterns by kinds
-- nothing is lost where no type is
unfoldable pub kept_cases : List (Case Rewritten)
unfolding becomes list entries
kept_cases =
    becomes PWild gives PWild frees []
    ∷ becomes (PVar x) gives PVar x frees []
    ∷ becomes (PConst 7) gives PConst 7 frees []
    ∷ becomes (tuple (PVar x ∷ PWild ∷ [])) gives tuple (PVar x ∷ PWild ∷ []) frees []
    ∷ becomes (either (PConst 7 ∷ PConst 8 ∷ [])) gives either (PConst 7 ∷ PConst 8 ∷ []) frees []
    ∷ becomes (ctor_pat B []) gives ctor_pat B [] frees []
    ∷ []

pub others_stay : Passed kept_cases
unfolding kept_cases
others_stay = refl

-- a constructor that is declared nowhere stays, and so does the name of a variant type
unfoldable pub foreign_cases : List (Case Rewritten)
unfolding becomes list entries
foreign_cases =
    becomes (ctor_pat K (PVar x ∷ PVar y ∷ [])) gives ctor_pat K (PVar x ∷ PVar y ∷ []) frees []
    ∷ becomes (ctor_pat wrap (PVar x ∷ PVar y ∷ [])) gives ctor_pat wrap (PVar x ∷ PVar y ∷ []) frees []
    ∷ []

pub foreign_stay : Passed foreign_cases
unfolding foreign_cases
foreign_stay = refl

-- a constructor of an erased type: every variable is freed, also of a kept field
unfoldable pub erased_cases : List (Case Rewritten)
unfolding becomes list
erased_cases =
    becomes (ctor_pat E (PVar x ∷ PVar y ∷ [])) gives PWild frees (x ∷ y ∷ [])
    ∷ becomes (ctor_pat E []) gives PWild frees []
    ∷ []

pub erased_is_wild : Passed erased_cases
unfolding erased_cases
erased_is_wild = refl

-- of a newtype: the part at the kept field's place among all fields; too few parts leave nothing, and
-- parts past the last field are freed
unfoldable pub newtype_cases : List (Case Rewritten)
unfolding becomes list
newtype_cases =
    becomes (ctor_pat W (PVar x ∷ PVar y ∷ PVar z ∷ [])) gives PVar y frees (x ∷ z ∷ [])
    ∷ becomes (ctor_pat W (PWild ∷ PConst 7 ∷ PVar z ∷ [])) gives PConst 7 frees (z ∷ [])
    ∷ becomes (ctor_pat W (PVar x ∷ [])) gives PWild frees (x ∷ [])
    ∷ becomes (ctor_pat W []) gives PWild frees []
    ∷ becomes (ctor_pat W (PVar x ∷ PVar y ∷ PVar z ∷ PVar u ∷ [])) gives PVar y frees (x ∷ z ∷ u ∷ [])
    ∷ []

pub newtype_is_its_part : Passed newtype_cases
unfolding newtype_cases
newtype_is_its_part = refl

-- of a struct: the parts of kept fields, also where a record is matched by its constructor; parts past
-- the last field are kept
unfoldable pub struct_cases : List (Case Rewritten)
unfolding becomes list
struct_cases =
    becomes (ctor_pat A (PVar x ∷ PVar y ∷ PVar z ∷ [])) gives ctor_pat A (PVar x ∷ PVar z ∷ []) frees (y ∷ [])
    ∷ becomes (ctor_pat rec (PVar x ∷ PVar y ∷ PVar z ∷ [])) gives ctor_pat rec (PVar x ∷ PVar z ∷ []) frees (y ∷ [])
    ∷ becomes (ctor_pat A (PVar x ∷ [])) gives ctor_pat A (PVar x ∷ []) frees []
    ∷ becomes (ctor_pat A (PVar x ∷ PVar y ∷ PVar z ∷ PVar u ∷ [])) gives ctor_pat A (PVar x ∷ PVar z ∷ PVar u ∷ []) frees (y ∷ [])
    ∷ becomes (ctor_pat B (PVar x ∷ [])) gives ctor_pat B (PVar x ∷ []) frees []
    ∷ []

pub struct_keeps_its_fields : Passed struct_cases
unfolding struct_cases
struct_keeps_its_fields = refl

-- any other layout with a constructor counts as a struct
unfoldable pub odd_cases : List (Case Rewritten)
unfolding becomes list
odd_cases =
    becomes (ctor_pat M (PVar x ∷ PVar y ∷ [])) gives ctor_pat M (PVar y ∷ []) frees (x ∷ [])
    ∷ becomes (ctor_pat O (PVar x ∷ PVar y ∷ [])) gives ctor_pat O (PVar y ∷ []) frees (x ∷ [])
    ∷ []

pub odd_as_struct : Passed odd_cases
unfolding odd_cases
odd_as_struct = refl

-- `PRecord` goes by its type's name. It stays where that is declared nowhere (a constructor's name is
-- no type's), an abbreviation, abstract, or a struct with no or several constructors.
unfoldable pub record_cases : List (Case Rewritten)
unfolding becomes entries
record_cases =
    map
    (λ n. becomes (record_pat n (f ≔ PVar x ∷ g ≔ PVar y ∷ [])) gives record_pat n (f ≔ PVar x ∷ g ≔ PVar y ∷ []) frees [])
    (far ∷ W ∷ A ∷ void ∷ sum ∷ short ∷ hidden ∷ [])

pub other_records_stay : Passed record_cases
unfolding record_cases
other_records_stay = refl

-- of an erased type
unfoldable pub erased_record_cases : List (Case Rewritten)
unfolding becomes entries
erased_record_cases =
    becomes (record_pat gone (g ≔ PVar x ∷ f ≔ PVar y ∷ [])) gives PWild frees (x ∷ y ∷ [])
    ∷ becomes (record_pat gone []) gives PWild frees []
    ∷ []

pub erased_record_is_wild : Passed erased_record_cases
unfolding erased_record_cases
erased_record_is_wild = refl

-- Of a newtype: the first part with the kept field's name, and with none such nothing to match. A
-- field that the type has not is another field. Of a second part of the kept name the variables vanish.
unfoldable pub newtype_record_cases : List (Case Rewritten)
unfolding becomes entries
newtype_record_cases =
    becomes (record_pat wrap (f ≔ PVar x ∷ g ≔ PVar y ∷ h ≔ PVar z ∷ [])) gives PVar y frees (x ∷ z ∷ [])
    ∷ becomes (record_pat wrap (g ≔ PVar y ∷ [])) gives PVar y frees []
    ∷ becomes (record_pat wrap (f ≔ PVar x ∷ h ≔ PVar z ∷ [])) gives PWild frees (x ∷ z ∷ [])
    ∷ becomes (record_pat wrap (far ≔ PVar x ∷ g ≔ PVar y ∷ [])) gives PVar y frees (x ∷ [])
    ∷ becomes (record_pat wrap (g ≔ PVar x ∷ f ≔ PVar y ∷ g ≔ PVar z ∷ [])) gives PVar x frees (y ∷ [])
    ∷ []

pub newtype_record_is_its_part : Passed newtype_record_cases
unfolding newtype_record_cases
newtype_record_is_its_part = refl

-- of a struct of one constructor: the parts with the name of a kept field, in their order, both of a
-- field named twice; a field that the type has not is dropped
unfoldable pub struct_record_cases : List (Case Rewritten)
unfolding becomes entries
struct_record_cases =
    becomes (record_pat rec (f ≔ PVar x ∷ g ≔ PVar y ∷ h ≔ PVar z ∷ []))
    gives record_pat rec (f ≔ PVar x ∷ h ≔ PVar z ∷ []) frees (y ∷ [])
    ∷ becomes (record_pat rec (h ≔ PVar x ∷ g ≔ PVar y ∷ f ≔ PVar z ∷ []))
    gives record_pat rec (h ≔ PVar x ∷ f ≔ PVar z ∷ []) frees (y ∷ [])
    ∷ becomes (record_pat rec (g ≔ PVar y ∷ [])) gives record_pat rec [] frees (y ∷ [])
    ∷ becomes (record_pat rec (far ≔ PVar x ∷ f ≔ PVar y ∷ [])) gives record_pat rec (f ≔ PVar y ∷ []) frees (x ∷ [])
    ∷ becomes (record_pat rec (f ≔ PVar x ∷ g ≔ PVar y ∷ f ≔ PVar z ∷ []))
    gives record_pat rec (f ≔ PVar x ∷ f ≔ PVar z ∷ []) frees (y ∷ [])
    ∷ []

pub struct_record_keeps_its_fields : Passed struct_record_cases
unfolding struct_record_cases
struct_record_keeps_its_fields = refl

-- ---- parts first
-- A part is rewritten also where its holder stays. What is freed inside parts comes first, in their
-- order, then the names of dropped parts; a name freed inside a dropped part is no longer in it.
unfoldable pub order_cases : List (Case Rewritten)
unfolding becomes list entries
order_cases =
    becomes (ctor_pat K (ctor_pat W (PVar x ∷ PVar y ∷ PVar z ∷ []) ∷ [])) gives ctor_pat K (PVar y ∷ []) frees (x ∷ z ∷ [])
    ∷ becomes (record_pat far (f ≔ ctor_pat W (PVar x ∷ PVar y ∷ PVar z ∷ []) ∷ [])) gives record_pat far (f ≔ PVar y ∷ []) frees (x ∷ z ∷ [])
    ∷ becomes (ctor_pat A (PVar x ∷ tuple (PVar y ∷ ctor_pat E (PVar u ∷ PVar v ∷ []) ∷ []) ∷ PVar z ∷ []))
    gives ctor_pat A (PVar x ∷ PVar z ∷ []) frees (u ∷ v ∷ y ∷ [])
    ∷ becomes (ctor_pat A (PVar x ∷ PVar y ∷ ctor_pat E (PVar z ∷ []) ∷ []))
    gives ctor_pat A (PVar x ∷ PWild ∷ []) frees (z ∷ y ∷ [])
    ∷ becomes (ctor_pat W (PVar x ∷ ctor_pat W (PVar u ∷ PVar y ∷ PVar v ∷ []) ∷ ctor_pat E (PVar z ∷ []) ∷ []))
    gives PVar y frees (u ∷ v ∷ z ∷ x ∷ [])
    ∷ becomes (ctor_pat E (PVar x ∷ ctor_pat E (PVar y ∷ []) ∷ PVar z ∷ [])) gives PWild frees (y ∷ x ∷ z ∷ [])
    ∷ becomes (record_pat rec (g ≔ PVar x ∷ f ≔ ctor_pat W (PVar u ∷ PVar y ∷ PVar z ∷ []) ∷ []))
    gives record_pat rec (f ≔ PVar y ∷ []) frees (u ∷ z ∷ x ∷ [])
    ∷ becomes (record_pat wrap (f ≔ PVar x ∷ g ≔ ctor_pat E (PVar y ∷ []) ∷ [])) gives PWild frees (y ∷ x ∷ [])
    ∷ becomes (tuple (ctor_pat E (PVar x ∷ []) ∷ ctor_pat E (PVar y ∷ []) ∷ [])) gives tuple (PWild ∷ PWild ∷ []) frees (x ∷ y ∷ [])
    ∷ []

pub freed_inside_first : Passed order_cases
unfolding order_cases
freed_inside_first = refl

-- Repetitions are kept, and a name freed in one branch may still stand in another.
unfoldable pub either_cases : List (Case Rewritten)
unfolding becomes list
either_cases =
    becomes (ctor_pat E (either (PVar x ∷ PVar x ∷ []) ∷ [])) gives PWild frees (x ∷ x ∷ [])
    ∷ becomes (either (ctor_pat E (PVar x ∷ []) ∷ ctor_pat E (PVar x ∷ []) ∷ [])) gives either (PWild ∷ PWild ∷ []) frees (x ∷ x ∷ [])
    ∷ becomes (either (ctor_pat E (PVar x ∷ []) ∷ PVar x ∷ [])) gives either (PWild ∷ PVar x ∷ []) frees (x ∷ [])
    ∷ []

pub repetitions_kept : Passed either_cases
unfolding either_cases
repetitions_kept = refl

-- ---- programs
-- A record with fields a : Lap, b : unit and ms : int, where Lap of MkLap ms note is a newtype, as
-- `note` is a unit: Pair { a = MkLap x y; b = a } becomes Pair { a = x } and frees y, then a.
abbrev pub Lap : ℕ
Lap = 0

abbrev pub MkLap : ℕ
MkLap = 1

abbrev pub ms : ℕ
ms = 2

abbrev pub note : ℕ
note = 3

abbrev pub Pair : ℕ
Pair = 6

abbrev pub a : ℕ
a = 7

abbrev pub b : ℕ
b = 8

abbrev pub laps : List Decl
laps =
    decl Lap 0 [] (one MkLap (field ms int ∷ field note TUnit ∷ []))
    ∷ decl Pair 0 [] (TRecord (field a (name Lap) ∷ field b TUnit ∷ field ms int ∷ []))
    ∷ []

-- an import that is erased, `gone = E of unit`: ((E x | E x), 7, K y) becomes ((_ | _), 7, K y) and frees x twice
abbrev pub imports : List Decl
imports =
    import (decl gone 0 [] (one E (field f TUnit ∷ []))) (verdict true L_erased (laid E (false ∷ []) [] ∷ []) false) ∷ []

-- `sum = A of f : unit, g : int, h : unit | B`: A x y z becomes A y and frees x and z
abbrev pub sums : List Decl
sums =
    decl sum 0 [] (TVariant (ctor A (field f TUnit ∷ field g int ∷ field h TUnit ∷ []) ∷ ctor B [] ∷ [])) ∷ []

unfoldable pub program_cases : List (Case Rewritten)
unfolding in_program list entries
program_cases =
    in_program laps (record_pat Pair (a ≔ ctor_pat MkLap (PVar x ∷ PVar y ∷ []) ∷ b ≔ PVar a ∷ []))
    gives record_pat Pair (a ≔ PVar x ∷ []) frees (y ∷ a ∷ [])
    ∷ in_program imports (tuple (either (ctor_pat E (PVar x ∷ []) ∷ ctor_pat E (PVar x ∷ []) ∷ []) ∷ PConst 7 ∷ ctor_pat K (PVar y ∷ []) ∷ []))
    gives tuple (either (PWild ∷ PWild ∷ []) ∷ PConst 7 ∷ ctor_pat K (PVar y ∷ []) ∷ []) frees (x ∷ x ∷ [])
    ∷ in_program sums (ctor_pat A (PVar x ∷ PVar y ∷ PVar z ∷ [])) gives ctor_pat A (PVar y ∷ []) frees (x ∷ z ∷ [])
    ∷ in_program [] (ctor_pat A (PVar x ∷ [])) gives ctor_pat A (PVar x ∷ []) frees []
    ∷ []

pub patterns_follow_types : Passed program_cases
unfolding program_cases
patterns_follow_types = refl

-- ---- the words of the claims
-- one field twice is not named once, and two fields are named once each
pub twice_is_not_once : Once (tuple (record_pat rec (f ≔ PVar x ∷ f ≔ PVar y ∷ []) ∷ [])) → ⊥
unfolding list entries part_fields occurrences
twice_is_not_once o = omega (arith, o.0.0 f)

pub once_each : Once (record_pat rec (f ≔ PVar x ∷ g ≔ PVar y ∷ []))
unfolding entries part_fields occurrences
once_each =
    (λ n. omega (arith, go n (eqb (suc f) (suc n)) (eqb (suc g) (suc n)) (eqb→eq (suc f) (suc n)) (eqb→eq (suc g) (suc n))), (tt, (tt, tt)))
  where
    go : (n : ℕ) (i j : Bool) → (T i → suc f ≡ suc n) → (T j → suc g ≡ suc n) → bit i + (bit j + 0) ≤ 1
    go n true true d e = absurd (omega (arith, d tt, e tt))
    go n true false d e = omega arith
    go n false true d e = omega arith
    go n false false d e = omega arith

-- a part for each field, dropped ones included
pub all_counted : Counted owner (ctor_pat K (ctor_pat W (PVar x ∷ PVar y ∷ PVar z ∷ []) ∷ []))
unfolding list owner parts
all_counted = (tt, ((refl, (tt, (tt, (tt, tt)))), tt))

pub too_few : Counted owner (record_pat rec (f ≔ ctor_pat A (PVar x ∷ PVar z ∷ []) ∷ [])) → ⊥
unfolding list entries owner parts
too_few o = omega (arith, o.0.0)

-- What fits: kept fields alone, of a struct alone.
pub kept_fit : Fitting owner layout (ctor_pat A (PVar x ∷ record_pat rec (h ≔ PVar y ∷ []) ∷ []))
unfolding list entries owner layout parts names_one named
kept_fit = (refl, (tt, (((tt, tt), (tt, tt)), tt)))

pub too_many : Fitting owner layout (tuple (ctor_pat A (PVar x ∷ PVar y ∷ PVar z ∷ []) ∷ [])) → ⊥
unfolding list owner parts
too_many o = omega (arith, o.0.0)

pub no_struct : (Fitting owner layout (ctor_pat E []) → ⊥) × (Fitting owner layout (ctor_pat W (PVar x ∷ [])) → ⊥) × (Fitting owner layout (ctor_pat M (PVar x ∷ [])) → ⊥)
unfolding list owner
no_struct = (λ o. o.0, λ o. o.0, λ o. o.0)

pub dropped_field : Fitting owner layout (record_pat rec (f ≔ PVar x ∷ g ≔ PVar y ∷ [])) → ⊥
unfolding entries layout names_one named
dropped_field o = o.0.1.0
