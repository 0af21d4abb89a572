-- From the lines of a sheet to the program that they declare (FORMAT, sections 2 and 3). Total on every
-- list of lines, and meant for those that pass rows 2 to 7. Assumes nothing.
use Rattle.std.specs.Prelude.{List, [], ◌∷◌, ◌++◌, map, Bool, false, ◌||◌, not, ℕ, zero, suc, ◌+◌, eqb, get_or}
use Rattle.std.proofs.Math.Option.{Option, none, some}
use Rattle.number_columns.specs.Column.{pick, ◌⇒◌∥◌}
use Rattle.sheet.specs.Line.{Line, bad, letter, number}
use Rattle.model.specs.Cty.{Cty, Ctys, TUnit, TAny, TExn, TVar, TInt, TFloat, TConst, TArrow, TApp, TTuple, TBuf, TRef, TInline, nil, cons}
use Rattle.model.specs.Decl.{
  Field,
  Ctor,
  Body,
  TAbstract,
  TAbbrev,
  TRecord,
  TVariant,
  Dtype,
  ctors_of_tydef,
  CtorLayout,
  Layout,
  L_erased,
  L_struct,
  L_abbrev,
  L_opaque,
  TypeInfo,
  here,
  imported,
  Decl,
  close_fields,
}
use Rattle.model.specs.Layout.{ctor_layout, newtype_of, collapse}

-- ---- letters
abbrev pub name_line : ℕ
name_line = 78

abbrev pub arg_line : ℕ
arg_line = 65

abbrev pub type_line : ℕ
type_line = 89

abbrev pub local_line : ℕ
local_line = 68

abbrev pub import_line : ℕ
import_line = 73

abbrev pub param_line : ℕ
param_line = 80

abbrev pub ctor_line : ℕ
ctor_line = 67

abbrev pub field_line : ℕ
field_line = 70

abbrev pub verdict_line : ℕ
verdict_line = 86

abbrev pub is : ℕ → Line → Bool
is x l = eqb (letter l) x

-- a declaration begins at its D or I line
abbrev pub is_head : Line → Bool
is_head l = is local_line l || is import_line l

-- ---- parts of a sheet
-- the lines of one letter
unfoldable pub select : ℕ → List Line → List Line
select x [] = []
select x (l ∷ ls) = let r : List Line = select x ls in pick (is x l) (l ∷ r) r

-- the lines before the first that begins a group
unfoldable pub before : (Line → Bool) → List Line → List Line
before begins [] = []
before begins (l ∷ ls) = pick (begins l) [] (l ∷ before begins ls)

pub record Group : Type 0 where
  pub head : Line
  pub rest : List Line

-- Each line that begins a group, with the lines up to the next such line: declarations by their D or
-- I lines, and in a declaration constructors by their C lines.
unfoldable pub groups : (Line → Bool) → List Line → List Group
groups begins [] = []
groups begins (l ∷ ls) =
    let r : List Group = groups begins ls in
    pick (begins l) (record { head = l; rest = before begins ls } ∷ r) r

-- ---- types
-- the types of the k A lines from line i on
unfoldable pub list_of : List Cty → List ℕ → ℕ → ℕ → Ctys
list_of ts xs i zero = nil
list_of ts xs i (suc k) = cons (get_or ts (get_or xs i 0) TUnit) (list_of ts xs (suc i) k)

-- a Y line's type, from those of the Y lines before it
unfoldable pub tree : List Cty → List ℕ → ℕ → ℕ → ℕ → ℕ → Cty
tree ts xs kind a b c =
    eqb kind 1 ⇒ TAny ∥
    eqb kind 2 ⇒ TExn ∥
    eqb kind 3 ⇒ TVar a ∥
    eqb kind 4 ⇒ TInt a b ∥
    eqb kind 5 ⇒ TFloat a ∥
    eqb kind 6 ⇒ TConst a ∥
    eqb kind 7 ⇒ TArrow (get_or ts a TUnit) b (get_or ts c TUnit) ∥
    eqb kind 8 ⇒ TApp a (list_of ts xs b c) ∥
    eqb kind 9 ⇒ TTuple (list_of ts xs a b) ∥
    eqb kind 10 ⇒ TBuf (get_or ts a TUnit) ∥
    eqb kind 11 ⇒ TRef a (get_or ts b TUnit) ∥
    eqb kind 12 ⇒ TInline (get_or ts a TUnit) ∥
    TUnit

unfoldable pub trees_after : List ℕ → List Cty → List Line → List Cty
trees_after xs ts [] = ts
trees_after xs ts (l ∷ ls) = trees_after xs (ts ++ (tree ts xs (number l 0) (number l 1) (number l 2) (number l 3) ∷ [])) ls

-- the types of the Y lines
unfoldable pub trees : List Line → List Cty
trees ls = trees_after (map (λ l. number l 0) (select arg_line ls)) [] (select type_line ls)

-- ---- declarations
module _ (ts : List Cty) where
  abbrev pub type_at : ℕ → Cty
  type_at i = get_or ts i TUnit

  unfoldable pub field_of : Line → Field
  field_of l = record { fd_name = number l 0; fd_type = type_at (number l 1) }

  unfoldable pub ctor_of : Group → Ctor
  ctor_of g = record { ct_name = number g.head 0; ct_fields = map field_of (select field_line g.rest) }

  unfoldable pub body_of : ℕ → ℕ → List Line → Body
  body_of kind last ls =
      eqb kind 1 ⇒ TAbbrev (type_at last) ∥
      eqb kind 2 ⇒ TRecord (map field_of (select field_line ls)) ∥
      eqb kind 3 ⇒ TVariant (map ctor_of (groups (is ctor_line) ls)) ∥
      TAbstract

  unfoldable pub dtype_of : Group → Dtype
  dtype_of g =
      record {
        dt_name = number g.head 0;
        dt_flags = number g.head 1;
        dt_params = map (λ l. number l 0) (select param_line g.rest);
        dt_body = body_of (number g.head 2) (number g.head 4) g.rest;
      }

-- ---- imported verdicts
-- the keep numbers of a constructor's F lines
unfoldable pub keeps : List Line → List Bool
keeps ls = map (λ l. not (eqb (number l 2) 0)) (select field_line ls)

-- for each constructor, a record counting as one
unfoldable pub keeps_of : Body → List Line → List (List Bool)
keeps_of TAbstract ls = []
keeps_of (TAbbrev c) ls = []
keeps_of (TRecord fs) ls = keeps ls ∷ []
keeps_of (TVariant cs) ls = map (λ g. keeps g.rest) (groups (is ctor_line) ls)

-- the tag that the third number of a C line stands for: 0 for none, else one more than the tag
abbrev pub tag_of : ℕ → Option ℕ
tag_of zero = none
tag_of (suc i) = some i

-- the tag of each constructor, by its place, from the C lines; a record has none
abbrev pub tags : List Line → ℕ → Option ℕ
tags ls i = tag_of (number (get_or (select ctor_line ls) i bad) 2)

unfoldable pub ctor_layouts_by : (ℕ → Option ℕ) → List Ctor → List (List Bool) → List CtorLayout
ctor_layouts_by tag [] bss = []
ctor_layouts_by tag (c ∷ cs) [] = []
ctor_layouts_by tag (c ∷ cs) (bs ∷ bss) = ctor_layout (tag 0) c bs ∷ ctor_layouts_by (λ i. tag (suc i)) cs bss

abbrev pub abbreviated : Body → Layout
abbreviated TAbstract = L_opaque
abbreviated (TAbbrev c) = L_abbrev c
abbreviated (TRecord fs) = L_opaque
abbreviated (TVariant cs) = L_opaque

-- the layout that a V line's second number stands for; a newtype's payload is found as a candidate's is
unfoldable pub layout_by : ℕ → Body → List CtorLayout → Layout
layout_by n b cls =
    eqb n 0 ⇒ L_erased ∥
    eqb n 1 ⇒ collapse false (newtype_of cls) cls ∥
    eqb n 2 ⇒ L_struct cls ∥
    eqb n 3 ⇒ abbreviated b ∥
    L_opaque

unfoldable pub info_of : Dtype → List Line → Line → TypeInfo
info_of d ls v =
    let cls : List CtorLayout = ctor_layouts_by (tags ls) (ctors_of_tydef d) (keeps_of d.dt_body ls) in
    record {
      ti_erased = eqb (number v 0) 1;
      ti_layout = layout_by (number v 1) d.dt_body cls;
      ti_ctors = cls;
      ti_record = eqb (number v 2) 1;
    }

abbrev pub verdict_of : List Line → Line
verdict_of ls = get_or (select verdict_line ls) 0 bad

-- ---- the program
-- a declaration, its fields closed first; an I line's has the verdict of its lines
unfoldable pub decl_of : List Cty → Group → Decl
decl_of ts g =
    let d : Dtype = close_fields (dtype_of ts g) in
    record { dtype = d; origin = pick (is import_line g.head) (imported (info_of d g.rest (verdict_of g.rest))) here }

unfoldable pub program : List Line → List Decl
program ls = let ts : List Cty = trees ls in map (decl_of ts) (groups is_head ls)
