-- A program does not depend on the texts of its lines. Assumes nothing.
use Rattle.std.specs.Prelude.{◌≡◌, List, [], ◌∷◌, ◌++◌, map, Bool, true, false, not, ℕ, zero, suc, eqb, get_or}
use Rattle.std.proofs.Math.Path.{refl}
use Rattle.std.proofs.Common.{ap, ◌∙◌}
use Rattle.number_columns.specs.Column.{pick}
use Rattle.sheet.specs.Line.{Line, bad, number}
use Rattle.walk_cells.specs.Cells.{bare}
use Rattle.model.specs.Cty.{Cty}
use Rattle.model.specs.Decl.{Ctor, Body, TAbstract, TAbbrev, TRecord, TVariant, Dtype, ctors_of_tydef, close_fields}
use Rattle.meaning.specs.Program.{
  arg_line,
  type_line,
  param_line,
  ctor_line,
  field_line,
  verdict_line,
  is,
  is_head,
  select,
  before,
  Group,
  groups,
  tree,
  trees_after,
  trees,
  field_of,
  ctor_of,
  body_of,
  dtype_of,
  keeps,
  keeps_of,
  tag_of,
  tags,
  ctor_layouts_by,
  info_of,
  verdict_of,
  decl_of,
  program,
}
use Rattle.meaning_laws.specs.Program.{ctor_layouts_tags}

-- ---- parts of a sheet
pub select_bare : (x : ℕ) (ls : List Line) → select x (map bare ls) ≡ map bare (select x ls)
unfolding select
select_bare x [] = refl
select_bare x (l ∷ ls) = rw (select_bare x ls) (go (is x l))
  where
    go : (b : Bool) → pick b (bare l ∷ map bare (select x ls)) (map bare (select x ls)) ≡ map bare (pick b (l ∷ select x ls) (select x ls))
    go true = refl
    go false = refl

-- a test that goes by letters and numbers
abbrev Blind : (Line → Bool) → Type 0
Blind p = (l : Line) → p (bare l) ≡ p l

before_bare : (p : Line → Bool) → Blind p → (ls : List Line) → before p (map bare ls) ≡ map bare (before p ls)
unfolding before
before_bare p h [] = refl
before_bare p h (l ∷ ls) = rw (h l, before_bare p h ls) (go (p l))
  where
    go : (b : Bool) → pick b [] (bare l ∷ map bare (before p ls)) ≡ map bare (pick b [] (l ∷ before p ls))
    go true = refl
    go false = refl

abbrev pub bare_group : Group → Group
bare_group g = record { head = bare g.head; rest = map bare g.rest }

pub groups_bare : (p : Line → Bool) → Blind p → (ls : List Line) → groups p (map bare ls) ≡ map bare_group (groups p ls)
unfolding groups
groups_bare p h [] = refl
groups_bare p h (l ∷ ls) = rw (h l, groups_bare p h ls, before_bare p h ls) (go (p l))
  where
    go : (b : Bool)
        → pick b (record { head = bare l; rest = map bare (before p ls) } ∷ map bare_group (groups p ls)) (map bare_group (groups p ls))
        ≡ map bare_group (pick b (record { head = l; rest = before p ls } ∷ groups p ls) (groups p ls))
    go true = refl
    go false = refl

-- what is made of each line alone
-- what goes by a line's letter and numbers alone
pub at_bare : {A : Type 0} (f : Line → A) → ((l : Line) → f (bare l) ≡ f l) → (ls : List Line) (i : ℕ) → f (get_or (map bare ls) i bad) ≡ f (get_or ls i bad)
at_bare f h [] i = refl
at_bare f h (l ∷ ls) zero = h l
at_bare f h (l ∷ ls) (suc i) = at_bare f h ls i

pub map_bare : {A : Type 0} (f : Line → A) → ((l : Line) → f (bare l) ≡ f l) → (ls : List Line) → map f (map bare ls) ≡ map f ls
map_bare f h [] = refl
map_bare f h (l ∷ ls) = rw (h l, map_bare f h ls)

map_groups : {A : Type 0} (f : Group → A) → ((g : Group) → f (bare_group g) ≡ f g) → (gs : List Group) → map f (map bare_group gs) ≡ map f gs
map_groups f h [] = refl
map_groups f h (g ∷ gs) = rw (h g, map_groups f h gs)

-- ---- types
trees_after_bare : (xs : List ℕ) (ts : List Cty) (ls : List Line) → trees_after xs ts (map bare ls) ≡ trees_after xs ts ls
unfolding trees_after
trees_after_bare xs ts [] = refl
trees_after_bare xs ts (l ∷ ls) = trees_after_bare xs (ts ++ (tree ts xs (number l 0) (number l 1) (number l 2) (number l 3) ∷ [])) ls

pub trees_bare : (ls : List Line) → trees (map bare ls) ≡ trees ls
unfolding trees
trees_bare ls = rw (select_bare arg_line ls, select_bare type_line ls, map_bare (λ l. number l 0) (λ l. refl) (select arg_line ls), trees_after_bare)

-- ---- declarations
module _ (ts : List Cty) where
  field_bare : (l : Line) → field_of ts (bare l) ≡ field_of ts l
  unfolding field_of
  field_bare l = refl

  ctor_bare : (g : Group) → ctor_of ts (bare_group g) ≡ ctor_of ts g
  unfolding ctor_of
  ctor_bare g = rw (select_bare field_line g.rest, map_bare (field_of ts) field_bare (select field_line g.rest))

  body_bare : (kind last : ℕ) (ls : List Line) → body_of ts kind last (map bare ls) ≡ body_of ts kind last ls
  unfolding body_of
  body_bare kind last ls =
      rw (
        select_bare field_line ls,
        map_bare (field_of ts) field_bare (select field_line ls),
        groups_bare (is ctor_line) (λ l. refl) ls,
        map_groups (ctor_of ts) ctor_bare (groups (is ctor_line) ls),
      )

  dtype_bare : (g : Group) → dtype_of ts (bare_group g) ≡ dtype_of ts g
  unfolding dtype_of
  dtype_bare g =
      rw (
        select_bare param_line g.rest,
        map_bare (λ l. number l 0) (λ l. refl) (select param_line g.rest),
        body_bare (number g.head 2) (number g.head 4) g.rest,
      )

-- ---- imported verdicts
keeps_bare : (ls : List Line) → keeps (map bare ls) ≡ keeps ls
unfolding keeps
keeps_bare ls = rw (select_bare field_line ls, map_bare (λ l. not (eqb (number l 2) 0)) (λ l. refl) (select field_line ls))

keeps_of_bare : (b : Body) (ls : List Line) → keeps_of b (map bare ls) ≡ keeps_of b ls
unfolding keeps_of
keeps_of_bare TAbstract ls = refl
keeps_of_bare (TAbbrev c) ls = refl
keeps_of_bare (TRecord fs) ls = rw (keeps_bare ls)
keeps_of_bare (TVariant cs) ls =
    rw (groups_bare (is ctor_line) (λ l. refl) ls, map_groups (λ g. keeps g.rest) (λ g. keeps_bare g.rest) (groups (is ctor_line) ls))

tags_bare : (ls : List Line) (i : ℕ) → tags (map bare ls) i ≡ tags ls i
tags_bare ls i = ap (λ (ms : List Line). tag_of (number (get_or ms i bad) 2)) (select_bare ctor_line ls) ∙ ap tag_of (at_bare (λ l. number l 2) (λ l. refl) (select ctor_line ls) i)

info_line : (d : Dtype) (ls : List Line) (v w : Line) → number v 0 ≡ number w 0 → number v 1 ≡ number w 1 → number v 2 ≡ number w 2 → info_of d ls v ≡ info_of d ls w
unfolding info_of
info_line d ls v w e f g = rw (e, f, g)

info_lines : (d : Dtype) (ls : List Line) (v : Line) → info_of d (map bare ls) v ≡ info_of d ls v
unfolding info_of
info_lines d ls v =
    let cs : List Ctor = ctors_of_tydef d in
    let e : ctor_layouts_by (tags (map bare ls)) cs (keeps_of d.dt_body (map bare ls)) ≡ ctor_layouts_by (tags ls) cs (keeps_of d.dt_body ls) =
    ap (ctor_layouts_by (tags (map bare ls)) cs) (keeps_of_bare d.dt_body ls) ∙ ctor_layouts_tags (tags (map bare ls)) (tags ls) cs (keeps_of d.dt_body ls) (λ i h. tags_bare ls i) in
    rw e

-- the V line, by its numbers
info_bare : (d : Dtype) (ls : List Line) → info_of d (map bare ls) (verdict_of (map bare ls)) ≡ info_of d ls (verdict_of ls)
info_bare d ls = info_lines d ls (verdict_of (map bare ls)) ∙ rw (select_bare verdict_line ls) (go (select verdict_line ls))
  where
    go : (vs : List Line) → info_of d ls (get_or (map bare vs) 0 bad) ≡ info_of d ls (get_or vs 0 bad)
    go [] = refl
    go (v ∷ vs) = info_line d ls (bare v) v refl refl refl

-- ---- the program
decl_bare : (ts : List Cty) (g : Group) → decl_of ts (bare_group g) ≡ decl_of ts g
unfolding decl_of
decl_bare ts g = rw (dtype_bare ts g, info_bare (close_fields (dtype_of ts g)) g.rest)

pub program_bare : (ls : List Line) → program (map bare ls) ≡ program ls
unfolding program
program_bare ls = rw (trees_bare ls, groups_bare is_head (λ l. refl) ls, map_groups (decl_of (trees ls)) (decl_bare (trees ls)) (groups is_head ls))
