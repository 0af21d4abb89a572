-- The lines of a sheet cut into a header and runs of whole declarations: what `select`, `before`, `groups`, `trees` and
-- `program` give for the parts and for the whole. Assumes nothing.
use Rattle.std.specs.Prelude.{◌⊎◌, ◌≡◌, ◌||◌, not, eqb, leb, get_or, take, drop}
use Rattle.std.proofs.Common.{inl, inr, ⊎_elim, sym, ◌∙◌, arith, length-append}
use Rattle.std.proofs.Math.Path.{refl, ap, ap₂}
use mathlib.Core.List.{List, [], ◌∷◌, ◌++◌, map, append_assoc, append-nil, map-append, map-map, map-id}
use Rattle.std.proofs.Math.Bool.{Bool, true, false}
use Rattle.std.proofs.Math.Option.{Option, none, some}
use Prim.Native.Nat.{ℕ, zero, suc, ◌+◌, ◌≤◌, ◌<◌}
use Rattle.std.proofs.Math.ListN
use Rattle.std.proofs.Math.ListN.{length}
use Rattle.std.proofs.lemmas.List.{length-map}
use borrow.Author.Tests.{eq-eqb, eqb-true, eqb-false, leb-true, leb-false}
use Rattle.number_columns.specs.Column.{pick, ◌⇒◌∥◌}
use Rattle.sheet.specs.Line.{Line, row, bad, letter, number}
use Rattle.sheet.proofs.ListLaws.{contrary, neither, Every, every_append, every_left, every_right}
use Rattle.model.specs.Cty.{Cty, TUnit}
use Rattle.model.specs.Decl.{
  bit,
  tag_number,
  Field,
  Ctor,
  no_ctor,
  Body,
  TAbstract,
  TAbbrev,
  TRecord,
  TVariant,
  Dtype,
  NoNewtype,
  has_flag,
  ctors_of,
  ctors_of_tydef,
  CtorLayout,
  Layout,
  L_erased,
  NewtypeLayout,
  L_newtype,
  L_struct,
  L_abbrev,
  L_opaque,
  layout_number,
  TypeInfo,
  Origin,
  here,
  imported,
  Decl,
  no_decl,
  dtype_at,
  origin_at,
  table,
  close_field,
  close_body,
  close_fields,
}
use Rattle.model.specs.Erasure.{cty_erased, marked, erasure_fixpoint}
use Rattle.model.specs.Layout.{ctor_tag, layouts_of_ctors, slots, ctor_layout, ctor_layouts, newtype_of, candidate, passes_of, dropped, collapse, layout_of_body, layout_of}
use Rattle.model.specs.Names.{pin, pins}
use Rattle.model.specs.Run.{info, run}
use Rattle.meaning.specs.Program.{
  name_line,
  arg_line,
  type_line,
  local_line,
  import_line,
  param_line,
  ctor_line,
  field_line,
  verdict_line,
  is,
  is_head,
  select,
  before,
  Group,
  groups,
  trees,
  field_of,
  ctor_of,
  body_of,
  dtype_of,
  keeps,
  keeps_of,
  tag_of,
  tags,
  ctor_layouts_by,
  layout_by,
  info_of,
  verdict_of,
  decl_of,
  program,
}
use Rattle.meaning.specs.Output.{fill_third, fill_keeps, fill_tags, fill_verdict, all_slots, fill, fill_all, verdict_lines, left_lines}
use Rattle.meaning.specs.Rows.{nth_line, count_of, heads_before}
use Rattle.model_laws.specs.Lists.{get_or_map, get_or_table, length_table}
use Rattle.model_laws.specs.Layout.{get_or_candidates, get_or_layouts}

-- ---- tests
-- ---- lists
-- ---- parts of a list of lines
-- no line of which the test holds
abbrev pub None : (Line → Bool) → List Line → Type 0
None p = Every (λ l. p l ≡ false)

-- empty, or a first line of which the test holds
abbrev pub Starts : (Line → Bool) → List Line → Type 0
Starts p [] = Unit {0}
Starts p (l ∷ ls) = p l ≡ true

pub none_append : (p : Line → Bool) (a b : List Line) → None p a → None p b → None p (a ++ b)
none_append p = every_append (λ l. p l ≡ false)

pub none_left : (p : Line → Bool) (a b : List Line) → None p (a ++ b) → None p a
none_left p = every_left (λ l. p l ≡ false)

pub none_right : (p : Line → Bool) (a b : List Line) → None p (a ++ b) → None p b
none_right p = every_right (λ l. p l ≡ false)

pub select_append : (x : ℕ) (a b : List Line) → select x (a ++ b) ≡ select x a ++ select x b
unfolding select
select_append x [] b = refl
select_append x (l ∷ a) b = go (is x l) (select_append x a b)
  where
    go : (c : Bool) → select x (a ++ b) ≡ select x a ++ select x b
        → pick c (l ∷ select x (a ++ b)) (select x (a ++ b)) ≡ pick c (l ∷ select x a) (select x a) ++ select x b
    go true e = ap (λ (s : List Line). l ∷ s) e
    go false e = e

pub select_none : (x : ℕ) (ls : List Line) → None (is x) ls → select x ls ≡ []
unfolding select
select_none x [] h = refl
select_none x (l ∷ ls) h = rw h.0 (select_none x ls h.1)

pub select_yes : (x : ℕ) (l : Line) (ls : List Line) → is x l ≡ true → select x (l ∷ ls) ≡ l ∷ select x ls
unfolding select
select_yes x l ls e = rw e

pub select_no : (x : ℕ) (l : Line) (ls : List Line) → is x l ≡ false → select x (l ∷ ls) ≡ select x ls
unfolding select
select_no x l ls e = rw e

pub none_select : (x : ℕ) (ls : List Line) → select x ls ≡ [] → None (is x) ls
unfolding select
none_select x [] e = tt
none_select x (l ∷ ls) e = go (none_select x ls) (is x l) refl e
  where
    go : (select x ls ≡ [] → None (is x) ls) → (c : Bool) → is x l ≡ c → pick c (l ∷ select x ls) (select x ls) ≡ [] → None (is x) (l ∷ ls)
    go ih true q k = absurd (omega (arith, ap length k))
    go ih false q k = (q, ih k)

-- lines after which a group begins do not reach past it
pub before_append : (p : Line → Bool) (a b : List Line) → Starts p b → before p (a ++ b) ≡ before p a
unfolding before
before_append p [] [] s = refl
before_append p [] (l ∷ b) s = rw s
before_append p (l ∷ a) b s = ap (λ (r : List Line). pick (p l) [] (l ∷ r)) (before_append p a b s)

pub before_none : (p : Line → Bool) (ls : List Line) → None p ls → before p ls ≡ ls
unfolding before
before_none p [] h = refl
before_none p (l ∷ ls) h = rw h.0 (ap (λ (r : List Line). l ∷ r) (before_none p ls h.1))

-- lines in front of which none begins a group
pub before_after : (p : Line → Bool) (a b : List Line) → None p a → before p (a ++ b) ≡ a ++ before p b
unfolding before
before_after p [] b h = refl
before_after p (l ∷ a) b h = rw h.0 (ap (λ (r : List Line). l ∷ r) (before_after p a b h.1))

-- the header of a sheet
pub before_header : (p : Line → Bool) (hs b : List Line) → None p hs → Starts p b → before p (hs ++ b) ≡ hs
before_header p hs b h s = before_append p hs b s ∙ before_none p hs h

pub none_before : (p : Line → Bool) (ls : List Line) → None p (before p ls)
unfolding before
none_before p [] = tt
none_before p (l ∷ ls) = go (p l) refl (none_before p ls)
  where
    go : (c : Bool) → p l ≡ c → None p (before p ls) → None p (pick c [] (l ∷ before p ls))
    go true e h = tt
    go false e h = (e, h)

-- groups of an append are those of its parts, where the second part begins a group
pub groups_append : (p : Line → Bool) (a b : List Line) → Starts p b → groups p (a ++ b) ≡ groups p a ++ groups p b
unfolding groups
groups_append p [] b s = refl
groups_append p (l ∷ a) b s = rw (before_append p a b s) (go (p l) (groups_append p a b s))
  where
    go : (c : Bool) → groups p (a ++ b) ≡ groups p a ++ groups p b
        → pick c (record { head = l; rest = before p a } ∷ groups p (a ++ b)) (groups p (a ++ b))
        ≡ pick c (record { head = l; rest = before p a } ∷ groups p a) (groups p a) ++ groups p b
    go true e = ap (λ (s : List Group). record { head = l; rest = before p a } ∷ s) e
    go false e = e

pub groups_after : (p : Line → Bool) (a b : List Line) → None p a → groups p (a ++ b) ≡ groups p b
unfolding groups
groups_after p [] b h = refl
groups_after p (l ∷ a) b h = rw h.0 (groups_after p a b h.1)

pub groups_none : (p : Line → Bool) (ls : List Line) → None p ls → groups p ls ≡ []
unfolding groups
groups_none p [] h = refl
groups_none p (l ∷ ls) h = rw h.0 (groups_none p ls h.1)

-- the lines of groups, in order
unfoldable pub flat : List Group → List Line
flat [] = []
flat (g ∷ gs) = (g.head ∷ g.rest) ++ flat gs

-- the lines are those before the first group and those of the groups
pub before_flat : (p : Line → Bool) (ls : List Line) → before p ls ++ flat (groups p ls) ≡ ls
unfolding before groups flat
before_flat p [] = refl
before_flat p (l ∷ ls) = go (p l) (before_flat p ls)
  where
    go : (c : Bool) → before p ls ++ flat (groups p ls) ≡ ls
        → pick c [] (l ∷ before p ls) ++ flat (pick c (record { head = l; rest = before p ls } ∷ groups p ls) (groups p ls)) ≡ l ∷ ls
    go true e = ap (λ (r : List Line). l ∷ r) e
    go false e = ap (λ (r : List Line). l ∷ r) e

-- a group: its head begins it, and no other line of it begins one
pub record Grouped (p : Line → Bool) (g : Group) : Type 0 where
  pub begins : p g.head ≡ true
  pub alone : None p g.rest

abbrev pub AllGrouped : (Line → Bool) → List Group → Type 0
AllGrouped p = Every (Grouped p)

pub grouped : (p : Line → Bool) (ls : List Line) → AllGrouped p (groups p ls)
unfolding groups
grouped p [] = tt
grouped p (l ∷ ls) = go (p l) refl (grouped p ls)
  where
    go : (c : Bool) → p l ≡ c → AllGrouped p (groups p ls) → AllGrouped p (pick c (record { head = l; rest = before p ls } ∷ groups p ls) (groups p ls))
    go true e h = (record { begins = e; alone = none_before p ls }, h)
    go false e h = h

pub starts_flat : (p : Line → Bool) (gs : List Group) → AllGrouped p gs → Starts p (flat gs)
unfolding flat
starts_flat p [] h = tt
starts_flat p (g ∷ gs) h = h.0.begins

-- groups are those of their lines
pub groups_flat : (p : Line → Bool) (gs : List Group) → AllGrouped p gs → groups p (flat gs) ≡ gs
unfolding groups flat
groups_flat p [] h = refl
groups_flat p (g ∷ gs) h =
    rw (
      groups_append p g.rest (flat gs) (starts_flat p gs h.1),
      before_header p g.rest (flat gs) h.0.alone (starts_flat p gs h.1),
      h.0.begins,
      groups_none p g.rest h.0.alone,
      groups_flat p gs h.1,
    )

-- a header and groups, put together and taken apart
pub groups_header : (p : Line → Bool) (hs : List Line) (gs : List Group) → None p hs → AllGrouped p gs → groups p (hs ++ flat gs) ≡ gs
groups_header p hs gs h k = rw (groups_append p hs (flat gs) (starts_flat p gs k), groups_none p hs h) (groups_flat p gs k)

-- ---- types and declarations
-- the types are those of the A and Y lines
pub trees_append : (a qs : List Line) → select arg_line qs ≡ [] → select type_line qs ≡ [] → trees (a ++ qs) ≡ trees a
unfolding trees
trees_append a qs h k = rw (select_append arg_line a qs, select_append type_line a qs, h, k, append-nil, append-nil)

pub program_groups : (ls : List Line) → program ls ≡ map (decl_of (trees ls)) (groups is_head ls)
unfolding program
program_groups ls = refl

program_by : (ls : List Line) (ts : List Cty) (gs : List Group) → trees ls ≡ ts → groups is_head ls ≡ gs → program ls ≡ map (decl_of ts) gs
unfolding program
program_by ls ts gs e k = rw (e, k)

-- the declarations of a prefix, and then those of the rest with the prefix's types
pub program_append : (a qs : List Line) → Starts is_head qs → select arg_line qs ≡ [] → select type_line qs ≡ []
    → program (a ++ qs) ≡ program a ++ map (decl_of (trees a)) (groups is_head qs)
unfolding program
program_append a qs s h k = rw (trees_append a qs h k, groups_append is_head a qs s) (map-append (decl_of (trees a)) (groups is_head a) (groups is_head qs))

-- ---- declarations by number
-- how many lines begin a declaration
abbrev pub heads : List Line → ℕ
heads ls = count_of local_line ls + count_of import_line ls

pub head_cases : (l : Line) → is_head l ≡ true → (letter l ≡ 68) ⊎ (letter l ≡ 73)
head_cases l e = go (is local_line l) refl e
  where
    go : (c : Bool) → is local_line l ≡ c → (c || is import_line l) ≡ true → (letter l ≡ 68) ⊎ (letter l ≡ 73)
    go true q h = inl (eqb-true (letter l) 68 q)
    go false q h = inr (eqb-true (letter l) 73 h)

pub head_not : (l : Line) → is_head l ≡ false → (is local_line l ≡ false) × (is import_line l ≡ false)
head_not l e = neither (is local_line l) (is import_line l) e

pub heads_head : (l : Line) (ls : List Line) → is_head l ≡ true → heads (l ∷ ls) ≡ suc (heads ls)
unfolding select
heads_head l ls e = ⊎_elim (λ h. rw h (omega arith)) (λ h. rw h (omega arith)) (head_cases l e)

pub heads_other : (l : Line) (ls : List Line) → is_head l ≡ false → heads (l ∷ ls) ≡ heads ls
unfolding select
heads_other l ls e = let k = head_not l e in rw (k.0, k.1)

heads_nil : heads [] ≡ 0
unfolding select
heads_nil = refl

pub heads_none : (ls : List Line) → None is_head ls → heads ls ≡ 0
heads_none [] h = heads_nil
heads_none (l ∷ ls) h = heads_other l ls h.0 ∙ heads_none ls h.1

-- a declaration for each line that begins one
pub length_groups : (ls : List Line) → length (groups is_head ls) ≡ heads ls
unfolding groups
length_groups [] = sym (heads_none [] tt)
length_groups (l ∷ ls) = go (is_head l) refl (length_groups ls)
  where
    go : (c : Bool) → is_head l ≡ c → length (groups is_head ls) ≡ heads ls
        → length (pick c (record { head = l; rest = before is_head ls } ∷ groups is_head ls) (groups is_head ls)) ≡ heads (l ∷ ls)
    go true e h = ap suc h ∙ sym (heads_head l ls e)
    go false e h = h ∙ sym (heads_other l ls e)

pub length_program : (ls : List Line) → length (program ls) ≡ heads ls
unfolding program
length_program ls = length-map (groups is_head ls) (decl_of (trees ls)) ∙ length_groups ls

heads_zero : (ls : List Line) → heads_before ls 0 ≡ 0
unfolding select
heads_zero [] = refl
heads_zero (l ∷ ls) = refl

-- the declaration that line i begins stands at the number of those that begin before
pub group_at : (ls : List Line) (i : ℕ) (d : Group) → i < length ls → is_head (nth_line ls i) ≡ true
    → get_or (groups is_head ls) (heads_before ls i) d ≡ record { head = nth_line ls i; rest = before is_head (drop (suc i) ls) }
unfolding groups
group_at [] i d h e = absurd (omega arith)
group_at (l ∷ ls) zero d h e = rw (heads_zero, e)
group_at (l ∷ ls) (suc i) d h e = go (is_head l) refl (group_at ls i d (omega arith) e)
  where
    go : (c : Bool) → is_head l ≡ c → get_or (groups is_head ls) (heads_before ls i) d ≡ record { head = nth_line ls i; rest = before is_head (drop (suc i) ls) }
        → get_or (groups is_head (l ∷ ls)) (heads_before (l ∷ ls) (suc i)) d ≡ record { head = nth_line ls i; rest = before is_head (drop (suc i) ls) }
    go true q ih = rw (heads_head l (take i ls) q, q) ih
    go false q ih = rw (heads_other l (take i ls) q, q) ih

-- and there is one
pub heads_before_lt : (ls : List Line) (i : ℕ) → i < length ls → is_head (nth_line ls i) ≡ true → heads_before ls i < heads ls
heads_before_lt [] i h e = absurd (omega arith)
heads_before_lt (l ∷ ls) zero h e = omega (arith, heads_zero (l ∷ ls), heads_head l ls e)
heads_before_lt (l ∷ ls) (suc i) h e = go (is_head l) refl (heads_before_lt ls i (omega arith) e)
  where
    go : (c : Bool) → is_head l ≡ c → heads_before ls i < heads ls → heads_before (l ∷ ls) (suc i) < heads (l ∷ ls)
    go true q ih = omega (arith, heads_head l ls q, heads_head l (take i ls) q)
    go false q ih = omega (arith, heads_other l ls q, heads_other l (take i ls) q)

pub heads_before_program : (ls : List Line) (i : ℕ) → i < length ls → is_head (nth_line ls i) ≡ true → heads_before ls i < length (program ls)
heads_before_program ls i h e = omega (arith, heads_before_lt ls i h e, length_program ls)

pub program_at : (ls : List Line) (i : ℕ) (d : Decl) → i < length ls → is_head (nth_line ls i) ≡ true
    → get_or (program ls) (heads_before ls i) d ≡ decl_of (trees ls) (record { head = nth_line ls i; rest = before is_head (drop (suc i) ls) })
unfolding program
program_at ls i d h e =
    let g : Group = record { head = nth_line ls i; rest = before is_head (drop (suc i) ls) } in
    let k : heads_before ls i < length (groups is_head ls) = omega (arith, heads_before_lt ls i h e, length_groups ls) in
    get_or_map (decl_of (trees ls)) (groups is_head ls) (heads_before ls i) d g k ∙ ap (decl_of (trees ls)) (group_at ls i g h e)

-- the line at which declaration k begins
pub record HeadAt (ls : List Line) (k : ℕ) : Type 0 where
  pub place : ℕ
  pub inside : place < length ls
  pub heads_it : is_head (nth_line ls place) ≡ true
  pub passed : heads_before ls place ≡ k

pub head_at : (ls : List Line) (k : ℕ) → k < heads ls → HeadAt ls k
head_at [] k h = absurd (omega (arith, heads_none [] tt))
head_at (l ∷ ls) k h = go (head_at ls) (is_head l) refl k h
  where
    go : ((m : ℕ) → m < heads ls → HeadAt ls m) → (c : Bool) → is_head l ≡ c → (m : ℕ) → m < heads (l ∷ ls) → HeadAt (l ∷ ls) m
    go ih true q zero j = record { place = 0; inside = omega arith; heads_it = q; passed = heads_zero (l ∷ ls) }
    go ih true q (suc m) j =
        let r = ih m (omega (arith, heads_head l ls q)) in
        record { place = suc r.place; inside = omega (arith, r.inside); heads_it = r.heads_it; passed = heads_head l (take r.place ls) q ∙ ap suc r.passed }
    go ih false q m j =
        let r = ih m (omega (arith, heads_other l ls q)) in
        record { place = suc r.place; inside = omega (arith, r.inside); heads_it = r.heads_it; passed = heads_other l (take r.place ls) q ∙ r.passed }

-- ---- lines seen alike
-- a line's five numbers
abbrev pub five : Line → List ℕ
five l = map (number l) (0 ∷ 1 ∷ 2 ∷ 3 ∷ 4 ∷ [])

-- a line of letter x without its third number
abbrev without_third : ℕ → Line → Line
without_third x l = row x (number l 0 ∷ number l 1 ∷ 0 ∷ number l 3 ∷ number l 4 ∷ [])

-- What a verdict sheet leaves of a line: D and I lines alike, without a C line's tag, an F line's keep and a V line's verdict.
unfoldable pub plain : Line → Line
plain l =
    is_head l ⇒ row import_line (five l) ∥
    is ctor_line l ⇒ without_third ctor_line l ∥
    is field_line l ⇒ without_third field_line l ∥
    is verdict_line l ⇒ row verdict_line (0 ∷ 0 ∷ 0 ∷ number l 3 ∷ number l 4 ∷ []) ∥
    l

-- a line by what `plain` makes of it
pub data Kind (l : Line) : Type 0 where
  a_head : is_head l ≡ true → plain l ≡ row import_line (five l) → Kind l
  a_ctor : letter l ≡ 67 → plain l ≡ without_third ctor_line l → Kind l
  a_field : letter l ≡ 70 → plain l ≡ without_third field_line l → Kind l
  a_verdict : letter l ≡ 86 → plain l ≡ row verdict_line (0 ∷ 0 ∷ 0 ∷ number l 3 ∷ number l 4 ∷ []) → Kind l
  another : is_head l ≡ false → is ctor_line l ≡ false → is field_line l ≡ false → is verdict_line l ≡ false → plain l ≡ l → Kind l

pub kind : (l : Line) → Kind l
unfolding plain
kind l = go (is_head l) (is ctor_line l) (is field_line l) (is verdict_line l) refl refl refl refl
  where
    go : (a x b c : Bool) → is_head l ≡ a → is ctor_line l ≡ x → is field_line l ≡ b → is verdict_line l ≡ c → Kind l
    go true x b c d t e f = a_head d (rw d)
    go false true b c d t e f = a_ctor (eqb-true (letter l) 67 t) (rw (d, t))
    go false false true c d t e f = a_field (eqb-true (letter l) 70 e) (rw (d, t, e))
    go false false false true d t e f = a_verdict (eqb-true (letter l) 86 f) (rw (d, t, e, f))
    go false false false false d t e f = another d t e f (rw (d, t, e, f))

pub plain_head : (l : Line) → is_head (plain l) ≡ is_head l
plain_head l = go (kind l)
  where
    go : Kind l → is_head (plain l) ≡ is_head l
    go (a_head h e) = rw e (sym h)
    go (a_ctor h e) = rw (e, h)
    go (a_field h e) = rw (e, h)
    go (a_verdict h e) = rw (e, h)
    go (another h t f v e) = rw e

-- letters other than D and I are kept
pub plain_is : (x : ℕ) → eqb 68 x ≡ false → eqb 73 x ≡ false → (l : Line) → is x (plain l) ≡ is x l
plain_is x p q l = go (kind l)
  where
    go : Kind l → is x (plain l) ≡ is x l
    go (a_head h e) = rw e (q ∙ ⊎_elim (λ k. rw k (sym p)) (λ k. rw k (sym q)) (head_cases l h))
    go (a_ctor h e) = rw (e, h)
    go (a_field h e) = rw (e, h)
    go (a_verdict h e) = rw (e, h)
    go (another h t f v e) = rw e

-- and lines of letters other than D, I, C, F and V altogether
pub plain_same : (x : ℕ) → eqb 68 x ≡ false → eqb 73 x ≡ false → eqb 67 x ≡ false → eqb 70 x ≡ false → eqb 86 x ≡ false → (l : Line) → is x l ≡ true → plain l ≡ l
plain_same x p q o r s l t = go (kind l)
  where
    go : Kind l → plain l ≡ l
    go (a_head h e) = ⊎_elim (λ k. contrary (is x l) t (rw k p)) (λ k. contrary (is x l) t (rw k q)) (head_cases l h)
    go (a_ctor h e) = contrary (is x l) t (rw h o)
    go (a_field h e) = contrary (is x l) t (rw h r)
    go (a_verdict h e) = contrary (is x l) t (rw h s)
    go (another h c f v e) = e

-- ---- lines replaced one by one
abbrev pub map_group : (Line → Line) → Group → Group
map_group f g = record { head = f g.head; rest = map f g.rest }

module _ (f : Line → Line) where
  pub select_map : (x : ℕ) → ((l : Line) → is x (f l) ≡ is x l) → (ls : List Line) → select x (map f ls) ≡ map f (select x ls)
  unfolding select
  select_map x k [] = refl
  select_map x k (l ∷ ls) = rw (k l) (go (is x l) (select_map x k ls))
    where
      go : (c : Bool) → select x (map f ls) ≡ map f (select x ls)
          → pick c (f l ∷ select x (map f ls)) (select x (map f ls)) ≡ map f (pick c (l ∷ select x ls) (select x ls))
      go true e = ap (λ (r : List Line). f l ∷ r) e
      go false e = e

  pub before_map : (p : Line → Bool) → ((l : Line) → p (f l) ≡ p l) → (ls : List Line) → before p (map f ls) ≡ map f (before p ls)
  unfolding before
  before_map p k [] = refl
  before_map p k (l ∷ ls) = rw (k l) (go (p l) (before_map p k ls))
    where
      go : (c : Bool) → before p (map f ls) ≡ map f (before p ls) → pick c [] (f l ∷ before p (map f ls)) ≡ map f (pick c [] (l ∷ before p ls))
      go true e = refl
      go false e = ap (λ (r : List Line). f l ∷ r) e

  pub groups_map : (p : Line → Bool) → ((l : Line) → p (f l) ≡ p l) → (ls : List Line) → groups p (map f ls) ≡ map (map_group f) (groups p ls)
  unfolding groups
  groups_map p k [] = refl
  groups_map p k (l ∷ ls) = rw (k l, before_map p k ls) (go (p l) (groups_map p k ls))
    where
      go : (c : Bool) → groups p (map f ls) ≡ map (map_group f) (groups p ls)
          → pick c (record { head = f l; rest = map f (before p ls) } ∷ groups p (map f ls)) (groups p (map f ls))
          ≡ map (map_group f) (pick c (record { head = l; rest = before p ls } ∷ groups p ls) (groups p ls))
      go true e = ap (λ (r : List Group). record { head = f l; rest = map f (before p ls) } ∷ r) e
      go false e = e

  pub none_map : (p : Line → Bool) → ((l : Line) → p (f l) ≡ p l) → (ls : List Line) → None p ls → None p (map f ls)
  none_map p k [] h = tt
  none_map p k (l ∷ ls) h = (k l ∙ h.0, none_map p k ls h.1)

-- functions that agree on the lines of a letter, or on groups
pub map_select : {A : Type 0} (x : ℕ) (f g : Line → A) → ((l : Line) → is x l ≡ true → f l ≡ g l) → (ls : List Line) → map f (select x ls) ≡ map g (select x ls)
unfolding select
map_select x f g k [] = refl
map_select {A} x f g k (l ∷ ls) = go (is x l) refl (map_select x f g k ls)
  where
    go : (c : Bool) → is x l ≡ c → map f (select x ls) ≡ map g (select x ls) → map f (pick c (l ∷ select x ls) (select x ls)) ≡ map g (pick c (l ∷ select x ls) (select x ls))
    go true e h = ap₂ (λ (a : A) (r : List A). a ∷ r) (k l e) h
    go false e h = h

pub map_groups : {A : Type 0} (p : Line → Bool) (f g : Group → A) → ((b : Group) → Grouped p b → f b ≡ g b) → (gs : List Group) → AllGrouped p gs → map f gs ≡ map g gs
map_groups p f g k [] h = refl
map_groups {A} p f g k (b ∷ gs) h = ap₂ (λ (a : A) (r : List A). a ∷ r) (k b h.0) (map_groups p f g k gs h.1)

-- the lines of a letter other than D, I, C, F and V
pub select_plain : (x : ℕ) → eqb 68 x ≡ false → eqb 73 x ≡ false → eqb 67 x ≡ false → eqb 70 x ≡ false → eqb 86 x ≡ false → (ls : List Line)
    → select x (map plain ls) ≡ select x ls
select_plain x p q o r s ls =
    select_map plain x (plain_is x p q) ls ∙ map_select x plain (λ l. l) (plain_same x p q o r s) ls ∙ map-id (select x ls)

pub trees_plain : (ls : List Line) → trees (map plain ls) ≡ trees ls
unfolding trees
trees_plain ls = rw (select_plain arg_line refl refl refl refl refl ls, select_plain type_line refl refl refl refl refl ls)

-- ---- declarations of lines seen alike
field_plain : (ts : List Cty) (l : Line) → is field_line l ≡ true → field_of ts (plain l) ≡ field_of ts l
unfolding field_of
field_plain ts l e = go (kind l)
  where
    go : Kind l → field_of ts (plain l) ≡ field_of ts l
    go (a_head h k) = ⊎_elim (λ q. contrary (is field_line l) e (rw q)) (λ q. contrary (is field_line l) e (rw q)) (head_cases l h)
    go (a_ctor h k) = contrary (is field_line l) e (rw h)
    go (a_field h k) = rw k
    go (a_verdict h k) = contrary (is field_line l) e (rw h)
    go (another h t f v k) = rw k

fields_plain : (ts : List Cty) (ls : List Line) → map (field_of ts) (select field_line (map plain ls)) ≡ map (field_of ts) (select field_line ls)
fields_plain ts ls =
    rw (select_map plain field_line (plain_is field_line refl refl) ls, map-map)
    (map_select field_line (λ l. field_of ts (plain l)) (field_of ts) (field_plain ts) ls)

plain_ctor_line : (l : Line) → is ctor_line l ≡ true → plain l ≡ without_third ctor_line l
plain_ctor_line l e = go (kind l)
  where
    go : Kind l → plain l ≡ without_third ctor_line l
    go (a_head h k) = ⊎_elim (λ q. contrary (is ctor_line l) e (rw q)) (λ q. contrary (is ctor_line l) e (rw q)) (head_cases l h)
    go (a_ctor h k) = k
    go (a_field h k) = contrary (is ctor_line l) e (rw h)
    go (a_verdict h k) = contrary (is ctor_line l) e (rw h)
    go (another h t f v k) = contrary (is ctor_line l) e t

ctor_plain : (ts : List Cty) (g : Group) → Grouped (is ctor_line) g → ctor_of ts (map_group plain g) ≡ ctor_of ts g
unfolding ctor_of
ctor_plain ts g h = rw (plain_ctor_line g.head h.begins, fields_plain ts g.rest)

ctors_plain : (ts : List Cty) (ls : List Line) → map (ctor_of ts) (groups (is ctor_line) (map plain ls)) ≡ map (ctor_of ts) (groups (is ctor_line) ls)
ctors_plain ts ls =
    rw (groups_map plain (is ctor_line) (plain_is ctor_line refl refl) ls, map-map)
    (map_groups (is ctor_line) (λ g. ctor_of ts (map_group plain g)) (ctor_of ts) (ctor_plain ts) (groups (is ctor_line) ls) (grouped (is ctor_line) ls))

body_plain : (ts : List Cty) (kind last : ℕ) (ls : List Line) → body_of ts kind last (map plain ls) ≡ body_of ts kind last ls
unfolding body_of
body_plain ts kind last ls = rw (fields_plain ts ls, ctors_plain ts ls)

-- a declaration does not depend on keeps and verdicts
pub dtype_plain : (ts : List Cty) (g : Group) → is_head g.head ≡ true → dtype_of ts (map_group plain g) ≡ dtype_of ts g
unfolding dtype_of
dtype_plain ts g h = go (kind g.head)
  where
    go : Kind g.head → dtype_of ts (map_group plain g) ≡ dtype_of ts g
    go (a_head q e) = rw (e, select_plain param_line refl refl refl refl refl g.rest, body_plain ts (number g.head 2) (number g.head 4) g.rest)
    go (a_ctor q e) = contrary (is_head g.head) h (rw q)
    go (a_field q e) = contrary (is_head g.head) h (rw q)
    go (a_verdict q e) = contrary (is_head g.head) h (rw q)
    go (another q t f v e) = contrary (is_head g.head) h q

-- ---- the verdict sheet's lines
-- a local declaration's lines below its D line, filled: keeps and verdict, and then tags
abbrev pub fill_told : TypeInfo → List Line → List Line
fill_told ti ls = fill_verdict ti (fill_keeps (all_slots ti.ti_ctors) ls)

abbrev pub fill_rest : TypeInfo → List Line → List Line
fill_rest ti ls = fill_tags ti.ti_ctors (fill_told ti ls)

-- `fill`, as a group
unfoldable pub filled : Group → TypeInfo → Group
filled g ti = pick (is import_line g.head) g (record { head = row import_line (five g.head); rest = fill_rest ti g.rest })

unfoldable pub fills : List Group → List TypeInfo → List Group
fills [] tis = []
fills (g ∷ gs) [] = []
fills (g ∷ gs) (ti ∷ tis) = filled g ti ∷ fills gs tis

pub fill_filled : (g : Group) (ti : TypeInfo) → fill g ti ≡ (filled g ti).head ∷ (filled g ti).rest
unfolding fill filled
fill_filled g ti = go (is import_line g.head)
  where
    h : Line
    h = row import_line (five g.head)

    go : (c : Bool) → elim c [ true ↦ g.head ∷ g.rest | false ↦ h ∷ fill_rest ti g.rest ]
        ≡ (pick c g (record { head = h; rest = fill_rest ti g.rest })).head ∷ (pick c g (record { head = h; rest = fill_rest ti g.rest })).rest
    go true = refl
    go false = refl

pub fill_all_flat : (gs : List Group) (tis : List TypeInfo) → fill_all gs tis ≡ flat (fills gs tis)
unfolding fill_all flat fills
fill_all_flat [] tis = refl
fill_all_flat (g ∷ gs) [] = refl
fill_all_flat (g ∷ gs) (ti ∷ tis) = rw (fill_filled g ti, fill_all_flat gs tis)

-- by the letter of the first line
pub filled_import : (g : Group) (ti : TypeInfo) → is import_line g.head ≡ true → filled g ti ≡ g
unfolding filled
filled_import g ti e = rw e

pub filled_local : (g : Group) (ti : TypeInfo) → is import_line g.head ≡ false
    → filled g ti ≡ record { head = row import_line (five g.head); rest = fill_rest ti g.rest }
unfolding filled
filled_local g ti e = rw e

-- every filled declaration is an import
pub filled_is_import : (g : Group) (ti : TypeInfo) → is import_line (filled g ti).head ≡ true
unfolding filled
filled_is_import g ti = go (is import_line g.head) refl
  where
    go : (c : Bool) → is import_line g.head ≡ c
        → is import_line (pick c g (record { head = row import_line (five g.head); rest = fill_rest ti g.rest })).head ≡ true
    go true e = e
    go false e = refl

-- ---- third numbers filled
-- a line of letter x with its third number, and an F line with its keep
abbrev pub third_line : ℕ → ℕ → Line → Line
third_line x n l = row x (number l 0 ∷ number l 1 ∷ n ∷ 0 ∷ 0 ∷ [])

abbrev pub kept_line : Bool → Line → Line
kept_line b l = third_line field_line (bit b) l

module _ (x : ℕ) where
  pub fill_third_nil : (ls : List Line) → fill_third x [] ls ≡ ls
  unfolding fill_third
  fill_third_nil [] = refl
  fill_third_nil (l ∷ ls) = ap (λ (r : List Line). l ∷ r) (fill_third_nil ls)

  pub fill_third_yes : (n : ℕ) (ns : List ℕ) (l : Line) (ls : List Line) → is x l ≡ true → fill_third x (n ∷ ns) (l ∷ ls) ≡ third_line x n l ∷ fill_third x ns ls
  unfolding fill_third
  fill_third_yes n ns l ls e = rw (e, fill_third)

  pub fill_third_other : (ns : List ℕ) (l : Line) (ls : List Line) → is x l ≡ false → fill_third x ns (l ∷ ls) ≡ l ∷ fill_third x ns ls
  unfolding fill_third
  fill_third_other [] l ls e = refl
  fill_third_other (n ∷ ns) l ls e = rw (e, fill_third)

  -- numbers for two runs of lines, as many in the first as it has lines of the letter
  pub fill_third_append : (ms ns : List ℕ) (xs ys : List Line) → length ms ≡ count_of x xs → fill_third x (ms ++ ns) (xs ++ ys) ≡ fill_third x ms xs ++ fill_third x ns ys
  unfolding fill_third select
  fill_third_append [] ns [] ys h = refl
  fill_third_append (m ∷ ms) ns [] ys h = absurd (omega arith)
  fill_third_append ms ns (l ∷ xs) ys h = go (is x l) refl ms (λ us k. fill_third_append us ns xs ys k) h
    where
      go : (c : Bool) → is x l ≡ c → (us : List ℕ)
          → ((vs : List ℕ) → length vs ≡ count_of x xs → fill_third x (vs ++ ns) (xs ++ ys) ≡ fill_third x vs xs ++ fill_third x ns ys)
          → length us ≡ count_of x (l ∷ xs)
          → fill_third x (us ++ ns) (l ∷ xs ++ ys) ≡ fill_third x us (l ∷ xs) ++ fill_third x ns ys
      go true e [] ih k = absurd (omega (arith, ap length (select_yes x l xs e)))
      go true e (u ∷ us) ih k =
          fill_third_yes u (us ++ ns) l (xs ++ ys) e
          ∙ ap (λ (r : List Line). third_line x u l ∷ r) (ih us (omega (arith, ap length (select_yes x l xs e))))
          ∙ ap (λ (r : List Line). r ++ fill_third x ns ys) (sym (fill_third_yes u us l xs e))
      go false e us ih k =
          fill_third_other (us ++ ns) l (xs ++ ys) e
          ∙ ap (λ (r : List Line). l ∷ r) (ih us (k ∙ ap length (select_no x l xs e)))
          ∙ ap (λ (r : List Line). r ++ fill_third x ns ys) (sym (fill_third_other us l xs e))

  fill_nothing : (ns : List ℕ) → fill_third x ns [] ≡ []
  unfolding fill_third
  fill_nothing ns = refl

  pub fill_third_none : (ns : List ℕ) (xs ys : List Line) → select x xs ≡ [] → fill_third x ns (xs ++ ys) ≡ xs ++ fill_third x ns ys
  fill_third_none ns xs ys h = fill_third_append [] ns xs ys (sym (ap length h)) ∙ ap (λ (r : List Line). r ++ fill_third x ns ys) (fill_third_nil xs)

  pub fill_third_absent : (ns : List ℕ) (ls : List Line) → select x ls ≡ [] → fill_third x ns ls ≡ ls
  fill_third_absent ns ls h = ap (fill_third x ns) (sym (append-nil ls)) ∙ (fill_third_none ns ls [] h ∙ ap (λ (r : List Line). ls ++ r) (fill_nothing ns) ∙ append-nil ls)

  pub fill_third_last : (ns : List ℕ) (xs : List Line) (v : Line) → is x v ≡ false → fill_third x ns (xs ++ (v ∷ [])) ≡ fill_third x ns xs ++ (v ∷ [])
  unfolding fill_third
  fill_third_last ns [] v e = fill_third_other ns v [] e
  fill_third_last [] (l ∷ xs) v e = ap (λ (r : List Line). l ∷ r) (fill_third_last [] xs v e)
  fill_third_last (n ∷ ns) (l ∷ xs) v e = go (is x l) (fill_third_last ns xs v e) (fill_third_last (n ∷ ns) xs v e)
    where
      go : (c : Bool) → fill_third x ns (xs ++ (v ∷ [])) ≡ fill_third x ns xs ++ (v ∷ []) → fill_third x (n ∷ ns) (xs ++ (v ∷ [])) ≡ fill_third x (n ∷ ns) xs ++ (v ∷ [])
          → elim c [ true ↦ third_line x n l ∷ fill_third x ns (xs ++ (v ∷ [])) | false ↦ l ∷ fill_third x (n ∷ ns) (xs ++ (v ∷ [])) ]
          ≡ elim c [ true ↦ third_line x n l ∷ fill_third x ns xs | false ↦ l ∷ fill_third x (n ∷ ns) xs ] ++ (v ∷ [])
      go true h k = ap (λ (r : List Line). third_line x n l ∷ r) h
      go false h k = ap (λ (r : List Line). l ∷ r) k

-- lines, and the same lines with a third number put into each of letter x, which f gives of the next member of a list
pub data Filling (A : Type 0) (x : ℕ) (f : A → ℕ) : List A → List Line → List Line → Type 0 where
  done : {bs : List A} → Filling A x f bs [] []
  keep : {b : A} {bs : List A} {l : Line} {ls r : List Line} → is x l ≡ true → Filling A x f bs ls r → Filling A x f (b ∷ bs) (l ∷ ls) (third_line x (f b) l ∷ r)
  pass : {bs : List A} {l : Line} {ls r : List Line} → is x l ≡ false → Filling A x f bs ls r → Filling A x f bs (l ∷ ls) (l ∷ r)
  past : {l : Line} {ls r : List Line} → Filling A x f [] ls r → Filling A x f [] (l ∷ ls) (l ∷ r)

module _ {A : Type 0} (x : ℕ) (f : A → ℕ) where
  pub filling : (bs : List A) (ls : List Line) → Filling A x f bs ls (fill_third x (map f bs) ls)
  unfolding fill_third
  filling bs [] = done
  filling [] (l ∷ ls) = past (filling [] ls)
  filling (b ∷ bs) (l ∷ ls) = go (is x l) refl (filling bs ls) (filling (b ∷ bs) ls)
    where
      go : (c : Bool) → is x l ≡ c → Filling A x f bs ls (fill_third x (map f bs) ls) → Filling A x f (b ∷ bs) ls (fill_third x (map f (b ∷ bs)) ls)
          → Filling A x f (b ∷ bs) (l ∷ ls) (elim c [ true ↦ third_line x (f b) l ∷ fill_third x (map f bs) ls | false ↦ l ∷ fill_third x (map f (b ∷ bs)) ls ])
      go true e h k = keep e h
      go false e h k = pass e k

  length_filling : {bs : List A} {ls r : List Line} → Filling A x f bs ls r → length r ≡ length ls
  length_filling done = refl
  length_filling (keep e h) = ap suc (length_filling h)
  length_filling (pass e h) = ap suc (length_filling h)
  length_filling (past h) = ap suc (length_filling h)

  pub length_fill : (bs : List A) (ls : List Line) → length (fill_third x (map f bs) ls) ≡ length ls
  length_fill bs ls = length_filling (filling bs ls)

  -- a test that holds of no line of the letter
  none_filling : (p : Line → Bool) → ((b : A) (l : Line) → p (third_line x (f b) l) ≡ false) → {bs : List A} {ls r : List Line} → Filling A x f bs ls r → None p ls → None p r
  none_filling p k done h = tt
  none_filling p k (keep {b = b} {l = l} e g) h = (k b l, none_filling p k g h.1)
  none_filling p k (pass e g) h = (h.0, none_filling p k g h.1)
  none_filling p k (past g) h = (h.0, none_filling p k g h.1)

  pub none_fill : (p : Line → Bool) → ((b : A) (l : Line) → p (third_line x (f b) l) ≡ false) → (bs : List A) (ls : List Line) → None p ls → None p (fill_third x (map f bs) ls)
  none_fill p k bs ls h = none_filling p k (filling bs ls) h

  -- the lines of another letter stay
  select_filling : (y : ℕ) → eqb x y ≡ false → {bs : List A} {ls r : List Line} → Filling A x f bs ls r → select y r ≡ select y ls
  unfolding select
  select_filling y q done = refl
  select_filling y q (keep {l = l} e g) = rw (eqb-true (letter l) x e, q) (select_filling y q g)
  select_filling y q (pass {l = l} e g) = rw (select_filling y q g)
  select_filling y q (past g) = rw (select_filling y q g)

  pub select_fill : (y : ℕ) → eqb x y ≡ false → (bs : List A) (ls : List Line) → select y (fill_third x (map f bs) ls) ≡ select y ls
  select_fill y q bs ls = select_filling y q (filling bs ls)

  -- the numbers that are put in are the numbers that are read
  thirds : List Line → List ℕ
  thirds ls = map (λ l. number l 2) (select x ls)

  thirds_yes : (l : Line) (ls : List Line) → is x l ≡ true → thirds (l ∷ ls) ≡ number l 2 ∷ thirds ls
  unfolding thirds
  thirds_yes l ls e = rw (select_yes x l ls e)

  thirds_no : (l : Line) (ls : List Line) → is x l ≡ false → thirds (l ∷ ls) ≡ thirds ls
  unfolding thirds
  thirds_no l ls e = rw (select_no x l ls e)

  thirds_none : (ls : List Line) → count_of x ls ≡ 0 → thirds ls ≡ []
  unfolding thirds
  thirds_none ls h = go (select x ls) h
    where
      go : (r : List Line) → length r ≡ 0 → map (λ l. number l 2) r ≡ []
      go [] h = refl
      go (l ∷ r) h = absurd (omega arith)

  thirds_filling : {bs : List A} {ls r : List Line} → Filling A x f bs ls r → length bs ≡ count_of x ls → thirds r ≡ map f bs
  thirds_filling {bs = []} done h = thirds_none [] (sym h)
  thirds_filling {bs = b ∷ bs} done h = absurd (omega (arith, ap length (select_none x [] tt)))
  thirds_filling (keep {b = b} {bs = bs} {l = l} {ls = ls} {r = r} e g) h =
      thirds_yes (third_line x (f b) l) r (eq-eqb x x refl) ∙ ap (λ (s : List ℕ). f b ∷ s) (thirds_filling g (omega (arith, ap length (select_yes x l ls e))))
  thirds_filling (pass {l = l} {ls = ls} {r = r} e g) h = thirds_no l r e ∙ thirds_filling g (h ∙ ap length (select_no x l ls e))
  thirds_filling (past {l = l} {ls = ls} {r = r} g) h = go (is x l) refl (λ k. thirds_filling g k)
    where
      go : (c : Bool) → is x l ≡ c → (0 ≡ count_of x ls → thirds r ≡ []) → thirds (l ∷ r) ≡ []
      go true e ih = absurd (omega (arith, ap length (select_yes x l ls e)))
      go false e ih = thirds_no l r e ∙ ih (h ∙ ap length (select_no x l ls e))

  pub thirds_fill : (bs : List A) (ls : List Line) → length bs ≡ count_of x ls → map (λ l. number l 2) (select x (fill_third x (map f bs) ls)) ≡ map f bs
  unfolding thirds
  thirds_fill bs ls h = thirds_filling (filling bs ls) h

  -- as many lines of the letter, and what stands between them stays
  count_filling : {bs : List A} {ls r : List Line} → Filling A x f bs ls r → count_of x r ≡ count_of x ls
  unfolding select
  count_filling done = refl
  count_filling (keep e g) = rw (e, eq-eqb x x refl) (ap suc (count_filling g))
  count_filling (pass e g) = rw e (count_filling g)
  count_filling (past {l = l} {ls = ls} {r = r} g) = go (is x l) (count_filling g)
    where
      go : (c : Bool) → count_of x r ≡ count_of x ls → length (pick c (l ∷ select x r) (select x r)) ≡ length (pick c (l ∷ select x ls) (select x ls))
      go true h = ap suc h
      go false h = h

  pub count_fill : (bs : List A) (ls : List Line) → count_of x (fill_third x (map f bs) ls) ≡ count_of x ls
  count_fill bs ls = count_filling (filling bs ls)

  before_filling : {bs : List A} {ls r : List Line} → Filling A x f bs ls r → before (is x) r ≡ before (is x) ls
  unfolding before
  before_filling done = refl
  before_filling (keep e g) = rw (e, eq-eqb x x refl)
  before_filling (pass e g) = rw (before_filling g)
  before_filling (past g) = rw (before_filling g)

  rests_filling : {bs : List A} {ls r : List Line} → Filling A x f bs ls r → map (λ (g : Group). g.rest) (groups (is x) r) ≡ map (λ (g : Group). g.rest) (groups (is x) ls)
  unfolding groups
  rests_filling done = refl
  rests_filling (keep {l = l} {ls = ls} {r = r} e g) =
      rw (e, eq-eqb x x refl) (ap₂ (λ (a : List Line) (s : List (List Line)). a ∷ s) (before_filling g) (rests_filling g))
  rests_filling (pass {l = l} {ls = ls} {r = r} e g) = rw e (rests_filling g)
  rests_filling (past {l = l} {ls = ls} {r = r} g) = go (is x l) (before_filling g) (rests_filling g)
    where
      go : (c : Bool) → before (is x) r ≡ before (is x) ls → map (λ (g : Group). g.rest) (groups (is x) r) ≡ map (λ (g : Group). g.rest) (groups (is x) ls)
          → map (λ (g : Group). g.rest) (pick c (record { head = l; rest = before (is x) r } ∷ groups (is x) r) (groups (is x) r))
          ≡ map (λ (g : Group). g.rest) (pick c (record { head = l; rest = before (is x) ls } ∷ groups (is x) ls) (groups (is x) ls))
      go true a b = ap₂ (λ (u : List Line) (s : List (List Line)). u ∷ s) a b
      go false a b = b

  pub rests_fill : (bs : List A) (ls : List Line)
      → map (λ (g : Group). g.rest) (groups (is x) (fill_third x (map f bs) ls)) ≡ map (λ (g : Group). g.rest) (groups (is x) ls)
  rests_fill bs ls = rests_filling (filling bs ls)

-- ---- F lines filled
-- keeps for two runs of lines, as many in the first as it has F lines
pub fill_keeps_append : (bs cs : List Bool) (xs ys : List Line) → length bs ≡ count_of field_line xs → fill_keeps (bs ++ cs) (xs ++ ys) ≡ fill_keeps bs xs ++ fill_keeps cs ys
fill_keeps_append bs cs xs ys h =
    ap (λ (ns : List ℕ). fill_third field_line ns (xs ++ ys)) (map-append bit bs cs) ∙ fill_third_append field_line (map bit bs) (map bit cs) xs ys (length-map bs bit ∙ h)

bits_read : (bs : List Bool) → map (λ n. not (eqb n 0)) (map bit bs) ≡ bs
bits_read [] = refl
bits_read (true ∷ bs) = ap (λ (r : List Bool). true ∷ r) (bits_read bs)
bits_read (false ∷ bs) = ap (λ (r : List Bool). false ∷ r) (bits_read bs)

-- the keeps that are put in are the keeps that are read
pub keeps_fill_keeps : (bs : List Bool) (ls : List Line) → length bs ≡ count_of field_line ls → keeps (fill_keeps bs ls) ≡ bs
unfolding keeps
keeps_fill_keeps bs ls h =
    sym (map-map (λ n. not (eqb n 0)) (λ l. number l 2) (select field_line (fill_keeps bs ls)))
    ∙ (ap (map (λ n. not (eqb n 0))) (thirds_fill field_line bit bs ls h) ∙ bits_read bs)

pub keeps_none : (ls : List Line) → count_of field_line ls ≡ 0 → keeps ls ≡ []
unfolding keeps
keeps_none ls h = go (select field_line ls) h
  where
    go : (r : List Line) → length r ≡ 0 → map (λ l. not (eqb (number l 2) 0)) r ≡ []
    go [] h = refl
    go (l ∷ r) h = absurd (omega arith)

-- ---- C lines filled
abbrev pub tag_number_of : CtorLayout → ℕ
tag_number_of cl = tag_number cl.cl_tag

pub tag_read : (t : Option ℕ) → tag_of (tag_number t) ≡ t
tag_read none = refl
tag_read (some i) = refl

-- the tags that are put in are the tags that are read
pub tags_fill_tags : (cls : List CtorLayout) (ls : List Line) → length cls ≡ count_of ctor_line ls → (i : ℕ) (d : CtorLayout) → i < length cls → tags (fill_tags cls ls) i ≡ (get_or cls i d).cl_tag
tags_fill_tags cls ls h i d k =
    ap tag_of
    (sym (ListN.get_or-map (λ l. number l 2) (select ctor_line (fill_tags cls ls)) i bad)
    ∙ (ap (λ (ns : List ℕ). get_or ns i 0) (thirds_fill ctor_line tag_number_of cls ls h) ∙ get_or_map tag_number_of cls i 0 d k))
    ∙ tag_read (get_or cls i d).cl_tag

-- where there is no C line, none is read
pub tags_none : (ls : List Line) → count_of ctor_line ls ≡ 0 → (i : ℕ) → tags ls i ≡ none
tags_none ls h i = go (select ctor_line ls) h
  where
    go : (r : List Line) → length r ≡ 0 → tag_of (number (get_or r i bad) 2) ≡ none
    go [] h = refl
    go (l ∷ r) h = absurd (omega arith)

-- tags change no keeps
pub keeps_fill_tags : (cls : List CtorLayout) (ls : List Line) → keeps (fill_tags cls ls) ≡ keeps ls
unfolding keeps
keeps_fill_tags cls ls = rw (select_fill ctor_line tag_number_of field_line refl cls ls)

pub keeps_of_fill_tags : (b : Body) (cls : List CtorLayout) (ls : List Line) → keeps_of b (fill_tags cls ls) ≡ keeps_of b ls
unfolding keeps_of
keeps_of_fill_tags TAbstract cls ls = refl
keeps_of_fill_tags (TAbbrev c) cls ls = refl
keeps_of_fill_tags (TRecord fs) cls ls = ap (λ (bs : List Bool). bs ∷ []) (keeps_fill_tags cls ls)
keeps_of_fill_tags (TVariant cs) cls ls =
    sym (map-map keeps (λ (g : Group). g.rest) (groups (is ctor_line) (fill_tags cls ls)))
    ∙ (ap (map keeps) (rests_fill ctor_line tag_number_of cls ls) ∙ map-map keeps (λ (g : Group). g.rest) (groups (is ctor_line) ls))

-- ---- V lines filled
-- a V line with its verdict
abbrev pub told_line : TypeInfo → Line
told_line ti = row verdict_line (bit ti.ti_erased ∷ layout_number ti.ti_layout ∷ bit ti.ti_record ∷ 0 ∷ 0 ∷ [])

abbrev pub tell : TypeInfo → Line → Line
tell ti l = pick (is verdict_line l) (told_line ti) l

pub fill_verdict_map : (ti : TypeInfo) (ls : List Line) → fill_verdict ti ls ≡ map (tell ti) ls
unfolding fill_verdict
fill_verdict_map ti ls = refl

pub tell_is : (ti : TypeInfo) (x : ℕ) (l : Line) → is x (tell ti l) ≡ is x l
tell_is ti x l = go (is verdict_line l) refl
  where
    go : (c : Bool) → is verdict_line l ≡ c → is x (pick c (told_line ti) l) ≡ is x l
    go true e = rw (eqb-true (letter l) 86 e)
    go false e = refl

pub tell_head : (ti : TypeInfo) (l : Line) → is_head (tell ti l) ≡ is_head l
tell_head ti l = rw (tell_is ti local_line l, tell_is ti import_line l)

pub tell_other : (ti : TypeInfo) (x : ℕ) → eqb 86 x ≡ false → (l : Line) → is x l ≡ true → tell ti l ≡ l
tell_other ti x q l e = go (is verdict_line l) refl
  where
    go : (c : Bool) → is verdict_line l ≡ c → pick c (told_line ti) l ≡ l
    go true h = contrary (is x l) e (rw (eqb-true (letter l) 86 h) q)
    go false h = refl

-- the lines of another letter stay
pub select_fill_verdict : (ti : TypeInfo) (x : ℕ) → eqb 86 x ≡ false → (ls : List Line) → select x (fill_verdict ti ls) ≡ select x ls
select_fill_verdict ti x q ls =
    rw (fill_verdict_map ti ls, select_map (tell ti) x (tell_is ti x) ls) (map_select x (tell ti) (λ l. l) (tell_other ti x q) ls ∙ map-id (select x ls))

pub keeps_fill_verdict : (ti : TypeInfo) (ls : List Line) → keeps (fill_verdict ti ls) ≡ keeps ls
unfolding keeps
keeps_fill_verdict ti ls = rw (select_fill_verdict ti field_line refl ls)

-- the verdict that is put in is the one that is read
pub verdict_fill_verdict : (ti : TypeInfo) (ls : List Line) → 0 < count_of verdict_line ls → verdict_of (fill_verdict ti ls) ≡ told_line ti
verdict_fill_verdict ti ls h =
    rw (fill_verdict_map ti ls, select_map (tell ti) verdict_line (tell_is ti verdict_line) ls, map_select verdict_line (tell ti) (λ l. told_line ti) (λ l e. rw e) ls)
    (get_or_map (λ (l : Line). told_line ti) (select verdict_line ls) 0 bad bad h)

-- no line begins a declaration
pub none_told : (ti : TypeInfo) (ls : List Line) → None is_head ls → None is_head (fill_told ti ls)
none_told ti ls h =
    rw (fill_verdict_map ti (fill_keeps (all_slots ti.ti_ctors) ls))
    (none_map (tell ti) is_head (tell_head ti) (fill_keeps (all_slots ti.ti_ctors) ls) (none_fill field_line bit is_head (λ b l. refl) (all_slots ti.ti_ctors) ls h))

none_fill_rest : (ti : TypeInfo) (ls : List Line) → None is_head ls → None is_head (fill_rest ti ls)
none_fill_rest ti ls h = none_fill ctor_line tag_number_of is_head (λ cl l. refl) ti.ti_ctors (fill_told ti ls) (none_told ti ls h)

-- ---- the groups of the verdict sheet
pub filled_grouped : (g : Group) (ti : TypeInfo) → Grouped is_head g → Grouped is_head (filled g ti)
unfolding filled
filled_grouped g ti h = go (is import_line g.head)
  where
    go : (c : Bool) → Grouped is_head (pick c g (record { head = row import_line (five g.head); rest = fill_rest ti g.rest }))
    go true = h
    go false = record { begins = refl; alone = none_fill_rest ti g.rest h.alone }

pub fills_grouped : (gs : List Group) (tis : List TypeInfo) → AllGrouped is_head gs → AllGrouped is_head (fills gs tis)
unfolding fills
fills_grouped [] tis h = tt
fills_grouped (g ∷ gs) [] h = tt
fills_grouped (g ∷ gs) (ti ∷ tis) h = (filled_grouped g ti h.0, fills_grouped gs tis h.1)

pub verdict_lines_flat : (ls : List Line) (tis : List TypeInfo) → verdict_lines ls tis ≡ before is_head ls ++ flat (fills (groups is_head ls) tis)
unfolding verdict_lines
verdict_lines_flat ls tis = rw (fill_all_flat (groups is_head ls) tis)

-- the header is kept, and the declarations are the filled ones
pub before_verdict_lines : (ls : List Line) (tis : List TypeInfo) → before is_head (verdict_lines ls tis) ≡ before is_head ls
before_verdict_lines ls tis =
    rw (verdict_lines_flat ls tis)
    (before_header is_head (before is_head ls) (flat (fills (groups is_head ls) tis)) (none_before is_head ls)
    (starts_flat is_head (fills (groups is_head ls) tis) (fills_grouped (groups is_head ls) tis (grouped is_head ls))))

pub groups_verdict_lines : (ls : List Line) (tis : List TypeInfo) → groups is_head (verdict_lines ls tis) ≡ fills (groups is_head ls) tis
groups_verdict_lines ls tis =
    rw (verdict_lines_flat ls tis)
    (groups_header is_head (before is_head ls) (fills (groups is_head ls) tis) (none_before is_head ls) (fills_grouped (groups is_head ls) tis (grouped is_head ls)))

-- ---- as many lines
length_filled : (g : Group) (ti : TypeInfo) → length (filled g ti).rest ≡ length g.rest
unfolding filled
length_filled g ti = go (is import_line g.head)
  where
    go : (c : Bool) → length (pick c g (record { head = row import_line (five g.head); rest = fill_rest ti g.rest })).rest ≡ length g.rest
    go true = refl
    go false =
        length_fill ctor_line tag_number_of ti.ti_ctors (fill_told ti g.rest)
        ∙ rw (fill_verdict_map ti (fill_keeps (all_slots ti.ti_ctors) g.rest))
        (length-map (fill_keeps (all_slots ti.ti_ctors) g.rest) (tell ti) ∙ length_fill field_line bit (all_slots ti.ti_ctors) g.rest)

length_flat_fills : (gs : List Group) (tis : List TypeInfo) → length tis ≡ length gs → length (flat (fills gs tis)) ≡ length (flat gs)
unfolding flat fills
length_flat_fills [] tis h = refl
length_flat_fills (g ∷ gs) [] h = absurd (omega arith)
length_flat_fills (g ∷ gs) (ti ∷ tis) h =
    ap suc
    (length-append (filled g ti).rest (flat (fills gs tis))
    ∙ ap₂ (λ (m n : ℕ). m + n) (length_filled g ti) (length_flat_fills gs tis (omega arith))
    ∙ sym (length-append g.rest (flat gs)))

pub length_verdict_lines : (ls : List Line) (tis : List TypeInfo) → length tis ≡ length (groups is_head ls) → length (verdict_lines ls tis) ≡ length ls
length_verdict_lines ls tis h =
    rw (verdict_lines_flat ls tis)
    (length-append (before is_head ls) (flat (fills (groups is_head ls) tis))
    ∙ ap (λ (n : ℕ). length (before is_head ls) + n) (length_flat_fills (groups is_head ls) tis h)
    ∙ sym (length-append (before is_head ls) (flat (groups is_head ls)))
    ∙ ap length (before_flat is_head ls))

-- ---- the verdict sheet's lines seen alike
-- The last two numbers of a C, F or V line are 0, as row 5 has it.
abbrev pub Ended : Line → Type 0
Ended l = (is ctor_line l || is field_line l || is verdict_line l) ≡ true → (number l 3 ≡ 0) × (number l 4 ≡ 0)

abbrev pub AllEnded : List Line → Type 0
AllEnded = Every Ended

ended_filling : {A : Type 0} (x : ℕ) (f : A → ℕ) {bs : List A} {ls r : List Line} → Filling A x f bs ls r → AllEnded ls → AllEnded r
ended_filling x f done h = tt
ended_filling x f (keep e g) h = (λ q. (refl, refl), ended_filling x f g h.1)
ended_filling x f (pass e g) h = (h.0, ended_filling x f g h.1)
ended_filling x f (past g) h = (h.0, ended_filling x f g h.1)

plain_field_line : (l : Line) → is field_line l ≡ true → plain l ≡ without_third field_line l
plain_field_line l e = go (kind l)
  where
    go : Kind l → plain l ≡ without_third field_line l
    go (a_head h k) = ⊎_elim (λ q. contrary (is field_line l) e (rw q)) (λ q. contrary (is field_line l) e (rw q)) (head_cases l h)
    go (a_ctor h k) = contrary (is field_line l) e (rw h)
    go (a_field h k) = k
    go (a_verdict h k) = contrary (is field_line l) e (rw h)
    go (another h t f v k) = contrary (is field_line l) e f

plain_verdict_line : (l : Line) → is verdict_line l ≡ true → plain l ≡ row verdict_line (0 ∷ 0 ∷ 0 ∷ number l 3 ∷ number l 4 ∷ [])
plain_verdict_line l e = go (kind l)
  where
    go : Kind l → plain l ≡ row verdict_line (0 ∷ 0 ∷ 0 ∷ number l 3 ∷ number l 4 ∷ [])
    go (a_head h k) = ⊎_elim (λ q. contrary (is verdict_line l) e (rw q)) (λ q. contrary (is verdict_line l) e (rw q)) (head_cases l h)
    go (a_ctor h k) = contrary (is verdict_line l) e (rw h)
    go (a_field h k) = contrary (is verdict_line l) e (rw h)
    go (a_verdict h k) = k
    go (another h t f v k) = contrary (is verdict_line l) e v

pub plain_head_line : (l : Line) → is_head l ≡ true → plain l ≡ row import_line (five l)
unfolding plain
plain_head_line l e = rw e

plain_kept : (b : Bool) (l : Line) → is field_line l ≡ true → Ended l → plain (kept_line b l) ≡ plain l
plain_kept b l e h =
    let k = h (rw (eqb-true (letter l) 70 e)) in
    plain_field_line (kept_line b l) refl ∙ rw (plain_field_line l e, k.0, k.1)

plain_tagged : (cl : CtorLayout) (l : Line) → is ctor_line l ≡ true → Ended l → plain (third_line ctor_line (tag_number_of cl) l) ≡ plain l
plain_tagged cl l e h =
    let k = h (rw (eqb-true (letter l) 67 e)) in
    plain_ctor_line (third_line ctor_line (tag_number_of cl) l) refl ∙ rw (plain_ctor_line l e, k.0, k.1)

plain_told : (ti : TypeInfo) (l : Line) → Ended l → plain (tell ti l) ≡ plain l
plain_told ti l h = go (is verdict_line l) refl
  where
    go : (c : Bool) → is verdict_line l ≡ c → plain (pick c (told_line ti) l) ≡ plain l
    go true e =
        let k = h (rw (eqb-true (letter l) 86 e)) in
        plain_verdict_line (told_line ti) refl ∙ rw (plain_verdict_line l e, k.0, k.1)
    go false e = refl

plain_filling : {A : Type 0} (x : ℕ) (f : A → ℕ) → ((b : A) (l : Line) → is x l ≡ true → Ended l → plain (third_line x (f b) l) ≡ plain l)
    → {bs : List A} {ls r : List Line} → Filling A x f bs ls r → AllEnded ls → map plain r ≡ map plain ls
plain_filling x f p done h = refl
plain_filling x f p (keep {b = b} {l = l} e g) h = ap₂ (λ (y : Line) (s : List Line). y ∷ s) (p b l e h.0) (plain_filling x f p g h.1)
plain_filling x f p (pass {l = l} e g) h = ap (λ (s : List Line). plain l ∷ s) (plain_filling x f p g h.1)
plain_filling x f p (past {l = l} g) h = ap (λ (s : List Line). plain l ∷ s) (plain_filling x f p g h.1)

plain_tell : (ti : TypeInfo) (ls : List Line) → AllEnded ls → map plain (map (tell ti) ls) ≡ map plain ls
plain_tell ti [] h = refl
plain_tell ti (l ∷ ls) h = ap₂ (λ (x : Line) (s : List Line). x ∷ s) (plain_told ti l h.0) (plain_tell ti ls h.1)

ended_told : (ti : TypeInfo) (ls : List Line) → AllEnded ls → AllEnded (map (tell ti) ls)
ended_told ti [] h = tt
ended_told ti (l ∷ ls) h = (go (is verdict_line l) h.0, ended_told ti ls h.1)
  where
    go : (c : Bool) → Ended l → Ended (pick c (told_line ti) l)
    go true k = λ q. (refl, refl)
    go false k = k

pub plain_fill_rest : (ti : TypeInfo) (ls : List Line) → AllEnded ls → map plain (fill_rest ti ls) ≡ map plain ls
unfolding fill_verdict
plain_fill_rest ti ls h =
    let bs : List Bool = all_slots ti.ti_ctors in
    let k : AllEnded (fill_keeps bs ls) = ended_filling field_line bit (filling field_line bit bs ls) h in
    plain_filling ctor_line tag_number_of plain_tagged (filling ctor_line tag_number_of ti.ti_ctors (fill_told ti ls)) (ended_told ti (fill_keeps bs ls) k)
    ∙ (plain_tell ti (fill_keeps bs ls) k ∙ plain_filling field_line bit plain_kept (filling field_line bit bs ls) h)

pub plain_filled : (g : Group) (ti : TypeInfo) → is_head g.head ≡ true → AllEnded g.rest → map_group plain (filled g ti) ≡ map_group plain g
unfolding filled
plain_filled g ti e h = go (is import_line g.head)
  where
    go : (c : Bool) → map_group plain (pick c g (record { head = row import_line (five g.head); rest = fill_rest ti g.rest })) ≡ map_group plain g
    go true = refl
    go false =
        ap₂ (λ (x : Line) (s : List Line). record { head = x; rest = s })
        (plain_head_line (row import_line (five g.head)) refl ∙ sym (plain_head_line g.head e))
        (plain_fill_rest ti g.rest h)

plain_flat : (gs : List Group) → map plain (flat gs) ≡ flat (map (map_group plain) gs)
unfolding flat
plain_flat [] = refl
plain_flat (g ∷ gs) = ap (λ (r : List Line). plain g.head ∷ r) (map-append plain g.rest (flat gs) ∙ ap (λ (r : List Line). map plain g.rest ++ r) (plain_flat gs))

plain_fills : (gs : List Group) (tis : List TypeInfo) → length tis ≡ length gs → AllGrouped is_head gs → AllEnded (flat gs)
    → map (map_group plain) (fills gs tis) ≡ map (map_group plain) gs
unfolding fills flat
plain_fills [] tis n k h = refl
plain_fills (g ∷ gs) [] n k h = absurd (omega arith)
plain_fills (g ∷ gs) (ti ∷ tis) n k h =
    ap₂ (λ (x : Group) (s : List Group). x ∷ s)
    (plain_filled g ti k.0.begins (every_left Ended g.rest (flat gs) h.1))
    (plain_fills gs tis (omega arith) k.1 (every_right Ended g.rest (flat gs) h.1))

-- A verdict sheet differs from its sheet only in what `plain` leaves out.
pub plain_verdict_lines : (ls : List Line) (tis : List TypeInfo) → length tis ≡ length (groups is_head ls) → AllEnded ls
    → map plain (verdict_lines ls tis) ≡ map plain ls
plain_verdict_lines ls tis n h =
    let gs : List Group = groups is_head ls in
    let e : before is_head ls ++ flat gs ≡ ls = before_flat is_head ls in
    ap (map plain) (verdict_lines_flat ls tis)
    ∙ map-append plain (before is_head ls) (flat (fills gs tis))
    ∙ ap (λ (r : List Line). map plain (before is_head ls) ++ r)
    (plain_flat (fills gs tis)
    ∙ ap flat (plain_fills gs tis n (grouped is_head ls) (every_right Ended (before is_head ls) (flat gs) (rw e h)))
    ∙ sym (plain_flat gs))
    ∙ sym (map-append plain (before is_head ls) (flat gs))
    ∙ ap (map plain) e

-- ---- whole declarations
-- Each constructor has as many F lines as its C line says.
abbrev pub AllCounted : List Group → Type 0
AllCounted = Every (λ g. count_of field_line g.rest ≡ number g.head 1)

-- The lines of a declaration that passes row 3: the body is as its counts say, and the V line is the last.
pub record Whole (g : Group) : Type 0 where
  pub body : List Line
  pub last : Line
  pub ends : g.rest ≡ body ++ (last ∷ [])
  pub before_last : None (is verdict_line) body
  pub is_last : is verdict_line last ≡ true
  pub kinds : number g.head 2 ≤ 3
  pub params : count_of param_line g.rest ≡ number g.head 3
  pub bare : number g.head 2 ≤ 1 → (count_of field_line g.rest ≡ 0) × (count_of ctor_line g.rest ≡ 0)
  pub fields : number g.head 2 ≡ 2 → (count_of field_line g.rest ≡ number g.head 4) × (count_of ctor_line g.rest ≡ 0)
  pub ctors : number g.head 2 ≡ 3 → count_of ctor_line g.rest ≡ number g.head 4
  pub ctors_first : number g.head 2 ≡ 3 → select field_line (before (is ctor_line) g.rest) ≡ []
  pub counted : number g.head 2 ≡ 3 → AllCounted (groups (is ctor_line) g.rest)

abbrev pub AllWhole : List Group → Type 0
AllWhole = Every Whole

pub whole_verdict : (g : Group) → Whole g → 0 < count_of verdict_line g.rest
whole_verdict g w =
    rw (w.ends, select_append, length-append, select_yes verdict_line w.last [] w.is_last) (omega arith)

-- the body kind (FORMAT, section 2)
unfoldable pub body_number : Body → ℕ
body_number TAbstract = 0
body_number (TAbbrev c) = 1
body_number (TRecord fs) = 2
body_number (TVariant cs) = 3

-- a body's number is its D or I line's
pub body_of_number : (ts : List Cty) (k last : ℕ) (ls : List Line) → k ≤ 3 → body_number (body_of ts k last ls) ≡ k
unfolding body_of body_number
body_of_number ts k last ls h = go (eqb k 1) (eqb k 2) (eqb k 3) refl refl refl
  where
    go : (x y z : Bool) → eqb k 1 ≡ x → eqb k 2 ≡ y → eqb k 3 ≡ z → body_number (
        x ⇒ TAbbrev (get_or ts last TUnit) ∥
        y ⇒ TRecord (map (field_of ts) (select field_line ls)) ∥
        z ⇒ TVariant (map (ctor_of ts) (groups (is ctor_line) ls)) ∥
        TAbstract) ≡ k
    go true y z a b c = sym (eqb-true k 1 a)
    go false true z a b c = sym (eqb-true k 2 b)
    go false false true a b c = sym (eqb-true k 3 c)
    go false false false a b c = let p = eqb-false k 1 a in let q = eqb-false k 2 b in let r = eqb-false k 3 c in omega arith

pub close_number : (ps : List ℕ) (b : Body) → body_number (close_body ps b) ≡ body_number b
unfolding body_number close_body
close_number ps TAbstract = refl
close_number ps (TAbbrev c) = refl
close_number ps (TRecord fs) = refl
close_number ps (TVariant cs) = refl

-- ---- coherent verdicts
-- a layout that a verdict of a declaration with this body and these constructors can have
abbrev pub has_ctors : Body → Bool
has_ctors TAbstract = false
has_ctors (TAbbrev c) = false
has_ctors (TRecord fs) = true
has_ctors (TVariant cs) = true

abbrev pub Suits : Body → List CtorLayout → Layout → Type 0
Suits b cls L_erased = Unit {0}
Suits b cls (L_newtype nt) = newtype_of cls ≡ some nt
Suits b cls (L_struct ms) = (ms ≡ cls) × (has_ctors b ≡ true)
Suits b cls (L_abbrev c) = b ≡ TAbbrev c
Suits b cls L_opaque = b ≡ TAbstract

-- What a verdict needs so that its lines give it back: it is erased exactly by its layout, the layout suits the
-- body, and the constructors are those of the declaration for some choice of erased names.
pub record Coherent (d : Dtype) (ti : TypeInfo) : Type 0 where
  pub erasing : ℕ → Bool
  pub ctors : ti.ti_ctors ≡ ctor_layouts erasing d
  pub erased : ti.ti_erased ≡ eqb (layout_number ti.ti_layout) 0
  pub suits : Suits d.dt_body ti.ti_ctors ti.ti_layout

pub layout_suits : (b : Body) (cls : List CtorLayout) (l : Layout) → Suits b cls l → layout_by (layout_number l) b cls ≡ l
unfolding layout_by layout_number collapse
layout_suits b cls L_erased s = refl
layout_suits b cls (L_newtype nt) s = rw s
layout_suits b cls (L_struct ms) s = ap L_struct (sym s.0)
layout_suits b cls (L_abbrev c) s = rw s
layout_suits b cls L_opaque s = refl

-- ---- the keeps of a declaration
unfoldable pub concat : List (List Bool) → List Bool
concat [] = []
concat (bs ∷ bss) = bs ++ concat bss

-- the slots of each constructor
abbrev pub slots_of : (ℕ → Bool) → List Ctor → List (List Bool)
slots_of er cs = map (λ c. slots er c.ct_fields) cs

pub all_slots_concat : (er : ℕ → Bool) (tag : ℕ → Option ℕ) (cs : List Ctor) → all_slots (layouts_of_ctors er tag cs) ≡ concat (slots_of er cs)
unfolding table all_slots concat ctor_layout
all_slots_concat er tag [] = refl
all_slots_concat er tag (c ∷ cs) = ap (λ (r : List Bool). slots er c.ct_fields ++ r) (all_slots_concat er (λ i. tag (suc i)) cs)

ctor_layouts_slots : (er : ℕ → Bool) (tag : ℕ → Option ℕ) (cs : List Ctor) → ctor_layouts_by tag cs (slots_of er cs) ≡ layouts_of_ctors er tag cs
unfolding table ctor_layouts_by
ctor_layouts_slots er tag [] = refl
ctor_layouts_slots er tag (c ∷ cs) = ap (λ (r : List CtorLayout). ctor_layout (tag 0) c (slots er c.ct_fields) ∷ r) (ctor_layouts_slots er (λ i. tag (suc i)) cs)

-- tags that agree as far as there are constructors
pub ctor_layouts_tags : (s t : ℕ → Option ℕ) (cs : List Ctor) (bss : List (List Bool)) → ((i : ℕ) → i < length cs → s i ≡ t i) → ctor_layouts_by s cs bss ≡ ctor_layouts_by t cs bss
unfolding ctor_layouts_by
ctor_layouts_tags s t [] bss h = refl
ctor_layouts_tags s t (c ∷ cs) [] h = refl
ctor_layouts_tags s t (c ∷ cs) (bs ∷ bss) h =
    ap₂ (λ (x : Option ℕ) (r : List CtorLayout). ctor_layout x c bs ∷ r) (h 0 (omega arith)) (ctor_layouts_tags (λ i. s (suc i)) (λ i. t (suc i)) cs bss (λ i k. h (suc i) (omega arith)))

-- as many keeps as F lines, constructor by constructor
abbrev pub Counts : List (List Bool) → List Group → Type 0
Counts [] [] = Unit {0}
Counts [] (g ∷ gs) = ⊥
Counts (bs ∷ bss) [] = ⊥
Counts (bs ∷ bss) (g ∷ gs) = (length bs ≡ count_of field_line g.rest) × Counts bss gs

unfoldable pub keep_groups : List (List Bool) → List Group → List Group
keep_groups [] gs = gs
keep_groups (bs ∷ bss) [] = []
keep_groups (bs ∷ bss) (g ∷ gs) = record { head = g.head; rest = fill_keeps bs g.rest } ∷ keep_groups bss gs

ctor_not_field : (l : Line) → is ctor_line l ≡ true → is field_line l ≡ false
ctor_not_field l e = rw (eqb-true (letter l) 67 e)

fill_keeps_flat : (bss : List (List Bool)) (gs : List Group) → AllGrouped (is ctor_line) gs → Counts bss gs
    → fill_keeps (concat bss) (flat gs) ≡ flat (keep_groups bss gs)
unfolding flat concat keep_groups
fill_keeps_flat [] gs k c = fill_third_nil field_line (flat gs)
fill_keeps_flat (bs ∷ bss) [] k c = absurd c
fill_keeps_flat (bs ∷ bss) (g ∷ gs) k c =
    fill_third_other field_line (map bit (bs ++ concat bss)) g.head (g.rest ++ flat gs) (ctor_not_field g.head k.0.begins)
    ∙ ap (λ (r : List Line). g.head ∷ r) (fill_keeps_append bs (concat bss) g.rest (flat gs) c.0 ∙ ap (λ (r : List Line). fill_keeps bs g.rest ++ r) (fill_keeps_flat bss gs k.1 c.1))

keep_groups_grouped : (bss : List (List Bool)) (gs : List Group) → AllGrouped (is ctor_line) gs → AllGrouped (is ctor_line) (keep_groups bss gs)
unfolding keep_groups
keep_groups_grouped [] gs k = k
keep_groups_grouped (bs ∷ bss) [] k = tt
keep_groups_grouped (bs ∷ bss) (g ∷ gs) k =
    (record { begins = k.0.begins; alone = none_fill field_line bit (is ctor_line) (λ b l. refl) bs g.rest k.0.alone }, keep_groups_grouped bss gs k.1)

keeps_keep_groups : (bss : List (List Bool)) (gs : List Group) → Counts bss gs → map (λ g. keeps g.rest) (keep_groups bss gs) ≡ bss
unfolding keep_groups
keeps_keep_groups [] [] c = refl
keeps_keep_groups [] (g ∷ gs) c = absurd c
keeps_keep_groups (bs ∷ bss) [] c = absurd c
keeps_keep_groups (bs ∷ bss) (g ∷ gs) c = ap₂ (λ (x : List Bool) (r : List (List Bool)). x ∷ r) (keeps_fill_keeps bs g.rest c.0) (keeps_keep_groups bss gs c.1)

-- a variant's keeps, put in and read
pub keeps_variant : (bss : List (List Bool)) (ls : List Line) → select field_line (before (is ctor_line) ls) ≡ [] → Counts bss (groups (is ctor_line) ls)
    → map (λ g. keeps g.rest) (groups (is ctor_line) (fill_keeps (concat bss) ls)) ≡ bss
keeps_variant bss ls h c =
    let gs : List Group = groups (is ctor_line) ls in
    let k : AllGrouped (is ctor_line) gs = grouped (is ctor_line) ls in
    let pre : List Line = before (is ctor_line) ls in
    let e : fill_keeps (concat bss) ls ≡ pre ++ flat (keep_groups bss gs) =
    ap (fill_keeps (concat bss)) (sym (before_flat (is ctor_line) ls)) ∙ fill_third_none field_line (map bit (concat bss)) pre (flat gs) h ∙ ap (λ (r : List Line). pre ++ r) (fill_keeps_flat bss gs k c) in
    ap (λ (r : List Line). map (λ (g : Group). keeps g.rest) (groups (is ctor_line) r)) e
    ∙ ap (map (λ (g : Group). keeps g.rest)) (groups_header (is ctor_line) pre (keep_groups bss gs) (none_before (is ctor_line) ls) (keep_groups_grouped bss gs k))
    ∙ keeps_keep_groups bss gs c

keeps_groups_verdict : (ti : TypeInfo) (ls : List Line)
    → map (λ g. keeps g.rest) (groups (is ctor_line) (fill_verdict ti ls)) ≡ map (λ g. keeps g.rest) (groups (is ctor_line) ls)
keeps_groups_verdict ti ls =
    rw (fill_verdict_map ti ls, groups_map (tell ti) (is ctor_line) (tell_is ti ctor_line) ls, map-map)
    (map_groups (is ctor_line) (λ (g : Group). keeps (map (tell ti) g.rest)) (λ (g : Group). keeps g.rest)
    (λ g k. ap keeps (sym (fill_verdict_map ti g.rest)) ∙ keeps_fill_verdict ti g.rest) (groups (is ctor_line) ls) (grouped (is ctor_line) ls))

pub length_slot : (er : ℕ → Bool) (fs : List Field) → length (slots er fs) ≡ length fs
unfolding slots
length_slot er fs = length-map fs (λ f. not (cty_erased er f.fd_type))

pub length_slots : (er : ℕ → Bool) (ps : List ℕ) (ts : List Cty) (ls : List Line)
    → length (slots er (map (close_field ps) (map (field_of ts) (select field_line ls)))) ≡ count_of field_line ls
length_slots er ps ts ls =
    length_slot er (map (close_field ps) (map (field_of ts) (select field_line ls)))
    ∙ length-map (map (field_of ts) (select field_line ls)) (close_field ps)
    ∙ length-map (select field_line ls) (field_of ts)

-- the keeps of a record
keeps_record : (ti : TypeInfo) (bs : List Bool) (ls : List Line) → length bs ≡ count_of field_line ls
    → keeps (fill_verdict ti (fill_keeps (bs ++ []) ls)) ≡ bs
keeps_record ti bs ls h = keeps_fill_verdict ti (fill_keeps (bs ++ []) ls) ∙ rw (append-nil bs) (keeps_fill_keeps bs ls h)

-- a constructor, its fields closed
abbrev pub close_ctor : List ℕ → Ctor → Ctor
close_ctor ps c = record { ct_name = c.ct_name; ct_fields = map (close_field ps) c.ct_fields }

pub counts_variant : (er : ℕ → Bool) (ps : List ℕ) (ts : List Cty) (gs : List Group) → Counts (slots_of er (map (close_ctor ps) (map (ctor_of ts) gs))) gs
unfolding ctor_of
counts_variant er ps ts [] = tt
counts_variant er ps ts (g ∷ gs) = (length_slots er ps ts g.rest, counts_variant er ps ts gs)

module _ (ti : TypeInfo) (er : ℕ → Bool) (ps : List ℕ) (ts : List Cty) where
  -- the keeps that the verdict puts in are read back
  pub keeps_body : (n kind last : ℕ) (ls : List Line) → (kind ≡ 3 → select field_line (before (is ctor_line) ls) ≡ [])
      → keeps_of (close_body ps (body_of ts kind last ls)) (fill_verdict ti (fill_keeps (concat (slots_of er (ctors_of n (close_body ps (body_of ts kind last ls))))) ls))
      ≡ slots_of er (ctors_of n (close_body ps (body_of ts kind last ls)))
  unfolding body_of close_body ctors_of keeps_of concat
  keeps_body n kind last ls h = go (eqb kind 1) (eqb kind 2) (eqb kind 3) (λ e. h (eqb-true kind 3 e))
    where
      body : Bool → Bool → Bool → Body
      body a b c = a ⇒ TAbbrev (get_or ts last TUnit) ∥ b ⇒ TRecord (map (field_of ts) (select field_line ls)) ∥ c ⇒ TVariant (map (ctor_of ts) (groups (is ctor_line) ls)) ∥ TAbstract

      go : (a b c : Bool) → (c ≡ true → select field_line (before (is ctor_line) ls) ≡ [])
          → keeps_of (close_body ps (body a b c)) (fill_verdict ti (fill_keeps (concat (slots_of er (ctors_of n (close_body ps (body a b c))))) ls))
          ≡ slots_of er (ctors_of n (close_body ps (body a b c)))
      go true b c k = refl
      go false true c k = ap (λ (bs : List Bool). bs ∷ []) (keeps_record ti (slots er (map (close_field ps) (map (field_of ts) (select field_line ls)))) ls (length_slots er ps ts ls))
      go false false true k =
          let bss : List (List Bool) = slots_of er (map (close_ctor ps) (map (ctor_of ts) (groups (is ctor_line) ls))) in
          keeps_groups_verdict ti (fill_keeps (concat bss) ls) ∙ keeps_variant bss ls (k refl) (counts_variant er ps ts (groups (is ctor_line) ls))
      go false false false k = refl

bit_eq : (b : Bool) → eqb (bit b) 1 ≡ b
bit_eq true = refl
bit_eq false = refl

-- as many groups as lines that begin one
pub length_groups_of : (x : ℕ) (ls : List Line) → length (groups (is x) ls) ≡ count_of x ls
unfolding groups select
length_groups_of x [] = refl
length_groups_of x (l ∷ ls) = go (is x l) (length_groups_of x ls)
  where
    go : (c : Bool) → length (groups (is x) ls) ≡ count_of x ls
        → length (pick c (record { head = l; rest = before (is x) ls } ∷ groups (is x) ls) (groups (is x) ls)) ≡ length (pick c (l ∷ select x ls) (select x ls))
    go true e = ap suc e
    go false e = e

-- the tags of layouts are those of their places
pub tag_at : (er : ℕ → Bool) (tag : ℕ → Option ℕ) (cs : List Ctor) (i : ℕ) (d : CtorLayout) → i < length cs → (get_or (layouts_of_ctors er tag cs) i d).cl_tag ≡ tag i
unfolding ctor_layout
tag_at er tag cs i d h = ap (λ (cl : CtorLayout). cl.cl_tag) (get_or_table (λ j. ctor_layout (tag j) (get_or cs j no_ctor) (slots er (get_or cs j no_ctor).ct_fields)) (length cs) i d h)

-- The C lines of a declaration are as many as its constructors, or there are none, and it is a record, whose only constructor has no tag.
pub ctors_counted : (ps : List ℕ) (ts : List Cty) (n : ℕ) (g : Group) → Whole g
    → let cs = ctors_of n (close_body ps (body_of ts (number g.head 2) (number g.head 4) g.rest)) in
    (length cs ≡ count_of ctor_line g.rest) ⊎ ((length cs ≡ 1) × (count_of ctor_line g.rest ≡ 0))
unfolding body_of close_body ctors_of
ctors_counted ps ts n g w = go (eqb kind 1) (eqb kind 2) (eqb kind 3) refl refl refl
  where
    kind : ℕ
    kind = number g.head 2

    go : (a b c : Bool) → eqb kind 1 ≡ a → eqb kind 2 ≡ b → eqb kind 3 ≡ c
        → let cs = ctors_of n (close_body ps (a ⇒ TAbbrev (get_or ts (number g.head 4) TUnit) ∥ b ⇒ TRecord (map (field_of ts) (select field_line g.rest)) ∥ c ⇒ TVariant (map (ctor_of ts) (groups (is ctor_line) g.rest)) ∥ TAbstract)) in
        (length cs ≡ count_of ctor_line g.rest) ⊎ ((length cs ≡ 1) × (count_of ctor_line g.rest ≡ 0))
    go true b c p q r = inl (sym (w.bare (omega (arith, eqb-true kind 1 p))).1)
    go false true c p q r = inr (refl, (w.fields (eqb-true kind 2 q)).1)
    go false false true p q r =
        inl
        (length-map (map (ctor_of ts) (groups (is ctor_line) g.rest)) (close_ctor ps)
        ∙ (length-map (groups (is ctor_line) g.rest) (ctor_of ts) ∙ length_groups_of ctor_line g.rest))
    go false false false p q r = inl (sym (w.bare (omega (arith, w.kinds, eqb-false kind 1 p, eqb-false kind 2 q, eqb-false kind 3 r))).1)

-- where there are C lines, the last number of a D or I line says how many constructors there are
pub ctors_last : (ps : List ℕ) (ts : List Cty) (n : ℕ) (g : Group) → Whole g → 0 < count_of ctor_line g.rest
    → length (ctors_of n (close_body ps (body_of ts (number g.head 2) (number g.head 4) g.rest))) ≡ number g.head 4
ctors_last ps ts n g w h = go (leb (number g.head 2) 1) (eqb (number g.head 2) 2) refl refl (ctors_counted ps ts n g w)
  where
    go : (a b : Bool) → leb (number g.head 2) 1 ≡ a → eqb (number g.head 2) 2 ≡ b → {k : ℕ}
        → (k ≡ count_of ctor_line g.rest) ⊎ ((k ≡ 1) × (count_of ctor_line g.rest ≡ 0)) → k ≡ number g.head 4
    go true b p q c = absurd (omega (arith, (w.bare (leb-true (number g.head 2) 1 p)).1))
    go false true p q c = absurd (omega (arith, (w.fields (eqb-true (number g.head 2) 2 q)).1))
    go false false p q (inl e) = e ∙ w.ctors (omega (arith, w.kinds, leb-false (number g.head 2) 1 p, eqb-false (number g.head 2) 2 q))
    go false false p q (inr e) = absurd (omega (arith, e.1))

-- tags by place, put into lines with as many C lines, and read
tags_filled : (er : ℕ → Bool) (cs : List Ctor) (ls : List Line) → (length cs ≡ count_of ctor_line ls) ⊎ ((length cs ≡ 1) × (count_of ctor_line ls ≡ 0))
    → (i : ℕ) → i < length cs → tags (fill_tags (layouts_of_ctors er (ctor_tag (length cs)) cs) ls) i ≡ ctor_tag (length cs) i
tags_filled er cs ls (inl e) i h =
    let n : length (layouts_of_ctors er (ctor_tag (length cs)) cs) ≡ length cs = length_table _ (length cs) in
    tags_fill_tags (layouts_of_ctors er (ctor_tag (length cs)) cs) ls (n ∙ e) i (ctor_layout none no_ctor []) (omega (arith, n))
    ∙ tag_at er (ctor_tag (length cs)) cs i (ctor_layout none no_ctor []) h
tags_filled er cs ls (inr e) i h =
    tags_none (fill_tags (layouts_of_ctors er (ctor_tag (length cs)) cs) ls) (count_fill ctor_line tag_number_of (layouts_of_ctors er (ctor_tag (length cs)) cs) ls ∙ e.1) i ∙ sym (ap (λ (n : ℕ). ctor_tag n i) e.0)

-- the lines between are as many C lines
pub ctors_told : (ti : TypeInfo) (ls : List Line) → select ctor_line (fill_told ti ls) ≡ select ctor_line ls
ctors_told ti ls = select_fill_verdict ti ctor_line refl (fill_keeps (all_slots ti.ti_ctors) ls) ∙ select_fill field_line bit ctor_line refl (all_slots ti.ti_ctors) ls

ctors_filled : (ts : List Cty) (g : Group) (ti : TypeInfo) → Whole g → Coherent (close_fields (dtype_of ts g)) ti
    → ctor_layouts_by (tags (fill_rest ti g.rest)) (ctors_of_tydef (close_fields (dtype_of ts g))) (keeps_of (close_fields (dtype_of ts g)).dt_body (fill_rest ti g.rest)) ≡ ti.ti_ctors
unfolding ctor_layouts close_fields dtype_of
ctors_filled ts g ti w c =
    let d : Dtype = close_fields (dtype_of ts g) in
    let er : ℕ → Bool = c.erasing in
    let cs : List Ctor = ctors_of_tydef d in
    let s : all_slots ti.ti_ctors ≡ concat (slots_of er cs) = ap all_slots c.ctors ∙ all_slots_concat er (ctor_tag (length cs)) cs in
    let k : keeps_of d.dt_body (fill_rest ti g.rest) ≡ slots_of er cs =
    keeps_of_fill_tags d.dt_body ti.ti_ctors (fill_told ti g.rest)
    ∙ rw s (keeps_body ti er d.dt_params ts d.dt_name (number g.head 2) (number g.head 4) g.rest w.ctors_first) in
    let n : (length cs ≡ count_of ctor_line (fill_told ti g.rest)) ⊎ ((length cs ≡ 1) × (count_of ctor_line (fill_told ti g.rest) ≡ 0)) =
    rw (ctors_told ti g.rest) (ctors_counted d.dt_params ts d.dt_name g w) in
    let t : (i : ℕ) → i < length cs → tags (fill_rest ti g.rest) i ≡ ctor_tag (length cs) i =
    λ i h. ap (λ (cls : List CtorLayout). tags (fill_tags cls (fill_told ti g.rest)) i) c.ctors ∙ tags_filled er cs (fill_told ti g.rest) n i h in
    ap (ctor_layouts_by (tags (fill_rest ti g.rest)) cs) k
    ∙ (ctor_layouts_tags (tags (fill_rest ti g.rest)) (ctor_tag (length cs)) cs (slots_of er cs) t
    ∙ (ctor_layouts_slots er (ctor_tag (length cs)) cs ∙ sym c.ctors))

-- A coherent verdict is what the lines that it fills give back.
pub info_filled : (ts : List Cty) (g : Group) (ti : TypeInfo) → Whole g → Coherent (close_fields (dtype_of ts g)) ti
    → info_of (close_fields (dtype_of ts g)) (fill_rest ti g.rest) (verdict_of (fill_rest ti g.rest)) ≡ ti
unfolding info_of
info_filled ts g ti w c =
    let d : Dtype = close_fields (dtype_of ts g) in
    let v : verdict_of (fill_rest ti g.rest) ≡ told_line ti =
    ap (λ (r : List Line). get_or r 0 bad) (select_fill ctor_line tag_number_of verdict_line refl ti.ti_ctors (fill_told ti g.rest))
    ∙ verdict_fill_verdict ti (fill_keeps (all_slots ti.ti_ctors) g.rest) (rw (select_fill field_line bit verdict_line refl (all_slots ti.ti_ctors) g.rest) (whole_verdict g w)) in
    let k : ctor_layouts_by (tags (fill_rest ti g.rest)) (ctors_of_tydef d) (keeps_of d.dt_body (fill_rest ti g.rest)) ≡ ti.ti_ctors = ctors_filled ts g ti w c in
    rw (v, k, bit_eq ti.ti_erased, bit_eq ti.ti_record, layout_suits d.dt_body ti.ti_ctors ti.ti_layout c.suits)

-- ---- the program of a verdict sheet
-- a verdict for a declaration: its own for an import, a coherent one for a local declaration
abbrev pub Tells : TypeInfo → Dtype → Origin → Type 0
Tells ti d here = Coherent d ti
Tells ti d (imported tj) = tj ≡ ti

abbrev pub Told : Decl → TypeInfo → Type 0
Told d ti = Tells ti d.dtype d.origin

abbrev pub AllTold : List Decl → List TypeInfo → Type 0
AllTold [] [] = Unit {0}
AllTold [] (ti ∷ tis) = ⊥
AllTold (d ∷ ds) [] = ⊥
AllTold (d ∷ ds) (ti ∷ tis) = Told d ti × AllTold ds tis

pub dtype_filled : (ts : List Cty) (g : Group) (ti : TypeInfo) → is_head g.head ≡ true → AllEnded g.rest → dtype_of ts (filled g ti) ≡ dtype_of ts g
dtype_filled ts g ti e h =
    sym (dtype_plain ts (filled g ti) (rw (eqb-true (letter (filled g ti).head) 73 (filled_is_import g ti))))
    ∙ ap (dtype_of ts) (plain_filled g ti e h)
    ∙ dtype_plain ts g e

pub decl_filled : (ts : List Cty) (g : Group) (ti : TypeInfo) → Grouped is_head g → AllEnded g.rest → Whole g → Told (decl_of ts g) ti
    → decl_of ts (filled g ti) ≡ pin (decl_of ts g) ti
unfolding decl_of
decl_filled ts g ti k h w t = go (is import_line g.head) refl t
  where
    go : (c : Bool) → is import_line g.head ≡ c
        → Told (record { dtype = close_fields (dtype_of ts g); origin = pick c (imported (info_of (close_fields (dtype_of ts g)) g.rest (verdict_of g.rest))) here }) ti
        → decl_of ts (filled g ti) ≡ pin (decl_of ts g) ti
    go true e q = ap (decl_of ts) (filled_import g ti e) ∙ rw (e, decl_of, q)
    go false e q = rw (filled_is_import g ti, dtype_filled ts g ti k.begins h, filled_local g ti e, info_filled ts g ti w q)

decls_filled : (ts : List Cty) (gs : List Group) (tis : List TypeInfo) → AllGrouped is_head gs → AllEnded (flat gs) → AllWhole gs → AllTold (map (decl_of ts) gs) tis
    → map (decl_of ts) (fills gs tis) ≡ pins (map (decl_of ts) gs) tis
unfolding fills pins flat
decls_filled ts [] [] k h w t = refl
decls_filled ts [] (ti ∷ tis) k h w t = absurd t
decls_filled ts (g ∷ gs) [] k h w t = absurd t
decls_filled ts (g ∷ gs) (ti ∷ tis) k h w t =
    ap₂ (λ (d : Decl) (ds : List Decl). d ∷ ds)
    (decl_filled ts g ti k.0 (every_left Ended g.rest (flat gs) h.1) w.0 t.0)
    (decls_filled ts gs tis k.1 (every_right Ended g.rest (flat gs) h.1) w.1 t.1)

pub told_length : (ds : List Decl) (tis : List TypeInfo) → AllTold ds tis → length tis ≡ length ds
told_length [] [] t = refl
told_length [] (ti ∷ tis) t = absurd t
told_length (d ∷ ds) [] t = absurd t
told_length (d ∷ ds) (ti ∷ tis) t = ap suc (told_length ds tis t.1)

pub told_groups : (ls : List Line) (tis : List TypeInfo) → AllTold (program ls) tis → length tis ≡ length (groups is_head ls)
unfolding program
told_groups ls tis t = told_length (program ls) tis t ∙ length-map (groups is_head ls) (decl_of (trees ls))

pub trees_verdict_lines : (ls : List Line) (tis : List TypeInfo) → length tis ≡ length (groups is_head ls) → AllEnded ls → trees (verdict_lines ls tis) ≡ trees ls
trees_verdict_lines ls tis n h = sym (trees_plain (verdict_lines ls tis)) ∙ ap trees (plain_verdict_lines ls tis n h) ∙ trees_plain ls

pub ended_groups : (ls : List Line) → AllEnded ls → AllEnded (flat (groups is_head ls))
ended_groups ls h = every_right Ended (before is_head ls) (flat (groups is_head ls)) (rw (before_flat is_head ls) h)

-- The program of a verdict sheet is the sheet's program, every declaration an import with its verdict.
pub program_verdict : (ls : List Line) (tis : List TypeInfo) → AllTold (program ls) tis → AllWhole (groups is_head ls) → AllEnded ls
    → program (verdict_lines ls tis) ≡ pins (program ls) tis
program_verdict ls tis t w h =
    let n : length tis ≡ length (groups is_head ls) = told_groups ls tis t in
    program_by (verdict_lines ls tis) (trees ls) (fills (groups is_head ls) tis) (trees_verdict_lines ls tis n h) (groups_verdict_lines ls tis)
    ∙ decls_filled (trees ls) (groups is_head ls) tis (grouped is_head ls) (ended_groups ls h) w (rw (program_by ls (trees ls) (groups is_head ls) refl refl) at t)
    ∙ ap (λ (ds : List Decl). pins ds tis) (sym (program_by ls (trees ls) (groups is_head ls) refl refl))

-- ---- the verdicts of a run are coherent
collapse_suits : (b : Body) (drop : Bool) (cand : Option NewtypeLayout) (cls : List CtorLayout) → has_ctors b ≡ true → ((nt : NewtypeLayout) → cand ≡ some nt → newtype_of cls ≡ some nt)
    → (Suits b cls (collapse drop cand cls)) × (false ≡ eqb (layout_number (collapse drop cand cls)) 0)
unfolding collapse layout_number
collapse_suits b true cand cls h k = ((refl, h), refl)
collapse_suits b false none cls h k = ((refl, h), refl)
collapse_suits b false (some nt) cls h k = (k nt refl, refl)

candidate_newtype : (d : Dtype) (cls : List CtorLayout) (l : NewtypeLayout) → candidate d here false cls ≡ some l → newtype_of cls ≡ some l
unfolding candidate
candidate_newtype d cls l e = go (has_flag d NoNewtype) e
  where
    go : (c : Bool) → pick c none (newtype_of cls) ≡ some l → newtype_of cls ≡ some l
    go true q = let z : ◌≡◌ {A = ℕ} 0 1 = cc in absurd (omega arith)
    go false q = q

-- the layout that the pass gives a local declaration
pub layout_coherent : (d : Dtype) (e drop : Bool) (cls : List CtorLayout)
    → (Suits d.dt_body cls (layout_of d here e drop (candidate d here e cls) cls)) × (e ≡ eqb (layout_number (layout_of d here e drop (candidate d here e cls) cls)) 0)
unfolding layout_of layout_number layout_of_body
layout_coherent d true drop cls = (tt, refl)
layout_coherent d false drop cls = go d.dt_body
  where
    go : (b : Body) → (Suits b cls (layout_of_body b drop (candidate d here false cls) cls)) × (false ≡ eqb (layout_number (layout_of_body b drop (candidate d here false cls) cls)) 0)
    go TAbstract = (refl, refl)
    go (TAbbrev c) = (refl, refl)
    go (TRecord fs) = collapse_suits (TRecord fs) drop (candidate d here false cls) cls refl (candidate_newtype d cls)
    go (TVariant cs) = collapse_suits (TVariant cs) drop (candidate d here false cls) cls refl (candidate_newtype d cls)

pub info_tells : (er : ℕ → Bool) (d : Dtype) (o : Origin) (e drop : Bool) (left : Option Dtype)
    → Tells (info er d o e (layout_of d o e drop (candidate d o e (ctor_layouts er d)) (ctor_layouts er d)) left) d o
unfolding info
info_tells er d here e drop left =
    let k = layout_coherent d e drop (ctor_layouts er d) in
    record { erasing = er; ctors = refl; erased = k.1; suits = k.0 }
info_tells er d (imported ti) e drop left = refl

told_table : (ds : List Decl) (f : ℕ → TypeInfo) → ((i : ℕ) → i < length ds → Told (get_or ds i no_decl) (f i)) → AllTold ds (table f (length ds))
unfolding table
told_table [] f h = tt
told_table (d ∷ ds) f h = (h 0 (omega arith), told_table ds (λ i. f (suc i)) (λ i k. h (suc i) (omega arith)))

-- Every verdict of a run is an import's own or a coherent one.
pub run_told : (fuel : ℕ) (ds : List Decl) → AllTold ds (run fuel ds).infos
unfolding run
run_told fuel ds =
    let s : List Bool = (erasure_fixpoint ds).marks in
    told_table ds _ (λ i h. rw (get_or_layouts ds s i L_opaque h, get_or_candidates ds (marked ds s) s i none h) (info_tells (marked ds s) (dtype_at ds i) (origin_at ds i) (get_or s i false) (dropped ds (passes_of ds s) i) _))

-- ---- a verdict sheet filled again
pub fill_all_append : (gs hs : List Group) (tis us : List TypeInfo) → length tis ≡ length gs → fill_all (gs ++ hs) (tis ++ us) ≡ fill_all gs tis ++ fill_all hs us
unfolding fill_all
fill_all_append [] hs [] us h = refl
fill_all_append [] hs (ti ∷ tis) us h = absurd (omega arith)
fill_all_append (g ∷ gs) hs [] us h = absurd (omega arith)
fill_all_append (g ∷ gs) hs (ti ∷ tis) us h = rw (fill_all_append gs hs tis us (omega arith)) (sym (append_assoc (fill g ti) (fill_all gs tis) (fill_all hs us)))

-- the lines of a prefix and of the rest are filled apart
pub verdict_lines_append : (ls qs : List Line) (tis us : List TypeInfo) → Starts is_head qs → length tis ≡ length (groups is_head ls)
    → verdict_lines (ls ++ qs) (tis ++ us) ≡ verdict_lines ls tis ++ fill_all (groups is_head qs) us
unfolding verdict_lines
verdict_lines_append ls qs tis us s n =
    rw (before_append is_head ls qs s, groups_append is_head ls qs s, fill_all_append (groups is_head ls) (groups is_head qs) tis us n)
    (sym (append_assoc (before is_head ls) (fill_all (groups is_head ls) tis) (fill_all (groups is_head qs) us)))

length_fills : (gs : List Group) (tis : List TypeInfo) → length tis ≡ length gs → length (fills gs tis) ≡ length gs
unfolding fills
length_fills [] tis h = refl
length_fills (g ∷ gs) [] h = absurd (omega arith)
length_fills (g ∷ gs) (ti ∷ tis) h = ap suc (length_fills gs tis (omega arith))

pub filled_again : (g : Group) (ti tj : TypeInfo) → filled (filled g ti) tj ≡ filled g ti
filled_again g ti tj = filled_import (filled g ti) tj (filled_is_import g ti)

fills_again : (gs : List Group) (tis tjs : List TypeInfo) → length tis ≡ length gs → length tjs ≡ length gs → fills (fills gs tis) tjs ≡ fills gs tis
unfolding fills
fills_again [] tis tjs h k = refl
fills_again (g ∷ gs) [] tjs h k = absurd (omega arith)
fills_again (g ∷ gs) (ti ∷ tis) [] h k = absurd (omega arith)
fills_again (g ∷ gs) (ti ∷ tis) (tj ∷ tjs) h k = ap₂ (λ (x : Group) (r : List Group). x ∷ r) (filled_again g ti tj) (fills_again gs tis tjs (omega arith) (omega arith))

-- a verdict sheet's own lines are not changed, whatever the verdicts
pub verdict_lines_again : (ls : List Line) (tis tjs : List TypeInfo) → length tis ≡ length (groups is_head ls) → length tjs ≡ length (groups is_head ls)
    → verdict_lines (verdict_lines ls tis) tjs ≡ verdict_lines ls tis
verdict_lines_again ls tis tjs h k =
    verdict_lines_flat (verdict_lines ls tis) tjs
    ∙ ap₂ (λ (b : List Line) (gs : List Group). b ++ flat (fills gs tjs)) (before_verdict_lines ls tis) (groups_verdict_lines ls tis)
    ∙ ap (λ (gs : List Group). before is_head ls ++ flat gs) (fills_again (groups is_head ls) tis tjs h k)
    ∙ sym (verdict_lines_flat ls tis)

-- The cut: filling the verdict sheet of a prefix with the rest behind it fills the rest alone, and gives what filling the whole gives.
pub verdict_lines_cut : (ls qs : List Line) (tis tjs us : List TypeInfo) → Starts is_head qs → length tis ≡ length (groups is_head ls) → length tjs ≡ length (groups is_head ls)
    → verdict_lines (verdict_lines ls tis ++ qs) (tjs ++ us) ≡ verdict_lines (ls ++ qs) (tis ++ us)
verdict_lines_cut ls qs tis tjs us s h k =
    verdict_lines_append (verdict_lines ls tis) qs tjs us s (k ∙ sym (ap length (groups_verdict_lines ls tis) ∙ length_fills (groups is_head ls) tis h))
    ∙ ap (λ (r : List Line). r ++ fill_all (groups is_head qs) us) (verdict_lines_again ls tis tjs h k)
    ∙ sym (verdict_lines_append ls qs tis us s h)

-- the N, A and Y lines of a verdict sheet
pub select_verdict_lines : (x : ℕ) → eqb 68 x ≡ false → eqb 73 x ≡ false → eqb 67 x ≡ false → eqb 70 x ≡ false → eqb 86 x ≡ false
    → (ls : List Line) (tis : List TypeInfo) → length tis ≡ length (groups is_head ls) → AllEnded ls → select x (verdict_lines ls tis) ≡ select x ls
select_verdict_lines x p q o r s ls tis n h =
    sym (select_plain x p q o r s (verdict_lines ls tis)) ∙ ap (select x) (plain_verdict_lines ls tis n h) ∙ select_plain x p q o r s ls

-- The program of a prefix's verdict sheet with the rest behind it.
pub program_cut : (ls qs : List Line) (tis : List TypeInfo) → AllTold (program ls) tis → AllWhole (groups is_head ls) → AllEnded ls
    → Starts is_head qs → select arg_line qs ≡ [] → select type_line qs ≡ []
    → program (verdict_lines ls tis ++ qs) ≡ pins (program ls) tis ++ map (decl_of (trees ls)) (groups is_head qs)
program_cut ls qs tis t w h s a y =
    program_append (verdict_lines ls tis) qs s a y
    ∙ ap₂ (λ (ds : List Decl) (ts : List Cty). ds ++ map (decl_of ts) (groups is_head qs)) (program_verdict ls tis t w h) (trees_verdict_lines ls tis (told_groups ls tis t) h)

-- the left sheet takes its N lines alone from the sheet
pub left_lines_names : (ls ms : List Line) (ds : List Dtype) → select name_line ls ≡ select name_line ms → left_lines ls ds ≡ left_lines ms ds
unfolding left_lines
left_lines_names ls ms ds e = rw e

pub left_lines_cut : (ls qs : List Line) (tis : List TypeInfo) (ds : List Dtype) → length tis ≡ length (groups is_head ls) → AllEnded ls
    → left_lines (verdict_lines ls tis ++ qs) ds ≡ left_lines (ls ++ qs) ds
left_lines_cut ls qs tis ds n h =
    left_lines_names (verdict_lines ls tis ++ qs) (ls ++ qs) ds
    (select_append name_line (verdict_lines ls tis) qs
    ∙ ap (λ (r : List Line). r ++ select name_line qs) (select_verdict_lines name_line refl refl refl refl refl ls tis n h)
    ∙ sym (select_append name_line ls qs))
