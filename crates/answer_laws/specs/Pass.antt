-- What passing rows says of a sheet's program. Assumes nothing.
use Rattle.std.specs.Prelude.{◌≡◌, refl, List, [], ◌∷◌, map, Bool, true, false, ◌&&◌, ℕ, zero, suc, ◌≤◌, ◌<◌, ltb, length}
use Rattle.std.proofs.Common.{sym, ◌∙◌, ap, subst, arith, ltb-true, ltb-false, lt-ltb, eq-eqb}
use Rattle.std.proofs.Math.Bool.{or-true}
use Rattle.number_columns.specs.Column.{pick}
use Rattle.sheet.specs.Line.{Line, number, text}
use Rattle.sheet.specs.Sheet.{first}
use Rattle.sheet.proofs.FirstLaws.{first_le_at}
use Rattle.model.specs.Cty.{Cty}
use Rattle.model.specs.Decl.{Dtype, TypeInfo, here, imported, Decl, no_decl, dtype_at, origin_at, close_fields}
use Rattle.meaning.specs.Program.{
  name_line,
  import_line,
  is,
  is_head,
  Group,
  groups,
  trees,
  dtype_of,
  info_of,
  verdict_of,
  decl_of,
  program,
}
use Rattle.meaning.specs.Rows.{nth_line, heads_before, equal, repeats, row6}
use Rattle.model.specs.Names.{dtype_names, Distinct, Among, layout_names, OwnImports}
use Rattle.meaning_laws.specs.Program.{length_program, heads_before_program, program_at, HeadAt, head_at}
use Rattle.meaning_laws.specs.Imports.{info_own}
use Rattle.answer.specs.Answer.{at_head, Clear}

-- ---- rows at declarations
-- A row that is tested at the lines where declarations begin passes exactly if each declaration does.
pub clear_heads : (ls : List Line) (p : ℕ → Bool) → Clear (length ls) (at_head ls p) → Clear (length (program ls)) p
clear_heads ls p h k j =
    let r : HeadAt ls k = head_at ls k (omega (arith, length_program ls)) in
    ap p (sym r.passed) ∙ (sym (on r.place (is_head (nth_line ls r.place)) r.heads_it) ∙ h r.place r.inside)
  where
    on : (i : ℕ) (b : Bool) → b ≡ true → elim b [ true ↦ p (heads_before ls i) | false ↦ false ] ≡ p (heads_before ls i)
    on i true e = refl
    on i false e = let z : ◌≡◌ {A = ℕ} 0 1 = cc in absurd (omega arith)

pub heads_clear : (ls : List Line) (p : ℕ → Bool) → Clear (length (program ls)) p → Clear (length ls) (at_head ls p)
heads_clear ls p h i j = go (is_head (nth_line ls i)) refl
  where
    go : (b : Bool) → is_head (nth_line ls i) ≡ b → elim b [ true ↦ p (heads_before ls i) | false ↦ false ] ≡ false
    go true e = h (heads_before ls i) (heads_before_program ls i j e)
    go false e = refl

-- ---- row 6: no name is declared twice
pub name_at : (ls : List Line) (i : ℕ) → i < length ls → is_head (nth_line ls i) ≡ true → (dtype_at (program ls) (heads_before ls i)).dt_name ≡ number (nth_line ls i) 0
unfolding decl_of close_fields dtype_of
name_at ls i h e = ap (λ (d : Decl). d.dtype.dt_name) (program_at ls i no_decl h e)

repeated : (ls : List Line) (i j : ℕ) → is_head (nth_line ls i) ≡ true → is_head (nth_line ls j) ≡ true → number (nth_line ls i) 0 ≡ number (nth_line ls j) 0 → repeats ls i j ≡ true
unfolding repeats
repeated ls i j a b e = rw (a, b, eq-eqb (number (nth_line ls j) 0) (number (nth_line ls i) 0) (sym e)) (or-true (is name_line (nth_line ls j) && is name_line (nth_line ls i) && equal (text (nth_line ls j)) (text (nth_line ls i))))

earlier : (ls : List Line) → Clear (length ls) (row6 ls) → (i j : ℕ) → i < length ls → j < i → is_head (nth_line ls i) ≡ true → is_head (nth_line ls j) ≡ true → number (nth_line ls i) 0 ≡ number (nth_line ls j) 0 → ⊥
unfolding row6
earlier ls c i j h k a b e =
    let f : first (repeats ls i) i ≤ j = first_le_at (repeats ls i) i j k (repeated ls i j a b e) in
    let t : ltb (first (repeats ls i) i) i ≡ true = lt-ltb (first (repeats ls i) i) i (omega arith) in
    let u : ltb (first (repeats ls i) i) i ≡ false = c i h in
    let z : ◌≡◌ {A = ℕ} 0 1 = cc in
    omega arith

-- where no two lines at which declarations begin have one name
pub distinct_heads : (ls : List Line) → ((i j : ℕ) → i < length ls → j < i → is_head (nth_line ls i) ≡ true → is_head (nth_line ls j) ≡ true → number (nth_line ls i) 0 ≡ number (nth_line ls j) 0 → ⊥)
    → Distinct (program ls)
distinct_heads ls c i j h k e =
    let a : HeadAt ls i = head_at ls i (omega (arith, length_program ls)) in
    let b : HeadAt ls j = head_at ls j (omega (arith, length_program ls)) in
    let p : number (nth_line ls a.place) 0 ≡ number (nth_line ls b.place) 0 =
    sym (name_at ls a.place a.inside a.heads_it)
    ∙ (ap (λ (x : ℕ). (dtype_at (program ls) x).dt_name) a.passed
    ∙ (e ∙ (ap (λ (x : ℕ). (dtype_at (program ls) x).dt_name) (sym b.passed) ∙ name_at ls b.place b.inside b.heads_it))) in
    go a b p (ltb a.place b.place) (ltb b.place a.place) refl refl
  where
    go : (a : HeadAt ls i) (b : HeadAt ls j) → number (nth_line ls a.place) 0 ≡ number (nth_line ls b.place) 0
        → (s t : Bool) → ltb a.place b.place ≡ s → ltb b.place a.place ≡ t → i ≡ j
    go a b p true t q r = absurd (c b.place a.place b.inside (ltb-true a.place b.place q) b.heads_it a.heads_it (sym p))
    go a b p false true q r = absurd (c a.place b.place a.inside (ltb-true b.place a.place r) a.heads_it b.heads_it p)
    go a b p false false q r =
        let z : a.place ≡ b.place = omega (arith, ltb-false a.place b.place q, ltb-false b.place a.place r) in
        sym a.passed ∙ (ap (heads_before ls) z ∙ b.passed)

pub distinct_program : (ls : List Line) → Clear (length ls) (row6 ls) → Distinct (program ls)
distinct_program ls c = distinct_heads ls (earlier ls c)

-- ---- imports
-- an import's layout is made of its own declaration's types
decl_own : (ts : List Cty) (g : Group) (ti : TypeInfo) → (decl_of ts g).origin ≡ imported ti → Among (layout_names ti.ti_layout) (dtype_names (decl_of ts g).dtype)
unfolding decl_of
decl_own ts g ti e = go (is import_line g.head) e
  where
    d : Dtype
    d = close_fields (dtype_of ts g)

    own : TypeInfo
    own = info_of d g.rest (verdict_of g.rest)

    go : (b : Bool) → pick b (imported own) here ≡ imported ti → Among (layout_names ti.ti_layout) (dtype_names d)
    go true q = let z : own ≡ ti = cc in subst (λ (x : TypeInfo). Among (layout_names x.ti_layout) (dtype_names d)) z (info_own d g.rest (verdict_of g.rest))
    go false q = let z : ◌≡◌ {A = ℕ} 0 1 = cc in absurd (omega arith)

map_own : (ts : List Cty) (gs : List Group) (i : ℕ) (ti : TypeInfo) → i < length (map (decl_of ts) gs) → origin_at (map (decl_of ts) gs) i ≡ imported ti
    → Among (layout_names ti.ti_layout) (dtype_names (dtype_at (map (decl_of ts) gs) i))
map_own ts [] i ti h e = absurd (omega arith)
map_own ts (g ∷ gs) zero ti h e = decl_own ts g ti e
map_own ts (g ∷ gs) (suc i) ti h e = map_own ts gs i ti (omega arith) e

pub own_imports : (ls : List Line) → OwnImports (program ls)
unfolding program
own_imports ls i ti h e = map_own (trees ls) (groups is_head ls) i ti h e
