-- The lines of what is left, declaration by declaration. Assumes nothing.
use Rattle.std.specs.Prelude.{◌≡◌, Bool, false, ℕ, zero, suc, ◌+◌, ◌-◌, ◌<◌, get_or}
use Rattle.std.proofs.Math.Path.{refl, ap}
use Rattle.std.proofs.Common.{ap₂, sym, ◌∙◌}
use mathlib.Core.List.{List, [], ◌∷◌, ◌++◌, append-nil}
use Rattle.std.proofs.Math.Bool.{true}
use Rattle.std.proofs.Math.Option.{Option, none, some}
use native.Mathlib.Omega.{arith}
use Rattle.number_columns.specs.Column.{pick}
use Rattle.sheet.specs.Line.{Line}
use Rattle.sheet.specs.Sheet.{lines}
use Rattle.sheet.proofs.ListLaws.{false_true}
use Rattle.model.specs.Decl.{Body, Dtype, dtype_at, Layout, L_erased, L_newtype, L_struct, L_abbrev, L_opaque, close_fields, table, bit}
use Rattle.model.specs.Run.{with_body, rw_decl, somes, run, left_program, lay, layout_of_decl, left_at}
use Rattle.model.specs.Resolve.{resolve, stays}
use Rattle.model_laws.specs.Run.{run_lefts}
use Rattle.model_laws.specs.Lists.{table_cong}
use Rattle.meaning.specs.Program.{program, dtype_of}
use Rattle.meaning.specs.Output.{Written, decl_lines, program_lines}
use Rattle.meaning_laws.specs.Output.{grows_args, grows_types, program_adds, program_append_written, program_append_lines}
use Rattle.meaning_laws.specs.Program.{length_program}
use Rattle.table_access.specs.Tables.{decls_of}
use Rattle.table_declared.specs.DeclLaws.{dtype_is}
use Rattle.keep_laws.specs.KeptLaws.{params_lines}
use Rattle.keep_layouts.specs.States.{state, Shape}
use Rattle.left_laws.specs.Lefts.{is_left}
use Rattle.left_laws.specs.BodyLaws.{left_body, left_is}
use Rattle.left_laws.specs.ReadyLaws.{ready_nodes, ready_asked}
use Rattle.left_places.specs.declared.Place.{Place}
use Rattle.left_places.specs.Places.{seq, Growing, Room, Writes}
use Rattle.left_places.specs.PlacesLaws.{writes_none, writes_as, room_as, room_first, room_rest, writes_seq}
use Rattle.left_decls.specs.Heads.{decl_with}
use Rattle.left_decls.specs.Decls.{left_decl, left_writing, Given}
use Rattle.left_sheet.specs.Program.{lefts_to, lefts_at, Lefts}
use Rattle.left_places.specs.Places as places

-- ---- lists
table_more : {A : Type 0} (f : ℕ → A) (m k : ℕ) → table f (m + k) ≡ table f m ++ table (λ i. f (m + i)) k
unfolding table
table_more f zero k =
    let e : 0 + k ≡ k = omega arith in
    rw e (table_cong f (λ i. f (0 + i)) k (λ i h. let z : 0 + i ≡ i = omega arith in rw z))
table_more f (suc m) k =
    let e : suc m + k ≡ suc (m + k) = omega arith in
    rw e
    (ap (λ (r : List _). f 0 ∷ r)
    (table_more (λ i. f (suc i)) m k ∙ ap (λ (r : List _). table (λ i. f (suc i)) m ++ r) (table_cong (λ i. f (suc (m + i))) (λ i. f (suc m + i)) k (λ i h. let z : suc (m + i) ≡ suc m + i = omega arith in rw z))))

somes_append : (xs ys : List (Option Dtype)) → somes (xs ++ ys) ≡ somes xs ++ somes ys
unfolding somes
somes_append [] ys = refl
somes_append (none ∷ xs) ys = somes_append xs ys
somes_append (some d ∷ xs) ys = ap (λ (r : List Dtype). d ∷ r) (somes_append xs ys)

-- ---- one after the other
pub growing_program : (ds : List Dtype) → Growing (program_lines ds)
growing_program ds w = (grows_args (program_adds ds w).grows, grows_types (program_adds ds w).grows)

program_parts : (ds es : List Dtype) (w : Written) → seq (program_lines ds) (program_lines es) w ≡ program_lines (ds ++ es) w
program_parts ds es w = ap₂ (λ (a : Written) (l : List Line). record { written = a; lines = l }) (sym (program_append_written ds es w)) (sym (program_append_lines ds es w))

program_one : (d : Dtype) (w : Written) → decl_lines d d.dt_body w ≡ program_lines (d ∷ []) w
unfolding program_lines
program_one d w = ap (λ (l : List Line). record { written = (decl_lines d d.dt_body w).written; lines = l }) (sym (append-nil (decl_lines d d.dt_body w).lines))

module _ (ls : List Line) (p q : Place) (out mid : List ℕ) where
  abbrev rest_of : ℕ → ℕ → List Dtype
  rest_of m k = somes (table (λ i. left_at 100 (program ls) (m + i)) k)

  lefts_more : (m k : ℕ) → lefts_to ls (m + k) ≡ lefts_to ls m ++ rest_of m k
  lefts_more m k = ap somes (table_more (left_at 100 (program ls)) m k) ∙ somes_append (table (left_at 100 (program ls)) m) (table (λ i. left_at 100 (program ls) (m + i)) k)

  runs : (m k : ℕ) (w : Written) → seq (program_lines (lefts_to ls m)) (program_lines (rest_of m k)) w ≡ program_lines (lefts_to ls (m + k)) w
  runs m k w = program_parts (lefts_to ls m) (rest_of m k) w ∙ ap (λ (ds : List Dtype). program_lines ds w) (sym (lefts_more m k))

  one_of : (m : ℕ) → rest_of m 1 ≡ lefts_at ls m
  unfolding table
  one_of m = let e : m + 0 ≡ m = omega arith in rw e

  runs_one : (m : ℕ) (w : Written) → seq (program_lines (lefts_to ls m)) (program_lines (lefts_at ls m)) w ≡ program_lines (lefts_to ls (m + 1)) w
  runs_one m w = rw (one_of m) at (runs m 1 w)

  pub lefts_room : (m n : ℕ) → m < n → Room (program_lines (lefts_to ls n)) p out → Writes (program_lines (lefts_to ls m)) p q out mid → Room (program_lines (lefts_at ls m)) q mid
  lefts_room m n h r a =
      let e : m + 1 + (n - (m + 1)) ≡ n = omega arith in
      let y : Room (program_lines (lefts_to ls (m + 1 + (n - (m + 1))))) p out = rw e r in
      let s : Room (program_lines (lefts_to ls (m + 1))) p out =
      room_first (program_lines (lefts_to ls (m + 1))) (program_lines (rest_of (m + 1) (n - (m + 1)))) (growing_program (rest_of (m + 1) (n - (m + 1)))) p q out mid
      (room_as (program_lines (lefts_to ls (m + 1 + (n - (m + 1))))) (seq (program_lines (lefts_to ls (m + 1))) (program_lines (rest_of (m + 1) (n - (m + 1))))) (λ w. sym (runs (m + 1) (n - (m + 1)) w)) p out y) in
      room_rest (program_lines (lefts_to ls m)) (program_lines (lefts_at ls m)) (growing_program (lefts_at ls m)) p q out mid
      (room_as (program_lines (lefts_to ls (m + 1))) (seq (program_lines (lefts_to ls m)) (program_lines (lefts_at ls m))) (λ w. sym (runs_one m w)) p out s) a

  pub lefts_writes : (m : ℕ) (s : Place) (out' : List ℕ) → Writes (program_lines (lefts_to ls m)) p q out mid → Writes (program_lines (lefts_at ls m)) q s mid out' → Writes (program_lines (lefts_to ls (m + 1))) p s out out'
  lefts_writes m s out' a h =
      writes_as (seq (program_lines (lefts_to ls m)) (program_lines (lefts_at ls m))) (program_lines (lefts_to ls (m + 1))) (runs_one m) p s out out'
      (writes_seq (program_lines (lefts_to ls m)) (program_lines (lefts_at ls m)) (growing_program (lefts_at ls m)) p q out mid s out' a h)

pub lefts_start : (ls : List Line) (p : Place) (out : List ℕ) → Writes (program_lines (lefts_to ls 0)) p p out out
unfolding table somes program_lines
lefts_start ls p out = writes_none p out

-- all of them
pub lefts_all : (ls : List Line) → left_program (run 100 (program ls)) ≡ lefts_to ls (decls_of ls)
lefts_all ls = ap somes (run_lefts 100 (program ls) ∙ ap (table (left_at 100 (program ls))) (length_program ls))

-- ---- one declaration
module _ (ls : List Line) (t u f keep left : List ℕ) (n : ℕ) (g : Lefts ls t u f keep left n) (d : ℕ) (h : d < decls_of ls) where
  abbrev what : Option Dtype
  what = left_at 100 (program ls) d

  -- none is left
  pub at_none : get_or left d 0 ≡ 0 → lefts_at ls d ≡ []
  unfolding is_left somes
  at_none e = go what (sym e ∙ g.flagged.flags d h)
    where
      go : (o : Option Dtype) → 0 ≡ bit (is_left o) → somes (o ∷ []) ≡ []
      go none q = refl
      go (some D) q = absurd (omega arith)

  -- one is left
  pub at_some : (get_or left d 0 ≡ 0 → ⊥) → is_left what ≡ true
  at_some e = go (is_left what) refl
    where
      go : (c : Bool) → is_left what ≡ c → is_left what ≡ true
      go true q = q
      go false q = absurd (e (g.flagged.flags d h ∙ ap bit q))

  module _ (l : is_left what ≡ true) where
    head_is : (bd : Body) → with_body (dtype_at (program ls) d) bd ≡ decl_with ls d bd
    unfolding close_fields dtype_of
    head_is bd = rw (dtype_is ls d h, params_lines ls d h)

    what_is : what ≡ some (left_decl ls u keep d)
    what_is =
        let e = left_is ls u keep g.ready.tabled.passed g.ready.slotted g.ready.settled d h in
        e ∙ (ap (λ (c : Bool). pick c (some (with_body (dtype_at (program ls) d) (left_body ls u keep d))) none) l ∙ ap some (head_is (left_body ls u keep d)))

    one_left : lefts_at ls d ≡ left_decl ls u keep d ∷ []
    unfolding somes
    one_left = ap (λ (o : Option Dtype). somes (o ∷ [])) what_is

    pub left_writes : (w : Written) → left_writing ls u keep d w ≡ program_lines (lefts_at ls d) w
    left_writes w = program_one (left_decl ls u keep d) w ∙ ap (λ (ds : List Dtype). program_lines ds w) (sym one_left)

    not_gone : state u d ≡ 0 → ⊥
    unfolding left_at rw_decl is_left
    not_gone e = go (layout_of_decl (program ls) d) (g.ready.settled.shapes d h) l
      where
        go : (y : Layout) → Shape ls u d y → is_left (rw_decl (resolve (lay (program ls)) 100) (dtype_at (program ls) d) y) ≡ true → ⊥
        go L_erased s q = false_true q
        go (L_newtype nt) s q = omega (arith, s.0)
        go (L_struct cls) s q = omega (arith, s.0)
        go (L_abbrev c) s q = omega (arith, s.0)
        go L_opaque s q = omega (arith, s.0)

    pub given_of : Given ls t u f keep d n
    given_of =
        record {
          tabled = g.ready.tabled;
          decl = h;
          states = g.ready.settled.long;
          long = g.long;
          stays = not_gone;
          types = λ y m. record { asked = ready_asked ls t u f keep g.ready d y h m; nodes = ready_nodes ls t u f keep g.ready d y h m; small = g.fit d y h l m };
        }

    pub at_room : (p : Place) (out : List ℕ) → Room (program_lines (lefts_at ls d)) p out → Room (left_writing ls u keep d) p out
    at_room p out r = room_as (program_lines (lefts_at ls d)) (left_writing ls u keep d) (λ w. sym (left_writes w)) p out r

    pub at_writes : (p r : Place) (out out' : List ℕ) → Writes (left_writing ls u keep d) p r out out' → Writes (program_lines (lefts_at ls d)) p r out out'
    at_writes p r out out' a = writes_as (left_writing ls u keep d) (program_lines (lefts_at ls d)) left_writes p r out out' a

  pub at_nothing : get_or left d 0 ≡ 0 → (p : Place) (out : List ℕ) → Writes (program_lines (lefts_at ls d)) p p out out
  unfolding program_lines
  at_nothing e p out = rw (at_none e) (writes_none p out)

pub lefts_again : (ls : List Line) (t u f keep left : List ℕ) (n m : ℕ) → m ≡ n → Lefts ls t u f keep left n → Lefts ls t u f keep left m
lefts_again ls t u f keep left n m e g = rw e g
