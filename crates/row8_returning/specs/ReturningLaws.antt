-- Row 8 by the cells: the steps of unfolding are the names in the bodies of unfolded declarations; and where none returns, the
-- ranks fall from a declaration to each that its body names. Assumes nothing.
use Rattle.std.specs.Prelude.{◌≡◌, Bool, set, take}
use Rattle.std.proofs.Math.Path.{refl, ap}
use Rattle.std.proofs.Common.{sym, ◌∙◌, subst, arith, length-take, get_or-take, get_or-set_same, get_or-set_other}
use mathlib.Core.List.{List, [], Memᴰ}
use Rattle.std.proofs.Math.Bool.{true, false}
use Prim.Native.Nat.{ℕ, zero, suc, ◌+◌, ◌*◌, ◌≤◌, ◌<◌}
use Rattle.std.proofs.Math.Dec.{eqb, ltb}
use Rattle.std.proofs.Math.Decide.{ℕ_discrete}
use Rattle.std.proofs.Math.ListN.{length, get_or, get_or-eq_default}
use borrow.Author.Tests.{eqb-true, eqb-false, eq-eqb, ne_eqb, lt-ltb, le-ltb, ltb-true, ltb-false}
use Rattle.number_columns.specs.Column.{pick, ◌⇒◌∥◌}
use Rattle.sheet.specs.Line.{Line}
use Rattle.sheet.proofs.FirstLaws.{first_le, first_before}
use Rattle.model.specs.Cty.{Cty, names_of_cty}
use Rattle.model.specs.Decl.{Decl, dtype_at, position, close}
use Rattle.model.specs.Layout.{positions, names_in, type_names, steps}
use Rattle.model.specs.Reach.{cyclic}
use Rattle.model.specs.Resolve.{Unfold, gone, newtype, abbreviation, stays, unfolded, unfolds, unfold_name}
use Rattle.model.specs.Run.{layouts_of, lay, unfold_next, returns}
use Rattle.model_laws.specs.Cty.{names_all, close_names}
use Rattle.model_laws.specs.Layout.{names_in_iff, unfold_below}
use Rattle.model_laws.specs.Names.{position_distinct}
use Rattle.model_laws.specs.Resolve.{Unfolds}
use Rattle.model_laws.specs.Fuel.{NoReturn, rank_of, ranked}
use Rattle.meaning.specs.Program.{type_line, program}
use Rattle.meaning.specs.Rows.{count_of}
use Rattle.meaning_laws.specs.Program.{length_program}
use Rattle.table_declared.specs.PassedLaws.{distinct_names}
use Rattle.table_declared.specs.Passed.{Passed}
use Rattle.table_access.specs.Tables.{decls_of, TableOf}
use Rattle.resolve_kids.specs.Nodes.{type_of}
use Rattle.resolve_kids.specs.Params.{params_of}
use Rattle.mention_types.specs.Mentions.{Mentioned}
use Rattle.set_search.specs.SearchLaws.{Holds, holds_steps}
use Rattle.mention_edges.specs.Edges.{Edges}
use Rattle.mention_edges.specs.EdgesLaws.{Bodies, edges_hold}
use Rattle.set_search.specs.Loops.{First}
use Rattle.set_search.specs.LoopsLaws.{first_as, ranks_fall, ranks_below}
use Rattle.resolve_laws.specs.ResolverLaws.{get_or_any}
use Rattle.keep_layouts.specs.States.{state, body_of, unfold_at, lay_of, Open, closed, Settled}
use Rattle.form_normal.specs.Ranks.{Ranked}
use Rattle.row8_returning.specs.Returning.{through, Through}
use Rattle.model_laws.specs.Resolve as resolve
use Rattle.set_search.specs.Search as search

-- ---- what becomes of declaration d
module _ (ls : List Line) (p : Passed ls) (u : List ℕ) (s : Settled ls u) where
  abbrev ds : List Decl
  ds = program ls

  -- row 8 goes on through these steps
  abbrev pub next : ℕ → List ℕ
  next = unfold_next (program ls) (layouts_of (program ls))

  -- its name is of no other declaration, so that what is told by names is told by numbers
  unfolds_at : (d : ℕ) → d < decls_of ls → get_or (unfolds ds (layouts_of ds)) d stays ≡ closed (unfold_at ls u d)
  unfolding unfold_name
  unfolds_at d h =
      let l : d < length ds = rw (length_program ls) h in
      let e : position ds (dtype_at ds d).dt_name ≡ d = position_distinct ds (distinct_names ls p) d l in
      rw e at (s.names (dtype_at ds d).dt_name)

  next_at : (d : ℕ) → d < decls_of ls → next d ≡ type_names ds (unfolded (closed (unfold_at ls u d)))
  unfolding unfold_next steps
  next_at d h = ap (λ (x : Unfold). type_names ds (unfolded x)) (unfolds_at d h)

  closed_names : (ps : List ℕ) (c : Cty) → names_in ds (close ps c) ≡ names_in ds c
  closed_names ps c = ap (positions ds) (close_names ps c)

  -- an unfolded declaration goes on to the names in its body
  open_next : (d : ℕ) → d < decls_of ls → Open u d → next d ≡ names_in ds (type_of ls (body_of u d))
  unfolding unfold_at closed unfolded type_names
  open_next d h o = next_at d h ∙ go (state u d) refl
    where
      go : (k : ℕ) → state u d ≡ k → type_names ds (unfolded (closed (unfold_at ls u d))) ≡ names_in ds (type_of ls (body_of u d))
      go zero e = absurd (omega (arith, o.0))
      go (suc zero) e = rw e (closed_names (params_of ls d) (type_of ls (body_of u d)))
      go (suc (suc zero)) e = rw e (closed_names (params_of ls d) (type_of ls (body_of u d)))
      go (suc (suc (suc k))) e = absurd (omega (arith, o.1))

  -- any other has no steps
  shut_next : (d : ℕ) → d < decls_of ls → (state u d ≡ 1 → ⊥) → (state u d ≡ 2 → ⊥) → next d ≡ []
  unfolding unfold_at closed unfolded type_names
  shut_next d h n m = next_at d h ∙ go (eqb (state u d) 0)
    where
      go : (c : Bool) → type_names ds (unfolded (closed (c ⇒ gone ∥ eqb (state u d) 1 ⇒ newtype (params_of ls d) (type_of ls (body_of u d)) ∥ eqb (state u d) 2 ⇒ abbreviation (params_of ls d) (type_of ls (body_of u d)) ∥ stays))) ≡ []
      go true = refl
      go false = rw (ne_eqb (state u d) 1 n, ne_eqb (state u d) 2 m)

  -- The search goes by the bodies that were put.
  pub bodies_hold : (bodies : List ℕ) → Through ls u (decls_of ls) bodies → Bodies ls bodies next (decls_of ls)
  bodies_hold bodies t =
      record {
        within = λ x y m. rw (length_program ls) at (unfold_below ds (layouts_of ds) x y m);
        body = λ d h. rw (t.each d h) (go d h (eqb (state u d) 1) refl (eqb (state u d) 2) refl);
      }
    where
      some : (d : ℕ) → d < decls_of ls → Open u d → next d ≡ pick (ltb (body_of u d) (count_of type_line ls)) (names_in ds (type_of ls (body_of u d))) []
      some d h o = rw (lt-ltb (body_of u d) (count_of type_line ls) (s.bodies d h o)) (open_next d h o)

      go : (d : ℕ) → d < decls_of ls → (x : Bool) → eqb (state u d) 1 ≡ x → (y : Bool) → eqb (state u d) 2 ≡ y
          → next d ≡ pick (ltb (x ⇒ body_of u d ∥ y ⇒ body_of u d ∥ count_of type_line ls) (count_of type_line ls)) (names_in ds (type_of ls (x ⇒ body_of u d ∥ y ⇒ body_of u d ∥ count_of type_line ls))) []
      go d h true e y f = let z : state u d ≡ 1 = eqb-true (state u d) 1 e in some d h (omega arith, omega arith)
      go d h false e true f = let z : state u d ≡ 2 = eqb-true (state u d) 2 f in some d h (omega arith, omega arith)
      go d h false e false f = rw (le-ltb (count_of type_line ls) (count_of type_line ls) (omega arith)) (shut_next d h (eqb-false (state u d) 1 e) (eqb-false (state u d) 2 f))

  -- ---- the search
  module _ (words types n : ℕ) (sets bodies before after : List ℕ) (limit : words ≤ 1024) (typed : types ≡ count_of type_line ls) (declared : n ≡ decls_of ls) (long : decls_of ls * words ≤ length before)
      (mentioned : Mentioned ls words sets (count_of type_line ls)) (t : Through ls u (decls_of ls) bodies)
      (edges : Edges words types sets bodies (length bodies) before after) where
    steps_hold : Holds next (decls_of ls) words after
    steps_hold =
        edges_hold ls words sets bodies before after next (decls_of ls) limit mentioned.wide long mentioned (subst (λ (k : ℕ). Edges words (count_of type_line ls) sets bodies k before after) t.long (subst (λ (k : ℕ). Edges words k sets bodies (length bodies) before after) typed edges)) (bodies_hold bodies t)

    -- the table of steps can be searched,
    pub searchable : search.Steps n words after
    searchable = subst (λ (k : ℕ). search.Steps k words after) (sym declared) (holds_steps next (decls_of ls) words after steps_hold)

    -- and what is found first in it is what returns first
    pub found : (r : ℕ) (q q' : List ℕ) → First (search.steps n words after) n r q q' → First next (decls_of ls) r q q'
    found r q q' f = go (subst (λ (k : ℕ). First (search.steps k words after) k r q q') declared f)
      where
        go : First (search.steps (decls_of ls) words after) (decls_of ls) r q q' → First next (decls_of ls) r q q'
        go g = first_as next (decls_of ls) words after steps_hold q q' r (omega (arith, g.is, first_le (cyclic (search.steps (decls_of ls) words after) (decls_of ls)) (decls_of ls))) g

-- ---- where no declaration returns
module _ (ls : List Line) (p : Passed ls) (u : List ℕ) (s : Settled ls u) (q q' : List ℕ)
    (f : First (unfold_next (program ls) (layouts_of (program ls))) (decls_of ls) (decls_of ls) q q') where
  abbrev all : List Line
  all = ls

  abbrev decls : List Decl
  decls = program ls

  below : (x y : ℕ) → Memᴰ y (next ls p u s x) → y < decls_of all
  below x y m = rw (length_program all) at (unfold_below decls (layouts_of decls) x y m)

  -- row 8 passes
  pub no_return : NoReturn decls
  unfolding returns
  no_return i h =
      let l : length decls ≡ decls_of all = length_program all in
      rw l (first_before (cyclic (next ls p u s) (decls_of all)) (decls_of all) i (omega (arith, f.is, l)))

  -- an unfolded name is declared
  unfolds_below : (i : ℕ) → Unfolds (unfold_at all u i) → i < decls_of all
  unfolding unfold_at
  unfolds_below i w = go (ltb i (decls_of all)) refl
    where
      go : (c : Bool) → ltb i (decls_of all) ≡ c → i < decls_of all
      go true e = ltb-true i (decls_of all) e
      go false e =
          let l : decls_of all ≤ i = ltb-false i (decls_of all) e in
          let z : get_or u (2 * i) 3 ≡ 3 = get_or-eq_default u 3 (omega (arith, s.long)) in
          absurd (rw z at w)

  -- The ranks serve the normal forms, in a list of as many cells as there are declarations.
  pub ranked_by : (t rank : List ℕ) → TableOf ls t → length rank ≡ decls_of all → ((d : ℕ) → d < decls_of all → get_or rank d 0 ≡ get_or q' d 0) → Ranked ls t u rank
  ranked_by t rank tabled long same =
      record {
        tabled = tabled;
        long = s.long;
        ranks = long;
        few = λ d h o. rw (same d h) (ranks_below (next ls p u s) (decls_of all) below q q' f d h);
        bodies = s.bodies;
        lower = λ d h o. names_all (λ n. Unfolds (lay_of all u n) → get_or rank (position decls n) 0 < get_or rank d 0) (type_of all (body_of u d)) (λ n m w. falls d h o n m w);
      }
    where
      falls : (d : ℕ) → d < decls_of all → Open u d → (n : ℕ) → Memᴰ n (names_of_cty (type_of all (body_of u d))) → Unfolds (lay_of all u n) → get_or rank (position decls n) 0 < get_or rank d 0
      falls d h o n m w =
          let i : position decls n < decls_of all = unfolds_below (position decls n) w in
          let k : Memᴰ (position decls n) (names_in decls (type_of all (body_of u d))) = (names_in_iff decls (type_of all (body_of u d)) (position decls n)).1 (record { name = n; named = m; placed = refl; below = rw (length_program all) i }) in
          rw (same d h, same (position decls n) i) (ranks_fall (next ls p u s) (decls_of all) below q q' f d (position decls n) h (subst (Memᴰ (position decls n)) (sym (open_next ls p u s d h o)) k))

  -- in the list that was lent, where it has no more,
  pub ranked_all : (t : List ℕ) → TableOf ls t → length q' ≡ decls_of all → Ranked ls t u q'
  ranked_all t tabled long = ranked_by t q' tabled long (λ d h. refl)

  -- or in its front.
  pub ranked_front : (t : List ℕ) → TableOf ls t → decls_of all ≤ length q' → Ranked ls t u (take (decls_of all) q')
  ranked_front t tabled long = ranked_by t (take (decls_of all) q') tabled (omega (arith, length-take (decls_of all) q')) (λ d h. get_or-take (decls_of all) q' d 0 h)

  -- The names have ranks in the terms of the source.
  pub ranked_names : resolve.Ranked (lay decls) (rank_of decls no_return)
  ranked_names = ranked decls no_return

-- ---- for the code
module _ (types : ℕ) (u : List ℕ) (d : ℕ) (h : 2 * d + 1 < length u) where
  abbrev cell : ℕ
  cell = get_or u (2 * d) 0

  state_is : state u d ≡ cell
  state_is = get_or_any u (2 * d) 3 0 (omega arith)

  pub through_newtype : get_or u (2 * d) 0 ≡ 1 → get_or u (2 * d + 1) 0 ≡ through types u d
  through_newtype e = rw (eq-eqb (state u d) 1 (state_is ∙ e))

  pub through_abbreviation : (get_or u (2 * d) 0 ≡ 1 → ⊥) → get_or u (2 * d) 0 ≡ 2 → get_or u (2 * d + 1) 0 ≡ through types u d
  through_abbreviation n e = rw (ne_eqb (state u d) 1 (λ q. n (sym state_is ∙ q)), eq-eqb (state u d) 2 (state_is ∙ e))

  pub through_none : (get_or u (2 * d) 0 ≡ 1 → ⊥) → (get_or u (2 * d) 0 ≡ 2 → ⊥) → types ≡ through types u d
  through_none n m = rw (ne_eqb (state u d) 1 (λ q. n (sym state_is ∙ q)), ne_eqb (state u d) 2 (λ q. m (sym state_is ∙ q)))

-- one body more
pub through_more : (types : ℕ) (u bodies : List ℕ) (d v : ℕ) → d < length bodies → v ≡ through types u d → ((i : ℕ) → i < d → get_or bodies i 0 ≡ through types u i)
    → (i : ℕ) → i < d + 1 → get_or (set bodies d v) i 0 ≡ through types u i
through_more types u bodies d v h e r i l = go (ℕ_discrete i d)
  where
    go : Dec (i ≡ d) → get_or (set bodies d v) i 0 ≡ through types u i
    go (yes z) = rw z (get_or-set_same bodies d v 0 h ∙ e)
    go (no z) = get_or-set_other bodies d i v 0 z ∙ r i (omega arith)

pub through_all : (ls : List Line) (types : ℕ) (u bodies : List ℕ) (d : ℕ) → types ≡ count_of type_line ls → length bodies ≡ decls_of ls → decls_of ls ≤ d
    → ((i : ℕ) → i < d → get_or bodies i 0 ≡ through types u i) → Through ls u (decls_of ls) bodies
through_all ls types u bodies d e long h r = record { long = long; each = λ i l. r i (omega arith) ∙ ap (λ (x : ℕ). through x u i) e }

-- rows of so many words fit
pub rows_fit : (x y words l : ℕ) → x ≡ y → y * words ≤ l → x * words ≤ l
rows_fit x y words l e h = rw e h
