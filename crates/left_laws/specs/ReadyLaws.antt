-- What is known where no row that looks at no output applies: the words of a type that is resolved are the nodes of what it
-- resolves to, and they are few. Assumes nothing.
use Rattle.std.specs.Prelude.{◌≡◌, Bool, ℕ, zero, suc, ◌+◌, ◌-◌, ◌*◌, ◌≤◌, ◌<◌, length}
use Rattle.std.proofs.Math.Path.{refl, ap, subst}
use Rattle.std.proofs.Common.{sym, ◌∙◌}
use mathlib.Core.List.{List, [], ◌∷◌, map, Memᴰ}
use Rattle.std.proofs.Math.Bool.{true, false}
use native.Mathlib.Omega.{arith}
use Rattle.std.proofs.Math.Dec.{eqb}
use Rattle.std.proofs.lemmas.List.{length-map}
use borrow.Author.Tests.{eqb-true, eq-eqb, ne_eqb}
use Rattle.number_columns.specs.Column.{pick}
use Rattle.sheet.specs.Format.{base}
use Rattle.sheet.specs.Line.{Line}
use Rattle.sheet.proofs.ListLaws.{Every, every_mem}
use Rattle.model.specs.Cty.{Cty, size}
use Rattle.model.specs.Decl.{close, Decl, position, Layout, L_erased, L_newtype, L_struct, L_abbrev, L_opaque}
use Rattle.model.specs.Resolve.{Unfold, gone, newtype, abbreviation, stays}
use Rattle.model.specs.Run.{lay, layout_of_decl, resolves}
use Rattle.model_laws.specs.Resolve.{Resolved}
use Rattle.meaning.specs.Program.{program, type_line, param_line}
use Rattle.meaning.specs.Rows.{count_of}
use Rattle.meaning_laws.specs.Program.{length_program}
use Rattle.model_laws.specs.Fuel.{rank_of, ranked}
use Rattle.row4_limits.specs.Limits.{start}
use Rattle.table_declared.specs.Passed.{Passed}
use Rattle.table_access.specs.Tables.{decls_of, first_of}
use Rattle.resolve_kids.specs.Nodes.{type_of}
use Rattle.resolve_kids.specs.Params.{params_of, params_from}
use Rattle.resolve_kids.specs.ParamsLaws.{count_before_le}
use Rattle.keep_fields.specs.Keeps.{Slotted}
use Rattle.keep_layouts.specs.Kept.{body_kind}
use Rattle.keep_layouts.specs.States.{state, body_of, unfold_at, lay_of, Open, closed, Shape, resolves_of, Settled}
use Rattle.keep_laws.specs.StatesLaws.{resolves_are, resolves_below}
use Rattle.form_laws.specs.Nodes.{post}
use Rattle.form_laws.specs.NodesLaws.{length_post}
use Rattle.form_laws.specs.Forms.{place, renamed}
use Rattle.form_nodes.specs.Words.{word, node_of}
use Rattle.form_emit.specs.Emit.{words, form_words, Asked}
use Rattle.form_emit.specs.CodeLaws.{state_below}
use Rattle.meaning_laws.specs.Numbers.{UnfoldNumbers, close_numbers, resolve_numbers}
use Rattle.table_declared.specs.PassedLaws.{params_few}
use Rattle.form_normal.specs.LeftLaws.{held, Told, Answered, AnsweredOf, left_words, place_words}
use Rattle.form_normal.specs.HeldLaws.{Sign, Own, Held, post_held, renamed_kept}
use Rattle.left_laws.specs.Lefts.{Ready}
use Rattle.form_emit.specs.Left.{left_type}
use Rattle.left_laws.specs.NumbersLaws.{types_held}
use Rattle.rows_heads.specs.HeadRows.{Resolvable}

-- ---- what becomes of a name, by cases
pub unfold_cases : (P : Unfold → Type 0) (ls : List Line) (u : List ℕ) (d : ℕ) → (state u d ≡ 0 → P gone) → (state u d ≡ 1 → P (newtype (params_of ls d) (type_of ls (body_of u d))))
    → (state u d ≡ 2 → P (abbreviation (params_of ls d) (type_of ls (body_of u d)))) → P stays → P (unfold_at ls u d)
unfolding unfold_at
unfold_cases P ls u d p0 p1 p2 p3 = go (eqb (state u d) 0) refl (eqb (state u d) 1) refl (eqb (state u d) 2) refl
  where
    go : (x0 : Bool) → eqb (state u d) 0 ≡ x0 → (x1 : Bool) → eqb (state u d) 1 ≡ x1 → (x2 : Bool) → eqb (state u d) 2 ≡ x2
        → P (pick x0 gone (pick x1 (newtype (params_of ls d) (type_of ls (body_of u d))) (pick x2 (abbreviation (params_of ls d) (type_of ls (body_of u d))) stays)))
    go true e0 x1 e1 x2 e2 = p0 (eqb-true (state u d) 0 e0)
    go false e0 true e1 x2 e2 = p1 (eqb-true (state u d) 1 e1)
    go false e0 false e1 true e2 = p2 (eqb-true (state u d) 2 e2)
    go false e0 false e1 false e2 = p3

pub told_closed : (l : Unfold) → Told l (closed l)
unfolding closed
told_closed gone = tt
told_closed (newtype ps c) = (refl, refl)
told_closed (abbreviation ps c) = (refl, refl)
told_closed stays = tt

unmap : {A B : Type 0} (P : B → Type 0) (g : A → B) (xs : List A) → Every P (map g xs) → Every (λ x. P (g x)) xs
unmap P g [] h = tt
unmap P g (x ∷ xs) h = (h.0, unmap P g xs h.1)

-- a parameter's place is below their number, or the number
pub place_le : (ps : List ℕ) (v : ℕ) → place ps v ≤ length ps
unfolding place
place_le [] v = omega arith
place_le (p ∷ ps) v = go (eqb p v) (place_le ps v)
  where
    go : (c : Bool) → place ps v ≤ length ps → pick c 0 (suc (place ps v)) ≤ suc (length ps)
    go true h = omega arith
    go false h = omega arith

length_params : (ls : List Line) (p n : ℕ) → length (params_from ls p n) ≡ n
unfolding params_from
length_params ls p zero = refl
length_params ls p (suc n) = ap suc (length_params ls (suc p) n)

-- what declarations resolve, by their Y lines
pub record Listed (ls : List Line) (u keep : List ℕ) : Type 0 where
  pub are : (d : ℕ) → d < decls_of ls → map (λ y. close (params_of ls d) (type_of ls y)) (resolves_of ls u keep d) ≡ resolves (layout_of_decl (program ls) d)
  pub below : (d y : ℕ) → d < decls_of ls → Memᴰ y (resolves_of ls u keep d) → y < count_of type_line ls

pub listed_of : (ls : List Line) (u keep : List ℕ) → Passed ls → Slotted ls keep → Settled ls u → Listed ls u keep
listed_of ls u keep p k s = record { are = resolves_are ls p u keep k s; below = λ d y h m. resolves_below ls p u keep s d h y m }

-- ---- what is accepted resolves
module _ (ls : List Line) (u keep : List ℕ) (passed : Passed ls) (settled : Settled ls u) (resolvable : Resolvable base ls) (listed : Listed ls u keep) where
  abbrev ds : List Decl
  ds = program ls

  abbrev body_type : ℕ → ℕ → Cty
  body_type d y = close (params_of ls d) (type_of ls y)

  pub type_resolved : (d y : ℕ) → d < decls_of ls → Memᴰ y (resolves_of ls u keep d) → Resolved 1024 (lay ds) 100 (body_type d y)
  type_resolved d y h m =
      every_mem (λ z. Resolved 1024 (lay ds) 100 (body_type d z)) (resolves_of ls u keep d)
      (unmap (Resolved 1024 (lay ds) 100) (λ z. body_type d z) (resolves_of ls u keep d)
      (subst (Every (Resolved 1024 (lay ds) 100)) (sym (listed.are d h))
      (resolvable.resolved d (omega (arith, length_program ls)))))
      y m

  -- the body of an unfolded declaration is among what it resolves
  pub body_listed : (d : ℕ) → d < decls_of ls → Open u d → Memᴰ (body_of u d) (resolves_of ls u keep d)
  unfolding resolves_of
  body_listed d h o = go (layout_of_decl ds d) (settled.shapes d h)
    where
      go : (l : Layout) → Shape ls u d l → Memᴰ (body_of u d) (resolves_of ls u keep d)
      go L_erased s = absurd (omega arith)
      go (L_newtype nt) s =
          rw (ne_eqb (state u d) 0 (λ e. omega arith), eq-eqb (state u d) 1 s.0) (Memᴰ.head refl)
      go (L_struct cls) s = absurd (omega (arith, s.0))
      go (L_abbrev c) s =
          let x : state u d ≡ 2 = omega (arith, s.0) in
          rw (ne_eqb (state u d) 0 (λ e. omega arith), ne_eqb (state u d) 1 (λ e. omega arith), ne_eqb (body_kind ls d) 0 (λ e. omega (arith, s.2)), eq-eqb (body_kind ls d) 1 s.2)
          (Memᴰ.head (s.3 x))
      go L_opaque s = absurd (omega (arith, s.0))

  pub open_below : (d : ℕ) → Open u d → d < decls_of ls
  open_below d o = state_below u d (state u d) (decls_of ls) refl o.1 (omega (arith, settled.long))

  pub body_resolved : (d : ℕ) → Open u d → Resolved 1024 (lay ds) 100 (body_type d (body_of u d))
  body_resolved d o = let h : d < decls_of ls = open_below d o in type_resolved d (body_of u d) h (body_listed d h o)

  -- ---- numbers
  lay_held : (n : ℕ) → UnfoldNumbers Sign Own (lay ds n)
  unfolding closed
  lay_held n =
      subst (UnfoldNumbers Sign Own) (sym (settled.names n))
      (unfold_cases (λ l. UnfoldNumbers Sign Own (closed l)) ls u (position ds n) (λ e. tt)
      (λ e. close_numbers Sign Own (params_of ls (position ds n)) (type_of ls (body_of u (position ds n))) (types_held ls passed (body_of u (position ds n))))
      (λ e. close_numbers Sign Own (params_of ls (position ds n)) (type_of ls (body_of u (position ds n))) (types_held ls passed (body_of u (position ds n)))) tt)

  pub type_held : (d y : ℕ) → Held (left_type ls d y)
  type_held d y = resolve_numbers Sign Own (lay ds) lay_held 100 (body_type d y) (close_numbers Sign Own (params_of ls d) (type_of ls y) (types_held ls passed y))

  pub params_small : (d v : ℕ) → place (params_of ls d) v < 4294967296
  params_small d v = omega (arith, place_le (params_of ls d) v, length_params ls (first_of param_line ls d) (first_of param_line ls (d + 1) - first_of param_line ls d), count_before_le param_line ls (start ls (d + 1)), params_few ls passed)

-- ---- the words of what is left
module _ (ls : List Line) (t u f keep : List ℕ) (ready : Ready ls t u f keep) where
  abbrev listed : Listed ls u keep
  listed = listed_of ls u keep ready.tabled.passed ready.slotted ready.settled

  abbrev passed' : Passed ls
  passed' = ready.tabled.passed

  states_few : length u ≤ 2 * decls_of ls
  states_few = omega (arith, ready.settled.long)

  told : (n : ℕ) → Told (lay_of ls u n) (lay (program ls) n)
  told n = subst (Told (lay_of ls u n)) (sym (ready.settled.names n)) (told_closed (lay_of ls u n))

  form_kept : (d : ℕ) → Open u d
      → held (post (renamed (place (params_of ls d)) (left_type ls d (body_of u d)))) ≡ post (renamed (place (params_of ls d)) (left_type ls d (body_of u d)))
  form_kept d o =
      renamed_kept (place (params_of ls d)) (params_small ls u keep passed' ready.settled ready.resolvable listed d) (left_type ls d (body_of u d))
      (type_held ls u keep passed' ready.settled ready.resolvable listed d (body_of u d)) (body_resolved ls u keep passed' ready.settled ready.resolvable listed d o).small

  answered_body : (d : ℕ) → Open u d
      → Answered 1024 ls u f ready.place states_few ready.forms told (params_of ls d) (close (params_of ls d) (type_of ls (body_of u d)))
  answered_body d o =
      record {
        fuel = 100;
        type = left_type ls d (body_of u d);
        answers = (body_resolved ls u keep passed' ready.settled ready.resolvable listed d o).answers;
        kept = form_kept d o;
      }

  answers : (n : ℕ) → AnsweredOf 1024 ls u f ready.place states_few ready.forms told (lay (program ls) n)
  unfolding closed
  answers n =
      subst (λ (l : Unfold). AnsweredOf 1024 ls u f ready.place states_few ready.forms told l) (sym (ready.settled.names n))
      (unfold_cases (λ l. AnsweredOf 1024 ls u f ready.place states_few ready.forms told (closed l)) ls u (position (program ls) n) (λ e. tt)
      (λ e. answered_body (position (program ls) n) (omega arith, omega arith)) (λ e. answered_body (position (program ls) n) (omega arith, omega arith)) tt)

  -- the normal form of an unfolded declaration
  pub ready_form : (d : ℕ) → Open u d → form_words f d ≡ map word (post (renamed (place (params_of ls d)) (left_type ls d (body_of u d))))
  ready_form d o =
      ready.forms.right d (open_below ls u keep passed' ready.settled ready.resolvable listed d o, o)
      ∙ place_words 1024 ls u f ready.place states_few ready.forms told
      (rank_of (program ls) ready.resolvable.no_return)
      (ranked (program ls) ready.resolvable.no_return)
      answers d (body_of u d) 100 (left_type ls d (body_of u d)) (body_resolved ls u keep passed' ready.settled ready.resolvable listed d o).answers

  pub ready_form_nodes : (d : ℕ) → Open u d → map node_of (form_words f d) ≡ post (renamed (place (params_of ls d)) (left_type ls d (body_of u d)))
  unfolding held
  ready_form_nodes d o = ap (map node_of) (ready_form d o) ∙ form_kept d o

  module _ (d y : ℕ) (h : d < decls_of ls) (m : Memᴰ y (resolves_of ls u keep d)) where
    pub ready_words : words ls u f d false y ≡ map word (post (left_type ls d y))
    ready_words =
        left_words 1024 ls u f ready.place states_few ready.forms told
        (rank_of (program ls) ready.resolvable.no_return)
        (ranked (program ls) ready.resolvable.no_return)
        answers d y 100 (left_type ls d y) (type_resolved ls u keep passed' ready.settled ready.resolvable listed d y h m).answers

    pub ready_size : size (left_type ls d y) ≤ 1024
    ready_size = (type_resolved ls u keep passed' ready.settled ready.resolvable listed d y h m).small

    pub ready_nodes : map node_of (words ls u f d false y) ≡ post (left_type ls d y)
    unfolding held
    ready_nodes =
        ap (map node_of) ready_words
        ∙ post_held (left_type ls d y) (type_held ls u keep passed' ready.settled ready.resolvable listed d y) ready_size

    pub ready_length : length (words ls u f d false y) ≡ size (left_type ls d y)
    ready_length = ap length ready_words ∙ (length-map (post (left_type ls d y)) word ∙ length_post (left_type ls d y))

    pub ready_asked : Asked ls t u f y d
    ready_asked =
        record {
          tabled = ready.tabled;
          states = states_few;
          forms = record { cells = omega (arith, ready.forms.head, ready.forms.room); inside = λ e q. omega (arith, ready.forms.cells e q, ready.forms.room) };
          type = listed.below d y h m;
          decl = h;
        }
