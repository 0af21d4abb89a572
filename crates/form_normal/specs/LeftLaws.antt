-- What the table of normal forms and the emission give, in the terms of the source: where the states say what becomes of each
-- name, every form is what its body resolves to, and the words of a Y line's type are the nodes of what it resolves to.
-- Assumes nothing.
use Rattle.std.specs.Prelude.{◌≡◌, Bool, true, false, eqb, length, get_or}
use Rattle.std.proofs.Math.Path.{refl, ap, ap₂, subst}
use Rattle.std.proofs.Common.{◌∙◌, arith, eqb-true}
use mathlib.Core.List.{List, map}
use Prim.Native.Nat.{ℕ, ◌+◌, ◌*◌, ◌≤◌, ◌<◌}
use Rattle.number_columns.specs.Column.{pick}
use Rattle.sheet.specs.Line.{Line}
use Rattle.model.specs.Cty.{Cty}
use Rattle.model.specs.Decl.{Decl, position, close}
use Rattle.meaning.specs.Program.{program}
use Rattle.model.specs.Resolve.{Unfold, gone, newtype, abbreviation, stays, ok, resolve_checked}
use Rattle.model_laws.specs.Cty.{all_of}
use Rattle.model.specs.Run.{lay}
use Rattle.table_access.specs.Tables.{decls_of}
use Rattle.resolve_kids.specs.Nodes.{type_of}
use Rattle.resolve_kids.specs.Params.{params_of}
use Rattle.form_laws.specs.Nodes.{Node, post}
use Rattle.form_laws.specs.Forms.{place, renamed, nodes}
use Rattle.form_laws.specs.FormsLaws.{Formed, nodes_post, nodes_left}
use Rattle.form_laws.specs.TableLaws.{MadeOf, Made, forms_are, Alike, nodes_alike}
use Rattle.form_laws.specs.BoundLaws.{program_bound}
use Rattle.form_nodes.specs.Words.{word, node_of}
use Rattle.form_node_words.specs.Own.{label}
use Rattle.keep_layouts.specs.States.{body_of, unfold_at, lay_of, Open}
use Rattle.form_emit.specs.Emit.{form_words, form_of, words}
use Rattle.form_emit.specs.CodeLaws.{state_below}
use Rattle.form_normal.specs.Tables.{Table}
use Rattle.model_laws.specs.Resolve as resolve

-- how nodes are held: as words
unfoldable pub held : List Node → List Node
held xs = map node_of (map word xs)

-- a state, and what becomes of the name: the body is closed there
abbrev pub Told : Unfold → Unfold → Type 0
Told gone gone = Unit {0}
Told gone (newtype qs d) = ⊥
Told gone (abbreviation qs d) = ⊥
Told gone stays = ⊥
Told (newtype ps c) gone = ⊥
Told (newtype ps c) (newtype qs d) = (ps ≡ qs) × (close ps c ≡ d)
Told (newtype ps c) (abbreviation qs d) = ⊥
Told (newtype ps c) stays = ⊥
Told (abbreviation ps c) gone = ⊥
Told (abbreviation ps c) (newtype qs d) = ⊥
Told (abbreviation ps c) (abbreviation qs d) = (ps ≡ qs) × (close ps c ≡ d)
Told (abbreviation ps c) stays = ⊥
Told stays gone = ⊥
Told stays (newtype qs d) = ⊥
Told stays (abbreviation qs d) = ⊥
Told stays stays = Unit {0}

pub told_alike : (l m : Unfold) (xs : List Node) → Told l m → Alike l m xs xs
told_alike gone gone xs h = tt
told_alike gone (newtype qs d) xs h = absurd h
told_alike gone (abbreviation qs d) xs h = absurd h
told_alike gone stays xs h = absurd h
told_alike (newtype ps c) gone xs h = absurd h
told_alike (newtype ps c) (newtype qs d) xs h = (ap length h.0, refl)
told_alike (newtype ps c) (abbreviation qs d) xs h = absurd h
told_alike (newtype ps c) stays xs h = absurd h
told_alike (abbreviation ps c) gone xs h = absurd h
told_alike (abbreviation ps c) (newtype qs d) xs h = absurd h
told_alike (abbreviation ps c) (abbreviation qs d) xs h = (ap length h.0, refl)
told_alike (abbreviation ps c) stays xs h = absurd h
told_alike stays gone xs h = absurd h
told_alike stays (newtype qs d) xs h = absurd h
told_alike stays (abbreviation qs d) xs h = absurd h
told_alike stays stays xs h = tt

-- the parameters and the body of an unfolded declaration
pub record Body (ls : List Line) (u : List ℕ) (d : ℕ) (ps : List ℕ) (c : Cty) : Type 0 where
  pub unfolded : Open u d
  pub params : params_of ls d ≡ ps
  pub type : type_of ls (body_of u d) ≡ c

abbrev BodyOf : List Line → List ℕ → ℕ → Unfold → Type 0
BodyOf ls u d gone = Unit {0}
BodyOf ls u d (newtype ps c) = Body ls u d ps c
BodyOf ls u d (abbreviation ps c) = Body ls u d ps c
BodyOf ls u d stays = Unit {0}

body_at : (ls : List Line) (u : List ℕ) (d : ℕ) → BodyOf ls u d (unfold_at ls u d)
unfolding unfold_at
body_at ls u d = go (eqb (get_or u (2 * d) 3) 0) (eqb (get_or u (2 * d) 3) 1) refl (eqb (get_or u (2 * d) 3) 2) refl
  where
    go : (x0 x1 : Bool) → eqb (get_or u (2 * d) 3) 1 ≡ x1 → (x2 : Bool) → eqb (get_or u (2 * d) 3) 2 ≡ x2
        → BodyOf ls u d (pick x0 gone (pick x1 (newtype (params_of ls d) (type_of ls (get_or u (2 * d + 1) 0))) (pick x2 (abbreviation (params_of ls d) (type_of ls (get_or u (2 * d + 1) 0))) stays)))
    go true x1 e1 x2 e2 = tt
    go false true e1 x2 e2 =
        let z : get_or u (2 * d) 3 ≡ 1 = eqb-true (get_or u (2 * d) 3) 1 e1 in
        record { unfolded = (omega arith, omega arith); params = refl; type = refl }
    go false false e1 true e2 =
        let z : get_or u (2 * d) 3 ≡ 2 = eqb-true (get_or u (2 * d) 3) 2 e2 in
        record { unfolded = (omega arith, omega arith); params = refl; type = refl }
    go false false e1 false e2 = tt

module _ (limit : ℕ) (ls : List Line) (u f : List ℕ) (pos : ℕ) (states : length u ≤ 2 * decls_of ls) (table : Table ls u f pos (λ d. (d < decls_of ls) × Open u d))
    (told : (n : ℕ) → Told (lay_of ls u n) (lay (program ls) n)) where
  abbrev ds : List Decl
  ds = program ls

  abbrev form : ℕ → List Node
  form = form_of ls f

  same_nodes : (ps : List ℕ) (ρ : ℕ → ℕ) (c : Cty) → nodes (lay_of ls u) form ps ρ c ≡ nodes (lay ds) form ps ρ c
  same_nodes ps ρ c =
      nodes_alike (lay_of ls u) (lay ds) form form ps ρ c
      (all_of (λ n. Alike (lay_of ls u n) (lay ds n) (form n) (form n)) (λ n. told_alike (lay_of ls u n) (lay ds n) (form n) (told n)) c)

  -- what a body resolves to, which words hold
  pub record Answered (ps : List ℕ) (c : Cty) : Type 0 where
    pub fuel : ℕ
    pub type : Cty
    pub answers : resolve_checked limit (lay ds) fuel c ≡ ok type
    pub kept : held (post (renamed (place ps) type)) ≡ post (renamed (place ps) type)

  abbrev pub AnsweredOf : Unfold → Type 0
  AnsweredOf gone = Unit {0}
  AnsweredOf (newtype ps c) = Answered ps c
  AnsweredOf (abbreviation ps c) = Answered ps c
  AnsweredOf stays = Unit {0}

  module _ (rank : ℕ → ℕ) (ranked : resolve.Ranked (lay ds) rank) (answered : (n : ℕ) → AnsweredOf (lay ds n)) where
    made_one : (n : ℕ) (ps qs : List ℕ) (c d : Cty) → Body ls u (position ds n) ps c → (ps ≡ qs) × (close ps c ≡ d) → Answered qs d → Made limit (lay ds) (program_bound ls) form held qs d (form n)
    unfolding label words held
    made_one n ps qs c d y h a =
        let i : ℕ = position ds n in
        let l : i < decls_of ls = state_below u i (get_or u (2 * i) 3) (decls_of ls) refl y.unfolded.1 states in
        let e : form_words f i ≡ map word (nodes (lay_of ls u) form (params_of ls i) (place (params_of ls i)) (type_of ls (body_of u i))) = table.right i (l, y.unfolded) in
        let p : params_of ls i ≡ qs = y.params ∙ h.0 in
        record {
          source = c;
          closed = subst (λ (x : List ℕ). close x c ≡ d) h.0 h.1;
          fuel = a.fuel;
          type = a.type;
          answers = a.answers;
          kept = a.kept;
          are =
              ap (map node_of) e
              ∙ ap₂ (λ (x : List ℕ) (t : Cty). map node_of (map word (nodes (lay_of ls u) form x (place x) t))) p y.type
              ∙ ap (λ (xs : List Node). map node_of (map word xs)) (same_nodes qs (place qs) c);
        }

    made : (n : ℕ) → MadeOf limit (lay ds) (program_bound ls) form held (lay ds n) (form n)
    made n = go (lay_of ls u n) (lay ds n) (body_at ls u (position ds n)) (told n) (answered n)
      where
        go : (l m : Unfold) → BodyOf ls u (position ds n) l → Told l m → AnsweredOf m → MadeOf limit (lay ds) (program_bound ls) form held m (form n)
        go gone gone y h a = tt
        go gone (newtype qs d) y h a = absurd h
        go gone (abbreviation qs d) y h a = absurd h
        go gone stays y h a = absurd h
        go (newtype ps c) gone y h a = absurd h
        go (newtype ps c) (newtype qs d) y h a = made_one n ps qs c d y h a
        go (newtype ps c) (abbreviation qs d) y h a = absurd h
        go (newtype ps c) stays y h a = absurd h
        go (abbreviation ps c) gone y h a = absurd h
        go (abbreviation ps c) (newtype qs d) y h a = absurd h
        go (abbreviation ps c) (abbreviation qs d) y h a = made_one n ps qs c d y h a
        go (abbreviation ps c) stays y h a = absurd h
        go stays gone y h a = absurd h
        go stays (newtype qs d) y h a = absurd h
        go stays (abbreviation qs d) y h a = absurd h
        go stays stays y h a = tt

    -- every form of the table is what its body resolves to
    pub left_forms : (n : ℕ) → Formed limit (lay ds) (program_bound ls) (lay ds n) (form n)
    left_forms n = forms_are limit (lay ds) (program_bound ls) form held rank ranked made n

    -- the words of a Y line's type, told by place, are the nodes of what it resolves to with its variables as places
    pub place_words : (d y m : ℕ) (R : Cty) → resolve_checked limit (lay ds) m (close (params_of ls d) (type_of ls y)) ≡ ok R → words ls u f d true y ≡ map word (post (renamed (place (params_of ls d)) R))
    unfolding words label
    place_words d y m R e =
        ap (map word)
        (same_nodes (params_of ls d) (place (params_of ls d)) (type_of ls y)
        ∙ nodes_post limit (lay ds) (program_bound ls) (params_of ls d) (place (params_of ls d)) form m (type_of ls y) R (all_of (λ n. Formed limit (lay ds) (program_bound ls) (lay ds n) (form n)) left_forms (type_of ls y)) e)

    -- and what is emitted of a Y line's type, told by name, is the nodes of what it resolves to, as words
    pub left_words : (d y m : ℕ) (R : Cty) → resolve_checked limit (lay ds) m (close (params_of ls d) (type_of ls y)) ≡ ok R → words ls u f d false y ≡ map word (post R)
    unfolding words label
    left_words d y m R e =
        ap (map word)
        (same_nodes (params_of ls d) (λ v. v) (type_of ls y)
        ∙ nodes_left limit (lay ds) (program_bound ls) (params_of ls d) form m (type_of ls y) R (all_of (λ n. Formed limit (lay ds) (program_bound ls) (lay ds n) (form n)) left_forms (type_of ls y)) e)
