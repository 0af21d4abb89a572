-- There is room for the normal forms of an accepted sheet: each has at most 1,024 nodes. Assumes nothing.
use Rattle.std.specs.Prelude.{◌⊎◌, ◌≡◌, refl, Bool, true, false, eqb, ltb, drop}
use Rattle.std.proofs.Common.{⊎_elim, sym, ◌∙◌, length-drop, length-take-le, eqb-true, ltb-true, ltb-false}
use Rattle.std.proofs.Math.Path.{ap, subst}
use mathlib.Core.List.{List, map}
use Prim.Native.Nat.{ℕ, zero, suc, ◌+◌, ◌*◌, ◌≤◌, ◌<◌}
use native.Mathlib.Omega.{arith}
use Rattle.std.proofs.Math.ListN.{length, get_or, length-map}
use Rattle.std.proofs.lemmas.Bool.{eqb-false}
use Rattle.sheet.specs.Format.{base}
use Rattle.sheet.specs.Line.{Line}
use Rattle.model.specs.Cty.{Cty}
use Rattle.model.specs.Decl.{close, Decl, position}
use Rattle.model.specs.Resolve.{Unfold}
use Rattle.model.specs.Run.{lay}
use Rattle.model_laws.specs.Cty.{All, all_of, all_map}
use Rattle.model_laws.specs.Resolve.{Unfolds}
use Rattle.meaning.specs.Program.{program}
use Rattle.table_declared.specs.Passed.{Passed}
use Rattle.table_access.specs.Tables.{decls_of}
use Rattle.resolve_kids.specs.Nodes.{type_of}
use Rattle.resolve_kids.specs.Params.{params_of}
use Rattle.keep_fields.specs.Keeps.{Slotted}
use Rattle.keep_layouts.specs.States.{body_of, lay_of, Open, closed, Settled}
use Rattle.form_laws.specs.Nodes.{Node, post}
use Rattle.form_laws.specs.NodesLaws.{length_post}
use Rattle.form_laws.specs.Forms.{place, renamed, nodes}
use Rattle.form_laws.specs.FormsLaws.{Formed, Form, nodes_post}
use Rattle.form_laws.specs.TableLaws.{Alike, nodes_alike}
use Rattle.form_laws.specs.BoundLaws.{program_bound}
use Rattle.form_nodes.specs.Words.{word, node_of}
use Rattle.form_node_words.specs.Own.{label}
use Rattle.form_emit.specs.Emit.{words, form_words, form_of}
use Rattle.form_normal.specs.Tables.{own_words, counts, Table}
use Rattle.form_normal.specs.RanksLaws.{unfolds_open, names_done}
use Rattle.form_normal.specs.LeftLaws.{held, Told, told_alike}
use Rattle.form_normal.specs.HeldLaws.{renamed_kept, renamed_size}
use Rattle.left_laws.specs.Lefts.{Ready}
use Rattle.form_emit.specs.Left.{left_type}
use Rattle.left_laws.specs.ReadyLaws.{unfold_cases, told_closed, Listed, listed_of, open_below, body_resolved, type_held, params_small}
use Rattle.rows_heads.specs.HeadRows.{Resolvable}
use Rattle.form_normal.specs.Ranks as ranks

-- ---- counts
-- at most 1,024 each, and one of them nothing
counts_few : (f : List ℕ) (n : ℕ) → ((e : ℕ) → e < n → get_or f (2 * e + 1) 0 ≤ 1024) → counts f n ≤ 1024 * n
unfolding counts
counts_few f zero h = omega arith
counts_few f (suc n) h = omega (arith, counts_few f n (λ e k. h e (omega arith)), h n (omega arith))

counts_but : (f : List ℕ) (d n : ℕ) → ((e : ℕ) → e < n → get_or f (2 * e + 1) 0 ≤ 1024) → get_or f (2 * d + 1) 0 ≡ 0 → d < n → counts f n + 1024 ≤ 1024 * n
unfolding counts
counts_but f d zero h z l = absurd (omega arith)
counts_but f d (suc n) h z l = go (counts_but f d n (λ e k. h e (omega arith)) z) (eqb n d) refl
  where
    other : (n ≡ d → ⊥) → d < n
    other i = omega arith

    go : (d < n → counts f n + 1024 ≤ 1024 * n) → (c : Bool) → eqb n d ≡ c → counts f n + get_or f (2 * n + 1) 0 + 1024 ≤ 1024 * suc n
    go ih true e =
        let zn : get_or f (2 * n + 1) 0 ≡ 0 = ap (λ (k : ℕ). get_or f (2 * k + 1) 0) (eqb-true n d e) ∙ z in
        omega (arith, counts_few f n (λ k q. h k (omega arith)))
    go ih false e = omega (arith, ih (other (eqb-false n d e)), h n (omega arith))

-- ---- a table that is not whole
module _ (ls : List Line) (t u rank keep : List ℕ) (ranked : ranks.Ranked ls t u rank) (settled : Settled ls u) (resolvable : Resolvable base ls) (slotted : Slotted ls keep) where
  abbrev ds : List Decl
  ds = program ls

  abbrev passed : Passed ls
  passed = ranked.tabled.passed

  abbrev listed : Listed ls u keep
  listed = listed_of ls u keep passed slotted settled

  module _ (f : List ℕ) (pos r i : ℕ) (table : Table ls u f pos (ranks.Done ls u rank r i)) where
    abbrev form : ℕ → List Node
    form = form_of ls f

    abbrev Good : ℕ → Type 0
    Good n = Formed 1024 (lay ds) (program_bound ls) (lay ds n) (form n)

    -- what is put together from a body whose names' forms are there
    body_nodes : (d : ℕ) → Open u d → All Good (type_of ls (body_of u d))
        → nodes (lay_of ls u) form (params_of ls d) (place (params_of ls d)) (type_of ls (body_of u d)) ≡ post (renamed (place (params_of ls d)) (left_type ls d (body_of u d)))
    body_nodes d o g =
        nodes_alike (lay_of ls u) (lay ds) form form (params_of ls d) (place (params_of ls d)) (type_of ls (body_of u d))
        (all_of (λ n. Alike (lay_of ls u n) (lay ds n) (form n) (form n))
        (λ n. told_alike (lay_of ls u n) (lay ds n) (form n) (subst (λ (l : Unfold). Told (lay_of ls u n) l) (sym (settled.names n)) (told_closed (lay_of ls u n)))) (type_of ls (body_of u d)))
        ∙ nodes_post 1024 (lay ds) (program_bound ls) (params_of ls d) (place (params_of ls d)) form 100 (type_of ls (body_of u d)) (left_type ls d (body_of u d)) g
        (body_resolved ls u keep passed settled resolvable listed d o).answers

    form_made : (d : ℕ) → Open u d → ranks.Done ls u rank r i d → All Good (type_of ls (body_of u d))
        → Form 1024 (lay ds) (program_bound ls) (params_of ls d) (close (params_of ls d) (type_of ls (body_of u d))) (map node_of (form_words f d))
    unfolding words label held
    form_made d o done g =
        let v = body_resolved ls u keep passed settled resolvable listed d o in
        record {
          fuel = 100;
          type = left_type ls d (body_of u d);
          answers = v.answers;
          are =
              ap (map node_of) (table.right d done)
              ∙ (ap (λ (xs : List Node). map node_of (map word xs)) (body_nodes d o g)
              ∙ renamed_kept (place (params_of ls d)) (params_small ls u keep passed settled resolvable listed d) (left_type ls d (body_of u d)) (type_held ls u keep passed settled resolvable listed d (body_of u d)) v.small);
        }

    -- an unfolded name of a lower rank than one that is done
    lower_done : (d m : ℕ) → ranks.Done ls u rank r i d → Open u m → get_or rank m 0 < get_or rank d 0 → ranks.Done ls u rank r i m
    lower_done d m v o h = (open_below ls u keep passed settled resolvable listed m o, o, omega (arith, v.2), λ e. absurd (omega (arith, v.2)))

    -- by rank
    forms_good : (k n : ℕ) → (Unfolds (lay_of ls u n) → ranks.Done ls u rank r i (position ds n)) → (Unfolds (lay_of ls u n) → get_or rank (position ds n) 0 < k) → Good n
    unfolding closed
    forms_good zero n p q =
        subst (λ (l : Unfold). Formed 1024 (lay ds) (program_bound ls) l (form n)) (sym (settled.names n))
        (unfold_cases (λ l. (Unfolds l → get_or rank (position ds n) 0 < 0) → Formed 1024 (lay ds) (program_bound ls) (closed l) (form n)) ls u (position ds n) (λ e w. tt) (λ e w. absurd (none (w tt))) (λ e w. absurd (none (w tt))) (λ w. tt) q)
      where
        none : get_or rank (position ds n) 0 < 0 → ⊥
        none h = omega arith
    forms_good (suc k) n p q =
        subst (λ (l : Unfold). Formed 1024 (lay ds) (program_bound ls) l (form n)) (sym (settled.names n))
        (unfold_cases (λ l. (Unfolds l → ranks.Done ls u rank r i (position ds n)) → (Unfolds l → get_or rank (position ds n) 0 < suc k) → Formed 1024 (lay ds) (program_bound ls) (closed l) (form n)) ls u (position ds n) (λ e v w. tt)
        (λ e v w. one (omega arith, omega arith) (v tt) (w tt) (forms_good k)) (λ e v w. one (omega arith, omega arith) (v tt) (w tt) (forms_good k)) (λ v w. tt) p q)
      where
        one : Open u (position ds n) → ranks.Done ls u rank r i (position ds n) → get_or rank (position ds n) 0 < suc k
            → ((m : ℕ) → (Unfolds (lay_of ls u m) → ranks.Done ls u rank r i (position ds m)) → (Unfolds (lay_of ls u m) → get_or rank (position ds m) 0 < k) → Good m)
            → Form 1024 (lay ds) (program_bound ls) (params_of ls (position ds n)) (close (params_of ls (position ds n)) (type_of ls (body_of u (position ds n)))) (form n)
        one o v w ih =
            form_made (position ds n) o v
            (all_map (λ m. Unfolds (lay_of ls u m) → get_or rank (position ds m) 0 < get_or rank (position ds n) 0) Good
            (λ m x. ih m (λ y. lower_done (position ds n) (position ds m) v (unfolds_open ls u (position ds m) y) (x y)) (λ y. less (position ds m) (x y))) (type_of ls (body_of u (position ds n))) (ranked.lower (position ds n) v.0 o))
          where
            less : (m : ℕ) → get_or rank m 0 < get_or rank (position ds n) 0 → get_or rank m 0 < k
            less m h = omega arith

    -- the names of a body at this rank or below
    names_good : (d : ℕ) → d < decls_of ls → Open u d → get_or rank d 0 ≤ r → All Good (type_of ls (body_of u d))
    names_good d l o q =
        all_map (λ m. Unfolds (lay_of ls u m) → ranks.Done ls u rank r i (position ds m)) Good
        (λ m x. forms_good (suc r) m x (λ y. few (get_or rank (position ds m) 0) (x y).2)) (type_of ls (body_of u d)) (names_done ls t u rank ranked r i d l o q)
      where
        few : (x : ℕ) → x ≤ r → x < suc r
        few x h = omega arith

    pub own_few : (d : ℕ) → d < decls_of ls → Open u d → get_or rank d 0 ≤ r → length (own_words ls u f d) ≤ 1024
    unfolding words label
    own_few d l o q =
        let R : Cty = left_type ls d (body_of u d) in
        let e = ap length (body_nodes d o (names_good d l o q)) ∙ length_post (renamed (place (params_of ls d)) R) in
        omega (arith, length-map (nodes (lay_of ls u) form (params_of ls d) (place (params_of ls d)) (type_of ls (body_of u d))) word, e, renamed_size (place (params_of ls d)) (params_small ls u keep passed settled resolvable listed d) R, (body_resolved ls u keep passed settled resolvable listed d o).small)

    -- and so each count
    count_few : (d : ℕ) → d < decls_of ls → get_or f (2 * d + 1) 0 ≤ 1024
    count_few d l = ⊎_elim done (λ z. omega (arith, z)) (table.fresh d l)
      where
        done : ranks.Done ls u rank r i d → get_or f (2 * d + 1) 0 ≤ 1024
        done h =
            let e : length (form_words f d) ≡ get_or f (2 * d + 1) 0 = length-take-le (get_or f (2 * d + 1) 0) (drop (get_or f (2 * d) 0) f) (rw length-drop (omega (arith, table.cells d l, table.room))) in
            omega (arith, e, ap length (table.right d h), own_few d l h.1 h.2)

  -- 1,024 words for each form, and two cells
  pub never_short : (sc room : ℕ) → 1024 ≤ sc → 1026 * decls_of ls ≤ room → ranks.Short ls u rank sc room → ⊥
  never_short sc room p q x =
      let k : length (own_words ls u x.list x.decl) ≤ 1024 = own_few x.list x.place x.level x.decl x.table x.decl x.below x.unfolded (omega (arith, x.of_level)) in
      let z : get_or x.list (2 * x.decl + 1) 0 ≡ 0 = ⊎_elim (λ h. absurd (never x.decl (h.3 x.of_level))) (λ e. e) (x.table.fresh x.decl x.below) in
      ⊎_elim (λ h. omega arith)
      (λ h. omega (arith, x.table.used, counts_but x.list x.decl (decls_of ls) (count_few x.list x.place x.level x.decl x.table) z x.below))
      x.fits
    where
      never : (d : ℕ) → d < d → ⊥
      never d h = omega arith

  -- so the forms are there
  pub formed_ready : (f₀ f : List ℕ) (e : ℕ) → 1026 * decls_of ls ≤ length f₀ → ranks.Formed ls u rank 1024 f₀ f e → Ready ls t u f keep
  formed_ready f₀ f e q x =
      let l : e ≤ length f₀ = within (ltb (length f₀) e) refl in
      record { tabled = ranked.tabled; settled = settled; slotted = slotted; resolvable = resolvable; place = e; forms = x.table l }
    where
      within : (c : Bool) → ltb (length f₀) e ≡ c → e ≤ length f₀
      within true y = absurd (never_short 1024 (length f₀) (omega arith) q (x.short (ltb-true (length f₀) e y)))
      within false y = ltb-false (length f₀) e y
