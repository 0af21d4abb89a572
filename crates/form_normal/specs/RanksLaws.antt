-- One declaration after the other, rank by rank. Assumes nothing.
use Rattle.std.specs.Prelude.{◌⊎◌, ◌≡◌, refl, List, Bool, true, false, ℕ, ◌+◌, ◌*◌, ◌≤◌, ◌<◌, eqb, length, get_or, set}
use Rattle.std.proofs.Common.{inl, inr, ⊎_elim, ap, sym, ◌∙◌, subst, arith, get_or-set_same, get_or-set_other, eqb-true}
use Rattle.std.proofs.lemmas.Bool.{eqb-false}
use Rattle.number_columns.specs.Column.{pick}
use Rattle.sheet.specs.Line.{Line}
use Rattle.model.specs.Decl.{position}
use Rattle.meaning.specs.Program.{program}
use Rattle.model.specs.Resolve.{gone, newtype, abbreviation, stays}
use Rattle.model_laws.specs.Cty.{all_map}
use Rattle.model_laws.specs.Resolve.{Unfolds}
use Rattle.table_access.specs.Tables.{decls_of}
use Rattle.resolve_kids.specs.Nodes.{type_of}
use Rattle.resolve_kids.specs.Params.{params_of}
use Rattle.keep_layouts.specs.States.{body_of, unfold_at, lay_of, Open}
use Rattle.form_emit.specs.Emit.{Asked}
use Rattle.form_emit.specs.CodeLaws.{state_below}
use Rattle.form_normal.specs.Tables.{own_words, with_form, Names, Table, Added}
use Rattle.form_normal.specs.TablesLaws.{table_more}
use Rattle.form_normal.specs.Ranks.{Ranked, Done, Short, Reached, Formed}

-- the same is done
pub table_same : (ls : List Line) (u f : List ℕ) (pos : ℕ) (P Q : ℕ → Type 0) → ((d : ℕ) → Q d → P d) → ((d : ℕ) → P d → Q d) → Table ls u f pos P → Table ls u f pos Q
table_same ls u f pos P Q g k t =
    record {
      head = t.head;
      room = t.room;
      cells = t.cells;
      above = λ d q. t.above d (g d q);
      right = λ d q. t.right d (g d q);
      used = t.used;
      fresh = λ d l. ⊎_elim (λ p. inl (k d p)) (λ z. inr z) (t.fresh d l);
    }

-- a name that is unfolded is that of an unfolded declaration
pub unfolds_open : (ls : List Line) (u : List ℕ) (d : ℕ) → Unfolds (unfold_at ls u d) → Open u d
unfolding unfold_at
unfolds_open ls u d h = go (get_or u (2 * d) 3) refl (eqb (get_or u (2 * d) 3) 0) refl (eqb (get_or u (2 * d) 3) 1) refl (eqb (get_or u (2 * d) 3) 2) refl h
  where
    go : (x : ℕ) → get_or u (2 * d) 3 ≡ x → (x0 : Bool) → eqb (get_or u (2 * d) 3) 0 ≡ x0 → (x1 : Bool) → eqb (get_or u (2 * d) 3) 1 ≡ x1 → (x2 : Bool) → eqb (get_or u (2 * d) 3) 2 ≡ x2
        → Unfolds (pick x0 gone (pick x1 (newtype (params_of ls d) (type_of ls (get_or u (2 * d + 1) 0))) (pick x2 (abbreviation (params_of ls d) (type_of ls (get_or u (2 * d + 1) 0))) stays))) → Open u d
    go x e true e0 x1 e1 x2 e2 k = absurd k
    go x e false e0 true e1 x2 e2 k = let z : get_or u (2 * d) 3 ≡ 1 = eqb-true (get_or u (2 * d) 3) 1 e1 in (omega arith, omega arith)
    go x e false e0 false e1 true e2 k = let z : get_or u (2 * d) 3 ≡ 2 = eqb-true (get_or u (2 * d) 3) 2 e2 in (omega arith, omega arith)
    go x e false e0 false e1 false e2 k = absurd k

module _ (ls : List Line) (t u rank : List ℕ) (ranked : Ranked ls t u rank) where
  abbrev n : ℕ
  n = decls_of ls

  open_below : (d : ℕ) → Open u d → d < n
  open_below d o = state_below u d (get_or u (2 * d) 3) n refl o.1 (omega (arith, ranked.long))

  -- the unfolded names in a body are done, at a rank that is not below its own
  pub names_done : (r i d : ℕ) → d < n → Open u d → get_or rank d 0 ≤ r → Names ls u (Done ls u rank r i) d
  names_done r i d l o q =
      all_map (λ m. Unfolds (lay_of ls u m) → get_or rank (position (program ls) m) 0 < get_or rank d 0) (λ m. Unfolds (lay_of ls u m) → Done ls u rank r i (position (program ls) m))
      (λ m k v. let o' : Open u (position (program ls) m) = unfolds_open ls u (position (program ls) m) v in (open_below (position (program ls) m) o', o', omega (arith, k v), λ e. absurd (omega (arith, k v)))) (type_of ls (body_of u d)) (ranked.lower d l o)

  pub asked_body : (f : List ℕ) (pos : ℕ) (P : ℕ → Type 0) (d : ℕ) → Table ls u f pos P → d < n → Open u d → Asked ls t u f (body_of u d) d
  asked_body f pos P d t l o =
      record {
        tabled = ranked.tabled;
        states = omega (arith, ranked.long);
        forms = record { cells = omega (arith, t.head, t.room); inside = λ e q. omega (arith, t.cells e q, t.room) };
        type = ranked.bodies d l o;
        decl = l;
      }

  module _ (r d : ℕ) (l : d < n) where
    -- a declaration that is not of this rank, or not unfolded
    pub reached_same : (f : List ℕ) (pos scratch : ℕ) → (Open u d → get_or rank d 0 ≡ r → ⊥) → Table ls u f pos (Done ls u rank r d) → Reached ls u rank r (d + 1) scratch f f pos
    reached_same f pos scratch other t =
        record {
          same = refl;
          table = λ q. table_same ls u f pos (Done ls u rank r d) (Done ls u rank r (d + 1)) (λ e h. (h.0, h.1, h.2, λ z. below e (h.3 z) (λ y. other (subst (Open u) y h.1) (subst (λ (j : ℕ). get_or rank j 0 ≡ r) y z)))) (λ e h. (h.0, h.1, h.2, λ z. omega (arith, h.3 z))) t;
          short = λ q. absurd (omega (arith, t.room));
        }
      where
        below : (e : ℕ) → e < d + 1 → (e ≡ d → ⊥) → e < d
        below e h ne = omega arith

    -- one that is
    pub reached_more : (f f' : List ℕ) (pos scratch e : ℕ) → Open u d → get_or rank d 0 ≡ r → Table ls u f pos (Done ls u rank r d) → Added (own_words ls u f d) scratch d pos f f' e → Reached ls u rank r (d + 1) scratch f f' e
    reached_more f f' pos scratch e o q t x =
        record {
          same = x.long;
          table = λ k. let z = x.room k in
              subst (λ (g : List ℕ). Table ls u g e (Done ls u rank r (d + 1))) (sym z.1)
              (subst (λ (j : ℕ). Table ls u (with_form f d pos (own_words ls u f d)) j (Done ls u rank r (d + 1))) (sym z.0)
              (table_same ls u (with_form f d pos (own_words ls u f d)) (pos + length (own_words ls u f d)) (λ i. Done ls u rank r d i ⊎ (i ≡ d)) (Done ls u rank r (d + 1)) (λ i h. split i h (eqb i d) refl) (λ i h. joined i h)
              (table_more ls u f pos (Done ls u rank r d) t d l (λ h. absurd (never (h.3 q))) (λ i h. (h.0, names_done r d i h.0 h.1 h.2)) (names_done r d d l o (omega (arith, q))) (omega (arith, z.0, k)))));
          short = λ k. record { level = r; decl = d; list = f; place = pos; below = l; unfolded = o; of_level = q; table = t; fits = x.full k };
        }
      where
        here : Done ls u rank r (d + 1) d
        here = (l, o, omega (arith, q), λ z. omega arith)

        joined : (i : ℕ) → Done ls u rank r d i ⊎ (i ≡ d) → Done ls u rank r (d + 1) i
        joined i (inl h) = (h.0, h.1, h.2, λ z. omega (arith, h.3 z))
        joined i (inr z) = subst (λ (j : ℕ). Done ls u rank r (d + 1) j) (sym z) here

        never : d < d → ⊥
        never h = omega arith

        split : (i : ℕ) → Done ls u rank r (d + 1) i → (c : Bool) → eqb i d ≡ c → Done ls u rank r d i ⊎ (i ≡ d)
        split i h true z = inr (eqb-true i d z)
        split i h false z = inl (h.0, h.1, h.2, λ y. omega (arith, h.3 y, eqb-false i d z))

  -- ---- loops
  -- what was reached on the way
  pub reached_stop : (r i j k sc sc₀ : ℕ) (f₀ g g' : List ℕ) (e : ℕ) → length g ≡ length f₀ → sc ≡ sc₀ → length f₀ < e → Reached ls u rank r i sc g g' e → Reached ls u rank j k sc₀ f₀ g' e
  reached_stop r i j k sc sc₀ f₀ g g' e l m q x =
      record {
        same = x.same ∙ l;
        table = λ z. absurd (omega arith);
        short = λ z. subst (λ (y : ℕ). Short ls u rank y (length f₀)) m (subst (λ (y : ℕ). Short ls u rank sc y) l (x.short (omega (arith, l))));
      }

  pub reached_done : (r i sc : ℕ) (f₀ f : List ℕ) (p : ℕ) → length f ≡ length f₀ → Table ls u f p (Done ls u rank r i) → Reached ls u rank r i sc f₀ f p
  reached_done r i sc f₀ f p l t = record { same = l; table = λ z. t; short = λ z. absurd (omega (arith, t.room, l)) }

  -- the next rank
  pub next_rank : (r : ℕ) (f : List ℕ) (p : ℕ) → Table ls u f p (Done ls u rank r n) → Table ls u f p (Done ls u rank (r + 1) 0)
  next_rank r f p t =
      table_same ls u f p (Done ls u rank r n) (Done ls u rank (r + 1) 0) (λ e h. (h.0, h.1, lower_rank (get_or rank e 0) h.2 (λ z. none e (h.3 z)), λ z. h.0)) (λ e h. (h.0, h.1, omega (arith, h.2), λ z. absurd (over (get_or rank e 0) h.2 z))) t
    where
      over : (x : ℕ) → x ≤ r → x ≡ r + 1 → ⊥
      over x h z = omega arith

      none : (e : ℕ) → e < 0 → ⊥
      none e h = omega arith

      lower_rank : (x : ℕ) → x ≤ r + 1 → (x ≡ r + 1 → ⊥) → x ≤ r
      lower_rank x h ne = omega arith

  -- nothing is done
  pub first_table : (f : List ℕ) → 2 * n ≤ length f → ((i : ℕ) → i < 2 * n → get_or f i 0 ≡ 0) → Table ls u f (2 * n) (Done ls u rank 0 0)
  first_table f h z =
      record {
        head = omega arith;
        room = h;
        cells = λ d l. omega (arith, z (2 * d) (omega arith), z (2 * d + 1) (omega arith));
        above = λ d k. absurd (none d (k.3 (zeroth (get_or rank d 0) k.2)));
        right = λ d k. absurd (none d (k.3 (zeroth (get_or rank d 0) k.2)));
        used = omega arith;
        fresh = λ d l. inr (z (2 * d + 1) (omega arith));
      }
    where
      none : (e : ℕ) → e < 0 → ⊥
      none e k = omega arith

      zeroth : (x : ℕ) → x ≤ 0 → x ≡ 0
      zeroth x k = omega arith

  -- every rank is done
  pub formed_done : (sc : ℕ) (f₀ f : List ℕ) (r p : ℕ) → n ≤ r → length f ≡ length f₀ → Table ls u f p (Done ls u rank r 0) → Formed ls u rank sc f₀ f p
  formed_done sc f₀ f r p q l t =
      record {
        same = l;
        table = λ z. table_same ls u f p (Done ls u rank r 0) (λ d. (d < n) × Open u d) (λ d h. (h.0, h.1, omega (arith, ranked.few d h.0 h.1), λ e. absurd (omega (arith, ranked.few d h.0 h.1)))) (λ d h. (h.0, h.1)) t;
        short = λ z. absurd (omega (arith, t.room, l));
      }

  pub formed_stop : (r i sc sc₀ : ℕ) (f₀ g g' : List ℕ) (e : ℕ) → length g ≡ length f₀ → sc ≡ sc₀ → length f₀ < e → Reached ls u rank r i sc g g' e → Formed ls u rank sc₀ f₀ g' e
  formed_stop r i sc sc₀ f₀ g g' e l m q x =
      let y = reached_stop r i r i sc sc₀ f₀ g g' e l m q x in
      record { same = y.same; table = λ z. absurd (omega arith); short = y.short }

-- one zero more
pub zeros_more : (f : List ℕ) (i : ℕ) → i < length f → ((j : ℕ) → j < i → get_or f j 0 ≡ 0) → (j : ℕ) → j < i + 1 → get_or (set f i 0) j 0 ≡ 0
zeros_more f i h z j k = go (eqb j i) refl
  where
    go : (c : Bool) → eqb j i ≡ c → get_or (set f i 0) j 0 ≡ 0
    go true e = ap (λ (m : ℕ). get_or (set f i 0) m 0) (eqb-true j i e) ∙ get_or-set_same f i 0 0 h
    go false e = get_or-set_other f i j 0 0 (eqb-false j i e) ∙ z j (omega (arith, eqb-false j i e))
