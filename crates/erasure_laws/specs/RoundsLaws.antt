-- The marks of types and the places of declarations, where one declaration more is erased; and rounds. Assumes nothing.
use Rattle.std.proofs.Math.Path.{◌≡◌, refl, ap, sym}
use Rattle.std.proofs.Common.{◌∙◌, inr, ⊎_elim, length-set, get_or-set_same, eqb-true, eq-eqb, ne_eqb}
use mathlib.Core.List.{List, [], ◌∷◌, map}
use Rattle.std.specs.Prelude.{Bool, ◌&&◌, eqb, get_or, set}
use Rattle.std.proofs.Math.Bool.{true, false}
use Prim.Native.Nat.{ℕ, zero, suc, ◌+◌, ◌-◌, ◌≤◌, ◌<◌}
use native.Mathlib.Omega.{arith}
use Rattle.std.proofs.Math.ListN.{length}
use Rattle.std.proofs.lemmas.List.{length-map}
use Rattle.std.proofs.Math.Seq.{get_or-set_other, set-get_or}
use Rattle.std.proofs.lemmas.Bool.{eqb-false}
use Rattle.sheet.specs.Line.{Line}
use Rattle.sheet.proofs.ListLaws.{contrary}
use Rattle.model.specs.Cty.{TUnit}
use Rattle.model.specs.Decl.{origin_at, here, imported, position, bit}
use Rattle.model.specs.Erasure.{is_pure, cty_erased, marked, rule_of, rule, update, sweep, same, Settled, settle, start_of, start, round}
use Rattle.meaning.specs.Program.{name_line, type_line, import_line, is, trees, program}
use Rattle.meaning.specs.Rows.{count_of}
use Rattle.model_laws.specs.Lists.{trues, true_of}
use Rattle.model_laws.specs.Rounds.{At, Le, cases_eq, trues_le, same_eq, same_refl, Sound}
use Rattle.model_laws.specs.Erasure.{cty_erased_mono, rule_mono, start_at}
use Rattle.row5_ranges.specs.TypeLists.{types_of}
use Rattle.table_declared.specs.Passed.{Passed}
use Rattle.table_access.specs.Tables.{nth, head_line, decls_of}
use Rattle.table_declared.specs.TypeLaws.{good_arrow, good_tuple, good_inline, good_type_at}
use Rattle.table_declared.specs.DeclLaws.{origin_import}
use Rattle.erasure_marks.specs.Marks.{part, arg_of, marks_of, type_erased}
use Rattle.erasure_marks.specs.MarksLaws.{arg_is, bit_zero, marks_at, erased_unit, erased_arrow, erased_app, erased_inline, erased_other, tuple_same}
use Rattle.erasure_laws.specs.Bodies.{field_type, State}
use Rattle.erasure_laws.specs.Rounds.{Running, Still, Stands, Updated}

-- ---- how many marks there are
pub marks_few : (ls : List Line) (decl : List ℕ) → length decl ≡ decls_of ls → trues (marks_of decl) ≤ decls_of ls
marks_few ls decl e = omega (arith, trues_le (marks_of decl), length-map decl (λ x. eqb x 1))

-- ---- more marks
-- what is erased stays so
pub type_mono : (ls : List Line) (m n : List Bool) → Le m n → (y : ℕ) → type_erased ls m y ≡ true → type_erased ls n y ≡ true
unfolding type_erased marked
type_mono ls m n l y e =
    true_of (cty_erased (marked (program ls) n) (get_or (trees ls) y TUnit))
    (cty_erased_mono (marked (program ls) m) (marked (program ls) n) (get_or (trees ls) y TUnit) (λ k _. l (position (program ls) k)) (rw e tt))

-- ---- types below the first that names a declaration
module _ (ls : List Line) (p : Passed ls) (m n : List Bool) where
  -- a type is erased alike where its children and its name are
  same_type : (y : ℕ) → y < count_of type_line ls → ((a : ℕ) → a < y → type_erased ls n a ≡ type_erased ls m a)
      → (part ls y 0 ≡ 8 → marked (program ls) n (part ls y 1) ≡ marked (program ls) m (part ls y 1))
      → type_erased ls n y ≡ type_erased ls m y
  same_type y h f g = go (eqb k 0) (eqb k 7) (eqb k 8) (eqb k 9) (eqb k 12) refl refl refl refl refl
    where
      k : ℕ
      k = part ls y 0

      go : (u v w x z : Bool) → eqb k 0 ≡ u → eqb k 7 ≡ v → eqb k 8 ≡ w → eqb k 9 ≡ x → eqb k 12 ≡ z → type_erased ls n y ≡ type_erased ls m y
      go true v w x z u' v' w' x' z' = let e = eqb-true k 0 u' in erased_unit ls p n y h e ∙ sym (erased_unit ls p m y h e)
      go false true w x z u' v' w' x' z' =
          let e = eqb-true k 7 v' in
          let l = (good_arrow (count_of name_line ls) (types_of ls) y (nth type_line ls y) (good_type_at ls p y h) e).2 in
          erased_arrow ls p n y h e ∙ ap (λ (q : Bool). is_pure (part ls y 2) && q) (f (part ls y 3) l) ∙ sym (erased_arrow ls p m y h e)
      go false false true x z u' v' w' x' z' = let e = eqb-true k 8 w' in erased_app ls p n y h e ∙ g e ∙ sym (erased_app ls p m y h e)
      go false false false true z u' v' w' x' z' =
          let e = eqb-true k 9 x' in
          tuple_same ls p m n y h e
          (λ j l. f (arg_of ls (part ls y 1 + j))
          (rw (arg_is ls (part ls y 1 + j)) at (good_tuple (count_of name_line ls) (types_of ls) y (nth type_line ls y) (good_type_at ls p y h) e j l).1))
      go false false false false true u' v' w' x' z' =
          let e = eqb-true k 12 z' in
          let l = good_inline (count_of name_line ls) (types_of ls) y (nth type_line ls y) (good_type_at ls p y h) e in
          erased_inline ls p n y h e ∙ f (part ls y 1) l ∙ sym (erased_inline ls p m y h e)
      go false false false false false u' v' w' x' z' =
          erased_other ls p n y h (eqb-false k 0 u') (eqb-false k 7 v') (eqb-false k 8 w') (eqb-false k 9 x') (eqb-false k 12 z')
          ∙ sym (erased_other ls p m y h (eqb-false k 0 u') (eqb-false k 7 v') (eqb-false k 8 w') (eqb-false k 9 x') (eqb-false k 12 z'))

  -- and so are all types below the first that names the one declaration whose mark differs
  same_below : (u : ℕ) → u ≤ count_of type_line ls → ((y : ℕ) → y < u → part ls y 0 ≡ 8 → marked (program ls) n (part ls y 1) ≡ marked (program ls) m (part ls y 1))
      → (y : ℕ) → y < u → type_erased ls n y ≡ type_erased ls m y
  same_below zero w f y l = absurd (omega arith)
  same_below (suc u) w f y l =
      cases_eq y u
      (λ q. rw q (same_type u w (same_below u (omega arith) (λ z k. f z (omega arith))) (f u (omega arith))))
      (λ q. same_below u (omega arith) (λ z k. f z (omega arith)) y (omega arith))

-- ---- one mark more
map_set : {A B : Type 0} (f : A → B) (l : List A) (i : ℕ) (a : A) → map f (set l i a) ≡ set (map f l) i (f a)
map_set f [] i a = refl
map_set f (x ∷ l) zero a = refl
map_set f (x ∷ l) (suc i) a = ap (λ r. f x ∷ r) (map_set f l i a)

le_set : (m : List Bool) (d : ℕ) → d < length m → Le m (set m d true)
le_set m d h i a = cases_eq i d (λ q. rw (q, get_or-set_same m d true false h) tt) (λ q. rw (get_or-set_other m d i true false q) a)

trues_set : (m : List Bool) (d : ℕ) → d < length m → get_or m d false ≡ false → trues (set m d true) ≡ trues m + 1
unfolding trues
trues_set [] d h e = absurd (omega arith)
trues_set (x ∷ m) zero h e = rw e (omega arith)
trues_set (x ∷ m) (suc d) h e = rw (trues_set m d (omega arith) e) (omega arith)

-- ---- a declaration in a round
module _ (ls : List Line) (p : Passed ls) (used decl node member field wait : List ℕ) (right d : ℕ) (R : Running ls used decl node member field wait right) (h : d < decls_of ls) where
  m : List Bool
  m = marks_of decl

  inside : d < length (marks_of decl)
  inside = rw (length-map decl (λ x. eqb x 1)) (omega (arith, R.state.decl_size))

  -- nothing changes
  pub updated_still : rule (program ls) (marks_of decl) d ≡ get_or (marks_of decl) d false → Updated ls used decl decl node member field wait d (record { erased = 0; right = right })
  unfolding update
  updated_still e = record { running = R; marks = sym (ap (set (marks_of decl) d) e ∙ set-get_or (marks_of decl) d false); counted = omega arith; still = λ _. refl }

  -- the mark of a declaration
  pub mark_set : get_or decl d 0 ≡ 1 → get_or (marks_of decl) d false ≡ true
  mark_set e = marks_at decl d ∙ eq-eqb (get_or decl d 0) 1 e

  pub mark_unset : (get_or decl d 0 ≡ 1 → ⊥) → get_or (marks_of decl) d false ≡ false
  mark_unset e = marks_at decl d ∙ ne_eqb (get_or decl d 0) 1 e

  -- an erased declaration stays erased
  pub stays_erased : get_or decl d 0 ≡ 1 → Updated ls used decl decl node member field wait d (record { erased = 0; right = right })
  stays_erased e =
      let q = mark_set e in
      updated_still (true_of (rule (program ls) (marks_of decl) d) (R.sound d (rw q tt)) ∙ sym q)

  -- one that waits for a kept type is kept
  pub stays_waiting : (get_or decl d 0 ≡ 1 → ⊥) → get_or wait d 0 < right → get_or node (get_or wait d 0) 0 ≡ 0 → Updated ls used decl decl node member field wait d (record { erased = 0; right = right })
  stays_waiting n l e =
      let y : ℕ = get_or wait d 0 in
      let s = R.state in
      let v : type_erased ls (marks_of decl) y ≡ false = bit_zero (get_or node y 0) (type_erased ls (marks_of decl) y) (s.marks.right y l) e in
      updated_still (s.places.waits d h (omega (arith, s.marks.low)) (marks_of decl) v ∙ sym (mark_unset n))

  -- an import has its verdict
  pub stays_import : (get_or decl d 0 ≡ 1 → ⊥) → is import_line (head_line ls d) ≡ true → Updated ls used decl decl node member field wait d (record { erased = 0; right = right })
  unfolding rule rule_of start_of
  stays_import n e = updated_still (go (origin_at (program ls) d) refl ∙ sym (mark_unset n))
    where
      go : (o : _) → origin_at (program ls) d ≡ o → rule (program ls) (marks_of decl) d ≡ false
      go here q = let z : ◌≡◌ {A = ℕ} 0 1 = cc (origin_import ls d h e) in absurd (omega arith)
      go (imported ti) q = verdict ti.ti_erased refl
        where
          verdict : (v : Bool) → ti.ti_erased ≡ v → rule (program ls) (marks_of decl) d ≡ false
          verdict true w =
              let a : At (start (program ls)) d = rw (start_at (program ls) d, q, w) tt in
              contrary (get_or (marks_of decl) d false) (true_of (get_or (marks_of decl) d false) (R.above d a)) (mark_unset n)
          verdict false w = rw q w

  -- so it stays as it is where a round passes it
  pub stays : Still ls decl node wait d right → Updated ls used decl decl node member field wait d (record { erased = 0; right = right })
  stays = ⊎_elim stays_erased (⊎_elim (λ w. stays_waiting w.0 w.1 w.2) (λ w. stays_import w.0 w.1))

  -- one that the rules erase becomes erased
  module _ (low : ℕ) (lo : low ≤ right) (lu : low ≤ get_or used d 0) (n : get_or decl d 0 ≡ 1 → ⊥) (e : rule (program ls) (marks_of decl) d ≡ true) where
    more : List Bool
    more = set (marks_of decl) d true

    marks_more : marks_of (set decl d 1) ≡ set (marks_of decl) d true
    marks_more = map_set (λ x. eqb x 1) decl d 1

    up : Le (marks_of decl) (set (marks_of decl) d true)
    up = le_set (marks_of decl) d inside

    same_low : (y : ℕ) → y < low → type_erased ls (set (marks_of decl) d true) y ≡ type_erased ls (marks_of decl) y
    unfolding marked
    same_low =
        same_below ls p (marks_of decl) (set (marks_of decl) d true) low (omega (arith, R.state.marks.low))
        (λ y l k. get_or-set_other (marks_of decl) d (position (program ls) (part ls y 1)) true false (λ q. R.uses.none d h y (omega arith) (omega (arith, R.state.marks.low)) k q))

    state_more : State ls (set decl d 1) node member field wait low
    state_more =
        let s = R.state in
        let k = s.marks in
        let q = s.places in
        record {
          decl_size = length-set decl d 1 ∙ s.decl_size;
          marks =
              rw marks_more
              (record {
                node_size = k.node_size;
                member_size = k.member_size;
                low = omega (arith, k.low);
                right = λ y l. k.right y (omega arith) ∙ ap bit (sym (same_low y l));
                placed = λ y l z. let w = k.placed y l z in record { within = w.within; erased = λ j i. type_mono ls (marks_of decl) (set (marks_of decl) d true) up (arg_of ls (part ls y 1 + j)) (w.erased j i) };
              });
          places =
              rw marks_more
              (record {
                field_size = q.field_size;
                wait_size = q.wait_size;
                within = q.within;
                passed = λ i l f a c. type_mono ls (marks_of decl) (set (marks_of decl) d true) up (field_type ls f) (q.passed i l f a c);
                waits = q.waits;
              });
        }

    sound_more : Sound (rule (program ls)) (set (marks_of decl) d true)
    sound_more i a =
        rule_mono (program ls) (marks_of decl) (set (marks_of decl) d true) up i
        (cases_eq i d (λ q. rw (q, e) tt) (λ q. R.sound i (rw (get_or-set_other (marks_of decl) d i true false q) at a)))

    pub updated_erased : Updated ls used decl (set decl d 1) node member field wait d (record { erased = 1; right = low })
    unfolding update
    updated_erased =
        record {
          running = record { state = state_more; uses = R.uses; sound = rw marks_more sound_more; above = rw marks_more (λ i a. up i (R.above i a)) };
          marks = marks_more ∙ ap (set (marks_of decl) d) (sym e);
          counted = ap trues marks_more ∙ trues_set (marks_of decl) d inside (mark_unset n);
          still = λ z. absurd (omega arith);
        }

-- ---- whether a round passes it
module _ (ls : List Line) (decl node wait : List ℕ) (d right : ℕ) where
  pub stands_still : Still ls decl node wait d right → Stands ls decl node wait d right true
  stands_still w = record { still = λ _. w; unset = λ e. contrary true refl e; local = λ e. contrary true refl e }

  pub stands_import : (r : Bool) → (get_or decl d 0 ≡ 1 → ⊥) → r ≡ is import_line (head_line ls d) → Stands ls decl node wait d right r
  stands_import r n q = record { still = λ e. inr (inr (n, sym q ∙ e)); unset = λ _. n; local = λ e. sym q ∙ e }

-- the same with what a declaration's ruling leaves
pub running_with : (ls : List Line) (used decl node member field wait node' member' field' wait' : List ℕ) (right right' : ℕ) → Running ls used decl node member field wait right → State ls decl node' member' field' wait' right'
    → Running ls used decl node' member' field' wait' right'
running_with ls used decl node member field wait node' member' field' wait' right right' R s = record { state = s; uses = R.uses; sound = R.sound; above = R.above }

-- ---- a round
-- what a round gives: the end, or the rounds after it and one more
abbrev ended : Bool → List Bool → Settled → Settled
ended c m u = elim c [ true ↦ record { marks = m; rounds = 1 } | false ↦ record { marks = u.marks; rounds = suc u.rounds } ]

module _ (r : List Bool → ℕ → Bool) where
  pub sweep_next : (n d : ℕ) (m : List Bool) → d < n → sweep r (n - d) d m ≡ sweep r (n - (d + 1)) (d + 1) (update r m d)
  unfolding sweep
  sweep_next n d m h = let e : n - d ≡ suc (n - (d + 1)) = omega arith in let q : d + 1 ≡ suc d = omega arith in rw (e, q)

  pub sweep_end : (n d : ℕ) (m : List Bool) → n ≤ d → sweep r (n - d) d m ≡ m
  unfolding sweep
  sweep_end n d m h = let e : n - d ≡ 0 = omega arith in rw e

  pub sweep_begin : (n : ℕ) (m : List Bool) → length m ≡ n → sweep r (n - 0) 0 m ≡ round r m
  unfolding round
  sweep_begin n m e = let q : n - 0 ≡ length m = omega arith in rw q

  -- ---- rounds
  -- a round that changes nothing is the last
  pub settle_last : (k : ℕ) (m : List Bool) → 0 < k → round r m ≡ m → ((settle r k m).marks ≡ m) × ((settle r k m).rounds ≡ 1)
  unfolding settle round
  settle_last zero m h e = absurd (omega arith)
  settle_last (suc k) m h e = go (same (sweep r (length m) 0 m) m) refl
    where
      go : (c : Bool) → same (sweep r (length m) 0 m) m ≡ c → ((ended c m (settle r k (sweep r (length m) 0 m))).marks ≡ m) × ((ended c m (settle r k (sweep r (length m) 0 m))).rounds ≡ 1)
      go true q = (refl, refl)
      go false q = contrary (same (sweep r (length m) 0 m) m) (ap (λ (t : List Bool). same t m) e ∙ same_refl m) q

  -- one that changes something is not
  pub settle_more : (k : ℕ) (m : List Bool) → 0 < k → trues m < trues (round r m)
      → ((settle r k m).marks ≡ (settle r (k - 1) (round r m)).marks) × ((settle r k m).rounds ≡ suc (settle r (k - 1) (round r m)).rounds)
  unfolding settle round
  settle_more zero m h e = absurd (omega arith)
  settle_more (suc k) m h e = let z : suc k - 1 ≡ k = omega arith in rw z (go (same (sweep r (length m) 0 m) m) refl)
    where
      go : (c : Bool) → same (sweep r (length m) 0 m) m ≡ c
          → ((ended c m (settle r k (sweep r (length m) 0 m))).marks ≡ (settle r k (sweep r (length m) 0 m)).marks) × ((ended c m (settle r k (sweep r (length m) 0 m))).rounds ≡ suc (settle r k (sweep r (length m) 0 m)).rounds)
      go true q = let w : trues (sweep r (length m) 0 m) ≡ trues m = ap trues (same_eq (sweep r (length m) 0 m) m q) in absurd (omega arith)
      go false q = (refl, refl)
