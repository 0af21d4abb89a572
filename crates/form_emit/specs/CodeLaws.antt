-- What each function of the emission puts, from what its callees put. Assumes nothing.
use Rattle.std.specs.Prelude.{◌⊎◌, ◌≡◌, Bool, ℕ, zero, suc, ◌+◌, ◌-◌, ◌*◌, ◌≤◌, ◌<◌, ltb, length, get_or, take, drop}
use Rattle.std.proofs.Math.Logic.{inl, inr}
use Rattle.std.proofs.Math.Path.{refl, ap, sym}
use Rattle.std.proofs.Common.{ap₂, ◌∙◌, subst, add-one, length-append, length-drop, take-append-drop, take-suc, drop-drop, get_or-take, get_or-drop, take_at, take_all, drop_at, length-take-le}
use mathlib.Core.List.{List, [], ◌∷◌, ◌++◌, append_assoc, append-nil}
use Rattle.std.proofs.Math.Bool.{true, false}
use native.Mathlib.Omega.{arith}
use Rattle.std.proofs.Math.Dec.{eqb}
use Rattle.std.proofs.Math.ListN.{get_or-eq_default}
use Rattle.std.proofs.Math.Seq.{take-append-add}
use borrow.Author.Tests.{eqb-true, eqb-false, eq-eqb, ne_eqb, lt-leb, ltb-true, ltb-false}
use Rattle.sheet.specs.Line.{Line, number}
use Rattle.model.specs.Cty.{Cty}
use Rattle.model.specs.Decl.{position}
use Rattle.meaning.specs.Program.{type_line, program}
use Rattle.meaning.specs.Rows.{count_of}
use Rattle.model.specs.Resolve.{gone, newtype, abbreviation, stays}
use Rattle.table_declared.specs.Passed.{Passed}
use Rattle.resolve_kids.specs.Nodes.{y_line, kind_of, type_of, kids_of, kid_of}
use Rattle.resolve_kids.specs.Params.{params_of}
use Rattle.form_laws.specs.Nodes.{node}
use Rattle.form_nodes.specs.Words.{word, node_of}
use Rattle.form_node_words.specs.Own.{y_node}
use Rattle.form_puts.specs.Put.{Put, put_none, put_more, put_stop}
use Rattle.form_puts.specs.Stands.{stands_put}
use Rattle.keep_layouts.specs.States.{unfold_at, lay_of}
use Rattle.form_emit.specs.Emit.{run, step, filled, grown, form_words, words, kid_words, Asked}
use Rattle.form_emit.specs.Filling.{leaf, leaf_var, leaf_own}
use Rattle.table_declared.specs.PassedLaws.{args_few}
use Rattle.resolve_kids.specs.NodesLaws.{node_at, kids_8}
use Rattle.form_emit.specs.EmitLaws.{words_var, words_plain, words_gone, words_stays, placed_words, words_exact, words_placed}

-- other words that are the same
pub put_same : (p q out : List ℕ) (at r : ℕ) (res : List ℕ) → p ≡ q → Put p out at r res → Put q out at r res
put_same p q out at r res e x = subst (λ (l : List ℕ). Put l out at r res) e x

-- what stands there already
pub put_self : (out : List ℕ) (at r : ℕ) → at ≤ r → r ≤ length out → Put (take (r - at) (drop at out)) out at r out
put_self out at r h k =
    let l : length (take (r - at) (drop at out)) ≡ r - at = length-take-le (r - at) (drop at out) (rw length-drop (omega arith)) in
    let e : at + (r - at) ≡ r = omega arith in
    record {
      long = refl;
      room = λ u. (omega (arith, l), sym (ap (λ (x : List ℕ). take at out ++ (take (r - at) (drop at out) ++ x)) (ap (λ (n : ℕ). drop n out) (sym e) ∙ sym (drop-drop (r - at) at out)) ∙ (ap (λ (x : List ℕ). take at out ++ x) (take-append-drop (r - at) (drop at out)) ∙ take-append-drop at out)));
      full = λ u. absurd (omega arith);
    }

-- in the place of words that are no more
pub put_over : (p q out : List ℕ) (at r e : ℕ) (mid res : List ℕ) → at ≤ length out → r ≤ length out → length p ≤ length q → Put p out at r mid → Put q mid at e res → Put q out at e res
put_over p q out at r e mid res a h l x y =
    let n : r ≡ at + length p = (x.room h).0 in
    let m : mid ≡ take at out ++ (p ++ drop r out) = (x.room h).1 in
    let la : length (take at out) ≡ at = length-take-le at out a in
    record {
      long = y.long ∙ x.long;
      room = λ u. let z = y.room (omega (arith, x.long)) in
          (z.0, z.1 ∙ ap₂ (λ (i j : List ℕ). i ++ (q ++ j)) (ap (take at) m ∙ take_at (take at out) (p ++ drop r out) at la) (past e (omega (arith, z.0, n)) m la n));
      full = λ u. omega (arith, y.full (omega (arith, x.long)), x.long);
    }
  where
    past : (k : ℕ) → r ≤ k → mid ≡ take at out ++ (p ++ drop r out) → length (take at out) ≡ at → r ≡ at + length p → drop k mid ≡ drop k out
    past k g m la n =
        let lp : length (take at out ++ p) ≡ r = length-append (take at out) p ∙ omega (arith, la, n) in
        let f : k ≡ r + (k - r) = omega arith in
        ap (drop k) (m ∙ sym (append_assoc (take at out) p (drop r out)))
        ∙ (ap (λ (j : ℕ). drop j ((take at out ++ p) ++ drop r out)) f
        ∙ (sym (drop-drop (k - r) r ((take at out ++ p) ++ drop r out))
        ∙ (ap (drop (k - r)) (drop_at (take at out ++ p) (drop r out) r lp) ∙ (drop-drop (k - r) r out ∙ ap (λ (j : ℕ). drop j out) (sym f)))))

-- after words that stand there already
pub put_under : (p q out : List ℕ) (at m e : ℕ) (res : List ℕ) → take m out ≡ take at out ++ p → m ≡ at + length p → Put q out m e res → Put (p ++ q) out at e res
put_under p q out at m e res t n x =
    record {
      long = x.long;
      room = λ u. let z = x.room u in (
        omega (arith, z.0, length-append p q),
        z.1 ∙ (ap (λ (l : List ℕ). l ++ (q ++ drop e out)) t ∙ (append_assoc (take at out) p (q ++ drop e out) ∙ ap (λ (l : List ℕ). take at out ++ l) (sym (append_assoc p q (drop e out))))),
      );
      full = λ u. omega (arith, x.full u, length-append p q);
    }

-- ---- a surplus
pub grown_long : (p : List ℕ) (n : ℕ) (ys : List ℕ) → length p ≤ length (grown p n ys)
unfolding grown
grown_long [] n ys = omega arith
grown_long (w ∷ []) n ys = go (eqb (node_of w).kind 8)
  where
    go : (b : Bool) → 1 ≤ length {A = ℕ} (elim b [ true ↦ ys ++ (word (node 8 ((node_of w).count + n) (node_of w).own) ∷ []) | false ↦ w ∷ [] ])
    go true = omega (arith, length-append ys (word (node 8 ((node_of w).count + n) (node_of w).own) ∷ []))
    go false = omega arith
grown_long (w ∷ v ∷ p) n ys = omega (arith, grown_long (v ∷ p) n ys)

grown_last : (p : List ℕ) (w n : ℕ) (ys : List ℕ) → grown (p ++ (w ∷ [])) n ys ≡ p ++ grown (w ∷ []) n ys
unfolding grown
grown_last [] w n ys = refl
grown_last (v ∷ []) w n ys = refl
grown_last (v ∷ x ∷ p) w n ys = ap (λ (l : List ℕ). v ∷ l) (grown_last (x ∷ p) w n ys)

module _ (out : List ℕ) (at r n : ℕ) (ys : List ℕ) where
  abbrev stands : List ℕ
  stands = take (r - at) (drop at out)

  -- nothing stands there
  pub surplus_none : r ≡ at → at ≤ length out → Put (grown stands n ys) out at r out
  unfolding grown
  surplus_none e h = let z : r - at ≡ 0 = omega arith in rw (z, e) (put_none out at h)

  module _ (h : at < r) (k : r ≤ length out) where
    abbrev w : ℕ
    w = get_or out (r - 1) 0

    abbrev before : List ℕ
    before = take (r - 1 - at) (drop at out)

    last_word : stands ≡ before ++ (w ∷ [])
    last_word =
        let e : r - at ≡ suc (r - 1 - at) = omega arith in
        let f : at + (r - 1 - at) ≡ r - 1 = omega arith in
        let l : r - 1 - at < length (drop at out) = rw length-drop (omega arith) in
        ap (λ (m : ℕ). take m (drop at out)) e ∙ (take-suc (drop at out) (r - 1 - at) 0 l ∙ ap (λ (x : ℕ). before ++ (x ∷ [])) (get_or-drop at out (r - 1 - at) 0 ∙ ap (λ (m : ℕ). get_or out m 0) f))

    -- it does not end in a `TApp`
    pub surplus_kept : ((node_of w).kind ≡ 8 → ⊥) → Put (grown stands n ys) out at r out
    unfolding grown
    surplus_kept e =
        put_same stands (grown stands n ys) out at r out
        (last_word ∙ sym (ap (λ (l : List ℕ). grown l n ys) last_word ∙ (grown_last before w n ys ∙ ap (λ (b : Bool). before ++ elim b [ true ↦ ys ++ (word (node 8 ((node_of w).count + n) (node_of w).own) ∷ []) | false ↦ w ∷ [] ]) (ne_eqb (node_of w).kind 8 e))))
        (put_self out at r (omega arith) k)

    taken_before : take (r - 1) out ≡ take at out ++ before
    taken_before =
        let e : r - 1 ≡ at + (r - 1 - at) = omega arith in
        let la : length (take at out) ≡ at = length-take-le at out (omega arith) in
        let q : r - 1 ≡ length (take at out) + (r - 1 - at) = omega (arith, la) in
        ap (λ (l : List ℕ). take (r - 1) l) (sym (take-append-drop at out)) ∙ (ap (λ (m : ℕ). take m (take at out ++ drop at out)) q ∙ take-append-add (take at out) (drop at out) (r - 1 - at))

    -- it does
    grown_app : (node_of w).kind ≡ 8 → grown stands n ys ≡ before ++ (ys ++ (word (node 8 ((node_of w).count + n) (node_of w).own) ∷ []))
    unfolding grown
    grown_app e =
        ap (λ (l : List ℕ). grown l n ys) last_word ∙ (grown_last before w n ys ∙ ap (λ (b : Bool). before ++ elim b [ true ↦ ys ++ (word (node 8 ((node_of w).count + n) (node_of w).own) ∷ []) | false ↦ w ∷ [] ]) (eq-eqb (node_of w).kind 8 e))

    pub surplus_put : (e e' v : ℕ) (mid res : List ℕ) → (node_of w).kind ≡ 8 → e ≤ length out → v ≡ word (node 8 ((node_of w).count + n) (node_of w).own)
        → Put ys out (r - 1) e mid → Put (v ∷ []) mid e e' res → Put (grown stands n ys) out at e' res
    surplus_put e e' v mid res k8 q g x y =
        put_same (before ++ (ys ++ (v ∷ []))) (grown stands n ys) out at e' res
        (ap (λ (a : ℕ). before ++ (ys ++ (a ∷ []))) g ∙ sym (grown_app k8))
        (put_under before (ys ++ (v ∷ [])) out at (r - 1) e' res taken_before (omega (arith, length-take-le (r - 1 - at) (drop at out) (rw length-drop (omega arith)))) (put_more ys (v ∷ []) out (r - 1) e e' mid res (omega arith) q x y))

    pub surplus_stop : (e : ℕ) (res : List ℕ) → (node_of w).kind ≡ 8 → length out < e → Put ys out (r - 1) e res → Put (grown stands n ys) out at e res
    surplus_stop e res k8 q x =
        let v : ℕ = word (node 8 ((node_of w).count + n) (node_of w).own) in
        put_same (before ++ (ys ++ (v ∷ []))) (grown stands n ys) out at e res (sym (grown_app k8))
        (put_under before (ys ++ (v ∷ [])) out at (r - 1) e res taken_before (omega (arith, length-take-le (r - 1 - at) (drop at out) (rw length-drop (omega arith)))) (put_stop ys (v ∷ []) out (r - 1) e res q x))

-- ---- loops
pub run_none : (g : ℕ → List ℕ) (a : ℕ) → run g a (a - a) ≡ []
unfolding run
run_none g a = let e : a - a ≡ 0 = omega arith in rw e

pub run_more : (g : ℕ → List ℕ) (a i : ℕ) → a ≤ i → run g a (i - a) ++ g i ≡ run g a (i + 1 - a)
unfolding run
run_more g a i h =
    let e : i + 1 - a ≡ suc (i - a) = omega arith in
    let f : a + (i - a) ≡ i = omega arith in
    rw (e, f)

-- the run is longer than its part
run_longer : (g : ℕ → List ℕ) (a i j : ℕ) → i ≤ j → length (run g a i) ≤ length (run g a j)
unfolding run
run_longer g a i zero h = let e : i ≡ 0 = omega arith in rw e (omega arith)
run_longer g a i (suc j) h = go (eqb i (suc j)) refl (λ k. run_longer g a i j k)
  where
    go : (b : Bool) → eqb i (suc j) ≡ b → (i ≤ j → length (run g a i) ≤ length (run g a j)) → length (run g a i) ≤ length (run g a j ++ g (a + j))
    go true e ih = let q : i ≡ suc j = eqb-true i (suc j) e in rw q (omega arith)
    go false e ih = omega (arith, ih (omega (arith, eqb-false i (suc j) e)), length-append (run g a j) (g (a + j)))

pub run_stop : (g : ℕ → List ℕ) (a m n : ℕ) (out : List ℕ) (at r : ℕ) (res : List ℕ) → m ≤ n → length out < r → Put (run g a m) out at r res → Put (run g a n) out at r res
run_stop g a m n out at r res h q x =
    record { long = x.long; room = λ u. absurd (omega arith); full = λ u. omega (arith, x.full q, run_longer g a m n h) }

filled_append : (g : ℕ → List ℕ) (n : ℕ) (xs ys : List ℕ) → filled g n (xs ++ ys) ≡ filled g n xs ++ filled g n ys
unfolding filled
filled_append g n [] ys = refl
filled_append g n (x ∷ xs) ys = ap (λ (l : List ℕ). step g n x ++ l) (filled_append g n xs ys) ∙ sym (append_assoc (step g n x) (filled g n xs) (filled g n ys))

filled_one : (g : ℕ → List ℕ) (n w : ℕ) → filled g n (w ∷ []) ≡ step g n w
unfolding filled
filled_one g n w = append-nil (step g n w)

module _ (g : ℕ → List ℕ) (n : ℕ) (f : List ℕ) (start len : ℕ) (inside : start + len ≤ length f) where
  abbrev form : List ℕ
  form = take len (drop start f)

  form_long : length form ≡ len
  form_long = length-take-le len (drop start f) (rw length-drop (omega arith))

  pub filled_none : filled g n (take 0 form) ≡ []
  unfolding filled
  filled_none = refl

  pub filled_more : (i : ℕ) → i < len → filled g n (take i form) ++ step g n (get_or f (start + i) 0) ≡ filled g n (take (i + 1) form)
  filled_more i q =
      sym (ap (λ (m : ℕ). filled g n (take m form)) (add-one i)
      ∙ (ap (filled g n) (take-suc form i 0 (omega (arith, form_long)))
      ∙ (filled_append g n (take i form) (get_or form i 0 ∷ [])
      ∙ ap (λ (l : List ℕ). filled g n (take i form) ++ l) (filled_one g n (get_or form i 0) ∙ ap (step g n) (get_or-take len (drop start f) i 0 q ∙ get_or-drop start f i 0)))))

  pub filled_all : (i : ℕ) → len ≤ i → filled g n (take i form) ≡ filled g n form
  filled_all i q = ap (filled g n) (take_all i form (omega (arith, form_long)))

  -- the whole is longer than its part
  pub filled_stop : (i : ℕ) (out : List ℕ) (at r : ℕ) (res : List ℕ) → length out < r → Put (filled g n (take i form)) out at r res → Put (filled g n form) out at r res
  filled_stop i out at r res q x =
      record {
        long = x.long;
        room = λ u. absurd (omega arith);
        full = λ u. omega (arith, x.full q, length-append (filled g n (take i form)) (filled g n (drop i form)), ap length (sym (filled_append g n (take i form) (drop i form)) ∙ ap (filled g n) (take-append-drop i form)));
      }

-- ---- a Y line's type
only_two : (k : ℕ) → (k ≡ 0 → ⊥) → (k ≡ 1 → ⊥) → k ≤ 2 → k ≡ 2
only_two zero a b c = absurd (a refl)
only_two (suc zero) a b c = absurd (b refl)
only_two (suc (suc k)) a b c = omega arith

-- what becomes of a name, by its declaration's state
module _ (ls : List Line) (u : List ℕ) (n m x : ℕ) (em : m ≡ position (program ls) n) (ex : x ≡ get_or u (2 * m) 3) where
  state_is : get_or u (2 * position (program ls) n) 3 ≡ x
  state_is = ap (λ (i : ℕ). get_or u (2 * i) 3) (sym em) ∙ sym ex

  pub lay_gone : x ≡ 0 → lay_of ls u n ≡ gone
  unfolding unfold_at
  lay_gone e = rw (eq-eqb (get_or u (2 * position (program ls) n) 3) 0 (state_is ∙ e))

  pub lay_stays : 2 < x → lay_of ls u n ≡ stays
  unfolding unfold_at
  lay_stays h =
      rw (state_is, ne_eqb x 0 (λ e. omega arith), ne_eqb x 1 (λ e. omega arith), ne_eqb x 2 (λ e. omega arith))

  -- its parameters, and its body
  abbrev pub qs : List ℕ
  qs = params_of ls (position (program ls) n)

  abbrev pub body : Cty
  body = type_of ls (get_or u (2 * position (program ls) n + 1) 0)

  pub lay_unfolded : (x ≡ 0 → ⊥) → x ≤ 2 → (lay_of ls u n ≡ newtype qs body) ⊎ (lay_of ls u n ≡ abbreviation qs body)
  unfolding unfold_at
  lay_unfolded n0 h = go (eqb x 1) refl
    where
      go : (b : Bool) → eqb x 1 ≡ b → (lay_of ls u n ≡ newtype qs body) ⊎ (lay_of ls u n ≡ abbreviation qs body)
      go true e = inl (rw (state_is, ne_eqb x 0 n0, e))
      go false e = inr (rw (state_is, ne_eqb x 0 n0, e, eq-eqb x 2 (only_two x n0 (eqb-false x 1 e) h)))

module _ (ls : List Line) (passed : Passed ls) (u f : List ℕ) (d : ℕ) (places : Bool) (y : ℕ) (h : y < count_of type_line ls) (out : List ℕ) (at : ℕ) (a : at ≤ length out) where
  abbrev W : List ℕ
  W = words ls u f d places y

  abbrev g : ℕ → List ℕ
  g = kid_words ls u f d places y

  abbrev kids : List ℕ
  kids = run g 0 (kids_of ls y - 0)

  kids_all : kids ≡ run g 0 (kids_of ls y)
  kids_all = let e : kids_of ls y - 0 ≡ kids_of ls y = omega arith in rw e

  -- without parts
  no_kids : kind_of ls y < 7 → kids_of ls y ≡ 0
  unfolding kids_of
  no_kids k =
      rw (ne_eqb (kind_of ls y) 7 (λ e. omega arith), ne_eqb (kind_of ls y) 8 (λ e. omega arith), ne_eqb (kind_of ls y) 9 (λ e. omega arith), lt-leb 10 (kind_of ls y) (omega arith))

  leaf_words : kind_of ls y < 7 → leaf ls d places y ∷ [] ≡ W
  unfolding run
  leaf_words k = go (eqb (kind_of ls y) 3) refl
    where
      go : (c : Bool) → eqb (kind_of ls y) 3 ≡ c → leaf ls d places y ∷ [] ≡ W
      go true e =
          let k3 : kind_of ls y ≡ 3 = eqb-true (kind_of ls y) 3 e in
          ap (λ (x : ℕ). x ∷ []) (sym (leaf_var ls d places y _ _ k3 refl refl)) ∙ sym (words_var ls passed u f d places y h k3)
      go false e =
          let n3 : kind_of ls y ≡ 3 → ⊥ = eqb-false (kind_of ls y) 3 e in
          ap (λ (x : ℕ). x ∷ []) (sym (leaf_own ls d places y _ n3 refl))
          ∙ sym (words_plain ls passed u f d places y h n3 (λ q. omega arith) ∙ ap (λ (n : ℕ). run g 0 n ++ (word (y_node ls y) ∷ [])) (no_kids k))

  pub put_leaf : (w r : ℕ) (res : List ℕ) → kind_of ls y < 7 → w ≡ leaf ls d places y → Put (w ∷ []) out at r res → Put W out at r res
  put_leaf w r res k e x = put_same (w ∷ []) W out at r res (ap (λ (z : ℕ). z ∷ []) e ∙ leaf_words k) x

  module _ (n3 : kind_of ls y ≡ 3 → ⊥) (n8 : kind_of ls y ≡ 8 → ⊥) where
    pub put_plain : (w r e : ℕ) (mid res : List ℕ) → r ≤ length out → Put kids out at r mid → w ≡ word (y_node ls y) → Put (w ∷ []) mid r e res → Put W out at e res
    put_plain w r e mid res q x ew z =
        put_same (kids ++ (w ∷ [])) W out at e res (ap₂ (λ (l : List ℕ) (v : ℕ). l ++ (v ∷ [])) kids_all ew ∙ sym (words_plain ls passed u f d places y h n3 n8))
        (put_more kids (w ∷ []) out at r e mid res a q x z)

    pub stop_plain : (r : ℕ) (res : List ℕ) → length out < r → Put kids out at r res → Put W out at r res
    stop_plain r res q x =
        put_same (kids ++ (word (y_node ls y) ∷ [])) W out at r res (ap (λ (l : List ℕ). l ++ (word (y_node ls y) ∷ [])) kids_all ∙ sym (words_plain ls passed u f d places y h n3 n8))
        (put_stop kids (word (y_node ls y) ∷ []) out at r res q x)

  module _ (k8 : kind_of ls y ≡ 8) (n m x : ℕ) (en : n ≡ number (y_line ls y) 1) (em : m ≡ position (program ls) n) (ex : x ≡ get_or u (2 * m) 3) where
    abbrev name : ℕ
    name = number (y_line ls y) 1

    here : m ≡ position (program ls) name
    here = em ∙ ap (position (program ls)) en

    pub put_gone : (w r : ℕ) (res : List ℕ) → x ≡ 0 → w ≡ word (node 0 0 0) → Put (w ∷ []) out at r res → Put W out at r res
    put_gone w r res e ew z =
        put_same (w ∷ []) W out at r res (ap (λ (v : ℕ). v ∷ []) ew ∙ sym (words_gone ls passed u f d places y h k8 (lay_gone ls u name m x here ex e))) z

    stays_words : 2 < x → kids ++ (word (node 8 (kids_of ls y) name) ∷ []) ≡ W
    stays_words q =
        ap (λ (l : List ℕ). l ++ (word (node 8 (kids_of ls y) name) ∷ [])) kids_all ∙ sym (words_stays ls passed u f d places y h k8 (lay_stays ls u name m x here ex q))

    pub put_stays : (c w r e : ℕ) (mid res : List ℕ) → 2 < x → r ≤ length out → Put kids out at r mid → c ≡ kids_of ls y → w ≡ word (node 8 c n) → Put (w ∷ []) mid r e res → Put W out at e res
    put_stays c w r e mid res q l z ec ew v =
        put_same (kids ++ (w ∷ [])) W out at e res (ap (λ (i : ℕ). kids ++ (i ∷ [])) (ew ∙ ap₂ (λ (i j : ℕ). word (node 8 i j)) ec en) ∙ stays_words q) (put_more kids (w ∷ []) out at r e mid res a l z v)

    pub stop_stays : (r : ℕ) (res : List ℕ) → 2 < x → length out < r → Put kids out at r res → Put W out at r res
    stop_stays r res q l z =
        put_same (kids ++ (word (node 8 (kids_of ls y) name) ∷ [])) W out at r res (stays_words q) (put_stop kids (word (node 8 (kids_of ls y) name) ∷ []) out at r res l z)

    module _ (n0 : x ≡ 0 → ⊥) (n2 : x ≤ 2) where
      abbrev normal : List ℕ
      normal = filled g (kids_of ls y) (form_words f m)

      abbrev k : ℕ
      k = length (params_of ls m)

      at_form : filled g (kids_of ls y) (form_words f (position (program ls) name)) ≡ normal
      at_form = ap (λ (i : ℕ). filled g (kids_of ls y) (form_words f i)) (sym here)

      count : length (params_of ls (position (program ls) name)) ≡ k
      count = ap (λ (i : ℕ). length (params_of ls i)) (sym here)

      placed_is : W ≡ grown normal (kids_of ls y - k) (run g k (kids_of ls y - k))
      placed_is =
          words_placed ls passed u f d places y h k8 k (qs ls u name m x here ex) (body ls u name m x here ex) (lay_unfolded ls u name m x here ex n0 n2) count
          ∙ (placed_words ls passed u f d places y h k8 k ∙ ap (λ (l : List ℕ). grown l (kids_of ls y - k) (run g k (kids_of ls y - k))) at_form)

      pub stop_form : (r : ℕ) (res : List ℕ) → length out < r → Put normal out at r res → Put W out at r res
      stop_form r res q z =
          put_same (grown normal (kids_of ls y - k) (run g k (kids_of ls y - k))) W out at r res (sym placed_is)
          (record { long = z.long; room = λ v. absurd (omega arith); full = λ v. omega (arith, z.full q, grown_long normal (kids_of ls y - k) (run g k (kids_of ls y - k))) })

      pub put_form : (r : ℕ) (res : List ℕ) → kids_of ls y ≤ k → Put normal out at r res → Put W out at r res
      put_form r res q z =
          put_same normal W out at r res
          (sym (words_placed ls passed u f d places y h k8 k (qs ls u name m x here ex) (body ls u name m x here ex) (lay_unfolded ls u name m x here ex n0 n2) count ∙ (words_exact ls passed u f d places y h k8 k q ∙ at_form))) z

      pub put_surplus : (j r e : ℕ) (mid res : List ℕ) → j ≡ k → r ≤ length out → Put normal out at r mid
          → Put (grown (take (r - at) (drop at mid)) (kids_of ls y - j) (run g j (kids_of ls y - j))) mid at e res → Put W out at e res
      put_surplus j r e mid res ej q z v =
          let t : take (r - at) (drop at mid) ≡ normal = (stands_put normal out at r mid a q z).same in
          put_same (grown normal (kids_of ls y - k) (run g k (kids_of ls y - k))) W out at e res (sym placed_is)
          (put_over normal (grown normal (kids_of ls y - k) (run g k (kids_of ls y - k))) out at r e mid res a q (grown_long normal (kids_of ls y - k) (run g k (kids_of ls y - k))) z
          (put_same (grown (take (r - at) (drop at mid)) (kids_of ls y - j) (run g j (kids_of ls y - j))) (grown normal (kids_of ls y - k) (run g k (kids_of ls y - k))) mid at e res (ap₂ (λ (l : List ℕ) (i : ℕ). grown l (kids_of ls y - i) (run g i (kids_of ls y - i))) t ej) v))

-- ---- bounds
-- a declaration whose name is not left is one
pub state_below : (u : List ℕ) (m x d : ℕ) → x ≡ get_or u (2 * m) 3 → x ≤ 2 → length u ≤ 2 * d → m < d
state_below u m x d e h l = go (ltb (2 * m) (length u)) refl
  where
    go : (c : Bool) → ltb (2 * m) (length u) ≡ c → m < d
    go true q = omega (arith, ltb-true (2 * m) (length u) q)
    go false q = absurd (omega (arith, e, get_or-eq_default u 3 {n = 2 * m} (ltb-false (2 * m) (length u) q)))

pub count_few : (w : ℕ) → (node_of w).count < 1024
unfolding node_of
count_few w = omega arith

-- a name has few arguments
pub name_kids : (ls : List Line) (passed : Passed ls) (y : ℕ) → y < count_of type_line ls → kind_of ls y ≡ 8 → kids_of ls y ≤ 2048
name_kids ls passed y h k = omega (arith, kids_8 ls y k, (node_at ls passed y h).listed8 k, args_few ls passed)

-- what is asked of a part
pub asked_kid : (ls : List Line) (t u f : List ℕ) (y d i c : ℕ) → Asked ls t u f y d → i < kids_of ls y → c ≡ kid_of ls y i → (c < y) × Asked ls t u f c d
asked_kid ls t u f y d i c a h e =
    let l : c < y = omega (arith, e, (node_at ls a.tabled.passed y a.type).lower i h) in
    (l, record { tabled = a.tabled; states = a.states; forms = a.forms; type = omega (arith, l, a.type); decl = a.decl })

pub below : (a r : ℕ) → a ≤ r → (r ≡ a → ⊥) → a < r
below a r h n = omega arith

-- a node with more children, by the numbers that are read
pub grown_word : (c n d c' n' d' : ℕ) → c ≡ c' → d ≡ d' → n ≡ n' → word (node 8 (c + n) d) ≡ word (node 8 (c' + n') d')
grown_word c n d c' n' d' ec ed en = rw (ec, ed, en)
