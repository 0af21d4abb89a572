-- A form more in the table. Assumes nothing.
use Rattle.std.specs.Prelude.{◌⊎◌, ◌≡◌, refl, List, [], ◌∷◌, ◌++◌, map, Bool, true, false, ℕ, zero, suc, ◌+◌, ◌-◌, ◌*◌, ◌≤◌, ◌<◌, eqb, get_or, take, set}
use Rattle.std.proofs.Common.{inl, inr, ⊎_elim, ap, ap₂, sym, ◌∙◌, subst, take-append-drop, take_at, drop_at, get_or-take, length-take-le, eqb-true}
use native.Mathlib.Omega.{arith}
use Rattle.std.proofs.Math.ListN.{length, drop, length-append, length-drop, length-set, get_or-append}
use Rattle.std.proofs.Math.Seq.{get_or-set_same, get_or-set_other}
use Rattle.std.proofs.lemmas.List.{drop-append-le, take-append-le}
use Rattle.std.proofs.lemmas.Bool.{eqb-false}
use Rattle.sheet.specs.Line.{Line}
use Rattle.model.specs.Decl.{position}
use Rattle.meaning.specs.Program.{program}
use Rattle.model.specs.Resolve.{Unfold, gone, newtype, abbreviation, stays}
use Rattle.model_laws.specs.Cty.{All, all_map}
use Rattle.model_laws.specs.Resolve.{Unfolds}
use Rattle.table_access.specs.Tables.{decls_of}
use Rattle.resolve_kids.specs.Nodes.{type_of}
use Rattle.resolve_kids.specs.Params.{params_of}
use Rattle.form_laws.specs.Nodes.{Node}
use Rattle.form_laws.specs.TableLaws.{Alike, nodes_alike}
use Rattle.form_nodes.specs.Words.{word, node_of}
use Rattle.form_node_words.specs.Own.{label}
use Rattle.keep_layouts.specs.States.{body_of, lay_of}
use Rattle.form_emit.specs.Emit.{form_words, form_of, words}
use Rattle.form_normal.specs.Tables.{own_words, with_form, Names, counts, Table, Added}
use Rattle.form_puts.specs.Put.{Put}

-- ---- the words of a type depend on the forms of its unfolded names alone
alike_self : (l : Unfold) (xs ys : List Node) → (Unfolds l → xs ≡ ys) → Alike l l xs ys
alike_self gone xs ys h = tt
alike_self (newtype ps c) xs ys h = (refl, h tt)
alike_self (abbreviation ps c) xs ys h = (refl, h tt)
alike_self stays xs ys h = tt

pub words_same : (ls : List Line) (u f f' : List ℕ) (d : ℕ) (places : Bool) (y : ℕ)
    → All (λ n. Unfolds (lay_of ls u n) → form_words f (position (program ls) n) ≡ form_words f' (position (program ls) n)) (type_of ls y)
    → words ls u f d places y ≡ words ls u f' d places y
unfolding words
words_same ls u f f' d places y h =
    ap (map word)
    (nodes_alike (lay_of ls u) (lay_of ls u) (form_of ls f) (form_of ls f') (params_of ls d) (label places (params_of ls d)) (type_of ls y)
    (all_map (λ n. Unfolds (lay_of ls u n) → form_words f (position (program ls) n) ≡ form_words f' (position (program ls) n))
    (λ n. Alike (lay_of ls u n) (lay_of ls u n) (form_of ls f n) (form_of ls f' n))
    (λ n e. alike_self (lay_of ls u n) (form_of ls f n) (form_of ls f' n) (λ v. ap (map node_of) (e v))) (type_of ls y) h))

-- ---- a list with a form more
half : (i j : ℕ) → 2 * i ≡ 2 * j → i ≡ j
half i j z = omega arith

half1 : (i j : ℕ) → 2 * i + 1 ≡ 2 * j + 1 → i ≡ j
half1 i j z = omega arith

apart : (i j : ℕ) → 2 * i ≡ 2 * j + 1 → ⊥
apart i j z = omega arith

drop_set : (k : ℕ) (l : List ℕ) (i v : ℕ) → i < k → drop k (set l i v) ≡ drop k l
drop_set zero l i v h = absurd (omega arith)
drop_set (suc k) [] i v h = refl
drop_set (suc k) (x ∷ l) zero v h = refl
drop_set (suc k) (x ∷ l) (suc i) v h = drop_set k l i v (omega arith)

module _ (f ws : List ℕ) (d pos n : ℕ) (head : 2 * n ≤ pos) (below : d < n) (inside : pos + length ws ≤ length f) where
  abbrev middle : List ℕ
  middle = take pos f ++ (ws ++ drop (pos + length ws) f)

  front : length (take pos f) ≡ pos
  front = length-take-le pos f (omega arith)

  pub with_length : length (with_form f d pos ws) ≡ length f
  unfolding with_form
  with_length =
      length-set (set middle (2 * d) pos) (2 * d + 1) (length ws)
      ∙ (length-set middle (2 * d) pos
      ∙ (length-append (take pos f) (ws ++ drop (pos + length ws) f) ∙ omega (arith, front, length-append ws (drop (pos + length ws) f), length-drop (pos + length ws) f)))

  middle_length : length middle ≡ length f
  middle_length = length-append (take pos f) (ws ++ drop (pos + length ws) f) ∙ omega (arith, front, length-append ws (drop (pos + length ws) f), length-drop (pos + length ws) f)

  -- a cell below
  low : (i : ℕ) → i < pos → get_or middle i 0 ≡ get_or f i 0
  low i h = get_or-append (take pos f) (ws ++ drop (pos + length ws) f) 0 i (omega (arith, front)) ∙ get_or-take pos f i 0 h

  pub with_start : get_or (with_form f d pos ws) (2 * d) 0 ≡ pos
  unfolding with_form
  with_start =
      get_or-set_other (set middle (2 * d) pos) (2 * d + 1) (2 * d) (length ws) 0 (λ e. odd d (sym e))
      ∙ get_or-set_same middle (2 * d) pos 0 (omega (arith, middle_length))
    where
      odd : (k : ℕ) → 2 * k + 1 ≡ 2 * k → ⊥
      odd k e = omega arith

  pub with_count : get_or (with_form f d pos ws) (2 * d + 1) 0 ≡ length ws
  unfolding with_form
  with_count = get_or-set_same (set middle (2 * d) pos) (2 * d + 1) (length ws) 0 (omega (arith, middle_length, length-set middle (2 * d) pos))

  pub with_other : (i : ℕ) → i < pos → (i ≡ 2 * d → ⊥) → (i ≡ 2 * d + 1 → ⊥) → get_or (with_form f d pos ws) i 0 ≡ get_or f i 0
  unfolding with_form
  with_other i h a b =
      get_or-set_other (set middle (2 * d) pos) (2 * d + 1) i (length ws) 0 b ∙ (get_or-set_other middle (2 * d) i pos 0 a ∙ low i h)

  -- past the cells
  high : (k : ℕ) → 2 * n ≤ k → drop k (with_form f d pos ws) ≡ drop k middle
  unfolding with_form
  high k h = drop_set k (set middle (2 * d) pos) (2 * d + 1) (length ws) (omega arith) ∙ drop_set k middle (2 * d) pos (omega arith)

  -- the new form
  pub with_new : form_words (with_form f d pos ws) d ≡ ws
  with_new =
      rw (with_start, with_count)
      (ap (take (length ws)) (high pos head ∙ drop_at (take pos f) (ws ++ drop (pos + length ws) f) pos front) ∙ take_at ws (drop (pos + length ws) f) (length ws) refl)

  -- another that stands below
  pub with_old : (e : ℕ) → e < n → (e ≡ d → ⊥) → 2 * n ≤ get_or f (2 * e) 0 → get_or f (2 * e) 0 + get_or f (2 * e + 1) 0 ≤ pos → form_words (with_form f d pos ws) e ≡ form_words f e
  with_old e h ne a q =
      let s : get_or (with_form f d pos ws) (2 * e) 0 ≡ get_or f (2 * e) 0 = with_other (2 * e) (omega arith) (λ z. ne (half e d z)) (λ z. apart e d z) in
      let c : get_or (with_form f d pos ws) (2 * e + 1) 0 ≡ get_or f (2 * e + 1) 0 = with_other (2 * e + 1) (omega arith) (λ z. apart d e (sym z)) (λ z. ne (half1 e d z)) in
      rw (s, c) (ap (take (get_or f (2 * e + 1) 0)) (high (get_or f (2 * e) 0) a) ∙ same (get_or f (2 * e) 0) (get_or f (2 * e + 1) 0) q)
    where
      same : (s l : ℕ) → s + l ≤ pos → take l (drop s middle) ≡ take l (drop s f)
      same s l k =
          let m : l ≤ length (drop s (take pos f)) = rw length-drop (omega (arith, front)) in
          ap (take l) (drop-append-le s (take pos f) (ws ++ drop (pos + length ws) f) (omega (arith, front)))
          ∙ (take-append-le l (drop s (take pos f)) (ws ++ drop (pos + length ws) f) m
          ∙ (sym (take-append-le l (drop s (take pos f)) (drop pos f) m)
          ∙ ap (take l) (sym (drop-append-le s (take pos f) (drop pos f) (omega (arith, front))) ∙ ap (drop s) (take-append-drop pos f))))

-- ---- counts
counts_past : (f g : List ℕ) (d n : ℕ) → ((e : ℕ) → e < n → (e ≡ d → ⊥) → get_or g (2 * e + 1) 0 ≡ get_or f (2 * e + 1) 0) → n ≤ d → counts g n ≡ counts f n
unfolding counts
counts_past f g d zero h l = refl
counts_past f g d (suc n) h l = omega (arith, counts_past f g d n (λ e k. h e (omega arith)) (omega arith), h n (omega arith) (λ z. omega arith))

-- one that was 0
counts_more : (f g : List ℕ) (d x n : ℕ) → ((e : ℕ) → e < n → (e ≡ d → ⊥) → get_or g (2 * e + 1) 0 ≡ get_or f (2 * e + 1) 0) → get_or f (2 * d + 1) 0 ≡ 0 → get_or g (2 * d + 1) 0 ≡ x → d < n
    → counts g n ≡ counts f n + x
unfolding counts
counts_more f g d x zero h z s l = absurd (omega arith)
counts_more f g d x (suc n) h z s l = go (counts_more f g d x n (λ k q. h k (omega arith)) z s) (eqb n d) refl
  where
    go : (d < n → counts g n ≡ counts f n + x) → (c : Bool) → eqb n d ≡ c → counts g n + get_or g (2 * n + 1) 0 ≡ counts f n + get_or f (2 * n + 1) 0 + x
    go ih true e =
        let i : n ≡ d = eqb-true n d e in
        let p : counts g n ≡ counts f n = counts_past f g d n (λ k q. h k (omega arith)) (omega arith) in
        let zn : get_or f (2 * n + 1) 0 ≡ 0 = ap (λ (k : ℕ). get_or f (2 * k + 1) 0) i ∙ z in
        let sn : get_or g (2 * n + 1) 0 ≡ x = ap (λ (k : ℕ). get_or g (2 * k + 1) 0) i ∙ s in
        omega arith
    go ih false e =
        let i : n ≡ d → ⊥ = eqb-false n d e in
        omega (arith, ih (other i), h n (omega arith) i)
      where
        other : (n ≡ d → ⊥) → d < n
        other i = omega arith

-- ---- a declaration more
module _ (ls : List Line) (u f : List ℕ) (pos : ℕ) (Done : ℕ → Type 0) (table : Table ls u f pos Done) (d : ℕ) (below : d < decls_of ls) (new : Done d → ⊥)
    (inner : (e : ℕ) → Done e → (e < decls_of ls) × Names ls u Done e) (names : Names ls u Done d)
    (inside : pos + length (own_words ls u f d) ≤ length f) where
  abbrev ws : List ℕ
  ws = own_words ls u f d

  abbrev f' : List ℕ
  f' = with_form f d pos ws

  abbrev Now : ℕ → Type 0
  Now e = Done e ⊎ (e ≡ d)

  old : (e : ℕ) → Done e → form_words f' e ≡ form_words f e
  old e h =
      let l : e < decls_of ls = (inner e h).0 in
      with_old f ws d pos (decls_of ls) table.head below inside e l (λ z. new (subst Done z h)) (table.above e h) (table.cells e l)

  same : (e : ℕ) → Names ls u Done e → own_words ls u f e ≡ own_words ls u f' e
  same e h =
      words_same ls u f f' e true (body_of u e)
      (all_map (λ n. Unfolds (lay_of ls u n) → Done (position (program ls) n)) (λ n. Unfolds (lay_of ls u n) → form_words f (position (program ls) n) ≡ form_words f' (position (program ls) n))
      (λ n k v. sym (old (position (program ls) n) (k v))) (type_of ls (body_of u e)) h)

  cell : (e : ℕ) → e < decls_of ls → (c : Bool) → eqb e d ≡ c → get_or f' (2 * e) 0 + get_or f' (2 * e + 1) 0 ≤ pos + length ws
  cell e l true q =
      let z : e ≡ d = eqb-true e d q in
      rw (z, with_start f ws d pos (decls_of ls) table.head below inside, with_count f ws d pos (decls_of ls) table.head below inside) (omega arith)
  cell e l false q =
      let n : e ≡ d → ⊥ = eqb-false e d q in
      rw (with_other f ws d pos (decls_of ls) table.head below inside (2 * e) (omega (arith, table.head)) (λ z. n (half e d z)) (λ z. apart e d z), with_other f ws d pos (decls_of ls) table.head below inside (2 * e + 1) (omega (arith, table.head)) (λ z. apart d e (sym z)) (λ z. n (half1 e d z)))
      (omega (arith, table.cells e l))

  pub table_more : Table ls u f' (pos + length ws) Now
  table_more =
      record {
        head = omega (arith, table.head);
        room = omega (arith, with_length f ws d pos (decls_of ls) table.head below inside);
        cells = λ e l. cell e l (eqb e d) refl;
        above = λ e h. ⊎_elim (λ k. start e k) (λ z. subst (λ (i : ℕ). 2 * decls_of ls ≤ get_or f' (2 * i) 0) (sym z) (omega (arith, with_start f ws d pos (decls_of ls) table.head below inside, table.head))) h;
        right = λ e h. ⊎_elim (λ k. old e k ∙ (table.right e k ∙ same e (inner e k).1)) (λ z. rw z (with_new f ws d pos (decls_of ls) table.head below inside ∙ same d names)) h;
        used =
            omega (arith, table.used, counts_more f f' d (length ws) (decls_of ls) (λ e l n. count e l n) (⊎_elim (λ k. absurd (new k)) (λ z. z) (table.fresh d below)) (with_count f ws d pos (decls_of ls) table.head below inside) below);
        fresh = λ e l. unused e l (eqb e d) refl (table.fresh e l);
      }
    where
      count : (e : ℕ) → e < decls_of ls → (e ≡ d → ⊥) → get_or f' (2 * e + 1) 0 ≡ get_or f (2 * e + 1) 0
      count e l n = with_other f ws d pos (decls_of ls) table.head below inside (2 * e + 1) (omega (arith, table.head)) (λ z. apart d e (sym z)) (λ z. n (half1 e d z))

      unused : (e : ℕ) → e < decls_of ls → (c : Bool) → eqb e d ≡ c → Done e ⊎ (get_or f (2 * e + 1) 0 ≡ 0) → Now e ⊎ (get_or f' (2 * e + 1) 0 ≡ 0)
      unused e l true q x = inl (inr (eqb-true e d q))
      unused e l false q (inl k) = inl (inl k)
      unused e l false q (inr z) = inr (count e l (eqb-false e d q) ∙ z)

      start : (e : ℕ) → Done e → 2 * decls_of ls ≤ get_or f' (2 * e) 0
      start e k =
          let l : e < decls_of ls = (inner e k).0 in
          let n : e ≡ d → ⊥ = λ z. new (subst Done z k) in
          omega (arith, with_other f ws d pos (decls_of ls) table.head below inside (2 * e) (omega (arith, table.head)) (λ z. n (half e d z)) (λ z. apart e d z), table.above e k)

-- ---- the code
pub added_none : (ws out : List ℕ) (d pos n : ℕ) (f res : List ℕ) → Put ws out 0 n res → (length out < n) ⊎ ((n ≤ length out) × (length f < pos + n)) → Added ws (length out) d pos f f (length f + 1)
added_none ws out d pos n f res x (inl q) =
    record { long = refl; room = λ r. absurd (omega arith); full = λ r. inl (omega (arith, x.full q)) }
added_none ws out d pos n f res x (inr q) =
    record { long = refl; room = λ r. absurd (omega arith); full = λ r. inr (omega (arith, (x.room q.0).0, q.1)) }

pub added_some : (ws out : List ℕ) (d pos n : ℕ) (f g res : List ℕ) → Put ws out 0 n res → n ≤ length out → pos + n ≤ length f → 2 * d + 1 < pos
    → g ≡ take pos f ++ (take n res ++ drop (pos + n) f) → Added ws (length out) d pos f (set (set g (2 * d) pos) (2 * d + 1) n) (pos + n)
unfolding with_form
added_some ws out d pos n f g res x q i h e =
    let m : n ≡ length ws = omega (arith, (x.room q).0) in
    let w : take n res ≡ ws = ap (take n) (x.room q).1 ∙ take_at ws (drop n out) n (sym m) in
    let k : g ≡ take pos f ++ (ws ++ drop (pos + length ws) f) = e ∙ ap₂ (λ (a : List ℕ) (j : ℕ). take pos f ++ (a ++ drop (pos + j) f)) w m in
    let z : set (set g (2 * d) pos) (2 * d + 1) n ≡ with_form f d pos ws = ap₂ (λ (l : List ℕ) (j : ℕ). set (set l (2 * d) pos) (2 * d + 1) j) k m in
    record {
      long = length-set (set g (2 * d) pos) (2 * d + 1) n ∙ (length-set g (2 * d) pos ∙ (ap length k ∙ (length-append (take pos f) (ws ++ drop (pos + length ws) f) ∙ omega (arith, length-take-le pos f (omega arith), length-append ws (drop (pos + length ws) f), length-drop (pos + length ws) f))));
      room = λ r. (ap (λ (j : ℕ). pos + j) m, z);
      full = λ r. absurd (omega arith);
    }
