-- A pattern has at most as many nodes as there are Q lines, if row 5 passes: the lists that end at lines which no line has
-- named yet have together at most as many nodes as there are lines. Assumes nothing.
use Rattle.std.specs.Prelude.{◌≡◌, List, [], ◌∷◌, ◌++◌, Bool, true, false, eqb, ltb, get_or, set}
use Rattle.std.proofs.Math.Path.{refl, ap}
use Rattle.std.proofs.Common.{◌∙◌, arith, length-set, get_or-set_other, ltb-true, ltb-false}
use Prim.Native.Nat.{ℕ, zero, suc, ◌+◌, ◌-◌, ◌≤◌, ◌<◌}
use Rattle.std.proofs.Math.ListN.{length, length-append, get_or-append}
use Rattle.std.proofs.lemmas.List.{get_or_at}
use Rattle.number_columns.specs.Column.{◌⇒◌∥◌}
use Rattle.sheet.specs.Line.{Line}
use Rattle.model_patterns.specs.Pat.{Pat, Pats, PWild, PVar, PConst, PCtor, PRecord, PTuple, POr, no_parts, part, nodes, nodes_of_parts}
use Rattle.meaning.specs.Rows.{nth_line}
use Rattle.meaning_patterns.specs.Patterns.{kind_of, name_of, last_of, previous_of, field_of, Piece, no_piece, list_to, and_last, pattern_of, piece, pieces, pattern}
use Rattle.pattern_laws.proofs.Pieces.{piece_at}
use Rattle.pattern_laws.specs.Linked.{Linked, Apart, Unshared, AllGood, linked_is, unshared_is}

-- ---- nodes of a line's list
pub nodes_and_last : (ps : Pats) (f : ℕ) (p : Pat) → nodes_of_parts (and_last ps f p) ≡ nodes_of_parts ps + nodes p
unfolding nodes_of_parts and_last
nodes_and_last no_parts f p = omega arith
nodes_and_last (part g q qs) f p = omega (arith, nodes_and_last qs f p)

pub nodes_pattern : (kind n : ℕ) (ps : Pats) → nodes (pattern_of kind n ps) ≤ 1 + nodes_of_parts ps
unfolding nodes pattern_of
nodes_pattern kind n ps = by (eqb kind 1) (eqb kind 2) (eqb kind 3) (eqb kind 4) (eqb kind 5) (eqb kind 6)
  where
    by : (a b c d e f : Bool)
        → nodes (a ⇒ PVar n ∥ b ⇒ PConst n ∥ c ⇒ PCtor n ps ∥ d ⇒ PRecord n ps ∥ e ⇒ PTuple ps ∥ f ⇒ POr ps ∥ PWild) ≤ 1 + nodes_of_parts ps
    by true b c d e f = omega arith
    by false true c d e f = omega arith
    by false false true d e f = omega arith
    by false false false true e f = omega arith
    by false false false false true f = omega arith
    by false false false false false true = omega arith
    by false false false false false false = omega arith

-- the nodes of the list that a link ends
abbrev pub list_nodes : List Line → ℕ → ℕ
list_nodes qs k = nodes_of_parts (list_to (pieces qs) k)

module _ (qs : List Line) (linked : Linked qs) where
  nodes_step : (q : ℕ) → q < length qs
      → list_nodes qs (suc q) ≤ list_nodes qs (previous_of (nth_line qs q)) + (1 + list_nodes qs (last_of (nth_line qs q)))
  unfolding list_to piece
  nodes_step q h =
      let l : Line = nth_line qs q in
      let xs : Pats = list_to (pieces qs) (last_of l) in
      let ys : Pats = list_to (pieces qs) (previous_of l) in
      omega (arith, ap (λ (p : Piece). nodes_of_parts p.list) (piece_at qs q h (linked.last q h) (linked.previous q h)), nodes_and_last ys (field_of l) (pattern_of (kind_of l) (name_of l) xs), nodes_pattern (kind_of l) (name_of l) xs)

  -- the whole is the last part of its own list
  nodes_whole : (q : ℕ) → q < length qs → nodes (get_or (pieces qs) q no_piece).pat ≤ list_nodes qs (suc q)
  unfolding list_to piece
  nodes_whole q h =
      let l : Line = nth_line qs q in
      let xs : Pats = list_to (pieces qs) (last_of l) in
      let ys : Pats = list_to (pieces qs) (previous_of l) in
      let e = piece_at qs q h (linked.last q h) (linked.previous q h) in
      omega (arith, ap (λ (p : Piece). nodes_of_parts p.list) e, ap (λ (p : Piece). nodes p.pat) e, nodes_and_last ys (field_of l) (pattern_of (kind_of l) (name_of l) xs))

-- ---- sums
unfoldable pub total : List ℕ → ℕ
total [] = 0
total (n ∷ ns) = n + total ns

total_append : (ms ns : List ℕ) → total (ms ++ ns) ≡ total ms + total ns
unfolding total
total_append [] ns = omega arith
total_append (m ∷ ms) ns = omega (arith, total_append ms ns)

total_get_or : (ns : List ℕ) (k : ℕ) → get_or ns k 0 ≤ total ns
unfolding total
total_get_or [] k = omega arith
total_get_or (n ∷ ns) zero = omega arith
total_get_or (n ∷ ns) (suc k) = omega (arith, total_get_or ns k)

total_set : (ns : List ℕ) (k : ℕ) → total (set ns k 0) + get_or ns k 0 ≡ total ns
unfolding total
total_set [] k = refl
total_set (n ∷ ns) zero = omega arith
total_set (n ∷ ns) (suc k) = omega (arith, total_set ns k)

-- at a link, which may be none
unfoldable linked_at : List ℕ → ℕ → ℕ
linked_at ns zero = 0
linked_at ns (suc k) = get_or ns k 0

unfoldable clear : List ℕ → ℕ → List ℕ
clear ns zero = ns
clear ns (suc k) = set ns k 0

length_clear : (ns : List ℕ) (k : ℕ) → length (clear ns k) ≡ length ns
unfolding clear
length_clear ns zero = refl
length_clear ns (suc k) = length-set ns k 0

total_clear : (ns : List ℕ) (k : ℕ) → total (clear ns k) + linked_at ns k ≡ total ns
unfolding clear linked_at
total_clear ns zero = omega arith
total_clear ns (suc k) = total_set ns k

clear_other : (ns : List ℕ) (a k : ℕ) → (a ≡ suc k → ⊥) → get_or (clear ns a) k 0 ≡ get_or ns k 0
unfolding clear
clear_other ns zero k h = refl
clear_other ns (suc a) k h = get_or-set_other ns a k 0 0 (λ e. h (omega arith))

-- ---- the lists that no line has named yet
-- for each of the first n lines the nodes of its list up to it, or 0 once it is named
unfoldable free : List Line → ℕ → List ℕ
free qs zero = []
free qs (suc n) = clear (clear (free qs n) (last_of (nth_line qs n))) (previous_of (nth_line qs n)) ++ (list_nodes qs (suc n) ∷ [])

record Free (qs : List Line) (n : ℕ) : Type 0 where
  size : length (free qs n) ≡ n
  few : total (free qs n) ≤ n
  unnamed : (k : ℕ) → k < n → ((j : ℕ) → j < n → Apart (nth_line qs j) (suc k)) → get_or (free qs n) k 0 ≡ list_nodes qs (suc k)

module _ (qs : List Line) (linked : Linked qs) (unshared : Unshared qs) where
  at_link : (n : ℕ) → Free qs n → (k : ℕ) → k ≤ n → (0 < k → (j : ℕ) → j < n → Apart (nth_line qs j) k) → linked_at (free qs n) k ≡ list_nodes qs k
  unfolding linked_at list_to nodes_of_parts
  at_link n f zero h a = refl
  at_link n f (suc k) h a = f.unnamed k (omega arith) (a (omega arith))

  at_other : (ns : List ℕ) (a b : ℕ) → (0 < a → a ≡ b → ⊥) → linked_at (clear ns a) b ≡ linked_at ns b
  unfolding linked_at
  at_other ns a zero h = refl
  at_other ns a (suc b) h = clear_other ns a b (λ e. h (omega arith) e)

  free_step : (n : ℕ) → n < length qs → Free qs n → Free qs (suc n)
  unfolding free total
  free_step n h f =
      let s : length ns ≡ n = length_clear (clear (free qs n) a) b ∙ length_clear (free qs n) a ∙ f.size in
      record {
        size = omega (arith, length-append ns (list_nodes qs (suc n) ∷ []));
        few = few;
        unnamed = λ k i u. unnamed k i u (ltb k n) refl s;
      }
    where
      a : ℕ
      a = last_of (nth_line qs n)

      b : ℕ
      b = previous_of (nth_line qs n)

      ns : List ℕ
      ns = clear (clear (free qs n) a) b

      few : total (ns ++ (list_nodes qs (suc n) ∷ [])) ≤ suc n
      few =
          omega (arith, total_append ns (list_nodes qs (suc n) ∷ []), total_clear (clear (free qs n) a) b, total_clear (free qs n) a, at_other (free qs n) a b (unshared.two n h), at_link n f a (linked.last n h) (unshared.last n h), at_link n f b (linked.previous n h) (unshared.previous n h), nodes_step qs linked n h, f.few)

      unnamed : (k : ℕ) → k < suc n → ((j : ℕ) → j < suc n → Apart (nth_line qs j) (suc k)) → (t : Bool) → ltb k n ≡ t → length ns ≡ n
          → get_or (ns ++ (list_nodes qs (suc n) ∷ [])) k 0 ≡ list_nodes qs (suc k)
      unnamed k i u true e s =
          let l : k < n = ltb-true k n e in
          get_or-append ns (list_nodes qs (suc n) ∷ []) 0 k (omega arith)
          ∙ clear_other (clear (free qs n) a) b k (u n (omega arith)).previous
          ∙ clear_other (free qs n) a k (u n (omega arith)).last
          ∙ f.unnamed k l (λ j m. u j (omega arith))
      unnamed k i u false e s =
          let l : n ≡ k = omega (arith, ltb-false k n e) in
          ap (λ (m : ℕ). get_or (ns ++ (list_nodes qs (suc m) ∷ [])) k 0) l ∙ get_or_at ns (list_nodes qs (suc k)) [] 0 k (s ∙ l)

  free_is : (n : ℕ) → n ≤ length qs → Free qs n
  unfolding free total
  free_is zero h = record { size = refl; few = omega arith; unnamed = λ k i u. absurd (omega arith) }
  free_is (suc n) h = free_step n h (free_is n (omega arith))

  few_of : (n : ℕ) → suc n ≡ length qs → nodes (get_or (pieces qs) n no_piece).pat ≤ suc n
  few_of n e =
      let f : Free qs (suc n) = free_is (suc n) (omega arith) in
      omega (arith, nodes_whole qs linked n (omega arith), total_get_or (free qs (suc n)) n, f.few, f.unnamed n (omega arith) (λ j i. record { last = λ s. omega (arith, linked.last j (omega arith)); previous = λ s. omega (arith, linked.previous j (omega arith)) }))

  nodes_of_linked : 0 < length qs → nodes (pattern qs) ≤ length qs
  unfolding pattern
  nodes_of_linked h = omega (arith, few_of (length qs - 1) (omega arith))

pub nodes_few : (names : ℕ) (qs : List Line) → AllGood names qs → 0 < length qs → nodes (pattern qs) ≤ length qs
nodes_few names qs g = nodes_of_linked qs (linked_is names qs g) (unshared_is names qs g)
