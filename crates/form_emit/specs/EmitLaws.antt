-- The words of a Y line's type, by its kind, from those of its parts. Assumes nothing.
use Rattle.std.specs.Prelude.{◌⊎◌, ◌≡◌, Bool, drop}
use Rattle.std.proofs.Common.{inl, inr, ◌∙◌, length-append, length-drop}
use Rattle.std.proofs.Math.Path.{refl, ap, ap₂, sym}
use mathlib.Core.List.{List, [], ◌∷◌, ◌++◌, map, map-append, append_assoc, append-nil}
use Rattle.std.proofs.Math.Bool.{true, false}
use Prim.Native.Nat.{ℕ, zero, suc, ◌+◌, ◌-◌, ◌%◌, ◌≤◌, ◌<◌}
use native.Mathlib.Omega.{arith}
use Rattle.std.proofs.Math.Dec.{eqb, ltb}
use Rattle.std.proofs.Math.ListN.{length, drop_of_length-le, get_or-append, get_or-eq_default}
use Rattle.std.proofs.Math.Seq.{drop-append-le, get_or-append_seam}
use borrow.Author.Tests.{eqb-true, eqb-false, ltb-true, ltb-false}
use Rattle.number_columns.specs.Column.{◌⇒◌∥◌}
use Rattle.sheet.specs.Line.{Line, number}
use Rattle.sheet.proofs.ListLaws.{Every, every_append}
use Rattle.model.specs.Cty.{Cty, Ctys, TUnit, TAny, TExn, TVar, TInt, TFloat, TConst, TArrow, TApp, TTuple, TBuf, TRef, TInline, nil, cons, append, lengths}
use Rattle.model.specs.Decl.{member, position}
use Rattle.meaning.specs.Program.{type_line, program, tree, trees, list_of}
use Rattle.meaning.specs.Rows.{count_of}
use Rattle.model.specs.Resolve.{Unfold, gone, newtype, abbreviation, stays}
use Rattle.table_declared.specs.Passed.{Passed}
use Rattle.resolve_outcomes.specs.Answer.{parts, plain, listed}
use Rattle.resolve_kids.specs.Nodes.{y_line, kind_of, type_of, kids_of, kid_of}
use Rattle.resolve_kids.specs.NodesLaws.{node_at, var_type, app_type, plain_type, parts_of}
use Rattle.row5_ranges.specs.TypeLists.{types_of}
use Rattle.table_declared.specs.TypeLaws.{type_tree}
use Rattle.form_node_words.specs.Own.{y_count, y_own, y_node, label}
use Rattle.resolve_kids.specs.Params.{params_of}
use Rattle.form_laws.specs.Nodes.{Node, node, spread, attached}
use Rattle.form_laws.specs.Forms.{joined, argument, placed, named, variable, nodes, nodes_each}
use Rattle.form_nodes.specs.Words.{word, node_of}
use Rattle.form_nodes.specs.WordsLaws.{node_cut, word_grown, node_small}
use Rattle.keep_layouts.specs.States.{lay_of}
use Rattle.form_emit.specs.Emit.{run, step, filled, grown, form_words, form_of, words, kid_words}

-- ---- lists of lists
joined_append : (xss yss : List (List Node)) → joined (xss ++ yss) ≡ joined xss ++ joined yss
unfolding joined
joined_append [] yss = refl
joined_append (xs ∷ xss) yss = ap (λ (l : List Node). xs ++ l) (joined_append xss yss) ∙ sym (append_assoc xs (joined xss) (joined yss))

joined_one : (xs : List Node) → joined (xs ∷ []) ≡ xs
unfolding joined
joined_one xs = append-nil xs

-- ---- kinds of nodes are small
abbrev Small : Node → Type 0
Small x = x.kind < 16

abbrev Smalls : List Node → Type 0
Smalls = Every Small

joined_small : (xss : List (List Node)) → Every Smalls xss → Smalls (joined xss)
unfolding joined
joined_small [] h = tt
joined_small (xs ∷ xss) h = every_append Small xs (joined xss) h.0 (joined_small xss h.1)

spread_small : (f : ℕ → List Node) → ((i : ℕ) → Smalls (f i)) → (xs : List Node) → Smalls xs → Smalls (spread f xs)
unfolding spread
spread_small f g [] h = tt
spread_small f g (x ∷ xs) h = go (eqb x.kind 3) (spread_small f g xs h.1)
  where
    go : (b : Bool) → Smalls (spread f xs) → Smalls (elim b [ true ↦ f x.own ++ spread f xs | false ↦ x ∷ spread f xs ])
    go true k = every_append Small (f x.own) (spread f xs) (g x.own) k
    go false k = (h.0, k)

attached_small : (xs : List Node) (n : ℕ) (ys : List Node) → Smalls xs → Smalls ys → Smalls (attached xs n ys)
unfolding attached
attached_small [] n ys h k = tt
attached_small (x ∷ []) n ys h k = go (eqb x.kind 8)
  where
    go : (b : Bool) → Smalls (elim b [ true ↦ ys ++ (node 8 (x.count + n) x.own ∷ []) | false ↦ x ∷ [] ])
    go true = every_append Small ys (node 8 (x.count + n) x.own ∷ []) k (omega arith, tt)
    go false = h
attached_small (x ∷ y ∷ xs) n ys h k = (h.0, attached_small (y ∷ xs) n ys h.1 k)

argument_small : (xss : List (List Node)) (i : ℕ) → Every Smalls xss → Smalls (argument xss i)
argument_small [] i h = (omega arith, tt)
argument_small (xs ∷ xss) zero h = h.0
argument_small (xs ∷ xss) (suc i) h = argument_small xss i h.1

drop_small : (k : ℕ) (xss : List (List Node)) → Every Smalls xss → Every Smalls (drop k xss)
drop_small zero xss h = h
drop_small (suc k) [] h = tt
drop_small (suc k) (xs ∷ xss) h = drop_small k xss h.1

placed_small : (k : ℕ) (xs : List Node) (xss : List (List Node)) → Smalls xs → Every Smalls xss → Smalls (placed k xs xss)
unfolding placed
placed_small k xs xss h g =
    attached_small (spread (argument xss) xs) (length (drop k xss)) (joined (drop k xss)) (spread_small (argument xss) (λ i. argument_small xss i g) xs h) (joined_small (drop k xss) (drop_small k xss g))

module _ (lay : ℕ → Unfold) (form : ℕ → List Node) (ps : List ℕ) (ρ : ℕ → ℕ) (small : (n : ℕ) → Smalls (form n)) where
  named_small : (n : ℕ) (xss : List (List Node)) (l : Unfold) → Every Smalls xss → Smalls (named n (form n) xss l)
  unfolding named
  named_small n xss gone h = (omega arith, tt)
  named_small n xss (newtype qs c) h = placed_small (length qs) (form n) xss (small n) h
  named_small n xss (abbreviation qs c) h = placed_small (length qs) (form n) xss (small n) h
  named_small n xss stays h = every_append Small (joined xss) (node 8 (length xss) n ∷ []) (joined_small xss h) (omega arith, tt)

  variable_small : (b : Bool) (v : ℕ) → Small (variable b v)
  unfolding variable
  variable_small true v = omega arith
  variable_small false v = omega arith

  owner : (xs : List Node) (k n d : ℕ) → k < 16 → Smalls xs → Smalls (xs ++ (node k n d ∷ []))
  owner xs k n d h g = every_append Small xs (node k n d ∷ []) g (h, tt)

  mutual
    unfolding nodes

    nodes_small : (c : Cty) → Smalls (nodes lay form ps ρ c)
    nodes_small TUnit = (omega arith, tt)
    nodes_small TAny = (omega arith, tt)
    nodes_small TExn = (omega arith, tt)
    nodes_small (TVar v) = (variable_small (member v ps) (ρ v), tt)
    nodes_small (TInt s w) = (omega arith, tt)
    nodes_small (TFloat k) = (omega arith, tt)
    nodes_small (TConst k) = (omega arith, tt)
    nodes_small (TArrow a e b) = every_append Small (nodes lay form ps ρ a) (nodes lay form ps ρ b ++ (node 7 2 e ∷ [])) (nodes_small a) (owner (nodes lay form ps ρ b) 7 2 e (omega arith) (nodes_small b))
    nodes_small (TApp n ts) = named_small n (nodes_each lay form ps ρ ts) (lay n) (each_small ts)
    nodes_small (TTuple ts) = owner (joined (nodes_each lay form ps ρ ts)) 9 (lengths ts) 0 (omega arith) (joined_small (nodes_each lay form ps ρ ts) (each_small ts))
    nodes_small (TBuf t) = owner (nodes lay form ps ρ t) 10 1 0 (omega arith) (nodes_small t)
    nodes_small (TRef k t) = owner (nodes lay form ps ρ t) 11 1 k (omega arith) (nodes_small t)
    nodes_small (TInline t) = owner (nodes lay form ps ρ t) 12 1 0 (omega arith) (nodes_small t)

    each_small : (ts : Ctys) → Every Smalls (nodes_each lay form ps ρ ts)
    each_small nil = tt
    each_small (cons t ts) = (nodes_small t, each_small ts)

-- ---- words for nodes
-- a surplus
grown_attached : (xs : List Node) (n : ℕ) (ys : List Node) → Smalls xs → map word (attached xs n ys) ≡ grown (map word xs) n (map word ys)
unfolding attached grown
grown_attached [] n ys h = refl
grown_attached (x ∷ []) n ys h =
    go (eqb x.kind 8) refl
  where
    cut : x.kind % 16 ≡ x.kind
    cut = omega (arith, h.0)

    go : (b : Bool) → eqb x.kind 8 ≡ b
        → map word (elim b [ true ↦ ys ++ (node 8 (x.count + n) x.own ∷ []) | false ↦ x ∷ [] ])
        ≡ elim (eqb (node_of (word x)).kind 8) [ true ↦ map word ys ++ (word (node 8 ((node_of (word x)).count + n) (node_of (word x)).own) ∷ []) | false ↦ word x ∷ [] ]
    go true e =
        map-append word ys (node 8 (x.count + n) x.own ∷ [])
        ∙ rw (node_cut x, cut, e) (ap (λ (w : ℕ). map word ys ++ (w ∷ [])) (sym (ap (λ (y : Node). word (node 8 (y.count + n) y.own)) (node_cut x) ∙ word_grown 8 x.count n x.own)))
    go false e = rw (node_cut x, cut, e)
grown_attached (x ∷ y ∷ xs) n ys h = ap (λ (l : List ℕ). word x ∷ l) (grown_attached (y ∷ xs) n ys h.1)

-- a normal form with its arguments
filled_spread : (xss : List (List Node)) (g : ℕ → List ℕ) (n : ℕ) → ((i : ℕ) → map word (argument xss i) ≡ elim (ltb i n) [ true ↦ g i | false ↦ word (node 0 0 0) ∷ [] ])
    → (ws : List ℕ) → map word (spread (argument xss) (map node_of ws)) ≡ filled g n ws
unfolding spread filled step
filled_spread xss g n e [] = refl
filled_spread xss g n e (w ∷ ws) = go (eqb (node_of w).kind 3) (filled_spread xss g n e ws)
  where
    go : (b : Bool) → map word (spread (argument xss) (map node_of ws)) ≡ filled g n ws
        → map word (elim b [ true ↦ argument xss (node_of w).own ++ spread (argument xss) (map node_of ws) | false ↦ node_of w ∷ spread (argument xss) (map node_of ws) ])
        ≡ elim b [ true ↦ elim (ltb (node_of w).own n) [ true ↦ g (node_of w).own | false ↦ word (node 0 0 0) ∷ [] ] | false ↦ word (node_of w) ∷ [] ] ++ filled g n ws
    go true k = map-append word (argument xss (node_of w).own) (spread (argument xss) (map node_of ws)) ∙ ap₂ (λ (x y : List ℕ). x ++ y) (e (node_of w).own) k
    go false k = ap (λ (l : List ℕ). word (node_of w) ∷ l) k

-- ---- parts
module _ (lay : ℕ → Unfold) (form : ℕ → List Node) (ps : List ℕ) (ρ : ℕ → ℕ) (F : ℕ → Cty) where
  abbrev node_list : Cty → List Node
  node_list = nodes lay form ps ρ

  -- the words of part i
  abbrev part_words : ℕ → List ℕ
  part_words i = map word (node_list (F i))

  abbrev lists : ℕ → List (List Node)
  lists n = nodes_each lay form ps ρ (listed F n)

  each_append : (ts us : Ctys) → nodes_each lay form ps ρ (append ts us) ≡ nodes_each lay form ps ρ ts ++ nodes_each lay form ps ρ us
  unfolding nodes append
  each_append nil us = refl
  each_append (cons t ts) us = ap (λ (l : List (List Node)). node_list t ∷ l) (each_append ts us)

  lists_none : lists 0 ≡ []
  unfolding listed nodes
  lists_none = refl

  lists_more : (n : ℕ) → lists (suc n) ≡ lists n ++ (node_list (F n) ∷ [])
  unfolding listed nodes
  lists_more n = each_append (listed F n) (cons (F n) nil)

  length_lists : (n : ℕ) → length (lists n) ≡ n
  length_lists zero = ap length lists_none
  length_lists (suc n) = ap length (lists_more n) ∙ (length-append (lists n) (node_list (F n) ∷ []) ∙ omega (arith, length_lists n))

  -- from part k on
  run_parts : (k n : ℕ) → map word (joined (drop k (lists n))) ≡ run part_words k (n - k)
  unfolding joined run
  run_parts k zero = let e : 0 - k ≡ 0 = omega arith in rw (lists_none, e) (nothing k)
    where
      nothing : (j : ℕ) → map word (joined (drop j [])) ≡ []
      nothing zero = refl
      nothing (suc j) = refl
  run_parts k (suc n) = go (ltb n k) refl (run_parts k n)
    where
      go : (b : Bool) → ltb n k ≡ b → map word (joined (drop k (lists n))) ≡ run part_words k (n - k) → map word (joined (drop k (lists (suc n)))) ≡ run part_words k (suc n - k)
      go true q ih =
          let h : n < k = ltb-true n k q in
          let e : suc n - k ≡ 0 = omega arith in
          let l : length (lists (suc n)) ≤ k = omega (arith, length_lists (suc n)) in
          rw (e, drop_of_length-le (lists (suc n)) {i = k} l)
      go false q ih =
          let h : k ≤ n = ltb-false n k q in
          let e : suc n - k ≡ suc (n - k) = omega arith in
          let f : k + (n - k) ≡ n = omega arith in
          let l : k ≤ length (lists n) = omega (arith, length_lists n) in
          rw (e, f, lists_more n, drop-append-le k (lists n) (node_list (F n) ∷ []) l, joined_append (drop k (lists n)) (node_list (F n) ∷ []), joined_one (node_list (F n)), map-append word (joined (drop k (lists n))) (node_list (F n)))
          (ap (λ (x : List ℕ). x ++ part_words n) ih)

  get_or_lists : (n i : ℕ) → i < n → argument (lists n) i ≡ node_list (F i)
  get_or_lists zero i h = absurd (omega arith)
  get_or_lists (suc n) i h = go (eqb i n) refl (λ k. get_or_lists n i k)
    where
      go : (b : Bool) → eqb i n ≡ b → (i < n → argument (lists n) i ≡ node_list (F i)) → argument (lists (suc n)) i ≡ node_list (F i)
      go true q ih =
          let e : i ≡ length (lists n) = eqb-true i n q ∙ sym (length_lists n) in
          ap₂ (λ (xss : List (List Node)) (j : ℕ). argument xss j) (lists_more n) e ∙ (get_or-append_seam (lists n) (node_list (F n)) [] (node 0 0 0 ∷ []) ∙ ap (λ (j : ℕ). node_list (F j)) (sym (eqb-true i n q)))
      go false q ih =
          let k : i < n = omega (arith, eqb-false i n q) in
          ap (λ (xss : List (List Node)). argument xss i) (lists_more n) ∙ (get_or-append (lists n) (node_list (F n) ∷ []) (node 0 0 0 ∷ []) i (omega (arith, length_lists n)) ∙ ih k)

  argument_parts : (n i : ℕ) → map word (argument (lists n) i) ≡ elim (ltb i n) [ true ↦ part_words i | false ↦ word (node 0 0 0) ∷ [] ]
  argument_parts n i = go (ltb i n) refl
    where
      go : (b : Bool) → ltb i n ≡ b → map word (argument (lists n) i) ≡ elim b [ true ↦ part_words i | false ↦ word (node 0 0 0) ∷ [] ]
      go true q = ap (map word) (get_or_lists n i (ltb-true i n q))
      go false q = ap (map word) (get_or-eq_default (lists n) (node 0 0 0 ∷ []) {n = i} (omega (arith, ltb-false i n q, length_lists n)))

-- ---- the node of a plain type
-- itself
unfoldable pub own_node : Cty → Node
own_node TUnit = node 0 0 0
own_node TAny = node 1 0 0
own_node TExn = node 2 0 0
own_node (TVar v) = node 3 0 v
own_node (TInt s w) = node 4 s w
own_node (TFloat f) = node 5 0 f
own_node (TConst c) = node 6 0 c
own_node (TArrow a e b) = node 7 2 e
own_node (TApp n ts) = node 8 (lengths ts) n
own_node (TTuple ts) = node 9 (lengths ts) 0
own_node (TBuf t) = node 10 1 0
own_node (TRef k t) = node 11 1 k
own_node (TInline t) = node 12 1 0

-- after its parts
nodes_plain : (lay : ℕ → Unfold) (form : ℕ → List Node) (ps : List ℕ) (ρ : ℕ → ℕ) (c : Cty) → plain c ≡ true → nodes lay form ps ρ c ≡ joined (nodes_each lay form ps ρ (parts c)) ++ (own_node c ∷ [])
unfolding nodes parts own_node joined
nodes_plain lay form ps ρ TUnit h = refl
nodes_plain lay form ps ρ TAny h = refl
nodes_plain lay form ps ρ TExn h = refl
nodes_plain lay form ps ρ (TVar v) h = let z : ◌≡◌ {A = ℕ} 0 1 = cc in absurd (omega arith)
nodes_plain lay form ps ρ (TInt s w) h = refl
nodes_plain lay form ps ρ (TFloat f) h = refl
nodes_plain lay form ps ρ (TConst c) h = refl
nodes_plain lay form ps ρ (TArrow a e b) h =
    let x = nodes lay form ps ρ a in
    let y = nodes lay form ps ρ b in
    sym (append_assoc x (y ++ []) (node 7 2 e ∷ []) ∙ ap (λ (l : List Node). x ++ l) (append_assoc y [] (node 7 2 e ∷ [])))
nodes_plain lay form ps ρ (TApp n ts) h = let z : ◌≡◌ {A = ℕ} 0 1 = cc in absurd (omega arith)
nodes_plain lay form ps ρ (TTuple ts) h = refl
nodes_plain lay form ps ρ (TBuf t) h = ap (λ (l : List Node). l ++ (node 10 1 0 ∷ [])) (sym (append-nil (nodes lay form ps ρ t)))
nodes_plain lay form ps ρ (TRef k t) h = ap (λ (l : List Node). l ++ (node 11 1 k ∷ [])) (sym (append-nil (nodes lay form ps ρ t)))
nodes_plain lay form ps ρ (TInline t) h = ap (λ (l : List Node). l ++ (node 12 1 0 ∷ [])) (sym (append-nil (nodes lay form ps ρ t)))

lengths_list : (ts : List Cty) (xs : List ℕ) (i k : ℕ) → lengths (list_of ts xs i k) ≡ k
unfolding list_of lengths
lengths_list ts xs i zero = refl
lengths_list ts xs i (suc k) = ap suc (lengths_list ts xs (suc i) k)

-- by its numbers
own_tree : (ts : List Cty) (xs : List ℕ) (k a b c : ℕ) → k ≤ 12 → (k ≡ 3 → ⊥) → (k ≡ 8 → ⊥)
    → own_node (tree ts xs k a b c)
    ≡ node k (eqb k 4 ⇒ a ∥ eqb k 7 ⇒ 2 ∥ eqb k 9 ⇒ b ∥ eqb k 10 ⇒ 1 ∥ eqb k 11 ⇒ 1 ∥ eqb k 12 ⇒ 1 ∥ 0) (eqb k 4 ⇒ b ∥ eqb k 5 ⇒ a ∥ eqb k 6 ⇒ a ∥ eqb k 7 ⇒ b ∥ eqb k 11 ⇒ a ∥ 0)
unfolding tree own_node
own_tree ts xs zero a b c h n3 n8 = refl
own_tree ts xs (suc zero) a b c h n3 n8 = refl
own_tree ts xs (suc (suc zero)) a b c h n3 n8 = refl
own_tree ts xs (suc (suc (suc zero))) a b c h n3 n8 = absurd (n3 refl)
own_tree ts xs (suc (suc (suc (suc zero)))) a b c h n3 n8 = refl
own_tree ts xs (suc (suc (suc (suc (suc zero))))) a b c h n3 n8 = refl
own_tree ts xs (suc (suc (suc (suc (suc (suc zero)))))) a b c h n3 n8 = refl
own_tree ts xs (suc (suc (suc (suc (suc (suc (suc zero))))))) a b c h n3 n8 = refl
own_tree ts xs (suc (suc (suc (suc (suc (suc (suc (suc zero)))))))) a b c h n3 n8 = absurd (n8 refl)
own_tree ts xs (suc (suc (suc (suc (suc (suc (suc (suc (suc zero))))))))) a b c h n3 n8 = ap (λ (m : ℕ). node 9 m 0) (lengths_list ts xs a b)
own_tree ts xs (suc (suc (suc (suc (suc (suc (suc (suc (suc (suc zero)))))))))) a b c h n3 n8 = refl
own_tree ts xs (suc (suc (suc (suc (suc (suc (suc (suc (suc (suc (suc zero))))))))))) a b c h n3 n8 = refl
own_tree ts xs (suc (suc (suc (suc (suc (suc (suc (suc (suc (suc (suc (suc zero)))))))))))) a b c h n3 n8 = refl
own_tree ts xs (suc (suc (suc (suc (suc (suc (suc (suc (suc (suc (suc (suc (suc k))))))))))))) a b c h n3 n8 = absurd (omega arith)

-- ---- a Y line's type
module _ (ls : List Line) (passed : Passed ls) (u f : List ℕ) (d : ℕ) (places : Bool) (y : ℕ) (h : y < count_of type_line ls) where
  abbrev ps : List ℕ
  ps = params_of ls d

  abbrev ρ : ℕ → ℕ
  ρ = label places ps

  abbrev g : ℕ → List ℕ
  g = kid_words ls u f d places y

  abbrev F : ℕ → Cty
  F i = type_of ls (kid_of ls y i)

  abbrev form : ℕ → List Node
  form = form_of ls f

  form_small : (n : ℕ) → Smalls (form n)
  form_small n = each (form_words f (position (program ls) n))
    where
      each : (ws : List ℕ) → Smalls (map node_of ws)
      each [] = tt
      each (w ∷ ws) = (node_small w, each ws)

  run_kids : (k : ℕ) → map word (joined (drop k (nodes_each (lay_of ls u) form ps ρ (parts_of ls passed y h)))) ≡ run g k (kids_of ls y - k)
  unfolding words
  run_kids k = run_parts (lay_of ls u) form ps ρ F k (kids_of ls y)

  -- a variable
  pub words_var : kind_of ls y ≡ 3 → words ls u f d places y ≡ word (variable (member (number (y_line ls y) 1) ps) (ρ (number (y_line ls y) 1))) ∷ []
  unfolding words nodes
  words_var k = ap (λ (c : Cty). map word (nodes (lay_of ls u) form ps ρ c)) (var_type ls passed y h k)

  -- neither a variable nor a name
  pub words_plain : (kind_of ls y ≡ 3 → ⊥) → (kind_of ls y ≡ 8 → ⊥) → words ls u f d places y ≡ run g 0 (kids_of ls y) ++ (word (y_node ls y) ∷ [])
  unfolding words y_node y_count y_own
  words_plain n3 n8 =
      let p = plain_type ls passed y h n3 n8 in
      let e : kids_of ls y - 0 ≡ kids_of ls y = omega arith in
      ap (map word) (nodes_plain (lay_of ls u) form ps ρ (type_of ls y) p.is_plain)
      ∙ (map-append word (joined (nodes_each (lay_of ls u) form ps ρ (parts (type_of ls y)))) (own_node (type_of ls y) ∷ [])
      ∙ ap₂ (λ (x : List ℕ) (z : Node). x ++ (word z ∷ []))
      (ap (λ (ts : Ctys). map word (joined (nodes_each (lay_of ls u) form ps ρ ts))) p.has_parts ∙ (run_kids 0 ∙ ap (run g 0) e))
      (ap own_node (type_tree ls passed y h) ∙ own_tree (trees ls) (types_of ls) (number (y_line ls y) 0) (number (y_line ls y) 1) (number (y_line ls y) 2) (number (y_line ls y) 3) (node_at ls passed y h).known n3 n8))

  module _ (k8 : kind_of ls y ≡ 8) where
    abbrev n : ℕ
    n = number (y_line ls y) 1

    abbrev xss : List (List Node)
    xss = nodes_each (lay_of ls u) form ps ρ (parts_of ls passed y h)

    named_words : (l : Unfold) → lay_of ls u n ≡ l → words ls u f d places y ≡ map word (named n (form n) xss l)
    unfolding words nodes
    named_words l e =
        ap (λ (c : Cty). map word (nodes (lay_of ls u) form ps ρ c)) (app_type ls passed y h k8) ∙ ap (λ (x : Unfold). map word (named n (form n) xss x)) e

    count_kids : length xss ≡ kids_of ls y
    count_kids = length_lists (lay_of ls u) form ps ρ F (kids_of ls y)

    -- an erased name
    pub words_gone : lay_of ls u n ≡ gone → words ls u f d places y ≡ word (node 0 0 0) ∷ []
    unfolding named
    words_gone e = named_words gone e

    -- a name that is left
    pub words_stays : lay_of ls u n ≡ stays → words ls u f d places y ≡ run g 0 (kids_of ls y) ++ (word (node 8 (kids_of ls y) n) ∷ [])
    unfolding named
    words_stays e =
        let z : kids_of ls y - 0 ≡ kids_of ls y = omega arith in
        named_words stays e
        ∙ (map-append word (joined xss) (node 8 (length xss) n ∷ []) ∙ ap₂ (λ (x : List ℕ) (m : ℕ). x ++ (word (node 8 m n) ∷ [])) (run_kids 0 ∙ ap (run g 0) z) count_kids)

    -- a normal form with k parameters
    pub placed_words : (k : ℕ) → map word (placed k (form n) xss) ≡ grown (filled g (kids_of ls y) (form_words f (position (program ls) n))) (kids_of ls y - k) (run g k (kids_of ls y - k))
    unfolding placed words
    placed_words k =
        grown_attached (spread (argument xss) (form n)) (length (drop k xss)) (joined (drop k xss))
        (spread_small (argument xss) (λ i. argument_small xss i (each_small (lay_of ls u) form ps ρ form_small (parts_of ls passed y h))) (form n) (form_small n))
        ∙ ap₂ (λ (x : List ℕ) (r : List ℕ). grown x (length (drop k xss)) r) (filled_spread xss g (kids_of ls y) (argument_parts (lay_of ls u) form ps ρ F (kids_of ls y)) (form_words f (position (program ls) n))) (run_kids k)
        ∙ ap (λ (m : ℕ). grown (filled g (kids_of ls y) (form_words f (position (program ls) n))) m (run g k (kids_of ls y - k))) (length-drop k xss ∙ ap (λ (m : ℕ). m - k) count_kids)

    -- with no more arguments than parameters, nothing is attached
    grown_none : (xs : List Node) → Smalls xs → grown (map word xs) 0 [] ≡ map word xs
    unfolding grown
    grown_none [] s = refl
    grown_none (x ∷ []) s = go (eqb (node_of (word x)).kind 8) refl
      where
        go : (b : Bool) → eqb (node_of (word x)).kind 8 ≡ b → elim b [ true ↦ word (node 8 ((node_of (word x)).count + 0) (node_of (word x)).own) ∷ [] | false ↦ word x ∷ [] ] ≡ word x ∷ []
        go true e =
            let k : x.kind ≡ 8 = ap (λ (m : ℕ). m) (omega (arith, s.0, eqb-true (node_of (word x)).kind 8 e, ap (λ (z : Node). z.kind) (node_cut x))) in
            let z : x.count + 0 ≡ x.count = omega arith in
            ap (λ (w : ℕ). w ∷ []) (ap (λ (z : Node). word (node 8 (z.count + 0) z.own)) (node_cut x) ∙ (word_grown 8 x.count 0 x.own ∙ rw (z, ← k)))
        go false e = refl
    grown_none (x ∷ z ∷ xs) s = ap (λ (l : List ℕ). word x ∷ l) (grown_none (z ∷ xs) s.1)

    pub words_exact : (k : ℕ) → kids_of ls y ≤ k → map word (placed k (form n) xss) ≡ filled g (kids_of ls y) (form_words f (position (program ls) n))
    unfolding placed words run
    words_exact k q =
        let e : kids_of ls y - k ≡ 0 = omega arith in
        let t : filled g (kids_of ls y) (form_words f (position (program ls) n)) ≡ map word (spread (argument xss) (form n)) =
        sym (filled_spread xss g (kids_of ls y) (argument_parts (lay_of ls u) form ps ρ F (kids_of ls y)) (form_words f (position (program ls) n))) in
        placed_words k
        ∙ (ap (λ (m : ℕ). grown (filled g (kids_of ls y) (form_words f (position (program ls) n))) m (run g k m)) e
        ∙ (ap (λ (l : List ℕ). grown l 0 []) t
        ∙ (grown_none (spread (argument xss) (form n)) (spread_small (argument xss) (λ i. argument_small xss i (each_small (lay_of ls u) form ps ρ form_small (parts_of ls passed y h))) (form n) (form_small n)) ∙ sym t)))

    pub words_placed : (k : ℕ) (qs : List ℕ) (c : Cty) → (lay_of ls u n ≡ newtype qs c) ⊎ (lay_of ls u n ≡ abbreviation qs c) → length qs ≡ k
        → words ls u f d places y ≡ map word (placed k (form n) xss)
    unfolding named
    words_placed k qs c (inl e) q = named_words (newtype qs c) e ∙ ap (λ (j : ℕ). map word (placed j (form n) xss)) q
    words_placed k qs c (inr e) q = named_words (abbreviation qs c) e ∙ ap (λ (j : ℕ). map word (placed j (form n) xss)) q
