-- Laws of nodes: the nodes of a type with others put in and of one with a surplus; writing the nodes
-- of a type writes the type; how many lines it takes. Assumes nothing.
use Rattle.std.specs.Prelude.{◌≡◌, refl, List, [], ◌∷◌, ◌++◌, Bool, true, false, ℕ, zero, suc, ◌+◌, ◌-◌, ◌≤◌, eqb, length, take, drop}
use Rattle.std.proofs.Common.{ap, ap₂, sym, ◌∙◌, append_assoc, append-nil, arith, length-append, take_at, drop_at}
use Rattle.number_columns.specs.Column.{pick}
use Rattle.model.specs.Cty.{
  Cty,
  Ctys,
  TUnit,
  TAny,
  TExn,
  TVar,
  TInt,
  TFloat,
  TConst,
  TArrow,
  TApp,
  TTuple,
  TBuf,
  TRef,
  TInline,
  nil,
  cons,
  lengths,
  append,
  walk,
  walks,
  size,
  sizes,
}
use Rattle.model.specs.Resolve.{attach}
use Rattle.meaning.specs.Output.{Written, put, last, Members, listed, first_arg, emit, emits}
use Rattle.model_laws.specs.Cty.{lengths_append}
use Rattle.meaning_laws.specs.Output.{emit_adds, emits_adds}
use Rattle.form_laws.specs.SubstLaws.{lengths_walks}
use Rattle.form_laws.specs.Nodes.{
  Node,
  node,
  post,
  posts,
  spread,
  attached,
  Writing,
  taken,
  put_args,
  first_of,
  y_first,
  y_second,
  y_third,
  put_node,
  write_node,
  write_nodes,
  args_of,
  count_args,
}

-- ---- types put in
pub spread_append : (f : ℕ → List Node) (xs ys : List Node) → spread f (xs ++ ys) ≡ spread f xs ++ spread f ys
unfolding spread
spread_append f [] ys = refl
spread_append f (x ∷ xs) ys = go (eqb x.kind 3) (spread_append f xs ys)
  where
    go : (b : Bool) → spread f (xs ++ ys) ≡ spread f xs ++ spread f ys
        → elim b [ true ↦ f x.own ++ spread f (xs ++ ys) | false ↦ x ∷ spread f (xs ++ ys) ]
        ≡ elim b [ true ↦ f x.own ++ spread f xs | false ↦ x ∷ spread f xs ] ++ spread f ys
    go true e = ap (λ (l : List Node). f x.own ++ l) e ∙ sym (append_assoc (f x.own) (spread f xs) (spread f ys))
    go false e = ap (λ (l : List Node). x ∷ l) e

module _ (σ : ℕ → Cty) where
  abbrev at_var : ℕ → List Node
  at_var v = post (σ v)

  mutual
    unfolding post walk spread

    -- R7, of a substitution
    pub post_put : (c : Cty) → post (walk σ TApp c) ≡ spread at_var (post c)
    post_put TUnit = refl
    post_put TAny = refl
    post_put TExn = refl
    post_put (TVar v) = sym (append-nil (post (σ v)))
    post_put (TInt s w) = refl
    post_put (TFloat f) = refl
    post_put (TConst c) = refl
    post_put (TArrow a e b) =
        rw (post_put a, post_put b, spread_append at_var (post a) (post b ++ (node 7 2 e ∷ [])), spread_append at_var (post b) (node 7 2 e ∷ []))
    post_put (TApp n ts) =
        rw (posts_put ts, lengths_walks σ TApp ts, spread_append at_var (posts ts) (node 8 (lengths ts) n ∷ []))
    post_put (TTuple ts) =
        rw (posts_put ts, lengths_walks σ TApp ts, spread_append at_var (posts ts) (node 9 (lengths ts) 0 ∷ []))
    post_put (TBuf t) = rw (post_put t, spread_append at_var (post t) (node 10 1 0 ∷ []))
    post_put (TRef k t) = rw (post_put t, spread_append at_var (post t) (node 11 1 k ∷ []))
    post_put (TInline t) = rw (post_put t, spread_append at_var (post t) (node 12 1 0 ∷ []))

    pub posts_put : (ts : Ctys) → posts (walks σ TApp ts) ≡ spread at_var (posts ts)
    posts_put nil = refl
    posts_put (cons t ts) = rw (post_put t, posts_put ts, spread_append at_var (post t) (posts ts))

-- ---- a surplus
attached_last : (xs : List Node) (x : Node) (n : ℕ) (ys : List Node) → attached (xs ++ (x ∷ [])) n ys ≡ xs ++ attached (x ∷ []) n ys
unfolding attached
attached_last [] x n ys = refl
attached_last (y ∷ []) x n ys = refl
attached_last (y ∷ z ∷ xs) x n ys = ap (λ (l : List Node). y ∷ l) (attached_last (z ∷ xs) x n ys)

pub posts_append : (ts us : Ctys) → posts (append ts us) ≡ posts ts ++ posts us
unfolding post append
posts_append nil us = refl
posts_append (cons t ts) us = rw (posts_append ts us, append_assoc (post t) (posts ts) (posts us))

-- R7, of a surplus
pub post_attach : (c : Cty) (us : Ctys) → post (attach c us) ≡ attached (post c) (lengths us) (posts us)
unfolding post attach attached
post_attach TUnit us = refl
post_attach TAny us = refl
post_attach TExn us = refl
post_attach (TVar v) us = refl
post_attach (TInt s w) us = refl
post_attach (TFloat f) us = refl
post_attach (TConst c) us = refl
post_attach (TArrow a e b) us =
    sym (ap (λ (l : List Node). attached l (lengths us) (posts us)) (sym (append_assoc (post a) (post b) (node 7 2 e ∷ [])))
    ∙ (attached_last (post a ++ post b) (node 7 2 e) (lengths us) (posts us) ∙ append_assoc (post a) (post b) (node 7 2 e ∷ [])))
post_attach (TApp n ts) us =
    rw (attached_last (posts ts) (node 8 (lengths ts) n) (lengths us) (posts us), posts_append ts us, lengths_append ts us, append_assoc (posts ts) (posts us))
post_attach (TTuple ts) us = sym (attached_last (posts ts) (node 9 (lengths ts) 0) (lengths us) (posts us))
post_attach (TBuf t) us = sym (attached_last (post t) (node 10 1 0) (lengths us) (posts us))
post_attach (TRef k t) us = sym (attached_last (post t) (node 11 1 k) (lengths us) (posts us))
post_attach (TInline t) us = sym (attached_last (post t) (node 12 1 0) (lengths us) (posts us))

-- ---- writing
abbrev pub writing : Written → List ℕ → Writing
writing w st = record { written = w; stack = st }

-- a node whose children are on the stack
pub write_taken : (x : Node) (w : Written) (st ns : List ℕ) → taken x ≡ length ns
    → write_node x (writing w (st ++ ns)) ≡ writing (put_node x ns w) (st ++ (last (put_node x ns w) ∷ []))
unfolding write_node
write_taken x w st ns e =
    ap₂ (λ (ms ts : List ℕ). writing (put_node x ms w) (ts ++ (last (put_node x ms w) ∷ []))) (drop_at st ns at size) (take_at st ns at size)
  where
    at : ℕ
    at = length (st ++ ns) - taken x

    size : length st ≡ at
    size = omega (arith, length-append st ns)

pub write_nodes_append : (xs ys : List Node) (s : Writing) → write_nodes (xs ++ ys) s ≡ write_nodes ys (write_nodes xs s)
unfolding write_nodes
write_nodes_append [] ys s = refl
write_nodes_append (x ∷ xs) ys s = write_nodes_append xs ys (write_node x s)

-- a node without children
write_leaf : (x : Node) (w : Written) (st : List ℕ) → taken x ≡ 0
    → write_nodes (x ∷ []) (writing w st) ≡ writing (put_node x [] w) (st ++ (last (put_node x [] w) ∷ []))
unfolding write_nodes
write_leaf x w st e = ap (λ (l : List ℕ). write_node x (writing w l)) (sym (append-nil st)) ∙ write_taken x w st [] e

-- after nodes that leave their Y lines on the stack
write_owner : (xs : List Node) (x : Node) (w v : Written) (st ns : List ℕ) → taken x ≡ length ns
    → write_nodes xs (writing w st) ≡ writing v (st ++ ns)
    → write_nodes (xs ++ (x ∷ [])) (writing w st) ≡ writing (put_node x ns v) (st ++ (last (put_node x ns v) ∷ []))
unfolding write_nodes
write_owner xs x w v st ns e h =
    write_nodes_append xs (x ∷ []) (writing w st) ∙ (ap (write_node x) h ∙ write_taken x v st ns e)

abbrev done : Cty → Written → List ℕ → Writing
done c w st = writing (emit c w) (st ++ (last (emit c w) ∷ []))

abbrev dones : Ctys → Written → List ℕ → Writing
dones ts w st = writing (emits ts w).written (st ++ (emits ts w).numbers)

-- how many members of a list are written
numbers_length : (ts : Ctys) (w : Written) → length (emits ts w).numbers ≡ lengths ts
numbers_length ts w = (emits_adds ts w).1

mutual
  unfolding post emit write_nodes put_node put_args taken y_first y_second y_third first_of put

  -- Writing the nodes of a type is `emit`, its Y line then being the last of the stack.
  pub write_post : (c : Cty) (w : Written) (st : List ℕ) → write_nodes (post c) (writing w st) ≡ done c w st
  write_post TUnit w st = write_leaf (node 0 0 0) w st refl
  write_post TAny w st = write_leaf (node 1 0 0) w st refl
  write_post TExn w st = write_leaf (node 2 0 0) w st refl
  write_post (TVar v) w st = write_leaf (node 3 0 v) w st refl
  write_post (TInt s x) w st = write_leaf (node 4 s x) w st refl
  write_post (TFloat f) w st = write_leaf (node 5 0 f) w st refl
  write_post (TConst c) w st = write_leaf (node 6 0 c) w st refl
  write_post (TArrow a e b) w st =
      let x : Written = emit a w in
      let y : Written = emit b x in
      ap (λ (l : List Node). write_nodes l (writing w st)) (sym (append_assoc (post a) (post b) (node 7 2 e ∷ [])))
      ∙ write_owner (post a ++ post b) (node 7 2 e) w y st (last x ∷ last y ∷ []) refl
      (write_nodes_append (post a) (post b) (writing w st)
      ∙ (ap (write_nodes (post b)) (write_post a w st)
      ∙ (write_post b x (st ++ (last x ∷ [])) ∙ ap (writing y) (append_assoc st (last x ∷ []) (last y ∷ [])))))
  write_post (TApp n ts) w st =
      let m : Members = emits ts w in
      write_owner (posts ts) (node 8 (lengths ts) n) w m.written st m.numbers (sym (numbers_length ts w)) (write_posts ts w st)
      ∙ ap (λ (k : ℕ). let v : Written = put (listed m) 8 n (pick (eqb k 0) 0 (length m.written.args)) k in writing v (st ++ (last v ∷ []))) (sym (numbers_length ts w))
  write_post (TTuple ts) w st =
      let m : Members = emits ts w in
      write_owner (posts ts) (node 9 (lengths ts) 0) w m.written st m.numbers (sym (numbers_length ts w)) (write_posts ts w st)
      ∙ ap (λ (k : ℕ). let v : Written = put (listed m) 9 (pick (eqb k 0) 0 (length m.written.args)) k 0 in writing v (st ++ (last v ∷ []))) (sym (numbers_length ts w))
  write_post (TBuf t) w st = write_owner (post t) (node 10 1 0) w (emit t w) st (last (emit t w) ∷ []) refl (write_post t w st)
  write_post (TRef k t) w st = write_owner (post t) (node 11 1 k) w (emit t w) st (last (emit t w) ∷ []) refl (write_post t w st)
  write_post (TInline t) w st = write_owner (post t) (node 12 1 0) w (emit t w) st (last (emit t w) ∷ []) refl (write_post t w st)

  pub write_posts : (ts : Ctys) (w : Written) (st : List ℕ) → write_nodes (posts ts) (writing w st) ≡ dones ts w st
  write_posts nil w st = ap (writing w) (sym (append-nil st))
  write_posts (cons t ts) w st =
      write_nodes_append (post t) (posts ts) (writing w st)
      ∙ (ap (write_nodes (posts ts)) (write_post t w st)
      ∙ (write_posts ts (emit t w) (st ++ (last (emit t w) ∷ []))
      ∙ ap (writing (emits ts (emit t w)).written) (append_assoc st (last (emit t w) ∷ []) (emits ts (emit t w)).numbers)))

-- ---- counting
pub count_args_append : (xs ys : List Node) → count_args (xs ++ ys) ≡ count_args xs + count_args ys
unfolding count_args
count_args_append [] ys = omega arith
count_args_append (x ∷ xs) ys = omega (arith, count_args_append xs ys)

mutual
  unfolding post size

  -- as many nodes as the type has
  pub length_post : (c : Cty) → length (post c) ≡ size c
  length_post TUnit = refl
  length_post TAny = refl
  length_post TExn = refl
  length_post (TVar v) = refl
  length_post (TInt s w) = refl
  length_post (TFloat f) = refl
  length_post (TConst c) = refl
  length_post (TArrow a e b) =
      omega (arith, length-append (post a) (post b ++ (node 7 2 e ∷ [])), length-append (post b) (node 7 2 e ∷ []), length_post a, length_post b)
  length_post (TApp n ts) = omega (arith, length-append (posts ts) (node 8 (lengths ts) n ∷ []), length_posts ts)
  length_post (TTuple ts) = omega (arith, length-append (posts ts) (node 9 (lengths ts) 0 ∷ []), length_posts ts)
  length_post (TBuf t) = omega (arith, length-append (post t) (node 10 1 0 ∷ []), length_post t)
  length_post (TRef k t) = omega (arith, length-append (post t) (node 11 1 k ∷ []), length_post t)
  length_post (TInline t) = omega (arith, length-append (post t) (node 12 1 0 ∷ []), length_post t)

  pub length_posts : (ts : Ctys) → length (posts ts) ≡ sizes ts
  length_posts nil = refl
  length_posts (cons t ts) = omega (arith, length-append (post t) (posts ts), length_post t, length_posts ts)

mutual
  unfolding post emit put count_args args_of

  -- the A lines that a type adds
  pub emit_args : (c : Cty) (w : Written) → length (emit c w).args ≡ length w.args + count_args (post c)
  emit_args TUnit w = omega arith
  emit_args TAny w = omega arith
  emit_args TExn w = omega arith
  emit_args (TVar v) w = omega arith
  emit_args (TInt s x) w = omega arith
  emit_args (TFloat f) w = omega arith
  emit_args (TConst c) w = omega arith
  emit_args (TArrow a e b) w =
      omega
      (arith, emit_args a w, emit_args b (emit a w), count_args_append (post a) (post b ++ (node 7 2 e ∷ [])), count_args_append (post b) (node 7 2 e ∷ []))
  emit_args (TApp n ts) w =
      omega
      (arith, emits_args ts w, numbers_length ts w, length-append (emits ts w).written.args (emits ts w).numbers, count_args_append (posts ts) (node 8 (lengths ts) n ∷ []))
  emit_args (TTuple ts) w =
      omega
      (arith, emits_args ts w, numbers_length ts w, length-append (emits ts w).written.args (emits ts w).numbers, count_args_append (posts ts) (node 9 (lengths ts) 0 ∷ []))
  emit_args (TBuf t) w = omega (arith, emit_args t w, count_args_append (post t) (node 10 1 0 ∷ []))
  emit_args (TRef k t) w = omega (arith, emit_args t w, count_args_append (post t) (node 11 1 k ∷ []))
  emit_args (TInline t) w = omega (arith, emit_args t w, count_args_append (post t) (node 12 1 0 ∷ []))

  pub emits_args : (ts : Ctys) (w : Written) → length (emits ts w).written.args ≡ length w.args + count_args (posts ts)
  emits_args nil w = omega arith
  emits_args (cons t ts) w = omega (arith, emit_args t w, emits_args ts (emit t w), count_args_append (post t) (posts ts))

-- the Y lines that a type adds
pub emit_types : (c : Cty) (w : Written) → length (emit c w).types ≡ length w.types + length (post c)
emit_types c w = omega (arith, (emit_adds c w).types_count, length_post c)
