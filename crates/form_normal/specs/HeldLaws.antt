-- Words hold the nodes of a type of at most 1,024 nodes whose numbers have room. Assumes nothing.
use Rattle.std.specs.Prelude.{◌≡◌, List, [], ◌∷◌, ◌++◌, ℕ, ◌+◌, ◌≤◌, ◌<◌}
use Rattle.std.proofs.Common.{arith}
use Rattle.sheet.proofs.ListLaws.{Every, every_append}
use Rattle.model.specs.Cty.{Cty, Ctys, TUnit, TAny, TExn, TVar, TInt, TFloat, TConst, TArrow, TApp, TTuple, TBuf, TRef, TInline, nil, cons, lengths, walk, walks, size, sizes}
use Rattle.model_laws.specs.Cty.{size_positive}
use Rattle.meaning_laws.specs.Output.{TypeNumbers, TypesNumbers}
use Rattle.form_laws.specs.Nodes.{Node, node, post, posts}
use Rattle.form_laws.specs.Forms.{renamed}
use Rattle.form_nodes.specs.WordsLaws.{Room, nodes_words}
use Rattle.form_normal.specs.LeftLaws.{held}

-- a sign stands in the place of a count, any other number in a place of its own
abbrev pub Sign : ℕ → Type 0
Sign s = s < 1024

abbrev pub Own : ℕ → Type 0
Own n = n < 4294967296

abbrev pub Held : Cty → Type 0
Held = TypeNumbers Sign Own

abbrev pub Helds : Ctys → Type 0
Helds = TypesNumbers Sign Own

pub lengths_sizes : (ts : Ctys) → lengths ts ≤ sizes ts
unfolding lengths size
lengths_sizes nil = omega arith
lengths_sizes (cons t ts) = omega (arith, lengths_sizes ts, size_positive t)

room : (k n d : ℕ) → k < 16 → n < 1024 → d < 4294967296 → Room (node k n d)
room k n d a b c = record { kinds = a; counts = b; owns = c }

owner : (xs : List Node) (k n d : ℕ) → k < 16 → n < 1024 → d < 4294967296 → Every Room xs → Every Room (xs ++ (node k n d ∷ []))
owner xs k n d a b c h = every_append Room xs (node k n d ∷ []) h (room k n d a b c, tt)

mutual
  unfolding post size

  pub post_room : (c : Cty) → Held c → size c ≤ 1024 → Every Room (post c)
  post_room TUnit h q = (room 0 0 0 (omega arith) (omega arith) (omega arith), tt)
  post_room TAny h q = (room 1 0 0 (omega arith) (omega arith) (omega arith), tt)
  post_room TExn h q = (room 2 0 0 (omega arith) (omega arith) (omega arith), tt)
  post_room (TVar v) h q = (room 3 0 v (omega arith) (omega arith) h, tt)
  post_room (TInt s w) h q = (room 4 s w (omega arith) h.0 h.1, tt)
  post_room (TFloat f) h q = (room 5 0 f (omega arith) (omega arith) h, tt)
  post_room (TConst c) h q = (room 6 0 c (omega arith) (omega arith) h, tt)
  post_room (TArrow a e b) h q =
      every_append Room (post a) (post b ++ (node 7 2 e ∷ [])) (post_room a h.0 (omega arith)) (owner (post b) 7 2 e (omega arith) (omega arith) h.1 (post_room b h.2 (omega arith)))
  post_room (TApp n ts) h q = owner (posts ts) 8 (lengths ts) n (omega arith) (omega (arith, lengths_sizes ts)) h.0 (posts_room ts h.1 (omega arith))
  post_room (TTuple ts) h q = owner (posts ts) 9 (lengths ts) 0 (omega arith) (omega (arith, lengths_sizes ts)) (omega arith) (posts_room ts h (omega arith))
  post_room (TBuf t) h q = owner (post t) 10 1 0 (omega arith) (omega arith) (omega arith) (post_room t h (omega arith))
  post_room (TRef k t) h q = owner (post t) 11 1 k (omega arith) (omega arith) h.0 (post_room t h.1 (omega arith))
  post_room (TInline t) h q = owner (post t) 12 1 0 (omega arith) (omega arith) (omega arith) (post_room t h (omega arith))

  pub posts_room : (ts : Ctys) → Helds ts → sizes ts ≤ 1024 → Every Room (posts ts)
  posts_room nil h q = tt
  posts_room (cons t ts) h q = every_append Room (post t) (posts ts) (post_room t h.0 (omega arith)) (posts_room ts h.1 (omega arith))

pub post_held : (c : Cty) → Held c → size c ≤ 1024 → held (post c) ≡ post c
unfolding held
post_held c h q = nodes_words (post c) (post_room c h q)

-- with other numbers for its variables
module _ (ρ : ℕ → ℕ) (small : (v : ℕ) → ρ v < 4294967296) where
  mutual
    unfolding renamed walk

    pub renamed_held : (c : Cty) → Held c → Held (renamed ρ c)
    renamed_held TUnit h = tt
    renamed_held TAny h = tt
    renamed_held TExn h = tt
    renamed_held (TVar v) h = small v
    renamed_held (TInt s w) h = h
    renamed_held (TFloat f) h = h
    renamed_held (TConst c) h = h
    renamed_held (TArrow a e b) h = (renamed_held a h.0, h.1, renamed_held b h.2)
    renamed_held (TApp n ts) h = (h.0, renameds_held ts h.1)
    renamed_held (TTuple ts) h = renameds_held ts h
    renamed_held (TBuf t) h = renamed_held t h
    renamed_held (TRef k t) h = (h.0, renamed_held t h.1)
    renamed_held (TInline t) h = renamed_held t h

    pub renameds_held : (ts : Ctys) → Helds ts → Helds (walks (λ v. TVar (ρ v)) TApp ts)
    renameds_held nil h = tt
    renameds_held (cons t ts) h = (renamed_held t h.0, renameds_held ts h.1)

  mutual
    unfolding renamed walk size

    pub renamed_size : (c : Cty) → size (renamed ρ c) ≡ size c
    renamed_size TUnit = omega arith
    renamed_size TAny = omega arith
    renamed_size TExn = omega arith
    renamed_size (TVar v) = omega arith
    renamed_size (TInt s w) = omega arith
    renamed_size (TFloat f) = omega arith
    renamed_size (TConst c) = omega arith
    renamed_size (TArrow a e b) = omega (arith, renamed_size a, renamed_size b)
    renamed_size (TApp n ts) = omega (arith, renameds_size ts)
    renamed_size (TTuple ts) = omega (arith, renameds_size ts)
    renamed_size (TBuf t) = omega (arith, renamed_size t)
    renamed_size (TRef k t) = omega (arith, renamed_size t)
    renamed_size (TInline t) = omega (arith, renamed_size t)

    renameds_size : (ts : Ctys) → sizes (walks (λ v. TVar (ρ v)) TApp ts) ≡ sizes ts
    renameds_size nil = omega arith
    renameds_size (cons t ts) = omega (arith, renamed_size t, renameds_size ts)

  -- a normal form's variables are places
  pub renamed_kept : (c : Cty) → Held c → size c ≤ 1024 → held (post (renamed ρ c)) ≡ post (renamed ρ c)
  renamed_kept c h q = post_held (renamed ρ c) (renamed_held c h) (omega (arith, renamed_size c))
