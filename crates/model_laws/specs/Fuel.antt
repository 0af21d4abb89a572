-- Fuel: in a program of which no unfolded name returns to itself, the fuel of the resolution is not
-- spent. Assumes nothing.
use Rattle.std.proofs.Common.{⊎_elim, sym, ◌∙◌, ap}
use Rattle.std.proofs.Math.Path.{◌≡◌, refl, subst}
use mathlib.Core.List.{List, Memᴰ}
use Rattle.std.proofs.Math.Bool.{true, false}
use Rattle.std.specs.Prelude.{ℕ, zero, suc, ◌≤◌, ◌<◌}
use native.Mathlib.Omega.{arith}
use Rattle.std.proofs.Math.ListN.{length}
use Rattle.model.specs.Cty.{Cty, names_of_cty}
use Rattle.model.specs.Decl.{Decl, position}
use Rattle.model.specs.Layout.{type_names, steps, names_in}
use Rattle.model.specs.Reach.{Reach}
use Rattle.model.specs.Resolve.{unfolded, Unfold, gone, newtype, abbreviation, stays, unfold_name, resolve, resolve_checked}
use Rattle.model.specs.Run.{layouts_of, unfold_next, returns, lay}
use Rattle.model.specs.Names.{Declared}
use Rattle.model_laws.specs.Reach.{cyclic_complete, rank, rank_less, rank_bound}
use Rattle.model_laws.specs.Layout.{names_in_iff, unfold_below}
use Rattle.model_laws.specs.Cty.{All, names_all}
use Rattle.model_laws.specs.Resolve.{Unspent, Unfolds, BodyAll, Under, Ranked, resolve_more, checked_unspent, checked_more}
use Rattle.model_laws.specs.Locality.{lay_foreign}
use Rattle.model_laws.specs.Names.{declared_cases}

-- no unfolded name returns to itself: row 8
abbrev pub NoReturn : List Decl → Type 0
NoReturn ds = (i : ℕ) → i < length ds → returns ds (layouts_of ds) i ≡ false

module _ (ds : List Decl) (clear : NoReturn ds) where
  abbrev next : ℕ → List ℕ
  next = unfold_next ds (layouts_of ds)

  -- how many unfolded declarations a name reaches
  unfoldable pub rank_of : ℕ → ℕ
  rank_of n = rank next (length ds) (position ds n)

  no_loop : (i : ℕ) → i < length ds → Reach next i i → ⊥
  unfolding returns
  no_loop i h r =
      let e : returns ds (layouts_of ds) i ≡ true = cyclic_complete next (length ds) i (unfold_below ds (layouts_of ds)) r in
      let f : returns ds (layouts_of ds) i ≡ false = clear i h in
      let z : ◌≡◌ {A = ℕ} 0 1 = cc in
      omega arith

  unfolds_declared : (n : ℕ) → Unfolds (lay ds n) → Declared ds n
  unfolds_declared n u = ⊎_elim (λ d. d) (λ e. absurd (subst Unfolds (lay_foreign ds n (omega arith)) u)) (declared_cases ds n)

  -- an unfolded name in the body of another has a lower rank
  lower : (n m : ℕ) (c : Cty) → type_names ds (unfolded (lay ds n)) ≡ names_in ds c → Memᴰ m (names_of_cty c) → Unfolds (lay ds m) → rank_of m < rank_of n
  unfolding rank_of unfold_next steps unfold_name
  lower n m c e k u =
      let d : Declared ds m = unfolds_declared m u in
      let p : Memᴰ (position ds m) (names_in ds c) = (names_in_iff ds c (position ds m)).1 (record { name = m; named = k; placed = refl; below = d }) in
      rank_less next (length ds) (unfold_below ds (layouts_of ds)) (position ds n) (position ds m) (rw e p) (no_loop (position ds m) d)

  pub ranked : Ranked (lay ds) rank_of
  unfolding unfolded type_names
  ranked n = go (lay ds n) refl
    where
      go : (u : Unfold) → lay ds n ≡ u → BodyAll (Under (lay ds) rank_of (rank_of n)) u
      go gone e = tt
      go (newtype ps c) e = names_all (Under (lay ds) rank_of (rank_of n)) c (λ m k u. lower n m c (ap (λ (u : Unfold). type_names ds (unfolded u)) e) k u)
      go (abbreviation ps c) e = names_all (Under (lay ds) rank_of (rank_of n)) c (λ m k u. lower n m c (ap (λ (u : Unfold). type_names ds (unfolded u)) e) k u)
      go stays e = tt

  pub under_all : (c : Cty) → All (Under (lay ds) rank_of (length ds)) c
  unfolding rank_of
  under_all c =
      names_all (Under (lay ds) rank_of (length ds)) c
      (λ m k u. let d : Declared ds m = unfolds_declared m u in rank_bound next (length ds) (unfold_below ds (layouts_of ds)) (position ds m) d (no_loop (position ds m) d))

  -- With more fuel than there are declarations, none is spent, and nothing is left to unfold.
  module _ (k : ℕ) (enough : length ds ≤ k) where
    pub fuel_unspent : (limit : ℕ) (c : Cty) → Unspent (resolve_checked limit (lay ds) (suc k) c)
    fuel_unspent limit c =
        subst Unspent (checked_more (lay ds) rank_of ranked limit (length ds) k enough c (under_all c)) (checked_unspent (lay ds) rank_of ranked limit (length ds) c (under_all c))

  -- any two fuels above the number of declarations give the same
  pub fuel_same : (a b : ℕ) → length ds < a → length ds < b → (c : Cty) → resolve (lay ds) a c ≡ resolve (lay ds) b c
  fuel_same zero b h k c = absurd (omega arith)
  fuel_same (suc a) zero h k c = absurd (omega arith)
  fuel_same (suc a) (suc b) h k c =
      sym (resolve_more (lay ds) rank_of ranked (length ds) a (omega arith) c (under_all c)) ∙ resolve_more (lay ds) rank_of ranked (length ds) b (omega arith) c (under_all c)
