-- Where the declarations of each rank begin and end. Assumes nothing.
use Rattle.std.specs.Prelude.{◌≡◌, refl, List, Bool, true, false, ℕ, ◌+◌, ◌≤◌, ◌<◌, eqb, length, get_or, set}
use Rattle.std.proofs.Common.{sym, subst, ◌∙◌, arith, length-set, get_or-set_same, get_or-set_other, eqb-true}
use Rattle.std.proofs.Math.Decide.{dec_lt}
use Rattle.std.proofs.lemmas.Bool.{eqb-false}

-- cell r is x, where there is one, and the others are as they were
pub record Marked (a : List ℕ) (r x : ℕ) (a' : List ℕ) : Type 0 where
  pub long : length a' ≡ length a
  pub here : r < length a → get_or a' r 0 ≡ x
  pub there : (i : ℕ) → (i ≡ r → ⊥) → get_or a' i 0 ≡ get_or a i 0
  pub past : length a ≤ r → get_or a' r 0 ≡ get_or a r 0

pub marked_set : (a : List ℕ) (r x : ℕ) → r < length a → Marked a r x (set a r x)
marked_set a r x h = record { long = length-set a r x; here = λ q. get_or-set_same a r x 0 h; there = λ i n. get_or-set_other a r i x 0 n; past = λ q. absurd (omega arith) }

pub marked_past : (a : List ℕ) (r x : ℕ) → length a ≤ r → Marked a r x a
marked_past a r x h = record { long = refl; here = λ q. absurd (omega arith); there = λ i n. refl; past = λ q. refl }

-- of the first n declarations each stands before its rank's end; no end is past `all`
pub record Ended (rank : List ℕ) (n all cells : ℕ) (end : List ℕ) : Type 0 where
  pub long : length end ≡ cells
  pub most : (r : ℕ) → get_or end r 0 ≤ all
  pub inside : (d : ℕ) → d < n → get_or rank d 0 < cells → d < get_or end (get_or rank d 0) 0

abbrev pub Ends : List ℕ → ℕ → List ℕ → Type 0
Ends rank cells end = Ended rank (length rank) (length rank) cells end

-- from declaration n on each stands at its rank's start or behind it
pub record Started (rank : List ℕ) (n cells : ℕ) (start : List ℕ) : Type 0 where
  pub long : length start ≡ cells
  pub inside : (d : ℕ) → n ≤ d → d < length rank → get_or rank d 0 < cells → get_or start (get_or rank d 0) 0 ≤ d

abbrev pub Starts : List ℕ → ℕ → List ℕ → Type 0
Starts rank cells start = Started rank 0 cells start

-- by the cells that there are
pub ends_own : (rank : List ℕ) (cells : ℕ) (end : List ℕ) → Ends rank cells end → Ends rank (length end) end
ends_own rank cells end h = subst (λ (k : ℕ). Ends rank k end) (sym h.long) h

pub starts_own : (rank : List ℕ) (cells : ℕ) (start : List ℕ) → Starts rank cells start → Starts rank (length start) start
starts_own rank cells start h = subst (λ (k : ℕ). Starts rank k start) (sym h.long) h

-- one declaration more
pub ended_more : (rank : List ℕ) (n all cells : ℕ) (a a' : List ℕ) → n < all → Ended rank n all cells a → Marked a (get_or rank n 0) (n + 1) a' → Ended rank (n + 1) all cells a'
ended_more rank n all cells a a' h e m =
    record {
      long = m.long ∙ e.long;
      most = λ r. most r (eqb r (get_or rank n 0)) refl;
      inside = λ d q k. inside d q k (eqb (get_or rank d 0) (get_or rank n 0)) refl;
    }
  where
    most : (r : ℕ) (c : Bool) → eqb r (get_or rank n 0) ≡ c → get_or a' r 0 ≤ all
    most r true z = go (dec_lt (get_or rank n 0) (length a))
      where
        v : r ≡ get_or rank n 0
        v = eqb-true r (get_or rank n 0) z

        go : Dec (get_or rank n 0 < length a) → get_or a' r 0 ≤ all
        go (yes x) = rw v (omega (arith, m.here x))
        go (no x) = rw v (omega (arith, m.past (omega (arith, x)), e.most (get_or rank n 0)))
    most r false z = omega (arith, m.there r (eqb-false r (get_or rank n 0) z), e.most r)

    inside : (d : ℕ) → d < n + 1 → get_or rank d 0 < cells → (c : Bool) → eqb (get_or rank d 0) (get_or rank n 0) ≡ c → d < get_or a' (get_or rank d 0) 0
    inside d q k true z =
        let v : get_or rank d 0 ≡ get_or rank n 0 = eqb-true (get_or rank d 0) (get_or rank n 0) z in
        rw v (omega (arith, m.here (omega (arith, e.long, v, k))))
    inside d q k false z = go (eqb d n) refl
      where
        v : get_or rank d 0 ≡ get_or rank n 0 → ⊥
        v = eqb-false (get_or rank d 0) (get_or rank n 0) z

        go : (c : Bool) → eqb d n ≡ c → d < get_or a' (get_or rank d 0) 0
        go true y = absurd (v (rw (eqb-true d n y) refl))
        go false y = omega (arith, m.there (get_or rank d 0) v, e.inside d (omega (arith, eqb-false d n y)) k)

pub started_more : (rank : List ℕ) (n cells : ℕ) (a a' : List ℕ) → Started rank (n + 1) cells a → Marked a (get_or rank n 0) n a' → Started rank n cells a'
started_more rank n cells a a' e m =
    record { long = m.long ∙ e.long; inside = λ d q l k. inside d q l k (eqb (get_or rank d 0) (get_or rank n 0)) refl }
  where
    inside : (d : ℕ) → n ≤ d → d < length rank → get_or rank d 0 < cells → (c : Bool) → eqb (get_or rank d 0) (get_or rank n 0) ≡ c → get_or a' (get_or rank d 0) 0 ≤ d
    inside d q l k true z =
        let v : get_or rank d 0 ≡ get_or rank n 0 = eqb-true (get_or rank d 0) (get_or rank n 0) z in
        rw v (omega (arith, m.here (omega (arith, e.long, v, k))))
    inside d q l k false z = go (eqb d n) refl
      where
        v : get_or rank d 0 ≡ get_or rank n 0 → ⊥
        v = eqb-false (get_or rank d 0) (get_or rank n 0) z

        go : (c : Bool) → eqb d n ≡ c → get_or a' (get_or rank d 0) 0 ≤ d
        go true y = absurd (v (rw (eqb-true d n y) refl))
        go false y = omega (arith, m.there (get_or rank d 0) v, e.inside d (omega (arith, eqb-false d n y)) l k)
