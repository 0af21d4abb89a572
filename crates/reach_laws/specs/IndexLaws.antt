-- What the reach index holds, in terms without a search, and how many a set holds. Assumes nothing.
use Rattle.std.specs.Prelude.{◌↔◌, ◌≡◌, refl, Bool, true, false}
use Rattle.std.proofs.Math.Path.{sym}
use Rattle.std.proofs.Common.{◌∙◌, ap, ap₂, subst, mul-le-mul_right}
use mathlib.Core.List.Memᴰ
use mathlib.Core.List.{List, Memᴰ}
use Prim.Native.Nat.{ℕ, ◌+◌, ◌*◌, ◌/◌, ◌%◌, ◌^◌, ◌-◌, ◌≤◌, ◌<◌}
use Rattle.std.proofs.Math.Decide.{dec_lt}
use native.Mathlib.Omega.{arith}
use Rattle.std.proofs.Math.ListN.{length, get_or, get_or-eq_default}
use Rattle.sheet.proofs.ListLaws.{same_test}
use Rattle.model.specs.Decl.{Decl, no_decl, dtype_at, table}
use Rattle.model.specs.Names.{body_names, dtype_names}
use Rattle.model.specs.Layout.{positions}
use Rattle.model.specs.Reach.{Reach, one, more}
use Rattle.model_laws.specs.Lists.{true_of, trues, table_cong}
use Rattle.model_laws.specs.Layout.{positions_placed}
use Rattle.model_laws.specs.Reach.{reach_trans, reached, reached_iff}
use Rattle.set_bits.specs.Bits.{has, cleared}
use Rattle.set_bits.specs.BitsLaws.{row_before, has_words, length_cleared, cleared_far, cleared_none}
use Rattle.set_search.specs.Search.{steps}
use Rattle.set_search.specs.SearchLaws.{mem_steps, steps_mem, steps_within, reach_same, Holds}
use Rattle.set_closure.specs.Closure.{Closed}
use Rattle.set_closure.specs.Ones.{ones_of}
use Rattle.set_closure.specs.OnesLaws.{trues_table, no_bits, members_ones}
use Rattle.answer_reach.specs.Index.{decl_next, reaches, reached_count}
use Rattle.answer_reach.specs.Given.{IndexOf}

module _ (ds : List Decl) where
  -- ---- steps
  -- a step ends at a declaration,
  pub next_below : (a b : ℕ) → Memᴰ b (decl_next ds a) → b < length ds
  unfolding decl_next
  next_below a b m = (positions_placed ds (dtype_names (dtype_at ds a)) b m).below

  -- and begins at one
  next_from : (a b : ℕ) → Memᴰ b (decl_next ds a) → a < length ds
  unfolding decl_next dtype_names body_names positions
  next_from a b m = go (dec_lt a (length ds)) m
    where
      go : Dec (a < length ds) → Memᴰ b (positions ds (body_names (dtype_at ds a).dt_body)) → a < length ds
      go (yes h) x = h
      go (no h) x =
          let e : get_or ds a no_decl ≡ no_decl = get_or-eq_default ds no_decl (omega arith) in
          absurd (Memᴰ.not-nil (subst (λ (d : Decl). Memᴰ b (positions ds (body_names d.dtype.dt_body))) e x))

  -- ---- sets
  -- The search finds what is reached.
  pub reaches_iff : (i j : ℕ) → (reaches ds i j ≡ true) ↔ Reach (decl_next ds) i j
  unfolding reaches
  reaches_iff i j = let r = reached_iff (decl_next ds) (length ds) next_below i j in (λ e. r.0 (rw e tt), λ w. true_of _ (r.1 w))

  -- Both are declarations.
  pub reach_below : (i j : ℕ) → Reach (decl_next ds) i j → (i < length ds) × (j < length ds)
  reach_below i j (one m) = (next_from i j m, next_below i j m)
  reach_below i j (more m r) = (next_from i _ m, (reach_below _ j r).1)

  none_true : (b : Bool) → (b ≡ true → ⊥) → b ≡ false
  none_true true h = absurd (h refl)
  none_true false h = refl

  pub reaches_from : (i j : ℕ) → length ds ≤ i → reaches ds i j ≡ false
  reaches_from i j h = none_true (reaches ds i j) (λ e. omega (arith, h, (reach_below i j ((reaches_iff i j).0 e)).0))

  pub reaches_past : (i j : ℕ) → length ds ≤ j → reaches ds i j ≡ false
  reaches_past i j h = none_true (reaches ds i j) (λ e. omega (arith, h, (reach_below i j ((reaches_iff i j).0 e)).1))

  -- What is reached from there is reached from here.
  pub reaches_trans : (i j k : ℕ) → reaches ds i j ≡ true → reaches ds j k ≡ true → reaches ds i k ≡ true
  reaches_trans i j k a b = (reaches_iff i k).1 (reach_trans (decl_next ds) ((reaches_iff i j).0 a) ((reaches_iff j k).0 b))

  -- ---- counts
  -- The ones of a set's words are how many it holds.
  pub ones_count : (n words : ℕ) (s : List ℕ) → IndexOf n words ds s → length ds ≤ 64 * words → ((k : ℕ) → get_or s k 0 < 2 ^ 64) → (i : ℕ) → i < n → ones_of s (i * words) words ≡ reached_count ds i
  unfolding reached_count
  ones_count n words s x wide fit i h =
      let m : ℕ = length ds in
      let e : 64 * words ≡ m + (64 * words - m) = omega arith in
      sym (members_ones s (i * words) words (λ k l. fit (i * words + k)))
      ∙ (ap (λ (k : ℕ). trues (table (has s (i * words)) k)) e
      ∙ (trues_table (has s (i * words)) m (64 * words - m)
      ∙ (ap₂ ◌+◌ (ap trues (table_cong (has s (i * words)) (reaches ds i) m (λ j l. x.bits i j h (omega (arith, l, wide)))))
      (no_bits (λ j. has s (i * words) (m + j)) (64 * words - m) (λ j l. x.bits i (m + j) h (omega (arith, l)) ∙ reaches_past i (m + j) (omega arith)))
      ∙ omega arith)))

  -- ---- what the closure of the steps holds
  module _ (words : ℕ) (t t' : List ℕ) (h : Holds (decl_next ds) (length ds) words t) (c : Closed (length ds) words t t') where
    pub closed_reaches : (a m : ℕ) → a < length ds → m < 64 * words → has t' (a * words) m ≡ reaches ds a m
    closed_reaches a m l k =
        same_test (has t' (a * words) m) (reaches ds a m)
        (λ e. (reaches_iff a m).1 (reach_same (steps (length ds) words t) (decl_next ds) (length ds) (steps_within (length ds) words t) there a m l ((c.rows a m l k).0 e)))
        (λ e. (c.rows a m l k).1 (reach_same (decl_next ds) (steps (length ds) words t) (length ds) next_below back a m l ((reaches_iff a m).0 e)))
      where
        there : (a b : ℕ) → a < length ds → Memᴰ b (steps (length ds) words t a) → Memᴰ b (decl_next ds a)
        there a b l x = let r = steps_mem (length ds) words t a b x in (h.row a b l (omega (arith, r.0, h.wide))).0 r.1

        back : (a b : ℕ) → a < length ds → Memᴰ b (decl_next ds a) → Memᴰ b (steps (length ds) words t a)
        back a b l x = let k = next_below a b x in mem_steps (length ds) words t a b k ((h.row a b l (omega (arith, k, h.wide))).1 x)

    -- with the sets of declarations that are not there
    pub index_of : (n : ℕ) → length ds ≤ n → length t' ≡ n * words → IndexOf n words ds (cleared t' (length ds * words) (n * words - length ds * words))
    unfolding has
    index_of n few long =
        record { long = length_cleared t' at w ∙ long; bits = λ i j l k. go i j l k (dec_lt i (length ds)) }
      where
        at : ℕ
        at = length ds * words

        w : ℕ
        w = n * words - length ds * words

        fits : at ≤ n * words
        fits = mul-le-mul_right words few

        -- bits of later words of a set
        shifted : (s : List ℕ) (from k m : ℕ) → has s from (64 * k + m) ≡ has s (from + k) m
        shifted s from k m =
            let q : from + (64 * k + m) / 64 ≡ from + k + m / 64 = omega arith in
            let r : (64 * k + m) % 64 ≡ m % 64 = omega arith in
            rw (q, r)

        go : (i j : ℕ) → i < n → j < 64 * words → Dec (i < length ds) → has (cleared t' at w) (i * words) j ≡ reaches ds i j
        go i j l k (yes h) = has_words t' (cleared t' at w) (i * words) j (cleared_far t' at w (i * words + j / 64) (λ q. omega (arith, q, row_before i (length ds) words h, k))) ∙ closed_reaches i j h k
        go i j l k (no h) =
            let p : at ≤ i * words = mul-le-mul_right words (omega arith) in
            let e : at + (i * words - at) ≡ i * words = omega arith in
            ap (λ (x : ℕ). has (cleared t' at w) x j) (sym e)
            ∙ (sym (shifted (cleared t' at w) at (i * words - at) j)
            ∙ (cleared_none t' at w (omega (arith, fits, long)) (64 * (i * words - at) + j) (omega (arith, row_before i n words l, p, k))
            ∙ sym (reaches_from i j (omega arith))))
