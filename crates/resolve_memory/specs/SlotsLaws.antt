-- Laws of slots: cells that are compared, and cells that are written. Assumes nothing.
use Rattle.std.specs.Prelude.{◌⊎◌, ◌≡◌, refl, List, [], ◌∷◌, ◌++◌, Bool, true, false, ℕ, zero, suc, ◌+◌, ◌*◌, ◌≤◌, ◌<◌, eqb, ltb, length, get_or, set}
use Rattle.std.proofs.Common.{inl, inr, ap, ap₂, sym, ◌∙◌, arith, length-set, get_or-set_same, get_or-set_other, eqb-true, ltb-true, ltb-false}
use Rattle.std.proofs.lemmas.Bool.{eqb-false}
use Rattle.resolve_outcomes.specs.Answer.{nine}
use Rattle.resolve_outcomes.specs.Scratch.{part}
use Rattle.resolve_outcomes.proofs.Laws.Scratch.{part_none, part_last, part_length, part_set}
use Rattle.resolve_memory.specs.Slots.{Holds, Written, Put, Filled}

-- ---- equal cells
pub part_same_cells : (i j n : ℕ) (xs ys : List ℕ) → i + n ≤ length xs → j + n ≤ length ys → ((k : ℕ) → k < n → get_or xs (i + k) 0 ≡ get_or ys (j + k) 0) → part i n xs ≡ part j n ys
part_same_cells i j zero xs ys a b h = part_none i xs ∙ sym (part_none j ys)
part_same_cells i j (suc n) xs ys a b h =
    part_last i n xs (omega arith)
    ∙ (ap₂ (λ (zs : List ℕ) (x : ℕ). zs ++ (x ∷ [])) (part_same_cells i j n xs ys (omega arith) (omega arith) (λ k q. h k (omega arith))) (h n (omega arith))
    ∙ sym (part_last j n ys (omega arith)))

-- ---- a slot that is written
pub put_written : (spot n : ℕ) (os : List ℕ) (r : ℕ) (xs ys : List ℕ) → nine ≤ r → 11 * spot + 11 ≤ length xs → Put (11 * spot) n os r xs ys → Written n os r xs ys
put_written spot n os r xs ys d w p = record { long = p.long; holds = λ m us q h. go m us q h (eqb h.spot spot) refl }
  where
    go : (m : ℕ) (us : List ℕ) (q : ℕ) (h : Holds ys m us q) (c : Bool) → eqb h.spot spot ≡ c → Holds xs m us q ⊎ ((m ≡ n) × (us ≡ os) × (q ≡ r) × (nine ≤ r))
    go m us q h true e =
        let z : h.spot ≡ spot = eqb-true h.spot spot e in
        let a : get_or ys (11 * spot) 0 ≡ suc m = rw z at h.name in
        let c : part (11 * spot + 2) (get_or ys (11 * spot + 1) 0) ys ≡ us = rw z at h.args in
        let f : get_or ys (11 * spot + 10) 0 ≡ q = rw z at h.answered in
        inr (omega (arith, p.name), sym c ∙ (ap (λ (i : ℕ). part (11 * spot + 2) i ys) p.count ∙ p.args), sym f ∙ p.answered, d)
    go m us q h false e =
        let j : ℕ = h.spot in
        let g : (i : ℕ) → i < 11 → get_or ys (11 * j + i) 0 ≡ get_or xs (11 * j + i) 0 = λ i l. p.outside (11 * j + i) (apart j spot i l (eqb-false j spot e)) in
        let c : get_or ys (11 * j + 1) 0 ≡ get_or xs (11 * j + 1) 0 = g 1 (omega arith) in
        let o : 11 * j + 0 ≡ 11 * j = omega arith in
        inl
        (record {
          spot = j;
          within = omega (arith, h.within, p.long);
          name = sym (rw o at (g 0 (omega arith))) ∙ h.name;
          few = omega (arith, h.few);
          args = part_same_cells (11 * j + 2) (11 * j + 2) (get_or xs (11 * j + 1) 0) xs ys (omega (arith, h.few, h.within, p.long)) (omega (arith, h.few, h.within)) (λ k l. shifted j k (g (2 + k) (omega (arith, h.few))))
              ∙ (ap (λ (i : ℕ). part (11 * j + 2) i ys) (sym c) ∙ h.args);
          answered = sym (g 10 (omega arith)) ∙ h.answered;
        })
      where
        apart : (j k i : ℕ) → i < 11 → (j ≡ k → ⊥) → (11 * j + i < 11 * k) ⊎ (11 * k + 11 ≤ 11 * j + i)
        apart j k i l n = side (ltb j k) refl
          where
            side : (c : Bool) → ltb j k ≡ c → (11 * j + i < 11 * k) ⊎ (11 * k + 11 ≤ 11 * j + i)
            side true s = inl (omega (arith, ltb-true j k s))
            side false s = inr (omega (arith, ltb-false j k s))

        shifted : (j k : ℕ) → get_or ys (11 * j + (2 + k)) 0 ≡ get_or xs (11 * j + (2 + k)) 0 → get_or xs (11 * j + 2 + k) 0 ≡ get_or ys (11 * j + 2 + k) 0
        shifted j k e = let a : 11 * j + (2 + k) ≡ 11 * j + 2 + k = omega arith in sym (rw a at e)

pub written_same : (n : ℕ) (os : List ℕ) (r : ℕ) (xs : List ℕ) → Written n os r xs xs
written_same n os r xs = record { long = refl; holds = λ m us q h. inl h }

-- ---- cells filled one after the other
pub filled_none : (base at : ℕ) (zs xs : List ℕ) → Filled base 0 (part at 0 zs) xs xs
filled_none base at zs xs = record { long = refl; outside = λ i h. refl; is = part_none base xs ∙ sym (part_none at zs) }

pub filled_more : (base at i : ℕ) (zs xs ys : List ℕ) → base + i < length xs → at + i < length zs → Filled base i (part at i zs) xs ys → Filled base (i + 1) (part at (i + 1) zs) xs (set ys (base + i) (get_or zs (at + i) 0))
filled_more base at i zs xs ys h q f =
    let e : i + 1 ≡ suc i = omega arith in
    rw e
    (record {
      long = length-set ys (base + i) (get_or zs (at + i) 0) ∙ f.long;
      outside = λ j o. get_or-set_other ys (base + i) j (get_or zs (at + i) 0) 0 (away j o) ∙ f.outside j (wider j o);
      is = part_set base i (get_or zs (at + i) 0) ys (omega (arith, f.long)) ∙ (ap (λ (os : List ℕ). os ++ (get_or zs (at + i) 0 ∷ [])) f.is ∙ sym (part_last at i zs q));
    })
  where
    away : (j : ℕ) → (j < base) ⊎ (base + suc i ≤ j) → j ≡ base + i → ⊥
    away j (inl l) z = omega arith
    away j (inr l) z = omega arith

    wider : (j : ℕ) → (j < base) ⊎ (base + suc i ≤ j) → (j < base) ⊎ (base + i ≤ j)
    wider j (inl l) = inl l
    wider j (inr l) = inr (omega arith)

-- a whole slot
module _ (base n r count : ℕ) (os xs ys : List ℕ) (within : base + 11 ≤ length xs) (few : count ≤ 8) (f : Filled (base + 2) count os xs ys) where
  abbrev y₁ : List ℕ
  y₁ = set ys base (n + 1)

  abbrev y₂ : List ℕ
  y₂ = set y₁ (base + 1) count

  abbrev y₃ : List ℕ
  y₃ = set y₂ (base + 10) r

  l₁ : length y₁ ≡ length xs
  l₁ = length-set ys base (n + 1) ∙ f.long

  l₂ : length y₂ ≡ length xs
  l₂ = length-set y₁ (base + 1) count ∙ l₁

  others : (i : ℕ) → (i ≡ base → ⊥) → (i ≡ base + 1 → ⊥) → (i ≡ base + 10 → ⊥) → get_or y₃ i 0 ≡ get_or ys i 0
  others i a b c = get_or-set_other y₂ (base + 10) i r 0 c ∙ (get_or-set_other y₁ (base + 1) i count 0 b ∙ get_or-set_other ys base i (n + 1) 0 a)

  long_os : length os ≡ count
  long_os = ap length (sym f.is) ∙ part_length (base + 2) count ys (omega (arith, f.long))

  pub put_all : Put base n os r xs y₃
  put_all =
      record {
        long = length-set y₂ (base + 10) r ∙ l₂;
        outside = out;
        name = get_or-set_other y₂ (base + 10) base r 0 (λ z. omega arith) ∙ (get_or-set_other y₁ (base + 1) base count 0 (λ z. omega arith) ∙ (get_or-set_same ys base (n + 1) 0 (omega (arith, f.long)) ∙ omega arith));
        count = get_or-set_other y₂ (base + 10) (base + 1) r 0 (λ z. omega arith) ∙ (get_or-set_same y₁ (base + 1) count 0 (omega (arith, l₁)) ∙ sym long_os);
        args = ap (λ (i : ℕ). part (base + 2) i y₃) long_os
            ∙ (part_same_cells (base + 2) (base + 2) count y₃ ys (omega (arith, length-set y₂ (base + 10) r, l₂)) (omega (arith, f.long)) (λ k q. others (base + 2 + k) (λ z. omega arith) (λ z. omega arith) (λ z. omega arith)) ∙ f.is);
        answered = get_or-set_same y₂ (base + 10) r 0 (omega (arith, l₂));
      }
    where
      out : (i : ℕ) → (i < base) ⊎ (base + 11 ≤ i) → get_or y₃ i 0 ≡ get_or xs i 0
      out i (inl l) = others i (λ z. omega arith) (λ z. omega arith) (λ z. omega arith) ∙ f.outside i (inl (omega arith))
      out i (inr l) = others i (λ z. omega arith) (λ z. omega arith) (λ z. omega arith) ∙ f.outside i (inr (omega arith))

-- a slot that has the call
pub holds_at : (spot n count r : ℕ) (os xs : List ℕ) → 11 * spot + 11 ≤ length xs → get_or xs (11 * spot) 0 ≡ n + 1 → get_or xs (11 * spot + 1) 0 ≡ count → count ≤ 8 → part (11 * spot + 2) count xs ≡ os → get_or xs (11 * spot + 10) 0 ≡ r → Holds xs n os r
holds_at spot n count r os xs w a c few p e =
    record { spot = spot; within = w; name = a ∙ omega arith; few = omega (arith, c); args = ap (λ (i : ℕ). part (11 * spot + 2) i xs) c ∙ p; answered = e }

-- ---- cells compared one after the other
pub cells_more : (base at i : ℕ) (xs ys : List ℕ) → ((k : ℕ) → k < i → get_or xs (base + k) 0 ≡ get_or ys (at + k) 0) → get_or xs (base + i) 0 ≡ get_or ys (at + i) 0 → (k : ℕ) → k < i + 1 → get_or xs (base + k) 0 ≡ get_or ys (at + k) 0
cells_more base at i xs ys h e k q = go (eqb k i) refl
  where
    go : (c : Bool) → eqb k i ≡ c → get_or xs (base + k) 0 ≡ get_or ys (at + k) 0
    go true z = let w : k ≡ i = eqb-true k i z in rw w e
    go false z = h k (omega (arith, eqb-false k i z))

pub not_alike : false ≡ true → ⊥
not_alike e = let z : ◌≡◌ {A = ℕ} 0 1 = cc in omega arith
