-- Writing right values keeps what is right. Assumes nothing.
use Rattle.std.specs.Prelude.{◌≡◌, refl, List, ◌++◌, Bool, true, false, ltb, length, get_or, set, drop}
use Rattle.std.proofs.Common.{sym, ◌∙◌, arith, length-set, get_or-set_same, get_or-set_other, ltb-true, ltb-false}
use Prim.Native.Nat.{ℕ, zero, suc, ◌+◌, ◌-◌, ◌*◌, ◌≤◌, ◌<◌}
use Rattle.std.proofs.lemmas.List.Edits.{sets, sets-eq}
use Rattle.number_columns.specs.Column.{pick}
use Rattle.model_laws.specs.Rounds.{cases_eq}
use Rattle.table_access.specs.declared.Sizes.{Sizes}
use Rattle.table_access.specs.Tables.{cell_count, header}
use Rattle.table_sizes.specs.Filling.{Put, all, Agree, Kept, Toward}

-- ---- cell after cell
pub put_none : (t : List ℕ) (at : ℕ) (v : ℕ → ℕ) → Put t t at 0 v
put_none t at v = record { sized = refl; inside = λ k h. absurd (omega arith); below = λ x h. refl; above = λ x h. refl }

pub put_next : (t u : List ℕ) (at w : ℕ) (v : ℕ → ℕ) (a : ℕ) → at + w < length u → a ≡ v w → Put t u at w v → Put t (set u (at + w) a) at (w + 1) v
put_next t u at w v a h e p =
    record {
      sized = length-set u (at + w) a ∙ p.sized;
      inside = λ k l. cases_eq k w (λ q. rw q (get_or-set_same u (at + w) a 0 h ∙ e)) (λ n. get_or-set_other u (at + w) (at + k) a 0 (λ z. n (omega arith)) ∙ p.inside k (omega arith));
      below = λ x l. get_or-set_other u (at + w) x a 0 (λ z. omega arith) ∙ p.below x l;
      above = λ x l. get_or-set_other u (at + w) x a 0 (λ z. omega arith) ∙ p.above x (omega arith);
    }

pub put_one : (t : List ℕ) (at a : ℕ) → at < length t → Put t (set t at a) at 1 (all a)
put_one t at a h =
    let z : at + 0 ≡ at = omega arith in
    rw z at (put_next t t at 0 (all a) a (omega arith) refl (put_none t at (all a)))

-- ---- toward a table
pub put_toward : (T t u : List ℕ) (at w : ℕ) (v : ℕ → ℕ) → Put t u at w v → ((k : ℕ) → k < w → get_or T (at + k) 0 ≡ v k) → Toward T t u at (at + w)
put_toward T t u at w v p f =
    record { sized = p.sized; kept = λ x e. go x e (ltb x at) refl (ltb x (at + w)) refl; made = λ x a l. here x a l }
  where
    here : (x : ℕ) → at ≤ x → x < at + w → get_or u x 0 ≡ get_or T x 0
    here x a l =
        let e : at + (x - at) ≡ x = omega arith in
        let k : get_or u (at + (x - at)) 0 ≡ get_or T (at + (x - at)) 0 = p.inside (x - at) (omega arith) ∙ sym (f (x - at) (omega arith)) in
        rw e at k

    go : (x : ℕ) → get_or t x 0 ≡ get_or T x 0 → (c : Bool) → ltb x at ≡ c → (d : Bool) → ltb x (at + w) ≡ d → get_or u x 0 ≡ get_or T x 0
    go x e true q d r = p.below x (ltb-true x at q) ∙ e
    go x e false q true r = here x (ltb-false x at q) (ltb-true x (at + w) r)
    go x e false q false r = p.above x (ltb-false x (at + w) r) ∙ e

pub agree_join : (T t : List ℕ) (a m d : ℕ) → Agree T t a m → Agree T t m d → Agree T t a d
agree_join T t a m d p q x l h = go (ltb x m) refl
  where
    go : (c : Bool) → ltb x m ≡ c → get_or t x 0 ≡ get_or T x 0
    go true e = p x l (ltb-true x m e)
    go false e = q x (ltb-false x m e) h

-- a section with w cells more, or as it was
pub section_step : (T t u : List ℕ) (c : Bool) (at w j k : ℕ) → k ≡ pick c (j + w) j → Agree T t at (at + j) → Kept T t u → (c ≡ true → Agree T u (at + j) (at + j + w)) → Agree T u at (at + k)
section_step T t u true at w j k e a f m =
    let z : at + k ≡ at + j + w = omega arith in
    rw z (agree_join T u at (at + j) (at + j + w) (λ x l h. f x (a x l h)) (m refl))
section_step T t u false at w j k e a f m = rw e (λ x l h. f x (a x l h))

-- ---- the header
-- what the sizes of a table that has few cells let its header hold
module _ (z : Sizes) (h : (cell_count z < 262144) × (z.names + z.args + z.types ≤ z.lines)) where
  pub places_small : (n : ℕ) → n ≤ z.lines → (n < 262144) × (6 * n < 262144)
  places_small n l = (omega (arith, h.0), omega (arith, h.0))

  pub header_small : (k : ℕ) → k < 11 → get_or (header z) k 0 < 262144
  unfolding header
  header_small zero l = omega (arith, h.0, h.1)
  header_small (suc zero) l = omega (arith, h.0)
  header_small (suc (suc zero)) l = omega (arith, h.0)
  header_small (suc (suc (suc zero))) l = omega (arith, h.0)
  header_small (suc (suc (suc (suc zero)))) l = omega (arith, h.0, h.1)
  header_small (suc (suc (suc (suc (suc zero))))) l = omega (arith, h.0, h.1)
  header_small (suc (suc (suc (suc (suc (suc zero)))))) l = omega (arith, h.0)
  header_small (suc (suc (suc (suc (suc (suc (suc zero))))))) l = omega (arith, h.0)
  header_small (suc (suc (suc (suc (suc (suc (suc (suc zero)))))))) l = omega (arith, h.0)
  header_small (suc (suc (suc (suc (suc (suc (suc (suc (suc zero))))))))) l = omega (arith, h.0)
  header_small (suc (suc (suc (suc (suc (suc (suc (suc (suc (suc zero)))))))))) l = omega (arith, h.0)
  header_small (suc (suc (suc (suc (suc (suc (suc (suc (suc (suc (suc k))))))))))) l = absurd (omega arith)

pub header_put : (z : Sizes) (t : List ℕ) → 11 ≤ length t → sets t 0 (header z) ≡ header z ++ drop 11 t
unfolding header
header_put z t h = sets-eq (header z) t 0 h
