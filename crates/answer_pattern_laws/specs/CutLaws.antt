-- The cut with Q lines behind the last unit: building the units in turn is building the whole. Assumes nothing.
use Rattle.std.specs.Prelude.{◌⊎◌, ℕ, ◌<◌}
use Rattle.std.proofs.Math.Path.{◌≡◌, refl, ap, subst}
use Rattle.std.proofs.Common.{sym, ◌∙◌, arith}
use mathlib.Core.List.{List, [], ◌∷◌, ◌++◌, append_assoc, append-nil}
use Rattle.std.proofs.Math.Bool.{not}
use Rattle.std.proofs.Math.Option.{Option, none, some}
use Rattle.std.proofs.Math.Nat.{zero-div, zero-mod}
use Rattle.sheet.specs.Format.{Format, line_bytes}
use Rattle.sheet.specs.Line.{is_bad}
use Rattle.sheet.specs.Sheet.{count, line, lines}
use Rattle.sheet.proofs.ListLaws.{Every}
use Rattle.model.specs.Names.{Declared}
use Rattle.meaning.specs.Program.{name_line, program}
use Rattle.meaning.specs.Rows.{count_of}
use Rattle.meaning_patterns.specs.Patterns.{good_pattern}
use Rattle.answer.specs.Answer.{Clear}
use Rattle.answer.specs.Answer as old
use Rattle.answer.specs.Cut.{Sheets, sheets_of, join, Whole, Faultless}
use Rattle.answer.specs.Cut as old_cut
use Rattle.answer_laws.specs.Answer as old_laws
use Rattle.answer_laws.specs.Build.{Split, split_steps, whole_append}
use Rattle.answer_laws.specs.Cut.{Splits}
use Rattle.answer_laws.specs.Split.{cut_splits, passes_faultless}
use Rattle.answer_laws.specs.Split as old_split
use Rattle.answer_patterns.specs.Whole.{front}
use Rattle.answer_patterns.specs.Whole as whole
use Rattle.answer_pattern_laws.specs.Parts.{NoPattern, Begins, front_of, tail_of, no_pattern_append}
use Rattle.answer_pattern_laws.specs.Plain.{answer_plain}
use Rattle.answer_patterns.specs.Passes.{Passes}
use Rattle.answer_patterns.specs.Cut.{build, builds, Cut, FaultlessWith}
use Rattle.answer_pattern_laws.specs.PassesLaws.{some_same, build_passes, Joined, passes_parts}
use Rattle.answer_pattern_laws.specs.Import.{told, told_whole, told_plain, names_same, build_told}

-- a build of declarations alone
pub build_plain : (f : Format) (v l : ℕ) (b : List ℕ) → NoPattern f.columns b → build f v l b ≡ old_cut.build f v l b
build_plain f v l b n = ap sheets_of (answer_plain f b v l n)

-- ---- units
-- no line of any has the raw letter Q
abbrev pub Plain : ℕ → List (List ℕ) → Type 0
Plain w = Every (NoPattern w)

pub no_pattern_nil : (w : ℕ) → NoPattern w []
no_pattern_nil w i h = absurd (omega (arith, zero-div (line_bytes w)))

plain_of : (w : ℕ) (us : List (List ℕ)) → ((xs ys : List (List ℕ)) (u : List ℕ) → us ≡ xs ++ (u ∷ ys) → NoPattern w u) → Plain w us
plain_of w [] h = tt
plain_of w (u ∷ us) h = (h [] us u refl, plain_of w us (λ xs ys x e. h (u ∷ xs) ys x (ap (λ (t : List (List ℕ)). u ∷ t) e)))

pub join_whole : (w : ℕ) (us : List (List ℕ)) → Every (Whole w) us → Whole w (join us)
unfolding join
join_whole w [] h = zero-mod (line_bytes w)
join_whole w (u ∷ us) h = whole_append w u (join us) h.0 (join_whole w us h.1)

pub join_plain : (w : ℕ) (us : List (List ℕ)) → Every (Whole w) us → Plain w us → NoPattern w (join us)
unfolding join
join_plain w [] h n = no_pattern_nil w
join_plain w (u ∷ us) h n = no_pattern_append w u (join us) h.0 n.0 (join_plain w us h.1 n.1)

module _ (f : Format) (v l : ℕ) (pos : 0 < f.columns) (z : List ℕ) (z_whole : Whole f.columns z) (begins : Begins f.columns z) where
  abbrev w : ℕ
  w = f.columns

  split_cons : (p u : List ℕ) (us : List (List ℕ)) → Splits (Split w) p (u ∷ us) → Splits (Split w) (p ++ u) us
  unfolding join
  split_cons p u us h xs ys zs e =
      subst (λ (b : List ℕ). Split w b (join ys)) (sym (append_assoc p u (join xs))) (h (u ∷ xs) ys zs (ap (λ (t : List (List ℕ)). u ∷ t) e))

  -- the next unit, and all units, behind the first part
  split_one : (p u : List ℕ) (us : List (List ℕ)) → Splits (Split w) p (u ∷ us) → Split w p u
  unfolding join
  split_one p u us h = rw (append-nil p, append-nil u) at (h [] (u ∷ []) us refl)

  split_all : (p : List ℕ) (us : List (List ℕ)) → Splits (Split w) p us → Split w p (join us)
  unfolding join
  split_all p us h = rw append-nil at (h [] us [] (sym (append-nil us)))

  plain_join : (p : List ℕ) (us : List (List ℕ)) → Splits (Split w) p us → Plain w us → NoPattern w (join us)
  unfolding join
  plain_join p [] h n = no_pattern_nil w
  plain_join p (u ∷ us) h n = no_pattern_append w u (join us) (split_one p u us h).second_whole n.0 (plain_join (p ++ u) us (split_cons p u us h) n.1)

  -- a sheet whose first part is refused is refused
  refused_whole : (p q : List ℕ) → Split w p q → NoPattern w p → NoPattern w q → old_cut.build f v l p ≡ none → build f v l ((p ++ q) ++ z) ≡ none
  refused_whole p q s np nq e = go (build f v l ((p ++ q) ++ z)) refl
    where
      whole_pq : Whole w (p ++ q)
      whole_pq = whole_append w p q s.first_whole s.second_whole

      go : (o : Option Sheets) → build f v l ((p ++ q) ++ z) ≡ o → o ≡ none
      go none h = refl
      go (some y) h =
          let j : Joined f (p ++ q) z v l = passes_parts f v l (p ++ q) z whole_pq (no_pattern_append w p q s.first_whole np nq) begins (build_passes f ((p ++ q) ++ z) v l y h) in
          let r = (split_steps f v l pos).prefix_step p q (old_laws.sheets f (p ++ q)) s (old_laws.passes_build f (p ++ q) v l j.front_passes) in
          let c : ◌≡◌ {A = Option Sheets} none (some r.0) = sym e ∙ r.1 in
          cc

  -- the rest of the units: u over a sheet s that may stand for the first part p
  chain : (us : List (List ℕ)) (p s u : List ℕ) → Splits (Split w) p (u ∷ us) → NoPattern w p → NoPattern w (s ++ u) → Plain w (u ∷ us)
      → old_cut.build f v l (s ++ u) ≡ old_cut.build f v l (p ++ u)
      → build f v l ((s ++ u) ++ z) ≡ build f v l ((p ++ u) ++ z)
      → builds f v l s u us z ≡ build f v l ((p ++ join (u ∷ us)) ++ z)
  unfolding builds join
  chain [] p s u h np ns n e e' = e' ∙ ap (λ (b : List ℕ). build f v l ((p ++ b) ++ z)) (sym (append-nil u))
  chain (u' ∷ us) p s u h np ns n e e' =
      go
      (λ (x : Sheets) (nx : NoPattern w (x.verdict ++ u')) (a : old_cut.build f v l (x.verdict ++ u') ≡ old_cut.build f v l ((p ++ u) ++ u')) (b : build f v l ((x.verdict ++ u') ++ z) ≡ build f v l (((p ++ u) ++ u') ++ z)).
      chain us (p ++ u) x.verdict u' (split_cons p u (u' ∷ us) h) plain_first nx n.1 a b)
      (build f v l (s ++ u))
      refl
    where
      whole_first : Whole w (p ++ u)
      whole_first = (split_one (p ++ u) u' us (split_cons p u (u' ∷ us) h)).first_whole

      plain_first : NoPattern w (p ++ u)
      plain_first = no_pattern_append w p u (split_one p u (u' ∷ us) h).first_whole np n.0

      same : old_cut.build f v l (p ++ u) ≡ build f v l (s ++ u)
      same = sym (build_plain f v l (s ++ u) ns ∙ e)

      go :
          ((x : Sheets) → NoPattern w (x.verdict ++ u') → old_cut.build f v l (x.verdict ++ u') ≡ old_cut.build f v l ((p ++ u) ++ u') → build f v l ((x.verdict ++ u') ++ z) ≡ build f v l (((p ++ u) ++ u') ++ z)
          → builds f v l x.verdict u' us z ≡ build f v l (((p ++ u) ++ (u' ++ join us)) ++ z))
          → (o : Option Sheets)
          → build f v l (s ++ u) ≡ o
          → elim o [ none ↦ none | some x ↦ builds f v l x.verdict u' us z ] ≡ build f v l ((p ++ (u ++ (u' ++ join us))) ++ z)
      go ih none q =
          let hs : Splits (Split w) (p ++ u) (u' ∷ us) = split_cons p u (u' ∷ us) h in
          sym (ap (λ (b : List ℕ). build f v l (b ++ z)) (sym (append_assoc p u (u' ++ join us))) ∙ refused_whole (p ++ u) (u' ++ join us) (split_all (p ++ u) (u' ∷ us) hs) plain_first (plain_join (p ++ u) (u' ∷ us) hs n.1) (same ∙ q))
      go ih (some x) q =
          let hs : Split w (p ++ u) u' = split_one (p ++ u) u' us (split_cons p u (u' ∷ us) h) in
          let r : old_cut.build f v l (p ++ u) ≡ some x = same ∙ q in
          let k : old.Passes f (p ++ u) v l = old_laws.build_passes f (p ++ u) v l x r in
          let t : old_laws.sheets f (p ++ u) ≡ x = some_same (old_laws.sheets f (p ++ u)) x (sym (old_laws.passes_build f (p ++ u) v l k) ∙ r) in
          ih x
          (subst (λ (y : Sheets). NoPattern w (y.verdict ++ u')) t (no_pattern_append w (told f v l pos (p ++ u) k) u' (told_whole f v l pos (p ++ u) k) (told_plain f v l pos (p ++ u) k) n.1.0))
          ((split_steps f v l pos).import_step (p ++ u) u' x hs r)
          (subst (λ (y : Sheets). build f v l ((y.verdict ++ u') ++ z) ≡ build f v l (((p ++ u) ++ u') ++ z)) t (build_told f v l pos (p ++ u) k u' hs z n.1.0 z_whole begins))
          ∙ ap (λ (b : List ℕ). build f v l (b ++ z)) (append_assoc p u (u' ++ join us))

  -- ---- what units that build say of the Q lines, and of the declarations
  record Built (s u : List ℕ) (us : List (List ℕ)) : Type 0 where
    last : Sheets
    without : old_cut.builds f v l s u us ≡ some last
    no_bad : Clear (count w z) (λ i. is_bad (line w z i))
    good : Clear (count w z) (λ q. not (good_pattern (count_of name_line (lines w (s ++ join (u ∷ us)))) (lines w z) q))

  built : (us : List (List ℕ)) (s u : List ℕ) → Whole w (s ++ u) → NoPattern w (s ++ u) → Every (Whole w) us → Plain w us → (x : Sheets) → builds f v l s u us z ≡ some x → Built s u us
  unfolding builds old_cut.builds join
  built [] s u hw ns ws n x e =
      let j : Joined f (s ++ u) z v l = passes_parts f v l (s ++ u) z hw ns begins (build_passes f ((s ++ u) ++ z) v l x e) in
      record {
        last = old_laws.sheets f (s ++ u);
        without = old_laws.passes_build f (s ++ u) v l j.front_passes;
        no_bad = j.no_bad;
        good = subst (λ (r : List ℕ). Clear (count w z) (λ q. not (good_pattern (count_of name_line (lines w (s ++ r))) (lines w z) q))) (sym (append-nil u)) j.good;
      }
  built (u' ∷ us) s u hw ns ws n x e =
      go (λ y a b k. built us y.verdict u' a b ws.1 n.1 x k) (build f v l (s ++ u)) refl e
    where
      goes_on : (o : Option Sheets) (y t : Sheets) → o ≡ some y → old_cut.builds f v l y.verdict u' us ≡ some t → elim o [ none ↦ none | some x ↦ old_cut.builds f v l x.verdict u' us ] ≡ some t
      goes_on none y t e h = let c : ◌≡◌ {A = ℕ} 0 1 = cc in absurd (omega arith)
      goes_on (some x) y t e h = subst (λ (d : Sheets). old_cut.builds f v l d.verdict u' us ≡ some t) (sym (some_same x y e)) h

      go : ((y : Sheets) → Whole w (y.verdict ++ u') → NoPattern w (y.verdict ++ u') → builds f v l y.verdict u' us z ≡ some x → Built y.verdict u' us)
          → (r : Option Sheets) → build f v l (s ++ u) ≡ r → elim r [ none ↦ none | some y ↦ builds f v l y.verdict u' us z ] ≡ some x → Built s u (u' ∷ us)
      go ih none q k = let c : ◌≡◌ {A = ℕ} 0 1 = cc in absurd (omega arith)
      go ih (some y) q k =
          let r : old_cut.build f v l (s ++ u) ≡ some y = sym (build_plain f v l (s ++ u) ns) ∙ q in
          let p : old.Passes f (s ++ u) v l = old_laws.build_passes f (s ++ u) v l y r in
          let t : y ≡ old_laws.sheets f (s ++ u) = some_same y (old_laws.sheets f (s ++ u)) (sym r ∙ old_laws.passes_build f (s ++ u) v l p) in
          let tw : Whole w y.verdict = subst (λ (o : Sheets). Whole w o.verdict) (sym t) (told_whole f v l pos (s ++ u) p) in
          let tp : NoPattern w y.verdict = subst (λ (o : Sheets). NoPattern w o.verdict) (sym t) (told_plain f v l pos (s ++ u) p) in
          let b : Built y.verdict u' us = ih y (whole_append w y.verdict u' tw ws.0) (no_pattern_append w y.verdict u' tw tp n.0) k in
          record {
            last = b.last;
            without = goes_on (old_cut.build f v l (s ++ u)) y b.last r b.without;
            no_bad = b.no_bad;
            good =
                subst (λ (m : ℕ). Clear (count w z) (λ q. not (good_pattern m (lines w z) q)))
                (ap (λ (o : Sheets). count_of name_line (lines w (o.verdict ++ join (u' ∷ us)))) t
                ∙ (names_same f v l pos (s ++ u) p (join (u' ∷ us)) ∙ ap (λ (o : List ℕ). count_of name_line (lines w o)) (append_assoc s u (join (u' ∷ us)))))
                b.good;
          }

-- without Q lines the units build as they did
pub builds_plain : (f : Format) (v l : ℕ) → 0 < f.columns → (us : List (List ℕ)) (s u : List ℕ) → Whole f.columns (s ++ u) → NoPattern f.columns (s ++ u)
    → Every (Whole f.columns) us → Plain f.columns us → builds f v l s u us [] ≡ old_cut.builds f v l s u us
unfolding builds old_cut.builds
builds_plain f v l pos [] s u hw ns ws n = ap (build f v l) (append-nil (s ++ u)) ∙ build_plain f v l (s ++ u) ns
builds_plain f v l pos (u' ∷ us) s u hw ns ws n =
    ap (λ (o : Option Sheets). elim o [ none ↦ none | some x ↦ builds f v l x.verdict u' us [] ]) (build_plain f v l (s ++ u) ns)
    ∙ go (λ x a b. builds_plain f v l pos us x.verdict u' a b ws.1 n.1) (old_cut.build f v l (s ++ u)) refl
  where
    w : ℕ
    w = f.columns

    go : ((x : Sheets) → Whole w (x.verdict ++ u') → NoPattern w (x.verdict ++ u') → builds f v l x.verdict u' us [] ≡ old_cut.builds f v l x.verdict u' us)
        → (o : Option Sheets) → old_cut.build f v l (s ++ u) ≡ o
        → ◌≡◌ {A = Option Sheets} (elim o [ none ↦ none | some x ↦ builds f v l x.verdict u' us [] ]) (elim o [ none ↦ none | some x ↦ old_cut.builds f v l x.verdict u' us ])
    go ih none q = refl
    go ih (some y) q =
        let p : old.Passes f (s ++ u) v l = old_laws.build_passes f (s ++ u) v l y q in
        let t : old_laws.sheets f (s ++ u) ≡ y = some_same (old_laws.sheets f (s ++ u)) y (sym (old_laws.passes_build f (s ++ u) v l p) ∙ q) in
        let tw : Whole w y.verdict = subst (λ (o : Sheets). Whole w o.verdict) t (told_whole f v l pos (s ++ u) p) in
        let tp : NoPattern w y.verdict = subst (λ (o : Sheets). NoPattern w o.verdict) t (told_plain f v l pos (s ++ u) p) in
        ih y (whole_append w y.verdict u' tw ws.0) (no_pattern_append w y.verdict u' tw tp n.0)

-- ---- of any sheet
module _ (f : Format) (v l : ℕ) (b header u : List ℕ) (us : List (List ℕ)) (tail : List ℕ) (pos : 0 < f.columns) (cut : Cut f.columns b header (u ∷ us) tail) where
  pub tail_begins : Begins f.columns tail
  tail_begins h = cut.tail_patterns 0 h

  wholes : (ws : List (List ℕ)) → ((xs ys : List (List ℕ)) (x : List ℕ) → ws ≡ xs ++ (x ∷ ys) → Whole f.columns x) → Every (Whole f.columns) ws
  wholes [] h = tt
  wholes (x ∷ ws) h = (h [] ws x refl, wholes ws (λ xs ys y e. h (x ∷ xs) ys y (ap (λ (t : List (List ℕ)). x ∷ t) e)))

  pub all_whole : Every (Whole f.columns) (u ∷ us)
  all_whole = wholes (u ∷ us) (λ xs ys x e. (cut.declarations xs ys x e).0)

  pub all_plain : Plain f.columns (u ∷ us)
  all_plain = plain_of f.columns (u ∷ us) cut.units_plain

  pub first_plain : NoPattern f.columns (header ++ u)
  first_plain = no_pattern_append f.columns header u cut.header_whole cut.header_plain all_plain.0

  pub front_whole : Whole f.columns (header ++ join (u ∷ us))
  front_whole = whole_append f.columns header (join (u ∷ us)) cut.header_whole (join_whole f.columns (u ∷ us) all_whole)

  pub front_plain : NoPattern f.columns (header ++ join (u ∷ us))
  front_plain = no_pattern_append f.columns header (join (u ∷ us)) cut.header_whole cut.header_plain (join_plain f.columns (u ∷ us) all_whole all_plain)

  -- the cut of what stands before the tail, where names are as they should be if no line is faulted
  pub before_tail : (Faultless f.columns (header ++ join (u ∷ us)) → FaultlessWith f.columns (header ++ join (u ∷ us)) tail) → old_cut.Cut f.columns (header ++ join (u ∷ us)) header (u ∷ us)
  before_tail g = record {
    joined = refl;
    header_whole = cut.header_whole;
    header_only = cut.header_only;
    declarations = cut.declarations;
    named = λ h. cut.named (g h);
  }

  -- what stands before the tail is the front of the sheet
  pub front_is : front f.columns b ≡ header ++ join (u ∷ us)
  front_is = ap (front f.columns) cut.joined ∙ front_of f.columns (header ++ join (u ∷ us)) tail front_whole front_plain tail_begins

  pub tail_is : whole.tail f.columns b ≡ tail
  tail_is = ap (whole.tail f.columns) cut.joined ∙ tail_of f.columns (header ++ join (u ∷ us)) tail front_whole front_plain tail_begins

  pub front_joined : Passes f b v l → Joined f (header ++ join (u ∷ us)) tail v l
  front_joined k = passes_parts f v l (header ++ join (u ∷ us)) tail front_whole front_plain tail_begins (subst (λ (x : List ℕ). Passes f x v l) cut.joined k)

  pub cut_builds : builds f v l header u us tail ≡ build f v l b
  cut_builds = go (builds f v l header u us tail) (build f v l b) refl refl
    where
      equal : FaultlessWith f.columns (header ++ join (u ∷ us)) tail → builds f v l header u us tail ≡ build f v l b
      equal h =
          chain f v l pos tail cut.tail_whole tail_begins us header header u
          (cut_splits f.columns (header ++ join (u ∷ us)) header (u ∷ us) (before_tail (λ _. h)) h.declarations)
          cut.header_plain first_plain all_plain refl refl
          ∙ ap (build f v l) (sym cut.joined)

      -- units that build are not faulted
      built_faultless : (x : Sheets) → builds f v l header u us tail ≡ some x → FaultlessWith f.columns (header ++ join (u ∷ us)) tail
      built_faultless x e =
          let r = built f v l pos tail cut.tail_whole tail_begins us header u (whole_append f.columns header u cut.header_whole all_whole.0) first_plain all_whole.1 all_plain.1 x e in
          let with_tail : Faultless f.columns (header ++ join (u ∷ us)) → FaultlessWith f.columns (header ++ join (u ∷ us)) tail = λ h. record { declarations = h; no_bad = r.no_bad; good_patterns = r.good } in
          let k : old_cut.build f v l (header ++ join (u ∷ us)) ≡ some r.last = sym (old_split.cut_builds f v l (header ++ join (u ∷ us)) header u us pos (before_tail with_tail)) ∙ r.without in
          with_tail (passes_faultless f (header ++ join (u ∷ us)) v l (old_laws.build_passes f (header ++ join (u ∷ us)) v l r.last k))

      go : (x y : Option Sheets) → builds f v l header u us tail ≡ x → build f v l b ≡ y → x ≡ y
      go none none p q = refl
      go (some x) y p q = sym p ∙ (equal (built_faultless x p) ∙ q)
      go none (some y) p q = sym p ∙ (equal (whole_faultless y q) ∙ q)
        where
          whole_faultless : (y : Sheets) → build f v l b ≡ some y → FaultlessWith f.columns (header ++ join (u ∷ us)) tail
          whole_faultless y e =
              let j : Joined f (header ++ join (u ∷ us)) tail v l = front_joined (build_passes f b v l y e) in
              record { declarations = passes_faultless f (header ++ join (u ∷ us)) v l j.front_passes; no_bad = j.no_bad; good_patterns = j.good }

-- ---- without Q lines
-- a cut of declarations alone is one with an empty tail
pub cut_without : (w : ℕ) (b header : List ℕ) (units : List (List ℕ)) → old_cut.Cut w b header units → NoPattern w header
    → ((xs ys : List (List ℕ)) (u : List ℕ) → units ≡ xs ++ (u ∷ ys) → NoPattern w u) → Cut w b header units []
cut_without w b header units c np nu =
    record {
      joined = c.joined ∙ sym (append-nil (header ++ join units));
      header_whole = c.header_whole;
      header_only = c.header_only;
      header_plain = np;
      declarations = c.declarations;
      units_plain = nu;
      tail_whole = zero-mod (line_bytes w);
      tail_patterns = λ i h. absurd (omega (arith, zero-div (line_bytes w)));
      named = λ h xs ys u e n m.
          subst (λ (x : List ℕ). Declared (program (lines w (header ++ join xs ++ u))) n ⊎ (Declared (program (lines w x)) n → ⊥)) c.joined
          (c.named (subst (Faultless w) (sym c.joined) h.declarations) xs ys u e n m);
    }
