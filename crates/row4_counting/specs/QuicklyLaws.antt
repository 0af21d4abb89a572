-- The walk of row 4 that only counts, line by line. Assumes nothing.
use Rattle.std.specs.Prelude.{◌≡◌, List, ◌⊎◌, Bool, not, ℕ, suc, ◌+◌, ◌≤◌, ◌<◌, length}
use Rattle.std.proofs.Math.Path.{refl}
use Rattle.std.proofs.Common.{sym, ◌∙◌, inl, inr, arith, add-one}
use Rattle.std.proofs.Math.Bool.{true, false}
use Rattle.std.proofs.Math.Dec.{eqb, ltb}
use borrow.Author.Tests.{eqb-true, lt-leb, ltb-true, ltb-false, not-true}
use Rattle.number_columns.specs.Column.{pick, ◌⇒◌∥◌}
use Rattle.sheet.specs.Format.{base}
use Rattle.sheet.specs.Line.{Line, letter}
use Rattle.sheet.proofs.ListLaws.{both, false_true}
use Rattle.sheet.proofs.FirstLaws.{first_more}
use Rattle.meaning.specs.Rows.{nth_line, row4}
use Rattle.row4_limits.specs.declared.Tally.{Tally}
use Rattle.row4_limits.specs.Limits.{counted, past}
use Rattle.row4_limits.specs.LimitsLaws.{tally_suc, row4_past}
use Rattle.rows_runs.specs.declared.Runs.{Runs}
use Rattle.row4_counting.specs.declared.Quick.{Quick}
use Rattle.row4_counting.specs.Walk.{headed}
use Rattle.row4_counting.specs.WalkLaws.{Counted, Begins}
use Rattle.row4_counting.specs.Quickly.{exact, member, unknown, stepped, Whole, Right}

module _ (ls : List Line) (i : ℕ) (h : i < length ls) where
  -- a line of this letter that is not past its limit
  counted_next : (t : Tally) (x : ℕ) → letter (nth_line ls i) ≡ x → past base t x ≡ false → Counted base ls i t → Counted base ls (suc i) (counted t x)
  counted_next t x e p c =
      record {
        tally = sym (tally_suc ls i h ∙ rw (← c.tally, e));
        none = rw add-one at (first_more (row4 base ls) i c.none (row4_past base ls i ∙ rw (← c.tally, e) p));
      }

  -- a line that begins a declaration, or a P line
  exact_next : (q : Quick) (x : ℕ) → letter (nth_line ls i) ≡ x
      → (counted q.tally x).ctors ≡ q.tally.ctors → (counted q.tally x).fields ≡ q.tally.fields
      → Right ls i q → Whole (exact q x) → Counted base ls (suc i) (counted q.tally x)
  exact_next q x e c f r w =
      counted_next q.tally x e
      (not-true (past base q.tally x) (both q.known (not (past base q.tally x)) w.known).1)
      (r.right (record { known = (both q.known (not (past base q.tally x)) w.known).0; letters = w.letters ∙ rw (c, f); ctors = rw c at w.ctors; fields = rw f at w.fields }))

  module _ (q : Quick) (r : Right ls i q) where
    after_exact : (x : ℕ) → letter (nth_line ls i) ≡ x → (x ≡ 68) ⊎ ((x ≡ 73) ⊎ (x ≡ 80)) → Right ls (suc i) (exact q x)
    unfolding counted
    after_exact x e (inl k) = rw k (record { total = omega (arith, r.total); letters = omega (arith, r.letters); most = r.most; right = exact_next q 68 (e ∙ k) refl refl r })
    after_exact x e (inr (inl k)) = rw k (record { total = omega (arith, r.total); letters = omega (arith, r.letters); most = r.most; right = exact_next q 73 (e ∙ k) refl refl r })
    after_exact x e (inr (inr k)) = rw k (record { total = omega (arith, r.total); letters = omega (arith, r.letters); most = r.most; right = exact_next q 80 (e ∙ k) refl refl r })

    after_verdict : letter (nth_line ls i) ≡ 86 → Right ls (suc i) q
    unfolding counted past
    after_verdict e = record { total = omega (arith, r.total); letters = omega (arith, r.letters); most = r.most; right = λ w. counted_next q.tally 86 e refl (r.right w) }

    after_unknown : Right ls (suc i) (unknown q)
    after_unknown = record { total = omega (arith, r.total); letters = omega (arith, r.letters); most = r.most; right = λ w. false_true w.known }

    after_member : (x : ℕ) → letter (nth_line ls i) ≡ x → x ≤ 70 → Right ls (suc i) (member q x)
    unfolding counted past
    after_member x e h = go (ltb x 68) refl (ltb 67 x) refl
      where
        t : Tally
        t = q.tally

        with : Bool → Bool → Quick
        with c f =
            record {
              known = q.known;
              letters = q.letters + x;
              tally = record { names = t.names; args = t.args; types = t.types; decls = t.decls; params = t.params; ctors = t.ctors + pick c 1 0; fields = t.fields + pick f 1 0 };
            }

        go : (c : Bool) → ltb x 68 ≡ c → (f : Bool) → ltb 67 x ≡ f → Right ls (suc i) (with c f)
        go true k true m = absurd (omega (arith, ltb-true x 68 k, ltb-true 67 x m))
        go true k false m =
            let z : t.fields + 0 ≡ t.fields = omega arith in
            let l = ltb-true x 68 k in
            rw z
            (record {
              total = omega (arith, r.total);
              letters = omega (arith, r.letters);
              most = omega (arith, r.most);
              right = λ w.
                  let y : x ≡ 67 = omega (arith, w.letters, r.most) in
                  counted_next t 67 (e ∙ y)
                  (lt-leb base.ctors t.ctors (omega (arith, w.ctors)))
                  (r.right (record { known = w.known; letters = omega (arith, w.letters); ctors = omega (arith, w.ctors); fields = w.fields }));
            })
        go false k true m =
            let z : t.ctors + 0 ≡ t.ctors = omega arith in
            rw z
            (record {
              total = omega (arith, r.total);
              letters = omega (arith, r.letters);
              most = omega (arith, r.most);
              right = λ w.
                  let y : x ≡ 70 = omega (arith, w.letters, r.most) in
                  counted_next t 70 (e ∙ y)
                  (lt-leb base.fields t.fields (omega (arith, w.fields)))
                  (r.right (record { known = w.known; letters = omega (arith, w.letters); ctors = w.ctors; fields = omega (arith, w.fields) }));
            })
        go false k false m = absurd (omega (arith, ltb-false x 68 k, ltb-false 67 x m))

  pub stepped_right : (q : Quick) (x : ℕ) → x ≡ letter (nth_line ls i) → Right ls i q → Right ls (suc i) (stepped q x)
  unfolding stepped
  stepped_right q x e r = go (ltb 70 x) refl (eqb x 86) refl (eqb x 80) refl (eqb x 73) refl (eqb x 68) refl
    where
      go : (l : Bool) → ltb 70 x ≡ l → (v : Bool) → eqb x 86 ≡ v → (p : Bool) → eqb x 80 ≡ p → (j : Bool) → eqb x 73 ≡ j → (d : Bool) → eqb x 68 ≡ d
          → Right ls (suc i) (l ⇒ (v ⇒ q ∥ p ⇒ exact q 80 ∥ j ⇒ exact q 73 ∥ unknown q) ∥ d ⇒ exact q 68 ∥ member q x)
      go true _ true k p _ j _ d _ = after_verdict q r (sym e ∙ eqb-true x 86 k)
      go true _ false _ true k j _ d _ = after_exact q r 80 (sym e ∙ eqb-true x 80 k) (inr (inr refl))
      go true _ false _ false _ true k d _ = after_exact q r 73 (sym e ∙ eqb-true x 73 k) (inr (inl refl))
      go true _ false _ false _ false _ d _ = after_unknown q r
      go false _ v _ p _ j _ true k = after_exact q r 68 (sym e ∙ eqb-true x 68 k) (inl refl)
      go false l v _ p _ j _ false _ = after_member q r x (sym e) (ltb-false 70 x l)

-- ---- where it begins
pub begun_right : (ls : List Line) (k : Runs) → Begins base ls k → Right ls k.types (record { known = true; letters = 0; tally = headed k })
begun_right ls k b = record { total = omega (arith, b.to_args, b.to_types); letters = omega arith; most = omega arith; right = λ w. b.counts }

-- or it does not begin
pub not_begun : (ls : List Line) (k : Runs) → Begins base ls k → Right ls (length ls) (record { known = false; letters = 0; tally = headed k })
not_begun ls k b = record { total = omega (arith, b.to_args, b.to_types, b.to_end); letters = omega arith; most = omega arith; right = λ w. false_true w.known }
