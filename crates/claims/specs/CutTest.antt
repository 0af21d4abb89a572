-- A test of the cut's conditions, so that a reader can see them met. Assumes nothing.
use Rattle.std.specs.Prelude.{◌⊎◌, ◌≡◌, refl, Bool, true, false, ◌&&◌, ◌||◌, not, ℕ, ◌%◌, eqb, ltb, length}
use Rattle.std.proofs.Common.{inl, inr, ⊎_elim, arith, eqb-true, ltb-true, ltb-false, lt-ltb}
use Rattle.std.proofs.Math.Path.{subst}
use mathlib.Core.List.Memᴰ
use mathlib.Core.List.{List, [], ◌∷◌, ◌++◌, append_assoc, append-nil, Memᴰ}
use Rattle.std.proofs.lemmas.Bool.{not-true, not-false}
use Rattle.sheet.specs.Format.{line_bytes}
use Rattle.sheet.specs.Line.{Line}
use Rattle.sheet.specs.Sheet.{first, count, lines}
use Rattle.sheet.proofs.FirstLaws.{first_le, none_first}
use Rattle.model.specs.Decl.{Decl, position}
use Rattle.model.specs.Names.{Declared, undeclared}
use Rattle.meaning.specs.Program.{is, is_head, program}
use Rattle.meaning.specs.Rows.{raw}
use Rattle.meaning_patterns.specs.Patterns.{pattern_line}
use Rattle.answer.specs.Answer.{Clear}
use Rattle.answer.specs.Cut.{join, Declarations, program_names}
use Rattle.answer_patterns.specs.Cut.{Cut}

-- ---- the test
-- each name is declared in ds or not in all
unfoldable pub names_test : List Decl → List Decl → List ℕ → Bool
names_test ds all [] = true
names_test ds all (n ∷ ns) = (ltb (position ds n) (length ds) || undeclared all n) && names_test ds all ns

-- of no line of a sheet the test holds
unfoldable pub none_test : (Line → Bool) → ℕ → List ℕ → Bool
none_test p w b = not (ltb (first (λ i. p (raw w b i)) (count w b)) (count w b))

-- whole lines that begin a declaration, or none, and no Q line
unfoldable pub unit_test : ℕ → List ℕ → Bool
unit_test w u = eqb (length u % line_bytes w) 0 && (eqb (length u) 0 || is_head (raw w u 0)) && none_test (is pattern_line) w u

-- the units from here on, `before` being the bytes of those before
unfoldable pub units_test : ℕ → List ℕ → List ℕ → List ℕ → List (List ℕ) → Bool
units_test w b header before [] = true
units_test w b header before (u ∷ us) =
    unit_test w u
    && names_test (program (lines w (header ++ before ++ u))) (program (lines w b)) (program_names (program (lines w (header ++ u))))
    && units_test w b header (before ++ u) us

-- the N, A and Y lines; Q lines alone
unfoldable pub header_test : ℕ → List ℕ → Bool
header_test w header = eqb (length header % line_bytes w) 0 && none_test is_head w header && none_test (is pattern_line) w header

unfoldable pub tail_test : ℕ → List ℕ → Bool
tail_test w tail = eqb (length tail % line_bytes w) 0 && none_test (λ l. not (is pattern_line l)) w tail

unfoldable pub cut_test : ℕ → List ℕ → List (List ℕ) → List ℕ → Bool
cut_test w header units tail = header_test w header && units_test w (header ++ join units) header [] units && tail_test w tail

-- ---- a cut that passes it
and_left : (a b : Bool) → (a && b) ≡ true → a ≡ true
and_left true b h = refl
and_left false b h = h

and_right : (a b : Bool) → (a && b) ≡ true → b ≡ true
and_right true b h = h
and_right false b h = let z : ◌≡◌ {A = ℕ} 0 1 = cc in absurd (omega arith)

all_three : (a b c : Bool) → (a && b && c) ≡ true → (a ≡ true) × (b ≡ true) × (c ≡ true)
all_three a b c h = let k : (a && b) ≡ true = and_left (a && b) c h in (and_left a b k, and_right a b k, and_right (a && b) c h)

or_cases : (a b : Bool) → (a || b) ≡ true → (a ≡ true) ⊎ (b ≡ true)
or_cases true b h = inl refl
or_cases false b h = inr h

names_met : (ds all : List Decl) (ns : List ℕ) → names_test ds all ns ≡ true → (n : ℕ) → Memᴰ n ns → Declared ds n ⊎ (Declared all n → ⊥)
unfolding names_test undeclared
names_met ds all [] h n m = absurd (Memᴰ.not-nil m)
names_met ds all (k ∷ ns) h n m =
    ⊎_elim
    (λ e. rw e (⊎_elim (λ q. inl (ltb-true (position ds k) (length ds) q)) (λ q. inr (λ d. absurd_of (ltb (position all k) (length all)) (lt-ltb (position all k) (length all) d) q)) (or_cases (ltb (position ds k) (length ds)) (undeclared all k) (and_left _ _ h))))
    (λ q. names_met ds all ns (and_right (ltb (position ds k) (length ds) || undeclared all k) (names_test ds all ns) h) n q)
    (Memᴰ.cases_cons m)
  where
    absurd_of : (c : Bool) → c ≡ true → not c ≡ true → ⊥
    absurd_of true p q = let z : ◌≡◌ {A = ℕ} 0 1 = cc in omega arith
    absurd_of false p q = let z : ◌≡◌ {A = ℕ} 0 1 = cc in omega arith

none_met : (p : Line → Bool) (w : ℕ) (b : List ℕ) → none_test p w b ≡ true → Clear (count w b) (λ i. p (raw w b i))
unfolding none_test
none_met p w b h =
    let t : ℕ → Bool = λ i. p (raw w b i) in
    none_first t (count w b) (omega (arith, ltb-false (first t (count w b)) (count w b) (not-true (ltb (first t (count w b)) (count w b)) h), first_le t (count w b)))

unit_met : (w : ℕ) (u : List ℕ) → unit_test w u ≡ true → Declarations w u × Clear (count w u) (λ i. is pattern_line (raw w u i))
unfolding unit_test
unit_met w u h =
    let t = all_three (eqb (length u % line_bytes w) 0) (eqb (length u) 0 || is_head (raw w u 0)) (none_test (is pattern_line) w u) h in (
      (eqb-true (length u % line_bytes w) 0 t.0, λ p. ⊎_elim (λ q. absurd (omega (arith, eqb-true (length u) 0 q))) (λ q. q) (or_cases (eqb (length u) 0) (is_head (raw w u 0)) t.1)),
      none_met (is pattern_line) w u t.2,
    )

module _ (w : ℕ) (b header : List ℕ) where
  -- what the test says of the unit after xs
  at_unit : (xs ys : List (List ℕ)) (u before : List ℕ) → units_test w b header before (xs ++ (u ∷ ys)) ≡ true
      → (unit_test w u ≡ true)
      × (names_test (program (lines w (header ++ (before ++ join xs) ++ u))) (program (lines w b)) (program_names (program (lines w (header ++ u)))) ≡ true)
  unfolding units_test join
  at_unit [] ys u before h =
      let r = all_three (unit_test w u) (names_test (program (lines w (header ++ before ++ u))) (program (lines w b)) (program_names (program (lines w (header ++ u))))) (units_test w b header (before ++ u) ys) h in
      (r.0, rw append-nil r.1)
  at_unit (x ∷ xs) ys u before h =
      let q =
      all_three (unit_test w x) (names_test (program (lines w (header ++ before ++ x))) (program (lines w b)) (program_names (program (lines w (header ++ x)))))
      (units_test w b header (before ++ x) (xs ++ (u ∷ ys))) h in
      let r = at_unit xs ys u (before ++ x) q.2 in (
        r.0,
        subst (λ (c : List ℕ). names_test (program (lines w (header ++ c ++ u))) (program (lines w b)) (program_names (program (lines w (header ++ u)))) ≡ true) (append_assoc before x (join xs)) r.1,
      )

-- The test is enough.
pub cut_met : (w : ℕ) (header : List ℕ) (units : List (List ℕ)) (tail : List ℕ) → cut_test w header units tail ≡ true → Cut w ((header ++ join units) ++ tail) header units tail
unfolding cut_test header_test tail_test
cut_met w header units tail h =
    let t = all_three (header_test w header) (units_test w (header ++ join units) header [] units) (tail_test w tail) h in
    let e = all_three (eqb (length header % line_bytes w) 0) (none_test is_head w header) (none_test (is pattern_line) w header) t.0 in
    let u : units_test w (header ++ join units) header [] units ≡ true = t.1 in
    let at : (xs ys : List (List ℕ)) (x : List ℕ) → units ≡ xs ++ (x ∷ ys) → units_test w (header ++ join units) header [] (xs ++ (x ∷ ys)) ≡ true = λ xs ys x e. subst (λ (t : List (List ℕ)). units_test w (header ++ join units) header [] t ≡ true) e u in
    record {
      joined = refl;
      header_whole = eqb-true (length header % line_bytes w) 0 e.0;
      header_only = none_met is_head w header e.1;
      header_plain = none_met (is pattern_line) w header e.2;
      declarations = λ xs ys x e. (unit_met w x (at_unit w (header ++ join units) header xs ys x [] (at xs ys x e)).0).0;
      units_plain = λ xs ys x e. (unit_met w x (at_unit w (header ++ join units) header xs ys x [] (at xs ys x e)).0).1;
      tail_whole = eqb-true (length tail % line_bytes w) 0 (and_left (eqb (length tail % line_bytes w) 0) (none_test (λ l. not (is pattern_line l)) w tail) t.2);
      tail_patterns = λ i k. not-false (is pattern_line (raw w tail i)) (none_met (λ l. not (is pattern_line l)) w tail (and_right (eqb (length tail % line_bytes w) 0) (none_test (λ l. not (is pattern_line l)) w tail) t.2) i k);
      named = λ whole xs ys x e n m.
          names_met (program (lines w (header ++ join xs ++ x))) (program (lines w (header ++ join units))) (program_names (program (lines w (header ++ x))))
          (at_unit w (header ++ join units) header xs ys x [] (at xs ys x e)).1 n m;
    }
