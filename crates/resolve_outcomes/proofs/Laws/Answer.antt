-- Laws of answers, and of a type seen through its parts. Assumes nothing.
use Rattle.std.proofs.Math.Path.{◌≡◌, refl, ap, subst, fun_ext}
use Rattle.std.proofs.Common.{sym, ◌∙◌, arith, ne_eqb}
use mathlib.Core.List.{List, [], ◌∷◌, ◌++◌}
use Rattle.std.specs.Prelude.{Bool, true, false, eqb}
use Prim.Native.Nat.{ℕ, zero, suc, ◌+◌, ◌≤◌, ◌<◌}
use Rattle.std.proofs.lemmas.Bool.{eqb-false}
use Rattle.number_columns.specs.Column.{◌⇒◌∥◌}
use Rattle.model.specs.Cty.{
  Cty,
  Ctys,
  TUnit,
  TAny,
  TExn,
  TVar,
  TInt,
  TFloat,
  TConst,
  TArrow,
  TApp,
  TTuple,
  TBuf,
  TRef,
  TInline,
  nil,
  cons,
  append,
  size,
  sizes,
}
use Rattle.model.specs.Resolve.{Unfold, Result, ok, fault, spent, bind}
use Rattle.resolve_outcomes.specs.Outcome.{other, built, weight, weights, instance_head, Next, eval, evals}
use Rattle.resolve_outcomes.specs.Answer.{parts, plain, listed, nine, answer, Told}
use Rattle.resolve_outcomes.specs.Leads.{Leads}
use Rattle.resolve_outcomes.proofs.Laws.Fuel.{leads_same, bind_leads}

-- ---- parts
module _ (limit : ℕ) (lay : ℕ → Unfold) (next : Next) (ps os : List ℕ) where
  abbrev one_by_one : Ctys → Result (List ℕ)
  one_by_one = evals limit lay next ps os

  one_part : (r : Result ℕ) → bind r (λ x. built limit (x ∷ []) other) ≡ bind (bind r (λ x. bind (ok []) (λ xs. ok (x ∷ xs)))) (λ xs. built limit xs other)
  unfolding bind
  one_part (ok x) = refl
  one_part (fault e) = refl
  one_part spent = refl

  two_parts : (r s : Result ℕ) → bind r (λ x. bind s (λ y. built limit (x ∷ y ∷ []) other)) ≡ bind (bind r (λ x. bind (bind s (λ y. bind (ok []) (λ ys. ok (y ∷ ys)))) (λ xs. ok (x ∷ xs)))) (λ xs. built limit xs other)
  unfolding bind
  two_parts (ok x) (ok y) = refl
  two_parts (ok x) (fault e) = refl
  two_parts (ok x) spent = refl
  two_parts (fault e) s = refl
  two_parts spent s = refl

  -- a node that is neither a variable nor a name
  pub eval_plain : (c : Cty) (es : List ℕ) → plain c ≡ true → eval limit lay next ps os c es ≡ bind (one_by_one (parts c)) (λ xs. built limit xs other)
  unfolding eval parts bind
  eval_plain TUnit es h = refl
  eval_plain TAny es h = refl
  eval_plain TExn es h = refl
  eval_plain (TVar v) es h = let z : ◌≡◌ {A = ℕ} 0 1 = cc in absurd (omega arith)
  eval_plain (TInt s w) es h = refl
  eval_plain (TFloat f) es h = refl
  eval_plain (TConst c) es h = refl
  eval_plain (TArrow a e b) es h = two_parts (eval limit lay next ps os a []) (eval limit lay next ps os b [])
  eval_plain (TApp n ts) es h = let z : ◌≡◌ {A = ℕ} 0 1 = cc in absurd (omega arith)
  eval_plain (TTuple ts) es h = refl
  eval_plain (TBuf t) es h = one_part (eval limit lay next ps os t [])
  eval_plain (TRef k t) es h = one_part (eval limit lay next ps os t [])
  eval_plain (TInline t) es h = one_part (eval limit lay next ps os t [])

  -- one list behind another
  pub evals_append : (ts us : Ctys) → one_by_one (append ts us) ≡ bind (one_by_one ts) (λ xs. bind (one_by_one us) (λ ys. ok (xs ++ ys)))
  unfolding evals append bind
  evals_append nil us = go (one_by_one us)
    where
      go : (r : Result (List ℕ)) → r ≡ bind r (λ ys. ok ys)
      go (ok xs) = refl
      go (fault e) = refl
      go spent = refl
  evals_append (cons t ts) us =
      ap (λ (r : Result (List ℕ)). bind (eval limit lay next ps os t []) (λ x. bind r (λ xs. ok (x ∷ xs)))) (evals_append ts us)
      ∙ go (eval limit lay next ps os t []) (one_by_one ts) (one_by_one us)
    where
      go : (r : Result ℕ) (s u : Result (List ℕ)) → bind r (λ x. bind (bind s (λ xs. bind u (λ ys. ok (xs ++ ys)))) (λ xs. ok (x ∷ xs))) ≡ bind (bind r (λ x. bind s (λ xs. ok (x ∷ xs)))) (λ xs. bind u (λ ys. ok (xs ++ ys)))
      go (ok x) (ok xs) (ok ys) = refl
      go (ok x) (ok xs) (fault e) = refl
      go (ok x) (ok xs) spent = refl
      go (ok x) (fault e) u = refl
      go (ok x) spent u = refl
      go (fault e) s u = refl
      go spent s u = refl

  pub evals_last : (ts : Ctys) (t : Cty) → one_by_one (append ts (cons t nil)) ≡ bind (one_by_one ts) (λ xs. bind (eval limit lay next ps os t []) (λ x. ok (xs ++ (x ∷ []))))
  unfolding evals bind
  evals_last ts t = evals_append ts (cons t nil) ∙ ap (λ (f : List ℕ → Result (List ℕ)). bind (one_by_one ts) f) (fun_ext (λ xs. go xs (eval limit lay next ps os t [])))
    where
      go : (xs : List ℕ) (r : Result ℕ) → bind (bind r (λ x. bind (ok []) (λ ys. ok (x ∷ ys)))) (λ ys. ok (xs ++ ys)) ≡ bind r (λ x. ok (xs ++ (x ∷ [])))
      go xs (ok x) = refl
      go xs (fault e) = refl
      go xs spent = refl

-- sizes and weights of the parts
pub size_parts : (c : Cty) → size c ≡ suc (sizes (parts c))
unfolding size parts
size_parts TUnit = omega arith
size_parts TAny = omega arith
size_parts TExn = omega arith
size_parts (TVar v) = omega arith
size_parts (TInt s w) = omega arith
size_parts (TFloat f) = omega arith
size_parts (TConst c) = omega arith
size_parts (TArrow a e b) = omega arith
size_parts (TApp n ts) = omega arith
size_parts (TTuple ts) = omega arith
size_parts (TBuf t) = omega arith
size_parts (TRef k t) = omega arith
size_parts (TInline t) = omega arith

pub weight_parts : (ps os : List ℕ) (c : Cty) → plain c ≡ true → weight ps os c ≡ suc (weights ps os (parts c))
unfolding weight parts
weight_parts ps os TUnit h = omega arith
weight_parts ps os TAny h = omega arith
weight_parts ps os TExn h = omega arith
weight_parts ps os (TVar v) h = let z : ◌≡◌ {A = ℕ} 0 1 = cc in absurd (omega arith)
weight_parts ps os (TInt s w) h = omega arith
weight_parts ps os (TFloat f) h = omega arith
weight_parts ps os (TConst c) h = omega arith
weight_parts ps os (TArrow a e b) h = omega arith
weight_parts ps os (TApp n ts) h = let z : ◌≡◌ {A = ℕ} 0 1 = cc in absurd (omega arith)
weight_parts ps os (TTuple ts) h = omega arith
weight_parts ps os (TBuf t) h = omega arith
weight_parts ps os (TRef k t) h = omega arith
weight_parts ps os (TInline t) h = omega arith

pub head_plain : (ps os : List ℕ) (c : Cty) → plain c ≡ true → instance_head ps os c ≡ other
unfolding instance_head
head_plain ps os TUnit h = refl
head_plain ps os TAny h = refl
head_plain ps os TExn h = refl
head_plain ps os (TVar v) h = let z : ◌≡◌ {A = ℕ} 0 1 = cc in absurd (omega arith)
head_plain ps os (TInt s w) h = refl
head_plain ps os (TFloat f) h = refl
head_plain ps os (TConst c) h = refl
head_plain ps os (TArrow a e b) h = refl
head_plain ps os (TApp n ts) h = let z : ◌≡◌ {A = ℕ} 0 1 = cc in absurd (omega arith)
head_plain ps os (TTuple ts) h = refl
head_plain ps os (TBuf t) h = refl
head_plain ps os (TRef k t) h = refl
head_plain ps os (TInline t) h = refl

pub weights_append : (ps os : List ℕ) (ts us : Ctys) → weights ps os (append ts us) ≡ weights ps os ts + weights ps os us
unfolding weights append
weights_append ps os nil us = omega arith
weights_append ps os (cons t ts) us = omega (arith, weights_append ps os ts us)

pub weights_last : (ps os : List ℕ) (f : ℕ → Cty) (n : ℕ) → weights ps os (listed f (suc n)) ≡ weights ps os (listed f n) + weight ps os (f n)
unfolding weights listed
weights_last ps os f n = omega (arith, weights_append ps os (listed f n) (cons (f n) nil))

-- ---- answers
pub answer_value : {A : Type 0} (r : ℕ) (v : A) → 4 ≤ r → answer r v ≡ ok v
unfolding answer
answer_value r v h = rw (ne_eqb r 2 (λ e. omega arith), ne_eqb r 3 (λ e. omega arith))

-- a fault is passed on
pub answer_fault : {A B : Type 0} (r : ℕ) (v : A) (w : B) → nine ≤ r → r < 4 → (f : A → Result B) → bind (answer r v) f ≡ answer r w
unfolding answer bind
answer_fault {A} {B} r v w p q f = go (eqb r 2) refl (eqb r 3) refl
  where
    go : (x : Bool) → eqb r 2 ≡ x → (y : Bool) → eqb r 3 ≡ y → bind {A = A} {B = B} (x ⇒ fault 9 ∥ y ⇒ fault 10 ∥ ok v) f ≡ (x ⇒ fault 9 ∥ y ⇒ fault 10 ∥ ok w)
    go true e y g = refl
    go false e true g = refl
    go false e false g = absurd (omega (arith, eqb-false r 2 e, eqb-false r 3 g))

-- ---- one evaluation after another
module _ {A B : Type 0} (e : ℕ → Result A) (f : ℕ → A → Result B) (k : ℕ) (v : A) (w : B) where
  -- the first one stops
  pub told_stop : (Short Short' : Type 0) (r : ℕ) → r < 4 → (Short → Short') → Told e k v Short r → Told (λ j. bind (e j) (f j)) k w Short' r
  unfolding bind
  told_stop Short Short' r h s t =
      record {
        unfuelled = λ z. ap (λ (x : Result A). bind x (f k)) (t.unfuelled z);
        short = λ z. s (t.short z);
        knows = λ z j. subst (λ (x : Result B). Leads (bind (e j) (f j)) x) (answer_fault r v w z h (f j)) (bind_leads (e j) (answer r v) (f j) (f j) (t.knows z j) (λ a. leads_same (f j a)));
      }

  -- the first one has its value
  pub told_go : (Short Short' : Type 0) (r r' : ℕ) → 4 ≤ r → Told e k v Short r → Told (λ j. f j v) k w Short' r' → Told (λ j. bind (e j) (f j)) k w Short' r'
  unfolding bind
  told_go Short Short' r r' h t u =
      record { unfuelled = λ z. first k (e k) (leads k) (u.unfuelled z); short = u.short; knows = λ z j. second j (e j) (leads j) (answer r' w) (u.knows z j) }
    where
      leads : (j : ℕ) → Leads (e j) (ok v)
      leads j = subst (λ (x : Result A). Leads (e j) x) (answer_value r v h) (t.knows (omega arith) j)

      first : (j : ℕ) (x : Result A) → Leads x (ok v) → f j v ≡ spent → bind x (f j) ≡ spent
      first j (ok a) l q = let z : a ≡ v = cc in ap (f j) z ∙ q
      first j (fault c) l q = let z : ◌≡◌ {A = ℕ} 0 1 = cc in absurd (omega arith)
      first j spent l q = refl

      second : (j : ℕ) (x : Result A) → Leads x (ok v) → (s : Result B) → Leads (f j v) s → Leads (bind x (f j)) s
      second j (ok a) l s q = let z : a ≡ v = cc in subst (λ (b : A). Leads (f j b) s) (sym z) q
      second j (fault c) l s q = let z : ◌≡◌ {A = ℕ} 0 1 = cc in absurd (omega arith)
      second j spent l s q = tt

module _ {A : Type 0} where
  -- what every fuel gives
  pub told_known : (e : ℕ → Result A) (k : ℕ) (v : A) (Short : Type 0) (r : ℕ) → nine ≤ r → ((j : ℕ) → Leads (e j) (answer r v)) → Told e k v Short r
  told_known e k v Short r h l =
      record { unfuelled = λ z. absurd (omega arith); short = λ z. absurd (omega arith); knows = λ z. l }

  pub told_same : (e e' : ℕ → Result A) (k : ℕ) (v : A) (Short Short' : Type 0) (r : ℕ) → ((j : ℕ) → e j ≡ e' j) → (Short → Short') → Told e k v Short r → Told e' k v Short' r
  told_same e e' k v Short Short' r q s t =
      record {
        unfuelled = λ z. sym (q k) ∙ t.unfuelled z;
        short = λ z. s (t.short z);
        knows = λ z j. subst (λ (x : Result A). Leads x (answer r v)) (q j) (t.knows z j);
      }

  -- one unit of fuel more
  pub told_next : (e e' : ℕ → Result A) (k : ℕ) (v : A) (Short Short' : Type 0) (r : ℕ) → e' 0 ≡ spent → ((j : ℕ) → e' (suc j) ≡ e j) → (Short → Short') → Told e k v Short r → Told e' (suc k) v Short' r
  told_next e e' k v Short Short' r z q s t =
      record {
        unfuelled = λ x. q k ∙ t.unfuelled x;
        short = λ x. s (t.short x);
        knows = λ x. go x;
      }
    where
      go : nine ≤ r → (j : ℕ) → Leads (e' j) (answer r v)
      go x zero = subst (λ (y : Result A). Leads y (answer r v)) (sym z) tt
      go x (suc j) = subst (λ (y : Result A). Leads y (answer r v)) (sym (q j)) (t.knows x j)
