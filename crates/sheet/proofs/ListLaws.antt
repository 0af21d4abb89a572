-- Laws of tests and of lists that stand in no library and that several files use. Assumes nothing.
use Rattle.std.specs.Prelude.{◌⊎◌, ◌≡◌, refl, Bool, true, false, ◌&&◌, ◌||◌, ℕ, zero, suc, ◌<◌, length, get_or}
use Rattle.std.proofs.Common.{inl, inr, ⊎_elim, sym, ◌∙◌, subst, arith}
use mathlib.Core.List.Memᴰ
use mathlib.Core.List.{List, [], ◌∷◌, ◌++◌, map, Memᴰ}
use Rattle.std.proofs.lemmas.Bool.{false≢true}

-- ---- tests
pub false_true : {A : Type 0} → false ≡ true → A
false_true e = absurd (false≢true e)

pub contrary : {A : Type 0} (b : Bool) → b ≡ true → b ≡ false → A
contrary b t f = false_true (sym f ∙ t)

pub both : (a b : Bool) → (a && b) ≡ true → (a ≡ true) × (b ≡ true)
both true b e = (refl, e)
both false b e = false_true e

pub one_of : (a b : Bool) → (a || b) ≡ true → (a ≡ true) ⊎ (b ≡ true)
one_of true b e = inl refl
one_of false b e = inr e

pub neither : (a b : Bool) → (a || b) ≡ false → (a ≡ false) × (b ≡ false)
neither true b e = false_true (sym e)
neither false b e = (refl, e)

-- tests that hold alike are equal
pub same_test : (a b : Bool) → (a ≡ true → b ≡ true) → (b ≡ true → a ≡ true) → a ≡ b
same_test true b f g = sym (f refl)
same_test false true f g = g refl
same_test false false f g = refl

-- ---- lists
pub length_nil : {A : Type 0} (l : List A) → length l ≡ 0 → l ≡ []
length_nil [] h = refl
length_nil (x ∷ l) h = absurd (omega arith)

-- within a list the default is not looked at
pub get_or_within : {A : Type 0} (l : List A) (i : ℕ) (a b : A) → i < length l → get_or l i a ≡ get_or l i b
get_or_within [] i a b h = absurd (omega arith)
get_or_within (x ∷ l) zero a b h = refl
get_or_within (x ∷ l) (suc i) a b h = get_or_within l i a b (omega arith)

-- ---- a property of each member of a list
abbrev pub Every : {A : Type 0} → (A → Type 0) → List A → Type 0
Every Q [] = Unit {0}
Every Q (x ∷ xs) = Q x × Every Q xs

pub every_mem : {A : Type 0} (Q : A → Type 0) (xs : List A) → Every Q xs → (x : A) → Memᴰ x xs → Q x
every_mem Q [] h x m = absurd (Memᴰ.not-nil m)
every_mem Q (y ∷ ys) h x m =
    ⊎_elim (λ e. subst Q (sym e) h.0) (λ n. every_mem Q ys h.1 x n) (Memᴰ.cases_cons m)

pub mem_every : {A : Type 0} (Q : A → Type 0) (xs : List A) → ((x : A) → Memᴰ x xs → Q x) → Every Q xs
mem_every Q [] f = tt
mem_every Q (x ∷ xs) f = (f x (Memᴰ.head refl), mem_every Q xs (λ y m. f y (Memᴰ.tail m)))

-- the same by places
pub every_at : {A : Type 0} (Q : A → Type 0) (d : A) (xs : List A) → Every Q xs → (i : ℕ) → i < length xs → Q (get_or xs i d)
every_at Q d [] h i l = absurd (omega arith)
every_at Q d (x ∷ xs) h zero l = h.0
every_at Q d (x ∷ xs) h (suc i) l = every_at Q d xs h.1 i (omega arith)

pub at_every : {A : Type 0} (Q : A → Type 0) (d : A) (xs : List A) → ((i : ℕ) → i < length xs → Q (get_or xs i d)) → Every Q xs
at_every Q d [] f = tt
at_every Q d (x ∷ xs) f = (f 0 (omega arith), at_every Q d xs (λ i l. f (suc i) (omega arith)))

pub every_map : {A : Type 0} (Q R : A → Type 0) (f : (x : A) → Q x → R x) (xs : List A) → Every Q xs → Every R xs
every_map Q R f [] h = tt
every_map Q R f (x ∷ xs) h = (f x h.0, every_map Q R f xs h.1)

pub every_over : {A B : Type 0} (P : B → Type 0) (f : A → B) (xs : List A) → Every (λ x. P (f x)) xs → Every P (map f xs)
every_over P f [] h = tt
every_over P f (x ∷ xs) h = (h.0, every_over P f xs h.1)

pub every_append : {A : Type 0} (P : A → Type 0) (xs ys : List A) → Every P xs → Every P ys → Every P (xs ++ ys)
every_append P [] ys h k = k
every_append P (x ∷ xs) ys h k = (h.0, every_append P xs ys h.1 k)

pub every_left : {A : Type 0} (P : A → Type 0) (xs ys : List A) → Every P (xs ++ ys) → Every P xs
every_left P [] ys h = tt
every_left P (x ∷ xs) ys h = (h.0, every_left P xs ys h.1)

pub every_right : {A : Type 0} (P : A → Type 0) (xs ys : List A) → Every P (xs ++ ys) → Every P ys
every_right P [] ys h = h
every_right P (x ∷ xs) ys h = every_right P xs ys h.1
