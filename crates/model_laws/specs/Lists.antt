-- Laws of tests, marks and tables that several files use. Assumes nothing.
use Rattle.std.specs.Prelude.{◌≡◌, refl, List, [], ◌∷◌, ◌++◌, map, Bool, true, false, ℕ, zero, suc, ◌+◌, ◌≤◌, ◌<◌, T, length, get_or}
use Rattle.std.proofs.Common.{ap, ap₂, ◌∙◌, arith}
use Rattle.std.proofs.Math.ListN
use Rattle.std.proofs.lemmas.List.{length-map}
use Rattle.std.proofs.Math.ListN.{get_or-eq_default}
use Rattle.sheet.proofs.ListLaws.{get_or_within}
use Rattle.model.specs.Decl.{bit, table}

-- ---- tests
pub true_of : (b : Bool) → T b → b ≡ true
true_of true t = refl
true_of false t = absurd t

-- two tests that imply each other are equal
pub t_ext : (a b : Bool) → (T a → T b) → (T b → T a) → a ≡ b
t_ext true true f g = refl
t_ext true false f g = absurd (f tt)
t_ext false true f g = absurd (g tt)
t_ext false false f g = refl

-- ---- lists
-- an element of a map, whatever stands for one past the last
pub get_or_map : {A B : Type 0} (f : A → B) (l : List A) (i : ℕ) (d : B) (a : A) → i < length l → get_or (map f l) i d ≡ f (get_or l i a)
get_or_map f l i d a h = get_or_within (map f l) i d (f a) (rw length-map h) ∙ ListN.get_or-map f l i a

-- how many there are of true
unfoldable pub trues : List Bool → ℕ
trues [] = 0
trues (x ∷ s) = bit x + trues s

-- ---- tables
pub length_table : {A : Type 0} (f : ℕ → A) (n : ℕ) → length (table f n) ≡ n
unfolding table
length_table f zero = refl
length_table f (suc n) = ap suc (length_table (λ i. f (suc i)) n)

-- an entry of a table is what the table's function gives there
pub get_or_table : {A : Type 0} (f : ℕ → A) (n i : ℕ) (d : A) → i < n → get_or (table f n) i d ≡ f i
unfolding table
get_or_table f zero i d h = absurd (omega arith)
get_or_table f (suc n) zero d h = refl
get_or_table f (suc n) (suc i) d h = get_or_table (λ j. f (suc j)) n i d (omega arith)

pub get_or_table_past : {A : Type 0} (f : ℕ → A) (n i : ℕ) (d : A) → n ≤ i → get_or (table f n) i d ≡ d
get_or_table_past f n i d h = get_or-eq_default (table f n) d (rw length_table h)

-- one entry more stands at the end
pub table_last : {A : Type 0} (f : ℕ → A) (n : ℕ) → table f (suc n) ≡ table f n ++ (f n ∷ [])
unfolding table
table_last f zero = refl
table_last {A} f (suc n) = ap (λ (l : List A). f 0 ∷ l) (table_last (λ i. f (suc i)) n)

-- equal entries make equal tables
pub table_cong : {A : Type 0} (f g : ℕ → A) (n : ℕ) → ((i : ℕ) → i < n → f i ≡ g i) → table f n ≡ table g n
unfolding table
table_cong f g zero e = refl
table_cong f g (suc n) e = ap₂ ◌∷◌ (e 0 (omega arith)) (table_cong (λ i. f (suc i)) (λ i. g (suc i)) n (λ i h. e (suc i) (omega arith)))

-- a table of what a function makes of entries
pub table_map : {A B : Type 0} (g : A → B) (f : ℕ → A) (n : ℕ) → table (λ i. g (f i)) n ≡ map g (table f n)
unfolding table
table_map g f zero = refl
table_map g f (suc n) = ap (λ xs. g (f 0) ∷ xs) (table_map g (λ i. f (suc i)) n)
