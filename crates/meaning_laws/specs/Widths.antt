-- The widths of integer types by their numbers. Assumes nothing.
use Rattle.std.specs.Prelude.{Option, Some, None, is_some, ◌↔◌, ◌⊎◌, ◌≡◌, refl, Bool, true, false, ◌||◌, ℕ, eqb}
use Rattle.std.proofs.Common.{inl, inr, ⊎_elim, sym, ap, ◌∙◌, eqb-true}
use mathlib.Core.List.{List, [], ◌∷◌, Memᴰ}
use Rattle.number_columns.specs.Column.{pick, ◌⇒◌∥◌}
use Rattle.sheet.proofs.ListLaws.{Every, every_mem, contrary}
use Rattle.meaning.specs.declared.Iwidth.{Iwidth}
use Rattle.meaning.specs.declared.Iwidth.TheVariants.{W8, W16, W32, W64, W128, WSizet}
use Rattle.meaning.specs.Rows.{width_number, iwidth_of, is_width}

-- whether there is a width, and which
abbrev pub known : Option Iwidth → Bool
known w = is_some w

abbrev width_or : Iwidth → Option Iwidth → Iwidth
width_or v (Some w) = w
width_or v None = v

pub width_read : (w : Iwidth) → iwidth_of (width_number w) ≡ Some w
unfolding iwidth_of
width_read W8 = refl
width_read W16 = refl
width_read W32 = refl
width_read W64 = refl
width_read W128 = refl
width_read WSizet = refl

pub widths_apart : (v w : Iwidth) → width_number v ≡ width_number w → v ≡ w
widths_apart v w e = ap (width_or v) (sym (width_read v) ∙ (ap iwidth_of e ∙ width_read w))

-- a number is that of a width, or of none
told : (n : ℕ) → ((w : Iwidth) × (n ≡ width_number w)) ⊎ (iwidth_of n ≡ None)
unfolding iwidth_of
told n = go (eqb n 8) refl (eqb n 16) refl (eqb n 32) refl (eqb n 64) refl (eqb n 128) refl (eqb n 1) refl
  where
    go : (a : Bool) → eqb n 8 ≡ a → (b : Bool) → eqb n 16 ≡ b → (c : Bool) → eqb n 32 ≡ c → (d : Bool) → eqb n 64 ≡ d → (e : Bool) → eqb n 128 ≡ e → (f : Bool) → eqb n 1 ≡ f
        → ((w : Iwidth) × (n ≡ width_number w)) ⊎ ((a ⇒ Some W8 ∥ b ⇒ Some W16 ∥ c ⇒ Some W32 ∥ d ⇒ Some W64 ∥ e ⇒ Some W128 ∥ f ⇒ Some WSizet ∥ None) ≡ None)
    go true p b q c r d s e t f u = inl (W8, eqb-true n 8 p)
    go false p true q c r d s e t f u = inl (W16, eqb-true n 16 q)
    go false p false q true r d s e t f u = inl (W32, eqb-true n 32 r)
    go false p false q false r true s e t f u = inl (W64, eqb-true n 64 s)
    go false p false q false r false s true t f u = inl (W128, eqb-true n 128 t)
    go false p false q false r false s false t true u = inl (WSizet, eqb-true n 1 u)
    go false p false q false r false s false t false u = inr refl

pub width_number_of : (n : ℕ) (w : Iwidth) → iwidth_of n ≡ Some w → n ≡ width_number w
width_number_of n w e =
    ⊎_elim
    (λ (t : (v : Iwidth) × (n ≡ width_number v)). t.1 ∙ ap width_number (ap (width_or w) (sym (width_read t.0) ∙ (ap iwidth_of (sym t.1) ∙ e))))
    (λ q. contrary (known (iwidth_of n)) (ap known e) (ap known q))
    (told n)

-- ---- the test of row 5
pub is_width_known : (n : ℕ) → is_width n ≡ known (iwidth_of n)
unfolding is_width iwidth_of
is_width_known n = go (eqb n 8) (eqb n 16) (eqb n 32) (eqb n 64) (eqb n 128) (eqb n 1)
  where
    go : (a b c d e f : Bool) → (a || b || c || d || e || f) ≡ known (a ⇒ Some W8 ∥ b ⇒ Some W16 ∥ c ⇒ Some W32 ∥ d ⇒ Some W64 ∥ e ⇒ Some W128 ∥ f ⇒ Some WSizet ∥ None)
    go true b c d e f = refl
    go false true c d e f = refl
    go false false true d e f = refl
    go false false false true e f = refl
    go false false false false true f = refl
    go false false false false false true = refl
    go false false false false false false = refl

pub width_taken : (n : ℕ) → (is_width n ≡ true) ↔ ((w : Iwidth) × (iwidth_of n ≡ Some w))
width_taken n = (one, λ (t : (w : Iwidth) × (iwidth_of n ≡ Some w)). is_width_known n ∙ ap known t.1)
  where
    one : is_width n ≡ true → (w : Iwidth) × (iwidth_of n ≡ Some w)
    one h =
        ⊎_elim
        (λ (t : (v : Iwidth) × (n ≡ width_number v)). (t.0, ap iwidth_of t.1 ∙ width_read t.0))
        (λ q. contrary (is_width n) h (is_width_known n ∙ ap known q))
        (told n)

abbrev pub numbers : List ℕ
numbers = 8 ∷ 16 ∷ 32 ∷ 64 ∷ 128 ∷ 1 ∷ []

pub six : (n : ℕ) → (is_width n ≡ true) ↔ Memᴰ n numbers
unfolding is_width
six n = ((λ h. listed ((width_taken n).0 h)), every_mem (λ m. is_width m ≡ true) numbers all n)
  where
    among : (w : Iwidth) → Memᴰ (width_number w) numbers
    among W8 = Memᴰ.head refl
    among W16 = Memᴰ.tail (Memᴰ.head refl)
    among W32 = Memᴰ.tail (Memᴰ.tail (Memᴰ.head refl))
    among W64 = Memᴰ.tail (Memᴰ.tail (Memᴰ.tail (Memᴰ.head refl)))
    among W128 = Memᴰ.tail (Memᴰ.tail (Memᴰ.tail (Memᴰ.tail (Memᴰ.head refl))))
    among WSizet = Memᴰ.tail (Memᴰ.tail (Memᴰ.tail (Memᴰ.tail (Memᴰ.tail (Memᴰ.head refl)))))

    listed : (w : Iwidth) × (iwidth_of n ≡ Some w) → Memᴰ n numbers
    listed t = rw (width_number_of n t.0 t.1) (among t.0)

    all : Every (λ m. is_width m ≡ true) numbers
    all = (refl, (refl, (refl, (refl, (refl, (refl, tt))))))
