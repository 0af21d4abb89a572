-- The letters of lines in order: behind the header, one up to F that begins no declaration is C or F. Assumes nothing.
use Rattle.std.specs.Prelude.{◌≡◌, refl, List, [], ◌∷◌, ◌⊎◌, Bool, true, false, ◌&&◌, ◌||◌, ℕ, zero, suc, ◌≤◌, ◌<◌, eqb, leb, length, get_or}
use Rattle.std.proofs.Common.{sym, ◌∙◌, inl, inr, arith, eqb-true}
use Rattle.number_columns.specs.Column.{pick, ◌⇒◌∥◌}
use Rattle.sheet.specs.Line.{Line, bad, letter, number}
use Rattle.sheet.specs.Sheet.{first}
use Rattle.sheet.proofs.ListLaws.{false_true}
use Rattle.meaning.specs.declared.Due.{Due}
use Rattle.meaning.specs.declared.Due.TheVariants.{Header, Within, Broken}
use Rattle.meaning.specs.Program.{param_line, field_line, ctor_line, verdict_line, is}
use Rattle.meaning.specs.Rows.{announced, due_header, due, due_after, is_broken, row3}
use Rattle.rows_header.specs.Header.{header, Lettered}
use Rattle.rows_header.specs.OrderLaws.{rank, broken_stays, unbroken, ordered_of, later_letter}

-- a letter that row 3 lets pass
data Known (x : ℕ) : Type 0 where
  early : rank x < 3 → Known x
  late : 70 < x → Known x
  a_local : x ≡ 68 → Known x
  a_ctor : x ≡ 67 → Known x
  a_field : x ≡ 70 → Known x

picked_known : (x y : ℕ) (q : Due) (b : Bool) → (b ≡ true → x ≡ y) → Known y → is_broken (pick b q Broken) ≡ false → Known x
picked_known x y q true e k z = rw (e refl) k
picked_known x y q false e k z = false_true (sym z)

header_known : (p x : ℕ) (a : Due) → is_broken (eqb x 78 && leb p 0 ⇒ Header 0 ∥ eqb x 65 && leb p 1 ⇒ Header 1 ∥ eqb x 89 && leb p 2 ⇒ Header 2 ∥ eqb x 68 || eqb x 73 ⇒ a ∥ Broken) ≡ false → Known x
header_known p x a = go (eqb x 78) refl (eqb x 65) refl (eqb x 89) refl (eqb x 68) refl (eqb x 73) refl
  where
    go : (n : Bool) → eqb x 78 ≡ n → (g : Bool) → eqb x 65 ≡ g → (y : Bool) → eqb x 89 ≡ y → (d : Bool) → eqb x 68 ≡ d → (i : Bool) → eqb x 73 ≡ i
        → is_broken (n && leb p 0 ⇒ Header 0 ∥ g && leb p 1 ⇒ Header 1 ∥ y && leb p 2 ⇒ Header 2 ∥ d || i ⇒ a ∥ Broken) ≡ false → Known x
    go true e g _ y _ d _ i _ z = early (rw (eqb-true x 78 e) (omega arith))
    go false _ true e y _ d _ i _ z = early (rw (eqb-true x 65 e) (omega arith))
    go false _ false _ true e d _ i _ z = early (rw (eqb-true x 89 e) (omega arith))
    go false _ false _ false _ true e i _ z = a_local (eqb-true x 68 e)
    go false _ false _ false _ false _ true e z = late (omega (arith, eqb-true x 73 e))
    go false _ false _ false _ false _ false _ z = false_true (sym z)

due_known : (q : Due) (l : Line) → is_broken (due q l) ≡ false → Known (letter l)
unfolding due due_header
due_known (Header p) l = header_known p (letter l) (announced (number l 2) (number l 3) (number l 4))
due_known (Within (suc p) f c) l = picked_known (letter l) 80 (Within p f c) (is param_line l) (eqb-true (letter l) 80) (late (omega arith))
due_known (Within zero (suc f) c) l = picked_known (letter l) 70 (Within zero f c) (is field_line l) (eqb-true (letter l) 70) (a_field refl)
due_known (Within zero zero (suc c)) l = picked_known (letter l) 67 (Within zero (number l 1) c) (is ctor_line l) (eqb-true (letter l) 67) (a_ctor refl)
due_known (Within zero zero zero) l = picked_known (letter l) 86 (Header 3) (is verdict_line l) (eqb-true (letter l) 86) (late (omega arith))
due_known Broken l = λ z. false_true (sym z)

known_due : (q : Due) (ls : List Line) (i : ℕ) → is_broken (due_after q ls) ≡ false → i < length ls → Known (letter (get_or ls i bad))
unfolding due_after
known_due q [] i e h = absurd (omega arith)
known_due q (l ∷ ls) zero e h = go (due q l) (due_known q l) e
  where
    go : (r : Due) → (is_broken r ≡ false → Known (letter l)) → is_broken (due_after r ls) ≡ false → Known (letter l)
    go (Header p) k e = k refl
    go (Within p f c) k e = k refl
    go Broken k e = false_true (sym e ∙ broken_stays ls)
known_due q (l ∷ ls) (suc i) e h = known_due (due q l) ls i e (omega arith)

pub lettered : (ls : List Line) → first (row3 ls) (suc (length ls)) ≡ suc (length ls) → (i : ℕ) → header ls ≤ i → i < length ls → Lettered (get_or ls i bad)
lettered ls o i f h = record { member = λ a b. go a b (known_due (Header 0) ls i (unbroken ls (length ls) refl o) h) }
  where
    x : ℕ
    x = letter (get_or ls i bad)

    go : x ≤ 70 → (x ≡ 68 → ⊥) → Known x → (x ≡ 67) ⊎ (x ≡ 70)
    go a b (early r) = absurd (omega (arith, later_letter ls (ordered_of ls o) i f h))
    go a b (late r) = absurd (omega arith)
    go a b (a_local e) = absurd (b e)
    go a b (a_ctor e) = inl e
    go a b (a_field e) = inr e
