-- What is due after a line, by its letter. Assumes nothing.
use Rattle.std.specs.Prelude.{◌≡◌, ◌⊎◌, true, false, eqb, ltb}
use Rattle.std.proofs.Common.{inl, inr, arith}
use Prim.Native.Nat.{ℕ, zero, suc, ◌-◌, ◌≤◌}
use Rattle.std.proofs.Math.Dec.{eqb-suc-zero}
use borrow.Author.Tests.{lt-ltb, le-leb}
use Rattle.number_columns.specs.Column.{pick}
use Rattle.sheet.specs.Line.{Line, letter, number}
use Rattle.meaning.specs.declared.Due.TheVariants.{Header, Within, Broken}
use Rattle.meaning.specs.Rows.{announced, due_header, due}

less : (n : ℕ) → suc n - 1 ≡ n
less n = omega arith

more : (n : ℕ) → ltb 0 (suc n) ≡ true
more n = lt-ltb 0 (suc n) (omega arith)

-- ---- a D or I line of the header
pub due_head : (l : Line) (place x : ℕ) → letter l ≡ x → (x ≡ 68) ⊎ (x ≡ 73) → due_header place l ≡ announced (number l 2) (number l 3) (number l 4)
unfolding due_header
due_head l place x r (inl e) = rw (r, e)
due_head l place x r (inr e) = rw (r, e)

-- ---- a line in a declaration, by its letter
module _ (l : Line) where
  pub due_param : (p f c : ℕ) → letter l ≡ 80 → due (Within p f c) l ≡ pick (eqb p 0) Broken (Within (p - 1) f c)
  unfolding due
  due_param zero zero zero e = rw e
  due_param zero zero (suc c) e = rw e
  due_param zero (suc f) c e = rw e
  due_param (suc p) f c e = rw (e, eqb-suc-zero p, less p)

  pub due_field : (p f c : ℕ) → letter l ≡ 70 → due (Within p f c) l ≡ pick (ltb 0 p) Broken (pick (eqb f 0) Broken (Within 0 (f - 1) c))
  unfolding due
  due_field zero zero zero e = rw e
  due_field zero zero (suc c) e = rw e
  due_field zero (suc f) c e = rw (e, eqb-suc-zero f, less f)
  due_field (suc p) f c e = rw (e, more p)

  pub due_ctor : (p f c : ℕ) → letter l ≡ 67 →
      due (Within p f c) l ≡ pick (ltb 0 p) Broken (pick (ltb 0 f) Broken (pick (eqb c 0) Broken (Within 0 (number l 1) (c - 1))))
  unfolding due
  due_ctor zero zero zero e = rw e
  due_ctor zero zero (suc c) e = rw (e, eqb-suc-zero c, less c)
  due_ctor zero (suc f) c e = rw (e, more f)
  due_ctor (suc p) f c e = rw (e, more p)

  pub due_verdict : (p f c : ℕ) → letter l ≡ 86 →
      due (Within p f c) l ≡ pick (ltb 0 p) Broken (pick (ltb 0 f) Broken (pick (ltb 0 c) Broken (Header 3)))
  unfolding due
  due_verdict zero zero zero e = rw e
  due_verdict zero zero (suc c) e = rw (e, more c)
  due_verdict zero (suc f) c e = rw (e, more f)
  due_verdict (suc p) f c e = rw (e, more p)

  pub due_other : (p f c : ℕ) → eqb (letter l) 80 ≡ false → eqb (letter l) 70 ≡ false → eqb (letter l) 67 ≡ false → eqb (letter l) 86 ≡ false →
      due (Within p f c) l ≡ Broken
  unfolding due
  due_other zero zero zero a b c d = rw d
  due_other zero zero (suc n) a b c d = rw c
  due_other zero (suc f) n a b c d = rw b
  due_other (suc p) f n a b c d = rw a

-- ---- a line of the header where no later part has come
module _ (l : Line) (p : ℕ) where
  pub due_name : letter l ≡ 78 → p ≤ 0 → due (Header p) l ≡ Header 0
  unfolding due due_header
  due_name e h = rw (e, le-leb p 0 h)

  pub due_arg : letter l ≡ 65 → p ≤ 1 → due (Header p) l ≡ Header 1
  unfolding due due_header
  due_arg e h = rw (e, le-leb p 1 h)

  pub due_type : letter l ≡ 89 → p ≤ 2 → due (Header p) l ≡ Header 2
  unfolding due due_header
  due_type e h = rw (e, le-leb p 2 h)
