-- What the passes lend each other: the marks, the keep table, and memory for at most 96 declarations and 1,024 types, in sets
-- of at most two words. Assumes nothing.
use Rattle.std.specs.Prelude.{◌≡◌, List, ℕ, zero, suc, ◌-◌, ◌*◌, ◌≤◌, length, take, replicate}
use Rattle.std.proofs.Common.{◌∙◌, arith, length-take-le}
use Rattle.std.proofs.lemmas.List.{length-replicate}
use Rattle.meaning.specs.Program.{type_line, field_line}
use Rattle.meaning.specs.Rows.{count_of}
use Rattle.sheet.specs.Format.{base}
use Rattle.table_declared.specs.Passed.{Bounded}
use Rattle.table_access.specs.Tables.{decls_of}
use Rattle.erasure_laws.specs.declared.erasure.Erasure.{Erasure}
use Rattle.erasure_laws.specs.Fixpoint.{Fixpoint}
use Rattle.keep_fields.specs.Keeps.{Erased, Slotted}
use Rattle.collapse_candidates.specs.Candidates.{Ruled}
use Rattle.build_passes.specs.Passes.{Room, Lent}
use Rattle.sheet.specs.Line.{Line}
use Rattle.table_declared.specs.PassedLaws.{decls_within, types_within}
use Rattle.row8_returning.specs.Returning as returning

-- ---- erasure
module _ (ls : List Line) (w : Bounded base ls) (r : Erasure) (f : Fixpoint ls r) where
  -- the array of the marks of types serves the keep table,
  pub erased_of : length r.node ≡ 1024 → Erased ls r.node
  erased_of l = record { marks = f.types; size = omega (arith, types_within base ls w) }

  -- and the first marks of declarations serve the layouts
  pub ruled_of : length r.decl ≡ 96 → (n : ℕ) → n ≡ decls_of ls → (keep : List ℕ) → Slotted ls keep → count_of field_line ls ≤ length keep → Ruled ls (take (n - 0) r.decl) keep
  ruled_of l n e keep s k =
      let h : n - 0 ≡ decls_of ls = omega arith in
      rw h (record { marked = record { marks = f.marks; long = length-take-le (decls_of ls) r.decl (omega (arith, decls_within base ls w)) }; slotted = s; long = k })

-- ---- memory
-- m rows of at most two words
pub two_words : (x words m : ℕ) → x ≤ m → words ≤ 2 → x * words ≤ 2 * m
two_words x zero m h l = omega arith
two_words x (suc zero) m h l = omega arith
two_words x (suc (suc zero)) m h l = omega arith
two_words x (suc (suc (suc w))) m h l = absurd (omega arith)

-- the first n of 96 cells
front : (n : ℕ) → n ≤ 96 → length {A = ℕ} (take (n - 0) (replicate 96 0)) ≡ n
front n h = let e : n - 0 ≡ n = omega arith in rw e (length-take-le n (replicate 96 0) (rw length-replicate h))

-- local arrays are room enough
pub room_of : (ls : List Line) → Bounded base ls → (n words : ℕ) (u rank : List ℕ) → n ≡ decls_of ls → words ≤ 2 → length u ≡ 2 * decls_of ls → length rank ≡ decls_of ls
    → Room (decls_of ls) words u rank (take (n - 0) (replicate 96 0)) (take (n - 0) (replicate 96 0)) (replicate 192 0) (replicate 2 0) (replicate 96 0) (replicate 96 0)
room_of ls p n words u rank e w cells ranks =
    let d : decls_of ls ≤ 96 = decls_within base ls p in
    let h : length {A = ℕ} (take (n - 0) (replicate 96 0)) ≡ decls_of ls = front n (omega arith) ∙ e in
    let s : decls_of ls * words ≤ length {A = ℕ} (replicate 192 0) = rw length-replicate (two_words (decls_of ls) words 96 d w) in
    record {
      screened =
          record {
            fields_long = h;
            bodies_long = h;
            lent = record { few = omega arith; steps_long = s; marks_long = rw length-replicate w; queue_long = rw length-replicate d; found_long = rw length-replicate d };
          };
      returned = record { limit = omega arith; bodies_long = h; steps_long = s; rank_long = omega arith };
      cells = cells;
    }

-- what the verdicts leave is still room for row 8
pub returned_of : (n words : ℕ) (bodies steps rank bodies' steps' : List ℕ) → returning.Room n words bodies steps rank → length bodies' ≡ length bodies → length steps' ≡ length steps → returning.Room n words bodies' steps' rank
returned_of n words bodies steps rank bodies' steps' r e g = record { limit = r.limit; bodies_long = e ∙ r.bodies_long; steps_long = rw g r.steps_long; rank_long = r.rank_long }

-- m words are enough for the sets of the sheet's types
pub lent_of : (ls : List Line) (n types words m : ℕ) (u rank : List ℕ) → n ≡ decls_of ls → types ≡ count_of type_line ls → n ≤ 64 * words → words ≤ 2 → types * words ≤ m
    → length u ≡ 2 * decls_of ls → length rank ≡ decls_of ls → Lent (decls_of ls) (count_of type_line ls) words (replicate m 0) u rank
lent_of ls n types words m u rank e g wide few long cells ranks =
    record { wide = omega arith; few = few; long = rw (length-replicate, ← g) long; cells = cells; ranks = ranks }
