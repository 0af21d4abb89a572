-- The walk of row 4 that only counts. Assumes nothing.
use Rattle.std.specs.Prelude.{◌≡◌, List, true, false, ◌&&◌, not, ℕ, ◌+◌, ◌*◌, ◌≤◌, eqb, ltb}
use Rattle.number_columns.specs.Column.{pick, ◌⇒◌∥◌}
use Rattle.sheet.specs.Format.{base}
use Rattle.sheet.specs.Line.{Line}
use Rattle.row4_limits.specs.declared.Tally.{Tally}
use Rattle.row4_limits.specs.Limits.{counted, past}
use Rattle.row4_counting.specs.declared.Quick.{Quick}
use Rattle.row4_counting.specs.WalkLaws.{Counted}

-- ---- one line more
-- a line that is counted by its letter, and tested
abbrev pub exact : Quick → ℕ → Quick
exact q x = record { known = q.known && not (past base q.tally x); letters = q.letters; tally = counted q.tally x }

-- a line that counts as a C line below D, and else as an F line
abbrev pub member : Quick → ℕ → Quick
member q x =
    let t : Tally = q.tally in
    record {
      known = q.known;
      letters = q.letters + x;
      tally = record {
        names = t.names;
        args = t.args;
        types = t.types;
        decls = t.decls;
        params = t.params;
        ctors = t.ctors + pick (ltb x 68) 1 0;
        fields = t.fields + pick (ltb 67 x) 1 0;
      };
    }

-- a line that is not known
abbrev pub unknown : Quick → Quick
unknown q = record { known = false; letters = q.letters; tally = q.tally }

-- a line by its letter: V lines count nothing, and what is past F and none of V, P and I is not known
unfoldable pub stepped : Quick → ℕ → Quick
stepped q x =
    ltb 70 x ⇒ (eqb x 86 ⇒ q ∥ eqb x 80 ⇒ exact q 80 ∥ eqb x 73 ⇒ exact q 73 ∥ unknown q) ∥
    eqb x 68 ⇒ exact q 68 ∥
    member q x

-- ---- what it keeps
-- all that is counted
abbrev pub sum : Tally → ℕ
sum t = t.names + t.args + t.types + t.decls + t.params + t.ctors + t.fields

-- all lines are known, and within their limits
pub record Whole (q : Quick) : Type 0 where
  pub known : q.known ≡ true
  pub letters : q.letters ≡ 67 * q.tally.ctors + 70 * q.tally.fields
  pub ctors : q.tally.ctors ≤ base.ctors
  pub fields : q.tally.fields ≤ base.fields

-- Before line i: where all lines passed are known and within their limits, the counts are theirs and row 4 applies to none.
pub record Right (ls : List Line) (i : ℕ) (q : Quick) : Type 0 where
  pub total : sum q.tally ≤ i
  pub letters : q.letters ≤ 70 * i
  pub most : q.letters ≤ 67 * q.tally.ctors + 70 * q.tally.fields
  pub right : Whole q → Counted base ls i q.tally
