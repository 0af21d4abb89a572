-- The counts after the runs at the front, to which row 4 does not apply where they are within their limits. Assumes nothing.
use Rattle.std.specs.Prelude.{◌≡◌, List, Bool, length}
use Rattle.std.proofs.Math.Path.{refl, sym}
use Rattle.std.proofs.Common.{◌∙◌, add-one}
use Rattle.std.proofs.Math.Bool.{true, false}
use Prim.Native.Nat.{ℕ, suc, ◌+◌, ◌-◌, ◌≤◌, ◌<◌}
use native.Mathlib.Omega.{arith}
use Rattle.std.proofs.Math.Dec.{ltb}
use borrow.Author.Tests.{lt-leb, ltb-false}
use Rattle.number_columns.specs.Column.{pick}
use Rattle.sheet.specs.Format.{Format}
use Rattle.sheet.specs.Line.{Line, letter}
use Rattle.sheet.specs.Sheet.{first}
use Rattle.sheet.proofs.FirstLaws.{first_more}
use Rattle.meaning.specs.Rows.{nth_line, row4}
use Rattle.rows_runs.specs.declared.Runs.{Runs}
use Rattle.rows_runs.specs.RunsLaws.{upward, Spans}
use Rattle.row4_limits.specs.declared.Tally.{Tally}
use Rattle.row4_limits.specs.Limits.{tally_before, counted, past, counts_of}
use Rattle.row4_limits.specs.LimitsLaws.{tally_zero, tally_suc, row4_past, counts_whole}
use Rattle.row4_counting.specs.Walk.{no_runs, kept, headed, declared}

-- row 4 applies to no line before line i, and the lines before it are counted by t
pub record Counted (f : Format) (ls : List Line) (i : ℕ) (t : Tally) : Type 0 where
  pub tally : t ≡ tally_before ls i
  pub none : first (row4 f ls) i ≡ i

module _ (f : Format) (ls : List Line) where
  -- over a run of lines of one letter, from line i to line k, with the counts t at each
  over : (t : ℕ → Tally) (x i k : ℕ) → ((j : ℕ) → i ≤ j → j < k → counted (t j) x ≡ t (suc j)) → ((j : ℕ) → i ≤ j → j < k → past f (t j) x ≡ false)
      → i ≤ k → k ≤ length ls → ((j : ℕ) → i ≤ j → j < k → letter (nth_line ls j) ≡ x) → Counted f ls i (t i) → Counted f ls k (t k)
  over t x i k adds below h m run c = upward (λ j. j ≤ k → Counted f ls j (t j)) i (λ l. c) next k h (omega arith)
    where
      next : (j : ℕ) → i ≤ j → (j ≤ k → Counted f ls j (t j)) → suc j ≤ k → Counted f ls (suc j) (t (suc j))
      next j a r l =
          let g : Counted f ls j (t j) = r (omega arith) in
          record {
            tally = sym (tally_suc ls j (omega arith) ∙ rw (← g.tally, run j a l) (adds j a l));
            none = rw add-one at (first_more (row4 f ls) j g.none (row4_past f ls j ∙ rw (← g.tally, run j a l) (below j a l)));
          }

  begin : Counted f ls 0 (headed no_runs)
  unfolding first
  begin = record { tally = sym (tally_zero ls); none = refl }

  -- ---- after runs within their limits
  module _ (r : Runs) (s : Spans ls r) (n : r.names ≤ f.names) (a : r.args - r.names ≤ f.args) (y : r.types - r.args ≤ f.types) where
    abbrev named : ℕ → Tally
    named j = record { names = j; args = 0; types = 0; decls = 0; params = 0; ctors = 0; fields = 0 }

    abbrev argued : ℕ → Tally
    argued j = record { names = r.names; args = j - r.names; types = 0; decls = 0; params = 0; ctors = 0; fields = 0 }

    abbrev typed : ℕ → Tally
    typed j = record { names = r.names; args = r.args - r.names; types = j - r.args; decls = 0; params = 0; ctors = 0; fields = 0 }

    after_names : Counted f ls r.names (named r.names)
    unfolding counted past
    after_names = over named 78 0 r.names (λ j h l. rw add-one) (λ j h l. lt-leb f.names j (omega (arith, n))) (omega arith) (omega (arith, s.to_args, s.to_types, s.to_end)) s.names begin

    after_args : Counted f ls r.args (argued r.args)
    unfolding counted past
    after_args =
        over argued 65 r.names r.args
        (λ j h l. let e : j - r.names + 1 ≡ suc j - r.names = omega arith in rw e)
        (λ j h l. lt-leb f.args (j - r.names) (omega (arith, a)))
        s.to_args
        (omega (arith, s.to_types, s.to_end))
        s.args
        (let e : r.names - r.names ≡ 0 = omega arith in rw e after_names)

    pub after_runs : Counted f ls r.types (headed r)
    unfolding counted past
    after_runs =
        over typed 89 r.args r.types
        (λ j h l. let e : j - r.args + 1 ≡ suc j - r.args = omega arith in rw e)
        (λ j h l. lt-leb f.types (j - r.args) (omega (arith, y)))
        s.to_types
        s.to_end
        s.types
        (let e : r.args - r.args ≡ 0 = omega arith in rw e after_args)

  -- ---- where the walk begins
  pub record Begins (k : Runs) : Type 0 where
    pub to_args : k.names ≤ k.args
    pub to_types : k.args ≤ k.types
    pub to_end : k.types ≤ length ls
    pub counts : Counted f ls k.types (headed k)

  begins_none : Begins no_runs
  begins_none = record { to_args = omega arith; to_types = omega arith; to_end = omega arith; counts = begin }

  pub begins : (r : Runs) → Spans ls r → Begins (kept f r)
  unfolding kept
  begins r s = go (ltb f.names r.names) refl (ltb f.args (r.args - r.names)) refl (ltb f.types (r.types - r.args)) refl
    where
      go : (n : Bool) → ltb f.names r.names ≡ n → (a : Bool) → ltb f.args (r.args - r.names) ≡ a → (y : Bool) → ltb f.types (r.types - r.args) ≡ y
          → Begins (pick n no_runs (pick a no_runs (pick y no_runs r)))
      go true n a b y z = begins_none
      go false n true a y z = begins_none
      go false n false a true y = begins_none
      go false n false a false y =
          record {
            to_args = s.to_args;
            to_types = s.to_types;
            to_end = s.to_end;
            counts = after_runs r s (ltb-false f.names r.names n) (ltb-false f.args (r.args - r.names) a) (ltb-false f.types (r.types - r.args) y);
          }

-- what the counts after the last line say
pub declared_all : (ls : List Line) (i : ℕ) (t : Tally) → i ≡ length ls → t ≡ tally_before ls i → declared t ≡ counts_of ls
declared_all ls i t e q = rw (q, e) (counts_whole ls)
