-- What stands in the runs at the front of a sheet. Assumes nothing.
use Rattle.std.proofs.Math.Path.{◌≡◌, refl}
use Rattle.std.proofs.Common.{arith}
use Rattle.std.specs.Prelude.{List, Bool, ◌&&◌, not, ℕ, zero, suc, ◌≤◌, ◌<◌, eqb}
use Rattle.std.proofs.Math.Bool.{true, false}
use Rattle.std.proofs.Math.Dec.{leb}
use Rattle.std.proofs.Math.ListN.{length}
use borrow.Author.Tests.{eqb-true, eqb-false, ne_eqb, eq-eqb, le-leb, leb-true, leb-false}
use Rattle.sheet.specs.Line.{Line, letter}
use Rattle.sheet.specs.Sheet.{first}
use Rattle.sheet.proofs.FirstLaws.{first_le, first_holds, first_before, first_none}
use Rattle.meaning.specs.Program.{name_line, arg_line, type_line, is}
use Rattle.meaning.specs.Rows.{nth_line}
use Rattle.rows_runs.specs.declared.Runs.{Runs}
use Rattle.rows_runs.specs.Runs.{run_end, runs_of}

-- what holds at i, and after each line from there on
pub upward : (P : ℕ → Type 0) (i : ℕ) → P i → ((j : ℕ) → i ≤ j → P j → P (suc j)) → (j : ℕ) → i ≤ j → P j
upward P i z s zero h = let e : i ≡ 0 = omega arith in rw e at z
upward P i z s (suc j) h = go (eqb i (suc j)) refl (upward P i z s j)
  where
    go : (b : Bool) → eqb i (suc j) ≡ b → (i ≤ j → P j) → P (suc j)
    go true e r = rw (eqb-true i (suc j) e) at z
    go false e r = let l : i ≤ j = omega (arith, eqb-false i (suc j) e) in s j l (r l)

-- ---- one run
-- line j ends a run of letter x from line i on
abbrev pub ends : ℕ → List Line → ℕ → ℕ → Bool
ends x ls i j = leb i j && not (is x (nth_line ls j))

module _ (x : ℕ) (ls : List Line) (i : ℕ) where
  pub run_le : run_end x ls i ≤ length ls
  unfolding run_end
  run_le = first_le (ends x ls i) (length ls)

  pub run_from : i ≤ length ls → i ≤ run_end x ls i
  unfolding run_end
  run_from h = go (leb i (run_end x ls i)) refl
    where
      go : (b : Bool) → leb i (run_end x ls i) ≡ b → i ≤ run_end x ls i
      go true e = leb-true i (run_end x ls i) e
      go false e =
          let l : run_end x ls i < length ls = omega (arith, leb-false i (run_end x ls i) e, run_le) in
          let t : ends x ls i (run_end x ls i) ≡ true = first_holds (ends x ls i) (length ls) l in
          let f : ends x ls i (run_end x ls i) ≡ false = rw e in
          let z : ◌≡◌ {A = ℕ} 0 1 = cc in absurd (omega arith)

  pub run_is : (j : ℕ) → i ≤ j → j < run_end x ls i → letter (nth_line ls j) ≡ x
  unfolding run_end
  run_is j h l = go (is x (nth_line ls j)) refl
    where
      go : (b : Bool) → is x (nth_line ls j) ≡ b → letter (nth_line ls j) ≡ x
      go true e = eqb-true (letter (nth_line ls j)) x e
      go false e =
          let f : ends x ls i j ≡ false = first_before (ends x ls i) (length ls) j l in
          let t : ends x ls i j ≡ true = rw (le-leb i j h, e) in
          let z : ◌≡◌ {A = ℕ} 0 1 = cc in absurd (omega arith)

-- ---- for a loop over lines from line i on, at line j
module _ (ls : List Line) (x i : ℕ) where
  pub run_begin : first (ends x ls i) i ≡ i
  run_begin = first_none (ends x ls i) i (λ j h. go (leb i j) refl h)
    where
      go : {j : ℕ} (c : Bool) → leb i j ≡ c → j < i → (c && not (is x (nth_line ls j))) ≡ false
      go true e h = absurd (omega (arith, leb-true i _ e))
      go false e h = refl

  module _ (j y : ℕ) (h : i ≤ j) (e : y ≡ letter (nth_line ls j)) where
    pub run_stays : y ≡ x → ends x ls i j ≡ false
    run_stays q = rw (← e, eq-eqb y x q, le-leb i j h)

    pub run_stops : (y ≡ x → ⊥) → ends x ls i j ≡ true
    run_stops q = rw (← e, ne_eqb y x q, le-leb i j h)

-- ---- the runs
-- each run begins where the one before it ends, and has lines of its letter alone
pub record Spans (ls : List Line) (r : Runs) : Type 0 where
  pub to_args : r.names ≤ r.args
  pub to_types : r.args ≤ r.types
  pub to_end : r.types ≤ length ls
  pub names : (j : ℕ) → 0 ≤ j → j < r.names → letter (nth_line ls j) ≡ name_line
  pub args : (j : ℕ) → r.names ≤ j → j < r.args → letter (nth_line ls j) ≡ arg_line
  pub types : (j : ℕ) → r.args ≤ j → j < r.types → letter (nth_line ls j) ≡ type_line

pub spans : (ls : List Line) → Spans ls (runs_of ls)
unfolding runs_of
spans ls =
    let n : ℕ = run_end name_line ls 0 in
    let a : ℕ = run_end arg_line ls n in
    record {
      to_args = run_from arg_line ls n (run_le name_line ls 0);
      to_types = run_from type_line ls a (run_le arg_line ls n);
      to_end = run_le type_line ls a;
      names = run_is name_line ls 0;
      args = run_is arg_line ls n;
      types = run_is type_line ls a;
    }
