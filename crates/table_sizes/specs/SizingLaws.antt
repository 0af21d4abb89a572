-- The lines of a sheet that passed rows 1 to 7, counted by their letters, and how many cells they need. Assumes nothing.
use Rattle.std.specs.Prelude.{◌≡◌, refl, List, [], ◌∷◌, Bool, true, false, ℕ, zero, suc, ◌+◌, ◌-◌, ◌*◌, ◌<◌, eqb, length}
use Rattle.std.proofs.Common.{ap, sym, ◌∙◌, arith, eqb-true}
use Rattle.std.proofs.Math.Seq.{take-length}
use Rattle.sheet.specs.Line.{Line, letter}
use Rattle.sheet.proofs.ListLaws.{false_true}
use Rattle.meaning.specs.declared.Due.{Due}
use Rattle.meaning.specs.declared.Due.TheVariants.{Header, Within, Broken}
use Rattle.meaning.specs.Program.{name_line, arg_line, type_line, param_line, ctor_line, field_line, verdict_line, select}
use Rattle.meaning.specs.Rows.{count_of, due, due_header, due_after}
use Rattle.meaning_laws.specs.Rows.{is_header}
use Rattle.rows_header.specs.OrderLaws.{header_le, count_of_le}
use Rattle.row4_limits.specs.Limits.{start, counts_of}
use Rattle.row4_limits.specs.LimitsLaws.{start_past, Kind, kind, a_name, an_arg, a_type, a_local, an_import, a_param, a_ctor, a_field, another}
use Rattle.table_declared.specs.Passed.{Passed}
use Rattle.table_declared.specs.PassedLaws.{decls_few, lines_few}
use Rattle.table_declared.specs.DeclLaws.{ends_lines, verdicts_first}
use Rattle.table_access.specs.Tables.{decls_of, sizes_of, cell_count}
use Rattle.table_sizes.specs.Sizing.{Counted}

-- ---- nine letters
broken_stays : (ls : List Line) → is_header (due_after Broken ls) ≡ false
unfolding due_after due
broken_stays [] = refl
broken_stays (l ∷ ls) = broken_stays ls

-- the lines of each letter
lettered : List Line → ℕ
lettered ls = count_of name_line ls + count_of arg_line ls + count_of type_line ls + decls_of ls + count_of param_line ls + count_of ctor_line ls + count_of field_line ls + count_of verdict_line ls

-- a line of none of the nine letters does not fit
other_due : (q : Due) (l : Line) → eqb (letter l) 78 ≡ false → eqb (letter l) 65 ≡ false → eqb (letter l) 89 ≡ false → eqb (letter l) 68 ≡ false → eqb (letter l) 73 ≡ false → eqb (letter l) 80 ≡ false → eqb (letter l) 67 ≡ false → eqb (letter l) 70 ≡ false → eqb (letter l) 86 ≡ false → due q l ≡ Broken
unfolding due due_header
other_due (Header place) l n a y d i p c f v = rw (n, a, y, d, i)
other_due (Within (suc k) m j) l n a y d i p c f v = rw p
other_due (Within zero (suc m) j) l n a y d i p c f v = rw f
other_due (Within zero zero (suc j)) l n a y d i p c f v = rw c
other_due (Within zero zero zero) l n a y d i p c f v = rw v
other_due Broken l n a y d i p c f v = refl

all_lettered : (q : Due) (ls : List Line) → is_header (due_after q ls) ≡ true → lettered ls ≡ length ls
unfolding due_after lettered select
all_lettered q [] h = refl
all_lettered q (l ∷ ls) h = go (kind (letter l)) (eqb (letter l) 86) refl (all_lettered (due q l) ls h)
  where
    go : Kind (letter l) → (v : Bool) → eqb (letter l) 86 ≡ v → lettered ls ≡ length ls → lettered (l ∷ ls) ≡ suc (length ls)
    go (a_name e) v w r = rw e (omega arith)
    go (an_arg e) v w r = rw e (omega arith)
    go (a_type e) v w r = rw e (omega arith)
    go (a_local e) v w r = rw e (omega arith)
    go (an_import e) v w r = rw e (omega arith)
    go (a_param e) v w r = rw e (omega arith)
    go (a_ctor e) v w r = rw e (omega arith)
    go (a_field e) v w r = rw e (omega arith)
    go (another n a y d i p c f) true w r = let e : letter l ≡ 86 = eqb-true (letter l) 86 w in rw e (omega arith)
    go (another n a y d i p c f) false w r =
        false_true (sym (broken_stays ls) ∙ ap (λ (k : Due). is_header (due_after k ls)) (sym (other_due q l n a y d i p c f w)) ∙ h)

module _ (ls : List Line) (p : Passed ls) where
  -- as many V lines as declarations
  verdicts_all : count_of verdict_line ls ≡ decls_of ls
  verdicts_all =
      let e : start ls (decls_of ls) ≡ length ls = start_past ls (decls_of ls) (rw (take-length ls) (omega arith)) in
      rw (e, take-length ls) at (verdicts_first ls p (decls_of ls) (omega arith))

  pub count_all : count_of param_line ls + (count_of name_line ls + count_of arg_line ls + count_of type_line ls + decls_of ls * 2 + count_of ctor_line ls + count_of field_line ls) ≡ length ls
  unfolding lettered
  count_all = omega (arith, all_lettered (Header 0) ls (ends_lines ls p), verdicts_all)

  -- the sizes, by what is counted
  pub sizes_whole : (lines names args types decls ctors fields : ℕ) → Counted ls lines names args types decls ctors fields
      → record { lines = lines; names = names; args = args; types = types; decls = decls; params = lines - (names + args + types + decls * 2 + ctors + fields); ctors = ctors; fields = fields } ≡ sizes_of ls
  unfolding sizes_of
  sizes_whole lines names args types decls ctors fields k =
      let e : lines - (names + args + types + decls * 2 + ctors + fields) ≡ count_of param_line ls = omega (arith, count_all, k.lines_are, k.names_are, k.args_are, k.types_are, k.decls_are, k.ctors_are, k.fields_are) in
      rw (e, k.lines_are, k.names_are, k.args_are, k.types_are, k.decls_are, k.ctors_are, k.fields_are)

  -- ---- the limits
  pub cells_few : cell_count (sizes_of ls) < 262144
  unfolding sizes_of counts_of
  cells_few = omega (arith, decls_few ls p, lines_few ls p, header_le ls, count_of_le param_line ls, count_of_le ctor_line ls, count_of_le field_line ls)
