-- From the rows to what a call of the build gives. Assumes nothing.
use Rattle.std.specs.Prelude.{◌≡◌, refl, List, [], ◌++◌, ℕ, ◌+◌, ◌*◌, ◌-◌, ◌≤◌, ◌<◌, length, take, drop}
use Rattle.std.proofs.Common.{ap, ◌∙◌, subst, append-nil, arith}
use Rattle.sheet.specs.Format.{base}
use Rattle.sheet.proofs.ListLaws.{length_nil}
use Rattle.sheet.specs.Sheet.{count}
use Rattle.model.specs.Run.{run}
use Rattle.meaning.specs.Program.{program}
use Rattle.table_access.specs.Tables.{lines_in}
use Rattle.answer.specs.declared.Refusal.TheVariants.{Refused}
use Rattle.answer.specs.Answer.{refusal}
use Rattle.answer_laws.specs.Build.{whole_length, row1_small}
use Rattle.answer_patterns.specs.Cut.{Call}
use Rattle.answer_patterns.specs.Whole.{front, tail, input_rows}
use Rattle.answer_pattern_laws.specs.Rows.{rows_input}
use Rattle.answer_built.specs.declared.Built.{Built}
use Rattle.answer_built.specs.Built.{refused_as, given, Gives, GivesFront}
use Rattle.answer_built.specs.BuiltLaws.{front_eleven, front_refused, gives_refused, gives_plain}
use Rattle.input_table.specs.Table.{Tailed}
use Rattle.input_table.specs.TableLaws.{cut_first, cut_rest, read_lent, tailed_lent, joined_lent}
use Rattle.input_rows.specs.declared.Decided.{Decided}
use Rattle.input_rows.specs.Judging.{Clear, Accepts}
use Rattle.input_rows.specs.JudgingLaws.{clear_of, decls_room}
use Rattle.build.specs.Build.{Taken}

-- ---- a refusal
pub gives_input : (b v l : List ℕ) (code place : ℕ) → refusal (input_rows base b) ≡ Refused code place → Gives b v l (refused_as code place) v l
gives_input b v l code place e =
    gives_refused b (front 6 b) (tail 6 b) v l refl refl code place (rows_input base b (front 6 b) (tail 6 b) refl refl (length v) (length l) code place e)

-- ---- the parts of an accepted sheet as they are lent
module _ (b t keep u rank : List ℕ) (r : Decided) (a : Accepts b t keep u rank r) where
  pub taken_lent : (room last : ℕ) → room ≡ 8 * r.lines + 16 → last ≡ room + 6 * count 6 (take (length b - r.lines * 32) (drop (r.lines * 32) b))
      → Taken (take (r.lines * 32 - 0) b) (take (length b - r.lines * 32) (drop (r.lines * 32) b)) (take (r.cells - 0) t) (take (last - room) (drop room t)) (take (2 * r.decls - 0) u) (take (r.decls - 0) rank) keep
  taken_lent room last e f =
      let at : ℕ = r.lines * 32 in
      let read = read_lent b t r.lines r.cells a.parts at refl in
      let tailed = tailed_lent b t r.lines r.cells a.parts at room last refl e f in
      let c : r.cells - 0 ≡ r.cells = omega arith in
      let n : r.decls - 0 ≡ r.decls = omega arith in
      let m : 2 * r.decls - 0 ≡ 2 * r.decls = omega arith in
      record { clear = clear_of _ _ _ _ read tailed _ _ _ (rw (c, n, m) a.found); tailed = tailed; counts = rw (cut_first b at, cut_rest b at) a.counts }

  pub counted_lent : r.rounds ≡ (run 100 (program (lines_in (take (r.cells - 0) t)))).rounds
  counted_lent = let c : r.cells - 0 ≡ r.cells = omega arith in rw c a.counted

  pub decls_lent : r.decls ≤ 96
  decls_lent = decls_room _ _ a.parts.read.of r.decls a.decls_are

  pub gives_lent : (v l : List ℕ) (g : Built) (v' l' : List ℕ) → Gives (take (r.lines * 32 - 0) b ++ take (length b - r.lines * 32) (drop (r.lines * 32) b)) v l g v' l' → Gives b v l g v' l'
  gives_lent v l g v' l' w = subst (λ (x : List ℕ). Gives x v l g v' l') (joined_lent b t r.lines r.cells a.parts (r.lines * 32)) w

-- ---- a sheet without Q lines
module _ (b z t q u rank keep : List ℕ) (c : Clear b t u rank keep) (tailed : Tailed b z q) (empty : length q ≡ 0) where
  no_tail : z ≡ []
  no_tail = length_nil z (whole_length 6 z tailed.parted.tail_whole ∙ omega (arith, tailed.sized, empty))

  all_front : b ++ z ≡ b
  all_front = ap (λ (x : List ℕ). b ++ x) no_tail ∙ append-nil b

  pub gives_front : (v l : List ℕ) (r : Built) (v' l' : List ℕ) → GivesFront b v l r v' l' → Gives (b ++ z) v l r v' l'
  gives_front v l r v' l' g = rw all_front (gives_plain b v l r v' l' tailed.parted.plain g)

  pub gives_eleven : (v l : List ℕ) → length v < length b → Gives (b ++ z) v l (refused_as 11 (length b)) v l
  gives_eleven v l h =
      gives_front v l (refused_as 11 (length b)) v l
      (front_refused b v l 11 (length b) (omega (arith, small)) (front_eleven b (length v) (length l) c.accepted h))
    where
      small : length b ≤ 65536
      small = row1_small base b c.read.of.short

-- ---- calls
-- A call of the build is a call that the claims speak of (`cut_calls`).
pub call_of : (b v l : List ℕ) (r : Built) (v' l' : List ℕ) → Gives b v l r v' l' → Call base
call_of b v l r v' l' g = record { sheet = b; verdict = v; left = l; gave = given r v' l'; is_called = g.is_called }
