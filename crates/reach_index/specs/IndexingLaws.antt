-- From the rows and the sets of a table to the reach index of a sheet, and to its lines. Assumes nothing.
use Rattle.std.specs.Prelude.{◌≡◌, refl, ℕ, zero, suc, ◌+◌, ◌*◌, ◌-◌, ◌≤◌, ◌<◌, get_or, take, set}
use Rattle.std.proofs.Math.Path.{sym, ap}
use Rattle.std.proofs.Common.{◌∙◌, subst, add-one, arith, length-append, get_or-set_same, get_or-set_other}
use mathlib.Core.List.{List, [], ◌∷◌, ◌++◌, append-nil}
use Rattle.std.proofs.Math.Decide.{ℕ_discrete}
use Rattle.std.proofs.Math.ListN.{length, drop}
use Rattle.sheet.specs.Format.{base}
use Rattle.sheet.specs.Line.{Line, encode, number}
use Rattle.sheet.proofs.LineLaws.{row_length}
use Rattle.sheet.specs.Sheet.{encodes}
use Rattle.sheet.proofs.SheetLaws.{encodes_append}
use Rattle.sheet.specs.Output.{put_at}
use Rattle.sheet.proofs.OutputLaws.{put_more, length_put}
use Rattle.model.specs.Decl.{Decl, Dtype, dtype_at, table, close_fields}
use Rattle.model_laws.specs.Lists.{table_last, table_cong}
use Rattle.meaning.specs.Program.{dtype_of, program}
use Rattle.meaning_laws.specs.Program.{length_program}
use Rattle.answer.specs.declared.Refusal.TheVariants.{Accepted, Refused}
use Rattle.answer.specs.Answer.{refusal}
use Rattle.answer_patterns.specs.Whole.{input_rows}
use Rattle.answer_reach.specs.Index.{x_line, x_lines}
use Rattle.answer_reach.specs.Given.{declared, IndexOf, listed, Lists}
use Rattle.reach_laws.specs.IndexLaws.{ones_count}
use Rattle.set_closure.specs.Ones.{ones_of}
use Rattle.table_declared.specs.DeclLaws.{dtype_is}
use Rattle.table_access.specs.Tables.{head_line, decls_of, lines_in, TabledIn}
use Rattle.input_rows.specs.declared.Decided.{Decided}
use Rattle.input_rows.specs.Judging.{Accepts}
use Rattle.input_rows.specs.JudgingLaws.{program_parts, decls_room}
use Rattle.reach_index.specs.declared.Index.{Index}
use Rattle.reach_index.specs.Indexing.{Named, Taken, Finds, line_of, Put}

-- ---- names
name_at : (ls : List Line) (d : ℕ) → d < decls_of ls → (dtype_at (program ls) d).dt_name ≡ number (head_line ls d) 0
unfolding close_fields dtype_of
name_at ls d h = ap (λ (x : Dtype). x.dt_name) (dtype_is ls d h)

pub names_more : (ls : List Line) (d : ℕ) (s s' : List ℕ) (v : ℕ) → d < decls_of ls → d < length s → length s' ≡ length s → Named (program ls) d s' → v ≡ number (head_line ls d) 0 → Named (program ls) (d + 1) (set s' d v)
names_more ls d s s' v h l long n e i k = go (ℕ_discrete i d)
  where
    go : Dec (i ≡ d) → get_or (set s' d v) i 0 ≡ (dtype_at (program ls) i).dt_name
    go (yes z) = rw z (get_or-set_same s' d v 0 (omega (arith, long, l)) ∙ (e ∙ sym (name_at ls d h)))
    go (no z) = get_or-set_other s' d i v 0 z ∙ n i (omega arith)

-- ---- an accepted sheet
module _ (b t keep u rank : List ℕ) (d : Decided) (a : Accepts b t keep u rank d) where
  -- the table that is lent
  cells_all : d.cells - 0 ≡ d.cells
  cells_all = omega arith

  pub tabled_of : TabledIn base (take (d.cells - 0) t)
  tabled_of = rw cells_all (record { tabled = a.parts.read.of.tabled; bounded = a.parts.read.of.bounded })

  same : program (lines_in (take (d.cells - 0) t)) ≡ declared base b
  unfolding declared
  same = rw cells_all (program_parts b t d.lines d.cells a.parts)

  counted : d.decls ≡ decls_of (lines_in (take (d.cells - 0) t))
  counted = rw cells_all a.decls_are

  many : d.decls ≡ length (declared base b)
  many = counted ∙ (sym (length_program (lines_in (take (d.cells - 0) t))) ∙ ap length same)

  pub finds_all : (s s' names : List ℕ) → Accepted ≡ refusal (input_rows base b) → Taken (lines_in (take (d.cells - 0) t)) s' names → Finds b s (record { refusal = Accepted; decls = d.decls }) s' names
  finds_all s s' names e w =
      record {
        indexes = record {
          answer = e;
          kept = λ code place h. let z : ◌≡◌ {A = ℕ} 0 1 = cc in absurd (omega arith);
          index = λ _. subst (λ (ds : List Decl). IndexOf 96 2 ds s') same w.index;
        };
        fit = λ _. w.fit;
        few = decls_room _ _ a.parts.read.of d.decls a.decls_are;
        decls_are = λ _. many;
        names_are = λ _ i h. w.names_are i (omega (arith, h, counted, many)) ∙ ap (λ (ds : List Decl). (dtype_at ds i).dt_name) same;
      }

-- ---- a refusal
pub finds_refused : (b s names : List ℕ) (code place : ℕ) → refusal (input_rows base b) ≡ Refused code place → Finds b s (record { refusal = Refused code place; decls = 0 }) s names
finds_refused b s names code place e =
    record {
      indexes = record { answer = sym e; kept = λ c p h. refl; index = λ h. let z : ◌≡◌ {A = ℕ} 0 1 = cc in absurd (omega arith) };
      fit = λ h. let z : ◌≡◌ {A = ℕ} 0 1 = cc in absurd (omega arith);
      few = omega arith;
      decls_are = λ h. let z : ◌≡◌ {A = ℕ} 0 1 = cc in absurd (omega arith);
      names_are = λ h. let z : ◌≡◌ {A = ℕ} 0 1 = cc in absurd (omega arith);
    }

-- ---- lines
-- every line fills its bytes
line_long : (sets names : List ℕ) (n : ℕ) → length (encode 6 (line_of sets names n)) ≡ 32
line_long sets names n = row_length 6 88 (get_or names n 0 ∷ ones_of sets (n * 2) 2 ∷ 0 ∷ 0 ∷ 0 ∷ []) refl

lines_long : (sets names : List ℕ) (n : ℕ) → length (encodes 6 (table (line_of sets names) n)) ≡ 32 * n
unfolding encodes table
lines_long sets names zero = refl
lines_long sets names (suc n) =
    ap (λ (l : List Line). length (encodes 6 l)) (table_last (line_of sets names) n)
    ∙ (ap length (encodes_append 6 (table (line_of sets names) n) (line_of sets names n ∷ []) ∙ ap (λ (x : List ℕ). encodes 6 (table (line_of sets names) n) ++ x) (append-nil (encode 6 (line_of sets names n))))
    ∙ (length-append (encodes 6 (table (line_of sets names) n)) (encode 6 (line_of sets names n)) ∙ omega (arith, lines_long sets names n, line_long sets names n)))

pub put_none : (sets names o : List ℕ) → Put sets names 0 o o
unfolding encodes table
put_none sets names o = record { long = refl; written = refl }

-- one line more
pub put_line : (sets names : List ℕ) (d : ℕ) (o o' q : List ℕ) → Put sets names d o o' → 32 * suc d ≤ length o → q ≡ encode 6 (line_of sets names d) → Put sets names (d + 1) o (put_at 6 o' d q)
unfolding encodes
put_line sets names d o o' q p h e =
    let w : length q ≡ 32 = ap length e ∙ line_long sets names d in
    let n : d + 1 ≡ suc d = add-one d in
    record {
      long = length_put 6 o' q d (omega (arith, h, p.long)) w ∙ p.long;
      written =
          rw n
          (put_more 6 d o' (encodes 6 (table (line_of sets names) d)) q o p.written (lines_long sets names d)
          ∙ ap (λ (x : List ℕ). x ++ drop (32 * suc d) o)
          (ap (λ (x : List ℕ). encodes 6 (table (line_of sets names) d) ++ x) (e ∙ sym (append-nil (encode 6 (line_of sets names d))))
          ∙ (sym (encodes_append 6 (table (line_of sets names) d) (line_of sets names d ∷ [])) ∙ ap (encodes 6) (sym (table_last (line_of sets names) d)))));
    }

-- The lines by names and sets are those of the index.
module _ (b s : List ℕ) (r : Index) (s' names : List ℕ) (f : Finds b s r s' names) (e : r.refusal ≡ Accepted) where
  abbrev ds : List Decl
  ds = declared base b

  lines_same : table (line_of s' names) r.decls ≡ x_lines ds
  unfolding x_lines x_line
  lines_same =
      ap (table (line_of s' names)) (f.decls_are e)
      ∙ table_cong (line_of s' names) (x_line ds) (length ds)
      (λ i h. rw (f.names_are e i h, ones_count ds 96 2 s' (f.indexes.index e) (omega (arith, f.few, f.decls_are e)) (f.fit e) i (omega (arith, h, f.few, f.decls_are e))))

  pub lists_all : (o o' : List ℕ) (n : ℕ) → n ≡ r.decls * 32 → Put s' names r.decls o o' → Lists base b o (record { refusal = Accepted; length = n }) o'
  unfolding listed
  lists_all o o' n m p =
      let a : Accepted ≡ refusal (input_rows base b) = sym e ∙ f.indexes.answer in
      let x : encodes 6 (table (line_of s' names) r.decls) ≡ encodes 6 (x_lines ds) = ap (encodes 6) lines_same in
      let l : length (encodes 6 (x_lines ds)) ≡ 32 * r.decls = sym (ap length x) ∙ lines_long s' names r.decls in
      record {
        answer = a;
        length_is = rw (← a) (omega (arith, m, l));
        written = rw (← a) (p.written ∙ (ap (λ (y : List ℕ). y ++ drop (32 * r.decls) o) x ∙ ap (λ (k : ℕ). encodes 6 (x_lines ds) ++ drop k o) (sym l)));
      }

pub lists_refused : (b o : List ℕ) (code place : ℕ) → Refused code place ≡ refusal (input_rows base b) → Lists base b o (record { refusal = Refused code place; length = 0 }) o
unfolding listed
lists_refused b o code place e = record { answer = e; length_is = rw (← e) refl; written = rw (← e) refl }
