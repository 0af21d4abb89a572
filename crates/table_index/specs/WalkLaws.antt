-- The walk over the declarations' lines from its begin to its end, and the table that it leaves. Assumes nothing.
use Rattle.std.proofs.Math.Logic.{⊎_elim}
use Rattle.std.specs.Prelude.{◌≡◌, Bool, eqb, drop}
use Rattle.std.proofs.Math.Path.{refl, ap, sym}
use Rattle.std.proofs.Common.{◌∙◌}
use mathlib.Core.List.{List, ◌++◌}
use Rattle.std.proofs.Math.Bool.{true, false}
use Prim.Native.Nat.{ℕ, zero, suc, ◌+◌, ◌-◌, ◌*◌, ◌≤◌, ◌<◌}
use native.Mathlib.Omega.{arith}
use Rattle.std.proofs.Math.Dec.{ltb}
use Rattle.std.proofs.Math.ListN.{length, get_or}
use Rattle.std.proofs.Math.Seq.{take-length, ext_get_or}
use borrow.Author.Tests.{ltb-true, ltb-false, le-ltb}
use Rattle.sheet.specs.Line.{Line, letter}
use Rattle.model.specs.Decl.{position}
use Rattle.meaning.specs.Program.{name_line, arg_line, type_line, local_line, import_line, param_line, ctor_line, field_line, is, select, program}
use Rattle.meaning.specs.Rows.{nth_line, count_of, count_before, heads_before}
use Rattle.model_laws.specs.Names.{position_le}
use Rattle.meaning_laws.specs.Program.{length_program}
use Rattle.rows_header.specs.Header as head
use Rattle.rows_header.specs.OrderLaws.{header_cases, header_letter, header_le}
use Rattle.row3_order.specs.StepLaws.{count_before_step}
use Rattle.row4_limits.specs.Limits.{start}
use Rattle.row4_limits.specs.LimitsLaws.{start_past}
use Rattle.table_declared.specs.Passed.{Passed}
use Rattle.table_declared.specs.PassedLaws.{ordered}
use Rattle.table_access.specs.declared.Sizes.{Sizes}
use Rattle.table_access.specs.Tables.{decls_of, sizes_of, at_begins, at_params, at_ctors, at_fields, at_names, cell_count, header, cells_of, lines_in, Tabled}
use Rattle.table_access.specs.CellsLaws.{cells_length, name_cell}
use Rattle.table_sizes.specs.Sizing.{lines_behind}
use Rattle.table_sizes.specs.SizingLaws.{cells_few}
use Rattle.table_sizes.specs.Filling.{Put, all, Agree, Toward}
use Rattle.table_sizes.specs.FillingLaws.{agree_join}
use Rattle.table_index.specs.declared.Seen.{Seen}
use Rattle.table_index.specs.Index.{Ready, seen_before, begin_of, Fits, named, Headed, Filled, Reached, Begun}
use Rattle.table_index.specs.LinesLaws.{same_lines, lines_behind_are, headed_of}
use Rattle.table_index.specs.IndexLaws.{begins_value, names_value, seen_fits, begin_toward, begin_fits}

-- ---- before the declarations
module _ (ls : List Line) (p : Passed ls) where
  none_before : (x : ℕ) → eqb 78 x ≡ false → eqb 65 x ≡ false → eqb 89 x ≡ false → (i : ℕ) → i ≤ head.header ls → count_before x ls i ≡ 0
  unfolding select
  none_before x u v w zero h = refl
  none_before x u v w (suc i) h =
      let l : i < length ls = omega (arith, header_le ls) in
      let e : is x (nth_line ls i) ≡ false =
      ⊎_elim (λ (q : letter (nth_line ls i) ≡ 78). rw q u) (λ q. ⊎_elim (λ (r : letter (nth_line ls i) ≡ 65). rw r v) (λ (r : letter (nth_line ls i) ≡ 89). rw r w) q)
      (header_cases (letter (nth_line ls i)) (header_letter ls (ordered ls p) i h)) in
      rw (count_before_step ls i l x, e) (none_before x u v w i (omega arith))

  none_of : (x : ℕ) → eqb 78 x ≡ false → eqb 65 x ≡ false → eqb 89 x ≡ false → count_before x ls (head.header ls) ≡ 0
  none_of x u v w = none_before x u v w (head.header ls) (omega arith)

  no_heads : heads_before ls (head.header ls) ≡ 0
  no_heads = omega (arith, none_of local_line refl refl refl, none_of import_line refl refl refl)

  -- with all names foreign
  begun_of : (t u : List ℕ) → Headed ls t → Put t u (at_names (sizes_of ls)) (count_of name_line ls) (all (decls_of ls)) → Begun ls u
  unfolding sizes_of
  begun_of t u H q =
      let d = no_heads in
      let a = none_of param_line refl refl refl in
      let c = none_of ctor_line refl refl refl in
      let f = none_of field_line refl refl refl in
      record {
        passed = p;
        filled =
            record {
              headed = record { sized = q.sized ∙ H.sized; begun = λ x l k. q.below x (omega arith) ∙ H.begun x l k };
              begins = λ x l h. absurd (omega arith);
              params = λ x l h. absurd (omega arith);
              ctors = λ x l h. absurd (omega arith);
              fields = λ x l h. absurd (omega arith);
              names = λ n l. q.inside n l ∙ rw (d, le-ltb (position (program ls) n) 0 (omega arith));
            };
      }

  pub reached_first : (t : List ℕ) → Begun ls t → Reached ls t (head.header ls) (record { decls = 0; params = 0; ctors = 0; fields = 0 })
  unfolding seen_before
  reached_first t b =
      record {
        passed = p;
        inside = header_le ls;
        seen = rw (no_heads, none_of param_line refl refl refl, none_of ctor_line refl refl refl, none_of field_line refl refl refl);
        filled = b.filled;
      }

-- ---- after the last line
module _ (ls : List Line) (t : List ℕ) (c : Seen) (R : Reached ls t (length ls) c) where
  F : Filled ls t (length ls)
  F = R.filled

  all_heads : heads_before ls (length ls) ≡ decls_of ls
  all_heads = rw (take-length ls)

  all_of : (x : ℕ) → count_before x ls (length ls) ≡ count_of x ls
  all_of x = rw (take-length ls)

  last_start : start ls (heads_before ls (length ls)) ≡ length ls
  last_start = start_past ls (heads_before ls (length ls)) (omega arith)

  last_decls : c.decls ≡ heads_before ls (length ls)
  unfolding seen_before
  last_decls = ap (λ (s : Seen). s.decls) R.seen

  pub last_room : Fits (length ls) c × (6 < length t) × (get_or t 6 0 + c.decls * 4 + 4 ≤ length t)
  last_room =
      let v = begins_value ls t F.headed in
      (seen_fits ls R.passed (length ls) (omega arith) c R.seen, v.0, rw (v.1, last_decls) (begin_fits ls (length ls) c R.seen last_start (omega (arith, all_heads)) t F.headed.sized))

  module _ (u : List ℕ) (q : Put t u (get_or t 6 0 + c.decls * 4) 4 (begin_of (length ls) c)) where
    ended : Put t u (at_begins (sizes_of ls) + heads_before ls (length ls) * 4) 4 (begin_of (length ls) c)
    ended = rw ((begins_value ls t F.headed).1, last_decls) at q

    toward : Toward (cells_of ls) t u (at_begins (sizes_of ls) + heads_before ls (length ls) * 4) (at_begins (sizes_of ls) + heads_before ls (length ls) * 4 + 4)
    toward = begin_toward ls (length ls) c R.seen last_start (omega (arith, all_heads)) t u ended

    -- all but the names
    lined : Agree (cells_of ls) u 0 (at_names (sizes_of ls))
    unfolding sizes_of
    lined =
        let T : List ℕ = cells_of ls in
        let n = toward in
        let j = agree_join T u 0 in
        let m : ℕ = at_begins (sizes_of ls) + heads_before ls (length ls) * 4 in
        j (at_fields (sizes_of ls)) (at_names (sizes_of ls))
        (j (at_ctors (sizes_of ls)) (at_fields (sizes_of ls))
        (j (at_params (sizes_of ls)) (at_ctors (sizes_of ls))
        (j m (at_params (sizes_of ls))
        (j (at_begins (sizes_of ls)) m
        (λ x l h. n.kept x (F.headed.begun x l h))
        (λ x l h. n.kept x (F.begins x l h)))
        (λ x l h. n.made x l (omega (arith, all_heads))))
        (λ x l h. n.kept x (F.params x l (omega (arith, all_of param_line)))))
        (λ x l h. n.kept x (F.ctors x l (omega (arith, all_of ctor_line)))))
        (λ x l h. n.kept x (F.fields x l (omega (arith, all_of field_line))))

    name_is : (n : ℕ) (b : Bool) → ltb (position (program ls) n) (decls_of ls) ≡ b → named ls (decls_of ls) n ≡ position (program ls) n
    name_is n true e = rw e
    name_is n false e = let l = ltb-false (position (program ls) n) (decls_of ls) e in rw e (omega (arith, position_le (program ls) n, length_program ls))

    pub filled_all : u ≡ cells_of ls
    unfolding sizes_of
    filled_all = ext_get_or 0 u (cells_of ls) (toward.sized ∙ F.headed.sized) (λ x l. go x l (ltb x (at_names (sizes_of ls))) refl)
      where
        go : (x : ℕ) → x < length u → (b : Bool) → ltb x (at_names (sizes_of ls)) ≡ b → get_or u x 0 ≡ get_or (cells_of ls) x 0
        go x l true e = lined x (omega arith) (ltb-true x (at_names (sizes_of ls)) e)
        go x l false e =
            let at : ℕ = at_names (sizes_of ls) in
            let w = ltb-false x at e in
            let z : at + (x - at) ≡ x = omega arith in
            let k : x - at < count_of name_line ls = omega (arith, toward.sized, F.headed.sized, cells_length ls) in
            let v : get_or u (at + (x - at)) 0 ≡ get_or (cells_of ls) (at + (x - at)) 0 =
            ended.above (at + (x - at)) (omega (arith, all_heads))
            ∙ F.names (x - at) k
            ∙ ap (λ (d : ℕ). named ls d (x - at)) all_heads
            ∙ name_is (x - at) (ltb (position (program ls) (x - at)) (decls_of ls)) refl
            ∙ sym (name_cell ls (x - at) k).1 in
            rw z at v

-- ---- the lines that stand in the table
module _ (s t : List ℕ) (i : ℕ) (c : Seen) (R : Reached (lines_in s) t i c) where
  pub lines_kept : lines_in t ≡ lines_in s
  lines_kept = same_lines s t R.filled.headed

  pub reached_here : Reached (lines_in t) t i c
  reached_here = rw lines_kept R

pub reached_there : (s t u : List ℕ) (i : ℕ) (c : Seen) → lines_in t ≡ lines_in s → Reached (lines_in t) u i c → Reached (lines_in s) u i c
reached_there s t u i c e R = rw e at R

-- ---- the whole
tabled_of : (v w : List ℕ) → Passed (lines_in v) → w ≡ cells_of (lines_in v) → Tabled w × (lines_in w ≡ lines_in v)
tabled_of v w p e =
    let n : lines_in w ≡ lines_in v = same_lines v w (record { sized = ap length e; begun = λ x l h. ap (λ (y : List ℕ). get_or y x 0) e }) in
    (rw n (record { passed = p; holds = e }), n)

module _ (z : Sizes) (t : List ℕ) (D : Ready z t) where
  lines_are : z.lines ≡ length (lines_behind z t)
  unfolding sizes_of
  lines_are = ap (λ (s : Sizes). s.lines) D.sizes

  names_are : z.names ≡ count_of name_line (lines_behind z t)
  unfolding sizes_of
  names_are = ap (λ (s : Sizes). s.names) D.sizes

  args_are : z.args ≡ count_of arg_line (lines_behind z t)
  unfolding sizes_of
  args_are = ap (λ (s : Sizes). s.args) D.sizes

  types_are : z.types ≡ count_of type_line (lines_behind z t)
  unfolding sizes_of
  types_are = ap (λ (s : Sizes). s.types) D.sizes

  decls_are : z.decls ≡ decls_of (lines_behind z t)
  unfolding sizes_of
  decls_are = ap (λ (s : Sizes). s.decls) D.sizes

  pub sizes_fit : (cell_count z < 262144) × (z.names + z.args + z.types ≤ z.lines)
  sizes_fit =
      (omega (arith, ap cell_count D.sizes, cells_few (lines_behind z t) D.passed), omega (arith, lines_are, names_are, args_are, types_are, header_le (lines_behind z t)))

  module _ (u : List ℕ) (e : u ≡ header z ++ drop 11 t) where
    at_value : (10 < length u) × (get_or u 10 0 ≡ at_names (sizes_of (lines_behind z t)))
    at_value = names_value (lines_behind z t) u (headed_of z t u D e)

    pub names_room : (10 < length u) × (get_or u 10 0 + z.names ≤ length u)
    unfolding sizes_of
    names_room = (at_value.0, rw (at_value.1, names_are) (omega (arith, (headed_of z t u D e).sized, cells_length (lines_behind z t))))

    module _ (v : List ℕ) (q : Put u v (get_or u 10 0) z.names (all z.decls)) where
      foreign : Begun (lines_behind z t) v
      foreign = begun_of (lines_behind z t) D.passed u v (headed_of z t u D e) (rw (at_value.1, names_are, decls_are) at q)

      same : lines_in v ≡ lines_behind z t
      same =
          let n : lines_in u ≡ lines_behind z t = lines_behind_are z t u D e in
          same_lines u v (rw n foreign.filled.headed) ∙ n

      pub walk_room : Begun (lines_in v) v × (z.names + z.args + z.types ≡ head.header (lines_in v)) × (z.lines ≡ length (lines_in v))
      walk_room = rw same (foreign, omega (arith, names_are, args_are, types_are), lines_are)

      pub filled_table : (w : List ℕ) → w ≡ cells_of (lines_in v) → Tabled w × (lines_in w ≡ lines_behind z t)
      filled_table w r = let k = tabled_of v w (rw same D.passed) r in (k.0, k.1 ∙ same)
