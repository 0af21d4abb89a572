-- The counts are those of the left sheet's lines. Assumes nothing.
use Rattle.std.specs.Prelude.{◌≡◌, Bool, ltb, Option as Maybe, Some, None}
use Rattle.std.proofs.Math.Path.{refl, ap}
use Rattle.std.proofs.Common.{ap₂, sym, ◌∙◌, subst, add-one, length-append}
use mathlib.Core.List.{List, [], ◌∷◌, ◌++◌, map, append-nil, Memᴰ}
use Rattle.std.proofs.Math.Bool.{true, false}
use Rattle.std.proofs.Math.Option.{Option, none, some}
use Prim.Native.Nat.{ℕ, zero, suc, ◌+◌, ◌-◌, ◌*◌, ◌≤◌, ◌<◌}
use native.Mathlib.Omega.{arith}
use Rattle.std.proofs.Math.Dec.{eqb}
use Rattle.std.proofs.Math.ListN.{length, get_or}
use borrow.Author.Tests.{eqb-true, eqb-false, ne_eqb, ltb-true, ltb-false}
use Rattle.number_columns.specs.Column.{pick}
use Rattle.sheet.specs.Line.{Line, number}
use Rattle.sheet.proofs.ListLaws.{Every, every_mem}
use Rattle.model.specs.Cty.{Cty, size}
use Rattle.model.specs.Decl.{Dtype, bit, dtype_at, table, Layout, L_erased, L_newtype, L_struct, L_abbrev, L_opaque}
use Rattle.model.specs.Resolve.{resolve}
use Rattle.model.specs.Run.{with_body, rw_decl, somes, lay, layout_of_decl, left_at}
use Rattle.model_laws.specs.Lists.{table_last}
use Rattle.model_laws.specs.Run.{run_lefts}
use Rattle.meaning.specs.Program.{param_line, ctor_line, field_line, program}
use Rattle.meaning_laws.specs.Program.{length_program}
use Rattle.meaning.specs.Output.{Written, Lines, emit, decl_lines, program_lines}
use Rattle.meaning_laws.specs.Output.{emit_all, decl_written, program_append_written, program_append_lines, nothing}
use Rattle.table_declared.specs.Passed.{Passed}
use Rattle.row4_limits.specs.Limits.{start}
use Rattle.table_access.specs.Tables.{head_line, decls_of, first_of}
use Rattle.table_declared.specs.DeclLaws.{whole_at, first_next}
use Rattle.erasure_laws.specs.BodiesLaws.{first_le}
use Rattle.resolve_kids.specs.Params.{params_from, params_of}
use Rattle.resolve_kids.specs.ParamsLaws.{count_before_le}
use Rattle.keep_layouts.specs.Kept.{body_kind, body_last}
use Rattle.keep_laws.specs.KeptLaws.{params_are}
use Rattle.keep_layouts.specs.States.{state, body_of, Shape, kept_types, resolves_of}
use Rattle.form_laws.specs.NodesLaws.{length_post, emit_args, emit_types}
use Rattle.left_laws.specs.Lefts.{Ready, is_left, Flagged, left_written, Counted}
use Rattle.form_emit.specs.Left.{left_type}
use Rattle.left_laws.specs.BodyLaws.{left_body, body_lines, left_is, left_types_are, length_decl, lines_newtype, lines_bare, lines_record, lines_variant}
use Rattle.left_laws.specs.declared.Count.{Count}
use Rattle.left_count.specs.Sums.{sum_args, sum_types, Told, Added}
use Rattle.left_count.specs.SumsLaws.{told, Rest, added_lines, added_more, kept_few}
use Rattle.left_count.specs.Counts.{decl_types, decl_count, Few}
use Rattle.table_declared.specs.PassedLaws.{ctors_few, fields_few, params_few}

-- ---- types written
all_args : (ls : List Line) (d : ℕ) (ys : List ℕ) (w : Written) → length (emit_all (map (λ y. left_type ls d y) ys) w).args ≡ length w.args + sum_args ls d ys
unfolding emit_all sum_args
all_args ls d [] w = omega arith
all_args ls d (y ∷ ys) w = all_args ls d ys (emit (left_type ls d y) w) ∙ omega (arith, emit_args (left_type ls d y) w)

all_types : (ls : List Line) (d : ℕ) (ys : List ℕ) (w : Written) → length (emit_all (map (λ y. left_type ls d y) ys) w).types ≡ length w.types + sum_types ls d ys
unfolding emit_all sum_types
all_types ls d [] w = omega arith
all_types ls d (y ∷ ys) w = all_types ls d ys (emit (left_type ls d y) w) ∙ omega (arith, emit_types (left_type ls d y) w, length_post (left_type ls d y))

length_params : (ls : List Line) (p n : ℕ) → length (params_from ls p n) ≡ n
unfolding params_from
length_params ls p zero = refl
length_params ls p (suc n) = ap suc (length_params ls (suc p) n)

pub params_few_of : (ls : List Line) → Passed ls → (d : ℕ) → length (params_of ls d) ≤ 16384
params_few_of ls p d =
    omega (arith, length_params ls (first_of param_line ls d) (first_of param_line ls (d + 1) - first_of param_line ls d), count_before_le param_line ls (start ls (d + 1)), params_few ls p)

-- ---- a body
pub added_as : (ls : List Line) (d : ℕ) (xs ys : List ℕ) (j k n : ℕ) (c : Count) (r : Maybe Count) → xs ≡ ys → j ≡ k → Added ls d xs j n c r → Added ls d ys k n c r
added_as ls d xs ys j k n c r p q x = subst (λ (l : List ℕ). Added ls d l k n c r) p (subst (λ (m : ℕ). Added ls d xs m n c r) q x)

-- a variant's constructors are C lines
pub variant_few : (ls : List Line) → Passed ls → (d : ℕ) → d < decls_of ls → body_kind ls d ≡ 3 → number (head_line ls d) 4 ≤ 1024
variant_few ls p d h k = omega (arith, (whole_at ls p d h).ctors k, first_next ls d h ctor_line refl refl, first_le ctor_line ls (suc d), ctors_few ls p)

module _ (ls : List Line) (t u f keep : List ℕ) (ready : Ready ls t u f keep) (d : ℕ) (below : d < decls_of ls) where
  abbrev ys : List ℕ
  ys = resolves_of ls u keep d

  pub resolves_newtype : state u d ≡ 1 → body_of u d ∷ [] ≡ ys
  unfolding resolves_of
  resolves_newtype e = rw e refl

  module _ (n0 : state u d ≡ 0 → ⊥) (n1 : state u d ≡ 1 → ⊥) where
    pub resolves_none : body_kind ls d ≡ 0 → [] ≡ ys
    unfolding resolves_of
    resolves_none e = rw (ne_eqb (state u d) 0 n0, ne_eqb (state u d) 1 n1, e) refl

    pub resolves_abbrev : body_kind ls d ≡ 1 → body_last ls d ∷ [] ≡ ys
    unfolding resolves_of
    resolves_abbrev e = rw (ne_eqb (state u d) 0 n0, ne_eqb (state u d) 1 n1, e) refl

    pub resolves_kept : 2 ≤ body_kind ls d → kept_types ls keep (first_of field_line ls d) (first_of field_line ls (d + 1) - first_of field_line ls d) ≡ ys
    unfolding resolves_of
    resolves_kept l = rw (ne_eqb (state u d) 0 n0, ne_eqb (state u d) 1 n1, ne_eqb (body_kind ls d) 0 (λ e. omega arith), ne_eqb (body_kind ls d) 1 (λ e. omega arith)) refl

  module _ (n : ℕ) (c : Count) (r : Maybe Count) where
    abbrev Whole : Type 0
    Whole = Added ls d ys (body_lines (left_body ls u keep d)) n c r

    pub count_newtype : (y : ℕ) → state u d ≡ 1 → y ≡ body_of u d → Added ls d (y ∷ []) 0 n c r → Whole
    count_newtype y e q x =
        added_as ls d (y ∷ []) ys 0 (body_lines (left_body ls u keep d)) n c r (ap (λ (z : ℕ). z ∷ []) q ∙ resolves_newtype e)
        (sym (lines_newtype ls u keep ready.tabled.passed ready.slotted ready.settled d below e)) x

    module _ (n0 : state u d ≡ 0 → ⊥) (n1 : state u d ≡ 1 → ⊥) where
      pub count_none : body_kind ls d ≡ 0 → Added ls d [] 0 n c r → Whole
      count_none e x =
          added_as ls d [] ys 0 (body_lines (left_body ls u keep d)) n c r (resolves_none n0 n1 e)
          (sym (lines_bare ls u keep ready.tabled.passed ready.slotted ready.settled d below n1 (omega arith))) x

      pub count_abbrev : (y : ℕ) → body_kind ls d ≡ 1 → y ≡ body_last ls d → Added ls d (y ∷ []) 0 n c r → Whole
      count_abbrev y e q x =
          added_as ls d (y ∷ []) ys 0 (body_lines (left_body ls u keep d)) n c r (ap (λ (z : ℕ). z ∷ []) q ∙ resolves_abbrev n0 n1 e)
          (sym (lines_bare ls u keep ready.tabled.passed ready.slotted ready.settled d below n1 (omega arith))) x

      pub count_record : body_kind ls d ≡ 2 → Rest ls keep d (first_of field_line ls d) (first_of field_line ls (d + 1)) n c r → Whole
      count_record e x =
          let p = resolves_kept n0 n1 (omega arith) in
          added_as ls d _ ys _ (body_lines (left_body ls u keep d)) n c r p
          (ap length p ∙ sym (lines_record ls u keep ready.tabled.passed ready.slotted ready.settled d below n0 n1 e)) x

      pub count_variant : (m : Count) (k : ℕ) → body_kind ls d ≡ 3 → k ≡ body_last ls d → (m.args ≡ c.args) × (m.types ≡ c.types) × (m.lines ≡ c.lines + k)
          → Rest ls keep d (first_of field_line ls d) (first_of field_line ls (d + 1)) n m r → Whole
      count_variant m k e q a x =
          let p = resolves_kept n0 n1 (omega arith) in
          let ks : List ℕ = kept_types ls keep (first_of field_line ls d) (first_of field_line ls (d + 1) - first_of field_line ls d) in
          added_as ls d ks ys (k + length ks) (body_lines (left_body ls u keep d)) n c r p
          (ap₂ ◌+◌ q (ap length p) ∙ sym (lines_variant ls u keep ready.tabled.passed ready.slotted ready.settled d below n0 n1 e))
          (added_more ls d [] ks k (length ks) n c m r (added_lines ls d k n c m a.0 a.1 a.2) x)

  -- the types that are counted
  pub told_newtype : state u d ≡ 1 → Told ls t u f d (body_of u d)
  told_newtype e = told ls t u f keep ready d (body_of u d) below (subst (λ (l : List ℕ). Memᴰ (body_of u d) l) (resolves_newtype e) (Memᴰ.head refl))

  pub told_abbrev : (state u d ≡ 0 → ⊥) → (state u d ≡ 1 → ⊥) → body_kind ls d ≡ 1 → (y : ℕ) → y ≡ body_last ls d → Told ls t u f d y
  told_abbrev n0 n1 e y q = told ls t u f keep ready d y below (subst (λ (l : List ℕ). Memᴰ y l) (resolves_abbrev n0 n1 e) (Memᴰ.head q))

  pub kind_three : (k : ℕ) → k ≡ body_kind ls d → (k ≡ 0 → ⊥) → (k ≡ 1 → ⊥) → (k ≡ 2 → ⊥) → body_kind ls d ≡ 3
  kind_three k q n0 n1 n2 = omega (arith, (whole_at ls ready.tabled.passed d below).kinds)

  -- few types, and few lines
  pub resolves_few : length ys ≤ 2048
  unfolding resolves_of
  resolves_few = go (eqb (state u d) 0) (eqb (state u d) 1) (eqb (body_kind ls d) 0) (eqb (body_kind ls d) 1)
    where
      kept : List ℕ
      kept = kept_types ls keep (first_of field_line ls d) (first_of field_line ls (d + 1) - first_of field_line ls d)

      few : length kept ≤ 2048
      few = omega (arith, kept_few ls keep d (first_of field_line ls d) (first_of field_line ls (d + 1) - first_of field_line ls d), count_before_le field_line ls (start ls (d + 1)), fields_few ls ready.tabled.passed)

      go : (x0 x1 k0 k1 : Bool) → length (pick x0 [] (pick x1 (body_of u d ∷ []) (pick k0 [] (pick k1 (body_last ls d ∷ []) kept)))) ≤ 2048
      go true x1 k0 k1 = omega arith
      go false true k0 k1 = omega arith
      go false false true k1 = omega arith
      go false false false true = omega arith
      go false false false false = few

  pub body_few : (state u d ≡ 0 → ⊥) → body_lines (left_body ls u keep d) ≤ 3072
  body_few n0 = go (eqb (state u d) 1) refl (ltb (body_kind ls d) 2) refl (eqb (body_kind ls d) 2) refl
    where
      p : Passed ls
      p = ready.tabled.passed

      three : (body_kind ls d ≡ 2 → ⊥) → 2 ≤ body_kind ls d → body_kind ls d ≡ 3
      three n l = omega (arith, (whole_at ls p d below).kinds)

      go : (x : Bool) → eqb (state u d) 1 ≡ x → (y : Bool) → ltb (body_kind ls d) 2 ≡ y → (z : Bool) → eqb (body_kind ls d) 2 ≡ z → body_lines (left_body ls u keep d) ≤ 3072
      go true e y h z k = omega (arith, lines_newtype ls u keep p ready.slotted ready.settled d below (eqb-true (state u d) 1 e))
      go false e true h z k = omega (arith, lines_bare ls u keep p ready.slotted ready.settled d below (eqb-false (state u d) 1 e) (omega (arith, ltb-true (body_kind ls d) 2 h)))
      go false e false h true k = omega (arith, lines_record ls u keep p ready.slotted ready.settled d below n0 (eqb-false (state u d) 1 e) (eqb-true (body_kind ls d) 2 k), resolves_few)
      go false e false h false k =
          let q : body_kind ls d ≡ 3 = three (eqb-false (body_kind ls d) 2 k) (ltb-false (body_kind ls d) 2 h) in
          omega (arith, lines_variant ls u keep p ready.slotted ready.settled d below n0 (eqb-false (state u d) 1 e) q, resolves_few, variant_few ls p d below q)

  -- a declaration that is left is not erased
  module _ (left : List ℕ) (flagged : Flagged ls left) where
    pub left_open : (get_or left d 0 ≡ 0 → ⊥) → state u d ≡ 0 → ⊥
    unfolding left_at rw_decl is_left
    left_open n e = go (layout_of_decl (program ls) d) (ready.settled.shapes d below) (flagged.flags d below)
      where
        go : (l : Layout) → Shape ls u d l → get_or left d 0 ≡ bit (is_left (rw_decl (resolve (lay (program ls)) 100) (dtype_at (program ls) d) l)) → ⊥
        go L_erased s q = n q
        go (L_newtype nt) s q = omega (arith, s.0)
        go (L_struct cls) s q = omega (arith, s.0)
        go (L_abbrev c) s q = omega (arith, s.0)
        go L_opaque s q = omega (arith, s.0)

    module _ (n : ℕ) (c : Count) (r : Maybe Count) where
      pub decl_skip : get_or left d 0 ≡ 0 → Added ls d [] 0 n c r → Added ls d (decl_types ls u keep left d) (decl_count ls u keep left d) n c r
      unfolding decl_types decl_count
      decl_skip e x = rw e x

      pub decl_left : (m : Count) (k : ℕ) → (get_or left d 0 ≡ 0 → ⊥) → k ≡ length (params_of ls d) → (m.args ≡ c.args) × (m.types ≡ c.types) × (m.lines ≡ c.lines + (k + 2))
          → Added ls d ys (body_lines (left_body ls u keep d)) n m r → Added ls d (decl_types ls u keep left d) (decl_count ls u keep left d) n c r
      unfolding decl_types decl_count
      decl_left m k e q a x =
          rw (ne_eqb (get_or left d 0) 0 e)
          (added_as ls d ys ys (k + 2 + body_lines (left_body ls u keep d)) (length (params_of ls d) + 2 + body_lines (left_body ls u keep d)) n c r refl (ap (λ (j : ℕ). j + 2 + body_lines (left_body ls u keep d)) q)
          (added_more ls d [] ys (k + 2) (body_lines (left_body ls u keep d)) n c m r (added_lines ls d (k + 2) n c m a.0 a.1 a.2) x))

    -- the lines of what is left of it
    module _ (w : Written) where
      abbrev one : Lines
      one = program_lines (somes (left_at 100 (program ls) d ∷ [])) w

      pub record Grown : Type 0 where
        pub args : length one.written.args ≡ length w.args + sum_args ls d (decl_types ls u keep left d)
        pub types : length one.written.types ≡ length w.types + sum_types ls d (decl_types ls u keep left d)
        pub lines_are : length one.lines ≡ decl_count ls u keep left d

      pub grown : Grown
      unfolding decl_types decl_count sum_args sum_types somes program_lines
      grown = go (is_left (left_at 100 (program ls) d)) (flagged.flags d below) (left_is ls u keep ready.tabled.passed ready.slotted ready.settled d below)
        where
          D : Dtype
          D = with_body (dtype_at (program ls) d) (left_body ls u keep d)

          go : (x : Bool) → get_or left d 0 ≡ bit x → left_at 100 (program ls) d ≡ pick x (some D) none → Grown
          go true e q =
              let n0 = left_open (λ z. omega arith) in
              let t = decl_written D (left_body ls u keep d) w ∙ ap (λ (cs : List Cty). emit_all cs w) (left_types_are ls u keep ready.tabled.passed ready.slotted ready.settled d below n0) in
              record {
                args = rw (q, e) (ap (λ (v : Written). length v.args) t ∙ all_args ls d ys w);
                types = rw (q, e) (ap (λ (v : Written). length v.types) t ∙ all_types ls d ys w);
                lines_are = rw (q, e) (ap length (append-nil (decl_lines D (left_body ls u keep d) w).lines) ∙ (length_decl D (left_body ls u keep d) w ∙ omega (arith, ap length (params_are ls d below))));
              }
          go false e q = record { args = rw (q, e) (omega arith); types = rw (q, e) (omega arith); lines_are = rw (q, e) refl }

-- ---- declaration after declaration
somes_append : (xs ys : List (Option Dtype)) → somes (xs ++ ys) ≡ somes xs ++ somes ys
unfolding somes
somes_append [] ys = refl
somes_append (none ∷ xs) ys = somes_append xs ys
somes_append (some d ∷ xs) ys = ap (λ (l : List Dtype). d ∷ l) (somes_append xs ys)

-- the lines of the first d declarations
unfoldable pub upto : List Line → ℕ → Lines
upto ls d = program_lines (somes (table (left_at 100 (program ls)) d)) nothing

module _ (ls : List Line) (d : ℕ) where
  split : somes (table (left_at 100 (program ls)) (suc d)) ≡ somes (table (left_at 100 (program ls)) d) ++ somes (left_at 100 (program ls) d ∷ [])
  split = ap somes (table_last (left_at 100 (program ls)) d) ∙ somes_append (table (left_at 100 (program ls)) d) (left_at 100 (program ls) d ∷ [])

  pub upto_written : (upto ls (suc d)).written ≡ (program_lines (somes (left_at 100 (program ls) d ∷ [])) (upto ls d).written).written
  unfolding upto
  upto_written = ap (λ (l : List Dtype). (program_lines l nothing).written) split ∙ program_append_written (somes (table (left_at 100 (program ls)) d)) (somes (left_at 100 (program ls) d ∷ [])) nothing

  pub upto_lines : (upto ls (suc d)).lines ≡ (upto ls d).lines ++ (program_lines (somes (left_at 100 (program ls) d ∷ [])) (upto ls d).written).lines
  unfolding upto
  upto_lines = ap (λ (l : List Dtype). (program_lines l nothing).lines) split ∙ program_append_lines (somes (table (left_at 100 (program ls)) d)) (somes (left_at 100 (program ls) d ∷ [])) nothing

pub upto_all : (ls : List Line) → upto ls (decls_of ls) ≡ left_written ls
unfolding upto
upto_all ls = ap (λ (l : List (Option Dtype)). program_lines (somes l) nothing) (ap (table (left_at 100 (program ls))) (sym (length_program ls)) ∙ sym (run_lefts 100 (program ls)))

-- what is counted of the first d declarations
pub record Upto (ls : List Line) (u keep : List ℕ) (n d : ℕ) (c : Count) : Type 0 where
  pub args : c.args ≡ length (upto ls d).written.args
  pub types : c.types ≡ length (upto ls d).written.types
  pub lines_are : c.lines ≡ length (upto ls d).lines
  pub fit : (e y : ℕ) → e < d → is_left (left_at 100 (program ls) e) ≡ true → Memᴰ y (resolves_of ls u keep e) → size (left_type ls e y) ≤ n
  pub few_args : c.args ≤ 2097152 * d
  pub few_types : c.types ≤ 2097152 * d
  pub few_lines : c.lines ≤ 20000 * d

pub upto_none : (ls : List Line) (u keep : List ℕ) (n : ℕ) (c : Count) → c.args ≡ 0 → c.types ≡ 0 → c.lines ≡ 0 → Upto ls u keep n 0 c
unfolding upto table somes program_lines
upto_none ls u keep n c a t l = record { args = a; types = t; lines_are = l; fit = λ e y h. absurd (omega arith); few_args = omega arith; few_types = omega arith; few_lines = omega arith }

module _ (ls : List Line) (t u f keep left : List ℕ) (ready : Ready ls t u f keep) (flagged : Flagged ls left) (n d : ℕ) (below : d < decls_of ls) (c r : Count) where
  decl_types_few : length (decl_types ls u keep left d) ≤ 2048
  unfolding decl_types
  decl_types_few = go (eqb (get_or left d 0) 0) (resolves_few ls t u f keep ready d below)
    where
      go : (x : Bool) → length (resolves_of ls u keep d) ≤ 2048 → length (pick x [] (resolves_of ls u keep d)) ≤ 2048
      go true h = omega arith
      go false h = h

  count_few : decl_count ls u keep left d ≤ 20000
  unfolding decl_count
  count_few = go (eqb (get_or left d 0) 0) refl
    where
      go : (x : Bool) → eqb (get_or left d 0) 0 ≡ x → pick x 0 (length (params_of ls d) + 2 + body_lines (left_body ls u keep d)) ≤ 20000
      go true e = omega arith
      go false e = omega (arith, params_few_of ls ready.tabled.passed d, body_few ls t u f keep ready d below (left_open ls t u f keep ready d below left flagged (eqb-false (get_or left d 0) 0 e)))

  types_left : is_left (left_at 100 (program ls) d) ≡ true → decl_types ls u keep left d ≡ resolves_of ls u keep d
  unfolding decl_types
  types_left i = let e : get_or left d 0 ≡ 1 = flagged.flags d below ∙ ap bit i in rw e refl

  pub upto_more : Upto ls u keep n d c → Added ls d (decl_types ls u keep left d) (decl_count ls u keep left d) n c (Some r) → Upto ls u keep n (d + 1) r
  upto_more x y =
      let q = y.sums r refl in
      let g = grown ls t u f keep ready d below left flagged (upto ls d).written in
      let k : d + 1 ≡ suc d = add-one d in
      record {
        args = omega (arith, q.args, x.args, g.args, ap (λ (v : Written). length v.args) (ap (λ (i : ℕ). (upto ls i).written) k ∙ upto_written ls d));
        types = omega (arith, q.types, x.types, g.types, ap (λ (v : Written). length v.types) (ap (λ (i : ℕ). (upto ls i).written) k ∙ upto_written ls d));
        lines_are =
            omega (arith, q.lines_are, x.lines_are, g.lines_are, ap length (ap (λ (i : ℕ). (upto ls i).lines) k ∙ upto_lines ls d), length-append (upto ls d).lines (program_lines (somes (left_at 100 (program ls) d ∷ [])) (upto ls d).written).lines);
        fit = λ e v h i m. go e v h i m (eqb e d) refl q.small;
        few_args = omega (arith, x.few_args, q.few_args, decl_types_few);
        few_types = omega (arith, x.few_types, q.few_types, decl_types_few);
        few_lines = omega (arith, x.few_lines, q.lines_are, count_few);
      }
    where
      before : (e : ℕ) → e < d + 1 → (e ≡ d → ⊥) → e < d
      before e h o = omega arith

      go : (e v : ℕ) → e < d + 1 → is_left (left_at 100 (program ls) e) ≡ true → Memᴰ v (resolves_of ls u keep e) → (o : Bool) → eqb e d ≡ o
          → Every (λ w. size (left_type ls d w) ≤ n) (decl_types ls u keep left d) → size (left_type ls e v) ≤ n
      go e v h i m true p s =
          let j : e ≡ d = eqb-true e d p in
          let i' : is_left (left_at 100 (program ls) d) ≡ true = subst (λ (a : ℕ). is_left (left_at 100 (program ls) a) ≡ true) j i in
          subst (λ (a : ℕ). size (left_type ls a v) ≤ n) (sym j)
          (every_mem (λ w. size (left_type ls d w) ≤ n) (decl_types ls u keep left d) s v
          (subst (λ (l : List ℕ). Memᴰ v l) (sym (types_left i')) (subst (λ (a : ℕ). Memᴰ v (resolves_of ls u keep a)) j m)))
      go e v h i m false p s = x.fit e v (before e h (eqb-false e d p)) i m

pub counted_all : (ls : List Line) (u keep : List ℕ) (n d : ℕ) (c : Count) → decls_of ls ≤ d → d ≤ decls_of ls → Upto ls u keep n d c → Counted ls u keep n (Some c)
counted_all ls u keep n d c h l x =
    let e : d ≡ decls_of ls = omega arith in
    let q : upto ls d ≡ left_written ls = ap (upto ls) e ∙ upto_all ls in
    let a : c.args ≡ length (left_written ls).written.args = x.args ∙ ap (λ (v : Lines). length v.written.args) q in
    let t : c.types ≡ length (left_written ls).written.types = x.types ∙ ap (λ (v : Lines). length v.written.types) q in
    let m : c.lines ≡ length (left_written ls).lines = x.lines_are ∙ ap (λ (v : Lines). length v.lines) q in
    record {
      args = λ r z. let i : c ≡ r = cc in ap (λ (y : Count). y.args) (sym i) ∙ a;
      types = λ r z. let i : c ≡ r = cc in ap (λ (y : Count). y.types) (sym i) ∙ t;
      lines_are = λ r z. let i : c ≡ r = cc in ap (λ (y : Count). y.lines) (sym i) ∙ m;
      fit = λ r z f y k i j. x.fit f y (omega arith) i j;
      short = λ z. absurd cc;
    }

pub counted_short : (ls : List Line) (u keep : List ℕ) (n : ℕ) → n < 1024 → Counted ls u keep n None
counted_short ls u keep n h = record { args = λ r z. absurd cc; types = λ r z. absurd cc; lines_are = λ r z. absurd cc; fit = λ r z. absurd cc; short = λ z. h }

pub few_upto : (ls : List Line) (u keep : List ℕ) (n d : ℕ) (c : Count) → d ≤ 512 → Upto ls u keep n d c → Few (Some c)
few_upto ls u keep n d c h x =
    record {
      args = λ r z. let i : c ≡ r = cc in omega (arith, x.few_args, ap (λ (y : Count). y.args) i);
      types = λ r z. let i : c ≡ r = cc in omega (arith, x.few_types, ap (λ (y : Count). y.types) i);
      lines = λ r z. let i : c ≡ r = cc in omega (arith, x.few_lines, ap (λ (y : Count). y.lines) i);
    }

pub few_short : Few None
few_short = record { args = λ r z. absurd cc; types = λ r z. absurd cc; lines = λ r z. absurd cc }
