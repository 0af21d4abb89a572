-- Laws for sums of lines. Assumes nothing.
use Rattle.std.specs.Prelude.{◌≡◌, Bool, eqb, get_or, take, Option, Some, None}
use Rattle.std.proofs.Math.Path.{refl}
use Rattle.std.proofs.Common.{ap, sym, ◌∙◌, subst, length-append, take_at, eqb-true, ne_eqb}
use mathlib.Core.List.{List, [], ◌∷◌, ◌++◌, map, Memᴰ}
use Rattle.std.proofs.Math.Bool.{true, false}
use Prim.Native.Nat.{ℕ, zero, suc, ◌+◌, ◌-◌, ◌≤◌, ◌<◌}
use native.Mathlib.Omega.{arith}
use Rattle.std.proofs.Math.Numerals.{add-one}
use Rattle.std.proofs.Math.ListN.{length}
use Rattle.std.proofs.lemmas.Bool.{eqb-false}
use Rattle.number_columns.specs.Column.{pick}
use Rattle.sheet.specs.Line.{Line}
use Rattle.sheet.proofs.ListLaws.{every_append}
use Rattle.model.specs.Cty.{Cty, size}
use Rattle.meaning.specs.Program.{field_line}
use Rattle.meaning_laws.specs.Output.{emit_adds, nothing}
use Rattle.row4_limits.specs.Limits.{start}
use Rattle.table_access.specs.Tables.{decls_of, first_of}
use Rattle.resolve_kids.specs.ParamsLaws.{count_before_le}
use Rattle.keep_layouts.specs.Kept.{body_kind, field_type}
use Rattle.form_laws.specs.Nodes.{post, count_args}
use Rattle.form_laws.specs.NodesLaws.{emit_args}
use Rattle.form_nodes.specs.Words.{node_of}
use Rattle.form_puts.specs.Put.{Put}
use Rattle.form_emit.specs.Emit.{words}
use Rattle.keep_layouts.specs.States.{state, kept_types, resolves_of}
use Rattle.left_laws.specs.Lefts.{Ready}
use Rattle.form_emit.specs.Left.{left_type}
use Rattle.left_laws.specs.ReadyLaws.{ready_asked, ready_nodes, ready_length, ready_size}
use Rattle.left_laws.specs.declared.Count.{Count}
use Rattle.left_count.specs.Sums.{sum_args, sum_types, Told, Tells, Sums, Added}

pub told : (ls : List Line) (t u f keep : List ℕ) → Ready ls t u f keep → (d y : ℕ) → d < decls_of ls → Memᴰ y (resolves_of ls u keep d) → Told ls t u f d y
told ls t u f keep r d y h m =
    record {
      asked = ready_asked ls t u f keep r d y h m;
      nodes = ready_nodes ls t u f keep r d y h m;
      long = ready_length ls t u f keep r d y h m;
      few = ready_size ls t u f keep r d y h m;
    }

-- a type has fewer A lines than nodes
pub args_few : (c : Cty) → count_args (post c) ≤ size c
args_few c = omega (arith, emit_args c nothing, (emit_adds c nothing).args_count)

-- ---- sums
module _ (ls : List Line) (d : ℕ) where
  sum_args_append : (xs ys : List ℕ) → sum_args ls d (xs ++ ys) ≡ sum_args ls d xs + sum_args ls d ys
  unfolding sum_args
  sum_args_append [] ys = omega arith
  sum_args_append (x ∷ xs) ys = omega (arith, sum_args_append xs ys)

  sum_types_append : (xs ys : List ℕ) → sum_types ls d (xs ++ ys) ≡ sum_types ls d xs + sum_types ls d ys
  unfolding sum_types
  sum_types_append [] ys = omega arith
  sum_types_append (x ∷ xs) ys = omega (arith, sum_types_append xs ys)

  -- with room
  pub added_sums : (ys : List ℕ) (k n : ℕ) (c r : Count) → Sums ls d ys k n c r → Added ls d ys k n c (Some r)
  added_sums ys k n c r s = record { sums = λ x e. let q : r ≡ x = cc in subst (λ (y : Count). Sums ls d ys k n c y) q s; short = λ e. absurd cc }

  -- nothing but lines
  pub added_lines : (k n : ℕ) (c r : Count) → r.args ≡ c.args → r.types ≡ c.types → r.lines ≡ c.lines + k → Added ls d [] k n c (Some r)
  unfolding sum_args sum_types
  added_lines k n c r a y l = added_sums [] k n c r (record { args = omega arith; types = omega arith; lines_are = l; small = tt; few_args = omega arith; few_types = omega arith })

  -- no room
  pub added_short : (ys : List ℕ) (k n : ℕ) (c : Count) → n < 1024 → Added ls d ys k n c None
  added_short ys k n c h = record { sums = λ x e. absurd cc; short = λ e. h }

  -- one after the other
  pub added_more : (xs ys : List ℕ) (j k n : ℕ) (c m : Count) (r : Option Count) → Added ls d xs j n c (Some m) → Added ls d ys k n m r → Added ls d (xs ++ ys) (j + k) n c r
  added_more xs ys j k n c m r x y =
      record {
        sums = λ z e. let p = x.sums m refl in let q = y.sums z e in
            record {
              args = omega (arith, p.args, q.args, sum_args_append xs ys);
              types = omega (arith, p.types, q.types, sum_types_append xs ys);
              lines_are = omega (arith, p.lines_are, q.lines_are);
              small = every_append (λ z. size (left_type ls d z) ≤ n) xs ys p.small q.small;
              few_args = omega (arith, p.few_args, q.few_args, length-append xs ys);
              few_types = omega (arith, p.few_types, q.few_types, length-append xs ys);
            };
        short = y.short;
      }

-- one type
pub added_type : (ls : List Line) (t u f : List ℕ) (d y : ℕ) → Told ls t u f d y → (out res : List ℕ) (n a : ℕ) (c r : Count) → Put (words ls u f d false y) out 0 n res → n ≤ length out
    → a ≡ count_args (map node_of (take (n - 0) res)) → r.args ≡ c.args + a → r.types ≡ c.types + n → r.lines ≡ c.lines → Added ls d (y ∷ []) 0 (length out) c (Some r)
unfolding sum_args sum_types
added_type ls t u f d y h out res n a c r p q e ra rt rl =
    let ws : List ℕ = words ls u f d false y in
    let R : Cty = left_type ls d y in
    let m : n ≡ length ws = omega (arith, (p.room q).0) in
    let z : n - 0 ≡ n = omega arith in
    let w : take (n - 0) res ≡ ws = ap (λ (k : ℕ). take k res) z ∙ (ap (take n) (p.room q).1 ∙ take_at ws _ n (sym m)) in
    let s : a ≡ count_args (post R) = e ∙ (ap (λ (l : List ℕ). count_args (map node_of l)) w ∙ ap count_args h.nodes) in
    added_sums ls d (y ∷ []) 0 (length out) c r
    (record {
      args = omega arith;
      types = omega (arith, h.long);
      lines_are = omega arith;
      small = (omega (arith, h.long), tt);
      few_args = omega (arith, args_few R, h.few);
      few_types = omega (arith, h.long, h.few);
    })

pub type_short : (ls : List Line) (t u f : List ℕ) (d y : ℕ) → Told ls t u f d y → (out res : List ℕ) (n : ℕ) → Put (words ls u f d false y) out 0 n res → length out < n → length out < 1024
type_short ls t u f d y h out res n p q = omega (arith, p.full q, h.long, h.few)

pub type_few : (ls : List Line) (t u f : List ℕ) (d y : ℕ) → Told ls t u f d y → (out res : List ℕ) (n : ℕ) → Put (words ls u f d false y) out 0 n res → n ≤ length out → n ≤ 1024
type_few ls t u f d y h out res n p q = omega (arith, (p.room q).0, h.long, h.few)

take_few : (k : ℕ) (l : List ℕ) → length (take k l) ≤ k
take_few zero l = omega arith
take_few (suc k) [] = omega arith
take_few (suc k) (x ∷ l) = omega (arith, take_few k l)

pub part_few : (n : ℕ) (l : List ℕ) → n ≤ 1024 → length (take (n - 0) l) ≤ 1024
part_few n l h = omega (arith, take_few (n - 0) l)

pub args_small : (ls : List Line) (t u f : List ℕ) (d y : ℕ) → Told ls t u f d y → (out res : List ℕ) (n a : ℕ) → Put (words ls u f d false y) out 0 n res → n ≤ length out → a ≡ count_args (map node_of (take (n - 0) res)) → a ≤ 1024
args_small ls t u f d y h out res n a p q e =
    let ws : List ℕ = words ls u f d false y in
    let R : Cty = left_type ls d y in
    let m : n ≡ length ws = omega (arith, (p.room q).0) in
    let z : n - 0 ≡ n = omega arith in
    let w : take (n - 0) res ≡ ws = ap (λ (k : ℕ). take k res) z ∙ (ap (take n) (p.room q).1 ∙ take_at ws _ n (sym m)) in
    let s : a ≡ count_args (post R) = e ∙ (ap (λ (l : List ℕ). count_args (map node_of l)) w ∙ ap count_args h.nodes) in
    omega (arith, args_few R, h.few)

-- ---- kept fields
module _ (ls : List Line) (keep : List ℕ) (d : ℕ) where
  -- the fields from F line i on, and a line for each
  abbrev pub Rest : ℕ → ℕ → ℕ → Count → Option Count → Type 0
  Rest i end n c r = Added ls d (kept_types ls keep i (end - i)) (length (kept_types ls keep i (end - i))) n c r

  step_of : (i end : ℕ) → i < end → end - i ≡ suc (end - (i + 1))
  step_of i end h = omega arith

  pub kept_few : (f n : ℕ) → length (kept_types ls keep f n) ≤ n
  unfolding kept_types
  kept_few f zero = omega arith
  kept_few f (suc n) = go (eqb (get_or keep f 0) 1) (kept_few (suc f) n)
    where
      go : (x : Bool) → length (kept_types ls keep (suc f) n) ≤ n → length (pick x (field_type ls f ∷ kept_types ls keep (suc f) n) (kept_types ls keep (suc f) n)) ≤ suc n
      go true h = omega arith
      go false h = omega arith

  -- F line i, if it is kept
  abbrev pub One : ℕ → ℕ → Count → Option Count → Type 0
  One i n c r = Added ls d (kept_types ls keep i 1) (length (kept_types ls keep i 1)) n c r

  pub one_skip : (i n : ℕ) (c : Count) → (get_or keep i 0 ≡ 1 → ⊥) → One i n c (Some c)
  unfolding kept_types
  one_skip i n c e = rw (ne_eqb (get_or keep i 0) 1 e) (added_lines ls d 0 n c c refl refl (omega arith))

  pub one_kept : (i n : ℕ) (c : Count) (r : Option Count) → get_or keep i 0 ≡ 1 → Added ls d (field_type ls i ∷ []) 1 n c r → One i n c r
  unfolding kept_types
  one_kept i n c r e x = rw e x

  pub one_few : (i : ℕ) → length (kept_types ls keep i 1) ≤ 1
  one_few i = kept_few i 1

  split_is : (i end : ℕ) → i < end → kept_types ls keep i (end - i) ≡ kept_types ls keep i 1 ++ kept_types ls keep (i + 1) (end - (i + 1))
  unfolding kept_types
  split_is i end h = rw (step_of i end h, add-one i) (go (eqb (get_or keep i 0) 1))
    where
      go : (x : Bool) → pick x (field_type ls i ∷ kept_types ls keep (suc i) (end - suc i)) (kept_types ls keep (suc i) (end - suc i)) ≡ pick x (field_type ls i ∷ []) [] ++ kept_types ls keep (suc i) (end - suc i)
      go true = refl
      go false = refl

  pub rest_step : (i end n : ℕ) (c m : Count) (r : Option Count) → i < end → One i n c (Some m) → Rest (i + 1) end n m r → Rest i end n c r
  rest_step i end n c m r h x y =
      let p : List ℕ = kept_types ls keep i 1 in
      let q : List ℕ = kept_types ls keep (i + 1) (end - (i + 1)) in
      subst (λ (l : List ℕ). Added ls d l (length l) n c r) (sym (split_is i end h))
      (subst (λ (k : ℕ). Added ls d (p ++ q) k n c r) (sym (length-append p q)) (added_more ls d p q (length p) (length q) n c m r x y))

  pub rest_end : (i end n : ℕ) (c : Count) → end ≤ i → Rest i end n c (Some c)
  unfolding kept_types
  rest_end i end n c h = let e : end - i ≡ 0 = omega arith in rw e (added_lines ls d 0 n c c refl refl (omega arith))

  pub rest_stop : (i end n : ℕ) (c : Count) → n < 1024 → Rest i end n c None
  rest_stop i end n c h = added_short ls d (kept_types ls keep i (end - i)) (length (kept_types ls keep i (end - i))) n c h

  -- a kept field is among them
  pub kept_in : (i f n : ℕ) → f ≤ i → i < f + n → get_or keep i 0 ≡ 1 → Memᴰ (field_type ls i) (kept_types ls keep f n)
  unfolding kept_types
  kept_in i f zero l h e = absurd (omega arith)
  kept_in i f (suc n) l h e = go (eqb i f) refl (λ k. kept_in i (suc f) n k (omega arith) e)
    where
      past : (i ≡ f → ⊥) → suc f ≤ i
      past q = omega arith

      under : (x : Bool) → Memᴰ (field_type ls i) (kept_types ls keep (suc f) n) → Memᴰ (field_type ls i) (pick x (field_type ls f ∷ kept_types ls keep (suc f) n) (kept_types ls keep (suc f) n))
      under true m = Memᴰ.tail m
      under false m = m

      go : (x : Bool) → eqb i f ≡ x → (suc f ≤ i → Memᴰ (field_type ls i) (kept_types ls keep (suc f) n)) → Memᴰ (field_type ls i) (pick (eqb (get_or keep f 0) 1) (field_type ls f ∷ kept_types ls keep (suc f) n) (kept_types ls keep (suc f) n))
      go true q ih =
          let z : i ≡ f = eqb-true i f q in
          rw (ap (λ (j : ℕ). get_or keep j 0) (sym z) ∙ e) (Memᴰ.head (ap (field_type ls) z))
      go false q ih = under (eqb (get_or keep f 0) 1) (ih (past (eqb-false i f q)))

-- the fields of a declaration that is neither erased nor unfolded
pub tells : (ls : List Line) (t u f keep : List ℕ) → Ready ls t u f keep → (d i first end : ℕ) → d < decls_of ls → (state u d ≡ 0 → ⊥) → (state u d ≡ 1 → ⊥) → 2 ≤ body_kind ls d
    → first ≡ first_of field_line ls d → end ≡ first_of field_line ls (d + 1) → first ≤ i → i < end → get_or keep i 0 ≡ 1 → Tells ls t u f d i
unfolding resolves_of
tells ls t u f keep r d i first end h n0 n1 k p q l m e =
    record {
      there = omega (arith, count_before_le field_line ls (start ls (d + 1)));
      told = told ls t u f keep r d (field_type ls i) h
          (rw (ne_eqb (state u d) 0 n0, ne_eqb (state u d) 1 n1, ne_eqb (body_kind ls d) 0 (λ z. omega arith), ne_eqb (body_kind ls d) 1 (λ z. omega arith))
          (kept_in ls keep d i (first_of field_line ls d) (first_of field_line ls (d + 1) - first_of field_line ls d) (omega arith) (omega arith) e));
    }
