-- What is read of lines by place, kind and declaration, and rows 8 to 10, do not depend on the lines' texts: for whoever reads
-- bytes beside the cells of their lines. Assumes nothing.
use Rattle.std.specs.Prelude.{◌≡◌, refl, List, [], ◌∷◌, map, Bool, true, false, ℕ, zero, suc, eqb, length, get_or}
use Rattle.std.proofs.Math.Path.{ap}
use Rattle.std.proofs.Common.{◌∙◌}
use Rattle.std.proofs.Math.Bool.{not}
use Rattle.std.proofs.Math.Dec.{ltb}
use Rattle.std.proofs.lemmas.List.{length-map}
use Rattle.sheet.specs.Format.{Format}
use Rattle.sheet.specs.Line.{Line}
use Rattle.sheet.specs.Sheet.{first}
use Rattle.sheet.proofs.FirstLaws.{first_congr}
use Rattle.walk_cells.specs.Cells.{bare}
use Rattle.model.specs.Decl.{Decl}
use Rattle.model.specs.Run.{layouts_of, returns, decl_fault}
use Rattle.meaning.specs.Program.{local_line, import_line, is, is_head, Group, groups}
use Rattle.meaning.specs.Rows.{nth_line, heads_before}
use Rattle.answer.specs.Answer.{at_head, row8, fault_at, row9_10}
use Rattle.meaning_bares.specs.ProgramLaws.{bare_group, groups_bare}
use Rattle.meaning_bares.specs.ProgramLaws.{at_bare}
use Rattle.meaning_bares.specs.RowLaws.{count_bare, before_bare}
use Rattle.row4_limits.specs.Limits.{start}
use Rattle.table_declared.specs.Lines.{no_group, head_line, decls_of, first_of}

-- the first line of a group, by what goes by its letter and numbers alone
group_head : {A : Type 0} (f : Line → A) → ((l : Line) → f (bare l) ≡ f l) → (gs : List Group) (d : ℕ) → f (get_or (map bare_group gs) d no_group).head ≡ f (get_or gs d no_group).head
group_head f h [] d = refl
group_head f h (g ∷ gs) zero = h g.head
group_head f h (g ∷ gs) (suc d) = group_head f h gs d

module _ (ls : List Line) where
  -- ---- counts and places
  pub decls_bare : decls_of (map bare ls) ≡ decls_of ls
  decls_bare = rw (count_bare local_line ls, count_bare import_line ls)

  pub heads_bare : (i : ℕ) → heads_before (map bare ls) i ≡ heads_before ls i
  heads_bare i = rw (before_bare local_line ls i, before_bare import_line ls i)

  -- a test by place that holds of the same lines
  pub place_bare : (p q : ℕ → Bool) → ((i : ℕ) → p i ≡ q i) → first p (length (map bare ls)) ≡ first q (length ls)
  place_bare p q e = rw (length-map ls bare) (first_congr p q (length ls) (λ i h. e i))

  pub start_bare : (d : ℕ) → start (map bare ls) d ≡ start ls d
  unfolding start
  start_bare d = place_bare (λ i. ltb d (heads_before (map bare ls) (suc i))) (λ i. ltb d (heads_before ls (suc i))) (λ i. ap (ltb d) (heads_bare (suc i)))

  pub first_of_bare : (x d : ℕ) → first_of x (map bare ls) d ≡ first_of x ls d
  first_of_bare x d = rw (start_bare d) (before_bare x ls (start ls d))

  -- ---- lines of a kind, and the first of a declaration
  pub head_bare : {A : Type 0} (f : Line → A) → ((l : Line) → f (bare l) ≡ f l) → (d : ℕ) → f (head_line (map bare ls) d) ≡ f (head_line ls d)
  head_bare f h d = ap (λ (gs : List Group). f (get_or gs d no_group).head) (groups_bare is_head (λ l. refl) ls) ∙ group_head f h (groups is_head ls) d

  pub head_is : (x d : ℕ) → is x (head_line (map bare ls) d) ≡ is x (head_line ls d)
  head_is x = head_bare (is x) (λ l. refl)

  -- ---- rows 8 to 10
  pub at_head_bare : (p : ℕ → Bool) (i : ℕ) → at_head (map bare ls) p i ≡ at_head ls p i
  at_head_bare p i =
      at_bare (λ l. elim (is_head l) [ true ↦ p (heads_before (map bare ls) i) | false ↦ false ]) (λ l. refl) ls i
      ∙ ap (λ (k : ℕ). elim (is_head (nth_line ls i)) [ true ↦ p k | false ↦ false ]) (heads_bare i)

  module _ (ds : List Decl) where
    pub row8_bare : (i : ℕ) → row8 ds (map bare ls) i ≡ row8 ds ls i
    unfolding row8
    row8_bare i = at_head_bare (returns ds (layouts_of ds)) i

    pub place8_bare : first (row8 ds (map bare ls)) (length (map bare ls)) ≡ first (row8 ds ls) (length ls)
    place8_bare = place_bare (row8 ds (map bare ls)) (row8 ds ls) row8_bare

    module _ (f : Format) where
      pub fault_bare : (i : ℕ) → fault_at f ds (map bare ls) i ≡ fault_at f ds ls i
      unfolding fault_at
      fault_bare i = rw (heads_bare i)

      pub row9_10_bare : (i : ℕ) → row9_10 f ds (map bare ls) i ≡ row9_10 f ds ls i
      unfolding row9_10
      row9_10_bare i = at_head_bare (λ k. not (eqb (decl_fault f.nodes f.fuel ds (layouts_of ds) k) 0)) i

      pub place9_10_bare : first (row9_10 f ds (map bare ls)) (length (map bare ls)) ≡ first (row9_10 f ds ls) (length ls)
      place9_10_bare = place_bare (row9_10 f ds (map bare ls)) (row9_10 f ds ls) row9_10_bare
