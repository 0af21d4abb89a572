-- Laws of the attempts one after the other. Assumes nothing.
use Rattle.std.proofs.Common.{⊎_elim, sym, subst, arith}
use Rattle.std.specs.Prelude.{◌≡◌, refl, List, ℕ, ◌≤◌, Option, Some, None}
use Rattle.sheet.specs.Format.{base}
use Rattle.table_declared.specs.PassedLaws.{decls_within}
use Rattle.table_access.specs.Tables.{lines_in}
use Rattle.answer_built.specs.declared.Built.{Built}
use Rattle.answer_built.specs.Built.{GivesFront, Tries}
use Rattle.build_sheets.specs.Sheets.{Lent}
use Rattle.build_outputs.specs.Outputs.{Short}

-- less memory, but enough for the cells
pub lent_less : (b t u rank keep v : List ℕ) (forms scratch stack : ℕ) → 192 ≤ forms → scratch ≤ 1024 → scratch ≤ stack
    → Lent b t u rank keep v 98496 1024 1024 → Lent b t u rank keep v forms scratch stack
lent_less b t u rank keep v forms scratch stack p q r h =
    record {
      of = h.of;
      accepted = h.accepted;
      ranked = h.ranked;
      settled = h.settled;
      slotted = h.slotted;
      resolvable = h.resolvable;
      keeps = h.keeps;
      verdict_room = h.verdict_room;
      cells = omega (arith, decls_within base (lines_in t) h.of.bounded);
      small = q;
      stacked = r;
    }

-- an output that stands as it was
pub lent_kept : (b t u rank keep v v' : List ℕ) → v' ≡ v → Lent b t u rank keep v 98496 1024 1024 → Lent b t u rank keep v' 98496 1024 1024
lent_kept b t u rank keep v v' e h = subst (λ (x : List ℕ). Lent b t u rank keep x 98496 1024 1024) (sym e) h

-- an attempt without room left the outputs as they were
pub tries_again : (S : Type 0) (b v l : List ℕ) (r : Option Built) (v' l' : List ℕ) (q : Built) (v'' l'' : List ℕ) → Tries S b v l r v' l' → r ≡ None → GivesFront b v' l' q v'' l'' → GivesFront b v l q v'' l''
tries_again S b v l r v' l' q v'' l'' h e g = subst (λ (x : List ℕ). GivesFront b x l q v'' l'') (h.verdict_kept e) (subst (λ (x : List ℕ). GivesFront b v' x q v'' l'') (h.left_kept e) g)

-- and the longest has room
pub tries_last : (n : ℕ) → n ≤ 96 → (b v l : List ℕ) (r : Option Built) (v' l' : List ℕ) → Tries (Short n 98496 1024) b v l r v' l' → (x : Built) × (r ≡ Some x) × GivesFront b v l x v' l'
tries_last n few b v l r v' l' h = go r refl
  where
    go : (o : Option Built) → r ≡ o → (x : Built) × (r ≡ Some x) × GivesFront b v l x v' l'
    go (Some x) e = (x, e, h.gives x e)
    go None e = absurd (⊎_elim (λ x. omega arith) (λ x. omega arith) (h.short e))
