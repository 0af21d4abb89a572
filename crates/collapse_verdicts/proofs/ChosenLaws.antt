-- Layouts told by their numbers, and newtypes by candidates and kept fields. Assumes nothing.
use Rattle.std.proofs.Math.Path.{◌≡◌, refl, sym}
use Rattle.std.proofs.Common.{◌∙◌, arith}
use Rattle.std.specs.Prelude.{List, Bool, ℕ, ◌<◌, eqb, get_or, Option, Some, None}
use Rattle.std.proofs.Math.Bool.{true, false}
use Rattle.std.proofs.Math.Option.{none}
use borrow.Author.Tests.{ne_eqb, lt-ltb, le-ltb}
use Rattle.number_columns.specs.Column.{pick}
use Rattle.sheet.specs.Line.{Line}
use Rattle.model.specs.Decl.{close, L_erased, L_newtype, L_struct, L_abbrev, L_opaque, bit}
use Rattle.model.specs.Layout.{newtype_of, collapse}
use Rattle.meaning.specs.Program.{field_line, program}
use Rattle.meaning.specs.Rows.{count_of}
use Rattle.table_access.specs.Tables.{decls_of}
use Rattle.resolve_kids.specs.Nodes.{type_of}
use Rattle.resolve_kids.specs.Params.{params_of}
use Rattle.keep_layouts.specs.Kept.{ctors_at, body_last}
use Rattle.keep_layouts.specs.declared.Layout.TheVariants.{Erased, Newtype, Struct, Abbreviation, Opaque}
use Rattle.keep_layouts.specs.Layouts.{newtype_told, layout_told}
use Rattle.collapse_newtypes.specs.Newtypes.{ctor_told, only_told}
use Rattle.collapse_candidates.specs.Candidates.{no_field, field_told}
use Rattle.collapse_verdicts.specs.Guard.{dropped_of}
use Rattle.collapse_verdicts.specs.Chosen.{Screened, collapsed, kept_one, newtype, Chosen}
use Rattle.model.specs.Decl as decl

-- ---- a layout that is no newtype, and one that is
module _ (ls : List Line) (d : ℕ) (m : decl.Layout) where
  pub erased_chosen : m ≡ L_erased → Chosen ls d m Erased
  unfolding layout_told
  erased_chosen e = record { told = sym e; field = λ c f q. let z : ◌≡◌ {A = ℕ} 0 1 = cc in absurd (omega arith) }

  pub struct_chosen : m ≡ L_struct (ctors_at (program ls) d) → Chosen ls d m Struct
  unfolding layout_told
  struct_chosen e = record { told = sym e; field = λ c f q. let z : ◌≡◌ {A = ℕ} 0 1 = cc in absurd (omega arith) }

  pub abbrev_chosen : m ≡ L_abbrev (close (params_of ls d) (type_of ls (body_last ls d))) → Chosen ls d m Abbreviation
  unfolding layout_told
  abbrev_chosen e = record { told = sym e; field = λ c f q. let z : ◌≡◌ {A = ℕ} 0 1 = cc in absurd (omega arith) }

  pub opaque_chosen : m ≡ L_opaque → Chosen ls d m Opaque
  unfolding layout_told
  opaque_chosen e = record { told = sym e; field = λ c f q. let z : ◌≡◌ {A = ℕ} 0 1 = cc in absurd (omega arith) }

  pub newtype_chosen : (ctor f : ℕ) → f < count_of field_line ls → m ≡ L_newtype (newtype_told ls d ctor f) → Chosen ls d m (Newtype ctor f)
  unfolding layout_told
  newtype_chosen ctor f h e = record { told = sym e; field = λ c g q. let z : f ≡ g = cc in rw (← z) h }

-- ---- by kept fields
module _ (ls : List Line) (d : ℕ) where
  -- an imported newtype
  pub kept_none : (r : Option ℕ) → newtype_of (ctors_at (program ls) d) ≡ only_told ls d r → r ≡ None → Chosen ls d (kept_one ls d) Struct
  unfolding collapse only_told
  kept_none r e q = struct_chosen ls d _ (rw (e, q))

  pub kept_some : (r : Option ℕ) (f : ℕ) → newtype_of (ctors_at (program ls) d) ≡ only_told ls d r → r ≡ Some f → f < count_of field_line ls → Chosen ls d (kept_one ls d) (newtype ls d f)
  unfolding collapse only_told
  kept_some r f e q h = newtype_chosen ls d _ (ctor_told ls d) f h (rw (e, q))

  -- a local candidate
  module _ (fields found : List ℕ) (s : Screened ls fields found) (h : d < decls_of ls) where
    pub candidate_dropped : get_or found d 0 ≡ 1 → Chosen ls d (collapsed ls d) Struct
    unfolding collapse
    candidate_dropped e = struct_chosen ls d _ (rw (go (eqb (get_or fields d 0) no_field) (dropped_of ls d) (sym (s.guarded.each d h) ∙ e)))
      where
        go : (c x : Bool) → pick c 0 (bit x) ≡ 1 → x ≡ true
        go true x q = absurd (omega arith)
        go false true q = refl
        go false false q = absurd (omega arith)

    pub candidate_none : count_of field_line ls < no_field → get_or fields d 0 ≡ no_field → Chosen ls d (collapsed ls d) Struct
    unfolding collapse field_told
    candidate_none l e = struct_chosen ls d _ (rw ((s.candidates.each d h).told, le-ltb (get_or fields d 0) (count_of field_line ls) (omega arith)) (go (dropped_of ls d)))
      where
        go : (x : Bool) → collapse x none (ctors_at (program ls) d) ≡ L_struct (ctors_at (program ls) d)
        go true = refl
        go false = refl

    pub candidate_some : (get_or found d 0 ≡ 1 → ⊥) → (get_or fields d 0 ≡ no_field → ⊥) → Chosen ls d (collapsed ls d) (newtype ls d (get_or fields d 0))
    unfolding collapse field_told
    candidate_some k n =
        let c = s.candidates.each d h in
        newtype_chosen ls d _ (ctor_told ls d) (get_or fields d 0) (c.named n) (rw (stays, c.told, lt-ltb (get_or fields d 0) (count_of field_line ls) (c.named n)))
      where
        go : (x : Bool) → (bit x ≡ 1 → ⊥) → x ≡ false
        go true q = absurd (q refl)
        go false q = refl

        stays : dropped_of ls d ≡ false
        stays = go (dropped_of ls d) (λ e. k (s.guarded.each d h ∙ rw (ne_eqb (get_or fields d 0) no_field n) e))
