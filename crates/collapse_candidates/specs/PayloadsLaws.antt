-- A payload by the kind of its field's type, and closed by parameters. Assumes nothing.
use Rattle.std.specs.Prelude.{◌≡◌, refl, List, Bool, true, false, ℕ, ◌<◌, eqb}
use Rattle.std.proofs.Math.Path.{ap, sym}
use Rattle.std.proofs.Common.{◌∙◌, arith, ne_eqb}
use Rattle.number_columns.specs.Column.{pick}
use Rattle.sheet.specs.Line.{number, Line}
use Rattle.model.specs.Cty.{Cty, TUnit, TAny, TExn, TVar, TInt, TFloat, TConst, TArrow, TApp, TTuple, TBuf, TRef, TInline, walk, uninline}
use Rattle.model.specs.Decl.{member, close}
use Rattle.meaning.specs.Program.{type_line, field_line, tree, trees}
use Rattle.meaning.specs.Rows.{count_of}
use Rattle.row5_ranges.specs.TypeLists.{types_of}
use Rattle.table_declared.specs.Passed.{Passed}
use Rattle.table_declared.specs.TypeLaws.{good_inline, good_type_at, type_tree}
use Rattle.resolve_kids.specs.Nodes.{type_of, kind_of, y_line}
use Rattle.keep_layouts.specs.Kept.{field_type}
use Rattle.collapse_candidates.specs.Payloads.{Payload}
use Rattle.erasure_laws.specs.BodiesLaws as bodies

-- ---- closing
-- An outer `TInline` goes before the parameters are looked at or after.
pub close_uninline : (ps : List ℕ) (c : Cty) → close ps (uninline c) ≡ uninline (close ps c)
unfolding close uninline walk
close_uninline ps TUnit = refl
close_uninline ps TAny = refl
close_uninline ps TExn = refl
close_uninline ps (TVar v) = go (member v ps)
  where
    go : (b : Bool) → pick b (TVar v) TAny ≡ uninline (pick b (TVar v) TAny)
    go true = refl
    go false = refl
close_uninline ps (TInt s w) = refl
close_uninline ps (TFloat f) = refl
close_uninline ps (TConst c) = refl
close_uninline ps (TArrow a e b) = refl
close_uninline ps (TApp n ts) = refl
close_uninline ps (TTuple ts) = refl
close_uninline ps (TBuf t) = refl
close_uninline ps (TRef k t) = refl
close_uninline ps (TInline t) = refl

-- ---- a type's outer `TInline`
-- a tree of another kind has none
plain_tree : (ts : List Cty) (xs : List ℕ) (kind a b c : ℕ) → (kind ≡ 12 → ⊥) → tree ts xs kind a b c ≡ uninline (tree ts xs kind a b c)
unfolding tree uninline
plain_tree ts xs kind a b c h =
    arm (eqb kind 1) TAny _ refl
    (arm (eqb kind 2) TExn _ refl
    (arm (eqb kind 3) (TVar a) _ refl
    (arm (eqb kind 4) (TInt a b) _ refl
    (arm (eqb kind 5) (TFloat a) _ refl
    (arm (eqb kind 6) (TConst a) _ refl
    (arm (eqb kind 7) (TArrow _ b _) _ refl
    (arm (eqb kind 8) (TApp a _) _ refl
    (arm (eqb kind 9) (TTuple _) _ refl
    (arm (eqb kind 10) (TBuf _) _ refl
    (arm (eqb kind 11) (TRef a _) _ refl
    (rw (ne_eqb kind 12 h))))))))))))
  where
    arm : (q : Bool) (x w : Cty) → x ≡ uninline x → w ≡ uninline w → pick q x w ≡ uninline (pick q x w)
    arm true x w e f = e
    arm false x w e f = f

-- y is the type of F line f
module _ (ls : List Line) (p : Passed ls) (f : ℕ) (h : f < count_of field_line ls) (y : ℕ) (is : y ≡ field_type ls f) where
  pub inside : y < count_of type_line ls
  inside = rw is (bodies.field_types ls p f h)

  pub payload_inline : (r : ℕ) → kind_of ls y ≡ 12 → r ≡ number (y_line ls y) 1 → Payload ls f r
  unfolding tree uninline
  payload_inline r e q =
      let l : number (y_line ls y) 1 < y = good_inline _ _ _ _ (good_type_at ls p y inside) e in
      rw q
      (record {
        inside = omega (arith, inside, l);
        type = sym (ap uninline (type_tree ls p y inside) ∙ rw e) ∙ ap (λ (z : ℕ). uninline (type_of ls z)) is;
      })

  pub payload_plain : (kind_of ls y ≡ 12 → ⊥) → Payload ls f y
  payload_plain n =
      record {
        inside = inside;
        type = type_tree ls p y inside ∙ plain_tree (trees ls) (types_of ls) _ _ _ _ n ∙ sym (ap uninline (type_tree ls p y inside)) ∙ ap (λ (z : ℕ). uninline (type_of ls z)) is;
      }
