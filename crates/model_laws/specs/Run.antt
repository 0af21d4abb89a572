-- What `run` gives, declaration by declaration, and what it depends on. Assumes nothing.
use Rattle.std.specs.Prelude.{◌≡◌, false, length}
use Rattle.std.proofs.Math.Path.{refl, ap, ap₂, fun_ext}
use Rattle.std.proofs.Common.{sym, ◌∙◌}
use mathlib.Core.List.{List}
use Rattle.std.proofs.Math.Option.{Option, none, some}
use Prim.Native.Nat.{ℕ, ◌<◌}
use Rattle.std.proofs.Math.ListN.{get_or}
use Rattle.model.specs.Cty.{Cty}
use Rattle.model.specs.Decl.{Origin, imported, here, Dtype, Layout, L_opaque, TypeInfo, Decl, dtype_at, origin_at, table}
use Rattle.model.specs.Erasure.{marked, erasure_fixpoint}
use Rattle.model.specs.Reach.{cyclic}
use Rattle.model.specs.Layout.{ctor_layouts, layout_of, type_names, steps}
use Rattle.model.specs.Resolve.{Unfold, stays, unfolded, unfold_of, unfolds, unfold_name, resolve, resolve_checked}
use Rattle.model.specs.Run.{record_of, rw_decl, info, layouts_of, run, lay, layout_of_decl, left_at, info_at, unfold_next, returns, resolves, fault_code, decl_fault}
use Rattle.model_laws.specs.Names.{position_same}
use Rattle.model_laws.specs.Layout.{positions_same, get_or_layouts}
use Rattle.model_laws.specs.Lists.{length_table, get_or_table, table_cong}

-- ---- one declaration
pub run_lefts : (fuel : ℕ) (ds : List Decl) → (run fuel ds).lefts ≡ table (left_at fuel ds) (length ds)
unfolding run layouts_of left_at
run_lefts fuel ds = refl

pub run_infos : (fuel : ℕ) (ds : List Decl) → (run fuel ds).infos ≡ table (info_at fuel ds) (length ds)
unfolding run layouts_of left_at info_at
run_infos fuel ds =
    table_cong _ _ (length ds) (λ i h. ap (info (marked ds (erasure_fixpoint ds).marks) (dtype_at ds i) (origin_at ds i) (get_or (erasure_fixpoint ds).marks i false) (layout_of_decl ds i)) (get_or_table _ (length ds) i none h))

pub get_or_infos : (fuel : ℕ) (ds : List Decl) (i : ℕ) (d : TypeInfo) → i < length ds → get_or (run fuel ds).infos i d ≡ info_at fuel ds i
get_or_infos fuel ds i d h = rw run_infos (get_or_table (info_at fuel ds) (length ds) i d h)

pub length_infos : (fuel : ℕ) (ds : List Decl) → length (run fuel ds).infos ≡ length ds
length_infos fuel ds = rw run_infos (length_table (info_at fuel ds) (length ds))

-- ---- the verdict of a declaration
-- a local type's: its mark, its layout, its fields by their types, and the record number read off what is left of it
pub local_info : (fuel : ℕ) (ds : List Decl) (i : ℕ) → origin_at ds i ≡ here
    → info_at fuel ds i
    ≡ record {
      ti_erased = get_or (erasure_fixpoint ds).marks i false;
      ti_layout = layout_of_decl ds i;
      ti_ctors = ctor_layouts (marked ds (erasure_fixpoint ds).marks) (dtype_at ds i);
      ti_record = record_of (left_at fuel ds i);
    }
unfolding info_at info
local_info fuel ds i o =
    ap (λ (x : Origin). info (marked ds (erasure_fixpoint ds).marks) (dtype_at ds i) x (get_or (erasure_fixpoint ds).marks i false) (layout_of_decl ds i) (left_at fuel ds i)) o

-- an import's is its own, and so is its layout
pub import_info : (fuel : ℕ) (ds : List Decl) (i : ℕ) (ti : TypeInfo) → origin_at ds i ≡ imported ti → info_at fuel ds i ≡ ti
unfolding info_at info
import_info fuel ds i ti o =
    ap (λ (x : Origin). info (marked ds (erasure_fixpoint ds).marks) (dtype_at ds i) x (get_or (erasure_fixpoint ds).marks i false) (layout_of_decl ds i) (left_at fuel ds i)) o

pub import_layout : (ds : List Decl) (i : ℕ) (ti : TypeInfo) → i < length ds → origin_at ds i ≡ imported ti → layout_of_decl ds i ≡ ti.ti_layout
unfolding layouts_of layout_of
import_layout ds i ti h o = get_or_layouts ds (erasure_fixpoint ds).marks i L_opaque h ∙ rw o

-- ---- the same types and layouts
-- Origins apart, all but the verdicts follows from the declarations' types and the layouts.
module _ (ds ds' : List Decl) (e : length ds ≡ length ds') (t : (i : ℕ) → i < length ds → dtype_at ds i ≡ dtype_at ds' i) where
  module _ (q : layouts_of ds ≡ layouts_of ds') where
    unfolds_same : unfolds ds (layouts_of ds) ≡ unfolds ds' (layouts_of ds')
    unfolding unfolds
    unfolds_same =
        table_cong _ _ (length ds) (λ i h. ap₂ (λ (d : Dtype) (l : List Layout). unfold_of d (get_or l i L_opaque)) (t i h) q)
        ∙ ap (table (λ i. unfold_of (dtype_at ds' i) (get_or (layouts_of ds') i L_opaque))) e

    pub lay_same : lay ds ≡ lay ds'
    unfolding unfold_name
    lay_same = fun_ext (λ n. ap₂ (λ (us : List Unfold) (i : ℕ). get_or us i stays) unfolds_same (position_same ds ds' n e t))

    pub left_same : (fuel i : ℕ) → i < length ds → left_at fuel ds i ≡ left_at fuel ds' i
    unfolding left_at
    left_same fuel i h =
        ap₂ (λ (u : ℕ → Unfold) (d : Dtype). rw_decl (resolve u fuel) d (layout_of_decl ds i)) lay_same (t i h)
        ∙ ap (λ (l : List Layout). rw_decl (resolve (lay ds') fuel) (dtype_at ds' i) (get_or l i L_opaque)) q

    pub lefts_same : (fuel : ℕ) → (run fuel ds).lefts ≡ (run fuel ds').lefts
    lefts_same fuel =
        run_lefts fuel ds
        ∙ (table_cong (left_at fuel ds) (left_at fuel ds') (length ds) (left_same fuel) ∙ ap (table (left_at fuel ds')) e)
        ∙ sym (run_lefts fuel ds')

    pub fault_same : (limit fuel i : ℕ) → decl_fault limit fuel ds (layouts_of ds) i ≡ decl_fault limit fuel ds' (layouts_of ds') i
    unfolding decl_fault
    fault_same limit fuel i =
        ap₂ (λ (u : ℕ → Unfold) (l : List Layout). fault_code (resolve_checked limit u fuel) (resolves (get_or l i L_opaque))) lay_same q

    type_names_same : (o : Option Cty) → type_names ds o ≡ type_names ds' o
    unfolding type_names
    type_names_same none = refl
    type_names_same (some c) = positions_same ds ds' e t _

    pub returns_same : (i : ℕ) → returns ds (layouts_of ds) i ≡ returns ds' (layouts_of ds') i
    unfolding returns unfold_next steps
    returns_same i =
        ap₂ (λ (next : ℕ → List ℕ) (n : ℕ). cyclic next n i)
        (fun_ext (λ j. type_names_same (unfolded (get_or (unfolds ds (layouts_of ds)) j stays)) ∙ ap (λ (us : List Unfold). type_names ds' (unfolded (get_or us j stays))) unfolds_same))
        e
