-- What the cells of all declarations say: the shape of each layout, and what becomes of every name. Assumes nothing.
use Rattle.std.specs.Prelude.{◌≡◌, List, [], ◌∷◌, Bool, ℕ, zero, suc, ◌+◌, ◌*◌, ◌≤◌, ◌<◌, length, set}
use Rattle.std.proofs.Math.Path.{refl, ap, subst}
use Rattle.std.proofs.Common.{ap₂, sym, ◌∙◌, arith, length-set, get_or-set_same, get_or-set_other}
use Rattle.std.proofs.Math.Bool.{true, false}
use Rattle.std.proofs.Math.Decide.{ℕ_discrete}
use Rattle.std.proofs.Math.Dec.{ltb}
use Rattle.std.proofs.Math.ListN.{get_or, get_or-eq_default}
use borrow.Author.Tests.{ltb-true, ltb-false}
use Rattle.number_columns.specs.Column.{pick}
use Rattle.sheet.specs.Line.{Line}
use Rattle.model.specs.Cty.{uninline}
use Rattle.model.specs.Decl.{dtype_at, position, close}
use Rattle.model.specs.Resolve.{newtype, abbreviation, stays, unfold_dtype, unfold_of, unfolds, unfold_name}
use Rattle.model.specs.Run.{layouts_of, layout_of_decl}
use Rattle.model_laws.specs.Lists.{get_or_table, get_or_table_past}
use Rattle.meaning.specs.Program.{type_line, program}
use Rattle.meaning.specs.Rows.{count_of}
use Rattle.meaning_laws.specs.Program.{length_program}
use Rattle.table_declared.specs.Passed.{Passed}
use Rattle.table_access.specs.Tables.{decls_of}
use Rattle.erasure_laws.specs.BodiesLaws.{last_types}
use Rattle.resolve_kids.specs.Nodes.{type_of}
use Rattle.resolve_kids.specs.Params.{params_of}
use Rattle.keep_layouts.specs.Kept.{body_kind, body_last, field_type}
use Rattle.keep_laws.specs.KeptLaws.{params_are}
use Rattle.keep_layouts.specs.States.{state, body_of, unfold_at, Open, closed, Shape, Settled}
use Rattle.keep_layouts.specs.declared.Layout.{Layout}
use Rattle.keep_layouts.specs.declared.Layout.TheVariants.{Erased, Newtype, Struct, Abbreviation, Opaque}
use Rattle.keep_layouts.specs.declared.Verdict.{Verdict}
use Rattle.keep_layouts.specs.Layouts.{newtype_told, layout_told, no_verdict, Laid}
use Rattle.collapse_candidates.specs.Payloads.{Payload}
use Rattle.collapse_candidates.specs.PayloadsLaws.{close_uninline}
use Rattle.collapse_passes.specs.Passes.{named}
use Rattle.collapse_passes.specs.BodyLaws.{kind_is, abbreviation_is, stays_bare}
use Rattle.state_names.specs.KindLaws.{Fits, layout_fits}
use Rattle.state_names.specs.Cells.{Cells, Told, Known, Put, Filled}
use Rattle.table_declared.specs.PassedLaws.{types_few}

-- an element is the same, whatever stands for one past the last
any_default : {A : Type 0} (xs : List A) (i : ℕ) (x y : A) → i < length xs → get_or xs i x ≡ get_or xs i y
any_default [] i x y h = absurd (omega arith)
any_default (a ∷ xs) zero x y h = refl
any_default (a ∷ xs) (suc i) x y h = any_default xs i x y (omega arith)

-- ---- one declaration more
filled_next : (ls : List Line) (vs : List Verdict) (n : ℕ) (u u' : List ℕ) → n < decls_of ls → Filled ls vs n u → Put ls n (get_or vs n no_verdict).layout u u' → Filled ls vs (n + 1) u'
filled_next ls vs n u u' h f p =
    let long : length u' ≡ length u = ap length p.is ∙ length-set (set u (2 * n) p.first) (2 * n + 1) p.second ∙ length-set u (2 * n) p.first in
    record { long = long ∙ f.long; each = λ d l. go d l (ℕ_discrete d n) }
  where
    at : (d k x : ℕ) → (k ≡ 2 * n → ⊥) → (k ≡ 2 * n + 1 → ⊥) → get_or u' k x ≡ get_or u k x
    at d k x a c =
        ap (λ (v : List ℕ). get_or v k x) p.is
        ∙ get_or-set_other (set u (2 * n) p.first) (2 * n + 1) k p.second x c
        ∙ get_or-set_other u (2 * n) k p.first x a

    one : get_or u' (2 * n) 3 ≡ p.first
    one =
        ap (λ (v : List ℕ). get_or v (2 * n) 3) p.is
        ∙ get_or-set_other (set u (2 * n) p.first) (2 * n + 1) (2 * n) p.second 3 (λ e. omega arith)
        ∙ get_or-set_same u (2 * n) p.first 3 (omega (arith, f.long))

    two : get_or u' (2 * n + 1) 0 ≡ p.second
    two =
        ap (λ (v : List ℕ). get_or v (2 * n + 1) 0) p.is
        ∙ get_or-set_same (set u (2 * n) p.first) (2 * n + 1) p.second 0 (omega (arith, f.long, length-set u (2 * n) p.first))

    go : (d : ℕ) → d < n + 1 → Dec (d ≡ n) → Told ls d (get_or vs d no_verdict).layout (state u' d) (body_of u' d)
    go d l (yes z) = rw (z, one, two) p.told
    go d l (no z) = rw (at d (2 * d) 3 (λ e. z (omega arith)) (λ e. omega arith), at d (2 * d + 1) 0 (λ e. omega arith) (λ e. z (omega arith))) (f.each d (omega arith))

pub filled_none : (ls : List Line) (vs : List Verdict) (u : List ℕ) → length u ≡ 2 * decls_of ls → Filled ls vs 0 u
filled_none ls vs u h = record { long = h; each = λ d l. absurd (omega arith) }

-- ---- a declaration
module _ (ls : List Line) (p : Passed ls) (u : List ℕ) (d : ℕ) (h : d < decls_of ls) where
  payload_closed : (f : ℕ) → Payload ls f (body_of u d) → uninline (close (params_of ls d) (type_of ls (field_type ls f))) ≡ close (params_of ls d) (type_of ls (body_of u d))
  payload_closed f q = sym (close_uninline (params_of ls d) (type_of ls (field_type ls f))) ∙ ap (close (params_of ls d)) (sym q.type)

  between : (c : Bool) (a : ℕ) → a ≡ pick c 3 2 → (2 ≤ a) × (a ≤ 3)
  between true a e = (omega arith, omega arith)
  between false a e = (omega arith, omega arith)

  -- the shape of its layout
  shape_of : (l : Layout) → Fits (body_kind ls d) (layout_told ls d l) → Cells ls d (state u d) (body_of u d) l → Shape ls u d (layout_told ls d l)
  unfolding layout_told newtype_told
  shape_of Erased k q = q
  shape_of (Newtype ctor f) k q = (q.0, payload_closed f q.1)
  shape_of Struct k q = (q, k.0, k.1, refl)
  shape_of Abbreviation k q = let r = between (named ls d) (state u d) q.0 in (r.0, r.1, k, λ _. q.1, refl)
  shape_of Opaque k q = (q, k)

  -- its type is one of the sheet's
  body_inside : (l : Layout) → Fits (body_kind ls d) (layout_told ls d l) → Cells ls d (state u d) (body_of u d) l → Open u d → body_of u d < count_of type_line ls
  unfolding layout_told
  body_inside Erased k q o = absurd (omega (arith, o.0))
  body_inside (Newtype ctor f) k q o = q.1.inside
  body_inside Struct k q o = absurd (omega (arith, o.1))
  body_inside Abbreviation k q o = rw q.1 (last_types ls p d h k)
  body_inside Opaque k q o = absurd (omega (arith, o.1))

  -- what becomes of its name
  unfold_told : (l : Layout) → Fits (body_kind ls d) (layout_told ls d l) → Cells ls d (state u d) (body_of u d) l → unfold_of (dtype_at (program ls) d) (layout_told ls d l) ≡ closed (unfold_at ls u d)
  unfolding layout_told newtype_told unfold_of unfold_dtype unfold_at closed
  unfold_told Erased k q = rw q
  unfold_told (Newtype ctor f) k q = rw q.0 (ap₂ newtype (params_are ls d h) (payload_closed f q.1))
  unfold_told Struct k q = rw q (stays_bare (dtype_at (program ls) d) (λ e. omega (arith, kind_is ls d h p, k.0)))
  unfold_told Opaque k q = rw q (stays_bare (dtype_at (program ls) d) (λ e. omega (arith, kind_is ls d h p)))
  unfold_told Abbreviation k q = abbreviation_is ls d h k ∙ go (named ls d) q.0
    where
      go : (c : Bool) → state u d ≡ pick c 3 2 → pick c stays (abbreviation (params_of ls d) (close (params_of ls d) (type_of ls (body_last ls d)))) ≡ closed (unfold_at ls u d)
      go true e = rw e
      go false e = rw (e, q.1)

-- ---- all of them
module _ (ls : List Line) (p : Passed ls) (vs : List Verdict) (laid : Laid ls vs) where
  abbrev all : List Line
  all = ls

  fits_at : (d : ℕ) → d < decls_of all → Fits (body_kind all d) (layout_told all d (get_or vs d no_verdict).layout)
  fits_at d h = subst (Fits (body_kind all d)) (sym (laid.layouts d h)) (layout_fits ls p d h)

  same_layout : (d : ℕ) → d < decls_of all → (z : Verdict) → (get_or vs d no_verdict).layout ≡ (get_or vs d z).layout
  same_layout d h z = ap (λ (v : Verdict). v.layout) (any_default vs d no_verdict z (omega (arith, laid.long)))

  known_at : (d : ℕ) → d < decls_of all → Known all d (get_or vs d no_verdict).layout
  unfolding layout_told
  known_at d h = record { field = λ ctor f e. laid.fields d ctor f h e; kind = λ e. subst (λ (l : Layout). Fits (body_kind all d) (layout_told all d l)) e (fits_at d h) }

  -- for the code, which reads a verdict with another default
  pub known : (d : ℕ) → d < decls_of all → (z : Verdict) → Known all d (get_or vs d z).layout
  known d h z = rw (same_layout d h z) at (known_at d h)

  pub filled_more : (d : ℕ) → d < decls_of all → (z : Verdict) (u u' : List ℕ) → Filled all vs d u → Put all d (get_or vs d z).layout u u' → Filled all vs (d + 1) u'
  filled_more d h z u u' f q = filled_next all vs d u u' h f (rw (same_layout d h z) q)

  module _ (u : List ℕ) (f : Filled all vs (decls_of all) u) where
    name_told : (i : ℕ) → get_or (unfolds (program all) (layouts_of (program all))) i stays ≡ closed (unfold_at all u i)
    unfolding unfolds unfold_at closed
    name_told i = go (ltb i (decls_of all)) refl
      where
        go : (c : Bool) → ltb i (decls_of all) ≡ c → get_or (unfolds (program all) (layouts_of (program all))) i stays ≡ closed (unfold_at all u i)
        go true e =
            let h : i < decls_of all = ltb-true i (decls_of all) e in
            get_or_table (λ k. unfold_of (dtype_at (program all) k) (layout_of_decl (program all) k)) (length (program all)) i stays (rw (length_program all) h)
            ∙ ap (unfold_of (dtype_at (program all) i)) (sym (laid.layouts i h))
            ∙ unfold_told ls p u i h (get_or vs i no_verdict).layout (fits_at i h) (f.each i h).cells
        go false e =
            let h : decls_of all ≤ i = ltb-false i (decls_of all) e in
            let z : get_or u (2 * i) 3 ≡ 3 = get_or-eq_default u 3 (omega (arith, f.long)) in
            get_or_table_past (λ k. unfold_of (dtype_at (program all) k) (layout_of_decl (program all) k)) (length (program all)) i stays (rw (length_program all) h) ∙ rw z

    -- The cells of all declarations say what becomes of every name.
    pub settled : Settled ls u
    unfolding unfold_name
    settled =
        record {
          long = f.long;
          bodies = λ d h o. body_inside ls p u d h (get_or vs d no_verdict).layout (fits_at d h) (f.each d h).cells o;
          shapes = λ d h. subst (Shape all u d) (laid.layouts d h) (shape_of ls p u d h (get_or vs d no_verdict).layout (fits_at d h) (f.each d h).cells);
          names = λ n. name_told (position (program all) n);
        }

  pub settled_at : (d : ℕ) → d ≡ decls_of all → (u : List ℕ) → Filled all vs d u → Settled ls u
  settled_at d e u f = settled u (rw e at f)

-- ---- for the code
-- the first cell of an abbreviation
pub cell_named : (b c : Bool) → b ≡ c → b ≡ true → ◌≡◌ {A = ℕ} 3 (pick c 3 2)
cell_named b c q e = rw (← q, e)

pub cell_unfolded : (b c : Bool) → b ≡ c → b ≡ false → ◌≡◌ {A = ℕ} 2 (pick c 3 2)
cell_unfolded b c q e = rw (← q, e)

module _ (ls : List Line) (d : ℕ) (l : Layout) where
  pub told_erased : (c : ℕ) → l ≡ Erased → Told ls d l 0 c
  told_erased c e = rw e (record { cells = refl })

  pub told_newtype : (ctor f y : ℕ) → l ≡ Newtype ctor f → Payload ls f y → Told ls d l 1 y
  told_newtype ctor f y e p = rw e (record { cells = (refl, p) })

  pub told_struct : (c : ℕ) → l ≡ Struct → Told ls d l 3 c
  told_struct c e = rw e (record { cells = refl })

  pub told_abbreviation : (a c : ℕ) → l ≡ Abbreviation → a ≡ pick (named ls d) 3 2 → c ≡ body_last ls d → Told ls d l a c
  told_abbreviation a c e p q = rw e (record { cells = (p, q) })

  pub told_opaque : (c : ℕ) → l ≡ Opaque → Told ls d l 3 c
  told_opaque c e = rw e (record { cells = refl })

-- the cells of Y lines fit
pub payload_fits : (ls : List Line) → Passed ls → (f y : ℕ) → Payload ls f y → y < 4096
payload_fits ls p f y q = omega (arith, q.inside, types_few ls p)

pub last_fits : (ls : List Line) → Passed ls → (d : ℕ) → d < decls_of ls → (l : Layout) → Known ls d l → l ≡ Abbreviation → body_last ls d < 4096
last_fits ls p d h l k e = omega (arith, last_types ls p d h (k.kind e), types_few ls p)
