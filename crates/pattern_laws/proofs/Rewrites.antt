-- The rewriting line by line, by the marks and flags of Marks, is `rw_pat` of the pattern: for every line and its list up to
-- it, by induction over lines. Assumes nothing.
use Rattle.std.specs.Prelude.{◌≡◌, Bool, true, false, length, get_or}
use Rattle.std.proofs.Math.Path.{refl, sym, ap, ap₂}
use Rattle.std.proofs.Common.{◌∙◌, arith}
use mathlib.Core.List.{List, [], ◌∷◌, ◌++◌, append_assoc, append-nil}
use Rattle.std.proofs.Math.Option.{Option, none, some}
use Prim.Native.Nat.{ℕ, zero, suc, ◌-◌, ◌≤◌, ◌<◌}
use Rattle.std.proofs.Math.Dec.{eqb}
use Rattle.sheet.specs.Line.{Line, bad}
use Rattle.model.specs.Decl.{CtorLayout, Layout, L_erased, L_newtype, L_struct, L_abbrev, L_opaque}
use Rattle.model_laws.specs.Lists.{get_or_map, get_or_table}
use Rattle.model_patterns.specs.Pat.{Pat, Pats, no_parts, part, pat_vars, pats_vars, part_fields, nth_opt, other_parts, try_find, Split, keep_by_name, named, names_one, Owner, Rewritten, RewrittenParts, newtype_ctor, owned_ctor, rw_ctor, newtype_record, rw_record, rw_pat, many}
use Rattle.model_patterns.proofs.Laws.Accounted.{many_fields}
use Rattle.meaning.specs.Rows.{nth_line}
use Rattle.meaning_patterns.specs.Patterns.{kind_of, name_of, last_of, previous_of, field_of, Piece, no_piece, list_to, and_last, pattern_of, piece, pieces, pattern}
use Rattle.pattern_laws.specs.Made.{Made, no_made, made_to, become, mades, made_of}
use Rattle.pattern_laws.specs.Grown.{by_lines}
use Rattle.pattern_laws.proofs.Pieces.{piece_at, made_at, made_with, made_links}
use Rattle.pattern_laws.specs.Linked.{Linked, good_is, AllGood, linked_is, unshared_is, leaf_is}
use Rattle.pattern_laws.specs.Marks.{layout_mark, ctor_mark, record_mark, has_field, layout_flag, ctor_flag, record_flag, owners_of, mark_of, flag_of, flag_by, flag_at, marks_of, flags_of}
use Rattle.pattern_laws.proofs.Kept.{Rule, flagged, flagged_last, vars_last, split_by, all_kept, all_dropped, names_split, slots_split, chosen, place_kept, place_dropped, others_all, named_dropped, named_kept, find_none}
use Rattle.pattern_laws.proofs.Owners.{Owned, owners_owned}

-- ---- a line, by its mark and the flags of its parts
abbrev settled : ℕ → ℕ → ℕ → RewrittenParts → Split → Rewritten
settled mark kind n m s = record { pat = become mark kind n s.kept; freed = m.freed ++ pats_vars s.dropped }

-- a part stands for the line
abbrev stands : RewrittenParts → Pat → Pats → Rewritten
stands m p qs = record { pat = p; freed = m.freed ++ pats_vars qs }

newtype_ctor_is : (i : ℕ) (m : RewrittenParts) (o : Option Pat) → nth_opt m.pats i ≡ o → stands m (chosen o) (other_parts m.pats i) ≡ newtype_ctor i m o
unfolding newtype_ctor chosen
newtype_ctor_is i m none e = ap (λ (qs : Pats). stands m (chosen none) qs) (others_all m.pats i e)
newtype_ctor_is i m (some p) e = refl

owned_is : (n : ℕ) (m : RewrittenParts) (l : Layout) (cl : CtorLayout)
    → settled (layout_mark l) 3 n m (split_by (λ fs f. layout_flag l cl fs) [] m.pats) ≡ owned_ctor n m l cl
unfolding owned_ctor become pattern_of
owned_is n m L_erased cl = ap (settled 0 3 n m) (all_dropped [] m.pats)
owned_is n m (L_newtype nt) cl =
    ap₂ (stands m) (place_kept nt.nt_index [] m.pats nt.nt_index (omega arith)) (place_dropped nt.nt_index [] m.pats nt.nt_index (omega arith))
    ∙ newtype_ctor_is nt.nt_index m (nth_opt m.pats nt.nt_index) refl
owned_is n m (L_struct cls) cl = ap (settled 1 3 n m) (slots_split cl.cl_slots [] m.pats)
owned_is n m (L_abbrev c) cl = ap (settled 1 3 n m) (slots_split cl.cl_slots [] m.pats)
owned_is n m L_opaque cl = ap (settled 1 3 n m) (slots_split cl.cl_slots [] m.pats)

-- every part is kept
stays : (kind n : ℕ) (m : RewrittenParts)
    → settled 1 kind n m (split_by (λ fs f. 1) [] m.pats) ≡ record { pat = pattern_of kind n m.pats; freed = m.freed }
unfolding become pats_vars
stays kind n m =
    ap (settled 1 kind n m) (all_kept [] m.pats) ∙ ap (λ (vs : List ℕ). record { pat = pattern_of kind n m.pats; freed = vs }) (append-nil m.freed)

ctor_is : (n : ℕ) (m : RewrittenParts) (o : Option Owner)
    → settled (ctor_mark o) 3 n m (split_by (λ fs f. ctor_flag o fs) [] m.pats) ≡ rw_ctor n m o
unfolding ctor_mark ctor_flag rw_ctor pattern_of
ctor_is n m none = stays 3 n m
ctor_is n m (some o) = owned_is n m o.layout o.ctor_layout

newtype_record_is : (g : ℕ) (m : RewrittenParts) (o : Option Pat) → try_find (named g) m.pats ≡ o
    → stands m (chosen o) (keep_by_name (named g) m.pats).dropped ≡ newtype_record g m o
unfolding newtype_record chosen
newtype_record_is g m none e = ap (λ (qs : Pats). stands m (chosen none) qs) (find_none (named g) m.pats e)
newtype_record_is g m (some p) e = refl

record_is : (n : ℕ) (m : RewrittenParts) (o : Option Layout)
    → settled (record_mark o) 4 n m (split_by (λ fs f. record_flag o fs f) [] m.pats) ≡ rw_record n m o
unfolding record_mark record_flag rw_record become pattern_of has_field
record_is n m none = stays 4 n m
record_is n m (some L_erased) = ap (settled 0 4 n m) (all_dropped [] m.pats)
record_is n m (some (L_newtype nt)) =
    ap₂ (stands m) (named_kept nt.nt_field [] m.pats refl) (named_dropped nt.nt_field [] m.pats)
    ∙ newtype_record_is nt.nt_field m (try_find (named nt.nt_field) m.pats) refl
record_is n m (some (L_struct [])) = stays 4 n m
record_is n m (some (L_struct (cl ∷ []))) = ap (settled 1 4 n m) (names_split (names_one cl.cl_fields) [] m.pats)
record_is n m (some (L_struct (cl ∷ cm ∷ cls))) = stays 4 n m
record_is n m (some (L_abbrev c)) = stays 4 n m
record_is n m (some L_opaque) = stays 4 n m

module _ (owner : ℕ → Option Owner) (layout : ℕ → Option Layout) where
  -- by the kind
  abbrev turned : ℕ → ℕ → Pats → Rewritten
  turned kind n ps = settled (mark_of owner layout kind n) kind n (many owner layout ps) (split_by (flag_of owner layout kind n) [] (many owner layout ps).pats)

  leaf_turned : (kind n : ℕ) (ps : Pats) → kind ≤ 2 → ps ≡ no_parts → turned kind n no_parts ≡ rw_pat owner layout (pattern_of kind n no_parts)
      → turned kind n ps ≡ rw_pat owner layout (pattern_of kind n ps)
  leaf_turned kind n ps h e t = rw e t

  turned_is : (kind n : ℕ) (ps : Pats) → kind ≤ 6 → (kind ≤ 2 → ps ≡ no_parts) → turned kind n ps ≡ rw_pat owner layout (pattern_of kind n ps)
  unfolding mark_of flag_of become pattern_of rw_pat many flagged pats_vars
  turned_is zero n ps h e = leaf_turned 0 n ps (omega arith) (e (omega arith)) refl
  turned_is (suc zero) n ps h e = leaf_turned 1 n ps (omega arith) (e (omega arith)) refl
  turned_is (suc (suc zero)) n ps h e = leaf_turned 2 n ps (omega arith) (e (omega arith)) refl
  turned_is (suc (suc (suc zero))) n ps h e = ctor_is n (many owner layout ps) (owner n)
  turned_is (suc (suc (suc (suc zero)))) n ps h e = record_is n (many owner layout ps) (layout n)
  turned_is (suc (suc (suc (suc (suc zero))))) n ps h e = stays 5 n (many owner layout ps)
  turned_is (suc (suc (suc (suc (suc (suc zero)))))) n ps h e = stays 6 n (many owner layout ps)
  turned_is (suc (suc (suc (suc (suc (suc (suc k))))))) n ps h e = absurd (omega arith)

  -- ---- a list, by the flags of its parts
  pub many_last : (ps : Pats) (f : ℕ) (p : Pat)
      → many owner layout (and_last ps f p)
      ≡ record { pats = and_last (many owner layout ps).pats f (rw_pat owner layout p).pat; freed = (many owner layout ps).freed ++ (rw_pat owner layout p).freed }
  unfolding many and_last
  many_last no_parts f p =
      ap (λ (vs : List ℕ). record { pats = part f (rw_pat owner layout p).pat no_parts; freed = vs }) (append-nil (rw_pat owner layout p).freed)
  many_last (part g q qs) f p =
      ap (λ (m : RewrittenParts). record { pats = part g (rw_pat owner layout q).pat m.pats; freed = (rw_pat owner layout q).freed ++ m.freed }) (many_last qs f p)
      ∙ ap (λ (vs : List ℕ). record { pats = part g (rw_pat owner layout q).pat (and_last (many owner layout qs).pats f (rw_pat owner layout p).pat); freed = vs }) (sym (append_assoc (rw_pat owner layout q).freed (many owner layout qs).freed (rw_pat owner layout p).freed))

  -- what is made of a list is what the rule keeps and drops of its parts, each rewritten
  pub record Listed (r : Rule) (m : Made) (ps : Pats) : Type 0 where
    pub kept : m.kept ≡ flagged 1 r [] (many owner layout ps).pats
    pub inner : m.inner ≡ (many owner layout ps).freed
    pub outer : m.outer ≡ pats_vars (flagged 0 r [] (many owner layout ps).pats)

  listed_none : (r : Rule) → Listed r no_made no_parts
  unfolding flagged many pats_vars
  listed_none r = record { kept = refl; inner = refl; outer = refl }

  pub record Done (r : Rule) (m : Made) (p : Piece) : Type 0 where
    pub whole : record { pat = m.pat; freed = m.freed } ≡ rw_pat owner layout p.pat
    pub list : Listed r m p.list

  -- the same kind over what is made of its parts
  whole_is : (l : Line) (x : Made) (ps : Pats) → kind_of l ≤ 6 → (kind_of l ≤ 2 → ps ≡ no_parts)
      → Listed (flag_of owner layout (kind_of l) (name_of l)) x ps
      → record { pat = become (mark_of owner layout (kind_of l) (name_of l)) (kind_of l) (name_of l) x.kept; freed = x.inner ++ x.outer }
      ≡ rw_pat owner layout (pattern_of (kind_of l) (name_of l) ps)
  whole_is l x ps h e d =
      ap₂ (λ (k : Pats) (vs : List ℕ). record { pat = become (mark_of owner layout (kind_of l) (name_of l)) (kind_of l) (name_of l) k; freed = vs }) d.kept (ap₂ (λ (us vs : List ℕ). us ++ vs) d.inner d.outer)
      ∙ turned_is (kind_of l) (name_of l) ps h e

  -- one more part
  last_is : (r : Rule) (l : Line) (x y : Made) (mark flag : ℕ) (ps : Pats) (p : Pat)
      → Listed r y ps
      → flag ≡ r (part_fields ps) (field_of l)
      → record { pat = (made_with x y l mark flag).pat; freed = (made_with x y l mark flag).freed } ≡ rw_pat owner layout p
      → Listed r (made_with x y l mark flag) (and_last ps (field_of l) p)
  unfolding made_with
  last_is r l x y mark flag ps p d e w =
      record {
        kept =
            ap₂ (λ (k : Pats) (v : Pat). kept_with k v (eqb flag 1)) d.kept (ap (λ (z : Rewritten). z.pat) w)
            ∙ ap (kept_with (flagged 1 r [] qs) v) (ap (λ (n : ℕ). eqb n 1) told)
            ∙ sym (flagged_last 1 r [] qs f v)
            ∙ ap (λ (m : RewrittenParts). flagged 1 r [] m.pats) (sym (many_last ps f p));
        inner = ap₂ (λ (us vs : List ℕ). us ++ vs) d.inner (ap (λ (z : Rewritten). z.freed) w) ∙ ap (λ (m : RewrittenParts). m.freed) (sym (many_last ps f p));
        outer =
            ap₂ (λ (us : List ℕ) (v : Pat). outer_with us v (eqb flag 0)) d.outer (ap (λ (z : Rewritten). z.pat) w)
            ∙ ap (outer_with (pats_vars (flagged 0 r [] qs)) v) (ap (λ (n : ℕ). eqb n 0) told)
            ∙ outer_vars (eqb (r (part_fields qs) f) 0)
            ∙ ap pats_vars (sym (flagged_last 0 r [] qs f v))
            ∙ ap (λ (m : RewrittenParts). pats_vars (flagged 0 r [] m.pats)) (sym (many_last ps f p));
      }
    where
      f : ℕ
      f = field_of l

      v : Pat
      v = (rw_pat owner layout p).pat

      qs : Pats
      qs = (many owner layout ps).pats

      told : flag ≡ r (part_fields qs) f
      told = e ∙ ap (λ (fs : List ℕ). r fs f) (sym (many_fields owner layout ps))

      kept_with : Pats → Pat → Bool → Pats
      kept_with k v b = elim b [ true ↦ and_last k f v | false ↦ k ]

      outer_with : List ℕ → Pat → Bool → List ℕ
      outer_with us v b = elim b [ true ↦ us ++ pat_vars v | false ↦ us ]

      outer_vars : (b : Bool)
          → outer_with (pats_vars (flagged 0 r [] qs)) v b ≡ pats_vars (elim b [ true ↦ and_last (flagged 0 r [] qs) f v | false ↦ flagged 0 r [] qs ])
      outer_vars true = sym (vars_last (flagged 0 r [] qs) f v)
      outer_vars false = refl

  -- ---- all lines
  -- the marks and flags of the lines, by owners
  pub record Marked (qs : List Line) (os xs gs : List ℕ) : Type 0 where
    pub linked : Linked qs
    pub owned : Owned qs os
    pub kind : (q : ℕ) → q < length qs → kind_of (nth_line qs q) ≤ 6
    pub leaf : (q : ℕ) → q < length qs → kind_of (nth_line qs q) ≤ 2 → last_of (nth_line qs q) ≡ 0
    pub mark : (q : ℕ) → q < length qs → get_or xs q 0 ≡ mark_of owner layout (kind_of (nth_line qs q)) (name_of (nth_line qs q))
    pub flag : (q : ℕ) → q < length qs → get_or gs q 0 ≡ flag_at owner layout qs os q

  module _ (qs : List Line) (os xs gs : List ℕ) (marked : Marked qs os xs gs) where
    abbrev DoneAt : ℕ → Type 0
    DoneAt q = Done (flag_by owner layout qs (get_or os q 0)) (get_or (mades xs gs qs) q no_made) (get_or (pieces qs) q no_piece)

    -- the list that a link of line q ends, by the rule r
    link_is : (q : ℕ) → ((j : ℕ) → j < q → DoneAt j) → (k : ℕ) → k ≤ q → (r : Rule)
        → ((j : ℕ) → k ≡ suc j → flag_by owner layout qs (get_or os j 0) ≡ r) → Listed r (made_to (mades xs gs qs) k) (list_to (pieces qs) k)
    unfolding made_to list_to
    link_is q d zero h r e = listed_none r
    link_is q d (suc k) h r e = rw (e k refl) at (d k h).list

    done_at : (q : ℕ) → q < length qs → ((j : ℕ) → j < q → DoneAt j) → DoneAt q
    unfolding flag_by flag_at list_to piece made_with
    done_at q h d =
        rw
        (made_at xs gs qs q h lower lower' ∙ made_links (mades xs gs qs) l (get_or xs q 0) (get_or gs q 0), piece_at qs q h lower lower')
        record { whole = whole; list = last_is (flag_by owner layout qs (get_or os q 0)) l x y (get_or xs q 0) (get_or gs q 0) ys p before (marked.flag q h) whole }
      where
        l : Line
        l = nth_line qs q

        lower : last_of l ≤ q
        lower = marked.linked.last q h

        lower' : previous_of l ≤ q
        lower' = marked.linked.previous q h

        x : Made
        x = made_to (mades xs gs qs) (last_of l)

        y : Made
        y = made_to (mades xs gs qs) (previous_of l)

        ps : Pats
        ps = list_to (pieces qs) (last_of l)

        ys : Pats
        ys = list_to (pieces qs) (previous_of l)

        p : Pat
        p = pattern_of (kind_of l) (name_of l) ps

        own : Listed (flag_of owner layout (kind_of l) (name_of l)) x ps
        own = link_is q d (last_of l) lower (flag_of owner layout (kind_of l) (name_of l)) (λ j e. ap (flag_by owner layout qs) (marked.owned.last q j h e))

        before : Listed (flag_by owner layout qs (get_or os q 0)) y ys
        before =
            link_is q d (previous_of l) lower' (flag_by owner layout qs (get_or os q 0)) (λ j e. ap (flag_by owner layout qs) (marked.owned.previous q j h e))

        whole : record { pat = become (get_or xs q 0) (kind_of l) (name_of l) x.kept; freed = x.inner ++ x.outer } ≡ rw_pat owner layout p
        whole =
            ap (λ (m : ℕ). record { pat = become m (kind_of l) (name_of l) x.kept; freed = x.inner ++ x.outer }) (marked.mark q h)
            ∙ whole_is l x ps (marked.kind q h) (λ k. ap (list_to (pieces qs)) (marked.leaf q h k)) own

    -- each line gives what `rw_pat` gives of its pattern
    pub done : (q : ℕ) → q < length qs → DoneAt q
    done = by_lines DoneAt (length qs) done_at

    pub marked_is_rewritten : 0 < length qs → made_of xs gs qs ≡ rw_pat owner layout (pattern qs)
    unfolding made_of pattern
    marked_is_rewritten h = (done (length qs - 1) (omega arith)).whole

  -- ---- the marks and flags of Marks
  pub marks_at : (qs : List Line) (q : ℕ) → q < length qs
      → get_or (marks_of owner layout qs) q 0 ≡ mark_of owner layout (kind_of (nth_line qs q)) (name_of (nth_line qs q))
  unfolding marks_of
  marks_at qs q h = get_or_map (λ l. mark_of owner layout (kind_of l) (name_of l)) qs q 0 bad h

  pub flags_at : (qs : List Line) (q : ℕ) → q < length qs → get_or (flags_of owner layout qs) q 0 ≡ flag_at owner layout qs (owners_of qs) q
  unfolding flags_of
  flags_at qs q h = get_or_table (flag_at owner layout qs (owners_of qs)) (length qs) q 0 h

  pub marked_is : (names : ℕ) (qs : List Line) → AllGood names qs → Marked qs (owners_of qs) (marks_of owner layout qs) (flags_of owner layout qs)
  marked_is names qs g =
      record {
        linked = linked_is names qs g;
        owned = owners_owned qs (linked_is names qs g) (unshared_is names qs g);
        kind = λ q h. (good_is names qs q (g q h)).kind;
        leaf = λ q h. leaf_is names qs q (g q h);
        mark = marks_at qs;
        flag = flags_at qs;
      }

  -- By these marks and flags the lines give what `rw_pat` gives of their pattern.
  pub made_is_rewritten : (names : ℕ) (qs : List Line) → AllGood names qs → 0 < length qs
      → made_of (marks_of owner layout qs) (flags_of owner layout qs) qs ≡ rw_pat owner layout (pattern qs)
  made_is_rewritten names qs g =
      marked_is_rewritten qs (owners_of qs) (marks_of owner layout qs) (flags_of owner layout qs) (marked_is names qs g)
