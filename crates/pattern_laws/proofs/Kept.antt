-- Which parts of a list flags keep and which they drop, and that the flags of Marks do what `rw_pat` does: laws over plain
-- lists of parts. Assumes nothing.
use Rattle.std.specs.Prelude.{◌≡◌, refl, List, [], ◌∷◌, ◌++◌, Bool, true, false, ◌||◌, ℕ, zero, suc, ◌+◌, ◌<◌, eqb, length, get_or, drop}
use Rattle.std.proofs.Common.{sym, ap, ap₂, ◌∙◌, append_assoc, append-nil, arith, length-append, get_or-drop, drop-drop, eq-eqb, ne_eqb}
use Rattle.std.proofs.Math.Option.{Option, none, some}
use Rattle.number_columns.specs.Column.{pick, ◌⇒◌∥◌}
use Rattle.model_patterns.specs.Pat.{Pat, Pats, PWild, no_parts, part, pat_vars, pats_vars, part_fields, nth_opt, other_parts, try_find, Split, into, keep_by_slots, keep_by_name, named}
use Rattle.meaning_patterns.specs.Patterns.{and_last}
use Rattle.pattern_laws.specs.Made.{only}
use Rattle.pattern_laws.specs.Marks.{kept_if, has_field, newtype_flag}

-- the flag of a part, by the fields of the parts before it and its own
abbrev pub Rule : Type 0
Rule = List ℕ → ℕ → ℕ

-- The parts whose flag is x, of a list that stands behind parts of these fields.
unfoldable pub flagged : ℕ → Rule → List ℕ → Pats → Pats
flagged x r fs no_parts = no_parts
flagged x r fs (part f p ps) = elim (eqb (r fs f) x) [ true ↦ part f p (flagged x r (fs ++ (f ∷ [])) ps) | false ↦ flagged x r (fs ++ (f ∷ [])) ps ]

-- ---- one more part at the end
pub flagged_last : (x : ℕ) (r : Rule) (fs : List ℕ) (ps : Pats) (f : ℕ) (p : Pat)
    → flagged x r fs (and_last ps f p)
    ≡ elim (eqb (r (fs ++ part_fields ps) f) x) [ true ↦ and_last (flagged x r fs ps) f p | false ↦ flagged x r fs ps ]
unfolding flagged and_last part_fields
flagged_last x r fs no_parts f p = ap (λ (gs : List ℕ). elim (eqb (r gs f) x) [ true ↦ part f p no_parts | false ↦ no_parts ]) (sym (append-nil fs))
flagged_last x r fs (part g q qs) f p =
    ap (into_list (eqb (r fs g) x)) (flagged_last x r (fs ++ (g ∷ [])) qs f p ∙ ap (λ (gs : List ℕ). more (eqb (r gs f) x)) (append_assoc fs (g ∷ []) (part_fields qs)))
    ∙ over (eqb (r fs g) x) (eqb (r (fs ++ (g ∷ part_fields qs)) f) x)
  where
    rest : Pats
    rest = flagged x r (fs ++ (g ∷ [])) qs

    more : Bool → Pats
    more b = elim b [ true ↦ and_last rest f p | false ↦ rest ]

    into_list : Bool → Pats → Pats
    into_list b ps = elim b [ true ↦ part g q ps | false ↦ ps ]

    over : (b c : Bool) → into_list b (more c) ≡ elim c [ true ↦ and_last (into_list b rest) f p | false ↦ into_list b rest ]
    over true true = refl
    over true false = refl
    over false true = refl
    over false false = refl

pub fields_last : (ps : Pats) (f : ℕ) (p : Pat) → part_fields (and_last ps f p) ≡ part_fields ps ++ (f ∷ [])
unfolding part_fields and_last
fields_last no_parts f p = refl
fields_last (part g q qs) f p = ap (λ (gs : List ℕ). g ∷ gs) (fields_last qs f p)

pub vars_last : (ps : Pats) (f : ℕ) (p : Pat) → pats_vars (and_last ps f p) ≡ pats_vars ps ++ pat_vars p
unfolding pats_vars and_last
vars_last no_parts f p = append-nil (pat_vars p)
vars_last (part g q qs) f p = ap (λ (vs : List ℕ). pat_vars q ++ vs) (vars_last qs f p) ∙ sym (append_assoc (pat_vars q) (pats_vars qs) (pat_vars p))

-- ---- kept and dropped
abbrev pub split_by : Rule → List ℕ → Pats → Split
split_by r fs ps = record { kept = flagged 1 r fs ps; dropped = flagged 0 r fs ps }

flagged_part : (x : ℕ) (r : Rule) (fs : List ℕ) (f : ℕ) (p : Pat) (ps : Pats) (b : Bool) → eqb (r fs f) x ≡ b
    → flagged x r fs (part f p ps) ≡ elim b [ true ↦ part f p (flagged x r (fs ++ (f ∷ [])) ps) | false ↦ flagged x r (fs ++ (f ∷ [])) ps ]
unfolding flagged
flagged_part x r fs f p ps b e =
    ap (λ (c : Bool). elim c [ true ↦ part f p (flagged x r (fs ++ (f ∷ [])) ps) | false ↦ flagged x r (fs ++ (f ∷ [])) ps ]) e

-- a part that is kept or dropped
split_part : (r : Rule) (fs : List ℕ) (f : ℕ) (p : Pat) (ps : Pats) (b : Bool) → r fs f ≡ kept_if b
    → split_by r fs (part f p ps) ≡ into b f p (split_by r (fs ++ (f ∷ [])) ps)
split_part r fs f p ps true e =
    ap₂
    (λ (k d : Pats). record { kept = k; dropped = d })
    (flagged_part 1 r fs f p ps true (ap (λ (n : ℕ). eqb n 1) e))
    (flagged_part 0 r fs f p ps false (ap (λ (n : ℕ). eqb n 0) e))
split_part r fs f p ps false e =
    ap₂
    (λ (k d : Pats). record { kept = k; dropped = d })
    (flagged_part 1 r fs f p ps false (ap (λ (n : ℕ). eqb n 1) e))
    (flagged_part 0 r fs f p ps true (ap (λ (n : ℕ). eqb n 0) e))

-- all parts
pub all_kept : (fs : List ℕ) (ps : Pats) → split_by (λ gs f. 1) fs ps ≡ record { kept = ps; dropped = no_parts }
unfolding flagged
all_kept fs no_parts = refl
all_kept fs (part f p ps) = ap (into true f p) (all_kept (fs ++ (f ∷ [])) ps)

pub all_dropped : (fs : List ℕ) (ps : Pats) → split_by (λ gs f. 0) fs ps ≡ record { kept = no_parts; dropped = ps }
unfolding flagged
all_dropped fs no_parts = refl
all_dropped fs (part f p ps) = ap (into false f p) (all_dropped (fs ++ (f ∷ [])) ps)

-- by names
pub names_split : (keep : ℕ → Bool) (fs : List ℕ) (ps : Pats) → split_by (λ gs f. kept_if (keep f)) fs ps ≡ keep_by_name keep ps
unfolding flagged keep_by_name
names_split keep fs no_parts = refl
names_split keep fs (part f p ps) =
    split_part (λ gs g. kept_if (keep g)) fs f p ps (keep f) refl ∙ ap (into (keep f) f p) (names_split keep (fs ++ (f ∷ [])) ps)

length_snoc : (fs : List ℕ) (f : ℕ) → length (fs ++ (f ∷ [])) ≡ length fs + 1
length_snoc fs f = length-append fs (f ∷ [])

-- by slots
slots_part : (bs : List Bool) (f : ℕ) (p : Pat) (ps : Pats) → into (get_or bs 0 true) f p (keep_by_slots (drop 1 bs) ps) ≡ keep_by_slots bs (part f p ps)
unfolding keep_by_slots
slots_part [] f p ps = refl
slots_part (b ∷ bs) f p ps = refl

slots_none : (bs : List Bool) → keep_by_slots bs no_parts ≡ record { kept = no_parts; dropped = no_parts }
unfolding keep_by_slots
slots_none [] = refl
slots_none (b ∷ bs) = refl

pub slots_split : (bs : List Bool) (fs : List ℕ) (ps : Pats)
    → split_by (λ gs f. kept_if (get_or bs (length gs) true)) fs ps ≡ keep_by_slots (drop (length fs) bs) ps
unfolding flagged
slots_split bs fs no_parts = sym (slots_none (drop (length fs) bs))
slots_split bs fs (part f p ps) =
    split_part (λ gs g. kept_if (get_or bs (length gs) true)) fs f p ps (get_or bs (length fs) true) refl
    ∙ ap₂
    (λ (b : Bool) (s : Split). into b f p s)
    (ap (λ (k : ℕ). get_or bs k true) (omega arith) ∙ sym (get_or-drop (length fs) bs 0 true))
    (slots_split bs (fs ++ (f ∷ [])) ps ∙ ap (λ (xs : List Bool). keep_by_slots xs ps) (ap (λ (k : ℕ). drop k bs) (length_snoc fs f) ∙ sym (drop-drop 1 (length fs) bs)))
    ∙ slots_part (drop (length fs) bs) f p ps

-- ---- the part that stands for its owner
unfoldable pub chosen : Option Pat → Pat
chosen none = PWild
chosen (some p) = p

-- by its place: the part d places further on
abbrev pub at_place : ℕ → Rule
at_place i gs f = kept_if (eqb (length gs) i)

past_place : (i : ℕ) (fs : List ℕ) (ps : Pats) → i < length fs → split_by (at_place i) fs ps ≡ record { kept = no_parts; dropped = ps }
unfolding flagged
past_place i fs no_parts h = refl
past_place i fs (part f p ps) h =
    split_part (at_place i) fs f p ps false (ap kept_if (ne_eqb (length fs) i (λ e. omega arith)))
    ∙ ap (into false f p) (past_place i (fs ++ (f ∷ [])) ps (omega (arith, length_snoc fs f)))

pub place_kept : (i : ℕ) (fs : List ℕ) (ps : Pats) (d : ℕ) → length fs + d ≡ i → only (flagged 1 (at_place i) fs ps) ≡ chosen (nth_opt ps d)
unfolding flagged only chosen nth_opt
place_kept i fs no_parts d h = refl
place_kept i fs (part f p ps) zero h =
    ap only (ap (λ (s : Split). s.kept) (split_part (at_place i) fs f p ps true (ap kept_if (eq-eqb (length fs) i (omega arith)))))
place_kept i fs (part f p ps) (suc d) h =
    ap only (ap (λ (s : Split). s.kept) (split_part (at_place i) fs f p ps false (ap kept_if (ne_eqb (length fs) i (λ e. omega arith)))))
    ∙ place_kept i (fs ++ (f ∷ [])) ps d (omega (arith, length_snoc fs f))

pub place_dropped : (i : ℕ) (fs : List ℕ) (ps : Pats) (d : ℕ) → length fs + d ≡ i → flagged 0 (at_place i) fs ps ≡ other_parts ps d
unfolding flagged other_parts
place_dropped i fs no_parts d h = refl
place_dropped i fs (part f p ps) zero h =
    ap (λ (s : Split). s.dropped) (split_part (at_place i) fs f p ps true (ap kept_if (eq-eqb (length fs) i (omega arith))))
    ∙ ap (λ (s : Split). s.dropped) (past_place i (fs ++ (f ∷ [])) ps (omega (arith, length_snoc fs f)))
place_dropped i fs (part f p ps) (suc d) h =
    ap (λ (s : Split). s.dropped) (split_part (at_place i) fs f p ps false (ap kept_if (ne_eqb (length fs) i (λ e. omega arith))))
    ∙ ap (part f p) (place_dropped i (fs ++ (f ∷ [])) ps d (omega (arith, length_snoc fs f)))

-- where there is no part at the place, all are others
pub others_all : (ps : Pats) (i : ℕ) → nth_opt ps i ≡ none → other_parts ps i ≡ ps
unfolding nth_opt other_parts
others_all no_parts i e = refl
others_all (part f p ps) zero e = let z : ◌≡◌ {A = ℕ} 0 1 = cc in absurd (omega arith)
others_all (part f p ps) (suc i) e = ap (part f p) (others_all ps i e)

-- by its name: the first of them
pub has_snoc : (x : ℕ) (fs : List ℕ) (f : ℕ) → has_field x (fs ++ (f ∷ [])) ≡ has_field x fs || eqb f x
unfolding has_field
has_snoc x [] f = by (eqb f x)
  where
    by : (b : Bool) → (b || false) ≡ (false || b)
    by true = refl
    by false = refl
has_snoc x (g ∷ gs) f = by (eqb g x) (has_field x gs) (eqb f x) (has_snoc x gs f)
  where
    by : (a b c : Bool) → has_field x (gs ++ (f ∷ [])) ≡ b || c → (a || has_field x (gs ++ (f ∷ []))) ≡ a || b || c
    by true b c e = refl
    by false b c e = e

-- the flags of a newtype's parts drop those of other names
pub named_dropped : (g : ℕ) (fs : List ℕ) (ps : Pats) → flagged 0 (newtype_flag g) fs ps ≡ (keep_by_name (named g) ps).dropped
unfolding flagged keep_by_name
named_dropped g fs no_parts = refl
named_dropped g fs (part f p ps) = by (named g f) (has_field (suc g) fs) (named_dropped g (fs ++ (f ∷ [])) ps)
  where
    rest : Pats
    rest = flagged 0 (newtype_flag g) (fs ++ (f ∷ [])) ps

    by : (b c : Bool) → rest ≡ (keep_by_name (named g) ps).dropped
        → elim (eqb (b ⇒ pick c 2 1 ∥ 0) 0) [ true ↦ part f p rest | false ↦ rest ] ≡ (into b f p (keep_by_name (named g) ps)).dropped
    by true true e = e
    by true false e = e
    by false c e = ap (part f p) e

-- once there was a part of the name no other is kept
none_kept : (g : ℕ) (fs : List ℕ) (ps : Pats) → has_field (suc g) fs ≡ true → flagged 1 (newtype_flag g) fs ps ≡ no_parts
unfolding flagged
none_kept g fs no_parts h = refl
none_kept g fs (part f p ps) h = by (named g f) (none_kept g (fs ++ (f ∷ [])) ps (has_snoc (suc g) fs f ∙ ap (λ (b : Bool). b || eqb f (suc g)) h))
  where
    rest : Pats
    rest = flagged 1 (newtype_flag g) (fs ++ (f ∷ [])) ps

    by : (b : Bool) → rest ≡ no_parts → elim (eqb (b ⇒ pick (has_field (suc g) fs) 2 1 ∥ 0) 1) [ true ↦ part f p rest | false ↦ rest ] ≡ no_parts
    by true e = rw h e
    by false e = e

pub named_kept : (g : ℕ) (fs : List ℕ) (ps : Pats) → has_field (suc g) fs ≡ false
    → only (flagged 1 (newtype_flag g) fs ps) ≡ chosen (try_find (named g) ps)
unfolding flagged try_find only chosen named
named_kept g fs no_parts h = refl
named_kept g fs (part f p ps) h = by (eqb f (suc g)) refl (named_kept g (fs ++ (f ∷ [])) ps)
  where
    rest : Pats
    rest = flagged 1 (newtype_flag g) (fs ++ (f ∷ [])) ps

    by : (b : Bool) → eqb f (suc g) ≡ b → (has_field (suc g) (fs ++ (f ∷ [])) ≡ false → only rest ≡ chosen (try_find (named g) ps))
        → only (elim (eqb (b ⇒ pick (has_field (suc g) fs) 2 1 ∥ 0) 1) [ true ↦ part f p rest | false ↦ rest ]) ≡ chosen (pick b (some p) (try_find (named g) ps))
    by true e k = ap (λ (c : Bool). only (elim (eqb (pick c 2 1) 1) [ true ↦ part f p rest | false ↦ rest ])) h
    by false e k = k (has_snoc (suc g) fs f ∙ ap₂ (λ (a b : Bool). a || b) h e)

-- where no part has the name, all are of other names
pub find_none : (keep : ℕ → Bool) (ps : Pats) → try_find keep ps ≡ none → (keep_by_name keep ps).dropped ≡ ps
unfolding try_find keep_by_name
find_none keep no_parts e = refl
find_none keep (part f p ps) e = by (keep f) (find_none keep ps) e
  where
    by : (b : Bool) → (try_find keep ps ≡ none → (keep_by_name keep ps).dropped ≡ ps) → pick b (some p) (try_find keep ps) ≡ none → (into b f p (keep_by_name keep ps)).dropped ≡ part f p ps
    by true k e = let z : ◌≡◌ {A = ℕ} 0 1 = cc in absurd (omega arith)
    by false k e = ap (part f p) (k e)
