-- One type after the other, and one declaration after the other. Assumes nothing.
use Rattle.std.specs.Prelude.{◌≡◌, List, [], ◌∷◌, Bool, true, false, eqb, ltb, length, get_or, Ok, Err}
use Rattle.std.proofs.Math.Path.{refl, ap}
use Rattle.std.proofs.Common.{ap₂, sym, ◌∙◌, subst, inl, add-one}
use Prim.Native.Nat.{ℕ, suc, ◌+◌, ◌-◌, ◌*◌, ◌≤◌, ◌<◌}
use native.Mathlib.Omega.{arith}
use borrow.Author.Tests.{eqb-true, eqb-false, ne_eqb, ltb-true, ltb-false}
use Rattle.number_columns.specs.Column.{pick}
use Rattle.sheet.specs.Line.{Line}
use Rattle.sheet.proofs.ListLaws.{Every, get_or_within}
use Rattle.model.specs.Resolve.{Result}
use Rattle.meaning.specs.Program.{field_line}
use Rattle.meaning.specs.Rows.{count_of}
use Rattle.table_access.specs.Tables.{decls_of, first_of}
use Rattle.keep_layouts.specs.Kept.{body_kind, body_last, field_type}
use Rattle.erasure_laws.specs.BodiesLaws.{field_types, last_types, first_le}
use Rattle.resolve_outcomes.specs.Leads.{Leads}
use Rattle.resolve_outcomes.proofs.Laws.Answer.{answer_value}
use Rattle.resolve_memory.specs.Slots.{Slots}
use Rattle.keep_layouts.specs.States.{state, body_of, kept_types, resolves_of}
use Rattle.resolve_laws.specs.Resolver.{Place, fuel_of, call_of, type_of_decl, Found}
use Rattle.resolve_faults.specs.Faults.{Kept, Fine, Answers, clear, stops, goes, Went, AllFine, Firstly}

-- what the resolution found of one type
module _ (ls : List Line) (u : List ℕ) (d y : ℕ) (out out' slots' : List ℕ) (r : ℕ)
    (f : Found (type_of_decl ls u d y) (fuel_of ls) 0 0 out out' (call_of ls u) slots' r) where
  found_fine : 4 ≤ r → Fine (type_of_decl ls u d y)
  found_fine h =
      record {
        outcome = r;
        value = h;
        gives = λ j. subst (λ (x : Result ℕ). Leads (type_of_decl ls u d y j) x) (answer_value r r h) (f.told.knows (omega arith) j);
      }

  module _ (room : ℕ) (long : length out ≡ room) where
    pub found_stops : (ys : List ℕ) → r < 4 → Answers ls u d room (y ∷ ys) r
    found_stops ys h = stops h (record { unfuelled = f.told.unfuelled; short = λ z. omega (arith, f.told.short z); knows = f.told.knows })

    -- one type is all
    pub found_one : Went ls u d room (y ∷ []) r slots'
    found_one = record { answers = go (ltb r 4) refl; slots_right = f.slots }
      where
        go : (c : Bool) → ltb r 4 ≡ c → Answers ls u d room (y ∷ []) r
        go true e = found_stops [] (ltb-true r 4 e)
        go false e = let l : 4 ≤ r = ltb-false r 4 e in goes (found_fine l) (clear l)

pub went_none : (ls : List Line) (u : List ℕ) (d room : ℕ) (slots : List ℕ) → Slots (call_of ls u) slots → Went ls u d room [] 4 slots
went_none ls u d room slots h = record { answers = clear {r = 4} (omega arith); slots_right = h }

-- ---- fields
-- what is answered for the F lines from line f on is answered for those from line `from` on
pub record Rest (ls : List Line) (u keep : List ℕ) (d room from f end : ℕ) : Type 0 where
  pub goes_on : (r : ℕ) → Answers ls u d room (kept_types ls keep f (end - f)) r → Answers ls u d room (kept_types ls keep from (end - from)) r

pub rest_all : (ls : List Line) (u keep : List ℕ) (d room from end : ℕ) → Rest ls u keep d room from from end
rest_all ls u keep d room from end = record { goes_on = λ r a. a }

module _ (ls : List Line) (u keep : List ℕ) (d room from f end : ℕ) (h : f < end) where
  kept_next : kept_types ls keep f (end - f) ≡ pick (eqb (get_or keep f 0) 1) (field_type ls f ∷ kept_types ls keep (f + 1) (end - (f + 1))) (kept_types ls keep (f + 1) (end - (f + 1)))
  unfolding kept_types
  kept_next =
      let e : end - f ≡ suc (end - (f + 1)) = omega arith in
      ap (kept_types ls keep f) e ∙ rw (add-one f) refl

  kept_yes : get_or keep f 0 ≡ 1 → kept_types ls keep f (end - f) ≡ field_type ls f ∷ kept_types ls keep (f + 1) (end - (f + 1))
  kept_yes e = kept_next ∙ rw e refl

  kept_no : (get_or keep f 0 ≡ 1 → ⊥) → kept_types ls keep f (end - f) ≡ kept_types ls keep (f + 1) (end - (f + 1))
  kept_no e = kept_next ∙ rw (ne_eqb (get_or keep f 0) 1 e) refl

  module _ (rest : Rest ls u keep d room from f end) where
    pub rest_skip : (get_or keep f 0 ≡ 1 → ⊥) → Rest ls u keep d room from (f + 1) end
    rest_skip e = record { goes_on = λ r a. rest.goes_on r (subst (λ (ys : List ℕ). Answers ls u d room ys r) (sym (kept_no e)) a) }

    module _ (y : ℕ) (ey : y ≡ field_type ls f) (out out' slots' : List ℕ) (r : ℕ) (f' : Found (type_of_decl ls u d y) (fuel_of ls) 0 0 out out' (call_of ls u) slots' r)
        (kept : get_or keep f 0 ≡ 1) where
      listed : kept_types ls keep f (end - f) ≡ y ∷ kept_types ls keep (f + 1) (end - (f + 1))
      listed = kept_yes kept ∙ ap (λ (x : ℕ). x ∷ kept_types ls keep (f + 1) (end - (f + 1))) (sym ey)

      pub rest_stops : length out ≡ room → r < 4 → Went ls u d room (kept_types ls keep from (end - from)) r slots'
      rest_stops l q =
          record {
            answers = rest.goes_on r (subst (λ (ys : List ℕ). Answers ls u d room ys r) (sym listed) (found_stops ls u d y out out' slots' r f' room l (kept_types ls keep (f + 1) (end - (f + 1))) q));
            slots_right = f'.slots;
          }

      pub rest_next : 4 ≤ r → Rest ls u keep d room from (f + 1) end
      rest_next q = record { goes_on = λ x a. rest.goes_on x (subst (λ (ys : List ℕ). Answers ls u d room ys x) (sym listed) (goes (found_fine ls u d y out out' slots' r f' q) a)) }

-- none is left
pub rest_none : (ls : List Line) (u keep : List ℕ) (d room from f end : ℕ) (slots : List ℕ) → end ≤ f → Rest ls u keep d room from f end → Slots (call_of ls u) slots → Went ls u d room (kept_types ls keep from (end - from)) 4 slots
unfolding kept_types
rest_none ls u keep d room from f end slots h rest held =
    let e : end - f ≡ 0 = omega arith in
    record { answers = rest.goes_on 4 (subst (λ (n : ℕ). Answers ls u d room (kept_types ls keep f n) 4) (sym e) (clear {r = 4} (omega arith))); slots_right = held }

-- ---- a declaration
module _ (ls : List Line) (u keep : List ℕ) (d : ℕ) where
  pub resolves_gone : state u d ≡ 0 → resolves_of ls u keep d ≡ []
  unfolding resolves_of
  resolves_gone e = rw e refl

  pub resolves_payload : state u d ≡ 1 → resolves_of ls u keep d ≡ body_of u d ∷ []
  unfolding resolves_of
  resolves_payload e = rw e refl

  module _ (n0 : state u d ≡ 0 → ⊥) (n1 : state u d ≡ 1 → ⊥) where
    pub resolves_abstract : body_kind ls d ≡ 0 → resolves_of ls u keep d ≡ []
    unfolding resolves_of
    resolves_abstract e = rw (ne_eqb (state u d) 0 n0, ne_eqb (state u d) 1 n1, e) refl

    pub resolves_abbrev : body_kind ls d ≡ 1 → resolves_of ls u keep d ≡ body_last ls d ∷ []
    unfolding resolves_of
    resolves_abbrev e = rw (ne_eqb (state u d) 0 n0, ne_eqb (state u d) 1 n1, e) refl

    pub resolves_fields : (body_kind ls d ≡ 0 → ⊥) → (body_kind ls d ≡ 1 → ⊥) → resolves_of ls u keep d ≡ kept_types ls keep (first_of field_line ls d) (first_of field_line ls (d + 1) - first_of field_line ls d)
    unfolding resolves_of
    resolves_fields k0 k1 = rw (ne_eqb (state u d) 0 n0, ne_eqb (state u d) 1 n1, ne_eqb (body_kind ls d) 0 k0, ne_eqb (body_kind ls d) 1 k1) refl

pub went_same : (ls : List Line) (u : List ℕ) (d room : ℕ) (xs ys : List ℕ) (r : ℕ) (slots : List ℕ) → xs ≡ ys → Went ls u d room ys r slots → Went ls u d room xs r slots
went_same ls u d room xs ys r slots e w = subst (λ (zs : List ℕ). Went ls u d room zs r slots) (sym e) w

-- ---- declarations
pub answers_fine : (ls : List Line) (u : List ℕ) (d room : ℕ) (ys : List ℕ) (r : ℕ) → 4 ≤ r → Answers ls u d room ys r → Every (λ y. Fine (type_of_decl ls u d y)) ys
answers_fine ls u d room [] r h (clear q) = tt
answers_fine ls u d room (y ∷ ys) r h (stops q t) = absurd (omega arith)
answers_fine ls u d room (y ∷ ys) r h (goes q a) = (q, answers_fine ls u d room ys r h a)

pub fine_none : (ls : List Line) (u keep : List ℕ) → (d : ℕ) → d < 0 → AllFine ls u keep d
fine_none ls u keep d h = absurd (omega arith)

pub fine_more : (ls : List Line) (u keep : List ℕ) (d room r : ℕ) (slots : List ℕ) → ((i : ℕ) → i < d → AllFine ls u keep i) → Went ls u d room (resolves_of ls u keep d) r slots → 4 ≤ r
    → (i : ℕ) → i < d + 1 → AllFine ls u keep i
fine_more ls u keep d room r slots f w h i q = go (eqb i d) refl
  where
    go : (c : Bool) → eqb i d ≡ c → AllFine ls u keep i
    go true e = subst (λ (x : ℕ). AllFine ls u keep x) (sym (eqb-true i d e)) (answers_fine ls u d room (resolves_of ls u keep d) r h w.answers)
    go false e = f i (omega (arith, eqb-false i d e))

pub first_stops : (ls : List Line) (u keep : List ℕ) (room room₀ d r : ℕ) (slots : List ℕ) → room ≡ room₀ → ((i : ℕ) → i < d → AllFine ls u keep i) → d < decls_of ls
    → Went ls u d room (resolves_of ls u keep d) r slots → r < 4 → Firstly ls u keep room₀ (Err (record { answer = r; decl = d }))
first_stops ls u keep room room₀ d r slots e f l w h =
    record { fine = f; inside = l; below = h; stops = subst (λ (n : ℕ). Answers ls u d n (resolves_of ls u keep d) r) e w.answers }

pub first_clear : (ls : List Line) (u keep : List ℕ) (room d n : ℕ) → n ≡ decls_of ls → d ≡ n → ((i : ℕ) → i < d → AllFine ls u keep i) → Firstly ls u keep room (Ok tt)
first_clear ls u keep room d n e q f = λ i h. f i (omega arith)

-- ---- for the code
module _ (ls : List Line) (t u keep : List ℕ) (kept : Kept ls t u keep) (d : ℕ) (h : d < decls_of ls) where
  pub field_place : (f y : ℕ) → f < count_of field_line ls → y ≡ field_type ls f → Place ls t u y d
  field_place f y l e =
      record { setup = kept.setup; type = omega (arith, field_types ls kept.setup.tabled.passed f l); decl = h }

  -- the cell that the code reads
  abbrev cell : ℕ
  cell = get_or u (2 * d) 0

  pub cells_inside : 2 * d + 1 < length u
  cells_inside = omega (arith, kept.setup.states.long)

  state_is : state u d ≡ cell
  state_is = get_or_within u (2 * d) 3 0 (omega (arith, cells_inside))

  pub decl_gone : (room : ℕ) (slots : List ℕ) → cell ≡ 0 → Slots (call_of ls u) slots → Went ls u d room (resolves_of ls u keep d) 4 slots
  decl_gone room slots e held = went_same ls u d room (resolves_of ls u keep d) [] 4 slots (resolves_gone ls u keep d (state_is ∙ e)) (went_none ls u d room slots held)

  pub payload_place : cell ≡ 1 → Place ls t u (body_of u d) d
  payload_place e = record { setup = kept.setup; type = kept.setup.states.bodies d h (inl (state_is ∙ e)); decl = h }

  pub decl_payload : cell ≡ 1 → (out out' slots' : List ℕ) (r : ℕ) → Found (type_of_decl ls u d (body_of u d)) (fuel_of ls) 0 0 out out' (call_of ls u) slots' r → Went ls u d (length out) (resolves_of ls u keep d) r slots'
  decl_payload e out out' slots' r f =
      went_same ls u d (length out) (resolves_of ls u keep d) (body_of u d ∷ []) r slots' (resolves_payload ls u keep d (state_is ∙ e)) (found_one ls u d (body_of u d) out out' slots' r f (length out) refl)

  module _ (n0 : cell ≡ 0 → ⊥) (n1 : cell ≡ 1 → ⊥) (kind : ℕ) (ek : kind ≡ body_kind ls d) where
    s0 : state u d ≡ 0 → ⊥
    s0 e = n0 (sym state_is ∙ e)

    s1 : state u d ≡ 1 → ⊥
    s1 e = n1 (sym state_is ∙ e)

    pub decl_abstract : (room : ℕ) (slots : List ℕ) → kind ≡ 0 → Slots (call_of ls u) slots → Went ls u d room (resolves_of ls u keep d) 4 slots
    decl_abstract room slots e held = went_same ls u d room (resolves_of ls u keep d) [] 4 slots (resolves_abstract ls u keep d s0 s1 (sym ek ∙ e)) (went_none ls u d room slots held)

    pub abbrev_place : kind ≡ 1 → (y : ℕ) → y ≡ body_last ls d → Place ls t u y d
    abbrev_place e y q = record { setup = kept.setup; type = omega (arith, last_types ls kept.setup.tabled.passed d h (sym ek ∙ e)); decl = h }

    pub decl_abbrev : kind ≡ 1 → (y : ℕ) → y ≡ body_last ls d → (out out' slots' : List ℕ) (r : ℕ) → Found (type_of_decl ls u d y) (fuel_of ls) 0 0 out out' (call_of ls u) slots' r → Went ls u d (length out) (resolves_of ls u keep d) r slots'
    decl_abbrev e y q out out' slots' r f =
        went_same ls u d (length out) (resolves_of ls u keep d) (y ∷ []) r slots' (resolves_abbrev ls u keep d s0 s1 (sym ek ∙ e) ∙ ap (λ (x : ℕ). x ∷ []) (sym q)) (found_one ls u d y out out' slots' r f (length out) refl)

    pub decl_fields : (kind ≡ 0 → ⊥) → (kind ≡ 1 → ⊥) → (from end : ℕ) → from ≡ first_of field_line ls d → end ≡ first_of field_line ls (d + 1)
        → (room r : ℕ) (slots : List ℕ) → Went ls u d room (kept_types ls keep from (end - from)) r slots → Went ls u d room (resolves_of ls u keep d) r slots
    decl_fields k0 k1 from end ef ee room r slots w =
        went_same ls u d room (resolves_of ls u keep d) (kept_types ls keep from (end - from)) r slots
        (resolves_fields ls u keep d s0 s1 (λ e. k0 (ek ∙ e)) (λ e. k1 (ek ∙ e)) ∙ ap₂ (λ (x z : ℕ). kept_types ls keep x (z - x)) (sym ef) (sym ee)) w

  pub fields_inside : (end : ℕ) → end ≡ first_of field_line ls (d + 1) → end ≤ count_of field_line ls
  fields_inside end e = omega (arith, first_le field_line ls (d + 1))
