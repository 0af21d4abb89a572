-- From the answers of the search to the faults of rows 9 and 10. Assumes nothing.
use Rattle.std.proofs.Math.Path.{◌≡◌, refl, ap}
use Rattle.std.proofs.Common.{sym, ◌∙◌, subst, ⊎_elim, arith, eqb-true}
use mathlib.Core.List.{List, [], ◌∷◌, map}
use Rattle.std.specs.Prelude.{Bool, true, false, ℕ, zero, suc, ◌*◌, ◌≤◌, ◌<◌, eqb, get_or, replicate, Ok, Err}
use Rattle.std.proofs.lemmas.Bool.{eqb-false}
use Rattle.number_columns.specs.Column.{pick, ◌⇒◌∥◌}
use Rattle.sheet.specs.Format.{base}
use Rattle.sheet.specs.Line.{Line}
use Rattle.sheet.proofs.ListLaws.{Every}
use Rattle.model.specs.Cty.{Cty}
use Rattle.model.specs.Decl.{Decl, close}
use Rattle.model.specs.Resolve.{Result, ok, fault, spent, resolve_checked}
use Rattle.model.specs.Run.{lay, fault_code, decl_fault}
use Rattle.model_laws.specs.Resolve.{Unspent}
use Rattle.meaning.specs.Program.{program}
use Rattle.meaning_laws.specs.Program.{length_program}
use Rattle.table_declared.specs.PassedLaws.{decls_within}
use Rattle.model_laws.specs.Fuel.{NoReturn, fuel_unspent}
use Rattle.table_access.specs.Tables.{decls_of}
use Rattle.resolve_kids.specs.Nodes.{type_of}
use Rattle.resolve_kids.specs.Params.{params_of}
use Rattle.resolve_outcomes.specs.Outcome.{outcome, mapped}
use Rattle.resolve_outcomes.specs.Answer.{nine, answer, Told}
use Rattle.resolve_outcomes.specs.Leads.{Leads}
use Rattle.resolve_outcomes.proofs.Laws.Answer.{answer_value, told_known}
use Rattle.resolve_memory.specs.Slots.{Slots, slots_none}
use Rattle.keep_layouts.specs.States.{lay_of, resolves_of}
use Rattle.keep_laws.specs.StatesLaws.{resolves_are}
use Rattle.resolve_laws.specs.Resolver.{type_of_decl, fuel_of}
use Rattle.row9_faults.specs.Closing.{answered_is}
use Rattle.resolve_faults.specs.declared.First.{First}
use Rattle.resolve_faults.specs.Faults.{Kept, Fine, Answers, clear, stops, goes, AllFine, Stopped, Firstly}
use Rattle.row9_faults.specs.Attempts.{Asked, fault_of, Comes, outcome_of}
use Rattle.row9_faults.specs.declared.attempts.Fault.{Fault}
use Rattle.row9_faults.specs.declared.attempts.Fault.TheVariants.{Refused, NoRoom}

-- ---- the first fault of a list of types
module _ (res : Cty → Result Cty) (c : Cty) (cs : List Cty) where
  code_fine : (n : ℕ) → outcome (res c) ≡ ok n → fault_code res (c ∷ cs) ≡ fault_code res cs
  unfolding fault_code mapped
  code_fine n e = go (res c) refl
    where
      go : (q : Result Cty) → res c ≡ q → fault_code res (c ∷ cs) ≡ fault_code res cs
      go (ok t) f = rw f refl
      go (fault x) f = let g : outcome (res c) ≡ fault x = ap outcome f in let z : ◌≡◌ {A = ℕ} 0 1 = cc in absurd (omega arith)
      go spent f = let g : outcome (res c) ≡ spent = ap outcome f in let z : ◌≡◌ {A = ℕ} 0 1 = cc in absurd (omega arith)

  code_fault : (x : ℕ) → outcome (res c) ≡ fault x → fault_code res (c ∷ cs) ≡ x
  unfolding fault_code mapped
  code_fault x e = go (res c) refl
    where
      go : (q : Result Cty) → res c ≡ q → fault_code res (c ∷ cs) ≡ x
      go (ok t) f = let g : outcome (res c) ≡ ok _ = ap outcome f in let z : ◌≡◌ {A = ℕ} 0 1 = cc in absurd (omega arith)
      go (fault y) f = let g : outcome (res c) ≡ fault y = ap outcome f in let z : y ≡ x = cc in rw f z
      go spent f = let g : outcome (res c) ≡ spent = ap outcome f in let z : ◌≡◌ {A = ℕ} 0 1 = cc in absurd (omega arith)

-- ---- what the search says of one declaration
module _ (ls : List Line) (t u keep : List ℕ) (asked : Asked ls t u keep) (d : ℕ) (h : d < decls_of ls) where
  abbrev ds : List Decl
  ds = program ls

  no_return : NoReturn ds
  no_return i l = asked.no_return i (omega (arith, length_program ls))

  -- the fuel of the search is enough, and so is the format's
  unspent_search : (c : Cty) → Unspent (resolve_checked 1024 (lay ds) (fuel_of ls) c)
  unspent_search c = fuel_unspent ds no_return (decls_of ls) (omega (arith, length_program ls)) 1024 c

  unspent_base : (c : Cty) → Unspent (resolve_checked 1024 (lay ds) 100 c)
  unspent_base c = fuel_unspent ds no_return 99 (omega (arith, length_program ls, decls_within base ls asked.bounded)) 1024 c

  -- a type of the declaration, closed, and its resolution
  abbrev type_at : ℕ → Cty
  type_at y = close (params_of ls d) (type_of ls y)

  abbrev res : Cty → Result Cty
  res = resolve_checked 1024 (lay ds) 100

  told_is : (y r : ℕ) → Told (type_of_decl ls u d y) (fuel_of ls) r ⊥ r → (nine ≤ r) × (outcome (res (type_at y)) ≡ answer r r)
  told_is y r t =
      answered_is 1024 (omega arith) (lay ds) (lay_of ls u) asked.settled.names (params_of ls d) (params_of ls d) (type_of ls y) (fuel_of ls) 100 ⊥ r t (λ z. z) (unspent_search (type_at y)) (unspent_base (type_at y))

  fine_is : (y : ℕ) → (f : Fine (type_of_decl ls u d y)) → outcome (res (type_at y)) ≡ ok f.outcome
  fine_is y f =
      (told_is y f.outcome
      (told_known (type_of_decl ls u d y) (fuel_of ls) f.outcome ⊥ f.outcome (omega (arith, f.value)) (λ j. subst (λ (x : Result ℕ). Leads (type_of_decl ls u d y j) x) (sym (answer_value f.outcome f.outcome f.value)) (f.gives j)))
      ).1
      ∙ answer_value f.outcome f.outcome f.value

  all_fine : (ys : List ℕ) → Every (λ y. Fine (type_of_decl ls u d y)) ys → fault_code res (map type_at ys) ≡ 0
  unfolding fault_code
  all_fine [] f = refl
  all_fine (y ∷ ys) f = code_fine res (type_at y) (map type_at ys) f.0.outcome (fine_is y f.0) ∙ all_fine ys f.1

  stop_code : (y r : ℕ) (cs : List Cty) → r < 4 → (r ≡ 1 → ⊥) → Told (type_of_decl ls u d y) (fuel_of ls) r ⊥ r → (2 ≤ r) × (fault_code res (type_at y ∷ cs) ≡ pick (eqb r 2) 9 10)
  unfolding answer
  stop_code y r cs l n t =
      let q = told_is y r t in
      (q.0, code_fault res (type_at y) cs (pick (eqb r 2) 9 10) (q.1 ∙ go (eqb r 2) refl (eqb r 3) refl))
    where
      low : 2 ≤ r
      low = (told_is y r t).0

      go : (x : Bool) → eqb r 2 ≡ x → (z : Bool) → eqb r 3 ≡ z → ◌≡◌ {A = Result ℕ} (x ⇒ fault 9 ∥ z ⇒ fault 10 ∥ ok r) (fault (pick x 9 10))
      go true e z f = refl
      go false e true f = refl
      go false e false f = absurd (omega (arith, eqb-false r 2 e, eqb-false r 3 f, low))

  short : (room : ℕ) (ys : List ℕ) → Answers ls u d room ys 1 → room < 1024 * fuel_of ls
  short room [] (clear q) = absurd (omega arith)
  short room (y ∷ ys) (stops q t) = t.short refl
  short room (y ∷ ys) (goes f a) = short room ys a

  stopped : (room : ℕ) (ys : List ℕ) (r : ℕ) → r < 4 → (r ≡ 1 → ⊥) → Answers ls u d room ys r → (2 ≤ r) × (fault_code res (map type_at ys) ≡ pick (eqb r 2) 9 10)
  stopped room [] r l n (clear q) = absurd (omega arith)
  stopped room (y ∷ ys) r l n (stops q t) =
      stop_code y r (map type_at ys) l n (record { unfuelled = t.unfuelled; short = λ z. absurd (n z); knows = t.knows })
  stopped room (y ∷ ys) r l n (goes f a) =
      let q = stopped room ys r l n a in
      (q.0, code_fine res (type_at y) (map type_at ys) f.outcome (fine_is y f) ∙ q.1)

  fault_is : fault_of ls d ≡ fault_code res (map type_at (resolves_of ls u keep d))
  unfolding decl_fault
  fault_is = ap (fault_code res) (sym (resolves_are ls asked.tabled.passed u keep asked.slotted asked.settled d h))

  pub fine_fault : AllFine ls u keep d → fault_of ls d ≡ 0
  fine_fault f = fault_is ∙ all_fine (resolves_of ls u keep d) f

  pub stopped_fault : (room r : ℕ) → r < 4 → (r ≡ 1 → ⊥) → Answers ls u d room (resolves_of ls u keep d) r → (2 ≤ r) × (fault_of ls d ≡ pick (eqb r 2) 9 10)
  stopped_fault room r l n a = let q = stopped room (resolves_of ls u keep d) r l n a in (q.0, fault_is ∙ q.1)

  pub short_fault : (room : ℕ) → Answers ls u d room (resolves_of ls u keep d) 1 → room < 1024 * fuel_of ls
  short_fault room a = short room (resolves_of ls u keep d) a

-- ---- what an attempt comes to
pub comes_clear : (ls : List Line) (t u keep : List ℕ) → Asked ls t u keep → (room : ℕ) → Firstly ls u keep room (Ok tt) → Comes ls room (Ok tt)
comes_clear ls t u keep asked room f = λ d h. fine_fault ls t u keep asked d h (f d h)

pub comes : (ls : List Line) (t u keep : List ℕ) → Asked ls t u keep → (room : ℕ) (f : First) → Stopped ls u keep room f → Comes ls room (Err (outcome_of f.answer f.decl))
unfolding outcome_of
comes ls t u keep asked room f w = go (eqb f.answer 1) refl
  where
    positive : (x : Bool) → ◌≡◌ {A = ℕ} (pick x 9 10) 0 → ⊥
    positive true q = omega arith
    positive false q = omega arith

    go : (x : Bool) → eqb f.answer 1 ≡ x → Comes ls room (Err (x ⇒ NoRoom ∥ Refused (pick (eqb f.answer 2) 9 10) f.decl))
    go true e =
        let a : f.answer ≡ 1 = eqb-true f.answer 1 e in
        short_fault ls t u keep asked f.decl w.inside room (subst (λ (n : ℕ). Answers ls u f.decl room (resolves_of ls u keep f.decl) n) a w.stops)
    go false e =
        let s = stopped_fault ls t u keep asked f.decl w.inside room f.answer w.below (eqb-false f.answer 1 e) w.stops in
        record {
          inside = w.inside;
          before = λ i q. fine_fault ls t u keep asked i (omega (arith, w.inside)) (w.fine i q);
          is = sym s.1;
          any = positive (eqb f.answer 2);
        }

-- ---- for the code
-- what the search asks
pub asked_kept : (ls : List Line) (t u keep : List ℕ) → Asked ls t u keep → Kept ls t u keep
asked_kept ls t u keep a =
    record {
      setup =
          record {
            tabled = a.tabled;
            states = record { long = a.settled.long; bodies = λ d h e. ⊎_elim (λ q. a.settled.bodies d h (omega arith, omega arith)) (λ q. a.settled.bodies d h (omega arith, omega arith)) e };
          };
      fields = a.fields;
    }

-- an array of zeros has no slot that is used
pub zeros : (n i : ℕ) → ◌≡◌ {A = ℕ} (get_or (replicate n 0) i 0) 0
zeros zero i = refl
zeros (suc n) zero = refl
zeros (suc n) (suc i) = zeros n i

pub slots_zero : (call : ℕ → List ℕ → ℕ → Result ℕ) (n : ℕ) → Slots call (replicate n 0)
slots_zero call n = slots_none call (replicate n 0) (zeros n)

-- an attempt with n places
pub attempted : (ls : List Line) (t u keep : List ℕ) → Asked ls t u keep → (n : ℕ) (f : First) (r : Fault) → Stopped ls u keep n f → r ≡ outcome_of f.answer f.decl → Comes ls n (Err r)
attempted ls t u keep asked n f r w e = subst (λ (x : Fault). Comes ls n (Err x)) (sym e) (comes ls t u keep asked n f w)
