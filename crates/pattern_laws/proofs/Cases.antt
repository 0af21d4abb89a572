-- The tests of the rewriting line by line: owners, marks and flags of small sheets, and what they give, in tables under a
-- claim each. Assumes nothing.
use Rattle.std.specs.Prelude.{refl, List, [], ◌∷◌, ◌++◌, map, ℕ, suc}
use Rattle.sheet.specs.Line.{Line}
use Rattle.model.specs.Decl.{table}
use Rattle.model.proofs.Cases.{Case, ◌gives◌, Passed}
use Rattle.model_patterns.specs.Pat.{PWild, PVar, part_fields, named, names_one, pat_vars, Rewritten}
use Rattle.model_patterns.proofs.Cases.{list, ctor_pat, record_pat, entries, ◌≔◌, tuple, ◌frees◌, gone, E, wrap, W, sum, A, B, rec, void, short, M, hidden, O, far, K, f, g, h, u, v, x, y, z, owner, layout}
use Rattle.meaning_patterns.specs.Patterns.{list_to, and_last, pattern_of, piece, pieces_after}
use Rattle.meaning_patterns.proofs.Cases.{Q, example_2}
use Rattle.pattern_laws.specs.Made.{made_to, only, become, made, mades_after, made_of}
use Rattle.pattern_laws.specs.Marks.{ctor_mark, record_mark, has_field, ctor_flag, record_flag, claim, owners_from, owners_of, mark_of, flag_of, flag_by, flag_at, marks_of, flags_of}

-- ---- what is tested
unfoldable pub owners : List Line → List ℕ
unfolding owners_of owners_from claim
owners = owners_of

unfoldable pub marks : List Line → List ℕ
unfolding marks_of mark_of ctor_mark record_mark owner layout
marks = marks_of owner layout

unfoldable pub flags : List Line → List ℕ
unfolding flags_of flag_at flag_by flag_of ctor_flag record_flag has_field owners table pieces_after piece list_to and_last pattern_of part_fields named names_one owner layout
flags = flags_of owner layout

-- by these marks and flags, or by others
unfoldable pub makes : List ℕ → List ℕ → List Line → Rewritten
unfolding made_of mades_after made made_to become only pattern_of and_last pat_vars
makes = made_of

unfoldable pub gives_back : List Line → Rewritten
unfolding makes marks flags
gives_back qs = makes (marks qs) (flags qs) qs

-- ---- sheets
-- three parts and the line that owns them; the same with fields
abbrev pub of_three : ℕ → ℕ → List Line
of_three kind n = Q 1 x 0 0 0 ∷ Q 1 y 0 1 0 ∷ Q 1 z 0 2 0 ∷ Q kind n 3 0 0 ∷ []

abbrev pub with_fields : ℕ → ℕ → ℕ → ℕ → List Line
with_fields n a b c = Q 1 x 0 0 (suc a) ∷ Q 1 y 0 1 (suc b) ∷ Q 1 z 0 2 (suc c) ∷ Q 4 n 3 0 0 ∷ []

-- ---- owners
-- A line's owner is the line of whose list it is a part: its number plus one, or 0 where it is a part of none.
unfoldable pub owner_cases : List (Case (List ℕ))
unfolding owners
owner_cases =
    owners (of_three 5 0) gives (4 ∷ 4 ∷ 4 ∷ 0 ∷ [])
    ∷ owners example_2 gives (2 ∷ 5 ∷ 4 ∷ 5 ∷ 9 ∷ 9 ∷ 8 ∷ 9 ∷ 0 ∷ [])
    ∷ owners (Q 0 0 0 0 0 ∷ Q 0 0 0 1 0 ∷ Q 0 0 0 0 0 ∷ []) gives (0 ∷ 0 ∷ 0 ∷ [])
    ∷ owners [] gives []
    ∷ []

pub owners_found : Passed owner_cases
unfolding owner_cases
owners_found = refl

-- ---- marks
-- 0 of an erased type, 2 of a newtype, 1 of all else
unfoldable pub mark_cases : List (Case (List ℕ))
unfolding marks
mark_cases =
    map (λ n. marks (of_three 3 n) gives (1 ∷ 1 ∷ 1 ∷ 1 ∷ [])) (A ∷ B ∷ rec ∷ M ∷ O ∷ K ∷ wrap ∷ [])
    ++ map (λ n. marks (of_three 4 n) gives (1 ∷ 1 ∷ 1 ∷ 1 ∷ [])) (rec ∷ sum ∷ void ∷ short ∷ hidden ∷ far ∷ W ∷ [])
    ++ map (λ k. marks (Q k E 0 0 0 ∷ []) gives (1 ∷ [])) (0 ∷ 1 ∷ 2 ∷ 5 ∷ 6 ∷ [])
    ++ (marks (Q 3 E 0 0 0 ∷ Q 4 gone 0 0 0 ∷ Q 3 W 0 0 0 ∷ Q 4 wrap 0 0 0 ∷ []) gives (0 ∷ 0 ∷ 2 ∷ 2 ∷ []) ∷ [])

pub marks_by_layout : Passed mark_cases
unfolding mark_cases
marks_by_layout = refl

-- ---- flags
-- of a constructor by places, and all of a tuple, an or and what is declared nowhere
unfoldable pub place_cases : List (Case (List ℕ))
unfolding flags
place_cases =
    flags (of_three 3 E) gives (0 ∷ 0 ∷ 0 ∷ 0 ∷ [])
    ∷ flags (of_three 3 W) gives (0 ∷ 1 ∷ 0 ∷ 0 ∷ [])
    ∷ flags (of_three 3 A) gives (1 ∷ 0 ∷ 1 ∷ 0 ∷ [])
    ∷ flags (of_three 3 rec) gives (1 ∷ 0 ∷ 1 ∷ 0 ∷ [])
    ∷ flags (of_three 3 M) gives (0 ∷ 1 ∷ 1 ∷ 0 ∷ [])
    ∷ flags (of_three 3 O) gives (0 ∷ 1 ∷ 1 ∷ 0 ∷ [])
    ∷ flags (of_three 3 B) gives (1 ∷ 1 ∷ 1 ∷ 0 ∷ [])
    ∷ flags (of_three 3 K) gives (1 ∷ 1 ∷ 1 ∷ 0 ∷ [])
    ∷ flags (of_three 5 0) gives (1 ∷ 1 ∷ 1 ∷ 0 ∷ [])
    ∷ flags (of_three 6 0) gives (1 ∷ 1 ∷ 1 ∷ 0 ∷ [])
    ∷ []

pub flags_by_place : Passed place_cases
unfolding place_cases
flags_by_place = refl

-- of a record by names: the first part of a newtype's kept field is kept, and a second is lost
unfoldable pub name_cases : List (Case (List ℕ))
unfolding flags
name_cases =
    flags (with_fields gone f g h) gives (0 ∷ 0 ∷ 0 ∷ 0 ∷ [])
    ∷ flags (with_fields rec f g h) gives (1 ∷ 0 ∷ 1 ∷ 0 ∷ [])
    ∷ flags (with_fields rec g far f) gives (0 ∷ 0 ∷ 1 ∷ 0 ∷ [])
    ∷ flags (with_fields wrap f g h) gives (0 ∷ 1 ∷ 0 ∷ 0 ∷ [])
    ∷ flags (with_fields wrap g f g) gives (1 ∷ 0 ∷ 2 ∷ 0 ∷ [])
    ∷ flags (with_fields wrap g g g) gives (1 ∷ 2 ∷ 2 ∷ 0 ∷ [])
    ∷ flags (with_fields wrap f h f) gives (0 ∷ 0 ∷ 0 ∷ 0 ∷ [])
    ∷ map (λ n. flags (with_fields n f g h) gives (1 ∷ 1 ∷ 1 ∷ 0 ∷ [])) (sum ∷ void ∷ short ∷ hidden ∷ far ∷ W ∷ [])

pub flags_by_name : Passed name_cases
unfolding name_cases
flags_by_name = refl

-- parts of nothing are dropped, and each list goes by its own owner
unfoldable pub list_cases : List (Case (List ℕ))
unfolding flags
list_cases =
    flags (Q 0 0 0 0 0 ∷ Q 0 0 0 1 0 ∷ Q 0 0 0 0 0 ∷ []) gives (0 ∷ 0 ∷ 0 ∷ [])
    ∷ flags (Q 1 x 0 0 0 ∷ Q 1 u 0 0 0 ∷ Q 1 y 0 2 0 ∷ Q 1 v 0 3 0 ∷ Q 3 W 4 1 0 ∷ Q 1 z 0 5 0 ∷ Q 3 A 6 0 0 ∷ [])
    gives (1 ∷ 0 ∷ 1 ∷ 0 ∷ 0 ∷ 1 ∷ 0 ∷ [])
    ∷ []

pub flags_by_owner : Passed list_cases
unfolding list_cases
flags_by_owner = refl

-- ---- what is made
-- by marks and flags: a wild card, the same kind over the kept parts, and the part that is kept; what is freed
unfoldable pub made_cases : List (Case Rewritten)
unfolding makes list
made_cases =
    makes (1 ∷ 1 ∷ 1 ∷ 0 ∷ []) (0 ∷ 0 ∷ 0 ∷ 0 ∷ []) (of_three 3 K) gives PWild frees (x ∷ y ∷ z ∷ [])
    ∷ makes (1 ∷ 1 ∷ 1 ∷ 1 ∷ []) (1 ∷ 0 ∷ 1 ∷ 0 ∷ []) (of_three 3 K) gives ctor_pat K (PVar x ∷ PVar z ∷ []) frees (y ∷ [])
    ∷ makes (1 ∷ 1 ∷ 1 ∷ 2 ∷ []) (0 ∷ 1 ∷ 0 ∷ 0 ∷ []) (of_three 3 K) gives PVar y frees (x ∷ z ∷ [])
    ∷ makes (1 ∷ 1 ∷ 1 ∷ 2 ∷ []) (0 ∷ 0 ∷ 0 ∷ 0 ∷ []) (of_three 3 K) gives PWild frees (x ∷ y ∷ z ∷ [])
    ∷ makes (1 ∷ 1 ∷ 1 ∷ 2 ∷ []) (1 ∷ 0 ∷ 2 ∷ 0 ∷ []) (of_three 3 K) gives PVar x frees (y ∷ [])
    ∷ []

pub made_by_marks : Passed made_cases
unfolding made_cases
made_by_marks = refl

-- What is freed inside parts comes first, in their order, then the names of dropped parts; a name freed inside a dropped
-- part is no longer in it.
unfoldable pub order_cases : List (Case Rewritten)
unfolding gives_back list entries
order_cases =
    gives_back (Q 1 x 0 0 0 ∷ Q 1 y 0 1 0 ∷ Q 1 z 0 0 0 ∷ Q 3 E 3 2 0 ∷ Q 3 A 4 0 0 ∷ [])
    gives ctor_pat A (PVar x ∷ PWild ∷ []) frees (z ∷ y ∷ [])
    ∷ gives_back (Q 1 x 0 0 0 ∷ Q 1 y 0 0 0 ∷ Q 1 u 0 0 0 ∷ Q 3 E 3 2 0 ∷ Q 5 0 4 1 0 ∷ Q 1 z 0 5 0 ∷ Q 3 A 6 0 0 ∷ [])
    gives ctor_pat A (PVar x ∷ PVar z ∷ []) frees (u ∷ y ∷ [])
    ∷ gives_back (Q 1 x 0 0 0 ∷ Q 1 u 0 0 0 ∷ Q 1 y 0 2 0 ∷ Q 1 v 0 3 0 ∷ Q 3 W 4 1 0 ∷ Q 1 z 0 5 0 ∷ Q 3 A 6 0 0 ∷ [])
    gives ctor_pat A (PVar x ∷ PVar z ∷ []) frees (u ∷ v ∷ y ∷ [])
    ∷ gives_back (with_fields wrap g f g) gives PVar x frees (y ∷ [])
    ∷ gives_back (with_fields rec h g f) gives record_pat rec (h ≔ PVar x ∷ f ≔ PVar z ∷ []) frees (y ∷ [])
    ∷ gives_back (Q 1 x 0 0 0 ∷ Q 3 E 1 0 0 ∷ Q 1 y 0 0 0 ∷ Q 3 E 3 2 0 ∷ Q 5 0 4 0 0 ∷ [])
    gives tuple (PWild ∷ PWild ∷ []) frees (x ∷ y ∷ [])
    ∷ gives_back (of_three 5 0) gives tuple (PVar x ∷ PVar y ∷ PVar z ∷ []) frees []
    ∷ []

pub freed_inside_first : Passed order_cases
unfolding order_cases
freed_inside_first = refl
