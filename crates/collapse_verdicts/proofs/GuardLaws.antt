-- The guard's steps are the names in what it goes on through. Assumes nothing.
use Rattle.std.specs.Prelude.{◌≡◌, Bool, ℕ, ◌*◌, ◌≤◌, ltb, length, get_or}
use Rattle.std.proofs.Math.Path.{refl, ap}
use Rattle.std.proofs.Common.{◌∙◌}
use mathlib.Core.List.{List, []}
use Rattle.std.proofs.Math.Bool.{true, false}
use Rattle.std.proofs.Math.Option.{none, some}
use Rattle.number_columns.specs.Column.{pick}
use Rattle.sheet.specs.Line.{Line}
use Rattle.model.specs.Decl.{close}
use Rattle.model.specs.Erasure.{erasure_fixpoint}
use Rattle.model.specs.Layout.{passes_of, positions, names_in, type_names, steps, guard_next, dropped}
use Rattle.model_laws.specs.Cty.{close_names}
use Rattle.model_laws.specs.Layout.{guard_below}
use Rattle.meaning.specs.Program.{type_line, program}
use Rattle.meaning.specs.Rows.{count_of}
use Rattle.meaning_laws.specs.Program.{length_program}
use Rattle.table_access.specs.Tables.{decls_of}
use Rattle.resolve_kids.specs.Nodes.{type_of}
use Rattle.resolve_kids.specs.Params.{params_of}
use Rattle.mention_types.specs.Mentions.{Mentioned}
use Rattle.set_search.specs.Search.{Steps}
use Rattle.set_search.specs.Search as search
use Rattle.set_search.specs.SearchLaws.{Holds, holds_steps}
use Rattle.set_search.specs.Loops.{mark, Looped}
use Rattle.set_search.specs.LoopsLaws.{looped_as}
use Rattle.mention_edges.specs.Edges.{Edges}
use Rattle.mention_edges.specs.EdgesLaws.{Bodies, edges_hold}
use Rattle.collapse_candidates.specs.Candidates.{no_field, Fields}
use Rattle.collapse_passes.specs.Passes.{body_told, Passes}
use Rattle.collapse_verdicts.specs.Guard.{next_of, Guarded}

module _ (ls : List Line) where
  -- the names of a type are those of the type closed
  step_names : (d y : ℕ) → type_names (program ls) (body_told ls d y) ≡ pick (ltb y (count_of type_line ls)) (names_in (program ls) (type_of ls y)) []
  unfolding type_names body_told
  step_names d y = go (ltb y (count_of type_line ls))
    where
      go : (c : Bool) → type_names (program ls) (pick c (some (close (params_of ls d) (type_of ls y))) none) ≡ pick c (names_in (program ls) (type_of ls y)) []
      go true = ap (positions (program ls)) (close_names (params_of ls d) (type_of ls y))
      go false = refl

  -- The guard goes on from each declaration to the names in its type.
  guard_bodies : (bodies : List ℕ) → Passes ls bodies → Bodies ls bodies (next_of ls) (decls_of ls)
  unfolding guard_next steps
  guard_bodies bodies p =
      record {
        within = λ a b m. rw (length_program ls) at (guard_below (program ls) (passes_of (program ls) (erasure_fixpoint (program ls)).marks) a b m);
        body = λ d h. ap (type_names (program ls)) (p.each d h) ∙ step_names d (get_or bodies d 0);
      }

  module _ (words : ℕ) (sets fields bodies s t : List ℕ) (y : ℕ) (few : words ≤ 1024) (long : decls_of ls * words ≤ length s) (m : Mentioned ls words sets (count_of type_line ls)) (f : Fields ls fields) (p : Passes ls bodies) (q : y ≡ count_of type_line ls)
      (e : Edges words y sets bodies (length bodies) s t) where
    -- so the table of steps holds them,
    holds : Holds (next_of ls) (length fields) words t
    holds =
        rw f.long
        (edges_hold ls words sets bodies s t (next_of ls) (decls_of ls) few m.wide long m (rw (q, p.long) at e) (guard_bodies bodies p))

    pub guard_steps : Steps (length fields) words t
    guard_steps = holds_steps (next_of ls) (length fields) words t holds

    -- and the search in it tells what is dropped
    pub guarded : (u v : List ℕ) → Looped (search.steps (length fields) words t) fields no_field (length fields) u v → Guarded ls fields v
    unfolding dropped mark
    guarded u v l =
        let r = looped_as (next_of ls) fields no_field words t holds u v l in
        record { each = λ d h. rw (length_program ls) (rw f.long at (r.marked d (rw f.long h))) }
