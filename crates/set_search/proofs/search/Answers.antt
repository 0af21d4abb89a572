-- `set_search::search` meets its contract: `TurnLaws` says what holds in its loops.
use Rattle.std.proofs.Common.{refl, arith}
use Rattle.set_search.specs.TurnLaws.{outer_begin, outer_end, outer_row, outer_place, outer_in, outer_twice, outer_node, outer_next, outer_less, inner_next, inner_twice, inner_small, inner_in, inner_less, inner_found, inner_more, inner_done}
use Rattle.set_search.proofs.search.Goals as goal

pub loop-head-init : goal.loop-head-init
loop-head-init c =
    let p = c.requires in
    rw c.clear.ensures (outer_begin _ _ _ _ _ _ p.steps p.start_lt_n p.words_in_bounds p.n_in_bounds)

pub offset_bounds-queue-head : goal.offset_bounds-queue-head
offset_bounds-queue-head c = record { fits = outer_twice _ _ _ _ _ _ _ _ c.loop-head.invariant (omega arith) }

pub bounds-queue-head : goal.bounds-queue-head
bounds-queue-head c = outer_in _ _ _ _ _ _ _ _ c.loop-head.invariant (omega arith)

pub overflow_cast-node : goal.overflow_cast-node
overflow_cast-node c = record { fits = outer_node _ _ _ _ _ _ _ _ c.loop-head.invariant (omega arith) }

pub overflow_mul-row : goal.overflow_mul-row
overflow_mul-row c = record { fits = outer_place _ _ _ _ _ _ _ _ c.loop-head.invariant (omega arith) }

pub first_outside-name-requires-clause-words_in_bounds :
    goal.first_outside-name-requires-clause-words_in_bounds
first_outside-name-requires-clause-words_in_bounds c = outer_row _ _ _ _ _ _ _ _ c.loop-head.invariant (omega arith)

pub loop-name-init : goal.loop-name-init
loop-name-init c =
    record { outer = c.loop-head.invariant; inside = omega arith; entry = refl; at = refl; is = c.first_outside-name.ensures }

pub returns-then-name-start : goal.returns-then-name-start
returns-then-name-start c = inner_found _ _ _ _ _ _ _ _ _ _ _ c.loop-name.invariant (omega arith) c.if-name-start.true

pub overflow_add-last : goal.overflow_add-last
overflow_add-last c = record { fits = inner_next _ _ _ _ _ _ _ _ _ _ _ c.loop-name.invariant }

pub overflow_cast-queue-in-loop-name : goal.overflow_cast-queue-in-loop-name
overflow_cast-queue-in-loop-name c = record { fits = inner_small _ _ _ _ _ _ _ _ _ _ _ c.loop-name.invariant (omega arith) }

pub offset_bounds-queue-last : goal.offset_bounds-queue-last
offset_bounds-queue-last c = record { fits = inner_twice _ _ _ _ _ _ _ _ _ _ _ c.loop-name.invariant }

pub bounds-queue-last : goal.bounds-queue-last
bounds-queue-last c = inner_in _ _ _ _ _ _ _ _ _ _ _ c.loop-name.invariant (omega arith) c.if-name-start.false

pub first_outside-name-requires-in-loop-name-clause-words_in_bounds :
    goal.first_outside-name-requires-in-loop-name-clause-words_in_bounds
first_outside-name-requires-in-loop-name-clause-words_in_bounds c =
    outer_row _ _ _ _ _ _ _ _ c.loop-head.invariant (omega arith)

pub loop-name-smaller : goal.loop-name-smaller
loop-name-smaller c = inner_less _ _ _ _ _ _ _ _ _ _ _ c.loop-name.invariant

pub loop-name-preserved : goal.loop-name-preserved
loop-name-preserved c =
    let e = c.insert.ensures in
    rw e (inner_more _ _ _ _ _ _ _ _ _ _ _ c.loop-name.invariant (omega arith) c.if-name-start.false _ (rw e at c.first_outside-name-in-loop-name.ensures))

pub overflow_add-head : goal.overflow_add-head
overflow_add-head c = record { fits = outer_next _ _ _ _ _ _ _ _ c.loop-head.invariant (omega arith) }

pub loop-head-smaller : goal.loop-head-smaller
loop-head-smaller c = outer_less _ _ _ _ _ _ _ _ c.loop-head.invariant (omega arith)

pub loop-head-preserved : goal.loop-head-preserved
loop-head-preserved c = inner_done _ _ _ _ _ _ _ _ _ _ _ c.loop-name.invariant (omega arith)

pub returns-after-loop-head : goal.returns-after-loop-head
returns-after-loop-head c = outer_end _ _ _ _ _ _ _ _ c.loop-head.invariant (omega arith)
