-- `respellings::spelled_before` meets its contract. Assumes nothing.
use Rattle.std.proofs.Common.{◌≡◌, sym, ◌∙◌, ◌-◌, arith}
use Rattle.number_words.specs.Word.{key_of}
use Rattle.meaning.specs.Rows.{equal}
use Rattle.row6_spellings.specs.Spellings.{text_at}
use Rattle.row6_distinct.specs.Keys.{Last, clear_last, clear_next, clear_none, clear_found}
use Rattle.row6_distinct.proofs.respellings.spelled_before.Goals as goal

pub loop-c-init : goal.loop-c-init
loop-c-init c = clear_last c.args.s.now c.args.i c.args.last c.requires.last

pub text-requires : goal.text-requires
text-requires c = omega (arith, c.loop-c.invariant.within, c.requires.i_bound)

pub returns-then-same : goal.returns-then-same
returns-then-same c =
    let s = c.args.s.now in
    let j = c.loop-c.c - 1 in
    let test : equal (text_at 6 s j) (text_at 6 s c.args.i) ≡ c.same.result = sym (c.same.ensures ∙ rw (c.text.ensures, c.text-own.ensures)) in
    sym (clear_found s c.args.i j (omega (arith, c.loop-c.invariant.within)) (test ∙ c.if-same.true))

pub loop-c-smaller : goal.loop-c-smaller
loop-c-smaller c =
    let s = c.args.s.now in
    let j = c.loop-c.c - 1 in
    let next : Last s (key_of (text_at 6 s j)) j c.from-c.result = rw c.from-c.ensures (c.requires.befores.held j (omega (arith, c.loop-c.invariant.within))) in
    omega (arith, next.within)

pub loop-c-preserved : goal.loop-c-preserved
loop-c-preserved c =
    let s = c.args.s.now in
    let j = c.loop-c.c - 1 in
    let test : equal (text_at 6 s j) (text_at 6 s c.args.i) ≡ c.same.result = sym (c.same.ensures ∙ rw (c.text.ensures, c.text-own.ensures)) in
    let next : Last s (key_of (text_at 6 s j)) j c.from-c.result = rw c.from-c.ensures (c.requires.befores.held j (omega (arith, c.loop-c.invariant.within))) in
    clear_next s c.args.i c.loop-c.c j c.from-c.result (omega arith) (test ∙ c.if-same.false) next c.loop-c.invariant

pub returns : goal.returns
returns c = sym (clear_none c.args.s.now c.args.i c.loop-c.c (omega arith) c.loop-c.invariant)
