-- `respellings::respelled` meets its contract: the N lines come first. Assumes nothing.
use Rattle.std.proofs.Common.{◌≡◌, refl, ap, sym, ◌∙◌, ◌<◌, ◌/◌, arith, length}
use Rattle.number_words.specs.Word.{key_of}
use Rattle.sheet.specs.Sheet.{first, count, lines}
use Rattle.sheet.proofs.FirstLaws.{first_more, first_found}
use Rattle.row6_spellings.specs.Spellings.{respelled, text_at}
use Rattle.row6_spellings.specs.SpellingsLaws.{name_counted, respelled_at, respelled_none}
use Rattle.row6_distinct.specs.Keys.{Last, lasts_none, befores_none, lasts_more, befores_more, text_at_length, names_few}
use Rattle.row6_distinct.proofs.respellings.respelled.Goals as goal

pub loop-i-init : goal.loop-i-init
unfolding first
loop-i-init c = record { none = refl; lasts = lasts_none c.args.s.now; befores = befores_none c.args.s.now }

pub text-requires : goal.text-requires
text-requires c = name_counted c.args.s.now c.requires.ranged c.loop-i.i (omega (arith, c.requires.names_value))

pub key-k-requires : goal.key-k-requires
key-k-requires c = rw c.text.ensures (text_at_length _ _ (name_counted c.args.s.now c.requires.ranged c.loop-i.i (omega (arith, c.requires.names_value))))

pub spelled_before-requires : goal.spelled_before-requires
spelled_before-requires c =
    let s = c.args.s.now in
    let l = c.loop-i in
    let k = c.key-k in
    let key : k.result ≡ key_of (text_at 6 s l.i) = k.ensures.0 ∙ ap key_of c.text.ensures in
    record {
      i_bound = (name_counted s c.requires.ranged l.i (omega (arith, c.requires.names_value)), omega (arith, c.requires.names_value, names_few s c.requires.ranged));
      last = rw (c.from.ensures, ← key) (l.invariant.lasts.held k.result k.ensures.1);
      befores = l.invariant.befores;
    }

pub returns-then-spelled_before : goal.returns-then-spelled_before
returns-then-spelled_before c =
    let s = c.args.s.now in
    let l = c.loop-i in
    let n : l.i < count 6 s = name_counted s c.requires.ranged l.i (omega (arith, c.requires.names_value)) in
    sym (first_found (respelled (lines 6 s)) (length s / 32) l.i n l.invariant.none (respelled_at s c.requires.ranged l.i (omega (arith, c.requires.names_value)) ∙ sym c.spelled_before.ensures ∙ c.if-spelled_before.true))

pub offset_bounds-before-i : goal.offset_bounds-before-i
offset_bounds-before-i c = omega (arith, c.requires.names_value, names_few c.args.s.now c.requires.ranged)

pub bounds-before-i : goal.bounds-before-i
bounds-before-i c = omega (arith, c.requires.names_value, names_few c.args.s.now c.requires.ranged)

pub overflow_cast-lasts : goal.overflow_cast-lasts
overflow_cast-lasts c = omega (arith, c.requires.names_value, names_few c.args.s.now c.requires.ranged)

pub loop-i-preserved : goal.loop-i-preserved
loop-i-preserved c =
    let s = c.args.s.now in
    let l = c.loop-i in
    let k = c.key-k in
    let key : k.result ≡ key_of (text_at 6 s l.i) = k.ensures.0 ∙ ap key_of c.text.ensures in
    let last : Last s (key_of (text_at 6 s l.i)) l.i c.from.result = rw (c.from.ensures, ← key) (l.invariant.lasts.held k.result k.ensures.1) in
    record {
      none = first_more (respelled (lines 6 s)) l.i l.invariant.none (respelled_at s c.requires.ranged l.i (omega (arith, c.requires.names_value)) ∙ sym c.spelled_before.ensures ∙ c.if-spelled_before.false);
      lasts = lasts_more s l.i l.lasts k.result k.ensures.1 key l.invariant.lasts;
      befores = befores_more s l.i l.before _ (omega (arith, c.requires.names_value, names_few s c.requires.ranged)) (rw c.from.ensures at last) l.invariant.befores;
    }

pub returns : goal.returns
returns c = sym (respelled_none c.args.s.now c.requires.ranged c.loop-i.i (omega (arith, c.requires.names_value)) c.loop-i.invariant.none)
