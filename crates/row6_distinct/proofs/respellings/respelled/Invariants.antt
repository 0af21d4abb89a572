-- No line passed has an earlier spelling, and those passed are kept by their keys.
use Rattle.std.proofs.Common.{◌≡◌}
use Rattle.sheet.specs.Sheet.{first, lines}
use Rattle.row6_spellings.specs.Spellings.{respelled}
use Rattle.row6_distinct.specs.Keys.{Lasts, Befores}
use Rattle.row6_distinct.proofs.respellings.respelled.Given as goal

abbrev pub invariant-loop-i : goal.invariant-loop-i
invariant-loop-i l = record {
  none : first (respelled (lines 6 l.fn.s)) l.i ≡ l.i;
  lasts : Lasts l.fn.s l.i l.lasts;
  befores : Befores l.fn.s l.i l.before;
}
