-- `build_sheets::sheets` meets its contract, by the list of normal forms. Assumes nothing.
use Rattle.std.proofs.Common.{inr, arith}
use Rattle.build_sheets.specs.SheetsLaws.{known_of, short_of, tries_none, tries_less, known_long}
use Rattle.build_sheets.proofs.sheets.Goals as goal

pub returns-then-e-f : goal.returns-then-e-f
returns-then-e-f c =
    tries_none _ c.args.s.now c.args.v.now c.args.l.now (short_of _ _ _ _ _ _ _ _ _ _ _ _ c.requires.lent c.normal_forms-e.ensures c.if-e-f.true)

pub formed-requires : goal.formed-requires
formed-requires c =
    record {
      known = known_long _ _ _ _ _ _ _ _ _ c.normal_forms-e.auto.scratch (known_of _ _ _ _ _ _ _ _ _ _ _ _ c.requires.lent c.normal_forms-e.ensures c.if-e-f.false);
      rounds_value = c.requires.rounds_value;
    }

pub returns : goal.returns
returns c = tries_less _ _ (λ x. inr (omega (arith, x, c.normal_forms-e.auto.scratch))) c.args.s.now c.args.v.now c.args.l.now _ _ _ c.formed.ensures
