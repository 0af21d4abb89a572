-- `resolve_calls::fits` meets its contract, test by test. Assumes nothing.
use mathlib.Core.Path.{sym, ◌∙◌}
use native.Mathlib.Omega.{arith}
use Rattle.resolve_outcomes.specs.Scratch.{part}
use Rattle.resolve_outcomes.proofs.Laws.Scratch.{part_length}
use Rattle.resolve_kids.specs.Nodes.{type_of}
use Rattle.resolve_kids.specs.Params.{params_of}
use Rattle.resolve_calls.specs.CallsLaws.{fits_same, fits_newtype, fits_few, fits_more}
use borrow.Author.Rules.{rules}
use Rattle.resolve_calls.proofs.fits.Statement.{statement}
use Rattle.table_access.specs.Tables.{lines_in}
use Rattle.resolve_calls.proofs.fits.Tie as tie

params-requires : tie.Need-params-n-requires
params-requires c κs = search rules

returns : tie.Need-returns-then-count-n
returns c =
    let a = c.args in
    fits_same (params_of (lines_in a.t.now) a.d) (part a.at a.count a.out.now) (type_of (lines_in a.t.now) a.y) a.newtype (part_length a.at a.count a.out.now c.requires.1.1 ∙ (c.if-count-n.true ∙ c.params-n.ensures))

returns-2 : tie.Need-returns-then-newtype
returns-2 c =
    let a = c.args in
    rw c.if-newtype.true (fits_newtype (params_of (lines_in a.t.now) a.d) (part a.at a.count a.out.now) (type_of (lines_in a.t.now) a.y) (λ e. c.if-count-n.false (sym (part_length a.at a.count a.out.now c.requires.1.1) ∙ (e ∙ sym c.params-n.ensures))))

returns-3 : tie.Need-returns-then-count-n-2
returns-3 c =
    let a = c.args in
    rw c.if-newtype.false (fits_few (params_of (lines_in a.t.now) a.d) (part a.at a.count a.out.now) (type_of (lines_in a.t.now) a.y) (omega (arith, part_length a.at a.count a.out.now c.requires.1.1, c.params-n.ensures, c.if-count-n-2.true)))

takes-requires : tie.Need-takes-requires
takes-requires c κs = search rules

returns-4 : tie.Need-returns
returns-4 c =
    let a = c.args in
    rw c.if-newtype.false (c.takes.ensures ∙ fits_more (params_of (lines_in a.t.now) a.d) (part a.at a.count a.out.now) (type_of (lines_in a.t.now) a.y) (omega (arith, part_length a.at a.count a.out.now c.requires.1.1, c.params-n.ensures, c.if-count-n-2.false, c.if-count-n.false)))

pub fits_spec : {M : Type 1} → statement M
fits_spec =
    tie.close (tie.spec params-requires returns returns-2 returns-3 takes-requires returns-4)
