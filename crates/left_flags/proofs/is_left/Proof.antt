-- `left_flags::is_left` meets its contract, by the declaration's state. Assumes nothing.
use mathlib.Core.Path.{sym, ◌∙◌}
use native.Mathlib.Omega.{arith}
use Rattle.left_flags.specs.FlagsLaws.{leaves_none, leaves_some, leaves_newtype}
use borrow.Author.Rules.{rules}
use Rattle.table_declared.specs.PassedLaws.{decls_few}
use Rattle.left_flags.proofs.is_left.Statement.{statement}
use Rattle.table_access.specs.Tables.{lines_in}
use Rattle.left_flags.proofs.is_left.Tie as tie

state-requires : tie.Need-state-x-requires
state-requires c κs = omega (arith, c.requires.2, decls_few (lines_in c.args.t.now) c.requires.0.passed)

returns : tie.Need-returns-then-x-eq0
returns c =
    let a = c.args in
    sym (leaves_none (lines_in a.t.now) a.u.now a.f.now a.d (sym c.state-x.ensures ∙ c.if-x-eq0.true))

returns-2 : tie.Need-returns-then-x-ne1
returns-2 c =
    let a = c.args in
    sym (leaves_some (lines_in a.t.now) a.u.now a.f.now a.d (λ e. c.if-x-eq0.false (c.state-x.ensures ∙ e)) (λ e. c.if-x-ne1.true (c.state-x.ensures ∙ e)))

returns-3 : tie.Need-returns
returns-3 c =
    let a = c.args in
    c.has_params.ensures ∙ sym (leaves_newtype (lines_in a.t.now) a.u.now a.f.now a.d (sym c.state-x.ensures ∙ c.if-x-ne1.false))

pub is_left_spec : {M : Type 1} → statement M
is_left_spec = tie.close (tie.spec state-requires returns returns-2 (λ c κs. search rules) returns-3)
