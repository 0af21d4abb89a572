-- `erasure_fixpoint::fixpoint` meets its contract: the rounds start from imports at their verdict. Assumes nothing.
use borrow.Author.Rules.{rules}
use Rattle.erasure_laws.specs.FixpointLaws.{fresh_running, fixed_of}
use Rattle.erasure_fixpoint.proofs.fixpoint.Statement.{statement}
use Rattle.table_access.specs.Tables.{lines_in}
use Rattle.erasure_fixpoint.proofs.fixpoint.Tie as tie

settle-requires : tie.Need-settle-requires
settle-requires c κs =
    let a = c in
    let u = c.first_uses in
    let v = c.start in
    (a.requires.0, fresh_running (lines_in a.args.t.now) a.args.used.now a.args.decl.now v.new.decl a.args.node.now a.args.member.now a.args.field.now a.args.wait.now a.requires.1 u.new.used u.ensures v.auto.decl v.ensures)

returns : tie.Need-returns
returns c =
    let a = c in
    let v = c.start in
    let w = c.settle in
    fixed_of (lines_in a.args.t.now) v.new.decl w.new.decl w.new.node w.result v.ensures w.ensures

pub fixpoint_spec : {M : Type 1} → statement M
fixpoint_spec =
    tie.close
    (tie.spec
    (λ c κs. search rules)
    (λ c κs. search rules)
    settle-requires
    (λ c. search rules)
    (λ c. search rules)
    (λ c. search rules)
    (λ c. search rules)
    (λ c. search rules)
    (λ c. search rules)
    returns)
