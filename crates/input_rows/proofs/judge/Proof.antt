-- `input_rows::judge` meets its contract, by what the passes found. Assumes nothing.
use native.Mathlib.Omega.{arith}
use borrow.Author.Rules.{rules}
use Rattle.input_rows.specs.JudgingLaws.{judges_eight, asked_of, judges_rest}
use Rattle.input_rows.proofs.judge.Statement.{statement}
use Rattle.input_rows.proofs.judge.Tie as tie

returns : tie.Need-returns-then-returning-decls
returns c =
    let s = c in
    let a = s.args in
    let p = c.passes-p in
    judges_eight a.t.now _ _ a.q.now p.result a.rank.now _ s.requires.0.0 p.ensures _ c.line_of.ensures (omega (arith, c.if-returning-decls.true, c.decls.ensures))

resolved-requires : tie.Need-resolved-requires
resolved-requires c κs =
    let s = c in
    let a = s.args in
    let p = c.passes-p in
    (s.requires.0.0, s.requires.0.1, asked_of a.t.now _ _ a.q.now p.result a.rank.now _ s.requires.0.0 p.ensures s.requires.1.1 (omega (arith, c.if-returning-decls.false, c.decls.ensures)))

returns-2 : tie.Need-returns
returns-2 c =
    let s = c in
    let a = s.args in
    let p = c.passes-p in
    judges_rest a.t.now _ _ a.q.now p.result a.rank.now _ s.requires.0.0 p.ensures s.requires.1.1 (omega (arith, c.if-returning-decls.false, c.decls.ensures)) _ c.resolved.ensures

pub judge_spec : {M : Type 1} → statement M
judge_spec =
    tie.close
    (tie.spec
    (λ c κs. search rules)
    (λ c κs. search rules)
    (λ c κs. search rules)
    (λ c. search rules)
    (λ c. search rules)
    (λ c. search rules)
    returns
    resolved-requires
    (λ c. search rules)
    (λ c. search rules)
    (λ c. search rules)
    returns-2)
