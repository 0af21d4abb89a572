-- `form_emit::emit` meets its contract: a type that has no parts is one word. Assumes nothing.
use native.Mathlib.Omega.{arith}
use borrow.Author.Rules.{rules}
use Rattle.form_emit.specs.CodeLaws.{put_leaf}
use Rattle.form_emit.proofs.emit.Statement.{statement}
use Rattle.table_access.specs.Tables.{lines_in}
use Rattle.form_emit.proofs.emit.Tie as tie

returns : tie.Need-returns-then-k-lt7
returns c =
    let a = c.args in
    let p = c.requires in
    put_leaf (lines_in a.t.now) p.0.tabled.passed a.u.now a.f.now a.d a.places a.y p.0.type a.out.now a.at p.1 _ _ _ (omega (arith, c.if-k-lt7.true, c.type_number-k.ensures)) c.leaf_word.ensures c.put.ensures

pub emit_spec : {M : Type 1} → statement M
emit_spec =
    tie.close
    (tie.spec
    (λ c κs. search rules)
    (λ c κs. search rules)
    (λ c κs. search rules)
    (λ c. search rules)
    returns
    (λ c κs. search rules)
    (λ c. search rules)
    (λ c. search rules))
