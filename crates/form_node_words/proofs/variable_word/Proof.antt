-- `form_node_words::variable_word` meets its contract: a place below the number of parameters is a parameter's. Assumes nothing.
use mathlib.Core.Path.{ap, ◌∙◌}
use Prim.Native.Nat.{ℕ, ◌+◌, ◌-◌}
use native.Mathlib.Omega.{arith}
use Rattle.meaning.specs.Program.{param_line}
use Rattle.row4_limits.specs.Limits.{start}
use Rattle.table_declared.specs.PassedLaws.{params_few}
use Rattle.table_access.specs.Tables.{first_of, lines_in}
use Rattle.resolve_kids.specs.Params.{params_of}
use Rattle.resolve_kids.specs.ParamsLaws.{count_before_le}
use Rattle.resolve_kids.specs.ParamsLaws.{params_length}
use Rattle.form_laws.specs.Nodes.{node}
use Rattle.form_laws.specs.Forms.{place}
use Rattle.form_nodes.specs.Words.{word}
use Rattle.form_node_words.specs.Own.{label}
use Rattle.form_node_words.specs.OwnLaws.{unbound_word, bound_word}
use borrow.Author.Rules.{rules}
use Rattle.form_node_words.proofs.variable_word.Statement.{statement}
use Rattle.form_node_words.proofs.variable_word.Tie as tie

returns : tie.Need-returns-then-i-params
returns c =
    let a = c.args in
    let ps = params_of (lines_in a.t.now) a.d in
    c.pack.ensures ∙ ap word (unbound_word ps a.v (label a.places ps a.v) (omega (arith, c.if-i-params.true, c.place_of-i.ensures, c.params.ensures)))

cast-pack : tie.Need-overflow_cast-i
cast-pack c =
    let a = c.args in
    let ls = lines_in a.t.now in
    omega (
      arith,
      c.if-i-params.false,
      c.params.ensures,
      params_length ls (first_of param_line ls a.d) (first_of param_line ls (a.d + 1) - first_of param_line ls a.d),
      count_before_le param_line ls (start ls (a.d + 1)),
      params_few (lines_in a.t.now) c.requires.0.passed,
    )

returns-2 : tie.Need-returns-then-places
unfolding label
returns-2 c =
    let a = c.args in
    let ps = params_of (lines_in a.t.now) a.d in
    c.pack-then-places.ensures
    ∙ (ap (λ (i : ℕ). word (node 3 0 i)) c.place_of-i.ensures
    ∙ (ap word (bound_word ps a.v (place ps a.v) (omega (arith, c.if-i-params.false, c.place_of-i.ensures, c.params.ensures))) ∙ rw c.if-places.true))

returns-3 : tie.Need-returns
unfolding label
returns-3 c =
    let a = c.args in
    let ps = params_of (lines_in a.t.now) a.d in
    c.pack-2.ensures
    ∙ (ap word (bound_word ps a.v a.v (omega (arith, c.if-i-params.false, c.place_of-i.ensures, c.params.ensures))) ∙ rw c.if-places.false)

pub variable_word_spec : {M : Type 1} → statement M
variable_word_spec =
    tie.close
    (tie.spec
    (λ c κs. search rules)
    (λ c κs. search rules)
    (λ c κs. search rules)
    returns
    cast-pack
    (λ c κs. search rules)
    returns-2
    (λ c κs. search rules)
    returns-3)
