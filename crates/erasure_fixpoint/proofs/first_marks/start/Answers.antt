-- `first_marks::start` meets its contract, one declaration after the other.
use Rattle.std.proofs.Common.{◌∙◌, ap, arith}
use Rattle.model.specs.Decl.{bit}
use Rattle.erasure_marks.specs.MarksLaws.{byte_bit}
use Rattle.erasure_laws.specs.FixpointLaws.{start_next, start_marks}
use Rattle.erasure_fixpoint.proofs.first_marks.start.Goals as goal

pub starts_erased-requires : goal.starts_erased-requires
starts_erased-requires c = record { tabled = c.requires.tabled; d_bound = omega (arith, c.requires.decl_len) }

pub loop-d-preserved : goal.loop-d-preserved
loop-d-preserved c =
    start_next _ _ _ _ (omega arith) c.loop-d.invariant (c.from.ensures ∙ byte_bit c.starts_erased.result ∙ ap bit c.starts_erased.ensures)

pub returns : goal.returns
returns c = start_marks _ c.loop-d.decl (omega (arith, c.requires.decl_len)) (λ i h. c.loop-d.invariant i (omega (arith, c.requires.decl_len)))
