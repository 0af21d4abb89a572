-- `form_puts::put` meets its contract, whether there is room or not.
use Rattle.form_puts.specs.Put.{put_one, put_past}
use Rattle.form_puts.proofs.put.Goals as goal

pub returns-then-at-out : goal.returns-then-at-out
returns-then-at-out c = put_one _ _ _ c.if-at-out.true

pub returns : goal.returns
returns c = put_past _ _ _ c.if-at-out.false
