-- `left_decls::heads::put_bare` meets its contract. Assumes nothing.
use Rattle.left_places.specs.Places.{none}
use Rattle.left_places.specs.PlacesLaws.{growing_none, writes_none}
use Rattle.left_decls.specs.HeadsLaws.{frame_head, frame_end, frame_writes}
use borrow.Author.Rules.{rules}
use Rattle.left_decls.proofs.heads.put_bare.Statement.{statement}
use Rattle.table_access.specs.Tables.{lines_in}
use Rattle.left_decls.proofs.heads.put_bare.Tie as tie

put-head-requires : tie.Need-put_head-q-requires
put-head-requires c κs =
    let z = c in
    let a = z.args in
    (z.requires.0, frame_head (lines_in a.t.now) a.d a.kind a.end none growing_none a.p a.p a.out.now a.out.now z.requires.1)

put-end-requires : tie.Need-put_end-requires
put-end-requires c κs =
    let z = c in
    let a = z.args in
    let w = c.put_head-q in
    frame_end (lines_in a.t.now) a.d a.kind a.end none growing_none a.p w.result a.out.now _ z.requires.1 w.ensures w.result _ (writes_none w.result _)

returns : tie.Need-returns
returns c =
    let z = c in
    let a = z.args in
    let w = c.put_head-q in
    frame_writes (lines_in a.t.now) a.d a.kind a.end none growing_none a.p w.result a.out.now _ z.requires.1 w.ensures w.result _ (writes_none w.result _) _ _ c.put_end.ensures

pub put_bare_spec : {M : Type 1} → statement M
put_bare_spec = tie.close (tie.spec put-head-requires put-end-requires (λ c. search rules) returns)
