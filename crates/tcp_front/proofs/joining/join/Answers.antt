use Rattle.std.proofs.Common.{◌++◌, ◌∷◌, []}
use Rattle.tcp_front.proofs.JoinedRows.{joined-more}
use Rattle.tcp_front.proofs.joining.join.Goals as goal

pub loop-preserved : goal.loop-preserved
loop-preserved g c =
    let did = c.loop.invariant in
    let m = c.in-Some.record in (
      did.0 ++ m ∷ [],
      g.met.S.RecordSource.gave_more _ _ _ did.0 (m ∷ []) did.1 c.in-Some.ensures,
      joined-more did.0 m _ _ _ _ did.2 c.as_slice-in-loop.ensures c.keep.ensures,
    )
