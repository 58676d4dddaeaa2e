use Rattle.std.proofs.Common.{◌++◌, ◌∷◌, [], ap, subst, append-nil, length, ◌∙◌}
use Rattle.tcp_front.proofs.Rows.{row-went-out, counted-row}
use Rattle.tcp_front.proofs.writing.write_loop.Goals as goal

pub returns-in-None-take : goal.returns-in-None-take
returns-in-None-take g c =
    let did = c.loop.invariant.did in
    let told = c.in-None-take.ensures in
    let gave = subst (λ ms. g.S.RecordSource.gave c.args.source.now ms c.take.new.self) (append-nil did.0)
    (g.met.S.RecordSource.gave_more _ _ _ did.0 [] did.1 told.0) in
    (did.0, gave, told.1, did.2, c.loop.invariant.same)

pub loop-preserved : goal.loop-preserved
loop-preserved g c =
    let did = c.loop.invariant.did in
    let wrote = c.in-Ok.ensures in
    let h = c.saturating_add-sent.ensures in
    let k = c.as_slice.ensures in
    let m = c.in-Some-take.record in
    record {
      same = wrote.1 ∙ c.loop.invariant.same;
      did = (
        did.0 ++ m ∷ [],
        g.met.S.RecordSource.gave_more _ _ _ did.0 (m ∷ []) did.1 c.in-Some-take.ensures,
        row-went-out _ _ _ did.0 m did.2 wrote.0,
        counted-row did.0 m _ _ _ did.3 (ap length k) h,
      );
    }
