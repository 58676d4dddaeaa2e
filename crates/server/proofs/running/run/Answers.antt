use Rattle.std.proofs.Common.{ap, arith, length}
use Rattle.std.specs.Arc.{arc_value}
use Rattle.server.proofs.Started.{all-back, lanes-back, lanes-offer}
use Rattle.server.proofs.running.run.Goals as goal

pub join_all-lanes-requires : goal.join_all-lanes-requires
join_all-lanes-requires g c =
    let none = ap (λ xs. length xs) c.args.running.none_back in
    let n = c.args.running.lanes.ok.0 in
    let w = c.args.running.wide.0 in
    omega (arith, none, n, w)

pub end-requires-clause-lanes : goal.end-requires-clause-lanes
end-requires-clause-lanes g c =
    let filer = arc_value c.args.running.filer in
    lanes-back filer c.args.running.threads.items c.args.running.lanes.items c.join_all-lanes.result.items c.requires c.args.running.none_back
    (c.join_all-lanes.ensures.of filer) c.join_all-lanes.ensures.seats c.join_all-lanes.ensures.each
    (let none = ap (λ xs. length xs) c.args.running.none_back in
    let n = c.args.running.lanes.ok.0 in
    let t = c.args.running.threads.ok.0 in
    let m = c.join_all-lanes.result.ok.0 in
    let l = c.join_all-lanes.ensures.len in omega (arith, none, n, t, m, l))

pub end-requires-clause-room : goal.end-requires-clause-room
end-requires-clause-room g c =
    let none = ap (λ xs. length xs) c.args.running.none_back in
    let n = c.args.running.lanes.ok.0 in
    let l = c.join_all-lanes.ensures.len in
    let w = c.args.running.wide.1 in
    omega (arith, none, n, l, w)

pub returns-in-Ok : goal.returns-in-Ok
returns-in-Ok g c =
    let threads = c.args.running.threads.items in
    let lanes = c.join_all-lanes.result.items in
    let back = all-back (arc_value c.args.running.filer) threads c.args.running.lanes.items lanes c.args.running.none_back c.join_all-lanes.ensures.each in (
      lanes,
      back,
      c.end.ensures.ended,
      (let none = ap (λ xs. length xs) c.args.running.none_back in
          let n = c.args.running.lanes.ok.0 in
          let t = c.args.running.threads.ok.0 in
          let m = c.join_all-lanes.result.ok.0 in
          let l = c.join_all-lanes.ensures.len in omega (arith, none, n, t, m, l)),
      λ offer serve. c.end.ensures.headline offer (lanes-offer offer threads lanes back serve),
    )
