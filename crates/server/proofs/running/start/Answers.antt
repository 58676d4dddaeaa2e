use Rattle.std.proofs.Common.{refl, sym, subst, ◌∙◌, arith}
use Rattle.std.specs.Arc.{arc_value}
use Rattle.nfs_model.specs.Tree.{Layout}
use Rattle.nfs_values.specs.Moment.{moment_of}
use Rattle.server.specs.Planned.{IsLaidOut}
use Rattle.server.proofs.Started.{all-serve, as-many, threads-of}
use Rattle.server.proofs.running.start.Goals as goal

pub returns-clause-threads : goal.returns-clause-threads
returns-clause-threads g c =
    let filer = arc_value c.in_ok-filer.filer in
    threads-of filer c.in_ok-filer.lanes.items c.in_ok-tasks.tasks.items c.man_all.new.tasks.items c.in_ok-threads.threads.items
    c.start_all.new.threads.items c.in_ok-tasks.ensures.items c.in_ok-threads.ensures.items c.in_ok-man_all.ensures.each
    (c.if-not-start_all.ensures.each refl) c.in_ok-filer.ensures.lanes
    (c.in_ok-man_all.ensures.of filer) (c.start_all.ensures.serve filer) c.in_ok-man_all.ensures.seats (c.if-not-start_all.ensures.seats refl)

pub returns-clause-offer : goal.returns-clause-offer
returns-clause-offer g c =
    all-serve (arc_value c.in_ok-filer.filer) c.in_ok-filer.lanes.items c.in_ok-tasks.tasks.items c.man_all.new.tasks.items
    c.in_ok-threads.threads.items c.start_all.new.threads.items c.in_ok-tasks.ensures.items c.in_ok-threads.ensures.items
    c.in_ok-man_all.ensures.each (c.if-not-start_all.ensures.each refl) c.args.options.now.offer c.in_ok-filer.ensures.offer

pub returns-clause-count : goal.returns-clause-count
returns-clause-count g c =
    let filer = arc_value c.in_ok-filer.filer in
    let a = as-many filer c.in_ok-filer.lanes.items c.in_ok-tasks.tasks.items c.man_all.new.tasks.items c.in_ok-threads.threads.items
    c.start_all.new.threads.items c.in_ok-tasks.ensures.items c.in_ok-threads.ensures.items c.in_ok-man_all.ensures.each
    (c.if-not-start_all.ensures.each refl) in
    let b = c.in_ok-filer.ensures.count in
    let d = c.in_ok-filer.lanes.ok.0 in omega (arith, a, b, d)

pub returns-clause-layout : goal.returns-clause-layout
returns-clause-layout g c =
    subst (λ (l : Layout). IsLaidOut c.args.options.now.volumes c.args.options.now.plan (moment_of c.args.options.now.begun) l)
    (sym c.in_ok-filer.ensures.layout) c.in_ok-layout.ensures

pub returns-clause-verifier : goal.returns-clause-verifier
returns-clause-verifier g c run e = c.in_ok-filer.ensures.verifier ∙ c.verifier_for-verifier.ensures run e
