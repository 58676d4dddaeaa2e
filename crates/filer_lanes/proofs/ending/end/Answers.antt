use Rattle.std.proofs.Common.{◌≡◌, ◌∙◌, ap, refl, subst}
use Rattle.std.specs.Arc.{arc_value}
use Rattle.granted_calls.specs.declared.shared.Filer.{Filer}
use Rattle.nfs_model.specs.Tree.{Serial}
use Rattle.parcels.specs.Sets.{serial_parcels}
use Rattle.depot.specs.Words.{view}
use Rattle.granted_calls.specs.Filers.{layout_in}
use Rattle.tends.specs.Ends.{granted_in, left_by}
use Rattle.filer_lanes.specs.declared.ending.FilerEnd.TheVariants.{Closed, Held, Worn}
use Rattle.filer_lanes.specs.Ends.{HaveStopped}
use Rattle.filer_lanes.proofs.Ended.{have-ended}
use Rattle.filer_lanes.proofs.Headline.{has-headline}
use Rattle.filer_lanes.proofs.ending.end.Goals as goal

pub returns-in-Ok-clause-ended : goal.returns-in-Ok-clause-ended
returns-in-Ok-clause-ended g c =
    let left = c.gather_lanes-left.result in
    have-ended (arc_value c.args.filer) c.in-Ok.filer c.in-Ok.ensures.ok c.args.lanes.items left
    (subst (λ (f : Filer). HaveStopped f c.args.lanes.items left) c.deref.ensures c.gather_lanes-left.ensures)
    (Closed c.close.result) (serial_parcels (layout_in c.in-Ok.filer) Serial c.close.result.parcels) refl c.close.ensures.ended c.close.ensures.all
    (ap (λ ms. ms.items) c.close.ensures.kept) (ap (λ ms. ms.items) c.close.ensures.waiting)

pub returns-in-Ok-clause-headline : goal.returns-in-Ok-clause-headline
returns-in-Ok-clause-headline g c offer offers =
    has-headline (arc_value c.args.filer) offer c.args.lanes.items (Closed c.close.result) (returns-in-Ok-clause-ended g c) offers

pub returns-in-Ok-hold-clause-ended : goal.returns-in-Ok-hold-clause-ended
returns-in-Ok-hold-clause-ended g c =
    let left = c.gather_lanes-left.result in
    let held = c.in-Ok-hold.held in
    have-ended (arc_value c.args.filer) c.deref-in-Err.result.now (c.deref-in-Err.ensures ∙ ap arc_value c.in-Err.ensures.err) c.args.lanes.items left
    (subst (λ (f : Filer). HaveStopped f c.args.lanes.items left) c.deref.ensures c.gather_lanes-left.ensures)
    (Held held) (serial_parcels (layout_in c.deref-in-Err.result.now) Serial (granted_in held)) refl c.in-Ok-hold.ensures.held c.hold.ensures.all
    (ap (λ ms. ms.items) c.in-Ok-hold.ensures.held_rest.1) (ap (λ ms. ms.items) c.in-Ok-hold.ensures.held_rest.2)

pub returns-in-Ok-hold-clause-headline : goal.returns-in-Ok-hold-clause-headline
returns-in-Ok-hold-clause-headline g c offer offers =
    has-headline (arc_value c.args.filer) offer c.args.lanes.items (Held c.in-Ok-hold.held) (returns-in-Ok-hold-clause-ended g c) offers

pub returns-clause-ended : goal.returns-clause-ended
returns-clause-ended g c =
    let left = c.gather_lanes-left.result in
    let back = c.in-Err-hold.left in
    have-ended (arc_value c.args.filer) c.deref-in-Err.result.now (c.deref-in-Err.ensures ∙ ap arc_value c.in-Err.ensures.err) c.args.lanes.items left
    (subst (λ (f : Filer). HaveStopped f c.args.lanes.items left) c.deref.ensures c.gather_lanes-left.ensures)
    (Worn back) (left_by (layout_in c.deref-in-Err.result.now) (view left.seat)) c.in-Err-hold.ensures.worn_out c.in-Err-hold.ensures.worn c.hold.ensures.all
    (ap (λ ms. ms.items) c.in-Err-hold.ensures.worn_rest.1) (ap (λ ms. ms.items) c.in-Err-hold.ensures.worn_rest.2)

pub returns-clause-headline : goal.returns-clause-headline
returns-clause-headline g c offer offers =
    has-headline (arc_value c.args.filer) offer c.args.lanes.items (Worn c.in-Err-hold.left) (returns-clause-ended g c) offers
