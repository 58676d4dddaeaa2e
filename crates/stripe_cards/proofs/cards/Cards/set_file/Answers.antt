use Rattle.std.proofs.Common.{IsSome, sym, ap, subst, ◌∙◌}
use Rattle.std.specs.FinMap.{get, insert}
use Rattle.nfs_values.specs.Ownership.{ownership_of}
use Rattle.nfs_model.specs.volume.Stripes.{OfFile, touch_of}
use Rattle.chunk_maps.specs.Maps.{values_of}
use Rattle.chunk_maps.specs.MapLaws.{get-values_of, same-values, put-values}
use Rattle.stripe_cards.proofs.Changed.{on_ok, on_err}
use Rattle.stripe_cards.specs.Counts.{AreCounted}
use Rattle.stripe_cards.proofs.Changed.{either}
use Rattle.stripe_cards.proofs.Counted.{counted-set}
use Rattle.stripe_cards.proofs.cards.Cards.set_file.Goals as goal

pub returns-clause-ok : goal.returns-clause-ok
returns-clause-ok c =
    on_ok (λ puts. put-values c.args.fileid.0 _ c.self.inside.chunks c.put.new.self puts
    ∙ ap (λ touch. insert (values_of c.self.inside.chunks) c.args.fileid.0 (OfFile c.args.size touch (ownership_of c.args.owner)))
    c.touch_of-touch.ensures
    ∙ ap (λ m. insert m c.args.fileid.0 (OfFile c.args.size (touch_of (get c.args.self.now c.args.fileid.0)) (ownership_of c.args.owner))) c.self.view_is) c.put.result c.put.ensures.ok

pub returns-clause-err : goal.returns-clause-err
returns-clause-err c = on_err (λ same. same-values c.self.inside.chunks c.put.new.self same ∙ c.self.view_is) c.put.result c.put.ensures.err

pub returns-clause-succeeds : goal.returns-clause-succeeds
returns-clause-succeeds c = λ there.
    c.put.ensures.succeeds (subst IsSome (ap (λ m. get m c.args.fileid.0) (sym c.self.view_is) ∙ get-values_of c.self.inside.chunks c.args.fileid.0) there)

pub invariant_of-self : goal.invariant_of-self
invariant_of-self c =
    let old = c.self.inside.chunks in
    let new = c.put.new.self in
    either c.put.result c.put.ensures.ok c.put.ensures.err
    (λ puts. subst (AreCounted c.self.inside.touches) (sym (put-values c.args.fileid.0 _ old new puts))
    (counted-set c.self.inside.touches (values_of old) c.args.fileid.0 _
    (c.touch_of-touch.ensures ∙ ap (λ m. touch_of (get m c.args.fileid.0)) (sym c.self.view_is)) c.self.invariant))
    (λ same. subst (AreCounted c.self.inside.touches) (sym (same-values old new same)) c.self.invariant)
