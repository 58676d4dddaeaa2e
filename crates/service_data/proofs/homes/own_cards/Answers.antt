use Rattle.std.proofs.Common.{◌≡◌, rules, refl, ap, arith, length}
use Rattle.nfs_model.specs.volume.Logical.{LogicalValue}
use Rattle.nfs_model.specs.volume.Stripes.{file_card_owned}
use Rattle.nfs_values.specs.Ownership.{ownership_of}
use Rattle.service_data.proofs.Placed.{one-more, all-done}
use Rattle.service_data.proofs.homes.own_cards.Goals as goal

pub loop-place-preserved : goal.loop-place-preserved
loop-place-preserved c =
    let few = c.requires.few in
    let long : length c.loop-place.held.stripes.at ≡ 16 = search rules in
    let many : c.get.result.now.stripes ≡ c.args.held.now.own.stripes = ap (λ (l : LogicalValue). l.stripes) c.get.ensures in
    one-more c.args.held.now c.loop-place.held (file_card_owned c.args.fileid.0 (ownership_of c.args.owner)) c.loop-place.place c.loop-place.invariant
    _ _ _ (let below = c.loop-place-test.true in omega arith) refl c.own_in.ensures

pub returns : goal.returns
returns c =
    let many : c.get.result.now.stripes ≡ c.args.held.now.own.stripes = ap (λ (l : LogicalValue). l.stripes) c.get.ensures in
    let past = c.loop-place-test.false in
    all-done c.args.held.now c.loop-place.held (file_card_owned c.args.fileid.0 (ownership_of c.args.owner)) c.loop-place.place c.loop-place.invariant
    c.requires (omega arith)
