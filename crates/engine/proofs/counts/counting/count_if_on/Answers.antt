use Rattle.std.proofs.Common.{◌≡◌, ◌<◌, ◌==◌, Bool, true, length, Some, sym, ap, ◌∙◌, rules, eq-eqb}
use Rattle.std.specs.Prelude.{if◌then◌else◌}
use Rattle.std.proofs.lemmas.Option.{slice_get_read}
use Rattle.nfs_model.specs.Tree.{stripes_of, aggregate_of}
use Rattle.affinity.specs.Layout.{layout_of}
use Rattle.filer_state.specs.state.Sets.{in_one, volume_value, volume_placed}
use Rattle.engine.specs.counts.Counts.{counts_in}
use Rattle.engine.proofs.counts.counting.count_if_on.Goals as goal

pub returns-then-aggregate_of-aggregate : goal.returns-then-aggregate_of-aggregate
returns-then-aggregate_of-aggregate c =
    let L = layout_of c.args.layout.now in
    let v = c.args.volume in
    let places = c.args.held.now.volumes.at in
    let few : v < 8 = search rules in
    let long : 8 ≡ length places = search rules in
    let there = slice_get_read places 8 v c.index-held-volume.result long few c.index-held-volume.is in
    let same : (aggregate_of L v == c.args.aggregate) ≡ true =
    eq-eqb (aggregate_of L v) c.args.aggregate (sym c.aggregate_of.ensures.aggregate ∙ c.if-aggregate_of-aggregate.true) in
    c.count_placed.ensures (stripes_of L v)
    ∙ ap (λ o. counts_in (volume_value (stripes_of L v) o)) (sym c.index-held-volume.is ∙ ap in_one (sym there))
    ∙ ap (λ (b : Bool). if b then counts_in (volume_placed L (Some c.args.held.now) v) else c.args.before) (sym same)
