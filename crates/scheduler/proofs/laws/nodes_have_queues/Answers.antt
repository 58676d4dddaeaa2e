use Rattle.std.proofs.Common.{◌≡◌, ◌⊎◌, ℕ, ◌<◌, ◌≤◌, length, arith, ⊎_elim}
use Rattle.nfs_model.specs.Tree.{Affinity, Layout, Serial, Aggregate, Volume, Logical, Stripe, Vbn, Range, stripes_of}
use Rattle.affinity.specs.Tree.{IsNode}
use Rattle.scheduler.specs.QueueNumber.{HasQueue}
use Rattle.scheduler.proofs.laws.nodes_have_queues.Goals as goal

has-queue : (layout : Layout) (a : Affinity) → length layout.spare ≤ 2 → length layout.volumes ≤ 8
    → ((v : ℕ) → v < length layout.volumes → (stripes_of layout v ≡ 8) ⊎ (stripes_of layout v ≡ 16)) → IsNode layout a → HasQueue a
has-queue layout Serial s l k n = tt
has-queue layout (Aggregate a) s l k n = omega (arith, s, n)
has-queue layout (Volume v) s l k n = omega (arith, l, n)
has-queue layout (Logical v) s l k n = omega (arith, l, n)
has-queue layout (Vbn v) s l k n = omega (arith, l, n)
has-queue layout (Stripe v i) s l k n =
    let a = n.0 in let b = n.1 in
    (omega (arith, l, a), ⊎_elim (λ (e : stripes_of layout v ≡ 8). omega (arith, b, e)) (λ (e : stripes_of layout v ≡ 16). omega (arith, b, e)) (k v a))
has-queue layout (Range v r) s l k n = let a = n.0 in (omega (arith, l, a), n.1)

pub returns : goal.returns
returns c layout a f n =
    let small = c.lawful_layouts_are_small.ensures in
    has-queue layout a (small.aggregates layout f) (small.volumes layout f) (λ v l. small.stripes layout v f) n
