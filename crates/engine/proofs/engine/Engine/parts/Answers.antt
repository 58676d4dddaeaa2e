use Rattle.std.proofs.Common.{length, refl, ap, ◌∙◌, rules}
use Rattle.nfs_model.specs.World.{hands_blocks, counts_of}
use Rattle.std.specs.Prelude.{map, Some}
use Rattle.engine.specs.Seen.{worker_seen}
use Rattle.engine.specs.Shown.{Shown}
use Rattle.engine.proofs.Lists.{looked-up}
use Rattle.engine.proofs.Counted.{told-some, told-none}
use Rattle.engine.proofs.engine.Engine.parts.Goals as goal

pub returns-in-Some : goal.returns-in-Some
returns-in-Some c =
    let s = c.self.inside.state in
    let counts = c.self.inside.counts.items in
    let v = c.args.volume.0 in
    let there = looked-up c.deref.result.now counts v c.in-Some.counts.now c.in-Some.counts.now c.deref.ensures.value
    c.in-Some.ensures.lookup.3.0 c.in-Some.ensures.lookup.1 refl in
    ap Some c.with_hands.ensures
    ∙ told-some s counts c.self.invariant v c.in-Some.counts.now c.carried.result there
    (c.carried.ensures ∙ ap (λ ks. length (hands_blocks v (map worker_seen ks))) c.deref-in-Some.ensures.value)
    ∙ ap (λ (x : Shown). counts_of x.world v) c.self.view_is

pub returns-in-None : goal.returns-in-None
returns-in-None c =
    told-none c.self.inside.state c.self.inside.counts.items c.self.invariant c.args.volume.0 (search rules)
    ∙ ap (λ (x : Shown). counts_of x.world c.args.volume.0) c.self.view_is
