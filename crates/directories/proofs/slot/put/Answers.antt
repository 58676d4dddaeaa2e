use Rattle.std.proofs.Common.{refl, rules, ◌≡◌, length}
use Rattle.directories.proofs.Slots.{put-set, put-push}
use Rattle.directories.proofs.slot.put.Goals as goal

pub returns-in-Some-clause-ok : goal.returns-in-Some-clause-ok
returns-in-Some-clause-ok c =
    put-set c.args.slots.now.items c.args.vacant c.args.entry (rw c.deref.ensures.value at c.in-Some.ensures.vacant refl)
    (rw c.deref.ensures.value at c.in-Some.ensures.within refl)

pub returns-clause-ok : goal.returns-clause-ok
returns-clause-ok c =
    let last : length c.args.slots.now.items ≡ c.in-Ok.slot = search rules in
    rw c.in_ok-push.ensures.items (put-push c.args.slots.now.items c.in-Ok.slot c.args.entry last)
