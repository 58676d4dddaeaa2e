use Rattle.std.proofs.Common.{◌≡◌, length, refl, rules, arith}
use Rattle.service.proofs.totals.Grown.{volume-there, within, found-there, done-refused, done-grown}
use Rattle.service.proofs.totals.growing.grow_at.Goals as goal

pub listed : goal.listed
listed c = within c.args.held.now.volumes.at c.args.volume (volume-there c.args.volume c.args.held.now c.requires)

pub bounds-held-volume : goal.bounds-held-volume
bounds-held-volume c =
    let long : length c.args.held.now.volumes.at ≡ 8 = search rules in
    let less = within c.args.held.now.volumes.at c.args.volume (volume-there c.args.volume c.args.held.now c.requires) in
    omega (arith, long, less)

pub grow_in-requires : goal.grow_in-requires
grow_in-requires c = found-there c.args.volume c.args.held.now c.requires _

pub returns-in-Err : goal.returns-in-Err
returns-in-Err c = done-refused c.args.held.now c.args.volume c.args.more c.requires _ _ _ refl c.in-Err.status c.in-Err.ensures

pub returns : goal.returns
returns c = done-grown c.args.held.now c.args.volume c.args.more c.requires _ _ _ refl c.in-Ok.total c.in-Ok.ensures _ refl
