use Rattle.std.proofs.Common.{◌∙◌, refl, sym, ap}
use Rattle.std.specs.Option.{option_copied_mut}
use Rattle.desk.specs.Any.{small_lent, large_lent}
use Rattle.desk.specs.Slots.{granted}
use Rattle.desk.proofs.Slots.{in-small, in-large, some-and}
use Rattle.desk.proofs.working.work_in.Goals as goal

pub returns-in-Some : goal.returns-in-Some
returns-in-Some g c = record {
  done = some-and (granted c.args.slot.now) (small_lent c.in-Some.grant) _ (in-small small_lent large_lent _ _ c.in-Some.grant c.in-Some.is)
      (small_lent c.work_small.new.grant, refl, c.work_small.ensures.whole, c.work_small.ensures.done);
}

pub returns-in-None : goal.returns-in-None
returns-in-None g c = record {
  done = some-and (granted c.args.slot.now) (large_lent c.unwrap.result.now) _
      (in-large small_lent large_lent _ _ c.unwrap.result.now c.in-None.is (sym c.as_mut.ensures.value ∙ ap option_copied_mut c.unwrap.ensures)) (
        large_lent c.work_large.new.grant,
        in-large small_lent large_lent _ _ c.work_large.new.grant c.in-None.is refl,
        c.work_large.ensures.whole,
        c.work_large.ensures.done,
      );
}
