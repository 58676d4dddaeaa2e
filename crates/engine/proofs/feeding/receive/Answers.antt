use Rattle.std.proofs.Common.{refl, sym, ◌∙◌}
use Rattle.engine.proofs.Received.{none-of}
use Rattle.engine.proofs.feeding.receive.Goals as goal

pub returns-then-not-takes_input : goal.returns-then-not-takes_input
returns-then-not-takes_input c = record {
  before = c.index_mut-on.result.now;
  after = c.index_mut-on.result.now;
  was = c.index_mut-on.ensures.value;
  is = refl;
  receives = (sym (c.takes_input.ensures c.args.offer) ∙ c.if-not-takes_input.true, refl, refl);
}

pub returns : goal.returns
returns c = record {
  before = c.index_mut-on.result.now;
  after = c.feed.new.self;
  was = c.index_mut-on.ensures.value;
  is = refl;
  receives = record {
    before = c.index_mut-on.result.now;
    after = c.feed.new.self;
    was = refl;
    is = refl;
    takes = λ offer. none-of _ (sym (c.takes_input.ensures offer) ∙ c.if-not-takes_input.false);
    feeds = c.feed.ensures.feeds;
    adds = c.feed.ensures.adds;
    admitted = c.feed.ensures.admitted;
  };
}
