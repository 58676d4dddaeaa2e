use Rattle.std.proofs.Common.{◌∙◌, sym}
use Rattle.std.specs.Prelude.{is_ok}
use Rattle.clerk.proofs.Spans.{put-kept}
use Rattle.clerk.proofs.times.Times.put.Goals as goal

pub returns-clause-kept : goal.returns-clause-kept
returns-clause-kept c kept =
    put-kept c.args.self.now.first c.args.self.now.behind.items c.push_back.new.self.items _ (is_ok c.push_back.result) c.push_back.ensures.items
    (sym c.is_ok.ensures.value ∙ kept)
