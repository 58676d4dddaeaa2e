use Rattle.std.proofs.Common.{rules, ◌∙◌}
use Rattle.tcp_front.proofs.Sent.{more-went-out}
use Rattle.tcp_front.proofs.piece.write_piece.Goals as goal

pub loop-sent-preserved : goal.loop-sent-preserved
loop-sent-preserved g c = record {
  within = search rules;
  went_out = more-went-out _ _ _ _ _ _ c.loop-sent.invariant.went_out c.in-Ok.ensures.bytes;
  same = c.in-Ok.ensures.counts ∙ c.loop-sent.invariant.same;
}
