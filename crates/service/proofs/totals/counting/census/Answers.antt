use Rattle.std.proofs.Common.{◌≡◌, length, ap, ◌∙◌, sym, arith}
use Rattle.affinity.specs.Layout.{layout_of}
use Rattle.filer_state.specs.state.Contents.{each}
use Rattle.filer_state.specs.state.Sets.{serial_set}
use Rattle.service.proofs.totals.Counts.{count_by, all-counted, counted-more, takes-counts, takes-none}
use Rattle.service.proofs.totals.counting.census.Goals as goal

pub returns-in_err-counts : goal.returns-in_err-counts
returns-in_err-counts c = record {
  right = takes-none (layout_of c.args.layout.now) (serial_set (layout_of c.args.layout.now) c.args.held.now) c.from_residual.result
      c.from_residual.ensures.0;
}

pub returns-in_err-push : goal.returns-in_err-push
returns-in_err-push c = record {
  right = takes-none (layout_of c.args.layout.now) (serial_set (layout_of c.args.layout.now) c.args.held.now) c.from_residual-in_err-push.result
      c.from_residual-in_err-push.ensures.0;
}

pub loop-volume-preserved : goal.loop-volume-preserved
loop-volume-preserved c =
    counted-more (count_by (layout_of c.args.layout.now) c.args.held.now) c.loop-volume.volume c.loop-volume.counts.items c.push.new.self.items
    c.count_at.result c.loop-volume.invariant c.in_ok-push.ensures.items c.count_at.ensures

pub returns : goal.returns
returns c =
    let all : c.loop-volume.volume ≡ length (layout_of c.args.layout.now).volumes =
    (let past = c.loop-volume-test.false in let count = c.volume_count-count.ensures.count in omega arith) in
    record {
      right = takes-counts (layout_of c.args.layout.now) (serial_set (layout_of c.args.layout.now) c.args.held.now) c.loop-volume.counts
          (c.loop-volume.invariant ∙ ap (each (count_by (layout_of c.args.layout.now) c.args.held.now) 0) all
          ∙ sym (all-counted (layout_of c.args.layout.now) c.args.held.now));
    }
