use Rattle.std.proofs.Common.{◌++◌, ◌+◌, ◌/◌, ◌%◌, ◌∙◌, List, ℕ, map, get_or, append_assoc, ap, sym, refl, arith}
use Rattle.std.specs.List.{range_with_len}
use Rattle.nfs_model.specs.Server.{block_size}
use Rattle.nfs_model.specs.volume.Stripes.{byte_of}
use Rattle.stripes.specs.Spans.{span_read}
use Rattle.stripes.proofs.Ranges.{block-read, span_read-append}
use Rattle.stripes.proofs.Places.{at-place}
use Rattle.stripes.proofs.span.Span.read.Goals as goal

pub loop-done-preserved : goal.loop-done-preserved
loop-done-preserved c =
    let places = c.self.inside.places.value in
    let offset = c.args.offset in
    let done = c.loop-done.done in
    let size = c.min-size.result in
    let before = c.args.into.now.items in
    let start : ℕ = (offset + done) % block_size in
    let here = at-place places c.deref.result.now c.place.result ((offset + done) / block_size) c.index-deref-place.result c.deref.ensures
    c.place.ensures.place
    (omega arith) in
    record {
      within = omega arith;
      bytes = c.append.ensures.items
          ∙ ap (λ (l : List ℕ). l ++ map (byte_of (get_or c.deref.result.now c.place.result c.index-deref-place.result)) (range_with_len start size))
          c.loop-done.invariant.bytes
          ∙ ap (λ o. (before ++ span_read places offset done) ++ map (byte_of o) (range_with_len start size)) here
          ∙ ap (λ (l : List ℕ). (before ++ span_read places offset done) ++ l) (block-read places (offset + done) start size refl (omega arith))
          ∙ append_assoc before (span_read places offset done) (span_read places (offset + done) size)
          ∙ ap (λ (l : List ℕ). before ++ l) (sym (span_read-append places offset done size));
      len = omega arith;
      capacity = omega arith;
    }
