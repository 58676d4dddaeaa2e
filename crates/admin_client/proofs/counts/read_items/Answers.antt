use Rattle.std.proofs.Common.{◌≡◌, ◌+◌, ◌-◌, List, [], ◌∷◌, ◌++◌, map, sym, ap, ◌∙◌, arith}
use Rattle.std.proofs.lemmas.List.{map-append}
use Rattle.xdr.specs.Shape.{Value}
use Rattle.xdr.specs.Reading.{items_at, read}
use Rattle.nfs_types.specs.Results.{count_shape}
use Rattle.admin_client.specs.Telling.{counted_value, formed}
use Rattle.admin_client.proofs.Items.{after, item_read, item_missing}
use Rattle.admin_client.proofs.counts.read_items.Goals as goal

pub returns-in-Err : goal.returns-in-Err
returns-in-Err c =
    let l = c.loop-volume in
    ap formed
    (sym l.invariant
    ∙ item_missing (λ rest. read count_shape rest)
    (map counted_value l.counts.items) c.args.count l._volume l.from c.in-Err.fault (omega arith) c.in-Err.ensures)

pub loop-volume-preserved : goal.loop-volume-preserved
loop-volume-preserved c =
    let l = c.loop-volume in
    let pushed = rw c.if-is_err.ensures.negation at c.push.ensures.items in
    let left = items_at (λ rest. read count_shape rest) (c.args.count - (l._volume + 1)) c.read_count.new.from in
    let kept : map counted_value c.push.new.self.items ≡ map counted_value l.counts.items ++ (counted_value c.in-Ok.one ∷ []) =
    ap (map counted_value) pushed ∙ map-append counted_value l.counts.items (c.in-Ok.one ∷ []) in
    ap (λ (counts : List (Value count_shape)). after counts left) kept
    ∙ sym (item_read (λ rest. read count_shape rest) (map counted_value l.counts.items) c.args.count l._volume l.from
    (counted_value c.in-Ok.one, c.read_count.new.from) (omega arith) c.in-Ok.ensures)
    ∙ l.invariant
