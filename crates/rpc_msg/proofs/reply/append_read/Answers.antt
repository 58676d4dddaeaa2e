use Rattle.std.proofs.Common.{◌≡◌, ℕ, List, [], ◌∷◌, ◌++◌, length, rules, ap, ◌∙◌, arith}
use Rattle.std.specs.List.{flat_map}
use Rattle.xdr.specs.Shape.{word, flag}
use Rattle.rpc_msg.specs.Replies.{accepted, message}
use Rattle.rpc_msg.proofs.InPlace.{bytes-few, read-whole}
use Rattle.rpc_msg.proofs.reply.append_read.Goals as goal

pub overflow_cast-size : goal.overflow_cast-size
overflow_cast-size c =
    let bytes = c.args.results.now.bytes in
    let size : length c.as_slice.result.now ≡ length bytes = ap (λ (l : List ℕ). length l) c.as_slice.ensures in
    omega (arith, size, bytes-few c.args.xid c.args.results.now.eof bytes, c.requires.short)

pub returns : goal.returns
returns c =
    let bytes = c.args.results.now.bytes in
    let eof = c.args.results.now.eof in
    let out : List ℕ = c.args.out.now.items in
    let size : length c.as_slice.result.now ≡ length bytes = ap (λ (l : List ℕ). length l) c.as_slice.ensures in
    let end : c.from.result ≡ flag eof = search rules in
    let head = c.write_accepted.ensures.items
    ∙ λ j. out ++ (message c.args.xid ++ accepted 0 (flat_map word (0 ∷ 0 ∷ size j ∷ end j ∷ size j ∷ []))) in
    read-whole c.args.xid eof bytes out c.write_accepted.new.out.items c.move_behind.new.head.items head c.move_behind.ensures.moved
