use Rattle.std.proofs.Common.{◌≡◌, ◌+◌, ◌-◌, ◌*◌, ◌≤◌, ◌++◌, length, take, vec_len, vec_capacity}
use Rattle.std.specs.List.{flat_map}
use Rattle.xdr.specs.Shape.{word}
use Rattle.rpc_msg.proofs.reply.write_words.Given as goal

abbrev pub invariant-loop-number : goal.invariant-loop-number
invariant-loop-number l =
    (l.out.items ≡ l.initial.out.items ++ flat_map word (take l.number-index l.words))
    × (vec_len l.out + 4 * (length l.words - l.number-index) ≤ vec_capacity l.out)
    × (vec_capacity l.initial.out ≤ vec_capacity l.out)
