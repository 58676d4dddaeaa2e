use Rattle.std.proofs.Common.{◌≡◌, ◌++◌, List, ℕ, length}
use Rattle.rpc_record.specs.Stream.{read_stream}
use Rattle.port_mapper.specs.Conversations.{Replies}
use Rattle.port_mapper.proofs.conversation.reply_to_all.Given as goal

-- What is replied so far is what the bytes before the rest complete.
abbrev pub invariant-loop-rest : goal.invariant-loop-rest
invariant-loop-rest l =
    (front : List ℕ)
    × (l.bytes ≡ front ++ l.rest)
    × ((stream : List ℕ)
    → (read_stream stream).at ≡ l.initial.joined
    → Replies l.registered l.reached stream front l.initial.out.items l.out.items l.joined)

abbrev pub decreases-loop-rest : goal.decreases-loop-rest
decreases-loop-rest l = length l.rest
