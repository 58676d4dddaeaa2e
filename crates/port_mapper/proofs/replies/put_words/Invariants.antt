use Rattle.std.proofs.Common.{◌≡◌, ◌++◌, drop}
use Rattle.std.specs.List.{flat_map}
use Rattle.xdr.specs.Shape.{word}
use Rattle.port_mapper.proofs.replies.put_words.Given as goal

-- With what is left to be written, it is what shall be written.
abbrev pub invariant-loop-word : goal.invariant-loop-word
invariant-loop-word l = l.out.items ++ flat_map word (drop l.word-index l.words) ≡ l.initial.out.items ++ flat_map word l.words
