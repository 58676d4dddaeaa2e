use Rattle.std.proofs.Common.{◌≡◌, ◌++◌, drop}
use Rattle.admin_client.specs.Asking.{words_spelled}
use Rattle.admin_client.proofs.call.put_words.Given as goal

-- With what is left to be written, it is what shall be written.
abbrev pub invariant-loop-word : goal.invariant-loop-word
invariant-loop-word l = l.out.items ++ words_spelled (drop l.word-index l.words) ≡ l.initial.out.items ++ words_spelled l.words
