use Rattle.std.proofs.Common.{append_assoc}
use Rattle.nfs_types.proofs.arms.WriteResultsEncode.write.Goals as goal

pub returns-clause-items : goal.returns-clause-items
returns-clause-items c =
    rw (
      c.append.ensures.items,
      c.join.ensures,
      c.join-behind.ensures,
      c.verifier_bytes.ensures,
      c.two_words.ensures,
      c.two_words-done.ensures,
    ) (simp append_assoc)
