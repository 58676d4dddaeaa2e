use Rattle.std.proofs.Common.{sym, append_assoc}
use Rattle.nfs_types.proofs.encode.AttributesEncode.write.Goals as goal

pub returns-clause-items : goal.returns-clause-items
returns-clause-items c =
    rw (
      c.append.ensures.items,
      c.join-2.ensures,
      c.join-behind.ensures,
      c.join-before.ensures,
      c.join-last.ensures,
      c.join.ensures,
      c.join-third.ensures,
      c.join-second.ensures,
      c.join-first.ensures,
      c.moment_bytes-ctime.ensures,
      c.moment_bytes-mtime.ensures,
      c.moment_bytes-atime.ensures,
      c.two_hypers-ids.ensures,
      c.two_words-rdev.ensures,
      c.two_hypers-sizes.ensures,
      c.to_be_bytes-gid.ensures,
      c.two_words-links.ensures,
      c.two_words-kind.ensures,
      c.word.ensures,
      sym c.device-device.ensures,
    ) (simp append_assoc)
