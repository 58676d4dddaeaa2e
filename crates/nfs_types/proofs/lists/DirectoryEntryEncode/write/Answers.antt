use Rattle.std.proofs.Common.{◌++◌, length, drop, take, replicate, ap, ◌∙◌}
use Rattle.xdr.specs.Shape.{word, hyper, padding}
use Rattle.nfs_types.proofs.Entry.{entry-put}
use Rattle.nfs_types.proofs.lists.DirectoryEntryEncode.write.Goals as goal

pub returns-clause-items : goal.returns-clause-items
returns-clause-items c =
    let name = c.as_bytes-name.ensures in
    let fileid = c.args.self.now.fileid.0 in
    entry-put fileid c.args.self.now.cookie.0 c.args.out.now.items c.args.self.now.name (take 12 (drop 4 c.before_name.result)) c.append.new.out.items
    c.append-2.new.out.items c.pad.new.out.items c.write.new.out.items
    (ap (λ bytes. take 12 (drop 4 bytes)) c.before_name.ensures ∙ ap (λ bytes. hyper fileid ++ word (length bytes)) name) c.append.ensures.items
    (c.append-2.ensures.items ∙ ap (λ bytes. c.append.new.out.items ++ bytes) name)
    (c.pad.ensures.items ∙ ap (λ bytes. c.append-2.new.out.items ++ replicate (padding (length bytes)) 0) name) c.write.ensures.items
