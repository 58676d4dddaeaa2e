use Rattle.std.proofs.Common.{◌≡◌, ◌+◌, ◌∙◌, ℕ, sym, ap}
use Rattle.inodes.specs.Inode.{inodes_value}
use Rattle.inodes.proofs.Changes.{unmade, lowered-is}
use Rattle.inodes.proofs.Few.{lowered-few}
use Rattle.inodes.proofs.inodes.Inodes.undo_create.Goals as goal

pub invariant_of-self : goal.invariant_of-self
invariant_of-self c =
    let left = inodes_value c.self.inside.next c.self.inside.used c.self.inside.by_fileid in
    let last : c.args.self.now.next ≡ c.keep-fileid.result.0 + 1 = c.requires.last ∙ ap (λ (n : ℕ). n + 1) (sym c.keep-fileid.ensures) in (
      lowered-is c.args.self.now left c.keep-fileid.result.0 last (c.self.view_is ∙ c.drop_node.ensures) c.self.invariant.0,
      lowered-few left c.keep-fileid.result.0 c.self.invariant.1,
    )

pub returns : goal.returns
returns c =
    let left = inodes_value c.self.inside.next c.self.inside.used c.self.inside.by_fileid in
    let last : c.args.self.now.next ≡ c.keep-fileid.result.0 + 1 = c.requires.last ∙ ap (λ (n : ℕ). n + 1) (sym c.keep-fileid.ensures) in
    unmade c.args.self.now left c.keep-fileid.result.0 last (c.self.view_is ∙ c.drop_node.ensures)
