use Rattle.std.proofs.Common.{ℕ, length, ap, subst, ◌∙◌}
use Rattle.std.specs.FinMap.{insert}
use Rattle.nfs_model.specs.Server.{block_size}
use Rattle.std.proofs.lemmas.List.{length-replicate}
use Rattle.nfs_model.specs.volume.Stripes.{Block}
use Rattle.stripes.specs.Spans.{IsLong}
use Rattle.stripes.proofs.Inserted.{put-blocks}
use Rattle.stripes.proofs.Called.{put-is, long-blocks, same-of, on_ok, on_err}
use Rattle.stripes.proofs.blocks.Blocks.insert.Goals as goal

pub returns-in_err-zeros-clause-long : goal.returns-in_err-zeros-clause-long
returns-in_err-zeros-clause-long c = subst IsLong c.self.view_is (long-blocks c.self.inside.spans.entries c.self.invariant)

pub invariant_of-self : goal.invariant_of-self
invariant_of-self c =
    put-is c.insert_in.result c.args.fileid c.args.block c.in_ok-zeros.zeros c.self.inside.spans.entries c.insert_in.new.spans.entries
    (ap (λ (b : Block). length b.bytes) c.in_ok-zeros.ensures ∙ length-replicate {A = ℕ} block_size 0) c.self.invariant c.insert_in.ensures.ok
    c.insert_in.ensures.err

pub returns-clause-ok : goal.returns-clause-ok
returns-clause-ok c =
    on_ok (λ puts. put-blocks c.args.fileid c.args.block c.in_ok-zeros.zeros c.self.inside.spans.entries c.insert_in.new.spans.entries puts
    ∙ ap (λ m. insert m (c.args.fileid, c.args.block) c.in_ok-zeros.zeros) c.self.view_is
    ∙ ap (insert c.args.self.now (c.args.fileid, c.args.block)) c.in_ok-zeros.ensures) c.insert_in.result c.insert_in.ensures.ok

pub returns-clause-err : goal.returns-clause-err
returns-clause-err c =
    on_err (λ same. same-of c.self.inside.spans.entries c.insert_in.new.spans.entries same ∙ c.self.view_is) c.insert_in.result c.insert_in.ensures.err

pub returns-clause-long : goal.returns-clause-long
returns-clause-long c =
    long-blocks c.insert_in.new.spans.entries
    (put-is c.insert_in.result c.args.fileid c.args.block c.in_ok-zeros.zeros c.self.inside.spans.entries c.insert_in.new.spans.entries
    (ap (λ (b : Block). length b.bytes) c.in_ok-zeros.ensures ∙ length-replicate {A = ℕ} block_size 0) c.self.invariant c.insert_in.ensures.ok
    c.insert_in.ensures.err)
