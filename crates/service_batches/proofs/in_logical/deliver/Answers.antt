use Rattle.std.proofs.Common.{◌≡◌, ◌≤◌, ◌∙◌, ◌-◌, ℕ, false, sym, ap, subst, arith}
use Rattle.std.specs.FinSet.{contains, len}
use Rattle.std.specs.List.{AllByRecursion}
use Rattle.nfs_model.specs.volume.Logical.{LogicalValue}
use Rattle.filer_state.specs.state.Sets.{logical_before}
use Rattle.filer_state.specs.Logical.{logical_value}
use Rattle.service_batches.proofs.Apart.{not-in-stock}
use Rattle.service_batches.proofs.Right.{deliver-done, on-good}
use Rattle.service_batches.proofs.Stocked.{within-most}
use Rattle.service_batches.proofs.in_logical.deliver.Goals as goal

pub put-requires : goal.put-requires
put-requires c =
    subst (λ (l : LogicalValue). AllByRecursion (λ (b : ℕ). contains l.stock b ≡ false) c.args.batch.now) (sym c.get_mut.ensures.value)
    (not-in-stock c.requires.carried.0 c.args.batch.now (logical_before c.args.held.now) c.requires.carried.1)

pub returns-clause-right : goal.returns-clause-right
returns-clause-right c =
    on-good c.put.result _ _
    (deliver-done (logical_before c.args.held.now) (logical_value c.get_mut.result.now) c.put.new.self c.args.batch.now c.get_mut.ensures.value
    c.requires.some c.requires.batch) c.put.ensures.ok

pub returns-clause-most : goal.returns-clause-most
returns-clause-most c =
    let wide = c.if-room-count.false in
    let fits : c.len-count.result ≤ c.saturating_sub-room.result = omega (arith, wide) in
    on-good c.put.result _ _
    (λ put. within-most (logical_value c.get_mut.result.now) (logical_value c.get.result.now) c.put.new.self c.args.batch.now c.len-count.result
    c.saturating_sub-room.result (c.get_mut.ensures.value ∙ sym c.get.ensures) c.requires.some c.len-count.ensures.value
    (c.saturating_sub-room.ensures ∙ ap (λ (n : ℕ). 2097152 - n) c.len.ensures) fits put) c.put.ensures.ok
