use Rattle.std.proofs.Common.{◌≡◌, Some, None, sym, ap, ◌∙◌}
use Rattle.std.specs.FinMap.{get, get-empty}
use Rattle.nfs_model.specs.volume.Stripes.{file_block_cmp}
use Rattle.stripes.proofs.stripe.Stripe.new.Goals as goal

pub invariant_of-result : goal.invariant_of-result
invariant_of-result c = λ p b e. absurd (
    let no : None ≡ Some b = sym (ap (λ m. get m p) c.new-2.ensures ∙ get-empty file_block_cmp p) ∙ e in cc)
