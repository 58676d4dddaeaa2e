use Rattle.std.proofs.Common.{List, ℕ, drop, ap, sym, ◌∙◌}
use Rattle.nfs_values.proofs.Paths.{part-is, behind-is, none-behind}
use Rattle.nfs_values.proofs.mount_path.cut.Goals as goal

pub returns-in-Some-clause-part : goal.returns-in-Some-clause-part
returns-in-Some-clause-part c = part-is c.args.path.now _ _ c.size_before_slash.ensures.size c.split_at.ensures.front

pub returns-in-Some-clause-behind : goal.returns-in-Some-clause-behind
returns-in-Some-clause-behind c =
    sym (ap (λ (l : List ℕ). drop 1 l) c.in-Some.ensures.cases.0) ∙ behind-is c.args.path.now _ _ c.size_before_slash.ensures.size c.split_at.ensures.back

pub returns-in-None-clause-part : goal.returns-in-None-clause-part
returns-in-None-clause-part c = part-is c.args.path.now _ _ c.size_before_slash.ensures.size c.split_at.ensures.front

pub returns-in-None-clause-behind : goal.returns-in-None-clause-behind
returns-in-None-clause-behind c =
    none-behind c.args.path.now _ _ c.size_before_slash.ensures.size c.split_at.ensures.back c.in-None.ensures.cases
