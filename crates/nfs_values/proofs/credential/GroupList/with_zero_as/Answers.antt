use Rattle.std.proofs.Common.{◌==◌, ◌∙◌, ap, List, ℕ, take, if◌then◌else◌}
use Rattle.std.proofs.lemmas.List.{take-map}
use Rattle.nfs_values.proofs.credential.GroupList.with_zero_as.Goals as goal

pub returns : goal.returns
returns c =
    ap (λ (l : List ℕ). take c.args.self.count l) c.put_for_zero.ensures
    ∙ take-map (λ g. if g == 0 then c.args.other else g) c.args.self.count c.args.self.gids
