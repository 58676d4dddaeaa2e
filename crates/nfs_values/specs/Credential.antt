use Rattle.std.specs.Prelude.{ℕ, List, take}
use Rattle.nfs_model.specs.Types as model
use Rattle.nfs_values.specs.declared.credential.Credential.{Credential}
use Rattle.nfs_values.specs.declared.credential.GroupList.{GroupList}

-- further groups: the first of the places
abbrev pub gids_in : GroupList → List ℕ
gids_in g = take g.count g.gids

-- user and groups, as the model has them
abbrev pub credential_of : Credential → model.Credential
credential_of c = record { uid = c.uid; gid = c.gid; gids = gids_in c.gids }
