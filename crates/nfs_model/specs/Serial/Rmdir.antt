-- RMDIR (RFC 1813 section 3.3.13).
use Rattle.std.specs.Prelude.{List, [], ◌∷◌, Option, Some, None, if◌then◌else◌}
use Rattle.nfs_model.specs.Types.{Listed, NoEntry, Invalid, Exists, NotDirectory, NotEmpty}
use Rattle.nfs_model.specs.Server.{Node, File, Directory, Special}
use Rattle.nfs_model.specs.Names.{same_name, dot, dot_dot}
use Rattle.nfs_model.specs.Locate.{Effect, Fails, Found, Naming, named_child}
use Rattle.nfs_model.specs.Serial.Remove.{gone}

-- only an empty directory is removed
abbrev pub if_empty : List Listed → Effect → Effect
if_empty [] effect = effect
if_empty (e ∷ es) effect = Fails NotEmpty

-- all but a directory is NOTDIR
abbrev pub rmdir_found : Naming → Found → Node → Effect
rmdir_found n found (File f) = Fails NotDirectory
rmdir_found n found (Directory d) = if_empty d.list (gone n found)
rmdir_found n found (Special s) = Fails NotDirectory

-- by whether the name is there
abbrev pub rmdir_at : Naming → Option Found → Effect
rmdir_at n None = Fails NoEntry
rmdir_at n (Some found) = rmdir_found n found found.node

-- on a good name: INVAL for `.`, EXIST for `..`
abbrev pub rmdir : Naming → Effect
rmdir n =
    if same_name n.name dot then Fails Invalid
    else if same_name n.name dot_dot then Fails Exists
    else rmdir_at n (named_child n)
