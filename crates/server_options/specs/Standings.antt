-- How the callers of peers stand, and who owns the roots that they find (our profile).
use Rattle.std.specs.Prelude.{◌≡◌, ℕ, false, ◌&&◌, nat_le, Option, Some, None, if◌then◌else◌}
use Rattle.nfs_model.specs.Server.{root_of_root}
use Rattle.nfs_model.specs.Types.{Ownership}
use Rattle.nfs_values.specs.declared.standing.Squash.{Squash}
use Rattle.nfs_values.specs.declared.standing.Squash.TheVariants.{NoOne, Root, Everyone}
use Rattle.nfs_values.specs.declared.standing.Standing.{Standing}
use Rattle.server_options.specs.declared.peer_rules.PeerRules.{PeerRules}
use Rattle.server_options.specs.declared.peers.Peers.TheVariants.{All}

-- everybody is served, and no caller is checked
pub record IsOpen (rules : PeerRules) : Type 0 where
  pub peers : rules.peers ≡ All
  pub checked : rules.standing.is_checked ≡ false
  pub reading : rules.standing.reads_only ≡ false
  pub ports : rules.is_port_asked ≡ false

-- for whom callers are taken that come from a port: where ports are asked, from 1024 on everybody is anonymous
abbrev pub squash_at : PeerRules → ℕ → Squash
squash_at rules port = if rules.is_port_asked && nat_le 1024 port then Everyone else rules.standing.squash

-- a root of the anonymous user, with mode 0755 (octal)
abbrev pub anonymous_root : Standing → Ownership
anonymous_root s = record { mode = 493; uid = s.anonymous_uid; gid = s.anonymous_gid }

-- who owns roots for which no mode is named: uid 0, or the anonymous user, where uid 0 is taken for that one
abbrev pub usual_root : Squash → Standing → Ownership
usual_root NoOne s = root_of_root
usual_root Root s = anonymous_root s
usual_root Everyone s = anonymous_root s

-- who owns roots, by their mode, if one is named
abbrev pub root_for : Standing → Option ℕ → Ownership
root_for s (Some mode) = record { mode = mode; uid = 0; gid = 0 }
root_for s None = usual_root s.squash s
