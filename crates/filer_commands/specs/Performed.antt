-- What holds once a command was performed.
use Rattle.std.specs.Prelude.{ℕ, ⊤, List, Option}
use Rattle.connections.specs.declared.device.Device as devices
use Rattle.filer_commands.specs.declared.choice.Command.{Command}
use Rattle.filer_commands.specs.declared.choice.Command.TheVariants.{Replay, Serve, Export, Census, Grow, Stop, Help, Version}
use Rattle.filer_lanes.specs.declared.ending.FilerEnd.{FilerEnd}
use Rattle.filer_lanes.specs.Ends.{unfinished_in}
use Rattle.nfs_values.specs.declared.moment.Moment.{Moment}
use Rattle.rpc_msg.specs.Offer.{export}
use Rattle.server.specs.Served.{left_line, EndsWith, HasServed}
use Rattle.server.specs.declared.socket.Socket.{Socket}
use Rattle.server_options.specs.declared.options.Options.{Options}

-- a server of these options was served to its end, and the last line that was printed tells how many messages it has left
abbrev pub HasEnded : (R : Type 0) → devices.Ghosts Socket → {W : Type 0} → (W → Option (List ℕ)) → Options → W → Type 0
HasEnded R G contents options out =
    (left : FilerEnd) × HasServed R G options left × EndsWith contents out (left_line (unfinished_in left))

-- A command that serves has served to the end: `serve` what its options say, and `export` the same with what the server of a run offers
-- to clients that mount, and with volumes that began at a moment. Of the other commands nothing is said here.
abbrev pub HasPerformed : (R : Type 0) → devices.Ghosts Socket → {W : Type 0} → (W → Option (List ℕ)) → Command → W → Type 0
HasPerformed R G contents (Serve options) out = HasEnded R G contents options out
HasPerformed R G contents (Export exporting) out =
    (run : ℕ) × (begun : Moment) × HasEnded R G contents (record exporting.options { offer = export run; begun = begun }) out
HasPerformed R G contents (Replay path) out = ⊤
HasPerformed R G contents (Census server) out = ⊤
HasPerformed R G contents (Grow growing) out = ⊤
HasPerformed R G contents (Stop server) out = ⊤
HasPerformed R G contents Help out = ⊤
HasPerformed R G contents Version out = ⊤
