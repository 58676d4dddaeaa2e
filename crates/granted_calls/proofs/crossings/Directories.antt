-- Directories may cross threads.
use denote.Plain.{UInt}
use mir.Syntax.{w32}
use denote.Param.Send.{IsSend, sendable, view_send}
use Rattle.std.proofs.Crossing.{crosses}
use Rattle.directories.specs.contracts.entries.Entries as Entries
use Rattle.directories.specs.contracts.entries.Entries.TheInside as EntriesInside
use Rattle.directories.specs.contracts.directory.Directory as Directory
use Rattle.directories.specs.contracts.directory.Directory.TheInside as DirectoryInside
use Rattle.directories.proofs.guesses.Guesses.TheSendSync as guesses
use Rattle.directories.proofs.slot.Slot.TheSendSync as slot
use Rattle.directories.proofs.spot.Spot.TheSendSync as spot
use Rattle.nfs_values.proofs.number.Cookie.TheSendSync as cookie
use Rattle.granted_calls.proofs.crossings.Structs.{struct-send}
use Rattle.granted_calls.proofs.crossings.Sequences.{sequence-send}

entries-inside-send : IsSend EntriesInside.the_row
entries-inside-send = struct-send EntriesInside.the_type (
  search (slot.the_send, crosses, sendable) depth 20,
  (sequence-send (UInt w32) (search sendable depth 20), (search sendable depth 20, (cookie.the_field_send, tt))),
)

entries-send : IsSend Entries.the_row
entries-send = view_send EntriesInside.the_row _ _ _ _ entries-inside-send

directory-inside-send : IsSend DirectoryInside.the_row
directory-inside-send = struct-send DirectoryInside.the_type (entries-send, (sequence-send _ spot.the_send, (guesses.the_field_send, tt)))

pub directory-send : IsSend Directory.the_row
directory-send = view_send DirectoryInside.the_row _ _ _ _ directory-inside-send
