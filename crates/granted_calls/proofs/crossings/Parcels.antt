-- The parcel of Volume Logical may cross threads.
use denote.Param.Send.{IsSend, sendable, view_send}
use Rattle.std.proofs.Crossing.{crosses, Box-send}
use Rattle.std.proofs.MapsCrossing.{BTreeMap-send}
use Rattle.inodes.proofs.inodes.Inodes.TheSendSync as inodes
use Rattle.memos.proofs.memos.Memos.TheSendSync as memos
use Rattle.nfs_values.proofs.name.Name.TheSendSync as name
use Rattle.nfs_values.proofs.verifier.Verifier.TheSendSync as verifier
use Rattle.filer_state.specs.contracts.directory_map.DirectoryMap as Map
use Rattle.filer_state.specs.contracts.directory_map.DirectoryMap.TheInside as MapInside
use Rattle.filer_state.specs.contracts.text_map.TextMap as Texts
use Rattle.filer_state.specs.contracts.text_map.TextMap.TheInside as TextsInside
use Rattle.filer_state.specs.contracts.logical.Logical as Logical
use Rattle.filer_state.specs.contracts.logical.LogicalParcel as Parcel
use Rattle.filer_state.specs.contracts.logical.LogicalParcel.TheInside as ParcelInside
use Rattle.vbn_ranges.proofs.stock.Stock.TheSendSync as stock
use Rattle.vbn_ranges.proofs.dead.DeadBlocks.TheSendSync as dead
use Rattle.granted_calls.proofs.crossings.Structs.{struct-send}
use Rattle.granted_calls.proofs.crossings.Directories.{directory-send}

map-inside-send : IsSend MapInside.the_row
map-inside-send = struct-send MapInside.the_type (search (directory-send, BTreeMap-send, crosses, sendable) depth 20, tt)

map-send : IsSend Map.the_row
map-send = view_send MapInside.the_row _ _ _ _ map-inside-send

texts-inside-send : IsSend TextsInside.the_row
texts-inside-send = struct-send TextsInside.the_type (search (name.the_send, BTreeMap-send, crosses, sendable) depth 20, tt)

texts-send : IsSend Texts.the_row
texts-send = view_send TextsInside.the_row _ _ _ _ texts-inside-send

logical-send : IsSend Logical.the_row
logical-send = struct-send Logical.the_type (
  verifier.the_field_send,
  (
    search sendable depth 20,
    (
      search sendable depth 20,
      (
        search sendable depth 20,
        (search sendable depth 20, (inodes.the_send, (map-send, (texts-send, (stock.the_send, (dead.the_send, (memos.the_send, tt))))))),
      ),
    ),
  ),
)

parcel-inside-send : IsSend ParcelInside.the_row
parcel-inside-send = struct-send ParcelInside.the_type (Box-send Logical.the_row logical-send, tt)

pub logical-parcel-send : IsSend Parcel.the_row
logical-parcel-send = view_send ParcelInside.the_row _ _ _ _ parcel-inside-send
