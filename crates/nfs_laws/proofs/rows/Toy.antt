-- A codec in which each byte is a record, or a fault: 250 is fault 11, of a header; 255 is fault 12, of a record.
use Rattle.std.specs.Prelude.{ℕ, ◌==◌, List, [], ◌∷◌, replicate, Option, Some, None, if◌then◌else◌}
use Rattle.nfs_model.specs.Types.{Null, Getattr, Lookup, Read, Readdir, Write, Fsstat, Census, Asked, Ask}
use Rattle.nfs_model.specs.Server.{handle_bytes}
use Rattle.nfs_model.specs.World.{Scanned, Codec}
use Rattle.nfs_laws.proofs.rows.Cases.{nobody, h, root, a}

-- what a byte asks; most are NULL
abbrev pub asked : ℕ → Asked
asked byte =
    if byte == 200 then Ask (Getattr root) nobody
    else if byte == 201 then Ask (Read (h 2) 0 1) nobody
    else if byte == 202 then Ask (Fsstat root) nobody
    else if byte == 203 then Ask (Getattr (handle_bytes 1 1)) nobody
    else if byte == 204 then Ask Census nobody
    else if byte == 205 then Ask (Write (h 2) 0 1 (7 ∷ [])) nobody
    else if byte == 206 then Ask (Lookup root a) nobody
    else if byte == 207 then Ask (Readdir root 0 (replicate 8 0) 512) nobody
    else if byte == 208 then Ask (Write (h 3) 0 1 (8 ∷ [])) nobody
    else Ask Null nobody

-- the number of the fault that a byte is
abbrev pub fault : ℕ → Option ℕ
fault byte = if byte == 250 then Some 11 else if byte == 255 then Some 12 else None

-- a byte before others
abbrev pub before_others : ℕ → Option ℕ → Scanned → Scanned
before_others byte (Some number) rest = record { served = []; fault = Some number }
before_others byte None rest = record { served = record { xid = byte; asked = asked byte } ∷ rest.served; fault = rest.fault }

abbrev pub scan : List ℕ → Scanned
scan [] = record { served = []; fault = None }
scan (b ∷ bs) = before_others b (fault b) (scan bs)

-- a reply is its xid
abbrev pub toy : Codec
toy = record { scan = scan; reply_record = λ xid reply. xid ∷ [] }
