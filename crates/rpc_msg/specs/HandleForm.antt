-- How handles are spelled: a server makes them as it likes, and to clients they are opaque (nfs_fh3, RFC 1813 section 2.6). That of a run
-- is volume and fileid, and then the run's verifier (our profile).
use Rattle.std.specs.Prelude.{ℕ, List, [], ◌++◌, ◌==◌, length, take, drop, replicate, if◌then◌else◌}
use Rattle.std.specs.Int.{w64, to_be_bytes}
use Rattle.nfs_model.specs.Names.{same_name}
use Rattle.rpc_msg.specs.declared.handle_form.HandleForm.{HandleForm}
use Rattle.rpc_msg.specs.declared.handle_form.HandleForm.TheVariants.{Plain, OfRun}

-- the verifier of the run of a number
abbrev pub verifier_of : ℕ → List ℕ
verifier_of run = to_be_bytes w64 run

-- What came as a handle, as the server has it. One of another run keeps its volume, and names fileid 0, which no file has: so it is stale.
-- One of another length is no handle.
abbrev pub heard_in_run : ℕ → List ℕ → List ℕ
heard_in_run run bytes =
    if length bytes == 20
    then (if same_name (drop 12 bytes) (verifier_of run) then take 12 bytes else take 4 bytes ++ replicate 8 0)
    else []

-- a handle of the server, as it is told: its 12 bytes, and the verifier
abbrev pub told_in_run : ℕ → List ℕ → List ℕ
told_in_run run handle = take 12 handle ++ verifier_of run

abbrev pub handle_heard : HandleForm → List ℕ → List ℕ
handle_heard Plain bytes = bytes
handle_heard (OfRun run) bytes = heard_in_run run bytes

abbrev pub handle_told : HandleForm → List ℕ → List ℕ
handle_told Plain handle = handle
handle_told (OfRun run) handle = told_in_run run handle
