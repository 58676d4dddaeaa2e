-- The handles of calls and replies, as they are spelled (nfs_fh3, RFC 1813 section 2.6).
use Rattle.std.specs.Option.{option_map}
use Rattle.std.specs.Prelude.{ℕ, List, map}
use Rattle.nfs_model.specs.Types as model
use Rattle.rpc_msg.specs.declared.handle_form.HandleForm.{HandleForm}
use Rattle.rpc_msg.specs.declared.handle_form.HandleForm.TheVariants.{Plain, OfRun}
use Rattle.nfs_values.specs.Call.{call_with}
use Rattle.rpc_msg.specs.HandleForm.{heard_in_run, told_in_run}

-- a call that came, as the server has it
abbrev pub call_heard : HandleForm → model.Call → model.Call
call_heard Plain call = call
call_heard (OfRun run) call = call_with (heard_in_run run) call

-- an entry with another handle in place of its own, if it has one (RFC 1813 section 3.3.17)
abbrev pub listed_with : (List ℕ → List ℕ) → model.ListedPlus → model.ListedPlus
listed_with f e = record e { handle = option_map f e.handle }

-- results with another handle in place of each of theirs (RFC 1813 section 3.3, and MNT of appendix I)
abbrev pub answer_with : (List ℕ → List ℕ) → model.Answer → model.Answer
answer_with f (model.LookupDone handle object directory) = model.LookupDone (f handle) object directory
answer_with f (model.MadeDone handle object directory) = model.MadeDone (f handle) object directory
answer_with f (model.ReaddirplusDone directory page eof) = model.ReaddirplusDone directory (map (listed_with f) page) eof
answer_with f (model.MountDone handle) = model.MountDone (f handle)
answer_with f answer = answer

-- a reply of the server, as it is told
abbrev pub reply_told : HandleForm → model.Reply → model.Reply
reply_told Plain reply = reply
reply_told (OfRun run) (model.Success answer) = model.Success (answer_with (told_in_run run) answer)
reply_told (OfRun run) reply = reply
