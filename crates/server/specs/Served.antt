-- What a server leaves that was served to its end.
use Rattle.std.specs.Prelude.{◌≡◌, ℕ, List, [], ◌∷◌, ◌++◌, codes, length, Option}
use Rattle.std.specs.Fmt.{decimal}
use Rattle.std.specs.Io.KnownBytes.{Appends}
use Rattle.connections.specs.declared.device.Device as devices
use Rattle.filer_lanes.specs.declared.ending.FilerEnd.{FilerEnd}
use Rattle.filer_lanes.specs.Ends.{unfinished_in}
use Rattle.filer_lanes.specs.ThreadedHeadline.{ThreadedHeadline}
use Rattle.granted_calls.specs.Filers.{layout_in, verifier_in}
use Rattle.granted_calls.specs.declared.shared.Filer.{Filer}
use Rattle.lanes.specs.declared.lane.Lane.{Lane}
use Rattle.nfs_values.specs.Moment.{moment_of}
use Rattle.rpc_msg.specs.HandleForm.{verifier_of}
use Rattle.rpc_msg.specs.Offer.{form_of}
use Rattle.rpc_msg.specs.declared.handle_form.HandleForm.TheVariants.{OfRun}
use Rattle.server.specs.Planned.{IsLaidOut}
use Rattle.server.specs.declared.socket.Socket.{Socket}
use Rattle.server_options.specs.declared.options.Options.{Options}

-- the line that tells how many messages weren't finished
abbrev pub left_line : ℕ → List ℕ
left_line count = codes "left " ++ decimal count ++ 10 ∷ []

-- the last that was written to a writer are these bytes, where it tells them
abbrev pub EndsWith : {W : Type 0} → (W → Option (List ℕ)) → W → List ℕ → Type 0
EndsWith {W} contents out bytes = (before : W) × Appends (contents before) (contents out) bytes

-- There is a filer with the volumes that the options plan, begun when they say, whose writes have the verifier of the run that the offer names, if it names
-- one; and there are as many lanes as the options have workers, which offer what the options say. The headline with threads holds of
-- these and of what is left.
pub record HasServed (R : Type 0) (G : devices.Ghosts Socket) (options : Options) (left : FilerEnd) : Type 0 where
  pub filer : Filer
  pub laid_out : IsLaidOut options.volumes options.plan (moment_of options.begun) (layout_in filer)
  pub verifier : (run : ℕ) → form_of options.offer ≡ OfRun run → verifier_in filer ≡ verifier_of run
  pub lanes : List (Lane Socket R G)
  pub workers : length lanes ≡ options.workers
  pub headline : ∥ ThreadedHeadline (layout_in filer) (verifier_in filer) options.offer lanes left ∥₁
