use Rattle.std.proofs.Common.{◌≡◌, ℕ, length}
use Rattle.nfs_model.specs.Serial.Mount.{parts}
use Rattle.filer_state.specs.changes.NameAnswers.{mount_answer}
use Rattle.nfs_values.specs.Caller.{caller_of}
use Rattle.filer_state.specs.state.Sets.{logical_before}
use Rattle.service_names.proofs.mounting_below.directory_below.Given as goal

-- What is left leads from where it stands to what all leads to from the first.
abbrev pub invariant-loop-part : goal.invariant-loop-part
invariant-loop-part l =
    (v : ℕ) → mount_answer v (parts l.path) (caller_of l.caller) (logical_before l.held) l.fn.from.0 ≡ mount_answer v (parts l.rest) (caller_of l.caller)
    (logical_before l.held) l.at.0

abbrev pub decreases-loop-part : goal.decreases-loop-part
decreases-loop-part l = length l.rest
