-- WRITE of callers that are checked: how it differs from one of whom nothing is asked.
use Rattle.std.proofs.Common.{◌≡◌, ℕ, ◌+◌, ◌==◌, ◌||◌, not, Bool, true, false, List, length, min, Option, Some, None, refl, ap, ◌∙◌, nat_lt}
use Rattle.std.specs.Prelude.{if◌then◌else◌, is_some, is_none}
use Rattle.std.specs.FinMap.{get}
use Rattle.nfs_model.specs.Types.{Status, Invalid, WriteDone}
use Rattle.nfs_model.specs.Tree.{Affinity, Logical, Volume, Stripe}
use Rattle.nfs_model.specs.Server.{FileNode, Node, File, VolumeState, most_bytes}
use Rattle.nfs_model.specs.Locate.{Effect, Fails, Tells, Changes, unless, on_file}
use Rattle.nfs_model.specs.Parts.{Parts}
use Rattle.nfs_model.specs.Serial.Rights.{without_set_ids}
use Rattle.nfs_model.specs.Serial.Permission.{write_rights, of_file, refusal_of}
use Rattle.nfs_model.specs.Serial.Setattr.{with_node}
use Rattle.nfs_model.specs.Serial.Write.{Writing, bytes_kept, need, write_fault, space_fault, write, write_some, written_file, file_taken, clears_set_ids}
use Rattle.nfs_model.specs.Work.{Ready, move_if, ready, ready_bytes}
use Rattle.filer_state.specs.state.Contents.{VolumeContents}
use Rattle.filer_state.specs.state.Tree.{volume_of}
use Rattle.filer_state.specs.state.Partition.{parts_of}
use Rattle.filer_state.specs.state.Calls.{VolumeCall, located_on, move_on, answer_of}
use Rattle.filer_state.specs.bytes.WritingLaws.{plain, write_call}
use Rattle.filer_state.specs.bytes.Permitted.{owner_at, write_refused, clears_owned, write_by}
use Rattle.filer_state.specs.bytes.lemmas.Callers.{owner_seen, asked-seen, seen-owner}
use Rattle.filer_state.specs.bytes.lemmas.Checks.{ready_on}

-- ---- what there is to know of it, with other words on the set-id bits

abbrev pub reclear : Bool → Option Ready → Option Ready
reclear clears None = None
reclear clears (Some r) = Some (record r { clears = clears })

-- above a stripe they move nothing
pub logical-ignores : (parts : Parts) (v : ℕ) (clears : Bool) (r : Option Ready)
    → move_if (Some parts) (Logical v) (reclear clears r) ≡ move_if (Some parts) (Logical v) r
logical-ignores parts v clears None = refl
logical-ignores parts v clears (Some r) = refl

pub volume-ignores : (parts : Parts) (v : ℕ) (clears : Bool) (r : Option Ready)
    → move_if (Some parts) (Volume v) (reclear clears r) ≡ move_if (Some parts) (Volume v) r
volume-ignores parts v clears None = refl
volume-ignores parts v clears (Some r) = refl

-- from a stripe it moves for them
pub stripe-moves : (parts : Parts) (v i : ℕ) (r : Ready) → move_if (Some parts) (Stripe v i) (reclear true (Some r)) ≡ Some (Logical v)
stripe-moves parts v i r = by r.extends
  where
    by : (b : Bool) → (if b || true || nat_lt 0 r.need then Some (Logical v) else None) ≡ Some (Logical v)
    by true = refl
    by false = refl

-- where it moves anyway
pub stripe-moves-too : (parts : Parts) (v i : ℕ) (a : Affinity) (r : Option Ready) → move_if (Some parts) (Stripe v i) r ≡ Some a
    → move_if (Some parts) (Stripe v i) (reclear true r) ≡ Some a
stripe-moves-too parts v i a None moves = absurd cc
stripe-moves-too parts v i a (Some r) moves = by (r.extends || r.clears || nat_lt 0 r.need) moves
  where
    by : (b : Bool) → (if b then Some (Logical v) else None) ≡ Some a → move_if (Some parts) (Stripe v i) (reclear true (Some r)) ≡ Some a
    by true e = stripe-moves parts v i r ∙ e
    by false e = absurd cc

module _ (p : VolumeContents) (f : ℕ) (handle : List ℕ) (w : Writing) (node : Affinity) where
  abbrev seen : VolumeState
  seen = volume_of p

  abbrev plain_call : VolumeCall
  plain_call = write_call handle node f w

  abbrev asked : VolumeCall
  asked = write_by handle node f w

  abbrev here : Option Node
  here = get seen.nodes f

  abbrev ready_by : Option Node → Option Ready
  ready_by x = ready (Some (located_on asked p)) x w.caller w.offset w.count (length w.written)

  -- ---- what it does

  abbrev effect_by : Option Node → Effect
  effect_by x = on_file x (λ g. if not (w.count == length w.written) then Fails Invalid
      else if w.count == 0 then Tells (WriteDone 0 seen.verifier) else write_some seen f g w)

  abbrev effect_plain : Option Node → Effect
  effect_plain x = on_file x (λ g. if not (w.count == length w.written) then Fails Invalid
      else if w.count == 0 then Tells (WriteDone 0 seen.verifier) else write_some seen f g (plain w))

  -- the volume that it leaves
  abbrev pub taken : Option Node → VolumeState → VolumeState
  taken (Some (File g)) volume = with_node seen f (File (written_file (file_taken w.caller g) w.offset (bytes_kept w) w.moment))
  taken x volume = volume

  abbrev pub retake : Option Node → Effect → Effect
  retake x (Fails status) = Fails status
  retake x (Tells answer) = Tells answer
  retake x (Changes answer volume) = Changes answer (taken x volume)

  pub answer-same : (x : Option Node) (e : Effect) → answer_of 2 (retake x e) ≡ answer_of 2 e
  answer-same x (Fails status) = refl
  answer-same x (Tells answer) = refl
  answer-same x (Changes answer volume) = refl

  effect-by : (x : Option Node) → effect_by x ≡ retake x (effect_plain x)
  effect-by (Some (File g)) = by (w.count == length w.written) (w.count == 0) (write_fault seen w.offset (length (bytes_kept w)))
      (space_fault seen g w.offset (length (bytes_kept w)))
    where
      change : FileNode → Effect
      change h = Changes (WriteDone (length (bytes_kept w)) seen.verifier) (with_node seen f (File (written_file h w.offset (bytes_kept w) w.moment)))

      by : (b t : Bool) (u s : Option Status)
          → (if not b then Fails Invalid
          else if t then Tells (WriteDone 0 seen.verifier) else unless u (unless s (change (file_taken w.caller g))))
          ≡ retake (Some (File g)) (if not b then Fails Invalid
          else if t then Tells (WriteDone 0 seen.verifier) else unless u (unless s (change g)))
      by false t u s = refl
      by true true u s = refl
      by true false (Some status) s = refl
      by true false None (Some status) = refl
      by true false None None = refl
  effect-by x = refl

  -- nothing else, where the mode stays
  effect-same : (x : Option Node) → clears_owned w.caller (owner_seen x) ≡ false → effect_by x ≡ effect_plain x
  effect-same (Some (File g)) stays =
      ap (λ (h : FileNode). if not (w.count == length w.written) then Fails Invalid
      else if w.count == 0 then Tells (WriteDone 0 seen.verifier)
      else unless (write_fault seen w.offset (length (bytes_kept w)))
      (unless (space_fault seen g w.offset (length (bytes_kept w)))
      (Changes (WriteDone (length (bytes_kept w)) seen.verifier)
      (with_node seen f (File (written_file h w.offset (bytes_kept w) w.moment)))))) kept
    where
      kept : file_taken w.caller g ≡ g
      kept = ap (λ (b : Bool). if b then record g { attributes = record g.attributes { mode = without_set_ids g.attributes.mode } } else g) stays
  effect-same x stays = refl

  -- ---- what there is to know of it

  ready-by : (x : Option Node) → write_refused w.caller (owner_seen x) ≡ None
      → ready_by x ≡ reclear (clears_owned w.caller (owner_seen x)) (ready_on p f handle w node x)
  ready-by (Some (File g)) permits =
      ap (λ (o : Option Status). if is_some o then None
      else if not (w.count == length w.written) then None
      else if w.count == 0 then None
      else ready_bytes seen w.caller g w.offset (min w.count most_bytes)) permits
      ∙ by (w.count == length w.written) (w.count == 0) (is_some (write_fault seen w.offset (min w.count most_bytes)))
    where
      told : Bool → Ready
      told clears = record {
        need = need g w.offset (min w.count most_bytes);
        extends = nat_lt (length g.bytes) (w.offset + min w.count most_bytes);
        clears = clears;
        fits = is_none (space_fault seen g w.offset (min w.count most_bytes));
      }

      by : (b t u : Bool) → (if not b then None else if t then None else if u then None else Some (told (clears_set_ids w.caller g)))
          ≡ reclear (clears_set_ids w.caller g) (if not b then None else if t then None else if u then None else Some (told false))
      by false t u = refl
      by true true u = refl
      by true false true = refl
      by true false false = refl
  ready-by x permits = refl

  ready-same : (x : Option Node) → reclear false (ready_on p f handle w node x) ≡ ready_on p f handle w node x
  ready-same (Some (File g)) = by (w.count == length w.written) (w.count == 0) (is_some (write_fault seen w.offset (min w.count most_bytes)))
    where
      told : Ready
      told = record {
        need = need g w.offset (min w.count most_bytes);
        extends = nat_lt (length g.bytes) (w.offset + min w.count most_bytes);
        clears = false;
        fits = is_none (space_fault seen g w.offset (min w.count most_bytes));
      }

      by : (b t u : Bool) → reclear false (if not b then None else if t then None else if u then None else Some told)
          ≡ (if not b then None else if t then None else if u then None else Some told)
      by false t u = refl
      by true true u = refl
      by true false true = refl
      by true false false = refl
  ready-same x = refl

  ready-none : (x : Option Node) (status : Status) → write_refused w.caller (owner_seen x) ≡ Some status → ready_by x ≡ None
  ready-none (Some (File g)) status refuses =
      ap (λ (o : Option Status). if is_some o then None
      else if not (w.count == length w.written) then None
      else if w.count == 0 then None
      else ready_bytes seen w.caller g w.offset (min w.count most_bytes)) refuses
  ready-none x status refuses = refl

  -- ---- by who owns the file

  refused-is : (o : Option Status) → write_refused w.caller (owner_at (get p.logical.inodes.inodes f)) ≡ o
      → refusal_of w.caller true (of_file here (write_rights w.caller.credential)) ≡ o
  refused-is o is =
      ap (refusal_of w.caller true) (asked-seen here (write_rights w.caller.credential)) ∙ ap (write_refused w.caller) (seen-owner p f) ∙ is

  -- where it is refused
  pub refused-run : (status : Status) → write_refused w.caller (owner_at (get p.logical.inodes.inodes f)) ≡ Some status → asked.run seen ≡ Fails status
  refused-run status refuses = ap (λ r. unless r (write w seen f)) (refused-is (Some status) refuses)

  pub refused-stays : (status : Status) → write_refused w.caller (owner_at (get p.logical.inodes.inodes f)) ≡ Some status → move_on asked p ≡ None
  refused-stays status refuses =
      ap (move_if (Some (parts_of p)) node) (ready-none here status (ap (write_refused w.caller) (seen-owner p f) ∙ refuses))

  -- where it isn't
  module _ (permits : write_refused w.caller (owner_at (get p.logical.inodes.inodes f)) ≡ None) where
    pub ran : asked.run seen ≡ retake here (plain_call.run seen)
    ran = ap (λ r. unless r (write w seen f)) (refused-is None permits) ∙ effect-by here

    pub knows : ready_by here ≡ reclear (clears_owned w.caller (owner_at (get p.logical.inodes.inodes f))) (ready_on p f handle w node here)
    knows =
        ready-by here (ap (write_refused w.caller) (seen-owner p f) ∙ permits)
        ∙ ap (λ o. reclear (clears_owned w.caller o) (ready_on p f handle w node here)) (seen-owner p f)

    -- and the mode stays
    module _ (stays : clears_owned w.caller (owner_at (get p.logical.inodes.inodes f)) ≡ false) where
      pub same-run : asked.run seen ≡ plain_call.run seen
      same-run =
          ap (λ r. unless r (write w seen f)) (refused-is None permits)
          ∙ effect-same here (ap (clears_owned w.caller) (seen-owner p f) ∙ stays)

      pub same-move : move_on asked p ≡ move_on plain_call p
      same-move = ap (move_if (Some (parts_of p)) node)
          (knows ∙ ap (λ (b : Bool). reclear b (ready_on p f handle w node here)) stays ∙ ready-same here)
