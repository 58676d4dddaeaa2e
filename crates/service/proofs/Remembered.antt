-- A call that is done once, from what it comes to where nothing is remembered.
use Rattle.std.proofs.Common.{◌≡◌, ℕ, ◌+◌, arith, Bool, true, false, cond, List, [], Option, Some, None, refl, sym, ap, ◌∙◌, subst}
use Rattle.std.specs.Prelude.{IsTrue}
use Rattle.std.specs.Option.{option_map}
use Rattle.nfs_model.specs.Types as types
use Rattle.nfs_model.specs.Types.{Caller, Moment, Answer, Success}
use Rattle.nfs_model.specs.Memo.{Change, Told, Memo}
use Rattle.nfs_model.specs.Tree.{Layout, Affinity, Logical}
use Rattle.nfs_model.specs.Server.{Named, VolumeState}
use Rattle.nfs_model.specs.Parts.{Hand}
use Rattle.nfs_model.specs.Moves.{Stored, PartsChange, emptied_by}
use Rattle.nfs_model.specs.Locate.{Effect, Fails, Tells, Changes}
use Rattle.nfs_model.specs.Serial.Absent.{absent_parts}
use Rattle.nfs_model.specs.Serial.Starve.{takes_memory}
use Rattle.nfs_model.specs.Serial.Once.{change_of, told_of, told_before, told_among, answer_told, memos_with, memos_after, remembered, or_told, once}
use Rattle.nfs_model.specs.Work.{Outcome, Replied, Starved, Moved}
use Rattle.filer_state.specs.state.Calls.{VolumeCall, WorksOn, answer_on, answer_of, volume_left, move_of_located, move_on}
use Rattle.nfs_model.specs.volume.Logical.{LogicalValue}
use Rattle.filer_state.specs.attributes.lemmas.Setattr.{emptied-none}
use Rattle.filer_state.specs.laws.lemmas.Steps.{sound-later}
use Rattle.filer_state.specs.state.Contents.{VolumeContents}
use Rattle.filer_state.specs.state.Lenses.{LogicalSet, logical_lens}
use Rattle.filer_state.specs.state.Names.{IsLogical}
use Rattle.filer_state.specs.state.Partition.{stored, times_in_hand}
use Rattle.filer_state.specs.state.Running.{RunsOn, UnlessReplied}
use Rattle.filer_state.specs.state.Sound.{IsSound, IsYoung}
use Rattle.filer_state.specs.state.Tree.{volume_of}
use Rattle.filer_state.specs.state.WellFormed.{WellFormed, StripeFits}
use Rattle.service.specs.Running.{call_named, allowed_named, allowed, is_done_once, remembering, other_in}

-- ---- what is remembered changes nothing else

abbrev with_memos : List (Option Memo) → VolumeContents → VolumeContents
with_memos memos p = record p { logical = record p.logical { memos = memos } }

stays-sound : (p : VolumeContents) (memos : List (Option Memo)) (hands : List Hand) (made : ℕ) → IsSound p hands made
    → IsSound (with_memos memos p) hands made
stays-sound p memos hands made s =
    let w = s.well_formed in
    let l = w.logical in record {
      well_formed = record {
        striped = w.striped;
        largest = w.largest;
        most_inodes = w.most_inodes;
        size = w.size;
        logical = record { inodes = l.inodes; few = l.few; sizes = l.sizes; named = l.named; texts = l.texts };
        as_many = w.as_many;
        stripes = λ i less. let f = w.stripes i less in record {
          verifier = f.verifier;
          stripes = f.stripes;
          largest = f.largest;
          cards = f.cards;
          owners = f.owners;
          long = f.long;
          blocks = f.blocks;
        };
        used = w.used;
        filled = w.filled;
        sixteen = w.sixteen;
        some = w.some;
        ranges = w.ranges;
      };
      young = record { fileids = s.young.fileids; cookies = s.young.cookies };
      partition = s.partition;
    }

parts-stay : (call : types.Call) (node : Affinity) (old : Stored) (new : VolumeContents) (memos : List (Option Memo))
    → PartsChange call node old (stored new) → PartsChange call node old (stored (with_memos memos new))
parts-stay (types.Write handle offset count written) node old new memos change = change
parts-stay (types.Setattr handle set guard) node old new memos change = change
parts-stay (types.Create directory name mode) node old new memos change = change
parts-stay (types.Remove directory name) node old new memos change = change
parts-stay (types.Rename from from_name to to_name) node old new memos change = change
parts-stay (types.Grow volume ranges) node old new memos change = change
parts-stay call node old new memos change = change

-- ---- which calls

not-kept : (call : types.Call) → is_done_once call ≡ false → change_of call ≡ None
not-kept (types.Setattr handle set guard) e = absurd cc
not-kept (types.Create directory name mode) e = absurd cc
not-kept (types.Mkdir directory name set) e = absurd cc
not-kept (types.Symlink directory name set text) e = absurd cc
not-kept (types.Mknod directory name kind set) e = absurd cc
not-kept (types.Remove directory name) e = absurd cc
not-kept (types.Rmdir directory name) e = absurd cc
not-kept (types.Rename from from_name to to_name) e = absurd cc
not-kept (types.Link handle directory name) e = absurd cc
not-kept call e = refl

not-moved : (call : types.Call) (c : VolumeCall) (p : VolumeContents) → is_done_once call ≡ true → move_of_located call c p ≡ None
not-moved (types.Write handle offset count written) c p e = absurd cc
not-moved call c p e = refl

-- where a call moves doesn't go by what it does
pub alike-moved : (call asked : types.Call) (caller : Caller) (node : Affinity) (fileid : ℕ) (f g : VolumeState → Effect) (p : VolumeContents)
    → move_of_located call (record { call = asked; caller = caller; node = node; fileid = fileid; run = f }) p
    ≡ move_of_located call (record { call = asked; caller = caller; node = node; fileid = fileid; run = g }) p
alike-moved (types.Write handle offset count written) asked caller node fileid f g p = refl
alike-moved call asked caller node fileid f g p = refl

-- where such a call leaves all as it is, no block moves
pub says-nothing : (call : types.Call) (node : Affinity) (s : Stored) → is_done_once call ≡ true → PartsChange call node s s
says-nothing (types.Setattr handle set guard) node s e = emptied-none s.parts s.parts (emptied_by s s) (omega arith) refl refl refl refl
says-nothing (types.Create directory name mode) node s e = emptied-none s.parts s.parts (emptied_by s s) (omega arith) refl refl refl refl
says-nothing (types.Remove directory name) node s e = emptied-none s.parts s.parts (emptied_by s s) (omega arith) refl refl refl refl
says-nothing (types.Rename from from_name to to_name) node s e = emptied-none s.parts s.parts (emptied_by s s) (omega arith) refl refl refl refl
says-nothing (types.Mkdir directory name set) node s e = refl
says-nothing (types.Symlink directory name set text) node s e = refl
says-nothing (types.Mknod directory name kind set) node s e = refl
says-nothing (types.Rmdir directory name) node s e = refl
says-nothing (types.Link handle directory name) node s e = refl
says-nothing call node s e = absurd cc

answer-in : (a b : Answer) → Success a ≡ Success b → a ≡ b
answer-in a b e = cc

-- a failure isn't remembered
nothing-kept : (memos : List (Option Memo)) (caller : Caller) (change : Option Change) (moment : Moment)
    → memos_with memos caller change moment None ≡ memos
nothing-kept memos caller None moment = refl
nothing-kept memos caller (Some change) moment = refl

module _ (layout : Layout) (named : Named) (caller : Caller) (moment : Moment) (call : types.Call) where
  abbrev plain : VolumeCall
  plain = allowed_named layout named caller moment call

  abbrev whole : VolumeCall
  whole = call_named layout named caller moment call

  -- the effect of the call on a volume, and that of its being done once
  abbrev on_it : VolumeState → Effect
  on_it volume = allowed call (other_in layout call) caller moment volume named.fileid

  abbrev done : Bool → VolumeState → Effect
  done b volume = cond b (once caller call moment volume (on_it volume)) (on_it volume)

  -- ---- told again

  told-so : (memos : List (Option Memo)) (told : Told) (b : Bool) → is_done_once call ≡ b → told_before memos caller call moment ≡ Some told → b ≡ true
  told-so memos told true is e = refl
  told-so memos told false is e =
      let none : told_before memos caller call moment ≡ None = ap (λ (change : Option Change). told_among memos caller change moment) (not-kept call is) in
      absurd cc

  told-effect : (volume : VolumeState) (told : Told) → told_before volume.memos caller call moment ≡ Some told
      → done (is_done_once call) volume ≡ Tells (answer_told volume.number told)
  told-effect volume told e =
      ap (λ (b : Bool). done b volume) (told-so volume.memos told (is_done_once call) refl e)
      ∙ ap (λ (o : Option Told). or_told volume o (remembered caller call moment volume (on_it volume))) e

  -- ---- done, and remembered

  -- the answer is the same
  same-answer : (absent : ℕ) (volume : VolumeState) (f : Effect) → answer_of absent (remembered caller call moment volume f) ≡ answer_of absent f
  same-answer absent volume (Fails status) = refl
  same-answer absent volume (Tells answer) = refl
  same-answer absent volume (Changes answer new) = refl

  answer-by : (absent : ℕ) (volume : VolumeState) (b : Bool) → told_before volume.memos caller call moment ≡ None
      → answer_of absent (done b volume) ≡ answer_of absent (on_it volume)
  answer-by absent volume false e = refl
  answer-by absent volume true e =
      ap (λ (o : Option Told). answer_of absent (or_told volume o (remembered caller call moment volume (on_it volume)))) e
      ∙ same-answer absent volume (on_it volume)

  -- the volume after it
  abbrev kept : Answer → VolumeState → VolumeState
  kept answer volume = record volume { memos = memos_after volume.memos caller call moment answer }

  left-by : (absent : ℕ) (volume : VolumeState) (f : Effect)
      → kept (answer_of absent f) (volume_left volume f) ≡ volume_left volume (remembered caller call moment volume f)
  left-by absent volume (Fails status) = λ j. record volume { memos = nothing-kept volume.memos caller (change_of call) moment j }
  left-by absent volume (Tells answer) = refl
  left-by absent volume (Changes answer new) = refl

  left-so : (absent : ℕ) (volume : VolumeState) (b : Bool) → is_done_once call ≡ b → told_before volume.memos caller call moment ≡ None
      → kept (answer_of absent (on_it volume)) (volume_left volume (on_it volume)) ≡ volume_left volume (done b volume)
  left-so absent volume true is e =
      left-by absent volume (on_it volume)
      ∙ ap (λ (o : Option Told). volume_left volume (or_told volume o (remembered caller call moment volume (on_it volume)))) (sym e)
  left-so absent volume false is e =
      let answer = answer_of absent (on_it volume) in
      let left = volume_left volume (on_it volume) in
      ap (λ (change : Option Change). let v : VolumeState = record left { memos = memos_with left.memos caller change moment (told_of answer) } in v)
      (not-kept call is)

  -- ---- the run

  -- what was told is told again, and nothing changes
  pub told-runs : (old : LogicalSet) (told : Told) → told_before old.own.memos caller call moment ≡ Some told
      → RunsOn named.volume logical_lens whole old (Replied (Success (answer_told named.volume told))) old
  told-runs old told e = λ p hands hands' made has numbered sound moved.
      let v = volume_of p in
      let here : told_before v.memos caller call moment ≡ Some told =
      ap (λ (s : LogicalSet). told_before s.own.memos caller call moment) has ∙ e in
      let is = told-so v.memos told (is_done_once call) refl here in
      let comes = told-effect v told here in
      let absent = absent_parts call in
      let answer : answer_of absent (done (is_done_once call) v) ≡ answer_told named.volume told =
      ap (answer_of absent) comes ∙ ap (λ (n : ℕ). answer_told n told) numbered in
      subst (λ (s : LogicalSet). WorksOn whole p (Replied (Success (answer_told named.volume told))) (logical_lens.put s p)
      × IsSound (logical_lens.put s p) hands' (made + 1)) has (
        (
          not-moved call whole p is,
          ap (λ (a : Answer). Success a) (sym answer),
          sym (ap (volume_left v) comes),
          says-nothing call (Logical named.volume) (stored p) is,
        ),
        sound-later p hands hands' made (λ n. let f = moved (times_in_hand p.number n) in omega (arith, f)) sound,
      )

  same-move : (p : VolumeContents) → move_on whole p ≡ move_on plain p
  same-move p =
      alike-moved call call caller (Logical named.volume) named.fileid (λ volume. done (is_done_once call) volume) on_it p

  -- what wasn't is done, and remembered where it succeeded
  pub done-runs : (old new : LogicalSet) (outcome : Outcome) → told_before old.own.memos caller call moment ≡ None
      → RunsOn named.volume logical_lens plain old outcome new
      → RunsOn named.volume logical_lens whole old outcome (record new { own = remembering caller call moment outcome new.own })
  done-runs old new (Moved node) e right = λ p hands hands' made has numbered sound moved.
      let r = right p hands hands' made has numbered sound moved in
      ((same-move p ∙ r.0.0, r.0.1), r.1)
  done-runs old new Starved e right = λ p hands hands' made has numbered sound moved.
      let r = right p hands hands' made has numbered sound moved in
      let none : told_before (volume_of p).memos caller call moment ≡ None =
      ap (λ (s : LogicalSet). told_before s.own.memos caller call moment) has ∙ e in (
        (
          same-move p ∙ r.0.0,
          (λ server there. subst (λ (a : Answer). IsTrue (takes_memory server call a))
              (sym (answer-by (absent_parts call) (volume_of p) (is_done_once call) none)) (r.0.1 server there)),
          r.0.2,
        ),
        r.1,
      )
  done-runs old new (Replied (Success answer)) e right = λ p hands hands' made has numbered sound moved.
      let r = right p hands hands' made has numbered sound moved in
      let v = volume_of p in
      let absent = absent_parts call in
      let none : told_before v.memos caller call moment ≡ None =
      ap (λ (s : LogicalSet). told_before s.own.memos caller call moment) has ∙ e in
      let same : answer ≡ answer_of absent (on_it v) = answer-in answer (answer_of absent (on_it v)) r.0.1 in
      let memos = memos_after new.own.memos caller call moment answer in (
        (
          same-move p ∙ r.0.0,
          ap (λ (a : Answer). Success a) (same ∙ sym (answer-by absent v (is_done_once call) none)),
          ap (kept answer) r.0.2 ∙ ap (λ (a : Answer). kept a (volume_left v (on_it v))) same ∙ left-so absent v (is_done_once call) refl none,
          parts-stay call (Logical named.volume) (stored p) (logical_lens.put new p) memos r.0.3,
        ),
        stays-sound (logical_lens.put new p) memos hands' (made + 1) r.1,
      )
  done-runs old new (Replied reply) e right = λ p hands hands' made has numbered sound moved.
      let r = right p hands hands' made has numbered sound moved in
      let no : reply ≡ Success (answer_on plain p) = r.0.1 in
      absurd cc

  -- it was there
  pub again-runs : (old : LogicalSet) (told : Told) (outcome : Outcome)
      → told_before old.own.memos caller call moment ≡ Some told → outcome ≡ Replied (Success (answer_told named.volume told))
      → RunsOn named.volume logical_lens whole old outcome old
  again-runs old told outcome e is = subst (λ (o : Outcome). RunsOn named.volume logical_lens whole old o old) (sym is) (told-runs old told e)

  -- none was there
  pub first-runs : (old new : LogicalSet) (outcome : Outcome) → told_before old.own.memos caller call moment ≡ None
      → RunsOn named.volume logical_lens plain old outcome new
      → RunsOn named.volume logical_lens whole old outcome (record new { own = remembering caller call moment outcome new.own })
  first-runs = done-runs

  -- but for a reply nothing more has changed
  pub unless-remembered : {H : Type 0} (outcome : Outcome) (held : LogicalValue → H) (own : LogicalValue) (old : H)
      → UnlessReplied outcome (held own ≡ old) → UnlessReplied outcome (held (remembering caller call moment outcome own) ≡ old)
  unless-remembered (Replied reply) held own old a = tt
  unless-remembered Starved held own old a = a
  unless-remembered (Moved node) held own old a = a
