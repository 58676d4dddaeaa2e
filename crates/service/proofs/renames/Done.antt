-- RENAME by what is under Logical, as its checks come out.
use Rattle.std.proofs.Common.{◌≡◌, ℕ, ◌||◌, Bool, true, false, [], Option, Some, None, Result, Ok, Err, refl, sym, ap, ◌∙◌, subst}
use Rattle.std.specs.Prelude.{not, if◌then◌else◌, IfOk, OnOk, OnErr}
use Rattle.std.specs.declared.alloc.AllocError.{AllocError}
use Rattle.nfs_model.specs.Types.{Status, Answer, Success, Invalid, Exists}
use Rattle.nfs_model.specs.Serial.Rename.{climb_fault}
use Rattle.nfs_model.specs.Names.{is_dots, name_fault}
use Rattle.nfs_values.specs.Answer as values
use Rattle.nfs_values.specs.declared.answer.Answer.TheVariants.{Rename}
use Rattle.nfs_values.specs.declared.answer.RenameResults.{RenameResults}
use Rattle.nfs_values.specs.declared.status.Status as statuses
use Rattle.filer_state.specs.state.Calls.{VolumeCall, ServesOn}
use Rattle.filer_state.specs.state.Changes.{LogicalAnswer}
use Rattle.filer_state.specs.state.Lenses.{LogicalSet, logical_lens}
use Rattle.filer_state.specs.state.Jobs.{Replied}
use Rattle.filer_state.specs.state.Promises.{RightOnVolume}
use Rattle.filer_state.specs.state.Running.{RunsOn}
use Rattle.service_names.specs.ChangeLaws.{IsDone, MayStarve}
use Rattle.service_names.specs.NamedChanges.{HeldNode, node_under, directory_change}
use Rattle.service_names.specs.RenamingChanges.{HeldRenaming, fails_both, unless_both, is_held, held_above, target_may_go, directory_now, set_renamed}
use Rattle.service_names.specs.RenamingChanges.{held_renamed, rename_by, held_rename}
use Rattle.service.specs.renames.Promises.{renaming_outcome}
use Rattle.service.specs.renames.Renaming.{first_fault, names_fault, Renamed}

pub on-err : {A E X : Type 0} (r : Result A E) → X → OnErr r X
on-err (Ok a) x = tt
on-err (Err e) x = x

pub on-err-then : {A E X Y : Type 0} (r : Result A E) → (X → Y) → OnErr r X → OnErr r Y
on-err-then (Ok a) f x = tt
on-err-then (Err e) f x = f x

-- ---- the names

module _ (r : HeldRenaming) where
  abbrev found_so : LogicalAnswer
  found_so = rename_by r (node_under r.from) (node_under r.to)

  faults-first : held_rename r ≡ unless_both (names_fault r.from.name r.to.name) r.from.set found_so
  faults-first = by (name_fault r.from.name) (name_fault r.to.name) (is_dots r.from.name || is_dots r.to.name)
    where
      by : (a b : Option Status) (c : Bool)
          → unless_both a r.from.set (unless_both b r.from.set (if c then fails_both Invalid r.from.set else found_so))
          ≡ unless_both (first_fault a (first_fault b (if c then Some Invalid else None))) r.from.set found_so
      by None None true = refl
      by None None false = refl
      by None (Some y) c = refl
      by (Some x) b c = refl

  module _ (done : LogicalAnswer) (told : done ≡ held_rename r) where
    pub bad-names : (fault : Status) → Some fault ≡ names_fault r.from.name r.to.name → done ≡ fails_both fault r.from.set
    bad-names fault bad = told ∙ faults-first ∙ ap (λ (o : Option Status). unless_both o r.from.set found_so) (sym bad)

    pub good-names : None ≡ names_fault r.from.name r.to.name → (child : Option HeldNode) → child ≡ node_under r.from
        → done ≡ rename_by r child (node_under r.to)
    good-names good child under =
        told ∙ faults-first ∙ ap (λ (o : Option Status). unless_both o r.from.set found_so) (sym good)
        ∙ ap (λ (o : Option HeldNode). rename_by r o (node_under r.to)) (sym under)

-- ---- the checks

module _ (r : HeldRenaming) (child : HeldNode) (target : Option HeldNode) where
  abbrev when_may : Bool → LogicalAnswer
  when_may b = if not b then fails_both Exists r.from.set else held_renamed r (set_renamed r child target)

  abbrev when_met : Option Status → LogicalAnswer
  when_met fault = unless_both fault r.from.set (when_may (target_may_go r.from.set child target))

  abbrev fault_met : Option Status
  fault_met = climb_fault (held_above r child.fileid child.inode.kind)

  abbrev when_one : Bool → LogicalAnswer
  when_one b = if b then held_renamed r r.from.set else when_met fault_met

  module _ (done : LogicalAnswer) (told : done ≡ rename_by r (Some child) target) where
    pub one-node : is_held child target ≡ true → done ≡ held_renamed r r.from.set
    one-node one = told ∙ ap when_one one

    module _ (apart : is_held child target ≡ false) where
      pub bad-place : (fault : Status) → Some fault ≡ fault_met → done ≡ fails_both fault r.from.set
      bad-place fault met = told ∙ ap when_one apart ∙ ap when_met (sym met)

      module _ (beside : None ≡ fault_met) where
        pub node-moved : target_may_go r.from.set child target ≡ true → done ≡ held_renamed r (set_renamed r child target)
        node-moved goes = told ∙ ap when_one apart ∙ ap when_met (sym beside) ∙ ap when_may goes

pub renamed : (r : HeldRenaming) (s : LogicalSet) (done : LogicalAnswer) → done ≡ held_renamed r s → Renamed done.answer
renamed r s done is =
    (directory_change r.from (directory_now r.from s), directory_change r.to (directory_now r.to s), ap (λ (a : LogicalAnswer). a.answer) is)

-- ---- what came of it: a reply that is the law's, or no memory where it may run out

right-by : (v : ℕ) (call : VolumeCall) (old new : LogicalSet) (answer : Answer) (done : LogicalAnswer) → IsDone v call old done
    → answer ≡ done.answer → new ≡ done.set
    → RightOnVolume v logical_lens (ServesOn call false) [] [] old (Replied (Success answer)) new
right-by v call old new answer done law answers leaves =
    subst (λ (a : Answer). RightOnVolume v logical_lens (ServesOn call false) [] [] old (Replied (Success a)) new) (sym answers)
    (subst (λ (s : LogicalSet). RightOnVolume v logical_lens (ServesOn call false) [] [] old (Replied (Success done.answer)) s) (sym leaves) law)

pub renamed-by : (v : ℕ) (call : VolumeCall) (old new : LogicalSet) (done : LogicalAnswer) {Apart : Type 0} → IsDone v call old done
    → (Apart → Renamed done.answer → MayStarve v call old)
    → (r : Result (Result RenameResults statuses.Status) AllocError)
    → IfOk r (λ told. values.answer_of (Rename told) ≡ done.answer) → OnOk r (new ≡ done.set) → OnErr r (Renamed done.answer) → OnErr r Apart
    → OnErr r (new ≡ old) → RunsOn v logical_lens call old (renaming_outcome r) new
renamed-by v call old new done law starve (Ok told) answers leaves would apart back = λ p hands hands' made has numbered sound moved.
    let r = right-by v call old new (values.answer_of (Rename told)) done law answers leaves p hands hands' made has numbered sound moved in
    (r.0.0, r.1)
renamed-by v call old new done law starve (Err e) answers leaves would apart back =
    subst (λ (s : LogicalSet). RunsOn v logical_lens call old (renaming_outcome (Err e)) s) (sym back) (starve apart would)
