-- What is refused where directories alone tell.
use Rattle.std.proofs.Common.{◌≡◌, ◌==◌, Bool, true, false, Option, Some, None, refl, ap, ◌∙◌}
use Rattle.std.specs.Prelude.{◌&&◌, ◌||◌, not, if◌then◌else◌}
use Rattle.nfs_model.specs.Types as types
use Rattle.nfs_model.specs.Types.{Credential, Kind, Regular, SpecialKind, Status}
use Rattle.nfs_model.specs.Serial.Rights.{Protection, Rights, may_change, is_sticky, is_owner_or_root, is_executable, digit_rights, digit_for}
use Rattle.nfs_model.specs.Serial.Permission.{needs, then_asks}
use Rattle.filer_state.specs.permissions.Refusing.{gone_asked, target_asked, moved_kind, move_asked}
use Rattle.service_names.specs.Refusing.{is_free, is_settled, unless_one}

module _ (who : Credential) where
  -- whoever may take any name from a directory may take each, and put one in
  free-drops : (d o : Protection) → is_free who d ≡ true → gone_asked who d (Some o) ≡ None
  free-drops d o free = by (may_change who d) (is_sticky d) (is_owner_or_root who d) (is_owner_or_root who o) free
    where
      by : (m s a b : Bool) → (m && (not s || a || a)) ≡ true → then_asks (needs m) (needs (not s || a || b)) ≡ None
      by false s a b e = absurd cc
      by true false a b e = refl
      by true true true b e = refl
      by true true false b e = absurd cc

  free-comes : (d : Protection) (x : Option Protection) → is_free who d ≡ true → target_asked who d x ≡ None
  free-comes d None free = by (may_change who d) (not (is_sticky d) || is_owner_or_root who d || is_owner_or_root who d) free
    where
      by : (m b : Bool) → (m && b) ≡ true → needs m ≡ None
      by false b e = absurd cc
      by true b e = refl
  free-comes d (Some o) free = free-drops d o free

  -- uid 0 may write everything
  abbrev of_root : Protection → Rights
  of_root o = record { reads = true; writes = true; executes = is_executable o.kind o.mode }

  moves-freely : (stays : Bool) (o : Protection) (k : Kind) → (stays || (who.uid == 0)) ≡ true → moved_kind who stays o k ≡ None
  moves-freely stays o Regular e = refl
  moves-freely stays o (SpecialKind special) e = refl
  moves-freely true o types.DirectoryKind e = refl
  moves-freely false o types.DirectoryKind e =
      ap (λ (b : Bool). needs (if b then of_root o else digit_rights (digit_for who o)).writes) e

  settled-moves : (stays : Bool) (source target : Protection) → is_settled who stays source target ≡ true → (x y : Option Protection)
      → move_asked who stays source target x y ≡ None
  settled-moves stays source target all None y = refl
  settled-moves stays source target all (Some o) y = by (is_free who source) refl (is_free who target) refl (stays || (who.uid == 0)) refl all
    where
      by : (a : Bool) → is_free who source ≡ a → (b : Bool) → is_free who target ≡ b → (c : Bool) → (stays || (who.uid == 0)) ≡ c
          → (a && b && c) ≡ true → move_asked who stays source target (Some o) y ≡ None
      by false p b q c r e = absurd cc
      by true p false q c r e = absurd cc
      by true p true q false r e = absurd cc
      by true p true q true r e =
          ap (λ (z : Option Status). then_asks z (then_asks (target_asked who target y) (moved_kind who stays o o.kind))) (free-drops source o p)
          ∙ ap (λ (z : Option Status). then_asks z (moved_kind who stays o o.kind)) (free-comes target y q)
          ∙ moves-freely stays o o.kind r

  -- nor is anything asked of two names of one node
  pub settled-unless : (stays : Bool) (source target : Protection) → is_settled who stays source target ≡ true → (x y : Option Protection)
      → (one : Bool) → unless_one one (move_asked who stays source target x y) ≡ None
  settled-unless stays source target all x y true = refl
  settled-unless stays source target all x y false = settled-moves stays source target all x y
