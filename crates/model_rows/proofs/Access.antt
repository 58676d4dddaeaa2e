-- ACCESS (RFC 1813 section 3.3.4), of a file of uid and gid 65534: who may execute it (32), and whose group counts. Each caller asks for all rights.
-- Comments have the modes in octal.
use Rattle.std.proofs.Common.{◌≡◌, false, [], ◌∷◌, refl}
use Rattle.nfs_model.specs.Types.{CheckAccess, Ask, Success, AccessDone}
use Rattle.nfs_model.specs.Serial.Step.{serial}
use Rattle.nfs_laws.specs.lemmas.Evaluate.{evaluate}
use Rattle.model_rows.proofs.Cases.{at, user, user_in, h, file, with_file, file_shown}

-- ---- uid 0 may READ (1), MODIFY (4) and EXTEND (8), and EXECUTE (32) where somebody may

-- 0100
uid_0_executes_what_its_owner_alone_may :
    (serial (with_file (file 64)) (Ask (CheckAccess (h 2) 63) (user 0 0)) (at 2) false).reply
    ≡ Success (AccessDone (file_shown 64) 45)
uid_0_executes_what_its_owner_alone_may = simp evaluate refl

-- 0010
uid_0_executes_what_its_group_alone_may :
    (serial (with_file (file 8)) (Ask (CheckAccess (h 2) 63) (user 0 0)) (at 2) false).reply
    ≡ Success (AccessDone (file_shown 8) 45)
uid_0_executes_what_its_group_alone_may = simp evaluate refl

-- 0001
uid_0_executes_what_others_alone_may :
    (serial (with_file (file 1)) (Ask (CheckAccess (h 2) 63) (user 0 0)) (at 2) false).reply
    ≡ Success (AccessDone (file_shown 1) 45)
uid_0_executes_what_others_alone_may = simp evaluate refl

-- 07666: what nobody may, though every other bit is there
uid_0_does_not_execute_what_nobody_may :
    (serial (with_file (file 4022)) (Ask (CheckAccess (h 2) 63) (user 0 0)) (at 2) false).reply
    ≡ Success (AccessDone (file_shown 4022) 13)
uid_0_does_not_execute_what_nobody_may = simp evaluate refl

-- ---- gid 0 gives no rights

-- 0770
gid_0_is_one_of_the_others :
    (serial (with_file (file 504)) (Ask (CheckAccess (h 2) 63) (user 7 0)) (at 2) false).reply
    ≡ Success (AccessDone (file_shown 504) 0)
gid_0_is_one_of_the_others = simp evaluate refl

further_group_0_is_one_of_the_others :
    (serial (with_file (file 504)) (Ask (CheckAccess (h 2) 63) (user_in 7 7 (0 ∷ []))) (at 2) false).reply
    ≡ Success (AccessDone (file_shown 504) 0)
further_group_0_is_one_of_the_others = simp evaluate refl

-- 0004
gid_0_does_what_others_may :
    (serial (with_file (file 4)) (Ask (CheckAccess (h 2) 63) (user 7 0)) (at 2) false).reply
    ≡ Success (AccessDone (file_shown 4) 1)
gid_0_does_what_others_may = simp evaluate refl

-- the owner of gid 0 has the owner's digit: 0400
owner_of_gid_0_is_the_owner :
    (serial (with_file (file 256)) (Ask (CheckAccess (h 2) 63) (user 65534 0)) (at 2) false).reply
    ≡ Success (AccessDone (file_shown 256) 1)
owner_of_gid_0_is_the_owner = simp evaluate refl

-- ---- each of 16 further groups counts (authsys_parms, RFC 5531 appendix A): 0020

first_of_16_further_groups_counts :
    (serial (with_file (file 16)) (Ask (CheckAccess (h 2) 63) (user_in 7 7 (65534 ∷ 2 ∷ 3 ∷ 4 ∷ 5 ∷ 6 ∷ 7 ∷ 8 ∷ 9 ∷ 10 ∷ 11 ∷ 12 ∷ 13 ∷ 14 ∷ 15 ∷ 16 ∷ []))) (at 2) false).reply
    ≡ Success (AccessDone (file_shown 16) 12)
first_of_16_further_groups_counts = simp evaluate refl

last_of_16_further_groups_counts :
    (serial (with_file (file 16)) (Ask (CheckAccess (h 2) 63) (user_in 7 7 (1 ∷ 2 ∷ 3 ∷ 4 ∷ 5 ∷ 6 ∷ 7 ∷ 8 ∷ 9 ∷ 10 ∷ 11 ∷ 12 ∷ 13 ∷ 14 ∷ 15 ∷ 65534 ∷ []))) (at 2) false).reply
    ≡ Success (AccessDone (file_shown 16) 12)
last_of_16_further_groups_counts = simp evaluate refl

none_of_16_further_groups_counts :
    (serial (with_file (file 16)) (Ask (CheckAccess (h 2) 63) (user_in 7 7 (1 ∷ 2 ∷ 3 ∷ 4 ∷ 5 ∷ 6 ∷ 7 ∷ 8 ∷ 9 ∷ 10 ∷ 11 ∷ 12 ∷ 13 ∷ 14 ∷ 15 ∷ 16 ∷ []))) (at 2) false).reply
    ≡ Success (AccessDone (file_shown 16) 0)
none_of_16_further_groups_counts = simp evaluate refl
