-- Handles of a run (nfs_fh3, RFC 1813 section 2.6; our profile): volume (4 bytes), fileid (8) and the run's verifier (8), in all results that have
-- one. A handle is of another run where any byte of the verifier is another.
use Rattle.std.proofs.Common.{◌≡◌, ℕ, Bool, List, [], ◌∷◌, ◌++◌, refl}
use Rattle.nfs_model.specs.Types.{Answer, Reply, Success, LookupDone, MadeDone, ReaddirplusDone, MountDone, Shown, Wcc, Listed, ListedPlus}
use Rattle.std.specs.Prelude.{Option, Some}
use Rattle.rpc_msg.specs.declared.handle_form.HandleForm.{HandleForm}
use Rattle.rpc_msg.specs.declared.handle_form.HandleForm.TheVariants.{Plain, OfRun}
use Rattle.rpc_msg.specs.HandleForm.{handle_heard}
use Rattle.rpc_msg.specs.Handles.{reply_told}

-- the run of the verifier 1 to 8
abbrev run : HandleForm
run = OfRun 0x0102030405060708

-- volume 3 and a fileid, as the server has them
abbrev short : ℕ → List ℕ
short fileid = 0 ∷ 0 ∷ 0 ∷ 3 ∷ 0 ∷ 0 ∷ 0 ∷ 0 ∷ 0 ∷ 0 ∷ 0 ∷ fileid ∷ []

-- the same with the verifier behind it
abbrev long : ℕ → List ℕ
long fileid = 0 ∷ 0 ∷ 0 ∷ 3 ∷ 0 ∷ 0 ∷ 0 ∷ 0 ∷ 0 ∷ 0 ∷ 0 ∷ fileid ∷ 1 ∷ 2 ∷ 3 ∷ 4 ∷ 5 ∷ 6 ∷ 7 ∷ 8 ∷ []

-- ---- told, in results

abbrev told : Answer → Reply
told answer = reply_told run (Success answer)

-- LOOKUP (section 3.3.3)
handle_that_was_looked_up : (object directory : Shown) → told (LookupDone (short 5) object directory) ≡ Success (LookupDone (long 5) object directory)
handle_that_was_looked_up object directory = refl

-- CREATE and MKDIR (sections 3.3.8 and 3.3.9)
handle_of_what_was_made : (object : Shown) (directory : Wcc) → told (MadeDone (short 5) object directory) ≡ Success (MadeDone (long 5) object directory)
handle_of_what_was_made object directory = refl

abbrev plus : Listed → Option Shown → List ℕ → ListedPlus
plus e shown handle = record { entry = e; attributes = shown; handle = Some handle }

-- READDIRPLUS (section 3.3.17), of each entry
handles_of_a_page : (directory : Shown) (e g : Listed) (of_e of_g : Option Shown) (eof : Bool)
    → told (ReaddirplusDone directory (plus e of_e (short 5) ∷ plus g of_g (short 9) ∷ []) eof)
    ≡ Success (ReaddirplusDone directory (plus e of_e (long 5) ∷ plus g of_g (long 9) ∷ []) eof)
handles_of_a_page directory e g of_e of_g eof = refl

-- MNT (appendix I, section 5.2.1)
handle_of_a_mount : told (MountDone (short 1)) ≡ Success (MountDone (long 1))
handle_of_a_mount = refl

-- without a run all stay as they are
plain_handle_is_told : (object directory : Shown) → reply_told Plain (Success (LookupDone (short 5) object directory))
    ≡ Success (LookupDone (short 5) object directory)
plain_handle_is_told object directory = refl

-- ---- heard

abbrev heard : List ℕ → List ℕ
heard bytes = handle_heard run bytes

-- volume 3 and fileid 5 behind which a verifier stands
abbrev with : List ℕ → List ℕ
with verifier = short 5 ++ verifier

-- volume 3 and fileid 0, which no file has
abbrev stale : List ℕ
stale = 0 ∷ 0 ∷ 0 ∷ 3 ∷ 0 ∷ 0 ∷ 0 ∷ 0 ∷ 0 ∷ 0 ∷ 0 ∷ 0 ∷ []

this_run : heard (with (1 ∷ 2 ∷ 3 ∷ 4 ∷ 5 ∷ 6 ∷ 7 ∷ 8 ∷ [])) ≡ short 5
this_run = refl

another_first_byte : heard (with (0 ∷ 2 ∷ 3 ∷ 4 ∷ 5 ∷ 6 ∷ 7 ∷ 8 ∷ [])) ≡ stale
another_first_byte = refl

another_second_byte : heard (with (1 ∷ 3 ∷ 3 ∷ 4 ∷ 5 ∷ 6 ∷ 7 ∷ 8 ∷ [])) ≡ stale
another_second_byte = refl

another_third_byte : heard (with (1 ∷ 2 ∷ 2 ∷ 4 ∷ 5 ∷ 6 ∷ 7 ∷ 8 ∷ [])) ≡ stale
another_third_byte = refl

another_fourth_byte : heard (with (1 ∷ 2 ∷ 3 ∷ 5 ∷ 5 ∷ 6 ∷ 7 ∷ 8 ∷ [])) ≡ stale
another_fourth_byte = refl

another_fifth_byte : heard (with (1 ∷ 2 ∷ 3 ∷ 4 ∷ 4 ∷ 6 ∷ 7 ∷ 8 ∷ [])) ≡ stale
another_fifth_byte = refl

another_sixth_byte : heard (with (1 ∷ 2 ∷ 3 ∷ 4 ∷ 5 ∷ 7 ∷ 7 ∷ 8 ∷ [])) ≡ stale
another_sixth_byte = refl

another_seventh_byte : heard (with (1 ∷ 2 ∷ 3 ∷ 4 ∷ 5 ∷ 6 ∷ 6 ∷ 8 ∷ [])) ≡ stale
another_seventh_byte = refl

another_eighth_byte : heard (with (1 ∷ 2 ∷ 3 ∷ 4 ∷ 5 ∷ 6 ∷ 7 ∷ 9 ∷ [])) ≡ stale
another_eighth_byte = refl

without_a_verifier_it_is_none : heard (short 5) ≡ []
without_a_verifier_it_is_none = refl

one_byte_more_is_none : heard (long 5 ++ 0 ∷ []) ≡ []
one_byte_more_is_none = refl

plain_handle_is_heard : handle_heard Plain (long 5) ≡ long 5
plain_handle_is_heard = refl
