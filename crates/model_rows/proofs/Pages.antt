-- READDIR and READDIRPLUS (RFC 1813 sections 3.3.16 and 3.3.17): a count above 65,536 is taken as that (our profile). Of 65,536 bytes 104 are the
-- page's own, and 65,432 are left.
use Rattle.std.proofs.Common.{◌≡◌, ℕ, ◌+◌, true, false, List, [], ◌∷◌, replicate, Some, None, refl, arith}
use Rattle.std.specs.Prelude.{min}
use Rattle.std.proofs.Math.Nat.{min-eq_right}
use Rattle.nfs_model.specs.Types.{Caller, Listed, Readdir, Readdirplus, Ask, Success, Failed, ReaddirDone, ReaddirplusDone, TooSmall}
use Rattle.nfs_model.specs.Server.{Server, VolumeState}
use Rattle.nfs_model.specs.Serial.Readdir.{readdir}
use Rattle.nfs_model.specs.Serial.Readdirplus.{readdirplus}
use Rattle.nfs_model.specs.Serial.Step.{serial}
use Rattle.nfs_laws.specs.lemmas.Evaluate.{evaluate}
use Rattle.model_rows.proofs.Cases.{at, nobody, h, entry, root_with, holding, root_shown}

-- The only entry of the root, whose node is gone, by the length of its name. No name is longer than 255 bytes; here one is as long as a page of many.
abbrev of_length : ℕ → Listed
of_length count = entry 3 (replicate count 97) 2

abbrev with_length : ℕ → Server
with_length count = holding 3 ((1, root_with 4 (of_length count ∷ [])) ∷ [])

-- ---- READDIRPLUS: 24 bytes and the name, and 116 for attributes and handle

plus_fits_65432 :
    (serial (with_length 65292) (Ask (Readdirplus (h 1) 2 (replicate 8 0) 65536 65536) nobody) (at 1) false).reply
    ≡ Success (ReaddirplusDone (root_shown 0 1) (record { entry = of_length 65292; attributes = None; handle = Some (h 2) } ∷ []) true)
plus_fits_65432 = simp evaluate refl

plus_does_not_fit_65436 : (serial (with_length 65293) (Ask (Readdirplus (h 1) 2 (replicate 8 0) 65536 65536) nobody) (at 1) false).reply
    ≡ Success (Failed TooSmall 1)
plus_does_not_fit_65436 = simp evaluate refl

nor_by_the_largest_counts : (serial (with_length 65293) (Ask (Readdirplus (h 1) 2 (replicate 8 0) 4294967295 4294967295) nobody) (at 1) false).reply
    ≡ Success (Failed TooSmall 1)
nor_by_the_largest_counts = simp evaluate refl

-- ---- READDIR: 24 bytes and the name

fits_65432 :
    (serial (with_length 65408) (Ask (Readdir (h 1) 2 (replicate 8 0) 65536) nobody) (at 1) false).reply
    ≡ Success (ReaddirDone (root_shown 0 1) (of_length 65408 ∷ []) true)
fits_65432 = simp evaluate refl

does_not_fit_65436 : (serial (with_length 65409) (Ask (Readdir (h 1) 2 (replicate 8 0) 4294967295) nobody) (at 1) false).reply ≡ Success (Failed TooSmall 1)
does_not_fit_65436 = simp evaluate refl

-- ---- larger counts of any page

at_most : (more : ℕ) → min (more + 65536) 65536 ≡ 65536
at_most more = min-eq_right (omega arith)

larger_count_of_readdirplus : (cookie : ℕ) (verifier : List ℕ) (names_count more : ℕ) (caller : Caller) (volume : VolumeState) (fileid : ℕ)
    → readdirplus cookie verifier names_count (more + 65536) caller volume fileid ≡ readdirplus cookie verifier names_count 65536 caller volume fileid
larger_count_of_readdirplus cookie verifier names_count more caller volume fileid = simp (at_most) refl

larger_count_of_names : (cookie : ℕ) (verifier : List ℕ) (more count : ℕ) (caller : Caller) (volume : VolumeState) (fileid : ℕ)
    → readdirplus cookie verifier (more + 65536) count caller volume fileid ≡ readdirplus cookie verifier 65536 count caller volume fileid
larger_count_of_names cookie verifier more count caller volume fileid = simp (at_most) refl

larger_count_of_readdir : (cookie : ℕ) (verifier : List ℕ) (more : ℕ) (volume : VolumeState) (fileid : ℕ)
    → readdir cookie verifier (more + 65536) volume fileid ≡ readdir cookie verifier 65536 volume fileid
larger_count_of_readdir cookie verifier more volume fileid = simp (at_most) refl
