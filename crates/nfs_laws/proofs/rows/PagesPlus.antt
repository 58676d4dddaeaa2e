-- READDIRPLUS (RFC 1813 section 3.3.17).
use Rattle.std.proofs.Common.{◌≡◌, ℕ, true, false, List, [], ◌∷◌, replicate, Some, None, refl}
use Rattle.nfs_model.specs.Types.{Listed, ListedPlus, Shown, Readdirplus, Ask, Success, ReaddirplusDone, NotDirectory, Stale, BadHandle}
use Rattle.nfs_model.specs.Types.{BadCookie, TooSmall}
use Rattle.nfs_model.specs.Server.{handle_bytes}
use Rattle.nfs_model.specs.Serial.Step.{serial}
use Rattle.nfs_laws.specs.lemmas.Evaluate.{evaluate}
use Rattle.nfs_laws.proofs.rows.Cases.{start, at, nobody, h, root, fails, a, b, d, entry, no_blocks, file, touched_file, root_with, holding, with_file}
use Rattle.nfs_laws.proofs.rows.Cases.{with_four, root_shown, directory_shown, file_shown}

-- an entry with attributes and a handle
abbrev plus : Listed → Shown → List ℕ → ListedPlus
plus e shown handle = record { entry = e; attributes = Some shown; handle = Some handle }

-- `.` and `..` of the root as it begins
abbrev root_dot : ListedPlus
root_dot = plus (entry 1 (46 ∷ []) 1) (root_shown 2 0) (h 1)

abbrev root_dot_dot : ListedPlus
root_dot_dot = plus (entry 2 (46 ∷ (46 ∷ [])) 1) (root_shown 2 0) (h 1)

readdirplus_of_a_bad_handle : (serial start (Ask (Readdirplus (replicate 11 0) 0 (replicate 8 0) 512 4096) nobody) (at 1) false).reply ≡ fails BadHandle 1
readdirplus_of_a_bad_handle = refl

readdirplus_of_an_absent_node : (serial start (Ask (Readdirplus (h 2) 5 (replicate 8 1) 0 0) nobody) (at 1) false).reply ≡ fails Stale 1
readdirplus_of_an_absent_node = simp evaluate refl

readdirplus_of_a_file : (serial (with_file (file [] no_blocks)) (Ask (Readdirplus (h 2) 5 (replicate 8 1) 0 0) nobody) (at 1) false).reply
    ≡ fails NotDirectory 1
readdirplus_of_a_file = simp evaluate refl

cookie_with_another_verifier : (serial start (Ask (Readdirplus root 1 (replicate 8 1) 0 0) nobody) (at 1) false).reply ≡ fails BadCookie 1
cookie_with_another_verifier = simp evaluate refl

verifier_is_not_looked_at_with_cookie_0 :
    (serial start (Ask (Readdirplus root 0 (replicate 8 1) 512 4096) nobody) (at 1) false).reply
    ≡ Success (ReaddirplusDone (root_shown 2 0) (root_dot ∷ (root_dot_dot ∷ [])) true)
verifier_is_not_looked_at_with_cookie_0 = simp evaluate refl

-- ---- how much fits: of the first count 24 bytes for each entry and its name with padding; of the second 104, and 116 more for each
-- entry

page_that_reaches_the_end :
    (serial start (Ask (Readdirplus root 0 (replicate 8 0) 56 392) nobody) (at 1) false).reply
    ≡ Success (ReaddirplusDone (root_shown 2 0) (root_dot ∷ (root_dot_dot ∷ [])) true)
page_that_reaches_the_end = simp evaluate refl

names_that_do_not_fit :
    (serial start (Ask (Readdirplus root 0 (replicate 8 0) 55 392) nobody) (at 1) false).reply
    ≡ Success (ReaddirplusDone (root_shown 2 0) (root_dot ∷ []) false)
names_that_do_not_fit = simp evaluate refl

attributes_that_do_not_fit :
    (serial start (Ask (Readdirplus root 0 (replicate 8 0) 56 391) nobody) (at 1) false).reply
    ≡ Success (ReaddirplusDone (root_shown 2 0) (root_dot ∷ []) false)
attributes_that_do_not_fit = simp evaluate refl

page_of_one_entry :
    (serial start (Ask (Readdirplus root 0 (replicate 8 0) 28 248) nobody) (at 1) false).reply
    ≡ Success (ReaddirplusDone (root_shown 2 0) (root_dot ∷ []) false)
page_of_one_entry = simp evaluate refl

page_without_a_name_is_too_small : (serial start (Ask (Readdirplus root 0 (replicate 8 0) 27 4096) nobody) (at 1) false).reply ≡ fails TooSmall 1
page_without_a_name_is_too_small = simp evaluate refl

page_without_an_entry_is_too_small : (serial start (Ask (Readdirplus root 0 (replicate 8 0) 512 247) nobody) (at 1) false).reply ≡ fails TooSmall 1
page_without_an_entry_is_too_small = simp evaluate refl

end_of_a_list_fits :
    (serial start (Ask (Readdirplus root 2 (replicate 8 0) 0 104) nobody) (at 1) false).reply ≡ Success (ReaddirplusDone (root_shown 2 0) [] true)
end_of_a_list_fits = simp evaluate refl

end_of_a_list_needs_room : (serial start (Ask (Readdirplus root 2 (replicate 8 0) 512 103) nobody) (at 1) false).reply ≡ fails TooSmall 1
end_of_a_list_needs_room = simp evaluate refl

name_of_five_bytes_takes_eight :
    (serial (holding 3 ((1, root_with 4 (entry 3 (replicate 5 97) 2 ∷ [])) ∷ ((2, file [] no_blocks) ∷ [])))
    (Ask (Readdirplus root 2 (replicate 8 0) 32 252) nobody) (at 1) false).reply
    ≡ Success (ReaddirplusDone (root_shown 2 1) (plus (entry 3 (replicate 5 97) 2) (file_shown 2 0 0 1 1) (h 2) ∷ []) true)
name_of_five_bytes_takes_eight = simp evaluate refl

name_of_five_bytes_takes_no_less :
    (serial (holding 3 ((1, root_with 4 (entry 3 (replicate 5 97) 2 ∷ [])) ∷ ((2, file [] no_blocks) ∷ [])))
    (Ask (Readdirplus root 2 (replicate 8 0) 32 251) nobody) (at 1) false).reply
    ≡ fails TooSmall 1
name_of_five_bytes_takes_no_less = simp evaluate refl

larger_counts_are_cut :
    (serial start (Ask (Readdirplus root 0 (replicate 8 0) 4294967295 4294967295) nobody) (at 1) false).reply
    ≡ Success (ReaddirplusDone (root_shown 2 0) (root_dot ∷ (root_dot_dot ∷ [])) true)
larger_counts_are_cut = simp evaluate refl

-- ---- which entries, and what is told of them

entries_above_a_cookie :
    (serial with_four (Ask (Readdirplus root 3 (replicate 8 0) 56 392) nobody) (at 1) false).reply
    ≡ Success (ReaddirplusDone (root_shown 3 1)
    (plus (entry 4 b 3) (file_shown 3 0 0 1 1) (h 3) ∷ (plus (entry 5 d 4) (directory_shown 4 3 1) (h 4) ∷ [])) true)
entries_above_a_cookie = simp evaluate refl

parent_of_another_directory :
    (serial with_four (Ask (Readdirplus (h 5) 0 (replicate 8 0) 512 4096) nobody) (at 1) false).reply
    ≡ Success (ReaddirplusDone (directory_shown 5 2 1)
    (plus (entry 1 (46 ∷ []) 5) (directory_shown 5 2 1) (h 5) ∷ (plus (entry 2 (46 ∷ (46 ∷ [])) 4) (directory_shown 4 3 1) (h 4) ∷ [])) true)
parent_of_another_directory = simp evaluate refl

times_of_a_file_that_was_written :
    (serial (with_file (touched_file 9 (7 ∷ []) no_blocks)) (Ask (Readdirplus root 2 (replicate 8 0) 512 4096) nobody) (at 1) false).reply
    ≡ Success (ReaddirplusDone (root_shown 2 1) (plus (entry 3 a 2) (file_shown 2 1 0 9 9) (h 2) ∷ []) true)
times_of_a_file_that_was_written = simp evaluate refl

no_attributes_where_there_is_no_node :
    (serial (holding 3 ((1, root_with 4 (entry 3 a 2 ∷ [])) ∷ [])) (Ask (Readdirplus root 2 (replicate 8 0) 512 4096) nobody) (at 1) false).reply
    ≡ Success (ReaddirplusDone (root_shown 2 1) (record { entry = entry 3 a 2; attributes = None; handle = Some (h 2) } ∷ []) true)
no_attributes_where_there_is_no_node = simp evaluate refl

handles_of_another_volume :
    (serial start (Ask (Readdirplus (handle_bytes 1 1) 0 (replicate 8 0) 28 248) nobody) (at 1) false).reply
    ≡ Success (ReaddirplusDone (record (root_shown 2 0) { fsid = 1 })
    (plus (entry 1 (46 ∷ []) 1) (record (root_shown 2 0) { fsid = 1 }) (handle_bytes 1 1) ∷ []) false)
handles_of_another_volume = simp evaluate refl
