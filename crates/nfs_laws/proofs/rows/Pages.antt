-- READDIR (RFC 1813 section 3.3.16).
use Rattle.std.proofs.Common.{◌≡◌, true, false, [], ◌∷◌, replicate, refl}
use Rattle.nfs_model.specs.Types.{Unchecked, Create, Mkdir, Remove, Readdir, Ask, Success, ReaddirDone, NotDirectory, Stale, BadHandle, BadCookie, TooSmall}
use Rattle.nfs_model.specs.Serial.Create.{no_attributes}
use Rattle.nfs_model.specs.Serial.Step.{serial}
use Rattle.nfs_laws.specs.lemmas.Evaluate.{evaluate}
use Rattle.nfs_laws.proofs.rows.Cases.{start, at, nobody, h, root, fails, a, b, d, entry, no_blocks, file, root_with, holding, with_file, with_four, root_shown}
use Rattle.nfs_laws.proofs.rows.Cases.{directory_shown}

readdir_of_a_bad_handle :
    (serial start (Ask (Readdir (replicate 11 0) 0 (replicate 8 0) 512) nobody) (at 1) false).reply
    ≡ fails BadHandle 1
readdir_of_a_bad_handle = refl

readdir_of_an_absent_node :
    (serial start (Ask (Readdir (h 2) 0 (replicate 8 0) 512) nobody) (at 1) false).reply
    ≡ fails Stale 1
readdir_of_an_absent_node = simp evaluate refl

readdir_of_a_file :
    (serial (with_file (file [] no_blocks)) (Ask (Readdir (h 2) 5 (replicate 8 1) 512) nobody) (at 1) false).reply
    ≡ fails NotDirectory 1
readdir_of_a_file = simp evaluate refl

cookie_with_another_verifier :
    (serial start (Ask (Readdir root 1 (replicate 8 1) 512) nobody) (at 1) false).reply
    ≡ fails BadCookie 1
cookie_with_another_verifier = simp evaluate refl

verifier_is_not_looked_at_with_cookie_0 :
    (serial start (Ask (Readdir root 0 (replicate 8 1) 512) nobody) (at 1) false).reply
    ≡ Success (ReaddirDone (root_shown 2 0) (entry 1 (46 ∷ []) 1 ∷ (entry 2 (46 ∷ (46 ∷ [])) 1 ∷ [])) true)
verifier_is_not_looked_at_with_cookie_0 = simp evaluate refl

-- ---- how much fits: 104 bytes, and for each entry 24 and its name with padding

page_that_reaches_the_end :
    (serial start (Ask (Readdir root 0 (replicate 8 0) 160) nobody) (at 1) false).reply
    ≡ Success (ReaddirDone (root_shown 2 0) (entry 1 (46 ∷ []) 1 ∷ (entry 2 (46 ∷ (46 ∷ [])) 1 ∷ [])) true)
page_that_reaches_the_end = simp evaluate refl

page_that_does_not_reach_the_end :
    (serial start (Ask (Readdir root 0 (replicate 8 0) 159) nobody) (at 1) false).reply
    ≡ Success (ReaddirDone (root_shown 2 0) (entry 1 (46 ∷ []) 1 ∷ []) false)
page_that_does_not_reach_the_end = simp evaluate refl

page_of_one_entry :
    (serial start (Ask (Readdir root 0 (replicate 8 0) 132) nobody) (at 1) false).reply
    ≡ Success (ReaddirDone (root_shown 2 0) (entry 1 (46 ∷ []) 1 ∷ []) false)
page_of_one_entry = simp evaluate refl

page_without_an_entry_is_too_small :
    (serial start (Ask (Readdir root 0 (replicate 8 0) 131) nobody) (at 1) false).reply
    ≡ fails TooSmall 1
page_without_an_entry_is_too_small = simp evaluate refl

end_of_a_list_fits :
    (serial start (Ask (Readdir root 2 (replicate 8 0) 104) nobody) (at 1) false).reply
    ≡ Success (ReaddirDone (root_shown 2 0) [] true)
end_of_a_list_fits = simp evaluate refl

end_of_a_list_needs_room :
    (serial start (Ask (Readdir root 2 (replicate 8 0) 103) nobody) (at 1) false).reply
    ≡ fails TooSmall 1
end_of_a_list_needs_room = simp evaluate refl

cookie_past_all_entries :
    (serial start (Ask (Readdir root 9 (replicate 8 0) 104) nobody) (at 1) false).reply
    ≡ Success (ReaddirDone (root_shown 2 0) [] true)
cookie_past_all_entries = simp evaluate refl

name_of_five_bytes_takes_eight :
    (serial (holding 3 ((1, root_with 4 (entry 3 (replicate 5 97) 2 ∷ [])) ∷ ((2, file [] no_blocks) ∷ [])))
    (Ask (Readdir root 2 (replicate 8 0) 136) nobody) (at 1) false).reply
    ≡ Success (ReaddirDone (root_shown 2 1) (entry 3 (replicate 5 97) 2 ∷ []) true)
name_of_five_bytes_takes_eight = simp evaluate refl

name_of_five_bytes_takes_no_less :
    (serial (holding 3 ((1, root_with 4 (entry 3 (replicate 5 97) 2 ∷ [])) ∷ ((2, file [] no_blocks) ∷ [])))
    (Ask (Readdir root 2 (replicate 8 0) 135) nobody) (at 1) false).reply
    ≡ fails TooSmall 1
name_of_five_bytes_takes_no_less = simp evaluate refl

name_of_four_bytes_takes_four :
    (serial (holding 3 ((1, root_with 4 (entry 3 (replicate 4 97) 2 ∷ [])) ∷ ((2, file [] no_blocks) ∷ [])))
    (Ask (Readdir root 2 (replicate 8 0) 132) nobody) (at 1) false).reply
    ≡ Success (ReaddirDone (root_shown 2 1) (entry 3 (replicate 4 97) 2 ∷ []) true)
name_of_four_bytes_takes_four = simp evaluate refl

larger_counts_are_cut :
    (serial start (Ask (Readdir root 0 (replicate 8 0) 4294967295) nobody) (at 1) false).reply
    ≡ Success (ReaddirDone (root_shown 2 0) (entry 1 (46 ∷ []) 1 ∷ (entry 2 (46 ∷ (46 ∷ [])) 1 ∷ [])) true)
larger_counts_are_cut = simp evaluate refl

-- ---- which entries

entries_come_by_cookies :
    (serial with_four (Ask (Readdir root 0 (replicate 8 0) 188) nobody) (at 1) false).reply
    ≡ Success (ReaddirDone (root_shown 3 1) (entry 1 (46 ∷ []) 1 ∷ (entry 2 (46 ∷ (46 ∷ [])) 1 ∷ (entry 3 a 2 ∷ []))) false)
entries_come_by_cookies = simp evaluate refl

entries_above_a_cookie :
    (serial with_four (Ask (Readdir root 3 (replicate 8 0) 188) nobody) (at 1) false).reply
    ≡ Success (ReaddirDone (root_shown 3 1) (entry 4 b 3 ∷ (entry 5 d 4 ∷ [])) true)
entries_above_a_cookie = simp evaluate refl

parent_of_another_directory :
    (serial with_four (Ask (Readdir (h 5) 0 (replicate 8 0) 512) nobody) (at 1) false).reply
    ≡ Success (ReaddirDone (directory_shown 5 2 1) (entry 1 (46 ∷ []) 5 ∷ (entry 2 (46 ∷ (46 ∷ [])) 4 ∷ [])) true)
parent_of_another_directory = simp evaluate refl

cookie_of_an_entry_that_is_gone :
    (serial (serial with_four (Ask (Remove root b) nobody) (at 2) false).server (Ask (Readdir root 4 (replicate 8 0) 512) nobody) (at 3) false).reply
    ≡ Success (ReaddirDone (root_shown 3 2) (entry 5 d 4 ∷ []) true)
cookie_of_an_entry_that_is_gone = simp evaluate refl

first_cookie_is_3 :
    (serial (serial start (Ask (Create root a (Unchecked no_attributes)) nobody) (at 1) false).server (Ask (Readdir root 2 (replicate 8 0) 512) nobody)
    (at 2) false).reply
    ≡ Success (ReaddirDone (root_shown 2 1) (entry 3 a 2 ∷ []) true)
first_cookie_is_3 = simp evaluate refl

first_cookie_of_a_made_directory_is_3 :
    (serial (serial (serial start (Ask (Mkdir root d no_attributes) nobody) (at 1) false).server (Ask (Create (h 2) a (Unchecked no_attributes)) nobody)
    (at 2) false).server (Ask (Readdir (h 2) 2 (replicate 8 0) 512) nobody) (at 3) false).reply
    ≡ Success (ReaddirDone (record (directory_shown 2 2 2) { atime = at 1 }) (entry 3 a 3 ∷ []) true)
first_cookie_of_a_made_directory_is_3 = simp evaluate refl

name_made_again_has_a_new_cookie :
    (serial (serial (serial with_four (Ask (Remove root a) nobody) (at 2) false).server (Ask (Create root a (Unchecked no_attributes)) nobody)
    (at 3) false).server (Ask (Readdir root 3 (replicate 8 0) 512) nobody) (at 4) false).reply
    ≡ Success (ReaddirDone (root_shown 3 3) (entry 4 b 3 ∷ (entry 5 d 4 ∷ (entry 6 a 6 ∷ []))) true)
name_made_again_has_a_new_cookie = simp evaluate refl
