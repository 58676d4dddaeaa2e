-- Handles that come back, to the run that told them or to another.
use Rattle.std.proofs.Common.{◌≡◌, ◌≢◌, ℕ, ◌+◌, Bool, true, false, cond, List, [], ◌++◌, length, take, drop, replicate, refl, ap, ◌∙◌, arith}
use Rattle.std.proofs.lemmas.Bool.{eq-eqb}
use Rattle.std.proofs.lemmas.List.{length-append, take_all, take_at, take-append-le, drop_at}
use Rattle.nfs_model.specs.Names.{same_name}
use Rattle.nfs_model.specs.volume.lemmas.Directories.{same-itself, same-is}
use Rattle.rpc_msg.specs.declared.handle_form.HandleForm.{HandleForm}
use Rattle.rpc_msg.specs.declared.handle_form.HandleForm.TheVariants.{Plain, OfRun}
use Rattle.rpc_msg.specs.HandleForm.{handle_heard, handle_told, heard_in_run, told_in_run, verifier_of}

-- what is heard of 12 bytes and a verifier, by whether that is the run's
abbrev by_same : List ℕ → Bool → List ℕ
by_same handle b = cond b handle (take 4 handle ++ replicate 8 0)

heard_told : (run other : ℕ) (handle : List ℕ) → length handle ≡ 12
    → heard_in_run other (told_in_run run handle) ≡ by_same handle (same_name (verifier_of run) (verifier_of other))
heard_told run other handle twelve =
    let whole : take 12 handle ≡ handle = take_all 12 handle (omega (arith, twelve)) in
    let told : told_in_run run handle ≡ handle ++ verifier_of run = ap (λ (h : List ℕ). h ++ verifier_of run) whole in
    let long : length (handle ++ verifier_of run) ≡ 20 = length-append handle (verifier_of run) ∙ ap (λ (n : ℕ). n + 8) twelve in
    let four : take 4 (handle ++ verifier_of run) ≡ take 4 handle = take-append-le 4 handle (verifier_of run) (omega (arith, twelve)) in
    ap (heard_in_run other) told
    ∙ ap (λ (b : Bool). cond b (cond (same_name (drop 12 (handle ++ verifier_of run)) (verifier_of other)) (take 12 (handle ++ verifier_of run))
    (take 4 (handle ++ verifier_of run) ++ replicate 8 0)) []) (eq-eqb _ 20 long)
    ∙ ap (λ (v : List ℕ). cond (same_name v (verifier_of other)) (take 12 (handle ++ verifier_of run)) (take 4 (handle ++ verifier_of run) ++ replicate 8 0))
    (drop_at handle (verifier_of run) 12 twelve)
    ∙ ap (λ (h : List ℕ). cond (same_name (verifier_of run) (verifier_of other)) h (take 4 (handle ++ verifier_of run) ++ replicate 8 0))
    (take_at handle (verifier_of run) 12 twelve)
    ∙ ap (λ (h : List ℕ). cond (same_name (verifier_of run) (verifier_of other)) handle (h ++ replicate 8 0)) four

pub comes-back : (form : HandleForm) (handle : List ℕ) → length handle ≡ 12 → handle_heard form (handle_told form handle) ≡ handle
comes-back Plain handle twelve = refl
comes-back (OfRun run) handle twelve = heard_told run run handle twelve ∙ ap (by_same handle) (same-itself (verifier_of run))

differs : (b : Bool) (x y : List ℕ) → same_name x y ≡ b → x ≢ y → b ≡ false
differs true x y e d = absurd (d (same-is x y e))
differs false x y e d = refl

pub comes-to-another : (run other : ℕ) (handle : List ℕ) → length handle ≡ 12 → verifier_of run ≢ verifier_of other
    → handle_heard (OfRun other) (handle_told (OfRun run) handle) ≡ take 4 handle ++ replicate 8 0
comes-to-another run other handle twelve d =
    heard_told run other handle twelve
    ∙ ap (by_same handle) (differs (same_name (verifier_of run) (verifier_of other)) (verifier_of run) (verifier_of other) refl d)
