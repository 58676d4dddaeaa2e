use Rattle.std.proofs.Common.{◌≡◌, ap, ◌∙◌, List, ℕ, ◌++◌, take, length}
use Rattle.rpc_msg.specs.HandleForm.{verifier_of}
use Rattle.rpc_msg.proofs.Told.{run_told}
use Rattle.rpc_msg.proofs.handle_form.told_in_run.Goals as goal

pub returns : goal.returns
returns c =
    let bytes = c.bytes_in-bytes.result.now in
    let verifier : c.copy_from_slice-2.new.self ≡ verifier_of c.args.run = c.copy_from_slice-2.ensures.after ∙ c.to_be_bytes.ensures in
    let eight : length c.copy_from_slice-2.new.self ≡ 8 = ap (λ (l : List ℕ). length l) verifier in
    c.new.ensures
    ∙ run_told bytes c.copy_from_slice-2.new.self c.copy_from_slice.new.self _ c.min-size.result _ c.min-size.ensures c.copy_from_slice.ensures.after eight
    ∙ ap (λ (v : List ℕ). take 12 bytes ++ v) verifier
    ∙ ap (λ (h : List ℕ). take 12 h ++ verifier_of c.args.run) c.bytes_in-bytes.ensures.value
