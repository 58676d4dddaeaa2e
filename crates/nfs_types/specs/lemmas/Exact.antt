-- Arguments are asked exactly where they are spelled.
use Rattle.std.proofs.Common.{◌≡◌, ℕ, List, Ok, refl, sym, ap, ◌∙◌}
use Rattle.xdr.specs.Reading.{all_of}
use Rattle.xdr.specs.lemmas.Steps.{bind_ok, ok_is}
use Rattle.xdr.specs.lemmas.Items.{IsBytes}
use Rattle.xdr.specs.lemmas.Shapes.{all_found, all_again}
use Rattle.nfs_model.specs.Types as model
use Rattle.nfs_values.specs.declared.procedure.Procedure.{Procedure}
use Rattle.nfs_values.specs.declared.procedure.Procedure.TheVariants.{Null}
use Rattle.nfs_types.specs.Arguments.{arguments_shape, call_from, Asks, asked_by, asked}

pub asked_is : (procedure : Procedure) (bytes : List ℕ) → asked procedure bytes ≡ asked_by (arguments_shape procedure) (call_from procedure) bytes
asked_is Null bytes = refl
asked_is procedure bytes = refl

pub asked_found : (procedure : Procedure) (bytes : List ℕ) (call : model.Call) → IsBytes bytes → asked procedure bytes ≡ Ok call → Asks procedure bytes call
asked_found procedure bytes call fits e =
    let shape = arguments_shape procedure in
    let p = bind_ok (all_of shape bytes) (λ v. Ok (call_from procedure v)) call (sym (asked_is procedure bytes) ∙ e) in
    (p.0, all_found shape bytes p.0 fits p.1, sym (ok_is (call_from procedure p.0) call p.2))

pub asked_again : (procedure : Procedure) (bytes : List ℕ) (call : model.Call) → Asks procedure bytes call → asked procedure bytes ≡ Ok call
asked_again procedure bytes call s =
    asked_is procedure bytes ∙ rw (all_again (arguments_shape procedure) bytes s.0 s.1) (ap (λ (c : model.Call). Ok c) (sym s.2))
