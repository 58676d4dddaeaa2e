-- Work that is an inner call.
use Rattle.std.proofs.Common.{◌≡◌, subst}
use Rattle.nfs_model.specs.Parts.{Hand}
use Rattle.filer_state.specs.state.Jobs.{InnerCall, JobReply}
use Rattle.service.specs.Inner.{AsksForInner, InnerHasRun, IsInner}

module _ {P A : Type 0} where
  -- the run of one inner call is that of another that is the same
  pub is-inner : (told : A → JobReply) (asked call : InnerCall) (hand : Hand) → asked ≡ call
      → IsInner told (AsksForInner {P = P} asked hand) (InnerHasRun {P = P} told asked hand) call hand
  is-inner told asked call hand same =
      subst (λ (k : InnerCall). IsInner told (AsksForInner {P = P} asked hand) (InnerHasRun {P = P} told asked hand) k hand) same
      (record { finds = λ layout node f asks. asks; leaves = λ layout node f outcome f' did. did })
