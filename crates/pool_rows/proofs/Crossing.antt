-- What a thread of its own takes with it, to put messages, may cross threads.
use mathlib.Core.List.{[], ◌∷◌}
use mir.Syntax.{Sym}
use denote.Ref.{NamedLft, ShrRef}
use denote.RattleType.{RattleType}
use denote.Param.Send.{IsSend, IsSync, sendable, shr_send}
use denote.Param.SendFields.{as_row_send, declared_send}
use denote.Struct.Field.{row_field}
use denote.Struct.Tuple.{TupleAt, type_at}
use Rattle.std.proofs.Crossing.{crosses}
use Rattle.std.proofs.sync.atomic.AtomicBool.TheSendSync as word
use Rattle.std.specs.contracts.sync.atomic.AtomicBool as AtomicBool
use Rattle.affinity.specs.contracts.layout.Layout as Layout
use Rattle.nfs_values.proofs.number.ConnectionNumber.TheSendSync as number
use Rattle.nfs_values.specs.contracts.number.ConnectionNumber as ConnectionNumber
use Rattle.granted_calls.proofs.Crossing.{envelope-send, filer-sync}
use Rattle.granted_calls.proofs.shared_waiting.pass.Pass.TheSendSync as pass
use Rattle.granted_calls.specs.contracts.envelope.Envelope as Envelope
use Rattle.granted_calls.specs.contracts.shared.Filer as Filer
use Rattle.granted_calls.specs.contracts.shared_waiting.pass.Pass as Pass

abbrev FilerPass : RattleType
FilerPass = Pass.the_row Envelope.the_row Layout.the_row

pub pass-send : IsSend FilerPass
pass-send = search (pass.the_send, envelope-send, sendable) depth 20

number-send : IsSend ConnectionNumber.the_row
number-send = search (number.the_send, sendable) depth 20

word-sync : IsSync AtomicBool.the_row
word-sync = search (word.the_sync, crosses, sendable) depth 20

shared-send : (ℓ : NamedLft) (R : RattleType) → IsSync R → IsSend (ShrRef ℓ.mir ℓ.lft R)
shared-send ℓ R sync = shr_send ℓ.mir ℓ.lft R sync

-- a closure that puts messages
pub closure-send : (name : Sym) (ℓ ℓ' : NamedLft) (R : RattleType) → IsSync R
    → IsSend (TupleAt name (ShrRef ℓ.mir ℓ.lft R ∷ ShrRef ℓ'.mir ℓ'.lft Filer.the_row ∷ FilerPass ∷ ConnectionNumber.the_row ∷ []))
closure-send name ℓ ℓ' R sync =
    let A = ShrRef ℓ.mir ℓ.lft R in
    let B = ShrRef ℓ'.mir ℓ'.lft Filer.the_row in
    declared_send (type_at name (A ∷ B ∷ FilerPass ∷ ConnectionNumber.the_row ∷ [])) (
      as_row_send (row_field A) (shared-send ℓ R sync),
      (
        as_row_send (row_field B) (shared-send ℓ' Filer.the_row filer-sync),
        (as_row_send (row_field FilerPass) pass-send, (as_row_send (row_field ConnectionNumber.the_row) number-send, tt)),
      ),
    )

-- and one that tells of it by a word that is shared
pub telling-send : (name : Sym) (ℓ ℓ' ℓ'' : NamedLft) (R : RattleType) → IsSync R
    → IsSend (TupleAt name (ShrRef ℓ.mir ℓ.lft R ∷ ShrRef ℓ'.mir ℓ'.lft Filer.the_row ∷ FilerPass ∷ ConnectionNumber.the_row
    ∷ ShrRef ℓ''.mir ℓ''.lft AtomicBool.the_row ∷ []))
telling-send name ℓ ℓ' ℓ'' R sync =
    let A = ShrRef ℓ.mir ℓ.lft R in
    let B = ShrRef ℓ'.mir ℓ'.lft Filer.the_row in
    let C = ShrRef ℓ''.mir ℓ''.lft AtomicBool.the_row in
    declared_send (type_at name (A ∷ B ∷ FilerPass ∷ ConnectionNumber.the_row ∷ C ∷ [])) (
      as_row_send (row_field A) (shared-send ℓ R sync),
      (
        as_row_send (row_field B) (shared-send ℓ' Filer.the_row filer-sync),
        (
          as_row_send (row_field FilerPass) pass-send,
          (
            as_row_send (row_field ConnectionNumber.the_row) number-send,
            (as_row_send (row_field C) (shared-send ℓ'' AtomicBool.the_row word-sync), tt),
          ),
        ),
      ),
    )
