-- The fileids of a server's volumes are below the next ones, whatever is called.
use Rattle.std.proofs.Common.{◌≡◌, ℕ, zero, suc, ◌+◌, Bool, true, false, cond, List, [], ◌∷◌, ◌++◌, Option, Some, None, refl, sym, ap, ◌∙◌, subst}
use Rattle.std.specs.Prelude.{◌*◌, nat_lt, slice_get, slice_set}
use Rattle.std.specs.Ordering.{nat_cmp, is_eq}
use Rattle.std.specs.declared.cmp.Ordering.{Ordering}
use Rattle.std.specs.declared.cmp.Ordering.TheVariants.{Less, Equal, Greater}
use Rattle.std.specs.FinMap.{get, from_sorted, get-from_sorted, nat_cmp-IsAntisymmetric}
use Rattle.nfs_model.specs.Types as model
use Rattle.nfs_model.specs.Memo.{Told}
use Rattle.nfs_model.specs.Tree.{Layout, VolumeLayout}
use Rattle.nfs_model.specs.Server.{Node, root_node, opening_volume, opening_volumes, opening, VolumeState, Server}
use Rattle.nfs_model.specs.Replay.{FinishedCall, step_of, server_after}
use Rattle.nfs_model.specs.Locate.{Effect, Fails, Tells, Changes}
use Rattle.nfs_model.specs.Serial.Once.{told_before, remembering, remembered, or_told}
use Rattle.nfs_model.specs.Serial.Grow.{grown}
use Rattle.nfs_model.specs.Serial.Step.{Step, placed, serve, serial}
use Rattle.nfs_laws.specs.Permissions.{IsStranger, AreAskedBy, node_in, node_of, IsAsWas}
use Rattle.nfs_laws.specs.lemmas.Fileids.{AreBelow}
use Rattle.nfs_laws.specs.lemmas.Effects.{Ends, Keeping, Telling, ends_changes}
use Rattle.nfs_laws.specs.lemmas.Served.{served}
use Rattle.nfs_laws.specs.lemmas.Sizes.{All, set_all}
use Rattle.nfs_laws.proofs.StrangersServed.{left_as_it_was}

abbrev HaveBelow : Server → Type 0
HaveBelow server = All (λ i v. AreBelow v.next v.nodes) server.volumes

-- ---- calls

set_below : (server : Server) (spare : List ℕ) (j : ℕ) (old new : VolumeState) → slice_get server.volumes j ≡ Some old
    → (AreBelow old.next old.nodes → AreBelow new.next new.nodes) → HaveBelow server
    → HaveBelow (record { spare = spare; volumes = slice_set server.volumes j new })
set_below server spare j old new at f h = set_all (λ i v. AreBelow v.next v.nodes) server.volumes j new (f (h j old at)) h

placed_below : (server : Server) (absent j : ℕ) (old : VolumeState) (x : Effect) → slice_get server.volumes j ≡ Some old → Ends Keeping old x
    → HaveBelow server → HaveBelow (placed server absent j x).server
placed_below server absent j old (Fails status) at f h = h
placed_below server absent j old (Tells answer) at f h = h
placed_below server absent j old (Changes answer new) at f h =
    set_below server server.spare j old new at (ends_changes Keeping old answer new f).1.fileids h

once_below : (server : Server) (absent j : ℕ) (old : VolumeState) (who : model.Caller) (call : model.Call) (moment : model.Moment) (t : Option Told)
    (x : Effect) → slice_get server.volumes j ≡ Some old → Ends Telling old x → HaveBelow server
    → HaveBelow (placed server absent j (or_told old t (remembered who call moment old x))).server
once_below server absent j old who call moment (Some told) x at f h = h
once_below server absent j old who call moment None (Fails status) at f h = h
once_below server absent j old who call moment None (Tells answer) at f h =
    set_below server server.spare j old (remembering who call moment answer old) at (λ b. b) h
once_below server absent j old who call moment None (Changes answer new) at f h =
    set_below server server.spare j old (remembering who call moment answer new) at (ends_changes Telling old answer new f).1.0.fileids h

serve_below : (server : Server) (call : model.Call) (who : model.Caller) (moment : model.Moment) → HaveBelow server
    → HaveBelow (serve server call who moment).server
serve_below server call who moment h = served server call who moment (λ (s : Step). HaveBelow s.server) (record {
  untouched = λ answer e. h;
  plain = λ absent j old effect none at f. placed_below server absent j old effect at f h;
  kept = λ absent j old effect good same at f.
      once_below server absent j old who call moment (told_before old.memos who call moment) effect at f h;
  grows = λ j ranges old none at.
      set_below server (grown server j old ranges).spare j old (record old { total = old.total + old.range_blocks * ranges }) at (λ b. b) h;
})

serial_below : (server : Server) (asked : model.Asked) (moment : model.Moment) (starved : Bool) → HaveBelow server
    → HaveBelow (serial server asked moment starved).server
serial_below server asked moment true h = h
serial_below server (model.Ask call who) moment false h = serve_below server call who moment h
serial_below server (model.Refused reply) moment false h = h
serial_below server model.Undecoded moment false h = h

below_after : (calls : List FinishedCall) (server : Server) → HaveBelow server → HaveBelow (server_after server calls)
below_after [] server h = h
below_after (e ∷ es) server h = below_after es (step_of server e).server (serial_below server e.asked e.moment e.starved h)

-- ---- as a run begins: the root alone, with 1, and 2 is the next

only_root : (o : Ordering) (k : ℕ) (root node : Node) → (o ≡ Equal → k ≡ 1) → cond (is_eq o) (Some root) None ≡ Some node → nat_lt k 2 ≡ true
only_root Less k root node f e = absurd cc
only_root Equal k root node f e = ap (λ (i : ℕ). nat_lt i 2) (f refl)
only_root Greater k root node f e = absurd cc

pub root_below : (root : Node) → AreBelow 2 (from_sorted ((1, root) ∷ []))
root_below root k node e =
    only_root (nat_cmp k 1) k root node (λ same. nat_cmp-IsAntisymmetric k 1 same) (sym (get-from_sorted nat_cmp ((1, root) ∷ []) k tt) ∙ e)

opens_below : (verifier : List ℕ) (from : ℕ) (layouts : List VolumeLayout) → All (λ i v. AreBelow v.next v.nodes) (opening_volumes verifier from layouts)
opens_below verifier from [] i v e = absurd cc
opens_below verifier from (x ∷ xs) zero v e =
    let same : opening_volume verifier from x ≡ v = cc in
    subst (λ (w : VolumeState). AreBelow w.next w.nodes) same (root_below (root_node x.root x.begun))
opens_below verifier from (x ∷ xs) (suc i) v e = opens_below verifier (from + 1) xs i v e

run_below : (layout : Layout) (verifier : List ℕ) (calls : List FinishedCall) → HaveBelow (server_after (opening layout verifier) calls)
run_below layout verifier calls = below_after calls (opening layout verifier) (opens_below verifier 0 layout.volumes)

pub lies_below : (layout : Layout) (verifier : List ℕ) (calls : List FinishedCall) (i q : ℕ) (v : VolumeState) (node : Node)
    → slice_get (server_after (opening layout verifier) calls).volumes i ≡ Some v → get v.nodes q ≡ Some node → nat_lt q v.next ≡ true
lies_below layout verifier calls i q v node at there = run_below layout verifier calls i v at q node there

-- ---- strangers on a server that calls led to

after_both : (before after : List FinishedCall) (server : Server) → server_after server (before ++ after) ≡ server_after (server_after server before) after
after_both [] after server = refl
after_both (e ∷ es) after server = after_both es after (step_of server e).server

in_volume : (old : Node) (i q : ℕ) (server : Server) (calls : List FinishedCall) (o : Option VolumeState) → HaveBelow server
    → slice_get server.volumes i ≡ o → node_in o q ≡ Some old → AreAskedBy (IsStranger old) calls
    → IsAsWas old (node_of (server_after server calls) i q)
in_volume old i q server calls None h at there s = absurd cc
in_volume old i q server calls (Some v) h at there s = left_as_it_was old i q server v calls at there (h i v at q old there) s

pub run_as_it_was : (old : Node) (layout : Layout) (verifier : List ℕ) (before after : List FinishedCall) (i q : ℕ)
    → node_of (server_after (opening layout verifier) before) i q ≡ Some old → AreAskedBy (IsStranger old) after
    → IsAsWas old (node_of (server_after (opening layout verifier) (before ++ after)) i q)
run_as_it_was old layout verifier before after i q there s =
    let start : Server = server_after (opening layout verifier) before in
    subst (λ (x : Server). IsAsWas old (node_of x i q)) (sym (after_both before after (opening layout verifier)))
    (in_volume old i q start after (slice_get start.volumes i) (run_below layout verifier before) refl there s)
