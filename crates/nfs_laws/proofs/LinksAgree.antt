-- Names and links agree in every volume of a run, whatever is called.
use Rattle.std.proofs.Common.{◌≡◌, ℕ, zero, suc, ◌+◌, Bool, true, false, cond, List, [], ◌∷◌, Option, Some, None, refl, sym, ap, ◌∙◌, subst, arith}
use Rattle.std.specs.Prelude.{◌*◌, ◌==◌, slice_get, slice_set, if◌then◌else◌}
use Rattle.std.specs.Ordering.{nat_cmp}
use Rattle.std.specs.Cmp.{unsigned_tied}
use Rattle.std.specs.FinMap.{get, entries, from_sorted, get-from_sorted, entries-from_sorted}
use Rattle.nfs_model.specs.Types as model
use Rattle.nfs_model.specs.Memo.{Told}
use Rattle.nfs_model.specs.Tree.{Layout, VolumeLayout}
use Rattle.nfs_model.specs.Server.{Node, root_node, opening_volume, opening_volumes, opening, VolumeState, Server}
use Rattle.nfs_model.specs.Replay.{FinishedCall, step_of, server_after}
use Rattle.nfs_model.specs.Locate.{Effect, Fails, Tells, Changes}
use Rattle.nfs_model.specs.Serial.Once.{told_before, remembering, remembered, or_told}
use Rattle.nfs_model.specs.Serial.Grow.{grown}
use Rattle.nfs_model.specs.Serial.Step.{Step, placed, serve, serial}
use Rattle.nfs_model.specs.volume.Directories.{NamesDiffer}
use Rattle.nfs_laws.specs.Links.{list_in, names_among, names_said, NamesAgree}
use Rattle.nfs_laws.specs.lemmas.Linked.{nothing, Agree, ListsDiffer, IsLinked}
use Rattle.nfs_laws.specs.lemmas.Effects.{Ends, Keeping, Telling, ends_changes}
use Rattle.nfs_laws.specs.lemmas.Served.{served}
use Rattle.nfs_laws.specs.lemmas.Sizes.{All, set_all}
use Rattle.nfs_laws.proofs.FileidsBelow.{root_below}

abbrev AreLinked : Server → Type 0
AreLinked server = All (λ i v. IsLinked v) server.volumes

-- ---- calls

set_linked : (server : Server) (spare : List ℕ) (j : ℕ) (old new : VolumeState) → slice_get server.volumes j ≡ Some old
    → (IsLinked old → IsLinked new) → AreLinked server → AreLinked (record { spare = spare; volumes = slice_set server.volumes j new })
set_linked server spare j old new at f h = set_all (λ i v. IsLinked v) server.volumes j new (f (h j old at)) h

placed_linked : (server : Server) (absent j : ℕ) (old : VolumeState) (x : Effect) → slice_get server.volumes j ≡ Some old → Ends Keeping old x
    → AreLinked server → AreLinked (placed server absent j x).server
placed_linked server absent j old (Fails status) at f h = h
placed_linked server absent j old (Tells answer) at f h = h
placed_linked server absent j old (Changes answer new) at f h =
    set_linked server server.spare j old new at (ends_changes Keeping old answer new f).1.linked h

remembering_linked : (who : model.Caller) (call : model.Call) (moment : model.Moment) (answer : model.Answer) (v : VolumeState) → IsLinked v
    → IsLinked (remembering who call moment answer v)
remembering_linked who call moment answer v l = record { agree = l.agree; differ = l.differ; below = l.below; begun = l.begun }

grown_linked : (v : VolumeState) (total : ℕ) → IsLinked v → IsLinked (record v { total = total })
grown_linked v total l = record { agree = l.agree; differ = l.differ; below = l.below; begun = l.begun }

once_linked : (server : Server) (absent j : ℕ) (old : VolumeState) (who : model.Caller) (call : model.Call) (moment : model.Moment) (t : Option Told)
    (x : Effect) → slice_get server.volumes j ≡ Some old → Ends Telling old x → AreLinked server
    → AreLinked (placed server absent j (or_told old t (remembered who call moment old x))).server
once_linked server absent j old who call moment (Some told) x at f h = h
once_linked server absent j old who call moment None (Fails status) at f h = h
once_linked server absent j old who call moment None (Tells answer) at f h =
    set_linked server server.spare j old (remembering who call moment answer old) at (remembering_linked who call moment answer old) h
once_linked server absent j old who call moment None (Changes answer new) at f h =
    set_linked server server.spare j old (remembering who call moment answer new) at
    (λ l. remembering_linked who call moment answer new ((ends_changes Telling old answer new f).1.0.linked l)) h

serve_linked : (server : Server) (call : model.Call) (who : model.Caller) (moment : model.Moment) → AreLinked server
    → AreLinked (serve server call who moment).server
serve_linked server call who moment h = served server call who moment (λ (s : Step). AreLinked s.server) (record {
  untouched = λ answer e. h;
  plain = λ absent j old effect none at f. placed_linked server absent j old effect at f h;
  kept = λ absent j old effect good same at f.
      once_linked server absent j old who call moment (told_before old.memos who call moment) effect at f h;
  grows = λ j ranges old none at.
      set_linked server (grown server j old ranges).spare j old (record old { total = old.total + old.range_blocks * ranges }) at
      (grown_linked old (old.total + old.range_blocks * ranges)) h;
})

serial_linked : (server : Server) (asked : model.Asked) (moment : model.Moment) (starved : Bool) → AreLinked server
    → AreLinked (serial server asked moment starved).server
serial_linked server asked moment true h = h
serial_linked server (model.Ask call who) moment false h = serve_linked server call who moment h
serial_linked server (model.Refused reply) moment false h = h
serial_linked server model.Undecoded moment false h = h

linked_after : (calls : List FinishedCall) (server : Server) → AreLinked server → AreLinked (server_after server calls)
linked_after [] server h = h
linked_after (e ∷ es) server h = linked_after es (step_of server e).server (serial_linked server e.asked e.moment e.starved h)

-- ---- as a run begins: the root alone, without an entry

root_found : (root : Node) (q : ℕ) → get (from_sorted {R = nat_cmp} ((1, root) ∷ [])) q ≡ (if q == 1 then Some root else None)
root_found root q = get-from_sorted nat_cmp ((1, root) ∷ []) q tt ∙ ap (λ b. cond b (Some root) None) (unsigned_tied q 1)

opening_linked : (verifier : List ℕ) (number : ℕ) (x : VolumeLayout) → IsLinked (opening_volume verifier number x)
opening_linked verifier number x = record {
  agree = agree;
  differ = differ;
  below = root_below root;
  begun = refl;
}
  where
    root : Node
    root = root_node x.root x.begun

    said : (q : ℕ) (b : Bool) → (q == 1) ≡ b → names_said q (if b then Some root else None) ≡ 0
    said q true e = ap (λ (c : Bool). if c then 0 else 1) e
    said q false e = refl

    agree : Agree nothing nothing (opening_volume verifier number x).nodes
    agree q =
        let names : names_among q (entries (from_sorted {R = nat_cmp} ((1, root) ∷ []))) ≡ 0 =
        ap (names_among q) (entries-from_sorted nat_cmp ((1, root) ∷ []) tt) in
        let none : names_said q (get (from_sorted {R = nat_cmp} ((1, root) ∷ [])) q) ≡ 0 =
        ap (names_said q) (root_found root q) ∙ said q (q == 1) refl in
        omega (arith, names, none)

    differ : ListsDiffer (opening_volume verifier number x).nodes
    differ k node e = by (k == 1) (sym (root_found root k) ∙ e)
      where
        by : (b : Bool) → (if b then Some root else None) ≡ Some node → NamesDiffer (list_in node)
        by true f = let same : root ≡ node = cc in subst (λ (n : Node). NamesDiffer (list_in n)) same tt
        by false f = absurd cc

opens_linked : (verifier : List ℕ) (from : ℕ) (layouts : List VolumeLayout) → All (λ i v. IsLinked v) (opening_volumes verifier from layouts)
opens_linked verifier from [] i v e = absurd cc
opens_linked verifier from (x ∷ xs) zero v e =
    let same : opening_volume verifier from x ≡ v = cc in subst (λ (w : VolumeState). IsLinked w) same (opening_linked verifier from x)
opens_linked verifier from (x ∷ xs) (suc i) v e = opens_linked verifier (from + 1) xs i v e

pub links_agree : (layout : Layout) (verifier : List ℕ) (calls : List FinishedCall) (i : ℕ) (v : VolumeState)
    → slice_get (server_after (opening layout verifier) calls).volumes i ≡ Some v → NamesAgree v
links_agree layout verifier calls i v e q =
    let l = linked_after calls (opening layout verifier) (opens_linked verifier 0 layout.volumes) i v e in
    let is = l.agree q in
    omega (arith, is)
