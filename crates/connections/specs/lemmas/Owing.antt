-- Replies that are paid one after another.
use Rattle.std.proofs.Common.{◌≡◌, ◌≤◌, ◌-◌, ◌==◌, ℕ, Bool, if◌then◌else◌, List, [], ◌∷◌, ◌++◌, length, sym, ap, subst, ◌∙◌, arith}
use Rattle.std.specs.Prelude.{max}
use Rattle.outboxes.specs.Messages.{ReplyMessage, record_of}
use Rattle.connections.specs.declared.due.Due.{Due}
use Rattle.connections.specs.Connections.{without_reply}
use Rattle.connections.specs.Owing.{Pays}

pub pays-more : (ms ks : List ReplyMessage) (a b c : Due) → Pays ms a b → Pays ks b c → Pays (ms ++ ks) a c
pays-more [] ks a b c p q = subst (λ (d : Due). Pays ks d c) p q
pays-more (m ∷ ms) ks a b c (room, fits, p) q = (room, fits, pays-more ms ks (without_reply room a) b c p q)

pub pays-first : (m : ReplyMessage) (room : ℕ) (a b : Due) → length (record_of m) ≤ room → b ≡ without_reply room a → Pays (m ∷ []) a b
pays-first m room a b fits e = (room, fits, e)

-- so many replies less are owed
pub pays-count : (ms : List ReplyMessage) (a b : Due) → Pays ms a b → b.replies ≡ a.replies - length ms
pays-count [] a b e = ap (λ (d : Due). d.replies) e ∙ omega arith
pays-count (m ∷ ms) a b (room, fits, p) =
    let rest = pays-count ms (without_reply room a) b p in omega (arith, rest)

-- where none is owed, no room is
pub pays-out : (ms : List ReplyMessage) (a b : Due) → (a.replies ≡ 0 → a.room ≡ 0) → Pays ms a b → b.replies ≡ 0 → b.room ≡ 0
pays-out [] a b h e none = ap (λ (d : Due). d.room) e ∙ h (sym (ap (λ (d : Due). d.replies) e) ∙ none)
pays-out (m ∷ ms) a b h (room, fits, p) none =
    pays-out ms (without_reply room a) b
    (λ e. ap (λ (x : Bool). if x then 0 else a.room - max room 256) (ap (λ (k : ℕ). k == 0) e)) p none
