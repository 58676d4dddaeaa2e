-- Shared outboxes, taken out and given back.
use Rattle.std.proofs.Common.{◌≡◌, ◌∙◌, ap}
use Rattle.outboxes.specs.Boxes.{Boxes}
use Rattle.granted_calls.specs.SharedOutboxes.{Lent, HasChanged}
use Rattle.granted_calls.specs.shared_waiting.Balance.{added, taken}

pub changed : (v u w : Lent) (b c d : Boxes) → u ≡ taken v b → w ≡ added u c → c ≡ d → HasChanged v b d w
changed v u w b c d took gave is = gave ∙ ap (λ (x : Lent). added x c) took ∙ ap (λ (x : Boxes). added (taken v b) x) is
