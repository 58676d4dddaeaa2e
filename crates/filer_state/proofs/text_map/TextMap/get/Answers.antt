use Rattle.std.proofs.Common.{ℕ, List, Some, sym, ap, ◌∙◌}
use Rattle.std.specs.FinMap.{get}
use Rattle.std.specs.Option.{option_copied}
use Rattle.filer_state.proofs.FileidMaps.{get-at}
use Rattle.filer_state.proofs.text_map.TextMap.get.Goals as goal

pub returns-in_err-text : goal.returns-in_err-text
returns-in_err-text c =
    ap (λ text. option_copied text) c.from_residual.ensures ∙ c.in_err-text.ensures.value
    ∙ sym (get-at c.self.inside.by_fileid c.args.fileid.0) ∙ ap (λ m. get m c.args.fileid.0) c.self.view_is

pub returns : goal.returns
returns c =
    ap (λ (text : List ℕ). Some text) c.as_bytes.ensures ∙ c.in_ok-text.ensures.value
    ∙ sym (get-at c.self.inside.by_fileid c.args.fileid.0) ∙ ap (λ m. get m c.args.fileid.0) c.self.view_is
