use Rattle.std.proofs.Common.{◌≡◌, map, length, refl, ◌∙◌, arith}
use Rattle.std.specs.Prelude.{min, ◌&&◌, ◌==◌}
use Rattle.nfs_model.specs.Server.{most_bytes}
use Rattle.nfs_values.specs.Answer.{entry_of, entry_plus_of}
use Rattle.nfs_model.specs.Serial.Readdir.{above_cookie}
use Rattle.directories.specs.Entries.{page_value}
use Rattle.filer_state.specs.state.Sets.{logical_before}
use Rattle.service_names.specs.Listing.{all_under, entry_if}
use Rattle.service_names.proofs.PagesPlus.{some-whole, some-there, page-whole, on-error, end-told, end-cut, as-many}
use Rattle.service_names.proofs.listing_plus.page_plus_at.Goals.{then-page, else-page}
use Rattle.service_names.proofs.listing_plus.page_plus_at.Goals as goal

pub returns-in_err-page-clause-err : goal.returns-in_err-page-clause-err
returns-in_err-page-clause-err c =
    let names = min c.args.asked.names_count most_bytes in
    let remaining = above_cookie c.args.asked.cookie.0 (all_under c.args.held.now.own c.args.directory.0 c.args.parent.0) in
    let is = c.min-names-2.ensures ∙ (λ j. min (c.min-names.ensures j) (c.saturating_sub.ensures j)) in
    on-error c.from_residual.result
    (some-whole names c.min-names-2.result c.args.room is remaining c.in_err-page.ensures.err)

pub returns-in_err-entries-clause-err : goal.returns-in_err-entries-clause-err
returns-in_err-entries-clause-err c =
    let names = min c.args.asked.names_count most_bytes in
    let remaining = above_cookie c.args.asked.cookie.0 (all_under c.args.held.now.own c.args.directory.0 c.args.parent.0) in
    let is = c.min-names-2.ensures ∙ (λ j. min (c.min-names.ensures j) (c.saturating_sub.ensures j)) in
    let some = c.in_err-entries.ensures.err in
    on-error c.from_residual-in_err-entries.result
    (some-there names c.min-names-2.result c.args.room is remaining
    (page_value c.in_ok-page.page) c.in_ok-page.ensures.ok (length c.in_ok-page.page.entries.items)
    (as-many entry_of c.in_ok-page.page.entries.items _ refl) some)

pub returns-clause-ok : goal.returns-clause-ok
returns-clause-ok c =
    let page = c.in_ok-page.page in
    let told = c.in_ok-entries.entries in
    let names = min c.args.asked.names_count most_bytes in
    let remaining = above_cookie c.args.asked.cookie.0 (all_under c.args.held.now.own c.args.directory.0 c.args.parent.0) in
    let is = c.min-names-2.ensures ∙ (λ j. min (c.min-names.ensures j) (c.saturating_sub.ensures j)) in
    let many : c.len-fitting.result ≡ length page.entries.items =
    let is = c.len-fitting.ensures in
    let n = page.entries.ok.0 in omega (arith, is, n) in
    let last : c.if-page.is_last ≡ (page.is_last && (length (map entry_plus_of told.items) == c.len-fitting.result)) =
    elim c.if-page.branch [
      | then-page w ↦ end-told c.if-page.is_last page.is_last w.len.result _ c.len-fitting.result w.if-page.true w.is_last-is
          (as-many entry_plus_of told.items _ (let is = w.len.ensures in let n = told.ok.0 in omega (arith, is, n)))
      | else-page w ↦ end-cut c.if-page.is_last page.is_last _ c.len-fitting.result w.if-page.false w.is_last-is
    ] in
    page-whole names c.min-names-2.result c.args.room is remaining (page_value page)
    c.in_ok-page.ensures.ok (entry_if c.args.is_bare c.args.volume.0 (logical_before c.args.held.now)) (map entry_plus_of told.items) c.in_ok-entries.ensures.ok
    (length (map entry_plus_of told.items)) c.len-fitting.result refl (as-many entry_of page.entries.items _ many) c.if-page.is_last last
