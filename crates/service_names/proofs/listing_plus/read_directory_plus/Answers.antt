use Rattle.std.proofs.Common.{sym, ap, ◌∙◌, Ok, Err, None, map}
use Rattle.std.specs.Prelude.{min}
use Rattle.nfs_model.specs.Types.{Shown, ReaddirplusDone}
use Rattle.nfs_model.specs.Serial.Readdir.{above_cookie}
use Rattle.nfs_model.specs.Server.{most_bytes}
use Rattle.nfs_values.specs.Answer.{entry_plus_of}
use Rattle.filer_state.specs.state.Changes.{shown_inode}
use Rattle.filer_state.specs.changes.NameAnswers.{entry_for}
use Rattle.nfs_values.specs.Caller.{caller_of}
use Rattle.service_names.specs.Listing.{all_under, entry_if, page_plus_value}
use Rattle.nfs_values.specs.declared.status.Status.TheVariants.{BadCookie, TooSmall}
use Rattle.inodes.specs.Inode.{inode_value}
use Rattle.filer_state.specs.state.Sets.{logical_before}
use Rattle.service_names.specs.lemmas.Whole.{whole-links}
use Rattle.service_names.proofs.ListsPlus.{lists, starves, listed_in, bad-cookie, good-cookie, good-page, plus-nothing, plus-some, plus-fits, plus-small}
use Rattle.service_names.proofs.listing_plus.read_directory_plus.Goals as goal

pub returns-in-Err : goal.returns-in-Err
returns-in-Err c =
    let v = c.args.volume.0 in
    let fileid = c.args.directory.0 in
    let set = logical_before c.args.held.now in
    record {
      right = lists v fileid c.args.asked (caller_of c.args.caller.now) set (Err c.in-Err.status)
          (sym (c.in-Err.ensures.told (listed_in v fileid c.args.asked (caller_of c.args.caller.now) set)));
    }

pub returns-then-is_bad_cookie : goal.returns-then-is_bad_cookie
returns-then-is_bad_cookie c =
    let v = c.args.volume.0 in
    let fileid = c.args.directory.0 in
    let set = logical_before c.args.held.now in
    let as_directory = c.in-Ok.ensures.told (listed_in v fileid c.args.asked (caller_of c.args.caller.now) set) in
    record {
      right = lists v fileid c.args.asked (caller_of c.args.caller.now) set (Err BadCookie)
          (sym (bad-cookie v fileid c.args.asked (caller_of c.args.caller.now) set (inode_value c.in-Ok.found.0) c.in-Ok.found.1.0 as_directory
          (sym c.is_bad_cookie.ensures ∙ c.if-is_bad_cookie.true)));
    }

pub returns-then-count-lt-PAGE_SIZE : goal.returns-then-count-lt-PAGE_SIZE
returns-then-count-lt-PAGE_SIZE c =
    let v = c.args.volume.0 in
    let fileid = c.args.directory.0 in
    let set = logical_before c.args.held.now in
    let inode = inode_value c.in-Ok.found.0 in
    let parent = c.in-Ok.found.1.0 in
    let n = c.min-count.result in
    let directory = shown_inode v fileid inode None in
    let told = entry_for (caller_of c.args.caller.now) v set inode in
    let names = min c.args.asked.names_count most_bytes in
    let remaining = above_cookie c.args.asked.cookie.0 (all_under set.own fileid parent) in
    let good = good-cookie v fileid c.args.asked (caller_of c.args.caller.now) set inode parent
    (c.in-Ok.ensures.told (listed_in v fileid c.args.asked (caller_of c.args.caller.now) set))
    (sym c.is_bad_cookie.ensures ∙ c.if-is_bad_cookie.false) n c.min-count.ensures in
    record {
      right = lists v fileid c.args.asked (caller_of c.args.caller.now) set (Err TooSmall)
          (sym (good ∙ plus-small n told directory names remaining c.if-count-lt-PAGE_SIZE.true));
    }

pub returns-in_err-page : goal.returns-in_err-page
returns-in_err-page c =
    let v = c.args.volume.0 in
    let fileid = c.args.directory.0 in
    let set = logical_before c.args.held.now in
    let inode = inode_value c.in-Ok.found.0 in
    let parent = c.in-Ok.found.1.0 in
    let n = c.min-count.result in
    let directory = shown_inode v fileid inode None in
    let told = entry_if c.sees_names_alone-is_bare.result v set in
    let names = min c.args.asked.names_count most_bytes in
    let remaining = above_cookie c.args.asked.cookie.0 (all_under set.own fileid parent) in
    let good = good-page v fileid c.args.asked (caller_of c.args.caller.now) set inode parent
    (c.in-Ok.ensures.told (listed_in v fileid c.args.asked (caller_of c.args.caller.now) set))
    (sym c.is_bad_cookie.ensures ∙ c.if-is_bad_cookie.false) n c.min-count.ensures c.sees_names_alone-is_bare.result c.sees_names_alone-is_bare.ensures in
    record {
      right = starves v fileid c.args.asked (caller_of c.args.caller.now) set c.from_residual.result c.from_residual.ensures.0 _ _ _
          (good ∙ plus-fits n told directory names remaining c.if-count-lt-PAGE_SIZE.false c.in_err-page.ensures.err);
    }

pub returns-then-tells_no_node : goal.returns-then-tells_no_node
returns-then-tells_no_node c =
    let v = c.args.volume.0 in
    let fileid = c.args.directory.0 in
    let set = logical_before c.args.held.now in
    let inode = inode_value c.in-Ok.found.0 in
    let parent = c.in-Ok.found.1.0 in
    let n = c.min-count.result in
    let directory = shown_inode v fileid inode None in
    let told = entry_if c.sees_names_alone-is_bare.result v set in
    let names = min c.args.asked.names_count most_bytes in
    let remaining = above_cookie c.args.asked.cookie.0 (all_under set.own fileid parent) in
    let good = good-page v fileid c.args.asked (caller_of c.args.caller.now) set inode parent
    (c.in-Ok.ensures.told (listed_in v fileid c.args.asked (caller_of c.args.caller.now) set))
    (sym c.is_bad_cookie.ensures ∙ c.if-is_bad_cookie.false) n c.min-count.ensures c.sees_names_alone-is_bare.result c.sees_names_alone-is_bare.ensures in
    record {
      right = lists v fileid c.args.asked (caller_of c.args.caller.now) set (Err TooSmall)
          (sym (good ∙ plus-nothing n told directory names remaining (page_plus_value c.in_ok-page.page) c.in_ok-page.ensures.ok
          (sym c.tells_no_node.ensures ∙ c.if-tells_no_node.true)));
    }

pub shown-requires : goal.shown-requires
shown-requires c = record {
  few = whole-links c.args.volume.0 (logical_before c.args.held.now) c.requires.whole c.args.directory.0 (inode_value c.in-Ok.found.0) c.in-Ok.ensures.there;
}

pub returns : goal.returns
returns c =
    let v = c.args.volume.0 in
    let fileid = c.args.directory.0 in
    let set = logical_before c.args.held.now in
    let inode = inode_value c.in-Ok.found.0 in
    let parent = c.in-Ok.found.1.0 in
    let n = c.min-count.result in
    let directory = shown_inode v fileid inode None in
    let told = entry_if c.sees_names_alone-is_bare.result v set in
    let names = min c.args.asked.names_count most_bytes in
    let remaining = above_cookie c.args.asked.cookie.0 (all_under set.own fileid parent) in
    let good = good-page v fileid c.args.asked (caller_of c.args.caller.now) set inode parent
    (c.in-Ok.ensures.told (listed_in v fileid c.args.asked (caller_of c.args.caller.now) set))
    (sym c.is_bad_cookie.ensures ∙ c.if-is_bad_cookie.false) n c.min-count.ensures c.sees_names_alone-is_bare.result c.sees_names_alone-is_bare.ensures in
    record {
      right = lists v fileid c.args.asked (caller_of c.args.caller.now) set
          (Ok (record { directory = c.shown.result; entries = c.in_ok-page.page.entries; eof = c.in_ok-page.page.is_last }))
          (ap (λ (s : Shown). ReaddirplusDone s (map entry_plus_of c.in_ok-page.page.entries.items) c.in_ok-page.page.is_last) c.shown.ensures
          ∙ sym (good ∙ plus-some n told directory names remaining (page_plus_value c.in_ok-page.page) c.in_ok-page.ensures.ok c.if-count-lt-PAGE_SIZE.false
          (sym c.tells_no_node.ensures ∙ c.if-tells_no_node.false)));
    }
