use Rattle.std.proofs.Common.{sym, ap, ◌∙◌, Bool, None}
use Rattle.std.specs.Prelude.{if◌then◌else◌}
use Rattle.nfs_model.specs.Serial.Permission.{is_no_child}
use Rattle.rights.specs.Protection.{protection_of}
use Rattle.filer_state.specs.permissions.Refusing.{protection_under}
use Rattle.filer_state.specs.state.Sets.{logical_before}
use Rattle.service_names.proofs.refusing.named.Goals as goal

pub returns-in-Err : goal.returns-in-Err
returns-in-Err c = λ ask.
    let under = protection_under (logical_before c.args.held.now) c.args.fileid.0 c.args.name.now in
    c.in-Err.ensures (λ d. if is_no_child c.args.name.now then None else ask d under)

pub returns-then-is_no_child : goal.returns-then-is_no_child
returns-then-is_no_child c = λ ask.
    let under = protection_under (logical_before c.args.held.now) c.args.fileid.0 c.args.name.now in
    c.in-Ok.ensures (λ d. if is_no_child c.args.name.now then None else ask d under)
    ∙ ap (λ (b : Bool). if b then None else ask (protection_of c.in-Ok.directory) under) (sym c.is_no_child.ensures ∙ c.if-is_no_child.true)

pub returns : goal.returns
returns c = λ ask.
    let under = protection_under (logical_before c.args.held.now) c.args.fileid.0 c.args.name.now in
    c.in-Ok.ensures (λ d. if is_no_child c.args.name.now then None else ask d under)
    ∙ ap (λ (b : Bool). if b then None else ask (protection_of c.in-Ok.directory) under) (sym c.is_no_child.ensures ∙ c.if-is_no_child.false)
