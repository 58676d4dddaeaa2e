use Rattle.std.proofs.Common.{drop, ◌++◌, sym, ap, ◌∙◌, ℕ, arith}
use Rattle.std.specs.Global.{Vec}
use Rattle.std.proofs.lemmas.List.{drop_all}
use Rattle.nfs_values.proofs.Behind.{has-head, with-head, long-still, moved}
use Rattle.nfs_values.proofs.bytes.BytesRead.move_behind.Goals as goal

pub put_head-requires-clause-place : goal.put_head-requires-clause-place
put_head-requires-clause-place c =
    let place = c.self.inside.place in
    rw c.deref_mut.ensures.value
    (has-head place.items place.len c.self.invariant.0 place.ok.0 (sym c.is_empty.ensures ∙ c.if-is_empty.false))

pub pad-requires : goal.pad-requires
pad-requires c =
    let place = c.self.inside.place in
    let long = has-head place.items place.len c.self.invariant.0 place.ok.0 (sym c.is_empty.ensures ∙ c.if-is_empty.false) in
    let put = c.put_head.ensures ∙ λ j. c.deref.ensures.value j ++ drop 48 (c.deref_mut.ensures.value j) in
    record {
      head = long-still place.items c.args.head.now.items _ c.requires
          (with-head place.items c.args.head.now.items c.put_head.new.place place.len long c.requires put place.ok.0);
      room = c.self.invariant.1;
    }

pub returns-clause-moved : goal.returns-clause-moved
returns-clause-moved c =
    let place = c.self.inside.place in
    let long = has-head place.items place.len c.self.invariant.0 place.ok.0 (sym c.is_empty.ensures ∙ c.if-is_empty.false) in
    let put = c.put_head.ensures ∙ λ j. c.deref.ensures.value j ++ drop 48 (c.deref_mut.ensures.value j) in
    moved place.items c.args.self.now c.args.head.now.items _ c.swap.new.y.items (sym c.self.view_is) c.requires
    (with-head place.items c.args.head.now.items c.put_head.new.place place.len long c.requires put place.ok.0)
    (ap (λ (v : Vec ℕ). v.items) c.swap.ensures.y_after ∙ c.pad.ensures)

pub returns-clause-none : goal.returns-clause-none
returns-clause-none c =
    ap (λ (v : Vec ℕ). drop 48 v.items) c.swap.ensures.x_after ∙ drop_all 48 c.args.head.now.items (omega (arith, c.requires))
