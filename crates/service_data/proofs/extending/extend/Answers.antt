use Rattle.std.proofs.Common.{◌≡◌, ◌≤◌, List, ℕ, length, take, sym, ap, subst, ◌∙◌, arith}
use Rattle.std.specs.FinSet.{len}
use Rattle.nfs_values.specs.Moment.{moment_of}
use Rattle.nfs_model.specs.volume.Logical.{LogicalValue}
use Rattle.filer_state.specs.bytes.Extending.{holes}
use Rattle.filer_state.specs.state.Sets.{logical_before}
use Rattle.service_data.specs.Holes.{Rise, AreHoles}
use Rattle.service_data.proofs.Holed.{holes-are, holes-rise}
use Rattle.service_data.proofs.Extended.{extends-file, enough-there, as-many}
use Rattle.service_data.proofs.extending.extend.Goals as goal

pub fill_holes-requires-clause-rise : goal.fill_holes-requires-clause-rise
fill_holes-requires-clause-rise c =
    subst (Rise 0) (sym c.find_holes-count.ensures.holes)
    (holes-rise c.args.fileid.0 (logical_before c.args.held.now).stripes c.args.offset (length c.args.written.now))

pub fill_holes-requires-clause-holes : goal.fill_holes-requires-clause-holes
fill_holes-requires-clause-holes c =
    subst (AreHoles c.args.fileid.0 (logical_before c.args.held.now).stripes) (sym c.find_holes-count.ensures.holes)
    (holes-are c.args.fileid.0 (logical_before c.args.held.now).stripes c.args.offset (length c.args.written.now))

pub returns-clause-extended : goal.returns-clause-extended
returns-clause-extended c =
    let few : c.find_holes-count.result ≤ length c.find_holes-count.new.found =
    let most = c.find_holes-count.ensures.few in
    let long : length c.find_holes-count.new.found ≡ 17 = c.find_holes-count.array_long in omega (arith, most, long) in
    let bs : List ℕ = take c.find_holes-count.result c.find_holes-count.new.found in (
      enough-there c.find_holes-count.new.found (holes (logical_before c.args.held.now).stripes c.args.fileid.0 c.args.offset (length c.args.written.now))
          c.find_holes-count.result c.len.result (len c.args.held.now.own.stock) few c.find_holes-count.ensures.holes
          (let enough = c.if-count-len.false in omega (arith, enough)) (c.len.ensures ∙ ap (λ (l : LogicalValue). len l.stock) c.get.ensures),
      extends-file c.args.held.now c.fill_holes.new.held c.number_holes.new.held c.extend_inode.new.held c.grow_cards.new.held c.write_spans.new.held
          c.args.fileid.0 c.args.offset c.args.written.now (moment_of c.args.moment) bs c.find_holes-count.ensures.holes c.find_holes-count.result
          (as-many c.find_holes-count.new.found c.find_holes-count.result few) c.in-Ok.ensures.ok c.number_holes.ensures c.extend_inode.ensures.own
          c.extend_inode.ensures.stripes c.grow_cards.ensures c.write_spans.ensures,
    )
