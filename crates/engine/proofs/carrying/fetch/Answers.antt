use Rattle.std.proofs.Common.{refl, sym, ◌∙◌, inl}
use Rattle.std.proofs.lemmas.Bool.{le-leb, lt-leb}
use Rattle.engine.specs.Seen.{setup_in, world, answer_of}
use Rattle.filer_state.specs.state.Jobs.{Fetch}
use Rattle.engine.specs.declared.inner.Asked.TheVariants as asks
use Rattle.engine.proofs.Asking.{ask_one}
use Rattle.engine.proofs.Carried.{fetch-beyond, fetch-busy, fetch-nowhere, fetched}
use Rattle.engine.proofs.Free.{free-there, volume-asked, may_fetch}
use Rattle.engine.proofs.carrying.fetch.Goals as goal

pub returns-then-not-is_free-clause-events : goal.returns-then-not-is_free-clause-events
returns-then-not-is_free-clause-events c =
    let s = c.args.state.now in
    let busy = (free-there s.workers.items c.deref.result.now c.args.worker c.is_free.result c.deref.ensures.value c.is_free.ensures ∙ c.if-not-is_free.true) in
    (inl (fetch-busy (setup_in s) (world s) c.args.worker busy c.args.volume.0 c.args.range), refl)

pub returns-then-not-has_volume-clause-events : goal.returns-then-not-has_volume-clause-events
returns-then-not-has_volume-clause-events c =
    let s = c.args.state.now in
    let free = (free-there s.workers.items c.deref.result.now c.args.worker c.is_free.result c.deref.ensures.value c.is_free.ensures
    ∙ c.if-not-is_free.false) in
    let none = volume-asked s c.requires c.args.volume.0 c.has_volume.result c.has_volume.ensures ∙ c.if-not-has_volume.true in
    (inl (fetch-nowhere (setup_in s) (world s) c.args.worker free c.args.volume.0 none c.args.range), refl)

pub returns-then-range-ge-RANGES-clause-events : goal.returns-then-range-ge-RANGES-clause-events
returns-then-range-ge-RANGES-clause-events c =
    let s = c.args.state.now in
    let free = (free-there s.workers.items c.deref.result.now c.args.worker c.is_free.result c.deref.ensures.value c.is_free.ensures
    ∙ c.if-not-is_free.false) in
    let there = volume-asked s c.requires c.args.volume.0 c.has_volume.result c.has_volume.ensures ∙ c.if-not-has_volume.false in
    (inl (fetch-beyond (setup_in s) (world s) c.args.worker free c.args.volume.0 there c.args.range (le-leb 16 c.args.range c.if-range-ge-RANGES.true)), refl)

pub tend-requires-clause-may : goal.tend-requires-clause-may
tend-requires-clause-may c =
    let s = c.args.state.now in
    let free = (free-there s.workers.items c.deref.result.now c.args.worker c.is_free.result c.deref.ensures.value c.is_free.ensures
    ∙ c.if-not-is_free.false) in
    let may = may_fetch s c.requires c.args.worker free c.args.volume.0 (sym c.if-not-has_volume.false ∙ c.has_volume.ensures) c.args.range
    c.if-range-ge-RANGES.false in
    ask_one s c.args.worker (asks.Fetch c.args.volume c.args.range) (Fetch c.args.volume.0 c.args.range) may refl may.fits

pub returns-clause-events : goal.returns-clause-events
returns-clause-events c =
    let s = c.args.state.now in
    let free = (free-there s.workers.items c.deref.result.now c.args.worker c.is_free.result c.deref.ensures.value c.is_free.ensures
    ∙ c.if-not-is_free.false) in
    let there = volume-asked s c.requires c.args.volume.0 c.has_volume.result c.has_volume.ensures ∙ c.if-not-has_volume.false in
    let may = may_fetch s c.requires c.args.worker free c.args.volume.0 (sym c.if-not-has_volume.false ∙ c.has_volume.ensures) c.args.range
    c.if-range-ge-RANGES.false in
    fetched (setup_in s) (world s) c.args.worker free c.args.volume.0 there c.args.range (lt-leb 16 c.args.range c.if-range-ge-RANGES.false)
    (answer_of c.tend.result) (world c.tend.new.state) (c.tend.ensures.tends may.hand may.there)
