use Rattle.nfs_model.specs.Route as model
use Rattle.nfs_values.specs.declared.route.Route.{Route}
use Rattle.nfs_values.specs.declared.route.Route.TheVariants.{AtOnce, Names, BytesRead, BytesWritten, TwoHandles, Volume, Aggregate, Everything}

-- a route, as the model has it
abbrev pub route_of : Route → model.Route
route_of AtOnce = model.AtOnce
route_of (Names handle) = model.OfNames handle.now
route_of (BytesRead handle offset count) = model.OfBytesRead handle.now offset count
route_of (BytesWritten handle offset count) = model.OfBytesWritten handle.now offset count
route_of (TwoHandles from to) = model.OfTwoHandles from.now to.now
route_of (Volume handle) = model.OfVolume handle.now
route_of (Aggregate volume) = model.OfAggregate volume.0
route_of Everything = model.OfEverything
