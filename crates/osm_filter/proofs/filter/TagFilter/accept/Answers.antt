use Rattle.std.proofs.Common.{ap, refl}
use Rattle.osm_filter.specs.Filtering.{FilterValue}
use Rattle.osm_filter.proofs.FilterLemmas.{filter_takes_item, filter_takes_end}
use Rattle.osm_filter.proofs.filter.TagFilter.accept.Goals as goal

pub returns-in-Item-clause-takes : goal.returns-in-Item-clause-takes
returns-in-Item-clause-takes c = rw c.in-Item.is
    (filter_takes_item c.args.self.now _ c.in-Item.item c.args.port
    (ap (λ (f : FilterValue). f.options) c.self.view_is) c.passed.ensures
    (ap (λ (f : FilterValue). f.end) c.self.view_is) c.requires)

pub returns-in-End-clause-takes : goal.returns-in-End-clause-takes
returns-in-End-clause-takes c = rw c.in-End.is
    (filter_takes_end c.args.self.now _ c.in-End.end c.args.port
    (ap (λ (f : FilterValue). f.options) c.self.view_is) refl refl c.requires)
