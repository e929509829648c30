use Rattle.std.proofs.Common.{◌∙◌, ap, sym, ℤ, List}
use Rattle.std.specs.Ordering.{int_eq}
use Rattle.std.proofs.lemmas.List.Sorted.{list_any-IsPermutation}
use Rattle.osm_used.specs.Used.{has_id}
use Rattle.osm_used.proofs.ids.Ids.sort.Goals as goal

pub returns : goal.returns
returns c = λ q. sym (list_any-IsPermutation (λ other. int_eq other q) c.self.inside.ids.items
    c.sort_unstable.new.self.items c.sort_unstable.ensures.permutation)
    ∙ ap (λ (ids : List ℤ). has_id ids q) c.self.view_is
