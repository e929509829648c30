use Rattle.std.proofs.Common.{◌≡◌, ℤ, List, length, ap, of_z, rules, subst, to_z, ◌∙◌}
use Rattle.std.specs.Int.{w64}
use Rattle.std.specs.List.Sorted.{IsBinarySearchResult, IsSearchInRange}
use Rattle.std.specs.Ordering.{int_cmp}
use Rattle.std.proofs.lemmas.Int.{to_z-of_z}
use Rattle.osm_used.specs.Used.{has_id}
use Rattle.osm_used.proofs.IdLemmas.{has_id-searched}
use Rattle.osm_used.proofs.ids.Ids.has.Goals as goal

pub returns-then-self : goal.returns-then-self
returns-then-self c =
    let same : to_z w64 (of_z w64 c.args.id) ≡ c.args.id = search (rules, to_z-of_z) in
    c.is_ok.ensures.value
    ∙ has_id-searched c.self.inside.ids.items (to_z w64 (of_z w64 c.args.id)) c.binary_search.result
    (c.self.invariant c.if-self.true)
    (subst (λ (ids : List ℤ). IsSearchInRange c.binary_search.result (length ids)) c.deref.ensures.value
    c.binary_search.ensures.bound)
    (subst (λ (ids : List ℤ). IsBinarySearchResult (λ y. int_cmp y (to_z w64 (of_z w64 c.args.id))) ids
    c.binary_search.result) c.deref.ensures.value c.binary_search.ensures.position)
    ∙ ap (has_id c.self.inside.ids.items) same ∙ ap (λ (ids : List ℤ). has_id ids c.args.id) c.self.view_is
