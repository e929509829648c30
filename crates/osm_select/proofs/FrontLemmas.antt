-- Nodes alone touch nothing, are not drawn in, link nothing and complete no way.
use Rattle.std.proofs.Common.{◌≡◌, ◌+◌, ℕ, List, Some, take, [], ◌∷◌, Bool, true, false, ◌&&◌, ◌||◌, refl, sym, ap, ◌∙◌}
use Rattle.std.specs.Prelude.{ℤ}
use Rattle.std.specs.List.{list_all, list_any, slice_get}
use Rattle.std.specs.Ordering.{int_eq}
use Rattle.std.proofs.Math.Path.{fun_ext}
use Rattle.std.proofs.lemmas.List.Folds.{list_all-append}
use Rattle.osm_entity.specs.Items.{ItemValue}
use Rattle.osm_entity.specs.declared.parts.Body.{Body}
use Rattle.osm_entity.specs.declared.parts.Body.TheVariants.{Node, Way, Relation}
use Rattle.osm_select.specs.Front.{StartWithNodes, is_node}
use Rattle.osm_select.specs.Held.{completes, has_ref, is_drawn}
use Rattle.osm_select.specs.IdSets.{either, no_ids}
use Rattle.osm_select.specs.Links.{links_in, names_relation}
use Rattle.osm_select.proofs.HeldLemmas.{take_place}
use Rattle.osm_select.specs.Parts.{Sets, ids_where, touches}

both_true : (a b : Bool) → (a && b) ≡ true → (a ≡ true) × (b ≡ true)
both_true true b is = (refl, is)
both_true false b is = absurd cc

and_false : (a b : Bool) → b ≡ false → (a && b) ≡ false
and_false true b is = is
and_false false b is = refl

-- what no node passes, no item of some nodes passes
none_of_nodes : (test : ItemValue → Bool) (items : List ItemValue) →
    ((item : ItemValue) → is_node item.entity.body ≡ true → test item ≡ false) →
    list_all (λ item. is_node item.entity.body) items ≡ true → false ≡ list_any test items
none_of_nodes test [] fails are = refl
none_of_nodes test (item ∷ more) fails are =
    let parts = both_true (is_node item.entity.body) (list_all (λ item. is_node item.entity.body) more) are in
    none_of_nodes test more fails parts.1 ∙ ap (λ b. b || list_any test more) (sym (fails item parts.0))

-- a node more in front
pub one_node_more : (items : List ItemValue) (place : ℕ) (item : ItemValue) → slice_get items place ≡ Some item →
    is_node item.entity.body ≡ true → StartWithNodes place items → StartWithNodes (place + 1) items
one_node_more items place item is node are =
    ap (list_all (λ item. is_node item.entity.body)) (take_place items place item is)
    ∙ list_all-append (λ item. is_node item.entity.body) (take place items) (item ∷ [])
    ∙ ap (λ b. b && (is_node item.entity.body && true)) are ∙ ap (λ b. b && true) node

touches_none : (nodes : ℤ → Bool) (body : Body) → is_node body ≡ true → touches nodes body ≡ false
touches_none nodes (Node place) is = refl
touches_none nodes (Way refs) is = absurd cc
touches_none nodes (Relation members) is = absurd cc

pub nodes_touch_none : (nodes : ℤ → Bool) (items : List ItemValue) →
    list_all (λ item. is_node item.entity.body) items ≡ true →
    no_ids ≡ ids_where (λ item. touches nodes item.entity.body) items
nodes_touch_none nodes items are = fun_ext (λ id. none_of_nodes
    (λ item. int_eq item.entity.id id && touches nodes item.entity.body) items
    (λ item is. and_false (int_eq item.entity.id id) (touches nodes item.entity.body)
    (touches_none nodes item.entity.body is)) are)

drawn_not : (sets : Sets) (item : ItemValue) (body : Body) → item.entity.body ≡ body → is_node body ≡ true →
    is_drawn sets item ≡ false
drawn_not sets item (Node place) is node =
    ap (λ b. is_drawn sets (record item { entity = record item.entity { body = b } })) is
drawn_not sets item (Way refs) is node = absurd cc
drawn_not sets item (Relation members) is node = absurd cc

pub nodes_are_not_drawn : (sets : Sets) (items : List ItemValue) →
    list_all (λ item. is_node item.entity.body) items ≡ true → no_ids ≡ ids_where (is_drawn sets) items
nodes_are_not_drawn sets items are = fun_ext (λ id. none_of_nodes
    (λ item. int_eq item.entity.id id && is_drawn sets item) items
    (λ item is. and_false (int_eq item.entity.id id) (is_drawn sets item)
    (drawn_not sets item item.entity.body refl is)) are)

names_none : (n : ℤ) (body : Body) → is_node body ≡ true → names_relation n body ≡ false
names_none n (Node place) is = refl
names_none n (Way refs) is = absurd cc
names_none n (Relation members) is = absurd cc

pub nodes_link_none : (items : List ItemValue) → list_all (λ item. is_node item.entity.body) items ≡ true →
    (λ n b. false) ≡ links_in items
nodes_link_none items are = fun_ext (λ n. fun_ext (λ b. none_of_nodes
    (λ item. int_eq item.entity.id b && names_relation n item.entity.body) items
    (λ item is. and_false (int_eq item.entity.id b) (names_relation n item.entity.body)
    (names_none n item.entity.body is)) are))

refers_none : (id : ℤ) (body : Body) → is_node body ≡ true → has_ref id body ≡ false
refers_none id (Node place) is = refl
refers_none id (Way refs) is = absurd cc
refers_none id (Relation members) is = absurd cc

or_none : (b : Bool) → b ≡ (b || false)
or_none true = refl
or_none false = refl

pub nodes_complete_none : (ways first : ℤ → Bool) (items : List ItemValue) →
    list_all (λ item. is_node item.entity.body) items ≡ true →
    first ≡ either first (λ id. list_any (completes ways id) items)
nodes_complete_none ways first items are = fun_ext (λ id. or_none (first id) ∙ ap (λ b. first id || b)
    (none_of_nodes (completes ways id) items
    (λ item is. and_false (ways item.entity.id) (has_ref id item.entity.body)
    (refers_none id item.entity.body is)) are))
