-- The ids that the links draw in are the least closed set.
use Rattle.std.proofs.Common.{◌≡◌, ◌⊎◌, inl, inr, ℕ, ◌≤◌, List, [], ◌∷◌, length, take, Bool, true, ◌&&◌, ◌||◌, sym, ap, ◌∙◌}
use Rattle.std.specs.Prelude.{ℤ}
use Rattle.std.specs.Ordering.{int_eq}
use Rattle.std.specs.List.{list_any}
use Rattle.std.proofs.lemmas.List.{take_all}
use Rattle.osm_area.specs.Areas.{holds}
use Rattle.osm_area.specs.declared.area.Area.{Area}
use Rattle.osm_entity.specs.Items.{ItemValue}
use Rattle.osm_entity.specs.declared.kind.Kind.{Kind}
use Rattle.osm_entity.specs.declared.kind.Kind.TheVariants.{Node as OfNode, Relation as OfRelation, Way as OfWay}
use Rattle.osm_entity.specs.declared.parts.Body.{Body}
use Rattle.osm_entity.specs.declared.parts.Body.TheVariants.{Node, Relation, Way}
use Rattle.osm_entity.specs.declared.parts.Member.{Member}
use Rattle.osm_select.specs.Held.{IsLeast, drawn, least_relations}
use Rattle.osm_select.specs.IdSets.{HoldsAll, no_ids}
use Rattle.osm_select.specs.Links.{IsClosedUnder, is_relation_kind, links_in, names_relation}
use Rattle.osm_select.specs.Parts.{Sets, around, has_part, ids_of_kind, ids_where, is_relation}
use Rattle.osm_select.proofs.LinkLemmas.{and_left, and_right, itself, or_cases, or_left, or_right, same_id}
use Rattle.osm_select.proofs.RoundLemmas.{any_weaker, both, drawn_weaker, one_least, rounds_are_least}

-- of what passes a test that two others make up, something passes the first, or the second by an id of a set
any_split : {X : Type 0} (set : ℤ → Bool) (p q : X → Bool) (r : ℤ → X → Bool) (xs : List X) →
    ((x : X) → p x ≡ true → (q x ≡ true) ⊎ ((n : ℤ) × (set n ≡ true) × (r n x ≡ true))) →
    list_any p xs ≡ true → (list_any q xs ≡ true) ⊎ ((n : ℤ) × (set n ≡ true) × (list_any (r n) xs ≡ true))
any_split set p q r [] gives is = inl is
any_split {X} set p q r (x ∷ xs) gives is = by (or_cases (p x) (list_any p xs) is)
    (any_split set p q r xs gives) where
      here : (q x ≡ true) ⊎ ((n : ℤ) × (set n ≡ true) × (r n x ≡ true)) →
          ((q x || list_any q xs) ≡ true) ⊎ ((n : ℤ) × (set n ≡ true) × ((r n x || list_any (r n) xs) ≡ true))
      here (inl one) = inl (or_left (q x) (list_any q xs) one)
      here (inr named) = inr (named.0, named.1, or_left (r named.0 x) (list_any (r named.0) xs) named.2)

      later : (list_any q xs ≡ true) ⊎ ((n : ℤ) × (set n ≡ true) × (list_any (r n) xs ≡ true)) →
          ((q x || list_any q xs) ≡ true) ⊎ ((n : ℤ) × (set n ≡ true) × ((r n x || list_any (r n) xs) ≡ true))
      later (inl one) = inl (or_right (q x) (list_any q xs) one)
      later (inr named) = inr (named.0, named.1, or_right (r named.0 x) (list_any (r named.0) xs) named.2)

      by : (p x ≡ true) ⊎ (list_any p xs ≡ true) →
          (list_any p xs ≡ true → (list_any q xs ≡ true) ⊎ ((n : ℤ) × (set n ≡ true) × (list_any (r n) xs ≡ true))) →
          ((q x || list_any q xs) ≡ true) ⊎ ((n : ℤ) × (set n ≡ true) × ((r n x || list_any (r n) xs) ≡ true))
      by (inl one) rest = here (gives x one)
      by (inr more) rest = later (rest more)

-- a member in the sets is in the area or touches it, or is a relation of the set
member_split : (area : Area) (items : List ItemValue) (set : ℤ → Bool) (kind : Kind) (id : ℤ) →
    ids_of_kind (around area items set) kind id ≡ true →
    (ids_of_kind (around area items no_ids) kind id ≡ true) ⊎
    ((n : ℤ) × (set n ≡ true) × ((is_relation_kind kind && int_eq id n) ≡ true))
member_split area items set OfNode id is = inl is
member_split area items set OfWay id is = inl is
member_split area items set OfRelation id is = inr (id, is, itself id)

-- and so is a part
part_split : (area : Area) (items : List ItemValue) (set : ℤ → Bool) (body : Body) →
    has_part (around area items set) body ≡ true → is_relation body ≡ true →
    (has_part (around area items no_ids) body ≡ true) ⊎ ((n : ℤ) × (set n ≡ true) × (names_relation n body ≡ true))
part_split area items set (Node inside) is relation = absurd cc
part_split area items set (Way refs) is relation = absurd cc
part_split area items set (Relation members) is relation =
    any_split set (λ (member : Member). ids_of_kind (around area items set) member.kind member.id)
    (λ (member : Member). ids_of_kind (around area items no_ids) member.kind member.id)
    (λ n (member : Member). is_relation_kind member.kind && int_eq member.id n) members
    (λ member. member_split area items set member.kind member.id) is

-- a relation of the set is a member in the sets
member_named : (area : Area) (items : List ItemValue) (set : ℤ → Bool) (n : ℤ) → set n ≡ true →
    (kind : Kind) (id : ℤ) → (is_relation_kind kind && int_eq id n) ≡ true →
    ids_of_kind (around area items set) kind id ≡ true
member_named area items set n has OfNode id is = absurd cc
member_named area items set n has OfWay id is = absurd cc
member_named area items set n has OfRelation id is = ap set (same_id id n is) ∙ has

-- who names it has a part in the sets
part_named : (area : Area) (items : List ItemValue) (set : ℤ → Bool) (n : ℤ) → set n ≡ true → (body : Body) →
    names_relation n body ≡ true → (is_relation body && has_part (around area items set) body) ≡ true
part_named area items set n has (Node inside) is = absurd cc
part_named area items set n has (Way refs) is = absurd cc
part_named area items set n has (Relation members) is =
    any_weaker (λ (member : Member). is_relation_kind member.kind && int_eq member.id n)
    (λ (member : Member). ids_of_kind (around area items set) member.kind member.id) members
    (λ member. member_named area items set n has member.kind member.id) is

-- who names an id of a set is drawn in by it
link_drawn : (area : Area) (items : List ItemValue) (set : ℤ → Bool) (n b : ℤ) → set n ≡ true →
    links_in items n b ≡ true → drawn area items set b ≡ true
link_drawn area items set n b has is =
    any_weaker (λ (item : ItemValue). int_eq item.entity.id b && names_relation n item.entity.body)
    (λ (item : ItemValue). int_eq item.entity.id b &&
    (is_relation item.entity.body && has_part (around area items set) item.entity.body)) items
    (λ item t. both (int_eq item.entity.id b) _ (and_left (int_eq item.entity.id b) _ t)
    (part_named area items set n has item.entity.body (and_right (int_eq item.entity.id b) _ t))) is

-- who is drawn in by a set is touched, or names one of it
drawn_split : (area : Area) (items : List ItemValue) (set : ℤ → Bool) (id : ℤ) → drawn area items set id ≡ true →
    (drawn area items no_ids id ≡ true) ⊎ ((n : ℤ) × (set n ≡ true) × (links_in items n id ≡ true))
drawn_split area items set id is =
    any_split set (λ (item : ItemValue). int_eq item.entity.id id &&
    (is_relation item.entity.body && has_part (around area items set) item.entity.body))
    (λ (item : ItemValue). int_eq item.entity.id id &&
    (is_relation item.entity.body && has_part (around area items no_ids) item.entity.body))
    (λ n (item : ItemValue). int_eq item.entity.id id && names_relation n item.entity.body) items one is where
      one : (item : ItemValue) →
          (int_eq item.entity.id id &&
          (is_relation item.entity.body && has_part (around area items set) item.entity.body)) ≡ true →
          ((int_eq item.entity.id id &&
          (is_relation item.entity.body && has_part (around area items no_ids) item.entity.body)) ≡ true) ⊎
          ((n : ℤ) × (set n ≡ true) × ((int_eq item.entity.id id && names_relation n item.entity.body) ≡ true))
      one item t =
          let same : int_eq item.entity.id id ≡ true = and_left (int_eq item.entity.id id) _ t in
          let rest : (is_relation item.entity.body && has_part (around area items set) item.entity.body) ≡ true =
          and_right (int_eq item.entity.id id) _ t in
          let relation : is_relation item.entity.body ≡ true = and_left (is_relation item.entity.body) _ rest in
          on item same relation
          (part_split area items set item.entity.body (and_right (is_relation item.entity.body) _ rest) relation)
        where
          on : (item : ItemValue) → int_eq item.entity.id id ≡ true → is_relation item.entity.body ≡ true →
              (has_part (around area items no_ids) item.entity.body ≡ true) ⊎
              ((n : ℤ) × (set n ≡ true) × (names_relation n item.entity.body ≡ true)) →
              ((int_eq item.entity.id id &&
              (is_relation item.entity.body && has_part (around area items no_ids) item.entity.body)) ≡ true) ⊎
              ((n : ℤ) × (set n ≡ true)
              × ((int_eq item.entity.id id && names_relation n item.entity.body) ≡ true))
          on item same relation (inl touched) =
              inl (both (int_eq item.entity.id id) _ same (both (is_relation item.entity.body) _ relation touched))
          on item same relation (inr named) = inr (named.0, named.1, both (int_eq item.entity.id id) _ same named.2)

-- ids that hold the touched ones, closed under the links and least so, are the least closed set
pub marks_are_least : (area : Area) (items : List ItemValue) (marked : ℤ → Bool) →
    HoldsAll marked (drawn area items no_ids) → IsClosedUnder (links_in items) marked →
    ((set : ℤ → Bool) → HoldsAll set (drawn area items no_ids) → IsClosedUnder (links_in items) set →
    HoldsAll set marked) → IsLeast area items marked
marks_are_least area items marked holds closed least = record {
  closed = λ id is. by id (drawn_split area items marked id is);
  least = λ other is_closed. least other
      (λ id is. is_closed id (drawn_weaker area items no_ids other (λ n no_one. absurd cc) id is))
      (λ n b has link. is_closed b (link_drawn area items other n b has link));
} where
  by : (id : ℤ) → (drawn area items no_ids id ≡ true) ⊎
      ((n : ℤ) × (marked n ≡ true) × (links_in items n id ≡ true)) → marked id ≡ true
  by id (inl first) = holds id first
  by id (inr named) = closed named.0 id named.1 named.2

-- with them the sets are those of the rule
pub draws : (area : Area) (items : List ItemValue) (old : Sets) (n : ℕ) (first marked : ℤ → Bool)
    (links : ℤ → ℤ → Bool) → old ≡ around area items no_ids → length items ≤ n →
    first ≡ ids_where (λ (item : ItemValue). is_relation item.entity.body && has_part old item.entity.body)
    (take n items) → links ≡ links_in (take n items) →
    HoldsAll marked first → IsClosedUnder links marked →
    ((set : ℤ → Bool) → HoldsAll set first → IsClosedUnder links set → HoldsAll set marked) →
    (let s : Sets = record { nodes = old.nodes; ways = old.ways; relations = marked } in s)
    ≡ around area items (least_relations area items)
draws area items old n first marked links is all firsts linkss holds closed least =
    let same_first : first ≡ drawn area items no_ids = firsts
    ∙ ap (ids_where (λ (item : ItemValue). is_relation item.entity.body && has_part old item.entity.body))
    (take_all n items all)
    ∙ ap (λ (sets : Sets). ids_where
    (λ (item : ItemValue). is_relation item.entity.body && has_part sets item.entity.body) items) is in
    let same_links : links ≡ links_in items = linkss ∙ ap links_in (take_all n items all) in
    let marks : IsLeast area items marked = marks_are_least area items marked
    (λ id t. holds id (ap (λ (f : ℤ → Bool). f id) same_first ∙ t))
    (λ n b has link. closed n b has (ap (λ (f : ℤ → ℤ → Bool). f n b) same_links ∙ link))
    (λ set over under. least set (λ id t. over id (ap (λ (f : ℤ → Bool). f id) (sym same_first) ∙ t))
    (λ n b has link. under n b has (ap (λ (f : ℤ → ℤ → Bool). f n b) (sym same_links) ∙ link))) in
    let same : marked ≡ least_relations area items = one_least area items marked (least_relations area items) marks
    (rounds_are_least area items) in
    ap (λ (s : Sets). let t : Sets = record { nodes = s.nodes; ways = s.ways; relations = marked } in t) is
    ∙ ap (λ relations. around area items relations) same
