-- What is drawn in round by round is the least closed set.
use Rattle.std.proofs.Common.{◌≡◌, ◌⊎◌, inl, inr, ℕ, zero, suc, ◌+◌, ◌<◌, ◌≤◌, List, [], ◌∷◌, length, Bool, true, false, ◌&&◌, ◌||◌, refl, sym, ap, ◌∙◌, arith}
use Rattle.std.specs.Prelude.{ℤ}
use Rattle.std.specs.Ordering.{int_eq}
use Rattle.std.specs.List.{list_any}
use Rattle.std.proofs.Math.Path.{fun_ext}
use Rattle.osm_area.specs.Areas.{holds}
use Rattle.osm_area.specs.declared.area.Area.{Area}
use Rattle.osm_entity.specs.Items.{ItemValue}
use Rattle.osm_entity.specs.declared.kind.Kind.{Kind}
use Rattle.osm_entity.specs.declared.kind.Kind.TheVariants.{Node as OfNode, Relation as OfRelation, Way as OfWay}
use Rattle.osm_entity.specs.declared.parts.Body.{Body}
use Rattle.osm_entity.specs.declared.parts.Body.TheVariants.{Node, Relation, Way}
use Rattle.osm_entity.specs.declared.parts.Member.{Member}
use Rattle.osm_select.specs.Held.{IsClosed, IsLeast, drawn, drawn_in, least_relations}
use Rattle.osm_select.specs.IdSets.{HoldsAll, either}
use Rattle.osm_select.specs.Parts.{around, has_part, ids_of_kind, ids_where, is_relation}
use Rattle.osm_select.proofs.LinkLemmas.{and_left, and_right, or_cases, or_left, or_right, same_id}

-- two tests that hold hold both
pub both : (a b : Bool) → a ≡ true → b ≡ true → (a && b) ≡ true
both true b left right = right
both false b left right = absurd cc

-- a weaker test is passed by no fewer
pub any_weaker : {X : Type 0} (p q : X → Bool) (xs : List X) → ((x : X) → p x ≡ true → q x ≡ true) →
    list_any p xs ≡ true → list_any q xs ≡ true
any_weaker p q [] gives is = is
any_weaker p q (x ∷ xs) gives is = by (or_cases (p x) (list_any p xs) is) (any_weaker p q xs gives) where
  by : (p x ≡ true) ⊎ (list_any p xs ≡ true) → (list_any p xs ≡ true → list_any q xs ≡ true) → (q x || list_any q xs)
      ≡ true
  by (inl here) rest = or_left (q x) (list_any q xs) (gives x here)
  by (inr later) rest = or_right (q x) (list_any q xs) (rest later)

-- a member is in the sets of more relations too
member_weaker : (area : Area) (items : List ItemValue) (set other : ℤ → Bool) → HoldsAll other set →
    (kind : Kind) (id : ℤ) → ids_of_kind (around area items set) kind id ≡ true →
    ids_of_kind (around area items other) kind id ≡ true
member_weaker area items set other holds OfNode id is = is
member_weaker area items set other holds OfWay id is = is
member_weaker area items set other holds OfRelation id is = holds id is

-- and so is a part
part_weaker : (area : Area) (items : List ItemValue) (set other : ℤ → Bool) → HoldsAll other set → (body : Body) →
    has_part (around area items set) body ≡ true → has_part (around area items other) body ≡ true
part_weaker area items set other holds (Node inside) is = is
part_weaker area items set other holds (Way refs) is = is
part_weaker area items set other holds (Relation members) is =
    any_weaker (λ (member : Member). ids_of_kind (around area items set) member.kind member.id)
    (λ (member : Member). ids_of_kind (around area items other) member.kind member.id) members
    (λ member. member_weaker area items set other holds member.kind member.id) is

-- more relations draw in no fewer
pub drawn_weaker : (area : Area) (items : List ItemValue) (set other : ℤ → Bool) → HoldsAll other set →
    HoldsAll (drawn area items other) (drawn area items set)
drawn_weaker area items set other holds id is =
    any_weaker (λ (item : ItemValue). int_eq item.entity.id id &&
    (is_relation item.entity.body && has_part (around area items set) item.entity.body))
    (λ (item : ItemValue). int_eq item.entity.id id &&
    (is_relation item.entity.body && has_part (around area items other) item.entity.body)) items
    (λ item t. let rest : (is_relation item.entity.body && has_part (around area items set) item.entity.body)
    ≡ true = and_right (int_eq item.entity.id id) _ t in
    both (int_eq item.entity.id id) _ (and_left (int_eq item.entity.id id) _ t)
    (both (is_relation item.entity.body) _ (and_left (is_relation item.entity.body) _ rest)
    (part_weaker area items set other holds item.entity.body
    (and_right (is_relation item.entity.body) _ rest)))) is

-- each round is in each closed set
pub rounds_least : (area : Area) (items : List ItemValue) (n : ℕ) (other : ℤ → Bool) → IsClosed area items other →
    HoldsAll other (drawn_in area items n)
rounds_least area items zero other closed id is = absurd cc
rounds_least area items (suc n) other closed id is =
    closed id (drawn_weaker area items (drawn_in area items n) other (rounds_least area items n other closed) id is)

-- each round is in the next
pub rounds_grow : (area : Area) (items : List ItemValue) (n : ℕ) →
    HoldsAll (drawn_in area items (suc n)) (drawn_in area items n)
rounds_grow area items zero id is = absurd cc
rounds_grow area items (suc n) id is = drawn_weaker area items (drawn_in area items n) (drawn_in area items (suc n))
    (rounds_grow area items n) id is

-- one where a test holds
abbrev one_if : Bool → ℕ
one_if true = 1
one_if false = 0

-- how many items have their id in a set
counted : (ℤ → Bool) → List ItemValue → ℕ
counted set [] = 0
counted set (x ∷ xs) = one_if (set x.entity.id) + counted set xs

one_at_most : (b : Bool) → one_if b ≤ 1
one_at_most true = omega arith
one_at_most false = omega arith

one_or_less : (a b : Bool) → (a ≡ true → b ≡ true) → one_if a ≤ one_if b
one_or_less true true gives = omega arith
one_or_less true false gives = absurd (let no : false ≡ true = gives refl in cc)
one_or_less false b gives = omega arith

-- no more than there are
counted_within : (set : ℤ → Bool) (xs : List ItemValue) → counted set xs ≤ length xs
unfolding counted
counted_within set [] = omega arith
counted_within set (x ∷ xs) = omega (arith, one_at_most (set x.entity.id), counted_within set xs)

-- a larger set has no fewer
counted_more : (set more : ℤ → Bool) (xs : List ItemValue) → HoldsAll more set → counted set xs ≤ counted more xs
unfolding counted
counted_more set more [] holds = omega arith
counted_more set more (x ∷ xs) holds =
    omega (
      arith,
      one_or_less (set x.entity.id) (more x.entity.id) (holds x.entity.id),
      counted_more set more xs
          holds,
    )

-- a set that has all items has each id that an item has
counted_all : (set : ℤ → Bool) (xs : List ItemValue) (id : ℤ) (test : ItemValue → Bool) →
    length xs ≤ counted set xs → ids_where test xs id ≡ true → set id ≡ true
unfolding counted
counted_all set [] id test all is = absurd cc
counted_all set (x ∷ xs) id test all is =
    by (set x.entity.id) refl (or_cases (int_eq x.entity.id id && test x) (ids_where test xs id) is)
    (counted_all set xs id test) where
      by : (b : Bool) → set x.entity.id ≡ b →
          ((int_eq x.entity.id id && test x) ≡ true) ⊎ (ids_where test xs id ≡ true) →
          (length xs ≤ counted set xs → ids_where test xs id ≡ true → set id ≡ true) → set id ≡ true
      by true has (inl here) rest =
          ap set (sym (same_id x.entity.id id (and_left (int_eq x.entity.id id) (test x) here))) ∙ has
      by true has (inr later) rest = rest (omega (arith, all, ap one_if has)) later
      by false has either rest = absurd (omega (arith, all, ap one_if has, counted_within set xs))

-- a larger set has more items, or no id that is new
more_or_same : (set more : ℤ → Bool) → HoldsAll more set → (xs : List ItemValue) →
    ((id : ℤ) → ids_where (λ (x : ItemValue). more x.entity.id) xs id ≡ true → set id ≡ true) ⊎
    (counted set xs < counted more xs)
unfolding counted
more_or_same set more holds [] = inl (λ id is. absurd cc)
more_or_same set more holds (x ∷ xs) = by (set x.entity.id) (more x.entity.id) refl refl
    (more_or_same set more holds xs) where
      at : (id : ℤ) → set x.entity.id ≡ true →
          ((id : ℤ) → ids_where (λ (x : ItemValue). more x.entity.id) xs id ≡ true → set id ≡ true) →
          ((int_eq x.entity.id id && more x.entity.id) ≡ true) ⊎
          (ids_where (λ (x : ItemValue). more x.entity.id) xs id ≡ true) → set id ≡ true
      at id has same (inl here) =
          ap set (sym (same_id x.entity.id id (and_left (int_eq x.entity.id id) (more x.entity.id) here))) ∙ has
      at id has same (inr later) = same id later

      past : (id : ℤ) → more x.entity.id ≡ false →
          ((id : ℤ) → ids_where (λ (x : ItemValue). more x.entity.id) xs id ≡ true → set id ≡ true) →
          ((int_eq x.entity.id id && more x.entity.id) ≡ true) ⊎
          (ids_where (λ (x : ItemValue). more x.entity.id) xs id ≡ true) → set id ≡ true
      past id none same (inl here) =
          absurd (let yes : more x.entity.id ≡ true = and_right (int_eq x.entity.id id) (more x.entity.id) here in cc)
      past id none same (inr later) = same id later

      by : (a b : Bool) → set x.entity.id ≡ a → more x.entity.id ≡ b →
          ((id : ℤ) → ids_where (λ (x : ItemValue). more x.entity.id) xs id ≡ true → set id ≡ true) ⊎
          (counted set xs < counted more xs) →
          ((id : ℤ) → ids_where (λ (x : ItemValue). more x.entity.id) (x ∷ xs) id ≡ true → set id ≡ true) ⊎
          (one_if (set x.entity.id) + counted set xs < one_if (more x.entity.id) + counted more xs)
      by a b has also (inr less) =
          inr (omega (arith, less, one_or_less (set x.entity.id) (more x.entity.id) (holds x.entity.id)))
      by true b has also (inl same) =
          inl (λ id is. at id has same
          (or_cases (int_eq x.entity.id id && more x.entity.id)
          (ids_where (λ (x : ItemValue). more x.entity.id) xs id)
          is))
      by false true has also (inl same) =
          inr (omega (arith, counted_more set more xs holds, ap one_if has, ap one_if also))
      by false false has also (inl same) =
          inl (λ id is. past id also same
          (or_cases (int_eq x.entity.id id && more x.entity.id)
          (ids_where (λ (x : ItemValue). more x.entity.id) xs id)
          is))

-- an id that is drawn in is that of an item
of_item : (area : Area) (items : List ItemValue) (set : ℤ → Bool) (id : ℤ) → drawn area items set id ≡ true →
    ids_where (λ (x : ItemValue). drawn area items set x.entity.id) items id ≡ true
of_item area items set id is =
    any_weaker (λ (item : ItemValue). int_eq item.entity.id id &&
    (is_relation item.entity.body && has_part (around area items set) item.entity.body))
    (λ (item : ItemValue). int_eq item.entity.id id && drawn area items set item.entity.id) items
    (λ item t. both (int_eq item.entity.id id) (drawn area items set item.entity.id)
    (and_left (int_eq item.entity.id id) _ t)
    (ap (drawn area items set) (same_id item.entity.id id (and_left (int_eq item.entity.id id) _ t)) ∙ is)) is

-- behind a round that is closed comes one that is
closed_onward : (area : Area) (items : List ItemValue) (n : ℕ) → IsClosed area items (drawn_in area items n) →
    IsClosed area items (drawn_in area items (suc n))
closed_onward area items n closed = drawn_weaker area items (drawn_in area items (suc n))
    (drawn_in area items n) closed

-- after some rounds the set is closed, or each of them brought an item
closed_or_many : (area : Area) (items : List ItemValue) (n : ℕ) → IsClosed area items (drawn_in area items n) ⊎
    (n ≤ counted (drawn_in area items n) items)
closed_or_many area items zero = inr (omega arith)
closed_or_many area items (suc n) = by (closed_or_many area items n)
    (more_or_same (drawn_in area items n) (drawn_in area items (suc n)) (rounds_grow area items n) items) where
      by : IsClosed area items (drawn_in area items n) ⊎ (n ≤ counted (drawn_in area items n) items) →
          ((id : ℤ) → ids_where (λ (x : ItemValue). drawn_in area items (suc n) x.entity.id) items id ≡ true →
          drawn_in area items n id ≡ true) ⊎
          (counted (drawn_in area items n) items < counted (drawn_in area items (suc n)) items) →
          IsClosed area items (drawn_in area items (suc n)) ⊎ (suc n ≤ counted (drawn_in area items (suc n)) items)
      by (inl closed) step = inl (closed_onward area items n closed)
      by (inr many) (inl same) =
          inl (closed_onward area items n (λ id is. same id (of_item area items (drawn_in area items n) id is)))
      by (inr many) (inr more) = inr (omega (arith, many, more))

-- in as many rounds as there are items it is closed
closed_at_last : (area : Area) (items : List ItemValue) → IsClosed area items (drawn_in area items (length items))
closed_at_last area items = by (closed_or_many area items (length items)) where
  by : IsClosed area items (drawn_in area items (length items)) ⊎
      (length items ≤ counted (drawn_in area items (length items)) items) →
      IsClosed area items (drawn_in area items (length items))
  by (inl closed) = closed
  by (inr many) = λ id is. counted_all (drawn_in area items (length items)) items id
      (λ (item : ItemValue). is_relation item.entity.body && has_part
      (around area items (drawn_in area items (length items))) item.entity.body) many is

-- what the rounds reach is the least closed set
pub rounds_are_least : (area : Area) (items : List ItemValue) → IsLeast area items (least_relations area items)
rounds_are_least area items =
    record { closed = closed_at_last area items; least = rounds_least area items (length items) }

-- tests that hold of the same are the same
same_test : (a b : Bool) → (a ≡ true → b ≡ true) → (b ≡ true → a ≡ true) → a ≡ b
same_test true b there back = sym (there refl)
same_test false true there back = back refl
same_test false false there back = refl

-- there is one least closed set
pub one_least : (area : Area) (items : List ItemValue) (set other : ℤ → Bool) → IsLeast area items set →
    IsLeast area items other → set ≡ other
one_least area items set other a b =
    fun_ext (λ id. same_test (set id) (other id) (a.least other b.closed id) (b.least set a.closed id))
