-- What the code knows of the kinds of the items that came.
-- Here all items are a list; the code has the last kind, a count, and the number of a fault.
use Rattle.std.specs.Prelude.{◌≡◌, ℕ, List, [], ◌∷◌, ◌++◌, length, min, Bool, true, false, Option, Some, None}
use Rattle.osm_entity.specs.Items.{ItemValue, kind_of}
use Rattle.osm_entity.specs.Keys.{kind_rank}
use Rattle.osm_entity.specs.Meaning.{Finish, Wrong, finish_after}
use Rattle.osm_entity.specs.declared.kind.Kind.{Kind}
use Rattle.osm_entity.specs.declared.stream.End.{End}
use Rattle.osm_entity.specs.declared.stream.End.TheVariants.{Broken}
use Rattle.osm_entity.specs.declared.verdict.Cause.TheVariants.{Unordered}
use Rattle.osm_entity.specs.declared.verdict.Spot.TheVariants.{Item as AtItem}
use Rattle.osm_select.specs.Kinds.{are_kinds_ordered, kinds_prefix, last_number, last_rank, number_after}
use Rattle.osm_select.specs.declared.order.Order.{Order}

-- no kind went back: the last kind and the count are those of the items
pub record KindsOrdered (last : Kind) (count : ℕ) (items : List ItemValue) : Type 0 where
  pub ordered : are_kinds_ordered 0 items ≡ true
  pub rank : kind_rank last ≡ last_rank 0 items
  pub counted : count ≡ min (length items) last_number

-- a kind went back: the number is that of the first such item
pub record KindsUnordered (number : ℕ) (items : List ItemValue) : Type 0 where
  pub unordered : are_kinds_ordered 0 items ≡ false
  pub numbered : number ≡ number_after (length (kinds_prefix 0 items))

-- what is known is so, by whether there is a fault
abbrev pub is_order_by : Option ℕ → Kind → ℕ → List ItemValue → Type 0
is_order_by None last count items = KindsOrdered last count items
is_order_by (Some number) last count items = KindsUnordered number items

-- what is known is so of these items
abbrev pub IsOrderOf : Order → List ItemValue → Type 0
IsOrderOf order items = is_order_by order.fault order.last order.count items

-- one item more of a kind was counted, and is admitted exactly where all are in order
abbrev pub Admits : Kind → Order → Order → Bool → Type 0
Admits kind old new admitted = (items : List ItemValue) (item : ItemValue) → kind ≡ kind_of item.entity.body →
    IsOrderOf old items →
    IsOrderOf new (items ++ item ∷ []) × (admitted ≡ are_kinds_ordered 0 (items ++ item ∷ []))

-- the end that is given: that of the input, or Broken behind a fault
abbrev pub end_by : Option ℕ → End → End
end_by None end = end
end_by (Some number) end = Broken

-- the end that is given by what is known
abbrev pub end_after : Order → End → End
end_after order end = end_by order.fault end

-- how a task ends: as its input did, or at the number of a fault
abbrev pub finish_by : Option ℕ → End → Finish
finish_by None end = finish_after end
finish_by (Some number) end = Wrong Unordered (AtItem 0 number)

-- how a task ends by what is known
abbrev pub finish_in : Order → End → Finish
finish_in order end = finish_by order.fault end
