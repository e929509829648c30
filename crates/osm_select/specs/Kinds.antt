-- Items whose kinds don't go back, and what a stream is worth where they do.
-- Here the prefix is taken of the whole list; the code compares each kind with the last one.
use Rattle.std.specs.Prelude.{◌≡◌, ℕ, ◌+◌, ◌-◌, ◌^◌, List, [], ◌∷◌, ◌++◌, length, min, nat_le, Bool, true, false, ◌&&◌, cond}
use Rattle.osm_entity.specs.Items.{ItemValue, kind_of}
use Rattle.osm_entity.specs.Keys.{kind_rank}
use Rattle.osm_entity.specs.Meaning.{Finish, Wrong, finish_after}
use Rattle.osm_entity.specs.Streams.{Stream}
use Rattle.osm_entity.specs.declared.stream.End.TheVariants.{Broken}
use Rattle.osm_entity.specs.declared.verdict.Cause.TheVariants.{Unordered}
use Rattle.osm_entity.specs.declared.verdict.Spot.TheVariants.{Item as AtItem}

-- nodes come first, then ways, then relations
abbrev pub item_rank : ItemValue → ℕ
item_rank item = kind_rank (kind_of item.entity.body)

-- the longest prefix in which no kind goes back, beginning with a rank
abbrev pub kinds_prefix : ℕ → List ItemValue → List ItemValue
kinds_prefix floor [] = []
kinds_prefix floor (item ∷ more) = cond (nat_le floor (item_rank item)) (item ∷ kinds_prefix (item_rank item) more) []

-- no kind of some items goes back, beginning with a rank
abbrev pub are_kinds_ordered : ℕ → List ItemValue → Bool
are_kinds_ordered floor [] = true
are_kinds_ordered floor (item ∷ more) = nat_le floor (item_rank item) && are_kinds_ordered (item_rank item) more

-- the rank of the last item, or the first rank where there is none
abbrev pub last_rank : ℕ → List ItemValue → ℕ
last_rank floor [] = floor
last_rank floor (item ∷ more) = last_rank (item_rank item) more

-- the stream that counts: where a kind goes back it is broken before that item
abbrev pub kinds_stream : Stream → Stream
kinds_stream s = record { items = kinds_prefix 0 s.items; end = cond (are_kinds_ordered 0 s.items) s.end Broken }

-- the most that the number of an item can be
abbrev pub last_number : ℕ
last_number = 2 ^ 64 - 1

-- the number of the item behind that many: one more, and the last number where there is none
abbrev pub number_after : ℕ → ℕ
number_after count = min (count + 1) last_number

-- an area task ends as its input did; where a kind goes back, at the number of that item, counted from 1
abbrev pub area_finish : Stream → Finish
area_finish s = cond (are_kinds_ordered 0 s.items) (finish_after s.end)
    (Wrong Unordered (AtItem 0 (number_after (length (kinds_prefix 0 s.items)))))

-- some items are the longest prefix of others in which no kind goes back
pub record IsLongestPrefix (items prefix : List ItemValue) : Type 0 where
  pub rest : List ItemValue
  pub joined : items ≡ prefix ++ rest
  pub ordered : are_kinds_ordered 0 prefix ≡ true
  pub stops : (next : ItemValue) (more : List ItemValue) → rest ≡ next ∷ more →
      are_kinds_ordered 0 (prefix ++ next ∷ []) ≡ false
