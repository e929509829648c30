-- What two inputs whose keys rise give together, and how that ends.
-- Here both inputs are whole and the result is told key by key; the code has at most one item of each in hand.
use Rattle.std.specs.Prelude.{◌≡◌, ℕ, ◌+◌, ◌-◌, ◌^◌, ◌==◌, min, List, [], ◌∷◌, map, length, Bool, true, false, not, ◌&&◌, if◌then◌else◌, Option, Some, None, ⊤}
use Rattle.std.specs.List.{find, filter, filter_map}
use Rattle.std.specs.Ordering.{int_eq}
use Rattle.osm_entity.specs.Items.{ItemValue, key_of}
use Rattle.osm_entity.specs.Keys.{is_key_before, kind_rank}
use Rattle.osm_entity.specs.Meaning.{Finish, Whole, Passed, Wrong}
use Rattle.osm_entity.specs.Streams.{Stream}
use Rattle.osm_entity.specs.declared.kind.Key.{Key}
use Rattle.osm_entity.specs.declared.stream.End.{End}
use Rattle.osm_entity.specs.declared.stream.End.TheVariants.{Done, Broken}
use Rattle.osm_entity.specs.declared.verdict.Cause.TheVariants.{Unordered}
use Rattle.osm_entity.specs.declared.verdict.Spot.TheVariants.{Item as AtItem}

-- two keys are one: the same kind and the same id
unfoldable pub is_same_key : Key → Key → Bool
is_same_key a b = (kind_rank a.kind == kind_rank b.kind) && int_eq a.id b.id

-- the first of some items that has a key
abbrev pub item_at : Key → List ItemValue → Option ItemValue
item_at key items = find (λ item. is_same_key (key_of item) key) items

-- whether a key stands behind the last one; where there is none it does
abbrev pub is_above : Option Key → Key → Bool
is_above None key = true
is_above (Some floor) key = is_key_before floor key

-- whether a key stands before the last one; where there is none it does not
abbrev pub is_before_last : Key → Option Key → Bool
is_before_last key None = false
is_before_last key (Some ceiling) = is_key_before key ceiling

-- the longest prefix whose keys rise, from behind a key on
abbrev pub rising_from : Option Key → List ItemValue → List ItemValue
rising_from floor [] = []
rising_from floor (item ∷ more) =
    if is_above floor (key_of item) then item ∷ rising_from (Some (key_of item)) more else []

-- whether all keys rise, from behind a key on
abbrev pub is_rising_from : Option Key → List ItemValue → Bool
is_rising_from floor [] = true
is_rising_from floor (item ∷ more) = is_above floor (key_of item) && is_rising_from (Some (key_of item)) more

-- the last of some keys, or the one given where there are none
abbrev pub last_key_from : Option Key → List ItemValue → Option Key
last_key_from start [] = start
last_key_from start (item ∷ more) = last_key_from (Some (key_of item)) more

-- whether an end is Done
abbrev pub is_done : End → Bool
is_done Done = true
is_done Broken = false

-- an input counts as far as its keys rise
abbrev pub rising_front : Stream → List ItemValue
rising_front s = rising_from None s.items

-- an input is whole where all its keys rise and it ends Done; any other is short
abbrev pub is_whole : Stream → Bool
is_whole s = is_rising_from None s.items && is_done s.end

-- the last key of an input as far as it counts
abbrev pub last_key : Stream → Option Key
last_key s = last_key_from None (rising_front s)

-- an input is known at a key: a whole one at each, a short one up to its last
abbrev pub reaches : Stream → Key → Bool
reaches s key = if is_whole s then true else not (is_above (last_key s) key)

-- one key more among keys that rise
abbrev pub with_key : Key → List Key → List Key
with_key key [] = key ∷ []
with_key key (k ∷ more) =
    if is_key_before key k then key ∷ k ∷ more else if is_same_key key k then k ∷ more else k ∷ with_key key more

-- the keys of two lists whose keys rise, each key once, rising
abbrev pub keys_of_both : List ItemValue → List ItemValue → List Key
keys_of_both [] ys = map (λ (item : ItemValue). key_of item) ys
keys_of_both (x ∷ xs) ys = with_key (key_of x) (keys_of_both xs ys)

-- what a task gives at a key, of the items that its two inputs have there
abbrev pub Choice : Type 0
Choice = Option ItemValue → Option ItemValue → Option ItemValue

-- for each key at which both inputs are known, what is chosen there; Done where both are whole
abbrev pub merged : Choice → Stream → Stream → Stream
merged choose s t = record {
  items = filter_map (λ key. choose (item_at key (rising_front s)) (item_at key (rising_front t)))
      (filter (λ key. reaches s key && reaches t key) (keys_of_both (rising_front s) (rising_front t)));
  end = if is_whole s && is_whole t then Done else Broken;
}

-- whether a last key is no greater than another; none is the least
abbrev pub is_behind : Option Key → Option Key → Bool
is_behind None b = true
is_behind (Some a) b = not (is_above b a)

-- whether the end that is met is input 0's: the short input with the least last key, and input 0 on a tie
abbrev pub meets_first : Stream → Stream → Bool
meets_first s t = if is_whole s then false else if is_whole t then true else is_behind (last_key s) (last_key t)

-- the number of an item, which stops at the greatest of 64 bits
abbrev pub item_number : ℕ → ℕ
item_number count = min count (2 ^ 64 - 1)

-- an end that is met is the item out of order, or that of an input that was broken before
abbrev pub finish_at : ℕ → Stream → Finish
finish_at port s =
    if is_rising_from None s.items then Passed
    else Wrong Unordered (AtItem port (item_number (length (rising_front s) + 1)))

-- how a task that merges ends: whole where both inputs are, else by the end that is met
abbrev pub finish_merged : Stream → Stream → Finish
finish_merged s t =
    if is_whole s && is_whole t then Whole else if meets_first s t then finish_at 0 s else finish_at 1 t

-- an item, where there is one, has this key
abbrev pub HasKey : Key → Option ItemValue → Type 0
HasKey key None = ⊤
HasKey key (Some item) = key_of item ≡ key

-- what is chosen is nothing of nothing, and has the key of what it is chosen from
pub record IsChoice (choose : Choice) : Type 0 where
  pub nothing : choose None None ≡ None
  pub keeps : (key : Key) (a b : Option ItemValue) → HasKey key a → HasKey key b → HasKey key (choose a b)
