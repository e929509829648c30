-- Lemmas on what two inputs give: it is told key by key, and only grows behind.
use Rattle.std.proofs.Common.{◌≡◌, ◌⊎◌, inl, inr, List, [], ◌∷◌, ◌++◌, Bool, true, false, not, ◌&&◌, cond, Option, Some, None, refl, sym, ap, subst, ◌∙◌}
use Rattle.std.proofs.lemmas.Bool.{cases_Bool, cond-false, and_parts, and_from, and_right, not-true}
use Rattle.std.specs.List.{filter}
use Rattle.osm_entity.specs.Growth.{IsMonotoneInBoth}
use Rattle.osm_entity.specs.Items.{ItemValue as Item, key_of}
use Rattle.osm_entity.specs.Streams.{Stream, IsBefore}
use Rattle.osm_entity.specs.declared.kind.Key.{Key}
use Rattle.osm_entity.specs.declared.stream.End.{End}
use Rattle.osm_entity.specs.declared.stream.End.TheVariants.{Done, Broken}
use Rattle.osm_merge.specs.Rules.{Choice, HasKey, IsChoice, is_above, is_done, is_rising_from, is_same_key, is_whole, item_at, keys_of_both, last_key, last_key_from, merged, reaches, rising_from, rising_front}
use Rattle.osm_merge.proofs.KeyOrder.{Lt, Le, order}
use Rattle.osm_merge.proofs.KeysLemmas.{at_made, has_filter, has_key, keys_filter, keys_rise, rises_made, without_both}
use Rattle.osm_merge.proofs.RisingLemmas.{HoldsBelow, RisesFrom, apart, at_key, at_none, at_passing, passing, rises_passing, rising_rises, splits, unique}

-- both inputs are known at a key
abbrev pub settled : Stream → Stream → Key → Bool
settled s t key = reaches s key && reaches t key

-- what is given at a key
abbrev pub given_at : Choice → Stream → Stream → Key → Option Item
given_at choose s t key =
    cond (settled s t key) (choose (item_at key (rising_front s)) (item_at key (rising_front t))) None

-- ---- told by keys

module _ (choose : Choice) (good : IsChoice choose) where
  made_key : (xs ys : List Item) (k : Key) → HasKey k (choose (item_at k xs) (item_at k ys))
  made_key xs ys k = good.keeps k (item_at k xs) (item_at k ys) (at_key k xs) (at_key k ys)

  -- its keys rise
  pub rule_rises : (s t : Stream) → RisesFrom None (merged choose s t).items
  rule_rises s t = rises_made (λ key. choose (item_at key (rising_front s)) (item_at key (rising_front t)))
      (made_key (rising_front s) (rising_front t)) None
      (filter (settled s t) (keys_of_both (rising_front s) (rising_front t)))
      (keys_filter (settled s t) None (keys_of_both (rising_front s) (rising_front t))
      (keys_rise (rising_front s) (rising_front t) (rising_rises None t.items)))

  either : (b c : Bool) (o : Option Item) → (c ≡ false → o ≡ None) → cond (b && c) o None ≡ cond b o None
  either true true o none = refl
  either true false o none = sym (none refl)
  either false c o none = refl

  none_there : (k : Key) (xs ys : List Item) → has_key k (keys_of_both xs ys) ≡ false →
      choose (item_at k xs) (item_at k ys) ≡ None
  none_there k xs ys isnt = let none = without_both k xs ys isnt in rw (none.0, none.1) good.nothing

  -- at each key stands what is chosen there
  pub rule_at : (s t : Stream) (k : Key) → item_at k (merged choose s t).items ≡ given_at choose s t k
  rule_at s t k =
      at_made (λ key. choose (item_at key (rising_front s)) (item_at key (rising_front t)))
      (made_key (rising_front s) (rising_front t)) None k
      (filter (settled s t) (keys_of_both (rising_front s) (rising_front t)))
      (keys_filter (settled s t) None (keys_of_both (rising_front s) (rising_front t))
      (keys_rise (rising_front s) (rising_front t) (rising_rises None t.items)))
      ∙ ap (λ b. cond b (choose (item_at k (rising_front s)) (item_at k (rising_front t))) None)
      (has_filter (settled s t) k (keys_of_both (rising_front s) (rising_front t)))
      ∙ either (settled s t k) (has_key k (keys_of_both (rising_front s) (rising_front t)))
      (choose (item_at k (rising_front s)) (item_at k (rising_front t)))
      (none_there k (rising_front s) (rising_front t))

  -- a list that rises and has these items is what is given
  pub rule_is : (s t : Stream) (items : List Item) → RisesFrom None items →
      ((k : Key) → item_at k items ≡ given_at choose s t k) → (merged choose s t).items ≡ items
  rule_is s t items rises same = unique None None (merged choose s t).items items (rule_rises s t) rises
      (λ k. rule_at s t k ∙ sym (same k))

-- ---- what is known stays

above_down : (floor : Option Key) (j k : Key) → Le j k → is_above floor k ≡ false → is_above floor j ≡ false
above_down None j k le below = cc
above_down (Some f) j k le below = let second : Le k f = below in let goal : Le j f = search order in goal

pub last_grows : (floor : Option Key) (k : Key) (xs : List Item) → RisesFrom floor xs → is_above floor k ≡ false →
    is_above (last_key_from floor xs) k ≡ false
last_grows floor k [] rises below = below
last_grows floor k (x ∷ xs) rises below =
    let less : Lt k (key_of x) = apart floor k (key_of x) below rises.0 in
    let le : Le k (key_of x) = search order in
    last_grows (Some (key_of x)) k xs rises.1 le

prefix_step : (k : Key) (floor : Option Key) (x : Item) (b : Bool) (less more : List Item) →
    is_above (last_key_from floor (cond b (x ∷ less) [])) k ≡ false →
    (is_above (last_key_from (Some (key_of x)) less) k ≡ false →
    (is_above (last_key_from (Some (key_of x)) more) k ≡ false) × (item_at k less ≡ item_at k more)) →
    (is_above (last_key_from floor (cond b (x ∷ more) [])) k ≡ false)
    × (item_at k (cond b (x ∷ less) []) ≡ item_at k (cond b (x ∷ more) []))
prefix_step k floor x true less more here rest =
    let later = rest here in (later.0, ap (λ o. cond (is_same_key (key_of x) k) (Some x) o) later.1)
prefix_step k floor x false less more here rest = (here, refl)

-- up to its last key an input stays as it is where more comes
pub prefix_grows : (floor : Option Key) (k : Key) (xs rest : List Item) →
    is_above (last_key_from floor (rising_from floor xs)) k ≡ false →
    (is_above (last_key_from floor (rising_from floor (xs ++ rest))) k ≡ false)
    × (item_at k (rising_from floor xs) ≡ item_at k (rising_from floor (xs ++ rest)))
prefix_grows floor k [] rest below = (
  last_grows floor k (rising_from floor rest) (rising_rises floor rest) below,
  sym (at_none floor k (rising_from floor rest) (rising_rises floor rest) below),
)
prefix_grows floor k (x ∷ xs) rest below = prefix_step k floor x (is_above floor (key_of x))
    (rising_from (Some (key_of x)) xs) (rising_from (Some (key_of x)) (xs ++ rest)) below
    (prefix_grows (Some (key_of x)) k xs rest)

known : (b c : Bool) → c ≡ false → cond b true (not c) ≡ true
known true c e = refl
known false true e = cc
known false false e = refl

pub broken_is_short : (s : Stream) → s.end ≡ Broken → is_whole s ≡ false
broken_is_short s is = and_right (is_rising_from None s.items) (is_done s.end) (ap is_done is)

reach_by : (s t : Stream) (k : Key) (end : End) → s.end ≡ end → IsBefore s t → reaches s k ≡ true →
    (reaches t k ≡ true) × (item_at k (rising_front s) ≡ item_at k (rising_front t))
reach_by s t k Done is before reached = subst
    (λ (u : Stream). (reaches u k ≡ true) × (item_at k (rising_front s) ≡ item_at k (rising_front u)))
    (before.done is) (reached, refl)
reach_by s t k Broken is before reached =
    let below : is_above (last_key s) k ≡ false = not-true (is_above (last_key s) k)
    (sym (cond-false (is_whole s) true (not (is_above (last_key s) k)) (broken_is_short s is)) ∙ reached) in
    let here : (is_above (last_key t) k ≡ false) × (item_at k (rising_front s) ≡ item_at k (rising_front t)) =
    rw before.items.joined (prefix_grows None k s.items before.items.rest below) in
    (known (is_whole t) (is_above (last_key t) k) here.0, here.1)

-- at a key where an input is known it stays so, with its item there
pub reach_grows : (s t : Stream) → IsBefore s t → (k : Key) → reaches s k ≡ true →
    (reaches t k ≡ true) × (item_at k (rising_front s) ≡ item_at k (rising_front t))
reach_grows s t before k reached = reach_by s t k s.end refl before reached

down_by : (b c d : Bool) → (c ≡ false → d ≡ false) → cond b true (not c) ≡ true → cond b true (not d) ≡ true
down_by true c d less is = refl
down_by false true d less is = cc
down_by false false d less is = ap not (less refl)

-- an input is known below each key where it is
pub reach_down : (s : Stream) → HoldsBelow (reaches s)
reach_down s j k le reached = down_by (is_whole s) (is_above (last_key s) k) (is_above (last_key s) j)
    (above_down (last_key s) j k le) reached

settled_down : (s t : Stream) → HoldsBelow (settled s t)
settled_down s t j k le is =
    let parts = and_parts (reaches s k) (reaches t k) is in
    and_from (reaches s j) (reaches t j) (reach_down s j k le parts.0) (reach_down t j k le parts.1)

-- ---- growth

-- the items at keys where these inputs weren't known
abbrev pub beyond : Stream → Stream → List Item → List Item
beyond s t items = filter (λ (x : Item). not (settled s t (key_of x))) items

module _ (choose : Choice) (good : IsChoice choose) (s s' t t' : Stream) (left : IsBefore s s')
    (right : IsBefore t t') where
  settled_here : (k : Key) → (settled s t k ≡ true) ⊎ (settled s t k ≡ false) →
      cond (settled s t k) (given_at choose s' t' k) None ≡ given_at choose s t k
  settled_here k (inl is) =
      let parts = and_parts (reaches s k) (reaches t k) is in
      let first = reach_grows s s' left k parts.0 in
      let second = reach_grows t t' right k parts.1 in
      let both : settled s' t' k ≡ true = and_from (reaches s' k) (reaches t' k) first.0 second.0 in
      rw (is, both, first.1, second.1) refl
  settled_here k (inr isnt) = rw isnt refl

  kept_first : (merged choose s t).items ≡ passing (settled s t) (merged choose s' t').items
  kept_first = rule_is choose good s t (passing (settled s t) (merged choose s' t').items)
      (rises_passing (settled s t) None (merged choose s' t').items (rule_rises choose good s' t'))
      (λ k. at_passing (settled s t) k (merged choose s' t').items
      ∙ ap (λ o. cond (settled s t k) o None) (rule_at choose good s' t' k)
      ∙ settled_here k (cases_Bool (settled s t k)))

  -- later inputs give what earlier ones gave, and then what is at keys where those weren't known
  pub rule_grows : (merged choose s' t').items ≡ (merged choose s t).items ++ beyond s t (merged choose s' t').items
  rule_grows =
      splits (settled s t) (settled_down s t) None (merged choose s' t').items (rule_rises choose good s' t')
      ∙ ap (λ items. items ++ beyond s t (merged choose s' t').items) (sym kept_first)

end_whole : (b : Bool) → cond b Done Broken ≡ Done → b ≡ true
end_whole true is = refl
end_whole false is = cc

end_done : (end : End) → is_done end ≡ true → end ≡ Done
end_done Done is = refl
end_done Broken is = cc

pub whole_done : (s : Stream) → is_whole s ≡ true → s.end ≡ Done
whole_done s whole = end_done s.end (and_parts (is_rising_from None s.items) (is_done s.end) whole).1

-- the rule is monotone in both inputs
pub merged_grows : (choose : Choice) → IsChoice choose → IsMonotoneInBoth (merged choose)
merged_grows choose good s s' t t' left right = record {
  items = record {
    rest = beyond s t (merged choose s' t').items;
    joined = rule_grows choose good s s' t t' left right;
  };
  done = λ is.
      let parts = and_parts (is_whole s) (is_whole t) (end_whole (is_whole s && is_whole t) is) in
      let first : s ≡ s' = left.done (whole_done s parts.0) in
      let second : t ≡ t' = right.done (whole_done t parts.1) in
      ap (λ u. merged choose u t) first ∙ ap (merged choose s') second;
}

-- ---- by tests

pub from_rising : (floor : Option Key) (xs : List Item) → is_rising_from floor xs ≡ true → RisesFrom floor xs
from_rising floor [] rises = tt
from_rising floor (x ∷ xs) rises =
    let parts = and_parts (is_above floor (key_of x)) (is_rising_from (Some (key_of x)) xs) rises in
    (parts.0, from_rising (Some (key_of x)) xs parts.1)

pub to_rising : (floor : Option Key) (xs : List Item) → RisesFrom floor xs → is_rising_from floor xs ≡ true
to_rising floor [] rises = refl
to_rising floor (x ∷ xs) rises = and_from (is_above floor (key_of x)) (is_rising_from (Some (key_of x)) xs) rises.0
    (to_rising (Some (key_of x)) xs rises.1)
