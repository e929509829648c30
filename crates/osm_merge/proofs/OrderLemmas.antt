-- Lemmas on one item more at the back of a list whose keys rise.
use Rattle.std.proofs.Common.{◌≡◌, List, [], ◌∷◌, ◌++◌, Bool, true, false, not, ◌&&◌, ◌||◌, cond, Option, Some, None, option_to_list, refl, sym, ap, ◌∙◌, ⊎_elim}
use Rattle.std.proofs.lemmas.Bool.{cond-true, and_parts, and_from, false≢true}
use Rattle.osm_entity.specs.Items.{ItemValue as Item, key_of}
use Rattle.osm_entity.specs.declared.kind.Key.{Key}
use Rattle.osm_entity.specs.declared.stream.End.TheVariants.{Done, Broken}
use Rattle.osm_merge.specs.Rules.{HasKey, is_above, is_rising_from, is_same_key, item_at, last_key_from, reaches, rising_from}
use Rattle.osm_merge.proofs.KeyOrder.{Le, order, keys_equal}
use Rattle.osm_merge.proofs.RisingLemmas.{at_here, at_later}
use Rattle.osm_merge.proofs.RuleLemmas.{from_rising, last_grows}

pub last_more : (floor : Option Key) (xs : List Item) (x : Item) →
    last_key_from floor (xs ++ x ∷ []) ≡ Some (key_of x)
last_more floor [] x = refl
last_more floor (y ∷ ys) x = last_more (Some (key_of y)) ys x

-- a list that rises is its longest prefix that does
pub rising_all : (floor : Option Key) (xs : List Item) → is_rising_from floor xs ≡ true → rising_from floor xs ≡ xs
rising_all floor [] rises = refl
rising_all floor (x ∷ xs) rises =
    let parts = and_parts (is_above floor (key_of x)) (is_rising_from (Some (key_of x)) xs) rises in
    cond-true (is_above floor (key_of x)) (x ∷ rising_from (Some (key_of x)) xs) [] parts.0
    ∙ ap (λ list. x ∷ list) (rising_all (Some (key_of x)) xs parts.1)

pub in_order : (floor : Option Key) (xs : List Item) (x : Item) → is_rising_from floor xs ≡ true →
    is_above (last_key_from floor xs) (key_of x) ≡ true → is_rising_from floor (xs ++ x ∷ []) ≡ true
in_order floor [] x rises above = and_from (is_above floor (key_of x)) true above refl
in_order floor (y ∷ ys) x rises above =
    let parts = and_parts (is_above floor (key_of y)) (is_rising_from (Some (key_of y)) ys) rises in
    and_from (is_above floor (key_of y)) (is_rising_from (Some (key_of y)) (ys ++ x ∷ [])) parts.0
    (in_order (Some (key_of y)) ys x parts.1 above)

one_below : (x : Item) (b : Bool) → b ≡ false → ((b && true) ≡ false) × (cond b (x ∷ []) [] ≡ [])
one_below x true is = cc
one_below x false is = (refl, refl)

not_there : (y : Item) (b c d : Bool) (now was : List Item) → (b && c) ≡ true →
    (c ≡ true → (d ≡ false) × (now ≡ was)) →
    ((b && d) ≡ false) × (cond b (y ∷ now) [] ≡ cond b (y ∷ was) [])
not_there y true c d now was is rest = let later = rest is in (later.0, ap (λ list. y ∷ list) later.1)
not_there y false c d now was is rest = cc

-- an item out of order makes the list one that doesn't rise, and leaves its prefix that does
pub out_of_order : (floor : Option Key) (xs : List Item) (x : Item) → is_rising_from floor xs ≡ true →
    is_above (last_key_from floor xs) (key_of x) ≡ false →
    (is_rising_from floor (xs ++ x ∷ []) ≡ false) × (rising_from floor (xs ++ x ∷ []) ≡ rising_from floor xs)
out_of_order floor [] x rises below = one_below x (is_above floor (key_of x)) below
out_of_order floor (y ∷ ys) x rises below = not_there y (is_above floor (key_of y))
    (is_rising_from (Some (key_of y)) ys) (is_rising_from (Some (key_of y)) (ys ++ x ∷ []))
    (rising_from (Some (key_of y)) (ys ++ x ∷ [])) (rising_from (Some (key_of y)) ys) rises
    (λ rest. out_of_order (Some (key_of y)) ys x rest below)

still_there : (y : Item) (b c d : Bool) (now was : List Item) → (b && c) ≡ false →
    (c ≡ false → (d ≡ false) × (now ≡ was)) →
    ((b && d) ≡ false) × (cond b (y ∷ now) [] ≡ cond b (y ∷ was) [])
still_there y true c d now was is rest = let later = rest is in (later.0, ap (λ list. y ∷ list) later.1)
still_there y false c d now was is rest = (refl, refl)

-- and so do the items behind it
pub after_fault : (floor : Option Key) (xs rest : List Item) → is_rising_from floor xs ≡ false →
    (is_rising_from floor (xs ++ rest) ≡ false) × (rising_from floor (xs ++ rest) ≡ rising_from floor xs)
after_fault floor [] rest isnt = cc
after_fault floor (x ∷ xs) rest isnt = still_there x (is_above floor (key_of x))
    (is_rising_from (Some (key_of x)) xs) (is_rising_from (Some (key_of x)) (xs ++ rest))
    (rising_from (Some (key_of x)) (xs ++ rest)) (rising_from (Some (key_of x)) xs) isnt
    (after_fault (Some (key_of x)) xs rest)

-- nothing stands past the last key
pub at_past : (floor : Option Key) (k : Key) (xs : List Item) → is_rising_from floor xs ≡ true →
    is_above (last_key_from floor xs) k ≡ true → item_at k xs ≡ None
at_past floor k [] rises above = refl
at_past floor k (x ∷ xs) rises above =
    let parts = and_parts (is_above floor (key_of x)) (is_rising_from (Some (key_of x)) xs) rises in
    at_later k x xs (λ same. let le : Le k (key_of x) = search order in
    false≢true (sym (last_grows (Some (key_of x)) k xs (from_rising (Some (key_of x)) xs parts.1) le) ∙ above))
    ∙ at_past (Some (key_of x)) k xs parts.1 above

pub at_more : (k : Key) (xs : List Item) (x : Item) → item_at k xs ≡ None →
    item_at k (xs ++ x ∷ []) ≡ item_at k (x ∷ [])
at_more k [] x none = refl
at_more k (y ∷ ys) x none = ⊎_elim
    (λ (is : key_of y ≡ k). let e : Some y ≡ None = sym (at_here k y ys is) ∙ none in cc)
    (λ (other : key_of y ≡ k → ⊥). at_later k y (ys ++ x ∷ []) other
    ∙ at_more k ys x (sym (at_later k y ys other) ∙ none))
    (keys_equal (key_of y) k)

none_either : (b : Bool) (k : Key) → item_at k [] ≡ cond b (item_at k []) None
none_either true k = refl
none_either false k = refl

-- of one item or none
pub at_single : (k j : Key) (o : Option Item) → HasKey j o →
    item_at k (option_to_list o) ≡ cond (is_same_key j k) o None
at_single k j None has = none_either (is_same_key j k) k
at_single k j (Some x) has = ap (λ (n : Key). cond (is_same_key n k) (Some x) None) has

reach_by : (xs prefix : List Item) (r b : Bool) (k : Key) → r ≡ true → prefix ≡ xs →
    cond (r && b) true (not (is_above (last_key_from None prefix) k)) ≡ (b || not (is_above (last_key_from None xs) k))
reach_by xs prefix true true k is same = refl
reach_by xs prefix true false k is same = ap (λ list. not (is_above (last_key_from None list) k)) same
reach_by xs prefix false b k is same = cc

-- an input in order is known up to its last key while it is open, and everywhere once it is done
pub reaches_open : (xs : List Item) (k : Key) → is_rising_from None xs ≡ true →
    reaches (record { items = xs; end = Broken }) k ≡ not (is_above (last_key_from None xs) k)
reaches_open xs k rises = reach_by xs (rising_from None xs) (is_rising_from None xs) false k rises
    (rising_all None xs rises)

pub reaches_done : (xs : List Item) (k : Key) → is_rising_from None xs ≡ true →
    reaches (record { items = xs; end = Done }) k ≡ true
reaches_done xs k rises = reach_by xs (rising_from None xs) (is_rising_from None xs) true k rises
    (rising_all None xs rises)
