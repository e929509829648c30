-- Lemmas on the keys of two lists, and on what is made of each.
use Rattle.std.proofs.Common.{◌≡◌, List, [], ◌∷◌, Bool, true, false, ◌&&◌, ◌||◌, cond, Option, Some, None, refl, sym, ap, ◌∙◌, ⊎_elim}
use Rattle.std.proofs.lemmas.Bool.{cond-true, cond-false, or_parts}
use Rattle.std.specs.List.{filter, filter_map, cons_option}
use Rattle.std.specs.Prelude.{map, ⊤}
use Rattle.osm_entity.specs.Items.{ItemValue as Item, key_of}
use Rattle.osm_entity.specs.Keys.{is_key_before}
use Rattle.osm_entity.specs.declared.kind.Key.{Key}
use Rattle.osm_merge.specs.Rules.{HasKey, is_above, is_same_key, item_at, keys_of_both, with_key}
use Rattle.osm_merge.proofs.KeyOrder.{Lt, Le, order, key_same, key_other, keys_compare, keys_equal}
use Rattle.osm_merge.proofs.RisingLemmas.{RisesFrom, above_more, at_here, at_later, at_none, rises_lower}

-- each key stands behind the one before it
abbrev pub KeysFrom : Option Key → List Key → Type 0
KeysFrom floor [] = ⊤
KeysFrom floor (k ∷ ks) = (is_above floor k ≡ true) × KeysFrom (Some k) ks

-- whether a key is among some
abbrev pub has_key : Key → List Key → Bool
has_key k [] = false
has_key k (j ∷ ks) = is_same_key j k || has_key k ks

keys_lower : (floor : Option Key) (k : Key) (ks : List Key) → is_above floor k ≡ true → KeysFrom (Some k) ks →
    KeysFrom floor ks
keys_lower floor k [] above rises = tt
keys_lower floor k (j ∷ ks) above rises = (above_more floor k j above rises.0, rises.1)

-- ---- one key more

with_less : (key j : Key) (ks : List Key) → Lt key j → with_key key (j ∷ ks) ≡ key ∷ j ∷ ks
with_less key j ks less = cond-true (is_key_before key j) (key ∷ j ∷ ks)
    (cond (is_same_key key j) (j ∷ ks) (j ∷ with_key key ks)) less

with_later : (key j : Key) (ks : List Key) → Le j key →
    with_key key (j ∷ ks) ≡ cond (is_same_key key j) (j ∷ ks) (j ∷ with_key key ks)
with_later key j ks le = cond-false (is_key_before key j) (key ∷ j ∷ ks)
    (cond (is_same_key key j) (j ∷ ks) (j ∷ with_key key ks)) le

with_same : (key j : Key) (ks : List Key) → key ≡ j → with_key key (j ∷ ks) ≡ j ∷ ks
with_same key j ks same = with_later key j ks (search order)
    ∙ cond-true (is_same_key key j) (j ∷ ks) (j ∷ with_key key ks) (key_same key j same)

with_more : (key j : Key) (ks : List Key) → Lt j key → with_key key (j ∷ ks) ≡ j ∷ with_key key ks
with_more key j ks more = with_later key j ks (search order)
    ∙ cond-false (is_same_key key j) (j ∷ ks) (j ∷ with_key key ks) (key_other key j (λ e. search order))

or_again : (a c : Bool) → (a || c) ≡ (a || (a || c))
or_again true c = refl
or_again false c = refl

or_swap : (a b c : Bool) → (b || (a || c)) ≡ (a || (b || c))
or_swap true true c = refl
or_swap true false c = refl
or_swap false true c = refl
or_swap false false c = refl

has_with : (k key : Key) (ks : List Key) → has_key k (with_key key ks) ≡ (is_same_key key k || has_key k ks)
has_with k key [] = refl
has_with k key (j ∷ ks) = ⊎_elim
    (λ (same : key ≡ j). ap (has_key k) (with_same key j ks same) ∙ or_again (is_same_key j k) (has_key k ks)
    ∙ ap (λ (n : Key). is_same_key n k || (is_same_key j k || has_key k ks)) (sym same))
    (⊎_elim
    (λ (less : Lt key j). ap (has_key k) (with_less key j ks less))
    (λ (more : Lt j key). ap (has_key k) (with_more key j ks more)
    ∙ ap (λ (b : Bool). is_same_key j k || b) (has_with k key ks)
    ∙ or_swap (is_same_key key k) (is_same_key j k) (has_key k ks)))
    (keys_compare key j)

keys_with : (floor : Option Key) (key : Key) (ks : List Key) → is_above floor key ≡ true → KeysFrom floor ks →
    KeysFrom floor (with_key key ks)
keys_with floor key [] above rises = (above, tt)
keys_with floor key (j ∷ ks) above rises = ⊎_elim
    (λ (same : key ≡ j). rw (with_same key j ks same) rises)
    (⊎_elim
    (λ (less : Lt key j). rw (with_less key j ks less) (above, (less, rises.1)))
    (λ (more : Lt j key). rw (with_more key j ks more) (rises.0, keys_with (Some j) key ks more rises.1)))
    (keys_compare key j)

-- ---- the keys of both

keys_map : (floor : Option Key) (xs : List Item) → RisesFrom floor xs →
    KeysFrom floor (map (λ (item : Item). key_of item) xs)
keys_map floor [] rises = tt
keys_map floor (x ∷ xs) rises = (rises.0, keys_map (Some (key_of x)) xs rises.1)

-- they rise
pub keys_rise : (xs ys : List Item) → RisesFrom None ys → KeysFrom None (keys_of_both xs ys)
keys_rise [] ys rises = keys_map None ys rises
keys_rise (x ∷ xs) ys rises = keys_with None (key_of x) (keys_of_both xs ys) refl (keys_rise xs ys rises)

without : (k : Key) (ys : List Item) → has_key k (map (λ (item : Item). key_of item) ys) ≡ false → item_at k ys ≡ None
without k [] isnt = refl
without k (y ∷ ys) isnt =
    let parts = or_parts (is_same_key (key_of y) k) (has_key k (map (λ (item : Item). key_of item) ys)) isnt in
    cond-false (is_same_key (key_of y) k) (Some y) (item_at k ys) parts.0 ∙ without k ys parts.1

-- at a key that isn't among them neither list has an item
pub without_both : (k : Key) (xs ys : List Item) → has_key k (keys_of_both xs ys) ≡ false →
    (item_at k xs ≡ None) × (item_at k ys ≡ None)
without_both k [] ys isnt = (refl, without k ys isnt)
without_both k (x ∷ xs) ys isnt =
    let parts = or_parts (is_same_key (key_of x) k) (has_key k (keys_of_both xs ys))
    (sym (has_with k (key_of x) (keys_of_both xs ys)) ∙ isnt) in
    let rest = without_both k xs ys parts.1 in
    (cond-false (is_same_key (key_of x) k) (Some x) (item_at k xs) parts.0 ∙ rest.0, rest.1)

-- ---- the keys that pass a test

keys_kept : (b : Bool) (floor : Option Key) (k : Key) (ks : List Key) → is_above floor k ≡ true →
    KeysFrom (Some k) ks → KeysFrom floor (cond b (k ∷ ks) ks)
keys_kept true floor k ks above rises = (above, rises)
keys_kept false floor k ks above rises = keys_lower floor k ks above rises

pub keys_filter : (test : Key → Bool) (floor : Option Key) (ks : List Key) → KeysFrom floor ks →
    KeysFrom floor (filter test ks)
keys_filter test floor [] rises = tt
keys_filter test floor (k ∷ ks) rises = keys_kept (test k) floor k (filter test ks) rises.0
    (keys_filter test (Some k) ks rises.1)

and_none : (b : Bool) → false ≡ (b && false)
and_none true = refl
and_none false = refl

has_here : (k j : Key) (b c e f : Bool) (more : List Key) → b ≡ c → is_same_key j k ≡ true →
    has_key k more ≡ (c && f) → has_key k (cond b (j ∷ more) more) ≡ (c && (is_same_key j k || f))
has_here k j true true e f more same is rest = rw is refl
has_here k j false false e f more same is rest = rest
has_here k j true false e f more same is rest = cc
has_here k j false true e f more same is rest = cc

has_there : (k j : Key) (b c f : Bool) (more : List Key) → is_same_key j k ≡ false → has_key k more ≡ (c && f) →
    has_key k (cond b (j ∷ more) more) ≡ (c && (is_same_key j k || f))
has_there k j true c f more isnt rest = rw isnt rest
has_there k j false c f more isnt rest = rw isnt rest

pub has_filter : (test : Key → Bool) (k : Key) (ks : List Key) →
    has_key k (filter test ks) ≡ (test k && has_key k ks)
has_filter test k [] = and_none (test k)
has_filter test k (j ∷ ks) = ⊎_elim
    (λ (same : j ≡ k). has_here k j (test j) (test k) (is_same_key j k) (has_key k ks) (filter test ks) (ap test same)
    (key_same j k same) (has_filter test k ks))
    (λ (other : j ≡ k → ⊥). has_there k j (test j) (test k) (has_key k ks) (filter test ks) (key_other j k other)
    (has_filter test k ks))
    (keys_equal j k)

-- ---- what is made of each key

rises_cons : (floor : Option Key) (k : Key) (o : Option Item) (more : List Item) → is_above floor k ≡ true →
    HasKey k o → RisesFrom (Some k) more → RisesFrom floor (cons_option o more)
rises_cons floor k None more above has rises = rises_lower floor k more above rises
rises_cons floor k (Some x) more above has rises = rw has (above, rises)

-- the items made rise with their keys
pub rises_made : (made : Key → Option Item) → ((k : Key) → HasKey k (made k)) → (floor : Option Key)
    (ks : List Key) → KeysFrom floor ks → RisesFrom floor (filter_map made ks)
rises_made made keeps floor [] rises = tt
rises_made made keeps floor (k ∷ ks) rises = rises_cons floor k (made k) (filter_map made ks) rises.0 (keeps k)
    (rises_made made keeps (Some k) ks rises.1)

cons_here : (k j : Key) (o : Option Item) (more : List Item) → HasKey j o → j ≡ k → item_at k more ≡ None →
    item_at k (cons_option o more) ≡ o
cons_here k j None more has same none = none
cons_here k j (Some x) more has same none = at_here k x more (has ∙ same)

cons_there : (k j : Key) (o : Option Item) (more : List Item) → HasKey j o → (j ≡ k → ⊥) →
    item_at k (cons_option o more) ≡ item_at k more
cons_there k j None more has other = refl
cons_there k j (Some x) more has other = at_later k x more (λ e. other (sym has ∙ e))

-- at each of the keys stands what was made of it
pub at_made : (made : Key → Option Item) → ((k : Key) → HasKey k (made k)) → (floor : Option Key) (k : Key)
    (ks : List Key) → KeysFrom floor ks → item_at k (filter_map made ks) ≡ cond (has_key k ks) (made k) None
at_made made keeps floor k [] rises = refl
at_made made keeps floor k (j ∷ ks) rises = ⊎_elim
    (λ (same : j ≡ k).
    let le : Le k j = search order in
    let none : item_at k (filter_map made ks) ≡ None =
    at_none (Some j) k (filter_map made ks) (rises_made made keeps (Some j) ks rises.1) le in
    rw (key_same j k same) (cons_here k j (made j) (filter_map made ks) (keeps j) same none ∙ ap made same))
    (λ (other : j ≡ k → ⊥). rw (key_other j k other) (cons_there k j (made j) (filter_map made ks) (keeps j) other
    ∙ at_made made keeps (Some j) k ks rises.1))
    (keys_equal j k)
