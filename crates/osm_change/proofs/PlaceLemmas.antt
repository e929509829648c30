-- Lemmas on the places of keys among items that are put over one another.
use Rattle.std.proofs.Common.{◌≡◌, ◌⊎◌, inl, inr, ℕ, suc, ◌<◌, List, [], ◌∷◌, ◌++◌, length, Bool, true, false, cond, Option, Some, None, slice_set, refl, sym, ap, ◌∙◌, ⊎_elim, arith}
use Rattle.std.specs.BTreeMap.{BTreeMap, get}
use Rattle.std.specs.Option.{option_map}
use Rattle.std.specs.Ordering.{is_eq}
use Rattle.std.proofs.lemmas.Bool.{cond-true, cond-false}
use Rattle.osm_change.specs.Simplified.{with_latest}
use Rattle.osm_change.specs.Simplifying.{HasPlaces, place_of_key}
use Rattle.osm_entity.proofs.KeyLemmas.{cmp_is}
use Rattle.osm_entity.specs.Items.{ItemValue as Item, key_of}
use Rattle.osm_entity.specs.Keys.{key_order}
use Rattle.osm_entity.specs.contracts.kind.KeyOrd.TheImpl as compared
use Rattle.osm_entity.specs.declared.kind.Key.{Key}
use Rattle.osm_merge.specs.Rules.{is_same_key}
use Rattle.osm_merge.proofs.KeyOrder.{Lt, key_other, key_same, keys_compare, keys_equal, le_refl, lt_le, lt_ne, lt_ne_back}
use Rattle.osm_change.proofs.LatestLemmas.{latest_here, latest_later}

-- keys that compare as equal are one
order_tells : (a b : Key) → (a ≡ b) ⊎ (Lt a b ⊎ Lt b a) → is_eq (key_order a b) ≡ is_same_key a b
order_tells a b (inl same) = rw same (rw (le_refl b, key_same b b refl) refl)
order_tells a b (inr (inl less)) = rw (less, key_other a b (lt_ne a b less)) refl
order_tells a b (inr (inr more)) = rw (lt_le b a more, more, key_other a b (lt_ne_back b a more)) refl

pub is_eq-cmp : (a b : Key) → is_eq (compared.ghosts.cmp a b) ≡ is_same_key a b
is_eq-cmp a b = ap is_eq (cmp_is a b) ∙ order_tells a b (keys_compare a b)

place_here : (k : Key) (x : Item) (xs : List Item) → key_of x ≡ k → place_of_key k (x ∷ xs) ≡ Some 0
place_here k x xs is = cond-true (is_same_key (key_of x) k) (Some 0) (option_map suc (place_of_key k xs))
    (key_same (key_of x) k is)

place_later : (k : Key) (x : Item) (xs : List Item) → (key_of x ≡ k → ⊥) →
    place_of_key k (x ∷ xs) ≡ option_map suc (place_of_key k xs)
place_later k x xs other = cond-false (is_same_key (key_of x) k) (Some 0) (option_map suc (place_of_key k xs))
    (key_other (key_of x) k other)

-- ---- an item of a key that is there

none_mapped : (o : Option ℕ) → option_map suc o ≡ None → o ≡ None
none_mapped None is = refl
none_mapped (Some n) is = absurd cc

some_mapped : (o : Option ℕ) (p : ℕ) → option_map suc o ≡ Some p → (n : ℕ) × (o ≡ Some n) × (p ≡ suc n)
some_mapped None p is = absurd cc
some_mapped (Some n) p is = (n, refl, cc)

-- it takes that one's place
pub replaced : (item : Item) (kept : List Item) (place : ℕ) → place_of_key (key_of item) kept ≡ Some place →
    (place < length kept) × (slice_set kept place item ≡ with_latest kept item)
replaced item [] place is = absurd cc
replaced item (x ∷ xs) place is = ⊎_elim
    (λ (here : key_of x ≡ key_of item).
    let first : Some 0 ≡ Some place = sym (place_here (key_of item) x xs here) ∙ is in
    let at : place ≡ 0 = cc in
    rw at (omega arith, sym (latest_here x xs item here)))
    (λ (other : key_of x ≡ key_of item → ⊥).
    let later = some_mapped (place_of_key (key_of item) xs) place
    (sym (place_later (key_of item) x xs other) ∙ is) in
    let rest = replaced item xs later.0 later.1 in
    rw later.2 (omega (arith, rest.0), ap (λ list. x ∷ list) rest.1 ∙ sym (latest_later x xs item other)))
    (keys_equal (key_of x) (key_of item))

-- and all keep their places
pub places_stay : (item : Item) (kept : List Item) (place : ℕ) → place_of_key (key_of item) kept ≡ Some place →
    (k : Key) → place_of_key k (with_latest kept item) ≡ place_of_key k kept
places_stay item [] place is k = absurd cc
places_stay item (x ∷ xs) place is k = ⊎_elim
    (λ (here : key_of x ≡ key_of item). ap (place_of_key k) (latest_here x xs item here)
    ∙ ap (λ (j : Key). cond (is_same_key j k) (Some 0) (option_map suc (place_of_key k xs))) (sym here))
    (λ (other : key_of x ≡ key_of item → ⊥).
    let later = some_mapped (place_of_key (key_of item) xs) place
    (sym (place_later (key_of item) x xs other) ∙ is) in
    ap (place_of_key k) (latest_later x xs item other)
    ∙ ap (λ o. cond (is_same_key (key_of x) k) (Some 0) (option_map suc o)) (places_stay item xs later.0 later.1 k))
    (keys_equal (key_of x) (key_of item))

-- ---- an item of a new key

absent : (item x : Item) (xs : List Item) → place_of_key (key_of item) (x ∷ xs) ≡ None →
    (key_of x ≡ key_of item → ⊥) × (place_of_key (key_of item) xs ≡ None)
absent item x xs none = ⊎_elim
    (λ (here : key_of x ≡ key_of item).
    absurd (let first : Some 0 ≡ None = sym (place_here (key_of item) x xs here) ∙ none in cc))
    (λ (other : key_of x ≡ key_of item → ⊥). (
      other,
      none_mapped (place_of_key (key_of item) xs)
          (sym (place_later (key_of item) x xs other) ∙ none),
    ))
    (keys_equal (key_of x) (key_of item))

-- it stands behind all
pub put_behind : (item : Item) (kept : List Item) → place_of_key (key_of item) kept ≡ None →
    kept ++ item ∷ [] ≡ with_latest kept item
put_behind item [] none = refl
put_behind item (x ∷ xs) none =
    let rest = absent item x xs none in
    ap (λ list. x ∷ list) (put_behind item xs rest.1) ∙ sym (latest_later x xs item rest.0)

mapped_cond : (b : Bool) (u v : Option ℕ) → option_map suc (cond b u v) ≡ cond b (option_map suc u) (option_map suc v)
mapped_cond true u v = refl
mapped_cond false u v = refl

-- and its key has the last place
pub place_behind : (item : Item) (kept : List Item) → place_of_key (key_of item) kept ≡ None → (k : Key) →
    place_of_key k (kept ++ item ∷ [])
    ≡ cond (is_same_key (key_of item) k) (Some (length kept)) (place_of_key k kept)
place_behind item [] none k = refl
place_behind item (x ∷ xs) none k =
    let rest = absent item x xs none in
    by rest.0 (place_behind item xs rest.1 k) (keys_equal (key_of x) k)
  where
    by : (key_of x ≡ key_of item → ⊥) → place_of_key k (xs ++ item ∷ [])
        ≡ cond (is_same_key (key_of item) k) (Some (length xs)) (place_of_key k xs) →
        (key_of x ≡ k) ⊎ (key_of x ≡ k → ⊥) → place_of_key k (x ∷ xs ++ item ∷ [])
        ≡ cond (is_same_key (key_of item) k) (Some (length (x ∷ xs))) (place_of_key k (x ∷ xs))
    by other rest (inl is) = place_here k x (xs ++ item ∷ []) is
        ∙ sym (cond-false (is_same_key (key_of item) k) (Some (length (x ∷ xs))) (place_of_key k (x ∷ xs))
        (key_other (key_of item) k (λ e. other (is ∙ sym e))) ∙ place_here k x xs is)
    by other rest (inr isnt) = place_later k x (xs ++ item ∷ []) isnt
        ∙ ap (option_map suc) rest
        ∙ mapped_cond (is_same_key (key_of item) k) (Some (length xs)) (place_of_key k xs)
        ∙ ap (cond (is_same_key (key_of item) k) (Some (length (x ∷ xs)))) (sym (place_later k x xs isnt))

-- ---- the map of places

-- it tells the place of an item's key
pub place_told : (places : BTreeMap Key ℕ) (kept : List Item) (item : Item) (k : Key) (found : Option ℕ) →
    HasPlaces places kept → k ≡ key_of item → found ≡ get compared.ghosts.cmp places k →
    place_of_key (key_of item) kept ≡ found
place_told places kept item k found has is told =
    sym (has (key_of item)) ∙ ap (get compared.ghosts.cmp places) (sym is) ∙ sym told

-- it has all places still where an item takes that of one of its key
pub has_still : (places : BTreeMap Key ℕ) (kept now : List Item) (item : Item) (place : ℕ) → HasPlaces places kept →
    place_of_key (key_of item) kept ≡ Some place → now ≡ with_latest kept item → HasPlaces places now
has_still places kept now item place has is now_is k =
    has k ∙ sym (places_stay item kept place is k) ∙ ap (place_of_key k) (sym now_is)

-- and with one place more where it stands behind all
pub has_more : (places more : BTreeMap Key ℕ) (kept now : List Item) (item : Item) (key : Key) (place : ℕ) →
    HasPlaces places kept → key ≡ key_of item → place ≡ length kept → place_of_key (key_of item) kept ≡ None →
    ((k : Key) → get compared.ghosts.cmp more k
    ≡ cond (is_eq (compared.ghosts.cmp key k)) (Some place) (get compared.ghosts.cmp places k)) →
    now ≡ kept ++ item ∷ [] → HasPlaces more now
has_more places more kept now item key place has key_is place_is none updates now_is k =
    updates k
    ∙ ap (λ b. cond b (Some place) (get compared.ghosts.cmp places k))
    (is_eq-cmp key k ∙ ap (λ j. is_same_key j k) key_is)
    ∙ ap (λ n. cond (is_same_key (key_of item) k) (Some n) (get compared.ghosts.cmp places k)) place_is
    ∙ ap (cond (is_same_key (key_of item) k) (Some (length kept))) (has k)
    ∙ sym (place_behind item kept none k) ∙ ap (place_of_key k) (sym now_is)
