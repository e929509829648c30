-- Lemmas on the last item of each key: one item more takes the place of the one of its key, or stands behind all.
use Rattle.std.proofs.Common.{◌≡◌, ◌⊎◌, inl, inr, List, [], ◌∷◌, ◌++◌, Bool, true, false, not, cond, Some, refl, sym, ap, ◌∙◌, ⊎_elim}
use Rattle.std.specs.Prelude.{reverse}
use Rattle.std.proofs.lemmas.Grind.{reverse_onto}
use Rattle.std.proofs.lemmas.List.{reverse-reverse}
use Rattle.std.proofs.lemmas.Bool.{cond-true, cond-false, not_from_true, not_from_false}
use Rattle.osm_entity.specs.Items.{ItemValue as Item, key_of}
use Rattle.osm_entity.specs.declared.kind.Key.{Key}
use Rattle.osm_change.specs.Simplified.{last_of_each, last_of_key, with_latest, without_key}
use Rattle.osm_merge.specs.Rules.{is_same_key, item_at}
use Rattle.osm_merge.proofs.KeyOrder.{key_other, key_same, keys_equal, same_key}

-- ---- an item in its place

pub latest_here : (x : Item) (xs : List Item) (item : Item) → key_of x ≡ key_of item →
    with_latest (x ∷ xs) item ≡ item ∷ xs
latest_here x xs item is = cond-true (is_same_key (key_of x) (key_of item)) (item ∷ xs) (x ∷ with_latest xs item)
    (key_same (key_of x) (key_of item) is)

pub latest_later : (x : Item) (xs : List Item) (item : Item) → (key_of x ≡ key_of item → ⊥) →
    with_latest (x ∷ xs) item ≡ x ∷ with_latest xs item
latest_later x xs item other = cond-false (is_same_key (key_of x) (key_of item)) (item ∷ xs) (x ∷ with_latest xs item)
    (key_other (key_of x) (key_of item) other)

-- ---- the last item of a key

nearer_key : (x next : Item) → key_of (cond (is_same_key (key_of next) (key_of x)) next x) ≡ key_of x
nearer_key x next = by (is_same_key (key_of next) (key_of x)) refl
  where
    by : (b : Bool) → is_same_key (key_of next) (key_of x) ≡ b → key_of (cond b next x) ≡ key_of x
    by true is = same_key (key_of next) (key_of x) is
    by false is = refl

last_has_key : (x : Item) (xs : List Item) → key_of (last_of_key x xs) ≡ key_of x
last_has_key x [] = refl
last_has_key x (next ∷ more) =
    last_has_key (cond (is_same_key (key_of next) (key_of x)) next x) more ∙ nearer_key x next

last_same : (x : Item) (xs : List Item) (y : Item) → key_of y ≡ key_of x → last_of_key x (xs ++ y ∷ []) ≡ y
last_same x [] y is = cond-true (is_same_key (key_of y) (key_of x)) y x (key_same (key_of y) (key_of x) is)
last_same x (next ∷ more) y is = last_same (cond (is_same_key (key_of next) (key_of x)) next x) more y
    (is ∙ sym (nearer_key x next))

last_other : (x : Item) (xs : List Item) (y : Item) → (key_of y ≡ key_of x → ⊥) →
    last_of_key x (xs ++ y ∷ []) ≡ last_of_key x xs
last_other x [] y other = cond-false (is_same_key (key_of y) (key_of x)) y x (key_other (key_of y) (key_of x) other)
last_other x (next ∷ more) y other = last_other (cond (is_same_key (key_of next) (key_of x)) next x) more y
    (λ same. other (same ∙ nearer_key x next))

-- ---- the items of other keys

kept_out : (x l : Item) (xs : List Item) → key_of l ≡ key_of x → without_key x (l ∷ xs) ≡ without_key x xs
kept_out x l xs is = cond-false (not (is_same_key (key_of l) (key_of x))) (l ∷ without_key x xs) (without_key x xs)
    (not_from_true (is_same_key (key_of l) (key_of x)) (key_same (key_of l) (key_of x) is))

kept_in : (x l : Item) (xs : List Item) → (key_of l ≡ key_of x → ⊥) → without_key x (l ∷ xs) ≡ l ∷ without_key x xs
kept_in x l xs other = cond-true (not (is_same_key (key_of l) (key_of x))) (l ∷ without_key x xs) (without_key x xs)
    (not_from_false (is_same_key (key_of l) (key_of x)) (key_other (key_of l) (key_of x) other))

without_same : (x y : Item) (xs : List Item) → key_of y ≡ key_of x →
    without_key x (with_latest xs y) ≡ without_key x xs
without_same x y [] is = kept_out x y [] is
without_same x y (l ∷ xs) is = ⊎_elim
    (λ (here : key_of l ≡ key_of y). ap (without_key x) (latest_here l xs y here) ∙ kept_out x y xs is
    ∙ sym (kept_out x l xs (here ∙ is)))
    (λ (other : key_of l ≡ key_of y → ⊥). ap (without_key x) (latest_later l xs y other)
    ∙ kept_in x l (with_latest xs y) (λ e. other (e ∙ sym is))
    ∙ ap (λ list. l ∷ list) (without_same x y xs is) ∙ sym (kept_in x l xs (λ e. other (e ∙ sym is))))
    (keys_equal (key_of l) (key_of y))

without_other : (x y : Item) (xs : List Item) → (key_of y ≡ key_of x → ⊥) →
    without_key x (with_latest xs y) ≡ with_latest (without_key x xs) y
without_other x y [] apart = kept_in x y [] apart
without_other x y (l ∷ xs) apart = ⊎_elim
    (λ (here : key_of l ≡ key_of y). ap (without_key x) (latest_here l xs y here) ∙ kept_in x y xs apart
    ∙ sym (latest_here l (without_key x xs) y here)
    ∙ sym (ap (λ list. with_latest list y) (kept_in x l xs (λ e. apart (sym here ∙ e)))))
    (λ (other : key_of l ≡ key_of y → ⊥). ap (without_key x) (latest_later l xs y other)
    ∙ passed other (without_other x y xs apart) (keys_equal (key_of l) (key_of x)))
    (keys_equal (key_of l) (key_of y))
  where
    passed : (key_of l ≡ key_of y → ⊥) → without_key x (with_latest xs y) ≡ with_latest (without_key x xs) y →
        (key_of l ≡ key_of x) ⊎ (key_of l ≡ key_of x → ⊥) →
        without_key x (l ∷ with_latest xs y) ≡ with_latest (without_key x (l ∷ xs)) y
    passed other rest (inl out) = kept_out x l (with_latest xs y) out ∙ rest
        ∙ sym (ap (λ list. with_latest list y) (kept_out x l xs out))
    passed other rest (inr stays) = kept_in x l (with_latest xs y) stays
        ∙ ap (λ list. l ∷ list) rest ∙ sym (latest_later l (without_key x xs) y other)
        ∙ sym (ap (λ list. with_latest list y) (kept_in x l xs stays))

-- ---- one item more

-- one item more takes the place of the one of its key, or stands behind all
pub last_of_each-more : (xs : List Item) (y : Item) → last_of_each (xs ++ y ∷ []) ≡ with_latest (last_of_each xs) y
last_of_each-more [] y = refl
last_of_each-more (x ∷ xs) y = ⊎_elim
    (λ (same : key_of y ≡ key_of x).
    ap (λ z. z ∷ without_key x (last_of_each (xs ++ y ∷ []))) (last_same x xs y same)
    ∙ ap (λ list. y ∷ without_key x list) (last_of_each-more xs y)
    ∙ ap (λ list. y ∷ list) (without_same x y (last_of_each xs) same)
    ∙ sym (latest_here (last_of_key x xs) (without_key x (last_of_each xs)) y (last_has_key x xs ∙ sym same)))
    (λ (other : key_of y ≡ key_of x → ⊥).
    ap (λ z. z ∷ without_key x (last_of_each (xs ++ y ∷ []))) (last_other x xs y other)
    ∙ ap (λ list. last_of_key x xs ∷ without_key x list) (last_of_each-more xs y)
    ∙ ap (λ list. last_of_key x xs ∷ list) (without_other x y (last_of_each xs) other)
    ∙ sym (latest_later (last_of_key x xs) (without_key x (last_of_each xs)) y
    (λ e. other (sym e ∙ last_has_key x xs))))
    (keys_equal (key_of y) (key_of x))

-- ---- the item at each key

at_here : (k : Key) (x : Item) (xs : List Item) → key_of x ≡ k → item_at k (x ∷ xs) ≡ Some x
at_here k x xs is = cond-true (is_same_key (key_of x) k) (Some x) (item_at k xs) (key_same (key_of x) k is)

at_later : (k : Key) (x : Item) (xs : List Item) → (key_of x ≡ k → ⊥) → item_at k (x ∷ xs) ≡ item_at k xs
at_later k x xs other = cond-false (is_same_key (key_of x) k) (Some x) (item_at k xs) (key_other (key_of x) k other)

at_latest : (k : Key) (xs : List Item) (y : Item) → item_at k (with_latest xs y) ≡ item_at k (y ∷ xs)
at_latest k [] y = refl
at_latest k (l ∷ xs) y = ⊎_elim
    (λ (here : key_of l ≡ key_of y). ap (item_at k) (latest_here l xs y here)
    ∙ skipped here (keys_equal (key_of y) k))
    (λ (other : key_of l ≡ key_of y → ⊥). ap (item_at k) (latest_later l xs y other)
    ∙ swapped other (at_latest k xs y) (keys_equal (key_of l) k) (keys_equal (key_of y) k))
    (keys_equal (key_of l) (key_of y))
  where
    skipped : key_of l ≡ key_of y → (key_of y ≡ k) ⊎ (key_of y ≡ k → ⊥) →
        item_at k (y ∷ xs) ≡ item_at k (y ∷ l ∷ xs)
    skipped here (inl is) = at_here k y xs is ∙ sym (at_here k y (l ∷ xs) is)
    skipped here (inr isnt) = at_later k y xs isnt ∙ sym (at_later k l xs (λ e. isnt (sym here ∙ e)))
        ∙ sym (at_later k y (l ∷ xs) isnt)

    swapped : (key_of l ≡ key_of y → ⊥) → item_at k (with_latest xs y) ≡ item_at k (y ∷ xs) →
        (key_of l ≡ k) ⊎ (key_of l ≡ k → ⊥) → (key_of y ≡ k) ⊎ (key_of y ≡ k → ⊥) →
        item_at k (l ∷ with_latest xs y) ≡ item_at k (y ∷ l ∷ xs)
    swapped other rest (inl is) (inl also) = absurd (other (is ∙ sym also))
    swapped other rest (inl is) (inr isnt) = at_here k l (with_latest xs y) is ∙ sym (at_here k l xs is)
        ∙ sym (at_later k y (l ∷ xs) isnt)
    swapped other rest (inr isnt) (inl is) = at_later k l (with_latest xs y) isnt ∙ rest ∙ at_here k y xs is
        ∙ sym (at_here k y (l ∷ xs) is)
    swapped other rest (inr isnt) (inr also) = at_later k l (with_latest xs y) isnt ∙ rest
        ∙ at_later k y xs also ∙ sym (at_later k l xs isnt) ∙ sym (at_later k y (l ∷ xs) also)

same_or : (k : Key) (x : Item) (xs ys : List Item) → item_at k xs ≡ item_at k ys →
    item_at k (x ∷ xs) ≡ item_at k (x ∷ ys)
same_or k x xs ys same = ap (cond (is_same_key (key_of x) k) (Some x)) same

-- of a list that is read from its back, the last item of each key is the first
last_from_back : (k : Key) (back : List Item) → item_at k (last_of_each (reverse back)) ≡ item_at k back
last_from_back k [] = refl
last_from_back k (x ∷ back) = ap (λ list. item_at k (last_of_each list)) (reverse_onto back x [])
    ∙ ap (item_at k) (last_of_each-more (reverse back) x) ∙ at_latest k (last_of_each (reverse back)) x
    ∙ same_or k x (last_of_each (reverse back)) back (last_from_back k back)

-- at each key stands the last item that the list has there
pub keeps_the_last : (items : List Item) (k : Key) → item_at k (last_of_each items) ≡ item_at k (reverse items)
keeps_the_last items k = ap (λ list. item_at k (last_of_each list)) (sym (reverse-reverse items))
    ∙ last_from_back k (reverse items)
