-- Lemmas on lists whose keys rise: such a list is told by its item at each key.
use Rattle.std.proofs.Common.{◌≡◌, List, [], ◌∷◌, ◌++◌, Bool, true, false, not, cond, Option, Some, None, refl, sym, ap, subst, ◌∙◌, ⊎_elim}
use Rattle.std.proofs.lemmas.Bool.{cases_Bool, cond-true, cond-false, false≢true}
use Rattle.std.specs.List.{filter}
use Rattle.std.specs.Prelude.{⊤}
use Rattle.osm_entity.specs.Items.{ItemValue as Item, key_of}
use Rattle.osm_entity.specs.declared.kind.Key.{Key}
use Rattle.osm_merge.specs.Rules.{HasKey, is_above, is_same_key, item_at, rising_from}
use Rattle.osm_merge.proofs.KeyOrder.{Lt, Le, order, key_same, key_other, keys_compare, keys_equal}

-- each key stands behind the one before it
abbrev pub RisesFrom : Option Key → List Item → Type 0
RisesFrom floor [] = ⊤
RisesFrom floor (x ∷ xs) = (is_above floor (key_of x) ≡ true) × RisesFrom (Some (key_of x)) xs

-- a key up to a floor stands before one above it
pub apart : (floor : Option Key) (k j : Key) → is_above floor k ≡ false → is_above floor j ≡ true → Lt k j
apart None k j below above = absurd (false≢true (sym below))
apart (Some f) k j below above = let le : Le k f = below in let less : Lt f j = above in search order

pub above_more : (floor : Option Key) (j k : Key) → is_above floor j ≡ true → Lt j k → is_above floor k ≡ true
above_more None j k above less = refl
above_more (Some f) j k above less = let first : Lt f j = above in let goal : Lt f k = search order in goal

-- ---- the item at a key

pub at_here : (k : Key) (x : Item) (xs : List Item) → key_of x ≡ k → item_at k (x ∷ xs) ≡ Some x
at_here k x xs is = cond-true (is_same_key (key_of x) k) (Some x) (item_at k xs) (key_same (key_of x) k is)

pub at_later : (k : Key) (x : Item) (xs : List Item) → (key_of x ≡ k → ⊥) → item_at k (x ∷ xs) ≡ item_at k xs
at_later k x xs other = cond-false (is_same_key (key_of x) k) (Some x) (item_at k xs) (key_other (key_of x) k other)

-- the item at a key has it
pub at_key : (k : Key) (xs : List Item) → HasKey k (item_at k xs)
at_key k [] = tt
at_key k (x ∷ xs) = ⊎_elim
    (λ (is : key_of x ≡ k). rw (at_here k x xs is) is)
    (λ (other : key_of x ≡ k → ⊥). rw (at_later k x xs other) (at_key k xs))
    (keys_equal (key_of x) k)

-- what rises from a floor has nothing up to it
pub at_none : (floor : Option Key) (k : Key) (xs : List Item) → RisesFrom floor xs → is_above floor k ≡ false →
    item_at k xs ≡ None
at_none floor k [] rises below = refl
at_none floor k (x ∷ xs) rises below =
    let less : Lt k (key_of x) = apart floor k (key_of x) below rises.0 in
    let le : Le k (key_of x) = search order in
    at_later k x xs (λ e. search order) ∙ at_none (Some (key_of x)) k xs rises.1 le

heads_alike : (x y : Item) (xs ys : List Item) → key_of x ≡ key_of y →
    ((k : Key) → item_at k (x ∷ xs) ≡ item_at k (y ∷ ys)) → x ≡ y
heads_alike x y xs ys is same =
    let both : Some x ≡ Some y = sym (at_here (key_of x) x xs refl) ∙ same (key_of x)
    ∙ at_here (key_of x) y ys (sym is) in
    cc

tails_alike : (x y : Item) (xs ys : List Item) → key_of x ≡ key_of y → RisesFrom (Some (key_of x)) xs →
    RisesFrom (Some (key_of y)) ys → ((k : Key) → item_at k (x ∷ xs) ≡ item_at k (y ∷ ys)) →
    (k : Key) → item_at k xs ≡ item_at k ys
tails_alike x y xs ys is left right same k = ⊎_elim
    (λ (here : key_of x ≡ k).
    let first : Le k (key_of x) = search order in
    let second : Le k (key_of y) = subst (λ (j : Key). Le k j) is first in
    at_none (Some (key_of x)) k xs left first ∙ sym (at_none (Some (key_of y)) k ys right second))
    (λ (other : key_of x ≡ k → ⊥). sym (at_later k x xs other) ∙ same k ∙ at_later k y ys (λ e. other (is ∙ e)))
    (keys_equal (key_of x) k)

-- a list that begins later lacks the other's first item
first_missing : (x y : Item) (xs ys : List Item) → Lt (key_of x) (key_of y) → RisesFrom (Some (key_of y)) ys →
    ((k : Key) → item_at k (x ∷ xs) ≡ item_at k (y ∷ ys)) → ⊥
first_missing x y xs ys less rises same =
    let le : Le (key_of x) (key_of y) = search order in
    let none : Some x ≡ None = sym (at_here (key_of x) x xs refl) ∙ same (key_of x)
    ∙ at_later (key_of x) y ys (λ e. search order) ∙ at_none (Some (key_of y)) (key_of x) ys rises le in
    cc

-- lists that rise and have the same item at each key are one
pub unique : (floor other : Option Key) (xs ys : List Item) → RisesFrom floor xs → RisesFrom other ys →
    ((k : Key) → item_at k xs ≡ item_at k ys) → xs ≡ ys
unique floor other [] [] left right same = refl
unique floor other [] (y ∷ ys) left right same =
    let none : None ≡ Some y = same (key_of y) ∙ at_here (key_of y) y ys refl in cc
unique floor other (x ∷ xs) [] left right same =
    let none : Some x ≡ None = sym (at_here (key_of x) x xs refl) ∙ same (key_of x) in cc
unique floor other (x ∷ xs) (y ∷ ys) left right same = ⊎_elim
    (λ (is : key_of x ≡ key_of y).
    let heads : x ≡ y = heads_alike x y xs ys is same in
    let tails : xs ≡ ys = unique (Some (key_of x)) (Some (key_of y)) xs ys left.1 right.1
    (tails_alike x y xs ys is left.1 right.1 same) in
    cc)
    (⊎_elim
    (λ (less : Lt (key_of x) (key_of y)). absurd (first_missing x y xs ys less right.1 same))
    (λ (more : Lt (key_of y) (key_of x)). absurd (first_missing y x ys xs more left.1 (λ k. sym (same k)))))
    (keys_compare (key_of x) (key_of y))

-- ---- what is kept of a list

-- a list that rises from a key rises from what is below it
pub rises_lower : (floor : Option Key) (k : Key) (xs : List Item) → is_above floor k ≡ true →
    RisesFrom (Some k) xs → RisesFrom floor xs
rises_lower floor k [] above rises = tt
rises_lower floor k (x ∷ xs) above rises = (above_more floor k (key_of x) above rises.0, rises.1)

kept_at : (b c : Bool) (k : Key) (x : Item) (kept xs : List Item) → key_of x ≡ k → b ≡ c →
    item_at k kept ≡ cond c (item_at k xs) None → item_at k (cond b (x ∷ kept) kept) ≡ cond c (item_at k (x ∷ xs)) None
kept_at true true k x kept xs is e rest = at_here k x kept is ∙ sym (at_here k x xs is)
kept_at false false k x kept xs is e rest = rest
kept_at true false k x kept xs is e rest = cc
kept_at false true k x kept xs is e rest = cc

kept_later : (b : Bool) (k : Key) (x : Item) (kept : List Item) → (key_of x ≡ k → ⊥) →
    item_at k (cond b (x ∷ kept) kept) ≡ item_at k kept
kept_later true k x kept other = at_later k x kept other
kept_later false k x kept other = refl

either_none : (b : Bool) (k : Key) → item_at k [] ≡ cond b (item_at k []) None
either_none true k = refl
either_none false k = refl

-- those whose key passes a test
abbrev pub passing : (Key → Bool) → List Item → List Item
passing test xs = filter (λ (x : Item). test (key_of x)) xs

pub at_passing : (test : Key → Bool) (k : Key) (xs : List Item) →
    item_at k (passing test xs) ≡ cond (test k) (item_at k xs) None
at_passing test k [] = either_none (test k) k
at_passing test k (x ∷ xs) = ⊎_elim
    (λ (is : key_of x ≡ k). kept_at (test (key_of x)) (test k) k x (passing test xs) xs is (ap test is)
    (at_passing test k xs))
    (λ (other : key_of x ≡ k → ⊥). kept_later (test (key_of x)) k x (passing test xs) other ∙ at_passing test k xs
    ∙ ap (λ o. cond (test k) o None) (sym (at_later k x xs other)))
    (keys_equal (key_of x) k)

rises_kept : (b : Bool) (floor : Option Key) (x : Item) (xs : List Item) → is_above floor (key_of x) ≡ true →
    RisesFrom (Some (key_of x)) xs → RisesFrom floor (cond b (x ∷ xs) xs)
rises_kept true floor x xs above rises = (above, rises)
rises_kept false floor x xs above rises = rises_lower floor (key_of x) xs above rises

pub rises_passing : (test : Key → Bool) (floor : Option Key) (xs : List Item) → RisesFrom floor xs →
    RisesFrom floor (passing test xs)
rises_passing test floor [] rises = tt
rises_passing test floor (x ∷ xs) rises = rises_kept (test (key_of x)) floor x (passing test xs) rises.0
    (rises_passing test (Some (key_of x)) xs rises.1)

rises_or_none : (b : Bool) (floor : Option Key) (x : Item) (xs : List Item) → is_above floor (key_of x) ≡ b →
    RisesFrom (Some (key_of x)) xs → RisesFrom floor (cond b (x ∷ xs) [])
rises_or_none true floor x xs above rises = (above, rises)
rises_or_none false floor x xs above rises = tt

-- the longest prefix that rises does
pub rising_rises : (floor : Option Key) (xs : List Item) → RisesFrom floor (rising_from floor xs)
rising_rises floor [] = tt
rising_rises floor (x ∷ xs) = rises_or_none (is_above floor (key_of x)) floor x (rising_from (Some (key_of x)) xs) refl
    (rising_rises (Some (key_of x)) xs)

-- ---- a test that holds of each lesser key

abbrev pub HoldsBelow : (Key → Bool) → Type 0
HoldsBelow test = (j k : Key) → Le j k → test k ≡ true → test j ≡ true

abbrev failing : (Key → Bool) → List Item → List Item
failing test xs = filter (λ (x : Item). not (test (key_of x))) xs

one_passes : (b : Bool) (x : Item) (xs kept others : List Item) → b ≡ true → xs ≡ kept ++ others →
    x ∷ xs ≡ cond b (x ∷ kept) kept ++ cond (not b) (x ∷ others) others
one_passes true x xs kept others is e = ap (λ list. x ∷ list) e
one_passes false x xs kept others is e = cc

one_fails : (b : Bool) (x : Item) (xs kept others : List Item) → b ≡ false → (kept ≡ []) × (others ≡ xs) →
    (cond b (x ∷ kept) kept ≡ []) × (cond (not b) (x ∷ others) others ≡ x ∷ xs)
one_fails true x xs kept others is e = cc
one_fails false x xs kept others is e = (e.0, ap (λ list. x ∷ list) e.1)

all_fail : (test : Key → Bool) → HoldsBelow test → (k : Key) (xs : List Item) → RisesFrom (Some k) xs →
    test k ≡ false → (passing test xs ≡ []) × (failing test xs ≡ xs)
all_fail test down k [] rises isnt = (refl, refl)
all_fail test down k (x ∷ xs) rises isnt =
    let less : Lt k (key_of x) = rises.0 in
    let here : test (key_of x) ≡ false = ⊎_elim
    (λ (is : test (key_of x) ≡ true). absurd (false≢true (sym isnt ∙ down k (key_of x) (search order) is)))
    (λ (e : test (key_of x) ≡ false). e) (cases_Bool (test (key_of x))) in
    one_fails (test (key_of x)) x xs (passing test xs) (failing test xs) here
    (all_fail test down (key_of x) xs rises.1 here)

both_empty : {kept others all : List Item} → (kept ≡ []) × (others ≡ all) → all ≡ kept ++ others
both_empty parts = rw parts.0 (sym parts.1)

-- what passes such a test comes first
pub splits : (test : Key → Bool) → HoldsBelow test → (floor : Option Key) (xs : List Item) → RisesFrom floor xs →
    xs ≡ passing test xs ++ filter (λ (x : Item). not (test (key_of x))) xs
splits test down floor [] rises = refl
splits test down floor (x ∷ xs) rises = ⊎_elim
    (λ (is : test (key_of x) ≡ true). one_passes (test (key_of x)) x xs (passing test xs) (failing test xs) is
    (splits test down (Some (key_of x)) xs rises.1))
    (λ (isnt : test (key_of x) ≡ false). both_empty (one_fails (test (key_of x)) x xs (passing test xs)
    (failing test xs) isnt (all_fail test down (key_of x) xs rises.1 isnt)))
    (cases_Bool (test (key_of x)))
