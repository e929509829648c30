-- Lemmas on what one message more at an input in order fixes.
use Rattle.std.proofs.Common.{◌≡◌, ◌⊎◌, inl, inr, List, [], ◌∷◌, ◌++◌, Bool, true, false, not, ◌&&◌, cond, Option, Some, None, option_to_list, refl, sym, ap, ◌∙◌, ⊎_elim}
use Rattle.std.proofs.lemmas.Bool.{cases_Bool, cond-false, not_from_true, not_from_false}
use Rattle.std.specs.Prelude.{⊤}
use Rattle.osm_entity.specs.Growth.{broken_after}
use Rattle.osm_entity.specs.Items.{ItemValue as Item, key_of}
use Rattle.osm_entity.specs.Streams.{Stream, IsBefore}
use Rattle.osm_entity.specs.declared.kind.Key.{Key}
use Rattle.osm_entity.specs.declared.stream.End.TheVariants.{Done}
use Rattle.osm_entity.proofs.PrefixLemmas.{prefix_append, prefix_itself}
use Rattle.osm_entity.proofs.StreamLemmas.{before_itself}
use Rattle.osm_merge.specs.Rules.{Choice, HasKey, IsChoice, is_above, is_rising_from, is_same_key, is_whole, item_at, last_key, last_key_from, merged, reaches, rising_front}
use Rattle.osm_merge.proofs.KeyOrder.{Lt, Le, order, le_refl, key_same, key_other, keys_compare, keys_equal}
use Rattle.osm_merge.proofs.OrderLemmas.{at_more, at_past, at_single, in_order, last_more, reaches_done, reaches_open, rising_all}
use Rattle.osm_merge.proofs.RisingLemmas.{RisesFrom, apart, at_here, at_later, at_passing, rises_passing, unique}
use Rattle.osm_merge.proofs.RuleLemmas.{beyond, given_at, rule_at, rule_grows, rule_rises, settled}

rises_one : (o : Option Item) → RisesFrom None (option_to_list o)
rises_one None = tt
rises_one (Some x) = (refl, tt)

-- at a key past where the first input was known, and at one up to there
past : (a b c : Bool) (o out : Option Item) → a ≡ false → cond (b && c) o None ≡ out →
    cond (not (a && c)) (cond (b && c) o None) None ≡ out
past true b c o out is e = cc
past false b c o out is e = e

up_to : (a b c : Bool) (o out : Option Item) → a ≡ true → out ≡ None →
    cond (not (a && c)) (cond (b && c) o None) None ≡ out
up_to true b true o out is e = sym e
up_to true true false o out is e = sym e
up_to true false false o out is e = sym e
up_to false b c o out is e = cc

-- whether the other is known there or not, nothing is chosen of nothing
none_of_none : (b : Bool) (o : Option Item) → o ≡ None → cond b o None ≡ None
none_of_none true o is = is
none_of_none false o is = refl

-- an item that waits is the last of its input, and stands past the last key of the other
abbrev pub IsAhead : Option Item → Option Key → Option Key → Type 0
IsAhead None last other = ⊤
IsAhead (Some y) last other = (last ≡ Some (key_of y)) × (is_above other (key_of y) ≡ true)

known_at : (b c : Bool) → c ≡ false → cond b true (not c) ≡ true
known_at true c is = refl
known_at false true is = cc
known_at false false is = refl

-- an input is known at its last key
pub last_is_known : (t : Stream) (k : Key) → last_key t ≡ Some k → reaches t k ≡ true
last_is_known t k is = known_at (is_whole t) (is_above (last_key t) k) (rw is (le_refl k))

unknown_own : (b : Bool) (o : Option Item) → cond (b && false) o None ≡ None
unknown_own true o = refl
unknown_own false o = refl

module _ (choose : Choice) (good : IsChoice choose) (xs : List Item) (t : Stream)
    (x_rises : is_rising_from None xs ≡ true) (waiting : Option Item)
    (waits : (k : Key) → is_above (last_key_from None xs) k ≡ true →
    item_at k (rising_front t) ≡ item_at k (option_to_list waiting)) where
  unknown : (k : Key) → is_above (last_key_from None xs) k ≡ true → reaches (broken_after xs) k ≡ false
  unknown k above = reaches_open xs k x_rises ∙ not_from_true (is_above (last_key_from None xs) k) above

  goes_on_at : (s : Stream) (out : List Item) (k : Key) →
      (is_above (last_key_from None xs) k ≡ true → given_at choose s t k ≡ item_at k out) →
      (is_above (last_key_from None xs) k ≡ false → item_at k out ≡ None) →
      (is_above (last_key_from None xs) k ≡ true) ⊎ (is_above (last_key_from None xs) k ≡ false) →
      cond (not (settled (broken_after xs) t k)) (given_at choose s t k) None ≡ item_at k out
  goes_on_at s out k above below (inl is) = past (reaches (broken_after xs) k) (reaches s k) (reaches t k)
      (choose (item_at k (rising_front s)) (item_at k (rising_front t))) (item_at k out) (unknown k is) (above is)
  goes_on_at s out k above below (inr isnt) = up_to (reaches (broken_after xs) k) (reaches s k) (reaches t k)
      (choose (item_at k (rising_front s)) (item_at k (rising_front t))) (item_at k out)
      (reaches_open xs k x_rises ∙ not_from_false (is_above (last_key_from None xs) k) isnt) (below isnt)

  -- what comes behind, where it is right at each key past the last one
  goes_on : (s : Stream) (out : List Item) → IsBefore (broken_after xs) s → RisesFrom None out →
      ((k : Key) → is_above (last_key_from None xs) k ≡ false → item_at k out ≡ None) →
      ((k : Key) → is_above (last_key_from None xs) k ≡ true → given_at choose s t k ≡ item_at k out) →
      (merged choose s t).items ≡ (merged choose (broken_after xs) t).items ++ out
  goes_on s out before rises below above =
      rule_grows choose good (broken_after xs) s t t before (before_itself t)
      ∙ ap (λ items. (merged choose (broken_after xs) t).items ++ items)
      (unique None None (beyond (broken_after xs) t (merged choose s t).items) out
      (rises_passing (λ k. not (settled (broken_after xs) t k)) None (merged choose s t).items
      (rule_rises choose good s t)) rises
      (λ k. at_passing (λ k. not (settled (broken_after xs) t k)) k (merged choose s t).items
      ∙ ap (λ o. cond (not (settled (broken_after xs) t k)) o None) (rule_at choose good s t k)
      ∙ goes_on_at s out k (above k) (below k) (cases_Bool (is_above (last_key_from None xs) k))))

  -- one item or none, at one key
  goes_on_one : (s : Stream) (j : Key) (o : Option Item) → IsBefore (broken_after xs) s → HasKey j o →
      is_above (last_key_from None xs) j ≡ true →
      ((k : Key) → is_above (last_key_from None xs) k ≡ true →
      given_at choose s t k ≡ cond (is_same_key j k) o None) →
      (merged choose s t).items ≡ (merged choose (broken_after xs) t).items ++ option_to_list o
  goes_on_one s j o before has j_above value = goes_on s (option_to_list o) before (rises_one o)
      (λ k isnt.
      let less : Lt k j = apart (last_key_from None xs) k j isnt j_above in
      at_single k j o has ∙ cond-false (is_same_key j k) o None (key_other j k (λ e. search order)))
      (λ k is. value k is ∙ sym (at_single k j o has))

  chosen_none : (k : Key) (b : Bool) (o : Option Item) → o ≡ None → item_at k (option_to_list waiting) ≡ None →
      is_above (last_key_from None xs) k ≡ true →
      cond b (choose o (item_at k (rising_front t))) None ≡ None
  chosen_none k b o is none above =
      none_of_none b (choose o (item_at k (rising_front t))) (rw (is, waits k above, none) good.nothing)

  -- ---- what waited

  module _ (s : Stream) (before : IsBefore (broken_after xs) s)
      (own : (k : Key) → is_above (last_key_from None xs) k ≡ true → reaches t k ≡ true →
      (reaches s k ≡ true) × (item_at k (rising_front s) ≡ None)) where
    nothing_of_own : (k : Key) → is_above (last_key_from None xs) k ≡ true →
        given_at choose s t k ≡ cond (reaches t k) (choose None (item_at k (option_to_list waiting))) None
    nothing_of_own k above = by (reaches t k) refl
      where
        by : (b : Bool) → reaches t k ≡ b →
            given_at choose s t k ≡ cond (reaches t k) (choose None (item_at k (option_to_list waiting))) None
        by true is = let here = own k above is in rw (is, here.0, here.1, waits k above) refl
        by false is = rw is (unknown_own (reaches s k)
            (choose (item_at k (rising_front s)) (item_at k (rising_front t))))

    waiting_at : (y : Item) (k : Key) → waiting ≡ Some y → last_key t ≡ Some (key_of y) →
        (key_of y ≡ k) ⊎ (key_of y ≡ k → ⊥) →
        cond (reaches t k) (choose None (item_at k (option_to_list waiting))) None
        ≡ cond (is_same_key (key_of y) k) (choose None (Some y)) None
    waiting_at y k is last (inl same) =
        let known : reaches t k ≡ true = last_is_known t k (last ∙ ap Some same) in
        rw (is, known, at_here k y [] same, key_same (key_of y) k same) refl
    waiting_at y k is last (inr other) =
        none_of_none (reaches t k) (choose None (item_at k (option_to_list waiting)))
        (rw (is, at_later k y [] other) good.nothing)
        ∙ sym (cond-false (is_same_key (key_of y) k) (choose None (Some y)) None (key_other (key_of y) k other))

    waiting_by : (w : Option Item) → waiting ≡ w → IsAhead w (last_key t) (last_key_from None xs) →
        (merged choose s t).items ≡ (merged choose (broken_after xs) t).items ++ option_to_list (choose None w)
    waiting_by None is ahead = rw good.nothing (goes_on s [] before tt (λ k below. refl)
        (λ k above. nothing_of_own k above ∙ none_of_none (reaches t k)
        (choose None (item_at k (option_to_list waiting))) (rw is good.nothing)))
    waiting_by (Some y) is ahead = goes_on_one s (key_of y) (choose None (Some y)) before
        (good.keeps (key_of y) None (Some y) tt refl) ahead.1
        (λ k above. nothing_of_own k above ∙ waiting_at y k is ahead.0 (keys_equal (key_of y) k))

    -- what waits is given, where this input is known as far as the other and has nothing more there
    pub gives_waiting : IsAhead waiting (last_key t) (last_key_from None xs) →
        (merged choose s t).items ≡ (merged choose (broken_after xs) t).items ++ option_to_list (choose None waiting)
    gives_waiting ahead = waiting_by waiting refl ahead

  -- a whole input lets go of what waits
  pub gives_rest : IsAhead waiting (last_key t) (last_key_from None xs) →
      (merged choose (record { items = xs; end = Done }) t).items
      ≡ (merged choose (broken_after xs) t).items ++ option_to_list (choose None waiting)
  gives_rest ahead = gives_waiting (record { items = xs; end = Done })
      (record { items = prefix_itself xs; done = λ is. cc })
      (λ k above known. (
        reaches_done xs k x_rises,
        ap (item_at k) (rising_all None xs x_rises) ∙ at_past None k xs x_rises above,
      )) ahead

  -- ---- an item

  module _ (x : Item) (x_above : is_above (last_key_from None xs) (key_of x) ≡ true) where
    abbrev more : Stream
    more = broken_after (xs ++ x ∷ [])

    more_reaches : (k : Key) → reaches more k ≡ not (is_above (Some (key_of x)) k)
    more_reaches k = reaches_open (xs ++ x ∷ []) k (in_order None xs x x_rises x_above)
        ∙ ap (λ last. not (is_above last k)) (last_more None xs x)

    more_at : (k : Key) → is_above (last_key_from None xs) k ≡ true → item_at k (rising_front more) ≡ item_at k (x ∷ [])
    more_at k above = ap (item_at k) (rising_all None (xs ++ x ∷ []) (in_order None xs x x_rises x_above))
        ∙ at_more k xs x (at_past None k xs x_rises above)

    more_before : IsBefore (broken_after xs) more
    more_before = record { items = prefix_append xs (x ∷ []); done = λ is. cc }

    -- the item itself is given, with what waits at its key
    pub gives_item : (p : Option Item) → HasKey (key_of x) p → reaches t (key_of x) ≡ true →
        item_at (key_of x) (option_to_list waiting) ≡ p →
        ((k : Key) → Lt k (key_of x) → item_at k (option_to_list waiting) ≡ None) →
        (merged choose more t).items
        ≡ (merged choose (broken_after xs) t).items ++ option_to_list (choose (Some x) p)
    gives_item p has known here below = goes_on_one more (key_of x) (choose (Some x) p) more_before
        (good.keeps (key_of x) (Some x) p refl has) x_above (λ k above. ⊎_elim
        (λ (same : k ≡ key_of x). at_item k above same)
        (⊎_elim (λ (less : Lt k (key_of x)). before_item k above less) (λ (past : Lt (key_of x) k). after_item k past))
        (keys_compare k (key_of x)))
      where
        at_item : (k : Key) → is_above (last_key_from None xs) k ≡ true → k ≡ key_of x →
            given_at choose more t k ≡ cond (is_same_key (key_of x) k) (choose (Some x) p) None
        at_item k above same =
            let le : Le k (key_of x) = search order in
            let own : reaches more k ≡ true = more_reaches k ∙ not_from_false (is_above (Some (key_of x)) k) le in
            let other : reaches t k ≡ true = ap (reaches t) same ∙ known in
            let item : item_at k (rising_front more) ≡ Some x = more_at k above ∙ at_here k x [] (sym same) in
            let waits_there : item_at k (rising_front t) ≡ p =
            waits k above ∙ ap (λ n. item_at n (option_to_list waiting)) same ∙ here in
            rw (own, other, item, waits_there, key_same (key_of x) k (sym same)) refl

        before_item : (k : Key) → is_above (last_key_from None xs) k ≡ true → Lt k (key_of x) →
            given_at choose more t k ≡ cond (is_same_key (key_of x) k) (choose (Some x) p) None
        before_item k above less =
            chosen_none k (settled more t k) (item_at k (rising_front more))
            (more_at k above ∙ at_later k x [] (λ e. search order)) (below k less) above
            ∙ sym (cond-false (is_same_key (key_of x) k) (choose (Some x) p) None
            (key_other (key_of x) k (λ e. search order)))

        after_item : (k : Key) → Lt (key_of x) k →
            given_at choose more t k ≡ cond (is_same_key (key_of x) k) (choose (Some x) p) None
        after_item k past =
            let own : reaches more k ≡ false = more_reaches k ∙ not_from_true (is_above (Some (key_of x)) k) past in
            rw (own, key_other (key_of x) k (λ e. search order)) refl

    -- what waits is given, where the other is known before the item alone
    pub gives_other : ((k : Key) → reaches t k ≡ true → Lt k (key_of x)) →
        IsAhead waiting (last_key t) (last_key_from None xs) →
        (merged choose more t).items
        ≡ (merged choose (broken_after xs) t).items ++ option_to_list (choose None waiting)
    gives_other before ahead = gives_waiting more more_before (λ k above known.
        let less : Lt k (key_of x) = before k known in
        let le : Le k (key_of x) = search order in (
          more_reaches k ∙ not_from_false (is_above (Some (key_of x)) k) le,
          more_at k above ∙ at_later k x [] (λ e. search order),
        )) ahead
