-- Lemmas on a message in order, while both inputs are.
use Rattle.std.proofs.Common.{◌≡◌, ℕ, ◌+◌, ◌-◌, ◌^◌, List, [], ◌∷◌, ◌++◌, length, Bool, true, false, not, ◌||◌, ◌⊎◌, inl, inr, Option, Some, None, option_to_list, refl, sym, ap, ◌∙◌, arith}
use Rattle.std.specs.Prelude.{min}
use Rattle.std.proofs.lemmas.Bool.{not_from_false, not-true, or_right, false≢true}
use Rattle.std.proofs.lemmas.List.{append-nil, length-append}
use Rattle.osm_entity.proofs.PortLemmas.{items_of-item, items_of-end, has_end-item, has_end-end, end_of-end, stream_of-none, stream_of-item, stream_of-end}
use Rattle.osm_entity.specs.Growth.{broken_after}
use Rattle.osm_entity.specs.Items.{ItemValue as Item, key_of}
use Rattle.osm_entity.specs.Keys.{is_key_before}
use Rattle.osm_entity.specs.Ports.{has_end, items_of, stream_of}
use Rattle.osm_entity.specs.Streams.{Stream}
use Rattle.osm_entity.specs.declared.kind.Key.{Key}
use Rattle.osm_entity.specs.declared.stream.End.TheVariants.{Done}
use Rattle.osm_entity.specs.declared.stream.Message.{Message}
use Rattle.osm_entity.specs.declared.stream.Message.TheVariants.{Item as One, End as Last}
use Rattle.osm_merge.specs.Heads.{Follows, IsLevel, SidesStand, Waits, head_reaches}
use Rattle.osm_merge.specs.Rules.{Choice, HasKey, IsChoice, is_above, is_before_last, is_rising_from, item_at, item_number, last_key, last_key_from, merged, rising_front}
use Rattle.osm_merge.specs.declared.heads.Head.{Head}
use Rattle.osm_merge.specs.declared.heads.Side.{Side}
use Rattle.osm_merge.proofs.KeyOrder.{Lt, Le, order, keys_compare, not_both}
use Rattle.osm_merge.proofs.OrderLemmas.{at_more, at_past, in_order, last_more}
use Rattle.osm_merge.proofs.RisingLemmas.{above_more, at_here, at_later}
use Rattle.osm_merge.proofs.StepLemmas.{IsAhead, gives_item, gives_other, gives_rest}
use Rattle.osm_merge.proofs.HeadLemmas.{ahead_by, prefix_head, is_unreached, last_head, reaches_head, unreached}

item_counted : (count old : ℕ) (xs : List Item) (x : Item) → count ≡ min (old + 1) (2 ^ 64 - 1) →
    old ≡ item_number (length xs) → count ≡ item_number (length (xs ++ x ∷ []))
item_counted count old xs x is was =
    let longer : length (xs ++ x ∷ []) ≡ length xs + 1 = length-append xs (x ∷ []) in grind (arith, is, was, longer)

both_le : (a b : Key) → (a ≡ b) ⊎ (Lt a b ⊎ Lt b a) → Le b a → Le a b → a ≡ b
both_le a b (inl same) first second = same
both_le a b (inr (inl less)) first second = absurd (not_both a b less first)
both_le a b (inr (inr more)) first second = absurd (not_both b a more second)

module _ (choose : Choice) (good : IsChoice choose) (side : Side) (own other : Head) (x z : List Message)
    (given : List Item) (isnt : own.ended ≡ false) (none : own.waiting ≡ None)
    (s : SidesStand choose side None own other None x z given) where
  open_x : has_end x ≡ false
  open_x = sym s.inputs.own_follows.ended ∙ isnt

  waits : (k : Key) → is_above (last_key_from None (items_of x)) k ≡ true →
      item_at k (rising_front (stream_of z)) ≡ item_at k (option_to_list other.waiting)
  waits k above = ap (item_at k) (prefix_head other z s.inputs.other_follows)
      ∙ s.inputs.other_waits.beyond k (unreached own k isnt (ap (λ l. is_above l k) s.inputs.own_follows.last ∙ above))

  ahead : IsAhead other.waiting (last_key (stream_of z)) (last_key_from None (items_of x))
  ahead = ahead_by other.waiting own other.last (last_key (stream_of z)) (last_key_from None (items_of x))
      (sym (last_head other z s.inputs.other_follows)) s.inputs.own_follows.last s.inputs.other_waits.level

  -- more is given behind
  given_more : (message : Message) (later : Stream) (out : List Item) → stream_of (x ++ message ∷ []) ≡ later →
      (merged choose later (stream_of z)).items
      ≡ (merged choose (broken_after (items_of x)) (stream_of z)).items ++ out →
      (merged choose (stream_of (x ++ message ∷ [])) (stream_of z)).items ≡ given ++ out
  given_more message later out is more =
      ap (λ (t : Stream). (merged choose t (stream_of z)).items) is ∙ more
      ∙ ap (λ items. items ++ out)
      (sym (ap (λ (t : Stream). (merged choose t (stream_of z)).items) (stream_of-none x open_x)) ∙ s.gave
      ∙ append-nil given)

  other_follows : (w : Option Item) →
      Follows (record { waiting = w; last = other.last; count = other.count; ended = other.ended }) z
  other_follows w = record {
    rises = s.inputs.other_follows.rises;
    last = s.inputs.other_follows.last;
    count = s.inputs.other_follows.count;
    ended = s.inputs.other_follows.ended;
    done = s.inputs.other_follows.done;
  }

  -- ---- an item

  module _ (item : Item) (count : ℕ) (above : is_above own.last (key_of item) ≡ true)
      (count_is : count ≡ min (own.count + 1) (2 ^ 64 - 1)) where
    x_above : is_above (last_key_from None (items_of x)) (key_of item) ≡ true
    x_above = ap (λ l. is_above l (key_of item)) (sym s.inputs.own_follows.last) ∙ above

    items_are : items_of (x ++ One item ∷ []) ≡ items_of x ++ item ∷ []
    items_are = items_of-item x item open_x

    rises_now : is_rising_from None (items_of x ++ item ∷ []) ≡ true
    rises_now = in_order None (items_of x) item s.inputs.own_follows.rises x_above

    own_follows : (w : Option Item) → Follows
        (record { waiting = w; last = Some (key_of item); count = count; ended = own.ended }) (x ++ One item ∷ [])
    own_follows w = record {
      rises = rw items_are rises_now;
      last = rw items_are (sym (last_more None (items_of x) item));
      count = rw items_are
          (item_counted count own.count (items_of x) item count_is s.inputs.own_follows.count);
      ended = s.inputs.own_follows.ended ∙ sym (has_end-item x item);
      done = λ is. absurd (let no = isnt in cc);
    }

    -- past the item the other has nothing, where the item isn't before its last key
    none_past : (k : Key) → is_before_last (key_of item) other.last ≡ false → Lt (key_of item) k →
        item_at k (items_of z) ≡ None
    none_past k not_below less = at_past None k (items_of z) s.inputs.other_follows.rises
        (ap (λ l. is_above l k) (sym s.inputs.other_follows.last) ∙ by other.last not_below)
      where
        by : (last : Option Key) → is_before_last (key_of item) last ≡ false → is_above last k ≡ true
        by None isnt = refl
        by (Some l) isnt = let le : Le l (key_of item) = isnt in let goal : Lt l k = search order in goal

    -- and then nothing of the other waits
    other_passed : is_before_last (key_of item) other.last ≡ false → (w : Option Item) → Waits None other.last
        (head_reaches (record { waiting = w; last = Some (key_of item); count = count; ended = own.ended }))
        (items_of z)
    other_passed not_below w = record {
      level = λ k is. rw isnt (not_from_false (is_before_last (key_of item) (Some k))
          (ap (is_before_last (key_of item)) (sym is) ∙ not_below));
      beyond = λ k is. none_past k not_below (is_unreached
          (record { waiting = w; last = Some (key_of item); count = count; ended = own.ended }) k is).1;
    }

    -- past the item this input has nothing
    own_past : (k : Key) → Lt (key_of item) k → item_at k (items_of (x ++ One item ∷ [])) ≡ None
    own_past k less = ap (item_at k) items_are ∙ at_past None k (items_of x ++ item ∷ []) rises_now
        (ap (λ l. is_above l k) (last_more None (items_of x) item) ∙ less)

    -- nothing of this input waits, where the other is known at the item
    own_known : head_reaches other (key_of item) ≡ true → (w : Option Item) → Waits None (Some (key_of item))
        (head_reaches (record { waiting = w; last = other.last; count = other.count; ended = other.ended }))
        (items_of (x ++ One item ∷ []))
    own_known known w = record {
      level = λ k is. let same : key_of item ≡ k = cc in ap (head_reaches other) (sym same) ∙ known;
      beyond = λ k is. own_past k (past k (is_unreached other k is) other.last refl known);
    }
      where
        past : (k : Key) → (other.ended ≡ false) × (is_above other.last k ≡ true) → (last : Option Key) →
            other.last ≡ last → head_reaches other (key_of item) ≡ true → Lt (key_of item) k
        past k is None e known = absurd (let off : (other.ended || not (is_above other.last (key_of item))) ≡ false =
            rw (is.0, e) refl in cc)
        past k is (Some l) e known =
            let below : Lt l k = ap (λ m. is_above m k) (sym e) ∙ is.1 in
            let test : not (is_above (Some l) (key_of item)) ≡ true =
            sym (rw (is.0, e) refl) ∙ known in
            let le : Le (key_of item) l = not-true (is_above (Some l) (key_of item)) test in
            search order

    above_not_below : (last : Option Key) → is_above last (key_of item) ≡ true → is_before_last (key_of item) last ≡ false
    above_not_below None is = refl
    above_not_below (Some l) is =
        let less : Lt l (key_of item) = is in let goal : Le l (key_of item) = search order in goal

    known_before : (k : Key) (last : Option Key) → is_above last (key_of item) ≡ true →
        not (is_above last k) ≡ true → Lt k (key_of item)
    known_before k None above known = absurd cc
    known_before k (Some l) above known =
        let le : Le k l = not-true (is_above (Some l) k) known in let less : Lt l (key_of item) = above in search order

    -- an item past all that is known of the other waits, and what the other had waiting is given
    pub advanced_beyond : (ready kept : Option Item) → head_reaches other (key_of item) ≡ false → kept ≡ None →
        ready ≡ choose None other.waiting → SidesStand choose side None
        (record { waiting = Some item; last = Some (key_of item); count = count; ended = own.ended })
        (record { waiting = kept; last = other.last; count = other.count; ended = other.ended })
        ready (x ++ One item ∷ []) z given
    advanced_beyond ready kept unknown kept_is ready_is =
        let going = (is_unreached other (key_of item) unknown).0 in
        let past = (is_unreached other (key_of item) unknown).1 in
        record {
          inputs = record {
            own_follows = own_follows (Some item);
            other_follows = other_follows kept;
            own_waits = record {
              level = (
                refl,
                unreached (record {
                  waiting = kept;
                  last = other.last;
                  count = other.count;
                  ended = other.ended;
                }) (key_of item) going past,
              );
              beyond = λ k is. ap (item_at k) items_are ∙ at_more k (items_of x) item
                  (s.inputs.own_waits.beyond k is ∙ ap (λ w. item_at k (option_to_list w)) none);
            };
            other_waits = rw kept_is (other_passed (above_not_below other.last past) (Some item));
            own_free = λ is. absurd (let no = isnt in cc);
            other_free = λ is. kept_is;
          };
          gave = rw ready_is (given_more (One item) (broken_after (items_of x ++ item ∷ []))
              (option_to_list (choose None other.waiting)) (stream_of-item x item open_x)
              (gives_other choose good (items_of x) (stream_of z) s.inputs.own_follows.rises other.waiting waits item
              x_above (λ k known. known_before k other.last past
              (sym (rw going refl) ∙ (sym (reaches_head other z s.inputs.other_follows k) ∙ known))) ahead));
        }

    -- ---- the item is known to the other

    waiting_below : (w : Option Item) → IsLevel w other.last (head_reaches own) → (k : Key) →
        is_before_last (key_of item) other.last ≡ true → (k ≡ key_of item) ⊎ Lt k (key_of item) →
        item_at k (option_to_list w) ≡ None
    waiting_below None level k below is = refl
    waiting_below (Some y) level k below is =
        let less : Lt (key_of item) (key_of y) = ap (is_before_last (key_of item)) (sym level.0) ∙ below in
        at_later k y [] (λ e. differ e is)
      where
        differ : (key_of y ≡ k) → (k ≡ key_of item) ⊎ Lt k (key_of item) → ⊥
        differ e (inl same) =
            let less : Lt (key_of item) (key_of y) = ap (is_before_last (key_of item)) (sym level.0) ∙ below in search order
        differ e (inr before) =
            let less : Lt (key_of item) (key_of y) = ap (is_before_last (key_of item)) (sym level.0) ∙ below in search order

    below_known : (last : Option Key) → is_before_last (key_of item) last ≡ true → not (is_above last (key_of item)) ≡ true
    below_known None is = absurd cc
    below_known (Some l) is = let less : Lt (key_of item) l = is in
        let le : Le (key_of item) l = search order in not_from_false (is_above (Some l) (key_of item)) le

    still_waits : (w : Option Item) → Waits w other.last (head_reaches own) (items_of z) →
        is_before_last (key_of item) other.last ≡ true → Waits w other.last
        (head_reaches (record { waiting = own.waiting; last = Some (key_of item); count = count; ended = own.ended }))
        (items_of z)
    still_waits w was below = record {
      level = level_by w was.level;
      beyond = λ k is. was.beyond k (unreached own k isnt (above_more own.last (key_of item) k above
          (is_unreached (record {
            waiting = own.waiting;
            last = Some (key_of item);
            count = count;
            ended = own.ended;
          }) k is).1));
    }
      where
        level_by : (w : Option Item) → IsLevel w other.last (head_reaches own) → IsLevel w other.last
            (head_reaches
            (record { waiting = own.waiting; last = Some (key_of item); count = count; ended = own.ended }))
        level_by None level = λ k is.
            let reached : not (is_above own.last k) ≡ true = sym (rw isnt refl) ∙ level k is in
            let less : Lt (key_of item) k = ap (is_before_last (key_of item)) (sym is) ∙ below in
            absurd (false≢true (sym (not-true (is_above own.last k) reached)
            ∙ above_more own.last (key_of item) k above less))
        level_by (Some y) level = (
          level.0,
          unreached (record {
            waiting = own.waiting;
            last = Some (key_of item);
            count = count;
            ended = own.ended;
          }) (key_of y) isnt (ap (is_before_last (key_of item)) (sym level.0) ∙ below),
        )

    -- an item before the other's last one is given, and that one goes on waiting
    pub advanced_before : (ready : Option Item) → is_before_last (key_of item) other.last ≡ true →
        ready ≡ choose (Some item) None → SidesStand choose side None
        (record { waiting = own.waiting; last = Some (key_of item); count = count; ended = own.ended }) other
        ready (x ++ One item ∷ []) z given
    advanced_before ready below ready_is =
        let known : head_reaches other (key_of item) ≡ true = or_right other.ended
        (not (is_above other.last (key_of item))) (below_known other.last below) in
        record {
          inputs = record {
            own_follows = own_follows own.waiting;
            other_follows = s.inputs.other_follows;
            own_waits = rw none (own_known known other.waiting);
            other_waits = still_waits other.waiting s.inputs.other_waits below;
            own_free = λ is. absurd (let no = isnt in cc);
            other_free = s.inputs.other_free;
          };
          gave = rw ready_is (given_more (One item) (broken_after (items_of x ++ item ∷ []))
              (option_to_list (choose (Some item) None)) (stream_of-item x item open_x)
              (gives_item choose good (items_of x) (stream_of z) s.inputs.own_follows.rises other.waiting waits item
              x_above None tt (reaches_head other z s.inputs.other_follows (key_of item) ∙ known)
              (waiting_below other.waiting s.inputs.other_waits.level (key_of item) below (inl refl))
              (λ k less. waiting_below other.waiting s.inputs.other_waits.level k below (inr less))));
        }

    waits_here : (w : Option Item) → (other.ended ≡ true → w ≡ None) → IsLevel w other.last (head_reaches own) →
        head_reaches other (key_of item) ≡ true → is_before_last (key_of item) other.last ≡ false → HasKey (key_of item) w
    waits_here None free level known isnt = tt
    waits_here (Some y) free level known isnt = by other.ended refl
      where
        by : (b : Bool) → other.ended ≡ b → key_of y ≡ key_of item
        by true is = let no = free is in absurd cc
        by false is =
            let reached : not (is_key_before (key_of y) (key_of item)) ≡ true =
            sym (rw (is, level.0) refl) ∙ known in
            let first : Le (key_of item) (key_of y) = not-true (is_key_before (key_of y) (key_of item)) reached in
            let second : Le (key_of y) (key_of item) = ap (is_before_last (key_of item)) (sym level.0) ∙ isnt in
            both_le (key_of y) (key_of item) (keys_compare (key_of y) (key_of item)) first second

    waiting_at : (w : Option Item) → HasKey (key_of item) w → item_at (key_of item) (option_to_list w) ≡ w
    waiting_at None has = refl
    waiting_at (Some y) has = at_here (key_of item) y [] has

    waiting_later : (w : Option Item) → HasKey (key_of item) w → (k : Key) → Lt k (key_of item) →
        item_at k (option_to_list w) ≡ None
    waiting_later None has k less = refl
    waiting_later (Some y) has k less = at_later k y [] (λ e. search order)

    -- an item that the other has come up to is given, with what waits at its key
    pub advanced_to : (ready kept : Option Item) → head_reaches other (key_of item) ≡ true →
        is_before_last (key_of item) other.last ≡ false → kept ≡ None → ready ≡ choose (Some item) other.waiting →
        SidesStand choose side None
        (record { waiting = own.waiting; last = Some (key_of item); count = count; ended = own.ended })
        (record { waiting = kept; last = other.last; count = other.count; ended = other.ended })
        ready (x ++ One item ∷ []) z given
    advanced_to ready kept known not_below kept_is ready_is =
        let has : HasKey (key_of item) other.waiting = waits_here other.waiting s.inputs.other_free
        s.inputs.other_waits.level known not_below in
        record {
          inputs = record {
            own_follows = own_follows own.waiting;
            other_follows = other_follows kept;
            own_waits = rw none (own_known known kept);
            other_waits = rw kept_is (other_passed not_below own.waiting);
            own_free = λ is. absurd (let no = isnt in cc);
            other_free = λ is. kept_is;
          };
          gave = rw ready_is (given_more (One item) (broken_after (items_of x ++ item ∷ []))
              (option_to_list (choose (Some item) other.waiting)) (stream_of-item x item open_x)
              (gives_item choose good (items_of x) (stream_of z) s.inputs.own_follows.rises other.waiting waits item
              x_above other.waiting has (reaches_head other z s.inputs.other_follows (key_of item) ∙ known)
              (waiting_at other.waiting has) (waiting_later other.waiting has)));
        }

  -- ---- the end

  -- a whole input lets go of what waits for it
  pub finished : (ready kept : Option Item) → kept ≡ None → ready ≡ choose None other.waiting →
      SidesStand choose side None
      (record { waiting = own.waiting; last = own.last; count = own.count; ended = true })
      (record { waiting = kept; last = other.last; count = other.count; ended = other.ended })
      ready (x ++ Last Done ∷ []) z given
  finished ready kept kept_is ready_is =
      let items : items_of (x ++ Last Done ∷ []) ≡ items_of x = items_of-end x Done in
      record {
        inputs = record {
          own_follows = record {
            rises = rw items s.inputs.own_follows.rises;
            last = rw items s.inputs.own_follows.last;
            count = rw items s.inputs.own_follows.count;
            ended = sym (has_end-end x Done);
            done = λ is. end_of-end x Done open_x;
          };
          other_follows = other_follows kept;
          own_waits = record {
            level = s.inputs.own_waits.level;
            beyond = λ k is. ap (item_at k) items ∙ s.inputs.own_waits.beyond k is;
          };
          other_waits = rw kept_is (record { level = λ k is. refl; beyond = λ k is. absurd cc });
          own_free = λ is. none;
          other_free = λ is. kept_is;
        };
        gave = rw ready_is (given_more (Last Done) (record { items = items_of x; end = Done })
            (option_to_list (choose None other.waiting)) (stream_of-end x Done open_x)
            (gives_rest choose good (items_of x) (stream_of z) s.inputs.own_follows.rises other.waiting waits ahead));
      }
