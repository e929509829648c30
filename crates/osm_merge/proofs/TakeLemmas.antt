-- Lemmas on a message taken at one input, whether an end was met or not.
use Rattle.std.proofs.Common.{◌≡◌, ◌⊎◌, inl, inr, ◌+◌, List, [], ◌∷◌, ◌++◌, Bool, true, false, Option, Some, None, refl, sym, ap, ◌∙◌}
use Rattle.std.specs.Prelude.{is_some}
use Rattle.std.proofs.lemmas.Bool.{and_from, false≢true}
use Rattle.osm_entity.proofs.PortLemmas.{has_end-item, has_end-end, end_of-none, prefix_before}
use Rattle.osm_entity.proofs.PrefixLemmas.{prefix_append}
use Rattle.osm_entity.specs.Items.{ItemValue as Item, key_of}
use Rattle.osm_entity.specs.Meaning.{Finish, Passed, Wrong}
use Rattle.osm_entity.specs.Ports.{end_of, has_end, items_of, stream_of}
use Rattle.osm_entity.specs.Streams.{IsBefore}
use Rattle.osm_entity.specs.Tasks.{verdict_as}
use Rattle.osm_entity.specs.declared.kind.Key.{Key}
use Rattle.osm_entity.specs.declared.stream.End.{End}
use Rattle.osm_entity.specs.declared.stream.End.TheVariants.{Done, Broken}
use Rattle.osm_entity.specs.declared.stream.Message.{Message}
use Rattle.osm_entity.specs.declared.stream.Message.TheVariants.{Item as One, End as Last}
use Rattle.osm_entity.specs.declared.verdict.Cause.TheVariants.{Unordered}
use Rattle.osm_entity.specs.declared.verdict.Spot.TheVariants.{Item as AtItem}
use Rattle.osm_entity.specs.declared.verdict.Verdict.{Verdict}
use Rattle.osm_entity.specs.declared.verdict.Verdict.TheVariants.{Passed as BrokenBefore}
use Rattle.osm_merge.specs.Heads.{Follows, HasTurn, InOrder, InputsStand, IsLevel, IsMet, MeetsEnd, SidesStand, head_reaches, opposite, port_of}
use Rattle.osm_merge.specs.Rules.{Choice, IsChoice, is_above, is_done, is_rising_from, is_whole, item_number}
use Rattle.osm_merge.specs.declared.heads.Head.{Head}
use Rattle.osm_merge.specs.declared.heads.Side.{Side}
use Rattle.osm_merge.specs.declared.heads.Side.TheVariants.{First, Second}
use Rattle.osm_merge.proofs.CutLemmas.{IsCutBy, IsPast, broken_cut, covers, cut_short, first_met, merged_alike, met_alike, met_stays, nothing_more, order_cut, second_met, spent}
use Rattle.osm_merge.proofs.AdvanceLemmas.{finished}
use Rattle.osm_merge.proofs.HeadLemmas.{is_unreached, last_head, reaches_head}
use Rattle.osm_merge.proofs.KeyOrder.{Lt, not_both, lt_le}
use Rattle.osm_merge.proofs.RuleLemmas.{broken_is_short}

-- ---- whose turn it is

level_none : (w : Option Item) (last : Option Key) (reached : Key → Bool) → w ≡ None → IsLevel w last reached →
    (k : Key) → last ≡ Some k → reached k ≡ true
level_none None last reached is level = level
level_none (Some i) last reached is level = absurd cc

level_some : (w : Option Item) (last : Option Key) (reached : Key → Bool) → is_some w ≡ true →
    IsLevel w last reached → (k : Key) × (last ≡ Some k) × (reached k ≡ false)
level_some None last reached is level = absurd cc
level_some (Some i) last reached is level = (key_of i, level.0, level.1)

ended_reaches : (head : Head) (k : Key) → head.ended ≡ true → head_reaches head k ≡ true
ended_reaches head k ended = rw ended refl

none_of_ended : (own other : Head) (w : Option Item) → other.ended ≡ true → IsLevel w own.last (head_reaches other) →
    w ≡ None
none_of_ended own other None ended level = refl
none_of_ended own other (Some i) ended level =
    absurd (false≢true (sym level.1 ∙ ended_reaches other (key_of i) ended))

none_of_both : (own other : Head) (v w : Option Item) → is_some w ≡ true → IsLevel v own.last (head_reaches other) →
    IsLevel w other.last (head_reaches own) → v ≡ None
none_of_both own other None w some level there = refl
none_of_both own other (Some i) None some level there = absurd cc
none_of_both own other (Some i) (Some j) some level there =
    let first : Lt (key_of i) (key_of j) =
    ap (λ l. is_above l (key_of j)) (sym level.0) ∙ (is_unreached own (key_of j) there.1).1 in
    let second : Lt (key_of j) (key_of i) =
    ap (λ l. is_above l (key_of i)) (sym there.0) ∙ (is_unreached other (key_of i) level.1).1 in
    absurd (not_both (key_of i) (key_of j) first (lt_le (key_of j) (key_of i) second))

-- nothing waits of an input whose turn it is
pub turn_is_free : (side : Side) (own other : Head) (x z : List Message) → InOrder own other x z →
    HasTurn side own other → own.waiting ≡ None
turn_is_free First own other x z s (inl ended) = none_of_ended own other own.waiting ended s.own_waits.level
turn_is_free First own other x z s (inr none) = none
turn_is_free Second own other x z s (inl ended) = none_of_ended own other own.waiting ended s.own_waits.level
turn_is_free Second own other x z s (inr some) =
    none_of_both own other own.waiting other.waiting some s.own_waits.level s.other_waits.level

pub whole_head : (head : Head) (z : List Message) → Follows head z → head.ended ≡ true → is_whole (stream_of z) ≡ true
whole_head head z follows ended = and_from (is_rising_from None (items_of z)) (is_done (end_of z)) follows.rises
    (ap is_done (follows.done ended))

pub short_head : (head : Head) (x : List Message) → Follows head x → head.ended ≡ false →
    is_whole (stream_of x) ≡ false
short_head head x follows isnt = broken_is_short (stream_of x) (end_of-none x (sym follows.ended ∙ isnt))

-- an input whose turn it is has the least last key: if it ends now, its end is the one that is met
pub turn_meets : (side : Side) (own other : Head) (x z : List Message) → InOrder own other x z →
    own.ended ≡ false → HasTurn side own other → MeetsEnd side (stream_of x) (stream_of z)
turn_meets First own other x z s isnt turn =
    first_met (stream_of x) (stream_of z) (short_head own x s.own_follows isnt)
    (λ k is. reaches_head other z s.other_follows k ∙ by k (sym (last_head own x s.own_follows) ∙ is) turn)
  where
    by : (k : Key) → own.last ≡ Some k → HasTurn First own other → head_reaches other k ≡ true
    by k is (inl ended) = ended_reaches other k ended
    by k is (inr none) = level_none own.waiting own.last (head_reaches other) none s.own_waits.level k is
turn_meets Second own other x z s isnt turn =
    second_met (stream_of x) (stream_of z) (short_head own x s.own_follows isnt) (by turn)
  where
    by : HasTurn Second own other → IsPast (stream_of x) (stream_of z)
    by (inl ended) = inl (whole_head other z s.other_follows ended)
    by (inr some) =
        let level = level_some other.waiting other.last (head_reaches own) some s.other_waits.level in
        inr (level.0, last_head other z s.other_follows ∙ level.1, reaches_head own x s.own_follows level.0 ∙ level.2)

-- ---- a message that is taken after an end was met, or that meets one

module _ (choose : Choice) (good : IsChoice choose) (side : Side) (own own' other : Head) (x z : List Message)
    (message : Message) (given : List Item) (isnt : own.ended ≡ false)
    (ended : own'.ended ≡ has_end (x ++ message ∷ [])) where
  goes_on_before : IsBefore (stream_of x) (stream_of (x ++ message ∷ []))
  goes_on_before = prefix_before x (x ++ message ∷ []) (prefix_append x (message ∷ []))

  pub drained : (verdict : Verdict) → SidesStand choose side (Some verdict) own other None x z given →
      SidesStand choose side (Some verdict) own' other None (x ++ message ∷ []) z given
  drained verdict s = by s.inputs.met
    where
      by : IsMet side x z verdict ⊎ IsMet (opposite side) z x verdict →
          SidesStand choose side (Some verdict) own' other None (x ++ message ∷ []) z given
      by (inl met) =
          let rest = spent (port_of side) x message met.cut (sym s.inputs.own_ended ∙ isnt) in
          record {
            inputs = record {
              own_ended = ended;
              other_ended = s.inputs.other_ended;
              met = inl (record {
                cut = rest.cut;
                met = met_alike side (stream_of x) (stream_of (x ++ message ∷ [])) (stream_of z) rest.alike met.met;
                fault = met.fault ∙ ap (verdict_as 0 0) rest.fault;
              });
            };
            gave = sym (merged_alike choose (stream_of x) (stream_of (x ++ message ∷ [])) (stream_of z) rest.alike)
                ∙ s.gave;
          }
      by (inr met) = record {
        inputs = record {
          own_ended = ended;
          other_ended = s.inputs.other_ended;
          met = inr (record {
            cut = met.cut;
            met = met_stays (opposite side) (stream_of z) (stream_of x) (stream_of (x ++ message ∷ []))
                (cut_short z met.cut) goes_on_before met.met;
            fault = met.fault;
          });
        };
        gave = nothing_more choose good (stream_of x) (stream_of (x ++ message ∷ [])) (stream_of z) goes_on_before
            (covers (opposite side) (stream_of z) (stream_of x) (cut_short z met.cut) met.met) ∙ s.gave;
      }

  pub meets_end : (finish : Finish) → IsCutBy (port_of side) x (x ++ message ∷ []) finish → HasTurn side own other →
      SidesStand choose side None own other None x z given →
      SidesStand choose side (Some (verdict_as 0 0 finish)) own' other None (x ++ message ∷ []) z given
  meets_end finish cut turn s = record {
    inputs = record {
      own_ended = ended;
      other_ended = s.inputs.other_follows.ended;
      met = inl (record {
        cut = cut.cut;
        met = met_alike side (stream_of x) (stream_of (x ++ message ∷ [])) (stream_of z) cut.alike
            (turn_meets side own other x z s.inputs isnt turn);
        fault = ap (verdict_as 0 0) cut.fault;
      });
    };
    gave = sym (merged_alike choose (stream_of x) (stream_of (x ++ message ∷ [])) (stream_of z) cut.alike) ∙ s.gave;
  }

-- an end was met before
pub drained_cut : (choose : Choice) → IsChoice choose → (side : Side) (own own' other : Head) (x z : List Message)
    (message : Message) (given : List Item) → own.ended ≡ false → own'.ended ≡ has_end (x ++ message ∷ []) →
    (cut : Option Verdict) → is_some cut ≡ true → SidesStand choose side cut own other None x z given →
    SidesStand choose side cut own' other None (x ++ message ∷ []) z given
drained_cut choose good side own own' other x z message given isnt ended None some s = absurd cc
drained_cut choose good side own own' other x z message given isnt ended (Some verdict) some s =
    drained choose good side own own' other x z message given isnt ended verdict s

pub uncut : {choose : Choice} {side : Side} {own other : Head} {ready : Option Item} {x z : List Message}
    {given : List Item} (cut : Option Verdict) → is_some cut ≡ false →
    SidesStand choose side cut own other ready x z given → SidesStand choose side None own other ready x z given
uncut None none s = s
uncut (Some verdict) none s = absurd cc

pub open_ended : (side : Side) (cut : Option Verdict) (own other : Head) (x z : List Message) →
    InputsStand side cut own other x z → (own.ended ≡ has_end x) × (other.ended ≡ has_end z)
open_ended side None own other x z s = (s.own_follows.ended, s.other_follows.ended)
open_ended side (Some verdict) own other x z s = (s.own_ended, s.other_ended)

-- ---- the messages, one by one

ended_item : (b : Bool) (x : List Message) (message : Message) (item : Item) → message ≡ One item → b ≡ has_end x →
    b ≡ has_end (x ++ message ∷ [])
ended_item b x message item is told = rw is (told ∙ sym (has_end-item x item))

ended_end : (x : List Message) (message : Message) (end : End) → message ≡ Last end →
    true ≡ has_end (x ++ message ∷ [])
ended_end x message end is = rw is (sym (has_end-end x end))

cut_again : {choose : Choice} {side : Side} {own other : Head} {ready : Option Item} {x z : List Message}
    {given : List Item} (cut : Option Verdict) → is_some cut ≡ false →
    SidesStand choose side None own other ready x z given → SidesStand choose side cut own other ready x z given
cut_again None none s = s
cut_again (Some verdict) none s = absurd cc

module _ (choose : Choice) (good : IsChoice choose) (side : Side) (own other : Head) (cut : Option Verdict)
    (message : Message) (x z : List Message) (given : List Item) (isnt : own.ended ≡ false)
    (turn : HasTurn side own other) (s : SidesStand choose side cut own other None x z given) where
  told : own.ended ≡ has_end x
  told = (open_ended side cut own other x z s.inputs).0

  -- an item, after an end was met
  pub item_dropped : (item : Item) → message ≡ One item → is_some cut ≡ true →
      SidesStand choose side cut own other None (x ++ message ∷ []) z given
  item_dropped item is some = drained_cut choose good side own own other x z message given isnt
      (ended_item own.ended x message item is told) cut some s

  -- the end, after an end was met
  pub end_dropped : (end : End) → message ≡ Last end → is_some cut ≡ true → SidesStand choose side cut
      (record { waiting = own.waiting; last = own.last; count = own.count; ended = true }) other None
      (x ++ message ∷ []) z given
  end_dropped end is some = drained_cut choose good side own
      (record { waiting = own.waiting; last = own.last; count = own.count; ended = true }) other x z message given isnt
      (ended_end x message end is) cut some s

  -- an item in order
  pub item_taken : (item : Item) (own' other' : Head) (ready : Option Item) → message ≡ One item →
      is_some cut ≡ false →
      (own.waiting ≡ None → SidesStand choose side None own other None x z given →
      SidesStand choose side None own' other' ready (x ++ One item ∷ []) z given) →
      SidesStand choose side cut own' other' ready (x ++ message ∷ []) z given
  item_taken item own' other' ready is none step =
      let stood = uncut cut none s in
      rw is (cut_again cut none (step (turn_is_free side own other x z stood.inputs turn) stood))

  -- an item out of order
  pub item_refused : (item : Item) (verdict : Verdict) → message ≡ One item → is_some cut ≡ false →
      is_above own.last (key_of item) ≡ false →
      verdict ≡ verdict_as 0 0 (Wrong Unordered (AtItem (port_of side) (item_number (own.count + 1)))) →
      SidesStand choose side (Some verdict) own other None (x ++ message ∷ []) z given
  item_refused item verdict is none below verdict_is =
      let stood = uncut cut none s in
      let follows = stood.inputs.own_follows in
      rw verdict_is (meets_end choose good side own own other x z message given isnt
      (ended_item own.ended x message item is told)
      (Wrong Unordered (AtItem (port_of side) (item_number (own.count + 1))))
      (rw is (order_cut (port_of side) x item own.count follows.rises (sym told ∙ isnt)
      (ap (λ l. is_above l (key_of item)) (sym follows.last) ∙ below) follows.count)) turn stood)

  -- a broken end
  pub end_refused : (end : End) → message ≡ Last end → end ≡ Broken → is_some cut ≡ false →
      SidesStand choose side (Some BrokenBefore)
      (record { waiting = own.waiting; last = own.last; count = own.count; ended = true }) other None
      (x ++ message ∷ []) z given
  end_refused end is broken none =
      let stood = uncut cut none s in
      meets_end choose good side own
      (record { waiting = own.waiting; last = own.last; count = own.count; ended = true }) other x z message given isnt
      (ended_end x message end is) Passed
      (rw (is, broken) (broken_cut (port_of side) x stood.inputs.own_follows.rises (sym told ∙ isnt))) turn stood

  -- the end of a whole input
  pub end_taken : (end : End) (ready kept : Option Item) → message ≡ Last end → end ≡ Done → is_some cut ≡ false →
      kept ≡ None → ready ≡ choose None other.waiting → SidesStand choose side cut
      (record { waiting = own.waiting; last = own.last; count = own.count; ended = true })
      (record { waiting = kept; last = other.last; count = other.count; ended = other.ended })
      ready (x ++ message ∷ []) z given
  end_taken end ready kept is done none kept_is ready_is =
      let stood = uncut cut none s in
      rw (is, done) (cut_again cut none (finished choose good side own other x z given isnt
      (turn_is_free side own other x z stood.inputs turn) stood ready kept kept_is ready_is))
