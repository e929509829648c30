-- Lemmas on the calls of machines of two heads: what they want, and what a message does.
use Rattle.std.proofs.Common.{◌≡◌, ◌⊎◌, inl, inr, ℕ, ◌+◌, ◌≤◌, ◌<◌, List, [], ◌∷◌, ◌++◌, Bool, true, false, not, Option, Some, None, refl, sym, ◌∙◌, arith}
use Rattle.std.specs.Prelude.{◌≢◌, is_some}
use Rattle.std.proofs.lemmas.List.{append-nil}
use Rattle.osm_entity.proofs.PortLemmas.{items_of-item, items_of-end, has_end-item, has_end-end, end_of-end}
use Rattle.osm_entity.specs.Items.{ItemValue as Item}
use Rattle.osm_entity.specs.Ports.{items_of}
use Rattle.osm_entity.specs.declared.stream.End.{End}
use Rattle.osm_entity.specs.declared.stream.Message.{Message}
use Rattle.osm_entity.specs.declared.stream.Message.TheVariants.{Item as One, End as Last}
use Rattle.osm_entity.specs.declared.stream.Want.TheVariants.{Pull, Take, Give, Ended}
use Rattle.osm_entity.specs.declared.verdict.Verdict.{Verdict}
use Rattle.osm_merge.specs.Choices.{seen_from}
use Rattle.osm_merge.specs.Heads.{HasTurn, HeadsStand, SidesStand, end_after_cut, heads_of, heads_want, one_if}
use Rattle.osm_merge.specs.Rules.{Choice, IsChoice}
use Rattle.osm_merge.specs.declared.heads.Head.{Head}
use Rattle.osm_merge.specs.declared.heads.Heads.{Heads}
use Rattle.osm_merge.specs.declared.heads.Side.TheVariants.{First, Second}
use Rattle.osm_merge.proofs.SwapLemmas.{sides_back, sides_swap}

-- ---- what it wants

-- where it takes: nothing is ready, and it is the turn of that input
pub take_first : (ready : Option Item) (closed a b : Bool) (waiting : Option Item) →
    heads_want ready closed a b waiting ≡ Take 0 →
    (ready ≡ None) × (closed ≡ false) × (a ≡ false) × ((b ≡ true) ⊎ (waiting ≡ None))
take_first (Some r) closed a b w want = absurd cc
take_first None true a b w want = absurd cc
take_first None false true true w want = absurd cc
take_first None false true false w want = absurd cc
take_first None false false true w want = (refl, refl, refl, inl refl)
take_first None false false false None want = (refl, refl, refl, inr refl)
take_first None false false false (Some i) want = absurd cc

pub take_second : (ready : Option Item) (closed a b : Bool) (waiting : Option Item) →
    heads_want ready closed a b waiting ≡ Take 1 →
    (ready ≡ None) × (closed ≡ false) × (b ≡ false) × ((a ≡ true) ⊎ (is_some waiting ≡ true))
take_second (Some r) closed a b w want = absurd cc
take_second None true a b w want = absurd cc
take_second None false true true w want = absurd cc
take_second None false true false w want = (refl, refl, refl, inl refl)
take_second None false false true w want = absurd cc
take_second None false false false None want = absurd cc
take_second None false false false (Some i) want = (refl, refl, refl, inr refl)

pub take_port : (ready : Option Item) (closed a b : Bool) (waiting : Option Item) (port : ℕ) →
    heads_want ready closed a b waiting ≡ Take port → (port ≡ 0) ⊎ (port ≡ 1)
take_port (Some r) closed a b w port want = absurd cc
take_port None true a b w port want = absurd cc
take_port None false true true w port want = absurd cc
take_port None false true false w port want = inr cc
take_port None false false true w port want = inl cc
take_port None false false false None port want = inl cc
take_port None false false false (Some i) port want = inr cc

pub give_port : (ready : Option Item) (closed a b : Bool) (waiting : Option Item) (port : ℕ) →
    heads_want ready closed a b waiting ≡ Give port → port ≡ 0
give_port (Some r) closed a b w port want = cc
give_port None true a b w port want = absurd cc
give_port None false true true w port want = cc
give_port None false true false w port want = absurd cc
give_port None false false true w port want = absurd cc
give_port None false false false w port want = absurd cc

-- where nothing is ready it gives its end, behind those of both inputs
pub give_end : (ready : Option Item) (closed a b : Bool) (waiting : Option Item) (port : ℕ) → ready ≡ None →
    heads_want ready closed a b waiting ≡ Give port → (closed ≡ false) × (a ≡ true) × (b ≡ true)
give_end (Some r) closed a b w port none want = absurd cc
give_end None true a b w port none want = absurd cc
give_end None false true true w port none want = (refl, refl, refl)
give_end None false true false w port none want = absurd cc
give_end None false false true w port none want = absurd cc
give_end None false false false w port none want = absurd cc

pub end_closed : (ready : Option Item) (closed a b : Bool) (waiting : Option Item) →
    heads_want ready closed a b waiting ≡ Ended → closed ≡ true
end_closed (Some r) closed a b w want = absurd cc
end_closed None true a b w want = refl
end_closed None false true true w want = absurd cc
end_closed None false true false w want = absurd cc
end_closed None false false true w want = absurd cc
end_closed None false false false w want = absurd cc

pub never_pulls : (ready : Option Item) (closed a b : Bool) (waiting : Option Item) →
    heads_want ready closed a b waiting ≢ Pull
never_pulls (Some r) closed a b w = λ want. cc
never_pulls None true a b w = λ want. cc
never_pulls None false true true w = λ want. cc
never_pulls None false true false w = λ want. cc
never_pulls None false false true w = λ want. cc
never_pulls None false false false w = λ want. cc

-- ---- its calls

module _ {C : Type 0} (chosen : C → Choice) (good : (c : C) → IsChoice (chosen c)) (m : Heads C) where
  closes : (was : Bool) → was ≡ false → {P : Type 0} → was ≡ true → P
  closes true is is_closed = absurd cc
  closes false is is_closed = absurd cc

  ready_none : (ready : Option Item) (cut : Option Verdict) (x z : List Message) (given : List Item) → ready ≡ None →
      SidesStand (chosen m.chooser) First cut m.first m.second ready x z given →
      SidesStand (chosen m.chooser) First cut m.first m.second None x z given
  ready_none None cut x z given is s = s
  ready_none (Some r) cut x z given is s = absurd cc

  -- a port that isn't the first is the second
  pub second_port : (port : ℕ) → (heads_of chosen).wanted m ≡ Take port → (port ≡ 0 → ⊥) → port ≡ 1
  second_port port want other = by (take_port m.ready m.closed m.first.ended m.second.ended m.first.waiting port want)
    where
      by : (port ≡ 0) ⊎ (port ≡ 1) → port ≡ 1
      by (inl is) = absurd (other is)
      by (inr is) = is

  -- a message was taken at input 0
  pub first_taken : (message : Message) (own other : Head) (ready : Option Item) (cut : Option Verdict) →
      (heads_of chosen).wanted m ≡ Take 0 →
      ((x z : List Message) (given : List Item) → m.first.ended ≡ false → HasTurn First m.first m.second →
      SidesStand (seen_from First (chosen m.chooser)) First m.cut m.first m.second None x z given →
      SidesStand (seen_from First (chosen m.chooser)) First cut own other ready (x ++ message ∷ []) z given) →
      (x z y : List Message) → HeadsStand chosen m x z y →
      HeadsStand chosen (record {
        chooser = m.chooser;
        first = own;
        second = other;
        ready = ready;
        cut = cut;
        closed = m.closed;
      }) (x ++ message ∷ []) z y
  first_taken message own other ready cut want step x z y s =
      let free = take_first m.ready m.closed m.first.ended m.second.ended m.first.waiting want in
      record {
        sides = step x z (items_of y) free.2 free.3 (ready_none m.ready m.cut x z (items_of y) free.0 s.sides);
        told = s.told;
        closed = closes m.closed free.1;
      }

  -- a message was taken at input 1
  pub second_taken : (message : Message) (own other : Head) (ready : Option Item) (cut : Option Verdict) →
      (heads_of chosen).wanted m ≡ Take 1 →
      ((x z : List Message) (given : List Item) → m.second.ended ≡ false → HasTurn Second m.second m.first →
      SidesStand (seen_from Second (chosen m.chooser)) Second m.cut m.second m.first None x z given →
      SidesStand (seen_from Second (chosen m.chooser)) Second cut own other ready (x ++ message ∷ []) z given) →
      (x z y : List Message) → HeadsStand chosen m x z y →
      HeadsStand chosen (record {
        chooser = m.chooser;
        first = other;
        second = own;
        ready = ready;
        cut = cut;
        closed = m.closed;
      }) x (z ++ message ∷ []) y
  second_taken message own other ready cut want step x z y s =
      let free = take_second m.ready m.closed m.first.ended m.second.ended m.first.waiting want in
      record {
        sides = sides_back (chosen m.chooser) (good m.chooser) cut other own ready x (z ++ message ∷ []) (items_of y)
            (step z x (items_of y) free.2 free.3
            (sides_swap (chosen m.chooser) (good m.chooser) m.cut m.first m.second None x z (items_of y)
            (ready_none m.ready m.cut x z (items_of y) free.0 s.sides)));
        told = s.told;
        closed = closes m.closed free.1;
      }

  -- it has no more left than one message more
  pub left_taken : (ready : Option Item) → (closed : Bool) → one_if (is_some ready) + one_if (not closed)
      ≤ (one_if (is_some m.ready) + one_if (not closed)) + 1
  left_taken None closed = omega arith
  left_taken (Some r) closed = omega arith

  still_open : (item : Item) (closed : Bool) (x z y : List Message) → m.ready ≡ Some item → HeadsStand chosen m x z y →
      m.closed ≡ closed → closed ≡ false
  still_open item true x z y is s e = let none = (s.closed e).2 in absurd cc
  still_open item false x z y is s e = refl

  -- the item that was ready was given
  pub item_given : (item : Item) (kept : Option Item) → m.ready ≡ Some item → kept ≡ None →
      (x z y : List Message) → HeadsStand chosen m x z y →
      HeadsStand chosen (record {
        chooser = m.chooser;
        first = m.first;
        second = m.second;
        ready = kept;
        cut = m.cut;
        closed = m.closed;
      }) x z (y ++ One item ∷ [])
  item_given item kept is kept_is x z y s =
      let going : m.closed ≡ false = still_open item m.closed x z y is s refl in
      let items : items_of (y ++ One item ∷ []) ≡ items_of y ++ item ∷ [] = items_of-item y item (sym s.told ∙ going) in
      record {
        sides = record {
          inputs = s.sides.inputs;
          gave = s.sides.gave ∙ rw (is, kept_is, items) (sym (append-nil (items_of y ++ item ∷ [])));
        };
        told = s.told ∙ sym (has_end-item y item);
        closed = closes m.closed going;
      }

  -- its end was given
  pub end_given : (end : End) (kept : Option Item) (port : ℕ) → (heads_of chosen).wanted m ≡ Give port →
      m.ready ≡ None → kept ≡ None → end ≡ end_after_cut m.cut →
      (x z y : List Message) → HeadsStand chosen m x z y →
      HeadsStand chosen (record {
        chooser = m.chooser;
        first = m.first;
        second = m.second;
        ready = kept;
        cut = m.cut;
        closed = true;
      }) x z (y ++ Last end ∷ [])
  end_given end kept port want none kept_is end_is x z y s =
      let free = give_end m.ready m.closed m.first.ended m.second.ended m.first.waiting port none want in
      let items : items_of (y ++ Last end ∷ []) ≡ items_of y = items_of-end y end in
      record {
        sides = record { inputs = s.sides.inputs; gave = s.sides.gave ∙ rw (none, kept_is, items) refl };
        told = sym (has_end-end y end);
        closed = λ closed. (free.1, free.2, kept_is, end_of-end y end (sym s.told ∙ free.0) ∙ end_is);
      }

  pub left_given : (item : Item) (kept : Option Item) → m.ready ≡ Some item → kept ≡ None →
      one_if (is_some kept) + one_if (not m.closed) < one_if (is_some m.ready) + one_if (not m.closed)
  left_given item kept is kept_is = rw (is, kept_is) (omega arith)

  pub left_ended : (kept : Option Item) (port : ℕ) → (heads_of chosen).wanted m ≡ Give port → m.ready ≡ None →
      kept ≡ None → one_if (is_some kept) + 0 < one_if (is_some m.ready) + one_if (not m.closed)
  left_ended kept port want none kept_is =
      let free = give_end m.ready m.closed m.first.ended m.second.ended m.first.waiting port none want in
      rw (none, kept_is, free.0) (omega arith)
