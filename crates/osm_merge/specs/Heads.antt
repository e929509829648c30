-- When a machine of two heads stands for what it took and gave.
-- Here all that the machine took and gave is known; the code has at most one item of each input in hand.
use Rattle.std.specs.Prelude.{◌≡◌, ◌⊎◌, ℕ, ◌+◌, ◌==◌, List, ◌++◌, length, Bool, true, false, not, ◌&&◌, ◌||◌, if◌then◌else◌, Option, Some, None, is_some, option_to_list}
use Rattle.osm_entity.specs.Items.{ItemValue, key_of}
use Rattle.osm_entity.specs.Ports.{items_of, end_of, has_end, stream_of}
use Rattle.osm_entity.specs.Streams.{Stream}
use Rattle.osm_entity.specs.Tasks.{verdict_as}
use Rattle.osm_entity.specs.declared.kind.Key.{Key}
use Rattle.osm_entity.specs.declared.stream.End.{End}
use Rattle.osm_entity.specs.declared.stream.End.TheVariants.{Done, Broken}
use Rattle.osm_entity.specs.declared.stream.Message.{Message}
use Rattle.osm_entity.specs.declared.stream.Want.{Want}
use Rattle.osm_entity.specs.declared.stream.Want.TheVariants.{Take, Give, Ended}
use Rattle.osm_entity.specs.declared.verdict.Verdict.{Verdict}
use Rattle.osm_entity.specs.declared.verdict.Verdict.TheVariants.{Running, Clean}
use Rattle.osm_merge.specs.Rules.{Choice, item_at, is_above, is_rising_from, is_done, last_key, last_key_from, is_behind, item_number, meets_first, finish_at, finish_merged, merged}
use Rattle.osm_merge.specs.TwoInputs.{TwoInputs}
use Rattle.osm_merge.specs.declared.heads.Head.{Head}
use Rattle.osm_merge.specs.declared.heads.Heads.{Heads}
use Rattle.osm_merge.specs.declared.heads.Side.{Side}
use Rattle.osm_merge.specs.declared.heads.Side.TheVariants.{First, Second}

-- ---- what a machine wants and says

-- the port at which it takes: input 1 where input 0 has ended, or has an item that waits for it
abbrev pub next_port : Bool → Bool → Option ItemValue → ℕ
next_port first_ended second_ended waiting = if first_ended || not second_ended && is_some waiting then 1 else 0

-- it gives what is ready, and its end once both inputs have theirs; else it takes
abbrev pub heads_want : Option ItemValue → Bool → Bool → Bool → Option ItemValue → Want
heads_want ready closed first_ended second_ended waiting =
    if is_some ready then Give 0 else if closed then Ended
    else if first_ended && second_ended then Give 0 else Take (next_port first_ended second_ended waiting)

-- its verdict: running until it gave its end, and then Clean unless an end was met
abbrev pub heads_verdict : Option Verdict → Bool → Verdict
heads_verdict cut false = Running
heads_verdict None true = Clean
heads_verdict (Some verdict) true = verdict

-- the end that it gives: Broken where an end was met
abbrev pub end_after_cut : Option Verdict → End
end_after_cut None = Done
end_after_cut (Some verdict) = Broken

-- ---- what it stands for

-- an input that is in order so far: its head has its last key, its number of items and its end, which is Done
pub record Follows (head : Head) (x : List Message) : Type 0 where
  pub rises : is_rising_from None (items_of x) ≡ true
  pub last : head.last ≡ last_key_from None (items_of x)
  pub count : head.count ≡ item_number (length (items_of x))
  pub ended : head.ended ≡ has_end x
  pub done : head.ended ≡ true → end_of x ≡ Done

-- an input in order is known at a key: at each where it has ended, else up to its last
abbrev pub head_reaches : Head → Key → Bool
head_reaches head key = head.ended || not (is_above head.last key)

-- an item that waits is the last of its input, and the other isn't known there; where none waits, it is known
abbrev pub IsLevel : Option ItemValue → Option Key → (Key → Bool) → Type 0
IsLevel None last reached = (key : Key) → last ≡ Some key → reached key ≡ true
IsLevel (Some item) last reached = (last ≡ Some (key_of item)) × (reached (key_of item) ≡ false)

-- what waits of an input is all that it has where the other isn't known
pub record Waits (waiting : Option ItemValue) (last : Option Key) (reached : Key → Bool) (items : List ItemValue) :
    Type 0 where
  pub level : IsLevel waiting last reached
  pub beyond : (key : Key) → reached key ≡ false → item_at key items ≡ item_at key (option_to_list waiting)

-- both inputs are in order, and nothing waits of one that has ended
pub record InOrder (own other : Head) (x z : List Message) : Type 0 where
  pub own_follows : Follows own x
  pub other_follows : Follows other z
  pub own_waits : Waits own.waiting own.last (head_reaches other) (items_of x)
  pub other_waits : Waits other.waiting other.last (head_reaches own) (items_of z)
  pub own_free : own.ended ≡ true → own.waiting ≡ None
  pub other_free : other.ended ≡ true → other.waiting ≡ None

-- an input after which nothing counts: an item of it was out of order, or it ended Broken
abbrev pub is_cut : List Message → Bool
is_cut x = not (is_rising_from None (items_of x)) || has_end x && not (is_done (end_of x))

-- the number of an input's port
abbrev pub port_of : Side → ℕ
port_of First = 0
port_of Second = 1

-- the other input
abbrev pub opposite : Side → Side
opposite First = Second
opposite Second = First

-- the end that is met is that of the input at this side, whose stream comes first
abbrev pub MeetsEnd : Side → Stream → Stream → Type 0
MeetsEnd First own other = meets_first own other ≡ true
MeetsEnd Second own other = meets_first other own ≡ false

-- the end of an input was met, and the verdict is the one that this end gives
pub record IsMet (side : Side) (x z : List Message) (verdict : Verdict) : Type 0 where
  pub cut : is_cut x ≡ true
  pub met : MeetsEnd side (stream_of x) (stream_of z)
  pub fault : verdict ≡ verdict_as 0 0 (finish_at (port_of side) (stream_of x))

-- an end was met: the inputs are taken to their ends
pub record CutShort (side : Side) (own other : Head) (verdict : Verdict) (x z : List Message) : Type 0 where
  pub own_ended : own.ended ≡ has_end x
  pub other_ended : other.ended ≡ has_end z
  pub met : IsMet side x z verdict ⊎ IsMet (opposite side) z x verdict

-- what the inputs stand for, by whether an end was met
abbrev pub InputsStand : Side → Option Verdict → Head → Head → List Message → List Message → Type 0
InputsStand side None own other x z = InOrder own other x z
InputsStand side (Some verdict) own other x z = CutShort side own other verdict x z

-- seen from one input: both stand so, and what they fix together is what was given and then what is ready
pub record SidesStand (choose : Choice) (side : Side) (cut : Option Verdict) (own other : Head)
    (ready : Option ItemValue) (x z : List Message) (given : List ItemValue) : Type 0 where
  pub inputs : InputsStand side cut own other x z
  pub gave : (merged choose (stream_of x) (stream_of z)).items ≡ given ++ option_to_list ready

-- a machine gave all that its inputs fix but what is ready, and its end only once both have theirs
pub record HeadsStand {C : Type 0} (chosen : C → Choice) (m : Heads C) (x z y : List Message) : Type 0 where
  pub sides : SidesStand (chosen m.chooser) First m.cut m.first m.second m.ready x z (items_of y)
  pub told : m.closed ≡ has_end y
  pub closed : m.closed ≡ true →
      (m.first.ended ≡ true) × (m.second.ended ≡ true) × (m.ready ≡ None) × (end_of y ≡ end_after_cut m.cut)

-- it is the turn of an input: the other has ended; or, seen from input 0, nothing of it waits; or, seen from input 1,
-- something of input 0 waits for it
abbrev pub HasTurn : Side → Head → Head → Type 0
HasTurn First own other = (other.ended ≡ true) ⊎ (own.waiting ≡ None)
HasTurn Second own other = (other.ended ≡ true) ⊎ (is_some other.waiting ≡ true)

-- ---- from which port it takes

-- an input goes on: it has no end so far, and all its keys rise
abbrev pub goes_on : List Message → Bool
goes_on x = not (has_end x) && is_rising_from None (items_of x)

-- the port whose last key is the least; one without a key is before all, and port 0 comes first on a tie
abbrev pub least_port : List Message → List Message → ℕ
least_port x z = if is_behind (last_key (stream_of x)) (last_key (stream_of z)) then 0 else 1

-- while both inputs go on, a merge takes from the one whose last key is the least
abbrev pub merge_turn : List Message → List Message → ℕ → Bool
merge_turn x z port = if goes_on x && goes_on z then port == least_port x z else true

-- ---- the machine

-- 1 where something is so, else 0
abbrev pub one_if : Bool → ℕ
one_if true = 1
one_if false = 0

-- machines of two heads that choose so: what is left to one is the item that is ready, and its end
abbrev pub heads_of : {C : Type 0} → (C → Choice) → TwoInputs (Heads C)
heads_of chosen = record {
  rule = λ m. merged (chosen m.chooser);
  finish = λ m. finish_merged;
  stands = HeadsStand chosen;
  turn = merge_turn;
  wanted = λ m. heads_want m.ready m.closed m.first.ended m.second.ended m.first.waiting;
  verdict = λ m. heads_verdict m.cut m.closed;
  left = λ m. one_if (is_some m.ready) + one_if (not m.closed);
}
