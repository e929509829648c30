-- Machines of two heads keep their rule.
use Rattle.std.proofs.Common.{◌≡◌, ◌⊎◌, inl, inr, ℕ, ◌+◌, List, ◌++◌, length, Bool, true, false, not, ◌&&◌, ◌||◌, cond, Option, Some, None, option_to_list, refl, sym, ap, ◌∙◌}
use Rattle.std.specs.Prelude.{◌≢◌, ◌↔◌, ◌==◌}
use Rattle.std.proofs.lemmas.Bool.{and_from, and_left, and_parts, and_right, cond-true, cond-false, not-true}
use Rattle.std.proofs.lemmas.List.{append-nil}
use Rattle.osm_entity.proofs.PortLemmas.{end_of-none}
use Rattle.osm_entity.specs.Items.{ItemValue as Item}
use Rattle.osm_entity.specs.Meaning.{Finish, Cut, Whole, Passed, Wrong}
use Rattle.osm_entity.specs.Ports.{end_of, has_end, items_of, stream_of}
use Rattle.osm_entity.specs.Streams.{Stream, IsBefore}
use Rattle.osm_entity.specs.Tasks.{verdict_as}
use Rattle.osm_entity.specs.declared.stream.End.TheVariants.{Done, Broken}
use Rattle.osm_entity.specs.declared.stream.Message.{Message}
use Rattle.osm_entity.specs.declared.stream.Want.TheVariants.{Take, Give, Ended}
use Rattle.osm_entity.specs.declared.verdict.Cause.TheVariants.{Unordered}
use Rattle.osm_entity.specs.declared.verdict.Spot.TheVariants.{Item as AtItem}
use Rattle.osm_entity.specs.declared.verdict.Verdict.{Verdict}
use Rattle.osm_entity.specs.declared.verdict.Verdict.TheVariants.{Running}
use Rattle.osm_merge.specs.Heads.{HasTurn, HeadsStand, InputsStand, IsMet, end_after_cut, goes_on, heads_of, heads_verdict, is_cut, least_port, merge_turn}
use Rattle.osm_merge.specs.Rules.{Choice, IsChoice, finish_at, finish_merged, item_number, rising_front, is_behind, is_done, is_rising_from, is_whole, last_key, meets_first, merged}
use Rattle.osm_merge.specs.declared.heads.Head.{Head}
use Rattle.osm_merge.specs.declared.heads.Heads.{Heads}
use Rattle.osm_merge.specs.declared.heads.Side.TheVariants.{First, Second}
use Rattle.osm_merge.proofs.CutLemmas.{cut_short}
use Rattle.osm_merge.proofs.RuleLemmas.{broken_is_short, merged_grows}
use Rattle.osm_merge.proofs.SwapLemmas.{order_swap}
use Rattle.osm_merge.proofs.TakeLemmas.{open_ended, turn_meets, whole_head}
use Rattle.osm_merge.proofs.TwoInputLemmas.{KeepsRuleOfTwo}
use Rattle.osm_merge.proofs.HeadsCalls.{end_closed, give_end, give_port, never_pulls, take_first, take_port, take_second}

-- where both inputs have ended, its end is that of the rule
end_told : (cut : Option Verdict) (first second : Head) (x z : List Message) → first.ended ≡ true →
    second.ended ≡ true → InputsStand First cut first second x z →
    cond (is_whole (stream_of x) && is_whole (stream_of z)) Done Broken ≡ end_after_cut cut
end_told None first second x z e f s = ap (λ b. cond b Done Broken) (and_from (is_whole (stream_of x))
    (is_whole (stream_of z)) (whole_head first x s.own_follows e) (whole_head second z s.other_follows f))
end_told (Some v) first second x z e f s = ap (λ b. cond b Done Broken) (by s.met)
  where
    by : IsMet First x z v ⊎ IsMet Second z x v → (is_whole (stream_of x) && is_whole (stream_of z)) ≡ false
    by (inl met) = and_left (is_whole (stream_of x)) (is_whole (stream_of z)) (cut_short x met.cut)
    by (inr met) = and_right (is_whole (stream_of x)) (is_whole (stream_of z)) (cut_short z met.cut)

verdict_told : (cut : Option Verdict) (first second : Head) (x z : List Message) → first.ended ≡ true →
    second.ended ≡ true → InputsStand First cut first second x z →
    heads_verdict cut true ≡ verdict_as 0 0 (finish_merged (stream_of x) (stream_of z))
verdict_told None first second x z e f s =
    rw (whole_head first x s.own_follows e, whole_head second z s.other_follows f) refl
verdict_told (Some v) first second x z e f s = by s.met
  where
    by : IsMet First x z v ⊎ IsMet Second z x v → v ≡ verdict_as 0 0 (finish_merged (stream_of x) (stream_of z))
    by (inl met) = met.fault ∙ ap (verdict_as 0 0)
        (sym (cond-false (is_whole (stream_of x) && is_whole (stream_of z)) Whole
        (cond (meets_first (stream_of x) (stream_of z)) (finish_at 0 (stream_of x)) (finish_at 1 (stream_of z)))
        (and_left (is_whole (stream_of x)) (is_whole (stream_of z)) (cut_short x met.cut))
        ∙ cond-true (meets_first (stream_of x) (stream_of z)) (finish_at 0 (stream_of x)) (finish_at 1 (stream_of z))
        met.met))
    by (inr met) = met.fault ∙ ap (verdict_as 0 0)
        (sym (cond-false (is_whole (stream_of x) && is_whole (stream_of z)) Whole
        (cond (meets_first (stream_of x) (stream_of z)) (finish_at 0 (stream_of x)) (finish_at 1 (stream_of z)))
        (and_right (is_whole (stream_of x)) (is_whole (stream_of z)) (cut_short z met.cut))
        ∙ cond-false (meets_first (stream_of x) (stream_of z)) (finish_at 0 (stream_of x)) (finish_at 1 (stream_of z))
        met.met))

-- while both inputs go on, no end was met
uncut_by : (r e d : Bool) → (not e && r) ≡ true → (not r || (e && not d)) ≡ true → ⊥
uncut_by true true d on cut = cc
uncut_by true false d on cut = cc
uncut_by false true d on cut = cc
uncut_by false false d on cut = cc

is_uncut : (x : List Message) → goes_on x ≡ true → is_cut x ≡ true → ⊥
is_uncut x on cut = uncut_by (is_rising_from None (items_of x)) (has_end x) (is_done (end_of x)) on cut

meets_by : (s t : Stream) → is_whole s ≡ false → is_whole t ≡ false →
    meets_first s t ≡ is_behind (last_key s) (last_key t)
meets_by s t first second = rw (first, second) refl

open_is_short : (x : List Message) → goes_on x ≡ true → is_whole (stream_of x) ≡ false
open_is_short x on = broken_is_short (stream_of x) (end_of-none x
    (not-true (has_end x) (and_parts (not (has_end x)) (is_rising_from None (items_of x)) on).0))

-- while both inputs go on, it takes from the one whose last key is the least
least_by : (cut : Option Verdict) (first second : Head) (x z : List Message) → InputsStand First cut first second x z →
    goes_on x ≡ true → goes_on z ≡ true → (port : ℕ) →
    ((port ≡ 0) × (first.ended ≡ false) × HasTurn First first second)
    ⊎ ((port ≡ 1) × (second.ended ≡ false) × HasTurn Second second first) → (port == least_port x z) ≡ true
least_by (Some v) first second x z s on_x on_z port turn = absurd (by s.met)
  where
    by : IsMet First x z v ⊎ IsMet Second z x v → ⊥
    by (inl met) = is_uncut x on_x met.cut
    by (inr met) = is_uncut z on_z met.cut
least_by None first second x z s on_x on_z port (inl (is, isnt, turn)) =
    let behind : is_behind (last_key (stream_of x)) (last_key (stream_of z)) ≡ true =
    sym (meets_by (stream_of x) (stream_of z) (open_is_short x on_x) (open_is_short z on_z))
    ∙ turn_meets First first second x z s isnt turn in
    rw (is, behind) refl
least_by None first second x z s on_x on_z port (inr (is, isnt, turn)) =
    let behind : is_behind (last_key (stream_of x)) (last_key (stream_of z)) ≡ false =
    sym (meets_by (stream_of x) (stream_of z) (open_is_short x on_x) (open_is_short z on_z))
    ∙ turn_meets Second second first z x (order_swap first second x z s) isnt turn in
    rw (is, behind) refl

turn_by : (x z : List Message) (port : ℕ) (b : Bool) → (goes_on x && goes_on z) ≡ b →
    (b ≡ true → (port == least_port x z) ≡ true) → merge_turn x z port ≡ true
turn_by x z port true is least = rw is (least refl)
turn_by x z port false is least = rw is refl

-- no task that has ended runs
never_running : (finish : Finish) → verdict_as 0 0 finish ≢ Running
never_running Whole = λ is. cc
never_running Passed = λ is. cc
never_running Cut = λ is. cc
never_running (Wrong cause spot) = λ is. cc

one_of : (a b : Bool) (f g : Finish) → f ≢ Cut → g ≢ Cut → cond a Whole (cond b f g) ≢ Cut
one_of true b f g first second = λ is. cc
one_of false true f g first second = first
one_of false false f g first second = second

never_cut_at : (port : ℕ) (s : Stream) → finish_at port s ≢ Cut
never_cut_at port s = by (is_rising_from None s.items)
  where
    by : (b : Bool) → cond b Passed (Wrong Unordered (AtItem port (item_number (length (rising_front s) + 1)))) ≢ Cut
    by true = λ is. cc
    by false = λ is. cc

stream_by : (y : List Message) (s : Stream) → items_of y ≡ s.items → end_of y ≡ s.end → stream_of y ≡ s
stream_by y s items end = λ i. record { items = items i; end = end i }

module _ {C : Type 0} (chosen : C → Choice) (good : (c : C) → IsChoice (chosen c)) (m : Heads C) (x z y : List Message)
    (s : HeadsStand chosen m x z y) where
  ends_told : (m.first.ended ≡ has_end x) × (m.second.ended ≡ has_end z)
  ends_told = open_ended First m.cut m.first m.second x z s.sides.inputs

  closed_is : m.closed ≡ true → stream_of y ≡ merged (chosen m.chooser) (stream_of x) (stream_of z)
  closed_is closed =
      let all = s.closed closed in
      stream_by y (merged (chosen m.chooser) (stream_of x) (stream_of z))
      (sym (s.sides.gave ∙ ap (λ r. items_of y ++ option_to_list r) all.2 ∙ append-nil (items_of y)))
      (all.3 ∙ sym (end_told m.cut m.first m.second x z all.0 all.1 s.sides.inputs))

  done_closed : (b : Bool) → has_end y ≡ b → end_of y ≡ Done → m.closed ≡ true
  done_closed true is done = s.told ∙ is
  done_closed false is done = absurd (let broken : end_of y ≡ Broken = end_of-none y is in cc)

  is_before : IsBefore (stream_of y) (merged (chosen m.chooser) (stream_of x) (stream_of z))
  is_before = record {
    items = record { rest = option_to_list m.ready; joined = s.sides.gave };
    done = λ done. closed_is (done_closed (has_end y) refl done);
  }

  closed_wants : m.closed ≡ true → (heads_of chosen).wanted m ≡ Ended
  closed_wants closed = rw ((s.closed closed).2, closed) refl

  all_ended : (heads_of chosen).wanted m ≡ Ended → (has_end x ≡ true) × (has_end z ≡ true) × (has_end y ≡ true)
  all_ended want =
      let closed = end_closed m.ready m.closed m.first.ended m.second.ended m.first.waiting want in
      let all = s.closed closed in
      (sym ends_told.0 ∙ all.0, sym ends_told.1 ∙ all.1, sym s.told ∙ closed)

  is_judged : (heads_of chosen).wanted m ≡ Ended →
      heads_verdict m.cut m.closed ≡ verdict_as 0 0 (finish_merged (stream_of x) (stream_of z))
  is_judged want =
      let closed = end_closed m.ready m.closed m.first.ended m.second.ended m.first.waiting want in
      let all = s.closed closed in
      ap (heads_verdict m.cut) closed ∙ verdict_told m.cut m.first m.second x z all.0 all.1 s.sides.inputs

  takes_at : (port : ℕ) → (heads_of chosen).wanted m ≡ Take port →
      ((port ≡ 0) × (has_end x ≡ false)) ⊎ ((port ≡ 1) × (has_end z ≡ false))
  takes_at port want = by (take_port m.ready m.closed m.first.ended m.second.ended m.first.waiting port want)
    where
      by : (port ≡ 0) ⊎ (port ≡ 1) → ((port ≡ 0) × (has_end x ≡ false)) ⊎ ((port ≡ 1) × (has_end z ≡ false))
      by (inl is) = inl (
        is,
        sym ends_told.0 ∙ (take_first m.ready m.closed m.first.ended m.second.ended
            m.first.waiting (want ∙ ap Take is)).2,
      )
      by (inr is) = inr (
        is,
        sym ends_told.1 ∙ (take_second m.ready m.closed m.first.ended m.second.ended
            m.first.waiting (want ∙ ap Take is)).2,
      )

  gave_all : (port : ℕ) → (heads_of chosen).wanted m ≡ Take port →
      items_of y ≡ (merged (chosen m.chooser) (stream_of x) (stream_of z)).items
  gave_all port want = sym (s.sides.gave ∙ ap (λ r. items_of y ++ option_to_list r) none ∙ append-nil (items_of y))
    where
      by : (port ≡ 0) ⊎ (port ≡ 1) → m.ready ≡ None
      by (inl is) = (take_first m.ready m.closed m.first.ended m.second.ended m.first.waiting (want ∙ ap Take is)).0
      by (inr is) = (take_second m.ready m.closed m.first.ended m.second.ended m.first.waiting (want ∙ ap Take is)).0

      none : m.ready ≡ None
      none = by (take_port m.ready m.closed m.first.ended m.second.ended m.first.waiting port want)

  gives_at : (port : ℕ) → (heads_of chosen).wanted m ≡ Give port → (port ≡ 0) × (has_end y ≡ false)
  gives_at port want = (
    give_port m.ready m.closed m.first.ended m.second.ended m.first.waiting port want,
    sym s.told ∙ open_by m.ready m.closed refl refl,
  )
    where
      open_by : (ready : Option Item) (closed : Bool) → m.ready ≡ ready → m.closed ≡ closed → m.closed ≡ false
      open_by (Some r) true is closed = absurd (let none = (s.closed closed).2 in cc)
      open_by (Some r) false is closed = closed
      open_by None b is closed =
          (give_end m.ready m.closed m.first.ended m.second.ended m.first.waiting port is want).0

  runs : (heads_verdict m.cut m.closed ≡ Running) ↔ ((heads_of chosen).wanted m ≢ Ended)
  runs = (by_verdict, by_want m.closed refl)
    where
      by_verdict : heads_verdict m.cut m.closed ≡ Running → (heads_of chosen).wanted m ≢ Ended
      by_verdict running want =
          never_running (finish_merged (stream_of x) (stream_of z)) (sym (is_judged want) ∙ running)

      by_want : (closed : Bool) → m.closed ≡ closed → (heads_of chosen).wanted m ≢ Ended →
          heads_verdict m.cut m.closed ≡ Running
      by_want true is on = absurd (on (closed_wants is))
      by_want false is on = ap (heads_verdict m.cut) is

  turn_is : (port : ℕ) → (heads_of chosen).wanted m ≡ Take port → merge_turn x z port ≡ true
  turn_is port want = turn_by x z port (goes_on x && goes_on z) refl (λ both.
      let on = and_parts (goes_on x) (goes_on z) both in
      least_by m.cut m.first m.second x z s.sides.inputs on.0 on.1 port
      (by (take_port m.ready m.closed m.first.ended m.second.ended m.first.waiting port want)))
    where
      by : (port ≡ 0) ⊎ (port ≡ 1) → ((port ≡ 0) × (m.first.ended ≡ false) × HasTurn First m.first m.second)
          ⊎ ((port ≡ 1) × (m.second.ended ≡ false) × HasTurn Second m.second m.first)
      by (inl is) =
          let free = take_first m.ready m.closed m.first.ended m.second.ended m.first.waiting (want ∙ ap Take is) in
          inl (is, free.2, free.3)
      by (inr is) =
          let free = take_second m.ready m.closed m.first.ended m.second.ended m.first.waiting (want ∙ ap Take is) in
          inr (is, free.2, free.3)

-- machines of two heads keep their rule
pub heads_keep : {C : Type 0} (chosen : C → Choice) → ((c : C) → IsChoice (chosen c)) →
    KeepsRuleOfTwo (heads_of chosen)
heads_keep chosen good = record {
  before = λ m x z y s. is_before chosen good m x z y s;
  ended = λ m x z y s want. all_ended chosen good m x z y s want;
  whole = λ m x z y s want. closed_is chosen good m x z y s
      (end_closed m.ready m.closed m.first.ended m.second.ended m.first.waiting want);
  judged = λ m x z y s want. is_judged chosen good m x z y s want;
  takes = λ m x z y port s want. takes_at chosen good m x z y s port want;
  turns = λ m x z y port s want. turn_is chosen good m x z y s port want;
  given = λ m x z y port s want. gave_all chosen good m x z y s port want;
  hands = λ m x z y port s want. gives_at chosen good m x z y s port want;
  running = λ m x z y s. runs chosen good m x z y s;
  never_pulls = λ m. never_pulls m.ready m.closed m.first.ended m.second.ended m.first.waiting;
  never_cut = λ m s t. one_of (is_whole s && is_whole t) (meets_first s t) (finish_at 0 s) (finish_at 1 t)
      (never_cut_at 0 s) (never_cut_at 1 t);
  monotone = λ m. merged_grows (chosen m.chooser) (good m.chooser);
}
