-- The machine that passes its items on keeps its rule, call by call.
use Rattle.std.proofs.Common.{◌≡◌, ℕ, ◌<◌, ◌≤◌, List, [], ◌∷◌, ◌++◌, length, Bool, true, false, Option, Some, None, option_to_list, refl, sym, ap, ◌∙◌, arith, map, cond, subst}
use Rattle.std.specs.Prelude.{◌≢◌, ◌↔◌, if◌then◌else◌, fold}
use Rattle.std.proofs.lemmas.Grind.{fold-append}
use Rattle.std.proofs.lemmas.List.{append-nil}
use Rattle.osm_area.specs.declared.area.Area.{Area}
use Rattle.osm_entity.specs.Calls.{StopsInTake, Takes}
use Rattle.osm_entity.specs.Items.{ItemValue, kind_of}
use Rattle.osm_entity.specs.OneInput.{GivesAtOnce, KeepsItsRule, meanings_of}
use Rattle.osm_entity.specs.Ports.{end_of, fixed, has_end, items_of, stream_of, streams}
use Rattle.osm_entity.specs.Streams.{IsBefore, Stream}
use Rattle.osm_entity.specs.Tasks.{verdict_as}
use Rattle.osm_entity.specs.declared.kind.Kind.{Kind}
use Rattle.osm_entity.specs.declared.stream.End.{End}
use Rattle.osm_entity.specs.declared.stream.End.TheVariants.{Broken}
use Rattle.osm_entity.specs.declared.stream.Message.{Message}
use Rattle.osm_entity.specs.declared.stream.Message.TheVariants.{Item as One, End as Last}
use Rattle.osm_entity.specs.declared.stream.Want.TheVariants.{Pull, Take, Give, Ended}
use Rattle.osm_entity.specs.declared.verdict.Verdict.TheVariants.{Running, Memory}
use Rattle.osm_entity.proofs.GrowthLemmas.{fixed-item, fixed-last, monotone}
use Rattle.osm_entity.proofs.OneInputLemmas.{takes_by}
use Rattle.osm_entity.proofs.PortLemmas.{end_of-end, end_of-none, fixed_before, has_end-end, has_end-fixed, has_end-item, items_of-end, items_of-fixed, items_of-item, none_before, prefix_before, stream_of-fixed}
use Rattle.osm_entity.proofs.StreamLemmas.{before_onward}
use Rattle.osm_select.specs.Kept.{sets_of}
use Rattle.osm_select.specs.Kinds.{are_kinds_ordered, area_finish}
use Rattle.osm_select.specs.Order.{Admits, IsOrderOf, end_after}
use Rattle.osm_select.specs.Parts.{Sets}
use Rattle.osm_select.specs.Passed.{item_given, kept_after, nothing_kept, stream_passed}
use Rattle.osm_select.specs.Passing.{PassingStands, passing, passing_ran, passing_verdict, passing_wants}
use Rattle.osm_select.specs.declared.keys.Keys.{Keys}
use Rattle.osm_select.specs.declared.order.Order.{Order}
use Rattle.osm_select.specs.declared.passing.Passing.{Passing}
use Rattle.osm_select.proofs.OrderLemmas.{end_known, faultless_orders, finish_known, never_cut, not_running, ordered_is_faultless}
use Rattle.osm_select.proofs.PassedLemmas.{passed_grows, stream_passed-ends}

-- ---- what it stands for

abbrev met_end : List Message → Option End
met_end x = if has_end x then Some (end_of x) else None

came : (b : Bool) (e f : End) → Some f ≡ (if b then Some e else None) → (b ≡ true) × (e ≡ f)
came true e f is = (refl, cc)
came false e f is = absurd cc

none_came : (b : Bool) (e : End) → None ≡ (if b then Some e else None) → b ≡ false
none_came true e is = absurd cc
none_came false e is = refl

-- where it holds nothing, it gave all that its rule fixes
gave_all : (s : Stream) (held : Option Message) (x y : List Message) → held ≡ None →
    fixed (has_end x) s ≡ y ++ option_to_list held → fixed (has_end x) s ≡ y
gave_all s held x y none given = given ∙ ap (λ h. y ++ option_to_list h) none ∙ append-nil y

both_broken : (b : Bool) (end : End) → end ≡ Broken → cond b end Broken ≡ Broken
both_broken true end is = is
both_broken false end is = refl

ends_broken : (area : Area) (clip : Bool) (x : List Message) → has_end x ≡ false →
    (stream_passed area clip (stream_of x)).end ≡ Broken
ends_broken area clip x none = stream_passed-ends area clip (stream_of x)
    ∙ both_broken (are_kinds_ordered 0 (items_of x)) (end_of x) (end_of-none x none)

before : (p : Passing) (x y : List Message) → PassingStands p x y →
    IsBefore (stream_of y) (stream_passed p.area p.clip (stream_of x))
before p x y s = fixed_before y (option_to_list p.held) (stream_passed p.area p.clip (stream_of x))
    (has_end x) s.given
    (ends_broken p.area p.clip x)

ends : (p : Passing) (held : Option Message) (end : Option End) (x y : List Message) → p.held ≡ held → p.end ≡ end →
    PassingStands p x y → passing_wants held end ≡ Ended →
    (has_end x ≡ true) × (has_end y ≡ true) × (stream_of y ≡ stream_passed p.area p.clip (stream_of x))
    × (passing_ran p.order held end ≡ verdict_as 0 0 (area_finish (stream_of x)))
ends p (Some message) end x y holds met s w = absurd cc
ends p None None x y holds met s w = absurd cc
ends p None (Some e) x y holds met s w =
    let rule = stream_passed p.area p.clip (stream_of x) in
    let over = came (has_end x) (end_of x) e (sym met ∙ s.met) in
    let all : fixed (has_end x) rule ≡ y = gave_all rule p.held x y holds s.given in
    let whole : fixed true rule ≡ y = ap (λ b. fixed b rule) (sym over.0) ∙ all in (
      over.0,
      ap has_end (sym whole) ∙ has_end-fixed true rule,
      ap stream_of (sym whole) ∙ stream_of-fixed rule,
      ap (verdict_as 0 0) (finish_known p.order.fault p.order.last p.order.count (items_of x) e s.order
          ∙ ap (λ d. area_finish (record { items = items_of x; end = d })) (sym over.1)),
    )

empty : (held : Option Message) (end : Option End) (port : ℕ) → passing_wants held end ≡ Take port →
    (port ≡ 0) × (held ≡ None) × (end ≡ None)
empty (Some message) end port w = absurd cc
empty None None port w = (cc, refl, refl)
empty None (Some e) port w = absurd cc

-- where it takes, its input goes on and it gave all that is fixed
at_take : (p : Passing) (x y : List Message) (port : ℕ) → PassingStands p x y →
    passing_wants p.held p.end ≡ Take port →
    (has_end x ≡ false) × (fixed (has_end x) (stream_passed p.area p.clip (stream_of x)) ≡ y)
at_take p x y port s w =
    let at = empty p.held p.end port w in (
      none_came (has_end x) (end_of x) (sym at.2 ∙ s.met),
      gave_all (stream_passed p.area p.clip (stream_of x)) p.held x y at.1 s.given,
    )

pub passing_gives_at_once : GivesAtOnce passing
passing_gives_at_once p x y port passes s w =
    ap items_of (sym (at_take p x y port s w).1)
    ∙ items_of-fixed (has_end x) (stream_passed p.area p.clip (stream_of x))

hands : (p : Passing) (held : Option Message) (end : Option End) (x y : List Message) (port : ℕ) → p.held ≡ held →
    PassingStands p x y → passing_wants held end ≡ Give port → (port ≡ 0) × (has_end y ≡ false)
hands p (Some message) end x y port holds s w = (
  cc,
  none_before y message [] (stream_passed p.area p.clip (stream_of x)) (has_end x)
      (s.given ∙ ap (λ h. y ++ option_to_list h) holds),
)
hands p None None x y port holds s w = absurd cc
hands p None (Some e) x y port holds s w = absurd cc

runs : (order : Order) (held : Option Message) (end : Option End) →
    (passing_ran order held end ≡ Running) ↔ (passing_wants held end ≢ Ended)
runs order (Some message) end = (λ is w. cc, λ no. refl)
runs order None None = (λ is w. cc, λ no. refl)
runs order None (Some e) = (λ is w. not_running order.fault e is, λ no. absurd (no refl))

never_pulls : (held : Option Message) (end : Option End) → passing_wants held end ≢ Pull
never_pulls (Some message) end = λ is. cc
never_pulls None None = λ is. cc
never_pulls None (Some e) = λ is. cc

ran : (p : Passing) (x y : List Message) → PassingStands p x y → passing_verdict p ≡ passing_ran p.order p.held p.end
ran p x y s = ap (λ b. if b then Memory else passing_ran p.order p.held p.end) s.goes

pub passing_keeps : KeepsItsRule passing
passing_keeps = record {
  before = before;
  ended = λ p x y s w. let all = ends p p.held p.end x y refl refl s w in (all.0, all.1);
  whole = λ p x y s w. (ends p p.held p.end x y refl refl s w).2;
  judged = λ p x y s w. ran p x y s ∙ (ends p p.held p.end x y refl refl s w).3;
  takes = λ p x y port s w. ((empty p.held p.end port w).0, (at_take p x y port s w).0);
  hands = λ p x y port s w. hands p p.held p.end x y port refl s w;
  running = λ p x y s. rw (ran p x y s) (runs p.order p.held p.end);
  never_pulls = λ p x y s. never_pulls p.held p.end;
  never_cut = λ p. never_cut;
  monotone = λ p. monotone (stream_passed p.area p.clip) (passed_grows p.area p.clip);
}

-- ---- the calls

met_more : (message : Message) (x : List Message) → has_end x ≡ false →
    met_end (message ∷ []) ≡ met_end (x ++ message ∷ [])
met_more (One item) x none =
    sym (ap (λ b. if b then Some (end_of (x ++ One item ∷ [])) else None) (has_end-item x item ∙ none))
met_more (Last end) x none = rw (has_end-end x end, end_of-end x end none) refl

at_most_one : (held : Option Message) → length (option_to_list held) ≤ 1
at_most_one (Some message) = omega arith
at_most_one None = omega arith

-- what is fixed behind one item more
fixed_more : (p : Passing) (item : ItemValue) (x y out : List Message) (ordered : Bool) → has_end x ≡ false →
    fixed (has_end x) (stream_passed p.area p.clip (stream_of x)) ≡ y →
    are_kinds_ordered 0 (items_of x ++ item ∷ []) ≡ ordered →
    map One (cond ordered (item_given p.area p.clip (fold (kept_after p.area) nothing_kept (items_of x)) item) [])
    ≡ out →
    fixed (has_end (x ++ One item ∷ [])) (stream_passed p.area p.clip (stream_of (x ++ One item ∷ []))) ≡ y ++ out
unfolding passed_grows
fixed_more p item x y out ordered none was order gives =
    fixed-item (stream_passed p.area p.clip) (passed_grows p.area p.clip) x y item none was
    ∙ ap (λ b. y ++ map One (cond b (item_given p.area p.clip
    (fold (kept_after p.area) nothing_kept (items_of x)) item) [])) order
    ∙ ap (λ ms. y ++ ms) gives

-- an item behind one whose kind went back is dropped
pub passing_drops : (p : Passing) (order : Order) (item : ItemValue) (kind : Kind) (admitted : Bool) →
    kind ≡ kind_of item.entity.body → admitted ≡ false → Admits kind p.order order admitted →
    passing_wants p.held p.end ≡ Take 0 →
    Takes (meanings_of passing) 0 (One item) p (record p { order = order })
passing_drops p order item kind admitted same dropped counts w = takes_by passing 0 (One item) p
    (record p { order = order }) refl takes
    (omega arith) where
      takes : (x y : List Message) → PassingStands p x y →
          PassingStands (record p { order = order }) (x ++ One item ∷ []) y
      takes x y s =
          let at = at_take p x y 0 s w in
          let admits : Admits kind p.order order false = subst (Admits kind p.order order) dropped counts in
          let known = admits (items_of x) item same s.order in
          record {
            goes = s.goes;
            given = fixed_more p item x y [] false at.0 at.1 (sym known.1) refl
                ∙ ap (λ h. y ++ option_to_list h) (sym (empty p.held p.end 0 w).1);
            met = (empty p.held p.end 0 w).2 ∙ met_more (One item) x at.0;
            order = subst (IsOrderOf order) (sym (items_of-item x item at.0)) known.0;
            kept = λ none. absurd (let whole : are_kinds_ordered 0 (items_of x ++ item ∷ []) ≡ true =
                faultless_orders order.fault order.last order.count (items_of x ++ item ∷ []) none known.0 in
                let cut = known.1 in cc);
          }

-- an item in order is judged by the ids kept so far
pub passing_takes : (p new : Passing) (item : ItemValue) (kind : Kind) (admitted : Bool) →
    kind ≡ kind_of item.entity.body → admitted ≡ true → Admits kind p.order new.order admitted →
    passing_wants p.held p.end ≡ Take 0 →
    option_to_list new.held ≡ map One (item_given p.area p.clip (sets_of p.kept) item) →
    sets_of new.kept ≡ kept_after p.area (sets_of p.kept) item →
    new ≡ record p { kept = new.kept; order = new.order; held = new.held } →
    Takes (meanings_of passing) 0 (One item) p new
passing_takes p new item kind admitted same taken counts w gave after only =
    takes_by passing 0 (One item) p new refl takes
    (omega (arith, at_most_one new.held)) where
      takes : (x y : List Message) → PassingStands p x y → PassingStands new (x ++ One item ∷ []) y
      takes x y s =
          let at = at_take p x y 0 s w in
          let admits : Admits kind p.order new.order true = subst (Admits kind p.order new.order) taken counts in
          let known = admits (items_of x) item same s.order in
          let kept = s.kept (ordered_is_faultless p.order.fault p.order.last p.order.count (items_of x) item s.order
          (sym known.1)) in
          rw only (record {
            goes = s.goes;
            given = fixed_more p item x y (option_to_list new.held) true at.0 at.1 (sym known.1)
                (ap (λ (sets : Sets). map One (item_given p.area p.clip sets item)) (sym kept) ∙ sym gave);
            met = (empty p.held p.end 0 w).2 ∙ met_more (One item) x at.0;
            order = subst (IsOrderOf new.order) (sym (items_of-item x item at.0)) known.0;
            kept = λ none. after ∙ ap (λ (sets : Sets). kept_after p.area sets item) kept
                ∙ sym (ap (fold (kept_after p.area) nothing_kept) (items_of-item x item at.0)
                ∙ fold-append (kept_after p.area) nothing_kept (items_of x) (item ∷ []));
          })

-- an end that is taken is held, or Broken behind a fault
pub passing_takes_end : (p : Passing) (end : End) → passing_wants p.held p.end ≡ Take 0 →
    Takes (meanings_of passing) 0 (Last end) p
    (record p { held = Some (Last (end_after p.order end)); end = Some end })
unfolding passed_grows
passing_takes_end p end w =
    takes_by passing 0 (Last end) p (record p { held = Some (Last (end_after p.order end)); end = Some end }) refl
    takes
    (omega arith) where
      takes : (x y : List Message) → PassingStands p x y →
          PassingStands (record p { held = Some (Last (end_after p.order end)); end = Some end })
          (x ++ Last end ∷ []) y
      takes x y s =
          let at = at_take p x y 0 s w in
          record {
            goes = s.goes;
            given = fixed-last (stream_passed p.area p.clip) (passed_grows p.area p.clip) x y end at.0 at.1
                ∙ ap (λ ms. ms ++ Last (stream_passed p.area p.clip (record { items = items_of x; end = end })).end ∷
                [])
                (append-nil y)
                ∙ ap (λ e. y ++ Last e ∷ [])
                (stream_passed-ends p.area p.clip (record { items = items_of x; end = end })
                ∙ end_known p.order.fault p.order.last p.order.count (items_of x) end s.order);
            met = met_more (Last end) x at.0;
            order = subst (IsOrderOf p.order) (sym (items_of-end x end)) s.order;
            kept = λ none. s.kept none ∙ ap (fold (kept_after p.area) nothing_kept) (sym (items_of-end x end));
          }

zero_port : (port : ℕ) → port < 1 → 0 ≡ port
zero_port port known = omega arith

-- out of memory it is behind: what it gave is before the rule of what it took, and so of one item more
pub passing_stops : (p new : Passing) (item : ItemValue) → new.area ≡ p.area → new.clip ≡ p.clip →
    new.stopped ≡ true →
    StopsInTake (meanings_of passing) 0 (One item) p new
passing_stops p new item same clips stops x y given s = record {
  behind = record {
    gave = λ q known. subst (λ port. IsBefore (streams y port)
        (stream_passed new.area new.clip (stream_of (x 0 ++ One item ∷ [])))) (zero_port q known)
        (rw (same, clips) (before_onward (stream_of (y 0)) (stream_passed p.area p.clip (stream_of (x 0)))
        (stream_passed p.area p.clip (stream_of (x 0 ++ One item ∷ []))) (before p (x 0) (y 0) s)
        (monotone (stream_passed p.area p.clip) (passed_grows p.area p.clip) (stream_of (x 0))
        (stream_of (x 0 ++ One item ∷ [])) (prefix_before (x 0) (x 0 ++ One item ∷ [])
        (record { rest = One item ∷ []; joined = refl })))));
    wrote = tt;
    devices = tt;
  };
  verdict = ap (λ b. if b then Memory else passing_ran new.order new.held new.end) stops;
}

pub passing_port : (held : Option Message) (end : Option End) (port : ℕ) → passing_wants held end ≡ Take port →
    port ≡ 0
passing_port held end port w = (empty held end port w).0

-- a machine that took nothing yet
pub passing_new : (area : Area) (clip : Bool) (kept : Keys) (order : Order) → sets_of kept ≡ nothing_kept →
    IsOrderOf order [] →
    PassingStands (record {
      area = area;
      clip = clip;
      kept = kept;
      order = order;
      held = None;
      end = None;
      stopped =
          false;
    })
    [] []
unfolding stream_passed
passing_new area clip kept order none known =
    record { goes = refl; given = refl; met = refl; order = known; kept = λ is. none }
