-- The machine that holds its items keeps its rule, call by call.
use Rattle.std.proofs.Common.{◌≡◌, ℕ, ◌+◌, ◌<◌, ◌≤◌, List, [], ◌∷◌, ◌++◌, length, Bool, true, false, refl, sym, ap, ◌∙◌, append_assoc, arith, map, cond, subst}
use Rattle.std.specs.Prelude.{◌≢◌, ◌↔◌}
use Rattle.std.proofs.lemmas.List.{append-nil, length-append}
use Rattle.osm_entity.specs.Calls.{Gives, StopsInTake, Takes}
use Rattle.osm_entity.specs.Items.{ItemValue, kind_of}
use Rattle.osm_entity.specs.OneInput.{GivesAtEnd, KeepsItsRule, meanings_of}
use Rattle.osm_entity.specs.Ports.{added, fixed, has_end, items_of, stream_of, streams}
use Rattle.osm_entity.specs.Streams.{IsBefore, Stream}
use Rattle.osm_entity.specs.Tasks.{verdict_as}
use Rattle.osm_entity.specs.declared.kind.Kind.{Kind}
use Rattle.osm_entity.specs.declared.stream.End.{End}
use Rattle.osm_entity.specs.declared.stream.Message.{Message}
use Rattle.osm_entity.specs.declared.stream.Message.TheVariants.{Item as One, End as Last}
use Rattle.osm_entity.specs.declared.stream.Want.TheVariants.{Pull, Take, Give, Ended}
use Rattle.osm_entity.specs.declared.verdict.Verdict.TheVariants.{Running}
use Rattle.osm_entity.proofs.GrowthLemmas.{monotone}
use Rattle.osm_entity.proofs.OneInputLemmas.{gives_by, takes_by}
use Rattle.osm_entity.proofs.PortLemmas.{before_none, end_of-end, fixed_before, has_end-end, has_end-fixed, has_end-item, items_of-end, items_of-item, none_before, stream_of-end, stream_of-fixed}
use Rattle.osm_select.specs.Held.{items_held, stream_held}
use Rattle.osm_select.specs.Holding.{GathersArea, GivesArea, choice_gives, holding, holding_gives, holding_stands_at, holding_verdict, holding_wants}
use Rattle.osm_select.specs.Kinds.{area_finish}
use Rattle.osm_select.specs.Order.{Admits, IsOrderOf, end_after}
use Rattle.osm_select.specs.declared.holding.Holding.{Holding}
use Rattle.osm_select.specs.declared.phase.Phase.{Phase}
use Rattle.osm_select.specs.declared.phase.Phase.TheVariants.{Gathering, Giving, Closed, Stopped}
use Rattle.osm_select.proofs.OrderLemmas.{faultless_orders, finish_known, never_cut, not_running, ordered_is_faultless}
use Rattle.osm_select.proofs.HeldLemmas.{held_grows, held_known}

-- ---- what it stands for

before : (h : Holding) (phase : Phase) (x y : List Message) → holding_stands_at h phase x y →
    IsBefore (stream_of y) (stream_held h.area h.complete h.clip (stream_of x))
before h Gathering x y s = rw s.nothing (before_none (stream_held h.area h.complete h.clip (stream_of x)))
before h (Giving end) x y s = fixed_before y (holding_gives h end)
    (stream_held h.area h.complete h.clip (stream_of x)) true s.all (λ no_end. absurd cc)
before h (Closed end) x y s =
    fixed_before y [] (stream_held h.area h.complete h.clip (stream_of x)) true s.all (λ no_end. absurd cc)
before h Stopped x y s = absurd s

ends : (h : Holding) (phase : Phase) (x y : List Message) → holding_stands_at h phase x y →
    holding_wants phase ≡ Ended →
    (has_end x ≡ true) × (has_end y ≡ true) × (stream_of y ≡ stream_held h.area h.complete h.clip (stream_of x))
    × (holding_verdict h.order phase ≡ verdict_as 0 0 (area_finish (stream_of x)))
ends h Gathering x y s w = absurd cc
ends h (Giving end) x y s w = absurd cc
ends h (Closed end) x y s w =
    let rule = stream_held h.area h.complete h.clip (stream_of x) in
    let all : fixed true rule ≡ y = s.all ∙ append-nil y in (
      s.over,
      ap has_end (sym all) ∙ has_end-fixed true rule,
      ap stream_of (sym all) ∙ stream_of-fixed rule,
      ap (verdict_as 0 0) (finish_known h.order.fault h.order.last h.order.count (items_of x) end s.order
          ∙ ap (λ e. area_finish (record { items = items_of x; end = e })) (sym s.met)),
    )
ends h Stopped x y s w = absurd s

-- where it takes, it gathers
gathers : (h : Holding) (phase : Phase) (x y : List Message) (port : ℕ) → holding_stands_at h phase x y →
    holding_wants phase ≡ Take port → (port ≡ 0) × GathersArea h x y
gathers h Gathering x y port s w = (cc, s)
gathers h (Giving end) x y port s w = absurd cc
gathers h (Closed end) x y port s w = absurd cc
gathers h Stopped x y port s w = absurd s

-- of what is left to give the first message comes before any end
left_first : (s : Stream) (items : List ItemValue) (end : End) (y : List Message) →
    fixed true s ≡ y ++ (map One items ++ Last end ∷ []) → has_end y ≡ false
left_first s [] end y is = none_before y (Last end) [] s true is
left_first s (item ∷ items) end y is = none_before y (One item) (map One items ++ Last end ∷ []) s true is

hands : (h : Holding) (phase : Phase) (x y : List Message) (port : ℕ) → holding_stands_at h phase x y →
    holding_wants phase ≡ Give port → (port ≡ 0) × (has_end y ≡ false) × (has_end x ≡ true)
hands h Gathering x y port s w = absurd cc
hands h (Giving end) x y port s w = (
  cc,
  left_first (stream_held h.area h.complete h.clip (stream_of x)) (choice_gives h.clip h.choice h.items)
      (end_after h.order end) y s.all,
  s.over,
)
hands h (Closed end) x y port s w = absurd cc
hands h Stopped x y port s w = absurd s

runs : (h : Holding) (phase : Phase) (x y : List Message) → holding_stands_at h phase x y →
    (holding_verdict h.order phase ≡ Running) ↔ (holding_wants phase ≢ Ended)
runs h Gathering x y s = (λ is w. cc, λ no. refl)
runs h (Giving end) x y s = (λ is w. cc, λ no. refl)
runs h (Closed end) x y s = (λ is w. not_running h.order.fault end is, λ no. absurd (no refl))
runs h Stopped x y s = absurd s

never_pulls : (phase : Phase) → holding_wants phase ≢ Pull
never_pulls Gathering = λ is. cc
never_pulls (Giving end) = λ is. cc
never_pulls (Closed end) = λ is. cc
never_pulls Stopped = λ is. cc

pub holding_keeps : KeepsItsRule holding
holding_keeps = record {
  before = λ h x y s. before h h.phase x y s;
  ended = λ h x y s w. let all = ends h h.phase x y s w in (all.0, all.1);
  whole = λ h x y s w. (ends h h.phase x y s w).2;
  judged = λ h x y s w. (ends h h.phase x y s w).3;
  takes = λ h x y port s w. let at = gathers h h.phase x y port s w in (at.0, at.1.running);
  hands = λ h x y port s w. let at = hands h h.phase x y port s w in (at.0, at.1);
  running = λ h x y s. runs h h.phase x y s;
  never_pulls = λ h x y s. never_pulls h.phase;
  never_cut = λ h. never_cut;
  monotone = λ h. monotone (stream_held h.area h.complete h.clip) (held_grows h.area h.complete h.clip);
}

pub holding_gives_at_end : GivesAtEnd holding
holding_gives_at_end h x y port holds s w = (hands h h.phase x y port s w).2

-- ---- the calls

gathering : (phase : Phase) (port : ℕ) → holding_wants phase ≡ Take port → (port ≡ 0) × (phase ≡ Gathering)
gathering Gathering port w = (cc, refl)
gathering (Giving end) port w = absurd cc
gathering (Closed end) port w = absurd cc
gathering Stopped port w = absurd cc

pub holding_port : (phase : Phase) (port : ℕ) → holding_wants phase ≡ Take port → port ≡ 0
holding_port phase port w = (gathering phase port w).0

still_gathers : (h : Holding) (phase : Phase) (x y : List Message) → phase ≡ Gathering → GathersArea h x y →
    holding_stands_at h phase x y
still_gathers h Gathering x y is g = g
still_gathers h (Giving end) x y is g = absurd cc
still_gathers h (Closed end) x y is g = absurd cc
still_gathers h Stopped x y is g = absurd cc

-- an item in order is held; behind one that is not, nothing is
pub holding_takes : (h new : Holding) (item : ItemValue) (kind : Kind) (answer admitted : Bool) →
    kind ≡ kind_of item.entity.body → answer ≡ admitted → Admits kind h.order new.order answer →
    holding_wants h.phase ≡ Take 0 → new.items ≡ cond admitted (h.items ++ item ∷ []) [] → new.phase ≡ h.phase →
    Takes (meanings_of holding) 0 (One item) h new
holding_takes h new item kind answer admitted same answers counts w held still =
    let at = gathering h.phase 0 w in
    takes_by holding 0 (One item) h new refl
    (λ x y s. still_gathers new new.phase (x ++ One item ∷ []) y (still ∙ at.1)
    (more x y (gathers h h.phase x y 0 s w).1)) (rw (still, at.1, held) (counted admitted)) where
      counted : (b : Bool) → length (cond b (h.items ++ item ∷ []) []) ≤ length h.items + 1
      counted true = omega (arith, length-append h.items (item ∷ []))
      counted false = omega arith

      more : (x y : List Message) → GathersArea h x y → GathersArea new (x ++ One item ∷ []) y
      more x y g =
          let admits : Admits kind h.order new.order admitted =
          subst (Admits kind h.order new.order) answers counts in
          let known = admits (items_of x) item same g.order in
          record {
            running = has_end-item x item ∙ g.running;
            order = subst (IsOrderOf new.order) (sym (items_of-item x item g.running)) known.0;
            items = λ none. held ∙ ap (λ b. cond b (h.items ++ item ∷ []) [])
                (known.1 ∙ faultless_orders new.order.fault new.order.last new.order.count
                (items_of x ++ item ∷ []) none known.0)
                ∙ ap (λ items. items ++ item ∷ [])
                (g.items (ordered_is_faultless h.order.fault h.order.last h.order.count
                (items_of x) item g.order
                (faultless_orders new.order.fault new.order.last new.order.count
                (items_of x ++ item ∷ []) none known.0)))
                ∙ sym (items_of-item x item g.running);
            nothing = g.nothing;
          }

stands_giving : (h : Holding) (end : End) (phase : Phase) (x y : List Message) → phase ≡ Giving end →
    GivesArea h end (holding_gives h end) x y → holding_stands_at h phase x y
stands_giving h end phase x y is g = subst (λ p. holding_stands_at h p x y) (sym is) g

-- an end that is taken leaves what was chosen to give
pub holding_takes_end : (h new : Holding) (end : End) → holding_wants h.phase ≡ Take 0 →
    choice_gives new.clip new.choice new.items
    ≡ items_held h.area h.complete h.clip h.items (end_after h.order end) →
    length new.items ≤ length h.items →
    new ≡ record h { items = new.items; choice = new.choice; phase = Giving end } →
    Takes (meanings_of holding) 0 (Last end) h new
holding_takes_end h new end w chosen shorter only =
    let now : new.phase ≡ Giving end = ap (λ (n : Holding). n.phase) only in
    let at = gathering h.phase 0 w in
    takes_by holding 0 (Last end) h new refl
    (λ x y s. stands_giving new end new.phase (x ++ Last end ∷ []) y now
    (gives x y (gathers h h.phase x y 0 s w).1)) (rw (now, at.1) (omega (arith, shorter))) where
      gives : (x y : List Message) → GathersArea h x y →
          GivesArea new end (holding_gives new end) (x ++ Last end ∷ []) y
      gives x y g =
          let orders : new.order ≡ h.order = ap (λ (n : Holding). n.order) only in
          record {
            over = has_end-end x end;
            met = end_of-end x end g.running;
            order = subst (λ o. IsOrderOf o (items_of (x ++ Last end ∷ []))) (sym orders)
                (subst (IsOrderOf h.order) (sym (items_of-end x end)) g.order);
            all = ap (λ (n : Holding). fixed true
                (stream_held n.area n.complete n.clip (stream_of (x ++ Last end ∷ [])))) only
                ∙ ap (λ (s : Stream). fixed true (stream_held h.area h.complete h.clip s))
                (stream_of-end x end g.running)
                ∙ ap (fixed true) (held_known h.area h.complete h.clip h.order.fault h.order.last h.order.count
                (items_of x)
                h.items end g.order g.items)
                ∙ ap (λ items. fixed true (record { items = items; end = end_after h.order end })) (sym chosen)
                ∙ ap (λ o. fixed true
                (record { items = choice_gives new.clip new.choice new.items; end = end_after o end }))
                (sym orders)
                ∙ ap (λ ms. ms ++ holding_gives new end) (sym g.nothing);
          }

zero_port : (port : ℕ) → port < 1 → 0 ≡ port
zero_port port known = omega arith

-- out of memory it is behind, since it gave nothing
pub holding_stops : (h new : Holding) (message : Message) (port : ℕ) → new.phase ≡ Stopped →
    holding_wants h.phase ≡ Take port → StopsInTake (meanings_of holding) port message h new
holding_stops h new message port now w x y given s =
    let rule = stream_held new.area new.complete new.clip (streams (added x port message) 0) in
    record {
      behind = record {
        gave = λ p known. subst (λ q. IsBefore (streams y q) rule) (zero_port p known)
            (rw (gathers h h.phase (x 0) (y 0) port s w).1.nothing (before_none rule));
        wrote = tt;
        devices = tt;
      };
      verdict = ap (holding_verdict new.order) now;
    }

giving : (phase : Phase) (port : ℕ) → holding_wants phase ≡ Give port → port ≡ 0
giving Gathering port w = absurd cc
giving (Giving end) port w = cc
giving (Closed end) port w = absurd cc
giving Stopped port w = absurd cc

-- an end that is given is all that was left
pub holding_gives_end : (h new : Holding) (end : End) (port : ℕ) → h.phase ≡ Giving end →
    new ≡ record h { items = new.items; choice = new.choice; phase = Closed end } →
    choice_gives h.clip h.choice h.items ≡ [] → holding_wants h.phase ≡ Give port →
    Gives (meanings_of holding) port (Last (end_after h.order end)) h new
holding_gives_end h new end port old only none w =
    let now : new.phase ≡ Closed end = ap (λ (n : Holding). n.phase) only in
    gives_by holding port (Last (end_after h.order end)) h new (giving h.phase port w)
    (λ x y s. subst (λ p. holding_stands_at new p x (y ++ Last (end_after h.order end) ∷ [])) (sym now)
    (gives x y (subst (λ p. holding_stands_at h p x y) old s))) (rw (old, now) (omega arith)) where
      gives : (x y : List Message) → GivesArea h end (holding_gives h end) x y →
          GivesArea new end [] x (y ++ Last (end_after h.order end) ∷ [])
      gives x y g = record {
        over = g.over;
        met = g.met;
        order = subst (λ o. IsOrderOf o (items_of x)) (ap (λ (n : Holding). n.order) (sym only)) g.order;
        all = ap (λ (n : Holding). fixed true (stream_held n.area n.complete n.clip (stream_of x))) only ∙ g.all
            ∙ ap (λ items. y ++ (map One items ++ Last (end_after h.order end) ∷ [])) none
            ∙ sym (append-nil (y ++ Last (end_after h.order end) ∷ []));
      }

-- an item that is given is the first that was left
pub holding_gives_item : (h : Holding) (item : ItemValue) (items : List ItemValue) (end : End) (port : ℕ) →
    h.phase ≡ Giving end → choice_gives h.clip h.choice h.items ≡ item ∷ choice_gives h.clip h.choice items →
    length items < length h.items → holding_wants h.phase ≡ Give port →
    Gives (meanings_of holding) port (One item) h (record h { items = items })
holding_gives_item h item items end port old first shorter w =
    gives_by holding port (One item) h (record h { items = items }) (giving h.phase port w)
    (λ x y s. subst (λ p. holding_stands_at (record h { items = items }) p x (y ++ One item ∷ [])) (sym old)
    (gives x y (subst (λ p. holding_stands_at h p x y) old s))) (rw old (omega (arith, shorter))) where
      gives : (x y : List Message) → GivesArea h end (holding_gives h end) x y →
          GivesArea (record h { items = items }) end (holding_gives (record h { items = items }) end) x
          (y ++ One item ∷ [])
      gives x y g = record {
        over = g.over;
        met = g.met;
        order = g.order;
        all = g.all ∙ ap (λ list. y ++ (map One list ++ Last (end_after h.order end) ∷ [])) first
            ∙ sym (append_assoc y (One item ∷ []) (holding_gives (record h { items = items }) end));
      }
