-- The machines of used-node and used-way keep their rule, call by call.
use Rattle.std.proofs.Common.{◌≡◌, ℕ, ◌<◌, ℤ, List, [], ◌∷◌, ◌++◌, Bool, true, false, refl, sym, ap, ◌∙◌, arith, map, subst}
use Rattle.std.specs.Prelude.{◌≢◌, ◌↔◌, ◌||◌}
use Rattle.std.proofs.Math.Bool.{or-false}
use Rattle.std.proofs.lemmas.List.{append-nil, length-append}
use Rattle.std.proofs.lemmas.List.Elements.{filter_agree}
use Rattle.std.proofs.lemmas.List.Folds.{list_any-append}
use Rattle.osm_entity.specs.Calls.{Gives, StopsInTake, Takes}
use Rattle.osm_entity.specs.Items.{ItemValue}
use Rattle.osm_entity.specs.Machines.{AreLawful, IsSameTask}
use Rattle.osm_entity.specs.Meaning.{Cut, finish_after}
use Rattle.osm_entity.specs.OneInput.{GivesAtEnd, KeepsItsRule, meanings_of}
use Rattle.osm_entity.specs.Ports.{added, end_of, fixed, has_end, items_of, stream_of, streams}
use Rattle.osm_entity.specs.Streams.{Stream, IsBefore}
use Rattle.osm_entity.specs.Tasks.{verdict_as}
use Rattle.osm_entity.specs.declared.kind.Kind.{Kind}
use Rattle.osm_entity.specs.declared.stream.End.{End}
use Rattle.osm_entity.specs.declared.stream.End.TheVariants.{Done, Broken}
use Rattle.osm_entity.specs.declared.stream.Message.{Message}
use Rattle.osm_entity.specs.declared.stream.Message.TheVariants.{Item as One, End as Last}
use Rattle.osm_entity.specs.declared.stream.Want.TheVariants.{Pull, Take, Give, Ended}
use Rattle.osm_entity.specs.declared.verdict.Verdict.TheVariants.{Running}
use Rattle.osm_entity.proofs.OneInputLemmas.{rule_is_lawful, takes_by, gives_by}
use Rattle.osm_entity.proofs.PortLemmas.{before_none, end_of-end, fixed_before, has_end-end, has_end-fixed, has_end-item, items_of-item, none_before, stream_of-end, stream_of-fixed}
use Rattle.osm_used.specs.Used.{body_names, has_id, is_not_of, is_used, items_left, stays_if, used_only}
use Rattle.osm_used.specs.Using.{UsedValue, GathersUsed, GivesUsed, keeping_used, used_left, used_stands_at, used_verdict, used_wants}
use Rattle.osm_used.specs.declared.phase.Phase.{Phase}
use Rattle.osm_used.specs.declared.phase.Phase.TheVariants.{Gathering, Giving, Closed, Stopped}
use Rattle.osm_used.proofs.UsedLemmas.{used_is_monotone}

-- ---- what it stands for

before : (u : UsedValue) (phase : Phase) (x y : List Message) → used_stands_at u phase x y →
    IsBefore (stream_of y) (used_only u.kind (stream_of x))
before u Gathering x y s = rw s.nothing (before_none (used_only u.kind (stream_of x)))
before u (Giving end) x y s =
    fixed_before y (used_left u end) (used_only u.kind (stream_of x)) true s.all (λ no_end. absurd cc)
before u (Closed end) x y s = fixed_before y [] (used_only u.kind (stream_of x)) true s.all (λ no_end. absurd cc)
before u Stopped x y s = absurd s

ends : (u : UsedValue) (phase : Phase) (x y : List Message) → used_stands_at u phase x y → used_wants phase ≡ Ended →
    (has_end x ≡ true) × (has_end y ≡ true) × (stream_of y ≡ used_only u.kind (stream_of x))
    × (used_verdict phase ≡ verdict_as 0 0 (finish_after (end_of x)))
ends u Gathering x y s w = absurd cc
ends u (Giving end) x y s w = absurd cc
ends u (Closed end) x y s w =
    let all : fixed true (used_only u.kind (stream_of x)) ≡ y = s.all ∙ append-nil y in (
      s.over,
      ap has_end (sym all) ∙ has_end-fixed true (used_only u.kind (stream_of x)),
      ap stream_of (sym all) ∙ stream_of-fixed (used_only u.kind (stream_of x)),
      ap (λ e. verdict_as 0 0 (finish_after e)) (sym s.met),
    )
ends u Stopped x y s w = absurd s

-- where it takes, it gathers
gathers : (u : UsedValue) (phase : Phase) (x y : List Message) (port : ℕ) → used_stands_at u phase x y →
    used_wants phase ≡ Take port →
    (port ≡ 0) × GathersUsed u x y
gathers u Gathering x y port s w = (cc, s)
gathers u (Giving end) x y port s w = absurd cc
gathers u (Closed end) x y port s w = absurd cc
gathers u Stopped x y port s w = absurd s

-- of what is left to give the first message comes before any end
left_first : (u : UsedValue) (items : List ItemValue) (end : End) (x y : List Message) →
    fixed true (used_only u.kind (stream_of x)) ≡ y ++ (map One items ++ Last end ∷ []) → has_end y ≡ false
left_first u [] end x y is = none_before y (Last end) [] (used_only u.kind (stream_of x)) true is
left_first u (item ∷ items) end x y is =
    none_before y (One item) (map One items ++ Last end ∷ []) (used_only u.kind (stream_of x)) true is

hands : (u : UsedValue) (phase : Phase) (x y : List Message) (port : ℕ) → used_stands_at u phase x y →
    used_wants phase ≡ Give port →
    (port ≡ 0) × (has_end y ≡ false) × (has_end x ≡ true)
hands u Gathering x y port s w = absurd cc
hands u (Giving end) x y port s w =
    (cc, left_first u (items_left u.kind (has_id u.named) u.kept end) end x y s.all, s.over)
hands u (Closed end) x y port s w = absurd cc
hands u Stopped x y port s w = absurd s

runs : (u : UsedValue) (phase : Phase) (x y : List Message) → used_stands_at u phase x y →
    (used_verdict phase ≡ Running) ↔ (used_wants phase ≢ Ended)
runs u Gathering x y s = (λ is w. cc, λ no. refl)
runs u (Giving end) x y s = (λ is w. cc, λ no. refl)
runs u (Closed Done) x y s = (λ is w. cc, λ no. absurd (no refl))
runs u (Closed Broken) x y s = (λ is w. cc, λ no. absurd (no refl))
runs u Stopped x y s = absurd s

never_pulls : (phase : Phase) → used_wants phase ≢ Pull
never_pulls Gathering = λ is. cc
never_pulls (Giving end) = λ is. cc
never_pulls (Closed end) = λ is. cc
never_pulls Stopped = λ is. cc

never_cut : (end : End) → finish_after end ≢ Cut
never_cut Done = λ is. cc
never_cut Broken = λ is. cc

pub using_keeps : KeepsItsRule keeping_used
using_keeps = record {
  before = λ u x y s. before u u.phase x y s;
  ended = λ u x y s w. let all = ends u u.phase x y s w in (all.0, all.1);
  whole = λ u x y s w. (ends u u.phase x y s w).2;
  judged = λ u x y s w. (ends u u.phase x y s w).3;
  takes = λ u x y port s w. let at = gathers u u.phase x y port s w in (at.0, at.1.running);
  hands = λ u x y port s w. let at = hands u u.phase x y port s w in (at.0, at.1);
  running = λ u x y s. runs u u.phase x y s;
  never_pulls = λ u x y s. never_pulls u.phase;
  never_cut = λ u s. never_cut s.end;
  monotone = λ u. used_is_monotone u.kind;
}

pub using_gives_at_end : GivesAtEnd keeping_used
using_gives_at_end u x y port holds s w = (hands u u.phase x y port s w).2

pub using_is_lawful : AreLawful (meanings_of keeping_used)
using_is_lawful = rule_is_lawful keeping_used using_keeps (λ u x y port passes s w. absurd cc) using_gives_at_end

-- ---- the calls

-- a machine of the same kind is of the same task
pub used_same : (old new : UsedValue) → new.kind ≡ old.kind → IsSameTask (meanings_of keeping_used) old new
used_same old new is = ap (λ kind. (meanings_of keeping_used).task
    (record { kind = kind; kept = []; named = []; phase = Gathering })) is

-- an item more uses what it names beside what was used
is_used-more : (kind : Kind) (items : List ItemValue) (item : ItemValue) (id : ℤ) →
    is_used kind (items ++ item ∷ []) id ≡ (is_used kind items id || body_names kind item.entity.body id)
is_used-more kind items item id =
    list_any-append (λ (i : ItemValue). body_names kind i.entity.body id) items (item ∷ [])
    ∙ ap (λ b. is_used kind items id || b) (or-false (body_names kind item.entity.body id))

gathers_item : (u new : UsedValue) (item : ItemValue) (x y : List Message) → new.kind ≡ u.kind →
    new.kept ≡ u.kept ++ item ∷ [] →
    ((id : ℤ) → has_id new.named id ≡ (has_id u.named id || body_names u.kind item.entity.body id)) →
    GathersUsed u x y → GathersUsed new (x ++ One item ∷ []) y
gathers_item u new item x y same kept named g = record {
  running = has_end-item x item ∙ g.running;
  kept = kept ∙ ap (λ items. items ++ item ∷ []) g.kept ∙ sym (items_of-item x item g.running);
  named = λ id. named id ∙ ap (λ b. b || body_names u.kind item.entity.body id) (g.named id)
      ∙ sym (is_used-more u.kind (items_of x) item id)
      ∙ ap (λ items. is_used u.kind items id) (sym (items_of-item x item g.running))
      ∙ ap (λ kind. is_used kind (items_of (x ++ One item ∷ [])) id) (sym same);
  nothing = g.nothing;
}

stands_gathering : (u : UsedValue) (phase : Phase) (x y : List Message) → phase ≡ Gathering → GathersUsed u x y →
    used_stands_at u phase x y
stands_gathering u Gathering x y is g = g
stands_gathering u (Giving end) x y is g = absurd cc
stands_gathering u (Closed end) x y is g = absurd cc
stands_gathering u Stopped x y is g = absurd cc

gathering : (phase : Phase) (port : ℕ) → used_wants phase ≡ Take port → (port ≡ 0) × (phase ≡ Gathering)
gathering Gathering port w = (cc, refl)
gathering (Giving end) port w = absurd cc
gathering (Closed end) port w = absurd cc
gathering Stopped port w = absurd cc

-- an item that is taken is held, and what it names is known
pub used_takes_item : (u new : UsedValue) (item : ItemValue) (port : ℕ) → new.kind ≡ u.kind →
    new.kept ≡ u.kept ++ item ∷ [] →
    ((id : ℤ) → has_id new.named id ≡ (has_id u.named id || body_names u.kind item.entity.body id)) →
    new.phase ≡ u.phase → used_wants u.phase ≡ Take port →
    Takes (meanings_of keeping_used) port (One item) u new
used_takes_item u new item port same kept named still w =
    let at = gathering u.phase port w in
    takes_by keeping_used port (One item) u new at.0
    (λ x y s. stands_gathering new new.phase (x ++ One item ∷ []) y (still ∙ at.1)
    (gathers_item u new item x y same kept named (gathers u u.phase x y port s w).1))
    (rw (still, at.1, kept) (omega (arith, length-append u.kept (item ∷ []))))

-- which items are left is told by the ids that are named
left_agrees : (kind : Kind) (test other : ℤ → Bool) (items : List ItemValue) (end : End) →
    ((id : ℤ) → test id ≡ other id) → items_left kind test items end ≡ items_left kind other items end
left_agrees kind test other items Done same = filter_agree (stays_if kind test) (stays_if kind other)
    (λ item. ap (λ b. is_not_of kind item || b) (same item.entity.id)) items
left_agrees kind test other items Broken same = refl

gives_after : (u new : UsedValue) (end : End) (x y : List Message) → new.kind ≡ u.kind → new.kept ≡ u.kept →
    ((id : ℤ) → has_id new.named id ≡ has_id u.named id) → GathersUsed u x y →
    GivesUsed new.kind end (used_left new end) (x ++ Last end ∷ []) y
gives_after u new end x y same kept named g = record {
  over = has_end-end x end;
  met = end_of-end x end g.running;
  all = ap (λ (s : Stream). fixed true (used_only new.kind s)) (stream_of-end x end g.running)
      ∙ ap (λ items. fixed true (record { items = items; end = end }))
      (left_agrees new.kind (is_used new.kind (items_of x)) (has_id new.named) (items_of x) end
      (λ id. ap (λ kind. is_used kind (items_of x) id) same ∙ sym (named id ∙ g.named id))
      ∙ ap (λ items. items_left new.kind (has_id new.named) items end) (sym (kept ∙ g.kept)))
      ∙ ap (λ ms. ms ++ used_left new end) (sym g.nothing);
}

stands_giving : (u : UsedValue) (end : End) (phase : Phase) (x y : List Message) → phase ≡ Giving end →
    GivesUsed u.kind end (used_left u end) x y → used_stands_at u phase x y
stands_giving u end phase x y is g = subst (λ p. used_stands_at u p x y) (sym is) g

-- an end that is taken leaves what is used to give
pub used_takes_end : (u new : UsedValue) (end : End) (port : ℕ) → new.kind ≡ u.kind → new.kept ≡ u.kept →
    ((id : ℤ) → has_id new.named id ≡ has_id u.named id) → new.phase ≡ Giving end →
    used_wants u.phase ≡ Take port → Takes (meanings_of keeping_used) port (Last end) u new
used_takes_end u new end port same kept named now w =
    let at = gathering u.phase port w in
    takes_by keeping_used port (Last end) u new at.0
    (λ x y s. stands_giving new end new.phase (x ++ Last end ∷ []) y now
    (gives_after u new end x y same kept named (gathers u u.phase x y port s w).1))
    (rw (now, at.1, kept) (omega arith))

zero_port : (port : ℕ) → port < 1 → 0 ≡ port
zero_port port known = omega arith

-- out of memory it is behind, since it gave nothing
pub used_stops : (u new : UsedValue) (message : Message) (port : ℕ) → new.phase ≡ Stopped →
    used_wants u.phase ≡ Take port → StopsInTake (meanings_of keeping_used) port message u new
used_stops u new message port now w x y given s = record {
  behind = record {
    gave = λ p known. subst (λ q. IsBefore (streams y q) (used_only new.kind (streams (added x port message) 0)))
        (zero_port p known)
        (rw (gathers u u.phase (x 0) (y 0) port s w).1.nothing
        (before_none (used_only new.kind (streams (added x port message) 0))));
    wrote = tt;
    devices = tt;
  };
  verdict = ap used_verdict now;
}

giving : (phase : Phase) (port : ℕ) → used_wants phase ≡ Give port → port ≡ 0
giving Gathering port w = absurd cc
giving (Giving end) port w = cc
giving (Closed end) port w = absurd cc
giving Stopped port w = absurd cc

-- an end that is given is all that was left
pub used_gives_end : (u new : UsedValue) (end : End) (port : ℕ) → u.phase ≡ Giving end → new.phase ≡ Closed end →
    new.kind ≡ u.kind → items_left u.kind (has_id u.named) u.kept end ≡ [] → used_wants u.phase ≡ Give port →
    Gives (meanings_of keeping_used) port (Last end) u new
used_gives_end u new end port old now same none w =
    gives_by keeping_used port (Last end) u new (giving u.phase port w)
    (λ x y s. subst (λ p. used_stands_at new p x (y ++ Last end ∷ [])) (sym now)
    (all x y (subst (λ p. used_stands_at u p x y) old s)))
    (rw (old, now) (omega arith)) where
      all : (x y : List Message) → GivesUsed u.kind end (used_left u end) x y →
          GivesUsed new.kind end [] x (y ++ Last end ∷ [])
      all x y g = record {
        over = g.over;
        met = g.met;
        all = ap (λ kind. fixed true (used_only kind (stream_of x))) same ∙ g.all
            ∙ ap (λ items. y ++ (map One items ++ Last end ∷ [])) none ∙ sym (append-nil (y ++ Last end ∷ []));
      }
