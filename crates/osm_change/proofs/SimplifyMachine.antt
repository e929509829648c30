-- The rule of a simplify grows, its machine keeps it, and so do the calls.
use Rattle.std.proofs.Common.{◌≡◌, ℕ, ◌+◌, ◌<◌, ◌≤◌, List, [], ◌∷◌, ◌++◌, length, Bool, true, false, cond, refl, sym, ap, subst, ◌∙◌, arith}
use Rattle.std.specs.Prelude.{◌≢◌, ◌↔◌}
use Rattle.std.proofs.lemmas.List.{append-nil}
use Rattle.osm_entity.specs.Calls.{Takes, StopsInTake}
use Rattle.osm_entity.specs.Growth.{Grows, IsMonotone}
use Rattle.osm_entity.specs.Items.{ItemValue, key_of}
use Rattle.osm_entity.specs.Machines.{AreLawful}
use Rattle.osm_entity.specs.Meaning.{Cut, finish_after}
use Rattle.osm_entity.specs.OneInput.{KeepsItsRule, GivesAtEnd, meanings_of}
use Rattle.osm_entity.specs.Ports.{added, end_of, fixed, has_end, items_of, stream_of}
use Rattle.osm_entity.specs.Streams.{Stream, IsBefore}
use Rattle.osm_entity.specs.Tasks.{verdict_as}
use Rattle.osm_entity.specs.declared.stream.End.{End}
use Rattle.osm_entity.specs.declared.stream.End.TheVariants.{Done, Broken}
use Rattle.osm_entity.specs.declared.stream.Message.{Message}
use Rattle.osm_entity.specs.declared.stream.Message.TheVariants.{Item as One, End as Last}
use Rattle.osm_entity.specs.declared.stream.Want.TheVariants.{Pull, Take, Give, Ended}
use Rattle.osm_entity.specs.declared.verdict.Verdict.TheVariants.{Running}
use Rattle.osm_entity.proofs.GrowthLemmas.{monotone}
use Rattle.osm_entity.proofs.OneInputLemmas.{rule_is_lawful, takes_by}
use Rattle.osm_entity.proofs.PortLemmas.{before_none, end_of-end, fixed_before, has_end-end, has_end-fixed, has_end-item, items_of-item, none_before, stream_of-end, stream_of-fixed}
use Rattle.osm_change.specs.Simplifying.{SimplifyValue, GathersLatest, GivesLatest, simplify_stands_at, simplify_wants, simplify_verdict, simplifying}
use Rattle.osm_change.specs.Simplified.{kept_behind, last_of_each, stream_simplified, with_latest}
use Rattle.osm_change.specs.declared.phase.Phase.{Phase}
use Rattle.osm_change.specs.declared.phase.Phase.TheVariants.{Gathering, Giving, Closed, Stopped}
use Rattle.osm_merge.specs.Rules.{is_same_key}
use Rattle.osm_change.proofs.LatestLemmas.{last_of_each-more}

-- nothing is fixed before the end, and then all
pub simplify_grows : Grows stream_simplified
simplify_grows = record {
  more = λ xs x. [];
  item = λ xs x. refl;
  last = λ xs end. kept_behind (last_of_each xs) end;
  ended = λ xs end. refl;
  broken = λ xs. refl;
}

pub simplify_is_monotone : IsMonotone stream_simplified
simplify_is_monotone = monotone stream_simplified simplify_grows

-- ---- what holds where it stands

before : (kept : List ItemValue) (phase : Phase) (x y : List Message) → simplify_stands_at kept phase x y →
    IsBefore (stream_of y) (stream_simplified (stream_of x))
before kept Gathering x y s =
    subst (λ ms. IsBefore (stream_of ms) (stream_simplified (stream_of x))) (sym s.nothing)
    (before_none (stream_simplified (stream_of x)))
before kept (Giving end) x y s =
    fixed_before y (fixed true (record { items = kept; end = end })) (stream_simplified (stream_of x)) true s.all
    (λ is. cc)
before kept (Closed end) x y s = fixed_before y [] (stream_simplified (stream_of x)) true s.all (λ is. cc)
before kept Stopped x y s = absurd s

-- what stands at the end of a simplify
record AllGiven (verdict : Phase) (x y : List Message) : Type 0 where
  took_end : has_end x ≡ true
  gave_end : has_end y ≡ true
  whole : stream_of y ≡ stream_simplified (stream_of x)
  judged : simplify_verdict verdict ≡ verdict_as 0 0 (finish_after (end_of x))

all_given : (kept : List ItemValue) (phase : Phase) (x y : List Message) → simplify_stands_at kept phase x y →
    simplify_wants phase ≡ Ended → AllGiven phase x y
all_given kept Gathering x y s w = absurd cc
all_given kept (Giving end) x y s w = absurd cc
all_given kept (Closed end) x y s w =
    let gave : y ≡ fixed true (stream_simplified (stream_of x)) = sym (s.all ∙ append-nil y) in
    record {
      took_end = s.over;
      gave_end = ap has_end gave ∙ has_end-fixed true (stream_simplified (stream_of x));
      whole = ap stream_of gave ∙ stream_of-fixed (stream_simplified (stream_of x));
      judged = ap (λ e. verdict_as 0 0 (finish_after e)) (sym s.met);
    }
all_given kept Stopped x y s w = absurd s

takes : (kept : List ItemValue) (phase : Phase) (x y : List Message) (port : ℕ) → simplify_stands_at kept phase x y →
    simplify_wants phase ≡ Take port → (port ≡ 0) × (has_end x ≡ false)
takes kept Gathering x y port s w = (cc, s.running)
takes kept (Giving end) x y port s w = absurd cc
takes kept (Closed end) x y port s w = absurd cc
takes kept Stopped x y port s w = absurd s

unended : (kept : List ItemValue) (end : End) (x y : List Message) →
    GivesLatest end (fixed true (record { items = kept; end = end })) x y → has_end y ≡ false
unended [] end x y s = none_before y (Last end) [] (stream_simplified (stream_of x)) true s.all
unended (item ∷ kept) end x y s =
    none_before y (One item) (fixed true (record { items = kept; end = end })) (stream_simplified (stream_of x)) true
    s.all

hands : (kept : List ItemValue) (phase : Phase) (x y : List Message) (port : ℕ) → simplify_stands_at kept phase x y →
    simplify_wants phase ≡ Give port → (port ≡ 0) × (has_end y ≡ false)
hands kept Gathering x y port s w = absurd cc
hands kept (Giving end) x y port s w = (cc, unended kept end x y s)
hands kept (Closed end) x y port s w = absurd cc
hands kept Stopped x y port s w = absurd s

runs : (kept : List ItemValue) (phase : Phase) (x y : List Message) → simplify_stands_at kept phase x y →
    (simplify_verdict phase ≡ Running) ↔ (simplify_wants phase ≢ Ended)
runs kept Gathering x y s = (λ is w. cc, λ no. refl)
runs kept (Giving end) x y s = (λ is w. cc, λ no. refl)
runs kept (Closed Done) x y s = (λ is w. cc, λ no. absurd (no refl))
runs kept (Closed Broken) x y s = (λ is w. cc, λ no. absurd (no refl))
runs kept Stopped x y s = absurd s

never_pulls : (phase : Phase) → simplify_wants phase ≢ Pull
never_pulls Gathering = λ is. cc
never_pulls (Giving end) = λ is. cc
never_pulls (Closed end) = λ is. cc
never_pulls Stopped = λ is. cc

never_cut : (end : End) → finish_after end ≢ Cut
never_cut Done = λ is. cc
never_cut Broken = λ is. cc

-- a simplify keeps its rule
pub simplify_keeps : KeepsItsRule simplifying
simplify_keeps = record {
  before = λ m x y s. before m.kept m.phase x y s;
  ended = λ m x y s w. let all = all_given m.kept m.phase x y s w in (all.took_end, all.gave_end);
  whole = λ m x y s w. (all_given m.kept m.phase x y s w).whole;
  judged = λ m x y s w. (all_given m.kept m.phase x y s w).judged;
  takes = λ m x y port s w. takes m.kept m.phase x y port s w;
  hands = λ m x y port s w. hands m.kept m.phase x y port s w;
  running = λ m x y s. runs m.kept m.phase x y s;
  never_pulls = λ m x y s. never_pulls m.phase;
  never_cut = λ m s. never_cut s.end;
  monotone = λ m. simplify_is_monotone;
}

gives_at_end : (kept : List ItemValue) (phase : Phase) (x y : List Message) (port : ℕ) →
    simplify_stands_at kept phase x y →
    simplify_wants phase ≡ Give port → has_end x ≡ true
gives_at_end kept Gathering x y port s w = absurd cc
gives_at_end kept (Giving end) x y port s w = s.over
gives_at_end kept (Closed end) x y port s w = s.over
gives_at_end kept Stopped x y port s w = absurd s

-- it gives only where its input has ended
pub simplify_gives_at_end : GivesAtEnd simplifying
simplify_gives_at_end = λ m x y port holds s w. gives_at_end m.kept m.phase x y port s w

-- so it is lawful
pub simplify_is_lawful : AreLawful (meanings_of simplifying)
simplify_is_lawful =
    rule_is_lawful simplifying simplify_keeps (λ m x y port passes s w. absurd cc) simplify_gives_at_end

-- ---- a message taken

length-by : (b : Bool) (item x : ItemValue) (xs rest : List ItemValue) → length rest ≤ length xs + 1 →
    length (cond b (item ∷ xs) (x ∷ rest)) ≤ length (x ∷ xs) + 1
length-by true item x xs rest fits = omega arith
length-by false item x xs rest fits = omega (arith, fits)

length-latest : (xs : List ItemValue) (item : ItemValue) → length (with_latest xs item) ≤ length xs + 1
length-latest [] item = omega arith
length-latest (x ∷ xs) item = length-by (is_same_key (key_of x) (key_of item)) item x xs (with_latest xs item)
    (length-latest xs item)

length-kept : (items : List ItemValue) (end : End) → length (kept_behind items end) ≤ length items
length-kept items Done = omega arith
length-kept items Broken = omega arith

abbrev at : List ItemValue → Phase → SimplifyValue
at kept phase = record { kept = kept; phase = phase }

took_item : (kept : List ItemValue) (item : ItemValue) (x y : List Message) → GathersLatest kept x y →
    GathersLatest (with_latest kept item) (x ++ One item ∷ []) y
took_item kept item x y s = record {
  running = has_end-item x item ∙ s.running;
  all = ap (λ items. with_latest items item) s.all ∙ sym (last_of_each-more (items_of x) item)
      ∙ sym (ap last_of_each (items_of-item x item s.running));
  nothing = s.nothing;
}

takes_item : (kept : List ItemValue) (phase : Phase) (port : ℕ) (item : ItemValue) → simplify_wants phase ≡ Take port →
    Takes (meanings_of simplifying) port (One item) (at kept phase) (at (with_latest kept item) phase)
takes_item kept Gathering port item w =
    let first : port ≡ 0 = cc in
    let left : length (with_latest kept item) ≤ length kept + 1 = length-latest kept item in
    takes_by simplifying port (One item) (at kept Gathering) (at (with_latest kept item) Gathering) first
    (took_item kept item) left
takes_item kept (Giving end) port item w = absurd cc
takes_item kept (Closed end) port item w = absurd cc
takes_item kept Stopped port item w = absurd cc

-- an item taken is held in the place of the one of its key, or behind all
pub simplify_takes_item : (old new : SimplifyValue) (port : ℕ) (message : Message) (item : ItemValue) →
    message ≡ One item →
    simplify_wants old.phase ≡ Take port → new ≡ at (with_latest old.kept item) old.phase →
    Takes (meanings_of simplifying) port message old new
simplify_takes_item old new port message item is w same = rw (is, same) (takes_item old.kept old.phase port item w)

all_fixed : (kept : List ItemValue) (end : End) (x y : List Message) → GathersLatest kept x y →
    fixed true (stream_simplified (stream_of (x ++ Last end ∷ [])))
    ≡ y ++ fixed true (record { items = kept_behind kept end; end = end })
all_fixed kept end x y s =
    ap (λ t. fixed true (stream_simplified t)) (stream_of-end x end s.running)
    ∙ ap (λ items. fixed true (record { items = kept_behind items end; end = end })) (sym s.all)
    ∙ ap (λ ms. ms ++ fixed true (record { items = kept_behind kept end; end = end })) (sym s.nothing)

took_end : (kept : List ItemValue) (end : End) (x y : List Message) → GathersLatest kept x y →
    GivesLatest end (fixed true (record { items = kept_behind kept end; end = end })) (x ++ Last end ∷ []) y
took_end kept end x y s = record {
  over = has_end-end x end;
  met = end_of-end x end s.running;
  all = all_fixed kept end x y s;
}

takes_end : (kept : List ItemValue) (phase : Phase) (port : ℕ) (end : End) → simplify_wants phase ≡ Take port →
    Takes (meanings_of simplifying) port (Last end) (at kept phase) (at (kept_behind kept end) (Giving end))
takes_end kept Gathering port end w =
    let first : port ≡ 0 = cc in
    let left : length (kept_behind kept end) + 1 ≤ length kept + 1 = omega (arith, length-kept kept end) in
    takes_by simplifying port (Last end) (at kept Gathering) (at (kept_behind kept end) (Giving end)) first
    (took_end kept end) left
takes_end kept (Giving was) port end w = absurd cc
takes_end kept (Closed was) port end w = absurd cc
takes_end kept Stopped port end w = absurd cc

-- at its end the items are kept, or none
pub simplify_takes_end : (old new : SimplifyValue) (port : ℕ) (message : Message) (end : End) → message ≡ Last end →
    simplify_wants old.phase ≡ Take port → new ≡ at (kept_behind old.kept end) (Giving end) →
    Takes (meanings_of simplifying) port message old new
simplify_takes_end old new port message end is w same = rw (is, same) (takes_end old.kept old.phase port end w)

gave_nothing : (kept : List ItemValue) (phase : Phase) (port : ℕ) (x y : List Message) →
    simplify_wants phase ≡ Take port →
    simplify_stands_at kept phase x y → y ≡ []
gave_nothing kept Gathering port x y w s = s.nothing
gave_nothing kept (Giving end) port x y w s = absurd cc
gave_nothing kept (Closed end) port x y w s = absurd cc
gave_nothing kept Stopped port x y w s = absurd s

first_port : (port : ℕ) → port < 1 → port ≡ 0
first_port port known = omega arith

-- out of memory it stops, and gave nothing
pub simplify_stops : (old new : SimplifyValue) (port : ℕ) (message : Message) → simplify_wants old.phase ≡ Take port →
    new.phase ≡ Stopped → StopsInTake (meanings_of simplifying) port message old new
simplify_stops old new port message w is = λ x y given stood. record {
  behind = record {
    gave = λ p known.
        let t : Stream = stream_simplified (stream_of (added x port message 0)) in
        let nothing : y p ≡ [] =
        ap y (first_port p known) ∙ gave_nothing old.kept old.phase port (x 0) (y 0) w stood in
        subst (λ ms. IsBefore (stream_of ms) t) (sym nothing) (before_none t);
    wrote = tt;
    devices = tt;
  };
  verdict = ap simplify_verdict is;
}
