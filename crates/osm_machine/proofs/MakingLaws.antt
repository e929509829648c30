-- The laws of the machine that makes items, and what its calls keep.
use Rattle.std.proofs.Common.{◌≡◌, ◌≢◌, ℕ, ◌+◌, ◌<◌, List, [], ◌∷◌, ◌++◌, map, true, false, refl, sym, ap, subst, ◌∙◌, arith, append_assoc}
use Rattle.std.specs.Prelude.{◌↔◌}
use Rattle.std.proofs.lemmas.List.{append-nil, map-append}
use Rattle.osm_entity.specs.Calls.{Gives, StopsInGive}
use Rattle.osm_entity.specs.Items.{ItemValue}
use Rattle.osm_entity.specs.Machines.{AreLawful, Given, IsBehind, IsNew, MayWant}
use Rattle.osm_entity.specs.Ports.{Ports, fixed, has_end, stream_of, streams}
use Rattle.osm_entity.specs.Streams.{IsBefore}
use Rattle.osm_entity.specs.declared.stream.End.TheVariants.{Done}
use Rattle.osm_entity.specs.declared.stream.Message.{Message}
use Rattle.osm_entity.specs.declared.stream.Message.TheVariants.{Item as One, End as Last}
use Rattle.osm_entity.specs.declared.stream.Want.TheVariants.{Pull, Take, Give, Ended}
use Rattle.osm_entity.specs.declared.verdict.Verdict.TheVariants.{Running}
use Rattle.osm_entity.proofs.PortLemmas.{fixed_before, has_end-fixed, stream_of-fixed}
use Rattle.osm_entity.proofs.PrefixLemmas.{prefix_itself}
use Rattle.osm_entity.proofs.StreamLemmas.{before_itself}
use Rattle.osm_made.specs.Generator.{made_list}
use Rattle.osm_made.specs.Maker.{MadeValue, count_to_come, items_to_come}
use Rattle.osm_machine.specs.Making.{IsMakingAt, MakingStands, MakingValue, done_after, end_to_come, is_making_closed, making, making_verdict, making_wants}
use Rattle.osm_machine.specs.declared.making.Progress.{Progress}
use Rattle.osm_machine.specs.declared.making.Progress.TheVariants.{Going, Closed, Stopped}

-- the one port
first_port : (port : ℕ) → port < 1 → 0 ≡ port
first_port port known = omega arith

-- the first of some items are before all of them
first_before : (all items rest : List ItemValue) (y : List Message) → all ≡ items ++ rest →
    y ≡ fixed false (done_after items) → IsBefore (stream_of y) (done_after all)
first_before all items rest y is gave =
    fixed_before y (map One rest ++ Last Done ∷ []) (done_after all) true
    (ap (λ list. map One list ++ Last Done ∷ []) is
    ∙ ap (λ ms. ms ++ Last Done ∷ []) (map-append One items rest)
    ∙ append_assoc (map One items) (map One rest) (Last Done ∷ [])
    ∙ ap (λ ms. ms ++ (map One rest ++ Last Done ∷ [])) (sym (gave ∙ append-nil (map One items)))) (λ is. absurd cc)

-- all items and the end
whole_by : (m : MakingValue) (y : List Message) → m.progress ≡ Closed → MakingStands m y →
    (has_end y ≡ true) × (stream_of y ≡ done_after (made_list m.made.count m.made.seed))
whole_by m y is s =
    let gave : y ≡ fixed true (done_after s.items) =
    s.gave ∙ ap (λ progress. fixed (is_making_closed progress) (done_after s.items)) is in
    let none : items_to_come m.made ≡ [] = subst (λ progress. IsMakingAt progress (items_to_come m.made)) is s.over in
    let all : made_list m.made.count m.made.seed ≡ s.items =
    s.all ∙ ap (λ rest. s.items ++ rest) none ∙ append-nil s.items in (
      ap has_end gave ∙ has_end-fixed true (done_after s.items),
      ap stream_of gave ∙ stream_of-fixed (done_after s.items)
          ∙ ap done_after (sym all),
    )

-- a machine that gave items alone is behind
items_behind : (m : MakingValue) (items rest : List ItemValue) (x y : Ports) (given : Given MakingValue) →
    made_list m.made.count m.made.seed ≡ items ++ rest → y 0 ≡ fixed false (done_after items) →
    IsBehind making m x y given
items_behind m items rest x y given is gave = record {
  gave = λ port known. subst (λ p. IsBefore (streams y p) (done_after (made_list m.made.count m.made.seed)))
      (first_port port known) (first_before (made_list m.made.count m.made.seed) items rest (y 0) is gave);
  wrote = tt;
  devices = tt;
}

going : (m : MakingValue) (y : List Message) → is_making_closed m.progress ≡ false → (s : MakingStands m y) →
    y ≡ fixed false (done_after s.items)
going m y is s = s.gave ∙ ap (λ closed. fixed closed (done_after s.items)) is

behind_by : (m : MakingValue) (progress : Progress) (x y : Ports) (given : Given MakingValue) → m.progress ≡ progress →
    MakingStands m (y 0) → IsBehind making m x y given
behind_by m Going x y given is s =
    items_behind m s.items (items_to_come m.made) x y given s.all (going m (y 0) (ap is_making_closed is) s)
behind_by m Closed x y given is s = record {
  gave = λ port known. subst (λ p. IsBefore (streams y p) (done_after (made_list m.made.count m.made.seed)))
      (first_port port known)
      (rw (whole_by m (y 0) is s).1 (before_itself (done_after (made_list m.made.count m.made.seed))));
  wrote = tt;
  devices = tt;
}
behind_by m Stopped x y given is s = absurd (subst (λ progress. IsMakingAt progress (items_to_come m.made)) is s.over)

wants_by : (m : MakingValue) (progress : Progress) (x y : Ports) (given : Given MakingValue) → m.progress ≡ progress →
    MakingStands m (y 0) → MayWant making m x y given (making_wants progress)
wants_by m Going x y given is s = record {
  its_own = omega arith;
  unended = ap has_end (going m (y 0) (ap is_making_closed is) s) ∙ has_end-fixed false (done_after s.items);
  held = λ holds. absurd cc;
}
wants_by m Closed x y given is s =
    let whole = whole_by m (y 0) is s in
    record {
      took_ends = λ port known. absurd (omega arith);
      gave_ends = λ port known. subst (λ p. has_end (y p) ≡ true) (first_port port known) whole.0;
      whole = λ port known. subst (λ p. streams y p ≡ done_after (made_list m.made.count m.made.seed))
          (first_port port known) whole.1;
      wrote = λ other. tt;
      judged = λ other. ap making_verdict is;
    }
wants_by m Stopped x y given is s = absurd (subst (λ progress. IsMakingAt progress (items_to_come m.made)) is s.over)

runs_by : (progress : Progress) (items : List ItemValue) → IsMakingAt progress items →
    (making_verdict progress ≡ Running) ↔ (making_wants progress ≢ Ended)
runs_by Going items at = (λ is w. cc, λ no. refl)
runs_by Closed items at = (λ is. absurd cc, λ no. absurd (no refl))
runs_by Stopped items at = absurd at

-- machines that make items are lawful
pub making_is_lawful : AreLawful making
making_is_lawful = record {
  behind = λ m x y given s. behind_by m m.progress x y given refl s;
  wants = λ m x y given s. wants_by m m.progress x y given refl s;
  running = λ m x y given s. runs_by m.progress (items_to_come m.made) s.over;
  onward = λ m. record {
    gives = λ bytes came f g before port. before_itself _;
    text = λ f g before. prefix_itself [];
  };
}

takes_none : (progress : Progress) (port : ℕ) → making_wants progress ≢ Take port
takes_none Going port = λ is. cc
takes_none Closed port = λ is. cc
takes_none Stopped port = λ is. cc

-- a machine that makes items takes no message
pub making_takes_none : (m : MakingValue) (port : ℕ) → making.wanted m ≢ Take port
making_takes_none m port = takes_none m.progress port

pulls_none : (progress : Progress) → making_wants progress ≢ Pull
pulls_none Going = λ is. cc
pulls_none Closed = λ is. cc
pulls_none Stopped = λ is. cc

-- and pulls no bytes
pub making_pulls_none : (m : MakingValue) → making.wanted m ≢ Pull
making_pulls_none m = pulls_none m.progress

going_by : (progress : Progress) (port : ℕ) → making_wants progress ≡ Give port → (progress ≡ Going) × (0 ≡ port)
going_by Going port is = (refl, cc)
going_by Closed port is = absurd cc
going_by Stopped port is = absurd cc

-- where it wants to give it goes on, and gives at the one port
pub making_goes : (m : MakingValue) (port : ℕ) → making.wanted m ≡ Give port → (m.progress ≡ Going) × (0 ≡ port)
making_goes m port is = going_by m.progress port is

-- a machine that is just made
pub making_is_new : (count seed : ℕ) →
    IsNew making (record { made = record { count = count; seed = seed; given = 0 }; progress = Going })
making_is_new count seed = record { items = []; gave = refl; all = refl; over = tt }

-- a hand that gave an item
pub making_gives_item : (old new : MakingValue) (port : ℕ) (item : ItemValue) → making.wanted old ≡ Give port →
    new.progress ≡ old.progress → items_to_come old.made ≡ item ∷ items_to_come new.made →
    new.made ≡ record old.made { given = old.made.given + 1 } →
    count_to_come old.made ≡ count_to_come new.made + 1 → Gives making port (One item) old new
making_gives_item old new port item wants same next made falls =
    let goes = making_goes old port wants in
    let now : new.progress ≡ Going = same ∙ goes.0 in
    subst (λ port. Gives making port (One item) old new) goes.1
    (record {
      stands = λ x y given s. record {
        items = s.items ++ item ∷ [];
        gave = ap (λ ms. ms ++ One item ∷ [])
            (going old (y 0) (ap is_making_closed goes.0) s ∙ append-nil (map One s.items))
            ∙ sym (map-append One s.items (item ∷ [])) ∙ sym (append-nil (map One (s.items ++ item ∷ [])))
            ∙ ap (λ progress. fixed (is_making_closed progress) (done_after (s.items ++ item ∷ []))) (sym now);
        all = ap (λ (m : MadeValue). made_list m.count m.seed) made ∙ s.all ∙ ap (λ rest. s.items ++ rest) next
            ∙ sym (append_assoc s.items (item ∷ []) (items_to_come new.made));
        over = rw now tt;
      };
      left = omega (arith, falls, ap end_to_come same);
    })

-- a hand that gave the end
pub making_gives_end : (old new : MakingValue) (port : ℕ) → making.wanted old ≡ Give port → new.progress ≡ Closed →
    items_to_come old.made ≡ [] → new.made ≡ old.made → Gives making port (Last Done) old new
making_gives_end old new port wants closed none same =
    let goes = making_goes old port wants in
    subst (λ port. Gives making port (Last Done) old new) goes.1
    (record {
      stands = λ x y given s. record {
        items = s.items;
        gave = ap (λ ms. ms ++ Last Done ∷ [])
            (going old (y 0) (ap is_making_closed goes.0) s ∙ append-nil (map One s.items))
            ∙ ap (λ progress. fixed (is_making_closed progress) (done_after s.items)) (sym closed);
        all = ap (λ (m : MadeValue). made_list m.count m.seed) same ∙ s.all
            ∙ ap (λ m. s.items ++ items_to_come m) (sym same);
        over = rw (closed, same) none;
      };
      left = omega (arith, ap count_to_come same, ap end_to_come goes.0, ap end_to_come closed);
    })

-- a hand that was out of memory
pub making_stops : (old new : MakingValue) (port : ℕ) → making.wanted old ≡ Give port → new.progress ≡ Stopped →
    new.made ≡ old.made → StopsInGive making old new
making_stops old new port wants stopped same x y given s =
    let goes = making_goes old port wants in
    record {
      behind = items_behind new s.items (items_to_come new.made) x y given
          (ap (λ (m : MadeValue). made_list m.count m.seed) same ∙ s.all
          ∙ ap (λ m. s.items ++ items_to_come m) (sym same)) (going old (y 0) (ap is_making_closed goes.0) s);
      verdict = ap making_verdict stopped;
    }
