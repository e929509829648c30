-- The machines of the two tasks without a file are lawful.
use Rattle.std.proofs.Common.{◌≡◌, ℕ, ◌<◌, [], ◌∷◌, ◌++◌, length, Bool, true, false, Option, Some, None, refl, sym, ap, subst, ◌∙◌, arith}
use Rattle.std.specs.Prelude.{◌≢◌, ◌↔◌}
use Rattle.osm_entity.specs.Calls.{Takes, Gives}
use Rattle.osm_entity.specs.Growth.{broken_after}
use Rattle.osm_entity.specs.Machines.{Given, AreLawful, MayWant}
use Rattle.osm_entity.specs.Ports.{Ports, has_end, stream_of, streams}
use Rattle.osm_entity.specs.Streams.{Stream, IsBefore}
use Rattle.osm_entity.specs.declared.stream.End.{End}
use Rattle.osm_entity.specs.declared.stream.End.TheVariants.{Done, Broken}
use Rattle.osm_entity.specs.declared.stream.Message.{Message}
use Rattle.osm_entity.specs.declared.stream.Message.TheVariants.{End as Last}
use Rattle.osm_entity.specs.declared.stream.Want.TheVariants.{Pull, Take, Give, Ended}
use Rattle.osm_entity.specs.declared.verdict.Verdict.TheVariants.{Running}
use Rattle.osm_entity.proofs.PortLemmas.{before_none}
use Rattle.osm_entity.proofs.PrefixLemmas.{prefix_itself}
use Rattle.osm_entity.proofs.StreamLemmas.{before_itself}
use Rattle.osm_machine.specs.Copying.{end_taken}
use Rattle.osm_machine.specs.Emptying.{dropping, dropping_verdict, dropping_wants, empty_verdict, empty_wants, emptying, given_empty}
use Rattle.osm_machine.specs.declared.emptying.Dropping.{Dropping}
use Rattle.osm_machine.specs.declared.emptying.Empty.{Empty}
use Rattle.osm_machine.proofs.CopyingLemmas.{came, end_taken-more, none_came, verdict_at_end}

-- ---- no item

abbrev nothing : Stream
nothing = record { items = []; end = Done }

first_port : (port : ℕ) → port < 1 → 0 ≡ port
first_port port known = omega arith

before_by : (closed : Bool) → IsBefore (stream_of (given_empty closed)) nothing
before_by false = before_none nothing
before_by true = before_itself nothing

empty_wants_by : (m : Empty) (closed : Bool) (x y : Ports) (given : Given Empty) → m.closed ≡ closed →
    y 0 ≡ given_empty closed → MayWant emptying m x y given (empty_wants closed)
empty_wants_by m false x y given is gave =
    record { its_own = omega arith; unended = ap has_end gave; held = λ holds. absurd cc }
empty_wants_by m true x y given is gave = record {
  took_ends = λ port known. absurd (omega (arith, known));
  gave_ends = λ port known. subst (λ p. has_end (y p) ≡ true) (first_port port known) (ap has_end gave);
  whole = λ port known. subst (λ p. streams y p ≡ nothing) (first_port port known) (ap stream_of gave);
  wrote = λ other. tt;
  judged = λ other. ap empty_verdict is;
}

empty_runs_by : (closed : Bool) → (empty_verdict closed ≡ Running) ↔ (empty_wants closed ≢ Ended)
empty_runs_by false = (λ is w. cc, λ no. refl)
empty_runs_by true = (λ is w. cc, λ no. absurd (no refl))

pub emptying_is_lawful : AreLawful emptying
emptying_is_lawful = record {
  behind = λ m x y given gave. record {
    gave = λ port known. subst (λ p. IsBefore (streams y p) nothing) (first_port port known)
        (subst (λ ms. IsBefore (stream_of ms) nothing) (sym gave) (before_by m.closed));
    wrote = tt;
    devices = tt;
  };
  wants = λ m x y given gave. empty_wants_by m m.closed x y given refl gave;
  running = λ m x y given gave. empty_runs_by m.closed;
  onward = λ m. record {
    gives = λ bytes came f g before port. before_itself nothing;
    text = λ f g before. prefix_itself [];
  };
}

pub emptying_takes_none : (closed : Bool) (port : ℕ) → empty_wants closed ≢ Take port
emptying_takes_none false port = λ is. cc
emptying_takes_none true port = λ is. cc

pub emptying_pulls_none : (closed : Bool) → empty_wants closed ≢ Pull
emptying_pulls_none false = λ is. cc
emptying_pulls_none true = λ is. cc

pub emptying_gives : (closed : Bool) (port : ℕ) → empty_wants closed ≡ Give port →
    Gives emptying port (Last Done) (record { closed = closed }) (record { closed = true })
emptying_gives true port w = absurd cc
emptying_gives false port w =
    let first : 0 ≡ port = cc in
    subst (λ p. Gives emptying p (Last Done) (record { closed = false }) (record { closed = true })) first (record {
      stands = λ x y given gave. ap (λ ms. ms ++ Last Done ∷ []) gave;
      left = omega arith;
    })

-- ---- the input is dropped

dropping_wants_by : (m : Dropping) (end : Option End) (x y : Ports) (given : Given Dropping) → m.end ≡ end →
    end ≡ end_taken (x 0) → MayWant dropping m x y given (dropping_wants end)
dropping_wants_by m None x y given is met = record {
  its_own = omega arith;
  unended = none_came (x 0) met;
  turn = refl;
  gave = λ passes port known. absurd (omega (arith, known));
}
dropping_wants_by m (Some e) x y given is met =
    let over = came (x 0) e met in
    record {
      took_ends = λ port known. subst (λ p. has_end (x p) ≡ true) (first_port port known) over.0;
      gave_ends = λ port known. absurd (omega (arith, known));
      whole = λ port known. absurd (omega (arith, known));
      wrote = λ other. tt;
      judged = λ other. rw (is, over.1) (verdict_at_end 0 (length given.bytes) e);
    }

dropping_runs_by : (end : Option End) → (dropping_verdict end ≡ Running) ↔ (dropping_wants end ≢ Ended)
dropping_runs_by None = (λ is w. cc, λ no. refl)
dropping_runs_by (Some Done) = (λ is w. cc, λ no. absurd (no refl))
dropping_runs_by (Some Broken) = (λ is w. cc, λ no. absurd (no refl))

pub dropping_is_lawful : AreLawful dropping
dropping_is_lawful = record {
  behind = λ m x y given met. record {
    gave = λ port known. absurd (omega (arith, known));
    wrote = tt;
    devices = tt;
  };
  wants = λ m x y given met. dropping_wants_by m m.end x y given refl met;
  running = λ m x y given met. dropping_runs_by m.end;
  onward = λ m. record {
    gives = λ bytes came f g before port. before_itself (broken_after []);
    text = λ f g before. prefix_itself [];
  };
}

pub dropping_gives_none : (end : Option End) (port : ℕ) → dropping_wants end ≢ Give port
dropping_gives_none None port = λ is. cc
dropping_gives_none (Some e) port = λ is. cc

pub dropping_pulls_none : (end : Option End) → dropping_wants end ≢ Pull
dropping_pulls_none None = λ is. cc
dropping_pulls_none (Some e) = λ is. cc

empty : (end : Option End) (port : ℕ) → dropping_wants end ≡ Take port → (0 ≡ port) × (end ≡ None)
empty None port w = (cc, refl)
empty (Some e) port w = absurd cc

pub dropping_takes : (m : Dropping) (message : Message) (port : ℕ) (end : Option End) →
    end ≡ end_taken (message ∷ []) → dropping_wants m.end ≡ Take port →
    Takes dropping port message m (record m { end = end })
dropping_takes m message port end is w =
    let at = empty m.end port w in
    subst (λ p. Takes dropping p message m (record m { end = end })) at.0 (record {
      stands = λ x y given met. is ∙ end_taken-more message (x 0) (none_came (x 0) (sym at.1 ∙ met));
      left = omega arith;
    })
