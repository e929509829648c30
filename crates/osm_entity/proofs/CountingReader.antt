-- A reader that only counts the bytes of its source, of which it reads five, meets the contract of a machine.
use Rattle.std.proofs.Common.{◌≡◌, ℕ, zero, suc, ◌<◌, ◌≤◌, ◌+◌, ◌-◌, List, [], ◌∷◌, ◌++◌, length, Bool, true, false, None, refl, sym, ap, subst, ◌∙◌, arith}
use Rattle.std.specs.Prelude.{◌≢◌, ◌↔◌, ◌==◌, ◌||◌, nat_lt, if◌then◌else◌}
use Rattle.std.proofs.lemmas.List.{length-append}
use Rattle.osm_entity.specs.Calls.{Pulls}
use Rattle.osm_entity.specs.Machines.{Given, Meanings, IsNew, MayWant, AreLawful}
use Rattle.osm_entity.specs.Meaning.{Finish, Whole, Cut}
use Rattle.osm_entity.specs.Ports.{Ports, has_end, stream_of, streams, items_of}
use Rattle.osm_entity.specs.Streams.{Stream, IsBefore}
use Rattle.osm_entity.specs.Tasks.{verdict_as}
use Rattle.osm_entity.specs.declared.stream.End.{End}
use Rattle.osm_entity.specs.declared.stream.End.TheVariants.{Done, Broken}
use Rattle.osm_entity.specs.declared.stream.Message.{Message}
use Rattle.osm_entity.specs.declared.stream.Message.TheVariants.{End as Last}
use Rattle.osm_entity.specs.declared.stream.Want.{Want}
use Rattle.osm_entity.specs.declared.stream.Want.TheVariants.{Pull, Give, Ended}
use Rattle.osm_entity.specs.declared.verdict.Verdict.{Verdict}
use Rattle.osm_entity.specs.declared.verdict.Verdict.TheVariants.{Running, TooLong, Read}
use Rattle.osm_entity.proofs.PortLemmas.{before_none}
use Rattle.osm_entity.proofs.PrefixLemmas.{prefix_itself}
use Rattle.osm_entity.proofs.StreamLemmas.{before_itself}

-- how many bytes came, whether their end came, whether its pulls are over, and whether it gave its end
record Counting : Type 0 where
  count : ℕ
  came : Bool
  over : Bool
  closed : Bool

abbrev end_by : Bool → End
end_by true = Done
end_by false = Broken

abbrev finish_by : Bool → Finish
finish_by true = Whole
finish_by false = Cut

abbrev ending : Bool → Stream
ending came = record { items = []; end = end_by came }

abbrev given_by : Bool → Bool → List Message
given_by closed came = if closed then Last (end_by came) ∷ [] else []

abbrev wants : Bool → Bool → Want
wants over true = Ended
wants true false = Give 0
wants false false = Pull

abbrev says : Bool → Bool → ℕ → Verdict
says true came count = verdict_as 5 count (finish_by came)
says false came count = Running

abbrev left_by : Bool → Bool → ℕ → ℕ
left_by over true count = 0
left_by true false count = 1
left_by false false count = 7 - count

record Counts (m : Counting) (y : Ports) (given : Given Counting) : Type 0 where
  made : given.made.count ≡ 0
  count : m.count ≡ length given.bytes
  came : m.came ≡ given.came
  over : m.over ≡ given.over
  gave : y 0 ≡ given_by m.closed given.came

abbrev counting : Meanings Counting
counting = record {
  task = λ m. record {
    inputs = 0;
    outputs = 1;
    limit = 5;
    gives = λ bytes came f port. ending came;
    text = λ f. [];
    finish = λ bytes came f. finish_by came;
    turn = λ x port. true;
    holds = false;
  };
  stands = λ m x y given. Counts m y given;
  wanted = λ m. wants m.over m.closed;
  verdict = λ m. says m.closed m.came m.count;
  wrote = λ m. None;
  devices = λ m given. m.count ≡ given.made.count + length given.bytes;
  left = λ m. left_by m.over m.closed m.count;
}

first_port : (port : ℕ) → port < 1 → 0 ≡ port
first_port port known = omega arith

before_by : (closed came : Bool) (y : List Message) → y ≡ given_by closed came → IsBefore (stream_of y) (ending came)
before_by true came y is = rw is (before_itself (ending came))
before_by false came y is = rw is (before_none (ending came))

whole_by : (came : Bool) (y : List Message) → y ≡ given_by true came → (has_end y ≡ true) × (stream_of y ≡ ending came)
whole_by came y is = (ap has_end is, ap stream_of is)

wants_by : (m : Counting) (over closed : Bool) (x y : Ports) (given : Given Counting) → m.over ≡ over →
    m.closed ≡ closed → Counts m y given → MayWant counting m x y given (wants over closed)
wants_by m over true x y given is shut s =
    let all = whole_by given.came (y 0) (s.gave ∙ ap (λ b. given_by b given.came) shut) in
    record {
      took_ends = λ port known. absurd (omega arith);
      gave_ends = λ port known. subst (λ p. has_end (y p) ≡ true) (first_port port known) all.0;
      whole = λ port known. subst (λ p. streams y p ≡ ending given.came) (first_port port known) all.1;
      wrote = λ other. tt;
      judged = λ other. rw (shut, s.came, s.count) refl;
    }
wants_by m true false x y given is shut s = record {
  its_own = omega arith;
  unended = ap has_end (s.gave ∙ ap (λ b. given_by b given.came) shut);
  held = λ holds. absurd cc;
}
wants_by m false false x y given is shut s =
    let none : y 0 ≡ [] = s.gave ∙ ap (λ b. given_by b given.came) shut in
    record {
      no_input = refl;
      one_output = refl;
      unended = ap has_end none;
      goes_on = sym s.over ∙ is;
      gave = λ port known. subst (λ p. items_of (y p) ≡ []) (first_port port known) (ap items_of none);
    }

not_running : (count : ℕ) (came : Bool) → verdict_as 5 count (finish_by came) ≢ Running
not_running count true is = cc
not_running count false is = late (nat_lt 5 count) is where
  late : (b : Bool) → (if b then TooLong else Read) ≢ Running
  late true is = cc
  late false is = cc

runs_by : (over closed came : Bool) (count : ℕ) → (says closed came count ≡ Running) ↔ (wants over closed ≢ Ended)
runs_by over true came count = (λ is w. not_running count came is, λ no. absurd (no refl))
runs_by true false came count = (λ is w. cc, λ no. refl)
runs_by false false came count = (λ is w. cc, λ no. refl)

counting_is_lawful : AreLawful counting
counting_is_lawful = record {
  behind = λ m x y given s. record {
    gave = λ port known. subst (λ p. IsBefore (streams y p) (ending given.came)) (first_port port known)
        (before_by m.closed given.came (y 0) s.gave);
    wrote = tt;
    devices = omega (arith, s.count, s.made);
  };
  wants = λ m x y given s. wants_by m m.over m.closed x y given refl refl s;
  running = λ m x y given s. runs_by m.over m.closed m.came m.count;
  onward = λ m. record {
    gives = λ bytes came f g before port. before_itself (ending came);
    text = λ f g before. prefix_itself [];
  };
}

counting_is_new : IsNew counting (record { count = 0; came = false; over = false; closed = false })
counting_is_new = record { made = refl; count = refl; came = refl; over = refl; gave = refl }

abbrev pulled : List ℕ → Bool → ℕ → Counting
pulled piece came count = record {
  count = count + length piece;
  came = came;
  over = (length piece == 0) || nat_lt 5 (count + length piece);
  closed = false;
}

falls : (over : Bool) (n count : ℕ) → count ≤ 5 → ((n == 0) || nat_lt 5 (count + n)) ≡ over →
    left_by over false (count + n) < 7 - count
falls true n count few is = omega (arith, few)
falls false zero count few is = absurd cc
falls false (suc n) count few is = omega (arith, few)

counting_pulls : (m : Counting) (piece : List ℕ) (came : Bool) → m.over ≡ false → m.closed ≡ false → m.count ≤ 5 →
    Pulls counting m (pulled piece came m.count)
counting_pulls m piece came is shut few = record {
  piece = piece;
  came = came;
  stands = λ x y given s.
      let count : m.count + length piece ≡ length (given.bytes ++ piece) =
      ap (λ n. n + length piece) s.count ∙ sym (length-append given.bytes piece) in
      record {
        made = s.made;
        count = count;
        came = refl;
        over = ap (λ n. (length piece == 0) || nat_lt 5 n) count;
        gave = s.gave ∙ ap (λ b. given_by b given.came) shut;
      };
  left = rw (is, shut)
      (falls ((length piece == 0) || nat_lt 5 (m.count + length piece)) (length piece) m.count few refl);
}
