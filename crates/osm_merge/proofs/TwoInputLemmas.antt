-- Machines of two inputs and one output that keep their rule are lawful.
use Rattle.std.proofs.Common.{◌≡◌, ◌⊎◌, inl, inr, ℕ, zero, suc, ◌<◌, ◌≤◌, ◌+◌, List, [], ◌∷◌, ◌++◌, true, false, refl, sym, subst, ◌∙◌, arith}
use Rattle.std.specs.Prelude.{◌≢◌, ◌↔◌}
use Rattle.osm_entity.proofs.PrefixLemmas.{prefix_itself}
use Rattle.osm_entity.specs.Calls.{Takes, Gives}
use Rattle.osm_entity.specs.Growth.{IsMonotoneInBoth}
use Rattle.osm_entity.specs.Machines.{Given, AreLawful, MayWant}
use Rattle.osm_entity.specs.Meaning.{Finish, Whole, Passed, Cut, Wrong}
use Rattle.osm_entity.specs.Ports.{items_of, has_end, stream_of, streams, Ports}
use Rattle.osm_entity.specs.Streams.{Stream, IsBefore}
use Rattle.osm_entity.specs.Tasks.{verdict_as}
use Rattle.osm_entity.specs.declared.stream.Message.{Message}
use Rattle.osm_entity.specs.declared.stream.Want.{Want}
use Rattle.osm_entity.specs.declared.stream.Want.TheVariants.{Pull, Take, Give, Ended}
use Rattle.osm_entity.specs.declared.verdict.Verdict.TheVariants.{Running}
use Rattle.osm_merge.specs.TwoInputs.{TwoInputs, meanings_of_two, two_within}

-- each keeps its rule: what it gave is before the rule of what it took, at its end all of it, and it wants what it may
pub record KeepsRuleOfTwo {M : Type 0} (of : TwoInputs M) : Type 0 where
  pub before : (m : M) (x z y : List Message) → of.stands m x z y →
      IsBefore (stream_of y) (of.rule m (stream_of x) (stream_of z))
  pub ended : (m : M) (x z y : List Message) → of.stands m x z y → of.wanted m ≡ Ended →
      (has_end x ≡ true) × (has_end z ≡ true) × (has_end y ≡ true)
  pub whole : (m : M) (x z y : List Message) → of.stands m x z y → of.wanted m ≡ Ended →
      stream_of y ≡ of.rule m (stream_of x) (stream_of z)
  pub judged : (m : M) (x z y : List Message) → of.stands m x z y → of.wanted m ≡ Ended →
      of.verdict m ≡ verdict_as 0 0 (of.finish m (stream_of x) (stream_of z))
  pub takes : (m : M) (x z y : List Message) (port : ℕ) → of.stands m x z y → of.wanted m ≡ Take port →
      ((port ≡ 0) × (has_end x ≡ false)) ⊎ ((port ≡ 1) × (has_end z ≡ false))
  pub turns : (m : M) (x z y : List Message) (port : ℕ) → of.stands m x z y → of.wanted m ≡ Take port →
      of.turn x z port ≡ true
  pub given : (m : M) (x z y : List Message) (port : ℕ) → of.stands m x z y → of.wanted m ≡ Take port →
      items_of y ≡ (of.rule m (stream_of x) (stream_of z)).items
  pub hands : (m : M) (x z y : List Message) (port : ℕ) → of.stands m x z y → of.wanted m ≡ Give port →
      (port ≡ 0) × (has_end y ≡ false)
  pub running : (m : M) (x z y : List Message) → of.stands m x z y → (of.verdict m ≡ Running) ↔ (of.wanted m ≢ Ended)
  pub never_pulls : (m : M) → of.wanted m ≢ Pull
  pub never_cut : (m : M) (s t : Stream) → of.finish m s t ≢ Cut
  pub monotone : (m : M) → IsMonotoneInBoth (of.rule m)

first_port : (port : ℕ) → port < 1 → port ≡ 0
first_port port known = omega arith

verdict_unless_cut : (limit count : ℕ) (finish : Finish) → finish ≢ Cut →
    verdict_as 0 0 finish ≡ verdict_as limit count finish
verdict_unless_cut limit count Whole not_cut = refl
verdict_unless_cut limit count Passed not_cut = refl
verdict_unless_cut limit count Cut not_cut = absurd (not_cut refl)
verdict_unless_cut limit count (Wrong cause spot) not_cut = refl

own_port : (x : Ports) (port : ℕ) →
    ((port ≡ 0) × (has_end (x 0) ≡ false)) ⊎ ((port ≡ 1) × (has_end (x 1) ≡ false)) →
    (port < 2) × (has_end (x port) ≡ false)
own_port x port (inl first) = (omega (arith, first.0), subst (λ p. has_end (x p) ≡ false) (sym first.0) first.1)
own_port x port (inr second) = (omega (arith, second.0), subst (λ p. has_end (x p) ≡ false) (sym second.0) second.1)

both_ports : (x : Ports) → has_end (x 0) ≡ true → has_end (x 1) ≡ true → (port : ℕ) → port < 2 →
    has_end (x port) ≡ true
both_ports x first second zero known = first
both_ports x first second (suc zero) known = second
both_ports x first second (suc (suc port)) known = absurd (omega (arith, known))

module _ {M : Type 0} (of : TwoInputs M) (keeps : KeepsRuleOfTwo of) (m : M) (x y : Ports) (given : Given M)
    (stands : of.stands m (x 0) (x 1) (y 0)) where
  wants_by : (want : Want) → of.wanted m ≡ want → MayWant (meanings_of_two of) m x y given want
  wants_by Pull is = absurd (keeps.never_pulls m is)
  wants_by (Take port) is =
      let fits = own_port x port (keeps.takes m (x 0) (x 1) (y 0) port stands is) in
      record {
        its_own = fits.0;
        unended = fits.1;
        turn = keeps.turns m (x 0) (x 1) (y 0) port stands is;
        gave = λ passes q known.
            subst (λ p. items_of (y p) ≡ (of.rule m (stream_of (x 0)) (stream_of (x 1))).items)
            (sym (first_port q known)) (keeps.given m (x 0) (x 1) (y 0) port stands is);
      }
  wants_by (Give port) is =
      let fits = keeps.hands m (x 0) (x 1) (y 0) port stands is in
      record {
        its_own = omega (arith, fits.0);
        unended = subst (λ p. has_end (y p) ≡ false) (sym fits.0) fits.1;
        held = λ holds. absurd cc;
      }
  wants_by Ended is =
      let ends = keeps.ended m (x 0) (x 1) (y 0) stands is in
      record {
        took_ends = both_ports x ends.0 ends.1;
        gave_ends = λ q known. subst (λ p. has_end (y p) ≡ true) (sym (first_port q known)) ends.2;
        whole = λ q known. subst (λ p. streams y p ≡ of.rule m (stream_of (x 0)) (stream_of (x 1)))
            (sym (first_port q known)) (keeps.whole m (x 0) (x 1) (y 0) stands is);
        wrote = λ other. tt;
        judged = λ other. keeps.judged m (x 0) (x 1) (y 0) stands is
            ∙ verdict_unless_cut 0 _ (of.finish m (stream_of (x 0)) (stream_of (x 1)))
            (keeps.never_cut m (stream_of (x 0)) (stream_of (x 1)));
      }

-- who keeps its rule is lawful
pub two_are_lawful : {M : Type 0} (of : TwoInputs M) → KeepsRuleOfTwo of → AreLawful (meanings_of_two of)
two_are_lawful of keeps = record {
  behind = λ m x y given stands. record {
    gave = λ port known.
        subst (λ p. IsBefore (streams y p) (of.rule m (stream_of (x 0)) (stream_of (x 1))))
        (sym (first_port port known)) (keeps.before m (x 0) (x 1) (y 0) stands);
    wrote = tt;
    devices = tt;
  };
  wants = λ m x y given stands. wants_by of keeps m x y given stands (of.wanted m) refl;
  running = λ m x y given stands. keeps.running m (x 0) (x 1) (y 0) stands;
  onward = λ m. record {
    gives = λ bytes came f g before port. keeps.monotone m (f 0) (g 0) (f 1) (g 1) (before 0) (before 1);
    text = λ f g before. prefix_itself [];
  };
}

-- machines that hold one that keeps its rule keep it
pub within_keeps : {M N : Type 0} (inner : N → M) (of : TwoInputs M) → KeepsRuleOfTwo of →
    KeepsRuleOfTwo (two_within inner of)
within_keeps inner of keeps = record {
  before = λ n. keeps.before (inner n);
  ended = λ n. keeps.ended (inner n);
  whole = λ n. keeps.whole (inner n);
  judged = λ n. keeps.judged (inner n);
  takes = λ n. keeps.takes (inner n);
  turns = λ n. keeps.turns (inner n);
  given = λ n. keeps.given (inner n);
  hands = λ n. keeps.hands (inner n);
  running = λ n. keeps.running (inner n);
  never_pulls = λ n. keeps.never_pulls (inner n);
  never_cut = λ n. keeps.never_cut (inner n);
  monotone = λ n. keeps.monotone (inner n);
}

-- ---- calls, told by the three lists

pub takes_first : {M : Type 0} (of : TwoInputs M) (port : ℕ) (message : Message) (old new : M) → port ≡ 0 →
    ((x z y : List Message) → of.stands old x z y → of.stands new (x ++ message ∷ []) z y) →
    of.left new ≤ of.left old + 1 → Takes (meanings_of_two of) port message old new
takes_first of port message old new first stands left =
    subst (λ p. Takes (meanings_of_two of) p message old new) (sym first)
    (record { stands = λ x y given stood. stands (x 0) (x 1) (y 0) stood; left = left })

pub takes_second : {M : Type 0} (of : TwoInputs M) (port : ℕ) (message : Message) (old new : M) → port ≡ 1 →
    ((x z y : List Message) → of.stands old x z y → of.stands new x (z ++ message ∷ []) y) →
    of.left new ≤ of.left old + 1 → Takes (meanings_of_two of) port message old new
takes_second of port message old new second stands left =
    subst (λ p. Takes (meanings_of_two of) p message old new) (sym second)
    (record { stands = λ x y given stood. stands (x 0) (x 1) (y 0) stood; left = left })

pub gives_first : {M : Type 0} (of : TwoInputs M) (port : ℕ) (message : Message) (old new : M) → port ≡ 0 →
    ((x z y : List Message) → of.stands old x z y → of.stands new x z (y ++ message ∷ [])) →
    of.left new < of.left old → Gives (meanings_of_two of) port message old new
gives_first of port message old new first stands left =
    subst (λ p. Gives (meanings_of_two of) p message old new) (sym first)
    (record { stands = λ x y given stood. stands (x 0) (x 1) (y 0) stood; left = left })

-- and of a machine within another
pub takes_within : {M N : Type 0} (inner : N → M) (of : TwoInputs M) (port : ℕ) (message : Message) (old new : N) →
    Takes (meanings_of_two of) port message (inner old) (inner new) →
    Takes (meanings_of_two (two_within inner of)) port message old new
takes_within inner of port message old new takes = record {
  stands = λ x y given stood. takes.stands x y (record {
    made = inner given.made;
    bytes = given.bytes;
    came = given.came;
    over = given.over;
  }) stood;
  left = takes.left;
}

pub gives_within : {M N : Type 0} (inner : N → M) (of : TwoInputs M) (port : ℕ) (message : Message) (old new : N) →
    Gives (meanings_of_two of) port message (inner old) (inner new) →
    Gives (meanings_of_two (two_within inner of)) port message old new
gives_within inner of port message old new gives = record {
  stands = λ x y given stood. gives.stands x y (record {
    made = inner given.made;
    bytes = given.bytes;
    came = given.came;
    over = given.over;
  }) stood;
  left = gives.left;
}
