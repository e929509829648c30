-- Machines of one input and one output that keep their rule are lawful.
use Rattle.std.proofs.Common.{◌≡◌, ℕ, ◌<◌, ◌≤◌, ◌+◌, List, [], ◌∷◌, ◌++◌, true, false, refl, sym, subst, ◌∙◌, arith}
use Rattle.std.specs.Prelude.{◌≢◌}
use Rattle.osm_entity.specs.Calls.{Takes, Gives}
use Rattle.osm_entity.specs.Machines.{Given, AreLawful, MayWant}
use Rattle.osm_entity.specs.Meaning.{Finish, Whole, Passed, Cut, Wrong}
use Rattle.osm_entity.specs.OneInput.{OneInput, KeepsItsRule, GivesAtOnce, GivesAtEnd, meanings_of}
use Rattle.osm_entity.specs.Ports.{Ports, items_of, has_end, stream_of, streams}
use Rattle.osm_entity.specs.Streams.{IsBefore}
use Rattle.osm_entity.specs.Tasks.{verdict_as}
use Rattle.osm_entity.specs.declared.stream.Message.{Message}
use Rattle.osm_entity.specs.declared.stream.Want.{Want}
use Rattle.osm_entity.specs.declared.stream.Want.TheVariants.{Pull, Take, Give, Ended}
use Rattle.osm_entity.proofs.PrefixLemmas.{prefix_itself}

first_port : (port : ℕ) → port < 1 → port ≡ 0
first_port port known = omega arith

verdict_unless_cut : (limit count : ℕ) (finish : Finish) → finish ≢ Cut →
    verdict_as 0 0 finish ≡ verdict_as limit count finish
verdict_unless_cut limit count Whole not_cut = refl
verdict_unless_cut limit count Passed not_cut = refl
verdict_unless_cut limit count Cut not_cut = absurd (not_cut refl)
verdict_unless_cut limit count (Wrong cause spot) not_cut = refl

wants_by : {M : Type 0} (of : OneInput M) (m : M) (x y : Ports) (given : Given M) (want : Want) → KeepsItsRule of →
    GivesAtOnce of → GivesAtEnd of →
    of.stands m (x 0) (y 0) → of.wanted m ≡ want → MayWant (meanings_of of) m x y given want
wants_by of m x y given Pull keeps at_once at_end stands is = absurd (keeps.never_pulls m (x 0) (y 0) stands is)
wants_by of m x y given (Take port) keeps at_once at_end stands is =
    let fits = keeps.takes m (x 0) (y 0) port stands is in
    record {
      its_own = omega (arith, fits.0);
      unended = subst (λ p. has_end (x p) ≡ false) (sym fits.0) fits.1;
      turn = refl;
      gave = λ passes q known. subst (λ p. items_of (y p) ≡ (of.rule m (stream_of (x 0))).items)
          (sym (first_port q known)) (at_once m (x 0) (y 0) port passes stands is);
    }
wants_by of m x y given (Give port) keeps at_once at_end stands is =
    let fits = keeps.hands m (x 0) (y 0) port stands is in
    record {
      its_own = omega (arith, fits.0);
      unended = subst (λ p. has_end (y p) ≡ false) (sym fits.0) fits.1;
      held = λ holds q known. subst (λ p. has_end (x p) ≡ true) (sym (first_port q known))
          (at_end m (x 0) (y 0) port holds stands is);
    }
wants_by of m x y given Ended keeps at_once at_end stands is =
    let ends = keeps.ended m (x 0) (y 0) stands is in
    record {
      took_ends = λ q known. subst (λ p. has_end (x p) ≡ true) (sym (first_port q known)) ends.0;
      gave_ends = λ q known. subst (λ p. has_end (y p) ≡ true) (sym (first_port q known)) ends.1;
      whole = λ q known. subst (λ p. streams y p ≡ of.rule m (stream_of (x 0))) (sym (first_port q known))
          (keeps.whole m (x 0) (y 0) stands is);
      wrote = λ other. tt;
      judged = λ other. keeps.judged m (x 0) (y 0) stands is
          ∙ verdict_unless_cut 0 _ (of.finish m (stream_of (x 0))) (keeps.never_cut m (stream_of (x 0)));
    }

-- who keeps its rule, and gives at once or at its end, is lawful
pub rule_is_lawful : {M : Type 0} (of : OneInput M) → KeepsItsRule of → GivesAtOnce of → GivesAtEnd of →
    AreLawful (meanings_of of)
rule_is_lawful of keeps at_once at_end = record {
  behind = λ m x y given stands. record {
    gave = λ port known. subst (λ p. IsBefore (streams y p) (of.rule m (stream_of (x 0)))) (sym (first_port port known))
        (keeps.before m (x 0) (y 0) stands);
    wrote = tt;
    devices = tt;
  };
  wants = λ m x y given stands. wants_by of m x y given (of.wanted m) keeps at_once at_end stands refl;
  running = λ m x y given stands. keeps.running m (x 0) (y 0) stands;
  onward = λ m. record {
    gives = λ bytes came f g before port. keeps.monotone m (f 0) (g 0) (before 0);
    text = λ f g before. prefix_itself [];
  };
}

-- a message taken, told by the two lists
pub takes_by : {M : Type 0} (of : OneInput M) (port : ℕ) (message : Message) (old new : M) → port ≡ 0 →
    ((x y : List Message) → of.stands old x y → of.stands new (x ++ message ∷ []) y) → of.left new ≤ of.left old + 1 →
    Takes (meanings_of of) port message old new
takes_by of port message old new first stands left = subst (λ p. Takes (meanings_of of) p message old new) (sym first)
    (record { stands = λ x y given stood. stands (x 0) (y 0) stood; left = left })

-- a message given, told by the two lists
pub gives_by : {M : Type 0} (of : OneInput M) (port : ℕ) (message : Message) (old new : M) → port ≡ 0 →
    ((x y : List Message) → of.stands old x y → of.stands new x (y ++ message ∷ [])) → of.left new < of.left old →
    Gives (meanings_of of) port message old new
gives_by of port message old new first stands left = subst (λ p. Gives (meanings_of of) p message old new) (sym first)
    (record { stands = λ x y given stood. stands (x 0) (y 0) stood; left = left })
