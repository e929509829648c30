-- A machine that is one of several parts is lawful where its part is, and its calls do what the part's calls do.
use Rattle.std.proofs.Common.{◌≡◌, ap, ℕ, refl, sym, subst, ◌∙◌}
use Rattle.std.specs.Prelude.{◌≢◌, ◌↔◌}
use Rattle.osm_entity.specs.Calls.{Pulls, StopsInPull, Takes, StopsInTake, Gives, StopsInGive}
use Rattle.osm_entity.specs.Machines.{Given, Meanings, StandsFor, IsNew, IsBehind, IsStopped, MayWant, AreLawful, nothing_given, with_piece}
use Rattle.osm_entity.specs.Ports.{Ports, added, no_messages}
use Rattle.osm_entity.specs.Tasks.{IsOnward}
use Rattle.osm_entity.specs.declared.stream.Message.{Message}
use Rattle.osm_entity.specs.declared.stream.Want.{Want}
use Rattle.osm_entity.specs.declared.stream.Want.TheVariants.{Pull, Take, Give, Ended}
use Rattle.osm_entity.specs.declared.verdict.Verdict.TheVariants.{Running}
use Rattle.osm_machine.specs.Sums.{DevicesAs, MeaningAt, StandsAs, given_as, meanings_by, part_means}

-- what a machine that is a part means is what the part means
pub record IsPart {P M : Type 0} (of : Meanings P) (whole : Meanings M) (all : P → M) : Type 0 where
  pub task : (p : P) → whole.task (all p) ≡ of.task p
  pub wanted : (p : P) → whole.wanted (all p) ≡ of.wanted p
  pub verdict : (p : P) → whole.verdict (all p) ≡ of.verdict p
  pub wrote : (p : P) → whole.wrote (all p) ≡ of.wrote p
  pub left : (p : P) → whole.left (all p) ≡ of.left p
  pub stood : (p : P) (x y : Ports) (given : Given M) → StandsFor whole (all p) x y given → StandsAs of all p x y given
  pub stands : (p : P) (x y : Ports) (given : Given M) → StandsAs of all p x y given → StandsFor whole (all p) x y given
  pub devices : (p : P) (given : Given M) → DevicesAs of all p given → whole.devices (all p) given

-- machines of which each part means its own
pub is_part : {P M : Type 0} (of : Meanings P) (means : M → MeaningAt M) (all : P → M) →
    ((p : P) → means (all p) ≡ part_means of all p) → IsPart of (meanings_by means) all
is_part of means all is = record {
  task = λ p. ap (λ a. a.task) (is p);
  wanted = λ p. ap (λ a. a.wanted) (is p);
  verdict = λ p. ap (λ a. a.verdict) (is p);
  wrote = λ p. ap (λ a. a.wrote) (is p);
  left = λ p. ap (λ a. a.left) (is p);
  stood = λ p x y given s. subst (λ a. a.stands x y given) (is p) s;
  stands = λ p x y given s. subst (λ a. a.stands x y given) (sym (is p)) s;
  devices = λ p given d. subst (λ a. a.devices given) (sym (is p)) d;
}

-- a machine is lawful, and of a task that is onward
pub record IsLawful {M : Type 0} (of : Meanings M) (m : M) : Type 0 where
  pub behind : (x y : Ports) (given : Given M) → StandsFor of m x y given → IsBehind of m x y given
  pub wants : (x y : Ports) (given : Given M) → StandsFor of m x y given → MayWant of m x y given (of.wanted m)
  pub running : (x y : Ports) (given : Given M) → StandsFor of m x y given →
      (of.verdict m ≡ Running) ↔ (of.wanted m ≢ Ended)
  pub onward : IsOnward (of.task m)

module _ {P M : Type 0} (of : Meanings P) (whole : Meanings M) (all : P → M) (part : IsPart of whole all) where
  -- the part's meanings, told by those of the machine
  abbrev told : Meanings P
  told = record {
    task = λ p. whole.task (all p);
    stands = of.stands;
    wanted = λ p. whole.wanted (all p);
    verdict = λ p. whole.verdict (all p);
    wrote = λ p. whole.wrote (all p);
    devices = of.devices;
    left = λ p. whole.left (all p);
  }

  same : told ≡ of
  same = λ i. record {
    task = λ p. part.task p i;
    stands = of.stands;
    wanted = λ p. part.wanted p i;
    verdict = λ p. part.verdict p i;
    wrote = λ p. part.wrote p i;
    devices = of.devices;
    left = λ p. part.left p i;
  }

  behind_as : (p : P) (x y : Ports) (own : Given P) → IsBehind told p x y own →
      IsBehind whole (all p) x y (given_as all own)
  behind_as p x y own behind = record {
    gave = behind.gave;
    wrote = behind.wrote;
    devices = part.devices p (given_as all own) (record { own = own; made = refl; devices = behind.devices });
  }

  wants_as : (p : P) (x y : Ports) (own : Given P) (want : Want) → MayWant told p x y own want →
      MayWant whole (all p) x y (given_as all own) want
  wants_as p x y own Pull may = record {
    no_input = may.no_input;
    one_output = may.one_output;
    unended = may.unended;
    goes_on = may.goes_on;
    gave = may.gave;
  }
  wants_as p x y own (Take port) may =
      record { its_own = may.its_own; unended = may.unended; turn = may.turn; gave = may.gave }
  wants_as p x y own (Give port) may = record { its_own = may.its_own; unended = may.unended; held = may.held }
  wants_as p x y own Ended may = record {
    took_ends = may.took_ends;
    gave_ends = may.gave_ends;
    whole = may.whole;
    wrote = may.wrote;
    judged = may.judged;
  }

  -- of each fact that a machine stands for, the part's own
  stood_as : (p : P) (x y : Ports) (given : Given M) (Q : Given M → Type 0) →
      ((own : Given P) → StandsFor told p x y own → Q (given_as all own)) → StandsFor whole (all p) x y given → Q given
  stood_as p x y given Q from s =
      let own = part.stood p x y given s in subst Q (sym own.made) (from own.own own.stands)

  stands_as : (p : P) (x y : Ports) (own : Given P) → StandsFor told p x y own →
      StandsFor whole (all p) x y (given_as all own)
  stands_as p x y own s = part.stands p x y (given_as all own) (record { own = own; made = refl; stands = s })

  pub part_is_lawful : AreLawful of → (p : P) → IsLawful whole (all p)
  part_is_lawful lawful p =
      let laws : AreLawful told = subst AreLawful (sym same) lawful in
      record {
        behind = λ x y given. stood_as p x y given (IsBehind whole (all p) x y)
            (λ own s. behind_as p x y own (laws.behind p x y own s));
        wants = λ x y given. stood_as p x y given (λ g. MayWant whole (all p) x y g (whole.wanted (all p)))
            (λ own s. wants_as p x y own (whole.wanted (all p)) (laws.wants p x y own s));
        running = λ x y given. stood_as p x y given
            (λ g. (whole.verdict (all p) ≡ Running) ↔ (whole.wanted (all p) ≢ Ended))
            (λ own s. laws.running p x y own s);
        onward = laws.onward p;
      }

  pub part_is_new : (p : P) → IsNew of p → IsNew whole (all p)
  part_is_new p new = stands_as p no_messages no_messages (nothing_given p) new

  stopped_as : (p : P) (x y : Ports) (own : Given P) → IsStopped told p x y own →
      IsStopped whole (all p) x y (given_as all own)
  stopped_as p x y own stopped =
      record { behind = behind_as p x y own stopped.behind; verdict = stopped.verdict }

  pub part_takes : (port : ℕ) (message : Message) (old new : P) → Takes of port message old new →
      Takes whole port message (all old) (all new)
  part_takes port message old new takes =
      let took : Takes told port message old new = subst (λ m. Takes m port message old new) (sym same) takes in
      record {
        stands = λ x y given. stood_as old x y given (StandsFor whole (all new) (added x port message) y)
            (λ own s. stands_as new (added x port message) y own (took.stands x y own s));
        left = took.left;
      }

  pub part_stops_in_take : (port : ℕ) (message : Message) (old new : P) → StopsInTake of port message old new →
      StopsInTake whole port message (all old) (all new)
  part_stops_in_take port message old new stops =
      let stopped : StopsInTake told port message old new =
      subst (λ m. StopsInTake m port message old new) (sym same) stops in
      λ x y given. stood_as old x y given (IsStopped whole (all new) (added x port message) y)
      (λ own s. stopped_as new (added x port message) y own (stopped x y own s))

  pub part_gives : (port : ℕ) (message : Message) (old new : P) → Gives of port message old new →
      Gives whole port message (all old) (all new)
  part_gives port message old new gives =
      let gave : Gives told port message old new = subst (λ m. Gives m port message old new) (sym same) gives in
      record {
        stands = λ x y given. stood_as old x y given (StandsFor whole (all new) x (added y port message))
            (λ own s. stands_as new x (added y port message) own (gave.stands x y own s));
        left = gave.left;
      }

  pub part_stops_in_give : (old new : P) → StopsInGive of old new → StopsInGive whole (all old) (all new)
  part_stops_in_give old new stops =
      let stopped : StopsInGive told old new = subst (λ m. StopsInGive m old new) (sym same) stops in
      λ x y given. stood_as old x y given (IsStopped whole (all new) x y)
      (λ own s. stopped_as new x y own (stopped x y own s))

  pub part_pulls : (old new : P) → Pulls of old new → Pulls whole (all old) (all new)
  part_pulls old new pulls =
      let pulled : Pulls told old new = subst (λ m. Pulls m old new) (sym same) pulls in
      let limit = (whole.task (all old)).limit in
      record {
        piece = pulled.piece;
        came = pulled.came;
        stands = λ x y given. stood_as old x y given
            (λ g. StandsFor whole (all new) x y (with_piece limit pulled.piece pulled.came g))
            (λ own s. stands_as new x y (with_piece limit pulled.piece pulled.came own) (pulled.stands x y own s));
        left = pulled.left;
      }

  pub part_stops_in_pull : (old new : P) → StopsInPull of old new → StopsInPull whole (all old) (all new)
  part_stops_in_pull old new stops =
      let stopped : StopsInPull told old new = subst (λ m. StopsInPull m old new) (sym same) stops in
      let limit = (whole.task (all old)).limit in
      record {
        piece = stopped.piece;
        came = stopped.came;
        stopped = λ x y given. stood_as old x y given
            (λ g. IsStopped whole (all new) x y (with_piece limit stopped.piece stopped.came g))
            (λ own s. stopped_as new x y (with_piece limit stopped.piece stopped.came own) (stopped.stopped x y own s));
      }

  pub part_is_same : (old new : P) → of.task new ≡ of.task old → whole.task (all new) ≡ whole.task (all old)
  part_is_same old new is = part.task new ∙ is ∙ sym (part.task old)
