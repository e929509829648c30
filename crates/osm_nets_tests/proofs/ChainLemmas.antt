-- Three new machines in a chain of two pipes are those of a graph's tasks, and steps keep what their network stands for.
use Rattle.std.proofs.Common.{◌≡◌, ℕ, zero, suc, ◌<◌, List, [], ◌∷◌, Bool, Some, refl, sym, subst, arith}
use Rattle.std.specs.Prelude.{◌≢◌, IsSome, get_or}
use Rattle.osm_entity.specs.Machines.{IsNew, Meanings}
use Rattle.osm_entity.specs.declared.kind.Flow.TheVariants.{Entities}
use Rattle.osm_graph.specs.Pipes.{pipe_into, pipe_of, pipe_out}
use Rattle.osm_graph.specs.declared.pipe.Pipe.{Pipe}
use Rattle.osm_graph.specs.declared.pipe.Store.TheVariants.{Bounded}
use Rattle.osm_net.specs.Histories.{with_moves}
use Rattle.osm_net.specs.Nets.{CanHold, HasRoom}
use Rattle.osm_net.specs.Networks.{HasMoved, NetValue, StandsForSome}
use Rattle.osm_net.specs.Runs.{AreNewMachines}
use Rattle.osm_net.specs.declared.stepped.Stepped.{Stepped}
use Rattle.osm_net.specs.declared.stepped.Stepped.TheVariants.{Moved, Full, Empty, Ended}

-- a pipe from the one output of a task to the one input of another
abbrev pub pipe_between_ones : (from to capacity : ℕ) → Pipe
pipe_between_ones from to capacity = record {
  from = from;
  from_port = 0;
  to = to;
  to_port = 0;
  flow = Entities;
  store = Bounded capacity;
}

-- the pipes of a chain of three tasks
abbrev pub chain_pipes : (first second : ℕ) → List Pipe
chain_pipes first second = pipe_between_ones 0 1 first ∷ pipe_between_ones 1 2 second ∷ []

-- what holds of the pipes of a chain holds of pipes that are equal to them
pub chain_alike : (P : List Pipe → Type 0) (p q : Pipe) (first second : ℕ) → p ≡ pipe_between_ones 0 1 first →
    q ≡ pipe_between_ones 1 2 second → P (chain_pipes first second) → P (p ∷ q ∷ [])
chain_alike P p q first second is_p is_q holds =
    subst (λ x. P (x ∷ q ∷ [])) (sym is_p)
    (subst (λ y. P (pipe_between_ones 0 1 first ∷ y ∷ [])) (sym is_q) holds)

-- what holds at 0 and 1 holds of each number below 2
below_two : (P : ℕ → Type 0) → P 0 → P 1 → (n : ℕ) → n < 2 → P n
below_two P at_0 at_1 zero below = at_0
below_two P at_0 at_1 (suc zero) below = at_1
below_two P at_0 at_1 (suc (suc n)) below = absurd (omega arith)

-- what holds at 0, 1 and 2 holds of each number below 3
below_three : (P : ℕ → Type 0) → P 0 → P 1 → P 2 → (n : ℕ) → n < 3 → P n
below_three P at_0 at_1 at_2 zero below = at_0
below_three P at_0 at_1 at_2 (suc zero) below = at_1
below_three P at_0 at_1 at_2 (suc (suc zero)) below = at_2
below_three P at_0 at_1 at_2 (suc (suc (suc n))) below = absurd (omega arith)

-- a task without a port of a side has none there, and one with one has that of number 0
no_port : (P : ℕ → Type 0) (count port : ℕ) → count ≡ 0 → port < count → P port
no_port P count port none within = absurd (omega (arith, none, within))

one_port : (P : ℕ → Type 0) → P 0 → (count port : ℕ) → count ≡ 1 → port < count → P port
one_port P at_0 count zero one within = at_0
one_port P at_0 count (suc port) one within = absurd (omega (arith, one, within))

-- the pipes of a chain can hold a message
pub chain_can_hold : (first second : ℕ) → 0 < first → 0 < second → CanHold (chain_pipes first second)
chain_can_hold first second some more =
    below_two (λ p. HasRoom (pipe_of (chain_pipes first second) p).store 0) some more

-- new machines of a reader, of a task between and of a writer are those of a chain's tasks
pub chain_is_new : {M : Type 0} (of : Meanings M) (first second : ℕ) (a b c : M) → IsNew of a → IsNew of b →
    IsNew of c → (of.task a).inputs ≡ 0 → (of.task a).outputs ≡ 1 → (of.task b).inputs ≡ 1 →
    (of.task b).outputs ≡ 1 → (of.task c).inputs ≡ 1 → (of.task c).outputs ≡ 0 →
    AreNewMachines of (chain_pipes first second) (a ∷ b ∷ c ∷ [])
chain_is_new of first second a b c new_a new_b new_c in_a out_a in_b out_b in_c out_c d =
    let pipes = chain_pipes first second in
    let inputs : ℕ → ℕ = λ t. (of.task (get_or (a ∷ b ∷ c ∷ []) t d)).inputs in
    let outputs : ℕ → ℕ = λ t. (of.task (get_or (a ∷ b ∷ c ∷ []) t d)).outputs in
    let out_0 : 0 < outputs 0 = omega (arith, out_a) in
    let out_1 : 0 < outputs 1 = omega (arith, out_b) in
    let into_1 : 0 < inputs 1 = omega (arith, in_b) in
    let into_2 : 0 < inputs 2 = omega (arith, in_c) in
    let one : 0 < 1 = omega arith in
    let two : 1 < 2 = omega arith in
    let three : 1 < 3 = omega arith in
    let last : 2 < 3 = omega arith in
    record {
      graph = record {
        forward = below_two (λ p. (pipe_of pipes p).from < (pipe_of pipes p).to) one two;
        known = below_two (λ p. (pipe_of pipes p).to < 3) three last;
        from_port = below_two (λ p. (pipe_of pipes p).from_port < outputs (pipe_of pipes p).from) out_0 out_1;
        to_port = below_two (λ p. (pipe_of pipes p).to_port < inputs (pipe_of pipes p).to) into_1 into_2;
        alone_out = below_two
            (λ p. pipe_out pipes (pipe_of pipes p).from (pipe_of pipes p).from_port ≡ Some p) refl refl;
        alone_into = below_two
            (λ p. pipe_into pipes (pipe_of pipes p).to (pipe_of pipes p).to_port ≡ Some p) refl refl;
        into = λ t port known. below_three (λ t. port < inputs t → IsSome (pipe_into pipes t port))
            (no_port (λ port. IsSome (pipe_into pipes 0 port)) (inputs 0) port in_a)
            (one_port (λ port. IsSome (pipe_into pipes 1 port)) refl (inputs 1) port in_b)
            (one_port (λ port. IsSome (pipe_into pipes 2 port)) refl (inputs 2) port in_c) t known;
        out = λ t port known. below_three (λ t. port < outputs t → IsSome (pipe_out pipes t port))
            (one_port (λ port. IsSome (pipe_out pipes 0 port)) refl (outputs 0) port out_a)
            (one_port (λ port. IsSome (pipe_out pipes 1 port)) refl (outputs 1) port out_b)
            (no_port (λ port. IsSome (pipe_out pipes 2 port)) (outputs 2) port out_c) t known;
      };
      new = below_three (λ t. IsNew of (get_or (a ∷ b ∷ c ∷ []) t d)) new_a new_b new_c;
    }

-- a network whose task made a step stands for some history still
pub stands_still : {M : Type 0} (of : Meanings M) (reads : M → Bool) (task : ℕ) (old new : NetValue M) (s : Stepped) →
    (s ≡ Moved → HasMoved of reads task old new) → (s ≢ Moved → new ≡ old) → StandsForSome of old →
    StandsForSome of new
stands_still of reads task old new Moved moved still some = λ d.
    let step = moved refl in
    (with_moves (some d).0 (step.move ∷ []), step.went.stands (some d).0 (some d).1)
stands_still of reads task old new (Full p) moved still some = subst (StandsForSome of) (sym (still (λ is. cc))) some
stands_still of reads task old new (Empty p) moved still some = subst (StandsForSome of) (sym (still (λ is. cc))) some
stands_still of reads task old new Ended moved still some = subst (StandsForSome of) (sym (still (λ is. cc))) some
