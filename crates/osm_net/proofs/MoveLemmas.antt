-- Each move keeps what a network stands for.
use Rattle.std.proofs.Common.{◌≡◌, ℕ, zero, suc, ◌<◌, ◌≤◌, ◌+◌, inl, inr, List, [], ◌∷◌, ◌++◌, length, take, drop, Option, Some, None, Bool, true, false, refl, sym, ap, subst, ◌∙◌, arith, cond}
use Rattle.std.specs.Prelude.{◌==◌, ◌≢◌}
use Rattle.std.proofs.Math.Path.{fun_ext}
use Rattle.std.proofs.lemmas.Bool.{eq-eqb, ne_eqb, cases_eq, cond-true, cond-false}
use Rattle.std.proofs.lemmas.List.{length-append, take-append-le}
use Rattle.osm_entity.specs.Calls.{Gives, Pulls, Takes}
use Rattle.osm_entity.specs.Machines.{AreLawful, Given, Meanings, MayWant, MayGive, StandsFor, nothing_given, with_piece}
use Rattle.osm_entity.specs.Ports.{EndsLast, Ports, added, has_end, no_messages}
use Rattle.osm_entity.specs.declared.stream.Message.{Message}
use Rattle.osm_entity.specs.declared.stream.Message.TheVariants.{Item as One, End as Last}
use Rattle.osm_entity.specs.declared.stream.Want.TheVariants.{Give}
use Rattle.osm_graph.specs.Pipes.{IsWholeGraph, pipe_of, pipe_into, pipe_out}
use Rattle.osm_graph.specs.declared.pipe.Pipe.{Pipe}
use Rattle.osm_graph.specs.declared.pipe.Store.{Store}
use Rattle.osm_graph.specs.declared.pipe.Store.TheVariants.{Bounded, Spool}
use Rattle.osm_net.specs.Histories.{History, Took, Gave, Pulled, messages_taken, took_by, gave_by, new_history, with_move}
use Rattle.osm_net.specs.Meaning.{at_pipe}
use Rattle.osm_net.specs.Nets.{FitsStore, HasRoom, IsGraphOf, IsOrderly, NetStands, Others}
use Rattle.osm_net.specs.Runs.{AreTasks}
use Rattle.osm_net.proofs.MeaningLemmas.{into_is, out_is}
use Rattle.osm_net.proofs.RunLemmas.{from_known}

-- ---- ports and lists by pipe

-- lists by pipe that agree everywhere but at one pipe agree at a port that has another
same_but : (f g : ℕ → List Message) (pipe : ℕ) (o : Option ℕ) → Others pipe g f →
    ((p : ℕ) → o ≡ Some p → p ≢ pipe) → at_pipe [] f o ≡ at_pipe [] g o
same_but f g pipe None same other = refl
same_but f g pipe (Some p) same other = same p (other p refl)

-- one more message at the port that has this pipe, and at no other
port_gains : (find : ℕ → Option ℕ) (f g : ℕ → List Message) (pipe port : ℕ) (m : Message) → find port ≡ Some pipe →
    ((q p : ℕ) → find q ≡ Some p → p ≡ pipe → q ≡ port) → Others pipe g f → f pipe ≡ g pipe ++ m ∷ [] →
    (λ q. at_pipe [] f (find q)) ≡ added (λ q. at_pipe [] g (find q)) port m
port_gains find f g pipe port m here alone same more = fun_ext (λ q. elim (cases_eq q port) [
  | inl is ↦ ap (λ k. at_pipe [] f (find k)) is ∙ ap (at_pipe [] f) here ∙ more
      ∙ ap (λ o. at_pipe [] g o ++ m ∷ []) (sym here) ∙ ap (λ k. at_pipe [] g (find k) ++ m ∷ []) (sym is)
      ∙ sym (cond-true (q == port) (at_pipe [] g (find q) ++ m ∷ []) (at_pipe [] g (find q)) (eq-eqb q port is))
  | inr not ↦ same_but f g pipe (find q) same (λ p at is. not (alone q p at is))
      ∙ sym (cond-false (q == port) (at_pipe [] g (find q) ++ m ∷ []) (at_pipe [] g (find q)) (ne_eqb q port not))
])

-- lists by pipe that agree at all pipes that exist agree at a port
same_there : (o : Option ℕ) (pipes : ℕ) (f g : ℕ → List Message) → ((p : ℕ) → o ≡ Some p → p < pipes) →
    ((p : ℕ) → p < pipes → f p ≡ g p) → at_pipe [] f o ≡ at_pipe [] g o
same_there None pipes f g known same = refl
same_there (Some p) pipes f g known same = same p (known p refl)

-- a message that is next after the first n
pub record IsNext (n : ℕ) (ms : List Message) (m : Message) (rest : List Message) : Type 0 where
  pub below : n < length ms
  pub rest_is : drop (suc n) ms ≡ rest
  pub with_it : take (suc n) ms ≡ take n ms ++ m ∷ []

one_more : (n : ℕ) → n + 1 ≡ suc n
one_more n = omega arith

is_next : (n : ℕ) (ms : List Message) (m : Message) (rest : List Message) → drop n ms ≡ m ∷ rest → IsNext n ms m rest
is_next zero [] m rest is = absurd cc
is_next zero (x ∷ ms) m rest is = record {
  below = omega arith;
  rest_is = let same : ms ≡ rest = cc in same;
  with_it = let same : x ≡ m = cc in ap (λ one. one ∷ []) same;
}
is_next (suc n) [] m rest is = absurd cc
is_next (suc n) (x ∷ ms) m rest is =
    let more : IsNext n ms m rest = is_next n ms m rest is in
    record {
      below = omega (arith, more.below);
      rest_is = more.rest_is;
      with_it = ap (λ list. x ∷ list) more.with_it;
    }

one_more_last : (ms : List Message) (m : Message) → EndsLast ms → has_end ms ≡ false → EndsLast (ms ++ m ∷ [])
one_more_last [] (One item) last running = tt
one_more_last [] (Last end) last running = refl
one_more_last (One item ∷ more) m last running = one_more_last more m last running
one_more_last (Last end ∷ more) m last running = cc

dropped_more : (n : ℕ) (ms : List Message) (m : Message) → n ≤ length ms → drop n (ms ++ m ∷ []) ≡ drop n ms ++ m ∷ []
dropped_more zero ms m within = refl
dropped_more (suc n) [] m within = absurd (omega (arith, within))
dropped_more (suc n) (x ∷ ms) m within = dropped_more n ms m (omega (arith, within))

-- ---- stores

fits_less : (store : Store) (n k : ℕ) → k ≤ n → FitsStore store n → FitsStore store k
fits_less (Bounded capacity) n k less fits = omega (arith, less, fits)
fits_less Spool n k less fits = tt

fits_more : (store : Store) (n : ℕ) → HasRoom store n → FitsStore store (n + 1)
fits_more (Bounded capacity) n room = omega (arith, room)
fits_more Spool n room = tt

fits_none : (store : Store) → FitsStore store 0
fits_none (Bounded capacity) = omega arith
fits_none Spool = tt

-- ---- a new network

at_none : (o : Option ℕ) → at_pipe [] (λ p. let none : List Message = [] in none) o ≡ []
at_none None = refl
at_none (Some p) = refl

pub new_stands : {M : Type 0} (of : Meanings M) (tasks : ℕ) (pipes : List Pipe) (machine : ℕ → M) →
    AreTasks of tasks pipes machine → NetStands of tasks pipes machine (λ p. []) (new_history machine)
new_stands of tasks pipes machine are = record {
  machines = record {
    order = record { within = λ p known. omega arith; ends = λ p known. tt };
    stand = λ t known.
        subst (λ x. StandsFor of (machine t) x (gave_by pipes (new_history machine) t) (nothing_given (machine t)))
        (sym (fun_ext (λ port. at_none (pipe_into pipes t port))))
        (subst (λ y. StandsFor of (machine t) no_messages y (nothing_given (machine t)))
        (sym (fun_ext (λ port. at_none (pipe_out pipes t port)))) (are.new t known));
  };
  queued = λ p known. refl;
  fits = λ p known. fits_none (pipe_of pipes p).store;
}

-- ---- a message is taken

module _ {M : Type 0} (h : History M) (pipe : ℕ) where
  took_there : Others pipe (messages_taken h) (messages_taken (with_move h (Took pipe)))
  took_there p not =
      ap (λ k. take k (h.sent p)) (cond-false (p == pipe) (h.taken p + 1) (h.taken p) (ne_eqb p pipe not))

  took_here : (m : Message) (rest : List Message) → drop (h.taken pipe) (h.sent pipe) ≡ m ∷ rest →
      messages_taken (with_move h (Took pipe)) pipe ≡ messages_taken h pipe ++ m ∷ []
  took_here m rest is =
      ap (λ k. take k (h.sent pipe)) (cond-true (pipe == pipe) (h.taken pipe + 1) (h.taken pipe) (eq-eqb pipe pipe
      refl) ∙ one_more (h.taken pipe))
      ∙ (is_next (h.taken pipe) (h.sent pipe) m rest is).with_it

  gave_there : (m : Message) → Others pipe h.sent (with_move h (Gave pipe m)).sent
  gave_there m p not = cond-false (p == pipe) (h.sent p ++ m ∷ []) (h.sent p) (ne_eqb p pipe not)

  gave_here : (m : Message) → (with_move h (Gave pipe m)).sent pipe ≡ h.sent pipe ++ m ∷ []
  gave_here m = cond-true (pipe == pipe) (h.sent pipe ++ m ∷ []) (h.sent pipe) (eq-eqb pipe pipe refl)

-- this holds of each task, with what it took and gave and what came of its source
abbrev pub AllHold : {M : Type 0} → (ℕ → Ports → Ports → Given M → Type 0) → ℕ → List Pipe → History M → Type 0
AllHold P tasks pipes h = (t : ℕ) → t < tasks → P t (took_by pipes h t) (gave_by pipes h t) (h.given t)

-- what holds of each task once a message was taken, by what it is for the taker and for the others
pub took_holds : {M : Type 0} (P Q : ℕ → Ports → Ports → Given M → Type 0) (tasks : ℕ) (inputs outputs : ℕ → ℕ)
    (pipes : List Pipe) (h : History M) (pipe : ℕ) (m : Message) (rest : List Message) →
    IsWholeGraph tasks inputs outputs pipes → pipe < length pipes → drop (h.taken pipe) (h.sent pipe) ≡ m ∷ rest →
    ((x y : Ports) (given : Given M) → P (pipe_of pipes pipe).to x y given →
    Q (pipe_of pipes pipe).to (added x (pipe_of pipes pipe).to_port m) y given) →
    ((t : ℕ) → t < tasks → t ≢ (pipe_of pipes pipe).to → (x y : Ports) (given : Given M) → P t x y given → Q t x y
    given) →
    AllHold P tasks pipes h → AllHold Q tasks pipes (with_move h (Took pipe))
took_holds {M} P Q tasks inputs outputs pipes h pipe m rest graph known held taker others all t there =
    let to : ℕ = (pipe_of pipes pipe).to in
    let port : ℕ = (pipe_of pipes pipe).to_port in
    let then : History M = with_move h (Took pipe) in
    let gains : took_by pipes then to ≡ added (took_by pipes h to) port m =
    port_gains (pipe_into pipes to) (messages_taken then) (messages_taken h) pipe port m (graph.alone_into pipe known)
    (λ q p at same. sym (into_is pipes to q p at).port_is ∙ ap (λ k. (pipe_of pipes k).to_port) same)
    (took_there h pipe) (took_here h pipe m rest held) in
    elim (cases_eq t to) [
      | inl same ↦ subst (λ k. Q k (took_by pipes then k) (gave_by pipes h k) (h.given k)) (sym same)
          (subst (λ x. Q to x (gave_by pipes h to) (h.given to)) (sym gains)
          (taker (took_by pipes h to) (gave_by pipes h to) (h.given to) (all to (graph.known pipe known))))
      | inr not ↦ subst (λ x. Q t x (gave_by pipes h t) (h.given t))
          (sym (fun_ext (λ q. same_but (messages_taken then) (messages_taken h) pipe (pipe_into pipes t q)
          (took_there h pipe)
          (λ p at same. not (sym (into_is pipes t q p at).task_is ∙ ap (λ k. (pipe_of pipes k).to) same)))))
          (others t there not (took_by pipes h t) (gave_by pipes h t) (h.given t) (all t there))
    ]

-- and once a piece was pulled
pub pulled_holds : {M : Type 0} (P Q : ℕ → Ports → Ports → Given M → Type 0) (tasks : ℕ) (pipes : List Pipe)
    (h : History M)
    (task limit : ℕ) (piece : List ℕ) (came : Bool) →
    ((x y : Ports) (given : Given M) → P task x y given → Q task x y (with_piece limit piece came given)) →
    ((t : ℕ) → t < tasks → t ≢ task → (x y : Ports) (given : Given M) → P t x y given → Q t x y given) →
    AllHold P tasks pipes h → AllHold Q tasks pipes (with_move h (Pulled task limit piece came))
pulled_holds {M} P Q tasks pipes h task limit piece came puller others all t there = elim (cases_eq t task) [
  | inl same ↦ subst (Q t (took_by pipes h t) (gave_by pipes h t))
      (sym (cond-true (t == task) (with_piece limit piece came (h.given t)) (h.given t) (eq-eqb t task same)))
      (subst (λ k. Q k (took_by pipes h k) (gave_by pipes h k) (with_piece limit piece came (h.given k))) (sym same)
      (puller (took_by pipes h task) (gave_by pipes h task) (h.given task)
      (all task (subst (λ k. k < tasks) same there))))
  | inr not ↦ subst (Q t (took_by pipes h t) (gave_by pipes h t))
      (sym (cond-false (t == task) (with_piece limit piece came (h.given t)) (h.given t) (ne_eqb t task not)))
      (others t there not (took_by pipes h t) (gave_by pipes h t) (h.given t) (all t there))
]

-- a history stays in order where the next message of a pipe is taken
pub took_order : {M : Type 0} (pipes : List Pipe) (h : History M) (pipe : ℕ) (m : Message) (rest : List Message) →
    drop (h.taken pipe) (h.sent pipe) ≡ m ∷ rest → IsOrderly pipes h → IsOrderly pipes (with_move h (Took pipe))
took_order {M} pipes h pipe m rest held order =
    let then : History M = with_move h (Took pipe) in
    let next : IsNext (h.taken pipe) (h.sent pipe) m rest = is_next (h.taken pipe) (h.sent pipe) m rest held in
    let more : then.taken pipe ≡ h.taken pipe + 1 =
    cond-true (pipe == pipe) (h.taken pipe + 1) (h.taken pipe) (eq-eqb pipe pipe refl) in
    let still : (p : ℕ) → p ≢ pipe → then.taken p ≡ h.taken p =
    λ p not. cond-false (p == pipe) (h.taken p + 1) (h.taken p) (ne_eqb p pipe not) in
    record {
      within = λ p there. elim (cases_eq p pipe) [
        | inl same ↦ subst (λ k. then.taken k ≤ length (h.sent k)) (sym same) (omega (arith, more, next.below))
        | inr not ↦ omega (arith, still p not, order.within p there)
      ];
      ends = order.ends;
    }

-- a task that takes the next message of a pipe into it
pub took_keeps : {M : Type 0} (of : Meanings M) (tasks : ℕ) (pipes : List Pipe) (machine now : ℕ → M)
    (queue left : ℕ → List Message) (h : History M) (pipe : ℕ) (m : Message) → IsGraphOf of tasks machine pipes →
    pipe < length pipes → Others pipe queue left → queue pipe ≡ m ∷ left pipe →
    Others (pipe_of pipes pipe).to machine now →
    Takes of (pipe_of pipes pipe).to_port m (machine (pipe_of pipes pipe).to) (now (pipe_of pipes pipe).to) →
    NetStands of tasks pipes machine queue h → NetStands of tasks pipes now left (with_move h (Took pipe))
took_keeps {M} of tasks pipes machine now queue left h pipe m graph known elsewhere first others takes net =
    let to : ℕ = (pipe_of pipes pipe).to in
    let then : History M = with_move h (Took pipe) in
    let held : drop (h.taken pipe) (h.sent pipe) ≡ m ∷ left pipe = sym (net.queued pipe known) ∙ first in
    let next : IsNext (h.taken pipe) (h.sent pipe) m (left pipe) =
    is_next (h.taken pipe) (h.sent pipe) m (left pipe) held in
    let more : then.taken pipe ≡ h.taken pipe + 1 =
    cond-true (pipe == pipe) (h.taken pipe + 1) (h.taken pipe) (eq-eqb pipe pipe refl) in
    let still : (p : ℕ) → p ≢ pipe → then.taken p ≡ h.taken p =
    λ p not. cond-false (p == pipe) (h.taken p + 1) (h.taken p) (ne_eqb p pipe not) in
    record {
      machines = record {
        order = took_order pipes h pipe m (left pipe) held net.machines.order;
        stand = took_holds (λ t. StandsFor of (machine t)) (λ t. StandsFor of (now t)) tasks
            (λ t. (of.task (machine t)).inputs) (λ t. (of.task (machine t)).outputs) pipes h pipe m (left pipe) graph
            known
            held takes.stands
            (λ t there not x y given stood. subst (λ n. StandsFor of n x y given) (sym (others t not)) stood)
            net.machines.stand;
      };
      queued = λ p there. elim (cases_eq p pipe) [
        | inl same ↦ subst (λ k. left k ≡ drop (then.taken k) (h.sent k)) (sym same)
            (sym next.rest_is ∙ ap (λ n. drop n (h.sent pipe)) (sym (more ∙ one_more (h.taken pipe))))
        | inr not ↦ elsewhere p not ∙ net.queued p there ∙ ap (λ n. drop n (h.sent p)) (sym (still p not))
      ];
      fits = λ p there. elim (cases_eq p pipe) [
        | inl same ↦ subst (λ k. FitsStore (pipe_of pipes k).store (length (left k))) (sym same)
            (fits_less (pipe_of pipes pipe).store (length (queue pipe)) (length (left pipe))
            (omega (arith, ap length first)) (net.fits pipe known))
        | inr not ↦ subst (λ ms. FitsStore (pipe_of pipes p).store (length ms)) (sym (elsewhere p not)) (net.fits p
            there)
      ];
    }

-- ---- a message is given

-- what is sent is taken only later
still_taken : (b : Bool) (k : ℕ) (ms : List Message) (m : Message) → k ≤ length ms →
    take k (cond b (ms ++ m ∷ []) ms) ≡ take k ms
still_taken true k ms m within = take-append-le k ms (m ∷ []) within
still_taken false k ms m within = refl

still_within : (b : Bool) (k : ℕ) (ms : List Message) (m : Message) → k ≤ length ms →
    k ≤ length (cond b (ms ++ m ∷ []) ms)
still_within true k ms m within = let long = length-append ms (m ∷ []) in omega arith
still_within false k ms m within = within

-- a machine that wants to give at an output has given no end there
gives_open : {M : Type 0} (of : Meanings M) → AreLawful of → (m : M) (x y : Ports) (given : Given M) (port : ℕ) →
    StandsFor of m x y given → of.wanted m ≡ Give port → has_end (y port) ≡ false
gives_open of laws m x y given port stands wants =
    let may : MayGive of m x y port = subst (MayWant of m x y given) wants (laws.wants m x y given stands) in
    may.unended

-- a task that gives a message into a pipe out of it, in which there is room
pub gave_keeps : {M : Type 0} (of : Meanings M) (tasks : ℕ) (pipes : List Pipe) (machine now : ℕ → M)
    (queue more : ℕ → List Message) (h : History M) (pipe : ℕ) (m : Message) → AreLawful of →
    IsGraphOf of tasks machine pipes → pipe < length pipes → Others pipe queue more →
    more pipe ≡ queue pipe ++ m ∷ [] → HasRoom (pipe_of pipes pipe).store (length (queue pipe)) →
    Others (pipe_of pipes pipe).from machine now →
    of.wanted (machine (pipe_of pipes pipe).from) ≡ Give (pipe_of pipes pipe).from_port →
    Gives of (pipe_of pipes pipe).from_port m (machine (pipe_of pipes pipe).from) (now (pipe_of pipes pipe).from) →
    NetStands of tasks pipes machine queue h → NetStands of tasks pipes now more (with_move h (Gave pipe m))
gave_keeps {M} of tasks pipes machine now queue more h pipe m laws graph known elsewhere after room others wants gives
    net =
    let from : ℕ = (pipe_of pipes pipe).from in
    let port : ℕ = (pipe_of pipes pipe).from_port in
    let then : History M = with_move h (Gave pipe m) in
    let leaves : from < tasks =
    from_known tasks (λ t. (of.task (machine t)).inputs) (λ t. (of.task (machine t)).outputs) pipes graph pipe known in
    let stood = net.machines.stand from leaves in
    let open_there : has_end (gave_by pipes h from port) ≡ false =
    gives_open of laws (machine from) (took_by pipes h from) (gave_by pipes h from) (h.given from) port stood wants in
    let running : has_end (h.sent pipe) ≡ false =
    subst (λ ms. has_end ms ≡ false) (ap (at_pipe [] h.sent) (graph.alone_out pipe known)) open_there in
    let taken : (t : ℕ) → took_by pipes then t ≡ took_by pipes h t =
    λ t. fun_ext (λ q. same_there (pipe_into pipes t q) (length pipes) (messages_taken then) (messages_taken h)
    (λ p at. (into_is pipes t q p at).known)
    (λ p there. still_taken (p == pipe) (h.taken p) (h.sent p) m (net.machines.order.within p there))) in
    let gains : gave_by pipes then from ≡ added (gave_by pipes h from) port m =
    port_gains (pipe_out pipes from) then.sent h.sent pipe port m (graph.alone_out pipe known)
    (λ q p at same. sym (out_is pipes from q p at).port_is ∙ ap (λ k. (pipe_of pipes k).from_port) same)
    (gave_there h pipe m) (gave_here h pipe m) in
    record {
      machines = record {
        order = record {
          within = λ p there. still_within (p == pipe) (h.taken p) (h.sent p) m (net.machines.order.within p there);
          ends = λ p there. elim (cases_eq p pipe) [
            | inl same ↦ subst EndsLast (sym (ap then.sent same ∙ gave_here h pipe m))
                (one_more_last (h.sent pipe) m (net.machines.order.ends pipe known) running)
            | inr not ↦ subst EndsLast (sym (gave_there h pipe m p not)) (net.machines.order.ends p there)
          ];
        };
        stand = λ t there. elim (cases_eq t from) [
          | inl same ↦
              subst (λ k. StandsFor of (now k) (took_by pipes then k) (gave_by pipes then k) (h.given k)) (sym same)
              (subst (λ x. StandsFor of (now from) x (gave_by pipes then from) (h.given from)) (sym (taken from))
              (subst (λ y. StandsFor of (now from) (took_by pipes h from) y (h.given from)) (sym gains)
              (gives.stands (took_by pipes h from) (gave_by pipes h from) (h.given from) stood)))
          | inr not ↦
              subst (λ n. StandsFor of n (took_by pipes then t) (gave_by pipes then t) (h.given t)) (sym (others t not))
              (subst (λ x. StandsFor of (machine t) x (gave_by pipes then t) (h.given t)) (sym (taken t))
              (subst (λ y. StandsFor of (machine t) (took_by pipes h t) y (h.given t))
              (sym (fun_ext (λ q. same_but then.sent h.sent pipe (pipe_out pipes t q) (gave_there h pipe m)
              (λ p at same. not (sym (out_is pipes t q p at).task_is ∙ ap (λ k. (pipe_of pipes k).from) same)))))
              (net.machines.stand t there)))
        ];
      };
      queued = λ p there. elim (cases_eq p pipe) [
        | inl same ↦ subst (λ k. more k ≡ drop (h.taken k) (then.sent k)) (sym same)
            (after ∙ ap (λ ms. ms ++ m ∷ []) (net.queued pipe known)
            ∙ sym (dropped_more (h.taken pipe) (h.sent pipe) m (net.machines.order.within pipe known))
            ∙ ap (drop (h.taken pipe)) (sym (gave_here h pipe m)))
        | inr not ↦ elsewhere p not ∙ net.queued p there ∙ ap (drop (h.taken p)) (sym (gave_there h pipe m p not))
      ];
      fits = λ p there. elim (cases_eq p pipe) [
        | inl same ↦ subst (λ k. FitsStore (pipe_of pipes k).store (length (more k))) (sym same)
            (subst (FitsStore (pipe_of pipes pipe).store)
            (sym (ap length after ∙ length-append (queue pipe) (m ∷ [])))
            (fits_more (pipe_of pipes pipe).store (length (queue pipe)) room))
        | inr not ↦ subst (λ ms. FitsStore (pipe_of pipes p).store (length ms)) (sym (elsewhere p not)) (net.fits p
            there)
      ];
    }

-- ---- a piece is pulled

pub pulled_keeps : {M : Type 0} (of : Meanings M) (tasks : ℕ) (pipes : List Pipe) (machine now : ℕ → M)
    (queue : ℕ → List Message) (h : History M) (task : ℕ) → task < tasks → Others task machine now →
    (pulls : Pulls of (machine task) (now task)) → NetStands of tasks pipes machine queue h →
    NetStands of tasks pipes now queue (with_move h (Pulled task (of.task (machine task)).limit pulls.piece pulls.came))
pulled_keeps of tasks pipes machine now queue h task known others pulls net = record {
  machines = record {
    order = record { within = net.machines.order.within; ends = net.machines.order.ends };
    stand = pulled_holds (λ t. StandsFor of (machine t)) (λ t. StandsFor of (now t)) tasks pipes h task
        (of.task (machine task)).limit pulls.piece pulls.came pulls.stands
        (λ t there not x y given stood. subst (λ n. StandsFor of n x y given) (sym (others t not)) stood)
        net.machines.stand;
  };
  queued = net.queued;
  fits = net.fits;
}
