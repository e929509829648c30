-- A network in which no task can move, though not all have ended, has a bare circle.
use Rattle.std.proofs.Common.{◌≡◌, ℕ, zero, suc, ◌<◌, ◌≤◌, ◌⊎◌, inl, inr, List, [], ◌∷◌, length, take, drop, Option, Some, None, Bool, true, false, refl, sym, ap, subst, ◌∙◌, arith}
use Rattle.std.specs.Prelude.{◌≢◌, IsSome}
use Rattle.std.proofs.lemmas.Bool.{cases_lt}
use Rattle.osm_entity.specs.Machines.{AreLawful, HasEnded, Meanings, MayWant, MayTake, MayGive}
use Rattle.osm_entity.specs.Ports.{has_end}
use Rattle.osm_entity.specs.declared.stream.Message.{Message}
use Rattle.osm_entity.specs.declared.stream.Want.{Want}
use Rattle.osm_entity.specs.declared.stream.Want.TheVariants.{Pull, Take, Give, Ended}
use Rattle.osm_graph.specs.Pipes.{pipe_of, pipe_into, pipe_out}
use Rattle.osm_graph.specs.declared.pipe.Pipe.{Pipe}
use Rattle.osm_graph.specs.declared.pipe.Store.{Store}
use Rattle.osm_graph.specs.declared.pipe.Store.TheVariants.{Bounded, Spool}
use Rattle.osm_circle.specs.Circles.{is_spool, sense_start, sense_end}
use Rattle.osm_circle.specs.Search.{IsUsable}
use Rattle.osm_circle.specs.declared.circle.Sense.{Sense}
use Rattle.osm_net.specs.Histories.{History, messages_taken, took_by, gave_by}
use Rattle.osm_net.specs.Meaning.{at_pipe}
use Rattle.osm_net.specs.Nets.{AllEnded, CanHold, CanMove, HasNoBareCircle, HasRoom, IsGraphOf, NetStands, SomeCanMove}
use Rattle.osm_net.proofs.MeaningLemmas.{IsThere, into_is, out_is}
use Rattle.osm_net.proofs.RunLemmas.{all_by_end, from_known}
use Rattle.osm_net.proofs.WaitLemmas.{AreWaiting, circle_waits}

-- ---- tests of a state

-- a pipe holds a message
abbrev pub holds : List Message → Bool
holds [] = false
holds (m ∷ more) = true

empty_or : (ms : List Message) → (ms ≡ []) ⊎ (ms ≢ [])
empty_or [] = inl refl
empty_or (m ∷ more) = inr (λ is. cc)

holds_none : (ms : List Message) → ms ≡ [] → false ≡ holds ms
holds_none [] is = refl
holds_none (m ∷ more) is = cc

holds_some : (ms : List Message) → 1 ≤ length ms → true ≡ holds ms
holds_some [] some = absurd (omega (arith, some))
holds_some (m ∷ more) some = refl

-- a store without room has a capacity, and where it can hold a message it holds one
pub record IsFull (store : Store) (count : ℕ) : Type 0 where
  pub bare : is_spool store ≡ false
  pub some : 1 ≤ count

room_or : (store : Store) (count : ℕ) → HasRoom store 0 → HasRoom store count ⊎ IsFull store count
room_or (Bounded capacity) count first = elim (cases_lt count capacity) [
  | inl less ↦ inl less
  | inr not ↦ inr (record { bare = refl; some = omega (arith, not, first) })
]
room_or Spool count first = inl tt

ended_or : (want : Want) → (want ≡ Ended) ⊎ (want ≢ Ended)
ended_or Pull = inr (λ is. cc)
ended_or (Take port) = inr (λ is. cc)
ended_or (Give port) = inr (λ is. cc)
ended_or Ended = inl refl

module _ {M : Type 0} (of : Meanings M) (laws : AreLawful of) (tasks : ℕ) (pipes : List Pipe) (machine : ℕ → M)
    (queue : ℕ → List Message) (h : History M) (graph : IsGraphOf of tasks machine pipes) (can_hold : CanHold pipes)
    (net : NetStands of tasks pipes machine queue h) where
  pub may : (t : ℕ) (want : Want) → t < tasks → of.wanted (machine t) ≡ want →
      MayWant of (machine t) (took_by pipes h t) (gave_by pipes h t) (h.given t) want
  may t want known wants = subst (MayWant of (machine t) (took_by pipes h t) (gave_by pipes h t) (h.given t)) wants
      (laws.wants (machine t) (took_by pipes h t) (gave_by pipes h t) (h.given t) (net.machines.stand t known))

  leaves : (p : ℕ) → p < length pipes → (pipe_of pipes p).from < tasks
  leaves = from_known tasks (λ t. (of.task (machine t)).inputs) (λ t. (of.task (machine t)).outputs) pipes graph

  -- where nothing is queued all that was sent was taken
  none_left : (k : ℕ) (ms : List Message) → drop k ms ≡ [] → take k ms ≡ ms
  none_left zero [] is = refl
  none_left zero (m ∷ ms) is = cc
  none_left (suc k) [] is = refl
  none_left (suc k) (m ∷ ms) is = ap (λ more. m ∷ more) (none_left k ms is)

  all_dropped : (ms : List Message) → drop (length ms) ms ≡ []
  all_dropped [] = refl
  all_dropped (m ∷ ms) = all_dropped ms

  -- the giver of an empty pipe whose end wasn't taken hasn't ended
  giver_runs : (p : ℕ) → p < length pipes → queue p ≡ [] → has_end (messages_taken h p) ≡ false →
      of.wanted (machine (pipe_of pipes p).from) ≢ Ended
  giver_runs p known empty running = λ ended.
      let from : ℕ = (pipe_of pipes p).from in
      let done : HasEnded of (machine from) (took_by pipes h from) (gave_by pipes h from) (h.given from) =
      may from Ended (leaves p known) ended in
      let sent : has_end (h.sent p) ≡ true =
      subst (λ ms. has_end ms ≡ true) (ap (at_pipe [] h.sent) (graph.alone_out p known))
      (done.gave_ends (pipe_of pipes p).from_port (graph.from_port p known)) in
      let all : messages_taken h p ≡ h.sent p =
      none_left (h.taken p) (h.sent p) (sym (net.queued p known) ∙ empty) in
      let taken : has_end (messages_taken h p) ≡ true = ap has_end all ∙ sent in
      cc

  -- the taker of a pipe that holds a message hasn't ended
  taker_runs : (p : ℕ) → p < length pipes → 1 ≤ length (queue p) → of.wanted (machine (pipe_of pipes p).to) ≢ Ended
  taker_runs p known some = λ ended.
      let to : ℕ = (pipe_of pipes p).to in
      let done : HasEnded of (machine to) (took_by pipes h to) (gave_by pipes h to) (h.given to) =
      may to Ended (graph.known p known) ended in
      let taken : has_end (messages_taken h p) ≡ true =
      subst (λ ms. has_end ms ≡ true) (ap (at_pipe [] (messages_taken h)) (graph.alone_into p known))
      (done.took_ends (pipe_of pipes p).to_port (graph.to_port p known)) in
      let all : h.taken p ≡ length (h.sent p) =
      all_by_end (h.taken p) (h.sent p) (net.machines.order.ends p known) taken (net.machines.order.within p known) in
      let none : queue p ≡ [] =
      net.queued p known ∙ ap (λ n. drop n (h.sent p)) all ∙ all_dropped (h.sent p) in
      omega (arith, some, ap length none)

  -- ---- whether a task can move

  abbrev pub is_blocked : (t : ℕ) → Type 0
  is_blocked t = (t < tasks) × (of.wanted (machine t) ≢ Ended)

  -- the pipe at which a task waits, taken along where it waits for room
  abbrev pub sense_at : Bool → Option ℕ → Sense
  sense_at along None = record { pipe = 0; along = along }
  sense_at along (Some p) = record { pipe = p; along = along }

  abbrev pub sense_by : (t : ℕ) → Want → Sense
  sense_by t Pull = record { pipe = 0; along = false }
  sense_by t (Take port) = sense_at false (pipe_into pipes t port)
  sense_by t (Give port) = sense_at true (pipe_out pipes t port)
  sense_by t Ended = record { pipe = 0; along = false }

  -- a task that can't move waits: its sense starts at it, and leads to a task that hasn't ended
  pub record Waits (t : ℕ) (s : Sense) : Type 0 where
    pub starts : sense_start pipes s ≡ t
    pub usable : IsUsable pipes s
    pub along : s.along ≡ holds (queue s.pipe)
    pub onward : is_blocked (sense_end pipes s)

  take_waits : (t port : ℕ) (o : Option ℕ) → pipe_into pipes t port ≡ o → IsSome o → t < tasks →
      of.wanted (machine t) ≡ Take port →
      CanMove pipes queue t (Take port) ⊎ Waits t (sense_at false o)
  take_waits t port None at some known wants = absurd cc
  take_waits t port (Some p) at some known wants =
      let there : IsThere p (length pipes) t port (pipe_of pipes p).to (pipe_of pipes p).to_port =
      into_is pipes t port p at in
      let ready : MayTake of (machine t) (took_by pipes h t) (gave_by pipes h t) (h.given t) port =
      may t (Take port) known wants in
      let running : has_end (messages_taken h p) ≡ false =
      subst (λ ms. has_end ms ≡ false) (ap (at_pipe [] (messages_taken h)) at) ready.unended in
      elim (empty_or (queue p)) [
        | inr some_there ↦ inl (rw at some_there)
        | inl empty ↦ inr (record {
          starts = there.task_is;
          usable = record { known = there.known; bare = λ is. cc };
          along = holds_none (queue p) empty;
          onward = (leaves p there.known, giver_runs p there.known empty running);
        })
      ]

  give_waits : (t port : ℕ) (o : Option ℕ) → pipe_out pipes t port ≡ o → IsSome o → t < tasks →
      of.wanted (machine t) ≡ Give port →
      CanMove pipes queue t (Give port) ⊎ Waits t (sense_at true o)
  give_waits t port None at some known wants = absurd cc
  give_waits t port (Some p) at some known wants =
      let there : IsThere p (length pipes) t port (pipe_of pipes p).from (pipe_of pipes p).from_port =
      out_is pipes t port p at in
      elim (room_or (pipe_of pipes p).store (length (queue p)) (can_hold p there.known)) [
        | inl room ↦ inl (rw at room)
        | inr full ↦ inr (record {
          starts = there.task_is;
          usable = record { known = there.known; bare = λ is. full.bare };
          along = holds_some (queue p) full.some;
          onward = (graph.known p there.known, taker_runs p there.known full.some);
        })
      ]

  move_or_wait : (t : ℕ) (want : Want) → of.wanted (machine t) ≡ want → is_blocked t →
      CanMove pipes queue t want ⊎ Waits t (sense_by t want)
  move_or_wait t Pull wants running = inl tt
  move_or_wait t (Take port) wants running =
      let ready : MayTake of (machine t) (took_by pipes h t) (gave_by pipes h t) (h.given t) port =
      may t (Take port) running.0 wants in
      take_waits t port (pipe_into pipes t port) refl (graph.into t port running.0 ready.its_own) running.0 wants
  move_or_wait t (Give port) wants running =
      let ready : MayGive of (machine t) (took_by pipes h t) (gave_by pipes h t) port =
      may t (Give port) running.0 wants in
      give_waits t port (pipe_out pipes t port) refl (graph.out t port running.0 ready.its_own) running.0 wants
  move_or_wait t Ended wants running = absurd (running.1 wants)

  -- the tasks below a number: one can move, or each that hasn't ended waits
  abbrev pub AllWait : ℕ → Type 0
  AllWait n = (t : ℕ) → t < n → of.wanted (machine t) ≢ Ended → Waits t (sense_by t (of.wanted (machine t)))

  search_move : (n : ℕ) → n ≤ tasks → SomeCanMove of tasks pipes machine queue ⊎ AllWait n
  search_move zero within = inr (λ t below. absurd (omega (arith, below)))
  search_move (suc n) within = elim (search_move n (omega (arith, within))) [
    | inl some ↦ inl some
    | inr waiting ↦ elim (ended_or (of.wanted (machine n))) [
      | inl ended ↦ inr (λ t below running. last_or n t (omega (arith, below)) (λ is. absurd (running (ap (λ k.
          of.wanted (machine k)) is ∙ ended)))
          (λ less. waiting t less running))
      | inr running ↦ elim (move_or_wait n (of.wanted (machine n)) refl (omega (arith, within), running)) [
        | inl moves ↦ inl (record { task = n; known = omega (arith, within); moves = moves })
        | inr waits ↦ inr (λ t below still. last_or n t (omega (arith, below))
            (λ is. subst (λ k. Waits k (sense_by k (of.wanted (machine k)))) (sym is) waits)
            (λ less. waiting t less still))
      ]
    ]
  ]
    where
      last_or : {A : Type 0} (n t : ℕ) → t ≤ n → (t ≡ n → A) → (t < n → A) → A
      last_or n t within last less = elim (cases_lt t n) [
        | inl below ↦ less below
        | inr not ↦ last (omega (
          arith,
          within,
          not,
        ))
      ]

  -- all tasks have ended, or one hasn't
  search_running : (n : ℕ) → n ≤ tasks → ((t : ℕ) → t < n → of.wanted (machine t) ≡ Ended) ⊎ ((t : ℕ) × is_blocked t)
  search_running zero within = inl (λ t below. absurd (omega (arith, below)))
  search_running (suc n) within = elim (search_running n (omega (arith, within))) [
    | inr some ↦ inr some
    | inl all ↦ elim (ended_or (of.wanted (machine n))) [
      | inr running ↦ inr (n, (omega (arith, within), running))
      | inl ended ↦ inl (λ t below. elim (cases_lt t n) [
        | inl less ↦ all t less
        | inr not ↦ let last : t ≡ n = omega (arith, below, not) in ap (λ k. of.wanted (machine k)) last ∙ ended
      ])
    ]
  ]

  are_waiting : AllWait tasks →
      AreWaiting tasks pipes is_blocked (λ p. holds (queue p)) (λ t. sense_by t (of.wanted (machine t)))
  are_waiting waiting = record {
    below = λ t running. running.0;
    starts = λ t running. (waiting t running.0 running.1).starts;
    usable = λ t running. (waiting t running.0 running.1).usable;
    along = λ t running. (waiting t running.0 running.1).along;
    onward = λ t running. (waiting t running.0 running.1).onward;
  }

  -- without a bare circle all tasks have ended, or one can move
  pub goes_on : HasNoBareCircle pipes → AllEnded of tasks machine ⊎ SomeCanMove of tasks pipes machine queue
  goes_on none = elim (search_move tasks (omega arith)) [
    | inl some ↦ inr some
    | inr waiting ↦ elim (search_running tasks (omega arith)) [
      | inl all ↦ inl all
      | inr some ↦
          let circle = circle_waits tasks pipes is_blocked (λ p. holds (queue p))
          (λ t. sense_by t (of.wanted (machine t))) (are_waiting waiting) graph.forward some.0 some.1 in
          absurd (none circle.0 circle.1)
    ]
  ]
