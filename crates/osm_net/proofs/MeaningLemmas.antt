-- A graph has one meaning: the streams that its tasks give in command order.
use Rattle.std.proofs.Common.{◌≡◌, ℕ, zero, suc, ◌<◌, ◌+◌, ◌&&◌, inl, inr, List, length, Option, Some, None, refl, sym, ap, ◌∙◌, arith}
use Rattle.std.proofs.Math.Path.{fun_ext}
use Rattle.std.proofs.Math.Dec.{eqb}
use Rattle.std.proofs.lemmas.Bool.{and_parts, eqb-true, eq-eqb, ne_eqb, cases_eq, cond-true, cond-false}
use Rattle.std.proofs.lemmas.List.Quantifiers.{position-Some}
use Rattle.osm_entity.specs.Streams.{Stream}
use Rattle.osm_graph.specs.Pipes.{pipe_of, pipe_into, pipe_out, no_pipe}
use Rattle.osm_graph.specs.declared.pipe.Pipe.{Pipe}
use Rattle.osm_circle.specs.Search.{IsForward}
use Rattle.osm_net.specs.Meaning.{no_stream, at_pipe, streams_into, Rules, stream_put, IsMeaning, streams_by}

-- a pipe that is at a port exists, and is at that port alone
pub record IsThere (number : ℕ) (pipes : ℕ) (task port : ℕ) (here there : ℕ) : Type 0 where
  pub known : number < pipes
  pub task_is : here ≡ task
  pub port_is : there ≡ port

pub into_is : (pipes : List Pipe) (task port p : ℕ) → pipe_into pipes task port ≡ Some p →
    IsThere p (length pipes) task port (pipe_of pipes p).to (pipe_of pipes p).to_port
into_is pipes task port p is =
    let found = position-Some (λ (pipe : Pipe). (eqb pipe.to task) && (eqb pipe.to_port port)) pipes p no_pipe is in
    let both = and_parts (eqb (pipe_of pipes p).to task) (eqb (pipe_of pipes p).to_port port) found.1 in
    record {
      known = found.0;
      task_is = eqb-true (pipe_of pipes p).to task both.0;
      port_is = eqb-true (pipe_of pipes p).to_port port both.1;
    }

pub out_is : (pipes : List Pipe) (task port p : ℕ) → pipe_out pipes task port ≡ Some p →
    IsThere p (length pipes) task port (pipe_of pipes p).from (pipe_of pipes p).from_port
out_is pipes task port p is =
    let found = position-Some (λ (pipe : Pipe). (eqb pipe.from task) && (eqb pipe.from_port port)) pipes p no_pipe is in
    let both = and_parts (eqb (pipe_of pipes p).from task) (eqb (pipe_of pipes p).from_port port) found.1 in
    record {
      known = found.0;
      task_is = eqb-true (pipe_of pipes p).from task both.0;
      port_is = eqb-true (pipe_of pipes p).from_port port both.1;
    }

alike_at : (s t : ℕ → Stream) (o : Option ℕ) → ((p : ℕ) → o ≡ Some p → s p ≡ t p) →
    at_pipe no_stream s o ≡ at_pipe no_stream t o
alike_at s t None same = refl
alike_at s t (Some p) same = same p refl

-- streams that agree at the pipes into a task are alike at its inputs
pub inputs_alike : (pipes : List Pipe) (s t : ℕ → Stream) (task : ℕ) →
    ((p : ℕ) → p < length pipes → (pipe_of pipes p).to ≡ task → s p ≡ t p) →
    streams_into pipes s task ≡ streams_into pipes t task
inputs_alike pipes s t task same = fun_ext (λ port. alike_at s t (pipe_into pipes task port)
    (λ p is. let at = into_is pipes task port p is in same p at.known at.task_is))

-- streams that agree at the pipes into its task give a pipe one stream
put_alike : (pipes : List Pipe) (rule : Rules) (s t : ℕ → Stream) (p : ℕ) →
    ((q : ℕ) → q < length pipes → (pipe_of pipes q).to ≡ (pipe_of pipes p).from → s q ≡ t q) →
    stream_put pipes rule s p ≡ stream_put pipes rule t p
put_alike pipes rule s t p same = ap (λ f. rule (pipe_of pipes p).from f (pipe_of pipes p).from_port)
    (inputs_alike pipes s t (pipe_of pipes p).from same)

one_below : (pipes : List Pipe) (rule : Rules) (s t : ℕ → Stream) → IsForward pipes → IsMeaning pipes rule s →
    IsMeaning pipes rule t → (n p : ℕ) → p < length pipes → (pipe_of pipes p).from < n → s p ≡ t p
one_below pipes rule s t forward is_s is_t zero p known below = absurd (omega arith)
one_below pipes rule s t forward is_s is_t (suc n) p known below = is_s.by_rule p known
    ∙ put_alike pipes rule s t p (λ q there joins. one_below pipes rule s t forward is_s is_t n q there
    (let ahead = forward q there in omega arith))
    ∙ sym (is_t.by_rule p known)

-- two meanings of a graph are one
pub one_meaning : (pipes : List Pipe) (rule : Rules) (s t : ℕ → Stream) → IsForward pipes → IsMeaning pipes rule s →
    IsMeaning pipes rule t → (p : ℕ) → p < length pipes → s p ≡ t p
one_meaning pipes rule s t forward is_s is_t p known =
    one_below pipes rule s t forward is_s is_t ((pipe_of pipes p).from + 1) p known (omega arith)

-- once its task had its turn, a pipe keeps its stream
settled : (pipes : List Pipe) (rule : Rules) (n p : ℕ) → (pipe_of pipes p).from < n →
    streams_by pipes rule n p ≡ stream_put pipes rule (streams_by pipes rule (pipe_of pipes p).from) p
settled pipes rule zero p below = absurd (omega arith)
settled pipes rule (suc n) p below = elim (cases_eq (pipe_of pipes p).from n) [
  | inl is ↦ cond-true _ (stream_put pipes rule (streams_by pipes rule n) p) (streams_by pipes rule n p) (eq-eqb _ _ is)
      ∙ ap (λ k. stream_put pipes rule (streams_by pipes rule k) p) (sym is)
  | inr not ↦ cond-false _ (stream_put pipes rule (streams_by pipes rule n) p) (streams_by pipes rule n p) (ne_eqb _ _
      not)
      ∙ settled pipes rule n p (omega (arith, not))
]

-- the streams that tasks give in command order are a meaning
pub streams_by_mean : (tasks : ℕ) (pipes : List Pipe) (rule : Rules) → IsForward pipes →
    ((p : ℕ) → p < length pipes → (pipe_of pipes p).from < tasks) →
    IsMeaning pipes rule (streams_by pipes rule tasks)
streams_by_mean tasks pipes rule forward within = record {
  by_rule = λ p known. settled pipes rule tasks p (within p known)
      ∙ put_alike pipes rule (streams_by pipes rule (pipe_of pipes p).from) (streams_by pipes rule tasks) p
      (λ q there joins. settled pipes rule (pipe_of pipes p).from q (let ahead = forward q there in omega arith)
      ∙ sym (settled pipes rule tasks q (within q there)));
}
