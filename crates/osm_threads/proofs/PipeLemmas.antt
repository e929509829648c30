-- Lemmas on the pipes of a graph, which are made and meet one after the other.
use Rattle.std.proofs.Common.{◌≡◌, ℕ, zero, suc, ◌<◌, ◌+◌, inl, inr, List, [], ◌∷◌, length, get_or, Option, Some, None, refl, sym, ap, subst, ◌∙◌, arith}
use Rattle.std.proofs.lemmas.Bool.{cases_eq}
use Rattle.osm_graph.specs.Pipes.{no_pipe, pipe_into, pipe_of, pipe_out}
use Rattle.osm_graph.specs.declared.pipe.Pipe.{Pipe}
use Rattle.osm_pipe.specs.Pipes.{HalfValue, Meets, half}
use Rattle.osm_threads.specs.Meetings.{AreApart, HaveMetSoFar}
use Rattle.osm_threads.specs.Ports.{PortHalf, passed_at}
use Rattle.osm_threads.specs.Rows.{AreMade, AreNewEnds, HaveNothing, IsPutAt, giving_end, half_at, inlets_of, outlets_of, taking_end}
use Rattle.osm_threads.specs.declared.ports.TaskPorts.{TaskPorts}

-- ---- two pipes have no end in common

some_parts : (p q : ℕ) → (let o : Option ℕ = Some p in o) ≡ Some q → p ≡ q
some_parts p q same = cc

pub apart_out : (pipes : List Pipe) (tasks p q : ℕ) → AreApart pipes tasks → p < length pipes → q < length pipes →
    (pipe_of pipes p).from ≡ (pipe_of pipes q).from → (pipe_of pipes p).from_port ≡ (pipe_of pipes q).from_port → p ≡ q
apart_out pipes tasks p q apart known there task port = some_parts p q
    (sym (apart.out p known) ∙ ap (λ t. pipe_out pipes t (pipe_of pipes p).from_port) task
    ∙ ap (pipe_out pipes (pipe_of pipes q).from) port ∙ apart.out q there)

pub apart_into : (pipes : List Pipe) (tasks p q : ℕ) → AreApart pipes tasks → p < length pipes → q < length pipes →
    (pipe_of pipes p).to ≡ (pipe_of pipes q).to → (pipe_of pipes p).to_port ≡ (pipe_of pipes q).to_port → p ≡ q
apart_into pipes tasks p q apart known there task port = some_parts p q
    (sym (apart.into p known) ∙ ap (λ t. pipe_into pipes t (pipe_of pipes p).to_port) task
    ∙ ap (pipe_into pipes (pipe_of pipes q).to) port ∙ apart.into q there)

-- an element of a list of pipes is the pipe of its number
pub pipe_is : (pipes : List Pipe) (k : ℕ) (d : Pipe) → k < length pipes → get_or pipes k d ≡ pipe_of pipes k
pipe_is pipes k d known = any_pipe pipes k d no_pipe known where
  any_pipe : (pipes : List Pipe) (k : ℕ) (d e : Pipe) → k < length pipes → get_or pipes k d ≡ get_or pipes k e
  any_pipe [] k d e known = absurd (omega arith)
  any_pipe (pipe ∷ more) zero d e known = refl
  any_pipe (pipe ∷ more) (suc k) d e known = any_pipe more k d e (omega arith)

-- ---- one pipe more is made

-- where nothing is at any port no pipe was made yet
pub none_made : (pipes : List Pipe) (tasks : List TaskPorts) → HaveNothing tasks →
    AreMade pipes 0 (inlets_of tasks) (outlets_of tasks)
none_made pipes tasks none = record {
  made = λ p below. absurd (omega (arith, below));
  no_inlet = λ t port leads. none.inlets t port;
  no_outlet = λ t port begins. none.outlets t port;
}

pub made_more : (pipes : List Pipe) (tasks k : ℕ) (ins outs ins_next outs_next : List (List PortHalf)) (giver : HalfValue)
    (taker : HalfValue) → AreApart pipes tasks → AreMade pipes k ins outs → k < length pipes →
    giver ≡ half giver.pipe [] → taker ≡ half giver.pipe [] →
    IsPutAt outs outs_next (pipe_of pipes k).from (pipe_of pipes k).from_port (Some giver) →
    IsPutAt ins ins_next (pipe_of pipes k).to (pipe_of pipes k).to_port (Some taker) →
    AreMade pipes (k + 1) ins_next outs_next
made_more pipes tasks k ins outs ins_next outs_next giver taker apart so known new_giver new_taker out into = record {
  made = λ p below. elim (cases_eq p k) [
    | inl here ↦ subst (λ n. AreNewEnds (giving_end outs_next pipes n) (taking_end ins_next pipes n)) (sym here)
        (record { pipe = giver.pipe; gives = out.there ∙ ap Some new_giver; takes = into.there ∙ ap Some new_taker })
    | inr other ↦ let old = so.made p (omega (arith, below, other)) in record {
      pipe = old.pipe;
      gives = out.others (pipe_of pipes p).from (pipe_of pipes p).from_port
          (λ task port. other (apart_out pipes tasks p k apart (omega (arith, below, other, known)) known task port))
          ∙ old.gives;
      takes = into.others (pipe_of pipes p).to (pipe_of pipes p).to_port
          (λ task port. other (apart_into pipes tasks p k apart (omega (arith, below, other, known)) known task port))
          ∙ old.takes;
    }
  ];
  no_inlet = λ t port leads. into.others t port (leads k (omega arith))
      ∙ so.no_inlet t port (λ p below. leads p (omega (arith, below)));
  no_outlet = λ t port begins. out.others t port (begins k (omega arith))
      ∙ so.no_outlet t port (λ p below. begins p (omega (arith, below)));
}

-- ---- one pipe more has met

pub met_more : (pipes : List Pipe) (tasks k : ℕ) (ins outs ins_now outs_now ins_next outs_next : List (List PortHalf))
    (sent taken : HalfValue) → AreApart pipes tasks → HaveMetSoFar pipes k ins outs ins_now outs_now → k < length pipes →
    giving_end outs_now pipes k ≡ Some sent → taking_end ins_now pipes k ≡ Some taken →
    IsPutAt outs_now outs_next (pipe_of pipes k).from (pipe_of pipes k).from_port None →
    IsPutAt ins_now ins_next (pipe_of pipes k).to (pipe_of pipes k).to_port None →
    Meets taken.list sent.list → HaveMetSoFar pipes (k + 1) ins outs ins_next outs_next
met_more pipes tasks k ins outs ins_now outs_now ins_next outs_next sent taken apart so known gives takes out into meets =
    let giving : giving_end outs pipes k ≡ Some sent = sym (so.giving k (omega arith) known) ∙ gives in
    let taking : taking_end ins pipes k ≡ Some taken = sym (so.taking k (omega arith) known) ∙ takes in
    record {
      met = λ p below. elim (cases_eq p k) [
        | inl here ↦
            subst (λ n. Meets (passed_at (taking_end ins pipes n)) (passed_at (giving_end outs pipes n))) (sym here)
            (subst (λ ms. Meets ms (passed_at (giving_end outs pipes k))) (sym (ap passed_at taking))
            (subst (λ ms. Meets taken.list ms) (sym (ap passed_at giving)) meets))
        | inr other ↦ so.met p (omega (arith, below, other))
      ];
      giving = λ p past there. out.others (pipe_of pipes p).from (pipe_of pipes p).from_port
          (λ task port. let same = apart_out pipes tasks p k apart there known task port in omega (arith, past, same))
          ∙ so.giving p (omega (arith, past)) there;
      taking = λ p past there. into.others (pipe_of pipes p).to (pipe_of pipes p).to_port
          (λ task port. let same = apart_into pipes tasks p k apart there known task port in omega (arith, past, same))
          ∙ so.taking p (omega (arith, past)) there;
      givers = out.count ∙ so.givers;
      takers = into.count ∙ so.takers;
    }

-- ---- the same for an element of a list of pipes, of which first the one end and then the other is put or taken away

pub made_next : (pipes : List Pipe) (tasks k : ℕ) (d : Pipe)
    (ins outs ins_mid outs_mid ins_next outs_next : List (List PortHalf)) (giver taker : HalfValue) →
    AreApart pipes tasks → AreMade pipes k ins outs → k < length pipes → giver ≡ half giver.pipe [] →
    taker ≡ half giver.pipe [] → ins_mid ≡ ins → outs_next ≡ outs_mid →
    IsPutAt outs outs_mid (get_or pipes k d).from (get_or pipes k d).from_port (Some giver) →
    IsPutAt ins_mid ins_next (get_or pipes k d).to (get_or pipes k d).to_port (Some taker) →
    AreMade pipes (k + 1) ins_next outs_next
made_next pipes tasks k d ins outs ins_mid outs_mid ins_next outs_next giver taker apart so known new_giver new_taker
    ins_same outs_same out into =
    let is : get_or pipes k d ≡ pipe_of pipes k = pipe_is pipes k d known in
    let out_next = subst (λ rows. IsPutAt outs rows (get_or pipes k d).from (get_or pipes k d).from_port (Some giver))
    (sym outs_same) out in
    let into_next = subst (λ rows. IsPutAt rows ins_next (get_or pipes k d).to (get_or pipes k d).to_port (Some taker))
    ins_same into in
    made_more pipes tasks k ins outs ins_next outs_next giver taker apart so known new_giver new_taker
    (subst (λ (l : Pipe). IsPutAt outs outs_next l.from l.from_port (Some giver)) is out_next)
    (subst (λ (l : Pipe). IsPutAt ins ins_next l.to l.to_port (Some taker)) is into_next)

pub met_next : (pipes : List Pipe) (tasks k : ℕ) (d : Pipe)
    (ins outs ins_now outs_now ins_mid outs_mid ins_next outs_next : List (List PortHalf)) (sent taken : HalfValue) →
    AreApart pipes tasks → HaveMetSoFar pipes k ins outs ins_now outs_now → k < length pipes → ins_mid ≡ ins_now →
    outs_next ≡ outs_mid → half_at outs_now (get_or pipes k d).from (get_or pipes k d).from_port ≡ Some sent →
    half_at ins_mid (get_or pipes k d).to (get_or pipes k d).to_port ≡ Some taken →
    IsPutAt outs_now outs_mid (get_or pipes k d).from (get_or pipes k d).from_port None →
    IsPutAt ins_mid ins_next (get_or pipes k d).to (get_or pipes k d).to_port None → Meets taken.list sent.list →
    HaveMetSoFar pipes (k + 1) ins outs ins_next outs_next
met_next pipes tasks k d ins outs ins_now outs_now ins_mid outs_mid ins_next outs_next sent taken apart so known
    ins_same outs_same gives takes out into meets =
    let is : get_or pipes k d ≡ pipe_of pipes k = pipe_is pipes k d known in
    let takes_now = subst (λ rows. half_at rows (get_or pipes k d).to (get_or pipes k d).to_port ≡ Some taken) ins_same
    takes in
    let out_next = subst (λ rows. IsPutAt outs_now rows (get_or pipes k d).from (get_or pipes k d).from_port None)
    (sym outs_same) out in
    let into_next = subst (λ rows. IsPutAt rows ins_next (get_or pipes k d).to (get_or pipes k d).to_port None) ins_same
    into in
    met_more pipes tasks k ins outs ins_now outs_now ins_next outs_next sent taken apart so known
    (subst (λ (l : Pipe). half_at outs_now l.from l.from_port ≡ Some sent) is gives)
    (subst (λ (l : Pipe). half_at ins_now l.to l.to_port ≡ Some taken) is takes_now)
    (subst (λ (l : Pipe). IsPutAt outs_now outs_next l.from l.from_port None) is out_next)
    (subst (λ (l : Pipe). IsPutAt ins_now ins_next l.to l.to_port None) is into_next) meets
