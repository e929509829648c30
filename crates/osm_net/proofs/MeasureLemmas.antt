-- Each move leaves a network less to do.
use Rattle.std.proofs.Common.{◌≡◌, ℕ, zero, suc, ◌<◌, ◌≤◌, ◌+◌, ◌*◌, ◌-◌, List, [], ◌∷◌, ◌++◌, length, sym, ap, subst, ◌∙◌, arith}
use Rattle.std.proofs.Math.Nat.{add-mul, mul-le-mul_right}
use Rattle.std.proofs.lemmas.List.{length-append}
use Rattle.osm_entity.specs.Calls.{Gives, Pulls, Takes}
use Rattle.osm_entity.specs.Machines.{Meanings}
use Rattle.osm_entity.specs.declared.stream.Message.{Message}
use Rattle.osm_graph.specs.Pipes.{pipe_of}
use Rattle.osm_graph.specs.declared.pipe.Pipe.{Pipe}
use Rattle.osm_net.specs.Measure.{net_weight, step_weight}
use Rattle.osm_net.specs.Nets.{IsGraphOf, Others}
use Rattle.osm_net.proofs.RunLemmas.{from_known}
use Rattle.osm_net.proofs.SumLemmas.{sum_one}

weight_next : (b n : ℕ) → step_weight b (suc n) ≡ (b + 1) * step_weight b n + step_weight b n
weight_next b n =
    let w : ℕ = step_weight b n in
    let two : (b + 2) * w ≡ b * w + 2 * w = add-mul b 2 w in
    let one : (b + 1) * w ≡ b * w + 1 * w = add-mul b 1 w in
    omega (arith, two, one)

weight_some : (b n : ℕ) → 1 ≤ step_weight b n
weight_some b zero = omega arith
weight_some b (suc n) = let more = weight_some b n in let is = weight_next b n in omega (arith, more, is)

weight_up : (b n k : ℕ) → step_weight b n ≤ step_weight b (n + k)
weight_up b n zero = let e : n + 0 ≡ n = omega arith in subst (λ j. step_weight b n ≤ step_weight b j) (sym e) (omega
    arith)
weight_up b n (suc k) =
    let e : n + suc k ≡ suc (n + k) = omega arith in
    let more = weight_up b n k in
    let is = weight_next b (n + k) in
    subst (λ j. step_weight b n ≤ step_weight b j) (sym e) (omega (arith, more, is))

-- a task before another weighs more than the other's messages do
weight_before : (b tasks from to : ℕ) → from < to → to < tasks →
    (b + 1) * step_weight b (tasks - to) + step_weight b (tasks - to) ≤ step_weight b (tasks - from)
weight_before b tasks from to ahead known =
    let e : suc (tasks - to) + (to - from - 1) ≡ tasks - from = omega (arith, ahead, known) in
    let up : step_weight b (suc (tasks - to)) ≤ step_weight b (tasks - from) =
    subst (λ j. step_weight b (suc (tasks - to)) ≤ step_weight b j) e
    (weight_up b (suc (tasks - to)) (to - from - 1)) in
    let is = weight_next b (tasks - to) in
    omega (arith, up, is)

-- less left to do weighs less
less_weighs : (now old w : ℕ) → now < old → now * w + w ≤ old * w
less_weighs now old w less =
    let more : (now + 1) * w ≤ old * w = mul-le-mul_right w (omega (arith, less)) in
    let split : (now + 1) * w ≡ now * w + 1 * w = add-mul now 1 w in
    omega (arith, more, split)

-- a message more weighs its weight
message_weighs : (now old w : ℕ) → now ≡ old + 1 → now * w ≡ old * w + w
message_weighs now old w is =
    let split : (old + 1) * w ≡ old * w + 1 * w = add-mul old 1 w in
    ap (λ n. n * w) is ∙ omega (arith, split)

pub took_falls : {M : Type 0} (of : Meanings M) (b tasks : ℕ) (pipes : List Pipe) (machine now : ℕ → M)
    (queue left : ℕ → List Message) (p : ℕ) (m : Message) → IsGraphOf of tasks machine pipes →
    ((t : ℕ) → t < tasks → (of.task (machine t)).outputs ≤ b) → p < length pipes → Others p queue left →
    queue p ≡ m ∷ left p → Others (pipe_of pipes p).to machine now →
    Takes of (pipe_of pipes p).to_port m (machine (pipe_of pipes p).to) (now (pipe_of pipes p).to) →
    net_weight b tasks pipes (λ t. of.left (now t)) left < net_weight b tasks pipes (λ t. of.left (machine t)) queue
took_falls of b tasks pipes machine now queue left p m graph few known elsewhere first others takes =
    let to : ℕ = (pipe_of pipes p).to in
    let w : ℕ = step_weight b (tasks - to) in
    let old_left : ℕ = of.left (machine to) in
    let new_left : ℕ = of.left (now to) in
    let there : to < tasks = graph.known p known in
    let bound : new_left ≤ old_left + b = omega (arith, takes.left, few to there) in
    let weighed : new_left * w ≤ (old_left + b) * w = mul-le-mul_right w bound in
    let split : (old_left + b) * w ≡ old_left * w + b * w = add-mul old_left b w in
    let unit : (b + 1) * w ≡ b * w + 1 * w = add-mul b 1 w in
    let fewer : length (queue p) * ((b + 1) * w) ≡ length (left p) * ((b + 1) * w) + (b + 1) * w =
    message_weighs (length (queue p)) (length (left p)) ((b + 1) * w) (omega (arith, ap length first)) in
    let by_task = sum_one (λ t. of.left (now t) * step_weight b (tasks - t)) (λ t. of.left (machine t) * step_weight b
    (tasks - t))
    to tasks there (λ k not. ap (λ n. of.left n * step_weight b (tasks - k)) (others k not)) in
    let by_pipe = sum_one (λ q. length (left q) * ((b + 1) * step_weight b (tasks - (pipe_of pipes q).to)))
    (λ q. length (queue q) * ((b + 1) * step_weight b (tasks - (pipe_of pipes q).to))) p (length pipes) known
    (λ k not. ap (λ ms. length ms * ((b + 1) * step_weight b (tasks - (pipe_of pipes k).to))) (elsewhere k not)) in
    omega (arith, weighed, split, unit, fewer, by_task, by_pipe, weight_some b (tasks - to))

pub gave_falls : {M : Type 0} (of : Meanings M) (b tasks : ℕ) (pipes : List Pipe) (machine now : ℕ → M)
    (queue more : ℕ → List Message) (p : ℕ) (m : Message) → IsGraphOf of tasks machine pipes → p < length pipes →
    Others p queue more → more p ≡ queue p ++ m ∷ [] → Others (pipe_of pipes p).from machine now →
    Gives of (pipe_of pipes p).from_port m (machine (pipe_of pipes p).from) (now (pipe_of pipes p).from) →
    net_weight b tasks pipes (λ t. of.left (now t)) more < net_weight b tasks pipes (λ t. of.left (machine t)) queue
gave_falls of b tasks pipes machine now queue more p m graph known elsewhere after others gives =
    let from : ℕ = (pipe_of pipes p).from in
    let to : ℕ = (pipe_of pipes p).to in
    let w : ℕ = step_weight b (tasks - from) in
    let v : ℕ = step_weight b (tasks - to) in
    let leaves : from < tasks =
    from_known tasks (λ t. (of.task (machine t)).inputs) (λ t. (of.task (machine t)).outputs) pipes graph p known in
    let heavier : (b + 1) * v + v ≤ w = weight_before b tasks from to (graph.forward p known) (graph.known p known) in
    let less : of.left (now from) * w + w ≤ of.left (machine from) * w =
    less_weighs (of.left (now from)) (of.left (machine from)) w gives.left in
    let longer : length (more p) ≡ length (queue p) + 1 = ap length after ∙ length-append (queue p) (m ∷ []) in
    let added : length (more p) * ((b + 1) * v) ≡ length (queue p) * ((b + 1) * v) + (b + 1) * v =
    message_weighs (length (more p)) (length (queue p)) ((b + 1) * v) longer in
    let by_task = sum_one (λ t. of.left (now t) * step_weight b (tasks - t)) (λ t. of.left (machine t) * step_weight b
    (tasks - t))
    from tasks leaves (λ k not. ap (λ n. of.left n * step_weight b (tasks - k)) (others k not)) in
    let by_pipe = sum_one (λ q. length (more q) * ((b + 1) * step_weight b (tasks - (pipe_of pipes q).to)))
    (λ q. length (queue q) * ((b + 1) * step_weight b (tasks - (pipe_of pipes q).to))) p (length pipes) known
    (λ k not. ap (λ ms. length ms * ((b + 1) * step_weight b (tasks - (pipe_of pipes k).to))) (elsewhere k not)) in
    omega (arith, heavier, less, added, by_task, by_pipe, weight_some b (tasks - to))

pub pulled_falls : {M : Type 0} (of : Meanings M) (b tasks : ℕ) (pipes : List Pipe) (machine now : ℕ → M)
    (queue : ℕ → List Message) (t : ℕ) → t < tasks → Others t machine now → Pulls of (machine t) (now t) →
    net_weight b tasks pipes (λ k. of.left (now k)) queue < net_weight b tasks pipes (λ k. of.left (machine k)) queue
pulled_falls of b tasks pipes machine now queue t known others pulls =
    let w : ℕ = step_weight b (tasks - t) in
    let less : of.left (now t) * w + w ≤ of.left (machine t) * w =
    less_weighs (of.left (now t)) (of.left (machine t)) w pulls.left in
    let by_task = sum_one (λ k. of.left (now k) * step_weight b (tasks - k)) (λ k. of.left (machine k) * step_weight b
    (tasks - k))
    t tasks known (λ k not. ap (λ n. of.left n * step_weight b (tasks - k)) (others k not)) in
    omega (arith, less, by_task, weight_some b (tasks - t))
