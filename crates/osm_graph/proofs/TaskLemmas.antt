-- Tasks of which each has a port, and each port a pipe of its own, are at most two for each pipe.
use Rattle.std.proofs.Common.{◌≡◌, ◌<◌, ◌≤◌, ◌+◌, ◌⊎◌, ℕ, zero, suc, true, false, List, ◌∷◌, [], length, get_or, Option, None, Some, refl, sym, ap, inl, inr, ◌∙◌, arith}
use Rattle.std.specs.Prelude.{◌==◌, ◌&&◌, IsSome}
use Rattle.std.specs.List.{list_any, IsDistinct, AllByRecursion}
use Rattle.std.proofs.lemmas.Bool.{and_parts, or_cases, cases_lt, eqb-true, ne_eqb}
use Rattle.std.proofs.lemmas.List.Quantifiers.{position-Some}
use Rattle.std.proofs.lemmas.Map.Steps.{length-le_from_distinct_below}
use Rattle.osm_entity.specs.declared.kind.Flow.TheVariants.{Entities, Changes}
use Rattle.osm_tasks.specs.Kinds.{inputs_of, outputs_of}
use Rattle.osm_tasks.specs.Tasks.{TaskValue, IsTask}
use Rattle.osm_tasks.specs.declared.kind.TaskKind.{TaskKind}
use Rattle.osm_tasks.specs.declared.kind.TaskKind.TheVariants.{ReadPbf, ReadOpl, ReadOplChange, ReadEmpty, ReadMade, WritePbf, WriteOpl, WriteOplChange, WriteNull, WriteSummary, Merge, MergeChange, AppendChange, ApplyChange, SimplifyChange, Tee, Buffer, Spool, BoundingBox, BoundingPolygon, TagFilter, UsedNode, UsedWay, Sort, SortChange}
use Rattle.osm_graph.specs.Graphs.{no_task, count_inputs, count_outputs}
use Rattle.osm_graph.specs.Pipes.{no_pipe, pipe_of, pipe_into, pipe_out, IsWholeGraph}
use Rattle.osm_graph.specs.declared.pipe.Pipe.{Pipe}
use Rattle.osm_graph.proofs.ListLemmas.{Every, Every-get_or}

-- each kind has an input or an output
some_port : (kind : TaskKind) → 0 < length (inputs_of kind) + length (outputs_of kind)
some_port (ReadPbf file) = omega arith
some_port (ReadOpl file) = omega arith
some_port (ReadOplChange file) = omega arith
some_port ReadEmpty = omega arith
some_port (ReadMade count seed) = omega arith
some_port (WritePbf file batchlimit usedense omitmetadata granularity) = omega arith
some_port (WriteOpl file) = omega arith
some_port (WriteOplChange file) = omega arith
some_port WriteNull = omega arith
some_port (WriteSummary file) = omega arith
some_port (Merge resolution) = omega arith
some_port (MergeChange resolution) = omega arith
some_port AppendChange = omega arith
some_port ApplyChange = omega arith
some_port SimplifyChange = omega arith
some_port (Tee Entities outputs) = omega arith
some_port (Tee Changes outputs) = omega arith
some_port (Buffer Entities capacity) = omega arith
some_port (Buffer Changes capacity) = omega arith
some_port (Spool Entities) = omega arith
some_port (Spool Changes) = omega arith
some_port (BoundingBox left right top bottom options) = omega arith
some_port (BoundingPolygon file options) = omega arith
some_port (TagFilter accept kind tests) = omega arith
some_port UsedNode = omega arith
some_port UsedWay = omega arith
some_port Sort = omega arith
some_port SortChange = omega arith

-- the first numbers of a function
abbrev listed : (ℕ → ℕ) → ℕ → List ℕ
listed f zero = []
listed f (suc n) = f n ∷ listed f n

length-listed : (f : ℕ → ℕ) (n : ℕ) → length (listed f n) ≡ n
length-listed f zero = refl
length-listed f (suc n) = ap suc (length-listed f n)

listed-below : (f : ℕ → ℕ) (n m q : ℕ) → ((i : ℕ) → i < n → f i < m) →
    list_any (λ x. q == x) (listed f n) ≡ true → q < m
listed-below f zero m q below any = absurd (let never : false ≡ true = any in cc)
listed-below f (suc n) m q below any =
    by_cases (or_cases _ _ any) (λ more. listed-below f n m q (λ i less. below i (omega arith)) more)
  where
    by_cases : ((q == f n) ≡ true) ⊎ (list_any (λ x. q == x) (listed f n) ≡ true) →
        (list_any (λ x. q == x) (listed f n) ≡ true → q < m) → q < m
    by_cases (inl here) later = omega (arith, eqb-true q (f n) here, below n (omega arith))
    by_cases (inr more) later = later more

apart-listed : (f : ℕ → ℕ) (n x : ℕ) → ((i : ℕ) → i < n → x ≡ f i → ⊥) →
    AllByRecursion (λ y. (x == y) ≡ false) (listed f n)
apart-listed f zero x differ = tt
apart-listed f (suc n) x differ =
    (ne_eqb x (f n) (differ n (omega arith)), apart-listed f n x (λ i less. differ i (omega arith)))

listed-distinct : (f : ℕ → ℕ) (n : ℕ) → ((i j : ℕ) → i < n → j < n → f i ≡ f j → i ≡ j) →
    IsDistinct (λ x y. x == y) (listed f n)
unfolding IsDistinct
listed-distinct f zero one = tt
listed-distinct f (suc n) one = (
  apart-listed f n (f n) (λ i less same. omega (arith, one n i (omega arith) (omega arith) same)),
  listed-distinct f n (λ i j low high. one i j (omega arith) (omega arith)),
)

-- no more numbers than there is room for
pub pigeonhole : (f : ℕ → ℕ) (n m : ℕ) → ((i : ℕ) → i < n → f i < m) →
    ((i j : ℕ) → i < n → j < n → f i ≡ f j → i ≡ j) → n ≤ m
pigeonhole f n m below one =
    let few : length (listed f n) ≤ m =
    length-le_from_distinct_below (listed f n) m (listed-distinct f n one)
    (λ q any. listed-below f n m q below any) in
    omega (arith, few, length-listed f n)

-- an end of a pipe at a task: the pipe leads to it, or comes from it
abbrev end_at : Option ℕ → Option ℕ → ℕ
end_at (Some p) out = p + p
end_at None (Some p) = p + p + 1
end_at None None = 0

-- a number is an end at a task
record IsEndAt (pipes : List Pipe) (t n : ℕ) : Type 0 where
  pub pipe : ℕ
  pub known : pipe < length pipes
  pub is : ((n ≡ pipe + pipe) × ((pipe_of pipes pipe).to ≡ t))
      ⊎ ((n ≡ pipe + pipe + 1) × ((pipe_of pipes pipe).from ≡ t))

into-is : (pipes : List Pipe) (t port p : ℕ) → pipe_into pipes t port ≡ Some p →
    (p < length pipes) × ((pipe_of pipes p).to ≡ t)
into-is pipes t port p is =
    let here = position-Some (λ pipe. (pipe.to == t) && (pipe.to_port == port)) pipes p no_pipe is in
    (here.0, eqb-true _ t (and_parts _ _ here.1).0)

out-is : (pipes : List Pipe) (t port p : ℕ) → pipe_out pipes t port ≡ Some p →
    (p < length pipes) × ((pipe_of pipes p).from ≡ t)
out-is pipes t port p is =
    let here = position-Some (λ pipe. (pipe.from == t) && (pipe.from_port == port)) pipes p no_pipe is in
    (here.0, eqb-true _ t (and_parts _ _ here.1).0)

-- a task with a port has an end
has-end : (pipes : List Pipe) (t : ℕ) (into out : Option ℕ) → pipe_into pipes t 0 ≡ into → pipe_out pipes t 0 ≡ out →
    IsSome into ⊎ IsSome out → IsEndAt pipes t (end_at into out)
has-end pipes t (Some p) out is_into is_out some =
    let there : (p < length pipes) × ((pipe_of pipes p).to ≡ t) = into-is pipes t 0 p is_into in
    record { pipe = p; known = there.0; is = inl (refl, there.1) }
has-end pipes t None (Some p) is_into is_out some =
    let there : (p < length pipes) × ((pipe_of pipes p).from ≡ t) = out-is pipes t 0 p is_out in
    record { pipe = p; known = there.0; is = inr (refl, there.1) }
has-end pipes t None None is_into is_out (inl some) = absurd (let never : false ≡ true = some in cc)
has-end pipes t None None is_into is_out (inr some) = absurd (let never : false ≡ true = some in cc)

end-below : (pipes : List Pipe) (t n : ℕ) → IsEndAt pipes t n → n < length pipes + length pipes
end-below pipes t n end = by_cases end.is
  where
    by_cases : ((n ≡ end.pipe + end.pipe) × ((pipe_of pipes end.pipe).to ≡ t))
        ⊎ ((n ≡ end.pipe + end.pipe + 1) × ((pipe_of pipes end.pipe).from ≡ t)) → n < length pipes + length pipes
    by_cases (inl a) = omega (arith, a.0, end.known)
    by_cases (inr b) = omega (arith, b.0, end.known)

-- one end is at one task
one_task : (pipes : List Pipe) (t u n : ℕ) → IsEndAt pipes t n → IsEndAt pipes u n → t ≡ u
one_task pipes t u n one other = by_cases one.is other.is
  where
    same_to : one.pipe ≡ other.pipe → (pipe_of pipes one.pipe).to ≡ (pipe_of pipes other.pipe).to
    same_to is = ap (λ p. (pipe_of pipes p).to) is

    same_from : one.pipe ≡ other.pipe → (pipe_of pipes one.pipe).from ≡ (pipe_of pipes other.pipe).from
    same_from is = ap (λ p. (pipe_of pipes p).from) is

    by_cases : ((n ≡ one.pipe + one.pipe) × ((pipe_of pipes one.pipe).to ≡ t))
        ⊎ ((n ≡ one.pipe + one.pipe + 1) × ((pipe_of pipes one.pipe).from ≡ t)) →
        ((n ≡ other.pipe + other.pipe) × ((pipe_of pipes other.pipe).to ≡ u))
        ⊎ ((n ≡ other.pipe + other.pipe + 1) × ((pipe_of pipes other.pipe).from ≡ u)) → t ≡ u
    by_cases (inl a) (inl b) = sym a.1 ∙ same_to (omega (arith, a.0, b.0)) ∙ b.1
    by_cases (inr a) (inr b) = sym a.1 ∙ same_from (omega (arith, a.0, b.0)) ∙ b.1
    by_cases (inl a) (inr b) = absurd (omega (arith, a.0, b.0))
    by_cases (inr a) (inl b) = absurd (omega (arith, a.0, b.0))

-- each task of a whole graph has an end
task-end : (tasks : List TaskValue) (pipes : List Pipe) (t : ℕ) →
    IsWholeGraph (length tasks) (count_inputs tasks) (count_outputs tasks) pipes → Every IsTask tasks →
    t < length tasks → IsEndAt pipes t (end_at (pipe_into pipes t 0) (pipe_out pipes t 0))
task-end tasks pipes t whole are known =
    let task : TaskValue = get_or tasks t no_task in
    let is : IsTask task = Every-get_or IsTask tasks t no_task known are in
    let ports : 0 < count_inputs tasks t + count_outputs tasks t =
    omega (arith, is.inputs, is.outputs, some_port task.kind) in
    has-end pipes t (pipe_into pipes t 0) (pipe_out pipes t 0) refl refl
    (by_cases (cases_lt 0 (count_inputs tasks t)) ports)
  where
    by_cases : (0 < count_inputs tasks t) ⊎ (count_inputs tasks t ≤ 0) →
        0 < count_inputs tasks t + count_outputs tasks t →
        IsSome (pipe_into pipes t 0) ⊎ IsSome (pipe_out pipes t 0)
    by_cases (inl some) ports = inl (whole.into t 0 known some)
    by_cases (inr none) ports = inr (whole.out t 0 known (omega arith))

-- a graph has at most two tasks for each pipe
pub few-tasks : (tasks : List TaskValue) (pipes : List Pipe) →
    IsWholeGraph (length tasks) (count_inputs tasks) (count_outputs tasks) pipes → Every IsTask tasks →
    length tasks ≤ length pipes + length pipes
few-tasks tasks pipes whole are =
    pigeonhole (λ t. end_at (pipe_into pipes t 0) (pipe_out pipes t 0)) (length tasks) (length pipes + length pipes)
    (λ t known. end-below pipes t _ (task-end tasks pipes t whole are known))
    (λ t u known known_too same.
    one_task pipes t u _ (task-end tasks pipes t whole are known)
    (rw same (task-end tasks pipes u whole are known_too)))
