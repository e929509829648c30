-- The pipes between ports and their readers: each has its output and its input, and each port has one.
use Rattle.std.proofs.Common.{◌≡◌, ◌<◌, ◌+◌, ◌⊎◌, ℕ, zero, suc, true, false, List, ◌∷◌, [], length, Option, None, Some, Result, Ok, Err, cond, refl, sym, ap, subst, inl, inr, ◌∙◌, arith}
use Rattle.std.specs.Prelude.{slice_get, find, count_by, ◌==◌}
use Rattle.std.proofs.lemmas.Bool.{cases_Bool, eqb-true}
use Rattle.osm_graph.specs.Joining.{pipe_between, joined_pipe, pipes_from}
use Rattle.osm_graph.specs.Ports.{PortValue}
use Rattle.osm_graph.specs.declared.fault.GraphError.{GraphError}
use Rattle.osm_graph.specs.declared.fault.GraphError.TheVariants.{UnusedPipes}
use Rattle.osm_graph.specs.declared.joining.Reader.{Reader}
use Rattle.osm_graph.specs.declared.pipe.Pipe.{Pipe}
use Rattle.osm_graph.proofs.ListLemmas.{Every, EachTwo, Among, EachTwo-among, find-among}
use Rattle.osm_graph.proofs.MatchLemmas.{count_by-cons}
use Rattle.osm_graph.proofs.PortLemmas.{ComesBefore, side_of}
use Rattle.osm_graph.proofs.ReaderLemmas.{OtherPlace, OtherInput, slice_get-Every}

-- the reader that is found at a place
abbrev reader_found : List Reader → ℕ → Option Reader
reader_found readers place = find (λ r. r.place == place) readers

-- what is joined from an output on, and from an input on
pipes-gives : (readers : List Reader) (place number : ℕ) (port : PortValue) (ports : List PortValue) →
    port.gives ≡ true →
    pipes_from readers place number (port ∷ ports)
    ≡ joined_pipe number port (reader_found readers place) (pipes_from readers (place + 1) (number + 1) ports)
pipes-gives readers place number port ports gives = rw gives refl

pipes-takes : (readers : List Reader) (place number : ℕ) (port : PortValue) (ports : List PortValue) →
    port.gives ≡ false →
    pipes_from readers place number (port ∷ ports) ≡ pipes_from readers (place + 1) number ports
pipes-takes readers place number port ports takes = rw takes refl

-- the pipes of an answer
abbrev pipes_in : Result (List Pipe) GraphError → List Pipe
pipes_in (Err fault) = []
pipes_in (Ok pipes) = pipes

-- the first pipe of some that are joined, and those after it
record IsSplit (readers : List Reader) (o number : ℕ) (port : PortValue) (ports : List PortValue)
    (pipes : List Pipe) : Type 0 where
  pub reader : Reader
  pub at : reader.place ≡ o
  pub among : Among readers reader
  pub more : List Pipe
  pub rest : pipes_from readers (o + 1) (number + 1) ports ≡ Ok more
  pub is : pipes ≡ pipe_between port reader ∷ more

split : (readers : List Reader) (place number : ℕ) (port : PortValue) (ports : List PortValue) (pipes : List Pipe) →
    port.gives ≡ true → pipes_from readers place number (port ∷ ports) ≡ Ok pipes →
    IsSplit readers place number port ports pipes
split readers place number port ports pipes gives ok =
    by_found (reader_found readers place) refl (pipes_from readers (place + 1) (number + 1) ports) refl
    (sym (pipes-gives readers place number port ports gives) ∙ ok)
  where
    by_found : (found : Option Reader) → reader_found readers place ≡ found → (rest : Result (List Pipe) GraphError) →
        pipes_from readers (place + 1) (number + 1) ports ≡ rest →
        joined_pipe number port found rest ≡ Ok pipes → IsSplit readers place number port ports pipes
    by_found None is rest same ok = absurd (let never : Err (UnusedPipes number) ≡ Ok pipes = ok in cc)
    by_found (Some reader) is (Err fault) same ok = absurd (let never : Err fault ≡ Ok pipes = ok in cc)
    by_found (Some reader) is (Ok more) same ok =
        let found : ((reader.place == place) ≡ true) × Among readers reader =
        find-among (λ r. r.place == place) readers reader is in
        record {
          reader = reader;
          at = eqb-true _ _ found.0;
          among = found.1;
          more = more;
          rest = same;
          is = sym (ap pipes_in ok);
        }

-- an input puts no pipe
skip : (readers : List Reader) (place number : ℕ) (port : PortValue) (ports : List PortValue) (pipes : List Pipe) →
    port.gives ≡ false → pipes_from readers place number (port ∷ ports) ≡ Ok pipes →
    pipes_from readers (place + 1) number ports ≡ Ok pipes
skip readers place number port ports pipes takes ok = sym (pipes-takes readers place number port ports takes) ∙ ok

-- a fact of pipes that follows for one port more: a pipe before those that have it, or none
one_more : (P : List Pipe → Type 0) (readers : List Reader) (place number : ℕ) (port : PortValue)
    (ports : List PortValue) (pipes : List Pipe) → pipes_from readers place number (port ∷ ports) ≡ Ok pipes →
    ((n : ℕ) (more : List Pipe) → pipes_from readers (place + 1) n ports ≡ Ok more → P more) →
    ((r : Reader) (more : List Pipe) → port.gives ≡ true → r.place ≡ place → Among readers r →
    pipes_from readers (place + 1) (number + 1) ports ≡ Ok more → P more → P (pipe_between port r ∷ more)) → P pipes
one_more P readers place number port ports pipes ok later first = by_side (cases_Bool port.gives)
  where
    by_side : (port.gives ≡ true) ⊎ (port.gives ≡ false) → P pipes
    by_side (inl gives) =
        let s : IsSplit readers place number port ports pipes = split readers place number port ports pipes gives ok in
        let both : P (pipe_between port s.reader ∷ s.more) =
        first s.reader s.more gives s.at s.among s.rest (later (number + 1) s.more s.rest) in
        subst P (sym s.is) both
    by_side (inr takes) = later number pipes (skip readers place number port ports pipes takes ok)

-- each pipe has what each output has with its reader
pub pipes-Every : (Q : Pipe → Type 0) (readers : List Reader) (place number : ℕ) (ports : List PortValue)
    (pipes : List Pipe) → pipes_from readers place number ports ≡ Ok pipes →
    ((k : ℕ) (p : PortValue) (r : Reader) → slice_get ports k ≡ Some p → p.gives ≡ true → r.place ≡ place + k →
    Among readers r → Q (pipe_between p r)) → Every Q pipes
pipes-Every Q readers place number [] pipes ok each = subst (Every Q) (ap pipes_in ok) tt
pipes-Every Q readers place number (port ∷ ports) pipes ok each =
    one_more (Every Q) readers place number port ports pipes ok
    (λ n more rest. pipes-Every Q readers (place + 1) n ports more rest
    (λ k p r at gives there among. each (suc k) p r at gives (there ∙ omega arith) among))
    (λ r more gives at among rest has. (each 0 port r refl gives (at ∙ omega arith) among, has))

-- two pipes come from two outputs
abbrev pub OtherOutput : Pipe → Pipe → Type 0
OtherOutput a b = a.from ≡ b.from → a.from_port ≡ b.from_port → ⊥

other-output : (port p : PortValue) (r q : Reader) → port.gives ≡ true → p.gives ≡ true → ComesBefore port p →
    OtherOutput (pipe_between port r) (pipe_between p q)
other-output port p r q gives gives_too before same_task same_port =
    let sides : side_of port.task port.gives ≡ side_of p.task p.gives = rw (gives, gives_too, same_task) refl in
    let less : port.port < p.port = before.number sides in
    omega (arith, less, same_port)

pub pipes-other_output : (readers : List Reader) (place number : ℕ) (ports : List PortValue) (pipes : List Pipe) →
    pipes_from readers place number ports ≡ Ok pipes → EachTwo ComesBefore ports → EachTwo OtherOutput pipes
pipes-other_output readers place number [] pipes ok order = subst (EachTwo OtherOutput) (ap pipes_in ok) tt
pipes-other_output readers place number (port ∷ ports) pipes ok order =
    one_more (EachTwo OtherOutput) readers place number port ports pipes ok
    (λ n more rest. pipes-other_output readers (place + 1) n ports more rest order.1)
    (λ r more gives at among rest has. (
      pipes-Every (OtherOutput (pipe_between port r)) readers (place + 1) (number + 1) ports more rest
          (λ k p q there gives_too later among_too. other-output port p r q gives gives_too
          (slice_get-Every (ComesBefore port) ports k p there order.0)),
      has,
    ))

-- two pipes lead to two inputs
abbrev pub OtherEnd : Pipe → Pipe → Type 0
OtherEnd a b = a.to ≡ b.to → a.to_port ≡ b.to_port → ⊥

-- readers of one input take one pipe
one_place : (readers : List Reader) (a b : Reader) → EachTwo OtherInput readers → Among readers a → Among readers b →
    a.task ≡ b.task → a.port ≡ b.port → a.place ≡ b.place
one_place readers a b differ has_a has_b task port = by_cases (EachTwo-among OtherInput readers a b differ has_a has_b)
  where
    by_cases : (a ≡ b) ⊎ (OtherInput a b ⊎ OtherInput b a) → a.place ≡ b.place
    by_cases (inl same) = ap (λ r. r.place) same
    by_cases (inr (inl never)) = absurd (never task port)
    by_cases (inr (inr never)) = absurd (never (sym task) (sym port))

-- readers of one pipe are one input
one_input : (readers : List Reader) (a b : Reader) → EachTwo OtherPlace readers → Among readers a → Among readers b →
    a.place ≡ b.place → (a.task ≡ b.task) × (a.port ≡ b.port)
one_input readers a b differ has_a has_b place = by_cases (EachTwo-among OtherPlace readers a b differ has_a has_b)
  where
    by_cases : (a ≡ b) ⊎ (OtherPlace a b ⊎ OtherPlace b a) → (a.task ≡ b.task) × (a.port ≡ b.port)
    by_cases (inl same) = (ap (λ r. r.task) same, ap (λ r. r.port) same)
    by_cases (inr (inl never)) = absurd (never place)
    by_cases (inr (inr never)) = absurd (never (sym place))

other-end : (readers : List Reader) (place k : ℕ) (port p : PortValue) (r q : Reader) → EachTwo OtherInput readers →
    Among readers r → Among readers q → r.place ≡ place → q.place ≡ place + 1 + k →
    OtherEnd (pipe_between port r) (pipe_between p q)
other-end readers place k port p r q differ among among_too at later same_task same_port =
    let places : r.place ≡ q.place = one_place readers r q differ among among_too same_task same_port in
    omega (arith, places, at, later)

pub pipes-other_end : (readers : List Reader) (place number : ℕ) (ports : List PortValue) (pipes : List Pipe) →
    pipes_from readers place number ports ≡ Ok pipes → EachTwo OtherInput readers → EachTwo OtherEnd pipes
pipes-other_end readers place number [] pipes ok differ = subst (EachTwo OtherEnd) (ap pipes_in ok) tt
pipes-other_end readers place number (port ∷ ports) pipes ok differ =
    one_more (EachTwo OtherEnd) readers place number port ports pipes ok
    (λ n more rest. pipes-other_end readers (place + 1) n ports more rest differ)
    (λ r more gives at among rest has. (
      pipes-Every (OtherEnd (pipe_between port r)) readers (place + 1) (number + 1) ports more rest
          (λ k p q there gives_too later among_too.
          other-end readers place k port p r q differ among among_too at later),
      has,
    ))

-- a pipe comes from an output
pub record HasPipeFrom (t n : ℕ) (pipes : List Pipe) : Type 0 where
  pub pipe : Pipe
  pub among : Among pipes pipe
  pub task : pipe.from ≡ t
  pub port : pipe.from_port ≡ n

from-later : (t n : ℕ) (first : Pipe) (more : List Pipe) → HasPipeFrom t n more → HasPipeFrom t n (first ∷ more)
from-later t n first more has = record { pipe = has.pipe; among = inr has.among; task = has.task; port = has.port }

-- each output has a pipe
pub outputs-have : (readers : List Reader) (place number : ℕ) (ports : List PortValue) (pipes : List Pipe)
    (p : PortValue) → pipes_from readers place number ports ≡ Ok pipes → Among ports p → p.gives ≡ true →
    HasPipeFrom p.task p.port pipes
outputs-have readers place number [] pipes p ok among gives = absurd among
outputs-have readers place number (port ∷ ports) pipes p ok (inl is) gives =
    let s : IsSplit readers place number port ports pipes =
    split readers place number port ports pipes (ap (λ q. q.gives) is ∙ gives) ok in
    subst (HasPipeFrom p.task p.port) (sym s.is)
    (record {
      pipe = pipe_between port s.reader;
      among = inl refl;
      task = ap (λ q. q.task) is;
      port = ap (λ q. q.port) is;
    })
outputs-have readers place number (port ∷ ports) pipes p ok (inr more) gives =
    one_more (HasPipeFrom p.task p.port) readers place number port ports pipes ok
    (λ n rest joined. outputs-have readers (place + 1) n ports rest p joined more gives)
    (λ r rest gives_too at among joined has. from-later p.task p.port (pipe_between port r) rest has)

-- a pipe leads to an input
pub record HasPipeTo (t n : ℕ) (pipes : List Pipe) : Type 0 where
  pub pipe : Pipe
  pub among : Among pipes pipe
  pub task : pipe.to ≡ t
  pub port : pipe.to_port ≡ n

to-later : (t n : ℕ) (first : Pipe) (more : List Pipe) → HasPipeTo t n more → HasPipeTo t n (first ∷ more)
to-later t n first more has = record { pipe = has.pipe; among = inr has.among; task = has.task; port = has.port }

-- each reader whose output is there has a pipe
pub readers-have : (readers : List Reader) (place number : ℕ) (ports : List PortValue) (pipes : List Pipe)
    (k : ℕ) (p : PortValue) (r : Reader) → pipes_from readers place number ports ≡ Ok pipes →
    EachTwo OtherPlace readers → slice_get ports k ≡ Some p → p.gives ≡ true → r.place ≡ place + k →
    Among readers r → HasPipeTo r.task r.port pipes
readers-have readers place number [] pipes k p r ok differ at gives there among =
    absurd (let never : None ≡ Some p = at in cc)
readers-have readers place number (port ∷ ports) pipes zero p r ok differ at gives there among =
    let same : port ≡ p = (let e : Some port ≡ Some p = at in grind arith) in
    let s : IsSplit readers place number port ports pipes =
    split readers place number port ports pipes (ap (λ q. q.gives) same ∙ gives) ok in
    let places : s.reader.place ≡ r.place = omega (arith, s.at, there) in
    let one : (s.reader.task ≡ r.task) × (s.reader.port ≡ r.port) =
    one_input readers s.reader r differ s.among among places in
    subst (HasPipeTo r.task r.port) (sym s.is)
    (record { pipe = pipe_between port s.reader; among = inl refl; task = one.0; port = one.1 })
readers-have readers place number (port ∷ ports) pipes (suc k) p r ok differ at gives there among =
    one_more (HasPipeTo r.task r.port) readers place number port ports pipes ok
    (λ n more joined. readers-have readers (place + 1) n ports more k p r joined differ at gives
    (there ∙ omega arith) among)
    (λ q more gives_too at_too among_too joined has. to-later r.task r.port (pipe_between port q) more has)

-- there are as many pipes as outputs
pub length-pipes : (readers : List Reader) (place number : ℕ) (ports : List PortValue) (pipes : List Pipe) →
    pipes_from readers place number ports ≡ Ok pipes → length pipes ≡ count_by (λ p. p.gives) ports
length-pipes readers place number [] pipes ok = ap length (sym (ap pipes_in ok))
length-pipes readers place number (port ∷ ports) pipes ok =
    by_side (cases_Bool port.gives) (count_by-cons (λ p. p.gives) port ports)
    (λ n more joined. length-pipes readers (place + 1) n ports more joined)
  where
    by_side : (port.gives ≡ true) ⊎ (port.gives ≡ false) →
        count_by (λ p. p.gives) (port ∷ ports) ≡ cond port.gives 1 0 + count_by (λ p. p.gives) ports →
        ((n : ℕ) (more : List Pipe) → pipes_from readers (place + 1) n ports ≡ Ok more →
        length more ≡ count_by (λ p. p.gives) ports) →
        length pipes ≡ count_by (λ p. p.gives) (port ∷ ports)
    by_side (inl gives) counts later =
        let s : IsSplit readers place number port ports pipes = split readers place number port ports pipes gives ok in
        let one : cond {A = ℕ} port.gives 1 0 ≡ 1 = rw gives refl in
        omega (arith, ap length s.is, later (number + 1) s.more s.rest, counts, one)
    by_side (inr takes) counts later =
        let none : cond {A = ℕ} port.gives 1 0 ≡ 0 = rw takes refl in
        omega (arith, later number pipes (skip readers place number port ports pipes takes ok), counts, none)
