-- Each reader takes the pipe of an earlier output, no two that of one output, and each input is one.
use Rattle.std.proofs.Common.{◌≡◌, ◌<◌, ◌⊎◌, ℕ, zero, suc, Bool, true, false, List, ◌∷◌, [], ◌++◌, Option, None, Some, refl, sym, ap, inl, inr, ◌∙◌, append_assoc, arith}
use Rattle.std.specs.Prelude.{if◌then◌else◌, slice_get}
use Rattle.std.specs.Option.{option_or}
use Rattle.std.proofs.lemmas.Bool.{cases_Bool}
use Rattle.osm_entity.specs.declared.kind.Flow.{Flow}
use Rattle.osm_entity.specs.declared.kind.Flow.TheVariants.{Entities, Changes}
use Rattle.osm_graph.specs.Joining.{is_same_flow, has_flow, is_taken, no_source, input_fault, output_fault, port_fault, ports_fault, readers_of}
use Rattle.osm_graph.specs.Matching.{source_place}
use Rattle.osm_graph.specs.Ports.{PortValue}
use Rattle.osm_graph.specs.declared.fault.GraphError.{GraphError}
use Rattle.osm_graph.specs.declared.fault.GraphError.TheVariants.{PipeTaken, WrongType}
use Rattle.osm_graph.specs.declared.joining.Reader.{Reader}
use Rattle.osm_graph.proofs.ListLemmas.{Every, EachTwo, Among, Among-right, Every-then, Every-among}
use Rattle.osm_graph.proofs.MatchLemmas.{IsSource, source-is, source-alone, slice_get-append}
use Rattle.osm_graph.proofs.PortLemmas.{ComesBefore, side_of}

-- an input as the reader of the pipe that is put at a place
abbrev pub reader_at : PortValue → ℕ → Reader
reader_at port o = record { place = o; task = port.task; port = port.port; store = port.store }

pub no_fault : (fault : GraphError) → Some fault ≡ None → ⊥
no_fault fault is = cc

-- no fault of two is none of either
pub neither : (one other : Option GraphError) → option_or one other ≡ None → (one ≡ None) × (other ≡ None)
neither None other none = (refl, none)
neither (Some fault) other none = absurd (no_fault fault none)

-- an input without a fault takes the pipe that an earlier output puts, and that no earlier input takes
pub record IsJoined (earlier : List PortValue) (port : PortValue) : Type 0 where
  pub place : ℕ
  pub source : source_place earlier port.name ≡ Some place
  pub free : is_taken earlier port.name ≡ false
  pub same : has_flow port.flow (slice_get earlier place) ≡ true

-- the fault of a port, by its side
pub takes-fault : (earlier : List PortValue) (port : PortValue) → port.gives ≡ false →
    port_fault earlier port ≡ input_fault earlier port (source_place earlier port.name)
takes-fault earlier port takes = rw takes refl

pub gives-fault : (earlier : List PortValue) (port : PortValue) → port.gives ≡ true →
    port_fault earlier port ≡ output_fault earlier port
gives-fault earlier port gives = rw gives refl

taken-fault : (earlier : List PortValue) (port : PortValue) (o : ℕ) → is_taken earlier port.name ≡ true →
    input_fault earlier port (Some o) ≡ Some (PipeTaken port.task port.port)
taken-fault earlier port o taken = rw taken refl

free-fault : (earlier : List PortValue) (port : PortValue) (o : ℕ) → is_taken earlier port.name ≡ false →
    input_fault earlier port (Some o)
    ≡ (if has_flow port.flow (slice_get earlier o) then None else Some (WrongType port.task port.port))
free-fault earlier port o free = rw free refl

-- without a fault the two streams are of one type
flow-same : (earlier : List PortValue) (port : PortValue) (o : ℕ) →
    (if has_flow port.flow (slice_get earlier o) then None else Some (WrongType port.task port.port)) ≡ None →
    has_flow port.flow (slice_get earlier o) ≡ true
flow-same earlier port o fine = by_test (has_flow port.flow (slice_get earlier o)) fine
  where
    by_test : (b : Bool) → (if b then None else Some (WrongType port.task port.port)) ≡ None → b ≡ true
    by_test true fine = refl
    by_test false fine = absurd (no_fault (WrongType port.task port.port) fine)

same_flow : (one other : Flow) → is_same_flow one other ≡ true → one ≡ other
same_flow Entities Entities same = refl
same_flow Changes Changes same = refl
same_flow Entities Changes same = absurd (let never : false ≡ true = same in cc)
same_flow Changes Entities same = absurd (let never : false ≡ true = same in cc)

pub input-joined : (earlier : List PortValue) (port : PortValue) → port.gives ≡ false →
    port_fault earlier port ≡ None → IsJoined earlier port
input-joined earlier port takes fine =
    by_source (source_place earlier port.name) refl (sym (takes-fault earlier port takes) ∙ fine)
  where
    by_free : (o : ℕ) → source_place earlier port.name ≡ Some o → (b : Bool) → is_taken earlier port.name ≡ b →
        input_fault earlier port (Some o) ≡ None → IsJoined earlier port
    by_free o is true taken fine =
        absurd (no_fault (PipeTaken port.task port.port) (sym (taken-fault earlier port o taken) ∙ fine))
    by_free o is false free fine =
        record {
          place = o;
          source = is;
          free = free;
          same = flow-same earlier port o (sym (free-fault earlier port o free) ∙ fine);
        }

    by_source : (source : Option ℕ) → source_place earlier port.name ≡ source →
        input_fault earlier port source ≡ None → IsJoined earlier port
    by_source None is fine = absurd (no_fault (no_source port port.name) fine)
    by_source (Some o) is fine = by_free o is (is_taken earlier port.name) refl fine

-- the readers among ports, with the first port apart
takes-reader : (earlier : List PortValue) (port : PortValue) (ports : List PortValue) → port.gives ≡ false →
    (joined : IsJoined earlier port) →
    readers_of earlier (port ∷ ports) ≡ reader_at port joined.place ∷ readers_of (earlier ++ port ∷ []) ports
takes-reader earlier port ports takes joined = rw (takes, joined.source) refl

gives-reader : (earlier : List PortValue) (port : PortValue) (ports : List PortValue) → port.gives ≡ true →
    readers_of earlier (port ∷ ports) ≡ readers_of (earlier ++ port ∷ []) ports
gives-reader earlier port ports gives = rw gives refl

-- a fact of readers, along one port more
Every-same : {X : Type 0} (P : X → Type 0) (xs ys : List X) → xs ≡ ys → Every P ys → Every P xs
Every-same P xs ys is has = rw is has

EachTwo-same : {X : Type 0} (R : X → X → Type 0) (xs ys : List X) → xs ≡ ys → EachTwo R ys → EachTwo R xs
EachTwo-same R xs ys is has = rw is has

-- each reader has what each input has
pub readers-Every : (Q : Reader → Type 0) (earlier ports : List PortValue) → ports_fault earlier ports ≡ None →
    Every (λ p. (o : ℕ) → p.gives ≡ false → Q (reader_at p o)) ports → Every Q (readers_of earlier ports)
readers-Every Q earlier [] fine each = tt
readers-Every Q earlier (port ∷ ports) fine each =
    let faults : (port_fault earlier port ≡ None) × (ports_fault (earlier ++ port ∷ []) ports ≡ None) =
    neither _ _ fine in
    by_side (cases_Bool port.gives) faults.0 (readers-Every Q (earlier ++ port ∷ []) ports faults.1 each.1)
  where
    by_side : (port.gives ≡ true) ⊎ (port.gives ≡ false) → port_fault earlier port ≡ None →
        Every Q (readers_of (earlier ++ port ∷ []) ports) → Every Q (readers_of earlier (port ∷ ports))
    by_side (inl gives) fine rest = Every-same Q _ _ (gives-reader earlier port ports gives) rest
    by_side (inr takes) fine rest =
        let joined : IsJoined earlier port = input-joined earlier port takes fine in
        Every-same Q _ (reader_at port joined.place ∷ readers_of (earlier ++ port ∷ []) ports)
        (takes-reader earlier port ports takes joined) (each.0 joined.place takes, rest)

-- readers after an input take no pipe that it takes
later-differ : (earlier mid ports : List PortValue) (port : PortValue) (o : ℕ) → port.gives ≡ false →
    source_place earlier port.name ≡ Some o → ports_fault (earlier ++ port ∷ mid) ports ≡ None →
    Every (λ r. o ≡ r.place → ⊥) (readers_of (earlier ++ port ∷ mid) ports)
later-differ earlier mid [] port o takes one fine = tt
later-differ earlier mid (other ∷ ports) port o takes one fine =
    let faults : (port_fault (earlier ++ port ∷ mid) other ≡ None)
    × (ports_fault (earlier ++ port ∷ mid ++ other ∷ []) ports ≡ None) = neither _ _ fine in
    let same : earlier ++ port ∷ mid ++ other ∷ [] ≡ earlier ++ port ∷ (mid ++ other ∷ []) =
    append_assoc earlier (port ∷ mid) (other ∷ []) in
    let rest : Every (λ r. o ≡ r.place → ⊥) (readers_of (earlier ++ port ∷ mid ++ other ∷ []) ports) =
    rw same (later-differ earlier (mid ++ other ∷ []) ports port o takes one
    (sym (ap (λ xs. ports_fault xs ports) same) ∙ faults.1)) in
    by_side (cases_Bool other.gives) faults.0 rest
  where
    differ : Reader → Type 0
    differ r = o ≡ r.place → ⊥

    by_side : (other.gives ≡ true) ⊎ (other.gives ≡ false) → port_fault (earlier ++ port ∷ mid) other ≡ None →
        Every (λ r. o ≡ r.place → ⊥) (readers_of (earlier ++ port ∷ mid ++ other ∷ []) ports) →
        Every (λ r. o ≡ r.place → ⊥) (readers_of (earlier ++ port ∷ mid) (other ∷ ports))
    by_side (inl gives) fine rest =
        Every-same (λ r. o ≡ r.place → ⊥) _ _ (gives-reader (earlier ++ port ∷ mid) other ports gives) rest
    by_side (inr takes_too) fine rest =
        let joined : IsJoined (earlier ++ port ∷ mid) other =
        input-joined (earlier ++ port ∷ mid) other takes_too fine in
        Every-same (λ r. o ≡ r.place → ⊥) _
        (reader_at other joined.place ∷ readers_of (earlier ++ port ∷ mid ++ other ∷ []) ports)
        (takes-reader (earlier ++ port ∷ mid) other ports takes_too joined) (
          (λ same. source-alone earlier mid port other o takes joined.free one
              (joined.source ∙ ap Some (sym same))),
          rest,
        )

-- two readers take the pipes of two outputs
abbrev pub OtherPlace : Reader → Reader → Type 0
OtherPlace a b = a.place ≡ b.place → ⊥

pub readers-other_place : (earlier ports : List PortValue) → ports_fault earlier ports ≡ None →
    EachTwo OtherPlace (readers_of earlier ports)
readers-other_place earlier [] fine = tt
readers-other_place earlier (port ∷ ports) fine =
    let faults : (port_fault earlier port ≡ None) × (ports_fault (earlier ++ port ∷ []) ports ≡ None) =
    neither _ _ fine in
    by_side (cases_Bool port.gives) faults (readers-other_place (earlier ++ port ∷ []) ports faults.1)
  where
    by_side : (port.gives ≡ true) ⊎ (port.gives ≡ false) →
        (port_fault earlier port ≡ None) × (ports_fault (earlier ++ port ∷ []) ports ≡ None) →
        EachTwo OtherPlace (readers_of (earlier ++ port ∷ []) ports) →
        EachTwo OtherPlace (readers_of earlier (port ∷ ports))
    by_side (inl gives) faults rest = EachTwo-same OtherPlace _ _ (gives-reader earlier port ports gives) rest
    by_side (inr takes) faults rest =
        let joined : IsJoined earlier port = input-joined earlier port takes faults.0 in
        EachTwo-same OtherPlace _ (reader_at port joined.place ∷ readers_of (earlier ++ port ∷ []) ports)
        (takes-reader earlier port ports takes joined)
        (later-differ earlier [] ports port joined.place takes joined.source faults.1, rest)

-- two readers are two inputs
abbrev pub OtherInput : Reader → Reader → Type 0
OtherInput a b = a.task ≡ b.task → a.port ≡ b.port → ⊥

pub readers-other_input : (earlier ports : List PortValue) → ports_fault earlier ports ≡ None →
    EachTwo ComesBefore ports → EachTwo OtherInput (readers_of earlier ports)
readers-other_input earlier [] fine order = tt
readers-other_input earlier (port ∷ ports) fine order =
    let faults : (port_fault earlier port ≡ None) × (ports_fault (earlier ++ port ∷ []) ports ≡ None) =
    neither _ _ fine in
    by_side (cases_Bool port.gives) faults (readers-other_input (earlier ++ port ∷ []) ports faults.1 order.1)
  where
    other_input : (p : PortValue) → port.gives ≡ false → ComesBefore port p → (o n : ℕ) → p.gives ≡ false →
        OtherInput (reader_at port n) (reader_at p o)
    other_input p takes before o n takes_too same_task same_port =
        let sides : side_of port.task port.gives ≡ side_of p.task p.gives = rw (takes, takes_too, same_task) refl in
        let less : port.port < p.port = before.number sides in
        omega arith

    by_side : (port.gives ≡ true) ⊎ (port.gives ≡ false) →
        (port_fault earlier port ≡ None) × (ports_fault (earlier ++ port ∷ []) ports ≡ None) →
        EachTwo OtherInput (readers_of (earlier ++ port ∷ []) ports) →
        EachTwo OtherInput (readers_of earlier (port ∷ ports))
    by_side (inl gives) faults rest = EachTwo-same OtherInput _ _ (gives-reader earlier port ports gives) rest
    by_side (inr takes) faults rest =
        let joined : IsJoined earlier port = input-joined earlier port takes faults.0 in
        EachTwo-same OtherInput _ (reader_at port joined.place ∷ readers_of (earlier ++ port ∷ []) ports)
        (takes-reader earlier port ports takes joined) (
          readers-Every (OtherInput (reader_at port joined.place)) (earlier ++ port ∷ []) ports faults.1
              (Every-then (ComesBefore port)
              (λ p. (o : ℕ) → p.gives ≡ false → OtherInput (reader_at port joined.place) (reader_at p o))
              (λ p before o takes_too. other_input p takes before o joined.place takes_too) ports order.0),
          rest,
        )

-- the output whose pipe a reader takes stands at its place, in an earlier task
pub record HasOutput (ports : List PortValue) (r : Reader) : Type 0 where
  pub port : PortValue
  pub at : slice_get ports r.place ≡ Some port
  pub gives : port.gives ≡ true
  pub before : port.task < r.task
  pub input : PortValue
  pub among : Among ports input
  pub takes : input.gives ≡ false
  pub input_task : input.task ≡ r.task
  pub input_port : input.port ≡ r.port
  pub flow : port.flow ≡ input.flow

pub slice_get-Every : (P : PortValue → Type 0) (ports : List PortValue) (o : ℕ) (port : PortValue) →
    slice_get ports o ≡ Some port → Every P ports → P port
slice_get-Every P [] o port is has = absurd (let never : None ≡ Some port = is in cc)
slice_get-Every P (first ∷ ports) zero port is has =
    let same : first ≡ port = (let e : Some first ≡ Some port = is in grind arith) in rw (sym same) has.0
slice_get-Every P (first ∷ ports) (suc o) port is has = slice_get-Every P ports o port is has.1

-- what each earlier port has with this one
before-this : (earlier ports : List PortValue) (port : PortValue) → EachTwo ComesBefore (earlier ++ port ∷ ports) →
    Every (λ p. ComesBefore p port) earlier
before-this [] ports port order = tt
before-this (first ∷ earlier) ports port order = (
  Every-among (ComesBefore first) (earlier ++ port ∷ ports) port order.0
      (Among-right earlier (port ∷ ports) port (inl refl)),
  before-this earlier ports port order.1,
)

has-output : (earlier ports : List PortValue) (port : PortValue) → port.gives ≡ false →
    (joined : IsJoined earlier port) → EachTwo ComesBefore (earlier ++ port ∷ ports) →
    HasOutput (earlier ++ port ∷ ports) (reader_at port joined.place)
has-output earlier ports port takes joined order =
    let source : IsSource earlier port.name joined.place =
    source-is earlier port.name joined.place port joined.source in
    let before : ComesBefore source.port port =
    slice_get-Every (λ p. ComesBefore p port) earlier joined.place source.port source.at
    (before-this earlier ports port order) in
    let gives : side_of source.port.task source.port.gives ≡ side_of source.port.task true =
    ap (side_of source.port.task) source.gives in
    let takes_it : side_of port.task port.gives ≡ side_of port.task false = ap (side_of port.task) takes in
    record {
      port = source.port;
      at = slice_get-append earlier (port ∷ ports) joined.place source.port source.at;
      gives = source.gives;
      before = omega (arith, before.side, gives, takes_it);
      input = port;
      among = Among-right earlier (port ∷ ports) port (inl refl);
      takes = takes;
      input_task = refl;
      input_port = refl;
      flow = same_flow source.port.flow port.flow (sym (ap (has_flow port.flow) source.at) ∙ joined.same);
    }

pub readers-have_outputs : (earlier ports : List PortValue) → ports_fault earlier ports ≡ None →
    EachTwo ComesBefore (earlier ++ ports) → Every (HasOutput (earlier ++ ports)) (readers_of earlier ports)
readers-have_outputs earlier [] fine order = tt
readers-have_outputs earlier (port ∷ ports) fine order =
    let faults : (port_fault earlier port ≡ None) × (ports_fault (earlier ++ port ∷ []) ports ≡ None) =
    neither _ _ fine in
    let same : earlier ++ port ∷ [] ++ ports ≡ earlier ++ port ∷ ports = append_assoc earlier (port ∷ []) ports in
    by_side (cases_Bool port.gives) faults.0
    (rw (sym same) (readers-have_outputs (earlier ++ port ∷ []) ports faults.1 (rw same order)))
  where
    by_side : (port.gives ≡ true) ⊎ (port.gives ≡ false) → port_fault earlier port ≡ None →
        Every (HasOutput (earlier ++ port ∷ ports)) (readers_of (earlier ++ port ∷ []) ports) →
        Every (HasOutput (earlier ++ port ∷ ports)) (readers_of earlier (port ∷ ports))
    by_side (inl gives) fine rest =
        Every-same (HasOutput (earlier ++ port ∷ ports)) _ _ (gives-reader earlier port ports gives) rest
    by_side (inr takes) fine rest =
        let joined : IsJoined earlier port = input-joined earlier port takes fine in
        Every-same (HasOutput (earlier ++ port ∷ ports)) _
        (reader_at port joined.place ∷ readers_of (earlier ++ port ∷ []) ports)
        (takes-reader earlier port ports takes joined) (has-output earlier ports port takes joined order, rest)

-- an input is a reader
pub record HasReader (readers : List Reader) (p : PortValue) : Type 0 where
  pub reader : Reader
  pub among : Among readers reader
  pub task : reader.task ≡ p.task
  pub port : reader.port ≡ p.port

HasReader-same : (xs ys : List Reader) (port : PortValue) → xs ≡ ys → HasReader ys port → HasReader xs port
HasReader-same xs ys port is has = rw is has

pub inputs-read : (earlier ports : List PortValue) (port : PortValue) → ports_fault earlier ports ≡ None →
    Among ports port → port.gives ≡ false → HasReader (readers_of earlier ports) port
inputs-read earlier [] port fine among takes = absurd among
inputs-read earlier (first ∷ ports) port fine among takes =
    let faults : (port_fault earlier first ≡ None) × (ports_fault (earlier ++ first ∷ []) ports ≡ None) =
    neither _ _ fine in
    by_among among faults (λ more. inputs-read (earlier ++ first ∷ []) ports port faults.1 more takes)
  where
    later : HasReader (readers_of (earlier ++ first ∷ []) ports) port → port_fault earlier first ≡ None →
        (first.gives ≡ true) ⊎ (first.gives ≡ false) → HasReader (readers_of earlier (first ∷ ports)) port
    later has fine (inl gives) = HasReader-same _ _ port (gives-reader earlier first ports gives) has
    later has fine (inr takes_too) =
        let joined : IsJoined earlier first = input-joined earlier first takes_too fine in
        HasReader-same _ (reader_at first joined.place ∷ readers_of (earlier ++ first ∷ []) ports) port
        (takes-reader earlier first ports takes_too joined)
        (record { reader = has.reader; among = inr has.among; task = has.task; port = has.port })

    by_among : (first ≡ port) ⊎ Among ports port →
        (port_fault earlier first ≡ None) × (ports_fault (earlier ++ first ∷ []) ports ≡ None) →
        (Among ports port → HasReader (readers_of (earlier ++ first ∷ []) ports) port) →
        HasReader (readers_of earlier (first ∷ ports)) port
    by_among (inl is) faults rest =
        let takes_too : first.gives ≡ false = rw is takes in
        let joined : IsJoined earlier first = input-joined earlier first takes_too faults.0 in
        HasReader-same _ (reader_at first joined.place ∷ readers_of (earlier ++ first ∷ []) ports) port
        (takes-reader earlier first ports takes_too joined)
        (record {
          reader = reader_at first joined.place;
          among = inl refl;
          task = ap (λ p. p.task) is;
          port = ap (λ p. p.port) is;
        })
    by_among (inr more) faults rest = later (rest more) faults.0 (cases_Bool first.gives)
