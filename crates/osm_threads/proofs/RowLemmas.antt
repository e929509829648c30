-- Lemmas on the ports of all tasks, after something was put at one.
use Rattle.std.proofs.Common.{◌≡◌, ℕ, zero, suc, ◌<◌, inl, inr, List, [], ◌∷◌, ◌++◌, length, get_or, None, refl, sym, ap, subst, ◌∙◌, arith}
use Rattle.std.proofs.Math.ListN.{length-set, set}
use Rattle.std.proofs.Math.Seq.{map-set_same}
use Rattle.std.proofs.lemmas.Bool.{cases_eq}
use Rattle.std.proofs.lemmas.List.{get_or-map, get_or-set_other, get_or-set_same, length-map, map-append, map-set}
use Rattle.osm_threads.specs.Ports.{PortHalf, in_row}
use Rattle.osm_threads.specs.Rows.{HaveNothing, IsPutAt, IsPutInRow, half_at, inlets_of, outlets_of}
use Rattle.osm_threads.specs.declared.ports.TaskPorts.{TaskPorts}

-- ---- one row

-- something was put at a place of a row
pub put_in_row : (row : List PortHalf) (port : ℕ) (put : PortHalf) → port < length row →
    IsPutInRow row (set row port put) port put
put_in_row row port put known = record {
  there = get_or-set_same row port put None known;
  others = λ q other. get_or-set_other row port q put None other;
}

-- the same where the row grew before
put_after : (row grown new : List PortHalf) (port : ℕ) (put : PortHalf) →
    ((p : ℕ) → in_row grown p ≡ in_row row p) → IsPutInRow grown new port put → IsPutInRow row new port put
put_after row grown new port put same is = record { there = is.there; others = λ q other. is.others q other ∙ same q }

pub put_grown : (row grown : List PortHalf) (port : ℕ) (put : PortHalf) → ((p : ℕ) → in_row grown p ≡ in_row row p) →
    port < length grown → IsPutInRow row (set grown port put) port put
put_grown row grown port put same known =
    put_after row grown (set grown port put) port put same (put_in_row grown port put known)

-- a port without a pipe more at the end of a row changes no port
pub grown_row : (row : List PortHalf) (p : ℕ) → in_row (row ++ None ∷ []) p ≡ in_row row p
grown_row [] zero = refl
grown_row [] (suc p) = refl
grown_row (port ∷ row) zero = refl
grown_row (port ∷ row) (suc p) = grown_row row p

-- ---- the rows of all tasks

pub outlets_at : (tasks : List TaskPorts) (t : ℕ) (ports : TaskPorts) → t < length tasks → ports ≡ get_or tasks t ports →
    get_or (outlets_of tasks) t [] ≡ ports.outlets.items
outlets_at tasks t ports known is = get_or-map (λ (p : TaskPorts). p.outlets.items) tasks t ports [] known
    ∙ ap (λ (p : TaskPorts). p.outlets.items) (sym is)

pub inlets_at : (tasks : List TaskPorts) (t : ℕ) (ports : TaskPorts) → t < length tasks → ports ≡ get_or tasks t ports →
    get_or (inlets_of tasks) t [] ≡ ports.inlets.items
inlets_at tasks t ports known is = get_or-map (λ (p : TaskPorts). p.inlets.items) tasks t ports [] known
    ∙ ap (λ (p : TaskPorts). p.inlets.items) (sym is)

-- a row with something put at a port, set at its place
put_by : (rows : List (List PortHalf)) (t port : ℕ) (row new : List PortHalf) (put : PortHalf) → t < length rows →
    get_or rows t [] ≡ row → IsPutInRow row new port put → IsPutAt rows (set rows t new) t port put
put_by rows t port row new put known here is = record {
  there = ap (λ r. in_row r port) (get_or-set_same rows t new [] known) ∙ is.there;
  others = λ u q other. elim (cases_eq u t) [
    | inl same ↦ ap (λ k. half_at (set rows t new) k q) same
        ∙ ap (λ r. in_row r q) (get_or-set_same rows t new [] known)
        ∙ is.others q (λ port_same. other same port_same)
        ∙ ap (λ r. in_row r q) (sym here)
        ∙ ap (λ k. half_at rows k q) (sym same)
    | inr apart ↦ ap (λ r. in_row r q) (get_or-set_other rows t u new [] apart)
  ];
  count = length-set rows t new;
}

pub outlets_put : (tasks : List TaskPorts) (t port : ℕ) (ports now : TaskPorts) (put : PortHalf) → t < length tasks →
    ports ≡ get_or tasks t ports → IsPutInRow ports.outlets.items now.outlets.items port put →
    IsPutAt (outlets_of tasks) (outlets_of (set tasks t now)) t port put
outlets_put tasks t port ports now put known here is =
    subst (λ rows. IsPutAt (outlets_of tasks) rows t port put)
    (sym (map-set (λ (p : TaskPorts). p.outlets.items) tasks t now))
    (put_by (outlets_of tasks) t port ports.outlets.items now.outlets.items put
    (let long = length-map tasks (λ (p : TaskPorts). p.outlets.items) in omega (arith, long, known))
    (outlets_at tasks t ports known here) is)

pub inlets_put : (tasks : List TaskPorts) (t port : ℕ) (ports now : TaskPorts) (put : PortHalf) → t < length tasks →
    ports ≡ get_or tasks t ports → IsPutInRow ports.inlets.items now.inlets.items port put →
    IsPutAt (inlets_of tasks) (inlets_of (set tasks t now)) t port put
inlets_put tasks t port ports now put known here is =
    subst (λ rows. IsPutAt (inlets_of tasks) rows t port put)
    (sym (map-set (λ (p : TaskPorts). p.inlets.items) tasks t now))
    (put_by (inlets_of tasks) t port ports.inlets.items now.inlets.items put
    (let long = length-map tasks (λ (p : TaskPorts). p.inlets.items) in omega (arith, long, known))
    (inlets_at tasks t ports known here) is)

pub inlets_same : (tasks : List TaskPorts) (t : ℕ) (ports now : TaskPorts) → ports ≡ get_or tasks t ports →
    now.inlets.items ≡ ports.inlets.items → inlets_of (set tasks t now) ≡ inlets_of tasks
inlets_same tasks t ports now is same = map-set_same (λ (p : TaskPorts). p.inlets.items) tasks t now ports
    (same ∙ ap (λ (p : TaskPorts). p.inlets.items) is)

pub outlets_same : (tasks : List TaskPorts) (t : ℕ) (ports now : TaskPorts) → ports ≡ get_or tasks t ports →
    now.outlets.items ≡ ports.outlets.items → outlets_of (set tasks t now) ≡ outlets_of tasks
outlets_same tasks t ports now is same = map-set_same (λ (p : TaskPorts). p.outlets.items) tasks t now ports
    (same ∙ ap (λ (p : TaskPorts). p.outlets.items) is)

nothing_by : (rows : List (List PortHalf)) (row : List PortHalf) → row ≡ [] →
    ((t port : ℕ) → half_at rows t port ≡ None) → (t port : ℕ) → half_at (rows ++ row ∷ []) t port ≡ None
nothing_by [] row bare none zero port = ap (λ r. in_row r port) bare
nothing_by [] row bare none (suc t) port = refl
nothing_by (r ∷ rows) row bare none zero port = none 0 port
nothing_by (r ∷ rows) row bare none (suc t) port = nothing_by rows row bare (λ u. none (suc u)) t port

pub nothing_yet : HaveNothing []
nothing_yet = record { inlets = λ t port. refl; outlets = λ t port. refl }

-- one more task without a pipe
pub nothing_more : (tasks : List TaskPorts) (ports : TaskPorts) → ports.inlets.items ≡ [] → ports.outlets.items ≡ [] →
    HaveNothing tasks → HaveNothing (tasks ++ ports ∷ [])
nothing_more tasks ports no_inlet no_outlet none = record {
  inlets = λ t port. ap (λ rows. half_at rows t port) (map-append (λ (p : TaskPorts). p.inlets.items) tasks (ports ∷ []))
      ∙ nothing_by (inlets_of tasks) ports.inlets.items no_inlet none.inlets t port;
  outlets = λ t port.
      ap (λ rows. half_at rows t port) (map-append (λ (p : TaskPorts). p.outlets.items) tasks (ports ∷ []))
      ∙ nothing_by (outlets_of tasks) ports.outlets.items no_outlet none.outlets t port;
}
