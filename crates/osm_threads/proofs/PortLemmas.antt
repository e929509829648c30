-- Lemmas on the ports of a task, one and many.
use Rattle.std.proofs.Common.{◌≡◌, ℕ, zero, suc, ◌<◌, inl, inr, List, [], ◌∷◌, ◌++◌, length, get_or, Bool, true, false, Some, None, refl, sym, ap, subst, ◌∙◌, arith, append_assoc}
use Rattle.std.specs.Prelude.{IsSome}
use Rattle.std.proofs.Math.ListN.{get_or-map, set}
use Rattle.std.proofs.Math.Path.{fun_ext}
use Rattle.std.proofs.Math.Seq.{map-set_same}
use Rattle.std.proofs.lemmas.Bool.{cases_eq, cond-false, cond-true, eq-eqb, ne_eqb}
use Rattle.std.proofs.lemmas.List.{append-nil, get_or-set_other, get_or-set_same, set-get_or}
use Rattle.osm_entity.specs.Ports.{added, has_end}
use Rattle.osm_entity.specs.declared.stream.End.TheVariants.{Broken}
use Rattle.osm_entity.specs.declared.stream.Message.{Message}
use Rattle.osm_entity.specs.declared.stream.Message.TheVariants.{Item as One, End as Last}
use Rattle.osm_pipe.specs.Pipes.{HalfValue}
use Rattle.osm_threads.specs.Ports.{HavePipes, HasMore, PortHalf, broken_off, in_row, is_shut, messages_at, passed_at, pipe_at, pipes_at, port_more}

-- messages without an end, and one more, have one exactly where that is one
pub end_by_last : (ms : List Message) (m : Message) → has_end ms ≡ false → has_end (ms ++ m ∷ []) ≡ has_end (m ∷ [])
end_by_last [] m none = refl
end_by_last (One item ∷ more) m none = end_by_last more m none
end_by_last (Last end ∷ more) m none = cc

pub drained_itself : (port : PortHalf) → HasMore port port
drained_itself port =
    record { pipe = refl; more = record { rest = []; joined = sym (append-nil (passed_at port)) } }

pub drained_more : (old port : PortHalf) (m : Message) → HasMore old port → is_shut port ≡ false →
    HasMore old (port_more port m)
drained_more old None m drained open_port = cc
drained_more old (Some h) m drained open_port = record {
  pipe = drained.pipe;
  more = record {
    rest = drained.more.rest ++ m ∷ [];
    joined = ap (λ list. list ++ m ∷ []) drained.more.joined
        ∙ append_assoc (passed_at old) drained.more.rest (m ∷ []);
  };
}

-- ---- one port of a row

-- something is at a place of the row alone
pub within_row : (row : List PortHalf) (p : ℕ) → IsSome (in_row row p) → p < length row
within_row [] p there = cc
within_row (port ∷ row) zero there = omega arith
within_row (port ∷ row) (suc p) there = let rest = within_row row p there in omega (arith, rest)

any_default : (row : List PortHalf) (p : ℕ) (d e : PortHalf) → p < length row → get_or row p d ≡ get_or row p e
any_default [] p d e known = absurd (omega arith)
any_default (port ∷ row) zero d e known = refl
any_default (port ∷ row) (suc p) d e known = any_default row p d e (omega arith)

-- an element is the port of its number
pub is_in_row : (row : List PortHalf) (p : ℕ) (port : PortHalf) → p < length row → port ≡ get_or row p port →
    port ≡ in_row row p
is_in_row row p port known is = is ∙ any_default row p port None known

open_by : (port : PortHalf) → IsSome port → has_end (passed_at port) ≡ false → is_shut port ≡ false
open_by None there none = cc
open_by (Some h) there none = none

-- a port with a half whose end has not passed is open
pub open_in_row : (row : List PortHalf) (p : ℕ) (port : PortHalf) → port ≡ get_or row p port →
    IsSome (in_row row p) → has_end (messages_at row p) ≡ false → is_shut port ≡ false
open_in_row row p port is there none = subst (λ (h : PortHalf). is_shut h ≡ false)
    (sym (is_in_row row p port (within_row row p there) is)) (open_by (in_row row p) there none)

passed_more : (port : PortHalf) (m : Message) → is_shut port ≡ false →
    passed_at (port_more port m) ≡ passed_at port ++ m ∷ []
passed_more None m open_port = cc
passed_more (Some h) m open_port = refl

-- one message more at a port
pub messages_more : (row : List PortHalf) (p : ℕ) (port : PortHalf) (m : Message) → port ≡ get_or row p port →
    p < length row → is_shut port ≡ false → messages_at (set row p (port_more port m)) ≡ added (messages_at row) p m
messages_more row p port m is known open_port = fun_ext (λ q. elim (cases_eq q p) [
  | inl here ↦ ap (messages_at (set row p (port_more port m))) here
      ∙ ap passed_at (get_or-set_same row p (port_more port m) None known)
      ∙ passed_more port m open_port
      ∙ ap (λ h. passed_at h ++ m ∷ []) (is_in_row row p port known is)
      ∙ ap (λ k. messages_at row k ++ m ∷ []) (sym here)
      ∙ sym (cond-true _ (messages_at row q ++ m ∷ []) (messages_at row q) (eq-eqb q p here))
  | inr other ↦ ap passed_at (get_or-set_other row p q (port_more port m) None other)
      ∙ sym (cond-false _ (messages_at row q ++ m ∷ []) (messages_at row q) (ne_eqb q p other))
])

pipe_more : (port : PortHalf) (m : Message) → pipe_at (port_more port m) ≡ pipe_at port
pipe_more None m = refl
pipe_more (Some h) m = refl

pub pipes_more : (row : List PortHalf) (p : ℕ) (port : PortHalf) (m : Message) → port ≡ get_or row p port →
    pipes_at (set row p (port_more port m)) ≡ pipes_at row
pipes_more row p port m is =
    map-set_same pipe_at row p (port_more port m) port (pipe_more port m ∙ ap pipe_at is)

pub row_same : (row : List PortHalf) (p : ℕ) (port : PortHalf) → port ≡ get_or row p port → set row p port ≡ row
row_same row p port is = ap (set row p) is ∙ set-get_or row p port

-- ---- rows with the same pipes

-- rows with the same pipes have the same at each place
pub pipe_there : (row other : List PortHalf) (p : ℕ) → pipes_at row ≡ pipes_at other →
    pipe_at (in_row row p) ≡ pipe_at (in_row other p)
pipe_there row other p same =
    sym (get_or-map pipe_at row p None) ∙ ap (λ pipes. get_or pipes p None) same ∙ get_or-map pipe_at other p None

pub have_pipes : (count : ℕ) (row new : List PortHalf) → pipes_at new ≡ pipes_at row → HavePipes count row →
    HavePipes count new
have_pipes count row new same have port known = subst IsSome (sym (pipe_there new row port same)) (have port known)

has_half : (port : PortHalf) → IsSome (pipe_at port) → IsSome port
has_half None there = there
has_half (Some h) there = refl

-- a port that has a pipe has a half
pub half_there : (count : ℕ) (row : List PortHalf) (port : ℕ) → HavePipes count row → port < count →
    IsSome (in_row row port)
half_there count row port have known = has_half (in_row row port) (have port known)

pub same_pipes : (xs ys : List PortHalf) → length xs ≡ length ys →
    ((p : ℕ) → pipe_at (in_row xs p) ≡ pipe_at (in_row ys p)) → pipes_at xs ≡ pipes_at ys
same_pipes [] [] long same = refl
same_pipes [] (y ∷ ys) long same = absurd (omega arith)
same_pipes (x ∷ xs) [] long same = absurd (omega arith)
same_pipes (x ∷ xs) (y ∷ ys) long same = ap (λ pipe. pipe ∷ pipes_at xs) (same 0)
    ∙ ap (λ pipes. pipe_at y ∷ pipes) (same_pipes xs ys (omega arith) (λ p. same (suc p)))

-- ---- broken ends

off_pipe_by : (h : HalfValue) (b : Bool) → has_end h.list ≡ b → pipe_at (broken_off (Some h)) ≡ Some h.pipe
off_pipe_by h true is = ap pipe_at (cond-true _ (Some h) (port_more (Some h) (Last Broken)) is)
off_pipe_by h false is = ap pipe_at (cond-false _ (Some h) (port_more (Some h) (Last Broken)) is)

pub off_pipe : (port : PortHalf) → pipe_at (broken_off port) ≡ pipe_at port
off_pipe None = refl
off_pipe (Some h) = off_pipe_by h (has_end h.list) refl

off_shut_by : (h : HalfValue) (b : Bool) → has_end h.list ≡ b → is_shut (broken_off (Some h)) ≡ true
off_shut_by h true is = ap is_shut (cond-true _ (Some h) (port_more (Some h) (Last Broken)) is) ∙ is
off_shut_by h false is = ap is_shut (cond-false _ (Some h) (port_more (Some h) (Last Broken)) is)
    ∙ end_by_last h.list (Last Broken) is

pub off_shut : (port : PortHalf) → is_shut (broken_off port) ≡ true
off_shut None = refl
off_shut (Some h) = off_shut_by h (has_end h.list) refl
