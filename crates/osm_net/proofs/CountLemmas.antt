-- How many moves a network made.
use Rattle.std.proofs.Common.{◌≡◌, ℕ, ◌<◌, ◌≤◌, ◌+◌, ◌*◌, List, [], ◌∷◌, ◌++◌, length, map, Bool, true, false, refl, ap, arith, cond}
use Rattle.std.specs.Prelude.{◌==◌, ◌≢◌, ◌||◌, nat_lt, if◌then◌else◌}
use Rattle.std.proofs.lemmas.Bool.{eq-eqb, ne_eqb, cond-true, cond-false}
use Rattle.std.proofs.lemmas.List.{length-append, length-map}
use Rattle.osm_entity.specs.Machines.{AreLawful, Given, Meanings, with_piece}
use Rattle.osm_entity.specs.Ports.{EndsLast, fixed, items_of, stream_of}
use Rattle.osm_entity.specs.Streams.{Stream, IsBefore}
use Rattle.osm_entity.specs.declared.stream.Message.{Message}
use Rattle.osm_entity.specs.declared.stream.Message.TheVariants.{Item as One, End as Last}
use Rattle.osm_graph.specs.declared.pipe.Pipe.{Pipe}
use Rattle.osm_net.specs.Histories.{History, MayFollowAll, Move, Took, Gave, Pulled, most_pulls, new_history, pulls_in, with_move, with_moves}
use Rattle.osm_net.specs.Meaning.{messages_in, sum_below}
use Rattle.osm_net.specs.Nets.{AllEnded, AreStanding, IsGraphOf, IsOrderly}
use Rattle.osm_net.specs.Runs.{IsBeforeMeant, IsMeant}
use Rattle.osm_net.proofs.RunLemmas.{ended_taken, ended_whole}
use Rattle.osm_net.proofs.SumLemmas.{sum_none, sum_one, sum_same, sum_twice, sum_up}

-- how many messages a history sent and took
abbrev pub passed : {M : Type 0} → ℕ → History M → ℕ
passed pipes h = sum_below (λ p. length (h.sent p) + h.taken p) pipes

passed_took : {M : Type 0} (pipes pipe : ℕ) (h : History M) → pipe < pipes →
    passed pipes (with_move h (Took pipe)) ≡ passed pipes h + 1
passed_took pipes pipe h known =
    let one = sum_one (λ p. length (h.sent p) + cond (p == pipe) (h.taken p + 1) (h.taken p)) (λ p. length (h.sent p)
    + h.taken p)
    pipe pipes known
    (λ k not. ap (λ n. length (h.sent k) + n) (cond-false (k == pipe) (h.taken k + 1) (h.taken k) (ne_eqb k pipe
    not))) in
    let here = cond-true (pipe == pipe) (h.taken pipe + 1) (h.taken pipe) (eq-eqb pipe pipe refl) in
    omega (arith, one, here)

passed_gave : {M : Type 0} (pipes pipe : ℕ) (m : Message) (h : History M) → pipe < pipes →
    passed pipes (with_move h (Gave pipe m)) ≡ passed pipes h + 1
passed_gave pipes pipe m h known =
    let one = sum_one (λ p. length (cond (p == pipe) (h.sent p ++ m ∷ []) (h.sent p)) + h.taken p)
    (λ p. length (h.sent p) + h.taken p) pipe pipes known
    (λ k not. ap (λ ms. length ms + h.taken k) (cond-false (k == pipe) (h.sent k ++ m ∷ []) (h.sent k) (ne_eqb k pipe
    not))) in
    let here = ap length (cond-true (pipe == pipe) (h.sent pipe ++ m ∷ []) (h.sent pipe) (eq-eqb pipe pipe refl)) in
    let long = length-append (h.sent pipe) (m ∷ []) in
    omega (arith, one, here, long)

-- each move sends one message, takes one, or is a pull
counted : {M : Type 0} (tasks pipes : ℕ) (reads : ℕ → Bool) (h : History M) (moves : List Move) →
    MayFollowAll tasks pipes reads h moves →
    length moves + passed pipes h ≡ passed pipes (with_moves h moves) + pulls_in moves
counted tasks pipes reads h [] may = omega arith
counted tasks pipes reads h (Took pipe ∷ moves) may =
    let one = passed_took pipes pipe h may.0 in
    let more = counted tasks pipes reads (with_move h (Took pipe)) moves may.1 in omega (arith, one, more)
counted tasks pipes reads h (Gave pipe m ∷ moves) may =
    let one = passed_gave pipes pipe m h may.0 in
    let more = counted tasks pipes reads (with_move h (Gave pipe m)) moves may.1 in omega (arith, one, more)
counted tasks pipes reads h (Pulled task limit piece came ∷ moves) may =
    let more = counted tasks pipes reads (with_move h (Pulled task limit piece came)) moves may.1 in omega (arith, more)

-- ---- pulls

flag : Bool → ℕ
flag true = 1
flag false = 0

-- the bytes that came to a task that reads, and one more where its pulls are over
reached : (ℕ → Bool) → {M : Type 0} → (ℕ → Given M) → ℕ → ℕ
reached reads given t = if reads t then length (given t).bytes + flag (given t).over else 0

or_true : (b c : Bool) → b ≡ true → (b || c) ≡ true
or_true true c is = refl
or_true false c is = cc

-- a pull brings a byte, or is the last
piece_counts : {M : Type 0} (limit : ℕ) (piece : List ℕ) (came : Bool) (given : Given M) → given.over ≡ false →
    length given.bytes + flag given.over + 1
    ≤ length (with_piece limit piece came given).bytes + flag (with_piece limit piece came given).over
unfolding flag
piece_counts limit [] came given goes_on =
    let none = ap flag goes_on in
    let one = ap flag (or_true (length {A = ℕ} [] == 0) (nat_lt limit (length (given.bytes ++ []))) refl) in
    let long = length-append given.bytes [] in
    omega (arith, none, one, long)
piece_counts limit (byte ∷ piece) came given goes_on =
    let none = ap flag goes_on in
    let long = length-append given.bytes (byte ∷ piece) in
    omega (arith, none, long)

pull_counts : {M : Type 0} (tasks : ℕ) (reads : ℕ → Bool) (h : History M) (task limit : ℕ) (piece : List ℕ) (came :
    Bool) →
    task < tasks → reads task ≡ true → (h.given task).over ≡ false →
    sum_below (reached reads h.given) tasks + 1
    ≤ sum_below (reached reads (with_move h (Pulled task limit piece came)).given) tasks
unfolding reached
pull_counts tasks reads h task limit piece came known does goes_on =
    let later : History _ = with_move h (Pulled task limit piece came) in
    let here : later.given task ≡ with_piece limit piece came (h.given task) =
    cond-true (task == task) (with_piece limit piece came (h.given task)) (h.given task) (eq-eqb task task refl) in
    let there : (k : ℕ) → k ≢ task → later.given k ≡ h.given k =
    λ k not. cond-false (k == task) (with_piece limit piece came (h.given k)) (h.given k) (ne_eqb k task not) in
    let one = sum_one (reached reads later.given) (reached reads h.given) task tasks known
    (λ k not. ap (λ (g : Given _). if reads k then length g.bytes + flag g.over else 0) (there k not)) in
    let before = cond-true (reads task) (length (h.given task).bytes + flag (h.given task).over) 0 does in
    let after = cond-true (reads task) (length (later.given task).bytes + flag (later.given task).over) 0 does in
    let bytes = ap (λ (g : Given _). length g.bytes + flag g.over) here in
    let more = piece_counts limit piece came (h.given task) goes_on in
    omega (arith, one, before, after, bytes, more)

pulls_reach : {M : Type 0} (tasks pipes : ℕ) (reads : ℕ → Bool) (h : History M) (moves : List Move) →
    MayFollowAll tasks pipes reads h moves →
    pulls_in moves + sum_below (reached reads h.given) tasks ≤ sum_below (reached reads (with_moves h moves).given)
    tasks
pulls_reach tasks pipes reads h [] may = omega arith
pulls_reach tasks pipes reads h (Took pipe ∷ moves) may = pulls_reach tasks pipes reads (with_move h (Took pipe))
    moves may.1
pulls_reach tasks pipes reads h (Gave pipe m ∷ moves) may = pulls_reach tasks pipes reads (with_move h (Gave pipe m))
    moves may.1
pulls_reach tasks pipes reads h (Pulled task limit piece came ∷ moves) may =
    let more = pulls_reach tasks pipes reads (with_move h (Pulled task limit piece came)) moves may.1 in
    let one = pull_counts tasks reads h task limit piece came may.0.0 may.0.1.0 may.0.1.1 in
    omega (arith, more, one)

reach_most : (r : Bool) (given : ℕ) (over : Bool) → cond r (given + flag over) 0 ≤ cond r (given + 1) 0
unfolding flag
reach_most false given over = omega arith
reach_most true given true = omega arith
reach_most true given false = omega arith

-- tasks that read pull once for each byte, and once more, at most
pub pulls_bound : {M : Type 0} (tasks pipes : ℕ) (reads : ℕ → Bool) (h : History M) (moves : List Move) →
    MayFollowAll tasks pipes reads h moves → pulls_in moves ≤ most_pulls tasks reads (with_moves h moves)
unfolding reached
pulls_bound tasks pipes reads h moves may =
    let later : History _ = with_moves h moves in
    let reach = pulls_reach tasks pipes reads h moves may in
    let up : sum_below (reached reads later.given) tasks ≤ most_pulls tasks reads later =
    sum_up (reached reads later.given) (λ t. if reads t then length (later.given t).bytes + 1 else 0) tasks
    (λ t known. reach_most (reads t) (length (later.given t).bytes) (later.given t).over) in
    omega (arith, reach, up)

-- ---- messages

-- a list whose end is last has one message more than its items at most
one_end : (ms : List Message) → EndsLast ms → length ms ≤ length (items_of ms) + 1
one_end [] last = omega arith
one_end (One item ∷ more) last = let rest = one_end more last in omega (arith, rest)
one_end (Last end ∷ more) last = let none = ap length last in omega (arith, none)

fixed_length : (s : Stream) → length (fixed true s) ≡ length s.items + 1
fixed_length s =
    let long = length-append (map One s.items) (Last s.end ∷ []) in
    let kept = length-map s.items One in omega (arith, long, kept)

pub steps_so_far : {M : Type 0} (tasks : ℕ) (pipes : List Pipe) (made : ℕ → M) (reads : ℕ → Bool) (moves : List Move)
    (streams : ℕ → Stream) → MayFollowAll tasks (length pipes) reads (new_history made) moves →
    IsOrderly pipes (with_moves (new_history made) moves) →
    IsBeforeMeant pipes streams (with_moves (new_history made) moves) →
    length moves ≤ 2 * messages_in pipes streams + pulls_in moves
steps_so_far tasks pipes made reads moves streams may order before =
    let h : History _ = with_moves (new_history made) moves in
    let all = counted tasks (length pipes) reads (new_history made) moves may in
    let none = sum_none (length pipes) in
    let terms : passed (length pipes) h
    ≤ sum_below (λ p. (length (streams p).items + 1) + (length (streams p).items + 1)) (length pipes) =
    sum_up (λ p. length (h.sent p) + h.taken p) (λ p. (length (streams p).items + 1) + (length (streams p).items + 1))
    (length pipes) (λ p known.
    let sent : IsBefore (stream_of (h.sent p)) (streams p) = before.sent p known in
    omega (
      arith,
      order.within p known,
      one_end (h.sent p) (order.ends p known),
      ap length sent.items.joined,
      length-append (items_of (h.sent p)) sent.items.rest,
    )) in
    let twice = sum_twice (λ p. length (streams p).items + 1) (length pipes) in
    omega (arith, all, none, terms, twice)

pub steps_ended : {M : Type 0} (of : Meanings M) (laws : AreLawful of) (tasks : ℕ) (pipes : List Pipe) (made machine :
    ℕ → M)
    (reads : ℕ → Bool) (moves : List Move) (streams : ℕ → Stream) → IsGraphOf of tasks machine pipes →
    MayFollowAll tasks (length pipes) reads (new_history made) moves →
    AreStanding of tasks pipes machine (with_moves (new_history made) moves) → AllEnded of tasks machine →
    IsMeant of pipes machine (with_moves (new_history made) moves) streams →
    length moves ≡ 2 * messages_in pipes streams + pulls_in moves
steps_ended of laws tasks pipes made machine reads moves streams graph may standing ended meaning =
    let h : History _ = with_moves (new_history made) moves in
    let whole = ended_whole of laws tasks pipes machine graph h standing ended streams meaning in
    let all = counted tasks (length pipes) reads (new_history made) moves may in
    let none = sum_none (length pipes) in
    let terms : passed (length pipes) h
    ≡ sum_below (λ p. (length (streams p).items + 1) + (length (streams p).items + 1)) (length pipes) =
    sum_same (λ p. length (h.sent p) + h.taken p) (λ p. (length (streams p).items + 1) + (length (streams p).items + 1))
    (length pipes) (λ p known.
    omega (
      arith,
      ap length (whole.passed.sent p known),
      fixed_length (streams p),
      ended_taken of laws tasks pipes machine graph h standing ended p known,
    )) in
    let twice = sum_twice (λ p. length (streams p).items + 1) (length pipes) in
    omega (arith, all, none, terms, twice)
