-- Many moves, one after another: what a network that ran for some steps stands for.
use Rattle.std.proofs.Common.{Bool, true, false, ◌≡◌, ℕ, ◌<◌, ◌≤◌, ◌+◌, inl, inr, List, [], ◌∷◌, ◌++◌, length, refl, sym, ap, subst, ◌∙◌, arith, length-append}
use Rattle.std.specs.Prelude.{◌≢◌, ◌||◌, IsSomeAnd, Option, Some}
use Rattle.std.proofs.lemmas.Bool.{cases_lt}
use Rattle.osm_entity.specs.Machines.{Meanings}
use Rattle.osm_entity.specs.declared.stream.Want.{Want}
use Rattle.osm_entity.specs.declared.stream.Message.{Message}
use Rattle.osm_graph.specs.Pipes.{pipe_of, pipe_into, pipe_out}
use Rattle.osm_graph.specs.declared.pipe.Pipe.{Pipe}
use Rattle.osm_net.specs.Histories.{History, MayFollowAll, Move, Took, Gave, Pulled, with_move, with_moves}
use Rattle.osm_net.specs.Nets.{AreBehind, CanMove, HasRoom}
use Rattle.osm_net.specs.Networks.{HasMoved, HasStopped, IsSameNet, IsStuck, MayGoOn, NetValue, NetWentOn, RanOn, SaysStep, SaysStepOf, StandsForHistory, StandsForSome, StoppedCounted, WentOnCounted, left_in_net, machine_of, queued_in, reads_in}
use Rattle.osm_net.specs.declared.stepped.Stepped.{Stepped}
use Rattle.osm_net.specs.declared.stepped.Stepped.TheVariants.{Moved, Full, Empty, Ended}

-- ---- moves

with_more : {M : Type 0} (h : History M) (a b : List Move) → with_moves h (a ++ b) ≡ with_moves (with_moves h a) b
with_more h [] b = refl
with_more h (move ∷ a) b = with_more (with_move h move) a b

may_more : {M : Type 0} (tasks pipes : ℕ) (reads : ℕ → Bool) (h : History M) (a b : List Move) →
    MayFollowAll tasks pipes reads h a → MayFollowAll tasks pipes reads (with_moves h a) b →
    MayFollowAll tasks pipes reads h (a ++ b)
may_more tasks pipes reads h [] b first second = second
may_more tasks pipes reads h (move ∷ a) b first second =
    (first.0, may_more tasks pipes reads (with_move h move) a b first.1 second)

-- moves may follow where the same tasks read
may_alike : {M : Type 0} (tasks pipes : ℕ) (f g : ℕ → Bool) (h : History M) (moves : List Move) →
    ((t : ℕ) → t < tasks → g t ≡ f t) → MayFollowAll tasks pipes f h moves → MayFollowAll tasks pipes g h moves
may_alike tasks pipes f g h [] same may = tt
may_alike tasks pipes f g h (Took pipe ∷ moves) same may =
    (may.0, may_alike tasks pipes f g (with_move h (Took pipe)) moves same may.1)
may_alike tasks pipes f g h (Gave pipe message ∷ moves) same may =
    (may.0, may_alike tasks pipes f g (with_move h (Gave pipe message)) moves same may.1)
may_alike tasks pipes f g h (Pulled task limit piece came ∷ moves) same may = (
  (may.0.0, (same task may.0.0 ∙ may.0.1.0, may.0.1.1)),
  may_alike tasks pipes f g (with_move h (Pulled task limit piece came)) moves same may.1,
)

-- ---- networks

module _ {M N : Type 0} (of : Meanings M) (names : M → N) (named_read : N → Bool) where
  -- whether a machine reads, by its name
  abbrev pub reads : M → Bool
  reads m = named_read (names m)

  pub same_self : (a : NetValue M) → IsSameNet of names a a
  same_self a = record {
    pipes = refl;
    tasks = record { count = refl; same = λ t d known. refl };
    named = λ t d known. refl;
  }

  pub same_more : (a b c : NetValue M) → IsSameNet of names a b → IsSameNet of names b c → IsSameNet of names a c
  same_more a b c first second = record {
    pipes = second.pipes ∙ first.pipes;
    tasks = record {
      count = second.tasks.count ∙ first.tasks.count;
      same = λ t d known. second.tasks.same t d (subst (λ n. t < n) (sym first.tasks.count) known)
          ∙ first.tasks.same t d known;
    };
    named = λ t d known. second.named t d (subst (λ n. t < n) (sym first.tasks.count) known) ∙ first.named t d known;
  }

  -- what may follow a later network may follow an earlier one
  may_before : (a b : NetValue M) (h : History M) (moves : List Move) → IsSameNet of names a b →
      MayGoOn reads b h moves → MayGoOn reads a h moves
  may_before a b h moves same may d =
      may_alike (length a.machines) (length a.pipes) (reads_in reads b.machines d) (reads_in reads a.machines d) h moves
      (λ t known. ap named_read (sym (same.named t d known)))
      (subst (λ n. MayFollowAll n (length a.pipes) (reads_in reads b.machines d) h moves) same.tasks.count
      (subst (λ n. MayFollowAll (length b.machines) n (reads_in reads b.machines d) h moves) (ap length same.pipes)
      (may d)))

  behind_before : (a b c : NetValue M) (h : History M) (d : M) → IsSameNet of names a b →
      AreBehind of (length b.machines) b.pipes (machine_of c.machines d) h →
      AreBehind of (length a.machines) a.pipes (machine_of c.machines d) h
  behind_before a b c h d same are =
      subst (λ n. AreBehind of n a.pipes (machine_of c.machines d) h) same.tasks.count
      (subst (λ pipes. AreBehind of (length b.machines) pipes (machine_of c.machines d) h) same.pipes are)

  went_more : (a b c : NetValue M) (moves more : List Move) → IsSameNet of names a b →
      NetWentOn of reads a b moves → NetWentOn of reads b c more → NetWentOn of reads a c (moves ++ more)
  went_more a b c moves more same first second = record {
    stands = λ h stand. subst (StandsForHistory of c) (sym (with_more h moves more))
        (second.stands (with_moves h moves) (first.stands h stand));
    follow = λ h stand d. may_more (length a.machines) (length a.pipes) (reads_in reads a.machines d) h moves more
        (first.follow h stand d)
        (may_before a b (with_moves h moves) more same (second.follow (with_moves h moves) (first.stands h stand)) d);
  }

  pub counted_more : (a b c : NetValue M) (k m n : ℕ) → IsSameNet of names a b → WentOnCounted of reads a b k m →
      WentOnCounted of reads b c m n → WentOnCounted of reads a c k n
  counted_more a b c k m n same first second = record {
    moves = first.moves ++ second.moves;
    went = went_more a b c first.moves second.moves same first.went second.went;
    count = omega (arith, first.count, second.count, length-append first.moves second.moves);
  }

  pub counted_none : (a : NetValue M) (k : ℕ) → WentOnCounted of reads a a k k
  counted_none a k = record {
    moves = [];
    went = record { stands = λ h stand. stand; follow = λ h stand d. tt };
    count = omega arith;
  }

  counted_one : (task : ℕ) (a b : NetValue M) (k : ℕ) → HasMoved of reads task a b → WentOnCounted of reads a b k
      (k + 1)
  counted_one task a b k moved = record { moves = moved.move ∷ []; went = moved.went; count = refl }

  pub stopped_more : (a b c : NetValue M) (k m n : ℕ) → IsSameNet of names a b → WentOnCounted of reads a b k m →
      StoppedCounted of reads b c m n → StoppedCounted of reads a c k n
  stopped_more a b c k m n same first second = record {
    stopped = record {
      moves = first.moves ++ second.stopped.moves;
      behind = λ h stand d. subst (AreBehind of (length a.machines) a.pipes (machine_of c.machines d))
          (sym (with_more h first.moves second.stopped.moves))
          (behind_before a b c (with_moves (with_moves h first.moves) second.stopped.moves) d same
          (second.stopped.behind (with_moves h first.moves) (first.went.stands h stand) d));
      follow = λ h stand d. may_more (length a.machines) (length a.pipes) (reads_in reads a.machines d) h first.moves
          second.stopped.moves (first.went.follow h stand d)
          (may_before a b (with_moves h first.moves) second.stopped.moves same
          (second.stopped.follow (with_moves h first.moves) (first.went.stands h stand)) d);
    };
    least = omega (arith, first.count, second.least);
    most = omega (arith, first.count, second.most, length-append first.moves second.stopped.moves);
  }

  pub stopped_now : (a b : NetValue M) (k : ℕ) → HasStopped of reads a b → StoppedCounted of reads a b k k
  stopped_now a b k stopped = record { stopped = stopped; least = omega arith; most = omega arith }

  -- ---- runs that say whether a task moved

  pub ran_none : (a : NetValue M) (k : ℕ) → RanOn of reads a a k k false
  ran_none a k = record { went = counted_none a k; falls = λ is. cc; still = λ is. refl }

  -- a run leaves no more to do
  ran_down : (a b : NetValue M) (k m : ℕ) (moved : Bool) → RanOn of reads a b k m moved →
      left_in_net of b ≤ left_in_net of a
  ran_down a b k m true ran = let less : left_in_net of b < left_in_net of a = ran.falls refl in omega (arith, less)
  ran_down a b k m false ran = let same : left_in_net of b ≡ left_in_net of a = ap (left_in_net of) (ran.still refl) in
      omega (arith, same)

  pub ran_step : (task : ℕ) (a b c : NetValue M) (k m : ℕ) (moved : Bool) → IsSameNet of names a b →
      RanOn of reads a b k m moved → HasMoved of reads task b c → RanOn of reads a c k (m + 1) true
  ran_step task a b c k m moved same ran step = record {
    went = counted_more a b c k m (m + 1) same ran.went (counted_one task b c m step);
    falls = λ is. let down = ran_down a b k m moved ran in omega (arith, down, step.falls);
    still = λ is. cc;
  }

  pub ran_more : (a b c : NetValue M) (k m n : ℕ) (x y : Bool) → IsSameNet of names a b →
      RanOn of reads a b k m x → RanOn of reads b c m n y → RanOn of reads a c k n (x || y)
  ran_more a b c k m n x y same first second = record {
    went = counted_more a b c k m n same first.went second.went;
    falls = less x y first second;
    still = as_it_was x y first second;
  }
    where
      less : (x y : Bool) → RanOn of reads a b k m x → RanOn of reads b c m n y → (x || y) ≡ true →
          left_in_net of c < left_in_net of a
      less true y first second is =
          let down = ran_down b c m n y second in let fall : left_in_net of b < left_in_net of a = first.falls refl in
          omega (arith, down, fall)
      less false true first second is =
          let down = ran_down a b k m false first in
          let fall : left_in_net of c < left_in_net of b = second.falls refl in omega (arith, down, fall)
      less false false first second is = cc

      as_it_was : (x y : Bool) → RanOn of reads a b k m x → RanOn of reads b c m n y → (x || y) ≡ false → c ≡ a
      as_it_was true y first second is = cc
      as_it_was false true first second is = cc
      as_it_was false false first second is = second.still refl ∙ first.still refl

  -- a network that went on stands for some history still
  pub some_still : (a b : NetValue M) (k m : ℕ) → WentOnCounted of reads a b k m → StandsForSome of a →
      StandsForSome of b
  some_still a b k m went some d =
      (with_moves (some d).0 went.moves, went.went.stands (some d).0 (some d).1)

-- ---- a task that can't move

at_some : (o : Option ℕ) (p : ℕ) (P : ℕ → Type 0) → o ≡ Some p → IsSomeAnd o P → P p
at_some o p P is some = subst (λ k. IsSomeAnd k P) is some

stuck_says : (pipes : List Pipe) (queue : ℕ → List Message) (task : ℕ) (want : Want) (s : Stepped) → s ≢ Moved →
    SaysStep pipes queue task want s → CanMove pipes queue task want → ⊥
stuck_says pipes queue task want Moved not says = λ can. not refl
stuck_says pipes queue task want (Full p) not says = λ can. says.1.1.1 (at_some (pipe_out pipes task says.0) p
    (λ q. HasRoom (pipe_of pipes q).store (length (queue q))) says.1.1.0
    (subst (CanMove pipes queue task) says.1.0 can))
stuck_says pipes queue task want (Empty p) not says = λ can. at_some (pipe_into pipes task says.0) p
    (λ q. queue q ≢ []) says.1.1.0 (subst (CanMove pipes queue task) says.1.0 can) says.1.1.1
stuck_says pipes queue task want Ended not says = λ can. subst (CanMove pipes queue task) says can

pub stuck_is : {M : Type 0} (of : Meanings M) (n : NetValue M) (task : ℕ) (s : Stepped) → s ≢ Moved →
    SaysStepOf of n task s → IsStuck of n task
stuck_is of n task s not says d = stuck_says n.pipes (queued_in n.queues) task
    (of.wanted (machine_of n.machines d task)) s not (says d)

-- tasks that can't move, and one more
pub stuck_more : {M : Type 0} (of : Meanings M) (b c : NetValue M) (task : ℕ) (x y : Bool) → (x || y) ≡ false →
    (x ≡ false → (t : ℕ) → t < task → IsStuck of b t) → (y ≡ false → c ≡ b) → (y ≡ false → IsStuck of c task) →
    (t : ℕ) → t < task + 1 → IsStuck of c t
stuck_more of b c task true y is before still here t known = cc
stuck_more of b c task false true is before still here t known = cc
stuck_more of b c task false false is before still here t known = elim (cases_lt t task) [
  | inl less ↦ subst (λ n. IsStuck of n t) (sym (still refl)) (before refl t less)
  | inr past ↦ let at : t ≡ task = omega (arith, known, past) in subst (IsStuck of c) (sym at) (here refl)
]
