-- What is back of each task, one and all.
use Rattle.std.proofs.Common.{◌≡◌, ℕ, zero, suc, ◌<◌, List, [], ◌∷◌, ◌++◌, length, get_or, Bool, true, false, ◌&&◌, refl, sym, ap, subst, ◌∙◌, arith}
use Rattle.std.specs.List.{AllZip}
use Rattle.std.proofs.lemmas.Bool.{and_parts}
use Rattle.std.proofs.lemmas.List.{map-append}
use Rattle.osm_entity.specs.Machines.{Given, IsBehind, IsSameTask, Meanings, StandsFor, nothing_given}
use Rattle.osm_entity.specs.declared.stream.Want.TheVariants.{Ended}
use Rattle.osm_net.specs.Runs.{KeepNames}
use Rattle.osm_threads.specs.Ports.{PortHalf, in_row, is_shut, messages_at, pipe_at}
use Rattle.osm_threads.specs.Rows.{half_at, inlets_of, outlets_of}
use Rattle.osm_threads.specs.Running.{are_whole, machines_back, machines_started, ports_back, ports_started}
use Rattle.osm_threads.specs.Starts.{IsBackOf}
use Rattle.osm_threads.specs.declared.starts.Back.{Back}
use Rattle.osm_threads.specs.declared.starts.Start.{Start}
use Rattle.osm_threads.proofs.PortLemmas.{pipe_there}

-- ---- one more is back

pub machines_back_more : {M : Type 0} (backs : List (Back M)) (back : Back M) →
    machines_back (backs ++ back ∷ []) ≡ machines_back backs ++ back.machine ∷ []
machines_back_more backs back = map-append (λ (b : Back _). b.machine) backs (back ∷ [])

pub ports_back_more : {M : Type 0} (backs : List (Back M)) (back : Back M) →
    ports_back (backs ++ back ∷ []) ≡ ports_back backs ++ back.ports ∷ []
ports_back_more backs back = map-append (λ (b : Back _). b.ports) backs (back ∷ [])

and_true : (b : Bool) → b && true ≡ b
and_true true = refl
and_true false = refl

and_onward : (a b c : Bool) → a && (b && c) ≡ (a && b) && c
and_onward true b c = refl
and_onward false b c = refl

pub whole_more : {M : Type 0} (backs : List (Back M)) (back : Back M) →
    are_whole (backs ++ back ∷ []) ≡ are_whole backs && back.whole
whole_more [] back = and_true back.whole
whole_more (b ∷ backs) back = ap (λ rest. b.whole && rest) (whole_more backs back)
    ∙ and_onward b.whole (are_whole backs) back.whole

-- ---- what is back of each task

module _ {M N : Type 0} (of : Meanings M) (names : M → N) (all : Bool) where
  -- the pipes are where they were
  pub inlets_back : (starts : List (Start M)) (backs : List (Back M)) (task port : ℕ) →
      AllZip (IsBackOf of names all) starts backs →
      pipe_at (half_at (inlets_of (ports_back backs)) task port)
      ≡ pipe_at (half_at (inlets_of (ports_started starts)) task port)
  inlets_back [] [] task port pairs = refl
  inlets_back [] (b ∷ backs) task port pairs = absurd pairs
  inlets_back (s ∷ starts) [] task port pairs = absurd pairs
  inlets_back (s ∷ starts) (b ∷ backs) zero port pairs =
      pipe_there b.ports.inlets.items s.job.ports.inlets.items port pairs.0.pipes.inlets
  inlets_back (s ∷ starts) (b ∷ backs) (suc task) port pairs = inlets_back starts backs task port pairs.1

  pub outlets_back : (starts : List (Start M)) (backs : List (Back M)) (task port : ℕ) →
      AllZip (IsBackOf of names all) starts backs →
      pipe_at (half_at (outlets_of (ports_back backs)) task port)
      ≡ pipe_at (half_at (outlets_of (ports_started starts)) task port)
  outlets_back [] [] task port pairs = refl
  outlets_back [] (b ∷ backs) task port pairs = absurd pairs
  outlets_back (s ∷ starts) [] task port pairs = absurd pairs
  outlets_back (s ∷ starts) (b ∷ backs) zero port pairs =
      pipe_there b.ports.outlets.items s.job.ports.outlets.items port pairs.0.pipes.outlets
  outlets_back (s ∷ starts) (b ∷ backs) (suc task) port pairs = outlets_back starts backs task port pairs.1

  pub same_back : (starts : List (Start M)) (backs : List (Back M)) (t : ℕ) (d : M) →
      AllZip (IsBackOf of names all) starts backs →
      IsSameTask of (get_or (machines_started starts) t d) (get_or (machines_back backs) t d)
  same_back [] [] t d pairs = refl
  same_back [] (b ∷ backs) t d pairs = absurd pairs
  same_back (s ∷ starts) [] t d pairs = absurd pairs
  same_back (s ∷ starts) (b ∷ backs) zero d pairs = pairs.0.same
  same_back (s ∷ starts) (b ∷ backs) (suc t) d pairs = same_back starts backs t d pairs.1

  pub named_back : (starts : List (Start M)) (backs : List (Back M)) (t : ℕ) (d : M) →
      AllZip (IsBackOf of names all) starts backs →
      names (get_or (machines_back backs) t d) ≡ names (get_or (machines_started starts) t d)
  named_back [] [] t d pairs = refl
  named_back [] (b ∷ backs) t d pairs = absurd pairs
  named_back (s ∷ starts) [] t d pairs = absurd pairs
  named_back (s ∷ starts) (b ∷ backs) zero d pairs = pairs.0.named
  named_back (s ∷ starts) (b ∷ backs) (suc t) d pairs = named_back starts backs t d pairs.1

  pub count_back : (starts : List (Start M)) (backs : List (Back M)) → AllZip (IsBackOf of names all) starts backs →
      length (machines_back backs) ≡ length (machines_started starts)
  count_back [] [] pairs = refl
  count_back [] (b ∷ backs) pairs = absurd pairs
  count_back (s ∷ starts) [] pairs = absurd pairs
  count_back (s ∷ starts) (b ∷ backs) pairs = ap suc (count_back starts backs pairs.1)

-- machines that stayed are the machines that were started
pub stayed_machines : {M N : Type 0} (of : Meanings M) (names : M → N) (starts : List (Start M)) (backs : List (Back M)) →
    AllZip (IsBackOf of names false) starts backs → machines_back backs ≡ machines_started starts
stayed_machines of names [] [] pairs = refl
stayed_machines of names [] (b ∷ backs) pairs = absurd pairs
stayed_machines of names (s ∷ starts) [] pairs = absurd pairs
stayed_machines of names (s ∷ starts) (b ∷ backs) pairs = ap (λ m. m ∷ machines_back backs) (pairs.0.stayed refl)
    ∙ ap (λ ms. s.job.machine ∷ ms) (stayed_machines of names starts backs pairs.1)

-- what is known of a task whose machine has worked, by its number
pub record IsAt {M : Type 0} (of : Meanings M) (made m : M) (ins outs : List PortHalf) (whole : Bool) (given : Given M)
    : Type 0 where
  pub made_is : given.made ≡ made
  pub behind : IsBehind of m (messages_at ins) (messages_at outs) given
  pub ended : whole ≡ true → of.wanted m ≡ Ended
  pub stands : whole ≡ true → StandsFor of m (messages_at ins) (messages_at outs) given
  pub closed : (port : ℕ) → port < (of.task m).outputs → is_shut (in_row outs port) ≡ true

module _ {M N : Type 0} (of : Meanings M) (names : M → N) where
  -- what came of the source of each task
  pub given_back : (d : M) (starts : List (Start M)) (backs : List (Back M)) →
      AllZip (IsBackOf of names true) starts backs → ℕ → Given M
  given_back d [] [] pairs t = nothing_given d
  given_back d [] (b ∷ backs) pairs t = absurd pairs
  given_back d (s ∷ starts) [] pairs t = absurd pairs
  given_back d (s ∷ starts) (b ∷ backs) pairs zero = (pairs.0.worked refl).given
  given_back d (s ∷ starts) (b ∷ backs) pairs (suc t) = given_back d starts backs pairs.1 t

  pub is_at : (d : M) (starts : List (Start M)) (backs : List (Back M)) →
      (pairs : AllZip (IsBackOf of names true) starts backs) → (t : ℕ) → t < length (machines_started starts) →
      IsAt of (get_or (machines_started starts) t d) (get_or (machines_back backs) t d)
      (get_or (inlets_of (ports_back backs)) t []) (get_or (outlets_of (ports_back backs)) t []) (are_whole backs)
      (given_back d starts backs pairs t)
  unfolding given_back
  is_at d [] [] pairs t known = absurd (omega (arith, known))
  is_at d [] (b ∷ backs) pairs t known = absurd pairs
  is_at d (s ∷ starts) [] pairs t known = absurd pairs
  is_at d (s ∷ starts) (b ∷ backs) pairs zero known =
      let worked = pairs.0.worked refl in
      record {
        made_is = worked.made_is;
        behind = worked.behind;
        ended = λ whole. worked.ended (and_parts b.whole (are_whole backs) whole).0;
        stands = λ whole. worked.stands (and_parts b.whole (are_whole backs) whole).0;
        closed = worked.closed;
      }
  is_at d (s ∷ starts) (b ∷ backs) pairs (suc t) known =
      let rest = is_at d starts backs pairs.1 t (omega (arith, known)) in
      record {
        made_is = rest.made_is;
        behind = rest.behind;
        ended = λ whole. rest.ended (and_parts b.whole (are_whole backs) whole).1;
        stands = λ whole. rest.stands (and_parts b.whole (are_whole backs) whole).1;
        closed = rest.closed;
      }

-- names are kept by all that are back
pub names_back : {M N : Type 0} (of : Meanings M) (names : M → N) (all : Bool) (starts : List (Start M))
    (backs : List (Back M)) (machines : List M) → AllZip (IsBackOf of names all) starts backs →
    machines ≡ machines_back backs → KeepNames names (machines_started starts) machines
names_back of names all starts backs machines pairs are =
    subst (KeepNames names (machines_started starts)) (sym are)
    (λ t d known. named_back of names all starts backs t d pairs)
