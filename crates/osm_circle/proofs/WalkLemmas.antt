-- Walks over pipes: what their senses join, where they part, and that they can't lead back against all pipes.
use Rattle.std.proofs.Common.{◌≡◌, ◌≢◌, ◌+◌, ◌<◌, ◌≤◌, ◌⊎◌, ℕ, zero, suc, Bool, true, false, List, [], ◌∷◌, ◌++◌, length, get_or, refl, ap, sym, inl, inr, arith, subst}
use Rattle.std.specs.Prelude.{All, Any}
use Rattle.osm_graph.specs.Pipes.{pipe_of}
use Rattle.osm_circle.specs.Circles.{IsWalk, sense_end, sense_start}
use Rattle.osm_circle.specs.Search.{IsForward}
use Rattle.osm_circle.proofs.Trails.{tasks_of}
use Rattle.osm_circle.specs.declared.circle.Sense.{Sense}
use Rattle.osm_graph.specs.declared.pipe.Pipe.{Pipe}

-- two senses over one pipe start at the same task, or one starts where the other ends
pub same_pipe : (pipes : List Pipe) (s t : Sense) → s.pipe ≡ t.pipe →
    (sense_start pipes t ≡ sense_start pipes s) ⊎ (sense_start pipes t ≡ sense_end pipes s)
same_pipe pipes s t same = one s.along t.along s.pipe t.pipe same
  where
    one : (a b : Bool) (p q : ℕ) → p ≡ q →
        (sense_start pipes (record { pipe = q; along = b }) ≡ sense_start pipes (record { pipe = p; along = a })) ⊎
        (sense_start pipes (record { pipe = q; along = b }) ≡ sense_end pipes (record { pipe = p; along = a }))
    one true true p q e = inl (ap (λ n. (pipe_of pipes n).from) (sym e))
    one true false p q e = inr (ap (λ n. (pipe_of pipes n).to) (sym e))
    one false true p q e = inr (ap (λ n. (pipe_of pipes n).from) (sym e))
    one false false p q e = inl (ap (λ n. (pipe_of pipes n).to) (sym e))

-- a sense doesn't end where it starts
pub ends_elsewhere : (pipes : List Pipe) (s : Sense) → IsForward pipes → s.pipe < length pipes →
    sense_start pipes s ≢ sense_end pipes s
ends_elsewhere pipes s forward known = one s.along
  where
    one : (a : Bool) → sense_start pipes (record { pipe = s.pipe; along = a }) ≢
        sense_end pipes (record { pipe = s.pipe; along = a })
    one true e = absurd (omega (arith, e, forward s.pipe known))
    one false e = absurd (omega (arith, e, forward s.pipe known))

-- one walk after another
pub walk_join : (pipes : List Pipe) (a b c : ℕ) (xs ys : List Sense) → IsWalk pipes a xs b → IsWalk pipes b ys c →
    IsWalk pipes a (xs ++ ys) c
walk_join pipes a b c [] ys one other = subst (λ n. IsWalk pipes n ys c) (sym one) other
walk_join pipes a b c (s ∷ rest) ys one other = (one.0, walk_join pipes (sense_end pipes s) b c rest ys one.1 other)

-- a walk parts at each of its places
pub walk_part : (pipes : List Pipe) (a c : ℕ) (xs ys : List Sense) → IsWalk pipes a (xs ++ ys) c →
    (b : ℕ) × (IsWalk pipes a xs b × IsWalk pipes b ys c)
walk_part pipes a c [] ys walk = (a, (refl, walk))
walk_part pipes a c (s ∷ rest) ys walk =
    let parts = walk_part pipes (sense_end pipes s) c rest ys walk.1 in
    (parts.0, ((walk.0, parts.1.0), parts.1.1))

-- each sense of a walk starts at the task visited at its place
pub starts_at : (pipes : List Pipe) (a b : ℕ) (walk : List Sense) (k : ℕ) (d : Sense) (e : ℕ) →
    IsWalk pipes a walk b → k < length walk → sense_start pipes (get_or walk k d) ≡ get_or (tasks_of pipes a walk) k e
starts_at pipes a b [] k d e leads below = absurd (omega (arith, below))
starts_at pipes a b (s ∷ rest) zero d e leads below = leads.0
starts_at pipes a b (s ∷ rest) (suc k) d e leads below =
    starts_at pipes (sense_end pipes s) b rest k d e leads.1 (omega (arith, below))

-- a walk ends at the task visited last
pub ends_at : (pipes : List Pipe) (a b : ℕ) (walk : List Sense) (e : ℕ) → IsWalk pipes a walk b →
    get_or (tasks_of pipes a walk) (length walk) e ≡ b
ends_at pipes a b [] e leads = leads
ends_at pipes a b (s ∷ rest) e leads = ends_at pipes (sense_end pipes s) b rest e leads.1

-- a sense over a pipe
abbrev sense_of : ℕ → Bool → Sense
sense_of p along = record { pipe = p; along = along }

-- a sense along comes in a walk, or with each sense the walk goes down
falls : (pipes : List Pipe) (a b p : ℕ) (c : Bool) (rest : List Sense) → (pipe_of pipes p).from < (pipe_of pipes p).to →
    sense_start pipes (sense_of p c) ≡ a →
    Any (λ s. s.along ≡ true) rest ⊎ (b + length rest ≤ sense_end pipes (sense_of p c)) →
    Any (λ s. s.along ≡ true) (sense_of p c ∷ rest) ⊎ (b + length (sense_of p c ∷ rest) ≤ a)
falls pipes a b p true rest forward starts more = inl (0, sense_of p true, omega arith, refl, refl)
falls pipes a b p false rest forward starts (inl any) =
    inl (suc any.0, any.1, omega (arith, any.2), any.3, any.4)
falls pipes a b p false rest forward starts (inr low) = inr (omega (arith, low, starts, forward))

-- a walk over pipes that exist takes one along, or goes down with each of its senses
pub goes_down : (pipes : List Pipe) (a b : ℕ) (walk : List Sense) → IsForward pipes →
    All (λ s. s.pipe < length pipes) walk → IsWalk pipes a walk b →
    Any (λ s. s.along ≡ true) walk ⊎ (b + length walk ≤ a)
goes_down pipes a b [] forward known leads = inr (omega (arith, leads))
goes_down pipes a b (s ∷ rest) forward known leads =
    falls pipes a b s.pipe s.along rest (forward s.pipe (known 0 s (omega arith))) leads.0
    (goes_down pipes (sense_end pipes s) b rest forward (λ k d below. known (suc k) d (omega (arith, below))) leads.1)
