use Rattle.std.proofs.Common.{◌≡◌, ◌≢◌, ◌+◌, ◌<◌, ℕ, false, List, length, take, get_or, ap, sym, arith, ◌∙◌, inl, inr}
use Rattle.std.specs.Prelude.{AllPairs, Any}
use Rattle.std.proofs.lemmas.Bool.{cases_lt, false≢true}
use Rattle.std.proofs.lemmas.List.{get_or-take, get_or_default, length-take-le}
use Rattle.osm_circle.specs.declared.circle.Sense.{Sense}
use Rattle.osm_circle.proofs.bare.are_different.Goals as goal

-- a pipe that comes before a place and at it comes twice
twice : (senses : List Sense) (at : ℕ) (e : Sense) → at < length senses →
    Any (λ s. s.pipe ≡ (get_or senses at e).pipe) (take at senses) →
    AllPairs (λ s t. s.pipe ≢ t.pipe) senses → ⊥
twice senses at e within found pairs =
    let before : found.0 < at = omega (arith, found.2, length-take-le at senses (omega arith)) in
    let read : get_or senses found.0 found.1 ≡ found.1 =
    sym (get_or-take at senses found.0 found.1 before) ∙ found.3 in
    pairs found.0 at found.1 before within
    (ap (λ (s : Sense). s.pipe) read ∙ found.4 ∙
    ap (λ (s : Sense). s.pipe) (get_or_default senses at e found.1 within))

-- senses are over different pipes up to a place and at it where the pipe there doesn't come before
once_more : (senses : List Sense) (at : ℕ) (e : Sense) → at < length senses →
    (Any (λ s. s.pipe ≡ (get_or senses at e).pipe) (take at senses) → ⊥) →
    ((i j : ℕ) (d : Sense) → i < j → j < at → (get_or senses i d).pipe ≢ (get_or senses j d).pipe) →
    (i j : ℕ) (d : Sense) → i < j → j < at + 1 → (get_or senses i d).pipe ≢ (get_or senses j d).pipe
once_more senses at e within none pairs i j d before below same = elim (cases_lt j at) [
  | inl earlier ↦ pairs i j d before earlier same
  | inr last ↦
      let here : j ≡ at = omega arith in
      none (
        i,
        get_or senses i d,
        omega (arith, length-take-le at senses (omega arith)),
        get_or-take at senses i (get_or senses i d) (omega arith) ∙
            get_or_default senses i (get_or senses i d) d (omega arith),
        same ∙ ap (λ n. (get_or senses n d).pipe) here ∙
            ap (λ (s : Sense). s.pipe) (get_or_default senses at d e within),
      )
]

pub returns-then-has_pipe : goal.returns-then-has_pipe
returns-then-has_pipe c = (
  λ no. absurd (false≢true no),
  λ pairs. absurd (twice c.args.senses.now c.loop-at.at (record { pipe = 0; along = false }) c.loop-at-test.true
      (c.has_pipe.ensures.0 c.if-has_pipe.true) pairs),
)

pub loop-at-preserved : goal.loop-at-preserved
loop-at-preserved c =
    once_more c.args.senses.now c.loop-at.at (record { pipe = 0; along = false }) c.loop-at-test.true
    (λ found. false≢true (sym c.if-has_pipe.false ∙ c.has_pipe.ensures.1 found)) c.loop-at.invariant
