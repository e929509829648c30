use Rattle.std.proofs.Common.{◌≡◌, ◌+◌, ◌<◌, ℕ, zero, suc, Bool, true, false, List, length, get_or, set, replicate, refl, ap, sym, arith, ◌∙◌, inl, inr}
use Rattle.std.specs.Prelude.{◌&&◌, not, nat_lt}
use Rattle.std.proofs.lemmas.Bool.{cases_eq}
use Rattle.std.proofs.lemmas.Bool.Decides.{nat_tests}
use Rattle.std.proofs.lemmas.List.{get_or-set_same, get_or-set_other, length-set}
use Rattle.osm_graph.specs.Pipes.{pipe_of}
use Rattle.osm_circle.specs.Circles.{is_spool}
use Rattle.osm_graph.specs.declared.pipe.Pipe.{Pipe}
use Rattle.osm_circle.proofs.live.Live.of.Goals as goal

-- no mark stands in a list of empty places
none_marked : (n k : ℕ) → get_or (replicate n false) k false ≡ false
none_marked zero k = refl
none_marked (suc n) zero = refl
none_marked (suc n) (suc k) = none_marked n k

-- what is marked up to a place, and at it
marked_more : (marks : List Bool) (f : ℕ → Bool) (p : ℕ) → p < length marks →
    ((k : ℕ) → get_or marks k false ≡ (nat_lt k p && f k)) →
    (k : ℕ) → get_or (set marks p (f p)) k false ≡ (nat_lt k (p + 1) && f k)
marked_more marks f p within before k = elim (cases_eq k p) [
  | inl same ↦ rw (same, get_or-set_same marks p (f p) false within) (grind (arith, nat_tests))
  | inr other ↦ get_or-set_other marks p k (f p) false other ∙ before k ∙
      ap (λ b. b && f k) (step k p other)
]
  where
    step : (k p : ℕ) → (k ≡ p → ⊥) → nat_lt k p ≡ nat_lt k (p + 1)
    step k p other = grind (arith, nat_tests)

-- no place is before the first
none_below : (k : ℕ) → nat_lt k 0 ≡ false
none_below k = grind (arith, nat_tests)

-- a test and one that always passes
and_true : (b : Bool) → (b && true) ≡ b
and_true true = refl
and_true false = refl

pub loop-pipe-init : goal.loop-pipe-init
loop-pipe-init c = (
  refl,
  refl,
  λ k. none_marked 128 k ∙
      sym (ap (λ b. b && not (is_spool (pipe_of c.args.graph.now.pipes k).store)) (none_below k)),
  λ k. none_marked 128 k ∙ sym (none_below k),
)

pub loop-pipe-preserved : goal.loop-pipe-preserved
loop-pipe-preserved c =
    let p = c.loop-pipe.pipe in
    let holds = c.loop-pipe.invariant in
    let within : p < 128 = omega (arith, c.loop-pipe-test.true, c.pipes-pipe-end.ensures, c.requires) in
    let spool = c.is_spool.ensures ∙ ap (λ (pipe : Pipe). is_spool pipe.store) c.pipe.ensures in (
      length-set c.loop-pipe.along p (not c.is_spool.result) ∙ holds.0,
      length-set c.loop-pipe.against p true ∙ holds.1,
      λ k. rw spool (marked_more c.loop-pipe.along (λ n. not (is_spool (pipe_of c.args.graph.now.pipes n).store)) p
          (omega (arith, within, holds.0)) holds.2 k),
      λ k. marked_more c.loop-pipe.against (λ n. true) p (omega (arith, within, holds.1))
          (λ n. holds.3 n ∙ sym (and_true (nat_lt n p))) k ∙ and_true (nat_lt k (p + 1)),
    )
