use Rattle.std.proofs.Common.{◌≡◌, ◌<◌, ℕ, false, List, length, get_or, ap, sym, subst, ◌∙◌, IsTrue, nat_eq}
use Rattle.std.proofs.lemmas.Bool.{eq-eqb, eqb-true}
use Rattle.osm_circle.specs.Circles.{IsWalk, sense_start}
use Rattle.osm_circle.proofs.Trails.{tasks_of}
use Rattle.osm_circle.specs.declared.circle.Sense.{Sense}
use Rattle.osm_graph.specs.declared.pipe.Pipe.{Pipe}
use Rattle.osm_circle.proofs.WalkLemmas.{ends_at, starts_at}
use Rattle.osm_circle.proofs.bare.is_closed.Goals as goal

-- senses that lead from the start of their first to a task are closed exactly where the two are one
closed_at : (pipes : List Pipe) (senses : List Sense) (start end : ℕ) (d : Sense) → 0 < length senses →
    start ≡ sense_start pipes (get_or senses 0 d) → IsWalk pipes start senses end →
    (IsTrue (nat_eq end start) → (task : ℕ) × IsWalk pipes task senses task) ×
    ((task : ℕ) × IsWalk pipes task senses task → IsTrue (nat_eq end start))
closed_at pipes senses start end d long starts leads = (
  λ same. (start, subst (λ n. IsWalk pipes start senses n) (eqb-true end start same) leads),
  λ closed.
      let first : start ≡ closed.0 = starts ∙ starts_at pipes closed.0 closed.0 senses 0 d 0 closed.1 long in
      let ends : end ≡ closed.0 =
      sym (ends_at pipes start end senses 0 leads) ∙
      ap (λ n. get_or (tasks_of pipes n senses) (length senses) 0) first ∙
      ends_at pipes closed.0 closed.0 senses 0 closed.1 in
      eq-eqb end start (ends ∙ sym first),
)

pub returns-in-Some : goal.returns-in-Some
returns-in-Some c =
    closed_at c.args.graph.now.pipes c.args.senses.now c.start_of-start.result c.in-Some.end
    (record { pipe = 0; along = false }) c.requires.long c.start_of-start.ensures c.in-Some.ensures.some
