-- The marks of the search: senses lose theirs where no bare circle has them.
use Rattle.std.proofs.Common.{◌≡◌, ◌≢◌, ◌<◌, ℕ, suc, true, List, length, get_or, ap, sym, inl, inr, arith, ◌∙◌, subst}
use Rattle.std.specs.Prelude.{Some, None}
use Rattle.std.proofs.lemmas.Bool.{cases_lt}
use Rattle.std.proofs.lemmas.List.{get_or-map}
use Rattle.osm_circle.specs.Circles.{IsBareCircle, sense_end, sense_start}
use Rattle.osm_circle.specs.Search.{CanFollow, IsUsable, is_live}
use Rattle.osm_circle.proofs.Trails.{IsPruned, tasks_of}
use Rattle.osm_circle.specs.declared.circle.Sense.{Sense}
use Rattle.osm_graph.specs.declared.pipe.Pipe.{Pipe}
use Rattle.osm_circle.specs.declared.live.Live.{Live}
use Rattle.osm_circle.proofs.WalkLemmas.{ends_at, starts_at}

-- a sense of a circle that can follow the one at a place
pub record IsFollowed (pipes : List Pipe) (circle : List Sense) (s d : Sense) : Type 0 where
  pub place : ℕ
  pub within : place < length circle
  pub joined : sense_start pipes (get_or circle place d) ≡ sense_end pipes s
  pub other : (get_or circle place d).pipe ≢ s.pipe

-- each sense of a bare circle is followed by another of it
followed : (pipes : List Pipe) (circle : List Sense) (k : ℕ) (d : Sense) → IsBareCircle pipes circle →
    k < length circle → IsFollowed pipes circle (get_or circle k d) d
followed pipes circle k d bare below = elim (cases_lt (suc k) (length circle)) [
  | inl more ↦ record {
    place = suc k;
    within = more;
    joined = starts_at pipes bare.closed.0 bare.closed.0 circle (suc k) d 0 bare.closed.1 more ∙
        get_or-map (sense_end pipes) circle k d 0 below;
    other = λ same. bare.different k (suc k) d (omega arith) more (sym same);
  }
  | inr none ↦
      let all : suc k ≡ length circle = omega arith in
      record {
        place = 0;
        within = omega arith;
        joined = starts_at pipes bare.closed.0 bare.closed.0 circle 0 d 0 bare.closed.1 (omega arith) ∙
            sym (ends_at pipes bare.closed.0 bare.closed.0 circle 0 bare.closed.1) ∙
            sym (ap (λ n. get_or (tasks_of pipes bare.closed.0 circle) n 0) all) ∙
            get_or-map (sense_end pipes) circle k d 0 below;
        other = bare.different 0 k d (omega (arith, bare.long)) below;
      }
]

-- marks of all usable senses and no others are those that bare circles have, and more
pub marked : (pipes : List Pipe) (live : Live) → ((s : Sense) → is_live live s ≡ true → IsUsable pipes s) →
    ((s : Sense) → IsUsable pipes s → is_live live s ≡ true) → IsPruned pipes live
marked pipes live usable all = record {
  usable = usable;
  kept = λ circle bare k d below.
      all (get_or circle k d) (record { known = bare.known k d below; bare = bare.bare k d below });
}

-- a sense that no live sense can follow lies in no bare circle, so it loses its mark
pub unmarked : (pipes : List Pipe) (old new : Live) (last : Sense) → IsPruned pipes old →
    ((s : Sense) → s.pipe < length pipes → CanFollow pipes (Some last) s → is_live old s ≡ true → ⊥) →
    ((s : Sense) → s ≢ last → is_live new s ≡ is_live old s) →
    ((s : Sense) → is_live new s ≡ true → is_live old s ≡ true) → IsPruned pipes new
unmarked pipes old new last pruned none others fewer = record {
  usable = λ s live. pruned.usable s (fewer s live);
  kept = λ circle bare k d below.
      let here : Sense = get_or circle k d in
      let more : IsFollowed pipes circle here d = followed pipes circle k d bare below in
      others here (λ same.
      none (get_or circle more.place d) (bare.known more.place d more.within)
      (more.joined ∙ ap (sense_end pipes) same, λ e. more.other (e ∙ sym (ap (λ (s : Sense). s.pipe) same)))
      (pruned.kept circle bare more.place d more.within)) ∙
      pruned.kept circle bare k d below;
}

-- where no sense along is live there is no bare circle
pub none_left : (pipes : List Pipe) (live : Live) → IsPruned pipes live →
    ((s : Sense) → s.pipe < length pipes → CanFollow pipes None s → is_live live s ≡ true → ⊥) →
    (circle : List Sense) → IsBareCircle pipes circle → ⊥
none_left pipes live pruned none circle bare =
    let at = bare.along.0 in
    let s : Sense = bare.along.1 in
    let here : get_or circle at s ≡ s = bare.along.3 in
    none s (subst (λ (t : Sense). t.pipe < length pipes) here (bare.known at s bare.along.2)) bare.along.4
    (subst (λ t. is_live live t ≡ true) here (pruned.kept circle bare at s bare.along.2))
