-- The steps of the search: a walk that goes on, one that closes a ring, and one that steps back.
use Rattle.std.proofs.Common.{◌≡◌, ◌≢◌, ◌+◌, ◌-◌, ◌<◌, ◌≤◌, ℕ, suc, true, List, [], ◌∷◌, ◌++◌, length, take, drop, get_or, refl, ap, sym, inl, inr, arith, ◌∙◌, subst}
use Rattle.std.specs.Prelude.{Option, Some, All, AllPairs, slice_get}
use Rattle.std.proofs.Math.Dec.{eqb}
use Rattle.std.proofs.lemmas.Bool.{cases_eq, cases_lt, eqb-true}
use Rattle.std.proofs.lemmas.List.{drop_more, get_or-map, get_or_append_left, get_or_default, get_or_push, length-drop, length-map, length_push, map_push, take-append-drop, take_rest}
use Rattle.std.proofs.lemmas.List.Elements.{All-drop, All-map, All-push, All-weaker}
use Rattle.std.proofs.lemmas.List.Folds.{Any-from_list_any}
use Rattle.std.proofs.lemmas.List.Quantifiers.{all_pairs_push}
use Rattle.std.proofs.lemmas.Map.Steps.{length-le_from_distinct_below}
use Rattle.std.proofs.lemmas.Option.{slice_get-get_or}
use Rattle.osm_circle.specs.Circles.{IsWalk, sense_end, sense_start}
use Rattle.osm_circle.specs.Search.{CanFollow, IsForward, IsRing, IsUsable, is_live}
use Rattle.osm_circle.proofs.Trails.{IsLine, IsPruned, IsTrail, tasks_of}
use Rattle.osm_circle.specs.declared.circle.Sense.{Sense}
use Rattle.osm_graph.specs.declared.pipe.Pipe.{Pipe}
use Rattle.osm_circle.specs.declared.live.Live.{Live}
use Rattle.osm_circle.proofs.RingLemmas.{pairs_drop, pairs_take, pipes_distinct, pipes_over}
use Rattle.osm_circle.proofs.WalkLemmas.{ends_at, ends_elsewhere, same_pipe, starts_at, walk_join, walk_part}

-- no sense of a trail is over the pipe of a sense that can follow it
fresh : (pipes : List Pipe) (a b : ℕ) (walk : List Sense) (next last : Sense) (k : ℕ) → IsWalk pipes a walk b →
    AllPairs (λ a b. a ≢ b) (tasks_of pipes a walk) → suc k ≡ length walk → get_or walk k last ≡ last →
    sense_start pipes next ≡ b → next.pipe ≢ last.pipe → All (λ s. s.pipe ≢ next.pipe) walk
fresh pipes a b walk next last k leads apart count is_last starts other i d below same =
    let ends : get_or (tasks_of pipes a walk) (length walk) 0 ≡ b = ends_at pipes a b walk 0 leads in
    let visited : length (tasks_of pipes a walk) ≡ suc (length walk) =
    ap suc (length-map walk (sense_end pipes)) in
    elim (cases_eq i k) [
      | inl at_last ↦
          let here : get_or walk i d ≡ last =
          ap (λ n. get_or walk n d) at_last ∙ get_or_default walk k d last (omega arith) ∙ is_last in
          other (sym same ∙ ap (λ (s : Sense). s.pipe) here)
      | inr earlier ↦ elim (same_pipe pipes (get_or walk i d) next same) [
        | inl start ↦ apart i (length walk) 0 below (omega arith)
            (sym (starts_at pipes a b walk i d 0 leads below) ∙ sym start ∙ starts ∙ sym ends)
        | inr end ↦ apart (suc i) (length walk) 0 (omega arith) (omega arith)
            (get_or-map (sense_end pipes) walk i d 0 below ∙ sym end ∙ starts ∙ sym ends)
      ]
    ]

-- the last sense of a list that has one
last_sense : (walk : List Sense) (k : ℕ) (d : Sense) → suc k ≡ length walk →
    slice_get walk (length walk - 1) ≡ Some (get_or walk k d)
last_sense walk k d count =
    ap (λ n. slice_get walk n) (omega (arith, count)) ∙ slice_get-get_or walk k d (omega (arith, count))

-- a trail and a sense that goes on from its end are a line
pub record IsLonger (pipes : List Pipe) (live : Live) (walk : List Sense) (next : Sense) : Type 0 where
  pub first : ℕ
  pub last : ℕ
  pub before : IsLine pipes live first walk last
  pub apart : AllPairs (λ a b. a ≢ b) (tasks_of pipes first walk)
  pub starts : sense_start pipes next ≡ last
  pub line : IsLine pipes live first (walk ++ next ∷ []) (sense_end pipes next)

-- a trail goes on with a live sense that can follow its last
pub longer : (pipes : List Pipe) (live : Live) (walk : List Sense) (next : Sense) → IsTrail pipes live walk →
    CanFollow pipes (slice_get walk (length walk - 1)) next → is_live live next ≡ true →
    IsLonger pipes live walk next
longer pipes live [] next trail follows lives = record {
  first = sense_start pipes next;
  last = sense_start pipes next;
  before = record {
    leads = refl;
    different = λ i j d before below. absurd (omega (arith, below));
    lives = λ i d below. absurd (omega (arith, below));
  };
  apart = λ i j d before below. absurd (omega (arith, before, below));
  starts = refl;
  line = record {
    leads = (refl, refl);
    different = λ i j d before below. absurd (omega (arith, before, below));
    lives = All-push (λ s. is_live live s ≡ true) [] next (λ i d below. absurd (omega (arith, below))) lives;
  };
}
longer pipes live (s ∷ rest) next trail follows lives =
    let walk : List Sense = s ∷ rest in
    let last : Sense = get_or walk (length rest) next in
    let can : CanFollow pipes (Some last) next =
    subst (λ o. CanFollow pipes o next) (last_sense walk (length rest) next refl) follows in
    let ends : sense_end pipes last ≡ trail.last =
    sym (get_or-map (sense_end pipes) walk (length rest) next 0 (omega arith)) ∙
    ends_at pipes trail.first trail.last walk 0 trail.line.leads in
    let starts : sense_start pipes next ≡ trail.last = can.0 ∙ ends in
    record {
      first = trail.first;
      last = trail.last;
      before = trail.line;
      apart = trail.apart;
      starts = starts;
      line = record {
        leads = walk_join pipes trail.first trail.last (sense_end pipes next) walk (next ∷ []) trail.line.leads
            (starts, refl);
        different = all_pairs_push (λ s t. s.pipe ≢ t.pipe) walk next trail.line.different
            (fresh pipes trail.first trail.last walk next last (length rest) trail.line.leads trail.apart refl
            (get_or_default walk (length rest) last next (omega arith)) starts can.1);
        lives = All-push (λ s. is_live live s ≡ true) walk next trail.line.lives lives;
      };
    }

-- a trail that goes on to a task that it has not visited is a trail
pub goes_on : (pipes : List Pipe) (live : Live) (walk : List Sense) (next : Sense) → IsForward pipes →
    next.pipe < length pipes → IsLonger pipes live walk next →
    All (λ s. sense_start pipes s ≢ sense_end pipes next) walk → IsTrail pipes live (walk ++ next ∷ [])
goes_on pipes live walk next forward known more elsewhere =
    let tasks : List ℕ = tasks_of pipes more.first walk in
    record {
      first = more.first;
      last = sense_end pipes next;
      line = more.line;
      apart = subst (λ list. AllPairs (λ a b. a ≢ b) (more.first ∷ list)) (sym (map_push (sense_end pipes) walk next))
          (all_pairs_push (λ a b. a ≢ b) tasks (sense_end pipes next) more.apart
          (λ k d below. λ same. elim (cases_lt k (length walk)) [
            | inl within ↦ elsewhere k next within
                (starts_at pipes more.first more.last walk k next d more.before.leads within ∙ same)
            | inr past ↦
                let at_end : k ≡ length walk = omega (arith, past, below, length-map walk (sense_end pipes)) in
                let here : get_or tasks k d ≡ more.last =
                ap (λ n. get_or tasks n d) at_end ∙
                ends_at pipes more.first more.last walk d more.before.leads in
                ends_elsewhere pipes next forward known (more.starts ∙ sym here ∙ same)
          ]));
    }

-- a line of live senses is no longer than the pipes are many
pub fits : (pipes : List Pipe) (live : Live) (first last : ℕ) (walk : List Sense) → IsPruned pipes live →
    IsLine pipes live first walk last → length walk ≤ length pipes
fits pipes live first last walk pruned line =
    let few : length (pipes_over walk) ≤ length pipes =
    length-le_from_distinct_below (pipes_over walk) (length pipes) (pipes_distinct walk line.different)
    (λ q has.
    let found = Any-from_list_any (eqb q) (pipes_over walk) has in
    let known : All (λ p. p < length pipes) (pipes_over walk) =
    All-map (λ p. p < length pipes) (λ (s : Sense). s.pipe) walk
    (All-weaker (λ s. is_live live s ≡ true) (λ s. s.pipe < length pipes)
    (λ s live. (pruned.usable s live).known) walk line.lives) in
    let same : q ≡ found.1 = eqb-true q found.1 found.4 in
    let within : found.1 < length pipes =
    subst (λ n. n < length pipes) found.3 (known found.0 found.1 found.2) in
    omega (arith, same, within)) in
    simp length-map at few

-- a trail that comes back to the start of one of its senses has a ring from there on
pub closes : (pipes : List Pipe) (live : Live) (walk : List Sense) (next : Sense) (at : ℕ) → IsPruned pipes live →
    IsLonger pipes live walk next → at < length walk →
    ((d : Sense) → sense_start pipes (get_or walk at d) ≡ sense_end pipes next) →
    IsRing pipes (drop at (walk ++ next ∷ []))
closes pipes live walk next at pruned more below comes =
    let list : List Sense = walk ++ next ∷ [] in
    let within : at < length list = omega (arith, length_push walk next) in
    let whole : take at list ++ drop at list ≡ list = take-append-drop at list in
    let parts = walk_part pipes more.first (sense_end pipes next) (take at list) (drop at list)
    (subst (λ senses. IsWalk pipes more.first senses (sense_end pipes next)) (sym whole) more.line.leads) in
    let opens : IsWalk pipes parts.0 (get_or list at next ∷ drop (at + 1) list) (sense_end pipes next) =
    subst (λ senses. IsWalk pipes parts.0 senses (sense_end pipes next)) (drop_more list at next within) parts.1.1 in
    let back : parts.0 ≡ sense_end pipes next =
    sym opens.0 ∙ ap (sense_start pipes) (get_or_append_left walk (next ∷ []) next at below) ∙ comes next in
    record {
      long = omega (arith, length-drop at list, within);
      usable = All-drop (IsUsable pipes) at list
          (All-weaker (λ s. is_live live s ≡ true) (IsUsable pipes) pruned.usable list more.line.lives);
      different = pairs_drop (λ s t. s.pipe ≢ t.pipe) at list more.line.different;
      closed = (
        sense_end pipes next,
        subst (λ task. IsWalk pipes task (drop at list) (sense_end pipes next)) back parts.1.1,
      );
    }

-- a trail without its last sense is a trail, also where that sense loses its mark
pub shorter : (pipes : List Pipe) (old new : Live) (walk : List Sense) (last : Sense) →
    IsTrail pipes old (walk ++ last ∷ []) → ((s : Sense) → s ≢ last → is_live new s ≡ is_live old s) →
    IsTrail pipes new walk
shorter pipes old new walk last trail others =
    let parts = walk_part pipes trail.first trail.last walk (last ∷ []) trail.line.leads in
    let different = trail.line.different in
    record {
      first = trail.first;
      last = parts.0;
      line = record {
        leads = parts.1.0;
        different = pairs_take (λ s t. s.pipe ≢ t.pipe) walk (last ∷ []) different;
        lives = λ k d below.
            let here : get_or (walk ++ last ∷ []) k d ≡ get_or walk k d =
            get_or_append_left walk (last ∷ []) d k below in
            let there : get_or (walk ++ last ∷ []) (length walk) d ≡ last =
            get_or_push walk last d (length walk) refl in
            others (get_or walk k d)
            (λ same. different k (length walk) d below (omega (arith, length_push walk last))
            (ap (λ (s : Sense). s.pipe) (here ∙ same ∙ sym there))) ∙
            ap (is_live old) (sym here) ∙ trail.line.lives k d (omega (arith, below, length_push walk last));
      };
      apart = pairs_take (λ a b. a ≢ b) (tasks_of pipes trail.first walk) (sense_end pipes last ∷ [])
          (subst (λ list. AllPairs (λ a b. a ≢ b) (trail.first ∷ list)) (map_push (sense_end pipes) walk last)
          trail.apart);
    }

-- the same at the values of the search: its walk as a slice, and the last sense of that
pub longer_by : (pipes : List Pipe) (live : Live) (walk seen : List Sense) (last : Option Sense) (next : Sense) →
    IsTrail pipes live walk → seen ≡ walk → last ≡ slice_get seen (length seen - 1) →
    (is_live live next ≡ true) × CanFollow pipes last next → IsLonger pipes live walk next
longer_by pipes live walk seen last next trail same is_last follows =
    let of_walk : last ≡ slice_get walk (length walk - 1) =
    is_last ∙ ap (λ (list : List Sense). slice_get list (length list - 1)) same in
    longer pipes live walk next trail (subst (λ o. CanFollow pipes o next) of_walk follows.1) follows.0

-- a walk that goes on has room for another sense
pub has_room : (pipes : List Pipe) (live : Live) (walk : List Sense) (next : Sense) → length pipes ≤ 128 →
    IsPruned pipes live → IsLonger pipes live walk next → length walk < 128
has_room pipes live walk next few pruned more =
    omega (
      arith,
      few,
      length_push walk next,
      fits pipes live more.first (sense_end pipes next) (walk ++ next ∷ []) pruned more.line,
    )

-- the ring is what is left of the walk from a place on
pub closes_at : (pipes : List Pipe) (live : Live) (walk seen list : List Sense) (next : Sense) (at end : ℕ) →
    IsPruned pipes live → IsLonger pipes live walk next → seen ≡ walk → end ≡ sense_end pipes next →
    (at < length seen) × ((d : Sense) → sense_start pipes (get_or seen at d) ≡ end) → list ≡ walk ++ next ∷ [] →
    IsRing pipes (take (length list - at) (drop at list))
closes_at pipes live walk seen list next at end pruned more same ends comes is =
    subst (IsRing pipes) (ap (drop at) (sym is) ∙ sym (take_rest list at))
    (closes pipes live walk next at pruned more (subst (λ (list : List Sense). at < length list) same comes.0)
    (λ d. ap (λ (list : List Sense). sense_start pipes (get_or list at d)) (sym same) ∙ comes.1 d ∙ ends))

-- the trail that goes on is the walk with the sense
pub goes_on_at : (pipes : List Pipe) (live : Live) (walk seen list : List Sense) (next : Sense) (end : ℕ) →
    IsForward pipes → next.pipe < length pipes → IsLonger pipes live walk next → seen ≡ walk →
    end ≡ sense_end pipes next → All (λ s. sense_start pipes s ≢ end) seen → list ≡ walk ++ next ∷ [] →
    IsTrail pipes live list
goes_on_at pipes live walk seen list next end forward known more same ends elsewhere is =
    subst (IsTrail pipes live) (sym is)
    (goes_on pipes live walk next forward known more
    (subst (All (λ s. sense_start pipes s ≢ sense_end pipes next)) same
    (subst (λ n. All (λ s. sense_start pipes s ≢ n) seen) ends elsewhere)))
