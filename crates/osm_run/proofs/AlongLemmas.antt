-- Machines and the files of their tasks, side by side with their numbers: what is gathered along both.
use Rattle.std.proofs.Common.{◌≡◌, ℕ, suc, ◌+◌, ◌<◌, List, [], ◌∷◌, ◌++◌, length, map, refl, sym, ap, subst, ◌∙◌, arith}
use Rattle.std.specs.Prelude.{get_or, flat_map, sum_by}
use Rattle.std.specs.List.{enumerate_from}
use Rattle.std.proofs.lemmas.Grind.{flat_map-append}
use Rattle.std.proofs.lemmas.List.Sums.{sum_by-append}
use Rattle.osm_entity.specs.Meaning.{Meaning}
use Rattle.osm_machine.specs.MachineKinds.{machines}
use Rattle.osm_machine.specs.declared.kind.MachineKind.{MachineKind}
use Rattle.osm_net.specs.Meaning.{sum_below}
use Rattle.osm_run.specs.Course.{Course, entry, task_faults}
use Rattle.osm_run.specs.Plan.{Plan, uses_of}
use Rattle.osm_run.specs.Went.{machine_end, verdict_faults}
use Rattle.osm_run.specs.declared.status.SourceEnd.{SourceEnd}
use Rattle.osm_run.proofs.SameFirstLemmas.{SameFirst, same_both, same_none}

-- this holds of each element of two lists of one length, by its number
pub Along : {X Y : Type 0} → (ℕ → X → Y → Type 0) → ℕ → List X → List Y → Type 0
Along P n [] [] = Unit {0}
Along P n (x ∷ xs) (y ∷ ys) = P n x y × Along P (n + 1) xs ys
Along P n [] (y ∷ ys) = ⊥
Along P n (x ∷ xs) [] = ⊥

along : {X Y : Type 0} (P : ℕ → X → Y → Type 0) (d : X) (e : Y) (n : ℕ) (xs : List X) (ys : List Y) →
    length xs ≡ length ys → ((t : ℕ) → t < length ys → P (n + t) (get_or xs t d) (get_or ys t e)) → Along P n xs ys
unfolding Along
along P d e n [] [] same each = tt
along P d e n [] (y ∷ ys) same each = absurd (omega (arith, same))
along P d e n (x ∷ xs) [] same each = absurd (omega (arith, same))
along P d e n (x ∷ xs) (y ∷ ys) same each = (
  let here : n + 0 ≡ n = omega arith in subst (λ k. P k x y) here (each 0 (omega arith)),
  along P d e (n + 1) xs ys (omega (arith, same))
      (λ t known. let next : n + suc t ≡ (n + 1) + t = omega arith in
      subst (λ k. P k (get_or xs t d) (get_or ys t e)) next (each (suc t) (omega (arith, known)))),
)

pub along_all : {X Y : Type 0} (P : ℕ → X → Y → Type 0) (d : X) (e : Y) (xs : List X) (ys : List Y) →
    length xs ≡ length ys → ((t : ℕ) → t < length ys → P t (get_or xs t d) (get_or ys t e)) → Along P 0 xs ys
along_all P d e xs ys same each = along P d e 0 xs ys same
    (λ t known. let here : t ≡ 0 + t = omega arith in
    subst (λ k. P k (get_or xs t d) (get_or ys t e)) here (each t known))

-- the entries of machines are those of a course, where each is
pub ends_along : {S K : Type 0} (c : Course) (n : ℕ) (ms : List (MachineKind S K)) (plan : Plan) →
    Along (λ t m files. machine_end (t, m) ≡ flat_map (entry c) (uses_of (t, files))) n ms plan →
    flat_map machine_end (enumerate_from n ms) ≡ flat_map (entry c) (flat_map uses_of (enumerate_from n plan))
unfolding Along
ends_along c n [] [] all = refl
ends_along c n [] (files ∷ plan) all = absurd all
ends_along c n (m ∷ ms) [] all = absurd all
ends_along c n (m ∷ ms) (files ∷ plan) all =
    ap (λ es. es ++ flat_map machine_end (enumerate_from (n + 1) ms)) all.0
    ∙ ap (λ es. flat_map (entry c) (uses_of (n, files)) ++ es) (ends_along c (n + 1) ms plan all.1)
    ∙ sym (flat_map-append (entry c) (uses_of (n, files)) (flat_map uses_of (enumerate_from (n + 1) plan)))

-- the faults of tasks begin as the verdicts of machines say, where those of each do
pub faults_along : {S K : Type 0} (c : Course) (m : Meaning) (n : ℕ) (ms : List (MachineKind S K)) (plan : Plan) →
    Along (λ t now files. SameFirst (task_faults m c (t, files)) (verdict_faults (t, machines.verdict now))) n ms plan →
    SameFirst (flat_map (task_faults m c) (enumerate_from n plan))
    (flat_map verdict_faults (enumerate_from n (map machines.verdict ms)))
unfolding Along
faults_along c m n [] [] all = same_none
faults_along c m n [] (files ∷ plan) all = absurd all
faults_along c m n (now ∷ ms) [] all = absurd all
faults_along c m n (now ∷ ms) (files ∷ plan) all =
    same_both (task_faults m c (n, files)) (verdict_faults (n, machines.verdict now))
    (flat_map (task_faults m c) (enumerate_from (n + 1) plan))
    (flat_map verdict_faults (enumerate_from (n + 1) (map machines.verdict ms)))
    all.0 (faults_along c m (n + 1) ms plan all.1)

-- the pulls of an entry, at most
abbrev pub pulls_of : SourceEnd → ℕ
pulls_of e = e.given + 1

-- the pulls of machines are those of the entries of a course, where each is
pub pulls_along : {X : Type 0} (f : ℕ → ℕ) (c : Course) (n : ℕ) (ms : List X) (plan : Plan) →
    Along (λ t m files. f t ≡ sum_by pulls_of (flat_map (entry c) (uses_of (t, files)))) n ms plan →
    sum_below f (n + length plan)
    ≡ sum_below f n + sum_by pulls_of (flat_map (entry c) (flat_map uses_of (enumerate_from n plan)))
unfolding Along
pulls_along f c n [] [] all = let same : n + 0 ≡ n = omega arith in ap (sum_below f) same ∙ omega arith
pulls_along f c n [] (files ∷ plan) all = absurd all
pulls_along f c n (m ∷ ms) [] all = absurd all
pulls_along f c n (m ∷ ms) (files ∷ plan) all =
    let more : List SourceEnd = flat_map (entry c) (flat_map uses_of (enumerate_from (n + 1) plan)) in
    let next : n + 1 ≡ suc n = omega arith in
    let here : n + length (files ∷ plan) ≡ (n + 1) + length plan = omega arith in
    let later = pulls_along f c (n + 1) ms plan all.1 in
    let step : sum_below f (n + 1) ≡ sum_below f n + f n = ap (sum_below f) next in
    let split = sum_by-append pulls_of (flat_map (entry c) (uses_of (n, files))) more in
    let joined = flat_map-append (entry c) (uses_of (n, files)) (flat_map uses_of (enumerate_from (n + 1) plan)) in
    ap (sum_below f) here ∙ later
    ∙ (let sum : sum_below f (n + 1) + sum_by pulls_of more
    ≡ sum_below f n + sum_by pulls_of (flat_map (entry c) (uses_of (n, files)) ++ more)
    = omega (arith, step, split, all.0) in sum)
    ∙ ap (λ es. sum_below f n + sum_by pulls_of es) (sym joined)
