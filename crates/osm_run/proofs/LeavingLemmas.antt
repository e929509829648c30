-- What machines leave, one machine after the other.
use Rattle.std.proofs.Common.{◌≡◌, ℕ, zero, suc, ◌+◌, ◌<◌, ◌≤◌, List, [], ◌∷◌, ◌++◌, length, map, drop, refl, sym, ap, subst, ◌∙◌, append_assoc, append-nil, arith}
use Rattle.std.specs.Prelude.{flat_map, get_or}
use Rattle.std.specs.List.{enumerate_from}
use Rattle.osm_entity.specs.declared.verdict.Verdict.{Verdict}
use Rattle.osm_machine.specs.declared.kind.MachineKind.{MachineKind}
use Rattle.osm_report.specs.declared.fault.Fault.{Fault}
use Rattle.osm_run.specs.Course.{first_fault}
use Rattle.osm_run.specs.Went.{machine_end, machine_ends, verdict_faults}

pub map_more : {A B : Type 0} (f : A → B) (xs : List A) (x : A) → map f (xs ++ x ∷ []) ≡ map f xs ++ f x ∷ []
map_more f [] x = refl
map_more f (y ∷ ys) x = ap (λ zs. f y ∷ zs) (map_more f ys x)

-- the entries of machines and of one machine more
more_ends : {S K : Type 0} (n k : ℕ) (ms : List (MachineKind S K)) (m : MachineKind S K) → k ≡ n + length ms →
    flat_map machine_end (enumerate_from n (ms ++ m ∷ []))
    ≡ flat_map machine_end (enumerate_from n ms) ++ machine_end (k, m)
more_ends n k [] m is =
    let same : n ≡ k = omega (arith, is) in
    append-nil (machine_end (n, m)) ∙ ap (λ at. machine_end (at, m)) same
more_ends n k (x ∷ ms) m is =
    ap (λ rest. machine_end (n, x) ++ rest) (more_ends (n + 1) k ms m (omega (arith, is)))
    ∙ sym (append_assoc (machine_end (n, x)) (flat_map machine_end (enumerate_from (n + 1) ms)) (machine_end (k, m)))

pub ends_more : {S K : Type 0} (k : ℕ) (ms : List (MachineKind S K)) (m : MachineKind S K) → k ≡ length ms →
    machine_ends (ms ++ m ∷ []) ≡ machine_ends ms ++ machine_end (k, m)
ends_more k ms m is = more_ends 0 k ms m (omega (arith, is))

-- a list that stands for nothing is empty
pub nothing_left : {X : Type 0} (xs : List X) → length xs ≡ 0 → xs ≡ []
nothing_left [] is = refl
nothing_left (x ∷ xs) is = absurd (omega arith)

-- an element of a list stands at its place, behind those before it
pub get_or_behind : {X : Type 0} (xs ys : List X) (x d : X) → get_or (xs ++ x ∷ ys) (length xs) d ≡ x
get_or_behind [] ys x d = refl
get_or_behind (y ∷ xs) ys x d = get_or_behind xs ys x d

pub map_both : {A B : Type 0} (f : A → B) (xs ys : List A) → map f (xs ++ ys) ≡ map f xs ++ map f ys
map_both f [] ys = refl
map_both f (x ∷ xs) ys = ap (λ zs. f x ∷ zs) (map_both f xs ys)

pub map_length : {A B : Type 0} (f : A → B) (xs : List A) → length (map f xs) ≡ length xs
map_length f [] = refl
map_length f (x ∷ xs) = ap suc (map_length f xs)

pub get_or_before : {X : Type 0} (xs ys : List X) (t : ℕ) (d : X) → t < length xs →
    get_or (xs ++ ys) t d ≡ get_or xs t d
get_or_before [] ys t d known = absurd (omega (arith, known))
get_or_before (x ∷ xs) ys zero d known = refl
get_or_before (x ∷ xs) ys (suc t) d known = get_or_before xs ys t d (omega (arith, known))

-- the list from a place on begins with what stands there
from_there : {X : Type 0} (xs : List X) (at : ℕ) (x : X) → at < length xs → x ≡ get_or xs at x →
    drop at xs ≡ x ∷ drop (suc at) xs
from_there [] at x known is = absurd (omega (arith, known))
from_there (y ∷ xs) zero x known is = ap (λ z. z ∷ xs) (sym is)
from_there (y ∷ xs) (suc at) x known is = from_there xs at x (omega (arith, known)) is

pub from_place : {X : Type 0} (xs : List X) (at : ℕ) (x : X) → at < length xs → x ≡ get_or xs at x →
    drop at xs ≡ x ∷ drop (at + 1) xs
from_place xs at x known is =
    let next : suc at ≡ at + 1 = omega arith in
    from_there xs at x known is ∙ ap (λ n. x ∷ drop n xs) next

-- the faults of verdicts from a place on, where there is none at that place
pub later_faults : (vs : List Verdict) (at : ℕ) (v : Verdict) → at < length vs → v ≡ get_or vs at v →
    verdict_faults (at, v) ≡ [] → flat_map verdict_faults (enumerate_from at (drop at vs))
    ≡ flat_map verdict_faults (enumerate_from (at + 1) (drop (at + 1) vs))
later_faults vs at v known is none =
    ap (λ rest. flat_map verdict_faults (enumerate_from at rest)) (from_place vs at v known is)
    ∙ ap (λ faults. faults ++ flat_map verdict_faults (enumerate_from (at + 1) (drop (at + 1) vs))) none

-- and where there is one
pub first_here : (vs : List Verdict) (at : ℕ) (v : Verdict) (fault : Fault) (more : List Fault) → at < length vs →
    v ≡ get_or vs at v → verdict_faults (at, v) ≡ fault ∷ [] →
    first_fault (flat_map verdict_faults (enumerate_from at (drop at vs)) ++ more) ≡ fault
first_here vs at v fault more known is one =
    ap (λ rest. first_fault (flat_map verdict_faults (enumerate_from at rest) ++ more)) (from_place vs at v known is)
    ∙ ap (λ faults. first_fault
    (faults ++ flat_map verdict_faults (enumerate_from (at + 1) (drop (at + 1) vs)) ++ more)) one

-- nothing is left past the end
pub past_end : {X : Type 0} (xs : List X) (at : ℕ) → length xs ≤ at → drop at xs ≡ []
past_end [] zero le = refl
past_end [] (suc at) le = refl
past_end (x ∷ xs) zero le = absurd (omega (arith, le))
past_end (x ∷ xs) (suc at) le = past_end xs at (omega (arith, le))

pub no_faults_left : (vs : List Verdict) (at : ℕ) (more : List Fault) → length vs ≤ at →
    first_fault (flat_map verdict_faults (enumerate_from at (drop at vs)) ++ more) ≡ first_fault more
no_faults_left vs at more le =
    ap (λ rest. first_fault (flat_map verdict_faults (enumerate_from at rest) ++ more)) (past_end vs at le)

-- two lists of one length that agree at each place are one
pub same_lists : {X : Type 0} (xs ys : List X) → length xs ≡ length ys →
    ((k : ℕ) (d : X) → k < length ys → get_or xs k d ≡ get_or ys k d) → xs ≡ ys
same_lists [] [] as_long same = refl
same_lists [] (y ∷ ys) as_long same = absurd (omega (arith, as_long))
same_lists (x ∷ xs) [] as_long same = absurd (omega (arith, as_long))
same_lists (x ∷ xs) (y ∷ ys) as_long same =
    let first : x ≡ y = same 0 x (omega arith) in
    let rest : xs ≡ ys =
    same_lists xs ys (omega (arith, as_long)) (λ k d known. same (suc k) d (omega (arith, known))) in
    ap (λ z. z ∷ xs) first ∙ ap (λ zs. y ∷ zs) rest

-- what stands in a list behind some elements is one more than these
pub stands_within : {X : Type 0} (xs ys : List X) (x : X) (all : List X) → xs ++ x ∷ ys ≡ all → length xs < length all
stands_within [] ys x all is = subst (λ zs. 0 < length zs) is (omega arith)
stands_within (y ∷ xs) ys x [] is = let no : y ∷ (xs ++ x ∷ ys) ≡ [] = is in cc
stands_within (y ∷ xs) ys x (z ∷ all) is =
    let both : y ∷ (xs ++ x ∷ ys) ≡ z ∷ all = is in
    let rest : xs ++ x ∷ ys ≡ all = cc in
    let less : length xs < length all = stands_within xs ys x all rest in
    omega (arith, less)
