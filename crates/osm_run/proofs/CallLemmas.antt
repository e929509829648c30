-- Lemmas on the calls of a host: what each does to counts, to what was given, and to files.
use Rattle.std.proofs.Common.{◌≡◌, ℕ, zero, suc, ◌+◌, List, [], ◌∷◌, ◌++◌, Bool, true, false, cond, ◌&&◌, ◌||◌, refl, sym, ap, subst, ◌∙◌, arith, inl, inr}
use Rattle.std.specs.Prelude.{◌⊎◌, Some, Ok, Err, ◌==◌}
use Rattle.std.specs.FinMap as finite
use Rattle.std.specs.FinMap.{get-insert}
use Rattle.std.specs.Cmp.Lexicographic.{nat_list_cmp_total}
use Rattle.std.specs.Str.{bytes_eq}
use Rattle.std.proofs.lemmas.Bool.{and_parts, eqb-true}
use Rattle.std.proofs.lemmas.Map.Text.{is_eq-slice_cmp}
use Rattle.std.proofs.lemmas.Slice.Eq.{bytes_eq-Decides}
use Rattle.osm_host.specs.Contents.{Files}
use Rattle.osm_host.specs.Counts.{Counts, SameCounts, CountsOfCall, raised, is_at, op_number}
use Rattle.osm_host.specs.declared.outside.HostError.{HostError}
use Rattle.osm_host.specs.declared.outside.HostError.TheVariants.{Failed, Memory}
use Rattle.osm_host.specs.declared.outside.Op.{Op}
use Rattle.osm_host.specs.declared.outside.Op.TheVariants.{Open, Make, Pull, Put, Keep}
use Rattle.osm_host.specs.Names.{KnownByCall}
use Rattle.osm_run.specs.OnHost.{CountsBy, SameNames}
use Rattle.osm_run.specs.Opened.{is_failure}
use Rattle.osm_run.specs.Closed.{are_there}
use Rattle.osm_run.proofs.KnownLemmas.{known_at_memory, known_by_open}

-- the kind of call of a number
op_of : ℕ → Op
op_of zero = Open
op_of (suc zero) = Make
op_of (suc (suc zero)) = Pull
op_of (suc (suc (suc zero))) = Put
op_of (suc (suc (suc (suc n)))) = Keep

op_of-op_number : (o : Op) → op_of (op_number o) ≡ o
unfolding op_of
op_of-op_number Open = refl
op_of-op_number Make = refl
op_of-op_number Pull = refl
op_of-op_number Put = refl
op_of-op_number Keep = refl

-- kinds of one number are one
same_op : (o op : Op) → op_number o ≡ op_number op → o ≡ op
same_op o op same = sym (op_of-op_number o) ∙ ap op_of same ∙ op_of-op_number op

-- a text is equal to itself
pub text_same : (n : List ℕ) → bytes_eq n n ≡ true
text_same n = (bytes_eq-Decides n n).1 refl

pub is_at-own : (op : Op) (name : List ℕ) → is_at op name op name ≡ true
is_at-own Open name = text_same name
is_at-own Make name = text_same name
is_at-own Pull name = text_same name
is_at-own Put name = text_same name
is_at-own Keep name = text_same name

place_cases : (op : Op) (name : List ℕ) (P : Op → List ℕ → Type 0) (o : Op) (n : List ℕ) (b : Bool) →
    is_at op name o n ≡ b → P op name → (is_at op name o n ≡ false → P o n) → P o n
place_cases op name P o n true at own others =
    let both = and_parts (op_number o == op_number op) (bytes_eq n name) at in
    subst (λ n. P o n) (sym ((bytes_eq-Decides n name).0 both.1)) (subst (λ o. P o name) (sym (same_op o op
    (eqb-true (op_number o) (op_number op) both.0))) own)
place_cases op name P o n false at own others = others at

-- what holds at one place and at all others holds everywhere
pub at_each_place : (op : Op) (name : List ℕ) (P : Op → List ℕ → Type 0) → P op name → ((o : Op) (n : List ℕ) →
    is_at op name o n ≡ false → P o n) → (o : Op) (n : List ℕ) → P o n
at_each_place op name P own others o n = place_cases op name P o n (is_at op name o n) refl own (others o n)

-- a call that answered its value leaves all counts
pub counts_stay : {T : Type 0} (op : Op) (name : List ℕ) (before now : Counts) (x : T) →
    CountsOfCall op name before now (Ok x) → SameCounts before now
counts_stay op name before now x call = at_each_place op name (λ o n. now o n ≡ before o n) call.own call.others

-- a call that was refused raises its own count alone where it failed, and leaves all where it was out of memory
pub counts_of_refusal : {T : Type 0} (op : Op) (name : List ℕ) (before now : Counts) (refusal : HostError) →
    CountsOfCall {T = T} op name before now (Err refusal) → (o : Op) (n : List ℕ) →
    CountsBy (is_failure refusal && is_at op name o n) (before o n) (now o n)
counts_of_refusal op name before now Failed call =
    at_each_place op name (λ o n. CountsBy (is_at op name o n) (before o n) (now o n)) (rw (is_at-own op name) call.own)
    (λ o n other. rw other (call.others o n other))
counts_of_refusal op name before now Memory call =
    at_each_place op name (λ o n. now o n ≡ before o n) call.own call.others

-- a count raised by nothing
pub raised-none : (count : ℕ) → raised count 0 ≡ count
raised-none count = omega arith

-- a count raised twice is raised by both
pub raised-raised : (count more again : ℕ) → raised (raised count more) again ≡ raised count (more + again)
raised-raised count more again = omega arith

-- a count by one change and by another
pub counts_then : (a b : Bool) (before middle now : ℕ) → CountsBy a before middle → CountsBy b middle now →
    CountsBy (a || b) before now
counts_then true true before middle now first second =
    record { later = omega (arith, first.later, second.later); rose = omega (arith, first.rose, second.later) }
counts_then true false before middle now first second = subst (λ n. CountsBy true before n) (sym second) first
counts_then false b before middle now first second = subst (λ n. CountsBy b n now) first second

-- a count that is raised by some faults rises where there were any
pub raised_by : (faults before now : ℕ) → now ≡ raised before faults → CountsBy (are_there faults) before now
raised_by zero before now is = is ∙ raised-none before
raised_by (suc faults) before now is = record { later = omega (arith, is); rose = omega (arith, is) }

-- where a count of faults rose from none by this, there are faults exactly then
pub there_by : (failed : Bool) (none faults : ℕ) → none ≡ 0 → CountsBy failed none faults → are_there faults ≡ failed
there_by true none zero zeros by = absurd (omega (arith, by.rose, zeros))
there_by true none (suc faults) zeros by = refl
there_by false none zero zeros by = refl
there_by false none (suc faults) zeros by = absurd (let no : suc faults ≡ 0 = by ∙ zeros in cc)

-- a file that was set is found under its name, and all others as before
pub get-insert_named : (files : Files) (name bytes n : List ℕ) → finite.get (finite.insert files name bytes) n ≡ cond
    (bytes_eq n name) (Some bytes) (finite.get files n)
get-insert_named files name bytes n =
    get-insert nat_list_cmp_total files name bytes n ∙ ap (λ b. cond b (Some bytes) (finite.get files n))
    (is_eq-slice_cmp n name)

pub get-insert_other : (files : Files) (name bytes n : List ℕ) → bytes_eq n name ≡ false →
    finite.get (finite.insert files name bytes) n ≡ finite.get files n
get-insert_other files name bytes n other = get-insert_named files name bytes n
    ∙ ap (λ b. cond b (Some bytes) (finite.get files n)) other

pub get-insert_own : (files : Files) (name bytes : List ℕ) →
    finite.get (finite.insert files name bytes) name ≡ Some bytes
get-insert_own files name bytes =
    get-insert_named files name bytes name ∙ ap (λ b. cond b (Some bytes) (finite.get files name)) (text_same name)

-- after a refused opening its name may be known, and it is where the call failed
pub known_after_refusal : {T : Type 0} (name : List ℕ) (before now : List (List ℕ)) (refusal : HostError) →
    KnownByCall {T = T} name before now (Err refusal) →
    (SameNames now before × (refusal ≡ Memory)) ⊎ SameNames now (before ++ name ∷ [])
known_after_refusal {T = T} name before now Failed call =
    inr (known_by_open {T = T} name before now (Err Failed) call call.own)
known_after_refusal {T = T} name before now Memory call = elim (known_at_memory {T = T} name before now call) [
  | inl same ↦ inl (same, refl)
  | inr more ↦ inr more
]
