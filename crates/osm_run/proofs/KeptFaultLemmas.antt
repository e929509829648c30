-- How the keeps of sinks are answered, one after the other.
use Rattle.std.proofs.Common.{◌≡◌, ℕ, ◌+◌, ◌<◌, List, [], ◌∷◌, ◌++◌, length, take, get_or, true, false, refl, sym, ap, ◌∙◌, arith, inl, inr}
use Rattle.std.specs.Prelude.{Some, None, flat_map}
use Rattle.std.specs.List.{AllByRecursion}
use Rattle.std.proofs.lemmas.Bool.{cases_eq}
use Rattle.std.proofs.lemmas.Grind.{flat_map-append}
use Rattle.std.proofs.lemmas.List.{append-nil}
use Rattle.osm_report.specs.declared.fault.Fault.{Fault}
use Rattle.osm_report.specs.declared.fault.Fault.TheVariants.{Clean, Words, Task, Graph, Buffering, Input, TooLong, Device, Memory}
use Rattle.osm_report.specs.declared.fault.DeviceCall.TheVariants.{Keep as KeepCall}
use Rattle.osm_run.specs.Plan.{File, Plan, Polygon, Sink, Source, Store, Use, uses, uses_of}
use Rattle.osm_run.specs.Course.{call_fault, first_fault, keep_faults}
use Rattle.osm_run.specs.Opened.{ReadsOrWrites, sink_name}
use Rattle.osm_run.specs.Closed.{AreAnswered, HadNoMemory, HasFailed, KeepAnswer, WasKept, course_by, did_fail, failed_by_devices, first_of, kept_with}
use Rattle.osm_run.specs.declared.closing.Kept.{Kept}
use Rattle.osm_run.proofs.EachLemmas.{all_every, all_more, flat_map_all}
use Rattle.osm_run.proofs.FirstFaultLemmas.{IsMet, all_met, keep_all}
use Rattle.osm_run.proofs.UsesLemmas.{below_uses, by_plain, uses-take}
use Rattle.osm_run.proofs.ClosedCountLemmas.{answered_here, answered_other, answers_with}

-- the first of some faults and of others
first_both : (xs ys : List Fault) → AllByRecursion IsMet xs →
    first_fault (xs ++ ys) ≡ first_of (first_fault xs) (first_fault ys)
first_both [] ys met = refl
first_both (fault ∷ xs) ys met = first_met fault (first_fault ys) met.0 where
  first_met : (fault later : Fault) → IsMet fault → fault ≡ first_of fault later
  first_met (Input task cause spot) later is = refl
  first_met (TooLong task) later is = refl
  first_met (Device task call) later is = refl
  first_met Clean later is = absurd (let no : false ≡ true = is in cc)
  first_met (Words error) later is = absurd (let no : false ≡ true = is in cc)
  first_met (Task error) later is = absurd (let no : false ≡ true = is in cc)
  first_met (Graph error) later is = absurd (let no : false ≡ true = is in cc)
  first_met (Buffering circle) later is = absurd (let no : false ≡ true = is in cc)
  first_met Memory later is = absurd (let no : false ≡ true = is in cc)

-- faults of keeps by the answers alone
abbrev keeps_as : (ℕ → KeepAnswer) → Use → List Fault
keeps_as answers u = keep_faults (course_by [] (failed_by_devices [] answers)) u

keeps_other : (answers : ℕ → KeepAnswer) (t : ℕ) (answer : KeepAnswer) (u : Use) → u.0 < t →
    keeps_as (answers_with answers t answer) u ≡ keeps_as answers u
keeps_other answers t answer (x, Polygon name) less = refl
keeps_other answers t answer (x, Source name) less = refl
keeps_other answers t answer (x, Store) less = refl
keeps_other answers t answer (x, Sink name) less =
    ap (λ a. call_fault x KeepCall (did_fail a)) (answered_other answers t answer x (λ same. omega (arith, less, same)))

flat_map_before : {X Y : Type 0} (f g : X → List Y) (xs : List X) → AllByRecursion (λ x. f x ≡ g x) xs →
    flat_map f xs ≡ flat_map g xs
flat_map_before f g [] same = refl
flat_map_before f g (x ∷ xs) same =
    ap (λ ys. ys ++ flat_map f xs) same.0 ∙ ap (λ ys. g x ++ ys) (flat_map_before f g xs same.1)

keeps_met : (answers : ℕ → KeepAnswer) (us : List Use) → AllByRecursion IsMet (flat_map (keeps_as answers) us)
keeps_met answers us = flat_map_all IsMet (keeps_as answers) us
    (all_every (λ u. AllByRecursion IsMet (keeps_as answers u))
    (keep_all IsMet all_met (course_by [] (failed_by_devices [] answers))) us)

first_clean : (fault : Fault) → first_of fault Clean ≡ fault
first_clean Clean = refl
first_clean (Words error) = refl
first_clean (Task error) = refl
first_clean (Graph error) = refl
first_clean (Buffering circle) = refl
first_clean (Input task cause spot) = refl
first_clean (TooLong task) = refl
first_clean (Device task call) = refl
first_clean Memory = refl

after_fault : (t : ℕ) (answer : KeepAnswer) (kept : Kept) →
    (kept_with t answer kept).fault ≡ first_of kept.fault (first_fault (call_fault t KeepCall (did_fail answer)))
after_fault t WasKept kept = sym (first_clean kept.fault)
after_fault t HasFailed kept = refl
after_fault t HadNoMemory kept = sym (first_clean kept.fault)

after_memory : (t : ℕ) (answer : KeepAnswer) (kept : Kept) → (kept_with t answer kept).memory ≡ false →
    (kept.memory ≡ false) × (answer ≡ HadNoMemory → ⊥)
after_memory t WasKept kept is = (is, λ no. let never : WasKept ≡ HadNoMemory = no in cc)
after_memory t HasFailed kept is = (is, λ no. let never : HasFailed ≡ HadNoMemory = no in cc)
after_memory t HadNoMemory kept is = absurd (let never : true ≡ false = is in cc)

-- the answers to the keeps, with one more
pub answered_more : (plan : Plan) (t : ℕ) (answers : ℕ → KeepAnswer) (answer : KeepAnswer) (name : List ℕ)
    (kept now : Kept) → t < length plan → get_or plan t [] ≡ Sink name ∷ [] → AreAnswered plan t answers kept →
    now ≡ kept_with t answer kept → AreAnswered plan (t + 1) (answers_with answers t answer) now
answered_more plan t answers answer name kept now within file are is =
    let us : List Use = uses (take t plan) in
    let all : ℕ → KeepAnswer = answers_with answers t answer in
    let grows : uses (take (t + 1) plan) ≡ us ++ (t, Sink name) ∷ [] =
    uses-take plan t within ∙ ap (λ fs. us ++ uses_of (t, fs)) file in
    record {
      fault = ap (λ k. k.fault) is ∙ after_fault t answer kept
          ∙ ap (λ f. first_of f (first_fault (call_fault t KeepCall (did_fail answer)))) are.fault
          ∙ ap (λ xs. first_of (first_fault xs) (first_fault (call_fault t KeepCall (did_fail answer))))
          (sym (flat_map_before (keeps_as all) (keeps_as answers) us
          (all_more (λ u. u.0 < t) (λ u. keeps_as all u ≡ keeps_as answers u) (keeps_other answers t answer) us
          (below_uses plan t))))
          ∙ ap (λ xs. first_of (first_fault (flat_map (keeps_as all) us)) (first_fault xs))
          (ap (λ a. call_fault t KeepCall (did_fail a)) (sym (answered_here answers t answer))
          ∙ sym (append-nil (keeps_as all (t, Sink name))))
          ∙ sym (first_both (flat_map (keeps_as all) us) (flat_map (keeps_as all) ((t, Sink name) ∷ []))
          (keeps_met all us))
          ∙ ap first_fault (sym (flat_map-append (keeps_as all) us ((t, Sink name) ∷ [])))
          ∙ ap (λ vs. first_fault (flat_map (keeps_as all) vs)) (sym grows);
      memory = λ none x less.
          let both = after_memory t answer kept (sym (ap (λ k. k.memory) is) ∙ none) in
          elim (cases_eq x t) [
            | inl same ↦ λ no. both.1 (sym (ap all same ∙ answered_here answers t answer) ∙ no)
            | inr differs ↦ λ no. are.memory both.0 x (omega (arith, less, differs))
                (sym (answered_other answers t answer x differs) ∙ no)
          ];
    }

kept_is_not_lost : WasKept ≡ HadNoMemory → ⊥
kept_is_not_lost is = cc

pub answered_skip : (plan : Plan) (t : ℕ) (answers : ℕ → KeepAnswer) (kept : Kept) → t < length plan →
    ReadsOrWrites (get_or plan t []) → sink_name (get_or plan t []) ≡ None → answers t ≡ WasKept →
    AreAnswered plan t answers kept → AreAnswered plan (t + 1) answers kept
answered_skip plan t answers kept within plain none unasked are = record {
  fault = are.fault ∙ ap first_fault (sym (ap (flat_map (keeps_as answers)) (uses-take plan t within)
      ∙ flat_map-append (keeps_as answers) (uses (take t plan)) (uses_of (t, get_or plan t []))
      ∙ ap (λ xs. flat_map (keeps_as answers) (uses (take t plan)) ++ xs)
      (no_keep (get_or plan t []) plain none)
      ∙ append-nil (flat_map (keeps_as answers) (uses (take t plan)))));
  memory = λ is x less. elim (cases_eq x t) [
    | inl same ↦ λ lost. kept_is_not_lost (sym (ap answers same ∙ unasked) ∙ lost)
    | inr differs ↦ are.memory is x (omega (arith, less, differs))
  ];
} where
  no_keep : (files : List File) → ReadsOrWrites files → sink_name files ≡ None →
      flat_map (keeps_as answers) (uses_of (t, files)) ≡ []
  no_keep files plain = by_plain (λ fs. sink_name fs ≡ None → flat_map (keeps_as answers) (uses_of (t, fs)) ≡ [])
      (λ none. refl) (λ name none. refl) (λ name none. absurd (let no : Some name ≡ None = none in cc)) files plain

pub answered_unopened : (plan : Plan) (t : ℕ) (answers : ℕ → KeepAnswer) (name : List ℕ) (kept : Kept) →
    t < length plan →
    get_or plan t [] ≡ Sink name ∷ [] → answers t ≡ WasKept → AreAnswered plan t answers kept →
    AreAnswered plan (t + 1) answers kept
answered_unopened plan t answers name kept within file unasked are = record {
  fault = are.fault ∙ ap first_fault (sym (ap (flat_map (keeps_as answers)) (uses-take plan t within
      ∙ ap (λ fs. uses (take t plan) ++ uses_of (t, fs)) file)
      ∙ flat_map-append (keeps_as answers) (uses (take t plan)) ((t, Sink name) ∷ [])
      ∙ ap (λ a. flat_map (keeps_as answers) (uses (take t plan)) ++ (call_fault t KeepCall (did_fail a) ++ [])) unasked
      ∙ append-nil (flat_map (keeps_as answers) (uses (take t plan)))));
  memory = λ is x less. elim (cases_eq x t) [
    | inl same ↦ λ lost. kept_is_not_lost (sym (ap answers same ∙ unasked) ∙ lost)
    | inr differs ↦ are.memory is x (omega (arith, less, differs))
  ];
}

-- no keep was answered yet
pub none_answered : (plan : Plan) (kept : Kept) → kept ≡ record { fault = Clean; memory = false } →
    AreAnswered plan 0 (λ t. WasKept) kept
none_answered plan kept is = record {
  fault = ap (λ k. k.fault) is;
  memory = λ none x less. absurd (omega (arith, less));
}
