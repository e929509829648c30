-- Where no count rose, each file was read as far as it counts, and its faults are those over the whole file.
use Rattle.std.proofs.Common.{◌≡◌, ◌<◌, ◌≤◌, ℕ, zero, suc, List, [], ◌∷◌, ◌++◌, length, take, Bool, true, false, refl, sym, ap, ◌∙◌, arith, inl, inr, length-append}
use Rattle.std.specs.Prelude.{Option, Some, ◌⊎◌, nat_lt, nat_le, if◌then◌else◌}
use Rattle.std.specs.FinMap as finite
use Rattle.std.proofs.lemmas.List.{take-append-le, append-nil}
use Rattle.std.proofs.lemmas.Bool.{leb-true, lt-ltb, le-leb}
use Rattle.osm_entity.specs.Meaning.{Finish, Wrong}
use Rattle.osm_entity.specs.declared.verdict.Cause.{Cause}
use Rattle.osm_entity.specs.declared.verdict.Spot.{Spot}
use Rattle.osm_host.specs.Contents.{Files}
use Rattle.osm_host.specs.declared.outside.Op.{Op}
use Rattle.osm_host.specs.declared.outside.Op.TheVariants.{Pull, Put, Keep as KeepOp}
use Rattle.osm_report.specs.declared.fault.Fault.{Fault}
use Rattle.osm_report.specs.declared.fault.Fault.TheVariants.{TooLong, Device, Input}
use Rattle.osm_report.specs.declared.fault.DeviceCall.{DeviceCall}
use Rattle.osm_report.specs.declared.fault.DeviceCall.TheVariants.{Read, Write, Keep, Spill}
use Rattle.osm_run.specs.Plan.{Polygon, Source, Store, Sink, Use}
use Rattle.osm_run.specs.Command.{Command}
use Rattle.osm_run.specs.Course.{Course, source_limit, meaning_of, call_fault, wrong_fault, opening_faults, file_faults, keep_faults}
use Rattle.osm_run.specs.OnHost.{IsAtRest, IsReadFrom, GivesFile}
use Rattle.osm_run.specs.HowFar.{HowRead, ReachedEnd, PassedLimit, PullFailed, WasWrong, WasUsed}
use Rattle.osm_run.specs.Lawful.{GoesOnAlike}
use Rattle.osm_run.specs.Headline.{content, IsWholeFile, IsWholeCourse, IsUnspilled}
use Rattle.osm_run.proofs.CleanLemmas.{no_bool, polygon_ended}
use Rattle.osm_run.proofs.CountedLemmas.{not_true, IsUnfailed}
use Rattle.osm_run.proofs.SameFirstLemmas.{SameFirst, same_none, same_one}

-- the first n of a list and more begin with the first n of the list
take_more : {A : Type 0} (n : ℕ) (xs ys : List A) → (zs : List A) × (take n (xs ++ ys) ≡ take n xs ++ zs)
take_more zero xs ys = ([], refl)
take_more (suc n) [] ys = (take (suc n) ys, refl)
take_more (suc n) (x ∷ xs) ys = let more = take_more n xs ys in (more.0, ap (λ zs. x ∷ zs) more.1)

-- tests of sizes, with the limit a variable
within_leb : (size limit : ℕ) → size ≤ limit → nat_le size limit ≡ true
within_leb size limit within = le-leb size limit within

past_leb : (size limit : ℕ) → limit < size → nat_le size limit ≡ false
past_leb size limit past = not_true (nat_le size limit) (λ is. omega (arith, past, leb-true size limit is))

-- files that are both too long, that both ended, or at which both or no call failed
long_case : (task : ℕ) (clean end long past : Bool) → clean ≡ false → end ≡ false → long ≡ true → past ≡ true →
    SameFirst (if clean then [] else (if long then TooLong task else Device task Read) ∷ [])
    (if end then [] else (if past then TooLong task else Device task Read) ∷ [])
long_case task true end long past p q r s = no_bool true refl p
long_case task false true long past p q r s = no_bool true refl q
long_case task false false false past p q r s = no_bool false r refl
long_case task false false true false p q r s = no_bool false s refl
long_case task false false true true p q r s = same_one (TooLong task) [] []

end_case : (task : ℕ) (clean end : Bool) (x y : Fault) → clean ≡ true → end ≡ true →
    SameFirst (if clean then [] else x ∷ []) (if end then [] else y ∷ [])
end_case task true true x y p q = same_none
end_case task true false x y p q = no_bool false q refl
end_case task false end x y p q = no_bool false p refl

call_case : (task : ℕ) (call : DeviceCall) (b e : Bool) → b ≡ false → e ≡ false →
    SameFirst (call_fault task call b) (call_fault task call e)
call_case task call true e p q = no_bool true refl p
call_case task call false true p q = no_bool true refl q
call_case task call false false p q = same_none

wrong_some : (task : ℕ) (finish : Finish) (cause : Cause) (spot : Spot) → finish ≡ Wrong cause spot →
    wrong_fault task finish ≡ [] → ⊥
wrong_some task finish cause spot is none =
    let no : Input task cause spot ∷ [] ≡ [] = sym (ap (wrong_fault task) is) ∙ none in cc

-- what came from a file begins its content, and is all of it where its end came
record Begins (bytes : List ℕ) (clean : Bool) (file : Option (List ℕ)) : Type 0 where
  rest : List ℕ
  joined : content file ≡ bytes ++ rest
  whole : clean ≡ true → content file ≡ bytes

begins : (c : Course) (task : ℕ) (file : Option (List ℕ)) →
    IsAtRest c task ⊎ IsReadFrom (c.given task) (c.clean task) file → Begins (c.given task) (c.clean task) file
begins c task file (inl rest) = record {
  rest = content file;
  joined = sym (ap (λ bytes. bytes ++ content file) rest.given);
  whole = λ is. no_bool (c.clean task) is rest.clean;
}
begins c task file (inr read) = record {
  rest = read.rest;
  joined = ap content read.there;
  whole = λ is. ap content read.there ∙ ap (λ rest. c.given task ++ rest) (read.whole is)
      ∙ append-nil (c.given task);
}

-- a file against its whole: its bytes go on, and its faults begin alike unless its task is wrong
pub record IsMatched (k : Command) (c whole : Course) (u : Use) : Type 0 where
  pub goes_on : GoesOnAlike k (λ task. take source_limit (c.given task)) (λ task. take source_limit (whole.given task))
      c.clean whole.clean u
  pub first : (wrong_fault u.0 ((meaning_of k c).finish u.0) ≡ [] →
      SameFirst (file_faults c u.0 u.1) (file_faults whole u.0 u.1))

source_case : (k : Command) (c whole : Course) (task : ℕ) (name : List ℕ) (file : Option (List ℕ)) →
    Begins (c.given task) (c.clean task) file → c.failed Pull task ≡ false → whole.given task ≡ content file →
    whole.clean task ≡ nat_le (length (whole.given task)) source_limit →
    HowRead c task source_limit ((meaning_of k c).finish task) → IsMatched k c whole (task, Source name)
source_case k c whole task name file read pulled given clean (ReachedEnd is_clean unfailed within) =
    let same : whole.given task ≡ c.given task = given ∙ read.whole is_clean in
    let end : whole.clean task ≡ true = clean ∙ ap (λ bytes. nat_le (length bytes) source_limit) same
    ∙ within_leb (length (c.given task)) source_limit within in
    record {
      goes_on = inl (ap (take source_limit) same, end ∙ sym is_clean);
      first = λ right. end_case task (c.clean task) (whole.clean task) _ _ is_clean end;
    }
source_case k c whole task name file read pulled given clean (PassedLimit is_cut unfailed past) =
    let joined : whole.given task ≡ c.given task ++ read.rest = given ∙ read.joined in
    let longer : source_limit < length (whole.given task) =
    omega (arith, past, ap (λ bytes. length bytes) joined, length-append (c.given task) read.rest) in
    let end : whole.clean task ≡ false = clean ∙ past_leb (length (whole.given task)) source_limit longer in
    record {
      goes_on = inl (
        ap (take source_limit) joined ∙ take-append-le source_limit (c.given task) read.rest
            (omega (arith, past)),
        end ∙ sym is_cut,
      );
      first = λ right. long_case task (c.clean task) (whole.clean task) (nat_lt source_limit (length (c.given task)))
          (nat_lt source_limit (length (whole.given task))) is_cut end
          (lt-ltb source_limit (length (c.given task)) past)
          (lt-ltb source_limit (length (whole.given task)) longer);
    }
source_case k c whole task name file read pulled given clean (PullFailed is_cut failed small) =
    no_bool (c.failed Pull task) failed pulled
source_case k c whole task name file read pulled given clean (WasWrong cause spot is_cut wrong) =
    let joined : whole.given task ≡ c.given task ++ read.rest = given ∙ read.joined in
    let more = take_more source_limit (c.given task) read.rest in
    record {
      goes_on = inr (record {
        cause = cause;
        spot = spot;
        rest = more.0;
        wrong = wrong;
        cut = is_cut;
        joined = ap (take source_limit) joined ∙ more.1;
      });
      first = λ right. absurd (wrong_some task ((meaning_of k c).finish task) cause spot wrong right);
    }

-- what is known of a file of a run whose tasks ran without a failed call
pub record IsCalm (k : Command) (c whole : Course) (files : Files) (u : Use) : Type 0 where
  pub opening : opening_faults k c u ≡ []
  pub used : WasUsed k c u
  pub gives : GivesFile (Some files) c u
  pub unfailed : IsUnfailed c u
  pub unspilled : IsUnspilled c u
  pub file : IsWholeFile files whole u

pub calm_matched : (k : Command) (c whole : Course) (files : Files) → IsWholeCourse k files whole → (u : Use) →
    IsCalm k c whole files u → IsMatched k c whole u
calm_matched k c whole files w (task, Polygon name) calm =
    let same : whole.given task ≡ c.given task = calm.file
    ∙ (begins c task (finite.get files name) calm.gives).whole (polygon_ended k c task name calm.opening) in
    record { goes_on = ap (take source_limit) same; first = λ right. same_none }
calm_matched k c whole files w (task, Source name) calm =
    source_case k c whole task name (finite.get files name) (begins c task (finite.get files name) calm.gives)
    (calm.unfailed.each Pull refl) calm.file.0 calm.file.1 calm.used
calm_matched k c whole files w (task, Store) calm = record {
  goes_on = tt;
  first = λ right. call_case task Spill (c.spilled task) (whole.spilled task) calm.unspilled.1 (w.spilled task);
}
calm_matched k c whole files w (task, Sink name) calm = record {
  goes_on = tt;
  first = λ right. call_case task Write (c.failed Put task) (whole.failed Put task) (calm.unfailed.each Put refl)
      (w.failed Put task);
}

-- no keep failed
pub same_keep : (c whole : Course) (u : Use) → IsUnfailed c u → ((op : Op) (task : ℕ) → whole.failed op task ≡ false) →
    SameFirst (keep_faults c u) (keep_faults whole u)
same_keep c whole (task, Polygon name) is w = same_none
same_keep c whole (task, Source name) is w = same_none
same_keep c whole (task, Store) is w = same_none
same_keep c whole (task, Sink name) is w =
    call_case task Keep (c.failed KeepOp task) (whole.failed KeepOp task) (is.each KeepOp refl) (w KeepOp task)
