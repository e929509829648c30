-- What the reading of a polygon file comes to, from the calls that it makes.
use Rattle.std.proofs.Common.{◌≡◌, ℕ, ◌+◌, List, [], ◌∷◌, ◌++◌, length, take, drop, Bool, true, false, ◌&&◌, inl, inr, refl, sym, ap, subst, ◌∙◌, append_assoc, take-add, arith}
use Rattle.std.specs.Prelude.{IfErr, IfOk, Option, Some, None, Result, Ok, Err, if◌then◌else◌}
use Rattle.std.specs.Io.KnownBytes.{IsAtEnd, prepend_known}
use Rattle.std.specs.Str.{bytes_eq}
use Rattle.std.proofs.lemmas.List.{length-append}
use Rattle.osm_area.specs.declared.area.Area.{Area}
use Rattle.osm_host.specs.Contents.{Files, IsContent}
use Rattle.osm_host.specs.Counts.{Adds, Counts, GaveOnly, SameCounts, is_at, raised}
use Rattle.osm_host.specs.Moments.{Moment}
use Rattle.osm_host.specs.Pulls.{SourceGave, SourceValue}
use Rattle.osm_host.specs.declared.outside.Op.{Op}
use Rattle.osm_host.specs.declared.outside.Op.TheVariants.{Pull}
use Rattle.osm_machine.specs.Devices.{SourceSeen}
use Rattle.osm_poly.specs.Poly.{poly}
use Rattle.osm_report.specs.declared.fault.Fault.{Fault}
use Rattle.osm_run.specs.OnHost.{CountsBy, IsReadFrom, SameNames}
use Rattle.osm_run.specs.Opened.{SourceIsOpen}
use Rattle.osm_run.specs.Polygons.{FileWasRead, IsReadFault, IsReadWhereTold, NotPulled, PolygonWasRead, PolygonWasRefused, RanOutOfMemory, SaidNoArea, SourceWasRead, WasLonger, has_ended, has_failed}
use Rattle.osm_run.specs.declared.areas.ReadEnd.{ReadEnd}
use Rattle.osm_run.specs.declared.areas.ReadEnd.TheVariants.{Ended, NoRoom, PastLimit, Refused}
use Rattle.osm_run.proofs.CallLemmas.{raised_by, there_by}
use Rattle.osm_run.proofs.ToldFileLemmas.{reads_from}

-- a source gave these bytes and then those
pub gave_both : (before middle now : SourceValue) (bytes more : List ℕ) → SourceGave before middle bytes →
    SourceGave middle now more → SourceGave before now (bytes ++ more)
gave_both before middle now bytes more first next = record {
  told = first.told ∙ ap (prepend_known bytes) next.told ∙ prepended bytes more now.rest;
  counted = next.counted ∙ ap (λ n. raised n (length more)) first.counted
      ∙ both before.given (length bytes) (length more) (length (bytes ++ more)) (length-append bytes more);
}
  where
    prepended : (xs ys : List ℕ) (rest : Option (List ℕ)) →
        prepend_known xs (prepend_known ys rest) ≡ prepend_known (xs ++ ys) rest
    prepended xs ys None = refl
    prepended xs ys (Some zs) = ap (λ all. Some all) (sym (append_assoc xs ys zs))

    both : (g a b c : ℕ) → c ≡ a + b → raised (raised g a) b ≡ raised g c
    both g a b c is = omega (arith, is)

-- a source gave the first bytes of a buffer, and then those behind them
pub gave_more : (before middle now : SourceValue) (old new : List ℕ) (count more : ℕ) →
    SourceGave before middle (take count old) → SourceGave middle now (take more (drop count new)) →
    take count new ≡ take count old → SourceGave before now (take (count + more) new)
gave_more before middle now old new count more first next same =
    subst (SourceGave before now)
    (ap (λ xs. xs ++ take more (drop count new)) (sym same) ∙ sym (take-add count more new))
    (gave_both before middle now (take count old) (take more (drop count new)) first next)

-- what was read under a name, where files are told
told_read : (files : Option Files) (name bytes : List ℕ) (clean : Bool) (was now : Option (List ℕ)) →
    IsContent files name was → was ≡ prepend_known bytes now → (clean ≡ true → IsAtEnd now) →
    IsReadWhereTold files name bytes clean
told_read None name bytes clean was now content told ended = tt
told_read (Some files) name bytes clean was now content told ended =
    subst (IsReadFrom bytes clean) (sym content.1)
    (reads_from content.0 bytes clean now (sym content.2 ∙ told) ended)

-- the counts after a close, by whether a pull failed
counts_closed : (name : List ℕ) (failed : Bool) (none faults : ℕ) (before middle now : Counts) → none ≡ 0 →
    CountsBy failed none faults → SameCounts before middle → Adds Pull name faults middle now → (o : Op) (n : List ℕ) →
    CountsBy (failed && is_at Pull name o n) (before o n) (now o n)
counts_closed name failed none faults before middle now zero by same adds o n =
    here (is_at Pull name o n) (adds o n ∙ ap (λ m. if is_at Pull name o n then raised m faults else m) (same o n))
  where
    and_true : (b : Bool) → (b && true) ≡ b
    and_true true = refl
    and_true false = refl

    never : (b : Bool) → (b && false) ≡ false
    never true = refl
    never false = refl

    here : (b : Bool) → now o n ≡ (if b then raised (before o n) faults else before o n) →
        CountsBy (failed && b) (before o n) (now o n)
    here true is = subst (λ b. CountsBy b (before o n) (now o n))
        (there_by failed none faults zero by ∙ sym (and_true failed)) (raised_by faults (before o n) (now o n) is)
    here false is = subst (λ b. CountsBy b (before o n) (now o n)) (sym (never failed)) is

-- a polygon file that was opened, read and closed
pub file_was_read : (name : List ℕ) (before middle after : Moment) (opened now : SourceSeen) (bytes : List ℕ)
    (end : ReadEnd) → SourceIsOpen name before middle opened → SourceWasRead opened.value now.value bytes end →
    after.files ≡ middle.files → Adds Pull name now.value.faults middle.count after.count →
    GaveOnly name now.value.given middle.gave after.gave → after.known ≡ middle.known →
    FileWasRead name before after bytes end
file_was_read name before middle after opened now bytes end is read files counts gave known = record {
  files = files ∙ is.files;
  told = told_read before.files name bytes (has_ended end) opened.value.rest now.value.rest is.is_new.rest
      read.gave.told read.ended;
  fits = read.fits;
  counts = counts_closed name (has_failed end) opened.value.faults now.value.faults before.count middle.count
      after.count is.is_new.faults read.pulls is.counts counts;
  gave = λ n. gave n ∙ ap (λ g. if bytes_eq n name then raised g now.value.given else g) (is.gave n)
      ∙ given_by (bytes_eq n name) (before.gave n);
  known = subst (λ ks. SameNames ks (before.known ++ name ∷ [])) (sym known) is.known;
}
  where
    given_by : (b : Bool) (g : ℕ) →
        (if b then raised g now.value.given else g) ≡ (if b then raised g (length bytes) else g)
    given_by true g =
        let none : opened.value.given ≡ 0 = is.is_new.given in
        let counted : now.value.given ≡ raised opened.value.given (length bytes) = read.gave.counted in
        omega (arith, none, counted)
    given_by false g = refl

-- ---- what a file that was read says

-- the area of a file, by what is answered of its bytes
pub area_was_read : (name : List ℕ) (before now : Moment) (bytes : List ℕ) (end : ReadEnd)
    (result : Result Area Fault) → FileWasRead name before now bytes end →
    IfOk result (λ area. (end ≡ Ended) × (poly bytes ≡ Ok area)) → IfOk result (PolygonWasRead name before now)
area_was_read name before now bytes end (Ok area) read is = record {
  bytes = bytes;
  read = subst (FileWasRead name before now bytes) is.0 read;
  says = is.1;
}
area_was_read name before now bytes end (Err fault) read is = tt

-- why there is none, by how the reading ended
refused_as : (task : ℕ) (name : List ℕ) (before now : Moment) (bytes : List ℕ) (end : ReadEnd) (fault : Fault) →
    FileWasRead name before now bytes end → IsReadFault task end bytes fault →
    PolygonWasRefused task name before now fault
refused_as task name before now bytes Ended fault read (inl memory) = RanOutOfMemory bytes Ended read memory
refused_as task name before now bytes Ended fault read (inr said) =
    SaidNoArea bytes said.0 read said.1 said.2
refused_as task name before now bytes Refused fault read is = NotPulled bytes read is
refused_as task name before now bytes PastLimit fault read is = WasLonger bytes read is
refused_as task name before now bytes NoRoom fault read is = RanOutOfMemory bytes NoRoom read is

pub area_was_refused : (task : ℕ) (name : List ℕ) (before now : Moment) (bytes : List ℕ) (end : ReadEnd)
    (result : Result Area Fault) → FileWasRead name before now bytes end →
    IfErr result (IsReadFault task end bytes) → IfErr result (PolygonWasRefused task name before now)
area_was_refused task name before now bytes end (Ok area) read is = tt
area_was_refused task name before now bytes end (Err fault) read is =
    refused_as task name before now bytes end fault read is
