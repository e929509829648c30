-- What closed devices tell of what their files gave, and of what the files hold.
use Rattle.std.proofs.Common.{◌≡◌, ℕ, suc, ◌+◌, ◌<◌, List, [], ◌∷◌, length, take, get_or, Bool, true, false, cond, ◌||◌, refl, sym, ap, subst, ◌∙◌, arith, inr, add-zero}
use Rattle.std.specs.Prelude.{IsSome, Option, Some, None, filter, sum_by}
use Rattle.std.specs.List.{AllByRecursion, list_any}
use Rattle.std.specs.Io.KnownBytes.{prepend_known, IsAtEnd}
use Rattle.std.proofs.Math.Seq.{take-append_seam}
use Rattle.std.proofs.lemmas.List.Sums.{sum_by-append, sum_by-cons}
use Rattle.osm_entity.specs.Machines.{WroteAll, WrotePrefix}
use Rattle.osm_entity.specs.Meaning.{Meaning}
use Rattle.osm_entity.specs.Prefixes.{IsPrefix}
use Rattle.osm_host.specs.Contents.{Files}
use Rattle.osm_host.specs.Counts.{raised}
use Rattle.osm_machine.specs.Devices.{SourceSeen}
use Rattle.osm_machine.specs.Sinks.{SinkSeen}
use Rattle.osm_run.specs.Plan.{File, Plan, Polygon, Sink, Source, Store, Use, is_sink, is_source, openings, uses, uses_of}
use Rattle.osm_run.specs.Course.{Course, given_under}
use Rattle.osm_run.specs.OnHost.{GivesFile, IsReadFrom}
use Rattle.osm_run.specs.HowFar.{IsFileOf}
use Rattle.osm_run.specs.Went.{DeviceSeen, DeviceTells, NoDevice, SeenSink, SeenSource, SinkTells, SourceTells, device_at}
use Rattle.osm_run.specs.Opened.{IsNewSink, IsNewSource, IsOpenedAs, ReadsOrWrites}
use Rattle.osm_run.specs.Closed.{HadNoMemory, HasFailed, IsKeptAs, KeepAnswer, WasKept, did_fail, gave_under}
use Rattle.osm_run.proofs.CallLemmas.{raised-raised}
use Rattle.osm_run.proofs.ClosedCountLemmas.{any_before}
use Rattle.osm_run.proofs.UsesLemmas.{by_plain, each_plain, openings_are, uses_from}

-- what holds of the devices of a task as it was opened and as it is closed, by its file
pub by_told : (c : Course) (m : Meaning) (memory : Bool) (files : Option Files) (t : ℕ)
    (P : List File → DeviceSeen → DeviceSeen → Type 0) → P [] NoDevice NoDevice →
    ((name : List ℕ) (opened now : SourceSeen) → IsNewSource files name opened → SourceTells c t opened now →
    P (Source name ∷ []) (SeenSource opened) (SeenSource now)) →
    ((name : List ℕ) (opened now : SinkSeen) → IsNewSink files name opened → SinkTells c m memory t opened now →
    P (Sink name ∷ []) (SeenSink opened) (SeenSink now)) →
    (fs : List File) (a b : DeviceSeen) → ReadsOrWrites fs → IsOpenedAs files fs a → DeviceTells c m memory t a b →
    P fs a b
by_told c m memory files t P none source sink fs a b plain =
    by_plain (λ gs. IsOpenedAs files gs a → DeviceTells c m memory t a b → P gs a b)
    (as_none a b) (λ name. as_source name a b) (λ name. as_sink name a b) fs plain where
      as_none : (a b : DeviceSeen) → IsOpenedAs files [] a → DeviceTells c m memory t a b → P [] a b
      as_none NoDevice NoDevice is told = none
      as_none NoDevice (SeenSource s) is told = absurd told
      as_none NoDevice (SeenSink k) is told = absurd told
      as_none (SeenSource s) b is told = absurd is
      as_none (SeenSink k) b is told = absurd is

      as_source : (name : List ℕ) (a b : DeviceSeen) → IsOpenedAs files (Source name ∷ []) a →
          DeviceTells c m memory t a b → P (Source name ∷ []) a b
      as_source name NoDevice b is told = absurd is
      as_source name (SeenSource s) NoDevice is told = absurd told
      as_source name (SeenSource s) (SeenSource u) is told = source name s u is told
      as_source name (SeenSource s) (SeenSink u) is told = absurd told
      as_source name (SeenSink k) b is told = absurd is

      as_sink : (name : List ℕ) (a b : DeviceSeen) → IsOpenedAs files (Sink name ∷ []) a →
          DeviceTells c m memory t a b → P (Sink name ∷ []) a b
      as_sink name NoDevice b is told = absurd is
      as_sink name (SeenSource s) b is told = absurd is
      as_sink name (SeenSink k) NoDevice is told = absurd told
      as_sink name (SeenSink k) (SeenSource u) is told = absurd told
      as_sink name (SeenSink k) (SeenSink u) is told = sink name k u is told

-- tests of the files that were opened agree where they agree on all files
any_same : (plan : Plan) (test other : Use → Bool) → AllByRecursion (λ u. test u ≡ other u) (openings plan) →
    list_any test (openings plan) ≡ list_any other (openings plan)
any_same plan test other same = any_before test other (openings plan) same

-- a sum over all sources and all sinks is that over all files
sums_apart : (f : Use → ℕ) (us : List Use) → AllByRecursion (λ u. (is_source u || is_sink u) ≡ true) us →
    sum_by f (filter is_source us) + sum_by f (filter is_sink us) ≡ sum_by f us
sums_apart f [] plain = refl
sums_apart f ((t, Polygon name) ∷ us) plain = absurd (let no : false ≡ true = plain.0 in cc)
sums_apart f ((t, Store) ∷ us) plain = absurd (let no : false ≡ true = plain.0 in cc)
sums_apart f ((t, Source name) ∷ us) plain = omega (
  arith,
  sums_apart f us plain.1,
  sum_by-cons f (t, Source name) (filter is_source us),
  sum_by-cons f (t, Source name) us,
)
sums_apart f ((t, Sink name) ∷ us) plain = omega (
  arith,
  sums_apart f us plain.1,
  sum_by-cons f (t, Sink name) (filter is_sink us),
  sum_by-cons f (t, Sink name) us,
)

pub sum_opened : (f : Use → ℕ) (plan : Plan) → AllByRecursion ReadsOrWrites plan →
    sum_by f (openings plan) ≡ sum_by f (uses plan)
sum_opened f plan plain = ap (sum_by f) (openings_are plan plain)
    ∙ sum_by-append f (filter is_source (uses plan)) (filter is_sink (uses plan))
    ∙ sums_apart f (uses plan) (each_plain (λ u. (is_source u || is_sink u) ≡ true) plan plain (λ t name. refl)
    (λ t name. refl))

-- counts raised by devices, and by what their files gave
pub raised_alike : (c : Course) (n : List ℕ) (t : ℕ) (plan : Plan) (devices : List DeviceSeen) →
    length devices ≡ length plan →
    ((x : ℕ) → x < length plan → (before : ℕ) → raised before (gave_under n (device_at devices x))
    ≡ raised before (sum_by (given_under c n) (uses_of (t + x, get_or plan x [])))) → (before : ℕ) →
    raised before (sum_by (gave_under n) devices) ≡ raised before (sum_by (given_under c n) (uses_from t plan))
raised_alike c n t [] [] count each before = refl
raised_alike c n t [] (d ∷ devices) count each before = absurd (omega (arith, count))
raised_alike c n t (files ∷ plan) [] count each before = absurd (omega (arith, count))
raised_alike c n t (files ∷ plan) (d ∷ devices) count each before =
    let here : ℕ = sum_by (given_under c n) (uses_of (t, files)) in
    ap (raised before) (sum_by-cons (gave_under n) d devices)
    ∙ sym (raised-raised before (gave_under n d) (sum_by (gave_under n) devices))
    ∙ ap (λ b. raised b (sum_by (gave_under n) devices)) (each 0 (omega arith) before
    ∙ ap (λ k. raised before (sum_by (given_under c n) (uses_of (k, files)))) (add-zero t))
    ∙ raised_alike c n (t + 1) plan devices (omega (arith, count)) (λ x within b.
    each (suc x) (omega (arith, within)) b
    ∙ ap (λ k. raised b (sum_by (given_under c n) (uses_of (k, get_or plan x []))))
    (let e : t + suc x ≡ t + 1 + x = omega arith in e)) (raised before here)
    ∙ raised-raised before here (sum_by (given_under c n) (uses_from (t + 1) plan))
    ∙ ap (raised before) (sym (sum_by-append (given_under c n) (uses_of (t, files)) (uses_from (t + 1) plan)))

-- a file whose source gave these bytes begins with them
pub reads_from : (file bytes : List ℕ) (clean : Bool) (rest : Option (List ℕ)) → Some file ≡ prepend_known bytes rest →
    (clean ≡ true → IsAtEnd rest) → IsReadFrom bytes clean (Some file)
reads_from file bytes clean None told ended = absurd (let no : Some file ≡ None = told in cc)
reads_from file bytes clean (Some left) told ended = record { rest = left; there = told; whole = ended }

pub gives_told : (told : Option Files) (c : Course) (t : ℕ) (name : List ℕ) (opened now : SourceSeen) →
    IsNewSource told name opened → SourceTells c t opened now → GivesFile told c (t, Source name)
gives_told None c t name opened now new tells = tt
gives_told (Some files) c t name opened now new tells =
    inr (subst (IsReadFrom (c.given t) (c.clean t)) (sym new.rest.1)
    (reads_from new.rest.0 (c.given t) (c.clean t) now.value.rest (sym new.rest.2 ∙ tells.gave.told) tells.ended))

-- the bytes of a source are counted up to the last number
pub given_alike : (before opened given len : ℕ) → opened ≡ 0 → given ≡ raised opened len → (b : Bool) →
    raised before (cond b given 0) ≡ raised before (cond b len 0 + 0)
given_alike before opened given len none is true = omega (arith, none, is)
given_alike before opened given len none is false = refl

-- a prefix is the first bytes
prefix_is : (taken bytes : List ℕ) → IsPrefix taken bytes → taken ≡ take (length taken) bytes
prefix_is taken bytes is = sym (take-append_seam taken is.rest) ∙ ap (take (length taken)) (sym is.joined)

told_some : (taken : Option (List ℕ)) → IsSome taken → (bytes : List ℕ) × (taken ≡ Some bytes)
told_some None is = absurd (let no : false ≡ true = is in cc)
told_some (Some bytes) is = (bytes, refl)

-- the file of a sink after its keep
pub written_file : (bytes : List ℕ) (short failed : Bool) (answer : KeepAnswer) (taken : Option (List ℕ))
    (was now : Option (List ℕ)) → failed ≡ did_fail answer → IsSome taken → was ≡ Some [] →
    (answer ≡ HadNoMemory → short ≡ true) → WrotePrefix taken bytes → (short ≡ false → WroteAll taken bytes) →
    IsKeptAs answer taken was now → IsFileOf bytes short failed now
written_file bytes short failed HasFailed taken was now is told made lost some all kept =
    subst (λ b. IsFileOf bytes short b now) (sym is) (any_file short) where
      any_file : (b : Bool) → IsFileOf bytes b true now
      any_file true = tt
      any_file false = tt
written_file bytes short failed HadNoMemory taken was now is told made lost some all kept =
    subst (λ b. IsFileOf bytes short b now) (sym is)
    (subst (λ b. IsFileOf bytes b false now) (sym (lost refl)) (0, same taken kept ∙ made)) where
      same : (o : Option (List ℕ)) → IsKeptAs HadNoMemory o was now → now ≡ was
      same None kept = kept
      same (Some x) kept = kept
written_file bytes short failed WasKept taken was now is told made lost some all kept =
    let took : (x : List ℕ) × (taken ≡ Some x) = told_some taken told in
    let file : now ≡ Some took.0 = subst (λ o. IsKeptAs WasKept o was now) took.1 kept in
    subst (λ b. IsFileOf bytes short b now) (sym is)
    (by_short took.0 short file (subst (λ o. WrotePrefix o bytes) took.1 some)
    (λ whole. subst (λ o. WroteAll o bytes) took.1 (all whole))) where
      by_short : (x : List ℕ) (b : Bool) → now ≡ Some x → IsPrefix x bytes → (b ≡ false → x ≡ bytes) →
          IsFileOf bytes b false now
      by_short x true file first whole = (length x, file ∙ ap Some (prefix_is x bytes first))
      by_short x false file first whole = file ∙ ap Some (whole refl)
