-- What one pull of a source gave its reader, for readers of any format.
use Rattle.std.proofs.Common.{◌≡◌, ℕ, ◌+◌, ◌-◌, ◌^◌, ◌<◌, ◌≤◌, List, [], ◌∷◌, length, refl, sym, ap, ◌∙◌, subst, arith, ◌++◌, append_assoc}
use Rattle.std.specs.Prelude.{Option, Some, None, min}
use Rattle.std.specs.Io.KnownBytes.{prepend_known, IsAtEnd}
use Rattle.std.proofs.lemmas.List.{length-append}
use Rattle.osm_host.specs.Counts.{Rises, last_count, raised}
use Rattle.osm_host.specs.Feeds.{feed_after}
use Rattle.osm_host.specs.Pulls.{FeedValue, FitsPull, PullGave, SourceGave, SourceValue, piece_size}
use Rattle.osm_host.specs.declared.feed.Feed.TheVariants.{Failed}
use Rattle.osm_host.proofs.FeedLemmas.{after_pull, ended_after, faults_after}

-- a list without elements
no_bytes : (bytes : List ℕ) → length bytes ≡ 0 → bytes ≡ []
no_bytes [] none = refl
no_bytes (byte ∷ bytes) none = absurd (omega arith)

-- the bytes of a pull fit what it says of them
fits_pull : (bytes : List ℕ) (room : ℕ) → FitsPull (feed_after (length bytes) room) room bytes
fits_pull bytes room =
    after_pull (λ feed. FitsPull feed room bytes) (length bytes) room (no_bytes bytes) (λ some past. past)
    (λ some within. (some, within))

-- no bytes before some
pub prepend-nil : (o : Option (List ℕ)) → prepend_known [] o ≡ o
prepend-nil None = refl
prepend-nil (Some bytes) = refl

-- a pull that answered, by what its source says
pub pull_gave : (before now : SourceValue) (old new : FeedValue) (bytes : List ℕ) → old.given ≤ old.limit →
    old.limit < 2 ^ 64 → length bytes ≤ piece_size → before.rest ≡ prepend_known bytes now.rest →
    now.given ≡ raised before.given (length bytes) → (length bytes ≡ 0 → IsAtEnd now.rest) →
    now.faults ≡ before.faults → new.given ≡ min (old.given + length bytes) last_count →
    new.feed ≡ feed_after (length bytes) (old.limit - old.given) → PullGave before now old new bytes
pull_gave before now old new bytes within sized small told gave ended faults is feed_is = record {
  source = record { told = told; counted = gave };
  counted = omega (arith, is, within, sized);
  fits = subst (λ feed. FitsPull feed (old.limit - old.given) bytes) (sym feed_is)
      (fits_pull bytes (old.limit - old.given));
  small = small;
  ended = λ over. ended (ended_after (length bytes) (old.limit - old.given) (sym feed_is ∙ over));
  faults = rw feed_is (faults_after (length bytes) (old.limit - old.given) before.faults now.faults faults);
}

-- bytes before bytes that are before some
pub prepend-more : (a b : List ℕ) (o : Option (List ℕ)) →
    prepend_known a (prepend_known b o) ≡ prepend_known (a ++ b) o
prepend-more a b None = refl
prepend-more a b (Some bytes) = ap Some (sym (append_assoc a b bytes))

-- no byte raises no count
raised-none : (count : ℕ) → count ≡ raised count 0
raised-none count = omega arith

-- at first a source gave nothing
pub source_gave-nil : (source : SourceValue) → SourceGave source source []
source_gave-nil source = record {
  told = sym (prepend-nil source.rest);
  counted = raised-none source.given;
}

-- what a source gave, and what it gave then
pub source_gave-more : (first mid now : SourceValue) (bytes more : List ℕ) → SourceGave first mid bytes →
    SourceGave mid now more → SourceGave first now (bytes ++ more)
source_gave-more first mid now bytes more one two = record {
  told = one.told ∙ ap (prepend_known bytes) two.told ∙ prepend-more bytes more now.rest;
  counted = omega (arith, one.counted, two.counted, length-append bytes more);
}

-- a pull that failed gave nothing
pub pull_failed : (before now : SourceValue) (old new : FeedValue) → now.rest ≡ before.rest →
    now.given ≡ before.given → Rises before.faults now.faults → new.given ≡ old.given → new.feed ≡ Failed →
    PullGave before now old new []
pull_failed before now old new left idle rises same is = record {
  source = record {
    told = sym (prepend-nil now.rest ∙ left);
    counted = idle ∙ raised-none before.given;
  };
  counted = same ∙ raised-none old.given;
  fits = rw is refl;
  small = omega arith;
  ended = λ over. let e : Failed ≡ _ = sym is ∙ over in cc;
  faults = rw is rises;
}
