-- Lemmas on how it stands with the source of a reader, for readers of any format.
use Rattle.std.proofs.Common.{◌≡◌, ℕ, ◌+◌, ◌-◌, ◌^◌, ◌<◌, ◌≤◌, List, [], ◌++◌, length, take, Bool, true, false, refl, sym, ap, ◌∙◌, arith, eqb-true}
use Rattle.std.specs.Prelude.{nat_lt, ◌==◌, ◌≢◌, if◌then◌else◌}
use Rattle.std.proofs.lemmas.Bool.{cond_both, eqb-false, ltb-true, ltb-false, lt-ltb, le-ltb}
use Rattle.std.proofs.lemmas.List.{take_all}
use Rattle.std.proofs.Math.Seq.{take-append-add}
use Rattle.osm_entity.specs.Readings.{ending_of, verdict_read}
use Rattle.osm_entity.specs.declared.verdict.Verdict.TheVariants.{Running}
use Rattle.osm_host.specs.Counts.{raised}
use Rattle.osm_host.specs.Feeds.{FaultsOfPull, FitsFeed, MayCome, feed_after, reached_end, verdict_after}
use Rattle.osm_host.specs.declared.feed.Feed.{Feed}
use Rattle.osm_host.specs.declared.feed.Feed.TheVariants.{Open, Ended, Failed, TooLong}

-- a count that isn't 0
positive : (count : ℕ) → (count == 0) ≡ false → 0 < count
positive count some = omega (arith, eqb-false count 0 some)

-- what holds of each way in which it may stand after a pull
pub after_pull : (P : Feed → Type 0) (count room : ℕ) → (count ≡ 0 → P Ended) → (0 < count → room < count → P TooLong) →
    (0 < count → count ≤ room → P Open) → P (feed_after count room)
after_pull P count room ended long open_ =
    cond_both (count == 0) Ended (if nat_lt room count then TooLong else Open) P
    (λ none. ended (eqb-true count 0 none))
    (λ some. cond_both (nat_lt room count) TooLong Open P
    (λ past. long (positive count some) (ltb-true room count past))
    (λ within. open_ (positive count some) (ltb-false room count within)))

-- a pull that gave a count of bytes fits what it says of the limit
pub fits_after : (given limit count : ℕ) → given ≤ limit →
    FitsFeed (feed_after count (limit - given)) limit (given + count)
fits_after given limit count within =
    after_pull (λ feed. FitsFeed feed limit (given + count)) count (limit - given) (λ none. omega arith)
    (λ some past. omega arith) (λ some fit. omega arith)

-- a pull that answers doesn't count as a fault
pub faults_after : (count room before now : ℕ) → now ≡ before → FaultsOfPull (feed_after count room) before now
faults_after count room before now same =
    after_pull (λ feed. FaultsOfPull feed before now) count room (λ _. same) (λ _ _. same) (λ _ _. same)

-- after a pull it stands as at the end only where no byte came
pub ended_after : (count room : ℕ) → feed_after count room ≡ Ended → count ≡ 0
ended_after count room =
    after_pull (λ feed. feed ≡ Ended → count ≡ 0) count room (λ none _. none) (λ _ _ e. cc) (λ _ _ e. cc)

-- after a pull more may come only where some bytes came, and not too many
pub open_after : (count room : ℕ) → feed_after count room ≡ Open → (0 < count) × (count ≤ room)
open_after count room =
    after_pull (λ feed. feed ≡ Open → (0 < count) × (count ≤ room)) count room (λ _ e. cc) (λ _ _ e. cc)
    (λ some fit _. (some, fit))

-- the end came only where it stands so
pub reached_end-true : (feed : Feed) → reached_end feed ≡ true → feed ≡ Ended
reached_end-true Open over = cc
reached_end-true Ended over = refl
reached_end-true Failed over = cc
reached_end-true TooLong over = cc

-- nothing more may come, where the end is as it stands with the source
pub may_end : (feed : Feed) (came : Bool) → came ≡ reached_end feed → MayCome feed [] came
may_end Open came is = tt
may_end Ended came is = (refl, is)
may_end Failed came is = (refl, is)
may_end TooLong came is = (refl, is)

-- the verdict where nothing is left is that of a reading without a wrong place
pub verdict_settled : (feed : Feed) (limit count : ℕ) → (verdict_after feed ≡ Running → ⊥) →
    FitsFeed feed limit count → verdict_after feed ≡ verdict_read limit count (ending_of (reached_end feed))
verdict_settled Open limit count not fits = absurd (not refl)
verdict_settled Ended limit count not fits = refl
verdict_settled Failed limit count not fits = rw (le-ltb limit count fits) refl
verdict_settled TooLong limit count not fits = rw (lt-ltb limit count fits) refl

-- a source that is done with, without its end and within the limit, failed
pub failed_by : (feed : Feed) (limit count : ℕ) → reached_end feed ≡ false → FitsFeed feed limit count → feed ≢ Open →
    count ≤ limit → feed ≡ Failed
failed_by Open limit count ends fits stopped within = absurd (stopped refl)
failed_by Ended limit count ends fits stopped within = cc
failed_by Failed limit count ends fits stopped within = refl
failed_by TooLong limit count ends fits stopped within = absurd (omega (arith, fits, within))

-- a source that gave more than the limit gave too much
pub long_by : (feed : Feed) (limit count : ℕ) → FitsFeed feed limit count → limit < count → feed ≡ TooLong
long_by Open limit count fits past = absurd (omega (arith, fits, past))
long_by Ended limit count fits past = absurd (omega (arith, fits, past))
long_by Failed limit count fits past = absurd (omega (arith, fits, past))
long_by TooLong limit count fits past = refl

-- the bytes up to the limit, and those for which there is room
pub take-limit : (so_far bytes : List ℕ) (limit : ℕ) → length so_far ≤ limit →
    take limit (so_far ++ bytes) ≡ take limit so_far ++ take (limit - length so_far) bytes
take-limit so_far bytes limit within =
    let size : limit ≡ length so_far + (limit - length so_far) = omega arith in
    ap (λ n. take n (so_far ++ bytes)) size
    ∙ take-append-add so_far bytes (limit - length so_far)
    ∙ ap (λ first. first ++ take (limit - length so_far) bytes) (sym (take_all limit so_far within))

-- what came is what was counted
pub given_is : (given limit : ℕ) (so_far : List ℕ) → given ≡ raised 0 (length so_far) → given ≤ limit →
    limit < 2 ^ 64 → length so_far ≤ limit → given ≡ length so_far
given_is given limit so_far count within sized fits = omega (arith, count)
