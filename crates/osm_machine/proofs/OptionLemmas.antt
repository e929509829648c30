-- The options of a PBF file are those of their numbers.
use mathlib.Core.HLevel.{is_prop→PathP}
use Rattle.std.proofs.Common.{◌≡◌, ℕ, ◌≤◌, arith}
use Rattle.std.proofs.Math.Bridge.{le_prop}
use Rattle.osm_block_write.specs.declared.options.PbfOptions.{PbfOptions}
use Rattle.osm_machine.specs.TaskMeanings.{nearest, options_of}

-- a number of a range is the nearest one to itself
nearest-itself : (least most n : ℕ) → least ≤ n → n ≤ most → nearest least most n ≡ n
nearest-itself least most n above below = omega (arith, above, below)

pub options_of-itself : (options : PbfOptions) →
    options_of options.batchlimit options.usedense options.omitmetadata options.granularity ≡ options
options_of-itself options =
    let same : PbfOptions = options_of options.batchlimit options.usedense options.omitmetadata options.granularity in
    let limit = nearest-itself 1 32000 options.batchlimit options.some options.few in
    let unit = nearest-itself 1 1000000 options.granularity options.fine options.coarse in
    λ i. record {
      batchlimit = limit i;
      usedense = options.usedense;
      omitmetadata = options.omitmetadata;
      granularity = unit i;
      some = is_prop→PathP (λ j. 1 ≤ limit j) (λ j. le_prop) same.some options.some i;
      few = is_prop→PathP (λ j. limit j ≤ 32000) (λ j. le_prop) same.few options.few i;
      fine = is_prop→PathP (λ j. 1 ≤ unit j) (λ j. le_prop) same.fine options.fine i;
      coarse = is_prop→PathP (λ j. unit j ≤ 1000000) (λ j. le_prop) same.coarse options.coarse i;
    }
