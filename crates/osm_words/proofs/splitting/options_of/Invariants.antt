use Rattle.std.proofs.Common.{◌≡◌, ◌+◌, ◌++◌, [], drop}
use Rattle.osm_words.specs.Words.{own_words, options_at, options_fault}
use Rattle.osm_words.proofs.splitting.options_of.Given as goal

abbrev pub invariant-loop-at : goal.invariant-loop-at
invariant-loop-at l = record {
  options : options_at l.first (own_words l.words) ≡
      l.options ++ options_at (l.first + l.at) (own_words (drop l.at l.words));
  fault : options_fault l.first [] (own_words l.words) ≡
      options_fault (l.first + l.at) l.options (own_words (drop l.at l.words));
}
