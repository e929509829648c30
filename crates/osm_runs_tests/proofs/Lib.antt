mod CountedLemmas
