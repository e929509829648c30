mod ChainLemmas
