-- Lemmas on prefixes that a file took.
use Rattle.std.proofs.Common.{ℕ, List, [], ◌++◌, None, Some, sym, ap, ◌∙◌, append_assoc, append-nil}
use Rattle.std.specs.Io.KnownBytes.{Appends, append_known}
use Rattle.std.specs.declared.option.Option.{Option}
use Rattle.osm_host_std.specs.Written.{AppendsPrefix}

-- a prefix of the first bytes is one of these and more
pub prefix_of_more : (before now : Option (List ℕ)) (bytes more : List ℕ) → AppendsPrefix before now bytes →
    AppendsPrefix before now (bytes ++ more)
prefix_of_more before now bytes more (taken, rest, split, appends) =
    (taken, rest ++ more, ap (λ l. l ++ more) split ∙ append_assoc taken rest more, appends)

-- the first bytes whole, and then a prefix of the next, are a prefix of both
pub prefix_of_next : (before mid now : Option (List ℕ)) (bytes next : List ℕ) →
    Appends (append_known before bytes) mid [] → AppendsPrefix mid now next → AppendsPrefix before now (bytes ++ next)
prefix_of_next before mid now bytes next whole (taken, rest, split, appends) = (
  bytes ++ taken,
  rest,
  ap (λ l. bytes ++ l) split ∙ sym (append_assoc bytes taken rest),
  joined before mid now bytes taken whole appends,
)
  where
    joined : (a b c : Option (List ℕ)) (xs ys : List ℕ) → Appends (append_known a xs) b [] → Appends b c ys →
        Appends a c (xs ++ ys)
    joined None b c xs ys p q = tt
    joined (Some a) None c xs ys p q = absurd p
    joined (Some a) (Some b) None xs ys p q = absurd q
    joined (Some a) (Some b) (Some c) xs ys p q =
        q ∙ ap (λ l. l ++ ys) (p ∙ append-nil (a ++ xs)) ∙ append_assoc a xs ys
