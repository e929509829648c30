-- Lemmas on streams that stand before one another.
use Rattle.std.proofs.Common.{◌≡◌, refl, sym, ap, ◌∙◌}
use Rattle.osm_entity.specs.Streams.{Stream, IsBefore}
use Rattle.osm_entity.specs.declared.stream.End.{End}
use Rattle.osm_entity.specs.declared.stream.End.TheVariants.{Done, Broken}
use Rattle.osm_entity.proofs.PrefixLemmas.{prefix_itself, prefix_onward, prefix_both}

pub before_itself : (a : Stream) → IsBefore a a
before_itself a = record { items = prefix_itself a.items; done = λ is. refl }

pub before_onward : (a b c : Stream) → IsBefore a b → IsBefore b c → IsBefore a c
before_onward a b c left right = record {
  items = prefix_onward a.items b.items c.items left.items right.items;
  done = λ is. let same : a ≡ b = left.done is in
      same ∙ right.done (ap (λ (s : Stream). s.end) (sym same) ∙ is);
}

both_by : (a b : Stream) (end_a end_b : End) → a.end ≡ end_a → b.end ≡ end_b → IsBefore a b → IsBefore b a → a ≡ b
both_by a b Done end_b is_a is_b left right = left.done is_a
both_by a b Broken Done is_a is_b left right = sym (right.done is_b)
both_by a b Broken Broken is_a is_b left right =
    let items : a.items ≡ b.items = prefix_both a.items b.items left.items right.items in
    let end : a.end ≡ b.end = is_a ∙ sym is_b in
    λ i. record { items = items i; end = end i }

pub before_both : (a b : Stream) → IsBefore a b → IsBefore b a → a ≡ b
before_both a b left right = both_by a b a.end b.end refl refl left right
