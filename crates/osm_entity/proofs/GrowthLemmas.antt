-- A rule that grows is monotone, and gives message by message what more of its input fixes.
use Rattle.std.proofs.Common.{◌≡◌, List, [], ◌∷◌, ◌++◌, map, false, true, refl, sym, ap, ◌∙◌, append_assoc}
use Rattle.std.proofs.lemmas.List.{append-nil}
use Rattle.osm_entity.specs.Growth.{Grows, IsMonotone, IsMonotoneInBoth, broken_after}
use Rattle.osm_entity.specs.Items.{ItemValue}
use Rattle.osm_entity.specs.Ports.{items_of, has_end, stream_of, fixed}
use Rattle.osm_entity.specs.Prefixes.{IsPrefix}
use Rattle.osm_entity.specs.Streams.{Stream, IsBefore}
use Rattle.osm_entity.specs.declared.stream.End.{End}
use Rattle.osm_entity.specs.declared.stream.End.TheVariants.{Done, Broken}
use Rattle.osm_entity.specs.declared.stream.Message.{Message}
use Rattle.osm_entity.specs.declared.stream.Message.TheVariants.{Item as One, End as Last}
use Rattle.osm_entity.proofs.PortLemmas.{has_end-item, has_end-end, stream_of-none, stream_of-item, stream_of-end, fixed-more, fixed-end}
use Rattle.osm_entity.proofs.StreamLemmas.{before_itself, before_onward}

-- more items only add behind
pub grows_on : (rule : Stream → Stream) → Grows rule → (xs more : List ItemValue) →
    IsPrefix (rule (broken_after xs)).items (rule (broken_after (xs ++ more))).items
grows_on rule grows xs [] = record {
  rest = [];
  joined = ap (λ items. (rule (broken_after items)).items) (append-nil xs)
      ∙ sym (append-nil (rule (broken_after xs)).items);
}
grows_on rule grows xs (x ∷ more) =
    let later = grows_on rule grows (xs ++ x ∷ []) more in
    record {
      rest = grows.more xs x ++ later.rest;
      joined = ap (λ items. (rule (broken_after items)).items) (sym (append_assoc xs (x ∷ []) more)) ∙ later.joined
          ∙ ap (λ items. items ++ later.rest) (grows.item xs x)
          ∙ append_assoc (rule (broken_after xs)).items (grows.more xs x) later.rest;
    }

by_end : (rule : Stream → Stream) → Grows rule → (xs : List ItemValue) (end : End) (t : Stream) →
    IsBefore (record { items = xs; end = end }) t →
    IsBefore (rule (record { items = xs; end = end })) (rule t)
by_end rule grows xs Done t before =
    let same : (let s : Stream = record { items = xs; end = Done } in s) ≡ t = before.done refl in
    rw (← same) (before_itself (rule (record { items = xs; end = Done })))
by_end rule grows xs Broken t before =
    let later = grows_on rule grows xs before.items.rest in
    record {
      items = record {
        rest = later.rest ++ grows.last t.items t.end;
        joined = grows.ended t.items t.end
            ∙ ap (λ items. (rule (broken_after items)).items ++ grows.last t.items t.end) before.items.joined
            ∙ ap (λ items. items ++ grows.last t.items t.end) later.joined
            ∙ append_assoc (rule (broken_after xs)).items later.rest (grows.last t.items t.end);
      };
      done = λ is. absurd (let still : (rule (broken_after xs)).end ≡ Broken = grows.broken xs in cc);
    }

-- a rule that grows is monotone
pub monotone : (rule : Stream → Stream) → Grows rule → IsMonotone rule
monotone rule grows s t before = by_end rule grows s.items s.end t before

-- a rule of two streams that is monotone in each is monotone in both at once
pub monotone_in_both : (rule : Stream → Stream → Stream) → ((u : Stream) → IsMonotone (λ s. rule s u)) →
    ((s : Stream) → IsMonotone (rule s)) → IsMonotoneInBoth rule
monotone_in_both rule first second s t u v before_first before_second =
    before_onward (rule s u) (rule t u) (rule t v) (first u s t before_first) (second t u v before_second)

still_fixed : (rule : Stream → Stream) (x y : List Message) → has_end x ≡ false →
    fixed (has_end x) (rule (stream_of x)) ≡ y → fixed false (rule (broken_after (items_of x))) ≡ y
still_fixed rule x y none was = sym (ap (λ (s : Stream). fixed false (rule s)) (stream_of-none x none))
    ∙ sym (ap (λ ended. fixed ended (rule (stream_of x))) none) ∙ was

-- where all was given that a growing rule fixes, one item more fixes the rule's further items
pub fixed-item : (rule : Stream → Stream) (grows : Grows rule) (x y : List Message) (item : ItemValue) →
    has_end x ≡ false → fixed (has_end x) (rule (stream_of x)) ≡ y →
    fixed (has_end (x ++ One item ∷ [])) (rule (stream_of (x ++ One item ∷ [])))
    ≡ y ++ map One (grows.more (items_of x) item)
fixed-item rule grows x y item none was =
    ap (λ ended. fixed ended (rule (stream_of (x ++ One item ∷ [])))) (has_end-item x item ∙ none)
    ∙ ap (λ (s : Stream). fixed false (rule s)) (stream_of-item x item none)
    ∙ fixed-more (rule (broken_after (items_of x))) (rule (broken_after (items_of x ++ item ∷ [])))
    (grows.more (items_of x) item) (grows.item (items_of x) item)
    ∙ ap (λ ms. ms ++ map One (grows.more (items_of x) item)) (still_fixed rule x y none was)

-- where all was given that a growing rule fixes, the end fixes the rule's last items and its end
pub fixed-last : (rule : Stream → Stream) (grows : Grows rule) (x y : List Message) (end : End) →
    has_end x ≡ false → fixed (has_end x) (rule (stream_of x)) ≡ y →
    fixed (has_end (x ++ Last end ∷ [])) (rule (stream_of (x ++ Last end ∷ [])))
    ≡ (y ++ map One (grows.last (items_of x) end)) ++ Last (rule (record { items = items_of x; end = end })).end ∷ []
fixed-last rule grows x y end none was =
    let whole : Stream = record { items = items_of x; end = end } in
    ap (λ ended. fixed ended (rule (stream_of (x ++ Last end ∷ [])))) (has_end-end x end)
    ∙ ap (λ (s : Stream). fixed true (rule s)) (stream_of-end x end none)
    ∙ fixed-end (rule whole)
    ∙ ap (λ ms. ms ++ Last (rule whole).end ∷ [])
    (fixed-more (rule (broken_after (items_of x))) (rule whole) (grows.last (items_of x) end)
    (grows.ended (items_of x) end)
    ∙ ap (λ ms. ms ++ map One (grows.last (items_of x) end)) (still_fixed rule x y none was))
