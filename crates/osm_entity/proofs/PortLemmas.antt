-- Lemmas on messages and the streams that they are.
use Rattle.std.proofs.Common.{◌≡◌, ℕ, inl, inr, List, [], ◌∷◌, ◌++◌, map, Bool, true, false, refl, sym, ap, ◌∙◌}
use Rattle.std.proofs.lemmas.Bool.{cases_eq, eq-eqb, ne_eqb, cond-true, cond-false}
use Rattle.std.proofs.lemmas.List.{append-nil, map-append}
use Rattle.osm_entity.specs.Growth.{broken_after}
use Rattle.osm_entity.specs.Items.{ItemValue}
use Rattle.osm_entity.specs.Ports.{Ports, added, items_of, end_of, has_end, EndsLast, stream_of, fixed, last_if}
use Rattle.osm_entity.specs.Prefixes.{IsPrefix}
use Rattle.osm_entity.specs.Streams.{Stream, IsBefore}
use Rattle.osm_entity.specs.declared.stream.End.{End}
use Rattle.osm_entity.specs.declared.stream.End.TheVariants.{Broken}
use Rattle.osm_entity.specs.declared.stream.Message.{Message}
use Rattle.osm_entity.specs.declared.stream.Message.TheVariants.{Item as One, End as Last}
use Rattle.osm_entity.proofs.PrefixLemmas.{prefix_none}
use Rattle.osm_entity.proofs.StreamLemmas.{before_itself}

-- ---- one message more

pub items_of-item : (ms : List Message) (item : ItemValue) → has_end ms ≡ false →
    items_of (ms ++ One item ∷ []) ≡ items_of ms ++ item ∷ []
items_of-item [] item is = refl
items_of-item (One i ∷ ms) item is = ap (λ items. i ∷ items) (items_of-item ms item is)
items_of-item (Last e ∷ ms) item is = cc

pub items_of-end : (ms : List Message) (end : End) → items_of (ms ++ Last end ∷ []) ≡ items_of ms
items_of-end [] end = refl
items_of-end (One i ∷ ms) end = ap (λ items. i ∷ items) (items_of-end ms end)
items_of-end (Last e ∷ ms) end = refl

pub end_of-item : (ms : List Message) (item : ItemValue) → end_of (ms ++ One item ∷ []) ≡ end_of ms
end_of-item [] item = refl
end_of-item (One i ∷ ms) item = end_of-item ms item
end_of-item (Last e ∷ ms) item = refl

pub end_of-end : (ms : List Message) (end : End) → has_end ms ≡ false → end_of (ms ++ Last end ∷ []) ≡ end
end_of-end [] end is = refl
end_of-end (One i ∷ ms) end is = end_of-end ms end is
end_of-end (Last e ∷ ms) end is = cc

pub has_end-item : (ms : List Message) (item : ItemValue) → has_end (ms ++ One item ∷ []) ≡ has_end ms
has_end-item [] item = refl
has_end-item (One i ∷ ms) item = has_end-item ms item
has_end-item (Last e ∷ ms) item = refl

pub has_end-end : (ms : List Message) (end : End) → has_end (ms ++ Last end ∷ []) ≡ true
has_end-end [] end = refl
has_end-end (One i ∷ ms) end = has_end-end ms end
has_end-end (Last e ∷ ms) end = refl

-- without an end the stream is broken
pub end_of-none : (ms : List Message) → has_end ms ≡ false → end_of ms ≡ Broken
end_of-none [] is = refl
end_of-none (One i ∷ ms) is = end_of-none ms is
end_of-none (Last e ∷ ms) is = cc

stream_is : (ms : List Message) (items : List ItemValue) (end : End) → items_of ms ≡ items → end_of ms ≡ end →
    stream_of ms ≡ record { items = items; end = end }
stream_is ms items end same_items same_end = λ i. record { items = same_items i; end = same_end i }

pub stream_of-none : (ms : List Message) → has_end ms ≡ false → stream_of ms ≡ broken_after (items_of ms)
stream_of-none ms is = stream_is ms (items_of ms) Broken refl (end_of-none ms is)

pub stream_of-item : (ms : List Message) (item : ItemValue) → has_end ms ≡ false →
    stream_of (ms ++ One item ∷ []) ≡ broken_after (items_of ms ++ item ∷ [])
stream_of-item ms item is =
    stream_is (ms ++ One item ∷ []) (items_of ms ++ item ∷ []) Broken (items_of-item ms item is)
    (end_of-item ms item ∙ end_of-none ms is)

pub stream_of-end : (ms : List Message) (end : End) → has_end ms ≡ false →
    stream_of (ms ++ Last end ∷ []) ≡ record { items = items_of ms; end = end }
stream_of-end ms end is = stream_is (ms ++ Last end ∷ []) (items_of ms) end (items_of-end ms end) (end_of-end ms end is)

-- a broken end behind changes no stream
pub broken_end : (ms : List Message) → stream_of (ms ++ Last Broken ∷ []) ≡ stream_of ms
broken_end ms = stream_is (ms ++ Last Broken ∷ []) (items_of ms) (end_of ms) (items_of-end ms Broken) (last ms) where
  last : (ms : List Message) → end_of (ms ++ Last Broken ∷ []) ≡ end_of ms
  last [] = refl
  last (One i ∷ ms) = last ms
  last (Last e ∷ ms) = refl

-- what stood at a port is a prefix of what stands there after one message more at any port
pub prefix_added : (x : Ports) (port : ℕ) (message : Message) (p : ℕ) → IsPrefix (x p) (added x port message p)
prefix_added x port message p = elim (cases_eq p port) [
  | inl here ↦ record { rest = message ∷ []; joined = cond-true _ (x p ++ message ∷ []) (x p) (eq-eqb p port here) }
  | inr other ↦ record {
    rest = [];
    joined = cond-false _ (x p ++ message ∷ []) (x p) (ne_eqb p port other) ∙ sym (append-nil (x p));
  }
]

-- ---- before

-- no messages are before any stream
pub before_none : (s : Stream) → IsBefore (stream_of []) s
before_none s = record { items = prefix_none s.items; done = λ is. cc }

abbrev with_item : ItemValue → Stream → Stream
with_item item s = record { items = item ∷ s.items; end = s.end }

-- one item more at the head of both
pub before_more : (item : ItemValue) (xs ys : List ItemValue) (d e : End) →
    IsBefore (record { items = xs; end = d }) (record { items = ys; end = e }) →
    IsBefore (record { items = item ∷ xs; end = d }) (record { items = item ∷ ys; end = e })
before_more item xs ys d e before = record {
  items = record { rest = before.items.rest; joined = ap (λ items. item ∷ items) before.items.joined };
  done = λ is. ap (with_item item) (before.done is);
}

before_append : (ms more : List Message) → IsBefore (stream_of ms) (stream_of (ms ++ more))
before_append [] more = before_none (stream_of more)
before_append (One i ∷ ms) more =
    before_more i (items_of ms) (items_of (ms ++ more)) (end_of ms) (end_of (ms ++ more)) (before_append ms more)
before_append (Last e ∷ ms) more = before_itself (record { items = []; end = e })

-- the stream of a prefix of some messages is before theirs
pub prefix_before : (ms all : List Message) → IsPrefix ms all → IsBefore (stream_of ms) (stream_of all)
prefix_before ms all prefix = rw prefix.joined (before_append ms prefix.rest)

given_by : (given more : List Message) (items : List ItemValue) (end : End) (ended : Bool) →
    map One items ++ last_if ended end ≡ given ++ more → (ended ≡ false → end ≡ Broken) →
    IsBefore (stream_of given) (record { items = items; end = end })
given_by [] more items end ended is open_end = before_none (record { items = items; end = end })
given_by (One i ∷ given) more [] end true is open_end = absurd cc
given_by (One i ∷ given) more [] end false is open_end = absurd cc
given_by (One i ∷ given) more (j ∷ items) end ended is open_end =
    let same : j ≡ i = cc in
    let rest : map One items ++ last_if ended end ≡ given ++ more = cc in
    rw same
    (before_more i (items_of given) items (end_of given) end (given_by given more items end ended rest open_end))
given_by (Last f ∷ given) more [] end true is open_end =
    let same : end ≡ f = cc in rw same (before_itself (record { items = []; end = f }))
given_by (Last f ∷ given) more [] end false is open_end = absurd cc
given_by (Last f ∷ given) more (j ∷ items) end ended is open_end = absurd cc

-- what was given of the messages that a stream fixes is before it
pub fixed_before : (given more : List Message) (s : Stream) (ended : Bool) → fixed ended s ≡ given ++ more →
    (ended ≡ false → s.end ≡ Broken) → IsBefore (stream_of given) s
fixed_before given more s ended is open_end = given_by given more s.items s.end ended is open_end

-- ---- what is fixed

items_fixed : (items : List ItemValue) (end : End) (ended : Bool) →
    items_of (map One items ++ last_if ended end) ≡ items
items_fixed [] end true = refl
items_fixed [] end false = refl
items_fixed (i ∷ items) end ended = ap (λ list. i ∷ list) (items_fixed items end ended)

end_fixed : (items : List ItemValue) (end : End) → end_of (map One items ++ last_if true end) ≡ end
end_fixed [] end = refl
end_fixed (i ∷ items) end = end_fixed items end

ended_fixed : (items : List ItemValue) (end : End) (ended : Bool) → has_end (map One items ++ last_if ended end) ≡ ended
ended_fixed [] end true = refl
ended_fixed [] end false = refl
ended_fixed (i ∷ items) end ended = ended_fixed items end ended

pub items_of-fixed : (ended : Bool) (s : Stream) → items_of (fixed ended s) ≡ s.items
items_of-fixed ended s = items_fixed s.items s.end ended

pub has_end-fixed : (ended : Bool) (s : Stream) → has_end (fixed ended s) ≡ ended
has_end-fixed ended s = ended_fixed s.items s.end ended

pub stream_of-fixed : (s : Stream) → stream_of (fixed true s) ≡ s
stream_of-fixed s = stream_is (fixed true s) s.items s.end (items_fixed s.items s.end true) (end_fixed s.items s.end)

-- what is fixed without an end is the items alone
fixed-items : (s : Stream) → fixed false s ≡ map One s.items
fixed-items s = append-nil (map One s.items)

-- more items are fixed behind the others
pub fixed-more : (s t : Stream) (more : List ItemValue) → t.items ≡ s.items ++ more →
    fixed false t ≡ fixed false s ++ map One more
fixed-more s t more is = fixed-items t ∙ ap (map One) is ∙ map-append One s.items more
    ∙ ap (λ ms. ms ++ map One more) (sym (fixed-items s))

-- an end is fixed behind the items
pub fixed-end : (s : Stream) → fixed true s ≡ fixed false s ++ Last s.end ∷ []
fixed-end s = ap (λ ms. ms ++ Last s.end ∷ []) (sym (fixed-items s))

-- messages that end with their end are those that their stream fixes
pub fixed_all : (ms : List Message) → EndsLast ms → has_end ms ≡ true → ms ≡ fixed true (stream_of ms)
fixed_all [] last closed = cc
fixed_all (One i ∷ ms) last closed = ap (λ more. One i ∷ more) (fixed_all ms last closed)
fixed_all (Last e ∷ ms) last closed = ap (λ more. Last e ∷ more) last

none_by : (items : List ItemValue) (end : End) (ended : Bool) (given : List Message) (message : Message)
    (more : List Message) →
    map One items ++ last_if ended end ≡ given ++ message ∷ more → has_end given ≡ false
none_by items end ended [] message more is = refl
none_by [] end true (One i ∷ given) message more is = absurd cc
none_by [] end false (One i ∷ given) message more is = absurd cc
none_by (j ∷ items) end ended (One i ∷ given) message more is =
    let rest : map One items ++ last_if ended end ≡ given ++ message ∷ more = cc in
    none_by items end ended given message more rest
none_by [] end true (Last f ∷ []) message more is = absurd cc
none_by [] end true (Last f ∷ m ∷ given) message more is = absurd cc
none_by [] end false (Last f ∷ given) message more is = absurd cc
none_by (j ∷ items) end ended (Last f ∷ given) message more is = absurd cc

-- before a message that is fixed and not given yet, no end was given
pub none_before : (given : List Message) (message : Message) (more : List Message) (s : Stream) (ended : Bool) →
    fixed ended s ≡ given ++ message ∷ more → has_end given ≡ false
none_before given message more s ended is = none_by s.items s.end ended given message more is
