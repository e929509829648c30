-- Lemmas on an input in order, as its head has it.
use Rattle.std.proofs.Common.{◌≡◌, List, Bool, true, false, not, ◌||◌, Option, Some, None, refl, sym, ap, ◌∙◌}
use Rattle.std.proofs.lemmas.Bool.{not-false, or_parts}
use Rattle.osm_entity.proofs.PortLemmas.{end_of-none}
use Rattle.osm_entity.specs.Items.{ItemValue as Item, key_of}
use Rattle.osm_entity.specs.Ports.{items_of, stream_of}
use Rattle.osm_entity.specs.declared.kind.Key.{Key}
use Rattle.osm_entity.specs.declared.stream.End.{End}
use Rattle.osm_entity.specs.declared.stream.Message.{Message}
use Rattle.osm_merge.specs.Heads.{Follows, IsLevel, head_reaches}
use Rattle.osm_merge.specs.Rules.{Choice, IsChoice, is_above, last_key, last_key_from, reaches, rising_front}
use Rattle.osm_merge.specs.declared.heads.Head.{Head}
use Rattle.osm_merge.specs.declared.heads.Side.{Side}
use Rattle.osm_merge.specs.declared.heads.Side.TheVariants.{First, Second}
use Rattle.osm_merge.specs.Choices.{seen_from}
use Rattle.osm_merge.proofs.OrderLemmas.{reaches_done, reaches_open, rising_all}
use Rattle.osm_merge.proofs.StepLemmas.{IsAhead}

-- ---- a choice, seen from either input

pub seen_from_is : (side : Side) (choose : Choice) → IsChoice choose → IsChoice (seen_from side choose)
seen_from_is First choose good = good
seen_from_is Second choose good = record {
  nothing = good.nothing;
  keeps = λ key a b left right. good.keeps key b a right left;
}

-- ---- an input in order, as its head has it

end_by : (head : Head) (z : List Message) (b : Bool) → head.ended ≡ b → Follows head z →
    (k : Key) → reaches (stream_of z) k ≡ (b || not (is_above head.last k))
end_by head z true is follows k =
    ap (λ (end : End). reaches (record { items = items_of z; end = end }) k) (follows.done is)
    ∙ reaches_done (items_of z) k follows.rises
end_by head z false is follows k =
    ap (λ (end : End). reaches (record { items = items_of z; end = end }) k) (end_of-none z (sym follows.ended ∙ is))
    ∙ reaches_open (items_of z) k follows.rises ∙ ap (λ last. not (is_above last k)) (sym follows.last)

pub reaches_head : (head : Head) (z : List Message) → Follows head z → (k : Key) →
    reaches (stream_of z) k ≡ head_reaches head k
reaches_head head z follows k = end_by head z head.ended refl follows k

pub prefix_head : (head : Head) (z : List Message) → Follows head z → rising_front (stream_of z) ≡ items_of z
prefix_head head z follows = rising_all None (items_of z) follows.rises

pub last_head : (head : Head) (z : List Message) → Follows head z → last_key (stream_of z) ≡ head.last
last_head head z follows = ap (last_key_from None) (prefix_head head z follows) ∙ sym follows.last

-- an open input isn't known past its last key, and only there
pub unreached : (head : Head) (k : Key) → head.ended ≡ false → is_above head.last k ≡ true →
    head_reaches head k ≡ false
unreached head k isnt above = rw (isnt, above) refl

pub is_unreached : (head : Head) (k : Key) → head_reaches head k ≡ false →
    (head.ended ≡ false) × (is_above head.last k ≡ true)
is_unreached head k is =
    let parts = or_parts head.ended (not (is_above head.last k)) is in
    (parts.0, not-false (is_above head.last k) parts.1)

pub ahead_by : (w : Option Item) (own : Head) (last other reach : Option Key) → last ≡ other → own.last ≡ reach →
    IsLevel w last (head_reaches own) → IsAhead w other reach
ahead_by None own last other reach e f level = tt
ahead_by (Some y) own last other reach e f level =
    (sym e ∙ level.0, ap (λ l. is_above l (key_of y)) (sym f) ∙ (is_unreached own (key_of y) level.1).1)
