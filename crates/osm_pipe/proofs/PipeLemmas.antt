-- Lemmas on what the halves of a pipe have in common.
use Rattle.std.proofs.Common.{◌≡◌, true, false, List, [], ◌∷◌, ◌++◌, refl, sym, ap, ◌∙◌, subst}
use Rattle.std.proofs.lemmas.List.{append-nil}
use Rattle.osm_entity.specs.Items.{ItemValue}
use Rattle.osm_entity.specs.Ports.{has_end, EndsLast}
use Rattle.osm_entity.specs.Prefixes.{IsPrefix}
use Rattle.osm_entity.specs.declared.stream.End.{End}
use Rattle.osm_entity.specs.declared.stream.Message.{Message}
use Rattle.osm_entity.specs.declared.stream.Message.TheVariants.{Item as One, End as Last}
use Rattle.osm_entity.proofs.PortLemmas.{has_end-item, has_end-end}
use Rattle.osm_pipe.specs.Pipes.{Meets}

-- an item more is no end
pub has_end_item : (ms : List Message) (item : ItemValue) → has_end ms ≡ false → has_end (ms ++ One item ∷ []) ≡ false
has_end_item ms item unended = has_end-item ms item ∙ unended

-- with an end more there is an end
pub has_end_end : (ms : List Message) (end : End) → has_end (ms ++ Last end ∷ []) ≡ true
has_end_end = has_end-end

-- an end is last where it is the first
pub ends_last_end : (ms : List Message) (end : End) → has_end ms ≡ false → EndsLast (ms ++ Last end ∷ [])
ends_last_end [] end unended = refl
ends_last_end (One i ∷ ms) end unended = ends_last_end ms end unended
ends_last_end (Last e ∷ ms) end unended = cc

-- nothing is left behind an end
nothing_after : (taken left : List Message) → EndsLast (taken ++ left) → has_end taken ≡ true → left ≡ []
nothing_after [] left last ended = cc
nothing_after (One i ∷ taken) left last ended = nothing_after taken left last ended
nothing_after (Last e ∷ []) left last ended = last
nothing_after (Last e ∷ m ∷ taken) left last ended = cc

-- all of it was taken where its end was
all_taken : (taken sent left : List Message) → sent ≡ taken ++ left → EndsLast sent →
    has_end taken ≡ true → taken ≡ sent
all_taken taken sent left joined last ended =
    let none : left ≡ [] = nothing_after taken left (subst EndsLast joined last) ended in
    sym (joined ∙ ap (λ l. taken ++ l) none ∙ append-nil taken)

-- a prefix under other names
pub prefix_of : (first all taken sent : List Message) → IsPrefix first all → first ≡ taken → all ≡ sent →
    IsPrefix taken sent
prefix_of first all taken sent is same_taken same_sent =
    subst (λ (l : List Message × List Message). IsPrefix l.0 l.1) (λ i. (same_taken i, same_sent i)) is

-- the halves of one pipe meet
pub halves_meet : (taken sent : List Message) → IsPrefix taken sent → has_end sent ≡ true → EndsLast sent →
    Meets taken sent
halves_meet taken sent prefix closed last = record {
  prefix = prefix;
  whole = λ ended. all_taken taken sent prefix.rest prefix.joined last ended;
  last = last;
  closed = closed;
}
