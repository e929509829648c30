-- Lemmas on two inputs that are exchanged.
use Rattle.std.proofs.Common.{◌≡◌, ◌⊎◌, inl, inr, List, Bool, true, false, ◌&&◌, cond, Option, Some, None, refl, sym, ap, ◌∙◌}
use Rattle.osm_entity.specs.Items.{ItemValue as Item}
use Rattle.osm_entity.specs.Ports.{stream_of}
use Rattle.osm_entity.specs.Streams.{Stream}
use Rattle.osm_entity.specs.declared.stream.Message.{Message}
use Rattle.osm_entity.specs.declared.verdict.Verdict.{Verdict}
use Rattle.osm_merge.specs.Choices.{seen_from}
use Rattle.osm_merge.specs.Heads.{InOrder, InputsStand, IsMet, SidesStand}
use Rattle.osm_merge.specs.Rules.{Choice, IsChoice, item_at, merged, reaches, rising_front}
use Rattle.osm_merge.specs.declared.heads.Head.{Head}
use Rattle.osm_merge.specs.declared.heads.Side.TheVariants.{First, Second}
use Rattle.osm_merge.proofs.HeadLemmas.{seen_from_is}
use Rattle.osm_merge.proofs.RuleLemmas.{rule_at, rule_is, rule_rises}

and_swap : (a b : Bool) → (a && b) ≡ (b && a)
and_swap true true = refl
and_swap true false = refl
and_swap false true = refl
and_swap false false = refl

pub merged_swap : (choose : Choice) → IsChoice choose → (s t : Stream) →
    (merged choose s t).items ≡ (merged (seen_from Second choose) t s).items
merged_swap choose good s t = rule_is choose good s t (merged (seen_from Second choose) t s).items
    (rule_rises (seen_from Second choose) (seen_from_is Second choose good) t s)
    (λ k. rule_at (seen_from Second choose) (seen_from_is Second choose good) t s k
    ∙ ap (λ b. cond b (choose (item_at k (rising_front s)) (item_at k (rising_front t))) None)
    (and_swap (reaches t k) (reaches s k)))

pub order_swap : (own other : Head) (x z : List Message) → InOrder own other x z → InOrder other own z x
order_swap own other x z s = record {
  own_follows = s.other_follows;
  other_follows = s.own_follows;
  own_waits = s.other_waits;
  other_waits = s.own_waits;
  own_free = s.other_free;
  other_free = s.own_free;
}

met_swap : (verdict : Verdict) (x z : List Message) → IsMet First x z verdict ⊎ IsMet Second z x verdict →
    IsMet Second z x verdict ⊎ IsMet First x z verdict
met_swap verdict x z (inl met) = inr met
met_swap verdict x z (inr met) = inl met

met_back : (verdict : Verdict) (x z : List Message) → IsMet Second x z verdict ⊎ IsMet First z x verdict →
    IsMet First z x verdict ⊎ IsMet Second x z verdict
met_back verdict x z (inl met) = inr met
met_back verdict x z (inr met) = inl met

inputs_swap : (cut : Option Verdict) (own other : Head) (x z : List Message) → InputsStand First cut own other x z →
    InputsStand Second cut other own z x
inputs_swap None own other x z s = order_swap own other x z s
inputs_swap (Some verdict) own other x z s = record {
  own_ended = s.other_ended;
  other_ended = s.own_ended;
  met = met_swap verdict x z s.met;
}

inputs_back : (cut : Option Verdict) (own other : Head) (x z : List Message) → InputsStand Second cut own other x z →
    InputsStand First cut other own z x
inputs_back None own other x z s = order_swap own other x z s
inputs_back (Some verdict) own other x z s = record {
  own_ended = s.other_ended;
  other_ended = s.own_ended;
  met = met_back verdict x z s.met;
}

-- what stands seen from input 0 stands seen from input 1, and back
pub sides_swap : (choose : Choice) → IsChoice choose → (cut : Option Verdict) (first second : Head)
    (ready : Option Item) (x z : List Message) (given : List Item) →
    SidesStand choose First cut first second ready x z given →
    SidesStand (seen_from Second choose) Second cut second first ready z x given
sides_swap choose good cut first second ready x z given s = record {
  inputs = inputs_swap cut first second x z s.inputs;
  gave = sym (merged_swap choose good (stream_of x) (stream_of z)) ∙ s.gave;
}

pub sides_back : (choose : Choice) → IsChoice choose → (cut : Option Verdict) (first second : Head)
    (ready : Option Item) (x z : List Message) (given : List Item) →
    SidesStand (seen_from Second choose) Second cut second first ready z x given →
    SidesStand choose First cut first second ready x z given
sides_back choose good cut first second ready x z given s = record {
  inputs = inputs_back cut second first z x s.inputs;
  gave = merged_swap choose good (stream_of x) (stream_of z) ∙ s.gave;
}
