-- Rules that only add behind what they gave.
-- Here a rule makes a whole stream of whole streams; the code gives what is fixed so far.
use Rattle.std.specs.Prelude.{◌≡◌, List, [], ◌∷◌, ◌++◌}
use Rattle.osm_entity.specs.Items.{ItemValue}
use Rattle.osm_entity.specs.Streams.{Stream, IsBefore}
use Rattle.osm_entity.specs.declared.stream.End.{End}
use Rattle.osm_entity.specs.declared.stream.End.TheVariants.{Broken}

-- the stream of some items that is broken behind them
abbrev pub broken_after : List ItemValue → Stream
broken_after items = record { items = items; end = Broken }

-- a rule grows: one item more, and then the end, only add items behind; until the end comes its own end is Broken
pub record Grows (rule : Stream → Stream) : Type 0 where
  pub more : List ItemValue → ItemValue → List ItemValue
  pub item : (xs : List ItemValue) (x : ItemValue) →
      (rule (broken_after (xs ++ x ∷ []))).items ≡ (rule (broken_after xs)).items ++ more xs x
  pub last : List ItemValue → End → List ItemValue
  pub ended : (xs : List ItemValue) (end : End) →
      (rule (record { items = xs; end = end })).items ≡ (rule (broken_after xs)).items ++ last xs end
  pub broken : (xs : List ItemValue) → (rule (broken_after xs)).end ≡ Broken

-- a rule is monotone: what is before a stream gives what is before
abbrev pub IsMonotone : (Stream → Stream) → Type 0
IsMonotone rule = (s t : Stream) → IsBefore s t → IsBefore (rule s) (rule t)

-- a rule of two streams is monotone in both at once
abbrev pub IsMonotoneInBoth : (Stream → Stream → Stream) → Type 0
IsMonotoneInBoth rule = (s t u v : Stream) → IsBefore s t → IsBefore u v → IsBefore (rule s u) (rule t v)
