-- What a sink took of the lines of items.
use Rattle.std.proofs.Common.{◌≡◌, ℕ, ◌+◌, List, [], ◌∷◌, ◌++◌, length, take, refl, sym, ap, subst, ◌∙◌, arith, append_assoc, append-nil}
use Rattle.std.specs.Prelude.{OnErr, OnOk, Option, Some, None, Ok, Err}
use Rattle.std.specs.declared.result.Result.{Result}
use Rattle.std.specs.Io.KnownBytes.{append_known}
use Rattle.std.specs.List.{flat_map}
use Rattle.std.proofs.lemmas.List.{length-append, take-append-le, take_all}
use Rattle.std.proofs.lemmas.Grind.{flat_map-append}
use Rattle.std.proofs.Math.Seq.{take-append-add}
use Rattle.osm_entity.specs.Items.{ItemValue}
use Rattle.osm_entity.specs.Streams.{Stream}
use Rattle.osm_host.specs.Contents.{PutTakes}
use Rattle.osm_host.specs.Puts.{TakesPrefix}
use Rattle.osm_host.specs.declared.outside.HostError.{HostError}
use Rattle.osm_host.specs.declared.outside.HostError.TheVariants.{Failed, Memory}
use Rattle.osm_opl_line.specs.Writing.{line_text, opl_text}
use Rattle.osm_opl.specs.Written.{TookItems, TookSome}

-- no bytes behind some
append_known-nil : (o : Option (List ℕ)) → append_known o [] ≡ o
append_known-nil None = refl
append_known-nil (Some xs) = ap Some (append-nil xs)

-- bytes behind bytes
append_known-more : (o : Option (List ℕ)) (a b : List ℕ) →
    append_known (append_known o a) b ≡ append_known o (a ++ b)
append_known-more None a b = refl
append_known-more (Some xs) a b = ap Some (append_assoc xs a b)

-- at first a sink took the lines of no items
pub took_none : (first : Option (List ℕ)) → TookItems first first []
took_none first = sym (append_known-nil first)

-- the lines of a stream's items are its file
pub took_file : (first now : Option (List ℕ)) (s : Stream) → TookItems first now s.items →
    now ≡ append_known first (opl_text s)
took_file first now s took = took

-- the lines of some items and one more
text-next : (items : List ItemValue) (item : ItemValue) →
    flat_map line_text (items ++ item ∷ []) ≡ flat_map line_text items ++ line_text item
text-next items item =
    flat_map-append line_text items (item ∷ []) ∙ ap (λ text. flat_map line_text items ++ text)
    (append-nil (line_text item))

-- a sink that took the lines of items took that of one more
pub took_next : (first before now : Option (List ℕ)) (items : List ItemValue) (item : ItemValue) →
    now ≡ append_known before (line_text item) → TookItems first before items →
    TookItems first now (items ++ item ∷ [])
took_next first before now items item put took =
    put ∙ ap (λ o. append_known o (line_text item)) took
    ∙ append_known-more first (flat_map line_text items) (line_text item)
    ∙ ap (append_known first) (sym (text-next items item))

-- bytes and a prefix of more are a prefix of all
prefix-behind : (first before now : Option (List ℕ)) (a b : List ℕ) → before ≡ append_known first a →
    TakesPrefix b before now → TakesPrefix (a ++ b) first now
prefix-behind first before now a b is (k, fits, took) = (
  length a + k,
  omega (arith, fits, length-append a b),
  took ∙ ap (λ o. append_known o (take k b)) is ∙ append_known-more first a (take k b)
      ∙ ap (append_known first) (sym (take-append-add a b k)),
)

-- a prefix of bytes is one of more bytes
prefix-more : (first now : Option (List ℕ)) (a b : List ℕ) → TakesPrefix a first now → TakesPrefix (a ++ b) first now
prefix-more first now a b (k, fits, took) =
    (k, omega (arith, fits, length-append a b), took ∙ ap (append_known first) (sym (take-append-le k a b fits)))

-- a sink that took the lines of items took a prefix of one more
pub took_some-next : (first before now : Option (List ℕ)) (items : List ItemValue) (item : ItemValue) →
    TakesPrefix (line_text item) before now → TookItems first before items →
    TookSome first now (items ++ item ∷ [])
took_some-next first before now items item put took =
    rw (text-next items item)
    (prefix-behind first before now (flat_map line_text items) (line_text item) took put)

-- a prefix of the lines of some items is one of those of more
pub took_some-more : (first now : Option (List ℕ)) (items more : List ItemValue) → TookSome first now items →
    TookSome first now (items ++ more)
took_some-more first now items more took =
    rw (flat_map-append line_text items more)
    (prefix-more first now (flat_map line_text items) (flat_map line_text more) took)

-- all lines of some items are a prefix of those of more
pub took_some : (first now : Option (List ℕ)) (items more : List ItemValue) → TookItems first now items →
    TookSome first now (items ++ more)
took_some first now items more took =
    took_some-more first now items more (
      length (flat_map line_text items),
      omega arith,
      took ∙ ap (append_known first) (sym (take_all (length (flat_map line_text items)) (flat_map line_text items) (omega
          arith))),
    )

-- a put that answered: where the sink took the lines of items, it took this one's too
pub took_all : {T : Type 0} (r : Result T HostError) (text : List ℕ) (item : ItemValue) (before now : Option (List
    ℕ)) → text ≡ line_text item → PutTakes r text before now →
    OnOk r ((first : Option (List ℕ)) (items : List ItemValue) → TookItems first before items →
    TookItems first now (items ++ item ∷ []))
took_all (Ok x) text item before now is took = λ first items all.
    took_next first before now items item (took ∙ ap (append_known before) is) all
took_all (Err e) text item before now is took = tt

-- a put that was refused: the sink took a prefix of that
pub took_part : {T : Type 0} (r : Result T HostError) (text : List ℕ) (item : ItemValue) (before now : Option (List
    ℕ)) → text ≡ line_text item → PutTakes r text before now →
    OnErr r ((first : Option (List ℕ)) (items : List ItemValue) → TookItems first before items →
    TookSome first now (items ++ item ∷ []))
took_part (Ok x) text item before now is took = tt
took_part (Err Failed) text item before now is took = λ first items all.
    took_some-next first before now items item (subst (λ t. TakesPrefix t before now) is took) all
took_part (Err Memory) text item before now is took = λ first items all.
    took_some first now items (item ∷ []) (took ∙ all)
