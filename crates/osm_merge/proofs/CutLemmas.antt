-- Lemmas on ends that are met: nothing more is given after one, and it stays the one that is met.
use Rattle.std.proofs.Common.{◌≡◌, ◌⊎◌, inl, inr, ℕ, ◌+◌, ◌-◌, ◌^◌, List, [], ◌∷◌, ◌++◌, length, Bool, true, false, not, ◌&&◌, ◌||◌, cond, Option, Some, None, refl, sym, ap, ◌∙◌, arith}
use Rattle.std.specs.List.{filter, filter_map}
use Rattle.std.specs.Prelude.{min}
use Rattle.std.proofs.lemmas.Bool.{and_left, not-true, not_from_false, or_left, false_from_ne_true, false≢true}
use Rattle.std.proofs.lemmas.List.{append-nil}
use Rattle.osm_entity.proofs.KeyLemmas.{not_before_back}
use Rattle.osm_entity.proofs.PortLemmas.{items_of-item, items_of-end, has_end-end, end_of-end, end_of-none}
use Rattle.osm_entity.proofs.StreamLemmas.{before_itself}
use Rattle.osm_entity.specs.Items.{ItemValue as Item, key_of}
use Rattle.osm_entity.specs.Meaning.{Finish, Passed, Wrong}
use Rattle.osm_entity.specs.Ports.{end_of, has_end, items_of, stream_of}
use Rattle.osm_entity.specs.Streams.{Stream, IsBefore}
use Rattle.osm_entity.specs.declared.kind.Key.{Key}
use Rattle.osm_entity.specs.declared.stream.End.TheVariants.{Broken}
use Rattle.osm_entity.specs.declared.stream.Message.{Message}
use Rattle.osm_entity.specs.declared.stream.Message.TheVariants.{Item as One, End as Last}
use Rattle.osm_entity.specs.declared.verdict.Cause.TheVariants.{Unordered}
use Rattle.osm_entity.specs.declared.verdict.Spot.TheVariants.{Item as AtItem}
use Rattle.osm_merge.specs.Heads.{MeetsEnd, is_cut}
use Rattle.osm_merge.specs.Rules.{Choice, IsChoice, finish_at, is_above, is_behind, is_done, is_rising_from, is_whole, item_at, item_number, keys_of_both, last_key, last_key_from, meets_first, merged, reaches, rising_from, rising_front}
use Rattle.osm_merge.specs.declared.heads.Side.{Side}
use Rattle.osm_merge.specs.declared.heads.Side.TheVariants.{First, Second}
use Rattle.osm_merge.proofs.KeyOrder.{Le}
use Rattle.osm_merge.proofs.OrderLemmas.{after_fault, out_of_order, rising_all}
use Rattle.osm_merge.proofs.RisingLemmas.{at_passing, rises_passing, unique}
use Rattle.osm_merge.proofs.RuleLemmas.{beyond, broken_is_short, reach_down, reach_grows, rule_at, rule_grows, rule_rises, settled, whole_done}
use Rattle.osm_merge.proofs.StepLemmas.{last_is_known}

-- ---- which end is met

whole_or : (b : Bool) → cond b true true ≡ true
whole_or true = refl
whole_or false = refl

-- input 0's end is met where input 1 is known at its last key
first_by : (t : Stream) (last : Option Key) → ((k : Key) → last ≡ Some k → reaches t k ≡ true) →
    cond (is_whole t) true (is_behind last (last_key t)) ≡ true
first_by t None known = whole_or (is_whole t)
first_by t (Some k) known = known k refl

pub first_met : (s t : Stream) → is_whole s ≡ false → ((k : Key) → last_key s ≡ Some k → reaches t k ≡ true) →
    meets_first s t ≡ true
first_met s t short known =
    ap (λ b. cond b false (cond (is_whole t) true (is_behind (last_key s) (last_key t)))) short
    ∙ first_by t (last_key s) known

met_first : (s t : Stream) → is_whole s ≡ false → meets_first s t ≡ true → (k : Key) → last_key s ≡ Some k →
    reaches t k ≡ true
met_first s t short met k is =
    ap (λ l. cond (is_whole t) true (is_behind l (last_key t))) (sym is)
    ∙ sym (ap (λ b. cond b false (cond (is_whole t) true (is_behind (last_key s) (last_key t)))) short) ∙ met

-- input 1's end is met where input 0 is whole, or input 1 isn't known at its last key
abbrev pub IsPast : Stream → Stream → Type 0
IsPast s t = (is_whole t ≡ true) ⊎ ((k : Key) × (last_key t ≡ Some k) × (reaches s k ≡ false))

none_or : (b : Bool) → cond b false false ≡ false
none_or true = refl
none_or false = refl

pub second_met : (s t : Stream) → is_whole s ≡ false → IsPast s t → meets_first t s ≡ false
second_met s t short (inl whole) = rw whole refl
second_met s t short (inr (k, last, unknown)) =
    let above : not (is_above (last_key s) k) ≡ false = sym (rw short refl) ∙ unknown in
    ap (λ b. cond (is_whole t) false (cond b true (is_behind (last_key t) (last_key s)))) short
    ∙ ap (λ l. cond (is_whole t) false (is_behind l (last_key s))) last
    ∙ ap (cond (is_whole t) false) above ∙ none_or (is_whole t)

past_by : (s t : Stream) (b : Bool) (last : Option Key) → is_whole t ≡ b → last_key t ≡ last → is_whole s ≡ false →
    cond b false (is_behind last (last_key s)) ≡ false → IsPast s t
past_by s t true last whole is short met = inl whole
past_by s t false None whole is short met = absurd cc
past_by s t false (Some k) whole is short met = inr (k, is, rw short met)

met_second : (s t : Stream) → is_whole s ≡ false → meets_first t s ≡ false → IsPast s t
met_second s t short met = past_by s t (is_whole t) (last_key t) refl refl short
    (sym (ap (λ b. cond (is_whole t) false (cond b true (is_behind (last_key t) (last_key s)))) short) ∙ met)

-- a short input is known at a key up to its last
below_by : (s : Stream) (k : Key) (last : Option Key) → last_key s ≡ last → is_whole s ≡ false →
    reaches s k ≡ true → (j : Key) × (last_key s ≡ Some j) × Le k j
below_by s k None is short known = absurd (let no : true ≡ false = sym known ∙ rw (short, is) refl in cc)
below_by s k (Some j) is short known =
    let reached : not (is_above (Some j) k) ≡ true = sym (rw (short, is) refl) ∙ known in
    (j, is, not-true (is_above (Some j) k) reached)

short_below : (s : Stream) (k : Key) → is_whole s ≡ false → reaches s k ≡ true →
    (j : Key) × (last_key s ≡ Some j) × Le k j
short_below s k short known = below_by s k (last_key s) refl short known

-- what an input isn't known at stands past what it is known at
unknown_past : (s : Stream) (j k : Key) → reaches s j ≡ true → reaches s k ≡ false → Le j k
unknown_past s j k known unknown = false_from_ne_true _ (λ less.
    false≢true (sym unknown ∙ reach_down s k j (not_before_back k j less) known))

-- where the end that is met is that of a short input, the other is known wherever it is
pub covers : (side : Side) (own other : Stream) → is_whole own ≡ false → MeetsEnd side own other → (k : Key) →
    reaches own k ≡ true → reaches other k ≡ true
covers First own other short met k known =
    let last = short_below own k short known in
    reach_down other k last.0 last.2 (met_first own other short met last.0 last.1)
covers Second own other short met k known = by (met_second own other short met)
  where
    by : IsPast own other → reaches other k ≡ true
    by (inl whole) = rw whole refl
    by (inr (j, last, unknown)) =
        reach_down other k j (unknown_past own k j known unknown) (last_is_known other j last)

past_grows : (own other more : Stream) → IsBefore other more → IsPast own other → IsPast own more
past_grows own other more before (inl whole) =
    inl (ap is_whole (sym (before.done (whole_done other whole))) ∙ whole)
past_grows own other more before (inr (k, last, unknown)) = by (is_whole more) refl
  where
    known : reaches more k ≡ true
    known = (reach_grows other more before k (last_is_known other k last)).0

    by : (b : Bool) → is_whole more ≡ b → IsPast own more
    by true is = inl is
    by false is =
        let later = short_below more k is known in
        inr (
          later.0,
          later.1,
          false_from_ne_true (reaches own later.0)
              (λ reached. false≢true (sym unknown ∙ reach_down own k later.0 later.2 reached)),
        )

-- it stays the one that is met where the other goes on
pub met_stays : (side : Side) (own other more : Stream) → is_whole own ≡ false → IsBefore other more →
    MeetsEnd side own other → MeetsEnd side own more
met_stays First own other more short before met = first_met own more short
    (λ k is. (reach_grows other more before k (met_first own other short met k is)).0)
met_stays Second own other more short before met =
    second_met own more short (past_grows own other more before (met_second own other short met))

-- ---- nothing comes after it

none_more : (a b c : Bool) (o : Option Item) → (b ≡ true → a ≡ true) →
    cond (not (a && b)) (cond (c && b) o None) None ≡ None
none_more true true c o both = refl
none_more true false true o both = refl
none_more true false false o both = refl
none_more false true c o both = absurd (let no : false ≡ true = both refl in cc)
none_more false false true o both = refl
none_more false false false o both = refl

pub nothing_more : (choose : Choice) → IsChoice choose → (s s' t : Stream) → IsBefore s s' →
    ((k : Key) → reaches t k ≡ true → reaches s k ≡ true) → (merged choose s' t).items ≡ (merged choose s t).items
nothing_more choose good s s' t before covered =
    rule_grows choose good s s' t t before (before_itself t)
    ∙ ap (λ items. (merged choose s t).items ++ items)
    (unique None None (beyond s t (merged choose s' t).items) []
    (rises_passing (λ k. not (settled s t k)) None (merged choose s' t).items (rule_rises choose good s' t)) tt
    (λ k. at_passing (λ k. not (settled s t k)) k (merged choose s' t).items
    ∙ ap (λ o. cond (not (settled s t k)) o None) (rule_at choose good s' t k)
    ∙ none_more (reaches s k) (reaches t k) (reaches s' k)
    (choose (item_at k (rising_front s')) (item_at k (rising_front t))) (covered k)))
    ∙ append-nil (merged choose s t).items

-- ---- messages that change nothing

-- an input that counts as before
pub record IsAlike (s t : Stream) : Type 0 where
  pub whole : is_whole s ≡ is_whole t
  pub prefix : rising_front s ≡ rising_front t

given_by : Choice → Bool → List Item → Bool → List Item → List Item
given_by choose whole xs other ys = filter_map (λ key. choose (item_at key xs) (item_at key ys))
    (filter (λ key. cond whole true (not (is_above (last_key_from None xs) key))
    && cond other true (not (is_above (last_key_from None ys) key))) (keys_of_both xs ys))

pub merged_alike : (choose : Choice) (s s' t : Stream) → IsAlike s s' →
    (merged choose s t).items ≡ (merged choose s' t).items
unfolding given_by
merged_alike choose s s' t alike =
    ap (λ b. given_by choose b (rising_front s) (is_whole t) (rising_front t)) alike.whole
    ∙ ap (λ xs. given_by choose (is_whole s') xs (is_whole t) (rising_front t)) alike.prefix

met_by : Bool → List Item → Bool → List Item → Bool
met_by whole xs other ys =
    cond whole false (cond other true (is_behind (last_key_from None xs) (last_key_from None ys)))

pub met_alike : (side : Side) (own own' other : Stream) → IsAlike own own' → MeetsEnd side own other →
    MeetsEnd side own' other
unfolding met_by
met_alike First own own' other alike met =
    ap (λ b. met_by b (rising_front own') (is_whole other) (rising_front other)) (sym alike.whole)
    ∙ ap (λ xs. met_by (is_whole own) xs (is_whole other) (rising_front other)) (sym alike.prefix) ∙ met
met_alike Second own own' other alike met =
    ap (λ b. met_by (is_whole other) (rising_front other) b (rising_front own')) (sym alike.whole)
    ∙ ap (λ xs. met_by (is_whole other) (rising_front other) (is_whole own) xs) (sym alike.prefix) ∙ met

finish_alike : (port : ℕ) (a b : Bool) (xs ys : List Item) → a ≡ b → xs ≡ ys →
    (cond a Passed (Wrong Unordered (AtItem port (item_number (length xs + 1)))))
    ≡ (cond b Passed (Wrong Unordered (AtItem port (item_number (length ys + 1)))))
finish_alike port a b xs ys e f =
    ap (λ c. cond c Passed (Wrong Unordered (AtItem port (item_number (length xs + 1))))) e
    ∙ ap (λ (l : List Item). cond b Passed (Wrong Unordered (AtItem port (item_number (length l + 1))))) f

cut_by : (a b c : Bool) → (not a || (c && not b)) ≡ true → (a && b) ≡ false
cut_by true true true is = cc
cut_by true true false is = cc
cut_by true false c is = refl
cut_by false b c is = refl

-- a cut input is short
pub cut_short : (x : List Message) → is_cut x ≡ true → is_whole (stream_of x) ≡ false
cut_short x is = cut_by (is_rising_from None (items_of x)) (is_done (end_of x)) (has_end x) is

out_by : (a c d : Bool) → (not a || (c && not d)) ≡ true → c ≡ false → a ≡ false
out_by true true d is isnt = cc
out_by true false d is isnt = cc
out_by false c d is isnt = refl

-- an input that a message cuts, or that was cut before it, and counts as before
pub record IsCutBy (port : ℕ) (x x' : List Message) (finish : Finish) : Type 0 where
  pub cut : is_cut x' ≡ true
  pub alike : IsAlike (stream_of x) (stream_of x')
  pub fault : finish ≡ finish_at port (stream_of x')

-- whose items don't rise
out_is_cut : (x : List Message) → is_rising_from None (items_of x) ≡ false → is_cut x ≡ true
out_is_cut x isnt = or_left (not (is_rising_from None (items_of x))) (has_end x && not (is_done (end_of x)))
    (not_from_false (is_rising_from None (items_of x)) isnt)

out_is_short : (x : List Message) → is_rising_from None (items_of x) ≡ false → is_whole (stream_of x) ≡ false
out_is_short x isnt = and_left (is_rising_from None (items_of x)) (is_done (end_of x)) isnt

still_cut : (port : ℕ) (x x' : List Message) → is_rising_from None (items_of x) ≡ false →
    (is_rising_from None (items_of x') ≡ false)
    × (rising_from None (items_of x') ≡ rising_from None (items_of x)) →
    IsCutBy port x x' (finish_at port (stream_of x))
still_cut port x x' isnt rest = record {
  cut = out_is_cut x' rest.0;
  alike = record { whole = out_is_short x isnt ∙ sym (out_is_short x' rest.0); prefix = sym rest.1 };
  fault = finish_alike port (is_rising_from None (items_of x)) (is_rising_from None (items_of x'))
      (rising_from None (items_of x)) (rising_from None (items_of x')) (isnt ∙ sym rest.0) (sym rest.1);
}

-- a message behind an item out of order
pub spent : (port : ℕ) (x : List Message) (m : Message) → is_cut x ≡ true → has_end x ≡ false →
    IsCutBy port x (x ++ m ∷ []) (finish_at port (stream_of x))
spent port x (One item) is going =
    let out : is_rising_from None (items_of x) ≡ false =
    out_by (is_rising_from None (items_of x)) (has_end x) (is_done (end_of x)) is going in
    still_cut port x (x ++ One item ∷ []) out
    (rw (items_of-item x item going) (after_fault None (items_of x) (item ∷ []) out))
spent port x (Last end) is going =
    let out : is_rising_from None (items_of x) ≡ false =
    out_by (is_rising_from None (items_of x)) (has_end x) (is_done (end_of x)) is going in
    still_cut port x (x ++ Last end ∷ []) out (rw (items_of-end x end) (out, refl))

-- a broken end behind items in order
pub broken_cut : (port : ℕ) (x : List Message) → is_rising_from None (items_of x) ≡ true → has_end x ≡ false →
    IsCutBy port x (x ++ Last Broken ∷ []) Passed
broken_cut port x rises going =
    let items : items_of (x ++ Last Broken ∷ []) ≡ items_of x = items_of-end x Broken in
    let end : end_of (x ++ Last Broken ∷ []) ≡ Broken = end_of-end x Broken going in
    record {
      cut = rw (items, rises, has_end-end x Broken, end) refl;
      alike = record { whole = rw (items, end, end_of-none x going) refl; prefix = rw items refl };
      fault = rw (items, rises) refl;
    }

number_by : (count number n : ℕ) → count ≡ min n (2 ^ 64 - 1) → number ≡ min (count + 1) (2 ^ 64 - 1) →
    number ≡ min (n + 1) (2 ^ 64 - 1)
number_by count number n is e = grind (arith, is, e)

-- an item out of order behind items in order
pub order_cut : (port : ℕ) (x : List Message) (item : Item) (count : ℕ) →
    is_rising_from None (items_of x) ≡ true → has_end x ≡ false →
    is_above (last_key_from None (items_of x)) (key_of item) ≡ false → count ≡ item_number (length (items_of x)) →
    IsCutBy port x (x ++ One item ∷ []) (Wrong Unordered (AtItem port (item_number (count + 1))))
order_cut port x item count rises going below count_is =
    let items : items_of (x ++ One item ∷ []) ≡ items_of x ++ item ∷ [] = items_of-item x item going in
    let rest = out_of_order None (items_of x) item rises below in
    let out : is_rising_from None (items_of (x ++ One item ∷ [])) ≡ false = rw items rest.0 in
    let prefix : rising_from None (items_of (x ++ One item ∷ [])) ≡ rising_from None (items_of x) = rw items rest.1 in
    let told : item_number (count + 1) ≡ item_number (length (items_of x) + 1) =
    number_by count (item_number (count + 1)) (length (items_of x)) count_is refl in
    record {
      cut = out_is_cut (x ++ One item ∷ []) out;
      alike = record {
        whole = broken_is_short (stream_of x) (end_of-none x going) ∙ sym (out_is_short (x ++ One item ∷ []) out);
        prefix = sym prefix;
      };
      fault = rw (out, prefix, rising_all None (items_of x) rises)
          (ap (λ n. Wrong Unordered (AtItem port n)) told);
    }
