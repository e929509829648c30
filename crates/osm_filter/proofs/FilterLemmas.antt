-- The machine of a tag filter keeps its rule, call by call.
use Rattle.std.proofs.Common.{◌≡◌, ℕ, ◌≤◌, List, [], ◌∷◌, ◌++◌, length, Bool, true, false, Option, Some, None, option_to_list, refl, sym, ap, ◌∙◌, arith, map, cond}
use Rattle.std.specs.Prelude.{◌≢◌, ◌↔◌, if◌then◌else◌}
use Rattle.std.specs.List.{filter}
use Rattle.std.proofs.lemmas.List.{append-nil}
use Rattle.std.proofs.lemmas.List.Elements.{filter-append}
use Rattle.osm_entity.specs.Calls.{Takes}
use Rattle.osm_entity.specs.Growth.{Grows, IsMonotone}
use Rattle.osm_entity.specs.Items.{ItemValue}
use Rattle.osm_entity.specs.Machines.{AreLawful}
use Rattle.osm_entity.specs.Meaning.{Cut, finish_after}
use Rattle.osm_entity.specs.OneInput.{KeepsItsRule, GivesAtOnce, meanings_of}
use Rattle.osm_entity.specs.Ports.{items_of, end_of, has_end, fixed, stream_of}
use Rattle.osm_entity.specs.Streams.{IsBefore}
use Rattle.osm_entity.specs.Tasks.{verdict_as}
use Rattle.osm_entity.specs.declared.stream.End.{End}
use Rattle.osm_entity.specs.declared.stream.End.TheVariants.{Done, Broken}
use Rattle.osm_entity.specs.declared.stream.Message.{Message}
use Rattle.osm_entity.specs.declared.stream.Message.TheVariants.{Item as One, End as Last}
use Rattle.osm_entity.specs.declared.stream.Want.TheVariants.{Pull, Take, Give, Ended}
use Rattle.osm_entity.specs.declared.verdict.Verdict.TheVariants.{Running}
use Rattle.osm_entity.proofs.GrowthLemmas.{fixed-item, fixed-last, monotone}
use Rattle.osm_entity.proofs.OneInputLemmas.{rule_is_lawful, takes_by}
use Rattle.osm_entity.proofs.PortLemmas.{end_of-end, end_of-none, fixed_before, has_end-end, has_end-fixed, has_end-item, items_of-fixed, none_before, stream_of-fixed}
use Rattle.osm_filter.specs.Filters.{FilterOptions, filter_keeps, filtered}
use Rattle.osm_filter.specs.Filtering.{FilterValue, FilterStands, filter_wants, filter_verdict, filtering}

-- ---- the rule

-- one item more is kept or not, and the end fixes no item
pub filtered_grows : (options : FilterOptions) → Grows (filtered options)
filtered_grows options =
    let keeps = λ (item : ItemValue). filter_keeps options item.entity in
    record {
      more = λ xs x. filter keeps (x ∷ []);
      item = λ xs x. filter-append keeps xs (x ∷ []);
      last = λ xs end. [];
      ended = λ xs end. sym (append-nil (filter keeps xs));
      broken = λ xs. refl;
    }

pub filtered_is_monotone : (options : FilterOptions) → IsMonotone (filtered options)
filtered_is_monotone options = monotone (filtered options) (filtered_grows options)

-- ---- what it stands for

abbrev met : List Message → Option End
met x = if has_end x then Some (end_of x) else None

came : (b : Bool) (e f : End) → Some f ≡ (if b then Some e else None) → (b ≡ true) × (e ≡ f)
came true e f is = (refl, cc)
came false e f is = absurd cc

none_came : (b : Bool) (e : End) → None ≡ (if b then Some e else None) → b ≡ false
none_came true e is = absurd cc
none_came false e is = refl

-- where it holds nothing, it gave all that its rule fixes
gave_all : (options : FilterOptions) (held : Option Message) (x y : List Message) → held ≡ None →
    fixed (has_end x) (filtered options (stream_of x)) ≡ y ++ option_to_list held →
    fixed (has_end x) (filtered options (stream_of x)) ≡ y
gave_all options held x y none given = given ∙ ap (λ h. y ++ option_to_list h) none ∙ append-nil y

before : (f : FilterValue) (x y : List Message) → FilterStands f x y →
    IsBefore (stream_of y) (filtered f.options (stream_of x))
before f x y s = fixed_before y (option_to_list f.held) (filtered f.options (stream_of x)) (has_end x) s.given
    (end_of-none x)

ends : (options : FilterOptions) (held : Option Message) (end : Option End) (x y : List Message) →
    FilterStands (record { options = options; held = held; end = end }) x y → filter_wants held end ≡ Ended →
    (has_end x ≡ true) × (has_end y ≡ true) × (stream_of y ≡ filtered options (stream_of x))
    × (filter_verdict held end ≡ verdict_as 0 0 (finish_after (end_of x)))
ends options (Some message) end x y s w = absurd cc
ends options None None x y s w = absurd cc
ends options None (Some e) x y s w =
    let over = came (has_end x) (end_of x) e s.met in
    let all : fixed (has_end x) (filtered options (stream_of x)) ≡ y = gave_all options None x y refl s.given in
    let whole : fixed true (filtered options (stream_of x)) ≡ y =
    ap (λ b. fixed b (filtered options (stream_of x))) (sym over.0) ∙ all in (
      over.0,
      ap has_end (sym whole) ∙ has_end-fixed true (filtered options (stream_of x)),
      ap stream_of (sym whole) ∙ stream_of-fixed (filtered options (stream_of x)),
      ap (λ d. verdict_as 0 0 (finish_after d)) (sym over.1),
    )

empty : (held : Option Message) (end : Option End) (port : ℕ) → filter_wants held end ≡ Take port →
    (port ≡ 0) × (held ≡ None) × (end ≡ None)
empty (Some message) end port w = absurd cc
empty None None port w = (cc, refl, refl)
empty None (Some e) port w = absurd cc

-- where it takes, its input goes on and it gave all that is fixed
at_take : (f : FilterValue) (x y : List Message) (port : ℕ) → FilterStands f x y →
    filter_wants f.held f.end ≡ Take port →
    (has_end x ≡ false) × (fixed (has_end x) (filtered f.options (stream_of x)) ≡ y)
at_take f x y port s w =
    let at = empty f.held f.end port w in
    (none_came (has_end x) (end_of x) (sym at.2 ∙ s.met), gave_all f.options f.held x y at.1 s.given)

pub filtering_gives_at_once : GivesAtOnce filtering
filtering_gives_at_once f x y port passes s w =
    ap items_of (sym (at_take f x y port s w).1) ∙ items_of-fixed (has_end x) (filtered f.options (stream_of x))

hands : (options : FilterOptions) (held : Option Message) (end : Option End) (x y : List Message) (port : ℕ) →
    FilterStands (record { options = options; held = held; end = end }) x y → filter_wants held end ≡ Give port →
    (port ≡ 0) × (has_end y ≡ false)
hands options (Some message) end x y port s w =
    (cc, none_before y message [] (filtered options (stream_of x)) (has_end x) s.given)
hands options None None x y port s w = absurd cc
hands options None (Some e) x y port s w = absurd cc

runs : (held : Option Message) (end : Option End) →
    (filter_verdict held end ≡ Running) ↔ (filter_wants held end ≢ Ended)
runs (Some message) end = (λ is w. cc, λ no. refl)
runs None None = (λ is w. cc, λ no. refl)
runs None (Some Done) = (λ is w. cc, λ no. absurd (no refl))
runs None (Some Broken) = (λ is w. cc, λ no. absurd (no refl))

never_pulls : (held : Option Message) (end : Option End) → filter_wants held end ≢ Pull
never_pulls (Some message) end = λ is. cc
never_pulls None None = λ is. cc
never_pulls None (Some e) = λ is. cc

never_cut : (end : End) → finish_after end ≢ Cut
never_cut Done = λ is. cc
never_cut Broken = λ is. cc

pub filtering_keeps : KeepsItsRule filtering
filtering_keeps = record {
  before = before;
  ended = λ f x y s w. let all = ends f.options f.held f.end x y s w in (all.0, all.1);
  whole = λ f x y s w. (ends f.options f.held f.end x y s w).2;
  judged = λ f x y s w. (ends f.options f.held f.end x y s w).3;
  takes = λ f x y port s w. ((empty f.held f.end port w).0, (at_take f x y port s w).0);
  hands = λ f x y port s w. hands f.options f.held f.end x y port s w;
  running = λ f x y s. runs f.held f.end;
  never_pulls = λ f x y s. never_pulls f.held f.end;
  never_cut = λ f s. never_cut s.end;
  monotone = λ f. filtered_is_monotone f.options;
}

pub filtering_is_lawful : AreLawful (meanings_of filtering)
filtering_is_lawful = rule_is_lawful filtering filtering_keeps filtering_gives_at_once
    (λ f x y port holds s w. absurd cc)

-- ---- the calls

met_more : (message : Message) (x : List Message) → has_end x ≡ false → met (message ∷ []) ≡ met (x ++ message ∷ [])
met_more (One item) x none =
    sym (ap (λ b. if b then Some (end_of (x ++ One item ∷ [])) else None) (has_end-item x item ∙ none))
met_more (Last end) x none = rw (has_end-end x end, end_of-end x end none) refl

-- what is given of an item: the item where it is kept
passed_on : (keeps : Bool) (item : ItemValue) →
    map One (cond keeps (item ∷ []) []) ≡ option_to_list (if keeps then Some (One item) else None)
passed_on true item = refl
passed_on false item = refl

at_most_one : (held : Option Message) → length (option_to_list held) ≤ 1
at_most_one (Some message) = omega arith
at_most_one None = omega arith

-- an item that is taken is held where it is kept
pub filter_takes_item : (f new : FilterValue) (item : ItemValue) (port : ℕ) → new.options ≡ f.options →
    new.held ≡ (if filter_keeps f.options item.entity then Some (One item) else None) → new.end ≡ f.end →
    filter_wants f.held f.end ≡ Take port →
    Takes (meanings_of filtering) port (One item) f new
unfolding filtered_grows
filter_takes_item f new item port same passed still w = takes_by filtering port (One item) f new
    (empty f.held f.end port w).0 takes (omega (arith, at_most_one new.held)) where
      takes : (x y : List Message) → FilterStands f x y → FilterStands new (x ++ One item ∷ []) y
      takes x y s =
          let at = at_take f x y port s w in
          record {
            given = ap (λ o. fixed (has_end (x ++ One item ∷ [])) (filtered o (stream_of (x ++ One item ∷ [])))) same
                ∙ fixed-item (filtered f.options) (filtered_grows f.options) x y item at.0 at.1
                ∙ ap (λ ms. y ++ ms) (passed_on (filter_keeps f.options item.entity) item)
                ∙ ap (λ h. y ++ option_to_list h) (sym passed);
            met = still ∙ (empty f.held f.end port w).2 ∙ met_more (One item) x at.0;
          }

-- an end that is taken is held
pub filter_takes_end : (f new : FilterValue) (end : End) (port : ℕ) → new.options ≡ f.options →
    new.held ≡ Some (Last end) → new.end ≡ Some end → filter_wants f.held f.end ≡ Take port →
    Takes (meanings_of filtering) port (Last end) f new
unfolding filtered_grows
filter_takes_end f new end port same held ended w = takes_by filtering port (Last end) f new
    (empty f.held f.end port w).0 takes (omega (arith, at_most_one new.held)) where
      takes : (x y : List Message) → FilterStands f x y → FilterStands new (x ++ Last end ∷ []) y
      takes x y s =
          let at = at_take f x y port s w in
          record {
            given = ap (λ o. fixed (has_end (x ++ Last end ∷ [])) (filtered o (stream_of (x ++ Last end ∷ [])))) same
                ∙ fixed-last (filtered f.options) (filtered_grows f.options) x y end at.0 at.1
                ∙ ap (λ ms. ms ++ Last end ∷ []) (append-nil y)
                ∙ ap (λ h. y ++ option_to_list h) (sym held);
            met = ended ∙ met_more (Last end) x at.0;
          }
