-- Lemmas on the calls of appends: what they want, and what a message does.
use Rattle.std.proofs.Common.{◌≡◌, ◌⊎◌, inl, inr, ℕ, ◌+◌, ◌≤◌, List, [], ◌∷◌, ◌++◌, map, Bool, true, false, cond, Option, Some, None, option_to_list, refl, sym, ap, ◌∙◌, arith, append_assoc}
use Rattle.std.specs.Prelude.{◌≢◌, ◌↔◌, is_some}
use Rattle.std.proofs.lemmas.List.{append-nil}
use Rattle.osm_entity.proofs.PortLemmas.{end_of-end, fixed-end, fixed-more, has_end-end, has_end-item, stream_of-end, stream_of-item, stream_of-none}
use Rattle.osm_entity.specs.Growth.{broken_after}
use Rattle.osm_entity.specs.Items.{ItemValue as Item}
use Rattle.osm_entity.specs.Meaning.{Cut, finish_after}
use Rattle.osm_entity.specs.Ports.{end_of, fixed, has_end, items_of, stream_of}
use Rattle.osm_entity.specs.Streams.{Stream}
use Rattle.osm_entity.specs.Tasks.{verdict_as}
use Rattle.osm_entity.specs.declared.stream.End.{End}
use Rattle.osm_entity.specs.declared.stream.End.TheVariants.{Done, Broken}
use Rattle.osm_entity.specs.declared.stream.Message.{Message}
use Rattle.osm_entity.specs.declared.stream.Message.TheVariants.{Item as One, End as Last}
use Rattle.osm_entity.specs.declared.stream.Want.TheVariants.{Pull, Take, Give, Ended}
use Rattle.osm_entity.specs.declared.verdict.Verdict.TheVariants.{Running}
use Rattle.osm_merge.specs.Append.{AppendStands, appending, append_verdict, append_want, end_come, end_appended, appended}
use Rattle.osm_merge.specs.Heads.{one_if}
use Rattle.osm_merge.specs.declared.append.Append.{Append}

-- ---- what it wants

pub take_empty : (held : Option Message) (first second : Option End) (port : ℕ) →
    append_want held first second ≡ Take port →
    (held ≡ None) × (((port ≡ 0) × (first ≡ None)) ⊎ ((port ≡ 1) × (second ≡ None)))
take_empty (Some m) first second port want = absurd cc
take_empty None None second port want = (refl, inl (cc, refl))
take_empty None (Some d) None port want = (refl, inr (cc, refl))
take_empty None (Some d) (Some e) port want = absurd cc

at_first : {P Q : Type 0} (port : ℕ) → port ≡ 0 → ((port ≡ 0) × P) ⊎ ((port ≡ 1) × Q) → P
at_first port is (inl at) = at.1
at_first port is (inr at) = absurd (omega (arith, is, at.0))

at_second : {P Q : Type 0} (port : ℕ) → port ≡ 1 → ((port ≡ 0) × P) ⊎ ((port ≡ 1) × Q) → Q
at_second port is (inl at) = absurd (omega (arith, is, at.0))
at_second port is (inr at) = at.1

pub take_some : (held : Option Message) (first second : Option End) (port : ℕ) → append_want held first second ≡ Take port →
    (port ≡ 1) → (d : End) × (first ≡ Some d)
take_some (Some m) first second port want is = absurd cc
take_some None None second port want is = absurd (let no : Take 0 ≡ Take 1 = want ∙ ap Take is in cc)
take_some None (Some d) None port want is = (d, refl)
take_some None (Some d) (Some e) port want is = absurd cc

pub give_held : (held : Option Message) (first second : Option End) (port : ℕ) → append_want held first second ≡ Give port →
    (port ≡ 0) × ((m : Message) × (held ≡ Some m))
give_held (Some m) first second port want = (cc, (m, refl))
give_held None None second port want = absurd cc
give_held None (Some d) None port want = absurd cc
give_held None (Some d) (Some e) port want = absurd cc

pub end_all : (held : Option Message) (first second : Option End) → append_want held first second ≡ Ended →
    (held ≡ None) × ((d : End) × (first ≡ Some d)) × ((e : End) × (second ≡ Some e))
end_all (Some m) first second want = absurd cc
end_all None None second want = absurd cc
end_all None (Some d) None want = absurd cc
end_all None (Some d) (Some e) want = (refl, (d, refl), (e, refl))

pub never_pulls : (held : Option Message) (first second : Option End) → append_want held first second ≢ Pull
never_pulls (Some m) first second = λ want. cc
never_pulls None None second = λ want. cc
never_pulls None (Some d) None = λ want. cc
never_pulls None (Some d) (Some e) = λ want. cc

never_running : (end : End) → verdict_as 0 0 (finish_after end) ≢ Running
never_running Done = λ is. cc
never_running Broken = λ is. cc

pub runs : (held : Option Message) (first second : Option End) →
    (append_verdict held first second ≡ Running) ↔ (append_want held first second ≢ Ended)
runs (Some m) first second = (λ is want. cc, λ on. refl)
runs None None second = (λ is want. cc, λ on. refl)
runs None (Some d) None = (λ is want. cc, λ on. refl)
runs None (Some d) (Some e) = (λ is want. never_running (end_appended d e) is, λ on. absurd (on refl))

pub never_cut : (end : End) → finish_after end ≢ Cut
never_cut Done = λ is. cc
never_cut Broken = λ is. cc

pub verdict_by : (held : Option Message) (first second : Option End) (d e end last : End) → held ≡ None →
    first ≡ Some d → second ≡ Some e → end ≡ d → last ≡ e →
    append_verdict held first second ≡ verdict_as 0 0 (finish_after (end_appended end last))
verdict_by held first second d e end last none is is_last end_is last_is =
    rw (none, is, is_last, end_is, last_is) refl

-- ---- which ends came

pub no_end : (b : Bool) (end : End) → None ≡ cond b (Some end) None → b ≡ false
no_end true end is = absurd cc
no_end false end is = refl

pub some_end : (b : Bool) (end d : End) → Some d ≡ cond b (Some end) None → (b ≡ true) × (end ≡ d)
some_end true end d is = (refl, cc)
some_end false end d is = absurd cc

come_item : (x : List Message) (item : Item) → has_end x ≡ false → None ≡ end_come (x ++ One item ∷ [])
come_item x item going = sym (ap (λ b. cond b (Some (end_of (x ++ One item ∷ []))) None) (has_end-item x item ∙ going))

come_end : (x : List Message) (end : End) → has_end x ≡ false → Some end ≡ end_come (x ++ Last end ∷ [])
come_end x end going = rw (has_end-end x end, end_of-end x end going) refl

pub appended_broken : (end : End) → end_appended end Broken ≡ Broken
appended_broken Done = refl
appended_broken Broken = refl

nothing : Stream
nothing = broken_after []

-- ---- messages of input 0, before which none of input 1 came

item_of_first : (x y : List Message) (item : Item) → has_end x ≡ false →
    fixed false (appended (stream_of x) (stream_of [])) ≡ y ++ [] →
    fixed false (appended (stream_of (x ++ One item ∷ [])) (stream_of [])) ≡ y ++ One item ∷ []
item_of_first x y item going gave =
    ap (λ s. fixed false (appended s (stream_of []))) (stream_of-item x item going)
    ∙ fixed-more (appended (broken_after (items_of x)) (stream_of []))
    (appended (broken_after (items_of x ++ item ∷ [])) (stream_of [])) (item ∷ []) refl
    ∙ ap (λ ms. ms ++ One item ∷ [])
    (sym (ap (λ s. fixed false (appended s (stream_of []))) (stream_of-none x going)) ∙ gave ∙ append-nil y)

end_by : (xs : List Item) (end : End) → fixed false (appended (record { items = xs; end = end }) (stream_of []))
    ≡ fixed false (appended (broken_after xs) (stream_of []))
end_by xs Done = ap (λ items. map One items ++ []) (append-nil xs)
end_by xs Broken = refl

end_of_first : (x y : List Message) (end : End) → has_end x ≡ false →
    fixed false (appended (stream_of x) (stream_of [])) ≡ y ++ [] →
    fixed false (appended (stream_of (x ++ Last end ∷ [])) (stream_of [])) ≡ y ++ []
end_of_first x y end going gave =
    ap (λ s. fixed false (appended s (stream_of []))) (stream_of-end x end going) ∙ end_by (items_of x) end
    ∙ sym (ap (λ s. fixed false (appended s (stream_of []))) (stream_of-none x going)) ∙ gave

module _ (a : Append) (want : appending.wanted a ≡ Take 0) where
  free_first : (a.held ≡ None) × (a.first ≡ None)
  free_first = let free = take_empty a.held a.first a.second 0 want in (free.0, at_first 0 refl free.1)

  going_first : (x z y : List Message) → AppendStands a x z y → has_end x ≡ false
  going_first x z y s = no_end (has_end x) (end_of x) (sym free_first.1 ∙ s.first)

  none_of_second : (x z y : List Message) → AppendStands a x z y → z ≡ []
  none_of_second x z y s = s.order (going_first x z y s)

  gave_first : (x z y : List Message) (s : AppendStands a x z y) →
      fixed false (appended (stream_of x) (stream_of [])) ≡ y ++ []
  gave_first x z y s =
      sym (ap (λ ms. fixed (has_end ms) (appended (stream_of x) (stream_of ms))) (none_of_second x z y s)) ∙ s.gave
      ∙ ap (λ h. y ++ option_to_list h) free_first.0

  pub first_item : (item : Item) (x z y : List Message) → AppendStands a x z y →
      AppendStands (record { held = Some (One item); first = a.first; second = a.second }) (x ++ One item ∷ []) z y
  first_item item x z y s = record {
    first = free_first.1 ∙ come_item x item (going_first x z y s);
    second = s.second;
    order = λ going. none_of_second x z y s;
    gave = ap (λ ms. fixed (has_end ms) (appended (stream_of (x ++ One item ∷ [])) (stream_of ms)))
        (none_of_second x z y s) ∙ item_of_first x y item (going_first x z y s) (gave_first x z y s);
  }

  pub first_end : (end : End) (x z y : List Message) → AppendStands a x z y →
      AppendStands (record { held = a.held; first = Some end; second = a.second }) (x ++ Last end ∷ []) z y
  first_end end x z y s = record {
    first = come_end x end (going_first x z y s);
    second = s.second;
    order = λ going. none_of_second x z y s;
    gave = ap (λ ms. fixed (has_end ms) (appended (stream_of (x ++ Last end ∷ [])) (stream_of ms)))
        (none_of_second x z y s) ∙ end_of_first x y end (going_first x z y s) (gave_first x z y s)
        ∙ sym (ap (λ h. y ++ option_to_list h) free_first.0);
  }

  pub first_left : (held : Option Message) → one_if (is_some held) ≤ one_if (is_some a.held) + 1
  first_left None = omega arith
  first_left (Some m) = omega arith

-- ---- messages of input 1

more_done : (s : Stream) (zs : List Item) (item : Item) → s.end ≡ Done →
    fixed false (appended s (broken_after (zs ++ item ∷ []))) ≡ fixed false (appended s (broken_after zs)) ++ One item ∷ []
more_done s zs item done = fixed-more (appended s (broken_after zs)) (appended s (broken_after (zs ++ item ∷ [])))
    (item ∷ []) (rw done (sym (append_assoc s.items zs (item ∷ []))))

more_broken : (s : Stream) (zs : List Item) (item : Item) → s.end ≡ Broken →
    fixed false (appended s (broken_after (zs ++ item ∷ []))) ≡ fixed false (appended s (broken_after zs))
more_broken s zs item broken = rw broken refl

module _ (a : Append) (end : End) (want : appending.wanted a ≡ Take 1) (first : a.first ≡ Some end) where
  free_second : (a.held ≡ None) × (a.second ≡ None)
  free_second = let free = take_empty a.held a.first a.second 1 want in (free.0, at_second 1 refl free.1)

  module _ (x z y : List Message) (s : AppendStands a x z y) where
    going_second : has_end z ≡ false
    going_second = no_end (has_end z) (end_of z) (sym free_second.1 ∙ s.second)

    over_first : (has_end x ≡ true) × (end_of x ≡ end)
    over_first = some_end (has_end x) (end_of x) end (sym first ∙ s.first)

    gave_second : fixed false (appended (stream_of x) (broken_after (items_of z))) ≡ y
    gave_second =
        sym (ap (λ b. fixed b (appended (stream_of x) (broken_after (items_of z)))) going_second)
        ∙ sym (ap (λ t. fixed (has_end z) (appended (stream_of x) t)) (stream_of-none z going_second)) ∙ s.gave
        ∙ ap (λ h. y ++ option_to_list h) free_second.0 ∙ append-nil y

    with_item : (item : Item) →
        fixed (has_end (z ++ One item ∷ [])) (appended (stream_of x) (stream_of (z ++ One item ∷ [])))
        ≡ fixed false (appended (stream_of x) (broken_after (items_of z ++ item ∷ [])))
    with_item item =
        ap (λ b. fixed b (appended (stream_of x) (stream_of (z ++ One item ∷ [])))) (has_end-item z item ∙ going_second)
        ∙ ap (λ t. fixed false (appended (stream_of x) t)) (stream_of-item z item going_second)

    pub second_item : (item : Item) → end ≡ Done → AppendStands
        (record { held = Some (One item); first = a.first; second = a.second }) x (z ++ One item ∷ []) y
    second_item item done = record {
      first = s.first;
      second = free_second.1 ∙ come_item z item going_second;
      order = λ going. absurd (let over = over_first.0 in cc);
      gave = with_item item ∙ more_done (stream_of x) (items_of z) item (over_first.1 ∙ done)
          ∙ ap (λ ms. ms ++ One item ∷ []) gave_second;
    }

    pub second_dropped : (item : Item) → end ≡ Broken → AppendStands a x (z ++ One item ∷ []) y
    second_dropped item broken = record {
      first = s.first;
      second = free_second.1 ∙ come_item z item going_second;
      order = λ going. absurd (let over = over_first.0 in cc);
      gave = with_item item ∙ more_broken (stream_of x) (items_of z) item (over_first.1 ∙ broken) ∙ gave_second
          ∙ sym (append-nil y) ∙ sym (ap (λ h. y ++ option_to_list h) free_second.0);
    }

    pub second_end : (last result : End) → result ≡ end_appended end last → AppendStands
        (record { held = Some (Last result); first = a.first; second = Some last }) x (z ++ Last last ∷ []) y
    second_end last result is = record {
      first = s.first;
      second = come_end z last going_second;
      order = λ going. absurd (let over = over_first.0 in cc);
      gave = ap (λ b. fixed b (appended (stream_of x) (stream_of (z ++ Last last ∷ [])))) (has_end-end z last)
          ∙ ap (λ t. fixed true (appended (stream_of x) t)) (stream_of-end z last going_second)
          ∙ fixed-end (appended (stream_of x) (record { items = items_of z; end = last }))
          ∙ ap (λ ms. ms ++ Last (end_appended (end_of x) last) ∷ []) gave_second
          ∙ ap (λ e. y ++ Last e ∷ []) (ap (λ e. end_appended e last) over_first.1 ∙ sym is);
    }

  pub second_left : (held : Option Message) → one_if (is_some held) ≤ one_if (is_some a.held) + 1
  second_left None = omega arith
  second_left (Some m) = omega arith

-- ---- a message given

-- where input 0 hasn't ended it takes from it
pub none_first : (a : Append) (port : ℕ) → appending.wanted a ≡ Take port → a.first ≡ None → port ≡ 0
none_first a port want none = by (take_empty a.held a.first a.second port want).1
  where
    by : ((port ≡ 0) × (a.first ≡ None)) ⊎ ((port ≡ 1) × (a.second ≡ None)) → port ≡ 0
    by (inl at) = at.0
    by (inr at) = let first = take_some a.held a.first a.second port want at.0 in
        absurd (let e : None ≡ Some first.0 = sym none ∙ first.1 in cc)

-- what it held was given
pub held_given : (a : Append) (message : Message) (kept : Option Message) → a.held ≡ Some message → kept ≡ None →
    (x z y : List Message) → AppendStands a x z y →
    AppendStands (record { held = kept; first = a.first; second = a.second }) x z (y ++ message ∷ [])
held_given a message kept is kept_is x z y s = record {
  first = s.first;
  second = s.second;
  order = s.order;
  gave = s.gave ∙ rw (is, kept_is) (sym (append-nil (y ++ message ∷ [])));
}

pub first_give : (a : Append) (port : ℕ) → appending.wanted a ≡ Give port → port ≡ 0
first_give a port want = (give_held a.held a.first a.second port want).0
