-- Lemmas on what a spool sent and what was taken from it.
use Rattle.std.proofs.Common.{◌≡◌, ℕ, ◌+◌, Bool, true, false, true≢false, List, [], ◌∷◌, ◌++◌, map, length, All, refl, sym, ap, ◌∙◌, subst, arith, Option, Some, None}
use Rattle.std.proofs.lemmas.List.{append-nil, map-append, length-append}
use Rattle.std.proofs.lemmas.List.Elements.{All-head, All-nil}
use Rattle.std.specs.Prelude.{MatchOption, ⊤}
use Rattle.crossbeam_queue.specs.Fifo.{Held}
use Rattle.osm_entity.specs.Items.{ItemValue}
use Rattle.osm_entity.specs.Ports.{has_end}
use Rattle.osm_entity.specs.Prefixes.{IsPrefix}
use Rattle.osm_entity.specs.declared.stream.Message.TheVariants as Says
use Rattle.osm_pipe.specs.Rule.{hand, HasSent, HasTaken}
use Rattle.osm_pipe.specs.Spool.{last_message, spooled, shown, kept_of, GivesSpool, TakesSpool}
use Rattle.osm_pipe.specs.declared.rule.Hand.{Hand}
use Rattle.osm_pipe.specs.declared.store.Last.{Last}

-- without an end nothing was sent into the slot
pub no_ends : (items : List ItemValue) (ends : List Last) → has_end (spooled items ends) ≡ false → ends ≡ []
no_ends items [] is = refl
no_ends [] (l ∷ ls) is = cc
no_ends (i ∷ items) (l ∷ ls) is = no_ends items (l ∷ ls) is

spooled-one : (items : List ItemValue) (x : ItemValue) →
    spooled (items ++ x ∷ []) [] ≡ spooled items [] ++ Says.Item x ∷ []
spooled-one [] x = refl
spooled-one (i ∷ items) x = ap (λ l. Says.Item i ∷ l) (spooled-one items x)

-- the end after items alone
pub spooled_last : (items : List ItemValue) (l : Last) →
    spooled items (l ∷ []) ≡ spooled items [] ++ last_message l ∷ []
spooled_last [] l = refl
spooled_last (i ∷ items) l = ap (λ ms. Says.Item i ∷ ms) (spooled_last items l)

-- one item more
pub spooled_item : (items : List ItemValue) (ends : List Last) (x : ItemValue) → ends ≡ [] →
    spooled (items ++ x ∷ []) ends ≡ spooled items ends ++ Says.Item x ∷ []
spooled_item items ends x none =
    subst (λ e. spooled (items ++ x ∷ []) e ≡ spooled items e ++ Says.Item x ∷ []) (sym none) (spooled-one items x)

-- the end
pub spooled_end : (items : List ItemValue) (ends : List Last) (l : Last) → ends ≡ [] →
    spooled items (ends ++ l ∷ []) ≡ spooled items ends ++ last_message l ∷ []
spooled_end items ends l none =
    subst (λ e. spooled items (e ++ l ∷ []) ≡ spooled items e ++ last_message l ∷ []) (sym none) (spooled_last items l)

-- before its end nothing of the slot counts as taken
pub unshown : (done : Bool) (ends : List Last) → done ≡ false → shown done ends ≡ []
unshown done ends is = subst (λ d. shown d ends ≡ []) (sym is) refl

-- before its end it does not matter what was found in the slot
pub shown_none : (done : Bool) (ends more : List Last) → done ≡ false → shown done ends ≡ shown done more
shown_none done ends more is = unshown done ends is ∙ sym (unshown done more is)

-- the end is taken
pub shown_end : (items : List ItemValue) (ends new : Hand Last) (last : Option Last) (l : Last) (done : Bool) →
    new ≡ hand false true None [] (kept_of last) → last ≡ Some l → done ≡ false →
    spooled items (shown true new.taken) ≡ spooled items (shown done ends.taken) ++ Says.End l.end ∷ []
shown_end items ends new last l done is some not =
    let kept : new.taken ≡ l ∷ [] = ap (λ (h : Hand Last). h.taken) is ∙ ap kept_of some in
    ap (λ k. spooled items k) kept ∙ spooled_last items l
    ∙ ap (λ k. spooled items k ++ Says.End l.end ∷ []) (sym (unshown done ends.taken not))

-- what a look into the slot finds is kept
pub found : (last result : Option Last) (old new : Hand Last) → last ≡ None →
    old ≡ hand false true None [] (kept_of last) →
    MatchOption result ((new ≡ old) × Held 0 (λ (items : List Last). ⊤)) (λ x. HasTaken old x new) →
    new ≡ hand false true None [] (kept_of result)
found last None old new none is looked = looked.0 ∙ is ∙ ap (λ l. hand false true None [] (kept_of l)) none
found last (Some x) old new none is looked =
    let empty = is ∙ ap (λ l. hand false true None [] (kept_of l)) none in
    looked ∙ ap (λ (h : Hand Last). hand h.sends h.takes h.limit h.sent (h.taken ++ x ∷ [])) empty

-- a giver that sent one item more
pub gives_item : (items new : Hand ItemValue) (ends : Hand Last) (count : ℕ) (x : ItemValue) →
    GivesSpool items ends count → HasSent items x new → ends.sent ≡ [] → GivesSpool new ends (count + 1)
gives_item items new ends count x old sent none =
    let is : new ≡ hand true false None (items.sent ++ x ∷ []) [] =
    sent ∙ ap (λ (h : Hand ItemValue). hand h.sends h.takes h.limit (items.sent ++ x ∷ []) h.taken) old.of_items in
    let same : new.sent ≡ items.sent ++ x ∷ [] = ap (λ (h : Hand ItemValue). h.sent) is in
    let long : length new.sent ≡ length (items.sent ++ x ∷ []) = ap length same in
    let parts = length-append items.sent (x ∷ []) in
    let had = old.counted in
    let more : count + 1 ≡ length new.sent = omega arith in
    let Counts : Last → Type 0 = λ l. l.count ≡ length new.sent in
    record {
      of_items = is ∙ ap (λ l. hand true false None l []) (sym same);
      of_ends = old.of_ends;
      counted = more;
      each_counts = subst (λ e. All Counts e) (sym none) (All-nil Counts);
    }

-- a taker that took one item more
pub takes_item : (items new : Hand ItemValue) (ends : Hand Last) (count : ℕ) (last : Option Last) (done : Bool)
    (x : ItemValue) → TakesSpool items ends count last done → HasTaken items x new → done ≡ false →
    TakesSpool new ends (count + 1) last done
takes_item items new ends count last done x old taken not =
    let is : new ≡ hand false true None [] (items.taken ++ x ∷ []) =
    taken ∙ ap (λ (h : Hand ItemValue). hand h.sends h.takes h.limit h.sent (items.taken ++ x ∷ [])) old.of_items in
    let same : new.taken ≡ items.taken ++ x ∷ [] = ap (λ (h : Hand ItemValue). h.taken) is in
    let long : length new.taken ≡ length (items.taken ++ x ∷ []) = ap length same in
    let parts = length-append items.taken (x ∷ []) in
    let had = old.counted in
    let more : count + 1 ≡ length new.taken = omega arith in
    record {
      of_items = is ∙ ap (λ l. hand false true None [] l) (sym same);
      of_ends = old.of_ends;
      counted = more;
      ended = λ d. absurd (true≢false (sym d ∙ not));
    }

-- a taker that took the end
pub takes_end : (items : Hand ItemValue) (ends new : Hand Last) (count : ℕ) (before last : Option Last) (l : Last)
    (done : Bool) → TakesSpool items ends count before done → new ≡ hand false true None [] (kept_of last) →
    last ≡ Some l → l.count ≡ count →
    TakesSpool items new count last true
takes_end items ends new count before last l done old is some counts =
    record {
      of_items = old.of_items;
      of_ends = is;
      counted = old.counted;
      ended = λ _. (l, some, counts ∙ old.counted);
    }

-- a taker that did not find its end
pub takes_none : (items : Hand ItemValue) (ends new : Hand Last) (count : ℕ) (before last : Option Last)
    (done : Bool) → TakesSpool items ends count before done → new ≡ hand false true None [] (kept_of last) →
    done ≡ false →
    TakesSpool items new count last done
takes_none items ends new count before last done old is not =
    record {
      of_items = old.of_items;
      of_ends = is;
      counted = old.counted;
      ended = λ d. absurd (true≢false (sym d ∙ not));
    }

spooled-more : (taken left : List ItemValue) (ends : List Last) →
    spooled (taken ++ left) ends ≡ spooled taken [] ++ spooled left ends
spooled-more [] left ends = refl
spooled-more (t ∷ taken) left ends = ap (λ l. Says.Item t ∷ l) (spooled-more taken left ends)

spooled-ends : (items : List ItemValue) (ends more : List Last) →
    spooled items (ends ++ more) ≡ spooled items ends ++ map last_message more
spooled-ends [] ends more = map-append last_message ends more
spooled-ends (i ∷ items) ends more = ap (λ l. Says.Item i ∷ l) (spooled-ends items ends more)

nothing_left : {T : Type 0} (list left : List T) → length (list ++ left) ≡ length list → left ≡ []
nothing_left list [] same = refl
nothing_left list (x ∷ left) same = let both = length-append list (x ∷ left) in absurd (omega arith)

-- what was taken of a spool is a prefix of what was sent, since its end counts the items
pub spool_prefix : (items taken left : List ItemValue) (ends kept rest : List Last) (last : Option Last) (done : Bool) →
    items ≡ taken ++ left → ends ≡ kept ++ rest → All (λ l. l.count ≡ length items) ends → kept ≡ kept_of last →
    (done ≡ true → (l : Last) × (last ≡ Some l) × (l.count ≡ length taken)) →
    IsPrefix (spooled taken (shown done kept)) (spooled items ends)
spool_prefix items taken left ends kept rest last false joined slots counts of_last ended =
    record { rest = spooled left ends; joined = ap (λ i. spooled i ends) joined ∙ spooled-more taken left ends }
spool_prefix items taken left ends kept rest last true joined slots counts of_last ended =
    let found = ended refl in
    let first : ends ≡ found.0 ∷ rest = slots ∙ ap (λ k. k ++ rest) (of_last ∙ ap kept_of found.1) in
    let Counts : Last → Type 0 = λ l. l.count ≡ length items in
    let each : All Counts (found.0 ∷ rest) = subst (λ e. All Counts e) first counts in
    let counted : (found.0).count ≡ length items = All-head Counts found.0 rest each in
    let none : left ≡ [] = nothing_left taken left (ap length (sym joined) ∙ sym counted ∙ found.2) in
    let same : items ≡ taken = joined ∙ ap (λ l. taken ++ l) none ∙ append-nil taken in
    record {
      rest = map last_message rest;
      joined = ap (λ i. spooled i ends) same ∙ ap (λ e. spooled taken e) slots ∙ spooled-ends taken kept rest;
    }
