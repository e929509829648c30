-- How the file of items goes on with one more, and what a sink took of it.
use Rattle.std.proofs.Common.{◌≡◌, ℕ, ◌+◌, ◌≤◌, List, [], ◌∷◌, ◌++◌, length, take, true, false, refl, sym, ap, subst, ◌∙◌, arith, append_assoc, append-nil}
use Rattle.std.specs.Prelude.{◌≢◌, nat_lt, nat_le, Option, Some, None}
use Rattle.std.specs.Io.KnownBytes.{append_known}
use Rattle.std.proofs.lemmas.Bool.{and_from, le-leb, lt-ltb}
use Rattle.std.proofs.lemmas.List.{length-append, take-append-le, take_all}
use Rattle.std.proofs.lemmas.List.Concat.{flat_map-append}
use Rattle.std.proofs.Math.Seq.{take-append-add}
use Rattle.osm_entity.specs.Entities.{EntityValue, greatest_weight, weight_of}
use Rattle.osm_entity.specs.Items.{ItemValue}
use Rattle.osm_entity.specs.Prefixes.{IsPrefix}
use Rattle.osm_entity.specs.Streams.{Stream}
use Rattle.osm_entity.specs.declared.stream.End.{End}
use Rattle.osm_entity.specs.declared.stream.End.TheVariants.{Broken, Done}
use Rattle.osm_host.specs.Puts.{TakesPrefix}
use Rattle.osm_block_write.specs.Making.{Holds, MakerValue}
use Rattle.osm_block_write.specs.Runs.{Runs, greatest_run, open_run, runs_of, takes, with_entity, written_runs}
use Rattle.osm_block_write.specs.declared.options.PbfOptions.{PbfOptions}
use Rattle.osm_block_write.proofs.RunsLemmas.{runs_of-push, with_entity-full, with_entity-taken, written_runs-prefix}
use Rattle.osm_pbf.specs.WrittenFile.{TookFile, TookPrefix, entities_of, header_frame, pbf_text, run_frame, run_frames, runs_of_items}
use Rattle.osm_pbf.specs.Writer.{WriterValue, Wrote}

-- bytes behind bytes
append_known-more : (o : Option (List ℕ)) (a b : List ℕ) →
    append_known (append_known o a) b ≡ append_known o (a ++ b)
append_known-more None a b = refl
append_known-more (Some xs) a b = ap Some (append_assoc xs a b)

-- bytes, and a prefix of those behind them
prefix-behind : (first before now : Option (List ℕ)) (a b : List ℕ) → before ≡ append_known first a →
    TakesPrefix b before now → TakesPrefix (a ++ b) first now
prefix-behind first before now a b is (k, fits, took) = (
  length a + k,
  omega (arith, fits, length-append a b),
  took ∙ ap (λ o. append_known o (take k b)) is ∙ append_known-more first a (take k b)
      ∙ ap (append_known first) (sym (take-append-add a b k)),
)

-- a prefix of bytes is one of more bytes
prefix-more : (first now : Option (List ℕ)) (a b : List ℕ) → TakesPrefix a first now → TakesPrefix (a ++ b) first now
prefix-more first now a b (k, fits, took) =
    (k, omega (arith, fits, length-append a b), took ∙ ap (append_known first) (sym (take-append-le k a b fits)))

-- all bytes are a prefix of them
prefix-whole : (first now : Option (List ℕ)) (a : List ℕ) → now ≡ append_known first a → TakesPrefix a first now
prefix-whole first now a took = (
  length a,
  omega arith,
  took ∙ ap (append_known first) (sym (take_all (length a) a (omega arith))),
)

-- entities with one item more
entities_of-push : (items : List ItemValue) (item : ItemValue) →
    entities_of (items ++ item ∷ []) ≡ entities_of items ++ item.entity ∷ []
entities_of-push [] item = refl
entities_of-push (first ∷ items) item = ap (λ es. first.entity ∷ es) (entities_of-push items item)

-- entities of items and of those behind them
entities_of-append : (items more : List ItemValue) → entities_of (items ++ more) ≡ entities_of items ++ entities_of more
entities_of-append [] more = refl
entities_of-append (first ∷ items) more = ap (λ es. first.entity ∷ es) (entities_of-append items more)

-- the runs of items with one item more
runs_of_items-push : (options : PbfOptions) (items : List ItemValue) (item : ItemValue) →
    runs_of_items options (items ++ item ∷ [])
    ≡ with_entity options.batchlimit (runs_of_items options items) item.entity
runs_of_items-push options items item =
    ap (runs_of options.batchlimit) (entities_of-push items item)
    ∙ runs_of-push options.batchlimit (entities_of items) item.entity

-- an empty run takes every entity
pub takes-first : (options : PbfOptions) (e : EntityValue) → weight_of e ≤ greatest_weight →
    takes options.batchlimit [] e ≡ true
takes-first options e light =
    and_from (nat_lt 0 options.batchlimit) (nat_le (0 + weight_of e) greatest_run)
    (lt-ltb 0 options.batchlimit (omega (arith, options.some)))
    (le-leb (0 + weight_of e) greatest_run (omega (arith, light)))

-- what is written of a stream that broke off
abbrev pub broken_off : List ItemValue → Stream
broken_off items = record { items = items; end = Broken }

-- an item that goes into the open run adds nothing to the file
text-taken : (options : PbfOptions) (items : List ItemValue) (item : ItemValue) →
    takes options.batchlimit (runs_of_items options items).opened item.entity ≡ true →
    pbf_text options (broken_off (items ++ item ∷ [])) ≡ pbf_text options (broken_off items)
text-taken options items item is =
    ap (λ r. header_frame options ++ run_frames options r.closed)
    (runs_of_items-push options items item
    ∙ with_entity-taken options.batchlimit (runs_of_items options items) item.entity is)

-- the runs with an entity that the open run doesn't take where it has entities
with_entity-next : (options : PbfOptions) (closed : List (List EntityValue)) (opened : List EntityValue)
    (e : EntityValue) → weight_of e ≤ greatest_weight →
    (opened ≢ [] → takes options.batchlimit opened e ≡ false) →
    with_entity options.batchlimit (record { closed = closed; opened = opened }) e
    ≡ record { closed = closed ++ open_run opened; opened = e ∷ [] }
with_entity-next options closed [] e light full =
    with_entity-taken options.batchlimit (record { closed = closed; opened = [] }) e (takes-first options e light)
    ∙ ap (λ runs. let r : Runs = record { closed = runs; opened = e ∷ [] } in r) (sym (append-nil closed))
with_entity-next options closed (x ∷ opened) e light full =
    with_entity-full options.batchlimit (record { closed = closed; opened = x ∷ opened }) e (full (λ none. cc))

-- the runs of items with one that goes into another run
runs_of_items-next : (options : PbfOptions) (items : List ItemValue) (item : ItemValue) →
    weight_of item.entity ≤ greatest_weight →
    ((runs_of_items options items).opened ≢ [] →
    takes options.batchlimit (runs_of_items options items).opened item.entity ≡ false) →
    runs_of_items options (items ++ item ∷ [])
    ≡ record {
      closed = (runs_of_items options items).closed ++ open_run (runs_of_items options items).opened;
      opened = item.entity ∷ [];
    }
runs_of_items-next options items item light full =
    runs_of_items-push options items item
    ∙ with_entity-next options (runs_of_items options items).closed (runs_of_items options items).opened item.entity
    light full

-- the file of closed runs and of the open one
text-runs : (options : PbfOptions) (closed more : List (List EntityValue)) →
    header_frame options ++ run_frames options (closed ++ more)
    ≡ (header_frame options ++ run_frames options closed) ++ run_frames options more
text-runs options closed more =
    ap (λ frames. header_frame options ++ frames) (flat_map-append (run_frame options) closed more)
    ∙ sym (append_assoc (header_frame options) (run_frames options closed) (run_frames options more))

-- an item that goes into another run adds the open one to the file
text-closed : (options : PbfOptions) (items : List ItemValue) (item : ItemValue) →
    weight_of item.entity ≤ greatest_weight →
    ((runs_of_items options items).opened ≢ [] →
    takes options.batchlimit (runs_of_items options items).opened item.entity ≡ false) →
    pbf_text options (broken_off (items ++ item ∷ []))
    ≡ pbf_text options (broken_off items) ++ run_frames options (open_run (runs_of_items options items).opened)
text-closed options items item light full =
    ap (λ r. header_frame options ++ run_frames options r.closed) (runs_of_items-next options items item light full)
    ∙ text-runs options (runs_of_items options items).closed (open_run (runs_of_items options items).opened)

-- the end of a stream that is done adds the open run to the file
pub text-done : (options : PbfOptions) (items : List ItemValue) →
    pbf_text options (record { items = items; end = Done })
    ≡ pbf_text options (broken_off items) ++ run_frames options (open_run (runs_of_items options items).opened)
text-done options items =
    text-runs options (runs_of_items options items).closed (open_run (runs_of_items options items).opened)

-- the file of no items
pub text-none : (options : PbfOptions) → pbf_text options (broken_off []) ≡ header_frame options
unfolding runs_of
text-none options = append-nil (header_frame options)

-- a maker without entities holds the open run of no items
pub holds-none : (options : PbfOptions) (m : MakerValue) → Holds m [] → Holds m (runs_of_items options []).opened
unfolding runs_of
holds-none options m holds = holds

-- the file of items that broke off begins that of all that goes on
pub text-before : (options : PbfOptions) (items more : List ItemValue) (end : End) →
    IsPrefix (pbf_text options (broken_off items)) (pbf_text options (record { items = items ++ more; end = end }))
text-before options items more end =
    let runs = written_runs-prefix options.batchlimit (entities_of items) (entities_of more) end in record {
      rest = run_frames options runs.rest;
      joined =
          ap
          (λ es. header_frame options ++ run_frames options (written_runs (runs_of options.batchlimit es) end))
          (entities_of-append items more)
          ∙ ap (λ all. header_frame options ++ run_frames options all) runs.joined
          ∙ text-runs options (runs_of_items options items).closed runs.rest;
    }

-- a sink that took a prefix of the file of items took one of each that goes on
pub prefix-onward : (options : PbfOptions) (first now : Option (List ℕ)) (items more : List ItemValue) (end : End) →
    TookPrefix options first now (broken_off items) →
    TookPrefix options first now (record { items = items ++ more; end = end })
prefix-onward options first now items more end took =
    let before = text-before options items more end in
    subst (λ text. TakesPrefix text first now) (sym before.joined)
    (prefix-more first now (pbf_text options (broken_off items)) before.rest took)

-- so did a sink that took it whole
pub took-onward : (options : PbfOptions) (first now : Option (List ℕ)) (items more : List ItemValue) (end : End) →
    TookFile options first now (broken_off items) →
    TookPrefix options first now (record { items = items ++ more; end = end })
took-onward options first now items more end took =
    prefix-onward options first now items more end (prefix-whole first now (pbf_text options (broken_off items)) took)

-- a writer that took an item into its open run
pub wrote-taken : (w new : WriterValue) (first now : Option (List ℕ)) (items : List ItemValue) (item : ItemValue) →
    new.options ≡ w.options →
    takes w.options.batchlimit (runs_of_items w.options items).opened item.entity ≡ true →
    Holds new.maker ((runs_of_items w.options items).opened ++ item.entity ∷ []) → Wrote first now w items →
    Wrote first now new (items ++ item ∷ [])
wrote-taken w new first now items item same is holds wrote =
    let runs : runs_of_items w.options (items ++ item ∷ [])
    ≡ record {
      closed = (runs_of_items w.options items).closed;
      opened = (runs_of_items w.options items).opened ++ item.entity ∷ [];
    } =
    runs_of_items-push w.options items item
    ∙ with_entity-taken w.options.batchlimit (runs_of_items w.options items) item.entity is in record {
      holds = subst (λ o. Holds new.maker (runs_of_items o (items ++ item ∷ [])).opened) (sym same)
          (subst (λ r. Holds new.maker r.opened) (sym runs) holds);
      took = subst (λ o. TookFile o first now (broken_off (items ++ item ∷ []))) (sym same)
          (wrote.took ∙ ap (append_known first) (sym (text-taken w.options items item is)));
    }

-- a writer that put its open run, and took an item into another
pub wrote-closed : (w new : WriterValue) (first before now : Option (List ℕ)) (items : List ItemValue)
    (item : ItemValue) → new.options ≡ w.options → weight_of item.entity ≤ greatest_weight →
    ((runs_of_items w.options items).opened ≢ [] →
    takes w.options.batchlimit (runs_of_items w.options items).opened item.entity ≡ false) →
    now ≡ append_known before (run_frames w.options (open_run (runs_of_items w.options items).opened)) →
    Holds new.maker (item.entity ∷ []) → Wrote first before w items → Wrote first now new (items ++ item ∷ [])
wrote-closed w new first before now items item same light full put holds wrote = record {
  holds = subst (λ o. Holds new.maker (runs_of_items o (items ++ item ∷ [])).opened) (sym same)
      (subst (λ r. Holds new.maker r.opened) (sym (runs_of_items-next w.options items item light full)) holds);
  took = subst (λ o. TookFile o first now (broken_off (items ++ item ∷ []))) (sym same)
      (put
      ∙ ap (λ o. append_known o (run_frames w.options (open_run (runs_of_items w.options items).opened))) wrote.took
      ∙ append_known-more first (pbf_text w.options (broken_off items))
      (run_frames w.options (open_run (runs_of_items w.options items).opened))
      ∙ ap (append_known first) (sym (text-closed w.options items item light full)));
}

-- a writer that put a prefix of its open run before an item
pub prefix-closed : (w : WriterValue) (first before now : Option (List ℕ)) (items : List ItemValue)
    (item : ItemValue) → weight_of item.entity ≤ greatest_weight →
    ((runs_of_items w.options items).opened ≢ [] →
    takes w.options.batchlimit (runs_of_items w.options items).opened item.entity ≡ false) →
    TakesPrefix (run_frames w.options (open_run (runs_of_items w.options items).opened)) before now →
    Wrote first before w items → TookPrefix w.options first now (broken_off (items ++ item ∷ []))
prefix-closed w first before now items item light full put wrote =
    subst (λ text. TakesPrefix text first now) (sym (text-closed w.options items item light full))
    (prefix-behind first before now (pbf_text w.options (broken_off items))
    (run_frames w.options (open_run (runs_of_items w.options items).opened)) wrote.took put)

-- a writer that put its open run whole before an item that it didn't take
pub prefix-unopened : (w : WriterValue) (first before now : Option (List ℕ)) (items : List ItemValue)
    (item : ItemValue) → weight_of item.entity ≤ greatest_weight →
    ((runs_of_items w.options items).opened ≢ [] →
    takes w.options.batchlimit (runs_of_items w.options items).opened item.entity ≡ false) →
    now ≡ append_known before (run_frames w.options (open_run (runs_of_items w.options items).opened)) →
    Wrote first before w items → TookPrefix w.options first now (broken_off (items ++ item ∷ []))
prefix-unopened w first before now items item light full put wrote =
    prefix-closed w first before now items item light full
    (prefix-whole before now (run_frames w.options (open_run (runs_of_items w.options items).opened)) put) wrote

-- a writer that put a prefix of its open run at the end
pub prefix-done : (w : WriterValue) (first before now : Option (List ℕ)) (items : List ItemValue) →
    TakesPrefix (run_frames w.options (open_run (runs_of_items w.options items).opened)) before now →
    Wrote first before w items → TookPrefix w.options first now (record { items = items; end = Done })
prefix-done w first before now items put wrote =
    subst (λ text. TakesPrefix text first now) (sym (text-done w.options items))
    (prefix-behind first before now (pbf_text w.options (broken_off items))
    (run_frames w.options (open_run (runs_of_items w.options items).opened)) wrote.took put)
