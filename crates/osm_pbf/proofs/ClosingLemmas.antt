-- What a sink took by one put of the header or of a run, and whether the open run takes an entity.
use Rattle.std.proofs.Common.{◌≡◌, ℕ, ◌+◌, ◌<◌, ◌≤◌, List, [], ◌∷◌, ◌++◌, length, true, false, refl, sym, ap, subst, ◌∙◌, arith, append-nil}
use Rattle.std.specs.Prelude.{Option, Some, None, codes, nat_lt, nat_le, ◌&&◌, ◌≢◌, OnErr, OnOk, Ok, Err}
use Rattle.std.specs.Io.KnownBytes.{append_known}
use Rattle.std.specs.declared.result.Result.{Result}
use Rattle.std.specs.List.{list_all}
use Rattle.std.proofs.lemmas.Bool.{and_parts, cond_both, eqb-true, false≢true}
use Rattle.osm_entity.specs.Entities.{EntityValue, greatest_weight, weight_of}
use Rattle.osm_entity.specs.Items.{ItemValue, kind_of}
use Rattle.osm_entity.specs.Keys.{kind_rank}
use Rattle.osm_entity.specs.declared.kind.Kind.{Kind}
use Rattle.osm_entity.specs.declared.kind.Kind.TheVariants.{Node, Way, Relation}
use Rattle.osm_entity.specs.declared.stream.End.{End}
use Rattle.osm_entity.specs.declared.stream.End.TheVariants.{Broken, Done}
use Rattle.osm_host.specs.Contents.{PutTakes}
use Rattle.osm_host.specs.Puts.{TakesPrefix}
use Rattle.osm_host.specs.declared.outside.HostError.{HostError}
use Rattle.osm_host.specs.declared.outside.HostError.TheVariants.{Failed, Memory}
use Rattle.osm_blob.specs.Messages.{raw_limit}
use Rattle.osm_blob.specs.Written.{written_frame}
use Rattle.osm_blob.specs.declared.messages.What.TheVariants.{Block}
use Rattle.osm_block_write.specs.Block.{block_bytes, header_bytes, run_bytes}
use Rattle.osm_block_write.specs.Making.{Holds, MakerValue}
use Rattle.osm_block_write.specs.Runs.{have_one_kind, greatest_run, open_run, takes, total_weight}
use Rattle.osm_block_write.specs.declared.options.PbfOptions.{PbfOptions}
use Rattle.osm_pbf.specs.WrittenFile.{TookPrefix, header_frame, run_frame, run_frames, runs_of_items}
use Rattle.osm_pbf.specs.Writer.{HoldsOpen, IsWriter, WriterValue, Wrote}
use Rattle.osm_block_write.specs.Columns.{bytes_field}
use Rattle.osm_wire.specs.Written.{written_message}
use Rattle.osm_pbf.proofs.BlockSizeLemmas.{block-short}
use Rattle.osm_pbf.proofs.SizeLemmas.{bytes-size, message-next}
use Rattle.osm_pbf.proofs.WritingLemmas.{prefix-closed, prefix-done, prefix-unopened, text-none, wrote-closed}

-- no bytes behind some
pub append_known-nil : (o : Option (List ℕ)) → append_known o [] ≡ o
append_known-nil None = refl
append_known-nil (Some xs) = ap Some (append-nil xs)

-- the bytes of a run by its kind
run_bytes-kind : (m : MakerValue) (e : EntityValue) (run : List EntityValue) → Holds m (e ∷ run) →
    run_bytes m.options (e ∷ run) ≡ block_bytes m.options m.kind (e ∷ run)
unfolding run_bytes
run_bytes-kind m e run h = ap (λ kind. block_bytes m.options kind (e ∷ run)) h.alike.0

-- the frames of an open run with entities
pub closed-some : (m : MakerValue) (run : List EntityValue) (block frame : List ℕ) → Holds m run →
    true ≡ nat_lt 0 m.count → block ≡ block_bytes m.options m.kind run → frame ≡ written_frame Block block →
    run_frames m.options (open_run run) ≡ frame
closed-some m [] block frame h some is_block is_frame = absurd (false≢true (sym (some ∙ ap (nat_lt 0) h.count)))
closed-some m (e ∷ run) block frame h some is_block is_frame =
    append-nil (run_frame m.options (e ∷ run))
    ∙ ap (written_frame Block) (run_bytes-kind m e run h ∙ sym is_block)
    ∙ sym is_frame

-- the block of a writer's run is short enough for a frame
pub writer-short : (w : WriterValue) (block : List ℕ) → IsWriter w →
    ((run : List EntityValue) → Holds w.maker run → block ≡ block_bytes w.maker.options w.maker.kind run) →
    length block < raw_limit
writer-short w block kept is =
    subst (λ b. length b < raw_limit) (sym (is kept.run kept.holds))
    (block-short w.maker.options w.maker.kind kept.run kept.light)

-- a header block is short enough for a frame
pub header-short : (options : PbfOptions) → length (header_bytes options) < raw_limit
header-short options =
    let schema = codes "OsmSchema-V0.6" in
    let dense = codes "DenseNodes" in
    let few : length schema ≡ 14 = refl in
    let fewer : length dense ≡ 10 = refl in
    cond_both options.usedense (bytes_field 4 dense ∷ []) []
    (λ more. length (written_message (bytes_field 4 schema ∷ more)) < raw_limit)
    (λ _. omega (
      arith,
      few,
      fewer,
      message-next (bytes_field 4 schema) (bytes_field 4 dense ∷ []),
      message-next (bytes_field 4 dense) [],
      bytes-size 4 schema (omega arith),
      bytes-size 4 dense (omega arith),
    ))
    (λ _. omega (arith, few, message-next (bytes_field 4 schema) [], bytes-size 4 schema (omega arith)))

-- a put of the header that answered
pub begun : {T : Type 0} (r : Result T HostError) (w : WriterValue) (text : List ℕ) (before now : Option (List ℕ)) →
    text ≡ header_frame w.options → PutTakes r text before now → OnOk r (HoldsOpen w [] → Wrote before now w [])
begun (Ok x) w text before now is took = λ holds. record {
  holds = holds;
  took = took ∙ ap (append_known before) (is ∙ sym (text-none w.options));
}
begun (Err e) w text before now is took = tt

-- a put of frames that answered
pub put_ok : {T : Type 0} (r : Result T HostError) (frames text : List ℕ) (before now : Option (List ℕ)) →
    frames ≡ text → PutTakes r text before now → OnOk r (now ≡ append_known before frames)
put_ok (Ok x) frames text before now is took = took ∙ ap (append_known before) (sym is)
put_ok (Err e) frames text before now is took = tt

-- a put of frames that was refused
pub put_err : {T : Type 0} (r : Result T HostError) (frames text : List ℕ) (before now : Option (List ℕ)) →
    frames ≡ text → PutTakes r text before now → OnErr r (TakesPrefix frames before now)
put_err (Ok x) frames text before now is took = tt
put_err (Err Failed) frames text before now is took = subst (λ t. TakesPrefix t before now) (sym is) took
put_err (Err Memory) frames text before now is took = (0, omega arith, took ∙ sym (append_known-nil before))

-- an end that was refused
pub end-some : {T E : Type 0} (r : Result T E) (w : WriterValue) (end : End) (before now : Option (List ℕ)) →
    end ≡ Done →
    ((run : List EntityValue) → Holds w.maker run →
    OnErr r (TakesPrefix (run_frames w.options (open_run run)) before now)) →
    OnErr r ((first : Option (List ℕ)) (items : List ItemValue) → Wrote first before w items →
    TookPrefix w.options first now (record { items = items; end = end }))
end-some (Ok x) w end before now is put = tt
end-some (Err e) w end before now is put = λ first items wrote.
    subst (λ at. TookPrefix w.options first now (record { items = items; end = at })) (sym is)
    (prefix-done w first before now items (put (runs_of_items w.options items).opened wrote.holds) wrote)

-- a kind is known by its rank
rank-kind : (a b : Kind) → kind_rank a ≡ kind_rank b → a ≡ b
rank-kind Node Node is = refl
rank-kind Node Way is = absurd (omega arith)
rank-kind Node Relation is = absurd (omega arith)
rank-kind Way Node is = absurd (omega arith)
rank-kind Way Way is = refl
rank-kind Way Relation is = absurd (omega arith)
rank-kind Relation Node is = absurd (omega arith)
rank-kind Relation Way is = absurd (omega arith)
rank-kind Relation Relation is = refl

-- a run with entities takes none of another kind
pub other_kind : (m : MakerValue) (limit : ℕ) (run : List EntityValue) (e : EntityValue) → Holds m run →
    run ≢ [] → kind_of e.body ≢ m.kind → takes limit run e ≡ false
other_kind m limit [] e h some other = absurd (some refl)
other_kind m limit (x ∷ run) e h some other =
    cond_both (takes limit (x ∷ run) e) true false (λ _. takes limit (x ∷ run) e ≡ false)
    (λ is.
    let outer = and_parts (list_all (have_one_kind e) (x ∷ run) && nat_lt (length (x ∷ run)) limit)
    (nat_le (total_weight (x ∷ run) + weight_of e) greatest_run) is in
    let inner = and_parts (list_all (have_one_kind e) (x ∷ run)) (nat_lt (length (x ∷ run)) limit) outer.0 in
    let alike = and_parts (have_one_kind e x) (list_all (have_one_kind e) run) inner.0 in
    let same = rank-kind (kind_of x.body) (kind_of e.body)
    (eqb-true (kind_rank (kind_of x.body)) (kind_rank (kind_of e.body)) alike.0) in
    absurd (other (sym same ∙ h.alike.0)))
    (λ not. not)

-- a writer that put a prefix of its open run before an item
pub closing-prefix : (w mid : WriterValue) (item : ItemValue) (before now : Option (List ℕ)) → mid ≡ w →
    weight_of item.entity ≤ greatest_weight →
    ((run : List EntityValue) → Holds w.maker run → run ≢ [] → takes w.options.batchlimit run item.entity ≡ false) →
    ((run : List EntityValue) → Holds mid.maker run →
    TakesPrefix (run_frames mid.options (open_run run)) before now) → (first : Option (List ℕ))
    (items : List ItemValue) → Wrote first before w items →
    TookPrefix w.options first now (record { items = items ++ item ∷ []; end = Broken })
closing-prefix w mid item before now same light refused put first items wrote =
    let run = (runs_of_items w.options items).opened in
    prefix-closed w first before now items item light (refused run wrote.holds)
    (subst (λ m. TakesPrefix (run_frames m.options (open_run run)) before now) same
    (put run (subst (λ m. Holds m.maker run) (sym same) wrote.holds)))
    wrote

-- a writer that put its open run whole before an item that it didn't take
pub closed-prefix : (w mid : WriterValue) (item : ItemValue) (before now : Option (List ℕ)) → mid ≡ w →
    weight_of item.entity ≤ greatest_weight →
    ((run : List EntityValue) → Holds w.maker run → run ≢ [] → takes w.options.batchlimit run item.entity ≡ false) →
    ((run : List EntityValue) → Holds mid.maker run →
    now ≡ append_known before (run_frames mid.options (open_run run))) → (first : Option (List ℕ))
    (items : List ItemValue) → Wrote first before w items →
    TookPrefix w.options first now (record { items = items ++ item ∷ []; end = Broken })
closed-prefix w mid item before now same light refused put first items wrote =
    let run = (runs_of_items w.options items).opened in
    prefix-unopened w first before now items item light (refused run wrote.holds)
    (subst (λ m. now ≡ append_known before (run_frames m.options (open_run run))) same
    (put run (subst (λ m. Holds m.maker run) (sym same) wrote.holds)))
    wrote

-- a writer that put its open run whole, and opened another with an item
pub closed-wrote : (w mid new : WriterValue) (item : ItemValue) (before now : Option (List ℕ)) → mid ≡ w →
    new.options ≡ w.options → weight_of item.entity ≤ greatest_weight →
    ((run : List EntityValue) → Holds w.maker run → run ≢ [] → takes w.options.batchlimit run item.entity ≡ false) →
    ((run : List EntityValue) → Holds mid.maker run →
    now ≡ append_known before (run_frames mid.options (open_run run))) → Holds new.maker (item.entity ∷ []) →
    (first : Option (List ℕ)) (items : List ItemValue) → Wrote first before w items →
    Wrote first now new (items ++ item ∷ [])
closed-wrote w mid new item before now same alike light refused put holds first items wrote =
    let run = (runs_of_items w.options items).opened in
    wrote-closed w new first before now items item alike light (refused run wrote.holds)
    (subst (λ m. now ≡ append_known before (run_frames m.options (open_run run))) same
    (put run (subst (λ m. Holds m.maker run) (sym same) wrote.holds)))
    holds wrote
