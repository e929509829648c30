-- For which runs a maker stands, and what it keeps with an entity more.
use Rattle.std.proofs.Common.{◌≡◌, ℕ, ◌+◌, ◌<◌, ◌≤◌, List, [], ◌∷◌, ◌++◌, length, take, true, false, refl, sym, ap, ◌∙◌, arith, inl, inr}
use Rattle.std.specs.Prelude.{Bool, ◌⊎◌, ◌||◌, ◌&&◌, nat_lt, nat_le}
use Rattle.std.specs.List.{list_all, list_any}
use Rattle.std.proofs.lemmas.Bool.{and_from, cases_lt, lt-ltb, le-leb}
use Rattle.std.proofs.lemmas.List.{length_push}
use Rattle.std.proofs.lemmas.List.Sums.{sum_by_push}
use Rattle.osm_entity.specs.Entities.{EntityValue, weight_of}
use Rattle.osm_entity.specs.Items.{kind_of}
use Rattle.osm_block_write.specs.declared.taken.Taken.{Taken}
use Rattle.osm_block_write.specs.Block.{block_bytes}
use Rattle.osm_block_write.specs.Making.{Holds, IsMaker, MakerValue}
use Rattle.osm_block_write.specs.Messages.{has_tags}
use Rattle.osm_block_write.specs.Runs.{greatest_run, have_one_kind, takes, total_weight}
use Rattle.osm_block_write.specs.Tables.{texts_of, with_texts}
use Rattle.osm_block_write.specs.Taking.{block_of_taken, taken_of, with_taken}
use Rattle.osm_block_write.proofs.BlockLemmas.{block_of_taken-of}
use Rattle.osm_block_write.proofs.RunsLemmas.{all-push, alike_by}
use Rattle.osm_block_write.proofs.TablesLemmas.{headed-with_texts, length-with_texts, texts-bytes}
use Rattle.osm_block_write.proofs.TakingLemmas.{with_taken-of}

-- a test of all elements but the last, and of the last
any-last : (a b c : Bool) → ((a || b) || c) ≡ (a || (b || c))
any-last true b c = refl
any-last false b c = refl

-- a test of one element
any-one : (a : Bool) → (false || a) ≡ (a || false)
any-one true = refl
any-one false = refl

-- whether one of some elements or one more passes a test
any-push : {T : Type 0} (test : T → Bool) (xs : List T) (x : T) →
    (list_any test xs || test x) ≡ list_any test (xs ++ x ∷ [])
any-push test [] x = any-one (test x)
any-push test (y ∷ xs) x =
    any-last (test y) (list_any test xs) (test x) ∙ ap (λ b. test y || b) (any-push test xs x)

-- a maker is full before an entity of this weight
abbrev pub IsFullFor : MakerValue → ℕ → Type 0
IsFullFor m weight = (m.options.batchlimit ≤ m.count) ⊎ (greatest_run < m.weight + weight)

-- a maker that isn't full has room for one entity more
few-more : (m : MakerValue) (weight : ℕ) → (IsFullFor m weight → ⊥) → m.count < m.options.batchlimit
few-more m weight free =
    elim (cases_lt m.count m.options.batchlimit) as (λ _. m.count < m.options.batchlimit) [
      | inl less ↦ less
      | inr more ↦ absurd (free (inl more))
    ]

-- a maker that isn't full doesn't get too heavy
light-more : (m : MakerValue) (weight : ℕ) → (IsFullFor m weight → ⊥) → m.weight + weight ≤ greatest_run
light-more m weight free =
    elim (cases_lt greatest_run (m.weight + weight)) as (λ _. m.weight + weight ≤ greatest_run) [
      | inl past ↦ absurd (free (inr past))
      | inr within ↦ within
    ]

-- a maker that isn't full holds a run that takes the entity
pub holds-takes : (m : MakerValue) (run : List EntityValue) (e : EntityValue) (weight : ℕ) → Holds m run →
    kind_of e.body ≡ m.kind → weight ≡ weight_of e → (IsFullFor m weight → ⊥) →
    takes m.options.batchlimit run e ≡ true
holds-takes m run e weight h own is free =
    let few = few-more m weight free in
    let light = light-more m weight free in
    let limit = m.options.batchlimit in
    and_from (list_all (have_one_kind e) run && nat_lt (length run) limit)
    (nat_le (total_weight run + weight_of e) greatest_run)
    (and_from (list_all (have_one_kind e) run) (nat_lt (length run) limit) (alike_by m.kind e run own h.alike)
    (lt-ltb (length run) limit (omega (arith, h.count, few))))
    (le-leb (total_weight run + weight_of e) greatest_run (omega (arith, h.weight, light, is)))

-- a maker with an entity more
abbrev pub with_more : MakerValue → EntityValue → ℕ → Taken → Bool → MakerValue
with_more m e weight taken tagged =
    record m { count = m.count + 1; weight = m.weight + weight; taken = taken; tagged = tagged }

-- a maker that isn't full keeps what every maker keeps, with an entity more
pub is_maker-more : (m : MakerValue) (e : EntityValue) (weight : ℕ) (taken : Taken) (tagged : Bool) → IsMaker m →
    weight ≡ weight_of e → (IsFullFor m weight → ⊥) → taken ≡ with_taken m.options m.kind m.taken e →
    IsMaker (with_more m e weight taken tagged)
is_maker-more m e weight taken tagged kept is free took =
    let texts = texts_of m.options e in
    let new : taken.texts ≡ with_texts m.taken.texts texts = ap (λ t. t.texts) took in record {
      few = omega (arith, few-more m weight free);
      light = light-more m weight free;
      headed = ap (take 1) new ∙ headed-with_texts m.taken.texts texts kept.headed;
      small = omega (
        arith,
        ap length new,
        length-with_texts m.taken.texts texts kept.headed,
        texts-bytes m.options e,
        kept.small,
        is,
      );
    }

-- a maker that took an entity stands for the run with it
pub holds-more : (m : MakerValue) (run : List EntityValue) (e : EntityValue) (weight : ℕ) (taken : Taken)
    (tagged : Bool) → Holds m run → kind_of e.body ≡ m.kind → weight ≡ weight_of e →
    taken ≡ with_taken m.options m.kind m.taken e → tagged ≡ (m.tagged || has_tags e) →
    Holds (with_more m e weight taken tagged) (run ++ e ∷ [])
holds-more m run e weight taken tagged h own is took has = record {
  count = ap (λ n. n + 1) h.count ∙ sym (length_push run e);
  weight = omega (arith, h.weight, is, sum_by_push weight_of run e);
  alike = all-push (λ x. kind_of x.body ≡ m.kind) run e h.alike own;
  taken = took ∙ ap (λ t. with_taken m.options m.kind t e) h.taken ∙ with_taken-of m.options m.kind run e;
  tagged = has ∙ ap (λ b. b || has_tags e) h.tagged ∙ any-push has_tags run e;
}

-- what a maker makes of what it has is the block of the run for which it stands
pub holds-block : (m : MakerValue) (run : List EntityValue) → Holds m run →
    block_of_taken m.options m.kind m.taken m.tagged ≡ block_bytes m.options m.kind run
holds-block m run h =
    ap (λ t. block_of_taken m.options m.kind t m.tagged) h.taken
    ∙ ap (block_of_taken m.options m.kind (taken_of m.options m.kind run)) h.tagged
    ∙ block_of_taken-of m.options m.kind run
