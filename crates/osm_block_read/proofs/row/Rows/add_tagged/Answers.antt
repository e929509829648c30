use Rattle.std.proofs.Common.{◌≡◌, ◌∙◌, ◌++◌, ◌∷◌, [], ℕ, List, ap, length, rules, subst}
use Rattle.std.specs.Prelude.{◌==◌, ◌&&◌}
use Rattle.osm_block_read.specs.Plain.{entry_tags}
use Rattle.osm_block_read.specs.Spans.{IsPartAdded}
use Rattle.osm_block_read.proofs.RowLemmas.{entity-added}
use Rattle.osm_block_read.proofs.row.Rows.add_tagged.Goals as goal

pub returns : goal.returns
returns c =
    let old = c.args.self.now in
    let lists = c.add_tags.new.self in
    let rows = c.push.new.self in
    let keys = c.args.codes.now.keys.items in
    let values = c.args.codes.now.values.items in
    let got : rows.items
    ≡ old.rows.items ++ record {
      even = c.is_even-even.result;
      id = c.args.id;
      info = c.args.info;
      tags = c.in_ok-tags.tags;
      body = c.args.body;
    } ∷ [] = search rules in
    let added =
    subst (λ (v : List ℕ). IsPartAdded old.lists.tags.items lists.tags.items (entry_tags keys v) c.in_ok-tags.tags)
    c.as_slice-values.ensures.value
    (subst
    (λ (k : List ℕ). IsPartAdded old.lists.tags.items lists.tags.items
    (entry_tags k c.as_slice-values.result.now) c.in_ok-tags.tags)
    c.as_slice-keys.ensures.value c.in_ok-tags.ensures.added) in
    let even =
    c.is_even-even.ensures
    ∙ ap (λ (k : List ℕ). c.args.even && (length k == length c.as_slice-values.result.now)) c.as_slice-keys.ensures.value
    ∙ ap (λ (v : List ℕ). c.args.even && (length keys == length v)) c.as_slice-values.ensures.value in
    entity-added old (record { rows = rows; lists = lists }) c.args.id c.args.body c.args.even c.is_even-even.result
    keys values c.args.info c.in_ok-tags.tags c.requires.rows c.requires.body added c.in_ok-tags.ensures.refs
    c.in_ok-tags.ensures.members
    even got
