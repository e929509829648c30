use Rattle.std.proofs.Common.{◌≡◌, ◌∙◌, ◌<◌, ◌+◌, ◌++◌, ◌∷◌, [], length, drop, ap, sym, arith, rules}
use Rattle.std.proofs.lemmas.List.{append-nil}
use Rattle.osm_block_read.specs.Plain.{entry_tags}
use Rattle.osm_block_read.proofs.ListLemmas.{entry_tags-end, entry_tags-more}
use Rattle.osm_block_read.proofs.row.Lists.add_tags.Goals as goal

pub loop-at-preserved : goal.loop-at-preserved
loop-at-preserved c =
    let keys = c.args.keys.now in
    let values = c.args.values.now in
    let at = c.loop-at.at in
    let in_keys : at < length keys = omega (arith, c.loop-at-test.true) in
    let in_values : at < length values = omega (arith, c.loop-at-test.true) in
    let got : c.push.new.self.items ≡ c.loop-at.self.tags.items ++ c.tag_at.result ∷ [] = search rules in
    record {
      added =
          ap (λ items. items ++ entry_tags (drop (at + 1) keys) (drop (at + 1) values))
          (got ∙ ap (λ tag. c.loop-at.self.tags.items ++ tag ∷ []) c.tag_at.ensures)
          ∙ entry_tags-more c.loop-at.self.tags.items keys values at in_keys in_values ∙ c.loop-at.invariant.added;
      refs = c.loop-at.invariant.refs;
      members = c.loop-at.invariant.members;
    }

pub returns-clause-added : goal.returns-clause-added
returns-clause-added c =
    let none = entry_tags-end c.args.keys.now c.args.values.now c.loop-at.at (omega (arith, c.loop-at-test.false)) in
    record {
      joined =
          sym (append-nil c.loop-at.self.tags.items) ∙ ap (λ more. c.loop-at.self.tags.items ++ more) (sym none)
          ∙ c.loop-at.invariant.added;
      start = omega (arith, c.len-start.ensures, c.args.self.now.tags.ok.0);
      end = omega (arith, c.len-end.ensures, c.loop-at.self.tags.ok.0);
    }
