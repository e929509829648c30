use Rattle.std.proofs.Common.{◌≡◌, ◌∙◌, ◌++◌, ◌∷◌, [], ℕ, Option, map, arith, refl, rules, subst, sym}
use Rattle.std.proofs.lemmas.List.{length-map}
use Rattle.osm_wire.specs.Integers.{int32}
use Rattle.osm_block_read.specs.DenseTags.{AreNodeTags, IsNodeAdded}
use Rattle.osm_block_read.specs.declared.span.Span.{Span}
use Rattle.osm_block_read.proofs.TagLemmas.{AreNodesAdded, nodes-more, nodes-none}
use Rattle.osm_block_read.proofs.row.Lists.add_dense_tags.Goals as goal

pub loop-at-init : goal.loop-at-init
loop-at-init c = record {
  nodes = nodes-none c.args.self.now.tags.items c.clear.new.self.items
      (map int32 c.args.codes.now) c.clear.ensures.items;
  within = omega arith;
  refs = refl;
  members = refl;
}

pub loop-at-preserved : goal.loop-at-preserved
loop-at-preserved c =
    let indexes = map int32 c.args.codes.now in
    let old = c.args.self.now.tags.items in
    let now = c.loop-at.self.tags in
    let new = c.add_node_tags.new.self.tags in
    let span : Span = record { start = c.len-start.result; end = c.len-end.result } in
    let node : IsNodeAdded now.items new.items indexes c.loop-at.at c.in-Some.next =
    subst (λ (o : Option ℕ). AreNodeTags now.items new.items indexes c.loop-at.at o) c.in-Some.is
    c.in_ok-next.ensures.added in
    let got : c.push.new.self.items ≡ c.loop-at.spans.items ++ span ∷ [] = search rules in
    let more =
    nodes-more old now.items new.items c.loop-at.spans.items span indexes c.loop-at.at c.in-Some.next
    c.loop-at.invariant.nodes node
    (omega (arith, c.len-start.ensures, now.ok.0)) (omega (arith, c.len-end.ensures, new.ok.0)) in
    record {
      nodes = subst (λ spans. AreNodesAdded old new.items spans indexes c.in-Some.next) (sym got) more;
      within = omega (arith, node.within, length-map c.args.codes.now int32);
      refs = c.add_node_tags.ensures.refs ∙ c.loop-at.invariant.refs;
      members = c.add_node_tags.ensures.members ∙ c.loop-at.invariant.members;
    }
