use Rattle.std.proofs.Common.{rules}
use Rattle.std.proofs.lemmas.Fn.{filter_same}
use Rattle.osm_select.specs.IdSets.{among}
use Rattle.osm_select.proofs.keys.Keys.clip_refs.Goals as goal

pub returns : goal.returns
returns c = filter_same _ (among c.args.self.now.nodes) _ (λ x b f' k. search rules) _ _ c.retain.ensures.filtered
