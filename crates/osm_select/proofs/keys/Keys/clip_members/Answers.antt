use Rattle.std.proofs.Common.{rules}
use Rattle.std.proofs.lemmas.Fn.{filter_same}
use Rattle.osm_select.specs.Kept.{sets_of}
use Rattle.osm_select.specs.Parts.{has_member}
use Rattle.osm_select.proofs.keys.Keys.clip_members.Goals as goal

pub returns : goal.returns
returns c =
    filter_same _ (has_member (sets_of c.args.self.now)) _ (λ x b f' k. search rules) _ _ c.retain.ensures.filtered
