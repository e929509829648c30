use Rattle.std.proofs.Common.{◌≡◌, ℕ, List, cond, leb, length, map, replicate, refl, arith}
use Rattle.std.proofs.lemmas.Simd.{length-chunk, zip2_of_maps, zip2_splat, zip2_splat_left}
use lib.Lanes.{chunk, zip2}
use Rattle.osm_opl_line.proofs.BytesLemmas.{plain-from_mask}
use Rattle.osm_opl_line.proofs.cutting.is_plain_at.Goals as goal

-- the lanes that are no ASCII, one by one
high : (v : List ℕ) (n : ℕ) → length v ≡ n →
    zip2 {C = ℕ} (λ a b. cond (leb a b) 255 0) (replicate n 128) v ≡ map (λ x. cond (leb 128 x) 255 0) v
high v n long = zip2_splat_left _ 128 n v long

pub returns : goal.returns
returns c none =
    let v = chunk c.args.at 16 c.args.line.now in
    let long = length-chunk c.args.at 16 c.args.line.now c.requires in
    plain-from_mask c.args.line.now c.args.at 16 _ _ c.requires (omega arith) c.type_inv.line
    (zip2_of_maps _ _ _ v (zip2_of_maps _ _ _ v (zip2_splat _ v 16 32 long) (zip2_splat _ v 16 9 long))
    (high v 16 long)) refl none
