-- A summary's lines, appended one by one; and that it comes at once.
use Rattle.std.proofs.Common.{◌≡◌, ◌++◌, [], List, ℕ, refl, sym, append-nil}
use Rattle.std.specs.Prelude.{codes}
use Rattle.osm_entity.specs.Prefixes.{IsPrefix}
use Rattle.osm_entity.specs.Streams.{Stream, IsBefore}
use Rattle.osm_entity.specs.declared.stream.End.{End}
use Rattle.osm_entity.specs.declared.stream.End.TheVariants.{Done, Broken}
use Rattle.osm_made.specs.Summaries.{Summed, summary_line, summary_lines, summary_text}

-- a summary comes at once, by the end of the stream that is before
at-once : (s t : Stream) (end : End) → s.end ≡ end → IsBefore s t → IsPrefix (summary_text s) (summary_text t)
at-once s t Broken is before = record { rest = summary_text t; joined = rw is refl }
at-once s t Done is before = record { rest = []; joined = rw (before.done is) (sym (append-nil _)) }

-- of a stream that is before another the summary is a prefix of the other's
pub summary_text-before : (s t : Stream) → IsBefore s t → IsPrefix (summary_text s) (summary_text t)
summary_text-before s t before = at-once s t s.end refl before

-- seven lines, appended one after another to nothing
pub summary_lines-appended : (s : Summed) (a b c d e f g : ℕ) (none t u v w x y z : List ℕ)
    → record { nodes = a; ways = b; relations = c; tags = d; refs = e; members = f; weight = g } ≡ s → none ≡ []
    → t ≡ none ++ summary_line (codes "nodes") a → u ≡ t ++ summary_line (codes "ways") b
    → v ≡ u ++ summary_line (codes "relations") c → w ≡ v ++ summary_line (codes "tags") d
    → x ≡ w ++ summary_line (codes "refs") e → y ≡ x ++ summary_line (codes "members") f
    → z ≡ y ++ summary_line (codes "weight") g → z ≡ summary_lines s
unfolding summary_lines
summary_lines-appended s a b c d e f g none t u v w x y z seen is_none is_t is_u is_v is_w is_x is_y is_z =
    rw (is_z, is_y, is_x, is_w, is_v, is_u, is_t, is_none, ← seen) refl
