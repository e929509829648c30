use Rattle.std.proofs.Common.{◌-◌, ap, ◌∙◌, subst, length, take, drop}
use Rattle.osm_opl.specs.Unread.{EndsAt, HasNoNewline}
use Rattle.osm_opl.proofs.UnreadLemmas.{cut_back, ends_at, unended}
use Rattle.osm_opl.proofs.unread.Unread.line_length.Goals as goal

pub returns-in-Some-clause-some : goal.returns-in-Some-clause-some
returns-in-Some-clause-some c =
    let u = c.self.inside in
    let line = c.in-Some.line.now in
    let more = c.in-Some.field-0-1.now in
    let bytes = take (u.stop - u.start) (drop u.start c.deref.result.now) in
    subst (λ piece. EndsAt piece (length line))
    (ap (λ xs. take (u.stop - u.start) (drop u.start xs)) c.deref.ensures.value ∙ ap (λ v. v.piece) c.self.view_is)
    (ends_at bytes line more (unended bytes line _ c.in-Some.ensures.some)
    (cut_back bytes line more c.in-Some.ensures.some))

pub returns-in-None-clause-none : goal.returns-in-None-clause-none
returns-in-None-clause-none c =
    let u = c.self.inside in
    let bytes = take (u.stop - u.start) (drop u.start c.deref.result.now) in
    subst HasNoNewline
    (ap (λ xs. take (u.stop - u.start) (drop u.start xs)) c.deref.ensures.value ∙ ap (λ v. v.piece) c.self.view_is)
    (unended bytes bytes _ c.in-None.ensures.none)
