use Rattle.std.proofs.Common.{◌≡◌, List, Some, sym, ap, ◌∙◌, string_bytes}
use Rattle.serde_json.specs.View.{view, members_view}
use Rattle.story_lines.specs.Attributes.{attribute, attributes}
use Rattle.story_lines.proofs.Gathered.{after, all_done}
use Rattle.story_lines.proofs.AttributeLists.{Entry, next_one, distinct}
use Rattle.story_lines.proofs.attributes.attributes.Goals as goal

pub loop-name-preserved : goal.loop-name-preserved
loop-name-preserved c =
    let name = c.in-Some.name.now in
    let value = c.in-Some.value.now in
    let is : attribute (string_bytes name) (view value) ≡ Some c.in-Some-2.attr = ap (λ n. attribute n (view value)) (sym c.as_str.ensures.value) ∙ sym c.in_ok-attr.ensures ∙ c.in-Some-2.is in
    let one = next_one c.loop-name.attrs.items (string_bytes name) (view value) (members_view c.next.new.self) c.in-Some-2.attr is in
    let first = ap (λ (es : List Entry). after c.loop-name.attrs.items (attributes (members_view es))) c.in-Some.ensures.steps in
    rw c.in_ok-push.ensures.items (sym one ∙ sym first ∙ c.loop-name.invariant)

pub from_vec-requires : goal.from_vec-requires
from_vec-requires c =
    let last = ap (λ (es : List Entry). after c.loop-name.attrs.items (attributes (members_view es))) c.in-None.ensures.steps.0 in
    distinct c.args.members.now.entries c.into_iter-name-iterator.ensures.into_iter_gives.5 c.loop-name.attrs.items (sym c.loop-name.invariant ∙ last ∙ all_done c.loop-name.attrs.items)
