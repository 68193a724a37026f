use Rattle.std.proofs.Common.{◌∙◌, ap, refl, string_bytes, sym}
use Rattle.std.proofs.lemmas.List.Elements.{All-nil, All-push}
use Rattle.serde_json.specs.View.{view}
use Rattle.spm_json.proofs.Views.{entry_views, member_list-members_view}
use Rattle.spm_json.specs.Names.{has_name}
use Rattle.spm_json.specs.Sequence.{members_after}
use Rattle.spm_trust.specs.File.{package_member}
use Rattle.spm_trust.specs.Trust.{AreSums}
use Rattle.spm_trust.proofs.MetLemmas.{members_more, met_more}
use Rattle.spm_trust.proofs.file.fingerprints.Goals as goal

pub loop-key-init : goal.loop-key-init
loop-key-init c = record {
  met = λ identity. rw c.new-packages.ensures.items (c.new-met.ensures identity);
  whole = rw c.new-packages.ensures.items (All-nil (λ entry. AreSums entry.sums));
  rest = rw (c.new-packages.ensures.items, c.into_iter-key-iterator.ensures.into_iter_gives.0, ← c.in-Some.ensures, member_list-members_view c.in-Some.object.now.entries) refl;
}

pub loop-key-preserved : goal.loop-key-preserved
loop-key-preserved c =
    let before = c.loop-key.invariant in
    let packages = c.loop-key.packages.items in
    let is = rw c.as_str.ensures.value at c.in-Ok.ensures.entry in
    record {
      met = λ identity. rw c.in_ok-push-in-Ok.ensures.items (met_more packages c.in-Ok.entry identity _ _ (before.met identity) (c.in-Ok.ensures.met identity));
      whole = rw c.in_ok-push-in-Ok.ensures.items (All-push (λ entry. AreSums entry.sums) packages c.in-Ok.entry before.whole c.in-Ok.ensures.sums);
      rest = rw c.in_ok-push-in-Ok.ensures.items
          (sym (members_more (has_name c.loop-key.met) packages (string_bytes c.in-Some-2.key.now) (view c.in-Some-2.sums.now) c.in-Ok.entry (entry_views c.next.new.self) before.met is)
          ∙ ap (λ entries. members_after package_member packages (entry_views entries)) (sym c.in-Some-2.ensures.steps) ∙ before.rest);
    }
