use Rattle.std.proofs.Common.{◌≡◌, ℕ, List, All}
use Rattle.std.specs.List.{list_any}
use Rattle.serde_json.specs.View.{view}
use Rattle.spm_json.proofs.Views.{entry_views}
use Rattle.spm_json.specs.Names.{has_name}
use Rattle.spm_json.specs.Sequence.{members_after, members_of}
use Rattle.spm_trust.specs.File.{is_package, package_member}
use Rattle.spm_trust.specs.Trust.{AreSums}
use Rattle.spm_trust.proofs.file.fingerprints.Given as goal

-- the set has the identities of the packages so far, these have their sums in order, and the members that are left go on behind these packages
abbrev pub invariant-loop-key : goal.invariant-loop-key
invariant-loop-key l = record {
  met : (identity : List ℕ) → has_name l.met identity ≡ list_any (is_package identity) l.packages.items;
  whole : All (λ entry. AreSums entry.sums) l.packages.items;
  rest : members_after package_member l.packages.items (entry_views l.key-iterator) ≡ members_of package_member (view l.value);
}
