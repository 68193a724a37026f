use Rattle.std.proofs.Common.{◌≤◌, length, subst, sym}
use Rattle.pub_facts.proofs.KnownLemmas.{short_list}
use Rattle.pub_plain.proofs.next.next_package.Goals as goal

pub preferred-requires : goal.preferred-requires
preferred-requires c =
    subst (λ list. length list ≤ 4096) (sym c.list_of-list.ensures) (short_list c.args.told.now.known.lists c.args.identity.now c.requires.short)
