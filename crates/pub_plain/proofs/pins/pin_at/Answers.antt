use Rattle.std.proofs.Common.{rules, ◌∙◌, ap, option_map, sym}
use Rattle.std.specs.Option.{option_copied}
use Rattle.pub_plain.proofs.PinnedLemmas.{pair_is, pin_is}
use Rattle.pub_plain.proofs.pins.pin_at.Goals as goal

pub returns-in-None : goal.returns-in-None
returns-in-None c = λ state names are.
    ap (λ found. option_map (λ release. (c.in-Package.identity, release)) (option_copied found)) (sym c.in-None.is)
    ∙ pin_is c.args.told.now state c.args.node.now c.in-Package.identity c.args.decided.now c.number_of-number.result c.in-Some-Some.choice
    (option_copied c.release_at.result) c.in-Package.is names are (search rules) (search rules) (search rules)

pub returns-in_ok-copy-in-Some-2 : goal.returns-in_ok-copy-in-Some-2
returns-in_ok-copy-in-Some-2 c = λ state names are.
    pair_is c.in_ok-copy-in-Some.field-0 c.in-Package.identity c.in_ok-copy-in-Some-2.field-0 c.in-Some.release.now c.in_ok-copy-in-Some.ensures
    c.in_ok-copy-in-Some-2.ensures
    ∙ ap (λ found. option_map (λ release. (c.in-Package.identity, release)) (option_copied found)) (sym c.in-Some.is)
    ∙ pin_is c.args.told.now state c.args.node.now c.in-Package.identity c.args.decided.now c.number_of-number.result c.in-Some-Some.choice
    (option_copied c.release_at.result) c.in-Package.is names are (search rules) (search rules) (search rules)
