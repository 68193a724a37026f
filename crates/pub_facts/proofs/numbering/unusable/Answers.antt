use Rattle.std.proofs.Common.{◌≡◌, ◌∷◌, [], IfOk, Some, ap, ◌∙◌, subst, sym}
use Rattle.pub_term.specs.declared.cause.Cause.{Cause}
use Rattle.pub_term.specs.declared.term.Incompat.{Incompat}
use Rattle.pub_facts.specs.Facts.{only}
use Rattle.pub_facts.specs.Known.{lookups_of}
use Rattle.pub_facts.specs.Numbered.{number_in, term_of}
use Rattle.pub_facts.proofs.UnusableLemmas.{unusable_at}
use Rattle.pub_facts.proofs.numbering.unusable.Goals as goal

pub returns : goal.returns
returns c =
    unusable_at (lookups_of c.args.known.now) (number_in c.args.known.now.nodes) c.args.place.now.node c.requires.package.0 c.args.place.now.choice c.args.cause
    c.in_ok-fact.fact.0.terms c.requires.package.1 c.requires.there
    (subst
    (λ found. IfOk found (λ (incompat : Incompat). incompat.terms
    ≡ term_of (number_in c.args.known.now.nodes) (only (lookups_of c.args.known.now) c.args.place.now.node c.args.place.now.choice) ∷ []))
    c.in_ok-fact.ensures.0 c.only.ensures)
    ∙ ap (λ (cause : Cause). Some (c.in_ok-fact.fact.0, cause)) (sym c.in_ok-fact.ensures.1)
