use Rattle.std.proofs.Common.{◌≡◌, ◌∙◌, ℕ, Option, Some, None, ap, refl, subst, sym}
use Rattle.pub_plain.specs.Choosing.{least_from}
use Rattle.pub_plain.specs.Next.{ArePasses, is_needed_in, is_ready_in, numbered_name}
use Rattle.pub_plain.proofs.NextSteps.{first_kind, least_passes, second_kind}
use Rattle.pub_plain.proofs.next.next_number.Goals as goal

pub returns-in-Some : goal.returns-in-Some
returns-in-Some c =
    let names = c.args.names.now in
    let ready = is_ready_in names c.args.opens.now c.args.decided.now in
    first_kind (least_from ready 0 names) (least_from (is_needed_in c.args.opens.now) 0 names) c.in-Some.number _
    (ap (numbered_name names) (sym c.in-Some.is) ∙ c.least.ensures
    ∙ least_passes ready names c.deref.result.now (subst (ArePasses ready names) (sym c.deref.ensures.value) c.in_ok-ready.ensures))

pub returns : goal.returns
returns c =
    let names = c.args.names.now in
    let ready = is_ready_in names c.args.opens.now c.args.decided.now in
    let needed = is_needed_in c.args.opens.now in
    second_kind names (least_from ready 0 names) (least_from needed 0 names) c.least.result c.least-2.result (is_none c.least.result c.in_default.not-Some)
    (c.least.ensures ∙ least_passes ready names c.deref.result.now (subst (ArePasses ready names) (sym c.deref.ensures.value) c.in_ok-ready.ensures))
    (c.least-2.ensures ∙ least_passes needed names c.deref-2.result.now (subst (ArePasses needed names) (sym c.deref-2.ensures.value) c.in_ok-needed.ensures))
  where
    is_none : (found : Option ℕ) → ((number : ℕ) → found ≡ Some number → ⊥) → found ≡ None
    is_none None not = refl
    is_none (Some number) not = absurd (not number refl)
